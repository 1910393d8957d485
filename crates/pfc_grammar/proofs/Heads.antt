-- What a symbol is that was taken.
use Rattle.std.proofs.Common.{◌≡◌, ℕ, ℤ, pos, negsuc, List, [], ◌∷◌, Bool, true, false, Option, Some, None, nat_eq, refl, sym, ap, subst, arith}
use Rattle.std.proofs.lemmas.Bool.{eqb-true}
use Rattle.std.proofs.lemmas.Int.{ints}
use Rattle.pfc_base.specs.declared.tokens.Kind.TheVariants.{Word, Sign, Name, Number, Literal}
use Rattle.pfc_base.specs.declared.word.TheConstants.{AND, DIV, DOWNTO, MOD, OR, TO}
use Rattle.pfc_base.specs.declared.sign.TheConstants.{PLUS, MINUS, STAR, EQUAL, NOT_EQUAL, LESS, LESS_EQUAL, GREATER, GREATER_EQUAL, OPEN_BRACKET, DOT}
use Rattle.pfc_tree.specs.declared.tree.Sign as plus_or_minus
use Rattle.pfc_tree.specs.declared.tree.Sign.TheVariants.{Plus, Minus}
use Rattle.pfc_tree.specs.declared.tree.Relation.{Relation}
use Rattle.pfc_tree.specs.declared.tree.Relation.TheVariants.{Eq, Ne, Lt, Le, Gt, Ge}
use Rattle.pfc_tree.specs.declared.tree.AddOp.{AddOp}
use Rattle.pfc_tree.specs.declared.tree.AddOp.TheVariants.{Add, Sub, Or}
use Rattle.pfc_tree.specs.declared.tree.MulOp.{MulOp}
use Rattle.pfc_tree.specs.declared.tree.MulOp.TheVariants.{Mul, Div, Mod, And}
use Rattle.pfc_tree.specs.Symbols.{Symbol, Text}
use Rattle.pfc_tree.specs.lawful.Exprs.{IsWritten}
use Rattle.pfc_tree.specs.lawful.Parts.{Home, of_program, of_resource, of_other}
use Rattle.pfc_tree.specs.tokens.Exprs.{sign_symbol, relation_symbol, add_symbol, mul_symbol}
use Rattle.pfc_tree.specs.tokens.Stmts.{direction_symbol}
use Rattle.pfc_grammar.specs.Reading.{Reader, bind, branch, take_as}
use Rattle.pfc_grammar.specs.Heads.{if_equal, as_word, as_sign, as_name, as_number, as_literal, as_plus_minus, as_relation, as_add_op, as_mul_op, as_selector}
use Rattle.pfc_grammar.specs.Heads.{as_direction, as_word_of_resource, as_word_of_program, takes, is_word}
use Rattle.pfc_grammar.proofs.Lists.{none, or_taken}
use Rattle.pfc_grammar.proofs.Sound.{Sound, here, sound_branch, sound_bind, sound_pure, sound_stop}

-- a test of a number that was passed: P holds where it does of the number that was asked for, and of what is said otherwise
pub equal_or : {O : Type 0} (P : ℕ → O → Type 0) (n w : ℕ) (x : O) (other : Option O) → P w x → ((o : O) → other ≡ Some o → P n o) →
    (o : O) → if_equal n w x other ≡ Some o → P n o
equal_or {O = O} P n w x other h k o = at (nat_eq n w) refl
  where
    at : (b : Bool) → nat_eq n w ≡ b → (elim b as (λ z. Option O) [ true ↦ Some x | false ↦ other ]) ≡ Some o → P n o
    at true e q = let same : x ≡ o = cc in subst (λ z. P n z) same (subst (λ z. P z x) (sym (eqb-true n w e)) h)
    at false e q = k o q

nothing : {O : Type 0} {P : Type 0} (o : O) → None ≡ Some o → P
nothing o e = cc

pub word_is : (w : ℕ) (s : Symbol) (o : Unit {0}) → as_word w s ≡ Some o → s ≡ Word w
word_is w (Word n) o e = equal_or (λ m u. Word m ≡ Word w) n w tt None refl (λ u q. nothing u q) o e
word_is w (Sign n) o e = nothing o e
word_is w (Name x) o e = nothing o e
word_is w (Number n) o e = nothing o e
word_is w (Literal x) o e = nothing o e

pub sign_is : (w : ℕ) (s : Symbol) (o : Unit {0}) → as_sign w s ≡ Some o → s ≡ Sign w
sign_is w (Word n) o e = nothing o e
sign_is w (Sign n) o e = equal_or (λ m u. Sign m ≡ Sign w) n w tt None refl (λ u q. nothing u q) o e
sign_is w (Name x) o e = nothing o e
sign_is w (Number n) o e = nothing o e
sign_is w (Literal x) o e = nothing o e

pub name_is : (s : Symbol) (o : Text) → as_name s ≡ Some o → s ≡ Name o
name_is (Word n) o e = nothing o e
name_is (Sign n) o e = nothing o e
name_is (Name x) o e = let same : x ≡ o = cc in ap Name same
name_is (Number n) o e = nothing o e
name_is (Literal x) o e = nothing o e

pub literal_is : (s : Symbol) (o : Text) → as_literal s ≡ Some o → s ≡ Literal o
literal_is (Word n) o e = nothing o e
literal_is (Sign n) o e = nothing o e
literal_is (Name x) o e = nothing o e
literal_is (Number n) o e = nothing o e
literal_is (Literal x) o e = let same : x ≡ o = cc in ap Literal same

written_pos : (n : ℕ) → IsWritten (pos n)
written_pos n = omega (arith, ints)

pub number_is : (s : Symbol) (o : ℤ) → as_number s ≡ Some o → (s ≡ Number o) × IsWritten o
number_is (Word n) o e = nothing o e
number_is (Sign n) o e = nothing o e
number_is (Name x) o e = nothing o e
number_is (Number (pos n)) o e = let same : pos n ≡ o = cc in (ap Number same, subst IsWritten same (written_pos n))
number_is (Number (negsuc n)) o e = nothing o e
number_is (Literal x) o e = nothing o e

pub plus_minus_is : (s : Symbol) (o : plus_or_minus.Sign) → as_plus_minus s ≡ Some o → s ≡ sign_symbol o
plus_minus_is (Word n) o e = nothing o e
plus_minus_is (Sign n) o e =
    equal_or (λ m u. Sign m ≡ sign_symbol u) n PLUS Plus _ refl (equal_or (λ m u. Sign m ≡ sign_symbol u) n MINUS Minus None refl (λ u q. nothing u q)) o e
plus_minus_is (Name x) o e = nothing o e
plus_minus_is (Number n) o e = nothing o e
plus_minus_is (Literal x) o e = nothing o e

pub relation_is : (s : Symbol) (o : Relation) → as_relation s ≡ Some o → s ≡ relation_symbol o
relation_is (Word n) o e = nothing o e
relation_is (Sign n) o e =
    equal_or (λ m u. Sign m ≡ relation_symbol u) n EQUAL Eq _ refl (equal_or (λ m u. Sign m ≡ relation_symbol u) n NOT_EQUAL Ne _ refl
    (equal_or (λ m u. Sign m ≡ relation_symbol u) n LESS Lt _ refl
    (equal_or (λ m u. Sign m ≡ relation_symbol u) n LESS_EQUAL Le _ refl (equal_or (λ m u. Sign m ≡ relation_symbol u) n GREATER Gt _ refl
    (equal_or (λ m u. Sign m ≡ relation_symbol u) n GREATER_EQUAL Ge None refl (λ u q. nothing u q)))))) o e
relation_is (Name x) o e = nothing o e
relation_is (Number n) o e = nothing o e
relation_is (Literal x) o e = nothing o e

pub add_op_is : (s : Symbol) (o : AddOp) → as_add_op s ≡ Some o → s ≡ add_symbol o
add_op_is (Word n) o e = equal_or (λ m u. Word m ≡ add_symbol u) n OR Or None refl (λ u q. nothing u q) o e
add_op_is (Sign n) o e =
    equal_or (λ m u. Sign m ≡ add_symbol u) n PLUS Add _ refl (equal_or (λ m u. Sign m ≡ add_symbol u) n MINUS Sub None refl (λ u q. nothing u q)) o e
add_op_is (Name x) o e = nothing o e
add_op_is (Number n) o e = nothing o e
add_op_is (Literal x) o e = nothing o e

pub mul_op_is : (s : Symbol) (o : MulOp) → as_mul_op s ≡ Some o → s ≡ mul_symbol o
mul_op_is (Word n) o e = equal_or (λ m u. Word m ≡ mul_symbol u) n DIV Div _ refl (equal_or (λ m u. Word m ≡ mul_symbol u) n MOD Mod _ refl
    (equal_or (λ m u. Word m ≡ mul_symbol u) n AND And None refl (λ u q. nothing u q))) o e
mul_op_is (Sign n) o e = equal_or (λ m u. Sign m ≡ mul_symbol u) n STAR Mul None refl (λ u q. nothing u q) o e
mul_op_is (Name x) o e = nothing o e
mul_op_is (Number n) o e = nothing o e
mul_op_is (Literal x) o e = nothing o e

-- `[` is true, and `.` is false
abbrev pub selector_symbol : Bool → Symbol
selector_symbol true = Sign OPEN_BRACKET
selector_symbol false = Sign DOT

pub selector_is : (s : Symbol) (o : Bool) → as_selector s ≡ Some o → s ≡ selector_symbol o
selector_is (Word n) o e = nothing o e
selector_is (Sign n) o e = equal_or (λ m u. Sign m ≡ selector_symbol u) n OPEN_BRACKET true _ refl
    (equal_or (λ m u. Sign m ≡ selector_symbol u) n DOT false None refl (λ u q. nothing u q)) o e
selector_is (Name x) o e = nothing o e
selector_is (Number n) o e = nothing o e
selector_is (Literal x) o e = nothing o e

pub direction_is : (s : Symbol) (o : Bool) → as_direction s ≡ Some o → s ≡ direction_symbol o
direction_is (Word n) o e =
    equal_or (λ m u. Word m ≡ direction_symbol u) n TO false _ refl
    (equal_or (λ m u. Word m ≡ direction_symbol u) n DOWNTO true None refl (λ u q. nothing u q)) o e
direction_is (Sign n) o e = nothing o e
direction_is (Name x) o e = nothing o e
direction_is (Number n) o e = nothing o e
direction_is (Literal x) o e = nothing o e

pub word_of_resource_is : (h : Home) (w : ℕ) (s : Symbol) (o : Unit {0}) → as_word_of_resource h w s ≡ Some o → (h ≡ of_resource) × (s ≡ Word w)
word_of_resource_is of_program w s o e = nothing o e
word_of_resource_is of_resource w s o e = (refl, word_is w s o e)
word_of_resource_is of_other w s o e = nothing o e

pub word_of_program_is : (h : Home) (w : ℕ) (s : Symbol) (o : Unit {0}) → as_word_of_program h w s ≡ Some o → (h ≡ of_program) × (s ≡ Word w)
word_of_program_is of_program w s o e = (refl, word_is w s o e)
word_of_program_is of_resource w s o e = nothing o e
word_of_program_is of_other w s o e = nothing o e

-- a test that is passed was of something
pub taken : {O : Type 0} (c : Option O) → takes c ≡ true → (o : O) × (c ≡ Some o)
taken (Some o) e = (o, refl)
taken None e = absurd (let e' : false ≡ true = e in cc)

pub word_was : (w : ℕ) (s : Symbol) → is_word w s ≡ true → s ≡ Word w
word_was w s e = word_is w s tt (taken (as_word w s) e).1

-- Soundness where one symbol decides: m says what symbol a value stands for.
pub sound_on : {O B : Type 0} {T : B → List Symbol} {L : B → Type 0} {X : B → Symbol → Bool} {t : Symbol → Bool} {F : List Symbol → List Symbol} {f : Symbol →
    Option O} {g : O → Reader B} {r : Reader B} (m : O → Symbol) →
    ((s : Symbol) (o : O) → f s ≡ Some o → s ≡ m o) → ((o : O) → t (m o) ≡ false → Sound T L X none (λ k. F (m o ∷ k)) (g o)) →
    Sound T L X (or_taken f t) F r → Sound T L X t F (branch f g r)
sound_on {T = T} {L = L} {X = X} {t = t} {F = F} {g = g} m is h other =
    sound_branch (λ s o n e. subst (λ z. Sound T L X none (λ k. F (z ∷ k)) (g o)) (sym (is s o e)) (h o (subst (λ z. t z ≡ false) (is s o e) n))) other

pub sound_symbol : {O : Type 0} {f : Symbol → Option O} (m : O → Symbol) → ((s : Symbol) (o : O) → f s ≡ Some o → s ≡ m o) → O →
    Sound (λ o. m o ∷ []) (λ o. Unit {0}) (λ o. none) none here (take_as f)
unfolding take_as
sound_symbol m is o₀ = sound_on m is (λ o n. sound_pure o refl tt (λ s e. e)) (sound_stop (record { whole = o₀; more = m o₀ ∷ []; lawful = tt; writes = refl }))

-- one symbol, and then the rest
pub sound_next : {O B : Type 0} {T : B → List Symbol} {L : B → Type 0} {X : B → Symbol → Bool} {t : Symbol → Bool} {F : List Symbol → List Symbol} {f : Symbol →
    Option O} {g : O → Reader B} (m : O → Symbol) →
    ((s : Symbol) (o : O) → f s ≡ Some o → s ≡ m o) → O → ((o : O) → Sound T L X none (λ k. F (m o ∷ k)) (g o)) → Sound T L X t F (bind (take_as f) g)
sound_next m is o₀ h = sound_bind (sound_symbol m is o₀) (λ o l. h o)

-- a word or a sign that has to stand there
pub sound_word : {B : Type 0} {T : B → List Symbol} {L : B → Type 0} {X : B → Symbol → Bool} {t : Symbol → Bool} {F : List Symbol →
    List Symbol} {g : Unit {0} → Reader B} (w : ℕ) →
    ((u : Unit {0}) → Sound T L X none (λ k. F (Word w ∷ k)) (g u)) → Sound T L X t F (bind (take_as (as_word w)) g)
sound_word w h = sound_next (λ o. Word w) (word_is w) tt h

pub sound_sign : {B : Type 0} {T : B → List Symbol} {L : B → Type 0} {X : B → Symbol → Bool} {t : Symbol → Bool} {F : List Symbol →
    List Symbol} {g : Unit {0} → Reader B} (w : ℕ) →
    ((u : Unit {0}) → Sound T L X none (λ k. F (Sign w ∷ k)) (g u)) → Sound T L X t F (bind (take_as (as_sign w)) g)
sound_sign w h = sound_next (λ o. Sign w) (sign_is w) tt h

pub sound_name : {B : Type 0} {T : B → List Symbol} {L : B → Type 0} {X : B → Symbol → Bool} {t : Symbol →
    Bool} {F : List Symbol → List Symbol} {g : Text → Reader B} →
    ((x : Text) → Sound T L X none (λ k. F (Name x ∷ k)) (g x)) → Sound T L X t F (bind (take_as as_name) g)
sound_name h = sound_next Name name_is [] h

-- a word or a sign that may stand there
pub sound_on_word : {B : Type 0} {T : B → List Symbol} {L : B → Type 0} {X : B → Symbol → Bool} {t : Symbol → Bool} {F : List Symbol →
    List Symbol} {g : Unit {0} → Reader B} {r : Reader B} (w : ℕ) →
    ((u : Unit {0}) → t (Word w) ≡ false → Sound T L X none (λ k. F (Word w ∷ k)) (g u)) → Sound T L X (or_taken (as_word w) t) F r →
    Sound T L X t F (branch (as_word w) g r)
sound_on_word w h other = sound_on (λ o. Word w) (word_is w) h other

pub sound_on_sign : {B : Type 0} {T : B → List Symbol} {L : B → Type 0} {X : B → Symbol → Bool} {t : Symbol → Bool} {F : List Symbol →
    List Symbol} {g : Unit {0} → Reader B} {r : Reader B} (w : ℕ) →
    ((u : Unit {0}) → t (Sign w) ≡ false → Sound T L X none (λ k. F (Sign w ∷ k)) (g u)) → Sound T L X (or_taken (as_sign w) t) F r →
    Sound T L X t F (branch (as_sign w) g r)
sound_on_sign w h other = sound_on (λ o. Sign w) (sign_is w) h other
