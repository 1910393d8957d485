-- How many operands the code of an expression takes and leaves: none, and the cells of its value. That of arguments leaves the cells of the
-- parameters, and that of selectors leaves one address for another.
use Rattle.std.proofs.Common.{◌≡◌, ℕ, ◌+◌, Bool, true, false, if◌then◌else◌, List, [], ◌∷◌, Option, Some, None, refl, sym, ap, ◌∙◌, subst, arith}
use Rattle.std.proofs.lemmas.List.Sums.{sum_by-cons}
use Rattle.pfc_base.specs.declared.places.Place.{Place}
use Rattle.pfc_code.specs.declared.instructions.Instr.{Instr}
use Rattle.pfc_code.specs.declared.instructions.Instr.TheVariants.{LIT, ADDR, REF, FLD, LOAD, OBJ, NEG, ABS, SQR, ODD, CHR, SUCC, PRED, NOT, EMPTY, CLOCK, RAND}
use Rattle.pfc_code.specs.declared.instructions.Instr.TheVariants.{EOF, EOLN}
use Rattle.pfc_tree.specs.declared.tree.Sign.{Sign}
use Rattle.pfc_tree.specs.declared.tree.Sign.TheVariants.{Plus, Minus}
use Rattle.pfc_tree.specs.declared.tree.Relation.{Relation}
use Rattle.pfc_tree.specs.declared.tree.Relation.TheVariants.{Eq, Ne, Lt, Le, Gt, Ge}
use Rattle.pfc_tree.specs.declared.tree.AddOp.{AddOp}
use Rattle.pfc_tree.specs.declared.tree.AddOp.TheVariants.{Add, Sub, Or}
use Rattle.pfc_tree.specs.declared.tree.MulOp.{MulOp}
use Rattle.pfc_tree.specs.declared.tree.MulOp.TheVariants.{Mul, Div, Mod, And}
use Rattle.pfc_tree.specs.trees.Exprs.{ExprTree, SimpleTree, SummandTrees, TermTree, MultiplierTrees, FactorTree, DesigTree, SelectorTrees, ExprTrees}
use Rattle.pfc_tree.specs.trees.Exprs.{ActualTree, ActualTrees, plain, related, sum, no_summands, more_summands, product, no_multipliers, more_multipliers}
use Rattle.pfc_tree.specs.trees.Exprs.{number, literal, negation, paren, applied as used, desig, index, field, no_selectors, more_selectors, no_exprs}
use Rattle.pfc_tree.specs.trees.Exprs.{more_exprs, actual, actual_width, no_actuals, more_actuals}
use Rattle.pfc_types.specs.Types.{Forms, condition, is_simple, cells_in}
use Rattle.pfc_types.specs.Scopes.{meaning_of}
use Rattle.pfc_types.specs.Blocks.{sub_at}
use Rattle.pfc_types.specs.rules.Expressions.{find, first_type, field_type, selected}
use Rattle.pfc_types.specs.declared.types.TypeId.{TypeId}
use Rattle.pfc_types.specs.declared.types.TypeForm.{TypeForm}
use Rattle.pfc_types.specs.declared.types.TypeForm.TheVariants.{Channel, Array, Record, Process as AProcess}
use Rattle.pfc_types.specs.declared.scope.Meaning.{Meaning}
use Rattle.pfc_types.specs.declared.scope.Meaning.TheVariants.{Constant, Named, Variable, Sub as ASub, Module, Process, Entry, Predeclared, Faulty}
use Rattle.pfc_types.specs.declared.heads.Formal.{Formal}
use Rattle.pfc_semantics.specs.Displays.{Spot, TypedSpot}
use Rattle.pfc_semantics.specs.Operators.{simple_of}
use Rattle.pfc_semantics.specs.Predeclared.{Function, abs, sqr, odd, ord, chr, succ, pred, eof, eoln, empty, clock, random, no_function, function_of}
use Rattle.pfc_semantics.specs.Programs.{Program}
use Rattle.pfc_semantics.specs.Expressions.{char_in, form_in, spot_of}
use Rattle.pfc_translation.specs.Sites.{Site, forms_of, blocks_of, type_cells, links_to, cell_of, refers}
use Rattle.pfc_translation.specs.Codes.{Code, nothing, ◌⨾◌, one}
use Rattle.pfc_translation.specs.Addresses.{base_code, element_in, type_behind, index_instr, field_cell}
use Rattle.pfc_translation.specs.Expressions.{relation_instr, add_instr, multiply_instr, sign_code, simple_number, function_code, call_instr, name_code}
use Rattle.pfc_translation.specs.Expressions.{expr_code, simple_code, summands_code, term_code, multipliers_code, factor_code, first_value, first_address}
use Rattle.pfc_translation.specs.Expressions.{actual_code, lent_code, variable_code, args_code, selectors_code, indices_code, desig_code}
use Rattle.pfc_translation.specs.Calls.{formal_cells, formals_cells}
use Rattle.pfc_translation.specs.Operands.{takes, leaves}
use Rattle.pfc_standing_code.specs.Shapes.{Shape, a_number, a_whole, shape_of, shape_cells, IsSound}
use Rattle.pfc_standing_code.specs.ValueTypes.{IsValueType}
use Rattle.pfc_standing_code.specs.Typed.{IsDeclared, Either, IsPassed, IsFunction, IsUse, HasShape, HasShapeSimple, AreSummands, HasShapeTerm, AreMultipliers}
use Rattle.pfc_standing_code.specs.Typed.{HasShapeFactor, IsGivenFirst, IsLentFirst, IsGiven, IsLent, IsVariable, AreArguments, AreSelectors, AreIndices}
use Rattle.pfc_standing_code.specs.Typed.{IsDesig}
use Rattle.pfc_following_expressions.proofs.Glue.{held_after, Changes, changes_both, changes_over}

-- ## Instructions

pub changes_one : (p : Program) (s : Site) (i : Instr) (a b : ℕ) → takes p i ≡ a → leaves p i ≡ b → Changes p (one s i) a b
changes_one p s i a b t l at n held = omega (arith, t, l)

pub changes_nothing : (p : Program) (a : ℕ) → Changes p nothing a a
changes_nothing p a at n held = refl

-- over so many operands more
pub changes_as : (p : Program) (c : Code) (i j k a b : ℕ) → Changes p c i j → a ≡ i + k → b ≡ j + k → Changes p c a b
changes_as p c i j k a b h e f =
    subst (λ (x : ℕ). Changes p c x b) (sym e) (subst (λ (x : ℕ). Changes p c (i + k) x) (sym f) (changes_over p c i j k h))

-- what is held behind code that takes nothing
pub held_grown : (p : Program) (c : Code) (w : ℕ) → Changes p c 0 w → (at n held : ℕ) → held_after p held (c.put at n) ≡ w + held
held_grown p c w h at n held = let e : held ≡ 0 + held = omega arith in ap (λ (k : ℕ). held_after p k (c.put at n)) e ∙ h at n held

pub add_changes : (p : Program) (s : Site) (op : AddOp) → Changes p (one s (add_instr op)) 2 1
add_changes p s Add = changes_one p s (add_instr Add) 2 1 refl refl
add_changes p s Sub = changes_one p s (add_instr Sub) 2 1 refl refl
add_changes p s Or = changes_one p s (add_instr Or) 2 1 refl refl

pub multiply_changes : (p : Program) (s : Site) (op : MulOp) → Changes p (one s (multiply_instr op)) 2 1
multiply_changes p s Mul = changes_one p s (multiply_instr Mul) 2 1 refl refl
multiply_changes p s Div = changes_one p s (multiply_instr Div) 2 1 refl refl
multiply_changes p s Mod = changes_one p s (multiply_instr Mod) 2 1 refl refl
multiply_changes p s And = changes_one p s (multiply_instr And) 2 1 refl refl

pub relation_changes : (p : Program) (s : Site) (r : Relation) → Changes p (one s (relation_instr r)) 2 1
relation_changes p s Eq = changes_one p s (relation_instr Eq) 2 1 refl refl
relation_changes p s Ne = changes_one p s (relation_instr Ne) 2 1 refl refl
relation_changes p s Lt = changes_one p s (relation_instr Lt) 2 1 refl refl
relation_changes p s Le = changes_one p s (relation_instr Le) 2 1 refl refl
relation_changes p s Gt = changes_one p s (relation_instr Gt) 2 1 refl refl
relation_changes p s Ge = changes_one p s (relation_instr Ge) 2 1 refl refl

pub sign_changes : (p : Program) (s : Site) (sign : Option (Sign × Place)) → Changes p (sign_code s sign) 1 1
sign_changes p s None = changes_nothing p 1
sign_changes p s (Some (Plus, q)) = changes_nothing p 1
sign_changes p s (Some (Minus, q)) = changes_one p s NEG 1 1 refl refl

pub index_changes : (p : Program) (s : Site) (forms : Forms) (form : Option TypeForm) → Changes p (one s (index_instr forms form)) 2 1
index_changes p s forms None = changes_one p s (index_instr forms None) 2 1 refl refl
index_changes p s forms (Some (Channel t)) = changes_one p s (index_instr forms (Some (Channel t))) 2 1 refl refl
index_changes p s forms (Some (Array over low high element)) = changes_one p s (index_instr forms (Some (Array over low high element))) 2 1 refl refl
index_changes p s forms (Some (Record fields)) = changes_one p s (index_instr forms (Some (Record fields))) 2 1 refl refl
index_changes p s forms (Some (AProcess n)) = changes_one p s (index_instr forms (Some (AProcess n))) 2 1 refl refl

pub base_changes : (p : Program) (s : Site) (v : Spot) → Changes p (base_code s v) 0 1
base_changes p s v = by (refers s v)
  where
    by : (r : Bool) → Changes p (one s (if r then REF (links_to s v.scope) (cell_of s v) else ADDR (links_to s v.scope) (cell_of s v))) 0 1
    by true = changes_one p s (REF (links_to s v.scope) (cell_of s v)) 0 1 refl refl
    by false = changes_one p s (ADDR (links_to s v.scope) (cell_of s v)) 0 1 refl refl

-- a value takes the cells of its type
pub shaped_cells : (forms : Forms) → IsSound forms → (t : TypeId) → shape_cells forms (shape_of t) ≡ cells_in forms t
shaped_cells forms sound t = by (is_simple t) refl
  where
    by : (b : Bool) → is_simple t ≡ b → shape_cells forms (if b then a_number else a_whole t) ≡ cells_in forms t
    by true e = sym (sound.simple_cells t e)
    by false e = refl

module _ (s : Site) (sound : IsSound (forms_of s)) where
  abbrev p : Program
  p = s.program

  -- code that leaves a value, and an instruction that takes it for another
  then_one : (c : Code) (i : Instr) (a b : ℕ) → Changes s.program c 0 a → takes s.program i ≡ a → leaves s.program i ≡ b → Changes s.program (c ⨾ one s i) 0 b
  then_one c i a b h t l = changes_both s.program c (one s i) 0 a b h (changes_one s.program s i a b t l)

  -- a predeclared function
  function_changes :
      (f : Function) (t : Option TypeId) (h : Shape) (value address : Code) (V A : Type 0) → IsFunction f h V A
      → (V → Changes s.program value 0 1) → (A → Changes s.program address 0 1) →
      Changes s.program (function_code s f t value address) 0 (shape_cells (forms_of s) h)
  function_changes f t h value address V A is v a = by f is
    where
      number_of : (e : h ≡ a_number) (c : Code) → Changes s.program c 0 1 → Changes s.program c 0 (shape_cells (forms_of s) h)
      number_of e c k = subst (λ (x : Shape). Changes s.program c 0 (shape_cells (forms_of s) x)) (sym e) k

      by : (f : Function) → IsFunction f h V A → Changes s.program (function_code s f t value address) 0 (shape_cells (forms_of s) h)
      by abs is = number_of is.0 (value ⨾ one s ABS) (then_one value ABS 1 1 (v is.1) refl refl)
      by sqr is = number_of is.0 (value ⨾ one s SQR) (then_one value SQR 1 1 (v is.1) refl refl)
      by odd is = number_of is.0 (value ⨾ one s ODD) (then_one value ODD 1 1 (v is.1) refl refl)
      by ord is = number_of is.0 value (v is.1)
      by chr is = number_of is.0 (value ⨾ one s CHR) (then_one value CHR 1 1 (v is.1) refl refl)
      by succ is = number_of is.0 (value ⨾ one s (SUCC (simple_number (simple_of t))))
          (then_one value (SUCC (simple_number (simple_of t))) 1 1 (v is.1) refl refl)
      by pred is = number_of is.0 (value ⨾ one s (PRED (simple_number (simple_of t))))
          (then_one value (PRED (simple_number (simple_of t))) 1 1 (v is.1) refl refl)
      by eof is = number_of is (one s EOF) (changes_one s.program s EOF 0 1 refl refl)
      by eoln is = number_of is (one s EOLN) (changes_one s.program s EOLN 0 1 refl refl)
      by empty is =
          number_of is.0 (address ⨾ one s OBJ ⨾ one s EMPTY)
          (changes_both s.program address (one s OBJ ⨾ one s EMPTY) 0 1 1 (a is.1) (changes_both s.program (one s OBJ) (one s EMPTY) 1 1 1
          (changes_one s.program s OBJ 1 1 refl refl) (changes_one s.program s EMPTY 1 1 refl refl)))
      by clock is = number_of is (one s CLOCK) (changes_one s.program s CLOCK 0 1 refl refl)
      by random is = number_of is.0 (value ⨾ one s RAND) (then_one value RAND 1 1 (v is.1) refl refl)
      by no_function is = absurd is

  use_changes :
      (m : Option Meaning) (h : Shape) (ss : SelectorTrees) (address : Code) (args : List Formal → Code) (predeclared : Function →
      Code) (D : Type 0) (L : Option TypeId → Type 0) (A : List Formal → Type 0) (F : Function → Type 0)
      → IsUse s m h D L ss A F → (D → (u : Option TypeId) → L u → Changes s.program address 0 1) →
      ((formals : List Formal) → A formals → Changes s.program (args formals) 0 (formals_cells (forms_of s) formals))
      → ((f : Function) → F f → Changes s.program (predeclared f) 0 (shape_cells (forms_of s) h))
      → Changes s.program (name_code s m ss address args predeclared) 0 (shape_cells (forms_of s) h)
  use_changes (Some (Constant t v)) h ss address args predeclared D L A F is lead arguments functions =
      subst (λ (x : Shape). Changes s.program (one s (LIT v)) 0 (shape_cells (forms_of s) x)) (sym is) (changes_one s.program s (LIT v) 0 1 refl refl)
  use_changes (Some (Variable t r)) h ss address args predeclared D L A F is lead arguments functions =
      let u = is.0 in
      let z = type_cells (forms_of s) (selected s.env (Some t) ss) in
      let same : z ≡ shape_cells (forms_of s) h =
      ap (λ (x : Option TypeId). type_cells (forms_of s) x) is.3 ∙ sym (shaped_cells (forms_of s) sound u) ∙
      ap (λ (x : Shape). shape_cells (forms_of s) x) (sym is.4) in
      then_one address (LOAD z) 1 (shape_cells (forms_of s) h) (lead is.1 (Some u) is.2) refl same
  use_changes (Some (ASub n)) h ss address args predeclared D L A F is lead arguments functions =
      let head = sub_at (blocks_of s) n in
      let call = call_instr s head in
      subst (λ (x : Shape). Changes s.program (args head.formals ⨾ one s call) 0 (shape_cells (forms_of s) x)) (sym is.0)
      (then_one (args head.formals) call (formals_cells (forms_of s) head.formals) 1 (arguments head.formals is.2) is.1.taken is.1.leaves)
  use_changes (Some (Predeclared k)) h ss address args predeclared D L A F is lead arguments functions = functions (function_of k) is
  use_changes None h ss address args predeclared D L A F is lead arguments functions = absurd is
  use_changes (Some (Named t)) h ss address args predeclared D L A F is lead arguments functions = absurd is
  use_changes (Some (Module k)) h ss address args predeclared D L A F is lead arguments functions = absurd is
  use_changes (Some (Process k)) h ss address args predeclared D L A F is lead arguments functions = absurd is
  use_changes (Some (Entry k)) h ss address args predeclared D L A F is lead arguments functions = absurd is
  use_changes (Some Faulty) h ss address args predeclared D L A F is lead arguments functions = absurd is

  formal_changes :
      (f : Formal) (lent given : Code) (L : Type 0) (G : Shape → Type 0)
      → IsPassed (forms_of s) f L G → (L → Changes s.program lent 0 1) → ((h : Shape) → G h → Changes s.program given 0 (shape_cells (forms_of s) h))
      → Changes s.program (if f.reference then lent else given) 0 (formal_cells (forms_of s) f)
  formal_changes f lent given L G is l k = by f.reference is
    where
      by : (r : Bool) → Either r L ((t : TypeId) × (f.t ≡ Some t) × G (shape_of t) × IsValueType (forms_of s) t)
          → Changes s.program (if r then lent else given) 0 (if r then 1 else type_cells (forms_of s) f.t)
      by true is = l is
      by false is =
          let same : type_cells (forms_of s) f.t ≡ shape_cells (forms_of s) (shape_of is.0) = ap (λ (x : Option TypeId). type_cells (forms_of s) x) is.1 ∙
          sym (shaped_cells (forms_of s) sound is.0) in
          subst (λ (z : ℕ). Changes s.program given 0 z) (sym same) (k (shape_of is.0) is.2)

  -- ## Expressions

  -- a number behind a number, and an operator
  operator_changes : (c d : Code) (i : Instr) → Changes s.program c 0 1 → Changes s.program d 0 1 → Changes s.program (one s i) 2 1 →
      Changes s.program (c ⨾ d ⨾ one s i) 0 1
  operator_changes c d i h k o =
      changes_both s.program c (d ⨾ one s i) 0 1 1 h (changes_both s.program d (one s i) 1 2 1 (changes_as s.program d 0 1 1 1 2 k refl refl) o)

  sum_changes :
      (sign : Option (Sign × Place)) (first : TermTree) (rest : SummandTrees) (h : Shape) → h ≡ a_number
      → Changes s.program (term_code s first) 0 1 → Changes s.program (summands_code s rest) 1 1
      → Changes s.program (simple_code s (sum sign first rest)) 0 (shape_cells (forms_of s) h)
  sum_changes sign first rest h e term terms =
      subst (λ (x : Shape). Changes s.program (simple_code s (sum sign first rest)) 0 (shape_cells (forms_of s) x)) (sym e)
      (changes_both s.program (term_code s first) (sign_code s sign ⨾ summands_code s rest) 0 1 1 term
      (changes_both s.program (sign_code s sign) (summands_code s rest) 1 1 1 (sign_changes s.program s sign) terms))

  mutual
    pub expr_changes : (e : ExprTree) (h : Shape) → HasShape s e h → Changes s.program (expr_code s e) 0 (shape_cells (forms_of s) h)
    expr_changes (plain a q) h is = simple_changes a h is
    expr_changes (related a r b q) h is =
        subst (λ (x : Shape). Changes s.program (expr_code s (related a r b q)) 0 (shape_cells (forms_of s) x)) (sym is.0)
        (operator_changes (simple_code s a) (simple_code s b) (relation_instr r.0) (simple_changes a a_number is.1)
        (simple_changes b a_number is.2) (relation_changes s.program s r.0))

    pub simple_changes : (a : SimpleTree) (h : Shape) → HasShapeSimple s a h → Changes s.program (simple_code s a) 0 (shape_cells (forms_of s) h)
    simple_changes (sum None first no_summands) h is =
        let w = shape_cells (forms_of s) h in
        changes_both s.program (term_code s first) (nothing ⨾ nothing) 0 w w (term_changes first h is) (λ at n held. refl)
    simple_changes (sum None first (more_summands op t rest)) h is =
        sum_changes None first (more_summands op t rest) h is.0 (term_changes first a_number is.1) (summands_change (more_summands op t rest) is.2)
    simple_changes (sum (Some sign) first rest) h is = sum_changes (Some sign) first rest h is.0 (term_changes first a_number is.1) (summands_change rest is.2)

    pub summands_change : (rest : SummandTrees) → AreSummands s rest → Changes s.program (summands_code s rest) 1 1
    summands_change no_summands is = changes_nothing s.program 1
    summands_change (more_summands op t rest) is =
        changes_both s.program (term_code s t) (one s (add_instr op.0) ⨾ summands_code s rest) 1 2 1
        (changes_as s.program (term_code s t) 0 1 1 1 2 (term_changes t a_number is.0) refl refl)
        (changes_both s.program (one s (add_instr op.0)) (summands_code s rest) 2 1 1 (add_changes s.program s op.0) (summands_change rest is.1))

    pub term_changes : (t : TermTree) (h : Shape) → HasShapeTerm s t h → Changes s.program (term_code s t) 0 (shape_cells (forms_of s) h)
    term_changes (product f no_multipliers) h is =
        let w = shape_cells (forms_of s) h in
        changes_both s.program (factor_code s f) nothing 0 w w (factor_changes f h is) (changes_nothing s.program w)
    term_changes (product f (more_multipliers op d rest)) h is =
        subst (λ (x : Shape). Changes s.program (term_code s (product f (more_multipliers op d rest))) 0 (shape_cells (forms_of s) x)) (sym is.0)
        (changes_both s.program (factor_code s f) (multipliers_code s (more_multipliers op d rest)) 0 1 1 (factor_changes f a_number is.1)
        (multipliers_change (more_multipliers op d rest) is.2))

    pub multipliers_change : (rest : MultiplierTrees) → AreMultipliers s rest → Changes s.program (multipliers_code s rest) 1 1
    multipliers_change no_multipliers is = changes_nothing s.program 1
    multipliers_change (more_multipliers op f rest) is =
        changes_both s.program (factor_code s f) (one s (multiply_instr op.0) ⨾ multipliers_code s rest) 1 2 1
        (changes_as s.program (factor_code s f) 0 1 1 1 2 (factor_changes f a_number is.0) refl refl)
        (changes_both s.program (one s (multiply_instr op.0)) (multipliers_code s rest) 2 1 1
        (multiply_changes s.program s op.0) (multipliers_change rest is.1))

    pub factor_changes : (f : FactorTree) (h : Shape) → HasShapeFactor s f h → Changes s.program (factor_code s f) 0 (shape_cells (forms_of s) h)
    factor_changes (number k q) h is = subst (λ (x : Shape). Changes s.program (one s (LIT k)) 0 (shape_cells (forms_of s) x)) (sym is)
        (changes_one s.program s (LIT k) 0 1 refl refl)
    factor_changes (literal x q) h is = subst (λ (y : Shape). Changes s.program (one s (LIT (char_in x))) 0 (shape_cells (forms_of s) y)) (sym is)
        (changes_one s.program s (LIT (char_in x)) 0 1 refl refl)
    factor_changes (negation f q) h is =
        subst (λ (x : Shape). Changes s.program (factor_code s f ⨾ one s NOT) 0 (shape_cells (forms_of s) x)) (sym is.0)
        (then_one (factor_code s f) NOT 1 1 (factor_changes f a_number is.1) refl refl)
    factor_changes (paren e q) h is = expr_changes e h is
    factor_changes (used (desig x ss q) args r) h is =
        let v = spot_of s.env (find s.env x) in
        use_changes (meaning_of (find s.env x)) h ss (base_code s v.spot ⨾ selectors_code s v.t ss) (λ formals. args_code s formals args)
        (λ f. function_code s f (first_type s.env args) (first_value s args) (first_address s args))
        (IsDeclared s v.spot v.t) (λ u. AreSelectors s v.t ss u) (λ formals. AreArguments s formals args)
        (λ f. IsFunction f h (IsGivenFirst s args) (IsLentFirst s args (Some condition)))
        is.1
        (λ d u l. changes_both s.program (base_code s v.spot) (selectors_code s v.t ss) 0 1 1 (base_changes s.program s v.spot) (selectors_change ss v.t u l))
        (λ formals a. args_change formals args a)
        (λ f k. function_changes f (first_type s.env args) h (first_value s args) (first_address s args) (IsGivenFirst s args)
        (IsLentFirst s args (Some condition)) k
        (λ i. first_changes args i) (λ i. first_address_changes args (Some condition) i))

    pub first_changes : (args : ActualTrees) → IsGivenFirst s args → Changes s.program (first_value s args) 0 1
    first_changes no_actuals is = absurd is
    first_changes (more_actuals a rest) is = given_changes a a_number is

    pub first_address_changes : (args : ActualTrees) (t : Option TypeId) → IsLentFirst s args t → Changes s.program (first_address s args) 0 1
    first_address_changes no_actuals t is = absurd is
    first_address_changes (more_actuals a rest) t is = lent_changes a t is

    pub given_changes : (a : ActualTree) (h : Shape) → IsGiven s a h → Changes s.program (actual_code s a) 0 (shape_cells (forms_of s) h)
    given_changes (actual e) h is = expr_changes e h is
    given_changes (actual_width e w) h is = expr_changes e h is

    pub lent_changes : (a : ActualTree) (t : Option TypeId) → IsLent s a t → Changes s.program (lent_code s a) 0 1
    lent_changes (actual e) t is = variable_changes e t is
    lent_changes (actual_width e w) t is = variable_changes e t is

    pub variable_changes : (e : ExprTree) (t : Option TypeId) → IsVariable s e t → Changes s.program (variable_code s e) 0 1
    variable_changes (related a r u q) t is = absurd is
    variable_changes (plain (sum (Some sign) k us) q) t is = absurd is
    variable_changes (plain (sum None (product (number k r) ms) us) q) t is = absurd is
    variable_changes (plain (sum None (product (literal x r) ms) us) q) t is = absurd is
    variable_changes (plain (sum None (product (negation f r) ms) us) q) t is = absurd is
    variable_changes (plain (sum None (product (paren e r) ms) us) q) t is = absurd is
    variable_changes (plain (sum None (product (used (desig x ss r) (more_actuals a args) o) ms) us) q) t is = absurd is
    variable_changes (plain (sum None (product (used (desig x ss r) no_actuals o) (more_multipliers op f ms)) us) q) t is = absurd is
    variable_changes (plain (sum None (product (used (desig x ss r) no_actuals o) no_multipliers) (more_summands op k us)) q) t is = absurd is
    variable_changes (plain (sum None (product (used (desig x ss r) no_actuals o) no_multipliers) no_summands) q) t is =
        let v = spot_of s.env (find s.env x) in
        changes_both s.program (base_code s v.spot) (selectors_code s v.t ss) 0 1 1 (base_changes s.program s v.spot) (selectors_change ss v.t t is.1)

    pub args_change : (formals : List Formal) (args : ActualTrees) → AreArguments s formals args →
        Changes s.program (args_code s formals args) 0 (formals_cells (forms_of s) formals)
    args_change [] no_actuals is = changes_nothing s.program 0
    args_change (f ∷ formals) no_actuals is = absurd is
    args_change [] (more_actuals a rest) is = absurd is
    args_change (f ∷ formals) (more_actuals a rest) is =
        let first = if f.reference then lent_code s a else actual_code s a in
        let z = formal_cells (forms_of s) f in
        let w = formals_cells (forms_of s) formals in
        let all : formals_cells (forms_of s) (f ∷ formals) ≡ z + w = sum_by-cons (λ (k : Formal). formal_cells (forms_of s) k) f formals in
        changes_both s.program first (args_code s formals rest) 0 z (formals_cells (forms_of s) (f ∷ formals))
        (formal_changes f (lent_code s a) (actual_code s a) (IsLent s a f.t) (λ h. IsGiven s a h) is.0 (λ i. lent_changes a f.t i) (λ h i. given_changes a h i))
        (changes_as s.program (args_code s formals rest) 0 w z z (formals_cells (forms_of s) (f ∷ formals))
        (args_change formals rest is.1) (omega arith) (omega (arith, all)))

    pub selectors_change : (ss : SelectorTrees) (t u : Option TypeId) → AreSelectors s t ss u → Changes s.program (selectors_code s t ss) 1 1
    selectors_change no_selectors t u is = changes_nothing s.program 1
    selectors_change (more_selectors (index es q) ss) t u is =
        changes_both s.program (indices_code s t es) (selectors_code s (type_behind (forms_of s) t es) ss) 1 1 1 (indices_change es t is.0)
        (selectors_change ss (type_behind (forms_of s) t es) u is.1)
    selectors_change (more_selectors (field x q) ss) t u is =
        let i = FLD (field_cell (forms_of s) (form_in (forms_of s) t) x) in
        changes_both s.program (one s i) (selectors_code s (field_type (forms_of s) t x) ss) 1 1 1 (changes_one s.program s i 1 1 refl refl)
        (selectors_change ss (field_type (forms_of s) t x) u is.1)

    pub indices_change : (es : ExprTrees) (t : Option TypeId) → AreIndices s t es → Changes s.program (indices_code s t es) 1 1
    indices_change no_exprs t is = changes_nothing s.program 1
    indices_change (more_exprs e es) t is =
        let i = index_instr (forms_of s) (form_in (forms_of s) t) in
        let rest = indices_code s (element_in (forms_of s) t) es in
        changes_both s.program (expr_code s e) (one s i ⨾ rest) 1 2 1
        (changes_as s.program (expr_code s e) 0 1 1 1 2 (expr_changes e a_number is.1) refl refl)
        (changes_both s.program (one s i) rest 2 1 1 (index_changes s.program s (forms_of s) (form_in (forms_of s) t))
        (indices_change es (element_in (forms_of s) t) is.2))

  pub part_changes : (x : TypedSpot) (ss : SelectorTrees) (t : Option TypeId) → AreSelectors s x.t ss t →
      Changes s.program (base_code s x.spot ⨾ selectors_code s x.t ss) 0 1
  part_changes x ss t is = changes_both s.program (base_code s x.spot) (selectors_code s x.t ss) 0 1 1
      (base_changes s.program s x.spot) (selectors_change ss x.t t is)

  pub desig_changes : (d : DesigTree) (t : Option TypeId) → IsDesig s d t → Changes s.program (desig_code s d) 0 1
  desig_changes (desig x ss q) t is = part_changes (spot_of s.env (find s.env x)) ss t is.1
