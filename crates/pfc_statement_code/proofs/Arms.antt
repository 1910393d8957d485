-- The arms of a `case`: when all are put and led, their code is that of the definition.
use Rattle.std.proofs.Common.{◌≡◌, ◌≤◌, ◌+◌, ◌++◌, ◌&&◌, ℕ, suc, true, List, [], ◌∷◌, length, refl, sym, ap, ap₂, subst, ◌∙◌, arith, append_assoc}
use Rattle.std.proofs.Common.{length-append}
use Rattle.pfc_code.specs.declared.instructions.Instr.{Instr}
use Rattle.pfc_code.specs.declared.instructions.Instr.TheVariants.{CEQ, CERR, JMP}
use Rattle.pfc_tree.specs.declared.tree.Constant.{Constant}
use Rattle.pfc_tree.specs.trees.Stmts.{ArmTrees, arm, no_arms, more_arms}
use Rattle.pfc_types.specs.rules.Constants.{constant_value}
use Rattle.pfc_types.specs.rules.Statements.{arm_scopes}
use Rattle.pfc_translation.specs.Sites.{Site}
use Rattle.pfc_translation.specs.Codes.{Code, Lined, nothing, ◌⨾◌, one, over}
use Rattle.pfc_translation.specs.Statements.{label_of, label_count, labels_code, stmt_code, tests_code, arms_code}
use Rattle.pfc_emit.specs.Patches.{has_address_at, patched}
use Rattle.pfc_emit.proofs.Patches.{within_code, patched-between, has_address_at-between, has_address_at-patched, length-patched}
use Rattle.pfc_expression_code.specs.Putting.{Made, IsMade}
use Rattle.pfc_expression_code.proofs.Joining.{made_nothing, made_both}
use Rattle.pfc_statement_code.specs.Arms.{open_labels, open_tests, starts_of, ends_of, ArmsMade, have_labels, have_tests, labels_led, tests_led}
use Rattle.pfc_statement_code.specs.Leading.{have_all, all_led}
use Rattle.pfc_statement_code.proofs.Making.{made_left, made_left3, made_over}
use Rattle.pfc_statement_code.proofs.Leading.{IsPatching, patching_none, patching_one, patching_both, through, made_through, led, last_led, last_has}
use Rattle.pfc_statement_code.proofs.Leading.{have_all-patched, IsBehind, behind_none, behind_made, behind_has}

-- ## Tests as lists

abbrev test_of : Site → Constant → ℕ → Instr × ℕ
test_of s l t = (CEQ (label_of (constant_value s.env.state.blocks.scopes s.env.view l)) t, s.line)

-- of labels that lead to one address
abbrev labels_to : Site → List Constant → ℕ → Lined
labels_to s [] t = []
labels_to s (l ∷ ls) t = test_of s l t ∷ labels_to s ls t

-- that lead nowhere yet
abbrev tests_open : Site → ArmTrees → Lined
tests_open s no_arms = []
tests_open s (more_arms (arm ls t) arms) = labels_to s ls 0 ++ tests_open s arms

-- of arms that begin at these addresses
abbrev tests_to : Site → ArmTrees → List ℕ → Lined
tests_to s no_arms starts = []
tests_to s (more_arms (arm ls t) arms) [] = tests_open s (more_arms (arm ls t) arms)
tests_to s (more_arms (arm ls t) arms) (start ∷ starts) = labels_to s ls start ++ tests_to s arms starts

length-labels_to : (s : Site) (ls : List Constant) (t : ℕ) → length (labels_to s ls t) ≡ length ls
length-labels_to s [] t = refl
length-labels_to s (l ∷ ls) t = ap suc (length-labels_to s ls t)

length-tests_open : (s : Site) (arms : ArmTrees) → length (tests_open s arms) ≡ label_count arms
length-tests_open s no_arms = refl
length-tests_open s (more_arms (arm ls t) arms) =
    length-append (labels_to s ls 0) (tests_open s arms) ∙ ap₂ (λ a b. a + b) (length-labels_to s ls 0) (length-tests_open s arms)

-- ## What the tests are

open_labels_put : (s : Site) (ls : List Constant) (at n : ℕ) → (open_labels s ls).put at n ≡ labels_to s ls 0
open_labels_put s [] at n = refl
open_labels_put s (l ∷ ls) at n = ap (λ (x : Lined). test_of s l 0 ∷ x) (open_labels_put s ls (at + 1) (n + 0))

open_tests_put : (s : Site) (arms : ArmTrees) (at n : ℕ) → (open_tests s arms).put at n ≡ tests_open s arms
open_tests_put s no_arms at n = refl
open_tests_put s (more_arms (arm ls t) arms) at n =
    let first = open_labels s ls in
    ap₂ (λ (x y : Lined). x ++ y) (open_labels_put s ls at n) (open_tests_put s arms (at + first.size) (n + length first.texts))

labels_put : (s : Site) (between : ℕ) (ls : List Constant) (at n : ℕ) → (labels_code s between ls).put at n ≡ labels_to s ls (at + length ls + between)
labels_put s between [] at n = refl
labels_put s between (l ∷ ls) at n =
    let here : at + 1 + (length ls + between) ≡ at + suc (length ls) + between = omega arith in
    let next : at + 1 + length ls + between ≡ at + suc (length ls) + between = omega arith in
    ap₂ (λ (k : ℕ) (x : Lined). test_of s l k ∷ x) here (labels_put s between ls (at + 1) (n + 0) ∙ ap (λ k. labels_to s ls k) next)

labels_size : (s : Site) (between : ℕ) (ls : List Constant) → (labels_code s between ls).size ≡ length ls
labels_size s between [] = refl
labels_size s between (l ∷ ls) = let rest = labels_size s between ls in omega arith

labels_texts : (s : Site) (between : ℕ) (ls : List Constant) → (labels_code s between ls).texts ≡ []
labels_texts s between [] = refl
labels_texts s between (l ∷ ls) = labels_texts s between ls

labels_arms : (s : Site) (between : ℕ) (ls : List Constant) → (labels_code s between ls).arms ≡ 0
labels_arms s between [] = refl
labels_arms s between (l ∷ ls) = let rest = labels_arms s between ls in omega arith

tests_put :
    (s : Site) (i from : ℕ) (arms : ArmTrees) (at n start : ℕ) → start ≡ at + label_count arms + 1 + from
    → (tests_code s i from arms).put at n ≡ tests_to s arms (starts_of s i arms start)
tests_put s i from no_arms at n start is = refl
tests_put s i from (more_arms (arm ls t) arms) at n start is =
    let between = label_count arms + 1 + from in
    let first = labels_code s between ls in
    let size = (stmt_code s i t).size in
    let here : at + length ls + between ≡ start = omega (arith, is) in
    ap₂ (λ (x y : Lined). x ++ y)
    (labels_put s between ls at n ∙ ap (λ k. labels_to s ls k) here)
    (tests_put s (i + arm_scopes (arm ls t)) (from + size + 1) arms (at + first.size) (n + length first.texts) (start + size + 1)
    (omega (arith, is, labels_size s between ls)))

pub tests_size : (s : Site) (i from : ℕ) (arms : ArmTrees) → (tests_code s i from arms).size ≡ label_count arms
tests_size s i from no_arms = refl
tests_size s i from (more_arms (arm ls t) arms) =
    ap₂ (λ a b. a + b) (labels_size s (label_count arms + 1 + from) ls)
    (tests_size s (i + arm_scopes (arm ls t)) (from + (stmt_code s i t).size + 1) arms)

tests_texts : (s : Site) (i from : ℕ) (arms : ArmTrees) → (tests_code s i from arms).texts ≡ []
tests_texts s i from no_arms = refl
tests_texts s i from (more_arms (arm ls t) arms) =
    ap₂ (λ x y. x ++ y) (labels_texts s (label_count arms + 1 + from) ls)
    (tests_texts s (i + arm_scopes (arm ls t)) (from + (stmt_code s i t).size + 1) arms)

tests_arms : (s : Site) (i from : ℕ) (arms : ArmTrees) → (tests_code s i from arms).arms ≡ 0
tests_arms s i from no_arms = refl
tests_arms s i from (more_arms (arm ls t) arms) =
    let first = labels_arms s (label_count arms + 1 + from) ls in
    let rest = tests_arms s (i + arm_scopes (arm ls t)) (from + (stmt_code s i t).size + 1) arms in
    omega arith

open_labels_size : (s : Site) (ls : List Constant) → (open_labels s ls).size ≡ length ls
open_labels_size s [] = refl
open_labels_size s (l ∷ ls) = let rest = open_labels_size s ls in omega arith

open_labels_texts : (s : Site) (ls : List Constant) → (open_labels s ls).texts ≡ []
open_labels_texts s [] = refl
open_labels_texts s (l ∷ ls) = open_labels_texts s ls

open_labels_arms : (s : Site) (ls : List Constant) → (open_labels s ls).arms ≡ 0
open_labels_arms s [] = refl
open_labels_arms s (l ∷ ls) = let rest = open_labels_arms s ls in omega arith

pub open_tests_size : (s : Site) (arms : ArmTrees) → (open_tests s arms).size ≡ label_count arms
open_tests_size s no_arms = refl
open_tests_size s (more_arms (arm ls t) arms) = ap₂ (λ a b. a + b) (open_labels_size s ls) (open_tests_size s arms)

open_tests_texts : (s : Site) (arms : ArmTrees) → (open_tests s arms).texts ≡ []
open_tests_texts s no_arms = refl
open_tests_texts s (more_arms (arm ls t) arms) = ap₂ (λ x y. x ++ y) (open_labels_texts s ls) (open_tests_texts s arms)

open_tests_arms : (s : Site) (arms : ArmTrees) → (open_tests s arms).arms ≡ 0
open_tests_arms s no_arms = refl
open_tests_arms s (more_arms (arm ls t) arms) =
    let first = open_labels_arms s ls in
    let rest = open_tests_arms s arms in
    omega arith

-- ## Tests that are led

-- one instruction more before
longer : (P : Lined) (p : Instr × ℕ) (at : ℕ) → at ≡ length P → at + 1 ≡ length (P ++ p ∷ [])
longer P p at here = omega (arith, here, length-append P (p ∷ []))

labels_between :
    (s : Site) (P : Lined) (ls : List Constant) (Q : Lined) (at t : ℕ) → at ≡ length P
    → labels_led (P ++ (labels_to s ls 0 ++ Q)) at ls t ≡ P ++ (labels_to s ls t ++ Q)
labels_between s P [] Q at t here = refl
labels_between s P (l ∷ ls) Q at t here =
    let rest : Lined = labels_to s ls 0 ++ Q in
    let first : Instr × ℕ = test_of s l t in
    let set : patched (P ++ test_of s l 0 ∷ rest) at t ≡ (P ++ first ∷ []) ++ rest =
    ap (λ n. patched (P ++ test_of s l 0 ∷ rest) n t) here
    ∙ patched-between P (test_of s l 0).0 s.line rest t ∙ sym (append_assoc P (first ∷ []) rest) in
    ap (λ (x : Lined). labels_led x (at + 1) ls t) set
    ∙ labels_between s (P ++ first ∷ []) ls Q (at + 1) t (longer P first at here)
    ∙ append_assoc P (first ∷ []) (labels_to s ls t ++ Q)

tests_between :
    (s : Site) (P : Lined) (i : ℕ) (arms : ArmTrees) (Q : Lined) (at start : ℕ) → at ≡ length P
    → tests_led (P ++ (tests_open s arms ++ Q)) at arms (starts_of s i arms start) ≡ P ++ (tests_to s arms (starts_of s i arms start) ++ Q)
tests_between s P i no_arms Q at start here = refl
tests_between s P i (more_arms (arm ls t) arms) Q at start here =
    let opens : Lined = tests_open s arms in
    let first : ℕ → Lined = λ k. labels_to s ls k in
    let j = i + arm_scopes (arm ls t) in
    let next = start + (stmt_code s i t).size + 1 in
    let split : P ++ ((first 0 ++ opens) ++ Q) ≡ P ++ (first 0 ++ (opens ++ Q)) = ap (λ (x : Lined). P ++ x) (append_assoc (first 0) opens Q) in
    let set : labels_led (P ++ ((first 0 ++ opens) ++ Q)) at ls start ≡ (P ++ first start) ++ (opens ++ Q) =
    ap (λ (x : Lined). labels_led x at ls start) split ∙ labels_between s P ls (opens ++ Q) at start here
    ∙ sym (append_assoc P (first start) (opens ++ Q)) in
    let begins : at + length ls ≡ length (P ++ first start) = omega (arith, here, length-append P (first start), length-labels_to s ls start) in
    ap (λ (x : Lined). tests_led x (at + length ls) arms (starts_of s j arms next)) set
    ∙ tests_between s (P ++ first start) j arms Q (at + length ls) next begins
    ∙ append_assoc P (first start) (tests_to s arms (starts_of s j arms next) ++ Q)
    ∙ ap (λ (x : Lined). P ++ x) (sym (append_assoc (first start) (tests_to s arms (starts_of s j arms next)) Q))

labels_have :
    (s : Site) (P : Lined) (ls : List Constant) (Q : Lined) (at : ℕ) → at ≡ length P → have_labels (P ++ (labels_to s ls 0 ++ Q)) at ls ≡ true
labels_have s P [] Q at here = refl
labels_have s P (l ∷ ls) Q at here =
    let rest : Lined = labels_to s ls 0 ++ Q in
    let first : Instr × ℕ = test_of s l 0 in
    ap₂ (λ a b. a && b)
    (ap (λ n. has_address_at (P ++ first ∷ rest) n) here ∙ has_address_at-between P first rest)
    (ap (λ (x : Lined). have_labels x (at + 1) ls) (sym (append_assoc P (first ∷ []) rest))
    ∙ labels_have s (P ++ first ∷ []) ls Q (at + 1) (longer P first at here))

tests_have :
    (s : Site) (P : Lined) (arms : ArmTrees) (Q : Lined) (at : ℕ) → at ≡ length P → have_tests (P ++ (tests_open s arms ++ Q)) at arms ≡ true
tests_have s P no_arms Q at here = refl
tests_have s P (more_arms (arm ls t) arms) Q at here =
    let first : Lined = labels_to s ls 0 in
    let rest : Lined = tests_open s arms in
    let split : P ++ ((first ++ rest) ++ Q) ≡ P ++ (first ++ (rest ++ Q)) = ap (λ (x : Lined). P ++ x) (append_assoc first rest Q) in
    let next : at + length ls ≡ length (P ++ first) = omega (arith, here, length-append P first, length-labels_to s ls 0) in
    ap₂ (λ a b. a && b)
    (ap (λ (x : Lined). have_labels x at ls) split ∙ labels_have s P ls (rest ++ Q) at here)
    (ap (λ (x : Lined). have_tests x (at + length ls) arms) (split ∙ sym (append_assoc P first (rest ++ Q)))
    ∙ tests_have s (P ++ first) arms Q (at + length ls) next)

-- a patch keeps which tests there are
pub have_labels-patched : (code : Lined) (at t other : ℕ) (ls : List Constant) → have_labels (patched code at t) other ls ≡ have_labels code other ls
have_labels-patched code at t other [] = refl
have_labels-patched code at t other (l ∷ ls) =
    ap₂ (λ a b. a && b) (has_address_at-patched code at t other) (have_labels-patched code at t (other + 1) ls)

have_tests-patched : (code : Lined) (at t other : ℕ) (arms : ArmTrees) → have_tests (patched code at t) other arms ≡ have_tests code other arms
have_tests-patched code at t other no_arms = refl
have_tests-patched code at t other (more_arms (arm ls s) arms) =
    ap₂ (λ a b. a && b) (have_labels-patched code at t other ls) (have_tests-patched code at t (other + length ls) arms)

pub have_tests-led :
    (code : Lined) (at t other : ℕ) (ls : List Constant) (arms : ArmTrees) → have_tests (labels_led code at ls t) other arms ≡ have_tests code other arms
have_tests-led code at t other [] arms = refl
have_tests-led code at t other (l ∷ ls) arms =
    have_tests-led (patched code at t) (at + 1) t other ls arms ∙ have_tests-patched code at t other arms

-- where no beginning is left, nothing more is led
pub tests_none : (code : Lined) (at : ℕ) (arms : ArmTrees) → tests_led code at arms [] ≡ code
tests_none code at no_arms = refl
tests_none code at (more_arms (arm ls t) arms) = refl

length-labels_led : (code : Lined) (at t : ℕ) (ls : List Constant) → length (labels_led code at ls t) ≡ length code
length-labels_led code at t [] = refl
length-labels_led code at t (l ∷ ls) = length-labels_led (patched code at t) (at + 1) t ls ∙ length-patched code at t

pub length-tests_led : (code : Lined) (at : ℕ) (arms : ArmTrees) (starts : List ℕ) → length (tests_led code at arms starts) ≡ length code
length-tests_led code at no_arms starts = refl
length-tests_led code at (more_arms (arm ls t) arms) [] = refl
length-tests_led code at (more_arms (arm ls t) arms) (start ∷ starts) =
    length-tests_led (labels_led code at ls start) (at + length ls) arms starts ∙ length-labels_led code at start ls

have_all-labels_led : (code : Lined) (at t : ℕ) (ls : List Constant) (ats : List ℕ) → have_all (labels_led code at ls t) ats ≡ have_all code ats
have_all-labels_led code at t [] ats = refl
have_all-labels_led code at t (l ∷ ls) ats = have_all-labels_led (patched code at t) (at + 1) t ls ats ∙ have_all-patched code at t ats

pub have_all-tests_led :
    (code : Lined) (at : ℕ) (arms : ArmTrees) (starts ats : List ℕ) → have_all (tests_led code at arms starts) ats ≡ have_all code ats
have_all-tests_led code at no_arms starts ats = refl
have_all-tests_led code at (more_arms (arm ls t) arms) [] ats = refl
have_all-tests_led code at (more_arms (arm ls t) arms) (start ∷ starts) ats =
    have_all-tests_led (labels_led code at ls start) (at + length ls) arms starts ats ∙ have_all-labels_led code at start ls ats

-- a loop that leads them
pub ruleset kept = (have_labels-patched, within_code, length-patched)

-- ## As patches of a front

labels_patching : (h at t : ℕ) (ls : List Constant) → at + length ls ≤ h → IsPatching h (λ l. labels_led l at ls t)
labels_patching h at t [] fits = patching_none h
labels_patching h at t (x ∷ ls) fits =
    patching_both h (λ l. patched l at t) (λ l. labels_led l (at + 1) ls t) (patching_one h at t (omega (arith, fits)))
    (labels_patching h (at + 1) t ls (omega (arith, fits)))

pub tests_patching : (h at : ℕ) (arms : ArmTrees) (starts : List ℕ) → at + label_count arms ≤ h → IsPatching h (λ l. tests_led l at arms starts)
tests_patching h at no_arms starts fits = patching_none h
tests_patching h at (more_arms (arm ls t) arms) [] fits = patching_none h
tests_patching h at (more_arms (arm ls t) arms) (start ∷ starts) fits =
    patching_both h (λ l. labels_led l at ls start) (λ l. tests_led l (at + length ls) arms starts)
    (labels_patching h at start ls (omega (arith, fits))) (tests_patching h (at + length ls) arms starts (omega (arith, fits)))

-- ## What stands before the arms

module _ (s : Site) (e : Code) (arms : ArmTrees) (x y : Made) (first : ℕ) where
  abbrev front : Lined
  front = x.code ++ e.put (length x.code) (length x.texts)

  abbrev fault : Lined
  fault = (CERR, s.line) ∷ []

  front_split : IsMade (e ⨾ open_tests s arms ⨾ one s CERR) x y → y.code ≡ front ++ (tests_open s arms ++ fault)
  front_split made =
      made.code
      ∙ ap (λ (l : Lined). x.code ++ (e.put (length x.code) (length x.texts) ++ (l ++ fault)))
      (open_tests_put s arms (length x.code + e.size) (length x.texts + length e.texts))
      ∙ sym (append_assoc x.code (e.put (length x.code) (length x.texts)) (tests_open s arms ++ fault))

  front_length : IsMade (e ⨾ open_tests s arms ⨾ one s CERR) x y → length y.code ≡ first + label_count arms + 1 → first ≡ length front
  front_length made last =
      omega (
        arith,
        last,
        ap length (front_split made),
        length-append front (tests_open s arms ++ fault),
        length-append
            (tests_open s arms) fault,
        length-tests_open s arms,
      )

  pub tests_made :
      (i : ℕ) → IsMade (e ⨾ open_tests s arms ⨾ one s CERR) x y → length y.code ≡ first + label_count arms + 1
      → IsMade (e ⨾ tests_code s i 0 arms ⨾ one s CERR) x (through (λ l. tests_led l first arms (starts_of s i arms (length y.code))) y)
  tests_made i made last =
      let at = length x.code + e.size in
      let n = length x.texts + length e.texts in
      let starts = starts_of s i arms (length y.code) in
      let tests = tests_code s i 0 arms in
      let is = tests_patching (length y.code) first arms starts (omega (arith, last)) in
      let size : length y.code ≡ at + label_count arms + 1 + 0 = omega (arith, made.size, open_tests_size s arms) in
      record {
        code =
            ap (λ (l : Lined). tests_led l first arms starts) (front_split made)
            ∙ tests_between s front i arms fault first (length y.code) (front_length made last)
            ∙ append_assoc x.code (e.put (length x.code) (length x.texts)) (tests_to s arms starts ++ fault)
            ∙ ap (λ (l : Lined). x.code ++ (e.put (length x.code) (length x.texts) ++ (l ++ fault))) (sym (tests_put s i 0 arms at n (length y.code) size));
        texts =
            made.texts ∙ ap (λ l. x.texts ++ (e.texts ++ (l ++ []))) (open_tests_texts s arms ∙ sym (tests_texts s i 0 arms));
        arms = omega (arith, made.arms, open_tests_arms s arms, tests_arms s i 0 arms);
        size = is.long y.code ∙ omega (arith, made.size, open_tests_size s arms, tests_size s i 0 arms);
      }

  pub tests_have_address :
      IsMade (e ⨾ open_tests s arms ⨾ one s CERR) x y → length y.code ≡ first + label_count arms + 1 → have_tests y.code first arms ≡ true
  tests_have_address made last =
      ap (λ (l : Lined). have_tests l first arms) (front_split made) ∙ tests_have s front arms fault first (front_length made last)

-- ## The arms

pub arms_behind : (s : Site) (i : ℕ) (arms : ArmTrees) (x z : Made) → ArmsMade s i arms x z → IsBehind x z
arms_behind s i no_arms x z same = behind_none x z same
arms_behind s i (more_arms (arm ls t) arms) x z (y, first, rest) =
    behind_made (stmt_code s i t ⨾ one s (JMP 0)) x y z first (arms_behind s (i + arm_scopes (arm ls t)) arms y z rest)

pub arms_length : (s : Site) (i : ℕ) (arms : ArmTrees) (x z : Made) → ArmsMade s i arms x z → length z.code ≡ length x.code + (arms_code s i arms).size
arms_length s i no_arms x z same = omega (arith, ap (λ (m : Made). length m.code) same)
arms_length s i (more_arms (arm ls t) arms) x z (y, first, rest) =
    let more = arms_length s (i + arm_scopes (arm ls t)) arms y z rest in
    omega (arith, first.size, more)

pub arms_through :
    (h : ℕ) (f : Lined → Lined) (s : Site) (i : ℕ) (arms : ArmTrees) (x z : Made) → IsPatching h f → h ≤ length x.code → ArmsMade s i arms x z
    → ArmsMade s i arms (through f x) (through f z)
arms_through h f s i no_arms x z is fits same = ap (λ (m : Made). through f m) same
arms_through h f s i (more_arms (arm ls t) arms) x z is fits (y, first, rest) = (
  through f y,
  made_through h f (stmt_code s i t ⨾ one s (JMP 0)) x y is fits first,
  arms_through h f s (i + arm_scopes (arm ls t)) arms y z is
      (omega (arith, fits, first.size)) rest,
)

-- the jumps behind them have an address
pub arms_have :
    (s : Site) (i : ℕ) (arms : ArmTrees) (x z : Made) → ArmsMade s i arms x z → have_all z.code (ends_of s i arms (length x.code)) ≡ true
arms_have s i no_arms x z same = refl
arms_have s i (more_arms (arm ls t) arms) x z (y, first, rest) =
    let j = i + arm_scopes (arm ls t) in
    let end = length x.code + (stmt_code s i t).size in
    let next : length y.code ≡ end + 1 = omega (arith, first.size) in
    let has = last_has s (stmt_code s i t) (JMP 0) x y end first next refl in
    ap₂ (λ a b. a && b) (behind_has y z end (arms_behind s j arms y z rest) has)
    (ap (λ k. have_all z.code (ends_of s j arms k)) (sym next) ∙ arms_have s j arms y z rest)

-- led behind all of them, they are the code of the definition
pub arms_led :
    (s : Site) (i : ℕ) (arms : ArmTrees) (x z : Made) (t : ℕ) → ArmsMade s i arms x z → t ≡ length x.code + (arms_code s i arms).size
    → IsMade (arms_code s i arms) x (through (λ l. all_led l (ends_of s i arms (length x.code)) t) z)
arms_led s i no_arms x z t same is = subst (λ (m : Made). IsMade nothing x m) same (made_nothing x)
arms_led s i (more_arms (arm ls b) arms) x z t (y, first, rest) is =
    let j = i + arm_scopes (arm ls b) in
    let inner = stmt_code s i b in
    let others = arms_code s j arms in
    let end = length x.code + inner.size in
    let next : length y.code ≡ end + 1 = omega (arith, first.size) in
    let same : length (patched y.code end t) ≡ end + 1 = length-patched y.code end t ∙ next in
    let leap : IsMade (inner ⨾ over s JMP others.size) x (led y end t) =
    made_over s inner JMP t others.size x (led y end t) (last_led s inner (JMP 0) (JMP t) x y end t first next refl) (omega (arith, is, same)) in
    let behind = arms_through (length y.code) (λ l. patched l end t) s j arms y z
    (patching_one (length y.code) end t (omega (arith, next))) (omega arith) rest in
    let whole = arms_led s j arms (led y end t) (led z end t) t behind (omega (arith, is, same)) in
    made_left inner (over s JMP others.size) others x (through (λ l. all_led l (ends_of s j arms (end + 1)) t) (led z end t))
    (made_both (inner ⨾ over s JMP others.size) others x (led y end t) (through (λ l. all_led l (ends_of s j arms (end + 1)) t) (led z end t)) leap
    (subst (λ k. IsMade others (led y end t) (through (λ l. all_led l (ends_of s j arms k) t) (led z end t))) same whole))

-- ## The whole

module _ (s : Site) (i : ℕ) (e : Code) (arms : ArmTrees) (x y z : Made) (first : ℕ) where
  pub case_have_tests :
      IsMade (e ⨾ open_tests s arms ⨾ one s CERR) x y → length y.code ≡ first + label_count arms + 1 → ArmsMade s i arms y z
      → have_tests z.code first arms ≡ true
  case_have_tests made last rest =
      let more = arms_behind s i arms y z rest in
      let before = front s e arms x y first in
      let split : z.code ≡ before ++ (tests_open s arms ++ (fault s e arms x y first ++ more.rest)) =
      more.is ∙ ap (λ (l : Lined). l ++ more.rest) (front_split s e arms x y first made) ∙ (simp append_assoc) in
      ap (λ (l : Lined). have_tests l first arms) split
      ∙ tests_have s before arms (fault s e arms x y first ++ more.rest) first (front_length s e arms x y first made last)

  pub case_made :
      IsMade (e ⨾ open_tests s arms ⨾ one s CERR) x y → length y.code ≡ first + label_count arms + 1 → ArmsMade s i arms y z
      → IsMade (e ⨾ tests_code s i 0 arms ⨾ one s CERR ⨾ arms_code s i arms) x
      (through (λ l. all_led (tests_led l first arms (starts_of s i arms (length y.code))) (ends_of s i arms (length y.code)) (length z.code)) z)
  case_made made last rest =
      let f : Lined → Lined = λ l. tests_led l first arms (starts_of s i arms (length y.code)) in
      let is = tests_patching (length y.code) first arms (starts_of s i arms (length y.code)) (omega (arith, last)) in
      let same : length (f y.code) ≡ length y.code = is.long y.code in
      let tests = tests_code s i 0 arms in
      let others = arms_code s i arms in
      let end = length z.code in
      let led_rest = arms_led s i arms (through f y) (through f z) end (arms_through (length y.code) f s i arms y z is (omega arith) rest)
      (omega (arith, same, arms_length s i arms y z rest)) in
      let whole = subst (λ k. IsMade others (through f y) (through (λ l. all_led l (ends_of s i arms k) end) (through f z))) same led_rest in
      made_left3 e tests (one s CERR) others x (through (λ l. all_led (f l) (ends_of s i arms (length y.code)) end) z)
      (made_both (e ⨾ tests ⨾ one s CERR) others x (through f y) (through (λ l. all_led (f l) (ends_of s i arms (length y.code)) end) z)
      (tests_made s e arms x y first i made last) whole)
