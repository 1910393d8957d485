-- The words of all rules that are broken in a tree, and of the first.
use Rattle.std.proofs.Common.{refl}
use Rattle.std.specs.Prelude.{ℕ, nat_le, Bool, true, false, cond, [], All, Option, Some, None, IfSome}
use Rattle.std.proofs.lemmas.List.Elements.{All-nil}
use Rattle.pfc_base.specs.declared.faults.Refusal.{Refusal}
use Rattle.pfc_tree.specs.trees.Parts.{ProgramTree}
use Rattle.pfc_types.specs.Faults.{Faults, is_before, lesser, least_from}
use Rattle.pfc_types.specs.Scopes.{here}
use Rattle.pfc_types.specs.rules.Declarations.{in_program}
use Rattle.pfc_types.specs.rules.Whole.{begun, declared_parts, finished, faults_of, broken}
use Rattle.pfc_refusals.specs.Words.{HasWords}
use Rattle.pfc_refusals.proofs.Worded.{Worded, no_rule, a_rule, ◌&◌, rule}
use Rattle.pfc_refusals.proofs.Noted.{Noted, noted, listed_worded, all_worded}
use Rattle.pfc_refusals.proofs.Parts.{body_noted, parts_noted}
use Rattle.pfc_refusals.proofs.Bodies.{bodies_worded}

begun_noted : Noted begun
begun_noted = record { all = All-nil HasWords }

finished_noted : (t : ProgramTree) → Noted (finished t)
finished_noted t =
    noted (rule _ _ _ refl)
    (body_noted (declared_parts t) (here (declared_parts t).blocks.scopes 0 []) t.body (parts_noted in_program begun 0 [] t.parts begun_noted))

faults_worded : (t : ProgramTree) → Worded (faults_of t)
faults_worded t = all_worded (finished t).blocks.noted (finished_noted t).all & bodies_worded (finished t) t

pub broken_worded : (t : ProgramTree) → All HasWords (broken t)
broken_worded t = listed_worded (faults_worded t)

-- ## The first

-- a fault that has its words, if there is one
abbrev Found : Option Refusal → Type 0
Found best = IfSome best HasWords

one_of_two : (b : Bool) (x y : Option Refusal) → Found x → Found y → Found (cond b x y)
one_of_two true x y h k = h
one_of_two false x y h k = k

lesser_found : (f : Refusal) (best : Option Refusal) → HasWords f → Found best → Found (lesser f best)
lesser_found f None h k = h
lesser_found f (Some best) h k = one_of_two (is_before f best) (Some f) (Some best) h k

least_found : (from : ℕ) (best : Option Refusal) {fs : Faults} → Worded fs → Found best → Found (least_from from best fs)
least_found from best no_rule k = k
least_found from best (a_rule {f} h) k = one_of_two (nat_le from f.code) (lesser f best) best (lesser_found f best h k) k
least_found from best (◌&◌ {fs} {gs} h l) k = least_found from (least_from from best fs) l (least_found from best h k)

-- the first of those whose codes are not below `from`
pub first_worded : (from : ℕ) (t : ProgramTree) → IfSome (least_from from None (faults_of t)) HasWords
first_worded from t = least_found from None (faults_worded t) tt
