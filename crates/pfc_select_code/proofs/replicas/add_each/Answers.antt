use Rattle.std.proofs.Common.{◌∙◌, ◌+◌, ◌*◌, ◌-◌, ◌++◌, ◌+ℤ◌, ℕ, List, [], ◌∷◌, pos, ap, sym, arith, append_assoc}
use Rattle.pfc_semantics.specs.Alternatives.{replicas_from}
use Rattle.pfc_translation.specs.Statements.{replica_branches}
use Rattle.pfc_select_code.proofs.Values.{branches_next}
use Rattle.pfc_select_code.proofs.replicas.add_each.Goals as goal

pub loop-k-preserved : goal.loop-k-preserved
loop-k-preserved c s line low =
    let k = c.loop-k.k in
    let here = c.args.from + 4 * k in
    let before = c.loop-k.branches.items in
    let rest = replica_branches (c.args.from + 4 * (k + 1)) (replicas_from s line (low +ℤ pos (k + 1)) (c.args.count - (k + 1))) in
    ap (λ (l : List ℕ). l ++ rest) c.in_ok-add-in-Ok.ensures.branches
    ∙ append_assoc before (c.in-Ok.branch ∷ []) rest
    ∙ ap (λ (b : ℕ). before ++ b ∷ rest) (omega arith)
    ∙ ap (λ (l : List ℕ). before ++ l) (sym (branches_next s line c.args.from k c.args.count low (omega arith)))
    ∙ c.loop-k.invariant s line low
