use Rattle.std.proofs.Common.{◌≡◌, ◌∙◌, ◌+◌, ◌-◌, ◌++◌, suc, [], ◌∷◌, List, ℕ, length, ap, ap₂, sym, append_assoc, arith}
use Rattle.pfc_types.specs.Scopes.{scope_at}
use Rattle.pfc_semantics.specs.Layouts.{laid_names}
use Rattle.pfc_addresses.specs.Rows.{accepts_from}
use Rattle.pfc_addresses.proofs.rows.accepts.Goals as goal

pub loop-i-preserved : goal.loop-i-preserved
loop-i-preserved c =
    let scopes = c.args.scopes.now.scopes in
    let i = c.loop-i.i in
    let n = c.loop-i.n in
    let sums = c.loop-i.sums.items in
    let count = c.args.to - (i + 1) in
    let more : c.args.to - i ≡ suc count = omega arith in
    let next : c.in_ok-n-2.n ≡ n + length (laid_names (scope_at scopes i)) = omega (arith, c.in_ok-n-2.ensures, c.in_ok-laid_in.ensures) in
    ap₂ (λ (l : List ℕ) k. l ++ accepts_from scopes k (i + 1) count) c.in_ok-push.ensures.items next
    ∙ append_assoc sums (n ∷ []) (accepts_from scopes (n + length (laid_names (scope_at scopes i))) (i + 1) count)
    ∙ sym (ap (λ k. sums ++ accepts_from scopes n i k) more)
    ∙ c.loop-i.invariant
