use Rattle.std.proofs.Common.{◌≡◌, ◌∙◌, ◌+◌, ◌-◌, ◌++◌, suc, take, drop, sym, ap, arith}
use Rattle.std.proofs.lemmas.List.{append_assoc}
use Rattle.pfc_types.specs.Scopes.{scope_at}
use Rattle.pfc_semantics.specs.Layouts.{laid_names, accepts_laid}
use Rattle.pfc_program.proofs.Laid.{accepts_next}
use Rattle.pfc_program.proofs.layouts.lay_accepts.Goals as goal

pub loop-i-preserved : goal.loop-i-preserved
loop-i-preserved c =
    let scopes = c.args.scopes.now.scopes in
    let i = c.loop-i.i in
    let to = c.args.to in
    let before = c.loop-i.layout.items in
    let own = laid_names (scope_at scopes i) in
    let rest = accepts_laid (take (to - (i + 1)) (drop (i + 1) scopes)) in
    let more : to - i ≡ suc (to - (i + 1)) = omega arith in
    let step : accepts_laid (take (to - i) (drop i scopes)) ≡ own ++ rest = ap (λ n. accepts_laid (take n (drop i scopes))) more ∙
    accepts_next scopes i (to - (i + 1)) in
    ap (λ l. l ++ rest) c.in_ok-lay_from.ensures ∙ append_assoc before own rest ∙ ap (λ l. before ++ l) (sym step) ∙ c.loop-i.invariant
