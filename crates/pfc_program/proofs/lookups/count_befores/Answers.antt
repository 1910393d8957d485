use Rattle.std.proofs.Common.{◌≡◌, ◌∙◌, ◌+◌, ℕ, None, Option, get_or, drop, ap, arith}
use Rattle.std.specs.Prelude.{unwrap_or}
use Rattle.pfc_tree.specs.Symbols.{Text}
use Rattle.pfc_types.specs.Scopes.{scope_at}
use Rattle.pfc_types.specs.declared.scope.Meaning.{Meaning}
use Rattle.pfc_semantics.specs.Layouts.{before_module}
use Rattle.pfc_program.proofs.Rows.{count_noted}
use Rattle.pfc_program.proofs.lookups.count_befores.Goals as goal

pub loop-k-preserved : goal.loop-k-preserved
loop-k-preserved c =
    let b = c.args.scopes.now in
    let names = scope_at b.scopes 0 in
    let k = c.loop-k.k in
    let m = c.meaning_at-m.result in
    let is : (d : Text × Meaning) → m ≡ (get_or names k d).1 = λ d. c.meaning_at-m.ensures d ∙ ap (λ l. (get_or l k d).1) c.at.ensures in
    λ n.
    ap (λ (o : Option ℕ). unwrap_or o (c.in_ok-all.all + before_module b n (drop (k + 1) names))) (c.in_ok-note_module.ensures n)
    ∙ count_noted b n names k m c.loop-k.all c.in_ok-all.all (before_module b n names) (get_or c.loop-k.counts.items n None) is (omega arith)
    (omega (arith, c.in_ok-all.ensures, c.in_ok-main_size.ensures)) (c.loop-k.invariant n)
