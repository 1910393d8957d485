use Rattle.std.proofs.Common.{◌≡◌, length, arith, sym, ap, ◌∙◌}
use Rattle.pfc_program.specs.InView.{InView}
use Rattle.pfc_program.specs.Views.{names_view, block_view}
use Rattle.pfc_semantics.specs.Remainders.{Remainder, in_names, ends}
use Rattle.pfc_semantics.specs.Configurations.{body_of}
use Rattle.pfc_pending.specs.Waiting.{waiting, over, behind as behind_statement}
use Rattle.pfc_entering.proofs.Guarded.{some_behind}
use Rattle.pfc_entering.proofs.guards.in_front.Goals as goal

pub returns : goal.returns
returns c = λ t.
    let b = c.args.block.now in
    let many : b.stmts.now.len ≡ length b.stmts.now.items = omega (arith, b.stmts.now.ok.0) in
    ap (waiting t) c.in_ok-vec-2.ensures.items
    ∙ ap (λ (k : Remainder). over t (behind_statement (in_names (names_view t c.in_ok-copy.field-0) k)) c.args.front)
    (some_behind b.next b.stmts.now.len b.stmts.now.items (ends b.last_line) many (sym c.is_empty.ensures ∙ c.if-is_empty.false))
    ∙ ap (λ (x : InView). over t (behind_statement (in_names (names_view t x) (body_of (block_view t b)))) c.args.front) c.in_ok-copy.ensures
