use Rattle.std.proofs.Common.{◌∙◌, ◌-◌, ap, sym, length}
use Rattle.pfc_tree.specs.views.Exprs.{expr_view}
use Rattle.pfc_tree.specs.views.Stmts.{comm_view}
use Rattle.pfc_emit.proofs.Patches.{length-patched}
use Rattle.pfc_addresses.specs.Sites.{site_view}
use Rattle.pfc_expression_code.specs.Putting.{Made}
use Rattle.pfc_select_code.specs.Alternatives.{open_comm, arm_place}
use Rattle.pfc_select_code.proofs.Parts.{when_can, when_made}
use Rattle.pfc_select_code.proofs.alternatives.put_when.Goals as goal

pub lead-requires : goal.lead-requires
lead-requires c =
    let s = site_view c.args.site in
    when_can s (open_comm s c.args.offer.next (comm_view c.args.offer.comm.now)) c.expr.new.self c.place.new.self c.put_comm.new.made c.in_ok-test.test
    c.in_ok-test.ensures.address c.in_ok-test.ensures.code c.in_ok-place.ensures.code

pub returns-clause-code : goal.returns-clause-code
returns-clause-code c =
    let s = site_view c.args.site in
    when_made s (expr_view c.args.e.now) (open_comm s c.args.offer.next (comm_view c.args.offer.comm.now)) c.args.made.now c.expr.new.self c.place.new.self
    c.put_comm.new.made c.lead.new.self c.in_ok-test.test c.here-behind.result c.in_ok-test.ensures.address c.here-behind.ensures.address
    c.in_ok-expr.ensures.code c.in_ok-test.ensures.code c.in_ok-place.ensures.code c.lead.ensures

pub returns-clause-place : goal.returns-clause-place
returns-clause-place c =
    c.in_ok-place.ensures.place
    ∙ ap (λ k. arm_place (comm_view c.args.offer.comm.now) (k - 1))
    (sym (ap (λ (m : Made). length m.code) c.lead.ensures ∙ length-patched c.put_comm.new.made.code c.in_ok-test.test c.here-behind.result))
