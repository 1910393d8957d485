use Rattle.std.proofs.Common.{◌∙◌, Some, sym, ap}
use Rattle.pfc_tree.specs.views.Exprs.{desig_view}
use Rattle.pfc_semantics.specs.Alternatives.{context, receiver_of}
use Rattle.pfc_semantics.specs.Remainders.{meets, receive_from, receive_into, to_receive}
use Rattle.pfc_semantics.specs.Statements.{from_received, plain_open}
use Rattle.pfc_phrases.specs.Views.{env_view}
use Rattle.pfc_store.specs.Views.{typed_spot_view}
use Rattle.pfc_pending.specs.Waiting.{remainder_of}
use Rattle.pfc_frequent_parts.proofs.acts.receive.Goals as goal

pub returns-in-None : goal.returns-in-None
returns-in-None c = λ t line w.
    let here = context (env_view c.args.site.env) line in
    let into = receiver_of here (desig_view c.args.v.now) in
    let channel = typed_spot_view c.in_ok-channel.field-0 in
    let k = remainder_of w in
    ap (λ r. from_received here channel.spot r k) (c.in-None.ensures line)
    ∙ sym (c.in_ok-channel.ensures line (receive_from into k) (λ s. from_received here s.spot into k))

pub returns-in_ok-into-in-Some : goal.returns-in_ok-into-in-Some
returns-in_ok-into-in-Some c = λ t line w.
    let here = context (env_view c.args.site.env) line in
    let into = receiver_of here (desig_view c.args.v.now) in
    let channel = typed_spot_view c.in_ok-channel.field-0 in
    let k = remainder_of w in
    sym (c.in_ok-into-in-Some.ensures line (receive_into channel.spot k) (λ s. meets here (plain_open (to_receive channel.spot (Some s.spot))) k))
    ∙ ap (λ r. from_received here channel.spot r k) (c.in-Some.ensures line)
    ∙ sym (c.in_ok-channel.ensures line (receive_from into k) (λ s. from_received here s.spot into k))
