use Rattle.std.proofs.Common.{◌≡◌, ℕ, length, arith, refl, ◌∙◌}
use Rattle.std.proofs.lemmas.List.{take_all}
use Rattle.pfc_activities.specs.declared.activities.Activity.{Activity}
use Rattle.pfc_meeting.specs.declared.onward.Onward.{Onward}
use Rattle.pfc_deciding.proofs.Ways.{under_way}
use Rattle.pfc_deciding.proofs.own.take_way.Goals as goal

pub returns : goal.returns
returns c =
    let found : Activity = c.index_mut-activity.result.now in
    let n : ℕ = c.len-kept.result in
    let gone : Onward = record { kept = n; replica = c.args.way.replica; next = c.args.way.next; stmts = c.args.way.stmts } in
    let many : n ≡ length found.doing.pending.items = c.len-kept.ensures ∙ found.doing.pending.ok.0 in
    under_way c.args.state.now _ c.args.p c.args.way gone found c.go_onward.new.activity n c.index_mut-activity.ensures.value refl many
    (take_all n found.doing.pending.items (omega arith)) c.go_onward.ensures.shown c.go_onward.ensures.left (c.go_onward.ensures.begin (omega arith))
    c.go_onward.ensures.names c.go_onward.ensures.line refl refl
