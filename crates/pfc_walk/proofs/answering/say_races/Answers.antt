use Rattle.std.proofs.Common.{◌≡◌, IfErr, IfOk, List, ℕ, ap, ◌∙◌, subst}
use Rattle.std.specs.Io.KnownBytes.{Appends}
use Rattle.pfc_io.specs.Writes.{AppendsFront}
use Rattle.pfc_io.proofs.Written.{AppendsFront-none}
use Rattle.pfc_sched.specs.declared.picking.Policy.{Policy}
use Rattle.pfc_tree.specs.views.Parts.{tree_view}
use Rattle.pfc_outcome.specs.Loaded.{asks}
use Rattle.pfc_outcome.specs.Requests.{policy_of, settings_of}
use Rattle.pfc_walk.specs.Traces.{races_by}
use Rattle.pfc_walk.proofs.Outcomes.{err_always}
use Rattle.pfc_walk.proofs.RunRaces.{one_policy}
use Rattle.pfc_walk.proofs.answering.say_races.Goals as goal

pub returns-in_default-clause-front : goal.returns-in_default-clause-front
returns-in_default-clause-front g c = λ policy given. AppendsFront-none (g.O.Sink.written c.args.sink.now) _

pub returns-in_err-lines-clause-front : goal.returns-in_err-lines-clause-front
returns-in_err-lines-clause-front g c = λ policy given.
    err_always c.from_residual.result _ (AppendsFront-none (g.O.Sink.written c.args.sink.now) _)

pub returns-clause-whole : goal.returns-clause-whole
returns-clause-whole g c = λ policy given.
    let tree = tree_view c.args.sound.now.checked.0 in
    let request = asks c.args.options.now c.args.loaded.now in
    let same = one_policy (policy_of request) c.in-Ok.policy policy c.in-Ok.ensures.picks given in
    subst (λ (bytes : List ℕ). IfOk c.say.result (λ done. Appends (g.O.Sink.written c.args.sink.now) (g.O.Sink.written c.say.new.sink) bytes))
    (c.deref.ensures.value ∙ c.in_ok-lines.ensures ∙ ap (λ (p : Policy). races_by tree (settings_of request p)) same) c.say.ensures.whole

pub returns-clause-front : goal.returns-clause-front
returns-clause-front g c = λ policy given.
    let tree = tree_view c.args.sound.now.checked.0 in
    let request = asks c.args.options.now c.args.loaded.now in
    let same = one_policy (policy_of request) c.in-Ok.policy policy c.in-Ok.ensures.picks given in
    subst (λ (bytes : List ℕ). IfErr c.say.result (λ stop. AppendsFront (g.O.Sink.written c.args.sink.now) (g.O.Sink.written c.say.new.sink) bytes))
    (c.deref.ensures.value ∙ c.in_ok-lines.ensures ∙ ap (λ (p : Policy). races_by tree (settings_of request p)) same) c.say.ensures.front
