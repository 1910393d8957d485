use Rattle.std.proofs.Common.{◌≡◌, ◌≤◌, ℕ, List, ap, ◌∙◌, subst, sym, length}
use Rattle.std.proofs.lemmas.Result.{IfOk-weaker}
use Rattle.pfc_hb.specs.declared.events.Event.{Event}
use Rattle.pfc_tree.specs.views.Parts.{tree_view}
use Rattle.pfc_semantics.specs.Programs.{Program, program_of}
use Rattle.pfc_semantics.specs.Configurations.{start}
use Rattle.pfc_races.specs.Ordered.{lines_of_races}
use Rattle.pfc_walker.specs.Walks.{Walks}
use Rattle.pfc_outcome.specs.Loaded.{asks}
use Rattle.pfc_outcome.specs.Requests.{settings_of}
use Rattle.pfc_walk.proofs.RunRaces.{few_events, lines_are}
use Rattle.pfc_walk.proofs.racing.races_of_source.Goals as goal

pub events-requires : goal.events-requires
events-requires c = (_, _, c.in_ok-walker.ensures.walks)

pub lines-requires : goal.lines-requires
lines-requires c =
    let tree = tree_view c.args.sound.now.checked.0 in
    let began = start (program_of tree) c.args.loaded.now.input c.args.options.now.seed in
    let walks = subst (λ (input : List ℕ). Walks c.in_ok-walker.walker (program_of tree)
    (start (program_of tree) input c.args.options.now.seed)) c.bytes.ensures
    (subst (λ (p : Program). Walks c.in_ok-walker.walker p (start p c.bytes.result.now c.args.options.now.seed))
    c.requires.made c.in_ok-walker.ensures.walks) in
    subst (λ (events : List Event). length events ≤ 2000) (sym c.deref.ensures.value)
    (few_events (program_of tree) c.args.options.now.limit c.new-picker.result c.in_ok-walker.walker.waited began c.in_ok-events.events.items
    c.events_are_few.ensures (c.in_ok-events.ensures (program_of tree) began walks) c.requires.few)

pub returns : goal.returns
returns c =
    let tree = tree_view c.args.sound.now.checked.0 in
    let walks = subst (λ (input : List ℕ). Walks c.in_ok-walker.walker (program_of tree)
    (start (program_of tree) input c.args.options.now.seed)) c.bytes.ensures
    (subst (λ (p : Program). Walks c.in_ok-walker.walker p (start p c.bytes.result.now c.args.options.now.seed))
    c.requires.made c.in_ok-walker.ensures.walks) in
    IfOk-weaker c.lines.result _ _
    (λ lines h.
    h ∙ ap lines_of_races c.deref.ensures.value
    ∙ lines_are tree (settings_of (asks c.args.options.now c.args.loaded.now) c.args.policy) c.new-picker.result
    c.in_ok-walker.walker.waited c.in_ok-events.events.items
    c.new-picker.ensures c.in_ok-walker.ensures.unwaited
    (c.in_ok-events.ensures (program_of tree) (start (program_of tree) c.args.loaded.now.input c.args.options.now.seed) walks))
    c.lines.ensures
