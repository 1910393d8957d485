use Rattle.std.proofs.Common.{◌≡◌, ℕ, List, refl, subst, ap, ◌∙◌}
use Rattle.pfc_io.proofs.Written.{AppendsFront-append, AppendsFront-none}
use Rattle.pfc_tree.specs.declared.tree.Tree.{Tree}
use Rattle.pfc_tree.specs.views.Parts.{tree_view}
use Rattle.pfc_semantics.specs.Programs.{Program, program_of}
use Rattle.pfc_semantics.specs.Configurations.{start}
use Rattle.pfc_walker.specs.Walks.{Walks}
use Rattle.pfc_outcome.specs.Loaded.{asks}
use Rattle.pfc_outcome.specs.Outcomes.{behind}
use Rattle.pfc_outcome.specs.Requests.{settings_of}
use Rattle.pfc_walk.specs.Traces.{run_told}
use Rattle.pfc_walk.proofs.Courses.{labels_are}
use Rattle.pfc_walk.proofs.Outcomes.{stopped_written, written_behind}
use Rattle.pfc_walk.proofs.running.run_source.Goals as goal

pub returns-in_err-labels-clause-written : goal.returns-in_err-labels-clause-written
returns-in_err-labels-clause-written g c =
    stopped_written c.from_residual.result _ c.from_residual.ensures.1 (behind c.args.listing.now (run_told c.args.told (tree_view c.args.sound.now.checked.0)
    (settings_of (asks c.args.options.now c.args.loaded.now) c.args.policy)))
    (g.O.Sink.written c.args.sink.now) (g.O.Sink.written c.args.sink.now) (AppendsFront-none (g.O.Sink.written c.args.sink.now) _)

pub returns-in_err-walker-clause-written : goal.returns-in_err-walker-clause-written
returns-in_err-walker-clause-written g c =
    stopped_written c.from_residual-in_err-walker.result _ c.from_residual-in_err-walker.ensures.1
    (behind c.args.listing.now (run_told c.args.told (tree_view c.args.sound.now.checked.0)
    (settings_of (asks c.args.options.now c.args.loaded.now) c.args.policy)))
    (g.O.Sink.written c.args.sink.now) (g.O.Sink.written c.args.sink.now) (AppendsFront-none (g.O.Sink.written c.args.sink.now) _)

pub returns-in_err-say-clause-written : goal.returns-in_err-say-clause-written
returns-in_err-say-clause-written g c =
    stopped_written c.from_residual-in_err-say.result _ c.from_residual-in_err-say.ensures.1
    (behind c.args.listing.now (run_told c.args.told (tree_view c.args.sound.now.checked.0)
    (settings_of (asks c.args.options.now c.args.loaded.now) c.args.policy)))
    (g.O.Sink.written c.args.sink.now) (g.O.Sink.written c.say.new.sink) (AppendsFront-append (g.O.Sink.written c.args.sink.now)
    (g.O.Sink.written c.say.new.sink) _ _ c.in_err-say.ensures.front)

pub walk_on-requires : goal.walk_on-requires
walk_on-requires g c =
    let tree = tree_view c.args.sound.now.checked.0 in (
      tree,
      settings_of (asks c.args.options.now c.args.loaded.now) c.args.policy,
      record {
        walks =
            subst (λ (input : List ℕ). Walks c.in_ok-walker.walker (program_of tree) (start (program_of tree) input c.args.options.now.seed)) c.bytes.ensures
            (subst (λ (p : Program). Walks c.in_ok-walker.walker p (start p c.bytes.result.now c.args.options.now.seed))
            c.requires c.in_ok-walker.ensures.walks);
        labels =
            c.in_ok-labels.ensures
            ∙ labels_are tree c.args.source.now.program (ap (λ (p : Program). p.state) c.requires) (ap (λ (p : Program). p.blocks) c.requires) _
            (ap (λ (t : Tree). t.name.0) c.tree.ensures.value);
        picks = refl;
        most = refl;
      },
    )

pub returns-clause-written : goal.returns-clause-written
returns-clause-written g c =
    let tree = tree_view c.args.sound.now.checked.0 in
    let settings = settings_of (asks c.args.options.now c.args.loaded.now) c.args.policy in
    written_behind c.args.listing.now (run_told c.args.told tree settings) c.walk_on.result (g.O.Sink.written c.args.sink.now)
    (g.O.Sink.written c.say.new.sink) (g.O.Sink.written c.walk_on.new.sink)
    c.in_ok-say.ensures.whole (c.walk_on.ensures.written tree settings
    (record {
      walks =
          subst (λ (input : List ℕ). Walks c.in_ok-walker.walker (program_of tree) (start (program_of tree) input c.args.options.now.seed)) c.bytes.ensures
          (subst (λ (p : Program). Walks c.in_ok-walker.walker p (start p c.bytes.result.now c.args.options.now.seed)) c.requires c.in_ok-walker.ensures.walks);
      labels =
          c.in_ok-labels.ensures
          ∙ labels_are tree c.args.source.now.program (ap (λ (p : Program). p.state) c.requires) (ap (λ (p : Program). p.blocks) c.requires) _
          (ap (λ (t : Tree). t.name.0) c.tree.ensures.value);
      picks = refl;
      most = refl;
    }))
