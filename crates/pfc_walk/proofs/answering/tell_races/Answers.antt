use Rattle.std.proofs.Common.{IfErr, IfOk, List, ℕ, subst, sym}
use Rattle.std.specs.Io.KnownBytes.{Appends}
use Rattle.std.proofs.KnownBytes.{Appends-nil}
use Rattle.pfc_io.specs.Writes.{AppendsFront}
use Rattle.pfc_tree.specs.views.Parts.{tree_view}
use Rattle.pfc_outcome.specs.Loaded.{asks}
use Rattle.pfc_outcome.specs.Requests.{settings_of}
use Rattle.pfc_outcome.specs.declared.walk_options.Shown.{Shown}
use Rattle.pfc_walk.specs.Traces.{races_shown}
use Rattle.pfc_walk.proofs.RunRaces.{none_shown}
use Rattle.pfc_walk.proofs.answering.tell_races.Goals as goal

pub returns-in-Races-clause-whole : goal.returns-in-Races-clause-whole
returns-in-Races-clause-whole g c = λ policy given.
    subst
    (λ (s : Shown). IfOk c.say_races.result
    (λ done. Appends (g.O.Sink.written c.args.sink.now) (g.O.Sink.written c.say_races.new.sink) (races_shown s (tree_view c.args.sound.now.checked.0)
    (settings_of (asks c.args.options.now c.args.loaded.now) policy))))
    (sym c.in-Races.is) (c.say_races.ensures.whole policy given)

pub returns-in-Races-clause-front : goal.returns-in-Races-clause-front
returns-in-Races-clause-front g c = λ policy given.
    subst
    (λ (s : Shown). IfErr c.say_races.result
    (λ stop. AppendsFront (g.O.Sink.written c.args.sink.now) (g.O.Sink.written c.say_races.new.sink) (races_shown s (tree_view c.args.sound.now.checked.0)
    (settings_of (asks c.args.options.now c.args.loaded.now) policy))))
    (sym c.in-Races.is) (c.say_races.ensures.front policy given)

pub returns-clause-whole : goal.returns-clause-whole
returns-clause-whole g c = λ policy given.
    subst (λ (bytes : List ℕ). Appends (g.O.Sink.written c.args.sink.now) (g.O.Sink.written c.args.sink.now) bytes)
    (sym (none_shown c.args.shown (tree_view c.args.sound.now.checked.0)
    (settings_of (asks c.args.options.now c.args.loaded.now) policy) c.in_default.not-Races))
    (Appends-nil (g.O.Sink.written c.args.sink.now))
