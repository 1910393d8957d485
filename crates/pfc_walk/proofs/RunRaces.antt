-- The races of a walker's run are those of its tree, and what is written of them.
use Rattle.std.proofs.Common.{◌≡◌, ◌≢◌, ◌≤◌, ℕ, Bool, false, List, [], length, Result, Ok, refl, sym, ap, ◌∙◌, arith}
use Rattle.pfc_hb.specs.declared.events.Event.{Event}
use Rattle.pfc_sched.specs.Picks.{Picking, first_picking}
use Rattle.pfc_sched.specs.declared.picking.Policy.{Policy}
use Rattle.pfc_tree.specs.trees.Parts.{ProgramTree}
use Rattle.pfc_semantics.specs.Programs.{Program, program_of}
use Rattle.pfc_semantics.specs.Configurations.{Config, start}
use Rattle.pfc_races.specs.Laws.{AreFew}
use Rattle.pfc_races.specs.Ordered.{lines_of_races}
use Rattle.pfc_walker.specs.Watching.{events_from}
use Rattle.pfc_outcome.specs.Requests.{Settings}
use Rattle.pfc_outcome.specs.declared.walk_options.Shown.{Shown}
use Rattle.pfc_outcome.specs.declared.walk_options.Shown.TheVariants.{Output, Trace, Races}
use Rattle.pfc_walk.specs.Traces.{races_by, races_shown}

races_are :
    (tree : ProgramTree) (settings : Settings)
    → races_by tree settings
    ≡ lines_of_races (events_from (program_of tree) settings.limit (first_picking settings.policy) false (start (program_of tree) settings.input settings.seed))
unfolding races_by
races_are tree settings = refl

-- the events are those of the run
pub lines_are :
    (tree : ProgramTree) (settings : Settings) (picking : Picking) (waited : Bool) (events : List Event)
    → picking ≡ first_picking settings.policy → waited ≡ false
    → events ≡ events_from (program_of tree) settings.limit picking waited (start (program_of tree) settings.input settings.seed)
    → lines_of_races events ≡ races_by tree settings
lines_are tree settings picking waited events picks fresh is =
    let g : Program = program_of tree in
    let c : Config = start g settings.input settings.seed in
    ap lines_of_races
    (is ∙ ap (λ (x : Picking). events_from g settings.limit x waited c) picks
    ∙ ap (λ (b : Bool). events_from g settings.limit (first_picking settings.policy) b c) fresh)
    ∙ sym (races_are tree settings)

-- there are no more than actions that the run may do
pub few_events :
    (g : Program) (limit : ℕ) (picking : Picking) (waited : Bool) (c : Config) (events : List Event)
    → AreFew → events ≡ events_from g limit picking waited c → limit ≤ 2000 → length events ≤ 2000
few_events g limit picking waited c events few is most = omega (arith, few g limit picking c waited, ap length is, most)

-- none are shown where they are not asked for
pub none_shown : (shown : Shown) (tree : ProgramTree) (settings : Settings) → shown ≢ Races → races_shown shown tree settings ≡ []
none_shown Output tree settings other = refl
none_shown Trace tree settings other = refl
none_shown Races tree settings other = absurd (other refl)

-- a request has one policy
pub one_policy : (r : Result Policy ℕ) (a b : Policy) → r ≡ Ok a → r ≡ Ok b → a ≡ b
one_policy r a b x y = let same : Ok a ≡ Ok b = sym x ∙ y in cc
