-- Whoever has come to its action and has not done it may act again from there.
use Rattle.std.proofs.Common.{◌≡◌, ℕ, ◌<◌, Option, Some, List, set, refl, sym, ap, ◌∙◌, subst, arith}
use Rattle.std.proofs.lemmas.List.{set-get_or}
use Rattle.pfc_sched.specs.Picks.{Picking}
use Rattle.pfc_semantics.specs.Configurations.{Config}
use Rattle.pfc_semantics.specs.Steps.{next_of}
use Rattle.pfc_select_actions.specs.Selects.{takes_up}
use Rattle.pfc_machines.specs.declared.machine.Machine.{Machine}
use Rattle.pfc_machines.specs.declared.descriptors.Descriptor.{Descriptor}
use Rattle.pfc_machines.specs.Actions.{at_rest}
use Rattle.pfc_machines.specs.Descriptors.{descriptor_by, descriptor_of, withdrawn}
use Rattle.pfc_machines.specs.Offers.{without}
use Rattle.pfc_run_rules.specs.Rules.{KeepsToRules}
use Rattle.pfc_representation.specs.Levels.{Facts, program_in, LivingLevel}
use Rattle.pfc_representation.specs.Acting.{IsActing, HasArrived}
use Rattle.pfc_representation.specs.Machines.{Represents}
use Rattle.pfc_arrivals.specs.Arrivals.{begins, ActsAsItsSource, AreNumbered, ComesToAction, ComesAndStays, IsNextKept}
use Rattle.pfc_arrivals.proofs.Picked.{acts_from}

-- what offers nothing withdraws nothing
withdraws_nothing : (d : Descriptor) → d.offered ≡ 0 → withdrawn d ≡ d
withdraws_nothing d e =
    ap (λ (n : ℕ). record d { communications = without n d.communications; offered = 0 }) e ∙ ap (λ (n : ℕ). record d { offered = n }) (sym e)

begins_again : (m : Machine) (p : ℕ) → m.world.acting ≡ Some p → begins p (at_rest m) ≡ m
begins_again m p e = ap (λ (o : Option ℕ). record m { world = record m.world { acting = o } }) (sym e)

-- whoever stands before an action, with nothing offered, begins there again
stays : (m : Machine) (p : ℕ) → m.world.acting ≡ Some p → (descriptor_of m.descriptors p).offered ≡ 0 → takes_up p (begins p (at_rest m)) ≡ m
stays m p acts offers =
    ap (takes_up p) (begins_again m p acts)
    ∙ ap (λ (ds : List Descriptor). record m { descriptors = ds })
    (ap (λ (d : Descriptor). set m.descriptors p d) (withdraws_nothing (descriptor_of m.descriptors p) offers) ∙ set-get_or m.descriptors p (descriptor_by 0))

module _ (facts : Facts) (m : Machine) (c : Config) (p : ℕ) (level : LivingLevel) (acting : IsActing facts m c p level)
    (arrived : HasArrived facts m c p level (next_of (program_in facts) c p)) (represents : Represents facts (at_rest m) c) where
  stays_here : takes_up p (begins p (at_rest m)) ≡ m
  stays_here = stays m p (ap (λ w. w.acting) acting.world) acting.actor.offered

  abbrev comes_again : ComesToAction facts (at_rest m) c p
  comes_again = record {
    level = level;
    count = 0;
    before = m;
    run = sym stays_here;
    few = omega arith;
    acting = acting;
    arrived = arrived;
  }

  abbrev stays_again : ComesAndStays facts (at_rest m) c p
  stays_again = record { come = comes_again; stays = λ i is wants. represents }

  pub acts_again : (picking : Picking) → IsNextKept facts c p → AreNumbered facts → KeepsToRules (program_in facts) c p
      → (acts : ActsAsItsSource facts (at_rest m) c p picking) × (acts.may.before ≡ m)
  acts_again picking kept numbered rules = (
    acts_from facts (at_rest m) c p picking kept numbered rules acting.alike.program.short
        (subst (λ size. p < size) (sym acting.alike.words.descriptors) acting.actor.process) stays_again,
    refl,
  )
