-- The process gives the resource away and goes on behind its scan.
use Rattle.std.proofs.Common.{◌≡◌, ◌≢◌, ℕ, ◌+◌, ◌≤◌, ℤ, List, [], length, set, All, Option, Some, None, Ok, refl, sym, ap, subst, arith}
use Rattle.std.proofs.lemmas.List.{get_or-set_same}
use Rattle.pfc_state.specs.Stands.{Stand, Is_ready, is_unfinished}
use Rattle.pfc_world.specs.Holders.{Held, holder_in}
use Rattle.pfc_world.specs.Tables.{Table, at}
use Rattle.pfc_semantics.specs.Rewriting.{Doing}
use Rattle.pfc_semantics.specs.Configurations.{empty_hand, of_resource, Activation, Activity, Config, activity_of}
use Rattle.pfc_stacks.specs.Stacks.{Stack, no_stack, stack_of}
use Rattle.pfc_machines.specs.declared.machine.Machine.{Machine}
use Rattle.pfc_machines.specs.declared.descriptors.Descriptor.{Descriptor}
use Rattle.pfc_machines.specs.Descriptors.{descriptor_of}
use Rattle.pfc_machine_acts.specs.Performing.{silent}
use Rattle.pfc_standing_code.specs.Settings.{of_own}
use Rattle.pfc_standing_code.specs.Performs.{own_block, own_again}
use Rattle.pfc_following_source.specs.Behind.{GoesOnAt}
use Rattle.pfc_representation.specs.Levels.{Facts, program_in, LivingLevel, room_of}
use Rattle.pfc_representation.specs.Rooms.{guards_room}
use Rattle.pfc_representation.specs.Callers.{IsWithin}
use Rattle.pfc_representation.specs.Hands.{shows_nothing}
use Rattle.pfc_representation.specs.Holding.{holders_in, Holds}
use Rattle.pfc_representation.specs.Machines.{machine_table}
use Rattle.pfc_representation.specs.Acting.{IsActing}
use Rattle.pfc_representation.specs.Actions.{ComeToSame}
use Rattle.pfc_kept_own_actions.proofs.Arrived.{stack_there}
use Rattle.pfc_kept_scans.proofs.Behind.{holders_with, comes_then}
use Rattle.pfc_kept_scans.proofs.Others.{AreOthers, lender_still}
use Rattle.pfc_kept_scans.proofs.Levels.{own_level, does_own}
use Rattle.pfc_kept_scans.proofs.Giving.{WaitsFor}
use Rattle.pfc_kept_scans.proofs.Giving as give
use Rattle.pfc_kept_scans.proofs.Own.{top}
use Rattle.pfc_kept_scans.proofs.Step.{stack_apart, stacks, activities, descriptors, IsStep, behind_of}

-- what is left of the room for a guard
pub less : (n i j : ℕ) → n + i ≤ j → n ≤ j
less n i j h = grind (arith, h)

module _ (facts : Facts) (m : Machine) (c : Config) (p : ℕ) (level : LivingLevel) (acting : IsActing facts m c p level) (r : ℕ)
    (held : holder_in c.resources r ≡ Some p) (o : Option ℕ) (waits : (q : ℕ) → o ≡ Some q → WaitsFor r (at c.table.rows q)) (back : ℕ) (ops : List ℤ)
    (doing : Doing) (line : ℕ) where
  abbrev s : Stack
  s = stack_of m.stacks p

  abbrev a : Activity
  a = activity_of (program_in facts) c p

  abbrev d : Descriptor
  d = descriptor_of m.descriptors p

  abbrev pub given : Held
  given = give.given facts m c p level acting r held o waits

  abbrev pub ended : Stack
  ended = record s { at = back; operands = ops; looks_from = None }

  -- it has made no alternatives, and is in the resource no more
  pub record Leaves : Type 0 where
    pub none : level.arms ≡ []
    pub few : length level.arms ≤ level.setting.arms
    pub within : IsWithin facts level back d.communications
    pub goes : GoesOnAt (own_again level.setting) (own_block level.setting.trial level.setting.block) back ops [] doing
    pub left : All (λ (x : Activation). x.mark ≢ of_resource r) a.activations

  module _ (leaves : Leaves) where
    ready_still : at given.table.rows p ≡ Is_ready
    ready_still = give.given_mine facts m c p level acting r held o waits

    stack_here : stack_of (set m.stacks p ended) p ≡ ended
    stack_here = get_or-set_same m.stacks p ended no_stack (stack_there facts m c p level acting)

    are_others : AreOthers facts m c p level acting (set m.stacks p ended) given.table given.holders
    are_others =
        record {
          stack = λ q apart. stack_apart m.stacks p q ended apart;
          rows = λ q apart. give.given_rows facts m c p level acting r held o waits q;
          still = give.given_still facts m c p level acting r held o waits;
        }

    step : IsStep facts m c p level acting (own_level level) ended given.table given.holders None doing empty_hand line back ops None
    step =
        record {
          stack_is = refl;
          row_count = give.row_count facts m c p level acting r held o waits;
          resource_count = give.resource_count facts m c p level acting r held o waits;
          rests = give.rests facts m c p level acting r held o waits;
          done = (give.clock_same facts m c p level acting r held o waits).0;
          moment = (give.clock_same facts m c p level acting r held o waits).1;
          stands = give.given_stands facts m c p level acting r held o waits;
          others = are_others;
          mine = record {
            same = refl;
            arms = refl;
            here = stack_here;
            lenders = lender_still facts m c p level acting (set m.stacks p ended) given.table given.holders are_others p;
            unfinished = ap is_unfinished ready_still;
            holds =
                subst (λ (y : Stand). Holds (holders_with facts c given.holders) p y of_own a.activations) (sym ready_still)
                (give.holds_left facts m c p level acting r held o waits level.setting.trial a.activations leaves.left
                (subst (λ (y : Stand). Holds (holders_in facts c) p y level.setting.trial a.activations) acting.actor.ready acting.actor.stands.holds));
            room = less (room_of level) (guards_room facts) s.room (top facts m c p level acting).operands;
            within = leaves.within;
            shown = (acting.actor.offered, ap shows_nothing ready_still, does_own level back ops doing leaves.none leaves.few leaves.goes);
            trial = (ap (λ (y : Stack). y.looks_from) stack_here, refl);
          };
        }

    pub leaves_same : (world : Table) (holders : List (Option ℕ)) → world ≡ machine_table facts given.table → holders ≡ given.holders
        → ComeToSame facts m c p line
        (silent (Ok (record m {
          stacks = set m.stacks p ended;
          descriptors = set m.descriptors p (record d { scan = None });
          world = world;
          resources =
              holders;
        })))
        (Ok (record c { activities = set c.activities p (record a { doing = doing; hand = empty_hand }); table = given.table; resources = given.holders }))
    leaves_same world holders same held_same =
        comes_then facts m c p level acting line
        (activities facts m c p level acting (own_level level) ended given.table given.holders None doing empty_hand line)
        (descriptors facts m c p level acting (own_level level) ended given.table given.holders None doing empty_hand line)
        (stacks facts m c p level acting (own_level level) ended given.table given.holders None doing empty_hand line) given.table given.holders
        (behind_of facts m c p level acting (own_level level) ended given.table given.holders None doing empty_hand line back ops None step) world holders
        same held_same
