-- The end of an accept.
use Rattle.std.proofs.Common.{◌≡◌, ℕ, ◌+◌, ℤ, List, [], ◌++◌, drop, slice_get, Option, Some, IfSome, Ok, refl, sym, ap, ◌∙◌, subst, arith, inl}
use Rattle.pfc_code.specs.declared.instructions.Instr.TheVariants.{EACC}
use Rattle.pfc_code.specs.Images.{PlainImage}
use Rattle.pfc_meet.specs.Meetings.{IsInMeeting}
use Rattle.pfc_state.specs.Stands.{Is_ready}
use Rattle.pfc_world.specs.Tables.{Table, at}
use Rattle.pfc_world.specs.Transitions.{rested, placed}
use Rattle.pfc_semantics.specs.Programs.{Block, Program}
use Rattle.pfc_semantics.specs.Remainders.{Context, Remainder, parts}
use Rattle.pfc_semantics.specs.Rendezvous.{parted as parted_in_text}
use Rattle.pfc_semantics.specs.Rewriting.{Doing, going}
use Rattle.pfc_semantics.specs.Configurations.{Config}
use Rattle.pfc_translation.specs.Images.{image_of}
use Rattle.pfc_stacks.specs.Stacks.{stack_of, operands_of}
use Rattle.pfc_machines.specs.declared.machine.Machine.{Machine}
use Rattle.pfc_machines.specs.declared.descriptors.Descriptor.{Descriptor}
use Rattle.pfc_machines.specs.Actions.{at_rest, Effect as MachineEffect}
use Rattle.pfc_machines.specs.Descriptors.{descriptor_of}
use Rattle.pfc_machines.specs.Quiet.{left_by}
use Rattle.pfc_meeting_actions.specs.Meetings.{last_caller, parted_from}
use Rattle.pfc_machine_acts.specs.Performing.{silent}
use Rattle.pfc_standing_code.specs.Settings.{Trial, of_own, IsAt, parted}
use Rattle.pfc_standing_code.specs.Words.{IsChecked}
use Rattle.pfc_standing_code.specs.Performs.{IsCheckedFor, Performs}
use Rattle.pfc_standing_code.specs.Following.{DoesIn}
use Rattle.pfc_standing_code.specs.Effects.{Arm}
use Rattle.pfc_representation.specs.Levels.{Facts, program_in, LivingLevel, DoesOn}
use Rattle.pfc_representation.specs.Rooms.{own_address}
use Rattle.pfc_representation.specs.Callers.{IsWithin}
use Rattle.pfc_representation.specs.Machines.{machine_table}
use Rattle.pfc_representation.specs.Acting.{IsActing, HasArrived}
use Rattle.pfc_representation.specs.Actions.{ComeToSame, IsKept, AreKept}
use Rattle.pfc_kept_own_actions.proofs.Arrived.{stack_there, code_there, code_line, acts_now}
use Rattle.pfc_kept_own_actions.proofs.Alone.{can_go}
use Rattle.pfc_kept_own_actions.proofs.Within.{within_next}
use Rattle.pfc_kept_messages.proofs.Whole.{comes_then}
use Rattle.pfc_kept_meetings.specs.Groups.{EndsAccept}
use Rattle.pfc_kept_meetings.proofs.Lenders.{met_in_meeting}
use Rattle.pfc_kept_meetings.proofs.Settled.{settled, beside_then}
use Rattle.pfc_kept_meetings.proofs.Parting as parting
use Rattle.pfc_kept_meetings.proofs.Parting.{first_of, waits_in_meeting, parts_behind}

module _ (facts : Facts) (m : Machine) (c : Config) (p choice : ℕ) (level : LivingLevel) (x : Context) (caller : ℕ) (k : Remainder)
    (own : level.setting.trial ≡ of_own) (acting : IsActing facts m c p level) (arrived : HasArrived facts m c p level (parts x caller k)) (b : Block)
    (checked : IsChecked level.setting b x.env) (none : level.arms ≡ []) where
  abbrev here : ℕ
  here = (stack_of m.stacks p).at

  abbrev ops : List ℤ
  ops = operands_of m.stacks p

  abbrev image : PlainImage
  image = image_of facts.tree

  abbrev g : Program
  g = program_in facts

  abbrev d : Descriptor
  d = descriptor_of m.descriptors p

  abbrev doing : Doing
  doing = going x.env k

  abbrev level' : LivingLevel
  level' = settled level level.setting.view (drop 1 level.setting.accepts) (drop 1 level.setting.meetings)

  module _ (there : IsAt level.setting here EACC x.line) (last : slice_get level.setting.meetings 0 ≡ Some caller)
      (checked_then : IsCheckedFor (parted level.setting) b x.env k) (rest : Performs (parted level.setting) b x.env (here + 1) ops [] k) where
    does : DoesOn level' (here + 1) ops doing
    does = (
      arrived.room,
      arrived.arms,
      inl (
        b,
        beside_then level level.setting.view (drop 1 level.setting.accepts) (drop 1 level.setting.meetings) level.setting.block b checked.beside,
        subst (λ (arms : List Arm). DoesIn (parted level.setting) b (here + 1) ops arms doing) (sym none) (checked_then, rest),
      ),
    )

    own_within : IsWithin facts level here d.communications
    own_within = subst (λ (t : Trial). IsWithin facts level (own_address t here) d.communications) own arrived.within

    within : IsWithin facts level (here + 1) d.communications
    within = within_next facts level here d.communications EACC own_within (code_there facts m c p level acting here EACC x.line there) refl

    -- the caller is the last of those in its meetings
    is_last : last_caller p m ≡ Some caller
    is_last =
        ap (λ (xs : List ℕ). slice_get xs 0) acting.actor.stands.seen.met
        ∙ ap (λ (xs : List ℕ). slice_get (xs ++ acting.actor.stands.seen.others) 0) (first_of level.setting.meetings caller last)

    abbrev parted_so : Option ℕ → MachineEffect
    parted_so q = Ok (parted_from q p (at_rest (left_by m p 0)))

    abbrev machine_parted : Table → MachineEffect
    machine_parted world = Ok (record m {
      stacks = parting.stacks facts m c p level acting own caller last (here + 1) ops doing x.line does within;
      descriptors = parting.descriptors facts m c p level acting own caller last (here + 1) ops doing x.line does within;
      world = world;
    })

    world_is : placed (rested m.world) caller Is_ready ≡ machine_table facts (placed c.table caller Is_ready)
    world_is =
        ap (λ (w : Table). placed (rested w) caller Is_ready) acting.world
        ∙ ap (λ (who : Option ℕ). record (machine_table facts (placed c.table caller Is_ready)) { acting = who }) (sym acting.alike.between.acting)

    same : ComeToSame facts m c p x.line (silent (parted_so (Some caller))) (parted_in_text g c p x caller k)
    same =
        comes_then facts m c p level acting x.line
        (parting.activities facts m c p level acting own caller last (here + 1) ops doing x.line does within)
        (parting.descriptors facts m c p level acting own caller last (here + 1) ops doing x.line does within)
        c.store (parting.stacks facts m c p level acting own caller last (here + 1) ops doing x.line does within) (placed c.table caller Is_ready)
        (parts_behind facts m c p level acting own caller last (here + 1) ops doing x.line does within)
        (placed (rested m.world) caller Is_ready) world_is

    in_meeting : IfSome (last_caller p m) (λ (q : ℕ). IsInMeeting (at m.world.rows q))
    in_meeting =
        subst (λ (o : Option ℕ). IfSome o (λ (q : ℕ). IsInMeeting (at m.world.rows q))) (sym is_last)
        (subst (λ (w : Table). IsInMeeting (at w.rows caller)) (sym acting.world)
        (met_in_meeting (at c.table.rows caller) p (waits_in_meeting facts m c p level acting own caller last)))

    pub part_kept : IsKept facts m c p choice (parts x caller k)
    part_kept =
        record {
          instr = EACC;
          is = code_there facts m c p level acting here EACC x.line there;
          can_step = record {
            stack = stack_there facts m c p level acting;
            performed = record { held = grind arith; room = grind arith; reach = tt };
            goes = λ outward. can_go facts m c p level acting EACC x.line there refl (grind arith) arrived.within;
          };
          no_move = tt;
          can_do = record { acting = acts_now facts m c p level acting EACC x.line there; can = in_meeting };
          line = code_line facts m c p level acting here EACC x.line there;
          choices = refl;
          same =
              subst (λ (q : Option ℕ). ComeToSame facts m c p x.line (silent (parted_so q)) (parted_in_text g c p x caller k)) (sym is_last) same;
        }

pub ends_kept : AreKept EndsAccept
ends_kept facts m c p choice level (parts x caller k) is acting arrived chosen =
    let (b, checked, by) = arrived.arrived in
    part_kept facts m c p choice level x caller k by.0.0 acting arrived b checked by.0.1 by.1.0 by.1.1 by.1.2 by.1.3
ends_kept facts m c p choice level n is acting arrived chosen = absurd is
