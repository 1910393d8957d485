-- The alternative that a decision takes, which communicates with its partner: what becomes of the process that decides.
use Rattle.std.proofs.Common.{◌≡◌, ℕ, ◌<◌, ℤ, List, [], length, slice_get, Some, ap, ◌∙◌, subst}
use Rattle.pfc_state.specs.declared.waits.Arm.{Arm as WaitArm}
use Rattle.pfc_world.specs.Partners.{partner}
use Rattle.pfc_world.specs.Selects.{communicated_with}
use Rattle.pfc_world.specs.Tables.{Table}
use Rattle.pfc_world.specs.Transitions.{rested}
use Rattle.pfc_semantics.specs.Programs.{Block, Program}
use Rattle.pfc_semantics.specs.Remainders.{Context, Selecting, Remainder, decides}
use Rattle.pfc_semantics.specs.Rewriting.{Doing, going}
use Rattle.pfc_semantics.specs.Channels as text
use Rattle.pfc_semantics.specs.Channels.{behind_open}
use Rattle.pfc_semantics.specs.Configurations.{empty_hand, Activity, Config, activity_of, with_table}
use Rattle.pfc_semantics.specs.Selects as text_selects
use Rattle.pfc_stacks.specs.Stacks.{stack_of, operands_of}
use Rattle.pfc_machines.specs.declared.machine.Machine.{Machine}
use Rattle.pfc_machines.specs.declared.descriptors.Descriptor.{Descriptor}
use Rattle.pfc_machines.specs.declared.alternatives.KeptAlternative.{KeptAlternative}
use Rattle.pfc_machines.specs.Communications.{Communicating}
use Rattle.pfc_machines.specs.Descriptors.{descriptor_of}
use Rattle.pfc_machines.specs.Offers.{communications, without}
use Rattle.pfc_select_actions.specs.Selects as machine
use Rattle.pfc_select_actions.specs.Selects.{open_count, open_ones, open_arms, matched_places}
use Rattle.pfc_standing_code.specs.Settings.{of_own}
use Rattle.pfc_standing_code.specs.Words.{IsChecked}
use Rattle.pfc_standing_code.specs.Following.{ArrivedBy}
use Rattle.pfc_following_source.specs.Behind.{GoesOnAt, branch_of}
use Rattle.pfc_representation.specs.Levels.{Facts, program_in, LivingLevel}
use Rattle.pfc_representation.specs.Rooms.{IsInBlock, LeadsWithin}
use Rattle.pfc_representation.specs.Acting.{IsActing, HasArrived}
use Rattle.pfc_kept_meetings.proofs.selects.Same.{AtPlace, at_place, branch_is}
use Rattle.pfc_kept_meetings.proofs.selects.Gone.{HasBranches}
use Rattle.pfc_kept_meetings.proofs.selects.Alone.{DecidesAlone}
use Rattle.pfc_kept_meetings.proofs.selects.Both as both
use Rattle.pfc_kept_meetings.proofs.selects.Unmatched.{its_branches, gone_alone}
use Rattle.pfc_kept_meetings.proofs.selects.Deciding.{leads, matched_same}
use Rattle.pfc_kept_meetings.proofs.selects.Taken.{IsTaken, taken, machine_takes, text_takes}

module _ (facts : Facts) (m : Machine) (c : Config) (p choice : ℕ) (level : LivingLevel) (x : Context) (sel : Selecting) (k : Remainder)
    (acting : IsActing facts m c p level) (arrived : HasArrived facts m c p level (decides x sel k)) (own : level.setting.trial ≡ of_own) (b : Block)
    (checked : IsChecked level.setting b x.env)
    (by : ArrivedBy level.setting b (stack_of m.stacks p).at (operands_of m.stacks p) level.arms (decides x sel k)) (i : ℕ)
    (less : i < length (text_selects.matched_places (program_in facts) c p sel)) where
  abbrev g : Program
  g = program_in facts

  abbrev a : Activity
  a = activity_of g c p

  abbrev d : Descriptor
  d = descriptor_of m.descriptors p

  abbrev pub ops : List ℤ
  ops = operands_of m.stacks p

  abbrev pub n : ℕ
  n = open_count m p

  abbrev wanted : List WaitArm
  wanted = text.arms_of_all g c p sel.offered

  pub which : IsTaken c.table.rows p wanted i
  which = taken c.table.rows p wanted i less

  abbrev pub IsChosen : Type 0
  IsChosen =
      AtPlace c p g level.setting b x (both.number facts m c p level acting own b x checked sel.offered k) facts (length a.activations)
      d.communications.words ops k sel.offered level.arms (both.kept_ones facts m c p level acting own b x checked sel.offered k) which.place which.arm

  pub chosen : IsChosen
  chosen =
      at_place c p g level.setting b x (both.number facts m c p level acting own b x checked sel.offered k) facts (length a.activations)
      d.communications.words ops k sel.offered level.arms (both.kept_ones facts m c p level acting own b x checked sel.offered k) by.1.1
      (both.kept facts m c p level acting own b x checked sel.offered k)
      (leads facts m c p choice level x sel k acting arrived own b checked by).1 which.place which.arm which.listed

  -- ## What is taken

  places_are : matched_places m p ≡ text_selects.matched_places g c p sel
  places_are = matched_same facts m c p choice level x sel k acting arrived own b checked by

  arms_are : open_arms m p ≡ wanted
  arms_are = both.arms_are facts m c p level acting own b x checked sel.offered k by.1.1

  ones_are : open_ones m p ≡ both.kept_ones facts m c p level acting own b x checked sel.offered k
  ones_are = both.ones_are facts m c p level acting own b x checked sel.offered k

  pub place_there : slice_get (matched_places m p) i ≡ Some which.place
  place_there = ap (λ (ns : List ℕ). slice_get ns i) places_are ∙ which.among

  pub arm_there : slice_get (open_arms m p) which.place ≡ Some which.arm
  arm_there = ap (λ (ws : List WaitArm). slice_get ws which.place) arms_are ∙ which.listed

  pub own_there : slice_get (communications (open_ones m p)) which.place ≡ Some chosen.kept
  own_there = ap (λ (ks : List KeptAlternative). slice_get (communications ks) which.place) ones_are ∙ chosen.in_machine

  pub met_there : partner m.world.rows p which.arm ≡ Some which.whom
  met_there = ap (λ (w : Table). partner w.rows p which.arm) acting.world ∙ which.met

  pub on_machine : machine.takes_matched i p m
      ≡ machine.communicates_by chosen.kept.alternative.offer chosen.kept n p which.whom
      (record m { world = rested (communicated_with (Some which.whom) m.world p which.arm) })
  on_machine = machine_takes m p i which.place which.whom which.arm chosen.kept place_there arm_there own_there met_there

  pub in_text : text_selects.takes_matched g c p x sel k i
      ≡ with_table (text_selects.communicates_by g c p x chosen.o k which.whom chosen.o.offer (Some which.arm))
      (communicated_with (Some which.whom) c.table p which.arm)
  in_text = text_takes g c p x sel k i which.place which.whom which.arm chosen.o which.among which.listed chosen.in_text chosen.is which.met

  -- ## Where the process goes on

  abbrev pub branch : ℕ
  branch = chosen.kept.alternative.branch

  abbrev pub doing : Doing
  doing = going x.env (behind_open chosen.o k)

  abbrev pub latest : Communicating
  latest = without n d.communications

  abbrev branches : HasBranches facts acting.homes acting.entries c.store c.table p level latest
  branches =
      its_branches facts m c p level acting own b x checked sel k by.1.1 (leads facts m c p choice level x sel k acting arrived own b checked by).1
      arrived.arms arrived.within arrived.room

  leads_to : branch_of chosen.arm.by ≡ branch
  leads_to =
      branch_is (length a.activations) chosen.arm.by chosen.arm.operands chosen.kept.alternative chosen.is_kept.words chosen.is_kept.made

  -- it goes on behind its alternative, and all that it had made is gone
  pub alone : ((j : ℕ) → LeadsWithin facts j chosen.arm.by → IsInBlock facts j (branch_of chosen.arm.by))
      → GoesOnAt level.setting b (branch_of chosen.arm.by) ops [] doing
      → DecidesAlone facts m c p level acting own [] latest d.offered c.table branch doing empty_hand x.line
  alone within goes =
      gone_alone facts m c p level acting own b x checked sel k by.1.1 (leads facts m c p choice level x sel k acting arrived own b checked by).1
      arrived.arms arrived.within arrived.room branch doing
      (subst (λ j. IsInBlock facts branches.number j) leads_to (within branches.number (chosen.leads branches.number branches.branches)))
      (subst (λ j. GoesOnAt level.setting b j ops [] doing) leads_to goes)
