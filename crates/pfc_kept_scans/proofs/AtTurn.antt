-- A process at a turn of its scan: what the machine has of the scan is what the source text has.
use Rattle.std.proofs.Common.{◌≡◌, ℕ, List, Option, Some, None, sym, ap, ◌∙◌, subst, ◌⊎◌, inl, inr}
use Rattle.pfc_world.specs.Holders.{holder_in}
use Rattle.pfc_semantics.specs.Remainders.{Way, Scan, leave, own}
use Rattle.pfc_semantics.specs.Configurations.{Activation, Config, activity_of}
use Rattle.pfc_stacks.specs.Stacks.{stack_of}
use Rattle.pfc_machines.specs.declared.machine.Machine.{Machine}
use Rattle.pfc_machines.specs.declared.descriptors.Descriptor.{Descriptor}
use Rattle.pfc_machines.specs.declared.descriptors.Scan.{Scan as MachineScan}
use Rattle.pfc_machines.specs.Descriptors.{descriptor_of}
use Rattle.pfc_standing_code.specs.Settings.{Trial, Attempt, of_own, of_turn, of_another}
use Rattle.pfc_standing_code.specs.Performs.{behind_scan}
use Rattle.pfc_standing_code.specs.Following.{IsTurnOf}
use Rattle.pfc_representation.specs.Levels.{Facts, program_in, LivingLevel}
use Rattle.pfc_representation.specs.Rooms.{own_address}
use Rattle.pfc_representation.specs.Callers.{IsWithin}
use Rattle.pfc_representation.specs.Holding.{Holders, holders_in, HoldsScanned}
use Rattle.pfc_representation.specs.Trials.{is_own, WayIs, TrialIs, HasTried}
use Rattle.pfc_representation.specs.Acting.{IsActing}

module _ (facts : Facts) (level : LivingLevel) (activations : List Activation) (back : ℕ) where
  -- whatever ticket it is past
  way_past : (scan : Scan) (after : Option ℕ) (way : Way) → WayIs facts level activations back scan way
      → WayIs facts level activations back (record scan { after = after }) way
  way_past scan after leave is = is
  way_past scan after (own bar) is = is

module _ (facts : Facts) (m : Machine) (c : Config) (p : ℕ) (level : LivingLevel) (acting : IsActing facts m c p level) (scan : Scan) where
  abbrev d : Descriptor
  d = descriptor_of m.descriptors p

  abbrev activations : List Activation
  activations = (activity_of (program_in facts) c p).activations

  abbrev h : Holders
  h = holders_in facts c

  -- where the process goes on behind the scan, and whose guard the machine has tried
  pub record IsAtTurnOf (back : ℕ) : Type 0 where
    pub tried : Option ℕ
    pub is : d.scan ≡ Some (record { back = back; after = scan.after; tried = tried; requeued = is_own scan.way })
    pub way : WayIs facts level activations back scan scan.way
    pub held : holder_in c.resources scan.resource ≡ Some p
    pub within : IsWithin facts level back d.communications

  abbrev before_turn : ℕ → Option ℕ → Scan → MachineScan
  before_turn back tried s = record { back = back; after = s.after; tried = tried; requeued = is_own s.way }

  past_another : (attempt : Attempt) → record attempt.scan { after = Some attempt.whom.ticket } ≡ scan
      → WayIs facts level activations attempt.back attempt.scan attempt.scan.way → WayIs facts level activations attempt.back scan scan.way
  past_another attempt turn way =
      subst (λ (s : Scan). WayIs facts level activations attempt.back s s.way) turn
      (way_past facts level activations attempt.back attempt.scan (Some attempt.whom.ticket) attempt.scan.way way)

  by_trial : (t : Trial) (at : ℕ) → IsTurnOf t scan
      → TrialIs t facts acting.homes acting.entries c.store m.stacks c.table p level activations d
      ⊎ HasTried t facts (stack_of m.stacks p) level activations d
      → HoldsScanned h p t → IsWithin facts level (own_address t at) d.communications → IsAtTurnOf (behind_scan t)
  by_trial of_own at turn is holds within = absurd turn
  by_trial (of_turn next back) at turn (inr is) holds within = absurd is
  by_trial (of_turn next back) at turn (inl is) holds within =
      record {
        tried = None;
        is = is.1 ∙ ap (λ (s : Scan). Some (before_turn back None s)) turn;
        way = subst (λ (s : Scan). WayIs facts level activations back s s.way) turn is.2;
        held = ap (λ (s : Scan). holder_in c.resources s.resource) (sym turn) ∙ holds;
        within = within;
      }
  by_trial (of_another attempt) at turn (inl is) holds within =
      record {
        tried = Some attempt.whom.process;
        is = is.scan ∙ ap (λ (s : Scan). Some (before_turn attempt.back (Some attempt.whom.process) s)) turn;
        way = past_another attempt turn is.way;
        held = ap (λ (s : Scan). holder_in c.resources s.resource) (sym turn) ∙ holds;
        within = within;
      }
  by_trial (of_another attempt) at turn (inr is) holds within =
      record {
        tried = None;
        is = is.1 ∙ ap (λ (s : Scan). Some (before_turn attempt.back None s)) turn;
        way = past_another attempt turn is.3;
        held = ap (λ (s : Scan). holder_in c.resources s.resource) (sym turn) ∙ holds;
        within = within;
      }

  pub at_turn : IsTurnOf level.setting.trial scan
      → IsWithin facts level (own_address level.setting.trial (stack_of m.stacks p).at) d.communications → IsAtTurnOf (behind_scan level.setting.trial)
  at_turn turn within =
      by_trial level.setting.trial (stack_of m.stacks p).at turn acting.actor.trial acting.actor.stands.holds.scanned within
