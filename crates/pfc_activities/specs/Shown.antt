-- What of a process there is to see: how it goes on, and not by which remainder.
use Rattle.std.specs.Prelude.{ℕ, List, map}
use Rattle.pfc_program.specs.declared.tables.Tables.{Tables}
use Rattle.pfc_semantics.specs.Displays.{Display}
use Rattle.pfc_semantics.specs.Remainders.{Action}
use Rattle.pfc_semantics.specs.Rewriting.{next}
use Rattle.pfc_semantics.specs.Configurations.{Activation, Hand, Activity}
use Rattle.pfc_activities.specs.declared.activities.Activity.{Activity as HeldActivity}
use Rattle.pfc_activities.specs.Views.{doing_ahead, activations_view, hand_view}

pub record Shown : Type 0 where
  pub next : Action
  pub display : Display
  pub activations : List Activation
  pub hand : Hand
  pub line : ℕ

-- a process of the definitions
abbrev pub shown : Activity → Shown
shown a = record { next = next a.doing; display = a.display; activations = a.activations; hand = a.hand; line = a.line }

-- a process of the code
abbrev pub activity_shown : Tables → HeldActivity → Shown
activity_shown t a =
    record {
      next = doing_ahead t a.doing;
      display = a.display;
      activations = activations_view t a.activations.items;
      hand = hand_view t a.doing a.hand;
      line = a.line;
    }

abbrev pub activities_shown : Tables → List HeldActivity → List Shown
activities_shown t activities = map (activity_shown t) activities
