-- What the code keeps of a process, as the definitions know it.
use Rattle.std.specs.Prelude.{ℕ, List, map, reverse, take}
use Rattle.pfc_program.specs.declared.tables.Tables.{Tables}
use Rattle.pfc_program.specs.Views.{names_view}
use Rattle.pfc_store.specs.Views.{values_view}
use Rattle.pfc_semantics.specs.Remainders.{Context, Remainder, Action}
use Rattle.pfc_semantics.specs.Alternatives.{context}
use Rattle.pfc_semantics.specs.Configurations as configurations
use Rattle.pfc_semantics.specs.Configurations.{plain, of_monitor, of_resource, of_nobody, of_remainder, of_value, empty_hand, offering, asking, barred_at}
use Rattle.pfc_pending.specs.Ahead.{ahead, deed_ahead}
use Rattle.pfc_pending.specs.Selects.{opens_view}
use Rattle.pfc_pending.specs.Waiting.{Waiting, remainder_of, awaits_of, waiting, bar_view}
use Rattle.pfc_pending.specs.declared.actions.Deed.{Deed}
use Rattle.pfc_pending.specs.declared.at_hand.At.{At}
use Rattle.pfc_activities.specs.declared.activities.Activation.{Activation}
use Rattle.pfc_activities.specs.declared.activities.Activity.{Activity}
use Rattle.pfc_activities.specs.declared.activities.Caller.{Caller}
use Rattle.pfc_activities.specs.declared.activities.Caller.TheVariants as caller
use Rattle.pfc_activities.specs.declared.activities.Doing.{Doing}
use Rattle.pfc_activities.specs.declared.activities.Mark.{Mark}
use Rattle.pfc_activities.specs.declared.activities.Mark.TheVariants as mark
use Rattle.pfc_activities.specs.declared.hands.Hand.{Hand}
use Rattle.pfc_activities.specs.declared.hands.Hand.TheVariants as hand
use Rattle.pfc_activities.specs.declared.hands.Offering.{Offering}

-- ## What a process is at

abbrev pub context_of : Tables → Doing → Context
context_of t d = context (names_view t d.names) d.line

abbrev pub pending_of : Tables → Doing → Waiting
pending_of t d = waiting t d.pending.items

-- the one action that comes next
abbrev pub doing_ahead : Tables → Doing → Action
doing_ahead t d = ahead t (context_of t d) (pending_of t d) d.at

-- an action of the process, over what is pending
abbrev pub deed_of : Tables → Doing → Deed → Action
deed_of t d deed = deed_ahead t (context_of t d) (pending_of t d) deed

-- what would come next with this at hand
abbrev pub ahead_of : Tables → Doing → At → Action
ahead_of t d at = ahead t (context_of t d) (pending_of t d) at

-- ## Changes of a process

-- it has this at hand, and shows nothing
abbrev pub at_work : Activity → At → Activity
at_work a at = record a { doing = record a.doing { at = at }; hand = hand.Empty }

abbrev pub at_line : Activity → ℕ → Activity
at_line a line = record a { line = line }

-- ## Activations

abbrev pub mark_view : Mark → configurations.Mark
mark_view mark.Plain = plain
mark_view (mark.Monitor m) = of_monitor m
mark_view (mark.Resource r) = of_resource r

abbrev pub caller_view : Tables → Caller → configurations.Caller
caller_view t caller.Nobody = of_nobody
caller_view t (caller.Remainder names pending) = of_remainder (names_view t names) (remainder_of (waiting t pending.items))
caller_view t (caller.Value names line pending) = of_value (context (names_view t names) line) (awaits_of (waiting t pending.items))

abbrev pub activation_view : Tables → Activation → configurations.Activation
activation_view t a =
    record { number = a.number; scope = a.scope; mark = mark_view a.mark; caller = caller_view t a.caller; display = a.display; cells = a.cells }

-- the definitions have the innermost first
abbrev pub activations_view : Tables → List Activation → List configurations.Activation
activations_view t activations = reverse (map (activation_view t) activations)

-- ## Hands

-- what is left behind each alternative
abbrev pub kept_of : Tables → Doing → Offering → Remainder
kept_of t d o = remainder_of (waiting t (take o.kept d.pending.items))

abbrev pub hand_view : Tables → Doing → Hand → configurations.Hand
hand_view t d hand.Empty = empty_hand
hand_view t d (hand.Offering o) = offering (context (names_view t d.names) o.line) (opens_view o.opens.items) (kept_of t d o)
hand_view t d (hand.Asking args) = asking (values_view args.items)
hand_view t d (hand.Barred b) = barred_at (bar_view t b)
