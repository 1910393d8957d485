-- The objects at which an action synchronises, by what is held.
use Rattle.std.specs.Prelude.{ℕ, List, [], ◌∷◌, ◌++◌, get_or, if◌then◌else◌}
use Rattle.pfc_types.specs.Blocks.{Blocks, module_at}
use Rattle.pfc_store.specs.Views.{spot_view, store_view}
use Rattle.pfc_semantics.specs.Objects.{module_number}
use Rattle.pfc_semantics.specs.Store.{Store}
use Rattle.pfc_semantics.specs.Displays.{Display, Spot}
use Rattle.pfc_semantics.specs.Remainders.{Offer, Open, to_send, to_receive, to_accept, to_wait, to_end}
use Rattle.pfc_semantics.specs.Events.{Thing, a_semaphore, a_channel, a_monitor, a_resource, an_owner, innermost_things}
use Rattle.pfc_pending.specs.Selects.{offer_view, opens_view}
use Rattle.pfc_pending.specs.declared.actions.Deed.{Deed}
use Rattle.pfc_pending.specs.declared.actions.Deed.TheVariants as deed
use Rattle.pfc_pending.specs.declared.pending.Callee.{Callee}
use Rattle.pfc_pending.specs.declared.pending.Callee.TheVariants as callee
use Rattle.pfc_activities.specs.declared.activities.Activation.{Activation}
use Rattle.pfc_activities.specs.declared.activities.Activity.{Activity}
use Rattle.pfc_activities.specs.declared.source.Source.{Source}
use Rattle.pfc_activities.specs.declared.state.State.{State}
use Rattle.pfc_activities.specs.Views.{activations_view}
use Rattle.pfc_meeting.specs.Opens.{number_in}

abbrev pub open_thing_in : Store → Display → ℕ → Offer → List Thing
open_thing_in store display p (to_send channel v) = a_channel (number_in store display channel) ∷ []
open_thing_in store display p (to_receive channel target) = a_channel (number_in store display channel) ∷ []
open_thing_in store display p (to_accept a) = an_owner p ∷ []
open_thing_in store display p (to_wait n) = []
open_thing_in store display p to_end = []

abbrev pub open_things_in : Store → Display → ℕ → List Open → List Thing
open_things_in store display p [] = []
open_things_in store display p (o ∷ os) = open_thing_in store display p o.offer ++ open_things_in store display p os

-- the object that a module of the text is
abbrev pub module_thing_in : Blocks → ℕ → Thing
module_thing_in b n = if (module_at b n).resource then a_resource (module_number b n) else a_monitor (module_number b n)

-- that of the innermost activation
abbrev pub innermost_in : Source → List Activation → List Thing
innermost_in source activations = innermost_things (activations_view source.program.tables activations)

abbrev pub callee_things : Source → Store → Activity → Callee → List Thing
callee_things source store own (callee.Module n i) = module_thing_in source.program.tables.scopes.now n ∷ []
callee_things source store own (callee.Requeue i) = innermost_in source own.activations.items
callee_things source store own (callee.Entry spot entry) = an_owner (number_in store own.display (spot_view spot)) ∷ []
callee_things source store own _ = []

-- the monitor of a condition
abbrev pub monitor_in : State → Display → Spot → ℕ
monitor_in s display spot = get_or s.monitors.owners (number_in (store_view s.store) display spot) 0

abbrev pub things_held : Source → State → Activity → ℕ → Deed → List Thing
things_held source s own p (deed.Calls callee args) = callee_things source (store_view s.store) own callee
things_held source s own p (deed.Finishes line) = innermost_in source own.activations.items
things_held source s own p (deed.Initials spot n) = a_semaphore (number_in (store_view s.store) own.display (spot_view spot)) ∷ []
things_held source s own p (deed.Waits spot) = a_semaphore (number_in (store_view s.store) own.display (spot_view spot)) ∷ []
things_held source s own p (deed.Signals spot) = a_semaphore (number_in (store_view s.store) own.display (spot_view spot)) ∷ []
things_held source s own p (deed.AsksEmpty spot) = a_monitor (monitor_in s own.display (spot_view spot)) ∷ []
things_held source s own p (deed.Delays spot n) = a_monitor (monitor_in s own.display (spot_view spot)) ∷ []
things_held source s own p (deed.Resumes spot) = a_monitor (monitor_in s own.display (spot_view spot)) ∷ []
things_held source s own p (deed.Meets offer) = open_thing_in (store_view s.store) own.display p (offer_view offer)
things_held source s own p (deed.Decides select) = open_things_in (store_view s.store) own.display p (opens_view select.offered.items)
things_held source s own p (deed.Parts caller) = an_owner p ∷ []
things_held source s own p (deed.Scans scan) = a_resource scan.resource ∷ []
things_held source s own p (deed.Bars b) = a_resource b.resource ∷ []
things_held source s own p (deed.Passes tried scan) = a_resource scan.resource ∷ []
things_held source s own p _ = []
