-- How the order of a run's events sees what an action was.
use Rattle.std.specs.Prelude.{ℤ, Bool, List, map}
use Rattle.pfc_hb.specs.declared.accesses.Access.{Access as AccessSeen}
use Rattle.pfc_hb.specs.declared.accesses.Spot.{Spot as SpotSeen}
use Rattle.pfc_hb.specs.declared.events.Event.{Event as EventSeen}
use Rattle.pfc_hb.specs.declared.objects.Thing.{Thing as ThingSeen}
use Rattle.pfc_hb.specs.declared.objects.Thing.TheVariants.{Semaphore, Channel, Monitor, Resource, Owner}
use Rattle.pfc_semantics.specs.Values.{Selector, Location}
use Rattle.pfc_semantics.specs.Events.{Access, Thing, Event, a_semaphore, a_channel, a_monitor, a_resource, an_owner}

-- the steps to a part: of each its index; a field's is its place in its record
abbrev pub path_seen : List Selector → List ℤ
path_seen selectors = map (λ s. s.index) selectors

abbrev pub spot_seen : Location → SpotSeen
spot_seen l = record { activation = l.activation; variable = l.variable; path = path_seen l.selectors }

abbrev pub access_seen : Access → AccessSeen
access_seen a = record { spot = spot_seen a.at; write = a.write }

abbrev pub accesses_seen : List Access → List AccessSeen
accesses_seen accesses = map access_seen accesses

abbrev pub thing_seen : Thing → ThingSeen
thing_seen (a_semaphore n) = Semaphore n
thing_seen (a_channel n) = Channel n
thing_seen (a_monitor n) = Monitor n
thing_seen (a_resource n) = Resource n
thing_seen (an_owner n) = Owner n

abbrev pub things_seen : List Thing → List ThingSeen
things_seen things = map thing_seen things

-- What was printed orders nothing. Whether the action joins, what it was does not tell.
abbrev pub event_seen : Bool → Event → EventSeen
event_seen joins e =
    record {
      process = e.process;
      line = e.line;
      joins = joins;
      wakes = e.wakes;
      things = things_seen e.things;
      accesses = accesses_seen e.accesses;
    }
