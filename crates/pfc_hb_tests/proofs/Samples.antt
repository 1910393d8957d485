-- Small runs and their races, computed.
use Rattle.std.specs.Prelude.{◌≡◌, ℕ, true, false, List, [], ◌∷◌, ◌++◌, pos, refl, codes}
use Rattle.pfc_hb.specs.declared.accesses.Access.{Access}
use Rattle.pfc_hb.specs.declared.events.Event.{Event}
use Rattle.pfc_hb.specs.declared.events.Race.{Race}
use Rattle.pfc_hb.specs.declared.objects.Thing.{Thing}
use Rattle.pfc_hb.specs.declared.objects.Thing.TheVariants.{Semaphore, Channel, Monitor, Resource, Owner}
use Rattle.pfc_hb.specs.Order.{no_event}
use Rattle.pfc_hb.specs.Conflicts.{races_of}
use Rattle.pfc_hb.specs.Lines.{race_lines_text}
use Rattle.std.specs.Fmt.{digits}

abbrev acts : ℕ → Event
acts p = record no_event { process = p; line = 1 }

abbrev variable : ℕ → List Access → List Access
variable v more = record { spot = record { activation = 0; variable = v; path = [] }; write = false } ∷ more

abbrev written : ℕ → List Access → List Access
written v more = record { spot = record { activation = 0; variable = v; path = [] }; write = true } ∷ more

abbrev element : ℕ → ℕ → List Access → List Access
element v i more = record { spot = record { activation = 0; variable = v; path = pos i ∷ [] }; write = true } ∷ more

abbrev reads : ℕ → Event
reads p = record (acts p) { accesses = variable 0 [] }

abbrev writes : ℕ → Event
writes p = record (acts p) { accesses = written 0 [] }

abbrev meets : ℕ → List Thing → Event
meets p things = record (acts p) { things = things }

abbrev wakes : ℕ → ℕ → Event
wakes p q = record (acts p) { wakes = q ∷ [] }

abbrev race : ℕ → ℕ → Race
race i j = record { first = i; second = j }

-- ## The lost update, behind the two creations and the wait of main

abbrev lost_update : List Event
lost_update = wakes 0 1 ∷ wakes 0 2 ∷ acts 0 ∷ reads 1 ∷ reads 2 ∷ writes 1 ∷ writes 2 ∷ []

three_races : races_of lost_update ≡ race 4 7 ∷ race 5 6 ∷ race 6 7 ∷ []
three_races = refl

three_lines : race_lines_text lost_update (races_of lost_update)
    ≡ codes "-- race: action 4 process 1 reads at line 1, action 7 process 2 writes at line 1\n"
    ++ codes "-- race: action 5 process 2 reads at line 1, action 6 process 1 writes at line 1\n"
    ++ codes "-- race: action 6 process 1 writes at line 1, action 7 process 2 writes at line 1\n"
unfolding digits
three_lines = refl

one_line : race_lines_text (reads 1 ∷ reads 2 ∷ []) (races_of (reads 1 ∷ reads 2 ∷ [])) ≡ codes "-- no races\n"
one_line = refl

-- ## What orders, and the same without it

unordered : races_of (writes 1 ∷ acts 1 ∷ acts 2 ∷ writes 2 ∷ []) ≡ race 1 4 ∷ []
unordered = refl

by_semaphore : races_of (writes 1 ∷ meets 1 (Semaphore 3 ∷ []) ∷ meets 2 (Semaphore 3 ∷ []) ∷ writes 2 ∷ []) ≡ []
by_semaphore = refl

by_other_semaphores : races_of (writes 1 ∷ meets 1 (Semaphore 3 ∷ []) ∷ meets 2 (Semaphore 4 ∷ []) ∷ writes 2 ∷ []) ≡ race 1 4 ∷ []
by_other_semaphores = refl

by_message : races_of (writes 1 ∷ meets 1 (Channel 0 ∷ []) ∷ meets 2 (Channel 0 ∷ []) ∷ writes 2 ∷ []) ≡ []
by_message = refl

by_monitor : races_of (writes 1 ∷ meets 1 (Monitor 1 ∷ []) ∷ meets 2 (Monitor 1 ∷ []) ∷ writes 2 ∷ []) ≡ []
by_monitor = refl

by_resource : races_of (writes 1 ∷ meets 1 (Resource 1 ∷ []) ∷ meets 2 (Resource 1 ∷ []) ∷ writes 2 ∷ []) ≡ []
by_resource = refl

by_rendezvous : races_of (writes 1 ∷ meets 1 (Owner 2 ∷ []) ∷ meets 2 (Owner 2 ∷ []) ∷ writes 2 ∷ []) ≡ []
by_rendezvous = refl

by_kinds_that_differ : races_of (writes 1 ∷ meets 1 (Monitor 1 ∷ []) ∷ meets 2 (Resource 1 ∷ []) ∷ writes 2 ∷ []) ≡ race 1 4 ∷ []
by_kinds_that_differ = refl

-- an alternative that was open and not chosen orders as well
by_other_alternative : races_of (writes 1 ∷ meets 1 (Channel 0 ∷ Channel 1 ∷ []) ∷ meets 2 (Channel 1 ∷ []) ∷ writes 2 ∷ []) ≡ []
by_other_alternative = refl

by_closed_alternative : races_of (writes 1 ∷ meets 1 (Channel 0 ∷ []) ∷ meets 2 (Channel 1 ∷ []) ∷ writes 2 ∷ []) ≡ race 1 4 ∷ []
by_closed_alternative = refl

by_wake : races_of (writes 1 ∷ wakes 1 2 ∷ writes 2 ∷ []) ≡ []
by_wake = refl

by_wake_of_another : races_of (writes 1 ∷ wakes 1 3 ∷ writes 2 ∷ []) ≡ race 1 3 ∷ []
by_wake_of_another = refl

-- main behind its children, of which the last woke it where it waited at coend, and the same where it acts before that
by_join : races_of (writes 1 ∷ writes 2 ∷ record (reads 0) { joins = true } ∷ []) ≡ race 1 2 ∷ []
by_join = refl

before_join : races_of (writes 1 ∷ reads 0 ∷ record (acts 0) { joins = true } ∷ []) ≡ race 1 2 ∷ []
before_join = refl

by_way_of_others : races_of (writes 1 ∷ meets 1 (Semaphore 0 ∷ []) ∷ meets 3 (Semaphore 0 ∷ Monitor 1 ∷ []) ∷ meets 2 (Monitor 1 ∷ []) ∷ writes 2 ∷ []) ≡ []
by_way_of_others = refl

-- ## What conflicts

part_and_whole : races_of (record (acts 1) { accesses = element 0 5 [] } ∷ reads 2 ∷ []) ≡ race 1 2 ∷ []
part_and_whole = refl

two_parts : races_of (record (acts 1) { accesses = element 0 5 [] } ∷ record (acts 2) { accesses = element 0 6 [] } ∷ []) ≡ []
two_parts = refl

two_variables : races_of (writes 1 ∷ record (acts 2) { accesses = written 1 (variable 1 []) } ∷ []) ≡ []
two_variables = refl

two_reads : races_of (reads 1 ∷ reads 2 ∷ []) ≡ []
two_reads = refl
