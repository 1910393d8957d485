-- Small programs, and the races of their runs.
use Rattle.std.specs.Prelude.{◌≡◌, [], ◌∷◌, ◌++◌, Some, codes, refl}
use Rattle.pfc_sched.specs.Picks.{by_list}
use Rattle.pfc_race_samples.specs.Shows.{races_in}

lost_update :
    races_in (codes "program a; var x: integer; process p; begin x := x + 1 end; process q; begin x := x + 1 end; begin cobegin p; q coend; writeln(x) end.")
    [] 1 (by_list (0 ∷ 0 ∷ 0 ∷ 1 ∷ 2 ∷ 1 ∷ 2 ∷ 1 ∷ 2 ∷ 0 ∷ 0 ∷ 0 ∷ 0 ∷ []) 0) 100
    ≡ Some (codes "-- race: action 4 process 1 reads at line 1, action 7 process 2 writes at line 1\n"
    ++ codes "-- race: action 5 process 2 reads at line 1, action 6 process 1 writes at line 1\n"
    ++ codes "-- race: action 6 process 1 writes at line 1, action 7 process 2 writes at line 1\n")
unfolding races_in
lost_update = refl

-- what is before a signal is before what is behind the wait that it ends
semaphore_orders :
    races_in (codes "program a; var x: integer; s: semaphore; process p; begin x := 1; signal(s) end; process q; begin wait(s); write(x) end; "
    ++ codes "begin initial(s, 0); cobegin p; q coend end.") [] 1 (by_list (0 ∷ 0 ∷ 0 ∷ 0 ∷ 2 ∷ 1 ∷ 1 ∷ 1 ∷ 2 ∷ 2 ∷ 2 ∷ 0 ∷ []) 0) 100
    ≡ Some (codes "-- no races\n")
unfolding races_in
semaphore_orders = refl

-- without the semaphore
nothing_orders :
    races_in (codes "program a; var x: integer; process p; begin x := 1 end; process q; begin write(x) end; begin cobegin p; q coend end.") [] 1
    (by_list (0 ∷ 0 ∷ 0 ∷ 1 ∷ 1 ∷ 2 ∷ 2 ∷ 2 ∷ 0 ∷ []) 0) 100
    ≡ Some (codes "-- race: action 4 process 1 writes at line 1, action 6 process 2 reads at line 1\n")
unfolding races_in
nothing_orders = refl

-- a whole array against one element
array_and_element :
    races_in (codes "program a; var t, u: array[1..2] of integer; process p; begin t[1] := 5 end; process q; begin u := t end; begin cobegin p; q coend end.")
    [] 1 (by_list (0 ∷ 0 ∷ 0 ∷ 1 ∷ 1 ∷ 2 ∷ 2 ∷ 2 ∷ 0 ∷ []) 0) 100
    ≡ Some (codes "-- race: action 4 process 1 writes at line 1, action 6 process 2 reads at line 1\n")
unfolding races_in
array_and_element = refl

-- the second process begins behind the first coend
phases_are_joined :
    races_in (codes "program a; var x: integer; process p; begin x := 5 end; process q; begin x := 7 end; begin cobegin p coend; cobegin q coend end.") [] 1
    (by_list (0 ∷ 0 ∷ 1 ∷ 1 ∷ 0 ∷ 0 ∷ 2 ∷ 2 ∷ 0 ∷ []) 0) 100
    ≡ Some (codes "-- no races\n")
unfolding races_in
phases_are_joined = refl

-- a message that writes into a process that waits is a write of its sender
waiting_receiver :
    races_in (codes "program a; var x: integer; c: channel of integer; process p; begin c ! 7 end; process q; begin c ? x end; process r; "
    ++ codes "begin write(x) end; begin cobegin p; q; r coend end.") [] 1 (by_list (0 ∷ 0 ∷ 0 ∷ 0 ∷ 2 ∷ 1 ∷ 3 ∷ 3 ∷ 3 ∷ 1 ∷ 2 ∷ 0 ∷ []) 0) 100
    ≡ Some (codes "-- race: action 6 process 1 writes at line 1, action 7 process 3 reads at line 1\n")
unfolding races_in
waiting_receiver = refl

-- a select is at the objects of all its open alternatives
other_alternatives :
    races_in (codes "program a; var x: integer; c, d: channel of synchronous; process p; begin x := 1; d ! any end; process r; begin c ! any end; "
    ++ codes "process q; begin select c ? any or d ? any end; write(x); d ? any end; begin cobegin p; r; q coend end.")
    [] 1 (by_list (0 ∷ 0 ∷ 0 ∷ 0 ∷ 1 ∷ 1 ∷ 2 ∷ 3 ∷ 3 ∷ 3 ∷ 3 ∷ 3 ∷ 1 ∷ 2 ∷ 0 ∷ []) 0) 100
    ≡ Some (codes "-- no races\n")
unfolding races_in
other_alternatives = refl
