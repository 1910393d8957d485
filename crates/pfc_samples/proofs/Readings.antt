-- Where a rule leaves room for two readings: what a program shows of the one that holds.
use Rattle.std.specs.Prelude.{◌≡◌, [], ◌∷◌, ◌++◌, codes, refl}
use Rattle.pfc_base.specs.declared.faults.RunFault.TheVariants.{Division, Index, InputEnd, NoInteger, Below, Width}
use Rattle.pfc_state.specs.declared.endings.Ending.TheVariants.{Finished, Fault, Deadlock, Limit, Script}
use Rattle.pfc_state.specs.declared.endings.ScriptWhy.TheVariants.{NoProcess}
use Rattle.pfc_sched.specs.Picks.{by_turn, by_list, by_words}
use Rattle.pfc_sched.specs.Words.{stream}
use Rattle.pfc_samples.specs.Shows.{ran, shows, stands}

-- before its first action a process has the line of its body's `begin`
created_at_its_begin : ran (codes "program a;\nprocess p;\nbegin\nend;\nbegin\ncobegin p coend;\ncobegin\np\ncoend\nend.\n") [] 1 (by_turn 0) 1 ≡ shows []
    (Limit 1) (stands 0 (codes "ready") 6 ∷ stands 1 (codes "created") 3 ∷ [])
unfolding ran
created_at_its_begin = refl

-- a process that is created again keeps the line of its last action
created_again_at_its_old_line : ran (codes "program a;\nprocess p;\nbegin\nend;\nbegin\ncobegin p coend;\ncobegin\np\ncoend\nend.\n") [] 1 (by_turn 0) 4 ≡ shows
    [] (Limit 4) (stands 0 (codes "ready") 8 ∷ stands 1 (codes "created") 4 ∷ [])
unfolding ran
created_again_at_its_old_line = refl

-- main's line is that of its own `begin`, also where initialising bodies come first
main_before_its_first_action : ran (codes "program a;\nmonitor m;\nvar n: integer;\nbegin n := 1 end;\nbegin end.\n") [] 1 (by_list (9 ∷ []) 0) 1000 ≡ shows []
    (Script 1 (NoProcess 9)) (stands 0 (codes "ready") 5 ∷ [])
unfolding ran
main_before_its_first_action = refl

-- the deciding action has the line of the select
select_waits_at_its_line : ran
    (codes "program a;\nprocess s;\nentry e;\nbegin\nselect\naccept e\ndo null\nend\nend;\nprocess c;\nbegin s.e end;\nbegin\ncobegin s; c coend\nend.\n") [] 1
    (by_turn 0) 4 ≡ shows [] (Limit 4) (stands 0 (codes "waiting at coend") 13 ∷ stands 1 (codes "waiting in a select") 5 ∷ stands 2 (codes "ready") 11 ∷ [])
unfolding ran
select_waits_at_its_line = refl

-- the end of an accept has the line of its `accept`
accept_of_an_alternative_ends_at_its_accept : ran
    (codes "program a;\nprocess s;\nentry e;\nbegin\nselect\naccept e\ndo null\nend\nend;\nprocess c;\nbegin s.e end;\nbegin\ncobegin s; c coend\nend.\n") [] 1
    (by_turn 0) 6 ≡ shows [] (Limit 6) (stands 0 (codes "waiting at coend") 13 ∷ stands 1 (codes "ready") 6 ∷ stands 2 (codes "ready") 11 ∷ [])
unfolding ran
accept_of_an_alternative_ends_at_its_accept = refl

-- where the caller waited before, too
accept_of_an_alternative_begins_at_its_select : ran
    (codes "program a;\nprocess s;\nentry e;\nbegin\nselect\naccept e\ndo null\nend\nend;\nprocess c;\nbegin s.e end;\nbegin\ncobegin s; c coend\nend.\n") [] 1
    (by_list (0 ∷ 0 ∷ 0 ∷ 2 ∷ 1 ∷ []) 0) 5 ≡ shows [] (Limit 5) (stands 0 (codes "waiting at coend") 13 ∷ stands 1
    (codes "ready") 5 ∷ stands 2 (codes "in a rendezvous") 11 ∷ [])
unfolding ran
accept_of_an_alternative_begins_at_its_select = refl

-- expressions behind `until` have the line of `repeat`
until_at_its_repeat : ran (codes "program a;\nvar n: integer;\nbegin\nrepeat\nnull\nuntil\nn = 0\nend.\n") [] 1 (by_turn 0) 1 ≡ shows []
    (Limit 1) (stands 0 (codes "ready") 4 ∷ [])
unfolding ran
until_at_its_repeat = refl

-- a guard may use a predeclared function of its procedure's own name
guard_with_its_procedures_name : ran
    (codes "program a; resource r; export abs; var n: integer; guarded procedure abs when abs(n) = 0; begin write('g') end; end; begin r.abs end.") [] 1
    (by_turn 0) 1000 ≡ shows (codes "g") Finished []
unfolding ran
guard_with_its_procedures_name = refl

-- an index is tested before the next one is evaluated
first_index_before_the_second : ran
    (codes "program a; var t: array[1..2, 1..2] of integer; function f: integer; begin write('f'); f := 1 end; begin t[3, f] := 1 end.") [] 1
    (by_turn 0) 1000 ≡ shows [] (Fault 0 1 Index) []
unfolding ran
first_index_before_the_second = refl

-- an index of the target is tested before the value is evaluated
target_before_its_value : ran (codes "program a; var t: array[1..2] of integer; function f: integer; begin write('f'); f := 1 end; begin t[3] := f end.") [] 1
    (by_turn 0) 1000 ≡ shows [] (Fault 0 1 Index) []
unfolding ran
target_before_its_value = refl

-- each item of `write` is one action, and `writeln` adds one
empty_literal_is_an_action : ran (codes "program a; begin write('', 1); writeln end.") [] 1 (by_turn 0) 1 ≡ shows [] (Limit 1) (stands 0 (codes "ready") 1 ∷ [])
unfolding ran
empty_literal_is_an_action = refl

three_output_pieces : ran (codes "program a; begin write('', 1); writeln end.") [] 1 (by_turn 0) 3 ≡ shows (codes "1\n")
    (Limit 3) (stands 0 (codes "ready") 1 ∷ [])
unfolding ran
three_output_pieces = refl

-- call, write of the result, return, write, end: the return gives the result
result_is_no_read : ran (codes "program a; var x: integer; function f: integer; begin f := 5 end; begin x := f end.") [] 1 (by_turn 0) 5 ≡ shows [] Finished []
unfolding ran
result_is_no_read = refl

result_is_no_read_4 : ran (codes "program a; var x: integer; function f: integer; begin f := 5 end; begin x := f end.") [] 1 (by_turn 0) 4 ≡ shows []
    (Limit 4) (stands 0 (codes "ready") 1 ∷ [])
unfolding ran
result_is_no_read_4 = refl

and_evaluates_both : ran
    (codes "program a; function f: boolean; begin write('f'); f := false end; begin if f and f then write('x'); if not f or f then write('y') end.") [] 1
    (by_turn 0) 1000 ≡ shows (codes "ffffy") Finished []
unfolding ran
and_evaluates_both = refl

empty_range_writes_nothing : ran (codes "program a; var i: integer; begin i := 7; for i := 2 to 1 do write('x'); writeln(i) end.") [] 1
    (by_turn 0) 1000 ≡ shows (codes "7\n") Finished []
unfolding ran
empty_range_writes_nothing = refl

-- one write, and the end
last_pass_takes_no_turn : ran (codes "program a; var i: integer; begin for i := 1 to 1 do null end.") [] 1 (by_turn 0) 2 ≡ shows [] Finished []
unfolding ran
last_pass_takes_no_turn = refl

-- what is assigned to the variable does not change the count
assigned_in_its_for : ran (codes "program a; var i: integer; begin for i := 1 to 3 do begin write(i); i := 9 end end.") [] 1
    (by_turn 0) 1000 ≡ shows (codes "123") Finished []
unfolding ran
assigned_in_its_for = refl

-- fault 14 comes behind the guards before it and before those behind it
timeout_below_zero_where_it_is_reached :
    ran (codes "program a; var c: channel of integer; x: integer; function g(n: integer): boolean; begin write(n); g := true end; "
    ++ codes "begin select when g(1) => c ? x or timeout -1; or when g(2) => c ? x end end.") [] 1 (by_turn 0) 1000
    ≡ shows (codes "1") (Fault 0 1 Below) []
unfolding ran
timeout_below_zero_where_it_is_reached = refl

-- fault 14 comes also where nothing but another alternative could be taken
timeout_below_zero_beside_else :
    ran (codes "program a; var c: channel of integer; x: integer; process p; begin c ! 1 end; process q; var y: integer; begin sleep(1); "
    ++ codes "select c ? y or timeout -1 end end; begin cobegin p; q coend end.") [] 1 (by_turn 0) 1000
    ≡ shows [] (Fault 2 1 Below) []
unfolding ran
timeout_below_zero_beside_else = refl

-- a sign without digits is fault 8
sign_at_the_end : ran (codes "program a; var n: integer; begin read(n); writeln(n) end.") (codes " -") 1 (by_turn 0) 1000 ≡ shows [] (Fault 0 1 NoInteger) []
unfolding ran
sign_at_the_end = refl

-- fault 7 only where nothing is left behind the blanks
only_blanks : ran (codes "program a; var n: integer; begin read(n); writeln(n) end.") (codes " \n ") 1 (by_turn 0) 1000 ≡ shows [] (Fault 0 1 InputEnd) []
unfolding ran
only_blanks = refl

-- only a byte 13 directly before a byte 10 is dropped, once
a_byte_13_that_stays : ran (codes "program a; var n: integer; begin read(n); writeln(n) end.") ((13 ∷ 13 ∷ []) ++ codes "\n5") 1
    (by_turn 0) 1000 ≡ shows [] (Fault 0 1 NoInteger) []
unfolding ran
a_byte_13_that_stays = refl

-- at the limit's number of actions
deadlock_before_limit : ran (codes "program d; var s: semaphore; begin wait(s) end.") [] 1 (by_turn 0) 1 ≡ shows [] Deadlock
    (stands 0 (codes "waiting on a semaphore") 1 ∷ [])
unfolding ran
deadlock_before_limit = refl

fault_before_limit : ran (codes "program d; begin write(1 div 0) end.") [] 1 (by_turn 0) 1 ≡ shows [] (Fault 0 1 Division) []
unfolding ran
fault_before_limit = refl

fault_writes_nothing : ran (codes "program d; begin write(1:300) end.") [] 1 (by_turn 0) 1000 ≡ shows [] (Fault 0 1 Width) []
unfolding ran
fault_writes_nothing = refl

never_its_own_partner : ran (codes "program a; var c: channel of integer; x: integer; begin select c ! 1; or c ? x end end.") [] 1 (by_turn 0) 1000 ≡ shows
    [] Deadlock (stands 0 (codes "waiting in a select") 1 ∷ [])
unfolding ran
never_its_own_partner = refl

else_where_spreads_leave_nothing : ran
    (codes "program z; var c: array[1..2] of channel of integer; k, v: integer; begin select for k := 2 to 1 replicate c[k] ? v else write('e') end end.") [] 1
    (by_turn 0) 1000 ≡ shows (codes "e") Finished []
unfolding ran
else_where_spreads_leave_nothing = refl

-- the second write of a spread's variable comes behind the communication
received_into_the_spreads_variable :
    ran (codes "program z; var c: array[1..2] of channel of integer; k: integer; process p; begin c[2] ! 9 end; process q; "
    ++ codes "begin select for k := 1 to 2 replicate c[k] ? k; write(k) end end; begin cobegin p; q coend end.") [] 1 (by_turn 0) 1000
    ≡ shows (codes "2") Finished []
unfolding ran
received_into_the_spreads_variable = refl

-- a process waits at the channel that its own view has, whoever meets it
channel_by_reference :
    ran (codes "program w; type k = channel of integer; var a, c: k; procedure get(var d: k; var v: integer); begin d ? v end; process p; "
    ++ codes "var v: integer; begin get(c, v); write(v) end; process q; begin sleep(1); c ! 5 end; begin cobegin p; q coend; writeln end.")
    [] 1 (by_turn 0) 1000
    ≡ shows (codes "5\n") Finished []
unfolding ran
channel_by_reference = refl

channel_by_reference_in_a_select :
    ran (codes "program w; type k = channel of integer; var a, c: k; procedure get(var d: k; var v: integer); begin select d ? v or a ? v end end; "
    ++ codes "process p; var v: integer; begin get(c, v); write(v) end; process q; begin sleep(1); c ! 5 end; begin cobegin p; q coend; "
    ++ codes "writeln end.") [] 1 (by_turn 0) 1000
    ≡ shows (codes "5\n") Finished []
unfolding ran
channel_by_reference_in_a_select = refl

-- two alternatives of one select at the same channel are two among which the pick chooses
first_of_two_alternatives_at_one_channel :
    ran (codes "program s; var c: channel of integer; process a; begin c ! 7 end; process b; var x, y: integer; begin select c ? x; "
    ++ codes "write('x') or c ? y; write('y') end end; begin cobegin a; b coend; writeln end.") [] 1 (by_words (stream 8 1)) 1000
    ≡ shows (codes "x\n") Finished []
unfolding ran
first_of_two_alternatives_at_one_channel = refl

second_of_two_alternatives_at_one_channel :
    ran (codes "program s; var c: channel of integer; process a; begin c ! 7 end; process b; var x, y: integer; begin select c ? x; "
    ++ codes "write('x') or c ? y; write('y') end end; begin cobegin a; b coend; writeln end.") [] 1 (by_words (stream 2 1)) 1000
    ≡ shows (codes "y\n") Finished []
unfolding ran
second_of_two_alternatives_at_one_channel = refl
