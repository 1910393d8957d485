-- Worked programs: a construct each, with the output and the ending that the language gives them.
use Rattle.std.specs.Prelude.{◌≡◌, [], ◌∷◌, ◌++◌, codes, refl}
use Rattle.pfc_base.specs.declared.faults.RunFault.TheVariants.{Overflow, Active, Negative, Count, NotActive, Closed}
use Rattle.pfc_state.specs.declared.endings.Ending.TheVariants.{Finished, Fault, Deadlock, Script}
use Rattle.pfc_state.specs.declared.endings.ScriptWhy.TheVariants.{NotReady, NoProcess, Ended}
use Rattle.pfc_sched.specs.Picks.{by_turn, by_list, by_words}
use Rattle.pfc_sched.specs.Words.{stream}
use Rattle.pfc_samples.specs.Shows.{ran, shows, stands}

-- two processes read the same value, and one addition is lost
lost_update : ran (codes
    "program a; var x: integer; process p; begin x := x + 1 end; process q; begin x := x + 1 end; begin cobegin p; q coend; writeln(x) end.") [] 1
    (by_list (0 ∷ 0 ∷ 0 ∷ 1 ∷ 2 ∷ 1 ∷ 2 ∷ 1 ∷ 2 ∷ 0 ∷ 0 ∷ 0 ∷ 0 ∷ []) 0) 1000 ≡ shows (codes "1\n") Finished []
unfolding ran
lost_update = refl

-- each goes on while it is ready
no_lost_update : ran (codes
    "program a; var x: integer; process p; begin x := x + 1 end; process q; begin x := x + 1 end; begin cobegin p; q coend; writeln(x) end.") [] 1
    (by_turn 0) 1000 ≡ shows (codes "2\n") Finished []
unfolding ran
no_lost_update = refl

-- nobody signals
deadlock_of_main : ran (codes "program d; var s: semaphore; begin initial(s,0); wait(s) end.") [] 1 (by_turn 0) 1000 ≡ shows [] Deadlock
    (stands 0 (codes "waiting on a semaphore") 1 ∷ [])
unfolding ran
deadlock_of_main = refl

negative_count : ran (codes "program d; var s: semaphore; begin initial(s,-1); wait(s) end.") [] 1 (by_turn 0) 1000 ≡ shows [] (Fault 0 1 Negative) []
unfolding ran
negative_count = refl

count_at_its_end : ran (codes "program d; var s: semaphore; begin initial(s,maxint); signal(s) end.") [] 1 (by_turn 0) 1000 ≡ shows [] (Fault 0 1 Count) []
unfolding ran
count_at_its_end = refl

deadlock_of_two_semaphores :
    ran (codes "program d;\nvar a, b: semaphore;\nprocess p; begin wait(a); wait(b) end;\nprocess q; begin wait(b); wait(a) end;\nbegin\n"
    ++ codes "  initial(a, 1); initial(b, 1);\n  cobegin p; q coend\nend.\n") [] 1 (by_list (0 ∷ 0 ∷ 0 ∷ 0 ∷ 0 ∷ 1 ∷ 2 ∷ 1 ∷ 2 ∷ []) 0) 1000
    ≡ shows [] Deadlock (stands 0 (codes "waiting at coend") 7 ∷ stands 1 (codes "waiting on a semaphore") 3 ∷ stands 2 (codes "waiting on a semaphore") 4 ∷ [])
unfolding ran
deadlock_of_two_semaphores = refl

script_names_a_waiting_process :
    ran (codes "program d;\nvar a, b: semaphore;\nprocess p; begin wait(a); wait(b) end;\nprocess q; begin wait(b); wait(a) end;\nbegin\n"
    ++ codes "  initial(a, 1); initial(b, 1);\n  cobegin p; q coend\nend.\n") [] 1 (by_list (0 ∷ 0 ∷ 0 ∷ 0 ∷ 0 ∷ 0 ∷ []) 0) 1000
    ≡ shows [] (Script 6 (NotReady 0)) (stands 0 (codes "waiting at coend") 7 ∷ stands 1 (codes "ready") 3 ∷ stands 2 (codes "ready") 4 ∷ [])
unfolding ran
script_names_a_waiting_process = refl

script_names_no_process :
    ran (codes "program d;\nvar a, b: semaphore;\nprocess p; begin wait(a); wait(b) end;\nprocess q; begin wait(b); wait(a) end;\nbegin\n"
    ++ codes "  initial(a, 1); initial(b, 1);\n  cobegin p; q coend\nend.\n") [] 1 (by_list (9 ∷ []) 0) 1000
    ≡ shows [] (Script 1 (NoProcess 9)) (stands 0 (codes "ready") 5 ∷ [])
unfolding ran
script_names_no_process = refl

script_has_ended :
    ran (codes "program d;\nvar a, b: semaphore;\nprocess p; begin wait(a); wait(b) end;\nprocess q; begin wait(b); wait(a) end;\nbegin\n"
    ++ codes "  initial(a, 1); initial(b, 1);\n  cobegin p; q coend\nend.\n") [] 1 (by_list [] 0) 1000
    ≡ shows [] (Script 1 Ended) (stands 0 (codes "ready") 5 ∷ [])
unfolding ran
script_has_ended = refl

-- the resumer comes back before the entrant
hand_over_of_a_monitor :
    ran (codes "program m;\nmonitor k;\n  export a, b, c;\n  var q: condition;\n  procedure a; begin delay(q); write('A') end;\n"
    ++ codes "  procedure b; begin resume(q); write('B') end;\n  procedure c; begin write('C') end;\nend;\nprocess x; begin k.a end;\n"
    ++ codes "process y; begin k.b end;\nprocess z; begin k.c end;\nbegin cobegin x; y; z coend; writeln end.\n")
    [] 1 (by_list (0 ∷ 0 ∷ 0 ∷ 0 ∷ 1 ∷ 1 ∷ 2 ∷ 3 ∷ 2 ∷ 1 ∷ 1 ∷ 1 ∷ 2 ∷ 2 ∷ 2 ∷ 3 ∷ 3 ∷ 3 ∷ 0 ∷ 0 ∷ []) 0) 1000
    ≡ shows (codes "ABC\n") Finished []
unfolding ran
hand_over_of_a_monitor = refl

delay_of_main : ran (codes "program m; monitor k; export a; var q: condition; procedure a; begin delay(q) end; end; begin k.a end.") [] 1
    (by_turn 0) 1000 ≡ shows [] Deadlock (stands 0 (codes "waiting on a condition") 1 ∷ [])
unfolding ran
delay_of_main = refl

select_meets_a_select :
    ran (codes "program s; var c: channel of integer; process a; begin select c ! 7; or timeout 5 end end; process b; var v: integer; "
    ++ codes "begin select c ? v; write(v) or timeout 0; write(0) end end; begin cobegin a; b coend; writeln end.")
    [] 1 (by_list (0 ∷ 0 ∷ 0 ∷ 1 ∷ 2 ∷ 2 ∷ 2 ∷ 2 ∷ 1 ∷ 0 ∷ 0 ∷ []) 0) 1000
    ≡ shows (codes "7\n") Finished []
unfolding ran
select_meets_a_select = refl

select_with_timeout :
    ran (codes "program s; var c: channel of integer; process a; begin select c ! 7; or timeout 5 end end; process b; var v: integer; "
    ++ codes "begin select c ? v; write(v) or timeout 0; write(0) end end; begin cobegin a; b coend; writeln end.")
    [] 1 (by_list (0 ∷ 0 ∷ 0 ∷ 2 ∷ 2 ∷ 2 ∷ 1 ∷ 1 ∷ 0 ∷ 0 ∷ []) 0) 1000
    ≡ shows (codes "0\n") Finished []
unfolding ran
select_with_timeout = refl

-- the server does not terminate while a sibling sleeps; 16 actions are enough
terminate :
    ran (codes "program t; process server; entry e; begin repeat select accept e or terminate end forever end; process late; begin sleep(1); "
    ++ codes "write(clock) end; process client; begin server.e end; begin cobegin server; late; client coend; writeln end.") [] 1 (by_turn 0) 16
    ≡ shows (codes "1\n") Finished []
unfolding ran
terminate = refl

-- the same for every seed
terminate_fair_1 :
    ran (codes "program t; process server; entry e; begin repeat select accept e or terminate end forever end; process late; begin sleep(1); "
    ++ codes "write(clock) end; process client; begin server.e end; begin cobegin server; late; client coend; writeln end.")
    [] 1 (by_words (stream 1 1)) 1000
    ≡ shows (codes "1\n") Finished []
unfolding ran
terminate_fair_1 = refl

-- the same for every seed
terminate_fair_2 :
    ran (codes "program t; process server; entry e; begin repeat select accept e or terminate end forever end; process late; begin sleep(1); "
    ++ codes "write(clock) end; process client; begin server.e end; begin cobegin server; late; client coend; writeln end.")
    [] 1 (by_words (stream 2 1)) 1000
    ≡ shows (codes "1\n") Finished []
unfolding ran
terminate_fair_2 = refl

-- by ticket, and not by the number of the process
requeue_in_the_order_of_tickets :
    ran (codes "program r;\nresource g;\n  export go, open;\n  var n: integer; up: boolean;\n"
    ++ codes "  guarded procedure late(i: integer) when n = 3; begin write(i) end;\n  guarded procedure go(i: integer) when up;\n"
    ++ codes "  begin n := n + 1; requeue late(i) end;\n  procedure open; begin up := true end;\nend;\n"
    ++ codes "process type w(i: integer); begin sleep(i); g.go(i) end;\nvar t: array[1..3] of w;\nprocess o; begin sleep(9); g.open end;\n"
    ++ codes "begin cobegin t[1](3); t[2](1); t[3](2); o coend; writeln end.\n") [] 1 (by_turn 0) 1000
    ≡ shows (codes "123\n") Finished []
unfolding ran
requeue_in_the_order_of_tickets = refl

-- the same for every seed
requeue_in_the_order_of_tickets_1 :
    ran (codes "program r;\nresource g;\n  export go, open;\n  var n: integer; up: boolean;\n"
    ++ codes "  guarded procedure late(i: integer) when n = 3; begin write(i) end;\n  guarded procedure go(i: integer) when up;\n"
    ++ codes "  begin n := n + 1; requeue late(i) end;\n  procedure open; begin up := true end;\nend;\n"
    ++ codes "process type w(i: integer); begin sleep(i); g.go(i) end;\nvar t: array[1..3] of w;\nprocess o; begin sleep(9); g.open end;\n"
    ++ codes "begin cobegin t[1](3); t[2](1); t[3](2); o coend; writeln end.\n") [] 1 (by_words (stream 1 1)) 1000
    ≡ shows (codes "123\n") Finished []
unfolding ran
requeue_in_the_order_of_tickets_1 = refl

-- the same for every seed
requeue_in_the_order_of_tickets_2 :
    ran (codes "program r;\nresource g;\n  export go, open;\n  var n: integer; up: boolean;\n"
    ++ codes "  guarded procedure late(i: integer) when n = 3; begin write(i) end;\n  guarded procedure go(i: integer) when up;\n"
    ++ codes "  begin n := n + 1; requeue late(i) end;\n  procedure open; begin up := true end;\nend;\n"
    ++ codes "process type w(i: integer); begin sleep(i); g.go(i) end;\nvar t: array[1..3] of w;\nprocess o; begin sleep(9); g.open end;\n"
    ++ codes "begin cobegin t[1](3); t[2](1); t[3](2); o coend; writeln end.\n") [] 1 (by_words (stream 2 1)) 1000
    ≡ shows (codes "123\n") Finished []
unfolding ran
requeue_in_the_order_of_tickets_2 = refl

rendezvous :
    ran (codes "program v; process s; entry sq(n: integer; var r: integer); begin accept sq(n: integer; var r: integer) do r := n * n end; "
    ++ codes "process k; var z: integer; begin s.sq(12, z); writeln(z) end; begin cobegin s; k coend end.") [] 1 (by_turn 0) 1000
    ≡ shows (codes "144\n") Finished []
unfolding ran
rendezvous = refl

-- the same for every seed
rendezvous_1 :
    ran (codes "program v; process s; entry sq(n: integer; var r: integer); begin accept sq(n: integer; var r: integer) do r := n * n end; "
    ++ codes "process k; var z: integer; begin s.sq(12, z); writeln(z) end; begin cobegin s; k coend end.") [] 1 (by_words (stream 1 1)) 1000
    ≡ shows (codes "144\n") Finished []
unfolding ran
rendezvous_1 = refl

-- the same for every seed
rendezvous_2 :
    ran (codes "program v; process s; entry sq(n: integer; var r: integer); begin accept sq(n: integer; var r: integer) do r := n * n end; "
    ++ codes "process k; var z: integer; begin s.sq(12, z); writeln(z) end; begin cobegin s; k coend end.") [] 1 (by_words (stream 2 1)) 1000
    ≡ shows (codes "144\n") Finished []
unfolding ran
rendezvous_2 = refl

all_closed : ran (codes "program s; var c: channel of integer; x: integer; begin select when false => c ? x end end.") [] 1
    (by_turn 0) 1000 ≡ shows [] (Fault 0 1 Closed) []
unfolding ran
all_closed = refl

call_of_an_idle_process : ran (codes "program e; process p; entry a; begin accept a end; begin p.a end.") [] 1
    (by_turn 0) 1000 ≡ shows [] (Fault 0 1 NotActive) []
unfolding ran
call_of_an_idle_process = refl

activated_twice : ran (codes "program e; process p; begin end; begin cobegin p; p coend end.") [] 1 (by_turn 0) 1000 ≡ shows [] (Fault 0 1 Active) []
unfolding ran
activated_twice = refl

nested_subs_and_references :
    ran (codes "program n; var x: integer; procedure f(var a: integer; d: integer); procedure g; begin a := a + d end; begin g; "
    ++ codes "if d > 1 then f(a, d - 1) end; begin f(x, 4); writeln(x) end.") [] 1 (by_turn 0) 1000
    ≡ shows (codes "10\n") Finished []
unfolding ran
nested_subs_and_references = refl

recursion_of_a_function :
    ran (codes "program f; function fac(n: integer): integer; begin if n < 2 then fac := 1 else fac := n * fac(n - 1) end; begin writeln(fac(12)); "
    ++ codes "writeln(fac(13)) end.") [] 1 (by_turn 0) 1000
    ≡ shows (codes "479001600\n") (Fault 0 1 Overflow) []
unfolding ran
recursion_of_a_function = refl

sleepers : ran (codes
    "program t; process a; begin sleep(2); write('a') end; process b; begin sleep(1); write('b') end; begin cobegin a; b coend; writeln(clock) end.") [] 1
    (by_turn 0) 1000 ≡ shows (codes "ba2\n") Finished []
unfolding ran
sleepers = refl

-- the same for every seed
sleepers_3 : ran (codes
    "program t; process a; begin sleep(2); write('a') end; process b; begin sleep(1); write('b') end; begin cobegin a; b coend; writeln(clock) end.") [] 1
    (by_words (stream 3 1)) 1000 ≡ shows (codes "ba2\n") Finished []
unfolding ran
sleepers_3 = refl

channel_of_synchronous :
    ran (codes "program s; var c: channel of synchronous; process a; begin write('x'); c ! any end; process b; begin c ? any; write('y') end; "
    ++ codes "begin cobegin a; b coend; writeln end.") [] 1 (by_words (stream 2 1)) 1000
    ≡ shows (codes "xy\n") Finished []
unfolding ran
channel_of_synchronous = refl

ranked_delays :
    ran (codes "program k;\nmonitor m;\n  export put, go;\n  var c: condition;\n  procedure put(i: integer); begin delay(c, i); write(i) end;\n"
    ++ codes "  procedure go; begin while not empty(c) do resume(c) end;\nend;\nprocess type w(i: integer); begin m.put(i) end;\n"
    ++ codes "var t: array[1..3] of w;\nprocess o; begin sleep(9); m.go end;\nbegin cobegin t[1](3); t[2](1); t[3](2); o coend; writeln end.\n")
    [] 1 (by_turn 0) 1000
    ≡ shows (codes "123\n") Finished []
unfolding ran
ranked_delays = refl

-- the same for every seed
ranked_delays_1 :
    ran (codes "program k;\nmonitor m;\n  export put, go;\n  var c: condition;\n  procedure put(i: integer); begin delay(c, i); write(i) end;\n"
    ++ codes "  procedure go; begin while not empty(c) do resume(c) end;\nend;\nprocess type w(i: integer); begin m.put(i) end;\n"
    ++ codes "var t: array[1..3] of w;\nprocess o; begin sleep(9); m.go end;\nbegin cobegin t[1](3); t[2](1); t[3](2); o coend; writeln end.\n")
    [] 1 (by_words (stream 1 1)) 1000
    ≡ shows (codes "123\n") Finished []
unfolding ran
ranked_delays_1 = refl

-- the same for every seed
ranked_delays_2 :
    ran (codes "program k;\nmonitor m;\n  export put, go;\n  var c: condition;\n  procedure put(i: integer); begin delay(c, i); write(i) end;\n"
    ++ codes "  procedure go; begin while not empty(c) do resume(c) end;\nend;\nprocess type w(i: integer); begin m.put(i) end;\n"
    ++ codes "var t: array[1..3] of w;\nprocess o; begin sleep(9); m.go end;\nbegin cobegin t[1](3); t[2](1); t[3](2); o coend; writeln end.\n")
    [] 1 (by_words (stream 2 1)) 1000
    ≡ shows (codes "123\n") Finished []
unfolding ran
ranked_delays_2 = refl

replicated_alternatives :
    ran (codes "program q;\nvar c: array[1..3] of channel of integer;\nprocess type s(i: integer); begin c[i] ! 10 * i end;\n"
    ++ codes "var t: array[1..3] of s;\nprocess r; var k, n, v: integer;\nbegin sleep(1);\n  for n := 1 to 3 do\n"
    ++ codes "    pri select for k := 1 to 3 replicate c[k] ? v; write(k, ':', v, ';') end\nend;\n"
    ++ codes "begin cobegin t[1](1); t[2](2); t[3](3); r coend; writeln end.\n") [] 1 (by_turn 0) 1000
    ≡ shows (codes "1:10;2:20;3:30;\n") Finished []
unfolding ran
replicated_alternatives = refl

-- the same for every seed
replicated_alternatives_1 :
    ran (codes "program q;\nvar c: array[1..3] of channel of integer;\nprocess type s(i: integer); begin c[i] ! 10 * i end;\n"
    ++ codes "var t: array[1..3] of s;\nprocess r; var k, n, v: integer;\nbegin sleep(1);\n  for n := 1 to 3 do\n"
    ++ codes "    pri select for k := 1 to 3 replicate c[k] ? v; write(k, ':', v, ';') end\nend;\n"
    ++ codes "begin cobegin t[1](1); t[2](2); t[3](3); r coend; writeln end.\n") [] 1 (by_words (stream 1 1)) 1000
    ≡ shows (codes "1:10;2:20;3:30;\n") Finished []
unfolding ran
replicated_alternatives_1 = refl

-- the same for every seed
replicated_alternatives_2 :
    ran (codes "program q;\nvar c: array[1..3] of channel of integer;\nprocess type s(i: integer); begin c[i] ! 10 * i end;\n"
    ++ codes "var t: array[1..3] of s;\nprocess r; var k, n, v: integer;\nbegin sleep(1);\n  for n := 1 to 3 do\n"
    ++ codes "    pri select for k := 1 to 3 replicate c[k] ? v; write(k, ':', v, ';') end\nend;\n"
    ++ codes "begin cobegin t[1](1); t[2](2); t[3](3); r coend; writeln end.\n") [] 1 (by_words (stream 2 1)) 1000
    ≡ shows (codes "1:10;2:20;3:30;\n") Finished []
unfolding ran
replicated_alternatives_2 = refl

spread_without_values : ran
    (codes "program z; var c: array[1..2] of channel of integer; k, v: integer; begin select for k := 2 to 1 replicate c[k] ? v end end.") [] 1
    (by_turn 0) 1000 ≡ shows [] (Fault 0 1 Closed) []
unfolding ran
spread_without_values = refl

-- 2 producers of 4 items and 1 consumer of 8
bounded_buffer :
    ran (codes "program buffer;\nconst size = 8;\nmonitor b;\n  export put, take;\n  var slot: array[0..7] of integer;\n      head, count: integer;\n"
    ++ codes "      full, none: condition;\n  procedure put(x: integer);\n  begin\n    if count = size then delay(full);\n"
    ++ codes "    slot[(head + count) mod size] := x;\n    count := count + 1;\n    resume(none)\n  end;\n  procedure take(var x: integer);\n"
    ++ codes "  begin\n    if count = 0 then delay(none);\n    x := slot[head];\n    head := (head + 1) mod size;\n    count := count - 1;\n"
    ++ codes "    resume(full)\n  end;\nend;\nvar m: semaphore; total, k: integer;\nprocess type producer;\n  var i: integer;\nbegin\n"
    ++ codes "  for i := 1 to 4 do b.put(i)\nend;\nprocess type consumer;\n  var i, v, sum: integer;\nbegin\n"
    ++ codes "  for i := 1 to 8 do begin b.take(v); sum := sum + v end;\n  wait(m); total := total + sum; signal(m)\nend;\n"
    ++ codes "var p: array[1..2] of producer; c: array[1..1] of consumer;\nbegin\n  initial(m, 1);\n  cobegin\n    for k := 1 to 2 do p[k];\n"
    ++ codes "    for k := 1 to 1 do c[k]\n  coend;\n  writeln('total  ', total)\nend.\n") [] 1 (by_words (stream 1 1)) 2000
    ≡ shows (codes "total  20\n") Finished []
unfolding ran
bounded_buffer = refl
