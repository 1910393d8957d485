-- Code texts of small programs: each instruction occurs, and each phrase.
use Rattle.std.specs.Prelude.{◌≡◌, ◌++◌, Some, codes, refl}
use Rattle.pfc_translation_samples.specs.Shows.{code_of}

sum_of_two_numbers : code_of (codes "program a; begin writeln(1+2) end.") ≡ Some
    (codes "     0     1 LIT 1\n     1     1 LIT 2\n     2     1 ADD\n     3     1 WRI 0\n     4     1 WRNL\n     5     1 END\n")
unfolding code_of
sum_of_two_numbers = refl

lost_update :
    code_of (codes "program a; var x: integer; process p; begin x := x + 1 end; process q; begin x := x + 1 end; begin cobegin p; q coend; writeln(x) end.")
    ≡ Some (codes "     0     1 ADDR 1 0\n     1     1 ADDR 1 0\n     2     1 LOAD 1\n     3     1 LIT 1\n     4     1 ADD\n     5     1 STORE 1\n"
    ++ codes "     6     1 END\n     7     1 ADDR 1 0\n     8     1 ADDR 1 0\n     9     1 LOAD 1\n    10     1 LIT 1\n    11     1 ADD\n"
    ++ codes "    12     1 STORE 1\n    13     1 END\n    14     1 ADDR 0 1\n    15     1 OBJ\n    16     1 NEW 0\n    17     1 ADDR 0 2\n"
    ++ codes "    18     1 OBJ\n    19     1 NEW 1\n    20     1 COEND\n    21     1 ADDR 0 0\n    22     1 LOAD 1\n    23     1 WRI 0\n"
    ++ codes "    24     1 WRNL\n    25     1 END\n")
unfolding code_of
lost_update = refl

shadowed_in_the_body :
    code_of (codes "program g;\nresource r; export s; var up: boolean; n: integer;\n"
    ++ codes "  guarded procedure s when up; var up: boolean; function n: integer; begin n := 7 end; begin if not up then write(n) end;\n"
    ++ codes "begin up := true end;\nbegin r.s; writeln end.")
    ≡ Some (codes "     0     3 ADDR 0 0\n     1     3 LIT 7\n     2     3 STORE 1\n     3     3 RETF\n     4     3 ADDR 1 0\n     5     3 LOAD 1\n"
    ++ codes "     6     3 GRD 0\n     7     3 ADDR 0 0\n     8     3 LOAD 1\n     9     3 NOT\n    10     3 JF 13\n    11     3 CALL 0 0\n"
    ++ codes "    12     3 WRI 0\n    13     3 RET\n    14     4 SCAN 0\n    15     4 ADDR 0 0\n    16     4 LIT 1\n    17     4 STORE 1\n"
    ++ codes "    18     5 RCALL 0 1\n    19     5 WRNL\n    20     5 END\n")
unfolding code_of
shadowed_in_the_body = refl

terminates_and_runs_again :
    code_of (codes "program r;\nprocess s; entry e; begin write('s'); select accept e or terminate end end;\nprocess p; begin s.e end;\n"
    ++ codes "begin cobegin s coend; cobegin s; p coend;\n writeln end.")
    ≡ Some (codes "     0     2 LIT 115\n     1     2 WRC 0\n     2     2 ARMA 0 0 0 5\n     3     2 ARMX\n     4     2 SEL 0 0\n     5     2 EACC\n"
    ++ codes "     6     2 JMP 7\n     7     2 END\n     8     3 ADDR 1 0\n     9     3 OBJ\n    10     3 ECALL 0 0\n    11     3 END\n"
    ++ codes "    12     4 ADDR 0 0\n    13     4 OBJ\n    14     4 NEW 0\n    15     4 COEND\n    16     4 ADDR 0 0\n    17     4 OBJ\n"
    ++ codes "    18     4 NEW 0\n    19     4 ADDR 0 1\n    20     4 OBJ\n    21     4 NEW 1\n    22     4 COEND\n    23     5 WRNL\n"
    ++ codes "    24     5 END\n")
unfolding code_of
terminates_and_runs_again = refl

delay_in_an_initialising_body :
    code_of (codes "program i;\nmonitor m; export p; var c: condition;\n  procedure p; begin delay(c) end;\nbegin p end;\nbegin m.p end.")
    ≡ Some (codes "     0     3 ADDR 1 0\n     1     3 OBJ\n     2     3 LIT 0\n     3     3 DELAY\n     4     3 RET\n     5     4 CALL 0 0\n"
    ++ codes "     6     5 MCALL 0 0\n     7     5 END\n")
unfolding code_of
delay_in_an_initialising_body = refl

signal_to_a_waiter :
    code_of (codes "program s; var a: semaphore; process p; begin wait(a) end; process q; begin sleep(1); signal(a) end; begin initial(a, 0); "
    ++ codes "cobegin p; q coend; wait(a) end.")
    ≡ Some (codes "     0     1 ADDR 1 0\n     1     1 OBJ\n     2     1 SWAIT\n     3     1 END\n     4     1 LIT 1\n     5     1 SLEEP\n"
    ++ codes "     6     1 ADDR 1 0\n     7     1 OBJ\n     8     1 SSIG\n     9     1 END\n    10     1 ADDR 0 0\n    11     1 OBJ\n"
    ++ codes "    12     1 LIT 0\n    13     1 SINI\n    14     1 ADDR 0 1\n    15     1 OBJ\n    16     1 NEW 0\n    17     1 ADDR 0 2\n"
    ++ codes "    18     1 OBJ\n    19     1 NEW 1\n    20     1 COEND\n    21     1 ADDR 0 0\n    22     1 OBJ\n    23     1 SWAIT\n"
    ++ codes "    24     1 END\n")
unfolding code_of
signal_to_a_waiter = refl

end_of_an_accept :
    code_of (codes "program g;\nprocess s;\nentry e;\nbegin\n  accept e\n  do\n    null;\n  write('s')\nend;\nprocess c; begin s.e end;\n"
    ++ codes "begin cobegin s; c coend end.")
    ≡ Some (codes "     0     5 ACC 0 0 0\n     1     5 EACC\n     2     8 LIT 115\n     3     8 WRC 0\n     4     9 END\n     5    10 ADDR 1 0\n"
    ++ codes "     6    10 OBJ\n     7    10 ECALL 0 0\n     8    10 END\n     9    11 ADDR 0 0\n    10    11 OBJ\n    11    11 NEW 0\n"
    ++ codes "    12    11 ADDR 0 1\n    13    11 OBJ\n    14    11 NEW 1\n    15    11 COEND\n    16    11 END\n")
unfolding code_of
end_of_an_accept = refl

rank_then_ticket :
    code_of (codes "program k;\nmonitor m; export put, go; var c: condition;\n  procedure put(i, r: integer); begin delay(c, r); write(i) end;\n"
    ++ codes "  procedure go; begin while not empty(c) do resume(c) end;\nend;\nprocess type w(i, r: integer); begin sleep(i); m.put(i, r) end;\n"
    ++ codes "var t: array[1..4] of w;\nprocess o; begin sleep(9); m.go end;\n"
    ++ codes "begin cobegin t[1](1, 3); t[2](2, -1); t[3](3, 3); t[4](4, -1); o coend; writeln end.")
    ≡ Some (codes "     0     3 ADDR 1 0\n     1     3 OBJ\n     2     3 ADDR 0 1\n     3     3 LOAD 1\n     4     3 DELAY\n     5     3 ADDR 0 0\n"
    ++ codes "     6     3 LOAD 1\n     7     3 WRI 0\n     8     3 RET\n     9     4 ADDR 1 0\n    10     4 OBJ\n    11     4 EMPTY\n"
    ++ codes "    12     4 NOT\n    13     4 JF 18\n    14     4 ADDR 1 0\n    15     4 OBJ\n    16     4 RESUME\n    17     4 TURN 9\n"
    ++ codes "    18     4 RET\n    19     6 ADDR 0 0\n    20     6 LOAD 1\n    21     6 SLEEP\n    22     6 ADDR 0 0\n    23     6 LOAD 1\n"
    ++ codes "    24     6 ADDR 0 1\n    25     6 LOAD 1\n    26     6 MCALL 0 0\n    27     6 END\n    28     8 LIT 9\n    29     8 SLEEP\n"
    ++ codes "    30     8 MCALL 0 1\n    31     8 END\n    32     9 ADDR 0 1\n    33     9 LIT 1\n    34     9 IDX 1 4 1\n    35     9 OBJ\n"
    ++ codes "    36     9 LIT 1\n    37     9 LIT 3\n    38     9 NEW 2\n    39     9 ADDR 0 1\n    40     9 LIT 2\n    41     9 IDX 1 4 1\n"
    ++ codes "    42     9 OBJ\n    43     9 LIT 2\n    44     9 LIT 1\n    45     9 NEG\n    46     9 NEW 2\n    47     9 ADDR 0 1\n"
    ++ codes "    48     9 LIT 3\n    49     9 IDX 1 4 1\n    50     9 OBJ\n    51     9 LIT 3\n    52     9 LIT 3\n    53     9 NEW 2\n"
    ++ codes "    54     9 ADDR 0 1\n    55     9 LIT 4\n    56     9 IDX 1 4 1\n    57     9 OBJ\n    58     9 LIT 4\n    59     9 LIT 1\n"
    ++ codes "    60     9 NEG\n    61     9 NEW 2\n    62     9 ADDR 0 5\n    63     9 OBJ\n    64     9 NEW 3\n    65     9 COEND\n"
    ++ codes "    66     9 WRNL\n    67     9 END\n")
unfolding code_of
rank_then_ticket = refl

select_in_a_guard :
    code_of (codes "program g;\nvar c, d: channel of integer; v: integer;\n"
    ++ codes "function f: boolean; begin f := false; select d ? v; f := true else f := v = 0 end end;\nprocess p; begin c ! 5 end;\n"
    ++ codes "process q; begin select when f => c ? v; write(v) or when not f => d ? v; write('d') end end;\n"
    ++ codes "begin cobegin p; q coend; writeln end.")
    ≡ Some (codes "     0     3 ADDR 0 0\n     1     3 LIT 0\n     2     3 STORE 1\n     3     3 ADDR 1 1\n     4     3 OBJ\n     5     3 ADDR 1 2\n"
    ++ codes "     6     3 ARMR 1 8\n     7     3 SEL 0 12\n     8     3 ADDR 0 0\n     9     3 LIT 1\n    10     3 STORE 1\n"
    ++ codes "    11     3 JMP 18\n    12     3 ADDR 0 0\n    13     3 ADDR 1 2\n    14     3 LOAD 1\n    15     3 LIT 0\n    16     3 EQ\n"
    ++ codes "    17     3 STORE 1\n    18     3 RETF\n    19     4 ADDR 1 0\n    20     4 OBJ\n    21     4 LIT 5\n    22     4 SEND 1\n"
    ++ codes "    23     4 END\n    24     5 CALL 0 1\n    25     5 JF 30\n    26     5 ADDR 1 0\n    27     5 OBJ\n    28     5 ADDR 1 2\n"
    ++ codes "    29     5 ARMR 1 38\n    30     5 CALL 0 1\n    31     5 NOT\n    32     5 JF 37\n    33     5 ADDR 1 1\n    34     5 OBJ\n"
    ++ codes "    35     5 ADDR 1 2\n    36     5 ARMR 1 42\n    37     5 SEL 0 0\n    38     5 ADDR 1 2\n    39     5 LOAD 1\n"
    ++ codes "    40     5 WRI 0\n    41     5 JMP 45\n    42     5 LIT 100\n    43     5 WRC 0\n    44     5 JMP 45\n    45     5 END\n"
    ++ codes "    46     6 ADDR 0 3\n    47     6 OBJ\n    48     6 NEW 1\n    49     6 ADDR 0 4\n    50     6 OBJ\n    51     6 NEW 2\n"
    ++ codes "    52     6 COEND\n    53     6 WRNL\n    54     6 END\n")
unfolding code_of
select_in_a_guard = refl

initialised :
    code_of (codes "program i;\nmonitor m; export p, q; var n: integer; c: condition;\n  procedure p; begin n := n + 1; write('p', n) end;\n"
    ++ codes "  procedure q; begin p; write('q') end;\nbegin n := 5; q end;\nresource r; export s; var b: boolean;\n"
    ++ codes "  guarded procedure s when b; begin write('s') end;\n  procedure t; begin write('t') end;\nbegin t; b := true end;\n"
    ++ codes "begin m.p; m.q; r.s; writeln end.")
    ≡ Some (codes "     0     3 ADDR 1 0\n     1     3 ADDR 1 0\n     2     3 LOAD 1\n     3     3 LIT 1\n     4     3 ADD\n     5     3 STORE 1\n"
    ++ codes "     6     3 LIT 112\n     7     3 WRC 0\n     8     3 ADDR 1 0\n     9     3 LOAD 1\n    10     3 WRI 0\n    11     3 RET\n"
    ++ codes "    12     4 CALL 0 1\n    13     4 LIT 113\n    14     4 WRC 0\n    15     4 RET\n    16     7 ADDR 1 2\n    17     7 LOAD 1\n"
    ++ codes "    18     7 GRD 0\n    19     7 LIT 115\n    20     7 WRC 0\n    21     7 RET\n    22     8 LIT 116\n    23     8 WRC 0\n"
    ++ codes "    24     8 RET\n    25     9 SCAN 0\n    26     5 ADDR 0 0\n    27     5 LIT 5\n    28     5 STORE 1\n    29     5 CALL 1 0\n"
    ++ codes "    30     9 CALL 3 0\n    31     9 ADDR 0 2\n    32     9 LIT 1\n    33     9 STORE 1\n    34    10 MCALL 0 0\n"
    ++ codes "    35    10 MCALL 0 1\n    36    10 RCALL 0 2\n    37    10 WRNL\n    38    10 END\n")
unfolding code_of
initialised = refl

chosen_accept_of_a_spread :
    code_of (codes "program k;\nprocess s; entry e(n: integer); var i: integer;\n"
    ++ codes "begin repeat select for i := 1 to 3 replicate when i > 1 => accept e(n: integer) do begin write(i, n); i := 7 end; "
    ++ codes "write(i, ';') or terminate end until i = 99 end;\nprocess a; begin s.e(4); s.e(5) end;\nbegin cobegin s; a coend; writeln end.")
    ≡ Some (codes "     0     3 ADDR 0 0\n     1     3 LIT 1\n     2     3 STORE 1\n     3     3 ADDR 0 0\n     4     3 LOAD 1\n     5     3 LIT 1\n"
    ++ codes "     6     3 GT\n     7     3 JF 9\n     8     3 ARMA 0 1 1 29\n     9     3 ADDR 0 0\n    10     3 LIT 2\n    11     3 STORE 1\n"
    ++ codes "    12     3 ADDR 0 0\n    13     3 LOAD 1\n    14     3 LIT 1\n    15     3 GT\n    16     3 JF 18\n    17     3 ARMA 0 1 1 33\n"
    ++ codes "    18     3 ADDR 0 0\n    19     3 LIT 3\n    20     3 STORE 1\n    21     3 ADDR 0 0\n    22     3 LOAD 1\n    23     3 LIT 1\n"
    ++ codes "    24     3 GT\n    25     3 JF 27\n    26     3 ARMA 0 1 1 37\n    27     3 ARMX\n    28     3 SEL 0 0\n    29     3 ADDR 0 0\n"
    ++ codes "    30     3 LIT 1\n    31     3 STORE 1\n    32     3 JMP 41\n    33     3 ADDR 0 0\n    34     3 LIT 2\n    35     3 STORE 1\n"
    ++ codes "    36     3 JMP 41\n    37     3 ADDR 0 0\n    38     3 LIT 3\n    39     3 STORE 1\n    40     3 JMP 41\n    41     3 ADDR 0 0\n"
    ++ codes "    42     3 LOAD 1\n    43     3 WRI 0\n    44     3 ADDR 0 1\n    45     3 LOAD 1\n    46     3 WRI 0\n    47     3 ADDR 0 0\n"
    ++ codes "    48     3 LIT 7\n    49     3 STORE 1\n    50     3 EACC\n    51     3 ADDR 0 0\n    52     3 LOAD 1\n    53     3 WRI 0\n"
    ++ codes "    54     3 LIT 59\n    55     3 WRC 0\n    56     3 JMP 57\n    57     3 ADDR 0 0\n    58     3 LOAD 1\n    59     3 LIT 99\n"
    ++ codes "    60     3 EQ\n    61     3 NOT\n    62     3 JF 64\n    63     3 TURN 0\n    64     3 END\n    65     4 ADDR 1 0\n"
    ++ codes "    66     4 OBJ\n    67     4 LIT 4\n    68     4 ECALL 0 1\n    69     4 ADDR 1 0\n    70     4 OBJ\n    71     4 LIT 5\n"
    ++ codes "    72     4 ECALL 0 1\n    73     4 END\n    74     5 ADDR 0 0\n    75     5 OBJ\n    76     5 NEW 0\n    77     5 ADDR 0 1\n"
    ++ codes "    78     5 OBJ\n    79     5 NEW 1\n    80     5 COEND\n    81     5 WRNL\n    82     5 END\n")
unfolding code_of
chosen_accept_of_a_spread = refl

whole_values :
    code_of (codes "program w;\ntype v = array[1..3] of integer; r = record a: v; c: char end;\nvar ch: channel of r; x, y: r; i: integer;\n"
    ++ codes "procedure by_value(z: r; var t: v); begin t := z.a; z.c := 'z'; z.a[1] := 9; t[2] := z.a[1] + t[3] end;\n"
    ++ codes "process p; var m: r; begin m.c := 'm'; m.a[2] := 7; ch ! m; ch ! (m) end;\nprocess q; begin ch ? x; select ch ? y end end;\n"
    ++ codes "begin cobegin p; q coend; by_value(x, y.a); for i := 1 to 3 do write(x.a[i], y.a[i], ' '); writeln(x.c, y.c) end.")
    ≡ Some (codes "     0     4 REF 0 4\n     1     4 ADDR 0 0\n     2     4 FLD 0\n     3     4 LOAD 3\n     4     4 STORE 3\n"
    ++ codes "     5     4 ADDR 0 0\n     6     4 FLD 3\n     7     4 LIT 122\n     8     4 STORE 1\n     9     4 ADDR 0 0\n    10     4 FLD 0\n"
    ++ codes "    11     4 LIT 1\n    12     4 IDX 1 3 1\n    13     4 LIT 9\n    14     4 STORE 1\n    15     4 REF 0 4\n    16     4 LIT 2\n"
    ++ codes "    17     4 IDX 1 3 1\n    18     4 ADDR 0 0\n    19     4 FLD 0\n    20     4 LIT 1\n    21     4 IDX 1 3 1\n"
    ++ codes "    22     4 LOAD 1\n    23     4 REF 0 4\n    24     4 LIT 3\n    25     4 IDX 1 3 1\n    26     4 LOAD 1\n    27     4 ADD\n"
    ++ codes "    28     4 STORE 1\n    29     4 RET\n    30     5 ADDR 0 0\n    31     5 FLD 3\n    32     5 LIT 109\n    33     5 STORE 1\n"
    ++ codes "    34     5 ADDR 0 0\n    35     5 FLD 0\n    36     5 LIT 2\n    37     5 IDX 1 3 1\n    38     5 LIT 7\n    39     5 STORE 1\n"
    ++ codes "    40     5 ADDR 1 0\n    41     5 OBJ\n    42     5 ADDR 0 0\n    43     5 LOAD 4\n    44     5 SEND 4\n    45     5 ADDR 1 0\n"
    ++ codes "    46     5 OBJ\n    47     5 ADDR 0 0\n    48     5 LOAD 4\n    49     5 SEND 4\n    50     5 END\n    51     6 ADDR 1 0\n"
    ++ codes "    52     6 OBJ\n    53     6 ADDR 1 1\n    54     6 RECV 4\n    55     6 ADDR 1 0\n    56     6 OBJ\n    57     6 ADDR 1 5\n"
    ++ codes "    58     6 ARMR 4 60\n    59     6 SEL 0 0\n    60     6 JMP 61\n    61     6 END\n    62     7 ADDR 0 10\n    63     7 OBJ\n"
    ++ codes "    64     7 NEW 1\n    65     7 ADDR 0 11\n    66     7 OBJ\n    67     7 NEW 2\n    68     7 COEND\n    69     7 ADDR 0 1\n"
    ++ codes "    70     7 LOAD 4\n    71     7 ADDR 0 5\n    72     7 FLD 0\n    73     7 CALL 0 0\n    74     7 ADDR 0 9\n    75     7 LIT 1\n"
    ++ codes "    76     7 LIT 3\n    77     7 FORB 0 96\n    78     7 FORW\n    79     7 ADDR 0 1\n    80     7 FLD 0\n    81     7 ADDR 0 9\n"
    ++ codes "    82     7 LOAD 1\n    83     7 IDX 1 3 1\n    84     7 LOAD 1\n    85     7 WRI 0\n    86     7 ADDR 0 5\n    87     7 FLD 0\n"
    ++ codes "    88     7 ADDR 0 9\n    89     7 LOAD 1\n    90     7 IDX 1 3 1\n    91     7 LOAD 1\n    92     7 WRI 0\n    93     7 LIT 32\n"
    ++ codes "    94     7 WRC 0\n    95     7 FORT 0 78\n    96     7 ADDR 0 1\n    97     7 FLD 3\n    98     7 LOAD 1\n    99     7 WRC 0\n"
    ++ codes "   100     7 ADDR 0 5\n   101     7 FLD 3\n   102     7 LOAD 1\n   103     7 WRC 0\n   104     7 WRNL\n   105     7 END\n")
unfolding code_of
whole_values = refl

nested_accepts :
    code_of (codes "program n;\nprocess s; entry e(i: integer; var r: integer); entry f(j: integer);\nvar t: integer;\nbegin\n"
    ++ codes "  accept e(i: integer; var r: integer) do begin\n    t := i;\n"
    ++ codes "    accept f(j: integer) do begin r := i + j; i := 0; t := t + i end;\n    r := r + t\n  end;\n"
    ++ codes "  select accept f(k: integer) do write(k) ; write('!') or terminate end\nend;\n"
    ++ codes "process a; var z: integer; begin s.e(3, z); write(z) end;\nprocess b; begin s.f(4); s.f(5) end;\n"
    ++ codes "begin cobegin s; a; b coend; writeln end.")
    ≡ Some (codes "     0     5 ACC 0 1 2\n     1     6 ADDR 0 0\n     2     6 ADDR 0 1\n     3     6 LOAD 1\n     4     6 STORE 1\n"
    ++ codes "     5     7 ACC 1 3 1\n     6     7 REF 0 2\n     7     7 ADDR 0 1\n     8     7 LOAD 1\n     9     7 ADDR 0 3\n"
    ++ codes "    10     7 LOAD 1\n    11     7 ADD\n    12     7 STORE 1\n    13     7 ADDR 0 1\n    14     7 LIT 0\n    15     7 STORE 1\n"
    ++ codes "    16     7 ADDR 0 0\n    17     7 ADDR 0 0\n    18     7 LOAD 1\n    19     7 ADDR 0 1\n    20     7 LOAD 1\n    21     7 ADD\n"
    ++ codes "    22     7 STORE 1\n    23     7 EACC\n    24     8 REF 0 2\n    25     8 REF 0 2\n    26     8 LOAD 1\n    27     8 ADDR 0 0\n"
    ++ codes "    28     8 LOAD 1\n    29     8 ADD\n    30     8 STORE 1\n    31     5 EACC\n    32    10 ARMA 1 4 1 35\n    33    10 ARMX\n"
    ++ codes "    34    10 SEL 0 0\n    35    10 ADDR 0 4\n    36    10 LOAD 1\n    37    10 WRI 0\n    38    10 EACC\n    39    10 LIT 33\n"
    ++ codes "    40    10 WRC 0\n    41    10 JMP 42\n    42    11 END\n    43    12 ADDR 1 0\n    44    12 OBJ\n    45    12 LIT 3\n"
    ++ codes "    46    12 ADDR 0 0\n    47    12 ECALL 0 2\n    48    12 ADDR 0 0\n    49    12 LOAD 1\n    50    12 WRI 0\n    51    12 END\n"
    ++ codes "    52    13 ADDR 1 0\n    53    13 OBJ\n    54    13 LIT 4\n    55    13 ECALL 1 1\n    56    13 ADDR 1 0\n    57    13 OBJ\n"
    ++ codes "    58    13 LIT 5\n    59    13 ECALL 1 1\n    60    13 END\n    61    14 ADDR 0 0\n    62    14 OBJ\n    63    14 NEW 0\n"
    ++ codes "    64    14 ADDR 0 1\n    65    14 OBJ\n    66    14 NEW 1\n    67    14 ADDR 0 2\n    68    14 OBJ\n    69    14 NEW 2\n"
    ++ codes "    70    14 COEND\n    71    14 WRNL\n    72    14 END\n")
unfolding code_of
nested_accepts = refl

a_select_of_both_sides :
    code_of (codes "program main(input, output); const lim = 7; var j_: integer; y, ye: array[5..6] of record ch2, key2: char; end; v_w: char; "
    ++ codes "var s81: semaphore; c_l: channel of synchronous; process clientt; var sum_: integer; ni, i, j41: array['m'..'n'] of integer; "
    ++ codes "begin c_l ? any; if not eof then read(y[abs(i['m']) mod 2 + 5].ch2) end; process late68; var turn23: integer; begin sleep(55); "
    ++ codes "for turn23 := 1 to 7 do begin pri select c_l ! any; or c_l ? any; or timeout 1 end; sleep(1) end end; begin initial(s81, 2); "
    ++ codes "cobegin late68; clientt coend; write(ye[6].ch2:2); write(lim = j_) end.")
    ≡ Some (codes "     0     1 ADDR 1 11\n     1     1 OBJ\n     2     1 RECV 0\n     3     1 EOF\n     4     1 NOT\n     5     1 JF 19\n"
    ++ codes "     6     1 ADDR 1 1\n     7     1 ADDR 0 3\n     8     1 LIT 109\n     9     1 IDX 109 110 1\n    10     1 LOAD 1\n"
    ++ codes "    11     1 ABS\n    12     1 LIT 2\n    13     1 MOD\n    14     1 LIT 5\n    15     1 ADD\n    16     1 IDX 5 6 2\n"
    ++ codes "    17     1 FLD 0\n    18     1 RDC\n    19     1 END\n    20     1 LIT 55\n    21     1 SLEEP\n    22     1 ADDR 0 0\n"
    ++ codes "    23     1 LIT 1\n    24     1 LIT 7\n    25     1 FORB 0 42\n    26     1 FORW\n    27     1 ADDR 1 11\n    28     1 OBJ\n"
    ++ codes "    29     1 ARMS 0 36\n    30     1 ADDR 1 11\n    31     1 OBJ\n    32     1 ARMR 0 37\n    33     1 LIT 1\n"
    ++ codes "    34     1 ARMT 38\n    35     1 SEL 1 0\n    36     1 JMP 39\n    37     1 JMP 39\n    38     1 JMP 39\n    39     1 LIT 1\n"
    ++ codes "    40     1 SLEEP\n    41     1 FORT 0 26\n    42     1 END\n    43     1 ADDR 0 10\n    44     1 OBJ\n    45     1 LIT 2\n"
    ++ codes "    46     1 SINI\n    47     1 ADDR 0 13\n    48     1 OBJ\n    49     1 NEW 1\n    50     1 ADDR 0 12\n    51     1 OBJ\n"
    ++ codes "    52     1 NEW 0\n    53     1 COEND\n    54     1 ADDR 0 5\n    55     1 LIT 6\n    56     1 IDX 5 6 2\n    57     1 FLD 0\n"
    ++ codes "    58     1 LOAD 1\n    59     1 LIT 2\n    60     1 WRC 1\n    61     1 LIT 7\n    62     1 ADDR 0 0\n    63     1 LOAD 1\n"
    ++ codes "    64     1 EQ\n    65     1 WRB 0\n    66     1 END\n")
unfolding code_of
a_select_of_both_sides = refl

a_requeue_and_a_case :
    code_of (codes "program test;\ntype\n  rec_ = integer;\nvar\n  y: integer;\n  i93, buf17: integer;\nresource pool;\n  export enter, leave;\n"
    ++ codes "  var\n    v_: integer;\n    x4: array[0..4] of array[1..5] of integer;\n    wy1, v_b, buf6: integer;\n"
    ++ codes "  var free94: integer; openn: boolean;\n  guarded procedure latec(var in: integer) when (free94 > 0) or openn;\n  begin null end;\n"
    ++ codes "  guarded procedure enter(var in: integer) when free94 < 1;\n  begin\n    free94 := free94 + 1;\n    requeue latec(in)\n  end;\n"
    ++ codes "  procedure leave;\n  begin free94 := free94 - 1; openn := not openn end;\nend;\nprocess task_;\n  const\n    c = 's';\n"
    ++ codes "    lim67 = false;\n  var\n    sum_r, i0: integer;\n    buf_a, j_g: integer;\n    n68: integer;\nbegin\n  sleep(1);\n"
    ++ codes "  sum_r := (ord('l') div 2) mod 10;\n  case i0 <= 859 of\n    true, false:\n      sleep(1);\n  end;\n  pool.enter(buf17)\nend;\n"
    ++ codes "process pa;\n  var\n    i93: integer;\n    i_, ir: boolean;\n    tmp: char;\nbegin\n  sleep(0);\n  i93 := ((1 mod 9)) mod 997\n"
    ++ codes "end;\nbegin\n  cobegin\n    task_;\n    pa\n  coend;\n  writeln('x=')\nend.")
    ≡ Some (codes "     0    14 ADDR 1 32\n     1    14 LOAD 1\n     2    14 LIT 0\n     3    14 GT\n     4    14 ADDR 1 33\n     5    14 LOAD 1\n"
    ++ codes "     6    14 OR\n     7    14 GRD 0\n     8    15 RET\n     9    16 ADDR 1 32\n    10    16 LOAD 1\n    11    16 LIT 1\n"
    ++ codes "    12    16 LT\n    13    16 GRD 0\n    14    18 ADDR 1 32\n    15    18 ADDR 1 32\n    16    18 LOAD 1\n    17    18 LIT 1\n"
    ++ codes "    18    18 ADD\n    19    18 STORE 1\n    20    19 REF 0 0\n    21    19 REQ 0 0\n    22    20 RET\n    23    22 ADDR 1 32\n"
    ++ codes "    24    22 ADDR 1 32\n    25    22 LOAD 1\n    26    22 LIT 1\n    27    22 SUB\n    28    22 STORE 1\n    29    22 ADDR 1 33\n"
    ++ codes "    30    22 ADDR 1 33\n    31    22 LOAD 1\n    32    22 NOT\n    33    22 STORE 1\n    34    22 RET\n    35    23 SCAN 0\n"
    ++ codes "    36    33 LIT 1\n    37    33 SLEEP\n    38    34 ADDR 0 0\n    39    34 LIT 108\n    40    34 LIT 2\n    41    34 DIV\n"
    ++ codes "    42    34 LIT 10\n    43    34 MOD\n    44    34 STORE 1\n    45    35 ADDR 0 1\n    46    35 LOAD 1\n    47    35 LIT 859\n"
    ++ codes "    48    35 LE\n    49    35 CEQ 1 52\n    50    35 CEQ 0 52\n    51    35 CERR\n    52    37 LIT 1\n    53    37 SLEEP\n"
    ++ codes "    54    35 JMP 55\n    55    39 ADDR 1 2\n    56    39 RCALL 0 1\n    57    40 END\n    58    47 LIT 0\n    59    47 SLEEP\n"
    ++ codes "    60    48 ADDR 0 0\n    61    48 LIT 1\n    62    48 LIT 9\n    63    48 MOD\n    64    48 LIT 997\n    65    48 MOD\n"
    ++ codes "    66    48 STORE 1\n    67    49 END\n    68    52 ADDR 0 34\n    69    52 OBJ\n    70    52 NEW 3\n    71    53 ADDR 0 35\n"
    ++ codes "    72    53 OBJ\n    73    53 NEW 4\n    74    54 COEND\n    75    55 WRS 0 0\n    76    55 WRNL\n    77    56 END\n")
unfolding code_of
a_requeue_and_a_case = refl

a_semaphore_and_a_repeat :
    code_of (codes "program p1; var sum_o: integer; n_z: char; var mutexo: semaphore; chan8: array[1..2] of channel of synchronous; "
    ++ codes "ca: channel of boolean; procedure get1(var q49: char); var bufy: integer; begin sum_o := bufy end; begin initial(mutexo, 1); "
    ++ codes "begin sum_o := 3; repeat write(12 * 5:2, (n_z)); sum_o := sum_o - 1 until (sum_o <= 0); end; sum_o := ((sum_o)) mod 7; "
    ++ codes "if false or false and true then n_z := 'r' else begin get1(n_z); sum_o := ((-succ(15) + sum_o)) mod 10; end; write(sum_o - 0); "
    ++ codes "write('a b') end.")
    ≡ Some (codes "     0     1 ADDR 1 0\n     1     1 ADDR 0 1\n     2     1 LOAD 1\n     3     1 STORE 1\n     4     1 RET\n     5     1 ADDR 0 2\n"
    ++ codes "     6     1 OBJ\n     7     1 LIT 1\n     8     1 SINI\n     9     1 ADDR 0 0\n    10     1 LIT 3\n    11     1 STORE 1\n"
    ++ codes "    12     1 LIT 12\n    13     1 LIT 5\n    14     1 MUL\n    15     1 LIT 2\n    16     1 WRI 1\n    17     1 ADDR 0 1\n"
    ++ codes "    18     1 LOAD 1\n    19     1 WRC 0\n    20     1 ADDR 0 0\n    21     1 ADDR 0 0\n    22     1 LOAD 1\n    23     1 LIT 1\n"
    ++ codes "    24     1 SUB\n    25     1 STORE 1\n    26     1 ADDR 0 0\n    27     1 LOAD 1\n    28     1 LIT 0\n    29     1 LE\n"
    ++ codes "    30     1 NOT\n    31     1 JF 33\n    32     1 TURN 12\n    33     1 ADDR 0 0\n    34     1 ADDR 0 0\n    35     1 LOAD 1\n"
    ++ codes "    36     1 LIT 7\n    37     1 MOD\n    38     1 STORE 1\n    39     1 LIT 0\n    40     1 LIT 0\n    41     1 LIT 1\n"
    ++ codes "    42     1 AND\n    43     1 OR\n    44     1 JF 49\n    45     1 ADDR 0 1\n    46     1 LIT 114\n    47     1 STORE 1\n"
    ++ codes "    48     1 JMP 61\n    49     1 ADDR 0 1\n    50     1 CALL 0 0\n    51     1 ADDR 0 0\n    52     1 LIT 15\n"
    ++ codes "    53     1 SUCC 0\n    54     1 NEG\n    55     1 ADDR 0 0\n    56     1 LOAD 1\n    57     1 ADD\n    58     1 LIT 10\n"
    ++ codes "    59     1 MOD\n    60     1 STORE 1\n    61     1 ADDR 0 0\n    62     1 LOAD 1\n    63     1 LIT 0\n    64     1 SUB\n"
    ++ codes "    65     1 WRI 0\n    66     1 WRS 0 0\n    67     1 END\n")
unfolding code_of
a_semaphore_and_a_repeat = refl

a_function_and_records :
    code_of (codes "program x_y;\ntype\n  rec = record val1, ok: array['u'..'v'] of integer; n: boolean; end;\n  vec = integer;\nvar\n"
    ++ codes "  xi, v: integer;\n  i_m, buf9: rec;\nfunction fun33: char;\n  var\n    n, y: integer;\nbegin\n  buf9 := i_m;\n  n := (+4) mod 2;\n"
    ++ codes "  fun33 := 'j'\nend;\nbegin\n  if i_m.ok[chr(64 + abs(229) mod 9)] mod 7 <> v then begin\n    begin\n"
    ++ codes "      i_m.ok['v'] := (sqr((8) mod 23)) mod 2;\n      sleep(2)\n    end\n  end;\n  for v := 1 to 5 do begin\n"
    ++ codes "    buf9.n := ('v') <> ('e');\n    buf9.n := true;\n  end;\n  if not eof then readln;\n  buf9.ok['v'] := (2) mod 2;\n"
    ++ codes "  write('{no}':4, fun33);\n  write('i')\nend.")
    ≡ Some (codes "     0    12 ADDR 1 7\n     1    12 ADDR 1 2\n     2    12 LOAD 5\n     3    12 STORE 5\n     4    13 ADDR 0 1\n"
    ++ codes "     5    13 LIT 4\n     6    13 LIT 2\n     7    13 MOD\n     8    13 STORE 1\n     9    14 ADDR 0 0\n    10    14 LIT 106\n"
    ++ codes "    11    14 STORE 1\n    12    15 RETF\n    13    17 ADDR 0 2\n    14    17 FLD 2\n    15    17 LIT 64\n    16    17 LIT 229\n"
    ++ codes "    17    17 ABS\n    18    17 LIT 9\n    19    17 MOD\n    20    17 ADD\n    21    17 CHR\n    22    17 IDX 117 118 1\n"
    ++ codes "    23    17 LOAD 1\n    24    17 LIT 7\n    25    17 MOD\n    26    17 ADDR 0 1\n    27    17 LOAD 1\n    28    17 NE\n"
    ++ codes "    29    17 JF 43\n    30    19 ADDR 0 2\n    31    19 FLD 2\n    32    19 LIT 118\n    33    19 IDX 117 118 1\n"
    ++ codes "    34    19 LIT 8\n    35    19 LIT 23\n    36    19 MOD\n    37    19 SQR\n    38    19 LIT 2\n    39    19 MOD\n"
    ++ codes "    40    19 STORE 1\n    41    20 LIT 2\n    42    20 SLEEP\n    43    23 ADDR 0 1\n    44    23 LIT 1\n    45    23 LIT 5\n"
    ++ codes "    46    23 FORB 0 59\n    47    23 FORW\n    48    24 ADDR 0 7\n    49    24 FLD 4\n    50    24 LIT 118\n    51    24 LIT 101\n"
    ++ codes "    52    24 NE\n    53    24 STORE 1\n    54    25 ADDR 0 7\n    55    25 FLD 4\n    56    25 LIT 1\n    57    25 STORE 1\n"
    ++ codes "    58    23 FORT 0 47\n    59    27 EOF\n    60    27 NOT\n    61    27 JF 63\n    62    27 RDNL\n    63    28 ADDR 0 7\n"
    ++ codes "    64    28 FLD 2\n    65    28 LIT 118\n    66    28 IDX 117 118 1\n    67    28 LIT 2\n    68    28 LIT 2\n    69    28 MOD\n"
    ++ codes "    70    28 STORE 1\n    71    29 LIT 4\n    72    29 WRS 0 1\n    73    29 CALL 0 0\n    74    29 WRC 0\n    75    30 LIT 105\n"
    ++ codes "    76    30 WRC 0\n    77    31 END\n")
unfolding code_of
a_function_and_records = refl

a_reading_and_a_string :
    code_of (codes "program x_y(output);\nconst\n  lim_m = 'z';\ntype\n  typ2 = array[1..4] of char;\nvar\n  i: integer;\n  ii, buf: char;\n"
    ++ codes "  n3: typ2;\nbegin\n  if not eof then read(i);\n  i := abs(i);\n  write(' it''s ')\nend.")
    ≡ Some (codes "     0    11 EOF\n     1    11 NOT\n     2    11 JF 5\n     3    11 ADDR 0 0\n     4    11 RDI\n     5    12 ADDR 0 0\n"
    ++ codes "     6    12 ADDR 0 0\n     7    12 LOAD 1\n     8    12 ABS\n     9    12 STORE 1\n    10    13 WRS 0 0\n    11    14 END\n")
unfolding code_of
a_reading_and_a_string = refl

loops_and_activations :
    code_of (codes "program a;\nvar\n  i_: integer;\n  n: char;\nprocedure act_r(a, bq: integer);\n  type\n    typ_ = array[1..4] of integer;\n"
    ++ codes "  var\n    sum, y, py73: integer;\n    buf36: typ_;\nbegin\n  if not not true then sleep(abs(1) mod 3);\n  n := pred('B');\n"
    ++ codes "  sleep(2)\nend;\nprocess p_;\n  var\n    j19: integer;\n    n50: integer;\n    x, qna: char;\nbegin\n"
    ++ codes "  for j19 := 1 to 2 do begin\n    i_ := 345;\n    i_ := 4;\n    begin\n      n50 := 0;\n      while (n50 < 1) do begin\n"
    ++ codes "        n50 := n50 + 1;\n        writeln('{no}');\n        if (n50 >= 0) or odd(j19) then begin\n          sleep(0)\n        end\n"
    ++ codes "      end\n    end\n  end;\n  x := 'o';\n  act_r(1 mod 10 - 1, j19);\n  act_r((0) - 0, 1)\nend;\nprocess late22;\n"
    ++ codes "  var turn: integer;\nbegin\n  sleep(27);\n  for turn := 1 to 7 do begin\n    sleep(1)\n  end\nend;\nbegin\n  cobegin\n"
    ++ codes "    late22;\n    p_\n  coend\nend.")
    ≡ Some (codes "     0    12 LIT 1\n     1    12 NOT\n     2    12 NOT\n     3    12 JF 9\n     4    12 LIT 1\n     5    12 ABS\n"
    ++ codes "     6    12 LIT 3\n     7    12 MOD\n     8    12 SLEEP\n     9    13 ADDR 1 1\n    10    13 LIT 66\n    11    13 PRED 2\n"
    ++ codes "    12    13 STORE 1\n    13    14 LIT 2\n    14    14 SLEEP\n    15    15 RET\n    16    22 ADDR 0 0\n    17    22 LIT 1\n"
    ++ codes "    18    22 LIT 2\n    19    22 FORB 0 56\n    20    22 FORW\n    21    23 ADDR 1 0\n    22    23 LIT 345\n    23    23 STORE 1\n"
    ++ codes "    24    24 ADDR 1 0\n    25    24 LIT 4\n    26    24 STORE 1\n    27    26 ADDR 0 1\n    28    26 LIT 0\n    29    26 STORE 1\n"
    ++ codes "    30    27 ADDR 0 1\n    31    27 LOAD 1\n    32    27 LIT 1\n    33    27 LT\n    34    27 JF 55\n    35    28 ADDR 0 1\n"
    ++ codes "    36    28 ADDR 0 1\n    37    28 LOAD 1\n    38    28 LIT 1\n    39    28 ADD\n    40    28 STORE 1\n    41    29 WRS 0 0\n"
    ++ codes "    42    29 WRNL\n    43    30 ADDR 0 1\n    44    30 LOAD 1\n    45    30 LIT 0\n    46    30 GE\n    47    30 ADDR 0 0\n"
    ++ codes "    48    30 LOAD 1\n    49    30 ODD\n    50    30 OR\n    51    30 JF 54\n    52    31 LIT 0\n    53    31 SLEEP\n"
    ++ codes "    54    27 TURN 30\n    55    22 FORT 0 20\n    56    36 ADDR 0 2\n    57    36 LIT 111\n    58    36 STORE 1\n"
    ++ codes "    59    37 LIT 1\n    60    37 LIT 10\n    61    37 MOD\n    62    37 LIT 1\n    63    37 SUB\n    64    37 ADDR 0 0\n"
    ++ codes "    65    37 LOAD 1\n    66    37 CALL 0 1\n    67    38 LIT 0\n    68    38 LIT 0\n    69    38 SUB\n    70    38 LIT 1\n"
    ++ codes "    71    38 CALL 0 1\n    72    39 END\n    73    43 LIT 27\n    74    43 SLEEP\n    75    44 ADDR 0 0\n    76    44 LIT 1\n"
    ++ codes "    77    44 LIT 7\n    78    44 FORB 0 83\n    79    44 FORW\n    80    45 LIT 1\n    81    45 SLEEP\n    82    44 FORT 0 79\n"
    ++ codes "    83    47 END\n    84    50 ADDR 0 3\n    85    50 OBJ\n    86    50 NEW 2\n    87    51 ADDR 0 2\n    88    51 OBJ\n"
    ++ codes "    89    51 NEW 1\n    90    52 COEND\n    91    53 END\n")
unfolding code_of
loops_and_activations = refl

draws_and_a_downto :
    code_of (codes "program x_y(output);\nconst\n  sizek = 7;\ntype\n  t_ = record val1: integer; ch1, ch2: char; x2: integer; end;\nvar\n"
    ++ codes "  v, sum_k: integer;\n  x6, v_, bufx: record ch2, val: t_; y: boolean; end;\n  v_u, vg, xp: t_;\n  tmp83, nv9: integer;\nvar\n"
    ++ codes "  link: array[1..2] of channel of array[1..4] of integer;\nprocess p;\n  var\n    i_, n9: integer;\n"
    ++ codes "    sum78, i, n_: array['m'..'m'] of array[-2..1] of integer;\n    j0, sum3, j7: t_;\nbegin\n  sleep(1);\n  sleep(0);\n"
    ++ codes "  v_u.x2 := ((v_.val.x2)) mod 100\nend;\nprocess p_w(be: boolean);\n  var\n    buf: integer;\n"
    ++ codes "    buf23, x: array['c'..'e'] of array[5..7] of char;\nbegin\n  v_.y := random(7) + 2 > 0 - sum_k;\n  sleep(1);\n  sleep(0);\n"
    ++ codes "  if not eof then read(vg.ch2)\nend;\nprocess late;\n  var turn_x: integer;\nbegin\n  sleep(51);\n  for turn_x := 1 to 3 do begin\n"
    ++ codes "    sleep(1)\n  end\nend;\nbegin\n  v_u := xp;\n  for tmp83 := 0 downto -2 do\n"
    ++ codes "    v_.val.x2 := (+sizek - bufx.ch2.x2 + tmp83) mod 7;\n  cobegin\n    p;\n    p_w(eoln and true);\n    late\n  coend\nend.")
    ≡ Some (codes "     0    19 LIT 1\n     1    19 SLEEP\n     2    20 LIT 0\n     3    20 SLEEP\n     4    21 ADDR 1 29\n     5    21 FLD 3\n"
    ++ codes "     6    21 ADDR 1 11\n     7    21 FLD 4\n     8    21 FLD 3\n     9    21 LOAD 1\n    10    21 LIT 100\n    11    21 MOD\n"
    ++ codes "    12    21 STORE 1\n    13    22 END\n    14    28 ADDR 1 11\n    15    28 FLD 8\n    16    28 LIT 7\n    17    28 RAND\n"
    ++ codes "    18    28 LIT 2\n    19    28 ADD\n    20    28 LIT 0\n    21    28 ADDR 1 1\n    22    28 LOAD 1\n    23    28 SUB\n"
    ++ codes "    24    28 GT\n    25    28 STORE 1\n    26    29 LIT 1\n    27    29 SLEEP\n    28    30 LIT 0\n    29    30 SLEEP\n"
    ++ codes "    30    31 EOF\n    31    31 NOT\n    32    31 JF 36\n    33    31 ADDR 1 33\n    34    31 FLD 2\n    35    31 RDC\n"
    ++ codes "    36    32 END\n    37    36 LIT 51\n    38    36 SLEEP\n    39    37 ADDR 0 0\n    40    37 LIT 1\n    41    37 LIT 3\n"
    ++ codes "    42    37 FORB 0 47\n    43    37 FORW\n    44    38 LIT 1\n    45    38 SLEEP\n    46    37 FORT 0 43\n    47    40 END\n"
    ++ codes "    48    42 ADDR 0 29\n    49    42 ADDR 0 37\n    50    42 LOAD 4\n    51    42 STORE 4\n    52    43 ADDR 0 41\n"
    ++ codes "    53    43 LIT 0\n    54    43 LIT 2\n    55    43 NEG\n    56    43 FORB 1 74\n    57    43 FORW\n    58    44 ADDR 0 11\n"
    ++ codes "    59    44 FLD 4\n    60    44 FLD 3\n    61    44 LIT 7\n    62    44 ADDR 0 20\n    63    44 FLD 0\n    64    44 FLD 3\n"
    ++ codes "    65    44 LOAD 1\n    66    44 SUB\n    67    44 ADDR 0 41\n    68    44 LOAD 1\n    69    44 ADD\n    70    44 LIT 7\n"
    ++ codes "    71    44 MOD\n    72    44 STORE 1\n    73    43 FORT 1 57\n    74    46 ADDR 0 45\n    75    46 OBJ\n    76    46 NEW 0\n"
    ++ codes "    77    47 ADDR 0 46\n    78    47 OBJ\n    79    47 EOLN\n    80    47 LIT 1\n    81    47 AND\n    82    47 NEW 1\n"
    ++ codes "    83    48 ADDR 0 47\n    84    48 OBJ\n    85    48 NEW 2\n    86    49 COEND\n    87    50 END\n")
unfolding code_of
draws_and_a_downto = refl

a_clock_and_nested_records :
    code_of (codes "program a;\ntype\n  vecq = integer;\n  typ76 = vecq;\nvar\n  x_: integer;\n  tmp_, tmp: char;\n  n, ia, i1: typ76;\n"
    ++ codes "  wn: record z2, ch: vecq; key2, val1: record key, x: typ76 end; end;\nprocedure q9;\nbegin\n"
    ++ codes "  wn.ch := (3 * 14 - wn.val1.x - clock) mod 100;\n  if 5 + wn.val1.key <> ord(tmp_) - 13 then\n    tmp_ := (('q'))\n  else\n"
    ++ codes "    if false or false then begin\n      wn.val1.key := 2;\n      begin\n        write('(*')\n      end\n    end\nend;\nbegin\n"
    ++ codes "  wn.key2.x := (14 * 1) mod 7;\n  n := (2) mod 100;\n  tmp_ := 'i'\nend.")
    ≡ Some (codes "     0    12 ADDR 1 6\n     1    12 FLD 1\n     2    12 LIT 3\n     3    12 LIT 14\n     4    12 MUL\n     5    12 ADDR 1 6\n"
    ++ codes "     6    12 FLD 4\n     7    12 FLD 1\n     8    12 LOAD 1\n     9    12 SUB\n    10    12 CLOCK\n    11    12 SUB\n"
    ++ codes "    12    12 LIT 100\n    13    12 MOD\n    14    12 STORE 1\n    15    13 LIT 5\n    16    13 ADDR 1 6\n    17    13 FLD 4\n"
    ++ codes "    18    13 FLD 0\n    19    13 LOAD 1\n    20    13 ADD\n    21    13 ADDR 1 1\n    22    13 LOAD 1\n    23    13 LIT 13\n"
    ++ codes "    24    13 SUB\n    25    13 NE\n    26    13 JF 31\n    27    14 ADDR 1 1\n    28    14 LIT 113\n    29    14 STORE 1\n"
    ++ codes "    30    13 JMP 41\n    31    16 LIT 0\n    32    16 LIT 0\n    33    16 OR\n    34    16 JF 41\n    35    17 ADDR 1 6\n"
    ++ codes "    36    17 FLD 4\n    37    17 FLD 0\n    38    17 LIT 2\n    39    17 STORE 1\n    40    19 WRS 0 0\n    41    22 RET\n"
    ++ codes "    42    24 ADDR 0 6\n    43    24 FLD 2\n    44    24 FLD 1\n    45    24 LIT 14\n    46    24 LIT 1\n    47    24 MUL\n"
    ++ codes "    48    24 LIT 7\n    49    24 MOD\n    50    24 STORE 1\n    51    25 ADDR 0 3\n    52    25 LIT 2\n    53    25 LIT 100\n"
    ++ codes "    54    25 MOD\n    55    25 STORE 1\n    56    26 ADDR 0 1\n    57    26 LIT 105\n    58    26 STORE 1\n    59    27 END\n")
unfolding code_of
a_clock_and_nested_records = refl
