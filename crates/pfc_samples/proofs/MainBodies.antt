-- Programs that are their main body alone.
use Rattle.std.specs.Prelude.{◌≡◌, [], ◌∷◌, ◌++◌, codes, refl}
use Rattle.pfc_base.specs.declared.faults.RunFault.TheVariants.{Overflow, Division, Index, Range, Case, InputEnd, NoInteger, Below, Width}
use Rattle.pfc_state.specs.declared.endings.Ending.TheVariants.{Finished, Fault, Limit}
use Rattle.pfc_sched.specs.Picks.{by_turn}
use Rattle.pfc_samples.specs.Shows.{ran, shows, stands}

-- program a; begin writeln(1+2) end.
sum_of_two : ran (codes "program a; begin writeln(1+2) end.") [] 1 (by_turn 0) 100 ≡ shows (codes "3\n") Finished []
unfolding ran
sum_of_two = refl

-- program a; begin writeln(2147483647+1) end.
maxint_passed : ran (codes "program a; begin writeln(2147483647+1) end.") [] 1 (by_turn 0) 100 ≡ shows [] (Fault 0 1 Overflow) []
unfolding ran
maxint_passed = refl

-- program a; begin writeln(-2147483647-1) end.
least_integer : ran (codes "program a; begin writeln(-2147483647-1) end.") [] 1 (by_turn 0) 100 ≡ shows (codes "-2147483648\n") Finished []
unfolding ran
least_integer = refl

-- program d; begin write(7); writeln(1 div 0) end.
divided_by_zero : ran (codes "program d; begin write(7); writeln(1 div 0) end.") [] 1 (by_turn 0) 100 ≡ shows (codes "7") (Fault 0 1 Division) []
unfolding ran
divided_by_zero = refl

-- program a; var t: array[1..3] of integer; begin t[0] := 5 end.
below_the_array : ran (codes "program a; var t: array[1..3] of integer; begin t[0] := 5 end.") [] 1 (by_turn 0) 100 ≡ shows [] (Fault 0 1 Index) []
unfolding ran
below_the_array = refl

-- program a; var t: array[1..3] of integer; begin writeln(t[4]) end.
above_the_array : ran (codes "program a; var t: array[1..3] of integer; begin writeln(t[4]) end.") [] 1 (by_turn 0) 100 ≡ shows [] (Fault 0 1 Index) []
unfolding ran
above_the_array = refl

-- program p; begin repeat null forever end.
no_end : ran (codes "program p; begin repeat null forever end.") [] 1 (by_turn 0) 5 ≡ shows [] (Limit 5) (stands 0 (codes "ready") 1 ∷ [])
unfolding ran
no_end = refl

-- program p; begin end.
one_action : ran (codes "program p; begin end.") [] 1 (by_turn 0) 1 ≡ shows [] Finished []
unfolding ran
one_action = refl

-- program p; begin writeln end.
two_actions : ran (codes "program p; begin writeln end.") [] 1 (by_turn 0) 1 ≡ shows (codes "\n") (Limit 1) (stands 0 (codes "ready") 1 ∷ [])
unfolding ran
two_actions = refl

-- program i; var a, b: integer; begin read(a, b); writeln(a*b, eof) end.
product_read : ran (codes "program i; var a, b: integer; begin read(a, b); writeln(a*b, eof) end.") (codes " 6\n-7") 1
    (by_turn 0) 100 ≡ shows (codes "-42true\n") Finished []
unfolding ran
product_read = refl

-- program i; var a, b: integer; begin read(a, b); writeln(a*b, eof) end.
no_number : ran (codes "program i; var a, b: integer; begin read(a, b); writeln(a*b, eof) end.") (codes "6 x") 1
    (by_turn 0) 100 ≡ shows [] (Fault 0 1 NoInteger) []
unfolding ran
no_number = refl

-- program i; var a, b: integer; begin read(a, b); writeln(a*b, eof) end.
no_input : ran (codes "program i; var a, b: integer; begin read(a, b); writeln(a*b, eof) end.") (codes "6") 1 (by_turn 0) 100 ≡ shows [] (Fault 0 1 InputEnd) []
unfolding ran
no_input = refl

-- program c; var i, s: integer; begin for i := 1 to 10 do case i mod 3 of 0: s := s + i; 1, 2: s := s - 1 end; writeln(s:6, -7 div 2:4, -7 mod 2:4) end.
sum_by_case : ran (codes
    "program c; var i, s: integer; begin for i := 1 to 10 do case i mod 3 of 0: s := s + i; 1, 2: s := s - 1 end; writeln(s:6, -7 div 2:4, -7 mod 2:4) end.")
    [] 1 (by_turn 0) 200 ≡ shows (codes "    11  -3  -1\n") Finished []
unfolding ran
sum_by_case = refl

-- program w; type p = record x, y: integer end; var a, b: array[0..1] of p; c: p; begin a[1].y := 7; b := a; c := (b[1]); b[1].y := 8;
-- writeln(a[1].y, b[1].y, c.y, c.x) end.
whole_values :
    ran (codes "program w; type p = record x, y: integer end; var a, b: array[0..1] of p; c: p; begin a[1].y := 7; b := a; c := (b[1]); b[1].y := 8; "
    ++ codes "writeln(a[1].y, b[1].y, c.y, c.x) end.") [] 1 (by_turn 0) 100
    ≡ shows (codes "7870\n") Finished []
unfolding ran
whole_values = refl

-- program f; var c: char; b: boolean; begin c := chr(65); b := succ(false); writeln(c, succ(c), pred('b'), ord(b), abs(-3), sqr(4), odd(3), not b,
-- ord('a'):5) end.
functions :
    ran (codes "program f; var c: char; b: boolean; begin c := chr(65); b := succ(false); "
    ++ codes "writeln(c, succ(c), pred('b'), ord(b), abs(-3), sqr(4), odd(3), not b, ord('a'):5) end.") [] 1 (by_turn 0) 100
    ≡ shows (codes "ABa1316truefalse   97\n") Finished []
unfolding ran
functions = refl

-- program f; begin writeln(chr(256)) end.
out_of_range : ran (codes "program f; begin writeln(chr(256)) end.") [] 1 (by_turn 0) 100 ≡ shows [] (Fault 0 1 Range) []
unfolding ran
out_of_range = refl

-- program f; var b: boolean; begin b := true; b := succ(b) end.
behind_true : ran (codes "program f; var b: boolean; begin b := true; b := succ(b) end.") [] 1 (by_turn 0) 100 ≡ shows [] (Fault 0 1 Range) []
unfolding ran
behind_true = refl

-- program f; begin writeln('ab':4, 'cd', '', true:5, 'x':0, 12:-1) end.
wide : ran (codes "program f; begin writeln('ab':4, 'cd', '', true:5, 'x':0, 12:-1) end.") [] 1 (by_turn 0) 100 ≡ shows
    (codes "  abcd truex") (Fault 0 1 Width) []
unfolding ran
wide = refl

-- program r; var c: char; n: integer; begin readln(n); write(n); read(c); write(c, eoln); read(c); write(ord(c)); readln; writeln(eof) end.
lines_read : ran (codes
    "program r; var c: char; n: integer; begin readln(n); write(n); read(c); write(c, eoln); read(c); write(ord(c)); readln; writeln(eof) end.")
    (codes "12 rest\r\nq\r\n\n") 1 (by_turn 0) 100 ≡ shows (codes "12qtrue32true\n") Finished []
unfolding ran
lines_read = refl

-- program o; var t: array[1..2] of boolean; begin writeln(false and t[3]) end.
both_operands : ran (codes "program o; var t: array[1..2] of boolean; begin writeln(false and t[3]) end.") [] 1 (by_turn 0) 100 ≡ shows [] (Fault 0 1 Index) []
unfolding ran
both_operands = refl

-- program k; var i, n: integer; begin n := 3; for i := 1 to n do begin n := 9; i := 7; write(i) end; writeln(i) end.
count_kept : ran (codes "program k; var i, n: integer; begin n := 3; for i := 1 to n do begin n := 9; i := 7; write(i) end; writeln(i) end.") [] 1
    (by_turn 0) 100 ≡ shows (codes "7777\n") Finished []
unfolding ran
count_kept = refl

-- program m; var i: integer; begin for i := maxint - 1 to maxint do write(i, ' '); writeln(i = maxint) end.
last_integer : ran (codes "program m; var i: integer; begin for i := maxint - 1 to maxint do write(i, ' '); writeln(i = maxint) end.") [] 1
    (by_turn 0) 100 ≡ shows (codes "2147483646 2147483647 true\n") Finished []
unfolding ran
last_integer = refl

-- program m; begin writeln(7 mod (-2), -7 mod 2, 7 div (-2), (-2147483647 - 1) mod (-1)); writeln((-2147483647 - 1) div (-1)) end.
remainders : ran (codes "program m; begin writeln(7 mod (-2), -7 mod 2, 7 div (-2), (-2147483647 - 1) mod (-1)); writeln((-2147483647 - 1) div (-1)) end.") [] 1
    (by_turn 0) 100 ≡ shows (codes "1-1-30\n") (Fault 0 1 Overflow) []
unfolding ran
remainders = refl

-- program e; var t: array[1..2] of integer; begin t[3] := 1 div 0 end.
target_first : ran (codes "program e; var t: array[1..2] of integer; begin t[3] := 1 div 0 end.") [] 1 (by_turn 0) 100 ≡ shows [] (Fault 0 1 Index) []
unfolding ran
target_first = refl

-- program c; const size = 4; star = '*'; low = -size; var i: integer; t: array[low..size] of char; begin for i := low to size do t[i] := star; t[low]
-- := '<'; writeln(t[-4], t[size], low, maxint) end.
named_constants :
    ran (codes "program c; const size = 4; star = '*'; low = -size; var i: integer; t: array[low..size] of char; "
    ++ codes "begin for i := low to size do t[i] := star; t[low] := '<'; writeln(t[-4], t[size], low, maxint) end.") [] 1 (by_turn 0) 200
    ≡ shows (codes "<*-42147483647\n") Finished []
unfolding ran
named_constants = refl

-- program n; begin writeln((-7) mod 2, sqr(-3)); writeln(abs(-maxint - 1)) end.
negative_rest : ran (codes "program n; begin writeln((-7) mod 2, sqr(-3)); writeln(abs(-maxint - 1)) end.") [] 1 (by_turn 0) 100 ≡ shows
    (codes "-19\n") (Fault 0 1 Overflow) []
unfolding ran
negative_rest = refl

-- program s; begin writeln(succ(maxint)) end.
behind_maxint : ran (codes "program s; begin writeln(succ(maxint)) end.") [] 1 (by_turn 0) 100 ≡ shows [] (Fault 0 1 Range) []
unfolding ran
behind_maxint = refl

-- program f; var c: char; b: boolean; i: integer; begin for c := 'a' to 'c' do write(c); for b := true downto false do write(b); for i := -maxint
-- downto -maxint - 1 do write(' ', i); writeln end.
counts_of_each_type :
    ran (codes "program f; var c: char; b: boolean; i: integer; begin for c := 'a' to 'c' do write(c); for b := true downto false do write(b); "
    ++ codes "for i := -maxint downto -maxint - 1 do write(' ', i); writeln end.") [] 1 (by_turn 0) 100
    ≡ shows (codes "abctruefalse -2147483647 -2147483648\n") Finished []
unfolding ran
counts_of_each_type = refl

-- program t; var a: array[1..2, 0..1] of integer; i: integer; begin i := 1; a[i, i - 1] := 5; i := 2; a[i][1] := 7; writeln(a[1, 0], a[2, 1], a[1][1]) end.
two_indices : ran (codes
    "program t; var a: array[1..2, 0..1] of integer; i: integer; begin i := 1; a[i, i - 1] := 5; i := 2; a[i][1] := 7; writeln(a[1, 0], a[2, 1], a[1][1]) end.")
    [] 1 (by_turn 0) 100 ≡ shows (codes "570\n") Finished []
unfolding ran
two_indices = refl

-- program r; var i: integer; t: array[1..2] of integer; begin read(i, t[i]); writeln(t[2]) end.
index_read : ran (codes "program r; var i: integer; t: array[1..2] of integer; begin read(i, t[i]); writeln(t[2]) end.") (codes "2 7") 1
    (by_turn 0) 100 ≡ shows (codes "7\n") Finished []
unfolding ran
index_read = refl

-- program r; begin readln; readln; writeln(eof) end.
last_line_open : ran (codes "program r; begin readln; readln; writeln(eof) end.") (codes "6") 1 (by_turn 0) 100 ≡ shows (codes "true\n") Finished []
unfolding ran
last_line_open = refl

-- program r; begin readln; readln; writeln(eof) end.
last_line_closed : ran (codes "program r; begin readln; readln; writeln(eof) end.") (codes "6\n") 1 (by_turn 0) 100 ≡ shows [] (Fault 0 1 InputEnd) []
unfolding ran
last_line_closed = refl

-- program r; begin readln end.
nothing_to_skip : ran (codes "program r; begin readln end.") [] 1 (by_turn 0) 100 ≡ shows [] (Fault 0 1 InputEnd) []
unfolding ran
nothing_to_skip = refl

-- program i; var a: integer; begin read(a) end.
too_large : ran (codes "program i; var a: integer; begin read(a) end.") (codes "2147483648 1") 1 (by_turn 0) 100 ≡ shows [] (Fault 0 1 Overflow) []
unfolding ran
too_large = refl

-- program i; var a: integer; begin read(a) end.
sign_apart : ran (codes "program i; var a: integer; begin read(a) end.") (codes "- 5") 1 (by_turn 0) 100 ≡ shows [] (Fault 0 1 NoInteger) []
unfolding ran
sign_apart = refl

-- program i; var a, b: integer; begin read(a, b); writeln(a*b, eof) end.
returns : ran (codes "program i; var a, b: integer; begin read(a, b); writeln(a*b, eof) end.") (codes "\r\n6\r\n7\r\n") 1
    (by_turn 0) 100 ≡ shows (codes "42false\n") Finished []
unfolding ran
returns = refl

-- program d; var i: integer; begin i := random(-1) end.
below_zero : ran (codes "program d; var i: integer; begin i := random(-1) end.") [] 1 (by_turn 0) 100 ≡ shows [] (Fault 0 1 Below) []
unfolding ran
below_zero = refl

-- all loops
loops :
    ran (codes "program l;\nvar i, j: integer;\nbegin\n  i := 3;\n  while i > 0 do begin write(i); i := i - 1 end;\n"
    ++ codes "  repeat i := i + 1; if odd(i) then write('o') else write('e') until i = 4;\n  for j := 3 downto 2 do write(j:2);\n"
    ++ codes "  for j := 2 to 1 do write('never');\n  writeln\nend.\n") [] 1 (by_turn 0) 200
    ≡ shows (codes "321oeoe 3 2\n") Finished []
unfolding ran
loops = refl

-- a `case` without a label for its value
no_arm : ran (codes "program f;\nbegin\n  case 3 of 1: null; 2: null end\nend.\n") [] 1 (by_turn 0) 100 ≡ shows [] (Fault 0 3 Case) []
unfolding ran
no_arm = refl
