-- What images hold beside their code: blocks, processes, objects by cell, strings, conditions, scans, alternatives.
use Rattle.std.specs.Prelude.{◌≡◌, [], ◌∷◌, ◌++◌, Some, codes, refl}
use Rattle.pfc_translation_samples.specs.Shows.{beside_code}

whole_of_the_lost_update :
    (beside_code (codes "program a; var x: integer; process p; begin x := x + 1 end; process q; begin x := x + 1 end; begin cobegin p; q coend; "
    ++ codes "writeln(x) end."))
    ≡ Some (record {
      code = [];
      lines = [];
      blocks =
          record { label = codes "p"; entry = 0; body = 0; params = 0; cells = 0; operands = 3; level = 1; line = 1 }
          ∷ record { label = codes "q"; entry = 7; body = 7; params = 0; cells = 0; operands = 3; level = 1; line = 1 }
          ∷ record { label = codes "a"; entry = 14; body = 14; params = 0; cells = 3; operands = 1; level = 0; line = 1 }
          ∷ [];
      processes =
          record { block = 2; label = codes "a" } ∷ record { block = 0; label = codes "p" } ∷ record { block = 1; label = codes "q" } ∷ [];
      objects = record { cell = 1; number = 1 } ∷ record { cell = 2; number = 2 } ∷ [];
      texts = [];
      semaphores = 0;
      channels = 0;
      conditions = [];
      monitors = 0;
      scans = [];
      arms = 0;
    })
unfolding beside_code
whole_of_the_lost_update = refl

-- one object and one block of each kind, and strings in all bodies
whole_of_all_kinds :
    (beside_code (codes "program b;\ntype pair = record s: semaphore; c: channel of char end;\n"
    ++ codes "monitor m; export go; var n: integer; full: condition;\n  procedure go(var i: integer); begin delay(full) end;\nend;\n"
    ++ codes "resource r; end;\nresource z; export h; var t: array[0..1] of integer;\n  guarded procedure h(j: integer) when t[1] = -1;\n"
    ++ codes "  begin write('zz') end;\nbegin write('zi') end;\nprocess type w(k: char); entry e(i: integer); var a: array[1..2] of integer;\n"
    ++ codes "begin\n  select accept e(i: integer) do begin a[1] := i end or terminate; write('no') end\nend;\n"
    ++ codes "var u: array['a'..'b', 0..1] of w; p: pair; q: array[1..2] of semaphore;\nprocess o; begin end;\nbegin write('yes') end."))
    ≡ Some (record {
      code = [];
      lines = [];
      blocks =
          record { label = codes "go"; entry = 0; body = 0; params = 1; cells = 1; operands = 2; level = 1; line = 4 }
          ∷ record { label = codes "h"; entry = 6; body = 14; params = 1; cells = 1; operands = 2; level = 1; line = 9 }
          ∷ record { label = codes "w"; entry = 17; body = 17; params = 1; cells = 4; operands = 2; level = 1; line = 12 }
          ∷ record { label = codes "o"; entry = 29; body = 29; params = 0; cells = 0; operands = 0; level = 1; line = 16 }
          ∷ record { label = codes "b"; entry = 30; body = 30; params = 0; cells = 13; operands = 0; level = 0; line = 17 }
          ∷ [];
      processes =
          record { block = 4; label = codes "b" }
          ∷ record { block = 2; label = codes "u[97][0]" }
          ∷ record { block = 2; label = codes "u[97][1]" }
          ∷ record { block = 2; label = codes "u[98][0]" }
          ∷ record { block = 2; label = codes "u[98][1]" }
          ∷ record { block = 3; label = codes "o" }
          ∷ [];
      objects =
          record { cell = 1; number = 0 }
          ∷ record { cell = 4; number = 1 }
          ∷ record { cell = 5; number = 2 }
          ∷ record { cell = 6; number = 3 }
          ∷ record { cell = 7; number = 4 }
          ∷ record { cell = 8; number = 0 }
          ∷ record { cell = 9; number = 0 }
          ∷ record { cell = 10; number = 1 }
          ∷ record { cell = 11; number = 2 }
          ∷ record { cell = 12; number = 5 }
          ∷ [];
      texts = codes "zz" ∷ codes "zi" ∷ codes "no" ∷ codes "yes" ∷ [];
      semaphores = 3;
      channels = 1;
      conditions = 0 ∷ [];
      monitors = 1;
      scans = 5 ∷ 16 ∷ [];
      arms = 2;
    })
unfolding beside_code
whole_of_all_kinds = refl
