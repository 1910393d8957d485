-- Behind the instruction of an action code stands for what is left.
use Rattle.std.proofs.Common.{◌≡◌, ℕ, zero, suc, ◌+◌, ◌<◌, ◌≤◌, ℤ, Bool, true, false, if◌then◌else◌, List, [], ◌∷◌, ◌++◌, length, drop, reverse, Option, Some}
use Rattle.std.proofs.Common.{None, refl, sym, ap, ◌∙◌, subst, arith, append_assoc}
use Rattle.std.specs.Prelude.{set}
use Rattle.std.proofs.lemmas.List.{length-append, length-reverse}
use Rattle.std.proofs.lemmas.List.Sums.{sum_by-cons, sum_by-append}
use Rattle.std.proofs.lemmas.Option.{same_Some}
use Rattle.std.proofs.lemmas.Bool.Decides.{nat_tests}
use Rattle.std.proofs.Math.Seq.{drop-append_seam}
use Rattle.pfc_code.specs.declared.instructions.Instr.{Instr}
use Rattle.pfc_code.specs.declared.instructions.Instr.TheVariants.{LOAD, STORE, TURN, FORW, FORT, GRD, COEND, SINI, SWAIT, SSIG, EACC, ARMS, ARMR, ARMT, SEL}
use Rattle.pfc_code.specs.declared.instructions.Instr.TheVariants.{DELAY, RESUME, EMPTY, SLEEP, CLOCK, RAND, WRS, WRNL, RDNL, EOF, EOLN}
use Rattle.pfc_code.specs.Operands.{receiving}
use Rattle.pfc_types.specs.Types.{Forms, form_of, is_simple}
use Rattle.pfc_types.specs.Blocks.{module_at}
use Rattle.pfc_types.specs.declared.types.TypeId.{TypeId}
use Rattle.pfc_types.specs.declared.types.TypeForm.{TypeForm}
use Rattle.pfc_types.specs.declared.heads.Formal.{Formal}
use Rattle.pfc_values.specs.declared.simple.Simple.{Simple}
use Rattle.pfc_values.specs.declared.simple.Simple.TheVariants.{Integer, Boolean, Char}
use Rattle.pfc_stacks.specs.Stacks.{operand}
use Rattle.pfc_stacks.specs.Effects.{value_behind}
use Rattle.pfc_semantics.specs.Values.{Value, ordinal}
use Rattle.pfc_semantics.specs.Displays.{Spot}
use Rattle.pfc_semantics.specs.Objects.{module_number}
use Rattle.pfc_semantics.specs.Operators.{simple_of}
use Rattle.pfc_semantics.specs.Programs.{Block, block_number}
use Rattle.pfc_semantics.specs.Remainders.{Context, Replica, Accepting, Offer, Open, Otherwise, Way, Scan, Argument, by_value, by_reference, Remainder}
use Rattle.pfc_semantics.specs.Remainders.{AwaitsValue, Call, Action, to_send, to_receive, to_accept, to_wait, to_end, leave, own, to_procedure, to_function}
use Rattle.pfc_semantics.specs.Remainders.{to_module, to_requeue, to_process, to_entry, reads, writes, turns, calls, finishes, prints, inputs, skips, asks_eof}
use Rattle.pfc_semantics.specs.Remainders.{asks_eoln, asks_clock, asks_empty, draws, joins, initials, waits, signals, delays, resumes, sleeps, meets, decides}
use Rattle.pfc_semantics.specs.Remainders.{parts, scans, bars, passes, faults}
use Rattle.pfc_semantics.specs.Statements.{behind}
use Rattle.pfc_semantics.specs.Channels.{behind_open}
use Rattle.pfc_semantics.specs.Rendezvous.{meeting_of}
use Rattle.pfc_semantics.specs.Rewriting.{going, holding}
use Rattle.pfc_translation.specs.Sites.{Site, forms_of, type_cells}
use Rattle.pfc_translation.specs.Calls.{write_instr, read_instr, enter_instr, formal_cells, formals_cells}
use Rattle.pfc_translation.specs.Operands.{arguments, takes}
use Rattle.pfc_cells.specs.Shapes.{words_of}
use Rattle.pfc_standing_code.specs.Shapes.{a_number, a_whole, shape_of, shape_cells, IsSound, IsOf, is_number, is_array, is_record, IsShaped}
use Rattle.pfc_standing_code.specs.Settings.{View, Setting, of_own, site_of, with_accept, parted, IsAt, arrived}
use Rattle.pfc_standing_code.specs.Effects.{Arm}
use Rattle.pfc_standing_code.specs.Typed.{unlined}
use Rattle.pfc_standing_code.specs.Words.{IsChecked, IsArgument, AreHeldAt, none_held, one_more}
use Rattle.pfc_standing_code.specs.Performs.{BranchAt, DecidesAt, IsSent, of_message, of_signal, IsReceived, into_variable, into_nothing, IsOpen, AreOpen}
use Rattle.pfc_standing_code.specs.Performs.{WayAt, own_block, own_room, behind_scan, own_again, Tries, IsCheckedFor, Performs}
use Rattle.pfc_standing_code.specs.Awaits.{PerformsAnywhere, BehindScanAt, TakesValue, CallsAt}
use Rattle.pfc_standing_code.specs.Following.{IsPiece, number, wide_number, string, wide_string, newline, IsWrite, of_value, of_kept, IsTurn, of_loop, of_count}
use Rattle.pfc_standing_code.specs.Following.{MeetsBy, ArrivedBy, names_of, AreChecked}
use Rattle.pfc_standing_code.proofs.Checked.{checked_for, checked_with}
use Rattle.pfc_standing_code.proofs.Parts.{words_once}
use Rattle.pfc_kept_code.proofs.Seen.{branch_seen}
use Rattle.pfc_following_expressions.proofs.Glue.{room_for}
use Rattle.pfc_following_expressions.proofs.Held.{shaped_cells}
use Rattle.pfc_following_source.specs.selects.Phrases.{Behind}
use Rattle.pfc_following_source.proofs.selects.Counts.{words_count}
use Rattle.pfc_following_source.proofs.selects.Jumps.{behind_performs}
use Rattle.pfc_following_source.proofs.selects.Branches.{branch_performs, meeting_performs}
use Rattle.pfc_following_source.specs.Behind.{GoesOnAt, Over, GoesOn, GivesNumber, GivesValue, BehindWayBack, BehindCall, BehindAccept, BehindMeeting}
use Rattle.pfc_following_source.specs.Behind.{branch_of, BehindOpen, BehindAll, BehindElse, BehindScan, BehindPass, in_trial, LeavesBehind}

-- a value of a simple type is a number
module _ (forms : Forms) (sound : IsSound forms) where
  no_form : {A : Type 0} (t : TypeId) (form : TypeForm) → is_simple t ≡ true → form_of forms t ≡ Some form → A
  no_form t form simple e = absurd (by (sound.simple_form t simple) e)
    where
      by : form_of forms t ≡ None → form_of forms t ≡ Some form → ⊥
      by h k = cc

  number_of : {t : TypeId} {v : Value} → IsOf forms t v → is_simple t ≡ true → (n : ℤ) × (v ≡ ordinal n)
  number_of (is_number t n simple) e = (n, refl)
  number_of (is_array t over element low high vs form are) e = no_form t _ e form
  number_of (is_record t fields vs form are) e = no_form t _ e form

  is_shaped : (t : TypeId) (v : Value) → IsOf forms t v → IsShaped forms (shape_of t) v
  is_shaped t v is = by (is_simple t) refl
    where
      by : (b : Bool) → is_simple t ≡ b → IsShaped forms (if b then a_number else a_whole t) v
      by true e = number_of is e
      by false e = is

-- ## What an instruction takes

-- the operands of a call's arguments are those cells that its parameters take
module _ (forms : Forms) (sound : IsSound forms) where
  argument_count : (view : View) (s : Site) (f : Formal) (a : Argument) (words : List ℤ) → forms_of s ≡ forms → IsArgument view s f a words
      → length words ≡ formal_cells forms f
  argument_count view s f (by_value v) words same is =
      let count = words_count forms sound is.0 v (subst (λ (y : Forms). IsOf y is.0 v) same is.3) ∙ shaped_cells forms sound is.0 in
      ap (λ (y : List ℤ). length y) is.4 ∙ count ∙ ap (λ (o : Option TypeId). type_cells forms o) (sym is.2)
      ∙ ap (λ (r : Bool). if r then 1 else type_cells forms f.t) (sym is.1)
  argument_count view s f (by_reference v) words same is =
      ap (λ (y : List ℤ). length y) is.3 ∙ ap (λ (r : Bool). if r then 1 else type_cells forms f.t) (sym is.1)

  held_taken : (view : View) (s : Site) {formals : List Formal} {given : List Argument} {ops below : List ℤ} → forms_of s ≡ forms
      → AreHeldAt view s formals given ops below
      → (taken : List ℤ) × (ops ≡ taken ++ below) × (length taken ≡ formals_cells forms formals)
  held_taken view s same (none_held below) = ([], refl, refl)
  held_taken view s same (one_more formals given ops below f a words held is) =
      let before = held_taken view s same held in
      let mine : length (reverse words) ≡ formal_cells forms f = length-reverse words ∙ argument_count view s f a words same is in
      let all = sum_by-append (λ (k : Formal). formal_cells forms k) formals (f ∷ []) in
      let one = sum_by-cons (λ (k : Formal). formal_cells forms k) f [] in (
        reverse words ++ before.0,
        ap (λ (y : List ℤ). reverse words ++ y) before.1 ∙ sym (append_assoc (reverse words) before.0 below),
        length-append (reverse words) before.0 ∙ (let rest = before.2 in omega (arith, mine, all, one, rest)),
      )

-- so many operands from the top, and one more
cut : (taken below ops : List ℤ) (n : ℕ) → ops ≡ taken ++ below → length taken ≡ n → drop n ops ≡ below
cut taken below ops n e size = ap (λ (y : List ℤ). drop n y) e ∙ subst (λ (k : ℕ). drop k (taken ++ below) ≡ below) size (drop-append_seam taken below)

-- what is below fits where all does
fits_below : (most : ℕ) (taken ops below : List ℤ) → ops ≡ taken ++ below → length ops ≤ most → length below ≤ most
fits_below most taken ops below e fit = let size = ap (λ (y : List ℤ). length y) e ∙ length-append taken below in omega (arith, size, fit)

receives_two : (z : ℕ) → 0 < z → receiving z ≡ 2
receives_two zero h = absurd (omega arith)
receives_two (suc z) h = grind (arith, nat_tests)

-- one instruction stands at an address
same_instr : (g : Setting) (at : ℕ) (i j : Instr) (line other : ℕ) → IsAt g at i line → IsAt g at j other → i ≡ j
same_instr g at i j line other is there = ap (λ (y : Instr × ℕ). y.0) (same_Some (i, line) (j, other) (sym is ∙ there))

module _ (g : Setting) (b : Block) (at : ℕ) where
  -- ## Statements and numbers behind

  over : (ops : List ℤ) (P : List ℤ → Type 0) (i : Instr) (line : ℕ) (taken below : List ℤ) → IsAt g at i line → ops ≡ taken ++ below
      → length taken ≡ takes g.program i → P below → Over g at ops P
  over ops P i line taken below is e size h = λ j other there.
      let same = ap (λ (y : Instr). takes g.program y) (same_instr g at i j line other is there) in
      subst P (sym (cut taken below ops (takes g.program j) e (size ∙ same))) h

  goes : (x : Context) (k : Remainder) (i : Instr) (line : ℕ) (taken ops below : List ℤ) (arms : List Arm) → length ops ≤ g.room → IsCheckedFor g b x.env k
      → IsAt g at i line → ops ≡ taken ++ below
      → length taken ≡ takes g.program i → Performs g b x.env (at + 1) below arms k → GoesOn g b at ops arms x k
  goes x k i line taken ops below arms fit checked is e size rest =
      over ops (λ below. GoesOnAt g b (at + 1) below arms (going x.env k)) i line taken below is e size (
        fits_below g.room taken ops below e fit,
        (checked, rest),
      )

  gives : (x : Context) (u : AwaitsValue) (arms : List Arm) (i : Instr) (line : ℕ) (taken ops below : List ℤ) → suc (length below) ≤ g.room
      → IsChecked g b x.env → IsAt g at i line → ops ≡ taken ++ below
      → length taken ≡ takes g.program i → TakesValue g b x (at + 1) below arms a_number u → GivesNumber g b at ops arms x u
  gives x u arms i line taken ops below fit checked is e size awaited =
      over ops (λ below. (n : ℤ) → GoesOnAt g b (at + 1) (n ∷ below) arms (holding x (ordinal n) u)) i line taken below is e size
      (λ n. (fit, (a_number, below, checked, (n, refl), refl, awaited)))

  -- where the names in view are known
  module _ (x : Context) (checked : IsChecked g b x.env) where
    left : (k : Remainder) (i : Instr) (taken ops below : List ℤ) → length ops ≤ g.room → IsAt g at i x.line → ops ≡ taken ++ below
        → length taken ≡ takes g.program i → Performs g b x.env (at + 1) below [] k → GoesOn g b at ops [] x k
    left k i taken ops below fit is e size rest = goes x k i x.line taken ops below [] fit (checked_for g b x.env k checked) is e size rest

    of_value_read : (v : Spot) (u : AwaitsValue) (ops : List ℤ) (arms : List Arm) → ArrivedBy g b at ops arms (reads x v u) → GivesValue g b at ops arms x v u
    of_value_read v u ops arms h = λ t w new lies is.
        let same = words_once g.view (unlined (site_of g b x)) v (Some t) (Some h.0) w h.1 lies h.4 in
        let typed : t ≡ h.0 = same_Some t h.0 same.0 in
        let here = subst (λ (y : TypeId). IsOf g.program.state.forms y new) typed is in
        let count = words_count g.program.state.forms checked.sound h.0 new here in
        let size = length-append (reverse (words_of new)) h.2 ∙ ap (λ (n : ℕ). n + length h.2) (length-reverse (words_of new)) in
        let room : length (reverse (words_of new) ++ h.2) ≤ g.room = (let all = h.6 in omega (arith, count, size)) in
        over ops (λ below. GoesOnAt g b (at + 1) (reverse (words_of new) ++ below) arms (holding x new u))
        (LOAD (shape_cells g.program.state.forms (shape_of h.0))) x.line (h.1 ∷ []) h.2 h.5 h.3 refl
        (room, (shape_of h.0, h.2, checked, is_shaped g.program.state.forms checked.sound h.0 new here, refl, h.7))

    of_write : (v : Spot) (new : Value) (k : Remainder) (ops : List ℤ) (arms : List Arm) → length ops ≤ g.room → IsWrite g b x at ops arms v new k
        → GoesOn g b at ops arms x k
    of_write v new k ops arms fit (of_value t w below e is lies store rest) =
        let count = words_count g.program.state.forms checked.sound t new is in
        let taken = reverse (words_of new) ++ w ∷ [] in
        let size : length taken ≡ shape_cells g.program.state.forms (shape_of t) + 1 = length-append (reverse (words_of new)) (w ∷ []) ∙ ap (λ (n : ℕ). n + 1)
        (length-reverse (words_of new) ∙ count) in
        goes x k (STORE (shape_cells g.program.state.forms (shape_of t))) x.line taken ops below arms fit (checked_for g b x.env k checked) store
        (e ∙ sym (append_assoc (reverse (words_of new)) (w ∷ []) below)) size rest
    of_write v new k ops arms fit (of_kept last kept w below none e f lies store rest) =
        goes x k FORW x.line [] ops ops arms fit (checked_for g b x.env k checked) store refl refl
        (subst (λ (y : List Arm). Performs g b x.env (at + 1) ops y k) (sym none) rest)

    of_turn : (ops : List ℤ) (k : Remainder) → length ops ≤ g.room → IsTurn g b x at ops k → BehindWayBack g b at ops x k
    of_turn ops k fit (of_loop a is rest) = (
      λ to line there. let same = ap turn_to (same_instr g at (TURN a) (TURN to) x.line line is there) in
          (fit, (checked_for g b x.env k checked, subst (λ (y : ℕ). Performs g b x.env y ops [] k) same rest)),
      λ d to line there. absurd (apart a d to (same_instr g at (TURN a) (FORT d to) x.line line is there)),
    )
      where
        turn_to : Instr → ℕ
        turn_to (TURN to) = to
        turn_to i = 0

        apart : (a d to : ℕ) → TURN a ≡ FORT d to → ⊥
        apart a d to e = cc
    of_turn ops k fit (of_count d a last kept w below e before is rest) = (
      λ to line there. absurd (apart d a to (same_instr g at (FORT d a) (TURN to) x.line line is there)),
      λ d' to line there.
          let same = same_instr g at (FORT d a) (FORT d' to) x.line line is there in
          let turned : set ops 1 (value_behind d' (operand ops 1)) ≡ last ∷ value_behind d kept ∷ w ∷ below =
          ap (λ (y : List ℤ). set y 1 (value_behind d' (operand y 1))) e ∙ ap (λ (i : Instr). last ∷ value_behind (down_of i) kept ∷ w ∷ below) (sym same) in
          let size = ap (λ (y : List ℤ). length y) e in
          let sized = ap (λ (y : List ℤ). length y) turned in
          let room : length (set ops 1 (value_behind d' (operand ops 1))) ≤ g.room = omega (arith, size, sized, fit) in (
            room,
            (
              checked_for g b x.env k checked,
              subst (λ (y : List ℤ). Performs g b x.env to y [] k) (sym turned)
                  (subst (λ (y : ℕ). Performs g b x.env y (last ∷ value_behind d kept ∷ w ∷ below) [] k) (ap turn_to same) rest),
            ),
          ),
    )
      where
        turn_to : Instr → ℕ
        turn_to (FORT d to) = to
        turn_to i = 0

        down_of : Instr → ℕ
        down_of (FORT d to) = d
        down_of i = 0

        apart : (d a to : ℕ) → FORT d a ≡ TURN to → ⊥
        apart d a to e = cc

    of_piece : (bytes : List ℕ) (ops below : List ℤ) (k : Remainder) → length ops ≤ g.room → IsPiece g x.line at ops below bytes → Performs g b x.env
        (at + 1) below [] k → GoesOn g b at ops [] x k
    of_piece bytes ops below k fit (number t n e f is) rest = left k (write_instr t 0) (n ∷ []) ops below fit is e (written t) rest
      where
        written : (t : Simple) → 1 ≡ takes g.program (write_instr t 0)
        written Integer = refl
        written Boolean = refl
        written Char = refl
    of_piece bytes ops below k fit (wide_number t n w e f is) rest = left k (write_instr t 1) (w ∷ n ∷ []) ops below fit is e (written t) rest
      where
        written : (t : Simple) → 2 ≡ takes g.program (write_instr t 1)
        written Integer = refl
        written Boolean = refl
        written Char = refl
    of_piece bytes ops below k fit (string s e f is) rest = left k (WRS s 0) [] ops below fit is e refl rest
    of_piece bytes ops below k fit (wide_string s w text e f h is) rest = left k (WRS s 1) (w ∷ []) ops below fit is e refl rest
    of_piece bytes ops below k fit (newline e f is) rest = left k WRNL [] ops below fit is e refl rest

    -- ## Calls

    -- the arguments, of which the block that is named takes as many cells as it has parameters
    of_call : (taken ops below : List ℤ) (arms : List Arm) (formals : List Formal) (call : Call) → length ops ≤ g.room → ops ≡ taken ++ below
        → length taken ≡ formals_cells g.program.state.forms formals → CallsAt g b x at below arms formals call → BehindCall g b at ops arms x call
    of_call taken ops below arms formals (to_procedure scope k) fit e size h = left k _ taken ops below fit h.1.3 e (size ∙ sym h.1.1) h.1.4
    of_call taken ops below arms formals (to_function scope u) fit e size h =
        let p = h.1 in gives x u arms _ x.line taken ops below p.4 checked p.3 e (size ∙ sym p.1) p.5
    of_call taken ops below arms formals (to_module n scope k) fit e size h =
        left k _ taken ops below fit h.1.2 e (size ∙ sym h.1.1 ∙ entered (module_at g.program.state.blocks n).resource
        (module_number g.program.state.blocks n) (block_number g.program scope)) h.1.3
      where
        entered : (resource : Bool) (m c : ℕ) → arguments g.program c ≡ takes g.program (enter_instr resource m c)
        entered true m c = refl
        entered false m c = refl
    of_call taken ops below arms formals (to_requeue scope) fit e size h = tt
    of_call taken ops below arms formals (to_process v k) fit e size h =
        let p = h.1 in
        let all = e ∙ ap (λ (y : List ℤ). taken ++ y) p.8 ∙ sym (append_assoc taken (p.2 ∷ []) p.3) in
        let count = length-append taken (p.2 ∷ []) in
        let params = p.7 in
        left k _ (taken ++ p.2 ∷ []) ops p.3 fit p.10 all (count ∙ (omega (arith, size, params))) p.11
    of_call taken ops below arms formals (to_entry v entry k) fit e size h =
        let p = h.1 in
        let all = e ∙ ap (λ (y : List ℤ). taken ++ y) p.7 ∙ sym (append_assoc taken (p.2 ∷ []) p.3) in
        left k _ (taken ++ p.2 ∷ []) ops p.3 fit p.9 all (length-append taken (p.2 ∷ []) ∙ ap (λ (n : ℕ). n + 1) size) p.10

    -- ## Communication and selects

    sent_count : (channel : Spot) (v : Value) (z : ℕ) (sent : List ℤ) → IsSent g (site_of g b x) channel v z sent → length sent ≡ z + 1
    sent_count channel v z sent (of_message t u n carries object some is cells e) =
        let count = words_count g.program.state.forms checked.sound u v is in
        ap (λ (y : List ℤ). length y) e ∙ length-append (reverse (words_of v)) (n ∷ []) ∙ ap (λ (n : ℕ). n + 1) (length-reverse (words_of v) ∙ count
        ∙ sym cells)
    sent_count channel v z sent (of_signal t u n carries object none is cells e) = ap (λ (y : List ℤ). length y) e ∙ ap (λ (n : ℕ). n + 1) (sym cells)

    received_count : (channel : Spot) (z : ℕ) (held : List ℤ) (target : Option Spot) → IsReceived g (site_of g b x) channel z held target
        → length held ≡ receiving z
    received_count channel z held _ (into_variable t u n w target carries object some lies cells e) =
        ap (λ (y : List ℤ). length y) e ∙ sym (receives_two z (subst (λ (y : ℕ). 0 < y) (sym cells) some.0))
    received_count channel z held _ (into_nothing t u n carries object signal none e) = ap (λ (y : List ℤ). length y) e ∙ ap receiving (sym none)

    of_accept :
        (ops : List ℤ) (a : Accepting) (o : Open) (k : Remainder) (to : ℕ) → g.trial ≡ of_own → length ops ≤ g.room
        → BranchAt g (site_of g b x) to (length ops) o.replica (Some a) o.next o.stmts (Behind g b x ops k) → BehindAccept g b to ops x a o k
    of_accept ops a o k to alone fit branch =
        λ view caller outer inner kept.
        let later : Setting = record g { view = view } in
        let inside : Setting = with_accept later a.scope caller in
        let seen = branch_seen g view (site_of g b x) to (length ops) o.replica (Some a) o.next o.stmts (Behind g b x ops k)
        (Behind later b x ops k) kept branch in (
          fit,
          (
            checked_for inside b x.env (meeting_of x a o caller k) (checked_with later b x.env a.scope caller outer),
            meeting_performs later b x alone o a caller k to ops outer inner seen,
          ),
        )

    of_meeting : (ops : List ℤ) (o : Open) (offer : Offer) (k : Remainder) → g.trial ≡ of_own → length ops ≤ g.room → o.replica ≡ None
        → MeetsBy g b x at ops o offer k
        → BehindMeeting g b at ops x o offer k
    of_meeting ops o (to_send channel v) k alone fit plain h = left k _ h.1 ops h.2 fit h.5 h.3 (sent_count channel v h.0 h.1 h.4) h.6
    of_meeting ops o (to_receive channel target) k alone fit plain h = left k _ h.1 ops h.2 fit h.5 h.3 (received_count channel h.0 h.1 target h.4) h.6
    of_meeting ops o (to_accept a) k alone fit plain h =
        of_accept ops a o k (at + 1) alone fit
        (subst (λ (r : Option Replica). BranchAt g (site_of g b x) (at + 1) (length ops) r (Some a) o.next o.stmts (Behind g b x ops k)) (sym plain) h.1)
    of_meeting ops o (to_wait n) k alone fit plain h = absurd h
    of_meeting ops o to_end k alone fit plain h = absurd h

    of_else :
        (ops : List ℤ) (pri : Bool) (otherwise : Option Otherwise) (k : Remainder) → g.trial ≡ of_own → length ops ≤ g.room
        → DecidesAt g (site_of g b x) at (length ops) pri otherwise (Behind g b x ops k) → BehindElse g b at ops x otherwise k
    of_else ops pri None k alone fit h = tt
    of_else ops pri (Some other) k alone fit h = λ p to line there.
        let same = ap else_of (same_instr g at (SEL (if pri then 1 else 0) h.0) (SEL p to) x.line line h.1 there) in
        let rest = behind_performs g b x.env x.line other.next other.stmts k h.0 ops alone h.3 in (
          fit,
          (
            checked_for g b x.env (behind other.next other.stmts k) checked,
            subst (λ (y : ℕ). Performs g b x.env y ops []
                (behind other.next other.stmts k)) same rest,
          ),
        )
      where
        else_of : Instr → ℕ
        else_of (SEL p to) = to
        else_of i = 0

    -- an alternative leads to its branch
    of_branch : (ops : List ℤ) (o : Open) (arm : Arm) (k : Remainder) (i : Instr) → g.trial ≡ of_own → length ops ≤ g.room → arm.by ≡ i
        → BranchAt g (site_of g b x) (branch_of i) (length ops) o.replica None o.next o.stmts (Behind g b x ops k)
        → GoesOnAt g b (branch_of arm.by) ops [] (going x.env (behind_open o k))
    of_branch ops o arm k i alone fit e branch =
        subst (λ (y : Instr). GoesOnAt g b (branch_of y) ops [] (going x.env (behind_open o k))) (sym e)
        (fit, (checked_for g b x.env (behind_open o k) checked, branch_performs g b x alone o.replica o.next o.stmts k (branch_of i) ops branch))

    of_open :
        (ops : List ℤ) (o : Open) (offer : Offer) (arm : Arm) (k : Remainder) → g.trial ≡ of_own → length ops ≤ g.room
        → IsOpen g (site_of g b x) (length ops) o offer arm (Behind g b x ops k) → BehindOpen g b ops x o offer (branch_of arm.by) k
    of_open ops o (to_send channel v) arm k alone fit h = of_branch ops o arm k (ARMS h.1 h.0) alone fit h.2 h.4
    of_open ops o (to_receive channel target) arm k alone fit h = of_branch ops o arm k (ARMR h.1 h.0) alone fit h.2 h.4
    of_open ops o (to_accept a) arm k alone fit h =
        subst (λ (y : Instr). BehindAccept g b (branch_of y) ops x a o k) (sym h.1) (of_accept ops a o k h.0 alone fit h.3)
    of_open ops o (to_wait n) arm k alone fit h = of_branch ops o arm k (ARMT h.0) alone fit h.1 h.4
    of_open ops o to_end arm k alone fit h = tt

    of_all :
        (ops : List ℤ) (os : List Open) (arms : List Arm) (k : Remainder) → g.trial ≡ of_own → length ops ≤ g.room
        → AreOpen g (site_of g b x) (length ops) os arms (Behind g b x ops k) → BehindAll g b ops x os arms k
    of_all ops [] [] k alone fit h = tt
    of_all ops [] (arm ∷ arms) k alone fit h = absurd h
    of_all ops (o ∷ os) [] k alone fit h = absurd h
    of_all ops (o ∷ os) (arm ∷ arms) k alone fit h = (of_open ops o o.offer arm k alone fit h.0, of_all ops os arms k alone fit h.1)

  -- ## Scans

  of_scan :
      (x : Context) (below : List ℤ) (scan : Scan) (k : Remainder) → length below ≤ own_room g.trial g.room → BehindScanAt g scan below k
      → BehindScan g below x scan.way k
  of_scan x below scan k fit h = by scan.way h
    where
      by : (way : Way)
          → WayAt (own_again g) (own_block g.trial g.block) way (behind_scan g.trial) (length below)
          (λ end. PerformsAnywhere (own_again g) (own_block g.trial g.block) end below k)
          → BehindScan g below x way k
      by leave h = (fit, h x.env)
      by (own bar) h = (fit, (tt, ((refl, refl), (behind_scan g.trial, arrived (behind_scan g.trial), (h.1, h.2)))))

  of_pass :
      (x : Context) (below : List ℤ) (scan : Scan) (k : Remainder) → length below ≤ own_room g.trial g.room → BehindScanAt g scan below k
      → BehindPass g below x scan.way k
  of_pass x below scan k fit h = by scan.way h
    where
      by : (way : Way)
          → WayAt (own_again g) (own_block g.trial g.block) way (behind_scan g.trial) (length below)
          (λ end. PerformsAnywhere (own_again g) (own_block g.trial g.block) end below k)
          → BehindPass g below x way k
      by leave h = (fit, h x.env)
      by (own bar) h = let guard = h.2 in (h.1, (guard.0, guard.1, guard.2, guard.3, (fit, guard.4 x.env), guard.5))

  -- ## Every action

  pub leads_on : (n : Action) (ops : List ℤ) (arms : List Arm) → length ops ≤ g.room → AreChecked g b (names_of n) → ArrivedBy g b at ops arms n
      → LeavesBehind g b at ops arms n
  leads_on (reads x v u) ops arms fit checked h = of_value_read x checked v u ops arms h
  leads_on (writes x v new k) ops arms fit checked h = of_write x checked v new k ops arms fit h.1
  leads_on (turns x k) ops arms fit checked h = of_turn x checked ops k fit h.1
  leads_on (calls x call given) ops arms fit checked h =
      let held = held_taken g.program.state.forms checked.sound g.view
      (unlined (site_of g b x)) refl h.2 in of_call x checked held.0 ops h.1 arms h.0 call fit held.1 held.2 h.3
  leads_on (finishes line) ops arms fit checked h = tt
  leads_on (prints x bytes k) ops arms fit checked h = of_piece x checked bytes ops h.1.0 k fit h.1.1 h.1.2
  leads_on (inputs x t v k) ops arms fit checked h = let p = h.1 in left x checked k (read_instr (simple_of t)) (p.0 ∷ []) ops p.1 fit p.4 p.2
      (taken (simple_of t)) p.5
    where
      taken : (t : Simple) → 1 ≡ takes g.program (read_instr t)
      taken Integer = refl
      taken Boolean = refl
      taken Char = refl
  leads_on (skips x k) ops arms fit checked h = left x checked k RDNL [] ops ops fit h.1.0 refl refl h.1.1
  leads_on (asks_eof x u) ops arms fit checked h =
      let p = h.1 in gives x u arms EOF x.line [] ops ops p.1 checked p.0 refl refl p.2
  leads_on (asks_eoln x u) ops arms fit checked h =
      let p = h.1 in gives x u arms EOLN x.line [] ops ops p.1 checked p.0 refl refl p.2
  leads_on (asks_clock x u) ops arms fit checked h =
      let p = h.1 in gives x u arms CLOCK x.line [] ops ops p.1 checked p.0 refl refl p.2
  leads_on (asks_empty x v u) ops arms fit checked h =
      let p = h.1 in
      let size = ap (λ (y : List ℤ). length y) p.2 in
      gives x u arms EMPTY x.line (p.0 ∷ []) ops p.1 (omega (arith, size, fit)) checked p.4 p.2 refl p.5
  leads_on (draws x n u) ops arms fit checked h =
      let p = h.1 in
      let size = ap (λ (y : List ℤ). length y) p.1 in gives x u arms RAND x.line (n ∷ []) ops p.0 (omega (arith, size, fit)) checked p.2 p.1 refl p.3
  leads_on (joins x k) ops arms fit checked h = left x checked k COEND [] ops ops fit h.1.0 refl refl h.1.1
  leads_on (initials x v n k) ops arms fit checked h =
      let p = h.1 in left x checked k SINI (n ∷ p.2.0 ∷ []) ops p.2.1 fit p.2.4 (p.1 ∙ ap (λ (y : List ℤ). n ∷ y) p.2.2) refl p.2.5
  leads_on (waits x v k) ops arms fit checked h = let p = h.1 in left x checked k SWAIT (p.0 ∷ []) ops p.1 fit p.4 p.2 refl p.5
  leads_on (signals x v k) ops arms fit checked h = let p = h.1 in left x checked k SSIG (p.0 ∷ []) ops p.1 fit p.4 p.2 refl p.5
  leads_on (delays x v n k) ops arms fit checked h =
      let p = h.1 in left x checked k DELAY (n ∷ p.2.0 ∷ []) ops p.2.1 fit p.2.4 (p.1 ∙ ap (λ (y : List ℤ). n ∷ y) p.2.2) refl p.2.5
  leads_on (resumes x v k) ops arms fit checked h = let p = h.1 in left x checked k RESUME (p.0 ∷ []) ops p.1 fit p.4 p.2 refl p.5
  leads_on (sleeps x n k) ops arms fit checked h = let p = h.1 in left x checked k SLEEP (n ∷ []) ops p.0 fit p.2 p.1 refl p.3
  leads_on (meets x o k) ops arms fit checked h = of_meeting x checked ops o o.offer k h.0.0 fit h.1.0.0 h.1.1
  leads_on (decides x sel k) ops arms fit checked h =
      let p = h.1 in (of_else x checked ops sel.pri sel.otherwise k h.0 fit p.0, of_all x checked ops sel.offered arms k h.0 fit p.1)
  leads_on (parts x caller k) ops arms fit checked h =
      over ops (λ below. GoesOnAt (parted g) b (at + 1) below [] (going x.env k)) EACC x.line [] ops h.1.0 refl refl (fit, (h.1.2, h.1.3))
  leads_on (scans x scan k) ops arms fit checked h = (
    of_scan x ops scan k h.1.1 h.1.3,
    λ sight room w c to same guard.
        let later = in_trial g c w scan at sight room in
        let tries : Tries later w scan (length ops) =
        record { attempt = _; trial = refl; whom = refl; within = refl; turn = h.1.2; room = h.1.1 } in
        (room_for later guard.3, (tt, (refl, (to, arrived to, (tries, same, guard, h.1.3))))),
  )
  leads_on (bars x bar k) ops arms fit checked h =
      let p = h.1 in
      let known = p.6 x.env in
      goes x k (GRD bar.resource) x.line (p.0 ∷ []) ops p.1 [] fit known.0 p.5 p.2 refl known.1
  leads_on (passes x w scan k) ops arms fit checked h =
      let p = h.1 in
      over ops (λ below. BehindPass g below x scan.way k) (GRD scan.resource) x.line (p.0 ∷ []) p.1 p.5 p.3 refl (of_pass x p.1 scan k p.2.room p.6)
  leads_on (faults x f) ops arms fit checked h = tt
