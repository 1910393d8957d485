-- An instruction stands where an action is arrived at.
use Rattle.std.proofs.Common.{ℕ, ◌<◌, ℤ, Bool, List, length, Option, Some, None}
use Rattle.std.proofs.lemmas.Option.{slice_get_within}
use Rattle.pfc_code.specs.declared.instructions.Instr.{Instr}
use Rattle.pfc_semantics.specs.Programs.{Block}
use Rattle.pfc_semantics.specs.Remainders.{Context, Offer, Open, Otherwise, Remainder, Call, Action, to_send, to_receive, to_accept, to_wait, to_end}
use Rattle.pfc_semantics.specs.Remainders.{to_procedure, to_function, to_module, to_requeue, to_process, to_entry, reads, writes, turns, calls, finishes}
use Rattle.pfc_semantics.specs.Remainders.{prints, inputs, skips, asks_eof, asks_eoln, asks_clock, asks_empty, draws, joins, initials, waits, signals, delays}
use Rattle.pfc_semantics.specs.Remainders.{resumes, sleeps, meets, decides, parts, scans, bars, passes, faults}
use Rattle.pfc_semantics.specs.Values.{Value}
use Rattle.pfc_semantics.specs.Displays.{Spot}
use Rattle.pfc_base.specs.declared.faults.RunFault.{RunFault}
use Rattle.pfc_types.specs.declared.heads.Formal.{Formal}
use Rattle.pfc_translation.specs.Sites.{Site}
use Rattle.pfc_standing_code.specs.Settings.{Setting, IsAt}
use Rattle.pfc_standing_code.specs.Effects.{Arm}
use Rattle.pfc_standing_code.specs.Performs.{DecidesAt}
use Rattle.pfc_standing_code.specs.Awaits.{CallsAt}
use Rattle.pfc_standing_code.specs.Following.{IsPiece, number, wide_number, string, wide_string, newline, IsFault, of_operands, of_number_width}
use Rattle.pfc_standing_code.specs.Following.{of_string_width, IsWrite, of_value, of_kept, IsTurn, of_loop, of_count, MeetsBy, Arrived}

abbrev There : Setting → ℕ → Type 0
There g at = at < length g.code

module _ (g : Setting) (at : ℕ) where
  there : (i : Instr) (line : ℕ) → IsAt g at i line → There g at
  there i line is = slice_get_within g.code at (i, line) is

  of_piece : {line : ℕ} {ops below : List ℤ} {bytes : List ℕ} → IsPiece g line at ops below bytes → There g at
  of_piece (number t n e f is) = there _ _ is
  of_piece (wide_number t n w e f is) = there _ _ is
  of_piece (string s e f is) = there _ _ is
  of_piece (wide_string s w text e f h is) = there _ _ is
  of_piece (newline e f is) = there _ _ is

  of_fault : {line : ℕ} {ops : List ℤ} {arms : List Arm} {f : RunFault} → IsFault g line at ops arms f → There g at
  of_fault (of_operands i is can effect may) = there _ _ is
  of_fault (of_number_width t n w below e h is) = there _ _ is
  of_fault (of_string_width s w text below e f h is) = there _ _ is

  of_write : {b : Block} {x : Context} {ops : List ℤ} {arms : List Arm} {v : Spot} {new : Value} {k : Remainder} →
      IsWrite g b x at ops arms v new k → There g at
  of_write (of_value t w below e is lies store rest) = there _ _ store
  of_write (of_kept last kept w below none e f lies store rest) = there _ _ store

  of_turn : {b : Block} {x : Context} {ops : List ℤ} {k : Remainder} → IsTurn g b x at ops k → There g at
  of_turn (of_loop a is rest) = there _ _ is
  of_turn (of_count d a last kept w below e before is rest) = there _ _ is

  of_call : (b : Block) (x : Context) (below : List ℤ) (arms : List Arm) (formals : List Formal) (call : Call) →
      CallsAt g b x at below arms formals call → There g at
  of_call b x below arms formals (to_procedure scope k) h = there _ _ h.1.3
  of_call b x below arms formals (to_function scope u) h = there _ _ h.1.3
  of_call b x below arms formals (to_module n scope k) h = there _ _ h.1.2
  of_call b x below arms formals (to_requeue scope) h = there _ _ h.1.3
  of_call b x below arms formals (to_process v k) h = there _ _ h.1.10
  of_call b x below arms formals (to_entry v entry k) h = there _ _ h.1.9

  of_meeting : (b : Block) (x : Context) (ops : List ℤ) (o : Open) (offer : Offer) (k : Remainder) → MeetsBy g b x at ops o offer k → There g at
  of_meeting b x ops o (to_send channel v) k h = there _ _ h.5
  of_meeting b x ops o (to_receive channel target) k h = there _ _ h.5
  of_meeting b x ops o (to_accept a) k h = there _ _ h.0
  of_meeting b x ops o (to_wait n) k h = absurd h
  of_meeting b x ops o to_end k h = absurd h

  of_decision : (s : Site) (held : ℕ) (pri : Bool) (otherwise : Option Otherwise) (P : ℕ → Type 0) → DecidesAt g s at held pri otherwise P → There g at
  of_decision s held pri None P h = there _ _ h
  of_decision s held pri (Some other) P h = there _ _ h.1

  pub stands_there : (n : Action) (ops : List ℤ) (arms : List Arm) → Arrived g at ops arms n → There g at
  stands_there (reads x v u) ops arms h = there _ _ h.2.5
  stands_there (writes x v new k) ops arms h = of_write h.2.1
  stands_there (turns x k) ops arms h = of_turn h.2.1
  stands_there (calls x call given) ops arms h = of_call h.0 x h.2.1 arms h.2.0 call h.2.3
  stands_there (finishes line) ops arms h = there _ _ h.2.1.1
  stands_there (prints x bytes k) ops arms h = of_piece h.2.1.1
  stands_there (inputs x t v k) ops arms h = there _ _ h.2.1.4
  stands_there (skips x k) ops arms h = there _ _ h.2.1.0
  stands_there (asks_eof x u) ops arms h = there _ _ h.2.1.0
  stands_there (asks_eoln x u) ops arms h = there _ _ h.2.1.0
  stands_there (asks_clock x u) ops arms h = there _ _ h.2.1.0
  stands_there (asks_empty x v u) ops arms h = there _ _ h.2.1.4
  stands_there (draws x n u) ops arms h = there _ _ h.2.1.2
  stands_there (joins x k) ops arms h = there _ _ h.2.1.0
  stands_there (initials x v n k) ops arms h = there _ _ h.2.1.2.4
  stands_there (waits x v k) ops arms h = there _ _ h.2.1.4
  stands_there (signals x v k) ops arms h = there _ _ h.2.1.4
  stands_there (delays x v n k) ops arms h = there _ _ h.2.1.2.4
  stands_there (resumes x v k) ops arms h = there _ _ h.2.1.4
  stands_there (sleeps x n k) ops arms h = there _ _ h.2.1.2
  stands_there (meets x o k) ops arms h = of_meeting h.0 x ops o o.offer k h.2.1.1
  stands_there (decides x sel k) ops arms h = of_decision _ (length ops) sel.pri sel.otherwise _ h.2.1.0
  stands_there (parts x caller k) ops arms h = there _ _ h.2.1.0
  stands_there (scans x scan k) ops arms h = there _ _ h.2.1.2
  stands_there (bars x bar k) ops arms h = there _ _ h.2.1.5
  stands_there (passes x w scan k) ops arms h = there _ _ h.2.1.5
  stands_there (faults x f) ops arms h = of_fault h.2
