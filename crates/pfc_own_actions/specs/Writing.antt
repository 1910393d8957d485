-- Output pieces: each is one action.
use Rattle.std.specs.Prelude.{ℕ, zero, suc, ◌+◌, ℤ, Bool, min, List, [], ◌∷◌, Option, Some, None, Result, Ok, Err}
use Rattle.pfc_base.specs.declared.faults.RunFault.{RunFault}
use Rattle.pfc_stacks.specs.Stacks.{operand, operands_of}
use Rattle.pfc_values.specs.declared.simple.Simple.{Simple}
use Rattle.pfc_values.specs.Outputs.{is_open_line}
use Rattle.pfc_values.specs.Pieces.{piece, shown}
use Rattle.pfc_machines.specs.declared.machine.Machine.{Machine}
use Rattle.pfc_machines.specs.Actions.{at_rest, PrintedEffect}
use Rattle.pfc_machines.specs.Quiet.{left_by}

-- an instruction that prints has a width on top, or none
abbrev pub width_of : ℕ → List ℤ → Option ℤ
width_of zero ops = None
width_of (suc w) ops = Some (operand ops 0)

-- whether the output ends inside a line behind these bytes: where there are none, it does where it did before
abbrev pub open_behind : Bool → List ℕ → Bool
open_behind before [] = before
open_behind before (b ∷ bytes) = is_open_line (b ∷ bytes)

-- the piece is printed and so many operands are popped, or its width is refused
abbrev pub written_to : Machine → ℕ → ℕ → Result (List ℕ) RunFault → PrintedEffect
written_to m p n (Ok bytes) = Ok (record { machine = at_rest (record (left_by m p n) { in_line = open_behind m.in_line bytes }); bytes = bytes })
written_to m p n (Err f) = Err f

-- `WRI`, `WRB` and `WRC`: the value lies below the width
abbrev pub writes_value : Simple → ℕ → ℕ → Machine → PrintedEffect
writes_value t w p m =
    let ops = operands_of m.stacks p in written_to m p (1 + min w 1) (piece (width_of w ops) (shown t (operand ops (min w 1))))

-- `WRS`
abbrev pub writes_text : List ℕ → ℕ → ℕ → Machine → PrintedEffect
writes_text text w p m = written_to m p (min w 1) (piece (width_of w (operands_of m.stacks p)) text)

-- `WRNL` is a text of one byte, without a width.
abbrev pub line_end : List ℕ
line_end = 10 ∷ []
