-- Calls of procedures and functions, and the end of an activation.
use Rattle.std.specs.Prelude.{ℕ, ◌+◌, ◌==◌, nat_le, if◌then◌else◌, List, [], ◌∷◌, ◌++◌, length, map, drop, Option, Some, None, Ok, Err}
use Rattle.pfc_base.specs.declared.faults.RunFault.TheVariants.{Stack}
use Rattle.pfc_semantics.specs.Values.{Value}
use Rattle.pfc_semantics.specs.Store.{variable, with_room, without}
use Rattle.pfc_semantics.specs.Layouts.{sub_with}
use Rattle.pfc_semantics.specs.Objects.{first_laid}
use Rattle.pfc_semantics.specs.Displays.{Frame, Display, outward}
use Rattle.pfc_semantics.specs.Programs.{Block, Program}
use Rattle.pfc_semantics.specs.Remainders.{Argument, Remainder}
use Rattle.pfc_semantics.specs.Rewriting.{Doing, going}
use Rattle.pfc_semantics.specs.Configurations.{Mark, plain, Caller, Activation, Activity, Config, Effect, activity_of, with_activity, all_passed, at_work}
use Rattle.pfc_semantics.specs.Configurations.{body_of}
use Rattle.pfc_types.specs.declared.heads.SubHead.{SubHead}

-- ## Cells

-- The cells of one process's activations are at most 16,384, and those of main's 262,144; each activation counts 8 more.
abbrev pub most_cells : ℕ → ℕ
most_cells p = if p == 0 then 262144 else 16384

abbrev pub cells_below : List Activation → ℕ
cells_below [] = 0
cells_below (a ∷ rest) = a.cells

-- the cells with one activation more
abbrev pub cells_above : List Activation → Block → ℕ
cells_above below b = cells_below below + (b.cells + 8)

-- fault 6 where there would be too many
abbrev pub unless_full : ℕ → ℕ → Config → Effect
unless_full p cells c = if nat_le cells (most_cells p) then Ok c else Err Stack

-- ## The beginning of an activation

-- The number of a new activation is that of the action that makes it.
abbrev pub new_number : Config → ℕ
new_number c = c.table.done + 1

-- The variables of a new activation: the arguments, copied or as what they refer to, and behind them the first values.
abbrev pub new_values : Program → Block → List Value → List Value
new_values g b args = args ++ drop (length args) (map (first_laid g.firsts) b.layout)

-- what is in view in it: its own scope, and what is in view around its block
abbrev pub own_frame : Config → Block → Frame
own_frame c b = record { scope = b.scope; activation = new_number c; first = 0 }

abbrev pub new_display : Config → Block → Display → Display
new_display c b display = own_frame c b ∷ outward display b.outer

abbrev pub new_activation : Config → Activity → List Activation → Block → Mark → Caller → Display → Activation
new_activation c a below b mark caller back =
    record { number = new_number c; scope = b.scope; mark = mark; caller = caller; display = back; cells = cells_above below b }

-- A call: the process is at the body of the block, in a new activation over those that it has; the arguments lie in it.
abbrev pub activated : Program → Config → ℕ → Block → Mark → Caller → List Argument → Remainder → Config
activated g c p b mark caller args k =
    let a = activity_of g c p in
    let values = new_values g b (all_passed g c p args) in
    with_activity (record c { store = with_room c.store (new_number c) values }) p
    (record (at_work a (going b.env k)) {
      display = new_display c b a.display;
      activations = new_activation c a a.activations b mark caller a.display ∷ a.activations;
    })

-- a call of a procedure or a function of the program, from inside its module
abbrev pub called : Program → Config → ℕ → Block → Caller → List Argument → Effect
called g c p b caller args =
    unless_full p (cells_above (activity_of g c p).activations b) (activated g c p b plain caller args (body_of b))

-- ## Its end

-- the activation is gone, with its variables, and the process is at this, where the call came from
abbrev pub left_by : Program → Config → ℕ → Activation → List Activation → Doing → Config
left_by g c p a below doing =
    with_activity (record c { store = without c.store a.number }) p
    (record (at_work (activity_of g c p) doing) { display = a.display; activations = below })

-- the result of a function: a variable of its activation, behind the parameters
abbrev pub formals_of : Option SubHead → ℕ
formals_of None = 0
formals_of (Some head) = length head.formals

abbrev pub result_in : Program → Config → Activation → Value
result_in g c a = variable c.store (record { activation = a.number; variable = formals_of (sub_with g.state.blocks.subs a.scope); selectors = [] })
