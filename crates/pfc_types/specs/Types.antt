-- Types, the table of types, and what a variable of a type takes and holds.
use Rattle.std.specs.Prelude.{ℕ, ◌+◌, ◌*◌, ℤ, pos, ◌-ℤ◌, ◌+ℤ◌, nat_abs, min, Bool, true, false, ◌&&◌, ◌||◌, if◌then◌else◌, nat_lt, nat_le, int_le, ◌==◌, List}
use Rattle.std.specs.Prelude.{[], ◌∷◌, ◌++◌, length, get_or, fold, Option, Some, None}
use Rattle.pfc_types.specs.Fields.{FieldList, type_named}
use Rattle.pfc_tree.specs.Symbols.{Text}
use Rattle.pfc_types.specs.declared.types.TypeId.{TypeId}
use Rattle.pfc_types.specs.declared.types.TypeForm.{TypeForm}
use Rattle.pfc_types.specs.declared.types.TypeForm.TheVariants.{Channel, Array, Record, Process}
use Rattle.pfc_types.specs.declared.table.Held.{Held}
use Rattle.pfc_types.specs.declared.table.TypeFault.{TypeFault}
use Rattle.pfc_types.specs.declared.table.TypeFault.TheVariants.{Bounds, Cells}

-- the predeclared types
abbrev pub integer : TypeId
integer = record { place = 0 }

abbrev pub boolean : TypeId
boolean = record { place = 1 }

abbrev pub char : TypeId
char = record { place = 2 }

abbrev pub semaphore : TypeId
semaphore = record { place = 3 }

abbrev pub condition : TypeId
condition = record { place = 4 }

abbrev pub synchronous : TypeId
synchronous = record { place = 5 }

-- Two types are the same where they have one place in the table.
abbrev pub is_same : TypeId → TypeId → Bool
is_same t u = t.place == u.place

-- integer, boolean and char
abbrev pub is_simple : TypeId → Bool
is_simple t = nat_lt t.place 3

-- the table of types: what each is made of, and nothing for the six predeclared ones, which stand first
abbrev pub Forms : Type 0
Forms = List (Option TypeForm)

abbrev pub predeclared_forms : Forms
predeclared_forms = None ∷ None ∷ None ∷ None ∷ None ∷ None ∷ []

abbrev pub form_of : Forms → TypeId → Option TypeForm
form_of forms t = get_or forms t.place None

-- A simple or object element takes one cell, and so does `synchronous`. A place that is none in the table counts so too.
abbrev pub one_cell : Held
one_cell = record { cells = 1; processes = 0; conditions = false; shared = false }

abbrev pub predeclared_held : ℕ → Held
predeclared_held n = record { cells = 1; processes = 0; conditions = n == 4; shared = n == 3 }

abbrev pub nothing_held : Held
nothing_held = record { cells = 0; processes = 0; conditions = false; shared = false }

-- processes are counted up to 1,024, which is one more than a program may have beside main
abbrev pub most_processes : ℕ → ℕ
most_processes n = min n 1024

-- both together
abbrev pub held_with : Held → Held → Held
held_with a b = record {
  cells = a.cells + b.cells;
  processes = most_processes (a.processes + b.processes);
  conditions =
      a.conditions || b.conditions;
  shared = a.shared || b.shared;
}

-- n times the same
abbrev pub held_times : ℕ → Held → Held
held_times n a = record { cells = n * a.cells; processes = most_processes (n * a.processes); conditions = a.conditions; shared = a.shared }

-- how many values lie between two bounds, both counted, the low one not above the high one
abbrev pub extent : ℤ → ℤ → ℕ
extent low high = nat_abs (high -ℤ low +ℤ pos 1)

-- what the types before hold, at a type
abbrev pub held_before : List Held → TypeId → Held
held_before before t = get_or before t.place one_cell

-- Arrays and records take the sum of their parts.
abbrev pub fields_held : List Held → FieldList → Held
fields_held before fields = fold (λ sum f. held_with sum (held_before before f.1)) nothing_held fields

abbrev pub held_form : List Held → TypeForm → Held
held_form before (Channel t) = record { cells = 1; processes = 0; conditions = false; shared = true }
held_form before (Array index low high element) = held_times (extent low high) (held_before before element)
held_form before (Record fields) = fields_held before fields
held_form before (Process n) = record { cells = 1; processes = 1; conditions = false; shared = false }

abbrev pub held_next : List Held → Option TypeForm → Held
held_next before None = predeclared_held (length before)
held_next before (Some form) = held_form before form

-- what each type of the table holds
abbrev pub all_held : Forms → List Held
all_held forms = fold (λ before form. before ++ held_next before form ∷ []) [] forms

abbrev pub held_of : Forms → TypeId → Held
held_of forms t = held_before (all_held forms) t

abbrev pub cells_in : Forms → TypeId → ℕ
cells_in forms t = (held_of forms t).cells

-- A semaphore, a channel, a condition, a process, and whatever holds one, is an object type.
abbrev pub is_object : Forms → TypeId → Bool
is_object forms t = let held = held_of forms t in (held.shared || held.conditions) || nat_lt 0 held.processes

-- both bounds of an array are ordinals of a simple type, and the low one is not above the high one
abbrev pub has_bounds : TypeForm → Bool
has_bounds (Channel t) = true
has_bounds (Array index low high element) = is_simple index && int_le low high
has_bounds (Record fields) = true
has_bounds (Process n) = true

-- why a type has no place in the table, if it has none: bad bounds, or more than 65,536 cells
abbrev pub refusal_of : Forms → TypeForm → Option TypeFault
refusal_of forms form =
    if has_bounds form
    then (if nat_le (held_form (all_held forms) form).cells 65536 then None else Some Cells)
    else Some Bounds

-- ## What a type is made of, where it is known

-- the process of a process type
abbrev pub process_form : Option TypeForm → Option ℕ
process_form (Some (Process n)) = Some n
process_form form = None

-- what a channel carries
abbrev pub carried_form : Option TypeForm → Option TypeId
carried_form (Some (Channel t)) = Some t
carried_form form = None

-- the type of an index and of an element
abbrev pub array_form : Option TypeForm → Option (TypeId × TypeId)
array_form (Some (Array index low high element)) = Some (index, element)
array_form form = None

-- the type of a field of a record
abbrev pub field_form : Option TypeForm → Text → Option TypeId
field_form (Some (Record fields)) x = type_named fields x
field_form form x = None
