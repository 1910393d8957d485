-- Marks of activations, and the words that hold them.
use Rattle.std.specs.Prelude.{◌<◌, ◌+◌, ◌-◌, ◌%◌, ◌^◌, ℤ, pos, ◌-ℤ◌, unsigned_abs, int_lt, if◌then◌else◌}
use Rattle.pfc_stacks.specs.declared.marks.Mark.{Mark}
use Rattle.pfc_stacks.specs.declared.marks.Mark.TheVariants.{Plain, Monitor, Resource}

-- A monitor's mark is a word above 0, a resource's one below 0.
abbrev pub word_of_mark : Mark → ℤ
word_of_mark Plain = pos 0
word_of_mark (Monitor m) = pos (m + 1)
word_of_mark (Resource g) = pos 0 -ℤ pos (g + 1)

-- numbers of monitors and resources have 32 bits
abbrev pub IsMark : Mark → Type 0
IsMark Plain = Unit {0}
IsMark (Monitor m) = m < 2 ^ 32
IsMark (Resource g) = g < 2 ^ 32

-- the mark that a word holds
abbrev pub mark_of : ℤ → Mark
mark_of w =
    if int_lt (pos 0) w
    then Monitor ((unsigned_abs w - 1) % 2 ^ 32)
    else (if int_lt w (pos 0) then Resource ((unsigned_abs w - 1) % 2 ^ 32) else Plain)
