-- Addresses of cells, and the words that hold them.
use Rattle.std.specs.Prelude.{ℕ, ◌+◌, ◌*◌, ◌/◌, ◌%◌, ◌^◌, ℤ, pos, unsigned_abs, ◌≤ℤ◌, ◌<ℤ◌}
use Rattle.pfc_stacks.specs.declared.refs.Ref.{Ref}

-- the word of an address
abbrev pub word_of : Ref → ℤ
word_of r = pos (r.process * 2 ^ 32 + r.cell)

-- the address that a word holds
abbrev pub ref_of : ℤ → Ref
ref_of w = record { process = unsigned_abs w / 2 ^ 32; cell = unsigned_abs w % 2 ^ 32 }

-- The word is one of an address. There are below 1,024 processes.
abbrev pub IsAddress : ℤ → Type 0
IsAddress w = (pos 0 ≤ℤ w) × (w <ℤ pos (2 ^ 42))

-- the number of 32 bits that a word holds
abbrev pub number_of : ℤ → ℕ
number_of w = unsigned_abs w % 2 ^ 32
