-- The code of a program, and what the activation at hand sees of the machine.
use Rattle.std.specs.Prelude.{ℕ, ◌+◌, ◌<◌, ◌≤◌, ◌==◌, ◌≡◌, ◌⊎◌, ℤ, Bool, true, false, List, [], ◌∷◌, ◌++◌, drop, Option, Some, None}
use Rattle.std.specs.List.{slice_get, list_any}
use Rattle.pfc_code.specs.declared.instructions.Instr.{Instr}
use Rattle.pfc_code.specs.declared.instructions.Instr.TheVariants.{JMP}
use Rattle.pfc_tree.specs.Symbols.{Text}
use Rattle.pfc_types.specs.Scopes.{Level}
use Rattle.pfc_types.specs.Blocks.{Blocks}
use Rattle.pfc_types.specs.rules.Expressions.{Env}
use Rattle.pfc_semantics.specs.Programs.{Block, Program}
use Rattle.pfc_semantics.specs.Remainders.{Context, Scan, Tried}
use Rattle.pfc_translation.specs.Sites.{Site, is_mains}
use Rattle.pfc_translation.specs.Codes.{Code, Lined}
use Rattle.pfc_translation.specs.Operands.{most_operands}
use Rattle.pfc_translation.specs.Images.{instructions}

-- What is reached by so many static links: whether there is this cell, whether it holds a reference, the address of the first cell, and the
-- address that a cell with a reference holds.
pub record View : Type 0 where
  pub reaches : ℕ → ℕ → Bool
  pub refers : ℕ → ℕ → Bool
  pub first : ℕ → ℕ
  pub held : ℕ → ℕ → ℕ

-- what an activation sees: its view, and the scopes of its accepts that are open, the last begun first
pub record Sight : Type 0 where
  pub view : View
  pub accepts : List ℕ

-- A process tries the guard of a barred process: of which one, in which scan, at which address the next turn stands, and at which the process goes on
-- behind the scan. The rest is its own: what it sees itself, the block in whose code it stands, and the room for its operands.
pub record Attempt : Type 0 where
  pub whom : Tried
  pub scan : Scan
  pub turn : ℕ
  pub back : ℕ
  pub seen : Sight
  pub block : Block
  pub room : ℕ

-- where a process is in a scan: in none, so that a `GRD` ends its own guard; before the next turn of one, behind which it goes on at this address; in the
-- guard of another
pub data Trial : Type 0 where
  of_own : Trial
  of_turn : Scan → ℕ → Trial
  of_another : Attempt → Trial

pub record Setting : Type 0 where
  pub program : Program
  -- the block in whose code the process stands; of several bodies of main any
  pub block : Block
  -- all instructions with their lines, by address, and the strings
  pub code : Lined
  pub texts : List Text
  -- the number of the object at an address
  pub number : ℤ → Option ℤ
  pub view : View
  -- the scopes of the accepts that are open, the last begun first
  pub accepts : List ℕ
  -- and the callers in their meetings
  pub meetings : List ℕ
  -- the operands of the callers, and the instruction that ends the body
  pub under : List ℤ
  pub last : Instr
  -- how many operands may be held, and how many alternatives of a select
  pub room : ℕ
  pub arms : ℕ
  pub trial : Trial

abbrev pub site_of : Setting → Block → Context → Site
site_of g b x = record { program = g.program; block = b; env = x.env; line = x.line }

-- ## Trials

-- the guard is that of a resource whose variables are main's
abbrev pub is_of_mains : Blocks → Option ℕ → Bool
is_of_mains blocks None = false
is_of_mains blocks (Some r) = is_mains blocks r

-- In a scan a process tries the guard of another, and does nothing else: what it has in view are the names of a guard.
abbrev pub IsInTrial : Trial → Env → Type 0
IsInTrial of_own env = Unit {0}
IsInTrial (of_turn scan back) env = is_of_mains env.state.blocks env.around.guard ≡ true
IsInTrial (of_another attempt) env = is_of_mains env.state.blocks env.around.guard ≡ true

-- the process is in no scan, as where it performs a statement, calls, or communicates
abbrev pub InNoScan : Setting → Type 0 → Type 0
InNoScan g P = (g.trial ≡ of_own) × P

-- in a scan no variables but main's are read: a guard names those of its resource alone
abbrev pub MayRead : Setting → ℕ → Type 0
MayRead g i = (g.trial ≡ of_own) ⊎ (is_mains g.program.state.blocks i ≡ true)

-- the operands of the callers are the last of these
abbrev pub AreOver : Setting → List ℤ → Type 0
AreOver g ops = (kept : List ℤ) × (ops ≡ kept ++ g.under)

-- ## Blocks beside one another

-- main's own body and the initialising bodies
abbrev pub IsMains : Setting → Block → Type 0
IsMains g b = (i : ℕ) × (slice_get (g.program.main ∷ g.program.modules) i ≡ Some b)

-- names are of the same block, or both blocks are main's
pub data IsBeside (g : Setting) (b : Block) : Block → Type 0 where
  same_block : IsBeside g b b
  both_mains : (c : Block) → IsMains g b → IsMains g c → IsBeside g b c

-- ## Accepts

-- one more accept is open, with this caller; the last begun is at its end
abbrev pub with_accept : Setting → ℕ → ℕ → Setting
with_accept g i caller = record g { accepts = i ∷ g.accepts; meetings = caller ∷ g.meetings }

abbrev pub parted : Setting → Setting
parted g = record g { accepts = drop 1 g.accepts; meetings = drop 1 g.meetings }

-- Each accept that is open is in view: so where a statement stands, and not where the variable of a replicated alternative is written that accepts, whose
-- accept is open before its names come into view.
abbrev pub SeesAccepts : Setting → Site → Type 0
SeesAccepts g s =
    (i : ℕ) → list_any (λ j. j == i) g.accepts ≡ true → list_any (λ (level : Level). level.scope == i) s.env.view ≡ true

-- ## Code at a place

abbrev pub IsAt : Setting → ℕ → Instr → ℕ → Type 0
IsAt g at i line = slice_get g.code at ≡ Some (i, line)

abbrev pub HasCode : Setting → ℕ → Lined → Type 0
HasCode g at [] = Unit {0}
HasCode g at (c ∷ code) = IsAt g at c.0 c.1 × HasCode g (at + 1) code

-- the strings stand in the table of strings, from the n-th on
abbrev pub HasTexts : Setting → ℕ → List Text → Type 0
HasTexts g n [] = Unit {0}
HasTexts g n (x ∷ xs) = (slice_get g.texts n ≡ Some x) × HasTexts g (n + 1) xs

-- The code of a phrase stands here, its strings from the n-th on, and there is room for what it holds over so many operands and for the
-- alternatives of its selects.
pub record Stands (g : Setting) (at n held : ℕ) (code : Code) : Type 0 where
  pub has : HasCode g at (code.put at n)
  pub texts : HasTexts g n code.texts
  pub room : most_operands g.program held (instructions (code.put at n)) ≤ g.room
  pub arms : code.arms ≤ g.arms

-- no, one or several jumps lead from a place to another
pub data Leads (g : Setting) : ℕ → ℕ → Type 0 where
  arrived : (at : ℕ) → Leads g at at
  jump : (at to end line : ℕ) → IsAt g at (JMP to) line → at < to → Leads g to end → Leads g at end

-- some jumps lead to a place of which this is true
abbrev pub Jumped : Setting → ℕ → (ℕ → Type 0) → Type 0
Jumped g at P = (to : ℕ) × Leads g at to × P to
