-- What an instruction names by a level and a cell.
use Rattle.std.specs.Prelude.{◌≡◌, ℕ, ◌+◌, ◌<◌, ◌≤◌, Bool, true, false, ◌||◌, [], ◌∷◌, length, take, get_or}
use Rattle.pfc_types.specs.Types.{Forms}
use Rattle.pfc_types.specs.Scopes.{Names, scope_at}
use Rattle.pfc_types.specs.Blocks.{State}
use Rattle.pfc_types.specs.rules.Declarations.{name_cells}
use Rattle.pfc_types.specs.declared.scope.Meaning.TheVariants.{Faulty}
use Rattle.pfc_semantics.specs.Layouts.{is_laid, is_module}
use Rattle.pfc_semantics.specs.Programs.{Block, Program, layout_cells, block_at}
use Rattle.pfc_code.specs.declared.instructions.Instr.{Instr}
use Rattle.pfc_code.specs.declared.instructions.Instr.TheVariants.{ADDR, REF}
use Rattle.pfc_translation.specs.Sites.{is_reference}
use Rattle.pfc_image_laws.specs.Levels.{links_up}

-- ## Variables

-- The cell d is the first of a variable of the block: that has a place in the block's layout, and each of its cells is one of the block's. It
-- is a reference parameter or not.
pub record IsVariable (forms : Forms) (b : Block) (reference : Bool) (d : ℕ) : Type 0 where
  pub place : ℕ
  pub is : place < length b.layout
  pub laid : is_laid (get_or b.layout place Faulty) ≡ true
  pub first : d ≡ layout_cells forms (take place b.layout)
  pub within : d + name_cells forms (get_or b.layout place Faulty) ≤ b.cells
  pub refers : is_reference (get_or b.layout place Faulty) ≡ reference

-- In the code of the block b: the cell that is named is one of the block that lies so many static links up.
abbrev pub NamesCell : Program → Block → ℕ → Instr → Type 0
NamesCell g b at (ADDR l d) = IsVariable g.state.forms (block_at g (links_up g l b.scope)) false d
NamesCell g b at (REF l d) = IsVariable g.state.forms (block_at g (links_up g l b.scope)) true d
NamesCell g b at i = Unit {0}

-- ## Modules

abbrev pub names_module : ℕ → Names → Bool
names_module n [] = false
names_module n (x ∷ names) = is_module n x.1 || names_module n names

-- each module has its name among those of the program
abbrev pub AreNamed : State → Type 0
AreNamed s = (n : ℕ) → n < length s.blocks.modules → names_module n (scope_at s.blocks.scopes 0) ≡ true
