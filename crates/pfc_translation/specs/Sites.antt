-- Where a phrase stands, and where its variables lie from there: so many static links up, and in which cell.
use Rattle.std.specs.Prelude.{ℕ, ◌+◌, ◌-◌, ◌==◌, nat_lt, nat_le, Bool, false, ◌&&◌, ◌||◌, if◌then◌else◌, List, [], ◌∷◌, length, take, drop, get_or, position}
use Rattle.std.specs.Prelude.{Option, Some, None, is_some, unwrap_or}
use Rattle.pfc_types.specs.Types.{Forms, cells_in}
use Rattle.pfc_types.specs.Scopes.{Level, scope_at}
use Rattle.pfc_types.specs.Blocks.{Blocks}
use Rattle.pfc_types.specs.rules.Expressions.{Env}
use Rattle.pfc_types.specs.rules.Statements.{within_accept}
use Rattle.pfc_types.specs.declared.types.TypeId.{TypeId}
use Rattle.pfc_types.specs.declared.scope.Meaning.{Meaning}
use Rattle.pfc_types.specs.declared.scope.Meaning.TheVariants.{Variable, Faulty}
use Rattle.pfc_semantics.specs.Layouts.{Layout, process_layout}
use Rattle.pfc_semantics.specs.Displays.{Spot}
use Rattle.pfc_semantics.specs.Programs.{Block, Program, layout_cells, block_at}
use Rattle.pfc_semantics.specs.Remainders.{Context}

-- the block in whose code a phrase stands, the names in view there, and the line of its instructions
pub record Site : Type 0 where
  pub program : Program
  pub block : Block
  pub env : Env
  pub line : ℕ

abbrev pub at_line : Site → ℕ → Site
at_line s n = record s { line = n }

-- in the statement of the accept whose parameters have the scope i
abbrev pub in_accept : Site → ℕ → Site
in_accept s i = record s { env = within_accept s.env i }

abbrev pub context_of : Site → Context
context_of s = record { env = s.env; line = s.line }

abbrev pub forms_of : Site → Forms
forms_of s = s.program.state.forms

abbrev pub blocks_of : Site → Blocks
blocks_of s = s.program.state.blocks

-- how many cells a value of a type takes
abbrev pub type_cells : Forms → Option TypeId → ℕ
type_cells forms None = 1
type_cells forms (Some t) = cells_in forms t

-- ## Levels

-- the place of the module whose scope is number i
abbrev pub module_of : Blocks → ℕ → Option ℕ
module_of b i = position (λ m. m.scope == i) b.modules

-- the variables of the program, of its monitors and of its resources are main's
abbrev pub is_mains : Blocks → ℕ → Bool
is_mains b i = i == 0 || is_some (module_of b i)

-- the scopes of the activations that are reached by static links, innermost first, but for main's
abbrev pub linked : Blocks → List Level → List ℕ
linked b [] = []
linked b (level ∷ view) = if is_mains b level.scope then [] else level.scope ∷ linked b view

-- 0 for main, 1 for a process and for a sub of the program or of a module, one more for each sub around
abbrev pub level_of : Blocks → Block → ℕ
level_of b block = length (linked b block.env.view)

-- how many static links lead from a block to the activation that has the variables of the scope i; those of an accept are the process's own
abbrev pub links_from : Blocks → Block → ℕ → ℕ
links_from b block i = if is_mains b i then level_of b block else unwrap_or (position (λ j. j == i) (linked b block.env.view)) 0

abbrev pub links_to : Site → ℕ → ℕ
links_to s i = links_from (blocks_of s) s.block i

-- ## Cells

-- whether the scope i is that of an accept in the block
abbrev pub is_accept : Block → ℕ → Bool
is_accept block i = nat_le block.next i && nat_lt i (block.next + block.accepts)

-- how many variables of a process stand before the parameters of the accept with the scope i
abbrev pub before_accept : Site → ℕ → ℕ
before_accept s i =
    let scopes = (blocks_of s).scopes in
    length (process_layout (scope_at scopes s.block.scope) (take (i - s.block.next) (drop s.block.next scopes)))

-- the layout that has the variables of the scope i, and how many variables stand there before the first of that scope
abbrev pub layout_with : Site → ℕ → Layout
layout_with s i =
    if is_accept s.block i
    then s.block.layout
    else if is_mains (blocks_of s) i then s.program.main.layout else (block_at s.program i).layout

abbrev pub laid_before : Site → ℕ → ℕ
laid_before s i = if is_accept s.block i then before_accept s i else 0

abbrev pub place_of : Site → Spot → ℕ
place_of s v = laid_before s v.scope + v.variable

-- The variables of a block lie one behind the other, in the order of the text.
abbrev pub cell_of : Site → Spot → ℕ
cell_of s v = layout_cells (forms_of s) (take (place_of s v) (layout_with s v.scope))

abbrev pub is_reference : Meaning → Bool
is_reference (Variable t reference) = reference
is_reference m = false

-- whether the variable is a reference parameter
abbrev pub refers : Site → Spot → Bool
refers s v = is_reference (get_or (layout_with s v.scope) (place_of s v) Faulty)
