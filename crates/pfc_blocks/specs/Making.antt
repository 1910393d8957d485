-- The blocks of bodies whose code was put, and what is known of those that are called.
use Rattle.std.specs.Prelude.{◌≡◌, ℕ, ◌-◌, List, take, drop, map}
use Rattle.pfc_tree.specs.Symbols.{Text}
use Rattle.pfc_tree.specs.declared.tree.Tree.{Tree}
use Rattle.pfc_types.specs.Scopes.{scope_at}
use Rattle.pfc_semantics.specs.Layouts.{sub_with}
use Rattle.pfc_semantics.specs.Programs.{Block, Program}
use Rattle.pfc_code.specs.declared.instructions.Instr.{Instr}
use Rattle.pfc_code.specs.declared.images.Block.{Block as CodeBlock}
use Rattle.pfc_translation.specs.Operands.{params_of, result_of, most_operands}
use Rattle.pfc_translation.specs.Images.{label_in}
use Rattle.pfc_program.specs.Views.{block_view}
use Rattle.pfc_program.specs.declared.tables.Tables.{Tables}
use Rattle.pfc_program.specs.declared.blocks.Block.{Block as HeldBlock}
use Rattle.pfc_program.specs.declared.program.Program.{Program as HeldProgram}
use Rattle.pfc_operands.specs.Callees.{program_in}
use Rattle.pfc_addresses.specs.Sites.{whole_view}
use Rattle.pfc_blocks.specs.declared.placed.Placed.{Placed}

-- what is known of a program is what its tree says
abbrev pub IsOf : HeldProgram → Tree → Type 0
IsOf program tree = whole_view program ≡ program_in tree program.tables.types.now program.tables.scopes.now

-- ## Blocks that are called

abbrev pub params_in : HeldProgram → List HeldBlock → List ℕ
params_in program blocks = map (λ b. params_of (whole_view program) (block_view program.tables b)) blocks

abbrev pub results_in : HeldProgram → List HeldBlock → List ℕ
results_in program blocks = map (λ b. result_of (sub_with program.tables.scopes.now.subs b.scope)) blocks

-- ## Bodies whose code was put

-- a body with the addresses of its first instruction, of its body's first, and of that behind its last
pub record Placing : Type 0 where
  pub block : Block
  pub entry : ℕ
  pub body : ℕ
  pub end : ℕ
  pub level : ℕ

abbrev pub placing_view : Tables → Placed → Placing
placing_view tables p =
    record { block = block_view tables p.block.now; entry = p.entry; body = p.body; end = p.end; level = p.level }

-- its block, where it stands in this code
abbrev pub made_block : Program → List Instr → Placing → CodeBlock
made_block g code p = record {
  label = label_in g.state p.block.scope (scope_at g.state.blocks.scopes p.block.outer);
  entry = p.entry;
  body = p.body;
  params = params_of g p.block;
  cells = p.block.cells;
  operands = most_operands g 0 (take (p.end - p.entry) (drop p.entry code));
  level = p.level;
  line = p.block.first_line;
}

-- main's, whose code is the last
abbrev pub main_made : Program → Text → ℕ → List Instr → CodeBlock
main_made g name at code = record {
  label = name;
  entry = at;
  body = at;
  params = 0;
  cells = g.main.cells;
  operands = most_operands g 0 (drop at code);
  level = 0;
  line = g.main.first_line;
}
