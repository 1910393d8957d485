-- The values of this crate, as the definitions of programs know them.
use Rattle.std.specs.Prelude.{List, map, Option, Some, None}
use Rattle.pfc_tree.specs.views.Exprs.{expr_view}
use Rattle.pfc_tree.specs.views.Stmts.{stmts_view}
use Rattle.pfc_types.specs.Blocks.{State}
use Rattle.pfc_types.specs.rules.Expressions.{Env}
use Rattle.pfc_semantics.specs.Values.{Value}
use Rattle.pfc_semantics.specs.Objects.{Objects}
use Rattle.pfc_semantics.specs.Displays.{TypedSpot}
use Rattle.pfc_semantics.specs.Expressions.{spot_in}
use Rattle.pfc_semantics.specs.Programs as programs
use Rattle.pfc_program.specs.InView.{InView}
use Rattle.pfc_program.specs.declared.tables.Tables.{Tables}
use Rattle.pfc_program.specs.declared.blocks.Guard.{Guard}
use Rattle.pfc_program.specs.declared.blocks.Block.{Block}
use Rattle.pfc_program.specs.declared.program.Program.{Program}
use Rattle.pfc_program.specs.declared.spots.NamedSpot.{NamedSpot}

-- the finished declarations
abbrev pub tables_view : Tables → State
tables_view tables = record { forms = tables.types.now; blocks = tables.scopes.now }

-- what is known at a place of a body
abbrev pub names_view : Tables → InView → Env
names_view tables names = record { state = tables_view tables; view = names.view; around = names.around }

abbrev pub guard_view : Tables → Option Guard → Option programs.Guard
guard_view tables None = None
guard_view tables (Some g) = Some (record { env = names_view tables g.names; test = expr_view g.test.now; line = g.line })

abbrev pub block_view : Tables → Block → programs.Block
block_view tables b =
    record {
      scope = b.scope;
      outer = b.outer;
      env = names_view tables b.names;
      next = b.next;
      stmts = stmts_view b.stmts.now.items;
      first_line = b.first_line;
      last_line = b.last_line;
      layout = b.layout.items;
      cells = b.cells;
      accepts = b.accepts;
      guard = guard_view tables b.guard;
    }

abbrev pub blocks_view : Tables → List Block → List programs.Block
blocks_view tables blocks = map (λ b. block_view tables b) blocks

-- a program with the first values and the objects of its variables, which are made apart
abbrev pub program_view : Program → List Value → List Value → Objects → programs.Program
program_view g firsts variables objects =
    record {
      state = tables_view g.tables;
      blocks = blocks_view g.tables g.blocks.items;
      modules = blocks_view g.tables g.modules.items;
      main = block_view g.tables g.main;
      resource_ends = g.resource_ends.items;
      firsts = firsts;
      variables = variables;
      objects = objects;
    }

-- a variable in view, without selectors
abbrev pub spot_view : NamedSpot → TypedSpot
spot_view s = spot_in s.scope s.variable s.t
