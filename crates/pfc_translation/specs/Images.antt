-- The image of a program.
--
-- Its code is that of the subs, guarded procedures and processes in the order of their `begin`; behind the last block of each resource its
-- `SCAN`; and last main's: the initialising bodies in the order of the text, and the main body.
use Rattle.std.specs.Prelude.{ℕ, ◌+◌, ◌==◌, max, Bool, true, false, if◌then◌else◌, List, [], ◌∷◌, ◌++◌, length, map, Option, Some, None}
use Rattle.pfc_tree.specs.Symbols.{Text}
use Rattle.pfc_tree.specs.trees.Parts.{PartTree, PartTrees, ProgramTree, resource, no_parts, more_parts}
use Rattle.pfc_code.specs.declared.instructions.Instr.{Instr}
use Rattle.pfc_code.specs.declared.instructions.Instr.TheVariants.{RET, RETF, GRD, SCAN, END}
use Rattle.pfc_code.specs.declared.images.Block.{Block as CodeBlock}
use Rattle.pfc_code.specs.declared.images.ProcessInfo.{ProcessInfo}
use Rattle.pfc_code.specs.Images.{PlainImage}
use Rattle.pfc_types.specs.Types.{form_of, process_form}
use Rattle.pfc_types.specs.Scopes.{Names, scope_at}
use Rattle.pfc_types.specs.Blocks.{State, sub_at, process_at}
use Rattle.pfc_types.specs.rules.Bodies.{passed_part, part_scopes}
use Rattle.pfc_types.specs.declared.scope.Meaning.{Meaning}
use Rattle.pfc_types.specs.declared.scope.Meaning.TheVariants.{Named, Sub, Process}
use Rattle.pfc_types.specs.declared.heads.SubHead.{SubHead}
use Rattle.pfc_types.specs.declared.heads.SubSort.{SubSort}
use Rattle.pfc_types.specs.declared.heads.SubSort.TheVariants.{Function}
use Rattle.pfc_semantics.specs.Layouts.{sub_with}
use Rattle.pfc_semantics.specs.Objects.{of_kind}
use Rattle.pfc_semantics.specs.Programs.{Block, Guard, Program, part_blocks, part_inits, module_end, program_of}
use Rattle.pfc_translation.specs.Sites.{Site, level_of}
use Rattle.pfc_translation.specs.Codes.{Code, Lined, nothing, ◌⨾◌, one}
use Rattle.pfc_translation.specs.Expressions.{expr_code}
use Rattle.pfc_translation.specs.Calls.{resource_of}
use Rattle.pfc_translation.specs.Statements.{stmts_code}
use Rattle.pfc_translation.specs.Operands.{params_of, most_operands}
use Rattle.pfc_translation.specs.Objects.{objects_of, processes_of}

-- ## Bodies

abbrev pub site_in : Program → Block → Site
site_in g b = record { program = g; block = b; env = b.env; line = b.last_line }

-- the guard and `GRD`, with the line of the `when`
abbrev pub guard_code : Program → Block → Option Guard → Code
guard_code g b None = nothing
guard_code g b (Some guard) =
    let s : Site = record { program = g; block = b; env = guard.env; line = guard.line } in
    expr_code s guard.test ⨾ one s (GRD (resource_of s))

-- a function ends with RETF, another sub with RET, a process with END
abbrev pub end_of : Option SubHead → Instr
end_of None = END
end_of (Some head) = by_sort head.sort
  where
    by_sort : SubSort → Instr
    by_sort (Function t) = RETF
    by_sort sort = RET

abbrev pub statements_code : Program → Block → Code
statements_code g b = stmts_code (site_in g b) b.next b.stmts

-- a body with its guard before it and its end behind it, which has the line of the body's `end`
abbrev pub body_code : Program → Block → Code
body_code g b =
    guard_code g b b.guard ⨾ statements_code g b ⨾ one (site_in g b) (end_of (sub_with g.state.blocks.subs b.scope))

-- ## What stands in a text

pub data Piece : Type 0 where
  -- the body of a sub, guarded procedure or process
  a_body : Block → Piece
  -- an initialising body
  an_initial : Block → Piece
  -- the end of a resource, by its line
  a_resource : ℕ → Piece

abbrev pub resource_end : PartTree → List Piece
resource_end (resource m) = a_resource (module_end m) ∷ []
resource_end q = []

-- all but the main body, in the order of the text: of the program's scope n names were declared before
abbrev pub pieces : State → ℕ → ℕ → PartTrees → List Piece
pieces s n next no_parts = []
pieces s n next (more_parts q qs) =
    map a_body (part_blocks s false 0 n [] next q)
    ++ (resource_end q
    ++ (map an_initial (part_inits s n next q)
    ++ pieces s (passed_part (scope_at s.blocks.scopes 0) n q) (next + part_scopes q) qs))

-- ## Their code

-- with the number of strings that are written before it in the text
pub record Coded : Type 0 where
  pub piece : Piece
  pub code : Code
  pub strings : ℕ

-- the turn of a resource's scan, with the line of its final `end`
abbrev pub scan_code : Program → ℕ → ℕ → Code
scan_code g number line = one (record (site_in g g.main) { line = line }) (SCAN number)

-- so many resources stand before
abbrev pub piece_code : Program → ℕ → Piece → Code
piece_code g number (a_body b) = body_code g b
piece_code g number (an_initial b) = statements_code g b
piece_code g number (a_resource line) = scan_code g number line

abbrev pub resources_in : Piece → ℕ
resources_in (a_resource line) = 1
resources_in p = 0

abbrev pub coded : Program → ℕ → ℕ → List Piece → List Coded
coded g number strings [] = []
coded g number strings (p ∷ ps) =
    let code = piece_code g number p in
    record { piece = p; code = code; strings = strings } ∷ coded g (number + resources_in p) (strings + length code.texts) ps

abbrev pub strings_in : List Coded → List Text
strings_in [] = []
strings_in (c ∷ cs) = c.code.texts ++ strings_in cs

abbrev pub most_arms : List Coded → ℕ
most_arms [] = 0
most_arms (c ∷ cs) = max c.code.arms (most_arms cs)

-- ## The order of the code

abbrev pub is_initial : Piece → Bool
is_initial (an_initial b) = true
is_initial p = false

abbrev pub before_main : List Coded → List Coded
before_main [] = []
before_main (c ∷ cs) = if is_initial c.piece then before_main cs else c ∷ before_main cs

abbrev pub of_main : List Coded → List Coded
of_main [] = []
of_main (c ∷ cs) = if is_initial c.piece then c ∷ of_main cs else of_main cs

abbrev pub size_of : List Coded → ℕ
size_of [] = 0
size_of (c ∷ cs) = c.code.size + size_of cs

-- put one behind the other, from an address on
abbrev pub put_from : ℕ → List Coded → Lined
put_from at [] = []
put_from at (c ∷ cs) = c.code.put at c.strings ++ put_from (at + c.code.size) cs

abbrev pub instructions : Lined → List Instr
instructions code = map (λ c. c.0) code

-- ## Blocks

-- whether a name stands for the block with the scope i
abbrev pub is_numbered : State → ℕ → Option ℕ → Bool
is_numbered s i None = false
is_numbered s i (Some n) = (process_at s.blocks n).scope == i

abbrev pub names_block : State → ℕ → Meaning → Bool
names_block s i (Sub n) = (sub_at s.blocks n).scope == i
names_block s i (Process n) = is_numbered s i (Some n)
names_block s i (Named t) = is_numbered s i (process_form (form_of s.forms t))
names_block s i m = false

abbrev pub label_in : State → ℕ → Names → Text
label_in s i [] = []
label_in s i (x ∷ names) = if names_block s i x.1 then x.0 else label_in s i names

-- a block from an address on; of a guarded procedure the body begins behind the guard
abbrev pub block_from : Program → ℕ → Block → Coded → CodeBlock
block_from g at b c = record {
  label = label_in g.state b.scope (scope_at g.state.blocks.scopes b.outer);
  entry = at;
  body = at + (guard_code g b b.guard).size;
  params = params_of g b;
  cells = b.cells;
  operands = most_operands g 0 (instructions (c.code.put at c.strings));
  level = level_of g.state.blocks b;
  line = b.first_line;
}

abbrev pub piece_blocks : Program → ℕ → Piece → Coded → List CodeBlock
piece_blocks g at (a_body b) c = block_from g at b c ∷ []
piece_blocks g at p c = []

abbrev pub blocks_from : Program → ℕ → List Coded → List CodeBlock
blocks_from g at [] = []
blocks_from g at (c ∷ cs) = piece_blocks g at c.piece c ++ blocks_from g (at + c.code.size) cs

-- main's, whose code is given with its address
abbrev pub main_block : Program → Text → ℕ → Lined → CodeBlock
main_block g name at code = record {
  label = name;
  entry = at;
  body = at;
  params = 0;
  cells = g.main.cells;
  operands = most_operands g 0 (instructions code);
  level = 0;
  line = g.main.first_line;
}

-- the addresses of all `SCAN`
abbrev pub scan_at : ℕ → Piece → List ℕ
scan_at at (a_resource line) = at ∷ []
scan_at at p = []

abbrev pub scans_from : ℕ → List Coded → List ℕ
scans_from at [] = []
scans_from at (c ∷ cs) = scan_at at c.piece ++ scans_from (at + c.code.size) cs

-- ## The image

abbrev pub main_process : Program → Text → ProcessInfo
main_process g name = record { block = length g.blocks; label = name }

abbrev pub image_over : Program → ProgramTree → PlainImage
image_over g t =
    let parts = coded g 0 0 (pieces g.state 0 1 t.parts) in
    let main : Coded = record { piece = a_body g.main; code = body_code g g.main; strings = length (strings_in parts) } in
    let outer = before_main parts in
    let inner = of_main parts ++ main ∷ [] in
    let at = size_of outer in
    let main_code = put_from at inner in
    let code = put_from 0 outer ++ main_code in
    record {
      code = instructions code;
      lines = map (λ c. c.1) code;
      blocks = blocks_from g 0 outer ++ main_block g t.name.0 at main_code ∷ [];
      processes = main_process g t.name.0 ∷ processes_of g;
      objects = objects_of g;
      texts = strings_in parts ++ main.code.texts;
      semaphores = g.objects.semaphores;
      channels = g.objects.channels;
      conditions = g.objects.conditions;
      monitors = of_kind false g.state.blocks.modules;
      scans = scans_from 0 outer;
      arms = max (most_arms parts) main.code.arms;
    }

-- the image of a checked tree
abbrev pub image_of : ProgramTree → PlainImage
image_of t = image_over (program_of t) t
