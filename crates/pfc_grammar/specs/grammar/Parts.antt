-- The readers of parts and programs. Each is a line of the grammar, which stands above it; `p` reads the parts of a home,
-- `e` an expression and `s` a statement in the block that is read.
use Rattle.std.specs.Prelude.{ℕ, zero, suc, List, [], ◌∷◌, Bool, true, false, Option, Some, None}
use Rattle.pfc_base.specs.declared.word.TheConstants.{CONST, END, ENTRY, EXPORT, FUNCTION, GUARDED, MONITOR, PROCEDURE, PROCESS, PROGRAM, RESOURCE, TYPE, VAR}
use Rattle.pfc_base.specs.declared.word.TheConstants.{WHEN}
use Rattle.pfc_base.specs.declared.sign.TheConstants.{OPEN_PAREN, CLOSE_PAREN, DOT, SEMICOLON, COLON}
use Rattle.pfc_tree.specs.Symbols.{Text, Symbol}
use Rattle.pfc_tree.specs.shapes.Exprs.{ExprShape}
use Rattle.pfc_tree.specs.shapes.Types.{GroupShape, TypeShape}
use Rattle.pfc_tree.specs.shapes.Stmts.{StmtShape, BodyShape}
use Rattle.pfc_tree.specs.shapes.Parts.{KindShape, EntryShape, PartShape, PartShapes, SubShape, ModuleShape, ProcessShape, ProgramShape, procedure, function}
use Rattle.pfc_tree.specs.shapes.Parts.{guarded, consts, types, vars, sub_part, monitor, resource, process_part, no_parts, more_parts, sub, the_module, process}
use Rattle.pfc_tree.specs.lawful.Parts.{Home, of_program, of_resource, of_other}
use Rattle.pfc_tree.specs.Grammar.{most_depth}
use Rattle.pfc_grammar.specs.Reading.{Reader, Outcome, pure, ◌>>=◌, stop, stop_deep, branch, choose, take_as, many, many_while, finish}
use Rattle.pfc_grammar.specs.Heads.{as_word, as_sign, as_name, as_word_of_resource, as_word_of_program, is_word, begins_block, begins_part}
use Rattle.pfc_grammar.specs.grammar.Exprs.{expr_at}
use Rattle.pfc_grammar.specs.grammar.Types.{names, formals, type_at, const_items, type_items, var_items, vars_of}
use Rattle.pfc_grammar.specs.grammar.Stmts.{body_with, stmt_at}

abbrev pub parts_of : List PartShape → PartShapes
parts_of [] = no_parts
parts_of (q ∷ qs) = more_parts q (parts_of qs)

-- What stands before the parts of a sub, behind its first word: its name, parameters and kind.
abbrev pub SubHead : Type 0
SubHead = Text × List GroupShape × KindShape

-- name [formals] ";"
unfoldable pub procedure_head : Reader SubHead
procedure_head = do
  x ← take_as as_name
  gs ← formals
  t ← take_as (as_sign SEMICOLON)
  pure (x, gs, procedure)

-- name [formals] ":" name ";"
unfoldable pub function_head : Reader SubHead
function_head = do
  x ← take_as as_name
  gs ← formals
  t ← take_as (as_sign COLON)
  result ← take_as as_name
  u ← take_as (as_sign SEMICOLON)
  pure (x, gs, function result)

-- "procedure" name [formals] "when" expr ";"
unfoldable pub guarded_head : Reader ExprShape → Reader SubHead
guarded_head e = do
  t ← take_as (as_word PROCEDURE)
  x ← take_as as_name
  gs ← formals
  u ← take_as (as_word WHEN)
  test ← e
  v ← take_as (as_sign SEMICOLON)
  pure (x, gs, guarded test)

-- a sub behind its first word: its head, {part} body ";"
unfoldable pub sub_behind : (Home → Reader (List PartShape)) → Reader StmtShape → Reader SubHead → Reader SubShape
sub_behind p s head = do
  h ← head
  qs ← p of_other
  b ← body_with s
  t ← take_as (as_sign SEMICOLON)
  pure (sub h.0 h.1 h.2 (parts_of qs) b)

-- behind `export`: name {"," name} ";"
unfoldable pub export_behind : Reader (List Text)
export_behind = do
  xs ← names
  t ← take_as (as_sign SEMICOLON)
  pure xs

-- "end" | body
unfoldable pub ending : Reader StmtShape → Reader (Option BodyShape)
ending s = branch (as_word END) (λ t. pure None) (do
  b ← body_with s
  pure (Some b))

-- a monitor or a resource behind its first word: name ";" {export} {part} ("end" | body) ";"
unfoldable pub module_behind : (Home → Reader (List PartShape)) → Reader StmtShape → Home → Reader ModuleShape
module_behind p s own = do
  x ← take_as as_name
  t ← take_as (as_sign SEMICOLON)
  es ← many (as_word EXPORT) (λ u. export_behind)
  qs ← p own
  b ← ending s
  u ← take_as (as_sign SEMICOLON)
  pure (the_module x es (parts_of qs) b)

-- behind `entry`: name [formals] ";"
unfoldable pub entry_behind : Reader EntryShape
entry_behind = do
  x ← take_as as_name
  gs ← formals
  t ← take_as (as_sign SEMICOLON)
  pure (record { name = x; formals = gs })

-- ["type"]
unfoldable pub type_word : Reader Bool
type_word = branch (as_word TYPE) (λ t. pure true) (pure false)

-- behind `process`: ["type"] name [formals] ";" {entry} {part} body ";"
unfoldable pub process_behind : (Home → Reader (List PartShape)) → Reader StmtShape → Reader ProcessShape
process_behind p s = do
  kind ← type_word
  x ← take_as as_name
  gs ← formals
  t ← take_as (as_sign SEMICOLON)
  ns ← many (as_word ENTRY) (λ u. entry_behind)
  qs ← p of_other
  b ← body_with s
  u ← take_as (as_sign SEMICOLON)
  pure (process kind x gs ns (parts_of qs) b)

-- a part of h that is a block: a sub, and a guarded procedure in a resource, and a monitor, a resource or a process in a program
unfoldable pub block_with : (Home → Reader (List PartShape)) → Reader ExprShape → Reader StmtShape → Home → Reader PartShape
block_with p e s h = branch (as_word PROCEDURE) (λ t. do
  x ← sub_behind p s procedure_head
  pure (sub_part x)) (branch (as_word FUNCTION) (λ t. do
    x ← sub_behind p s function_head
    pure (sub_part x)) (branch (as_word_of_resource h GUARDED) (λ t. do
      x ← sub_behind p s (guarded_head e)
      pure (sub_part x)) (branch (as_word_of_program h MONITOR) (λ t. do
        m ← module_behind p s of_other
        pure (monitor m)) (branch (as_word_of_program h RESOURCE) (λ t. do
          m ← module_behind p s of_resource
          pure (resource m)) (branch (as_word_of_program h PROCESS) (λ t. do
            q ← process_behind p s
            pure (process_part q)) stop)))))

-- part = consts | types | vars | sub, and what else its home has, by the reader b of blocks
unfoldable pub part_with : Reader TypeShape → Reader PartShape → Reader PartShape
part_with t b = branch (as_word CONST) (λ u. do
  items ← const_items
  pure (consts items)) (branch (as_word TYPE) (λ u. do
    items ← type_items t
    pure (types items)) (branch (as_word VAR) (λ u. do
      vs ← var_items t
      pure (vars (vars_of vs))) b))

-- {part} of a home, where n levels are left for what the parts hold
unfoldable pub parts_at : ℕ → Home → Reader (List PartShape)
parts_at zero h = many_while (begins_part h) (part_with (type_at zero) (choose (begins_block h) stop_deep stop))
parts_at (suc n) h = many_while (begins_part h) (part_with (type_at (suc n)) (block_with (parts_at n) (expr_at n) (stmt_at n) h))

-- ["(" name {"," name} ")"]
unfoldable pub params : Reader (List Text)
params = branch (as_sign OPEN_PAREN) (λ t. do
  xs ← names
  u ← take_as (as_sign CLOSE_PAREN)
  pure xs) (pure [])

-- behind `program`: name ["(" name {"," name} ")"] ";" {progpart} body "."
unfoldable pub program_behind : (Home → Reader (List PartShape)) → Reader StmtShape → Reader ProgramShape
program_behind p s = do
  x ← take_as as_name
  xs ← params
  t ← take_as (as_sign SEMICOLON)
  qs ← p of_program
  b ← body_with s
  u ← take_as (as_sign DOT)
  pure (record { name = x; params = xs; parts = parts_of qs; body = b })

-- program = "program" name ["(" name {"," name} ")"] ";" {progpart} body ".", where n levels are left
unfoldable pub program_at : ℕ → Reader ProgramShape
program_at zero = choose (is_word PROGRAM) stop_deep stop
program_at (suc n) = do
  t ← take_as (as_word PROGRAM)
  program_behind (parts_at n) (stmt_at n)

-- a program, and nothing behind it
unfoldable pub whole_at : ℕ → Reader ProgramShape
whole_at n = do
  t ← program_at n
  finish t

-- what reading a list of kinds comes to
unfoldable pub read_program : List Symbol → Outcome ProgramShape
read_program ss = whole_at most_depth ss
