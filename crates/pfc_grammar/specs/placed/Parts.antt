-- The readers of parts and programs from tokens, with their places; `p` reads the parts of a home, `e` an expression and `s` a
-- statement in the block that is read.
use Rattle.std.specs.Prelude.{ℕ, zero, suc, List, [], Bool, true, false, Option, Some, None}
use Rattle.pfc_base.specs.declared.places.Place.{Place}
use Rattle.pfc_base.specs.declared.tokens.Token.{Token}
use Rattle.pfc_base.specs.declared.word.TheConstants.{CONST, END, ENTRY, EXPORT, FUNCTION, GUARDED, MONITOR, PROCEDURE, PROCESS, PROGRAM, RESOURCE, TYPE, VAR}
use Rattle.pfc_base.specs.declared.word.TheConstants.{WHEN}
use Rattle.pfc_base.specs.declared.sign.TheConstants.{OPEN_PAREN, CLOSE_PAREN, DOT, SEMICOLON, COLON}
use Rattle.pfc_tree.specs.Symbols.{Text}
use Rattle.pfc_tree.specs.trees.Exprs.{ExprTree}
use Rattle.pfc_tree.specs.trees.Types.{GroupTree, TypeTree}
use Rattle.pfc_tree.specs.trees.Stmts.{StmtTree, BodyTree, body}
use Rattle.pfc_tree.specs.trees.Parts.{KindTree, EntryTree, PartTree, SubTree, ModuleTree, ProcessTree, ProgramTree, procedure, function, guarded, consts}
use Rattle.pfc_tree.specs.trees.Parts.{types, vars, sub_part, monitor, resource, process_part, sub, the_module, process}
use Rattle.pfc_tree.specs.views.Types.{vars_of}
use Rattle.pfc_tree.specs.views.Parts.{parts_of}
use Rattle.pfc_tree.specs.lawful.Parts.{Home, of_program, of_resource, of_other}
use Rattle.pfc_tree.specs.Grammar.{most_depth}
use Rattle.pfc_grammar.specs.Heads.{as_word, as_sign, as_name, as_word_of_resource, as_word_of_program, is_word, begins_block, begins_part}
use Rattle.pfc_grammar.specs.placed.Reading.{Reader, Outcome, pure, ◌>>=◌, stop, stop_deep, branch, choose, take_as, many, many_while, finish}
use Rattle.pfc_grammar.specs.placed.Exprs.{expr_at}
use Rattle.pfc_grammar.specs.placed.Types.{names, formals, type_at, const_items, type_items, var_items}
use Rattle.pfc_grammar.specs.placed.Stmts.{body_with, stmt_at}

-- What stands before the parts of a sub, behind its first word: its name, parameters and kind.
abbrev pub SubHead : Type 0
SubHead = (Text × Place) × List GroupTree × KindTree

-- name [formals] ";"
unfoldable pub procedure_head : Reader SubHead
procedure_head = do
  x ← take_as as_name
  gs ← formals
  t ← take_as (as_sign SEMICOLON)
  pure (x, gs, procedure)

-- name [formals] ":" name ";"
unfoldable pub function_head : Reader SubHead
function_head = do
  x ← take_as as_name
  gs ← formals
  t ← take_as (as_sign COLON)
  result ← take_as as_name
  u ← take_as (as_sign SEMICOLON)
  pure (x, gs, function result.0 result.1)

-- "procedure" name [formals] "when" expr ";"
unfoldable pub guarded_head : Reader ExprTree → Reader SubHead
guarded_head e = do
  t ← take_as (as_word PROCEDURE)
  x ← take_as as_name
  gs ← formals
  u ← take_as (as_word WHEN)
  test ← e
  v ← take_as (as_sign SEMICOLON)
  pure (x, gs, guarded test u.1)

-- a sub behind its first word: its head, {part} body ";"
unfoldable pub sub_behind : (Home → Reader (List PartTree)) → Reader StmtTree → Reader SubHead → Reader SubTree
sub_behind p s head = do
  h ← head
  qs ← p of_other
  b ← body_with s
  t ← take_as (as_sign SEMICOLON)
  pure (sub h.0.0 h.1 h.2 (parts_of qs) b h.0.1)

-- behind `export`: name {"," name} ";"
unfoldable pub export_behind : Reader (List (Text × Place))
export_behind = do
  xs ← names
  t ← take_as (as_sign SEMICOLON)
  pure xs

-- the place of a body's `end`
abbrev pub body_end : BodyTree → Place
body_end (body ss first last) = last

-- "end" | body, with the place of the `end`
unfoldable pub ending : Reader StmtTree → Reader (Option BodyTree × Place)
ending s = branch (as_word END) (λ t. pure (None, t.1)) (do
  b ← body_with s
  pure (Some b, body_end b))

-- a monitor or a resource behind its first word: name ";" {export} {part} ("end" | body) ";"
unfoldable pub module_behind : (Home → Reader (List PartTree)) → Reader StmtTree → Home → Reader ModuleTree
module_behind p s own = do
  x ← take_as as_name
  t ← take_as (as_sign SEMICOLON)
  es ← many (as_word EXPORT) (λ u. export_behind)
  qs ← p own
  b ← ending s
  u ← take_as (as_sign SEMICOLON)
  pure (the_module x.0 es (parts_of qs) b.0 b.1 x.1)

-- behind `entry`: name [formals] ";"
unfoldable pub entry_behind : Reader EntryTree
entry_behind = do
  x ← take_as as_name
  gs ← formals
  t ← take_as (as_sign SEMICOLON)
  pure (record { name = x.0; formals = gs; place = x.1 })

-- ["type"]
unfoldable pub type_word : Reader Bool
type_word = branch (as_word TYPE) (λ t. pure true) (pure false)

-- behind `process`: ["type"] name [formals] ";" {entry} {part} body ";"
unfoldable pub process_behind : (Home → Reader (List PartTree)) → Reader StmtTree → Reader ProcessTree
process_behind p s = do
  kind ← type_word
  x ← take_as as_name
  gs ← formals
  t ← take_as (as_sign SEMICOLON)
  ns ← many (as_word ENTRY) (λ u. entry_behind)
  qs ← p of_other
  b ← body_with s
  u ← take_as (as_sign SEMICOLON)
  pure (process kind x.0 gs ns (parts_of qs) b x.1)

-- a part of h that is a block: a sub, and a guarded procedure in a resource, and a monitor, a resource or a process in a program
unfoldable pub block_with : (Home → Reader (List PartTree)) → Reader ExprTree → Reader StmtTree → Home → Reader PartTree
block_with p e s h = branch (as_word PROCEDURE) (λ t. do
  x ← sub_behind p s procedure_head
  pure (sub_part x)) (branch (as_word FUNCTION) (λ t. do
    x ← sub_behind p s function_head
    pure (sub_part x)) (branch (as_word_of_resource h GUARDED) (λ t. do
      x ← sub_behind p s (guarded_head e)
      pure (sub_part x)) (branch (as_word_of_program h MONITOR) (λ t. do
        m ← module_behind p s of_other
        pure (monitor m)) (branch (as_word_of_program h RESOURCE) (λ t. do
          m ← module_behind p s of_resource
          pure (resource m)) (branch (as_word_of_program h PROCESS) (λ t. do
            q ← process_behind p s
            pure (process_part q)) stop)))))

-- part = consts | types | vars | sub, and what else its home has, by the reader b of blocks
unfoldable pub part_with : Reader TypeTree → Reader PartTree → Reader PartTree
part_with t b = branch (as_word CONST) (λ u. do
  items ← const_items
  pure (consts items)) (branch (as_word TYPE) (λ u. do
    items ← type_items t
    pure (types items)) (branch (as_word VAR) (λ u. do
      vs ← var_items t
      pure (vars (vars_of vs))) b))

-- {part} of a home, where n levels are left for what the parts hold
unfoldable pub parts_at : ℕ → Home → Reader (List PartTree)
parts_at zero h = many_while (begins_part h) (part_with (type_at zero) (choose (begins_block h) stop_deep stop))
parts_at (suc n) h = many_while (begins_part h) (part_with (type_at (suc n)) (block_with (parts_at n) (expr_at n) (stmt_at n) h))

-- ["(" name {"," name} ")"]
unfoldable pub params : Reader (List (Text × Place))
params = branch (as_sign OPEN_PAREN) (λ t. do
  xs ← names
  u ← take_as (as_sign CLOSE_PAREN)
  pure xs) (pure [])

-- behind `program`, which stands at place: name ["(" name {"," name} ")"] ";" {progpart} body "."
unfoldable pub program_behind : (Home → Reader (List PartTree)) → Reader StmtTree → Place → Reader ProgramTree
program_behind p s place = do
  x ← take_as as_name
  xs ← params
  t ← take_as (as_sign SEMICOLON)
  qs ← p of_program
  b ← body_with s
  u ← take_as (as_sign DOT)
  pure (record { name = x; params = xs; parts = parts_of qs; body = b; place = place })

-- program = "program" name ["(" name {"," name} ")"] ";" {progpart} body ".", where n levels are left
unfoldable pub program_at : ℕ → Reader ProgramTree
program_at zero = choose (is_word PROGRAM) stop_deep stop
program_at (suc n) = do
  t ← take_as (as_word PROGRAM)
  program_behind (parts_at n) (stmt_at n) t.1

-- a program, and nothing behind it
unfoldable pub whole_at : ℕ → Reader ProgramTree
whole_at n = do
  t ← program_at n
  finish t

-- what reading a list of tokens comes to
unfoldable pub read_tokens : List Token → Outcome ProgramTree
read_tokens ts = whole_at most_depth ts
