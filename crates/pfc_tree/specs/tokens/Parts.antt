-- What parts and programs write. Each clause is one line of the grammar, which stands above it.
use Rattle.std.specs.Prelude.{Bool, true, false, Option, Some, None, List, [], ◌∷◌, ◌++◌}
use Rattle.pfc_base.specs.declared.tokens.Kind.TheVariants.{Word, Sign, Name}
use Rattle.pfc_base.specs.declared.word.TheConstants.{CONST, END, ENTRY, EXPORT, FUNCTION, GUARDED, MONITOR, PROCEDURE, PROCESS, PROGRAM, RESOURCE, TYPE, VAR}
use Rattle.pfc_base.specs.declared.word.TheConstants.{WHEN}
use Rattle.pfc_base.specs.declared.sign.TheConstants.{OPEN_PAREN, CLOSE_PAREN, DOT, SEMICOLON, COLON}
use Rattle.pfc_tree.specs.Symbols.{Symbol, Text}
use Rattle.pfc_tree.specs.shapes.Types.{GroupShape}
use Rattle.pfc_tree.specs.shapes.Stmts.{BodyShape}
use Rattle.pfc_tree.specs.shapes.Parts.{KindShape, EntryShape, PartShape, PartShapes, SubShape, ModuleShape, ProcessShape, ProgramShape, procedure, function}
use Rattle.pfc_tree.specs.shapes.Parts.{guarded, consts, types, vars, sub_part, monitor, resource, process_part, no_parts, more_parts, sub, the_module, process}
use Rattle.pfc_tree.specs.tokens.Exprs.{expr_tokens}
use Rattle.pfc_tree.specs.tokens.Types.{names_tokens, comma_names_tokens, const_items_tokens, type_items_tokens, vars_tokens, formals_tokens}
use Rattle.pfc_tree.specs.tokens.Stmts.{body_tokens}

-- {export}, where export = "export" name {"," name} ";"
abbrev pub exports_tokens : List (List Text) → List Symbol
exports_tokens [] = []
exports_tokens (xs ∷ es) = Word EXPORT ∷ names_tokens xs ++ Sign SEMICOLON ∷ exports_tokens es

-- {entry}, where entry = "entry" name [formals] ";"
abbrev pub entries_tokens : List EntryShape → List Symbol
entries_tokens [] = []
entries_tokens (n ∷ ns) = Word ENTRY ∷ Name n.name ∷ formals_tokens n.formals ++ Sign SEMICOLON ∷ entries_tokens ns

-- "end" | body
abbrev pub ending_tokens : Option BodyShape → List Symbol
ending_tokens None = Word END ∷ []
ending_tokens (Some b) = body_tokens b

-- ["type"]
abbrev pub many_tokens : Bool → List Symbol
many_tokens false = []
many_tokens true = Word TYPE ∷ []

-- the heading of a procedure: "procedure" name [formals] ";"
-- of a function: "function" name [formals] ":" name ";"
-- of a guarded procedure: "guarded" "procedure" name [formals] "when" expr ";"
abbrev pub heading_tokens : Text → List GroupShape → KindShape → List Symbol
heading_tokens x gs procedure = Word PROCEDURE ∷ Name x ∷ formals_tokens gs ++ Sign SEMICOLON ∷ []
heading_tokens x gs (function t) = Word FUNCTION ∷ Name x ∷ formals_tokens gs ++ Sign COLON ∷ Name t ∷ Sign SEMICOLON ∷ []
heading_tokens x gs (guarded e) = Word GUARDED ∷ Word PROCEDURE ∷ Name x ∷ formals_tokens gs ++ Word WHEN ∷ expr_tokens e ++ Sign SEMICOLON ∷ []

abbrev mutual
  -- part = consts | types | vars | sub, and progpart = part | monitor | resource | process
  pub part_tokens : PartShape → List Symbol
  part_tokens (consts items) = Word CONST ∷ const_items_tokens items
  part_tokens (types items) = Word TYPE ∷ type_items_tokens items
  part_tokens (vars vs) = Word VAR ∷ vars_tokens vs
  part_tokens (sub_part s) = sub_tokens s
  part_tokens (monitor m) = Word MONITOR ∷ module_tokens m
  part_tokens (resource m) = Word RESOURCE ∷ module_tokens m
  part_tokens (process_part q) = process_tokens q

  -- {part}
  pub parts_tokens : PartShapes → List Symbol
  parts_tokens no_parts = []
  parts_tokens (more_parts q qs) = part_tokens q ++ parts_tokens qs

  -- sub = heading {part} body ";"
  pub sub_tokens : SubShape → List Symbol
  sub_tokens (sub x gs k qs b) = heading_tokens x gs k ++ parts_tokens qs ++ body_tokens b ++ Sign SEMICOLON ∷ []

  -- monitor = "monitor" name ";" {export} {part} ("end" | body) ";"
  -- resource = "resource" name ";" {export} {part | guarded} ("end" | body) ";"
  -- of which these are the tokens behind the first
  pub module_tokens : ModuleShape → List Symbol
  module_tokens (the_module x es qs b) = Name x ∷ Sign SEMICOLON ∷ exports_tokens es ++ parts_tokens qs ++ ending_tokens b ++ Sign SEMICOLON ∷ []

  -- process = "process" ["type"] name [formals] ";" {entry} {part} body ";"
  pub process_tokens : ProcessShape → List Symbol
  process_tokens (process many x gs ns qs b) =
      Word PROCESS ∷ many_tokens many ++ Name x ∷ formals_tokens gs ++ Sign SEMICOLON ∷ entries_tokens ns ++ parts_tokens qs
      ++ body_tokens b ++ Sign SEMICOLON ∷ []

-- ["(" name {"," name} ")"]
abbrev pub params_tokens : List Text → List Symbol
params_tokens [] = []
params_tokens (x ∷ xs) = Sign OPEN_PAREN ∷ Name x ∷ comma_names_tokens xs ++ Sign CLOSE_PAREN ∷ []

-- program = "program" name ["(" name {"," name} ")"] ";" {progpart} body "."
abbrev pub tokens_of : ProgramShape → List Symbol
tokens_of t = Word PROGRAM ∷ Name t.name ∷ params_tokens t.params ++ Sign SEMICOLON ∷ parts_tokens t.parts ++ body_tokens t.body ++ Sign DOT ∷ []
