-- Parts and programs: as many depths as tokens.
use Rattle.std.proofs.Common.{◌≡◌, List, length, refl, Option, Some, None}
use Rattle.pfc_tree.proofs.depths.Evens.{evens, flat}
use Rattle.pfc_tree.specs.tokens.Types.{const_items_tokens, formals_tokens}
use Rattle.pfc_tree.specs.shapes.Parts.{PartShape, PartShapes, SubShape, ModuleShape, ProcessShape, KindShape, ProgramShape, consts, types, vars, sub_part}
use Rattle.pfc_tree.specs.shapes.Parts.{monitor, resource, process_part, no_parts, more_parts, sub, the_module, process, procedure, function, guarded}
use Rattle.pfc_tree.specs.tokens.Parts.{part_tokens, parts_tokens, sub_tokens, module_tokens, process_tokens, exports_tokens, entries_tokens, many_tokens}
use Rattle.pfc_tree.specs.tokens.Parts.{params_tokens, ending_tokens, heading_tokens, tokens_of}
use Rattle.pfc_tree.specs.depths.Parts.{part_depths, parts_depths, sub_depths, module_depths, process_depths, ending_depths, heading_depths, depths_of}
use Rattle.pfc_tree.specs.Symbols.{Text}
use Rattle.pfc_tree.specs.shapes.Types.{GroupShape}
use Rattle.pfc_tree.specs.shapes.Stmts.{BodyShape}
use Rattle.pfc_tree.proofs.depths.Exprs.{expr_even}
use Rattle.pfc_tree.proofs.depths.Types.{vars_even, type_items_even}
use Rattle.pfc_tree.proofs.depths.Stmts.{body_even}

ending_even : (b : Option BodyShape) → length (ending_depths b) ≡ length (ending_tokens b)
ending_even None = refl
ending_even (Some b) = body_even b

heading_even : (x : Text) (gs : List GroupShape) (k : KindShape) → length (heading_depths gs k) ≡ length (heading_tokens x gs k)
heading_even x gs procedure = search (evens, flat (formals_tokens gs)) depth 14
heading_even x gs (function t) = search (evens, flat (formals_tokens gs)) depth 14
heading_even x gs (guarded e) = search (evens, flat (formals_tokens gs), expr_even e) depth 14

mutual
  pub part_even : (x : PartShape) → length (part_depths x) ≡ length (part_tokens x)
  part_even (consts items) = search (evens, flat (const_items_tokens items)) depth 14
  part_even (types items) = search (evens, type_items_even items) depth 14
  part_even (vars vs) = search (evens, vars_even vs) depth 14
  part_even (sub_part s) = search (evens, sub_even s) depth 14
  part_even (monitor m) = search (evens, module_even m) depth 14
  part_even (resource m) = search (evens, module_even m) depth 14
  part_even (process_part q) = search (evens, process_even q) depth 14

  pub parts_even : (xs : PartShapes) → length (parts_depths xs) ≡ length (parts_tokens xs)
  parts_even no_parts = refl
  parts_even (more_parts q qs) = search (evens, part_even q, parts_even qs) depth 14

  pub sub_even : (x : SubShape) → length (sub_depths x) ≡ length (sub_tokens x)
  sub_even (sub x gs k qs b) = search (evens, heading_even x gs k, parts_even qs, body_even b) depth 14

  pub module_even : (x : ModuleShape) → length (module_depths x) ≡ length (module_tokens x)
  module_even (the_module x es qs b) = search (evens, flat (exports_tokens es), parts_even qs, ending_even b) depth 14

  pub process_even : (x : ProcessShape) → length (process_depths x) ≡ length (process_tokens x)
  process_even (process b x gs ns qs b') =
      search (evens, flat (many_tokens b), flat (formals_tokens gs), flat (entries_tokens ns), parts_even qs, body_even b') depth 20

pub program_even : (t : ProgramShape) → length (depths_of t) ≡ length (tokens_of t)
program_even t = search (evens, flat (params_tokens t.params), parts_even t.parts, body_even t.body) depth 14
