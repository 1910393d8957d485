-- The depth of each token of a part or a program: the number of blocks, statements, expressions, types and `not` factors
-- that contain it. The blocks are the program, each sub, guarded procedure, monitor, resource and process.
use Rattle.std.specs.Prelude.{ℕ, Option, Some, None, List, [], ◌∷◌, ◌++◌}
use Rattle.pfc_tree.specs.shapes.Types.{GroupShape}
use Rattle.pfc_tree.specs.shapes.Stmts.{BodyShape}
use Rattle.pfc_tree.specs.shapes.Parts.{KindShape, PartShape, PartShapes, SubShape, ModuleShape, ProcessShape, ProgramShape, procedure, function, guarded}
use Rattle.pfc_tree.specs.shapes.Parts.{consts, types, vars, sub_part, monitor, resource, process_part, no_parts, more_parts, sub, the_module, process}
use Rattle.pfc_tree.specs.tokens.Types.{formals_tokens}
use Rattle.pfc_tree.specs.tokens.Parts.{exports_tokens, entries_tokens, many_tokens, params_tokens}
use Rattle.pfc_tree.specs.depths.Exprs.{deeper, level, expr_depths}
use Rattle.pfc_tree.specs.depths.Types.{const_items_depths, type_items_depths, vars_depths}
use Rattle.pfc_tree.specs.depths.Stmts.{body_depths}

abbrev pub ending_depths : Option BodyShape → List ℕ
ending_depths None = 0 ∷ []
ending_depths (Some b) = body_depths b

-- of a heading, in its block
abbrev pub heading_depths : List GroupShape → KindShape → List ℕ
heading_depths gs procedure = 0 ∷ 0 ∷ level (formals_tokens gs) ++ 0 ∷ []
heading_depths gs (function t) = 0 ∷ 0 ∷ level (formals_tokens gs) ++ 0 ∷ 0 ∷ 0 ∷ []
heading_depths gs (guarded e) = 0 ∷ 0 ∷ 0 ∷ level (formals_tokens gs) ++ 0 ∷ expr_depths e ++ 0 ∷ []

abbrev mutual
  pub part_depths : PartShape → List ℕ
  part_depths (consts items) = 0 ∷ const_items_depths items
  part_depths (types items) = 0 ∷ type_items_depths items
  part_depths (vars vs) = 0 ∷ vars_depths vs
  part_depths (sub_part s) = sub_depths s
  part_depths (monitor m) = deeper (0 ∷ module_depths m)
  part_depths (resource m) = deeper (0 ∷ module_depths m)
  part_depths (process_part q) = process_depths q

  pub parts_depths : PartShapes → List ℕ
  parts_depths no_parts = []
  parts_depths (more_parts q qs) = part_depths q ++ parts_depths qs

  pub sub_depths : SubShape → List ℕ
  sub_depths (sub x gs k qs b) = deeper (heading_depths gs k ++ parts_depths qs ++ body_depths b ++ 0 ∷ [])

  -- of the tokens behind `monitor` or `resource`, in the block
  pub module_depths : ModuleShape → List ℕ
  module_depths (the_module x es qs b) = 0 ∷ 0 ∷ level (exports_tokens es) ++ parts_depths qs ++ ending_depths b ++ 0 ∷ []

  pub process_depths : ProcessShape → List ℕ
  process_depths (process many x gs ns qs b) =
      deeper (0 ∷ level (many_tokens many) ++ 0 ∷ level (formals_tokens gs) ++ 0 ∷ level (entries_tokens ns) ++ parts_depths qs ++ body_depths b ++ 0 ∷ [])

-- the depth of each token of a program, in the order of its tokens
abbrev pub depths_of : ProgramShape → List ℕ
depths_of t = deeper (0 ∷ 0 ∷ level (params_tokens t.params) ++ 0 ∷ parts_depths t.parts ++ body_depths t.body ++ 0 ∷ [])
