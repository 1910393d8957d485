-- The traces of parts and programs, and what it means that the places that a tree keeps are the tokens'.
use Rattle.std.specs.Prelude.{Option, Some, None, List, [], ◌∷◌, ◌++◌}
use Rattle.pfc_base.specs.declared.places.Place.{Place}
use Rattle.pfc_base.specs.declared.tokens.Token.{Token}
use Rattle.pfc_tree.specs.Symbols.{Text}
use Rattle.pfc_tree.specs.trees.Types.{GroupTree}
use Rattle.pfc_tree.specs.trees.Stmts.{BodyTree, body}
use Rattle.pfc_tree.specs.trees.Parts.{KindTree, EntryTree, PartTree, PartTrees, SubTree, ModuleTree, ProcessTree, ProgramTree, procedure, function, guarded}
use Rattle.pfc_tree.specs.trees.Parts.{consts, types, vars, sub_part, monitor, resource, process_part, no_parts, more_parts, sub, the_module, process}
use Rattle.pfc_tree.specs.kept.Exprs.{Step, here, next, at, AreKept, expr_trace}
use Rattle.pfc_tree.specs.kept.Types.{names_trace, comma_names_trace, flag_trace, const_items_trace, type_items_trace, vars_trace, formals_trace}
use Rattle.pfc_tree.specs.kept.Stmts.{stmts_trace, body_trace}

abbrev pub exports_trace : List (List (Text × Place)) → List Step
exports_trace [] = []
exports_trace (xs ∷ es) = next ∷ names_trace xs ++ next ∷ exports_trace es

abbrev pub entries_trace : List EntryTree → List Step
entries_trace [] = []
entries_trace (n ∷ ns) = next ∷ at n.place ++ formals_trace n.formals ++ next ∷ entries_trace ns

-- the last `end`, at p, which is the body's where there is one
abbrev pub ending_trace : Option BodyTree → Place → List Step
ending_trace None p = at p
ending_trace (Some (body ss first last)) p = at first ++ stmts_trace ss ++ here last ∷ at p

-- a heading, whose name stands at p
abbrev pub heading_trace : List GroupTree → KindTree → Place → List Step
heading_trace gs procedure p = next ∷ at p ++ formals_trace gs ++ next ∷ []
heading_trace gs (function t q) p = next ∷ at p ++ formals_trace gs ++ next ∷ here q ∷ next ∷ next ∷ []
heading_trace gs (guarded e q) p = next ∷ next ∷ at p ++ formals_trace gs ++ here q ∷ next ∷ expr_trace e ++ next ∷ []

abbrev mutual
  pub part_trace : PartTree → List Step
  part_trace (consts items) = next ∷ const_items_trace items
  part_trace (types items) = next ∷ type_items_trace items
  part_trace (vars vs) = next ∷ vars_trace vs
  part_trace (sub_part s) = sub_trace s
  part_trace (monitor m) = next ∷ module_trace m
  part_trace (resource m) = next ∷ module_trace m
  part_trace (process_part q) = process_trace q

  pub parts_trace : PartTrees → List Step
  parts_trace no_parts = []
  parts_trace (more_parts q qs) = part_trace q ++ parts_trace qs

  pub sub_trace : SubTree → List Step
  sub_trace (sub x gs k qs b p) = heading_trace gs k p ++ parts_trace qs ++ body_trace b ++ next ∷ []

  pub module_trace : ModuleTree → List Step
  module_trace (the_module x es qs b last p) = at p ++ next ∷ exports_trace es ++ parts_trace qs ++ ending_trace b last ++ next ∷ []

  pub process_trace : ProcessTree → List Step
  process_trace (process many x gs ns qs b p) =
      next ∷ flag_trace many ++ here p ∷ next ∷ formals_trace gs ++ next ∷ entries_trace ns ++ parts_trace qs ++ body_trace b ++ next ∷ []

abbrev pub params_trace : List (Text × Place) → List Step
params_trace [] = []
params_trace (x ∷ xs) = next ∷ at x.1 ++ comma_names_trace xs ++ next ∷ []

abbrev pub trace_of : ProgramTree → List Step
trace_of t = at t.place ++ here t.name.1 ∷ next ∷ params_trace t.params ++ next ∷ parts_trace t.parts ++ body_trace t.body ++ next ∷ []

-- the places that a tree keeps are the tokens'
abbrev pub ArePlacesOf : ProgramTree → List Token → Type 0
ArePlacesOf t tokens = AreKept (trace_of t) tokens []
