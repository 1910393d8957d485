-- Parts and programs: a trace passes as many tokens as are written.
use Rattle.std.proofs.Common.{◌≡◌, Bool, true, false, List, [], ◌∷◌, length, refl, map, Option, Some, None, option_map}
use Rattle.pfc_base.specs.declared.places.Place.{Place}
use Rattle.pfc_tree.specs.Symbols.{Text}
use Rattle.pfc_tree.specs.kept.Exprs.{passed}
use Rattle.pfc_tree.proofs.kept.Passing.{passing}
use Rattle.pfc_tree.specs.trees.Parts.{PartTree, PartTrees, SubTree, ModuleTree, ProcessTree, KindTree, EntryTree, ProgramTree, consts, types, vars, sub_part}
use Rattle.pfc_tree.specs.trees.Parts.{monitor, resource, process_part, no_parts, more_parts, sub, the_module, process, procedure, function, guarded}
use Rattle.pfc_tree.specs.forget.Parts.{forget_part, forget_parts, forget_sub, forget_module, forget_process, forget_kind, forget_entry, forget_program}
use Rattle.pfc_tree.specs.tokens.Parts.{part_tokens, parts_tokens, sub_tokens, module_tokens, process_tokens, exports_tokens, entries_tokens, many_tokens}
use Rattle.pfc_tree.specs.tokens.Parts.{params_tokens, ending_tokens, heading_tokens, tokens_of}
use Rattle.pfc_tree.specs.kept.Parts.{part_trace, parts_trace, sub_trace, module_trace, process_trace, exports_trace, entries_trace, params_trace, ending_trace}
use Rattle.pfc_tree.specs.kept.Parts.{heading_trace, trace_of}
use Rattle.pfc_tree.specs.trees.Types.{GroupTree}
use Rattle.pfc_tree.specs.trees.Stmts.{BodyTree, body}
use Rattle.pfc_tree.specs.forget.Types.{bare, forget_group}
use Rattle.pfc_tree.specs.forget.Stmts.{forget_body}
use Rattle.pfc_tree.specs.kept.Types.{flag_trace}
use Rattle.pfc_tree.proofs.kept.Exprs.{expr_passed}
use Rattle.pfc_tree.proofs.kept.Types.{names_passed, comma_names_passed, vars_passed, const_items_passed, type_items_passed, formals_passed}
use Rattle.pfc_tree.proofs.kept.Stmts.{stmts_passed, body_passed}

pub exports_passed : (xs : List (List (Text × Place))) → passed (exports_trace xs) ≡ length (exports_tokens (map bare xs))
exports_passed [] = refl
exports_passed (x ∷ xs) = search (passing, names_passed x, exports_passed xs) depth 14

pub entries_passed : (xs : List EntryTree) → passed (entries_trace xs) ≡ length (entries_tokens (map forget_entry xs))
entries_passed [] = refl
entries_passed (x ∷ xs) = search (passing, formals_passed x.formals, entries_passed xs) depth 14

many_passed : (b : Bool) → passed (flag_trace b) ≡ length (many_tokens b)
many_passed false = refl
many_passed true = refl

ending_passed : (b : Option BodyTree) (p : Place) → passed (ending_trace b p) ≡ length (ending_tokens (option_map forget_body b))
ending_passed None p = refl
ending_passed (Some (body ss first last)) p = search (passing, stmts_passed ss) depth 14

heading_passed : (x : Text) (gs : List GroupTree) (k : KindTree) (p : Place) →
    passed (heading_trace gs k p) ≡ length (heading_tokens x (map forget_group gs) (forget_kind k))
heading_passed x gs procedure p = search (passing, formals_passed gs) depth 14
heading_passed x gs (function t q) p = search (passing, formals_passed gs) depth 14
heading_passed x gs (guarded e q) p = search (passing, formals_passed gs, expr_passed e) depth 14

mutual
  pub part_passed : (x : PartTree) → passed (part_trace x) ≡ length (part_tokens (forget_part x))
  part_passed (consts items) = search (passing, const_items_passed items) depth 14
  part_passed (types items) = search (passing, type_items_passed items) depth 14
  part_passed (vars vs) = search (passing, vars_passed vs) depth 14
  part_passed (sub_part s) = search (passing, sub_passed s) depth 14
  part_passed (monitor m) = search (passing, module_passed m) depth 14
  part_passed (resource m) = search (passing, module_passed m) depth 14
  part_passed (process_part q) = search (passing, process_passed q) depth 14

  pub parts_passed : (xs : PartTrees) → passed (parts_trace xs) ≡ length (parts_tokens (forget_parts xs))
  parts_passed no_parts = refl
  parts_passed (more_parts q qs) = search (passing, part_passed q, parts_passed qs) depth 14

  pub sub_passed : (x : SubTree) → passed (sub_trace x) ≡ length (sub_tokens (forget_sub x))
  sub_passed (sub x gs k qs b p) = search (passing, heading_passed x gs k p, parts_passed qs, body_passed b) depth 14

  pub module_passed : (x : ModuleTree) → passed (module_trace x) ≡ length (module_tokens (forget_module x))
  module_passed (the_module x es qs b p p') = search (passing, exports_passed es, parts_passed qs, ending_passed b p) depth 14

  pub process_passed : (x : ProcessTree) → passed (process_trace x) ≡ length (process_tokens (forget_process x))
  process_passed (process b x gs ns qs b' p) = search (passing, many_passed b, formals_passed gs, entries_passed ns, parts_passed qs, body_passed b') depth 20

params_passed : (xs : List (Text × Place)) → passed (params_trace xs) ≡ length (params_tokens (bare xs))
params_passed [] = refl
params_passed (x ∷ xs) = search (passing, comma_names_passed xs) depth 14

pub program_passed : (t : ProgramTree) → passed (trace_of t) ≡ length (tokens_of (forget_program t))
program_passed t = search (passing, params_passed t.params, parts_passed t.parts, body_passed t.body) depth 14
