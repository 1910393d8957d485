-- A part or a program is determined by its shape and the tokens.
use Rattle.std.proofs.Common.{◌≡◌, refl, sym, ap, ◌∙◌, Option, Some, None, option_map, List, [], ◌∷◌, map}
use Rattle.pfc_base.specs.declared.places.Place.{Place}
use Rattle.pfc_base.specs.declared.tokens.Token.{Token}
use Rattle.pfc_tree.specs.Symbols.{Text}
use Rattle.pfc_tree.specs.shapes.Types.{GroupShape}
use Rattle.pfc_tree.specs.shapes.Stmts.{BodyShape}
use Rattle.pfc_tree.specs.shapes.Stmts as stmt_shape
use Rattle.pfc_tree.specs.shapes.Parts.{KindShape, EntryShape, PartShape, PartShapes, SubShape, ModuleShape, ProcessShape, ProgramShape}
use Rattle.pfc_tree.specs.shapes.Parts as shape
use Rattle.pfc_tree.specs.trees.Types.{GroupTree}
use Rattle.pfc_tree.specs.trees.Stmts.{BodyTree, body}
use Rattle.pfc_tree.specs.trees.Parts.{KindTree, EntryTree, PartTree, PartTrees, SubTree, ModuleTree, ProcessTree, ProgramTree, procedure, function, guarded}
use Rattle.pfc_tree.specs.trees.Parts.{consts, types, vars, sub_part, monitor, resource, process_part, no_parts, more_parts, sub, the_module, process}
use Rattle.pfc_tree.specs.forget.Types.{bare, forget_group}
use Rattle.pfc_tree.specs.forget.Stmts.{forget_body}
use Rattle.pfc_tree.specs.forget.Parts.{forget_kind, forget_entry, forget_part, forget_parts, forget_sub, forget_module, forget_process, forget_program}
use Rattle.pfc_tree.specs.kept.Exprs.{here, next, expr_trace}
use Rattle.pfc_tree.specs.kept.Types.{flag_trace, formals_trace}
use Rattle.pfc_tree.specs.kept.Stmts.{body_trace}
use Rattle.pfc_tree.specs.kept.Parts.{exports_trace, entries_trace, ending_trace, heading_trace, part_trace, parts_trace, sub_trace, module_trace}
use Rattle.pfc_tree.specs.kept.Parts.{process_trace, params_trace, trace_of}
use Rattle.pfc_grammar.specs.Outcomes.{IsTreeOf}
use Rattle.pfc_grammar.proofs.Exact.{one_tree}
use Rattle.pfc_grammar.proofs.placed_one.Filling.{Filler, fill_done, fill_here, fill_next, fill_part, fill_last, fill_flag, Fills, fills_done, fills_here}
use Rattle.pfc_grammar.proofs.placed_one.Filling.{fills_next, fills_part, fills_last, fills_three, fills_four, fills_six, fills_flag}
use Rattle.pfc_grammar.proofs.placed_one.Exprs.{fill_expr, fills_expr}
use Rattle.pfc_grammar.proofs.placed_one.Types.{fill_comma_names, fill_names, fill_vars, fill_const_items, fill_type_items, fill_formals, fills_comma_names}
use Rattle.pfc_grammar.proofs.placed_one.Types.{fills_names, fills_vars, fills_const_items, fills_type_items, fills_formals}
use Rattle.pfc_grammar.proofs.placed_one.Stmts.{fill_stmts, fill_body, fills_stmts, fills_body}

abbrev fill_exports : List (List Text) → Filler (List (List (Text × Place)))
fill_exports [] = fill_done []
fill_exports (xs ∷ es) = fill_next (fill_part (fill_names xs) (λ xs'. fill_next (fill_last (fill_exports es) (λ es'. xs' ∷ es'))))

fills_exports : (xs : List (List (Text × Place))) → Fills (exports_trace xs) (fill_exports (map bare xs)) xs
fills_exports [] = fills_done _
fills_exports (xs ∷ es) = fills_next (fills_part _ (fills_names xs) (fills_next (fills_last _ (fills_exports es) refl)))

abbrev fill_entries : List EntryShape → Filler (List EntryTree)
fill_entries [] = fill_done []
fill_entries (n ∷ ns) =
    fill_next (fill_here (λ p. fill_next
    (fill_part (fill_formals n.formals) (λ gs. fill_next (fill_last (fill_entries ns) (λ ns'. record { name = n.name; formals = gs; place = p } ∷ ns'))))))

fills_entries : (xs : List EntryTree) → Fills (entries_trace xs) (fill_entries (map forget_entry xs)) xs
fills_entries [] = fills_done _
fills_entries (n ∷ ns) = fills_next (fills_here _ (fills_next (fills_part _ (fills_formals n.formals) (fills_next (fills_last _ (fills_entries ns) refl)))))

abbrev fill_heading : List GroupShape → KindShape → Filler (List GroupTree × KindTree × Place)
fill_heading gs shape.procedure = fill_next (fill_here (λ p. fill_next (fill_part (fill_formals gs) (λ gs'. fill_next (fill_done (gs', procedure, p))))))
fill_heading gs (shape.function t) =
    fill_next (fill_here (λ p. fill_next
    (fill_part (fill_formals gs) (λ gs'. fill_next (fill_here (λ q. fill_next (fill_next (fill_done (gs', function t q, p)))))))))
fill_heading gs (shape.guarded e) =
    fill_next (fill_next (fill_here
    (λ p. fill_next (fill_part (fill_formals gs)
    (λ gs'. fill_here (λ q. fill_next (fill_part (fill_expr e) (λ e'. fill_next (fill_done (gs', guarded e' q, p))))))))))

fills_heading : (gs : List GroupTree) (k : KindTree) (p : Place) → Fills (heading_trace gs k p) (fill_heading (map forget_group gs) (forget_kind k)) (gs, k, p)
fills_heading gs procedure p = fills_next (fills_here _ (fills_next (fills_part _ (fills_formals gs) (fills_next (fills_done _)))))
fills_heading gs (function t q) p =
    fills_next (fills_here _ (fills_next (fills_part _ (fills_formals gs) (fills_next (fills_here _ (fills_next (fills_next (fills_done _))))))))
fills_heading gs (guarded e q) p =
    fills_next (fills_next
    (fills_here _ (fills_next (fills_three (formals_trace gs) (here q ∷ next ∷ expr_trace e) (next ∷ [])
    (fills_part _ (fills_formals gs) (fills_here _ (fills_next (fills_part _ (fills_expr e) (fills_next (fills_done _))))))))))

-- the last `end`, and a body before it
abbrev fill_ending : Option BodyShape → Filler (Option BodyTree × Place)
fill_ending None = fill_here (λ p. fill_next (fill_done (None, p)))
fill_ending (Some (stmt_shape.body ss)) =
    fill_here (λ first. fill_next
    (fill_part (fill_stmts ss) (λ ss'. fill_here (λ last. fill_here (λ p. fill_next (fill_done (Some (body ss' first last), p)))))))

fills_ending : (b : Option BodyTree) (p : Place) → Fills (ending_trace b p) (fill_ending (option_map forget_body b)) (b, p)
fills_ending None p = fills_here _ (fills_next (fills_done _))
fills_ending (Some (body ss first last)) p = fills_here _ (fills_next (fills_part _ (fills_stmts ss) (fills_here _ (fills_here _ (fills_next (fills_done _))))))

abbrev mutual
  fill_one_part : PartShape → Filler PartTree
  fill_one_part (shape.consts items) = fill_next (fill_last (fill_const_items items) (λ items'. consts items'))
  fill_one_part (shape.types items) = fill_next (fill_last (fill_type_items items) (λ items'. types items'))
  fill_one_part (shape.vars vs) = fill_next (fill_last (fill_vars vs) (λ vs'. vars vs'))
  fill_one_part (shape.sub_part s) = fill_last (fill_sub s) (λ s'. sub_part s')
  fill_one_part (shape.monitor m) = fill_next (fill_last (fill_module m) (λ m'. monitor m'))
  fill_one_part (shape.resource m) = fill_next (fill_last (fill_module m) (λ m'. resource m'))
  fill_one_part (shape.process_part q) = fill_last (fill_process q) (λ q'. process_part q')

  fill_parts : PartShapes → Filler PartTrees
  fill_parts shape.no_parts = fill_done no_parts
  fill_parts (shape.more_parts q qs) = fill_part (fill_one_part q) (λ q'. fill_last (fill_parts qs) (λ qs'. more_parts q' qs'))

  fill_sub : SubShape → Filler SubTree
  fill_sub (shape.sub x gs k qs b) =
      fill_part (fill_heading gs k) (λ h. fill_part (fill_parts qs) (λ qs'. fill_part (fill_body b) (λ b'. fill_next (fill_done (sub x h.0 h.1 qs' b' h.2)))))

  fill_module : ModuleShape → Filler ModuleTree
  fill_module (shape.the_module x es qs b) =
      fill_here (λ p. fill_next
      (fill_next (fill_part (fill_exports es)
      (λ es'. fill_part (fill_parts qs) (λ qs'. fill_part (fill_ending b) (λ b'. fill_next (fill_done (the_module x es' qs' b'.0 b'.1 p))))))))

  fill_process : ProcessShape → Filler ProcessTree
  fill_process (shape.process many x gs ns qs b) =
      fill_next (fill_part (fill_flag many)
      (λ many'. fill_here (λ p. fill_next
      (fill_part (fill_formals gs)
      (λ gs'. fill_next (fill_part (fill_entries ns)
      (λ ns'. fill_part (fill_parts qs) (λ qs'. fill_part (fill_body b) (λ b'. fill_next (fill_done (process many' x gs' ns' qs' b' p)))))))))))

mutual
  fills_one_part : (x : PartTree) → Fills (part_trace x) (fill_one_part (forget_part x)) x
  fills_one_part (consts items) = fills_next (fills_last _ (fills_const_items items) refl)
  fills_one_part (types items) = fills_next (fills_last _ (fills_type_items items) refl)
  fills_one_part (vars vs) = fills_next (fills_last _ (fills_vars vs) refl)
  fills_one_part (sub_part s) = fills_last _ (fills_sub s) refl
  fills_one_part (monitor m) = fills_next (fills_last _ (fills_module m) refl)
  fills_one_part (resource m) = fills_next (fills_last _ (fills_module m) refl)
  fills_one_part (process_part q) = fills_last _ (fills_process q) refl

  fills_parts : (xs : PartTrees) → Fills (parts_trace xs) (fill_parts (forget_parts xs)) xs
  fills_parts no_parts = fills_done _
  fills_parts (more_parts q qs) = fills_part _ (fills_one_part q) (fills_last _ (fills_parts qs) refl)

  fills_sub : (x : SubTree) → Fills (sub_trace x) (fill_sub (forget_sub x)) x
  fills_sub (sub x gs k qs b p) = fills_four (heading_trace gs k p) (parts_trace qs) (body_trace b) (next ∷ [])
      (fills_part _ (fills_heading gs k p) (fills_part _ (fills_parts qs) (fills_part _ (fills_body b) (fills_next (fills_done _)))))

  fills_module : (x : ModuleTree) → Fills (module_trace x) (fill_module (forget_module x)) x
  fills_module (the_module x es qs b last p) =
      fills_here _ (fills_next (fills_next (fills_four (exports_trace es) (parts_trace qs) (ending_trace b last) (next ∷ [])
      (fills_part _ (fills_exports es) (fills_part _ (fills_parts qs) (fills_part _ (fills_ending b last) (fills_next (fills_done _))))))))

  fills_process : (x : ProcessTree) → Fills (process_trace x) (fill_process (forget_process x)) x
  fills_process (process many x gs ns qs b p) =
      fills_next (fills_six (flag_trace many) (here p ∷ next ∷ formals_trace gs) (next ∷ entries_trace ns) (parts_trace qs) (body_trace b) (next ∷ [])
      (fills_part _ (fills_flag many)
      (fills_here _ (fills_next
      (fills_part _ (fills_formals gs)
      (fills_next (fills_part _ (fills_entries ns) (fills_part _ (fills_parts qs) (fills_part _ (fills_body b) (fills_next (fills_done _)))))))))))

abbrev fill_params : List Text → Filler (List (Text × Place))
fill_params [] = fill_done []
fill_params (x ∷ xs) = fill_next (fill_here (λ p. fill_next (fill_part (fill_comma_names xs) (λ xs'. fill_next (fill_done ((x, p) ∷ xs'))))))

fills_params : (xs : List (Text × Place)) → Fills (params_trace xs) (fill_params (bare xs)) xs
fills_params [] = fills_done _
fills_params (x ∷ xs) = fills_next (fills_here _ (fills_next (fills_part _ (fills_comma_names xs) (fills_next (fills_done _)))))

abbrev fill_program : ProgramShape → Filler ProgramTree
fill_program t = fill_here
    (λ place. fill_next (fill_here
    (λ q. fill_next (fill_part (fill_params t.params)
    (λ xs. fill_next (fill_part (fill_parts t.parts)
    (λ qs. fill_part (fill_body t.body) (λ b. fill_next (fill_done (record { name = (t.name, q); params = xs; parts = qs; body = b; place = place }))))))))))

fills_program : (x : ProgramTree) → Fills (trace_of x) (fill_program (forget_program x)) x
fills_program t = fills_here _
    (fills_next (fills_here _ (fills_next (fills_four (params_trace t.params) (next ∷ parts_trace t.parts) (body_trace t.body) (next ∷ [])
    (fills_part _ (fills_params t.params) (fills_next (fills_part _ (fills_parts t.parts) (fills_part _ (fills_body t.body) (fills_next (fills_done _))))))))))

-- two trees of the same tokens are the same
pub one_tree_of : (tokens : List Token) (tree other : ProgramTree) → IsTreeOf tokens tree → IsTreeOf tokens other → tree ≡ other
one_tree_of tokens tree other v w =
    let shapes : forget_program tree ≡ forget_program other =
    one_tree (forget_program tree) (forget_program other) v.lawful w.lawful (sym v.written ∙ w.written) in
    sym (ap (λ z. z.0) ((fills_program tree).fills tokens [] v.kept)) ∙ ap (λ z. (fill_program z tokens).0) shapes ∙
    ap (λ z. z.0) ((fills_program other).fills tokens [] w.kept)
