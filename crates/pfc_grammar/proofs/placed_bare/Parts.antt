-- The readers of parts and programs from tokens agree with those from kinds but for places.
use Rattle.std.proofs.Common.{◌≡◌, ℕ, zero, suc, List, [], ◌∷◌, map, Option, Ok, Err, option_map, refl, ap}
use Rattle.pfc_base.specs.declared.places.Place.{Place}
use Rattle.pfc_base.specs.declared.tokens.Token.{Token}
use Rattle.pfc_tree.specs.Symbols.{symbols}
use Rattle.pfc_tree.specs.Grammar.{most_depth}
use Rattle.pfc_tree.specs.lawful.Parts.{Home}
use Rattle.pfc_tree.specs.shapes.Exprs.{ExprShape}
use Rattle.pfc_tree.specs.shapes.Types.{TypeShape}
use Rattle.pfc_tree.specs.shapes.Stmts.{StmtShape, BodyShape}
use Rattle.pfc_tree.specs.shapes.Parts.{PartShape, vars, more_parts, sub, the_module, process}
use Rattle.pfc_tree.specs.trees.Exprs.{ExprTree}
use Rattle.pfc_tree.specs.trees.Types.{TypeTree}
use Rattle.pfc_tree.specs.trees.Stmts.{StmtTree, BodyTree}
use Rattle.pfc_tree.specs.trees.Parts.{PartTree}
use Rattle.pfc_tree.specs.views.Parts.{parts_of}
use Rattle.pfc_tree.specs.forget.Exprs.{forget_expr}
use Rattle.pfc_tree.specs.forget.Types.{bare, forget_type, forget_group}
use Rattle.pfc_tree.specs.forget.Stmts.{forget_stmt, forget_body}
use Rattle.pfc_tree.specs.forget.Parts.{forget_kind, forget_entry, forget_part, forget_parts, forget_sub, forget_module, forget_process, forget_program}
use Rattle.pfc_grammar.specs.Outcomes.{bare_outcome}
use Rattle.pfc_grammar.specs.Reading.{Reader as KindReader}
use Rattle.pfc_grammar.specs.grammar.Parts as kinds
use Rattle.pfc_grammar.specs.placed.Reading.{Outcome, Reader}
use Rattle.pfc_grammar.specs.placed.Parts.{SubHead, procedure_head, function_head, guarded_head, sub_behind, export_behind, ending, module_behind, entry_behind}
use Rattle.pfc_grammar.specs.placed.Parts.{type_word, process_behind, block_with, part_with, parts_at, params, program_behind, program_at, whole_at}
use Rattle.pfc_grammar.specs.placed.Parts.{read_tokens}
use Rattle.pfc_grammar.proofs.placed_bare.Readers.{bare_by, Bares, bare_pure, bare_stop, bare_stop_deep, bare_bind, bare_branch, bare_choose, bare_take}
use Rattle.pfc_grammar.proofs.placed_bare.Readers.{bare_finish}
use Rattle.pfc_grammar.proofs.placed_bare.Loops.{bare_many, bare_while}
use Rattle.pfc_grammar.proofs.placed_bare.Exprs.{bare_expr_at}
use Rattle.pfc_grammar.proofs.placed_bare.Types.{bare_vars, bare_names, bare_formals, bare_type_at, bare_const_items, bare_type_items, bare_var_items}
use Rattle.pfc_grammar.proofs.placed_bare.Stmts.{bare_body, bare_stmt_at}

bare_parts_of : (qs : List PartTree) → forget_parts (parts_of qs) ≡ kinds.parts_of (map forget_part qs)
bare_parts_of [] = refl
bare_parts_of (q ∷ qs) = ap (λ z. more_parts (forget_part q) z) (bare_parts_of qs)

abbrev forget_head : SubHead → kinds.SubHead
forget_head h = (h.0.0, map forget_group h.1, forget_kind h.2)

abbrev forget_ending : Option BodyTree × Place → Option BodyShape
forget_ending b = option_map forget_body b.0

bare_procedure_head : Bares forget_head procedure_head kinds.procedure_head
unfolding procedure_head kinds.procedure_head
bare_procedure_head = bare_bind _ (bare_take _) (λ x. bare_bind _ bare_formals (λ gs. bare_bind _ (bare_take _) (λ t. bare_pure _ refl)))

bare_function_head : Bares forget_head function_head kinds.function_head
unfolding function_head kinds.function_head
bare_function_head = bare_bind _ (bare_take _)
    (λ x. bare_bind _ bare_formals
    (λ gs. bare_bind _ (bare_take _) (λ t. bare_bind _ (bare_take _) (λ result. bare_bind _ (bare_take _) (λ u. bare_pure _ refl)))))

bare_export : Bares bare export_behind kinds.export_behind
unfolding export_behind kinds.export_behind
bare_export = bare_bind _ bare_names (λ xs. bare_bind _ (bare_take _) (λ t. bare_pure _ refl))

bare_entry : Bares forget_entry entry_behind kinds.entry_behind
unfolding entry_behind kinds.entry_behind
bare_entry = bare_bind _ (bare_take _) (λ x. bare_bind _ bare_formals (λ gs. bare_bind _ (bare_take _) (λ t. bare_pure _ refl)))

bare_type_word : Bares (λ b. b) type_word kinds.type_word
unfolding type_word kinds.type_word
bare_type_word = bare_branch _ _ (λ t. bare_pure _ refl) (bare_pure _ refl)

bare_params : Bares bare params kinds.params
unfolding params kinds.params
bare_params = bare_branch _ _ (λ t. bare_bind _ bare_names (λ xs. bare_bind _ (bare_take _) (λ u. bare_pure _ refl))) (bare_pure _ refl)

bare_guarded_head : {e : Reader ExprTree} {q : KindReader ExprShape} → Bares forget_expr e q → Bares forget_head (guarded_head e) (kinds.guarded_head q)
unfolding guarded_head kinds.guarded_head
bare_guarded_head h =
    bare_bind _ (bare_take _)
    (λ t. bare_bind _ (bare_take _)
    (λ x. bare_bind _ bare_formals (λ gs. bare_bind _ (bare_take _) (λ u. bare_bind _ h (λ test. bare_bind _ (bare_take _) (λ v. bare_pure _ refl))))))

bare_ending : {s : Reader StmtTree} {o : KindReader StmtShape} → Bares forget_stmt s o → Bares forget_ending (ending s) (kinds.ending o)
unfolding ending kinds.ending
bare_ending k = bare_branch _ _ (λ t. bare_pure _ refl) (bare_bind _ (bare_body k) (λ b. bare_pure _ refl))

module _ {p : Home → Reader (List PartTree)} (p' : Home → KindReader (List PartShape)) (hp : (h : Home) → Bares (map forget_part) (p h) (p' h))
    {s : Reader StmtTree} {o : KindReader StmtShape} (k : Bares forget_stmt s o) where
  bare_sub : {head : Reader SubHead} {head' : KindReader kinds.SubHead} → Bares forget_head head head' →
      Bares forget_sub (sub_behind p s head) (kinds.sub_behind p' o head')
  unfolding sub_behind kinds.sub_behind
  bare_sub h = bare_bind _ h
      (λ a. bare_bind _ (hp _)
      (λ qs. bare_bind _ (bare_body k)
      (λ b. bare_bind _ (bare_take _) (λ t. bare_pure _ (ap (λ z. sub a.0.0 (map forget_group a.1) (forget_kind a.2) z (forget_body b)) (bare_parts_of qs))))))

  bare_module : (own : Home) → Bares forget_module (module_behind p s own) (kinds.module_behind p' o own)
  unfolding module_behind kinds.module_behind
  bare_module own = bare_bind _ (bare_take _) (λ x. bare_bind _ (bare_take _) (λ t. bare_bind _ (bare_many _ _ (λ u. bare_export))
      (λ es. bare_bind _ (hp own) (λ qs. bare_bind _ (bare_ending k) (λ b. bare_bind _ (bare_take _) (λ u.
      bare_pure _ (ap (λ z. the_module x.0 (map bare es) z (option_map forget_body b.0)) (bare_parts_of qs))))))))

  bare_process : Bares forget_process (process_behind p s) (kinds.process_behind p' o)
  unfolding process_behind kinds.process_behind
  bare_process = bare_bind _ bare_type_word
      (λ kind. bare_bind _ (bare_take _)
      (λ x. bare_bind _ bare_formals (λ gs. bare_bind _ (bare_take _) (λ t. bare_bind _ (bare_many _ _ (λ u. bare_entry))
      (λ ns. bare_bind _ (hp _) (λ qs. bare_bind _ (bare_body k) (λ b. bare_bind _ (bare_take _) (λ u.
      bare_pure _ (ap (λ z. process kind x.0 (map forget_group gs) (map forget_entry ns) z (forget_body b)) (bare_parts_of qs))))))))))

  bare_program_behind : (place : Place) → Bares forget_program (program_behind p s place) (kinds.program_behind p' o)
  unfolding program_behind kinds.program_behind
  bare_program_behind place =
      bare_bind _ (bare_take _)
      (λ x. bare_bind _ bare_params
      (λ xs. bare_bind _ (bare_take _) (λ t. bare_bind _ (hp _) (λ qs. bare_bind _ (bare_body k) (λ b. bare_bind _ (bare_take _) (λ u.
      bare_pure _ (ap (λ z. record { name = x.0; params = bare xs; parts = z; body = forget_body b }) (bare_parts_of qs))))))))

  bare_block_with : {e : Reader ExprTree} {q : KindReader ExprShape} → Bares forget_expr e q → (h : Home) →
      Bares forget_part (block_with p e s h) (kinds.block_with p' q o h)
  unfolding block_with kinds.block_with
  bare_block_with he h = bare_branch _ _ (λ t. bare_bind _ (bare_sub bare_procedure_head) (λ x. bare_pure _ refl)) (
      bare_branch _ _ (λ t. bare_bind _ (bare_sub bare_function_head) (λ x. bare_pure _ refl)) (
      bare_branch _ _ (λ t. bare_bind _ (bare_sub (bare_guarded_head he)) (λ x. bare_pure _ refl)) (
      bare_branch _ _ (λ t. bare_bind _ (bare_module _) (λ m. bare_pure _ refl)) (
      bare_branch _ _ (λ t. bare_bind _ (bare_module _) (λ m. bare_pure _ refl)) (
      bare_branch _ _ (λ t. bare_bind _ bare_process (λ q. bare_pure _ refl)) bare_stop)))))

bare_part_with : {t : Reader TypeTree} {q : KindReader TypeShape} {b : Reader PartTree} {b' : KindReader PartShape} → Bares forget_type t q →
    Bares forget_part b b' → Bares forget_part (part_with t b) (kinds.part_with q b')
unfolding part_with kinds.part_with
bare_part_with ht hb = bare_branch _ _ (λ u. bare_bind _ bare_const_items (λ items. bare_pure _ refl)) (
    bare_branch _ _ (λ u. bare_bind _ (bare_type_items ht) (λ items. bare_pure _ refl)) (
    bare_branch _ _ (λ u. bare_bind _ (bare_var_items ht) (λ vs. bare_pure _ (ap (λ z. vars z) (bare_vars vs)))) hb))

-- Whatever the number of levels.
bare_parts_at : (n : ℕ) (h : Home) → Bares (map forget_part) (parts_at n h) (kinds.parts_at n h)
unfolding parts_at kinds.parts_at
bare_parts_at zero h = bare_while _ (bare_part_with (bare_type_at zero) (bare_choose _ bare_stop_deep bare_stop))
bare_parts_at (suc n) h =
    bare_while _ (bare_part_with (bare_type_at (suc n)) (bare_block_with (kinds.parts_at n) (bare_parts_at n) (bare_stmt_at n) (bare_expr_at n) h))

bare_program_at : (n : ℕ) → Bares forget_program (program_at n) (kinds.program_at n)
unfolding program_at kinds.program_at
bare_program_at zero = bare_choose _ bare_stop_deep bare_stop
bare_program_at (suc n) = bare_bind _ (bare_take _) (λ t. bare_program_behind (kinds.parts_at n) (bare_parts_at n) (bare_stmt_at n) t.1)

bare_whole_at : (n : ℕ) → Bares forget_program (whole_at n) (kinds.whole_at n)
unfolding whole_at kinds.whole_at
bare_whole_at n = bare_bind _ (bare_program_at n) bare_finish

-- what a reading of tokens comes to is, but for places, what that of their kinds comes to
pub tokens_are_read : (ts : List Token) → bare_outcome (read_tokens ts) ≡ kinds.read_program (symbols ts)
unfolding read_tokens kinds.read_program
tokens_are_read ts = at (whole_at most_depth ts) ((bare_whole_at most_depth).gives ts)
  where
    at : (o : Outcome _) → bare_by forget_program o ≡ kinds.whole_at most_depth (symbols ts) → bare_outcome o ≡ kinds.whole_at most_depth (symbols ts)
    at (Ok p) e = e
    at (Err h) e = e
