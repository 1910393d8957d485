-- The places that a part or a program keeps are those of the tokens that it is read from.
use Rattle.std.proofs.Common.{◌≡◌, ℕ, zero, suc, List, [], ◌∷◌, ◌++◌, Some, Ok, refl, ap, subst, append-nil}
use Rattle.pfc_base.specs.declared.places.Place.{Place}
use Rattle.pfc_base.specs.declared.tokens.Token.{Token}
use Rattle.pfc_tree.specs.Symbols.{Text}
use Rattle.pfc_tree.specs.Grammar.{most_depth}
use Rattle.pfc_tree.specs.lawful.Parts.{Home}
use Rattle.pfc_tree.specs.trees.Exprs.{ExprTree}
use Rattle.pfc_tree.specs.trees.Types.{TypeTree}
use Rattle.pfc_tree.specs.trees.Stmts.{StmtTree, BodyTree, body}
use Rattle.pfc_tree.specs.trees.Parts.{EntryTree, PartTree, ProgramTree}
use Rattle.pfc_tree.specs.views.Parts.{parts_of}
use Rattle.pfc_tree.specs.kept.Exprs.{Step, here, next, AreKept, expr_trace}
use Rattle.pfc_tree.specs.kept.Types.{names_trace, comma_names_trace, flag_trace, formals_trace, type_trace}
use Rattle.pfc_tree.specs.kept.Stmts.{stmt_trace, stmts_trace, body_trace}
use Rattle.pfc_tree.specs.kept.Parts.{exports_trace, entries_trace, ending_trace, heading_trace, part_trace, parts_trace, sub_trace, module_trace}
use Rattle.pfc_tree.specs.kept.Parts.{process_trace, params_trace, trace_of, ArePlacesOf}
use Rattle.pfc_grammar.specs.placed.Reading.{Reader, finish}
use Rattle.pfc_grammar.specs.placed.Types.{names_behind, names}
use Rattle.pfc_grammar.specs.placed.Parts.{SubHead, procedure_head, function_head, guarded_head, sub_behind, export_behind, body_end, ending, module_behind}
use Rattle.pfc_grammar.specs.placed.Parts.{entry_behind, type_word, process_behind, block_with, part_with, parts_at, params, program_behind, program_at}
use Rattle.pfc_grammar.specs.placed.Parts.{whole_at, read_tokens}
use Rattle.pfc_grammar.proofs.placed_kept.Readers.{same_traces, Reaches, Leads, Traced, Leading, Keeps, Whole, led, keeps_pure, leads_pure, keeps_stop}
use Rattle.pfc_grammar.proofs.placed_kept.Readers.{keeps_stop_deep, keeps_bind, keeps_then, pass_branch, keep_branch, pass_then, keep_then, keeps_choose}
use Rattle.pfc_grammar.proofs.placed_kept.Readers.{keeps_take, keeps_made}
use Rattle.pfc_grammar.proofs.placed_kept.Loops.{pass_items, separate, leads_onto, keeps_many, keeps_while}
use Rattle.pfc_grammar.proofs.placed_kept.Exprs.{keeps_expr_at}
use Rattle.pfc_grammar.proofs.placed_kept.Types.{keeps_names, keeps_formals, keeps_const_items, keeps_type_items, keeps_var_items, keeps_type_at}
use Rattle.pfc_grammar.proofs.placed_kept.Stmts.{keeps_body, keeps_stmt_at}

-- What stands before the parts of a sub, behind its first word.
abbrev Heads : Reader SubHead → Type 0
Heads r = (F : List Step → List Step) → Keeps (λ steps. F (next ∷ steps)) (Leading (λ h steps. F (heading_trace h.1 h.2 h.0.1 ++ steps))) r

heads_procedure : Heads procedure_head
unfolding procedure_head
heads_procedure F = keep_then _ (λ x. keeps_then keeps_formals (λ gs. pass_then _ (λ t. leads_pure _ (λ steps. ap F (search same_traces depth 12)))))

heads_function : Heads function_head
unfolding function_head
heads_function F = keep_then _
    (λ x. keeps_then keeps_formals
    (λ gs. pass_then _ (λ t. keep_then _ (λ result. pass_then _ (λ u. leads_pure _ (λ steps. ap F (search same_traces depth 12)))))))

heads_guarded : {e : Reader ExprTree} → Whole expr_trace e → Heads (guarded_head e)
unfolding guarded_head
heads_guarded h F = pass_then _
    (λ t. keep_then _ (λ x. keeps_then keeps_formals
    (λ gs. keep_then _ (λ u. keeps_then h (λ test. pass_then _ (λ v. leads_pure _ (λ steps. ap F (search same_traces depth 12))))))))

-- an export and an entry, with their words and semicolons
abbrev export_trace : List (Text × Place) → List Step
export_trace xs = next ∷ (names_trace xs ++ (next ∷ []))

keeps_export : Keeps (λ steps. next ∷ steps) (Traced export_trace) export_behind
unfolding export_behind
keeps_export = keeps_then keeps_names (λ xs. pass_then _ (λ t. keeps_pure _ refl))

abbrev entry_trace : EntryTree → List Step
entry_trace n = next ∷ here n.place ∷ next ∷ (formals_trace n.formals ++ (next ∷ []))

keeps_entry : Keeps (λ steps. next ∷ steps) (Traced entry_trace) entry_behind
unfolding entry_behind
keeps_entry = keep_then _ (λ x. keeps_then keeps_formals (λ gs. pass_then _ (λ t. keeps_pure _ refl)))

keeps_type_word : Whole flag_trace type_word
unfolding type_word
keeps_type_word = pass_branch _ (λ t. keeps_pure _ refl) (keeps_pure _ refl)

-- The names between the brackets of a program, of which there is one, from the opening bracket on.
abbrev opened : List (Text × Place) → List Step → List Step
opened [] steps = []
opened (x ∷ xs) steps = next ∷ here x.1 ∷ next ∷ (comma_names_trace xs ++ steps)

leads_opened : Keeps (λ steps. next ∷ steps) (Leading opened) names
unfolding names names_behind
leads_opened = keep_then _ (λ x. leads_onto (λ y. next ∷ here y.1 ∷ next ∷ []) comma_names_trace (record { none = refl; more = λ y ys. refl }) _
    (separate (keeps_take _)) (x ∷ []) (λ items steps. refl))

keeps_params : Whole params_trace params
unfolding params
keeps_params = pass_branch _ (λ t. keeps_bind leads_opened (λ xs. pass_then _ (λ u. keeps_pure _ (closes xs)))) (keeps_pure _ refl)
  where
    closes : (xs : List (Text × Place)) → opened xs (next ∷ []) ≡ params_trace xs
    closes [] = refl
    closes (x ∷ xs) = search same_traces

-- a place that is kept twice
kept_twice : (a : List Step) (p : Place) (b : List Step) (ts rest : List Token) → AreKept (a ++ (here p ∷ b)) ts rest →
    AreKept (a ++ (here p ∷ here p ∷ b)) ts rest
kept_twice [] p b ts rest k = (k.0, k)
kept_twice (here q ∷ a) p b ts rest k = (k.0, kept_twice a p b ts rest k.1)
kept_twice (next ∷ a) p b [] rest k = k
kept_twice (next ∷ a) p b (t ∷ ts) rest k = kept_twice a p b ts rest k

module _ {s : Reader StmtTree} (k : Whole stmt_trace s) where
  keeps_ending : Whole (λ b. ending_trace b.0 b.1) (ending s)
  unfolding ending
  keeps_ending = keep_branch _ (λ t. keeps_pure _ refl) (keeps_made _ twice (keeps_body k))
    where
      twice : (b : BodyTree) (start rest : List Token) → AreKept (body_trace b) start rest → AreKept (ending_trace (Some b) (body_end b)) start rest
      twice (body ss first last) start rest w = kept_twice (here first ∷ next ∷ stmts_trace ss) last (next ∷ []) start rest w

  module _ {p : Home → Reader (List PartTree)} (hp : (h : Home) → Whole (λ qs. parts_trace (parts_of qs)) (p h)) where
    keeps_sub : {head : Reader SubHead} → Heads head → Keeps (λ steps. next ∷ steps) (Traced sub_trace) (sub_behind p s head)
    unfolding sub_behind
    keeps_sub h = keeps_bind (h (λ steps. steps))
        (λ a. keeps_then (hp _) (λ qs. keeps_then (keeps_body k) (λ b. pass_then _ (λ t. keeps_pure _ (search same_traces depth 12)))))

    keeps_module : (own : Home) → Whole module_trace (module_behind p s own)
    unfolding module_behind
    keeps_module own = keep_then _
        (λ x. pass_then _ (λ t. keeps_then (keeps_many export_trace exports_trace (record { none = refl; more = λ xs es. search same_traces }) _
        (pass_items (λ u. keeps_export))) (λ es.
        keeps_then (hp own) (λ qs. keeps_then keeps_ending (λ b. pass_then _ (λ u. keeps_pure _ (search same_traces depth 12)))))))

    keeps_process : Keeps (λ steps. next ∷ steps) (Traced process_trace) (process_behind p s)
    unfolding process_behind
    keeps_process = keeps_then keeps_type_word
        (λ kind. keep_then _ (λ x. keeps_then keeps_formals
        (λ gs. pass_then _ (λ t. keeps_then (keeps_many entry_trace entries_trace (record { none = refl; more = λ n ns. search same_traces depth 12 }) _
        (pass_items (λ u. keeps_entry))) (λ ns.
        keeps_then (hp _) (λ qs. keeps_then (keeps_body k) (λ b. pass_then _ (λ u. keeps_pure _ (search same_traces depth 14)))))))))

    keeps_program_behind : (place : Place) → Keeps (λ steps. here place ∷ next ∷ steps) (Traced trace_of) (program_behind p s place)
    unfolding program_behind
    keeps_program_behind place =
        keep_then _ (λ x. keeps_then keeps_params
        (λ xs. pass_then _ (λ t. keeps_then (hp _) (λ qs. keeps_then (keeps_body k) (λ b. pass_then _ (λ u. keeps_pure _ (search same_traces depth 12)))))))

    keeps_block_with : {e : Reader ExprTree} → Whole expr_trace e → (h : Home) → Whole part_trace (block_with p e s h)
    unfolding block_with
    keeps_block_with he h = pass_branch _ (λ t. keeps_made _ (λ x start rest w. w) (keeps_sub heads_procedure)) (
        pass_branch _ (λ t. keeps_made _ (λ x start rest w. w) (keeps_sub heads_function)) (
        pass_branch _ (λ t. keeps_made _ (λ x start rest w. w) (keeps_sub (heads_guarded he))) (
        pass_branch _ (λ t. keeps_then (keeps_module _) (λ m. keeps_pure _ (search same_traces))) (
        pass_branch _ (λ t. keeps_then (keeps_module _) (λ m. keeps_pure _ (search same_traces))) (
        pass_branch _ (λ t. keeps_made _ (λ x start rest w. w) keeps_process) keeps_stop)))))

keeps_part_with : {t : Reader TypeTree} {b : Reader PartTree} → Whole type_trace t → Whole part_trace b → Whole part_trace (part_with t b)
unfolding part_with
keeps_part_with ht hb = pass_branch _ (λ u. keeps_then keeps_const_items (λ items. keeps_pure _ (search same_traces))) (
    pass_branch _ (λ u. keeps_then (keeps_type_items ht) (λ items. keeps_pure _ (search same_traces))) (
    pass_branch _ (λ u. keeps_then (keeps_var_items ht) (λ vs. keeps_pure _ (search same_traces))) hb))

-- Whatever the number of levels.
keeps_parts_at : (n : ℕ) (h : Home) → Whole (λ qs. parts_trace (parts_of qs)) (parts_at n h)
unfolding parts_at
keeps_parts_at zero h = keeps_while part_trace _ (record { none = refl; more = λ q qs. refl }) _
    (keeps_part_with (keeps_type_at zero) (keeps_choose _ keeps_stop_deep keeps_stop))
keeps_parts_at (suc n) h = keeps_while part_trace _ (record { none = refl; more = λ q qs. refl }) _ (keeps_part_with (keeps_type_at (suc n))
    (keeps_block_with (keeps_stmt_at n) (keeps_parts_at n) (keeps_expr_at n) h))

keeps_program_at : (n : ℕ) → Whole trace_of (program_at n)
unfolding program_at
keeps_program_at zero = keeps_choose _ keeps_stop_deep keeps_stop
keeps_program_at (suc n) = keep_then _ (λ t. keeps_program_behind (keeps_stmt_at n) (keeps_parts_at n) t.1)

-- the places are those of all tokens
record Entire (x : ProgramTree) (start rest : List Token) : Type 0 where
  kept : ArePlacesOf x start

keeps_finish : (x : ProgramTree) → Keeps (λ steps. trace_of x ++ steps) Entire (finish x)
unfolding finish
keeps_finish x = record { reaches = go }
  where
    go : (start ts : List Token) → Leads (λ steps. trace_of x ++ steps) start ts → Reaches (λ y rest. Entire y start rest) (finish x ts)
    go start [] l = record { kept = subst (λ z. AreKept z start []) (append-nil (trace_of x)) (l [] [] refl) }
    go start (t ∷ ts) l = tt

keeps_whole_at : (n : ℕ) → Keeps (λ steps. steps) Entire (whole_at n)
unfolding whole_at
keeps_whole_at n = keeps_then (keeps_program_at n) keeps_finish

-- the places that a tree keeps which is read are the tokens'
pub places_are_kept : (tokens rest : List Token) (tree : ProgramTree) → read_tokens tokens ≡ Ok (tree, rest) → ArePlacesOf tree tokens
unfolding read_tokens
places_are_kept tokens rest tree e =
    let reached : Reaches (λ x left. Entire x tokens left) (Ok (tree, rest)) =
    subst (λ z. Reaches (λ x left. Entire x tokens left) z) e ((keeps_whole_at most_depth).reaches tokens tokens (led tokens)) in
    let entire : Entire tree tokens rest = reached in entire.kept
