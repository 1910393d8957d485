-- What lawful parts and programs write is read back.
use Rattle.std.proofs.Common.{◌≡◌, ℕ, zero, suc, List, [], ◌∷◌, ◌++◌, Bool, true, false, Option, Some, None, refl, sym, ap, subst, ◌∙◌, append_assoc}
use Rattle.std.proofs.Common.{append-nil}
use Rattle.pfc_base.specs.declared.tokens.Kind.TheVariants.{Word, Sign, Name}
use Rattle.pfc_base.specs.declared.word.TheConstants.{BEGIN, CONST, END, ENTRY, EXPORT, FUNCTION, GUARDED, MONITOR, PROCEDURE, PROCESS, PROGRAM, RESOURCE, TYPE}
use Rattle.pfc_base.specs.declared.word.TheConstants.{VAR, WHEN}
use Rattle.pfc_base.specs.declared.sign.TheConstants.{OPEN_PAREN, DOT, SEMICOLON, COLON}
use Rattle.pfc_tree.specs.Symbols.{Symbol, Text}
use Rattle.pfc_tree.specs.shapes.Exprs.{ExprShape}
use Rattle.pfc_tree.specs.shapes.Types.{GroupShape, TypeShape}
use Rattle.pfc_tree.specs.shapes.Stmts.{StmtShape, BodyShape, body}
use Rattle.pfc_tree.specs.shapes.Parts.{KindShape, EntryShape, PartShape, PartShapes, ModuleShape, ProgramShape, procedure, function, guarded, consts, types}
use Rattle.pfc_tree.specs.shapes.Parts.{vars, sub_part, monitor, resource, process_part, no_parts, more_parts, sub, the_module, process}
use Rattle.pfc_tree.specs.tokens.Exprs.{expr_tokens}
use Rattle.pfc_tree.specs.tokens.Types.{names_tokens, formals_tokens}
use Rattle.pfc_tree.specs.tokens.Stmts.{body_tokens}
use Rattle.pfc_tree.specs.tokens.Parts.{exports_tokens, entries_tokens, ending_tokens, many_tokens, part_tokens, parts_tokens, module_tokens, params_tokens}
use Rattle.pfc_tree.specs.tokens.Parts.{tokens_of}
use Rattle.pfc_tree.specs.lawful.Exprs.{IsLawfulExpr}
use Rattle.pfc_tree.specs.lawful.Types.{IsFilled, AreLawfulFormals}
use Rattle.pfc_tree.specs.lawful.Stmts.{IsLawfulBody}
use Rattle.pfc_tree.specs.lawful.Parts.{Home, of_program, of_resource, of_other, AreLawfulExports, AreLawfulEntries, IsLawfulEnding, IsLawfulPart}
use Rattle.pfc_tree.specs.lawful.Parts.{AreLawfulParts, IsLawfulModule, IsLawful}
use Rattle.pfc_tree.specs.depths.Exprs.{level, expr_depths}
use Rattle.pfc_tree.specs.depths.Stmts.{body_depths}
use Rattle.pfc_tree.specs.depths.Parts.{ending_depths, heading_depths, part_depths, parts_depths, module_depths, depths_of}
use Rattle.pfc_tree.proofs.depths.Parts.{part_even, program_even}
use Rattle.pfc_grammar.specs.Reading.{Reader, then_read, bind, stop, stop_deep, choose, many, finish}
use Rattle.pfc_grammar.specs.Heads.{as_word, as_sign, as_name, takes, is_word, begins_block, begins_part}
use Rattle.pfc_grammar.specs.grammar.Exprs.{expr_at}
use Rattle.pfc_grammar.specs.grammar.Types.{type_at, vars_of}
use Rattle.pfc_grammar.specs.grammar.Stmts.{stmt_at}
use Rattle.pfc_grammar.specs.grammar.Parts.{parts_of, SubHead, procedure_head, function_head, guarded_head, sub_behind, export_behind, ending, module_behind}
use Rattle.pfc_grammar.specs.grammar.Parts.{entry_behind, type_word, process_behind, block_with, part_with, parts_at, params, program_behind, program_at}
use Rattle.pfc_grammar.specs.grammar.Parts.{whole_at}
use Rattle.pfc_grammar.proofs.Lists.{flat, regroup4, regroup6}
use Rattle.pfc_grammar.proofs.Complete.{over, limited, limited_at, Complete, Skips, Lacks, Heads, Any, complete_pure, complete_less, complete_bind}
use Rattle.pfc_grammar.proofs.Complete.{complete_last, complete_take, complete_skip, complete_next, complete_up, complete_same, complete_value, skips}
use Rattle.pfc_grammar.proofs.CompleteLoops.{Run, run_end, WhileRun, while_end, while_item, complete_many, complete_while}
use Rattle.pfc_grammar.proofs.sound_rules.Parts.{export_tokens, exports_written, entry_tokens, entries_written}
use Rattle.pfc_grammar.proofs.complete_rules.Levels.{flat_bind, flat_item}
use Rattle.pfc_grammar.proofs.complete_rules.Exprs.{ReadsExprs, complete_expr_at, starts, complete_none}
use Rattle.pfc_grammar.proofs.complete_rules.Types.{vars_same, no_more_name, ReadsTypes, complete_names, complete_formals, complete_const_items}
use Rattle.pfc_grammar.proofs.complete_rules.Types.{complete_type_items, complete_var_items, complete_type_at}
use Rattle.pfc_grammar.proofs.complete_rules.Stmts.{ReadsStmts, complete_body, complete_stmt_at}

abbrev parts_list : PartShapes → List PartShape
parts_list no_parts = []
parts_list (more_parts q qs) = q ∷ parts_list qs

parts_same : (qs : PartShapes) → parts_of (parts_list qs) ≡ qs
parts_same no_parts = refl
parts_same (more_parts q qs) = ap (λ z. more_parts q z) (parts_same qs)

-- What may follow parts.
abbrev pub PartsEnd : Home → List Symbol → Type 0
PartsEnd h rest = Lacks (begins_part h) rest × no_more_name rest

begin_ends : (h : Home) → begins_part h (Word BEGIN) ≡ false
begin_ends of_program = refl
begin_ends of_resource = refl
begin_ends of_other = refl

end_ends : (h : Home) → begins_part h (Word END) ≡ false
end_ends of_program = refl
end_ends of_resource = refl
end_ends of_other = refl

abbrev pub ReadsParts : ℕ → (Home → Reader (List PartShape)) → Type 0
ReadsParts n p = (h : Home) (qs : PartShapes) → AreLawfulParts h qs → Complete n (p h) (parts_tokens qs) (parts_depths qs) (parts_list qs) (PartsEnd h)

-- Headings, behind their first words.
complete_procedure_head : (n : ℕ) (x : Text) (gs : List GroupShape) → AreLawfulFormals gs →
    Complete n procedure_head (Name x ∷ (formals_tokens gs ++ (Sign SEMICOLON ∷ []))) (0 ∷ (level (formals_tokens gs) ++ (0 ∷ []))) (x, gs, procedure) Any
unfolding procedure_head
complete_procedure_head n x gs l =
    complete_next _ _ x refl (complete_bind _ (complete_formals n gs l) (λ rest c. refl) (complete_next _ _ tt refl complete_pure))

complete_function_head : (n : ℕ) (x r : Text) (gs : List GroupShape) → AreLawfulFormals gs →
    Complete n function_head (Name x ∷ (formals_tokens gs ++ (Sign COLON ∷ Name r ∷ Sign SEMICOLON ∷ [])))
    (0 ∷ (level (formals_tokens gs) ++ (0 ∷ 0 ∷ 0 ∷ []))) (x, gs, function r) Any
unfolding function_head
complete_function_head n x r gs l =
    complete_next _ _ x refl (complete_bind _ (complete_formals n gs l) (λ rest c. refl)
    (complete_next _ _ tt refl (complete_next _ _ r refl (complete_next _ _ tt refl complete_pure))))

complete_guarded_head : (n : ℕ) (e : Reader ExprShape) → ReadsExprs n e →
    (x : Text) (gs : List GroupShape) (c : ExprShape) → AreLawfulFormals gs → IsLawfulExpr c →
    Complete n (guarded_head e) (Word PROCEDURE ∷ Name x ∷ ((formals_tokens gs ++ (Word WHEN ∷ expr_tokens c)) ++ (Sign SEMICOLON ∷ [])))
    (0 ∷ 0 ∷ ((level (formals_tokens gs) ++ (0 ∷ expr_depths c)) ++ (0 ∷ []))) (x, gs, guarded c) Any
unfolding guarded_head
complete_guarded_head n e he x gs c l m =
    complete_same (ap (λ z. Word PROCEDURE ∷ Name x ∷ z) (sym (append_assoc (formals_tokens gs) (Word WHEN ∷ expr_tokens c) (Sign SEMICOLON ∷ []))))
    (ap (λ z. 0 ∷ 0 ∷ z) (sym (append_assoc (level (formals_tokens gs)) (0 ∷ expr_depths c) (0 ∷ [])))) refl
    (complete_next _ _ tt refl (complete_next _ _ x refl (complete_bind _ (complete_formals n gs l) (λ rest k. refl)
    (complete_next _ _ tt refl (complete_bind _ (he c m) (λ rest k. refl) (complete_next _ _ tt refl complete_pure))))))

complete_type_word : (n : ℕ) (b : Bool) → Complete n type_word (many_tokens b) (level (many_tokens b)) b (λ rest. Skips (as_word TYPE) rest)
unfolding type_word
complete_type_word n true = complete_take _ _ _ tt refl complete_pure
complete_type_word n false = complete_skip _ _ (λ rest c. c) complete_pure

-- Exports and entries.
abbrev no_word : ℕ → List Symbol → Type 0
no_word w rest = Lacks (is_word w) rest

complete_export : (n : ℕ) (xs : List Text) → IsFilled xs →
    Complete n export_behind (names_tokens xs ++ (Sign SEMICOLON ∷ [])) (level (names_tokens xs ++ (Sign SEMICOLON ∷ []))) xs Any
unfolding export_behind
complete_export n xs h = flat_bind _ (complete_names n xs h) (λ rest c. refl) (complete_next _ _ tt refl complete_pure)

run_exports : (n : ℕ) (es : List (List Text)) → AreLawfulExports es →
    Run n (as_word EXPORT) (λ u. export_behind) (no_word EXPORT) (flat export_tokens es) (level (flat export_tokens es)) es
run_exports n [] l = run_end (λ rest c. skips (as_word EXPORT) _ (λ s q. q) rest c)
run_exports n (xs ∷ es) l = flat_item tt refl (complete_export n xs l.0) (λ rest c. tt) (run_exports n es l.1)

complete_exports : (n : ℕ) (es : List (List Text)) → AreLawfulExports es → Complete n (many (as_word EXPORT) (λ u. export_behind)) (exports_tokens es)
    (level (exports_tokens es)) es (no_word EXPORT)
complete_exports n es l = complete_same (sym (exports_written es)) (ap level (sym (exports_written es))) refl (complete_many (run_exports n es l))

complete_entry : (n : ℕ) (x : Text) (gs : List GroupShape) → AreLawfulFormals gs →
    Complete n entry_behind (Name x ∷ (formals_tokens gs ++ (Sign SEMICOLON ∷ []))) (level (Name x ∷ (formals_tokens gs ++ (Sign SEMICOLON ∷ []))))
    (record { name = x; formals = gs }) Any
unfolding entry_behind
complete_entry n x gs l = complete_next _ _ x refl (flat_bind _ (complete_formals n gs l) (λ rest c. refl) (complete_next _ _ tt refl complete_pure))

run_entries : (n : ℕ) (ns : List EntryShape) → AreLawfulEntries ns →
    Run n (as_word ENTRY) (λ u. entry_behind) (no_word ENTRY) (flat entry_tokens ns) (level (flat entry_tokens ns)) ns
run_entries n [] l = run_end (λ rest c. skips (as_word ENTRY) _ (λ s q. q) rest c)
run_entries n (m ∷ ns) l = flat_item tt refl (complete_entry n m.name m.formals l.0) (λ rest c. tt) (run_entries n ns l.1)

complete_entries : (n : ℕ) (ns : List EntryShape) → AreLawfulEntries ns → Complete n (many (as_word ENTRY) (λ u. entry_behind)) (entries_tokens ns)
    (level (entries_tokens ns)) ns (no_word ENTRY)
complete_entries n ns l = complete_same (sym (entries_written ns)) (ap level (sym (entries_written ns))) refl (complete_many (run_entries n ns l))

-- a part begins with a word of its own: with none that stands before the parts
part_lacks : (w : ℕ) → is_word w (Word CONST) ≡ false → is_word w (Word TYPE) ≡ false → is_word w (Word VAR) ≡ false → is_word w (Word PROCEDURE) ≡ false →
    is_word w (Word FUNCTION) ≡ false → is_word w (Word GUARDED) ≡ false → is_word w (Word MONITOR) ≡ false →
    is_word w (Word RESOURCE) ≡ false → is_word w (Word PROCESS) ≡ false →
    (q : PartShape) (l : List Symbol) → Lacks (is_word w) (part_tokens q ++ l)
part_lacks w c t v p f g m r k (consts is) l = c
part_lacks w c t v p f g m r k (types is) l = t
part_lacks w c t v p f g m r k (vars vs) l = v
part_lacks w c t v p f g m r k (sub_part (sub x gs procedure qs b)) l = p
part_lacks w c t v p f g m r k (sub_part (sub x gs (function y) qs b)) l = f
part_lacks w c t v p f g m r k (sub_part (sub x gs (guarded e) qs b)) l = g
part_lacks w c t v p f g m r k (monitor y) l = m
part_lacks w c t v p f g m r k (resource y) l = r
part_lacks w c t v p f g m r k (process_part (process b x gs ns qs y)) l = k

parts_lack : (w : ℕ) → ((q : PartShape) (l : List Symbol) → Lacks (is_word w) (part_tokens q ++ l)) → (qs : PartShapes) (l : List Symbol) →
    Lacks (is_word w) l → Lacks (is_word w) (parts_tokens qs ++ l)
parts_lack w h no_parts l c = c
parts_lack w h (more_parts q qs) l c = subst (Lacks (is_word w)) (sym (append_assoc (part_tokens q) (parts_tokens qs) l)) (h q (parts_tokens qs ++ l))

no_export : (qs : PartShapes) (l : List Symbol) → Lacks (is_word EXPORT) l → Lacks (is_word EXPORT) (parts_tokens qs ++ l)
no_export = parts_lack EXPORT (part_lacks EXPORT refl refl refl refl refl refl refl refl refl)

no_entry : (qs : PartShapes) (l : List Symbol) → Lacks (is_word ENTRY) l → Lacks (is_word ENTRY) (parts_tokens qs ++ l)
no_entry = parts_lack ENTRY (part_lacks ENTRY refl refl refl refl refl refl refl refl refl)

body_first : (b : BodyShape) (l : List Symbol) (p : Symbol → Bool) → p (Word BEGIN) ≡ false → Lacks p (body_tokens b ++ l)
body_first (body ss) l p h = h

-- a part that is a block
abbrev pub IsBlock : PartShape → Type 0
IsBlock (consts is) = ⊥
IsBlock (types is) = ⊥
IsBlock (vars vs) = ⊥
IsBlock (sub_part x) = Unit {0}
IsBlock (monitor m) = Unit {0}
IsBlock (resource m) = Unit {0}
IsBlock (process_part q) = Unit {0}

-- With readers of expressions, statements and parts.
module _ (n : ℕ) (p : Home → Reader (List PartShape)) (hp : ReadsParts n p) (e : Reader ExprShape) (he : ReadsExprs n e)
    (s : Reader StmtShape) (hs : ReadsStmts n s) where
  body_ends : (h : Home) (b : BodyShape) (l : List Symbol) → PartsEnd h (body_tokens b ++ l)
  body_ends h b l = (body_first b l (begins_part h) (begin_ends h), body_first b l (λ v. takes (as_name v)) refl)

  complete_sub_behind : (head : Reader SubHead) (ta : List Symbol) (ma : List ℕ) (x : Text) (gs : List GroupShape) (k : KindShape) →
      Complete n head ta ma (x, gs, k) Any → (qs : PartShapes) (b : BodyShape) → AreLawfulParts of_other qs → IsLawfulBody b →
      Complete n (sub_behind p s head) (((ta ++ parts_tokens qs) ++ body_tokens b) ++ (Sign SEMICOLON ∷ []))
      (((ma ++ parts_depths qs) ++ body_depths b) ++ (0 ∷ [])) (sub x gs k qs b) Any
  unfolding sub_behind
  complete_sub_behind head ta ma x gs k hh qs b l m = complete_same (sym (regroup4 ta (parts_tokens qs) (body_tokens b) (Sign SEMICOLON ∷ [])))
      (sym (regroup4 ma (parts_depths qs) (body_depths b) (0 ∷ []))) (ap (λ z. sub x gs k z b) (parts_same qs))
      (complete_bind _ hh (λ rest c. tt)
      (complete_bind _ (hp of_other qs l) (λ rest c. subst (PartsEnd of_other) (sym (append_assoc (body_tokens b) (Sign SEMICOLON ∷ []) rest))
      (body_ends of_other b (Sign SEMICOLON ∷ rest))) (complete_bind _ (complete_body n e he s hs b m) (λ rest c. tt)
      (complete_next _ _ tt refl complete_pure))))

  complete_ending : (b : Option BodyShape) → IsLawfulEnding b → Complete n (ending s) (ending_tokens b) (ending_depths b) b Any
  unfolding ending
  complete_ending None l = complete_take _ _ _ tt refl complete_pure
  complete_ending (Some b) l = complete_skip _ _ (λ rest c. no_end b rest) (complete_last (λ z. Some z) (complete_body n e he s hs b l) (λ rest c. c))
    where
      no_end : (b' : BodyShape) (rest : List Symbol) → Skips (as_word END) (body_tokens b' ++ rest)
      no_end (body ss) rest = refl

  ending_ends : (h : Home) (b : Option BodyShape) (l : List Symbol) → PartsEnd h (ending_tokens b ++ l)
  ending_ends h None l = (end_ends h, refl)
  ending_ends h (Some b) l = body_ends h b l

  ending_no_export : (b : Option BodyShape) (l : List Symbol) → Lacks (is_word EXPORT) (ending_tokens b ++ l)
  ending_no_export None l = refl
  ending_no_export (Some (body ss)) l = refl

  complete_module : (own : Home) (m : ModuleShape) → IsLawfulModule own m → Complete n (module_behind p s own) (module_tokens m) (module_depths m) m Any
  unfolding module_behind
  complete_module own (the_module x es qs b) l = complete_same
      (ap (λ z. Name x ∷ Sign SEMICOLON ∷ z) (sym (regroup4 (exports_tokens es) (parts_tokens qs) (ending_tokens b) (Sign SEMICOLON ∷ []))))
      (ap (λ z. 0 ∷ 0 ∷ z) (sym (regroup4 (level (exports_tokens es)) (parts_depths qs) (ending_depths b) (0 ∷ []))))
      (ap (λ z. the_module x es z b) (parts_same qs))
      (complete_next _ _ x refl (complete_next _ _ tt refl (complete_bind _ (complete_exports n es l.0)
      (λ rest c. subst (Lacks (is_word EXPORT)) (sym (append_assoc (parts_tokens qs) (ending_tokens b ++ (Sign SEMICOLON ∷ [])) rest ∙
      ap (λ z. parts_tokens qs ++ z) (append_assoc (ending_tokens b) (Sign SEMICOLON ∷ []) rest)))
      (no_export qs (ending_tokens b ++ (Sign SEMICOLON ∷ rest)) (ending_no_export b (Sign SEMICOLON ∷ rest))))
      (complete_bind _ (hp own qs l.1) (λ rest c. subst (PartsEnd own) (sym (append_assoc (ending_tokens b) (Sign SEMICOLON ∷ []) rest))
      (ending_ends own b (Sign SEMICOLON ∷ rest)))
      (complete_bind _ (complete_ending b l.2) (λ rest c. tt) (complete_next _ _ tt refl complete_pure))))))

  complete_process : (kind : Bool) (x : Text) (gs : List GroupShape) (ns : List EntryShape) (qs : PartShapes) (b : BodyShape) → AreLawfulFormals gs →
      AreLawfulEntries ns → AreLawfulParts of_other qs → IsLawfulBody b →
      Complete n (process_behind p s)
      (many_tokens kind ++ (Name x ∷
      (formals_tokens gs ++ (Sign SEMICOLON ∷ (entries_tokens ns ++ (parts_tokens qs ++ (body_tokens b ++ (Sign SEMICOLON ∷ []))))))))
      (level (many_tokens kind) ++ (0 ∷ (level (formals_tokens gs) ++ (0 ∷ (level (entries_tokens ns) ++ (parts_depths qs ++ (body_depths b ++ (0 ∷ []))))))))
      (process kind x gs ns qs b) Any
  unfolding process_behind
  complete_process kind x gs ns qs b l m o r = complete_value (ap (λ z. process kind x gs ns z b) (parts_same qs))
      (complete_bind _ (complete_type_word n kind) (λ rest c. refl) (complete_next _ _ x refl (complete_bind _ (complete_formals n gs l) (λ rest c. refl)
      (complete_next _ _ tt refl (complete_bind _ (complete_entries n ns m)
      (λ rest c. subst (Lacks (is_word ENTRY)) (sym (append_assoc (parts_tokens qs) (body_tokens b ++ (Sign SEMICOLON ∷ [])) rest ∙
      ap (λ z. parts_tokens qs ++ z) (append_assoc (body_tokens b) (Sign SEMICOLON ∷ []) rest))) (no_entry qs (body_tokens b ++ (Sign SEMICOLON ∷ rest))
      (body_first b (Sign SEMICOLON ∷ rest) (is_word ENTRY) refl)))
      (complete_bind _ (hp of_other qs o) (λ rest c. subst (PartsEnd of_other) (sym (append_assoc (body_tokens b) (Sign SEMICOLON ∷ []) rest))
      (body_ends of_other b (Sign SEMICOLON ∷ rest)))
      (complete_bind _ (complete_body n e he s hs b r) (λ rest c. tt) (complete_next _ _ tt refl complete_pure))))))))

  complete_block : (h : Home) (q : PartShape) → IsBlock q → IsLawfulPart h q → Complete (suc n) (block_with p e s h) (part_tokens q) (part_depths q) q Any
  unfolding block_with
  complete_block h (consts is) k l = absurd k
  complete_block h (types is) k l = absurd k
  complete_block h (vars vs) k l = absurd k
  complete_block h (sub_part (sub x gs procedure qs b)) k l =
      complete_up (complete_take _ _ _ tt refl
      (complete_last (λ z. sub_part z) (complete_sub_behind procedure_head (Name x ∷ (formals_tokens gs ++ (Sign SEMICOLON ∷ [])))
      (0 ∷ (level (formals_tokens gs) ++ (0 ∷ []))) x gs procedure (complete_procedure_head n x gs l.0) qs b l.2 l.3) (λ rest c. c)))
  complete_block h (sub_part (sub x gs (function r) qs b)) k l =
      complete_up (complete_skip _ _ (λ rest c. refl)
      (complete_take _ _ _ tt refl
      (complete_last (λ z. sub_part z) (complete_sub_behind function_head (Name x ∷ (formals_tokens gs ++ (Sign COLON ∷ Name r ∷ Sign SEMICOLON ∷ [])))
      (0 ∷ (level (formals_tokens gs) ++ (0 ∷ 0 ∷ 0 ∷ []))) x gs (function r) (complete_function_head n x r gs l.0) qs b l.2 l.3) (λ rest c. c))))
  complete_block of_program (sub_part (sub x gs (guarded c) qs b)) k l = absurd l.1.0
  complete_block of_other (sub_part (sub x gs (guarded c) qs b)) k l = absurd l.1.0
  complete_block of_resource (sub_part (sub x gs (guarded c) qs b)) k l =
      complete_up (complete_skip _ _ (λ rest c. refl) (complete_skip _ _ (λ rest c. refl) (complete_take _ _ _ tt refl (complete_last (λ z. sub_part z)
      (complete_sub_behind (guarded_head e) (Word PROCEDURE ∷ Name x ∷ ((formals_tokens gs ++ (Word WHEN ∷ expr_tokens c)) ++ (Sign SEMICOLON ∷ [])))
      (0 ∷ 0 ∷ ((level (formals_tokens gs) ++ (0 ∷ expr_depths c)) ++ (0 ∷ []))) x gs (guarded c)
      (complete_guarded_head n e he x gs c l.0 l.1.1) qs b l.2 l.3) (λ rest c. c)))))
  complete_block of_resource (monitor m) k l = absurd l.0
  complete_block of_other (monitor m) k l = absurd l.0
  complete_block of_program (monitor m) k l =
      complete_up (complete_skip _ _ (λ rest c. refl)
      (complete_skip _ _ (λ rest c. refl)
      (complete_skip _ _ (λ rest c. refl) (complete_take _ _ _ tt refl (complete_last (λ z. monitor z) (complete_module of_other m l.1) (λ rest c. c))))))
  complete_block of_resource (resource m) k l = absurd l.0
  complete_block of_other (resource m) k l = absurd l.0
  complete_block of_program (resource m) k l =
      complete_up (complete_skip _ _ (λ rest c. refl)
      (complete_skip _ _ (λ rest c. refl)
      (complete_skip _ _ (λ rest c. refl)
      (complete_skip _ _ (λ rest c. refl) (complete_take _ _ _ tt refl (complete_last (λ z. resource z) (complete_module of_resource m l.1) (λ rest c. c)))))))
  complete_block of_resource (process_part q) k l = absurd l.0
  complete_block of_other (process_part q) k l = absurd l.0
  complete_block of_program (process_part (process m x gs ns qs b)) k l = complete_up (complete_same
      (sym (regroup6 (Word PROCESS ∷ many_tokens m) (Name x ∷ formals_tokens gs) (Sign SEMICOLON ∷ entries_tokens ns) (parts_tokens qs)
      (body_tokens b) (Sign SEMICOLON ∷ [])))
      (sym (regroup6 (0 ∷ level (many_tokens m)) (0 ∷ level (formals_tokens gs)) (0 ∷ level (entries_tokens ns))
      (parts_depths qs) (body_depths b) (0 ∷ []))) refl
      (complete_skip _ _ (λ rest c. refl)
      (complete_skip _ _ (λ rest c. refl)
      (complete_skip _ _ (λ rest c. refl)
      (complete_skip _ _ (λ rest c. refl)
      (complete_skip _ _ (λ rest c. refl)
      (complete_take _ _ _ tt refl (complete_last (λ z. process_part z) (complete_process m x gs ns qs b l.1.0 l.1.1 l.1.2 l.1.3) (λ rest c. c)))))))))

-- One part, by a reader of blocks.
abbrev ReadsBlocks : ℕ → Home → Reader PartShape → Type 0
ReadsBlocks n h b = (q : PartShape) → IsBlock q → IsLawfulPart h q → Complete n b (part_tokens q) (part_depths q) q Any

complete_part : (n : ℕ) (h : Home) (t : Reader TypeShape) → ReadsTypes n t → (b : Reader PartShape) → ReadsBlocks n h b → (q : PartShape) → IsLawfulPart h q →
    Complete n (part_with t b) (part_tokens q) (part_depths q) q no_more_name
unfolding part_with
complete_part n h t ht b hb (consts is) l = complete_take _ _ _ tt refl (complete_last (λ z. consts z) (complete_const_items n is l.0 l.1) (λ rest c. c))
complete_part n h t ht b hb (types is) l =
    complete_skip _ _ (λ rest c. refl) (complete_take _ _ _ tt refl (complete_last (λ z. types z) (complete_type_items n t ht is l.0 l.1) (λ rest c. c)))
complete_part n h t ht b hb (vars vs) l =
    complete_value (ap vars (vars_same vs))
    (complete_skip _ _ (λ rest c. refl)
    (complete_skip _ _ (λ rest c. refl) (complete_take _ _ _ tt refl (complete_last (λ z. vars (vars_of z)) (complete_var_items n t ht vs l) (λ rest c. c)))))
complete_part n h t ht b hb (sub_part (sub x gs procedure qs c)) l =
    complete_skip _ _ (λ rest c. refl)
    (complete_skip _ _ (λ rest c. refl) (complete_skip _ _ (λ rest c. refl) (complete_less (λ rest c. tt) (hb (sub_part (sub x gs procedure qs c)) tt l))))
complete_part n h t ht b hb (sub_part (sub x gs (function r) qs c)) l =
    complete_skip _ _ (λ rest c. refl)
    (complete_skip _ _ (λ rest c. refl) (complete_skip _ _ (λ rest c. refl) (complete_less (λ rest c. tt) (hb (sub_part (sub x gs (function r) qs c)) tt l))))
complete_part n h t ht b hb (sub_part (sub x gs (guarded g) qs c)) l =
    complete_skip _ _ (λ rest c. refl)
    (complete_skip _ _ (λ rest c. refl) (complete_skip _ _ (λ rest c. refl) (complete_less (λ rest c. tt) (hb (sub_part (sub x gs (guarded g) qs c)) tt l))))
complete_part n h t ht b hb (monitor m) l =
    complete_skip _ _ (λ rest c. refl)
    (complete_skip _ _ (λ rest c. refl) (complete_skip _ _ (λ rest c. refl) (complete_less (λ rest c. tt) (hb (monitor m) tt l))))
complete_part n h t ht b hb (resource m) l =
    complete_skip _ _ (λ rest c. refl)
    (complete_skip _ _ (λ rest c. refl) (complete_skip _ _ (λ rest c. refl) (complete_less (λ rest c. tt) (hb (resource m) tt l))))
complete_part n h t ht b hb (process_part (process m x gs ns qs c)) l =
    complete_skip _ _ (λ rest c. refl)
    (complete_skip _ _ (λ rest c. refl) (complete_skip _ _ (λ rest c. refl) (complete_less (λ rest c. tt) (hb (process_part (process m x gs ns qs c)) tt l))))

-- a part begins as a part of its home does, and with no name
part_heads : (h : Home) (q : PartShape) → IsLawfulPart h q → (l : List Symbol) → Heads (begins_part h) (part_tokens q ++ l)
part_heads h (consts is) k l = refl
part_heads h (types is) k l = refl
part_heads h (vars vs) k l = refl
part_heads h (sub_part (sub x gs procedure qs b)) k l = refl
part_heads h (sub_part (sub x gs (function r) qs b)) k l = refl
part_heads of_program (sub_part (sub x gs (guarded c) qs b)) k l = absurd k.1.0
part_heads of_resource (sub_part (sub x gs (guarded c) qs b)) k l = refl
part_heads of_other (sub_part (sub x gs (guarded c) qs b)) k l = absurd k.1.0
part_heads of_program (monitor m) k l = refl
part_heads of_resource (monitor m) k l = absurd k.0
part_heads of_other (monitor m) k l = absurd k.0
part_heads of_program (resource m) k l = refl
part_heads of_resource (resource m) k l = absurd k.0
part_heads of_other (resource m) k l = absurd k.0
part_heads of_program (process_part (process m x gs ns qs b)) k l = refl
part_heads of_resource (process_part q) k l = absurd k.0
part_heads of_other (process_part q) k l = absurd k.0

part_no_name : (q : PartShape) (l : List Symbol) → no_more_name (part_tokens q ++ l)
part_no_name (consts is) l = refl
part_no_name (types is) l = refl
part_no_name (vars vs) l = refl
part_no_name (sub_part (sub x gs procedure qs b)) l = refl
part_no_name (sub_part (sub x gs (function r) qs b)) l = refl
part_no_name (sub_part (sub x gs (guarded c) qs b)) l = refl
part_no_name (monitor m) l = refl
part_no_name (resource m) l = refl
part_no_name (process_part (process m x gs ns qs b)) l = refl

follow_parts : (h : Home) (qs : PartShapes) (rest : List Symbol) → PartsEnd h rest → no_more_name (parts_tokens qs ++ rest)
follow_parts h no_parts rest c = c.1
follow_parts h (more_parts q qs) rest c = subst no_more_name (sym (append_assoc (part_tokens q) (parts_tokens qs) rest))
    (part_no_name q (parts_tokens qs ++ rest))

run_parts : (n : ℕ) (h : Home) (r : Reader PartShape) → ((q : PartShape) → IsLawfulPart h q → Complete n r (part_tokens q) (part_depths q) q no_more_name) →
    (qs : PartShapes) → AreLawfulParts h qs → WhileRun n (begins_part h) r (PartsEnd h) (parts_tokens qs) (parts_depths qs) (parts_list qs)
run_parts n h r hr no_parts l = while_end (λ rest c. c.0)
run_parts n h r hr (more_parts q qs) l = while_item (part_heads h q l.0) (hr q l.0) (follow_parts h qs) (run_parts n h r hr qs l.1)

-- Whatever the number of levels.
deep_block : (h : Home) (q : PartShape) → IsBlock q → IsLawfulPart h q →
    Complete 0 (choose (begins_block h) stop_deep stop) (part_tokens q) (part_depths q) q Any
deep_block h (consts is) k l = absurd k
deep_block h (types is) k l = absurd k
deep_block h (vars vs) k l = absurd k
deep_block h (sub_part (sub x gs procedure qs b)) k l = complete_none (begins_block h) stop (part_tokens (sub_part (sub x gs procedure qs b)))
    (((heading_depths gs procedure ++ parts_depths qs) ++ body_depths b) ++ (0 ∷ [])) (starts refl) (part_even (sub_part (sub x gs procedure qs b)))
deep_block h (sub_part (sub x gs (function r) qs b)) k l = complete_none (begins_block h) stop (part_tokens (sub_part (sub x gs (function r) qs b)))
    (((heading_depths gs (function r) ++ parts_depths qs) ++ body_depths b) ++ (0 ∷ [])) (starts refl) (part_even (sub_part (sub x gs (function r) qs b)))
deep_block of_program (sub_part (sub x gs (guarded c) qs b)) k l = absurd l.1.0
deep_block of_other (sub_part (sub x gs (guarded c) qs b)) k l = absurd l.1.0
deep_block of_resource (sub_part (sub x gs (guarded c) qs b)) k l =
    complete_none (begins_block of_resource) stop (part_tokens (sub_part (sub x gs (guarded c) qs b)))
    (((heading_depths gs (guarded c) ++ parts_depths qs) ++ body_depths b) ++ (0 ∷ [])) (starts refl) (part_even (sub_part (sub x gs (guarded c) qs b)))
deep_block of_resource (monitor m) k l = absurd l.0
deep_block of_other (monitor m) k l = absurd l.0
deep_block of_program (monitor m) k l = complete_none (begins_block of_program) stop (part_tokens (monitor m))
    (0 ∷ module_depths m) (starts refl) (part_even (monitor m))
deep_block of_resource (resource m) k l = absurd l.0
deep_block of_other (resource m) k l = absurd l.0
deep_block of_program (resource m) k l = complete_none (begins_block of_program) stop (part_tokens (resource m))
    (0 ∷ module_depths m) (starts refl) (part_even (resource m))
deep_block of_resource (process_part q) k l = absurd l.0
deep_block of_other (process_part q) k l = absurd l.0
deep_block of_program (process_part (process m x gs ns qs b)) k l =
    complete_none (begins_block of_program) stop (part_tokens (process_part (process m x gs ns qs b)))
    ((((((0 ∷ level (many_tokens m)) ++ (0 ∷ level (formals_tokens gs))) ++ (0 ∷ level (entries_tokens ns))) ++ parts_depths qs) ++ body_depths b) ++ (0 ∷ []))
    (starts refl) (part_even (process_part (process m x gs ns qs b)))

pub complete_parts_at : (n : ℕ) → ReadsParts n (parts_at n)
unfolding parts_at
complete_parts_at zero h qs l =
    complete_while (run_parts 0 h (part_with (type_at zero) (choose (begins_block h) stop_deep stop)) (complete_part 0 h (type_at zero) (complete_type_at zero)
    (choose (begins_block h) stop_deep stop) (deep_block h)) qs l)
complete_parts_at (suc n) h qs l = complete_while (run_parts (suc n) h (part_with (type_at (suc n)) (block_with (parts_at n) (expr_at n) (stmt_at n) h))
    (complete_part (suc n) h (type_at (suc n)) (complete_type_at (suc n)) (block_with (parts_at n) (expr_at n) (stmt_at n) h)
    (complete_block n (parts_at n) (complete_parts_at n) (expr_at n) (complete_expr_at n) (stmt_at n) (complete_stmt_at n) h)) qs l)

-- Programs.
complete_params : (n : ℕ) (xs : List Text) → Complete n params (params_tokens xs) (level (params_tokens xs)) xs (Lacks (λ s. takes (as_sign OPEN_PAREN s)))
unfolding params
complete_params n [] = complete_skip _ _ (λ rest c. skips (as_sign OPEN_PAREN) _ (λ s q. q) rest c) complete_pure
complete_params n (x ∷ xs) = complete_take _ _ _ tt refl (flat_bind _ (complete_names n (x ∷ xs) tt) (λ rest c. refl) (complete_next _ _ tt refl complete_pure))

complete_program_behind : (n : ℕ) (x : Text) (xs : List Text) (qs : PartShapes) (b : BodyShape) → AreLawfulParts of_program qs → IsLawfulBody b →
    Complete n (program_behind (parts_at n) (stmt_at n))
    (Name x ∷ (params_tokens xs ++ (Sign SEMICOLON ∷ (parts_tokens qs ++ (body_tokens b ++ (Sign DOT ∷ []))))))
    (0 ∷ (level (params_tokens xs) ++ (0 ∷ (parts_depths qs ++ (body_depths b ++ (0 ∷ [])))))) (record { name = x; params = xs; parts = qs; body = b }) Any
unfolding program_behind
complete_program_behind n x xs qs b l m = complete_value (ap (λ z. record { name = x; params = xs; parts = z; body = b }) (parts_same qs))
    (complete_next _ _ x refl (complete_bind _ (complete_params n xs) (λ rest c. refl)
    (complete_next _ _ tt refl (complete_bind _ (complete_parts_at n of_program qs l)
    (λ rest c. subst (PartsEnd of_program) (sym (append_assoc (body_tokens b) (Sign DOT ∷ []) rest))
    (body_first b (Sign DOT ∷ rest) (begins_part of_program) refl, body_first b (Sign DOT ∷ rest) (λ v. takes (as_name v)) refl))
    (complete_bind _ (complete_body n (expr_at n) (complete_expr_at n) (stmt_at n) (complete_stmt_at n) b m) (λ rest c. tt)
    (complete_next _ _ tt refl complete_pure))))))

pub complete_program_at : (n : ℕ) (t : ProgramShape) → IsLawful t → Complete n (program_at n) (tokens_of t) (depths_of t) t Any
unfolding program_at
complete_program_at zero t l =
    complete_none (is_word PROGRAM) stop (tokens_of t) ((((0 ∷ 0 ∷ level (params_tokens t.params)) ++ (0 ∷ parts_depths t.parts)) ++ body_depths t.body) ++
    (0 ∷ [])) (starts refl) (program_even t)
complete_program_at (suc n) t l = complete_up (complete_same
    (sym (regroup4 (Word PROGRAM ∷ Name t.name ∷ params_tokens t.params) (Sign SEMICOLON ∷ parts_tokens t.parts) (body_tokens t.body) (Sign DOT ∷ [])))
    (sym (regroup4 (0 ∷ 0 ∷ level (params_tokens t.params)) (0 ∷ parts_depths t.parts) (body_depths t.body) (0 ∷ []))) refl
    (complete_next _ _ tt refl (complete_program_behind n t.name t.params t.parts t.body l.0 l.1)))

-- a program that is written is read, as far as the levels go
pub whole_reads : (n : ℕ) (t : ProgramShape) → IsLawful t → whole_at n (tokens_of t) ≡ limited n (depths_of t) t []
unfolding whole_at bind finish
whole_reads n t l = ap (λ z. then_read (program_at n z) finish) (sym (append-nil (tokens_of t))) ∙
    ap (λ z. then_read z finish) ((complete_program_at n t l).reads [] tt) ∙ at (over n (depths_of t))
  where
    at : (k : ℕ) → then_read (limited_at k t []) finish ≡ limited_at k t []
    at zero = refl
    at (suc k) = refl
