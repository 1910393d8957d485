-- The readers of parts and programs read lawful ones.
use Rattle.std.proofs.Common.{◌≡◌, ℕ, zero, suc, ◌≤◌, List, [], ◌∷◌, ◌++◌, length, Bool, true, false, Some, None, refl, sym, ap, subst, ◌∙◌, append_assoc}
use Rattle.std.proofs.Common.{append-nil, arith}
use Rattle.pfc_base.specs.declared.tokens.Kind.TheVariants.{Word, Sign, Name, Literal}
use Rattle.pfc_base.specs.declared.word.TheConstants.{BEGIN, CONST, END, ENTRY, EXPORT, FUNCTION, GUARDED, MONITOR, PROCEDURE, PROCESS, PROGRAM, RESOURCE, TYPE}
use Rattle.pfc_base.specs.declared.word.TheConstants.{VAR, WHEN}
use Rattle.pfc_base.specs.declared.sign.TheConstants.{OPEN_PAREN, CLOSE_PAREN, DOT, SEMICOLON, COLON}
use Rattle.pfc_tree.specs.Symbols.{Symbol, Text}
use Rattle.pfc_tree.specs.shapes.Exprs.{ExprShape, literal}
use Rattle.pfc_tree.specs.shapes.Types.{TypeShape}
use Rattle.pfc_tree.specs.shapes.Stmts.{StmtShape, BodyShape, body, empty, no_stmts, more_stmts}
use Rattle.pfc_tree.specs.shapes.Parts.{EntryShape, PartShape, ProgramShape, procedure, function, guarded, consts, types, vars, sub_part, monitor, resource}
use Rattle.pfc_tree.specs.shapes.Parts.{process_part, no_parts, sub, the_module, process}
use Rattle.pfc_tree.specs.tokens.Exprs.{expr_tokens}
use Rattle.pfc_tree.specs.tokens.Types.{names_tokens, type_tokens, formals_tokens}
use Rattle.pfc_tree.specs.tokens.Stmts.{stmt_tokens, body_tokens}
use Rattle.pfc_tree.specs.tokens.Parts.{exports_tokens, entries_tokens, ending_tokens, many_tokens, heading_tokens, part_tokens, parts_tokens, sub_tokens}
use Rattle.pfc_tree.specs.tokens.Parts.{module_tokens, process_tokens, params_tokens, tokens_of}
use Rattle.pfc_tree.specs.lawful.Exprs.{IsLawfulExpr}
use Rattle.pfc_tree.specs.lawful.Types.{IsFilled, IsLawfulType, AreLawfulFormals}
use Rattle.pfc_tree.specs.lawful.Stmts.{IsLawfulStmt}
use Rattle.pfc_tree.specs.lawful.Parts.{Home, of_program, of_resource, of_other, HoldsModules, HoldsGuarded, IsLawfulKind, AreLawfulExports, AreLawfulEntries}
use Rattle.pfc_tree.specs.lawful.Parts.{IsLawfulEnding, IsLawfulPart, AreLawfulParts, IsLawfulSub, IsLawfulModule, IsLawfulProcess, IsLawful}
use Rattle.pfc_grammar.specs.Reading.{Reader, pure, bind, stop, stop_deep, choose, finish}
use Rattle.pfc_grammar.specs.Heads.{as_word_of_resource, as_word_of_program, is_word, begins_block, begins_part}
use Rattle.pfc_grammar.specs.grammar.Exprs.{expr_at}
use Rattle.pfc_grammar.specs.grammar.Types.{type_at, vars_of}
use Rattle.pfc_grammar.specs.grammar.Stmts.{stmt_at}
use Rattle.pfc_grammar.specs.grammar.Parts.{parts_of, SubHead, procedure_head, function_head, guarded_head, sub_behind, export_behind, ending, module_behind}
use Rattle.pfc_grammar.specs.grammar.Parts.{entry_behind, type_word, process_behind, block_with, part_with, parts_at, params, program_behind, program_at}
use Rattle.pfc_grammar.specs.grammar.Parts.{whole_at}
use Rattle.pfc_grammar.proofs.Lists.{Apart, none, or_else, flat, Each, regroup4, regroup6}
use Rattle.pfc_grammar.proofs.Sound.{When, Took, Halts, Sound, Goes, here, sound_pure, sound_stop, sound_any, sound_bind, sound_last, sound_branch, sound_level}
use Rattle.pfc_grammar.proofs.SoundLoops.{sound_bind_behind, sound_each, sound_many_while}
use Rattle.pfc_grammar.proofs.Heads.{word_is, word_of_resource_is, word_of_program_is, taken, word_was, sound_word, sound_sign, sound_name, sound_on_word}
use Rattle.pfc_grammar.proofs.Heads.{sound_on_sign}
use Rattle.pfc_grammar.proofs.sound_rules.Exprs.{free, is_or, expr_of, sound_expr_at}
use Rattle.pfc_grammar.proofs.sound_rules.Types.{const_items_written, const_items_lawful, type_items_written, type_items_lawful, vars_written, fields_lawful}
use Rattle.pfc_grammar.proofs.sound_rules.Types.{sound_names, sound_formals, sound_const_items, sound_type_items, sound_var_items, sound_type_at}
use Rattle.pfc_grammar.proofs.sound_rules.Stmts.{stmt_behind, sound_body, sound_stmt_at}

-- What lists write, and when they are lawful.
pub parts_written : (qs : List PartShape) → parts_tokens (parts_of qs) ≡ flat part_tokens qs
parts_written [] = refl
parts_written (q ∷ qs) = ap (λ z. part_tokens q ++ z) (parts_written qs)

pub parts_lawful : (h : Home) (qs : List PartShape) → Each (IsLawfulPart h) qs → AreLawfulParts h (parts_of qs)
parts_lawful h [] l = tt
parts_lawful h (q ∷ qs) l = (l.0, parts_lawful h qs l.1)

abbrev pub export_tokens : List Text → List Symbol
export_tokens xs = Word EXPORT ∷ (names_tokens xs ++ (Sign SEMICOLON ∷ []))

pub exports_written : (es : List (List Text)) → exports_tokens es ≡ flat export_tokens es
exports_written [] = refl
exports_written (xs ∷ es) = ap (λ z. Word EXPORT ∷ (names_tokens xs ++ (Sign SEMICOLON ∷ z))) (exports_written es) ∙
    ap (λ z. Word EXPORT ∷ z) (sym (append_assoc (names_tokens xs) (Sign SEMICOLON ∷ []) (flat export_tokens es)))

exports_lawful : (es : List (List Text)) → Each IsFilled es → AreLawfulExports es
exports_lawful [] l = tt
exports_lawful (xs ∷ es) l = (l.0, exports_lawful es l.1)

abbrev pub entry_tokens : EntryShape → List Symbol
entry_tokens n = Word ENTRY ∷ Name n.name ∷ (formals_tokens n.formals ++ (Sign SEMICOLON ∷ []))

pub entries_written : (ns : List EntryShape) → entries_tokens ns ≡ flat entry_tokens ns
entries_written [] = refl
entries_written (n ∷ ns) = ap (λ z. Word ENTRY ∷ Name n.name ∷ (formals_tokens n.formals ++ (Sign SEMICOLON ∷ z))) (entries_written ns) ∙
    ap (λ z. Word ENTRY ∷ Name n.name ∷ z) (sym (append_assoc (formals_tokens n.formals) (Sign SEMICOLON ∷ []) (flat entry_tokens ns)))

entries_lawful : (ns : List EntryShape) → Each (λ n. AreLawfulFormals n.formals) ns → AreLawfulEntries ns
entries_lawful [] l = tt
entries_lawful (n ∷ ns) l = (l.0, entries_lawful ns l.1)

pub params_written : (xs : List Text) → IsFilled xs → params_tokens xs ≡ Sign OPEN_PAREN ∷ (names_tokens xs ++ (Sign CLOSE_PAREN ∷ []))
params_written [] h = absurd h
params_written (x ∷ xs) h = refl

-- Headings.
abbrev pub head_tokens : SubHead → List Symbol
head_tokens h = heading_tokens h.0 h.1 h.2

abbrev pub IsLawfulHead : Home → SubHead → Type 0
IsLawfulHead home h = AreLawfulFormals h.1 × IsLawfulKind home h.2

sound_procedure_head : (h : Home) → Sound head_tokens (IsLawfulHead h) free none (λ k. Word PROCEDURE ∷ k) procedure_head
unfolding procedure_head
sound_procedure_head h =
    sound_name (λ x. sound_bind sound_formals (λ gs l. sound_sign SEMICOLON (λ u. sound_pure (x, gs, procedure) refl (l, tt) (λ s q. refl))))

sound_function_head : (h : Home) → Sound head_tokens (IsLawfulHead h) free none (λ k. Word FUNCTION ∷ k) function_head
unfolding function_head
sound_function_head h =
    sound_name (λ x. sound_bind sound_formals
    (λ gs l. sound_sign COLON (λ u. sound_name (λ r. sound_sign SEMICOLON (λ v. sound_pure (x, gs, function r) refl (l, tt) (λ s q. refl))))))

sound_type_word : {t : Symbol → Bool} → Sound many_tokens (λ b. Unit {0}) free t here type_word
unfolding type_word
sound_type_word = sound_on_word TYPE (λ u n. sound_pure true refl tt (λ s q. refl)) (sound_pure false refl tt (λ s q. refl))

sound_export : Sound export_tokens IsFilled free none (λ k. Word EXPORT ∷ k) export_behind
unfolding export_behind
sound_export = sound_bind sound_names (λ xs l. sound_sign SEMICOLON (λ u. sound_pure xs refl l (λ s q. refl)))

sound_entry : Sound entry_tokens (λ n. AreLawfulFormals n.formals) free none (λ k. Word ENTRY ∷ k) entry_behind
unfolding entry_behind
sound_entry = sound_name
    (λ x. sound_bind sound_formals (λ gs l. sound_sign SEMICOLON (λ u. sound_pure (record { name = x; formals = gs }) refl l (λ s q. refl))))

-- With readers of expressions, statements and parts.
module _ (p : Home → Reader (List PartShape)) (hp : (h : Home) → Sound (flat part_tokens) (Each (IsLawfulPart h)) free none here (p h)) (e : Reader ExprShape)
    (he : Sound expr_tokens IsLawfulExpr is_or none here e) (s : Reader StmtShape) (hs : Sound stmt_tokens IsLawfulStmt stmt_behind none here s) where
  sound_guarded_head : Sound head_tokens (IsLawfulHead of_resource) free none (λ k. Word GUARDED ∷ k) (guarded_head e)
  unfolding guarded_head
  sound_guarded_head = sound_word PROCEDURE
      (λ t. sound_name (λ x. sound_bind sound_formals
      (λ gs l. sound_word WHEN (λ u. sound_bind he (λ c m. sound_sign SEMICOLON (λ v. sound_pure (x, gs, guarded c)
      (ap (λ z. Word GUARDED ∷ Word PROCEDURE ∷ Name x ∷ z) (append_assoc (formals_tokens gs) (Word WHEN ∷ expr_tokens c) (Sign SEMICOLON ∷ []))) (l, (tt, m))
      (λ s' q. refl)))))))

  sound_sub : (h : Home) (w : ℕ) (head : Reader SubHead) → Sound head_tokens (IsLawfulHead h) free none (λ k. Word w ∷ k) head →
      Sound sub_tokens (IsLawfulSub h) free none (λ k. Word w ∷ k) (sub_behind p s head)
  unfolding sub_behind
  sound_sub h w head hh =
      sound_bind_behind (Word w) here hh
      (λ x l. sound_bind (hp of_other) (λ qs m. sound_bind (sound_body e he s hs)
      (λ b n. sound_sign SEMICOLON (λ t. sound_pure (sub x.0 x.1 x.2 (parts_of qs) b)
      (regroup4 (head_tokens x) (parts_tokens (parts_of qs)) (body_tokens b) (Sign SEMICOLON ∷ []) ∙
      ap (λ z. head_tokens x ++ (z ++ (body_tokens b ++ (Sign SEMICOLON ∷ [])))) (parts_written qs))
      (l.0, l.1, parts_lawful of_other qs m, n) (λ s' q. refl)))))

  sound_ending : {t : Symbol → Bool} → Sound ending_tokens IsLawfulEnding free t here (ending s)
  unfolding ending
  sound_ending = sound_on_word END (λ u n. sound_pure None refl tt (λ s' q. refl)) (sound_last (λ b. Some b) (sound_body e he s hs)
      (λ b m. refl) (λ b m. m) (λ b m s' q. refl))

  sound_module : (own : Home) → Sound module_tokens (IsLawfulModule own) free none here (module_behind p s own)
  unfolding module_behind
  sound_module own = sound_name
      (λ x. sound_sign SEMICOLON
      (λ t. sound_bind (sound_each (λ s' o q. subst (λ z. Sound export_tokens IsFilled free none (λ k. z ∷ k) export_behind)
      (sym (word_is EXPORT s' o q)) sound_export)) (λ es l. sound_bind (hp own) (λ qs m. sound_bind sound_ending (λ b n. sound_sign SEMICOLON (λ u.
      sound_pure (the_module x es (parts_of qs) b) (ap (λ z. Name x ∷ Sign SEMICOLON ∷ z) (regroup4 (exports_tokens es) (parts_tokens (parts_of qs))
      (ending_tokens b) (Sign SEMICOLON ∷ []))
      ∙ ap (λ z. Name x ∷ Sign SEMICOLON ∷ (z ++ (parts_tokens (parts_of qs) ++ (ending_tokens b ++ (Sign SEMICOLON ∷ []))))) (exports_written es)
      ∙ ap (λ z. Name x ∷ Sign SEMICOLON ∷ (flat export_tokens es ++ (z ++ (ending_tokens b ++ (Sign SEMICOLON ∷ []))))) (parts_written qs))
      (exports_lawful es l, parts_lawful own qs m, n) (λ s' q. refl)))))))

  sound_process : Sound process_tokens IsLawfulProcess free none (λ k. Word PROCESS ∷ k) (process_behind p s)
  unfolding process_behind
  sound_process = sound_bind sound_type_word
      (λ k l. sound_name (λ x. sound_bind sound_formals
      (λ gs m. sound_sign SEMICOLON
      (λ t. sound_bind (sound_each (λ s' o q. subst (λ z. Sound entry_tokens (λ n. AreLawfulFormals n.formals) free none (λ k'. z ∷ k') entry_behind)
      (sym (word_is ENTRY s' o q)) sound_entry)) (λ ns n.
      sound_bind (hp of_other) (λ qs o. sound_bind (sound_body e he s hs) (λ b r. sound_sign SEMICOLON (λ u. sound_pure (process k x gs ns (parts_of qs) b)
      (regroup6 (Word PROCESS ∷ many_tokens k) (Name x ∷ formals_tokens gs) (Sign SEMICOLON ∷ entries_tokens ns)
      (parts_tokens (parts_of qs)) (body_tokens b) (Sign SEMICOLON ∷ [])
      ∙ ap (λ z. Word PROCESS ∷
      (many_tokens k ++ (Name x ∷
      (formals_tokens gs ++ (Sign SEMICOLON ∷ (z ++ (parts_tokens (parts_of qs) ++ (body_tokens b ++ (Sign SEMICOLON ∷ []))))))))) (entries_written ns)
      ∙ ap (λ z. Word PROCESS ∷
      (many_tokens k ++ (Name x ∷ (formals_tokens gs ++ (Sign SEMICOLON ∷ (flat entry_tokens ns ++ (z ++ (body_tokens b ++ (Sign SEMICOLON ∷ [])))))))))
      (parts_written qs))
      (m, entries_lawful ns n, parts_lawful of_other qs o, r) (λ s' q. refl)))))))))

  sound_block_with : {t : Symbol → Bool} (h : Home) → Sound part_tokens (IsLawfulPart h) free t here (block_with p e s h)
  unfolding block_with
  sound_block_with h = sound_on_word PROCEDURE (λ u n. sound_bind_behind (Word PROCEDURE) here (sound_sub h PROCEDURE procedure_head (sound_procedure_head h))
      (λ x l. sound_pure (sub_part x) (sym (append-nil (sub_tokens x))) l (λ s' q. refl)))
      (sound_on_word FUNCTION (λ u n. sound_bind_behind (Word FUNCTION) here (sound_sub h FUNCTION function_head (sound_function_head h))
      (λ x l. sound_pure (sub_part x) (sym (append-nil (sub_tokens x))) l (λ s' q. refl)))
      (sound_branch (λ v o n q. subst (λ z. Sound part_tokens (IsLawfulPart z) free none (λ k. v ∷ k)
      (bind (sub_behind p s (guarded_head e)) (λ x. pure (sub_part x)))) (sym (word_of_resource_is h GUARDED v o q).0)
      (subst (λ z. Sound part_tokens (IsLawfulPart of_resource) free none (λ k. z ∷ k) (bind (sub_behind p s (guarded_head e)) (λ x. pure (sub_part x))))
      (sym (word_of_resource_is h GUARDED v o q).1)
      (sound_bind_behind (Word GUARDED) here (sound_sub of_resource GUARDED (guarded_head e) sound_guarded_head)
      (λ x l. sound_pure (sub_part x) (sym (append-nil (sub_tokens x))) l (λ s' q. refl)))))
      (sound_branch (λ v o n q. sound_last (λ m. monitor m) (sound_module of_other)
      (λ m l. ap (λ z. z ∷ module_tokens m) (sym (word_of_program_is h MONITOR v o q).1))
      (λ m l. (subst HoldsModules (sym (word_of_program_is h MONITOR v o q).0) tt, l)) (λ m l s' q. refl))
      (sound_branch (λ v o n q. sound_last (λ m. resource m) (sound_module of_resource)
      (λ m l. ap (λ z. z ∷ module_tokens m) (sym (word_of_program_is h RESOURCE v o q).1))
      (λ m l. (subst HoldsModules (sym (word_of_program_is h RESOURCE v o q).0) tt, l)) (λ m l s' q. refl))
      (sound_branch (λ v o n q. subst (λ z. Sound part_tokens (IsLawfulPart h) free none (λ k. z ∷ k) (bind (process_behind p s) (λ x. pure (process_part x))))
      (sym (word_of_program_is h PROCESS v o q).1)
      (sound_bind_behind (Word PROCESS) here sound_process (λ x l. sound_pure (process_part x) (sym (append-nil (process_tokens x)))
      (subst HoldsModules (sym (word_of_program_is h PROCESS v o q).0) tt, l) (λ s' q. refl))))
      (sound_stop (record {
        whole = sub_part (sub [] [] procedure no_parts (body (more_stmts empty no_stmts)));
        more =
            Word PROCEDURE ∷ Name [] ∷ Sign SEMICOLON ∷ Word BEGIN ∷ Word END ∷ Sign SEMICOLON ∷ [];
        lawful = (tt, tt, tt, (tt, tt));
        writes = refl;
      })))))))

sound_part_with : {t : Symbol → Bool} (h : Home) (f : Reader TypeShape) → Sound type_tokens IsLawfulType free none here f → (b : Reader PartShape) →
    Sound part_tokens (IsLawfulPart h) free none here b → Sound part_tokens (IsLawfulPart h) free t here (part_with f b)
unfolding part_with
sound_part_with h f hf b hb =
    sound_on_word CONST (λ u n. sound_last (λ is. consts is) sound_const_items
    (λ is l. ap (λ z. Word CONST ∷ z) (const_items_written is)) const_items_lawful (λ is l s q. refl))
    (sound_on_word TYPE (λ u n. sound_last (λ is. types is) (sound_type_items f hf)
    (λ is l. ap (λ z. Word TYPE ∷ z) (type_items_written is)) type_items_lawful (λ is l s q. refl))
    (sound_on_word VAR (λ u n. sound_last (λ vs. vars (vars_of vs)) (sound_var_items f hf)
    (λ vs l. ap (λ z. Word VAR ∷ z) (vars_written vs)) fields_lawful (λ vs l s q. refl)) (sound_any _ hb)))

-- a part has a symbol
pub part_some : (h : Home) (q : PartShape) → IsLawfulPart h q → 1 ≤ length (part_tokens q)
part_some h (consts is) l = omega arith
part_some h (types is) l = omega arith
part_some h (vars vs) l = omega arith
part_some h (sub_part (sub x gs procedure qs b)) l = omega arith
part_some h (sub_part (sub x gs (function r) qs b)) l = omega arith
part_some h (sub_part (sub x gs (guarded c) qs b)) l = omega arith
part_some h (monitor m) l = omega arith
part_some h (resource m) l = omega arith
part_some h (process_part (process k x gs ns qs b)) l = omega arith

-- Each symbol that begins a block does begin a lawful one.
abbrev BegunPart : Home → Symbol → Type 0
BegunPart h s = Goes part_tokens (IsLawfulPart h) (λ k. s ∷ k)

begun_part_by : (h : Home) (w : ℕ) (s : Symbol) (x : PartShape) (more : List Symbol) → IsLawfulPart h x →
    part_tokens x ≡ Word w ∷ more → s ≡ Word w → BegunPart h s
begun_part_by h w s x more l q e = record { whole = x; more = more; lawful = l; writes = q ∙ ap (λ z. z ∷ more) (sym e) }

abbrev no_body : BodyShape
no_body = body (more_stmts empty no_stmts)

begun_block : (h : Home) (s : Symbol) → begins_block h s ≡ true → BegunPart h s
begun_block h s = or_else _ _ (or_else _ _ (or_else _ _ (or_else _ _ (or_else _ _
    (λ e. begun_part_by h PROCEDURE s (sub_part (sub [] [] procedure no_parts no_body)) (Name [] ∷ Sign SEMICOLON ∷ Word BEGIN ∷ Word END ∷ Sign SEMICOLON ∷ [])
    (tt, tt, tt, (tt, tt)) refl (word_was PROCEDURE s e))
    (λ e. begun_part_by h FUNCTION s (sub_part (sub [] [] (function []) no_parts no_body))
    (Name [] ∷ Sign COLON ∷ Name [] ∷ Sign SEMICOLON ∷ Word BEGIN ∷ Word END ∷ Sign SEMICOLON ∷ []) (tt, tt, tt, (tt, tt)) refl (word_was FUNCTION s e)))
    (λ e. in_resource (word_of_resource_is h GUARDED s tt (taken (as_word_of_resource h GUARDED s) e).1)))
    (λ e. begun_part_by h MONITOR s (monitor (the_module [] [] no_parts None)) (Name [] ∷ Sign SEMICOLON ∷ Word END ∷ Sign SEMICOLON ∷ [])
    (subst HoldsModules (sym (word_of_program_is h MONITOR s tt (taken (as_word_of_program h MONITOR s) e).1).0) tt, (tt, tt, tt)) refl
    (word_of_program_is h MONITOR s tt (taken (as_word_of_program h MONITOR s) e).1).1))
    (λ e. begun_part_by h RESOURCE s (resource (the_module [] [] no_parts None)) (Name [] ∷ Sign SEMICOLON ∷ Word END ∷ Sign SEMICOLON ∷ [])
    (subst HoldsModules (sym (word_of_program_is h RESOURCE s tt (taken (as_word_of_program h RESOURCE s) e).1).0) tt, (tt, tt, tt)) refl
    (word_of_program_is h RESOURCE s tt (taken (as_word_of_program h RESOURCE s) e).1).1))
    (λ e. begun_part_by h PROCESS s (process_part (process false [] [] [] no_parts no_body))
    (Name [] ∷ Sign SEMICOLON ∷ Word BEGIN ∷ Word END ∷ Sign SEMICOLON ∷ [])
    (subst HoldsModules (sym (word_of_program_is h PROCESS s tt (taken (as_word_of_program h PROCESS s) e).1).0) tt, (tt, tt, tt, (tt, tt))) refl
    (word_of_program_is h PROCESS s tt (taken (as_word_of_program h PROCESS s) e).1).1)
  where
    in_resource : (h ≡ of_resource) × (s ≡ Word GUARDED) → BegunPart h s
    in_resource e = begun_part_by h GUARDED s (sub_part (sub [] [] (guarded (expr_of (literal []))) no_parts no_body))
        (Word PROCEDURE ∷ Name [] ∷ Word WHEN ∷ Literal [] ∷ Sign SEMICOLON ∷ Word BEGIN ∷ Word END ∷ Sign SEMICOLON ∷ [])
        (tt, (subst HoldsGuarded (sym e.0) tt, ((tt, tt), tt)), tt, (tt, tt)) refl e.1

-- the reader of one block, and of one part, where n levels are left
abbrev pub block_at : ℕ → Home → Reader PartShape
block_at zero h = choose (begins_block h) stop_deep stop
block_at (suc n) h = block_with (parts_at n) (expr_at n) (stmt_at n) h

abbrev pub part_reader : ℕ → Home → Reader PartShape
part_reader n h = part_with (type_at n) (block_at n h)

sound_block_zero : (h : Home) → Sound part_tokens (IsLawfulPart h) free none here (block_at zero h)
sound_block_zero h = sound_level (begun_block h) (sound_stop (record {
  whole = sub_part (sub [] [] procedure no_parts no_body);
  more =
      Word PROCEDURE ∷ Name [] ∷ Sign SEMICOLON ∷ Word BEGIN ∷ Word END ∷ Sign SEMICOLON ∷ [];
  lawful = (tt, tt, tt, (tt, tt));
  writes = refl;
}))

part_at : (n : ℕ) (h : Home) → Sound part_tokens (IsLawfulPart h) free none here (block_at n h) →
    Sound part_tokens (IsLawfulPart h) free none here (part_reader n h)
part_at n h hb = sound_part_with h (type_at n) (sound_type_at n) (block_at n h) hb

pub sound_parts_at : (n : ℕ) (h : Home) → Sound (flat part_tokens) (Each (IsLawfulPart h)) free none here (parts_at n h)
unfolding parts_at
sound_parts_at zero h = sound_many_while part_tokens (IsLawfulPart h) (begins_part h) (part_reader zero h) (part_at zero h (sound_block_zero h)) (part_some h)
sound_parts_at (suc n) h = sound_many_while part_tokens (IsLawfulPart h) (begins_part h) (part_reader (suc n) h)
    (part_at (suc n) h (sound_block_with (parts_at n) (sound_parts_at n) (expr_at n) (sound_expr_at n) (stmt_at n) (sound_stmt_at n) h)) (part_some h)

pub sound_part_at : (n : ℕ) (h : Home) → Sound part_tokens (IsLawfulPart h) free none here (part_reader n h)
sound_part_at zero h = part_at zero h (sound_block_zero h)
sound_part_at (suc n) h = part_at (suc n) h (sound_block_with (parts_at n) (sound_parts_at n) (expr_at n) (sound_expr_at n) (stmt_at n) (sound_stmt_at n) h)

-- Programs.
sound_params : Sound params_tokens (λ xs. Unit {0}) free none here params
unfolding params
sound_params = sound_on_sign OPEN_PAREN
    (λ u n. sound_bind sound_names (λ xs l. sound_sign CLOSE_PAREN (λ t. sound_pure xs (params_written xs l) tt (λ s q. refl))))
    (sound_pure [] refl tt (λ s q. refl))

sound_program_behind : (n : ℕ) → Sound tokens_of IsLawful free none (λ k. Word PROGRAM ∷ k) (program_behind (parts_at n) (stmt_at n))
unfolding program_behind
sound_program_behind n =
    sound_name (λ x. sound_bind sound_params
    (λ xs l. sound_sign SEMICOLON (λ t. sound_bind (sound_parts_at n of_program)
    (λ qs m. sound_bind (sound_body (expr_at n) (sound_expr_at n) (stmt_at n) (sound_stmt_at n)) (λ b o. sound_sign DOT (λ u.
    sound_pure (record { name = x; params = xs; parts = parts_of qs; body = b })
    (regroup4 (Word PROGRAM ∷ Name x ∷ params_tokens xs) (Sign SEMICOLON ∷ parts_tokens (parts_of qs)) (body_tokens b) (Sign DOT ∷ []) ∙
    ap (λ z. Word PROGRAM ∷ Name x ∷ (params_tokens xs ++ (Sign SEMICOLON ∷ (z ++ (body_tokens b ++ (Sign DOT ∷ [])))))) (parts_written qs))
    (parts_lawful of_program qs m, o) (λ s q. refl)))))))

goes_program : (s : Symbol) → is_word PROGRAM s ≡ true → Goes tokens_of IsLawful (λ k. s ∷ k)
goes_program s e = record {
  whole = record { name = []; params = []; parts = no_parts; body = no_body };
  more = Name [] ∷ Sign SEMICOLON ∷ Word BEGIN ∷ Word END ∷ Sign DOT ∷ [];
  lawful = (tt, (tt, tt));
  writes = ap (λ z. z ∷ Name [] ∷ Sign SEMICOLON ∷ Word BEGIN ∷ Word END ∷ Sign DOT ∷ []) (sym (word_was PROGRAM s e));
}

pub sound_program_at : (n : ℕ) → Sound tokens_of IsLawful free none here (program_at n)
unfolding program_at
sound_program_at zero =
    sound_level goes_program (sound_stop (record {
      whole = (goes_program (Word PROGRAM) refl).whole;
      more =
          Word PROGRAM ∷ (goes_program (Word PROGRAM) refl).more;
      lawful = (goes_program (Word PROGRAM) refl).lawful;
      writes =
          (goes_program (Word PROGRAM) refl).writes;
    }))
sound_program_at (suc n) = sound_word PROGRAM (λ t. sound_program_behind n)

sound_finish : (x : ProgramShape) → IsLawful x → Sound tokens_of IsLawful free none (λ k. tokens_of x ++ k) (finish x)
unfolding finish
sound_finish x l = record { goes = record { whole = x; more = []; lawful = l; writes = sym (append-nil (tokens_of x)) }; reads = go }
  where
    go : (ss : List Symbol) → Apart none ss → When (finish x ss) (Took tokens_of IsLawful free (λ k. tokens_of x ++ k) ss)
        (Halts tokens_of IsLawful (λ k. tokens_of x ++ k) ss)
    go [] a = record { read = []; splits = refl; writes = sym (append-nil (tokens_of x)); lawful = l; apart = tt }
    go (s ∷ ss) a = record {
      read = [];
      left = s ∷ ss;
      splits = refl;
      count = refl;
      goes = record {
        whole = x;
        more = [];
        lawful = l;
        writes = sym (append-nil (tokens_of x));
      };
    }

pub sound_whole_at : (n : ℕ) → Sound tokens_of IsLawful free none here (whole_at n)
unfolding whole_at
sound_whole_at n = sound_bind (sound_program_at n) sound_finish
