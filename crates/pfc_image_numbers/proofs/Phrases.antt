-- What holds of single instructions, where the names in them are what the rules ask for, holds of the code of all phrases: by induction over
-- them, with the rules that are broken in each.
use Rattle.std.proofs.Common.{◌≡◌, ℕ, ◌+◌, ◌<◌, ◌≤◌, suc, pos, ◌-◌, ℤ, ◌+ℤ◌, int_le, zero, nat_lt, Bool, true, false, List, [], ◌∷◌, ◌++◌, length, map, Option}
use Rattle.std.proofs.Common.{Some, None, cond, if◌then◌else◌, drop, refl, sym, ◌∙◌, subst, arith}
use Rattle.pfc_tree.specs.Symbols.{Text}
use Rattle.pfc_base.specs.declared.places.Place.{Place}
use Rattle.pfc_tree.specs.declared.tree.Constant.{Constant}
use Rattle.pfc_tree.specs.declared.tree.Spread.{Spread}
use Rattle.pfc_tree.specs.declared.tree.Sign.{Sign}
use Rattle.pfc_tree.specs.declared.tree.Sign.TheVariants.{Plus, Minus}
use Rattle.pfc_tree.specs.declared.tree.Relation.{Relation}
use Rattle.pfc_tree.specs.declared.tree.Relation.TheVariants.{Eq, Ne, Lt, Le, Gt, Ge}
use Rattle.pfc_tree.specs.declared.tree.AddOp.{AddOp}
use Rattle.pfc_tree.specs.declared.tree.AddOp.TheVariants.{Add, Sub as Minused, Or}
use Rattle.pfc_tree.specs.declared.tree.MulOp.{MulOp}
use Rattle.pfc_tree.specs.declared.tree.MulOp.TheVariants.{Mul, Div, Mod, And}
use Rattle.pfc_tree.specs.trees.Exprs.{ExprTree, SimpleTree, SummandTrees, TermTree, MultiplierTrees, FactorTree, DesigTree, SelectorTrees, ExprTrees}
use Rattle.pfc_tree.specs.trees.Exprs.{ActualTree, ActualTrees, plain, related, sum, no_summands, more_summands, product, no_multipliers, more_multipliers}
use Rattle.pfc_tree.specs.trees.Exprs.{number, literal, negation, paren, applied, desig, index, field, no_selectors, more_selectors, no_exprs, more_exprs}
use Rattle.pfc_tree.specs.trees.Exprs.{actual, actual_width, no_actuals, more_actuals}
use Rattle.pfc_tree.specs.trees.Stmts.{StmtTree, StmtTrees, ArmTrees, AcceptTree, AltTree, AltTrees, CommTree, empty, null, block, if_then, if_then_else}
use Rattle.pfc_tree.specs.trees.Stmts.{case_of, while_do, repeat_until, repeat_forever, for_do, cobegin, accepting as an_accept, requeue, select, select_else}
use Rattle.pfc_tree.specs.trees.Stmts.{assign, send, receive, call, no_stmts, more_stmts, body, arm, no_arms, more_arms, accept, accept_do, alt, no_alts}
use Rattle.pfc_tree.specs.trees.Stmts.{more_alts, comm_accept, comm_send, comm_receive, timeout, terminate}
use Rattle.pfc_types.specs.rules.Constants.{Ordinal, constant_value}
use Rattle.pfc_types.specs.rules.Statements.{names_any, any_rule, types_rule, only_any_rule, accept_rules, carried_by, broken_message, broken_receiver}
use Rattle.pfc_types.specs.rules.Statements.{broken_target, broken_assign, broken_send, broken_receive, broken_spread, broken_guard, scopes_in, stmts_scopes}
use Rattle.pfc_types.specs.rules.Statements.{arm_scopes, arms_scopes, accept_scopes, alt_scopes, alts_scopes, comm_scopes, broken_stmt, broken_stmts}
use Rattle.pfc_types.specs.rules.Statements.{broken_arms, broken_accept, broken_alts, broken_alt, broken_comm}
use Rattle.pfc_types.specs.declared.types.TypeId.{TypeId}
use Rattle.pfc_types.specs.declared.types.TypeForm.{TypeForm}
use Rattle.pfc_types.specs.declared.types.TypeForm.TheVariants.{Channel, Array, Record, Process as ProcessForm}
use Rattle.pfc_types.specs.declared.scope.Meaning.{Meaning}
use Rattle.pfc_types.specs.declared.scope.Meaning.TheVariants.{Constant as AConstant, Named, Variable, Sub, Module, Process, Entry, Predeclared, Faulty}
use Rattle.pfc_types.specs.declared.heads.Formal.{Formal}
use Rattle.pfc_types.specs.declared.view.Found.{Found}
use Rattle.pfc_types.specs.declared.view.Around.{Around}
use Rattle.pfc_types.specs.Types.{extent, Forms, form_of, process_form}
use Rattle.pfc_types.specs.Faults.{Faults, ◌⨾◌ as ◌⨟◌}
use Rattle.pfc_types.specs.Scopes.{Level, found_in, meaning_of, meaning_in, scope_at, here}
use Rattle.pfc_types.specs.Blocks.{sub_at, module_at, process_at, entry_at}
use Rattle.pfc_types.specs.rules.Expressions.{Env, first_type, field_type, selected, as_desig, as_literal, expr_place, desig_place, actual_count, expr_type}
use Rattle.pfc_types.specs.rules.Expressions.{no_selector, no_actual, is_variable, use_rules, broken_expr, broken_simple, broken_summands, broken_term}
use Rattle.pfc_types.specs.rules.Expressions.{broken_multipliers, broken_factor, broken_selectors, desig_type, broken_desig, broken_indexes, broken_actuals}
use Rattle.pfc_types.specs.rules.Expressions.{broken_actual, broken_wanted}
use Rattle.pfc_types.specs.rules.Calls.{last_field, before_last, broken_reads, written, broken_written, broken_writes, call_routine, activate}
use Rattle.pfc_types.specs.rules.Calls.{activate_variable, requeue_rules, call_entry_named, call_module, call_exported, call_part, broken_call}
use Rattle.pfc_types.specs.rules.Kinds.{value_rule, variable_type}
use Rattle.pfc_types.specs.rules.Routines.{Want, a_value, a_variable_of, wants_for, Routine, a_procedure, a_delay, a_reader, a_writer, routine_of}
use Rattle.pfc_types.specs.rules.Routines.{nothing_called, called_function, fits_use, one_condition, ranked_condition, Site as CallSite}
use Rattle.pfc_values.specs.declared.simple.Simple.{Simple}
use Rattle.pfc_values.specs.declared.simple.Simple.TheVariants.{Integer, Boolean, Char}
use Rattle.pfc_semantics.specs.Operators.{simple_of}
use Rattle.pfc_semantics.specs.Predeclared.{Function, abs, sqr, odd, ord, chr, succ, pred, eof, eoln, empty as emptied, clock, random, no_function, function_of}
use Rattle.pfc_semantics.specs.Predeclared.{Procedure as AProcedure, reader, writer, initial, wait, signal, delay, resume, sleep, no_procedure, procedure_of}
use Rattle.pfc_semantics.specs.Remainders.{Replica, Alternative}
use Rattle.pfc_semantics.specs.Alternatives.{entry_number, message_of, receiver_of, replicas_from, replicas_between, replicas_by, replicas, alternative}
use Rattle.pfc_semantics.specs.Alternatives.{spread_out, alternatives}
use Rattle.pfc_semantics.specs.Objects.{module_number}
use Rattle.pfc_semantics.specs.Statements.{as_string, item_of, expr_of, behind_first, name_in_process, process_of_type}
use Rattle.pfc_semantics.specs.Displays.{Spot}
use Rattle.pfc_semantics.specs.Expressions.{spot_of, char_in, form_in}
use Rattle.pfc_semantics.specs.Programs.{Program, Block, block_number}
use Rattle.pfc_code.specs.declared.instructions.Instr.{Instr}
use Rattle.pfc_code.specs.declared.instructions.Instr.TheVariants.{LIT, ADDR, REF, SINI, SWAIT, SSIG, DELAY, RESUME, SLEEP, WRNL, RDNL, REQ, NEW, ECALL, JMP}
use Rattle.pfc_code.specs.declared.instructions.Instr.TheVariants.{JF, TURN, FORB, FORW, FORT, CEQ, CERR, COEND, SEND, RECV, ACC, EACC, ARMS, ARMR, ARMA, ARMT}
use Rattle.pfc_code.specs.declared.instructions.Instr.TheVariants.{ARMX, SEL, FLD, LOAD, STORE, OBJ, WRS, NEG, ABS, SQR, ODD, CHR, SUCC, PRED, NOT, EMPTY}
use Rattle.pfc_code.specs.declared.instructions.Instr.TheVariants.{CLOCK, RAND, EOF, EOLN}
use Rattle.pfc_translation.specs.Sites.{Site, links_to, cell_of, refers, context_of, forms_of, blocks_of, type_cells}
use Rattle.pfc_translation.specs.Codes.{Code, nothing, ◌⨾◌, one, over, back, string, unseen, with_arms}
use Rattle.pfc_translation.specs.Addresses.{base_code, type_behind, element_in, index_instr, field_cell}
use Rattle.pfc_translation.specs.Expressions.{expr_code, simple_code, summands_code, term_code, multipliers_code, factor_code, sign_code, first_value}
use Rattle.pfc_translation.specs.Expressions.{first_address, actual_code, lent_code, variable_code, args_code, selectors_code, indices_code, name_code}
use Rattle.pfc_translation.specs.Expressions.{function_code, relation_instr, add_instr, multiply_instr, simple_number, call_instr, address_code, desig_code}
use Rattle.pfc_translation.specs.Expressions.{object_code}
use Rattle.pfc_translation.specs.Calls.{write_instr, plain_item, wide_item, item_code, writes_code, read_instr, input_code, reads_code, given_code, rank_code}
use Rattle.pfc_translation.specs.Calls.{first_object, procedure_code, enter_instr, exported_code, module_code, resource_of, requeue_code, activation_code}
use Rattle.pfc_translation.specs.Calls.{formals_cells, entry_code, process_code, field_code, called_variable, called_process, called_code, found_code}
use Rattle.pfc_translation.specs.Calls.{call_code}
use Rattle.pfc_translation.specs.Selects.{message_code, message_cells, receiver_code, receiver_cells, accept_cell, accept_cells, accept_code, replica_code}
use Rattle.pfc_translation.specs.Selects.{comm_code, guarded_code, alternative_code, alternatives_code, first_of}
use Rattle.pfc_translation.specs.Statements.{assign_code, label_of, labels_code, label_count, spread_replicas, chosen_code, sel_code, select_code, stmt_code}
use Rattle.pfc_translation.specs.Statements.{stmts_code, tests_code, arms_code, accepted_code, branch_code, branches_code, distances}
use Rattle.pfc_translation.specs.Images.{instructions}
use Rattle.pfc_image_laws.specs.Instructions.{Each}
use Rattle.pfc_image_laws.proofs.Holds.{each_append}
use Rattle.pfc_image_numbers.proofs.Plain.{is_plain}
use Rattle.pfc_image_numbers.proofs.Rules.{IsClean, HasCell, IsEmpty, empty_is, matches_function, held, and_left, sub_args, empty_args, lent_cell, named_cell}
use Rattle.pfc_image_numbers.proofs.Rules.{IsOfProcedure, matches_procedure, called_sub, exported_args, entry_args, activated_args, activated_type, field_entry}
use Rattle.pfc_image_numbers.proofs.Rules.{field_process, selected_last, call_of, call_is, routine_called, sub_called, module_called, process_entered}
use Rattle.pfc_image_numbers.proofs.Rules.{process_activated, variable_called, variable_part, IsNear, in_cobegin, IsEntry, accept_allowed, target_cell}
use Rattle.pfc_image_numbers.proofs.Rules.{requeued_args}
use Rattle.pfc_image_numbers.proofs.Alike.{selected_same}
use Rattle.pfc_image_numbers.proofs.Known.{Stands, stands, a_module, a_process, a_process_type, an_entry}
use Rattle.pfc_name_laws.specs.Reached.{HasEntry}
use Rattle.pfc_name_laws.specs.Numbers.{AreNumbered}

-- ## Instructions that name nothing

relation : (r : Relation) → is_plain (relation_instr r) ≡ true
relation Eq = refl
relation Ne = refl
relation Lt = refl
relation Le = refl
relation Gt = refl
relation Ge = refl

addition : (r : AddOp) → is_plain (add_instr r) ≡ true
addition Add = refl
addition Minused = refl
addition Or = refl

multiplication : (r : MulOp) → is_plain (multiply_instr r) ≡ true
multiplication Mul = refl
multiplication Div = refl
multiplication Mod = refl
multiplication And = refl

indexing : (forms : Forms) (t : Option TypeForm) → is_plain (index_instr forms t) ≡ true
indexing forms None = refl
indexing forms (Some (Channel t)) = refl
indexing forms (Some (Array over low high element)) = refl
indexing forms (Some (Record fields)) = refl
indexing forms (Some (ProcessForm n)) = refl

next_value : (x : Simple) → is_plain (SUCC (simple_number x)) ≡ true
next_value Integer = refl
next_value Boolean = refl
next_value Char = refl

value_before : (x : Simple) → is_plain (PRED (simple_number x)) ≡ true
value_before Integer = refl
value_before Boolean = refl
value_before Char = refl

-- ## Code of one block
--
-- In the block b, in whose code the tree around is a, each instruction is as X says, where the names in view are as V says. A says that no
-- rule is broken: what is said of rules is said under it.
module _
    (A : Type 0)
    (g : Program)
    (b : Block)
    (a : Around)
    (X : Instr → Type 0)
    (V : List Level → Type 0)
    (plain_one : (i : Instr) → is_plain i ≡ true → X i)
    (reaching :
    (v : List Level) (l : ℕ) (x : Text) (o : Option Found) → found_in g.state.blocks.scopes v x ≡ o → V v → (A → HasCell g.state v (meaning_of o))
    → let s : Site = record { program = g; block = b; env = record { state = g.state; view = v; around = a }; line = l } in
    X (if refers s (spot_of s.env o).spot then REF (links_to s (spot_of s.env o).spot.scope) (cell_of s (spot_of s.env o).spot)
    else ADDR (links_to s (spot_of s.env o).spot.scope) (cell_of s (spot_of s.env o).spot)))
  where
    abbrev pub site : List Level → ℕ → Site
    site v l = record { program = g; block = b; env = record { state = g.state; view = v; around = a }; line = l }

    -- the names in view, with the tree around as the rules have it
    abbrev pub env : List Level → Around → Env
    env v c = record { state = g.state; view = v; around = c }

    abbrev pub seen : List Level → Text → Option Found
    seen v x = found_in g.state.blocks.scopes v x

    -- wherever it is put
    pub Holds : Code → Type 0
    Holds c = (at n : ℕ) → Each (λ j i. X i) at (instructions (c.put at n))

    pub no_code : Holds nothing
    unfolding Holds
    no_code at n = tt

    pub both : (c d : Code) → Holds c → Holds d → Holds (c ⨾ d)
    unfolding Holds
    both c d p q at n =
        anywhere at (c.put at n) (d.put (at + c.size) (n + length c.texts)) (p at n) (q (at + c.size) (n + length c.texts))
      where
        moved : (at to : ℕ) (code : List Instr) → Each (λ j i. X i) at code → Each (λ j i. X i) to code
        moved at to [] h = tt
        moved at to (i ∷ code) h = (h.0, moved (at + 1) (to + 1) code h.1)

        anywhere : (at : ℕ) (x y : List (Instr × ℕ)) → Each (λ j i. X i) at (instructions x) → Each (λ j i. X i) (at + c.size) (instructions y)
            → Each (λ j i. X i) at (instructions (x ++ y))
        anywhere at x y f h = each_append (λ j i. X i) at x y f (moved (at + c.size) (at + length x) (instructions y) h)

    pub one_holds : (s : Site) (i : Instr) → X i → Holds (one s i)
    unfolding Holds
    one_holds s i h at n = (h, tt)

    pub alone : (s : Site) (i : Instr) → is_plain i ≡ true → Holds (one s i)
    alone s i h = one_holds s i (plain_one i h)

    pub leading : (s : Site) (f : ℕ → Instr) (count : ℕ) → ((j : ℕ) → X (f j)) → Holds (over s f count)
    unfolding Holds
    leading s f count h at n = (h (at + 1 + count), tt)

    pub turning : (s : Site) (f : ℕ → Instr) (count : ℕ) → ((j : ℕ) → X (f j)) → Holds (back s f count)
    unfolding Holds
    turning s f count h at n = (h (at - count), tt)

    pub writing : (s : Site) (x : Text) (w : ℕ) → nat_lt w 2 ≡ true → Holds (string s x w)
    unfolding Holds
    writing s x w h at n = (plain_one (WRS n w) h, tt)

    pub unseen_holds : (c : Code) → Holds (unseen c)
    unfolding Holds
    unseen_holds c at n = tt

    pub arms_hold : (n : ℕ) (c : Code) → Holds c → Holds (with_arms n c)
    unfolding Holds
    arms_hold k c h at n = h at n

    pub held_each : (c : Code) → Holds c → (at n : ℕ) → Each (λ j i. X i) at (instructions (c.put at n))
    unfolding Holds
    held_each c h at n = h at n

    pub either : (r : Bool) (c d : Code) → Holds c → Holds d → Holds (cond r c d)
    either true c d p q = p
    either false c d p q = q

    -- ## Expressions

    pub base : (v : List Level) (l : ℕ) (x : Text) (o : Option Found) → seen v x ≡ o → V v → (A → HasCell g.state v (meaning_of o))
        → Holds (base_code (site v l) (spot_of (env v a) o).spot)
    base v l x o e view h = by (refers (site v l) (spot_of (env v a) o).spot) (reaching v l x o e view h)
      where
        s : Site
        s = site v l

        w : Spot
        w = (spot_of (env v a) o).spot

        by : (r : Bool) → X (if r then REF (links_to (site v l) (spot_of (env v a) o).spot.scope) (cell_of (site v l) (spot_of (env v a) o).spot)
            else ADDR (links_to (site v l) (spot_of (env v a) o).spot.scope) (cell_of (site v l) (spot_of (env v a) o).spot))
            → Holds (one (site v l) (if r then REF (links_to (site v l) (spot_of (env v a) o).spot.scope) (cell_of (site v l) (spot_of (env v a) o).spot)
            else ADDR (links_to (site v l) (spot_of (env v a) o).spot.scope) (cell_of (site v l) (spot_of (env v a) o).spot)))
        by true q = one_holds (site v l) _ q
        by false q = one_holds (site v l) _ q

    signed : (s : Site) (sign : Option (Sign × Place)) → Holds (sign_code s sign)
    signed s None = no_code
    signed s (Some (Plus, p)) = no_code
    signed s (Some (Minus, p)) = alone s NEG refl

    -- where the function is `empty`, its argument has an address
    called : (s : Site) (f : Function) (t : Option TypeId) (value address : Code) → Holds value → (IsEmpty f → Holds address)
        → Holds (function_code s f t value address)
    called s abs t value address x y = both value (one s ABS) x (alone s ABS refl)
    called s sqr t value address x y = both value (one s SQR) x (alone s SQR refl)
    called s odd t value address x y = both value (one s ODD) x (alone s ODD refl)
    called s ord t value address x y = x
    called s chr t value address x y = both value (one s CHR) x (alone s CHR refl)
    called s succ t value address x y =
        both value (one s (SUCC (simple_number (simple_of t)))) x (alone s (SUCC (simple_number (simple_of t))) (next_value (simple_of t)))
    called s pred t value address x y =
        both value (one s (PRED (simple_number (simple_of t)))) x (alone s (PRED (simple_number (simple_of t))) (value_before (simple_of t)))
    called s eof t value address x y = alone s EOF refl
    called s eoln t value address x y = alone s EOLN refl
    called s emptied t value address x y =
        both address (one s OBJ ⨾ one s EMPTY) (y tt) (both (one s OBJ) (one s EMPTY) (alone s OBJ refl) (alone s EMPTY refl))
    called s clock t value address x y = alone s CLOCK refl
    called s random t value address x y = both value (one s RAND) x (alone s RAND refl)
    called s no_function t value address x y = no_code

    pub a_sub_call : (s : Site) (k : ℕ) (c : Code) → Holds c → Holds (c ⨾ one s (call_instr s (sub_at (blocks_of s) k)))
    a_sub_call s k c p = both c (one s (call_instr s (sub_at (blocks_of s) k))) p (alone s (call_instr s (sub_at (blocks_of s) k)) refl)

    -- no rule is broken, where A is so
    abbrev pub C : Faults → Type 0
    C fs = A → IsClean fs

    a_name :
        (v : List Level) (l : ℕ) (c : Around) (ss : SelectorTrees) (args : ActualTrees) (address : Code) (t : Option TypeId) (m : Meaning)
        → (A → fits_use g.state.blocks (no_selector ss) (no_actual args) m ≡ true)
        → (let callee = (if no_selector ss then called_function g.state.blocks (Some m) else nothing_called) in
        C (broken_actuals (env v c) None callee.known callee.wants args))
        → ((A → HasCell g.state v (Some m)) → Holds address)
        → ((formals : List Formal) → C (broken_actuals (env v c) None true (wants_for formals) args) → Holds (args_code (site v l) formals args))
        → Holds (first_value (site v l) args)
        → (C (broken_actuals (env v c) None true one_condition args) → Holds (first_address (site v l) args))
        → Holds (name_code (site v l) (Some m) ss address (λ formals. args_code (site v l) formals args)
        (λ f. function_code (site v l) f t (first_value (site v l) args) (first_address (site v l) args)))
    a_name v l c ss args address t (AConstant u n) fit h to arguments value lent = alone (site v l) (LIT n) refl
    a_name v l c ss args address t (Named u) fit h to arguments value lent = no_code
    a_name v l c ss args address t (Variable u r) fit h to arguments value lent =
        let z = type_cells (forms_of (site v l)) (selected (env v a) (Some u) ss) in
        both address (one (site v l) (LOAD z)) (to (λ x. tt)) (alone (site v l) (LOAD z) refl)
    a_name v l c ss args address t (Sub n) fit h to arguments value lent =
        let head = sub_at g.state.blocks n in
        a_sub_call (site v l) n (args_code (site v l) head.formals args)
        (arguments head.formals (λ x. sub_args (env v c) (no_selector ss) head.sort head.formals args (fit x) (h x)))
    a_name v l c ss args address t (Module n) fit h to arguments value lent = no_code
    a_name v l c ss args address t (Process n) fit h to arguments value lent = no_code
    a_name v l c ss args address t (Entry n) fit h to arguments value lent = no_code
    a_name v l c ss args address t (Predeclared k) fit h to arguments value lent =
        called (site v l) (function_of k) t (first_value (site v l) args) (first_address (site v l) args) value
        (λ e. lent (λ x. empty_args (env v c) (no_selector ss) (routine_of k) args (and_left (no_selector ss) _ (fit x))
        (empty_is (function_of k) (routine_of k) (matches_function k) e) (h x)))
    a_name v l c ss args address t Faulty fit h to arguments value lent = no_code

    a_found :
        (v : List Level) (l : ℕ) (c : Around) (ss : SelectorTrees) (q : Place) (args : ActualTrees) (address : Code) (t : Option TypeId)
        (o : Option Found)
        → (let callee = (if no_selector ss then called_function g.state.blocks (meaning_of o) else nothing_called) in
        C (use_rules (env v c) o (no_selector ss) (no_actual args) q) × C (broken_actuals (env v c) None callee.known callee.wants args))
        → ((A → HasCell g.state v (meaning_of o)) → Holds address)
        → ((formals : List Formal) → C (broken_actuals (env v c) None true (wants_for formals) args) → Holds (args_code (site v l) formals args))
        → Holds (first_value (site v l) args)
        → (C (broken_actuals (env v c) None true one_condition args) → Holds (first_address (site v l) args))
        → Holds (name_code (site v l) (meaning_of o) ss address (λ formals. args_code (site v l) formals args)
        (λ f. function_code (site v l) f t (first_value (site v l) args) (first_address (site v l) args)))
    a_found v l c ss q args address t None h to arguments value lent = no_code
    a_found v l c ss q args address t (Some f) h to arguments value lent =
        a_name v l c ss args address t f.meaning
        (λ x. held (fits_use g.state.blocks (no_selector ss) (no_actual args) f.meaning) q 310 (h.0 x).0) h.1 to arguments value lent

    lent_or :
        (v : List Level) (c : Around) (ending : Option ℕ) (t : Option TypeId) (x : ActualTree) (r : Bool) (by_reference by_value : Code)
        → C (broken_wanted (env v c) ending (if r then a_variable_of t else a_value t) x)
        → (C (broken_wanted (env v c) ending (a_variable_of t) x) → Holds by_reference) → Holds by_value → Holds (cond r by_reference by_value)
    lent_or v c ending t x true by_reference by_value h p q = p h
    lent_or v c ending t x false by_reference by_value h p q = q

    mutual
      pub expr : (v : List Level) (l : ℕ) (c : Around) → V v → (e : ExprTree) → C (broken_expr (env v c) e) → Holds (expr_code (site v l) e)
      expr v l c view (plain s p) h = simple v l c view s h
      expr v l c view (related s r u p) h =
          both (simple_code (site v l) s) (simple_code (site v l) u ⨾ one (site v l) (relation_instr r.0)) (simple v l c view s (λ x. (h x).0))
          (both (simple_code (site v l) u) (one (site v l) (relation_instr r.0)) (simple v l c view u (λ x. (h x).1.0))
          (alone (site v l) (relation_instr r.0) (relation r.0)))

      simple : (v : List Level) (l : ℕ) (c : Around) → V v → (e : SimpleTree) → C (broken_simple (env v c) e) → Holds (simple_code (site v l) e)
      simple v l c view (sum sign first rest) h =
          both (term_code (site v l) first) (sign_code (site v l) sign ⨾ summands_code (site v l) rest) (term v l c view first (λ x. (h x).0))
          (both (sign_code (site v l) sign) (summands_code (site v l) rest) (signed (site v l) sign) (summands v l c view _ rest (λ x. (h x).1.1)))

      summands :
          (v : List Level) (l : ℕ) (c : Around) → V v → (t : Option TypeId) (e : SummandTrees) → C (broken_summands (env v c) t e)
          → Holds (summands_code (site v l) e)
      summands v l c view t no_summands h = no_code
      summands v l c view t (more_summands op u rest) h =
          both (term_code (site v l) u) (one (site v l) (add_instr op.0) ⨾ summands_code (site v l) rest) (term v l c view u (λ x. (h x).0))
          (both (one (site v l) (add_instr op.0)) (summands_code (site v l) rest) (alone (site v l) (add_instr op.0) (addition op.0))
          (summands v l c view _ rest (λ x. (h x).1.1)))

      term : (v : List Level) (l : ℕ) (c : Around) → V v → (e : TermTree) → C (broken_term (env v c) e) → Holds (term_code (site v l) e)
      term v l c view (product f rest) h =
          both (factor_code (site v l) f) (multipliers_code (site v l) rest) (factor v l c view f (λ x. (h x).0))
          (multipliers v l c view _ rest (λ x. (h x).1))

      multipliers :
          (v : List Level) (l : ℕ) (c : Around) → V v → (t : Option TypeId) (e : MultiplierTrees) → C (broken_multipliers (env v c) t e)
          → Holds (multipliers_code (site v l) e)
      multipliers v l c view t no_multipliers h = no_code
      multipliers v l c view t (more_multipliers op f rest) h =
          both (factor_code (site v l) f) (one (site v l) (multiply_instr op.0) ⨾ multipliers_code (site v l) rest) (factor v l c view f (λ x. (h x).0))
          (both (one (site v l) (multiply_instr op.0)) (multipliers_code (site v l) rest) (alone (site v l) (multiply_instr op.0) (multiplication op.0))
          (multipliers v l c view _ rest (λ x. (h x).1.1)))

      factor : (v : List Level) (l : ℕ) (c : Around) → V v → (e : FactorTree) → C (broken_factor (env v c) e) → Holds (factor_code (site v l) e)
      factor v l c view (number k p) h = alone (site v l) (LIT k) refl
      factor v l c view (literal x p) h = alone (site v l) (LIT (char_in x)) refl
      factor v l c view (negation f p) h =
          both (factor_code (site v l) f) (one (site v l) NOT) (factor v l c view f (λ x. (h x).0)) (alone (site v l) NOT refl)
      factor v l c view (paren e p) h = expr v l c view e h
      factor v l c view (applied (desig x ss q) args p) h =
          let o = seen v x in
          let w = spot_of (env v a) o in
          a_found v l c ss q args (base_code (site v l) w.spot ⨾ selectors_code (site v l) w.t ss) (first_type (env v a) args) o
          ((λ y. (h y).0), λ y. (h y).1.1.1.0)
          (λ k. both (base_code (site v l) w.spot) (selectors_code (site v l) w.t ss) (base v l x o refl view k)
          (selectors v l c view w.t (variable_type (meaning_of o)) ss (λ y. (h y).1.0)))
          (λ formals k. arguments v l c view None true formals args k)
          (a_first_value v l c view None _ _ args (λ y. (h y).1.1.1.0))
          (λ k. a_first_address v l c view None true _ [] args k)

      pub a_first_value :
          (v : List Level) (l : ℕ) (c : Around) → V v → (ending : Option ℕ) (known : Bool) (ws : List Want) (args : ActualTrees)
          → C (broken_actuals (env v c) ending known ws args) → Holds (first_value (site v l) args)
      a_first_value v l c view ending known ws no_actuals h = no_code
      a_first_value v l c view ending known [] (more_actuals x rest) h = an_actual v l c view known x (λ y. (h y).0)
      a_first_value v l c view ending known (w ∷ ws) (more_actuals x rest) h = an_actual v l c view known x (λ y. (h y).0)

      pub a_first_address :
          (v : List Level) (l : ℕ) (c : Around) → V v → (ending : Option ℕ) (known : Bool) (t : Option TypeId) (ws : List Want) (args : ActualTrees)
          → C (broken_actuals (env v c) ending known (a_variable_of t ∷ ws) args) → Holds (first_address (site v l) args)
      a_first_address v l c view ending known t ws no_actuals h = no_code
      a_first_address v l c view ending known t ws (more_actuals x rest) h =
          lent v l c view ending known t x (λ y. (h y).0) (λ y. (h y).1.0)

      an_actual :
          (v : List Level) (l : ℕ) (c : Around) → V v → (known : Bool) (x : ActualTree) → C (broken_actual (env v c) known x)
          → Holds (actual_code (site v l) x)
      an_actual v l c view known (actual e) h = expr v l c view e h
      an_actual v l c view known (actual_width e w) h = expr v l c view e (λ y. (h y).0)

      lent :
          (v : List Level) (l : ℕ) (c : Around) → V v → (ending : Option ℕ) (known : Bool) (t : Option TypeId) (x : ActualTree)
          → C (broken_actual (env v c) known x) → C (broken_wanted (env v c) ending (a_variable_of t) x) → Holds (lent_code (site v l) x)
      lent v l c view ending known t (actual e) h k = variable v l c view ending e h (λ y. held (is_variable (env v c) ending e) _ 318 (k y).1)
      lent v l c view ending known t (actual_width e w) h k =
          variable v l c view ending e (λ y. (h y).0) (λ y. held (is_variable (env v c) ending e) _ 318 (k y).1)

      variable :
          (v : List Level) (l : ℕ) (c : Around) → V v → (ending : Option ℕ) (e : ExprTree) → C (broken_expr (env v c) e)
          → (A → is_variable (env v c) ending e ≡ true) → Holds (variable_code (site v l) e)
      variable v l c view ending (related x r u p) h k = no_code
      variable v l c view ending (plain (sum (Some sign) t us) p) h k = no_code
      variable v l c view ending (plain (sum None (product (number n q) ms) us) p) h k = no_code
      variable v l c view ending (plain (sum None (product (literal x q) ms) us) p) h k = no_code
      variable v l c view ending (plain (sum None (product (negation f q) ms) us) p) h k = no_code
      variable v l c view ending (plain (sum None (product (paren e q) ms) us) p) h k = no_code
      variable v l c view ending (plain (sum None (product (applied (desig x ss r) (more_actuals y args) q) ms) us) p) h k = no_code
      variable v l c view ending (plain (sum None (product (applied (desig x ss r) no_actuals q) (more_multipliers op f ms)) us) p) h k = no_code
      variable v l c view ending (plain (sum None (product (applied (desig x ss r) no_actuals q) no_multipliers) (more_summands op t us)) p) h k = no_code
      variable v l c view ending (plain (sum None (product (applied (desig x ss r) no_actuals q) no_multipliers) no_summands) p) h k =
          let o = seen v x in
          let w = spot_of (env v a) o in
          both (base_code (site v l) w.spot) (selectors_code (site v l) w.t ss)
          (base v l x o refl view (λ y. lent_cell (env v c) ending (no_selector ss) true o r (k y) (h y).0.0.0))
          (selectors v l c view w.t (variable_type (meaning_of o)) ss (λ y. (h y).0.0.1.0))

      pub arguments :
          (v : List Level) (l : ℕ) (c : Around) → V v → (ending : Option ℕ) (known : Bool) (formals : List Formal) (args : ActualTrees)
          → C (broken_actuals (env v c) ending known (wants_for formals) args) → Holds (args_code (site v l) formals args)
      arguments v l c view ending known formals no_actuals h = no_code
      arguments v l c view ending known [] (more_actuals x rest) h = no_code
      arguments v l c view ending known (f ∷ formals) (more_actuals x rest) h =
          both (cond f.reference (lent_code (site v l) x) (actual_code (site v l) x)) (args_code (site v l) formals rest)
          (lent_or v c ending f.t x f.reference (lent_code (site v l) x) (actual_code (site v l) x) (λ y. (h y).1.0)
          (λ k. lent v l c view ending known f.t x (λ y. (h y).0) k) (an_actual v l c view known x (λ y. (h y).0)))
          (arguments v l c view ending known formals rest (λ y. (h y).1.1))

      pub selectors :
          (v : List Level) (l : ℕ) (c : Around) → V v → (t u : Option TypeId) (ss : SelectorTrees) → C (broken_selectors (env v c) u ss)
          → Holds (selectors_code (site v l) t ss)
      selectors v l c view t u no_selectors h = no_code
      selectors v l c view t u (more_selectors (index es p) ss) h =
          both (indices_code (site v l) t es) (selectors_code (site v l) (type_behind (forms_of (site v l)) t es) ss)
          (indices v l c view t u es p (λ y. (h y).0)) (selectors v l c view (type_behind (forms_of (site v l)) t es) _ ss (λ y. (h y).1))
      selectors v l c view t u (more_selectors (field x p) ss) h =
          let i = FLD (field_cell (forms_of (site v l)) (form_in (forms_of (site v l)) t) x) in
          both (one (site v l) i) (selectors_code (site v l) (field_type (forms_of (site v l)) t x) ss) (alone (site v l) i refl)
          (selectors v l c view (field_type (forms_of (site v l)) t x) _ ss (λ y. (h y).1))

      indices :
          (v : List Level) (l : ℕ) (c : Around) → V v → (t u : Option TypeId) (es : ExprTrees) (p : Place) → C (broken_indexes (env v c) u es p)
          → Holds (indices_code (site v l) t es)
      indices v l c view t u no_exprs p h = no_code
      indices v l c view t u (more_exprs e es) p h =
          let i = index_instr (forms_of (site v l)) (form_in (forms_of (site v l)) t) in
          both (expr_code (site v l) e) (one (site v l) i ⨾ indices_code (site v l) (element_in (forms_of (site v l)) t) es)
          (expr v l c view e (λ y. (h y).0))
          (both (one (site v l) i) (indices_code (site v l) (element_in (forms_of (site v l)) t) es)
          (alone (site v l) i (indexing (forms_of (site v l)) (form_in (forms_of (site v l)) t)))
          (indices v l c view (element_in (forms_of (site v l)) t) _ es p (λ y. (h y).1.1)))

    pub address :
        (v : List Level) (l : ℕ) (c : Around) → V v → (x : Text) (o : Option Found) → seen v x ≡ o → (t : Option TypeId) (ss : SelectorTrees)
        → (A → HasCell g.state v (meaning_of o)) → C (broken_selectors (env v c) t ss) → Holds (address_code (site v l) o ss)
    address v l c view x o e t ss h k =
        let w = spot_of (env v a) o in
        both (base_code (site v l) w.spot) (selectors_code (site v l) w.t ss) (base v l x o e view h) (selectors v l c view w.t t ss k)

    pub designated :
        (v : List Level) (l : ℕ) (c : Around) → V v → (d : DesigTree) → C (broken_desig (env v c) d) → Holds (desig_code (site v l) d)
    designated v l c view (desig x ss p) h =
        address v l c view x (seen v x) refl (variable_type (meaning_of (seen v x))) ss (λ y. named_cell g.state v (meaning_of (seen v x)) p (h y).0)
        (λ y. (h y).1)

    pub an_object :
        (v : List Level) (l : ℕ) (c : Around) → V v → (d : DesigTree) → C (broken_desig (env v c) d) → Holds (object_code (site v l) d)
    an_object v l c view d h = both (desig_code (site v l) d) (one (site v l) OBJ) (designated v l c view d h) (alone (site v l) OBJ refl)

    -- ## Input and output

    written_plain : (x : Simple) → is_plain (write_instr x 0) ≡ true
    written_plain Integer = refl
    written_plain Boolean = refl
    written_plain Char = refl

    written_wide : (x : Simple) → is_plain (write_instr x 1) ≡ true
    written_wide Integer = refl
    written_wide Boolean = refl
    written_wide Char = refl

    read_plain : (x : Simple) → is_plain (read_instr x) ≡ true
    read_plain Integer = refl
    read_plain Boolean = refl
    read_plain Char = refl

    -- a literal is its number
    a_literal : (v : List Level) (l : ℕ) (e : ExprTree) (y : Text) → as_literal e ≡ Some y → Holds (expr_code (site v l) e)
    a_literal v l (related x r u p) y e = absurd (cc)
    a_literal v l (plain (sum (Some sign) t us) p) y e = absurd (cc)
    a_literal v l (plain (sum None (product (number n q) ms) us) p) y e = absurd (cc)
    a_literal v l (plain (sum None (product (negation f q) ms) us) p) y e = absurd (cc)
    a_literal v l (plain (sum None (product (paren x q) ms) us) p) y e = absurd (cc)
    a_literal v l (plain (sum None (product (applied d args q) ms) us) p) y e = absurd (cc)
    a_literal v l (plain (sum None (product (literal x q) (more_multipliers op f ms)) us) p) y e = absurd (cc)
    a_literal v l (plain (sum None (product (literal x q) no_multipliers) (more_summands op t us)) p) y e = absurd (cc)
    a_literal v l (plain (sum None (product (literal x q) no_multipliers) no_summands) p) y e =
        both (one (site v l) (LIT (char_in x)) ⨾ nothing) (nothing ⨾ nothing)
        (both (one (site v l) (LIT (char_in x))) nothing (alone (site v l) (LIT (char_in x)) refl) no_code) (both nothing nothing no_code no_code)

    an_item_value :
        (v : List Level) (l : ℕ) (c : Around) → V v → (e : ExprTree) (y : Option Text) → as_literal e ≡ y → C (written (env v c) y e)
        → Holds (expr_code (site v l) e)
    an_item_value v l c view e None same h = expr v l c view e (λ z. (h z).0)
    an_item_value v l c view e (Some y) same h = a_literal v l e y same

    a_plain_item : (v : List Level) (l : ℕ) (y : Option Text) (e : ExprTree) → Holds (expr_code (site v l) e) → Holds (plain_item (site v l) y e)
    a_plain_item v l None e h =
        let i = write_instr (simple_of (expr_type (env v a) e)) 0 in
        both (expr_code (site v l) e) (one (site v l) i) h (alone (site v l) i (written_plain (simple_of (expr_type (env v a) e))))
    a_plain_item v l (Some x) e h = writing (site v l) x 0 refl

    a_wide_item :
        (v : List Level) (l : ℕ) (y : Option Text) (e w : ExprTree) → Holds (expr_code (site v l) e) → Holds (expr_code (site v l) w)
        → Holds (wide_item (site v l) y e w)
    a_wide_item v l None e w h k =
        let i = write_instr (simple_of (expr_type (env v a) e)) 1 in
        both (expr_code (site v l) e) (expr_code (site v l) w ⨾ one (site v l) i) h
        (both (expr_code (site v l) w) (one (site v l) i) k (alone (site v l) i (written_wide (simple_of (expr_type (env v a) e)))))
    a_wide_item v l (Some x) e w h k = both (expr_code (site v l) w) (string (site v l) x 1) k (writing (site v l) x 1 refl)

    an_item : (v : List Level) (l : ℕ) (c : Around) → V v → (x : ActualTree) → C (broken_written (env v c) x) → Holds (item_code (site v l) x)
    an_item v l c view (actual e) h = a_plain_item v l (as_string e) e (an_item_value v l c view e (as_literal e) refl h)
    an_item v l c view (actual_width e w) h =
        a_wide_item v l (as_string e) e w (an_item_value v l c view e (as_literal e) refl (λ z. (h z).0)) (expr v l c view w (λ z. (h z).1.0))

    writes :
        (v : List Level) (l : ℕ) (c : Around) → V v → (args : ActualTrees) (newline : Bool) → C (broken_writes (env v c) args)
        → Holds (writes_code (site v l) args newline)
    writes v l c view no_actuals newline h = either newline (one (site v l) WRNL) nothing (alone (site v l) WRNL refl) no_code
    writes v l c view (more_actuals x rest) newline h =
        both (item_code (site v l) x) (writes_code (site v l) rest newline) (an_item v l c view x (λ z. (h z).0))
        (writes v l c view rest newline (λ z. (h z).1))

    an_input :
        (v : List Level) (l : ℕ) (c : Around) → V v → (e : ExprTree) → C (broken_expr (env v c) e) → (A → is_variable (env v c) None e ≡ true)
        → Holds (input_code (site v l) (as_desig e))
    an_input v l c view (related x r u p) h k = no_code
    an_input v l c view (plain (sum (Some sign) t us) p) h k = no_code
    an_input v l c view (plain (sum None (product (number n q) ms) us) p) h k = no_code
    an_input v l c view (plain (sum None (product (literal x q) ms) us) p) h k = no_code
    an_input v l c view (plain (sum None (product (negation f q) ms) us) p) h k = no_code
    an_input v l c view (plain (sum None (product (paren e q) ms) us) p) h k = no_code
    an_input v l c view (plain (sum None (product (applied (desig x ss r) (more_actuals y args) q) ms) us) p) h k = no_code
    an_input v l c view (plain (sum None (product (applied (desig x ss r) no_actuals q) (more_multipliers op f ms)) us) p) h k = no_code
    an_input v l c view (plain (sum None (product (applied (desig x ss r) no_actuals q) no_multipliers) (more_summands op t us)) p) h k = no_code
    an_input v l c view (plain (sum None (product (applied (desig x ss r) no_actuals q) no_multipliers) no_summands) p) h k =
        let o = seen v x in
        let i = read_instr (simple_of (desig_type (env v a) (desig x ss r))) in
        both (address_code (site v l) o ss) (one (site v l) i)
        (address v l c view x o refl (variable_type (meaning_of o)) ss (λ y. lent_cell (env v c) None (no_selector ss) true o r (k y) (h y).0.0.0)
        (λ y. (h y).0.0.1.0)) (alone (site v l) i (read_plain (simple_of (desig_type (env v a) (desig x ss r)))))

    reads :
        (v : List Level) (l : ℕ) (c : Around) → V v → (args : ActualTrees) (skip : Bool) → C (broken_reads (env v c) args)
        → Holds (reads_code (site v l) args skip)
    reads v l c view no_actuals skip h = either skip (one (site v l) RDNL) nothing (alone (site v l) RDNL refl) no_code
    reads v l c view (more_actuals (actual e) rest) skip h =
        both (input_code (site v l) (as_desig e)) (reads_code (site v l) rest skip)
        (an_input v l c view e (λ z. (h z).0.0) (λ z. held (is_variable (env v c) None e) _ 318 (h z).0.1.0)) (reads v l c view rest skip (λ z. (h z).1))
    reads v l c view (more_actuals (actual_width e w) rest) skip h =
        both (input_code (site v l) (as_desig e)) (reads_code (site v l) rest skip)
        (an_input v l c view e (λ z. (h z).0.0) (λ z. held (is_variable (env v c) None e) _ 318 (h z).0.1.0)) (reads v l c view rest skip (λ z. (h z).1))

    -- ## Predeclared procedures

    item_value :
        (v : List Level) (l : ℕ) (c : Around) → V v → (known : Bool) (x : ActualTree) → C (broken_actual (env v c) known x)
        → Holds (expr_code (site v l) (item_of x))
    item_value v l c view known (actual e) h = expr v l c view e h
    item_value v l c view known (actual_width e w) h = expr v l c view e (λ y. (h y).0)

    a_second :
        (v : List Level) (l : ℕ) (c : Around) → V v → (w : Want) (ws : List Want) (args : ActualTrees) (P : Option ExprTree → Type 0)
        → P None → ((e : ExprTree) → Holds (expr_code (site v l) e) → P (Some e)) → C (broken_actuals (env v c) None true (w ∷ ws) args)
        → P (expr_of (behind_first args))
    a_second v l c view w ws no_actuals P p q h = p
    a_second v l c view w ws (more_actuals x no_actuals) P p q h = p
    a_second v l c view w [] (more_actuals x (more_actuals y rest)) P p q h = q (item_of y) (item_value v l c view true y (λ z. (h z).1.1.0))
    a_second v l c view w (u ∷ ws) (more_actuals x (more_actuals y rest)) P p q h = q (item_of y) (item_value v l c view true y (λ z. (h z).1.1.0))

    with_first :
        (v : List Level) (l : ℕ) (c : Around) → V v → (t : Option TypeId) (ws : List Want) (args : ActualTrees)
        → C (broken_actuals (env v c) None true (a_variable_of t ∷ ws) args) → Holds (first_object (site v l) args)
    with_first v l c view t ws args h =
        both (first_address (site v l) args) (one (site v l) OBJ) (a_first_address v l c view None true t ws args h) (alone (site v l) OBJ refl)

    with_second :
        (v : List Level) (l : ℕ) (c : Around) → V v → (t : Option TypeId) (ws : List Want) (args : ActualTrees) (i : Instr) → is_plain i ≡ true
        → C (broken_actuals (env v c) None true (a_variable_of t ∷ ws) args)
        → Holds (first_object (site v l) args ⨾ given_code (site v l) (expr_of (behind_first args)) ⨾ one (site v l) i)
    with_second v l c view t ws args i p h =
        both (first_object (site v l) args) (given_code (site v l) (expr_of (behind_first args)) ⨾ one (site v l) i) (with_first v l c view t ws args h)
        (both (given_code (site v l) (expr_of (behind_first args))) (one (site v l) i)
        (a_second v l c view (a_variable_of t) ws args (λ o. Holds (given_code (site v l) o)) no_code (λ e q. q) h) (alone (site v l) i p))

    ranked :
        (v : List Level) (l : ℕ) (c : Around) → V v → (t : Option TypeId) (ws : List Want) (args : ActualTrees)
        → C (broken_actuals (env v c) None true (a_variable_of t ∷ ws) args)
        → Holds (first_object (site v l) args ⨾ rank_code (site v l) (expr_of (behind_first args)) ⨾ one (site v l) DELAY)
    ranked v l c view t ws args h =
        both (first_object (site v l) args) (rank_code (site v l) (expr_of (behind_first args)) ⨾ one (site v l) DELAY) (with_first v l c view t ws args h)
        (both (rank_code (site v l) (expr_of (behind_first args))) (one (site v l) DELAY)
        (a_second v l c view (a_variable_of t) ws args (λ o. Holds (rank_code (site v l) o)) (alone (site v l) (LIT (pos 0)) refl) (λ e q. q) h)
        (alone (site v l) DELAY refl))

    of_first :
        (v : List Level) (l : ℕ) (c : Around) → V v → (t : Option TypeId) (ws : List Want) (args : ActualTrees) (i : Instr) → is_plain i ≡ true
        → C (broken_actuals (env v c) None true (a_variable_of t ∷ ws) args) → Holds (first_object (site v l) args ⨾ one (site v l) i)
    of_first v l c view t ws args i p h =
        both (first_object (site v l) args) (one (site v l) i) (with_first v l c view t ws args h) (alone (site v l) i p)

    called_with_first :
        (v : List Level) (c : Around) (q : Place) (args : ActualTrees) (r : Routine) (ws : List Want) (s : CallSite) → r ≡ a_procedure ws s
        → C (call_routine (env v c) r q args) → C (broken_actuals (env v c) None true ws args)
    called_with_first v c q args r ws s e h x =
        let k : IsClean (call_routine (env v c) (a_procedure ws s) q args) =
        subst (λ (r : Routine). IsClean (call_routine (env v c) r q args)) e (h x) in k.1.0

    a_predeclared_procedure :
        (v : List Level) (l : ℕ) (c : Around) → V v → (q : Place) (args : ActualTrees) (p : AProcedure) (r : Routine) → IsOfProcedure p r
        → C (call_routine (env v c) r q args) → Holds (procedure_code (site v l) p args)
    a_predeclared_procedure v l c view q args (reader skip) r is h =
        reads v l c view args skip (λ x. let k : IsClean (call_routine (env v c) (a_reader is.0) q args) =
        subst (λ (r : Routine). IsClean (call_routine (env v c) r q args)) is.1 (h x) in k.1)
    a_predeclared_procedure v l c view q args (writer newline) r is h =
        writes v l c view args newline (λ x. let k : IsClean (call_routine (env v c) (a_writer is.0) q args) =
        subst (λ (r : Routine). IsClean (call_routine (env v c) r q args)) is.1 (h x) in k.1)
    a_predeclared_procedure v l c view q args initial r is h =
        with_second v l c view is.0 is.1 args SINI refl (called_with_first v c q args r (a_variable_of is.0 ∷ is.1) is.2 is.3 h)
    a_predeclared_procedure v l c view q args wait r is h =
        of_first v l c view is.0 is.1 args SWAIT refl (called_with_first v c q args r (a_variable_of is.0 ∷ is.1) is.2 is.3 h)
    a_predeclared_procedure v l c view q args signal r is h =
        of_first v l c view is.0 is.1 args SSIG refl (called_with_first v c q args r (a_variable_of is.0 ∷ is.1) is.2 is.3 h)
    a_predeclared_procedure v l c view q args delay r is h =
        by (nat_lt 1 (actual_count args)) (λ x. let k : IsClean (call_routine (env v c) a_delay q args) =
        subst (λ (r : Routine). IsClean (call_routine (env v c) r q args)) is (h x) in k.1.0)
      where
        by : (r : Bool) → C (broken_actuals (env v c) None true (if r then ranked_condition else one_condition) args)
            → Holds (procedure_code (site v l) delay args)
        by true k = ranked v l c view _ _ args k
        by false k = ranked v l c view _ _ args k
    a_predeclared_procedure v l c view q args resume r is h =
        of_first v l c view is.0 is.1 args RESUME refl (called_with_first v c q args r (a_variable_of is.0 ∷ is.1) is.2 is.3 h)
    a_predeclared_procedure v l c view q args sleep r is h =
        both (first_value (site v l) args) (one (site v l) SLEEP)
        (a_first_value v l c view None true is.0 args (called_with_first v c q args r is.0 is.1 is.2 h)) (alone (site v l) SLEEP refl)
    a_predeclared_procedure v l c view q args no_procedure r is h = no_code

    -- ## Calls

    activated :
        (v : List Level) (l : ℕ) (c : Around) → V v → (n : ℕ) (code : Code) (q : Place) (args : ActualTrees) → Holds code
        → C (activate (env v c) n q args) → Holds (activation_code (site v l) n code args)
    activated v l c view n code q args p h =
        let head = process_at g.state.blocks n in
        let new = one (site v l) (NEW (block_number g head.scope)) in
        both code (one (site v l) OBJ ⨾ args_code (site v l) head.formals args ⨾ new) p
        (both (one (site v l) OBJ) (args_code (site v l) head.formals args ⨾ new) (alone (site v l) OBJ refl)
        (both (args_code (site v l) head.formals args) new
        (arguments v l c view None true head.formals args (λ x. activated_args (env v c) n q args (h x)))
        (alone (site v l) (NEW (block_number g head.scope)) refl)))

    process_call :
        (v : List Level) (l : ℕ) (c : Around) → V v → (k : Option ℕ) (code : Code) (q : Place) (args : ActualTrees) → Holds code
        → ((n : ℕ) → k ≡ Some n → C (activate (env v c) n q args)) → Holds (process_code (site v l) k code args)
    process_call v l c view None code q args p h = no_code
    process_call v l c view (Some n) code q args p h = activated v l c view n code q args p (h n refl)

    -- the last selector, where it is a name behind `.`, gives no code but its own
    selectors_last :
        (v : List Level) (l : ℕ) (c : Around) → V v → (t u : Option TypeId) (ss : SelectorTrees) (x : Text × Place) → last_field ss ≡ Some x
        → C (broken_selectors (env v c) u (before_last ss)) → Holds (selectors_code (site v l) t ss)
    selectors_last v l c view t u no_selectors x e h = no_code
    selectors_last v l c view t u (more_selectors (index es p) no_selectors) x e h = absurd (cc)
    selectors_last v l c view t u (more_selectors (field y p) no_selectors) x e h =
        both (one (site v l) (FLD (field_cell g.state.forms (form_in g.state.forms t) y))) nothing
        (alone (site v l) (FLD (field_cell g.state.forms (form_in g.state.forms t) y)) refl) no_code
    selectors_last v l c view t u (more_selectors (index es p) (more_selectors s ss)) x e h =
        both (indices_code (site v l) t es) (selectors_code (site v l) (type_behind g.state.forms t es) (more_selectors s ss))
        (indices v l c view t u es p (λ y. (h y).0))
        (selectors_last v l c view (type_behind g.state.forms t es) _ (more_selectors s ss) x e (λ y. (h y).1))
    selectors_last v l c view t u (more_selectors (field y p) (more_selectors s ss)) x e h =
        both (one (site v l) (FLD (field_cell g.state.forms (form_in g.state.forms t) y)))
        (selectors_code (site v l) (field_type g.state.forms t y) (more_selectors s ss))
        (alone (site v l) (FLD (field_cell g.state.forms (form_in g.state.forms t) y)) refl)
        (selectors_last v l c view (field_type g.state.forms t y) _ (more_selectors s ss) x e (λ y. (h y).1))

    module _
        (numbered : AreNumbered g.state)
        (entering :
        (n i : ℕ) → n < length g.state.blocks.modules
        → X (enter_instr (module_at g.state.blocks n).resource (module_number g.state.blocks n) (block_number g i)))
        (meeting :
        (n e : ℕ) → n < length g.state.blocks.processes → HasEntry g.state.blocks (process_at g.state.blocks n).scope e
        → X (ECALL e (formals_cells g.state.forms (entry_at g.state.blocks n e))))
      where
        exported :
            (v : List Level) (l : ℕ) (c : Around) → V v → (n : ℕ) → n < length g.state.blocks.modules → (m : Option Meaning) (q : Place)
            (args : ActualTrees) → C (call_exported (env v c) m q args) → Holds (exported_code (site v l) n m args)
        exported v l c view n below None q args h = no_code
        exported v l c view n below (Some (AConstant t k)) q args h = no_code
        exported v l c view n below (Some (Named t)) q args h = no_code
        exported v l c view n below (Some (Variable t r)) q args h = no_code
        exported v l c view n below (Some (Sub p)) q args h =
            let head = sub_at g.state.blocks p in
            let i = enter_instr (module_at g.state.blocks n).resource (module_number g.state.blocks n) (block_number g head.scope) in
            both (args_code (site v l) head.formals args) (one (site v l) i)
            (arguments v l c view None true head.formals args (λ x. exported_args (env v c) p q args (h x)))
            (one_holds (site v l) i (entering n head.scope below))
        exported v l c view n below (Some (Module p)) q args h = no_code
        exported v l c view n below (Some (Process p)) q args h = no_code
        exported v l c view n below (Some (Entry p)) q args h = no_code
        exported v l c view n below (Some (Predeclared p)) q args h = no_code
        exported v l c view n below (Some Faulty) q args h = no_code

        of_module :
            (v : List Level) (l : ℕ) (c : Around) → V v → (n : ℕ) → n < length g.state.blocks.modules → (y : Option (Text × Place)) (args : ActualTrees)
            → ((x : Text × Place) → y ≡ Some x → C (call_module (env v c) n x args)) → Holds (module_code (site v l) n y args)
        of_module v l c view n below None args h = no_code
        of_module v l c view n below (Some x) args h =
            exported v l c view n below (meaning_in (scope_at g.state.blocks.scopes (module_at g.state.blocks n).scope) x.0) x.1 args (h x refl)

        entered :
            (v : List Level) (l : ℕ) (c : Around) → V v → (n : ℕ) → n < length g.state.blocks.processes → (x : Text) (m : Option Meaning)
            → name_in_process g.state.blocks n x ≡ m → (code : Code) (q : Place) (args : ActualTrees) → Holds code
            → C (call_entry_named (env v c) n m q args) → Holds (entry_code (site v l) n m code args)
        entered v l c view n below x None is code q args p h = no_code
        entered v l c view n below x (Some (AConstant t k)) is code q args p h = no_code
        entered v l c view n below x (Some (Named t)) is code q args p h = no_code
        entered v l c view n below x (Some (Variable t r)) is code q args p h = no_code
        entered v l c view n below x (Some (Sub k)) is code q args p h = no_code
        entered v l c view n below x (Some (Module k)) is code q args p h = no_code
        entered v l c view n below x (Some (Process k)) is code q args p h = no_code
        entered v l c view n below x (Some (Entry e)) is code q args p h =
            let formals = entry_at g.state.blocks n e in
            let i = ECALL e (formals_cells g.state.forms formals) in
            both code (one (site v l) OBJ ⨾ args_code (site v l) formals args ⨾ one (site v l) i) p
            (both (one (site v l) OBJ) (args_code (site v l) formals args ⨾ one (site v l) i) (alone (site v l) OBJ refl)
            (both (args_code (site v l) formals args) (one (site v l) i)
            (arguments v l c view None true formals args (λ y. entry_args (env v c) n e q args (h y)))
            (one_holds (site v l) i (meeting n e below (an_entry g.state numbered n e x is)))))
        entered v l c view n below x (Some (Predeclared k)) is code q args p h = no_code
        entered v l c view n below x (Some Faulty) is code q args p h = no_code

        of_type : (u : Option TypeId) (n : ℕ) (e : Env) → e.state ≡ g.state → process_of_type e u ≡ Some n → n < length g.state.blocks.processes
        of_type None n e same is = absurd (cc)
        of_type (Some t) n e same is = a_process_type g.state numbered t n (subst (λ z. process_form (form_of z.forms t) ≡ Some n) same is)

        variable_call :
            (v : List Level) (l : ℕ) (c : Around) → V v → IsNear c a → (x : Text) (f : Found) → seen v x ≡ Some f → (t : TypeId) (r : Bool)
            → (A → HasCell g.state v (meaning_of (Some f))) → (ss : SelectorTrees) (q : Place) (args : ActualTrees)
            → C (call_of (env v c) (Some (Variable t r)) ss q args) → (y : Option (Text × Place)) → last_field ss ≡ y
            → Holds (called_variable (site v l) f ss t y args)
        variable_call v l c view near x f is t r cell ss q args h None last =
            let same = selected_same g.state v c a near.alike (Some t) ss in
            let u = selected (env v a) (Some t) ss in
            process_call v l c view (process_of_type (env v a) u) (address_code (site v l) (Some f) ss) q args
            (address v l c view x (Some f) is (Some t) ss cell (λ z. (variable_called (env v c) t r ss q args last (h z)).0))
            (λ n e z. activated_type (env v c) u n q args e
            (subst (λ (w : Option TypeId). IsClean (activate_variable (env v c) w q args)) same
            (variable_called (env v c) t r ss q args last (h z)).1))
        variable_call v l c view near x f is t r cell ss q args h (Some y) last = by (process_of_type (env v a) (selected (env v a) (Some t)
            (before_last ss))) refl
          where
            part : A → IsClean (broken_selectors (env v c) (Some t) (before_last ss)) × IsClean (call_part (env v c) (selected (env v a) (Some t)
                (before_last ss)) y q args)
            part z =
                let both_are = variable_part (env v c) t r ss y q args last (h z) in (
                  both_are.0,
                  subst (λ (w : Option TypeId). IsClean (call_part (env v c) w y q args)) (selected_same g.state v c a near.alike (Some t)
                      (before_last ss)) both_are.1,
                )

            by : (k : Option ℕ) → process_of_type (env v a) (selected (env v a) (Some t) (before_last ss)) ≡ k
                → Holds (field_code (site v l) f ss (Some t) k y.0 args)
            by (Some n) e =
                entered v l c view n (of_type (selected (env v a) (Some t) (before_last ss)) n (env v a) refl e) y.0 (name_in_process g.state.blocks n y.0) refl
                (address_code (site v l) (Some f) (before_last ss)) y.1 args
                (address v l c view x (Some f) is (Some t) (before_last ss) cell (λ z. (part z).0))
                (λ z. field_entry (env v c) (selected (env v a) (Some t) (before_last ss)) n y q args e (part z).1)
            by None e =
                let w = spot_of (env v a) (Some f) in
                process_call v l c view (process_of_type (env v a) (selected (env v a) (Some t) ss)) (address_code (site v l) (Some f) ss) q args
                (both (base_code (site v l) w.spot) (selectors_code (site v l) w.t ss) (base v l x (Some f) is view cell)
                (selectors_last v l c view w.t (Some t) ss y last (λ z. (part z).0)))
                (λ n k z. field_process (env v c) (selected (env v a) (Some t) (before_last ss)) n y q args e
                (subst (λ (o : Option TypeId). process_of_type (env v a) o ≡ Some n) (selected_last (env v a) (Some t) ss y last) k) (part z).1)

        single_call :
            (v : List Level) (l : ℕ) (c : Around) → V v → (x : Text) (f : Found) → seen v x ≡ Some f → (n : ℕ) → n < length g.state.blocks.processes
            → (A → HasCell g.state v (meaning_of (Some f))) → (ss : SelectorTrees) (q : Place) (args : ActualTrees)
            → C (call_of (env v c) (Some (Process n)) ss q args) → (y : Option (Text × Place)) → last_field ss ≡ y
            → Holds (called_process (site v l) f n y args)
        single_call v l c view x f is n below cell ss q args h None last =
            activated v l c view n (address_code (site v l) (Some f) no_selectors) q args
            (address v l c view x (Some f) is None no_selectors cell (λ z. tt)) (λ z. process_activated (env v c) n ss q args last (h z))
        single_call v l c view x f is n below cell ss q args h (Some y) last =
            entered v l c view n below y.0 (name_in_process g.state.blocks n y.0) refl (address_code (site v l) (Some f) no_selectors) y.1 args
            (address v l c view x (Some f) is None no_selectors cell (λ z. tt)) (λ z. process_entered (env v c) n ss y q args last (h z))

        a_meaning_call :
            (v : List Level) (l : ℕ) (c : Around) → V v → IsNear c a → (x : Text) (f : Found) → seen v x ≡ Some f → (m : Meaning) → f.meaning ≡ m
            → (ss : SelectorTrees) (q : Place) (args : ActualTrees) → C (call_of (env v c) (Some m) ss q args) → Holds (called_code (site v l) f m ss args)
        a_meaning_call v l c view near x f is (AConstant t k) e ss q args h = no_code
        a_meaning_call v l c view near x f is (Named t) e ss q args h = no_code
        a_meaning_call v l c view near x f is (Variable t r) e ss q args h =
            variable_call v l c view near x f is t r (λ z. subst (λ (o : Meaning). HasCell g.state v (Some o)) (sym e) tt) ss q args h (last_field ss) refl
        a_meaning_call v l c view near x f is (Sub n) e ss q args h =
            let head = sub_at g.state.blocks n in
            a_sub_call (site v l) n (args_code (site v l) head.formals args)
            (arguments v l c view None true head.formals args (λ z. called_sub (env v c) head.sort head.formals q args (sub_called
            (env v c) n ss q args (h z))))
        a_meaning_call v l c view near x f is (Module n) e ss q args h =
            of_module v l c view n
            (a_module g.state.blocks f.scope n (subst (λ (o : Meaning). Stands g.state.blocks f.scope o) e (stands g.state numbered v x f is)))
            (last_field ss) args (λ y last z. module_called (env v c) n ss y q args last (h z))
        a_meaning_call v l c view near x f is (Process n) e ss q args h =
            single_call v l c view x f is n
            (a_process g.state.blocks f.scope n (subst (λ (o : Meaning). Stands g.state.blocks f.scope o) e (stands g.state numbered v x f is)))
            (λ z. subst (λ (o : Meaning). HasCell g.state v (Some o)) (sym e) tt) ss q args h (last_field ss) refl
        a_meaning_call v l c view near x f is (Entry n) e ss q args h = no_code
        a_meaning_call v l c view near x f is (Predeclared k) e ss q args h =
            a_predeclared_procedure v l c view q args (procedure_of k) (routine_of k) (matches_procedure k) (λ z. routine_called (env v c) k ss q args (h z))
        a_meaning_call v l c view near x f is Faulty e ss q args h = no_code

        a_name_call :
            (v : List Level) (l : ℕ) (c : Around) → V v → IsNear c a → (x : Text) (o : Option Found) → seen v x ≡ o → (ss : SelectorTrees) (q : Place)
            (args : ActualTrees) → C (call_of (env v c) (meaning_of o) ss q args) → Holds (found_code (site v l) o ss args)
        a_name_call v l c view near x None is ss q args h = no_code
        a_name_call v l c view near x (Some f) is ss q args h = a_meaning_call v l c view near x f is f.meaning refl ss q args h

        pub a_call :
            (v : List Level) (l : ℕ) (c : Around) → V v → IsNear c a → (d : DesigTree) (args : ActualTrees) → C (broken_call (env v c) d args)
            → Holds (call_code (site v l) d args)
        a_call v l c view near (desig x ss p) args h =
            a_name_call v l c view near x (seen v x) refl ss p args (λ z. call_is (env v c) x ss p args (h z))

        -- ## Communication

        a_message :
            (v : List Level) (l : ℕ) (c : Around) → V v → (carried : Option TypeId) (e : ExprTree) (p : Place)
            → C (broken_message (env v c) carried e p) → Holds (message_code (site v l) (message_of (context_of (site v l)) e))
        a_message v l c view carried e p h = by (names_any (env v a) (as_desig e)) h
          where
            by : (r : Bool)
                → C (if r then any_rule carried (expr_place e)
                else (broken_expr (env v c) e ⨟ types_rule carried (expr_type (env v c) e) p ⨟ only_any_rule carried p
                ⨟ value_rule g.state.forms (expr_type (env v c) e) (expr_place e)))
                → Holds (message_code (site v l) (if r then None else Some e))
            by true k = no_code
            by false k = expr v l c view e (λ z. (k z).0)

        a_receiver :
            (v : List Level) (l : ℕ) (c : Around) → V v → (carried : Option TypeId) (d : DesigTree) (p : Place)
            → C (broken_receiver (env v c) carried d p) → Holds (receiver_code (site v l) (receiver_of (context_of (site v l)) d))
        a_receiver v l c view carried d p h = by (names_any (env v a) (Some d)) h
          where
            by : (r : Bool)
                → C (if r then any_rule carried (desig_place d)
                else (broken_desig (env v c) d ⨟ types_rule carried (desig_type (env v c) d) p ⨟ only_any_rule carried p
                ⨟ value_rule g.state.forms (desig_type (env v c) d) (desig_place d)))
                → Holds (receiver_code (site v l) (if r then None else Some d))
            by true k = no_code
            by false k = designated v l c view d (λ z. (k z).0)

        sent :
            (v : List Level) (l : ℕ) (c : Around) → V v → (d : DesigTree) (e : ExprTree) (p : Place) → C (broken_send (env v c) d e p)
            → (i : Code) → Holds i → Holds (object_code (site v l) d ⨾ message_code (site v l) (message_of (context_of (site v l)) e) ⨾ i)
        sent v l c view d e p h i k =
            let m = message_code (site v l) (message_of (context_of (site v l)) e) in
            both (object_code (site v l) d) (m ⨾ i) (an_object v l c view d (λ z. (h z).0.0))
            (both m i (a_message v l c view (carried_by g.state.forms (desig_type (env v c) d)) e p (λ z. (h z).1)) k)

        received :
            (v : List Level) (l : ℕ) (c : Around) → V v → (d w : DesigTree) (p : Place) → C (broken_receive (env v c) d w p)
            → (i : Code) → Holds i → Holds (object_code (site v l) d ⨾ receiver_code (site v l) (receiver_of (context_of (site v l)) w) ⨾ i)
        received v l c view d w p h i k =
            let r = receiver_code (site v l) (receiver_of (context_of (site v l)) w) in
            both (object_code (site v l) d) (r ⨾ i) (an_object v l c view d (λ z. (h z).0.0))
            (both r i (a_receiver v l c view (carried_by g.state.forms (desig_type (env v c) d)) w p (λ z. (h z).1)) k)

        assigned :
            (v : List Level) (l : ℕ) (c : Around) → V v → (d : DesigTree) (e : ExprTree) (p : Place) → C (broken_assign (env v c) d e p)
            → Holds (assign_code (site v l) d e)
        assigned v l c view d e p h =
            let i = STORE (type_cells g.state.forms (expr_type (env v a) e)) in
            both (desig_code (site v l) d) (expr_code (site v l) e ⨾ one (site v l) i) (target d (λ z. (h z).0))
            (both (expr_code (site v l) e) (one (site v l) i) (expr v l c view e (λ z. (h z).1.0)) (alone (site v l) i refl))
          where
            target : (d : DesigTree) → C (broken_target (env v c) d) → Holds (desig_code (site v l) d)
            target (desig x no_selectors q) k =
                address v l c view x (seen v x) refl None no_selectors (λ z. target_cell (env v c) (meaning_of (seen v x)) q (k z)) (λ z. tt)
            target (desig x (more_selectors s ss) q) k = designated v l c view (desig x (more_selectors s ss) q) k

        -- ## Values of a replicated alternative

        -- each writes the same variable
        AllAt : Spot → List Replica → Type 0
        AllAt w [] = Unit {0}
        AllAt w (r ∷ rs) = (r.at ≡ w) × AllAt w rs

        from_at : (w : Spot) (line : ℕ) (low : ℤ) (n : ℕ) → AllAt w (replicas_from w line low n)
        unfolding AllAt
        from_at w line low zero = tt
        from_at w line low (suc n) = (refl, from_at w line (low +ℤ pos 1) n)

        between_at : (w : Spot) (line : ℕ) (low high : ℤ) → AllAt w (replicas_between w line low high)
        unfolding AllAt
        between_at w line low high = by (int_le low high)
          where
            by : (r : Bool) → AllAt w (if r then replicas_from w line low (extent low high) else [])
            by true = from_at w line low (extent low high)
            by false = tt

        all_at : (w : Spot) (line : ℕ) (x y : Option Ordinal) → AllAt w (replicas_by w line x y)
        unfolding AllAt
        all_at w line None y = tt
        all_at w line (Some x) None = tt
        all_at w line (Some x) (Some y) = between_at w line x.value y.value

        a_replica : (v : List Level) (l : ℕ) (w : Spot) (r : Replica) → r.at ≡ w → Holds (base_code (site v l) w) → Holds (replica_code (site v l) (Some r))
        a_replica v l w r e h =
            both (base_code (site v l) r.at) (one (site v l) (LIT r.value) ⨾ one (site v l) (STORE 1))
            (subst (λ x. Holds (base_code (site v l) x)) (sym e) h)
            (both (one (site v l) (LIT r.value)) (one (site v l) (STORE 1)) (alone (site v l) (LIT r.value) refl) (alone (site v l) (STORE 1) refl))

        chosen : (v : List Level) (l : ℕ) (w : Spot) (rs : List Replica) → AllAt w rs → Holds (base_code (site v l) w) → Holds (chosen_code (site v l) rs)
        unfolding AllAt
        chosen v l w [] e h = no_code
        chosen v l w (r ∷ rs) e h =
            let rest = chosen_code (site v l) rs in
            both (replica_code (site v l) (Some r)) (over (site v l) JMP rest.size ⨾ rest) (a_replica v l w r e.0 h)
            (both (over (site v l) JMP rest.size) rest (leading (site v l) JMP rest.size (λ j. plain_one (JMP j) refl)) (chosen v l w rs e.1 h))

        spread_base :
            (v : List Level) (l : ℕ) (c : Around) → V v → (x : Spread) → C (broken_spread (env v c) (Some x))
            → Holds (base_code (site v l) (spot_of (env v a) (seen v x.name)).spot)
        spread_base v l c view x h =
            base v l x.name (seen v x.name) refl view (λ z. named_cell g.state v (meaning_of (seen v x.name)) x.place (h z).0)

        spread_chosen :
            (v : List Level) (l : ℕ) (c : Around) → V v → (x : Option Spread) → C (broken_spread (env v c) x)
            → Holds (chosen_code (site v l) (spread_replicas (site v l) x))
        spread_chosen v l c view None h = no_code
        spread_chosen v l c view (Some x) h =
            let w = (spot_of (env v a) (seen v x.name)).spot in
            chosen v l w (replicas (context_of (site v l)) x) (all_at w l (constant_value g.state.blocks.scopes v x.low)
            (constant_value g.state.blocks.scopes v x.high)) (spread_base v l c view x h)

        -- ## Labels

        labels : (s : Site) (between : ℕ) (ls : List Constant) → Holds (labels_code s between ls)
        labels s between [] = no_code
        labels s between (x ∷ ls) =
            let f : ℕ → Instr = λ at. CEQ (label_of (constant_value s.env.state.blocks.scopes s.env.view x)) at in
            both (over s f (length ls + between)) (labels_code s between ls) (leading s f (length ls + between) (λ j. plain_one (f j) refl))
            (labels s between ls)

        guarded :
            (v : List Level) (l : ℕ) (c : Around) → V v → (e : Option ExprTree) (inner : Code) → C (broken_guard (env v c) e) → Holds inner
            → Holds (guarded_code (site v l) e inner)
        guarded v l c view None inner h k = k
        guarded v l c view (Some e) inner h k =
            both (expr_code (site v l) e) (over (site v l) JF inner.size ⨾ inner) (expr v l c view e (λ z. (h z).0))
            (both (over (site v l) JF inner.size) inner (leading (site v l) JF inner.size (λ j. plain_one (JF j) refl)) k)

        decision : (s : Site) (pri : Bool) (o : Option ℕ) → Holds (sel_code s pri o)
        decision s true None = alone s (SEL 1 0) refl
        decision s false None = alone s (SEL 0 0) refl
        decision s true (Some count) = leading s (λ at. SEL 1 at) count (λ j. plain_one (SEL 1 j) refl)
        decision s false (Some count) = leading s (λ at. SEL 0 at) count (λ j. plain_one (SEL 0 j) refl)

        -- whatever its branch
        AllArmed : Site → List Alternative → Type 0
        AllArmed s [] = Unit {0}
        AllArmed s (x ∷ xs) = ((branch : ℕ) → Holds (alternative_code s x branch)) × AllArmed s xs

        armed_append : (s : Site) (xs ys : List Alternative) → AllArmed s xs → AllArmed s ys → AllArmed s (xs ++ ys)
        unfolding AllArmed
        armed_append s [] ys h k = k
        armed_append s (x ∷ xs) ys h k = (h.0, armed_append s xs ys h.1 k)

        all_armed : (s : Site) (xs : List Alternative) (ds : List ℕ) → AllArmed s xs → Holds (alternatives_code s xs ds)
        unfolding AllArmed
        all_armed s [] ds h = no_code
        all_armed s (x ∷ xs) ds h =
            let behind = alternatives_code s xs (drop 1 ds) in
            both (alternative_code s x (behind.size + 1 + first_of ds)) behind (h.0 (behind.size + 1 + first_of ds)) (all_armed s xs (drop 1 ds) h.1)

        replicas_armed :
            (v : List Level) (l : ℕ) (w : Spot) (n : ℕ) (guard : Option ExprTree) (x : CommTree) (ss : StmtTrees) (rs : List Replica) → AllAt w rs
            → Holds (base_code (site v l) w) → ((branch : ℕ) → Holds (guarded_code (site v l) guard (comm_code (site v l) n x branch)))
            → AllArmed (site v l) (map (λ r. alternative n guard x ss (Some r)) rs)
        unfolding AllAt AllArmed
        replicas_armed v l w n guard x ss [] e h k = tt
        replicas_armed v l w n guard x ss (r ∷ rs) e h k = (
          λ branch. both (replica_code (site v l) (Some r)) (guarded_code (site v l) guard (comm_code (site v l) n x branch)) (a_replica v l w r e.0 h)
              (k branch),
          replicas_armed v l w n guard x ss rs e.1 h k,
        )

        spread_armed :
            (v : List Level) (l : ℕ) (c : Around) → V v → (n : ℕ) (spread : Option Spread) (guard : Option ExprTree) (x : CommTree) (ss : StmtTrees)
            → C (broken_spread (env v c) spread) → ((branch : ℕ) → Holds (guarded_code (site v l) guard (comm_code (site v l) n x branch)))
            → AllArmed (site v l) (spread_out (context_of (site v l)) n spread guard x ss)
        unfolding AllArmed
        spread_armed v l c view n None guard x ss h k = (
          λ branch. both nothing (guarded_code (site v l) guard (comm_code (site v l) n x branch)) no_code (k branch),
          tt,
        )
        spread_armed v l c view n (Some s) guard x ss h k =
            let w = (spot_of (env v a) (seen v s.name)).spot in
            replicas_armed v l w n guard x ss (replicas (context_of (site v l)) s) (all_at w l (constant_value g.state.blocks.scopes v s.low)
            (constant_value g.state.blocks.scopes v s.high)) (spread_base v l c view s h) k

        -- ## Statements

        -- the scope n of an accept is one of the block, which is a process's
        abbrev pub IsOpen : ℕ → Type 0
        IsOpen n = (a.process ≡ true) × (a.sub ≡ false) × (b.next ≤ n) × (n + 1 ≤ b.next + b.accepts)

        -- so are k scopes from n on, where the block is a process's
        abbrev pub AreOpen : ℕ → ℕ → Type 0
        AreOpen n k = A → a.process ≡ true → a.sub ≡ false → (b.next ≤ n) × (n + k ≤ b.next + b.accepts)

        module _
            (requesting : (v : List Level) (l i : ℕ) → (A → a.guarded ≡ true) → X (REQ (resource_of (site v l)) (block_number g i)))
            (accepting :
            (v : List Level) (l n : ℕ) (x : Text) → V v → (A → IsOpen n × IsEntry (meaning_of (seen v x)))
            → X (ACC (entry_number (meaning_of (seen v x))) (accept_cell (site v l) n) (accept_cells (site v l) n)))
            (arming :
            (v : List Level) (l n : ℕ) (x : Text) → V v → (A → IsOpen n × IsEntry (meaning_of (seen v x)))
            → (at : ℕ) → X (ARMA (entry_number (meaning_of (seen v x))) (accept_cell (site v l) n) (accept_cells (site v l) n) at))
            (opening : (v : List Level) (n : ℕ) → V v → (A → IsOpen n) → V (here g.state.blocks.scopes n v))
          where
            open_first : (n k : ℕ) → AreOpen n k → (m : ℕ) → m ≤ k → AreOpen n m
            open_first n k h m le z p q = let r = h z p q in (r.0, omega (arith, r.1, le))

            open_behind : (n k : ℕ) → AreOpen n k → (m j : ℕ) → m + j ≤ k → AreOpen (n + m) j
            open_behind n k h m j le z p q = let r = h z p q in (omega (arith, r.0), omega (arith, r.1, le))

            taken :
                (v : List Level) (c : Around) → IsNear c a → (n k : ℕ) (x : Text) (p q : Place) → AreOpen n k → 1 ≤ k
                → C (accept_rules (env v c) x p q) → A → IsOpen n × IsEntry (meaning_of (seen v x))
            taken v c near n k x p q range some h z =
                let is = accept_allowed (env v c) x p q (h z) in
                let process : a.process ≡ true = sym near.process ∙ is.0 in
                let outer : a.sub ≡ false = sym near.alike.sub ∙ is.1 in
                let r = range z process outer in
                ((process, outer, r.0, omega (arith, r.1, some)), is.2)

            requeued :
                (v : List Level) (l : ℕ) (c : Around) → V v → IsNear c a → (m : Option Meaning) (ending : ℕ) (q : Place) (args : ActualTrees)
                → (A → a.guarded ≡ true) → C (requeue_rules (env v c) ending m q args) → Holds (requeue_code (site v l) m args)
            requeued v l c view near None ending q args may h = no_code
            requeued v l c view near (Some (AConstant t k)) ending q args may h = no_code
            requeued v l c view near (Some (Named t)) ending q args may h = no_code
            requeued v l c view near (Some (Variable t r)) ending q args may h = no_code
            requeued v l c view near (Some (Sub n)) ending q args may h =
                let head = sub_at g.state.blocks n in
                let i = REQ (resource_of (site v l)) (block_number g head.scope) in
                both (args_code (site v l) head.formals args) (one (site v l) i)
                (arguments v l c view (Some ending) true head.formals args
                (λ z. requeued_args (env v c) ending head.sort head.formals q args (h z))) (one_holds (site v l) i (requesting v l head.scope may))
            requeued v l c view near (Some (Module k)) ending q args may h = no_code
            requeued v l c view near (Some (Process k)) ending q args may h = no_code
            requeued v l c view near (Some (Entry k)) ending q args may h = no_code
            requeued v l c view near (Some (Predeclared k)) ending q args may h = no_code
            requeued v l c view near (Some Faulty) ending q args may h = no_code

            communication :
                (v : List Level) (l : ℕ) (c : Around) → V v → IsNear c a → (n : ℕ) (x : CommTree) → AreOpen n (comm_scopes x)
                → C (broken_comm (env v c) n x) → (branch : ℕ) → Holds (comm_code (site v l) n x branch)
            communication v l c view near n (comm_accept (accept x gs p) q) range h branch =
                leading (site v l) _ branch (arming v l n x view (taken v c near n 1 x p q range (omega arith) h))
            communication v l c view near n (comm_accept (accept_do x gs t p) q) range h branch =
                leading (site v l) _ branch
                (arming v l n x view (taken v c near n (1 + scopes_in t) x p q range (omega arith) (λ z. (h z).0)))
            communication v l c view near n (comm_send d e p) range h branch =
                let f : ℕ → Instr = λ at. ARMS (message_cells (site v l) (message_of (context_of (site v l)) e)) at in
                sent v l c view d e p h (over (site v l) f branch) (leading (site v l) f branch (λ j. plain_one (f j) refl))
            communication v l c view near n (comm_receive d w p) range h branch =
                let f : ℕ → Instr = λ at. ARMR (receiver_cells (site v l) (receiver_of (context_of (site v l)) w)) at in
                received v l c view d w p h (over (site v l) f branch) (leading (site v l) f branch (λ j. plain_one (f j) refl))
            communication v l c view near n (timeout e p) range h branch =
                both (expr_code (site v l) e) (over (site v l) ARMT branch) (expr v l c view e (λ z. (h z).0))
                (leading (site v l) ARMT branch (λ j. plain_one (ARMT j) refl))
            communication v l c view near n (terminate p) range h branch = alone (site v l) ARMX refl

            armed :
                (v : List Level) (l : ℕ) (c : Around) → V v → IsNear c a → (n : ℕ) (alts : AltTrees) → AreOpen n (alts_scopes alts)
                → C (broken_alts (env v c) n alts) → AllArmed (site v l) (alternatives (context_of (site v l)) n alts)
            unfolding AllArmed
            armed v l c view near n no_alts range h = tt
            armed v l c view near n (more_alts (alt spread guard x ss) alts) range h =
                let here_scopes = alt_scopes (alt spread guard x ss) in
                armed_append (site v l) (spread_out (context_of (site v l)) n spread guard x ss)
                (alternatives (context_of (site v l)) (n + here_scopes) alts)
                (spread_armed v l c view n spread guard x ss (λ z. (h z).0.0)
                (λ branch. guarded v l c view guard (comm_code (site v l) n x branch) (λ z. (h z).0.1.0)
                (communication v l c view near n x
                (open_first n (alts_scopes (more_alts (alt spread guard x ss) alts)) range (comm_scopes x)
                (let e : alts_scopes (more_alts (alt spread guard x ss) alts) ≡ comm_scopes x + stmts_scopes ss + alts_scopes alts = refl in omega (arith, e)))
                (λ z. (h z).0.1.1.0) branch)))
                (armed v l c view near (n + here_scopes) alts
                (open_behind n (alts_scopes (more_alts (alt spread guard x ss) alts)) range here_scopes (alts_scopes alts) (omega arith)) (λ z. (h z).1))

            selected_hold :
                (v : List Level) (l : ℕ) (c : Around) → V v → IsNear c a → (pri : Bool) (n : ℕ) (alts : AltTrees) (ds : List ℕ) (branches : Code)
                (else_at : Option ℕ) (otherwise : Code) → AreOpen n (alts_scopes alts) → C (broken_alts (env v c) n alts) → Holds branches → Holds otherwise
                → Holds (select_code (site v l) pri (alternatives (context_of (site v l)) n alts) ds branches else_at otherwise)
            selected_hold v l c view near pri n alts ds branches else_at otherwise range h p q =
                let found = alternatives (context_of (site v l)) n alts in
                let all = alternatives_code (site v l) found ds in
                arms_hold (length found) (all ⨾ sel_code (site v l) pri else_at ⨾ branches ⨾ otherwise)
                (both all (sel_code (site v l) pri else_at ⨾ branches ⨾ otherwise) (all_armed (site v l) found ds (armed v l c view near n alts range h))
                (both (sel_code (site v l) pri else_at) (branches ⨾ otherwise) (decision (site v l) pri else_at) (both branches otherwise p q)))

            loop_begin : (s : Site) (down : Bool) (count : ℕ) → Holds (over s (λ at. FORB (if down then 1 else 0) at) count)
            loop_begin s true count = leading s (λ at. FORB 1 at) count (λ j. plain_one (FORB 1 j) refl)
            loop_begin s false count = leading s (λ at. FORB 0 at) count (λ j. plain_one (FORB 0 j) refl)

            loop_turn : (s : Site) (down : Bool) (count : ℕ) → Holds (back s (λ at. FORT (if down then 1 else 0) at) count)
            loop_turn s true count = turning s (λ at. FORT 1 at) count (λ j. plain_one (FORT 1 j) refl)
            loop_turn s false count = turning s (λ at. FORT 0 at) count (λ j. plain_one (FORT 0 j) refl)

            jump : (s : Site) (count : ℕ) → Holds (over s JMP count)
            jump s count = leading s JMP count (λ j. plain_one (JMP j) refl)

            jump_false : (s : Site) (count : ℕ) → Holds (over s JF count)
            jump_false s count = leading s JF count (λ j. plain_one (JF j) refl)

            turn : (s : Site) (count : ℕ) → Holds (back s TURN count)
            turn s count = turning s TURN count (λ j. plain_one (TURN j) refl)

            -- of an alternative that begins no meeting
            branch_rest :
                (v : List Level) (l : ℕ) (c : Around) → V v → (spread : Option Spread) (inner : Code) (between : ℕ) → C (broken_spread (env v c) spread)
                → Holds inner → Holds (chosen_code (site v l) (spread_replicas (site v l) spread) ⨾ nothing ⨾ inner ⨾ over (site v l) JMP between)
            branch_rest v l c view spread inner between k h =
                let s = site v l in
                both (chosen_code s (spread_replicas s spread)) (nothing ⨾ inner ⨾ over s JMP between) (spread_chosen v l c view spread k)
                (both nothing (inner ⨾ over s JMP between) no_code (both inner (over s JMP between) h (jump s between)))

            mutual
              pub stmt :
                  (v : List Level) (l : ℕ) (c : Around) → V v → IsNear c a → (n : ℕ) (t : StmtTree) → AreOpen n (scopes_in t)
                  → C (broken_stmt (env v c) n t) → Holds (stmt_code (site v l) n t)
              stmt v l c view near n empty range h = no_code
              stmt v l c view near n (null p) range h = no_code
              stmt v l c view near n (block (body ss from to) p) range h = stmts v l c view near n ss range h
              stmt v l c view near n (if_then e t p) range h =
                  let s = site v p.line in
                  let yes = stmt_code s n t in
                  both (expr_code s e) (over s JF yes.size ⨾ yes) (expr v p.line c view e (λ z. (h z).0))
                  (both (over s JF yes.size) yes (jump_false s yes.size) (stmt v p.line c view near n t range (λ z. (h z).1.1)))
              stmt v l c view near n (if_then_else e t u p) range h =
                  let s = site v p.line in
                  let yes = stmt_code s n t in
                  let other = stmt_code s (n + scopes_in t) u in
                  both (expr_code s e) (over s JF (yes.size + 1) ⨾ yes ⨾ over s JMP other.size ⨾ other) (expr v p.line c view e (λ z. (h z).0))
                  (both (over s JF (yes.size + 1)) (yes ⨾ over s JMP other.size ⨾ other) (jump_false s (yes.size + 1))
                  (both yes (over s JMP other.size ⨾ other)
                  (stmt v p.line c view near n t (open_first n (scopes_in t + scopes_in u) range (scopes_in t) (omega arith)) (λ z. (h z).1.1.0))
                  (both (over s JMP other.size) other (jump s other.size)
                  (stmt v p.line c view near (n + scopes_in t) u
                  (open_behind n (scopes_in t + scopes_in u) range (scopes_in t) (scopes_in u) (omega arith)) (λ z. (h z).1.1.1)))))
              stmt v l c view near n (case_of e arms last p) range h =
                  let s = site v p.line in
                  both (expr_code s e) (tests_code s n 0 arms ⨾ one s CERR ⨾ arms_code s n arms) (expr v p.line c view e (λ z. (h z).0))
                  (both (tests_code s n 0 arms) (one s CERR ⨾ arms_code s n arms) (tests s n 0 arms)
                  (both (one s CERR) (arms_code s n arms) (alone s CERR refl) (all_arms v p.line c view near n _ arms range (λ z. (h z).1))))
              stmt v l c view near n (while_do e t p) range h =
                  let s = site v p.line in
                  let test = expr_code s e in
                  let inner = stmt_code s n t in
                  both test (over s JF (inner.size + 1) ⨾ inner ⨾ back s TURN (test.size + 1 + inner.size)) (expr v p.line c view e (λ z. (h z).0))
                  (both (over s JF (inner.size + 1)) (inner ⨾ back s TURN (test.size + 1 + inner.size)) (jump_false s (inner.size + 1))
                  (both inner (back s TURN (test.size + 1 + inner.size)) (stmt v p.line c view near n t range (λ z. (h z).1.1))
                  (turn s (test.size + 1 + inner.size))))
              stmt v l c view near n (repeat_until ss e p) range h =
                  let s = site v p.line in
                  let inner = stmts_code s n ss in
                  let test = expr_code s e in
                  both inner (test ⨾ one s NOT ⨾ over s JF 1 ⨾ back s TURN (inner.size + test.size + 2))
                  (stmts v p.line c view near n ss range (λ z. (h z).0))
                  (both test (one s NOT ⨾ over s JF 1 ⨾ back s TURN (inner.size + test.size + 2)) (expr v p.line c view e (λ z. (h z).1.0))
                  (both (one s NOT) (over s JF 1 ⨾ back s TURN (inner.size + test.size + 2)) (alone s NOT refl)
                  (both (over s JF 1) (back s TURN (inner.size + test.size + 2)) (jump_false s 1) (turn s (inner.size + test.size + 2)))))
              stmt v l c view near n (repeat_forever ss p) range h =
                  let s = site v p.line in
                  let inner = stmts_code s n ss in
                  both inner (back s TURN inner.size) (stmts v p.line c view near n ss range h) (turn s inner.size)
              stmt v l c view near n (for_do x from down to t p q) range h =
                  let s = site v p.line in
                  let inner = stmt_code s n t in
                  let w = base_code s (spot_of (env v a) (seen v x)).spot in
                  let begin = over s (λ at. FORB (if down then 1 else 0) at) (inner.size + 2) in
                  let end = back s (λ at. FORT (if down then 1 else 0) at) (inner.size + 1) in
                  both w (expr_code s from ⨾ expr_code s to ⨾ begin ⨾ one s FORW ⨾ inner ⨾ end)
                  (base v p.line x (seen v x) refl view (λ z. named_cell g.state v (meaning_of (seen v x)) q (h z).0.0))
                  (both (expr_code s from) (expr_code s to ⨾ begin ⨾ one s FORW ⨾ inner ⨾ end) (expr v p.line c view from (λ z. (h z).0.1.0))
                  (both (expr_code s to) (begin ⨾ one s FORW ⨾ inner ⨾ end) (expr v p.line c view to (λ z. (h z).0.1.1.0))
                  (both begin (one s FORW ⨾ inner ⨾ end) (loop_begin s down (inner.size + 2))
                  (both (one s FORW) (inner ⨾ end) (alone s FORW refl)
                  (both inner end (stmt v p.line c view near n t range (λ z. (h z).1)) (loop_turn s down (inner.size + 1)))))))
              stmt v l c view near n (cobegin ss last p) range h =
                  both (stmts_code (site v l) n ss) (one (site v last.line) COEND)
                  (stmts v l (record c { cobegin = true }) view (in_cobegin c a near) n ss range (λ z. (h z).1)) (alone (site v last.line) COEND refl)
              stmt v l c view near n (an_accept x p) range h =
                  both (accept_code (site v p.line) n x) (accepted_code (site v p.line) n x ⨾ one (site v p.line) EACC)
                  (accept_first v p.line c view near n x p range h)
                  (both (accepted_code (site v p.line) n x) (one (site v p.line) EACC) (accepted v p.line c view near n x p range h)
                  (alone (site v p.line) EACC refl))
              stmt v l c view near n (requeue x args p) range h =
                  requeued v p.line c view near (meaning_of (seen v x.0)) _ x.1 args
                  (λ z. sym near.guarded ∙ held c.guarded p 418 (h z).0) (λ z. (h z).1)
              stmt v l c view near n (select pri alts p q) range h =
                  selected_hold v p.line c view near pri n alts (distances (site v p.line) n 0 alts) (branches_code (site v p.line) n alts 0) None nothing range
                  (λ z. (h z).1.1.1) (all_branches v p.line c view near n alts 0 range (λ z. (h z).1.1.1)) no_code
              stmt v l c view near n (select_else pri alts ss at p q) range h =
                  let s = site v p.line in
                  let otherwise = stmts_code s (n + alts_scopes alts) ss in
                  let branches = branches_code s n alts otherwise.size in
                  let first = open_first n (alts_scopes alts + stmts_scopes ss) range (alts_scopes alts) (omega arith) in
                  selected_hold v p.line c view near pri n alts (distances s n 0 alts) branches (Some branches.size) otherwise first
                  (λ z. (h z).1.1.1.0) (all_branches v p.line c view near n alts otherwise.size first (λ z. (h z).1.1.1.0))
                  (stmts v p.line c view near (n + alts_scopes alts) ss
                  (open_behind n (alts_scopes alts + stmts_scopes ss) range (alts_scopes alts) (stmts_scopes ss) (omega arith)) (λ z. (h z).1.1.1.1.1))
              stmt v l c view near n (assign d e p q) range h = assigned v p.line c view d e q h
              stmt v l c view near n (send d e p q) range h =
                  let i = SEND (message_cells (site v p.line) (message_of (context_of (site v p.line)) e)) in
                  sent v p.line c view d e q h (one (site v p.line) i) (alone (site v p.line) i refl)
              stmt v l c view near n (receive d w p q) range h =
                  let i = RECV (receiver_cells (site v p.line) (receiver_of (context_of (site v p.line)) w)) in
                  received v p.line c view d w q h (one (site v p.line) i) (alone (site v p.line) i refl)
              stmt v l c view near n (call d args p) range h = a_call v p.line c view near d args h

              pub stmts :
                  (v : List Level) (l : ℕ) (c : Around) → V v → IsNear c a → (n : ℕ) (ts : StmtTrees) → AreOpen n (stmts_scopes ts)
                  → C (broken_stmts (env v c) n ts) → Holds (stmts_code (site v l) n ts)
              stmts v l c view near n no_stmts range h = no_code
              stmts v l c view near n (more_stmts t ts) range h =
                  both (stmt_code (site v l) n t) (stmts_code (site v l) (n + scopes_in t) ts)
                  (stmt v l c view near n t (open_first n (scopes_in t + stmts_scopes ts) range (scopes_in t) (omega arith)) (λ z. (h z).0))
                  (stmts v l c view near (n + scopes_in t) ts
                  (open_behind n (scopes_in t + stmts_scopes ts) range (scopes_in t) (stmts_scopes ts) (omega arith)) (λ z. (h z).1))

              tests : (s : Site) (n from : ℕ) (arms : ArmTrees) → Holds (tests_code s n from arms)
              tests s n from no_arms = no_code
              tests s n from (more_arms (arm ls t) arms) =
                  both (labels_code s (label_count arms + 1 + from) ls) (tests_code s (n + arm_scopes (arm ls t)) (from + (stmt_code s n t).size + 1) arms)
                  (labels s (label_count arms + 1 + from) ls) (tests s (n + arm_scopes (arm ls t)) (from + (stmt_code s n t).size + 1) arms)

              all_arms :
                  (v : List Level) (l : ℕ) (c : Around) → V v → IsNear c a → (n : ℕ) (t : Option TypeId) (arms : ArmTrees) → AreOpen n (arms_scopes arms)
                  → C (broken_arms (env v c) n t arms) → Holds (arms_code (site v l) n arms)
              all_arms v l c view near n u no_arms range h = no_code
              all_arms v l c view near n u (more_arms (arm ls t) arms) range h =
                  let s = site v l in
                  let rest = arms_code s (n + arm_scopes (arm ls t)) arms in
                  both (stmt_code s n t) (over s JMP rest.size ⨾ rest)
                  (stmt v l c view near n t (open_first n (scopes_in t + arms_scopes arms) range (scopes_in t) (omega arith)) (λ z. (h z).0.1))
                  (both (over s JMP rest.size) rest (jump s rest.size)
                  (all_arms v l c view near (n + scopes_in t) u arms
                  (open_behind n (scopes_in t + arms_scopes arms) range (scopes_in t) (arms_scopes arms) (omega arith)) (λ z. (h z).1)))

              accept_first :
                  (v : List Level) (l : ℕ) (c : Around) → V v → IsNear c a → (n : ℕ) (x : AcceptTree) (p : Place) → AreOpen n (accept_scopes x)
                  → C (broken_accept (env v c) n x p) → Holds (accept_code (site v l) n x)
              accept_first v l c view near n (accept x gs q) p range h =
                  one_holds (site v l) _ (accepting v l n x view (taken v c near n 1 x q p range (omega arith) h))
              accept_first v l c view near n (accept_do x gs t q) p range h =
                  one_holds (site v l) _ (accepting v l n x view (taken v c near n (1 + scopes_in t) x q p range (omega arith) (λ z. (h z).0)))

              accepted :
                  (v : List Level) (l : ℕ) (c : Around) → V v → IsNear c a → (n : ℕ) (x : AcceptTree) (p : Place) → AreOpen n (accept_scopes x)
                  → C (broken_accept (env v c) n x p) → Holds (accepted_code (site v l) n x)
              accepted v l c view near n (accept x gs q) p range h = no_code
              accepted v l c view near n (accept_do x gs t q) p range h =
                  stmt (here g.state.blocks.scopes n v) l c
                  (opening v n view (λ z. (taken v c near n (1 + scopes_in t) x q p range (omega arith) (λ y. (h y).0) z).0)) near (n + 1) t
                  (open_behind n (1 + scopes_in t) range 1 (scopes_in t) (omega arith)) (λ z. (h z).1)

              one_branch :
                  (v : List Level) (l : ℕ) (c : Around) → V v → IsNear c a → (n : ℕ) (x : AltTree) (between : ℕ) → AreOpen n (alt_scopes x)
                  → C (broken_alt (env v c) n x) → Holds (branch_code (site v l) n x between)
              one_branch v l c view near n (alt spread guard (comm_accept x p) ss) between range h =
                  let m = comm_accept x p in
                  let s = site v l in
                  let inner = stmts_code s (n + comm_scopes m) ss in
                  let some : alt_scopes (alt spread guard m ss) ≡ accept_scopes x + stmts_scopes ss = refl in
                  both (chosen_code s (spread_replicas s spread)) ((accepted_code s n x ⨾ one (site v p.line) EACC) ⨾ inner ⨾ over s JMP between)
                  (spread_chosen v l c view spread (λ z. (h z).0))
                  (both (accepted_code s n x ⨾ one (site v p.line) EACC) (inner ⨾ over s JMP between)
                  (both (accepted_code s n x) (one (site v p.line) EACC)
                  (accepted v l c view near n x p (open_first n (accept_scopes x + stmts_scopes ss) range (accept_scopes x) (omega arith))
                  (λ z. (h z).1.1.0))
                  (alone (site v p.line) EACC refl))
                  (both inner (over s JMP between)
                  (stmts v l c view near (n + comm_scopes m) ss
                  (open_behind n (accept_scopes x + stmts_scopes ss) range (accept_scopes x) (stmts_scopes ss) (omega arith)) (λ z. (h z).1.1.1))
                  (jump s between)))
              one_branch v l c view near n (alt spread guard (comm_send d e p) ss) between range h =
                  branch_rest v l c view spread (stmts_code (site v l) (n + 0) ss) between (λ z. (h z).0)
                  (stmts v l c view near (n + 0) ss (open_behind n (0 + stmts_scopes ss) range 0 (stmts_scopes ss) (omega arith)) (λ z. (h z).1.1.1))
              one_branch v l c view near n (alt spread guard (comm_receive d w p) ss) between range h =
                  branch_rest v l c view spread (stmts_code (site v l) (n + 0) ss) between (λ z. (h z).0)
                  (stmts v l c view near (n + 0) ss (open_behind n (0 + stmts_scopes ss) range 0 (stmts_scopes ss) (omega arith)) (λ z. (h z).1.1.1))
              one_branch v l c view near n (alt spread guard (timeout e p) ss) between range h =
                  branch_rest v l c view spread (stmts_code (site v l) (n + 0) ss) between (λ z. (h z).0)
                  (stmts v l c view near (n + 0) ss (open_behind n (0 + stmts_scopes ss) range 0 (stmts_scopes ss) (omega arith)) (λ z. (h z).1.1.1))
              one_branch v l c view near n (alt spread guard (terminate p) ss) between range h = unseen_holds (stmts_code (site v l) n ss)

              all_branches :
                  (v : List Level) (l : ℕ) (c : Around) → V v → IsNear c a → (n : ℕ) (alts : AltTrees) (else_size : ℕ) → AreOpen n (alts_scopes alts)
                  → C (broken_alts (env v c) n alts) → Holds (branches_code (site v l) n alts else_size)
              all_branches v l c view near n no_alts else_size range h = no_code
              all_branches v l c view near n (more_alts x alts) else_size range h =
                  let s = site v l in
                  let rest = branches_code s (n + alt_scopes x) alts else_size in
                  both (branch_code s n x (rest.size + else_size)) rest
                  (one_branch v l c view near n x (rest.size + else_size)
                  (open_first n (alt_scopes x + alts_scopes alts) range (alt_scopes x) (omega arith)) (λ z. (h z).0))
                  (all_branches v l c view near (n + alt_scopes x) alts else_size
                  (open_behind n (alt_scopes x + alts_scopes alts) range (alt_scopes x) (alts_scopes alts) (omega arith)) (λ z. (h z).1))
