-- No process is created in the code of statements that stand outside the main body: each activation in it would break a rule.
use Rattle.std.proofs.Common.{not, ◌&&◌, ◌≡◌, ℕ, ◌+◌, Bool, true, false, Option, Some, None, if◌then◌else◌, refl, sym, ◌∙◌, subst}
use Rattle.pfc_tree.specs.Symbols.{Text}
use Rattle.pfc_base.specs.declared.places.Place.{Place}
use Rattle.pfc_tree.specs.trees.Exprs.{ExprTree, DesigTree, SelectorTrees, ActualTrees, desig, no_selectors}
use Rattle.pfc_tree.specs.trees.Stmts.{StmtTree, StmtTrees, ArmTrees, AcceptTree, AltTree, AltTrees, empty, null, block, if_then, if_then_else, case_of}
use Rattle.pfc_tree.specs.trees.Stmts.{while_do, repeat_until, repeat_forever, for_do, cobegin, accepting as an_accept, requeue, select, select_else, assign}
use Rattle.pfc_tree.specs.trees.Stmts.{send, receive, call, no_stmts, more_stmts, body, arm, no_arms, more_arms, accept, accept_do, alt, no_alts, more_alts}
use Rattle.pfc_tree.specs.trees.Stmts.{comm_accept, comm_send, comm_receive, timeout, terminate}
use Rattle.pfc_types.specs.rules.Statements.{cobegin_rule, scopes_in, arm_scopes, accept_scopes, alt_scopes, alts_scopes, broken_stmt, broken_stmts}
use Rattle.pfc_types.specs.rules.Statements.{broken_arms, broken_accept, broken_alts, broken_alt}
use Rattle.pfc_types.specs.declared.types.TypeId.{TypeId}
use Rattle.pfc_types.specs.declared.scope.Meaning.{Meaning}
use Rattle.pfc_types.specs.declared.scope.Meaning.TheVariants.{Constant as AConstant, Named, Variable, Sub, Module, Process, Entry, Predeclared, Faulty}
use Rattle.pfc_types.specs.declared.view.Found.{Found}
use Rattle.pfc_types.specs.Scopes.{meaning_of, meaning_in, scope_at}
use Rattle.pfc_types.specs.Blocks.{sub_at, module_at, entry_at}
use Rattle.pfc_types.specs.rules.Expressions.{find, selected, expr_type}
use Rattle.pfc_types.specs.rules.Calls.{last_field, before_last, activate, broken_call}
use Rattle.pfc_semantics.specs.Predeclared.{procedure_of}
use Rattle.pfc_semantics.specs.Alternatives.{alternatives}
use Rattle.pfc_semantics.specs.Objects.{module_number}
use Rattle.pfc_semantics.specs.Statements.{name_in_process, process_of_type}
use Rattle.pfc_semantics.specs.Expressions.{spot_of}
use Rattle.pfc_semantics.specs.Programs.{block_number}
use Rattle.pfc_code.specs.declared.instructions.Instr.TheVariants.{REQ, ECALL, JMP, JF, TURN, FORB, FORW, FORT, CERR, ACC, EACC, STORE, OBJ, NOT}
use Rattle.pfc_translation.specs.Sites.{Site, at_line, in_accept, context_of, forms_of, blocks_of, type_cells}
use Rattle.pfc_translation.specs.Codes.{Code}
use Rattle.pfc_translation.specs.Expressions.{expr_code, call_instr, address_code}
use Rattle.pfc_translation.specs.Calls.{sub_code, enter_instr, exported_code, module_code, resource_of, requeue_code, formals_cells, entry_code, process_code}
use Rattle.pfc_translation.specs.Calls.{field_code, called_variable, called_process, called_code, found_code, call_code}
use Rattle.pfc_translation.specs.Selects.{entry_of, accept_cell, accept_cells}
use Rattle.pfc_translation.specs.Statements.{assign_code, label_count, spread_replicas, stmt_code, stmts_code, tests_code, arms_code, accepted_code}
use Rattle.pfc_translation.specs.Statements.{branch_code, branches_code, distances}
use Rattle.pfc_image_numbers.proofs.Rules.{IsClean, held, and_left, activated_type, field_process, selected_last, call_of, call_is, process_activated}
use Rattle.pfc_image_numbers.proofs.Rules.{variable_called, variable_part}
use Rattle.pfc_kept_lives.proofs.Quiet.{IsOther, IsQuiet, ◌&◌, no_code, one_is, over_is, back_is, unseen_is, based, expr, arguments, address, designated}
use Rattle.pfc_kept_lives.proofs.Quiet.{a_procedure, sent, received, a_select, chosen, labels}

-- a phrase outside the main body
pub record IsOutside (s : Site) : Type 0 where
  pub main : s.env.around.main ≡ false
  pub cobegin : s.env.around.cobegin ≡ false

-- no process is activated there
not_activated : (s : Site) (n : ℕ) (p : Place) (args : ActualTrees) → IsOutside s → IsClean (activate s.env n p args) → ⊥
not_activated s n p args out h =
    let within : s.env.around.cobegin ≡ true = held s.env.around.cobegin p 402 h.0 in true_false (sym within ∙ out.cobegin)
  where
    true_false : true ≡ false → ⊥
    true_false e = absurd (cc)

no_cobegin : (s : Site) (p : Place) → IsOutside s → IsClean (cobegin_rule s.env.around p) → ⊥
no_cobegin s p out h =
    let within : s.env.around.main ≡ true =
    and_left s.env.around.main (not s.env.around.cobegin) (held (s.env.around.main && not s.env.around.cobegin) p 401 h) in
    true_false (sym within ∙ out.main)
  where
    true_false : true ≡ false → ⊥
    true_false e = absurd (cc)

-- ## Calls

a_sub : (s : Site) (n : ℕ) (args : ActualTrees) → IsQuiet (sub_code s n args)
a_sub s n args = let head = sub_at (blocks_of s) n in arguments s head.formals args & one_is s (call_instr s head) tt

entering : (resource : Bool) (m b : ℕ) → IsOther (enter_instr resource m b)
entering true m b = tt
entering false m b = tt

exported : (s : Site) (n : ℕ) (x : Option Meaning) (args : ActualTrees) → IsQuiet (exported_code s n x args)
exported s n None args = no_code
exported s n (Some (AConstant t v)) args = no_code
exported s n (Some (Named t)) args = no_code
exported s n (Some (Variable t reference)) args = no_code
exported s n (Some (Sub p)) args =
    let head = sub_at (blocks_of s) p in
    arguments s head.formals args
    & one_is s (enter_instr (module_at (blocks_of s) n).resource (module_number (blocks_of s) n) (block_number s.program head.scope))
    (entering (module_at (blocks_of s) n).resource (module_number (blocks_of s) n) (block_number s.program head.scope))
exported s n (Some (Module p)) args = no_code
exported s n (Some (Process p)) args = no_code
exported s n (Some (Entry p)) args = no_code
exported s n (Some (Predeclared p)) args = no_code
exported s n (Some Faulty) args = no_code

of_module : (s : Site) (n : ℕ) (x : Option (Text × Place)) (args : ActualTrees) → IsQuiet (module_code s n x args)
of_module s n None args = no_code
of_module s n (Some x) args = exported s n (meaning_in (scope_at (blocks_of s).scopes (module_at (blocks_of s) n).scope) x.0) args

requeued : (s : Site) (x : Option Meaning) (args : ActualTrees) → IsQuiet (requeue_code s x args)
requeued s None args = no_code
requeued s (Some (AConstant t v)) args = no_code
requeued s (Some (Named t)) args = no_code
requeued s (Some (Variable t reference)) args = no_code
requeued s (Some (Sub n)) args =
    let head = sub_at (blocks_of s) n in
    arguments s head.formals args & one_is s (REQ (resource_of s) (block_number s.program head.scope)) tt
requeued s (Some (Module p)) args = no_code
requeued s (Some (Process p)) args = no_code
requeued s (Some (Entry p)) args = no_code
requeued s (Some (Predeclared p)) args = no_code
requeued s (Some Faulty) args = no_code

an_entry : (s : Site) (n : ℕ) (x : Option Meaning) {code : Code} (args : ActualTrees) → IsQuiet code → IsQuiet (entry_code s n x code args)
an_entry s n None args p = no_code
an_entry s n (Some (AConstant t v)) args p = no_code
an_entry s n (Some (Named t)) args p = no_code
an_entry s n (Some (Variable t reference)) args p = no_code
an_entry s n (Some (Sub q)) args p = no_code
an_entry s n (Some (Module q)) args p = no_code
an_entry s n (Some (Process q)) args p = no_code
an_entry s n (Some (Entry e)) args p =
    let formals = entry_at (blocks_of s) n e in
    p & one_is s OBJ tt & arguments s formals args & one_is s (ECALL e (formals_cells (forms_of s) formals)) tt
an_entry s n (Some (Predeclared q)) args p = no_code
an_entry s n (Some Faulty) args p = no_code

a_process :
    (s : Site) → IsOutside s → (k : Option ℕ) (code : Code) (q : Place) (args : ActualTrees)
    → ((n : ℕ) → k ≡ Some n → IsClean (activate s.env n q args)) → IsQuiet (process_code s k code args)
a_process s out None code q args h = no_code
a_process s out (Some n) code q args h = absurd (not_activated s n q args out (h n refl))

variable_call :
    (s : Site) → IsOutside s → (f : Found) (t : TypeId) (r : Bool) (ss : SelectorTrees) (q : Place) (args : ActualTrees)
    → IsClean (call_of s.env (Some (Variable t r)) ss q args) → (y : Option (Text × Place)) → last_field ss ≡ y
    → IsQuiet (called_variable s f ss t y args)
variable_call s out f t r ss q args h None last =
    let u = selected s.env (Some t) ss in
    a_process s out (process_of_type s.env u) (address_code s (Some f) ss) q args
    (λ n e. activated_type s.env u n q args e (variable_called s.env t r ss q args last h).1)
variable_call s out f t r ss q args h (Some y) last = by (process_of_type s.env (selected s.env (Some t) (before_last ss))) refl
  where
    by : (k : Option ℕ) → process_of_type s.env (selected s.env (Some t) (before_last ss)) ≡ k → IsQuiet (field_code s f ss (Some t) k y.0 args)
    by (Some n) e = an_entry s n (name_in_process (blocks_of s) n y.0) args (address s (Some f) (before_last ss))
    by None e =
        a_process s out (process_of_type s.env (selected s.env (Some t) ss)) (address_code s (Some f) ss) q args
        (λ n k. field_process s.env (selected s.env (Some t) (before_last ss)) n y q args e
        (subst (λ (o : Option TypeId). process_of_type s.env o ≡ Some n) (selected_last s.env (Some t) ss y last) k)
        (variable_part s.env t r ss y q args last h).1)

single_call :
    (s : Site) → IsOutside s → (f : Found) (n : ℕ) (ss : SelectorTrees) (q : Place) (args : ActualTrees)
    → IsClean (call_of s.env (Some (Process n)) ss q args) → (y : Option (Text × Place)) → last_field ss ≡ y → IsQuiet (called_process s f n y args)
single_call s out f n ss q args h None last = absurd (not_activated s n q args out (process_activated s.env n ss q args last h))
single_call s out f n ss q args h (Some y) last = an_entry s n (name_in_process (blocks_of s) n y.0) args (address s (Some f) no_selectors)

called :
    (s : Site) → IsOutside s → (f : Found) (m : Meaning) (ss : SelectorTrees) (q : Place) (args : ActualTrees)
    → IsClean (call_of s.env (Some m) ss q args) → IsQuiet (called_code s f m ss args)
called s out f (AConstant t v) ss q args h = no_code
called s out f (Named t) ss q args h = no_code
called s out f (Variable t r) ss q args h = variable_call s out f t r ss q args h (last_field ss) refl
called s out f (Sub n) ss q args h = a_sub s n args
called s out f (Module n) ss q args h = of_module s n (last_field ss) args
called s out f (Process n) ss q args h = single_call s out f n ss q args h (last_field ss) refl
called s out f (Entry n) ss q args h = no_code
called s out f (Predeclared n) ss q args h = a_procedure s (procedure_of n) args
called s out f Faulty ss q args h = no_code

found : (s : Site) → IsOutside s → (o : Option Found) (ss : SelectorTrees) (q : Place) (args : ActualTrees)
    → IsClean (call_of s.env (meaning_of o) ss q args) → IsQuiet (found_code s o ss args)
found s out None ss q args h = no_code
found s out (Some f) ss q args h = called s out f f.meaning ss q args h

a_call : (s : Site) → IsOutside s → (d : DesigTree) (args : ActualTrees) → IsClean (broken_call s.env d args) → IsQuiet (call_code s d args)
a_call s out (desig x ss q) args h = found s out (find s.env x) ss q args (call_is s.env x ss q args h)

assigned : (s : Site) (d : DesigTree) (e : ExprTree) → IsQuiet (assign_code s d e)
assigned s d e = designated s d & expr s e & one_is s (STORE (type_cells (forms_of s) (expr_type s.env e))) tt

-- ## Statements

lined : (s : Site) (l : ℕ) → IsOutside s → IsOutside (at_line s l)
lined s l out = record { main = out.main; cobegin = out.cobegin }

inside_accept : (s : Site) (n : ℕ) → IsOutside s → IsOutside (in_accept s n)
inside_accept s n out = record { main = out.main; cobegin = out.cobegin }

mutual
  pub stmt : (s : Site) → IsOutside s → (n : ℕ) (t : StmtTree) → IsClean (broken_stmt s.env n t) → IsQuiet (stmt_code s n t)
  stmt s out n empty h = no_code
  stmt s out n (null p) h = no_code
  stmt s out n (block (body ss from to) p) h = stmts s out n ss h
  stmt s out n (if_then e t p) h =
      let c = at_line s p.line in expr c e & over_is c JF (stmt_code c n t).size (λ j. tt) & stmt c (lined s p.line out) n t h.1.1
  stmt s out n (if_then_else e t u p) h =
      let c = at_line s p.line in
      let other = stmt_code c (n + scopes_in t) u in
      expr c e & over_is c JF ((stmt_code c n t).size + 1) (λ j. tt) & stmt c (lined s p.line out) n t h.1.1.0 & over_is c JMP other.size (λ j. tt)
      & stmt c (lined s p.line out) (n + scopes_in t) u h.1.1.1
  stmt s out n (case_of e arms last p) h =
      let c = at_line s p.line in
      expr c e & tests c n 0 arms & one_is c CERR tt & all_arms c (lined s p.line out) n (expr_type s.env e) arms h.1
  stmt s out n (while_do e t p) h =
      let c = at_line s p.line in
      let inner = stmt_code c n t in
      expr c e & over_is c JF (inner.size + 1) (λ j. tt) & stmt c (lined s p.line out) n t h.1.1
      & back_is c TURN ((expr_code c e).size + 1 + inner.size) (λ j. tt)
  stmt s out n (repeat_until ss e p) h =
      let c = at_line s p.line in
      let inner = stmts_code c n ss in
      stmts c (lined s p.line out) n ss h.0 & expr c e & one_is c NOT tt & over_is c JF 1 (λ j. tt)
      & back_is c TURN (inner.size + (expr_code c e).size + 2) (λ j. tt)
  stmt s out n (repeat_forever ss p) h =
      let c = at_line s p.line in stmts c (lined s p.line out) n ss h & back_is c TURN (stmts_code c n ss).size (λ j. tt)
  stmt s out n (for_do x a down b t p q) h =
      let c = at_line s p.line in
      let inner = stmt_code c n t in
      based c (spot_of c.env (find c.env x)).spot & expr c a & expr c b
      & over_is c (λ at. FORB (if down then 1 else 0) at) (inner.size + 2) (λ j. tt) & one_is c FORW tt
      & stmt c (lined s p.line out) n t h.1 & back_is c (λ at. FORT (if down then 1 else 0) at) (inner.size + 1) (λ j. tt)
  stmt s out n (cobegin ss last p) h = absurd (no_cobegin s p out h.0)
  stmt s out n (an_accept x p) h =
      let c = at_line s p.line in
      one_is c (ACC (entry_of c x) (accept_cell c n) (accept_cells c n)) tt & accepted c (lined s p.line out) n x p h & one_is c EACC tt
  stmt s out n (requeue x args p) h = let c = at_line s p.line in requeued c (meaning_of (find c.env x.0)) args
  stmt s out n (select pri alts p q) h =
      let c = at_line s p.line in
      a_select c pri (alternatives (context_of c) n alts) (distances c n 0 alts) None (all_branches c (lined s p.line out) n alts 0 h.1.1.1) no_code
  stmt s out n (select_else pri alts ss at p q) h =
      let c = at_line s p.line in
      let otherwise = stmts_code c (n + alts_scopes alts) ss in
      a_select c pri (alternatives (context_of c) n alts) (distances c n 0 alts) (Some (branches_code c n alts otherwise.size).size)
      (all_branches c (lined s p.line out) n alts otherwise.size h.1.1.1.0) (stmts c (lined s p.line out) (n + alts_scopes alts) ss h.1.1.1.1.1)
  stmt s out n (assign d e p q) h = assigned (at_line s p.line) d e
  stmt s out n (send d e p q) h = sent (at_line s p.line) d e
  stmt s out n (receive d v p q) h = received (at_line s p.line) d v
  stmt s out n (call d args p) h = a_call (at_line s p.line) (lined s p.line out) d args h

  pub stmts : (s : Site) → IsOutside s → (n : ℕ) (ts : StmtTrees) → IsClean (broken_stmts s.env n ts) → IsQuiet (stmts_code s n ts)
  stmts s out n no_stmts h = no_code
  stmts s out n (more_stmts t ts) h = stmt s out n t h.0 & stmts s out (n + scopes_in t) ts h.1

  tests : (s : Site) (n from : ℕ) (arms : ArmTrees) → IsQuiet (tests_code s n from arms)
  tests s n from no_arms = no_code
  tests s n from (more_arms (arm ls t) arms) =
      labels s (label_count arms + 1 + from) ls & tests s (n + arm_scopes (arm ls t)) (from + (stmt_code s n t).size + 1) arms

  all_arms :
      (s : Site) → IsOutside s → (n : ℕ) (u : Option TypeId) (arms : ArmTrees) → IsClean (broken_arms s.env n u arms) → IsQuiet (arms_code s n arms)
  all_arms s out n u no_arms h = no_code
  all_arms s out n u (more_arms (arm ls t) arms) h =
      let rest = arms_code s (n + arm_scopes (arm ls t)) arms in
      stmt s out n t h.0.1 & over_is s JMP rest.size (λ j. tt) & all_arms s out (n + arm_scopes (arm ls t)) u arms h.1

  accepted : (s : Site) → IsOutside s → (n : ℕ) (x : AcceptTree) (p : Place) → IsClean (broken_accept s.env n x p) → IsQuiet (accepted_code s n x)
  accepted s out n (accept x gs q) p h = no_code
  accepted s out n (accept_do x gs t q) p h = stmt (in_accept s n) (inside_accept s n out) (n + 1) t h.1

  one_branch :
      (s : Site) → IsOutside s → (n : ℕ) (x : AltTree) (between : ℕ) → IsClean (broken_alt s.env n x) → IsQuiet (branch_code s n x between)
  one_branch s out n (alt spread guard (comm_accept x p) ss) between h =
      chosen s (spread_replicas s spread) & (accepted s out n x p h.1.1.0 & one_is (at_line s p.line) EACC tt)
      & stmts s out (n + accept_scopes x) ss h.1.1.1 & over_is s JMP between (λ j. tt)
  one_branch s out n (alt spread guard (comm_send d e p) ss) between h =
      chosen s (spread_replicas s spread) & no_code & stmts s out (n + 0) ss h.1.1.1 & over_is s JMP between (λ j. tt)
  one_branch s out n (alt spread guard (comm_receive d v p) ss) between h =
      chosen s (spread_replicas s spread) & no_code & stmts s out (n + 0) ss h.1.1.1 & over_is s JMP between (λ j. tt)
  one_branch s out n (alt spread guard (timeout e p) ss) between h =
      chosen s (spread_replicas s spread) & no_code & stmts s out (n + 0) ss h.1.1.1 & over_is s JMP between (λ j. tt)
  one_branch s out n (alt spread guard (terminate p) ss) between h = unseen_is (stmts_code s n ss)

  all_branches :
      (s : Site) → IsOutside s → (n : ℕ) (alts : AltTrees) (else_size : ℕ) → IsClean (broken_alts s.env n alts)
      → IsQuiet (branches_code s n alts else_size)
  all_branches s out n no_alts else_size h = no_code
  all_branches s out n (more_alts x alts) else_size h =
      let rest = branches_code s (n + alt_scopes x) alts else_size in
      one_branch s out n x (rest.size + else_size) h.0 & all_branches s out (n + alt_scopes x) alts else_size h.1
