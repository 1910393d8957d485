-- Code in which no process is created: that of expressions, of arguments, of input and output, of communication and of alternatives.
use Rattle.std.proofs.Common.{ℕ, ◌+◌, ◌-◌, pos, drop, Bool, true, false, List, [], ◌∷◌, length, Option, Some, None, cond, if◌then◌else◌}
use Rattle.pfc_tree.specs.Symbols.{Text}
use Rattle.pfc_base.specs.declared.places.Place.{Place}
use Rattle.pfc_tree.specs.declared.tree.Constant.{Constant}
use Rattle.pfc_tree.specs.declared.tree.Sign.{Sign}
use Rattle.pfc_tree.specs.declared.tree.Sign.TheVariants.{Plus, Minus}
use Rattle.pfc_tree.specs.declared.tree.Relation.{Relation}
use Rattle.pfc_tree.specs.declared.tree.Relation.TheVariants.{Eq, Ne, Lt, Le, Gt, Ge}
use Rattle.pfc_tree.specs.declared.tree.AddOp.{AddOp}
use Rattle.pfc_tree.specs.declared.tree.AddOp.TheVariants.{Add, Sub as Minused, Or}
use Rattle.pfc_tree.specs.declared.tree.MulOp.{MulOp}
use Rattle.pfc_tree.specs.declared.tree.MulOp.TheVariants.{Mul, Div, Mod, And}
use Rattle.pfc_tree.specs.trees.Exprs.{ExprTree, SimpleTree, SummandTrees, TermTree, MultiplierTrees, FactorTree, DesigTree, SelectorTrees, ExprTrees}
use Rattle.pfc_tree.specs.trees.Exprs.{ActualTree, ActualTrees, plain, related, sum, no_summands, more_summands, product, no_multipliers, more_multipliers}
use Rattle.pfc_tree.specs.trees.Exprs.{number, literal, negation, paren, applied, desig, index, field, no_selectors, more_selectors, no_exprs, more_exprs}
use Rattle.pfc_tree.specs.trees.Exprs.{actual, actual_width, no_actuals, more_actuals}
use Rattle.pfc_types.specs.declared.types.TypeId.{TypeId}
use Rattle.pfc_types.specs.declared.types.TypeForm.{TypeForm}
use Rattle.pfc_types.specs.declared.types.TypeForm.TheVariants.{Channel, Array, Record, Process as ProcessForm}
use Rattle.pfc_types.specs.declared.scope.Meaning.{Meaning}
use Rattle.pfc_types.specs.declared.scope.Meaning.TheVariants.{Constant as AConstant, Named, Variable, Sub, Module, Process, Entry, Predeclared, Faulty}
use Rattle.pfc_types.specs.declared.heads.Formal.{Formal}
use Rattle.pfc_types.specs.declared.view.Found.{Found}
use Rattle.pfc_types.specs.Types.{Forms}
use Rattle.pfc_types.specs.Scopes.{meaning_of}
use Rattle.pfc_types.specs.Blocks.{sub_at}
use Rattle.pfc_types.specs.rules.Constants.{constant_value}
use Rattle.pfc_types.specs.rules.Expressions.{find, first_type, field_type, selected, as_desig, expr_type, desig_type}
use Rattle.pfc_values.specs.declared.simple.Simple.{Simple}
use Rattle.pfc_values.specs.declared.simple.Simple.TheVariants.{Integer, Boolean, Char}
use Rattle.pfc_semantics.specs.Operators.{simple_of}
use Rattle.pfc_semantics.specs.Displays.{Spot}
use Rattle.pfc_semantics.specs.Predeclared.{Function, Procedure, abs, sqr, odd, ord, chr, succ, pred, eof, eoln, empty as emptied, clock, random, no_function}
use Rattle.pfc_semantics.specs.Predeclared.{function_of, reader, writer, initial, wait, signal, delay, resume, sleep, no_procedure}
use Rattle.pfc_semantics.specs.Expressions.{spot_of, char_in, form_in}
use Rattle.pfc_semantics.specs.Statements.{as_string, item_of, expr_of, behind_first}
use Rattle.pfc_semantics.specs.Remainders.{Replica, Alternative}
use Rattle.pfc_semantics.specs.Alternatives.{message_of, receiver_of}
use Rattle.pfc_code.specs.declared.instructions.Instr.{Instr}
use Rattle.pfc_code.specs.declared.instructions.Instr.TheVariants.{LIT, FLD, LOAD, STORE, OBJ, NEG, ABS, SQR, ODD, CHR, SUCC, PRED, NOT, JMP, JF, CEQ, SINI}
use Rattle.pfc_code.specs.declared.instructions.Instr.TheVariants.{SWAIT, SSIG, SEND, RECV, ARMS, ARMR, ARMA, ARMT, ARMX, SEL, DELAY, RESUME, EMPTY, SLEEP}
use Rattle.pfc_code.specs.declared.instructions.Instr.TheVariants.{CLOCK, RAND, WRNL, RDNL, EOF, EOLN, NEW}
use Rattle.pfc_translation.specs.Sites.{Site, context_of, forms_of, blocks_of, type_cells}
use Rattle.pfc_translation.specs.Codes.{Code, nothing, ◌⨾◌, one, over, back, string, unseen, with_arms}
use Rattle.pfc_translation.specs.Addresses.{base_code, type_behind, element_in, index_instr, field_cell}
use Rattle.pfc_translation.specs.Expressions.{expr_code, simple_code, summands_code, term_code, multipliers_code, factor_code, sign_code, first_value}
use Rattle.pfc_translation.specs.Expressions.{first_address, actual_code, lent_code, variable_code, args_code, selectors_code, indices_code, name_code}
use Rattle.pfc_translation.specs.Expressions.{function_code, relation_instr, add_instr, multiply_instr, simple_number, call_instr, address_code, desig_code}
use Rattle.pfc_translation.specs.Expressions.{object_code}
use Rattle.pfc_translation.specs.Calls.{write_instr, plain_item, wide_item, item_code, writes_code, read_instr, input_code, reads_code, given_code, rank_code}
use Rattle.pfc_translation.specs.Calls.{first_object, procedure_code}
use Rattle.pfc_translation.specs.Selects.{message_code, message_cells, receiver_code, receiver_cells, send_code, receive_code, entry_of, accept_cell}
use Rattle.pfc_translation.specs.Selects.{accept_cells, replica_code, comm_code, guarded_code, alternatives_code}
use Rattle.pfc_translation.specs.Statements.{label_of, labels_code, chosen_code, sel_code, select_code}
use Rattle.pfc_tree.specs.trees.Stmts.{CommTree, comm_accept, comm_send, comm_receive, timeout, terminate}
use Rattle.pfc_code.specs.declared.instructions.Instr.TheVariants.{ADDR, REF}
use Rattle.pfc_translation.specs.Sites.{links_to, cell_of, refers}
use Rattle.pfc_translation.specs.Selects.{first_of}
use Rattle.pfc_translation.specs.Images.{instructions}
use Rattle.pfc_image_laws.specs.Instructions.{Each}
use Rattle.pfc_image_laws.proofs.Holds.{each_append}

-- it creates no process
abbrev pub IsOther : Instr → Type 0
IsOther (NEW b) = ⊥
IsOther i = Unit {0}

-- nowhere in it a process is created, wherever it is put
pub record IsQuiet (c : Code) : Type 0 where
  pub each : (at n : ℕ) → Each (λ j i. IsOther i) at (instructions (c.put at n))

pub moved : (at to : ℕ) (code : List Instr) → Each (λ j i. IsOther i) at code → Each (λ j i. IsOther i) to code
moved at to [] h = tt
moved at to (i ∷ code) h = (h.0, moved (at + 1) (to + 1) code h.1)

infixr 60 ◌&◌
pub ◌&◌ : {c d : Code} → IsQuiet c → IsQuiet d → IsQuiet (c ⨾ d)
◌&◌ {c} {d} p q =
    record {
      each = λ at n. each_append (λ j i. IsOther i) at (c.put at n) (d.put (at + c.size) (n + length c.texts)) (p.each at n)
          (moved (at + c.size) (at + length (c.put at n)) (instructions (d.put (at + c.size) (n + length c.texts)))
          (q.each (at + c.size) (n + length c.texts)));
    }

pub no_code : IsQuiet nothing
no_code = record { each = λ at n. tt }

pub one_is : (s : Site) (i : Instr) → IsOther i → IsQuiet (one s i)
one_is s i h = record { each = λ at n. (h, tt) }

pub over_is : (s : Site) (f : ℕ → Instr) (count : ℕ) → ((j : ℕ) → IsOther (f j)) → IsQuiet (over s f count)
over_is s f count h = record { each = λ at n. (h (at + 1 + count), tt) }

pub back_is : (s : Site) (f : ℕ → Instr) (count : ℕ) → ((j : ℕ) → IsOther (f j)) → IsQuiet (back s f count)
back_is s f count h = record { each = λ at n. (h (at - count), tt) }

string_is : (s : Site) (x : Text) (w : ℕ) → IsQuiet (string s x w)
string_is s x w = record { each = λ at n. (tt, tt) }

pub unseen_is : (c : Code) → IsQuiet (unseen c)
unseen_is c = record { each = λ at n. tt }

arms_is : (k : ℕ) {c : Code} → IsQuiet c → IsQuiet (with_arms k c)
arms_is k p = record { each = λ at n. p.each at n }

either : (r : Bool) {c d : Code} → IsQuiet c → IsQuiet d → IsQuiet (cond r c d)
either true p q = p
either false p q = q

-- ## Expressions

relation : (r : Relation) → IsOther (relation_instr r)
relation Eq = tt
relation Ne = tt
relation Lt = tt
relation Le = tt
relation Gt = tt
relation Ge = tt

added : (r : AddOp) → IsOther (add_instr r)
added Add = tt
added Minused = tt
added Or = tt

multiplied : (r : MulOp) → IsOther (multiply_instr r)
multiplied Mul = tt
multiplied Div = tt
multiplied Mod = tt
multiplied And = tt

indexed : (forms : Forms) (t : Option TypeForm) → IsOther (index_instr forms t)
indexed forms None = tt
indexed forms (Some (Channel t)) = tt
indexed forms (Some (Array over low high element)) = tt
indexed forms (Some (Record fields)) = tt
indexed forms (Some (ProcessForm n)) = tt

signed : (s : Site) (sign : Option (Sign × Place)) → IsQuiet (sign_code s sign)
signed s None = no_code
signed s (Some (Plus, p)) = no_code
signed s (Some (Minus, p)) = one_is s NEG tt

pub based : (s : Site) (v : Spot) → IsQuiet (base_code s v)
based s v = one_is s _ (by (refers s v))
  where
    by : (r : Bool) → IsOther (if r then REF (links_to s v.scope) (cell_of s v) else ADDR (links_to s v.scope) (cell_of s v))
    by true = tt
    by false = tt

a_function :
    (s : Site) (f : Function) (t : Option TypeId) {value address : Code} → IsQuiet value → IsQuiet address
    → IsQuiet (function_code s f t value address)
a_function s abs t v a = v & one_is s ABS tt
a_function s sqr t v a = v & one_is s SQR tt
a_function s odd t v a = v & one_is s ODD tt
a_function s ord t v a = v
a_function s chr t v a = v & one_is s CHR tt
a_function s succ t v a = v & one_is s (SUCC (simple_number (simple_of t))) tt
a_function s pred t v a = v & one_is s (PRED (simple_number (simple_of t))) tt
a_function s eof t v a = one_is s EOF tt
a_function s eoln t v a = one_is s EOLN tt
a_function s emptied t v a = a & one_is s OBJ tt & one_is s EMPTY tt
a_function s clock t v a = one_is s CLOCK tt
a_function s random t v a = v & one_is s RAND tt
a_function s no_function t v a = no_code

a_name :
    (s : Site) (x : Option Meaning) (ss : SelectorTrees) {address : Code} {args : List Formal → Code} {predeclared : Function → Code} → IsQuiet address
    → ((formals : List Formal) → IsQuiet (args formals)) → ((f : Function) → IsQuiet (predeclared f)) → IsQuiet (name_code s x ss address args predeclared)
a_name s None ss a g p = no_code
a_name s (Some (AConstant t v)) ss a g p = one_is s (LIT v) tt
a_name s (Some (Named t)) ss a g p = no_code
a_name s (Some (Variable t reference)) ss a g p = a & one_is s (LOAD (type_cells (forms_of s) (selected s.env (Some t) ss))) tt
a_name s (Some (Sub k)) ss a g p = g (sub_at (blocks_of s) k).formals & one_is s (call_instr s (sub_at (blocks_of s) k)) tt
a_name s (Some (Module k)) ss a g p = no_code
a_name s (Some (Process k)) ss a g p = no_code
a_name s (Some (Entry k)) ss a g p = no_code
a_name s (Some (Predeclared k)) ss a g p = p (function_of k)
a_name s (Some Faulty) ss a g p = no_code

mutual
  pub expr : (s : Site) (e : ExprTree) → IsQuiet (expr_code s e)
  expr s (plain a p) = simple s a
  expr s (related a r b p) = simple s a & simple s b & one_is s (relation_instr r.0) (relation r.0)

  simple : (s : Site) (e : SimpleTree) → IsQuiet (simple_code s e)
  simple s (sum sign first rest) = term s first & signed s sign & summands s rest

  summands : (s : Site) (e : SummandTrees) → IsQuiet (summands_code s e)
  summands s no_summands = no_code
  summands s (more_summands op t rest) = term s t & one_is s (add_instr op.0) (added op.0) & summands s rest

  term : (s : Site) (e : TermTree) → IsQuiet (term_code s e)
  term s (product f rest) = factor s f & multipliers s rest

  multipliers : (s : Site) (e : MultiplierTrees) → IsQuiet (multipliers_code s e)
  multipliers s no_multipliers = no_code
  multipliers s (more_multipliers op f rest) = factor s f & one_is s (multiply_instr op.0) (multiplied op.0) & multipliers s rest

  factor : (s : Site) (e : FactorTree) → IsQuiet (factor_code s e)
  factor s (number k p) = one_is s (LIT k) tt
  factor s (literal x p) = one_is s (LIT (char_in x)) tt
  factor s (negation f p) = factor s f & one_is s NOT tt
  factor s (paren e p) = expr s e
  factor s (applied (desig x ss q) args p) =
      let found = find s.env x in
      let v = spot_of s.env found in
      a_name s (meaning_of found) ss (based s v.spot & selectors s v.t ss) (λ formals. arguments s formals args)
      (λ f. a_function s f (first_type s.env args) (a_value s args) (an_address s args))

  pub a_value : (s : Site) (args : ActualTrees) → IsQuiet (first_value s args)
  a_value s no_actuals = no_code
  a_value s (more_actuals a rest) = an_actual s a

  an_address : (s : Site) (args : ActualTrees) → IsQuiet (first_address s args)
  an_address s no_actuals = no_code
  an_address s (more_actuals a rest) = lent s a

  an_actual : (s : Site) (a : ActualTree) → IsQuiet (actual_code s a)
  an_actual s (actual e) = expr s e
  an_actual s (actual_width e w) = expr s e

  lent : (s : Site) (a : ActualTree) → IsQuiet (lent_code s a)
  lent s (actual e) = variable s e
  lent s (actual_width e w) = variable s e

  variable : (s : Site) (e : ExprTree) → IsQuiet (variable_code s e)
  variable s (related a r u p) = no_code
  variable s (plain (sum (Some sign) t us) p) = no_code
  variable s (plain (sum None (product (number k q) ms) us) p) = no_code
  variable s (plain (sum None (product (literal x q) ms) us) p) = no_code
  variable s (plain (sum None (product (negation f q) ms) us) p) = no_code
  variable s (plain (sum None (product (paren e q) ms) us) p) = no_code
  variable s (plain (sum None (product (applied (desig x ss r) (more_actuals a args) q) ms) us) p) = no_code
  variable s (plain (sum None (product (applied (desig x ss r) no_actuals q) (more_multipliers op f ms)) us) p) = no_code
  variable s (plain (sum None (product (applied (desig x ss r) no_actuals q) no_multipliers) (more_summands op t us)) p) = no_code
  variable s (plain (sum None (product (applied (desig x ss r) no_actuals q) no_multipliers) no_summands) p) =
      let v = spot_of s.env (find s.env x) in based s v.spot & selectors s v.t ss

  pub arguments : (s : Site) (formals : List Formal) (args : ActualTrees) → IsQuiet (args_code s formals args)
  arguments s formals no_actuals = no_code
  arguments s [] (more_actuals a rest) = no_code
  arguments s (f ∷ formals) (more_actuals a rest) = either f.reference (lent s a) (an_actual s a) & arguments s formals rest

  selectors : (s : Site) (t : Option TypeId) (ss : SelectorTrees) → IsQuiet (selectors_code s t ss)
  selectors s t no_selectors = no_code
  selectors s t (more_selectors (index es p) ss) = indices s t es & selectors s (type_behind (forms_of s) t es) ss
  selectors s t (more_selectors (field x p) ss) =
      one_is s (FLD (field_cell (forms_of s) (form_in (forms_of s) t) x)) tt & selectors s (field_type (forms_of s) t x) ss

  indices : (s : Site) (t : Option TypeId) (es : ExprTrees) → IsQuiet (indices_code s t es)
  indices s t no_exprs = no_code
  indices s t (more_exprs e es) =
      expr s e & one_is s (index_instr (forms_of s) (form_in (forms_of s) t)) (indexed (forms_of s) (form_in (forms_of s) t))
      & indices s (element_in (forms_of s) t) es

pub address : (s : Site) (found : Option Found) (ss : SelectorTrees) → IsQuiet (address_code s found ss)
address s found ss = let v = spot_of s.env found in based s v.spot & selectors s v.t ss

pub designated : (s : Site) (d : DesigTree) → IsQuiet (desig_code s d)
designated s (desig x ss p) = address s (find s.env x) ss

pub an_object : (s : Site) (d : DesigTree) → IsQuiet (object_code s d)
an_object s d = designated s d & one_is s OBJ tt

-- ## Predeclared procedures

write_is : (x : Simple) (w : ℕ) → IsOther (write_instr x w)
write_is Integer w = tt
write_is Boolean w = tt
write_is Char w = tt

read_is : (x : Simple) → IsOther (read_instr x)
read_is Integer = tt
read_is Boolean = tt
read_is Char = tt

a_plain_item : (s : Site) (x : Option Text) (e : ExprTree) → IsQuiet (plain_item s x e)
a_plain_item s None e = expr s e & one_is s (write_instr (simple_of (expr_type s.env e)) 0) (write_is (simple_of (expr_type s.env e)) 0)
a_plain_item s (Some x) e = string_is s x 0

a_wide_item : (s : Site) (x : Option Text) (e w : ExprTree) → IsQuiet (wide_item s x e w)
a_wide_item s None e w = expr s e & expr s w & one_is s (write_instr (simple_of (expr_type s.env e)) 1) (write_is (simple_of (expr_type s.env e)) 1)
a_wide_item s (Some x) e w = expr s w & string_is s x 1

an_item : (s : Site) (a : ActualTree) → IsQuiet (item_code s a)
an_item s (actual e) = a_plain_item s (as_string e) e
an_item s (actual_width e w) = a_wide_item s (as_string e) e w

writes : (s : Site) (args : ActualTrees) (newline : Bool) → IsQuiet (writes_code s args newline)
writes s no_actuals newline = either newline (one_is s WRNL tt) no_code
writes s (more_actuals a rest) newline = an_item s a & writes s rest newline

an_input : (s : Site) (d : Option DesigTree) → IsQuiet (input_code s d)
an_input s None = no_code
an_input s (Some d) = designated s d & one_is s (read_instr (simple_of (desig_type s.env d))) (read_is (simple_of (desig_type s.env d)))

reads : (s : Site) (args : ActualTrees) (skip : Bool) → IsQuiet (reads_code s args skip)
reads s no_actuals skip = either skip (one_is s RDNL tt) no_code
reads s (more_actuals a rest) skip = an_input s (as_desig (item_of a)) & reads s rest skip

given : (s : Site) (e : Option ExprTree) → IsQuiet (given_code s e)
given s None = no_code
given s (Some e) = expr s e

a_rank : (s : Site) (e : Option ExprTree) → IsQuiet (rank_code s e)
a_rank s None = one_is s (LIT (pos 0)) tt
a_rank s (Some e) = expr s e

a_first_object : (s : Site) (args : ActualTrees) → IsQuiet (first_object s args)
a_first_object s args = an_address s args & one_is s OBJ tt

pub a_procedure : (s : Site) (p : Procedure) (args : ActualTrees) → IsQuiet (procedure_code s p args)
a_procedure s (reader skip) args = reads s args skip
a_procedure s (writer newline) args = writes s args newline
a_procedure s initial args = a_first_object s args & given s (expr_of (behind_first args)) & one_is s SINI tt
a_procedure s wait args = a_first_object s args & one_is s SWAIT tt
a_procedure s signal args = a_first_object s args & one_is s SSIG tt
a_procedure s delay args = a_first_object s args & a_rank s (expr_of (behind_first args)) & one_is s DELAY tt
a_procedure s resume args = a_first_object s args & one_is s RESUME tt
a_procedure s sleep args = a_value s args & one_is s SLEEP tt
a_procedure s no_procedure args = no_code

-- ## Communication

a_message : (s : Site) (e : Option ExprTree) → IsQuiet (message_code s e)
a_message s None = no_code
a_message s (Some e) = expr s e

a_receiver : (s : Site) (d : Option DesigTree) → IsQuiet (receiver_code s d)
a_receiver s None = no_code
a_receiver s (Some d) = designated s d

pub sent : (s : Site) (d : DesigTree) (e : ExprTree) → IsQuiet (send_code s d e)
sent s d e = let m = message_of (context_of s) e in an_object s d & a_message s m & one_is s (SEND (message_cells s m)) tt

pub received : (s : Site) (d v : DesigTree) → IsQuiet (receive_code s d v)
received s d v = let r = receiver_of (context_of s) v in an_object s d & a_receiver s r & one_is s (RECV (receiver_cells s r)) tt

a_replica : (s : Site) (r : Option Replica) → IsQuiet (replica_code s r)
a_replica s None = no_code
a_replica s (Some r) = based s r.at & one_is s (LIT r.value) tt & one_is s (STORE 1) tt

communication : (s : Site) (n : ℕ) (c : CommTree) (branch : ℕ) → IsQuiet (comm_code s n c branch)
communication s n (comm_accept a p) branch = over_is s (λ at. ARMA (entry_of s a) (accept_cell s n) (accept_cells s n) at) branch (λ j. tt)
communication s n (comm_send d e p) branch =
    let m = message_of (context_of s) e in an_object s d & a_message s m & over_is s (λ at. ARMS (message_cells s m) at) branch (λ j. tt)
communication s n (comm_receive d v p) branch =
    let r = receiver_of (context_of s) v in an_object s d & a_receiver s r & over_is s (λ at. ARMR (receiver_cells s r) at) branch (λ j. tt)
communication s n (timeout e p) branch = expr s e & over_is s ARMT branch (λ j. tt)
communication s n (terminate p) branch = one_is s ARMX tt

a_guarded : (s : Site) (guard : Option ExprTree) {inner : Code} → IsQuiet inner → IsQuiet (guarded_code s guard inner)
a_guarded s None p = p
a_guarded s (Some e) {inner} p = expr s e & over_is s JF inner.size (λ j. tt) & p

all_alternatives : (s : Site) (alts : List Alternative) (ds : List ℕ) → IsQuiet (alternatives_code s alts ds)
all_alternatives s [] ds = no_code
all_alternatives s (a ∷ rest) ds =
    let behind = alternatives_code s rest (drop 1 ds) in
    (a_replica s a.replica & a_guarded s a.guard (communication s a.next a.comm (behind.size + 1 + first_of ds))) & all_alternatives s rest (drop 1 ds)

a_decision : (s : Site) (pri : Bool) (else_at : Option ℕ) → IsQuiet (sel_code s pri else_at)
a_decision s pri None = one_is s (SEL (if pri then 1 else 0) 0) tt
a_decision s pri (Some count) = over_is s (λ at. SEL (if pri then 1 else 0) at) count (λ j. tt)

pub a_select :
    (s : Site) (pri : Bool) (alts : List Alternative) (ds : List ℕ) {branches : Code} (else_at : Option ℕ) {otherwise : Code} → IsQuiet branches
    → IsQuiet otherwise → IsQuiet (select_code s pri alts ds branches else_at otherwise)
a_select s pri alts ds else_at p q = arms_is (length alts) (all_alternatives s alts ds & a_decision s pri else_at & p & q)

pub chosen : (s : Site) (rs : List Replica) → IsQuiet (chosen_code s rs)
chosen s [] = no_code
chosen s (r ∷ rs) = a_replica s (Some r) & over_is s JMP (chosen_code s rs).size (λ j. tt) & chosen s rs

pub labels : (s : Site) (between : ℕ) (ls : List Constant) → IsQuiet (labels_code s between ls)
labels s between [] = no_code
labels s between (l ∷ ls) =
    over_is s (λ at. CEQ (label_of (constant_value s.env.state.blocks.scopes s.env.view l)) at) (length ls + between) (λ j. tt) & labels s between ls
