-- Shapes do not depend on whether a `cobegin` is around: it changes which calls the rules allow, but no type.
use Rattle.std.proofs.Common.{◌≡◌, ℕ, ◌+◌, Bool, true, false, List, [], ◌∷◌, Option, Some, None, if◌then◌else◌, refl, sym, ap, ◌∙◌, subst}
use Rattle.pfc_base.specs.declared.places.Place.{Place}
use Rattle.pfc_tree.specs.Symbols.{Text}
use Rattle.pfc_tree.specs.declared.tree.Constant.{Constant}
use Rattle.pfc_tree.specs.declared.tree.Spread.{Spread}
use Rattle.pfc_tree.specs.trees.Exprs.{ExprTree, SimpleTree, SummandTrees, TermTree, MultiplierTrees, FactorTree, DesigTree, SelectorTrees, ExprTrees}
use Rattle.pfc_tree.specs.trees.Exprs.{ActualTree, ActualTrees, plain, related, sum, no_summands, more_summands, product, no_multipliers, more_multipliers}
use Rattle.pfc_tree.specs.trees.Exprs.{number, literal, negation, paren, applied as used, desig, index, field, no_selectors, more_selectors, no_exprs}
use Rattle.pfc_tree.specs.trees.Exprs.{more_exprs, actual, actual_width, no_actuals, more_actuals}
use Rattle.pfc_tree.specs.trees.Stmts.{StmtTree, StmtTrees, ArmTrees, AcceptTree, AltTrees, CommTree, empty, null, block, if_then, if_then_else, case_of}
use Rattle.pfc_tree.specs.trees.Stmts.{while_do, repeat_until, repeat_forever, for_do, cobegin, accepting, requeue, select, select_else, assign, send, receive}
use Rattle.pfc_tree.specs.trees.Stmts.{call, no_stmts, more_stmts, body, arm, no_arms, more_arms, accept, accept_do, alt, no_alts, more_alts, comm_accept}
use Rattle.pfc_tree.specs.trees.Stmts.{comm_send, comm_receive, timeout, terminate}
use Rattle.pfc_types.specs.Types.{semaphore, condition}
use Rattle.pfc_types.specs.Scopes.{Level, here, meaning_of}
use Rattle.pfc_types.specs.Blocks.{State, sub_at, process_at, entry_at}
use Rattle.pfc_types.specs.declared.types.TypeId.{TypeId}
use Rattle.pfc_types.specs.declared.scope.Meaning.{Meaning}
use Rattle.pfc_types.specs.declared.scope.Meaning.TheVariants.{Constant as AConstant, Named, Variable, Sub, Module, Process, Entry, Predeclared, Faulty}
use Rattle.pfc_types.specs.declared.heads.Formal.{Formal}
use Rattle.pfc_types.specs.declared.heads.SubHead.{SubHead}
use Rattle.pfc_types.specs.declared.heads.SubSort.{SubSort}
use Rattle.pfc_types.specs.declared.view.Around.{Around}
use Rattle.pfc_types.specs.rules.Kinds.{variable_type}
use Rattle.pfc_types.specs.rules.Calls.{last_field, before_last}
use Rattle.pfc_types.specs.rules.Expressions.{guard_allows, find, as_desig, expr_type, desig_type, selected}
use Rattle.pfc_types.specs.rules.Statements.{scopes_in, arm_scopes, comm_scopes, alt_scopes, alts_scopes, names_any}
use Rattle.pfc_semantics.specs.Displays.{Spot, TypedSpot}
use Rattle.pfc_semantics.specs.Predeclared.{Function, Procedure, abs, sqr, odd, ord, chr, succ, pred, eof, eoln, empty as empty_function, clock, random}
use Rattle.pfc_semantics.specs.Predeclared.{no_function, function_of, reader, writer, initial, wait, signal, delay, resume, sleep, no_procedure, procedure_of}
use Rattle.pfc_semantics.specs.Programs.{Block, Program}
use Rattle.pfc_semantics.specs.Alternatives.{message_of, receiver_of}
use Rattle.pfc_semantics.specs.Expressions.{spot_of}
use Rattle.pfc_semantics.specs.Statements.{as_string, item_of, expr_of, behind_first, name_in_process, process_of_type}
use Rattle.pfc_translation.specs.Sites.{Site, context_of, forms_of, blocks_of, type_cells}
use Rattle.pfc_translation.specs.Addresses.{element_in, type_behind}
use Rattle.pfc_image_numbers.proofs.Alike.{AreAlike, expr_same, selected_same}
use Rattle.pfc_standing_code.specs.Shapes.{Shape, a_number, shape_of}
use Rattle.pfc_standing_code.specs.Typed.{IsDeclared, ByName, InExpressions, FromOutside, ByRequeue, IsSub, Either, IsFunction, IsUse, HasShape, HasShapeSimple}
use Rattle.pfc_standing_code.specs.Typed.{AreSummands, HasShapeTerm, AreMultipliers, HasShapeFactor, IsGivenFirst, IsLentFirst, IsGiven, IsLent, IsVariable}
use Rattle.pfc_standing_code.specs.Typed.{AreArguments, AreSelectors, AreIndices, IsPartOf, IsDesig, Outlives, desig_spot, NameLasting}
use Rattle.pfc_standing_code.specs.TypedStatements.{IsSimpleVariable, IsAssignment, IsMessage, IsReceiver, IsSend, IsReceive, IsItem, AreWritten, IsRead}
use Rattle.pfc_standing_code.specs.TypedStatements.{AreRead, IsNumber, IsRank, IsProcedure, IsProcessType, IsActivation, IsEntryCall, IsEntry, IsProcess}
use Rattle.pfc_standing_code.specs.TypedStatements.{IsField, IsCalledVariable, IsCalledProcess, IsSubCall, IsExported, IsModuleCall, IsCalled, IsCall}
use Rattle.pfc_standing_code.specs.TypedStatements.{IsRequeue, HaveValues, IsGuard, IsSpread, IsComm, IsTyped, AreTyped, AreArmsTyped, IsAcceptTyped}
use Rattle.pfc_standing_code.specs.TypedStatements.{IsMetTyped, AreAltsTyped}
use Rattle.pfc_typed_structures.specs.Inside.{in_cobegin}
use Rattle.pfc_standing_code.specs.ValueTypes.{IsValueType}

either : (r : Bool) (L K G H : Type 0) → (L → K) → (G → H) → Either r L G → Either r K H
either true L K G H f g k = f k
either false L K G H f g k = g k

function_same : (f : Function) (h : Shape) (A B L K : Type 0) → (A → B) → (L → K) → IsFunction f h A L → IsFunction f h B K
function_same abs h A B L K a l k = (k.0, a k.1)
function_same sqr h A B L K a l k = (k.0, a k.1)
function_same odd h A B L K a l k = (k.0, a k.1)
function_same ord h A B L K a l k = (k.0, a k.1)
function_same chr h A B L K a l k = (k.0, a k.1)
function_same succ h A B L K a l k = (k.0, a k.1)
function_same pred h A B L K a l k = (k.0, a k.1)
function_same eof h A B L K a l k = k
function_same eoln h A B L K a l k = k
function_same empty_function h A B L K a l k = (k.0, l k.1)
function_same clock h A B L K a l k = k
function_same random h A B L K a l k = (k.0, a k.1)
function_same no_function h A B L K a l k = k

module _ (g : Program) (b : Block) (state : State) (c d : Around) (alike : AreAlike c d) where
  abbrev from : List Level → ℕ → Site
  from v l = record { program = g; block = b; env = record { state = state; view = v; around = c }; line = l }

  abbrev to : List Level → ℕ → Site
  to v l = record { program = g; block = b; env = record { state = state; view = v; around = d }; line = l }

  -- ## Phrases

  module _ (v : List Level) (l : ℕ) where
    abbrev s : Site
    s = from v l

    abbrev t : Site
    t = to v l

    types : (e : ExprTree) → expr_type s.env e ≡ expr_type t.env e
    types e = expr_same state v c d alike e

    parts : (o : Option TypeId) (ss : SelectorTrees) → selected s.env o ss ≡ selected t.env o ss
    parts o ss = selected_same state v c d alike o ss

    declared : (w : Spot) (o : Option TypeId) → IsDeclared s w o → IsDeclared t w o
    declared w o k =
        record {
          seen = k.seen;
          own = k.own;
          meaning = k.meaning;
          laid = k.laid;
          variable = k.variable;
          typed = k.typed;
          whole = k.whole;
          named = k.named;
        }

    a_sub : (head : SubHead) (left : ℕ) (asked : ℕ → SubSort → Type 0) → IsSub s head left asked → IsSub t head left asked
    a_sub head left asked k =
        let is = k.headed in
        record {
          headed = record {
            number = is.number;
            among = is.among;
            own_scope = is.own_scope;
            own_formals = is.own_formals;
            within = is.within;
            name = is.name;
            declared = is.declared;
            seen = is.seen;
            as_asked = is.as_asked;
          };
          taken = k.taken;
          leaves = k.leaves;
        }

    used_same : (m : Option Meaning) (h : Shape) (D E : Type 0) (L K : Option TypeId → Type 0) (ss : SelectorTrees) (A B : List Formal → Type 0)
        (F G : Function → Type 0) → (D → E) → ((o : Option TypeId) → L o → K o) → ((fs : List Formal) → A fs → B fs) → ((f : Function) → F f → G f)
        → IsUse s m h D L ss A F → IsUse t m h E K ss B G
    used_same None h D E L K ss A B F G f1 f2 f3 f4 k = k
    used_same (Some (AConstant u n)) h D E L K ss A B F G f1 f2 f3 f4 k = k
    used_same (Some (Named u)) h D E L K ss A B F G f1 f2 f3 f4 k = k
    used_same (Some (Variable u r)) h D E L K ss A B F G f1 f2 f3 f4 k = (k.0, f1 k.1, f2 (Some k.0) k.2, sym (parts (Some u) ss) ∙ k.3, k.4)
    used_same (Some (Sub n)) h D E L K ss A B F G f1 f2 f3 f4 k =
        (k.0, a_sub (sub_at (blocks_of s) n) 1 InExpressions k.1, f3 (sub_at (blocks_of s) n).formals k.2)
    used_same (Some (Module n)) h D E L K ss A B F G f1 f2 f3 f4 k = k
    used_same (Some (Process n)) h D E L K ss A B F G f1 f2 f3 f4 k = k
    used_same (Some (Entry n)) h D E L K ss A B F G f1 f2 f3 f4 k = k
    used_same (Some (Predeclared n)) h D E L K ss A B F G f1 f2 f3 f4 k = f4 (function_of n) k
    used_same (Some Faulty) h D E L K ss A B F G f1 f2 f3 f4 k = k

    mutual
      expr : (e : ExprTree) (h : Shape) → HasShape s e h → HasShape t e h
      expr (plain a p) h k = simple a h k
      expr (related a r u p) h k = (k.0, simple a a_number k.1, simple u a_number k.2)

      simple : (e : SimpleTree) (h : Shape) → HasShapeSimple s e h → HasShapeSimple t e h
      simple (sum None first no_summands) h k = term first h k
      simple (sum None first (more_summands op u rest)) h k = (k.0, term first a_number k.1, summands (more_summands op u rest) k.2)
      simple (sum (Some sign) first rest) h k = (k.0, term first a_number k.1, summands rest k.2)

      summands : (e : SummandTrees) → AreSummands s e → AreSummands t e
      summands no_summands k = k
      summands (more_summands op u rest) k = (term u a_number k.0, summands rest k.1)

      term : (e : TermTree) (h : Shape) → HasShapeTerm s e h → HasShapeTerm t e h
      term (product f no_multipliers) h k = factor f h k
      term (product f (more_multipliers op u rest)) h k = (k.0, factor f a_number k.1, multipliers (more_multipliers op u rest) k.2)

      multipliers : (e : MultiplierTrees) → AreMultipliers s e → AreMultipliers t e
      multipliers no_multipliers k = k
      multipliers (more_multipliers op f rest) k = (factor f a_number k.0, multipliers rest k.1)

      factor : (e : FactorTree) (h : Shape) → HasShapeFactor s e h → HasShapeFactor t e h
      factor (number n p) h k = k
      factor (literal x p) h k = k
      factor (negation f p) h k = (k.0, factor f a_number k.1)
      factor (paren e p) h k = expr e h k
      factor (used (desig x ss q) args p) h k =
          let w = spot_of s.env (find s.env x) in (
            subst (λ (r : Option ℕ). guard_allows r (find s.env x) ≡ true) alike.guard k.0,
            used_same (meaning_of (find s.env x)) h (IsDeclared s w.spot w.t) (IsDeclared t w.spot w.t) (λ u. AreSelectors s w.t ss u)
                (λ u. AreSelectors t w.t ss u) ss (λ formals. AreArguments s formals args) (λ formals. AreArguments t formals args)
                (λ f. IsFunction f h (IsGivenFirst s args) (IsLentFirst s args (Some condition)))
                (λ f. IsFunction f h (IsGivenFirst t args) (IsLentFirst t args (Some condition)))
                (declared w.spot w.t) (λ u j. selectors w.t ss u j) (λ formals j. arguments formals args j)
                (λ f j. function_same f h (IsGivenFirst s args) (IsGivenFirst t args) (IsLentFirst s args (Some condition))
                (IsLentFirst t args (Some condition))
                (λ i. given_first args i) (λ i. lent_first args (Some condition) i) j) k.1,
          )

      given_first : (args : ActualTrees) → IsGivenFirst s args → IsGivenFirst t args
      given_first no_actuals k = k
      given_first (more_actuals a rest) k = given a a_number k

      lent_first : (args : ActualTrees) (o : Option TypeId) → IsLentFirst s args o → IsLentFirst t args o
      lent_first no_actuals o k = k
      lent_first (more_actuals a rest) o k = lent a o k

      given : (a : ActualTree) (h : Shape) → IsGiven s a h → IsGiven t a h
      given (actual e) h k = expr e h k
      given (actual_width e w) h k = expr e h k

      lent : (a : ActualTree) (o : Option TypeId) → IsLent s a o → IsLent t a o
      lent (actual e) o k = variable e o k
      lent (actual_width e w) o k = variable e o k

      variable : (e : ExprTree) (o : Option TypeId) → IsVariable s e o → IsVariable t e o
      variable (related a r u p) o k = k
      variable (plain (sum (Some sign) first rest) p) o k = k
      variable (plain (sum None (product (number n q) ms) rest) p) o k = k
      variable (plain (sum None (product (literal x q) ms) rest) p) o k = k
      variable (plain (sum None (product (negation f q) ms) rest) p) o k = k
      variable (plain (sum None (product (paren e q) ms) rest) p) o k = k
      variable (plain (sum None (product (used (desig x ss q) (more_actuals a args) w) ms) rest) p) o k = k
      variable (plain (sum None (product (used (desig x ss q) no_actuals w) (more_multipliers op f ms)) rest) p) o k = k
      variable (plain (sum None (product (used (desig x ss q) no_actuals w) no_multipliers) (more_summands op u rest)) p) o k = k
      variable (plain (sum None (product (used (desig x ss q) no_actuals w) no_multipliers) no_summands) p) o k =
          let z = spot_of s.env (find s.env x) in (declared z.spot z.t k.0, selectors z.t ss o k.1)

      arguments : (formals : List Formal) (args : ActualTrees) → AreArguments s formals args → AreArguments t formals args
      arguments [] no_actuals k = k
      arguments (f ∷ formals) no_actuals k = k
      arguments [] (more_actuals a rest) k = k
      arguments (f ∷ formals) (more_actuals a rest) k = (
        either f.reference (IsLent s a f.t) (IsLent t a f.t) ((u : TypeId) × (f.t ≡ Some u) × IsGiven s a (shape_of u) × IsValueType (forms_of s) u)
            ((u : TypeId) × (f.t ≡ Some u) × IsGiven t a (shape_of u) × IsValueType (forms_of t) u) (λ i. lent a f.t i)
            (λ i. (i.0, i.1, given a (shape_of i.0) i.2, i.3)) k.0,
        arguments formals rest k.1,
      )

      selectors : (o : Option TypeId) (ss : SelectorTrees) (u : Option TypeId) → AreSelectors s o ss u → AreSelectors t o ss u
      selectors o no_selectors u k = k
      selectors o (more_selectors (index es p) ss) u k = (indices o es k.0, selectors (type_behind (forms_of s) o es) ss u k.1)
      selectors o (more_selectors (field x p) ss) u k = (k.0, selectors _ ss u k.1)

      indices : (o : Option TypeId) (es : ExprTrees) → AreIndices s o es → AreIndices t o es
      indices o no_exprs k = k
      indices o (more_exprs e es) k = (k.0, expr e a_number k.1, indices (element_in (forms_of s) o) es k.2)

    part : (w : TypedSpot) (ss : SelectorTrees) (o : Option TypeId) → IsPartOf s w ss o → IsPartOf t w ss o
    part w ss o k = (declared w.spot w.t k.0, selectors w.t ss o k.1)

    a_desig : (x : DesigTree) (o : Option TypeId) → IsDesig s x o → IsDesig t x o
    a_desig (desig x ss p) o k = part (spot_of s.env (find s.env x)) ss o k

    simple_variable : (w : Spot) → IsSimpleVariable s w → IsSimpleVariable t w
    simple_variable w k = (k.0, k.1, declared w (Some k.0) k.2)

    -- ## Statements that hold no others

    assignment : (x : DesigTree) (e : ExprTree) → IsAssignment s x e → IsAssignment t x e
    assignment x e k =
        record {
          t = k.t;
          target = a_desig x (Some k.t) k.target;
          value = expr e (shape_of k.t) k.value;
          cells = ap (λ (o : Option TypeId). type_cells (forms_of s) o) (sym (types e)) ∙ k.cells;
          values = k.values;
        }

    any_same : (o : Option DesigTree) → names_any s.env o ≡ names_any t.env o
    any_same None = refl
    any_same (Some (desig x no_selectors p)) = refl
    any_same (Some (desig x (more_selectors z ss) p)) = refl

    message_same : (e : ExprTree) → message_of (context_of s) e ≡ message_of (context_of t) e
    message_same e = ap (λ (r : Bool). if r then None else Some e) (any_same (as_desig e))

    receiver_same : (x : DesigTree) → receiver_of (context_of s) x ≡ receiver_of (context_of t) x
    receiver_same x = ap (λ (r : Bool). if r then None else Some x) (any_same (Some x))

    desig_types : (x : DesigTree) → desig_type s.env x ≡ desig_type t.env x
    desig_types (desig x ss p) = parts (variable_type (meaning_of (find s.env x))) ss

    message : (m : Option ExprTree) (u : TypeId) → IsMessage s m u → IsMessage t m u
    message None u k = k
    message (Some e) u k = (expr e (shape_of u) k.0, ap (λ (o : Option TypeId). type_cells (forms_of s) o) (sym (types e)) ∙ k.1, k.2)

    receiver : (r : Option DesigTree) (u : TypeId) → IsReceiver s r u → IsReceiver t r u
    receiver None u k = k
    receiver (Some x) u k =
        (a_desig x (Some u) k.0, ap (λ (o : Option TypeId). type_cells (forms_of s) o) (sym (desig_types x)) ∙ k.1, k.2)

    send_in : (x : DesigTree) (m : Option ExprTree) → IsSend s x m → IsSend t x m
    send_in x m k = record { t = k.t; u = k.u; channel = a_desig x k.t k.channel; carries = k.carries; message = message m k.u k.message }

    send_same : (x : DesigTree) (e : ExprTree) → IsSend s x (message_of (context_of s) e) → IsSend t x (message_of (context_of t) e)
    send_same x e k = subst (λ (m : Option ExprTree). IsSend t x m) (message_same e) (send_in x (message_of (context_of s) e) k)

    receive_in : (x : DesigTree) (r : Option DesigTree) → IsReceive s x r → IsReceive t x r
    receive_in x r k = record { t = k.t; u = k.u; channel = a_desig x k.t k.channel; carries = k.carries; receiver = receiver r k.u k.receiver }

    receive_same : (x y : DesigTree) → IsReceive s x (receiver_of (context_of s) y) → IsReceive t x (receiver_of (context_of t) y)
    receive_same x y k = subst (λ (r : Option DesigTree). IsReceive t x r) (receiver_same y) (receive_in x (receiver_of (context_of s) y) k)

    item : (o : Option Text) (e : ExprTree) → IsItem s o e → IsItem t o e
    item None e k = expr e a_number k
    item (Some x) e k = k

    written : (args : ActualTrees) → AreWritten s args → AreWritten t args
    written no_actuals k = k
    written (more_actuals (actual e) rest) k = (item (as_string e) e k.0, written rest k.1)
    written (more_actuals (actual_width e w) rest) k = let one = k.0 in ((item (as_string e) e one.0, expr w a_number one.1), written rest k.1)

    is_read : (o : Option DesigTree) → IsRead s o → IsRead t o
    is_read None k = k
    is_read (Some x) k = (k.0, k.1, a_desig x (Some k.0) k.2)

    are_read : (args : ActualTrees) → AreRead s args → AreRead t args
    are_read no_actuals k = k
    are_read (more_actuals a rest) k = (is_read (as_desig (item_of a)) k.0, are_read rest k.1)

    a_rank : (o : Option ExprTree) → IsRank s o → IsRank t o
    a_rank None k = k
    a_rank (Some e) k = expr e a_number k

    one_number : (o : Option ExprTree) → IsNumber s o → IsNumber t o
    one_number None k = k
    one_number (Some e) k = expr e a_number k

    procedure_same : (f : Procedure) (args : ActualTrees) → IsProcedure s f args → IsProcedure t f args
    procedure_same (reader skip) args k = are_read args k
    procedure_same (writer newline) args k = written args k
    procedure_same initial args k = (lent_first args (Some semaphore) k.0, one_number (expr_of (behind_first args)) k.1)
    procedure_same wait args k = lent_first args (Some semaphore) k
    procedure_same signal args k = lent_first args (Some semaphore) k
    procedure_same delay args k = (lent_first args (Some condition) k.0, a_rank (expr_of (behind_first args)) k.1)
    procedure_same resume args k = lent_first args (Some condition) k
    procedure_same sleep args k = given_first args k
    procedure_same no_procedure args k = k

    -- ## Calls

    process_type : (n : ℕ) (w : Spot) (o : Option TypeId) → IsProcessType s n w o → IsProcessType t n w o
    process_type n w None k = k
    process_type n w (Some u) k = k

    activation : (n : ℕ) (w : TypedSpot) (ss : SelectorTrees) (args : ActualTrees) → IsActivation s n w ss args → IsActivation t n w ss args
    activation n w ss args k =
        record {
          t = k.t;
          called = part w ss k.t k.called;
          process = process_type n w.spot k.t k.process;
          among = k.among;
          arguments = arguments (process_at (blocks_of s) n).formals args k.arguments;
          taken = k.taken;
        }

    entry_call : (n e : ℕ) (w : TypedSpot) (ss : SelectorTrees) (args : ActualTrees) → IsEntryCall s n e w ss args → IsEntryCall t n e w ss args
    entry_call n e w ss args k =
        record {
          t = k.t;
          called = part w ss k.t k.called;
          process = process_type n w.spot k.t k.process;
          among = k.among;
          arguments = arguments (entry_at (blocks_of s) n e) args k.arguments;
        }

    an_entry : (n : ℕ) (w : TypedSpot) (ss : SelectorTrees) (m : Option Meaning) (args : ActualTrees) → IsEntry s n w ss m args → IsEntry t n w ss m args
    an_entry n w ss None args k = k
    an_entry n w ss (Some (AConstant u z)) args k = k
    an_entry n w ss (Some (Named u)) args k = k
    an_entry n w ss (Some (Variable u r)) args k = k
    an_entry n w ss (Some (Sub z)) args k = k
    an_entry n w ss (Some (Module z)) args k = k
    an_entry n w ss (Some (Process z)) args k = k
    an_entry n w ss (Some (Entry e)) args k = entry_call n e w ss args k
    an_entry n w ss (Some (Predeclared z)) args k = k
    an_entry n w ss (Some Faulty) args k = k

    a_process : (o : Option ℕ) (w : TypedSpot) (ss : SelectorTrees) (args : ActualTrees) → IsProcess s o w ss args → IsProcess t o w ss args
    a_process None w ss args k = k
    a_process (Some n) w ss args k = activation n w ss args k

    process_of : (o : Option TypeId) (ss : SelectorTrees) → process_of_type s.env (selected s.env o ss) ≡ process_of_type t.env (selected t.env o ss)
    process_of o ss = by (selected s.env o ss) (selected t.env o ss) (parts o ss)
      where
        by : (x y : Option TypeId) → x ≡ y → process_of_type s.env x ≡ process_of_type t.env y
        by None None e = refl
        by None (Some y) e = absurd (cc)
        by (Some x) None e = absurd (cc)
        by (Some x) (Some y) e = let same : x ≡ y = cc in ap (λ (z : TypeId). process_of_type s.env (Some z)) same

    a_field : (w : TypedSpot) (ss : SelectorTrees) (o : Option ℕ) (x : Text) (args : ActualTrees) → IsField s w ss o x args → IsField t w ss o x args
    a_field w ss None x args k =
        subst (λ (o : Option ℕ). IsProcess t o w ss args) (process_of w.t ss) (a_process (process_of_type s.env (selected s.env w.t ss)) w ss args k)
    a_field w ss (Some n) x args k = an_entry n w (before_last ss) (name_in_process (blocks_of s) n x) args k

    called_variable : (w : TypedSpot) (ss : SelectorTrees) (o : Option (Text × Place)) (args : ActualTrees) → IsCalledVariable s w ss o args
        → IsCalledVariable t w ss o args
    called_variable w ss None args k =
        subst (λ (o : Option ℕ). IsProcess t o w ss args) (process_of w.t ss) (a_process (process_of_type s.env (selected s.env w.t ss)) w ss args k)
    called_variable w ss (Some x) args k =
        subst (λ (o : Option ℕ). IsField t w ss o x.0 args) (process_of w.t (before_last ss))
        (a_field w ss (process_of_type s.env (selected s.env w.t (before_last ss))) x.0 args k)

    called_process : (n : ℕ) (w : TypedSpot) (o : Option (Text × Place)) (args : ActualTrees) → IsCalledProcess s n w o args → IsCalledProcess t n w o args
    called_process n w None args k = activation n w no_selectors args k
    called_process n w (Some x) args k = an_entry n w no_selectors (name_in_process (blocks_of s) n x.0) args k

    sub_call : (asked : ℕ → SubSort → Type 0) (n : ℕ) (args : ActualTrees) → IsSubCall s asked n args → IsSubCall t asked n args
    sub_call asked n args k =
        (a_sub (sub_at (blocks_of s) n) 0 asked k.0, arguments (sub_at (blocks_of s) n).formals args k.1)

    exported : (n : ℕ) (m : Option Meaning) (args : ActualTrees) → IsExported s n m args → IsExported t n m args
    exported n None args k = k
    exported n (Some (AConstant u z)) args k = k
    exported n (Some (Named u)) args k = k
    exported n (Some (Variable u r)) args k = k
    exported n (Some (Sub z)) args k = sub_call (FromOutside (blocks_of s) n) z args k
    exported n (Some (Module z)) args k = k
    exported n (Some (Process z)) args k = k
    exported n (Some (Entry e)) args k = k
    exported n (Some (Predeclared z)) args k = k
    exported n (Some Faulty) args k = k

    module_call : (n : ℕ) (o : Option (Text × Place)) (args : ActualTrees) → IsModuleCall s n o args → IsModuleCall t n o args
    module_call n None args k = k
    module_call n (Some x) args k = exported n _ args k

    called : (m : Option Meaning) (w : TypedSpot) (ss : SelectorTrees) (args : ActualTrees) → IsCalled s m w ss args → IsCalled t m w ss args
    called None w ss args k = k
    called (Some (AConstant u z)) w ss args k = k
    called (Some (Named u)) w ss args k = k
    called (Some (Variable u r)) w ss args k = (k.0, called_variable w ss (last_field ss) args k.1)
    called (Some (Sub z)) w ss args k = sub_call ByName z args k
    called (Some (Module z)) w ss args k = module_call z (last_field ss) args k
    called (Some (Process z)) w ss args k = called_process z w (last_field ss) args k
    called (Some (Entry e)) w ss args k = k
    called (Some (Predeclared z)) w ss args k = procedure_same (procedure_of z) args k
    called (Some Faulty) w ss args k = k

    a_call : (x : DesigTree) (args : ActualTrees) → IsCall s x args → IsCall t x args
    a_call (desig x ss p) args k = called (meaning_of (find s.env x)) (spot_of s.env (find s.env x)) ss args k

    lasting : (formals : List Formal) (args : ActualTrees) → NameLasting s formals args → NameLasting t formals args
    lasting [] no_actuals k = tt
    lasting [] (more_actuals a rest) k = tt
    lasting (f ∷ formals) no_actuals k = tt
    lasting (f ∷ formals) (more_actuals a rest) k = (of_desig f.reference (as_desig (item_of a)) k.0, lasting formals rest k.1)
      where
        of_desig : (r : Bool) (o : Option DesigTree) → Either r (Outlives s (desig_spot s o)) (Unit {0})
            → Either r (Outlives t (desig_spot t o)) (Unit {0})
        of_desig r None k = k
        of_desig r (Some (desig x ss p)) k = k

    a_requeue : (m : Option Meaning) (args : ActualTrees) → IsRequeue s m args → IsRequeue t m args
    a_requeue None args k = k
    a_requeue (Some (AConstant u z)) args k = k
    a_requeue (Some (Named u)) args k = k
    a_requeue (Some (Variable u r)) args k = k
    a_requeue (Some (Sub z)) args k = (
      a_sub (sub_at (blocks_of s) z) 0 (ByRequeue s.block) k.0,
      arguments (sub_at (blocks_of s) z).formals args k.1,
      lasting (sub_at (blocks_of s) z).formals args k.2,
    )
    a_requeue (Some (Module z)) args k = k
    a_requeue (Some (Process z)) args k = k
    a_requeue (Some (Entry e)) args k = k
    a_requeue (Some (Predeclared z)) args k = k
    a_requeue (Some Faulty) args k = k

    values : (ls : List Constant) → HaveValues s ls → HaveValues t ls
    values [] k = k
    values (x ∷ ls) k = (k.0, values ls k.1)

    a_guard : (o : Option ExprTree) → IsGuard s o → IsGuard t o
    a_guard None k = k
    a_guard (Some e) k = expr e a_number k

    a_spread : (o : Option Spread) → IsSpread s o → IsSpread t o
    a_spread None k = k
    a_spread (Some r) k = simple_variable (spot_of s.env (find s.env r.name)).spot k

    a_comm : (x : CommTree) → IsComm s x → IsComm t x
    a_comm (comm_accept a p) k = k
    a_comm (comm_send x e p) k = send_same x e k
    a_comm (comm_receive x y p) k = receive_same x y k
    a_comm (timeout e p) k = expr e a_number k
    a_comm (terminate p) k = k

  -- ## All statements

  mutual
    stmt : (x : StmtTree) (v : List Level) (l n : ℕ) → IsTyped (from v l) n x → IsTyped (to v l) n x
    stmt empty v l n k = k
    stmt (null p) v l n k = k
    stmt (block (body ss first last) p) v l n k = stmts ss v l n k
    stmt (if_then e x p) v l n k = (expr v p.line e a_number k.0, stmt x v p.line n k.1)
    stmt (if_then_else e x y p) v l n k = (expr v p.line e a_number k.0, stmt x v p.line n k.1, stmt y v p.line (n + scopes_in x) k.2)
    stmt (case_of e arms last p) v l n k = (expr v p.line e a_number k.0, arms_same arms v p.line n k.1)
    stmt (while_do e x p) v l n k = (expr v p.line e a_number k.0, stmt x v p.line n k.1)
    stmt (repeat_until ss e p) v l n k = (stmts ss v p.line n k.0, expr v p.line e a_number k.1)
    stmt (repeat_forever ss p) v l n k = stmts ss v p.line n k
    stmt (for_do x a down z y p q) v l n k = (
      simple_variable v p.line _ k.0,
      expr v p.line a a_number k.1,
      expr v p.line z a_number k.2,
      stmt y v p.line n k.3,
    )
    stmt (cobegin ss last p) v l n k = stmts ss v l n k
    stmt (accepting a p) v l n k = accept_same a v p.line n k
    stmt (requeue x args p) v l n k = a_requeue v p.line (meaning_of (find (from v p.line).env x.0)) args k
    stmt (select pri alts p q) v l n k = alts_same alts v p.line n k
    stmt (select_else pri alts ss at p q) v l n k = (alts_same alts v p.line n k.0, stmts ss v p.line (n + alts_scopes alts) k.1)
    stmt (assign x e p q) v l n k = assignment v p.line x e k
    stmt (send x e p q) v l n k = send_same v p.line x e k
    stmt (receive x y p q) v l n k = receive_same v p.line x y k
    stmt (call x args p) v l n k = a_call v p.line x args k

    stmts : (xs : StmtTrees) (v : List Level) (l n : ℕ) → AreTyped (from v l) n xs → AreTyped (to v l) n xs
    stmts no_stmts v l n k = k
    stmts (more_stmts x xs) v l n k = (stmt x v l n k.0, stmts xs v l (n + scopes_in x) k.1)

    arms_same : (xs : ArmTrees) (v : List Level) (l n : ℕ) → AreArmsTyped (from v l) n xs → AreArmsTyped (to v l) n xs
    arms_same no_arms v l n k = k
    arms_same (more_arms (arm ls x) xs) v l n k = (values v l ls k.0, stmt x v l n k.1, arms_same xs v l (n + arm_scopes (arm ls x)) k.2)

    accept_same : (x : AcceptTree) (v : List Level) (l n : ℕ) → IsAcceptTyped (from v l) n x → IsAcceptTyped (to v l) n x
    accept_same (accept x gs p) v l n k = k
    accept_same (accept_do x gs y p) v l n k = (k.0, stmt y (here state.blocks.scopes n v) l (n + 1) k.1)

    met_same : (x : CommTree) (v : List Level) (l n : ℕ) → IsMetTyped (from v l) n x → IsMetTyped (to v l) n x
    met_same (comm_accept a p) v l n k = accept_same a v l n k
    met_same (comm_send x e p) v l n k = k
    met_same (comm_receive x y p) v l n k = k
    met_same (timeout e p) v l n k = k
    met_same (terminate p) v l n k = k

    alts_same : (xs : AltTrees) (v : List Level) (l n : ℕ) → AreAltsTyped (from v l) n xs → AreAltsTyped (to v l) n xs
    alts_same no_alts v l n k = k
    alts_same (more_alts (alt spread guard comm ss) xs) v l n k =
        let one = k.0 in (
          (
            a_spread v l spread one.0,
            a_guard v l guard one.1,
            a_comm v l comm one.2,
            met_same comm v l n one.3,
            stmts ss v l (n + comm_scopes comm) one.4,
          ),
          alts_same xs v l (n + alt_scopes (alt spread guard comm ss)) k.1,
        )

-- what is typed in a `cobegin` is so outside it
pub out_of_cobegin : (u : Site) (n : ℕ) (ss : StmtTrees) → AreTyped (in_cobegin u) n ss → AreTyped u n ss
out_of_cobegin u n ss k =
    stmts u.program u.block u.env.state (record u.env.around { cobegin = true }) u.env.around (record { main = refl; sub = refl; guard = refl }) ss
    u.env.view u.line n k
