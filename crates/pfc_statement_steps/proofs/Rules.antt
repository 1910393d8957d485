-- The rules of quiet rewriting, one equation each: what is pending stands for what a definition does behind a part of a statement.
use Rattle.std.proofs.Common.{◌≡◌, ℕ, ℤ, Bool, true, false, Option, Some, None, List, refl, sym, ap, ap₂, ◌∙◌}
use Rattle.std.specs.Prelude.{if◌then◌else◌}
use Rattle.std.specs.declared.boxed.Box.{Box}
use Rattle.std.specs.declared.alloc.Global.{Global}
use Rattle.pfc_base.specs.declared.places.Place.{Place}
use Rattle.pfc_tree.specs.Symbols.{Text}
use Rattle.pfc_tree.specs.trees.Exprs.{ExprTree, DesigTree, ActualTree, ActualTrees, SelectorTrees, actual, actual_width, more_actuals}
use Rattle.pfc_tree.specs.trees.Stmts.{StmtTree, StmtTrees, ArmTrees, case_of, while_do, repeat_until, repeat_forever, for_do}
use Rattle.pfc_tree.specs.views.Stmts.{if_of}
use Rattle.pfc_types.specs.declared.types.TypeId.{TypeId}
use Rattle.pfc_types.specs.declared.heads.Formal.{Formal}
use Rattle.pfc_types.specs.rules.Expressions.{Env, find, as_desig, expr_type, desig_type}
use Rattle.pfc_semantics.specs.Values.{Value, ordinal_of}
use Rattle.pfc_semantics.specs.Displays.{Spot, TypedSpot}
use Rattle.pfc_semantics.specs.Remainders.{Context, Bar, Remainder, Action, in_names, try_guard, pass_own, by_reference, assign_to, input_to, read_on, show}
use Rattle.pfc_semantics.specs.Remainders.{show_wide, pad, prints, initial_to, wait_at, signal_at, delay_at, resume_at, sleep_for, send_to, receive_from}
use Rattle.pfc_semantics.specs.Remainders.{activate_with, enter_with, turn}
use Rattle.pfc_semantics.specs.Predeclared.{wait, signal, delay, resume, sleep}
use Rattle.pfc_semantics.specs.Alternatives.{context, message_of, receiver_of}
use Rattle.pfc_semantics.specs.Expressions.{spot_of, from_expr, from_desig, from_selectors, from_reference, from_argument}
use Rattle.pfc_semantics.specs.Statements.{from_stmt, from_stmts, from_assign, from_item, from_string, from_wide_string, as_string, from_input, from_reads}
use Rattle.pfc_semantics.specs.Statements.{item_of, expr_of, behind_first, from_initial, from_procedure, from_activation, from_entry_call, from_send}
use Rattle.pfc_semantics.specs.Statements.{from_receive}
use Rattle.pfc_semantics.specs.Rewriting.{from_remainder, from_value, from_location}
use Rattle.pfc_sites.proofs.References.{first_given}
use Rattle.pfc_pending.specs.Waiting.{choose_of, choose_arm_of, while_true_of, until_of, count_from_of, count_to_of}

-- ## The part of a statement that comes first

pub if_step :
    (env : Env) (n : ℕ) (st : StmtTree) (e : ExprTree) (first : StmtTree) (other : Option (Box StmtTree Global)) (p : Place) (k : Remainder)
    → st ≡ if_of e first other p
    → from_expr (context env p.line) e (choose_of n st k) (from_value (context env p.line) (choose_of n st k)) ≡ from_stmt env n
    (if_of e first other p) k (from_remainder env k)
if_step env n st e first None p k is = ap (λ x. from_expr (context env p.line) e (choose_of n x k) (from_value (context env p.line) (choose_of n x k))) is
if_step env n st e first (Some other) p k is =
    ap (λ x. from_expr (context env p.line) e (choose_of n x k) (from_value (context env p.line) (choose_of n x k))) is

pub case_step :
    (env : Env) (n : ℕ) (st : StmtTree) (e : ExprTree) (arms : ArmTrees) (last : Bool) (p : Place) (k : Remainder)
    → st ≡ case_of e arms last p
    → from_expr (context env p.line) e (choose_arm_of n st k) (from_value (context env p.line) (choose_arm_of n st k)) ≡ from_stmt env n
    (case_of e arms last p) k (from_remainder env k)
case_step env n st e arms last p k is =
    ap (λ x. from_expr (context env p.line) e (choose_arm_of n x k) (from_value (context env p.line) (choose_arm_of n x k))) is

pub while_step :
    (env : Env) (n : ℕ) (st : StmtTree) (e : ExprTree) (pass : StmtTree) (p : Place) (k : Remainder)
    → st ≡ while_do e pass p
    → from_expr (context env p.line) e (while_true_of n st k) (from_value (context env p.line) (while_true_of n st k)) ≡ from_stmt env n
    (while_do e pass p) k (from_remainder env k)
while_step env n st e pass p k is = ap (λ x. from_expr (context env p.line) e (while_true_of n x k) (from_value (context env p.line) (while_true_of n x k))) is

pub until_step :
    (env : Env) (n : ℕ) (st : StmtTree) (ss : StmtTrees) (e : ExprTree) (p : Place) (k : Remainder)
    → st ≡ repeat_until ss e p
    → from_stmts env n ss (until_of n st k) (from_remainder env (until_of n st k)) ≡ from_stmt env n (repeat_until ss e p) k (from_remainder env k)
until_step env n st ss e p k is = ap (λ x. from_stmts env n ss (until_of n x k) (from_remainder env (until_of n x k))) is

pub forever_step :
    (env : Env) (n : ℕ) (st : StmtTree) (ss : StmtTrees) (p : Place) (k : Remainder)
    → st ≡ repeat_forever ss p
    → from_stmts env n ss (turn n st k) (from_remainder env (turn n st k)) ≡ from_stmt env n (repeat_forever ss p) k (from_remainder env k)
forever_step env n st ss p k is = ap (λ x. from_stmts env n ss (turn n x k) (from_remainder env (turn n x k))) is

pub ruleset tests = (if_step, case_step, while_step, until_step, forever_step)

pub for_step :
    (env : Env) (n : ℕ) (st : StmtTree) (x : Text) (a : ExprTree) (down : Bool) (b : ExprTree) (pass : StmtTree) (p q : Place) (k : Remainder) (r : TypedSpot)
    → r ≡ spot_of env (find env x) → st ≡ for_do x a down b pass p q
    → from_expr (context env p.line) a (count_from_of n st (by_reference r.spot) k)
    (from_value (context env p.line) (count_from_of n st (by_reference r.spot) k))
    ≡ from_stmt env n (for_do x a down b pass p q) k (from_remainder env k)
for_step env n st x a down b pass p q k r at is =
    ap₂ (λ (y : StmtTree) (s : TypedSpot). from_expr (context env p.line) a (count_from_of n y (by_reference s.spot) k)
    (from_value (context env p.line) (count_from_of n y (by_reference s.spot) k))) is at

pub ruleset counting = for_step

-- ## Output

pub plain_shown :
    (c : Context) (e : ExprTree) (k : Remainder) (t : Option TypeId)
    → t ≡ expr_type c.env e → None ≡ as_string e → from_expr c e (show t k) (from_value c (show t k)) ≡ from_item c (actual e) k
plain_shown c e k t is none = ap (λ u. from_expr c e (show u k) (from_value c (show u k))) is ∙ ap (λ s. from_string c s e k) none

pub plain_string : (c : Context) (e : ExprTree) (k : Remainder) (x : Text) → Some x ≡ as_string e → prints c x k ≡ from_item c (actual e) k
plain_string c e k x some = ap (λ s. from_string c s e k) some

pub wide_shown :
    (c : Context) (e w : ExprTree) (k : Remainder) (t : Option TypeId)
    → t ≡ expr_type c.env e → None ≡ as_string e → from_expr c e (show_wide t w k) (from_value c (show_wide t w k)) ≡ from_item c (actual_width e w) k
wide_shown c e w k t is none = ap (λ u. from_expr c e (show_wide u w k) (from_value c (show_wide u w k))) is ∙ ap (λ s. from_wide_string c s e w k) none

pub wide_string :
    (c : Context) (e w : ExprTree) (k : Remainder) (x : Text)
    → Some x ≡ as_string e → from_expr c w (pad x k) (from_value c (pad x k)) ≡ from_item c (actual_width e w) k
wide_string c e w k x some = ap (λ s. from_wide_string c s e w k) some

pub ruleset output = (plain_shown, plain_string, wide_shown, wide_string)

-- ## Input

pub read_first :
    (c : Context) (args : ActualTrees) (a : ActualTree) (rest : ActualTrees) (skip : Bool) (k : Remainder) (go : Action)
    (e : ExprTree) (d : DesigTree) (t : Option TypeId)
    → args ≡ more_actuals a rest → e ≡ item_of a → Some d ≡ as_desig e → t ≡ desig_type c.env d
    → from_desig c d (input_to t (read_on c.line rest skip k)) (from_location c (input_to t (read_on c.line rest skip k))) ≡ from_reads c args skip k go
read_first c args a rest skip k go e d t is item some type =
    let kept = read_on c.line rest skip k in
    ap (λ u. from_desig c d (input_to u kept) (from_location c (input_to u kept))) type
    ∙ ap (λ f. from_input c f kept (from_reads c rest skip k go)) (some ∙ ap as_desig item)
    ∙ sym (ap (λ x. from_reads c x skip k go) is)

pub read_none :
    (c : Context) (args : ActualTrees) (a : ActualTree) (rest : ActualTrees) (skip : Bool) (k : Remainder) (go : Action) (e : ExprTree)
    → args ≡ more_actuals a rest → e ≡ item_of a → None ≡ as_desig e → from_reads c rest skip k go ≡ from_reads c args skip k go
read_none c args a rest skip k go e is item none =
    ap (λ f. from_input c f (read_on c.line rest skip k) (from_reads c rest skip k go)) (none ∙ ap as_desig item)
    ∙ sym (ap (λ x. from_reads c x skip k go) is)

pub ruleset input = (read_first, read_none)

-- ## Predeclared procedures

pub wait_step : (c : Context) (args : ActualTrees) (k : Remainder) (go : Action) →
    from_reference c args (wait_at k) (from_location c (wait_at k)) ≡ from_procedure c wait args k go
wait_step c args k go = refl

pub signal_step : (c : Context) (args : ActualTrees) (k : Remainder) (go : Action) →
    from_reference c args (signal_at k) (from_location c (signal_at k)) ≡ from_procedure c signal args k go
signal_step c args k go = refl

pub resume_step : (c : Context) (args : ActualTrees) (k : Remainder) (go : Action) →
    from_reference c args (resume_at k) (from_location c (resume_at k)) ≡ from_procedure c resume args k go
resume_step c args k go = refl

pub delay_step :
    (c : Context) (args : ActualTrees) (k : Remainder) (go : Action) (rank : Option ExprTree)
    → rank ≡ expr_of (behind_first args) → from_reference c args (delay_at rank k) (from_location c (delay_at rank k)) ≡ from_procedure c delay args k go
delay_step c args k go rank is = ap (λ r. from_reference c args (delay_at r k) (from_location c (delay_at r k))) is

pub sleep_step : (c : Context) (args : ActualTrees) (k : Remainder) (go : Action) →
    from_argument c args (sleep_for k) (from_value c (sleep_for k)) ≡ from_procedure c sleep args k go
sleep_step c args k go = refl

pub initial_step :
    (c : Context) (args : ActualTrees) (k : Remainder) (go : Action) (e : ExprTree) (count : Option ExprTree)
    → Some e ≡ count → from_reference c args (initial_to e k) (from_location c (initial_to e k)) ≡ from_initial c args k count go
initial_step c args k go e count some = ap (λ x. from_initial c args k x go) some

pub initial_none : (c : Context) (args : ActualTrees) (k : Remainder) (go : Action) (count : Option ExprTree) →
    None ≡ count → go ≡ from_initial c args k count go
initial_none c args k go count none = ap (λ x. from_initial c args k x go) none

pub ruleset arguments = first_given

pub ruleset procedures = (wait_step, signal_step, resume_step, delay_step, sleep_step, initial_step, initial_none)

-- ## Assignments, calls and communication

pub assign_step :
    (c : Context) (d : DesigTree) (e : ExprTree) (k : Remainder)
    → from_desig c d (assign_to e k) (from_location c (assign_to e k)) ≡ from_assign c d e k
assign_step c d e k = refl

pub ruleset kinds = assign_step

pub activate_step :
    (c : Context) (s : TypedSpot) (ss : SelectorTrees) (formals others : List Formal) (args : ActualTrees) (k : Remainder)
    → formals ≡ others → from_selectors c s ss (activate_with formals args k)
    (from_location c (activate_with formals args k)) ≡ from_activation c s ss others args k
activate_step c s ss formals others args k is = ap (λ f. from_activation c s ss f args k) is

pub enter_step :
    (c : Context) (s : TypedSpot) (ss : SelectorTrees) (entry : ℕ) (formals others : List Formal) (args : ActualTrees) (k : Remainder)
    → formals ≡ others → from_selectors c s ss (enter_with entry formals args k) (from_location c (enter_with entry formals args k)) ≡
    from_entry_call c s ss entry others args k
enter_step c s ss entry formals others args k is = ap (λ f. from_entry_call c s ss entry f args k) is

pub ruleset calls = (activate_step, enter_step)

pub send_step :
    (c : Context) (d : DesigTree) (e : ExprTree) (m : Option ExprTree) (k : Remainder)
    → m ≡ message_of c e → from_desig c d (send_to m k) (from_location c (send_to m k)) ≡ from_send c d e k
send_step c d e m k is = ap (λ x. from_desig c d (send_to x k) (from_location c (send_to x k))) is

pub receive_step :
    (c : Context) (d v : DesigTree) (m : Option DesigTree) (k : Remainder)
    → m ≡ receiver_of c v → from_desig c d (receive_from m k) (from_location c (receive_from m k)) ≡ from_receive c d v k
receive_step c d v m k is = ap (λ x. from_desig c d (receive_from x k) (from_location c (receive_from x k))) is

pub ruleset communication = (send_step, receive_step)

-- ## Guards of resources

pub own_step :
    (env names : Env) (b : Bar) (k : Remainder)
    → from_expr b.context b.test (pass_own b (in_names names k)) (from_value b.context (pass_own b (in_names names k)))
    ≡ from_remainder env (try_guard b (in_names names k))
own_step env names b k = refl

pub ruleset guards = own_step

-- ## Points

pub either_way : (b : Bool) (a : Action) → (if b then a else a) ≡ a
either_way true a = refl
either_way false a = refl

-- the first bound of a `for` has its value: the second is evaluated
pub bound_step :
    (c : Context) (n : ℕ) (st : StmtTree) (x : Text) (a : ExprTree) (down : Bool) (b : ExprTree) (pass : StmtTree) (p q : Place)
    (at : Spot) (from : ℤ) (v : Value) (k : Remainder)
    → for_do x a down b pass p q ≡ st → from ≡ ordinal_of v
    → from_expr c b (count_to_of n st (by_reference at) from k) (from_value c (count_to_of n st (by_reference at) from k))
    ≡ from_value c (count_from_of n st (by_reference at) k) v
bound_step c n st x a down b pass p q at from v k is kept =
    let other : from_expr c b (count_to_of n st (by_reference at) from k) (from_value c (count_to_of n st (by_reference at) from k))
    ≡ from_value c (count_from_of n (for_do x a down b pass p q) (by_reference at) k) v =
    ap₂ (λ (y : StmtTree) (m : ℤ). from_expr c b (count_to_of n y (by_reference at) m k) (from_value c (count_to_of n y (by_reference at) m k)))
    (sym is) kept in
    other ∙ ap (λ (y : StmtTree). from_value c (count_from_of n y (by_reference at) k) v) is

pub ruleset points = (either_way, bound_step)
