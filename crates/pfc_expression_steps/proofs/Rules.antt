-- The rules of quiet rewriting, one equation each: what is pending stands for what a definition does with a value that comes.
use Rattle.std.proofs.Common.{◌≡◌, ℕ, ℤ, Bool, true, false, List, [], ◌∷◌, ◌++◌, Option, Some, None, length, get_or, refl, sym, ap, ◌∙◌, ◌≤◌, ◌⊎◌, inl, inr}
use Rattle.std.proofs.Common.{arith}
use Rattle.std.specs.Prelude.{if◌then◌else◌, Ok, Err}
use Rattle.pfc_base.specs.declared.places.Place.{Place}
use Rattle.pfc_base.specs.declared.faults.RunFault.{RunFault}
use Rattle.pfc_base.specs.declared.faults.RunFault.TheVariants.{Index}
use Rattle.pfc_tree.specs.declared.tree.AddOp.{AddOp}
use Rattle.pfc_tree.specs.declared.tree.MulOp.{MulOp}
use Rattle.pfc_tree.specs.declared.tree.Relation.{Relation}
use Rattle.pfc_tree.specs.declared.tree.Sign.{Sign}
use Rattle.pfc_tree.specs.declared.tree.Actual.{Actual}
use Rattle.pfc_tree.specs.views.Exprs.{actual_view, actuals_view}
use Rattle.pfc_tree.specs.trees.Exprs.{ExprTree, SimpleTree, TermTree, SummandTrees, FactorTree, MultiplierTrees, DesigTree, SelectorTrees, ExprTrees}
use Rattle.pfc_tree.specs.trees.Exprs.{ActualTree, ActualTrees, related, sum, more_summands, more_multipliers, more_exprs, more_actuals}
use Rattle.pfc_types.specs.declared.types.TypeId.{TypeId}
use Rattle.pfc_types.specs.declared.heads.Formal.{Formal}
use Rattle.pfc_types.specs.rules.Expressions.{first_type}
use Rattle.pfc_values.specs.Numbers.{Outcome}
use Rattle.pfc_semantics.specs.Values.{Value, ordinal, ordinal_of}
use Rattle.pfc_semantics.specs.Displays.{Spot, TypedSpot}
use Rattle.pfc_semantics.specs.Predeclared.{Function, abs, sqr, odd, ord, chr, succ, pred, eof, eoln, empty, clock, random, no_function}
use Rattle.pfc_semantics.specs.Remainders.{Context, Remainder, AwaitsValue, AwaitsLocation, Argument, Call, Action, compare_with, compare_to}
use Rattle.pfc_semantics.specs.Remainders.{begin_sum, add_to, multiply_by, apply, index_into, pass_value, pass_variable, read_for, ask_empty, show_wide, pad}
use Rattle.pfc_semantics.specs.Remainders.{store_at, assign_to, set_count, initial_to, delay_with, delay_at, send_on, send_to, receive_from, receive_into}
use Rattle.pfc_semantics.specs.Remainders.{reads, faults}
use Rattle.pfc_semantics.specs.Operators.{signed}
use Rattle.pfc_semantics.specs.Expressions.{with_number, with_element, element_spot, from_expr, from_simple, from_term, from_factor, from_summands}
use Rattle.pfc_semantics.specs.Expressions.{from_multipliers, from_selectors, from_indices, from_argument, from_reference, from_desig, from_lent, from_actual}
use Rattle.pfc_semantics.specs.Expressions.{from_args}
use Rattle.pfc_semantics.specs.Statements.{item_of, shown_as}
use Rattle.pfc_semantics.specs.Rewriting.{from_value, from_location}
use Rattle.pfc_facts.specs.Views.{function_view}
use Rattle.pfc_facts.specs.declared.routines.Function.{Function as HeldFunction}
use Rattle.pfc_facts.specs.declared.routines.Function.TheVariants as held
use Rattle.pfc_sites.proofs.References.{first_given}
use Rattle.pfc_expression_steps.specs.Names.{from_predeclared}

pub related_step :
    (c : Context) (left right : SimpleTree) (op : Relation × Place) (p : Place) (u : AwaitsValue)
    → from_simple c left (compare_with op.0 right u) (from_value c (compare_with op.0 right u)) ≡ from_expr c (related left op right p) u (from_value c u)
related_step c left right op p u = refl

pub signed_step :
    (c : Context) (sign : Sign × Place) (t : TermTree) (rest : SummandTrees) (u : AwaitsValue)
    → from_term c t (begin_sum (Some sign) rest u) (from_value c (begin_sum (Some sign) rest u)) ≡ from_simple c (sum (Some sign) t rest) u (from_value c u)
signed_step c sign t rest u = refl

pub add_step :
    (c : Context) (v : Value) (n : ℤ) (op : AddOp × Place) (t : TermTree) (rest : SummandTrees) (u : AwaitsValue)
    → n ≡ ordinal_of v
    → from_term c t (add_to n op.0 rest u) (from_value c (add_to n op.0 rest u)) ≡ from_summands c v (more_summands op t rest) u (from_value c u)
add_step c v n op t rest u is = ap (λ (m : ℤ). from_term c t (add_to m op.0 rest u) (from_value c (add_to m op.0 rest u))) is

pub multiply_step :
    (c : Context) (v : Value) (n : ℤ) (op : MulOp × Place) (f : FactorTree) (rest : MultiplierTrees) (u : AwaitsValue)
    → n ≡ ordinal_of v
    → from_factor c f (multiply_by n op.0 rest u) (from_value c (multiply_by n op.0 rest u)) ≡ from_multipliers c v
    (more_multipliers op f rest) u (from_value c u)
multiply_step c v n op f rest u is = ap (λ (m : ℤ). from_factor c f (multiply_by m op.0 rest u) (from_value c (multiply_by m op.0 rest u))) is

pub ruleset rules = (related_step, signed_step, add_step, multiply_step)

-- ## Names

pub read_step : (c : Context) (s : TypedSpot) (ss : SelectorTrees) (u : AwaitsValue) →
    from_selectors c s ss (read_for u) (from_location c (read_for u)) ≡ from_selectors c s ss (read_for u) (λ last. reads c last.spot u)
read_step c s ss u = refl

pub ruleset names = read_step

pub empty_step :
    (c : Context) (args : ActualTrees) (u : AwaitsValue) → from_reference c args (ask_empty u) (from_location c (ask_empty u)) ≡ from_predeclared c empty args u
empty_step c args u = refl

-- a function whose argument is evaluated
abbrev pub is_evaluated : Function → Bool
is_evaluated eof = false
is_evaluated eoln = false
is_evaluated clock = false
is_evaluated empty = false
is_evaluated f = true

type_step :
    (c : Context) (f : Function) (args : ActualTrees) (u : AwaitsValue) (t : Option TypeId)
    → t ≡ first_type c.env args
    → from_argument c args (apply f t u) (from_value c (apply f t u)) ≡ from_argument c args (apply f (first_type c.env args) u)
    (from_value c (apply f (first_type c.env args) u))
type_step c f args u t is = ap (λ (x : Option TypeId). from_argument c args (apply f x u) (from_value c (apply f x u))) is

pub evaluated_step :
    (c : Context) (f : Function) (args : ActualTrees) (u : AwaitsValue) (t : Option TypeId)
    → t ≡ first_type c.env args → is_evaluated f ≡ true
    → from_argument c args (apply f t u) (from_value c (apply f t u)) ≡ from_predeclared c f args u
evaluated_step c abs args u t is so = type_step c abs args u t is
evaluated_step c sqr args u t is so = type_step c sqr args u t is
evaluated_step c odd args u t is so = type_step c odd args u t is
evaluated_step c ord args u t is so = type_step c ord args u t is
evaluated_step c chr args u t is so = type_step c chr args u t is
evaluated_step c succ args u t is so = type_step c succ args u t is
evaluated_step c pred args u t is so = type_step c pred args u t is
evaluated_step c eof args u t is so = cc
evaluated_step c eoln args u t is so = cc
evaluated_step c empty args u t is so = cc
evaluated_step c clock args u t is so = cc
evaluated_step c random args u t is so = type_step c random args u t is
evaluated_step c no_function args u t is so = type_step c no_function args u t is

pub evaluated_kind :
    (f : HeldFunction)
    → f ≡ held.Abs ⊎ (f ≡ held.Sqr ⊎
    (f ≡ held.Odd ⊎ (f ≡ held.Ord ⊎ (f ≡ held.Chr ⊎ (f ≡ held.Succ ⊎ (f ≡ held.Pred ⊎ (f ≡ held.Random ⊎ f ≡ held.NoFunction)))))))
    → is_evaluated (function_view f) ≡ true
evaluated_kind f (inl is) = ap (λ x. is_evaluated (function_view x)) is
evaluated_kind f (inr (inl is)) = ap (λ x. is_evaluated (function_view x)) is
evaluated_kind f (inr (inr (inl is))) = ap (λ x. is_evaluated (function_view x)) is
evaluated_kind f (inr (inr (inr (inl is)))) = ap (λ x. is_evaluated (function_view x)) is
evaluated_kind f (inr (inr (inr (inr (inl is))))) = ap (λ x. is_evaluated (function_view x)) is
evaluated_kind f (inr (inr (inr (inr (inr (inl is)))))) = ap (λ x. is_evaluated (function_view x)) is
evaluated_kind f (inr (inr (inr (inr (inr (inr (inl is))))))) = ap (λ x. is_evaluated (function_view x)) is
evaluated_kind f (inr (inr (inr (inr (inr (inr (inr (inl is)))))))) = ap (λ x. is_evaluated (function_view x)) is
evaluated_kind f (inr (inr (inr (inr (inr (inr (inr (inr is)))))))) = ap (λ x. is_evaluated (function_view x)) is

pub ruleset functions = (empty_step, evaluated_step)

pub first_evaluated :
    (c : Context) (args : List Actual) (a : Actual) (u : AwaitsValue) (go : Value → Action) (e : ExprTree)
    → 1 ≤ length args → a ≡ get_or args 0 a → e ≡ item_of (actual_view a) → from_expr c e u go ≡ from_argument c (actuals_view args) u go
first_evaluated c [] a u go e some is item = absurd (omega (arith, some))
first_evaluated c (x ∷ rest) a u go e some is item =
    first_given c (actual_view a) (actuals_view rest) u go e item ∙ ap (λ y. from_argument c (more_actuals (actual_view y) (actuals_view rest)) u go) is

-- ## Arguments

pub reference_step :
    (c : Context) (f : Formal) (formals : List Formal) (a : ActualTree) (rest : ActualTrees) (given : List Argument) (call : Call)
    → f.reference ≡ true
    → from_lent c a (pass_variable formals rest given call) (from_location c (pass_variable formals rest given call)) ≡ from_args c
    (f ∷ formals) (more_actuals a rest) given call
reference_step c f formals a rest given call is =
    sym (ap (λ (b : Bool).
    if b
    then from_lent c a (pass_variable formals rest given call) (from_location c (pass_variable formals rest given call))
    else from_actual c a (pass_value formals rest given call) (from_value c (pass_value formals rest given call))) is)

pub value_step :
    (c : Context) (f : Formal) (formals : List Formal) (a : ActualTree) (rest : ActualTrees) (given : List Argument) (call : Call) (e : ExprTree)
    → f.reference ≡ false → e ≡ item_of a
    → from_expr c e (pass_value formals rest given call) (from_value c (pass_value formals rest given call)) ≡ from_args c
    (f ∷ formals) (more_actuals a rest) given call
value_step c f formals a rest given call e is item =
    first_given c a rest (pass_value formals rest given call) (from_value c (pass_value formals rest given call)) e item
    ∙ sym (ap (λ (b : Bool).
    if b
    then from_lent c a (pass_variable formals rest given call) (from_location c (pass_variable formals rest given call))
    else from_actual c a (pass_value formals rest given call) (from_value c (pass_value formals rest given call))) is)

pub ruleset passing = (reference_step, value_step)

-- ## Variables

pub index_step :
    (c : Context) (s : TypedSpot) (e : ExprTree) (es : ExprTrees) (ss : SelectorTrees) (goal : AwaitsLocation)
    → from_expr c e (index_into s es ss goal) (from_value c (index_into s es ss goal))
    ≡ from_indices c s (more_exprs e es) ss goal (λ last. from_selectors c last ss goal (from_location c goal))
index_step c s e es ss goal = refl

pub ruleset indices = index_step

pub assign_step :
    (c : Context) (e : ExprTree) (k : Remainder) (s : TypedSpot) →
    from_expr c e (store_at s.spot k) (from_value c (store_at s.spot k)) ≡ from_location c (assign_to e k) s
assign_step c e k s = refl

pub initial_step :
    (c : Context) (e : ExprTree) (k : Remainder) (s : TypedSpot) →
    from_expr c e (set_count s.spot k) (from_value c (set_count s.spot k)) ≡ from_location c (initial_to e k) s
initial_step c e k s = refl

pub delay_step :
    (c : Context) (e : ExprTree) (k : Remainder) (s : TypedSpot) →
    from_expr c e (delay_with s.spot k) (from_value c (delay_with s.spot k)) ≡ from_location c (delay_at (Some e) k) s
delay_step c e k s = refl

pub send_step :
    (c : Context) (e : ExprTree) (k : Remainder) (s : TypedSpot) →
    from_expr c e (send_on s.spot k) (from_value c (send_on s.spot k)) ≡ from_location c (send_to (Some e) k) s
send_step c e k s = refl

pub receive_step :
    (c : Context) (d : DesigTree) (k : Remainder) (s : TypedSpot)
    → from_desig c d (receive_into s.spot k) (from_location c (receive_into s.spot k)) ≡ from_location c (receive_from (Some d) k) s
receive_step c d k s = refl

pub ruleset goals = (assign_step, initial_step, delay_step, send_step, receive_step)

-- ## Values

pub with_ok : (c : Context) (o : Outcome) (go : Value → Action) (n : ℤ) → o ≡ Ok n → with_number c o go ≡ go (ordinal n)
with_ok c o go n is = ap (λ (x : Outcome). with_number c x go) is

pub with_fault : (c : Context) (o : Outcome) (go : Value → Action) (f : RunFault) → o ≡ Err f → with_number c o go ≡ faults c f
with_fault c o go f is = ap (λ (x : Outcome). with_number c x go) is

pub compared_step :
    (c : Context) (r : Relation) (t : SimpleTree) (u : AwaitsValue) (a : Value) (n : ℤ)
    → n ≡ ordinal_of a → from_simple c t (compare_to n r u) (from_value c (compare_to n r u)) ≡ from_value c (compare_with r t u) a
compared_step c r t u a n is = ap (λ (m : ℤ). from_simple c t (compare_to m r u) (from_value c (compare_to m r u))) is

pub wide_step :
    (c : Context) (t : Option TypeId) (e : ExprTree) (k : Remainder) (a : Value) (bytes : List ℕ)
    → bytes ≡ shown_as t a → from_expr c e (pad bytes k) (from_value c (pad bytes k)) ≡ from_value c (show_wide t e k) a
wide_step c t e k a bytes is = ap (λ (b : List ℕ). from_expr c e (pad b k) (from_value c (pad b k))) is

pub element_step :
    (c : Context) (s : TypedSpot) (es : ExprTrees) (ss : SelectorTrees) (goal : AwaitsLocation) (a : Value) (x : TypedSpot)
    → element_spot c.env.state.forms s (ordinal_of a) ≡ Some x
    → from_indices c x es ss goal (λ last. from_selectors c last ss goal (from_location c goal)) ≡ from_value c (index_into s es ss goal) a
element_step c s es ss goal a x is =
    sym (ap (λ (found : Option TypedSpot). with_element c found
    (λ t. from_indices c t es ss goal (λ last. from_selectors c last ss goal (from_location c goal)))) is)

pub outside_step :
    (c : Context) (s : TypedSpot) (es : ExprTrees) (ss : SelectorTrees) (goal : AwaitsLocation) (a : Value)
    → element_spot c.env.state.forms s (ordinal_of a) ≡ None → faults c Index ≡ from_value c (index_into s es ss goal) a
outside_step c s es ss goal a is =
    sym (ap (λ (found : Option TypedSpot). with_element c found
    (λ t. from_indices c t es ss goal (λ last. from_selectors c last ss goal (from_location c goal)))) is)

pub ruleset values = (with_ok, with_fault, compared_step, wide_step)

pub ruleset elements = (element_step, outside_step)
