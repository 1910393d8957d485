-- What unbroken rules say of names and arguments.
use Rattle.std.proofs.Common.{◌≡◌, ℕ, Bool, true, false, not, ◌&&◌, ◌⊎◌, inl, inr, List, [], ◌∷◌, ◌++◌}
use Rattle.std.proofs.Common.{Option, Some, None, if◌then◌else◌, refl, ap, subst}
use Rattle.pfc_base.specs.declared.places.Place.{Place}
use Rattle.pfc_types.specs.declared.types.TypeId.{TypeId}
use Rattle.pfc_types.specs.declared.scope.Meaning.{Meaning}
use Rattle.pfc_types.specs.declared.scope.Meaning.TheVariants.{Constant, Named, Variable, Sub, Module, Process, Entry, Predeclared, Faulty}
use Rattle.pfc_types.specs.declared.heads.SubSort.{SubSort}
use Rattle.pfc_types.specs.declared.heads.SubSort.TheVariants.{Procedure, Guarded, Function as FunctionSort}
use Rattle.pfc_types.specs.Faults.{Faults, none, one, ◌⨾◌, unless, listed}
use Rattle.pfc_types.specs.Types.{integer, boolean, semaphore, condition}
use Rattle.pfc_types.specs.rules.Kinds.{name_rules, a_variable, an_entry}
use Rattle.pfc_tree.specs.Symbols.{Text}
use Rattle.pfc_tree.specs.trees.Exprs.{ActualTrees, SelectorTrees, desig, index, field, no_selectors, more_selectors}
use Rattle.pfc_types.specs.Blocks.{State, sub_at, process_at, entry_at}
use Rattle.pfc_types.specs.rules.Calls.{call_sub, last_field, before_last, only_field, call_in_module, call_module, call_exported, call_in_process, call_entry}
use Rattle.pfc_types.specs.rules.Calls.{call_entry_named, activate, activate_type, activate_variable, call_field, call_part, call_name, call_part_of}
use Rattle.pfc_types.specs.rules.Calls.{call_selected, call_routine, broken_call, requeue_sub}
use Rattle.pfc_types.specs.rules.Statements.{accept_rules, is_around, sub_target, target_rules}
use Rattle.pfc_semantics.specs.Statements.{process_of_type}
use Rattle.pfc_types.specs.declared.heads.Formal.{Formal}
use Rattle.pfc_types.specs.declared.view.Found.{Found}
use Rattle.pfc_types.specs.Scopes.{Level, meaning_of}
use Rattle.pfc_types.specs.rules.Expressions.{Env, find, broken_selectors, field_type, selected, selected_by, broken_actuals, found_lends, use_rules}
use Rattle.pfc_types.specs.declared.predeclared.PredeclaredName.{PredeclaredName}
use Rattle.pfc_types.specs.declared.predeclared.PredeclaredName.TheVariants as name
use Rattle.pfc_types.specs.rules.Routines.{Want, a_value, a_variable_of, gives, Site, in_main, in_monitor_sub, Routine, a_function, a_procedure}
use Rattle.pfc_types.specs.rules.Routines.{a_delay, a_reader, a_writer, one_condition, one_integer, anywhere, routine_of, nothing_called, called_sort}
use Rattle.pfc_types.specs.rules.Routines.{called_routine, is_function_sort, wants_for}
use Rattle.pfc_semantics.specs.Predeclared.{Function, abs, sqr, odd, ord, chr, succ, pred, eof, eoln, empty, clock, random, no_function, function_of}
use Rattle.pfc_semantics.specs.Predeclared.{Procedure as AProcedure, reader, writer, initial, wait, signal, delay, resume, sleep, no_procedure}
use Rattle.pfc_semantics.specs.Predeclared.{procedure_of}
use Rattle.pfc_types.specs.declared.view.Around.{Around}
use Rattle.pfc_image_numbers.proofs.Alike.{AreAlike}

-- ## No rule is broken

abbrev pub IsClean : Faults → Type 0
IsClean none = Unit {0}
IsClean (one f) = ⊥
IsClean (fs ⨾ gs) = IsClean fs × IsClean gs

none_left : {X : Type 0} (xs ys : List X) → xs ++ ys ≡ [] → xs ≡ []
none_left [] ys h = refl
none_left (x ∷ xs) ys h = absurd (cc)

none_right : {X : Type 0} (xs ys : List X) → xs ++ ys ≡ [] → ys ≡ []
none_right [] ys h = h
none_right (x ∷ xs) ys h = absurd (cc)

pub clean_of : (fs : Faults) → listed fs ≡ [] → IsClean fs
clean_of none h = tt
clean_of (one f) h = absurd (cc)
clean_of (fs ⨾ gs) h = (clean_of fs (none_left (listed fs) (listed gs) h), clean_of gs (none_right (listed fs) (listed gs) h))

pub held : (b : Bool) (p : Place) (n : ℕ) → IsClean (unless b p n) → b ≡ true
held true p n h = refl
held false p n h = absurd h

pub and_left : (a b : Bool) → (a && b) ≡ true → a ≡ true
and_left true b h = refl
and_left false b h = absurd (cc)

pub and_right : (a b : Bool) → (a && b) ≡ true → b ≡ true
and_right true b h = h
and_right false b h = absurd (cc)

pub not_true : (b : Bool) → not b ≡ true → b ≡ false
not_true true h = absurd (cc)
not_true false h = refl

-- ## Predeclared names

-- The argument of `empty` is a variable.
abbrev pub IsOfFunction : Function → Routine → Type 0
IsOfFunction empty r = r ≡ a_function one_condition (gives boolean) in_monitor_sub
IsOfFunction f r = Unit {0}

pub matches_function : (k : PredeclaredName) → IsOfFunction (function_of k) (routine_of k)
matches_function name.Any = tt
matches_function name.Abs = tt
matches_function name.Sqr = tt
matches_function name.Odd = tt
matches_function name.Ord = tt
matches_function name.Chr = tt
matches_function name.Succ = tt
matches_function name.Pred = tt
matches_function name.Eof = tt
matches_function name.Eoln = tt
matches_function name.Empty = refl
matches_function name.Clock = tt
matches_function name.Random = tt
matches_function name.Read = tt
matches_function name.Readln = tt
matches_function name.Write = tt
matches_function name.Writeln = tt
matches_function name.Initial = tt
matches_function name.Wait = tt
matches_function name.Signal = tt
matches_function name.Delay = tt
matches_function name.Resume = tt
matches_function name.Sleep = tt

abbrev pub IsEmpty : Function → Type 0
IsEmpty empty = Unit {0}
IsEmpty f = ⊥

pub empty_is : (f : Function) (r : Routine) → IsOfFunction f r → IsEmpty f → r ≡ a_function one_condition (gives boolean) in_monitor_sub
empty_is abs r h e = absurd e
empty_is sqr r h e = absurd e
empty_is odd r h e = absurd e
empty_is ord r h e = absurd e
empty_is chr r h e = absurd e
empty_is succ r h e = absurd e
empty_is pred r h e = absurd e
empty_is eof r h e = absurd e
empty_is eoln r h e = absurd e
empty_is empty r h e = h
empty_is clock r h e = absurd e
empty_is random r h e = absurd e
empty_is no_function r h e = absurd e

-- What is called: a reader, a writer, a procedure whose first argument is a variable, or another one.
abbrev pub IsOfProcedure : AProcedure → Routine → Type 0
IsOfProcedure (reader skip) r = (some : Bool) × (r ≡ a_reader some)
IsOfProcedure (writer newline) r = (some : Bool) × (r ≡ a_writer some)
IsOfProcedure initial r = (t : Option TypeId) × (ws : List Want) × (site : Site) × (r ≡ a_procedure (a_variable_of t ∷ ws) site)
IsOfProcedure wait r = (t : Option TypeId) × (ws : List Want) × (site : Site) × (r ≡ a_procedure (a_variable_of t ∷ ws) site)
IsOfProcedure signal r = (t : Option TypeId) × (ws : List Want) × (site : Site) × (r ≡ a_procedure (a_variable_of t ∷ ws) site)
IsOfProcedure delay r = r ≡ a_delay
IsOfProcedure resume r = (t : Option TypeId) × (ws : List Want) × (site : Site) × (r ≡ a_procedure (a_variable_of t ∷ ws) site)
IsOfProcedure sleep r = (ws : List Want) × (site : Site) × (r ≡ a_procedure ws site)
IsOfProcedure no_procedure r = Unit {0}

pub matches_procedure : (k : PredeclaredName) → IsOfProcedure (procedure_of k) (routine_of k)
matches_procedure name.Any = tt
matches_procedure name.Abs = tt
matches_procedure name.Sqr = tt
matches_procedure name.Odd = tt
matches_procedure name.Ord = tt
matches_procedure name.Chr = tt
matches_procedure name.Succ = tt
matches_procedure name.Pred = tt
matches_procedure name.Eof = tt
matches_procedure name.Eoln = tt
matches_procedure name.Empty = tt
matches_procedure name.Clock = tt
matches_procedure name.Random = tt
matches_procedure name.Read = (true, refl)
matches_procedure name.Readln = (false, refl)
matches_procedure name.Write = (true, refl)
matches_procedure name.Writeln = (false, refl)
matches_procedure name.Initial = (Some semaphore, a_value (Some integer) ∷ [], in_main, refl)
matches_procedure name.Wait = (Some semaphore, [], anywhere, refl)
matches_procedure name.Signal = (Some semaphore, [], anywhere, refl)
matches_procedure name.Delay = refl
matches_procedure name.Resume = (Some condition, [], in_monitor_sub, refl)
matches_procedure name.Sleep = (one_integer, anywhere, refl)

-- ## Arguments

-- the arguments of a sub that is called as a function are those that it wants
pub sub_args :
    (env : Env) (lone : Bool) (sort : SubSort) (formals : List Formal) (args : ActualTrees) → (lone && is_function_sort sort) ≡ true
    → (let callee = (if lone then called_sort sort formals else nothing_called) in IsClean (broken_actuals env None callee.known callee.wants args))
    → IsClean (broken_actuals env None true (wants_for formals) args)
sub_args env false sort formals args e h = absurd (cc)
sub_args env true Procedure formals args e h = absurd (cc)
sub_args env true Guarded formals args e h = absurd (cc)
sub_args env true (FunctionSort t) formals args e h = h

pub empty_args :
    (env : Env) (lone : Bool) (r : Routine) (args : ActualTrees) → lone ≡ true → r ≡ a_function one_condition (gives boolean) in_monitor_sub
    → (let callee = (if lone then called_routine r else nothing_called) in IsClean (broken_actuals env None callee.known callee.wants args))
    → IsClean (broken_actuals env None true one_condition args)
empty_args env false r args e is h = absurd (cc)
empty_args env true r args e is h =
    subst (λ (q : Routine). IsClean (broken_actuals env None (called_routine q).known (called_routine q).wants args)) is h

-- ## Names

-- A name whose address is taken: a variable, a single process, or the result of a function around. One that is declared with a broken rule is any.
abbrev pub IsFunction : SubSort → Type 0
IsFunction Procedure = ⊥
IsFunction Guarded = ⊥
IsFunction (FunctionSort t) = Unit {0}

abbrev pub HasCell : State → List Level → Option Meaning → Type 0
HasCell s v (Some (Variable t reference)) = Unit {0}
HasCell s v (Some (Process n)) = Unit {0}
HasCell s v (Some (Sub n)) = (is_around v (sub_at s.blocks n).scope ≡ true) × IsFunction (sub_at s.blocks n).sort
HasCell s v (Some Faulty) = Unit {0}
HasCell s v m = ⊥

pub named_cell : (s : State) (v : List Level) (m : Option Meaning) (p : Place) → IsClean (name_rules a_variable m p) → HasCell s v m
named_cell s v None p h = absurd h
named_cell s v (Some (Constant t k)) p h = absurd h
named_cell s v (Some (Named t)) p h = absurd h
named_cell s v (Some (Variable t r)) p h = tt
named_cell s v (Some (Sub n)) p h = absurd h
named_cell s v (Some (Module n)) p h = absurd h
named_cell s v (Some (Process n)) p h = absurd h
named_cell s v (Some (Entry n)) p h = absurd h
named_cell s v (Some (Predeclared k)) p h = absurd h
named_cell s v (Some Faulty) p h = tt

-- what is lent for a reference
pub lent_cell :
    (env : Env) (ending : Option ℕ) (lone bare : Bool) (o : Option Found) (p : Place) → found_lends ending o ≡ true
    → IsClean (use_rules env o lone bare p) → HasCell env.state env.view (meaning_of o)
lent_cell env ending lone bare None p h e = absurd e
lent_cell env ending lone bare (Some f) p h e = by f.meaning h
  where
    by : (m : Meaning) → found_lends ending (Some (record f { meaning = m })) ≡ true → HasCell env.state env.view (Some m)
    by (Constant t v) h = absurd (cc)
    by (Named t) h = absurd (cc)
    by (Variable t r) h = tt
    by (Sub n) h = absurd (cc)
    by (Module n) h = absurd (cc)
    by (Process n) h = absurd (cc)
    by (Entry n) h = absurd (cc)
    by (Predeclared k) h = absurd (cc)
    by Faulty h = tt

-- ## Calls

pub called_sub :
    (env : Env) (sort : SubSort) (formals : List Formal) (p : Place) (args : ActualTrees) → IsClean (call_sub env sort formals p args)
    → IsClean (broken_actuals env None true (wants_for formals) args)
called_sub env Procedure formals p args h = h.1.0
called_sub env Guarded formals p args h = absurd h.1
called_sub env (FunctionSort t) formals p args h = absurd h.0

-- the name behind `.` of a module or a single process
pub only_last : (ss : SelectorTrees) (x : Text × Place) → last_field ss ≡ Some x → (only_field ss ≡ Some x) ⊎ (only_field ss ≡ None)
only_last no_selectors x e = absurd (cc)
only_last (more_selectors (index es p) no_selectors) x e = absurd (cc)
only_last (more_selectors (field y p) no_selectors) x e = inl e
only_last (more_selectors (index es p) (more_selectors t ss)) x e = inr refl
only_last (more_selectors (field y p) (more_selectors t ss)) x e = inr refl

pub module_args :
    (env : Env) (n : ℕ) (ss : SelectorTrees) (x : Text × Place) (p : Place) (args : ActualTrees) → last_field ss ≡ Some x
    → IsClean (call_in_module env n (only_field ss) ss p args) → IsClean (call_module env n x args)
module_args env n ss x p args e h = by (only_last ss x e)
  where
    by : (only_field ss ≡ Some x) ⊎ (only_field ss ≡ None) → IsClean (call_module env n x args)
    by (inl q) = subst (λ (o : Option (Text × Place)). IsClean (call_in_module env n o ss p args)) q h
    by (inr q) = let k : IsClean (call_in_module env n None ss p args) =
        subst (λ (o : Option (Text × Place)). IsClean (call_in_module env n o ss p args)) q h in absurd k.0

pub process_args :
    (env : Env) (n : ℕ) (ss : SelectorTrees) (x : Text × Place) (p : Place) (args : ActualTrees) → last_field ss ≡ Some x
    → IsClean (call_in_process env n (only_field ss) ss p args) → IsClean (call_entry env n x args)
process_args env n ss x p args e h = by (only_last ss x e)
  where
    by : (only_field ss ≡ Some x) ⊎ (only_field ss ≡ None) → IsClean (call_entry env n x args)
    by (inl q) = subst (λ (o : Option (Text × Place)). IsClean (call_in_process env n o ss p args)) q h
    by (inr q) = let k : IsClean (call_in_process env n None ss p args) =
        subst (λ (o : Option (Text × Place)). IsClean (call_in_process env n o ss p args)) q h in absurd k.0

pub exported_args :
    (env : Env) (n : ℕ) (p : Place) (args : ActualTrees) → IsClean (call_exported env (Some (Sub n)) p args)
    → IsClean (broken_actuals env None true (wants_for (sub_at env.state.blocks n).formals) args)
exported_args env n p args h = h.1.1.0

pub entry_args :
    (env : Env) (n k : ℕ) (p : Place) (args : ActualTrees) → IsClean (call_entry_named env n (Some (Entry k)) p args)
    → IsClean (broken_actuals env None true (wants_for (entry_at env.state.blocks n k)) args)
entry_args env n k p args h = h.1.0

pub activated_args :
    (env : Env) (n : ℕ) (p : Place) (args : ActualTrees) → IsClean (activate env n p args)
    → IsClean (broken_actuals env None true (wants_for (process_at env.state.blocks n).formals) args)
activated_args env n p args h = h.1.1.0

pub activated_type :
    (env : Env) (u : Option TypeId) (n : ℕ) (p : Place) (args : ActualTrees) → process_of_type env u ≡ Some n
    → IsClean (activate_variable env u p args) → IsClean (activate env n p args)
activated_type env None n p args e h = absurd (cc)
activated_type env (Some t) n p args e h = subst (λ (o : Option ℕ). IsClean (activate_type env o p args)) e h

pub field_entry :
    (env : Env) (u : Option TypeId) (n : ℕ) (x : Text × Place) (p : Place) (args : ActualTrees) → process_of_type env u ≡ Some n
    → IsClean (call_part env u x p args) → IsClean (call_entry env n x args)
field_entry env None n x p args e h = absurd (cc)
field_entry env (Some t) n x p args e h =
    subst (λ (o : Option ℕ). IsClean (call_field env o (field_type env.state.forms (Some t) x.0) x p args)) e h

pub field_process :
    (env : Env) (u : Option TypeId) (n : ℕ) (x : Text × Place) (p : Place) (args : ActualTrees) → process_of_type env u ≡ None
    → process_of_type env (field_type env.state.forms u x.0) ≡ Some n → IsClean (call_part env u x p args) → IsClean (activate env n p args)
field_process env None n x p args nobody e h = absurd (cc)
field_process env (Some t) n x p args nobody e h =
    by (field_type env.state.forms (Some t) x.0) e
    (subst (λ (o : Option ℕ). IsClean (call_field env o (field_type env.state.forms (Some t) x.0) x p args)) nobody h)
  where
    by : (w : Option TypeId) → process_of_type env w ≡ Some n → IsClean (call_field env None w x p args) → IsClean (activate env n p args)
    by None q k = absurd (cc)
    by (Some w) q k = rw q at k

-- the selectors before the last, where that is a name
pub selected_last :
    (env : Env) (t : Option TypeId) (ss : SelectorTrees) (x : Text × Place) → last_field ss ≡ Some x
    → selected env t ss ≡ field_type env.state.forms (selected env t (before_last ss)) x.0
selected_last env t no_selectors x e = absurd (cc)
selected_last env t (more_selectors (index es p) no_selectors) x e = absurd (cc)
selected_last env t (more_selectors (field y p) no_selectors) x e =
    let same : y ≡ x.0 = ap (λ (o : Option (Text × Place)). name_in o y) e in ap (λ z. field_type env.state.forms t z) same
  where
    name_in : Option (Text × Place) → Text → Text
    name_in None z = z
    name_in (Some w) z = w.0
selected_last env t (more_selectors (index es p) (more_selectors s ss)) x e = selected_last env (selected_by env t (index es p)) (more_selectors s ss) x e
selected_last env t (more_selectors (field y p) (more_selectors s ss)) x e = selected_last env (selected_by env t (field y p)) (more_selectors s ss) x e

-- the rules that are broken in a call, whose name stands for this
abbrev pub call_of : Env → Option Meaning → SelectorTrees → Place → ActualTrees → Faults
call_of env m no_selectors p args = call_name env m p args
call_of env m (more_selectors s ss) p args = call_part_of env m (more_selectors s ss) p args

pub call_is :
    (env : Env) (x : Text) (ss : SelectorTrees) (p : Place) (args : ActualTrees) → IsClean (broken_call env (desig x ss p) args)
    → IsClean (call_of env (meaning_of (find env x)) ss p args)
call_is env x no_selectors p args h = h
call_is env x (more_selectors s ss) p args h = h

pub routine_called :
    (env : Env) (k : PredeclaredName) (ss : SelectorTrees) (p : Place) (args : ActualTrees) → IsClean (call_of env (Some (Predeclared k)) ss p args)
    → IsClean (call_routine env (routine_of k) p args)
routine_called env k no_selectors p args h = h
routine_called env k (more_selectors s ss) p args h = absurd h.0

pub sub_called :
    (env : Env) (n : ℕ) (ss : SelectorTrees) (p : Place) (args : ActualTrees) → IsClean (call_of env (Some (Sub n)) ss p args)
    → IsClean (call_sub env (sub_at env.state.blocks n).sort (sub_at env.state.blocks n).formals p args)
sub_called env n no_selectors p args h = h
sub_called env n (more_selectors s ss) p args h = absurd h.0

pub module_called :
    (env : Env) (n : ℕ) (ss : SelectorTrees) (x : Text × Place) (p : Place) (args : ActualTrees) → last_field ss ≡ Some x
    → IsClean (call_of env (Some (Module n)) ss p args) → IsClean (call_module env n x args)
module_called env n no_selectors x p args e h = absurd (cc)
module_called env n (more_selectors s ss) x p args e h = module_args env n (more_selectors s ss) x p args e h

pub process_entered :
    (env : Env) (n : ℕ) (ss : SelectorTrees) (x : Text × Place) (p : Place) (args : ActualTrees) → last_field ss ≡ Some x
    → IsClean (call_of env (Some (Process n)) ss p args) → IsClean (call_entry env n x args)
process_entered env n no_selectors x p args e h = absurd (cc)
process_entered env n (more_selectors s ss) x p args e h = process_args env n (more_selectors s ss) x p args e h

pub process_activated :
    (env : Env) (n : ℕ) (ss : SelectorTrees) (p : Place) (args : ActualTrees) → last_field ss ≡ None
    → IsClean (call_of env (Some (Process n)) ss p args) → IsClean (activate env n p args)
process_activated env n no_selectors p args e h = h
process_activated env n (more_selectors (index es q) no_selectors) p args e h = absurd h.0
process_activated env n (more_selectors (field x q) no_selectors) p args e h = absurd (cc)
process_activated env n (more_selectors (index es q) (more_selectors s ss)) p args e h = absurd h.0
process_activated env n (more_selectors (field x q) (more_selectors s ss)) p args e h = absurd h.0

pub variable_called :
    (env : Env) (t : TypeId) (r : Bool) (ss : SelectorTrees) (p : Place) (args : ActualTrees) → last_field ss ≡ None
    → IsClean (call_of env (Some (Variable t r)) ss p args)
    → IsClean (broken_selectors env (Some t) ss) × IsClean (activate_variable env (selected env (Some t) ss) p args)
variable_called env t r no_selectors p args e h = (tt, h)
variable_called env t r (more_selectors s ss) p args e h =
    subst (λ (o : Option (Text × Place)). IsClean (call_selected env t (more_selectors s ss) o p args)) e h

pub variable_part :
    (env : Env) (t : TypeId) (r : Bool) (ss : SelectorTrees) (x : Text × Place) (p : Place) (args : ActualTrees) → last_field ss ≡ Some x
    → IsClean (call_of env (Some (Variable t r)) ss p args)
    → IsClean (broken_selectors env (Some t) (before_last ss)) × IsClean (call_part env (selected env (Some t) (before_last ss)) x p args)
variable_part env t r no_selectors x p args e h = absurd (cc)
variable_part env t r (more_selectors s ss) x p args e h =
    subst (λ (o : Option (Text × Place)). IsClean (call_selected env t (more_selectors s ss) o p args)) e h

-- ## The tree around

-- the same but for `cobegin`
pub record IsNear (c d : Around) : Type 0 where
  pub alike : AreAlike c d
  pub process : c.process ≡ d.process
  pub guarded : c.guarded ≡ d.guarded

pub same_around : (d : Around) → IsNear d d
same_around d = record { alike = record { main = refl; sub = refl; guard = refl }; process = refl; guarded = refl }

pub in_cobegin : (c d : Around) → IsNear c d → IsNear (record c { cobegin = true }) d
in_cobegin c d h =
    record {
      alike = record { main = h.alike.main; sub = h.alike.sub; guard = h.alike.guard };
      process = h.process;
      guarded = h.guarded;
    }

-- ## Statements

-- what an accept names
abbrev pub IsEntry : Option Meaning → Type 0
IsEntry (Some (Entry k)) = Unit {0}
IsEntry (Some Faulty) = Unit {0}
IsEntry m = ⊥

pub named_entry : (m : Option Meaning) (p : Place) → IsClean (name_rules an_entry m p) → IsEntry m
named_entry None p h = absurd h
named_entry (Some (Constant t v)) p h = absurd h
named_entry (Some (Named t)) p h = absurd h
named_entry (Some (Variable t r)) p h = absurd h
named_entry (Some (Sub n)) p h = absurd h
named_entry (Some (Module n)) p h = absurd h
named_entry (Some (Process n)) p h = absurd h
named_entry (Some (Entry n)) p h = tt
named_entry (Some (Predeclared k)) p h = absurd h
named_entry (Some Faulty) p h = tt

pub accept_allowed :
    (env : Env) (x : Text) (p q : Place) → IsClean (accept_rules env x p q)
    → (env.around.process ≡ true) × (env.around.sub ≡ false) × IsEntry (meaning_of (find env x))
accept_allowed env x p q h =
    let both = held (env.around.process && not env.around.sub) q 414 h.0 in (
      and_left env.around.process (not env.around.sub) both,
      not_true env.around.sub (and_right env.around.process (not env.around.sub) both),
      named_entry (meaning_of (find env x)) p h.1,
    )

target_sub : (inside : Bool) (sort : SubSort) (p : Place) → IsClean (sub_target inside sort p) → (inside ≡ true) × IsFunction sort
target_sub inside Procedure p h = absurd h
target_sub inside Guarded p h = absurd h
target_sub inside (FunctionSort t) p h = (held inside p 327 h, tt)

pub target_cell : (env : Env) (m : Option Meaning) (p : Place) → IsClean (target_rules env m p) → HasCell env.state env.view m
target_cell env None p h = absurd h
target_cell env (Some (Constant t v)) p h = absurd h
target_cell env (Some (Named t)) p h = absurd h
target_cell env (Some (Variable t r)) p h = tt
target_cell env (Some (Sub n)) p h =
    target_sub (is_around env.view (sub_at env.state.blocks n).scope) (sub_at env.state.blocks n).sort p h
target_cell env (Some (Module n)) p h = absurd h
target_cell env (Some (Process n)) p h = absurd h
target_cell env (Some (Entry n)) p h = absurd h
target_cell env (Some (Predeclared k)) p h = absurd h
target_cell env (Some Faulty) p h = tt

pub requeued_args :
    (env : Env) (ending : ℕ) (sort : SubSort) (formals : List Formal) (p : Place) (args : ActualTrees)
    → IsClean (requeue_sub env ending sort formals p args) → IsClean (broken_actuals env (Some ending) true (wants_for formals) args)
requeued_args env ending Procedure formals p args h = absurd h.0
requeued_args env ending Guarded formals p args h = h.1
requeued_args env ending (FunctionSort t) formals p args h = absurd h.0
