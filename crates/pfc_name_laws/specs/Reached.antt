-- What declarations make, step by step.
use Rattle.std.specs.Prelude.{◌≡◌, ℕ, ◌+◌, ◌-◌, ◌<◌, Bool, true, false, List, [], get_or, length, map, Some, None}
use Rattle.pfc_base.specs.declared.faults.Refusal.{Refusal}
use Rattle.pfc_tree.specs.Symbols.{Text}
use Rattle.pfc_types.specs.Types.{is_simple, refusal_of}
use Rattle.pfc_types.specs.Growing.{Begins}
use Rattle.pfc_types.specs.Scopes.{Names, meaning_in, scope_at}
use Rattle.pfc_types.specs.Blocks.{State, Blocks, with_noted, no_process, sub_at, process_at, open_scope, add_name, add_sub, add_module, add_process, add_entry}
use Rattle.pfc_types.specs.Blocks.{add_form, export_sub, set_population}
use Rattle.pfc_types.specs.rules.FaultyNames.{all_typed}
use Rattle.pfc_types.specs.rules.Kinds.{variable_meaning}
use Rattle.pfc_types.specs.rules.Whole.{begun}
use Rattle.pfc_types.specs.declared.types.TypeId.{TypeId}
use Rattle.pfc_types.specs.declared.types.TypeForm.{TypeForm}
use Rattle.pfc_types.specs.declared.types.TypeForm.TheVariants.{Process as AProcess}
use Rattle.pfc_types.specs.declared.scope.Meaning.{Meaning}
use Rattle.pfc_types.specs.declared.scope.Meaning.TheVariants.{Constant, Sub, Module, Process, Entry, Predeclared, Faulty}
use Rattle.pfc_types.specs.declared.heads.Formal.{Formal}
use Rattle.pfc_types.specs.declared.heads.SubHead.{SubHead}
use Rattle.pfc_types.specs.declared.heads.SubSort.{SubSort}
use Rattle.pfc_types.specs.declared.heads.SubSort.TheVariants.{Function}
use Rattle.pfc_types.specs.declared.heads.ModuleHead.{ModuleHead}
use Rattle.pfc_types.specs.declared.heads.ProcessHead.{ProcessHead}

-- ## Numbers

-- How many entries a process has: those from its own first one to that of the next process, or to the last of all.
abbrev pub entries_of : Blocks → ℕ → ℕ
entries_of b n = (get_or b.processes (n + 1) (record no_process { entries = length b.entries })).entries - (process_at b n).entries

-- The scope i is that of a process which has an entry k.
pub record HasEntry (b : Blocks) (i k : ℕ) : Type 0 where
  pub process : ℕ
  pub is : process < length b.processes
  pub scope : (process_at b process).scope ≡ i
  pub entry : k < entries_of b process

-- What a name of the scope i stands for has its heading: the sub, the module or the process that it names by a number, or the entry, where
-- the scope is a process's. A predeclared name stands in no scope. A constant is
-- of a simple type. Where a name is faulty, a rule is noted.
abbrev pub IsNumbered : Blocks → ℕ → Meaning → Type 0
IsNumbered b i (Sub n) = n < length b.subs
IsNumbered b i (Module n) = n < length b.modules
IsNumbered b i (Process n) = n < length b.processes
IsNumbered b i (Entry k) = HasEntry b i k
IsNumbered b i (Predeclared k) = ⊥
IsNumbered b i (Constant t v) = is_simple t ≡ true
IsNumbered b i Faulty = b.noted ≡ [] → ⊥
IsNumbered b i m = Unit {0}

-- a process type names a process
abbrev pub IsOfProcess : Blocks → TypeForm → Type 0
IsOfProcess b (AProcess n) = n < length b.processes
IsOfProcess b form = Unit {0}

-- ## Headings

-- what the name of a parameter stands for
abbrev pub formal_meaning : Formal → Meaning
formal_meaning f = variable_meaning f.reference f.t

abbrev pub meanings_of : Names → List Meaning
meanings_of names = map (λ x. x.1) names

-- The scope of a heading is open. Unless a rule is noted each parameter has a type, and the parameters are the first names of the scope.
pub record IsHeading (b : Blocks) (scope : ℕ) (formals : List Formal) : Type 0 where
  pub opened : scope < length b.scopes
  pub typed : b.noted ≡ [] → all_typed formals ≡ true
  pub first : b.noted ≡ [] → Begins (map formal_meaning formals) (meanings_of (scope_at b.scopes scope))

-- a function gives a value of a simple type
abbrev pub GivesSimple : SubSort → Type 0
GivesSimple (Function t) = (u : TypeId) × (t ≡ Some u) × (is_simple u ≡ true)
GivesSimple sort = Unit {0}

abbrev pub is_function : SubSort → Bool
is_function (Function t) = true
is_function sort = false

-- the heading of a sub: no function is exported
pub record IsSubHeading (b : Blocks) (head : SubHead) : Type 0 where
  pub heading : IsHeading b head.scope head.formals
  pub gives : b.noted ≡ [] → GivesSimple head.sort
  pub exported : head.exported ≡ true → is_function head.sort ≡ false

-- The heading of the next process: its scope is not the program's and stands behind those of the processes before, and its entries stand
-- behind theirs.
pub record IsNextProcess (b : Blocks) (head : ProcessHead) : Type 0 where
  pub heading : IsHeading b head.scope head.formals
  pub own : 0 < head.scope
  pub behind : (n : ℕ) → n < length b.processes → (process_at b n).scope < head.scope
  pub entries : head.entries ≡ length b.entries

-- ## Steps

-- What declarations can have made so far: nothing but the predeclared types and the program's own scope, or one step more. A rule is noted; a
-- scope is opened; a scope has one name more; a heading is added, for a sub, a module, a process or an entry of the last process; a sub that is no
-- function is exported; a type is added; processes are counted.
pub data Reached : State → Type 0 where
  at_begin : Reached begun
  noted : {s : State} (f : Refusal) → Reached s → Reached (record s { blocks = with_noted s.blocks f })
  opened : {s : State} → Reached s → Reached (open_scope s)
  named :
      {s : State} (i : ℕ) (x : Text) (m : Meaning) → Reached s → i < length s.blocks.scopes → meaning_in (scope_at s.blocks.scopes i) x ≡ None
      → IsNumbered s.blocks i m → Reached (add_name s i x m)
  a_sub : {s : State} (head : SubHead) → Reached s → IsSubHeading s.blocks head → Reached (add_sub s head)
  exported : {s : State} (n : ℕ) → Reached s → is_function (sub_at s.blocks n).sort ≡ false → Reached (export_sub s n)
  a_module : {s : State} (head : ModuleHead) → Reached s → head.scope < length s.blocks.scopes → Reached (add_module s head)
  a_process : {s : State} (head : ProcessHead) → Reached s → IsNextProcess s.blocks head → Reached (add_process s head)
  an_entry :
      {s : State} (formals : List Formal) → Reached s → 0 < length s.blocks.processes → (s.blocks.noted ≡ [] → all_typed formals ≡ true)
      → Reached (add_entry s formals)
  a_type : {s : State} (form : TypeForm) → Reached s → refusal_of s.forms form ≡ None → IsOfProcess s.blocks form → Reached (add_form s form)
  counted : {s : State} (n : ℕ) → Reached s → Reached (set_population s n)
