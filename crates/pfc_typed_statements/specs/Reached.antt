-- What statements reach beside the names in view: the types and their cells, the results of functions, processes, entries and exported subs.
use Rattle.std.specs.Prelude.{ℕ, ◌<◌, ◌≡◌, ◌≢◌, true, false, length, Some, None}
use Rattle.pfc_tree.specs.Symbols.{Text}
use Rattle.pfc_types.specs.Types.{cells_in, form_of, process_form}
use Rattle.pfc_types.specs.Scopes.{meaning_of, meaning_in, scope_at}
use Rattle.pfc_types.specs.Blocks.{sub_at, module_at, process_at, entry_at}
use Rattle.pfc_types.specs.rules.Expressions.{find, found_lends}
use Rattle.pfc_types.specs.rules.FaultyNames.{all_typed}
use Rattle.pfc_types.specs.rules.Routines.{is_function_sort}
use Rattle.pfc_types.specs.rules.Statements.{is_around, innermost}
use Rattle.pfc_types.specs.declared.types.TypeId.{TypeId}
use Rattle.pfc_types.specs.declared.scope.Meaning.TheVariants.{Sub, Module, Process, Entry, Faulty}
use Rattle.pfc_types.specs.declared.heads.SubSort.TheVariants.{Function}
use Rattle.pfc_semantics.specs.Expressions.{spot_of}
use Rattle.pfc_semantics.specs.Statements.{name_in_process}
use Rattle.pfc_translation.specs.Sites.{Site, forms_of, blocks_of}
use Rattle.pfc_standing_code.specs.Shapes.{IsSound}
use Rattle.pfc_standing_code.specs.Typed.{StandsAt, IsDeclared, TakesCells, is_near, Outlives}
use Rattle.pfc_typed_phrases.specs.Names.{left_behind, IsLaid, IsNamedSub, IsWhole}

pub record AreReached (s : Site) : Type 0 where
  pub sound : IsSound (forms_of s)
  -- no record is without fields
  pub filled : (t : TypeId) → 0 < cells_in (forms_of s) t
  -- inside a function its result is a variable
  pub results : (x : Text) (n : ℕ) (t : TypeId) → meaning_of (find s.env x) ≡ Some (Sub n) → (sub_at (blocks_of s) n).sort ≡ Function (Some t)
      → is_around s.env.view (sub_at (blocks_of s) n).scope ≡ true → IsLaid s x t
  -- a body stands where it does, whatever is around a statement in it; and a sub that is named there is in view
  pub guarded : s.env.around.guarded ≡ true → s.block.env.around.guarded ≡ true
  pub near : (x : Text) (n : ℕ) → meaning_of (find s.env x) ≡ Some (Sub n)
      → (named : IsNamedSub s (sub_at (blocks_of s) n)) × (is_near s.block named.within ≡ true)
  -- what may be named for a reference where a guarded procedure requeues outlives its activation
  pub lasting : s.env.around.guarded ≡ true → (x : Text) → found_lends (Some (innermost s.env.view)) (find s.env x) ≡ true
      → Outlives s (spot_of s.env (find s.env x)).spot

-- ## What is called

-- a process of the program, whose parameters have types, and whose block takes the cells of its parameters
pub record IsStarted (s : Site) (n : ℕ) : Type 0 where
  pub among : n < length (blocks_of s).processes
  pub formals : all_typed (process_at (blocks_of s) n).formals ≡ true
  pub taken : TakesCells s (process_at (blocks_of s) n).scope (process_at (blocks_of s) n).formals

-- a single process is a variable without a type, which is declared as that process
pub record IsSingle (s : Site) (x : Text) (n : ℕ) : Type 0 where
  pub untyped : (spot_of s.env (find s.env x)).t ≡ None
  pub declared : IsDeclared s (spot_of s.env (find s.env x)).spot None
  pub stands : StandsAt s (spot_of s.env (find s.env x)).spot (Process n)
  pub started : IsStarted s n

-- an exported sub of module k is declared in its scope, and is no function
pub record IsOpen (s : Site) (k n : ℕ) : Type 0 where
  pub whole : IsWhole s (sub_at (blocks_of s) n)
  pub within : whole.block.named.within ≡ (module_at (blocks_of s) k).scope
  pub plain : is_function_sort (sub_at (blocks_of s) n).sort ≡ false
  pub nothing : left_behind (sub_at (blocks_of s) n).sort ≡ 0

pub record AreCallable (s : Site) : Type 0 where
  pub singles : (x : Text) (n : ℕ) → meaning_of (find s.env x) ≡ Some (Process n) → IsSingle s x n
  pub processes : (t : TypeId) (n : ℕ) → process_form (form_of (forms_of s) t) ≡ Some n → IsStarted s n
  pub entries : (n k : ℕ) (x : Text) → name_in_process (blocks_of s) n x ≡ Some (Entry k) → all_typed (entry_at (blocks_of s) n k) ≡ true
  pub modules : (x : Text) (n : ℕ) → meaning_of (find s.env x) ≡ Some (Module n) → n < length (blocks_of s).modules
  pub exported : (k n : ℕ) (x : Text) → meaning_in (scope_at (blocks_of s).scopes (module_at (blocks_of s) k).scope) x ≡ Some (Sub n)
      → (sub_at (blocks_of s) n).exported ≡ true → IsOpen s k n
  pub faulty : (i : ℕ) (x : Text) → meaning_in (scope_at (blocks_of s).scopes i) x ≢ Some Faulty

-- ## What is not known from the names and the types alone

-- no record is without fields, and inside a function its result is a variable
pub record HaveResults (s : Site) : Type 0 where
  pub filled : (t : TypeId) → 0 < cells_in (forms_of s) t
  pub results : (x : Text) (n : ℕ) (t : TypeId) → meaning_of (find s.env x) ≡ Some (Sub n) → (sub_at (blocks_of s) n).sort ≡ Function (Some t)
      → is_around s.env.view (sub_at (blocks_of s) n).scope ≡ true → IsLaid s x t
  -- a body stands where it does, whatever is around a statement in it; and a sub that is named there is in view
  pub guarded : s.env.around.guarded ≡ true → s.block.env.around.guarded ≡ true
  pub near : (x : Text) (n : ℕ) → meaning_of (find s.env x) ≡ Some (Sub n)
      → (named : IsNamedSub s (sub_at (blocks_of s) n)) × (is_near s.block named.within ≡ true)
  -- what may be named for a reference where a guarded procedure requeues outlives its activation
  pub lasting : s.env.around.guarded ≡ true → (x : Text) → found_lends (Some (innermost s.env.view)) (find s.env x) ≡ true
      → Outlives s (spot_of s.env (find s.env x)).spot

-- processes can be started, entries called, and exported subs of modules
pub record HaveStarts (s : Site) : Type 0 where
  pub singles : (x : Text) (n : ℕ) → meaning_of (find s.env x) ≡ Some (Process n) → IsSingle s x n
  pub processes : (t : TypeId) (n : ℕ) → process_form (form_of (forms_of s) t) ≡ Some n → IsStarted s n
  pub entries : (n k : ℕ) (x : Text) → name_in_process (blocks_of s) n x ≡ Some (Entry k) → all_typed (entry_at (blocks_of s) n k) ≡ true
  pub modules : (x : Text) (n : ℕ) → meaning_of (find s.env x) ≡ Some (Module n) → n < length (blocks_of s).modules
  pub exported : (k n : ℕ) (x : Text) → meaning_in (scope_at (blocks_of s).scopes (module_at (blocks_of s) k).scope) x ≡ Some (Sub n)
      → (sub_at (blocks_of s) n).exported ≡ true → IsOpen s k n
