-- Which bodies and guards see the names of a monitor: those inside it, whose scopes follow on its own.
use Rattle.std.proofs.Common.{◌≡◌, ℕ, ◌+◌, ◌≤◌, ◌<◌, ◌==◌, ◌⊎◌, inl, inr, Bool, true, false, ◌||◌, List, [], ◌∷◌, take, drop, Option, Some, None, refl, subst}
use Rattle.std.proofs.Common.{arith}
use Rattle.std.proofs.lemmas.Bool.Decides.{nat_tests}
use Rattle.std.specs.List.{AllByRecursion, list_any}
use Rattle.pfc_tree.specs.trees.Stmts.{BodyTree, body}
use Rattle.pfc_tree.specs.trees.Parts.{KindTree, PartTree, PartTrees, SubTree, ModuleTree, ProcessTree, procedure, function, guarded, consts, types, vars}
use Rattle.pfc_tree.specs.trees.Parts.{sub_part, monitor, resource, process_part, no_parts, more_parts, sub, the_module, process}
use Rattle.pfc_tree.specs.forget.Parts.{forget_kind, forget_part, forget_parts, forget_sub}
use Rattle.pfc_tree.specs.lawful.Parts.{of_other, IsLawfulKind, IsLawfulPart, AreLawfulParts, IsLawfulSub}
use Rattle.pfc_types.specs.Scopes.{Level, all_names, scope_at, here}
use Rattle.pfc_types.specs.Blocks.{State}
use Rattle.pfc_types.specs.rules.Expressions.{Env}
use Rattle.pfc_types.specs.rules.Statements.{body_scopes}
use Rattle.pfc_types.specs.rules.Bodies.{env_at, around_process, around_sub, around_guard, passed, passed_part, passed_groups, passed_entries, part_scopes}
use Rattle.pfc_types.specs.rules.Bodies.{parts_scopes, module_scopes, level}
use Rattle.pfc_semantics.specs.Layouts.{Layout, sub_layout_at, process_layout}
use Rattle.pfc_semantics.specs.Programs.{Block, Guard, block_of, guard_of, part_blocks, parts_blocks, sub_blocks, module_blocks, process_blocks}
use Rattle.pfc_run_invariants.proofs.Lists.{all_append, all_push}

-- ## What is in view

abbrev pub Sees : List Level → ℕ → Type 0
Sees view j = list_any (λ (l : Level). l.scope == j) view ≡ true

pub sees_further : (l : Level) (view : List Level) (j : ℕ) → Sees view j → Sees (l ∷ view) j
sees_further l view j seen = by (l.scope == j)
  where
    by : (b : Bool) → (b || list_any (λ (x : Level). x.scope == j) view) ≡ true
    by true = refl
    by false = seen

pub sees_which : (l : Level) (view : List Level) (j : ℕ) → Sees (l ∷ view) j → (l.scope ≡ j) ⊎ Sees view j
sees_which l view j seen = by (l.scope == j) refl seen
  where
    by : (b : Bool) → (l.scope == j) ≡ b → (b || list_any (λ (x : Level). x.scope == j) view) ≡ true → (l.scope ≡ j) ⊎ Sees view j
    by true e h = inl (grind (arith, nat_tests))
    by false e h = inr h

pub sees_own : (l : Level) (view : List Level) → Sees (l ∷ view) l.scope
sees_own l view = by (l.scope == l.scope) refl
  where
    by : (b : Bool) → (l.scope == l.scope) ≡ b → (b || list_any (λ (x : Level). x.scope == l.scope) view) ≡ true
    by true e = refl
    by false e = absurd (grind (arith, nat_tests, e))

module _ (lo hi : ℕ) (some : lo < hi) where
  -- a scope that is none of the module's
  abbrev pub IsOut : ℕ → Type 0
  IsOut j = (j < lo) ⊎ (hi ≤ j)

  abbrev pub AreOut : List Level → Type 0
  AreOut view = (j : ℕ) → Sees view j → IsOut j

  -- all of the module is in view, or nothing of it
  abbrev pub Kept : List Level → Type 0
  Kept view = Sees view lo ⊎ AreOut view

  pub none_out : AreOut []
  none_out j seen = absurd (cc)

  pub more_out : (l : Level) (view : List Level) → IsOut l.scope → AreOut view → AreOut (l ∷ view)
  more_out l view own out j seen =
      elim (sees_which l view j seen) [ inl same ↦ subst IsOut same own | inr further ↦ out j further ]

  pub never_out : (view : List Level) → AreOut view → Sees view lo → ⊥
  never_out view out seen = elim (out lo seen) [ inl low ↦ omega (arith, low) | inr high ↦ omega (arith, high, some) ]

  -- A body from which the module is seen has its scope among the module's, and so has the scope in which it is declared. Guards do not see it.
  pub record IsPlaced (b : Block) : Type 0 where
    pub view : Kept b.env.view
    pub outer : Sees b.env.view lo → (lo ≤ b.outer) × (b.outer < hi)
    pub own : Sees b.env.view lo → (lo < b.scope) × (b.scope < hi)
    pub apart : b.scope ≡ lo → ⊥
    pub guard : (guard : Guard) → b.guard ≡ Some guard → AreOut guard.env.view

  abbrev pub GuardIs : (List Level → Type 0) → Option Guard → Type 0
  GuardIs P o = (guard : Guard) → o ≡ Some guard → P guard.env.view

  guard_is : (P : List Level → Type 0) (s : State) (view : List Level) (i : ℕ) (kind : KindTree) → P view
      → GuardIs P (guard_of (env_at s view (around_guard i)) kind)
  guard_is P s view i procedure is guard e = absurd (cc)
  guard_is P s view i (function x p) is guard e = absurd (cc)
  guard_is P s view i (guarded test p) is guard e =
      let same : record { env = env_at s view (around_guard i); test = test; line = p.line } ≡ guard = cc in
      subst (λ (w : Guard). P w.env.view) same is

  kind_alone : (P : List Level → Type 0) (env : Env) (kind : KindTree) → IsLawfulKind of_other (forget_kind kind) → GuardIs P (guard_of env kind)
  kind_alone P env procedure lawful guard e = absurd (cc)
  kind_alone P env (function x p) lawful guard e = absurd (cc)
  kind_alone P env (guarded test p) lawful guard e = absurd lawful.0

  pub no_guard : (P : List Level → Type 0) → GuardIs P None
  no_guard P guard e = absurd (cc)

  placed_in :
      (scope outer : ℕ) (env : Env) (next : ℕ) (b : BodyTree) (layout : Layout) (accepts : ℕ) (guard : Option Guard)
      → Sees env.view lo → lo ≤ outer → outer < hi → lo < scope → scope < hi → GuardIs AreOut guard
      → IsPlaced (block_of scope outer env next b layout accepts guard)
  placed_in scope outer env next (body ss from to) layout accepts guard seen a b c d test =
      record { view = inl seen; outer = λ h. (a, b); own = λ h. (c, d); apart = λ e. omega (arith, c, e); guard = test }

  pub placed_out :
      (scope outer : ℕ) (env : Env) (next : ℕ) (b : BodyTree) (layout : Layout) (accepts : ℕ) (guard : Option Guard)
      → AreOut env.view → IsOut scope → GuardIs AreOut guard → IsPlaced (block_of scope outer env next b layout accepts guard)
  placed_out scope outer env next (body ss from to) layout accepts guard out beside test =
      record {
        view = inr out;
        outer = λ h. absurd (never_out env.view out h);
        own = λ h. absurd (never_out env.view out h);
        apart = λ e. elim beside [ inl low ↦ omega (arith, low, e) | inr high ↦ omega (arith, high, some, e) ];
        guard = test;
      }

  module _ (s : State) where
    -- ## Inside

    mutual
      part_in :
          (in_process : Bool) (i n : ℕ) (outer : List Level) (next : ℕ) (q : PartTree) → Sees (level i 0 ∷ outer) lo → lo ≤ i → i < hi → lo < next
          → next + part_scopes q ≤ hi → IsLawfulPart of_other (forget_part q) → AllByRecursion IsPlaced (part_blocks s in_process i n outer next q)
      part_in in_process i n outer next (consts items) seen a b c d lawful = tt
      part_in in_process i n outer next (types items) seen a b c d lawful = tt
      part_in in_process i n outer next (vars vs) seen a b c d lawful = tt
      part_in in_process i n outer next (sub_part q) seen a b c d lawful = sub_in in_process i n outer next q seen a b c d lawful
      part_in in_process i n outer next (monitor m) seen a b c d lawful = absurd lawful.0
      part_in in_process i n outer next (resource m) seen a b c d lawful = absurd lawful.0
      part_in in_process i n outer next (process_part q) seen a b c d lawful = absurd lawful.0

      pub parts_in :
          (in_process : Bool) (i n : ℕ) (outer : List Level) (next : ℕ) (qs : PartTrees) → Sees (level i 0 ∷ outer) lo → lo ≤ i → i < hi → lo < next
          → next + parts_scopes qs ≤ hi → AreLawfulParts of_other (forget_parts qs) → AllByRecursion IsPlaced (parts_blocks s in_process i n outer next qs)
      parts_in in_process i n outer next no_parts seen a b c d lawful = tt
      parts_in in_process i n outer next (more_parts q qs) seen a b c d lawful =
          all_append IsPlaced (part_blocks s in_process i n outer next q) _ (part_in in_process i n outer next q seen a b c (omega (arith, d)) lawful.0)
          (parts_in in_process i (passed_part (scope_at s.blocks.scopes i) n q) outer (next + part_scopes q) qs seen a b (omega (arith, c)) (omega (arith, d))
          lawful.1)

      sub_in :
          (in_process : Bool) (i n : ℕ) (outer : List Level) (next : ℕ) (q : SubTree) → Sees (level i 0 ∷ outer) lo → lo ≤ i → i < hi → lo < next
          → next + part_scopes (sub_part q) ≤ hi → IsLawfulSub of_other (forget_sub q) → AllByRecursion IsPlaced (sub_blocks s in_process i n outer next q)
      sub_in in_process i n outer next (sub x gs kind ps b p) seen low high over fit lawful =
          let own = scope_at s.blocks.scopes next in
          let count = passed_groups own 0 gs in
          let around = level i (passed (scope_at s.blocks.scopes i) n x) ∷ outer in
          let view = level next count ∷ level i n ∷ outer in
          let guard = guard_of (env_at s view (around_guard i)) kind in
          let inside = env_at s (here s.blocks.scopes next around) (around_sub in_process kind) in
          let behind = next + 1 + parts_scopes ps in
          let layout = sub_layout_at s.blocks next in
          let within : next < hi = omega (arith, fit) in
          all_push IsPlaced (parts_blocks s in_process next count around (next + 1) ps) (block_of next i inside behind b layout 0 guard)
          (parts_in in_process next count around (next + 1) ps (sees_further (level next 0) around lo seen) (omega (arith, over)) within (omega (arith, over))
          (omega (arith, fit)) lawful.2)
          (placed_in next i inside behind b layout 0 guard (sees_further (all_names s.blocks.scopes next) around lo seen) low high over within
          (kind_alone AreOut (env_at s view (around_guard i)) kind lawful.1))

    -- ## Outside

    -- scopes from a number on, so many
    abbrev pub Beside : ℕ → ℕ → Type 0
    Beside next size = (next + size ≤ lo) ⊎ (hi ≤ next)

    pub first_out : (next size : ℕ) → 0 < size → Beside next size → IsOut next
    first_out next size many beside = elim beside [ inl low ↦ inl (omega (arith, low, many)) | inr high ↦ inr high ]

    pub beside_in : (next size from part : ℕ) → next ≤ from → from + part ≤ next + size → Beside next size → Beside from part
    beside_in next size from part a b beside = elim beside [ inl low ↦ inl (omega (arith, a, b, low)) | inr high ↦ inr (omega (arith, a, high)) ]

    mutual
      pub part_out :
          (in_process : Bool) (i n : ℕ) (outer : List Level) (next : ℕ) (q : PartTree) → IsOut i → AreOut outer → Beside next (part_scopes q)
          → AllByRecursion IsPlaced (part_blocks s in_process i n outer next q)
      part_out in_process i n outer next (consts items) a b c = tt
      part_out in_process i n outer next (types items) a b c = tt
      part_out in_process i n outer next (vars vs) a b c = tt
      part_out in_process i n outer next (sub_part q) a b c = sub_out in_process i n outer next q a b c
      part_out in_process i n outer next (monitor m) a b c = module_out i n outer next m a b c
      part_out in_process i n outer next (resource m) a b c = module_out i n outer next m a b c
      part_out in_process i n outer next (process_part q) a b c = process_out i n outer next q a b c

      pub parts_out :
          (in_process : Bool) (i n : ℕ) (outer : List Level) (next : ℕ) (qs : PartTrees) → IsOut i → AreOut outer → Beside next (parts_scopes qs)
          → AllByRecursion IsPlaced (parts_blocks s in_process i n outer next qs)
      parts_out in_process i n outer next no_parts a b c = tt
      parts_out in_process i n outer next (more_parts q qs) a b c =
          let size = part_scopes q + parts_scopes qs in
          all_append IsPlaced (part_blocks s in_process i n outer next q) _
          (part_out in_process i n outer next q a b (beside_in next size next (part_scopes q) (omega arith) (omega arith) c))
          (parts_out in_process i (passed_part (scope_at s.blocks.scopes i) n q) outer (next + part_scopes q) qs a b
          (beside_in next size (next + part_scopes q) (parts_scopes qs) (omega arith) (omega arith) c))

      sub_out :
          (in_process : Bool) (i n : ℕ) (outer : List Level) (next : ℕ) (q : SubTree) → IsOut i → AreOut outer → Beside next (part_scopes (sub_part q))
          → AllByRecursion IsPlaced (sub_blocks s in_process i n outer next q)
      sub_out in_process i n outer next (sub x gs kind ps b p) a out c =
          let own = scope_at s.blocks.scopes next in
          let count = passed_groups own 0 gs in
          let around = level i (passed (scope_at s.blocks.scopes i) n x) ∷ outer in
          let view = level next count ∷ level i n ∷ outer in
          let guard = guard_of (env_at s view (around_guard i)) kind in
          let inside = env_at s (here s.blocks.scopes next around) (around_sub in_process kind) in
          let behind = next + 1 + parts_scopes ps in
          let layout = sub_layout_at s.blocks next in
          let size = 1 + parts_scopes ps + body_scopes b in
          let around_out : AreOut around = more_out (level i (passed (scope_at s.blocks.scopes i) n x)) outer a out in
          let own_out : IsOut next = first_out next size (omega arith) c in
          all_push IsPlaced (parts_blocks s in_process next count around (next + 1) ps) (block_of next i inside behind b layout 0 guard)
          (parts_out in_process next count around (next + 1) ps own_out around_out
          (beside_in next size (next + 1) (parts_scopes ps) (omega arith) (omega arith) c))
          (placed_out next i inside behind b layout 0 guard (more_out (all_names s.blocks.scopes next) around own_out around_out) own_out
          (guard_is AreOut s view i kind (more_out (level next count) (level i n ∷ outer) own_out (more_out (level i n) outer a out))))

      module_out :
          (i n : ℕ) (outer : List Level) (next : ℕ) (m : ModuleTree) → IsOut i → AreOut outer → Beside next (module_scopes m)
          → AllByRecursion IsPlaced (module_blocks s i n outer next m)
      module_out i n outer next (the_module x exports ps b last p) a out c =
          let size = module_scopes (the_module x exports ps b last p) in
          parts_out false next 0 (level i n ∷ outer) (next + 1) ps (first_out next size (omega arith) c) (more_out (level i n) outer a out)
          (beside_in next size (next + 1) (parts_scopes ps) (omega arith) (omega arith) c)

      process_out :
          (i n : ℕ) (outer : List Level) (next : ℕ) (q : ProcessTree) → IsOut i → AreOut outer → Beside next (part_scopes (process_part q))
          → AllByRecursion IsPlaced (process_blocks s i n outer next q)
      process_out i n outer next (process many x gs es ps b p) a out c =
          let own = scope_at s.blocks.scopes next in
          let count = passed_entries own (passed_groups own 0 gs) es in
          let around = level i (passed (scope_at s.blocks.scopes i) n x) ∷ outer in
          let inner = next + 1 + parts_scopes ps in
          let inside = env_at s (here s.blocks.scopes next around) around_process in
          let layout = process_layout own (take (body_scopes b) (drop inner s.blocks.scopes)) in
          let size = 1 + parts_scopes ps + body_scopes b in
          let around_out : AreOut around = more_out (level i (passed (scope_at s.blocks.scopes i) n x)) outer a out in
          let own_out : IsOut next = first_out next size (omega arith) c in
          all_push IsPlaced (parts_blocks s true next count around (next + 1) ps) (block_of next i inside inner b layout (body_scopes b) None)
          (parts_out true next count around (next + 1) ps own_out around_out (beside_in next size (next + 1) (parts_scopes ps) (omega arith) (omega arith) c))
          (placed_out next i inside inner b layout (body_scopes b) None
          (more_out (all_names s.blocks.scopes next) around own_out around_out) own_out (no_guard AreOut))
