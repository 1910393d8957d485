-- The scopes of accepts are none of modules: each body has scopes of its own, and so has each module.
use Rattle.std.proofs.Common.{◌≡◌, ◌≢◌, ℕ, zero, suc, ◌+◌, ◌≤◌, ◌<◌, Bool, true, false, List, [], ◌∷◌, length, get_or, take, drop, Option, Some, None, refl}
use Rattle.std.proofs.Common.{arith}
use Rattle.std.specs.List.{AllByRecursion}
use Rattle.pfc_tree.specs.trees.Stmts.{BodyTree, body}
use Rattle.pfc_tree.specs.trees.Parts.{PartTree, PartTrees, SubTree, ModuleTree, ProcessTree, consts, types, vars, sub_part, monitor, resource, process_part}
use Rattle.pfc_tree.specs.trees.Parts.{no_parts, more_parts, sub, the_module, process}
use Rattle.pfc_types.specs.Scopes.{Level, scope_at, here}
use Rattle.pfc_types.specs.Blocks.{State}
use Rattle.pfc_types.specs.declared.heads.ModuleHead.{ModuleHead}
use Rattle.pfc_types.specs.rules.Expressions.{Env}
use Rattle.pfc_types.specs.rules.Statements.{body_scopes}
use Rattle.pfc_types.specs.rules.Bodies.{env_at, around_nothing, around_process, around_sub, around_guard, passed, passed_part, passed_groups, passed_entries}
use Rattle.pfc_types.specs.rules.Bodies.{part_scopes, parts_scopes, module_scopes, level}
use Rattle.pfc_semantics.specs.Layouts.{Layout, sub_layout_at, process_layout}
use Rattle.pfc_semantics.specs.Programs.{Block, Guard, block_of, guard_of, part_blocks, parts_blocks, sub_blocks, module_blocks, process_blocks, module_inits}
use Rattle.pfc_semantics.specs.Programs.{parts_inits}
use Rattle.pfc_image_laws.specs.Modules.{modules_from}
use Rattle.pfc_run_invariants.specs.Written.{FitStmts}
use Rattle.pfc_run_invariants.proofs.Lists.{all_append, all_push}
use Rattle.pfc_number_laws.specs.Written.{HasBody, FitsPart, FitParts, FitsSub, FitsModule, FitsProcess}
use Rattle.pfc_inside_programs.proofs.Accepts.{Along, stmts_fit}

-- ## Modules

abbrev pub Away : List ModuleHead → ℕ → Type 0
Away ms i = AllByRecursion (λ (m : ModuleHead). m.scope ≢ i) ms

abbrev Between : ℕ → ℕ → ModuleHead → Type 0
Between low high m = (low ≤ m.scope) × (m.scope < high)

opens : (m : ModuleTree) → 0 < module_scopes m
opens (the_module x exports ps b last p) = omega arith

-- the scopes of modules are among those of their parts
between :
    (low high next : ℕ) (qs : PartTrees) → low ≤ next → next + parts_scopes qs ≤ high → AllByRecursion (Between low high) (modules_from next qs)
between low high next no_parts from to = tt
between low high next (more_parts (consts items) qs) from to =
    between low high (next + part_scopes (consts items)) qs (omega (arith, from)) (omega (arith, to))
between low high next (more_parts (types items) qs) from to =
    between low high (next + part_scopes (types items)) qs (omega (arith, from)) (omega (arith, to))
between low high next (more_parts (vars vs) qs) from to = between low high (next + part_scopes (vars vs)) qs (omega (arith, from)) (omega (arith, to))
between low high next (more_parts (sub_part b) qs) from to =
    between low high (next + part_scopes (sub_part b)) qs (omega (arith, from)) (omega (arith, to))
between low high next (more_parts (process_part q) qs) from to =
    between low high (next + part_scopes (process_part q)) qs (omega (arith, from)) (omega (arith, to))
between low high next (more_parts (monitor m) qs) from to = (
  (from, (let some = opens m in omega (arith, to, some))),
  between low high (next + part_scopes (monitor m)) qs (omega (arith, from)) (omega (arith, to)),
)
between low high next (more_parts (resource m) qs) from to = (
  (from, (let some = opens m in omega (arith, to, some))),
  between low high (next + part_scopes (resource m)) qs (omega (arith, from)) (omega (arith, to)),
)

away_below : (low high i : ℕ) (ms : List ModuleHead) → AllByRecursion (Between low high) ms → i < low → Away ms i
away_below low high i [] all less = tt
away_below low high i (m ∷ ms) all less =
    ((λ e. (let at : low ≤ m.scope = all.0.0 in omega (arith, at, e, less))), away_below low high i ms all.1 less)

away_above : (low high i : ℕ) (ms : List ModuleHead) → AllByRecursion (Between low high) ms → high ≤ i → Away ms i
away_above low high i [] all over = tt
away_above low high i (m ∷ ms) all over =
    ((λ e. (let at : m.scope < high = all.0.1 in omega (arith, at, e, over))), away_above low high i ms all.1 over)

-- scopes that come before those of some parts, and behind them
before_parts : (next i : ℕ) (qs : PartTrees) → i < next → Away (modules_from next qs) i
before_parts next i qs less =
    away_below next (next + parts_scopes qs) i (modules_from next qs) (between next (next + parts_scopes qs) next qs (omega arith) (omega arith)) less

pub behind_parts : (next i : ℕ) (qs : PartTrees) → next + parts_scopes qs ≤ i → Away (modules_from next qs) i
behind_parts next i qs over =
    away_above next (next + parts_scopes qs) i (modules_from next qs) (between next (next + parts_scopes qs) next qs (omega arith) (omega arith)) over

pub away_at : (ms : List ModuleHead) (k : ℕ) (other : ModuleHead) (i : ℕ) → k < length ms → Away ms i → (get_or ms k other).scope ≢ i
away_at [] k other i few all = absurd (omega (arith, few))
away_at (m ∷ ms) zero other i few all = all.0
away_at (m ∷ ms) (suc k) other i few all = away_at ms k other i (omega (arith, few)) all.1

-- ## Bodies

module _ (P : ℕ → Type 0) (s : State) where
  abbrev pub HasOwn : Block → Type 0
  HasOwn b = FitStmts P b.next b.stmts

  -- an initialising body, which has no guard
  abbrev pub HasOwnAlone : Block → Type 0
  HasOwnAlone b = HasOwn b × (b.guard ≡ None)

  pub body_own :
      (scope outer : ℕ) (env : Env) (next : ℕ) (b : BodyTree) (layout : Layout) (accepts : ℕ) (guard : Option Guard)
      → HasBody b → Along P next (body_scopes b) → HasOwn (block_of scope outer env next b layout accepts guard)
  body_own scope outer env next (body ss from to) layout accepts guard small all = stmts_fit P next ss (small next) all

  pub body_alone :
      (scope outer : ℕ) (env : Env) (next : ℕ) (b : BodyTree) (layout : Layout) (accepts : ℕ)
      → HasBody b → Along P next (body_scopes b) → HasOwnAlone (block_of scope outer env next b layout accepts None)
  body_alone scope outer env next (body ss from to) layout accepts small all = (stmts_fit P next ss (small next) all, refl)

  -- behind a module's own scope
  abbrev Inside : ℕ → ModuleTree → Type 0
  Inside next m = (i : ℕ) → next + 1 ≤ i → i < next + module_scopes m → P i

  mutual
    part_own :
        (in_process : Bool) (i n : ℕ) (outer : List Level) (next : ℕ) (q : PartTree) → FitsPart q → Along P next (part_scopes q)
        → AllByRecursion HasOwn (part_blocks s in_process i n outer next q)
    part_own in_process i n outer next (consts items) small all = tt
    part_own in_process i n outer next (types items) small all = tt
    part_own in_process i n outer next (vars vs) small all = tt
    part_own in_process i n outer next (sub_part b) small all = sub_own in_process i n outer next b small all
    part_own in_process i n outer next (monitor m) small all = module_own i n outer next m small (λ j low high. all j (omega (arith, low)) high)
    part_own in_process i n outer next (resource m) small all = module_own i n outer next m small (λ j low high. all j (omega (arith, low)) high)
    part_own in_process i n outer next (process_part q) small all = process_own i n outer next q small all

    parts_own :
        (in_process : Bool) (i n : ℕ) (outer : List Level) (next : ℕ) (qs : PartTrees) → FitParts qs → Along P next (parts_scopes qs)
        → AllByRecursion HasOwn (parts_blocks s in_process i n outer next qs)
    parts_own in_process i n outer next no_parts small all = tt
    parts_own in_process i n outer next (more_parts q qs) small all =
        let further = passed_part (scope_at s.blocks.scopes i) n q in
        all_append HasOwn (part_blocks s in_process i n outer next q) (parts_blocks s in_process i further outer (next + part_scopes q) qs)
        (part_own in_process i n outer next q small.0 (λ j low high. all j low (omega (arith, high))))
        (parts_own in_process i further outer (next + part_scopes q) qs small.1 (λ j low high. all j (omega (arith, low)) (omega (arith, high))))

    sub_own :
        (in_process : Bool) (i n : ℕ) (outer : List Level) (next : ℕ) (b : SubTree) → FitsSub b → Along P next (part_scopes (sub_part b))
        → AllByRecursion HasOwn (sub_blocks s in_process i n outer next b)
    sub_own in_process i n outer next (sub x gs kind ps b p) small all =
        let own = scope_at s.blocks.scopes next in
        let count = passed_groups own 0 gs in
        let around = level i (passed (scope_at s.blocks.scopes i) n x) ∷ outer in
        let view = level next count ∷ level i n ∷ outer in
        let guard = guard_of (env_at s view (around_guard i)) kind in
        let inside = env_at s (here s.blocks.scopes next around) (around_sub in_process kind) in
        let behind = next + 1 + parts_scopes ps in
        let layout = sub_layout_at s.blocks next in
        all_push HasOwn (parts_blocks s in_process next count around (next + 1) ps) (block_of next i inside behind b layout 0 guard)
        (parts_own in_process next count around (next + 1) ps small.1 (λ j low high. all j (omega (arith, low)) (omega (arith, high))))
        (body_own next i inside behind b layout 0 guard small.2 (λ j low high. all j (omega (arith, low)) (omega (arith, high))))

    module_own :
        (i n : ℕ) (outer : List Level) (next : ℕ) (m : ModuleTree) → FitsModule m → Inside next m → AllByRecursion HasOwn (module_blocks s i n outer next m)
    module_own i n outer next (the_module x exports ps b last p) small all =
        parts_own false next 0 (level i n ∷ outer) (next + 1) ps small.0 (λ j low high. all j low (omega (arith, high)))

    process_own :
        (i n : ℕ) (outer : List Level) (next : ℕ) (q : ProcessTree) → FitsProcess q → Along P next (part_scopes (process_part q))
        → AllByRecursion HasOwn (process_blocks s i n outer next q)
    process_own i n outer next (process many x gs es ps b p) small all =
        let own = scope_at s.blocks.scopes next in
        let count = passed_entries own (passed_groups own 0 gs) es in
        let around = level i (passed (scope_at s.blocks.scopes i) n x) ∷ outer in
        let inner = next + 1 + parts_scopes ps in
        let inside = env_at s (here s.blocks.scopes next around) around_process in
        let layout = process_layout own (take (body_scopes b) (drop inner s.blocks.scopes)) in
        all_push HasOwn (parts_blocks s true next count around (next + 1) ps) (block_of next i inside inner b layout (body_scopes b) None)
        (parts_own true next count around (next + 1) ps small.0 (λ j low high. all j (omega (arith, low)) (omega (arith, high))))
        (body_own next i inside inner b layout (body_scopes b) None small.1 (λ j low high. all j (omega (arith, low)) (omega (arith, high))))

  module_inits_own : (n next : ℕ) (m : ModuleTree) → FitsModule m → Inside next m → AllByRecursion HasOwnAlone (module_inits s n next m)
  module_inits_own n next (the_module x exports ps None last p) small all = tt
  module_inits_own n next (the_module x exports ps (Some b) last p) small all =
      let view = here s.blocks.scopes next (level 0 n ∷ []) in (
        body_alone next 0 (env_at s view around_nothing) (next + 1 + parts_scopes ps) b [] 0 small.1 (λ j low high. all j (omega (arith, low))
            (omega (arith, high))),
        tt,
      )

  -- ## Of whole programs

  -- scopes that are none of these modules
  abbrev Beside : ℕ → ℕ → List ModuleHead → Type 0
  Beside next size ms = (i : ℕ) → next ≤ i → i < next + size → Away ms i → P i

  -- those of a part that is no module
  of_part : (next size : ℕ) (qs : PartTrees) → Beside next (size + parts_scopes qs) (modules_from (next + size) qs) → Along P next size
  of_part next size qs all i low high = all i low (omega (arith, high)) (before_parts (next + size) i qs high)

  -- and of a module
  of_module :
      (next : ℕ) (m : ModuleTree) (head : ModuleHead) (qs : PartTrees) → head.scope ≡ next
      → Beside next (module_scopes m + parts_scopes qs) (head ∷ modules_from (next + module_scopes m) qs) → Inside next m
  of_module next m head qs own all i low high =
      all i (omega (arith, low)) (omega (arith, high)) ((λ e. omega (arith, e, own, low)), before_parts (next + module_scopes m) i qs high)

  behind_part :
      (next size : ℕ) (qs : PartTrees) → Beside next (size + parts_scopes qs) (modules_from (next + size) qs)
      → Beside (next + size) (parts_scopes qs) (modules_from (next + size) qs)
  behind_part next size qs all i low high away = all i (omega (arith, low)) (omega (arith, high)) away

  behind_module :
      (next : ℕ) (m : ModuleTree) (head : ModuleHead) (qs : PartTrees) → head.scope ≡ next
      → Beside next (module_scopes m + parts_scopes qs) (head ∷ modules_from (next + module_scopes m) qs)
      → Beside (next + module_scopes m) (parts_scopes qs) (modules_from (next + module_scopes m) qs)
  behind_module next m head qs own all i low high away =
      all i (omega (arith, low)) (omega (arith, high)) ((λ e. (let some = opens m in omega (arith, e, own, low, some))), away)

  pub tops_own :
      (n next : ℕ) (qs : PartTrees) → FitParts qs → Beside next (parts_scopes qs) (modules_from next qs)
      → AllByRecursion HasOwn (parts_blocks s false 0 n [] next qs)
  tops_own n next no_parts small all = tt
  tops_own n next (more_parts (consts items) qs) small all =
      tops_own (passed_part (scope_at s.blocks.scopes 0) n (consts items)) (next + part_scopes (consts items)) qs small.1 (behind_part next 0 qs all)
  tops_own n next (more_parts (types items) qs) small all =
      tops_own (passed_part (scope_at s.blocks.scopes 0) n (types items)) (next + part_scopes (types items)) qs small.1 (behind_part next 0 qs all)
  tops_own n next (more_parts (vars vs) qs) small all =
      tops_own (passed_part (scope_at s.blocks.scopes 0) n (vars vs)) (next + part_scopes (vars vs)) qs small.1 (behind_part next 0 qs all)
  tops_own n next (more_parts (sub_part b) qs) small all =
      let size = part_scopes (sub_part b) in
      all_append HasOwn (sub_blocks s false 0 n [] next b) _ (sub_own false 0 n [] next b small.0 (of_part next size qs all))
      (tops_own (passed_part (scope_at s.blocks.scopes 0) n (sub_part b)) (next + size) qs small.1 (behind_part next size qs all))
  tops_own n next (more_parts (process_part q) qs) small all =
      let size = part_scopes (process_part q) in
      all_append HasOwn (process_blocks s 0 n [] next q) _ (process_own 0 n [] next q small.0 (of_part next size qs all))
      (tops_own (passed_part (scope_at s.blocks.scopes 0) n (process_part q)) (next + size) qs small.1 (behind_part next size qs all))
  tops_own n next (more_parts (monitor m) qs) small all =
      let head : ModuleHead = record { scope = next; resource = false } in
      all_append HasOwn (module_blocks s 0 n [] next m) _ (module_own 0 n [] next m small.0 (of_module next m head qs refl all))
      (tops_own (passed_part (scope_at s.blocks.scopes 0) n (monitor m)) (next + module_scopes m) qs small.1 (behind_module next m head qs refl all))
  tops_own n next (more_parts (resource m) qs) small all =
      let head : ModuleHead = record { scope = next; resource = true } in
      all_append HasOwn (module_blocks s 0 n [] next m) _ (module_own 0 n [] next m small.0 (of_module next m head qs refl all))
      (tops_own (passed_part (scope_at s.blocks.scopes 0) n (resource m)) (next + module_scopes m) qs small.1 (behind_module next m head qs refl all))

  pub inits_own :
      (n next : ℕ) (qs : PartTrees) → FitParts qs → Beside next (parts_scopes qs) (modules_from next qs)
      → AllByRecursion HasOwnAlone (parts_inits s n next qs)
  inits_own n next no_parts small all = tt
  inits_own n next (more_parts (consts items) qs) small all =
      inits_own (passed_part (scope_at s.blocks.scopes 0) n (consts items)) (next + part_scopes (consts items)) qs small.1 (behind_part next 0 qs all)
  inits_own n next (more_parts (types items) qs) small all =
      inits_own (passed_part (scope_at s.blocks.scopes 0) n (types items)) (next + part_scopes (types items)) qs small.1 (behind_part next 0 qs all)
  inits_own n next (more_parts (vars vs) qs) small all =
      inits_own (passed_part (scope_at s.blocks.scopes 0) n (vars vs)) (next + part_scopes (vars vs)) qs small.1 (behind_part next 0 qs all)
  inits_own n next (more_parts (sub_part b) qs) small all =
      let size = part_scopes (sub_part b) in
      inits_own (passed_part (scope_at s.blocks.scopes 0) n (sub_part b)) (next + size) qs small.1 (behind_part next size qs all)
  inits_own n next (more_parts (process_part q) qs) small all =
      let size = part_scopes (process_part q) in
      inits_own (passed_part (scope_at s.blocks.scopes 0) n (process_part q)) (next + size) qs small.1 (behind_part next size qs all)
  inits_own n next (more_parts (monitor m) qs) small all =
      let head : ModuleHead = record { scope = next; resource = false } in
      all_append HasOwnAlone (module_inits s n next m) _ (module_inits_own n next m small.0 (of_module next m head qs refl all))
      (inits_own (passed_part (scope_at s.blocks.scopes 0) n (monitor m)) (next + module_scopes m) qs small.1 (behind_module next m head qs refl all))
  inits_own n next (more_parts (resource m) qs) small all =
      let head : ModuleHead = record { scope = next; resource = true } in
      all_append HasOwnAlone (module_inits s n next m) _ (module_inits_own n next m small.0 (of_module next m head qs refl all))
      (inits_own (passed_part (scope_at s.blocks.scopes 0) n (resource m)) (next + module_scopes m) qs small.1 (behind_module next m head qs refl all))
