-- The blocks of each part of a program stand among its scopes.
use Rattle.std.proofs.Common.{ℕ, ◌+◌, ◌≤◌, ◌<◌, inl, inr, Bool, true, false, List, [], ◌∷◌, ◌++◌, take, drop, Option, Some, None, refl, arith}
use Rattle.std.specs.List.{AllByRecursion}
use Rattle.pfc_tree.specs.trees.Stmts.{BodyTree, body}
use Rattle.pfc_tree.specs.trees.Parts.{PartTree, PartTrees, SubTree, ModuleTree, ProcessTree, consts, types, vars, sub_part, monitor, resource, process_part}
use Rattle.pfc_tree.specs.trees.Parts.{no_parts, more_parts, sub, the_module, process}
use Rattle.pfc_types.specs.Scopes.{Level, scope_at, here}
use Rattle.pfc_types.specs.Blocks.{State}
use Rattle.pfc_types.specs.declared.view.Around.{Around}
use Rattle.pfc_types.specs.rules.Statements.{body_scopes}
use Rattle.pfc_types.specs.rules.Bodies.{env_at, around_sub, around_process, around_guard, passed, passed_part, passed_groups, passed_entries, part_scopes}
use Rattle.pfc_types.specs.rules.Bodies.{parts_scopes, sub_scopes, module_scopes, process_scopes, sub_name, process_name, level}
use Rattle.pfc_semantics.specs.Layouts.{Layout, sub_layout_at, process_layout}
use Rattle.pfc_semantics.specs.Programs.{Block, Guard, block_of, guard_of, part_blocks, parts_blocks, sub_blocks, module_blocks, process_blocks, module_inits}
use Rattle.pfc_semantics.specs.Programs.{part_inits}
use Rattle.pfc_declared_order.specs.Parts.{IsSeenAt, IsInPart, IsOfPart, IsInitOfPart, seen_in, PartsStand}

all_joined : {X : Type 0} (P : X → Type 0) (xs ys : List X) → AllByRecursion P xs → AllByRecursion P ys → AllByRecursion P (xs ++ ys)
all_joined P [] ys first second = second
all_joined P (x ∷ xs) ys first second = (first.0, all_joined P xs ys first.1 second)

module _ (s : State) (lo hi m : ℕ) where
  abbrev Of : Block → Type 0
  Of b = IsOfPart s lo hi m b

  abbrev Seen : List Level → Type 0
  Seen view = AllByRecursion (IsSeenAt lo hi m) view

  body_in :
      (scope outer next : ℕ) (view : List Level) (a : Around) (b : BodyTree) (layout : Layout) (accepts : ℕ) (guard : Option Guard) → lo ≤ scope → scope < hi
      → IsInPart lo hi outer → Seen view → lo ≤ next → next + body_scopes b ≤ hi → Of (block_of scope outer (env_at s view a) next b layout accepts guard)
  body_in scope outer next view a (body ss from to) layout accepts guard low high at seen after fit =
      record { low = low; high = high; outer = at; state = refl; view = seen; next = after; accepts = fit }

  mutual
    part_in :
        (in_process : Bool) (i n : ℕ) (outer : List Level) (next : ℕ) (q : PartTree) → lo ≤ i → i < hi → Seen outer → lo ≤ next → next + part_scopes q ≤ hi
        → AllByRecursion Of (part_blocks s in_process i n outer next q)
    part_in in_process i n outer next (consts items) a b seen low fit = tt
    part_in in_process i n outer next (types items) a b seen low fit = tt
    part_in in_process i n outer next (vars vs) a b seen low fit = tt
    part_in in_process i n outer next (sub_part q) a b seen low fit = sub_in in_process i n outer next q (inr (a, b)) (inr (a, b)) seen low fit
    part_in in_process i n outer next (monitor q) a b seen low fit = module_in i n outer next q (inr (a, b)) seen low fit
    part_in in_process i n outer next (resource q) a b seen low fit = module_in i n outer next q (inr (a, b)) seen low fit
    part_in in_process i n outer next (process_part q) a b seen low fit = process_in i n outer next q (inr (a, b)) (inr (a, b)) seen low fit

    parts_in :
        (in_process : Bool) (i n : ℕ) (outer : List Level) (next : ℕ) (qs : PartTrees) → lo ≤ i → i < hi → Seen outer → lo ≤ next → next + parts_scopes qs ≤ hi
        → AllByRecursion Of (parts_blocks s in_process i n outer next qs)
    parts_in in_process i n outer next no_parts a b seen low fit = tt
    parts_in in_process i n outer next (more_parts q qs) a b seen low fit =
        all_joined Of (part_blocks s in_process i n outer next q) _ (part_in in_process i n outer next q a b seen low (omega (arith, fit)))
        (parts_in in_process i (passed_part (scope_at s.blocks.scopes i) n q) outer (next + part_scopes q) qs a b seen
        (omega (arith, low)) (omega (arith, fit)))

    sub_in :
        (in_process : Bool) (i n : ℕ) (outer : List Level) (next : ℕ) (q : SubTree) → IsInPart lo hi i
        → IsSeenAt lo hi m (level i (passed (scope_at s.blocks.scopes i) n (sub_name q))) → Seen outer → lo ≤ next → next + sub_scopes q ≤ hi
        → AllByRecursion Of (sub_blocks s in_process i n outer next q)
    sub_in in_process i n outer next (sub x gs kind ps b p) at around seen low fit =
        let own = scope_at s.blocks.scopes next in
        let count = passed_groups own 0 gs in
        let view = level i (passed (scope_at s.blocks.scopes i) n x) ∷ outer in
        let guard = guard_of (env_at s (level next count ∷ level i n ∷ outer) (around_guard i)) kind in
        let inside : next < hi = omega (arith, fit) in
        all_joined Of (parts_blocks s in_process next count view (next + 1) ps) _
        (parts_in in_process next count view (next + 1) ps low inside (around, seen) (omega (arith, low)) (omega (arith, fit))) (
          body_in next i (next + 1 + parts_scopes ps) (here s.blocks.scopes next view) (around_sub in_process kind) b (sub_layout_at s.blocks next) 0 guard low
              inside at (inr (low, inside), (around, seen)) (omega (arith, low)) (omega (arith, fit)),
          tt,
        )

    module_in :
        (i n : ℕ) (outer : List Level) (next : ℕ) (q : ModuleTree) → IsSeenAt lo hi m (level i n) → Seen outer → lo ≤ next → next + module_scopes q ≤ hi
        → AllByRecursion Of (module_blocks s i n outer next q)
    module_in i n outer next (the_module x exports ps b last p) around seen low fit =
        parts_in false next 0 (level i n ∷ outer) (next + 1) ps low (omega (arith, fit)) (around, seen) (omega (arith, low)) (omega (arith, fit))

    process_in :
        (i n : ℕ) (outer : List Level) (next : ℕ) (q : ProcessTree) → IsInPart lo hi i
        → IsSeenAt lo hi m (level i (passed (scope_at s.blocks.scopes i) n (process_name q))) → Seen outer → lo ≤ next → next + process_scopes q ≤ hi
        → AllByRecursion Of (process_blocks s i n outer next q)
    process_in i n outer next (process many x gs es ps b p) at around seen low fit =
        let own = scope_at s.blocks.scopes next in
        let count = passed_entries own (passed_groups own 0 gs) es in
        let view = level i (passed (scope_at s.blocks.scopes i) n x) ∷ outer in
        let inner = next + 1 + parts_scopes ps in
        let layout = process_layout own (take (body_scopes b) (drop inner s.blocks.scopes)) in
        let inside : next < hi = omega (arith, fit) in
        all_joined Of (parts_blocks s true next count view (next + 1) ps) _
        (parts_in true next count view (next + 1) ps low inside (around, seen) (omega (arith, low)) (omega (arith, fit))) (
          body_in next i inner (here s.blocks.scopes next view) around_process b layout (body_scopes b) None low inside at (inr (low, inside), (around, seen))
              (omega (arith, low)) (omega (arith, fit)),
          tt,
        )

  module_init :
      (n next : ℕ) (q : ModuleTree) → n ≤ m → lo ≤ next → next + module_scopes q ≤ hi → AllByRecursion (IsInitOfPart s lo hi m) (module_inits s n next q)
  module_init n next (the_module x exports ps None last p) few low fit = tt
  module_init n next (the_module x exports ps (Some (body ss from to)) last p) few low fit =
      let inside : next < hi = omega (arith, fit) in
      (record { state = refl; view = (inr (low, inside), (inl (refl, few), tt)); next = omega (arith, low); accepts = omega (arith, fit) }, tt)

-- ## The parts of a program

top_blocks :
    (s : State) (n next : ℕ) (q : PartTree)
    → AllByRecursion (IsOfPart s next (next + part_scopes q) (seen_in (scope_at s.blocks.scopes 0) n q)) (part_blocks s false 0 n [] next q)
top_blocks s n next (consts items) = tt
top_blocks s n next (types items) = tt
top_blocks s n next (vars vs) = tt
top_blocks s n next (sub_part b) =
    let m = passed (scope_at s.blocks.scopes 0) n (sub_name b) in
    sub_in s next (next + sub_scopes b) m false 0 n [] next b (inl refl) (inl (refl, omega arith)) tt (omega arith) (omega arith)
top_blocks s n next (monitor m) = module_in s next (next + module_scopes m) n 0 n [] next m (inl (refl, omega arith)) tt (omega arith) (omega arith)
top_blocks s n next (resource m) = module_in s next (next + module_scopes m) n 0 n [] next m (inl (refl, omega arith)) tt (omega arith) (omega arith)
top_blocks s n next (process_part p) =
    let m = passed (scope_at s.blocks.scopes 0) n (process_name p) in
    process_in s next (next + process_scopes p) m 0 n [] next p (inl refl) (inl (refl, omega arith)) tt (omega arith) (omega arith)

top_inits :
    (s : State) (n next : ℕ) (q : PartTree)
    → AllByRecursion (IsInitOfPart s next (next + part_scopes q) (seen_in (scope_at s.blocks.scopes 0) n q)) (part_inits s n next q)
top_inits s n next (consts items) = tt
top_inits s n next (types items) = tt
top_inits s n next (vars vs) = tt
top_inits s n next (sub_part b) = tt
top_inits s n next (monitor m) = module_init s next (next + module_scopes m) n n next m (omega arith) (omega arith) (omega arith)
top_inits s n next (resource m) = module_init s next (next + module_scopes m) n n next m (omega arith) (omega arith) (omega arith)
top_inits s n next (process_part p) = tt

pub parts_stand : (s : State) (n next : ℕ) (qs : PartTrees) → PartsStand s n next qs
parts_stand s n next no_parts = tt
parts_stand s n next (more_parts q qs) =
    (top_blocks s n next q, top_inits s n next q, parts_stand s (passed_part (scope_at s.blocks.scopes 0) n q) (next + part_scopes q) qs)
