-- A monitor among the parts of a program: its names are in view inside it, and nowhere else.
use Rattle.std.proofs.Common.{◌≡◌, ℕ, zero, suc, ◌+◌, ◌≤◌, ◌<◌, ◌⊎◌, inl, inr, false, [], ◌∷◌, length, get_or, Some, None, refl, sym, ap, subst, arith}
use Rattle.std.specs.List.{AllByRecursion}
use Rattle.pfc_tree.specs.trees.Stmts.{body}
use Rattle.pfc_tree.specs.trees.Parts.{PartTree, PartTrees, ModuleTree, consts, types, vars, sub_part, monitor, resource, process_part, no_parts, more_parts}
use Rattle.pfc_tree.specs.trees.Parts.{the_module}
use Rattle.pfc_tree.specs.forget.Parts.{forget_part, forget_parts}
use Rattle.pfc_tree.specs.lawful.Parts.{of_program, IsLawfulPart, AreLawfulParts}
use Rattle.pfc_types.specs.Scopes.{all_names, scope_at, here}
use Rattle.pfc_types.specs.Blocks.{State, no_module}
use Rattle.pfc_types.specs.declared.heads.ModuleHead.{ModuleHead}
use Rattle.pfc_types.specs.rules.Bodies.{passed_part, part_scopes, module_scopes, level}
use Rattle.pfc_semantics.specs.Programs.{Block, part_blocks, parts_blocks, module_inits, part_inits, parts_inits}
use Rattle.pfc_image_laws.specs.Modules.{modules_from}
use Rattle.pfc_name_laws.specs.Processes.{processes_from}
use Rattle.pfc_run_invariants.proofs.Lists.{all_append}
use Rattle.pfc_inside_programs.proofs.Views.{Sees, sees_own, IsOut, Kept, none_out, more_out, IsPlaced, Beside, first_out, part_out, parts_out, parts_in}

opens : (m : ModuleTree) → 0 < module_scopes m
opens (the_module x exports ps b last p) = omega arith

module _ (lo hi : ℕ) where
  -- the monitor with these scopes is the part, or one of the parts
  abbrev IsHere : ℕ → PartTree → Type 0
  IsHere next (monitor m) = (lo ≡ next) × (hi ≡ next + module_scopes m)
  IsHere next q = ⊥

  abbrev pub IsAt : ℕ → PartTrees → Type 0
  IsAt next no_parts = ⊥
  IsAt next (more_parts q qs) = IsHere next q ⊎ IsAt (next + part_scopes q) qs

  begins : (next : ℕ) (qs : PartTrees) → IsAt next qs → next ≤ lo
  begins next no_parts at = absurd at
  begins next (more_parts q qs) (inl here) = at q here
    where
      at : (q : PartTree) → IsHere next q → next ≤ lo
      at (monitor m) is = (let same : lo ≡ next = is.0 in omega (arith, same))
      at (consts items) is = absurd is
      at (types items) is = absurd is
      at (vars vs) is = absurd is
      at (sub_part b) is = absurd is
      at (resource m) is = absurd is
      at (process_part p) is = absurd is
  begins next (more_parts q qs) (inr later) = (let low = begins (next + part_scopes q) qs later in omega (arith, low))

  module _ (some : lo < hi) (first : 0 < lo) (s : State) where
    main_out : IsOut lo hi some 0
    main_out = inl first

    -- ## Bodies

    -- the monitor itself
    itself : (n next : ℕ) (q : PartTree) → IsHere next q → IsLawfulPart of_program (forget_part q) →
        AllByRecursion (IsPlaced lo hi some) (part_blocks s false 0 n [] next q)
    itself n next (monitor (the_module x exports ps b last p)) is lawful =
        let same : lo ≡ next = is.0 in
        let end : hi ≡ next + module_scopes (the_module x exports ps b last p) = is.1 in
        let own : Sees (level next 0 ∷ level 0 n ∷ []) lo =
        subst (λ (j : ℕ). Sees (level next 0 ∷ level 0 n ∷ []) j) (sym same) (sees_own (level next 0) (level 0 n ∷ [])) in
        parts_in lo hi some s false next 0 (level 0 n ∷ []) (next + 1) ps own (omega (arith, same)) (omega (arith, end)) (omega (arith, same))
        (omega (arith, end)) lawful.1.1
    itself n next (consts items) is lawful = absurd is
    itself n next (types items) is lawful = absurd is
    itself n next (vars vs) is lawful = absurd is
    itself n next (sub_part b) is lawful = absurd is
    itself n next (resource m) is lawful = absurd is
    itself n next (process_part p) is lawful = absurd is

    ends : (next : ℕ) (q : PartTree) → IsHere next q → hi ≡ next + part_scopes q
    ends next (monitor m) is = is.1
    ends next (consts items) is = absurd is
    ends next (types items) is = absurd is
    ends next (vars vs) is = absurd is
    ends next (sub_part b) is = absurd is
    ends next (resource m) is = absurd is
    ends next (process_part p) is = absurd is

    pub bodies :
        (n next : ℕ) (qs : PartTrees) → IsAt next qs → AreLawfulParts of_program (forget_parts qs) →
        AllByRecursion (IsPlaced lo hi some) (parts_blocks s false 0 n [] next qs)
    bodies n next no_parts at lawful = tt
    bodies n next (more_parts q qs) (inl here) lawful =
        let end : hi ≡ next + part_scopes q = ends next q here in
        all_append (IsPlaced lo hi some) (part_blocks s false 0 n [] next q) _ (itself n next q here lawful.0)
        (parts_out lo hi some s false 0 (passed_part (scope_at s.blocks.scopes 0) n q) [] (next + part_scopes q) qs main_out (none_out lo hi some)
        (inr (omega (arith, end))))
    bodies n next (more_parts q qs) (inr later) lawful =
        let low = begins (next + part_scopes q) qs later in
        all_append (IsPlaced lo hi some) (part_blocks s false 0 n [] next q) _
        (part_out lo hi some s false 0 n [] next q main_out (none_out lo hi some) (inl low))
        (bodies (passed_part (scope_at s.blocks.scopes 0) n q) (next + part_scopes q) qs later lawful.1)

    -- ## Initialising bodies

    abbrev pub KeepsView : Block → Type 0
    KeepsView b = Kept lo hi some b.env.view

    module_init : (n next : ℕ) (m : ModuleTree) → (next ≡ lo) ⊎ IsOut lo hi some next → AllByRecursion KeepsView (module_inits s n next m)
    module_init n next (the_module x exports ps None last p) is = tt
    module_init n next (the_module x exports ps (Some (body ss from to)) last p) is = (kept, tt)
      where
        kept : Kept lo hi some (all_names s.blocks.scopes next ∷ level 0 n ∷ [])
        kept =
            elim is [
              | inl same ↦ inl (subst (λ (j : ℕ). Sees (all_names s.blocks.scopes next ∷ level 0 n ∷ []) j) same
                  (sees_own (all_names s.blocks.scopes next) (level 0 n ∷ [])))
              | inr out ↦ inr (more_out lo hi some (all_names s.blocks.scopes next) (level 0 n ∷ []) out
                  (more_out lo hi some (level 0 n) [] main_out (none_out lo hi some)))
            ]

    part_init : (n next : ℕ) (q : PartTree) → IsHere next q ⊎ Beside lo hi some s next (part_scopes q) → AllByRecursion KeepsView (part_inits s n next q)
    part_init n next (monitor m) (inl here) = module_init n next m (inl (sym here.0))
    part_init n next (monitor m) (inr beside) = module_init n next m (inr (first_out lo hi some s next (module_scopes m) (opens m) beside))
    part_init n next (resource m) (inl here) = absurd here
    part_init n next (resource m) (inr beside) = module_init n next m (inr (first_out lo hi some s next (module_scopes m) (opens m) beside))
    part_init n next (consts items) is = tt
    part_init n next (types items) is = tt
    part_init n next (vars vs) is = tt
    part_init n next (sub_part b) is = tt
    part_init n next (process_part p) is = tt

    inits_out : (n next : ℕ) (qs : PartTrees) → hi ≤ next → AllByRecursion KeepsView (parts_inits s n next qs)
    inits_out n next no_parts high = tt
    inits_out n next (more_parts q qs) high =
        all_append KeepsView (part_inits s n next q) _ (part_init n next q (inr (inr high)))
        (inits_out (passed_part (scope_at s.blocks.scopes 0) n q) (next + part_scopes q) qs (omega (arith, high)))

    pub inits : (n next : ℕ) (qs : PartTrees) → IsAt next qs → AllByRecursion KeepsView (parts_inits s n next qs)
    inits n next no_parts at = tt
    inits n next (more_parts q qs) (inl here) =
        let end : hi ≡ next + part_scopes q = ends next q here in
        all_append KeepsView (part_inits s n next q) _ (part_init n next q (inl here))
        (inits_out (passed_part (scope_at s.blocks.scopes 0) n q) (next + part_scopes q) qs (omega (arith, end)))
    inits n next (more_parts q qs) (inr later) =
        let low = begins (next + part_scopes q) qs later in
        all_append KeepsView (part_inits s n next q) _ (part_init n next q (inr (inl low)))
        (inits (passed_part (scope_at s.blocks.scopes 0) n q) (next + part_scopes q) qs later)

-- ## Where a monitor is

-- the scopes of the module with this heading
pub record IsFound (next : ℕ) (qs : PartTrees) (lo : ℕ) : Type 0 where
  pub end : ℕ
  pub some : lo < end
  pub at : IsAt lo end next qs

later_found : (next : ℕ) (q : PartTree) (qs : PartTrees) (lo : ℕ) → IsFound (next + part_scopes q) qs lo → IsFound next (more_parts q qs) lo
later_found next q qs lo is = record { end = is.end; some = is.some; at = inr is.at }

pub found :
    (next : ℕ) (qs : PartTrees) (k : ℕ) → k < length (modules_from next qs) → (get_or (modules_from next qs) k no_module).resource ≡ false
    → IsFound next qs (get_or (modules_from next qs) k no_module).scope
found next no_parts k few is = absurd (omega (arith, few))
found next (more_parts (consts items) qs) k few is = later_found next (consts items) qs _ (found (next + part_scopes (consts items)) qs k few is)
found next (more_parts (types items) qs) k few is = later_found next (types items) qs _ (found (next + part_scopes (types items)) qs k few is)
found next (more_parts (vars vs) qs) k few is = later_found next (vars vs) qs _ (found (next + part_scopes (vars vs)) qs k few is)
found next (more_parts (sub_part b) qs) k few is = later_found next (sub_part b) qs _ (found (next + part_scopes (sub_part b)) qs k few is)
found next (more_parts (process_part p) qs) k few is = later_found next (process_part p) qs _ (found (next + part_scopes (process_part p)) qs k few is)
found next (more_parts (monitor m) qs) zero few is =
    record { end = next + module_scopes m; some = (let many = opens m in omega (arith, many)); at = inl (refl, refl) }
found next (more_parts (monitor m) qs) (suc k) few is =
    later_found next (monitor m) qs _ (found (next + part_scopes (monitor m)) qs k (omega (arith, few)) is)
found next (more_parts (resource m) qs) zero few is = absurd (cc)
found next (more_parts (resource m) qs) (suc k) few is =
    later_found next (resource m) qs _ (found (next + part_scopes (resource m)) qs k (omega (arith, few)) is)

low_head : (next : ℕ) (qs : PartTrees) (k : ℕ) → k < length (modules_from next qs) → next ≤ (get_or (modules_from next qs) k no_module).scope
low_head next no_parts k few = absurd (omega (arith, few))
low_head next (more_parts (consts items) qs) k few = (let low = low_head (next + part_scopes (consts items)) qs k few in omega (arith, low))
low_head next (more_parts (types items) qs) k few = (let low = low_head (next + part_scopes (types items)) qs k few in omega (arith, low))
low_head next (more_parts (vars vs) qs) k few = (let low = low_head (next + part_scopes (vars vs)) qs k few in omega (arith, low))
low_head next (more_parts (sub_part b) qs) k few = (let low = low_head (next + part_scopes (sub_part b)) qs k few in omega (arith, low))
low_head next (more_parts (process_part p) qs) k few = (let low = low_head (next + part_scopes (process_part p)) qs k few in omega (arith, low))
low_head next (more_parts (monitor m) qs) zero few = omega arith
low_head next (more_parts (monitor m) qs) (suc k) few =
    (let low = low_head (next + part_scopes (monitor m)) qs k (omega (arith, few)) in omega (arith, low))
low_head next (more_parts (resource m) qs) zero few = omega arith
low_head next (more_parts (resource m) qs) (suc k) few =
    (let low = low_head (next + part_scopes (resource m)) qs k (omega (arith, few)) in omega (arith, low))

-- No other module has its scope among those of a monitor.
module _ (lo hi : ℕ) where
  abbrev head_at : ℕ → PartTrees → ℕ → ModuleHead
  head_at next qs k = get_or (modules_from next qs) k no_module

  pub alone :
      (next : ℕ) (qs : PartTrees) (j k : ℕ) → IsAt lo hi next qs → j < length (modules_from next qs) → k < length (modules_from next qs)
      → (head_at next qs j).scope ≡ lo → lo ≤ (head_at next qs k).scope → (head_at next qs k).scope < hi → j ≡ k
  alone next no_parts j k at a b own low high = absurd at
  alone next (more_parts (consts items) qs) j k (inl here) a b own low high = absurd here
  alone next (more_parts (consts items) qs) j k (inr later) a b own low high = alone (next + part_scopes (consts items)) qs j k later a b own low high
  alone next (more_parts (types items) qs) j k (inl here) a b own low high = absurd here
  alone next (more_parts (types items) qs) j k (inr later) a b own low high = alone (next + part_scopes (types items)) qs j k later a b own low high
  alone next (more_parts (vars vs) qs) j k (inl here) a b own low high = absurd here
  alone next (more_parts (vars vs) qs) j k (inr later) a b own low high = alone (next + part_scopes (vars vs)) qs j k later a b own low high
  alone next (more_parts (sub_part q) qs) j k (inl here) a b own low high = absurd here
  alone next (more_parts (sub_part q) qs) j k (inr later) a b own low high = alone (next + part_scopes (sub_part q)) qs j k later a b own low high
  alone next (more_parts (process_part q) qs) j k (inl here) a b own low high = absurd here
  alone next (more_parts (process_part q) qs) j k (inr later) a b own low high =
      alone (next + part_scopes (process_part q)) qs j k later a b own low high
  alone next (more_parts (monitor m) qs) zero zero at a b own low high = refl
  alone next (more_parts (monitor m) qs) (suc j) k (inl here) a b own low high =
      absurd (let far = low_head (next + part_scopes (monitor m)) qs j (omega (arith, a)) in let same : lo ≡ next = here.0 in let many = opens m in
      omega (arith, far, same, many, own))
  alone next (more_parts (monitor m) qs) zero (suc k) (inl here) a b own low high =
      absurd (let far = low_head (next + part_scopes (monitor m)) qs k (omega (arith, b)) in let end : hi ≡ next + module_scopes m = here.1 in
      omega (arith, far, end, high))
  alone next (more_parts (monitor m) qs) zero (suc k) (inr later) a b own low high =
      absurd (let far = begins lo hi (next + part_scopes (monitor m)) qs later in let many = opens m in omega (arith, far, many, own))
  alone next (more_parts (monitor m) qs) (suc j) zero (inr later) a b own low high =
      absurd (let far = begins lo hi (next + part_scopes (monitor m)) qs later in let many = opens m in omega (arith, far, many, low))
  alone next (more_parts (monitor m) qs) (suc j) (suc k) (inr later) a b own low high =
      ap suc (alone (next + part_scopes (monitor m)) qs j k later (omega (arith, a)) (omega (arith, b)) own low high)
  alone next (more_parts (resource m) qs) zero zero at a b own low high = refl
  alone next (more_parts (resource m) qs) j k (inl here) a b own low high = absurd here
  alone next (more_parts (resource m) qs) zero (suc k) (inr later) a b own low high =
      absurd (let far = begins lo hi (next + part_scopes (resource m)) qs later in let many = opens m in omega (arith, far, many, own))
  alone next (more_parts (resource m) qs) (suc j) zero (inr later) a b own low high =
      absurd (let far = begins lo hi (next + part_scopes (resource m)) qs later in let many = opens m in omega (arith, far, many, low))
  alone next (more_parts (resource m) qs) (suc j) (suc k) (inr later) a b own low high =
      ap suc (alone (next + part_scopes (resource m)) qs j k later (omega (arith, a)) (omega (arith, b)) own low high)

  -- nor has a process
  abbrev pub Apart : ℕ → Type 0
  Apart n = (n ≤ lo) ⊎ (hi ≤ n)

  late_processes : (next : ℕ) (qs : PartTrees) → hi ≤ next → AllByRecursion Apart (processes_from next qs)
  late_processes next no_parts high = tt
  late_processes next (more_parts (consts items) qs) high = late_processes (next + part_scopes (consts items)) qs (omega (arith, high))
  late_processes next (more_parts (types items) qs) high = late_processes (next + part_scopes (types items)) qs (omega (arith, high))
  late_processes next (more_parts (vars vs) qs) high = late_processes (next + part_scopes (vars vs)) qs (omega (arith, high))
  late_processes next (more_parts (sub_part q) qs) high = late_processes (next + part_scopes (sub_part q)) qs (omega (arith, high))
  late_processes next (more_parts (monitor m) qs) high = late_processes (next + part_scopes (monitor m)) qs (omega (arith, high))
  late_processes next (more_parts (resource m) qs) high = late_processes (next + part_scopes (resource m)) qs (omega (arith, high))
  late_processes next (more_parts (process_part q) qs) high =
      (inr high, late_processes (next + part_scopes (process_part q)) qs (omega (arith, high)))

  pub processes : (next : ℕ) (qs : PartTrees) → IsAt lo hi next qs → AllByRecursion Apart (processes_from next qs)
  processes next no_parts at = tt
  processes next (more_parts (consts items) qs) (inl here) = absurd here
  processes next (more_parts (consts items) qs) (inr later) = processes (next + part_scopes (consts items)) qs later
  processes next (more_parts (types items) qs) (inl here) = absurd here
  processes next (more_parts (types items) qs) (inr later) = processes (next + part_scopes (types items)) qs later
  processes next (more_parts (vars vs) qs) (inl here) = absurd here
  processes next (more_parts (vars vs) qs) (inr later) = processes (next + part_scopes (vars vs)) qs later
  processes next (more_parts (sub_part q) qs) (inl here) = absurd here
  processes next (more_parts (sub_part q) qs) (inr later) = processes (next + part_scopes (sub_part q)) qs later
  processes next (more_parts (resource m) qs) (inl here) = absurd here
  processes next (more_parts (resource m) qs) (inr later) = processes (next + part_scopes (resource m)) qs later
  processes next (more_parts (monitor m) qs) (inl here) =
      (let end : hi ≡ next + module_scopes m = here.1 in late_processes (next + part_scopes (monitor m)) qs (omega (arith, end)))
  processes next (more_parts (monitor m) qs) (inr later) = processes (next + part_scopes (monitor m)) qs later
  processes next (more_parts (process_part q) qs) (inl here) = absurd here
  processes next (more_parts (process_part q) qs) (inr later) = (
    inl (let far = begins lo hi (next + part_scopes (process_part q)) qs later in omega (arith, far)),
    processes (next + part_scopes (process_part q)) qs later,
  )
