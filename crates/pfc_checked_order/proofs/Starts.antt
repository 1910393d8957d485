-- Where the parts of a program begin.
use Rattle.std.proofs.Common.{◌≡◌, ℕ, zero, suc, ◌+◌, ◌-◌, ◌≤◌, ◌<◌, ◌==◌, Bool, true, false, nat_lt, if◌then◌else◌, List, [], ◌∷◌, length, take, get_or, refl}
use Rattle.std.proofs.Common.{ap, ◌∙◌, arith}
use Rattle.std.proofs.lemmas.Bool.Decides.{nat_tests}
use Rattle.std.specs.List.{AllByRecursion}
use Rattle.pfc_tree.specs.trees.Parts.{PartTree, PartTrees, consts, types, vars, sub_part, monitor, resource, process_part, no_parts, more_parts, the_module}
use Rattle.pfc_tree.specs.trees.Parts.{ModuleTree}
use Rattle.pfc_types.specs.declared.heads.ModuleHead.{ModuleHead}
use Rattle.pfc_types.specs.rules.Bodies.{part_scopes, parts_scopes, module_scopes}
use Rattle.pfc_state.specs.Waits.{same_truth}
use Rattle.pfc_semantics.specs.Objects.{of_kind}
use Rattle.pfc_image_laws.specs.Modules.{modules_from}
use Rattle.pfc_checked_order.specs.Order.{start_of, scope_of_kind, top_of}

pub lt_true : (n m : ℕ) → n < m → nat_lt n m ≡ true
lt_true n m h = grind (arith, nat_tests)

pub lt_false : (n m : ℕ) → m ≤ n → nat_lt n m ≡ false
lt_false n m h = grind (arith, nat_tests)

not_zero : (j : ℕ) → 1 ≤ j → (j == 0) ≡ false
not_zero j h = grind (arith, nat_tests)

pub start_here : (next : ℕ) (q : PartTree) (qs : PartTrees) (j : ℕ) → j < next + part_scopes q → start_of next (more_parts q qs) j ≡ next
start_here next q qs j low = ap (λ (b : Bool). if b then next else start_of (next + part_scopes q) qs j) (lt_true j (next + part_scopes q) low)

pub start_later : (next : ℕ) (q : PartTree) (qs : PartTrees) (j : ℕ) → next + part_scopes q ≤ j
    → start_of next (more_parts q qs) j ≡ start_of (next + part_scopes q) qs j
start_later next q qs j high = ap (λ (b : Bool). if b then next else start_of (next + part_scopes q) qs j) (lt_false j (next + part_scopes q) high)

start_low : (next : ℕ) (qs : PartTrees) (j : ℕ) → next ≤ j → start_of next qs j ≤ j
start_low next no_parts j low = low
start_low next (more_parts q qs) j low = by (nat_lt j (next + part_scopes q)) refl (λ high. start_low (next + part_scopes q) qs j high)
  where
    by : (b : Bool) → nat_lt j (next + part_scopes q) ≡ b → (next + part_scopes q ≤ j → start_of (next + part_scopes q) qs j ≤ j)
        → (if b then next else start_of (next + part_scopes q) qs j) ≤ j
    by true e later = low
    by false e later = later (grind (arith, nat_tests))

pub top_start : (qs : PartTrees) (j : ℕ) → 1 ≤ j → top_of qs j ≡ start_of 1 qs j
top_start qs j low = ap (λ (b : Bool). if b then 1 + parts_scopes qs else start_of 1 qs j) (not_zero j low)

pub top_low : (qs : PartTrees) (j : ℕ) → 1 ≤ j → top_of qs j ≤ j
top_low qs j low = (let same = top_start qs j low in let less = start_low 1 qs j low in omega (arith, same, less))

-- ## Modules

kind_same : (r : Bool) → same_truth r r ≡ true
kind_same true = refl
kind_same false = refl

less_one : (n : ℕ) → 1 + n - 1 ≡ n
less_one n = omega arith

some_more : (n : ℕ) → (1 + n == 0) ≡ false
some_more n = grind (arith, nat_tests)

pub kind_found : (ms : List ModuleHead) (n : ℕ) (d : ModuleHead) → n < length ms
    → scope_of_kind (get_or ms n d).resource ms (of_kind (get_or ms n d).resource (take n ms)) ≡ (get_or ms n d).scope
kind_found [] n d low = absurd (omega (arith, low))
kind_found (m ∷ ms) zero d low = ap (λ (b : Bool). if b then m.scope else scope_of_kind m.resource ms 0) (kind_same m.resource)
kind_found (m ∷ ms) (suc n) d low = by (same_truth m.resource r) (kind_found ms n d (omega (arith, low)))
  where
    r : Bool
    r = (get_or ms n d).resource

    k : ℕ
    k = of_kind r (take n ms)

    by : (b : Bool) → scope_of_kind r ms k ≡ (get_or ms n d).scope
        → (if b then (if (if b then 1 + k else k) == 0 then m.scope else scope_of_kind r ms ((if b then 1 + k else k) - 1))
        else scope_of_kind r ms (if b then 1 + k else k))
        ≡ (get_or ms n d).scope
    by true rest =
        ap (λ (b : Bool). if b then m.scope else scope_of_kind r ms (1 + k - 1)) (some_more k) ∙ ap (λ (i : ℕ). scope_of_kind r ms i) (less_one k) ∙ rest
    by false rest = rest

opens : (m : ModuleTree) → 0 < module_scopes m
opens (the_module x exports ps b last p) = omega arith

-- each module begins a part
pub module_starts : (top : ℕ → ℕ) (next : ℕ) (qs : PartTrees) → ((j : ℕ) → next ≤ j → top j ≡ start_of next qs j)
    → AllByRecursion (λ (m : ModuleHead). top m.scope ≡ m.scope) (modules_from next qs)
module_starts top next no_parts is = tt
module_starts top next (more_parts (consts items) qs) is =
    module_starts top (next + 0) qs (λ j low. is j (omega (arith, low)) ∙ start_later next (consts items) qs j low)
module_starts top next (more_parts (types items) qs) is =
    module_starts top (next + 0) qs (λ j low. is j (omega (arith, low)) ∙ start_later next (types items) qs j low)
module_starts top next (more_parts (vars vs) qs) is =
    module_starts top (next + 0) qs (λ j low. is j (omega (arith, low)) ∙ start_later next (vars vs) qs j low)
module_starts top next (more_parts (sub_part b) qs) is =
    module_starts top (next + part_scopes (sub_part b)) qs (λ j low. is j (omega (arith, low)) ∙ start_later next (sub_part b) qs j low)
module_starts top next (more_parts (process_part p) qs) is =
    module_starts top (next + part_scopes (process_part p)) qs (λ j low. is j (omega (arith, low)) ∙ start_later next (process_part p) qs j low)
module_starts top next (more_parts (monitor m) qs) is = (
  is next (omega arith) ∙ start_here next (monitor m) qs next (let some = opens m in omega (arith, some)),
  module_starts top (next + part_scopes (monitor m)) qs (λ j low. is j (omega (arith, low)) ∙ start_later next (monitor m) qs j low),
)
module_starts top next (more_parts (resource m) qs) is = (
  is next (omega arith) ∙ start_here next (resource m) qs next (let some = opens m in omega (arith, some)),
  module_starts top (next + part_scopes (resource m)) qs (λ j low. is j (omega (arith, low)) ∙ start_later next (resource m) qs j low),
)
