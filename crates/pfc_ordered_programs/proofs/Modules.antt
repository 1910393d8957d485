-- The scopes of modules are among those of their parts.
use Rattle.std.proofs.Common.{◌≡◌, ℕ, ◌+◌, ◌≤◌, ◌<◌, ◌⊎◌, inl, inr, Bool, true, false, List, length, sym, subst, arith}
use Rattle.std.specs.List.{AllByRecursion}
use Rattle.pfc_tree.specs.trees.Parts.{PartTree, PartTrees, ModuleTree, ProgramTree, consts, types, vars, sub_part, monitor, resource, process_part, no_parts}
use Rattle.pfc_tree.specs.trees.Parts.{more_parts, the_module}
use Rattle.pfc_tree.specs.forget.Parts.{forget_program}
use Rattle.pfc_tree.specs.lawful.Parts.{IsLawful}
use Rattle.pfc_types.specs.Blocks.{no_module, module_at}
use Rattle.pfc_types.specs.declared.heads.ModuleHead.{ModuleHead}
use Rattle.pfc_types.specs.rules.Bodies.{part_scopes, parts_scopes, module_scopes}
use Rattle.pfc_types.specs.rules.Whole.{finished}
use Rattle.pfc_image_laws.specs.Modules.{modules_from}
use Rattle.pfc_image_laws.proofs.Modules.{program_modules}
use Rattle.pfc_ordered_programs.proofs.Lists.{all_weaker, all_at}

abbrev pub is_module : PartTree → Bool
is_module (monitor m) = true
is_module (resource m) = true
is_module q = false

-- one of so many scopes of a part that is a module
abbrev IsInside : Bool → ℕ → ℕ → ℕ → Type 0
IsInside true next size j = (next ≤ j) × (j < next + size)
IsInside false next size j = ⊥

-- a scope of a module among these parts
abbrev pub IsAmong : ℕ → PartTrees → ℕ → Type 0
IsAmong next no_parts j = ⊥
IsAmong next (more_parts q qs) j = IsInside (is_module q) next (part_scopes q) j ⊎ IsAmong (next + part_scopes q) qs j

inside_range : (r : Bool) (next size j : ℕ) → IsInside r next size j → (next ≤ j) × (j < next + size)
inside_range true next size j is = is
inside_range false next size j is = absurd is

among_range : (next : ℕ) (qs : PartTrees) (j : ℕ) → IsAmong next qs j → (next ≤ j) × (j < next + parts_scopes qs)
among_range next no_parts j is = absurd is
among_range next (more_parts q qs) j (inl is) =
    (let both = inside_range (is_module q) next (part_scopes q) j is in (both.0, omega (arith, both.1)))
among_range next (more_parts q qs) j (inr is) =
    (let both = among_range (next + part_scopes q) qs j is in (omega (arith, both.0), omega (arith, both.1)))

later : (next : ℕ) (q : PartTree) (qs : PartTrees) (ms : List ModuleHead)
    → AllByRecursion (λ (m : ModuleHead). IsAmong (next + part_scopes q) qs m.scope) ms
    → AllByRecursion (λ (m : ModuleHead). IsAmong next (more_parts q qs) m.scope) ms
later next q qs ms all =
    all_weaker (λ (m : ModuleHead). IsAmong (next + part_scopes q) qs m.scope) (λ (m : ModuleHead). IsAmong next (more_parts q qs) m.scope)
    (λ m is. inr is) ms all

opens : (m : ModuleTree) → 0 < module_scopes m
opens (the_module x exports ps b last p) = omega arith

modules_among : (next : ℕ) (qs : PartTrees) → AllByRecursion (λ (m : ModuleHead). IsAmong next qs m.scope) (modules_from next qs)
modules_among next no_parts = tt
modules_among next (more_parts (consts items) qs) = later next (consts items) qs _ (modules_among (next + part_scopes (consts items)) qs)
modules_among next (more_parts (types items) qs) = later next (types items) qs _ (modules_among (next + part_scopes (types items)) qs)
modules_among next (more_parts (vars vs) qs) = later next (vars vs) qs _ (modules_among (next + part_scopes (vars vs)) qs)
modules_among next (more_parts (sub_part b) qs) = later next (sub_part b) qs _ (modules_among (next + part_scopes (sub_part b)) qs)
modules_among next (more_parts (process_part p) qs) = later next (process_part p) qs _ (modules_among (next + part_scopes (process_part p)) qs)
modules_among next (more_parts (monitor m) qs) = (
  inl (omega arith, (let some = opens m in omega (arith, some))),
  later next (monitor m) qs _ (modules_among (next + part_scopes (monitor m)) qs),
)
modules_among next (more_parts (resource m) qs) = (
  inl (omega arith, (let some = opens m in omega (arith, some))),
  later next (resource m) qs _ (modules_among (next + part_scopes (resource m)) qs),
)

-- ## Before a part

-- a module stands before these parts or is one of them
abbrev pub IsBeside : ℕ → PartTrees → ℕ → Type 0
IsBeside next qs j = (j < next) ⊎ IsAmong next qs j

pub beside_rest : (next : ℕ) (q : PartTree) (qs : PartTrees) (j : ℕ) → IsBeside next (more_parts q qs) j → IsBeside (next + part_scopes q) qs j
beside_rest next q qs j (inl low) = inl (omega (arith, low))
beside_rest next q qs j (inr (inl here)) = inl (inside_range (is_module q) next (part_scopes q) j here).1
beside_rest next q qs j (inr (inr further)) = inr further

-- what comes before the end of a part that is no module comes before the part
pub before_part : (next : ℕ) (q : PartTree) (qs : PartTrees) (j : ℕ) → is_module q ≡ false → IsBeside next (more_parts q qs) j → j < next + part_scopes q
    → j < next
before_part next q qs j other (inl low) less = low
before_part next q qs j other (inr (inl here)) less = absurd (subst (λ (r : Bool). IsInside r next (part_scopes q) j) other here)
before_part next q qs j other (inr (inr further)) less =
    absurd (let both = among_range (next + part_scopes q) qs j further in omega (arith, both.0, less))

-- ## The modules of a program

pub module_among : (t : ProgramTree) (k : ℕ) → IsLawful (forget_program t) → k < length (finished t).blocks.modules
    → IsAmong 1 t.parts (module_at (finished t).blocks k).scope
module_among t k lawful low =
    all_at (λ (m : ModuleHead). IsAmong 1 t.parts m.scope) (finished t).blocks.modules k no_module
    (subst (λ (ms : List ModuleHead). AllByRecursion (λ (m : ModuleHead). IsAmong 1 t.parts m.scope) ms) (sym (program_modules t lawful))
    (modules_among 1 t.parts)) low

pub module_range : (t : ProgramTree) (k : ℕ) → IsLawful (forget_program t) → k < length (finished t).blocks.modules
    → (1 ≤ (module_at (finished t).blocks k).scope) × ((module_at (finished t).blocks k).scope < 1 + parts_scopes t.parts)
module_range t k lawful low = among_range 1 t.parts (module_at (finished t).blocks k).scope (module_among t k lawful low)
