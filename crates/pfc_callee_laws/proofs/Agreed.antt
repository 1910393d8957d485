-- The blocks of a lawful program stand as its parts say.
use Rattle.std.proofs.Common.{◌≡◌, ℕ, ◌+◌, ◌==◌, ◌||◌, Bool, true, false, is_some, List, [], ◌∷◌, ◌++◌, refl, ap, ◌∙◌}
use Rattle.pfc_tree.specs.trees.Stmts.{body}
use Rattle.pfc_tree.specs.trees.Parts.{KindTree, PartTree, PartTrees, SubTree, ModuleTree, ProcessTree, procedure, function, guarded, consts, types, vars}
use Rattle.pfc_tree.specs.trees.Parts.{sub_part, monitor, resource, process_part, no_parts, more_parts, sub, the_module, process}
use Rattle.pfc_tree.specs.forget.Parts.{forget_part, forget_parts, forget_sub, forget_module, forget_process}
use Rattle.pfc_tree.specs.lawful.Parts.{Home, of_program, of_resource, of_other, HoldsModules, IsLawfulPart, AreLawfulParts, IsLawfulSub, IsLawfulModule}
use Rattle.pfc_tree.specs.lawful.Parts.{IsLawfulProcess}
use Rattle.pfc_types.specs.Scopes.{Level, scope_at}
use Rattle.pfc_types.specs.Blocks.{State}
use Rattle.pfc_types.specs.rules.Expressions.{Env}
use Rattle.pfc_types.specs.rules.Bodies.{env_at, around_guard, is_guarded, level, passed, passed_part, passed_groups, passed_entries, part_scopes}
use Rattle.pfc_semantics.specs.Programs.{Block, guard_of, part_blocks, parts_blocks, sub_blocks, module_blocks, process_blocks}
use Rattle.pfc_image_cells.proofs.Trees.{among, same_number, mods}
use Rattle.pfc_nesting_laws.proofs.Numbered.{Every}
use Rattle.pfc_callee_laws.specs.Agreeing.{PartAgrees, PartsAgree, SubAgrees, ModuleAgrees, ProcessAgrees}

pub every_parted : (P : Block → Type 0) (xs ys : List Block) → Every P (xs ++ ys) → Every P xs × Every P ys
every_parted P [] ys h = (tt, h)
every_parted P (x ∷ xs) ys h = let rest = every_parted P xs ys h.1 in ((h.0, rest.0), rest.1)

guard_some : (env : Env) (kind : KindTree) → is_some (guard_of env kind) ≡ is_guarded kind
guard_some env procedure = refl
guard_some env (function x p) = refl
guard_some env (guarded e p) = refl

or_behind : (a b : Bool) → b ≡ true → (a || b) ≡ true
or_behind true b h = refl
or_behind false b h = h

-- each block is told by its scope
module _ (s : State) (mains : ℕ → Bool) (is_block : ℕ → Block) where
  abbrev pub IsFound : Block → Type 0
  IsFound b = is_block b.scope ≡ b

  mutual
    part_agrees : (h : Home) (in_process : Bool) (i n : ℕ) (outer : List Level) (next : ℕ) (q : PartTree) → (HoldsModules h → ⊥)
        → IsLawfulPart h (forget_part q) → Every IsFound (part_blocks s in_process i n outer next q) → PartAgrees mains is_block i next q
    part_agrees h in_process i n outer next (consts items) apart lawful found = tt
    part_agrees h in_process i n outer next (types items) apart lawful found = tt
    part_agrees h in_process i n outer next (vars vs) apart lawful found = tt
    part_agrees h in_process i n outer next (sub_part b) apart lawful found = sub_agrees h in_process i n outer next b lawful found
    part_agrees h in_process i n outer next (monitor m) apart lawful found = absurd (apart lawful.0)
    part_agrees h in_process i n outer next (resource m) apart lawful found = absurd (apart lawful.0)
    part_agrees h in_process i n outer next (process_part p) apart lawful found = absurd (apart lawful.0)

    parts_agree : (h : Home) (in_process : Bool) (i n : ℕ) (outer : List Level) (next : ℕ) (qs : PartTrees) → (HoldsModules h → ⊥)
        → AreLawfulParts h (forget_parts qs) → Every IsFound (parts_blocks s in_process i n outer next qs) → PartsAgree mains is_block i next qs
    parts_agree h in_process i n outer next no_parts apart lawful found = tt
    parts_agree h in_process i n outer next (more_parts q qs) apart lawful found =
        let further = passed_part (scope_at s.blocks.scopes i) n q in
        let middle = next + part_scopes q in
        let two = every_parted IsFound (part_blocks s in_process i n outer next q) (parts_blocks s in_process i further outer middle qs) found in
        (part_agrees h in_process i n outer next q apart lawful.0 two.0, parts_agree h in_process i further outer middle qs apart lawful.1 two.1)

    sub_agrees : (h : Home) (in_process : Bool) (i n : ℕ) (outer : List Level) (next : ℕ) (b : SubTree) → IsLawfulSub h (forget_sub b)
        → Every IsFound (sub_blocks s in_process i n outer next b) → SubAgrees mains is_block i next b
    sub_agrees h in_process i n outer next (sub x gs kind ps (body ss from to) p) lawful found =
        let count = passed_groups (scope_at s.blocks.scopes next) 0 gs in
        let around = level i (passed (scope_at s.blocks.scopes i) n x) ∷ outer in
        let two = every_parted IsFound (parts_blocks s in_process next count around (next + 1) ps) _ found in
        let own = two.1.0 in (
          ap (λ (b : Block). b.outer) own,
          ap (λ (b : Block). is_some b.guard) own ∙ guard_some (env_at s (level next count ∷ level i n ∷ outer) (around_guard i)) kind,
          parts_agree of_other in_process next count around (next + 1) ps (λ e. e) lawful.2 two.0,
        )

  module_agrees : (h : Home) (i n : ℕ) (outer : List Level) (next : ℕ) (m : ModuleTree) → (HoldsModules h → ⊥) → IsLawfulModule h (forget_module m)
      → Every IsFound (module_blocks s i n outer next m) → ModuleAgrees mains is_block next m
  module_agrees h i n outer next (the_module x exports ps b last p) apart lawful found =
      parts_agree h false next 0 (level i n ∷ outer) (next + 1) ps apart lawful.1 found

  process_agrees : (n : ℕ) (next : ℕ) (q : ProcessTree) → IsLawfulProcess (forget_process q) → Every IsFound (process_blocks s 0 n [] next q)
      → ProcessAgrees mains is_block next q
  process_agrees n next (process many x gs es ps (body ss from to) p) lawful found =
      let own = scope_at s.blocks.scopes next in
      let count = passed_entries own (passed_groups own 0 gs) es in
      let around = level 0 (passed (scope_at s.blocks.scopes 0) n x) ∷ [] in
      let two = every_parted IsFound (parts_blocks s true next count around (next + 1) ps) _ found in (
        ap (λ (b : Block). b.outer) two.1.0,
        ap (λ (b : Block). is_some b.guard) two.1.0,
        parts_agree of_other true next count around (next + 1) ps (λ e. e) lawful.2 two.0,
      )

  -- of a program, whose modules have main's scopes
  pub program_agrees : (n next : ℕ) (qs : PartTrees) → AreLawfulParts of_program (forget_parts qs) → mains 0 ≡ true
      → ((j : ℕ) → among j (mods next qs) ≡ true → mains j ≡ true) → Every IsFound (parts_blocks s false 0 n [] next qs) → PartsAgree mains is_block 0 next qs
  program_agrees n next no_parts lawful main are found = tt
  program_agrees n next (more_parts q qs) lawful main are found =
      let further = passed_part (scope_at s.blocks.scopes 0) n q in
      let two = every_parted IsFound (part_blocks s false 0 n [] next q) (parts_blocks s false 0 further [] (next + part_scopes q) qs) found in (
        first q lawful.0 are two.0,
        program_agrees further (next + part_scopes q) qs lawful.1 main (rest q are) two.1,
      )
    where
      rest : (p : PartTree) → ((j : ℕ) → among j (mods next (more_parts p qs)) ≡ true → mains j ≡ true) → (j : ℕ)
          → among j (mods (next + part_scopes p) qs) ≡ true → mains j ≡ true
      rest (consts items) are j h = are j h
      rest (types items) are j h = are j h
      rest (vars vs) are j h = are j h
      rest (sub_part b) are j h = are j h
      rest (monitor m) are j h = are j (or_behind (next == j) (among j (mods (next + part_scopes (monitor m)) qs)) h)
      rest (resource m) are j h = are j (or_behind (next == j) (among j (mods (next + part_scopes (resource m)) qs)) h)
      rest (process_part p) are j h = are j h

      first : (p : PartTree) → IsLawfulPart of_program (forget_part p)
          → ((j : ℕ) → among j (mods next (more_parts p qs)) ≡ true → mains j ≡ true)
          → Every IsFound (part_blocks s false 0 n [] next p) → PartAgrees mains is_block 0 next p
      first (consts items) lawful are found = tt
      first (types items) lawful are found = tt
      first (vars vs) lawful are found = tt
      first (sub_part b) lawful are found = sub_agrees of_program false 0 n [] next b lawful found
      first (monitor m) lawful are found = (
        are next (ap (λ (r : Bool). r || among next (mods (next + part_scopes (monitor m)) qs)) (same_number next)),
        module_agrees of_other 0 n [] next m (λ e. e) lawful.1 found,
      )
      first (resource m) lawful are found = module_agrees of_resource 0 n [] next m (λ e. e) lawful.1 found
      first (process_part p) lawful are found = (main, process_agrees n next p lawful.1 found)
