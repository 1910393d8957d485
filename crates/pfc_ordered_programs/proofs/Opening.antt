-- Which scopes are those of the blocks of a program, and so not of accepts.
use Rattle.std.proofs.Common.{◌≡◌, ℕ, ◌+◌, ◌≤◌, ◌<◌, ◌⊎◌, inl, inr, Bool, true, false, List, [], ◌∷◌, take, drop, Option, Some, None, refl, arith}
use Rattle.std.specs.List.{AllByRecursion}
use Rattle.pfc_tree.specs.trees.Stmts.{BodyTree, body}
use Rattle.pfc_tree.specs.trees.Parts.{PartTree, PartTrees, SubTree, ModuleTree, ProcessTree, consts, types, vars, sub_part, monitor, resource}
use Rattle.pfc_tree.specs.trees.Parts.{process_part, no_parts, more_parts, sub, the_module, process}
use Rattle.pfc_types.specs.Scopes.{Level, scope_at, here}
use Rattle.pfc_types.specs.Blocks.{State}
use Rattle.pfc_types.specs.rules.Expressions.{Env}
use Rattle.pfc_types.specs.rules.Statements.{stmts_scopes, body_scopes}
use Rattle.pfc_types.specs.rules.Bodies.{env_at, around_nothing, around_sub, around_process, around_guard, passed, passed_part, passed_groups, passed_entries}
use Rattle.pfc_types.specs.rules.Bodies.{part_scopes, parts_scopes, sub_scopes, module_scopes, process_scopes, init_scopes, level}
use Rattle.pfc_semantics.specs.Layouts.{Layout, sub_layout_at, process_layout}
use Rattle.pfc_semantics.specs.Programs.{Block, Guard, block_of, guard_of, part_blocks, parts_blocks, sub_blocks, module_blocks, process_blocks, module_inits}
use Rattle.pfc_semantics.specs.Programs.{part_inits, parts_inits}
use Rattle.pfc_guard_laws.proofs.Lists.{all_append}

-- ## The scopes of blocks

-- whether the scope is that of a block or a module among these parts, whose next scope has this number
abbrev mutual
  pub PartOpens : ℕ → PartTree → ℕ → Type 0
  PartOpens next (consts items) j = ⊥
  PartOpens next (types items) j = ⊥
  PartOpens next (vars vs) j = ⊥
  PartOpens next (sub_part b) j = SubOpens next b j
  PartOpens next (monitor m) j = ModuleOpens next m j
  PartOpens next (resource m) j = ModuleOpens next m j
  PartOpens next (process_part q) j = ProcessOpens next q j

  pub PartsOpen : ℕ → PartTrees → ℕ → Type 0
  PartsOpen next no_parts j = ⊥
  PartsOpen next (more_parts q qs) j = PartOpens next q j ⊎ PartsOpen (next + part_scopes q) qs j

  pub SubOpens : ℕ → SubTree → ℕ → Type 0
  SubOpens next (sub x gs kind ps b p) j = (j ≡ next) ⊎ PartsOpen (next + 1) ps j

  pub ModuleOpens : ℕ → ModuleTree → ℕ → Type 0
  ModuleOpens next (the_module x exports ps b last p) j = (j ≡ next) ⊎ PartsOpen (next + 1) ps j

  pub ProcessOpens : ℕ → ProcessTree → ℕ → Type 0
  ProcessOpens next (process many x gs es ps b p) j = (j ≡ next) ⊎ PartsOpen (next + 1) ps j

abbrev Within : ℕ → ℕ → ℕ → Type 0
Within next size j = (next ≤ j) × (j < next + size)

-- the own scope of a block, or one of those inside
own_within : (next k more j : ℕ) (Q : Type 0) → (Q → Within (next + 1) k j) → (j ≡ next) ⊎ Q → Within next (1 + k + more) j
own_within next k more j Q inner (inl e) = (omega (arith, e), omega (arith, e))
own_within next k more j Q inner (inr q) = (let both = inner q in (omega (arith, both.0), omega (arith, both.1)))

mutual
  part_within : (next : ℕ) (q : PartTree) (j : ℕ) → PartOpens next q j → Within next (part_scopes q) j
  part_within next (consts items) j is = absurd is
  part_within next (types items) j is = absurd is
  part_within next (vars vs) j is = absurd is
  part_within next (sub_part b) j is = sub_within next b j is
  part_within next (monitor m) j is = module_within next m j is
  part_within next (resource m) j is = module_within next m j is
  part_within next (process_part q) j is = process_within next q j is

  pub parts_within : (next : ℕ) (qs : PartTrees) (j : ℕ) → PartsOpen next qs j → Within next (parts_scopes qs) j
  parts_within next no_parts j is = absurd is
  parts_within next (more_parts q qs) j (inl is) = (let both = part_within next q j is in (both.0, omega (arith, both.1)))
  parts_within next (more_parts q qs) j (inr is) =
      (let both = parts_within (next + part_scopes q) qs j is in (omega (arith, both.0), omega (arith, both.1)))

  sub_within : (next : ℕ) (b : SubTree) (j : ℕ) → SubOpens next b j → Within next (sub_scopes b) j
  sub_within next (sub x gs kind ps b p) j is =
      own_within next (parts_scopes ps) (body_scopes b) j (PartsOpen (next + 1) ps j) (λ q. parts_within (next + 1) ps j q) is

  module_within : (next : ℕ) (m : ModuleTree) (j : ℕ) → ModuleOpens next m j → Within next (module_scopes m) j
  module_within next (the_module x exports ps b last p) j is =
      own_within next (parts_scopes ps) (init_scopes b) j (PartsOpen (next + 1) ps j) (λ q. parts_within (next + 1) ps j q) is

  process_within : (next : ℕ) (q : ProcessTree) (j : ℕ) → ProcessOpens next q j → Within next (process_scopes q) j
  process_within next (process many x gs es ps b p) j is =
      own_within next (parts_scopes ps) (body_scopes b) j (PartsOpen (next + 1) ps j) (λ q. parts_within (next + 1) ps j q) is

-- ## The scopes of accepts

module _ (Open : ℕ → Type 0) (s : State) where
  -- none of a body's accepts has such a scope
  abbrev pub IsApart : Block → Type 0
  IsApart b = (i : ℕ) → b.next ≤ i → i < b.next + stmts_scopes b.stmts → Open i → ⊥

  -- those of these scopes are no others
  abbrev pub Only : ℕ → ℕ → (ℕ → Type 0) → Type 0
  Only next size Q = (i : ℕ) → next ≤ i → i < next + size → Open i → Q i

  only_first : (next : ℕ) (q : PartTree) (qs : PartTrees) → Only next (parts_scopes (more_parts q qs)) (PartsOpen next (more_parts q qs))
      → Only next (part_scopes q) (PartOpens next q)
  only_first next q qs only i low high is =
      elim (only i low (omega (arith, high)) is) [
        | inl here ↦ here
        | inr later ↦ absurd (let both = parts_within (next + part_scopes q) qs i later in omega (arith, both.0, high))
      ]

  only_rest : (next : ℕ) (q : PartTree) (qs : PartTrees) → Only next (parts_scopes (more_parts q qs)) (PartsOpen next (more_parts q qs))
      → Only (next + part_scopes q) (parts_scopes qs) (PartsOpen (next + part_scopes q) qs)
  only_rest next q qs only i low high is =
      elim (only i (omega (arith, low)) (omega (arith, high)) is) [
        | inl here ↦ absurd (let both = part_within next q i here in omega (arith, both.1, low))
        | inr later ↦ later
      ]

  only_inner : (next more : ℕ) (ps : PartTrees) → Only next (1 + parts_scopes ps + more) (λ (i : ℕ). (i ≡ next) ⊎ PartsOpen (next + 1) ps i)
      → Only (next + 1) (parts_scopes ps) (PartsOpen (next + 1) ps)
  only_inner next more ps only i low high is =
      elim (only i (omega (arith, low)) (omega (arith, high)) is) [ inl own ↦ absurd (omega (arith, own, low)) | inr inner ↦ inner ]

  -- the accepts of a body stand behind its own scope and those of its parts
  body_apart :
      (next scope outer : ℕ) (env : Env) (ps : PartTrees) (b : BodyTree) (layout : Layout) (accepts : ℕ) (guard : Option Guard)
      → Only next (1 + parts_scopes ps + body_scopes b) (λ (i : ℕ). (i ≡ next) ⊎ PartsOpen (next + 1) ps i)
      → IsApart (block_of scope outer env (next + 1 + parts_scopes ps) b layout accepts guard)
  body_apart next scope outer env ps (body ss from to) layout accepts guard only i low high is =
      elim (only i (omega (arith, low)) (omega (arith, high)) is) [
        | inl own ↦ omega (arith, own, low)
        | inr inner ↦ (let both = parts_within (next + 1) ps i inner in omega (arith, both.1, low))
      ]

  mutual
    part_apart :
        (in_process : Bool) (i n : ℕ) (outer : List Level) (next : ℕ) (q : PartTree) → Only next (part_scopes q) (PartOpens next q)
        → AllByRecursion IsApart (part_blocks s in_process i n outer next q)
    part_apart in_process i n outer next (consts items) only = tt
    part_apart in_process i n outer next (types items) only = tt
    part_apart in_process i n outer next (vars vs) only = tt
    part_apart in_process i n outer next (sub_part b) only = sub_apart in_process i n outer next b only
    part_apart in_process i n outer next (monitor m) only = module_apart i n outer next m only
    part_apart in_process i n outer next (resource m) only = module_apart i n outer next m only
    part_apart in_process i n outer next (process_part q) only = process_apart i n outer next q only

    pub parts_apart :
        (in_process : Bool) (i n : ℕ) (outer : List Level) (next : ℕ) (qs : PartTrees) → Only next (parts_scopes qs) (PartsOpen next qs)
        → AllByRecursion IsApart (parts_blocks s in_process i n outer next qs)
    parts_apart in_process i n outer next no_parts only = tt
    parts_apart in_process i n outer next (more_parts q qs) only =
        all_append IsApart (part_blocks s in_process i n outer next q) _ (part_apart in_process i n outer next q (only_first next q qs only))
        (parts_apart in_process i (passed_part (scope_at s.blocks.scopes i) n q) outer (next + part_scopes q) qs (only_rest next q qs only))

    sub_apart :
        (in_process : Bool) (i n : ℕ) (outer : List Level) (next : ℕ) (q : SubTree) → Only next (sub_scopes q) (SubOpens next q)
        → AllByRecursion IsApart (sub_blocks s in_process i n outer next q)
    sub_apart in_process i n outer next (sub x gs kind ps b p) only =
        let own = scope_at s.blocks.scopes next in
        let count = passed_groups own 0 gs in
        let view = level i (passed (scope_at s.blocks.scopes i) n x) ∷ outer in
        let guard = guard_of (env_at s (level next count ∷ level i n ∷ outer) (around_guard i)) kind in
        let env = env_at s (here s.blocks.scopes next view) (around_sub in_process kind) in
        all_append IsApart (parts_blocks s in_process next count view (next + 1) ps) _
        (parts_apart in_process next count view (next + 1) ps (only_inner next (body_scopes b) ps only))
        (body_apart next next i env ps b (sub_layout_at s.blocks next) 0 guard only, tt)

    module_apart :
        (i n : ℕ) (outer : List Level) (next : ℕ) (q : ModuleTree) → Only next (module_scopes q) (ModuleOpens next q)
        → AllByRecursion IsApart (module_blocks s i n outer next q)
    module_apart i n outer next (the_module x exports ps b last p) only =
        parts_apart false next 0 (level i n ∷ outer) (next + 1) ps (only_inner next (init_scopes b) ps only)

    process_apart :
        (i n : ℕ) (outer : List Level) (next : ℕ) (q : ProcessTree) → Only next (process_scopes q) (ProcessOpens next q)
        → AllByRecursion IsApart (process_blocks s i n outer next q)
    process_apart i n outer next (process many x gs es ps b p) only =
        let own = scope_at s.blocks.scopes next in
        let count = passed_entries own (passed_groups own 0 gs) es in
        let view = level i (passed (scope_at s.blocks.scopes i) n x) ∷ outer in
        let inner = next + 1 + parts_scopes ps in
        let layout = process_layout own (take (body_scopes b) (drop inner s.blocks.scopes)) in
        all_append IsApart (parts_blocks s true next count view (next + 1) ps) _
        (parts_apart true next count view (next + 1) ps (only_inner next (body_scopes b) ps only))
        (body_apart next next i (env_at s (here s.blocks.scopes next view) around_process) ps b layout (body_scopes b) None only, tt)

  -- ## Initialising bodies

  -- it sees what the declarations have made, and has no guard
  pub record IsInit (b : Block) : Type 0 where
    pub state : b.env.state ≡ s
    pub apart : IsApart b
    pub guard : b.guard ≡ None

  module_init : (n next : ℕ) (q : ModuleTree) → Only next (module_scopes q) (ModuleOpens next q) → AllByRecursion IsInit (module_inits s n next q)
  module_init n next (the_module x exports ps None last p) only = tt
  module_init n next (the_module x exports ps (Some (body ss from to)) last p) only =
      let env = env_at s (here s.blocks.scopes next (level 0 n ∷ [])) around_nothing in
      (record { state = refl; apart = body_apart next next 0 env ps (body ss from to) [] 0 None only; guard = refl }, tt)

  part_init : (n next : ℕ) (q : PartTree) → Only next (part_scopes q) (PartOpens next q) → AllByRecursion IsInit (part_inits s n next q)
  part_init n next (consts items) only = tt
  part_init n next (types items) only = tt
  part_init n next (vars vs) only = tt
  part_init n next (sub_part b) only = tt
  part_init n next (monitor m) only = module_init n next m only
  part_init n next (resource m) only = module_init n next m only
  part_init n next (process_part p) only = tt

  pub inits_apart : (n next : ℕ) (qs : PartTrees) → Only next (parts_scopes qs) (PartsOpen next qs) → AllByRecursion IsInit (parts_inits s n next qs)
  inits_apart n next no_parts only = tt
  inits_apart n next (more_parts q qs) only =
      all_append IsInit (part_inits s n next q) _ (part_init n next q (only_first next q qs only))
      (inits_apart (passed_part (scope_at s.blocks.scopes 0) n q) (next + part_scopes q) qs (only_rest next q qs only))
