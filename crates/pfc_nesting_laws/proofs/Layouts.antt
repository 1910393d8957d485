-- Blocks in which accepts stand have the layout of a process.
use Rattle.std.proofs.Common.{◌≡◌, ℕ, ◌+◌, Bool, true, false, ◌&&◌, List, ◌∷◌, take, drop, refl, arith}
use Rattle.std.specs.Prelude.{nat_lt, nat_le}
use Rattle.pfc_tree.specs.trees.Stmts.{body}
use Rattle.pfc_tree.specs.trees.Parts.{PartTree, PartTrees, SubTree, ModuleTree, ProcessTree, consts, types, vars, sub_part, monitor, resource, process_part}
use Rattle.pfc_tree.specs.trees.Parts.{no_parts, more_parts, sub, the_module, process}
use Rattle.pfc_types.specs.Scopes.{Level, scope_at}
use Rattle.pfc_types.specs.Blocks.{State}
use Rattle.pfc_types.specs.rules.Bodies.{level, passed, passed_part, passed_groups, passed_entries, part_scopes, parts_scopes}
use Rattle.pfc_semantics.specs.Layouts.{process_layout}
use Rattle.pfc_semantics.specs.Programs.{Block, part_blocks, parts_blocks, sub_blocks, module_blocks, process_blocks}
use Rattle.pfc_translation.specs.Sites.{is_accept}
use Rattle.pfc_nesting_laws.proofs.Numbered.{Every, every_append}

abbrev pub IsLaid : State → Block → Type 0
IsLaid s b = (i : ℕ) → is_accept b i ≡ true → b.layout ≡ process_layout (scope_at s.blocks.scopes b.scope) (take b.accepts (drop b.next s.blocks.scopes))

no_accept : (n j : ℕ) → (nat_le n j && nat_lt j (n + 0)) ≡ true → ⊥
no_accept n j h = grind (arith, h)

mutual
  part_laid : (s : State) (in_process : Bool) (i n : ℕ) (outer : List Level) (next : ℕ) (q : PartTree)
      → Every (IsLaid s) (part_blocks s in_process i n outer next q)
  part_laid s in_process i n outer next (consts items) = tt
  part_laid s in_process i n outer next (types items) = tt
  part_laid s in_process i n outer next (vars vs) = tt
  part_laid s in_process i n outer next (sub_part b) = sub_laid s in_process i n outer next b
  part_laid s in_process i n outer next (monitor m) = module_laid s i n outer next m
  part_laid s in_process i n outer next (resource m) = module_laid s i n outer next m
  part_laid s in_process i n outer next (process_part p) = process_laid s i n outer next p

  pub parts_laid : (s : State) (in_process : Bool) (i n : ℕ) (outer : List Level) (next : ℕ) (qs : PartTrees)
      → Every (IsLaid s) (parts_blocks s in_process i n outer next qs)
  parts_laid s in_process i n outer next no_parts = tt
  parts_laid s in_process i n outer next (more_parts q qs) =
      every_append (IsLaid s) (part_blocks s in_process i n outer next q) _ (part_laid s in_process i n outer next q)
      (parts_laid s in_process i (passed_part (scope_at s.blocks.scopes i) n q) outer (next + part_scopes q) qs)

  sub_laid : (s : State) (in_process : Bool) (i n : ℕ) (outer : List Level) (next : ℕ) (b : SubTree)
      → Every (IsLaid s) (sub_blocks s in_process i n outer next b)
  sub_laid s in_process i n outer next (sub x gs kind ps (body ss from to) p) =
      let count : ℕ = passed_groups (scope_at s.blocks.scopes next) 0 gs in
      let around : List Level = level i (passed (scope_at s.blocks.scopes i) n x) ∷ outer in
      every_append (IsLaid s) (parts_blocks s in_process next count around (next + 1) ps) _ (parts_laid s in_process next count around (next + 1) ps)
      ((λ j h. absurd (no_accept ((next + 1) + parts_scopes ps) j h)), tt)

  module_laid : (s : State) (i n : ℕ) (outer : List Level) (next : ℕ) (m : ModuleTree) → Every (IsLaid s) (module_blocks s i n outer next m)
  module_laid s i n outer next (the_module x exports ps b last p) = parts_laid s false next 0 (level i n ∷ outer) (next + 1) ps

  process_laid : (s : State) (i n : ℕ) (outer : List Level) (next : ℕ) (p : ProcessTree) → Every (IsLaid s) (process_blocks s i n outer next p)
  process_laid s i n outer next (process many x gs es ps (body ss from to) p) =
      let own = scope_at s.blocks.scopes next in
      let count : ℕ = passed_entries own (passed_groups own 0 gs) es in
      let around : List Level = level i (passed (scope_at s.blocks.scopes i) n x) ∷ outer in
      every_append (IsLaid s) (parts_blocks s true next count around (next + 1) ps) _ (parts_laid s true next count around (next + 1) ps) ((λ j h. refl), tt)
