-- What stands in a text, from all its blocks.
use Rattle.std.proofs.Common.{◌≡◌, ℕ, ◌+◌, ◌++◌, Bool, true, false, List, [], ◌∷◌, length, map, Some, None, refl, ap, ap₂, ◌∙◌, length-append}
use Rattle.std.proofs.lemmas.List.{append_assoc}
use Rattle.pfc_tree.specs.trees.Stmts.{body}
use Rattle.pfc_tree.specs.trees.Parts.{PartTree, PartTrees, SubTree, ModuleTree, ProcessTree, consts, types, vars, sub_part, monitor, resource, process_part}
use Rattle.pfc_tree.specs.trees.Parts.{no_parts, more_parts, sub, the_module, process}
use Rattle.pfc_types.specs.Blocks.{State}
use Rattle.pfc_types.specs.Scopes.{Level, scope_at}
use Rattle.pfc_types.specs.rules.Bodies.{passed, passed_part, passed_groups, passed_entries, part_scopes, level}
use Rattle.pfc_semantics.specs.Programs.{Block, part_blocks, parts_blocks, sub_blocks, module_blocks, process_blocks, part_inits, parts_inits, module_inits}
use Rattle.pfc_translation.specs.Images.{Piece, a_body, an_initial, resource_end, pieces}
use Rattle.pfc_generator.specs.Pieces.{part_bodies, parts_bodies, sub_bodies, module_bodies, process_bodies, has_body, has_initial, initial_of, behind_initial}
use Rattle.pfc_generator.specs.Pieces.{pieces_of}
use Rattle.pfc_generator.proofs.Placed.{take_front, drop_front}

-- ## How many bodies a part has

mutual
  part_count : (s : State) (p : Bool) (i n : ℕ) (outer : List Level) (next : ℕ) (q : PartTree) → length (part_blocks s p i n outer next q) ≡ part_bodies q
  part_count s p i n outer next (consts items) = refl
  part_count s p i n outer next (types items) = refl
  part_count s p i n outer next (vars vs) = refl
  part_count s p i n outer next (sub_part b) = sub_count s p i n outer next b
  part_count s p i n outer next (monitor m) = module_count s i n outer next m
  part_count s p i n outer next (resource m) = module_count s i n outer next m
  part_count s p i n outer next (process_part q) = process_count s i n outer next q

  parts_count :
      (s : State) (p : Bool) (i n : ℕ) (outer : List Level) (next : ℕ) (qs : PartTrees)
      → length (parts_blocks s p i n outer next qs) ≡ parts_bodies qs
  parts_count s p i n outer next no_parts = refl
  parts_count s p i n outer next (more_parts q qs) =
      length-append (part_blocks s p i n outer next q) (parts_blocks s p i (passed_part (scope_at s.blocks.scopes i) n q) outer (next + part_scopes q) qs)
      ∙ ap₂ (λ (a b : ℕ). a + b) (part_count s p i n outer next q)
      (parts_count s p i (passed_part (scope_at s.blocks.scopes i) n q) outer (next + part_scopes q) qs)

  sub_count : (s : State) (p : Bool) (i n : ℕ) (outer : List Level) (next : ℕ) (b : SubTree) → length (sub_blocks s p i n outer next b) ≡ sub_bodies b
  sub_count s p i n outer next (sub x gs kind ps b place) =
      let own = scope_at s.blocks.scopes next in
      let count = passed_groups own 0 gs in
      let around = level i (passed (scope_at s.blocks.scopes i) n x) ∷ outer in
      length-append (parts_blocks s p next count around (next + 1) ps) (_ ∷ [])
      ∙ ap (λ (a : ℕ). a + 1) (parts_count s p next count around (next + 1) ps)

  module_count : (s : State) (i n : ℕ) (outer : List Level) (next : ℕ) (m : ModuleTree) → length (module_blocks s i n outer next m) ≡ module_bodies m
  module_count s i n outer next (the_module x exports ps b last place) = parts_count s false next 0 (level i n ∷ outer) (next + 1) ps

  process_count : (s : State) (i n : ℕ) (outer : List Level) (next : ℕ) (q : ProcessTree) → length (process_blocks s i n outer next q) ≡ process_bodies q
  process_count s i n outer next (process many x gs es ps b place) =
      let own = scope_at s.blocks.scopes next in
      let count = passed_entries own (passed_groups own 0 gs) es in
      let around = level i (passed (scope_at s.blocks.scopes i) n x) ∷ outer in
      length-append (parts_blocks s true next count around (next + 1) ps) (_ ∷ [])
      ∙ ap (λ (a : ℕ). a + 1) (parts_count s true next count around (next + 1) ps)

-- ## Its initialising body

module_initial :
    (s : State) (n next : ℕ) (m : ModuleTree) (rest : List Block)
    → (initial_of (has_body m) (module_inits s n next m ++ rest) ≡ map an_initial (module_inits s n next m))
    × (behind_initial (has_body m) (module_inits s n next m ++ rest) ≡ rest)
module_initial s n next (the_module x exports ps None last place) rest = (refl, refl)
module_initial s n next (the_module x exports ps (Some (body ss first end)) last place) rest = (refl, refl)

part_initial :
    (s : State) (n next : ℕ) (q : PartTree) (rest : List Block)
    → (initial_of (has_initial q) (part_inits s n next q ++ rest) ≡ map an_initial (part_inits s n next q))
    × (behind_initial (has_initial q) (part_inits s n next q ++ rest) ≡ rest)
part_initial s n next (consts items) rest = (refl, refl)
part_initial s n next (types items) rest = (refl, refl)
part_initial s n next (vars vs) rest = (refl, refl)
part_initial s n next (sub_part b) rest = (refl, refl)
part_initial s n next (monitor m) rest = module_initial s n next m rest
part_initial s n next (resource m) rest = module_initial s n next m rest
part_initial s n next (process_part q) rest = (refl, refl)

-- ## All pieces

pub all_pieces :
    (s : State) (n next : ℕ) (qs : PartTrees) → pieces_of (parts_blocks s false 0 n [] next qs) (parts_inits s n next qs) qs ≡ pieces s n next qs
all_pieces s n next no_parts = refl
all_pieces s n next (more_parts q qs) =
    let passed = passed_part (scope_at s.blocks.scopes 0) n q in
    let behind = next + part_scopes q in
    let blocks = part_blocks s false 0 n [] next q in
    let rest = parts_blocks s false 0 passed [] behind qs in
    let inits = part_inits s n next q in
    let more = parts_inits s passed behind qs in
    let count = part_count s false 0 n [] next q in
    let (initial, later) = part_initial s n next q more in
    let bodies : List Piece = map a_body blocks in
    ap₂ (λ (l r : List Piece). l ++ r)
    (ap₂ (λ (b : List Block) (i : List Piece). map a_body b ++ (resource_end q ++ i)) (take_front (part_bodies q) blocks rest count) initial)
    (ap₂ (λ (b i : List Block). pieces_of b i qs) (drop_front (part_bodies q) blocks rest count) later ∙ all_pieces s passed behind qs)
    ∙ append_assoc bodies (resource_end q ++ map an_initial inits) (pieces s passed behind qs)
    ∙ ap (λ (l : List Piece). bodies ++ l) (append_assoc (resource_end q) (map an_initial inits) (pieces s passed behind qs))
