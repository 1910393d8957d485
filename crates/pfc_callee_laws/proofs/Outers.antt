-- No block is declared in the scope of an accept.
use Rattle.std.proofs.Common.{◌≡◌, ℕ, ◌+◌, ◌<◌, ◌≤◌, ◌&&◌, ◌⊎◌, inl, inr, Bool, true, false, List, [], ◌∷◌, ◌++◌, take, drop, None, refl, arith}
use Rattle.std.specs.Prelude.{nat_lt, nat_le}
use Rattle.pfc_tree.specs.trees.Stmts.{body}
use Rattle.pfc_tree.specs.trees.Parts.{PartTree, PartTrees, SubTree, ModuleTree, ProcessTree, consts, types, vars, sub_part, monitor, resource, process_part}
use Rattle.pfc_tree.specs.trees.Parts.{no_parts, more_parts, sub, the_module, process}
use Rattle.pfc_types.specs.Scopes.{Level, scope_at, here}
use Rattle.pfc_types.specs.Blocks.{State}
use Rattle.pfc_types.specs.rules.Statements.{body_scopes}
use Rattle.pfc_types.specs.rules.Bodies.{env_at, around_sub, around_process, around_guard, level, passed, passed_part, passed_groups, passed_entries}
use Rattle.pfc_types.specs.rules.Bodies.{part_scopes, parts_scopes, sub_scopes, module_scopes, process_scopes}
use Rattle.pfc_semantics.specs.Layouts.{sub_layout_at, process_layout}
use Rattle.pfc_semantics.specs.Programs.{Block, block_of, guard_of, part_blocks, parts_blocks, sub_blocks, module_blocks, process_blocks}
use Rattle.pfc_translation.specs.Sites.{is_accept}
use Rattle.pfc_nesting_laws.proofs.Numbered.{Every, every_append, every_map, Below, Numbered, part_numbered, parts_numbered}

no_accept : (n j : ℕ) → (nat_le n j && nat_lt j (n + 0)) ≡ true → ⊥
no_accept n j h = grind (arith, h)

-- ## Where blocks stand

-- in this scope, or in one between two numbers
abbrev StandsIn : ℕ → ℕ → ℕ → Block → Type 0
StandsIn i from to c = (c.outer ≡ i) ⊎ ((from ≤ c.outer) × (c.outer < to))

wider : (i from to low high : ℕ) → low ≤ from → to ≤ high → (c : Block) → StandsIn i from to c → StandsIn i low high c
wider i from to low high u v c (inl e) = inl e
wider i from to low high u v c (inr e) = inr (let a = e.0 in let b = e.1 in (omega (arith, a, u), omega (arith, b, v)))

-- in an inner scope, which is one of them
inner : (i own from to low high : ℕ) → low ≤ own → own < high → low ≤ from → to ≤ high → (c : Block) → StandsIn own from to c → StandsIn i low high c
inner i own from to low high p q u v c (inl e) = inr (omega (arith, e, p), omega (arith, e, q))
inner i own from to low high p q u v c (inr e) = inr (let a = e.0 in let b = e.1 in (omega (arith, a, u), omega (arith, b, v)))

mutual
  part_stands : (s : State) (in_process : Bool) (i n : ℕ) (outer : List Level) (next : ℕ) (q : PartTree)
      → Every (StandsIn i next (next + part_scopes q)) (part_blocks s in_process i n outer next q)
  part_stands s in_process i n outer next (consts items) = tt
  part_stands s in_process i n outer next (types items) = tt
  part_stands s in_process i n outer next (vars vs) = tt
  part_stands s in_process i n outer next (sub_part b) = sub_stands s in_process i n outer next b
  part_stands s in_process i n outer next (monitor m) = module_stands s i n outer next m
  part_stands s in_process i n outer next (resource m) = module_stands s i n outer next m
  part_stands s in_process i n outer next (process_part p) = process_stands s i n outer next p

  parts_stand : (s : State) (in_process : Bool) (i n : ℕ) (outer : List Level) (next : ℕ) (qs : PartTrees)
      → Every (StandsIn i next (next + parts_scopes qs)) (parts_blocks s in_process i n outer next qs)
  parts_stand s in_process i n outer next no_parts = tt
  parts_stand s in_process i n outer next (more_parts q qs) =
      let further = passed_part (scope_at s.blocks.scopes i) n q in
      let middle = next + part_scopes q in
      let high = next + parts_scopes (more_parts q qs) in
      every_append (StandsIn i next high) (part_blocks s in_process i n outer next q) (parts_blocks s in_process i further outer middle qs)
      (every_map (StandsIn i next middle) (StandsIn i next high) (wider i next middle next high (omega arith) (omega arith))
      (part_blocks s in_process i n outer next q) (part_stands s in_process i n outer next q))
      (every_map (StandsIn i middle (middle + parts_scopes qs)) (StandsIn i next high)
      (wider i middle (middle + parts_scopes qs) next high (omega arith) (omega arith))
      (parts_blocks s in_process i further outer middle qs) (parts_stand s in_process i further outer middle qs))

  sub_stands : (s : State) (in_process : Bool) (i n : ℕ) (outer : List Level) (next : ℕ) (b : SubTree)
      → Every (StandsIn i next (next + sub_scopes b)) (sub_blocks s in_process i n outer next b)
  sub_stands s in_process i n outer next (sub x gs kind ps (body ss from to) p) =
      let count = passed_groups (scope_at s.blocks.scopes next) 0 gs in
      let around = level i (passed (scope_at s.blocks.scopes i) n x) ∷ outer in
      let high = next + sub_scopes (sub x gs kind ps (body ss from to) p) in
      every_append (StandsIn i next high) (parts_blocks s in_process next count around (next + 1) ps) _
      (every_map (StandsIn next (next + 1) ((next + 1) + parts_scopes ps)) (StandsIn i next high)
      (inner i next (next + 1) ((next + 1) + parts_scopes ps) next high (omega arith) (omega arith) (omega arith) (omega arith))
      (parts_blocks s in_process next count around (next + 1) ps) (parts_stand s in_process next count around (next + 1) ps)) (inl refl, tt)

  module_stands : (s : State) (i n : ℕ) (outer : List Level) (next : ℕ) (m : ModuleTree)
      → Every (StandsIn i next (next + module_scopes m)) (module_blocks s i n outer next m)
  module_stands s i n outer next (the_module x exports ps b last p) =
      let high = next + module_scopes (the_module x exports ps b last p) in
      every_map (StandsIn next (next + 1) ((next + 1) + parts_scopes ps)) (StandsIn i next high)
      (inner i next (next + 1) ((next + 1) + parts_scopes ps) next high (omega arith) (omega arith) (omega arith) (omega arith))
      (parts_blocks s false next 0 (level i n ∷ outer) (next + 1) ps) (parts_stand s false next 0 (level i n ∷ outer) (next + 1) ps)

  process_stands : (s : State) (i n : ℕ) (outer : List Level) (next : ℕ) (p : ProcessTree)
      → Every (StandsIn i next (next + process_scopes p)) (process_blocks s i n outer next p)
  process_stands s i n outer next (process many x gs es ps (body ss from to) p) =
      let own = scope_at s.blocks.scopes next in
      let count = passed_entries own (passed_groups own 0 gs) es in
      let around = level i (passed (scope_at s.blocks.scopes i) n x) ∷ outer in
      let high = next + process_scopes (process many x gs es ps (body ss from to) p) in
      every_append (StandsIn i next high) (parts_blocks s true next count around (next + 1) ps) _
      (every_map (StandsIn next (next + 1) ((next + 1) + parts_scopes ps)) (StandsIn i next high)
      (inner i next (next + 1) ((next + 1) + parts_scopes ps) next high (omega arith) (omega arith) (omega arith) (omega arith))
      (parts_blocks s true next count around (next + 1) ps) (parts_stand s true next count around (next + 1) ps)) (inl refl, tt)

-- ## Accepts

-- none of these blocks stands in an accept of the block
abbrev pub IsOutside : List Block → Block → Type 0
IsOutside cs b = Every (λ (c : Block). is_accept b c.outer ≡ true → ⊥) cs

abbrev pub AreOutside : List Block → List Block → Type 0
AreOutside cs bs = Every (IsOutside cs) bs

-- accepts of blocks from one range, and blocks that stand before it or behind
apart : (i from to low high : ℕ) → i < from → (to ≤ low) ⊎ (high ≤ from) → (bs cs : List Block) → Every (Numbered from to) bs → Every (StandsIn i low high) cs
    → AreOutside cs bs
apart i from to low high less beside bs cs numbered stand =
    every_map (Numbered from to) (IsOutside cs) (λ b h. every_map (StandsIn i low high) (λ (c : Block). is_accept b c.outer ≡ true → ⊥)
    (λ c k e. clash b c h beside k e) cs stand) bs numbered
  where
    clash : (b c : Block) → Numbered from to b → (to ≤ low) ⊎ (high ≤ from) → StandsIn i low high c → is_accept b c.outer ≡ true → ⊥
    clash b c h beside (inl at) e = (let x = h.low in let y = (h.accepts c.outer e).0 in omega (arith, x, y, at, less))
    clash b c h (inl past) (inr k) e = (let y = (h.accepts c.outer e).1 in let z = k.0 in omega (arith, y, z, past))
    clash b c h (inr past) (inr k) e = (let x = h.low in let y = (h.accepts c.outer e).0 in let z = k.1 in omega (arith, x, y, z, past))

outside_append : (b : Block) (cs ds : List Block) → IsOutside cs b → IsOutside ds b → IsOutside (cs ++ ds) b
outside_append b cs ds h k = every_append (λ (c : Block). is_accept b c.outer ≡ true → ⊥) cs ds h k

-- the accepts of some blocks, and two lists of blocks
both_outside : (cs ds bs : List Block) → AreOutside cs bs → AreOutside ds bs → AreOutside (cs ++ ds) bs
both_outside cs ds [] h k = tt
both_outside cs ds (b ∷ bs) h k = (outside_append b cs ds h.0 k.0, both_outside cs ds bs h.1 k.1)

all_outside : (xs ys : List Block) → AreOutside xs xs → AreOutside ys xs → AreOutside xs ys → AreOutside ys ys → AreOutside (xs ++ ys) (xs ++ ys)
all_outside xs ys a b c d = every_append (IsOutside (xs ++ ys)) xs ys (both_outside xs ys xs a b) (both_outside xs ys ys c d)

-- a block without accepts
none_accepts : (b : Block) (cs : List Block) → ((j : ℕ) → is_accept b j ≡ true → ⊥) → IsOutside cs b
none_accepts b [] h = tt
none_accepts b (c ∷ cs) h = (h c.outer, none_accepts b cs h)

-- a block behind its inner ones
with_own : (xs : List Block) (own : Block) → AreOutside xs xs → AreOutside (own ∷ []) xs → IsOutside xs own → (is_accept own own.outer ≡ true → ⊥)
    → AreOutside (xs ++ own ∷ []) (xs ++ own ∷ [])
with_own xs own a b c d = all_outside xs (own ∷ []) a b (c, tt) ((d, tt), tt)

mutual
  part_outside : (s : State) (in_process : Bool) (i n : ℕ) (outer : List Level) (next : ℕ) (q : PartTree) → i < next → Below i outer
      → AreOutside (part_blocks s in_process i n outer next q) (part_blocks s in_process i n outer next q)
  part_outside s in_process i n outer next (consts items) less falls = tt
  part_outside s in_process i n outer next (types items) less falls = tt
  part_outside s in_process i n outer next (vars vs) less falls = tt
  part_outside s in_process i n outer next (sub_part b) less falls = sub_outside s in_process i n outer next b less falls
  part_outside s in_process i n outer next (monitor m) less falls = module_outside s i n outer next m less falls
  part_outside s in_process i n outer next (resource m) less falls = module_outside s i n outer next m less falls
  part_outside s in_process i n outer next (process_part p) less falls = process_outside s i n outer next p less falls

  pub parts_outside : (s : State) (in_process : Bool) (i n : ℕ) (outer : List Level) (next : ℕ) (qs : PartTrees) → i < next → Below i outer
      → AreOutside (parts_blocks s in_process i n outer next qs) (parts_blocks s in_process i n outer next qs)
  parts_outside s in_process i n outer next no_parts less falls = tt
  parts_outside s in_process i n outer next (more_parts q qs) less falls =
      let further = passed_part (scope_at s.blocks.scopes i) n q in
      let middle = next + part_scopes q in
      let high = middle + parts_scopes qs in
      let xs = part_blocks s in_process i n outer next q in
      let ys = parts_blocks s in_process i further outer middle qs in
      all_outside xs ys (part_outside s in_process i n outer next q less falls)
      (apart i next middle middle high less (inl (omega arith)) xs ys (part_numbered s in_process i n outer next q less falls)
      (parts_stand s in_process i further outer middle qs))
      (apart i middle high next middle (omega (arith, less)) (inr (omega arith)) ys xs
      (parts_numbered s in_process i further outer middle qs (omega (arith, less)) falls) (part_stands s in_process i n outer next q))
      (parts_outside s in_process i further outer middle qs (omega (arith, less)) falls)

  sub_outside : (s : State) (in_process : Bool) (i n : ℕ) (outer : List Level) (next : ℕ) (b : SubTree) → i < next → Below i outer
      → AreOutside (sub_blocks s in_process i n outer next b) (sub_blocks s in_process i n outer next b)
  sub_outside s in_process i n outer next (sub x gs kind ps (body ss from to) p) less falls =
      let count = passed_groups (scope_at s.blocks.scopes next) 0 gs in
      let around = level i (passed (scope_at s.blocks.scopes i) n x) ∷ outer in
      let high = (next + 1) + parts_scopes ps in
      let xs = parts_blocks s in_process next count around (next + 1) ps in
      let guard = guard_of (env_at s (level next count ∷ level i n ∷ outer) (around_guard i)) kind in
      let own =
      block_of next i (env_at s (here s.blocks.scopes next around) (around_sub in_process kind)) (next + 1 + parts_scopes ps) (body ss from to)
      (sub_layout_at s.blocks next) 0 guard in
      with_own xs own (parts_outside s in_process next count around (next + 1) ps (omega arith) (less, falls))
      (apart i (next + 1) high high high (omega (arith, less)) (inl (omega arith)) xs (own ∷ [])
      (parts_numbered s in_process next count around (next + 1) ps (omega arith) (less, falls)) (inl refl, tt))
      (none_accepts own xs (λ j e. no_accept high j e)) (λ e. no_accept high i e)

  module_outside : (s : State) (i n : ℕ) (outer : List Level) (next : ℕ) (m : ModuleTree) → i < next → Below i outer
      → AreOutside (module_blocks s i n outer next m) (module_blocks s i n outer next m)
  module_outside s i n outer next (the_module x exports ps b last p) less falls =
      parts_outside s false next 0 (level i n ∷ outer) (next + 1) ps (omega arith) (less, falls)

  process_outside : (s : State) (i n : ℕ) (outer : List Level) (next : ℕ) (p : ProcessTree) → i < next → Below i outer
      → AreOutside (process_blocks s i n outer next p) (process_blocks s i n outer next p)
  process_outside s i n outer next (process many x gs es ps (body ss from to) p) less falls =
      let names = scope_at s.blocks.scopes next in
      let count = passed_entries names (passed_groups names 0 gs) es in
      let around = level i (passed (scope_at s.blocks.scopes i) n x) ∷ outer in
      let high = (next + 1) + parts_scopes ps in
      let accepts = body_scopes (body ss from to) in
      let xs = parts_blocks s true next count around (next + 1) ps in
      let own =
      block_of next i (env_at s (here s.blocks.scopes next around) around_process) (next + 1 + parts_scopes ps) (body ss from to)
      (process_layout names (take accepts (drop (next + 1 + parts_scopes ps) s.blocks.scopes))) accepts None in
      with_own xs own (parts_outside s true next count around (next + 1) ps (omega arith) (less, falls))
      (apart i (next + 1) high high high (omega (arith, less)) (inl (omega arith)) xs (own ∷ [])
      (parts_numbered s true next count around (next + 1) ps (omega arith) (less, falls)) (inl refl, tt))
      (every_map (StandsIn next (next + 1) high) (λ (c : Block). is_accept own c.outer ≡ true → ⊥)
      (λ c k e. low next high accepts c k (omega arith) e) xs (parts_stand s true next count around (next + 1) ps))
      (λ e. high_only i high accepts (omega (arith, less)) e)
    where
      high_only : (j high accepts : ℕ) → j < high → (nat_le high j && nat_lt j (high + accepts)) ≡ true → ⊥
      high_only j high accepts less h = grind (arith, h, less)

      low : (next high accepts : ℕ) (c : Block) → StandsIn next (next + 1) high c → next < high
          → (nat_le high c.outer && nat_lt c.outer (high + accepts)) ≡ true → ⊥
      low next high accepts c (inl at) more e = high_only c.outer high accepts (omega (arith, at, more)) e
      low next high accepts c (inr k) more e = high_only c.outer high accepts k.1 e
