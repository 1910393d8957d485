-- No two blocks of a program have one scope, and no block's scope, nor an accept's, is that of a module.
use Rattle.std.proofs.Common.{◌≡◌, ◌≢◌, ℕ, zero, suc, ◌+◌, ◌<◌, ◌≤◌, Bool, true, false, ◌||◌, not, cond, if◌then◌else◌, List, [], ◌∷◌, ◌++◌, length, slice_get}
use Rattle.std.proofs.Common.{Some, None, is_some, refl, sym, ap, ◌∙◌, arith}
use Rattle.std.specs.Prelude.{◌==◌, nat_lt, position}
use Rattle.std.specs.List.{position_or_len}
use Rattle.pfc_tree.specs.trees.Stmts.{body}
use Rattle.pfc_tree.specs.trees.Parts.{PartTree, PartTrees, SubTree, ModuleTree, ProcessTree, consts, types, vars, sub_part, monitor, resource, process_part}
use Rattle.pfc_tree.specs.trees.Parts.{no_parts, more_parts, sub, the_module, process}
use Rattle.pfc_types.specs.Scopes.{Level, scope_at}
use Rattle.pfc_types.specs.Blocks.{Blocks, State}
use Rattle.pfc_types.specs.declared.heads.ModuleHead.{ModuleHead}
use Rattle.pfc_types.specs.rules.Bodies.{level, passed, passed_part, passed_groups, passed_entries, part_scopes, parts_scopes, module_scopes}
use Rattle.pfc_semantics.specs.Programs.{Block, found_block, part_blocks, parts_blocks, sub_blocks, module_blocks, process_blocks}
use Rattle.pfc_translation.specs.Sites.{is_mains, module_of, is_accept}
use Rattle.pfc_image_laws.specs.Modules.{modules_from}
use Rattle.pfc_call_laws.proofs.Displays.{is_same, is_other}
use Rattle.pfc_nesting_laws.proofs.Numbered.{Every, every_append, every_map, Below, Numbered, part_numbered, parts_numbered, module_numbered}

some_same : {A : Type 0} (x y : A) → Some x ≡ Some y → x ≡ y
some_same x y h = cc

-- ## Blocks

abbrev pub Differs : ℕ → Block → Type 0
Differs n b = b.scope ≢ n

abbrev pub AreApart : List Block → Type 0
AreApart [] = Unit {0}
AreApart (b ∷ bs) = Every (Differs b.scope) bs × AreApart bs

-- scopes from one range are none of another
abbrev IsIn : ℕ → ℕ → Block → Type 0
IsIn from to b = (from ≤ b.scope) × (b.scope < to)

in_range : (from to : ℕ) (b : Block) → Numbered from to b → IsIn from to b
in_range from to b h = (h.low, h.high)

apart_joined : (a b c d : ℕ) (xs ys : List Block) → ((n m : ℕ) → a ≤ n → n < b → c ≤ m → m < d → m ≢ n) → Every (IsIn a b) xs → Every (IsIn c d) ys
    → AreApart xs → AreApart ys → AreApart (xs ++ ys)
apart_joined a b c d [] ys beside h k p q = q
apart_joined a b c d (x ∷ xs) ys beside h k p q = (
  every_append (Differs x.scope) xs ys p.0 (every_map (IsIn c d) (Differs x.scope) (λ y r. beside x.scope y.scope h.0.0 h.0.1 r.0 r.1) ys k),
  apart_joined a b c d xs ys beside h.1 k p.1 q,
)

mutual
  part_apart : (s : State) (in_process : Bool) (i n : ℕ) (outer : List Level) (next : ℕ) (q : PartTree) → i < next → Below i outer
      → AreApart (part_blocks s in_process i n outer next q)
  part_apart s in_process i n outer next (consts items) less falls = tt
  part_apart s in_process i n outer next (types items) less falls = tt
  part_apart s in_process i n outer next (vars vs) less falls = tt
  part_apart s in_process i n outer next (sub_part b) less falls = sub_apart s in_process i n outer next b less falls
  part_apart s in_process i n outer next (monitor m) less falls = module_apart s i n outer next m less falls
  part_apart s in_process i n outer next (resource m) less falls = module_apart s i n outer next m less falls
  part_apart s in_process i n outer next (process_part p) less falls = process_apart s i n outer next p less falls

  pub parts_apart : (s : State) (in_process : Bool) (i n : ℕ) (outer : List Level) (next : ℕ) (qs : PartTrees) → i < next → Below i outer
      → AreApart (parts_blocks s in_process i n outer next qs)
  parts_apart s in_process i n outer next no_parts less falls = tt
  parts_apart s in_process i n outer next (more_parts q qs) less falls =
      let further : ℕ = passed_part (scope_at s.blocks.scopes i) n q in
      let middle : ℕ = next + part_scopes q in
      apart_joined next middle middle (middle + parts_scopes qs) (part_blocks s in_process i n outer next q)
      (parts_blocks s in_process i further outer middle qs) (λ u v a b c d e. omega (arith, a, b, c, d, e))
      (every_map (Numbered next middle) (IsIn next middle) (in_range next middle) (part_blocks s in_process i n outer next q)
      (part_numbered s in_process i n outer next q less falls))
      (every_map (Numbered middle (middle + parts_scopes qs)) (IsIn middle (middle + parts_scopes qs)) (in_range middle (middle + parts_scopes qs))
      (parts_blocks s in_process i further outer middle qs)
      (parts_numbered s in_process i further outer middle qs (omega (arith, less)) falls))
      (part_apart s in_process i n outer next q less falls) (parts_apart s in_process i further outer middle qs (omega (arith, less)) falls)

  sub_apart : (s : State) (in_process : Bool) (i n : ℕ) (outer : List Level) (next : ℕ) (b : SubTree) → i < next → Below i outer
      → AreApart (sub_blocks s in_process i n outer next b)
  sub_apart s in_process i n outer next (sub x gs kind ps (body ss from to) p) less falls =
      let count : ℕ = passed_groups (scope_at s.blocks.scopes next) 0 gs in
      let around : List Level = level i (passed (scope_at s.blocks.scopes i) n x) ∷ outer in
      let high : ℕ = (next + 1) + parts_scopes ps in
      apart_joined (next + 1) high next (next + 1) (parts_blocks s in_process next count around (next + 1) ps) _ (λ u v a b c d e. omega (arith, a, b, c, d, e))
      (every_map (Numbered (next + 1) high) (IsIn (next + 1) high) (in_range (next + 1) high) (parts_blocks s in_process next count around (next + 1) ps)
      (parts_numbered s in_process next count around (next + 1) ps (omega arith) (less, falls)))
      ((omega arith, omega arith), tt) (parts_apart s in_process next count around (next + 1) ps (omega arith) (less, falls)) (tt, tt)

  module_apart : (s : State) (i n : ℕ) (outer : List Level) (next : ℕ) (m : ModuleTree) → i < next → Below i outer → AreApart (module_blocks s i n outer next m)
  module_apart s i n outer next (the_module x exports ps b last p) less falls = parts_apart s false next 0 (level i n ∷ outer) (next + 1) ps (omega arith)
      (less, falls)

  process_apart : (s : State) (i n : ℕ) (outer : List Level) (next : ℕ) (p : ProcessTree) → i < next → Below i outer
      → AreApart (process_blocks s i n outer next p)
  process_apart s i n outer next (process many x gs es ps (body ss from to) p) less falls =
      let own = scope_at s.blocks.scopes next in
      let count : ℕ = passed_entries own (passed_groups own 0 gs) es in
      let around : List Level = level i (passed (scope_at s.blocks.scopes i) n x) ∷ outer in
      let high : ℕ = (next + 1) + parts_scopes ps in
      apart_joined (next + 1) high next (next + 1) (parts_blocks s true next count around (next + 1) ps) _ (λ u v a b c d e. omega (arith, a, b, c, d, e))
      (every_map (Numbered (next + 1) high) (IsIn (next + 1) high) (in_range (next + 1) high) (parts_blocks s true next count around (next + 1) ps)
      (parts_numbered s true next count around (next + 1) ps (omega arith) (less, falls)))
      ((omega arith, omega arith), tt) (parts_apart s true next count around (next + 1) ps (omega arith) (less, falls)) (tt, tt)

differs_at : (bs : List Block) (k n : ℕ) (b : Block) → Every (Differs n) bs → slice_get bs k ≡ Some b → b.scope ≢ n
differs_at [] k n b h at = absurd (cc)
differs_at (x ∷ bs) zero n b h at = (λ e. h.0 (ap (λ (y : Block). y.scope) (some_same x b at) ∙ e))
differs_at (x ∷ bs) (suc k) n b h at = differs_at bs k n b h.1 at

-- so each is found by its scope
pub found_apart : (bs : List Block) (other : Block) (k : ℕ) (b : Block) → AreApart bs → slice_get bs k ≡ Some b → found_block bs b.scope other ≡ b
found_apart [] other k b h at = absurd (cc)
found_apart (x ∷ bs) other zero b h at =
    let same : x ≡ b = some_same x b at in
    ap (λ (c : Bool). if c then x else found_block bs b.scope other) (is_same x.scope b.scope (ap (λ (y : Block). y.scope) same)) ∙ same
found_apart (x ∷ bs) other (suc k) b h at =
    ap (λ (c : Bool). if c then x else found_block bs b.scope other) (is_other x.scope b.scope (λ e. differs_at bs k x.scope b h.0 at (sym e)))
    ∙ found_apart bs other k b h.1 at

-- ## Modules

abbrev pub Away : List ModuleHead → ℕ → Type 0
Away [] j = Unit {0}
Away (m ∷ ms) j = (m.scope ≢ j) × Away ms j

-- the scopes of later modules are not below
later_away : (next : ℕ) (qs : PartTrees) (j : ℕ) → j < next → Away (modules_from next qs) j
later_away next no_parts j h = tt
later_away next (more_parts (consts items) qs) j h = later_away (next + 0) qs j (omega (arith, h))
later_away next (more_parts (types items) qs) j h = later_away (next + 0) qs j (omega (arith, h))
later_away next (more_parts (vars vs) qs) j h = later_away (next + 0) qs j (omega (arith, h))
later_away next (more_parts (sub_part b) qs) j h = later_away (next + part_scopes (sub_part b)) qs j (omega (arith, h))
later_away next (more_parts (monitor m) qs) j h = ((λ e. omega (arith, e, h)), later_away (next + part_scopes (monitor m)) qs j (omega (arith, h)))
later_away next (more_parts (resource m) qs) j h = ((λ e. omega (arith, e, h)), later_away (next + part_scopes (resource m)) qs j (omega (arith, h)))
later_away next (more_parts (process_part p) qs) j h = later_away (next + part_scopes (process_part p)) qs j (omega (arith, h))

-- the own scope of a block and those of its accepts are no module's
pub record IsClear (ms : List ModuleHead) (b : Block) : Type 0 where
  pub own : Away ms b.scope
  pub accepts : (i : ℕ) → is_accept b i ≡ true → Away ms i

clear_later : (from to next : ℕ) (qs : PartTrees) → to ≤ next → (b : Block) → Numbered from to b → IsClear (modules_from next qs) b
clear_later from to next qs fit b h =
    record {
      own = (let high = h.high in later_away next qs b.scope (omega (arith, high, fit)));
      accepts = λ i is. (let both = h.accepts i is in let high : i < to = both.1 in later_away next qs i (omega (arith, high, fit)));
    }

clear_head : (head : ModuleHead) (ms : List ModuleHead) (from to : ℕ) → head.scope < from → (b : Block) → Numbered from to b → IsClear ms b
    → IsClear (head ∷ ms) b
clear_head head ms from to low b h clear =
    record {
      own = ((λ e. (let over = h.low in omega (arith, over, e, low))), clear.own);
      accepts = λ i is. (
        (λ e. (let over = h.low in let both = h.accepts i is in let less : b.scope < i = both.0 in omega (arith, over, e, low, less))),
        clear.accepts i is,
      );
    }

-- of what stands in a module, of which the heading comes first
module_clear : (head : ModuleHead) (ms : List ModuleHead) (from to : ℕ) (bs : List Block) → head.scope < from → Every (Numbered from to) bs
    → Every (IsClear ms) bs → Every (IsClear (head ∷ ms)) bs
module_clear head ms from to [] low h k = tt
module_clear head ms from to (b ∷ bs) low h k = (clear_head head ms from to low b h.0 k.0, module_clear head ms from to bs low h.1 k.1)

opens : (m : ModuleTree) → 0 < module_scopes m
opens (the_module x exports ps b last p) = omega arith

pub parts_clear : (s : State) (in_process : Bool) (i n : ℕ) (outer : List Level) (next : ℕ) (qs : PartTrees) → i < next → Below i outer
    → Every (IsClear (modules_from next qs)) (parts_blocks s in_process i n outer next qs)
parts_clear s in_process i n outer next no_parts less falls = tt
parts_clear s in_process i n outer next (more_parts (consts items) qs) less falls = parts_clear s in_process i
    (passed_part (scope_at s.blocks.scopes i) n (consts items)) outer (next + 0) qs (omega (arith, less)) falls
parts_clear s in_process i n outer next (more_parts (types items) qs) less falls = parts_clear s in_process i
    (passed_part (scope_at s.blocks.scopes i) n (types items)) outer (next + 0) qs (omega (arith, less)) falls
parts_clear s in_process i n outer next (more_parts (vars vs) qs) less falls = parts_clear s in_process i
    (passed_part (scope_at s.blocks.scopes i) n (vars vs)) outer (next + 0) qs (omega (arith, less)) falls
parts_clear s in_process i n outer next (more_parts (sub_part b) qs) less falls =
    let middle : ℕ = next + part_scopes (sub_part b) in
    every_append (IsClear (modules_from middle qs)) (part_blocks s in_process i n outer next (sub_part b)) _
    (every_map (Numbered next middle) (IsClear (modules_from middle qs)) (clear_later next middle middle qs (omega arith))
    (part_blocks s in_process i n outer next (sub_part b)) (part_numbered s in_process i n outer next (sub_part b) less falls))
    (parts_clear s in_process i (passed_part (scope_at s.blocks.scopes i) n (sub_part b)) outer middle qs (omega (arith, less)) falls)
parts_clear s in_process i n outer next (more_parts (process_part p) qs) less falls =
    let middle : ℕ = next + part_scopes (process_part p) in
    every_append (IsClear (modules_from middle qs)) (part_blocks s in_process i n outer next (process_part p)) _
    (every_map (Numbered next middle) (IsClear (modules_from middle qs)) (clear_later next middle middle qs (omega arith))
    (part_blocks s in_process i n outer next (process_part p))
    (part_numbered s in_process i n outer next (process_part p) less falls))
    (parts_clear s in_process i (passed_part (scope_at s.blocks.scopes i) n (process_part p)) outer middle qs (omega (arith, less)) falls)
parts_clear s in_process i n outer next (more_parts (monitor m) qs) less falls =
    let middle : ℕ = next + module_scopes m in
    let head : ModuleHead = record { scope = next; resource = false } in
    let further : ℕ = passed_part (scope_at s.blocks.scopes i) n (monitor m) in
    let some = opens m in
    let inside = module_numbered s i n outer next m less falls in
    every_append (IsClear (head ∷ modules_from middle qs)) (module_blocks s i n outer next m) (parts_blocks s in_process i further outer middle qs)
    (module_clear head (modules_from middle qs) (next + 1) middle (module_blocks s i n outer next m) (omega arith) inside
    (every_map (Numbered (next + 1) middle) (IsClear (modules_from middle qs)) (clear_later (next + 1) middle middle qs (omega arith))
    (module_blocks s i n outer next m) inside))
    (module_clear head (modules_from middle qs) middle (middle + parts_scopes qs) (parts_blocks s in_process i further outer middle qs) (omega (arith, some))
    (parts_numbered s in_process i further outer middle qs (omega (arith, less)) falls)
    (parts_clear s in_process i further outer middle qs (omega (arith, less)) falls))
parts_clear s in_process i n outer next (more_parts (resource m) qs) less falls =
    let middle : ℕ = next + module_scopes m in
    let head : ModuleHead = record { scope = next; resource = true } in
    let further : ℕ = passed_part (scope_at s.blocks.scopes i) n (resource m) in
    let some = opens m in
    let inside = module_numbered s i n outer next m less falls in
    every_append (IsClear (head ∷ modules_from middle qs)) (module_blocks s i n outer next m) (parts_blocks s in_process i further outer middle qs)
    (module_clear head (modules_from middle qs) (next + 1) middle (module_blocks s i n outer next m) (omega arith) inside
    (every_map (Numbered (next + 1) middle) (IsClear (modules_from middle qs)) (clear_later (next + 1) middle middle qs (omega arith))
    (module_blocks s i n outer next m) inside))
    (module_clear head (modules_from middle qs) middle (middle + parts_scopes qs) (parts_blocks s in_process i further outer middle qs) (omega (arith, some))
    (parts_numbered s in_process i further outer middle qs (omega (arith, less)) falls)
    (parts_clear s in_process i further outer middle qs (omega (arith, less)) falls))

none_at : (ms : List ModuleHead) (j : ℕ) → Away ms j → position_or_len (λ (m : ModuleHead). m.scope == j) ms ≡ length ms
none_at [] j h = refl
none_at (m ∷ ms) j h =
    ap (λ (c : Bool). if not c then 1 + position_or_len (λ (x : ModuleHead). x.scope == j) ms else 0) (is_other m.scope j h.0)
    ∙ ap (λ n. 1 + n) (none_at ms j h.1) ∙ omega arith

pub not_mains : (blocks : Blocks) (ms : List ModuleHead) (j : ℕ) → blocks.modules ≡ ms → Away ms j → 0 < j → is_mains blocks j ≡ false
not_mains blocks ms j is away some =
    ap (λ (r : Bool). r || is_some (module_of blocks j)) (is_other j 0 (λ e. omega (arith, e, some)))
    ∙ ap (λ (l : List ModuleHead). is_some (position (λ (m : ModuleHead). m.scope == j) l)) is
    ∙ ap (λ n. is_some (cond (nat_lt n (length ms)) (Some n) None)) (none_at ms j away)
    ∙ ap (λ (c : Bool). is_some (cond c (Some (length ms)) None)) (not_less (length ms))
  where
    not_less : (n : ℕ) → nat_lt n n ≡ false
    not_less n = grind arith
