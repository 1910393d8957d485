-- The blocks of a program are told apart by their scopes, and the scopes in view fall.
use Rattle.std.proofs.Common.{◌≡◌, ℕ, zero, suc, ◌+◌, ◌<◌, ◌≤◌, Bool, true, false, ◌&&◌, if◌then◌else◌, List, [], ◌∷◌, ◌++◌, slice_get, Some, refl, sym, ap}
use Rattle.std.proofs.Common.{◌∙◌, subst, arith}
use Rattle.std.specs.Prelude.{nat_lt, nat_le}
use Rattle.pfc_tree.specs.trees.Stmts.{body}
use Rattle.pfc_tree.specs.trees.Parts.{PartTree, PartTrees, SubTree, ModuleTree, ProcessTree, consts, types, vars, sub_part, monitor, resource, process_part}
use Rattle.pfc_tree.specs.trees.Parts.{no_parts, more_parts, sub, the_module, process}
use Rattle.pfc_types.specs.Scopes.{Level, scope_at}
use Rattle.pfc_types.specs.Blocks.{Blocks, State}
use Rattle.pfc_types.specs.rules.Statements.{body_scopes}
use Rattle.pfc_types.specs.rules.Bodies.{level, passed, passed_part, passed_groups, passed_entries, part_scopes, parts_scopes, sub_scopes, module_scopes}
use Rattle.pfc_types.specs.rules.Bodies.{process_scopes}
use Rattle.pfc_semantics.specs.Programs.{Block, part_blocks, parts_blocks, sub_blocks, module_blocks, process_blocks}
use Rattle.pfc_translation.specs.Sites.{is_mains, linked, is_accept}
use Rattle.pfc_nesting_laws.specs.Nesting.{AreOnce}

some_same : {A : Type 0} (x y : A) → Some x ≡ Some y → x ≡ y
some_same x y h = cc

-- ## Of each block

abbrev pub Every : (Block → Type 0) → List Block → Type 0
Every P [] = Unit {0}
Every P (b ∷ bs) = P b × Every P bs

pub every_append : (P : Block → Type 0) (xs ys : List Block) → Every P xs → Every P ys → Every P (xs ++ ys)
every_append P [] ys h k = k
every_append P (x ∷ xs) ys h k = (h.0, every_append P xs ys h.1 k)

pub every_map : (P Q : Block → Type 0) → ((b : Block) → P b → Q b) → (xs : List Block) → Every P xs → Every Q xs
every_map P Q f [] h = tt
every_map P Q f (x ∷ xs) h = (f x h.0, every_map P Q f xs h.1)

pub every_at : (P : Block → Type 0) (xs : List Block) (k : ℕ) (b : Block) → Every P xs → slice_get xs k ≡ Some b → P b
every_at P [] k b h at = absurd (cc)
every_at P (x ∷ xs) zero b h at = subst P (some_same x b at) h.0
every_at P (x ∷ xs) (suc k) b h at = every_at P xs k b h.1 at

-- ## Scopes that fall

-- each is below a number and the ones before it
abbrev pub Below : ℕ → List Level → Type 0
Below n [] = Unit {0}
Below n (l ∷ view) = (l.scope < n) × Below l.scope view

pub linked_below : (blocks : Blocks) (n : ℕ) (view : List Level) (k i : ℕ) → Below n view → slice_get (linked blocks view) k ≡ Some i → i < n
linked_below blocks n [] k i h at = absurd (cc)
linked_below blocks n (l ∷ view) k i h at = by (λ j there. linked_below blocks l.scope view j i h.1 there) (is_mains blocks l.scope) refl
  where
    inside : ((j : ℕ) → slice_get (linked blocks view) j ≡ Some i → i < l.scope) → (j : ℕ) → slice_get (l.scope ∷ linked blocks view) j ≡ Some i → i < n
    inside further zero there = (let low = h.0 in let same : l.scope ≡ i = some_same l.scope i there in omega (arith, low, same))
    inside further (suc j) there = (let low = h.0 in let less = further j there in omega (arith, low, less))

    by : ((j : ℕ) → slice_get (linked blocks view) j ≡ Some i → i < l.scope) → (c : Bool) → is_mains blocks l.scope ≡ c → i < n
    by further true is = absurd (let there : slice_get [] k ≡ Some i = ap (λ (d : Bool). slice_get (if d then [] else l.scope ∷ linked blocks view) k)
        (sym is) ∙ at in cc)
    by further false is = inside further k (ap (λ (d : Bool). slice_get (if d then [] else l.scope ∷ linked blocks view) k) (sym is) ∙ at)

pub linked_once : (blocks : Blocks) (n : ℕ) (view : List Level) → Below n view → AreOnce (linked blocks view)
linked_once blocks n [] h i j k x y = absurd (cc)
linked_once blocks n (l ∷ view) h i j k x y = by (λ a b p q. linked_once blocks l.scope view h.1 i a b p q)
    (λ a p. linked_below blocks l.scope view a i h.1 p) (is_mains blocks l.scope) refl
  where
    inside :
        ((a b : ℕ) → slice_get (linked blocks view) a ≡ Some i → slice_get (linked blocks view) b ≡ Some i → a ≡ b)
        → ((a : ℕ) → slice_get (linked blocks view) a ≡ Some i → i < l.scope) → (a b : ℕ)
        → slice_get (l.scope ∷ linked blocks view) a ≡ Some i → slice_get (l.scope ∷ linked blocks view) b ≡ Some i → a ≡ b
    inside once low zero zero p q = refl
    inside once low zero (suc b) p q = absurd (let same : l.scope ≡ i = some_same l.scope i p in let less = low b q in omega (arith, same, less))
    inside once low (suc a) zero p q = absurd (let same : l.scope ≡ i = some_same l.scope i q in let less = low a p in omega (arith, same, less))
    inside once low (suc a) (suc b) p q = ap suc (once a b p q)

    by :
        ((a b : ℕ) → slice_get (linked blocks view) a ≡ Some i → slice_get (linked blocks view) b ≡ Some i → a ≡ b)
        → ((a : ℕ) → slice_get (linked blocks view) a ≡ Some i → i < l.scope) → (c : Bool)
        → is_mains blocks l.scope ≡ c → j ≡ k
    by once low true is = absurd (let there : slice_get [] j ≡ Some i = ap (λ (d : Bool). slice_get (if d then [] else l.scope ∷ linked blocks view) j)
        (sym is) ∙ x in cc)
    by once low false is =
        inside once low j k (ap (λ (d : Bool). slice_get (if d then [] else l.scope ∷ linked blocks view) j) (sym is) ∙ x)
        (ap (λ (d : Bool). slice_get (if d then [] else l.scope ∷ linked blocks view) k) (sym is) ∙ y)

-- ## The numbers of a block's scopes

-- its own is from one number on below another, those in view fall from it, and those of its accepts lie above it
pub record Numbered (from to : ℕ) (b : Block) : Type 0 where
  pub low : from ≤ b.scope
  pub high : b.scope < to
  pub below : Below (b.scope + 1) b.env.view
  pub accepts : (i : ℕ) → is_accept b i ≡ true → (b.scope < i) × (i < to)

widen : (from to wide_from wide_to : ℕ) → wide_from ≤ from → to ≤ wide_to → (b : Block) → Numbered from to b → Numbered wide_from wide_to b
widen from to wide_from wide_to u v b h =
    record {
      low = (let x = h.low in omega (arith, x, u));
      high = (let x = h.high in omega (arith, x, v));
      below = h.below;
      accepts = λ i is. (let both = h.accepts i is in let x : b.scope < i = both.0 in let y : i < to = both.1 in (x, omega (arith, y, v)));
    }

no_accept : (n j : ℕ) → (nat_le n j && nat_lt j (n + 0)) ≡ true → ⊥
no_accept n j h = grind (arith, h)

accept_between : (n k j : ℕ) → (nat_le n j && nat_lt j (n + k)) ≡ true → (n ≤ j) × (j < n + k)
accept_between n k j h = (grind (arith, h), grind (arith, h))

mutual
  pub part_numbered : (s : State) (in_process : Bool) (i n : ℕ) (outer : List Level) (next : ℕ) (q : PartTree) → i < next → Below i outer
      → Every (Numbered next (next + part_scopes q)) (part_blocks s in_process i n outer next q)
  part_numbered s in_process i n outer next (consts items) less falls = tt
  part_numbered s in_process i n outer next (types items) less falls = tt
  part_numbered s in_process i n outer next (vars vs) less falls = tt
  part_numbered s in_process i n outer next (sub_part b) less falls = sub_numbered s in_process i n outer next b less falls
  part_numbered s in_process i n outer next (monitor m) less falls =
      every_map (Numbered (next + 1) (next + module_scopes m)) (Numbered next (next + module_scopes m))
      (widen (next + 1) (next + module_scopes m) next (next + module_scopes m) (omega arith) (omega arith))
      (module_blocks s i n outer next m) (module_numbered s i n outer next m less falls)
  part_numbered s in_process i n outer next (resource m) less falls =
      every_map (Numbered (next + 1) (next + module_scopes m)) (Numbered next (next + module_scopes m))
      (widen (next + 1) (next + module_scopes m) next (next + module_scopes m) (omega arith) (omega arith))
      (module_blocks s i n outer next m) (module_numbered s i n outer next m less falls)
  part_numbered s in_process i n outer next (process_part p) less falls = process_numbered s i n outer next p less falls

  pub parts_numbered : (s : State) (in_process : Bool) (i n : ℕ) (outer : List Level) (next : ℕ) (qs : PartTrees) → i < next → Below i outer
      → Every (Numbered next (next + parts_scopes qs)) (parts_blocks s in_process i n outer next qs)
  parts_numbered s in_process i n outer next no_parts less falls = tt
  parts_numbered s in_process i n outer next (more_parts q qs) less falls =
      let further : ℕ = passed_part (scope_at s.blocks.scopes i) n q in
      every_append (Numbered next (next + parts_scopes (more_parts q qs))) (part_blocks s in_process i n outer next q)
      (parts_blocks s in_process i further outer (next + part_scopes q) qs)
      (every_map (Numbered next (next + part_scopes q)) (Numbered next (next + parts_scopes (more_parts q qs)))
      (widen next (next + part_scopes q) next (next + parts_scopes (more_parts q qs)) (omega arith) (omega arith))
      (part_blocks s in_process i n outer next q) (part_numbered s in_process i n outer next q less falls))
      (every_map (Numbered (next + part_scopes q) ((next + part_scopes q) + parts_scopes qs)) (Numbered next (next + parts_scopes (more_parts q qs)))
      (widen (next + part_scopes q) ((next + part_scopes q) + parts_scopes qs) next (next + parts_scopes (more_parts q qs)) (omega arith) (omega arith))
      (parts_blocks s in_process i further outer (next + part_scopes q) qs) (parts_numbered s in_process i further outer (next + part_scopes q) qs
      (omega (arith, less)) falls))

  sub_numbered : (s : State) (in_process : Bool) (i n : ℕ) (outer : List Level) (next : ℕ) (b : SubTree) → i < next → Below i outer
      → Every (Numbered next (next + sub_scopes b)) (sub_blocks s in_process i n outer next b)
  sub_numbered s in_process i n outer next (sub x gs kind ps (body ss from to) p) less falls =
      let count : ℕ = passed_groups (scope_at s.blocks.scopes next) 0 gs in
      let around : List Level = level i (passed (scope_at s.blocks.scopes i) n x) ∷ outer in
      let high : ℕ = next + sub_scopes (sub x gs kind ps (body ss from to) p) in
      every_append (Numbered next high) (parts_blocks s in_process next count around (next + 1) ps) _
      (every_map (Numbered (next + 1) ((next + 1) + parts_scopes ps)) (Numbered next high)
      (widen (next + 1) ((next + 1) + parts_scopes ps) next high (omega arith) (omega arith))
      (parts_blocks s in_process next count around (next + 1) ps) (parts_numbered s in_process next count around (next + 1) ps (omega arith) (less, falls))) (
        record {
          low = omega arith;
          high = omega arith;
          below = (omega arith, (less, falls));
          accepts = λ j h. absurd
              (no_accept ((next + 1) + parts_scopes ps) j h);
        },
        tt,
      )

  pub module_numbered : (s : State) (i n : ℕ) (outer : List Level) (next : ℕ) (m : ModuleTree) → i < next → Below i outer
      → Every (Numbered (next + 1) (next + module_scopes m)) (module_blocks s i n outer next m)
  module_numbered s i n outer next (the_module x exports ps b last p) less falls =
      every_map (Numbered (next + 1) ((next + 1) + parts_scopes ps)) (Numbered (next + 1) (next + module_scopes (the_module x exports ps b last p)))
      (widen (next + 1) ((next + 1) + parts_scopes ps) (next + 1) (next + module_scopes (the_module x exports ps b last p)) (omega arith) (omega arith))
      (parts_blocks s false next 0 (level i n ∷ outer) (next + 1) ps) (parts_numbered s false next 0 (level i n ∷ outer) (next + 1) ps (omega arith)
      (less, falls))

  process_numbered : (s : State) (i n : ℕ) (outer : List Level) (next : ℕ) (p : ProcessTree) → i < next → Below i outer
      → Every (Numbered next (next + process_scopes p)) (process_blocks s i n outer next p)
  process_numbered s i n outer next (process many x gs es ps (body ss from to) p) less falls =
      let own = scope_at s.blocks.scopes next in
      let count : ℕ = passed_entries own (passed_groups own 0 gs) es in
      let around : List Level = level i (passed (scope_at s.blocks.scopes i) n x) ∷ outer in
      let high : ℕ = next + process_scopes (process many x gs es ps (body ss from to) p) in
      every_append (Numbered next high) (parts_blocks s true next count around (next + 1) ps) _
      (every_map (Numbered (next + 1) ((next + 1) + parts_scopes ps)) (Numbered next high)
      (widen (next + 1) ((next + 1) + parts_scopes ps) next high (omega arith) (omega arith))
      (parts_blocks s true next count around (next + 1) ps) (parts_numbered s true next count around (next + 1) ps (omega arith) (less, falls))) (
        record {
          low = omega arith;
          high = omega arith;
          below = (omega arith, (less, falls));
          accepts = λ j h. (
              let both = accept_between ((next + 1) + parts_scopes ps) (body_scopes (body ss from to)) j h in
              let x : (next + 1) + parts_scopes ps ≤ j = both.0 in
              let y : j < ((next + 1) + parts_scopes ps) + body_scopes (body ss from to) = both.1 in
              (omega (arith, x), omega (arith, y)));
        },
        tt,
      )
