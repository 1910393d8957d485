-- How each block is laid out, and what is true of each variable of a layout.
use Rattle.std.proofs.Common.{◌≡◌, ℕ, zero, suc, ◌+◌, ◌<◌, ◌||◌, ◌⊎◌, inl, inr, Bool, true, false, if◌then◌else◌, is_some, List, [], ◌∷◌, ◌++◌, length, take}
use Rattle.std.proofs.Common.{drop, map, get_or, Option, Some, None, refl, sym, ap, ◌∙◌, subst, arith}
use Rattle.std.specs.List.{All, slice_get}
use Rattle.std.proofs.lemmas.List.Elements.{All-nil, All-cons, All-head, All-tail}
use Rattle.pfc_tree.specs.Symbols.{Text}
use Rattle.pfc_tree.specs.trees.Stmts.{body}
use Rattle.pfc_tree.specs.trees.Parts.{PartTree, PartTrees, SubTree, ModuleTree, ProcessTree, consts, types, vars, sub_part, monitor, resource, process_part}
use Rattle.pfc_tree.specs.trees.Parts.{no_parts, more_parts, sub, the_module, process}
use Rattle.pfc_types.specs.Scopes.{Names, Level, scope_at}
use Rattle.pfc_types.specs.Blocks.{State}
use Rattle.pfc_types.specs.declared.types.TypeId.{TypeId}
use Rattle.pfc_types.specs.declared.heads.Formal.{Formal}
use Rattle.pfc_types.specs.declared.scope.Meaning.{Meaning}
use Rattle.pfc_types.specs.declared.scope.Meaning.TheVariants.{Variable}
use Rattle.pfc_types.specs.rules.Kinds.{variable_meaning}
use Rattle.pfc_types.specs.rules.FaultyNames.{all_typed}
use Rattle.pfc_types.specs.rules.Bodies.{level, passed, passed_part, passed_groups, passed_entries, part_scopes}
use Rattle.pfc_name_laws.specs.Reached.{formal_meaning}
use Rattle.pfc_semantics.specs.Layouts.{Layout, is_laid, laid_names, accepts_laid, process_layout, sub_layout_at}
use Rattle.pfc_semantics.specs.Programs.{Block, layout_cells, part_blocks, parts_blocks, sub_blocks, module_blocks, process_blocks}
use Rattle.pfc_image_laws.specs.Levels.{sees}
use Rattle.pfc_image_numbers.proofs.Rules.{and_left, and_right}
use Rattle.pfc_image_cells.proofs.Layouts.{AreLaid}
use Rattle.pfc_image_cells.proofs.Trees.{same_number}
use Rattle.pfc_call_laws.specs.Blocks.{AreLaidAs}
use Rattle.pfc_nesting_laws.proofs.Numbered.{Every, every_append}

-- ## Each block

-- The block is laid out as that of a sub, or as that of a process with its accepts, and has the cells of its variables. It sees its own scope.
pub record IsLaidBy (s : State) (b : Block) : Type 0 where
  pub sees_own : sees b.env.view b.scope ≡ true
  pub cells : b.cells ≡ layout_cells s.forms b.layout
  pub layout : (b.layout ≡ sub_layout_at s.blocks b.scope)
      ⊎ (b.layout ≡ process_layout (scope_at s.blocks.scopes b.scope) (take b.accepts (drop b.next s.blocks.scopes)))

mutual
  part_laid : (s : State) (in_process : Bool) (i n : ℕ) (outer : List Level) (next : ℕ) (q : PartTree)
      → Every (IsLaidBy s) (part_blocks s in_process i n outer next q)
  part_laid s in_process i n outer next (consts items) = tt
  part_laid s in_process i n outer next (types items) = tt
  part_laid s in_process i n outer next (vars vs) = tt
  part_laid s in_process i n outer next (sub_part b) = sub_laid s in_process i n outer next b
  part_laid s in_process i n outer next (monitor m) = module_laid s i n outer next m
  part_laid s in_process i n outer next (resource m) = module_laid s i n outer next m
  part_laid s in_process i n outer next (process_part p) = process_laid s i n outer next p

  pub parts_laid : (s : State) (in_process : Bool) (i n : ℕ) (outer : List Level) (next : ℕ) (qs : PartTrees)
      → Every (IsLaidBy s) (parts_blocks s in_process i n outer next qs)
  parts_laid s in_process i n outer next no_parts = tt
  parts_laid s in_process i n outer next (more_parts q qs) =
      let further = passed_part (scope_at s.blocks.scopes i) n q in
      every_append (IsLaidBy s) (part_blocks s in_process i n outer next q) (parts_blocks s in_process i further outer (next + part_scopes q) qs)
      (part_laid s in_process i n outer next q) (parts_laid s in_process i further outer (next + part_scopes q) qs)

  sub_laid : (s : State) (in_process : Bool) (i n : ℕ) (outer : List Level) (next : ℕ) (b : SubTree)
      → Every (IsLaidBy s) (sub_blocks s in_process i n outer next b)
  sub_laid s in_process i n outer next (sub x gs kind ps (body ss from to) p) =
      let around = level i (passed (scope_at s.blocks.scopes i) n x) ∷ outer in
      let count = passed_groups (scope_at s.blocks.scopes next) 0 gs in
      every_append (IsLaidBy s) (parts_blocks s in_process next count around (next + 1) ps) _ (parts_laid s in_process next count around (next + 1) ps)
      (record { sees_own = ap (λ (r : Bool). r || sees around next) (same_number next); cells = refl; layout = inl refl }, tt)

  module_laid : (s : State) (i n : ℕ) (outer : List Level) (next : ℕ) (m : ModuleTree) → Every (IsLaidBy s) (module_blocks s i n outer next m)
  module_laid s i n outer next (the_module x exports ps b last p) = parts_laid s false next 0 (level i n ∷ outer) (next + 1) ps

  process_laid : (s : State) (i n : ℕ) (outer : List Level) (next : ℕ) (p : ProcessTree) → Every (IsLaidBy s) (process_blocks s i n outer next p)
  process_laid s i n outer next (process many x gs es ps (body ss from to) p) =
      let own = scope_at s.blocks.scopes next in
      let around = level i (passed (scope_at s.blocks.scopes i) n x) ∷ outer in
      let count = passed_entries own (passed_groups own 0 gs) es in
      every_append (IsLaidBy s) (parts_blocks s true next count around (next + 1) ps) _ (parts_laid s true next count around (next + 1) ps)
      (record { sees_own = ap (λ (r : Bool). r || sees around next) (same_number next); cells = refl; layout = inr refl }, tt)

-- ## Each variable

one_same : (x y : Meaning) → Some x ≡ Some y → x ≡ y
one_same x y e = cc

pub all_take : (P : Text × Meaning → Type 0) (n : ℕ) (names : Names) → All P names → All P (take n names)
all_take P zero names h = All-nil P
all_take P (suc n) [] h = All-nil P
all_take P (suc n) (x ∷ names) h = All-cons P x (take n names) (All-head P x names h) (all_take P n names (All-tail P x names h))

pub all_drop : (P : Text × Meaning → Type 0) (n : ℕ) (names : Names) → All P names → All P (drop n names)
all_drop P zero names h = h
all_drop P (suc n) [] h = All-nil P
all_drop P (suc n) (x ∷ names) h = all_drop P n names (All-tail P x names h)

pub all_both : (P Q R : Text × Meaning → Type 0) → ((x : Text × Meaning) → P x → Q x → R x) → (names : Names) → All P names → All Q names → All R names
all_both P Q R f [] h k = All-nil R
all_both P Q R f (x ∷ names) h k =
    All-cons R x names (f x (All-head P x names h) (All-head Q x names k)) (all_both P Q R f names (All-tail P x names h) (All-tail Q x names k))

-- what is true of each name is true of each variable
pub laid_true : (P : Meaning → Type 0) (names : Names) (k : ℕ) (m : Meaning) → All (λ (x : Text × Meaning). P x.1) names
    → slice_get (laid_names names) k ≡ Some m → P m
laid_true P [] k m h e = absurd (cc)
laid_true P (x ∷ names) k m h e = by k (is_laid x.1) e (λ j q. laid_true P names j m (All-tail (λ (y : Text × Meaning). P y.1) x names h) q)
  where
    by : (j : ℕ) (r : Bool) → slice_get (if r then x.1 ∷ laid_names names else laid_names names) j ≡ Some m
        → ((i : ℕ) → slice_get (laid_names names) i ≡ Some m → P m) → P m
    by j false e rest = rest j e
    by zero true e rest = subst P (one_same x.1 m e) (All-head (λ (y : Text × Meaning). P y.1) x names h)
    by (suc j) true e rest = rest j e

pub laid_at : (l : Layout) (k : ℕ) (m : Meaning) → AreLaid l → slice_get l k ≡ Some m → is_laid m ≡ true
laid_at [] k m h e = absurd (cc)
laid_at (x ∷ l) zero m h e = ap is_laid (sym (one_same x m e)) ∙ h.0
laid_at (x ∷ l) (suc k) m h e = laid_at l k m h.1 e

-- in one of two layouts, one behind the other
pub in_two : (a b : Layout) (k : ℕ) (m : Meaning) → slice_get (a ++ b) k ≡ Some m
    → (slice_get a k ≡ Some m) ⊎ ((j : ℕ) × (k ≡ length a + j) × (slice_get b j ≡ Some m))
in_two [] b k m e = inr (k, omega arith, e)
in_two (x ∷ a) b zero m e = inl e
in_two (x ∷ a) b (suc k) m e = by (in_two a b k m e)
  where
    by : (slice_get a k ≡ Some m) ⊎ ((j : ℕ) × (k ≡ length a + j) × (slice_get b j ≡ Some m))
        → (slice_get a k ≡ Some m) ⊎ ((j : ℕ) × (suc k ≡ suc (length a) + j) × (slice_get b j ≡ Some m))
    by (inl h) = inl h
    by (inr h) = let at = h.1 in inr (h.0, omega (arith, at), h.2)

pub behind_two : (a b : Layout) (k : ℕ) (m : Meaning) → slice_get b k ≡ Some m → slice_get (a ++ b) (length a + k) ≡ Some m
behind_two [] b k m e = let same : k ≡ 0 + k = omega arith in subst (λ (n : ℕ). slice_get b n ≡ Some m) same e
behind_two (x ∷ a) b k m e =
    let same : suc (length a + k) ≡ suc (length a) + k = omega arith in
    subst (λ (n : ℕ). slice_get (x ∷ (a ++ b)) n ≡ Some m) same (behind_two a b k m e)

-- what is true of each name of each accept is true of each of their variables
pub accepts_true : (P : Meaning → Type 0) (accepts : List Names) (k : ℕ) (m : Meaning)
    → ((j : ℕ) → j < length accepts → All (λ (x : Text × Meaning). P x.1) (get_or accepts j [])) → slice_get (accepts_laid accepts) k ≡ Some m → P m
accepts_true P [] k m h e = absurd (cc)
accepts_true P (names ∷ accepts) k m h e =
    by (in_two (laid_names names) (accepts_laid accepts) k m e)
    (λ i q. accepts_true P accepts i m (λ j below. h (suc j) (omega (arith, below))) q)
  where
    by : (slice_get (laid_names names) k ≡ Some m) ⊎ ((j : ℕ) × (k ≡ length (laid_names names) + j) × (slice_get (accepts_laid accepts) j ≡ Some m))
        → ((i : ℕ) → slice_get (accepts_laid accepts) i ≡ Some m → P m) → P m
    by (inl e) rest = laid_true P names k m (h 0 (omega arith)) e
    by (inr e) rest = rest e.0 e.2

-- ## Parameters

pub are_laid_as : (formals : List Formal) → all_typed formals ≡ true → AreLaidAs formals (map formal_meaning formals)
are_laid_as [] h = tt
are_laid_as (f ∷ formals) h =
    (one f.t f.reference (and_left (is_some f.t) (all_typed formals) h), are_laid_as formals (and_right (is_some f.t) (all_typed formals) h))
  where
    one : (o : Option TypeId) (r : Bool) → is_some o ≡ true → (t : TypeId) × (o ≡ Some t) × (variable_meaning r o ≡ Variable t r)
    one None r h = absurd (cc)
    one (Some t) r h = (t, refl, refl)
