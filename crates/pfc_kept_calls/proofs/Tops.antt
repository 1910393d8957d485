-- The innermost activation of a process, and what the cells of all are.
use Rattle.std.proofs.Common.{◌≡◌, ℕ, suc, ◌+◌, ◌*◌, ◌^◌, ◌≤◌, ℤ, pos, List, [], ◌∷◌, ◌++◌, length, Some, length-append, refl, sym, ap, ◌∙◌}
use Rattle.std.proofs.Common.{arith}
use Rattle.pfc_world.specs.Tables.{Table}
use Rattle.pfc_semantics.specs.Programs.{Program, layout_cells}
use Rattle.pfc_semantics.specs.Store.{Store, values_in}
use Rattle.pfc_semantics.specs.Configurations.{Activation}
use Rattle.pfc_stacks.specs.Refs.{word_of}
use Rattle.pfc_cells.specs.Shapes.{AreCounted}
use Rattle.pfc_cells.specs.Homes.{Home, Homes, layout_at}
use Rattle.pfc_cells.specs.Memory.{Entry, Entries, CellsAre}
use Rattle.pfc_cells.proofs.Blocks.{block_length}
use Rattle.pfc_machines.specs.Communications.{Communicating}
use Rattle.pfc_representation.specs.Levels.{Facts, LivingLevel}
use Rattle.pfc_representation.specs.Callers.{Linkage, StandsFor, AreCallers}

-- the innermost
pub record HasTop (facts : Facts) (homes : Homes) (store : Store) (p : ℕ) (level : LivingLevel) (w : ℤ) (xs : List Activation)
    (es : List Entry) : Type 0 where
  pub top : Activation
  pub rest : List Activation
  pub entry : Entry
  pub below : List Entry
  pub activations : xs ≡ top ∷ rest
  pub entries : es ≡ entry ∷ below
  pub own : Linkage
  pub stands : StandsFor facts homes store p top entry w own level
  pub count : length xs ≡ length es

module _ (facts : Facts) (homes : Homes) (entries : Entries) (store : Store) (table : Table) (p room : ℕ) where
  as_many : (level : LivingLevel) (w : ℤ) (latest : Communicating) (xs : List Activation) (es : List Entry)
      → AreCallers facts homes entries store table p room level w latest xs es
      → length xs ≡ length es
  as_many level w latest [] es is = absurd is
  as_many level w latest (a ∷ xs) [] is = absurd is
  as_many level w latest (a ∷ []) (e ∷ []) is = refl
  as_many level w latest (a ∷ []) (e ∷ f ∷ es) is = absurd is
  as_many level w latest (a ∷ b ∷ xs) (e ∷ []) is = absurd is
  as_many level w latest (a ∷ b ∷ xs) (e ∷ f ∷ es) (outer, v, earlier, called, at, others) = ap suc (as_many outer v earlier (b ∷ xs) (f ∷ es) others)

  pub top_of : (level : LivingLevel) (w : ℤ) (latest : Communicating) (xs : List Activation) (es : List Entry)
      → AreCallers facts homes entries store table p room level w latest xs es
      → HasTop facts homes store p level w xs es
  top_of level w latest [] es is = absurd is
  top_of level w latest (a ∷ xs) [] is = absurd is
  top_of level w latest (a ∷ [])
      (e ∷ []) is = record { top = a; rest = []; entry = e; below = []; activations = refl; entries = refl; own = is.own; stands = is.stands; count = refl }
  top_of level w latest (a ∷ []) (e ∷ f ∷ es) is = absurd is
  top_of level w latest (a ∷ b ∷ xs) (e ∷ []) is = absurd is
  top_of level w latest (a ∷ b ∷ xs) (e ∷ f ∷ es) is = record {
    top = a;
    rest = b ∷ xs;
    entry = e;
    below = f ∷ es;
    activations = refl;
    entries = refl;
    own = is.3.own;
    stands = is.3.stands;
    count = as_many level w latest (a ∷ b ∷ xs) (e ∷ f ∷ es) is;
  }

-- ## Cells

-- each activation has eight cells of its own at least
pub cells_of_all : (g : Program) (homes : Homes) (store : Store) (q : ℕ) (es : List Entry) (cells : List ℤ) → CellsAre g homes store q es cells
    → 8 * length es ≤ length cells
cells_of_all g homes store q [] cells h = omega arith
cells_of_all g homes store q (e ∷ es) cells (lower, inner, stands) =
    let before = cells_of_all g homes store q es lower inner in
    let size : length cells ≡ length lower + length (e.own ++ stands.block) = ap (λ (l : List ℤ). length l) stands.is ∙ length-append lower
    (e.own ++ stands.block) in
    let more : length (e.own ++ stands.block) ≡ length e.own + length stands.block = length-append e.own stands.block in
    let own = stands.size in
    omega (arith, before, size, more, own)

-- The words of two places of the same process are those of different cells.
pub same_cell : (p a b : ℕ) → word_of (record { process = p; cell = a }) ≡ word_of (record { process = p; cell = b }) → a ≡ b
same_cell p a b h =
    let both : p * 2 ^ 32 + a ≡ p * 2 ^ 32 + b = (let e : pos (p * 2 ^ 32 + a) ≡ pos (p * 2 ^ 32 + b) = h in cc) in
    omega (arith, both)

-- They end with those of the innermost.
pub cells_of_top : (g : Program) → AreCounted g.state.forms → (homes : Homes) (store : Store) (q : ℕ) (e : Entry) (es : List Entry) (cells : List ℤ)
    → CellsAre g homes store q (e ∷ es) cells → (home : Home)
    → homes e.activation ≡ Some home → length cells ≡ home.cell + (8 + layout_cells g.state.forms (layout_at g home))
cells_of_top g counted homes store q e es cells (lower, inner, stands) home at =
    let same : stands.home ≡ home = (let both : Some stands.home ≡ Some home = sym stands.at ∙ at in cc) in
    let size : length cells ≡ length lower + length (e.own ++ stands.block) = ap (λ (l : List ℤ). length l) stands.is ∙ length-append lower
    (e.own ++ stands.block) in
    let more : length (e.own ++ stands.block) ≡ length e.own + length stands.block = length-append e.own stands.block in
    let block : length stands.block ≡ layout_cells g.state.forms (layout_at g home) = block_length g counted homes (layout_at g stands.home)
    (values_in store e.activation) stands.block stands.holds
    ∙ ap (λ (h : Home). layout_cells g.state.forms (layout_at g h)) same in
    let place : length lower ≡ home.cell = sym stands.place ∙ ap (λ (h : Home). h.cell) same in
    let own = stands.size in
    omega (arith, size, more, block, place, own)
