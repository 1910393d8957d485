-- What a write leaves as it was, and what the cell of a reference parameter holds.
use Rattle.std.proofs.Common.{◌≡◌, ℕ, ◌+◌, ◌≤◌, true, ℤ, pos, List, [], ◌∷◌, ◌++◌, length, take, drop, get_or, slice_get, Option, Some, refl, sym, ap, ap₂, ◌∙◌}
use Rattle.std.proofs.Common.{subst, arith, length-append, append_assoc, ◌⊎◌, inl, inr}
use Rattle.pfc_types.specs.declared.types.TypeId.{TypeId}
use Rattle.pfc_types.specs.declared.scope.Meaning.TheVariants.{Variable}
use Rattle.pfc_semantics.specs.Programs.{Program}
use Rattle.pfc_semantics.specs.Values.{Value, Location, ordinal, points}
use Rattle.pfc_semantics.specs.Store.{Store, values_in, value_at}
use Rattle.pfc_translation.specs.Sites.{type_cells}
use Rattle.pfc_stacks.specs.declared.refs.Ref.{Ref}
use Rattle.pfc_stacks.specs.Refs.{word_of}
use Rattle.pfc_stacks.specs.Stacks.{Stacks, own_cells, cells_of, cell_at, cells_at, written}
use Rattle.pfc_cells.specs.Shapes.{AreCounted, Fits, words_of}
use Rattle.pfc_cells.specs.Homes.{Home, Homes, Lies, AreApart, SharesNone, layout_at, cells_before, variable_at}
use Rattle.pfc_cells.specs.Memory.{Entry, Entries, CellsAre, IsAmong, Lives, MemoryIs, Refers, to_nothing, to_location, is_pointer}
use Rattle.pfc_cells.proofs.Lists.{read_beside, item_between}
use Rattle.pfc_cells.proofs.Numbers.{same, other, same_or_not}
use Rattle.pfc_cells.proofs.Words.{words_fit}
use Rattle.pfc_cells.proofs.Variables.{variable_among}
use Rattle.pfc_cells.proofs.Blocks.{cells_among}
use Rattle.pfc_cells.proofs.Reading.{found, there, written_here, written_there, written_cells, on_its_process}
use Rattle.pfc_cells.proofs.Apart.{share_none}

-- who is apart seen from the other side
beside : (o n p m b : ℕ) → b ≡ o → (o + n ≤ p) ⊎ (p + m ≤ o) → (p + m ≤ b) ⊎ (b + n ≤ p)
beside o n p m b e (inl h) = inr (omega (arith, e, h))
beside o n p m b e (inr h) = inl (omega (arith, e, h))

module _ (g : Program) (sound : AreCounted g.state.forms) (homes : Homes) (entries : Entries) (store : Store) (stacks : Stacks) where
  -- cells that the written location has not
  pub cells_beside :
      (l : Location) (t : Option TypeId) (r : Ref) (v : Value) (s : Ref) (n : ℕ) → MemoryIs g homes entries store stacks
      → Lives entries l.activation → Lies g homes l t r → Fits g.state.forms t v
      → SharesNone r (type_cells g.state.forms t) s n → cells_at (written stacks r (words_of v)) s n ≡ cells_at stacks s n
  cells_beside l t r v s n memory lives lies fit none =
      elim (same_or_not s.process r.process) [
        | other apart ↦ ap (λ cells. take n (drop s.cell cells)) (written_there stacks r (words_of v) s.process apart)
        | same equal ↦
            let f = found g sound homes entries store stacks l t r memory lives lies in
            let old : length (words_of (value_at store l)) ≡ type_cells g.state.forms t = words_fit g.state.forms sound t (value_at store l) f.is in
            let new : length (words_of v) ≡ type_cells g.state.forms t = words_fit g.state.forms sound t v fit in
            let now : cells_of (written stacks r (words_of v)) s.process ≡ f.before ++ (words_of v ++ f.after) =
            ap (λ p. cells_of (written stacks r (words_of v)) p) equal
            ∙ written_here stacks r (words_of v) (there g sound homes entries store stacks l t r memory lives lies)
            ∙ sym (written_cells g sound homes entries store stacks l t r v f fit) in
            let was : cells_of stacks s.process ≡ f.before ++ (words_of (value_at store l) ++ f.after) = ap (λ p. cells_of stacks p) equal ∙ f.reads in
            ap (λ cells. take n (drop s.cell cells)) now
            ∙ read_beside f.before (words_of (value_at store l)) (words_of v) f.after s.cell n (new ∙ sym old)
            (subst (λ z. (s.cell + n ≤ length f.before) ⊎ (length f.before + z ≤ s.cell)) (sym old) (beside r.cell
            (type_cells g.state.forms t) s.cell n (length f.before) f.place (none (sym equal))))
            ∙ sym (ap (λ cells. take n (drop s.cell cells)) was)
      ]

  pub keeps :
      (l m : Location) (t u : Option TypeId) (r s : Ref) (v : Value) → MemoryIs g homes entries store stacks → Lives entries l.activation
      → Lives entries m.activation
      → Lies g homes l t r → Lies g homes m u s → Fits g.state.forms t v → AreApart l m
      → cells_at (written stacks r (words_of v)) s (type_cells g.state.forms u) ≡ cells_at stacks s (type_cells g.state.forms u)
  keeps l m t u r s v memory one two x y fit apart =
      cells_beside l t r v s (type_cells g.state.forms u) memory one x fit (share_none g sound homes entries store stacks l m t u r s memory one two x y apart)

-- ## Homes

module _ (g : Program) (homes : Homes) (store : Store) (q : ℕ) where
  among_homes : (entries : List Entry) (cells : List ℤ) (a : ℕ) → IsAmong a entries → CellsAre g homes store q entries cells
      → (home : Home) × (homes a ≡ Some home) × (home.process ≡ q)
  among_homes [] cells a among h = absurd among
  among_homes (e ∷ below) cells a (inl equal) h = (h.2.home, ap homes (sym equal) ∙ h.2.at, h.2.process)
  among_homes (e ∷ below) cells a (inr deeper) h = among_homes below h.0 a deeper h.1

-- a living activation has a home, on the stack of its process
pub has_home : (g : Program) (homes : Homes) (entries : Entries) (store : Store) (stacks : Stacks) (q a : ℕ)
    → MemoryIs g homes entries store stacks → IsAmong a (entries q)
    → (home : Home) × (homes a ≡ Some home) × (home.process ≡ q)
has_home g homes entries store stacks q a memory among = among_homes g homes store q (entries q) (cells_of stacks q) a among
    (cells_among g homes store q (entries q) (cells_of stacks q) a among (memory q))

-- ## Reference parameters

-- what stands for a location
refers_to : (g : Program) (homes : Homes) (t : TypeId) (v : Value) (w : ℤ) (l : Location) → v ≡ points l → Refers g homes t v w
    → (r : Ref) × Lies g homes l (Some t) r × (w ≡ word_of r)
refers_to g homes t v w l e (to_nothing v' h) = absurd (let p : is_pointer v ≡ true = ap is_pointer e in cc)
refers_to g homes t v w l e (to_location m r h) = let same_one : m ≡ l = cc in (r, subst (λ (x : Location). Lies g homes x (Some t) r) same_one h, refl)

module _ (g : Program) (sound : AreCounted g.state.forms) (homes : Homes) (entries : Entries) (store : Store) (stacks : Stacks) where
  pub reference_held :
      (a k q : ℕ) (home : Home) (t : TypeId) (l : Location) → MemoryIs g homes entries store stacks → IsAmong a (entries q) → homes a ≡ Some home
      → slice_get (layout_at g home) k ≡ Some (Variable t true) → get_or (values_in store a) k (ordinal (pos 0)) ≡ points l
      → (r : Ref) × Lies g homes l (Some t) r × (cell_at stacks (variable_at g home k) ≡ word_of r)
  reference_held a k q home t l memory among at laid value =
      let on = on_its_process g sound homes entries store stacks a home q at memory among in
      let x = variable_among g sound homes (layout_at g home) (values_in store a) on.block k (Variable t true) on.holds laid in
      let to = refers_to g homes t (get_or (values_in store a) k (ordinal (pos 0))) x.held.0 l value x.held.2 in
      let place : length (on.before ++ x.before) ≡ home.cell + own_cells + cells_before g.state.forms
      (layout_at g home) k = length-append on.before x.before ∙ ap₂ (λ n m. n + m) on.place x.place in
      let cells : cells_of stacks home.process ≡ (on.before ++ x.before) ++ (x.held.0 ∷ (x.after ++ on.after)) =
      on.reads ∙ ap (λ ws. on.before ++ (ws ++ on.after)) x.reads
      ∙ ap (λ ws. on.before ++ ((x.before ++ (ws ++ x.after)) ++ on.after)) x.held.1
      ∙ ap (λ ws. on.before ++ ws) (append_assoc x.before (x.held.0 ∷ x.after) on.after)
      ∙ sym (append_assoc on.before x.before (x.held.0 ∷ (x.after ++ on.after))) in (
        to.0,
        to.1,
        ap (λ ws. get_or ws (home.cell + own_cells + cells_before g.state.forms (layout_at g home) k) (pos 0)) cells
            ∙ item_between (on.before ++ x.before) x.held.0 (x.after ++ on.after) (home.cell + own_cells + cells_before g.state.forms
            (layout_at g home) k) (pos 0) place ∙ to.2,
      )
