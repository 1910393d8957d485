-- The own cells of a living activation among those of its process.
use Rattle.std.proofs.Common.{◌≡◌, ℕ, ℤ, List, [], ◌∷◌, ◌++◌, length, Some, refl, sym, ap, ◌∙◌, append_assoc, inl, inr}
use Rattle.pfc_semantics.specs.Programs.{Program}
use Rattle.pfc_semantics.specs.Store.{Store}
use Rattle.pfc_stacks.specs.Stacks.{Stacks, own_cells, cells_of}
use Rattle.pfc_cells.specs.Homes.{Home, Homes}
use Rattle.pfc_cells.specs.Memory.{Entry, Entries, StandsOver, CellsAre, ProcessIs, IsAmong, Lives, MemoryIs}
use Rattle.pfc_views.specs.Views.{IsLiving, latest, earlier}

pub is_among : (e : Entry) (entries : List Entry) → IsLiving e entries → IsAmong e.activation entries
is_among e _ (latest below) = inl refl
is_among e _ (earlier other below h) = inr (is_among e below h)

pub lives : (entries : Entries) (q : ℕ) (e : Entry) → IsLiving e (entries q) → Lives entries e.activation
lives entries q e h = (q, is_among e (entries q) h)

-- and who is among them lives
pub record Living (a : ℕ) (entries : List Entry) : Type 0 where
  pub entry : Entry
  pub living : IsLiving entry entries
  pub number : entry.activation ≡ a

pub is_living : (a : ℕ) (entries : List Entry) → IsAmong a entries → Living a entries
is_living a [] h = absurd h
is_living a (e ∷ below) (inl h) = record { entry = e; living = latest below; number = h }
is_living a (e ∷ below) (inr h) =
    (let inner = is_living a below h in record { entry = inner.entry; living = earlier e below inner.living; number = inner.number })

some_same : {A : Type 0} (x y : A) → Some x ≡ Some y → x ≡ y
some_same x y h = cc

nobody : (e : Entry) → IsLiving e [] → ⊥
nobody e there = elim there [ ]

-- so many cells before them, and the rest behind them
pub record OwnCells (q : ℕ) (e : Entry) (home : Home) (cells : List ℤ) : Type 0 where
  pub before : List ℤ
  pub after : List ℤ
  pub process : home.process ≡ q
  pub place : length before ≡ home.cell
  pub size : length e.own ≡ own_cells
  pub reads : cells ≡ before ++ (e.own ++ after)

module _ (g : Program) (homes : Homes) (store : Store) (q : ℕ) where
  own_on_top : (e : Entry) (home : Home) (lower cells : List ℤ) → homes e.activation ≡ Some home →
      StandsOver g homes store q e lower cells → OwnCells q e home cells
  own_on_top e home lower cells at h =
      let one : h.home ≡ home = some_same h.home home (sym h.at ∙ at) in
      record {
        before = lower;
        after = h.block;
        process = ap (λ (x : Home). x.process) (sym one) ∙ h.process;
        place = sym h.place ∙ ap (λ (x : Home). x.cell) one;
        size = h.size;
        reads = h.is;
      }

  own_below : (e top : Entry) (home : Home) (lower cells : List ℤ) → OwnCells q e home lower →
      StandsOver g homes store q top lower cells → OwnCells q e home cells
  own_below e top home lower cells inner h =
      record {
        before = inner.before;
        after = inner.after ++ (top.own ++ h.block);
        process = inner.process;
        place = inner.place;
        size = inner.size;
        reads = h.is ∙ ap (λ l. l ++ (top.own ++ h.block)) inner.reads ∙ append_assoc inner.before (e.own ++ inner.after) (top.own ++ h.block)
            ∙ ap (λ l. inner.before ++ l) (append_assoc e.own inner.after (top.own ++ h.block));
      }

  own_among : (e : Entry) (home : Home) (entries : List Entry) (cells : List ℤ) → homes e.activation ≡ Some home → CellsAre g homes store q entries cells →
      IsLiving e entries → OwnCells q e home cells
  own_among e home _ cells at h (latest below) = own_on_top e home h.0 cells at h.2
  own_among e home _ cells at h (earlier other below there) = own_below e other home h.0 cells (own_among e home below h.0 at h.1 there) h.2

  own_in_process : (e : Entry) (home : Home) (entries : List Entry) (cells : List ℤ) → homes e.activation ≡ Some home →
      ProcessIs g homes store q entries cells → IsLiving e entries → OwnCells q e home cells
  own_in_process e home [] cells at h there = absurd (nobody e there)
  own_in_process e home (x ∷ below) cells at h there = own_among e home (x ∷ below) cells at h there

pub own_of :
    (g : Program) (homes : Homes) (entries : Entries) (store : Store) (stacks : Stacks) (q : ℕ) (e : Entry) (home : Home)
    → MemoryIs g homes entries store stacks → homes e.activation ≡ Some home → IsLiving e (entries q) → OwnCells q e home (cells_of stacks q)
own_of g homes entries store stacks q e home memory at there = own_in_process g homes store q e home (entries q) (cells_of stacks q) at (memory q) there
