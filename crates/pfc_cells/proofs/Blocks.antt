-- The cells of one process: those of a living activation among them, and what another store leaves of them.
use Rattle.std.proofs.Common.{◌≡◌, ◌≢◌, ℕ, ◌+◌, ◌≤◌, ℤ, List, [], ◌∷◌, ◌++◌, length, Some, refl, sym, ap, ap₂, ◌∙◌, subst, arith, length-append, append_assoc}
use Rattle.std.proofs.Common.{append-nil, inl, inr}
use Rattle.std.proofs.lemmas.List.Sums.{sum_by-cons}
use Rattle.pfc_types.specs.rules.Declarations.{name_cells}
use Rattle.pfc_types.specs.declared.scope.Meaning.{Meaning}
use Rattle.pfc_semantics.specs.Layouts.{Layout}
use Rattle.pfc_semantics.specs.Programs.{Program, layout_cells}
use Rattle.pfc_semantics.specs.Values.{Value}
use Rattle.pfc_semantics.specs.Store.{Store, values_in}
use Rattle.pfc_stacks.specs.Stacks.{own_cells}
use Rattle.pfc_cells.specs.Shapes.{AreCounted}
use Rattle.pfc_cells.specs.Homes.{Home, Homes, layout_at}
use Rattle.pfc_cells.specs.Memory.{AreCells, Entry, StandsOver, CellsAre, ProcessIs, IsAmong}
use Rattle.pfc_cells.proofs.Numbers.{same, other, same_or_not}
use Rattle.pfc_cells.proofs.Variables.{held_length}

-- all but the values of one activation is as it was
abbrev pub Others : Store → Store → ℕ → Type 0
Others store next a = (b : ℕ) → b ≢ a → values_in next b ≡ values_in store b

pub some_same : {A : Type 0} (x y : A) → Some x ≡ Some y → x ≡ y
some_same x y h = cc

-- where the cells of a living activation lie, whatever they hold: so many before them, and the rest behind them
pub record OnStack (g : Program) (homes : Homes) (store : Store) (q : ℕ) (entries : List Entry) (cells : List ℤ) (a : ℕ) (home : Home) : Type 0 where
  pub before : List ℤ
  pub block : List ℤ
  pub after : List ℤ
  pub place : length before ≡ home.cell + own_cells
  pub process : home.process ≡ q
  pub holds : AreCells g homes (layout_at g home) (values_in store a) block
  pub reads : cells ≡ before ++ (block ++ after)
  pub becomes : (next : Store) (new : List ℤ) → Others store next a → AreCells g homes (layout_at g home) (values_in next a) new
      → CellsAre g homes next q entries (before ++ (new ++ after))

-- who is among those and is not the latest is one of the others
pub later : (e : Entry) (below : List Entry) (a : ℕ) → e.activation ≢ a → IsAmong a (e ∷ below) → IsAmong a below
later e below a apart (inl h) = absurd (apart h)
later e below a apart (inr h) = h

module _ (g : Program) (sound : AreCounted g.state.forms) (homes : Homes) where
  -- the cells of a block are as many as its variables take
  pub block_length : (layout : Layout) (values : List Value) (cells : List ℤ) → AreCells g homes layout values cells
      → length cells ≡ layout_cells g.state.forms layout
  block_length [] [] cells h = ap length h
  block_length [] (v ∷ values) cells h = absurd h
  block_length (m ∷ layout) [] cells h = absurd h
  block_length (m ∷ layout) (v ∷ values) cells h =
      ap length h.2 ∙ length-append h.0 h.1 ∙ ap₂ (λ a b. a + b) (held_length g sound homes m v h.0 h.3) (block_length layout values h.1 h.4)
      ∙ sym (sum_by-cons (λ (x : Meaning). name_cells g.state.forms x) m layout)

  stands_length : (store : Store) (q : ℕ) (e : Entry) (lower cells : List ℤ) (h : StandsOver g homes store q e lower cells)
      → length cells ≡ length lower + (own_cells + length h.block)
  stands_length store q e lower cells h =
      ap length h.is ∙ length-append lower (e.own ++ h.block) ∙ ap (λ n. length lower + n) (length-append e.own h.block ∙ ap (λ n. n + length h.block) h.size)

  -- an activation whose values stay stands as it stood, over as many cells
  stands_still :
      (store next : Store) (q : ℕ) (e : Entry) (lower cells lower' : List ℤ) (h : StandsOver g homes store q e lower cells)
      → values_in next e.activation ≡ values_in store e.activation → length lower' ≡ length lower
      → StandsOver g homes next q e lower' (lower' ++ (e.own ++ h.block))
  stands_still store next q e lower cells lower' h values size =
      record {
        home = h.home;
        at = h.at;
        process = h.process;
        place = h.place ∙ sym size;
        size = h.size;
        block = h.block;
        holds = subst (λ vs. AreCells g homes (layout_at g h.home) vs h.block) (sym values) h.holds;
        is = refl;
      }

  -- an activation that stands on another stack, or above, is none of these
  is_another :
      (store : Store) (q : ℕ) (e : Entry) (lower cells : List ℤ) (a : ℕ) (home : Home)
      → homes a ≡ Some home → (home.process ≡ q → length cells ≤ home.cell) → StandsOver g homes store q e lower cells → e.activation ≢ a
  is_another store q e lower cells a home at past h equal =
      let one : h.home ≡ home = some_same h.home home (sym h.at ∙ ap homes equal ∙ at) in
      let above : length cells ≤ home.cell = past (ap (λ (x : Home). x.process) (sym one) ∙ h.process) in
      let place : home.cell ≡ length lower = ap (λ (x : Home). x.cell) (sym one) ∙ h.place in
      let size : length cells ≡ length lower + (8 + length h.block) = stands_length store q e lower cells h in
      omega (arith, above, place, size)

  -- so other values of it leave these cells as they are
  pub cells_kept :
      (store next : Store) (q : ℕ) (entries : List Entry) (cells : List ℤ) (a : ℕ) (home : Home)
      → homes a ≡ Some home → (home.process ≡ q → length cells ≤ home.cell) → Others store next a
      → CellsAre g homes store q entries cells → CellsAre g homes next q entries cells
  cells_kept store next q [] cells a home at past others h = h
  cells_kept store next q (e ∷ below) cells a home at past others h =
      let apart : e.activation ≢ a = is_another store q e h.0 cells a home at past h.2 in
      let size : length cells ≡ length h.0 + (8 + length h.2.block) = stands_length store q e h.0 cells h.2 in
      let under : home.process ≡ q → length h.0 ≤ home.cell = λ p. (let above : length cells ≤ home.cell = past p in omega (arith, above, size)) in (
        h.0,
        cells_kept store next q below h.0 a home at under others h.1,
        subst (λ ws. StandsOver g homes next q e h.0 ws) (sym h.2.is) (stands_still store next q e h.0 cells h.0 h.2 (others e.activation apart) refl),
      )

  on_top :
      (store : Store) (q : ℕ) (e : Entry) (below : List Entry) (lower cells : List ℤ) (a : ℕ) (home : Home)
      → homes a ≡ Some home → e.activation ≡ a → CellsAre g homes store q below lower → StandsOver g homes store q e lower cells
      → OnStack g homes store q (e ∷ below) cells a home
  on_top store q e below lower cells a home at equal under h =
      let one : h.home ≡ home = some_same h.home home (sym h.at ∙ ap homes equal ∙ at) in
      let process : home.process ≡ q = ap (λ (x : Home). x.process) (sym one) ∙ h.process in
      let place : home.cell ≡ length lower = ap (λ (x : Home). x.cell) (sym one) ∙ h.place in
      let level : length lower ≤ home.cell = omega (arith, place) in
      record {
        before = lower ++ e.own;
        block = h.block;
        after = [];
        place = length-append lower e.own ∙ ap₂ (λ x y. x + y) (sym place) h.size;
        process = process;
        holds = subst (λ b. AreCells g homes (layout_at g home) (values_in store b) h.block) equal (subst (λ (x : Home). AreCells g homes
            (layout_at g x) (values_in store e.activation) h.block) one h.holds);
        reads = h.is ∙ sym (append_assoc lower e.own h.block) ∙ ap (λ ws. (lower ++ e.own) ++ ws) (sym (append-nil h.block));
        becomes = λ next new others holds. (
          lower,
          cells_kept store next q below lower a home at (λ p. level) others under,
          record {
            home = home;
            at = ap homes equal ∙ at;
            process = process;
            place = place;
            size = h.size;
            block = new;
            holds = subst (λ b. AreCells g homes (layout_at g home) (values_in next b) new) (sym equal) holds;
            is = ap (λ ws. (lower ++ e.own) ++ ws) (append-nil new) ∙ append_assoc lower e.own new;
          },
        );
      }

  further_down :
      (store : Store) (q : ℕ) (e : Entry) (below : List Entry) (lower cells : List ℤ) (a : ℕ) (home : Home)
      → e.activation ≢ a → OnStack g homes store q below lower a home → StandsOver g homes store q e lower cells
      → OnStack g homes store q (e ∷ below) cells a home
  further_down store q e below lower cells a home apart d h =
      let mine : length d.block ≡ layout_cells g.state.forms (layout_at g home) = block_length (layout_at g home) (values_in store a) d.block d.holds in
      record {
        before = d.before;
        block = d.block;
        after = d.after ++ (e.own ++ h.block);
        place = d.place;
        process = d.process;
        holds = d.holds;
        reads = h.is ∙ ap (λ ws. ws ++ (e.own ++ h.block)) d.reads ∙ append_assoc d.before (d.block ++ d.after) (e.own ++ h.block)
            ∙ ap (λ ws. d.before ++ ws) (append_assoc d.block d.after (e.own ++ h.block));
        becomes = λ next new others holds.
            let now : List ℤ = d.before ++ (new ++ d.after) in
            let theirs : length new ≡ layout_cells g.state.forms (layout_at g home) = block_length (layout_at g home) (values_in next a) new holds in
            let size : length now ≡ length lower =
            length-append d.before (new ++ d.after)
            ∙ ap (λ n. length d.before + n) (length-append new d.after ∙ ap (λ n. n + length d.after) (theirs ∙ sym mine) ∙ sym (length-append d.block d.after))
            ∙ sym (length-append d.before (d.block ++ d.after)) ∙ ap length (sym d.reads) in (
              now,
              d.becomes next new others holds,
              subst (λ ws. StandsOver g homes next q e now ws)
                  (append_assoc d.before (new ++ d.after) (e.own ++ h.block) ∙ ap (λ ws. d.before ++ ws) (append_assoc new d.after (e.own ++ h.block)))
                  (stands_still store next q e lower cells now h (others e.activation apart) size),
            );
      }

  pub on_stack :
      (store : Store) (q : ℕ) (entries : List Entry) (cells : List ℤ) (a : ℕ) (home : Home)
      → homes a ≡ Some home → IsAmong a entries → CellsAre g homes store q entries cells → OnStack g homes store q entries cells a home
  on_stack store q [] cells a home at among h = absurd among
  on_stack store q (e ∷ below) cells a home at among h =
      elim (same_or_not e.activation a) [
        | same equal ↦ on_top store q e below h.0 cells a home at equal h.1 h.2
        | other apart ↦ further_down store q e below h.0 cells a home apart (on_stack store q below h.0 a home at (later e below a apart among) h.1) h.2
      ]

-- ## A process, which may have no living activation

pub cells_among : (g : Program) (homes : Homes) (store : Store) (q : ℕ) (entries : List Entry) (cells : List ℤ) (a : ℕ) → IsAmong a entries
    → ProcessIs g homes store q entries cells → CellsAre g homes store q entries cells
cells_among g homes store q [] cells a among h = absurd among
cells_among g homes store q (e ∷ below) cells a among h = h

pub process_has : (g : Program) (homes : Homes) (store : Store) (q : ℕ) (entries : List Entry) (cells : List ℤ)
    → CellsAre g homes store q entries cells → ProcessIs g homes store q entries cells
process_has g homes store q [] cells h = tt
process_has g homes store q (e ∷ below) cells h = h

-- other values of an activation that stands elsewhere
pub process_kept :
    (g : Program) (sound : AreCounted g.state.forms) (homes : Homes) (store next : Store) (q : ℕ) (entries : List Entry) (cells : List ℤ) (a : ℕ) (home : Home)
    → homes a ≡ Some home → home.process ≢ q → Others store next a → ProcessIs g homes store q entries cells → ProcessIs g homes next q entries cells
process_kept g sound homes store next q [] cells a home at apart others h = tt
process_kept g sound homes store next q (e ∷ below) cells a home at apart others h =
    cells_kept g sound homes store next q (e ∷ below) cells a home at (λ mine. absurd (apart mine)) others h
