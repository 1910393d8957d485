-- The words that instructions with static links push.
use Rattle.std.proofs.Common.{◌≡◌, ℕ, ◌+◌, ◌*◌, ◌^◌, ◌<◌, ℤ, pos, ◌+ℤ◌, Bool, true, List, ◌++◌, length, slice_get, Some, ap, ◌∙◌, subst, arith, length-append}
use Rattle.pfc_semantics.specs.Displays.{Display}
use Rattle.pfc_semantics.specs.Programs.{Block, Program}
use Rattle.pfc_semantics.specs.Store.{Store, values_in}
use Rattle.pfc_stacks.specs.declared.refs.Ref.{Ref}
use Rattle.pfc_stacks.specs.Refs.{word_of, ref_of}
use Rattle.pfc_stacks.specs.Stacks.{Stacks, own_cells, cells_of, cell_at, links_up, first_in_view, cell_word}
use Rattle.pfc_cells.specs.Shapes.{AreCounted}
use Rattle.pfc_cells.specs.Homes.{Home, Homes, layout_at, variable_at}
use Rattle.pfc_cells.specs.Memory.{Entries, IsAmong, MemoryIs}
use Rattle.pfc_cells.proofs.Variables.{variable_among}
use Rattle.pfc_cells.proofs.Apart.{one_reference}
use Rattle.pfc_cells.proofs.Reading.{on_its_process}
use Rattle.pfc_cells.proofs.Kept.{reference_held}
use Rattle.pfc_standing_code.specs.Settings.{View}
use Rattle.pfc_views.specs.Views.{own_place, IsReferenceCell, Sees, AreFew}
use Rattle.pfc_views.proofs.Living.{is_among}
use Rattle.pfc_views.proofs.Links.{ref_back, links_lead, linked_is_kept}

further : (n m d : ℕ) → m ≡ n + own_cells → pos n +ℤ pos (own_cells + d) ≡ pos (m + d)
further n m d h = ap pos (omega (arith, h))

some_same : {A : Type 0} (x y : A) → Some x ≡ Some y → x ≡ y
some_same x y h = cc

module _ (g : Program) (counted : AreCounted g.state.forms) (homes : Homes) (entries : Entries) (store : Store) (keeps : ℕ →
    Bool) (display : Display) (b : Block) (accepts : List ℕ) (w : ℤ)
    (chain : List ℕ) (view : View) (stacks : Stacks) (memory : MemoryIs g homes entries store stacks) (few : AreFew stacks)
    (sees : Sees g homes entries store keeps display b accepts w chain view) where
  -- what is reached has its address
  pub word_reached : (p l d : ℕ) → word_of (first_in_view stacks p) ≡ w → view.reaches l d ≡ true → cell_word stacks p l d ≡ pos (view.first l + d)
  word_reached p l d from reached =
      let cell = sees.cells l d reached in
      let home : Home = cell.2.home in
      let first : view.first l ≡ home.process * 2 ^ 32 + (home.cell + own_cells) = sees.firsts l cell.0 home cell.1 cell.2.at in
      let up : links_up stacks l w ≡ word_of (own_place home) =
      links_lead g homes entries store keeps stacks memory few.cells w chain l cell.0 home sees.links cell.1 cell.2.at in
      ap (λ x. links_up stacks l x +ℤ pos (own_cells + d)) from ∙ ap (λ x. x +ℤ pos (own_cells + d)) up
      ∙ further (home.process * 2 ^ 32 + home.cell) (view.first l) d (omega (arith, first))

  pub within : (l d : ℕ) → view.reaches l d ≡ true → view.first l + d < 2 ^ 42
  within l d reached = (let cell = sees.cells l d reached in cell.3)

  -- and a reference parameter that is reached holds its reference
  pub word_held : (l d : ℕ) → view.reaches l d ≡ true → view.refers l d ≡ true → cell_at stacks (ref_of (pos (view.first l + d))) ≡ pos (view.held l d)
  word_held l d reached refers = read (sees.references l d reached refers)
    where
      read : (a : ℕ) × (slice_get chain l ≡ Some a) × IsReferenceCell g homes store a d (view.held l d) →
          cell_at stacks (ref_of (pos (view.first l + d))) ≡ pos (view.held l d)
      read (a, there, is) =
          let kept = linked_is_kept homes entries keeps w chain l a sees.links there in
          let among : IsAmong a (entries kept.1.process) =
          subst (λ (n : ℕ). IsAmong n (entries kept.1.process)) kept.1.number (is_among kept.1.entry (entries kept.1.process) kept.1.living) in
          let held = reference_held g counted homes entries store stacks a is.place kept.1.process is.home is.t is.target memory among is.at is.laid is.holds in
          let same = one_reference g homes is.target (Some is.t) (Some is.t) held.0 is.word held.1 is.lies in
          let first : view.first l ≡ is.home.process * 2 ^ 32 + (is.home.cell + own_cells) = sees.firsts l a is.home there is.at in
          let place : Ref = variable_at g is.home is.place in
          let on = on_its_process g counted homes entries store stacks a is.home kept.1.process is.at memory among in
          let x = variable_among g counted homes (layout_at g is.home) (values_in store a) on.block is.place _ on.holds is.laid in
          let whole : length (cells_of stacks is.home.process) ≡ length on.before + (length on.block + length on.after) =
          ap length on.reads ∙ length-append on.before (on.block ++ on.after) ∙ ap (λ n. length on.before + n) (length-append on.block on.after) in
          let inner : length on.block ≡ length x.before + (length x.words + length x.after) =
          ap length x.reads ∙ length-append x.before (x.words ++ x.after) ∙ ap (λ n. length x.before + n) (length-append x.words x.after) in
          let short : place.cell < 2 ^ 32 = omega (arith, few.cells is.home.process, whole, inner, on.place, x.place) in
          let number : pos (view.first l + d) ≡ word_of place = ap pos (omega (arith, first, is.first)) in
          ap (λ v. cell_at stacks (ref_of v)) number ∙ ap (λ (r : Ref). cell_at stacks r) (ref_back place short) ∙ held.2 ∙ ap word_of same.1 ∙ is.number
