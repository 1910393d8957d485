-- Objects: their cells hold their numbers.
use Rattle.std.proofs.Common.{◌≡◌, ℕ, zero, suc, ◌+◌, ◌≤◌, ℤ, pos, List, [], ◌∷◌, length, take, drop, get_or, Option, Some, refl, sym, ap, ◌∙◌, arith}
use Rattle.pfc_types.specs.declared.types.TypeId.{TypeId}
use Rattle.pfc_semantics.specs.Values.{Location, ordinal}
use Rattle.pfc_semantics.specs.Store.{Store, value_at}
use Rattle.pfc_translation.specs.Sites.{type_cells}
use Rattle.pfc_stacks.specs.declared.refs.Ref.{Ref}
use Rattle.pfc_stacks.specs.Refs.{word_of, ref_of}
use Rattle.pfc_stacks.specs.Stacks.{Stacks, cells_of, cell_at}
use Rattle.pfc_cells.specs.Shapes.{words_of}
use Rattle.pfc_cells.specs.Homes.{Homes, Lies}
use Rattle.pfc_cells.specs.Memory.{Entries, Lives}
use Rattle.pfc_cells.proofs.Reading.{are_live, reads}
use Rattle.pfc_standing_code.specs.Settings.{Setting}
use Rattle.pfc_views.specs.Views.{IsObjectAt}
use Rattle.pfc_views.proofs.Links.{ref_back}
use Rattle.pfc_stack_laws.specs.Standing.{HoldStore}

-- what is read from one cell on is that cell
first_read : (cells : List ℤ) (c : ℕ) (n : ℤ) (rest : List ℤ) (z : ℕ) → take (suc z) (drop c cells) ≡ n ∷ rest → get_or cells c (pos 0) ≡ n
first_read [] zero n rest z h = absurd (cc)
first_read [] (suc c) n rest z h = absurd (cc)
first_read (x ∷ cells) zero n rest z h = cc
first_read (x ∷ cells) (suc c) n rest z h = first_read cells c n rest z h

module _ (g : Setting) (homes : Homes) (entries : Entries) (store : Store) (stacks : Stacks) (hold : HoldStore g homes entries store stacks) where
  -- a living location has an address
  pub address_back : (l : Location) (t : Option TypeId) (r : Ref) → Lives entries l.activation → Lies g.program homes l t r → ref_of (word_of r) ≡ r
  address_back l t r lives lies =
      let there : r.cell + type_cells g.program.state.forms t ≤ length (cells_of stacks r.process) =
      are_live g.program hold.types.counted homes entries store stacks l t r hold.memory lives lies in
      ref_back r (omega (arith, there, hold.few.cells r.process))

  cell_read : (l : Location) (t : Option TypeId) (r : Ref) (n : ℤ) (z : ℕ) → type_cells g.program.state.forms t ≡ z → Lives entries l.activation →
      Lies g.program homes l t r → value_at store l ≡ ordinal n → cell_at stacks r ≡ n
  cell_read l t r n zero none lives lies value =
      let all = reads g.program hold.types.counted homes entries store stacks l t r hold.memory lives lies in
      let gone : [] ≡ n ∷ [] = ap (λ z. take z (drop r.cell (cells_of stacks r.process))) (sym none) ∙ all ∙ ap words_of value in
      absurd (cc)
  cell_read l t r n (suc z) size lives lies value =
      let all = reads g.program hold.types.counted homes entries store stacks l t r hold.memory lives lies in
      first_read (cells_of stacks r.process) r.cell n [] z (ap (λ k. take k (drop r.cell (cells_of stacks r.process))) (sym size) ∙ all ∙ ap words_of value)

  number_of : (w n : ℤ) → g.number w ≡ Some n → (at : IsObjectAt g.program homes entries w) → cell_at stacks (ref_of w) ≡ n
  number_of w n is at =
      let known = hold.objects.known at.location at.t at.place at.lies at.object in
      let same : known.0 ≡ n = (let both : Some known.0 ≡ Some n = sym known.1 ∙ ap g.number (sym at.word) ∙ is in cc) in
      ap (λ x. cell_at stacks (ref_of x)) at.word ∙ ap (λ (r : Ref). cell_at stacks r) (address_back at.location at.t at.place at.lives at.lies)
      ∙ cell_read at.location at.t at.place known.0 (type_cells g.program.state.forms at.t) refl at.lives at.lies known.2 ∙ same

  pub number_lies : (w n : ℤ) → g.number w ≡ Some n → cell_at stacks (ref_of w) ≡ n
  number_lies w n is = number_of w n is (hold.objects.only w n is)
