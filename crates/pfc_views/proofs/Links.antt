-- Static links on the stacks.
use Rattle.std.proofs.Common.{◌≡◌, ℕ, zero, suc, ◌+◌, ◌*◌, ◌^◌, ◌/◌, ◌%◌, ◌<◌, ℤ, pos, Bool, List, [], ◌∷◌, ◌++◌, length, get_or, slice_get, Some, sym, ap, ap₂}
use Rattle.std.proofs.Common.{◌∙◌, subst, arith, length-append}
use Rattle.std.proofs.lemmas.List.{get_or-append-add, get_or_append_left}
use Rattle.pfc_semantics.specs.Programs.{Program}
use Rattle.pfc_semantics.specs.Store.{Store}
use Rattle.pfc_stacks.specs.declared.refs.Ref.{Ref}
use Rattle.pfc_stacks.specs.Refs.{word_of, ref_of}
use Rattle.pfc_stacks.specs.Stacks.{Stacks, link_place, cells_of, link_at, links_up}
use Rattle.pfc_cells.specs.Homes.{Home, Homes}
use Rattle.pfc_cells.specs.Memory.{Entries, MemoryIs}
use Rattle.pfc_views.specs.Views.{own_place, IsKept, AreLinked}
use Rattle.pfc_views.proofs.Living.{own_of}

-- the address that a word of an address holds
pub ref_back : (r : Ref) → r.cell < 2 ^ 32 → ref_of (word_of r) ≡ r
ref_back r few =
    let process : (r.process * 2 ^ 32 + r.cell) / 2 ^ 32 ≡ r.process = omega (arith, few) in
    let cell : (r.process * 2 ^ 32 + r.cell) % 2 ^ 32 ≡ r.cell = omega (arith, few) in
    ap₂ (λ p c. record { process = p; cell = c }) process cell

some_same : {A : Type 0} (x y : A) → Some x ≡ Some y → x ≡ y
some_same x y h = cc

head_same : (x a : ℕ) (chain : List ℕ) → slice_get (x ∷ chain) 0 ≡ Some a → x ≡ a
head_same x a chain h = cc

module _ (homes : Homes) (entries : Entries) (keeps : ℕ → Bool) where
  -- an activation that static links lead to is kept, and lives
  pub linked_is_kept : (w : ℤ) (chain : List ℕ) (l a : ℕ) → AreLinked homes entries keeps w chain → slice_get chain l ≡ Some a →
      (v : ℤ) × IsKept homes entries keeps v a
  linked_is_kept w [] l a h there = absurd (cc)
  linked_is_kept w (x ∷ chain) zero a h there = (w, subst (λ (y : ℕ). IsKept homes entries keeps w y) (head_same x a chain there) h.0)
  linked_is_kept w (x ∷ chain) (suc l) a h there = linked_is_kept (get_or h.0.entry.own link_place (pos 0)) chain l a h.1 there

module _ (g : Program) (homes : Homes) (entries : Entries) (store : Store) (keeps : ℕ → Bool) (stacks : Stacks) (memory : MemoryIs g homes entries store stacks)
    (few : (q : ℕ) → length (cells_of stacks q) < 2 ^ 32) where
  -- the cell of the static link
  pub link_is : (w : ℤ) (a : ℕ) (is : IsKept homes entries keeps w a) → link_at stacks w ≡ get_or is.entry.own link_place (pos 0)
  link_is w a is =
      let at : homes is.entry.activation ≡ Some is.home = ap homes is.number ∙ is.at in
      let own = own_of g homes entries store stacks is.process is.entry is.home memory at is.living in
      let size : length is.entry.own ≡ 8 = own.size in
      let whole : length (cells_of stacks is.process) ≡ length own.before + (length is.entry.own + length own.after) =
      ap length own.reads ∙ length-append own.before (is.entry.own ++ own.after) ∙ ap (λ n. length own.before + n) (length-append is.entry.own own.after) in
      let short : is.home.cell < 2 ^ 32 = omega (arith, few is.process, whole, own.place) in
      let ref : ref_of w ≡ own_place is.home = ap ref_of is.word ∙ ref_back (own_place is.home) short in
      let inside : 3 < length is.entry.own = omega (arith, size) in
      ap (λ (r : Ref). get_or (cells_of stacks r.process) (r.cell + link_place) (pos 0)) ref
      ∙ ap (λ p. get_or (cells_of stacks p) (is.home.cell + link_place) (pos 0)) own.process
      ∙ ap₂ (λ l n. get_or l (n + link_place) (pos 0)) own.reads (sym own.place)
      ∙ get_or-append-add own.before (is.entry.own ++ own.after) link_place (pos 0)
      ∙ get_or_append_left is.entry.own own.after (pos 0) link_place inside

  pub links_lead : (w : ℤ) (chain : List ℕ) (l a : ℕ) (home : Home) → AreLinked homes entries keeps w chain → slice_get chain l ≡ Some a → homes a ≡ Some home →
      links_up stacks l w ≡ word_of (own_place home)
  links_lead w [] l a home h there at = absurd (cc)
  links_lead w (x ∷ chain) zero a home h there at =
      let one : x ≡ a = cc in
      let same : h.0.home ≡ home = some_same h.0.home home (sym h.0.at ∙ ap homes one ∙ at) in
      h.0.word ∙ ap (λ (y : Home). word_of (own_place y)) same
  links_lead w (x ∷ chain) (suc l) a home h there at =
      ap (λ v. links_up stacks l v) (link_is w x h.0) ∙ links_lead (get_or h.0.entry.own link_place (pos 0)) chain l a home h.1 there at
