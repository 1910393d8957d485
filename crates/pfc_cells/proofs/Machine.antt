-- The same of the machine's calls, creations and returns.
use Rattle.std.proofs.Common.{◌≡◌, ◌≢◌, ℕ, zero, suc, ◌+◌, ◌<◌, ℤ, List, [], ◌∷◌, ◌++◌, length, take, set, Some, None, refl, sym, ap, ◌∙◌, subst, arith}
use Rattle.std.proofs.Common.{length-append}
use Rattle.std.specs.Prelude.{◌-◌, drop}
use Rattle.std.proofs.lemmas.List.{get_or-set_same, get_or-set_other, take_at, length-set}
use Rattle.pfc_code.specs.declared.images.Block.{Block}
use Rattle.pfc_semantics.specs.Programs.{Program}
use Rattle.pfc_semantics.specs.Values.{Value}
use Rattle.pfc_semantics.specs.Store.{Store, with_room, without}
use Rattle.pfc_stacks.specs.declared.marks.Mark.{Mark}
use Rattle.pfc_stacks.specs.Activations.{called, called_own, own_words, block_cells, arguments, first_own, entered, created}
use Rattle.pfc_stacks.specs.Stacks.{Stack, Stacks, no_stack, stack_of, cells_of, operands_of}
use Rattle.pfc_cells.specs.Shapes.{AreCounted}
use Rattle.pfc_cells.specs.Homes.{Home, Homes, layout_at}
use Rattle.pfc_cells.specs.Memory.{AreCells, Entry, Entries, CellsAre, ProcessIs, MemoryIs}
use Rattle.pfc_cells.specs.Activations.{with_home, with_entries}
use Rattle.pfc_cells.proofs.Blocks.{process_has, some_same}
use Rattle.pfc_cells.proofs.Reading.{process_there}
use Rattle.pfc_cells.proofs.Activations.{added, taken}

-- another stack at one place
cells_set : (stacks : Stacks) (p : ℕ) (s : Stack) → p < length stacks → cells_of (set stacks p s) p ≡ s.cells
cells_set stacks p s inside = ap (λ (x : Stack). x.cells) (get_or-set_same stacks p s no_stack inside)

cells_unset : (stacks : Stacks) (p : ℕ) (s : Stack) (q : ℕ) → q ≢ p → cells_of (set stacks p s) q ≡ cells_of stacks q
cells_unset stacks p s q apart = ap (λ (x : Stack). x.cells) (get_or-set_other stacks p q s no_stack apart)

-- a stack whose cells stay
cells_alike : (stacks : Stacks) (p : ℕ) (s : Stack) → s.cells ≡ cells_of stacks p → (q : ℕ) → cells_of (set stacks p s) q ≡ cells_of stacks q
cells_alike [] p s e q = refl
cells_alike (x ∷ stacks) zero s e zero = e
cells_alike (x ∷ stacks) zero s e (suc q) = refl
cells_alike (x ∷ stacks) (suc p) s e zero = refl
cells_alike (x ∷ stacks) (suc p) s e (suc q) = cells_alike stacks p s e q

module _ (g : Program) (homes : Homes) (entries : Entries) (store : Store) (stacks : Stacks) where
  whole_stack : (p : ℕ) (e : Entry) (below : List Entry) → MemoryIs g homes entries store stacks → entries p ≡ e ∷ below
      → CellsAre g homes store p (e ∷ below) (cells_of stacks p)
  whole_stack p e below memory living = subst (λ es. ProcessIs g homes store p es (cells_of stacks p)) living (memory p)

  -- a process with a living activation is there
  stack_there : (p : ℕ) (e : Entry) (below : List Entry) → MemoryIs g homes entries store stacks → entries p ≡ e ∷ below → p < length stacks
  stack_there p e below memory living =
      let h = whole_stack p e below memory living in
      let top = h.2 in
      let size : length e.own ≡ 8 = top.size in
      let all : length (cells_of stacks p) ≡ length h.0 + (length e.own + length top.block) = ap length top.is
      ∙ length-append h.0 (e.own ++ top.block) ∙ ap (λ n. length h.0 + n) (length-append e.own top.block) in
      process_there stacks p (omega (arith, size, all))

  pub call_added :
      (p a scope k : ℕ) (b : Block) (link : ℤ) (mark : Mark) (values : List Value) (e : Entry) (below : List Entry)
      → MemoryIs g homes entries store stacks → entries p ≡ e ∷ below → homes a ≡ None
      → AreCells g homes (layout_at g (record { process = p; cell = length (cells_of stacks p); scope = scope })) values (block_cells (arguments b
      (operands_of stacks p)) (b.cells - b.params))
      → MemoryIs g (with_home homes a (record { process = p; cell = length (cells_of stacks p); scope = scope }))
      (with_entries entries p (record { activation = a; own = own_words (called_own k b link mark (stack_of stacks p)) } ∷ entries p))
      (with_room store a values)
      (set stacks p (called k b link mark (stack_of stacks p)))
  call_added p a scope k b link mark values e below memory living fresh holds =
      let s : Stack = stack_of stacks p in
      added g homes entries store stacks (set stacks p (called k b link mark s)) p a (record {
        process = p;
        cell = length
            (cells_of stacks p);
        scope = scope;
      }) (own_words (called_own k b link mark s))
      (cells_of stacks p) (block_cells (arguments b (operands_of stacks p)) (b.cells - b.params)) values memory
      (subst (λ es. CellsAre g homes store p es (cells_of stacks p)) (sym living) (whole_stack p e below memory living)) fresh refl refl refl holds
      (cells_set stacks p (called k b link mark s) (stack_there p e below memory living)) (cells_unset stacks p (called k b link mark s))

  pub creation_added :
      (from p a scope k : ℕ) (b : Block) (values : List Value)
      → MemoryIs g homes entries store stacks → entries p ≡ [] → p < length stacks → homes a ≡ None
      → AreCells g homes (layout_at g (record { process = p; cell = 0; scope = scope })) values (block_cells (arguments b (operands_of stacks from))
      (b.cells - b.params))
      → MemoryIs g (with_home homes a (record { process = p; cell = 0; scope = scope }))
      (with_entries entries p (record { activation = a; own = own_words (first_own k) } ∷ entries p)) (with_room store a values) (created k b p from stacks)
  creation_added from p a scope k b values memory idle inside fresh holds =
      let maker : Stack = stack_of stacks from in
      let on : Stack = record maker { at = maker.at + 1; operands = drop (b.params + 1) maker.operands } in
      let left : Stacks = set stacks from on in
      let new : Stack = entered k b (arguments b maker.operands) (b.cells - b.params) (stack_of stacks p).spare in
      let there : p < length left = (let size = length-set stacks from on in omega (arith, size, inside)) in
      added g homes entries store stacks (created k b p from stacks) p a (record { process = p; cell = 0; scope = scope }) (own_words (first_own k))
      [] (block_cells (arguments b (operands_of stacks from)) (b.cells - b.params)) values memory
      (subst (λ es. CellsAre g homes store p es []) (sym idle) refl) fresh refl refl refl holds
      (cells_set left p new there) (λ q apart. cells_unset left p new q apart ∙ cells_alike stacks from on refl q)

module _ (g : Program) (sound : AreCounted g.state.forms) (homes : Homes) (entries : Entries) (store : Store) (stacks : Stacks) where
  -- the process goes back to what it had below the base of its last activation
  pub return_taken :
      (p : ℕ) (e : Entry) (below : List Entry) (home : Home) (s : Stack) → MemoryIs g homes entries store stacks → entries p ≡ e ∷ below
      → homes e.activation ≡ Some home → home.cell ≡ (stack_of stacks p).base → s.cells ≡ take (stack_of stacks p).base (cells_of stacks p)
      → MemoryIs g homes (with_entries entries p below) (without store e.activation) (set stacks p s)
  return_taken p e below home s memory living at base cut =
      taken g sound homes entries store stacks (set stacks p s) p e below memory living
      (λ lower kept rest is other other_at place.
      let one : other ≡ home = some_same other home (sym other_at ∙ at) in
      let size : length lower ≡ (stack_of stacks p).base = sym place ∙ ap (λ (x : Home). x.cell) one ∙ base in
      let cells : cells_of (set stacks p s) p ≡ lower =
      cells_set stacks p s (stack_there g homes entries store stacks p e below memory living) ∙ cut
      ∙ ap (λ ws. take (stack_of stacks p).base ws) is ∙ take_at lower rest (stack_of stacks p).base size in
      process_has g homes (without store e.activation) p below (cells_of (set stacks p s) p) (subst (λ ws. CellsAre g homes
      (without store e.activation) p below ws) (sym cells) kept))
      (cells_unset stacks p s)

  -- a process ends, and its cells are left as they are
  pub end_taken :
      (p : ℕ) (e : Entry) → MemoryIs g homes entries store stacks → entries p ≡ e ∷ []
      → MemoryIs g homes (with_entries entries p []) (without store e.activation) stacks
  end_taken p e memory living =
      taken g sound homes entries store stacks stacks p e [] memory living (λ lower kept rest is home at place. tt) (λ q apart. refl)
