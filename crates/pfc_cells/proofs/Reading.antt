-- What the stacks hold at a location, and what a write of it leaves.
use Rattle.std.proofs.Common.{◌≡◌, ◌≢◌, ℕ, ◌+◌, ◌≤◌, ◌<◌, ℤ, pos, List, ◌++◌, length, get_or, set, Option, Some, sym, ap, ap₂, ◌∙◌, subst, arith, length-append}
use Rattle.std.proofs.Common.{◌⊎◌, inl, inr}
use Rattle.std.proofs.lemmas.List.{get_or-set_same, get_or-set_other, get_or_past}
use Rattle.pfc_types.specs.declared.types.TypeId.{TypeId}
use Rattle.pfc_semantics.specs.Programs.{Program}
use Rattle.pfc_semantics.specs.Values.{Value, Location, ordinal, part, with_part, path_of}
use Rattle.pfc_semantics.specs.Store.{Store, values_in, value_at, variable, stored}
use Rattle.pfc_translation.specs.Sites.{type_cells}
use Rattle.pfc_stacks.specs.declared.refs.Ref.{Ref}
use Rattle.pfc_stacks.specs.Stacks.{Stack, Stacks, no_stack, stack_of, own_cells, cells_of, cells_at, with_words, written}
use Rattle.pfc_stacks.specs.Conditions.{AreLive}
use Rattle.pfc_cells.specs.Shapes.{AreCounted, Fits, words_of}
use Rattle.pfc_cells.specs.Homes.{Home, Homes, IsLocation, Lies, layout_at, cells_before}
use Rattle.pfc_cells.specs.Memory.{AreCells, Entries, CellsAre, ProcessIs, IsAmong, Lives, MemoryIs}
use Rattle.pfc_cells.proofs.Lists.{nested, over_written, middle_read, middle_within}
use Rattle.pfc_cells.proofs.Numbers.{same, other, same_or_not}
use Rattle.pfc_cells.proofs.Words.{words_fit}
use Rattle.pfc_cells.proofs.Stores.{values_written, values_kept}
use Rattle.pfc_cells.proofs.Variables.{part_among}
use Rattle.pfc_cells.proofs.Blocks.{Others, OnStack, on_stack, cells_among, process_has, process_kept}

-- Where the cells of a location lie in its process's stack, whatever is held there: so many before them, and the rest behind them.
pub record Found (g : Program) (homes : Homes) (entries : Entries) (store : Store) (stacks : Stacks) (l : Location) (t : Option TypeId) (r : Ref) : Type 0 where
  pub before : List ℤ
  pub after : List ℤ
  pub place : length before ≡ r.cell
  pub over : own_cells ≤ r.cell
  pub there : l.variable < length (values_in store l.activation)
  pub gives : (new : Value) → value_at (stored store l new) l ≡ new
  pub is : Fits g.state.forms t (value_at store l)
  pub reads : cells_of stacks r.process ≡ before ++ (words_of (value_at store l) ++ after)
  pub becomes : (new : Value) → Fits g.state.forms t new → CellsAre g homes (stored store l new) r.process (entries r.process) (before ++
      (words_of new ++ after))
  pub others : (new : Value) → Others store (stored store l new) l.activation

module _ (g : Program) (sound : AreCounted g.state.forms) (homes : Homes) (entries : Entries) (store : Store) (stacks : Stacks) where
  found_on :
      (l : Location) (t : Option TypeId) (home : Home) (behind : ℕ) (q : ℕ)
      → IsLocation g homes l t home behind → OnStack g homes store q (entries q) (cells_of stacks q) l.activation home
      → Found g homes entries store stacks l t (record {
        process = q;
        cell = home.cell + own_cells + cells_before g.state.forms
            (layout_at g home) l.variable + behind;
      })
  found_on l t home behind q is on =
      let values : List Value = values_in store l.activation in
      let path : List ℕ = path_of l.selectors in
      let p = part_among g sound homes (layout_at g home) values on.block l.variable is.meaning path t behind on.holds is.laid is.variable is.own is.path in
      let inside : l.variable < length values = p.there in
      let some : 0 < length values = omega (arith, inside) in
      record {
        before = on.before ++ p.before;
        after = p.after ++ on.after;
        place = length-append on.before p.before ∙ ap₂ (λ a b. a + b) on.place p.place ∙ omega arith;
        over = omega arith;
        there = inside;
        gives = λ new.
            ap (λ vs. part path (get_or vs l.variable (ordinal (pos 0)))) (values_written store l.activation (set values l.variable (with_part path
            (variable store l) new)) some)
            ∙ ap (λ x. part path x) (get_or-set_same values l.variable (with_part path (variable store l) new) (ordinal (pos 0)) inside)
            ∙ p.gives new;
        is = p.is;
        reads = on.reads ∙ ap (λ ws. on.before ++ (ws ++ on.after)) p.reads ∙ nested on.before p.before (words_of (value_at store l)) p.after on.after;
        becomes = λ new n.
            subst (λ ws. CellsAre g homes (stored store l new) q (entries q) ws) (nested on.before p.before (words_of new) p.after on.after)
            (on.becomes (stored store l new) (p.before ++ (words_of new ++ p.after))
            (values_kept store l.activation (set values l.variable (with_part path (variable store l) new)))
            (subst (λ vs. AreCells g homes (layout_at g home) vs (p.before ++ (words_of new ++ p.after)))
            (sym (values_written store l.activation (set values l.variable (with_part path (variable store l) new)) some)) (p.becomes new n)));
        others = λ new. values_kept store l.activation (set values l.variable (with_part path (variable store l) new));
      }

  pub on_its_process :
      (a : ℕ) (home : Home) (q : ℕ) → homes a ≡ Some home → MemoryIs g homes entries store stacks → IsAmong a (entries q)
      → OnStack g homes store home.process (entries home.process) (cells_of stacks home.process) a home
  on_its_process a home q at memory among =
      let on = on_stack g sound homes store q (entries q) (cells_of stacks q) a home at among (cells_among g homes store q (entries q)
      (cells_of stacks q) a among (memory q)) in
      subst (λ p. OnStack g homes store p (entries p) (cells_of stacks p) a home) (sym on.process) on

  pub found : (l : Location) (t : Option TypeId) (r : Ref) → MemoryIs g homes entries store stacks → Lives entries l.activation
      → Lies g homes l t r → Found g homes entries store stacks l t r
  found l t r memory lives lies =
      subst (λ (x : Ref). Found g homes entries store stacks l t x) (sym lies.place)
      (found_on l t lies.home lies.behind lies.home.process lies.is (on_its_process l.activation lies.home lives.0 lies.is.at memory lives.1))

  -- ## Reading

  pub fits : (l : Location) (t : Option TypeId) (r : Ref) → MemoryIs g homes entries store stacks → Lives entries l.activation → Lies g homes l t r
      → Fits g.state.forms t (value_at store l)
  fits l t r memory lives lies = (found l t r memory lives lies).is

  pub are_live : (l : Location) (t : Option TypeId) (r : Ref) → MemoryIs g homes entries store stacks → Lives entries l.activation
      → Lies g homes l t r → AreLive stacks r (type_cells g.state.forms t)
  are_live l t r memory lives lies =
      let f = found l t r memory lives lies in
      middle_within f.before (words_of (value_at store l)) f.after (cells_of stacks r.process) r.cell (type_cells g.state.forms t) f.place
      (words_fit g.state.forms sound t (value_at store l) f.is) f.reads

  pub reads : (l : Location) (t : Option TypeId) (r : Ref) → MemoryIs g homes entries store stacks → Lives entries l.activation → Lies g homes l t r
      → cells_at stacks r (type_cells g.state.forms t) ≡ words_of (value_at store l)
  reads l t r memory lives lies =
      let f = found l t r memory lives lies in
      middle_read f.before (words_of (value_at store l)) f.after (cells_of stacks r.process) r.cell (type_cells g.state.forms t) f.place
      (words_fit g.state.forms sound t (value_at store l) f.is) f.reads

-- ## Writing

-- a process with a cell is there
within_or_past : (n m : ℕ) → (n < m) ⊎ (m ≤ n)
within_or_past n m = grind arith

pub process_there : (stacks : Stacks) (q : ℕ) → 0 < length (cells_of stacks q) → q < length stacks
process_there stacks q h =
    elim (within_or_past q (length stacks)) [
      | inl inside ↦ inside
      | inr past ↦
          let none : length (cells_of stacks q) ≡ 0 = ap (λ (s : Stack). length s.cells) (get_or_past stacks q no_stack past) in
          absurd (omega (arith, none, h))
    ]

pub written_here : (stacks : Stacks) (r : Ref) (ws : List ℤ) → r.process < length stacks
    → cells_of (written stacks r ws) r.process ≡ with_words (cells_of stacks r.process) r.cell ws
written_here stacks r ws inside =
    ap (λ (s : Stack). s.cells) (get_or-set_same stacks r.process (record (stack_of stacks r.process) {
      cells = with_words
          (cells_of stacks r.process) r.cell ws;
    }) no_stack inside)

pub written_there : (stacks : Stacks) (r : Ref) (ws : List ℤ) (q : ℕ) → q ≢ r.process → cells_of (written stacks r ws) q ≡ cells_of stacks q
written_there stacks r ws q apart =
    ap (λ (s : Stack). s.cells) (get_or-set_other stacks r.process q (record (stack_of stacks r.process) {
      cells = with_words
          (cells_of stacks r.process) r.cell ws;
    }) no_stack apart)

module _ (g : Program) (sound : AreCounted g.state.forms) (homes : Homes) (entries : Entries) (store : Store) (stacks : Stacks) where
  pub there : (l : Location) (t : Option TypeId) (r : Ref) → MemoryIs g homes entries store stacks → Lives entries l.activation
      → Lies g homes l t r → r.process < length stacks
  there l t r memory lives lies =
      let f = found g sound homes entries store stacks l t r memory lives lies in
      let over : 8 ≤ r.cell = f.over in
      let size : length (cells_of stacks r.process) ≡ length f.before + length (words_of (value_at store l) ++ f.after) = ap length f.reads
      ∙ length-append f.before (words_of (value_at store l) ++ f.after) in
      let place : length f.before ≡ r.cell = f.place in
      process_there stacks r.process (omega (arith, over, size, place))

  pub written_cells : (l : Location) (t : Option TypeId) (r : Ref) (v : Value) (f : Found g homes entries store stacks l t r) → Fits g.state.forms t v
      → f.before ++ (words_of v ++ f.after) ≡ with_words (cells_of stacks r.process) r.cell (words_of v)
  written_cells l t r v f n =
      over_written f.before (words_of (value_at store l)) f.after (words_of v) (cells_of stacks r.process) r.cell f.place
      (words_fit g.state.forms sound t v n ∙ sym (words_fit g.state.forms sound t (value_at store l) f.is)) f.reads

  -- the stacks hold what was written, whichever process wrote it
  pub writes : (l : Location) (t : Option TypeId) (r : Ref) (v : Value) → MemoryIs g homes entries store stacks → Lives entries l.activation
      → Lies g homes l t r → Fits g.state.forms t v
      → MemoryIs g homes entries (stored store l v) (written stacks r (words_of v))
  writes l t r v memory lives lies n q =
      let f = found g sound homes entries store stacks l t r memory lives lies in
      elim (same_or_not q r.process) [
        | same equal ↦
            subst (λ p. ProcessIs g homes (stored store l v) p (entries p) (cells_of (written stacks r (words_of v)) p)) (sym equal)
            (process_has g homes (stored store l v) r.process (entries r.process) (cells_of (written stacks r (words_of v)) r.process) (subst
            (λ ws. CellsAre g homes (stored store l v) r.process (entries r.process) ws)
            (written_cells l t r v f n ∙ sym (written_here stacks r (words_of v) (there l t r memory lives lies))) (f.becomes v n)))
        | other apart ↦
            let home : lies.home.process ≡ r.process = sym (ap (λ (x : Ref). x.process) lies.place) in
            subst (λ ws. ProcessIs g homes (stored store l v) q (entries q) ws) (sym (written_there stacks r (words_of v) q apart))
            (process_kept g sound homes store (stored store l v) q (entries q) (cells_of stacks q) l.activation lies.home lies.is.at
            (λ mine. apart (sym mine ∙ home)) (f.others v) (memory q))
      ]

  -- the cells give what was written
  pub gives : (l : Location) (t : Option TypeId) (r : Ref) (v : Value) → MemoryIs g homes entries store stacks → Lives entries l.activation
      → Lies g homes l t r → Fits g.state.forms t v
      → cells_at (written stacks r (words_of v)) r (type_cells g.state.forms t) ≡ words_of v
  gives l t r v memory lives lies n =
      let f = found g sound homes entries store stacks l t r memory lives lies in
      middle_read f.before (words_of v) f.after (cells_of (written stacks r (words_of v)) r.process) r.cell (type_cells g.state.forms t) f.place
      (words_fit g.state.forms sound t v n)
      (written_here stacks r (words_of v) (there l t r memory lives lies) ∙ sym (written_cells l t r v f n))
