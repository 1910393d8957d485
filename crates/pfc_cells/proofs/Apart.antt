-- Each location has one reference, and those that are apart share no cell.
use Rattle.std.proofs.Common.{◌≡◌, ◌≢◌, ℕ, zero, suc, ◌+◌, ◌≤◌, ◌<◌, true, false, ℤ, List, [], ◌∷◌, ◌++◌, length, slice_get, Option, Some, refl, sym, ap, ap₂}
use Rattle.std.proofs.Common.{◌∙◌, subst, arith, length-append, ◌⊎◌, inl, inr}
use Rattle.std.proofs.lemmas.List.Sums.{sum_by-cons}
use Rattle.pfc_types.specs.Types.{Forms}
use Rattle.pfc_types.specs.rules.Declarations.{name_cells}
use Rattle.pfc_types.specs.declared.types.TypeId.{TypeId}
use Rattle.pfc_types.specs.declared.scope.Meaning.{Meaning}
use Rattle.pfc_types.specs.declared.scope.Meaning.TheVariants.{Variable, Process}
use Rattle.pfc_semantics.specs.Layouts.{Layout, is_laid}
use Rattle.pfc_semantics.specs.Programs.{Program, layout_cells}
use Rattle.pfc_semantics.specs.Values.{Location, path_of}
use Rattle.pfc_semantics.specs.Store.{Store, values_in}
use Rattle.pfc_translation.specs.Sites.{is_reference, type_cells}
use Rattle.pfc_stacks.specs.declared.refs.Ref.{Ref}
use Rattle.pfc_stacks.specs.Stacks.{Stacks, own_cells, cells_of}
use Rattle.pfc_cells.specs.Shapes.{AreCounted, IsPath}
use Rattle.pfc_cells.specs.Homes.{Home, Homes, IsLocation, Lies, AreApart, SharesNone, layout_at, cells_before, laid_type}
use Rattle.pfc_cells.specs.Memory.{Entry, Entries, CellsAre, IsAmong, Lives, MemoryIs}
use Rattle.pfc_cells.proofs.Numbers.{same, other, same_or_not}
use Rattle.pfc_cells.proofs.Paths.{equal, before, behind, order_of, EndsBefore, moved, path_within, path_once, paths_apart, place_there, some_same}
use Rattle.pfc_cells.proofs.Variables.{cells_next}
use Rattle.pfc_cells.proofs.Blocks.{on_stack, cells_among, block_length, later}

-- ## One reference

module _ (g : Program) (homes : Homes) where
  one_place :
      (l : Location) (t u : Option TypeId) (home home' : Home) (o p : ℕ) → IsLocation g homes l t home o → IsLocation g homes l u home' p
      → (t ≡ u) × (home ≡ home') × (o ≡ p)
  one_place l t u home home' o p x y =
      let h : home' ≡ home = some_same home' home (sym y.at ∙ x.at) in
      let m : y.meaning ≡ x.meaning = some_same y.meaning x.meaning (sym y.laid ∙ ap (λ (z : Home). slice_get (layout_at g z) l.variable) h ∙ x.laid) in
      let path : IsPath g.state.forms (laid_type x.meaning) (path_of l.selectors) u p = subst (λ (z : Meaning). IsPath g.state.forms (laid_type z)
      (path_of l.selectors) u p) m y.path in
      let once = path_once g.state.forms x.path path in
      (once.0, sym h, once.1)

  pub one_reference : (l : Location) (t u : Option TypeId) (r s : Ref) → Lies g homes l t r → Lies g homes l u s → (t ≡ u) × (r ≡ s)
  one_reference l t u r s x y =
      let both = one_place l t u x.home y.home x.behind y.behind x.is y.is in (
        both.0,
        x.place ∙ ap₂ (λ (h : Home) (o : ℕ).
            (let q : Ref = record {
              process = h.process;
              cell = h.cell + own_cells + cells_before g.state.forms
                  (layout_at g h) l.variable + o;
            } in q)) both.1 both.2 ∙ sym y.place,
      )

-- ## Variables of one activation

module _ (forms : Forms) where
  -- a variable ends before those behind it begin
  pub variable_within : (layout : Layout) (i j : ℕ) (m : Meaning) → slice_get layout i ≡ Some m → i < j
      → cells_before forms layout i + name_cells forms m ≤ cells_before forms layout j
  variable_within [] i j m there below = absurd (cc)
  variable_within (x ∷ layout) i zero m there below = absurd (omega (arith, below))
  variable_within (x ∷ layout) zero (suc j) m there below =
      let one : x ≡ m = cc in
      let next : cells_before forms (x ∷ layout) (suc j) ≡ name_cells forms m + cells_before forms layout j = cells_next forms x layout j
      ∙ ap (λ (y : Meaning). name_cells forms y + cells_before forms layout j) one in
      let none : cells_before forms (x ∷ layout) 0 ≡ 0 = refl in
      omega (arith, next, none)
  variable_within (x ∷ layout) (suc i) (suc j) m there below =
      let inner = variable_within layout i j m there (omega (arith, below)) in
      let next : cells_before forms (x ∷ layout) (suc j) ≡ name_cells forms x + cells_before forms layout j = cells_next forms x layout j in
      let first : cells_before forms (x ∷ layout) (suc i) ≡ name_cells forms x + cells_before forms layout i = cells_next forms x layout i in
      omega (arith, inner, next, first)

  all_before : (layout : Layout) → cells_before forms layout (length layout) ≡ layout_cells forms layout
  all_before [] = refl
  all_before (x ∷ layout) = cells_next forms x layout (length layout) ∙ ap (λ n. name_cells forms x + n) (all_before layout)
      ∙ sym (sum_by-cons (λ (y : Meaning). name_cells forms y) x layout)

  named_cells : (m : Meaning) → is_laid m ≡ true → is_reference m ≡ false → name_cells forms m ≡ type_cells forms (laid_type m)
  named_cells (Variable t false) laid own = refl
  named_cells (Variable t true) laid own = absurd (cc)
  named_cells (Process n) laid own = refl
  named_cells m laid own = absurd (cc)

module _ (g : Program) (sound : AreCounted g.state.forms) (homes : Homes) where
  -- a location ends where its variable ends
  ends_within :
      (l : Location) (t : Option TypeId) (home : Home) (o : ℕ) (x : IsLocation g homes l t home o)
      → o + type_cells g.state.forms t ≤ name_cells g.state.forms x.meaning
  ends_within l t home o x =
      let path : o + type_cells g.state.forms t ≤ type_cells g.state.forms (laid_type x.meaning) = path_within g.state.forms sound x.path in
      let named : name_cells g.state.forms x.meaning ≡ type_cells g.state.forms (laid_type x.meaning) = named_cells g.state.forms x.meaning x.variable x.own in
      omega (arith, path, named)

  -- and that ends within its block
  pub ends_in_block :
      (l : Location) (t : Option TypeId) (home : Home) (o : ℕ) → IsLocation g homes l t home o
      → cells_before g.state.forms (layout_at g home) l.variable + o + type_cells g.state.forms t ≤ layout_cells g.state.forms (layout_at g home)
  ends_in_block l t home o x =
      let inner : o + type_cells g.state.forms t ≤ name_cells g.state.forms x.meaning = ends_within l t home o x in
      let whole = variable_within g.state.forms (layout_at g home) l.variable (length (layout_at g home)) x.meaning x.laid (place_there
      (layout_at g home) l.variable x.meaning x.laid) in
      let all = all_before g.state.forms (layout_at g home) in
      omega (arith, inner, whole, all)

  -- the places of two locations of one activation
  one_block :
      (l m : Location) (t u : Option TypeId) (home : Home) (o p : ℕ) → IsLocation g homes l t home o → IsLocation g homes m u home p
      → l.activation ≡ m.activation → AreApart l m
      → EndsBefore (cells_before g.state.forms (layout_at g home) l.variable + o) (type_cells g.state.forms t) (cells_before g.state.forms
      (layout_at g home) m.variable + p) (type_cells g.state.forms u)
  one_block l m t u home o p x y one apart =
      let mine : o + type_cells g.state.forms t ≤ name_cells g.state.forms x.meaning = ends_within l t home o x in
      let theirs : p + type_cells g.state.forms u ≤ name_cells g.state.forms y.meaning = ends_within m u home p y in
      elim (order_of l.variable m.variable) [
        | equal alike ↦
            let meaning : y.meaning ≡ x.meaning = some_same y.meaning x.meaning (sym y.laid ∙ ap (λ k. slice_get (layout_at g home) k) (sym alike) ∙ x.laid) in
            let path : IsPath g.state.forms (laid_type x.meaning) (path_of m.selectors) u p = subst (λ (z : Meaning). IsPath g.state.forms
            (laid_type z) (path_of m.selectors) u p) meaning y.path in
            subst (λ k. EndsBefore (cells_before g.state.forms (layout_at g home) l.variable + o) (type_cells g.state.forms t)
            (cells_before g.state.forms (layout_at g home) k + p) (type_cells g.state.forms u)) alike
            (moved (cells_before g.state.forms (layout_at g home) l.variable) o (type_cells g.state.forms t) p (type_cells g.state.forms u)
            (paths_apart g.state.forms sound x.path path (λ b. apart.0 (one, alike, b)) (λ b. apart.1 (sym one, sym alike, b))))
        | before less ↦
            let end = variable_within g.state.forms (layout_at g home) l.variable m.variable x.meaning x.laid less in
            inl (omega (arith, mine, end))
        | behind more ↦
            let end = variable_within g.state.forms (layout_at g home) m.variable l.variable y.meaning y.laid more in
            inr (omega (arith, theirs, end))
      ]

-- ## Activations of one process

module _ (g : Program) (sound : AreCounted g.state.forms) (homes : Homes) (store : Store) (q : ℕ) where
  -- where an activation's cells end
  abbrev end_of : Home → ℕ
  end_of home = home.cell + own_cells + layout_cells g.state.forms (layout_at g home)

  -- which is among those of its process
  ends_on : (entries : List Entry) (cells : List ℤ) (a : ℕ) (home : Home) → homes a ≡ Some home → IsAmong a entries
      → CellsAre g homes store q entries cells → end_of home ≤ length cells
  ends_on entries cells a home at among h =
      let on = on_stack g sound homes store q entries cells a home at among h in
      let block : length on.block ≡ layout_cells g.state.forms (layout_at g home) = block_length g sound homes (layout_at g home)
      (values_in store a) on.block on.holds in
      let place : length on.before ≡ home.cell + 8 = on.place in
      let whole : length cells ≡ length on.before + (length on.block + length on.after) = ap length on.reads
      ∙ length-append on.before (on.block ++ on.after) ∙ ap (λ n. length on.before + n) (length-append on.block on.after) in
      omega (arith, block, place, whole)

  -- of two, the one ends before the own cells of the other begin
  pub two_blocks :
      (entries : List Entry) (cells : List ℤ) (a b : ℕ) (home home' : Home) → homes a ≡ Some home → homes b ≡ Some home' → a ≢ b
      → IsAmong a entries → IsAmong b entries
      → CellsAre g homes store q entries cells → (end_of home ≤ home'.cell) ⊎ (end_of home' ≤ home.cell)
  two_blocks [] cells a b home home' at at' apart one two h = absurd one
  two_blocks (e ∷ below) cells a b home home' at at' apart one two h =
      elim (same_or_not e.activation a) [
        | same first ↦
            let top : h.2.home ≡ home = some_same h.2.home home (sym h.2.at ∙ ap homes first ∙ at) in
            let place : home.cell ≡ length h.0 = ap (λ (x : Home). x.cell) (sym top) ∙ h.2.place in
            let under : end_of home' ≤ length h.0 = ends_on below h.0 b home' at' (later e below b (λ f. apart (sym first ∙ f)) two) h.1 in
            inr (omega (arith, place, under))
        | other not_first ↦
            elim (same_or_not e.activation b) [
              | same second ↦
                  let top : h.2.home ≡ home' = some_same h.2.home home' (sym h.2.at ∙ ap homes second ∙ at') in
                  let place : home'.cell ≡ length h.0 = ap (λ (x : Home). x.cell) (sym top) ∙ h.2.place in
                  let under : end_of home ≤ length h.0 = ends_on below h.0 a home at (later e below a not_first one) h.1 in
                  inl (omega (arith, place, under))
              | other not_second ↦ two_blocks below h.0 a b home home' at at' apart (later e below a not_first one) (later e below b not_second two) h.1
            ]
      ]

-- ## Two locations

module _ (g : Program) (sound : AreCounted g.state.forms) (homes : Homes) (entries : Entries) (store : Store) (stacks : Stacks) where
  among_its : (a : ℕ) (home : Home) (q : ℕ) → homes a ≡ Some home → MemoryIs g homes entries store stacks → IsAmong a (entries q)
      → IsAmong a (entries home.process)
  among_its a home q at memory among =
      let on = on_stack g sound homes store q (entries q) (cells_of stacks q) a home at among (cells_among g homes store q (entries q)
      (cells_of stacks q) a among (memory q)) in
      subst (λ p. IsAmong a (entries p)) (sym on.process) among

  homes_apart :
      (l m : Location) (t u : Option TypeId) (home home' : Home) (o p : ℕ) → MemoryIs g homes entries store stacks → Lives entries l.activation
      → Lives entries m.activation
      → IsLocation g homes l t home o → IsLocation g homes m u home' p → AreApart l m → home.process ≡ home'.process
      → EndsBefore (home.cell + own_cells + cells_before g.state.forms (layout_at g home) l.variable + o) (type_cells g.state.forms t)
      (home'.cell + own_cells + cells_before g.state.forms (layout_at g home') m.variable + p) (type_cells g.state.forms u)
  homes_apart l m t u home home' o p memory one two x y apart process =
      elim (same_or_not l.activation m.activation) [
        | same alike ↦
            let h : home' ≡ home = some_same home' home (sym y.at ∙ ap homes (sym alike) ∙ x.at) in
            let theirs : IsLocation g homes m u home p = subst (λ (z : Home). IsLocation g homes m u z p) h y in
            subst (λ (z : Home). EndsBefore (home.cell + own_cells + cells_before g.state.forms (layout_at g home) l.variable + o) (type_cells g.state.forms t)
            (z.cell + own_cells + cells_before g.state.forms (layout_at g z) m.variable + p) (type_cells g.state.forms u)) (sym h)
            (subst (λ n. EndsBefore n (type_cells g.state.forms t) (home.cell + own_cells + cells_before g.state.forms
            (layout_at g home) m.variable + p) (type_cells g.state.forms u)) (omega arith)
            (subst (λ n. EndsBefore (home.cell + own_cells + (cells_before g.state.forms (layout_at g home) l.variable + o))
            (type_cells g.state.forms t) n (type_cells g.state.forms u)) (omega arith)
            (moved (home.cell + own_cells) (cells_before g.state.forms (layout_at g home) l.variable + o) (type_cells g.state.forms t)
            (cells_before g.state.forms (layout_at g home) m.variable + p) (type_cells g.state.forms u)
            (one_block g sound homes l m t u home o p x theirs alike apart))))
        | other distinct ↦
            let mine : IsAmong l.activation (entries home.process) = among_its l.activation home one.0 x.at memory one.1 in
            let theirs : IsAmong m.activation (entries home.process) = subst (λ q. IsAmong m.activation (entries q)) (sym process)
            (among_its m.activation home' two.0 y.at memory two.1) in
            let first = ends_in_block g sound homes l t home o x in
            let second = ends_in_block g sound homes m u home' p y in
            elim (two_blocks g sound homes store home.process (entries home.process)
            (cells_of stacks home.process) l.activation m.activation home home' x.at y.at distinct mine theirs
            (cells_among g homes store home.process (entries home.process) (cells_of stacks home.process) l.activation mine (memory home.process))) [
              | inl h ↦ inl (omega (arith, h, first))
              | inr h ↦ inr (omega (arith, h, second))
            ]
      ]

  -- locations of living activations that are apart share no cell
  pub share_none :
      (l m : Location) (t u : Option TypeId) (r s : Ref) → MemoryIs g homes entries store stacks → Lives entries l.activation → Lives entries m.activation
      → Lies g homes l t r → Lies g homes m u s → AreApart l m → SharesNone r (type_cells g.state.forms t) s (type_cells g.state.forms u)
  share_none l m t u r s memory one two x y apart process =
      let homes_one : x.home.process ≡ y.home.process = sym (ap (λ (z : Ref). z.process) x.place) ∙ process ∙ ap (λ (z : Ref). z.process) y.place in
      subst (λ (z : Ref). EndsBefore r.cell (type_cells g.state.forms t) z.cell (type_cells g.state.forms u)) (sym y.place)
      (subst (λ (z : Ref). EndsBefore z.cell (type_cells g.state.forms t) (y.home.cell + own_cells + cells_before g.state.forms
      (layout_at g y.home) m.variable + y.behind) (type_cells g.state.forms u)) (sym x.place)
      (homes_apart l m t u x.home y.home x.behind y.behind memory one two x.is y.is apart homes_one))
