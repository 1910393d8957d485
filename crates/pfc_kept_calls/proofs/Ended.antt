-- The innermost activation of a process ends: nobody keeps it, and what the others see stays.
use Rattle.std.proofs.Common.{◌≡◌, ◌≢◌, ℕ, zero, suc, ◌+◌, ◌*◌, ◌%◌, ◌^◌, ◌<◌, ◌≤◌, ℤ, pos, Bool, true, false, List, [], ◌∷◌, ◌++◌, length, length-append}
use Rattle.std.proofs.Common.{slice_get, get_or, Some, None, refl, sym, ap, ap₂, ◌∙◌, subst, arith, inl, inr}
use Rattle.std.proofs.lemmas.List.{get_or-append-add, get_or_append_left}
use Rattle.pfc_types.specs.declared.scope.Meaning.{Meaning}
use Rattle.pfc_types.specs.declared.scope.Meaning.TheVariants.{Variable, Process}
use Rattle.pfc_world.specs.Tables.{Table, at}
use Rattle.pfc_semantics.specs.Values.{Selector, Value, path_of}
use Rattle.pfc_semantics.specs.Layouts.{Layout, is_laid}
use Rattle.pfc_semantics.specs.Programs.{Program, block_at}
use Rattle.pfc_semantics.specs.Store.{Store, values_in, without}
use Rattle.pfc_semantics.specs.Configurations.{Activation}
use Rattle.pfc_code.specs.declared.instructions.Instr.TheVariants.{END}
use Rattle.pfc_stacks.specs.declared.refs.Ref.{Ref}
use Rattle.pfc_stacks.specs.Refs.{number_of}
use Rattle.pfc_stacks.specs.Stacks.{Stacks, stack_of, cells_of, own_cells, own_word}
use Rattle.pfc_cells.specs.Homes.{Home, Homes, layout_at, laid_type, cells_before}
use Rattle.pfc_cells.specs.Shapes.{IsPath}
use Rattle.pfc_cells.specs.Memory.{Entry, Entries, IsAmong, AreCells, CellsAre, ProcessIs}
use Rattle.pfc_cells.specs.Activations.{with_entries}
use Rattle.pfc_cells.proofs.Kept.{has_home}
use Rattle.pfc_machines.specs.declared.alternatives.Alternative.{Alternative}
use Rattle.pfc_machines.specs.declared.rooms.Room.{Room}
use Rattle.pfc_machines.specs.Communications.{Communicating}
use Rattle.pfc_standing_code.specs.Shapes.{is_object_type}
use Rattle.pfc_standing_code.specs.Effects.{Arm}
use Rattle.pfc_views.specs.Views.{own_place, IsLiving, latest}
use Rattle.pfc_views.specs.Keeping.{IsLike}
use Rattle.pfc_views.proofs.Changes.{ended}
use Rattle.pfc_views.proofs.Living.{own_of}
use Rattle.pfc_call_laws.specs.Calls.{HasNoObjects, first_home}
use Rattle.pfc_representation.specs.Levels.{Facts, program_in, LivingLevel, room_of, MayKeep, of_main, of_own as of_own_stack, lent as lent_by}
use Rattle.pfc_representation.specs.Rooms.{guards_room}
use Rattle.pfc_representation.specs.Alternatives.{AreMade, none_made, one_made}
use Rattle.pfc_representation.specs.Callers.{ending_of, Linkage, StandsFor, IsCalled, IsWithin, AreCallers}
use Rattle.pfc_representation.specs.Machines.{HoldsStore}
use Rattle.pfc_representation.specs.Keeping.{IsLender, meets, meets_lender}
use Rattle.pfc_kept_calls.proofs.Tops.{cells_of_all}

-- ## Its caller

pub record HasCaller (facts : Facts) (homes : Homes) (entries : Entries) (store : Store) (table : Table) (p room : ℕ) (level : LivingLevel) (w : ℤ)
    (last : Communicating) (xs : List Activation) (es : List Entry) : Type 0 where
  pub top : Activation
  pub next : Activation
  pub rest : List Activation
  pub entry : Entry
  pub under : Entry
  pub below : List Entry
  pub activations : xs ≡ top ∷ (next ∷ rest)
  pub entries_are : es ≡ entry ∷ (under ∷ below)
  pub outer : LivingLevel
  pub v : ℤ
  pub earlier : Communicating
  pub called : IsCalled facts homes entries store table p room (length (top ∷ (next ∷ rest))) level w last top next entry (under ∷ below) outer v earlier
  pub within : IsWithin facts outer called.own.address earlier
  pub others : AreCallers facts homes entries store table p room outer v earlier (next ∷ rest) (under ∷ below)

module _ (facts : Facts) (homes : Homes) (entries : Entries) (store : Store) (table : Table) (p room : ℕ) where
  -- the end of the first is that of its process
  pub caller_of : (level : LivingLevel) (w : ℤ) (last : Communicating) (xs : List Activation) (es : List Entry) → (level.setting.last ≡ END → ⊥)
      → AreCallers facts homes entries store table p room level w last xs es
      → HasCaller facts homes entries store table p room level w last xs es
  caller_of level w last [] es more is = absurd is
  caller_of level w last (a ∷ xs) [] more is = absurd is
  caller_of level w last (a ∷ []) (e ∷ []) more is = absurd (more (is.stands.last ∙ ap ending_of is.waits))
  caller_of level w last (a ∷ []) (e ∷ f ∷ es) more is = absurd is
  caller_of level w last (a ∷ b ∷ xs) (e ∷ []) more is = absurd is
  caller_of level w last (a ∷ b ∷ xs) (e ∷ f ∷ es) more (outer, v, earlier, called, at, others) = record {
    top = a;
    next = b;
    rest = xs;
    entry = e;
    under = f;
    below = es;
    activations = refl;
    entries_are = refl;
    outer = outer;
    v = v;
    earlier = earlier;
    called = called;
    within = at;
    others = others;
  }

  -- how the first of them stands
  pub first_stands : (level : LivingLevel) (w : ℤ) (last : Communicating) (a : Activation) (xs : List Activation) (e : Entry) (es : List Entry)
      → AreCallers facts homes entries store table p room level w last (a ∷ xs) (e ∷ es)
      → (own : Linkage) × StandsFor facts homes store p a e w own level
  first_stands level w last a [] e [] is = (is.own, is.stands)
  first_stands level w last a [] e (f ∷ es) is = absurd is
  first_stands level w last a (b ∷ xs) e [] is = absurd is
  first_stands level w last a (b ∷ xs) e (f ∷ es) (outer, v, earlier, called, at, others) = (called.own, called.stands)

  -- the operands of a level fit
  pub operands_fit : (level : LivingLevel) (w : ℤ) (last : Communicating) (xs : List Activation) (es : List Entry)
      → AreCallers facts homes entries store table p room level w last xs es
      → room_of level + guards_room facts ≤ room
  operands_fit level w last [] es is = absurd is
  operands_fit level w last (a ∷ xs) [] is = absurd is
  operands_fit level w last (a ∷ []) (e ∷ []) is = is.fits.operands
  operands_fit level w last (a ∷ []) (e ∷ f ∷ es) is = absurd is
  operands_fit level w last (a ∷ b ∷ xs) (e ∷ []) is = absurd is
  operands_fit level w last (a ∷ b ∷ xs) (e ∷ f ∷ es) (outer, v, earlier, called, at, others) = called.fits.operands

-- ## What it has made

not_empty : (xs : List Arm) (x : Arm) → xs ++ x ∷ [] ≡ [] → ⊥
not_empty [] x h = (let both : x ∷ [] ≡ [] = h in cc)
not_empty (y ∷ xs) x h = (let both : y ∷ (xs ++ x ∷ []) ≡ [] = h in cc)

none_more : (depth : ℕ) (alternatives others : List Alternative) (words more : List ℤ) (arms : List Arm)
    → AreMade depth alternatives words arms others more → arms ≡ [] → (alternatives ≡ others) × (words ≡ more)
none_more depth _ _ _ _ _ none_made none = (refl, refl)
none_more depth _ _ _ _ _ (one_made arms before ws arm a message made is) none = absurd (not_empty arms arm none)

-- an activation that has made nothing leaves what there was
pub as_before : (depth : ℕ) (level : LivingLevel) (x y : Communicating) → level.arms ≡ [] → level.setting.meetings ≡ [] → (x.room ≡ y.room) ×
    (y.callers ≡ level.setting.meetings ++ x.callers)
    × AreMade depth x.alternatives x.words level.arms y.alternatives y.words → x ≡ y
as_before depth level x y none unmet made =
    let same = none_more depth x.alternatives y.alternatives x.words y.words level.arms made.2 none in
    let callers : x.callers ≡ y.callers = sym (made.1 ∙ ap (λ (qs : List ℕ). qs ++ x.callers) unmet) in
    ap (λ (z : List Alternative). record { alternatives = z; words = x.words; callers = x.callers; room = x.room }) same.0
    ∙ ap (λ (z : List ℤ). record { alternatives = y.alternatives; words = z; callers = x.callers; room = x.room }) same.1
    ∙ ap (λ (z : List ℕ). record { alternatives = y.alternatives; words = y.words; callers = z; room = x.room }) callers
    ∙ ap (λ (z : Room). record { alternatives = y.alternatives; words = y.words; callers = y.callers; room = z }) made.0

-- ## Who keeps it

-- who stands lower has a home lower
home_below : (g : Program) (homes : Homes) (store : Store) (q : ℕ) (es : List Entry) (cells : List ℤ) (a : ℕ) → CellsAre g homes store q es cells
    → IsAmong a es → (home : Home) × (homes a ≡ Some home) × (home.cell + 8 ≤ length cells)
home_below g homes store q [] cells a is among = absurd among
home_below g homes store q (e ∷ es) cells a (lower, inner, stands) (inl same) =
    let size : length cells ≡ length lower + length (e.own ++ stands.block) = ap (λ (l : List ℤ). length l) stands.is ∙ length-append lower
    (e.own ++ stands.block) in
    let more : length (e.own ++ stands.block) ≡ length e.own + length stands.block = length-append e.own stands.block in
    let own = stands.size in
    let place = stands.place in
    (stands.home, ap homes (sym same) ∙ stands.at, omega (arith, size, more, own, place))
home_below g homes store q (e ∷ es) cells a (lower, inner, stands) (inr among) =
    let size : length cells ≡ length lower + length (e.own ++ stands.block) = ap (λ (l : List ℤ). length l) stands.is ∙ length-append lower
    (e.own ++ stands.block) in
    let found = home_below g homes store q es lower a inner among in
    let less = found.2 in
    (found.0, found.1, omega (arith, size, less))

cells_laid : (g : Program) (homes : Homes) (layout : Layout) (values : List Value) (cells : List ℤ) (k : ℕ) (m : Meaning)
    → AreCells g homes layout values cells → slice_get layout k ≡ Some m → is_laid m ≡ true
cells_laid g homes [] values cells k m is there = (let none : None ≡ Some m = there in cc)
cells_laid g homes (n ∷ layout) [] cells k m is there = absurd is
cells_laid g homes (Variable t r ∷ layout) (v ∷ values) cells zero m is there = (let one : Variable t r ≡ m = (let both : Some
    (Variable t r) ≡ Some m = there in cc) in subst (λ (x : Meaning). is_laid x ≡ true) one refl)
cells_laid g homes (Process i ∷ layout) (v ∷ values) cells zero m is there = (let one : Process i ≡ m = (let both : Some
    (Process i) ≡ Some m = there in cc) in subst (λ (x : Meaning). is_laid x ≡ true) one refl)
cells_laid g homes (n ∷ layout) (v ∷ values) cells zero m is there = absurd is.3
cells_laid g homes (n ∷ layout) (v ∷ values) cells (suc k) m is there = cells_laid g homes layout values is.1 k m is.4 there

abbrev selectors_of : List ℕ → List Selector
selectors_of [] = []
selectors_of (i ∷ path) = record { place = i; index = pos 0 } ∷ selectors_of path

path_back : (path : List ℕ) → path_of (selectors_of path) ≡ path
path_back [] = refl
path_back (i ∷ path) = ap (λ rest. i ∷ rest) (path_back path)

module _ (facts : Facts) (homes : Homes) (entries : Entries) (store : Store) (stacks : Stacks) (done : ℕ)
    (holds : HoldsStore facts homes entries store stacks done) (p : ℕ) (e f : Entry) (below : List Entry)
    (living : entries p ≡ e ∷ (f ∷ below)) (home : Home) (home_at : homes e.activation ≡ Some home) where
  abbrev g : Program
  g = program_in facts

  cells : CellsAre g homes store p (e ∷ (f ∷ below)) (cells_of stacks p)
  cells = subst (λ (es : List Entry). ProcessIs g homes store p es (cells_of stacks p)) living (holds.memory p)

  home_is : cells.2.home ≡ home
  home_is = (let both : Some cells.2.home ≡ Some home = sym cells.2.at ∙ home_at in cc)

  place : home.cell ≡ length cells.0
  place = ap (λ (x : Home). x.cell) (sym home_is) ∙ cells.2.place

  -- it is not main's first
  pub not_main : e.activation ≢ 0
  not_main same =
      let first : home ≡ first_home 0 0 = (let both : Some home ≡ Some (first_home 0 0) = sym home_at ∙ ap homes same ∙ holds.main in cc) in
      let low : home.cell ≡ 0 = ap (λ (x : Home). x.cell) first in
      let some = cells_of_all g homes store p (f ∷ below) cells.0 cells.1 in
      let here = place in
      nothing (length below) (length cells.0) some (sym here ∙ low)
    where
      nothing : (n k : ℕ) → 8 * suc n ≤ k → k ≡ 0 → ⊥
      nothing n k h none = omega (arith, h, none)

  pub not_below : IsAmong e.activation (f ∷ below) → ⊥
  not_below among =
      let found = home_below g homes store p (f ∷ below) cells.0 e.activation cells.1 among in
      let one : found.0 ≡ home = (let both : Some found.0 ≡ Some home = sym found.1 ∙ home_at in cc) in
      let same : found.0.cell ≡ home.cell = ap (λ (x : Home). x.cell) one in
      let less = found.2 in
      let here = place in
      absurd (omega (arith, same, less, here))

  pub only_here : (q : ℕ) → q ≢ p → IsAmong e.activation (entries q) → ⊥
  only_here q apart among =
      let found = has_home g homes entries store stacks q e.activation holds.memory among in
      let one : found.0 ≡ home = (let both : Some found.0 ≡ Some home = sym found.1 ∙ home_at in cc) in
      apart (sym found.2 ∙ ap (λ (x : Home). x.process) one ∙ ap (λ (x : Home). x.process) (sym home_is) ∙ cells.2.process)

  -- and what stands where it stands is this one
  pub only_there : (a q : ℕ) (there : Home) → IsAmong a (entries q) → homes a ≡ Some there → own_place there ≡ own_place home → e.activation ≡ a
  only_there a q there among at same = by (subst (λ (es : List Entry). IsAmong a es) living (subst (λ n. IsAmong a (entries n)) process among))
    where
      process : q ≡ p
      process =
          let found = has_home g homes entries store stacks q a holds.memory among in
          let one : found.0 ≡ there = (let both : Some found.0 ≡ Some there = sym found.1 ∙ at in cc) in
          sym found.2 ∙ ap (λ (x : Home). x.process) one ∙ ap (λ (r : Ref). r.process) same ∙ ap (λ (x : Home). x.process) (sym home_is)
          ∙ cells.2.process

      by : IsAmong a (e ∷ (f ∷ below)) → e.activation ≡ a
      by (inl is) = is
      by (inr lower) =
          let found = home_below g homes store p (f ∷ below) cells.0 a cells.1 lower in
          let one : found.0 ≡ there = (let both : Some found.0 ≡ Some there = sym found.1 ∙ at in cc) in
          let its : found.0.cell ≡ home.cell = ap (λ (x : Home). x.cell) one ∙ ap (λ (r : Ref). r.cell) same in
          let less = found.2 in
          let here = place in
          absurd (omega (arith, its, less, here))

  -- no object is among its variables
  pub no_objects : HasNoObjects g (block_at g home.scope)
  no_objects k m path t o laid own path_is = by (is_object_type g.state.forms t) refl
    where
      its : AreCells g homes (layout_at g home) (values_in store e.activation) cells.2.block
      its = subst (λ (x : Home). AreCells g homes (layout_at g x) (values_in store e.activation) cells.2.block) home_is cells.2.holds

      by : (x : Bool) → is_object_type g.state.forms t ≡ x → is_object_type g.state.forms t ≡ false
      by false is = is
      by true is = absurd (not_main (holds.mains (record { activation = e.activation; variable = k; selectors = selectors_of path }) t
          (record { process = home.process; cell = home.cell + own_cells + cells_before g.state.forms (layout_at g home) k + o })
          (record {
            home = home;
            behind = o;
            is = record {
              at = home_at;
              meaning = m;
              laid = laid;
              variable = cells_laid g homes (layout_at g home) (values_in store e.activation) cells.2.block k m its laid;
              own = own;
              path = subst (λ (xs : List ℕ). IsPath g.state.forms (laid_type m) xs t o) (sym (path_back path)) path_is;
            };
            place = refl;
          }) is))

  module _ (table : Table) where
    -- nobody keeps it who does not stand over it
    kept_apart : (q : ℕ) (lenders : List ℕ) (mine : List Entry) (a : ℕ) → MayKeep table entries q lenders mine a → (IsAmong e.activation mine → ⊥) →
        ((r : ℕ) → IsLender table q r → r ≢ p) → a ≢ e.activation
    kept_apart _ _ _ _ (of_main q lenders mine) apart others same = not_main (sym same)
    kept_apart _ _ _ _ (of_own_stack q lenders mine a among) apart others same = apart (subst (λ n. IsAmong n mine) same among)
    kept_apart _ _ _ _ (lent_by q lenders mine a k r more there met inner) apart others same =
        kept_apart r more (entries r) a inner (only_here r (others r (meets q r met))) (λ s lender. others s (meets_lender q r s met lender)) same

    -- so what others see stays
    pub like_ended : (q : ℕ) (mine : List Entry) → (IsAmong e.activation mine → ⊥) → ((r : ℕ) → IsLender table q r → r ≢ p) → (keeps : ℕ → Bool)
        → ((a : ℕ) → keeps a ≡ true → (lenders : List ℕ) × MayKeep table entries q lenders mine a)
        → IsLike g keeps homes homes entries (with_entries entries p (f ∷ below)) store (without store e.activation)
    like_ended q mine apart others keeps these = ended g keeps homes entries store p e (f ∷ below) living (by (keeps e.activation) refl)
      where
        by : (x : Bool) → keeps e.activation ≡ x → keeps e.activation ≡ false
        by false is = is
        by true is = absurd (let it = these e.activation is in kept_apart q it.0 mine e.activation it.1 apart others refl)

  -- ## Its own cells

  pub own_is : home.cell ≡ (stack_of stacks p).base → (k : ℕ) → k < 8 → own_word (stack_of stacks p) k ≡ get_or e.own k (pos 0)
  own_is base k few =
      let own = own_of g homes entries store stacks p e home holds.memory home_at (subst (λ (es : List Entry). IsLiving e es) (sym living) (latest
      (f ∷ below))) in
      let inside : k < length e.own = (let size : length e.own ≡ 8 = own.size in omega (arith, few, size)) in
      ap₂ (λ cells n. get_or cells (n + k) (pos 0)) own.reads (sym base ∙ sym own.place)
      ∙ get_or-append-add own.before (e.own ++ own.after) k (pos 0) ∙ get_or_append_left e.own own.after (pos 0) k inside

  -- the caller stands lower, at an address
  pub caller_small : (there : Home) → homes f.activation ≡ Some there → there.cell < 2 ^ 32
  caller_small there at =
      let found = home_below g homes store p (f ∷ below) cells.0 f.activation cells.1 (inl refl) in
      let one : found.0 ≡ there = (let both : Some found.0 ≡ Some there = sym found.1 ∙ at in cc) in
      let same : found.0.cell ≡ there.cell = ap (λ (x : Home). x.cell) one in
      let less = found.2 in
      let all : length (cells_of stacks p) < 2 ^ 32 = holds.few.cells p in
      let size : length (cells_of stacks p) ≡ length cells.0 + length (e.own ++ cells.2.block) = ap (λ (l : List ℤ). length l) cells.2.is
      ∙ length-append cells.0 (e.own ++ cells.2.block) in
      bound found.0.cell there.cell (length cells.0) (length (cells_of stacks p)) (length (e.own ++ cells.2.block)) same less all size
    where
      bound : (x y n k i : ℕ) → x ≡ y → x + 8 ≤ n → k < 2 ^ 32 → k ≡ n + i → y < 2 ^ 32
      bound x y n k i h l few size = omega (arith, h, l, few, size)

pub number_back : (n : ℕ) → n < 2 ^ 32 → number_of (pos n) ≡ n
number_back n h = small n h
  where
    small : (n : ℕ) → n < 2 ^ 32 → n % 2 ^ 32 ≡ n
    small n h = omega (arith, h)
