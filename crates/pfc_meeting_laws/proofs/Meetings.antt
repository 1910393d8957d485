-- The parameters of an accept take what a caller passes.
use Rattle.std.proofs.Common.{◌≡◌, ◌≢◌, ℕ, zero, suc, ◌+◌, ◌^◌, ◌<◌, ◌≤◌, ℤ, pos, Bool, true, false, List, [], ◌∷◌, ◌++◌, length, get_or, set, slice_get}
use Rattle.std.proofs.Common.{Option, Some, refl, sym, ap, ap₂, ◌∙◌, subst, arith, length-append}
use Rattle.std.proofs.lemmas.List.{length-set}
use Rattle.pfc_types.specs.declared.types.TypeId.{TypeId}
use Rattle.pfc_semantics.specs.Values.{Value, Location, ordinal, part, path_of}
use Rattle.pfc_semantics.specs.Store.{Store, values_in, with_values}
use Rattle.pfc_semantics.specs.Layouts.{Layout}
use Rattle.pfc_semantics.specs.Displays.{Display}
use Rattle.pfc_semantics.specs.Programs.{Block, Program, block_at, layout_cells}
use Rattle.pfc_semantics.specs.Rendezvous.{taken_from}
use Rattle.pfc_stacks.specs.declared.refs.Ref.{Ref}
use Rattle.pfc_stacks.specs.Stacks.{Stack, Stacks, stack_of, cells_of, with_words, written, own_cells}
use Rattle.pfc_cells.specs.Homes.{Home, Homes, Lies, layout_at}
use Rattle.pfc_cells.specs.Memory.{AreCells, Entries, Lives, CellsAre, ProcessIs, MemoryIs}
use Rattle.pfc_cells.proofs.Numbers.{same, other, same_or_not}
use Rattle.pfc_cells.proofs.Lists.{nested, over_written}
use Rattle.pfc_cells.proofs.Stores.{values_kept}
use Rattle.pfc_cells.proofs.Blocks.{Others, OnStack, block_length, process_has, process_kept}
use Rattle.pfc_cells.proofs.Reading.{on_its_process, process_there, written_here, written_there}
use Rattle.pfc_standing_code.specs.Shapes.{is_object_type}
use Rattle.pfc_standing_code.specs.Settings.{View, Setting}
use Rattle.pfc_views.specs.Views.{Sees, AreObjects, AreFew}
use Rattle.pfc_views.specs.Keeping.{IsLike}
use Rattle.pfc_views.proofs.Kept.{sees_still}
use Rattle.pfc_stack_laws.specs.Standing.{HoldStore}
use Rattle.pfc_stack_laws.proofs.Moves.{same_cells}
use Rattle.pfc_call_laws.specs.Calls.{HasNoObjects}
use Rattle.pfc_call_laws.proofs.Layouts.{cells_joined}
use Rattle.pfc_meeting_laws.specs.Meetings.{StandIn}
use Rattle.pfc_meeting_laws.proofs.Taking.{taken_length, taken_between, values_now, Halves, halves, values_count}

some_same : {A : Type 0} (x y : A) → Some x ≡ Some y → x ≡ y
some_same x y h = cc

-- ## What others see

pub others_see :
    (g : Program) (keeps : ℕ → Bool) (homes : Homes) (entries : Entries) (store : Store) (a : ℕ) (new : List Value) (display : Display) (b : Block)
    (accepts : List ℕ) (w : ℤ) (chain : List ℕ) (view : View)
    → keeps a ≡ false → Sees g homes entries store keeps display b accepts w chain view → Sees g homes entries
    (with_values store a new) keeps display b accepts w chain view
others_see g keeps homes entries store a new display b accepts w chain view apart sees = sees_still g keeps homes homes entries entries store
    (with_values store a new) like display b accepts w chain view sees
  where
    differs : (x : ℕ) → keeps x ≡ true → x ≢ a
    differs x kept e = (let both : true ≡ false = sym kept ∙ ap keeps e ∙ apart in cc)

    like : IsLike g keeps homes homes entries entries store (with_values store a new)
    like =
        record {
          at_home = λ x home at. at;
          living = λ q e kept there. there;
          references = λ x k home t kept at laid. ap (λ (vs : List Value). get_or vs k (ordinal (pos 0))) (values_kept store a new x (differs x kept));
        }

-- a stack whose cells stay
cells_alike : (stacks : Stacks) (p : ℕ) (s : Stack) → s.cells ≡ cells_of stacks p → (q : ℕ) → cells_of (set stacks p s) q ≡ cells_of stacks q
cells_alike [] p s e q = refl
cells_alike (x ∷ stacks) zero s e zero = e
cells_alike (x ∷ stacks) zero s e (suc q) = refl
cells_alike (x ∷ stacks) (suc p) s e zero = refl
cells_alike (x ∷ stacks) (suc p) s e (suc q) = cells_alike stacks p s e q

-- ## The stacks

module _ (g : Setting) (homes : Homes) (entries : Entries) (store : Store) (stacks : Stacks) (a first : ℕ) (home : Home) (parameters : Layout)
    (args : List Value) (words : List ℤ)
    (there : StandIn (layout_at g.program home) parameters first) (hold : HoldStore g homes entries store stacks) (lives : Lives entries a)
    (at : homes a ≡ Some home)
    (none : HasNoObjects g.program (block_at g.program home.scope)) (holds : AreCells g.program homes parameters args words) where
  abbrev values : List Value
  values = values_in store a

  abbrev next : Store
  next = with_values store a (taken_from first args values)

  abbrev r : Ref
  r = record { process = home.process; cell = home.cell + own_cells + layout_cells g.program.state.forms there.before }

  abbrev layout : Layout
  layout = layout_at g.program home

  on : OnStack g.program homes store home.process (entries home.process) (cells_of stacks home.process) a home
  on = on_its_process g.program hold.types.counted homes entries store stacks a home lives.0 at hold.memory lives.1

  -- the cells of the block: those before the parameters, theirs, and those behind
  outer : Halves g.program homes there.before (parameters ++ there.behind) values on.block
  outer = halves g.program homes there.before (parameters ++ there.behind) values on.block
      (subst (λ (l : Layout). AreCells g.program homes l values on.block) there.is on.holds)

  inner : Halves g.program homes parameters there.behind outer.second outer.rest
  inner = halves g.program homes parameters there.behind outer.second outer.rest outer.holds_two

  abbrev new_block : List ℤ
  new_block = outer.words ++ (words ++ inner.rest)

  taken : taken_from first args values ≡ outer.first ++ (args ++ inner.second)
  taken =
      let place : first ≡ length outer.first = sym there.place ∙ sym (values_count g.program homes there.before outer.first outer.words outer.holds_one) in
      let count : length args ≡ length inner.first = values_count g.program homes parameters args words holds
      ∙ sym (values_count g.program homes parameters inner.first inner.words inner.holds_one) in
      ap₂ (λ n l. taken_from n args l) place (outer.values_are ∙ ap (λ l. outer.first ++ l) inner.values_are)
      ∙ taken_between outer.first args inner.first inner.second count

  now : values_in next a ≡ outer.first ++ (args ++ inner.second)
  now = values_now store a (taken_from first args values) (taken_length first args values) ∙ taken

  new_holds : AreCells g.program homes layout (values_in next a) new_block
  new_holds =
      subst (λ (l : Layout). AreCells g.program homes l (values_in next a) new_block) (sym there.is)
      (subst (λ (vs : List Value). AreCells g.program homes (there.before ++ (parameters ++ there.behind)) vs new_block) (sym now)
      (cells_joined g.program homes there.before (parameters ++ there.behind) outer.first (args ++ inner.second) outer.words
      (words ++ inner.rest) outer.holds_one
      (cells_joined g.program homes parameters there.behind args inner.second words inner.rest holds inner.holds_two)))

  others : Others store next a
  others b apart = values_kept store a (taken_from first args values) b apart

  new_cells : CellsAre g.program homes next home.process (entries home.process) (on.before ++ (new_block ++ on.after))
  new_cells = on.becomes next new_block others new_holds

  old_cells : cells_of stacks home.process ≡ (on.before ++ outer.words) ++ (inner.words ++ (inner.rest ++ on.after))
  old_cells = on.reads ∙ ap (λ l. on.before ++ (l ++ on.after)) (outer.cells_are ∙ ap (λ l. outer.words ++ l) inner.cells_are)
      ∙ nested on.before outer.words inner.words inner.rest on.after

  place : length (on.before ++ outer.words) ≡ r.cell
  place =
      length-append on.before outer.words
      ∙ ap₂ (λ n m. n + m) on.place (block_length g.program hold.types.counted homes there.before outer.first outer.words outer.holds_one)

  size : length words ≡ length inner.words
  size =
      block_length g.program hold.types.counted homes parameters args words holds
      ∙ sym (block_length g.program hold.types.counted homes parameters inner.first inner.words inner.holds_one)

  is_written : on.before ++ (new_block ++ on.after) ≡ with_words (cells_of stacks home.process) r.cell words
  is_written =
      nested on.before outer.words words inner.rest on.after
      ∙ over_written (on.before ++ outer.words) inner.words (inner.rest ++ on.after) words (cells_of stacks home.process) r.cell place size old_cells

  is_process : home.process < length stacks
  is_process =
      let before : length on.before ≡ home.cell + 8 = on.place in
      let all : length (cells_of stacks home.process) ≡ length on.before + length (on.block ++ on.after) = ap length on.reads
      ∙ length-append on.before (on.block ++ on.after) in
      process_there stacks home.process (omega (arith, before, all))

  here : cells_of (written stacks r words) home.process ≡ on.before ++ (new_block ++ on.after)
  here = written_here stacks r words is_process ∙ sym is_written

  memory : MemoryIs g.program homes entries next (written stacks r words)
  memory q =
      elim (same_or_not q home.process) [
        | same equal ↦
            subst (λ p. ProcessIs g.program homes next p (entries p) (cells_of (written stacks r words) p)) (sym equal)
            (process_has g.program homes next home.process (entries home.process) (cells_of (written stacks r words) home.process)
            (subst (λ ws. CellsAre g.program homes next home.process (entries home.process) ws) (sym here) new_cells))
        | other apart ↦
            subst (λ ws. ProcessIs g.program homes next q (entries q) ws) (sym (written_there stacks r words q apart))
            (process_kept g.program hold.types.counted homes store next q (entries q) (cells_of stacks q) a home at (λ mine. apart (sym mine)) others
            (hold.memory q))
      ]

  same_size : length (cells_of (written stacks r words) home.process) ≡ length (cells_of stacks home.process)
  same_size =
      let one : length new_block ≡ layout_cells g.program.state.forms layout = block_length g.program hold.types.counted homes layout
      (values_in next a) new_block new_holds in
      let two : length on.block ≡ layout_cells g.program.state.forms layout = block_length g.program hold.types.counted homes layout values on.block on.holds in
      let new : length (on.before ++ (new_block ++ on.after)) ≡ length on.before + (length new_block + length on.after) =
      length-append on.before (new_block ++ on.after) ∙ ap (λ n. length on.before + n) (length-append new_block on.after) in
      let old : length (on.before ++ (on.block ++ on.after)) ≡ length on.before + (length on.block + length on.after) =
      length-append on.before (on.block ++ on.after) ∙ ap (λ n. length on.before + n) (length-append on.block on.after) in
      ap length here ∙ new ∙ ap (λ n. length on.before + (n + length on.after)) (one ∙ sym two) ∙ sym old ∙ ap length (sym on.reads)

  few : AreFew (written stacks r words)
  few = record { cells = cells; processes = subst (λ n. n ≤ 1024) (sym (length-set stacks home.process _)) hold.few.processes }
    where
      cells : (q : ℕ) → length (cells_of (written stacks r words) q) < 2 ^ 32
      cells q =
          elim (same_or_not q home.process) [
            | same h ↦ subst (λ n. n < 2 ^ 32) (sym (ap (λ n. length (cells_of (written stacks r words) n)) h ∙ same_size)) (hold.few.cells home.process)
            | other h ↦ subst (λ (ws : List ℤ). length ws < 2 ^ 32) (sym (written_there stacks r words q h)) (hold.few.cells q)
          ]

  -- ## Objects

  no_object : (l : Location) (t : Option TypeId) (x : Ref) → Lies g.program homes l t x → is_object_type g.program.state.forms t ≡ true → l.activation ≢ a
  no_object l t x lies object equal =
      let one : lies.home ≡ home = some_same lies.home home (sym lies.is.at ∙ ap homes equal ∙ at) in
      let laid : slice_get layout l.variable ≡ Some lies.is.meaning = ap (λ (y : Home). slice_get (layout_at g.program y) l.variable) (sym one)
      ∙ lies.is.laid in
      let no : is_object_type g.program.state.forms t ≡ false = none l.variable lies.is.meaning
      (path_of l.selectors) t lies.behind laid lies.is.own lies.is.path in
      let both : true ≡ false = sym object ∙ no in
      cc

  objects : AreObjects g.program homes entries next g.number
  objects =
      record {
        known = λ l t x lies object. (
            let old = hold.objects.known l t x lies object in (
              old.0,
              old.1,
              ap (λ (vs : List Value). part (path_of l.selectors) (get_or vs l.variable (ordinal (pos 0))))
                  (others l.activation (no_object l t x lies object)) ∙ old.2,
            ));
        only = hold.objects.only;
      }

  pub held : (caller : ℕ) (left : List ℤ) → HoldStore g homes entries next (set (written stacks r words) caller
      (record (stack_of (written stacks r words) caller) { operands = left }))
  held caller left =
      let new : Stacks = written stacks r words in
      let s : Stack = record (stack_of new caller) { operands = left } in
      same_cells g homes entries next new (set new caller s) (λ q. cells_alike new caller s refl q) (length-set new caller s)
      (record { types = hold.types; memory = memory; few = few; objects = objects })
