-- A call on the stacks.
use Rattle.std.proofs.Common.{◌≡◌, ◌≢◌, ℕ, ◌+◌, ◌-◌, ◌*◌, ◌^◌, ◌<◌, ◌≤◌, ℤ, pos, Bool, true, false, if◌then◌else◌, List, [], ◌∷◌, ◌++◌, length, take, drop, set}
use Rattle.std.proofs.Common.{replicate, max, None, refl, sym, ap, ◌∙◌, subst, arith, length-append, ◌⊎◌, inl, inr, Some}
use Rattle.std.specs.Prelude.{◌==◌, nat_le, min, unwrap_or}
use Rattle.std.proofs.lemmas.List.{get_or-set_same, get_or-set_other, length-set, length-take, length-reverse, length-replicate}
use Rattle.pfc_code.specs.declared.images.Block.{Block as ImageBlock}
use Rattle.pfc_semantics.specs.Values.{Value}
use Rattle.pfc_semantics.specs.Layouts.{Layout}
use Rattle.pfc_semantics.specs.Store.{Store, with_room}
use Rattle.pfc_semantics.specs.Displays.{outward}
use Rattle.pfc_semantics.specs.Programs.{Block}
use Rattle.pfc_semantics.specs.Configurations.{Config}
use Rattle.pfc_semantics.specs.Calls.{new_number, new_display, own_frame}
use Rattle.pfc_stacks.specs.declared.marks.Mark.{Mark}
use Rattle.pfc_stacks.specs.Refs.{word_of}
use Rattle.pfc_stacks.specs.Stacks.{Stack, Stacks, no_stack, stack_of, operands_of, cells_of, own_cells, links_up, last_activation, in_view}
use Rattle.pfc_stacks.specs.Activations.{most_cells, size_of, has_place, own_words, block_cells, arguments, called_own, called}
use Rattle.pfc_cells.specs.Homes.{Home, Homes, layout_at}
use Rattle.pfc_cells.specs.Memory.{AreCells, Entry, Entries, MemoryIs}
use Rattle.pfc_cells.specs.Activations.{with_home, with_entries}
use Rattle.pfc_cells.proofs.Machine.{call_added}
use Rattle.pfc_cells.proofs.Kept.{has_home}
use Rattle.pfc_standing_code.specs.Settings.{Setting}
use Rattle.pfc_views.specs.Views.{own_place, first_number, AreLinked, Sees, AreFew}
use Rattle.pfc_stack_laws.specs.Standing.{StandsAt, HoldStore, IsAtHand}
use Rattle.pfc_call_laws.specs.Blocks.{AreLent}
use Rattle.pfc_call_laws.specs.Around.{HasScopes, IsNested, ShowsAround, keeps_also, home_over}
use Rattle.pfc_call_laws.specs.Inside.{view_inside}
use Rattle.pfc_call_laws.specs.Calls.{HasNoObjects}
use Rattle.pfc_call_laws.proofs.Inside.{shows_inside}
use Rattle.pfc_call_laws.proofs.Beginning.{links_dropped, new_sees, others_see, objects_stay}

either : (n m : ℕ) → (n ≡ m) ⊎ (n ≢ m)
either n m = grind arith

-- ## Room for an activation

most : (p : ℕ) → most_cells p ≤ 262144
most p = by (p == 0)
  where
    by : (c : Bool) → (if c then 262144 else 16384) ≤ 262144
    by true = omega arith
    by false = omega arith

is_within : (n m : ℕ) → nat_le n m ≡ true → n ≤ m
is_within n m h = grind (arith, h)

least : (n m : ℕ) → min n m ≤ n
least n m = omega arith

pub block_fits : (ops : List ℤ) (code : ImageBlock) → length (block_cells (arguments code ops) (code.cells - code.params)) ≤ code.params +
    (code.cells - code.params)
block_fits ops code =
    let args : length (arguments code ops) ≡ min code.params (length ops) = length-reverse (take code.params ops) ∙ length-take code.params ops in
    let all : length (block_cells (arguments code ops) (code.cells - code.params)) ≡ length (arguments code ops) + (code.cells - code.params) =
    length-append (arguments code ops) (replicate (code.cells - code.params) (pos 0)) ∙ ap (λ n. length (arguments code ops) + n)
    (length-replicate (code.cells - code.params) (pos 0)) in
    let few = least code.params (length ops) in
    omega (arith, args, all, few)

-- where there is place, there are addresses
pub has_addresses : (p below : ℕ) (ops : List ℤ) (code : ImageBlock) → has_place p below code ≡ true
    → below + (8 + length (block_cells (arguments code ops) (code.cells - code.params))) < 2 ^ 32
has_addresses p below ops code h =
    let fits = block_fits ops code in
    let place : below + size_of code ≤ most_cells p = is_within (below + size_of code) (most_cells p) h in
    let top = most p in
    omega (arith, fits, place, top)

pub is_addressed : (p cell size few : ℕ) → p < few → few ≤ 1024 → cell + (8 + size) < 2 ^ 32 → p * 2 ^ 32 + (cell + own_cells) + size < 2 ^ 42
is_addressed p cell size few h k small = omega (arith, h, k, small)

-- ## The call

module _ (stacks : Stacks) (w : ℤ) (p at room k l : ℕ) (ops : List ℤ) (code : ImageBlock) (mark : Mark) (stands : StandsAt stacks p at ops room w) where
  abbrev after : Stack
  after = called k code (in_view stacks p l) mark (stack_of stacks p)

  abbrev next : Stacks
  next = set stacks p after

  is_next : stack_of next p ≡ after
  is_next = get_or-set_same stacks p after no_stack stands.process

  most_of : (n m : ℕ) → m ≤ max n m
  most_of n m = omega arith

  pub stands_in : (i : ℕ) → (stack_of stacks p).looks_from ≡ None → StandsAt next p code.entry (drop code.params ops)
      (length (drop code.params ops) + code.operands) (word_of (own_place (home_over stacks p i)))
  stands_in i looks =
      record {
        process = subst (λ n. p < n) (sym (length-set stacks p after)) stands.process;
        address = ap (λ (s : Stack). s.at) is_next;
        operands = ap (λ (s : Stack). s.operands) is_next ∙ ap (λ os. drop code.params os) stands.operands;
        has_room = has_room;
        from = ap (λ (s : Stack). word_of (last_activation next (unwrap_or s.looks_from p))) is_next
            ∙ ap (λ o. word_of (last_activation next (unwrap_or o p))) looks
            ∙ ap (λ (s : Stack). word_of (record { process = p; cell = s.base })) is_next;
      }
    where
      has_room : length (drop code.params ops) + code.operands ≤ (stack_of next p).room
      has_room =
          let s : Stack = stack_of stacks p in
          let under : length (drop code.params s.operands) ≡ length (drop code.params ops) = ap (λ os. length (drop code.params os)) stands.operands in
          let is : (stack_of next p).room ≡ max s.room (length (drop code.params s.operands) + code.operands + s.spare) = ap (λ (x : Stack). x.room) is_next in
          let enough = most_of s.room (length (drop code.params s.operands) + code.operands + s.spare) in
          omega (arith, under, is, enough)

module _ (g : Setting) (homes : Homes) (entries : Entries) (c : Config) (stacks : Stacks) (w : ℤ) (p at room k l : ℕ) (ops : List ℤ) (callee : Block)
    (code : ImageBlock) (mark : Mark) (values : List Value) (e : Entry)
    (below : List Entry) (hold : HoldStore g homes entries c.store stacks) (stands : StandsAt stacks p at ops room w) (living : entries p ≡ e ∷ below)
    (free : homes (new_number c) ≡ None)
    (place : has_place p (length (cells_of stacks p)) code ≡ true) (known_block : HasScopes g.program callee)
    (holds : AreCells g.program homes callee.layout values (block_cells (arguments code ops) (code.cells - code.params))) where
  abbrev a : ℕ
  a = new_number c

  abbrev home : Home
  home = home_over stacks p callee.scope

  abbrev own : List ℤ
  own = own_words (called_own k code (in_view stacks p l) mark (stack_of stacks p))

  abbrev cells : List ℤ
  cells = block_cells (arguments code ops) (code.cells - code.params)

  layout : layout_at g.program home ≡ callee.layout
  layout = ap (λ (x : Block). x.layout) known_block.by_scope

  small : length (cells_of stacks p) + (8 + length cells) < 2 ^ 32
  small = has_addresses p (length (cells_of stacks p)) ops code place

  -- ## What is seen

  module _ (b : Block) (hand : IsAtHand g homes entries c.store b w) where
    pub sees :
        IsNested g.program b callee l → ShowsAround g.program b hand.display → AreLent g.program hand.keeps callee values
        → Sees g.program (with_home homes a home) (with_entries entries p (record { activation = a; own = own } ∷ entries p)) (with_room c.store a values)
        (keeps_also hand.keeps a)
        (new_display c callee hand.display) callee [] (word_of (own_place home)) (a ∷ drop l hand.chain)
        (view_inside g.program.state.forms callee.layout values cells (first_number home) l g.view)
    sees nested shows lent =
        new_sees g.program homes entries c.store a free home p own values hold.types.counted hand.keeps hand.display b g.accepts w hand.chain g.view
        hand.sees callee known_block l nested shows refl
        (subst (λ (v : ℤ). AreLinked homes entries hand.keeps v (drop l hand.chain)) (ap (links_up stacks l) (sym stands.from))
        (links_dropped g.program homes entries c.store hand.keeps stacks hold.memory hold.few.cells l w hand.chain hand.sees.links))
        cells holds lent (is_addressed p (length (cells_of stacks p)) (length cells) (length stacks) stands.process hold.few.processes small)
        (outward hand.display callee.outer) (λ i apart known. refl)

    pub shows_call : IsNested g.program b callee l → ShowsAround g.program b hand.display → ShowsAround g.program callee (new_display c callee hand.display)
    shows_call nested shows = shows_inside g.program b callee l nested hand.display shows (own_frame c callee) refl

    pub caller_sees :
        Sees g.program (with_home homes a home) (with_entries entries p (record { activation = a; own = own } ∷ entries p))
        (with_room c.store a values) hand.keeps hand.display b g.accepts w hand.chain g.view
    caller_sees = others_see g.program homes entries c.store a free home p own values hand.keeps hand.display b g.accepts w hand.chain g.view hand.sees

  -- ## The stacks

  abbrev new_stack : Stack
  new_stack = after stacks w p at room k l ops code mark stands

  abbrev new_stacks : Stacks
  new_stacks = next stacks w p at room k l ops code mark stands

  held_cells : AreCells g.program homes (layout_at g.program home) values (block_cells (arguments code (operands_of stacks p)) (code.cells - code.params))
  held_cells =
      subst (λ (x : Layout). AreCells g.program homes x values (block_cells (arguments code (operands_of stacks p)) (code.cells - code.params))) (sym layout)
      (subst (λ (os : List ℤ). AreCells g.program homes callee.layout values (block_cells (arguments code os) (code.cells - code.params)))
      (sym stands.operands) holds)

  next_memory : MemoryIs g.program (with_home homes a home) (with_entries entries p (record { activation = a; own = own } ∷ entries p))
      (with_room c.store a values) new_stacks
  next_memory = call_added g.program homes entries c.store stacks p a callee.scope k code (in_view stacks p l) mark values e below hold.memory living free
      held_cells

  next_few : AreFew new_stacks
  next_few = record { cells = few; processes = subst (λ n. n ≤ 1024) (sym (length-set stacks p new_stack)) hold.few.processes }
    where
      new_size : length new_stack.cells ≡ length (cells_of stacks p) + (8 + length cells)
      new_size =
          length-append (cells_of stacks p) (own ++ block_cells (arguments code (operands_of stacks p)) (code.cells - code.params))
          ∙ ap (λ n. length (cells_of stacks p) + n) (length-append own (block_cells (arguments code (operands_of stacks p)) (code.cells - code.params)))
          ∙ ap (λ (os : List ℤ). length (cells_of stacks p) + (8 + length (block_cells (arguments code os) (code.cells - code.params)))) stands.operands

      few : (q : ℕ) → length (cells_of new_stacks q) < 2 ^ 32
      few q = elim (either q p) [ inl h ↦ same h | inr h ↦ other h ]
        where
          same : q ≡ p → length (cells_of new_stacks q) < 2 ^ 32
          same h = subst (λ n. n < 2 ^ 32) (sym (ap (λ n. length (cells_of new_stacks n)) h
              ∙ ap (λ (s : Stack). length s.cells) (is_next stacks w p at room k l ops code mark stands) ∙ new_size)) small

          other : q ≢ p → length (cells_of new_stacks q) < 2 ^ 32
          other h = subst (λ n. n < 2 ^ 32) (sym (ap (λ (s : Stack). length s.cells) (get_or-set_other stacks p q new_stack no_stack h))) (hold.few.cells q)

  pub held : HasNoObjects g.program callee
      → HoldStore g (with_home homes a home) (with_entries entries p (record { activation = a; own = own } ∷ entries p)) (with_room c.store a values) new_stacks
  held none =
      record {
        types = hold.types;
        memory = next_memory;
        few = next_few;
        objects = objects_stay g.program homes entries c.store a free home p own values callee none layout g.number hold.objects;
      }

-- who is kept lives, and has a home
pub not_kept :
    (g : Setting) (homes : Homes) (entries : Entries) (store : Store) (stacks : Stacks) (b : Block) (w : ℤ) (hand : IsAtHand g homes entries store b w) (a : ℕ)
    → HoldStore g homes entries store stacks → homes a ≡ None → hand.keeps a ≡ false
not_kept g homes entries store stacks b w hand a hold free = by (hand.keeps a) refl
  where
    by : (x : Bool) → hand.keeps a ≡ x → hand.keeps a ≡ false
    by false h = h
    by true h = absurd (
        let lives = hand.sees.live a h in
        let home = has_home g.program homes entries store stacks lives.0 a hold.memory lives.1 in
        let both : Some home.0 ≡ None = sym home.1 ∙ free in
        cc)
