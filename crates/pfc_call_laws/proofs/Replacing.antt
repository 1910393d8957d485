-- An activation in place of another.
use Rattle.std.proofs.Common.{◌≡◌, ◌≢◌, ℕ, ◌+◌, ◌-◌, ◌^◌, ◌<◌, ◌≤◌, ℤ, pos, Bool, true, false, if◌then◌else◌, List, [], ◌∷◌, ◌++◌, length, take, drop, get_or}
use Rattle.std.proofs.Common.{set, slice_get, max, Some, None, refl, sym, ap, ap₂, ◌∙◌, subst, arith, length-append, append_assoc, ◌⊎◌, inl, inr}
use Rattle.std.specs.Prelude.{◌==◌, unwrap_or}
use Rattle.std.proofs.lemmas.List.{get_or-set_same, get_or-set_other, length-set, take_at, set-append_right}
use Rattle.pfc_code.specs.declared.images.Block.{Block as ImageBlock}
use Rattle.pfc_semantics.specs.Values.{Value}
use Rattle.pfc_semantics.specs.Layouts.{Layout}
use Rattle.pfc_semantics.specs.Store.{with_room, without}
use Rattle.pfc_semantics.specs.Displays.{Display, frame_of, outward}
use Rattle.pfc_semantics.specs.Programs.{Block, block_at}
use Rattle.pfc_semantics.specs.Configurations.{Config}
use Rattle.pfc_semantics.specs.Calls.{new_number, new_display}
use Rattle.pfc_translation.specs.Sites.{is_mains}
use Rattle.pfc_stacks.specs.Refs.{word_of}
use Rattle.pfc_stacks.specs.Stacks.{Stack, Stacks, no_stack, stack_of, operands_of, cells_of, own_cells, link_place, block_place, under_place, own_count}
use Rattle.pfc_stacks.specs.Stacks.{last_activation}
use Rattle.pfc_stacks.specs.Activations.{has_place, block_cells, arguments, main_link, replaced, returned}
use Rattle.pfc_cells.specs.Shapes.{AreCounted}
use Rattle.pfc_cells.specs.Homes.{Home, Homes, layout_at}
use Rattle.pfc_cells.specs.Memory.{AreCells, Entry, Entries, CellsAre, ProcessIs, MemoryIs}
use Rattle.pfc_cells.specs.Activations.{with_home, with_entries}
use Rattle.pfc_cells.proofs.Activations.{added}
use Rattle.pfc_cells.proofs.Machine.{return_taken}
use Rattle.pfc_standing_code.specs.Settings.{Setting}
use Rattle.pfc_standing_code.specs.Words.{is_known}
use Rattle.pfc_views.specs.Views.{IsLiving, latest, own_place, first_number, AreLinked, Sees, AreObjects, AreFew}
use Rattle.pfc_views.proofs.Living.{own_of}
use Rattle.pfc_stack_laws.specs.Standing.{StandsAt, HoldStore, IsAtHand}
use Rattle.pfc_call_laws.specs.Blocks.{AreLent}
use Rattle.pfc_call_laws.specs.Around.{scopes_around, HasScopes, IsNested, ShowsAround, keeps_also}
use Rattle.pfc_call_laws.specs.Inside.{view_inside}
use Rattle.pfc_call_laws.specs.Calls.{HasNoObjects, home_at}
use Rattle.pfc_call_laws.proofs.Displays.{is_same, outward_none, scopes_in}
use Rattle.pfc_call_laws.proofs.Inside.{mains_not_shown}
use Rattle.pfc_call_laws.proofs.Beginning.{new_sees, objects_stay}
use Rattle.pfc_call_laws.proofs.Calling.{has_addresses, is_addressed}
use Rattle.pfc_call_laws.proofs.Returning.{others_still, objects_left}

either : (n m : ℕ) → (n ≡ m) ⊎ (n ≢ m)
either n m = grind arith

some_same : {A : Type 0} (x y : A) → Some x ≡ Some y → x ≡ y
some_same x y h = cc

no_parts : (xs ys : List ℕ) → [] ≡ xs ++ ys → xs ≡ []
no_parts [] ys h = refl
no_parts (x ∷ xs) ys h = absurd (cc)

everywhere : {A : Type 0} (f h : ℕ → A) → ((q : ℕ) → f q ≡ h q) → f ≡ h
everywhere f h each = λ i. λ q. each q i

-- entries that end and begin in one place
entries_same : (entries : Entries) (p : ℕ) (x : Entry) (below : List Entry) → with_entries (with_entries entries p below) p
    (x ∷ with_entries entries p below p) ≡ with_entries entries p (x ∷ below)
entries_same entries p x below = everywhere _ _ (λ q. by (q == p) (p == p) (is_same p p refl) q)
  where
    by : (c d : Bool) → d ≡ true → (q : ℕ) → (if c then x ∷ (if d then below else entries p) else (if c then below else entries q)) ≡
        (if c then x ∷ below else entries q)
    by true d h q = ap (λ (y : Bool). x ∷ (if y then below else entries p)) h
    by false d h q = refl

-- ## What is seen

module _ (g : Setting) (homes : Homes) (entries : Entries) (c : Config) (p k base : ℕ) (ops : List ℤ) (callee : Block) (code : ImageBlock)
    (values : List Value) (e : Entry) (below : List Entry) (main : IsAtHand g homes entries c.store g.program.main main_link)
    (living : entries p ≡ e ∷ below) (gone : main.keeps e.activation ≡ false) (link : get_or e.own link_place (pos 0) ≡ main_link)
    (free : homes (new_number c) ≡ None) (few : p < 1024) (place : has_place p base code ≡ true)
    (known_block : HasScopes g.program callee) (nested : IsNested g.program g.program.main callee 0)
    (shows_main : ShowsAround g.program g.program.main main.display) (none_shown : main.display ≡ [])
    (b : Block) (display : Display) (shows : ShowsAround g.program b display) where
  abbrev a : ℕ
  a = new_number c

  abbrev home : Home
  home = home_at p base callee.scope

  abbrev own : List ℤ
  own = set e.own block_place (pos k)

  abbrev cells : List ℤ
  cells = block_cells (arguments code ops) (code.cells - code.params)

  alone : scopes_around g.program g.program.main ≡ []
  alone = no_parts (scopes_around g.program g.program.main) shows_main.accepts (ap (λ (d : Display). scopes_in d) (sym none_shown) ∙ shows_main.scopes)

  outermost : is_mains g.program.state.blocks callee.outer ≡ true
  outermost = nested.outermost (ap length (sym alone))

  nothing_around : outward display callee.outer ≡ []
  nothing_around = outward_none callee.outer display (mains_not_shown g.program b display shows callee.outer outermost)

  alike : (i : ℕ) → callee.scope ≢ i → is_known g.program.state.blocks callee [] i ≡ true → frame_of (outward display callee.outer) i ≡ frame_of
      (outward main.display callee.outer) i
  alike i apart known = ap (λ (d : Display). frame_of d i) nothing_around ∙ sym (ap (λ (d : Display). frame_of (outward d callee.outer) i) none_shown)

  pub shows_replaced : ShowsAround g.program callee (new_display c callee display)
  shows_replaced =
      record {
        accepts = [];
        scopes = ap (λ (d : Display). callee.scope ∷ scopes_in d) nothing_around ∙ ap (λ l. (callee.scope ∷ l) ++ []) (sym alone)
            ∙ ap (λ l. l ++ []) (sym nested.around);
        apart = λ i j there. absurd (no_accepts i j there);
      }
    where
      no_accepts : (i j : ℕ) → slice_get [] i ≡ Some j → ⊥
      no_accepts i j there = cc

  link_stays : get_or own link_place (pos 0) ≡ main_link
  link_stays = get_or-set_other e.own block_place link_place (pos k) (pos 0) (λ h. (let no : 3 ≡ 1 = h in omega (arith, no))) ∙ link

  pub replaced_sees :
      AreLent g.program main.keeps callee values → AreCells g.program homes callee.layout values cells → (sound : AreCounted g.program.state.forms)
      → Sees g.program (with_home homes a home) (with_entries entries p (record { activation = a; own = own } ∷ below))
      (with_room (without c.store e.activation) a values) (keeps_also main.keeps a)
      (new_display c callee display) callee [] (word_of (own_place home)) (a ∷ main.chain)
      (view_inside g.program.state.forms callee.layout values cells (first_number home) 0 g.view)
  replaced_sees lent holds sound =
      let sees = others_still g.program main.keeps homes entries c.store p e below main.display g.program.main g.accepts main_link main.chain g.view living
      gone main.sees in
      subst (λ (es : Entries). Sees g.program (with_home homes a home) es (with_room (without c.store e.activation) a values) (keeps_also main.keeps a)
      (new_display c callee display) callee [] (word_of (own_place home)) (a ∷ main.chain)
      (view_inside g.program.state.forms callee.layout values cells (first_number home) 0 g.view))
      (entries_same entries p (record { activation = a; own = own }) below)
      (new_sees g.program homes (with_entries entries p below) (without c.store e.activation) a free home p own values sound main.keeps main.display
      g.program.main g.accepts main_link main.chain g.view sees callee
      known_block 0 nested shows_main refl (subst (λ v. AreLinked homes (with_entries entries p below) main.keeps v main.chain) (sym link_stays) sees.links)
      cells holds lent
      (is_addressed p base (length cells) 1024 few (omega arith) (has_addresses p base ops code place)) (outward display callee.outer) alike)

-- ## The stacks

module _ (g : Setting) (homes : Homes) (entries : Entries) (c : Config) (stacks : Stacks) (p k : ℕ) (callee : Block) (code : ImageBlock) (values : List Value)
    (e caller : Entry) (below : List Entry) (old : Home)
    (hold : HoldStore g homes entries c.store stacks) (there : p < length stacks) (living : entries p ≡ e ∷ (caller ∷ below))
    (at : homes e.activation ≡ Some old) (base : old.cell ≡ (stack_of stacks p).base)
    (none_ends : HasNoObjects g.program (block_at g.program old.scope)) (free : homes (new_number c) ≡ None)
    (place : has_place p (stack_of stacks p).base code ≡ true) (known_block : HasScopes g.program callee)
    (none : HasNoObjects g.program callee) (holds : AreCells g.program homes callee.layout values
    (block_cells (arguments code (operands_of stacks p)) (code.cells - code.params))) where
  abbrev s : Stack
  s = stack_of stacks p

  abbrev after : Stack
  after = replaced k code s

  abbrev new_home : Home
  new_home = home_at p s.base callee.scope

  abbrev new_own : List ℤ
  new_own = set e.own block_place (pos k)

  abbrev block : List ℤ
  block = block_cells (arguments code (operands_of stacks p)) (code.cells - code.params)

  abbrev left_stacks : Stacks
  left_stacks = set stacks p (returned s)

  abbrev left_entries : Entries
  left_entries = with_entries entries p (caller ∷ below)

  top : IsLiving e (entries p)
  top = subst (λ es. IsLiving e es) (sym living) (latest (caller ∷ below))

  layout : layout_at g.program new_home ≡ callee.layout
  layout = ap (λ (x : Block). x.layout) known_block.by_scope

  -- the cells of the old one
  record Cells : Type 0 where
    before : List ℤ
    rest : List ℤ
    own_size : length e.own ≡ 8
    first : length before ≡ s.base
    is : s.cells ≡ before ++ (e.own ++ rest)

  its_cells : Cells
  its_cells =
      let own = own_of g.program homes entries c.store stacks p e old hold.memory at top in
      record { before = own.before; rest = own.after; own_size = own.size; first = own.place ∙ base; is = own.reads }

  lower : take s.base s.cells ≡ its_cells.before
  lower = ap (λ l. take s.base l) its_cells.is ∙ take_at its_cells.before (e.own ++ its_cells.rest) s.base its_cells.first

  with_own : take (s.base + own_cells) s.cells ≡ its_cells.before ++ e.own
  with_own =
      let size : length (its_cells.before ++ e.own) ≡ s.base + 8 = length-append its_cells.before e.own
      ∙ ap₂ (λ n m. n + m) its_cells.first its_cells.own_size in
      ap (λ l. take (s.base + own_cells) l) (its_cells.is ∙ sym (append_assoc its_cells.before e.own its_cells.rest))
      ∙ take_at (its_cells.before ++ e.own) its_cells.rest (s.base + own_cells) size

  one_more : (n : ℕ) → (n + 1) - n ≡ 1
  one_more n = omega arith

  new_cells : after.cells ≡ take s.base s.cells ++ (new_own ++ block)
  new_cells =
      ap (λ l. set l (s.base + block_place) (pos k) ++ block) with_own
      ∙ ap (λ l. l ++ block) (set-append_right its_cells.before e.own s.base (s.base + block_place) (pos k) its_cells.first (omega arith)
      ∙ ap (λ n. its_cells.before ++ set e.own n (pos k)) (one_more s.base))
      ∙ append_assoc its_cells.before new_own block ∙ ap (λ l. l ++ (new_own ++ block)) (sym lower)

  left_memory : MemoryIs g.program homes left_entries (without c.store e.activation) left_stacks
  left_memory = return_taken g.program hold.types.counted homes entries c.store stacks p e (caller ∷ below) old (returned s) hold.memory living at base refl

  left_here : cells_of left_stacks p ≡ take s.base s.cells
  left_here = ap (λ (x : Stack). x.cells) (get_or-set_same stacks p (returned s) no_stack there)

  entries_here : left_entries p ≡ caller ∷ below
  entries_here = ap (λ (d : Bool). if d then caller ∷ below else entries p) (is_same p p refl)

  under : CellsAre g.program homes (without c.store e.activation) p (left_entries p) (take s.base s.cells)
  under =
      subst (λ (es : List Entry). CellsAre g.program homes (without c.store e.activation) p es (take s.base s.cells)) (sym entries_here)
      (subst (λ (ws : List ℤ). CellsAre g.program homes (without c.store e.activation) p (caller ∷ below) ws) left_here
      (subst (λ (es : List Entry). ProcessIs g.program homes (without c.store e.activation) p es (cells_of left_stacks p)) entries_here (left_memory p)))

  base_length : s.base ≡ length (take s.base s.cells)
  base_length = sym its_cells.first ∙ ap length (sym lower)

  is_next : stack_of (set stacks p after) p ≡ after
  is_next = get_or-set_same stacks p after no_stack there

  others_cells : (q : ℕ) → q ≢ p → cells_of (set stacks p after) q ≡ cells_of left_stacks q
  others_cells q apart = ap (λ (x : Stack). x.cells) (get_or-set_other stacks p q after no_stack apart
      ∙ sym (get_or-set_other stacks p q (returned s) no_stack apart))

  new_memory : MemoryIs g.program (with_home homes (new_number c) new_home) (with_entries entries p
      (record { activation = new_number c; own = new_own } ∷ (caller ∷ below))) (with_room (without c.store e.activation) (new_number c) values)
      (set stacks p after)
  new_memory =
      subst (λ (es : Entries). MemoryIs g.program (with_home homes (new_number c) new_home) es
      (with_room (without c.store e.activation) (new_number c) values) (set stacks p after))
      (entries_same entries p (record { activation = new_number c; own = new_own }) (caller ∷ below))
      (added g.program homes left_entries (without c.store e.activation) left_stacks (set stacks p after) p (new_number c) new_home new_own
      (take s.base s.cells) block values left_memory under free
      (length-set e.own block_place (pos k) ∙ its_cells.own_size) refl base_length (subst (λ (x : Layout). AreCells g.program homes x values block)
      (sym layout) holds)
      (ap (λ (x : Stack). x.cells) is_next ∙ new_cells) others_cells)

  new_few : AreFew (set stacks p after)
  new_few = record { cells = cells; processes = subst (λ n. n ≤ 1024) (sym (length-set stacks p after)) hold.few.processes }
    where
      size : length after.cells < 2 ^ 32
      size =
          let all : length after.cells ≡ length (take s.base s.cells) + (length new_own + length block) =
          ap length new_cells ∙ length-append (take s.base s.cells) (new_own ++ block) ∙ ap (λ n. length (take s.base s.cells) + n)
          (length-append new_own block) in
          let eight : length new_own ≡ 8 = length-set e.own block_place (pos k) ∙ its_cells.own_size in
          let fits = has_addresses p s.base (operands_of stacks p) code place in
          let level = base_length in
          omega (arith, all, eight, fits, level)

      cells : (q : ℕ) → length (cells_of (set stacks p after) q) < 2 ^ 32
      cells q = elim (either q p) [ inl h ↦ same h | inr h ↦ other h ]
        where
          same : q ≡ p → length (cells_of (set stacks p after) q) < 2 ^ 32
          same h = subst (λ n. n < 2 ^ 32) (sym (ap (λ n. length (cells_of (set stacks p after) n)) h ∙ ap (λ (x : Stack). length x.cells) is_next)) size

          other : q ≢ p → length (cells_of (set stacks p after) q) < 2 ^ 32
          other h = subst (λ n. n < 2 ^ 32) (sym (ap (λ (x : Stack). length x.cells) (get_or-set_other stacks p q after no_stack h))) (hold.few.cells q)

  pub held_replaced : HoldStore g (with_home homes (new_number c) new_home) (with_entries entries p
      (record { activation = new_number c; own = new_own } ∷ (caller ∷ below))) (with_room (without c.store e.activation) (new_number c) values)
      (set stacks p after)
  held_replaced =
      record {
        types = hold.types;
        memory = new_memory;
        few = new_few;
        objects = subst (λ (es : Entries). AreObjects g.program (with_home homes (new_number c) new_home) es
            (with_room (without c.store e.activation) (new_number c) values) g.number)
            (entries_same entries p (record { activation = new_number c; own = new_own }) (caller ∷ below))
            (objects_stay g.program homes left_entries (without c.store e.activation) (new_number c) free new_home p new_own values callee none layout g.number
            (objects_left g.program homes entries c.store p e (caller ∷ below) living old at none_ends g.number hold.objects));
      }

module _ (stacks : Stacks) (p k at room : ℕ) (ops : List ℤ) (w : ℤ) (code : ImageBlock) (stands : StandsAt stacks p at ops room w)
    (looks : (stack_of stacks p).looks_from ≡ None) where
  abbrev others : List ℤ
  others = drop (length ops - own_count (stack_of stacks p) under_place) ops

  pub stands_replaced : (i : ℕ) → StandsAt (set stacks p (replaced k code (stack_of stacks p))) p code.entry others (length others + code.operands)
      (word_of (own_place (home_at p (stack_of stacks p).base i)))
  stands_replaced i =
      record {
        process = subst (λ n. p < n) (sym (length-set stacks p after_it)) stands.process;
        address = ap (λ (x : Stack). x.at) now;
        operands = ap (λ (x : Stack). x.operands) now ∙ ap (λ os. drop (length os - own_count (stack_of stacks p) under_place) os) stands.operands;
        has_room = has_room;
        from = ap (λ (x : Stack). word_of (last_activation (set stacks p after_it) (unwrap_or x.looks_from p))) now
            ∙ ap (λ o. word_of (last_activation (set stacks p after_it) (unwrap_or o p))) looks
            ∙ ap (λ (x : Stack). word_of (record { process = p; cell = x.base })) now;
      }
    where
      after_it : Stack
      after_it = replaced k code (stack_of stacks p)

      now : stack_of (set stacks p after_it) p ≡ after_it
      now = get_or-set_same stacks p after_it no_stack stands.process

      most_of : (n m : ℕ) → m ≤ max n m
      most_of n m = omega arith

      has_room : length others + code.operands ≤ (stack_of (set stacks p after_it) p).room
      has_room =
          let s : Stack = stack_of stacks p in
          let left : List ℤ = drop (length s.operands - own_count s under_place) s.operands in
          let under : length left ≡ length others = ap (λ os. length (drop (length os - own_count s under_place) os)) stands.operands in
          let is : (stack_of (set stacks p after_it) p).room ≡ max s.room (length left + code.operands + s.spare) = ap (λ (x : Stack). x.room) now in
          let enough = most_of s.room (length left + code.operands + s.spare) in
          omega (arith, under, is, enough)
