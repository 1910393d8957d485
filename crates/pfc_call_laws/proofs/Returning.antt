-- An activation ends: the others see what they saw, and the stacks hold what is left.
use Rattle.std.proofs.Common.{◌≡◌, ◌≢◌, ℕ, zero, suc, ◌+◌, ◌^◌, ◌%◌, ◌<◌, ◌≤◌, ℤ, pos, Bool, true, false, if◌then◌else◌, List, [], ◌∷◌, ◌++◌, length, take}
use Rattle.std.proofs.Common.{drop, get_or, set, slice_get, Option, Some, None, refl, sym, ap, ap₂, ◌∙◌, subst, arith, ◌⊎◌, inl, inr}
use Rattle.std.specs.Prelude.{◌==◌, min, unwrap_or}
use Rattle.std.proofs.lemmas.List.{get_or-set_same, get_or-set_other, length-set, length-take, get_or-append-add, get_or_append_left}
use Rattle.pfc_code.specs.declared.images.Block.{Block as ImageBlock}
use Rattle.pfc_types.specs.Types.{form_of, is_simple}
use Rattle.pfc_types.specs.declared.types.TypeId.{TypeId}
use Rattle.pfc_types.specs.declared.scope.Meaning.TheVariants.{Variable}
use Rattle.pfc_semantics.specs.Values.{Value, Location, ordinal, part, path_of}
use Rattle.pfc_semantics.specs.Store.{Store, value_at, variable, without}
use Rattle.pfc_semantics.specs.Displays.{Display}
use Rattle.pfc_semantics.specs.Programs.{Block, Program, block_at}
use Rattle.pfc_translation.specs.Sites.{type_cells}
use Rattle.pfc_stacks.specs.declared.marks.Mark.{Mark}
use Rattle.pfc_stacks.specs.declared.refs.Ref.{Ref}
use Rattle.pfc_stacks.specs.Refs.{word_of, number_of}
use Rattle.pfc_stacks.specs.Stacks.{Stack, Stacks, no_stack, stack_of, cells_of, cells_at, own_cells, own_word, last_activation}
use Rattle.pfc_stacks.specs.Activations.{own_words, called_own, returned, returned_with, result_in}
use Rattle.pfc_cells.specs.Shapes.{has_parts, IsOf, is_number, is_array, is_record, here, words_of}
use Rattle.pfc_cells.specs.Homes.{Home, Homes, Lies, layout_at, cells_before}
use Rattle.pfc_cells.specs.Memory.{Entry, Entries, Lives}
use Rattle.pfc_cells.specs.Activations.{with_entries}
use Rattle.pfc_cells.proofs.Activations.{room_left}
use Rattle.pfc_cells.proofs.Machine.{return_taken, end_taken}
use Rattle.pfc_cells.proofs.Reading.{fits, reads}
use Rattle.pfc_cells.proofs.Kept.{has_home}
use Rattle.pfc_standing_code.specs.Shapes.{is_object_type}
use Rattle.pfc_standing_code.specs.Settings.{View, Setting}
use Rattle.pfc_views.specs.Views.{IsLiving, latest, Sees, IsObjectAt, AreObjects, AreFew}
use Rattle.pfc_views.proofs.Living.{own_of, is_among, lives}
use Rattle.pfc_views.proofs.Changes.{ended}
use Rattle.pfc_views.proofs.Kept.{live_still, sees_still}
use Rattle.pfc_stack_laws.specs.Standing.{StandsAt, HoldStore}
use Rattle.pfc_call_laws.specs.Calls.{HasNoObjects}
use Rattle.pfc_call_laws.proofs.Displays.{is_other}

either : (n m : ℕ) → (n ≡ m) ⊎ (n ≢ m)
either n m = grind arith

some_same : {A : Type 0} (x y : A) → Some x ≡ Some y → x ≡ y
some_same x y h = cc

-- ## What is seen

pub others_still :
    (g : Program) (keeps : ℕ → Bool) (homes : Homes) (entries : Entries) (store : Store) (p : ℕ) (e : Entry) (below : List Entry) (display : Display)
    (b : Block) (accepts : List ℕ) (w : ℤ) (chain : List ℕ) (view : View)
    → entries p ≡ e ∷ below → keeps e.activation ≡ false → Sees g homes entries store keeps display b accepts w chain view
    → Sees g homes (with_entries entries p below) (without store e.activation) keeps display b accepts w chain view
others_still g keeps homes entries store p e below display b accepts w chain view living gone sees =
    sees_still g keeps homes homes entries (with_entries entries p below) store (without store e.activation)
    (ended g keeps homes entries store p e below living gone) display b accepts w chain view sees

-- ## Objects

module _ (g : Program) (homes : Homes) (entries : Entries) (store : Store) (p : ℕ) (e : Entry) (below : List Entry) (living : entries p ≡ e ∷ below)
    (home : Home) (at : homes e.activation ≡ Some home)
    (none : HasNoObjects g (block_at g home.scope)) where
  no_object : (l : Location) (t : Option TypeId) (r : Ref) → Lies g homes l t r → is_object_type g.state.forms t ≡ true → l.activation ≢ e.activation
  no_object l t r lies object same =
      let one : lies.home ≡ home = some_same lies.home home (sym lies.is.at ∙ ap homes same ∙ at) in
      let laid : slice_get (layout_at g home) l.variable ≡ Some lies.is.meaning = ap (λ (x : Home). slice_get (layout_at g x) l.variable) (sym one)
      ∙ lies.is.laid in
      let no : is_object_type g.state.forms t ≡ false = none l.variable lies.is.meaning (path_of l.selectors) t lies.behind laid lies.is.own lies.is.path in
      let both : true ≡ false = sym object ∙ no in
      cc

  abbrev all_but : ℕ → Bool
  all_but a = if a == e.activation then false else true

  gone : all_but e.activation ≡ false
  gone = is_gone e.activation e.activation refl
    where
      is_gone : (a b : ℕ) → a ≡ b → (if a == b then false else true) ≡ false
      is_gone a b h = grind (arith, h)

  pub objects_left : (number : ℤ → Option ℤ) → AreObjects g homes entries store number → AreObjects g homes (with_entries entries p below)
      (without store e.activation) number
  objects_left number objects =
      record {
        known = λ l t r lies object. (
            let old = objects.known l t r lies object in
            let same : value_at (without store e.activation) l ≡ value_at store l =
            ap (λ (vs : List Value). part (path_of l.selectors) (get_or vs l.variable (ordinal (pos 0))))
            (room_left store e.activation l.activation (no_object l t r lies object)) in
            (old.0, old.1, same ∙ old.2));
        only = λ w n is. after w n is;
      }
    where
      after : (w n : ℤ) → number w ≡ Some n → IsObjectAt g homes (with_entries entries p below) w
      after w n is =
          let old = objects.only w n is in
          let kept : all_but old.location.activation ≡ true = ap (λ (c : Bool). if c then false else true)
          (is_other old.location.activation e.activation (no_object old.location old.t old.place old.lies old.object)) in
          record {
            location = old.location;
            t = old.t;
            place = old.place;
            lies = old.lies;
            object = old.object;
            word = old.word;
            lives = live_still g all_but homes homes entries (with_entries entries p below) store (without store e.activation)
                (ended g all_but homes entries store p e below living gone) old.location.activation kept old.lives;
          }

-- ## The stacks

module _ (g : Setting) (homes : Homes) (entries : Entries) (store : Store) (stacks : Stacks) (p : ℕ) (e : Entry) (below : List Entry)
    (hold : HoldStore g homes entries store stacks) (living : entries p ≡ e ∷ below) (home : Home)
    (at : homes e.activation ≡ Some home) (base : home.cell ≡ (stack_of stacks p).base) where
  module _ (none : HasNoObjects g.program (block_at g.program home.scope)) where
    few_left : (s : Stack) → s.cells ≡ take (stack_of stacks p).base (cells_of stacks p) → p < length stacks → AreFew (set stacks p s)
    few_left s cells there = record { cells = few; processes = subst (λ n. n ≤ 1024) (sym (length-set stacks p s)) hold.few.processes }
      where
        size : length s.cells < 2 ^ 32
        size =
            let is : length s.cells ≡ min (stack_of stacks p).base (length (cells_of stacks p)) = ap length cells
            ∙ length-take (stack_of stacks p).base (cells_of stacks p) in
            let all = hold.few.cells p in
            omega (arith, is, all)

        few : (q : ℕ) → length (cells_of (set stacks p s) q) < 2 ^ 32
        few q = elim (either q p) [ inl h ↦ same h | inr h ↦ other h ]
          where
            same : q ≡ p → length (cells_of (set stacks p s) q) < 2 ^ 32
            same h = subst (λ n. n < 2 ^ 32) (sym (ap (λ n. length (cells_of (set stacks p s) n)) h
                ∙ ap (λ (x : Stack). length x.cells) (get_or-set_same stacks p s no_stack there))) size

            other : q ≢ p → length (cells_of (set stacks p s) q) < 2 ^ 32
            other h = subst (λ n. n < 2 ^ 32) (sym (ap (λ (x : Stack). length x.cells) (get_or-set_other stacks p q s no_stack h))) (hold.few.cells q)

    pub held_left : (s : Stack) → s.cells ≡ take (stack_of stacks p).base (cells_of stacks p) → p < length stacks
        → HoldStore g homes (with_entries entries p below) (without store e.activation) (set stacks p s)
    held_left s cells there =
        record {
          types = hold.types;
          memory = return_taken g.program hold.types.counted homes entries store stacks p e below home s hold.memory living at base cells;
          few = few_left s cells there;
          objects = objects_left g.program homes entries store p e below living home at none g.number hold.objects;
        }

  -- ## The own cells

  top : IsLiving e (entries p)
  top = subst (λ es. IsLiving e es) (sym living) (latest below)

  own_is : (k : ℕ) → k < 8 → own_word (stack_of stacks p) k ≡ get_or e.own k (pos 0)
  own_is k few =
      let own = own_of g.program homes entries store stacks p e home hold.memory at top in
      let inside : k < length e.own = (let size : length e.own ≡ 8 = own.size in omega (arith, few, size)) in
      ap₂ (λ cells n. get_or cells (n + k) (pos 0)) own.reads (sym base ∙ sym own.place)
      ∙ get_or-append-add own.before (e.own ++ own.after) k (pos 0) ∙ get_or_append_left e.own own.after (pos 0) k inside

  number_back : (n : ℕ) → n < 2 ^ 32 → number_of (pos n) ≡ n
  number_back n h = small n h
    where
      small : (n : ℕ) → n < 2 ^ 32 → n % 2 ^ 32 ≡ n
      small n h = omega (arith, h)

  -- of an activation that was called from there
  module _ (k : ℕ) (code : ImageBlock) (link : ℤ) (mark : Mark) (before : Stack) (is : e.own ≡ own_words (called_own k code link mark before))
      (address : before.at + 1 < 2 ^ 32) (caller : before.base < 2 ^ 32) (here room : ℕ) (ops : List ℤ) (w : ℤ) (stands : StandsAt stacks p here ops room w)
      (looks : (stack_of stacks p).looks_from ≡ None) where
    back_at : (returned (stack_of stacks p)).at ≡ (before.at + 1)
    back_at = ap number_of (own_is 0 (omega arith) ∙ ap (λ ws. get_or ws 0 (pos 0)) is) ∙ number_back (before.at + 1) address

    back_base : (returned (stack_of stacks p)).base ≡ before.base
    back_base = ap number_of (own_is 4 (omega arith) ∙ ap (λ ws. get_or ws 4 (pos 0)) is) ∙ number_back before.base caller

    stands_on : (s : Stack) (left : List ℤ) → s.at ≡ (returned (stack_of stacks p)).at → s.base ≡ (returned (stack_of stacks p)).base → s.operands ≡ left
        → s.room ≡ (stack_of stacks p).room → s.looks_from ≡ (stack_of stacks p).looks_from
        → StandsAt (set stacks p s) p (before.at + 1) left room (word_of (record { process = p; cell = before.base }))
    stands_on s left its_at its_base its_ops its_room its_looks =
        let now : stack_of (set stacks p s) p ≡ s = get_or-set_same stacks p s no_stack stands.process in
        record {
          process = subst (λ n. p < n) (sym (length-set stacks p s)) stands.process;
          address = ap (λ (x : Stack). x.at) now ∙ its_at ∙ back_at;
          operands = ap (λ (x : Stack). x.operands) now ∙ its_ops;
          has_room = subst (λ n. room ≤ n) (sym (ap (λ (x : Stack). x.room) now ∙ its_room)) stands.has_room;
          from = ap (λ (x : Stack). word_of (last_activation (set stacks p s) (unwrap_or x.looks_from p))) now
              ∙ ap (λ o. word_of (last_activation (set stacks p s) (unwrap_or o p))) (its_looks ∙ looks)
              ∙ ap (λ (x : Stack). word_of (record { process = p; cell = x.base })) now ∙ ap (λ n. word_of (record { process = p; cell = n }))
              (its_base ∙ back_base);
        }

    pub stands_back : StandsAt (set stacks p (returned (stack_of stacks p))) p (before.at + 1) ops room (word_of (record { process = p; cell = before.base }))
    stands_back = stands_on (returned (stack_of stacks p)) ops refl refl stands.operands refl refl

    pub stands_back_with : (v : ℤ) → StandsAt (set stacks p (returned_with v (stack_of stacks p))) p (before.at + 1) (v ∷ ops) room
        (word_of (record { process = p; cell = before.base }))
    stands_back_with v = stands_on (returned_with v (stack_of stacks p)) (v ∷ ops) refl refl (ap (λ os. v ∷ os) stands.operands) refl refl

  -- ## The result

  pub result_held :
      (n : ℕ) (t : TypeId) (code : ImageBlock) → slice_get (layout_at g.program home) n ≡ Some (Variable t false) → is_simple t ≡ true
      → code.params ≡ cells_before g.program.state.forms (layout_at g.program home) n
      → variable store (record { activation = e.activation; variable = n; selectors = [] }) ≡ ordinal (result_in (Some code) (stack_of stacks p))
  result_held n t code laid simple params =
      let l : Location = record { activation = e.activation; variable = n; selectors = [] } in
      let r : Ref = record { process = home.process; cell = home.cell + own_cells + cells_before g.program.state.forms (layout_at g.program home) n + 0 } in
      let lies : Lies g.program homes l (Some t) r = record {
        home = home;
        behind = 0;
        is = record { at = at; meaning = Variable t false; laid = laid; variable = refl; own = refl; path = here (Some t) };
        place = refl;
      } in
      let living_there : Lives entries e.activation = lives entries p e top in
      let typed = fits g.program hold.types.counted homes entries store stacks l (Some t) r hold.memory living_there lies in
      let words = reads g.program hold.types.counted homes entries store stacks l (Some t) r hold.memory living_there lies in
      let number = as_number t (value_at store l) typed simple in
      let one : type_cells g.program.state.forms (Some t) ≡ 1 = hold.types.counted.single_cells t (simple_parts t simple) in
      let its = has_home g.program homes entries store stacks p e.activation hold.memory (is_among e (entries p) top) in
      let process : home.process ≡ p = ap (λ (h : Home). h.process) (some_same home its.0 (sym at ∙ its.1)) ∙ its.2 in
      let word : get_or (cells_of stacks home.process) r.cell (pos 0) ≡ number.0 =
      first_word (cells_of stacks home.process) r.cell number.0 (sym (ap (λ z. cells_at stacks r z) one) ∙ words ∙ ap words_of number.1) in
      let place : r.cell ≡ (stack_of stacks p).base + (own_cells + code.params) = omega (arith, base, params) in
      number.1 ∙ ap ordinal (sym word ∙ ap₂ (λ q k. get_or (cells_of stacks q) k (pos 0)) process place)
    where
      simple_parts : (t : TypeId) → is_simple t ≡ true → has_parts (form_of g.program.state.forms t) ≡ false
      simple_parts t h = ap has_parts (hold.types.sound.simple_form t h)

      as_number : (t : TypeId) (v : Value) → IsOf g.program.state.forms t v → is_simple t ≡ true → (n : ℤ) × (v ≡ ordinal n)
      as_number t _ (is_number u n parts) simple = (n, refl)
      as_number t _ (is_array u over element low high vs form of) simple = absurd (let no = ap has_parts
          (sym form ∙ hold.types.sound.simple_form t simple) in cc)
      as_number t _ (is_record u fields vs form of) simple = absurd (let no = ap has_parts (sym form ∙ hold.types.sound.simple_form t simple) in cc)

      first_word : (cells : List ℤ) (k : ℕ) (n : ℤ) → take 1 (drop k cells) ≡ n ∷ [] → get_or cells k (pos 0) ≡ n
      first_word [] zero n h = absurd (cc)
      first_word [] (suc k) n h = absurd (cc)
      first_word (x ∷ cells) zero n h = cc
      first_word (x ∷ cells) (suc k) n h = first_word cells k n h

module _ (g : Setting) (homes : Homes) (entries : Entries) (store : Store) (stacks : Stacks) (p : ℕ) (e : Entry)
    (hold : HoldStore g homes entries store stacks) (living : entries p ≡ e ∷ []) (home : Home)
    (at : homes e.activation ≡ Some home) (none : HasNoObjects g.program (block_at g.program home.scope)) where
  pub held_ended : HoldStore g homes (with_entries entries p []) (without store e.activation) stacks
  held_ended =
      record {
        types = hold.types;
        memory = end_taken g.program hold.types.counted homes entries store stacks p e hold.memory living;
        few = hold.few;
        objects = objects_left g.program homes entries store p e [] living home at none g.number hold.objects;
      }
