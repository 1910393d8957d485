-- A process is created: on the stacks, and what it sees.
use Rattle.std.proofs.Common.{◌≡◌, ◌≢◌, ℕ, zero, suc, ◌+◌, ◌-◌, ◌^◌, ◌<◌, ◌≤◌, ℤ, Bool, true, false, List, [], ◌∷◌, ◌++◌, length, drop, set, None, refl, sym}
use Rattle.std.proofs.Common.{ap, ◌∙◌, subst, arith, length-append, ◌⊎◌, inl, inr}
use Rattle.std.specs.Prelude.{unwrap_or}
use Rattle.std.proofs.lemmas.List.{get_or-set_same, get_or-set_other, length-set}
use Rattle.pfc_code.specs.declared.images.Block.{Block as ImageBlock}
use Rattle.pfc_types.specs.Scopes.{scope_at}
use Rattle.pfc_semantics.specs.Values.{Value}
use Rattle.pfc_semantics.specs.Layouts.{Layout, laid_names}
use Rattle.pfc_semantics.specs.Store.{with_room}
use Rattle.pfc_semantics.specs.Displays.{Display, frame_of, outward, accept_frames}
use Rattle.pfc_semantics.specs.Programs.{Block}
use Rattle.pfc_semantics.specs.Configurations.{Config}
use Rattle.pfc_semantics.specs.Calls.{new_number}
use Rattle.pfc_semantics.specs.Processes.{process_display}
use Rattle.pfc_translation.specs.Sites.{is_mains, is_accept}
use Rattle.pfc_stacks.specs.Refs.{word_of}
use Rattle.pfc_stacks.specs.Stacks.{Stack, Stacks, no_stack, stack_of, operands_of, cells_of, last_activation}
use Rattle.pfc_stacks.specs.Activations.{has_place, own_words, block_cells, arguments, main_link, first_own, entered, created}
use Rattle.pfc_cells.specs.Shapes.{AreCounted}
use Rattle.pfc_cells.specs.Homes.{Homes, layout_at}
use Rattle.pfc_cells.specs.Memory.{AreCells, Entries}
use Rattle.pfc_cells.specs.Activations.{with_home, with_entries}
use Rattle.pfc_cells.proofs.Machine.{creation_added}
use Rattle.pfc_standing_code.specs.Settings.{Setting}
use Rattle.pfc_standing_code.specs.Words.{is_known}
use Rattle.pfc_views.specs.Views.{own_place, first_number, Sees, AreFew}
use Rattle.pfc_stack_laws.specs.Standing.{StandsAt, HoldStore, IsAtHand}
use Rattle.pfc_call_laws.specs.Blocks.{AreLent}
use Rattle.pfc_call_laws.specs.Around.{scopes_around, HasScopes, IsNested, ShowsAround, keeps_also}
use Rattle.pfc_call_laws.specs.Inside.{view_inside}
use Rattle.pfc_call_laws.specs.Calls.{HasNoObjects, first_home}
use Rattle.pfc_call_laws.proofs.Places.{or_left}
use Rattle.pfc_call_laws.proofs.Displays.{scopes_in}
use Rattle.pfc_call_laws.proofs.Frames.{frame_of_other, accept_of_scope}
use Rattle.pfc_call_laws.proofs.Beginning.{new_sees, objects_stay}
use Rattle.pfc_call_laws.proofs.Calling.{has_addresses, is_addressed}

either : (n m : ℕ) → (n ≡ m) ⊎ (n ≢ m)
either n m = grind arith

no_parts : (xs ys : List ℕ) → [] ≡ xs ++ ys → xs ≡ []
no_parts [] ys h = refl
no_parts (x ∷ xs) ys h = absurd (cc)

-- a stack whose cells stay
cells_alike : (stacks : Stacks) (p : ℕ) (s : Stack) → s.cells ≡ cells_of stacks p → (q : ℕ) → cells_of (set stacks p s) q ≡ cells_of stacks q
cells_alike [] p s e q = refl
cells_alike (x ∷ stacks) zero s e zero = e
cells_alike (x ∷ stacks) zero s e (suc q) = refl
cells_alike (x ∷ stacks) (suc p) s e zero = refl
cells_alike (x ∷ stacks) (suc p) s e (suc q) = cells_alike stacks p s e q

-- ## What is seen

module _ (g : Setting) (homes : Homes) (entries : Entries) (c : Config) (hand : IsAtHand g homes entries c.store g.program.main main_link) (callee : Block)
    (known_block : HasScopes g.program callee)
    (nested : IsNested g.program g.program.main callee 0) (shows : ShowsAround g.program g.program.main hand.display) (display : hand.display ≡ []) where
  abbrev behind : Display
  behind = accept_frames g.program.state.blocks (new_number c) callee.accepts callee.next (length
      (laid_names (scope_at g.program.state.blocks.scopes callee.scope)))

  abbrev first : ℕ
  first = length (laid_names (scope_at g.program.state.blocks.scopes callee.scope))

  alike : (i : ℕ) → callee.scope ≢ i → is_known g.program.state.blocks callee [] i ≡ true → frame_of behind i ≡ frame_of (outward hand.display callee.outer) i
  alike i apart known =
      frame_of_other g.program.state.blocks (new_number c) callee first i (known_block.no_accept i known)
      ∙ sym (ap (λ (d : Display). frame_of (outward d callee.outer) i) display)

  alone : scopes_around g.program g.program.main ≡ []
  alone = no_parts (scopes_around g.program g.program.main) shows.accepts (ap (λ (d : Display). scopes_in d) (sym display) ∙ shows.scopes)

  pub shows_process : ShowsAround g.program callee (process_display g.program c callee)
  shows_process =
      record {
        accepts = scopes_in behind;
        scopes = ap (λ l. (callee.scope ∷ l) ++ scopes_in behind) (sym alone) ∙ ap (λ l. l ++ scopes_in behind) (sym nested.around);
        apart = λ k i there. apart_from_mains i (accept_of_scope g.program.state.blocks (new_number c) callee first k i there)
            (is_mains g.program.state.blocks i) refl;
      }
    where
      apart_from_mains : (i : ℕ) → is_accept callee i ≡ true → (d : Bool) → is_mains g.program.state.blocks i ≡ d → is_mains g.program.state.blocks i ≡ false
      apart_from_mains i accept false is = is
      apart_from_mains i accept true is = absurd (let both : true ≡ false = sym accept ∙ known_block.no_accept i
          (or_left (is_mains g.program.state.blocks i) _ is) in cc)

  module _ (sound : AreCounted g.program.state.forms) (free : homes (new_number c) ≡ None) (p k : ℕ) (ops : List ℤ) (code : ImageBlock) (values : List Value)
      (few : p < 1024) (place : has_place p 0 code ≡ true)
      (lent : AreLent g.program hand.keeps callee values) (holds : AreCells g.program homes callee.layout values
      (block_cells (arguments code ops) (code.cells - code.params))) where
    pub process_sees :
        Sees g.program (with_home homes (new_number c) (first_home p callee.scope)) (with_entries entries p
        (record { activation = new_number c; own = own_words (first_own k) } ∷ entries p))
        (with_room c.store (new_number c) values) (keeps_also hand.keeps (new_number c)) (process_display g.program c callee) callee []
        (word_of (own_place (first_home p callee.scope)))
        (new_number c ∷ hand.chain) (view_inside g.program.state.forms callee.layout values (block_cells (arguments code ops) (code.cells - code.params))
        (first_number (first_home p callee.scope)) 0 g.view)
    process_sees =
        new_sees g.program homes entries c.store (new_number c) free (first_home p callee.scope) p
        (own_words (first_own k)) values sound hand.keeps hand.display g.program.main g.accepts main_link hand.chain g.view
        hand.sees callee known_block 0 nested shows refl hand.sees.links (block_cells (arguments code ops) (code.cells - code.params)) holds lent
        (is_addressed p 0 (length (block_cells (arguments code ops) (code.cells - code.params))) 1024 few (omega arith) (has_addresses p 0 ops code place))
        behind alike

-- ## The stacks

module _ (stacks : Stacks) (k p from : ℕ) (code : ImageBlock) (there : p < length stacks) where
  abbrev maker : Stack
  maker = stack_of stacks from

  abbrev on : Stack
  on = record maker { at = maker.at + 1; operands = drop (code.params + 1) maker.operands }

  abbrev new : Stack
  new = entered k code (arguments code maker.operands) (code.cells - code.params) (stack_of stacks p).spare

  abbrev next : Stacks
  next = created k code p from stacks

  next_length : length next ≡ length stacks
  next_length = length-set (set stacks from on) p new ∙ length-set stacks from on

  is_new : stack_of next p ≡ new
  is_new = get_or-set_same (set stacks from on) p new no_stack (subst (λ n. p < n) (sym (length-set stacks from on)) there)

  is_maker : from ≢ p → from < length stacks → stack_of next from ≡ on
  is_maker apart inside = get_or-set_other (set stacks from on) p from new no_stack apart ∙ get_or-set_same stacks from on no_stack inside

  is_other : (q : ℕ) → q ≢ p → q ≢ from → stack_of next q ≡ stack_of stacks q
  is_other q apart beside = get_or-set_other (set stacks from on) p q new no_stack apart ∙ get_or-set_other stacks from q on no_stack beside

  pub new_stands : (i : ℕ) → StandsAt next p code.entry [] code.operands (word_of (own_place (first_home p i)))
  new_stands i =
      record {
        process = subst (λ n. p < n) (sym next_length) there;
        address = ap (λ (s : Stack). s.at) is_new;
        operands = ap (λ (s : Stack). s.operands) is_new;
        has_room = has_room;
        from = ap (λ (s : Stack). word_of (last_activation next (unwrap_or s.looks_from p))) is_new
            ∙ ap (λ (s : Stack). word_of (record { process = p; cell = s.base })) is_new;
      }
    where
      has_room : code.operands ≤ (stack_of next p).room
      has_room = (let is : (stack_of next p).room ≡ code.operands + (stack_of stacks p).spare = ap (λ (s : Stack). s.room) is_new in omega (arith, is))

  pub maker_stands : (at room : ℕ) (ops : List ℤ) (w : ℤ) → from ≢ p → StandsAt stacks from at ops room w → maker.looks_from ≡ None
      → StandsAt next from (at + 1) (drop (code.params + 1) ops) room w
  maker_stands at room ops w apart stands looks =
      let is = is_maker apart stands.process in
      record {
        process = subst (λ n. from < n) (sym next_length) stands.process;
        address = ap (λ (s : Stack). s.at) is ∙ ap (λ n. n + 1) stands.address;
        operands = ap (λ (s : Stack). s.operands) is ∙ ap (λ os. drop (code.params + 1) os) stands.operands;
        has_room = subst (λ (s : Stack). room ≤ s.room) (sym is) stands.has_room;
        from = ap (λ (s : Stack). word_of (last_activation next (unwrap_or s.looks_from from))) is
            ∙ ap (λ o. word_of (last_activation next (unwrap_or o from))) looks
            ∙ ap (λ (s : Stack). word_of (record { process = from; cell = s.base })) is ∙ sym
            (ap (λ o. word_of (last_activation stacks (unwrap_or o from))) looks) ∙ stands.from;
      }

  new_few : (size : length new.cells < 2 ^ 32) → AreFew stacks → AreFew next
  new_few size few = record { cells = cells; processes = subst (λ n. n ≤ 1024) (sym next_length) few.processes }
    where
      cells : (q : ℕ) → length (cells_of next q) < 2 ^ 32
      cells q = elim (either q p) [ inl h ↦ same h | inr h ↦ elim (either q from) [ inl e ↦ maker_same h e | inr e ↦ beside h e ] ]
        where
          same : q ≡ p → length (cells_of next q) < 2 ^ 32
          same h = subst (λ n. n < 2 ^ 32) (sym (ap (λ n. length (cells_of next n)) h ∙ ap (λ (s : Stack). length s.cells) is_new)) size

          maker_same : q ≢ p → q ≡ from → length (cells_of next q) < 2 ^ 32
          maker_same h e = subst (λ n. n < 2 ^ 32) (sym (maker_cells h e)) (few.cells q)
            where
              maker_cells : q ≢ p → q ≡ from → length (cells_of next q) ≡ length (cells_of stacks q)
              maker_cells h e =
                  ap (λ (s : Stack). length s.cells) (get_or-set_other (set stacks from on) p q new no_stack h)
                  ∙ ap (λ n. length (cells_of (set stacks from on) n)) e ∙ kept_cells ∙ ap (λ n. length (cells_of stacks n)) (sym e)
                where
                  kept_cells : length (cells_of (set stacks from on) from) ≡ length (cells_of stacks from)
                  kept_cells = ap length (cells_alike stacks from on refl from)

          beside : q ≢ p → q ≢ from → length (cells_of next q) < 2 ^ 32
          beside h e = subst (λ n. n < 2 ^ 32) (sym (ap (λ (s : Stack). length s.cells) (is_other q h e))) (few.cells q)

module _ (g : Setting) (homes : Homes) (entries : Entries) (c : Config) (stacks : Stacks) (k p from : ℕ) (callee : Block) (code : ImageBlock)
    (values : List Value)
    (hold : HoldStore g homes entries c.store stacks) (idle : entries p ≡ []) (there : p < length stacks) (free : homes (new_number c) ≡ None)
    (place : has_place p 0 code ≡ true)
    (known_block : HasScopes g.program callee) (none : HasNoObjects g.program callee)
    (holds : AreCells g.program homes callee.layout values (block_cells (arguments code (operands_of stacks from)) (code.cells - code.params))) where
  layout : layout_at g.program (first_home p callee.scope) ≡ callee.layout
  layout = ap (λ (x : Block). x.layout) known_block.by_scope

  size : length (new stacks k p from code there).cells < 2 ^ 32
  size =
      let all : length (new stacks k p from code there).cells ≡ 8 + length (block_cells (arguments code (operands_of stacks from)) (code.cells - code.params)) =
      length-append (own_words (first_own k)) (block_cells (arguments code (operands_of stacks from)) (code.cells - code.params)) in
      let fits = has_addresses p 0 (operands_of stacks from) code place in
      omega (arith, all, fits)

  pub held : HoldStore g (with_home homes (new_number c) (first_home p callee.scope)) (with_entries entries p
      (record { activation = new_number c; own = own_words (first_own k) } ∷ entries p))
      (with_room c.store (new_number c) values) (created k code p from stacks)
  held =
      record {
        types = hold.types;
        memory = creation_added g.program homes entries c.store stacks from p (new_number c) callee.scope k code values hold.memory idle there free
            (subst (λ (x : Layout). AreCells g.program homes x values (block_cells (arguments code (operands_of stacks from)) (code.cells - code.params)))
            (sym layout) holds);
        few = new_few stacks k p from code there size hold.few;
        objects = objects_stay g.program homes entries c.store (new_number c) free (first_home p callee.scope) p
            (own_words (first_own k)) values callee none layout g.number hold.objects;
      }
