-- Reads and writes of variables.
use Rattle.std.proofs.Common.{◌≡◌, ◌≢◌, ℕ, suc, ◌+◌, ◌-◌, ◌<◌, ◌≤◌, ℤ, pos, true, List, [], ◌∷◌, ◌++◌, length, take, drop, get_or, reverse, Some, refl, sym, ap}
use Rattle.std.proofs.Common.{ap₂, ◌∙◌, subst, arith, length-append, append-nil, append_assoc, inl, inr}
use Rattle.std.proofs.lemmas.List.{get_or-append_right, get_or-set_same, get_or-set_other, length-reverse, take_at, drop_at, length-set}
use Rattle.std.proofs.lemmas.Grind.{reverse_onto}
use Rattle.pfc_code.specs.declared.images.Block.{Block as ImageBlock}
use Rattle.pfc_code.specs.declared.instructions.Instr.{Instr}
use Rattle.pfc_code.specs.declared.instructions.Instr.TheVariants.{LOAD, STORE, FORW}
use Rattle.pfc_types.specs.Types.{cells_in, is_simple}
use Rattle.pfc_types.specs.declared.types.TypeId.{TypeId}
use Rattle.pfc_semantics.specs.Values.{Value, Location, ordinal}
use Rattle.pfc_semantics.specs.Store.{Store, value_at, stored}
use Rattle.pfc_semantics.specs.Displays.{Spot, located}
use Rattle.pfc_semantics.specs.Programs.{Block}
use Rattle.pfc_semantics.specs.Remainders.{Context}
use Rattle.pfc_stacks.specs.declared.refs.Ref.{Ref}
use Rattle.pfc_stacks.specs.Refs.{ref_of}
use Rattle.pfc_stacks.specs.Stacks.{Stack, Stacks, no_stack, with_words, stack_of, operand, operands_of, cells_of, cells_at, written}
use Rattle.pfc_stacks.specs.Conditions.{AreLive, CanPerform as CanPerformOnStacks}
use Rattle.pfc_stacks.specs.Effects.{moved, passed, acts, effect as effect_on_stacks}
use Rattle.pfc_cells.specs.Shapes.{Fits, words_of}
use Rattle.pfc_cells.specs.Homes.{Homes, Lies}
use Rattle.pfc_cells.specs.Memory.{Entries, Lives}
use Rattle.pfc_cells.proofs.Words.{words_fit}
use Rattle.pfc_cells.proofs.Reading.{fits, are_live, reads}
use Rattle.pfc_standing_code.specs.Shapes.{shape_of, shape_cells, IsOf, is_number}
use Rattle.pfc_standing_code.specs.Settings.{Setting, site_of}
use Rattle.pfc_standing_code.specs.Words.{IsWord, IsChecked}
use Rattle.pfc_views.specs.Views.{LiesAt}
use Rattle.pfc_views.proofs.Named.{lies_in_view}
use Rattle.pfc_standing_code.specs.ValueTypes.{IsValueType}
use Rattle.pfc_stack_laws.specs.Standing.{StandsAt, HoldStore, IsAtHand}
use Rattle.pfc_stack_laws.specs.Instructions.{Reads, Writes}
use Rattle.pfc_stack_laws.proofs.Plain.{value_fits, plain_value, plain_shape, plain_cells}
use Rattle.pfc_stack_laws.proofs.Objects.{address_back}
use Rattle.pfc_stack_laws.proofs.Moves.{either, hold_moved, hold_written}

reverse_joined : {A : Type 0} (xs ys : List A) → reverse (xs ++ ys) ≡ reverse ys ++ reverse xs
reverse_joined [] ys = sym (append-nil (reverse ys))
reverse_joined (x ∷ xs) ys = reverse_onto (xs ++ ys) x [] ∙ ap (λ l. l ++ x ∷ []) (reverse_joined xs ys) ∙ append_assoc (reverse ys) (reverse xs) (x ∷ []) ∙
    ap (λ l. reverse ys ++ l) (sym (reverse_onto xs x []))

reverse_back : {A : Type 0} (xs : List A) → reverse (reverse xs) ≡ xs
reverse_back [] = refl
reverse_back (x ∷ xs) = ap reverse (reverse_onto xs x []) ∙ reverse_joined (reverse xs) (x ∷ []) ∙ ap (λ l. x ∷ l) (reverse_back xs)

none_left : (n : ℕ) → n - n ≡ 0
none_left n = omega arith

-- a write leaves its process where it is
stays : (stacks : Stacks) (r : Ref) (words : List ℤ) (p : ℕ) → p < length stacks → (stack_of (written stacks r words) p).at ≡ (stack_of stacks p).at
stays stacks r words p there = elim (either p r.process) [ inl h ↦ same h | inr h ↦ other h ]
  where
    same : p ≡ r.process → (stack_of (written stacks r words) p).at ≡ (stack_of stacks p).at
    same h =
        ap (λ n. (stack_of (written stacks r words) n).at) h
        ∙ ap (λ (s : Stack). s.at) (get_or-set_same stacks r.process (record (stack_of stacks r.process) {
          cells =
              with_words (cells_of stacks r.process) r.cell words;
        }) no_stack (subst (λ n. n < length stacks) h there))
        ∙ ap (λ n. (stack_of stacks n).at) (sym h)

    other : p ≢ r.process → (stack_of (written stacks r words) p).at ≡ (stack_of stacks p).at
    other h = ap (λ (s : Stack). s.at) (get_or-set_other stacks r.process p (record (stack_of stacks r.process) {
      cells =
          with_words (cells_of stacks r.process) r.cell words;
    }) no_stack h)

module _ (g : Setting) (homes : Homes) (entries : Entries) (store : Store) (b : Block) (blocks : List ImageBlock) (stacks : Stacks) (p at : ℕ) (w : ℤ)
    (hand : IsAtHand g homes entries store b w) (hold : HoldStore g homes entries store stacks) where
  lies_at : (x : Context) (v : Spot) (t : TypeId) (word : ℤ) → IsChecked g b x.env → IsWord g.view (site_of g b x) v (Some t) word →
      LiesAt g.program homes store hand.keeps hand.display v (Some t) word
  lies_at x v t word checked is =
      lies_in_view g.program hold.types.counted homes entries store hand.keeps hand.display b g.accepts w hand.chain g.view stacks hold.memory hand.sees x.env
      x.line v (Some t) word checked.known is

  pub read : (x : Context) (v : Spot) (t : TypeId) (word : ℤ) (below : List ℤ) → StandsAt stacks p at (word ∷ below) g.room w → IsChecked g b x.env
      → IsWord g.view (site_of g b x) v (Some t) word → IsValueType g.program.state.forms t →
      length below + shape_cells g.program.state.forms (shape_of t) ≤ g.room
      → Reads g blocks (LOAD (shape_cells g.program.state.forms (shape_of t))) p stacks at below t (value_at store (located store hand.display v))
  read x v t word below stands checked is plain fit =
      let l : Location = located store hand.display v in
      let there = lies_at x v t word checked is in
      let lives : Lives entries l.activation = hand.sees.live l.activation there.kept in
      let z : ℕ = shape_cells g.program.state.forms (shape_of t) in
      let size : z ≡ cells_in g.program.state.forms t = plain_cells g.program.state.forms hold.types t in
      let ref : ref_of word ≡ there.place = ap ref_of there.word ∙ address_back g homes entries store stacks hold l (Some t) there.place lives there.lies in
      let live : AreLive stacks there.place (cells_in g.program.state.forms t) =
      are_live g.program hold.types.counted homes entries store stacks l (Some t) there.place hold.memory lives there.lies in
      let held : length (operands_of stacks p) ≡ suc (length below) = ap length stands.operands in
      let words : cells_at stacks there.place (cells_in g.program.state.forms t) ≡ words_of (value_at store l) =
      reads g.program hold.types.counted homes entries store stacks l (Some t) there.place hold.memory lives there.lies in
      let typed : Fits g.program.state.forms (Some t) (value_at store l) =
      fits g.program hold.types.counted homes entries store stacks l (Some t) there.place hold.memory lives there.lies in
      record {
        can = record {
          held = omega (arith, held);
          room = omega (arith, held, fit, stands.has_room);
          reach = subst (λ (ops : List ℤ). AreLive stacks (ref_of (operand ops 0)) z) (sym stands.operands) (subst (λ (r : Ref). AreLive stacks r z) (sym ref)
              (subst (λ n. AreLive stacks there.place n) (sym size) live));
        };
        effect = ap acts (
            ap₂ (λ a ops. moved stacks p (a + 1) (reverse (cells_at stacks (ref_of (operand ops 0)) z) ++ drop 1 ops)) stands.address stands.operands
            ∙ ap₂ (λ (r : Ref) n. moved stacks p (at + 1) (reverse (cells_at stacks r n) ++ below)) ref size
            ∙ ap (λ ws. moved stacks p (at + 1) (reverse ws ++ below)) words);
        shaped = plain_shape g.program.state.forms hold.types t (value_at store l) plain typed;
        typed = plain_value g.program.state.forms hold.types plain typed;
      }

  -- what a write leaves, once the words and their place are known
  written_at : (i : Instr) (l : Location) (t : TypeId) (v : Value) (place : Ref) (left : List ℤ) → p < length stacks → Lies g.program homes l (Some t) place →
      Lives entries l.activation → IsOf g.program.state.forms t v
      → CanPerformOnStacks blocks i p stacks → effect_on_stacks blocks i p stacks ≡ acts (moved (written stacks place (words_of v)) p (at + 1) left)
      → Writes g homes entries store blocks i p stacks at left l t v
  written_at i l t v place left process lies lives typed can effect =
      let new : Stacks = written stacks place (words_of v) in
      let there : p < length new = subst (λ n. p < n) (sym (length-set stacks place.process _)) process in
      record {
        place = place;
        lies = lies;
        lives = lives;
        can = can;
        effect = effect;
        holds = hold_moved g homes entries (stored store l v) new p (at + 1) left there
            (hold_written g homes entries store stacks hold l t place v lives lies typed);
      }

  -- the operands of a write: the words of the value, the last on top, over the address
  over_address : (ws below : List ℤ) (word : ℤ) → operand (reverse ws ++ word ∷ below) (length ws) ≡ word
  over_address ws below word = get_or-append_right (reverse ws) (word ∷ below) (length ws) (length ws) (pos 0) (length-reverse ws) (omega arith) ∙
      ap (λ n. get_or (word ∷ below) n (pos 0)) (none_left (length ws))

  under_words : (ws below : List ℤ) (word : ℤ) → drop (length ws + 1) (reverse ws ++ word ∷ below) ≡ below
  under_words ws below word = ap (λ l. drop (length ws + 1) l) (sym (append_assoc (reverse ws) (word ∷ []) below)) ∙
      drop_at (reverse ws ++ word ∷ []) below (length ws + 1) (length-append (reverse ws) (word ∷ []) ∙ ap (λ n. n + 1) (length-reverse ws))

  on_words : (ws below : List ℤ) (word : ℤ) → reverse (take (length ws) (reverse ws ++ word ∷ below)) ≡ ws
  on_words ws below word = ap reverse (take_at (reverse ws) (word ∷ below) (length ws) (length-reverse ws)) ∙ reverse_back ws

  pub write : (x : Context) (v : Spot) (t : TypeId) (word : ℤ) (new : Value) (below : List ℤ) →
      StandsAt stacks p at (reverse (words_of new) ++ word ∷ below) g.room w → IsChecked g b x.env
      → IsWord g.view (site_of g b x) v (Some t) word → IsOf g.program.state.forms t new
      → Writes g homes entries store blocks (STORE (shape_cells g.program.state.forms (shape_of t))) p stacks at below (located store hand.display v) t new
  write x v t word new below stands checked is typed =
      let l : Location = located store hand.display v in
      let there = lies_at x v t word checked is in
      let lives : Lives entries l.activation = hand.sees.live l.activation there.kept in
      let ws : List ℤ = words_of new in
      let z : ℕ = shape_cells g.program.state.forms (shape_of t) in
      let size : z ≡ length ws = plain_cells g.program.state.forms hold.types t ∙
      sym (words_fit g.program.state.forms hold.types.counted (Some t) new (value_fits g.program.state.forms hold.types typed)) in
      let ref : ref_of word ≡ there.place = ap ref_of there.word ∙ address_back g homes entries store stacks hold l (Some t) there.place lives there.lies in
      let live : AreLive stacks there.place (cells_in g.program.state.forms t) =
      are_live g.program hold.types.counted homes entries store stacks l (Some t) there.place hold.memory lives there.lies in
      let address : operand (operands_of stacks p) z ≡ word = ap₂ (λ (ops : List ℤ) n. operand ops n) stands.operands size ∙ over_address ws below word in
      let held : length (operands_of stacks p) ≡ length ws + suc (length below) = ap length stands.operands ∙ length-append (reverse ws) (word ∷ below) ∙
      ap (λ n. n + suc (length below)) (length-reverse ws) in
      written_at (STORE z) l t new there.place below stands.process there.lies lives typed
      (record {
        held = omega (arith, held, size);
        room = omega arith;
        reach = subst (λ (y : ℤ). AreLive stacks (ref_of y) z) (sym address) (subst (λ (r : Ref). AreLive stacks r z) (sym ref)
            (subst (λ n. AreLive stacks there.place n) (sym (plain_cells g.program.state.forms hold.types t)) live));
      })
      (ap acts (
      ap (λ (ops : List ℤ). passed (written stacks (ref_of (operand ops z)) (reverse (take z ops))) p (drop (z + 1) ops)) stands.operands
      ∙ ap (λ n. passed (written stacks (ref_of (operand (reverse ws ++ word ∷ below) n)) (reverse (take n (reverse ws ++ word ∷ below)))) p
      (drop (n + 1) (reverse ws ++ word ∷ below))) size
      ∙ ap (λ y. passed (written stacks (ref_of y) (reverse (take (length ws) (reverse ws ++ word ∷ below)))) p
      (drop (length ws + 1) (reverse ws ++ word ∷ below))) (over_address ws below word)
      ∙ ap₂ (λ (r : Ref) us. passed (written stacks r us) p (drop (length ws + 1) (reverse ws ++ word ∷ below))) ref (on_words ws below word)
      ∙ ap (λ left. passed (written stacks there.place ws) p left) (under_words ws below word)
      ∙ ap (λ a. moved (written stacks there.place ws) p (a + 1) below) (stays stacks there.place ws p stands.process ∙ stands.address)))

  pub write_kept : (x : Context) (v : Spot) (t : TypeId) (word last kept : ℤ) (below : List ℤ) →
      StandsAt stacks p at (last ∷ kept ∷ word ∷ below) g.room w → IsChecked g b x.env
      → IsWord g.view (site_of g b x) v (Some t) word → is_simple t ≡ true
      → Writes g homes entries store blocks FORW p stacks at (last ∷ kept ∷ word ∷ below) (located store hand.display v) t (ordinal kept)
  write_kept x v t word last kept below stands checked is simple =
      let l : Location = located store hand.display v in
      let there = lies_at x v t word checked is in
      let lives : Lives entries l.activation = hand.sees.live l.activation there.kept in
      let typed : IsOf g.program.state.forms t (ordinal kept) = is_number t kept simple in
      let size : cells_in g.program.state.forms t ≡ 1 = hold.types.sound.simple_cells t simple in
      let ref : ref_of word ≡ there.place = ap ref_of there.word ∙ address_back g homes entries store stacks hold l (Some t) there.place lives there.lies in
      let live : AreLive stacks there.place (cells_in g.program.state.forms t) =
      are_live g.program hold.types.counted homes entries store stacks l (Some t) there.place hold.memory lives there.lies in
      let held : length (operands_of stacks p) ≡ suc (suc (suc (length below))) = ap length stands.operands in
      let ops : List ℤ = last ∷ kept ∷ word ∷ below in
      written_at FORW l t (ordinal kept) there.place ops stands.process there.lies lives typed
      (record {
        held = omega (arith, held);
        room = omega arith;
        reach = subst (λ (y : ℤ). AreLive stacks (ref_of y) 1) (ap (λ (os : List ℤ). operand os 2) (sym stands.operands))
            (subst (λ (r : Ref). AreLive stacks r 1) (sym ref) (subst (λ n. AreLive stacks there.place n) size live));
      })
      (ap acts (
      ap (λ (os : List ℤ). passed (written stacks (ref_of (operand os 2)) (operand os 1 ∷ [])) p os) stands.operands
      ∙ ap (λ (r : Ref). passed (written stacks r (kept ∷ [])) p ops) ref
      ∙ ap (λ a. moved (written stacks there.place (kept ∷ [])) p (a + 1) ops) (stays stacks there.place (kept ∷ []) p stands.process ∙ stands.address)))
