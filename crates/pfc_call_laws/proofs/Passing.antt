-- What is passed to a block fills its cells.
use Rattle.std.proofs.Common.{◌≡◌, ℕ, suc, ◌+◌, ◌-◌, ◌<◌, ◌≤◌, ℤ, pos, Bool, true, false, List, [], ◌∷◌, ◌++◌, map, length, take, drop, get_or, slice_get}
use Rattle.std.proofs.Common.{reverse, replicate, Option, Some, refl, sym, ap, ap₂, ◌∙◌, subst, arith, append_assoc, length-append, append-nil, ◌⊎◌, inl, inr}
use Rattle.std.proofs.lemmas.List.{map-append, drop-map, take_at, drop_at, reverse-append, length-reverse, get_or_append_left}
use Rattle.pfc_code.specs.declared.images.Block.{Block as ImageBlock}
use Rattle.pfc_types.specs.declared.types.TypeId.{TypeId}
use Rattle.pfc_types.specs.declared.scope.Meaning.{Meaning}
use Rattle.pfc_types.specs.declared.scope.Meaning.TheVariants.{Variable}
use Rattle.pfc_types.specs.declared.heads.Formal.{Formal}
use Rattle.pfc_semantics.specs.Values.{Value, Location, ordinal, points}
use Rattle.pfc_semantics.specs.Layouts.{Layout}
use Rattle.pfc_semantics.specs.Displays.{Display, located}
use Rattle.pfc_semantics.specs.Objects.{first_laid}
use Rattle.pfc_semantics.specs.Programs.{Block, layout_cells}
use Rattle.pfc_semantics.specs.Remainders.{Context, Argument, by_value, by_reference}
use Rattle.pfc_semantics.specs.Configurations.{Config, activity_of, passed, all_passed}
use Rattle.pfc_semantics.specs.Calls.{new_values}
use Rattle.pfc_translation.specs.Sites.{is_reference}
use Rattle.pfc_stacks.specs.Stacks.{Stacks}
use Rattle.pfc_stacks.specs.Activations.{arguments, block_cells}
use Rattle.pfc_cells.specs.Homes.{Homes}
use Rattle.pfc_cells.specs.Memory.{IsHeld, Refers, to_location, AreCells, Entries}
use Rattle.pfc_cells.proofs.Blocks.{block_length}
use Rattle.pfc_standing_code.specs.Settings.{Setting, site_of}
use Rattle.pfc_standing_code.specs.Typed.{unlined}
use Rattle.pfc_standing_code.specs.Words.{IsWord, IsArgument, AreHeldAt, AreHeld, none_held, one_more, AreKnown}
use Rattle.pfc_views.specs.Views.{LiesAt}
use Rattle.pfc_views.proofs.Named.{lies_in_view}
use Rattle.pfc_stack_laws.specs.Standing.{HoldStore, IsAtHand}
use Rattle.pfc_stack_laws.proofs.Plain.{value_fits}
use Rattle.pfc_call_laws.specs.Blocks.{HasFirstValues, AreLaidAs, own_variables, Takes, AreLent}
use Rattle.pfc_call_laws.proofs.Lists.{slice_front, slice_back}
use Rattle.pfc_call_laws.proofs.Layouts.{layout_joined, cells_joined, first_cells, IsLent, AllLent, lent_joined, lent_at, laid_last, laid_count}

either : (n m : ℕ) → (n < m) ⊎ (m ≤ n)
either n m = grind arith

some_same : {A : Type 0} (x y : A) → Some x ≡ Some y → x ≡ y
some_same x y h = cc

reverse_back : (xs : List ℤ) → reverse (reverse xs) ≡ xs
reverse_back [] = refl
reverse_back (x ∷ xs) = ap reverse (reverse-append (x ∷ []) xs) ∙ reverse-append (reverse xs) (x ∷ []) ∙ ap (λ l. x ∷ l) (reverse_back xs)

-- the words of the arguments so far are on top of what is below, the last on top, and they hold what is passed
record Passed (g : Setting) (homes : Homes) (keeps : ℕ → Bool) (c : Config) (p : ℕ) (formals : List Formal) (given : List Argument)
    (ops below : List ℤ) : Type 0 where
  words : List ℤ
  is : ops ≡ reverse words ++ below
  count : length given ≡ length formals
  holds : (layout : Layout) → AreLaidAs formals layout → AreCells g.program homes layout (all_passed g.program c p given) words
  lent : (layout : Layout) → AreLaidAs formals layout → AllLent keeps layout (all_passed g.program c p given)

module _ (g : Setting) (homes : Homes) (entries : Entries) (c : Config) (stacks : Stacks) (b : Block) (w : ℤ) (hand : IsAtHand g homes entries c.store b w)
    (p : ℕ) (x : Context)
    (hold : HoldStore g homes entries c.store stacks) (display : hand.display ≡ (activity_of g.program c p).display)
    (known : AreKnown g.program b g.accepts x.env) where
  lent_word : (f : Formal) (v : _) (t : TypeId) (word : ℤ) → f.t ≡ Some t → IsWord g.view (site_of g b x) v f.t word
      → LiesAt g.program homes c.store hand.keeps (activity_of g.program c p).display v (Some t) word
  lent_word f v t word typed is =
      subst (λ (d : Display). LiesAt g.program homes c.store hand.keeps d v (Some t) word) display
      (lies_in_view g.program hold.types.counted homes entries c.store hand.keeps hand.display b g.accepts w hand.chain g.view stacks hold.memory hand.sees
      x.env x.line v (Some t) word known
      (subst (λ (u : Option TypeId). IsWord g.view (site_of g b x) v u word) typed is))

  -- one argument
  record OneHeld (f : Formal) (a : Argument) (words : List ℤ) (m : Meaning) : Type 0 where
    holds : IsHeld g.program homes m (passed g.program c p a) words
    lent : IsLent hand.keeps m (passed g.program c p a)

  one_held : (f : Formal) (a : Argument) (words : List ℤ) (m : Meaning) → ((t : TypeId) × (f.t ≡ Some t) × (m ≡ Variable t f.reference))
      → IsArgument g.view (unlined (site_of g b x)) f a words → OneHeld f a words m
  one_held f (by_value v) words m laid is =
      let one : is.0 ≡ laid.0 = some_same is.0 laid.0 (sym is.2 ∙ laid.1) in
      let meaning : m ≡ Variable is.0 false = laid.2 ∙ ap₂ (λ t r. Variable t r) (sym one) is.1 in
      subst (λ (y : Meaning). OneHeld f (by_value v) words y) (sym meaning)
      (record { holds = (value_fits g.program.state.forms hold.types is.3, is.4); lent = tt })
  one_held f (by_reference v) words m laid is =
      let lies = lent_word f v laid.0 is.0 laid.1 is.2 in
      let meaning : m ≡ Variable laid.0 true = laid.2 ∙ ap (λ r. Variable laid.0 r) is.1 in
      subst (λ (y : Meaning). OneHeld f (by_reference v) words y) (sym meaning)
      (record {
        holds = (
          is.0,
          is.3,
          subst (λ (y : ℤ). Refers g.program homes laid.0 (points (located c.store (activity_of g.program c p).display v)) y) (sym lies.word)
              (to_location _ lies.place lies.lies),
        );
        lent = (located c.store (activity_of g.program c p).display v, refl, lies.kept);
      })

  none_passed : (below : List ℤ) → Passed g homes hand.keeps c p [] [] below below
  none_passed below = record { words = []; is = refl; count = refl; holds = none; lent = none_lent }
    where
      none : (layout : Layout) → AreLaidAs [] layout → AreCells g.program homes layout [] []
      none [] h = refl
      none (m ∷ layout) h = absurd h

      none_lent : (layout : Layout) → AreLaidAs [] layout → AllLent hand.keeps layout []
      none_lent [] h = tt
      none_lent (m ∷ layout) h = absurd h

  more_passed :
      (formals : List Formal) (given : List Argument) (ops below : List ℤ) (f : Formal) (a : Argument) (words : List ℤ)
      → Passed g homes hand.keeps c p formals given ops below
      → IsArgument g.view (unlined (site_of g b x)) f a words → Passed g homes hand.keeps c p (formals ++ f ∷ []) (given ++ a ∷ []) (reverse words ++ ops) below
  more_passed formals given ops below f a words h is =
      let all : all_passed g.program c p (given ++ a ∷ []) ≡ all_passed g.program c p given ++ passed g.program c p a ∷ [] = map-append
      (passed g.program c p) given (a ∷ []) in
      record {
        words = h.words ++ words;
        is = ap (λ l. reverse words ++ l) h.is ∙ sym (append_assoc (reverse words) (reverse h.words) below)
            ∙ ap (λ l. l ++ below) (sym (reverse-append h.words words));
        count = length-append given (a ∷ []) ∙ ap (λ n. n + 1) h.count ∙ sym (length-append formals (f ∷ []));
        holds = λ layout laid. (
            let last = laid_last formals f layout laid in
            let one = one_held f a words last.last last.laid is in
            subst (λ (l : Layout). AreCells g.program homes l (all_passed g.program c p (given ++ a ∷ [])) (h.words ++ words)) (sym last.is)
            (subst (λ (vs : List Value). AreCells g.program homes (last.before ++ last.last ∷ []) vs (h.words ++ words)) (sym all)
            (cells_joined g.program homes last.before (last.last ∷ []) (all_passed g.program c p given) (passed g.program c p a ∷ []) h.words words
            (h.holds last.before last.first)
            (words, [], sym (append-nil words), one.holds, refl))));
        lent = λ layout laid. (
            let last = laid_last formals f layout laid in
            let one = one_held f a words last.last last.laid is in
            subst (λ (l : Layout). AllLent hand.keeps l (all_passed g.program c p (given ++ a ∷ []))) (sym last.is)
            (subst (λ (vs : List Value). AllLent hand.keeps (last.before ++ last.last ∷ []) vs) (sym all)
            (lent_joined hand.keeps last.before (last.last ∷ []) (all_passed g.program c p given) (passed g.program c p a ∷ [])
            (h.lent last.before last.first) (one.lent, tt))));
      }

  all_are_passed : (formals : List Formal) (given : List Argument) (ops below : List ℤ) → AreHeldAt g.view (unlined (site_of g b x)) formals given ops below
      → Passed g homes hand.keeps c p formals given ops below
  all_are_passed _ _ _ _ (none_held below) = none_passed below
  all_are_passed _ _ _ _ (one_more formals given ops below f a words before is) = more_passed formals given ops below f a words
      (all_are_passed formals given ops below before) is

  -- the words of all arguments are the last operands
  module _ (formals : List Formal) (parameters : Layout) (given : List Argument) (ops below : List ℤ) (z : ℕ) (laid : AreLaidAs formals parameters)
      (cells : z ≡ layout_cells g.program.state.forms parameters) (held : AreHeld g.view (site_of g b x) formals given ops below) where
    abbrev passed_so : Passed g homes hand.keeps c p formals given ops below
    passed_so = all_are_passed formals given ops below held

    words_size : length passed_so.words ≡ z
    words_size = block_length g.program hold.types.counted homes parameters (all_passed g.program c p given) passed_so.words (passed_so.holds parameters laid)
        ∙ sym cells

    words_taken : reverse (take z ops) ≡ passed_so.words
    words_taken =
        ap (λ l. reverse (take z l)) passed_so.is ∙ ap reverse (take_at (reverse passed_so.words) below z (length-reverse passed_so.words ∙ words_size))
        ∙ reverse_back passed_so.words

    pub words_hold : AreCells g.program homes parameters (all_passed g.program c p given) (reverse (take z ops))
    words_hold = subst (λ (ws : List ℤ). AreCells g.program homes parameters (all_passed g.program c p given) ws) (sym words_taken)
        (passed_so.holds parameters laid)

    pub words_left : drop z ops ≡ below
    words_left = ap (λ l. drop z l) passed_so.is ∙ drop_at (reverse passed_so.words) below z (length-reverse passed_so.words ∙ words_size)

    pub words_lent : (k : ℕ) (t : TypeId) → slice_get parameters k ≡ Some (Variable t true)
        → (l : Location) × (get_or (all_passed g.program c p given) k (ordinal (pos 0)) ≡ points l) × (hand.keeps l.activation ≡ true)
    words_lent k t there = lent_at hand.keeps parameters (all_passed g.program c p given) k t (passed_so.lent parameters laid) there

  module _ (first : HasFirstValues g.program) (callee : Block) (code : ImageBlock) (formals : List Formal) (takes : Takes g.program callee formals code)
      (given : List Argument) (ops below : List ℤ)
      (held : AreHeld g.view (site_of g b x) formals given ops below) where
    abbrev args : List Value
    args = all_passed g.program c p given

    abbrev at : Passed g homes hand.keeps c p formals given ops below
    at = all_are_passed formals given ops below held

    abbrev rest : List Value
    rest = map (first_laid g.program.firsts) takes.others

    given_cells : AreCells g.program homes takes.parameters args at.words
    given_cells = at.holds takes.parameters takes.laid

    size : length at.words ≡ code.params
    size = block_length g.program hold.types.counted homes takes.parameters args at.words given_cells ∙ sym takes.params

    count : length args ≡ length takes.parameters
    count = passed_count given ∙ at.count ∙ laid_count formals takes.parameters takes.laid
      where
        passed_count : (all : List Argument) → length (all_passed g.program c p all) ≡ length all
        passed_count [] = refl
        passed_count (a ∷ all) = ap suc (passed_count all)

    values : new_values g.program callee args ≡ args ++ rest
    values =
        ap (λ (l : Layout). args ++ drop (length args) (map (first_laid g.program.firsts) l)) takes.layout
        ∙ ap (λ l. args ++ l) (drop-map (first_laid g.program.firsts) (length args) (takes.parameters ++ takes.others)
        ∙ ap (λ l. map (first_laid g.program.firsts) l) (drop_at takes.parameters takes.others (length args) (sym count)))

    taken : arguments code ops ≡ at.words
    taken =
        ap (λ l. reverse (take code.params l)) at.is ∙ ap reverse (take_at (reverse at.words) below code.params (length-reverse at.words ∙ size))
        ∙ reverse_back at.words

    others_size : code.cells - code.params ≡ layout_cells g.program.state.forms takes.others
    others_size =
        let whole : code.cells ≡ layout_cells g.program.state.forms takes.parameters + layout_cells g.program.state.forms takes.others =
        takes.cells ∙ ap (λ (l : Layout). layout_cells g.program.state.forms l) takes.layout ∙ layout_joined g.program takes.parameters takes.others in
        let params : code.params ≡ layout_cells g.program.state.forms takes.parameters = takes.params in
        omega (arith, whole, params)

    pub filled : AreCells g.program homes callee.layout (new_values g.program callee args) (block_cells (arguments code ops) (code.cells - code.params))
    filled =
        subst (λ (l : Layout). AreCells g.program homes l (new_values g.program callee args) (block_cells (arguments code ops) (code.cells - code.params)))
        (sym takes.layout)
        (subst (λ (vs : List Value). AreCells g.program homes (takes.parameters ++ takes.others) vs
        (block_cells (arguments code ops) (code.cells - code.params))) (sym values)
        (subst (λ (ws : List ℤ). AreCells g.program homes (takes.parameters ++ takes.others) (args ++ rest) ws)
        (ap₂ (λ ws n. ws ++ replicate n (pos 0)) (sym taken) (sym others_size))
        (cells_joined g.program homes takes.parameters takes.others args rest at.words (replicate (layout_cells g.program.state.forms takes.others) (pos 0))
        given_cells
        (first_cells g.program homes first takes.others takes.variables))))

    pub left : drop code.params ops ≡ below
    left = ap (λ l. drop code.params l) at.is ∙ drop_at (reverse at.words) below code.params (length-reverse at.words ∙ size)

    pub lent : AreLent g.program hand.keeps callee (new_values g.program callee args)
    lent k t own laid =
        subst (λ (vs : List Value). (l : Location) × (get_or vs k (ordinal (pos 0)) ≡ points l) × (hand.keeps l.activation ≡ true)) (sym values)
        (elim (either k (length takes.parameters)) [ inl h ↦ among h | inr h ↦ absurd (behind h) ])
      where
        whole : slice_get (takes.parameters ++ takes.others) k ≡ Some (Variable t true)
        whole = ap (λ (l : Layout). slice_get l k) (sym takes.layout) ∙ laid

        among : k < length takes.parameters → (l : Location) × (get_or (args ++ rest) k (ordinal (pos 0)) ≡ points l) × (hand.keeps l.activation ≡ true)
        among h =
            let there : slice_get takes.parameters k ≡ Some (Variable t true) = sym (slice_front takes.parameters takes.others k h) ∙ whole in
            let one = lent_at hand.keeps takes.parameters args k t (at.lent takes.parameters takes.laid) there in
            (one.0, get_or_append_left args rest (ordinal (pos 0)) k (subst (λ n. k < n) (sym count) h) ∙ one.1, one.2)

        behind : length takes.parameters ≤ k → ⊥
        behind h =
            let there : slice_get takes.others (k - length takes.parameters) ≡ Some (Variable t true) = sym (slice_back takes.parameters takes.others k h)
            ∙ whole in
            let few : length takes.parameters + (k - length takes.parameters) < own_variables g.program callee = subst
            (λ n. n < own_variables g.program callee) (omega (arith, h)) own in
            let none : is_reference (Variable t true) ≡ false = takes.own (k - length takes.parameters) (Variable t true) there few in
            cc
