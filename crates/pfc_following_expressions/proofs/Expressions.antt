-- The code of an expression, of a variable and of arguments follows the next action of its source text.
--
-- The names in view are given with the program's own types and blocks.
use Rattle.std.proofs.Common.{◌≡◌, ℕ, suc, ◌+◌, ◌≤◌, ℤ, pos, ◌+ℤ◌, ◌-ℤ◌, nat_abs, Bool, true, false, if◌then◌else◌, List, [], ◌∷◌, ◌++◌, length, option_map}
use Rattle.std.proofs.Common.{Option, Some, None, Ok, Err, refl, sym, ap, ◌∙◌, subst, arith, append_assoc, append-nil, inl, inr}
use Rattle.pfc_base.specs.declared.places.Place.{Place}
use Rattle.pfc_base.specs.declared.faults.RunFault.TheVariants.{Index}
use Rattle.pfc_code.specs.declared.instructions.Instr.{Instr}
use Rattle.pfc_code.specs.declared.instructions.Instr.TheVariants.{LIT, ADDR, REF, IDX, FLD, LOAD, OBJ, NEG, ABS, SQR, ODD, CHR, SUCC, PRED, NOT, EMPTY, CLOCK}
use Rattle.pfc_code.specs.declared.instructions.Instr.TheVariants.{RAND, EOF, EOLN}
use Rattle.pfc_tree.specs.Symbols.{Text}
use Rattle.pfc_tree.specs.declared.tree.Sign.{Sign}
use Rattle.pfc_tree.specs.declared.tree.Sign.TheVariants.{Plus, Minus}
use Rattle.pfc_tree.specs.declared.tree.AddOp.{AddOp}
use Rattle.pfc_tree.specs.declared.tree.AddOp.TheVariants.{Add, Sub, Or}
use Rattle.pfc_tree.specs.declared.tree.MulOp.{MulOp}
use Rattle.pfc_tree.specs.declared.tree.MulOp.TheVariants.{Mul, Div, Mod, And}
use Rattle.pfc_tree.specs.trees.Exprs.{ExprTree, SimpleTree, SummandTrees, TermTree, MultiplierTrees, FactorTree, SelectorTrees, ExprTrees, ActualTree}
use Rattle.pfc_tree.specs.trees.Exprs.{ActualTrees, plain, related, sum, no_summands, more_summands, product, no_multipliers, more_multipliers, number, literal}
use Rattle.pfc_tree.specs.trees.Exprs.{negation, paren, applied as used, desig, index, field, no_selectors, more_selectors, no_exprs, more_exprs, actual}
use Rattle.pfc_tree.specs.trees.Exprs.{actual_width, no_actuals, more_actuals}
use Rattle.pfc_types.specs.Types.{Forms, condition, array_form, is_simple, field_form, cells_in}
use Rattle.pfc_types.specs.Scopes.{Level, meaning_of}
use Rattle.pfc_types.specs.Blocks.{sub_at}
use Rattle.pfc_types.specs.rules.Expressions.{Env, find, as_desig, first_type, field_type, selected}
use Rattle.pfc_types.specs.declared.types.TypeId.{TypeId}
use Rattle.pfc_types.specs.declared.types.TypeForm.{TypeForm}
use Rattle.pfc_types.specs.declared.types.TypeForm.TheVariants.{Channel, Array, Record, Process as AProcess}
use Rattle.pfc_types.specs.declared.view.Around.{Around}
use Rattle.pfc_types.specs.declared.predeclared.PredeclaredName.{PredeclaredName}
use Rattle.pfc_types.specs.declared.scope.Meaning.{Meaning}
use Rattle.pfc_types.specs.declared.scope.Meaning.TheVariants.{Constant, Named, Variable, Sub as ASub, Module, Process, Entry, Predeclared, Faulty}
use Rattle.pfc_types.specs.declared.heads.Formal.{Formal}
use Rattle.pfc_types.specs.declared.heads.SubHead.{SubHead}
use Rattle.pfc_values.specs.declared.simple.Simple.{Simple}
use Rattle.pfc_values.specs.declared.simple.Simple.TheVariants.{Integer, Boolean, Char}
use Rattle.pfc_values.specs.Numbers.{negative_of, inverse_of, next_of, before_of, magnitude_of, square_of, char_of, is_odd}
use Rattle.pfc_stacks.specs.Effects.{with_outcome, type_numbered, is_within, element_word}
use Rattle.pfc_semantics.specs.Values.{Selector, Value, ordinal, ordinal_of, path_of}
use Rattle.pfc_semantics.specs.Displays.{Spot, TypedSpot, within}
use Rattle.pfc_semantics.specs.Operators.{simple_of, signed, added, multiplied, compared}
use Rattle.pfc_semantics.specs.Predeclared.{Function, abs, sqr, odd, ord, chr, succ, pred, eof, eoln, empty, clock, random, no_function, function_of}
use Rattle.pfc_semantics.specs.Programs.{Block}
use Rattle.pfc_semantics.specs.Remainders.{Context, Argument, by_value, by_reference, AwaitsValue, AwaitsLocation, Call, Action, begin_sum, add_to}
use Rattle.pfc_semantics.specs.Remainders.{begin_product, multiply_by, compare_with, compare_to, invert, apply, index_into, pass_value, read_for, pass_variable}
use Rattle.pfc_semantics.specs.Remainders.{ask_empty, to_function, reads, asks_empty}
use Rattle.pfc_semantics.specs.Expressions.{with_number, char_in, spot_of, place_among, field_place, form_in, field_spot, element_in as element_within}
use Rattle.pfc_semantics.specs.Expressions.{element_spot, with_element, finish_call, from_function, from_name, from_expr, from_simple, from_summands, from_term}
use Rattle.pfc_semantics.specs.Expressions.{from_multipliers, from_factor, from_argument, from_reference, from_actual, from_lent, from_variable, from_args}
use Rattle.pfc_semantics.specs.Expressions.{from_selectors, from_indices}
use Rattle.pfc_translation.specs.Sites.{Site, type_cells, links_to, cell_of, refers}
use Rattle.pfc_translation.specs.Codes.{Code, nothing, ◌⨾◌, one}
use Rattle.pfc_translation.specs.Addresses.{base_code, element_in, type_behind, index_instr, fields_before, field_cell}
use Rattle.pfc_translation.specs.Expressions.{relation_instr, add_instr, multiply_instr, sign_code, simple_number, function_code, call_instr, name_code}
use Rattle.pfc_translation.specs.Expressions.{expr_code, simple_code, summands_code, term_code, multipliers_code, factor_code, first_value, first_address}
use Rattle.pfc_translation.specs.Expressions.{actual_code, lent_code, variable_code, args_code, selectors_code, indices_code}
use Rattle.pfc_translation.specs.Calls.{formals_cells}
use Rattle.pfc_translation.specs.Operands.{takes, leaves}
use Rattle.pfc_code_laws.proofs.Expressions.{plain_expr, plain_simple, plain_term, plain_factor, plain_first, plain_first_address, plain_actual, plain_lent}
use Rattle.pfc_code_laws.proofs.Expressions.{plain_args, plain_selectors, plain_indices}
use Rattle.pfc_standing_code.specs.Sizes.{IsSized}
use Rattle.pfc_cells.specs.Shapes.{IsPath, here}
use Rattle.pfc_standing_code.specs.Shapes.{Shape, a_number, a_whole, shape_of, shape_cells, is_number, is_object_type}
use Rattle.pfc_standing_code.specs.Settings.{Setting, of_own, MayRead, site_of, IsAt, Stands}
use Rattle.pfc_standing_code.specs.Effects.{Arm, of_own_effect, numbered, CanPerform}
use Rattle.pfc_standing_code.specs.ValueTypes.{IsValueType}
use Rattle.pfc_standing_code.proofs.ValueTypes.{awaited_value}
use Rattle.pfc_standing_code.specs.Typed.{unlined, whole_of, IsDeclared, IsArray, IsField, InExpressions, IsSub, Either, IsPassed, IsFunction, IsUse, HasShape}
use Rattle.pfc_standing_code.specs.Typed.{HasShapeSimple, AreSummands, HasShapeTerm, AreMultipliers, HasShapeFactor, IsGivenFirst, IsLentFirst, IsGiven, IsLent}
use Rattle.pfc_standing_code.specs.Typed.{IsVariable, AreArguments, AreSelectors, AreIndices, desig_spot, lent_spot}
use Rattle.pfc_standing_code.specs.Words.{first_word, IsWord, IsPart, IsObject, IsChecked, AreHeld, none_held, one_more, Lends, LendsWhole, LendsAt}
use Rattle.pfc_standing_code.specs.Awaits.{has_argument, is_asked, finishing, TakesValue, TakesLocation, CallsAt}
use Rattle.pfc_standing_code.specs.Following.{Follows, arrives}
use Rattle.pfc_standing_code.proofs.Lends.{lends_rest, lends_next, lends_value, lends_variable}
use Rattle.pfc_standing_code.proofs.Trials.{calls_own, sub_own, asked_own, named_read}
use Rattle.pfc_standing_code.proofs.Sizes.{sized_plain, sized_base, sized_both}
use Rattle.pfc_following_expressions.proofs.Glue.{held_behind, held_after, room_for, room_after, front, back, head, lone, tail, stands_moved, stands_over}
use Rattle.pfc_following_expressions.proofs.Held.{held_grown, changes_one, shaped_cells, sign_changes, base_changes, expr_changes, simple_changes, term_changes}
use Rattle.pfc_following_expressions.proofs.Held.{factor_changes, first_changes, first_address_changes, given_changes, lent_changes, args_change}
use Rattle.pfc_following_expressions.proofs.Held.{indices_change, part_changes}
use Rattle.pfc_following_expressions.proofs.Moves.{fits, next_move, fault_at, outcome_move, add_move, multiply_move, relation_move, follows_moved}
use Rattle.pfc_following_expressions.proofs.Places.{word_is_address, element_kept, field_kept}

-- ## Names that are in view in a program

abbrev pub env_in : Setting → List Level → Around → Env
env_in g names around = record { state = g.program.state; view = names; around = around }

type_by_number : (t : Simple) → type_numbered (simple_number t) ≡ t
type_by_number Integer = refl
type_by_number Boolean = refl
type_by_number Char = refl

pub never : {A : Type 0} → false ≡ true → A
never e = absurd (by e)
  where
    by : false ≡ true → ⊥
    by e = cc

pub simple_shape : (t : TypeId) → shape_of t ≡ a_number → is_simple t ≡ true
simple_shape t e = by (is_simple t) e
  where
    by : (b : Bool) → (if b then a_number else a_whole t) ≡ a_number → b ≡ true
    by true e = refl
    by false e = absurd (cc)

module _ (g : Setting) (b : Block) (names : List Level) (around : Around) (checked : IsChecked g b (env_in g names around)) (line : ℕ)
    (arms : List Arm) (few : length arms ≤ g.arms) where
  abbrev pub x : Context
  x = record { env = env_in g names around; line = line }

  abbrev pub s : Site
  s = site_of g b x

  abbrev pub forms : Forms
  forms = g.program.state.forms

  pub value_moved : (at to : ℕ) (ops : List ℤ) (h : Shape) (u : AwaitsValue) → at ≡ to → TakesValue g b x at ops arms h u → TakesValue g b x to ops arms h u
  value_moved at to ops h u e w = subst (λ (y : ℕ). TakesValue g b x y ops arms h u) e w

  pub location_moved : (at to : ℕ) (ops : List ℤ) (t : Option TypeId) (goal : AwaitsLocation) → at ≡ to →
      TakesLocation g b x at ops arms t goal → TakesLocation g b x to ops arms t goal
  location_moved at to ops t goal e w = subst (λ (y : ℕ). TakesLocation g b x y ops arms t goal) e w

  -- ## What is proved of a phrase

  -- code that leads to a value, or to an action that comes before it
  abbrev pub Evaluates : Code → Shape → (AwaitsValue → (Value → Action) → Action) → Type 0
  Evaluates code h from =
      (u : AwaitsValue) (go : Value → Action) (at n to : ℕ) (ops : List ℤ) → Stands g at n (length ops) code →
      at + code.size ≡ to → TakesValue g b x to ops arms h u
      → ((v : ℤ) → h ≡ a_number → Follows g (go (ordinal v)) to (v ∷ ops) arms) → Follows g (from u go) at ops arms

  -- code that leads to the address of a part of this variable, which may be read there
  abbrev pub Reaches : Code → Option TypeId → Spot → (AwaitsLocation → (TypedSpot → Action) → Action) → Type 0
  Reaches code t v from =
      (goal : AwaitsLocation) (go : TypedSpot → Action) (at n to : ℕ) (ops : List ℤ) → Stands g at n (length ops) code →
      at + code.size ≡ to → TakesLocation g b x to ops arms t goal → LendsAt s v goal
      → ((l : TypedSpot) (w : ℤ) → IsWord g.view s l.spot t w → MayRead g l.spot.scope → LendsAt s l.spot goal → Follows g (go l) to (w ∷ ops) arms)
      → Follows g (from goal go) at ops arms

  -- code that leads to the address of a part
  abbrev pub Locates : Code → Option TypeId → Spot → (AwaitsLocation → (TypedSpot → Action) → Action) → Type 0
  Locates code t v from =
      (goal : AwaitsLocation) (go : TypedSpot → Action) (at n to : ℕ) (ops : List ℤ) → Stands g at n (length ops) code →
      at + code.size ≡ to → TakesLocation g b x to ops arms t goal → LendsAt s v goal
      → ((l : TypedSpot) (w : ℤ) → IsWord g.view s l.spot t w → LendsAt s l.spot goal → Follows g (go l) to (w ∷ ops) arms)
      → Follows g (from goal go) at ops arms

  -- code that goes on from the address of a part
  abbrev pub Selects : SelectorTrees → Type 0
  Selects ss =
      (part : TypedSpot) (w : ℤ) (t : Option TypeId) (goal : AwaitsLocation) (go : TypedSpot → Action) (at n to : ℕ) (ops : List ℤ)
      → IsPart g.view s part w → MayRead g part.spot.scope → AreSelectors s part.t ss t
      → Stands g at n (suc (length ops)) (selectors_code s part.t ss) → at + (selectors_code s part.t ss).size ≡ to
      → TakesLocation g b x to ops arms t goal → LendsAt s part.spot goal
      → ((l : TypedSpot) (v : ℤ) → IsWord g.view s l.spot t v → MayRead g l.spot.scope → LendsAt s l.spot goal → Follows g (go l) to (v ∷ ops) arms)
      → Follows g (from_selectors x part ss goal go) at (w ∷ ops) arms

  -- ## Parts of variables

  -- a variable in view is a part
  pub whole_part : (v : TypedSpot) → IsDeclared s v.spot v.t → IsPart g.view s v (pos (first_word g.view s v.spot))
  whole_part v d =
      record {
        whole = v.t;
        behind = 0;
        declared = record {
          seen = d.seen;
          own = d.own;
          meaning = d.meaning;
          laid = d.laid;
          variable = d.variable;
          typed = d.typed;
          whole = refl;
          named = d.named;
        };
        path = subst (λ (p : List ℕ). IsPath forms v.t p v.t 0) (sym (ap (λ (p : List Selector). path_of p) d.whole)) (here v.t);
        word = ap pos (omega arith);
      }

  pub base_follows :
      {n : Action} (v : TypedSpot) (at i : ℕ) (ops : List ℤ)
      → IsDeclared s v.spot v.t → Stands g at i (length ops) (base_code s v.spot) →
      Follows g n (at + 1) (pos (first_word g.view s v.spot) ∷ ops) arms → Follows g n at ops arms
  base_follows {n} v at i ops d st on = by (refers s v.spot) refl (lone g s _ st) on
    where
      l : ℕ
      l = links_to s v.spot.scope

      c : ℕ
      c = cell_of s v.spot

      room : suc (length ops) ≤ g.room
      room = room_after g (suc (length ops)) (held_grown g.program (base_code s v.spot) 1 (base_changes g.program s v.spot) at i (length ops) ∙ omega arith) st

      by : (r : Bool) → refers s v.spot ≡ r →
          IsAt g at (if r then REF (links_to s v.spot.scope) (cell_of s v.spot) else ADDR (links_to s v.spot.scope) (cell_of s v.spot)) line
          → Follows g n (at + 1) (pos (if r then g.view.held (links_to s v.spot.scope) (cell_of s v.spot) else g.view.first
          (links_to s v.spot.scope) + cell_of s v.spot) ∷ ops) arms
          → Follows g n at ops arms
      by true e is on =
          let seen = checked.seen v.spot v.t d in
          next_move g arms few at ops (REF (links_to s v.spot.scope) (cell_of s v.spot)) line (_ ∷ ops) is
          (fits g arms (REF (links_to s v.spot.scope) (cell_of s v.spot)) ops (omega arith) tt (seen.0, seen.1 e)) refl room on
      by false e is on =
          let seen = checked.seen v.spot v.t d in
          next_move g arms few at ops (ADDR (links_to s v.spot.scope) (cell_of s v.spot)) line (_ ∷ ops) is
          (fits g arms (ADDR (links_to s v.spot.scope) (cell_of s v.spot)) ops (omega arith) tt seen.0) refl room on

  -- a field of a part is a part
  field_is_part : (part : TypedSpot) (w : ℤ) (f : Text) → IsPart g.view s part w → IsField forms part.t f →
      IsPart g.view s (field_spot forms part f) (w +ℤ pos (field_cell forms (form_in forms part.t) f))
  field_is_part part w f is k =
      let form : form_in forms part.t ≡ Some (Record k.fields) = ap (λ (t : Option TypeId). form_in forms t) k.typed ∙ k.form in
      let place : field_place (form_in forms part.t) f ≡ k.place = ap (λ (a : Option TypeForm). field_place a f) form ∙ ap place_among k.position in
      let cell : field_cell forms (form_in forms part.t) f ≡ fields_before forms k.fields k.place =
      ap (λ (a : Option TypeForm). field_cell forms a f) form ∙ ap (λ (i : Option ℕ). fields_before forms k.fields (place_among i)) k.position in
      let typed : field_type forms part.t f ≡ Some k.part = ap (λ (t : Option TypeId). field_type forms t f) k.typed ∙
      ap (λ (a : Option TypeForm). field_form a f) k.form ∙ k.named in
      let lies : IsWord g.view s part.spot (Some k.whole) w = subst (λ (t : Option TypeId). IsWord g.view s part.spot t w) k.typed is in
      let kept = field_kept g.view (unlined s) part.spot w k.whole k.fields k.place k.name k.part k.form k.held lies in
      subst (λ (t : Option TypeId). IsWord g.view s (field_spot forms part f).spot t (w +ℤ pos (field_cell forms (form_in forms part.t) f))) (sym typed)
      (subst (λ (i : ℕ). IsWord g.view s (within part.spot (record { place = i; index = pos i })) (Some k.part)
      (w +ℤ pos (field_cell forms (form_in forms part.t) f))) (sym place)
      (subst (λ (i : ℕ). IsWord g.view s (within part.spot (record { place = k.place; index = pos k.place })) (Some k.part) (w +ℤ pos i)) (sym cell) kept))

  pub element_follows :
      (part : TypedSpot) (w i : ℤ) (go : TypedSpot → Action) (at : ℕ) (ops : List ℤ)
      → IsPart g.view s part w → MayRead g part.spot.scope → IsArray forms part.t → IsAt g at (index_instr forms (form_in forms part.t)) line
      → suc (length ops) ≤ g.room
      → ((inside : TypedSpot) (v : ℤ) → IsPart g.view s inside v → MayRead g inside.spot.scope → inside.t ≡ element_in forms part.t
      → whole_of inside.spot ≡ whole_of part.spot → Follows g (go inside) (at + 1) (v ∷ ops) arms)
      → Follows g (with_element x (element_spot forms part i) go) at (i ∷ w ∷ ops) arms
  element_follows part w i go at ops is may array at_index room on =
      subst (λ (a : Option TypeForm). Follows g (with_element x (element_within a part.spot i) go) at (i ∷ w ∷ ops) arms) (sym form)
      (by (is_within array.low array.high i) refl)
    where
      form : form_in forms part.t ≡ Some (Array array.over array.low array.high array.element)
      form = ap (λ (t : Option TypeId). form_in forms t) array.typed ∙ array.form

      at_it : IsAt g at (IDX array.low array.high (cells_in forms array.element)) line
      at_it = subst (λ (a : Option TypeForm). IsAt g at (index_instr forms a) line) form at_index

      lies : IsWord g.view s part.spot (Some array.whole) w
      lies = subst (λ (t : Option TypeId). IsWord g.view s part.spot t w) array.typed is

      kept : is_within array.low array.high i ≡ true → IsWord g.view s (within part.spot (record { place = nat_abs (i -ℤ array.low); index = i }))
          (Some array.element) (element_word array.low (cells_in forms array.element) i w)
      kept e = element_kept g.view (unlined s) part.spot w i array.whole array.over array.element array.low array.high array.form e lies

      can : CanPerform g (IDX array.low array.high (cells_in forms array.element)) (i ∷ w ∷ ops)
      can = fits g arms (IDX array.low array.high (cells_in forms array.element)) (i ∷ w ∷ ops) (omega arith) (
        word_is_address g b (env_in g names around) checked part.spot (Some array.whole) w lies,
        λ inside. word_is_address g b (env_in g names around) checked (within part.spot (record { place = nat_abs (i -ℤ array.low); index = i }))
            (Some array.element) (element_word array.low (cells_in forms array.element) i w) (kept inside),
      ) tt

      by : (r : Bool) → is_within array.low array.high i ≡ r →
          Follows g (with_element x (if r then Some (record {
            spot = within part.spot (record { place = nat_abs (i -ℤ array.low); index = i });
            t =
                Some array.element;
          }) else None) go) at (i ∷ w ∷ ops) arms
      by true e =
          let v = element_word array.low (cells_in forms array.element) i w in
          let inside : TypedSpot = record { spot = within part.spot (record { place = nat_abs (i -ℤ array.low); index = i }); t = Some array.element } in
          next_move g arms few at (i ∷ w ∷ ops) (IDX array.low array.high (cells_in forms array.element)) line (v ∷ ops) at_it can
          (ap (λ (r : Bool). of_own_effect (with_outcome at ops (if r then Ok v else Err Index)) arms) e) room
          (on inside v (kept e) may (sym (ap (λ (a : Option TypeForm). option_map (λ (both : TypeId × TypeId). both.1) (array_form a)) form)) refl)
      by false e =
          let v = element_word array.low (cells_in forms array.element) i w in
          fault_at g arms few b x Index at (i ∷ w ∷ ops) (IDX array.low array.high (cells_in forms array.element)) at_it can
          (ap (λ (r : Bool). of_own_effect (with_outcome at ops (if r then Ok v else Err Index)) arms) e) (inr refl)

  -- the number of an object takes the place of its address
  pub object_follows :
      {n : Action} (v : Spot) (t : Option TypeId) (w : ℤ) (at : ℕ) (ops : List ℤ)
      → IsWord g.view s v t w → is_object_type forms t ≡ true → IsAt g at OBJ line → suc (length ops) ≤ g.room
      → ((i : ℤ) → IsObject g s v t i → Follows g n (at + 1) (i ∷ ops) arms) → Follows g n at (w ∷ ops) arms
  object_follows v t w at ops is object obj room on =
      let found = checked.objects v t w is object in
      next_move g arms few at (w ∷ ops) OBJ line (found.0 ∷ ops) obj (fits g arms OBJ (w ∷ ops) (omega arith) tt tt)
      (ap (λ (k : Option ℤ). numbered at ops arms k) found.1) room
      (on found.0 (w, is, found.1))

  -- ## Functions

  -- what stands behind an argument
  pub finish_follows :
      (f : Function) (t : Option TypeId) (u : AwaitsValue) (go : Value → Action) (v : ℤ) (at n to : ℕ) (ops : List ℤ)
      → has_argument f ≡ true → (is_asked f ≡ true → g.trial ≡ of_own) → Stands g at n (suc (length ops)) (finishing s f t) → at + (finishing s f t).size ≡ to
      → TakesValue g b x to ops arms a_number u
      → ((m : ℤ) → Follows g (go (ordinal m)) to (m ∷ ops) arms) → Follows g (finish_call x f t u go (ordinal v)) at (v ∷ ops) arms
  finish_follows abs t u go v at n to ops has own st e waits on =
      outcome_move g arms few b x (magnitude_of v) go at (v ∷ ops) ops ABS (lone g s (λ at n. ABS) st) (fits g arms ABS (v ∷ ops) (omega arith) tt tt) refl refl
      (room_for g st) (λ m. follows_moved g arms few to (at + 1) (sym e ∙ omega arith) (on m))
  finish_follows sqr t u go v at n to ops has own st e waits on =
      outcome_move g arms few b x (square_of v) go at (v ∷ ops) ops SQR (lone g s (λ at n. SQR) st) (fits g arms SQR (v ∷ ops) (omega arith) tt tt) refl refl
      (room_for g st) (λ m. follows_moved g arms few to (at + 1) (sym e ∙ omega arith) (on m))
  finish_follows odd t u go v at n to ops has own st e waits on =
      next_move g arms few at (v ∷ ops) ODD line (is_odd v ∷ ops) (lone g s (λ at n. ODD) st) (fits g arms ODD (v ∷ ops) (omega arith) tt tt) refl
      (room_for g st) (follows_moved g arms few to (at + 1) (sym e ∙ omega arith) (on (is_odd v)))
  finish_follows ord t u go v at n to ops has own st e waits on = follows_moved g arms few to at (sym e ∙ omega arith) (on v)
  finish_follows chr t u go v at n to ops has own st e waits on =
      outcome_move g arms few b x (char_of v) go at (v ∷ ops) ops CHR (lone g s (λ at n. CHR) st) (fits g arms CHR (v ∷ ops) (omega arith) tt tt) refl refl
      (room_for g st) (λ m. follows_moved g arms few to (at + 1) (sym e ∙ omega arith) (on m))
  finish_follows succ t u go v at n to ops has own st e waits on =
      let i = SUCC (simple_number (simple_of t)) in
      outcome_move g arms few b x (next_of (simple_of t) v) go at (v ∷ ops) ops i (lone g s (λ at n. i) st) (fits g arms i (v ∷ ops) (omega arith) tt tt)
      (ap (λ (k : Simple). of_own_effect (with_outcome at ops (next_of k v)) arms) (type_by_number (simple_of t))) refl (room_for g st)
      (λ m. follows_moved g arms few to (at + 1) (sym e ∙ omega arith) (on m))
  finish_follows pred t u go v at n to ops has own st e waits on =
      let i = PRED (simple_number (simple_of t)) in
      outcome_move g arms few b x (before_of (simple_of t) v) go at (v ∷ ops) ops i (lone g s (λ at n. i) st) (fits g arms i (v ∷ ops) (omega arith) tt tt)
      (ap (λ (k : Simple). of_own_effect (with_outcome at ops (before_of k v)) arms) (type_by_number (simple_of t))) refl (room_for g st)
      (λ m. follows_moved g arms few to (at + 1) (sym e ∙ omega arith) (on m))
  finish_follows random t u go v at n to ops has own st e waits on =
      arrives at (v ∷ ops) arms (
        b,
        checked,
        (
          own refl,
          (ops, refl, lone g s (λ at n. RAND) st, value_moved to (at + 1) ops a_number u (sym e ∙ omega arith) waits),
        ),
      )
  finish_follows eof t u go v at n to ops has own st e waits on = never has
  finish_follows eoln t u go v at n to ops has own st e waits on = never has
  finish_follows empty t u go v at n to ops has own st e waits on = never has
  finish_follows clock t u go v at n to ops has own st e waits on = never has
  finish_follows no_function t u go v at n to ops has own st e waits on = never has

  -- an argument, and the instruction behind it
  argued_follows :
      (f : Function) → has_argument f ≡ true → (is_asked f ≡ true → g.trial ≡ of_own)
      → (t : Option TypeId) (h : Shape) (u : AwaitsValue) (go : Value → Action)
      (argument : AwaitsValue → (Value → Action) → Action) (code : Code) (at n to : ℕ) (ops : List ℤ)
      → h ≡ a_number → IsSized code → ((at n held : ℕ) → held_after g.program held (code.put at n) ≡ 1 + held) → Evaluates code a_number argument
      → Stands g at n (length ops) (code ⨾ finishing s f t) → at + (code ⨾ finishing s f t).size ≡ to → TakesValue g b x to ops arms h u
      → ((v : ℤ) → h ≡ a_number → Follows g (go (ordinal v)) to (v ∷ ops) arms) → Follows g (argument (apply f t u) (finish_call x f t u go)) at ops arms
  argued_follows f has own t h u go argument code at n to ops e sized held argued st ends waits on =
      let behind = back g code (finishing s f t) (suc (length ops)) sized (held at n (length ops) ∙ omega arith) st in
      let end : at + code.size + (finishing s f t).size ≡ to = omega arith in
      let left : TakesValue g b x to ops arms a_number u = subst (λ (k : Shape). TakesValue g b x to ops arms k u) e waits in
      argued (apply f t u) (finish_call x f t u go) at n (at + code.size) ops (front g code (finishing s f t) st) refl
      (refl, has, own, n + length code.texts, behind, value_moved to (at + code.size + (finishing s f t).size) ops a_number u (sym end) left)
      (λ v k. finish_follows f t u go v (at + code.size) (n + length code.texts) to ops has own behind end left (λ m. on m e))

  -- an instruction that asks, and has no argument
  asked_room : (i : Instr) (at n : ℕ) (ops : List ℤ) → takes g.program i ≡ 0 → leaves g.program i ≡ 1 →
      Stands g at n (length ops) (one s i) → suc (length ops) ≤ g.room
  asked_room i at n ops t l st =
      room_after g (suc (length ops)) (held_grown g.program (one s i) 1 (changes_one g.program s i 0 1 t l) at n (length ops) ∙ omega arith) st

  -- a predeclared function; how its argument follows is given, as a value and as a variable
  function_follows :
      (f : Function) (t : Option TypeId) (h : Shape) (u : AwaitsValue) (go : Value → Action) (value : AwaitsValue → (Value → Action) →
      Action) (variable : AwaitsLocation → (TypedSpot → Action) → Action)
      (code address : Code) (lending : Spot) (V A : Type 0) (at n to : ℕ) (ops : List ℤ)
      → IsFunction f h V A → (is_asked f ≡ true → g.trial ≡ of_own) → IsSized code → IsSized address
      → (V → (at n held : ℕ) → held_after g.program held (code.put at n) ≡ 1 + held) →
      (A → (at n held : ℕ) → held_after g.program held (address.put at n) ≡ 1 + held)
      → (V → Evaluates code a_number value) → (g.trial ≡ of_own → A → Locates address (Some condition) lending variable)
      → Stands g at n (length ops) (function_code s f t code address) → at + (function_code s f t code address).size ≡ to → TakesValue g b x to ops arms h u
      → ((v : ℤ) → h ≡ a_number → Follows g (go (ordinal v)) to (v ∷ ops) arms) → Follows g (from_function x f t u go value variable) at ops arms
  function_follows eof t h u go value variable code address lending V A at n to ops is own sized lent held lent_held evaluates locates st e waits on =
      let left = value_moved to (at + 1) ops h u (sym e) waits in
      arrives at ops arms (
        b,
        checked,
        (
          own refl,
          (lone g s (λ at n. EOF) st, asked_room EOF at n ops refl refl st, subst (λ (k : Shape). TakesValue g b x (at + 1) ops arms k u) is left),
        ),
      )
  function_follows eoln t h u go value variable code address lending V A at n to ops is own sized lent held lent_held evaluates locates st e waits on =
      let left = value_moved to (at + 1) ops h u (sym e) waits in
      arrives at ops arms (
        b,
        checked,
        (
          own refl,
          (lone g s (λ at n. EOLN) st, asked_room EOLN at n ops refl refl st, subst (λ (k : Shape). TakesValue g b x (at + 1) ops arms k u) is left),
        ),
      )
  function_follows clock t h u go value variable code address lending V A at n to ops is own sized lent held lent_held evaluates locates st e waits on =
      let left = value_moved to (at + 1) ops h u (sym e) waits in
      arrives at ops arms (
        b,
        checked,
        (
          own refl,
          (lone g s (λ at n. CLOCK) st, asked_room CLOCK at n ops refl refl st, subst (λ (k : Shape). TakesValue g b x (at + 1) ops arms k u) is left),
        ),
      )
  function_follows empty t h u go value variable code address lending V A at n to ops is own sized lent held lent_held evaluates locates st e waits on =
      let last = one s OBJ ⨾ one s EMPTY in
      let mid = at + address.size in
      let behind = back g address last (suc (length ops)) lent (lent_held is.1 at n (length ops) ∙ omega arith) st in
      let asks = tail g s (λ at n. OBJ) (one s EMPTY) (suc (length ops)) (omega arith) behind in
      let obj = head g s (λ at n. OBJ) (one s EMPTY) behind in
      let asking = lone g s (λ at n. EMPTY) asks in
      let end : to ≡ mid + 2 = omega arith in
      let same : mid + 2 ≡ mid + 1 + 1 = omega arith in
      let left : TakesValue g b x (mid + 2) ops arms a_number u =
      value_moved to (mid + 2) ops a_number u end (subst (λ (k : Shape). TakesValue g b x to ops arms k u) is.0 waits) in
      locates (own refl) is.1 (ask_empty u) (λ l. asks_empty x l.spot u) at n mid ops (front g address last st) refl
      (own refl, (refl, obj, room_for g behind, asking, left)) tt
      (λ l w lies lent. object_follows l.spot (Some condition) w mid ops lies refl obj (room_for g behind)
      (λ i object. arrives (mid + 1) (i ∷ ops) arms
      (b, checked, (own refl, (i, ops, refl, object, asking, value_moved (mid + 2) (mid + 1 + 1) ops a_number u same left)))))
  function_follows abs t h u go value variable code address lending V A at n to ops is own sized lent held lent_held evaluates locates st e waits on =
      argued_follows abs refl own t h u go value code at n to ops is.0 sized (held is.1) (evaluates is.1) st e waits on
  function_follows sqr t h u go value variable code address lending V A at n to ops is own sized lent held lent_held evaluates locates st e waits on =
      argued_follows sqr refl own t h u go value code at n to ops is.0 sized (held is.1) (evaluates is.1) st e waits on
  function_follows odd t h u go value variable code address lending V A at n to ops is own sized lent held lent_held evaluates locates st e waits on =
      argued_follows odd refl own t h u go value code at n to ops is.0 sized (held is.1) (evaluates is.1) st e waits on
  function_follows ord t h u go value variable code address lending V A at n to ops is own sized lent held lent_held evaluates locates st e waits on =
      let left : TakesValue g b x to ops arms a_number u = subst (λ (k : Shape). TakesValue g b x to ops arms k u) is.0 waits in
      let none : Stands g (at + code.size) n (suc (length ops)) nothing =
      record { has = tt; texts = tt; room = room_after g (suc (length ops)) (held is.1 at n (length ops) ∙ omega arith) st; arms = omega arith } in
      let same : to ≡ at + code.size + 0 = omega arith in
      evaluates is.1 (apply ord t u) (finish_call x ord t u go) at n to ops st e
      (refl, refl, own, n, stands_moved g to e none, value_moved to (to + 0) ops a_number u (omega arith) left)
      (λ v k. on v is.0)
  function_follows chr t h u go value variable code address lending V A at n to ops is own sized lent held lent_held evaluates locates st e waits on =
      argued_follows chr refl own t h u go value code at n to ops is.0 sized (held is.1) (evaluates is.1) st e waits on
  function_follows succ t h u go value variable code address lending V A at n to ops is own sized lent held lent_held evaluates locates st e waits on =
      argued_follows succ refl own t h u go value code at n to ops is.0 sized (held is.1) (evaluates is.1) st e waits on
  function_follows pred t h u go value variable code address lending V A at n to ops is own sized lent held lent_held evaluates locates st e waits on =
      argued_follows pred refl own t h u go value code at n to ops is.0 sized (held is.1) (evaluates is.1) st e waits on
  function_follows random t h u go value variable code address lending V A at n to ops is own sized lent held lent_held evaluates locates st e waits on =
      argued_follows random refl own t h u go value code at n to ops is.0 sized (held is.1) (evaluates is.1) st e waits on
  function_follows no_function t h u go value variable code address lending V A at n to ops is own sized lent held lent_held evaluates locates st e waits on =
      absurd is

  -- ## Names

  pub literal_follows :
      {n : Action} (v : ℤ) (at i to : ℕ) (ops : List ℤ) → Stands g at i (length ops) (one s (LIT v)) → at + 1 ≡ to →
      Follows g n to (v ∷ ops) arms → Follows g n at ops arms
  literal_follows v at i to ops st e on =
      next_move g arms few at ops (LIT v) line (v ∷ ops) (lone g s (λ at n. LIT v) st) (fits g arms (LIT v) ops (omega arith) tt tt) refl
      (asked_room (LIT v) at i ops refl refl st) (follows_moved g arms few to (at + 1) (sym e) on)

  -- a variable with its selectors; how these follow is given
  pub address_follows :
      (v : TypedSpot) (ss : SelectorTrees) (t : Option TypeId) → IsDeclared s v.spot v.t → MayRead g v.spot.scope → AreSelectors s v.t ss t → Selects ss →
      Reaches (base_code s v.spot ⨾ selectors_code s v.t ss) t v.spot (λ goal go. from_selectors x v ss goal go)
  address_follows v ss t d may are select goal go at n to ops st e waits lends on =
      let base = base_code s v.spot in
      let code = selectors_code s v.t ss in
      let behind = back g base code (suc (length ops)) (sized_base s v.spot) (held_grown g.program base 1 (base_changes g.program s v.spot) at n (length ops) ∙
      omega arith) st in
      let end : at + 1 + code.size ≡ to = omega arith in
      base_follows v at n ops d (front g base code st)
      (select v (pos (first_word g.view s v.spot)) t goal go (at + 1) (n + length base.texts) to ops (whole_part v d) may are behind end waits lends on)

  -- the value of a variable is read
  pub load_follows :
      (code : Code) (u : TypeId) (h : Shape) (z : ℕ) (lending : Spot) (from : AwaitsLocation → (TypedSpot → Action) → Action)
      → h ≡ shape_of u → z ≡ shape_cells forms (shape_of u) → IsSized code →
      ((at n held : ℕ) → held_after g.program held (code.put at n) ≡ 1 + held) → Reaches code (Some u) lending from
      → Evaluates (code ⨾ one s (LOAD z)) h (λ waits go. from (read_for waits) (λ l. reads x l.spot waits))
  load_follows code u h z lending from e cells sized held locates waits go at n to ops st ends left on =
      let mid = at + code.size in
      let k = n + length code.texts in
      let behind = back g code (one s (LOAD z)) (suc (length ops)) sized (held at n (length ops) ∙ omega arith) st in
      let load : IsAt g mid (LOAD (shape_cells forms (shape_of u))) line =
      subst (λ (y : ℕ). IsAt g mid (LOAD y) line) cells (lone g s (λ at n. LOAD z) behind) in
      let room : length ops + shape_cells forms (shape_of u) ≤ g.room = (let all = room_after g (length ops + z) (omega arith) behind in omega arith) in
      let after : TakesValue g b x (mid + 1) ops arms (shape_of u) waits =
      subst (λ (y : Shape). TakesValue g b x (mid + 1) ops arms y waits) e (value_moved to (mid + 1) ops h waits (sym ends ∙ omega arith) left) in
      locates (read_for waits) (λ l. reads x l.spot waits) at n mid ops (front g code (one s (LOAD z)) st) refl
      (u, refl, load, room, after) tt
      (λ l w lies may lent. arrives mid (w ∷ ops) arms
      (b, checked, (u, w, ops, refl, lies, load, room, after, awaited_value g b x (mid + 1) ops arms u waits after, may)))

  -- arguments behind those that are given, for the parameters behind those that have one
  abbrev pub Passes : Code → List Formal → ActualTrees → (List Argument → Call → Action) → Type 0
  Passes code formals args from =
      (before : List Formal) (given : List Argument) (call : Call) (at n to : ℕ) (ops below : List ℤ)
      → AreHeld g.view s before given ops below → Stands g at n (length ops) code → at + code.size ≡ to → CallsAt g b x to below arms (before ++ formals) call
      → Lends s given formals args call → Follows g (from given call) at ops arms

  -- the call of a function, behind its arguments
  called_follows :
      (head : SubHead) (args : Code) (trees : ActualTrees) (h : Shape) (from : List Argument → Call → Action)
      → h ≡ a_number → IsSub s head 1 InExpressions → g.trial ≡ of_own → IsSized args
      → ((at n held : ℕ) → held_after g.program held (args.put at n) ≡ formals_cells forms head.formals + held) → Passes args head.formals trees from
      → Evaluates (args ⨾ one s (call_instr s head)) h (λ u go. from [] (to_function head.scope u))
  called_follows sub args trees h from e is own sized held passes u go at n to ops st ends waits on =
      let i = call_instr s sub in
      let mid = at + args.size in
      let behind = back g args (one s i) (formals_cells forms sub.formals + length ops) sized (held at n (length ops)) st in
      let room = room_after g (suc (length ops)) (omega (arith, is.taken, is.leaves)) behind in
      passes [] [] (to_function sub.scope u) at n mid ops ops (none_held ops) (front g args (one s i) st) refl (
        own,
        (
          is.headed,
          is.taken,
          is.leaves,
          lone g s (λ at n. i) behind,
          room,
          value_moved to (mid + 1) ops a_number u (sym ends ∙ omega arith)
              (subst (λ (k : Shape). TakesValue g b x to ops arms k u) e waits),
        ),
      ) tt

  -- A name with its selectors or arguments. How selectors, arguments and predeclared functions follow is given.
  name_follows :
      (m : Option Meaning) (h : Shape) (ss : SelectorTrees) (v : TypedSpot) (trees : ActualTrees) (args : List Formal → Code) (predeclared : Function → Code)
      (from_all : List Formal → List Argument → Call → Action) (from_predeclared : Function → AwaitsValue → (Value → Action) →
      Action) (A : List Formal → Type 0) (F : Function → Type 0)
      → IsUse s m h (IsDeclared s v.spot v.t) (λ u. AreSelectors s v.t ss u) ss A F → ((k : ℕ) → m ≡ Some (ASub k) → g.trial ≡ of_own)
      → ((t : TypeId) (r : Bool) → m ≡ Some (Variable t r) → MayRead g v.spot.scope) → Selects ss
      → ((formals : List Formal) → A formals → IsSized (args formals) ×
      ((at n held : ℕ) → held_after g.program held ((args formals).put at n) ≡ formals_cells forms formals + held) ×
      Passes (args formals) formals trees (from_all formals))
      → ((k : PredeclaredName) → m ≡ Some (Predeclared k) → F (function_of k) → Evaluates (predeclared (function_of k)) h (from_predeclared (function_of k)))
      → Evaluates (name_code s m ss (base_code s v.spot ⨾ selectors_code s v.t ss) args predeclared) h
      (λ u go. from_name x m u go (λ goal arrive. from_selectors x v ss goal arrive) (λ formals call. from_all formals [] call) (λ f. from_predeclared f u go))
  name_follows (Some (Constant t c)) h ss v trees args predeclared from_all from_predeclared A F
      is own may select passes functions u go at n to ops st e waits on =
      literal_follows c at n to ops st e (on c is)
  name_follows (Some (Variable t r)) h ss v trees args predeclared from_all from_predeclared A F
      is own may select passes functions u go at n to ops st e waits on =
      let code = base_code s v.spot ⨾ selectors_code s v.t ss in
      let z = type_cells forms (selected s.env (Some t) ss) in
      let cells : z ≡ shape_cells forms (shape_of is.0) = ap (λ (k : Option TypeId). type_cells forms k) is.3 ∙ sym (shaped_cells forms checked.sound is.0) in
      load_follows code is.0 h z v.spot (λ goal arrive. from_selectors x v ss goal arrive) is.4 cells
      (sized_both (base_code s v.spot) (selectors_code s v.t ss) (sized_base s v.spot) (sized_plain (selectors_code s v.t ss) (plain_selectors s v.t ss)))
      (held_grown g.program code 1 (part_changes s checked.sound v ss (Some is.0) is.2))
      (address_follows v ss (Some is.0) is.1 (may t r refl) is.2 select) u go at n to ops st e waits on
  name_follows (Some (ASub k)) h ss v trees args predeclared from_all from_predeclared A F is own may select passes functions u go at n to ops st e waits on =
      let sub = sub_at g.program.state.blocks k in
      let all = passes sub.formals is.2 in
      called_follows sub (args sub.formals) trees h (from_all sub.formals) is.0 is.1 (own k refl) all.0 all.1 all.2 u go at n to ops st e waits on
  name_follows (Some (Predeclared k)) h ss v trees args predeclared from_all from_predeclared A F
      is own may select passes functions u go at n to ops st e waits on =
      functions k refl is u go at n to ops st e waits on
  name_follows None h ss v trees args predeclared from_all from_predeclared A F is own may select passes functions u go at n to ops st e waits on =
      absurd is
  name_follows (Some (Named t)) h ss v trees args predeclared from_all from_predeclared A F is own may select passes functions u go at n to ops st e waits on =
      absurd is
  name_follows (Some (Module k)) h ss v trees args predeclared from_all from_predeclared A F is own may select passes functions u go at n to ops st e waits on =
      absurd is
  name_follows (Some (Process k)) h ss v trees args predeclared from_all from_predeclared A F
      is own may select passes functions u go at n to ops st e waits on =
      absurd is
  name_follows (Some (Entry k)) h ss v trees args predeclared from_all from_predeclared A F is own may select passes functions u go at n to ops st e waits on =
      absurd is
  name_follows (Some Faulty) h ss v trees args predeclared from_all from_predeclared A F is own may select passes functions u go at n to ops st e waits on =
      absurd is

  -- ## Arguments

  -- an argument for a parameter, before others; how it follows is given, as a variable and as a value
  pub passed_follows :
      (f : Formal) (formals : List Formal) (a : ActualTree) (args : ActualTrees) (lent given_code : Code) (from_l : AwaitsLocation → (TypedSpot → Action) →
      Action) (from_v : AwaitsValue → (Value → Action) → Action)
      (L : Type 0) (G : Shape → Type 0) → IsPassed forms f L G → AreArguments s formals args
      → (L → IsSized lent × ((at n held : ℕ) → held_after g.program held (lent.put at n) ≡ 1 + held) × Locates lent f.t (lent_spot s a) from_l)
      → ((h : Shape) → G h → IsSized given_code × ((at n held : ℕ) → held_after g.program held (given_code.put at n) ≡ shape_cells forms h + held) ×
      Evaluates given_code h from_v)
      → Passes (args_code s formals args) formals args (λ given call. from_args x formals args given call)
      → Passes ((if f.reference then lent else given_code) ⨾ args_code s formals args) (f ∷ formals) (more_actuals a args)
      (λ given call.
      if f.reference
      then from_l (pass_variable formals args given call) (λ l. from_args x formals args (given ++ by_reference l.spot ∷ []) call)
      else from_v (pass_value formals args given call) (λ v. from_args x formals args (given ++ by_value v ∷ []) call))
  passed_follows f formals a args lent given_code from_l from_v L G is are lends gives on before given call at n to ops below held st e waits lending =
      by f.reference refl is st e
    where
      by : (r : Bool) → f.reference ≡ r → Either r L ((t : TypeId) × (f.t ≡ Some t) × G (shape_of t) × IsValueType forms t)
          → Stands g at n (length ops) ((if r then lent else given_code) ⨾ args_code s formals args) →
          at + ((if r then lent else given_code) ⨾ args_code s formals args).size ≡ to
          → Follows g (if r then
          from_l (pass_variable formals args given call) (λ l. from_args x formals args (given ++ by_reference l.spot ∷ []) call) else from_v
          (pass_value formals args given call) (λ v. from_args x formals args (given ++ by_value v ∷ []) call)) at ops arms
      by true r is st e =
          let rest = args_code s formals args in
          let known = lends is in
          let mid = at + lent.size in
          let k = n + length lent.texts in
          let behind = back g lent rest (suc (length ops)) known.0 (known.1 at n (length ops) ∙ omega arith) st in
          let end : mid + rest.size ≡ to = omega arith in
          let after : CallsAt g b x (mid + rest.size) below arms (before ++ f ∷ formals) call =
          subst (λ (y : ℕ). CallsAt g b x y below arms (before ++ f ∷ formals) call) (sym end) waits in
          let others : CallsAt g b x to below arms ((before ++ f ∷ []) ++ formals) call =
          subst (λ (fs : List Formal). CallsAt g b x to below arms fs call) (sym (append_assoc before (f ∷ []) formals)) waits in
          known.2 (pass_variable formals args given call) (λ l. from_args x formals args (given ++ by_reference l.spot ∷ []) call)
          at n mid ops (front g lent rest st) refl
          (before, f, below, r, refl, held, are, k, behind, after, lends_rest s given f formals a args call lending)
          (lends_next s given f formals a args call r lending)
          (λ l w lies lasting. on (before ++ f ∷ []) (given ++ by_reference l.spot ∷ []) call mid k to (w ∷ ops) below
          (one_more before given ops below f (by_reference l.spot) (w ∷ []) held (w, r, lies, refl)) behind end others
          (lends_variable s given l.spot formals args call lasting (lends_rest s given f formals a args call lending)))
      by false r is st e =
          let rest = args_code s formals args in
          let t = is.0 in
          let h = shape_of t in
          let known = gives h is.2 in
          let mid = at + given_code.size in
          let k = n + length given_code.texts in
          let behind = back g given_code rest (shape_cells forms h + length ops) known.0 (known.1 at n (length ops)) st in
          let end : mid + rest.size ≡ to = omega arith in
          let after : CallsAt g b x (mid + rest.size) below arms (before ++ f ∷ formals) call =
          subst (λ (y : ℕ). CallsAt g b x y below arms (before ++ f ∷ formals) call) (sym end) waits in
          let others : CallsAt g b x to below arms ((before ++ f ∷ []) ++ formals) call =
          subst (λ (fs : List Formal). CallsAt g b x to below arms fs call) (sym (append_assoc before (f ∷ []) formals)) waits in
          known.2 (pass_value formals args given call)
          (λ v. from_args x formals args (given ++ by_value v ∷ []) call) at n mid ops (front g given_code rest st) refl
          (before, f, t, below, r, is.1, refl, held, are, k, behind, after, is.3, lends_rest s given f formals a args call lending)
          (λ v simple.
          let more : shape_cells forms h + length ops ≡ suc (length ops) = ap (λ (y : Shape). shape_cells forms y + length ops) simple ∙ omega arith in
          on (before ++ f ∷ []) (given ++ by_value (ordinal v) ∷ []) call mid k to (v ∷ ops) below
          (one_more before given ops below f (by_value (ordinal v)) (v ∷ []) held (t, r, is.1, is_number t v (simple_shape t simple), refl))
          (stands_over g (suc (length ops)) more behind) end others
          (lends_value s given (ordinal v) formals args call (lends_rest s given f formals a args call lending)))

  -- ## Signs, sums and products

  pub sign_follows :
      (sign : Option (Sign × Place)) (a : ℤ) (go : Value → Action) (at n : ℕ) (ops : List ℤ)
      → Stands g at n (suc (length ops)) (sign_code s sign) → ((v : ℤ) → Follows g (go (ordinal v)) (at + (sign_code s sign).size) (v ∷ ops) arms) →
      Follows g (with_number x (signed sign a) go) at (a ∷ ops) arms
  sign_follows None a go at n ops st on = follows_moved g arms few (at + 0) at (omega arith) (on a)
  sign_follows (Some (Plus, p)) a go at n ops st on = follows_moved g arms few (at + 0) at (omega arith) (on a)
  sign_follows (Some (Minus, p)) a go at n ops st on =
      outcome_move g arms few b x (negative_of a) go at (a ∷ ops) ops NEG (lone g s (λ at n. NEG) st)
      (fits g arms NEG (a ∷ ops) (omega arith) tt tt) refl refl (room_for g st) on

  abbrev pub Adds : SummandTrees → Type 0
  Adds rest =
      (v : ℤ) (u : AwaitsValue) (go : Value → Action) (at n to : ℕ) (ops : List ℤ) →
      Stands g at n (suc (length ops)) (summands_code s rest) → at + (summands_code s rest).size ≡ to
      → TakesValue g b x to ops arms a_number u → ((m : ℤ) → Follows g (go (ordinal m)) to (m ∷ ops) arms) →
      Follows g (from_summands x (ordinal v) rest u go) at (v ∷ ops) arms

  abbrev pub Multiplies : MultiplierTrees → Type 0
  Multiplies rest =
      (v : ℤ) (u : AwaitsValue) (go : Value → Action) (at n to : ℕ) (ops : List ℤ) → Stands g at n (suc (length ops)) (multipliers_code s rest) →
      at + (multipliers_code s rest).size ≡ to
      → TakesValue g b x to ops arms a_number u → ((m : ℤ) → Follows g (go (ordinal m)) to (m ∷ ops) arms) →
      Follows g (from_multipliers x (ordinal v) rest u go) at (v ∷ ops) arms

  -- a sum of more than one term, or with a sign
  sum_follows :
      (sign : Option (Sign × Place)) (first : TermTree) (rest : SummandTrees) (h : Shape) → h ≡ a_number → HasShapeTerm s first a_number → AreSummands s rest
      → Evaluates (term_code s first) a_number (λ u go. from_term x first u go) → Adds rest
      → Evaluates (simple_code s (sum sign first rest)) h (λ u go. from_term x first (begin_sum sign rest u)
      (λ a. with_number x (signed sign (ordinal_of a)) (λ n. from_summands x n rest u go)))
  sum_follows sign first rest h e term terms evaluates adds u go at n to ops st ends waits on =
      let code = term_code s first in
      let minus = sign_code s sign in
      let others = summands_code s rest in
      let mid = at + code.size in
      let k = n + length code.texts in
      let behind = back g code (minus ⨾ others) (suc (length ops)) (sized_plain code (plain_term s first))
      (held_grown g.program code 1 (term_changes s checked.sound first a_number term) at n (length ops) ∙ omega arith) st in
      let last = back g minus others (suc (length ops)) (sized_sign sign) (sign_changes g.program s sign mid k (length ops) ∙
      omega arith) (stands_over g (1 + length ops) (omega arith) behind) in
      let end : mid + (minus ⨾ others).size ≡ to = omega arith in
      let end_of_last : mid + minus.size + others.size ≡ to = omega arith in
      let left : TakesValue g b x to ops arms a_number u = subst (λ (y : Shape). TakesValue g b x to ops arms y u) e waits in
      evaluates (begin_sum sign rest u) (λ a. with_number x (signed sign (ordinal_of a)) (λ n. from_summands x n rest u go)) at n mid ops
      (front g code (minus ⨾ others) st) refl
      (refl, terms, k, behind, value_moved to (mid + (minus ⨾ others).size) ops a_number u (sym end) left)
      (λ a simple. sign_follows sign a (λ v. from_summands x v rest u go) mid k ops (front g minus others behind)
      (λ v. adds v u go (mid + minus.size) (k + length minus.texts) to ops last end_of_last left (λ m. on m e)))
    where
      sized_sign : (sign : Option (Sign × Place)) → IsSized (sign_code s sign)
      sized_sign None = λ at n. refl
      sized_sign (Some (Plus, p)) = λ at n. refl
      sized_sign (Some (Minus, p)) = λ at n. refl

  -- ## Expressions

  pub add_held : (op : AddOp) (held : ℕ) → held_behind g.program (suc (suc held)) (add_instr op) ≡ suc held
  add_held Add held = omega arith
  add_held Sub held = omega arith
  add_held Or held = omega arith

  pub multiply_held : (op : MulOp) (held : ℕ) → held_behind g.program (suc (suc held)) (multiply_instr op) ≡ suc held
  multiply_held Mul held = omega arith
  multiply_held Div held = omega arith
  multiply_held Mod held = omega arith
  multiply_held And held = omega arith

  pub index_held : (form : Option TypeForm) (held : ℕ) → held_behind g.program (suc (suc held)) (index_instr forms form) ≡ suc held
  index_held None held = omega arith
  index_held (Some (Channel t)) held = omega arith
  index_held (Some (Array over low high element)) held = omega arith
  index_held (Some (Record fields)) held = omega arith
  index_held (Some (AProcess k)) held = omega arith

  -- the variable that the first argument names
  abbrev pub first_lent : ActualTrees → Spot
  first_lent no_actuals = desig_spot s None
  first_lent (more_actuals a rest) = lent_spot s a

  -- the indices in front of selectors
  abbrev pub Indexes : ExprTrees → Type 0
  Indexes es =
      (part : TypedSpot) (w : ℤ) (ss : SelectorTrees) (t : Option TypeId) (goal : AwaitsLocation) (go : TypedSpot → Action) (at n mid m to : ℕ) (ops : List ℤ)
      → IsPart g.view s part w → MayRead g part.spot.scope → AreIndices s part.t es → AreSelectors s (type_behind forms part.t es) ss t
      → Stands g at n (suc (length ops)) (indices_code s part.t es) → at + (indices_code s part.t es).size ≡ mid
      → Stands g mid m (suc (length ops)) (selectors_code s (type_behind forms part.t es) ss) →
      mid + (selectors_code s (type_behind forms part.t es) ss).size ≡ to
      → TakesLocation g b x to ops arms t goal → LendsAt s part.spot goal
      → ((inside : TypedSpot) (v : ℤ) → IsPart g.view s inside v → MayRead g inside.spot.scope → inside.t ≡ type_behind forms part.t es
      → LendsAt s inside.spot goal → Follows g (go inside) mid (v ∷ ops) arms) →
      Follows g (from_indices x part es ss goal go) at (w ∷ ops) arms

  mutual
    pub expr_follows : (e : ExprTree) (h : Shape) → HasShape s e h → Evaluates (expr_code s e) h (λ u go. from_expr x e u go)
    expr_follows (plain a p) h is u go at n to ops st ends waits on = simple_follows a h is u go at n to ops st ends waits on
    expr_follows (related a r c p) h is u go at n to ops st ends waits on =
        let first = simple_code s a in
        let second = simple_code s c in
        let i = relation_instr r.0 in
        let compare = one s i in
        let left = at + first.size in
        let right = left + second.size in
        let k = n + length first.texts in
        let behind = back g first (second ⨾ compare) (suc (length ops)) (sized_plain first (plain_simple s a))
        (held_grown g.program first 1 (simple_changes s checked.sound a a_number is.1) at n (length ops) ∙ omega arith) st in
        let last = back g second compare (suc (suc (length ops))) (sized_plain second (plain_simple s c))
        (held_grown g.program second 1 (simple_changes s checked.sound c a_number is.2) left k (suc (length ops)) ∙ omega arith) behind in
        let room : suc (length ops) ≤ g.room = room_for g behind in
        let is_it = lone g s (λ at n. i) last in
        let end : left + (second ⨾ compare).size ≡ to = omega arith in
        let end_of_last : right + 1 ≡ to = omega arith in
        let after : TakesValue g b x to ops arms a_number u = subst (λ (y : Shape). TakesValue g b x to ops arms y u) is.0 waits in
        simple_follows a a_number is.1 (compare_with r.0 c u) (λ m. from_simple x c (compare_to (ordinal_of m) r.0 u)
        (λ o. go (ordinal (compared r.0 (ordinal_of m) (ordinal_of o))))) at n left ops (front g first (second ⨾ compare) st) refl
        (refl, is.2, k, behind, value_moved to (left + (second ⨾ compare).size) ops a_number u (sym end) after)
        (λ v simple. simple_follows c a_number is.2 (compare_to v r.0 u) (λ o. go (ordinal (compared r.0 v (ordinal_of o)))) left k right
        (v ∷ ops) (front g second compare behind) refl
        (refl, ops, refl, room, is_it, value_moved to (right + 1) ops a_number u (sym end_of_last) after)
        (λ o simple. relation_move g arms few r.0 v o right ops line is_it room (follows_moved g arms few to (right + 1)
        (sym end_of_last) (on (compared r.0 v o) is.0))))

    pub simple_follows : (a : SimpleTree) (h : Shape) → HasShapeSimple s a h → Evaluates (simple_code s a) h (λ u go. from_simple x a u go)
    simple_follows (sum None first no_summands) h is u go at n to ops st ends waits on =
        term_follows first h is u go at n to ops (front g (term_code s first) (nothing ⨾ nothing) st) (omega arith) waits on
    simple_follows (sum None first (more_summands op t rest)) h is u go at n to ops st ends waits on =
        sum_follows None first (more_summands op t rest) h is.0 is.1 is.2
        (λ u go at n to ops st ends waits on. term_follows first a_number is.1 u go at n to ops st ends waits on)
        (λ v u go at n to ops st ends waits on. summands_follow
        (more_summands op t rest) is.2 v u go at n to ops st ends waits on) u go at n to ops st ends waits on
    simple_follows (sum (Some sign) first rest) h is u go at n to ops st ends waits on =
        sum_follows (Some sign) first rest h is.0 is.1 is.2
        (λ u go at n to ops st ends waits on. term_follows first a_number is.1 u go at n to ops st ends waits on)
        (λ v u go at n to ops st ends waits on. summands_follow rest is.2 v u go at n to ops st ends waits on) u go at n to ops st ends waits on

    pub summands_follow : (rest : SummandTrees) → AreSummands s rest → Adds rest
    summands_follow no_summands is v u go at n to ops st ends waits on = follows_moved g arms few to at (sym ends ∙ omega arith) (on v)
    summands_follow (more_summands op t rest) is v u go at n to ops st ends waits on =
        let first = term_code s t in
        let i = add_instr op.0 in
        let others = summands_code s rest in
        let mid = at + first.size in
        let k = n + length first.texts in
        let behind = back g first (one s i ⨾ others) (suc (suc (length ops))) (sized_plain first (plain_term s t))
        (held_grown g.program first 1 (term_changes s checked.sound t a_number is.0) at n (suc (length ops)) ∙ omega arith) st in
        let last = tail g s (λ at n. i) others (suc (length ops)) (add_held op.0 (length ops)) behind in
        let end : mid + (one s i ⨾ others).size ≡ to = omega arith in
        let end_of_last : mid + 1 + others.size ≡ to = omega arith in
        term_follows t a_number is.0 (add_to v op.0 rest u) (λ c. with_number x (added op.0 v (ordinal_of c)) (λ m. from_summands x m rest u go)) at n mid
        (v ∷ ops) (front g first (one s i ⨾ others) st) refl
        (refl, ops, refl, is.1, k, behind, value_moved to (mid + (one s i ⨾ others).size) ops a_number u (sym end) waits)
        (λ c simple. add_move g arms few b x op.0 v c (λ m. from_summands x m rest u go) mid ops (head g s (λ at n. i) others behind) (room_for g last)
        (λ m. summands_follow rest is.1 m u go (mid + 1) (k + 0) to ops last end_of_last waits on))

    pub term_follows : (t : TermTree) (h : Shape) → HasShapeTerm s t h → Evaluates (term_code s t) h (λ u go. from_term x t u go)
    term_follows (product f no_multipliers) h is u go at n to ops st ends waits on =
        factor_follows f h is u go at n to ops (front g (factor_code s f) nothing st) (omega arith) waits on
    term_follows (product f (more_multipliers op d rest)) h is u go at n to ops st ends waits on =
        let code = factor_code s f in
        let others = multipliers_code s (more_multipliers op d rest) in
        let mid = at + code.size in
        let k = n + length code.texts in
        let behind = back g code others (suc (length ops)) (sized_plain code (plain_factor s f))
        (held_grown g.program code 1 (factor_changes s checked.sound f a_number is.1) at n (length ops) ∙ omega arith) st in
        let end : mid + others.size ≡ to = omega arith in
        let left : TakesValue g b x to ops arms a_number u = subst (λ (y : Shape). TakesValue g b x to ops arms y u) is.0 waits in
        factor_follows f a_number is.1 (begin_product (more_multipliers op d rest) u)
        (λ a. from_multipliers x a (more_multipliers op d rest) u go) at n mid ops (front g code others st) refl
        (refl, is.2, k, behind, value_moved to (mid + others.size) ops a_number u (sym end) left)
        (λ v simple. multipliers_follow (more_multipliers op d rest) is.2 v u go mid k to ops behind end left (λ m. on m is.0))

    pub multipliers_follow : (rest : MultiplierTrees) → AreMultipliers s rest → Multiplies rest
    multipliers_follow no_multipliers is v u go at n to ops st ends waits on = follows_moved g arms few to at (sym ends ∙ omega arith) (on v)
    multipliers_follow (more_multipliers op f rest) is v u go at n to ops st ends waits on =
        let first = factor_code s f in
        let i = multiply_instr op.0 in
        let others = multipliers_code s rest in
        let mid = at + first.size in
        let k = n + length first.texts in
        let behind = back g first (one s i ⨾ others) (suc (suc (length ops))) (sized_plain first (plain_factor s f))
        (held_grown g.program first 1 (factor_changes s checked.sound f a_number is.0) at n (suc (length ops)) ∙ omega arith) st in
        let last = tail g s (λ at n. i) others (suc (length ops)) (multiply_held op.0 (length ops)) behind in
        let end : mid + (one s i ⨾ others).size ≡ to = omega arith in
        let end_of_last : mid + 1 + others.size ≡ to = omega arith in
        factor_follows f a_number is.0 (multiply_by v op.0 rest u) (λ c. with_number x (multiplied op.0 v (ordinal_of c)) (λ m. from_multipliers x m rest u go))
        at n mid (v ∷ ops) (front g first (one s i ⨾ others) st) refl
        (refl, ops, refl, is.1, k, behind, value_moved to (mid + (one s i ⨾ others).size) ops a_number u (sym end) waits)
        (λ c simple. multiply_move g arms few b x op.0 v c (λ m. from_multipliers x m rest u go) mid ops (head g s (λ at n. i) others behind) (room_for g last)
        (λ m. multipliers_follow rest is.1 m u go (mid + 1) (k + 0) to ops last end_of_last waits on))

    pub factor_follows : (f : FactorTree) (h : Shape) → HasShapeFactor s f h → Evaluates (factor_code s f) h (λ u go. from_factor x f u go)
    factor_follows (number v p) h is u go at n to ops st ends waits on = literal_follows v at n to ops st ends (on v is)
    factor_follows (literal y p) h is u go at n to ops st ends waits on = literal_follows (char_in y) at n to ops st ends (on (char_in y) is)
    factor_follows (negation f p) h is u go at n to ops st ends waits on =
        let code = factor_code s f in
        let mid = at + code.size in
        let last = back g code (one s NOT) (suc (length ops)) (sized_plain code (plain_factor s f))
        (held_grown g.program code 1 (factor_changes s checked.sound f a_number is.1) at n (length ops) ∙ omega arith) st in
        let end : mid + 1 ≡ to = omega arith in
        let is_it = lone g s (λ at n. NOT) last in
        let left : TakesValue g b x to ops arms a_number u = subst (λ (y : Shape). TakesValue g b x to ops arms y u) is.0 waits in
        factor_follows f a_number is.1 (invert u) (λ a. go (ordinal (inverse_of (ordinal_of a)))) at n mid ops (front g code (one s NOT) st) refl
        (refl, room_for g last, is_it, value_moved to (mid + 1) ops a_number u (sym end) left)
        (λ v simple. next_move g arms few mid (v ∷ ops) NOT line (inverse_of v ∷ ops) is_it (fits g arms NOT (v ∷ ops) (omega arith) tt tt) refl
        (room_for g last) (follows_moved g arms few to (mid + 1) (sym end) (on (inverse_of v) is.0)))
    factor_follows (paren e p) h is u go at n to ops st ends waits on = expr_follows e h is u go at n to ops st ends waits on
    factor_follows (used (desig y ss q) args p) h is u go at n to ops st ends waits on =
        let v = spot_of s.env (find s.env y) in
        name_follows (meaning_of (find s.env y)) h ss v args (λ formals. args_code s formals args) (λ f. function_code s f (first_type s.env args)
        (first_value s args) (first_address s args))
        (λ formals given call. from_args x formals args given call) (λ f wait done. from_function x f (first_type s.env args) wait done
        (from_argument x args) (from_reference x args))
        (λ formals. AreArguments s formals args) (λ f. IsFunction f h (IsGivenFirst s args) (IsLentFirst s args (Some condition)))
        is.1 (λ k e. sub_own g (env_in g names around) checked.tried (find s.env y) is.0 k e)
        (λ t r e. named_read g (env_in g names around) refl checked.tried (find s.env y) is.0 t r e)
        (λ part w t goal go at n to ops part_is may are st ends waits lends on.
        selectors_follow ss part w t goal go at n to ops part_is may are st ends waits lends on)
        (λ formals a. (
          sized_plain (args_code s formals args) (plain_args s formals args),
          held_grown g.program (args_code s formals args) (formals_cells forms formals) (args_change s checked.sound formals args a),
          λ before given call at n to ops below held st ends waits lends.
              args_follow args formals a before given call at n to ops below held st ends waits lends,
        ))
        (λ i e k wait done at n to ops st ends waits on.
        let f = function_of i in
        function_follows f (first_type s.env args) h wait done (from_argument x args) (from_reference x args) (first_value s args) (first_address s args)
        (first_lent args) (IsGivenFirst s args) (IsLentFirst s args (Some condition)) at n to ops k
        (λ asked. asked_own g (env_in g names around) checked.tried (find s.env y) is.0 i e asked)
        (sized_plain (first_value s args) (plain_first s args)) (sized_plain (first_address s args) (plain_first_address s args))
        (λ i. held_grown g.program (first_value s args) 1 (first_changes s checked.sound args i)) (λ i. held_grown g.program (first_address s args) 1
        (first_address_changes s checked.sound args (Some condition) i))
        (λ i u go at n to ops st ends waits on. first_follows args i u go at n to ops st ends waits on)
        (λ own i goal go at n to ops st ends waits lends on.
        reference_follows own args (Some condition) i goal go at n to ops st ends waits lends on)
        st ends waits on)
        u go at n to ops st ends waits on

    pub first_follows : (args : ActualTrees) → IsGivenFirst s args → Evaluates (first_value s args) a_number (λ u go. from_argument x args u go)
    first_follows no_actuals is u go at n to ops st ends waits on = absurd is
    first_follows (more_actuals a rest) is u go at n to ops st ends waits on = given_follows a a_number is u go at n to ops st ends waits on

    pub reference_follows : g.trial ≡ of_own → (args : ActualTrees) (t : Option TypeId) → IsLentFirst s args t →
        Locates (first_address s args) t (first_lent args) (λ goal go. from_reference x args goal go)
    reference_follows own no_actuals t is goal go at n to ops st ends waits lends on = absurd is
    reference_follows own (more_actuals a rest) t is goal go at n to ops st ends waits lends on =
        lent_follows own a t is goal go at n to ops st ends waits lends on

    pub given_follows : (a : ActualTree) (h : Shape) → IsGiven s a h → Evaluates (actual_code s a) h (λ u go. from_actual x a u go)
    given_follows (actual e) h is u go at n to ops st ends waits on = expr_follows e h is u go at n to ops st ends waits on
    given_follows (actual_width e w) h is u go at n to ops st ends waits on = expr_follows e h is u go at n to ops st ends waits on

    pub lent_follows : g.trial ≡ of_own → (a : ActualTree) (t : Option TypeId) → IsLent s a t
        → Locates (lent_code s a) t (lent_spot s a) (λ goal go. from_lent x a goal go)
    lent_follows own (actual e) t is goal go at n to ops st ends waits lends on = variable_follows own e t is goal go at n to ops st ends waits lends on
    lent_follows own (actual_width e w) t is goal go at n to ops st ends waits lends on = variable_follows own e t is goal go at n to ops st ends waits lends on

    pub variable_follows : g.trial ≡ of_own → (e : ExprTree) (t : Option TypeId) → IsVariable s e t →
        Locates (variable_code s e) t (desig_spot s (as_desig e)) (λ goal go. from_variable x e goal go)
    variable_follows own (related a r u q) t is goal go at n to ops st ends waits lends on = absurd is
    variable_follows own (plain (sum (Some sign) k us) q) t is goal go at n to ops st ends waits lends on = absurd is
    variable_follows own (plain (sum None (product (number k r) ms) us) q) t is goal go at n to ops st ends waits lends on = absurd is
    variable_follows own (plain (sum None (product (literal y r) ms) us) q) t is goal go at n to ops st ends waits lends on = absurd is
    variable_follows own (plain (sum None (product (negation f r) ms) us) q) t is goal go at n to ops st ends waits lends on = absurd is
    variable_follows own (plain (sum None (product (paren e r) ms) us) q) t is goal go at n to ops st ends waits lends on = absurd is
    variable_follows own (plain (sum None (product (used (desig y ss r) (more_actuals a args) o) ms) us) q) t is goal go at n to ops st ends waits lends on =
        absurd is
    variable_follows own (plain (sum None (product (used (desig y ss r) no_actuals o) (more_multipliers op f ms)) us) q) t is goal go
        at n to ops st ends waits lends on = absurd is
    variable_follows own (plain (sum None (product (used (desig y ss r) no_actuals o) no_multipliers) (more_summands op k us)) q) t is goal go
        at n to ops st ends waits lends on = absurd is
    variable_follows own (plain (sum None (product (used (desig y ss r) no_actuals o) no_multipliers) no_summands) q) t is goal go
        at n to ops st ends waits lends on =
        address_follows (spot_of s.env (find s.env y)) ss t is.0 (inl own) is.1
        (λ part w t goal go at n to ops part_is may are st ends waits lends on.
        selectors_follow ss part w t goal go at n to ops part_is may are st ends waits lends on)
        goal go at n to ops st ends waits lends (λ l w lies may lent. on l w lies lent)

    pub args_follow : (args : ActualTrees) (formals : List Formal) → AreArguments s formals args →
        Passes (args_code s formals args) formals args (λ given call. from_args x formals args given call)
    args_follow no_actuals [] is before given call at n to ops below held st ends waits lends =
        let here : CallsAt g b x at below arms before call =
        subst (λ (fs : List Formal). CallsAt g b x at below arms fs call) (append-nil before)
        (subst (λ (y : ℕ). CallsAt g b x y below arms (before ++ []) call) (sym ends ∙ omega arith) waits) in
        arrives at ops arms (b, checked, (before, below, held, here, lends))
    args_follow no_actuals (f ∷ formals) is before given call at n to ops below held st ends waits lends = absurd is
    args_follow (more_actuals a rest) [] is before given call at n to ops below held st ends waits lends = absurd is
    args_follow (more_actuals a rest) (f ∷ formals) is before given call at n to ops below held st ends waits lends =
        let own = calls_own g b x to below arms (before ++ f ∷ formals) call waits in
        passed_follows f formals a rest (lent_code s a) (actual_code s a) (λ goal go. from_lent x a goal go) (λ u go. from_actual x a u go)
        (IsLent s a f.t) (λ h. IsGiven s a h) is.0 is.1
        (λ l. (
          sized_plain (lent_code s a) (plain_lent s a),
          held_grown g.program (lent_code s a) 1 (lent_changes s checked.sound a f.t l),
          λ goal go at n to ops st ends waits lends on. lent_follows own a f.t l goal go at n to ops st ends waits lends on,
        ))
        (λ h v. (
          sized_plain (actual_code s a) (plain_actual s a),
          held_grown g.program (actual_code s a) (shape_cells forms h) (given_changes s checked.sound a h v),
          λ u go at n to ops st ends waits on. given_follows a h v u go at n to ops st ends waits on,
        ))
        (λ before given call at n to ops below held st ends waits lends.
        args_follow rest formals is.1 before given call at n to ops below held st ends waits lends)
        before given call at n to ops below held st ends waits lends

    pub selectors_follow : (ss : SelectorTrees) → Selects ss
    selectors_follow no_selectors part w t goal go at n to ops is may are st ends waits lends on =
        follows_moved g arms few to at (sym ends ∙ omega arith) (on part w (subst (λ (k : Option TypeId). IsWord g.view s part.spot k w) are is) may lends)
    selectors_follow (more_selectors (index es p) ss) part w t goal go at n to ops is may are st ends waits lends on =
        let inner = indices_code s part.t es in
        let rest = selectors_code s (type_behind forms part.t es) ss in
        let mid = at + inner.size in
        let k = n + length inner.texts in
        let behind = back g inner rest (suc (length ops)) (sized_plain inner (plain_indices s part.t es)) (indices_change s checked.sound es part.t are.0 at n
        (length ops) ∙ omega arith) (stands_over g (1 + length ops) (omega arith) st) in
        let end : mid + rest.size ≡ to = omega arith in
        indices_follow es part w ss t goal (λ inside. from_selectors x inside ss goal go) at n mid k to ops is may are.0 are.1
        (front g inner rest st) refl behind end waits lends
        (λ inside v inside_is inside_may same lasting.
        selectors_follow ss inside v t goal go mid k to ops inside_is inside_may
        (subst (λ (y : Option TypeId). AreSelectors s y ss t) (sym same) are.1)
        (subst (λ (y : Option TypeId). Stands g mid k (suc (length ops)) (selectors_code s y ss)) (sym same) behind)
        (subst (λ (y : Option TypeId). mid + (selectors_code s y ss).size ≡ to) (sym same) end) waits lasting on)
    selectors_follow (more_selectors (field y p) ss) part w t goal go at n to ops is may are st ends waits lends on =
        let c = field_cell forms (form_in forms part.t) y in
        let rest = selectors_code s (field_type forms part.t y) ss in
        let behind = tail g s (λ at n. FLD c) rest (suc (length ops)) (omega arith) st in
        let end : at + 1 + rest.size ≡ to = omega arith in
        let inside = field_is_part part w y is are.0 in
        next_move g arms few at (w ∷ ops) (FLD c) line ((w +ℤ pos c) ∷ ops) (head g s (λ at n. FLD c) rest st)
        (fits g arms (FLD c) (w ∷ ops) (omega arith) (word_is_address g b (env_in g names around) checked (field_spot forms part y).spot
        (field_spot forms part y).t (w +ℤ pos c) inside) tt) refl (room_for g behind)
        (selectors_follow ss (field_spot forms part y) (w +ℤ pos c) t goal go (at + 1) (n + 0) to ops inside may are.1 behind end waits lends on)

    pub indices_follow : (es : ExprTrees) → Indexes es
    indices_follow no_exprs part w ss t goal go at n mid m to ops is may are after st ends rest end waits lends on =
        follows_moved g arms few mid at (sym ends ∙ omega arith) (on part w is may refl lends)
    indices_follow (more_exprs e es) part w ss t goal go at n mid m to ops is may are after st ends rest end waits lends on =
        let first = expr_code s e in
        let i = index_instr forms (form_in forms part.t) in
        let within = element_in forms part.t in
        let inner = indices_code s within es in
        let left = at + first.size in
        let k = n + length first.texts in
        let behind = back g first (one s i ⨾ inner) (suc (suc (length ops))) (sized_plain first (plain_expr s e))
        (held_grown g.program first 1 (expr_changes s checked.sound e a_number are.1) at n (suc (length ops)) ∙ omega arith) st in
        let last = tail g s (λ at n. i) inner (suc (length ops)) (index_held (form_in forms part.t) (length ops)) behind in
        let inner_end : left + (one s i ⨾ inner).size ≡ mid = omega arith in
        let last_end : left + 1 + inner.size ≡ mid = omega arith in
        let code = selectors_code s (type_behind forms within es) ss in
        let there : TakesLocation g b x (left + (one s i ⨾ inner).size + code.size) ops arms t goal =
        location_moved to (left + (one s i ⨾ inner).size + code.size) ops t goal (omega arith) waits in
        expr_follows e a_number are.1 (index_into part es ss goal) (λ j. with_element x (element_spot forms part (ordinal_of j))
        (λ inside. from_indices x inside es ss goal go)) at n left (w ∷ ops) (front g first (one s i ⨾ inner) st) refl
        (refl, w, ops, t, refl, is, are.0, are.2, after, k, behind, m, stands_moved g (left + (one s i ⨾ inner).size) (sym inner_end) rest, there, may, lends)
        (λ v simple. element_follows part w v (λ inside. from_indices x inside es ss goal go) left ops is may are.0
        (head g s (λ at n. i) inner behind) (room_for g last)
        (λ inside y inside_is inside_may same within_it.
        let e_are : AreIndices s inside.t es = subst (λ (z : Option TypeId). AreIndices s z es) (sym same) are.2 in
        let e_after : AreSelectors s (type_behind forms inside.t es) ss t =
        subst (λ (z : Option TypeId). AreSelectors s (type_behind forms z es) ss t) (sym same) after in
        let e_last : Stands g (left + 1) (k + 0) (suc (length ops)) (indices_code s inside.t es) =
        subst (λ (z : Option TypeId). Stands g (left + 1) (k + 0) (suc (length ops)) (indices_code s z es)) (sym same) last in
        let e_last_end : left + 1 + (indices_code s inside.t es).size ≡ mid =
        subst (λ (z : Option TypeId). left + 1 + (indices_code s z es).size ≡ mid) (sym same) last_end in
        let e_rest : Stands g mid m (suc (length ops)) (selectors_code s (type_behind forms inside.t es) ss) =
        subst (λ (z : Option TypeId). Stands g mid m (suc (length ops)) (selectors_code s (type_behind forms z es) ss)) (sym same) rest in
        let e_end : mid + (selectors_code s (type_behind forms inside.t es) ss).size ≡ to =
        subst (λ (z : Option TypeId). mid + (selectors_code s (type_behind forms z es) ss).size ≡ to) (sym same) end in
        indices_follow es inside y ss t goal go (left + 1) (k + 0) mid m to ops inside_is inside_may e_are e_after e_last e_last_end e_rest e_end waits
        (subst (λ (o : Spot). LendsWhole s o goal) (sym within_it) lends)
        (λ deep z deep_is deep_may deep_same lasting.
        on deep z deep_is deep_may (deep_same ∙ ap (λ (o : Option TypeId). type_behind forms o es) same) lasting)))
