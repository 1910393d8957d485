-- Assignments, messages and requeues in which no rule is broken.
use Rattle.std.proofs.Common.{◌≡◌, ℕ, ◌<◌, Bool, true, false, not, ◌&&◌, if◌then◌else◌, is_some, List, [], ◌∷◌, Option, Some, None, refl, sym, ap, ◌∙◌, subst}
use Rattle.pfc_base.specs.declared.places.Place.{Place}
use Rattle.pfc_tree.specs.Symbols.{Text}
use Rattle.pfc_tree.specs.trees.Exprs.{ExprTree, DesigTree, ActualTree, ActualTrees, desig, no_selectors, more_selectors, actual, actual_width}
use Rattle.pfc_tree.specs.trees.Exprs.{no_actuals, more_actuals}
use Rattle.pfc_types.specs.Faults.{Faults, ◌⨾◌, unless}
use Rattle.pfc_types.specs.Types.{Forms, synchronous, carried_form, form_of, cells_in, is_same, is_simple, is_object}
use Rattle.pfc_types.specs.Scopes.{Level, meaning_of}
use Rattle.pfc_types.specs.Blocks.{sub_at}
use Rattle.pfc_types.specs.declared.types.TypeId.{TypeId}
use Rattle.pfc_types.specs.declared.types.TypeForm.{TypeForm}
use Rattle.pfc_types.specs.declared.types.TypeForm.TheVariants.{Channel, Array, Record, Process as AProcess}
use Rattle.pfc_types.specs.declared.view.Around.{Around}
use Rattle.pfc_types.specs.declared.scope.Meaning.{Meaning}
use Rattle.pfc_types.specs.declared.scope.Meaning.TheVariants.{Constant, Named, Variable, Sub, Module, Process, Entry, Predeclared, Faulty}
use Rattle.pfc_types.specs.declared.heads.SubHead.{SubHead}
use Rattle.pfc_types.specs.declared.heads.SubSort.{SubSort}
use Rattle.pfc_types.specs.declared.heads.SubSort.TheVariants.{Procedure, Guarded, Function}
use Rattle.pfc_types.specs.rules.Kinds.{has, may_have, may_agree, value_rule, has_object}
use Rattle.pfc_types.specs.declared.heads.Formal.{Formal}
use Rattle.pfc_types.specs.rules.Routines.{a_value, a_variable_of, called_with, wants_for, anywhere, may_suit}
use Rattle.pfc_types.specs.rules.Expressions.{find, as_desig, expr_place, expr_type, desig_place, desig_type, count_rule, broken_actuals, broken_desig}
use Rattle.pfc_types.specs.rules.Expressions.{broken_expr, broken_actual, broken_wanted, desig_lends, is_variable}
use Rattle.pfc_types.specs.rules.Calls.{requeue_rules, requeue_sub}
use Rattle.pfc_types.specs.rules.Statements.{is_around, assigned_sub, target_of, target_type, sub_target, target_rules, broken_target, types_rule}
use Rattle.pfc_types.specs.rules.Statements.{broken_assign, carried_by, channel_rule, broken_channel, names_any, only_any_rule, any_rule, broken_message}
use Rattle.pfc_types.specs.rules.Statements.{broken_send, broken_receiver, broken_receive, innermost, broken_requeue}
use Rattle.pfc_types.proofs.Clean.{clean, and-left, and-right}
use Rattle.pfc_semantics.specs.Programs.{Block, Program}
use Rattle.pfc_semantics.specs.Expressions.{spot_of}
use Rattle.pfc_translation.specs.Sites.{Site, type_cells}
use Rattle.pfc_translation.specs.Selects.{receiver_cells}
use Rattle.pfc_standing_code.specs.Shapes.{a_number, a_whole, shape_of, shape_cells, IsSound}
use Rattle.pfc_standing_code.specs.Typed.{IsDeclared, is_near, ByRequeue, Either, HasShape, IsDesig, Outlives, desig_spot, lent_spot, NameLasting}
use Rattle.pfc_standing_code.specs.TypedStatements.{IsAssignment, IsChannel, IsCarried, IsMessage, IsReceiver, IsSend, IsReceive, IsSubRequeue, IsRequeue}
use Rattle.pfc_name_laws.specs.Reached.{GivesSimple}
use Rattle.pfc_typed_phrases.specs.Names.{left_behind, IsNamedSub, IsWhole, AreKnown}
use Rattle.pfc_typed_phrases.proofs.Rules.{holds, never, same_type}
use Rattle.pfc_typed_phrases.proofs.Names.{site_in, of_named, asked_formals, wanted_arguments}
use Rattle.pfc_typed_phrases.proofs.Phrases.{expr_typed, actuals_typed}
use Rattle.pfc_typed_phrases.proofs.Anywhere.{desig_part}
use Rattle.pfc_typed_statements.specs.Reached.{AreReached}
use Rattle.pfc_standing_code.specs.ValueTypes.{IsValueType}
use Rattle.pfc_type_laws.proofs.ValueTypes.{value_type}
use Rattle.pfc_typed_phrases.proofs.Values.{expr_value, not_true}

-- a value takes the cells of its shape
pub shaped : (forms : Forms) → IsSound forms → (t : TypeId) → cells_in forms t ≡ shape_cells forms (shape_of t)
shaped forms sound t = by (is_simple t) refl
  where
    by : (b : Bool) → is_simple t ≡ b → cells_in forms t ≡ shape_cells forms (if b then a_number else a_whole t)
    by true h = sound.simple_cells t h
    by false h = refl

-- inside a function its name has the type of its result
assigned : (view : List Level) (head : SubHead) (u : TypeId) → is_around view head.scope ≡ true →
    head.sort ≡ Function (Some u) → assigned_sub view head ≡ Some u
assigned view head u inside e =
    subst (λ (k : SubSort). assigned_sub view (record head { sort = k }) ≡ Some u) (sym e) (ap (λ (b : Bool). if b then Some u else None) inside)

module _ (g : Program) (block : Block) (view : List Level) (around : Around) (line : ℕ) (known : AreKnown (site_in g block view around line))
    (reached : AreReached (site_in g block view around line)) where
  abbrev pub s : Site
  s = site_in g block view around line

  -- what is given where no object may be has none in it
  given_value : (e : ExprTree) (u : TypeId) → expr_type s.env e ≡ Some u → HasShape s e (shape_of u)
      → clean (value_rule g.state.forms (expr_type s.env e) (expr_place e)) ≡ true
      → IsValueType g.state.forms u
  given_value e u typed is h =
      let free = holds (not (has_object g.state.forms (expr_type s.env e))) (expr_place e) 406 h in
      expr_value s known e u is (not_true (is_object g.state.forms u) (ap (λ (o : Option TypeId). not (has_object g.state.forms o)) (sym typed) ∙ free))

  -- ## Assignments

  -- what is assigned has a type, and is a variable of that type
  abbrev Targets : DesigTree → Type 0
  Targets d = (t : TypeId) × (target_type s.env d ≡ Some t) × IsDesig s d (Some t)

  target_typed : (d : DesigTree) → clean (broken_target s.env d) ≡ true → Targets d
  target_typed (desig x (more_selectors a ss) p) h = let part = desig_part s known (desig x (more_selectors a ss) p) h in (part.0, part.1, part.2)
  target_typed (desig x no_selectors p) h = by (meaning_of (find s.env x)) refl h
    where
      result : (n : ℕ) → meaning_of (find s.env x) ≡ Some (Sub n) → (sort : SubSort) → (sub_at g.state.blocks n).sort ≡ sort → GivesSimple sort
          → clean (sub_target (is_around view (sub_at g.state.blocks n).scope) sort p) ≡ true → Targets (desig x no_selectors p)
      result n e Procedure is value h = never h
      result n e Guarded is value h = never h
      result n e (Function t) is value h =
          let inside = holds (is_around view (sub_at g.state.blocks n).scope) p 327 h in
          let laid = reached.results x n value.0 e (is ∙ ap Function value.1) inside in
          let given = assigned view (sub_at g.state.blocks n) value.0 inside (is ∙ ap Function value.1) in (
            value.0,
            ap (λ (m : Option Meaning). target_of s.env m) e ∙
                given,
            (subst (λ (o : Option TypeId). IsDeclared s (spot_of s.env (find s.env x)).spot o) (sym laid.typed) laid.declared, laid.typed),
          )

      by : (m : Option Meaning) → meaning_of (find s.env x) ≡ m → clean (target_rules s.env m p) ≡ true → Targets (desig x no_selectors p)
      by None e h = never h
      by (Some (Constant t n)) e h = never h
      by (Some (Named t)) e h = never h
      by (Some (Module n)) e h = never h
      by (Some (Process n)) e h = never h
      by (Some (Entry n)) e h = never h
      by (Some (Predeclared n)) e h = never h
      by (Some Faulty) e h = absurd (known.faulty x e)
      by (Some (Sub n)) e h = result n e (sub_at g.state.blocks n).sort refl (known.subs x n e).block.gives h
      by (Some (Variable t r)) e h =
          let laid = known.variables x t r e in (
            t,
            ap (λ (m : Option Meaning). target_of s.env m) e,
            (
              subst (λ (o : Option TypeId). IsDeclared s (spot_of s.env (find s.env x)).spot o)
                  (sym laid.typed) laid.declared,
              laid.typed,
            ),
          )

  pub assign_typed : (d : DesigTree) (e : ExprTree) (p : Place) → clean (broken_assign s.env d e p) ≡ true → IsAssignment s d e
  assign_typed d e p h =
      let last = value_rule g.state.forms (target_type s.env d) (desig_place d) ⨾ value_rule g.state.forms (expr_type s.env e) (expr_place e) in
      let rule = types_rule (target_type s.env d) (expr_type s.env e) p in
      let x = target_typed d (and-left (clean (broken_target s.env d)) (clean (broken_expr s.env e ⨾ rule ⨾ last)) h) in
      let behind = and-right (clean (broken_target s.env d)) (clean (broken_expr s.env e ⨾ rule ⨾ last)) h in
      let y = expr_typed g block view around line known e (and-left (clean (broken_expr s.env e)) (clean (rule ⨾ last)) behind) in
      let test = holds (may_agree (target_type s.env d) (expr_type s.env e)) p 312
      (and-left (clean rule) (clean last) (and-right (clean (broken_expr s.env e)) (clean (rule ⨾ last)) behind)) in
      let target = clean (value_rule g.state.forms (target_type s.env d) (desig_place d)) in
      let source = clean (value_rule g.state.forms (expr_type s.env e) (expr_place e)) in
      let values = and-right target source (and-right (clean rule) (clean last) (and-right (clean (broken_expr s.env e)) (clean (rule ⨾ last)) behind)) in
      let same = same_type x.0 y.0 (ap (λ (o : Option TypeId). may_agree o (Some y.0)) (sym x.1) ∙
      ap (λ (o : Option TypeId). may_agree (target_type s.env d) o) (sym y.1) ∙ test) in
      record {
        t = x.0;
        target = x.2;
        value = subst (λ (t : TypeId). HasShape s e (shape_of t)) (sym same) y.2;
        cells = ap (λ (o : Option TypeId). type_cells g.state.forms o) (y.1 ∙ ap Some (sym same)) ∙ shaped g.state.forms reached.sound x.0;
        values = subst (λ (t : TypeId). IsValueType g.state.forms t) (sym same) (given_value e y.0 y.1 y.2 values);
      }

  -- ## Messages

  abbrev Carries : DesigTree → Type 0
  Carries d = (t : TypeId) × (u : TypeId) × (carried_by g.state.forms (desig_type s.env d) ≡ Some u) × IsDesig s d (Some t) × IsChannel g.state.forms (Some t) u

  channel_typed : (d : DesigTree) → clean (broken_channel s.env d) ≡ true → Carries d
  channel_typed d h =
      let one = clean (broken_desig s.env d) in
      let two = clean (channel_rule g.state.forms (desig_type s.env d) (desig_place d)) in
      let x = desig_part s known d (and-left one two h) in
      let test = holds _ (desig_place d) 310
      (subst (λ (o : Option TypeId). clean (channel_rule g.state.forms o (desig_place d)) ≡ true) x.1 (and-right one two h)) in
      by x.0 x.1 x.2 (form_of g.state.forms x.0) refl test
    where
      by : (t : TypeId) → desig_type s.env d ≡ Some t → IsDesig s d (Some t) → (form : Option TypeForm) → form_of g.state.forms t ≡ form →
          is_some (carried_form form) ≡ true → Carries d
      by t e is None f h = never h
      by t e is (Some (Array over low high element)) f h = never h
      by t e is (Some (Record fields)) f h = never h
      by t e is (Some (AProcess n)) f h = never h
      by t e is (Some (Channel u)) f h =
          (t, u, ap (λ (o : Option TypeId). carried_by g.state.forms o) e ∙ ap carried_form f, is, record { channel = t; typed = refl; form = f })

  -- a message is of a type with cells and without objects, which is not `synchronous`
  carried : (u : TypeId) (p : Place) → clean (only_any_rule (Some u) p) ≡ true → IsValueType g.state.forms u → IsCarried g.state.forms u
  carried u p h value = (
    subst (λ (n : ℕ). 0 < n) (shaped g.state.forms reached.sound u) (reached.filled u),
    λ same. never (sym (ap not (ap (λ (t : TypeId). is_same t synchronous) same)) ∙ holds (not (has synchronous (Some u))) p 412 h),
    value,
  )

  message_typed :
      (e : ExprTree) (p : Place) (u : TypeId) → clean (broken_message s.env (Some u) e p) ≡ true
      → IsMessage s (if names_any s.env (as_desig e) then None else Some e) u
  message_typed e p u h = by (names_any s.env (as_desig e)) h
    where
      rest : Faults
      rest = only_any_rule (Some u) p ⨾ value_rule g.state.forms (expr_type s.env e) (expr_place e)

      by : (b : Bool) → clean (if b then any_rule (Some u) (expr_place e) else (broken_expr s.env e ⨾ types_rule (Some u) (expr_type s.env e) p ⨾ rest)) ≡
          true → IsMessage s (if b then None else Some e) u
      by true h = same_type u synchronous (holds (may_have synchronous (Some u)) (expr_place e) 412 h)
      by false h =
          let one = clean (broken_expr s.env e) in
          let two = clean (types_rule (Some u) (expr_type s.env e) p) in
          let y = expr_typed g block view around line known e (and-left one (two && clean rest) h) in
          let behind = and-right two (clean rest) (and-right one (two && clean rest) h) in
          let test = holds (may_agree (Some u) (expr_type s.env e)) p 312 (and-left two (clean rest) (and-right one (two && clean rest) h)) in
          let same = same_type u y.0 (ap (λ (o : Option TypeId). may_agree (Some u) o) (sym y.1) ∙ test) in (
            subst (λ (t : TypeId). HasShape s e (shape_of t)) (sym same) y.2,
            ap (λ (o : Option TypeId). type_cells g.state.forms o) (y.1 ∙ ap Some (sym same)) ∙ shaped g.state.forms reached.sound u,
            carried u p (and-left (clean (only_any_rule (Some u) p)) _ behind)
                (subst (λ (t : TypeId). IsValueType g.state.forms t) (sym same)
                (given_value e y.0 y.1 y.2 (and-right (clean (only_any_rule (Some u) p)) _ behind))),
          )

  receiver_typed :
      (v : DesigTree) (p : Place) (u : TypeId) → clean (broken_receiver s.env (Some u) v p) ≡ true
      → IsReceiver s (if names_any s.env (Some v) then None else Some v) u
  receiver_typed v p u h = by (names_any s.env (Some v)) h
    where
      rest : Faults
      rest = only_any_rule (Some u) p ⨾ value_rule g.state.forms (desig_type s.env v) (desig_place v)

      by : (b : Bool) → clean (if b then any_rule (Some u) (desig_place v) else (broken_desig s.env v ⨾ types_rule (Some u) (desig_type s.env v) p ⨾ rest)) ≡
          true → IsReceiver s (if b then None else Some v) u
      by true h = same_type u synchronous (holds (may_have synchronous (Some u)) (desig_place v) 412 h)
      by false h =
          let one = clean (broken_desig s.env v) in
          let two = clean (types_rule (Some u) (desig_type s.env v) p) in
          let y = desig_part s known v (and-left one (two && clean rest) h) in
          let behind = and-right two (clean rest) (and-right one (two && clean rest) h) in
          let free = holds (not (has_object g.state.forms (desig_type s.env v))) (desig_place v) 406 (and-right (clean (only_any_rule (Some u) p)) _ behind) in
          let object = ap (λ (o : Option TypeId). not (has_object g.state.forms o)) (sym y.1) ∙ free in
          let value = value_type g.state.forms known.table y.0 y.3 (not_true (is_object g.state.forms y.0) object) in
          let test = holds (may_agree (Some u) (desig_type s.env v)) p 312 (and-left two (clean rest) (and-right one (two && clean rest) h)) in
          let same = same_type u y.0 (ap (λ (o : Option TypeId). may_agree (Some u) o) (sym y.1) ∙ test) in
          let cells : receiver_cells s (Some v) ≡ cells_in g.state.forms u =
          ap (λ (o : Option TypeId). type_cells g.state.forms o) (y.1 ∙ ap Some (sym same)) in (
            subst (λ (t : TypeId). IsDesig s v (Some t)) (sym same) y.2,
            cells ∙ shaped g.state.forms reached.sound u,
            carried u p (and-left (clean (only_any_rule (Some u) p)) _ behind) (subst (λ (t : TypeId). IsValueType g.state.forms t) (sym same) value),
          )

  pub send_typed : (d : DesigTree) (e : ExprTree) (p : Place) → clean (broken_send s.env d e p) ≡ true →
      IsSend s d (if names_any s.env (as_desig e) then None else Some e)
  send_typed d e p h =
      let carried = carried_by g.state.forms (desig_type s.env d) in
      let x = channel_typed d (and-left (clean (broken_channel s.env d)) (clean (broken_message s.env carried e p)) h) in
      let message = subst (λ (o : Option TypeId). clean (broken_message s.env o e p) ≡ true) x.2 (and-right (clean (broken_channel s.env d))
      (clean (broken_message s.env carried e p)) h) in
      record { t = Some x.0; u = x.1; channel = x.3; carries = x.4; message = message_typed e p x.1 message }

  pub receive_typed : (d v : DesigTree) (p : Place) → clean (broken_receive s.env d v p) ≡ true →
      IsReceive s d (if names_any s.env (Some v) then None else Some v)
  receive_typed d v p h =
      let carried = carried_by g.state.forms (desig_type s.env d) in
      let x = channel_typed d (and-left (clean (broken_channel s.env d)) (clean (broken_receiver s.env carried v p)) h) in
      let receiver = subst (λ (o : Option TypeId). clean (broken_receiver s.env o v p) ≡ true) x.2 (and-right (clean (broken_channel s.env d))
      (clean (broken_receiver s.env carried v p)) h) in
      record { t = Some x.0; u = x.1; channel = x.3; carries = x.4; receiver = receiver_typed v p x.1 receiver }

  -- ## Requeues

  named_lasting : around.guarded ≡ true → (o : Option DesigTree) → desig_lends s.env (Some (innermost view)) o ≡ true → Outlives s (desig_spot s o)
  named_lasting inside None h = never h
  named_lasting inside (Some (desig x ss p)) h = reached.lasting inside x h

  -- what is named for reference parameters outlives the activation that ends
  lent_lasting : around.guarded ≡ true → (a : ActualTree) (t : Option TypeId) (r : Bool)
      → clean (broken_wanted s.env (Some (innermost view)) (if r then a_variable_of t else a_value t) a) ≡ true
      → Either r (Outlives s (lent_spot s a)) (Unit {0})
  lent_lasting inside a t false h = tt
  lent_lasting inside (actual e) t true h =
      named_lasting inside (as_desig e) (holds (is_variable s.env (Some (innermost view)) e) (expr_place e) 318
      (and-right (clean (unless (may_suit t (expr_type s.env e)) (expr_place e) 317))
      (clean (unless (is_variable s.env (Some (innermost view)) e) (expr_place e) 318)) h))
  lent_lasting inside (actual_width e w) t true h =
      named_lasting inside (as_desig e) (holds (is_variable s.env (Some (innermost view)) e) (expr_place e) 318
      (and-right (clean (unless (may_suit t (expr_type s.env e)) (expr_place e) 317))
      (clean (unless (is_variable s.env (Some (innermost view)) e) (expr_place e) 318)) h))

  name_lasting : around.guarded ≡ true → (formals : List Formal) (args : ActualTrees)
      → clean (broken_actuals s.env (Some (innermost view)) true (wants_for formals) args) ≡ true → NameLasting s formals args
  name_lasting inside [] no_actuals h = tt
  name_lasting inside [] (more_actuals a rest) h = tt
  name_lasting inside (f ∷ formals) no_actuals h = tt
  name_lasting inside (f ∷ formals) (more_actuals a rest) h =
      let own = clean (broken_actual s.env true a) in
      let wanted = clean (broken_wanted s.env (Some (innermost view)) (if f.reference then a_variable_of f.t else a_value f.t) a) in
      let others = clean (broken_actuals s.env (Some (innermost view)) true (wants_for formals) rest) in
      let behind = and-right own (wanted && others) h in
      (lent_lasting inside a f.t f.reference (and-left wanted others behind), name_lasting inside formals rest (and-right wanted others behind))

  sub_asked :
      (n : ℕ) (p : Place) (args : ActualTrees) → IsWhole s (sub_at g.state.blocks n) → (sub_at g.state.blocks n).sort ≡ Guarded
      → (named : IsNamedSub s (sub_at g.state.blocks n)) → is_near block named.within ≡ true → around.guarded ≡ true
      → clean (count_rule (called_with (wants_for (sub_at g.state.blocks n).formals) anywhere) args p) ≡ true
      → clean (broken_actuals s.env (Some (innermost view)) true (wants_for (sub_at g.state.blocks n).formals) args) ≡ true → IsSubRequeue s n args
  sub_asked n p args whole is named near inside count h =
      let head = sub_at g.state.blocks n in (
        record {
          headed = of_named s head (ByRequeue block) named (is, reached.guarded inside, near);
          taken = whole.block.taken;
          leaves = whole.block.leaves ∙ ap left_behind is;
        },
        wanted_arguments s head.formals args (actuals_typed g block view around line known (Some (innermost view)) (wants_for head.formals) args
            (asked_formals head.formals whole.formals) (holds _ p 316 count) h).0,
        name_lasting inside head.formals args h,
      )

  pub requeue_typed : (x : Text × Place) (args : ActualTrees) (p : Place) → clean (broken_requeue s.env x args p) ≡ true →
      IsRequeue s (meaning_of (find s.env x.0)) args
  requeue_typed x args p h =
      by (meaning_of (find s.env x.0)) refl (and-right (clean (unless around.guarded p 418))
      (clean (requeue_rules s.env (innermost view) (meaning_of (find s.env x.0)) x.1 args)) h)
    where
      inside : around.guarded ≡ true
      inside = holds around.guarded p 418
          (and-left (clean (unless around.guarded p 418)) (clean (requeue_rules s.env (innermost view) (meaning_of (find s.env x.0)) x.1 args)) h)

      sub : (n : ℕ) → meaning_of (find s.env x.0) ≡ Some (Sub n) → (sort : SubSort) → (sub_at g.state.blocks n).sort ≡ sort
          → clean (requeue_sub s.env (innermost view) sort (sub_at g.state.blocks n).formals x.1 args) ≡ true → IsSubRequeue s n args
      sub n e Procedure is h = never h
      sub n e (Function t) is h = never h
      sub n e Guarded is h =
          let count = clean (count_rule (called_with (wants_for (sub_at g.state.blocks n).formals) anywhere) args x.1) in
          let actuals = clean (broken_actuals s.env (Some (innermost view)) true (wants_for (sub_at g.state.blocks n).formals) args) in
          let near = reached.near x.0 n e in
          sub_asked n x.1 args (known.subs x.0 n e) is near.0 near.1 inside (and-left count actuals h) (and-right count actuals h)

      by : (m : Option Meaning) → meaning_of (find s.env x.0) ≡ m → clean (requeue_rules s.env (innermost view) m x.1 args) ≡ true → IsRequeue s m args
      by None e h = never h
      by (Some (Constant t n)) e h = never h
      by (Some (Named t)) e h = never h
      by (Some (Variable t r)) e h = never h
      by (Some (Module n)) e h = never h
      by (Some (Process n)) e h = never h
      by (Some (Entry n)) e h = never h
      by (Some (Predeclared n)) e h = never h
      by (Some Faulty) e h = absurd (known.faulty x.0 e)
      by (Some (Sub n)) e h = sub n e (sub_at g.state.blocks n).sort refl h
