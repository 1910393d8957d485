-- The code of assignments and of communication follows the next action of its source text.
use Rattle.std.proofs.Common.{◌≡◌, ℕ, suc, ◌+◌, ◌≤◌, ℤ, Bool, true, false, ◌||◌, List, [], ◌∷◌, length, Option, Some, None, refl, ap, ◌∙◌, subst, arith}
use Rattle.pfc_code.specs.declared.instructions.Instr.TheVariants.{STORE, OBJ, SEND, RECV}
use Rattle.pfc_tree.specs.trees.Exprs.{ExprTree, DesigTree}
use Rattle.pfc_types.specs.Types.{Forms, semaphore, condition, is_same, form_of, process_form}
use Rattle.pfc_types.specs.Scopes.{Level}
use Rattle.pfc_types.specs.rules.Expressions.{expr_type}
use Rattle.pfc_types.specs.declared.types.TypeId.{TypeId}
use Rattle.pfc_types.specs.declared.types.TypeForm.{TypeForm}
use Rattle.pfc_types.specs.declared.types.TypeForm.TheVariants.{Channel, Array, Record, Process as AProcess}
use Rattle.pfc_types.specs.declared.view.Around.{Around}
use Rattle.pfc_semantics.specs.Displays.{Spot}
use Rattle.pfc_semantics.specs.Programs.{Block}
use Rattle.pfc_semantics.specs.Remainders.{Context, Remainder, Action, assign_to, store_at, send_to, send_on, receive_from, receive_into, to_send, to_receive}
use Rattle.pfc_semantics.specs.Remainders.{writes, meets}
use Rattle.pfc_semantics.specs.Expressions.{from_expr, from_desig}
use Rattle.pfc_semantics.specs.Statements.{from_assign, plain_open, from_sent, from_received}
use Rattle.pfc_translation.specs.Sites.{Site, forms_of, type_cells}
use Rattle.pfc_translation.specs.Codes.{Code, nothing, ◌⨾◌, one}
use Rattle.pfc_translation.specs.Expressions.{expr_code, desig_code, object_code}
use Rattle.pfc_translation.specs.Selects.{message_code, message_cells, receiver_code, receiver_cells}
use Rattle.pfc_translation.specs.Statements.{assign_code}
use Rattle.pfc_standing_code.specs.Sizes.{IsSized}
use Rattle.pfc_standing_code.specs.Shapes.{shape_of, shape_cells, is_number, is_object_type, has_object_form}
use Rattle.pfc_standing_code.specs.ValueTypes.{IsValueType}
use Rattle.pfc_standing_code.specs.Settings.{Setting, of_own, site_of, IsAt, Stands}
use Rattle.pfc_standing_code.specs.Typed.{HasShape}
use Rattle.pfc_standing_code.specs.TypedStatements.{IsChannel, IsAssignment, IsMessage, IsReceiver, IsSend, IsReceive, IsProcessType}
use Rattle.pfc_standing_code.specs.Words.{IsWord, IsObject, IsChecked}
use Rattle.pfc_standing_code.specs.Performs.{of_message, of_signal, into_variable, into_nothing, Performs}
use Rattle.pfc_standing_code.specs.Following.{of_value, Follows, arrives}
use Rattle.pfc_standing_code.proofs.Sizes.{sized_then, sized_expr, sized_desig}
use Rattle.pfc_following_expressions.proofs.Glue.{Changes, changes_both, room_for, front, back, lone, stands_moved}
use Rattle.pfc_following_expressions.proofs.Held.{held_grown, expr_changes, desig_changes, changes_one}
use Rattle.pfc_following_expressions.proofs.Expressions.{env_in, simple_shape, object_follows}
use Rattle.pfc_following_expressions.proofs.Anywhere.{expression_follows, variable_follows}

-- ## Objects

or_last : (x y : Bool) → (x || y || true) ≡ true
or_last true true = refl
or_last true false = refl
or_last false true = refl
or_last false false = refl

pub channel_is_object : (forms : Forms) (t : Option TypeId) (u : TypeId) → IsChannel forms t u → is_object_type forms t ≡ true
channel_is_object forms t u is =
    ap (λ (k : Option TypeId). is_object_type forms k) is.typed
    ∙ ap (λ (f : Option TypeForm). is_same is.channel semaphore || is_same is.channel condition || has_object_form f) is.form ∙
    or_last (is_same is.channel semaphore) (is_same is.channel condition)

pub process_is_object : (s : Site) (n : ℕ) (v : Spot) (t : Option TypeId) → IsProcessType s n v t → is_object_type (forms_of s) t ≡ true
process_is_object s n v None is = refl
process_is_object s n v (Some t) is = by (form_of (forms_of s) t) is
  where
    by : (f : Option TypeForm) → process_form f ≡ Some n → (is_same t semaphore || is_same t condition || has_object_form f) ≡ true
    by (Some (AProcess k)) e = or_last (is_same t semaphore) (is_same t condition)
    by None e = absurd (cc)
    by (Some (Channel u)) e = absurd (cc)
    by (Some (Array over low high element)) e = absurd (cc)
    by (Some (Record fields)) e = absurd (cc)

module _ (g : Setting) (b : Block) (names : List Level) (around : Around) (checked : IsChecked g b (env_in g names around)) (few : 0 ≤ g.arms)
    (own : g.trial ≡ of_own) (line : ℕ) where
  abbrev x : Context
  x = record { env = env_in g names around; line = line }

  abbrev s : Site
  s = site_of g b x

  pub performs_moved : (at to : ℕ) (ops : List ℤ) (k : Remainder) → at ≡ to → Performs g b (env_in g names around) at ops [] k →
      Performs g b (env_in g names around) to ops [] k
  performs_moved at to ops k e h = subst (λ (y : ℕ). Performs g b (env_in g names around) y ops [] k) e h

  -- ## Assignments

  -- the value, behind its target
  pub stored_follows :
      (l : Spot) (v : TypeId) (e : ExprTree) (k : Remainder) (w : ℤ) (at n : ℕ) (ops : List ℤ)
      → IsWord g.view s l (Some v) w → HasShape s e (shape_of v) →
      type_cells g.program.state.forms (expr_type s.env e) ≡ shape_cells g.program.state.forms (shape_of v)
      → IsValueType g.program.state.forms v
      → Stands g at n (suc (length ops)) (expr_code s e ⨾ one s (STORE (type_cells g.program.state.forms (expr_type s.env e))))
      → Performs g b x.env (at + (expr_code s e ⨾ one s (STORE (type_cells g.program.state.forms (expr_type s.env e)))).size) ops [] k
      → Follows g (from_expr x e (store_at l k) (λ a. writes x l a k)) at (w ∷ ops) []
  stored_follows l v e k w at n ops lies shape cells values st rest =
      let value = expr_code s e in
      let z = type_cells g.program.state.forms (expr_type s.env e) in
      let size = shape_cells g.program.state.forms (shape_of v) in
      let stores = back g value (one s (STORE z)) (size + suc (length ops)) (sized_expr s e)
      (held_grown g.program value size (expr_changes s checked.sound e (shape_of v) shape) at n (suc (length ops))) st in
      let store : IsAt g (at + value.size) (STORE size) line =
      subst (λ (y : ℕ). IsAt g (at + value.size) (STORE y) line) cells (lone g s (λ at n. STORE z) stores) in
      let after = performs_moved (at + (value.size + 1)) (at + value.size + 1) ops k (omega arith) rest in
      expression_follows g b x checked [] few e (shape_of v) shape (store_at l k) (λ a. writes x l a k) at n (w ∷ ops) (front g value (one s (STORE z)) st)
      ((own, refl), (v, w, ops, refl, refl, lies, store, after, values))
      (λ c simple. arrives (at + value.size) (c ∷ w ∷ ops) []
      (b, checked, (own, of_value v w ops refl (is_number v c (simple_shape v simple)) lies store after)))

  pub assign_follows :
      (d : DesigTree) (e : ExprTree) (k : Remainder) (at n to : ℕ) (ops : List ℤ)
      → IsAssignment s d e → Stands g at n (length ops) (assign_code s d e) → at + (assign_code s d e).size ≡ to → Performs g b x.env to ops [] k
      → Follows g (from_assign x d e k) at ops []
  assign_follows d e k at n to ops is st ends left =
      let first = desig_code s d in
      let last = expr_code s e ⨾ one s (STORE (type_cells g.program.state.forms (expr_type s.env e))) in
      let mid = at + first.size in
      let m = n + length first.texts in
      let behind = back g first last (suc (length ops)) (sized_desig s d)
      (held_grown g.program first 1 (desig_changes s checked.sound d (Some is.t) is.target) at n (length ops) ∙ omega arith) st in
      let rest = performs_moved to (mid + last.size) ops k (omega arith) left in
      variable_follows g b x checked own [] few d (Some is.t) is.target (assign_to e k) (λ v. tt)
      (λ v. from_expr x e (store_at v.spot k) (λ a. writes x v.spot a k)) at n ops (front g first last st)
      ((own, refl), (is.t, refl, is.value, is.cells, m, behind, rest, is.values))
      (λ l y lies. stored_follows l.spot is.t e k y mid m ops lies is.value is.cells is.values behind rest)

  -- ## Code behind an object

  pub record Parts (address code : Code) (at n held : ℕ) : Type 0 where
    pub first : Stands g at n held address
    pub obj : IsAt g (at + address.size) OBJ line
    pub room : suc held ≤ g.room
    pub i : ℕ
    pub behind : Stands g (at + address.size + 1) i (suc held) code

  pub object_parts : (address code : Code) (at n held : ℕ) → IsSized address → Changes g.program address 0 1 →
      Stands g at n held ((address ⨾ one s OBJ) ⨾ code) → Parts address code at n held
  object_parts address code at n held sized changes st =
      let object = address ⨾ one s OBJ in
      let both = front g object code st in
      let obj = back g address (one s OBJ) (suc held) sized (held_grown g.program address 1 changes at n held ∙ omega arith) both in
      let whole : Changes g.program object 0 1 = changes_both g.program address (one s OBJ) 0 1 1 changes (changes_one g.program s OBJ 1 1 refl refl) in
      let sized_object : IsSized object = sized_then s address (λ at n. OBJ) sized in
      let behind = back g object code (suc held) sized_object (held_grown g.program object 1 whole at n held ∙ omega arith) st in
      let same : at + object.size ≡ at + address.size + 1 = omega arith in
      record {
        first = front g address (one s OBJ) both;
        obj = lone g s (λ at n. OBJ) obj;
        room = room_for g obj;
        i = n + length object.texts;
        behind =
            stands_moved g (at + address.size + 1) same behind;
      }

  -- an object that is on top by its address
  pub numbered_follows :
      {n : Action} (v : Spot) (t : Option TypeId) (w : ℤ) (at : ℕ) (ops : List ℤ) → IsWord g.view s v t w → is_object_type g.program.state.forms t ≡ true →
      IsAt g at OBJ line → suc (length ops) ≤ g.room
      → ((i : ℤ) → IsObject g s v t i → Follows g n (at + 1) (i ∷ ops) []) → Follows g n at (w ∷ ops) []
  numbered_follows v t w at ops is object obj room on = object_follows g b names around checked line [] few v t w at ops is object obj room on

  -- ## Sends

  -- behind the channel's number
  pub sent_follows :
      (channel : Spot) (t : Option TypeId) (u : TypeId) (i : ℤ) (m : Option ExprTree) (k : Remainder) (at n : ℕ) (ops : List ℤ)
      → IsChannel g.program.state.forms t u → IsObject g s channel t i → IsMessage s m u →
      Stands g at n (suc (length ops)) (message_code s m ⨾ one s (SEND (message_cells s m)))
      → Performs g b x.env (at + (message_code s m ⨾ one s (SEND (message_cells s m))).size) ops [] k
      → Follows g (from_sent x channel m k) at (i ∷ ops) []
  sent_follows channel t u i None k at n ops carries object is st left =
      let behind = back g nothing (one s (SEND 0)) (suc (length ops)) (λ at n. refl) refl st in
      let send : IsAt g at (SEND 0) line = subst (λ (y : ℕ). IsAt g y (SEND 0) line) (omega arith) (lone g s (λ at n. SEND 0) behind) in
      arrives at (i ∷ ops) [] (
        b,
        checked,
        (
          (own, refl),
          (
            (refl, refl),
            (
              0,
              i ∷ [],
              ops,
              refl,
              of_signal t u i carries object is refl refl refl,
              send,
              performs_moved (at + (0 + 1)) (at + 1) ops k (omega arith) left,
            ),
          ),
        ),
      )
  sent_follows channel t u i (Some e) k at n ops carries object is st left =
      let value = expr_code s e in
      let z = message_cells s (Some e) in
      let w = shape_cells g.program.state.forms (shape_of u) in
      let behind = back g value (one s (SEND z)) (w + suc (length ops)) (sized_expr s e)
      (held_grown g.program value w (expr_changes s checked.sound e (shape_of u) is.0) at n (suc (length ops))) st in
      let send : IsAt g (at + value.size) (SEND w) line = subst (λ (y : ℕ). IsAt g (at + value.size) (SEND y) line) is.1 (lone g s (λ at n. SEND z) behind) in
      let rest = performs_moved (at + (value.size + 1)) (at + value.size + 1) ops k (omega arith) left in
      expression_follows g b x checked [] few e (shape_of u) is.0 (send_on channel k) (λ v. meets x (plain_open (to_send channel v)) k) at n
      (i ∷ ops) (front g value (one s (SEND z)) st)
      ((own, refl), (t, u, i, ops, refl, refl, carries, is.2, object, send, rest))
      (λ v simple. arrives (at + value.size) (v ∷ i ∷ ops) [] (
        b,
        checked,
        (
          (own, refl),
          (
            (refl, refl),
            (w, v ∷ i ∷ [], ops, refl, of_message t u i carries object is.2 (is_number u v (simple_shape u simple)) refl refl, send, rest),
          ),
        ),
      ))

  pub send_follows :
      (d : DesigTree) (m : Option ExprTree) (k : Remainder) (at n to : ℕ) (ops : List ℤ)
      → IsSend s d m → Stands g at n (length ops) (object_code s d ⨾ message_code s m ⨾ one s (SEND (message_cells s m))) →
      at + (object_code s d ⨾ message_code s m ⨾ one s (SEND (message_cells s m))).size ≡ to
      → Performs g b x.env to ops [] k → Follows g (from_desig x d (send_to m k) (λ channel. from_sent x channel.spot m k)) at ops []
  send_follows d m k at n to ops is st ends left =
      let first = desig_code s d in
      let last = message_code s m ⨾ one s (SEND (message_cells s m)) in
      let parts = object_parts first last at n (length ops) (sized_desig s d) (desig_changes s checked.sound d is.t is.channel) st in
      let mid = at + first.size in
      let rest = performs_moved to (mid + 1 + last.size) ops k (omega arith) left in
      variable_follows g b x checked own [] few d is.t is.channel (send_to m k) (λ v. tt) (λ channel. from_sent x channel.spot m k) at n ops parts.first
      ((own, refl), (is.u, is.carries, is.message, (parts.obj, parts.i, parts.behind, rest)))
      (λ l w lies. numbered_follows l.spot is.t w mid ops lies (channel_is_object g.program.state.forms is.t is.u is.carries) parts.obj parts.room
      (λ i object. sent_follows l.spot is.t is.u i m k (mid + 1) parts.i ops is.carries object is.message parts.behind rest))

  -- ## Receives

  pub received_follows :
      (channel : Spot) (t : Option TypeId) (u : TypeId) (i : ℤ) (r : Option DesigTree) (k : Remainder) (at n : ℕ) (ops : List ℤ)
      → IsChannel g.program.state.forms t u → IsObject g s channel t i → IsReceiver s r u →
      Stands g at n (suc (length ops)) (receiver_code s r ⨾ one s (RECV (receiver_cells s r)))
      → Performs g b x.env (at + (receiver_code s r ⨾ one s (RECV (receiver_cells s r))).size) ops [] k
      → Follows g (from_received x channel r k) at (i ∷ ops) []
  received_follows channel t u i None k at n ops carries object is st left =
      let behind = back g nothing (one s (RECV 0)) (suc (length ops)) (λ at n. refl) refl st in
      let receive : IsAt g at (RECV 0) line = subst (λ (y : ℕ). IsAt g y (RECV 0) line) (omega arith) (lone g s (λ at n. RECV 0) behind) in
      arrives at (i ∷ ops) [] (
        b,
        checked,
        (
          (own, refl),
          (
            (refl, refl),
            (
              0,
              i ∷ [],
              ops,
              refl,
              into_nothing t u i carries object is refl refl,
              receive,
              performs_moved (at + (0 + 1)) (at + 1) ops k (omega arith) left,
            ),
          ),
        ),
      )
  received_follows channel t u i (Some d) k at n ops carries object is st left =
      let target = desig_code s d in
      let z = receiver_cells s (Some d) in
      let w = shape_cells g.program.state.forms (shape_of u) in
      let behind = back g target (one s (RECV z)) (suc (suc (length ops))) (sized_desig s d)
      (held_grown g.program target 1 (desig_changes s checked.sound d (Some u) is.0) at n (suc (length ops)) ∙ omega arith) st in
      let receive : IsAt g (at + target.size) (RECV w) line =
      subst (λ (y : ℕ). IsAt g (at + target.size) (RECV y) line) is.1 (lone g s (λ at n. RECV z) behind) in
      let rest = performs_moved (at + (target.size + 1)) (at + target.size + 1) ops k (omega arith) left in
      variable_follows g b x checked own [] few d (Some u) is.0 (receive_into channel k) (λ v. tt)
      (λ v. meets x (plain_open (to_receive channel (Some v.spot))) k) at n (i ∷ ops) (front g target (one s (RECV z)) st)
      ((own, refl), (t, u, i, ops, refl, is.2, carries, refl, object, receive, rest))
      (λ l y lies. arrives (at + target.size) (y ∷ i ∷ ops) [] (
        b,
        checked,
        (
          (own, refl),
          (
            (refl, refl),
            (w, y ∷ i ∷ [], ops, refl, into_variable t u i y l.spot carries object is.2 lies refl refl, receive, rest),
          ),
        ),
      ))

  pub receive_follows :
      (d : DesigTree) (r : Option DesigTree) (k : Remainder) (at n to : ℕ) (ops : List ℤ)
      → IsReceive s d r → Stands g at n (length ops) (object_code s d ⨾ receiver_code s r ⨾ one s (RECV (receiver_cells s r))) →
      at + (object_code s d ⨾ receiver_code s r ⨾ one s (RECV (receiver_cells s r))).size ≡ to
      → Performs g b x.env to ops [] k → Follows g (from_desig x d (receive_from r k) (λ channel. from_received x channel.spot r k)) at ops []
  receive_follows d r k at n to ops is st ends left =
      let first = desig_code s d in
      let last = receiver_code s r ⨾ one s (RECV (receiver_cells s r)) in
      let parts = object_parts first last at n (length ops) (sized_desig s d) (desig_changes s checked.sound d is.t is.channel) st in
      let mid = at + first.size in
      let rest = performs_moved to (mid + 1 + last.size) ops k (omega arith) left in
      variable_follows g b x checked own [] few d is.t is.channel (receive_from r k) (λ v. tt)
      (λ channel. from_received x channel.spot r k) at n ops parts.first
      ((own, refl), (is.u, is.carries, is.receiver, (parts.obj, parts.i, parts.behind, rest)))
      (λ l w lies. numbered_follows l.spot is.t w mid ops lies (channel_is_object g.program.state.forms is.t is.u is.carries) parts.obj parts.room
      (λ i object. received_follows l.spot is.t is.u i r k (mid + 1) parts.i ops is.carries object is.receiver parts.behind rest))
