-- The address of a variable meets what waits for it.
use Rattle.std.proofs.Common.{◌≡◌, ℕ, suc, ◌+◌, ◌≤◌, ℤ, true, List, [], ◌∷◌, ◌++◌, length, Option, Some, refl, sym, ap, subst, arith, append_assoc}
use Rattle.pfc_code.specs.declared.instructions.Instr.TheVariants.{NEW, SINI, SWAIT, SSIG, ECALL, RESUME}
use Rattle.pfc_types.specs.Types.{semaphore, condition}
use Rattle.pfc_types.specs.Scopes.{Level}
use Rattle.pfc_types.specs.Blocks.{process_at}
use Rattle.pfc_types.specs.declared.types.TypeId.{TypeId}
use Rattle.pfc_types.specs.declared.heads.Formal.{Formal}
use Rattle.pfc_types.specs.declared.view.Around.{Around}
use Rattle.pfc_semantics.specs.Displays.{Spot, TypedSpot}
use Rattle.pfc_semantics.specs.Programs.{Block, block_number}
use Rattle.pfc_semantics.specs.Remainders.{Context, AwaitsLocation, Action, by_reference, to_process, to_entry, read_for, assign_to, input_to, pass_variable}
use Rattle.pfc_semantics.specs.Remainders.{ask_empty, activate_with, enter_with, initial_to, wait_at, signal_at, delay_at, resume_at, send_to, receive_from}
use Rattle.pfc_semantics.specs.Remainders.{receive_into, offer_to, offer_from, offer_into}
use Rattle.pfc_semantics.specs.Rewriting.{from_location}
use Rattle.pfc_translation.specs.Sites.{Site}
use Rattle.pfc_translation.specs.Codes.{Code, ◌⨾◌, one}
use Rattle.pfc_translation.specs.Expressions.{expr_code, args_code}
use Rattle.pfc_translation.specs.Calls.{formals_cells}
use Rattle.pfc_standing_code.specs.Shapes.{a_number, shape_of, shape_cells, is_object_type}
use Rattle.pfc_standing_code.proofs.ValueTypes.{awaited_value}
use Rattle.pfc_standing_code.specs.Settings.{Setting, MayRead, site_of}
use Rattle.pfc_standing_code.specs.Effects.{Arm}
use Rattle.pfc_standing_code.specs.Words.{IsWord, IsObject, IsChecked, none_held, one_more, LendsAt}
use Rattle.pfc_standing_code.proofs.Lends.{lends_variable}
use Rattle.pfc_standing_code.specs.Performs.{into_variable, Performs}
use Rattle.pfc_standing_code.specs.Awaits.{ObjectThen, TakesLocation, CallsAt}
use Rattle.pfc_standing_code.specs.Following.{Follows, arrives}
use Rattle.pfc_standing_code.proofs.Sizes.{sized_args}
use Rattle.pfc_following_expressions.proofs.Glue.{room_for, front, back, lone}
use Rattle.pfc_following_expressions.proofs.Held.{held_grown, args_change}
use Rattle.pfc_following_expressions.proofs.Expressions.{env_in, value_moved, object_follows}
use Rattle.pfc_following_expressions.proofs.Anywhere.{arguments_follow}
use Rattle.pfc_following_statements.proofs.Procedures.{count_follows, rank_follows}
use Rattle.pfc_following_statements.proofs.Simple.{channel_is_object, process_is_object, performs_moved, stored_follows, sent_follows, received_follows}
use Rattle.pfc_following_source.proofs.selects.Arms.{target_armed, message_follows, receiver_follows}
use Rattle.pfc_following_source.proofs.selects.Alternatives.{all_follow}

module _ (g : Setting) (b : Block) (names : List Level) (around : Around) (checked : IsChecked g b (env_in g names around)) (line : ℕ) where
  abbrev x : Context
  x = record { env = env_in g names around; line = line }

  abbrev s : Site
  s = site_of g b x

  none : 0 ≤ g.arms
  none = omega arith

  cleared : {n : Action} (at : ℕ) (ops : List ℤ) (arms : List Arm) → arms ≡ [] → Follows g n at ops [] → Follows g n at ops arms
  cleared {n} at ops arms e h = subst (λ (y : List Arm). Follows g n at ops y) (sym e) h

  -- the number of an object takes the place of its address, before code that is given
  object_then :
      {n : Action} (l : Spot) (t : Option TypeId) (w : ℤ) (at : ℕ) (ops : List ℤ) (code : Code) (behind : ℕ → Type 0)
      → IsWord g.view s l t w → is_object_type g.program.state.forms t ≡ true → ObjectThen g s at ops code behind
      → ((i : ℤ) → IsObject g s l t i → Follows g n (at + 1) (i ∷ ops) []) → Follows g n at (w ∷ ops) []
  object_then l t w at ops code behind lies object st on =
      object_follows g b names around checked line [] none l t w at ops lies object st.0 (room_for g st.2) on

  typed : (l : Spot) (t u : Option TypeId) (w : ℤ) → t ≡ u → IsWord g.view s l t w → IsWord g.view s l u w
  typed l t u w e lies = subst (λ (y : Option TypeId). IsWord g.view s l y w) e lies

  pub location_follows :
      (goal : AwaitsLocation) (t : Option TypeId) (l : TypedSpot) (w : ℤ) (at : ℕ) (ops : List ℤ) (arms : List Arm)
      → length arms ≤ g.arms → suc (length ops) ≤ g.room → IsWord g.view s l.spot t w → MayRead g l.spot.scope
      → TakesLocation g b x at ops arms t goal → LendsAt s l.spot goal → Follows g (from_location x goal l) at (w ∷ ops) arms
  location_follows (read_for u) t l w at ops arms few room lies may h lends =
      arrives at (w ∷ ops) arms (
        b,
        checked,
        (
          h.0,
          w,
          ops,
          refl,
          typed l.spot t (Some h.0) w h.1 lies,
          h.2,
          h.3,
          h.4,
          awaited_value g b (record { env = env_in g names around; line = line })
              (at + 1) ops arms h.0 u h.4,
          may,
        ),
      )
  location_follows (assign_to e k) t l w at ops arms few room lies may h lends =
      let p = h.1 in
      cleared at (w ∷ ops) arms h.0.1
      (stored_follows g b names around checked none h.0.0 line l.spot p.0 e k w at p.4 ops (typed l.spot t (Some p.0) w p.1 lies) p.2 p.3 p.7 p.5 p.6)
  location_follows (input_to u k) t l w at ops arms few room lies may h lends =
      let p = h.1 in
      cleared at (w ∷ ops) arms h.0.1 (arrives at (w ∷ ops) []
      (b, checked, ((h.0.0, refl), (w, ops, refl, (p.0, p.2, typed l.spot t (Some p.0) w p.1 lies), p.3, p.4))))
  location_follows (pass_variable rest args given call) t l w at ops arms few room lies may h lends =
      let before = h.0 in
      let f = h.1 in
      let below = h.2 in
      let code = args_code s rest args in
      let calls = subst (λ (fs : List Formal). CallsAt g b x (at + code.size) below arms fs call) (sym (append_assoc before (f ∷ []) rest)) h.9 in
      arguments_follow g b x checked arms few args rest h.6 (before ++ f ∷ []) (given ++ by_reference l.spot ∷ []) call at h.7 (w ∷ ops) below
      (one_more before given ops below f (by_reference l.spot) (w ∷ []) h.5 (w, h.3, typed l.spot t f.t w (sym h.4) lies, refl)) h.8 calls
      (lends_variable s given l.spot rest args call lends h.10)
  location_follows (ask_empty u) t l w at ops arms few room lies may h lends =
      let p = h.1 in
      let lies_there = typed l.spot t (Some condition) w p.0 lies in
      object_follows g b names around checked line arms few l.spot (Some condition) w at ops lies_there refl p.1 p.2
      (λ i object. arrives (at + 1) (i ∷ ops) arms (
        b,
        checked,
        (
          h.0,
          (
            i,
            ops,
            refl,
            object,
            p.3,
            value_moved g b names around checked line arms few (at + 2) (at + 1 + 1) ops a_number u
                (omega arith) p.4,
          ),
        ),
      ))
  location_follows (activate_with formals args k) t l w at ops arms few room lies may h lends =
      let p = h.1 in
      let inner = args_code s formals args in
      let i = NEW (block_number g.program (process_at g.program.state.blocks p.0).scope) in
      let z = formals_cells g.program.state.forms formals in
      let there = p.6 in
      let st = there.2 in
      let last = back g inner (one s i) (z + suc (length ops)) (sized_args s formals args)
      (held_grown g.program inner z (args_change s checked.sound formals args p.7) (at + 1) there.1 (suc (length ops))) st in
      let after = performs_moved g b names around checked none h.0.0 line (at + 1 + (inner.size + 1)) (at + 1 + inner.size + 1) ops k (omega arith) there.3 in
      cleared at (w ∷ ops) arms h.0.1
      (object_then l.spot (Some p.1) w at ops (inner ⨾ one s i) (λ end. Performs g b (env_in g names around) end ops [] k)
      (typed l.spot t (Some p.1) w p.2 lies)
      (process_is_object s p.0 l.spot (Some p.1) p.3) there
      (λ j object. arguments_follow g b x checked [] none args formals p.7 [] [] (to_process l.spot k) (at + 1) there.1 (j ∷ ops) (j ∷ ops)
      (none_held (j ∷ ops))
      (front g inner (one s i) st) ((h.0.0, refl), (Some p.1, p.0, j, ops, p.3, p.4, p.5, p.8, refl, object, lone g s (λ at n. i) last, after)) tt))
  location_follows (enter_with entry formals args k) t l w at ops arms few room lies may h lends =
      let p = h.1 in
      let inner = args_code s formals args in
      let z = formals_cells g.program.state.forms formals in
      let i = ECALL entry z in
      let there = p.6 in
      let st = there.2 in
      let last = back g inner (one s i) (z + suc (length ops)) (sized_args s formals args)
      (held_grown g.program inner z (args_change s checked.sound formals args p.7) (at + 1) there.1 (suc (length ops))) st in
      let after = performs_moved g b names around checked none h.0.0 line (at + 1 + (inner.size + 1)) (at + 1 + inner.size + 1) ops k (omega arith) there.3 in
      cleared at (w ∷ ops) arms h.0.1
      (object_then l.spot (Some p.1) w at ops (inner ⨾ one s i) (λ end. Performs g b (env_in g names around) end ops [] k)
      (typed l.spot t (Some p.1) w p.2 lies)
      (process_is_object s p.0 l.spot (Some p.1) p.3) there
      (λ j object. arguments_follow g b x checked [] none args formals p.7 [] [] (to_entry l.spot entry k) (at + 1) there.1 (j ∷ ops) (j ∷ ops)
      (none_held (j ∷ ops)) (front g inner (one s i) st)
      ((h.0.0, refl), (Some p.1, p.0, j, ops, p.3, p.4, p.5, refl, object, lone g s (λ at n. i) last, after)) tt))
  location_follows (initial_to e k) t l w at ops arms few room lies may h lends =
      let p = h.1 in
      cleared at (w ∷ ops) arms h.0.1
      (object_then l.spot (Some semaphore) w at ops (expr_code s e ⨾ one s SINI) (λ end. Performs g b (env_in g names around) end ops [] k)
      (typed l.spot t (Some semaphore) w p.0 lies) refl p.2
      (λ i object. count_follows g b names around checked none h.0.0 line l.spot e k (at + 1) p.2.1 i ops p.1 object p.2.2 p.2.3))
  location_follows (wait_at k) t l w at ops arms few room lies may h lends =
      let p = h.1 in
      cleared at (w ∷ ops) arms h.0.1
      (object_then l.spot (Some semaphore) w at ops (one s SWAIT) (λ end. Performs g b (env_in g names around) end ops [] k)
      (typed l.spot t (Some semaphore) w p.0 lies) refl p.1
      (λ i object. arrives (at + 1) (i ∷ ops) [] (b, checked, ((h.0.0, refl), (i, ops, refl, object, lone g s (λ at n. SWAIT) p.1.2, p.1.3)))))
  location_follows (signal_at k) t l w at ops arms few room lies may h lends =
      let p = h.1 in
      cleared at (w ∷ ops) arms h.0.1
      (object_then l.spot (Some semaphore) w at ops (one s SSIG) (λ end. Performs g b (env_in g names around) end ops [] k)
      (typed l.spot t (Some semaphore) w p.0 lies) refl p.1
      (λ i object. arrives (at + 1) (i ∷ ops) [] (b, checked, ((h.0.0, refl), (i, ops, refl, object, lone g s (λ at n. SSIG) p.1.2, p.1.3)))))
  location_follows (delay_at rank k) t l w at ops arms few room lies may h lends =
      let p = h.1 in
      cleared at (w ∷ ops) arms h.0.1
      (object_then l.spot (Some condition) w at ops _ (λ end. Performs g b (env_in g names around) end ops [] k)
      (typed l.spot t (Some condition) w p.0 lies) refl p.2
      (λ i object. rank_follows g b names around checked none h.0.0 line l.spot rank k (at + 1) p.2.1 i ops p.1 object p.2.2 p.2.3))
  location_follows (resume_at k) t l w at ops arms few room lies may h lends =
      let p = h.1 in
      cleared at (w ∷ ops) arms h.0.1
      (object_then l.spot (Some condition) w at ops (one s RESUME) (λ end. Performs g b (env_in g names around) end ops [] k)
      (typed l.spot t (Some condition) w p.0 lies) refl p.1
      (λ i object. arrives (at + 1) (i ∷ ops) [] (b, checked, ((h.0.0, refl), (i, ops, refl, object, lone g s (λ at n. RESUME) p.1.2, p.1.3)))))
  location_follows (send_to m k) t l w at ops arms few room lies may h lends =
      let p = h.1 in
      cleared at (w ∷ ops) arms h.0.1
      (object_then l.spot t w at ops _ (λ end. Performs g b (env_in g names around) end ops [] k) lies (channel_is_object g.program.state.forms t p.0 p.1) p.3
      (λ i object. sent_follows g b names around checked none h.0.0 line l.spot t p.0 i m k (at + 1) p.3.1 ops p.1 object p.2 p.3.2 p.3.3))
  location_follows (receive_from d k) t l w at ops arms few room lies may h lends =
      let p = h.1 in
      cleared at (w ∷ ops) arms h.0.1
      (object_then l.spot t w at ops _ (λ end. Performs g b (env_in g names around) end ops [] k) lies (channel_is_object g.program.state.forms t p.0 p.1) p.3
      (λ i object. received_follows g b names around checked none h.0.0 line l.spot t p.0 i d k (at + 1) p.3.1 ops p.1 object p.2 p.3.2 p.3.3))
  location_follows (receive_into channel k) t l w at ops arms few room lies may h lends =
      let p = h.1 in
      let z = shape_cells g.program.state.forms (shape_of p.1) in
      let here = typed l.spot t (Some p.1) w p.4 lies in
      cleared at (w ∷ ops) arms h.0.1
      (arrives at (w ∷ ops) [] (
        b,
        checked,
        (
          (h.0.0, refl),
          (
            (refl, refl),
            (
              z,
              w ∷ p.2 ∷ [],
              p.3,
              ap (λ (y : List ℤ). w ∷ y) p.7,
              into_variable p.0 p.1 p.2 w l.spot p.6 p.8 p.5 here refl refl,
              p.9,
              p.10,
            ),
          ),
        ),
      ))
  location_follows (offer_to m a rest sel k) t l w at ops arms few room lies may h lends =
      let p = h.1 in
      let c = p.5 in
      let inner : suc (length ops) ≤ g.room = room_for g c.stands in
      object_follows g b names around checked line arms few l.spot t w at ops lies (channel_is_object g.program.state.forms t p.0 p.1) p.3 inner
      (λ i object. message_follows g b names around checked h.0 line k l.spot t p.0 i m a rest sel (at + 1) ops arms
      (all_follow g b names around checked h.0 line k rest) p.4 p.1 object p.2 c)
  location_follows (offer_from d a rest sel k) t l w at ops arms few room lies may h lends =
      let p = h.1 in
      let c = p.5 in
      let inner : suc (length ops) ≤ g.room = room_for g c.stands in
      object_follows g b names around checked line arms few l.spot t w at ops lies (channel_is_object g.program.state.forms t p.0 p.1) p.3 inner
      (λ i object. receiver_follows g b names around checked h.0 line k l.spot t p.0 i d a rest sel (at + 1) ops arms
      (all_follow g b names around checked h.0 line k rest) p.4 p.1 object p.2 c)
  location_follows (offer_into channel a rest sel k) t l w at ops arms few room lies may h lends =
      let p = h.1 in
      let below = p.3 in
      let held = ap (λ (y : List ℤ). length y) p.7 in
      let left : length below ≤ g.room = omega (arith, held) in
      subst (λ (y : List ℤ). Follows g (from_location x (offer_into channel a rest sel k) l) at (w ∷ y) arms) (sym p.7)
      (target_armed g b names around checked h.0 line k channel p.0 p.1 p.2 w l.spot a rest sel at below arms
      (all_follow g b names around checked h.0 line k rest) p.5 p.6 p.8 (typed l.spot t (Some p.1) w p.4 lies) left p.9)
