-- What is awaited is taken as before, and what is called is called.
use Rattle.std.proofs.Common.{ℕ, suc, ◌+◌, ℤ, Bool, List, [], ◌∷◌, ◌++◌, length, Option, Some}
use Rattle.pfc_tree.specs.trees.Stmts.{while_do, repeat_until}
use Rattle.pfc_types.specs.rules.Expressions.{Env}
use Rattle.pfc_types.specs.rules.Statements.{scopes_in}
use Rattle.pfc_types.specs.declared.types.TypeId.{TypeId}
use Rattle.pfc_types.specs.declared.heads.Formal.{Formal}
use Rattle.pfc_semantics.specs.Programs.{Block}
use Rattle.pfc_semantics.specs.Remainders.{Context, Remainder, AwaitsValue, AwaitsLocation, Call, begin_sum, add_to, begin_product, multiply_by, compare_with}
use Rattle.pfc_semantics.specs.Remainders.{compare_to, invert, apply, index_into, pass_value, store_at, choose, choose_arm, while_true, until_true, count_from}
use Rattle.pfc_semantics.specs.Remainders.{count_to, show, show_wide, pad, set_count, delay_with, sleep_for, send_on, open_if, offer_value, offer_wait}
use Rattle.pfc_semantics.specs.Remainders.{pass_own, pass_other, read_for, assign_to, input_to, pass_variable, ask_empty, activate_with, enter_with, initial_to}
use Rattle.pfc_semantics.specs.Remainders.{wait_at, signal_at, delay_at, resume_at, send_to, receive_from, receive_into, offer_to, offer_from, offer_into}
use Rattle.pfc_semantics.specs.Remainders.{to_procedure, to_function, to_module, to_requeue, to_process, to_entry}
use Rattle.pfc_translation.specs.Sites.{Site}
use Rattle.pfc_standing_code.specs.Shapes.{Shape, a_number}
use Rattle.pfc_standing_code.specs.Settings.{View, Setting, of_own, site_of, same_block}
use Rattle.pfc_standing_code.specs.Effects.{Arm}
use Rattle.pfc_standing_code.specs.Typed.{unlined}
use Rattle.pfc_standing_code.specs.Performs.{Performs}
use Rattle.pfc_standing_code.specs.Awaits.{PadAt, of_number, of_string, TakesValue, TakesLocation, CallsAt}
use Rattle.pfc_standing_code.proofs.Checked.{asked_of}
use Rattle.pfc_kept_code.specs.Kept.{AgreeAt, Among, Agree, InRemainder, InValue, InLocation, InCall}
use Rattle.pfc_kept_code.proofs.Seen.{stands_seen, stmt_then_seen, arms_seen, object_then_seen}
use Rattle.pfc_kept_code.proofs.Words.{lies_kept, simple_kept, object_kept, held_kept}
use Rattle.pfc_kept_code.proofs.Selects.{comm_kept, arm_kept}
use Rattle.pfc_kept_code.proofs.Remainders.{not_another, performs_kept, anywhere_kept}

pad_kept : (g : Setting) (view : View) (line at : ℕ) (ops : List ℤ) (bytes : List ℕ) (P Q : List ℤ → Type 0) → ((below : List ℤ) → P below → Q below)
    → PadAt g line at ops bytes P → PadAt (record g { view = view }) line at ops bytes Q
pad_kept g view line at ops bytes P Q f (of_number t n below e is there h) = of_number t n below e is there (f below h)
pad_kept g view line at ops bytes P Q f (of_string i is there h) = of_string i is there (f ops h)

module _ (g : Setting) (view : View) (start : Block) (names : Env → Bool) (agree : Agree (record g { trial = of_own }) view start names) where
  abbrev before : Setting
  before = record g { trial = of_own }

  abbrev later : Setting
  later = record g { view = view; trial = of_own }

  module _ (x : Context) (named : Among names x.env) where
    abbrev s : Site
    s = site_of g start x

    agreed : AgreeAt (unlined (site_of g start x)) g.view view
    agreed = agree start x.env same_block named

    left : (k : Remainder) (at : ℕ) (ops : List ℤ) → InRemainder names k → Performs before start x.env at ops [] k → Performs later start x.env at ops [] k
    left k at ops inside h = performs_kept g view start names agree g.accepts g.meetings k start same_block x.env at ops []
        (asked_of (Among names) x.env k named) inside h

    mutual
      pub values_kept : (u : AwaitsValue) (at : ℕ) (ops : List ℤ) (arms : List Arm) (h : Shape) → InValue names u → TakesValue before start x at ops arms h u
          → TakesValue later start x at ops arms h u
      values_kept (begin_sum sign rest u) at ops arms h inside q =
          (q.0, q.1, q.2, stands_seen before view at q.2 (suc (length ops)) _ q.3, values_kept u _ ops arms a_number inside q.4)
      values_kept (add_to m op rest u) at ops arms h inside q =
          (q.0, q.1, q.2, q.3, q.4, stands_seen before view at q.4 (suc (length ops)) _ q.5, values_kept u _ q.1 arms a_number inside q.6)
      values_kept (begin_product rest u) at ops arms h inside q =
          (q.0, q.1, q.2, stands_seen before view at q.2 (suc (length ops)) _ q.3, values_kept u _ ops arms a_number inside q.4)
      values_kept (multiply_by m op rest u) at ops arms h inside q =
          (q.0, q.1, q.2, q.3, q.4, stands_seen before view at q.4 (suc (length ops)) _ q.5, values_kept u _ q.1 arms a_number inside q.6)
      values_kept (compare_with r t u) at ops arms h inside q =
          (q.0, q.1, q.2, stands_seen before view at q.2 (suc (length ops)) _ q.3, values_kept u _ ops arms a_number inside q.4)
      values_kept (compare_to m r u) at ops arms h inside q = (q.0, q.1, q.2, q.3, q.4, values_kept u (at + 1) q.1 arms a_number inside q.5)
      values_kept (invert u) at ops arms h inside q = (q.0, q.1, q.2, values_kept u (at + 1) ops arms a_number inside q.3)
      values_kept (apply f t u) at ops arms h inside q =
          (q.0, q.1, q.2, q.3, stands_seen before view at q.3 (suc (length ops)) _ q.4, values_kept u _ ops arms a_number inside q.5)
      values_kept (index_into part es ss goal) at ops arms h inside q = (
        q.0,
        q.1,
        q.2,
        q.3,
        q.4,
        lies_kept before view s agreed part.spot part.t q.1 q.5,
        q.6,
        q.7,
        q.8,
        q.9,
        stands_seen before view at q.9 (suc (length ops)) _ q.10,
        q.11,
        stands_seen before view _ q.11 (suc (length q.2)) _ q.12,
        locations_kept goal _ q.2 arms q.3 inside q.13,
        q.14,
        q.15,
      )
      values_kept (pass_value rest args given call) at ops arms h inside q = (
        q.0,
        q.1,
        q.2,
        q.3,
        q.4,
        q.5,
        q.6,
        held_kept before view s agreed q.7,
        q.8,
        q.9,
        stands_seen before view at q.9 _ _ q.10,
        calls_kept call _ q.3 arms (q.0 ++ q.1 ∷ rest) inside q.11,
        q.12,
        q.13,
      )
      values_kept (store_at v k) at ops arms h inside p =
          let q = p.1 in
          (p.0, (q.0, q.1, q.2, q.3, q.4, lies_kept before view s agreed v (Some q.0) q.1 q.5, q.6, left k (at + 1) q.2 inside q.7, q.8))
      values_kept (choose m t u k) at ops arms h inside p =
          let q = p.1 in (
            p.0,
            (
              q.0,
              q.1,
              q.2,
              q.3,
              stmt_then_seen before view s (at + 1) (length ops) m t _ _ (λ end rest. left k end ops inside rest) q.4,
              stmt_then_seen before view s q.1 (length ops) (m + scopes_in t) u _ _ (λ end rest. left k end ops inside rest) q.5,
            ),
          )
      values_kept (choose_arm m alternatives k) at ops arms h inside p =
          let q = p.1 in
          (p.0, (q.0, q.1, q.2, arms_seen before view s at q.1 _ q.2 m 0 (length ops) alternatives q.3, left k _ ops inside q.4))
      values_kept (while_true m e t r k) at ops arms h inside p =
          let q = p.1 in
          (p.0, (q.0, q.1, q.2, q.3, q.4, stmt_then_seen before view _ q.3 (length ops) m (while_do e t r) _ _ (λ end rest. left k end ops inside rest) q.5))
      values_kept (until_true m ts e r k) at ops arms h inside p =
          let q = p.1 in (
            p.0,
            (
              q.0,
              q.1,
              q.2,
              q.3,
              q.4,
              stmt_then_seen before view _ q.3 (length ops) m (repeat_until ts e r) _ _
                  (λ end rest. left k end ops inside rest) q.5,
            ),
          )
      values_kept (count_from m v down e t k) at ops arms h inside p =
          let q = p.1 in (
            p.0,
            (
              q.0,
              q.1,
              q.2,
              q.3,
              simple_kept before view s agreed v q.1 q.4,
              q.5,
              q.6,
              q.7,
              stands_seen before view at q.7 (suc (length ops)) _ q.8,
              left k _ q.2 inside q.9,
              q.10,
            ),
          )
      values_kept (count_to m v a down t k) at ops arms h inside p =
          let q = p.1 in (
            p.0,
            (
              q.0,
              q.1,
              q.2,
              q.3,
              simple_kept before view s agreed v q.1 q.4,
              q.5,
              q.6,
              stands_seen before view at q.6 (suc (length ops)) _ q.7,
              left k _ q.2 inside q.8,
              q.9,
            ),
          )
      values_kept (show t k) at ops arms h inside p = let q = p.1 in (p.0, (q.0, q.1, left k (at + 1) ops inside q.2))
      values_kept (show_wide t e k) at ops arms h inside p =
          let q = p.1 in (p.0, (q.0, q.1, q.2, stands_seen before view at q.2 (suc (length ops)) _ q.3, left k _ ops inside q.4))
      values_kept (pad bytes k) at ops arms h inside p =
          let q = p.1 in (p.0, (q.0, pad_kept before view x.line at ops bytes _ _ (λ below rest. left k (at + 1) below inside rest) q.1))
      values_kept (set_count v k) at ops arms h inside p =
          let q = p.1 in (p.0, (q.0, q.1, q.2, q.3, object_kept before view s agreed v _ q.1 q.4, q.5, left k (at + 1) q.2 inside q.6))
      values_kept (delay_with v k) at ops arms h inside p =
          let q = p.1 in (p.0, (q.0, q.1, q.2, q.3, object_kept before view s agreed v _ q.1 q.4, q.5, left k (at + 1) q.2 inside q.6))
      values_kept (sleep_for k) at ops arms h inside p = let q = p.1 in (p.0, (q.0, q.1, left k (at + 1) ops inside q.2))
      values_kept (send_on v k) at ops arms h inside p =
          let q = p.1 in
          (p.0, (q.0, q.1, q.2, q.3, q.4, q.5, q.6, q.7, object_kept before view s agreed v q.0 q.2 q.8, q.9, left k (at + 1) q.3 inside q.10))
      values_kept (open_if a rest sel k) at ops arms h inside p =
          let q = p.1 in (
            p.0,
            (
              q.0,
              q.1,
              q.2,
              q.3,
              comm_kept before view s agreed _ _ (λ end rest. left k end ops inside rest) x (at + 1) (length ops) (length ops) a rest sel arms _ q.4,
            ),
          )
      values_kept (offer_value channel a rest sel k) at ops arms h inside p =
          let q = p.1 in (
            p.0,
            (
              q.0,
              q.1,
              q.2,
              q.3,
              q.4,
              q.5,
              q.6,
              q.7,
              object_kept before view s agreed channel q.0 q.2 q.8,
              arm_kept before view s agreed _ _ (λ end rest. left k end q.3 inside rest) x at (length q.3) a rest sel arms _ q.9,
            ),
          )
      values_kept (offer_wait a rest sel k) at ops arms h inside p =
          let q = p.1 in
          (p.0, (q.0, arm_kept before view s agreed _ _ (λ end rest. left k end ops inside rest) x at (length ops) a rest sel arms _ q.1))
      values_kept (pass_own bar k) at ops arms h inside p =
          let q = p.1 in (
            p.0,
            (
              q.0,
              q.1,
              q.2,
              anywhere_kept g view start names agree g.accepts g.meetings k start same_block
                  (at + 1) ops inside.0 inside.1 q.3,
            ),
          )
      values_kept (pass_other w scan k) at ops arms h inside p = let q = p.1 in not_another q.1.attempt q.1.trial

      pub locations_kept : (goal : AwaitsLocation) (at : ℕ) (ops : List ℤ) (arms : List Arm) (t : Option TypeId) → InLocation names goal
          → TakesLocation before start x at ops arms t goal → TakesLocation later start x at ops arms t goal
      locations_kept (read_for u) at ops arms t inside q = (q.0, q.1, q.2, q.3, values_kept u (at + 1) ops arms _ inside q.4)
      locations_kept (assign_to e k) at ops arms t inside p =
          let q = p.1 in (p.0, (q.0, q.1, q.2, q.3, q.4, stands_seen before view at q.4 (suc (length ops)) _ q.5, left k _ ops inside q.6, q.7))
      locations_kept (input_to u k) at ops arms t inside p = let q = p.1 in (p.0, (q.0, q.1, q.2, q.3, left k (at + 1) ops inside q.4))
      locations_kept (pass_variable rest args given call) at ops arms t inside q = (
        q.0,
        q.1,
        q.2,
        q.3,
        q.4,
        held_kept before view s agreed q.5,
        q.6,
        q.7,
        stands_seen before view at q.7 (suc (length ops)) _ q.8,
        calls_kept call _ q.2 arms (q.0 ++ q.1 ∷ rest) inside q.9,
        q.10,
      )
      locations_kept (ask_empty u) at ops arms t inside p =
          let q = p.1 in (p.0, (q.0, q.1, q.2, q.3, values_kept u (at + 2) ops arms a_number inside q.4))
      locations_kept (activate_with formals args k) at ops arms t inside p =
          let q = p.1 in
          (p.0, (q.0, q.1, q.2, q.3, q.4, q.5, object_then_seen before view s at ops _ _ _ (λ end rest. left k end ops inside rest) q.6, q.7, q.8))
      locations_kept (enter_with entry formals args k) at ops arms t inside p =
          let q = p.1 in
          (p.0, (q.0, q.1, q.2, q.3, q.4, q.5, object_then_seen before view s at ops _ _ _ (λ end rest. left k end ops inside rest) q.6, q.7))
      locations_kept (initial_to e k) at ops arms t inside p =
          let q = p.1 in (p.0, (q.0, q.1, object_then_seen before view s at ops _ _ _ (λ end rest. left k end ops inside rest) q.2))
      locations_kept (wait_at k) at ops arms t inside p =
          let q = p.1 in (p.0, (q.0, object_then_seen before view s at ops _ _ _ (λ end rest. left k end ops inside rest) q.1))
      locations_kept (signal_at k) at ops arms t inside p =
          let q = p.1 in (p.0, (q.0, object_then_seen before view s at ops _ _ _ (λ end rest. left k end ops inside rest) q.1))
      locations_kept (delay_at rank k) at ops arms t inside p =
          let q = p.1 in (p.0, (q.0, q.1, object_then_seen before view s at ops _ _ _ (λ end rest. left k end ops inside rest) q.2))
      locations_kept (resume_at k) at ops arms t inside p =
          let q = p.1 in (p.0, (q.0, object_then_seen before view s at ops _ _ _ (λ end rest. left k end ops inside rest) q.1))
      locations_kept (send_to m k) at ops arms t inside p =
          let q = p.1 in (p.0, (q.0, q.1, q.2, object_then_seen before view s at ops _ _ _ (λ end rest. left k end ops inside rest) q.3))
      locations_kept (receive_from d k) at ops arms t inside p =
          let q = p.1 in (p.0, (q.0, q.1, q.2, object_then_seen before view s at ops _ _ _ (λ end rest. left k end ops inside rest) q.3))
      locations_kept (receive_into channel k) at ops arms t inside p =
          let q = p.1 in
          (p.0, (q.0, q.1, q.2, q.3, q.4, q.5, q.6, q.7, object_kept before view s agreed channel q.0 q.2 q.8, q.9, left k (at + 1) q.3 inside q.10))
      locations_kept (offer_to m a rest sel k) at ops arms t inside p =
          let q = p.1 in (
            p.0,
            (
              q.0,
              q.1,
              q.2,
              q.3,
              q.4,
              comm_kept before view s agreed _ _ (λ end rest. left k end ops inside rest) x (at + 1) (suc (length ops)) (length ops) a rest sel arms _ q.5,
            ),
          )
      locations_kept (offer_from d a rest sel k) at ops arms t inside p =
          let q = p.1 in (
            p.0,
            (
              q.0,
              q.1,
              q.2,
              q.3,
              q.4,
              comm_kept before view s agreed _ _ (λ end rest. left k end ops inside rest) x (at + 1) (suc (length ops)) (length ops) a rest sel arms _ q.5,
            ),
          )
      locations_kept (offer_into channel a rest sel k) at ops arms t inside p =
          let q = p.1 in (
            p.0,
            (
              q.0,
              q.1,
              q.2,
              q.3,
              q.4,
              q.5,
              q.6,
              q.7,
              object_kept before view s agreed channel q.0 q.2 q.8,
              arm_kept before view s agreed _ _ (λ end rest. left k end q.3 inside rest) x at (length q.3) a rest sel arms _ q.9,
            ),
          )

      pub calls_kept : (call : Call) (at : ℕ) (ops : List ℤ) (arms : List Arm) (formals : List Formal) → InCall names call
          → CallsAt before start x at ops arms formals call → CallsAt later start x at ops arms formals call
      calls_kept (to_procedure scope k) at ops arms formals inside p =
          let q = p.1 in (p.0, (q.0, q.1, q.2, q.3, left k (at + 1) ops inside q.4))
      calls_kept (to_function scope u) at ops arms formals inside p =
          let q = p.1 in (p.0, (q.0, q.1, q.2, q.3, q.4, values_kept u (at + 1) ops arms a_number inside q.5))
      calls_kept (to_module n scope k) at ops arms formals inside p = let q = p.1 in (p.0, (q.0, q.1, q.2, left k (at + 1) ops inside q.3))
      calls_kept (to_requeue scope) at ops arms formals inside p = p
      calls_kept (to_process v k) at ops arms formals inside p =
          let q = p.1 in (
            p.0,
            (q.0, q.1, q.2, q.3, q.4, q.5, q.6, q.7, q.8, object_kept before view s agreed v q.0 q.2 q.9, q.10, left k (at + 1) q.3 inside q.11),
          )
      calls_kept (to_entry v entry k) at ops arms formals inside p =
          let q = p.1 in
          (p.0, (q.0, q.1, q.2, q.3, q.4, q.5, q.6, q.7, object_kept before view s agreed v q.0 q.2 q.8, q.9, left k (at + 1) q.3 inside q.10))
