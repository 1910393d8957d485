-- Before a turn of its scan a process does nothing but that turn.
use Rattle.std.proofs.Common.{◌≡◌, ℕ, ℤ, List, [], Option, sym, subst}
use Rattle.pfc_types.specs.declared.types.TypeId.{TypeId}
use Rattle.pfc_semantics.specs.Programs.{Block}
use Rattle.pfc_semantics.specs.Remainders.{Context, Scan, AwaitsValue, AwaitsLocation, Call, Action, ends, perform, in_names, turn, until, behind_pass}
use Rattle.pfc_semantics.specs.Remainders.{next_pass, write_on, read_on, at_coend, part_from, write_again, go_through, try_guard, scan_on, try_other, begin_sum}
use Rattle.pfc_semantics.specs.Remainders.{add_to, begin_product, multiply_by, compare_with, compare_to, invert, apply, index_into, pass_value, store_at}
use Rattle.pfc_semantics.specs.Remainders.{choose, choose_arm, while_true, until_true, count_from, count_to, show, show_wide, pad, set_count, delay_with}
use Rattle.pfc_semantics.specs.Remainders.{sleep_for, send_on, open_if, offer_value, offer_wait, pass_own, pass_other, read_for, assign_to, input_to}
use Rattle.pfc_semantics.specs.Remainders.{pass_variable, ask_empty, activate_with, enter_with, initial_to, wait_at, signal_at, delay_at, resume_at, send_to}
use Rattle.pfc_semantics.specs.Remainders.{receive_from, receive_into, offer_to, offer_from, offer_into, to_procedure, to_function, to_module, to_requeue}
use Rattle.pfc_semantics.specs.Remainders.{to_process, to_entry}
use Rattle.pfc_types.specs.declared.heads.Formal.{Formal}
use Rattle.pfc_semantics.specs.Rewriting.{Doing, next, going, holding}
use Rattle.pfc_standing_code.specs.Shapes.{Shape}
use Rattle.pfc_standing_code.specs.Settings.{Trial, Setting, of_own, of_turn, of_another}
use Rattle.pfc_standing_code.specs.Effects.{Arm}
use Rattle.pfc_standing_code.specs.Awaits.{TakesValue, TakesLocation, CallsAt}
use Rattle.pfc_standing_code.specs.Following.{Arrived, DoesIn}

abbrev IsNoTurn : Trial → Type 0
IsNoTurn of_own = Unit {0}
IsNoTurn (of_turn scan back) = ⊥
IsNoTurn (of_another attempt) = Unit {0}

module _ (g : Setting) where
  own_no_turn : g.trial ≡ of_own → IsNoTurn g.trial
  own_no_turn own = subst (λ (t : Trial). IsNoTurn t) (sym own) tt

  call_no_turn : (b : Block) (x : Context) (at : ℕ) (ops : List ℤ) (arms : List Arm) (formals : List Formal) (call : Call)
      → CallsAt g b x at ops arms formals call → IsNoTurn g.trial
  call_no_turn b x at ops arms formals (to_procedure scope k) h = own_no_turn h.0.0
  call_no_turn b x at ops arms formals (to_function scope u) h = own_no_turn h.0
  call_no_turn b x at ops arms formals (to_module n scope k) h = own_no_turn h.0.0
  call_no_turn b x at ops arms formals (to_requeue scope) h = own_no_turn h.0.0
  call_no_turn b x at ops arms formals (to_process v k) h = own_no_turn h.0.0
  call_no_turn b x at ops arms formals (to_entry v entry k) h = own_no_turn h.0.0

  mutual
    value_no_turn : (b : Block) (x : Context) (at : ℕ) (ops : List ℤ) (arms : List Arm) (h : Shape) (u : AwaitsValue) → TakesValue g b x at ops arms h u
        → IsNoTurn g.trial
    value_no_turn b x at ops arms h (begin_sum sign rest u) t = value_no_turn b x _ _ _ _ u t.4
    value_no_turn b x at ops arms h (add_to m op rest u) t = value_no_turn b x _ _ _ _ u t.6
    value_no_turn b x at ops arms h (begin_product rest u) t = value_no_turn b x _ _ _ _ u t.4
    value_no_turn b x at ops arms h (multiply_by m op rest u) t = value_no_turn b x _ _ _ _ u t.6
    value_no_turn b x at ops arms h (compare_with r e u) t = value_no_turn b x _ _ _ _ u t.4
    value_no_turn b x at ops arms h (compare_to m r u) t = value_no_turn b x _ _ _ _ u t.5
    value_no_turn b x at ops arms h (invert u) t = value_no_turn b x _ _ _ _ u t.3
    value_no_turn b x at ops arms h (apply f e u) t = value_no_turn b x _ _ _ _ u t.5
    value_no_turn b x at ops arms h (index_into part es ss goal) t = location_no_turn b x _ _ _ _ goal t.13
    value_no_turn b x at ops arms h (pass_value rest args given call) t = call_no_turn b x _ _ _ _ call t.11
    value_no_turn b x at ops arms h (store_at v k) t = own_no_turn t.0.0
    value_no_turn b x at ops arms h (choose m s u k) t = own_no_turn t.0.0
    value_no_turn b x at ops arms h (choose_arm m alternatives k) t = own_no_turn t.0.0
    value_no_turn b x at ops arms h (while_true m e s p k) t = own_no_turn t.0.0
    value_no_turn b x at ops arms h (until_true m ts e p k) t = own_no_turn t.0.0
    value_no_turn b x at ops arms h (count_from m v down e s k) t = own_no_turn t.0.0
    value_no_turn b x at ops arms h (count_to m v a down s k) t = own_no_turn t.0.0
    value_no_turn b x at ops arms h (show s k) t = own_no_turn t.0.0
    value_no_turn b x at ops arms h (show_wide s e k) t = own_no_turn t.0.0
    value_no_turn b x at ops arms h (pad bytes k) t = own_no_turn t.0.0
    value_no_turn b x at ops arms h (set_count v k) t = own_no_turn t.0.0
    value_no_turn b x at ops arms h (delay_with v k) t = own_no_turn t.0.0
    value_no_turn b x at ops arms h (sleep_for k) t = own_no_turn t.0.0
    value_no_turn b x at ops arms h (send_on v k) t = own_no_turn t.0.0
    value_no_turn b x at ops arms h (open_if a rest sel k) t = own_no_turn t.0
    value_no_turn b x at ops arms h (offer_value channel a rest sel k) t = own_no_turn t.0
    value_no_turn b x at ops arms h (offer_wait a rest sel k) t = own_no_turn t.0
    value_no_turn b x at ops arms h (pass_own bar k) t = own_no_turn t.0.0
    value_no_turn b x at ops arms h (pass_other w scan k) t = subst (λ (y : Trial). IsNoTurn y) (sym t.1.1.trial) tt

    location_no_turn : (b : Block) (x : Context) (at : ℕ) (ops : List ℤ) (arms : List Arm) (of : Option TypeId) (goal : AwaitsLocation)
        → TakesLocation g b x at ops arms of goal → IsNoTurn g.trial
    location_no_turn b x at ops arms of (read_for u) t = value_no_turn b x _ _ _ _ u t.4
    location_no_turn b x at ops arms of (assign_to e k) t = own_no_turn t.0.0
    location_no_turn b x at ops arms of (input_to u k) t = own_no_turn t.0.0
    location_no_turn b x at ops arms of (pass_variable rest args given call) t = call_no_turn b x _ _ _ _ call t.9
    location_no_turn b x at ops arms of (ask_empty u) t = own_no_turn t.0
    location_no_turn b x at ops arms of (activate_with formals args k) t = own_no_turn t.0.0
    location_no_turn b x at ops arms of (enter_with entry formals args k) t = own_no_turn t.0.0
    location_no_turn b x at ops arms of (initial_to e k) t = own_no_turn t.0.0
    location_no_turn b x at ops arms of (wait_at k) t = own_no_turn t.0.0
    location_no_turn b x at ops arms of (signal_at k) t = own_no_turn t.0.0
    location_no_turn b x at ops arms of (delay_at rank k) t = own_no_turn t.0.0
    location_no_turn b x at ops arms of (resume_at k) t = own_no_turn t.0.0
    location_no_turn b x at ops arms of (send_to m k) t = own_no_turn t.0.0
    location_no_turn b x at ops arms of (receive_from d k) t = own_no_turn t.0.0
    location_no_turn b x at ops arms of (receive_into channel k) t = own_no_turn t.0.0
    location_no_turn b x at ops arms of (offer_to m a rest sel k) t = own_no_turn t.0
    location_no_turn b x at ops arms of (offer_from d a rest sel k) t = own_no_turn t.0
    location_no_turn b x at ops arms of (offer_into channel a rest sel k) t = own_no_turn t.0

  -- the alternatives are none where the action comes
  abbrev pub AreClearAt : Action → Type 0
  AreClearAt n = (at : ℕ) (ops : List ℤ) (arms : List Arm) → Arrived g at ops arms n → arms ≡ []

  turned : {A : Type 0} (scan : Scan) (back : ℕ) → g.trial ≡ of_turn scan back → IsNoTurn g.trial → A
  turned scan back is h = absurd (subst (λ (t : Trial). IsNoTurn t) is h)

  pub clear_at_turn : (scan : Scan) (back : ℕ) → g.trial ≡ of_turn scan back → (b : Block) (at : ℕ) (ops : List ℤ) (arms : List Arm) (d : Doing)
      → DoesIn g b at ops arms d → AreClearAt (next d)
  clear_at_turn scan back is b at ops arms (going env (ends line)) h = turned scan back is (own_no_turn h.1.0.0)
  clear_at_turn scan back is b at ops arms (going env (perform m ts k)) h = turned scan back is (own_no_turn h.1.0.0)
  clear_at_turn scan back is b at ops arms (going env (in_names inner k)) h = turned scan back is (own_no_turn h.1.0)
  clear_at_turn scan back is b at ops arms (going env (turn m loop k)) h = turned scan back is (own_no_turn h.1.0.0)
  clear_at_turn scan back is b at ops arms (going env (until m ts e p k)) h = turned scan back is (own_no_turn h.1.0.0)
  clear_at_turn scan back is b at ops arms (going env (behind_pass f k)) h = turned scan back is (own_no_turn h.1.0.0)
  clear_at_turn scan back is b at ops arms (going env (next_pass f k)) h = turned scan back is (own_no_turn h.1.0.0)
  clear_at_turn scan back is b at ops arms (going env (write_on line args newline k)) h = turned scan back is (own_no_turn h.1.0.0)
  clear_at_turn scan back is b at ops arms (going env (read_on line args skip k)) h = turned scan back is (own_no_turn h.1.0.0)
  clear_at_turn scan back is b at ops arms (going env (at_coend line k)) h = turned scan back is (own_no_turn h.1.0.0)
  clear_at_turn scan back is b at ops arms (going env (part_from caller line k)) h = turned scan back is (own_no_turn h.1.0.0)
  clear_at_turn scan back is b at ops arms (going env (write_again r k)) h = turned scan back is (own_no_turn h.1.0.0)
  clear_at_turn scan back is b at ops arms (going env (go_through line a rest sel k)) h = turned scan back is (own_no_turn h.1.0)
  clear_at_turn scan back is b at ops arms (going env (try_guard bar k)) h = turned scan back is (own_no_turn h.1.0.0)
  clear_at_turn scan back is b at ops arms (going env (scan_on s k)) h = λ to left more there. there.2.0
  clear_at_turn scan back is b at ops arms (going env (try_other w s k)) h = turned scan back is (subst (λ (y : Trial). IsNoTurn y) (sym h.1.1.2.0.trial) tt)
  clear_at_turn scan back is b at ops arms (holding x v u) h = turned scan back is (value_no_turn b x at h.1 arms h.0 u h.5)
