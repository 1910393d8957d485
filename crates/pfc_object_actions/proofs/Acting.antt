-- What actions come to where a test of theirs is decided.
use Rattle.std.proofs.Common.{◌≡◌, ℕ, Bool, true, false, List, [], drop, Ok, Err, sym, ap, ap₂, ◌∙◌}
use Rattle.std.specs.Prelude.{ℤ, if◌then◌else◌}
use Rattle.pfc_base.specs.declared.faults.RunFault.TheVariants.{Count}
use Rattle.pfc_monitor.specs.Guards.{Guards}
use Rattle.pfc_state.specs.declared.waits.Why.TheVariants.{Condition}
use Rattle.pfc_stacks.specs.Effects.{passed}
use Rattle.pfc_stacks.specs.Stacks.{Stacks, operand, operands_of}
use Rattle.pfc_world.specs.Holders.{Held, held_in, standing}
use Rattle.pfc_world.specs.Monitors.{delayed}
use Rattle.pfc_world.specs.Semaphores.{Counted, is_overfull, signalled}
use Rattle.pfc_world.specs.Tables.{Table}
use Rattle.pfc_world.specs.Transitions.{rested, blocked}
use Rattle.pfc_machines.specs.declared.machine.Machine.{Machine}
use Rattle.pfc_machines.specs.Actions.{at_rest, Effect}
use Rattle.pfc_machines.specs.Quiet.{left_by}
use Rattle.pfc_object_actions.specs.Conditions.{monitors_held, with_monitors, monitor_of, is_inside, delays}
use Rattle.pfc_object_actions.specs.Objects.{object_at}
use Rattle.pfc_object_actions.specs.Semaphores.{semaphores_counted, with_semaphores, signals}

module _ (p : ℕ) (m : Machine) where
  -- it has popped so many operands
  abbrev popped : ℕ → ℕ → Stacks
  popped n q = passed m.stacks q (drop n (operands_of m.stacks q))

  -- ## Semaphores

  abbrev signals_where : Bool → Effect
  signals_where full = if full then Err Count else Ok (at_rest (with_semaphores (left_by m p 1) (signalled (semaphores_counted m) (object_at 0 p m))))

  pub signals_so : (s : ℕ) (full : Bool) → s ≡ object_at 0 p m → is_overfull (semaphores_counted m) s ≡ full → signals p m ≡ signals_where full
  signals_so s full same h = ap signals_where (ap (is_overfull (semaphores_counted m)) (sym same) ∙ h)

  pub signalled_is : (q s : ℕ) (acted : Counted) (stacks : Stacks) (w : Table)
      → q ≡ p → s ≡ object_at 0 p m → is_overfull (semaphores_counted m) s ≡ false → acted ≡ signalled (semaphores_counted m) s
      → stacks ≡ popped 1 q → w ≡ rested acted.table
      → signals p m ≡ Ok (record m { stacks = stacks; world = w; semaphores = acted.counts })
  signalled_is q s acted stacks w is_p is_s free rule left rest =
      signals_so s false is_s free
      ∙ ap (λ (k : ℕ). (let e : Effect = Ok (at_rest (with_semaphores (left_by m p 1) (signalled (semaphores_counted m) k))) in e)) (sym is_s)
      ∙ ap (λ (x : Counted). (let e : Effect = Ok (at_rest (with_semaphores (left_by m p 1) x)) in e)) (sym rule)
      ∙ sym (ap₂ (λ (ss : Stacks) (t : Table). (let e : Effect = Ok (record m { stacks = ss; world = t; semaphores = acted.counts }) in e))
      (left ∙ ap (popped 1) is_p) rest)

  -- ## Conditions

  abbrev condition : ℕ
  condition = object_at 1 p m

  abbrev rank : ℤ
  rank = operand (operands_of m.stacks p) 0

  abbrev delays_where : Bool → Effect
  delays_where inside =
      let h = monitors_held m in
      let n = monitor_of m condition in
      let waiting = if inside then delayed h p n condition rank else standing h (blocked h.table p (Condition condition rank) []) in
      Ok (at_rest (with_monitors (left_by m p 2) waiting))

  abbrev delayed_with : ℕ → ℤ → Held
  delayed_with k z = delayed (monitors_held m) p (monitor_of m k) k z

  pub delayed_is : (q k : ℕ) (z : ℤ) (stacks : Stacks) (w : Table) (mons : Guards)
      → q ≡ p → k ≡ condition → z ≡ rank → is_inside (monitor_of m condition) p m ≡ true → held_in w mons.holders ≡ delayed_with k z
      → mons.owners ≡ m.monitors.owners → stacks ≡ popped 2 q
      → delays p m ≡ Ok (record m { stacks = stacks; world = w; monitors = mons })
  delayed_is q k z stacks w mons is_p is_c is_rank inside rule owners left =
      let rests : rested w ≡ w = ap (λ (h : Held). rested h.table) rule ∙ sym (ap (λ (h : Held). h.table) rule) in
      let holders : Guards = record m.monitors { holders = mons.holders } in
      ap delays_where inside
      ∙ ap (λ (h : Held). (let e : Effect = Ok (at_rest (with_monitors (left_by m p 2) h)) in e)) (sym (rule ∙ ap₂ delayed_with is_c is_rank))
      ∙ ap (λ (t : Table). (let e : Effect = Ok (record m { stacks = popped 2 p; world = t; monitors = holders }) in e)) rests
      ∙ sym (ap₂ (λ (ss : Stacks) (xs : List ℕ).
      (let e : Effect = Ok (record m { stacks = ss; world = w; monitors = record mons { owners = xs } }) in e))
      (left ∙ ap (popped 2) is_p) owners)
