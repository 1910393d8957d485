-- What a refused call comes to.
use Rattle.std.proofs.Common.{◌≡◌, ℕ, Bool, true, false, Err, ap, subst, ◌∙◌}
use Rattle.std.specs.Prelude.{is_ok}
use Rattle.pfc_stacks.specs.declared.instructed.CallFault.{CallFault}
use Rattle.pfc_stacks.specs.declared.instructed.CallFault.TheVariants.{Stack, Memory}
use Rattle.pfc_stacks.specs.Answers.{IsCalled}
use Rattle.pfc_world.specs.Tables.{Table}
use Rattle.pfc_world.specs.Transitions.{rested}
use Rattle.pfc_machines.specs.declared.machine.Machine.{Machine}
use Rattle.pfc_machines.specs.Actions.{at_rest, of_call}
use Rattle.pfc_call_actions.specs.Calls.{unless_full, IsGranted}

-- the place of a call decides its refusal
abbrev pub Refuses : Bool → CallFault → Type 0
Refuses placed Stack = placed ≡ false
Refuses placed Memory = placed ≡ true

pub refuses : (placed : Bool) (old next new : Machine) (f : CallFault) → IsCalled placed old next (Err f) new → Refuses placed f
refuses placed old next new Stack h = h.0
refuses placed old next new Memory h = h.0

pub unchanged : (placed : Bool) (old next new : Machine) (f : CallFault) → IsCalled placed old next (Err f) new → new ≡ old
unchanged placed old next new Stack h = h.1
unchanged placed old next new Memory h = h.1

pub refused_so : (placed : Bool) (old next new : Machine) (f : CallFault) → Refuses placed f → new ≡ at_rest old
    → IsGranted (unless_full placed next) old (Err (of_call f)) new
refused_so placed old next new Stack h e = (ap (λ (z : Bool). unless_full z next) h, e)
refused_so placed old next new Memory h e = (ap (λ (z : Bool). is_ok (unless_full z next)) h, e)

module _ (placed : ℕ → Bool) (p j : ℕ) (same : j ≡ p) (m next there : Machine) (w : Table) (f : CallFault) where
  here : Refuses (placed j) f → Refuses (placed p) f
  here h = subst (λ (k : ℕ). Refuses (placed k) f) same h

  -- the process rests before its call is refused
  pub rested_first : (new : Machine) → w ≡ rested m.world → IsCalled (placed j) (record m { world = w }) there (Err f) new
      → IsGranted (unless_full (placed p) next) m (Err (of_call f)) new
  rested_first new rest h =
      let old : Machine = record m { world = w } in
      refused_so (placed p) m next new f (here (refuses (placed j) old there new f h))
      (unchanged (placed j) old there new f h ∙ ap (λ (t : Table). (let x : Machine = record m { world = t } in x)) rest)

  -- or behind it
  pub rested_last : (mid : Machine) → IsCalled (placed j) m there (Err f) mid → w ≡ rested mid.world
      → IsGranted (unless_full (placed p) next) m (Err (of_call f)) (record mid { world = w })
  rested_last mid h rest =
      refused_so (placed p) m next (record mid { world = w }) f (here (refuses (placed j) m there mid f h))
      (ap (λ (t : Table). (let x : Machine = record mid { world = t } in x)) rest ∙ ap at_rest (unchanged (placed j) m there mid f h))
