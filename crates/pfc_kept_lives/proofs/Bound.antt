-- Who lends to another waits in a meeting, and whose guard is tried is barred: an end or a creation of another leaves these where they stand.
use Rattle.std.proofs.Common.{◌≡◌, ◌≢◌, ℕ, true, false, List, [], ◌∷◌, Some, None, refl, sym, ap, ◌∙◌, subst}
use Rattle.pfc_state.specs.Stands.{Stand, Is_ready, Waits, is_ready, is_unfinished, is_at_coend}
use Rattle.pfc_state.specs.declared.waits.Why.TheVariants.{Barred, Meeting}
use Rattle.pfc_world.specs.Tables.{Table, at}
use Rattle.pfc_semantics.specs.Configurations.{Activation, Activity}
use Rattle.pfc_semantics.specs.Store.{Store}
use Rattle.pfc_stacks.specs.Stacks.{Stacks}
use Rattle.pfc_cells.specs.Homes.{Homes}
use Rattle.pfc_cells.specs.Memory.{Entries}
use Rattle.pfc_machines.specs.declared.descriptors.Descriptor.{Descriptor}
use Rattle.pfc_machines.specs.Quiet.{tried_in}
use Rattle.pfc_standing_code.specs.Settings.{Trial, of_own, of_turn, of_another}
use Rattle.pfc_representation.specs.Levels.{Facts, LivingLevel, is_met_by}
use Rattle.pfc_representation.specs.Holding.{Holders}
use Rattle.pfc_representation.specs.Trials.{TrialIs}
use Rattle.pfc_representation.specs.Processes.{ActivationsAre, RepresentsProcess}
use Rattle.pfc_representation.specs.Keeping.{IsLender, meets, meets_lender}

-- a wait that ends neither by itself nor by the end of another
pub record IsBound (s : Stand) : Type 0 where
  pub unfinished : is_unfinished s ≡ true
  pub stays : is_at_coend s ≡ false
  pub waits : is_ready s ≡ false

met_bound : (s : Stand) (q : ℕ) → is_met_by s q → IsBound s
met_bound (Waits (Meeting owner) ticket arms) q met = record { unfinished = refl; stays = refl; waits = refl }
met_bound s q met = absurd met

pub lender_bound : (table : Table) (q r : ℕ) → IsLender table q r → IsBound (at table.rows r)
lender_bound table _ _ (meets q r met) = met_bound (at table.rows r) q met
lender_bound table _ _ (meets_lender q s r met inner) = lender_bound table s r inner

barred_bound : (s : Stand) (resource procedure ticket : ℕ) → s ≡ Waits (Barred resource procedure) ticket [] → IsBound s
barred_bound s resource procedure ticket is =
    subst (λ (x : Stand). IsBound x) (sym is) (record { unfinished = refl; stays = refl; waits = refl })

module _ (facts : Facts) (homes : Homes) (entries : Entries) (store : Store) (stacks : Stacks) (table : Table) (h : Holders) (q : ℕ) (d : Descriptor) where
  in_trial : (trial : Trial) (level : LivingLevel) (xs : List Activation) (r : ℕ) → TrialIs trial facts homes entries store stacks table q level xs d
      → tried_in d.scan ≡ Some r → IsBound (at table.rows r)
  in_trial of_own level xs r is tried = absurd (let both : None ≡ Some r = ap tried_in (sym is.1) ∙ tried in cc)
  in_trial (of_turn scan back) level xs r is tried = absurd (let both : None ≡ Some r = ap tried_in (sym is.1) ∙ tried in cc)
  in_trial (of_another attempt) level xs r is tried =
      let same : attempt.whom.process ≡ r = (let both : Some attempt.whom.process ≡ Some r = ap tried_in (sym is.scan) ∙ tried in cc) in
      barred_bound (at table.rows r) attempt.scan.resource attempt.whom.bar.procedure attempt.whom.ticket
      (ap (λ n. at table.rows n) (sym same) ∙ is.barred)

  in_activations : (xs : List Activation) (a : Activity) (r : ℕ) → ActivationsAre xs facts homes entries store stacks table h q a d
      → tried_in d.scan ≡ Some r → IsBound (at table.rows r)
  in_activations [] a r is tried = absurd (let both : None ≡ Some r = ap tried_in (sym is.scan) ∙ tried in cc)
  in_activations (x ∷ xs) a r is tried = in_trial is.level.setting.trial is.level a.activations r is.trial tried

  pub tried_bound : (a : Activity) (r : ℕ) → RepresentsProcess facts homes entries store stacks table h q a d → tried_in d.scan ≡ Some r
      → IsBound (at table.rows r)
  tried_bound a r is tried = in_activations a.activations a r is.activations tried

-- who is bound is not the one that acts
pub bound_apart : (table : Table) (p r : ℕ) → at table.rows p ≡ Is_ready → IsBound (at table.rows r) → r ≢ p
bound_apart table p r ready bound same =
    let both : true ≡ false = ap is_ready (sym ready) ∙ ap (λ n. is_ready (at table.rows n)) (sym same) ∙ bound.waits in
    cc

-- nor one that has not begun or has finished
pub bound_living : (table : Table) (n r : ℕ) → is_unfinished (at table.rows n) ≡ false → IsBound (at table.rows r) → r ≢ n
bound_living table n r over bound same =
    let both : true ≡ false = sym bound.unfinished ∙ ap (λ k. is_unfinished (at table.rows k)) same ∙ over in
    cc
