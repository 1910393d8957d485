-- Whose guard a process tries is barred.
use Rattle.std.proofs.Common.{◌≡◌, ℕ, List, [], ◌∷◌, Some, None, sym, ap, ◌∙◌}
use Rattle.pfc_world.specs.Tables.{Table, at}
use Rattle.pfc_semantics.specs.Configurations.{Activation, Activity}
use Rattle.pfc_semantics.specs.Store.{Store}
use Rattle.pfc_stacks.specs.Stacks.{Stacks}
use Rattle.pfc_cells.specs.Homes.{Homes}
use Rattle.pfc_cells.specs.Memory.{Entries}
use Rattle.pfc_machines.specs.declared.descriptors.Descriptor.{Descriptor}
use Rattle.pfc_machines.specs.Quiet.{tried_in}
use Rattle.pfc_standing_code.specs.Settings.{Trial, of_own, of_turn, of_another}
use Rattle.pfc_representation.specs.Levels.{Facts, LivingLevel}
use Rattle.pfc_representation.specs.Holding.{Holders}
use Rattle.pfc_representation.specs.Trials.{TrialIs}
use Rattle.pfc_representation.specs.Processes.{ActivationsAre, RepresentsProcess}
use Rattle.pfc_kept_messages.proofs.Others.{IsBarredStand}

module _ (facts : Facts) (homes : Homes) (entries : Entries) (store : Store) (stacks : Stacks) (table : Table) (h : Holders) (q r : ℕ) (d : Descriptor)
    (tried : tried_in d.scan ≡ Some r) where
  by_trial : (trial : Trial) (level : LivingLevel) (xs : List Activation) → TrialIs trial facts homes entries store stacks table q level xs d
      → IsBarredStand (at table.rows r)
  by_trial of_own level xs is = absurd (let both : None ≡ Some r = ap tried_in (sym is.1) ∙ tried in cc)
  by_trial (of_turn scan back) level xs is = absurd (let both : None ≡ Some r = ap tried_in (sym is.1) ∙ tried in cc)
  by_trial (of_another attempt) level xs is =
      let same : attempt.whom.process ≡ r = (let both : Some attempt.whom.process ≡ Some r = ap tried_in (sym is.scan) ∙ tried in cc) in
      record {
        resource = attempt.scan.resource;
        procedure = attempt.whom.bar.procedure;
        ticket = attempt.whom.ticket;
        is = ap (λ n. at table.rows n) (sym same) ∙ is.barred;
      }

  by_activations : (xs : List Activation) (a : Activity) → ActivationsAre xs facts homes entries store stacks table h q a d → IsBarredStand (at table.rows r)
  by_activations [] a is = absurd (let both : None ≡ Some r = ap tried_in (sym is.scan) ∙ tried in cc)
  by_activations (x ∷ xs) a is = by_trial is.level.setting.trial is.level a.activations is.trial

  pub tried_barred : (a : Activity) → RepresentsProcess facts homes entries store stacks table h q a d → IsBarredStand (at table.rows r)
  tried_barred a is = by_activations a.activations a is.activations
