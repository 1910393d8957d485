-- Who stands where it stood keeps its clause, while others wait, or go on behind what they offered.
use Rattle.std.proofs.Common.{◌≡◌, ℕ, Bool, List, [], ◌∷◌, Some, None, refl, sym, ap, ◌∙◌}
use Rattle.pfc_state.specs.Stands.{Stand, Waits}
use Rattle.pfc_state.specs.declared.waits.Why.TheVariants.{Barred}
use Rattle.pfc_world.specs.Tables.{Table, at}
use Rattle.pfc_semantics.specs.Configurations.{Activation, Activity}
use Rattle.pfc_semantics.specs.Store.{Store}
use Rattle.pfc_stacks.specs.Stacks.{Stacks, stack_of}
use Rattle.pfc_cells.specs.Homes.{Homes}
use Rattle.pfc_cells.specs.Memory.{Entries}
use Rattle.pfc_machines.specs.declared.descriptors.Descriptor.{Descriptor}
use Rattle.pfc_machines.specs.Quiet.{tried_in}
use Rattle.pfc_standing_code.specs.Settings.{Trial, of_own, of_turn, of_another}
use Rattle.pfc_views.specs.Keeping.{IsLike}
use Rattle.pfc_representation.specs.Levels.{Facts, program_in, LivingLevel, is_met_by}
use Rattle.pfc_representation.specs.Holding.{Holders}
use Rattle.pfc_representation.specs.Trials.{TrialIs}
use Rattle.pfc_representation.specs.Processes.{ActivationsAre, RepresentsProcess}
use Rattle.pfc_representation.specs.Keeping.{IsSameStack, IsUntouched, IsLender, meets, meets_lender}
use Rattle.pfc_representation.proofs.Kept.{process_still}

-- ## Lenders, and those whose guards are tried

-- a lender waits in a rendezvous
pub lender_waits : (table : Table) (q r : ℕ) → IsLender table q r → (s : ℕ) × is_met_by (at table.rows r) s
lender_waits table _ _ (meets q r met) = (q, met)
lender_waits table _ _ (meets_lender q s r met inner) = lender_waits table s r inner

pub record IsBarredStand (s : Stand) : Type 0 where
  pub resource : ℕ
  pub procedure : ℕ
  pub ticket : ℕ
  pub is : s ≡ Waits (Barred resource procedure) ticket []

module _ (facts : Facts) (homes : Homes) (entries : Entries) (store : Store) (stacks : Stacks) (table : Table) (h : Holders) (q : ℕ) (d : Descriptor) where
  in_trial : (trial : Trial) (level : LivingLevel) (xs : List Activation) (r : ℕ) → TrialIs trial facts homes entries store stacks table q level xs d
      → tried_in d.scan ≡ Some r → IsBarredStand (at table.rows r)
  in_trial of_own level xs r is tried = absurd (let both : None ≡ Some r = ap tried_in (sym is.1) ∙ tried in cc)
  in_trial (of_turn scan back) level xs r is tried = absurd (let both : None ≡ Some r = ap tried_in (sym is.1) ∙ tried in cc)
  in_trial (of_another attempt) level xs r is tried =
      let same : attempt.whom.process ≡ r = (let both : Some attempt.whom.process ≡ Some r = ap tried_in (sym is.scan) ∙ tried in cc) in
      record {
        resource = attempt.scan.resource;
        procedure = attempt.whom.bar.procedure;
        ticket = attempt.whom.ticket;
        is = ap (λ n. at table.rows n) (sym same) ∙ is.barred;
      }

  in_activations : (xs : List Activation) (a : Activity) (r : ℕ) → ActivationsAre xs facts homes entries store stacks table h q a d → tried_in d.scan ≡ Some r
      → IsBarredStand (at table.rows r)
  in_activations [] a r is tried = absurd (let both : None ≡ Some r = ap tried_in (sym is.scan) ∙ tried in cc)
  in_activations (x ∷ xs) a r is tried = in_trial is.level.setting.trial is.level a.activations r is.trial tried

  tried_barred : (a : Activity) (r : ℕ) → RepresentsProcess facts homes entries store stacks table h q a d → tried_in d.scan ≡ Some r
      → IsBarredStand (at table.rows r)
  tried_barred a r is tried = in_activations a.activations a r is.activations tried

-- ## One that stays

-- it is where it was, with its operands, and stands where it stood
pub record StaysAt (stacks stacks' : Stacks) (table table' : Table) (q : ℕ) : Type 0 where
  pub stack : IsSameStack (stack_of stacks q) (stack_of stacks' q)
  pub row : at table'.rows q ≡ at table.rows q

-- what becomes of all others: those in a rendezvous stand where they stood, and those who are barred are where they were
pub record IsQuietAround (facts : Facts) (homes : Homes) (entries : Entries) (store store' : Store) (stacks stacks' : Stacks)
    (table table' : Table) : Type 0 where
  pub like : (keeps : ℕ → Bool) → IsLike (program_in facts) keeps homes homes entries entries store store'
  pub met : (r s : ℕ) → is_met_by (at table.rows r) s → at table'.rows r ≡ at table.rows r
  pub barred : (r : ℕ) → IsBarredStand (at table.rows r) → StaysAt stacks stacks' table table' r

module _ (facts : Facts) (homes : Homes) (entries : Entries) (store store' : Store) (stacks stacks' : Stacks) (table table' : Table) (h : Holders)
    (around : IsQuietAround facts homes entries store store' stacks stacks' table table') where
  untouched : (q : ℕ) → StaysAt stacks stacks' table table' q → IsUntouched facts q homes homes entries entries store store' stacks stacks' table table'
  untouched q stays =
      record {
        like = λ keeps these. around.like keeps;
        lenders = λ r lender. (let waits = lender_waits table q r lender in (around.met r waits.0 waits.1, refl));
        stack = stays.stack;
        entries_same = refl;
        row = stays.row;
      }

  pub stays_kept : (q : ℕ) (a : Activity) (d : Descriptor) → StaysAt stacks stacks' table table' q
      → RepresentsProcess facts homes entries store stacks table h q a d
      → RepresentsProcess facts homes entries store' stacks' table' h q a d
  stays_kept q a d stays is =
      process_still facts q d homes homes entries entries store store' stacks stacks' table table' h h
      (record {
        at_home = λ n home at. at;
        untouched = untouched q stays;
        tried = λ r whom. untouched r (around.barred r (tried_barred facts homes entries store stacks table h q d a r is whom));
        holds = record { owners = refl; monitors = λ n held. held; resources = λ n held. held };
      })
      a is
