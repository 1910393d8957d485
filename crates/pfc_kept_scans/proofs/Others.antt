-- The other processes, where one acts on a resource: they stand where they stood, or one of them is freed or let on.
use Rattle.std.proofs.Common.{◌≡◌, ◌≢◌, ℕ, ◌<◌, true, false, List, [], ◌∷◌, length, Option, Some, None, refl, sym, ap, ◌∙◌, subst, ◌⊎◌, inl, inr}
use Rattle.pfc_state.specs.Stands.{Stand, Is_created, Is_ready, Waits, is_unfinished}
use Rattle.pfc_state.specs.declared.waits.Why.{Why}
use Rattle.pfc_state.specs.declared.waits.Why.TheVariants.{Send, Receive, Accept, Select, Call, Barred, Meeting}
use Rattle.pfc_world.specs.Holders.{holder_in}
use Rattle.pfc_world.specs.Tables.{Table, at}
use Rattle.pfc_world.specs.Transitions.{ticked}
use Rattle.pfc_semantics.specs.Configurations.{Activation, Activity, Config, activity_of}
use Rattle.pfc_semantics.specs.Store.{Store}
use Rattle.pfc_stacks.specs.Stacks.{Stacks, stack_of}
use Rattle.pfc_cells.specs.Homes.{Homes}
use Rattle.pfc_cells.specs.Memory.{Entries}
use Rattle.pfc_machines.specs.declared.machine.Machine.{Machine}
use Rattle.pfc_machines.specs.declared.descriptors.Descriptor.{Descriptor}
use Rattle.pfc_machines.specs.Descriptors.{descriptor_of}
use Rattle.pfc_machines.specs.Quiet.{tried_in}
use Rattle.pfc_standing_code.specs.Settings.{Trial, of_own, of_turn, of_another}
use Rattle.pfc_representation.specs.Levels.{Facts, program_in, LivingLevel, is_met_by}
use Rattle.pfc_representation.specs.Hands.{shows_nothing, shows_nothing_at}
use Rattle.pfc_representation.specs.Holding.{Holders, holders_in, HoldsScanned}
use Rattle.pfc_representation.specs.Trials.{TrialIs}
use Rattle.pfc_representation.specs.Processes.{ActivationsAre, RepresentsProcess}
use Rattle.pfc_representation.specs.Keeping.{IsSameStack, IsUntouched, HoldsStill, IsLeftAlone, IsLender, meets, meets_lender}
use Rattle.pfc_representation.specs.Acting.{IsActing}
use Rattle.pfc_representation.proofs.Kept.{process_still}
use Rattle.pfc_kept_object_actions.specs.Freed.{StandsStill, HasItsTurn, IsFreed, may_be_freed, may_be_freed_at, IsLetGo}
use Rattle.pfc_kept_object_actions.proofs.Freed.{process_freed}
use Rattle.pfc_kept_object_actions.proofs.Tests.{either}
use Rattle.pfc_kept_scans.proofs.Behind.{holders_with}
use Rattle.pfc_kept_scans.proofs.LetOn.{IsLetOn, let_on}

-- ## Who stands where it stood

-- a lender waits in a rendezvous
lender_waits : (table : Table) (q r : ℕ) → IsLender table q r → (s : ℕ) × is_met_by (at table.rows r) s
lender_waits table _ _ (meets q r met) = (q, met)
lender_waits table _ _ (meets_lender q s r met inner) = lender_waits table s r inner

met_not_ready : (s : Stand) (q : ℕ) → s ≡ Is_ready → is_met_by s q → ⊥
met_not_ready s q ready met = (let none : is_met_by Is_ready q = subst (λ (x : Stand). is_met_by x q) ready met in none)

met_not_barred : (s : Stand) (q r k t : ℕ) → s ≡ Waits (Barred r k) t [] → is_met_by s q → ⊥
met_not_barred s q r k t barred met = (let none : is_met_by (Waits (Barred r k) t []) q = subst (λ (x : Stand). is_met_by x q) barred met in none)

met_not_freed : (s : Stand) (q : ℕ) → may_be_freed s ≡ true → is_met_by s q → ⊥
met_not_freed (Waits (Meeting owner) ticket arms) q freed met = cc
met_not_freed s q freed met = absurd met

-- whose guard is tried is barred, and who tries it holds the resource
pub record IsTriedBy (h : Holders) (q : ℕ) (s : Stand) : Type 0 where
  pub resource : ℕ
  pub procedure : ℕ
  pub ticket : ℕ
  pub is : s ≡ Waits (Barred resource procedure) ticket []
  pub held : holder_in h.resources resource ≡ Some q

tried_not_ready : (h : Holders) (q : ℕ) (s : Stand) → IsTriedBy h q s → s ≡ Is_ready → ⊥
tried_not_ready h q s tried ready = (let no : Waits (Barred tried.resource tried.procedure) tried.ticket [] ≡ Is_ready = sym tried.is ∙ ready in cc)

tried_not_freed : (h : Holders) (q : ℕ) (s : Stand) → IsTriedBy h q s → may_be_freed s ≡ true → ⊥
tried_not_freed h q s tried freed = (let no : false ≡ true = ap may_be_freed (sym tried.is) ∙ freed in cc)

module _ (facts : Facts) (homes : Homes) (entries : Entries) (store : Store) (stacks : Stacks) (table : Table) (h : Holders) (q : ℕ) (d : Descriptor) where
  in_trial : (trial : Trial) (level : LivingLevel) (xs : List Activation) (r : ℕ) → TrialIs trial facts homes entries store stacks table q level xs d
      → HoldsScanned h q trial → tried_in d.scan ≡ Some r → IsTriedBy h q (at table.rows r)
  in_trial of_own level xs r is holds tried = absurd (let both : None ≡ Some r = ap tried_in (sym is.1) ∙ tried in cc)
  in_trial (of_turn scan back) level xs r is holds tried = absurd (let both : None ≡ Some r = ap tried_in (sym is.1) ∙ tried in cc)
  in_trial (of_another attempt) level xs r is holds tried =
      let same : attempt.whom.process ≡ r = (let both : Some attempt.whom.process ≡ Some r = ap tried_in (sym is.scan) ∙ tried in cc) in
      record {
        resource = attempt.scan.resource;
        procedure = attempt.whom.bar.procedure;
        ticket = attempt.whom.ticket;
        is = ap (λ n. at table.rows n) (sym same) ∙ is.barred;
        held = holds;
      }

  in_activations : (xs : List Activation) (a : Activity) (r : ℕ) → ActivationsAre xs facts homes entries store stacks table h q a d → tried_in d.scan ≡ Some r
      → IsTriedBy h q (at table.rows r)
  in_activations [] a r is tried = absurd (let both : None ≡ Some r = ap tried_in (sym is.scan) ∙ tried in cc)
  in_activations (x ∷ xs) a r is tried = in_trial is.level.setting.trial is.level a.activations r is.trial is.stands.holds.scanned tried

  pub tried_by_it : (a : Activity) (r : ℕ) → RepresentsProcess facts homes entries store stacks table h q a d → tried_in d.scan ≡ Some r
      → IsTriedBy h q (at table.rows r)
  tried_by_it a r is tried = in_activations a.activations a r is.activations tried

may_be_unfinished : (s : Stand) → may_be_freed s ≡ true → is_unfinished s ≡ true
may_be_unfinished Is_created f = refl
may_be_unfinished (Waits why ticket arms) f = refl
may_be_unfinished s f = absurd (cc)

may_be_shown_at : (why : Why) → may_be_freed_at why ≡ true → shows_nothing_at why ≡ true
may_be_shown_at (Send n) f = absurd (cc)
may_be_shown_at (Receive n) f = absurd (cc)
may_be_shown_at (Accept n) f = absurd (cc)
may_be_shown_at (Select due terminate) f = absurd (cc)
may_be_shown_at (Call owner entry) f = absurd (cc)
may_be_shown_at (Barred resource procedure) f = absurd (cc)
may_be_shown_at why f = refl

may_be_shown : (s : Stand) → may_be_freed s ≡ true → shows_nothing s ≡ true
may_be_shown Is_created f = refl
may_be_shown (Waits why ticket arms) f = may_be_shown_at why f
may_be_shown s f = refl

-- ## What becomes of all others

-- a process that was barred is ready, and has the resource, which process p held
pub record IsPassedOn (h : Holders) (p : ℕ) (h' : Holders) (q : ℕ) (s s' : Stand) : Type 0 where
  pub resource : ℕ
  pub procedure : ℕ
  pub ticket : ℕ
  pub barred : s ≡ Waits (Barred resource procedure) ticket []
  pub ready : s' ≡ Is_ready
  pub held : holder_in h.resources resource ≡ Some p
  pub has : HasItsTurn h' q s

pub data ItStands (h : Holders) (p : ℕ) (h' : Holders) (q : ℕ) (s s' : Stand) : Type 0 where
  it_stays : s' ≡ s → ItStands h p h' q s s'
  it_is_freed : IsLetGo h' q s s' → ItStands h p h' q s s'
  it_is_let_on : IsPassedOn h p h' q s s' → ItStands h p h' q s s'

module _ (facts : Facts) (m : Machine) (c : Config) (p : ℕ) (level : LivingLevel) (acting : IsActing facts m c p level) (stacks : Stacks) (table : Table)
    (resources : List (Option ℕ)) where
  abbrev h : Holders
  h = holders_in facts c

  abbrev h' : Holders
  h' = holders_with facts c resources

  pub record AreOthers : Type 0 where
    pub stack : (q : ℕ) → q ≢ p → IsSameStack (stack_of m.stacks q) (stack_of stacks q)
    pub rows : (q : ℕ) → q ≢ p → ItStands h p h' q (at c.table.rows q) (at table.rows q)
    pub still : (q : ℕ) → q ≢ p → HoldsStill q h h'

  module _ (are : AreOthers) where
    pub lender_still : (q r : ℕ) → IsLender c.table q r → at table.rows r ≡ at c.table.rows r
    lender_still q r lender = by_place (either r p)
      where
        waits : (s : ℕ) × is_met_by (at c.table.rows r) s
        waits = lender_waits c.table q r lender

        by_change : ItStands h p h' r (at c.table.rows r) (at table.rows r) → at table.rows r ≡ at c.table.rows r
        by_change (it_stays same) = same
        by_change (it_is_freed go) = absurd (met_not_freed (at c.table.rows r) waits.0 go.waited waits.1)
        by_change (it_is_let_on on) = absurd (met_not_barred (at c.table.rows r) waits.0 on.resource on.procedure on.ticket on.barred waits.1)

        by_place : (r ≡ p) ⊎ (r ≢ p) → at table.rows r ≡ at c.table.rows r
        by_place (inl same) = absurd (met_not_ready (at c.table.rows r) waits.0 (ap (λ n. at c.table.rows n) same ∙ acting.actor.ready) waits.1)
        by_place (inr apart) = by_change (are.rows r apart)

    -- only process p tries the guard of one that it lets on
    tried_still : (q r : ℕ) → q ≢ p → IsTriedBy h q (at c.table.rows r) → (r ≢ p) × (at table.rows r ≡ at c.table.rows r)
    tried_still q r apart tried = (away, by_change (are.rows r away))
      where
        away : r ≢ p
        away same = tried_not_ready h q (at c.table.rows r) tried (ap (λ n. at c.table.rows n) same ∙ acting.actor.ready)

        by_change : ItStands h p h' r (at c.table.rows r) (at table.rows r) → at table.rows r ≡ at c.table.rows r
        by_change (it_stays same) = same
        by_change (it_is_freed go) = absurd (tried_not_freed h q (at c.table.rows r) tried go.waited)
        by_change (it_is_let_on on) =
            let both : Waits (Barred tried.resource tried.procedure) tried.ticket [] ≡ Waits (Barred on.resource on.procedure) on.ticket [] =
            sym tried.is ∙ on.barred in
            let one : tried.resource ≡ on.resource = cc in
            let holders : Some q ≡ Some p = sym tried.held ∙ ap (λ n. holder_in h.resources n) one ∙ on.held in
            absurd (apart (let same : q ≡ p = cc in same))

    untouched : (q : ℕ) (table' : Table) → q ≢ p → at table'.rows q ≡ at c.table.rows q
        → ((s r : ℕ) → IsLender c.table s r → at table'.rows r ≡ at c.table.rows r)
        → IsUntouched facts q acting.homes acting.homes acting.entries acting.entries c.store c.store m.stacks stacks c.table table'
    untouched q table' apart row lenders =
        record {
          like = λ keeps these. record { at_home = λ n home at. at; living = λ r e kept lives. lives; references = λ n k home t kept at laid. refl };
          lenders = λ r lender. (lenders q r lender, refl);
          stack = are.stack q apart;
          entries_same = refl;
          row = row;
        }

    alone : (q : ℕ) (d : Descriptor) (table' : Table) → q ≢ p → at table'.rows q ≡ at c.table.rows q
        → ((s r : ℕ) → IsLender c.table s r → at table'.rows r ≡ at c.table.rows r)
        → ((r : ℕ) → tried_in d.scan ≡ Some r → (r ≢ p) × (at table'.rows r ≡ at c.table.rows r))
        → IsLeftAlone facts q d acting.homes acting.homes acting.entries acting.entries c.store c.store m.stacks stacks c.table table' h h'
    alone q d table' apart row lenders tried =
        record {
          at_home = λ n home at. at;
          untouched = untouched q table' apart row lenders;
          tried = λ r is. untouched r table' (tried r is).0 (tried r is).1 lenders;
          holds = are.still q apart;
        }

    pub others_then : (q : ℕ) → q ≢ p → q < length c.activities
        → RepresentsProcess facts acting.homes acting.entries c.store stacks (ticked table) h' q (activity_of (program_in facts) c q)
        (descriptor_of m.descriptors q)
    others_then q apart within = by_change (are.rows q apart)
      where
        old : RepresentsProcess facts acting.homes acting.entries c.store m.stacks c.table h q (activity_of (program_in facts) c q)
            (descriptor_of m.descriptors q)
        old = acting.others q within apart

        tried : (r : ℕ) → tried_in (descriptor_of m.descriptors q).scan ≡ Some r → (r ≢ p) × (at table.rows r ≡ at c.table.rows r)
        tried r whom =
            tried_still q r apart
            (tried_by_it facts acting.homes acting.entries c.store m.stacks c.table h q (descriptor_of m.descriptors q) (activity_of (program_in facts) c q) r
            old whom)

        still : (r : ℕ) → tried_in (descriptor_of m.descriptors q).scan ≡ Some r → StandsStill c.table (ticked table) r
        still r whom = record { row = (tried r whom).1; lenders = lender_still r }

        -- where only stacks and holders have changed
        meanwhile : RepresentsProcess facts acting.homes acting.entries c.store stacks c.table h' q (activity_of (program_in facts) c q)
            (descriptor_of m.descriptors q)
        meanwhile =
            process_still facts q (descriptor_of m.descriptors q) acting.homes acting.homes acting.entries acting.entries c.store c.store m.stacks stacks
            c.table c.table h h'
            (alone q (descriptor_of m.descriptors q) c.table apart refl (λ s r lender. refl) (λ r whom. ((tried r whom).0, refl)))
            (activity_of (program_in facts) c q) old

        by_change : ItStands h p h' q (at c.table.rows q) (at table.rows q)
            → RepresentsProcess facts acting.homes acting.entries c.store stacks (ticked table) h' q (activity_of (program_in facts) c q)
            (descriptor_of m.descriptors q)
        by_change (it_stays same) =
            process_still facts q (descriptor_of m.descriptors q) acting.homes acting.homes acting.entries acting.entries c.store c.store m.stacks stacks
            c.table (ticked table) h h'
            (alone q (descriptor_of m.descriptors q) (ticked table) apart same lender_still tried) (activity_of (program_in facts) c q) old
        by_change (it_is_freed go) =
            let freed : IsFreed c.table (ticked table) h' q (descriptor_of m.descriptors q) =
            record {
              unfinished = may_be_unfinished (at c.table.rows q) go.waited;
              showed = may_be_shown (at c.table.rows q) go.waited;
              ready = go.ready;
              has = go.has;
              lenders = lender_still q;
              tried = still;
            } in
            process_freed facts acting.homes acting.entries c.store stacks c.table (ticked table) h' q (descriptor_of m.descriptors q) freed
            (activity_of (program_in facts) c q) meanwhile
        by_change (it_is_let_on on) =
            let passed : IsLetOn c.table (ticked table) h' q (descriptor_of m.descriptors q) =
            record {
              resource = on.resource;
              procedure = on.procedure;
              ticket = on.ticket;
              barred = on.barred;
              ready = on.ready;
              has = on.has;
              lenders = lender_still q;
              tried = still;
            } in
            let_on facts acting.homes acting.entries c.store stacks c.table (ticked table) h' q (descriptor_of m.descriptors q) passed
            (activity_of (program_in facts) c q) meanwhile
