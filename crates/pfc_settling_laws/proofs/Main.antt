-- Main is represented still where the children that serve have finished.
use Rattle.std.proofs.Common.{◌≡◌, ◌≢◌, ℕ, zero, suc, ◌<◌, Bool, true, false, List, [], ◌∷◌, length, get_or, Some, None, refl, sym, ap, ◌∙◌, subst, arith}
use Rattle.pfc_state.specs.Stands.{Stand, Waits, is_unfinished, may_end}
use Rattle.pfc_state.specs.declared.waits.Why.TheVariants.{Meeting, Barred}
use Rattle.pfc_world.specs.Settling.{may_all_end}
use Rattle.pfc_world.specs.Tables.{at}
use Rattle.pfc_world.specs.Terminating.{terminated}
use Rattle.pfc_semantics.specs.Configurations.{Activation, Activity, Config, activity_of, nobody}
use Rattle.pfc_semantics.specs.Store.{Store, values_in}
use Rattle.pfc_semantics.specs.Time.{rooms_left}
use Rattle.pfc_semantics.specs.Values.{Value, ordinal}
use Rattle.std.specs.Prelude.{pos}
use Rattle.pfc_stacks.specs.Stacks.{stack_of, cells_of, last_activation}
use Rattle.pfc_stacks.specs.Refs.{word_of}
use Rattle.pfc_cells.specs.Homes.{Home}
use Rattle.pfc_cells.specs.Memory.{Entry, Entries, MemoryIs, IsAmong}
use Rattle.pfc_call_laws.specs.Calls.{first_home}
use Rattle.pfc_machines.specs.declared.descriptors.Descriptor.{Descriptor}
use Rattle.pfc_machines.specs.declared.machine.Machine.{Machine}
use Rattle.pfc_machines.specs.Descriptors.{descriptor_of}
use Rattle.pfc_machines.specs.Quiet.{tried_in}
use Rattle.pfc_standing_code.specs.Settings.{Trial, of_own, of_turn, of_another}
use Rattle.pfc_views.specs.Views.{IsLiving}
use Rattle.pfc_views.specs.Keeping.{IsLike}
use Rattle.pfc_views.proofs.Living.{is_among}
use Rattle.pfc_representation.specs.Levels.{Facts, program_in, LivingLevel, is_met_by, MayKeep, of_main, of_own as of_own_stack, lent}
use Rattle.pfc_representation.specs.Holding.{Holders, holders_in, waits_at_coend}
use Rattle.pfc_representation.specs.Keeping.{IsSameStack, IsLender, meets, meets_lender, IsLeftAlone}
use Rattle.pfc_representation.specs.Machines.{Represents}
use Rattle.pfc_representation.specs.Trials.{TrialIs}
use Rattle.pfc_representation.specs.Processes.{ActivationsAre, RepresentsProcess}
use Rattle.pfc_representation.proofs.Kept.{process_still}
use Rattle.pfc_settling_laws.proofs.Ended.{all_serve, main_waits, main_serves_not, children_ended, main_stays_there, released_on}
use Rattle.pfc_settling_laws.proofs.Stores.{IsOfNone, others_left, of_none, has_home}
use Rattle.pfc_settling_laws.proofs.LetOn.{process_on}

-- main's activations alone live on
abbrev pub mains_alone : Entries → Entries
mains_alone entries zero = entries 0
mains_alone entries (suc q) = []

-- ## Who waits so waits for others

met_serves_not : (s : Stand) (p : ℕ) → is_met_by s p → (is_unfinished s ≡ true) × (may_end s ≡ false)
met_serves_not (Waits (Meeting owner) ticket arms) p met = (refl, refl)
met_serves_not s p met = absurd met

met_elsewhere : (s : Stand) (p : ℕ) → is_met_by s p → waits_at_coend s ≡ true → ⊥
met_elsewhere (Waits (Meeting owner) ticket arms) p met waits = cc
met_elsewhere s p met waits = absurd met

module _ (rows : List Stand) (ends : may_all_end rows ≡ true) (waits : waits_at_coend (at rows 0) ≡ true) where
  nobody_waits : (r : ℕ) → is_unfinished (at rows r) ≡ true → may_end (at rows r) ≡ false → waits_at_coend (at rows r) ≡ false → ⊥
  nobody_waits zero unfinished serves away = (let both : true ≡ false = sym waits ∙ away in cc)
  nobody_waits (suc r) unfinished serves away = (let both : true ≡ false = sym (all_serve rows ends (suc r) (omega arith) unfinished) ∙ serves in cc)

  not_there : (b : Bool) → (b ≡ true → ⊥) → b ≡ false
  not_there true h = absurd (h refl)
  not_there false h = refl

  -- nobody is in a meeting
  pub nobody_met : (r p : ℕ) → is_met_by (at rows r) p → ⊥
  nobody_met r p met =
      let both = met_serves_not (at rows r) p met in
      nobody_waits r both.0 both.1 (not_there (waits_at_coend (at rows r)) (λ h. met_elsewhere (at rows r) p met h))

  -- and nobody is barred
  pub nobody_barred : (r resource procedure ticket : ℕ) → at rows r ≡ Waits (Barred resource procedure) ticket [] → ⊥
  nobody_barred r resource procedure ticket is = nobody_waits r (ap is_unfinished is) (ap may_end is) (ap waits_at_coend is)

-- ## What is left alone

some_same : {A : Type 0} (x y : A) → Some x ≡ Some y → x ≡ y
some_same x y h = cc

module _ (facts : Facts) (m : Machine) (c : Config) (old : Represents facts m c) (ends : may_all_end c.table.rows ≡ true) where
  abbrev pub left : Store
  left = rooms_left c.table.rows c.activities c.store

  pub at_coend : waits_at_coend (at c.table.rows 0) ≡ true
  at_coend = main_waits c.table.rows ends old.alike.children

  memory : MemoryIs (program_in facts) old.homes old.entries c.store m.stacks
  memory = old.alike.holds.memory

  -- ### The store

  apart : (q : ℕ) → may_end (at c.table.rows q) ≡ true → (home : Home) → home.process ≡ 0 → home.process ≢ q
  apart q serves home zeroth same =
      let here : may_end (at c.table.rows 0) ≡ true = ap (λ n. may_end (at c.table.rows n)) (sym zeroth ∙ same) ∙ serves in
      let both : true ≡ false = sym here ∙ main_serves_not c.table.rows at_coend in
      cc

  of_none_of : (q b : ℕ) (home : Home) → old.homes b ≡ Some home → home.process ≢ q → (xs : List Activation) (a : Activity) (d : Descriptor)
      → xs ≡ a.activations
      → ActivationsAre xs facts old.homes old.entries c.store m.stacks c.table (holders_in facts c) q a d → IsOfNone b a.activations
  of_none_of q b home at_home other [] a d is h = subst (λ (xs : List Activation). IsOfNone b xs) is tt
  of_none_of q b home at_home other (x ∷ xs) a d is h =
      of_none facts old.homes old.entries c.store c.table q b home at_home other (stack_of m.stacks q).room h.level (word_of (last_activation m.stacks q))
      d.communications a.activations
      (old.entries q) h.stands.callers

  -- the variables of what has its home on main's stack are left
  pub values_left : (b : ℕ) (home : Home) → old.homes b ≡ Some home → home.process ≡ 0 → values_in left b ≡ values_in c.store b
  values_left b home at_home zeroth =
      others_left (nobody (program_in facts)) c.table.rows c.activities c.store b
      (λ q low serves. (let its = old.processes q low in
      of_none_of q b home at_home (apart q serves home zeroth) (activity_of (program_in facts) c q).activations (activity_of (program_in facts) c q)
      (descriptor_of m.descriptors q) refl its.activations))

  pub has_home_there : (q a : ℕ) → IsAmong a (old.entries q) → (home : Home) × (old.homes a ≡ Some home) × (home.process ≡ q)
  has_home_there q a among = has_home (program_in facts) old.homes c.store q (old.entries q) (cells_of m.stacks q) (memory q) a among

  -- ### What main keeps

  kept_home : (p : ℕ) (lenders : List ℕ) (mine : List Entry) (a : ℕ) → ((b : ℕ) → IsAmong b mine → IsAmong b (old.entries 0))
      → MayKeep c.table old.entries p lenders mine a
      → (home : Home) × (old.homes a ≡ Some home) × (home.process ≡ 0)
  kept_home _ _ _ _ within (of_main p lenders mine) = (first_home 0 0, old.alike.holds.main, refl)
  kept_home _ _ _ _ within (of_own_stack p lenders mine a among) = has_home_there 0 a (within a among)
  kept_home _ _ _ _ within (lent p lenders mine a k q others there met inner) = absurd (nobody_met c.table.rows ends at_coend q p met)

  module _ (keeps : ℕ → Bool) (these : (a : ℕ) → keeps a ≡ true → (lenders : List ℕ) × MayKeep c.table old.entries 0 lenders (old.entries 0) a) where
    its_home : (a : ℕ) → keeps a ≡ true → (home : Home) × (old.homes a ≡ Some home) × (home.process ≡ 0)
    its_home a kept = (let one = these a kept in kept_home 0 one.0 (old.entries 0) a (λ b among. among) one.1)

    one_process : (a q : ℕ) → keeps a ≡ true → IsAmong a (old.entries q) → q ≡ 0
    one_process a q kept among =
        let mine = its_home a kept in
        let its = has_home_there q a among in
        let one : its.0 ≡ mine.0 = some_same its.0 mine.0 (sym its.1 ∙ mine.1) in
        sym its.2 ∙ ap (λ (h : Home). h.process) one ∙ mine.2

    lives_on : (q : ℕ) (e : Entry) → keeps e.activation ≡ true → IsLiving e (old.entries q) → IsLiving e (mains_alone old.entries q)
    lives_on zero e kept there = there
    lives_on (suc q) e kept there =
        absurd (let no : suc q ≡ 0 = one_process e.activation (suc q) kept (is_among e (old.entries (suc q)) there) in omega (arith, no))

    like : IsLike (program_in facts) keeps old.homes old.homes old.entries (mains_alone old.entries) c.store left
    like =
        record {
          at_home = λ a home is. is;
          living = lives_on;
          references = λ a k home t kept is laid. (let its = its_home a kept in
              ap (λ (vs : List Value). get_or vs k (ordinal (pos 0))) (values_left a its.0 its.1 its.2));
        }

  -- ### Main

  same_stack : (p : ℕ) → IsSameStack (stack_of m.stacks p) (stack_of m.stacks p)
  same_stack p = record { at = refl; base = refl; operands = refl; room = refl; spare = refl; looks_from = refl }

  no_lender : (q r : ℕ) → IsLender c.table q r → ⊥
  no_lender _ _ (meets q r met) = nobody_met c.table.rows ends at_coend r q met
  no_lender _ _ (meets_lender q s r met inner) = nobody_met c.table.rows ends at_coend s q met

  tries_nobody : (trial : Trial) (level : LivingLevel) (xs : List Activation) (d : Descriptor) (r : ℕ)
      → TrialIs trial facts old.homes old.entries c.store m.stacks c.table 0 level xs d → tried_in d.scan ≡ Some r → ⊥
  tries_nobody of_own level xs d r h tried = (let both : None ≡ Some r = ap tried_in (sym h.1) ∙ tried in cc)
  tries_nobody (of_turn scan back) level xs d r h tried = (let both : None ≡ Some r = ap tried_in (sym h.1) ∙ tried in cc)
  tries_nobody (of_another attempt) level xs d r h tried =
      nobody_barred c.table.rows ends at_coend attempt.whom.process attempt.scan.resource attempt.whom.bar.procedure attempt.whom.ticket h.barred

  nobody_tried : (xs : List Activation) (a : Activity) (d : Descriptor) (r : ℕ)
      → ActivationsAre xs facts old.homes old.entries c.store m.stacks c.table (holders_in facts c) 0 a d → tried_in d.scan ≡ Some r → ⊥
  nobody_tried [] a d r h tried = (let both : None ≡ Some r = ap tried_in (sym h.scan) ∙ tried in cc)
  nobody_tried (x ∷ xs) a d r h tried = tries_nobody h.level.setting.trial h.level a.activations d r h.trial tried

  left_alone : (a : Activity) (d : Descriptor) → RepresentsProcess facts old.homes old.entries c.store m.stacks c.table (holders_in facts c) 0 a d
      → IsLeftAlone facts 0 d old.homes old.homes old.entries (mains_alone old.entries) c.store left m.stacks m.stacks c.table (children_ended c.table)
      (holders_in facts c) (holders_in facts c)
  left_alone a d is =
      record {
        at_home = λ b home at. at;
        untouched = record {
          like = like;
          lenders = λ r lender. absurd (no_lender 0 r lender);
          stack = same_stack 0;
          entries_same = refl;
          row = main_stays_there c.table;
        };
        tried = λ r tried. absurd (nobody_tried a.activations a d r is.activations tried);
        holds = record { owners = refl; monitors = λ n holds. holds; resources = λ n holds. holds };
      }

  pub main_ended : 0 < length c.activities
      → RepresentsProcess facts old.homes (mains_alone old.entries) left m.stacks (terminated c.table) (holders_in facts c) 0
      (activity_of (program_in facts) c 0) (descriptor_of m.descriptors 0)
  main_ended there =
      let a : Activity = activity_of (program_in facts) c 0 in
      let d : Descriptor = descriptor_of m.descriptors 0 in
      let h : Holders = holders_in facts c in
      let is = old.processes 0 there in
      process_on facts old.homes (mains_alone old.entries) left m.stacks (children_ended c.table) (terminated c.table) (released_on c.table) h 0 d a
      (process_still facts 0 d old.homes old.homes old.entries (mains_alone old.entries) c.store left m.stacks m.stacks c.table (children_ended c.table) h h
      (left_alone a d is) a is)
