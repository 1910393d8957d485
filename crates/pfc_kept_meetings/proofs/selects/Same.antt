-- The alternatives that were made for a select are those of the source text, one by one: as the table has them, those that communicate, its `timeout` and its
-- `terminate`.
use Rattle.std.proofs.Common.{◌≡◌, ℕ, zero, suc, cond, ℤ, pos, Bool, true, false, ◌||◌, if◌then◌else◌, List, [], ◌∷◌, ◌++◌, length, slice_get}
use Rattle.std.proofs.Common.{Option, Some, None, refl, sym, ap, ◌∙◌, subst, ◌⊎◌, inl, inr}
use Rattle.std.specs.Prelude.{is_some}
use Rattle.pfc_code.specs.declared.instructions.Instr.{Instr}
use Rattle.pfc_code.specs.declared.instructions.Instr.TheVariants.{ARMS, ARMR, ARMA, ARMT, ARMX}
use Rattle.pfc_state.specs.declared.waits.Arm.{Arm as WaitArm}
use Rattle.pfc_types.specs.declared.types.TypeId.{TypeId}
use Rattle.pfc_semantics.specs.Displays.{Spot}
use Rattle.pfc_semantics.specs.Programs.{Block, Program}
use Rattle.pfc_semantics.specs.Remainders.{Context, Offer, Open, Remainder, to_send, to_receive, to_accept, to_wait, to_end}
use Rattle.pfc_semantics.specs.Configurations.{Config, number_for}
use Rattle.pfc_semantics.specs.Channels as text
use Rattle.pfc_semantics.specs.Selects.{Timeout, timeout_at, or_timeout, open_timeout, is_end, may_terminate_at}
use Rattle.pfc_stacks.specs.Refs.{number_of}
use Rattle.pfc_machines.specs.declared.alternatives.Alternative.{Alternative}
use Rattle.pfc_machines.specs.declared.alternatives.KeptAlternative.{KeptAlternative}
use Rattle.pfc_machines.specs.declared.alternatives.Offer.{Offer as MachineOffer}
use Rattle.pfc_machines.specs.declared.alternatives.Offer.TheVariants.{Timeout as MachineTimeout}
use Rattle.pfc_machines.specs.declared.alternatives.Sought.TheVariants.{Delay, End}
use Rattle.pfc_machines.specs.Offers.{arm_of, listed_arm, communicates, communications, is_sought, first_sought}
use Rattle.pfc_standing_code.specs.Effects.{Arm, LeadsAhead, LeadAhead}
use Rattle.pfc_standing_code.specs.Settings.{Setting, site_of}
use Rattle.pfc_standing_code.specs.Performs.{IsOpen, AreOpen, Performs}
use Rattle.pfc_standing_code.specs.TypedStatements.{IsChannel}
use Rattle.pfc_standing_code.specs.Words.{IsObject}
use Rattle.pfc_following_source.specs.Behind.{branch_of, BehindOpen, BehindAll}
use Rattle.pfc_representation.specs.Levels.{Facts}
use Rattle.pfc_representation.specs.Rooms.{LeadsWithin, LeadWithin}
use Rattle.pfc_representation.specs.Alternatives.{IsReceiving, IsMadeBy}
use Rattle.pfc_kept_messages.proofs.Made.{IsKeptArm, AreKeptArms, arms_in}
use Rattle.pfc_kept_messages.proofs.Found.{arm_same}

listed_both : (y : Option WaitArm) (xs : List WaitArm) → text.listed_arm y xs ≡ listed_arm y ++ xs
listed_both None xs = refl
listed_both (Some w) xs = refl

-- ## Where one leads

receiving_to : (depth z : ℕ) (operands : List ℤ) (to : ℕ) (a : Alternative) → IsReceiving depth z operands to a → to ≡ a.branch
receiving_to depth zero operands to a is = ap (λ (x : Alternative). x.branch) (sym is.2)
receiving_to depth (suc z) operands to a is = ap (λ (x : Alternative). x.branch) (sym is.3)

-- the branch is that which the machine keeps
pub branch_is : (depth : ℕ) (i : Instr) (operands : List ℤ) (a : Alternative) (words : List ℤ) → IsMadeBy depth i operands a words → branch_of i ≡ a.branch
branch_is depth (ARMS z to) operands a words is = ap (λ (x : Alternative). x.branch) (sym is.3)
branch_is depth (ARMR z to) operands a words is = receiving_to depth z operands to a is.1
branch_is depth (ARMA e d z to) operands a words is = ap (λ (x : Alternative). x.branch) (sym is.1)
branch_is depth (ARMT to) operands a words is = ap (λ (x : Alternative). x.branch) (sym is.3)
branch_is depth ARMX operands a words is = ap (λ (x : Alternative). x.branch) (sym is.1)
branch_is depth i operands a words is = absurd is

-- ## `timeout` and `terminate`

receiving_delay : (depth z : ℕ) (operands : List ℤ) (to : ℕ) (a : Alternative) → IsReceiving depth z operands to a
    → (is_sought Delay a.offer ≡ false) × (is_sought End a.offer ≡ false)
receiving_delay depth zero operands to a is =
    (ap (λ (x : Alternative). is_sought Delay x.offer) is.2, ap (λ (x : Alternative). is_sought End x.offer) is.2)
receiving_delay depth (suc z) operands to a is =
    (ap (λ (x : Alternative). is_sought Delay x.offer) is.3, ap (λ (x : Alternative). is_sought End x.offer) is.3)

module _ (c : Config) (p : ℕ) (program : Program) (g : Setting) (b : Block) (x : Context)
    (number : (v : Spot) (t : Option TypeId) (u : TypeId) (n : ℤ) → IsChannel g.program.state.forms t u → IsObject g (site_of g b x) v t n
    → number_of n ≡ number_for program c p v)
    (facts : Facts) (depth : ℕ) (all ops : List ℤ) (left : Remainder) where
  abbrev behind : ℕ → Type 0
  behind = λ end. Performs g b x.env end ops [] left

  abbrev IsOpenOne : Open → Offer → Arm → Type 0
  IsOpenOne o offer arm = IsOpen g (site_of g b x) (length ops) o offer arm behind

  -- ## As the table has them

  pub arms_same : (os : List Open) (arms : List Arm) (ks : List KeptAlternative) → AreOpen g (site_of g b x) (length ops) os arms behind
      → AreKeptArms depth all arms ks → text.arms_of_all program c p os ≡ arms_in ks
  arms_same [] [] [] are kept = refl
  arms_same [] [] (k ∷ ks) are kept = absurd kept
  arms_same [] (arm ∷ arms) ks are kept = absurd are
  arms_same (o ∷ os) [] ks are kept = absurd are
  arms_same (o ∷ os) (arm ∷ arms) [] are kept = absurd kept
  arms_same (o ∷ os) (arm ∷ arms) (k ∷ ks) are kept =
      ap (λ (y : Option WaitArm). text.listed_arm y (text.arms_of_all program c p os))
      (arm_same c p program g b x number depth (length ops) all behind o o.offer arm k are.0 kept.0)
      ∙ ap (λ (ws : List WaitArm). text.listed_arm (arm_of k.alternative.offer) ws) (arms_same os arms ks are.1 kept.1)
      ∙ listed_both (arm_of k.alternative.offer) (arms_in ks)

  -- ## One that communicates

  communicating : (offer : Offer) → text.is_communication offer ≡ is_some (text.arm_of program c p offer)
  communicating (to_send channel v) = refl
  communicating (to_receive channel target) = refl
  communicating (to_accept a) = refl
  communicating (to_wait n) = refl
  communicating to_end = refl

  -- both sides have the same alternative at this place
  pub record AtPlace (os : List Open) (arms : List Arm) (ks : List KeptAlternative) (place : ℕ) (w : WaitArm) : Type 0 where
    pub o : Open
    pub arm : Arm
    pub kept : KeptAlternative
    pub open_one : IsOpenOne o o.offer arm
    pub is_kept : IsKeptArm depth all arm kept
    pub left_behind : BehindOpen g b ops x o o.offer (branch_of arm.by) left
    pub leads : (j : ℕ) → LeadWithin facts j arms → LeadsWithin facts j arm.by
    pub in_text : slice_get (text.communications os) place ≡ Some o
    pub in_machine : slice_get (communications ks) place ≡ Some kept
    pub is : text.arm_of program c p o.offer ≡ Some w

  -- behind one more that does not communicate, or that does
  past : (o : Open) (os : List Open) (arm : Arm) (arms : List Arm) (k : KeptAlternative) (ks : List KeptAlternative) (place : ℕ) (w : WaitArm)
      → text.is_communication o.offer ≡ false → communicates k ≡ false → AtPlace os arms ks place w → AtPlace (o ∷ os) (arm ∷ arms) (k ∷ ks) place w
  past o os arm arms k ks place w none other at =
      record {
        o = at.o;
        arm = at.arm;
        kept = at.kept;
        open_one = at.open_one;
        is_kept = at.is_kept;
        left_behind = at.left_behind;
        leads = λ j lead. at.leads j lead.1;
        in_text =
            ap (λ (y : Bool). slice_get (if y then o ∷ text.communications os else text.communications os) place) none ∙ at.in_text;
        in_machine = ap (λ (y : Bool). slice_get (cond y (k ∷ communications ks) (communications ks)) place) other ∙ at.in_machine;
        is = at.is;
      }

  next : (o : Open) (os : List Open) (arm : Arm) (arms : List Arm) (k : KeptAlternative) (ks : List KeptAlternative) (place : ℕ) (w : WaitArm)
      → text.is_communication o.offer ≡ true → communicates k ≡ true → AtPlace os arms ks place w → AtPlace (o ∷ os) (arm ∷ arms) (k ∷ ks) (suc place) w
  next o os arm arms k ks place w some other at =
      record {
        o = at.o;
        arm = at.arm;
        kept = at.kept;
        open_one = at.open_one;
        is_kept = at.is_kept;
        left_behind = at.left_behind;
        leads = λ j lead. at.leads j lead.1;
        in_text =
            ap (λ (y : Bool). slice_get (if y then o ∷ text.communications os else text.communications os) (suc place)) some ∙ at.in_text;
        in_machine = ap (λ (y : Bool). slice_get (cond y (k ∷ communications ks) (communications ks)) (suc place)) other ∙ at.in_machine;
        is = at.is;
      }

  by_arm : (o : Open) (os : List Open) (arm : Arm) (arms : List Arm) (k : KeptAlternative) (ks : List KeptAlternative)
      → IsOpenOne o o.offer arm → IsKeptArm depth all arm k → BehindOpen g b ops x o o.offer (branch_of arm.by) left
      → ((place : ℕ) (w : WaitArm) → slice_get (text.arms_of_all program c p os) place ≡ Some w → AtPlace os arms ks place w)
      → (y : Option WaitArm) → text.arm_of program c p o.offer ≡ y → (place : ℕ) (w : WaitArm)
      → slice_get (text.listed_arm y (text.arms_of_all program c p os)) place ≡ Some w → AtPlace (o ∷ os) (arm ∷ arms) (k ∷ ks) place w
  by_arm o os arm arms k ks opened kept behind_it others None is place w there =
      past o os arm arms k ks place w (communicating o.offer ∙ ap (λ (y : Option WaitArm). is_some y) is)
      (ap (λ (y : Option WaitArm). is_some y) (sym (arm_same c p program g b x number depth (length ops) all behind o o.offer arm k opened kept) ∙ is))
      (others place w there)
  by_arm o os arm arms k ks opened kept behind_it others (Some v) is zero w there =
      let same : v ≡ w = (let both : Some v ≡ Some w = there in cc) in
      let some : text.is_communication o.offer ≡ true = communicating o.offer ∙ ap (λ (y : Option WaitArm). is_some y) is in
      let other : communicates k ≡ true = ap (λ (y : Option WaitArm). is_some y)
      (sym (arm_same c p program g b x number depth (length ops) all behind o o.offer arm k opened kept) ∙ is) in
      record {
        o = o;
        arm = arm;
        kept = k;
        open_one = opened;
        is_kept = kept;
        left_behind = behind_it;
        leads = λ j lead. lead.0;
        in_text = ap (λ (y : Bool). slice_get (if y then o ∷ text.communications os else text.communications os) 0) some;
        in_machine = ap (λ (y : Bool). slice_get (cond y (k ∷ communications ks) (communications ks)) 0) other;
        is = is ∙ ap (λ (u : WaitArm). Some u) same;
      }
  by_arm o os arm arms k ks opened kept behind_it others (Some v) is (suc place) w there =
      next o os arm arms k ks place w (communicating o.offer ∙ ap (λ (y : Option WaitArm). is_some y) is)
      (ap (λ (y : Option WaitArm). is_some y) (sym (arm_same c p program g b x number depth (length ops) all behind o o.offer arm k opened kept) ∙ is))
      (others place w there)

  pub at_place : (os : List Open) (arms : List Arm) (ks : List KeptAlternative) → AreOpen g (site_of g b x) (length ops) os arms behind
      → AreKeptArms depth all arms ks → BehindAll g b ops x os arms left → (place : ℕ) (w : WaitArm)
      → slice_get (text.arms_of_all program c p os) place ≡ Some w → AtPlace os arms ks place w
  at_place [] [] [] are kept behind_all place w there = (let no : None ≡ Some w = there in cc)
  at_place [] [] (k ∷ ks) are kept behind_all place w there = absurd kept
  at_place [] (arm ∷ arms) ks are kept behind_all place w there = absurd are
  at_place (o ∷ os) [] ks are kept behind_all place w there = absurd are
  at_place (o ∷ os) (arm ∷ arms) [] are kept behind_all place w there = absurd kept
  at_place (o ∷ os) (arm ∷ arms) (k ∷ ks) are kept behind_all place w there =
      by_arm o os arm arms k ks are.0 kept.0 behind_all.0 (λ j u is. at_place os arms ks are.1 kept.1 behind_all.1 j u is)
      (text.arm_of program c p o.offer) refl place w there

  -- ## The `timeout`

  -- both sides have the same one
  pub record TimedOut (os : List Open) (arms : List Arm) (ks : List KeptAlternative) : Type 0 where
    pub o : Open
    pub arm : Arm
    pub kept : KeptAlternative
    pub seconds : ℕ
    pub left_behind : BehindOpen g b ops x o o.offer (branch_of arm.by) left
    pub offer_is : o.offer ≡ to_wait (pos seconds)
    pub machine_is : kept.alternative.offer ≡ MachineTimeout seconds
    pub branch : branch_of arm.by ≡ kept.alternative.branch
    pub leads : (j : ℕ) → LeadWithin facts j arms → LeadsWithin facts j arm.by
    pub ahead : (at : ℕ) → LeadAhead at arms → LeadsAhead at arm.by
    pub by_is : arm.by ≡ ARMT (branch_of arm.by)
    pub in_text : open_timeout os ≡ Some (record { seconds = seconds; at = o })
    pub in_machine : first_sought Delay ks ≡ Some kept

  abbrev TimesOut : List Open → List Arm → List KeptAlternative → Type 0
  TimesOut os arms ks = ((open_timeout os ≡ None) × (first_sought Delay ks ≡ None)) ⊎ TimedOut os arms ks

  -- what is sought of an alternative that is none
  no_delay : (o : Open) (offer : Offer) (arm : Arm) (k : KeptAlternative) → IsOpenOne o offer arm → IsKeptArm depth all arm k
      → ((n : ℤ) → offer ≡ to_wait n → ⊥) → (timeout_at o offer ≡ None) × (is_sought Delay k.alternative.offer ≡ false)
  no_delay o (to_send channel v) arm k opened kept none =
      let made = subst (λ (i : Instr). IsMadeBy depth i arm.operands k.alternative kept.words) opened.2 kept.made in
      (refl, ap (λ (a : Alternative). is_sought Delay a.offer) made.3)
  no_delay o (to_receive channel target) arm k opened kept none =
      let made = subst (λ (i : Instr). IsMadeBy depth i arm.operands k.alternative kept.words) opened.2 kept.made in
      (refl, (receiving_delay depth opened.1 arm.operands opened.0 k.alternative made.1).0)
  no_delay o (to_accept a) arm k opened kept none =
      let made = subst (λ (i : Instr). IsMadeBy depth i arm.operands k.alternative kept.words) opened.1 kept.made in
      (refl, ap (λ (y : Alternative). is_sought Delay y.offer) made.1)
  no_delay o (to_wait n) arm k opened kept none = absurd (none n refl)
  no_delay o to_end arm k opened kept none =
      let made = subst (λ (i : Instr). IsMadeBy depth i arm.operands k.alternative kept.words) opened.0 kept.made in
      (refl, ap (λ (y : Alternative). is_sought Delay y.offer) made.1)

  later_timeout : (o : Open) (os : List Open) (arm : Arm) (arms : List Arm) (k : KeptAlternative) (ks : List KeptAlternative)
      → (timeout_at o o.offer ≡ None) × (is_sought Delay k.alternative.offer ≡ false) → TimesOut os arms ks
      → TimesOut (o ∷ os) (arm ∷ arms) (k ∷ ks)
  later_timeout o os arm arms k ks none (inl both) =
      inl (
        ap (λ (y : Option Timeout). or_timeout y (open_timeout os)) none.0 ∙ both.0,
        ap (λ (y : Bool). cond y (Some k) (first_sought Delay ks)) none.1 ∙ both.1,
      )
  later_timeout o os arm arms k ks none (inr at) =
      inr (record {
        o = at.o;
        arm = at.arm;
        kept = at.kept;
        seconds = at.seconds;
        left_behind = at.left_behind;
        offer_is = at.offer_is;
        machine_is = at.machine_is;
        branch = at.branch;
        leads = λ j lead. at.leads j lead.1;
        ahead = λ here lead. at.ahead here lead.1;
        by_is = at.by_is;
        in_text = ap (λ (y : Option Timeout). or_timeout y (open_timeout os)) none.0 ∙ at.in_text;
        in_machine = ap (λ (y : Bool). cond y (Some k) (first_sought Delay ks)) none.1 ∙ at.in_machine;
      })

  same_top : (n : ℤ) (j : ℕ) → n ∷ [] ≡ pos j ∷ [] → n ≡ pos j
  same_top n j h = cc

  this_timeout : (o : Open) (os : List Open) (arm : Arm) (arms : List Arm) (k : KeptAlternative) (ks : List KeptAlternative) (n : ℤ)
      → o.offer ≡ to_wait n → IsOpenOne o (to_wait n) arm → IsKeptArm depth all arm k → BehindOpen g b ops x o o.offer (branch_of arm.by) left
      → TimedOut (o ∷ os) (arm ∷ arms) (k ∷ ks)
  this_timeout o os arm arms k ks n offer opened kept behind_it =
      let made = subst (λ (i : Instr). IsMadeBy depth i arm.operands k.alternative kept.words) opened.1 kept.made in
      let whole : n ≡ pos made.0 = same_top n made.0 (sym opened.2 ∙ made.1) in
      let offer_is : o.offer ≡ to_wait (pos made.0) = offer ∙ ap to_wait whole in
      let machine_is : k.alternative.offer ≡ MachineTimeout made.0 = ap (λ (a : Alternative). a.offer) made.3 in
      record {
        o = o;
        arm = arm;
        kept = k;
        seconds = made.0;
        left_behind = behind_it;
        offer_is = offer_is;
        machine_is = machine_is;
        branch = branch_is depth arm.by arm.operands k.alternative kept.words kept.made;
        leads = λ j lead. lead.0;
        ahead = λ at lead. lead.0;
        by_is = opened.1 ∙ ap ARMT (sym (ap branch_of opened.1));
        in_text = ap (λ (y : Offer). or_timeout (timeout_at o y) (open_timeout os)) offer_is;
        in_machine = ap (λ (y : MachineOffer). cond (is_sought Delay y) (Some k) (first_sought Delay ks)) machine_is;
      }

  by_offer : (o : Open) (os : List Open) (arm : Arm) (arms : List Arm) (k : KeptAlternative) (ks : List KeptAlternative) (offer : Offer) → o.offer ≡ offer
      → IsOpenOne o o.offer arm → IsKeptArm depth all arm k → BehindOpen g b ops x o o.offer (branch_of arm.by) left → TimesOut os arms ks
      → TimesOut (o ∷ os) (arm ∷ arms) (k ∷ ks)
  by_offer o os arm arms k ks (to_wait n) is opened kept behind_it others =
      inr (this_timeout o os arm arms k ks n is (subst (λ (y : Offer). IsOpenOne o y arm) is opened) kept behind_it)
  by_offer o os arm arms k ks (to_send channel v) is opened kept behind_it others =
      later_timeout o os arm arms k ks
      (no_delay o o.offer arm k opened kept (λ n other. let no : to_send channel v ≡ to_wait n = sym is ∙ other in cc)) others
  by_offer o os arm arms k ks (to_receive channel target) is opened kept behind_it others =
      later_timeout o os arm arms k ks
      (no_delay o o.offer arm k opened kept (λ n other. let no : to_receive channel target ≡ to_wait n = sym is ∙ other in cc)) others
  by_offer o os arm arms k ks (to_accept a) is opened kept behind_it others =
      later_timeout o os arm arms k ks
      (no_delay o o.offer arm k opened kept (λ n other. let no : to_accept a ≡ to_wait n = sym is ∙ other in cc)) others
  by_offer o os arm arms k ks to_end is opened kept behind_it others =
      later_timeout o os arm arms k ks
      (no_delay o o.offer arm k opened kept (λ n other. let no : to_end ≡ to_wait n = sym is ∙ other in cc)) others

  pub timeout_same : (os : List Open) (arms : List Arm) (ks : List KeptAlternative) → AreOpen g (site_of g b x) (length ops) os arms behind
      → AreKeptArms depth all arms ks → BehindAll g b ops x os arms left → TimesOut os arms ks
  timeout_same [] [] [] are kept behind_all = inl (refl, refl)
  timeout_same [] [] (k ∷ ks) are kept behind_all = absurd kept
  timeout_same [] (arm ∷ arms) ks are kept behind_all = absurd are
  timeout_same (o ∷ os) [] ks are kept behind_all = absurd are
  timeout_same (o ∷ os) (arm ∷ arms) [] are kept behind_all = absurd kept
  timeout_same (o ∷ os) (arm ∷ arms) (k ∷ ks) are kept behind_all =
      by_offer o os arm arms k ks o.offer refl are.0 kept.0 behind_all.0 (timeout_same os arms ks are.1 kept.1 behind_all.1)

  -- ## `terminate`

  end_same : (o : Open) (offer : Offer) (arm : Arm) (k : KeptAlternative) → IsOpenOne o offer arm → IsKeptArm depth all arm k
      → is_end offer ≡ is_sought End k.alternative.offer
  end_same o (to_send channel v) arm k opened kept =
      let made = subst (λ (i : Instr). IsMadeBy depth i arm.operands k.alternative kept.words) opened.2 kept.made in
      ap (λ (a : Alternative). is_sought End a.offer) (sym made.3)
  end_same o (to_receive channel target) arm k opened kept =
      let made = subst (λ (i : Instr). IsMadeBy depth i arm.operands k.alternative kept.words) opened.2 kept.made in
      sym (receiving_delay depth opened.1 arm.operands opened.0 k.alternative made.1).1
  end_same o (to_accept a) arm k opened kept =
      let made = subst (λ (i : Instr). IsMadeBy depth i arm.operands k.alternative kept.words) opened.1 kept.made in
      ap (λ (y : Alternative). is_sought End y.offer) (sym made.1)
  end_same o (to_wait n) arm k opened kept =
      let made = subst (λ (i : Instr). IsMadeBy depth i arm.operands k.alternative kept.words) opened.1 kept.made in
      ap (λ (y : Alternative). is_sought End y.offer) (sym made.3)
  end_same o to_end arm k opened kept =
      let made = subst (λ (i : Instr). IsMadeBy depth i arm.operands k.alternative kept.words) opened.0 kept.made in
      ap (λ (y : Alternative). is_sought End y.offer) (sym made.1)

  either_found : (a : Bool) (k : KeptAlternative) (rest : Option KeptAlternative) → (a || is_some rest) ≡ is_some (cond a (Some k) rest)
  either_found true k rest = refl
  either_found false k rest = refl

  pub ends_same : (os : List Open) (arms : List Arm) (ks : List KeptAlternative) → AreOpen g (site_of g b x) (length ops) os arms behind
      → AreKeptArms depth all arms ks → may_terminate_at os ≡ is_some (first_sought End ks)
  ends_same [] [] [] are kept = refl
  ends_same [] [] (k ∷ ks) are kept = absurd kept
  ends_same [] (arm ∷ arms) ks are kept = absurd are
  ends_same (o ∷ os) [] ks are kept = absurd are
  ends_same (o ∷ os) (arm ∷ arms) [] are kept = absurd kept
  ends_same (o ∷ os) (arm ∷ arms) (k ∷ ks) are kept =
      ap (λ (y : Bool). y || may_terminate_at os) (end_same o o.offer arm k are.0 kept.0)
      ∙ ap (λ (y : Bool). is_sought End k.alternative.offer || y) (ends_same os arms ks are.1 kept.1)
      ∙ either_found (is_sought End k.alternative.offer) k (first_sought End ks)
