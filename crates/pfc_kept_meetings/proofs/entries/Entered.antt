-- A decision that takes an alternative which accepts an entry keeps the representation.
use Rattle.std.proofs.Common.{◌≡◌, ℕ, ◌<◌, ◌≤◌, Bool, true, false, if◌then◌else◌, ℤ, List, [], length, set, slice_get, Option, Some, Ok, refl}
use Rattle.std.proofs.Common.{sym, ap, ◌∙◌, subst, arith}
use Rattle.pfc_code.specs.declared.instructions.Instr.{Instr}
use Rattle.pfc_code.specs.declared.instructions.Instr.TheVariants.{ARMA}
use Rattle.pfc_state.specs.declared.waits.Arm.{Arm as WaitArm}
use Rattle.pfc_state.specs.declared.waits.Arm.TheVariants.{Accept as Entered}
use Rattle.pfc_world.specs.Partners.{partner, caller}
use Rattle.pfc_world.specs.Rendezvous as table
use Rattle.pfc_world.specs.Selects.{communicated_with}
use Rattle.pfc_world.specs.Transitions.{rested}
use Rattle.pfc_semantics.specs.Programs.{Block, Program}
use Rattle.pfc_semantics.specs.Remainders.{Context, Accepting, Offer, Open, Selecting, Remainder, to_accept, decides}
use Rattle.pfc_semantics.specs.Rendezvous.{accepts_from}
use Rattle.pfc_semantics.specs.Channels as channels
use Rattle.pfc_semantics.specs.Configurations.{Config, Effect, activity_of, with_table}
use Rattle.pfc_semantics.specs.Selects as text
use Rattle.pfc_semantics.specs.Selects.{decides_at}
use Rattle.pfc_translation.specs.Sites.{is_accept}
use Rattle.pfc_translation.specs.Selects.{accept_cell, accept_cells}
use Rattle.pfc_stacks.specs.Stacks.{Stacks, stack_of, operands_of}
use Rattle.pfc_machines.specs.declared.machine.Machine.{Machine}
use Rattle.pfc_machines.specs.declared.descriptors.Descriptor.{Descriptor}
use Rattle.pfc_machines.specs.declared.alternatives.Alternative.{Alternative}
use Rattle.pfc_machines.specs.declared.alternatives.KeptAlternative.{KeptAlternative}
use Rattle.pfc_machines.specs.declared.alternatives.Offer.{Offer as MachineOffer}
use Rattle.pfc_machines.specs.declared.alternatives.Offer.TheVariants.{Accept as AcceptOffer}
use Rattle.pfc_machines.specs.Actions.{Effect as MachineEffect}
use Rattle.pfc_machines.specs.Descriptors.{descriptor_of, meeting}
use Rattle.pfc_machines.specs.Offers.{communications, without}
use Rattle.pfc_meeting_actions.specs.Meetings.{begins_meeting, arguments_taken}
use Rattle.pfc_select_actions.specs.Conditions.{CanCommunicate, CanTakeAt}
use Rattle.pfc_select_actions.specs.Selects as machine
use Rattle.pfc_select_actions.specs.Selects.{open_count, open_ones, open_arms, matched_places}
use Rattle.pfc_machine_acts.specs.Performing.{silent}
use Rattle.pfc_standing_code.specs.Settings.{of_own, site_of, SeesAccepts}
use Rattle.pfc_standing_code.specs.TypedStatements.{AcceptsEntry}
use Rattle.pfc_standing_code.specs.Words.{IsChecked}
use Rattle.pfc_standing_code.specs.Performs.{IsOpen, Performs}
use Rattle.pfc_standing_code.specs.Following.{ArrivedBy}
use Rattle.pfc_following_source.specs.Behind.{BehindAccept, BehindOpen, branch_of}
use Rattle.pfc_representation.specs.Alternatives.{IsMadeBy}
use Rattle.pfc_representation.specs.Levels.{Facts, program_in, LivingLevel}
use Rattle.pfc_representation.specs.Rooms.{process_count, IsInBlock, LeadsWithin}
use Rattle.pfc_representation.specs.Callers.{IsWithin}
use Rattle.pfc_representation.specs.Acting.{IsActing, HasArrived}
use Rattle.pfc_representation.specs.Actions.{ComeToSame, IsKept}
use Rattle.pfc_kept_meetings.specs.Owners.{HasTypedEntries}
use Rattle.pfc_kept_meetings.specs.Accepts.{HasProcesses, KeepsAccepts}
use Rattle.pfc_kept_meetings.specs.Waiting.{StandsWithin}
use Rattle.pfc_kept_meetings.proofs.Apart.{AreApart}
use Rattle.pfc_kept_meetings.proofs.Standing as standing
use Rattle.pfc_kept_meetings.specs.selects.Groups.{IsEntry, TakesEntry}
use Rattle.pfc_kept_meetings.proofs.selects.Both as both
use Rattle.pfc_kept_meetings.proofs.selects.Chosen as the
use Rattle.pfc_kept_meetings.proofs.selects.Chosen.{IsChosen, chosen, which}
use Rattle.pfc_kept_meetings.proofs.selects.Deciding.{leads, its, matched_same, may_offer, decides_kept}
use Rattle.pfc_kept_meetings.proofs.selects.Gone.{HasBranches, within_anywhere}
use Rattle.pfc_kept_meetings.proofs.selects.Otherwise.{Decides}
use Rattle.pfc_kept_meetings.proofs.selects.Taken.{IsTaken, machine_decides, text_decides}
use Rattle.pfc_kept_meetings.proofs.selects.Unmatched.{its_branches}
use Rattle.pfc_kept_meetings.specs.entries.Selects.{StandWithin}
use Rattle.pfc_kept_meetings.proofs.entries.Able.{can_meet}
use Rattle.pfc_kept_meetings.proofs.entries.Begun.{begun_same}
use Rattle.pfc_kept_meetings.proofs.entries.Opened.{accept_in, some_taken, among_all, branch_goes_on, meets_all}
use Rattle.pfc_kept_meetings.proofs.entries.Orders.{descriptors_same}
use Rattle.pfc_kept_meetings.proofs.entries.Withdrawn as withdrawn
use Rattle.pfc_kept_meetings.proofs.entries.Withdrawn.{acting_less, descriptor_here}

same_one : {A : Type 0} (x y : A) (o : Option A) → o ≡ Some x → o ≡ Some y → x ≡ y
same_one x y o is also = (let both : Some x ≡ Some y = sym is ∙ also in cc)

module _ (facts : Facts) (m : Machine) (c : Config) (p choice : ℕ) (level : LivingLevel) (x : Context) (sel : Selecting) (k : Remainder)
    (acting : IsActing facts m c p level) (arrived : HasArrived facts m c p level (decides x sel k)) (own : level.setting.trial ≡ of_own) (b : Block)
    (checked : IsChecked level.setting b x.env)
    (by : ArrivedBy level.setting b (stack_of m.stacks p).at (operands_of m.stacks p) level.arms (decides x sel k))
    (takes : TakesEntry (program_in facts) c p sel choice) (processes : HasProcesses facts.tree) (typed : HasTypedEntries facts.tree)
    (runs : KeepsAccepts facts c) (those : StandWithin facts c p x sel.offered) where
  abbrev g : Program
  g = program_in facts

  abbrev d : Descriptor
  d = descriptor_of m.descriptors p

  abbrev ops : List ℤ
  ops = operands_of m.stacks p

  abbrev n : ℕ
  n = open_count m p

  abbrev i : ℕ
  i = text.place_taken sel.pri choice

  less : i < length (text.matched_places g c p sel)
  less = some_taken sel.offered (text.matched_places g c p sel) i (slice_get (text.matched_places g c p sel) i) refl takes

  abbrev at_it : IsChosen facts m c p choice level x sel k acting arrived own b checked by i less
  at_it = chosen facts m c p choice level x sel k acting arrived own b checked by i less

  abbrev its_one : IsTaken c.table.rows p (channels.arms_of_all g c p sel.offered) i
  its_one = which facts m c p choice level x sel k acting arrived own b checked by i less

  abbrev q : ℕ
  q = its_one.whom

  -- ## The accept

  accept_there : (a : Accepting) × (at_it.o.offer ≡ to_accept a)
  accept_there =
      accept_in at_it.o.offer
      (subst (λ (y : Option Open). IsEntry y) (ap (λ (y : Option ℕ). text.open_at sel.offered y) its_one.among ∙ at_it.in_text) takes)

  abbrev a : Accepting
  a = accept_there.0

  offer : at_it.o.offer ≡ to_accept a
  offer = accept_there.1

  abbrev cell : ℕ
  cell = accept_cell (site_of level.setting b x) a.scope

  abbrev size : ℕ
  size = accept_cells (site_of level.setting b x) a.scope

  abbrev behind_it : ℕ → Type 0
  behind_it = λ end. Performs level.setting b x.env end ops [] k

  opened : IsOpen level.setting (site_of level.setting b x) (length ops) at_it.o (to_accept a) at_it.arm behind_it
  opened =
      subst (λ (y : Offer). IsOpen level.setting (site_of level.setting b x) (length ops) at_it.o y at_it.arm behind_it) offer at_it.open_one

  abbrev to : ℕ
  to = opened.0

  is_by : at_it.arm.by ≡ ARMA a.entry cell size to
  is_by = opened.1

  goes_on : AcceptsEntry level.setting.program.state.blocks b.scope a.entry a.scope × ((end : ℕ) × behind_it end)
  goes_on =
      branch_goes_on level.setting (site_of level.setting b x) to (length ops) at_it.o.replica a at_it.o.next at_it.o.stmts behind_it opened.3

  accepts : AcceptsEntry level.setting.program.state.blocks b.scope a.entry a.scope
  accepts = goes_on.0

  behind : BehindAccept level.setting b to ops x a at_it.o k
  behind =
      subst (λ (y : Instr). BehindOpen level.setting b ops x at_it.o (to_accept a) (branch_of y) k) is_by
      (subst (λ (y : Offer). BehindOpen level.setting b ops x at_it.o y (branch_of at_it.arm.by) k) offer at_it.left_behind)

  -- so the machine has made it
  alternative_is : at_it.kept.alternative
      ≡ record { activation = length (activity_of g c p).activations; offer = AcceptOffer a.entry cell size; branch = to }
  alternative_is =
      (subst
      (λ (y : Instr). IsMadeBy (length (activity_of g c p).activations) y at_it.arm.operands at_it.kept.alternative at_it.is_kept.words)
      is_by at_it.is_kept.made).1

  offer_is : at_it.kept.alternative.offer ≡ AcceptOffer a.entry cell size
  offer_is = ap (λ (y : Alternative). y.offer) alternative_is

  branch_is : at_it.kept.alternative.branch ≡ to
  branch_is = ap (λ (y : Alternative). y.branch) alternative_is

  place_there : (j : ℕ) × (slice_get sel.offered j ≡ Some at_it.o)
  place_there = among_all sel.offered its_one.place at_it.o at_it.in_text

  sees : SeesAccepts level.setting (site_of level.setting b x)
  sees =
      standing.branch_sees level.setting (site_of level.setting b x) to (length ops) at_it.o.replica a at_it.o.next at_it.o.stmts behind_it opened.3

  within_those : StandsWithin facts c p x a
  within_those = those place_there.0 at_it.o a place_there.1 offer

  of_block : is_accept b a.scope ≡ true
  of_block = standing.of_block facts m c acting.homes acting.entries acting.alike p level acting.actor.stands own acting.actor.process processes b x checked a
      accepts sees within_those

  apart : AreApart b a.scope level.setting.accepts
  apart = standing.apart facts m c acting.homes acting.entries acting.alike p level acting.actor.stands own acting.actor.process processes b x checked a
      accepts sees within_those

  -- ## Its caller

  arm_is : its_one.arm ≡ Entered a.entry
  arm_is = (let both : Some its_one.arm ≡ Some (Entered a.entry) = sym at_it.is ∙ ap (λ (y : Offer). channels.arm_of g c p y) offer in cc)

  is_first : caller c.table.rows p a.entry ≡ Some q
  is_first = ap (λ (y : WaitArm). partner c.table.rows p y) (sym arm_is) ∙ its_one.met

  -- ## The owner goes on without what it offered

  abbrev branches : HasBranches facts acting.homes acting.entries c.store c.table p level (without n d.communications)
  branches =
      its_branches facts m c p level acting own b x checked sel k by.1.1 (leads facts m c p choice level x sel k acting arrived own b checked by).1
      arrived.arms arrived.within arrived.room

  leads_within : IsInBlock facts branches.number to
  leads_within =
      subst (λ (y : Instr). LeadsWithin facts branches.number y) is_by (at_it.leads branches.number branches.branches)

  count_is : n ≡ length level.arms
  count_is = both.count_is facts m c p level acting own b x checked sel.offered k

  abbrev without_it : Machine
  without_it = withdrawn.less facts m c p level acting own n count_is

  abbrev level0 : LivingLevel
  level0 = record level { arms = [] }

  within : IsWithin facts level0 to (descriptor_of without_it.descriptors p).communications
  within =
      subst (λ (y : Descriptor). IsWithin facts level0 to y.communications) (sym (descriptor_here facts m c p level acting own n count_is))
      (within_anywhere facts acting.homes acting.entries c.store c.table p level (without n d.communications) branches to leads_within)

  none_fit : (j : ℕ) → 0 ≤ j
  none_fit j = grind arith

  -- ## Both sides

  abbrev then_stacks : Stacks
  then_stacks = let taken = arguments_taken m.stacks p cell size q in set taken p (record (stack_of taken p) { at = to })

  abbrev then_machine : List Descriptor → Machine
  then_machine descriptors = record m { stacks = then_stacks; descriptors = descriptors; world = rested (table.taken m.world p q) }

  abbrev then_source : Config
  then_source = with_table (accepts_from g c p x a at_it.o q k) (table.taken c.table p q)

  begun : ComeToSame facts m c p x.line
      (silent (Ok (then_machine (set without_it.descriptors p (meeting q (descriptor_of without_it.descriptors p)))))) (Ok then_source)
  begun =
      begun_same facts without_it c p level0 (acting_less facts m c p level acting own n count_is) own b x checked a accepts processes typed runs of_block
      apart q is_first to at_it.o k x.line goes_on.1.0 goes_on.1.1 behind arrived.room (none_fit level.setting.arms) refl within

  inside : p < length m.descriptors
  inside = subst (λ j. p < j) (sym acting.alike.words.descriptors) acting.actor.process

  machine_takes : machine.takes_matched i p m
      ≡ then_machine (set without_it.descriptors p (meeting q (descriptor_of without_it.descriptors p)))
  machine_takes =
      the.on_machine facts m c p choice level x sel k acting arrived own b checked by i less
      ∙ ap (λ (y : WaitArm). machine.communicates_by at_it.kept.alternative.offer at_it.kept n p q
      (record m { world = rested (communicated_with (Some q) m.world p y) })) arm_is
      ∙ ap (λ (y : MachineOffer). machine.communicates_by y at_it.kept n p q (record m { world = rested (table.taken m.world p q) })) offer_is
      ∙ ap (λ j. machine.decided (begins_meeting (record m { world = rested (table.taken m.world p q) }) p cell size q) p n j) branch_is
      ∙ ap (λ (ds : List Descriptor). then_machine ds) (descriptors_same m.descriptors p q n inside)

  source_takes : text.takes_matched g c p x sel k i ≡ then_source
  source_takes =
      the.in_text facts m c p choice level x sel k acting arrived own b checked by i less
      ∙ ap (λ (y : WaitArm). with_table (text.communicates_by g c p x at_it.o k q at_it.o.offer (Some y)) (communicated_with (Some q) c.table p y)) arm_is
      ∙ ap (λ (y : Offer). with_table (text.communicates_by g c p x at_it.o k q y (Some (Entered a.entry))) (table.taken c.table p q)) offer

  same : ComeToSame facts m c p x.line (silent (Ok (machine.takes_matched i p m))) (Ok (text.takes_matched g c p x sel k i))
  same =
      subst (λ (y : Machine). ComeToSame facts m c p x.line (silent (Ok y)) (Ok (text.takes_matched g c p x sel k i))) (sym machine_takes)
      (subst
      (λ (e : Config). ComeToSame facts m c p x.line
      (silent (Ok (then_machine (set without_it.descriptors p (meeting q (descriptor_of without_it.descriptors p)))))) (Ok e))
      (sym source_takes) begun)

  -- ## It may

  may_meet : process_count facts ≤ d.communications.room.meetings
  may_meet =
      meets_all (process_count facts) d.communications.room.meetings level.setting (site_of level.setting b x) (length ops) sel.offered level.arms behind_it
      place_there.0 at_it.o a by.1.1 place_there.1 offer acting.actor.stands.accepts

  can : CanCommunicate at_it.kept.alternative.offer at_it.kept p q m
  can =
      subst (λ (y : MachineOffer). CanCommunicate y at_it.kept p q m) (sym offer_is)
      (can_meet facts m c p level acting own b x checked a accepts processes typed runs of_block apart q is_first may_meet)

  less_there : i < length (matched_places m p)
  less_there =
      subst (λ (ns : List ℕ). i < length ns) (sym (matched_same facts m c p choice level x sel k acting arrived own b checked by)) less

  partner_there : machine.partner_at m.world.rows p (slice_get (open_arms m p) its_one.place) ≡ Some q
  partner_there =
      ap (λ y. machine.partner_at m.world.rows p y) (the.arm_there facts m c p choice level x sel k acting arrived own b checked by i less)
      ∙ the.met_there facts m c p choice level x sel k acting arrived own b checked by i less

  can_take : CanTakeAt i p m
  can_take =
      record {
        offer = may_offer facts m c p choice level x sel k acting arrived own b checked by;
        matched = less_there;
        partner = λ place whom one is there met.
            let place_is : its_one.place ≡ place =
            same_one its_one.place place (slice_get (matched_places m p) i)
            (the.place_there facts m c p choice level x sel k acting arrived own b checked by i less) is in
            let one_is : at_it.kept ≡ one =
            same_one at_it.kept one (slice_get (communications (open_ones m p)) place)
            (subst (λ j. slice_get (communications (open_ones m p)) j ≡ Some at_it.kept) place_is
            (the.own_there facts m c p choice level x sel k acting arrived own b checked by i less)) there in
            let whom_is : q ≡ whom =
            same_one q whom (machine.partner_at m.world.rows p (slice_get (open_arms m p) place))
            (subst (λ j. machine.partner_at m.world.rows p (slice_get (open_arms m p) j) ≡ Some q) place_is partner_there) met in
            subst (λ (y : KeptAlternative). CanCommunicate y.alternative.offer y p whom m) one_is
            (subst (λ j. CanCommunicate at_it.kept.alternative.offer at_it.kept p j m) whom_is can);
      }

  -- ## The decision

  abbrev decision : Decides facts m c p level acting own b x checked sel k by.1.1 (leads facts m c p choice level x sel k acting arrived own b checked by).1
      arrived.arms arrived.within arrived.room
  decision = its facts m c p choice level x sel k acting arrived own b checked by

  place_same : machine.place_taken decision.mark choice ≡ i
  place_same = ap (λ j. machine.place_taken j choice) decision.mark_is ∙ by_mark sel.pri
    where
      by_mark : (pri : Bool) → machine.place_taken (if pri then 1 else 0) choice ≡ text.place_taken pri choice
      by_mark true = refl
      by_mark false = refl

  machine_is : machine.decides decision.mark decision.other choice p m ≡ Ok (machine.takes_matched i p m)
  machine_is =
      machine_decides decision.mark decision.other choice p i m (matched_places m p) less_there
      ∙ ap (λ j. Ok (machine.takes_matched j p m)) place_same

  text_is : decides_at g c p x sel k choice ≡ Ok (text.takes_matched g c p x sel k i)
  text_is = text_decides g c p i choice x sel k (text.matched_places g c p sel) less

  pub entry_kept : IsKept facts m c p choice (decides x sel k)
  entry_kept =
      decides_kept facts m c p choice level x sel k acting arrived own b checked by
      (λ some. subst (λ j. CanTakeAt j p m) (sym place_same) can_take)
      (subst (λ (e : MachineEffect). ComeToSame facts m c p x.line (silent e) (decides_at g c p x sel k choice)) (sym machine_is)
      (subst (λ (e : Effect). ComeToSame facts m c p x.line (silent (Ok (machine.takes_matched i p m))) e) (sym text_is) same))

-- where the alternative that is taken accepts an entry
pub entries_are_kept : (facts : Facts) (m : Machine) (c : Config) (p choice : ℕ) (level : LivingLevel) (x : Context) (sel : Selecting) (k : Remainder)
    → TakesEntry (program_in facts) c p sel choice → HasProcesses facts.tree → HasTypedEntries facts.tree → KeepsAccepts facts c
    → StandWithin facts c p x sel.offered
    → IsActing facts m c p level → HasArrived facts m c p level (decides x sel k) → IsKept facts m c p choice (decides x sel k)
entries_are_kept facts m c p choice level x sel k takes processes typed runs those acting arrived =
    let (b, checked, by) = arrived.arrived in
    entry_kept facts m c p choice level x sel k acting arrived by.0 b checked by takes processes typed runs those
