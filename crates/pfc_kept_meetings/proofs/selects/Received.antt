-- A decision takes an alternative that receives: its message comes from a sender.
use Rattle.std.proofs.Common.{◌≡◌, ℕ, ◌<◌, ◌≤◌, ◌==◌, ℤ, true, false, List, [], length, reverse, set, Option, Some, IfSome, Ok}
use Rattle.std.proofs.Common.{refl, sym, ap, ◌∙◌, subst, arith, inl}
use Rattle.std.specs.Prelude.{is_some}
use Rattle.std.proofs.lemmas.List.{get_or-set_same, same_from_push}
use Rattle.pfc_code.specs.declared.instructions.Instr.{Instr}
use Rattle.pfc_code.specs.declared.instructions.Instr.TheVariants.{ARMS, ARMR}
use Rattle.pfc_state.specs.Stands.{Is_ready}
use Rattle.pfc_state.specs.declared.waits.Arm.{Arm as WaitArm}
use Rattle.pfc_state.specs.declared.waits.Arm.TheVariants.{Send as To, Receive as From}
use Rattle.pfc_world.specs.Partners.{partner, sender, ticket_open_to}
use Rattle.pfc_world.specs.Selects.{communicated_with}
use Rattle.pfc_world.specs.Tables.{Table, at}
use Rattle.pfc_world.specs.Transitions.{rested, placed, ticked}
use Rattle.pfc_semantics.specs.Values.{Value}
use Rattle.pfc_semantics.specs.Displays.{Spot}
use Rattle.pfc_semantics.specs.Programs.{Block, Program}
use Rattle.pfc_semantics.specs.Remainders.{Context, Offer, Selecting, Remainder, to_send, to_receive, to_accept, to_wait, to_end, decides}
use Rattle.pfc_semantics.specs.Rewriting.{Doing, going}
use Rattle.pfc_semantics.specs.Channels as text
use Rattle.pfc_semantics.specs.Channels.{behind_open, Side}
use Rattle.pfc_semantics.specs.Configurations.{empty_hand, Activity, Config, nobody, activity_of, at_work, goes_on, with_table, location_for, number_for}
use Rattle.pfc_semantics.specs.Selects as text_selects
use Rattle.pfc_stacks.specs.Refs.{ref_of}
use Rattle.pfc_stacks.specs.Stacks.{stack_of, operands_of, written}
use Rattle.pfc_stacks.specs.Conditions.{AreLive}
use Rattle.pfc_machines.specs.declared.machine.Machine.{Machine}
use Rattle.pfc_machines.specs.declared.descriptors.Descriptor.{Descriptor}
use Rattle.pfc_machines.specs.declared.alternatives.Alternative.{Alternative}
use Rattle.pfc_machines.specs.declared.alternatives.KeptAlternative.{KeptAlternative}
use Rattle.pfc_machines.specs.declared.alternatives.Offer.{Offer as MachineOffer}
use Rattle.pfc_machines.specs.declared.alternatives.Offer.TheVariants.{Receive}
use Rattle.pfc_machines.specs.Communications.{Communicating}
use Rattle.pfc_machines.specs.Descriptors.{descriptor_of, withdrawn}
use Rattle.pfc_machines.specs.Offers.{message_of, without, words_in}
use Rattle.pfc_machines.specs.Partners.{goes_behind}
use Rattle.pfc_message_actions.specs.Messages.{CanHandOver}
use Rattle.pfc_select_actions.specs.Conditions.{CanCommunicate}
use Rattle.pfc_select_actions.specs.Selects as machine
use Rattle.pfc_select_actions.specs.Selects.{open_count}
use Rattle.pfc_machine_acts.specs.Performing.{silent}
use Rattle.pfc_standing_code.specs.Settings.{of_own, site_of}
use Rattle.pfc_standing_code.specs.Words.{IsChecked}
use Rattle.pfc_standing_code.specs.Performs.{IsSent, IsOpen, Performs}
use Rattle.pfc_standing_code.specs.Following.{ArrivedBy}
use Rattle.pfc_following_source.specs.Behind.{branch_of, GoesOnAt, BehindOpen}
use Rattle.pfc_representation.specs.Levels.{Facts, program_in, LivingLevel, DoesOn}
use Rattle.pfc_representation.specs.Rooms.{IsInBlock, LeadsWithin, LeadWithin}
use Rattle.pfc_representation.specs.Alternatives.{IsMadeBy}
use Rattle.pfc_representation.specs.Holding.{holders_in}
use Rattle.pfc_representation.specs.Processes.{RepresentsProcess}
use Rattle.pfc_representation.specs.Acting.{IsActing, HasArrived}
use Rattle.pfc_representation.specs.Actions.{ComeToSame}
use Rattle.pfc_kept_object_actions.proofs.Finding.{first_has}
use Rattle.pfc_kept_messages.proofs.Sight.{StillHolds}
use Rattle.pfc_kept_messages.proofs.Partner.{is_open_stand, IsShowing, behind_kept}
use Rattle.pfc_kept_messages.proofs.Meeting.{is_process, row_is, met_stays, q_there}
use Rattle.pfc_kept_messages.proofs.Finding.{waits, process, shows, makes, offers_all, is_offering, FoundThere, found_there, in_machine}
use Rattle.pfc_kept_messages.proofs.Finding as finding
use Rattle.pfc_kept_messages.proofs.Passing.{Sends, sends, Receives, receives, Delivers, delivers}
use Rattle.pfc_kept_meetings.proofs.selects.Same.{branch_is}
use Rattle.pfc_kept_meetings.proofs.selects.Targets.{receiving_offer}
use Rattle.pfc_kept_meetings.proofs.selects.Alone.{DecidesAlone}
use Rattle.pfc_kept_meetings.proofs.selects.Chosen as the
use Rattle.pfc_kept_meetings.proofs.selects.Chosen.{IsChosen, chosen, which}
use Rattle.pfc_kept_meetings.proofs.selects.Passes.{both_go}

module _ (facts : Facts) (m : Machine) (c : Config) (p choice : ℕ) (level : LivingLevel) (x : Context) (sel : Selecting) (k : Remainder)
    (acting : IsActing facts m c p level) (arrived : HasArrived facts m c p level (decides x sel k)) (own : level.setting.trial ≡ of_own) (b : Block)
    (checked : IsChecked level.setting b x.env)
    (by : ArrivedBy level.setting b (stack_of m.stacks p).at (operands_of m.stacks p) level.arms (decides x sel k)) (i : ℕ)
    (less : i < length (text_selects.matched_places (program_in facts) c p sel))
    (channel : Spot) (target : Option Spot)
    (offer : (chosen facts m c p choice level x sel k acting arrived own b checked by i less).o.offer ≡ to_receive channel target) where
  abbrev g : Program
  g = program_in facts

  abbrev d : Descriptor
  d = descriptor_of m.descriptors p

  abbrev ops : List ℤ
  ops = operands_of m.stacks p

  abbrev n : ℕ
  n = open_count m p

  abbrev at_it : IsChosen facts m c p choice level x sel k acting arrived own b checked by i less
  at_it = chosen facts m c p choice level x sel k acting arrived own b checked by i less

  abbrev depth : ℕ
  depth = length (activity_of g c p).activations

  abbrev q : ℕ
  q = (which facts m c p choice level x sel k acting arrived own b checked by i less).whom

  abbrev w : WaitArm
  w = (which facts m c p choice level x sel k acting arrived own b checked by i less).arm

  -- the channel, as both sides have it
  abbrev n0 : ℕ
  n0 = number_for g c p channel

  arm_is : w ≡ From n0
  arm_is =
      let both : Some w ≡ Some (From n0) = sym at_it.is ∙ ap (λ (y : Offer). text.arm_of g c p y) offer in cc

  opened : IsOpen level.setting (site_of level.setting b x) (length ops) at_it.o (to_receive channel target) at_it.arm
      (λ end. Performs level.setting b x.env end ops [] k)
  opened =
      subst (λ (y : Offer). IsOpen level.setting (site_of level.setting b x) (length ops) at_it.o y at_it.arm
      (λ end. Performs level.setting b x.env end ops [] k)) offer at_it.open_one

  abbrev leads_there : ℕ
  leads_there = opened.0

  abbrev z : ℕ
  z = opened.1

  is_by : at_it.arm.by ≡ ARMR z leads_there
  is_by = opened.2

  made_so : IsMadeBy depth (ARMR z leads_there) at_it.arm.operands at_it.kept.alternative at_it.is_kept.words
  made_so = subst (λ (y : Instr). IsMadeBy depth y at_it.arm.operands at_it.kept.alternative at_it.is_kept.words) is_by at_it.is_kept.made

  abbrev its : Receives facts m c acting.homes acting.entries acting.alike p d level acting.actor.stands own b x checked channel z at_it.arm.operands target
  its =
      receives facts m c acting.homes acting.entries acting.alike p d level acting.actor.stands own b x checked channel z at_it.arm.operands target
      opened.3

  offer_is : at_it.kept.alternative.offer ≡ Receive n0 z its.word
  offer_is =
      receiving_offer facts m c acting.homes acting.entries acting.alike p d level acting.actor.stands own b x checked depth z at_it.arm.operands
      leads_there at_it.kept.alternative its.n its.u target its.word n0 made_so.1 its.into (its.number ∙ sym its.spot)

  -- ## Its sender

  is_first : sender c.table.rows n0 ≡ Some q
  is_first =
      ap (λ (y : WaitArm). partner c.table.rows p y) (sym arm_is) ∙ (which facts m c p choice level x sel k acting arrived own b checked by i less).met

  ticket : is_some (ticket_open_to (To n0) (at c.table.rows q)) ≡ true
  ticket = first_has (ticket_open_to (To n0)) c.table.rows q is_first

  abbrev dq : Descriptor
  dq = descriptor_of m.descriptors q

  abbrev waits_open : is_open_stand (at c.table.rows q) ≡ true
  waits_open = waits facts m c p level acting own q (To n0) ticket

  abbrev its_showing : IsShowing facts acting.homes acting.entries c.store m.stacks c.table (holders_in facts c) q (activity_of g c q) dq waits_open
  its_showing = shows facts m c p level acting own q (To n0) ticket

  abbrev level_q : LivingLevel
  level_q = its_showing.under_way.level

  abbrev ops_q : List ℤ
  ops_q = (stack_of m.stacks q).operands

  abbrev meets_it : FoundThere facts m c p level acting own q (To n0) ticket
  meets_it = found_there facts m c p level acting own q (To n0) ticket

  own_q : level_q.setting.trial ≡ of_own
  own_q = its_showing.offers.own

  abbrev block_q : Block
  block_q = its_showing.offers.block

  abbrev context_q : Context
  context_q = its_showing.context

  abbrev behind_q : ℕ → Type 0
  behind_q = λ end. Performs level_q.setting block_q context_q.env end ops_q [] its_showing.left

  -- it sends to the same channel
  record IsSender : Type 0 where
    through : Spot
    value : Value
    cells : ℕ
    to : ℕ
    offer_is : meets_it.o.offer ≡ to_send through value
    by_is : meets_it.arm.by ≡ ARMS cells to
    is_sent : IsSent level_q.setting (site_of level_q.setting block_q context_q) through value cells meets_it.arm.operands
    same : number_for g c q through ≡ n0

  by_offer : (other : Offer) → meets_it.o.offer ≡ other
      → IsOpen level_q.setting (site_of level_q.setting block_q context_q) (length ops_q) meets_it.o other meets_it.arm behind_q
      → text.is_arm (To n0) (text.arm_of g c q other) ≡ true → IsSender
  by_offer (to_send ch value) same opened matches =
      record {
        through = ch;
        value = value;
        cells = opened.1;
        to = opened.0;
        offer_is = same;
        by_is = opened.2;
        is_sent = opened.3;
        same = number_is (number_for g c q ch) n0 matches;
      }
    where
      number_is : (j l : ℕ) → (j == l) ≡ true → j ≡ l
      number_is j l h = grind (arith, h)
  by_offer (to_receive ch other) same opened matches = absurd (let no : false ≡ true = matches in cc)
  by_offer (to_accept a) same opened matches = absurd (let no : false ≡ true = matches in cc)
  by_offer (to_wait j) same opened matches = absurd (let no : false ≡ true = matches in cc)
  by_offer to_end same opened matches = absurd (let no : false ≡ true = matches in cc)

  is_sender : IsSender
  is_sender = by_offer meets_it.o.offer refl meets_it.open_one meets_it.matches

  abbrev it_sends : Sends facts m c acting.homes acting.entries acting.alike q dq level_q its_showing.under_way.stands own_q block_q context_q
      its_showing.offers.checked is_sender.through is_sender.value is_sender.cells meets_it.arm.operands
  it_sends =
      sends facts m c acting.homes acting.entries acting.alike q dq level_q its_showing.under_way.stands own_q block_q context_q its_showing.offers.checked
      is_sender.through is_sender.value is_sender.cells meets_it.arm.operands is_sender.is_sent

  -- the message is written for the process that decides
  abbrev passes_it : Delivers facts m c acting.homes acting.entries acting.alike p d level acting.actor.stands own b x checked target its.word
      is_sender.value is_sender.cells it_sends.message
  passes_it =
      delivers facts m c acting.homes acting.entries acting.alike p d level acting.actor.stands own b x checked
      (location_for g c q is_sender.through) it_sends.u it_sends.k
      is_sender.cells is_sender.value it_sends.message it_sends.here it_sends.passes channel z at_it.arm.operands target its
      (sym it_sends.spot ∙ is_sender.same ∙ its.spot)

  abbrev branch_q : ℕ
  branch_q = meets_it.kept.alternative.branch

  abbrev depth_q : ℕ
  depth_q = (makes facts m c p level acting own q (To n0) ticket).depth

  made_by_it : IsMadeBy depth_q (ARMS is_sender.cells is_sender.to) meets_it.arm.operands meets_it.kept.alternative meets_it.is_kept.words
  made_by_it =
      subst (λ (y : Instr). IsMadeBy depth_q y meets_it.arm.operands meets_it.kept.alternative meets_it.is_kept.words) is_sender.by_is
      meets_it.is_kept.made

  leads_q_to : branch_of meets_it.arm.by ≡ branch_q
  leads_q_to =
      branch_is depth_q meets_it.arm.by meets_it.arm.operands meets_it.kept.alternative meets_it.is_kept.words meets_it.is_kept.made

  words_kept : words_in meets_it.kept.alternative.offer ≡ is_sender.cells
  words_kept = ap (λ (y : Alternative). words_in y.offer) made_by_it.3

  -- the words that the machine has kept
  message_is : message_of dq.communications meets_it.kept ≡ it_sends.message
  message_is =
      meets_it.is_kept.message
      ∙ (same_from_push meets_it.is_kept.words it_sends.message made_by_it.0 it_sends.n (sym made_by_it.1 ∙ it_sends.is)).0

  -- ## What becomes of both

  abbrev branch : ℕ
  branch = at_it.kept.alternative.branch

  abbrev latest : Communicating
  latest = without n d.communications

  abbrev doing : Doing
  doing = going x.env (behind_open at_it.o k)

  abbrev doing_q : Doing
  doing_q = going context_q.env (behind_open meets_it.o its_showing.left)

  alone : DecidesAlone facts m c p level acting own [] latest d.offered c.table branch doing empty_hand x.line
  alone =
      the.alone facts m c p choice level x sel k acting arrived own b checked by i less
      (λ j lead. subst (λ (y : Instr). IsInBlock facts j (branch_of y)) (sym is_by)
      (subst (λ (y : Instr). LeadsWithin facts j y) is_by lead))
      (subst (λ (y : Offer). BehindOpen level.setting b ops x at_it.o y (branch_of at_it.arm.by) k) offer at_it.left_behind)

  goes_q : GoesOnAt level_q.setting block_q branch_q ops_q [] doing_q
  goes_q =
      subst (λ j. GoesOnAt level_q.setting block_q j ops_q [] doing_q) leads_q_to
      (subst (λ (y : Offer). BehindOpen level_q.setting block_q ops_q context_q meets_it.o y (branch_of meets_it.arm.by) its_showing.left)
      is_sender.offer_is meets_it.left_behind)

  abbrev level_then : LivingLevel
  level_then = record level_q { arms = [] }

  does_q : DoesOn level_then branch_q ops_q doing_q
  does_q = (goes_q.0, least level_q.setting.arms, inl (block_q, its_showing.offers.checked.beside, goes_q.1))
    where
      least : (j : ℕ) → 0 ≤ j
      least j = grind arith

  leads_q : (j : ℕ) → LeadWithin facts j level_q.arms → IsInBlock facts j branch_q
  leads_q j lead =
      subst (λ l. IsInBlock facts j l) leads_q_to
      (subst (λ (y : Instr). IsInBlock facts j (branch_of y)) (sym is_sender.by_is)
      (subst (λ (y : Instr). LeadsWithin facts j y) is_sender.by_is (meets_it.leads j lead)))

  partner_behind : RepresentsProcess facts acting.homes acting.entries c.store (set m.stacks q (record (stack_of m.stacks q) { at = branch_q }))
      (ticked (placed c.table q Is_ready)) (holders_in facts c) q (at_work (activity_of g c q) doing_q) (withdrawn dq)
  partner_behind =
      behind_kept facts acting.homes acting.entries c.store m.stacks c.table (ticked (placed c.table q Is_ready)) (holders_in facts c) q
      (activity_of g c q) dq waits_open
      (row_is facts m c p level acting own q waits_open) (met_stays facts m c p level acting own q waits_open)
      (q_there facts m c p level acting own q waits_open branch ops branch_q) its_showing.under_way own_q
      (offers_all facts m c p level acting own q (To n0) ticket) branch_q leads_q doing_q does_q
      (process facts m c p level acting own q (To n0) ticket)

  passes : StillHolds facts acting.homes acting.entries c.store passes_it.store (written m.stacks (ref_of its.word) (reverse it_sends.message))
  passes = passes_it.holds

  -- ## Both sides

  abbrev w1 : Table
  w1 = rested (placed m.world q Is_ready)

  abbrev m1 : Machine
  m1 = record m { world = w1 }

  abbrev handed : List ℤ → Machine
  handed message = record m1 { stacks = written m.stacks (ref_of its.word) (reverse message) }

  abbrev after_it : List ℤ → Machine
  after_it message = goes_behind (machine.decided (handed message) p n branch) q branch_q

  machine_is : machine.takes_matched i p m ≡ after_it it_sends.message
  machine_is =
      the.on_machine facts m c p choice level x sel k acting arrived own b checked by i less
      ∙ ap (λ (y : WaitArm). machine.communicates_by at_it.kept.alternative.offer at_it.kept n p q
      (record m { world = rested (communicated_with (Some q) m.world p y) })) arm_is
      ∙ ap (λ (y : MachineOffer). machine.communicates_by y at_it.kept n p q m1) offer_is
      ∙ ap (λ (y : Option KeptAlternative). machine.received_by y its.word at_it.kept n p q m1)
      (in_machine facts m c p level acting own q (To n0) ticket)
      ∙ ap after_it message_is

  abbrev going_on : Config
  going_on = goes_on g c p x (behind_open at_it.o k)

  abbrev side : Side
  side = record { context = context_q; at = meets_it.o; left = its_showing.left }

  abbrev table : Table
  table = placed c.table q Is_ready

  source_is : text_selects.takes_matched g c p x sel k i
      ≡ with_table (text.goes_behind g (record going_on { store = passes_it.store }) q side) table
  source_is =
      the.in_text facts m c p choice level x sel k acting arrived own b checked by i less
      ∙ ap (λ (y : WaitArm). with_table (text_selects.communicates_by g c p x at_it.o k q at_it.o.offer (Some y)) (communicated_with (Some q) c.table p y))
      arm_is
      ∙ ap (λ (y : Offer). with_table (text_selects.communicates_by g c p x at_it.o k q y (Some (From n0))) table) offer
      ∙ ap (λ (s : Option Side). with_table (text.received_from g going_on p target q s) table) (finding.in_text facts m c p level acting own q (To n0) ticket)
      ∙ ap (λ (y : Offer). with_table (text.received_out g going_on p target q side y) table) is_sender.offer_is
      ∙ ap (λ (e : Config). with_table (text.goes_behind g e q side) table)
      (passes_it.text going_on refl
      (ap (λ (y : Activity). y.display)
      (get_or-set_same c.activities p (at_work (activity_of g c p) doing) (nobody g) acting.actor.process)))

  pub received_same : ComeToSame facts m c p x.line (silent (Ok (machine.takes_matched i p m))) (Ok (text_selects.takes_matched g c p x sel k i))
  received_same =
      subst (λ (y : Machine). ComeToSame facts m c p x.line (silent (Ok y)) (Ok (text_selects.takes_matched g c p x sel k i))) (sym machine_is)
      (subst (λ (e : Config). ComeToSame facts m c p x.line (silent (Ok (after_it it_sends.message))) (Ok e)) (sym source_is)
      (both_go facts m c p level acting own q waits_open latest branch doing x.line alone branch_q (ref_of its.word) (reverse it_sends.message)
      passes_it.store passes doing_q partner_behind))

  can_hand_over : CanHandOver m q (ref_of its.word) meets_it.kept
  can_hand_over =
      record {
        held = meets_it.is_kept.held;
        live = subst (λ j. AreLive m.stacks (ref_of its.word) j) (sym words_kept) passes_it.live;
      }

  -- the sender can do its part
  pub received_can : CanCommunicate at_it.kept.alternative.offer at_it.kept p q m
  received_can =
      subst (λ (y : MachineOffer). CanCommunicate y at_it.kept p q m) (sym offer_is)
      (record {
        descriptor = subst (λ j. q < j) (sym acting.alike.words.descriptors) (is_process facts m c p level acting own q waits_open);
        offered = is_offering facts m c p level acting own q (To n0) ticket;
        message =
            subst (λ (kept : Option KeptAlternative). IfSome kept (CanHandOver m q (ref_of its.word)))
            (sym (in_machine facts m c p level acting own q (To n0) ticket)) can_hand_over;
      })
