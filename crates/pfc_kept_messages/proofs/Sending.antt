-- Sends.
use Rattle.std.proofs.Common.{◌≡◌, ℕ, zero, suc, ◌+◌, ◌<◌, ◌≤◌, ◌==◌, ℤ, true, false, List, [], ◌∷◌, ◌++◌, length, reverse, take, drop, set, slice_get, Option}
use Rattle.std.proofs.Common.{Some, None, IfSome, Ok, refl, sym, ap, ◌∙◌, subst, arith, inl}
use Rattle.std.specs.Prelude.{is_some}
use Rattle.std.proofs.lemmas.List.{get_or-set_other, length-set}
use Rattle.pfc_code.specs.declared.instructions.Instr.{Instr}
use Rattle.pfc_code.specs.declared.instructions.Instr.TheVariants.{SEND, ARMS, ARMR}
use Rattle.pfc_code.specs.declared.images.Block.{Block as CodeBlock}
use Rattle.pfc_code.specs.Images.{PlainImage}
use Rattle.pfc_tree.specs.trees.Stmts.{StmtTrees}
use Rattle.pfc_state.specs.Stands.{Is_ready}
use Rattle.pfc_state.specs.declared.waits.Arm.TheVariants.{Send as To, Receive as From}
use Rattle.pfc_state.specs.declared.waits.Why.TheVariants.{Send as Sending}
use Rattle.pfc_world.specs.Channels.{passed_with}
use Rattle.pfc_world.specs.Partners.{receiver, ticket_open_to}
use Rattle.pfc_world.specs.Tables.{Table, at}
use Rattle.pfc_world.specs.Transitions.{rested, blocked, placed, ticked}
use Rattle.pfc_semantics.specs.Values.{Value}
use Rattle.pfc_types.specs.declared.types.TypeId.{TypeId}
use Rattle.pfc_semantics.specs.Displays.{Spot}
use Rattle.pfc_semantics.specs.Programs.{Block, Program}
use Rattle.pfc_semantics.specs.Remainders.{Context, Replica, Offer, Open, Remainder, to_send, to_receive, to_accept, to_wait, to_end, meets}
use Rattle.pfc_semantics.specs.Rewriting.{Doing, going}
use Rattle.pfc_semantics.specs.Statements.{behind}
use Rattle.pfc_semantics.specs.Channels as text
use Rattle.pfc_semantics.specs.Channels.{behind_open, behind_replica, Side}
use Rattle.pfc_semantics.specs.Selects.{partner_at, plainly, communicates_by, meets_or_waits, meets_at}
use Rattle.pfc_semantics.specs.Configurations.{Activity, Config, Effect, nobody, offering, activity_of, at_work, goes_on, showing, with_table, location_for}
use Rattle.pfc_semantics.specs.Configurations.{number_for}
use Rattle.pfc_translation.specs.Images.{image_of}
use Rattle.pfc_stacks.specs.Refs.{ref_of, number_of}
use Rattle.pfc_stacks.specs.Stacks.{Stack, Stacks, stack_of, operands_of, written}
use Rattle.pfc_stacks.specs.Conditions.{AreLive}
use Rattle.pfc_stacks.specs.Effects.{moved}
use Rattle.pfc_cells.specs.Homes.{Homes}
use Rattle.pfc_cells.specs.Memory.{Entries}
use Rattle.pfc_machines.specs.declared.machine.Machine.{Machine}
use Rattle.pfc_machines.specs.declared.descriptors.Descriptor.{Descriptor}
use Rattle.pfc_machines.specs.declared.alternatives.Alternative.{Alternative}
use Rattle.pfc_machines.specs.declared.alternatives.KeptAlternative.{KeptAlternative}
use Rattle.pfc_machines.specs.declared.alternatives.Offer.TheVariants.{Send}
use Rattle.pfc_machines.specs.Actions.{Effect as MachineEffect}
use Rattle.pfc_machines.specs.Descriptors.{descriptor_of, withdrawn}
use Rattle.pfc_machines.specs.Quiet.{CanGo}
use Rattle.pfc_message_actions.specs.Messages.{channel_under, target_of, sent_into, sent_to, sends as machine_sends, CanTake}
use Rattle.pfc_machine_acts.specs.Performing.{silent}
use Rattle.pfc_machine_acts.specs.Conditions.{CanSend}
use Rattle.pfc_standing_code.specs.Settings.{of_own, site_of, IsAt}
use Rattle.pfc_standing_code.specs.Effects.{Arm}
use Rattle.pfc_standing_code.specs.Words.{IsChecked}
use Rattle.pfc_standing_code.specs.Performs.{IsSent, IsReceived, IsOpen, BranchAt, Performs}
use Rattle.pfc_standing_code.specs.Following.{IsPlain, MeetsBy, DoesIn}
use Rattle.pfc_standing_code.proofs.Checked.{checked_for}
use Rattle.pfc_following_source.specs.Behind.{branch_of, GoesOnAt, BehindOpen}
use Rattle.pfc_representation.specs.Levels.{Facts, program_in, LivingLevel, block_of, IsBlockAt, DoesOn}
use Rattle.pfc_representation.specs.Rooms.{end_in, own_address, IsInBlock, LeadsWithin, LeadWithin}
use Rattle.pfc_representation.specs.Callers.{IsWithin}
use Rattle.pfc_representation.specs.Alternatives.{IsReceiving, IsMadeBy}
use Rattle.pfc_representation.specs.Holding.{holders_in}
use Rattle.pfc_representation.specs.Keeping.{IsSameStack}
use Rattle.pfc_representation.specs.Processes.{IsAtLevel, RepresentsProcess}
use Rattle.pfc_representation.specs.Machines.{machine_table, AreAlike}
use Rattle.pfc_representation.specs.Acting.{IsActing, HasArrived}
use Rattle.pfc_representation.specs.Actions.{ComeToSame, IsKept, AreKept}
use Rattle.pfc_kept_own_actions.proofs.Arrived.{stack_there, code_there, code_line, acts_now, next_within}
use Rattle.pfc_kept_messages.specs.Groups.{IsSend, IsSent as IsSendAction}
use Rattle.pfc_kept_object_actions.proofs.Finding.{first_has}
use Rattle.pfc_kept_messages.proofs.Sight.{StillHolds}
use Rattle.pfc_kept_messages.proofs.Stacks.{written_same, changed_alike, moved_alike, put_alike, changed_cells, holds_alike}
use Rattle.pfc_kept_messages.proofs.Partner.{is_open_stand, IsShowing, behind_kept}
use Rattle.pfc_kept_messages.proofs.Meeting as meeting
use Rattle.pfc_kept_messages.proofs.Meeting.{apart, is_process, row_is, met_stays, q_there, base, meets_behind}
use Rattle.pfc_kept_messages.proofs.Finding.{waits, process, shows, makes, offers_all, is_offering, FoundThere, found_there, in_machine, in_text}
use Rattle.pfc_kept_messages.proofs.Made.{room_for_one, within_made}
use Rattle.pfc_kept_messages.proofs.Passing.{LiesOver, lies_over, Sends, sends, IsTarget, to_variable, to_nobody, Receives, receives, Delivers, delivers}
use Rattle.pfc_kept_messages.proofs.Waiting as waiting
use Rattle.pfc_kept_messages.proofs.Waiting.{IsAlone, waits_behind}
use Rattle.pfc_kept_messages.proofs.Whole.{comes_then}

-- ## Behind a plain communication

-- nothing comes before what is left
pub plain_behind : (o : Open) (k : Remainder) → IsPlain o → behind_open o k ≡ k
plain_behind o k plain =
    ap (λ (r : Option Replica). behind_replica r (behind o.next o.stmts k)) plain.0 ∙ ap (λ (ts : StmtTrees). behind o.next ts k) plain.1

-- its branch is the next instruction
module _ (facts : Facts) (level : LivingLevel) (b : Block) (x : Context) (o : Open) (plain : IsPlain o) (to held : ℕ) (behind_it : ℕ → Type 0) where
  pub plain_branch : held ≤ level.setting.room → behind_it to
      → BranchAt level.setting (site_of level.setting b x) to held o.replica None o.next o.stmts behind_it
  plain_branch few is =
      subst (λ (r : Option Replica). BranchAt level.setting (site_of level.setting b x) to held r None o.next o.stmts behind_it) (sym plain.0)
      (subst (λ (ts : StmtTrees). BranchAt level.setting (site_of level.setting b x) to held None None o.next ts behind_it) (sym plain.1) (
        0,
        record { typed = tt; code = record { has = tt; texts = tt; room = few; arms = least level.setting.arms }; accepts = tt },
        subst behind_it (next to) is,
      ))
    where
      least : (n : ℕ) → 0 ≤ n
      least n = grind arith

      next : (n : ℕ) → n ≡ n + 0
      next n = grind arith

-- ## An alternative that receives

receiving_branch : (depth z : ℕ) (operands : List ℤ) (to : ℕ) (a : Alternative) → IsReceiving depth z operands to a → to ≡ a.branch
receiving_branch depth zero operands to a is = ap (λ (y : Alternative). y.branch) (sym is.2)
receiving_branch depth (suc z) operands to a is = ap (λ (y : Alternative). y.branch) (sym is.3)

module _ (facts : Facts) (m : Machine) (c : Config) (homes : Homes) (entries : Entries) (alike : AreAlike facts homes entries m c) (r : ℕ) (e : Descriptor)
    (level : LivingLevel)
    (stands : IsAtLevel facts homes entries c.store m.stacks c.table (holders_in facts c) r (activity_of (program_in facts) c r) e level)
    (own : level.setting.trial ≡ of_own)
    (b : Block) (x : Context) (checked : IsChecked level.setting b x.env) where
  receiving_word : (depth z : ℕ) (operands : List ℤ) (to : ℕ) (a : Alternative) (n : ℤ) (u : TypeId) (target : Option Spot) (word : ℤ)
      → IsReceiving depth z operands to a
      → IsTarget facts m c homes entries alike r e level stands own b x checked z n operands u target word → target_of a.offer ≡ word
  receiving_word depth zero operands to a n u _ _ is (to_variable target word carried lies size held) = absurd (no_cells _ size carried.0)
    where
      no_cells : (j : ℕ) → 0 ≡ j → 0 < j → ⊥
      no_cells j same less = grind (arith, same, less)
  receiving_word depth (suc z) operands to a n u _ _ is (to_variable target word carried lies size held) =
      let both : is.1 ∷ is.0 ∷ [] ≡ word ∷ n ∷ [] = sym is.2 ∙ held in
      let same : is.1 ≡ word = cc in
      ap (λ (y : Alternative). target_of y.offer) is.3 ∙ same
  receiving_word depth zero operands to a n u _ _ is (to_nobody signal size held) = ap (λ (y : Alternative). target_of y.offer) is.2
  receiving_word depth (suc z) operands to a n u _ _ is (to_nobody signal size held) = absurd (some_cells size)
    where
      some_cells : suc z ≡ 0 → ⊥
      some_cells same = grind (arith, same)

-- ## Both sides

module _ (facts : Facts) (m : Machine) (c : Config) (p choice : ℕ) (level : LivingLevel) (x : Context) (o : Open) (k : Remainder)
    (own : level.setting.trial ≡ of_own)
    (acting : IsActing facts m c p level) (arrived : HasArrived facts m c p level (meets x o k)) (b : Block) (checked : IsChecked level.setting b x.env)
    (none : level.arms ≡ [])
    (plain : IsPlain o) (channel : Spot) (v : Value) (offer : o.offer ≡ to_send channel v) (z : ℕ) (sent below : List ℤ) where
  abbrev here : ℕ
  here = (stack_of m.stacks p).at

  abbrev ops : List ℤ
  ops = operands_of m.stacks p

  abbrev image : PlainImage
  image = image_of facts.tree

  abbrev g : Program
  g = program_in facts

  abbrev d : Descriptor
  d = descriptor_of m.descriptors p

  abbrev left : List ℤ
  left = drop (z + 1) ops

  abbrev message : List ℤ
  message = take z ops

  -- the channel, as both sides have it
  abbrev n0 : ℕ
  n0 = number_for g c p channel

  abbrev w : Table
  w = record (machine_table facts c.table) { acting = Some p }

  abbrev source_by : Option ℕ → Config
  source_by None = showing g (goes_on g c p x k) p (offering x (o ∷ []) k)
  source_by (Some q) = communicates_by g c p x o k q (to_send channel v) (Some (To n0))

  abbrev source : Option ℕ → Effect
  source q = Ok (with_table (source_by q) (passed_with q c.table p (Sending n0)))

  abbrev machine_by : ℕ → Table → Option ℕ → MachineEffect
  machine_by j y q = Ok (sent_to q j z p (record m { world = rested (passed_with q y p (Sending j)) }))

  module _ (held : ops ≡ sent ++ below) (is_sent : IsSent level.setting (site_of level.setting b x) channel v z sent)
      (there : IsAt level.setting here (SEND z) x.line)
      (rest : Performs level.setting b x.env (here + 1) below [] k) where
    abbrev its : Sends facts m c acting.homes acting.entries acting.alike p d level acting.actor.stands own b x checked channel v z sent
    its = sends facts m c acting.homes acting.entries acting.alike p d level acting.actor.stands own b x checked channel v z sent is_sent

    over : LiesOver ops its.message below its.n z
    over = lies_over ops its.message below its.n z (held ∙ ap (λ (xs : List ℤ). xs ++ below) its.is) its.size

    -- the same number of the channel
    number_same : channel_under z p m ≡ n0
    number_same = ap number_of over.under ∙ its.word ∙ sym its.spot

    sends_are : machine_sends z p m ≡ machine_by n0 w (receiver c.table.rows n0)
    sends_are =
        ap (λ j. machine_by j m.world (receiver m.world.rows j)) number_same
        ∙ ap (λ (y : Table). machine_by n0 y (receiver y.rows n0)) acting.world

    few_below : length below ≤ level.setting.room
    few_below = fewer (length ops) z (length below) level.setting.room over.count arrived.room
      where
        fewer : (n j i r : ℕ) → n ≡ j + 1 + i → n ≤ r → i ≤ r
        fewer n j i r same h = grind (arith, same, h)

    few : length left ≤ level.setting.room
    few = subst (λ (xs : List ℤ). length xs ≤ level.setting.room) (sym over.rest) few_below

    goes : GoesOnAt level.setting b (here + 1) left [] (going x.env k)
    goes =
        subst (λ (xs : List ℤ). GoesOnAt level.setting b (here + 1) xs [] (going x.env k)) (sym over.rest)
        (few_below, (checked_for level.setting b x.env k checked, rest))

    in_code : slice_get image.code here ≡ Some (SEND z)
    in_code = code_there facts m c p level acting here (SEND z) x.line there

    own_within : IsWithin facts level here d.communications
    own_within = subst (λ t. IsWithin facts level (own_address t here) d.communications) own arrived.within

    message_size : length message ≡ z
    message_size = ap (λ (xs : List ℤ). length xs) over.top ∙ its.size

    -- ### Nobody receives

    abbrev its_arm : Arm
    its_arm = record { by = ARMS z (here + 1); operands = sent }

    abbrev its_alternative : Alternative
    its_alternative = record { activation = d.activations; offer = Send n0 z; branch = here + 1 }

    in_block : (n : ℕ) (code : CodeBlock) → IsBlockAt g image.blocks n (block_of level) code → IsInBlock facts n (here + 1)
    in_block n code block other other_is =
        let (j, first, at, goes_there) = within_made facts level (its_arm ∷ []) here d.communications
        (SEND z) z its_alternative message in_code refl refl message_size own_within in
        let same : n ≡ j = block.1 ∙ sym at.1 in
        let one : first ≡ other = (let both : Some first ≡ Some other = sym at.0 ∙ ap (λ i. slice_get image.blocks i) (sym same) ∙ other_is in cc) in
        subst (λ i. (other.entry ≤ here + 1) × (here + 1 < i)) (ap (λ i. end_in facts i) (sym same))
        (subst (λ (y : CodeBlock). y.entry ≤ here + 1) one goes_there.entry, goes_there.before)

    alone : IsAlone facts m c p level acting own none its_arm (To n0) its_alternative message (here + 1) left x o k
    alone =
        record {
          is_made = (
            its.n,
            its.is ∙ ap (λ (xs : List ℤ). xs ++ its.n ∷ []) (sym over.top),
            message_size,
            ap (λ j. record { activation = d.activations; offer = Send j z; branch = here + 1 }) (its.spot ∙ sym its.word),
          );
          listed = refl;
          leads = in_block;
          accepts = tt;
          within = within_made facts level (its_arm ∷ []) here d.communications (SEND z) z its_alternative message in_code refl refl message_size own_within;
          block = b;
          checked = checked;
          open_one =
              subst (λ (y : Offer). IsOpen level.setting (site_of level.setting b x) (length left) o y its_arm
              (λ end. Performs level.setting b x.env end left [] k)) (sym offer) (
                here + 1,
                z,
                refl,
                is_sent,
                plain_branch facts level b x o plain (here + 1) (length left)
                    (λ end. Performs level.setting b x.env end left [] k) few goes.1.1,
              );
          behind =
              subst (λ (y : Offer). BehindOpen level.setting b left x o y (here + 1) k) (sym offer)
              (subst (λ (r : Remainder). GoesOnAt level.setting b (here + 1) left [] (going x.env r)) (sym (plain_behind o k plain)) goes);
          few = few;
        }

    nobody_same : ComeToSame facts m c p x.line (silent (machine_by n0 w None)) (source None)
    nobody_same =
        comes_then facts m c p level acting x.line
        (waiting.activities facts m c p level acting own none its_arm (To n0) its_alternative message (here + 1) left x o k alone x.line)
        (waiting.descriptors facts m c p level acting own none its_arm (To n0) its_alternative message (here + 1) left x o k alone x.line) c.store
        (moved m.stacks p (here + 1) left) (blocked c.table p (Sending n0) [])
        (waits_behind facts m c p level acting own none its_arm (To n0) its_alternative message (here + 1) left x o k alone x.line)
        (rested (blocked w p (Sending n0) [])) refl

    -- ### A receiver

    module _ (q : ℕ) (is_first : receiver c.table.rows n0 ≡ Some q) where
      ticket : is_some (ticket_open_to (From n0) (at c.table.rows q)) ≡ true
      ticket = first_has (ticket_open_to (From n0)) c.table.rows q is_first

      abbrev dq : Descriptor
      dq = descriptor_of m.descriptors q

      abbrev waits_open : is_open_stand (at c.table.rows q) ≡ true
      waits_open = waits facts m c p level acting own q (From n0) ticket

      abbrev its_showing : IsShowing facts acting.homes acting.entries c.store m.stacks c.table (holders_in facts c) q (activity_of g c q) dq waits_open
      its_showing = shows facts m c p level acting own q (From n0) ticket

      abbrev level_q : LivingLevel
      level_q = its_showing.under_way.level

      abbrev ops_q : List ℤ
      ops_q = (stack_of m.stacks q).operands

      abbrev meets_it : FoundThere facts m c p level acting own q (From n0) ticket
      meets_it = found_there facts m c p level acting own q (From n0) ticket

      own_q : level_q.setting.trial ≡ of_own
      own_q = its_showing.offers.own

      abbrev block_q : Block
      block_q = its_showing.offers.block

      abbrev context_q : Context
      context_q = its_showing.context

      abbrev behind_q : ℕ → Type 0
      behind_q = λ end. Performs level_q.setting block_q context_q.env end ops_q [] its_showing.left

      -- it receives from the same channel
      record IsReceiver : Type 0 where
        from : Spot
        target : Option Spot
        cells : ℕ
        to : ℕ
        offer_is : meets_it.o.offer ≡ to_receive from target
        by_is : meets_it.arm.by ≡ ARMR cells to
        received : IsReceived level_q.setting (site_of level_q.setting block_q context_q) from cells meets_it.arm.operands target
        same : number_for g c q from ≡ n0

      by_offer : (other : Offer) → meets_it.o.offer ≡ other
          → IsOpen level_q.setting (site_of level_q.setting block_q context_q) (length ops_q) meets_it.o other meets_it.arm behind_q
          → text.is_arm (From n0) (text.arm_of g c q other) ≡ true → IsReceiver
      by_offer (to_send ch value) same opened matches = absurd (let no : false ≡ true = matches in cc)
      by_offer (to_receive ch target) same opened matches =
          record {
            from = ch;
            target = target;
            cells = opened.1;
            to = opened.0;
            offer_is = same;
            by_is = opened.2;
            received = opened.3;
            same = number_is (number_for g c q ch) n0 matches;
          }
        where
          number_is : (i j : ℕ) → (i == j) ≡ true → i ≡ j
          number_is i j h = grind (arith, h)
      by_offer (to_accept a) same opened matches = absurd (let no : false ≡ true = matches in cc)
      by_offer (to_wait n) same opened matches = absurd (let no : false ≡ true = matches in cc)
      by_offer to_end same opened matches = absurd (let no : false ≡ true = matches in cc)

      is_receiver : IsReceiver
      is_receiver = by_offer meets_it.o.offer refl meets_it.open_one meets_it.matches

      abbrev it_receives : Receives facts m c acting.homes acting.entries acting.alike q dq level_q its_showing.under_way.stands own_q block_q context_q
          its_showing.offers.checked is_receiver.from
          is_receiver.cells meets_it.arm.operands is_receiver.target
      it_receives =
          receives facts m c acting.homes acting.entries acting.alike q dq level_q its_showing.under_way.stands own_q block_q context_q
          its_showing.offers.checked is_receiver.from
          is_receiver.cells meets_it.arm.operands is_receiver.target is_receiver.received

      -- the message is written for it
      abbrev passes_it : Delivers facts m c acting.homes acting.entries acting.alike q dq level_q its_showing.under_way.stands own_q block_q context_q
          its_showing.offers.checked is_receiver.target
          it_receives.word v z its.message
      passes_it =
          delivers facts m c acting.homes acting.entries acting.alike q dq level_q its_showing.under_way.stands own_q block_q context_q
          its_showing.offers.checked (location_for g c p channel) its.u its.k
          z v its.message its.here its.passes is_receiver.from is_receiver.cells meets_it.arm.operands is_receiver.target it_receives
          (sym its.spot ∙ sym is_receiver.same ∙ it_receives.spot)

      abbrev branch : ℕ
      branch = meets_it.kept.alternative.branch

      made_so : IsMadeBy (makes facts m c p level acting own q (From n0) ticket).depth
          (ARMR is_receiver.cells is_receiver.to) meets_it.arm.operands meets_it.kept.alternative meets_it.is_kept.words
      made_so =
          subst (λ (i : Instr). IsMadeBy
          (makes facts m c p level acting own q (From n0) ticket).depth i meets_it.arm.operands meets_it.kept.alternative meets_it.is_kept.words)
          is_receiver.by_is
          meets_it.is_kept.made

      leads_to : is_receiver.to ≡ branch
      leads_to =
          receiving_branch (makes facts m c p level acting own q (From n0) ticket).depth is_receiver.cells meets_it.arm.operands is_receiver.to
          meets_it.kept.alternative made_so.1

      word_is : target_of meets_it.kept.alternative.offer ≡ it_receives.word
      word_is =
          receiving_word facts m c acting.homes acting.entries acting.alike q dq level_q its_showing.under_way.stands own_q block_q context_q
          its_showing.offers.checked
          (makes facts m c p level acting own q (From n0) ticket).depth is_receiver.cells meets_it.arm.operands is_receiver.to meets_it.kept.alternative
          it_receives.n it_receives.u is_receiver.target
          it_receives.word made_so.1 it_receives.into

      -- ### What becomes of both

      abbrev doing : Doing
      doing = going x.env (behind_open o k)

      abbrev doing_q : Doing
      doing_q = going context_q.env (behind_open meets_it.o its_showing.left)

      does : DoesOn level (here + 1) left doing
      does = (
        few,
        arrived.arms,
        inl (
          b,
          checked.beside,
          subst (λ (arms : List Arm). DoesIn level.setting b (here + 1) left arms doing) (sym none)
              (subst (λ (r : Remainder). DoesIn level.setting b (here + 1) left [] (going x.env r)) (sym (plain_behind o k plain)) goes.1),
        ),
      )

      goes_q : GoesOnAt level_q.setting block_q branch ops_q [] doing_q
      goes_q =
          subst (λ i. GoesOnAt level_q.setting block_q i ops_q [] doing_q) (ap branch_of is_receiver.by_is ∙ leads_to)
          (subst (λ (y : Offer). BehindOpen level_q.setting block_q ops_q context_q meets_it.o y (branch_of meets_it.arm.by) its_showing.left)
          is_receiver.offer_is meets_it.left_behind)

      abbrev level_then : LivingLevel
      level_then = record level_q { arms = [] }

      does_q : DoesOn level_then branch ops_q doing_q
      does_q = (goes_q.0, least level_q.setting.arms, inl (block_q, its_showing.offers.checked.beside, goes_q.1))
        where
          least : (i : ℕ) → 0 ≤ i
          least i = grind arith

      leads_q : (j : ℕ) → LeadWithin facts j level_q.arms → IsInBlock facts j branch
      leads_q j lead =
          subst (λ i. IsInBlock facts j i) leads_to (subst (λ (i : Instr). LeadsWithin facts j i) is_receiver.by_is (meets_it.leads j lead))

      partner_behind : RepresentsProcess facts acting.homes acting.entries c.store (set m.stacks q (record (stack_of m.stacks q) { at = branch }))
          (ticked (placed c.table q Is_ready)) (holders_in facts c) q
          (at_work (activity_of g c q) doing_q) (withdrawn dq)
      partner_behind =
          behind_kept facts acting.homes acting.entries c.store m.stacks c.table (ticked (placed c.table q Is_ready)) (holders_in facts c) q
          (activity_of g c q) dq waits_open
          (row_is facts m c p level acting own q waits_open) (met_stays facts m c p level acting own q waits_open)
          (q_there facts m c p level acting own q waits_open (here + 1) left branch) its_showing.under_way own_q
          (offers_all facts m c p level acting own q (From n0) ticket) branch leads_q doing_q does_q
          (process facts m c p level acting own q (From n0) ticket)

      -- ### The stacks

      abbrev put : ℤ → ℕ → Stacks
      put word at =
          let gone = moved (written m.stacks (ref_of word) (reverse message)) p at left in set gone q (record (stack_of gone q) { at = branch })

      abbrev wrote : Stacks
      wrote = written m.stacks (ref_of it_receives.word) (reverse message)

      abbrev stacks' : Stacks
      stacks' = put it_receives.word (here + 1)

      p_there : p < length m.stacks
      p_there = stack_there facts m c p level acting

      q_in : q < length m.stacks
      q_in = q_there facts m c p level acting own q waits_open (here + 1) left branch

      wrote_size : length wrote ≡ length m.stacks
      wrote_size = length-set m.stacks (ref_of it_receives.word).process _

      moved_size : (stacks : Stacks) → length (moved stacks p (here + 1) left) ≡ length stacks
      moved_size stacks = length-set stacks p (record (stack_of stacks p) { at = here + 1; operands = left })

      size : length stacks' ≡ length m.stacks
      size = length-set (moved wrote p (here + 1) left) q _ ∙ moved_size wrote ∙ wrote_size

      same_places : (r : ℕ) → IsSameStack (stack_of (base facts m c p level acting own q waits_open (here + 1) left branch) r) (stack_of stacks' r)
      same_places r =
          changed_alike (moved m.stacks p (here + 1) left) (moved wrote p (here + 1) left) q (λ (s : Stack). record s { at = branch }) (put_alike branch)
          (subst (λ n. q < n) (sym (moved_size m.stacks)) q_in) (subst (λ n. q < n) (sym (moved_size wrote ∙ wrote_size)) q_in)
          (changed_alike m.stacks wrote p (λ (s : Stack). record s { at = here + 1; operands = left }) (moved_alike (here + 1) left) p_there
          (subst (λ n. p < n) (sym wrote_size) p_there)
          (written_same m.stacks (ref_of it_receives.word) (reverse message))) r

      holds : StillHolds facts acting.homes acting.entries c.store passes_it.store stacks'
      holds =
          holds_alike facts acting.homes acting.entries c.store passes_it.store wrote stacks'
          (λ r. changed_cells (moved wrote p (here + 1) left) q (λ (s : Stack). record s { at = branch }) (λ s. refl)
          (subst (λ n. q < n) (sym (moved_size wrote ∙ wrote_size)) q_in) r
          ∙ changed_cells wrote p (λ (s : Stack). record s { at = here + 1; operands = left }) (λ s. refl) (subst (λ n. p < n) (sym wrote_size) p_there) r)
          (length-set (moved wrote p (here + 1) left) q _ ∙ moved_size wrote)
          (subst (λ (ws : List ℤ). StillHolds facts acting.homes acting.entries c.store passes_it.store
          (written m.stacks (ref_of it_receives.word) (reverse ws))) (sym over.top) passes_it.holds)

      -- ### Both sides

      abbrev after_it : Machine
      after_it = record m {
        stacks = stacks';
        descriptors = set m.descriptors q (withdrawn dq);
        world = rested (placed w q Is_ready);
      }

      at_same : (stack_of (written m.stacks (ref_of it_receives.word) (reverse message)) p).at ≡ here
      at_same = (written_same m.stacks (ref_of it_receives.word) (reverse message) p).at

      machine_is : machine_by n0 w (Some q) ≡ Ok after_it
      machine_is =
          ap (λ (kept : Option KeptAlternative). Ok (sent_into kept z p q (record m { world = rested (passed_with (Some q) w p (Sending n0)) })))
          (in_machine facts m c p level acting own q (From n0) ticket)
          ∙ ap (λ (word : ℤ). Ok (record m {
            stacks = put word ((stack_of (written m.stacks (ref_of word) (reverse message)) p).at + 1);
            descriptors = set m.descriptors q (withdrawn dq);
            world = rested (placed w q Is_ready);
          })) word_is
          ∙ ap (λ (i : ℕ). Ok (record m {
            stacks = put it_receives.word (i + 1);
            descriptors = set m.descriptors q (withdrawn dq);
            world = rested (placed w q Is_ready);
          })) at_same

      abbrev going_on : Config
      going_on = goes_on g c p x (behind_open o k)

      abbrev side : Side
      side = record { context = context_q; at = meets_it.o; left = its_showing.left }

      source_is : source (Some q) ≡ Ok (with_table (text.goes_behind g (record going_on { store = passes_it.store }) q side) (placed c.table q Is_ready))
      source_is =
          ap (λ (s : Option Side). Ok (with_table (text.sent_to g going_on q v s) (placed c.table q Is_ready)))
          (in_text facts m c p level acting own q (From n0) ticket)
          ∙ ap (λ (y : Offer). Ok (with_table (text.sent_into g going_on q v side y) (placed c.table q Is_ready))) is_receiver.offer_is
          ∙ ap (λ (e : Config). Ok (with_table (text.goes_behind g e q side) (placed c.table q Is_ready)))
          (passes_it.text going_on refl
          (ap (λ (y : Activity). y.display)
          (get_or-set_other c.activities p q (at_work (activity_of g c p) doing) (nobody g) (apart facts m c p level acting own q waits_open))))

      receiver_same : ComeToSame facts m c p x.line (silent (machine_by n0 w (Some q))) (source (Some q))
      receiver_same =
          subst (λ (e : MachineEffect). ComeToSame facts m c p x.line (silent e) (source (Some q))) (sym machine_is)
          (subst (λ (e : Effect). ComeToSame facts m c p x.line (silent (Ok after_it)) e) (sym source_is)
          (comes_then facts m c p level acting x.line
          (meeting.activities facts m c p level acting own q waits_open (here + 1) left branch doing x.line does
          (next_within facts m c p level acting own (SEND z) x.line there refl arrived.within)
          passes_it.store stacks' size same_places holds doing_q partner_behind)
          (meeting.descriptors facts m c p level acting own q waits_open (here + 1) left branch doing x.line does
          (next_within facts m c p level acting own (SEND z) x.line there refl arrived.within)
          passes_it.store stacks' size same_places holds doing_q partner_behind)
          passes_it.store stacks' (placed c.table q Is_ready)
          (meets_behind facts m c p level acting own q waits_open (here + 1) left branch doing x.line does
          (next_within facts m c p level acting own (SEND z) x.line there refl arrived.within)
          passes_it.store stacks' size same_places holds doing_q partner_behind)
          (rested (placed w q Is_ready))
          (ap (λ (who : Option ℕ). record (machine_table facts (placed c.table q Is_ready)) { acting = who }) (sym acting.alike.between.acting))))

      can_take : CanTake m q (From n0) z
      can_take =
          record {
            descriptor = subst (λ n. q < n) (sym acting.alike.words.descriptors) (is_process facts m c p level acting own q waits_open);
            offered = is_offering facts m c p level acting own q (From n0) ticket;
            live =
                subst (λ (kept : Option KeptAlternative). IfSome kept (λ (y : KeptAlternative). AreLive m.stacks (ref_of (target_of y.alternative.offer)) z))
                (sym (in_machine facts m c p level acting own q (From n0) ticket))
                (subst (λ (word : ℤ). AreLive m.stacks (ref_of word) z) (sym word_is) passes_it.live);
          }

    -- ### The instruction

    by_receiver : (q : Option ℕ) → receiver c.table.rows n0 ≡ q → ComeToSame facts m c p x.line (silent (machine_by n0 w q)) (source q)
    by_receiver None is = nobody_same
    by_receiver (Some q) is = receiver_same q is

    can_go : CanGo (SEND z) p m
    can_go =
        let acts = acts_now facts m c p level acting (SEND z) x.line there in
        let room = room_for_one facts level (its_arm ∷ []) here d.communications (SEND z) z its_alternative message in_code refl refl message_size own_within in
        record {
          stack = acts.acts.stack;
          descriptor = acts.acts.descriptor;
          held = many (length ops) z (length below) over.count;
          places = room.0;
          words = room.1;
          next = acts.acts.next;
        }
      where
        many : (n j i : ℕ) → n ≡ j + 1 + i → j + 1 ≤ n
        many n j i same = grind (arith, same)

    can_send : CanSend z p m
    can_send =
        record {
          room = can_go;
          receiver = λ q is.
              subst (λ j. CanTake m q (From j) z) (sym number_same)
              (can_take q (ap (λ (y : Table). receiver y.rows n0) (sym acting.world) ∙ ap (λ j. receiver m.world.rows j) (sym number_same) ∙ is));
        }

    source_same : (q : Option ℕ) → source q ≡ Ok (with_table (meets_or_waits g c p x o k q) (passed_with q c.table p (Sending n0)))
    source_same None = refl
    source_same (Some q) =
        ap (λ (y : Offer). Ok (with_table (communicates_by g c p x o k q y (text.arm_of g c p y)) (passed_with (Some q) c.table p (Sending n0)))) (sym offer)

    effect_is : source (receiver c.table.rows n0) ≡ meets_at g c p x o k
    effect_is =
        source_same (receiver c.table.rows n0)
        ∙ ap (λ (y : Offer). Ok (with_table (meets_or_waits g c p x o k (partner_at c p (text.arm_of g c p y))) (plainly c.table p (text.arm_of g c p y))))
        (sym offer)

    pub send_kept : IsKept facts m c p choice (meets x o k)
    send_kept =
        record {
          instr = SEND z;
          is = in_code;
          can_step = record {
            stack = stack_there facts m c p level acting;
            performed = record { held = can_go.held; room = grind arith; reach = tt };
            goes = λ outward. can_go;
          };
          no_move = tt;
          can_do = record { acting = acts_now facts m c p level acting (SEND z) x.line there; can = can_send };
          line = code_line facts m c p level acting here (SEND z) x.line there;
          choices = refl;
          same =
              subst (λ (e : MachineEffect). ComeToSame facts m c p x.line (silent e) (meets_at g c p x o k)) (sym sends_are)
              (subst (λ (e : Effect). ComeToSame facts m c p x.line (silent (machine_by n0 w (receiver c.table.rows n0))) e) effect_is
              (by_receiver (receiver c.table.rows n0) refl));
        }

-- ## The law

module _ (facts : Facts) (m : Machine) (c : Config) (p choice : ℕ) (level : LivingLevel) (x : Context) (o : Open) (k : Remainder)
    (acting : IsActing facts m c p level)
    (arrived : HasArrived facts m c p level (meets x o k)) where
  by_kind : (offer : Offer) → o.offer ≡ offer → IsSend offer → level.setting.trial ≡ of_own → (b : Block) → IsChecked level.setting b x.env → level.arms ≡ []
      → IsPlain o
      → MeetsBy level.setting b x (stack_of m.stacks p).at (operands_of m.stacks p) o offer k → IsKept facts m c p choice (meets x o k)
  by_kind (to_send channel v) is kind own b checked none plain by =
      send_kept facts m c p choice level x o k own acting arrived b checked none plain channel v is by.0 by.1 by.2 by.3 by.4 by.5 by.6
  by_kind (to_receive channel target) is kind own b checked none plain by = absurd kind
  by_kind (to_accept a) is kind own b checked none plain by = absurd kind
  by_kind (to_wait n) is kind own b checked none plain by = absurd kind
  by_kind to_end is kind own b checked none plain by = absurd kind

pub sends_kept : AreKept IsSendAction
sends_kept facts m c p choice level (meets x o k) is acting arrived chosen =
    let (b, checked, alone) = arrived.arrived in
    by_kind facts m c p choice level x o k acting arrived o.offer refl is alone.0.0 b checked alone.0.1 alone.1.0 alone.1.1
sends_kept facts m c p choice level n is acting arrived chosen = absurd is
