-- Receives.
use Rattle.std.proofs.Common.{◌≡◌, ℕ, zero, suc, ◌+◌, ◌<◌, ◌≤◌, ◌==◌, ℤ, pos, Bool, true, false, if◌then◌else◌, List, [], ◌∷◌, ◌++◌, length, reverse, drop, set}
use Rattle.std.proofs.Common.{slice_get, Option, Some, None, IfSome, Ok, refl, sym, ap, ◌∙◌, subst, arith, ◌⊎◌, inl, inr}
use Rattle.std.specs.Prelude.{is_some}
use Rattle.std.proofs.lemmas.List.{get_or-set_same, length-set, same_from_push}
use Rattle.pfc_code.specs.declared.instructions.Instr.{Instr}
use Rattle.pfc_code.specs.declared.instructions.Instr.TheVariants.{RECV, ARMS, ARMR}
use Rattle.pfc_code.specs.declared.images.Block.{Block as CodeBlock}
use Rattle.pfc_code.specs.Images.{PlainImage}
use Rattle.pfc_state.specs.Stands.{Is_ready}
use Rattle.pfc_state.specs.declared.waits.Arm.TheVariants.{Send as To, Receive as From}
use Rattle.pfc_state.specs.declared.waits.Why.TheVariants.{Receive as Receiving}
use Rattle.pfc_world.specs.Channels.{passed_with}
use Rattle.pfc_world.specs.Partners.{sender, ticket_open_to}
use Rattle.pfc_world.specs.Tables.{Table, at}
use Rattle.pfc_world.specs.Transitions.{rested, blocked, placed, ticked}
use Rattle.pfc_semantics.specs.Values.{Value}
use Rattle.pfc_types.specs.declared.types.TypeId.{TypeId}
use Rattle.pfc_semantics.specs.Displays.{Spot}
use Rattle.pfc_semantics.specs.Programs.{Block, Program}
use Rattle.pfc_semantics.specs.Remainders.{Context, Offer, Open, Remainder, to_send, to_receive, to_accept, to_wait, to_end, meets}
use Rattle.pfc_semantics.specs.Rewriting.{Doing, going}
use Rattle.pfc_semantics.specs.Channels as text
use Rattle.pfc_semantics.specs.Channels.{behind_open, Side}
use Rattle.pfc_semantics.specs.Selects.{partner_at, plainly, communicates_by, meets_or_waits, meets_at}
use Rattle.pfc_semantics.specs.Configurations.{Activity, Config, Effect, nobody, offering, activity_of, at_work, goes_on, showing, with_table, location_for}
use Rattle.pfc_semantics.specs.Configurations.{number_for}
use Rattle.pfc_translation.specs.Images.{image_of}
use Rattle.pfc_stacks.specs.Refs.{ref_of, number_of}
use Rattle.pfc_stacks.specs.Stacks.{Stack, Stacks, stack_of, operand, operands_of, cells_of, written}
use Rattle.pfc_stacks.specs.Conditions.{AreLive}
use Rattle.pfc_stacks.specs.Effects.{moved}
use Rattle.pfc_cells.specs.Homes.{Homes}
use Rattle.pfc_cells.specs.Memory.{Entries}
use Rattle.pfc_machines.specs.declared.machine.Machine.{Machine}
use Rattle.pfc_machines.specs.declared.descriptors.Descriptor.{Descriptor}
use Rattle.pfc_machines.specs.declared.alternatives.Alternative.{Alternative}
use Rattle.pfc_machines.specs.declared.alternatives.KeptAlternative.{KeptAlternative}
use Rattle.pfc_machines.specs.declared.alternatives.Offer.TheVariants.{Receive}
use Rattle.pfc_machines.specs.Actions.{Effect as MachineEffect}
use Rattle.pfc_machines.specs.Descriptors.{descriptor_of, withdrawn}
use Rattle.pfc_machines.specs.Partners.{offers}
use Rattle.pfc_machines.specs.Quiet.{makes as makes_one, receiving as receiving_one, CanGo}
use Rattle.pfc_machines.specs.Offers.{words_in, message_of}
use Rattle.pfc_code.specs.Operands.{receiving}
use Rattle.pfc_message_actions.specs.Messages.{channel_for, target_for, taken_for, received_out, received_from, receives as machine_receives, CanGive}
use Rattle.pfc_message_actions.specs.Messages.{CanHandOver}
use Rattle.pfc_machine_acts.specs.Performing.{silent}
use Rattle.pfc_machine_acts.specs.Conditions.{CanReceive}
use Rattle.pfc_standing_code.specs.Settings.{of_own, site_of, IsAt}
use Rattle.pfc_standing_code.specs.Effects.{Arm}
use Rattle.pfc_standing_code.specs.Words.{IsChecked}
use Rattle.pfc_standing_code.specs.Performs.{IsSent, IsReceived, IsOpen, Performs}
use Rattle.pfc_standing_code.specs.Following.{IsPlain, MeetsBy, DoesIn}
use Rattle.pfc_standing_code.proofs.Checked.{checked_for}
use Rattle.pfc_following_source.specs.Behind.{branch_of, GoesOnAt, BehindOpen}
use Rattle.pfc_representation.specs.Levels.{Facts, program_in, LivingLevel, block_of, IsBlockAt, DoesOn}
use Rattle.pfc_representation.specs.Rooms.{end_in, own_address, IsInBlock, LeadsWithin, LeadWithin}
use Rattle.pfc_representation.specs.Callers.{IsWithin}
use Rattle.pfc_representation.specs.Alternatives.{IsReceiving, IsMadeBy}
use Rattle.pfc_representation.specs.Holding.{holders_in}
use Rattle.pfc_representation.specs.Keeping.{IsSameStack}
use Rattle.pfc_representation.specs.Processes.{IsAtLevel, RepresentsProcess}
use Rattle.pfc_representation.specs.Machines.{machine_table, AreAlike}
use Rattle.pfc_representation.specs.Acting.{IsActing, HasArrived}
use Rattle.pfc_representation.specs.Actions.{ComeToSame, IsKept, AreKept}
use Rattle.pfc_kept_own_actions.proofs.Arrived.{stack_there, code_there, code_line, acts_now, next_within}
use Rattle.pfc_kept_messages.specs.Groups.{IsReceive, IsReceived as IsReceiveAction}
use Rattle.pfc_kept_object_actions.proofs.Finding.{first_has}
use Rattle.pfc_kept_messages.proofs.Sight.{StillHolds, nothing_written}
use Rattle.pfc_kept_messages.proofs.Stacks.{written_same, changed_alike, put_alike, changed_cells, written_alike, holds_alike}
use Rattle.pfc_kept_messages.proofs.Sending.{plain_behind, plain_branch}
use Rattle.pfc_kept_messages.proofs.Partner.{is_open_stand, IsShowing, behind_kept}
use Rattle.pfc_kept_messages.proofs.Meeting as meeting
use Rattle.pfc_kept_messages.proofs.Meeting.{is_process, row_is, met_stays, q_there, base, meets_behind}
use Rattle.pfc_kept_messages.proofs.Finding.{waits, process, shows, makes, offers_all, is_offering, FoundThere, found_there, in_machine, in_text}
use Rattle.pfc_kept_messages.proofs.Made.{room_for_one, within_made}
use Rattle.pfc_kept_messages.proofs.Passing.{Sends, sends, IsTarget, to_variable, to_nobody, Receives, receives, Delivers, delivers}
use Rattle.pfc_kept_messages.proofs.Waiting as waiting
use Rattle.pfc_kept_messages.proofs.Waiting.{IsAlone, waits_behind}
use Rattle.pfc_kept_messages.proofs.Whole.{comes_then}

-- ## What a receive takes off

taken_read : (z : ℕ) → taken_for z ≡ receiving z
taken_read zero = refl
taken_read (suc z) = ap (λ (y : Bool). if y then 1 else 2) (other z)
  where
    other : (n : ℕ) → false ≡ (suc n == 0)
    other n = grind arith

receiving_makes : (z to p : ℕ) (y : Machine) → receiving_one z to p y ≡ makes_one y p (Receive (channel_for z p y) z (target_for z p y)) to (taken_for z) []
receiving_makes zero to p y = refl
receiving_makes (suc z) to p y = refl

-- of the stacks alone
channel_on : (z p : ℕ) (y y' : Machine) → y.stacks ≡ y'.stacks → channel_for z p y ≡ channel_for z p y'
channel_on zero p y y' same = ap (λ (s : Stacks). number_of (operand (operands_of s p) 0)) same
channel_on (suc z) p y y' same = ap (λ (s : Stacks). number_of (operand (operands_of s p) 1)) same

target_on : (z p : ℕ) (y y' : Machine) → y.stacks ≡ y'.stacks → target_for z p y ≡ target_for z p y'
target_on zero p y y' same = refl
target_on (suc z) p y y' same = ap (λ (s : Stacks). operand (operands_of s p) 0) same

record TakesOff (m : Machine) (p z : ℕ) (n word : ℤ) (below : List ℤ) : Type 0 where
  number : channel_for z p m ≡ number_of n
  target : target_for z p m ≡ word
  rest : drop (taken_for z) (operands_of m.stacks p) ≡ below
  count : length (operands_of m.stacks p) ≡ taken_for z + length below

module _ (facts : Facts) (m : Machine) (c : Config) (homes : Homes) (entries : Entries) (alike : AreAlike facts homes entries m c) (r : ℕ) (e : Descriptor)
    (level : LivingLevel)
    (stands : IsAtLevel facts homes entries c.store m.stacks c.table (holders_in facts c) r (activity_of (program_in facts) c r) e level)
    (own : level.setting.trial ≡ of_own)
    (b : Block) (x : Context) (checked : IsChecked level.setting b x.env) where
  no_cells : (j : ℕ) (P : Type 0) → 0 ≡ j → 0 < j → P
  no_cells j P same less = absurd (impossible j same less)
    where
      impossible : (i : ℕ) → 0 ≡ i → 0 < i → ⊥
      impossible i h k = grind (arith, h, k)

  some_cells : (j : ℕ) (P : Type 0) → suc j ≡ 0 → P
  some_cells j P same = absurd (impossible j same)
    where
      impossible : (i : ℕ) → suc i ≡ 0 → ⊥
      impossible i h = grind (arith, h)

  takes_off : (y : Machine) (p z : ℕ) (n : ℤ) (held : List ℤ) (u : TypeId) (target : Option Spot) (word : ℤ) (below : List ℤ)
      → IsTarget facts m c homes entries alike r e level stands own b x checked z n held u target word → operands_of y.stacks p ≡ held ++ below
      → TakesOff y p z n word below
  takes_off y p zero n held u _ _ below (to_variable target word carried lies size is) ops = no_cells _ _ size carried.0
  takes_off y p (suc z) n held u _ _ below (to_variable target word carried lies size is) ops =
      let all : operands_of y.stacks p ≡ word ∷ n ∷ below = ops ∙ ap (λ (xs : List ℤ). xs ++ below) is in
      record {
        number = ap (λ (xs : List ℤ). number_of (operand xs 1)) all;
        target = ap (λ (xs : List ℤ). operand xs 0) all;
        rest = ap (λ (xs : List ℤ). drop 2 xs) all;
        count = ap (λ (xs : List ℤ). length xs) all ∙ two (length below);
      }
    where
      two : (j : ℕ) → suc (suc j) ≡ 2 + j
      two j = grind arith
  takes_off y p zero n held u _ _ below (to_nobody signal size is) ops =
      let all : operands_of y.stacks p ≡ n ∷ below = ops ∙ ap (λ (xs : List ℤ). xs ++ below) is in
      record {
        number = ap (λ (xs : List ℤ). number_of (operand xs 0)) all;
        target = refl;
        rest = ap (λ (xs : List ℤ). drop 1 xs) all;
        count = ap (λ (xs : List ℤ). length xs) all ∙ one (length below);
      }
    where
      one : (j : ℕ) → suc j ≡ 1 + j
      one j = grind arith
  takes_off y p (suc z) n held u _ _ below (to_nobody signal size is) ops = some_cells z _ size

  made_receiving : (depth z : ℕ) (n : ℤ) (held : List ℤ) (u : TypeId) (target : Option Spot) (word : ℤ) (to k : ℕ)
      → IsTarget facts m c homes entries alike r e level stands own b x checked z n held u target word → number_of n ≡ k
      → IsReceiving depth z held to (record { activation = depth; offer = Receive k z word; branch = to })
  made_receiving depth zero n held u _ _ to k (to_variable target word carried lies size is) number = no_cells _ _ size carried.0
  made_receiving depth (suc z) n held u _ _ to k (to_variable target word carried lies size is) number = (
    n,
    word,
    is,
    ap (λ j. record { activation = depth; offer = Receive j (suc z) word; branch = to }) (sym number),
  )
  made_receiving depth zero n held u _ _ to k (to_nobody signal size is) number = (
    n,
    is,
    ap (λ j. record { activation = depth; offer = Receive j 0 (pos 0); branch = to }) (sym number),
  )
  made_receiving depth (suc z) n held u _ _ to k (to_nobody signal size is) number = some_cells z _ size

-- ## Both sides

module _ (facts : Facts) (m : Machine) (c : Config) (p choice : ℕ) (level : LivingLevel) (x : Context) (o : Open) (k : Remainder)
    (own : level.setting.trial ≡ of_own)
    (acting : IsActing facts m c p level) (arrived : HasArrived facts m c p level (meets x o k)) (b : Block) (checked : IsChecked level.setting b x.env)
    (none : level.arms ≡ [])
    (plain : IsPlain o) (channel : Spot) (target : Option Spot) (offer : o.offer ≡ to_receive channel target) (z : ℕ) (taken below : List ℤ) where
  abbrev here : ℕ
  here = (stack_of m.stacks p).at

  abbrev ops : List ℤ
  ops = operands_of m.stacks p

  abbrev image : PlainImage
  image = image_of facts.tree

  abbrev g : Program
  g = program_in facts

  abbrev d : Descriptor
  d = descriptor_of m.descriptors p

  abbrev left : List ℤ
  left = drop (taken_for z) ops

  -- the channel, as both sides have it
  abbrev n0 : ℕ
  n0 = number_for g c p channel

  abbrev w : Table
  w = record (machine_table facts c.table) { acting = Some p }

  abbrev source_by : Option ℕ → Config
  source_by None = showing g (goes_on g c p x k) p (offering x (o ∷ []) k)
  source_by (Some q) = communicates_by g c p x o k q (to_receive channel target) (Some (From n0))

  abbrev source : Option ℕ → Effect
  source q = Ok (with_table (source_by q) (passed_with q c.table p (Receiving n0)))

  abbrev machine_by : ℕ → Table → Option ℕ → MachineEffect
  machine_by j y q = Ok (received_from q j z p (record m { world = rested (passed_with q y p (Receiving j)) }))

  module _ (held : ops ≡ taken ++ below) (is_received : IsReceived level.setting (site_of level.setting b x) channel z taken target)
      (there : IsAt level.setting here (RECV z) x.line)
      (rest : Performs level.setting b x.env (here + 1) below [] k) where
    abbrev its : Receives facts m c acting.homes acting.entries acting.alike p d level acting.actor.stands own b x checked channel z taken target
    its = receives facts m c acting.homes acting.entries acting.alike p d level acting.actor.stands own b x checked channel z taken target is_received

    off : TakesOff m p z its.n its.word below
    off = takes_off facts m c acting.homes acting.entries acting.alike p d level acting.actor.stands own b x checked m p z its.n taken its.u target its.word
        below its.into held

    -- the same number of the channel
    number_same : channel_for z p m ≡ n0
    number_same = off.number ∙ its.number ∙ sym its.spot

    receives_are : machine_receives z p m ≡ machine_by n0 w (sender c.table.rows n0)
    receives_are =
        ap (λ j. machine_by j m.world (sender m.world.rows j)) number_same
        ∙ ap (λ (y : Table). machine_by n0 y (sender y.rows n0)) acting.world

    few_below : length below ≤ level.setting.room
    few_below = fewer (length ops) (taken_for z) (length below) level.setting.room off.count arrived.room
      where
        fewer : (n j i r : ℕ) → n ≡ j + i → n ≤ r → i ≤ r
        fewer n j i r same h = grind (arith, same, h)

    few : length left ≤ level.setting.room
    few = subst (λ (xs : List ℤ). length xs ≤ level.setting.room) (sym off.rest) few_below

    goes : GoesOnAt level.setting b (here + 1) left [] (going x.env k)
    goes =
        subst (λ (xs : List ℤ). GoesOnAt level.setting b (here + 1) xs [] (going x.env k)) (sym off.rest)
        (few_below, (checked_for level.setting b x.env k checked, rest))

    in_code : slice_get image.code here ≡ Some (RECV z)
    in_code = code_there facts m c p level acting here (RECV z) x.line there

    own_within : IsWithin facts level here d.communications
    own_within = subst (λ t. IsWithin facts level (own_address t here) d.communications) own arrived.within

    abbrev its_arm : Arm
    its_arm = record { by = ARMR z (here + 1); operands = taken }

    abbrev its_alternative : Alternative
    its_alternative = record { activation = d.activations; offer = Receive n0 z its.word; branch = here + 1 }

    in_block : (n : ℕ) (code : CodeBlock) → IsBlockAt g image.blocks n (block_of level) code → IsInBlock facts n (here + 1)
    in_block n code block other other_is =
        let (j, first, at, goes_there) = within_made facts level (its_arm ∷ []) here d.communications
        (RECV z) 0 its_alternative [] in_code refl refl refl own_within in
        let same : n ≡ j = block.1 ∙ sym at.1 in
        let one : first ≡ other = (let both : Some first ≡ Some other = sym at.0 ∙ ap (λ i. slice_get image.blocks i) (sym same) ∙ other_is in cc) in
        subst (λ i. (other.entry ≤ here + 1) × (here + 1 < i)) (ap (λ i. end_in facts i) (sym same))
        (subst (λ (y : CodeBlock). y.entry ≤ here + 1) one goes_there.entry, goes_there.before)

    alone : IsAlone facts m c p level acting own none its_arm (From n0) its_alternative [] (here + 1) left x o k
    alone =
        record {
          is_made = (
            refl,
            made_receiving facts m c acting.homes acting.entries acting.alike p d level acting.actor.stands own b x checked d.activations z its.n taken its.u
                target its.word (here + 1) n0 its.into
                (its.number ∙ sym its.spot),
          );
          listed = refl;
          leads = in_block;
          accepts = tt;
          within = within_made facts level (its_arm ∷ []) here d.communications (RECV z) 0 its_alternative [] in_code refl refl refl own_within;
          block = b;
          checked = checked;
          open_one =
              subst (λ (y : Offer). IsOpen level.setting (site_of level.setting b x) (length left) o y its_arm
              (λ end. Performs level.setting b x.env end left [] k)) (sym offer) (
                here + 1,
                z,
                refl,
                is_received,
                plain_branch facts level b x o plain (here + 1) (length left)
                    (λ end. Performs level.setting b x.env end left [] k) few goes.1.1,
              );
          behind =
              subst (λ (y : Offer). BehindOpen level.setting b left x o y (here + 1) k) (sym offer)
              (subst (λ (r : Remainder). GoesOnAt level.setting b (here + 1) left [] (going x.env r)) (sym (plain_behind o k plain)) goes);
          few = few;
        }

    abbrev waits_so : ℕ → ℤ → Machine
    waits_so j word = offers
        (makes_one (record m { world = rested (passed_with None w p (Receiving n0)) }) p (Receive j z word) (here + 1) (taken_for z) []) p 1

    nobody_is : machine_by n0 w None ≡ Ok (waits_so n0 its.word)
    nobody_is =
        ap (λ (y : Machine). Ok (offers y p 1)) (receiving_makes z (here + 1) p (record m { world = rested (passed_with None w p (Receiving n0)) }))
        ∙ ap (λ j. Ok (waits_so j (target_for z p (record m { world = rested (passed_with None w p (Receiving n0)) }))))
        (channel_on z p (record m { world = rested (passed_with None w p (Receiving n0)) }) m refl ∙ number_same)
        ∙ ap (λ (word : ℤ). Ok (waits_so n0 word)) (target_on z p (record m { world = rested (passed_with None w p (Receiving n0)) }) m refl ∙ off.target)

    nobody_same : ComeToSame facts m c p x.line (silent (machine_by n0 w None)) (source None)
    nobody_same =
        subst (λ (e : MachineEffect). ComeToSame facts m c p x.line (silent e) (source None)) (sym nobody_is)
        (comes_then facts m c p level acting x.line
        (waiting.activities facts m c p level acting own none its_arm (From n0) its_alternative [] (here + 1) left x o k alone x.line)
        (waiting.descriptors facts m c p level acting own none its_arm (From n0) its_alternative [] (here + 1) left x o k alone x.line) c.store
        (moved m.stacks p (here + 1) left) (blocked c.table p (Receiving n0) [])
        (waits_behind facts m c p level acting own none its_arm (From n0) its_alternative [] (here + 1) left x o k alone x.line)
        (rested (blocked w p (Receiving n0) [])) refl)

    -- ### A sender

    module _ (q : ℕ) (is_first : sender c.table.rows n0 ≡ Some q) where
      ticket : is_some (ticket_open_to (To n0) (at c.table.rows q)) ≡ true
      ticket = first_has (ticket_open_to (To n0)) c.table.rows q is_first

      abbrev dq : Descriptor
      dq = descriptor_of m.descriptors q

      abbrev waits_open : is_open_stand (at c.table.rows q) ≡ true
      waits_open = waits facts m c p level acting own q (To n0) ticket

      abbrev its_showing : IsShowing facts acting.homes acting.entries c.store m.stacks c.table (holders_in facts c) q (activity_of g c q) dq waits_open
      its_showing = shows facts m c p level acting own q (To n0) ticket

      abbrev level_q : LivingLevel
      level_q = its_showing.under_way.level

      abbrev ops_q : List ℤ
      ops_q = (stack_of m.stacks q).operands

      abbrev meets_it : FoundThere facts m c p level acting own q (To n0) ticket
      meets_it = found_there facts m c p level acting own q (To n0) ticket

      own_q : level_q.setting.trial ≡ of_own
      own_q = its_showing.offers.own

      abbrev block_q : Block
      block_q = its_showing.offers.block

      abbrev context_q : Context
      context_q = its_showing.context

      abbrev behind_q : ℕ → Type 0
      behind_q = λ end. Performs level_q.setting block_q context_q.env end ops_q [] its_showing.left

      -- it sends to the same channel
      record IsSender : Type 0 where
        through : Spot
        value : Value
        cells : ℕ
        to : ℕ
        offer_is : meets_it.o.offer ≡ to_send through value
        by_is : meets_it.arm.by ≡ ARMS cells to
        is_sent : IsSent level_q.setting (site_of level_q.setting block_q context_q) through value cells meets_it.arm.operands
        same : number_for g c q through ≡ n0

      by_offer : (other : Offer) → meets_it.o.offer ≡ other
          → IsOpen level_q.setting (site_of level_q.setting block_q context_q) (length ops_q) meets_it.o other meets_it.arm behind_q
          → text.is_arm (To n0) (text.arm_of g c q other) ≡ true → IsSender
      by_offer (to_send ch value) same opened matches =
          record {
            through = ch;
            value = value;
            cells = opened.1;
            to = opened.0;
            offer_is = same;
            by_is = opened.2;
            is_sent = opened.3;
            same = number_is (number_for g c q ch) n0 matches;
          }
        where
          number_is : (i j : ℕ) → (i == j) ≡ true → i ≡ j
          number_is i j h = grind (arith, h)
      by_offer (to_receive ch other) same opened matches = absurd (let no : false ≡ true = matches in cc)
      by_offer (to_accept a) same opened matches = absurd (let no : false ≡ true = matches in cc)
      by_offer (to_wait n) same opened matches = absurd (let no : false ≡ true = matches in cc)
      by_offer to_end same opened matches = absurd (let no : false ≡ true = matches in cc)

      is_sender : IsSender
      is_sender = by_offer meets_it.o.offer refl meets_it.open_one meets_it.matches

      abbrev it_sends : Sends facts m c acting.homes acting.entries acting.alike q dq level_q its_showing.under_way.stands own_q block_q context_q
          its_showing.offers.checked is_sender.through
          is_sender.value is_sender.cells meets_it.arm.operands
      it_sends =
          sends facts m c acting.homes acting.entries acting.alike q dq level_q its_showing.under_way.stands own_q block_q context_q its_showing.offers.checked
          is_sender.through
          is_sender.value is_sender.cells meets_it.arm.operands is_sender.is_sent

      -- the message is written for the process that acts
      abbrev passes_it : Delivers facts m c acting.homes acting.entries acting.alike p d level acting.actor.stands own b x checked target its.word
          is_sender.value is_sender.cells it_sends.message
      passes_it =
          delivers facts m c acting.homes acting.entries acting.alike p d level acting.actor.stands own b x checked
          (location_for g c q is_sender.through) it_sends.u it_sends.k
          is_sender.cells is_sender.value it_sends.message it_sends.here it_sends.passes channel z taken target its
          (sym it_sends.spot ∙ is_sender.same ∙ its.spot)

      abbrev branch : ℕ
      branch = meets_it.kept.alternative.branch

      made_so : IsMadeBy (makes facts m c p level acting own q (To n0) ticket).depth
          (ARMS is_sender.cells is_sender.to) meets_it.arm.operands meets_it.kept.alternative meets_it.is_kept.words
      made_so =
          subst (λ (i : Instr). IsMadeBy
          (makes facts m c p level acting own q (To n0) ticket).depth i meets_it.arm.operands meets_it.kept.alternative meets_it.is_kept.words)
          is_sender.by_is
          meets_it.is_kept.made

      leads_to : is_sender.to ≡ branch
      leads_to = ap (λ (y : Alternative). y.branch) (sym made_so.3)

      words_kept : words_in meets_it.kept.alternative.offer ≡ is_sender.cells
      words_kept = ap (λ (y : Alternative). words_in y.offer) made_so.3

      -- the words that the machine has kept
      message_is : message_of dq.communications meets_it.kept ≡ it_sends.message
      message_is =
          meets_it.is_kept.message
          ∙ (same_from_push meets_it.is_kept.words it_sends.message made_so.0 it_sends.n (sym made_so.1 ∙ it_sends.is)).0

      -- ### What becomes of both

      abbrev doing : Doing
      doing = going x.env (behind_open o k)

      abbrev doing_q : Doing
      doing_q = going context_q.env (behind_open meets_it.o its_showing.left)

      does : DoesOn level (here + 1) left doing
      does = (
        few,
        arrived.arms,
        inl (
          b,
          checked.beside,
          subst (λ (arms : List Arm). DoesIn level.setting b (here + 1) left arms doing) (sym none)
              (subst (λ (r : Remainder). DoesIn level.setting b (here + 1) left [] (going x.env r)) (sym (plain_behind o k plain)) goes.1),
        ),
      )

      goes_q : GoesOnAt level_q.setting block_q branch ops_q [] doing_q
      goes_q =
          subst (λ i. GoesOnAt level_q.setting block_q i ops_q [] doing_q) (ap branch_of is_sender.by_is ∙ leads_to)
          (subst (λ (y : Offer). BehindOpen level_q.setting block_q ops_q context_q meets_it.o y (branch_of meets_it.arm.by) its_showing.left)
          is_sender.offer_is meets_it.left_behind)

      abbrev level_then : LivingLevel
      level_then = record level_q { arms = [] }

      does_q : DoesOn level_then branch ops_q doing_q
      does_q = (goes_q.0, least level_q.setting.arms, inl (block_q, its_showing.offers.checked.beside, goes_q.1))
        where
          least : (i : ℕ) → 0 ≤ i
          least i = grind arith

      leads_q : (j : ℕ) → LeadWithin facts j level_q.arms → IsInBlock facts j branch
      leads_q j lead =
          subst (λ i. IsInBlock facts j i) leads_to (subst (λ (i : Instr). LeadsWithin facts j i) is_sender.by_is (meets_it.leads j lead))

      partner_behind : RepresentsProcess facts acting.homes acting.entries c.store (set m.stacks q (record (stack_of m.stacks q) { at = branch }))
          (ticked (placed c.table q Is_ready)) (holders_in facts c) q
          (at_work (activity_of g c q) doing_q) (withdrawn dq)
      partner_behind =
          behind_kept facts acting.homes acting.entries c.store m.stacks c.table (ticked (placed c.table q Is_ready)) (holders_in facts c) q
          (activity_of g c q) dq waits_open
          (row_is facts m c p level acting own q waits_open) (met_stays facts m c p level acting own q waits_open)
          (q_there facts m c p level acting own q waits_open (here + 1) left branch) its_showing.under_way own_q
          (offers_all facts m c p level acting own q (To n0) ticket) branch leads_q doing_q does_q
          (process facts m c p level acting own q (To n0) ticket)

      -- ### The stacks

      abbrev gone : Stacks
      gone = moved m.stacks p (here + 1) left

      abbrev wrote : ℤ → List ℤ → Stacks
      wrote word message = written gone (ref_of word) (reverse message)

      abbrev put : ℤ → List ℤ → Stacks
      put word message = set (wrote word message) q (record (stack_of (wrote word message) q) { at = branch })

      abbrev stacks' : Stacks
      stacks' = put its.word it_sends.message

      p_there : p < length m.stacks
      p_there = stack_there facts m c p level acting

      q_in : q < length m.stacks
      q_in = q_there facts m c p level acting own q waits_open (here + 1) left branch

      gone_size : length gone ≡ length m.stacks
      gone_size = length-set m.stacks p (record (stack_of m.stacks p) { at = here + 1; operands = left })

      wrote_size : length (wrote its.word it_sends.message) ≡ length m.stacks
      wrote_size = length-set gone (ref_of its.word).process _ ∙ gone_size

      size : length stacks' ≡ length m.stacks
      size = length-set (wrote its.word it_sends.message) q _ ∙ wrote_size

      same_places : (r : ℕ) → IsSameStack (stack_of (base facts m c p level acting own q waits_open (here + 1) left branch) r) (stack_of stacks' r)
      same_places r =
          changed_alike gone (wrote its.word it_sends.message) q (λ (s : Stack). record s { at = branch }) (put_alike branch)
          (subst (λ n. q < n) (sym gone_size) q_in)
          (subst (λ n. q < n) (sym wrote_size) q_in) (written_same gone (ref_of its.word) (reverse it_sends.message)) r

      gone_cells : (r : ℕ) → cells_of gone r ≡ cells_of m.stacks r
      gone_cells r = changed_cells m.stacks p (λ (s : Stack). record s { at = here + 1; operands = left }) (λ s. refl) p_there r

      wrote_cells : ((ref_of its.word).process < length m.stacks) ⊎ (it_sends.message ≡ []) → (r : ℕ)
          → cells_of (wrote its.word it_sends.message) r ≡ cells_of (written m.stacks (ref_of its.word) (reverse it_sends.message)) r
      wrote_cells (inl inside) r =
          written_alike m.stacks gone (ref_of its.word) (reverse it_sends.message) inside
          (subst (λ n. (ref_of its.word).process < n) (sym gone_size) inside) gone_cells r
      wrote_cells (inr nothing) r =
          ap (λ (ws : List ℤ). cells_of (written gone (ref_of its.word) (reverse ws)) r) nothing
          ∙ ap (λ (s : Stacks). cells_of s r) (nothing_written gone (ref_of its.word)) ∙ gone_cells r
          ∙ ap (λ (s : Stacks). cells_of s r) (sym (nothing_written m.stacks (ref_of its.word)))
          ∙ ap (λ (ws : List ℤ). cells_of (written m.stacks (ref_of its.word) (reverse ws)) r) (sym nothing)

      holds : StillHolds facts acting.homes acting.entries c.store passes_it.store stacks'
      holds =
          holds_alike facts acting.homes acting.entries c.store passes_it.store (written m.stacks (ref_of its.word) (reverse it_sends.message)) stacks'
          (λ r. changed_cells (wrote its.word it_sends.message) q (λ (s : Stack). record s { at = branch }) (λ s. refl)
          (subst (λ n. q < n) (sym wrote_size) q_in) r
          ∙ wrote_cells passes_it.inside r)
          (size ∙ sym (length-set m.stacks (ref_of its.word).process _)) passes_it.holds

      -- ### Both sides

      abbrev after_it : Machine
      after_it = record m {
        stacks = stacks';
        descriptors = set m.descriptors q (withdrawn dq);
        world = rested (placed w q Is_ready);
      }

      abbrev put_so : ℤ → List ℤ → MachineEffect
      put_so word message = Ok (record m {
        stacks = put word message;
        descriptors = set m.descriptors q (withdrawn dq);
        world = rested (placed w q Is_ready);
      })

      machine_is : machine_by n0 w (Some q) ≡ Ok after_it
      machine_is =
          ap (λ (kept : Option KeptAlternative). Ok (received_out kept z p q (record m { world = rested (passed_with (Some q) w p (Receiving n0)) })))
          (in_machine facts m c p level acting own q (To n0) ticket)
          ∙ ap (λ (word : ℤ). put_so word (message_of dq.communications meets_it.kept))
          (target_on z p (record m { world = rested (passed_with (Some q) w p (Receiving n0)) }) m refl ∙ off.target)
          ∙ ap (λ (ws : List ℤ). put_so its.word ws) message_is

      abbrev going_on : Config
      going_on = goes_on g c p x (behind_open o k)

      abbrev side : Side
      side = record { context = context_q; at = meets_it.o; left = its_showing.left }

      source_is : source (Some q) ≡ Ok (with_table (text.goes_behind g (record going_on { store = passes_it.store }) q side) (placed c.table q Is_ready))
      source_is =
          ap (λ (s : Option Side). Ok (with_table (text.received_from g going_on p target q s) (placed c.table q Is_ready)))
          (in_text facts m c p level acting own q (To n0) ticket)
          ∙ ap (λ (y : Offer). Ok (with_table (text.received_out g going_on p target q side y) (placed c.table q Is_ready))) is_sender.offer_is
          ∙ ap (λ (e : Config). Ok (with_table (text.goes_behind g e q side) (placed c.table q Is_ready)))
          (passes_it.text going_on refl
          (ap (λ (y : Activity). y.display) (get_or-set_same c.activities p (at_work (activity_of g c p) doing) (nobody g) acting.actor.process)))

      sender_same : ComeToSame facts m c p x.line (silent (machine_by n0 w (Some q))) (source (Some q))
      sender_same =
          subst (λ (e : MachineEffect). ComeToSame facts m c p x.line (silent e) (source (Some q))) (sym machine_is)
          (subst (λ (e : Effect). ComeToSame facts m c p x.line (silent (Ok after_it)) e) (sym source_is)
          (comes_then facts m c p level acting x.line
          (meeting.activities facts m c p level acting own q waits_open (here + 1) left branch doing x.line does
          (next_within facts m c p level acting own (RECV z) x.line there refl arrived.within)
          passes_it.store stacks' size same_places holds doing_q partner_behind)
          (meeting.descriptors facts m c p level acting own q waits_open (here + 1) left branch doing x.line does
          (next_within facts m c p level acting own (RECV z) x.line there refl arrived.within)
          passes_it.store stacks' size same_places holds doing_q partner_behind)
          passes_it.store stacks' (placed c.table q Is_ready)
          (meets_behind facts m c p level acting own q waits_open (here + 1) left branch doing x.line does
          (next_within facts m c p level acting own (RECV z) x.line there refl arrived.within)
          passes_it.store stacks' size same_places holds doing_q partner_behind)
          (rested (placed w q Is_ready))
          (ap (λ (who : Option ℕ). record (machine_table facts (placed c.table q Is_ready)) { acting = who }) (sym acting.alike.between.acting))))

      can_give : CanGive m q (To n0) (ref_of (target_for z p m))
      can_give =
          record {
            descriptor = subst (λ n. q < n) (sym acting.alike.words.descriptors) (is_process facts m c p level acting own q waits_open);
            offered = is_offering facts m c p level acting own q (To n0) ticket;
            message =
                subst (λ (kept : Option KeptAlternative). IfSome kept (CanHandOver m q (ref_of (target_for z p m))))
                (sym (in_machine facts m c p level acting own q (To n0) ticket))
                (record {
                  held = meets_it.is_kept.held;
                  live =
                      subst (λ (word : ℤ). AreLive m.stacks (ref_of word) (words_in meets_it.kept.alternative.offer)) (sym off.target)
                      (subst (λ i. AreLive m.stacks (ref_of its.word) i) (sym words_kept) passes_it.live);
                });
          }

    -- ### The instruction

    by_sender : (q : Option ℕ) → sender c.table.rows n0 ≡ q → ComeToSame facts m c p x.line (silent (machine_by n0 w q)) (source q)
    by_sender None is = nobody_same
    by_sender (Some q) is = sender_same q is

    can_go : CanGo (RECV z) p m
    can_go =
        let acts = acts_now facts m c p level acting (RECV z) x.line there in
        let room = room_for_one facts level (its_arm ∷ []) here d.communications (RECV z) 0 its_alternative [] in_code refl refl refl own_within in
        record {
          stack = acts.acts.stack;
          descriptor = acts.acts.descriptor;
          held = subst (λ j. j ≤ length ops) (taken_read z) (many (length ops) (taken_for z) (length below) off.count);
          places = room.0;
          words = room.1;
          next = acts.acts.next;
        }
      where
        many : (n j i : ℕ) → n ≡ j + i → j ≤ n
        many n j i same = grind (arith, same)

    can_receive : CanReceive z p m
    can_receive =
        record {
          room = can_go;
          sender = λ q is.
              subst (λ j. CanGive m q (To j) (ref_of (target_for z p m))) (sym number_same)
              (can_give q (ap (λ (y : Table). sender y.rows n0) (sym acting.world) ∙ ap (λ j. sender m.world.rows j) (sym number_same) ∙ is));
        }

    source_same : (q : Option ℕ) → source q ≡ Ok (with_table (meets_or_waits g c p x o k q) (passed_with q c.table p (Receiving n0)))
    source_same None = refl
    source_same (Some q) =
        ap (λ (y : Offer). Ok (with_table (communicates_by g c p x o k q y (text.arm_of g c p y)) (passed_with (Some q) c.table p (Receiving n0)))) (sym offer)

    effect_is : source (sender c.table.rows n0) ≡ meets_at g c p x o k
    effect_is =
        source_same (sender c.table.rows n0)
        ∙ ap (λ (y : Offer). Ok (with_table (meets_or_waits g c p x o k (partner_at c p (text.arm_of g c p y))) (plainly c.table p (text.arm_of g c p y))))
        (sym offer)

    pub receive_kept : IsKept facts m c p choice (meets x o k)
    receive_kept =
        record {
          instr = RECV z;
          is = in_code;
          can_step = record {
            stack = stack_there facts m c p level acting;
            performed = record { held = can_go.held; room = grind arith; reach = tt };
            goes = λ outward. can_go;
          };
          no_move = tt;
          can_do = record { acting = acts_now facts m c p level acting (RECV z) x.line there; can = can_receive };
          line = code_line facts m c p level acting here (RECV z) x.line there;
          choices = refl;
          same =
              subst (λ (e : MachineEffect). ComeToSame facts m c p x.line (silent e) (meets_at g c p x o k)) (sym receives_are)
              (subst (λ (e : Effect). ComeToSame facts m c p x.line (silent (machine_by n0 w (sender c.table.rows n0))) e) effect_is
              (by_sender (sender c.table.rows n0) refl));
        }

-- ## The law

module _ (facts : Facts) (m : Machine) (c : Config) (p choice : ℕ) (level : LivingLevel) (x : Context) (o : Open) (k : Remainder)
    (acting : IsActing facts m c p level)
    (arrived : HasArrived facts m c p level (meets x o k)) where
  by_kind : (offer : Offer) → o.offer ≡ offer → IsReceive offer → level.setting.trial ≡ of_own → (b : Block) → IsChecked level.setting b x.env
      → level.arms ≡ [] → IsPlain o
      → MeetsBy level.setting b x (stack_of m.stacks p).at (operands_of m.stacks p) o offer k → IsKept facts m c p choice (meets x o k)
  by_kind (to_send channel v) is kind own b checked none plain by = absurd kind
  by_kind (to_receive channel target) is kind own b checked none plain by =
      receive_kept facts m c p choice level x o k own acting arrived b checked none plain channel target is by.0 by.1 by.2 by.3 by.4 by.5 by.6
  by_kind (to_accept a) is kind own b checked none plain by = absurd kind
  by_kind (to_wait n) is kind own b checked none plain by = absurd kind
  by_kind to_end is kind own b checked none plain by = absurd kind

pub receives_kept : AreKept IsReceiveAction
receives_kept facts m c p choice level (meets x o k) is acting arrived chosen =
    let (b, checked, alone) = arrived.arrived in
    by_kind facts m c p choice level x o k acting arrived o.offer refl is alone.0.0 b checked alone.0.1 alone.1.0 alone.1.1
receives_kept facts m c p choice level n is acting arrived chosen = absurd is
