-- No alternative is matched: the `else` part, a `timeout 0`, a wait, or the fault where all are closed.
use Rattle.std.proofs.Common.{◌≡◌, ℕ, zero, suc, ◌+◌, ◌-◌, ◌*◌, ◌^◌, ◌<◌, ◌≤◌, ◌==◌, ℤ, Bool, true, false, if◌then◌else◌, List, [], ◌∷◌, length}
use Rattle.std.proofs.Common.{slice_get, Option, Some, None, Result, Ok, Err, refl, sym, ap, ◌∙◌, subst, arith, ◌⊎◌, inl, inr}
use Rattle.std.specs.Prelude.{nat_le}
use Rattle.pfc_base.specs.declared.faults.RunFault.{RunFault}
use Rattle.pfc_base.specs.declared.faults.RunFault.TheVariants.{Late, Closed}
use Rattle.pfc_code.specs.declared.instructions.Instr.{Instr}
use Rattle.pfc_code.specs.declared.instructions.Instr.TheVariants.{SEL}
use Rattle.pfc_code.specs.declared.images.Block.{Block as CodeBlock}
use Rattle.pfc_world.specs.Tables.{Table, at}
use Rattle.pfc_semantics.specs.Programs.{Block, Program}
use Rattle.pfc_semantics.specs.Remainders.{Context, Offer, Open, Otherwise, Selecting, Remainder}
use Rattle.pfc_semantics.specs.Rewriting.{going}
use Rattle.pfc_semantics.specs.Statements.{behind as stmts_behind}
use Rattle.pfc_semantics.specs.Channels.{behind_open}
use Rattle.pfc_semantics.specs.Selects.{latest, Timeout, open_timeout, waits_until, waits_or_closed, times_out, goes_otherwise}
use Rattle.pfc_semantics.specs.Configurations.{Activity, Config, activity_of, goes_on}
use Rattle.pfc_translation.specs.Images.{image_of}
use Rattle.pfc_image_laws.specs.Operands.{is_end}
use Rattle.pfc_stacks.specs.Stacks.{Stack, stack_of, operands_of}
use Rattle.pfc_machines.specs.declared.machine.Machine.{Machine}
use Rattle.pfc_machines.specs.declared.descriptors.Descriptor.{Descriptor}
use Rattle.pfc_machines.specs.declared.alternatives.KeptAlternative.{KeptAlternative}
use Rattle.pfc_machines.specs.declared.alternatives.Offer.{Offer as MachineOffer}
use Rattle.pfc_machines.specs.declared.alternatives.Sought.TheVariants.{Delay}
use Rattle.pfc_machines.specs.Communications.{Communicating}
use Rattle.pfc_machines.specs.Descriptors.{descriptor_of}
use Rattle.pfc_machines.specs.Offers.{without, first_sought}
use Rattle.pfc_own_actions.specs.Doing.{due_after}
use Rattle.pfc_select_actions.specs.Selects as machine
use Rattle.pfc_select_actions.specs.Selects.{open_count, open_ones, waits_at, seconds_of}
use Rattle.pfc_machine_acts.specs.Performing.{silent}
use Rattle.pfc_standing_code.specs.Effects.{LeadsAhead, LeadAhead}
use Rattle.pfc_standing_code.specs.Settings.{Trial, of_own, site_of, IsAt}
use Rattle.pfc_standing_code.specs.Words.{IsChecked}
use Rattle.pfc_standing_code.specs.Performs.{AreOpen, DecidesAt}
use Rattle.pfc_following_source.specs.Behind.{GoesOnAt, branch_of, BehindOpen, BehindElse, BehindAll}
use Rattle.pfc_representation.specs.Levels.{Facts, program_in, LivingLevel, block_of, IsBlockAt}
use Rattle.pfc_representation.specs.Rooms.{process_count, end_in, room_behind, own_address, HasRoomFor, IsInBlock, LeadsWithin}
use Rattle.pfc_representation.specs.Callers.{IsWithin}
use Rattle.pfc_representation.specs.Acting.{IsActing}
use Rattle.pfc_representation.specs.Actions.{ComeToSame}
use Rattle.pfc_kept_own_actions.proofs.Alone.{refuse}
use Rattle.pfc_kept_own_actions.proofs.Arrived.{code_there, next_within}
use Rattle.pfc_kept_own_actions.proofs.Blocks.{StaysIn}
use Rattle.pfc_kept_own_actions.proofs.Within.{later_less, code_stays}
use Rattle.pfc_kept_meetings.proofs.selects.Same.{TimedOut, timeout_same}
use Rattle.pfc_kept_meetings.proofs.selects.Gone.{HasBranches}
use Rattle.pfc_kept_meetings.proofs.selects.Both as both
use Rattle.pfc_kept_meetings.proofs.selects.Unmatched.{its_branches, gone_same, waits_same}

is_least : (n k : ℕ) → nat_le n k ≡ true → n ≤ k
is_least n k h = grind (arith, h)

-- code that stands later makes no more
later_room : (facts : Facts) (k at to : ℕ) (e : Communicating) → at < to → HasRoomFor e (room_behind facts k at) → HasRoomFor e (room_behind facts k to)
later_room facts k at to e above room =
    let place : at + (to - at) ≡ to = grind (arith, above) in
    let less = later_less (process_count facts) (to - at) at (end_in facts k) (image_of facts.tree).code in
    subst (λ i. HasRoomFor e (room_behind facts k i)) place (grind (arith, less.0, room.0), grind (arith, less.1, room.1), grind (arith, less.2, room.2))

module _ (facts : Facts) (m : Machine) (c : Config) (p : ℕ) (level : LivingLevel) (acting : IsActing facts m c p level) (own : level.setting.trial ≡ of_own)
    (b : Block) (x : Context) (checked : IsChecked level.setting b x.env) (sel : Selecting) (k : Remainder)
    (opened : AreOpen level.setting (site_of level.setting b x) (length (operands_of m.stacks p)) sel.offered level.arms
    (both.behind facts m c p level acting own b x checked sel.offered k))
    (behind_all : BehindAll level.setting b (operands_of m.stacks p) x sel.offered level.arms k)
    (arms_fit : length level.arms ≤ level.setting.arms)
    (within : IsWithin facts level (own_address level.setting.trial (stack_of m.stacks p).at) (descriptor_of m.descriptors p).communications)
    (ops_fit : length (operands_of m.stacks p) ≤ level.setting.room) where
  abbrev g : Program
  g = program_in facts

  abbrev s : Stack
  s = stack_of m.stacks p

  abbrev here : ℕ
  here = s.at

  abbrev ops : List ℤ
  ops = operands_of m.stacks p

  abbrev a : Activity
  a = activity_of g c p

  abbrev d : Descriptor
  d = descriptor_of m.descriptors p

  abbrev os : List Open
  os = sel.offered

  abbrev n : ℕ
  n = open_count m p

  count_is : n ≡ length level.arms
  count_is = both.count_is facts m c p level acting own b x checked os k

  abbrev branches : HasBranches facts acting.homes acting.entries c.store c.table p level (without n d.communications)
  branches = its_branches facts m c p level acting own b x checked sel k opened behind_all arms_fit within ops_fit

  -- ## Where it goes on

  -- an address of the block, which is that in which the process is
  in_its_block : (j : ℕ) (e : CodeBlock) (to : ℕ) → IsBlockAt g (image_of facts.tree).blocks j (block_of level) e → e.entry ≤ to → to < end_in facts j
      → IsInBlock facts branches.number to
  in_its_block j e to is above below other there =
      let same : branches.number ≡ j = branches.is.1 ∙ sym is.1 in
      let one : e ≡ other =
      (let pair : Some e ≡ Some other = sym is.0 ∙ ap (λ i. slice_get (image_of facts.tree).blocks i) (sym same) ∙ there in cc) in
      (subst (λ (y : CodeBlock). y.entry ≤ to) one above, subst (λ i. to < end_in facts i) (sym same) below)

  -- the code behind a branch makes no more than that behind the decision
  ahead_within : (to : ℕ) → here < to → IsInBlock facts branches.number to → IsWithin facts level to d.communications
  ahead_within to less leads =
      let (j, e, is, goes) = subst (λ (t : Trial). IsWithin facts level (own_address t here) d.communications) own within in
      let same : branches.number ≡ j = branches.is.1 ∙ sym is.1 in
      let inside = leads e (ap (λ i. slice_get (image_of facts.tree).blocks i) same ∙ is.0) in (
        j,
        e,
        is,
        record {
          entry = inside.0;
          before = subst (λ i. to < end_in facts i) same inside.1;
          rest = later_room facts j here to d.communications less goes.rest;
        },
      )

  -- the `else` part stands in the block
  else_within : (mark j : ℕ) → IsAt level.setting here (SEL mark (suc j)) x.line → IsInBlock facts branches.number (suc j)
  else_within mark j there =
      let (i, e, is, goes) = subst (λ (t : Trial). IsWithin facts level (own_address t here) d.communications) own within in
      let stays = stay i e (code_stays facts i e is.0 here (SEL mark (suc j)) goes.entry goes.before
      (code_there facts m c p level acting here (SEL mark (suc j)) x.line there)) in
      in_its_block i e (suc j) is (above e.entry goes.entry stays.1.0) stays.1.1
    where
      stay : (i : ℕ) (e : CodeBlock) → (is_end (SEL mark (suc j)) ≡ true) ⊎ StaysIn e.entry (end_in facts i) here (SEL mark (suc j))
          → StaysIn e.entry (end_in facts i) here (SEL mark (suc j))
      stay i e (inl end) = (let no : false ≡ true = end in cc)
      stay i e (inr stays) = stays

      above : (n : ℕ) → n ≤ here → here < suc j → n ≤ suc j
      above n h l = grind (arith, h, l)

  -- ## Without an `else` part

  module _ (mark : ℕ) (there : IsAt level.setting here (SEL mark 0) x.line) (ahead : LeadAhead here level.arms) where
    -- nothing sets an end to the wait
    module _ (no_timeout : first_sought Delay (open_ones m p) ≡ None) where
      closed_or_waits : (ys : List Open) → sel.offered ≡ ys
          → ComeToSame facts m c p x.line (silent (machine.waits_or_closed None p m)) (waits_or_closed g c p x sel k None ys)
      closed_or_waits [] is =
          let none : n ≡ 0 =
          count_is ∙ sym (both.as_many facts m c p level acting own b x checked os k opened) ∙ ap (λ (ys : List Open). length ys) is in
          subst (λ (y : Bool). ComeToSame facts m c p x.line (silent (if y then Err Closed else Ok (waits_at None (here + 1) p m))) (Err Closed))
          (sym (zero_test n none)) (refuse facts m c p level acting x.line Closed)
        where
          zero_test : (i : ℕ) → i ≡ 0 → (i == 0) ≡ true
          zero_test i h = grind (arith, h)
      closed_or_waits (o ∷ ys) is =
          let some : n ≡ suc (length ys) =
          count_is ∙ sym (both.as_many facts m c p level acting own b x checked os k opened) ∙ ap (λ (zs : List Open). length zs) is in
          subst (λ (y : Bool). ComeToSame facts m c p x.line (silent (if y then Err Closed else Ok (waits_at None (here + 1) p m)))
          (Ok (waits_until g c p x sel k None k)))
          (sym (some_test n (length ys) some))
          (waits_same facts m c p level acting own b x checked sel k opened behind_all arms_fit within ops_fit None (λ t h. absurd (no_due t h)) (here + 1) k
          (subst (λ (t : Trial). IsWithin facts level (own_address t (here + 1)) d.communications) own
          (next_within facts m c p level acting own (SEL mark 0) x.line there refl within)) (λ t h. absurd (no_due t h)))
        where
          some_test : (i j : ℕ) → i ≡ suc j → (i == 0) ≡ false
          some_test i j h = grind (arith, h)

          no_due : (t : ℕ) → None ≡ Some t → ⊥
          no_due t h = cc

    -- a `timeout` is open
    module _ (it : TimedOut c p g level.setting b x (both.number facts m c p level acting own b x checked os k) facts (length a.activations)
        d.communications.words ops k os level.arms (both.kept_ones facts m c p level acting own b x checked os k)) where
      abbrev branch : ℕ
      branch = it.kept.alternative.branch

      abbrev due : ℕ
      due = c.table.moment + 1000 * it.seconds

      leads : IsInBlock facts branches.number branch
      leads =
          subst (λ i. IsInBlock facts branches.number i) it.branch
          (subst (λ (i : Instr). LeadsWithin facts branches.number i) it.by_is (it.leads branches.number branches.branches))

      is_ahead : here < branch
      is_ahead = subst (λ i. here < i) it.branch (subst (λ (i : Instr). LeadsAhead here i) it.by_is (it.ahead here ahead))

      goes : GoesOnAt level.setting b branch ops [] (going x.env (behind_open it.o k))
      goes =
          subst (λ i. GoesOnAt level.setting b i ops [] (going x.env (behind_open it.o k))) it.branch
          (subst (λ (y : Offer). BehindOpen level.setting b ops x it.o y (branch_of it.arm.by) k) it.offer_is it.left_behind)

      by_early : (early : Bool) → nat_le due latest ≡ early
          → ComeToSame facts m c p x.line (silent (machine.times_out (if early then Ok (Some due) else Err Late) branch p m))
          (if early then Ok (waits_until g c p x sel k (Some due) (behind_open it.o k)) else Err Late)
      by_early true is =
          waits_same facts m c p level acting own b x checked sel k opened behind_all arms_fit within ops_fit (Some due)
          (λ t h. subst (λ i. i ≤ 10 ^ 15) (same_due t h) (is_least due latest is)) branch (behind_open it.o k)
          (ahead_within branch is_ahead leads) (λ t h. goes)
        where
          same_due : (t : ℕ) → Some due ≡ Some t → due ≡ t
          same_due t h = cc
      by_early false is = refuse facts m c p level acting x.line Late

      by_zero : (zero_wait : Bool)
          → ComeToSame facts m c p x.line
          (silent (machine.times_out (if zero_wait then Ok None else (if nat_le due latest then Ok (Some due) else Err Late)) branch p m))
          (if zero_wait then Ok (goes_on g c p x (behind_open it.o k)) else
          (if nat_le due latest then Ok (waits_until g c p x sel k (Some due) (behind_open it.o k)) else Err Late))
      by_zero true =
          gone_same facts m c p level acting own b x checked sel k opened behind_all arms_fit within ops_fit branch (going x.env (behind_open it.o k))
          leads goes
      by_zero false = by_early (nat_le due latest) refl

      machine_due : due_after m.world.moment (seconds_of it.kept.alternative.offer) ≡ due_after c.table.moment it.seconds
      machine_due =
          ap (λ (y : MachineOffer). due_after m.world.moment (seconds_of y)) it.machine_is
          ∙ ap (λ (y : Table). due_after y.moment it.seconds) acting.world

      times_same : ComeToSame facts m c p x.line (silent (machine.waits_or_closed (Some it.kept) p m))
          (times_out g c p x sel k (Some (record { seconds = it.seconds; at = it.o })))
      times_same =
          subst (λ (e : Result (Option ℕ) RunFault). ComeToSame facts m c p x.line (silent (machine.times_out e branch p m))
          (times_out g c p x sel k (Some (record { seconds = it.seconds; at = it.o })))) (sym machine_due) (by_zero (it.seconds == 0))

    ones_are : open_ones m p ≡ both.kept_ones facts m c p level acting own b x checked os k
    ones_are = both.ones_are facts m c p level acting own b x checked os k

    no_else_same : ComeToSame facts m c p x.line (silent (machine.goes_otherwise 0 p m)) (goes_otherwise g c p x sel k None)
    no_else_same =
        by_timeout (timeout_same c p g level.setting b x (both.number facts m c p level acting own b x checked os k) facts (length a.activations)
        d.communications.words ops k os level.arms (both.kept_ones facts m c p level acting own b x checked os k) opened
        (both.kept facts m c p level acting own b x checked os k) behind_all)
      where
        by_timeout : ((open_timeout os ≡ None) × (first_sought Delay (both.kept_ones facts m c p level acting own b x checked os k) ≡ None))
            ⊎ TimedOut c p g level.setting b x (both.number facts m c p level acting own b x checked os k) facts (length a.activations)
            d.communications.words ops k os level.arms (both.kept_ones facts m c p level acting own b x checked os k)
            → ComeToSame facts m c p x.line (silent (machine.goes_otherwise 0 p m)) (goes_otherwise g c p x sel k None)
        by_timeout (inl none) =
            let no : first_sought Delay (open_ones m p) ≡ None = ap (λ (ks : List KeptAlternative). first_sought Delay ks) ones_are ∙ none.1 in
            subst (λ (y : Option KeptAlternative). ComeToSame facts m c p x.line (silent (machine.waits_or_closed y p m))
            (goes_otherwise g c p x sel k None)) (sym no)
            (subst (λ (y : Option Timeout). ComeToSame facts m c p x.line (silent (machine.waits_or_closed None p m)) (times_out g c p x sel k y))
            (sym none.0) (closed_or_waits no os refl))
        by_timeout (inr it) =
            subst (λ (y : Option KeptAlternative). ComeToSame facts m c p x.line (silent (machine.waits_or_closed y p m))
            (goes_otherwise g c p x sel k None)) (sym (ap (λ (ks : List KeptAlternative). first_sought Delay ks) ones_are ∙ it.in_machine))
            (subst (λ (y : Option Timeout). ComeToSame facts m c p x.line (silent (machine.waits_or_closed (Some it.kept) p m)) (times_out g c p x sel k y))
            (sym it.in_text) (times_same it))

  -- ## With an `else` part, and without one

  else_same : (mark j : ℕ) (other : Otherwise) → IsAt level.setting here (SEL mark (suc j)) x.line
      → GoesOnAt level.setting b (suc j) ops [] (going x.env (stmts_behind other.next other.stmts k))
      → ComeToSame facts m c p x.line (silent (machine.goes_otherwise (suc j) p m)) (goes_otherwise g c p x sel k (Some other))
  else_same mark j other there goes =
      gone_same facts m c p level acting own b x checked sel k opened behind_all arms_fit within ops_fit (suc j)
      (going x.env (stmts_behind other.next other.stmts k)) (else_within mark j there) goes

  -- the instruction, and what it does where nothing is matched
  pub record Decides : Type 0 where
    pub mark : ℕ
    pub other : ℕ
    pub there : IsAt level.setting here (SEL mark other) x.line
    pub mark_is : mark ≡ (if sel.pri then 1 else 0)
    pub same : LeadAhead here level.arms
        → ComeToSame facts m c p x.line (silent (machine.goes_otherwise other p m)) (goes_otherwise g c p x sel k sel.otherwise)

  by_else : (o : Option Otherwise) → sel.otherwise ≡ o
      → DecidesAt level.setting (site_of level.setting b x) here (length ops) sel.pri o (both.behind facts m c p level acting own b x checked os k)
      → BehindElse level.setting b here ops x o k → Decides
  by_else None is at leads =
      record {
        mark = if sel.pri then 1 else 0;
        other = 0;
        there = at;
        mark_is = refl;
        same = λ ahead.
            subst (λ (o : Option Otherwise). ComeToSame facts m c p x.line (silent (machine.goes_otherwise 0 p m)) (goes_otherwise g c p x sel k o)) (sym is)
            (no_else_same (if sel.pri then 1 else 0) at ahead);
      }
  by_else (Some other) is (to, there, above, rest) leads =
      by_address to there above (leads (if sel.pri then 1 else 0) to x.line there)
    where
      no_less : (i : ℕ) → i < 0 → ⊥
      no_less i h = grind (arith, h)

      by_address : (to : ℕ) → IsAt level.setting here (SEL (if sel.pri then 1 else 0) to) x.line → here < to
          → GoesOnAt level.setting b to ops [] (going x.env (stmts_behind other.next other.stmts k)) → Decides
      by_address zero at less goes = absurd (no_less here less)
      by_address (suc j) at less goes =
          record {
            mark = if sel.pri then 1 else 0;
            other = suc j;
            there = at;
            mark_is = refl;
            same = λ ahead.
                subst (λ (o : Option Otherwise). ComeToSame facts m c p x.line (silent (machine.goes_otherwise (suc j) p m))
                (goes_otherwise g c p x sel k o)) (sym is) (else_same (if sel.pri then 1 else 0) j other at goes);
          }

  pub decides_so : DecidesAt level.setting (site_of level.setting b x) here (length ops) sel.pri sel.otherwise
      (both.behind facts m c p level acting own b x checked os k)
      → BehindElse level.setting b here ops x sel.otherwise k → Decides
  decides_so at leads = by_else sel.otherwise refl at leads
