-- No alternative is matched: the process goes on elsewhere, or it waits.
use Rattle.std.proofs.Common.{◌≡◌, ℕ, zero, suc, ◌+◌, ◌^◌, ◌<◌, ◌≤◌, ℤ, Bool, true, false, List, [], ◌∷◌, length, set, take}
use Rattle.std.proofs.Common.{get_or, Option, Some, None, Ok, refl, sym, ap, ◌∙◌, subst, arith, inl}
use Rattle.std.specs.Prelude.{is_some}
use Rattle.std.proofs.lemmas.List.{get_or-set_same, length-set}
use Rattle.pfc_state.specs.Stands.{Stand, Waits, is_unfinished, ticket_of, due_of}
use Rattle.pfc_state.specs.declared.waits.Arm.{Arm as WaitArm}
use Rattle.pfc_state.specs.declared.waits.Why.TheVariants.{Select}
use Rattle.pfc_world.specs.Selects.{select_waited}
use Rattle.pfc_world.specs.Tables.{Table, at}
use Rattle.pfc_world.specs.Transitions.{rested, ticked}
use Rattle.pfc_semantics.specs.Programs.{Block, Program}
use Rattle.pfc_semantics.specs.Remainders.{Context, Open, Selecting, Remainder}
use Rattle.pfc_semantics.specs.Rewriting.{Doing, going}
use Rattle.pfc_semantics.specs.Channels as text
use Rattle.pfc_semantics.specs.Selects.{may_terminate_at, waits_until}
use Rattle.pfc_semantics.specs.Configurations.{Hand, empty_hand, offering, Activity, Config, nobody, activity_of, at_work}
use Rattle.pfc_stacks.specs.Refs.{word_of}
use Rattle.pfc_stacks.specs.Stacks.{Stack, stack_of, operands_of, last_activation}
use Rattle.pfc_machines.specs.declared.machine.Machine.{Machine}
use Rattle.pfc_machines.specs.declared.descriptors.Descriptor.{Descriptor}
use Rattle.pfc_machines.specs.declared.alternatives.KeptAlternative.{KeptAlternative}
use Rattle.pfc_machines.specs.declared.alternatives.Sought.TheVariants.{End}
use Rattle.pfc_machines.specs.Actions.{at_rest}
use Rattle.pfc_machines.specs.Communications.{Communicating}
use Rattle.pfc_machines.specs.Descriptors.{descriptor_of}
use Rattle.pfc_machines.specs.Offers.{arms_of, without, first_sought}
use Rattle.pfc_select_actions.specs.Selects.{open_count, open_ones, open_arms, decided, waits_at}
use Rattle.pfc_machine_acts.specs.Performing.{silent}
use Rattle.pfc_standing_code.specs.Settings.{of_own, site_of}
use Rattle.pfc_standing_code.specs.Words.{IsChecked}
use Rattle.pfc_standing_code.specs.Performs.{AreOpen}
use Rattle.pfc_following_source.specs.Behind.{GoesOnAt, BehindAll}
use Rattle.pfc_representation.specs.Levels.{Facts, program_in, LivingLevel, DoesOn}
use Rattle.pfc_representation.specs.Rooms.{own_address, IsInBlock}
use Rattle.pfc_representation.specs.Callers.{IsWithin}
use Rattle.pfc_representation.specs.Hands.{shows_nothing, waits_selecting, IsOffered, Offers}
use Rattle.pfc_representation.specs.Holding.{is_quiet, waits_at_coend}
use Rattle.pfc_representation.specs.Machines.{machine_table}
use Rattle.pfc_representation.specs.Acting.{IsActing}
use Rattle.pfc_representation.specs.Actions.{ComeToSame}
use Rattle.pfc_kept_object_actions.proofs.Change.{row_here, row_there}
use Rattle.pfc_kept_object_actions.proofs.Popped.{rests}
use Rattle.pfc_kept_messages.proofs.Rearmed.{AreInstead}
use Rattle.pfc_kept_messages.proofs.Whole.{IsNewStand, comes_then}
use Rattle.pfc_kept_meetings.proofs.selects.Same.{ends_same}
use Rattle.pfc_kept_meetings.proofs.selects.Gone.{unmade, HasBranches, branches_of, within_anywhere}
use Rattle.pfc_kept_meetings.proofs.selects.Alone.{DecidesAlone, stacks, activities, descriptors, alone_behind}
use Rattle.pfc_kept_meetings.proofs.selects.Both as both

set_twice : {A : Type 0} (xs : List A) (i : ℕ) (x y : A) → set (set xs i x) i y ≡ set xs i y
set_twice [] i x y = refl
set_twice (z ∷ xs) zero x y = refl
set_twice (z ∷ xs) (suc i) x y = ap (λ rest. z ∷ rest) (set_twice xs i x y)

module _ (facts : Facts) (m : Machine) (c : Config) (p : ℕ) (level : LivingLevel) (acting : IsActing facts m c p level) (own : level.setting.trial ≡ of_own)
    (b : Block) (x : Context) (checked : IsChecked level.setting b x.env) (sel : Selecting) (k : Remainder)
    (opened : AreOpen level.setting (site_of level.setting b x) (length (operands_of m.stacks p)) sel.offered level.arms
    (both.behind facts m c p level acting own b x checked sel.offered k))
    (behind_all : BehindAll level.setting b (operands_of m.stacks p) x sel.offered level.arms k)
    (arms_fit : length level.arms ≤ level.setting.arms)
    (within : IsWithin facts level (own_address level.setting.trial (stack_of m.stacks p).at) (descriptor_of m.descriptors p).communications)
    (ops_fit : length (operands_of m.stacks p) ≤ level.setting.room) where
  abbrev g : Program
  g = program_in facts

  abbrev s : Stack
  s = stack_of m.stacks p

  abbrev here : ℕ
  here = s.at

  abbrev ops : List ℤ
  ops = operands_of m.stacks p

  abbrev a : Activity
  a = activity_of g c p

  abbrev d : Descriptor
  d = descriptor_of m.descriptors p

  abbrev os : List Open
  os = sel.offered

  abbrev n : ℕ
  n = open_count m p

  count_is : n ≡ length level.arms
  count_is = both.count_is facts m c p level acting own b x checked os k

  rested_same : rested m.world ≡ machine_table facts c.table
  rested_same = ap rested acting.world ∙ rests facts m c p level acting

  -- ## It goes on

  stays_ready : IsNewStand c (at c.table.rows p) (at c.table.rows p)
  stays_ready =
      record {
        unfinished = ap is_unfinished acting.actor.ready;
        awake = ap is_quiet acting.actor.ready;
        no_coend = ap waits_at_coend acting.actor.ready;
        ticket = λ t is. absurd (let no : None ≡ Some t = ap ticket_of (sym acting.actor.ready) ∙ is in cc);
        due = λ t is. absurd (let no : None ≡ Some t = ap due_of (sym acting.actor.ready) ∙ is in cc);
      }

  abbrev pub latest_gone : Communicating
  latest_gone = without n d.communications

  pub its_branches : HasBranches facts acting.homes acting.entries c.store c.table p level latest_gone
  its_branches =
      branches_of facts acting.homes acting.entries c.store c.table p level s.room (word_of (last_activation m.stacks p)) n d.communications
      a.activations (acting.entries p) count_is
      acting.actor.stands.callers

  module _ (to : ℕ) (doing : Doing) (leads : IsInBlock facts its_branches.number to) (goes : GoesOnAt level.setting b to ops [] doing) where
    does : DoesOn (record level { arms = [] }) to ops doing
    does = (goes.0, least level.setting.arms, inl (b, checked.beside, goes.1))
      where
        least : (i : ℕ) → 0 ≤ i
        least i = grind arith

    pub gone_alone : DecidesAlone facts m c p level acting own [] latest_gone d.offered c.table to doing empty_hand x.line
    gone_alone =
        record {
          instead = unmade facts acting.homes acting.entries c.store (ticked c.table) p level d.activations n d.communications count_is;
          rows = λ q apart. refl;
          mine = stays_ready;
          size = refl;
          rests = acting.alike.between.acting;
          done = refl;
          moment = refl;
          within = within_anywhere facts acting.homes acting.entries c.store c.table p level latest_gone its_branches to leads;
          shown = (acting.actor.offered, ap shows_nothing acting.actor.ready, does);
        }

    pub gone_same : ComeToSame facts m c p x.line (silent (Ok (at_rest (decided m p n to))))
        (Ok (record c { activities = set c.activities p (record a { doing = doing; hand = empty_hand }) }))
    gone_same =
        comes_then facts m c p level acting x.line
        (activities facts m c p level acting own [] latest_gone d.offered c.table to doing empty_hand x.line)
        (descriptors facts m c p level acting own [] latest_gone d.offered c.table to doing empty_hand x.line) c.store
        (stacks facts m c p level acting own [] latest_gone d.offered c.table to doing empty_hand x.line) c.table
        (alone_behind facts m c p level acting own [] latest_gone d.offered c.table to doing empty_hand x.line gone_alone) (rested m.world) rested_same

  -- ## It waits

  abbrev wanted : List WaitArm
  wanted = text.arms_of_all g c p os

  offered_are : arms_of (take n d.communications.alternatives) ≡ wanted
  offered_are = both.arms_are facts m c p level acting own b x checked os k opened

  ends_are : is_some (first_sought End (open_ones m p)) ≡ may_terminate_at os
  ends_are =
      ap (λ (ks : List KeptAlternative). is_some (first_sought End ks)) (both.ones_are facts m c p level acting own b x checked os k)
      ∙ sym (ends_same c p g level.setting b x (both.number facts m c p level acting own b x checked os k) facts (length a.activations)
      d.communications.words ops k os level.arms (both.kept_ones facts m c p level acting own b x checked os k) opened
      (both.kept facts m c p level acting own b x checked os k))

  module _ (due : Option ℕ) (early : (t : ℕ) → due ≡ Some t → t ≤ 10 ^ 15) (to : ℕ) (then_done : Remainder)
      (goes_within : IsWithin facts level to d.communications)
      (alone : (t : ℕ) → due ≡ Some t → GoesOnAt level.setting b to ops [] (going x.env then_done)) where
    abbrev table : Table
    table = select_waited c.table p wanted due (may_terminate_at os)

    abbrev stand : Stand
    stand = Waits (Select due (may_terminate_at os)) (c.table.done + 1) wanted

    abbrev doing : Doing
    doing = going x.env then_done

    abbrev hand : Hand
    hand = offering x os k

    row_mine : at table.rows p ≡ stand
    row_mine = row_here c.table.rows p stand (subst (λ i. p < i) (sym acting.alike.words.rows) acting.actor.process)

    waits_new : IsNewStand c (at c.table.rows p) (at table.rows p)
    waits_new =
        record {
          unfinished = ap is_unfinished row_mine;
          awake = ap is_quiet acting.actor.ready;
          no_coend = ap waits_at_coend acting.actor.ready;
          ticket = λ t is.
              let same : c.table.done + 1 ≡ t = (let pair : Some (c.table.done + 1) ≡ Some t = ap ticket_of (sym row_mine) ∙ is in cc) in
              subst (λ i. i ≤ c.table.done + 1) same (grind arith);
          due = λ t is. early t (ap due_of (sym row_mine) ∙ is);
        }

    goes_due : (o : Option ℕ) → is_some o ≡ true → (t : ℕ) × (o ≡ Some t)
    goes_due (Some t) h = (t, refl)
    goes_due None h = absurd (let no : false ≡ true = h in cc)

    offers_all : Offers level to ops (record d { line = x.line; communications = d.communications; offered = n }) stand doing x os k
    offers_all =
        record {
          own = own;
          block = b;
          beside = checked.beside;
          checked = checked;
          open_ones = opened;
          behind = behind_all;
          count = count_is ∙ sym (both.as_many facts m c p level acting own b x checked os k opened);
          offered = subst (λ (ws : List WaitArm). IsOffered stand os ws) (sym offered_are) (waits_selecting os wanted due (c.table.done + 1));
          few = ops_fit;
          alone = λ by_itself.
              let found = goes_due due by_itself in
              let goes = alone found.0 found.1 in
              (goes.0, none_fit level.setting.arms, inl (b, checked.beside, goes.1));
        }
      where
        none_fit : (i : ℕ) → 0 ≤ i
        none_fit i = grind arith

    same_arms : AreInstead facts acting.homes acting.entries c.store (ticked table) p level level.arms d.activations d.communications d.communications
    same_arms =
        record {
          room = refl;
          callers = refl;
          made = λ earlier is. is;
          leads = λ j block at old. old;
          accepts = λ old. old;
        }

    waits_alone : DecidesAlone facts m c p level acting own level.arms d.communications n table to doing hand x.line
    waits_alone =
        record {
          instead = same_arms;
          rows = λ q apart. row_there c.table.rows p q stand apart;
          mine = waits_new;
          size = length-set c.table.rows p stand;
          rests = refl;
          done = refl;
          moment = refl;
          within = goes_within;
          shown = inl (subst (λ (y : Stand). Offers level to ops (record d { line = x.line; communications = d.communications; offered = n }) y doing x os k)
              (sym row_mine) offers_all);
        }

    shown_so : set (set c.activities p (at_work a doing)) p (record (get_or (set c.activities p (at_work a doing)) p (nobody g)) { hand = hand })
        ≡ set c.activities p (record a { doing = doing; hand = hand })
    shown_so =
        ap (λ (y : Activity). set (set c.activities p (at_work a doing)) p (record y { hand = hand }))
        (get_or-set_same c.activities p (at_work a doing) (nobody g) acting.actor.process)
        ∙ set_twice c.activities p (at_work a doing) (record a { doing = doing; hand = hand })

    world_is : select_waited m.world p (open_arms m p) due (is_some (first_sought End (open_ones m p))) ≡ machine_table facts table
    world_is =
        ap (λ (y : Bool). select_waited m.world p (open_arms m p) due y) ends_are
        ∙ ap (λ (ws : List WaitArm). select_waited m.world p ws due (may_terminate_at os)) offered_are
        ∙ ap (λ (y : Table). select_waited y p wanted due (may_terminate_at os)) acting.world

    pub waits_same : ComeToSame facts m c p x.line (silent (Ok (waits_at due to p m))) (Ok (waits_until g c p x sel k due then_done))
    waits_same =
        subst (λ (ys : List Activity). ComeToSame facts m c p x.line (silent (Ok (waits_at due to p m)))
        (Ok (record c { activities = ys; table = table }))) (sym shown_so)
        (comes_then facts m c p level acting x.line
        (activities facts m c p level acting own level.arms d.communications n table to doing hand x.line)
        (descriptors facts m c p level acting own level.arms d.communications n table to doing hand x.line) c.store
        (stacks facts m c p level acting own level.arms d.communications n table to doing hand x.line) table
        (alone_behind facts m c p level acting own level.arms d.communications n table to doing hand x.line waits_alone)
        (select_waited m.world p (open_arms m p) due (is_some (first_sought End (open_ones m p)))) world_is)
