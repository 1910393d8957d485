-- The end of an accept: the process goes on behind it, and the caller of the meeting is ready.
use Rattle.std.proofs.Common.{◌≡◌, ◌≢◌, ℕ, suc, ◌<◌, ◌==◌, ℤ, true, false, List, [], ◌∷◌, ◌++◌, length, drop, set, slice_get, get_or, Some, None, refl, sym, ap}
use Rattle.std.proofs.Common.{◌∙◌, subst, arith, ◌⊎◌, inl, inr}
use Rattle.std.proofs.lemmas.Option.{slice_get-get_or}
use Rattle.std.specs.List.{list_any}
use Rattle.std.proofs.lemmas.List.{get_or-set_same, get_or-set_other, length-set}
use Rattle.pfc_state.specs.Stands.{Stand, Is_idle, Is_ready, Waits, is_unfinished, ticket_of, due_of}
use Rattle.pfc_state.specs.declared.waits.Arm.{Arm as WaitArm}
use Rattle.pfc_state.specs.declared.waits.Why.TheVariants.{Meeting, Barred}
use Rattle.pfc_world.specs.Tables.{Table, at}
use Rattle.pfc_world.specs.Transitions.{placed, ticked}
use Rattle.pfc_semantics.specs.Displays.{Display}
use Rattle.pfc_semantics.specs.Store.{Store}
use Rattle.pfc_semantics.specs.Programs.{Block, Program}
use Rattle.pfc_semantics.specs.Rewriting.{Doing}
use Rattle.pfc_semantics.specs.Configurations.{Activity, Config, nobody, activity_of, at_work}
use Rattle.pfc_stacks.specs.Refs.{word_of}
use Rattle.pfc_stacks.specs.Stacks.{Stack, Stacks, no_stack, stack_of, last_activation}
use Rattle.pfc_stacks.specs.Effects.{moved}
use Rattle.pfc_cells.specs.Homes.{Homes}
use Rattle.pfc_cells.specs.Memory.{Entry, Entries, MemoryIs}
use Rattle.pfc_machines.specs.declared.machine.Machine.{Machine}
use Rattle.pfc_machines.specs.declared.descriptors.Descriptor.{Descriptor}
use Rattle.pfc_machines.specs.Communications.{Communicating}
use Rattle.pfc_machines.specs.Descriptors.{descriptor_by, descriptor_of, met}
use Rattle.pfc_standing_code.specs.Settings.{View, Trial, Setting, of_own, of_turn, of_another}
use Rattle.pfc_standing_code.specs.Performs.{own_view, own_accepts, own_block}
use Rattle.pfc_stack_laws.proofs.Moves.{hold_moved}
use Rattle.pfc_representation.specs.Levels.{Facts, program_in, LivingLevel, block_of, is_met_by, DoesOn, SeesThrough, IsSeenBy}
use Rattle.pfc_representation.specs.Rooms.{own_address}
use Rattle.pfc_representation.specs.Callers.{IsWithin}
use Rattle.pfc_representation.specs.Hands.{shows_nothing}
use Rattle.pfc_representation.specs.Holding.{Holders, holders_in, Holds, waits_for_monitor, waits_for_resource, is_quiet, waits_at_coend}
use Rattle.pfc_call_laws.proofs.Places.{or_right}
use Rattle.pfc_representation.specs.Trials.{TrialIs, HasTried}
use Rattle.pfc_representation.specs.Processes.{AreMet, IsAtLevel, IsUnderWay, RepresentsProcess}
use Rattle.pfc_representation.specs.Keeping.{IsSameStack, IsLender, IsUntouched}
use Rattle.pfc_representation.specs.Acting.{IsActor, IsActing}
use Rattle.pfc_representation.proofs.Kept.{process_still}
use Rattle.pfc_representation.proofs.Quiet.{actor_moved, others_moved}
use Rattle.pfc_kept_own_actions.proofs.Arrived.{has_setting, hold_store, stack_there}
use Rattle.pfc_kept_object_actions.specs.Freed.{IsFreed}
use Rattle.pfc_kept_object_actions.proofs.Change.{row_here, row_there, within_rows}
use Rattle.pfc_kept_object_actions.proofs.Freed.{process_freed}
use Rattle.pfc_kept_messages.proofs.Others.{IsBarredStand}
use Rattle.pfc_kept_messages.proofs.Waiting.{not_empty}
use Rattle.pfc_kept_messages.proofs.Whole.{IsNewStand, IsBehind}
use Rattle.pfc_kept_meetings.proofs.Lenders.{met_stand, met_by_one, ready_unmet, HasNot, lenders_stay, seen_less, callers_less}
use Rattle.pfc_kept_meetings.proofs.Tried.{tried_barred}
use Rattle.pfc_kept_meetings.proofs.Settled.{settled, beside_back, through_then, callers_then, within_then}

either : (q p : ℕ) → (q ≡ p) ⊎ (q ≢ p)
either q p = grind arith

same_stack : (s : Stack) → IsSameStack s s
same_stack s = record { at = refl; base = refl; operands = refl; room = refl; spare = refl; looks_from = refl }

pub first_of : (xs : List ℕ) (x : ℕ) → slice_get xs 0 ≡ Some x → xs ≡ x ∷ drop 1 xs
first_of [] x h = absurd (let no : None ≡ Some x = h in cc)
first_of (y ∷ xs) x h = (let same : y ≡ x = (let both : Some y ≡ Some x = h in cc) in ap (λ n. n ∷ xs) same)

-- ## Without the last caller

module _ (table table' : Table) (p gone : ℕ) (rows : (r : ℕ) → r ≢ gone → at table'.rows r ≡ at table.rows r) where
  without_last : (callers : List ℕ) → AreMet table p (gone ∷ callers) → HasNot gone callers
  without_last callers met k q there same =
      none k (met.once 0 (suc k) gone refl (there ∙ ap (λ n. Some n) same))
    where
      none : (n : ℕ) → 0 ≡ suc n → ⊥
      none n h = grind (arith, h)

  met_less : (callers : List ℕ) → AreMet table p (gone ∷ callers) → AreMet table' p callers
  met_less callers met =
      record {
        waiting = λ k d below. waiting k d below (slice_get-get_or callers k d below);
        once = λ j k q one two. less j k (met.once (suc j) (suc k) q one
            two);
      }
    where
      less : (j k : ℕ) → suc j ≡ suc k → j ≡ k
      less j k h = grind (arith, h)

      waiting : (k d : ℕ) → k < length callers → slice_get callers k ≡ Some (get_or callers k d) → is_met_by (at table'.rows (get_or callers k d)) p
      waiting k d below there =
          subst (λ (s : Stand). is_met_by s p) (sym (rows (get_or callers k d) (without_last callers met k (get_or callers k d) there)))
          (met.waiting (suc k) d (grind (arith, below)))

-- ## What it sees behind the accept

module _ (facts : Facts) (homes : Homes) (entries : Entries) (store : Store) (table : Table) (p caller : ℕ) (mine : List Entry) (w : ℤ) (display : Display)
    (g : Setting) (others : List ℕ) where
  -- without the accept that was begun last
  behind_last : (view : View) (b : Block) (accepts meetings : List ℕ) → slice_get meetings 0 ≡ Some caller
      → SeesThrough facts homes entries store table p mine w display g b view others accepts meetings
      → SeesThrough facts homes entries store table p mine w display g b view others (drop 1 accepts) (drop 1 meetings)
  behind_last view b accepts [] there is = absurd (let no : None ≡ Some caller = there in cc)
  behind_last view b [] (r ∷ meetings) there is = absurd is
  behind_last view b (i ∷ accepts) (r ∷ meetings) there is = is.1

  behind_accept : (t : Trial) → t ≡ of_own → slice_get g.meetings 0 ≡ Some caller
      → SeesThrough facts homes entries store table p mine w display g (own_block t g.block) (own_view t g.view) others (own_accepts t g.accepts) g.meetings
      → SeesThrough facts homes entries store table p mine w display g (own_block t g.block) (own_view t g.view) others (own_accepts t (drop 1 g.accepts))
      (drop 1 g.meetings)
  behind_accept of_own same there is = behind_last g.view g.block g.accepts g.meetings there is
  behind_accept (of_turn scan back) same there is = absurd (let no : of_turn scan back ≡ of_own = same in cc)
  behind_accept (of_another attempt) same there is = absurd (let no : of_another attempt ≡ of_own = same in cc)

-- what is open without it was open
among_all : (accepts : List ℕ) (i : ℕ) → list_any (λ j. j == i) (drop 1 accepts) ≡ true → list_any (λ j. j == i) accepts ≡ true
among_all [] i is_open = is_open
among_all (n ∷ accepts) i is_open = or_right (n == i) (list_any (λ j. j == i) accepts) is_open

own_among_all : (t : Trial) (accepts : List ℕ) (i : ℕ) → list_any (λ j. j == i) (own_accepts t (drop 1 accepts)) ≡ true
    → list_any (λ j. j == i) (own_accepts t accepts) ≡ true
own_among_all of_own accepts i is_open = among_all accepts i is_open
own_among_all (of_turn scan back) accepts i is_open = among_all accepts i is_open
own_among_all (of_another attempt) accepts i is_open = is_open

-- ## Both sides

module _ (facts : Facts) (m : Machine) (c : Config) (p : ℕ) (level : LivingLevel) (acting : IsActing facts m c p level) (own : level.setting.trial ≡ of_own)
    (caller : ℕ) (last : slice_get level.setting.meetings 0 ≡ Some caller) where
  abbrev g : Program
  g = program_in facts

  abbrev h : Holders
  h = holders_in facts c

  abbrev a : Activity
  a = activity_of g c p

  abbrev d : Descriptor
  d = descriptor_of m.descriptors p

  abbrev table : Table
  table = placed c.table caller Is_ready

  abbrev level' : LivingLevel
  level' = settled level level.setting.view (drop 1 level.setting.accepts) (drop 1 level.setting.meetings)

  abbrev seen : IsSeenBy facts acting.homes acting.entries c.store c.table p d.communications.callers (acting.entries p)
      (word_of (last_activation m.stacks p)) a.display level
  seen = acting.actor.stands.seen

  abbrev callers : List ℕ
  callers = drop 1 level.setting.meetings ++ seen.others

  -- the last of its callers
  callers_are : d.communications.callers ≡ caller ∷ callers
  callers_are = seen.met ∙ ap (λ (xs : List ℕ). xs ++ seen.others) (first_of level.setting.meetings caller last)

  abbrev met_now : AreMet c.table p (caller ∷ callers)
  met_now = subst (λ (xs : List ℕ). AreMet c.table p xs) callers_are acting.actor.stands.met

  pub waits_in_meeting : is_met_by (at c.table.rows caller) p
  waits_in_meeting = met_now.waiting 0 0 (grind arith)

  awake : (s : ℕ) → is_met_by (at c.table.rows p) s → ⊥
  awake s met_by = ready_unmet (at c.table.rows p) s acting.actor.ready met_by

  only : (s : ℕ) → is_met_by (at c.table.rows caller) s → s ≡ p
  only s met_by = met_by_one (at c.table.rows caller) s p met_by waits_in_meeting

  apart : caller ≢ p
  apart same = awake p (subst (λ n. is_met_by (at c.table.rows n) p) same waits_in_meeting)

  caller_stand : (t : ℕ) × (arms : List WaitArm) × (at c.table.rows caller ≡ Waits (Meeting p) t arms)
  caller_stand = met_stand (at c.table.rows caller) p waits_in_meeting

  stands_so : at c.table.rows caller ≡ Waits (Meeting p) caller_stand.0 caller_stand.1
  stands_so = caller_stand.2

  not_idle : at c.table.rows caller ≡ Is_idle → ⊥
  not_idle idle = (let no : Waits (Meeting p) caller_stand.0 caller_stand.1 ≡ Is_idle = sym stands_so ∙ idle in cc)

  in_rows : caller < length c.table.rows
  in_rows = within_rows c.table.rows caller not_idle

  row_is : at (ticked table).rows caller ≡ Is_ready
  row_is = row_here c.table.rows caller Is_ready in_rows

  row_other : (r : ℕ) → r ≢ caller → at (ticked table).rows r ≡ at c.table.rows r
  row_other r off = row_there c.table.rows caller r Is_ready off

  -- ### The process itself

  module _ (to : ℕ) (left : List ℤ) (doing : Doing) (line : ℕ) (does : DoesOn level' to left doing) (within : IsWithin facts level to d.communications) where
    abbrev pub stacks : Stacks
    stacks = moved m.stacks p to left

    abbrev m1 : Machine
    m1 = record m { stacks = stacks }

    abbrev latest : Communicating
    latest = record d.communications { callers = drop 1 d.communications.callers }

    abbrev a' : Activity
    a' = record (at_work a doing) { line = line }

    abbrev d' : Descriptor
    d' = record d { line = line; communications = latest }

    there : p < length m.stacks
    there = stack_there facts m c p level acting

    moved_here : stack_of stacks p ≡ record (stack_of m.stacks p) { at = to; operands = left }
    moved_here = get_or-set_same m.stacks p (record (stack_of m.stacks p) { at = to; operands = left }) no_stack there

    actor : IsActor facts acting.homes acting.entries m1 c p level
    actor = actor_moved facts m c p level to left acting

    callers_left : latest.callers ≡ callers
    callers_left = ap (λ (xs : List ℕ). drop 1 xs) callers_are

    fewer : (es : List ℕ) → d.communications.callers ≡ level.setting.meetings ++ es → latest.callers ≡ drop 1 level.setting.meetings ++ es
    fewer es is =
        ap (λ (xs : List ℕ). drop 1 xs) (is ∙ ap (λ (xs : List ℕ). xs ++ es) (first_of level.setting.meetings caller last))

    has_not : HasNot caller latest.callers
    has_not = subst (λ (xs : List ℕ). HasNot caller xs) (sym callers_left) (without_last c.table (ticked table) p caller row_other callers met_now)

    seen_then : IsSeenBy facts acting.homes acting.entries c.store (ticked table) p latest.callers (acting.entries p)
        (word_of (last_activation stacks p)) a.display level'
    seen_then =
        let old = actor.stands.seen in
        seen_less facts acting.homes acting.entries c.store c.table (ticked table) p caller row_other awake only latest.callers (acting.entries p)
        (word_of (last_activation stacks p)) a.display level' has_not
        (record {
          others = old.others;
          met = fewer old.others old.met;
          sees =
              through_then level level.setting.view (drop 1 level.setting.accepts) (drop 1 level.setting.meetings) facts acting.homes acting.entries c.store
              c.table p (acting.entries p) (word_of (last_activation stacks p)) a.display (block_of level)
              (own_view level.setting.trial level.setting.view) old.others (own_accepts level.setting.trial (drop 1 level.setting.accepts))
              (drop 1 level.setting.meetings)
              (behind_accept facts acting.homes acting.entries c.store c.table p caller (acting.entries p) (word_of (last_activation stacks p)) a.display
              level.setting old.others level.setting.trial own last old.sees);
          around = λ b beside.
              old.around b
              (beside_back level level.setting.view (drop 1 level.setting.accepts) (drop 1 level.setting.meetings) (block_of level) b beside);
        })

    level_then : IsAtLevel facts acting.homes acting.entries c.store stacks (ticked table) h p a' d' level'
    level_then =
        let old = actor.stands in
        record {
          count = old.count;
          seen = seen_then;
          callers =
              callers_less facts acting.homes acting.entries c.store c.table (ticked table) p caller row_other awake only (stack_of stacks p).room level'
              (word_of (last_activation stacks p)) latest a.activations (acting.entries p) has_not
              (callers_then level level.setting.view (drop 1 level.setting.accepts) (drop 1 level.setting.meetings) d.communications latest.callers fewer
              (λ old i is_open. old i (own_among_all level.setting.trial level.setting.accepts i is_open))
              facts acting.homes acting.entries c.store c.table p (stack_of stacks p).room (word_of (last_activation stacks p)) a.activations
              (acting.entries p) old.callers);
          room = old.room;
          accepts = old.accepts;
          met =
              subst (λ (xs : List ℕ). AreMet (ticked table) p xs) (sym callers_left)
              (met_less c.table (ticked table) p caller row_other callers met_now);
          holds =
              subst (λ (s : Stand). Holds h p s level.setting.trial a.activations) (sym (row_other p (λ is. apart (sym is)))) old.holds;
        }

    at_own : ((stack_of stacks p).looks_from ≡ None) × (d.scan ≡ None)
    at_own = which actor.trial
      where
        which : TrialIs level.setting.trial facts acting.homes acting.entries c.store stacks c.table p level a.activations d
            ⊎ HasTried level.setting.trial facts (stack_of stacks p) level a.activations d → ((stack_of stacks p).looks_from ≡ None) × (d.scan ≡ None)
        which (inl is) = subst (λ (t : Trial). TrialIs t facts acting.homes acting.entries c.store stacks c.table p level a.activations d) own is
        which (inr is) = absurd (let no : ⊥ = subst (λ (t : Trial). HasTried t facts (stack_of stacks p) level a.activations d) own is in no)

    under_way : IsUnderWay facts acting.homes acting.entries c.store stacks (ticked table) h p a' d'
    under_way =
        let ready : at (ticked table).rows p ≡ Is_ready = row_other p (λ is. apart (sym is)) ∙ acting.actor.ready in
        record {
          unfinished = ap is_unfinished ready;
          level = level';
          stands = level_then;
          within =
              subst (λ (t : Trial). IsWithin facts level' (own_address t (stack_of stacks p).at) latest) (sym own)
              (subst (λ (s : Stack). IsWithin facts level' s.at latest) (sym moved_here)
              (within_then level level.setting.view (drop 1 level.setting.accepts) (drop 1 level.setting.meetings) d.communications latest.callers fewer
              facts to within));
          hand = (
            acting.actor.offered,
            ap shows_nothing ready,
            subst (λ (s : Stack). DoesOn level' s.at s.operands doing) (sym moved_here) does,
          );
          trial = subst (λ (t : Trial). TrialIs t facts acting.homes acting.entries c.store stacks (ticked table) p level' a'.activations d') (sym own) at_own;
        }

    mine : RepresentsProcess facts acting.homes acting.entries c.store stacks (ticked table) h p a' d'
    mine =
        record {
          line = refl;
          spare = actor.spare;
          activations =
              not_empty facts acting.homes acting.entries c.store stacks (ticked table) h p (stack_of stacks p).room level'
              (word_of (last_activation stacks p)) latest a.activations (acting.entries p) a' d' level_then.callers under_way;
        }

    -- ### The others

    moved_other : (r : ℕ) → r ≢ p → r < length c.activities
        → RepresentsProcess facts acting.homes acting.entries c.store stacks c.table h r (activity_of g c r) (descriptor_of m.descriptors r)
    moved_other r off inside = others_moved facts m c p level to left acting r inside off

    lenders_there : (q r : ℕ) → q ≢ p → IsLender c.table q r → at (ticked table).rows r ≡ at c.table.rows r
    lenders_there q r off lender =
        lenders_stay facts acting.homes acting.entries c.store c.table (ticked table) p caller row_other awake only q r off lender

    barred_apart : (r : ℕ) → IsBarredStand (at c.table.rows r) → (r ≢ p) × (r ≢ caller)
    barred_apart r barred = (
      λ is.
          (let no : Waits (Barred barred.resource barred.procedure) barred.ticket [] ≡ Is_ready =
          sym barred.is ∙ ap (λ n. at c.table.rows n) is ∙ acting.actor.ready in cc),
      λ is.
          (let no : Waits (Barred barred.resource barred.procedure) barred.ticket [] ≡ Waits (Meeting p) caller_stand.0 caller_stand.1 =
          sym barred.is ∙ ap (λ n. at c.table.rows n) is ∙ stands_so in cc),
    )

    untouched : (r : ℕ) → r ≢ p → r ≢ caller
        → IsUntouched facts r acting.homes acting.homes acting.entries acting.entries c.store c.store stacks stacks c.table (ticked table)
    untouched r off away =
        record {
          like = λ keeps these. record { at_home = λ n home at. at; living = λ q e kept lives. lives; references = λ n k home t kept at laid. refl };
          lenders = λ s lender. (lenders_there r s off lender, refl);
          stack = same_stack (stack_of stacks r);
          entries_same = refl;
          row = row_other r away;
        }

    other_kept : (r : ℕ) → r ≢ p → r ≢ caller → r < length c.activities
        → RepresentsProcess facts acting.homes acting.entries c.store stacks (ticked table) h r (activity_of g c r) (descriptor_of m.descriptors r)
    other_kept r off away inside =
        let old = moved_other r off inside in
        process_still facts r (descriptor_of m.descriptors r) acting.homes acting.homes acting.entries acting.entries c.store c.store stacks stacks c.table
        (ticked table) h h
        (record {
          at_home = λ n home at. at;
          untouched = untouched r off away;
          tried = λ s whom.
              let far = barred_apart s
              (tried_barred facts acting.homes acting.entries c.store stacks c.table h r s (descriptor_of m.descriptors r) whom (activity_of g c r) old) in
              untouched s far.0 far.1;
          holds = record { owners = refl; monitors = λ n held. held; resources = λ n held. held };
        })
        (activity_of g c r) old

    caller_inside : caller < length c.activities
    caller_inside = subst (λ n. caller < n) acting.alike.words.rows in_rows

    freed : IsFreed c.table (ticked table) h caller (descriptor_of m.descriptors caller)
    freed =
        let old = moved_other caller apart caller_inside in
        record {
          unfinished = ap is_unfinished stands_so;
          showed = ap shows_nothing stands_so;
          ready = row_is;
          has = record {
            monitors = λ n waits. absurd (let no : false ≡ true = sym (ap (λ (s : Stand). waits_for_monitor h.owners n s) stands_so) ∙ waits in cc);
            resources = λ n waits. absurd (let no : false ≡ true = sym (ap (λ (s : Stand). waits_for_resource n s) stands_so) ∙ waits in cc);
          };
          lenders = λ r lender. lenders_there caller r apart lender;
          tried = λ r whom.
              let far = barred_apart r
              (tried_barred facts acting.homes acting.entries c.store stacks c.table h caller r (descriptor_of m.descriptors caller) whom
              (activity_of g c caller) old) in
              record { row = row_other r far.1; lenders = λ s lender. lenders_there r s far.0 lender };
        }

    caller_kept : RepresentsProcess facts acting.homes acting.entries c.store stacks (ticked table) h caller (activity_of g c caller)
        (descriptor_of m.descriptors caller)
    caller_kept =
        process_freed facts acting.homes acting.entries c.store stacks c.table (ticked table) h caller (descriptor_of m.descriptors caller) freed
        (activity_of g c caller) (moved_other caller apart caller_inside)

    others_kept : (r : ℕ) → r ≢ p → (r ≡ caller) ⊎ (r ≢ caller) → r < length c.activities
        → RepresentsProcess facts acting.homes acting.entries c.store stacks (ticked table) h r (activity_of g c r) (descriptor_of m.descriptors r)
    others_kept r off (inl is) inside =
        subst (λ n. RepresentsProcess facts acting.homes acting.entries c.store stacks (ticked table) h n (activity_of g c n) (descriptor_of m.descriptors n))
        (sym is) caller_kept
    others_kept r off (inr away) inside = other_kept r off away inside

    -- ### All of it

    abbrev working : Activity
    working = at_work a doing

    abbrev pub activities : List Activity
    activities = set c.activities p working

    abbrev pub descriptors : List Descriptor
    descriptors = set m.descriptors p (met d)

    activity_here : record (get_or activities p (nobody g)) { line = line } ≡ a'
    activity_here = ap (λ (y : Activity). record y { line = line }) (get_or-set_same c.activities p working (nobody g) acting.actor.process)

    descriptor_here : record (descriptor_of descriptors p) { line = line } ≡ d'
    descriptor_here =
        ap (λ (y : Descriptor). record y { line = line })
        (get_or-set_same m.descriptors p (met d) (descriptor_by 0) (subst (λ n. p < n) (sym acting.alike.words.descriptors) acting.actor.process))

    new_stand : IsNewStand c (at c.table.rows caller) (at table.rows caller)
    new_stand =
        record {
          unfinished = ap is_unfinished row_is;
          awake = ap is_quiet stands_so;
          no_coend = ap waits_at_coend stands_so;
          ticket = λ t is. absurd (let no : None ≡ Some t = ap ticket_of (sym row_is) ∙ is in cc);
          due = λ t is. absurd (let no : None ≡ Some t = ap due_of (sym row_is) ∙ is in cc);
        }

    stands_as : (r : ℕ) → (r ≡ caller) ⊎ (r ≢ caller) → (at table.rows r ≡ at c.table.rows r) ⊎ IsNewStand c (at c.table.rows r) (at table.rows r)
    stands_as r (inl is) = inr (subst (λ n. IsNewStand c (at c.table.rows n) (at table.rows n)) (sym is) new_stand)
    stands_as r (inr away) = inl (row_other r away)

    pub parts_behind : IsBehind facts m c p level acting line activities descriptors c.store stacks table
    parts_behind =
        let held = hold_moved level.setting acting.homes acting.entries c.store m.stacks p to left there (hold_store facts m c p level acting) in
        let has = has_setting facts m c p level acting in
        record {
          activity_count = length-set c.activities p working;
          descriptor_count = length-set m.descriptors p (met d);
          stack_count = length-set m.stacks p (record (stack_of m.stacks p) { at = to; operands = left });
          row_count = length-set c.table.rows caller Is_ready;
          memory = subst (λ (y : Program). MemoryIs y acting.homes acting.entries c.store stacks) has.image.program held.memory;
          few = held.few;
          objects = acting.alike.holds.objects;
          rests = acting.alike.between.acting;
          done = refl;
          moment = refl;
          stands = λ r. stands_as r (either r caller);
          mine =
              subst (λ (y : Activity). RepresentsProcess facts acting.homes acting.entries c.store stacks (ticked table) h p y
              (record (descriptor_of descriptors p) { line = line }))
              (sym activity_here)
              (subst (λ (e : Descriptor). RepresentsProcess facts acting.homes acting.entries c.store stacks (ticked table) h p a' e)
              (sym descriptor_here) mine);
          others = λ r off inside.
              subst (λ (y : Activity). RepresentsProcess facts acting.homes acting.entries c.store stacks (ticked table) h r y (descriptor_of descriptors r))
              (sym (get_or-set_other c.activities p r working (nobody g) off))
              (subst (λ (e : Descriptor). RepresentsProcess facts acting.homes acting.entries c.store stacks (ticked table) h r (activity_of g c r) e)
              (sym (get_or-set_other m.descriptors p r (met d) (descriptor_by 0) off))
              (others_kept r off (either r caller) inside));
        }
