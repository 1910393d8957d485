-- The process decides alone: it goes on at a branch, and what it had made is gone; or it waits, and offers all of it.
use Rattle.std.proofs.Common.{◌≡◌, ◌≢◌, ℕ, ◌<◌, ℤ, List, [], length, set, get_or, None, refl, sym, ap, ◌∙◌, subst}
use Rattle.std.proofs.Common.{arith, ◌⊎◌, inl, inr}
use Rattle.std.proofs.lemmas.List.{get_or-set_same, get_or-set_other, length-set}
use Rattle.pfc_state.specs.Stands.{Stand, Is_ready, Waits}
use Rattle.pfc_state.specs.declared.waits.Why.TheVariants.{Barred}
use Rattle.pfc_world.specs.Tables.{Table, at}
use Rattle.pfc_world.specs.Transitions.{ticked}
use Rattle.pfc_semantics.specs.Programs.{Program}
use Rattle.pfc_semantics.specs.Rewriting.{Doing}
use Rattle.pfc_semantics.specs.Configurations.{Hand, Activity, Config, nobody, activity_of}
use Rattle.pfc_stacks.specs.Refs.{word_of}
use Rattle.pfc_stacks.specs.Stacks.{Stack, Stacks, no_stack, stack_of, operands_of, last_activation}
use Rattle.pfc_stacks.specs.Effects.{moved}
use Rattle.pfc_cells.specs.Memory.{MemoryIs}
use Rattle.pfc_machines.specs.declared.machine.Machine.{Machine}
use Rattle.pfc_machines.specs.declared.descriptors.Descriptor.{Descriptor}
use Rattle.pfc_machines.specs.Communications.{Communicating}
use Rattle.pfc_machines.specs.Descriptors.{descriptor_by, descriptor_of}
use Rattle.pfc_standing_code.specs.Settings.{Trial, of_own}
use Rattle.pfc_standing_code.specs.Effects.{Arm}
use Rattle.pfc_stack_laws.proofs.Moves.{hold_moved}
use Rattle.pfc_representation.specs.Levels.{Facts, program_in, LivingLevel, is_met_by}
use Rattle.pfc_representation.specs.Rooms.{own_address}
use Rattle.pfc_representation.specs.Callers.{IsWithin}
use Rattle.pfc_representation.specs.Hands.{HandIs}
use Rattle.pfc_representation.specs.Holding.{Holders, holders_in, waits_for_monitor, waits_for_resource}
use Rattle.pfc_representation.specs.Keeping.{IsSameStack}
use Rattle.pfc_representation.specs.Trials.{TrialIs, HasTried}
use Rattle.pfc_representation.specs.Processes.{IsAtLevel, IsUnderWay, RepresentsProcess}
use Rattle.pfc_representation.specs.Acting.{IsActor, IsActing}
use Rattle.pfc_representation.proofs.Quiet.{actor_moved, others_moved}
use Rattle.pfc_kept_own_actions.proofs.Arrived.{has_setting, hold_store, stack_there}
use Rattle.pfc_kept_object_actions.proofs.Rows.{level_anew}
use Rattle.pfc_kept_messages.proofs.Held.{WaitsForNone, holds_anew}
use Rattle.pfc_kept_messages.proofs.Others.{lender_waits, IsBarredStand, IsQuietAround, stays_kept}
use Rattle.pfc_kept_messages.proofs.Rearmed.{AreInstead, level_again}
use Rattle.pfc_kept_messages.proofs.Waiting.{not_empty}
use Rattle.pfc_kept_messages.proofs.Whole.{IsNewStand, IsBehind}

either : (q p : ℕ) → (q ≡ p) ⊎ (q ≢ p)
either q p = grind arith

met_not_ready : (s : Stand) (q : ℕ) → s ≡ Is_ready → is_met_by s q → ⊥
met_not_ready s q ready met = (let none : is_met_by Is_ready q = subst (λ (x : Stand). is_met_by x q) ready met in none)

barred_not_ready : (s : Stand) → IsBarredStand s → s ≡ Is_ready → ⊥
barred_not_ready s barred ready = (let no : Waits (Barred barred.resource barred.procedure) barred.ticket [] ≡ Is_ready = sym barred.is ∙ ready in cc)

same_stack : (s : Stack) → IsSameStack s s
same_stack s = record { at = refl; base = refl; operands = refl; room = refl; spare = refl; looks_from = refl }

module _ (facts : Facts) (m : Machine) (c : Config) (p : ℕ) (level : LivingLevel) (acting : IsActing facts m c p level) (own : level.setting.trial ≡ of_own)
    (arms : List Arm) (latest : Communicating) (offered : ℕ) (table : Table) (to : ℕ) (doing : Doing) (hand : Hand) (line : ℕ) where
  abbrev g : Program
  g = program_in facts

  abbrev a : Activity
  a = activity_of g c p

  abbrev d : Descriptor
  d = descriptor_of m.descriptors p

  abbrev h : Holders
  h = holders_in facts c

  abbrev left : List ℤ
  left = operands_of m.stacks p

  abbrev level' : LivingLevel
  level' = record level { arms = arms }

  abbrev pub stacks : Stacks
  stacks = moved m.stacks p to left

  abbrev pub a' : Activity
  a' = record a { doing = doing; hand = hand; line = line }

  abbrev pub d' : Descriptor
  d' = record d { line = line; communications = latest; offered = offered }

  abbrev pub activities : List Activity
  activities = set c.activities p (record a { doing = doing; hand = hand })

  abbrev pub descriptors : List Descriptor
  descriptors = set m.descriptors p (record d { communications = latest; offered = offered })

  -- only the process stands anew, with these alternatives in the place of its own
  pub record DecidesAlone : Type 0 where
    pub instead : AreInstead facts acting.homes acting.entries c.store (ticked table) p level arms d.activations d.communications latest
    pub rows : (q : ℕ) → q ≢ p → at table.rows q ≡ at c.table.rows q
    pub mine : IsNewStand c (at c.table.rows p) (at table.rows p)
    pub size : length table.rows ≡ length c.table.rows
    pub rests : table.acting ≡ None
    pub done : table.done ≡ c.table.done
    pub moment : table.moment ≡ c.table.moment
    pub within : IsWithin facts level' to latest
    pub shown : HandIs facts acting.homes (ticked table) acting.entries p level' to left d' (at table.rows p) doing hand

  module _ (is : DecidesAlone) where
    there : p < length m.stacks
    there = stack_there facts m c p level acting

    unmet : (r s : ℕ) → is_met_by (at c.table.rows r) s → r ≢ p
    unmet r s met same = met_not_ready (at c.table.rows r) s (ap (λ n. at c.table.rows n) same ∙ acting.actor.ready) met

    moved_here : stack_of stacks p ≡ record (stack_of m.stacks p) { at = to; operands = left }
    moved_here = get_or-set_same m.stacks p (record (stack_of m.stacks p) { at = to; operands = left }) no_stack there

    waits_for_none : (s : Stand) → s ≡ Is_ready → WaitsForNone h.owners s
    waits_for_none s ready =
        record {
          monitors = λ n. ap (λ (y : Stand). waits_for_monitor h.owners n y) ready;
          resources = λ n. ap (λ (y : Stand). waits_for_resource n y) ready;
        }

    abbrev m1 : Machine
    m1 = record m { stacks = stacks }

    actor : IsActor facts acting.homes acting.entries m1 c p level
    actor = actor_moved facts m c p level to left acting

    level_there : IsAtLevel facts acting.homes acting.entries c.store stacks (ticked table) h p a d level
    level_there =
        level_anew facts acting.homes acting.entries c.store stacks c.table (ticked table) p
        (λ r lender. let waits = lender_waits c.table p r lender in is.rows r (unmet r waits.0 waits.1)) h h d a level
        (holds_anew h p (at c.table.rows p) (at table.rows p) level.setting.trial a.activations (waits_for_none (at c.table.rows p) acting.actor.ready)
        actor.stands.holds)
        actor.stands

    level_then : IsAtLevel facts acting.homes acting.entries c.store stacks (ticked table) h p a' d' level'
    level_then =
        level_again facts acting.homes acting.entries c.store (ticked table) p level arms stacks stacks h a d latest is.instead refl refl doing hand line line
        offered level_there

    at_own : ((stack_of stacks p).looks_from ≡ None) × (d.scan ≡ None)
    at_own = which actor.trial
      where
        which : TrialIs level.setting.trial facts acting.homes acting.entries c.store stacks c.table p level a.activations d
            ⊎ HasTried level.setting.trial facts (stack_of stacks p) level a.activations d → ((stack_of stacks p).looks_from ≡ None) × (d.scan ≡ None)
        which (inl on) = subst (λ (t : Trial). TrialIs t facts acting.homes acting.entries c.store stacks c.table p level a.activations d) own on
        which (inr on) = absurd (let no : ⊥ = subst (λ (t : Trial). HasTried t facts (stack_of stacks p) level a.activations d) own on in no)

    under_way : IsUnderWay facts acting.homes acting.entries c.store stacks (ticked table) h p a' d'
    under_way =
        record {
          unfinished = is.mine.unfinished;
          level = level';
          stands = level_then;
          within =
              subst (λ (t : Trial). IsWithin facts level' (own_address t (stack_of stacks p).at) latest) (sym own)
              (subst (λ (s : Stack). IsWithin facts level' s.at latest) (sym moved_here) is.within);
          hand =
              subst (λ (s : Stack). HandIs facts acting.homes (ticked table) acting.entries p level' s.at s.operands d' (at table.rows p) doing hand)
              (sym moved_here) is.shown;
          trial = subst (λ (t : Trial). TrialIs t facts acting.homes acting.entries c.store stacks (ticked table) p level' a'.activations d') (sym own) at_own;
        }

    pub process_here : RepresentsProcess facts acting.homes acting.entries c.store stacks (ticked table) h p a' d'
    process_here =
        record {
          line = refl;
          spare = actor.spare;
          activations =
              not_empty facts acting.homes acting.entries c.store stacks (ticked table) h p (stack_of stacks p).room level'
              (word_of (last_activation stacks p)) latest a.activations (acting.entries p) a' d' level_then.callers under_way;
        }

    -- ## The others

    around : IsQuietAround facts acting.homes acting.entries c.store c.store stacks stacks c.table (ticked table)
    around =
        record {
          like = λ keeps. record { at_home = λ n home at. at; living = λ r e kept lives. lives; references = λ n j home t kept at laid. refl };
          met = λ r s met. is.rows r (unmet r s met);
          barred = λ r barred.
              record {
                stack = same_stack (stack_of stacks r);
                row = is.rows r (λ same. barred_not_ready (at c.table.rows r) barred (ap (λ n. at c.table.rows n) same ∙ acting.actor.ready));
              };
        }

    other_here : (q : ℕ) → q ≢ p → q < length c.activities
        → RepresentsProcess facts acting.homes acting.entries c.store stacks (ticked table) h q (activity_of g c q) (descriptor_of m.descriptors q)
    other_here q apart within =
        stays_kept facts acting.homes acting.entries c.store c.store stacks stacks c.table (ticked table) h around q (activity_of g c q)
        (descriptor_of m.descriptors q)
        (record { stack = same_stack (stack_of stacks q); row = is.rows q apart }) (others_moved facts m c p level to left acting q within apart)

    -- ## All of it

    in_descriptors : p < length m.descriptors
    in_descriptors = subst (λ n. p < n) (sym acting.alike.words.descriptors) acting.actor.process

    activity_here : record (get_or activities p (nobody g)) { line = line } ≡ a'
    activity_here =
        ap (λ (y : Activity). record y { line = line })
        (get_or-set_same c.activities p (record a { doing = doing; hand = hand }) (nobody g) acting.actor.process)

    descriptor_here : record (descriptor_of descriptors p) { line = line } ≡ d'
    descriptor_here =
        ap (λ (y : Descriptor). record y { line = line })
        (get_or-set_same m.descriptors p (record d { communications = latest; offered = offered }) (descriptor_by 0) in_descriptors)

    stands_then : (q : ℕ) → (q ≡ p) ⊎ (q ≢ p) → (at table.rows q ≡ at c.table.rows q) ⊎ IsNewStand c (at c.table.rows q) (at table.rows q)
    stands_then q (inl same) = inr (subst (λ n. IsNewStand c (at c.table.rows n) (at table.rows n)) (sym same) is.mine)
    stands_then q (inr apart) = inl (is.rows q apart)

    pub alone_behind : IsBehind facts m c p level acting line activities descriptors c.store stacks table
    alone_behind =
        let held = hold_moved level.setting acting.homes acting.entries c.store m.stacks p to left there (hold_store facts m c p level acting) in
        let has = has_setting facts m c p level acting in
        record {
          activity_count = length-set c.activities p (record a { doing = doing; hand = hand });
          descriptor_count = length-set m.descriptors p (record d { communications = latest; offered = offered });
          stack_count = length-set m.stacks p (record (stack_of m.stacks p) { at = to; operands = left });
          row_count = is.size;
          memory = subst (λ (y : Program). MemoryIs y acting.homes acting.entries c.store stacks) has.image.program held.memory;
          few = held.few;
          objects = acting.alike.holds.objects;
          rests = is.rests;
          done = is.done;
          moment = is.moment;
          stands = λ q. stands_then q (either q p);
          mine =
              subst (λ (y : Activity). RepresentsProcess facts acting.homes acting.entries c.store stacks (ticked table) h p y
              (record (descriptor_of descriptors p) { line = line }))
              (sym activity_here)
              (subst (λ (e : Descriptor). RepresentsProcess facts acting.homes acting.entries c.store stacks (ticked table) h p a' e)
              (sym descriptor_here) process_here);
          others = λ q apart within.
              subst (λ (y : Activity). RepresentsProcess facts acting.homes acting.entries c.store stacks (ticked table) h q y (descriptor_of descriptors q))
              (sym (get_or-set_other c.activities p q (record a { doing = doing; hand = hand }) (nobody g) apart))
              (subst (λ (e : Descriptor). RepresentsProcess facts acting.homes acting.entries c.store stacks (ticked table) h q (activity_of g c q) e)
              (sym (get_or-set_other m.descriptors p q (record d { communications = latest; offered = offered }) (descriptor_by 0) apart))
              (other_here q apart within));
        }
