-- The ways back of loops.
use Rattle.std.proofs.Common.{◌≡◌, ℕ, suc, ◌+◌, ◌-◌, ◌≤◌, ℤ, Bool, true, false, if◌then◌else◌, List, [], ◌∷◌, ◌++◌, length, set, drop, Some, refl, sym, ap, ◌∙◌}
use Rattle.std.proofs.Common.{subst, arith}
use Rattle.pfc_code.specs.declared.instructions.Instr.{Instr}
use Rattle.pfc_code.specs.declared.instructions.Instr.TheVariants.{TURN, FORT}
use Rattle.pfc_code.specs.declared.images.Block.{Block as CodeBlock}
use Rattle.pfc_world.specs.Tables.{Table}
use Rattle.pfc_semantics.specs.Programs.{Block}
use Rattle.pfc_semantics.specs.Store.{Store}
use Rattle.pfc_semantics.specs.Remainders.{Context, Remainder, turns}
use Rattle.pfc_semantics.specs.Rewriting.{going}
use Rattle.pfc_semantics.specs.Configurations.{Activation, Config, activity_of}
use Rattle.pfc_translation.specs.Images.{image_of}
use Rattle.pfc_image_laws.specs.Operands.{address_back, is_end}
use Rattle.pfc_stacks.specs.Refs.{word_of}
use Rattle.pfc_stacks.specs.Stacks.{Stacks, stack_of, operand, operands_of, last_activation}
use Rattle.pfc_stacks.specs.Effects as stacked
use Rattle.pfc_stacks.specs.Effects.{action, quiet, is_before, value_behind, moved, within}
use Rattle.pfc_cells.specs.Homes.{Homes}
use Rattle.pfc_cells.specs.Memory.{Entry, Entries}
use Rattle.pfc_machines.specs.declared.machine.Machine.{Machine}
use Rattle.pfc_machines.specs.declared.alternatives.Alternative.{Alternative}
use Rattle.pfc_machines.specs.declared.rooms.Room.{Room}
use Rattle.pfc_machines.specs.Communications.{Communicating}
use Rattle.pfc_machines.specs.Descriptors.{descriptor_of}
use Rattle.pfc_machines.specs.Quiet.{quiet_effect}
use Rattle.pfc_machine_acts.specs.Performing.{performs}
use Rattle.pfc_machine_acts.specs.Quietly.{on_stacks}
use Rattle.pfc_machine_acts.specs.Running.{IsNoMove}
use Rattle.pfc_standing_code.specs.Settings.{Trial, of_own, IsAt}
use Rattle.pfc_standing_code.specs.Effects.{Arm}
use Rattle.pfc_standing_code.specs.Words.{IsChecked}
use Rattle.pfc_standing_code.specs.Performs.{Performs}
use Rattle.pfc_standing_code.specs.Following.{IsTurn, of_loop, of_count}
use Rattle.pfc_standing_code.proofs.Checked.{checked_for}
use Rattle.pfc_representation.specs.Levels.{Facts, program_in, LivingLevel, block_of, IsBlockAt}
use Rattle.pfc_representation.specs.Rooms.{room_in, own_address, HasRoomFor}
use Rattle.pfc_representation.specs.Alternatives.{AreMade, none_made, one_made}
use Rattle.pfc_representation.specs.Callers.{IsMadeOver, is_unmade, IsWithin, AreCallers}
use Rattle.pfc_representation.specs.Acting.{IsActing, HasArrived}
use Rattle.pfc_representation.specs.Actions.{IsKept, AreKept}
use Rattle.pfc_kept_own_actions.specs.Groups.{IsTurned}
use Rattle.pfc_kept_own_actions.proofs.Within.{within_back}
use Rattle.pfc_kept_own_actions.proofs.Steps.{IsOwnStep}
use Rattle.pfc_kept_own_actions.proofs.Arrived.{stack_there, code_there, code_line, acts_now}
use Rattle.pfc_kept_own_actions.proofs.Alone.{alone_comes, moved_step}

-- ## Room where no alternative is made

none_more : (depth : ℕ) (alternatives : List Alternative) (words : List ℤ) (arms : List Arm) (latest : List Alternative) (more : List ℤ)
    → AreMade depth alternatives words arms latest more → arms ≡ []
    → (latest ≡ alternatives) × (more ≡ words)
none_more depth alternatives words _ _ _ none_made none = (refl, refl)
none_more depth alternatives words _ _ _ (one_made arms before ws arm a message made is) none = absurd (not_nothing arms none)
  where
    not_nothing : (xs : List Arm) → xs ++ arm ∷ [] ≡ [] → ⊥
    not_nothing [] h = cc
    not_nothing (y ∷ ys) h = cc

same_room : (facts : Facts) (depth : ℕ) (level : LivingLevel) (earlier latest : Communicating) (k : ℕ) → IsMadeOver depth level earlier latest
    → level.arms ≡ [] → HasRoomFor earlier (room_in facts k) → HasRoomFor latest (room_in facts k)
same_room facts depth level earlier latest k (room, callers, made) none has =
    let same = none_more depth earlier.alternatives earlier.words level.arms latest.alternatives latest.words made none in (
      alike earlier.alternatives latest.alternatives earlier.room.alternatives latest.room.alternatives (room_in facts k).alternatives
          (ap (λ (r : Room). r.alternatives) room) same.0 has.0,
      alike earlier.words latest.words earlier.room.words latest.room.words (room_in facts k).words (ap (λ (r : Room). r.words) room) same.1 has.1,
      subst (λ (r : Room). (room_in facts k).meetings ≤ r.meetings) room has.2,
    )
  where
    alike : {A : Type 0} (xs ys : List A) (a b n : ℕ) → a ≡ b → ys ≡ xs → length xs + n ≤ a → length ys + n ≤ b
    alike xs ys a b n fits same h = subst (λ j. length ys + n ≤ j) fits (subst (λ zs. length zs + n ≤ a) (sym same) h)

room_of_callers : (facts : Facts) (homes : Homes) (entries : Entries) (store : Store) (table : Table) (p room : ℕ) (level : LivingLevel) (w : ℤ)
    (latest : Communicating) (xs : List Activation) (es : List Entry)
    → AreCallers facts homes entries store table p room level w latest xs es → level.arms ≡ [] → (k : ℕ) (c : CodeBlock)
    → IsBlockAt (program_in facts) (image_of facts.tree).blocks k (block_of level) c → HasRoomFor latest (room_in facts k)
room_of_callers facts homes entries store table p room level w latest [] es is none k c at = absurd is
room_of_callers facts homes entries store table p room level w latest (a ∷ xs) [] is none k c at = absurd is
room_of_callers facts homes entries store table p room level w latest (a ∷ []) (e ∷ []) is none k c at =
    subst (λ n. HasRoomFor latest (room_in facts n)) (is.stands.is.1 ∙ sym at.1)
    (same_room facts 1 level (is_unmade latest) latest is.own.block is.made none is.fits.made)
room_of_callers facts homes entries store table p room level w latest (a ∷ []) (e ∷ f ∷ es) is none k c at = absurd is
room_of_callers facts homes entries store table p room level w latest (a ∷ b ∷ xs) (e ∷ []) is none k c at = absurd is
room_of_callers facts homes entries store table p room level w latest (a ∷ b ∷ xs) (e ∷ f ∷ es) (outer, v, earlier, called, inside, others) none k c at =
    subst (λ n. HasRoomFor latest (room_in facts n)) (called.stands.is.1 ∙ sym at.1)
    (same_room facts (length (a ∷ b ∷ xs)) level earlier latest called.own.block called.made none called.fits.made)

-- ## A turn

module _ (facts : Facts) (m : Machine) (c : Config) (p choice : ℕ) (level : LivingLevel) (x : Context) (k : Remainder) (own : level.setting.trial ≡ of_own)
    (acting : IsActing facts m c p level) (arrived : HasArrived facts m c p level (turns x k)) (b : Block) (checked : IsChecked level.setting b x.env)
    (none : level.arms ≡ []) where
  abbrev here : ℕ
  here = (stack_of m.stacks p).at

  abbrev ops : List ℤ
  ops = operands_of m.stacks p

  abbrev latest : Communicating
  latest = (descriptor_of m.descriptors p).communications

  back_within : (i : Instr) (to : ℕ) → IsAt level.setting here i x.line → is_end i ≡ false → address_back i ≡ Some to
      → IsWithin facts level (own_address level.setting.trial to) latest
  back_within i to there no_end leads =
      subst (λ (t : Trial). IsWithin facts level (own_address t to) latest) (sym own)
      (within_back facts level here to latest i (subst (λ (t : Trial). IsWithin facts level (own_address t here) latest) own arrived.within)
      (code_there facts m c p level acting here i x.line there) no_end leads
      (room_of_callers facts acting.homes acting.entries c.store c.table p (stack_of m.stacks p).room level (word_of (last_activation m.stacks p)) latest
      (activity_of (program_in facts) c p).activations (acting.entries p) acting.actor.stands.callers none))

  step : (i : Instr) (to : ℕ) (left : List ℤ) → IsAt level.setting here i x.line → is_end i ≡ false → address_back i ≡ Some to
      → length left ≤ level.setting.room → Performs level.setting b x.env to left [] k
      → IsOwnStep facts m c p level acting to left (moved m.stacks p to left) c.store (going x.env k)
  step i to left there no_end leads few behind =
      moved_step facts m c p level acting own b to left (going x.env k) checked.beside arrived.arms
      (few, (checked_for level.setting b x.env k checked, subst (λ (arms : List Arm). Performs level.setting b x.env to left arms k) (sym none) behind))
      (back_within i to there no_end leads)

  outward_no : (e : stacked.Effect) (s : Stacks) → e ≡ stacked.acts s → e ≡ stacked.outward → ⊥
  outward_no e s is out = (let both : stacked.acts s ≡ stacked.outward = sym is ∙ out in cc)

  loop_kept : (a : ℕ) → IsAt level.setting here (TURN a) x.line → Performs level.setting b x.env a ops [] k → IsKept facts m c p choice (turns x k)
  loop_kept a there behind = record {
    instr = TURN a;
    is = code_there facts m c p level acting here (TURN a) x.line there;
    can_step = record {
      stack = stack_there facts m c p level acting;
      performed = record { held = least (length ops); room = no_more (stack_of m.stacks p).room (length ops); reach = tt };
      goes = λ out. absurd (outward_no (stacked.effect (image_of facts.tree).blocks (TURN a) p m.stacks) (moved m.stacks p a ops) refl out);
    };
    no_move = tt;
    can_do = record { acting = acts_now facts m c p level acting (TURN a) x.line there; can = tt };
    line = code_line facts m c p level acting here (TURN a) x.line there;
    choices = refl;
    same =
        alone_comes facts m c p level acting (stacked.effect (image_of facts.tree).blocks (TURN a) p m.stacks)
        (quiet_effect (image_of facts.tree).scans (TURN a) p m)
        (performs (image_of facts.tree) (TURN a) choice p m) a ops (moved m.stacks p a ops) c.store (going x.env k) x.line refl
        (step (TURN a) a ops there refl refl arrived.room behind);
  }
    where
      least : (n : ℕ) → 0 ≤ n
      least n = grind arith

      no_more : (n j : ℕ) → 0 - 0 ≤ n - j
      no_more n j = grind arith

  module _ (d a : ℕ) (last kept w : ℤ) (below : List ℤ) (is : ops ≡ last ∷ kept ∷ w ∷ below) (before : is_before d kept last ≡ true)
      (there : IsAt level.setting here (FORT d a) x.line)
      (behind : Performs level.setting b x.env a (last ∷ value_behind d kept ∷ w ∷ below) [] k) where
    abbrev left : List ℤ
    left = last ∷ value_behind d kept ∷ w ∷ below

    count_effect : stacked.effect (image_of facts.tree).blocks (FORT d a) p m.stacks ≡ stacked.acts (moved m.stacks p a left)
    count_effect =
        ap (λ (xs : List ℤ). within m.stacks p
        (if is_before d (operand xs 1) (operand xs 0) then action a (set xs 1 (value_behind d (operand xs 1))) else quiet (here + 1) (drop 3 xs))) is
        ∙ ap (λ (t : Bool). within m.stacks p (if t then action a left else quiet (here + 1) below)) before

    count_kept : IsKept facts m c p choice (turns x k)
    count_kept = record {
      instr = FORT d a;
      is = code_there facts m c p level acting here (FORT d a) x.line there;
      can_step = record {
        stack = stack_there facts m c p level acting;
        performed = record {
          held = subst (λ (xs : List ℤ). 3 ≤ length xs) (sym is) (three (length below));
          room = no_more (stack_of m.stacks p).room (length ops);
          reach = tt;
        };
        goes = λ out. absurd (outward_no (stacked.effect (image_of facts.tree).blocks (FORT d a) p m.stacks) (moved m.stacks p a left) count_effect out);
      };
      no_move = subst (λ (e : stacked.Effect). IsNoMove (on_stacks e (quiet_effect (image_of facts.tree).scans (FORT d a) p m) m)) (sym count_effect) tt;
      can_do = record { acting = acts_now facts m c p level acting (FORT d a) x.line there; can = tt };
      line = code_line facts m c p level acting here (FORT d a) x.line there;
      choices = refl;
      same =
          alone_comes facts m c p level acting (stacked.effect (image_of facts.tree).blocks (FORT d a) p m.stacks)
          (quiet_effect (image_of facts.tree).scans (FORT d a) p m)
          (performs (image_of facts.tree) (FORT d a) choice p m) a left (moved m.stacks p a left) c.store (going x.env k) x.line count_effect
          (step (FORT d a) a left there refl refl (subst (λ (xs : List ℤ). length xs ≤ level.setting.room) is arrived.room) behind);
    }
      where
        three : (n : ℕ) → 3 ≤ suc (suc (suc n))
        three n = grind arith

        no_more : (n j : ℕ) → 0 - 3 ≤ n - j
        no_more n j = grind arith

  turn_kept : IsTurn level.setting b x here ops k → IsKept facts m c p choice (turns x k)
  turn_kept (of_loop a there behind) = loop_kept a there behind
  turn_kept (of_count d a last kept w below is before there behind) = count_kept d a last kept w below is before there behind

pub turns_kept : AreKept IsTurned
turns_kept facts m c p choice level (turns x k) is acting arrived chosen =
    let (b, checked, ((own, none), turn)) = arrived.arrived in turn_kept facts m c p choice level x k own acting arrived b checked none turn
turns_kept facts m c p choice level n is acting arrived chosen = absurd is
