-- An accept of a process that finds no caller: it waits, and offers to accept.
use Rattle.std.proofs.Common.{◌≡◌, ℕ, suc, ◌+◌, ◌<◌, ◌≤◌, max, ℤ, true, false, List, [], ◌∷◌, length, slice_get, Option, Some, None, Ok, refl, sym, ap, ◌∙◌}
use Rattle.std.proofs.Common.{subst, arith, ◌⊎◌, inl, inr}
use Rattle.pfc_code.specs.declared.instructions.Instr.{Instr}
use Rattle.pfc_code.specs.declared.instructions.Instr.TheVariants.{ACC, ARMA}
use Rattle.pfc_code.specs.declared.images.Block.{Block as CodeBlock}
use Rattle.pfc_code.specs.Images.{PlainImage}
use Rattle.pfc_image_laws.specs.Operands.{is_end}
use Rattle.pfc_state.specs.declared.waits.Arm.TheVariants.{Accept as Entered}
use Rattle.pfc_state.specs.declared.waits.Why.TheVariants.{Accept as Accepting}
use Rattle.pfc_world.specs.Partners.{caller}
use Rattle.pfc_world.specs.Rendezvous.{accepted_with}
use Rattle.pfc_world.specs.Tables.{Table, at}
use Rattle.pfc_world.specs.Transitions.{rested, blocked}
use Rattle.pfc_semantics.specs.Channels as text
use Rattle.pfc_semantics.specs.Programs.{Block, Program}
use Rattle.pfc_semantics.specs.Remainders.{Context, Accepting as Accept, Offer, Open, Remainder, to_accept, meets}
use Rattle.pfc_semantics.specs.Rendezvous.{accepts_from}
use Rattle.pfc_semantics.specs.Selects.{partner_at, plainly, communicates_by, meets_or_waits, meets_at}
use Rattle.pfc_semantics.specs.Configurations.{Config, Effect, offering, goes_on, showing, with_table}
use Rattle.pfc_translation.specs.Images.{image_of}
use Rattle.pfc_translation.specs.Selects.{accept_cell, accept_cells}
use Rattle.pfc_stacks.specs.Stacks.{stack_of, operands_of}
use Rattle.pfc_stacks.specs.Effects.{moved}
use Rattle.pfc_machines.specs.declared.machine.Machine.{Machine}
use Rattle.pfc_machines.specs.declared.descriptors.Descriptor.{Descriptor}
use Rattle.pfc_machines.specs.declared.alternatives.Alternative.{Alternative}
use Rattle.pfc_machines.specs.declared.alternatives.Offer.TheVariants.{Accept as AcceptOffer}
use Rattle.pfc_machines.specs.Actions.{Effect as MachineEffect}
use Rattle.pfc_machines.specs.Communications.{Communicating, made}
use Rattle.pfc_machines.specs.Descriptors.{descriptor_of}
use Rattle.pfc_machines.specs.Quiet.{left_by, CanGo}
use Rattle.pfc_machines.specs.Rooms.{room_of_all, room_by, together}
use Rattle.pfc_meeting_actions.specs.Meetings.{accepts as machine_accepts, accepted_from, CanMeet}
use Rattle.pfc_machine_acts.specs.Performing.{silent}
use Rattle.pfc_machine_acts.specs.Conditions.{CanAccept}
use Rattle.pfc_standing_code.specs.Settings.{of_own, site_of, IsAt}
use Rattle.pfc_standing_code.specs.Effects.{Arm}
use Rattle.pfc_standing_code.specs.Words.{IsChecked}
use Rattle.pfc_standing_code.specs.Performs.{MetAt, BranchAt, IsOpen, Performs}
use Rattle.pfc_standing_code.specs.Following.{IsPlain}
use Rattle.pfc_following_source.specs.Behind.{BehindAccept, BehindOpen}
use Rattle.pfc_representation.specs.Levels.{Facts, program_in, LivingLevel, block_of, IsBlockAt}
use Rattle.pfc_representation.specs.Rooms.{process_count, end_in, room_behind, own_address, HasRoomFor, IsInBlock}
use Rattle.pfc_representation.specs.Callers.{IsWithin}
use Rattle.pfc_representation.specs.Machines.{machine_table}
use Rattle.pfc_representation.specs.Acting.{IsActing, HasArrived}
use Rattle.pfc_representation.specs.Actions.{ComeToSame, IsKept}
use Rattle.pfc_kept_own_actions.proofs.Arrived.{stack_there, code_there, code_line, acts_now}
use Rattle.pfc_kept_own_actions.proofs.Blocks.{StaysIn}
use Rattle.pfc_kept_own_actions.proofs.Within.{stretch_first, code_stays, room_here}
use Rattle.pfc_kept_messages.proofs.Waiting as waiting
use Rattle.pfc_kept_messages.proofs.Waiting.{IsAlone, waits_behind}
use Rattle.pfc_kept_messages.proofs.Whole.{comes_then}

-- ## Room for one alternative more, at an accept

module _ (facts : Facts) (level : LivingLevel) (arms : List Arm) (here : ℕ) (latest : Communicating) (e d z : ℕ) (a : Alternative)
    (there : slice_get (image_of facts.tree).code here ≡ Some (ACC e d z)) (within : IsWithin facts level here latest) where
  makes_room : (k : ℕ) → here < end_in facts k → HasRoomFor latest (room_behind facts k here)
      → HasRoomFor latest (together (room_by 1 0 (process_count facts)) (room_behind facts k (here + 1)))
  makes_room k before room =
      subst (λ (is : List Instr). HasRoomFor latest (room_of_all (process_count facts) is))
      (stretch_first here (end_in facts k) (image_of facts.tree).code (ACC e d z) before there) room

  pub room_for_accept : (length latest.alternatives + 1 ≤ latest.room.alternatives) × (length latest.words + 0 ≤ latest.room.words)
      × (process_count facts ≤ latest.room.meetings)
  room_for_accept =
      let room = room_here facts level here latest (ACC e d z) within there in (room.0, room.1, room.2)

  pub within_accept : IsWithin facts (record level { arms = arms }) (here + 1) (made latest a [])
  within_accept =
      let (k, c, is, goes) = within in
      let room = makes_room k goes.before goes.rest in (
        k,
        c,
        is,
        record {
          entry = grind (arith, goes.entry);
          before = before_end k c (code_stays facts k c is.0 here (ACC e d z) goes.entry goes.before there);
          rest = (
            alternatives (length latest.alternatives) (room_behind facts k (here + 1)).alternatives latest.room.alternatives room.0,
            words (length latest.words) (room_behind facts k (here + 1)).words latest.room.words room.1,
            meetings (process_count facts) (room_behind facts k (here + 1)).meetings latest.room.meetings room.2,
          );
        },
      )
    where
      before_end : (k : ℕ) (c : CodeBlock) → (is_end (ACC e d z) ≡ true) ⊎ StaysIn c.entry (end_in facts k) here (ACC e d z) → here + 1 < end_in facts k
      before_end k c (inl end) = (let both : true ≡ false = sym end in cc)
      before_end k c (inr stays) = stays.0

      alternatives : (n r b : ℕ) → n + (1 + r) ≤ b → suc n + r ≤ b
      alternatives n r b h = grind (arith, h)

      words : (n r b : ℕ) → n + (0 + r) ≤ b → n + r ≤ b
      words n r b h = grind (arith, h)

      meetings : (n r b : ℕ) → max n r ≤ b → r ≤ b
      meetings n r b h = grind (arith, h)

-- ## Both sides

module _ (facts : Facts) (m : Machine) (c : Config) (p choice : ℕ) (level : LivingLevel) (x : Context) (o : Open) (k : Remainder)
    (own : level.setting.trial ≡ of_own) (acting : IsActing facts m c p level) (arrived : HasArrived facts m c p level (meets x o k)) (b : Block)
    (checked : IsChecked level.setting b x.env) (none : level.arms ≡ []) (plain : IsPlain o) (a : Accept) (offer : o.offer ≡ to_accept a) where
  abbrev pub here : ℕ
  here = (stack_of m.stacks p).at

  abbrev ops : List ℤ
  ops = operands_of m.stacks p

  abbrev image : PlainImage
  image = image_of facts.tree

  abbrev g : Program
  g = program_in facts

  abbrev d : Descriptor
  d = descriptor_of m.descriptors p

  abbrev pub cell : ℕ
  cell = accept_cell (site_of level.setting b x) a.scope

  abbrev pub size : ℕ
  size = accept_cells (site_of level.setting b x) a.scope

  abbrev pub w : Table
  w = record (machine_table facts c.table) { acting = Some p }

  module _ (there : IsAt level.setting here (ACC a.entry cell size) x.line)
      (met : MetAt level.setting (site_of level.setting b x) (here + 1) (length ops) (Some a) o.next o.stmts
      (λ end. Performs level.setting b x.env end ops [] k))
      (behind : BehindAccept level.setting b (here + 1) ops x a o k) where
    in_code : slice_get image.code here ≡ Some (ACC a.entry cell size)
    in_code = code_there facts m c p level acting here (ACC a.entry cell size) x.line there

    own_within : IsWithin facts level here d.communications
    own_within = subst (λ t. IsWithin facts level (own_address t here) d.communications) own arrived.within

    abbrev its_arm : Arm
    its_arm = record { by = ARMA a.entry cell size (here + 1); operands = [] }

    abbrev its_alternative : Alternative
    its_alternative = record { activation = d.activations; offer = AcceptOffer a.entry cell size; branch = here + 1 }

    pub room_there : (length d.communications.alternatives + 1 ≤ d.communications.room.alternatives)
        × (length d.communications.words + 0 ≤ d.communications.room.words) × (process_count facts ≤ d.communications.room.meetings)
    room_there = room_for_accept facts level (its_arm ∷ []) here d.communications a.entry cell size its_alternative in_code own_within

    goes_within : IsWithin facts (record level { arms = its_arm ∷ [] }) (here + 1) (made d.communications its_alternative [])
    goes_within = within_accept facts level (its_arm ∷ []) here d.communications a.entry cell size its_alternative in_code own_within

    in_block : (n : ℕ) (code : CodeBlock) → IsBlockAt g image.blocks n (block_of level) code → IsInBlock facts n (here + 1)
    in_block n code block other other_is =
        let (j, first, at, goes_there) = goes_within in
        let same : n ≡ j = block.1 ∙ sym at.1 in
        let one : first ≡ other = (let both : Some first ≡ Some other = sym at.0 ∙ ap (λ i. slice_get image.blocks i) (sym same) ∙ other_is in cc) in
        subst (λ i. (other.entry ≤ here + 1) × (here + 1 < i)) (ap (λ i. end_in facts i) (sym same))
        (subst (λ (y : CodeBlock). y.entry ≤ here + 1) one goes_there.entry, goes_there.before)

    alone : IsAlone facts m c p level acting own none its_arm (Entered a.entry) its_alternative [] (here + 1) ops x o k
    alone =
        record {
          is_made = (refl, refl);
          listed = refl;
          leads = in_block;
          accepts = room_there.2;
          within = goes_within;
          block = b;
          checked = checked;
          open_one =
              subst (λ (y : Offer). IsOpen level.setting (site_of level.setting b x) (length ops) o y its_arm
              (λ end. Performs level.setting b x.env end ops [] k)) (sym offer) (
                here + 1,
                refl,
                refl,
                subst (λ r. BranchAt level.setting (site_of level.setting b x) (here + 1) (length ops) r (Some a) o.next o.stmts
                    (λ end. Performs level.setting b x.env end ops [] k)) (sym plain.0) met,
              );
          behind = subst (λ (y : Offer). BehindOpen level.setting b ops x o y (here + 1) k) (sym offer) behind;
          few = arrived.room;
        }

    -- ### By who calls

    abbrev pub machine_by : Table → Option ℕ → MachineEffect
    machine_by y q = Ok (accepted_from q a.entry cell size p (record m { world = rested (accepted_with q y p a.entry) }))

    abbrev source_by : Option ℕ → Config
    source_by None = showing g (goes_on g c p x k) p (offering x (o ∷ []) k)
    source_by (Some q) = accepts_from g c p x a o q k

    abbrev pub source : Option ℕ → Effect
    source q = Ok (with_table (source_by q) (accepted_with q c.table p a.entry))

    nobody_same : ComeToSame facts m c p x.line (silent (machine_by w None)) (source None)
    nobody_same =
        comes_then facts m c p level acting x.line
        (waiting.activities facts m c p level acting own none its_arm (Entered a.entry) its_alternative [] (here + 1) ops x o k alone x.line)
        (waiting.descriptors facts m c p level acting own none its_arm (Entered a.entry) its_alternative [] (here + 1) ops x o k alone x.line) c.store
        (moved m.stacks p (here + 1) ops) (blocked c.table p (Accepting a.entry) [])
        (waits_behind facts m c p level acting own none its_arm (Entered a.entry) its_alternative [] (here + 1) ops x o k alone x.line)
        (rested (blocked w p (Accepting a.entry) [])) refl

    -- what is to be shown of a caller that waits
    pub record MeetsCaller : Type 0 where
      pub same : (q : ℕ) → caller c.table.rows p a.entry ≡ Some q → ComeToSame facts m c p x.line (silent (machine_by w (Some q))) (source (Some q))
      pub can : (q : ℕ) → caller c.table.rows p a.entry ≡ Some q → CanMeet (left_by m p 0) p cell size q

    module _ (meets_it : MeetsCaller) where
      by_caller : (q : Option ℕ) → caller c.table.rows p a.entry ≡ q → ComeToSame facts m c p x.line (silent (machine_by w q)) (source q)
      by_caller None is = nobody_same
      by_caller (Some q) is = meets_it.same q is

      can_go : CanGo (ACC a.entry cell size) p m
      can_go =
          let acts = acts_now facts m c p level acting (ACC a.entry cell size) x.line there in
          record {
            stack = acts.acts.stack;
            descriptor = acts.acts.descriptor;
            held = grind arith;
            places = room_there.0;
            words = room_there.1;
            next = acts.acts.next;
          }

      can_accept : CanAccept a.entry cell size p m
      can_accept =
          record { room = can_go; caller = λ q is. meets_it.can q (ap (λ (y : Table). caller y.rows p a.entry) (sym acting.world) ∙ is) }

      accepts_are : machine_accepts a.entry cell size p m ≡ machine_by w (caller c.table.rows p a.entry)
      accepts_are = ap (λ (y : Table). machine_by y (caller y.rows p a.entry)) acting.world

      source_same : (q : Option ℕ) → source q ≡ Ok (with_table (meets_or_waits g c p x o k q) (accepted_with q c.table p a.entry))
      source_same None = refl
      source_same (Some q) =
          ap (λ (y : Offer). Ok (with_table (communicates_by g c p x o k q y (text.arm_of g c p y)) (accepted_with (Some q) c.table p a.entry))) (sym offer)

      effect_is : source (caller c.table.rows p a.entry) ≡ meets_at g c p x o k
      effect_is =
          source_same (caller c.table.rows p a.entry)
          ∙ ap (λ (y : Offer). Ok (with_table (meets_or_waits g c p x o k (partner_at c p (text.arm_of g c p y))) (plainly c.table p (text.arm_of g c p y))))
          (sym offer)

      pub accept_kept : IsKept facts m c p choice (meets x o k)
      accept_kept =
          record {
            instr = ACC a.entry cell size;
            is = in_code;
            can_step = record {
              stack = stack_there facts m c p level acting;
              performed = record { held = grind arith; room = grind arith; reach = tt };
              goes = λ outward. can_go;
            };
            no_move = tt;
            can_do = record { acting = acts_now facts m c p level acting (ACC a.entry cell size) x.line there; can = can_accept };
            line = code_line facts m c p level acting here (ACC a.entry cell size) x.line there;
            choices = refl;
            same =
                subst (λ (e : MachineEffect). ComeToSame facts m c p x.line (silent e) (meets_at g c p x o k)) (sym accepts_are)
                (subst (λ (e : Effect). ComeToSame facts m c p x.line (silent (machine_by w (caller c.table.rows p a.entry))) e) effect_is
                (by_caller (caller c.table.rows p a.entry) refl));
          }
