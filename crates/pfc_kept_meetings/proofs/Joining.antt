-- An accept with all of its callers.
use Rattle.std.proofs.Common.{◌≡◌, ℕ, ◌+◌, ◌^◌, ◌<◌, ◌≤◌, ℤ, true, List, [], length, take, drop, reverse, set, slice_get, Option, Some, Ok, refl, sym, ap, ap₂}
use Rattle.std.proofs.Common.{◌∙◌, subst, arith}
use Rattle.std.proofs.lemmas.List.{reverse-reverse, length-set, get_or-set_other}
use Rattle.pfc_code.specs.declared.instructions.Instr.TheVariants.{ACC}
use Rattle.pfc_state.specs.Stands.{Is_idle}
use Rattle.pfc_world.specs.Partners.{caller}
use Rattle.pfc_world.specs.Rendezvous.{taken}
use Rattle.pfc_world.specs.Tables.{at}
use Rattle.pfc_world.specs.Transitions.{rested}
use Rattle.pfc_semantics.specs.Displays.{Frame, frame_of}
use Rattle.pfc_semantics.specs.Values.{Value}
use Rattle.pfc_semantics.specs.Programs.{Block, Program}
use Rattle.pfc_semantics.specs.Remainders.{Context, Accepting, Offer, Open, Remainder, to_accept, meets}
use Rattle.pfc_semantics.specs.Rendezvous.{taken_from, asked}
use Rattle.pfc_semantics.specs.Store.{Store, values_in, with_values}
use Rattle.pfc_semantics.specs.Configurations.{Config, Hand, activity_of}
use Rattle.pfc_translation.specs.Sites.{is_accept}
use Rattle.pfc_translation.specs.Selects.{accept_cell, accept_cells}
use Rattle.pfc_stacks.specs.Stacks.{Stack, Stacks, no_stack, stack_of, cells_of, operands_of, written}
use Rattle.pfc_stacks.specs.Effects.{moved}
use Rattle.pfc_stacks.specs.Conditions.{AreLive}
use Rattle.pfc_machines.specs.declared.machine.Machine.{Machine}
use Rattle.pfc_machines.specs.declared.descriptors.Descriptor.{Descriptor}
use Rattle.pfc_machines.specs.Descriptors.{descriptor_of}
use Rattle.pfc_machines.specs.Quiet.{left_by}
use Rattle.pfc_meeting_actions.specs.Meetings.{parameter_cell, arguments_taken, CanMeet}
use Rattle.pfc_machine_acts.specs.Performing.{silent}
use Rattle.pfc_standing_code.specs.Settings.{Trial, Setting, of_own, site_of, IsAt}
use Rattle.pfc_standing_code.specs.Words.{IsChecked}
use Rattle.pfc_standing_code.specs.Performs.{MetAt, Performs}
use Rattle.pfc_standing_code.specs.Following.{IsPlain, MeetsBy}
use Rattle.pfc_following_source.specs.Behind.{BehindAccept, BehindMeeting}
use Rattle.pfc_following_source.proofs.Behind.{leads_on}
use Rattle.pfc_representation.specs.Levels.{Facts, program_in, LivingLevel, is_met_by}
use Rattle.pfc_representation.specs.Rooms.{process_count, own_address}
use Rattle.pfc_representation.specs.Callers.{IsWithin}
use Rattle.pfc_representation.specs.Machines.{machine_table}
use Rattle.pfc_representation.specs.Acting.{IsActing, HasArrived}
use Rattle.pfc_representation.specs.Actions.{ComeToSame, IsKept}
use Rattle.pfc_kept_own_actions.proofs.Arrived.{code_there}
use Rattle.pfc_kept_own_actions.proofs.Within.{within_next}
use Rattle.pfc_kept_object_actions.proofs.Change.{within_rows}
use Rattle.pfc_kept_messages.proofs.Stacks.{changed_cells}
use Rattle.pfc_kept_messages.proofs.Whole.{comes_then}
use Rattle.pfc_kept_meetings.specs.Owners.{HasTypedEntries}
use Rattle.pfc_kept_meetings.specs.Accepts.{HasProcesses, KeepsAccepts}
use Rattle.pfc_kept_meetings.proofs.Apart.{AreApart}
use Rattle.pfc_kept_meetings.specs.Waiting.{StandsWithin}
use Rattle.pfc_kept_meetings.proofs.Standing as standing
use Rattle.pfc_kept_meetings.proofs.Accepting as accepting
use Rattle.pfc_kept_meetings.proofs.Accepting.{accept_kept}
use Rattle.pfc_kept_meetings.proofs.Few.{found_at, are_fewer}
use Rattle.pfc_kept_meetings.proofs.Giving as giving
use Rattle.pfc_kept_meetings.proofs.Lenders.{ready_unmet}
use Rattle.pfc_kept_meetings.proofs.Live as live_cells
use Rattle.pfc_kept_meetings.proofs.Meets as meets
use Rattle.pfc_kept_meetings.proofs.Together as together
use Rattle.pfc_kept_meetings.proofs.Together.{begins_behind}

-- where the code behind an accept goes on
ends_at : (g : Setting) (b : Block) (x : Context) (at held : ℕ) (a : Accepting) (o : Open) (P : ℕ → Type 0)
    → MetAt g (site_of g b x) at held (Some a) o.next o.stmts P → (end : ℕ) × P end
ends_at g b x at held a o P (entry, (n, stmt, (ends, (j, stmts, rest))), sees) = (_, rest)

module _ (facts : Facts) (m : Machine) (c : Config) (p choice : ℕ) (level : LivingLevel) (x : Context) (o : Open) (k : Remainder)
    (own : level.setting.trial ≡ of_own) (acting : IsActing facts m c p level) (arrived : HasArrived facts m c p level (meets x o k)) (b : Block)
    (checked : IsChecked level.setting b x.env) (none : level.arms ≡ []) (plain : IsPlain o) (a : Accepting) (offer : o.offer ≡ to_accept a)
    (processes : HasProcesses facts.tree) (typed : HasTypedEntries facts.tree) (runs : KeepsAccepts facts c) (of_block : is_accept b a.scope ≡ true)
    (apart : AreApart b a.scope level.setting.accepts) where
  abbrev here : ℕ
  here = (stack_of m.stacks p).at

  abbrev ops : List ℤ
  ops = operands_of m.stacks p

  abbrev g : Program
  g = program_in facts

  abbrev d : Descriptor
  d = descriptor_of m.descriptors p

  abbrev cell : ℕ
  cell = accept_cell (site_of level.setting b x) a.scope

  abbrev size : ℕ
  size = accept_cells (site_of level.setting b x) a.scope

  module _ (there : IsAt level.setting here (ACC a.entry cell size) x.line)
      (met : MetAt level.setting (site_of level.setting b x) (here + 1) (length ops) (Some a) o.next o.stmts
      (λ end. Performs level.setting b x.env end ops [] k))
      (behind : BehindAccept level.setting b (here + 1) ops x a o k) where
    own_within : IsWithin facts level here d.communications
    own_within = subst (λ (t : Trial). IsWithin facts level (own_address t here) d.communications) own arrived.within

    within_next_one : IsWithin facts level (here + 1) d.communications
    within_next_one =
        within_next facts level here d.communications (ACC a.entry cell size) own_within
        (code_there facts m c p level acting here (ACC a.entry cell size) x.line there) refl

    ends : (end : ℕ) × Performs level.setting b x.env end ops [] k
    ends = ends_at level.setting b x (here + 1) (length ops) a o (λ end. Performs level.setting b x.env end ops [] k) met

    module _ (q : ℕ) (is_first : caller c.table.rows p a.entry ≡ Some q) where
      abbrev gone : Stacks
      gone = moved m.stacks p (here + 1) ops

      gone_size : length gone ≡ length m.stacks
      gone_size = length-set m.stacks p (record (stack_of m.stacks p) { at = here + 1; operands = ops })

      gone_operands : operands_of gone q ≡ operands_of m.stacks q
      gone_operands =
          ap (λ (s : Stack). s.operands)
          (get_or-set_other m.stacks p q (record (stack_of m.stacks p) { at = here + 1; operands = ops }) no_stack (meets.off facts m c p level acting own b x
          checked a met.0 processes typed runs of_block apart q is_first (here + 1) ops))

      stacks_are : arguments_taken gone p cell size q ≡ meets.stacks' facts m c p level acting own b x checked a met.0 processes typed runs of_block apart q
          is_first (here + 1) ops
      stacks_are =
          ap
          (λ (os : List ℤ). set (written gone (parameter_cell p cell) (reverse (take size os))) q
          (record (stack_of (written gone (parameter_cell p cell) (reverse (take size os))) q) { operands = drop (size + 1) os })) gone_operands
          ∙ ap₂
          (λ (ws below : List ℤ). set (written gone (parameter_cell p cell) ws) q
          (record (stack_of (written gone (parameter_cell p cell) ws) q) { operands = below }))
          (ap (λ (ws : List ℤ). reverse ws) (meets.over facts m c p level acting own b x checked a met.0 processes typed runs of_block apart q is_first (here +
          1) ops).top ∙ reverse-reverse (meets.words facts m c p level acting own b x checked a met.0 processes typed runs of_block apart q is_first (here
          + 1) ops)) (meets.over facts m c p level acting own b x checked a met.0 processes typed runs of_block apart q is_first (here + 1) ops).rest

      store_is :
          (let f = frame_of (activity_of g c p).display a.scope in
          with_values c.store f.activation (taken_from f.first (asked (activity_of g c q).hand) (values_in c.store f.activation)))
          ≡ meets.new_store facts m c p level acting own b x checked a met.0 processes typed runs of_block apart q is_first (here + 1) ops
      store_is =
          ap₂ (λ (f : Frame) (args : List Value). with_values c.store f.activation (taken_from f.first args (values_in c.store f.activation)))
          (giving.frame_is facts m c acting.homes acting.entries acting.alike p level acting.actor.stands own acting.actor.process processes b x checked a
          met.0 typed runs of_block) (ap (λ (h : Hand). asked h) (meets.asking_so facts m c p level acting own b x checked a met.0 processes typed runs
          of_block apart q is_first (here + 1) ops).hand)

      world_is : rested (taken (record (machine_table facts c.table) { acting = Some p }) p q) ≡ machine_table facts (taken c.table p q)
      world_is = ap (λ (who : Option ℕ). record (machine_table facts (taken c.table p q)) { acting = who }) (sym acting.alike.between.acting)

      both : ComeToSame facts m c p x.line
          (silent (Ok (record m {
            stacks = meets.stacks' facts m c p level acting own b x checked a met.0 processes typed runs of_block apart q is_first (here
                + 1) ops;
            descriptors = together.descriptors facts m c p level acting own b x checked a met.0 processes typed runs of_block apart q is_first
                (here + 1) ops o k x.line ends.0 ends.1 behind arrived.room arrived.arms none within_next_one;
            world = rested (taken (record (machine_table facts
                c.table) { acting = Some p }) p q);
          })))
          (Ok (record c {
            activities = together.activities facts m c p level acting own b x checked a met.0 processes typed runs of_block apart q is_first
                (here + 1) ops o k x.line ends.0 ends.1 behind arrived.room arrived.arms none within_next_one;
            store = meets.new_store facts m c p level acting
                own b x checked a met.0 processes typed runs of_block apart q is_first (here + 1) ops;
            table = taken c.table p q;
          }))
      both =
          comes_then facts m c p level acting x.line (together.activities facts m c p level acting own b x checked a met.0 processes typed runs of_block apart
          q is_first (here + 1) ops o k x.line ends.0 ends.1 behind arrived.room arrived.arms none within_next_one) (together.descriptors facts m c p level
          acting own b x checked a met.0 processes typed runs of_block apart q is_first (here + 1) ops o k x.line ends.0 ends.1 behind arrived.room
          arrived.arms none within_next_one) (meets.new_store facts m c p level acting own b x checked a met.0 processes typed runs of_block apart q
          is_first (here + 1) ops) (meets.stacks' facts m c p level acting own b x checked a met.0 processes typed runs of_block apart q is_first (here +
          1) ops)
          (taken c.table p q) (begins_behind facts m c p level acting own b x checked a met.0 processes typed runs of_block apart q is_first (here + 1) ops o k
          x.line ends.0 ends.1 behind arrived.room arrived.arms none within_next_one) (rested (taken (record (machine_table facts c.table) {
            acting = Some
                p;
          }) p q)) world_is

      same : ComeToSame facts m c p x.line
          (silent (accepting.machine_by facts m c p choice level x o k own acting arrived b checked none plain a offer there met behind (accepting.w facts m c
          p choice level x o k own acting arrived b checked none plain a offer) (Some q)))
          (accepting.source facts m c p choice level x o k own acting arrived b checked none plain a offer there met behind (Some q))
      same =
          subst
          (λ (s : Stacks). ComeToSame facts m c p x.line
          (silent (Ok (record m {
            stacks = s;
            descriptors = together.descriptors facts m c p level acting own b x checked a met.0 processes typed runs of_block
                apart q is_first (here + 1) ops o k x.line ends.0 ends.1 behind arrived.room arrived.arms none within_next_one;
            world = rested (taken (record
                (machine_table facts c.table) { acting = Some p }) p q);
          })))
          (accepting.source facts m c p choice level x o k own acting arrived b checked none plain a offer there met behind (Some q)))
          (sym stacks_are)
          (subst
          (λ (s : Store). ComeToSame facts m c p x.line
          (silent (Ok (record m {
            stacks = meets.stacks' facts m c p level acting own b x checked a met.0 processes typed runs of_block apart q is_first (here
                + 1) ops;
            descriptors = together.descriptors facts m c p level acting own b x checked a met.0 processes typed runs of_block apart q is_first
                (here + 1) ops o k x.line ends.0 ends.1 behind arrived.room arrived.arms none within_next_one;
            world = rested (taken (record (machine_table facts
                c.table) { acting = Some p }) p q);
          })))
          (Ok (record c {
            activities = together.activities facts m c p level acting own b x checked a met.0 processes typed runs of_block apart q is_first
                (here + 1) ops o k x.line ends.0 ends.1 behind arrived.room arrived.arms none within_next_one;
            store = s;
            table = taken c.table p q;
          })))
          (sym store_is) both)

      -- ### It may

      live : AreLive m.stacks (parameter_cell p cell) size
      live =
          subst (λ z. AreLive m.stacks (parameter_cell p cell) z)
          (sym (giving.cells_are facts m c acting.homes acting.entries acting.alike p level acting.actor.stands own acting.actor.process processes b x checked
          a met.0 typed runs of_block)) (live_cells.live facts m c acting.homes acting.entries acting.alike p level acting.actor.stands own
          acting.actor.process processes b x checked a met.0 typed runs of_block)

      gone_cells : cells_of gone p ≡ cells_of m.stacks p
      gone_cells =
          changed_cells m.stacks p (λ (s : Stack). record s { at = here + 1; operands = ops }) (λ s. refl) (meets.p_there facts m c p level acting own b x
          checked a met.0 processes typed runs of_block apart q is_first (here + 1) ops) p

      callers_inside : (j r : ℕ) → slice_get d.communications.callers j ≡ Some r → r < process_count facts
      callers_inside j r found =
          subst (λ n. r < n) (acting.alike.words.rows ∙ acting.alike.words.processes)
          (within_rows c.table.rows r
          (λ idle. idle_unmet (subst (λ s. is_met_by s p) (ap (λ n. at c.table.rows n) (found_at d.communications.callers j r 0 found).1 ∙ idle)
          (acting.actor.stands.met.waiting j 0 (found_at d.communications.callers j r 0 found).0))))
        where
          idle_unmet : is_met_by Is_idle p → ⊥
          idle_unmet none_there = none_there

      owner_apart : (j : ℕ) → slice_get d.communications.callers j ≡ Some p → ⊥
      owner_apart j found =
          ready_unmet (at c.table.rows p) p acting.actor.ready
          (subst (λ n. is_met_by (at c.table.rows n) p) (found_at d.communications.callers j p 0 found).1
          (acting.actor.stands.met.waiting j 0 (found_at d.communications.callers j p 0 found).0))

      can : CanMeet (left_by m p 0) p cell size q
      can =
          record {
            descriptor = subst (λ n. p < n) (sym acting.alike.words.descriptors) acting.actor.process;
            room =
                less (length d.communications.callers) (process_count facts) d.communications.room.meetings
                (are_fewer (process_count facts) p d.communications.callers acting.actor.stands.met.once callers_inside
                (subst (λ n. p < n) acting.alike.words.processes acting.actor.process) owner_apart)
                (accepting.room_there facts m c p choice level x o k own acting arrived b checked none plain a offer there met behind).2;
            stack = subst (λ n. q < n) (sym gone_size) (meets.q_there facts m c p level acting own b x checked a met.0 processes typed runs of_block apart q
                is_first (here + 1) ops);
            held =
                subst (λ (os : List ℤ). size ≤ length os) (sym gone_operands)
                (enough (length (operands_of m.stacks q)) size (length (meets.below facts m c p level acting own b x checked a met.0 processes typed runs
                of_block apart q is_first (here + 1) ops)) (meets.over facts m c p level acting own b x checked a met.0 processes typed runs of_block apart
                q is_first (here + 1) ops).count);
            live = subst (λ (cs : List ℤ). 8 + cell + size ≤ length cs) (sym gone_cells) live;
            cell = small cell size (length (cells_of m.stacks p)) live (acting.alike.holds.few.cells p);
          }
        where
          less : (n k j : ℕ) → n < k → k ≤ j → n < j
          less n k j one two = grind (arith, one, two)

          enough : (n z l : ℕ) → n ≡ z + 1 + l → z ≤ n
          enough n z l is = grind (arith, is)

          small : (d z n : ℕ) → 8 + d + z ≤ n → n < 2 ^ 32 → 8 + d < 2 ^ 32
          small d z n one two = omega (arith, one, two)

    pub joined_kept : IsKept facts m c p choice (meets x o k)
    joined_kept =
        accept_kept facts m c p choice level x o k own acting arrived b checked none plain a offer there met behind
        (record { same = same; can = can })

-- ## As an action

by_block : (facts : Facts) (m : Machine) (c : Config) (p choice : ℕ) (level : LivingLevel) (x : Context) (o : Open) (k : Remainder) (a : Accepting)
    → HasProcesses facts.tree → HasTypedEntries facts.tree → KeepsAccepts facts c → o.offer ≡ to_accept a
    → IsActing facts m c p level → HasArrived facts m c p level (meets x o k) → (b : Block) → IsChecked level.setting b x.env
    → level.setting.trial ≡ of_own → level.arms ≡ [] → IsPlain o
    → IsAt level.setting (stack_of m.stacks p).at (ACC a.entry (accept_cell (site_of level.setting b x) a.scope) (accept_cells (site_of level.setting b x)
    a.scope))
    x.line
    → MetAt level.setting (site_of level.setting b x) ((stack_of m.stacks p).at + 1) (length (operands_of m.stacks p)) (Some a) o.next o.stmts
    (λ end. Performs level.setting b x.env end (operands_of m.stacks p) [] k)
    → BehindAccept level.setting b ((stack_of m.stacks p).at + 1) (operands_of m.stacks p) x a o k
    → StandsWithin facts c p x a → IsKept facts m c p choice (meets x o k)
by_block facts m c p choice level x o k a processes typed runs offer acting arrived b checked own none plain there met behind within_those =
    joined_kept facts m c p choice level x o k own acting arrived b checked none plain a offer processes typed runs
    (standing.of_block facts m c acting.homes acting.entries acting.alike p level acting.actor.stands own acting.actor.process processes b x checked a met.0
    met.2 within_those) (standing.apart facts m c acting.homes acting.entries acting.alike p level acting.actor.stands own acting.actor.process processes b x
    checked a met.0 met.2 within_those) there met behind

pub accept_is_kept : (facts : Facts) (m : Machine) (c : Config) (p choice : ℕ) (level : LivingLevel) (x : Context) (o : Open) (k : Remainder) (a : Accepting)
    → HasProcesses facts.tree → HasTypedEntries facts.tree → KeepsAccepts facts c → o.offer ≡ to_accept a
    → StandsWithin facts c p x a → IsActing facts m c p level → HasArrived facts m c p level (meets x o k) → IsKept facts m c p choice (meets x o k)
accept_is_kept facts m c p choice level x o k a processes typed runs offer within_those acting arrived =
    let (b, checked, by) = arrived.arrived in
    let here = (stack_of m.stacks p).at in
    let ops = operands_of m.stacks p in
    let meets_by = subst (λ (y : Offer). MeetsBy level.setting b x here ops o y k) offer by.1.1 in
    let behind = subst (λ (y : Offer). BehindMeeting level.setting b here ops x o y k) offer
    (leads_on level.setting b here (meets x o k) ops level.arms arrived.room checked by) in
    by_block facts m c p choice level x o k a processes typed runs offer acting arrived b checked by.0.0 by.0.1 by.1.0 meets_by.0 meets_by.1 behind
    within_those
