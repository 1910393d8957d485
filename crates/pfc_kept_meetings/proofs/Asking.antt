-- A call of an entry: the fault where its owner is not active, and the wait where it does not wait to accept.
use Rattle.std.proofs.Common.{◌≡◌, ℕ, suc, ◌+◌, ◌^◌, ◌<◌, ◌≤◌, ℤ, Bool, true, false, if◌then◌else◌, List, [], ◌∷◌, length, take, drop, reverse, Option, Some}
use Rattle.std.proofs.Common.{None, Ok, Err, refl, sym, ap, ◌∙◌, subst, arith, inl}
use Rattle.pfc_base.specs.declared.faults.RunFault.TheVariants.{NotActive}
use Rattle.pfc_code.specs.declared.instructions.Instr.TheVariants.{ECALL}
use Rattle.pfc_code.specs.Images.{PlainImage}
use Rattle.pfc_state.specs.Stands.{Is_ready, Waits}
use Rattle.pfc_state.specs.Waits.{due_of_wait}
use Rattle.pfc_state.specs.declared.waits.Arm.TheVariants.{Accept as Entry}
use Rattle.pfc_state.specs.declared.waits.Why.TheVariants.{Call, Meeting}
use Rattle.pfc_world.specs.Partners.{is_accepting}
use Rattle.pfc_world.specs.Rendezvous.{is_uncalled}
use Rattle.pfc_world.specs.Tables.{Table}
use Rattle.pfc_world.specs.Transitions.{placed, blocked, ticked}
use Rattle.pfc_types.specs.Blocks.{entry_at}
use Rattle.pfc_types.specs.declared.types.TypeId.{TypeId}
use Rattle.pfc_types.specs.declared.heads.Formal.{Formal}
use Rattle.pfc_semantics.specs.Values.{Value}
use Rattle.pfc_semantics.specs.Displays.{Spot}
use Rattle.pfc_semantics.specs.Processes.{declaration_of}
use Rattle.pfc_semantics.specs.Programs.{Block, Program}
use Rattle.pfc_semantics.specs.Channels.{side_of}
use Rattle.pfc_semantics.specs.Remainders.{Context, Argument, Remainder, calls, to_entry}
use Rattle.pfc_semantics.specs.Rendezvous as text
use Rattle.pfc_semantics.specs.Rewriting.{Doing, going}
use Rattle.pfc_semantics.specs.Configurations.{asking, Config, Effect, all_passed, goes_on, number_for, showing, with_table}
use Rattle.pfc_translation.specs.Images.{image_of}
use Rattle.pfc_translation.specs.Calls.{formals_cells}
use Rattle.pfc_translation.specs.Sites.{blocks_of}
use Rattle.pfc_stacks.specs.Refs.{number_of}
use Rattle.pfc_stacks.specs.Stacks.{stack_of, operands_of}
use Rattle.pfc_stacks.specs.Effects.{moved}
use Rattle.pfc_cells.specs.Memory.{AreCells}
use Rattle.pfc_machines.specs.declared.machine.Machine.{Machine}
use Rattle.pfc_machines.specs.declared.descriptors.Descriptor.{Descriptor}
use Rattle.pfc_machines.specs.Actions.{Effect as MachineEffect}
use Rattle.pfc_machines.specs.Descriptors.{descriptor_of}
use Rattle.pfc_machines.specs.Partners.{open_to}
use Rattle.pfc_machines.specs.Quiet.{left_by}
use Rattle.pfc_meeting_actions.specs.Meetings.{called_by, called_into, calls_entry, CanBeCalled}
use Rattle.pfc_machine_acts.specs.Performing.{silent}
use Rattle.pfc_machine_acts.specs.Conditions.{CanCallEntry}
use Rattle.pfc_standing_code.specs.Settings.{Trial, of_own, site_of, IsAt}
use Rattle.pfc_standing_code.specs.Effects.{Arm}
use Rattle.pfc_standing_code.specs.TypedStatements.{IsProcessType}
use Rattle.pfc_standing_code.specs.Words.{IsObject, IsChecked, AreHeld}
use Rattle.pfc_standing_code.specs.Performs.{Performs}
use Rattle.pfc_standing_code.specs.Following.{DoesIn}
use Rattle.pfc_standing_code.proofs.Checked.{checked_for}
use Rattle.pfc_call_laws.specs.Blocks.{AreLaidAs}
use Rattle.pfc_representation.specs.Levels.{Facts, program_in, LivingLevel, DoesOn}
use Rattle.pfc_representation.specs.Rooms.{own_address}
use Rattle.pfc_representation.specs.Callers.{IsWithin}
use Rattle.pfc_representation.specs.Hands.{laid_parameters, entry_formals, HandIs}
use Rattle.pfc_representation.specs.Machines.{machine_table}
use Rattle.pfc_representation.specs.Acting.{IsActing, HasArrived}
use Rattle.pfc_representation.specs.Actions.{ComeToSame, IsKept}
use Rattle.pfc_kept_own_actions.proofs.Alone.{can_go, refuse}
use Rattle.pfc_kept_own_actions.proofs.Arrived.{has_setting, stack_there, code_there, code_line, acts_now}
use Rattle.pfc_kept_own_actions.proofs.Within.{within_next}
use Rattle.pfc_kept_messages.proofs.Whole.{comes_then}
use Rattle.pfc_kept_meetings.specs.Owners.{HasTypedEntries, HasSingles}
use Rattle.pfc_kept_meetings.proofs.Arguments.{behind_some, operand_behind, over_number, kept_anew, arguments_left, arguments_hold, arguments_kept}
use Rattle.pfc_kept_meetings.proofs.Owners.{IsOwner, is_owner}
use Rattle.pfc_kept_meetings.proofs.Stopping as stopping
use Rattle.pfc_kept_meetings.proofs.Stopping.{met_stays, stops_behind}

module _ (facts : Facts) (m : Machine) (c : Config) (p choice : ℕ) (level : LivingLevel) (x : Context) (v : Spot) (entry : ℕ) (k : Remainder)
    (given : List Argument) (own : level.setting.trial ≡ of_own) (acting : IsActing facts m c p level)
    (arrived : HasArrived facts m c p level (calls x (to_entry v entry k) given)) (b : Block) (checked : IsChecked level.setting b x.env)
    (none : level.arms ≡ []) (singles : HasSingles facts c) (entries_typed : HasTypedEntries facts.tree) where
  abbrev here : ℕ
  here = (stack_of m.stacks p).at

  abbrev ops : List ℤ
  ops = operands_of m.stacks p

  abbrev image : PlainImage
  image = image_of facts.tree

  abbrev g : Program
  g = program_in facts

  abbrev d : Descriptor
  d = descriptor_of m.descriptors p

  abbrev doing : Doing
  doing = going x.env k

  abbrev values : List Value
  values = all_passed g c p given

  -- the owner, as the source text has it
  abbrev pub q0 : ℕ
  q0 = number_for g c p v

  same_program : level.setting.program ≡ g
  same_program = (has_setting facts m c p level acting).image.program

  module _ (formals : List Formal) (over : List ℤ) (held : AreHeld level.setting.view (site_of level.setting b x) formals given ops over)
      (t : Option TypeId) (n : ℕ) (i : ℤ) (below : List ℤ) (process : IsProcessType (site_of level.setting b x) n v t)
      (among : n < length (blocks_of (site_of level.setting b x)).processes) (formals_are : formals ≡ entry_at (blocks_of (site_of level.setting b x)) n entry)
      (over_is : over ≡ i ∷ below) (object : IsObject level.setting (site_of level.setting b x) v t i) where
    abbrev pub z : ℕ
    z = formals_cells level.setting.program.state.forms formals

    formals_in : formals ≡ entry_at g.state.blocks n entry
    formals_in = formals_are ∙ ap (λ (y : Program). entry_at y.state.blocks n entry) same_program

    pub laid : AreLaidAs formals (laid_parameters formals)
    laid =
        subst (λ (fs : List Formal). AreLaidAs fs (laid_parameters fs)) (sym formals_in)
        (entries_typed.typed n entry (subst (λ (y : Program). n < length y.state.blocks.processes) same_program among))

    pub owner : IsOwner facts m c p level acting own b x v i checked n
    owner = is_owner facts m c p level acting own b x v i checked n t singles process object

    pub left_is : drop z ops ≡ i ∷ below
    left_is = arguments_left facts m c p level acting own b x checked formals given over laid held ∙ over_is

    -- the same process on both sides
    pub called_is : called_by z p m ≡ q0
    called_is = ap number_of (operand_behind z ops i below left_is) ∙ owner.word ∙ sym owner.spot

    pub some_owner : q0 < length c.activities
    some_owner = subst (λ j. j < length c.activities) (sym owner.spot) owner.there

    -- its entry has these parameters
    pub formals_known : entry_formals g q0 entry ≡ formals
    formals_known =
        ap (λ j. entry_at g.state.blocks j entry) (ap (λ j. declaration_of g j) owner.spot ∙ owner.declared) ∙ sym formals_in

    pub held_enough : z + 1 ≤ length ops
    held_enough = enough (length ops) z (length below) (behind_some z ops i below left_is)
      where
        enough : (j y r : ℕ) → j ≡ y + suc r → y + 1 ≤ j
        enough j y r same = grind (arith, same)

    pub few_below : length below ≤ level.setting.room
    few_below = fewer (length ops) z (length below) level.setting.room (behind_some z ops i below left_is) arrived.room
      where
        fewer : (j y r b : ℕ) → j ≡ y + suc r → j ≤ b → r ≤ b
        fewer j y r b same h = grind (arith, same, h)

    module _ (there : IsAt level.setting here (ECALL entry z) x.line) (rest : Performs level.setting b x.env (here + 1) below [] k) where
      pub does : DoesOn level (here + 1) below doing
      does = (
        few_below,
        arrived.arms,
        inl (
          b,
          checked.beside,
          subst (λ (arms : List Arm). DoesIn level.setting b (here + 1) below arms doing) (sym none) (checked_for level.setting b x.env k checked, rest),
        ),
      )

      own_within : IsWithin facts level here d.communications
      own_within = subst (λ (y : Trial). IsWithin facts level (own_address y here) d.communications) own arrived.within

      pub within : IsWithin facts level (here + 1) d.communications
      within =
          within_next facts level here d.communications (ECALL entry z) own_within (code_there facts m c p level acting here (ECALL entry z) x.line there) refl

      -- ### It waits

      abbrev waiting : Table
      waiting = blocked c.table p (Call q0 entry) []

      undue : (j : ℕ) → due_of_wait (Call q0 entry) ≡ Some j → j ≤ 10 ^ 15
      undue j is = absurd (let no : None ≡ Some j = is in cc)

      shows : HandIs facts acting.homes (ticked waiting) acting.entries p level (here + 1) ops (record d { line = x.line })
          (Waits (Call q0 entry) (c.table.done + 1) []) doing (asking values)
      shows = (
        acting.actor.offered,
        record {
          own = own;
          owner = q0;
          entry = entry;
          ticket = c.table.done + 1;
          waits = refl;
          words = reverse (take z ops);
          number = i;
          below = below;
          operands = over_number z ops i below left_is;
          hold =
              subst (λ (fs : List Formal). AreCells g acting.homes (laid_parameters fs) values (reverse (take z ops))) (sym formals_known)
              (arguments_hold facts m c p level acting own b x checked formals given over laid held);
          kept =
              kept_anew c.table (ticked waiting) acting.entries p d.communications.callers values
              (met_stays facts m c p level acting own (Call q0 entry) undue)
              (arguments_kept facts m c p level acting own b x checked formals given over laid held);
          behind = does;
        },
      )

      -- ### By what the owner does

      abbrev pub called_so : Bool → ℕ → Table → Table
      called_so accepting q w = if accepting then blocked (placed w q Is_ready) p (Meeting q) [] else blocked w p (Call q entry) []

      abbrev pub machine_by : Bool → Bool → ℕ → Table → MachineEffect
      machine_by uncalled accepting q w =
          let waits = record (left_by m p 0) { world = called_so accepting q w } in
          if uncalled then Err NotActive else (if accepting then Ok (called_into (open_to m q (Entry entry)) z p q waits) else Ok waits)

      abbrev pub source_by : Bool → Bool → Effect
      source_by uncalled accepting =
          let waits = with_table (goes_on g c p x k) (called_so accepting q0 c.table) in
          if uncalled
          then Err NotActive
          else if accepting then Ok (text.called_at g waits p q0 values (side_of g c q0 (Entry entry))) else Ok (showing g waits p (asking values))

      abbrev pub world : Table
      world = record (machine_table facts c.table) { acting = Some p }

      waits_same : ComeToSame facts m c p x.line (silent (machine_by false false q0 world)) (source_by false false)
      waits_same =
          comes_then facts m c p level acting x.line
          (stopping.activities facts m c p level acting own (Call q0 entry) undue (here + 1) ops doing (asking values) x.line within shows) m.descriptors
          c.store
          (moved m.stacks p (here + 1) ops) waiting
          (stops_behind facts m c p level acting own (Call q0 entry) undue (here + 1) ops doing (asking values) x.line within shows)
          (blocked world p (Call q0 entry) []) refl

      -- what is to be shown of an owner that waits to accept
      pub record MeetsOwner : Type 0 where
        pub same : is_accepting c.table.rows q0 entry ≡ true → ComeToSame facts m c p x.line (silent (machine_by false true q0 world)) (source_by false true)
        pub can : is_accepting c.table.rows q0 entry ≡ true → CanBeCalled (left_by m p 0) q0 entry z p

      module _ (meets : MeetsOwner) where
        by_owner : (uncalled accepting : Bool) → is_accepting c.table.rows q0 entry ≡ accepting
            → ComeToSame facts m c p x.line (silent (machine_by uncalled accepting q0 world)) (source_by uncalled accepting)
        by_owner true accepting is = refuse facts m c p level acting x.line NotActive
        by_owner false true is = meets.same is
        by_owner false false is = waits_same

        calls_are : calls_entry entry z p m
            ≡ machine_by (is_uncalled c.table q0) (is_accepting c.table.rows q0 entry) q0 world
        calls_are =
            ap (λ j. machine_by (is_uncalled m.world j) (is_accepting m.world.rows j entry) j m.world) called_is
            ∙ ap (λ (w : Table). machine_by (is_uncalled w q0) (is_accepting w.rows q0 entry) q0 w) acting.world

        can_call : CanCallEntry entry z p m
        can_call =
            record {
              held = held_enough;
              known =
                  subst (λ j. j < length m.world.rows) (sym called_is)
                  (subst (λ (w : Table). q0 < length w.rows) (sym acting.world) (subst (λ j. q0 < j) (sym acting.alike.words.rows) some_owner));
              owner = λ is.
                  subst (λ j. CanBeCalled (left_by m p 0) j entry z p) (sym called_is)
                  (meets.can
                  (sym (ap (λ j. is_accepting m.world.rows j entry) called_is ∙ ap (λ (w : Table). is_accepting w.rows q0 entry) acting.world) ∙ is));
            }

        pub call_kept : IsKept facts m c p choice (calls x (to_entry v entry k) given)
        call_kept =
            record {
              instr = ECALL entry z;
              is = code_there facts m c p level acting here (ECALL entry z) x.line there;
              can_step = record {
                stack = stack_there facts m c p level acting;
                performed = record { held = held_enough; room = grind arith; reach = tt };
                goes = λ outward. can_go facts m c p level acting (ECALL entry z) x.line there refl held_enough arrived.within;
              };
              no_move = tt;
              can_do = record { acting = acts_now facts m c p level acting (ECALL entry z) x.line there; can = can_call };
              line = code_line facts m c p level acting here (ECALL entry z) x.line there;
              choices = refl;
              same =
                  subst
                  (λ (e : MachineEffect). ComeToSame facts m c p x.line (silent e) (source_by (is_uncalled c.table q0) (is_accepting c.table.rows q0 entry)))
                  (sym calls_are) (by_owner (is_uncalled c.table q0) (is_accepting c.table.rows q0 entry) refl);
            }
