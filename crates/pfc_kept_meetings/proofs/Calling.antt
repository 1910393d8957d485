-- A call of an entry with an owner that waits to accept it, on both sides.
use Rattle.std.proofs.Common.{◌≡◌, ℕ, ◌+◌, ◌^◌, ◌<◌, ◌≤◌, ℤ, pos, true, false, List, [], ◌∷◌, length, take, drop, reverse, set, get_or, slice_get, Option, Some}
use Rattle.std.proofs.Common.{Ok, refl, sym, ap, ◌∙◌, subst, arith}
use Rattle.std.specs.Prelude.{IfSome}
use Rattle.std.proofs.lemmas.List.{length-set, get_or-set_same}
use Rattle.pfc_code.specs.declared.instructions.Instr.TheVariants.{ECALL}
use Rattle.pfc_types.specs.Blocks.{entry_at}
use Rattle.pfc_types.specs.declared.heads.Formal.{Formal}
use Rattle.pfc_types.specs.declared.types.TypeId.{TypeId}
use Rattle.pfc_types.specs.declared.scope.Meaning.TheVariants.{Variable}
use Rattle.pfc_state.specs.Stands.{Is_idle, Is_ready}
use Rattle.pfc_state.specs.declared.waits.Arm.TheVariants.{Accept as Entered}
use Rattle.pfc_state.specs.declared.waits.Why.TheVariants.{Meeting}
use Rattle.pfc_world.specs.Partners.{is_accepting}
use Rattle.pfc_world.specs.Tables.{Table, at}
use Rattle.pfc_world.specs.Transitions.{blocked, placed}
use Rattle.pfc_semantics.specs.Displays.{Spot, Frame, frame_of}
use Rattle.pfc_semantics.specs.Values.{Value, Location, ordinal, points}
use Rattle.pfc_semantics.specs.Programs.{Block, Program, layout_cells}
use Rattle.pfc_semantics.specs.Remainders.{Context, Accepting, Argument, Offer, Remainder, calls, to_accept, to_entry}
use Rattle.pfc_semantics.specs.Rendezvous as text
use Rattle.pfc_semantics.specs.Rendezvous.{taken_from}
use Rattle.pfc_semantics.specs.Channels.{Side}
use Rattle.pfc_semantics.specs.Rewriting.{Doing, going}
use Rattle.pfc_semantics.specs.Store.{Store, values_in, with_values}
use Rattle.pfc_semantics.specs.Configurations.{Activity, Config, nobody, all_passed, number_for, goes_on, with_table}
use Rattle.pfc_translation.specs.Selects.{accept_cell}
use Rattle.pfc_stacks.specs.Conditions.{AreLive}
use Rattle.pfc_stacks.specs.Effects.{moved}
use Rattle.pfc_stacks.specs.Stacks.{Stack, Stacks, no_stack, stack_of, cells_of, operands_of, written}
use Rattle.pfc_cells.specs.Memory.{AreCells}
use Rattle.pfc_machines.specs.declared.machine.Machine.{Machine}
use Rattle.pfc_machines.specs.declared.descriptors.Descriptor.{Descriptor}
use Rattle.pfc_machines.specs.declared.alternatives.Alternative.{Alternative}
use Rattle.pfc_machines.specs.declared.alternatives.KeptAlternative.{KeptAlternative}
use Rattle.pfc_machines.specs.Descriptors.{descriptor_of}
use Rattle.pfc_machines.specs.Quiet.{left_by}
use Rattle.pfc_meeting_actions.specs.Meetings.{parameter_cell, cell_of, called_into, CanMeet, CanBeCalled}
use Rattle.pfc_machine_acts.specs.Performing.{silent}
use Rattle.pfc_standing_code.specs.Settings.{of_own, site_of, IsAt}
use Rattle.pfc_translation.specs.Sites.{blocks_of}
use Rattle.pfc_standing_code.specs.TypedStatements.{IsProcessType}
use Rattle.pfc_standing_code.specs.Words.{IsChecked, AreHeld, IsObject}
use Rattle.pfc_standing_code.specs.Performs.{Performs}
use Rattle.pfc_representation.specs.Levels.{Facts, program_in, LivingLevel, is_met_by}
use Rattle.pfc_representation.specs.Rooms.{process_count}
use Rattle.pfc_representation.specs.Hands.{laid_parameters, entry_formals, AreKept}
use Rattle.pfc_representation.specs.Machines.{machine_table}
use Rattle.pfc_representation.specs.Acting.{IsActing, HasArrived}
use Rattle.pfc_representation.specs.Actions.{ComeToSame, IsKept}
use Rattle.pfc_kept_own_actions.proofs.Arrived.{stack_there, has_setting}
use Rattle.pfc_kept_object_actions.proofs.Change.{within_rows}
use Rattle.pfc_kept_messages.proofs.Finding as finding
use Rattle.pfc_kept_messages.proofs.Stacks.{changed_cells}
use Rattle.pfc_kept_messages.proofs.Whole.{comes_then}
use Rattle.pfc_kept_meetings.specs.Owners.{HasTypedEntries, HasSingles}
use Rattle.pfc_kept_meetings.specs.Accepts.{HasProcesses, KeepsAccepts}
use Rattle.pfc_kept_meetings.specs.Waiting.{KeepsOffers}
use Rattle.pfc_kept_meetings.proofs.Answering as answering
use Rattle.pfc_kept_meetings.proofs.Answering.{grants_behind}
use Rattle.pfc_kept_meetings.proofs.Arguments.{laid_cells, behind_number, arguments_hold, arguments_given, arguments_kept}
use Rattle.pfc_kept_meetings.proofs.Asking as asking
use Rattle.pfc_kept_meetings.proofs.Asking.{call_kept}
use Rattle.pfc_kept_meetings.proofs.Few.{found_at, are_fewer}
use Rattle.pfc_kept_meetings.proofs.Giving as giving
use Rattle.pfc_kept_meetings.proofs.Granted as granted
use Rattle.pfc_kept_meetings.proofs.Live as live_cells
use Rattle.pfc_kept_meetings.proofs.Waiting as waiting

module _ (facts : Facts) (m : Machine) (c : Config) (p choice : ℕ) (level : LivingLevel) (x : Context) (v : Spot) (entry : ℕ) (k : Remainder)
    (given : List Argument) (own : level.setting.trial ≡ of_own) (acting : IsActing facts m c p level)
    (arrived : HasArrived facts m c p level (calls x (to_entry v entry k) given)) (b : Block) (checked : IsChecked level.setting b x.env)
    (none : level.arms ≡ []) (singles : HasSingles facts c) (typed : HasTypedEntries facts.tree) (processes : HasProcesses facts.tree)
    (runs : KeepsAccepts facts c) (offers : KeepsOffers facts c) where
  abbrev here : ℕ
  here = (stack_of m.stacks p).at

  abbrev ops : List ℤ
  ops = operands_of m.stacks p

  abbrev g : Program
  g = program_in facts

  abbrev doing : Doing
  doing = going x.env k

  abbrev values : List Value
  values = all_passed g c p given

  abbrev q : ℕ
  q = number_for g c p v

  module _ (formals : List Formal) (over : List ℤ) (held : AreHeld level.setting.view (site_of level.setting b x) formals given ops over)
      (t : Option TypeId) (n : ℕ) (i : ℤ) (below : List ℤ) (process : IsProcessType (site_of level.setting b x) n v t)
      (among : n < length (blocks_of (site_of level.setting b x)).processes) (formals_are : formals ≡ entry_at (blocks_of (site_of level.setting b x)) n entry)
      (over_is : over ≡ i ∷ below) (object : IsObject level.setting (site_of level.setting b x) v t i) where
    abbrev z : ℕ
    z = asking.z facts m c p choice level x v entry k given own acting arrived b checked none singles typed formals over held t n i below process among
        formals_are over_is object

    module _ (there : IsAt level.setting here (ECALL entry z) x.line) (rest : Performs level.setting b x.env (here + 1) below [] k)
        (ticket : is_accepting c.table.rows q entry ≡ true) where
      abbrev a : Accepting
      a = waiting.a facts m c p level acting own q entry ticket processes typed runs offers

      formals_q : entry_formals g q a.entry ≡ formals
      formals_q = ap (λ j. entry_formals g q j) (waiting.accept_there facts m c p level acting own q entry ticket processes typed runs offers).2 ∙
          asking.formals_known facts m c p choice level x v entry k given own acting arrived b checked none singles typed formals over held t n i below process
          among formals_are over_is object

      abbrev words : List ℤ
      words = reverse (take z ops)

      hold : AreCells g acting.homes (laid_parameters (entry_formals g q a.entry)) values words
      hold =
          subst (λ (fs : List Formal). AreCells g acting.homes (laid_parameters fs) values words) (sym formals_q)
          (arguments_hold facts m c p level acting own b x checked formals given over (asking.laid facts m c p choice level x v entry k given own acting
          arrived b checked none singles typed formals over held t n i below process among formals_are over_is object) held)

      given_so : (j : ℕ) (u : TypeId) → slice_get (laid_parameters (entry_formals g q a.entry)) j ≡ Some (Variable u true)
          → (l : Location) × (get_or values j (ordinal (pos 0)) ≡ points l)
      given_so j u laid =
          arguments_given facts m c p level acting own b x checked formals given over (asking.laid facts m c p choice level x v entry k given own acting
          arrived b checked none singles typed formals over held t n i below process among formals_are over_is object) held j u
          (ap (λ (fs : List Formal). slice_get (laid_parameters fs) j) (sym formals_q) ∙ laid)

      kept : AreKept c.table acting.entries p (descriptor_of m.descriptors p).communications.callers values
      kept = arguments_kept facts m c p level acting own b x checked formals given over (asking.laid facts m c p choice level x v entry k given own acting
          arrived b checked none singles typed formals over held t n i below process among formals_are over_is object) held

      -- ### The machine

      abbrev gone : Stacks
      gone = moved m.stacks p (here + 1) ops

      p_there : p < length m.stacks
      p_there = stack_there facts m c p level acting

      gone_operands : operands_of gone p ≡ ops
      gone_operands =
          ap (λ (s : Stack). s.operands) (get_or-set_same m.stacks p (record (stack_of m.stacks p) { at = here + 1; operands = ops }) no_stack p_there)

      abbrev kept_one : KeptAlternative
      kept_one = (waiting.met facts m c p level acting own q entry ticket processes typed runs offers).kept

      abbrev cell : ℕ
      cell = accept_cell (site_of (waiting.its_level facts m c p level acting own q entry ticket processes typed runs offers).setting (waiting.b facts m c p
          level acting own q entry ticket processes typed runs offers) (waiting.x facts m c p level acting own q entry ticket processes typed runs offers))
          a.scope

      abbrev put : ℕ → ℕ → List ℤ → List ℤ → Stacks
      put d to ws left =
          let took = set (written gone (parameter_cell q d) ws) p (record (stack_of (written gone (parameter_cell q d) ws) p) { operands = left }) in
          set took q (record (stack_of took q) { at = to })

      stacks_are : put (cell_of kept_one.alternative.offer) kept_one.alternative.branch (reverse (take z (operands_of gone p)))
          (drop (z + 1) (operands_of gone p))
          ≡ granted.stacks' facts m c p level acting own q entry ticket processes typed runs offers values words hold given_so kept (here + 1) ops below doing
          (asking.does facts m c p choice level x v entry k given own acting arrived b checked none singles typed formals over held t n i below process
          among formals_are over_is object there rest) (asking.within facts m c p choice level x v entry k given own acting arrived b checked none singles
          typed formals over held t n i below process among formals_are over_is object there rest) x.line
      stacks_are =
          ap
          (λ (os : List ℤ). put (cell_of kept_one.alternative.offer) kept_one.alternative.branch (reverse (take z os)) (drop (z + 1) os)) gone_operands
          ∙ ap (λ (y : Alternative). put (cell_of y.offer) y.branch (reverse (take z ops)) (drop (z + 1) ops)) (waiting.alternative_is facts m c p level acting
          own q entry ticket processes typed runs offers)
          ∙ ap (λ (left : List ℤ). put cell (waiting.to facts m c p level acting own q entry ticket processes typed runs offers) (reverse (take z ops)) left)
          (behind_number z ops i below (asking.left_is facts m c p choice level x v entry k given own acting arrived b checked none singles typed formals
          over held t n i below process among formals_are over_is object))

      store_is :
          (let f = frame_of (get_or (answering.once facts m c p level acting own q entry ticket processes typed runs offers values words hold given_so kept
          (here + 1) ops below doing (asking.does facts m c p choice level x v entry k given own acting arrived b checked none singles typed formals over
          held t n i below process among formals_are over_is object there rest) (asking.within facts m c p choice level x v entry k given own acting
          arrived b checked none singles typed formals over held t n i below process among formals_are over_is object there rest) x.line) q (nobody
          g)).display a.scope in
          with_values c.store f.activation (taken_from f.first values (values_in c.store f.activation)))
          ≡ granted.new_store facts m c p level acting own q entry ticket processes typed runs offers values words hold given_so kept (here + 1) ops below
          doing (asking.does facts m c p choice level x v entry k given own acting arrived b checked none singles typed formals over held t n i below
          process among formals_are over_is object there rest) (asking.within facts m c p choice level x v entry k given own acting arrived b checked none
          singles typed formals over held t n i below process among formals_are over_is object there rest) x.line
      store_is =
          ap (λ (f : Frame). with_values c.store f.activation (taken_from f.first values (values_in c.store f.activation)))
          (ap (λ (y : Activity). frame_of y.display a.scope) (answering.once_other facts m c p level acting own q entry ticket processes typed runs offers
          values words hold given_so kept (here + 1) ops below doing (asking.does facts m c p choice level x v entry k given own acting arrived b checked
          none singles typed formals over held t n i below process among formals_are over_is object there rest) (asking.within facts m c p choice level x v
          entry k given own acting arrived b checked none singles typed formals over held t n i below process among formals_are over_is object there rest)
          x.line) ∙ giving.frame_is facts m c acting.homes acting.entries acting.alike q (waiting.its_level facts m c p level acting own q entry ticket
          processes typed runs offers) (waiting.shows facts m c p level acting own q entry ticket processes typed runs offers).under_way.stands
          (waiting.shows facts m c p level acting own q entry ticket processes typed runs offers).offers.own (waiting.inside facts m c p level acting own q
          entry ticket processes typed runs offers) processes (waiting.b facts m c p level acting own q entry ticket processes typed runs offers)
          (waiting.x facts m c p level acting own q entry ticket processes typed runs offers) (waiting.shows facts m c p level acting own q entry ticket
          processes typed runs offers).offers.checked a (waiting.accepts facts m c p level acting own q entry ticket processes typed runs offers) typed
          runs (waiting.of_block facts m c p level acting own q entry ticket processes typed runs offers))

      abbrev world : Table
      world = record (machine_table facts c.table) { acting = Some p }

      abbrev world' : Table
      world' = blocked (placed world q Is_ready) p (Meeting q) []

      abbrev waits : Machine
      waits = record (left_by m p 0) { world = world' }

      abbrev waits_text : Config
      waits_text = with_table (goes_on g c p x k) (granted.table facts m c p level acting own q entry ticket processes typed runs offers values words hold
          given_so kept (here + 1) ops below doing (asking.does facts m c p choice level x v entry k given own acting arrived b checked none singles typed
          formals over held t n i below process among formals_are over_is object there rest) (asking.within facts m c p choice level x v entry k given own
          acting arrived b checked none singles typed formals over held t n i below process among formals_are over_is object there rest) x.line)

      abbrev side : Side
      side = record {
        context = waiting.x facts m c p level acting own q entry ticket processes typed runs offers;
        at = (waiting.met facts m c p level acting
            own q entry ticket processes typed runs offers).o;
        left = (waiting.shows facts m c p level acting own q entry ticket processes typed runs
            offers).left;
      }

      both : ComeToSame facts m c p x.line
          (silent (Ok (record m {
            stacks = granted.stacks' facts m c p level acting own q entry ticket processes typed runs offers values words hold given_so
                kept (here + 1) ops below doing (asking.does facts m c p choice level x v entry k given own acting arrived b checked none singles typed formals
                over held t n i below process among formals_are over_is object there rest) (asking.within facts m c p choice level x v entry k given own acting
                arrived b checked none singles typed formals over held t n i below process among formals_are over_is object there rest) x.line;
            descriptors =
                answering.descriptors facts m c p level acting own q entry ticket processes typed runs offers values words hold given_so kept (here + 1) ops
                below doing (asking.does facts m c p choice level x v entry k given own acting arrived b checked none singles typed formals over held t n i
                below
                process among formals_are over_is object there rest) (asking.within facts m c p choice level x v entry k given own acting arrived b checked none
                singles typed formals over held t n i below process among formals_are over_is object there rest) x.line;
            world = world';
          })))
          (Ok (record c {
            activities = answering.activities facts m c p level acting own q entry ticket processes typed runs offers values words hold given_so
                kept (here + 1) ops below doing (asking.does facts m c p choice level x v entry k given own acting arrived b checked none singles typed formals
                over held t n i below process among formals_are over_is object there rest) (asking.within facts m c p choice level x v entry k given own acting
                arrived b checked none singles typed formals over held t n i below process among formals_are over_is object there rest) x.line;
            store =
                granted.new_store facts m c p level acting own q entry ticket processes typed runs offers values words hold given_so kept (here + 1) ops below
                doing (asking.does facts m c p choice level x v entry k given own acting arrived b checked none singles typed formals over held t n i below
                process among formals_are over_is object there rest) (asking.within facts m c p choice level x v entry k given own acting arrived b checked none
                singles typed formals over held t n i below process among formals_are over_is object there rest) x.line;
            table = granted.table facts m c p level
                acting own q entry ticket processes typed runs offers values words hold given_so kept (here + 1) ops below doing (asking.does facts m c p choice
                level x v entry k given own acting arrived b checked none singles typed formals over held t n i below process among formals_are over_is object
                there rest) (asking.within facts m c p choice level x v entry k given own acting arrived b checked none singles typed formals over held t n i
                below process among formals_are over_is object there rest) x.line;
          }))
      both =
          comes_then facts m c p level acting x.line (answering.activities facts m c p level acting own q entry ticket processes typed runs offers values words
          hold given_so kept (here + 1) ops below doing (asking.does facts m c p choice level x v entry k given own acting arrived b checked none singles
          typed formals over held t n i below process among formals_are over_is object there rest) (asking.within facts m c p choice level x v entry k
          given own acting arrived b checked none singles typed formals over held t n i below process among formals_are over_is object there rest) x.line)
          (answering.descriptors facts m c p level acting own q entry ticket processes typed runs offers values words hold given_so kept (here + 1) ops
          below doing (asking.does facts m c p choice level x v entry k given own acting arrived b checked none singles typed formals over held t n i below
          process among formals_are over_is object there rest) (asking.within facts m c p choice level x v entry k given own acting arrived b checked none
          singles typed formals over held t n i below process among formals_are over_is object there rest) x.line) (granted.new_store facts m c p level
          acting own q entry ticket processes typed runs offers values words hold given_so kept (here + 1) ops below doing (asking.does facts m c p choice
          level x v entry k given own acting arrived b checked none singles typed formals over held t n i below process among formals_are over_is object
          there rest) (asking.within facts m c p choice level x v entry k given own acting arrived b checked none singles typed formals over held t n i
          below process among formals_are over_is object there rest) x.line) (granted.stacks' facts m c p level acting own q entry ticket processes typed
          runs offers values words hold given_so kept (here + 1) ops below doing (asking.does facts m c p choice level x v entry k given own acting arrived
          b checked none singles typed formals over held t n i below process among formals_are over_is object there rest) (asking.within facts m c p choice
          level x v entry k given own acting arrived b checked none singles typed formals over held t n i below process among formals_are over_is object
          there rest) x.line)
          (granted.table facts m c p level acting own q entry ticket processes typed runs offers values words hold given_so kept (here + 1) ops below doing
          (asking.does facts m c p choice level x v entry k given own acting arrived b checked none singles typed formals over held t n i below process
          among formals_are over_is object there rest) (asking.within facts m c p choice level x v entry k given own acting arrived b checked none singles
          typed formals over held t n i below process among formals_are over_is object there rest) x.line) (grants_behind facts m c p level acting own q
          entry ticket processes typed runs offers values words hold given_so kept (here + 1) ops below doing (asking.does facts m c p choice level x v
          entry k given own acting arrived b checked none singles typed formals over held t n i below process among formals_are over_is object there rest)
          (asking.within facts m c p choice level x v entry k given own acting arrived b checked none singles typed formals over held t n i below process
          among formals_are over_is object there rest) x.line) world' refl

      with_accept : ComeToSame facts m c p x.line (silent (Ok (called_into (Some kept_one) z p q waits)))
          (Ok (text.called_into g waits_text p q values side (to_accept a)))
      with_accept =
          subst
          (λ (s : Stacks). ComeToSame facts m c p x.line
          (silent (Ok (record m {
            stacks = s;
            descriptors = answering.descriptors facts m c p level acting own q entry ticket processes typed runs offers
                values words hold given_so kept (here + 1) ops below doing (asking.does facts m c p choice level x v entry k given own acting arrived b checked
                none singles typed formals over held t n i below process among formals_are over_is object there rest) (asking.within facts m c p choice level x
                v
                entry k given own acting arrived b checked none singles typed formals over held t n i below process among formals_are over_is object there rest)
                x.line;
            world = world';
          })))
          (Ok (text.called_into g waits_text p q values side (to_accept a)))) (sym stacks_are)
          (subst
          (λ (s : Store). ComeToSame facts m c p x.line
          (silent (Ok (record m {
            stacks = granted.stacks' facts m c p level acting own q entry ticket processes typed runs offers values words hold given_so
                kept (here + 1) ops below doing (asking.does facts m c p choice level x v entry k given own acting arrived b checked none singles typed formals
                over held t n i below process among formals_are over_is object there rest) (asking.within facts m c p choice level x v entry k given own acting
                arrived b checked none singles typed formals over held t n i below process among formals_are over_is object there rest) x.line;
            descriptors =
                answering.descriptors facts m c p level acting own q entry ticket processes typed runs offers values words hold given_so kept (here + 1) ops
                below doing (asking.does facts m c p choice level x v entry k given own acting arrived b checked none singles typed formals over held t n i
                below
                process among formals_are over_is object there rest) (asking.within facts m c p choice level x v entry k given own acting arrived b checked none
                singles typed formals over held t n i below process among formals_are over_is object there rest) x.line;
            world = world';
          })))
          (Ok (record c {
            activities = answering.activities facts m c p level acting own q entry ticket processes typed runs offers values words hold given_so
                kept (here + 1) ops below doing (asking.does facts m c p choice level x v entry k given own acting arrived b checked none singles typed formals
                over held t n i below process among formals_are over_is object there rest) (asking.within facts m c p choice level x v entry k given own acting
                arrived b checked none singles typed formals over held t n i below process among formals_are over_is object there rest) x.line;
            store = s;
            table
                = granted.table facts m c p level acting own q entry ticket processes typed runs offers values words hold given_so kept (here + 1) ops below
                doing (asking.does facts m c p choice level x v entry k given own acting arrived b checked none singles typed formals over held t n i below
                process among formals_are over_is object there rest) (asking.within facts m c p choice level x v entry k given own acting arrived b checked none
                singles typed formals over held t n i below process among formals_are over_is object there rest) x.line;
          }))) (sym store_is) both)

      same : ComeToSame facts m c p x.line (silent (asking.machine_by facts m c p choice level x v entry k given own acting arrived b checked none singles
          typed formals over held t n i below process among formals_are over_is object there rest false true q world)) (asking.source_by facts m c p choice
          level x v entry k given own acting arrived b checked none singles typed formals over held t n i below process among formals_are over_is object there
          rest false true)
      same =
          subst
          (λ (o : Option KeptAlternative). ComeToSame facts m c p x.line (silent (Ok (called_into o z p q waits))) (asking.source_by facts m c p choice level x
          v entry k given own acting arrived b checked none singles typed formals over held t n i below process among formals_are over_is object there rest
          false true))
          (sym (finding.in_machine facts m c p level acting own q (Entered entry) ticket))
          (subst
          (λ (s : Option Side). ComeToSame facts m c p x.line (silent (Ok (called_into (Some kept_one) z p q waits)))
          (Ok (text.called_at g waits_text p q values s))) (sym (finding.in_text facts m c p level acting own q (Entered entry) ticket))
          (subst
          (λ (y : Offer). ComeToSame facts m c p x.line (silent (Ok (called_into (Some kept_one) z p q waits)))
          (Ok (text.called_into g waits_text p q values side y))) (sym (waiting.accept_there facts m c p level acting own q entry ticket processes typed runs
          offers).1) with_accept))

      -- ### It may

      z_is : z ≡ layout_cells g.state.forms (laid_parameters (entry_formals g q a.entry))
      z_is =
          laid_cells level.setting.program.state.forms formals (laid_parameters formals) (asking.laid facts m c p choice level x v entry k given own acting
          arrived b checked none singles typed formals over held t n i below process among formals_are over_is object)
          ∙ ap (λ (y : Program). layout_cells y.state.forms (laid_parameters formals)) (has_setting facts m c p level acting).image.program
          ∙ ap (λ (fs : List Formal). layout_cells g.state.forms (laid_parameters fs)) (sym formals_q)

      live : AreLive m.stacks (parameter_cell q cell) z
      live = subst (λ j. AreLive m.stacks (parameter_cell q cell) j) (sym z_is) (live_cells.live facts m c acting.homes acting.entries acting.alike q
          (waiting.its_level facts m c p level acting own q entry ticket processes typed runs offers) (waiting.shows facts m c p level acting own q entry
          ticket processes typed runs offers).under_way.stands (waiting.shows facts m c p level acting own q entry ticket processes typed runs
          offers).offers.own (waiting.inside facts m c p level acting own q entry ticket processes typed runs offers) processes (waiting.b facts m c p level
          acting own q entry ticket processes typed runs offers) (waiting.x facts m c p level acting own q entry ticket processes typed runs offers)
          (waiting.shows facts m c p level acting own q entry ticket processes typed runs offers).offers.checked a (waiting.accepts facts m c p level acting
          own q entry ticket processes typed runs offers) typed runs (waiting.of_block facts m c p level acting own q entry ticket processes typed runs offers))

      gone_cells : cells_of gone q ≡ cells_of m.stacks q
      gone_cells = changed_cells m.stacks p (λ (s : Stack). record s { at = here + 1; operands = ops }) (λ s. refl) p_there q

      gone_size : length gone ≡ length m.stacks
      gone_size = length-set m.stacks p (record (stack_of m.stacks p) { at = here + 1; operands = ops })

      abbrev dq : Descriptor
      dq = descriptor_of m.descriptors q

      callers_inside : (j r : ℕ) → slice_get dq.communications.callers j ≡ Some r → r < process_count facts
      callers_inside j r found =
          subst (λ y. r < y) (acting.alike.words.rows ∙ acting.alike.words.processes)
          (within_rows c.table.rows r
          (λ idle. idle_unmet (subst (λ s. is_met_by s q) (ap (λ y. at c.table.rows y) (found_at dq.communications.callers j r 0 found).1 ∙ idle)
          ((waiting.shows facts m c p level acting own q entry ticket processes typed runs offers).under_way.stands.met.waiting j 0 (found_at
          dq.communications.callers j r 0 found).0))))
        where
          idle_unmet : is_met_by Is_idle q → ⊥
          idle_unmet none_there = none_there

      owner_apart : (j : ℕ) → slice_get dq.communications.callers j ≡ Some q → ⊥
      owner_apart j found =
          granted.awake_q facts m c p level acting own q entry ticket processes typed runs offers values words hold given_so kept (here + 1) ops below doing
          (asking.does facts m c p choice level x v entry k given own acting arrived b checked none singles typed formals over held t n i below process
          among formals_are over_is object there rest) (asking.within facts m c p choice level x v entry k given own acting arrived b checked none singles
          typed formals over held t n i below process among formals_are over_is object there rest) x.line q
          (subst (λ y. is_met_by (at c.table.rows y) q) (found_at dq.communications.callers j q 0 found).1
          ((waiting.shows facts m c p level acting own q entry ticket processes typed runs offers).under_way.stands.met.waiting j 0 (found_at
          dq.communications.callers j q 0 found).0))

      can_meet : (d : ℕ) → d ≡ cell → CanMeet (left_by m p 0) q d z p
      can_meet d is =
          record {
            descriptor = subst (λ y. q < y) (sym acting.alike.words.descriptors) (waiting.inside facts m c p level acting own q entry ticket processes typed
                runs offers);
            room =
                less (length dq.communications.callers) (process_count facts) dq.communications.room.meetings
                (are_fewer (process_count facts) q dq.communications.callers (waiting.shows facts m c p level acting own q entry ticket processes typed runs
                offers).under_way.stands.met.once callers_inside
                (subst (λ y. q < y) acting.alike.words.processes (waiting.inside facts m c p level acting own q entry ticket processes typed runs offers))
                owner_apart) (waiting.may_meet facts m c p level acting own q entry ticket processes typed runs offers);
            stack = subst (λ y. p < y) (sym gone_size) p_there;
            held = subst (λ (os : List ℤ). z ≤ length os) (sym gone_operands) (enough z (length ops) (asking.held_enough facts m c p choice level x v entry k
                given own acting arrived b checked none singles typed formals over held t n i below process among formals_are over_is object));
            live =
                subst (λ y. 8 + y + z ≤ length (cells_of gone q)) (sym is)
                (subst (λ (cs : List ℤ). 8 + cell + z ≤ length cs) (sym gone_cells) live);
            cell = subst (λ y. 8 + y < 2 ^ 32) (sym is) (small cell z (length (cells_of m.stacks q)) live (acting.alike.holds.few.cells q));
          }
        where
          less : (y j r : ℕ) → y < j → j ≤ r → y < r
          less y j r one two = grind (arith, one, two)

          enough : (y j : ℕ) → y + 1 ≤ j → y ≤ j
          enough y j one = grind (arith, one)

          small : (d y j : ℕ) → 8 + d + y ≤ j → j < 2 ^ 32 → 8 + d < 2 ^ 32
          small d y j one two = omega (arith, one, two)

      can : CanBeCalled (left_by m p 0) q entry z p
      can =
          record {
            descriptor = subst (λ y. q < y) (sym acting.alike.words.descriptors) (waiting.inside facts m c p level acting own q entry ticket processes typed
                runs offers);
            offered = finding.is_offering facts m c p level acting own q (Entered entry) ticket;
            meets =
                subst (λ (o : Option KeptAlternative). IfSome o (λ (y : KeptAlternative). CanMeet (left_by m p 0) q (cell_of y.alternative.offer) z p))
                (sym (finding.in_machine facts m c p level acting own q (Entered entry) ticket))
                (can_meet (cell_of kept_one.alternative.offer) (ap (λ (y : Alternative). cell_of y.offer) (waiting.alternative_is facts m c p level acting own
                q entry ticket processes typed runs offers)));
          }

    module _ (there : IsAt level.setting here (ECALL entry z) x.line) (rest : Performs level.setting b x.env (here + 1) below [] k) where
      pub called_kept : IsKept facts m c p choice (calls x (to_entry v entry k) given)
      called_kept =
          call_kept facts m c p choice level x v entry k given own acting arrived b checked none singles typed formals over held t n i below process among
          formals_are over_is object there rest (record { same = λ is. same there rest is; can = λ is. can there rest is })

-- ## As an action

pub entry_call_kept : (facts : Facts) (m : Machine) (c : Config) (p choice : ℕ) (level : LivingLevel) (x : Context) (v : Spot) (entry : ℕ) (k : Remainder)
    (given : List Argument) → HasProcesses facts.tree → HasTypedEntries facts.tree → HasSingles facts c → KeepsAccepts facts c → KeepsOffers facts c
    → IsActing facts m c p level → HasArrived facts m c p level (calls x (to_entry v entry k) given)
    → IsKept facts m c p choice (calls x (to_entry v entry k) given)
entry_call_kept facts m c p choice level x v entry k given processes typed singles runs offers acting arrived =
    let (b, checked, (formals, over, held, (alone, (t, n, i, below, process, among, formals_are, over_is, object, there, rest)), lends)) = arrived.arrived in
    called_kept facts m c p choice level x v entry k given alone.0 acting arrived b checked alone.1 singles typed processes runs offers formals over held t n i
    below process among formals_are over_is object there rest
