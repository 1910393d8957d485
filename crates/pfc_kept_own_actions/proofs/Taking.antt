-- Input: items for variables, and the skip of a `readln`.
use Rattle.std.proofs.Common.{◌≡◌, ℕ, suc, ◌+◌, ◌-◌, ◌<◌, ◌≤◌, ℤ, false, List, [], ◌∷◌, length, drop, Option, Some, Result, Ok, Err, refl, sym, ap, ◌∙◌, subst}
use Rattle.std.proofs.Common.{arith}
use Rattle.std.proofs.lemmas.List.{append-nil, length-set}
use Rattle.rand_pcg.specs.Lcg.{Lcg}
use Rattle.pfc_base.specs.declared.faults.RunFault.{RunFault}
use Rattle.pfc_code.specs.declared.instructions.Instr.{Instr}
use Rattle.pfc_code.specs.declared.instructions.Instr.TheVariants.{RDI, RDC, RDNL}
use Rattle.pfc_image_laws.specs.Operands.{is_end}
use Rattle.pfc_types.specs.Types.{cells_in}
use Rattle.pfc_types.specs.declared.types.TypeId.{TypeId}
use Rattle.pfc_values.specs.declared.simple.Simple.{Simple}
use Rattle.pfc_values.specs.declared.simple.Simple.TheVariants.{Integer, Boolean, Char}
use Rattle.pfc_values.specs.Inputs.{Left as InputLeft, Item, item, skipped}
use Rattle.pfc_semantics.specs.Values.{Location, ordinal}
use Rattle.pfc_semantics.specs.Displays.{Spot, Display, located}
use Rattle.pfc_semantics.specs.Operators.{simple_of}
use Rattle.pfc_semantics.specs.Programs.{Block, Program}
use Rattle.pfc_semantics.specs.Store.{stored}
use Rattle.pfc_semantics.specs.Remainders.{Context, Remainder, inputs, skips}
use Rattle.pfc_semantics.specs.Rewriting.{going}
use Rattle.pfc_semantics.specs.Configurations.{Config, activity_of, doing_next, done_at}
use Rattle.pfc_semantics.specs.Steps.{read_in, skipped_in}
use Rattle.pfc_translation.specs.Calls.{read_instr}
use Rattle.pfc_stacks.specs.declared.refs.Ref.{Ref}
use Rattle.pfc_stacks.specs.Conditions.{AreLive}
use Rattle.pfc_stacks.specs.Refs.{ref_of, word_of}
use Rattle.pfc_stacks.specs.Stacks.{Stacks, stack_of, operand, operands_of, last_activation, with_words, written}
use Rattle.pfc_stacks.specs.Effects.{moved, passed}
use Rattle.pfc_cells.specs.Homes.{Lies}
use Rattle.pfc_cells.specs.Memory.{MemoryIs, Lives}
use Rattle.pfc_cells.proofs.Reading.{are_live}
use Rattle.pfc_machines.specs.declared.machine.Machine.{Machine}
use Rattle.pfc_machines.specs.Actions.{at_rest}
use Rattle.pfc_machine_acts.specs.Acting.{acted}
use Rattle.pfc_machine_acts.specs.Performing.{silent}
use Rattle.pfc_own_actions.specs.Doing.{read_to, skipped_to}
use Rattle.pfc_standing_code.specs.Shapes.{is_number}
use Rattle.pfc_standing_code.specs.Settings.{of_own, site_of, IsAt}
use Rattle.pfc_standing_code.specs.Effects.{Arm}
use Rattle.pfc_standing_code.specs.Words.{IsChecked, IsSimpleWord}
use Rattle.pfc_standing_code.specs.Performs.{Performs}
use Rattle.pfc_standing_code.proofs.Checked.{checked_for}
use Rattle.pfc_stack_laws.specs.Standing.{HoldStore}
use Rattle.pfc_stack_laws.proofs.Moves.{hold_moved, hold_written}
use Rattle.pfc_stack_laws.proofs.Objects.{address_back}
use Rattle.pfc_views.specs.Views.{AreObjects}
use Rattle.pfc_views.proofs.Changes as changes
use Rattle.pfc_views.proofs.Named.{lies_in_view}
use Rattle.pfc_representation.specs.Levels.{Facts, program_in, LivingLevel}
use Rattle.pfc_representation.specs.Machines.{Represents, goes_on}
use Rattle.pfc_representation.specs.Acting.{IsActing, HasArrived}
use Rattle.pfc_representation.specs.Actions.{ComeToSame, IsKept, AreKept}
use Rattle.pfc_kept_own_actions.specs.Groups.{IsTaken}
use Rattle.pfc_kept_own_actions.proofs.Steps.{IsOwnStep, represents_then}
use Rattle.pfc_kept_own_actions.proofs.Arrived.{has_setting, stack_there, code_there, code_line, acts_now, hold_store, untried, at_hand, displayed, next_within}
use Rattle.pfc_kept_own_actions.proofs.Alone.{does_on, moved_step, refuse, can_go}
use Rattle.pfc_kept_own_actions.proofs.Writing.{cells_alone, moved_alike}

-- where the variable lies whose address is on top
pub record IsTarget (facts : Facts) (m : Machine) (c : Config) (p : ℕ) (level : LivingLevel) (acting : IsActing facts m c p level) (l : Location) (t : TypeId)
    (w : ℤ) : Type 0 where
  pub place : Ref
  pub lies : Lies level.setting.program acting.homes l (Some t) place
  pub lives : Lives acting.entries l.activation
  pub address : ref_of w ≡ place
  pub live : AreLive m.stacks place 1

module _ (facts : Facts) (m : Machine) (c : Config) (p : ℕ) (level : LivingLevel) (own : level.setting.trial ≡ of_own)
    (acting : IsActing facts m c p level) where
  target_in_view : (b : Block) (x : Context) (v : Spot) (w : ℤ) → IsChecked level.setting b x.env
      → (is : IsSimpleWord level.setting.view (site_of level.setting b x) v w)
      → IsTarget facts m c p level acting (located c.store (activity_of (program_in facts) c p).display v) is.0 w
  target_in_view b x v w checked is =
      let g = level.setting in
      let hold : HoldStore g acting.homes acting.entries c.store m.stacks = hold_store facts m c p level acting in
      let hand = at_hand facts m c p level acting own b checked.beside in
      let there = lies_in_view g.program hold.types.counted acting.homes acting.entries c.store hand.keeps hand.display b g.accepts
      (word_of (last_activation m.stacks p)) hand.chain g.view m.stacks hold.memory hand.sees x.env x.line v (Some is.0) w checked.known is.2 in
      let l : Location = located c.store hand.display v in
      let lives : Lives acting.entries l.activation = hand.sees.live l.activation there.kept in
      let cells : AreLive m.stacks there.place
      (cells_in g.program.state.forms is.0) = are_live g.program hold.types.counted acting.homes acting.entries c.store m.stacks l
      (Some is.0) there.place hold.memory lives there.lies in
      subst (λ (d : Display). IsTarget facts m c p level acting (located c.store d v) is.0 w) (displayed facts m c p level acting own b checked.beside)
      (record {
        place = there.place;
        lies = there.lies;
        lives = lives;
        address = ap ref_of there.word ∙ address_back g acting.homes acting.entries c.store m.stacks hold l (Some is.0) there.place lives there.lies;
        live = subst (λ n. AreLive m.stacks there.place n) (hold.types.sound.simple_cells is.0 is.1) cells;
      })

-- ## An item

module _ (facts : Facts) (m : Machine) (c : Config) (p choice : ℕ) (level : LivingLevel) (x : Context) (t : Option TypeId) (v : Spot) (k : Remainder)
    (own : level.setting.trial ≡ of_own)
    (acting : IsActing facts m c p level) (arrived : HasArrived facts m c p level (inputs x t v k)) (b : Block) (checked : IsChecked level.setting b x.env)
    (w : ℤ) (below : List ℤ) (is : operands_of m.stacks p ≡ w ∷ below) (word : IsSimpleWord level.setting.view (site_of level.setting b x) v w)
    (behind : Performs level.setting b x.env ((stack_of m.stacks p).at + 1) below level.arms k) where
  abbrev here : ℕ
  here = (stack_of m.stacks p).at

  abbrev ops : List ℤ
  ops = operands_of m.stacks p

  abbrev variable : Location
  variable = located c.store (activity_of (program_in facts) c p).display v

  target : IsTarget facts m c p level acting variable word.0 w
  target = target_in_view facts m c p level own acting b x v w checked word

  some_held : 1 ≤ length ops
  some_held = subst (λ (xs : List ℤ). 1 ≤ length xs) (sym is) (more (length below))
    where
      more : (n : ℕ) → 1 ≤ suc n
      more n = grind arith

  fits : length below ≤ level.setting.room
  fits = by (ap (λ (xs : List ℤ). length xs) is) arrived.room
    where
      by : length ops ≡ suc (length below) → length ops ≤ level.setting.room → length below ≤ level.setting.room
      by count few = grind (arith, count, few)

  module _ (n : ℤ) where
    abbrev cells : Stacks
    cells = written m.stacks target.place (n ∷ [])

    abbrev stacks : Stacks
    stacks = moved cells p (here + 1) below

    abbrev changed : List ℤ
    changed = with_words (stack_of m.stacks target.place.process).cells target.place.cell (n ∷ [])

    size : length cells ≡ length m.stacks
    size = length-set m.stacks target.place.process (record (stack_of m.stacks target.place.process) { cells = changed })

    held : HoldStore level.setting acting.homes acting.entries (stored c.store variable (ordinal n)) stacks
    held =
        hold_moved level.setting acting.homes acting.entries (stored c.store variable (ordinal n)) cells p (here + 1) below
        (subst (λ j. p < j) (sym size) (stack_there facts m c p level acting))
        (hold_written level.setting acting.homes acting.entries c.store m.stacks (hold_store facts m c p level acting) variable word.0 target.place
        (ordinal n) target.lives target.lies (is_number word.0 n word.1))

    item_step : (i : Instr) → IsAt level.setting here i x.line → is_end i ≡ false
        → IsOwnStep facts m c p level acting (here + 1) below stacks (stored c.store variable (ordinal n)) (going x.env k)
    item_step i there no_end =
        let has = has_setting facts m c p level acting in
        let is_there : p < length m.stacks = stack_there facts m c p level acting in
        let lies : Lies (program_in facts) acting.homes variable (Some word.0) target.place = subst
        (λ (g : Program). Lies g acting.homes variable (Some word.0) target.place) has.image.program target.lies in
        record {
          size = length-set cells p (record (stack_of cells p) { at = here + 1; operands = below }) ∙ size;
          same = λ q. moved_alike m.stacks cells p (here + 1) below q is_there (subst (λ j. p < j) (sym size) is_there)
              (cells_alone m.stacks target.place.process q changed);
          like = λ keeps. changes.written (program_in facts) keeps acting.homes acting.entries c.store variable (Some word.0) target.place (ordinal n) lies;
          memory = subst (λ (g : Program). MemoryIs g acting.homes acting.entries (stored c.store variable (ordinal n)) stacks) has.image.program held.memory;
          few = held.few;
          objects = subst (λ (f : ℤ → Option ℤ). AreObjects (program_in facts) acting.homes acting.entries (stored c.store variable (ordinal n)) f) has.number
              (subst (λ (g : Program). AreObjects g acting.homes acting.entries (stored c.store variable (ordinal n)) level.setting.number) has.image.program
              held.objects);
          does = does_on level b (here + 1) below (going x.env k) checked.beside arrived.arms (fits, (checked_for level.setting b x.env k checked, behind));
          within = next_within facts m c p level acting own i x.line there no_end arrived.within;
          untried = untried facts m c p level acting own;
        }

    passed_is : passed (written m.stacks (ref_of (operand ops 0)) (n ∷ [])) p (drop 1 ops) ≡ stacks
    passed_is =
        ap (λ (xs : List ℤ). passed (written m.stacks (ref_of (operand xs 0)) (n ∷ [])) p (drop 1 xs)) is
        ∙ ap (λ (r : Ref). passed (written m.stacks r (n ∷ [])) p below) target.address
        ∙ ap (λ j. moved cells p (j + 1) below) (cells_alone m.stacks target.place.process p changed).at

  item_comes : (i : Instr) → IsAt level.setting here i x.line → is_end i ≡ false → (r : Result Item RunFault)
      → ComeToSame facts m c p x.line (silent (read_to m p r)) (read_in (program_in facts) c p x v k r)
  item_comes i there no_end (Err f) = refuse facts m c p level acting x.line f
  item_comes i there no_end (Ok one) =
      let alike = acting.alike.words in
      let after : Config = done_at (program_in facts)
      (doing_next (program_in facts) (record c { store = stored c.store variable (ordinal one.value); input = record c.input { bytes = one.left } }) p
      (going x.env k)) p x.line in
      let both = represents_then facts m c p level acting (here + 1) below (stacks one.value) (stored c.store variable (ordinal one.value)) (going x.env k)
      (item_step one.value i there no_end) (record c.input { bytes = one.left }) c.words c.output m.in_line x.line alike.in_line in
      let drawn : Represents facts (acted x.line p (at_rest (record m { stacks = stacks one.value; input = record c.input { bytes = one.left } }))) after =
      subst (λ (l : Lcg). Represents facts
      (acted x.line p (at_rest (record m { stacks = stacks one.value; input = record c.input { bytes = one.left }; draws = l }))) after)
      (sym alike.draws) both in
      let all : Represents facts (acted x.line p (at_rest (record m { stacks = stacks one.value; input = record m.input { bytes = one.left } }))) after =
      subst (λ (j : InputLeft). Represents facts
      (acted x.line p (at_rest (record m { stacks = stacks one.value; input = record j { bytes = one.left } }))) after) (sym alike.input) drawn in (
        goes_on (subst (λ (s : Stacks). Represents facts
            (acted x.line p (at_rest (record m { stacks = s; input = record m.input { bytes = one.left } }))) after) (sym (passed_is one.value)) all),
        sym (append-nil c.output),
      )

  live_there : AreLive m.stacks (ref_of (operand ops 0)) 1
  live_there = subst (λ (xs : List ℤ). AreLive m.stacks (ref_of (operand xs 0)) 1) (sym is)
      (subst (λ (r : Ref). AreLive m.stacks r 1) (sym target.address) target.live)

  no_more : (j n : ℕ) → 0 - 1 ≤ j - n
  no_more j n = grind arith

  char_kept : (s : Simple) → simple_of t ≡ s → ((bytes : List ℕ) → item Char bytes ≡ item s bytes) → IsAt level.setting here RDC x.line
      → IsKept facts m c p choice (inputs x t v k)
  char_kept s type same_item there = record {
    instr = RDC;
    is = code_there facts m c p level acting here RDC x.line there;
    can_step = record {
      stack = stack_there facts m c p level acting;
      performed = record { held = some_held; room = no_more (stack_of m.stacks p).room (length ops); reach = tt };
      goes = λ out. can_go facts m c p level acting RDC x.line there refl some_held arrived.within;
    };
    no_move = tt;
    can_do = record { acting = acts_now facts m c p level acting RDC x.line there; can = record { some = some_held; live = live_there } };
    line = code_line facts m c p level acting here RDC x.line there;
    choices = refl;
    same =
        subst (λ (y : Simple). ComeToSame facts m c p x.line (silent (read_to m p (item Char m.input.bytes)))
        (read_in (program_in facts) c p x v k (item y c.input.bytes))) (sym type)
        (subst (λ (r : Result Item RunFault). ComeToSame facts m c p x.line (silent (read_to m p (item Char m.input.bytes)))
        (read_in (program_in facts) c p x v k r)) (same_item c.input.bytes)
        (subst (λ (j : InputLeft). ComeToSame facts m c p x.line (silent (read_to m p (item Char j.bytes)))
        (read_in (program_in facts) c p x v k (item Char c.input.bytes))) (sym acting.alike.words.input)
        (item_comes RDC there refl (item Char c.input.bytes))));
  }

  -- by the type of the variable; a boolean is never read
  item_kept : (s : Simple) → simple_of t ≡ s → IsAt level.setting here (read_instr s) x.line → IsKept facts m c p choice (inputs x t v k)
  item_kept Integer type there = record {
    instr = RDI;
    is = code_there facts m c p level acting here RDI x.line there;
    can_step = record {
      stack = stack_there facts m c p level acting;
      performed = record { held = some_held; room = no_more (stack_of m.stacks p).room (length ops); reach = tt };
      goes = λ out. can_go facts m c p level acting RDI x.line there refl some_held arrived.within;
    };
    no_move = tt;
    can_do = record { acting = acts_now facts m c p level acting RDI x.line there; can = record { some = some_held; live = live_there } };
    line = code_line facts m c p level acting here RDI x.line there;
    choices = refl;
    same =
        subst (λ (y : Simple). ComeToSame facts m c p x.line (silent (read_to m p (item Integer m.input.bytes)))
        (read_in (program_in facts) c p x v k (item y c.input.bytes))) (sym type)
        (subst (λ (j : InputLeft). ComeToSame facts m c p x.line (silent (read_to m p (item Integer j.bytes)))
        (read_in (program_in facts) c p x v k (item Integer c.input.bytes))) (sym acting.alike.words.input)
        (item_comes RDI there refl (item Integer c.input.bytes)));
  }
  item_kept Boolean type there = char_kept Boolean type (λ bytes. refl) there
  item_kept Char type there = char_kept Char type (λ bytes. refl) there

-- ## A skip

module _ (facts : Facts) (m : Machine) (c : Config) (p choice : ℕ) (level : LivingLevel) (x : Context) (k : Remainder) (own : level.setting.trial ≡ of_own)
    (acting : IsActing facts m c p level) (arrived : HasArrived facts m c p level (skips x k)) (b : Block) (checked : IsChecked level.setting b x.env)
    (there : IsAt level.setting (stack_of m.stacks p).at RDNL x.line)
    (behind : Performs level.setting b x.env ((stack_of m.stacks p).at + 1) (operands_of m.stacks p) level.arms k) where
  abbrev at_skip : ℕ
  at_skip = (stack_of m.stacks p).at

  abbrev held_there : List ℤ
  held_there = operands_of m.stacks p

  skip_step : IsOwnStep facts m c p level acting (at_skip + 1) held_there (moved m.stacks p (at_skip + 1) held_there) c.store (going x.env k)
  skip_step =
      moved_step facts m c p level acting own b (at_skip + 1) held_there (going x.env k) checked.beside arrived.arms
      (arrived.room, (checked_for level.setting b x.env k checked, behind)) (next_within facts m c p level acting own RDNL x.line there refl arrived.within)

  skip_comes : (r : Result (List ℕ) RunFault) → ComeToSame facts m c p x.line (silent (skipped_to m p r)) (skipped_in (program_in facts) c p x k r)
  skip_comes (Err f) = refuse facts m c p level acting x.line f
  skip_comes (Ok left) =
      let alike = acting.alike.words in
      let stacks : Stacks = moved m.stacks p (at_skip + 1) held_there in
      let after : Config = done_at (program_in facts)
      (doing_next (program_in facts) (record c { input = record c.input { bytes = left } }) p (going x.env k)) p x.line in
      let both = represents_then facts m c p level acting (at_skip + 1) held_there stacks c.store (going x.env k) skip_step
      (record c.input { bytes = left }) c.words c.output m.in_line x.line alike.in_line in
      let drawn : Represents facts (acted x.line p (at_rest (record m { stacks = stacks; input = record c.input { bytes = left } }))) after =
      subst (λ (l : Lcg). Represents facts (acted x.line p (at_rest (record m { stacks = stacks; input = record c.input { bytes = left }; draws = l }))) after)
      (sym alike.draws) both in (
        goes_on (subst (λ (j : InputLeft). Represents facts (acted x.line p (at_rest (record m { stacks = stacks; input = record j { bytes = left } }))) after)
            (sym alike.input) drawn),
        sym (append-nil c.output),
      )

  skip_kept : IsKept facts m c p choice (skips x k)
  skip_kept = record {
    instr = RDNL;
    is = code_there facts m c p level acting at_skip RDNL x.line there;
    can_step = record {
      stack = stack_there facts m c p level acting;
      performed = record { held = least (length held_there); room = none_more (stack_of m.stacks p).room (length held_there); reach = tt };
      goes = λ out. can_go facts m c p level acting RDNL x.line there refl (least (length held_there)) arrived.within;
    };
    no_move = tt;
    can_do = record { acting = acts_now facts m c p level acting RDNL x.line there; can = tt };
    line = code_line facts m c p level acting at_skip RDNL x.line there;
    choices = refl;
    same =
        subst (λ (j : InputLeft). ComeToSame facts m c p x.line (silent (skipped_to m p (skipped j.whole_lines j.bytes)))
        (skipped_in (program_in facts) c p x k (skipped c.input.whole_lines c.input.bytes))) (sym acting.alike.words.input)
        (skip_comes (skipped c.input.whole_lines c.input.bytes));
  }
    where
      least : (n : ℕ) → 0 ≤ n
      least n = grind arith

      none_more : (j n : ℕ) → 0 - 0 ≤ j - n
      none_more j n = grind arith

-- ## By kind

pub taken_kept : AreKept IsTaken
taken_kept facts m c p choice level (inputs x t v k) group acting arrived chosen =
    let (b, checked, ((own, none), (w, below, is, word, there, behind))) = arrived.arrived in
    item_kept facts m c p choice level x t v k own acting arrived b checked w below is word
    (subst (λ (arms : List Arm). Performs level.setting b x.env ((stack_of m.stacks p).at + 1) below arms k) (sym none) behind) (simple_of t) refl there
taken_kept facts m c p choice level (skips x k) group acting arrived chosen =
    let (b, checked, ((own, none), (there, behind))) = arrived.arrived in
    skip_kept facts m c p choice level x k own acting arrived b checked there
    (subst (λ (arms : List Arm). Performs level.setting b x.env ((stack_of m.stacks p).at + 1) (operands_of m.stacks p) arms k) (sym none) behind)
taken_kept facts m c p choice level n is acting arrived chosen = absurd is
