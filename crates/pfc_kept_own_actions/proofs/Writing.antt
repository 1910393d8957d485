-- Writes of variables.
use Rattle.std.proofs.Common.{◌≡◌, ◌≢◌, ℕ, zero, suc, ◌+◌, ◌<◌, ◌≤◌, ℤ, false, List, [], ◌∷◌, ◌++◌, length, set, reverse, get_or, Option, Some, refl, sym, ap}
use Rattle.std.proofs.Common.{◌∙◌, subst, arith, length-append, ◌⊎◌, inl, inr}
use Rattle.std.proofs.lemmas.List.{length-set, get_or-set_same, get_or-set_other}
use Rattle.pfc_code.specs.declared.instructions.Instr.{Instr}
use Rattle.pfc_code.specs.declared.instructions.Instr.TheVariants.{STORE, FORW}
use Rattle.pfc_types.specs.declared.types.TypeId.{TypeId}
use Rattle.pfc_semantics.specs.Values.{Value, Location, ordinal}
use Rattle.pfc_semantics.specs.Displays.{Spot, Display, located}
use Rattle.pfc_semantics.specs.Programs.{Block, Program}
use Rattle.pfc_semantics.specs.Store.{stored}
use Rattle.pfc_semantics.specs.Remainders.{Context, Remainder, writes}
use Rattle.pfc_semantics.specs.Rewriting.{going}
use Rattle.pfc_semantics.specs.Configurations.{Config, activity_of}
use Rattle.pfc_translation.specs.Images.{image_of}
use Rattle.pfc_stacks.specs.Refs.{word_of}
use Rattle.pfc_stacks.specs.Stacks.{Stack, Stacks, no_stack, stack_of, operands_of, last_activation, with_words, written}
use Rattle.pfc_stacks.specs.Effects as stacked
use Rattle.pfc_stacks.specs.Effects.{moved}
use Rattle.pfc_cells.specs.Homes.{Lies}
use Rattle.pfc_cells.specs.Shapes.{words_of}
use Rattle.pfc_cells.specs.Memory.{MemoryIs}
use Rattle.pfc_machines.specs.declared.machine.Machine.{Machine}
use Rattle.pfc_machines.specs.Quiet.{quiet_effect}
use Rattle.pfc_machine_acts.specs.Performing.{performs}
use Rattle.pfc_standing_code.specs.Shapes.{shape_of, shape_cells, IsOf}
use Rattle.pfc_standing_code.specs.Settings.{of_own, site_of, IsAt}
use Rattle.pfc_standing_code.specs.Effects.{Arm}
use Rattle.pfc_standing_code.specs.Words.{IsWord, IsSimpleWord, IsChecked}
use Rattle.pfc_standing_code.specs.Performs.{Performs}
use Rattle.pfc_standing_code.specs.Following.{IsWrite, of_value, of_kept}
use Rattle.pfc_standing_code.proofs.Checked.{checked_for}
use Rattle.pfc_stack_laws.specs.Instructions.{Writes}
use Rattle.pfc_stack_laws.proofs.Variables.{write, write_kept}
use Rattle.pfc_views.specs.Views.{AreObjects}
use Rattle.pfc_views.proofs.Changes as changes
use Rattle.pfc_representation.specs.Levels.{Facts, program_in, LivingLevel}
use Rattle.pfc_representation.specs.Keeping.{IsSameStack}
use Rattle.pfc_representation.specs.Acting.{IsActing, HasArrived}
use Rattle.pfc_representation.specs.Actions.{IsKept, AreKept}
use Rattle.pfc_image_laws.specs.Operands.{is_end}
use Rattle.pfc_kept_own_actions.specs.Groups.{IsWritten}
use Rattle.pfc_kept_own_actions.proofs.Steps.{IsOwnStep}
use Rattle.pfc_kept_own_actions.proofs.Arrived.{has_setting, stack_there, code_there, code_line, acts_now, hold_store, untried, stands_at, at_hand, displayed}
use Rattle.pfc_kept_own_actions.proofs.Arrived.{next_within}
use Rattle.pfc_kept_own_actions.proofs.Alone.{does_on, alone_comes}

-- ## Cells

-- only cells change
pub cells_alone : (stacks : Stacks) (i q : ℕ) (words : List ℤ)
    → IsSameStack (get_or stacks q no_stack) (get_or (set stacks i (record (get_or stacks i no_stack) { cells = words })) q no_stack)
cells_alone [] i q words = record { at = refl; base = refl; operands = refl; room = refl; spare = refl; looks_from = refl }
cells_alone (s ∷ stacks) zero zero words = record { at = refl; base = refl; operands = refl; room = refl; spare = refl; looks_from = refl }
cells_alone (s ∷ stacks) zero (suc q) words = record { at = refl; base = refl; operands = refl; room = refl; spare = refl; looks_from = refl }
cells_alone (s ∷ stacks) (suc i) zero words = record { at = refl; base = refl; operands = refl; room = refl; spare = refl; looks_from = refl }
cells_alone (s ∷ stacks) (suc i) (suc q) words = cells_alone stacks i q words

either : (q p : ℕ) → (q ≡ p) ⊎ (q ≢ p)
either q p = grind arith

pub moved_alike : (stacks stacks' : Stacks) (p to : ℕ) (left : List ℤ) (q : ℕ) → p < length stacks → p < length stacks'
    → IsSameStack (stack_of stacks q) (stack_of stacks' q)
    → IsSameStack (stack_of (moved stacks p to left) q) (stack_of (moved stacks' p to left) q)
moved_alike stacks stacks' p to left q there there' same = which (either q p)
  where
    one : stack_of (moved stacks p to left) p ≡ record (stack_of stacks p) { at = to; operands = left }
    one = get_or-set_same stacks p (record (stack_of stacks p) { at = to; operands = left }) no_stack there

    two : stack_of (moved stacks' p to left) p ≡ record (stack_of stacks' p) { at = to; operands = left }
    two = get_or-set_same stacks' p (record (stack_of stacks' p) { at = to; operands = left }) no_stack there'

    here : IsSameStack (stack_of stacks p) (stack_of stacks' p) → IsSameStack (stack_of (moved stacks p to left) p) (stack_of (moved stacks' p to left) p)
    here is = subst (λ (s : Stack). IsSameStack s (stack_of (moved stacks' p to left) p)) (sym one)
        (subst (λ (s : Stack). IsSameStack (record (stack_of stacks p) { at = to; operands = left }) s) (sym two)
        (record { at = refl; base = is.base; operands = refl; room = is.room; spare = is.spare; looks_from = is.looks_from }))

    which : (q ≡ p) ⊎ (q ≢ p) → IsSameStack (stack_of (moved stacks p to left) q) (stack_of (moved stacks' p to left) q)
    which (inl is) =
        subst (λ n. IsSameStack (stack_of (moved stacks p to left) n) (stack_of (moved stacks' p to left) n)) (sym is)
        (here (subst (λ n. IsSameStack (stack_of stacks n) (stack_of stacks' n)) is same))
    which (inr apart) =
        subst (λ (s : Stack). IsSameStack s (stack_of (moved stacks' p to left) q))
        (sym (get_or-set_other stacks p q (record (stack_of stacks p) { at = to; operands = left }) no_stack apart))
        (subst (λ (s : Stack). IsSameStack (stack_of stacks q) s)
        (sym (get_or-set_other stacks' p q (record (stack_of stacks' p) { at = to; operands = left }) no_stack apart)) same)

-- ## A write

module _ (facts : Facts) (m : Machine) (c : Config) (p choice : ℕ) (level : LivingLevel) (x : Context) (v : Spot) (new : Value) (k : Remainder)
    (own : level.setting.trial ≡ of_own)
    (acting : IsActing facts m c p level) (arrived : HasArrived facts m c p level (writes x v new k)) where
  abbrev here : ℕ
  here = (stack_of m.stacks p).at

  abbrev ops : List ℤ
  ops = operands_of m.stacks p

  abbrev place_of : Location
  place_of = located c.store (activity_of (program_in facts) c p).display v

  module _ (b : Block) (checked : IsChecked level.setting b x.env) (instr : Instr) (left : List ℤ) (t : TypeId) (there : IsAt level.setting here instr x.line)
      (given : Writes level.setting acting.homes acting.entries c.store (image_of facts.tree).blocks instr p m.stacks here left place_of t new)
      (few : length left ≤ level.setting.room) (behind : Performs level.setting b x.env (here + 1) left level.arms k) (no_end : is_end instr ≡ false) where
    abbrev cells : Stacks
    cells = written m.stacks given.place (words_of new)

    abbrev stacks : Stacks
    stacks = moved cells p (here + 1) left

    lies : Lies (program_in facts) acting.homes place_of (Some t) given.place
    lies = subst (λ (g : Program). Lies g acting.homes place_of (Some t) given.place) (has_setting facts m c p level acting).image.program given.lies

    size : length cells ≡ length m.stacks
    size =
        length-set m.stacks given.place.process
        (record (stack_of m.stacks given.place.process) { cells = with_words (stack_of m.stacks given.place.process).cells given.place.cell (words_of new) })

    step : IsOwnStep facts m c p level acting (here + 1) left stacks (stored c.store place_of new) (going x.env k)
    step =
        let has = has_setting facts m c p level acting in
        let is_there : p < length m.stacks = stack_there facts m c p level acting in
        record {
          size = length-set cells p (record (stack_of cells p) { at = here + 1; operands = left }) ∙ size;
          same = λ q. moved_alike m.stacks cells p (here + 1) left q is_there (subst (λ n. p < n) (sym size) is_there)
              (cells_alone m.stacks given.place.process q (with_words (stack_of m.stacks given.place.process).cells given.place.cell (words_of new)));
          like = λ keeps. changes.written (program_in facts) keeps acting.homes acting.entries c.store place_of (Some t) given.place new lies;
          memory = subst (λ (g : Program). MemoryIs g acting.homes acting.entries (stored c.store place_of new) stacks) has.image.program given.holds.memory;
          few = given.holds.few;
          objects = subst (λ (f : ℤ → Option ℤ). AreObjects (program_in facts) acting.homes acting.entries (stored c.store place_of new) f) has.number
              (subst (λ (g : Program). AreObjects g acting.homes acting.entries (stored c.store place_of new) level.setting.number) has.image.program
              given.holds.objects);
          does = does_on level b (here + 1) left (going x.env k) checked.beside arrived.arms (few, (checked_for level.setting b x.env k checked, behind));
          within = next_within facts m c p level acting own instr x.line there no_end arrived.within;
          untried = untried facts m c p level acting own;
        }

  outward_no : (e : stacked.Effect) (s : Stacks) → e ≡ stacked.acts s → e ≡ stacked.outward → ⊥
  outward_no e s is out = (let both : stacked.acts s ≡ stacked.outward = sym is ∙ out in cc)

  short_left : (front below : List ℤ) (w : ℤ) → ops ≡ front ++ w ∷ below → length below ≤ level.setting.room
  short_left front below w is =
      let count : length ops ≡ length front + suc (length below) = ap (λ (xs : List ℤ). length xs) is ∙ length-append front (w ∷ below) in
      let fits : length ops ≤ level.setting.room = arrived.room in
      grind (arith, count, fits)

  -- of a value from the operands
  module _ (b : Block) (checked : IsChecked level.setting b x.env) (t : TypeId) (w : ℤ) (below : List ℤ) (is : ops ≡ reverse (words_of new) ++ w ∷ below)
      (typed : IsOf level.setting.program.state.forms t new) (word : IsWord level.setting.view (site_of level.setting b x) v (Some t) w)
      (there : IsAt level.setting here (STORE (shape_cells level.setting.program.state.forms (shape_of t))) x.line)
      (behind : Performs level.setting b x.env (here + 1) below level.arms k) where
    abbrev instr : Instr
    instr = STORE (shape_cells level.setting.program.state.forms (shape_of t))

    fits : length below ≤ level.setting.room
    fits = short_left (reverse (words_of new)) below w is

    value_given : Writes level.setting acting.homes acting.entries c.store (image_of facts.tree).blocks instr p m.stacks here below place_of t new
    value_given =
        subst (λ (d : Display). Writes level.setting acting.homes acting.entries c.store (image_of facts.tree).blocks instr p m.stacks here below
        (located c.store d v) t new)
        (displayed facts m c p level acting own b checked.beside)
        (write level.setting acting.homes acting.entries c.store b (image_of facts.tree).blocks m.stacks p here (word_of (last_activation m.stacks p))
        (at_hand facts m c p level acting own b checked.beside) (hold_store facts m c p level acting) x v t w new below
        (stands_at facts m c p level acting own (reverse (words_of new) ++ w ∷ below) is) checked word typed)

    value_kept : IsKept facts m c p choice (writes x v new k)
    value_kept =
        let after : Stacks = stacks b checked instr below t there value_given fits behind refl in
        record {
          instr = instr;
          is = code_there facts m c p level acting here instr x.line there;
          can_step = record {
            stack = stack_there facts m c p level acting;
            performed = value_given.can;
            goes = λ out. absurd (outward_no (stacked.effect (image_of facts.tree).blocks instr p m.stacks) after value_given.effect out);
          };
          no_move = tt;
          can_do = record { acting = acts_now facts m c p level acting instr x.line there; can = tt };
          line = code_line facts m c p level acting here instr x.line there;
          choices = refl;
          same =
              alone_comes facts m c p level acting (stacked.effect (image_of facts.tree).blocks instr p m.stacks)
              (quiet_effect (image_of facts.tree).scans instr p m)
              (performs (image_of facts.tree) instr choice p m) (here + 1) below after (stored c.store place_of new) (going x.env k) x.line value_given.effect
              (step b checked instr below t there value_given fits behind refl);
        }

  -- of the value that a `for` keeps
  module _ (b : Block) (checked : IsChecked level.setting b x.env) (last kept w : ℤ) (below : List ℤ) (none : level.arms ≡ [])
      (is : ops ≡ last ∷ kept ∷ w ∷ below) (same_value : new ≡ ordinal kept)
      (word : IsSimpleWord level.setting.view (site_of level.setting b x) v w) (there : IsAt level.setting here FORW x.line)
      (behind : Performs level.setting b x.env (here + 1) ops [] k) where
    behind_arms : Performs level.setting b x.env (here + 1) ops level.arms k
    behind_arms = subst (λ (arms : List Arm). Performs level.setting b x.env (here + 1) ops arms k) (sym none) behind

    count_given : Writes level.setting acting.homes acting.entries c.store (image_of facts.tree).blocks FORW p m.stacks here ops place_of word.0 new
    count_given =
        subst (λ (value : Value). Writes level.setting acting.homes acting.entries c.store
        (image_of facts.tree).blocks FORW p m.stacks here ops place_of word.0 value) (sym same_value)
        (subst (λ (xs : List ℤ). Writes level.setting acting.homes acting.entries c.store (image_of facts.tree).blocks FORW p m.stacks here xs place_of word.0
        (ordinal kept)) (sym is)
        (subst (λ (d : Display). Writes level.setting acting.homes acting.entries c.store (image_of facts.tree).blocks FORW p m.stacks here
        (last ∷ kept ∷ w ∷ below) (located c.store d v) word.0 (ordinal kept))
        (displayed facts m c p level acting own b checked.beside)
        (write_kept level.setting acting.homes acting.entries c.store b (image_of facts.tree).blocks m.stacks p here (word_of (last_activation m.stacks p))
        (at_hand facts m c p level acting own b checked.beside) (hold_store facts m c p level acting) x v word.0 w last kept below
        (stands_at facts m c p level acting own (last ∷ kept ∷ w ∷ below) is) checked word.2 word.1)))

    count_kept : IsKept facts m c p choice (writes x v new k)
    count_kept =
        let after : Stacks = stacks b checked FORW ops word.0 there count_given arrived.room behind_arms refl in
        record {
          instr = FORW;
          is = code_there facts m c p level acting here FORW x.line there;
          can_step = record {
            stack = stack_there facts m c p level acting;
            performed = count_given.can;
            goes = λ out. absurd (outward_no (stacked.effect (image_of facts.tree).blocks FORW p m.stacks) after count_given.effect out);
          };
          no_move = tt;
          can_do = record { acting = acts_now facts m c p level acting FORW x.line there; can = tt };
          line = code_line facts m c p level acting here FORW x.line there;
          choices = refl;
          same =
              alone_comes facts m c p level acting (stacked.effect (image_of facts.tree).blocks FORW p m.stacks)
              (quiet_effect (image_of facts.tree).scans FORW p m)
              (performs (image_of facts.tree) FORW choice p m) (here + 1) ops after (stored c.store place_of new) (going x.env k) x.line count_given.effect
              (step b checked FORW ops word.0 there count_given arrived.room behind_arms refl);
        }

  write_kept_by : (b : Block) → IsChecked level.setting b x.env → IsWrite level.setting b x here ops level.arms v new k
      → IsKept facts m c p choice (writes x v new k)
  write_kept_by b checked (of_value t w below is typed word there behind) = value_kept b checked t w below is typed word there behind
  write_kept_by b checked
      (of_kept last kept w below none is same_value word there behind) = count_kept b checked last kept w below none is same_value word there behind

pub writes_kept : AreKept IsWritten
writes_kept facts m c p choice level (writes x v new k) is acting arrived chosen =
    let (b, checked, (own, by)) = arrived.arrived in write_kept_by facts m c p choice level x v new k own acting arrived b checked by
writes_kept facts m c p choice level n is acting arrived chosen = absurd is
