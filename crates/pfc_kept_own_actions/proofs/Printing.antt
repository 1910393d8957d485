-- Output pieces, and widths that are refused.
use Rattle.std.proofs.Common.{◌≡◌, ℕ, suc, ◌+◌, ◌-◌, ◌≤◌, min, ℤ, Bool, false, not, List, [], ◌∷◌, ◌++◌, length, drop, slice_get, Some, Result, Ok, refl, sym}
use Rattle.std.proofs.Common.{ap, ◌∙◌, subst, arith}
use Rattle.std.proofs.lemmas.List.{append-nil}
use Rattle.std.proofs.lemmas.Option.{slice_get_within, get_or_from_slice_get}
use Rattle.rand_pcg.specs.Lcg.{Lcg}
use Rattle.pfc_base.specs.declared.faults.RunFault.{RunFault}
use Rattle.pfc_code.specs.declared.instructions.Instr.{Instr}
use Rattle.pfc_code.specs.declared.instructions.Instr.TheVariants.{WRI, WRB, WRC, WRS, WRNL}
use Rattle.pfc_code.specs.Images.{PlainImage}
use Rattle.pfc_values.specs.declared.simple.Simple.{Simple}
use Rattle.pfc_values.specs.declared.simple.Simple.TheVariants.{Integer, Boolean, Char}
use Rattle.pfc_values.specs.Inputs.{Left as InputLeft, ends_lines}
use Rattle.pfc_values.specs.Pieces.{shown, padded, piece}
use Rattle.pfc_semantics.specs.Programs.{Block}
use Rattle.pfc_semantics.specs.Remainders.{Context, Remainder, prints}
use Rattle.pfc_semantics.specs.Rewriting.{going}
use Rattle.pfc_semantics.specs.Configurations.{Config, Effect, doing_next, goes_on as goes_on_with, done_at}
use Rattle.pfc_translation.specs.Calls.{write_instr}
use Rattle.pfc_translation.specs.Images.{image_of}
use Rattle.pfc_image_laws.specs.Operands.{is_end}
use Rattle.pfc_stacks.specs.Stacks.{stack_of, operand, operands_of}
use Rattle.pfc_stacks.specs.Effects.{moved}
use Rattle.pfc_machines.specs.declared.machine.Machine.{Machine}
use Rattle.pfc_machines.specs.Actions.{at_rest, PrintedEffect}
use Rattle.pfc_machines.specs.Quiet.{QuietEffect, acts}
use Rattle.pfc_machine_acts.specs.Acting.{acted, comes_to}
use Rattle.pfc_machine_acts.specs.Conditions.{CanPrint}
use Rattle.pfc_machine_acts.specs.Performing.{acts_by, choices_for}
use Rattle.pfc_machine_acts.specs.Quietly.{quietly, CanStep}
use Rattle.pfc_machine_acts.specs.Running.{IsNoMove}
use Rattle.pfc_own_actions.specs.Writing.{width_of, open_behind, written_to, line_end}
use Rattle.pfc_standing_code.specs.Settings.{of_own, IsAt}
use Rattle.pfc_standing_code.specs.Effects.{Arm}
use Rattle.pfc_standing_code.specs.Words.{IsChecked}
use Rattle.pfc_standing_code.specs.Performs.{Performs}
use Rattle.pfc_standing_code.specs.Following.{IsPiece, number, wide_number, string, wide_string, newline}
use Rattle.pfc_standing_code.proofs.Checked.{checked_for}
use Rattle.pfc_representation.specs.Levels.{Facts, program_in, LivingLevel}
use Rattle.pfc_representation.specs.Rooms.{own_address}
use Rattle.pfc_representation.specs.Callers.{IsWithin}
use Rattle.pfc_representation.specs.Machines.{ends_inside, Represents, goes_on}
use Rattle.pfc_representation.specs.Acting.{IsActing, HasArrived}
use Rattle.pfc_representation.specs.Actions.{ComeToSame, IsKept, AreKept}
use Rattle.pfc_machines.specs.Descriptors.{descriptor_of}
use Rattle.pfc_kept_own_actions.specs.Groups.{IsPrinted}
use Rattle.pfc_kept_own_actions.proofs.Steps.{IsOwnStep, represents_then}
use Rattle.pfc_kept_own_actions.proofs.Arrived.{has_setting, stack_there, code_there, code_line, acts_now, next_within}
use Rattle.pfc_kept_own_actions.proofs.Alone.{moved_step, can_go}

-- ## Where the output ends

ends_behind_lines : (b : ℕ) (out bytes : List ℕ) (c : ℕ) → ends_lines (b ∷ (out ++ c ∷ bytes)) ≡ ends_lines (c ∷ bytes)
ends_behind_lines b [] bytes c = refl
ends_behind_lines b (d ∷ out) bytes c = ends_behind_lines d out bytes c

ends_behind : (out bytes : List ℕ) → open_behind (ends_inside out) bytes ≡ ends_inside (out ++ bytes)
ends_behind out [] = sym (ap (λ (xs : List ℕ). ends_inside xs) (append-nil out))
ends_behind [] (b ∷ bytes) = refl
ends_behind (o ∷ out) (b ∷ bytes) = sym (ap not (ends_behind_lines o out bytes b))

-- ## An instruction that prints

-- It pops so many operands and prints this, or is refused.
pub record Prints (image : PlainImage) (i : Instr) (p choice : ℕ) (m : Machine) (count : ℕ) (r : Result (List ℕ) RunFault) : Type 0 where
  pub quiet : quietly image i p m ≡ acts
  pub does : acts_by image i choice p m ≡ written_to m p count r
  pub step : CanStep image i p m
  pub can : CanPrint image i choice p m
  pub none : choices_for i p m ≡ 0
  pub stays : is_end i ≡ false

module _ (facts : Facts) (m : Machine) (c : Config) (p choice : ℕ) (level : LivingLevel) (acting : IsActing facts m c p level) where
  abbrev here : ℕ
  here = (stack_of m.stacks p).at

  abbrev ops : List ℤ
  ops = operands_of m.stacks p

  abbrev image : PlainImage
  image = image_of facts.tree

  abbrev IsInside : Type 0
  IsInside = IsWithin facts level (own_address level.setting.trial here) (descriptor_of m.descriptors p).communications

  none_more : (a b n : ℕ) → 0 - a ≤ b - n
  none_more a b n = grind arith

  pub number_prints : (t : Simple) (w line : ℕ) → IsAt level.setting here (write_instr t w) line → 1 + w ≤ length ops → IsInside
      → Prints image (write_instr t w) p choice m (1 + min w 1) (piece (width_of w ops) (shown t (operand ops (min w 1))))
  number_prints Integer w line there held inside = record {
    quiet = refl;
    does = refl;
    step = record {
      stack = stack_there facts m c p level acting;
      performed = record { held = held; room = none_more (1 + w) (stack_of m.stacks p).room (length ops); reach = tt };
      goes = λ out. can_go facts m c p level acting (WRI w) line there refl held inside;
    };
    can = tt;
    none = refl;
    stays = refl;
  }
  number_prints Boolean w line there held inside = record {
    quiet = refl;
    does = refl;
    step = record {
      stack = stack_there facts m c p level acting;
      performed = record { held = held; room = none_more (1 + w) (stack_of m.stacks p).room (length ops); reach = tt };
      goes = λ out. can_go facts m c p level acting (WRB w) line there refl held inside;
    };
    can = tt;
    none = refl;
    stays = refl;
  }
  number_prints Char w line there held inside = record {
    quiet = refl;
    does = refl;
    step = record {
      stack = stack_there facts m c p level acting;
      performed = record { held = held; room = none_more (1 + w) (stack_of m.stacks p).room (length ops); reach = tt };
      goes = λ out. can_go facts m c p level acting (WRC w) line there refl held inside;
    };
    can = tt;
    none = refl;
    stays = refl;
  }

  pub text_prints : (s w line : ℕ) (text : List ℕ) → IsAt level.setting here (WRS s w) line → slice_get level.setting.texts s ≡ Some text → w ≤ length ops
      → IsInside
      → Prints image (WRS s w) p choice m (min w 1) (piece (width_of w ops) text)
  text_prints s w line text there known held inside =
      let is : slice_get image.texts s ≡ Some text = ap (λ (xs : List (List ℕ)). slice_get xs s) (sym (has_setting facts m c p level acting).image.texts)
      ∙ known in
      record {
        quiet = refl;
        does = ap (λ (xs : List ℕ). written_to m p (min w 1) (piece (width_of w ops) xs)) (get_or_from_slice_get image.texts s text [] is);
        step = record {
          stack = stack_there facts m c p level acting;
          performed = record { held = held; room = none_more w (stack_of m.stacks p).room (length ops); reach = tt };
          goes = λ out. can_go facts m c p level acting (WRS s w) line there refl held inside;
        };
        can = slice_get_within image.texts s text is;
        none = refl;
        stays = refl;
      }

  pub line_prints : (line : ℕ) → IsAt level.setting here WRNL line → IsInside → Prints image WRNL p choice m 0 (Ok line_end)
  line_prints line there inside = record {
    quiet = refl;
    does = refl;
    step = record {
      stack = stack_there facts m c p level acting;
      performed = record { held = none_held; room = none_more 0 (stack_of m.stacks p).room (length ops); reach = tt };
      goes = λ out. can_go facts m c p level acting WRNL line there refl none_held inside;
    };
    can = tt;
    none = refl;
    stays = refl;
  }
    where
      none_held : 0 ≤ length ops
      none_held = grind arith

  -- ## What is printed

  module _ (x : Context) (bytes : List ℕ) (k : Remainder) (own : level.setting.trial ≡ of_own) (arrived : HasArrived facts m c p level (prints x bytes k))
      (b : Block) (checked : IsChecked level.setting b x.env)
      (below : List ℤ) (behind : Performs level.setting b x.env (here + 1) below level.arms k) (few : length below ≤ level.setting.room) where
    print_comes : (i : Instr) (count : ℕ) → IsAt level.setting here i x.line → Prints image i p choice m count (Ok bytes) → drop count ops ≡ below
        → IsKept facts m c p choice (prints x bytes k)
    print_comes i count there is left = record {
      instr = i;
      is = code_there facts m c p level acting here i x.line there;
      can_step = is.step;
      no_move = subst (λ (e : QuietEffect). IsNoMove e) (sym is.quiet) tt;
      can_do = record { acting = acts_now facts m c p level acting i x.line there; can = is.can };
      line = code_line facts m c p level acting here i x.line there;
      choices = is.none;
      same = subst (λ (e : PrintedEffect). ComeToSame facts m c p x.line e end)
          (sym (ap (λ (q : QuietEffect). comes_to q (acts_by image i choice p m)) is.quiet ∙ is.does)) same;
    }
      where
        end : Effect
        end = Ok (goes_on_with (program_in facts) (record c { output = c.output ++ bytes }) p x k)

        step : IsOwnStep facts m c p level acting (here + 1) below (moved m.stacks p (here + 1) below) c.store (going x.env k)
        step =
            moved_step facts m c p level acting own b (here + 1) below (going x.env k) checked.beside arrived.arms
            (few, (checked_for level.setting b x.env k checked, behind))
            (next_within facts m c p level acting own i x.line there is.stays arrived.within)

        same : ComeToSame facts m c p x.line (written_to m p count (Ok bytes)) end
        same =
            let alike = acting.alike.words in
            let after : Config = done_at (program_in facts)
            (doing_next (program_in facts) (record c { output = c.output ++ bytes }) p (going x.env k)) p x.line in
            let open_then : open_behind m.in_line bytes ≡ ends_inside (c.output ++ bytes) = ap (λ (before : Bool). open_behind before bytes) alike.in_line
            ∙ ends_behind c.output bytes in
            let both = represents_then facts m c p level acting (here + 1) below (moved m.stacks p (here + 1) below) c.store
            (going x.env k) step c.input c.words (c.output ++ bytes) (open_behind m.in_line bytes) x.line open_then in
            let drawn : Represents facts
            (acted x.line p (at_rest (record m { stacks = moved m.stacks p (here + 1) below; input = c.input; in_line = open_behind m.in_line bytes })))
            after =
            subst (λ (w : Lcg). Represents facts
            (acted x.line p (at_rest
            (record m { stacks = moved m.stacks p (here + 1) below; input = c.input; draws = w; in_line = open_behind m.in_line bytes }))) after)
            (sym alike.draws) both in
            let all : Represents facts
            (acted x.line p (at_rest (record m { stacks = moved m.stacks p (here + 1) below; in_line = open_behind m.in_line bytes }))) after =
            subst (λ (i : InputLeft). Represents facts
            (acted x.line p (at_rest (record m { stacks = moved m.stacks p (here + 1) below; input = i; in_line = open_behind m.in_line bytes }))) after)
            (sym alike.input) drawn in (
              goes_on (subst (λ (xs : List ℤ). Represents facts
                  (acted x.line p (at_rest (record m { stacks = moved m.stacks p (here + 1) xs; in_line = open_behind m.in_line bytes }))) after)
                  (sym left) all),
              refl,
            )

    piece_kept : IsPiece level.setting x.line here ops below bytes → IsKept facts m c p choice (prints x bytes k)
    piece_kept (number t n is shows there) =
        let held : 1 + 0 ≤ length ops = subst (λ (xs : List ℤ). 1 + 0 ≤ length xs) (sym is) (some (length below)) in
        let value : Ok (shown t (operand ops 0)) ≡ Ok bytes = ap (λ (xs : List ℤ). Ok (shown t (operand xs 0))) is ∙ ap (λ (xs : List ℕ). Ok xs) (sym shows) in
        print_comes (write_instr t 0) 1 there
        (subst (λ (r : Result (List ℕ) RunFault). Prints image (write_instr t 0) p choice m 1 r) value (number_prints t 0 x.line there held arrived.within))
        (ap (λ (xs : List ℤ). drop 1 xs) is)
      where
        some : (n : ℕ) → 1 + 0 ≤ suc n
        some n = grind arith
    piece_kept (wide_number t n w is shows there) =
        let held : 1 + 1 ≤ length ops = subst (λ (xs : List ℤ). 1 + 1 ≤ length xs) (sym is) (some (length below)) in
        let value : padded (operand ops 0) (shown t (operand ops 1)) ≡ Ok bytes = ap (λ (xs : List ℤ). padded (operand xs 0) (shown t (operand xs 1))) is
        ∙ shows in
        print_comes (write_instr t 1) 2 there
        (subst (λ (r : Result (List ℕ) RunFault). Prints image (write_instr t 1) p choice m 2 r) value (number_prints t 1 x.line there held arrived.within))
        (ap (λ (xs : List ℤ). drop 2 xs) is)
      where
        some : (n : ℕ) → 1 + 1 ≤ suc (suc n)
        some n = grind arith
    piece_kept (string s is known there) =
        print_comes (WRS s 0) 0 there (text_prints s 0 x.line bytes there known (none (length ops)) arrived.within) is
      where
        none : (n : ℕ) → 0 ≤ n
        none n = grind arith
    piece_kept (wide_string s w text is known shows there) =
        let held : 1 ≤ length ops = subst (λ (xs : List ℤ). 1 ≤ length xs) (sym is) (some (length below)) in
        let value : padded (operand ops 0) text ≡ Ok bytes = ap (λ (xs : List ℤ). padded (operand xs 0) text) is ∙ shows in
        print_comes (WRS s 1) 1 there
        (subst (λ (r : Result (List ℕ) RunFault). Prints image (WRS s 1) p choice m 1 r) value
        (text_prints s 1 x.line text there known held arrived.within))
        (ap (λ (xs : List ℤ). drop 1 xs) is)
      where
        some : (n : ℕ) → 1 ≤ suc n
        some n = grind arith
    piece_kept (newline is shows there) =
        print_comes WRNL 0 there (subst (λ (xs : List ℕ). Prints image WRNL p choice m 0 (Ok xs)) (sym shows) (line_prints x.line there arrived.within)) is

fewer : (facts : Facts) (m : Machine) (c : Config) (p : ℕ) (level : LivingLevel) (line : ℕ) (ops below : List ℤ) (bytes : List ℕ) (at : ℕ)
    → IsPiece level.setting line at ops below bytes
    → length ops ≤ level.setting.room → length below ≤ level.setting.room
fewer facts m c p level line ops below bytes at (number t n is shows there) fits = by (ap (λ (xs : List ℤ). length xs) is)
  where
    by : length ops ≡ suc (length below) → length below ≤ level.setting.room
    by count = grind (arith, count, fits)
fewer facts m c p level line ops below bytes at (wide_number t n w is shows there) fits = by (ap (λ (xs : List ℤ). length xs) is)
  where
    by : length ops ≡ suc (suc (length below)) → length below ≤ level.setting.room
    by count = grind (arith, count, fits)
fewer facts m c p level line ops below bytes at (string s is known there) fits = subst (λ (xs : List ℤ). length xs ≤ level.setting.room) is fits
fewer facts m c p level line ops below bytes at (wide_string s w text is known shows there) fits = by (ap (λ (xs : List ℤ). length xs) is)
  where
    by : length ops ≡ suc (length below) → length below ≤ level.setting.room
    by count = grind (arith, count, fits)
fewer facts m c p level line ops below bytes at (newline is shows there) fits = subst (λ (xs : List ℤ). length xs ≤ level.setting.room) is fits

pub prints_kept : AreKept IsPrinted
prints_kept facts m c p choice level (prints x bytes k) group acting arrived chosen =
    let (b, checked, ((own, none), (below, is, behind))) = arrived.arrived in
    piece_kept facts m c p choice level acting x bytes k own arrived b checked below
    (subst (λ (arms : List Arm). Performs level.setting b x.env ((stack_of m.stacks p).at + 1) below arms k) (sym none) behind)
    (fewer facts m c p level x.line (operands_of m.stacks p) below bytes (stack_of m.stacks p).at is arrived.room) is
prints_kept facts m c p choice level n is acting arrived chosen = absurd is
