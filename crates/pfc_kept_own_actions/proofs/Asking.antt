-- The ends of the input and of its line, the clock, and draws.
use Rattle.std.proofs.Common.{◌≡◌, ℕ, suc, ◌+◌, ◌-◌, ◌/◌, false, ◌≤◌, ℤ, pos, List, ◌∷◌, length, drop, Result, Ok, Err, refl, sym, ap, subst, arith}
use Rattle.rand_pcg.specs.Lcg.{Lcg}
use Rattle.pfc_base.specs.declared.faults.RunFault.{RunFault}
use Rattle.pfc_code.specs.declared.instructions.Instr.{Instr}
use Rattle.pfc_code.specs.declared.instructions.Instr.TheVariants.{EOF, EOLN, CLOCK, RAND}
use Rattle.pfc_sched.specs.Draws.{drawn, after_draw}
use Rattle.pfc_values.specs.Inputs.{Left as InputLeft, at_end, at_line_end}
use Rattle.pfc_values.specs.Numbers.{Outcome, fitting, truth}
use Rattle.pfc_world.specs.Tables.{Table}
use Rattle.pfc_semantics.specs.Values.{ordinal}
use Rattle.pfc_semantics.specs.Programs.{Block}
use Rattle.pfc_semantics.specs.Remainders.{Context, AwaitsValue, Action, asks_eof, asks_eoln, asks_clock, draws}
use Rattle.pfc_semantics.specs.Rewriting.{holding}
use Rattle.pfc_semantics.specs.Configurations.{Config, doing_next, holds, done_at}
use Rattle.pfc_semantics.specs.Steps.{drawn_in}
use Rattle.pfc_semantics.specs.Time.{clocked}
use Rattle.pfc_stacks.specs.Stacks.{stack_of, operand, operands_of}
use Rattle.pfc_stacks.specs.Effects.{moved}
use Rattle.pfc_machines.specs.declared.machine.Machine.{Machine}
use Rattle.pfc_machines.specs.Actions.{at_rest}
use Rattle.pfc_image_laws.specs.Operands.{is_end}
use Rattle.pfc_machine_acts.specs.Acting.{acted}
use Rattle.pfc_machine_acts.specs.Performing.{silent}
use Rattle.pfc_own_actions.specs.Doing.{left_with, clocked_to, drawn_to}
use Rattle.pfc_standing_code.specs.Settings.{of_own, IsAt}
use Rattle.pfc_standing_code.specs.Words.{IsChecked}
use Rattle.pfc_standing_code.specs.Following.{ArrivedBy}
use Rattle.pfc_following_source.specs.Behind.{GoesOnAt}
use Rattle.pfc_following_source.proofs.Behind.{leads_on}
use Rattle.pfc_representation.specs.Levels.{Facts, program_in, LivingLevel}
use Rattle.pfc_representation.specs.Machines.{Represents, goes_on}
use Rattle.pfc_representation.specs.Acting.{IsActing, HasArrived}
use Rattle.pfc_representation.specs.Actions.{ComeToSame, IsKept, AreKept}
use Rattle.pfc_kept_own_actions.specs.Groups.{IsAsked, IsDrawn}
use Rattle.pfc_kept_own_actions.proofs.Steps.{IsOwnStep, represents_then}
use Rattle.pfc_kept_own_actions.proofs.Arrived.{stack_there, code_there, code_line, acts_now, next_within}
use Rattle.pfc_kept_own_actions.proofs.Alone.{moved_step, pushed, refuse, can_go, one_more}
use Rattle.std.proofs.lemmas.List.{append-nil}

-- ## What pushes one value

module _ (facts : Facts) (m : Machine) (c : Config) (p : ℕ) (level : LivingLevel) (x : Context) (u : AwaitsValue) (own : level.setting.trial ≡ of_own)
    (acting : IsActing facts m c p level)
    (n : Action) (arrived : HasArrived facts m c p level n) where
  abbrev here : ℕ
  here = (stack_of m.stacks p).at

  abbrev ops : List ℤ
  ops = operands_of m.stacks p

  push_step : (b : Block) → IsChecked level.setting b x.env → (v : ℤ) → GoesOnAt level.setting b (here + 1) (v ∷ ops) level.arms (holding x (ordinal v) u)
      → (i : Instr) → IsAt level.setting here i x.line → is_end i ≡ false
      → IsOwnStep facts m c p level acting (here + 1) (v ∷ ops) (moved m.stacks p (here + 1) (v ∷ ops)) c.store (holding x (ordinal v) u)
  push_step b checked v goes i there no_end =
      moved_step facts m c p level acting own b (here + 1) (v ∷ ops) (holding x (ordinal v) u) checked.beside arrived.arms goes
      (next_within facts m c p level acting own i x.line there no_end arrived.within)

  none_held : 0 ≤ length ops
  none_held = grind arith

module _ (facts : Facts) (m : Machine) (c : Config) (p choice : ℕ) (level : LivingLevel) (x : Context) (u : AwaitsValue) (own : level.setting.trial ≡ of_own)
    (acting : IsActing facts m c p level) where
  eof_kept : (arrived : HasArrived facts m c p level (asks_eof x u)) (b : Block) → IsChecked level.setting b x.env
      → ArrivedBy level.setting b (stack_of m.stacks p).at (operands_of m.stacks p) level.arms (asks_eof x u) → IsKept facts m c p choice (asks_eof x u)
  eof_kept arrived b checked by =
      let there : IsAt level.setting (stack_of m.stacks p).at EOF x.line = by.1.0 in
      let room = one_more facts m c p level acting by.1.1 in
      let v : ℤ = truth (at_end m.input.bytes) in
      let goes = leads_on level.setting b (stack_of m.stacks p).at (asks_eof x u)
      (operands_of m.stacks p) level.arms arrived.room checked by EOF x.line there in
      let step = push_step facts m c p level x u own acting (asks_eof x u) arrived b checked v (goes v) EOF there refl in
      record {
        instr = EOF;
        is = code_there facts m c p level acting (stack_of m.stacks p).at EOF x.line there;
        can_step = record {
          stack = stack_there facts m c p level acting;
          performed = record { held = none_held facts m c p level x u own acting (asks_eof x u) arrived; room = room.1; reach = tt };
          goes = λ out. can_go facts m c p level acting EOF x.line there refl
              (none_held facts m c p level x u own acting (asks_eof x u) arrived) arrived.within;
        };
        no_move = tt;
        can_do = record { acting = acts_now facts m c p level acting EOF x.line there; can = room.0 };
        line = code_line facts m c p level acting (stack_of m.stacks p).at EOF x.line there;
        choices = refl;
        same =
            subst (λ (i : InputLeft). ComeToSame facts m c p x.line (silent (Ok (at_rest (left_with m p 0 v))))
            (Ok (holds (program_in facts) c p x (ordinal (truth (at_end i.bytes))) u))) acting.alike.words.input
            (pushed facts m c p level acting v x u x.line step);
      }

  eoln_kept : (arrived : HasArrived facts m c p level (asks_eoln x u)) (b : Block) → IsChecked level.setting b x.env
      → ArrivedBy level.setting b (stack_of m.stacks p).at (operands_of m.stacks p) level.arms (asks_eoln x u) → IsKept facts m c p choice (asks_eoln x u)
  eoln_kept arrived b checked by =
      let there : IsAt level.setting (stack_of m.stacks p).at EOLN x.line = by.1.0 in
      let room = one_more facts m c p level acting by.1.1 in
      let v : ℤ = truth (at_line_end m.input.bytes) in
      let goes = leads_on level.setting b (stack_of m.stacks p).at (asks_eoln x u)
      (operands_of m.stacks p) level.arms arrived.room checked by EOLN x.line there in
      let step = push_step facts m c p level x u own acting (asks_eoln x u) arrived b checked v (goes v) EOLN there refl in
      record {
        instr = EOLN;
        is = code_there facts m c p level acting (stack_of m.stacks p).at EOLN x.line there;
        can_step = record {
          stack = stack_there facts m c p level acting;
          performed = record { held = none_held facts m c p level x u own acting (asks_eoln x u) arrived; room = room.1; reach = tt };
          goes = λ out. can_go facts m c p level acting EOLN x.line there refl
              (none_held facts m c p level x u own acting (asks_eoln x u) arrived) arrived.within;
        };
        no_move = tt;
        can_do = record { acting = acts_now facts m c p level acting EOLN x.line there; can = room.0 };
        line = code_line facts m c p level acting (stack_of m.stacks p).at EOLN x.line there;
        choices = refl;
        same =
            subst (λ (i : InputLeft). ComeToSame facts m c p x.line (silent (Ok (at_rest (left_with m p 0 v))))
            (Ok (holds (program_in facts) c p x (ordinal (truth (at_line_end i.bytes))) u))) acting.alike.words.input
            (pushed facts m c p level acting v x u x.line step);
      }

  clock_comes : (o : Outcome)
      → ((v : ℤ) → IsOwnStep facts m c p level acting ((stack_of m.stacks p).at + 1) (v ∷ operands_of m.stacks p)
      (moved m.stacks p ((stack_of m.stacks p).at + 1) (v ∷ operands_of m.stacks p)) c.store (holding x (ordinal v) u))
      → ComeToSame facts m c p x.line (silent (clocked_to m p o)) (clocked (program_in facts) c p x u o)
  clock_comes (Ok v) step = pushed facts m c p level acting v x u x.line (step v)
  clock_comes (Err f) step = refuse facts m c p level acting x.line f

  clock_kept : (arrived : HasArrived facts m c p level (asks_clock x u)) (b : Block) → IsChecked level.setting b x.env
      → ArrivedBy level.setting b (stack_of m.stacks p).at (operands_of m.stacks p) level.arms (asks_clock x u) → IsKept facts m c p choice (asks_clock x u)
  clock_kept arrived b checked by =
      let there : IsAt level.setting (stack_of m.stacks p).at CLOCK x.line = by.1.0 in
      let room = one_more facts m c p level acting by.1.1 in
      let goes = leads_on level.setting b (stack_of m.stacks p).at (asks_clock x u)
      (operands_of m.stacks p) level.arms arrived.room checked by CLOCK x.line there in
      record {
        instr = CLOCK;
        is = code_there facts m c p level acting (stack_of m.stacks p).at CLOCK x.line there;
        can_step = record {
          stack = stack_there facts m c p level acting;
          performed = record { held = none_held facts m c p level x u own acting (asks_clock x u) arrived; room = room.1; reach = tt };
          goes = λ out. can_go facts m c p level acting CLOCK x.line there refl
              (none_held facts m c p level x u own acting (asks_clock x u) arrived) arrived.within;
        };
        no_move = tt;
        can_do = record { acting = acts_now facts m c p level acting CLOCK x.line there; can = room.0 };
        line = code_line facts m c p level acting (stack_of m.stacks p).at CLOCK x.line there;
        choices = refl;
        same =
            subst (λ (w : Table). ComeToSame facts m c p x.line (silent (clocked_to m p (fitting (pos (w.moment / 1000)))))
            (clocked (program_in facts) c p x u (fitting (pos (c.table.moment / 1000))))) (sym acting.world)
            (clock_comes (fitting (pos (c.table.moment / 1000)))
            (λ v. push_step facts m c p level x u own acting (asks_clock x u) arrived b checked v (goes v) CLOCK there refl));
      }

-- ## Draws

module _ (facts : Facts) (m : Machine) (c : Config) (p choice : ℕ) (level : LivingLevel) (x : Context) (n : ℤ) (u : AwaitsValue)
    (own : level.setting.trial ≡ of_own) (acting : IsActing facts m c p level)
    (arrived : HasArrived facts m c p level (draws x n u)) (b : Block) (checked : IsChecked level.setting b x.env)
    (by : ArrivedBy level.setting b (stack_of m.stacks p).at (operands_of m.stacks p) level.arms (draws x n u)) where
  abbrev place : ℕ
  place = (stack_of m.stacks p).at

  abbrev below : List ℤ
  below = by.1.0

  there : IsAt level.setting place RAND x.line
  there = by.1.2

  some_held : 1 ≤ length (operands_of m.stacks p)
  some_held = subst (λ (xs : List ℤ). 1 ≤ length xs) (sym by.1.1) (more (length below))
    where
      more : (k : ℕ) → 1 ≤ suc k
      more k = grind arith

  draw_step : (v : ℤ) → IsOwnStep facts m c p level acting (place + 1) (v ∷ below) (moved m.stacks p (place + 1) (v ∷ below)) c.store (holding x (ordinal v) u)
  draw_step v =
      let goes = leads_on level.setting b place (draws x n u) (operands_of m.stacks p) level.arms arrived.room checked by RAND x.line there v in
      moved_step facts m c p level acting own b (place + 1) (v ∷ below) (holding x (ordinal v) u) checked.beside arrived.arms
      (subst (λ (xs : List ℤ). GoesOnAt level.setting b (place + 1) (v ∷ drop 1 xs) level.arms (holding x (ordinal v) u)) by.1.1 goes)
      (next_within facts m c p level acting own RAND x.line there refl arrived.within)

  draw_comes : (words : Lcg) (o : Result ℤ RunFault)
      → ComeToSame facts m c p x.line (silent (drawn_to m p words o)) (drawn_in (program_in facts) c p x u words o)
  draw_comes words (Err f) = refuse facts m c p level acting x.line f
  draw_comes words (Ok v) =
      let alike = acting.alike.words in
      let after : Config = done_at (program_in facts) (doing_next (program_in facts) (record c { words = words }) p (holding x (ordinal v) u)) p x.line in
      let both = represents_then facts m c p level acting (place + 1) (v ∷ below) (moved m.stacks p (place + 1) (v ∷ below)) c.store (holding x (ordinal v) u)
      (draw_step v) c.input words c.output m.in_line x.line alike.in_line in
      let left : Represents facts (acted x.line p (at_rest (record m { stacks = moved m.stacks p (place + 1) (v ∷ below); draws = words }))) after =
      subst (λ (i : InputLeft). Represents facts
      (acted x.line p (at_rest (record m { stacks = moved m.stacks p (place + 1) (v ∷ below); input = i; draws = words }))) after) (sym alike.input) both in (
        goes_on (subst (λ (xs : List ℤ). Represents facts
            (acted x.line p (at_rest (record m { stacks = moved m.stacks p (place + 1) (v ∷ drop 1 xs); draws = words }))) after) (sym by.1.1) left),
        sym (append-nil c.output),
      )

  draw_kept : IsKept facts m c p choice (draws x n u)
  draw_kept = record {
    instr = RAND;
    is = code_there facts m c p level acting place RAND x.line there;
    can_step = record {
      stack = stack_there facts m c p level acting;
      performed = record { held = some_held; room = none_more (stack_of m.stacks p).room (length (operands_of m.stacks p)); reach = tt };
      goes = λ out. can_go facts m c p level acting RAND x.line there refl some_held arrived.within;
    };
    no_move = tt;
    can_do = record { acting = acts_now facts m c p level acting RAND x.line there; can = some_held };
    line = code_line facts m c p level acting place RAND x.line there;
    choices = refl;
    same =
        subst (λ (k : ℤ). ComeToSame facts m c p x.line (silent (drawn_to m p (after_draw m.draws k) (drawn m.draws k)))
        (drawn_in (program_in facts) c p x u (after_draw c.words n) (drawn c.words n))) (sym (ap (λ (xs : List ℤ). operand xs 0) by.1.1))
        (subst (λ (w : Lcg). ComeToSame facts m c p x.line (silent (drawn_to m p (after_draw w n) (drawn w n)))
        (drawn_in (program_in facts) c p x u (after_draw c.words n) (drawn c.words n))) (sym acting.alike.words.draws)
        (draw_comes (after_draw c.words n) (drawn c.words n)));
  }
    where
      none_more : (a k : ℕ) → 0 ≤ a - k
      none_more a k = grind arith

-- ## By kind

pub asked_kept : AreKept IsAsked
asked_kept facts m c p choice level (asks_eof x u) group acting arrived chosen =
    let (b, checked, by) = arrived.arrived in eof_kept facts m c p choice level x u by.0 acting arrived b checked by
asked_kept facts m c p choice level (asks_eoln x u) group acting arrived chosen =
    let (b, checked, by) = arrived.arrived in eoln_kept facts m c p choice level x u by.0 acting arrived b checked by
asked_kept facts m c p choice level (asks_clock x u) group acting arrived chosen =
    let (b, checked, by) = arrived.arrived in clock_kept facts m c p choice level x u by.0 acting arrived b checked by
asked_kept facts m c p choice level n is acting arrived chosen = absurd is

pub drawn_kept : AreKept IsDrawn
drawn_kept facts m c p choice level (draws x n u) group acting arrived chosen =
    let (b, checked, by) = arrived.arrived in draw_kept facts m c p choice level x n u by.0 acting arrived b checked by
drawn_kept facts m c p choice level n is acting arrived chosen = absurd is
