-- Who is picked may act, where all actions are kept.
use Rattle.std.proofs.Common.{ℕ, zero, suc, ◌%◌, ◌<◌, max, length, sym, ap, ◌∙◌, subst, arith}
use Rattle.std.proofs.Math.Nat.{mod-lt}
use Rattle.pfc_sched.specs.Picks.{Picking, by_words, by_turn, by_list}
use Rattle.pfc_sched.specs.Words.{word}
use Rattle.pfc_semantics.specs.Remainders.{Action}
use Rattle.pfc_semantics.specs.Configurations.{Config}
use Rattle.pfc_semantics.specs.Programs.{Program}
use Rattle.pfc_semantics.specs.Selects.{choices}
use Rattle.pfc_semantics.specs.Steps.{effect, line_of, next_of}
use Rattle.pfc_code.specs.Images.{PlainImage}
use Rattle.pfc_translation.specs.Images.{image_of}
use Rattle.pfc_translation.specs.Objects.{objects_of}
use Rattle.pfc_object_laws.specs.Objects.{number_at}
use Rattle.pfc_machines.specs.declared.machine.Machine.{Machine}
use Rattle.pfc_machine_acts.specs.Acting.{choice_among, comes_to}
use Rattle.pfc_machine_acts.specs.Conditions.{CanDo}
use Rattle.pfc_machine_acts.specs.Performing.{acts_by}
use Rattle.pfc_machine_acts.specs.Quietly.{quietly}
use Rattle.pfc_run_rules.specs.Rules.{KeepsToRules}
use Rattle.pfc_representation.specs.Levels.{Facts, program_in, LivingLevel, HasSetting}
use Rattle.pfc_representation.specs.Machines.{Represents}
use Rattle.pfc_representation.specs.Actions.{IsChoice, ComeToSame, IsKept}
use Rattle.pfc_arrivals.specs.Arrivals.{IsAboutToAct, ComesToAction, ComesAndStays, ActsAsItsSource, AreNumbered, IsNumbered, IsNextKept}
use Rattle.pfc_arrivals.proofs.Refused.{comes_and_stays}
use Rattle.pfc_arrivals.proofs.Standing.{has_setting}

at_most : (k n : ℕ) → k < suc n → k < max 1 (suc n)
at_most k n less = grind (arith, less)

choice_is : (picking : Picking) (n : ℕ) → IsChoice (choice_among picking n) n
choice_is picking zero = grind arith
choice_is (by_words g) (suc n) = at_most (word g % suc n) n (mod-lt (word g) (grind arith))
choice_is (by_turn last) (suc n) = at_most 0 n (grind arith)
choice_is (by_list picks item) (suc n) = at_most 0 n (grind arith)

-- the numbers at a level are those of all
pub numbered_at : (facts : Facts) (level : LivingLevel) → AreNumbered facts → HasSetting facts level → IsNumbered level
numbered_at facts level numbered has = λ t same.
    has.number ∙ numbered
    ∙ ap (λ (g : Program). number_at (objects_of g)) (sym has.image.program ∙ same)

-- who comes to its action may do it
module _ (facts : Facts) (m : Machine) (c : Config) (p : ℕ) (picking : Picking) (kept : IsNextKept facts c p)
    (numbered : AreNumbered facts) (rules : KeepsToRules (program_in facts) c p) (short : length (image_of facts.tree).code < 4294967296)
    (there : p < length m.descriptors) (both : ComesAndStays facts m c p) where
  abbrev come : ComesToAction facts m c p
  come = both.come

  abbrev n : Action
  n = next_of (program_in facts) c p

  abbrev image : PlainImage
  image = image_of facts.tree

  abbrev choice : ℕ
  choice = choice_among picking (choices (program_in facts) c p n)

  pub here : IsKept facts come.before c p choice n
  here =
      kept come.before choice come.level
      (numbered_at facts come.level numbered (has_setting facts come.before c p come.level come.acting)) rules come.acting come.arrived
      (choice_is picking (choices (program_in facts) c p n))

  abbrev pub acts_from : ActsAsItsSource facts m c p picking
  acts_from = record {
    may = record {
      short = short;
      descriptor = there;
      count = come.count;
      before = come.before;
      instr = here.instr;
      next = record { run = come.run; few = come.few; is = here.is; can = here.can_step; no_move = here.no_move };
      can = subst (λ many. CanDo image here.instr (choice_among picking many) p come.before) (sym here.choices) here.can_do;
    };
    line = here.line;
    choices_same = here.choices;
    same =
        subst (λ many. ComeToSame facts come.before c p (line_of n)
        (comes_to (quietly image here.instr p come.before) (acts_by image here.instr (choice_among picking many) p come.before))
        (effect (program_in facts) c p (choice_among picking many) n)) (sym here.choices) here.same;
    stays = λ wants. both.stays here.instr here.is wants;
  }

pub acts_alike : (facts : Facts) (m : Machine) (c : Config) (p : ℕ) (picking : Picking) → IsNextKept facts c p → AreNumbered facts
    → KeepsToRules (program_in facts) c p → Represents facts m c → IsAboutToAct facts m c p → ActsAsItsSource facts m c p picking
acts_alike facts m c p picking kept numbered rules is about =
    acts_from facts m c p picking kept numbered rules is.alike.program.short (subst (λ size. p < size) (sym is.alike.words.descriptors) about.process)
    (comes_and_stays facts m c p is about)
