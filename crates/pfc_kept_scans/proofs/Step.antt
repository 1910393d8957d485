-- A process acts on a resource, in its scan or before its body: where it is then, and what becomes of all.
use Rattle.std.proofs.Common.{◌≡◌, ◌≢◌, ℕ, zero, suc, ◌<◌, ℤ, List, [], ◌∷◌, length, set, get_or, Option, None, refl, sym, ap, ◌∙◌, subst}
use Rattle.std.proofs.Common.{◌⊎◌, inl, inr}
use Rattle.std.proofs.lemmas.List.{get_or-set_same, get_or-set_other, length-set}
use Rattle.pfc_world.specs.Tables.{Table, at}
use Rattle.pfc_world.specs.Transitions.{ticked}
use Rattle.pfc_semantics.specs.Programs.{Program}
use Rattle.pfc_semantics.specs.Rewriting.{Doing}
use Rattle.pfc_semantics.specs.Configurations.{Hand, Activity, Config, nobody, activity_of}
use Rattle.pfc_stacks.specs.Stacks.{Stack, Stacks, no_stack, stack_of, cells_of}
use Rattle.pfc_machines.specs.declared.machine.Machine.{Machine}
use Rattle.pfc_machines.specs.declared.descriptors.Descriptor.{Descriptor}
use Rattle.pfc_machines.specs.declared.descriptors.Scan.{Scan as MachineScan}
use Rattle.pfc_machines.specs.Descriptors.{descriptor_by, descriptor_of}
use Rattle.pfc_representation.specs.Levels.{Facts, program_in, LivingLevel}
use Rattle.pfc_representation.specs.Processes.{RepresentsProcess}
use Rattle.pfc_representation.specs.Keeping.{IsSameStack}
use Rattle.pfc_representation.specs.Acting.{IsActing}
use Rattle.pfc_kept_object_actions.proofs.Tests.{either}
use Rattle.pfc_kept_scans.proofs.Behind.{StandsThen, holders_with, IsBehind}
use Rattle.pfc_kept_scans.proofs.Others.{AreOthers, others_then}
use Rattle.pfc_kept_scans.proofs.Mine.{IsMine, mine_then}

-- ## Lists in which one changes

pub set_twice : {A : Type 0} (xs : List A) (i : ℕ) (x y : A) → set (set xs i x) i y ≡ set xs i y
set_twice [] i x y = refl
set_twice (z ∷ xs) zero x y = refl
set_twice (z ∷ xs) (suc i) x y = ap (λ rest. z ∷ rest) (set_twice xs i x y)

-- a stack with the same cells
pub cells_same : (stacks : Stacks) (p : ℕ) (s : Stack) → s.cells ≡ (stack_of stacks p).cells → p < length stacks → (q : ℕ)
    → cells_of (set stacks p s) q ≡ cells_of stacks q
cells_same stacks p s keeps there q = by_place (either q p)
  where
    by_place : (q ≡ p) ⊎ (q ≢ p) → cells_of (set stacks p s) q ≡ cells_of stacks q
    by_place (inl is) =
        ap (λ n. cells_of (set stacks p s) n) is ∙ ap (λ (x : Stack). x.cells) (get_or-set_same stacks p s no_stack there) ∙ keeps
        ∙ ap (λ n. cells_of stacks n) (sym is)
    by_place (inr apart) = ap (λ (x : Stack). x.cells) (get_or-set_other stacks p q s no_stack apart)

-- the others are where they were
pub stack_apart : (stacks : Stacks) (p q : ℕ) (s : Stack) → q ≢ p → IsSameStack (stack_of stacks q) (stack_of (set stacks p s) q)
stack_apart stacks p q s apart =
    subst (λ (x : Stack). IsSameStack (stack_of stacks q) x) (sym (get_or-set_other stacks p q s no_stack apart))
    (record { at = refl; base = refl; operands = refl; room = refl; spare = refl; looks_from = refl })

-- ## What is to be shown

module _ (facts : Facts) (m : Machine) (c : Config) (p : ℕ) (level : LivingLevel) (acting : IsActing facts m c p level) (level' : LivingLevel)
    (stack : Stack) (table : Table) (resources : List (Option ℕ)) (scan : Option MachineScan) (doing : Doing) (hand : Hand) (line : ℕ) where
  abbrev g : Program
  g = program_in facts

  abbrev a : Activity
  a = activity_of g c p

  abbrev d : Descriptor
  d = descriptor_of m.descriptors p

  abbrev pub stacks : Stacks
  stacks = set m.stacks p stack

  -- it goes on so, and shows this
  abbrev pub activities : List Activity
  activities = set c.activities p (record a { doing = doing; hand = hand })

  abbrev pub descriptors : List Descriptor
  descriptors = set m.descriptors p (record d { scan = scan })

  pub record IsStep (to : ℕ) (left : List ℤ) (looks : Option ℕ) : Type 0 where
    pub stack_is : stack ≡ record (stack_of m.stacks p) { at = to; operands = left; looks_from = looks }
    pub row_count : length table.rows ≡ length c.table.rows
    pub resource_count : length resources ≡ length c.resources
    pub rests : table.acting ≡ None
    pub done : table.done ≡ c.table.done
    pub moment : table.moment ≡ c.table.moment
    pub stands : (q : ℕ) → StandsThen c (at c.table.rows q) (at table.rows q)
    pub others : AreOthers facts m c p level acting stacks table resources
    pub mine : IsMine facts m c p level acting level' stacks table resources scan doing hand line to left looks

  module _ (to : ℕ) (left : List ℤ) (looks : Option ℕ) (step : IsStep to left looks) where
    in_stacks : p < length m.stacks
    in_stacks = subst (λ n. p < n) (sym acting.alike.words.stacks) acting.actor.process

    in_descriptors : p < length m.descriptors
    in_descriptors = subst (λ n. p < n) (sym acting.alike.words.descriptors) acting.actor.process

    abbrev IsThere : ℕ → Activity → Descriptor → Type 0
    IsThere q x e = RepresentsProcess facts acting.homes acting.entries c.store stacks (ticked table) (holders_with facts c resources) q x e

    activity_here : record (get_or activities p (nobody g)) { line = line } ≡ record a { doing = doing; hand = hand; line = line }
    activity_here =
        ap (λ (x : Activity). record x { line = line })
        (get_or-set_same c.activities p (record a { doing = doing; hand = hand }) (nobody g) acting.actor.process)

    descriptor_here : record (descriptor_of descriptors p) { line = line } ≡ record d { scan = scan; line = line }
    descriptor_here =
        ap (λ (x : Descriptor). record x { line = line }) (get_or-set_same m.descriptors p (record d { scan = scan }) (descriptor_by 0) in_descriptors)

    pub behind_of : IsBehind facts m c p level acting line activities descriptors stacks table resources
    behind_of =
        record {
          activity_count = length-set c.activities p (record a { doing = doing; hand = hand });
          descriptor_count = length-set m.descriptors p (record d { scan = scan });
          stack_count = length-set m.stacks p stack;
          row_count = step.row_count;
          resource_count = step.resource_count;
          cells = cells_same m.stacks p stack (ap (λ (x : Stack). x.cells) step.stack_is) in_stacks;
          rests = step.rests;
          done = step.done;
          moment = step.moment;
          stands = step.stands;
          mine =
              subst (λ (x : Activity). IsThere p x (record (descriptor_of descriptors p) { line = line })) (sym activity_here)
              (subst (λ (e : Descriptor). IsThere p (record a { doing = doing; hand = hand; line = line }) e) (sym descriptor_here)
              (mine_then facts m c p level acting level' stacks table resources scan doing hand line to left looks step.mine));
          others = λ q apart within.
              subst (λ (x : Activity). IsThere q x (descriptor_of descriptors q))
              (sym (get_or-set_other c.activities p q (record a { doing = doing; hand = hand }) (nobody g) apart))
              (subst (λ (e : Descriptor). IsThere q (activity_of g c q) e)
              (sym (get_or-set_other m.descriptors p q (record d { scan = scan }) (descriptor_by 0) apart))
              (others_then facts m c p level acting stacks table resources step.others q apart within));
        }

    pub stack_here : stack_of stacks p ≡ stack
    stack_here = get_or-set_same m.stacks p stack no_stack in_stacks
