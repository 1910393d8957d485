-- What changes of configurations leave: activities, with the marks of their activations, and the store.
use Rattle.std.proofs.Common.{◌≡◌, ◌≢◌, ℕ, zero, suc, ◌+◌, ◌==◌, Bool, true, false, if◌then◌else◌, List, [], ◌∷◌, get_or, set, Option, Some, None, Ok, Err}
use Rattle.std.proofs.Common.{refl, ap, subst, arith}
use Rattle.std.specs.Prelude.{nat_le}
use Rattle.std.specs.List.{AllByRecursion}
use Rattle.pfc_base.specs.declared.faults.RunFault.TheVariants.{Stack}
use Rattle.pfc_world.specs.Tables.{Table}
use Rattle.pfc_world.specs.Holders.{Held}
use Rattle.pfc_world.specs.Semaphores.{Counted}
use Rattle.pfc_semantics.specs.Values.{Value}
use Rattle.pfc_semantics.specs.Store.{with_room, without}
use Rattle.pfc_semantics.specs.Displays.{Spot}
use Rattle.pfc_semantics.specs.Programs.{Guard, Block, Program, found_block, block_at}
use Rattle.pfc_semantics.specs.Remainders.{Context, Argument, by_value, by_reference, Remainder, AwaitsValue, ends}
use Rattle.pfc_semantics.specs.Rewriting.{Doing, going, holding}
use Rattle.pfc_semantics.specs.Configurations.{Mark, Caller, Activation, Activity, Hand, Config, Effect, body_of, nobody, activity_of, with_activity}
use Rattle.pfc_semantics.specs.Configurations.{doing_next, goes_on, holds, showing, location_for, value_for, written_for, passed, all_passed, with_table}
use Rattle.pfc_semantics.specs.Configurations.{with_counted, with_monitors, with_resources}
use Rattle.pfc_semantics.specs.Calls.{most_cells, unless_full, new_number, new_values, activated, left_by}
use Rattle.pfc_semantics.specs.Resources.{guarded_body}
use Rattle.pfc_run_invariants.specs.Asked.{Asked, IsClosed}
use Rattle.pfc_run_invariants.specs.Fitting.{FitsValue, FitList}
use Rattle.pfc_run_invariants.specs.Remainders.{FitsEnv, FitsArgument, FitArguments, FitsRemainder, FitsAwaiting, FitsDoing}
use Rattle.pfc_run_invariants.proofs.Lists.{all_mapped}
use Rattle.pfc_run_invariants.proofs.Statements.{behind_fits}
use Rattle.pfc_run_invariants.proofs.Stores.{value_at_fits, stored_fits, without_fits, new_values_fit}
use Rattle.pfc_run_invariants.specs.Configurations.{FitsGuard, FitsBlock, FitsProgram, marks_of, FitsCaller, FitActivations, FitsHand, FitsActivity, FitFrom}
use Rattle.pfc_run_invariants.specs.Configurations.{FitsConfig}

module _ (law : Asked) where
  abbrev pub FitsEffect : Effect → Type 0
  FitsEffect (Ok d) = FitsConfig law d
  FitsEffect (Err f) = Unit {0}

  pub effect_either : (b : Bool) (d e : Effect) → FitsEffect d → FitsEffect e → FitsEffect (if b then d else e)
  effect_either true d e first second = first
  effect_either false d e first second = second

  -- what a step does to the table, to counts and to holders does not matter
  pub tabled : (c : Config) (w : Table) → FitsConfig law c → FitsConfig law (with_table c w)
  tabled c w fits = record { activities = fits.activities; store = fits.store; input = fits.input }

  pub with_counts : (c : Config) (w : Counted) → FitsConfig law c → FitsConfig law (with_counted c w)
  with_counts c w fits = record { activities = fits.activities; store = fits.store; input = fits.input }

  pub with_monitor_holders : (c : Config) (h : Held) → FitsConfig law c → FitsConfig law (with_monitors c h)
  with_monitor_holders c h fits = record { activities = fits.activities; store = fits.store; input = fits.input }

  pub with_resource_holders : (c : Config) (h : Held) → FitsConfig law c → FitsConfig law (with_resources c h)
  with_resource_holders c h fits = record { activities = fits.activities; store = fits.store; input = fits.input }

  -- ## Lists of activities

  from_get :
      (d : Activity) → ((q : ℕ) → FitsActivity law q d) → (activities : List Activity) (p i q : ℕ) → q ≡ p + i → FitFrom law p activities
      → FitsActivity law q (get_or activities i d)
  from_get d none [] p i q is all = none q
  from_get d none (a ∷ activities) p zero q is all = subst (λ (n : ℕ). FitsActivity law n a) (omega (arith, is)) all.0
  from_get d none (a ∷ activities) p (suc i) q is all = from_get d none activities (p + 1) i q (omega (arith, is)) all.1

  from_set :
      (activities : List Activity) (p i q : ℕ) (a : Activity) → q ≡ p + i → FitFrom law p activities → FitsActivity law q a
      → FitFrom law p (set activities i a)
  from_set [] p i q a is all one = tt
  from_set (b ∷ activities) p zero q a is all one = (subst (λ (n : ℕ). FitsActivity law n a) (omega (arith, is)) one, all.1)
  from_set (b ∷ activities) p (suc i) q a is all one = (all.0, from_set activities (p + 1) i q a (omega (arith, is)) all.1 one)

-- who goes on with the same activations leaves those of all as they were
set_keeps :
    (d : Activity) (activities : List Activity) (p q : ℕ) (a : Activity) → a.activations ≡ (get_or activities p d).activations
    → (get_or (set activities p a) q d).activations ≡ (get_or activities q d).activations
set_keeps d [] p q a same = refl
set_keeps d (b ∷ activities) zero zero a same = same
set_keeps d (b ∷ activities) zero (suc q) a same = refl
set_keeps d (b ∷ activities) (suc p) zero a same = refl
set_keeps d (b ∷ activities) (suc p) (suc q) a same = set_keeps d activities p q a same

set_apart :
    (d : Activity) (activities : List Activity) (p q : ℕ) (a : Activity) → q ≢ p → get_or (set activities p a) q d ≡ get_or activities q d
set_apart d [] p q a apart = refl
set_apart d (b ∷ activities) zero zero a apart = absurd (apart refl)
set_apart d (b ∷ activities) zero (suc q) a apart = refl
set_apart d (b ∷ activities) (suc p) zero a apart = refl
set_apart d (b ∷ activities) (suc p) (suc q) a apart = set_apart d activities p q a (λ same. apart (ap suc same))

found_fits : (law : Asked) (bs : List Block) (i : ℕ) (other : Block) → AllByRecursion (FitsBlock law) bs →
    FitsBlock law other → FitsBlock law (found_block bs i other)
found_fits law [] i other all one = one
found_fits law (b ∷ bs) i other all one = by (b.scope == i) (found_fits law bs i other all.1 one)
  where
    by : (t : Bool) → FitsBlock law (found_block bs i other) → FitsBlock law (if t then b else found_block bs i other)
    by true later = all.0
    by false later = later

module _ (law : Asked) (closed : IsClosed law) (program : FitsProgram law) where
  abbrev pub g : Program
  g = law.program

  pub block_fits : (i : ℕ) → FitsBlock law (block_at g i)
  block_fits i = found_fits law g.blocks i g.main program.blocks program.main

  pub body_fits : (p : ℕ) (ms : List Mark) (b : Block) → FitsBlock law b → FitsRemainder law p ms (body_of b)
  body_fits p ms b fits = behind_fits law p ms closed b.next b.stmts (ends b.last_line) fits.stmts tt

  pub guarded_fits :
      (p : ℕ) (ms : List Mark) (r : ℕ) (b : Block) (guard : Option Guard) → FitsEnv law p ms b.env → FitsBlock law b → FitsGuard law guard
      → FitsRemainder law p ms (guarded_body g r b guard)
  guarded_fits p ms r b None known fits guard = body_fits p ms b fits
  guarded_fits p ms r b (Some guard) known fits test = (test, (known, body_fits p ms b fits))

  -- ## Activities

  abbrev pub marks_at : Config → ℕ → List Mark
  marks_at c p = marks_of (activity_of g c p).activations

  -- it is asked of it
  abbrev pub Lives : Config → ℕ → Type 0
  Lives c p = law.alive (activity_of g c p).activations

  nobody_fits : (q : ℕ) → FitsActivity law q (nobody g)
  nobody_fits q = record { doing = λ lives. (closed.nobody q lives, tt); activations = tt; hand = tt }

  pub activity_fits : (c : Config) (p : ℕ) → FitsConfig law c → FitsActivity law p (activity_of g c p)
  activity_fits c p fits = from_get law (nobody g) nobody_fits c.activities 0 p p (omega arith) fits.activities

  pub with_activity_fits : (c : Config) (p : ℕ) (a : Activity) → FitsConfig law c → FitsActivity law p a → FitsConfig law (with_activity c p a)
  with_activity_fits c p a fits one =
      record { activities = from_set law c.activities 0 p p a (omega arith) fits.activities one; store = fits.store; input = fits.input }

  pub does_next : (c : Config) (p : ℕ) (doing : Doing) → FitsConfig law c → FitsDoing law p (marks_at c p) doing → FitsConfig law (doing_next g c p doing)
  does_next c p doing fits does =
      with_activity_fits c p _ fits (record { doing = λ lives. does; activations = (activity_fits c p fits).activations; hand = tt })

  pub on_it_goes :
      (c : Config) (p : ℕ) (x : Context) (k : Remainder) → FitsConfig law c → FitsEnv law p (marks_at c p) x.env
      → FitsRemainder law p (marks_at c p) k → FitsConfig law (goes_on g c p x k)
  on_it_goes c p x k fits known left = does_next c p (going x.env k) fits (known, left)

  pub it_holds :
      (c : Config) (p : ℕ) (x : Context) (v : Value) (u : AwaitsValue) → FitsConfig law c → FitsEnv law p (marks_at c p) x.env → FitsValue v
      → FitsAwaiting law p (marks_at c p) u → FitsConfig law (holds g c p x v u)
  it_holds c p x v u fits known given waits = does_next c p (holding x v u) fits (known, given, waits)

  pub it_shows : (c : Config) (p : ℕ) (hand : Hand) → FitsConfig law c → FitsHand law p (marks_at c p) hand → FitsConfig law (showing g c p hand)
  it_shows c p hand fits shown =
      let a = activity_fits c p fits in with_activity_fits c p _ fits (record { doing = a.doing; activations = a.activations; hand = shown })

  -- who goes on keeps its activations, and so do all others
  pub same_marks : (c : Config) (p q : ℕ) (doing : Doing) → marks_at (doing_next g c p doing) q ≡ marks_at c q
  same_marks c p q doing = ap marks_of (set_keeps (nobody g) c.activities p q _ refl)

  pub apart_marks : (c : Config) (p q : ℕ) (a : Activity) → q ≢ p → marks_at (with_activity c p a) q ≡ marks_at c q
  apart_marks c p q a apart = ap (λ (b : Activity). marks_of b.activations) (set_apart (nobody g) c.activities p q a apart)

  -- ## Variables

  pub found_value : (c : Config) (p : ℕ) (s : Spot) → FitsConfig law c → FitsValue (value_for g c p s)
  found_value c p s fits = value_at_fits c.store (location_for g c p s) fits.store

  pub it_writes : (c : Config) (p : ℕ) (s : Spot) (v : Value) → FitsConfig law c → FitsValue v → FitsConfig law (written_for g c p s v)
  it_writes c p s v fits given =
      record { activities = fits.activities; store = stored_fits c.store (location_for g c p s) v fits.store given; input = fits.input }

  passed_fits : (c : Config) (p : ℕ) (ms : List Mark) (arg : Argument) → FitsArgument law p ms arg → FitsValue (passed g c p arg)
  passed_fits c p ms (by_value v) fits = fits
  passed_fits c p ms (by_reference s) fits = tt

  pub all_pass : (c : Config) (p : ℕ) (ms : List Mark) (args : List Argument) → FitArguments law p ms args → FitList (all_passed g c p args)
  all_pass c p ms args all = all_mapped FitsValue (FitsArgument law p ms) (passed g c p) (λ arg one. passed_fits c p ms arg one) args all

  -- ## Activations

  pub full_fits : (p cells : ℕ) (c : Config) → FitsConfig law c → FitsEffect law (unless_full p cells c)
  full_fits p cells c fits = effect_either law (nat_le cells (most_cells p)) (Ok c) (Err Stack) fits tt

  pub activated_fits :
      (c : Config) (p : ℕ) (b : Block) (mark : Mark) (caller : Caller) (args : List Argument) (k : Remainder) → FitsConfig law c
      → FitsEnv law p (mark ∷ marks_at c p) b.env → FitsCaller law p (marks_at c p) caller → FitArguments law p (marks_at c p) args
      → FitsRemainder law p (mark ∷ marks_at c p) k → FitsConfig law (activated g c p b mark caller args k)
  activated_fits c p b mark caller args k fits known waits given left =
      let a = activity_fits c p fits in
      let values = new_values g b (all_passed g c p args) in
      let roomed : FitsConfig law (record c { store = with_room c.store (new_number c) values }) =
      record {
        activities = fits.activities;
        store = (new_values_fit g program.firsts b (all_passed g c p args) (all_pass c p (marks_at c p) args given), fits.store);
        input = fits.input;
      } in
      with_activity_fits (record c { store = with_room c.store (new_number c) values }) p _ roomed
      (record { doing = λ lives. (known, left); activations = (waits, a.activations); hand = tt })

  pub left_fits :
      (c : Config) (p : ℕ) (a : Activation) (below : List Activation) (doing : Doing) → FitsConfig law c → FitActivations law p below
      → FitsDoing law p (marks_of below) doing → FitsConfig law (left_by g c p a below doing)
  left_fits c p a below doing fits others does =
      with_activity_fits (record c { store = without c.store a.number }) p _
      (record { activities = fits.activities; store = without_fits c.store a.number fits.store; input = fits.input })
      (record { doing = λ lives. does; activations = others; hand = tt })
