-- Wherever a run comes, it is so.
use Rattle.std.proofs.Common.{ℕ, ◌+◌, Bool, true, false, if◌then◌else◌, List, [], ◌∷◌, map, Some, Ok, Err}
use Rattle.std.specs.Prelude.{◌==◌, ◌&&◌}
use Rattle.std.specs.List.{AllByRecursion}
use Rattle.pfc_state.specs.Stands.{Stand, may_end}
use Rattle.pfc_world.specs.Tables.{Table}
use Rattle.pfc_world.specs.Transitions.{ticked}
use Rattle.pfc_world.specs.Settling.{may_all_end, settled}
use Rattle.pfc_world.specs.Terminating.{wholly_settled}
use Rattle.pfc_values.specs.Inputs.{without_returns}
use Rattle.pfc_semantics.specs.Store.{Store}
use Rattle.pfc_semantics.specs.Programs.{Block, Program}
use Rattle.pfc_semantics.specs.Remainders.{Remainder, in_names}
use Rattle.pfc_semantics.specs.Configurations.{plain, Activity, Config, Effect, activity_of, body_of, initialising, main_activity, idle_activity, start}
use Rattle.pfc_semantics.specs.Configurations.{done_at, after}
use Rattle.pfc_semantics.specs.Processes.{ended_activity, without_all}
use Rattle.pfc_semantics.specs.Steps.{next_of, effect, line_of}
use Rattle.pfc_semantics.specs.Events.{step}
use Rattle.pfc_semantics.specs.Time.{ended_children, rooms_left, terminated_over, settled_config}
use Rattle.pfc_run_invariants.specs.Asked.{Asked, IsClosed}
use Rattle.pfc_run_invariants.specs.Fitting.{FitsStore}
use Rattle.pfc_run_invariants.specs.Inputs.{AreBytes}
use Rattle.pfc_run_invariants.specs.Remainders.{FitsRemainder, FitsAction}
use Rattle.pfc_run_invariants.proofs.Statements.{behind_fits}
use Rattle.pfc_run_invariants.proofs.Rewriting.{next_fits}
use Rattle.pfc_run_invariants.proofs.Stores.{without_all_fits}
use Rattle.pfc_run_invariants.specs.Configurations.{FitsBlock, FitsProgram, FitsActivity, FitFrom, marks_of, FitsConfig, IsStable}
use Rattle.pfc_run_invariants.proofs.Steps.{FitsEffect, tabled, body_fits, marks_at, Lives, activity_fits, with_activity_fits}
use Rattle.pfc_run_invariants.proofs.Effects.{effect_fits}

-- ## Settling

ended_fits :
    (law : Asked) → IsStable law → (p : ℕ) (rows : List Stand) (activities : List Activity) → FitFrom law p activities →
    FitFrom law p (ended_children rows activities)
ended_fits law stable p [] activities all = all
ended_fits law stable p (stand ∷ rows) [] all = tt
ended_fits law stable p (stand ∷ rows) (a ∷ activities) all = (by (may_end stand), ended_fits law stable (p + 1) rows activities all.1)
  where
    by : (b : Bool) → FitsActivity law p (if b then ended_activity a else a)
    by true =
        record {
          doing = λ lives. stable.ends p (marks_of a.activations) a.doing lives (all.0.doing (stable.all lives a.activations));
          activations = tt;
          hand = tt;
        }
    by false = all.0

rooms_fit : (rows : List Stand) (activities : List Activity) (store : Store) → FitsStore store → FitsStore (rooms_left rows activities store)
rooms_fit [] activities store fits = fits
rooms_fit (stand ∷ rows) [] store fits = fits
rooms_fit (stand ∷ rows) (a ∷ activities) store fits =
    rooms_fit rows activities (if may_end stand then without_all store a.activations else store) (by (may_end stand))
  where
    by : (b : Bool) → FitsStore (if b then without_all store a.activations else store)
    by true = without_all_fits store a.activations fits
    by false = fits

pub settled_fits : (law : Asked) → IsStable law → (c : Config) → FitsConfig law c → FitsConfig law (settled_config c)
settled_fits law stable c fits =
    let w = settled c.table in
    tabled law (if may_all_end w.rows then terminated_over w c else c) (wholly_settled c.table) (by w (may_all_end w.rows))
  where
    by : (w : Table) (b : Bool) → FitsConfig law (if b then terminated_over w c else c)
    by w true =
        record {
          activities = ended_fits law stable 0 w.rows c.activities fits.activities;
          store = rooms_fit w.rows c.activities c.store fits.store;
          input = fits.input;
        }
    by w false = fits

-- ## Start

-- what is read of an input are its bytes
bytes_fit : (bytes : List ℕ) → AreBytes bytes → AreBytes (without_returns bytes)
bytes_fit [] all = tt
bytes_fit (b ∷ []) all = all
bytes_fit (b ∷ (d ∷ rest)) all = by (b == 13 && d == 10) (bytes_fit (d ∷ rest) all.1)
  where
    by : (t : Bool) → AreBytes (without_returns (d ∷ rest)) → AreBytes (if t then without_returns (d ∷ rest) else b ∷ without_returns (d ∷ rest))
    by true later = later
    by false later = (all.0, later)

module _ (law : Asked) (closed : IsClosed law) (program : FitsProgram law) where
  abbrev g : Program
  g = law.program

  initialising_fits :
      (bs : List Block) (k : Remainder) → AllByRecursion (FitsBlock law) bs → AllByRecursion (λ (b : Block). law.env 0 (plain ∷ []) b.env) bs
      → FitsRemainder law 0 (plain ∷ []) k → FitsRemainder law 0 (plain ∷ []) (initialising bs k)
  initialising_fits [] k all known left = left
  initialising_fits (b ∷ bs) k all known left =
      (known.0, behind_fits law 0 (plain ∷ []) closed b.next b.stmts (initialising bs k) all.0.stmts (initialising_fits bs k all.1 known.1 left))

  main_fits : FitsActivity law 0 (main_activity g)
  main_fits =
      record {
        doing = λ lives. (
          closed.main,
          initialising_fits g.modules (in_names g.main.env (body_of g.main)) program.modules closed.inits
              (closed.main, body_fits law closed program 0 (plain ∷ []) g.main program.main),
        );
        activations = (tt, tt);
        hand = tt;
      }

  idle_fit : (p : ℕ) (ns : List ℕ) → FitFrom law p (map (idle_activity g) ns)
  idle_fit p [] = tt
  idle_fit p (n ∷ ns) = (record { doing = λ lives. (closed.idle p n lives, tt); activations = tt; hand = tt }, idle_fit (p + 1) ns)

  pub start_fits : (input : List ℕ) (seed : ℕ) → AreBytes input → FitsConfig law (start g input seed)
  start_fits input seed bytes =
      record {
        activities = (main_fits, idle_fit 1 g.objects.processes);
        store = (program.variables, tt);
        input = bytes_fit input bytes;
      }

  -- ## Steps

  done_fits : (c : Config) (p line : ℕ) → FitsConfig law c → FitsConfig law (done_at g c p line)
  done_fits c p line fits =
      let a = activity_fits law closed program c p fits in
      with_activity_fits law closed program (record c { table = ticked c.table }) p _
      (record { activities = fits.activities; store = fits.store; input = fits.input })
      (record { doing = a.doing; activations = a.activations; hand = a.hand })

  after_fits : (c : Config) (p line : ℕ) (e : Effect) → FitsConfig law c → FitsEffect law e → FitsConfig law (after g c p line e)
  after_fits c p line (Ok d) fits effect = done_fits d p line effect
  after_fits c p line (Err f) fits effect =
      done_fits (record c { fault = Some (record { process = p; line = line; fault = f }) }) p line
      (record { activities = fits.activities; store = fits.store; input = fits.input })

  pub next_of_fits : (c : Config) (p : ℕ) → FitsConfig law c → Lives law closed program c p → FitsAction law p (marks_at law closed program c p) (next_of g c p)
  next_of_fits c p fits lives =
      next_fits law p (marks_at law closed program c p) closed (activity_of g c p).doing ((activity_fits law closed program c p fits).doing lives)

  pub step_fits : IsStable law → (c : Config) (p choice : ℕ) → FitsConfig law c → law.acts c p → FitsConfig law (step g c p choice).config
  step_fits stable c p choice fits acting =
      after_fits c p (line_of (next_of g c p)) (effect g c p choice (next_of g c p)) fits
      (effect_fits law closed program stable c fits p acting choice (next_of g c p) (next_of_fits c p fits (closed.living c p acting)))
