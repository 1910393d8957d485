-- What is told of each process is so from the start on, while it settles, and behind each step.
use Rattle.std.proofs.Common.{ℕ, zero, suc, Bool, true, false, if◌then◌else◌, List, [], ◌∷◌, get_or, map, Some, Ok, Err}
use Rattle.pfc_state.specs.Stands.{Stand, may_end}
use Rattle.pfc_world.specs.Tables.{Table}
use Rattle.pfc_world.specs.Transitions.{ticked}
use Rattle.pfc_world.specs.Settling.{may_all_end, settled}
use Rattle.pfc_semantics.specs.Programs.{Program}
use Rattle.pfc_semantics.specs.Configurations.{Activity, Config, Effect, idle_activity, nobody, activity_of, start, done_at, after}
use Rattle.pfc_semantics.specs.Processes.{ended_activity}
use Rattle.pfc_semantics.specs.Time.{ended_children, terminated_over, settled_config}
use Rattle.pfc_semantics.specs.Events.{step}
use Rattle.pfc_semantics.specs.Steps.{next_of, line_of, effect}
use Rattle.pfc_accept_laws.proofs.Each.{Told, IsTold, Each, acts_of, EachIn, each_with}
use Rattle.pfc_accept_laws.proofs.Effects.{ActsApart, ActsSo, GoesOn, effect_so}

module _ (t : Told) (told : IsTold t) where
  abbrev g : Program
  g = t.program

  -- ## Start

  idle_so : (l : List ℕ) (i q : ℕ) → t.so q (get_or (map (idle_activity g) l) i (nobody g))
  idle_so [] i q = told.nobody q
  idle_so (n ∷ l) zero q = told.idle q n
  idle_so (n ∷ l) (suc i) q = idle_so l i q

  pub start_so : (input : List ℕ) (seed : ℕ) → Each t (start g input seed)
  start_so input seed zero = told.main
  start_so input seed (suc q) = idle_so g.objects.processes q (suc q)

  -- ## Settling

  ended_so :
      (rows : List Stand) (activities : List Activity) (i q : ℕ) → t.so q (get_or activities i (nobody g))
      → t.so q (get_or (ended_children rows activities) i (nobody g))
  ended_so [] activities i q so = so
  ended_so (stand ∷ rows) [] i q so = so
  ended_so (stand ∷ rows) (a ∷ activities) zero q so = by (may_end stand)
    where
      by : (b : Bool) → t.so q (if b then ended_activity a else a)
      by true = told.ended q a so
      by false = so
  ended_so (stand ∷ rows) (a ∷ activities) (suc i) q so = ended_so rows activities i q so

  pub settled_so : (c : Config) → Each t c → Each t (settled_config c)
  settled_so c all = let w = settled c.table in by w (may_all_end w.rows)
    where
      by : (w : Table) (b : Bool) → Each t (if b then terminated_over w c else c)
      by w true q = ended_so w.rows c.activities q q (all q)
      by w false q = all q

  -- ## Steps

  pub done_so : (c : Config) (p line : ℕ) → Each t c → Each t (done_at g c p line)
  done_so c p line all = each_with t told (record c { table = ticked c.table }) p _ all (told.lined p (activity_of g c p) line (all p))

  pub after_so : (c : Config) (p line : ℕ) (e : Effect) → Each t c → EachIn t e → Each t (after g c p line e)
  after_so c p line (Ok d) all so = done_so d p line so
  after_so c p line (Err f) all so = done_so (record c { fault = Some (record { process = p; line = line; fault = f }) }) p line all

  pub step_so :
      (c : Config) (p choice : ℕ) → Each t c → ActsApart t c p → t.alive (activity_of g c p).activations
      → ActsSo t c p (next_of g c p) → GoesOn t p (acts_of t c p) (next_of g c p) → Each t (step g c p choice).config
  step_so c p choice all ready alive acts next =
      after_so c p (line_of (next_of g c p)) (effect g c p choice (next_of g c p)) all
      (effect_so t told c all p ready alive choice (next_of g c p) acts next)
