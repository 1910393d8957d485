-- Where a run of the source text stands after some of its actions.
use Rattle.std.specs.Prelude.{ℕ, zero, suc, ◌+◌, ◌≡◌, ◌<◌, None}
use Rattle.pfc_sched.specs.Picks.{Picking, picked}
use Rattle.pfc_sched.specs.declared.picking.Pick.{Pick}
use Rattle.pfc_sched.specs.declared.picking.Pick.TheVariants.{Process}
use Rattle.pfc_semantics.specs.Configurations.{Config}
use Rattle.pfc_semantics.specs.Programs.{Program}
use Rattle.pfc_semantics.specs.Runs.{Run, behind_choice, ending_at, run_from}
use Rattle.pfc_semantics.specs.Time.{settled_config}
use Rattle.pfc_run_agreement.specs.Agreement.{picking_behind, choices_of, behind_action}

-- who picks, and the configuration
pub record Point : Type 0 where
  pub picking : Picking
  pub config : Config

-- before the first action
abbrev pub first_point : Picking → Config → Point
first_point picking c = record { picking = picking; config = c }

-- behind an action of process p
abbrev pub point_behind : Program → Point → ℕ → Point
point_behind g s p = record {
  picking = behind_choice (picking_behind s.picking s.config) (choices_of g s.config p);
  config = behind_action g s.picking s.config p;
}

abbrev pub by_process : Point → (ℕ → Point) → Pick → Point
by_process s go (Process p) = go p
by_process s go pick = s

-- behind the action of who is picked
abbrev pub next_point : Program → Point → Point
next_point g s = by_process s (point_behind g s) (picked s.picking (settled_config s.config).table.rows)

-- after so many actions
abbrev pub point_after : Program → ℕ → Point → Point
point_after g zero s = s
point_after g (suc n) s = next_point g (point_after g n s)

-- ## Points of a run

-- The run is not at its end at a point, and who is picked there acts: its action is no fault.
pub record Passes (g : Program) (s : Point) : Type 0 where
  pub process : ℕ
  pub goes : ending_at (settled_config s.config) ≡ None
  pub picks : picked s.picking (settled_config s.config).table.rows ≡ Process process
  pub sound : (behind_action g s.picking s.config process).fault ≡ None

-- The run h passes so many points. So many actions are left at the next, from which it goes on to its end.
pub record IsOnTheWay (g : Program) (limit count left : ℕ) (h : Run) (first : Point) : Type 0 where
  pub sum : left + count ≡ limit
  pub passed : (k : ℕ) → k < count → Passes g (point_after g k first)
  pub ending : (run_from g limit left (point_after g count first).picking (point_after g count first).config).ending ≡ h.ending
  pub config : (run_from g limit left (point_after g count first).picking (point_after g count first).config).config ≡ h.config
