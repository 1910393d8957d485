-- Who acts in a run is a process of the table with which it began.
use Rattle.std.proofs.Common.{◌≡◌, ℕ, zero, suc, ◌<◌, List, length, All, Option, Some, None, Ok, Err, refl, sym, subst}
use Rattle.std.proofs.lemmas.List.Elements.{All-nil, All-cons}
use Rattle.pfc_state.specs.declared.endings.Ending.{Ending}
use Rattle.pfc_state.specs.declared.endings.Ending.TheVariants.{Limit}
use Rattle.pfc_sched.specs.Picks.{Picking, picked, after_pick}
use Rattle.pfc_sched.specs.declared.picking.Pick.{Pick}
use Rattle.pfc_sched.specs.declared.picking.Pick.TheVariants.{Process, Nobody, NotReady, NoProcess, ScriptEnd}
use Rattle.pfc_sched.proofs.PickLaws.{picks_ready}
use Rattle.pfc_semantics.specs.Programs.{Program}
use Rattle.pfc_semantics.specs.Remainders.{Action}
use Rattle.pfc_semantics.specs.Configurations.{Config, Effect, after}
use Rattle.pfc_semantics.specs.Time.{settled_config}
use Rattle.pfc_semantics.specs.Selects.{choices}
use Rattle.pfc_semantics.specs.Steps.{effect, line_of, next_of}
use Rattle.pfc_semantics.specs.Events.{Step, step}
use Rattle.pfc_semantics.specs.Runs.{Run, ending_at, ended_with, choice_among, behind_choice, by_pick, unless_ended, run_from}
use Rattle.pfc_traces.specs.Laws.{ActsWithin}
use Rattle.pfc_traces.specs.Traces.{trace_of}
use Rattle.pfc_traces.proofs.Effects.{KeepsRows, effect_keeps}
use Rattle.pfc_traces.proofs.Replaying.{acting, who_acted}
use Rattle.pfc_traces.proofs.Rows.{wholly_settled_rows}

after_rows : (g : Program) (c : Config) (p line : ℕ) (e : Effect) → KeepsRows c.table e → length (after g c p line e).table.rows ≡ length c.table.rows
after_rows g c p line (Ok d) keeps = keeps
after_rows g c p line (Err f) keeps = refl

step_rows : (g : Program) (c : Config) (p choice : ℕ) → length (step g c p choice).config.table.rows ≡ length c.table.rows
step_rows g c p choice = let n : Action = next_of g c p in after_rows g c p (line_of n) (effect g c p choice n) (effect_keeps g c p choice n)

-- all these are numbers below this
abbrev AreBelow : ℕ → List ℕ → Type 0
AreBelow count numbers = All (λ p. p < count) numbers

unless_below :
    (count : ℕ) (s : Config) (go : Run) (ending : Option Ending)
    → AreBelow count (trace_of go) → AreBelow count (trace_of (unless_ended s go ending))
unless_below count s go None below = below
unless_below count s go (Some ending) below = All-nil (λ p. p < count)

module _ (g : Program) (limit : ℕ) where
  pick_below :
      (left count : ℕ) (s : Config) (behind : Picking) (pick : Pick)
      → ((p : ℕ) → pick ≡ Process p → AreBelow count (trace_of (acting g limit left behind s p)))
      → AreBelow count (trace_of (by_pick s behind (acting g limit left behind s) pick))
  pick_below left count s behind (Process p) acts = acts p refl
  pick_below left count s behind Nobody acts = All-nil (λ p. p < count)
  pick_below left count s behind (NotReady p) acts = All-nil (λ p. p < count)
  pick_below left count s behind (NoProcess p) acts = All-nil (λ p. p < count)
  pick_below left count s behind ScriptEnd acts = All-nil (λ p. p < count)

  run_below : (left : ℕ) (picking : Picking) (c : Config) → AreBelow (length c.table.rows) (trace_of (run_from g limit left picking c))
  run_below zero picking c =
      let s : Config = settled_config c in
      unless_below (length c.table.rows) s (ended_with s (Limit limit)) (ending_at s) (All-nil (λ p. p < length c.table.rows))
  run_below (suc left) picking c =
      let s : Config = settled_config c in
      let behind : Picking = after_pick picking s.table.rows in
      let same : length s.table.rows ≡ length c.table.rows = wholly_settled_rows c.table in
      let acts : (p : ℕ) → picked picking s.table.rows ≡ Process p → AreBelow (length s.table.rows) (trace_of (acting g limit left behind s p))
      = λ p e.
      (let m : ℕ = choices g s p (next_of g s p) in
      let k : ℕ = choice_among behind m in
      let t : Step = step g s p k in
      let rest : Run = run_from g limit left (behind_choice behind m) t.config in
      let here : t.event.process ≡ p = who_acted g s p k (next_of g s p) (effect g s p k (next_of g s p)) in
      let first : t.event.process < length s.table.rows = subst (λ (q : ℕ). q < length s.table.rows) (sym here) (picks_ready picking s.table.rows p e).0 in
      let others : AreBelow (length s.table.rows) (trace_of rest)
      = subst (λ (n : ℕ). AreBelow n (trace_of rest)) (step_rows g s p k) (run_below left (behind_choice behind m) t.config) in
      All-cons (λ q. q < length s.table.rows) t.event.process (trace_of rest) first others) in
      subst (λ (n : ℕ). AreBelow n (trace_of (run_from g limit (suc left) picking c))) same
      (unless_below (length s.table.rows) s (by_pick s behind (acting g limit left behind s) (picked picking s.table.rows)) (ending_at s)
      (pick_below left (length s.table.rows) s behind (picked picking s.table.rows) acts))

pub acts_within : ActsWithin
acts_within g limit left picking c = run_below g limit left picking c
