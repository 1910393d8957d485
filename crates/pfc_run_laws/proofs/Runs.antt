-- The output of a run grows.
use Rattle.std.proofs.Common.{◌≡◌, ℕ, zero, suc, Bool, true, false, List, [], ◌++◌, Option, Some, None, Ok, Err, refl, sym, ap, ◌∙◌, subst}
use Rattle.std.specs.Prelude.{if◌then◌else◌}
use Rattle.std.proofs.lemmas.List.{append_assoc, append-nil}
use Rattle.pfc_state.specs.declared.endings.Ending.{Ending}
use Rattle.pfc_state.specs.declared.endings.Ending.TheVariants.{Limit}
use Rattle.pfc_world.specs.Settling.{settled, may_all_end}
use Rattle.pfc_sched.specs.Picks.{Picking, picked, after_pick}
use Rattle.pfc_sched.specs.declared.picking.Pick.{Pick}
use Rattle.pfc_sched.specs.declared.picking.Pick.TheVariants.{Process, Nobody, NotReady, NoProcess, ScriptEnd}
use Rattle.pfc_semantics.specs.Programs.{Program}
use Rattle.pfc_semantics.specs.Remainders.{Action}
use Rattle.pfc_semantics.specs.Configurations.{Config, Effect, after}
use Rattle.pfc_semantics.specs.Time.{terminated_over, settled_config}
use Rattle.pfc_semantics.specs.Selects.{choices}
use Rattle.pfc_semantics.specs.Steps.{effect, line_of, next_of}
use Rattle.pfc_semantics.specs.Events.{Step, step}
use Rattle.pfc_semantics.specs.Runs.{Run, ending_at, ended_with, behind_event, choice_among, behind_choice, by_pick, unless_ended, run_from}
use Rattle.pfc_run_laws.specs.Outputs.{Extends}
use Rattle.pfc_run_laws.proofs.Effects.{Grows, effect_grows}

-- ## Outputs

same_grows : (old new : List ℕ) → new ≡ old → Extends old new
same_grows old new same = ([], same ∙ sym (append-nil old))

both_grow : (old mid new : List ℕ) → Extends old mid → Extends mid new → Extends old new
both_grow old mid new first second =
    (first.0 ++ second.0, second.1 ∙ ap (λ (xs : List ℕ). xs ++ second.0) first.1 ∙ append_assoc old first.0 second.0)

-- ## A step, and settling

after_grows : (g : Program) (c : Config) (p line : ℕ) (e : Effect) → Grows c.output e → Extends c.output (after g c p line e).output
after_grows g c p line (Ok d) grows = grows
after_grows g c p line (Err f) grows = same_grows c.output c.output refl

step_grows : (g : Program) (c : Config) (p choice : ℕ) → Extends c.output (step g c p choice).config.output
step_grows g c p choice =
    let n : Action = next_of g c p in after_grows g c p (line_of n) (effect g c p choice n) (effect_grows g c p choice n)

settled_keeps : (c : Config) → (settled_config c).output ≡ c.output
settled_keeps c = by (may_all_end (settled c.table).rows)
  where
    by : (b : Bool) → (let d : Config = if b then terminated_over (settled c.table) c else c in d.output ≡ c.output)
    by true = refl
    by false = refl

-- ## Runs

unless_grows : (s : Config) (go : Run) (ending : Option Ending) → Extends s.output go.config.output → Extends s.output (unless_ended s go ending).config.output
unless_grows s go None grows = grows
unless_grows s go (Some ending) grows = same_grows s.output s.output refl

by_pick_grows :
    (s : Config) (behind : Picking) (go : ℕ → Run) (pick : Pick) → ((p : ℕ) → Extends s.output (go p).config.output)
    → Extends s.output (by_pick s behind go pick).config.output
by_pick_grows s behind go (Process p) grows = grows p
by_pick_grows s behind go Nobody grows = same_grows s.output s.output refl
by_pick_grows s behind go (NotReady p) grows = same_grows s.output s.output refl
by_pick_grows s behind go (NoProcess p) grows = same_grows s.output s.output refl
by_pick_grows s behind go ScriptEnd grows = same_grows s.output s.output refl

abbrev acting : Program → ℕ → ℕ → Picking → Config → ℕ → Run
acting g limit left behind s p =
    let m = choices g s p (next_of g s p) in
    let t = step g s p (choice_among behind m) in
    behind_event t.event (run_from g limit left (behind_choice behind m) t.config)

pub run_grows : (g : Program) (limit left : ℕ) (picking : Picking) (c : Config) → Extends c.output (run_from g limit left picking c).config.output
run_grows g limit zero picking c =
    let s : Config = settled_config c in
    subst (λ (out : List ℕ). Extends out (run_from g limit zero picking c).config.output) (settled_keeps c)
    (unless_grows s (ended_with s (Limit limit)) (ending_at s) (same_grows s.output s.output refl))
run_grows g limit (suc left) picking c =
    let s : Config = settled_config c in
    let behind : Picking = after_pick picking s.table.rows in
    let acts : (p : ℕ) → Extends s.output (acting g limit left behind s p).config.output
    = λ p.
    (let m : ℕ = choices g s p (next_of g s p) in
    let t : Step = step g s p (choice_among behind m) in
    both_grow s.output t.config.output (run_from g limit left (behind_choice behind m) t.config).config.output (step_grows g s p (choice_among behind m))
    (run_grows g limit left (behind_choice behind m) t.config)) in
    subst (λ (out : List ℕ). Extends out (run_from g limit (suc left) picking c).config.output) (settled_keeps c)
    (unless_grows s (by_pick s behind (acting g limit left behind s) (picked picking s.table.rows)) (ending_at s)
    (by_pick_grows s behind (acting g limit left behind s) (picked picking s.table.rows) acts))
