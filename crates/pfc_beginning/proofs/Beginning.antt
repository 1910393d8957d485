-- The state before the first action.
use Rattle.std.proofs.Common.{◌≡◌, ℕ, ◌+◌, ◌-◌, true, false, suc, List, [], ◌∷◌, length, map, None, refl, sym, ap, ◌∙◌, subst, arith}
use Rattle.std.specs.Prelude.{replicate}
use Rattle.std.proofs.lemmas.List.{length-map, length-replicate}
use Rattle.pfc_state.specs.Stands.{Stand, Is_idle}
use Rattle.pfc_world.specs.Tables.{Table, start_table}
use Rattle.pfc_world.specs.Tickets.{IsNew}
use Rattle.pfc_monitor.specs.Guards.{Guards}
use Rattle.pfc_sched.specs.Draws.{first_draws}
use Rattle.pfc_values.specs.Inputs.{opened}
use Rattle.pfc_store.specs.Views.{store_view}
use Rattle.pfc_semantics.specs.Values.{Value}
use Rattle.pfc_semantics.specs.Store.{with_room}
use Rattle.pfc_semantics.specs.Objects.{of_kind}
use Rattle.pfc_semantics.specs.Programs.{Program}
use Rattle.pfc_semantics.specs.Configurations as configurations
use Rattle.pfc_semantics.specs.Configurations.{most_alternatives, main_activity, idle_activity, start}
use Rattle.pfc_activities.specs.declared.source.Source.{Source}
use Rattle.pfc_activities.specs.declared.state.State.{State}
use Rattle.pfc_activities.specs.Shown.{shown, activity_shown, activities_shown}
use Rattle.pfc_activities.specs.Relation.{Stands}
use Rattle.pfc_beginning.specs.Beginnings.{program_with}

pub start_stands :
    (source : Source) (variables : List Value) (input : List ℕ) (seed : ℕ) (s : State)
    → map shown (main_activity (program_with source variables) ∷ map (idle_activity (program_with source variables)) source.objects.processes.items)
    ≡ activities_shown source.program.tables s.activities.items
    → s.world ≡ start_table (1 + length source.objects.processes.items) most_alternatives → IsNew s.world.rows s.world.done
    → s.semaphores ≡ replicate source.objects.semaphores 0
    → s.monitors ≡ record { holders = replicate (of_kind false source.program.tables.scopes.now.modules) None; owners = source.objects.conditions.items }
    → s.resources ≡ replicate (of_kind true source.program.tables.scopes.now.modules) None
    → store_view s.store ≡ with_room [] 0 variables → s.input ≡ opened input → s.draws ≡ first_draws seed
    → Stands source s (start (program_with source variables) input seed)
start_stands source variables input seed s activities world fresh semaphores monitors resources store input_is draws =
    let g : Program = program_with source variables in
    let ns : List ℕ = source.objects.processes.items in
    let n : ℕ = length ns in
    let made : length s.activities.items ≡ suc n
    = sym (length-map s.activities.items (activity_shown source.program.tables)) ∙ ap length (sym activities)
    ∙ length-map (main_activity g ∷ map (idle_activity g) ns) shown ∙ ap suc (length-map ns (idle_activity g)) in
    let less : (1 + n) - 1 ≡ n = omega arith in
    let rows : length (start_table (1 + n) most_alternatives).rows ≡ suc n = ap suc (length-replicate ((1 + n) - 1) Is_idle ∙ less) in
    record {
      mirrors = record {
        activities = activities;
        agrees = record {
          table = world;
          counts = semaphores;
          monitors = ap (λ (m : Guards). m.holders) monitors;
          resources = resources;
          store = store;
          input = input_is;
          words = draws;
          count = made ∙ sym rows;
          conditions = ap (λ (m : Guards). m.owners) monitors;
        };
      };
      quiet = record {
        acting = refl;
        fresh = subst (λ (w : Table). IsNew w.rows w.done) world fresh;
        sound = refl;
      };
    }
