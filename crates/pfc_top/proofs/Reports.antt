-- The report of a machine that agrees with the last configuration of a run.
use Rattle.std.proofs.Common.{◌≡◌, ℕ, zero, suc, ◌+◌, ◌<◌, ◌≤◌, Bool, List, [], ◌∷◌, length, sym, ap, ◌∙◌, subst, arith}
use Rattle.std.specs.Prelude.{All}
use Rattle.pfc_code.specs.Images.{PlainImage}
use Rattle.pfc_tree.specs.trees.Parts.{ProgramTree}
use Rattle.pfc_state.specs.Stands.{Stand}
use Rattle.pfc_state.specs.declared.endings.Ending.{Ending}
use Rattle.pfc_state.specs.declared.endings.Ending.TheVariants.{Finished, Fault, Deadlock, Limit, Script, SinkFailed, Memory}
use Rattle.pfc_state.specs.declared.standings.Standing.{Standing}
use Rattle.pfc_semantics.specs.Configurations.{Config}
use Rattle.pfc_semantics.specs.Runs as source
use Rattle.pfc_translation.specs.Images.{image_of}
use Rattle.pfc_machines.specs.declared.descriptors.Descriptor.{Descriptor}
use Rattle.pfc_machines.specs.declared.machine.Machine.{Machine}
use Rattle.pfc_image_laws.proofs.Layouts.{image_lines}
use Rattle.pfc_representation.specs.Machines.{Agrees, Reports}
use Rattle.pfc_represented_start.specs.Starts.{start_facts}
use Rattle.pfc_settling_laws.proofs.Reported.{agreeing_reports}
use Rattle.pfc_sessions.specs.Standings.{standings_from, standings}
use Rattle.pfc_run_agreement.specs.Agreement.{LookAlike}
use Rattle.pfc_simulation.proofs.Looks.{look_alike}
use Rattle.pfc_source_runs.specs.Standing.{NamesOneOf}
use Rattle.pfc_report.specs.Reports.{NamesProcess, NameProcesses, report_text}
use Rattle.pfc_outcome.specs.Requests.{Settings}
use Rattle.pfc_top.specs.Compiling.{IsImage}
use Rattle.pfc_top.specs.Meanings.{run_of}
use Rattle.pfc_top.specs.Running.{report_by}

-- ## Who is named

names_one : (image : PlainImage) (ending : Ending) → NamesOneOf (length image.processes) ending → NamesProcess image ending
names_one image Finished h = tt
names_one image (Fault process line fault) h = h
names_one image Deadlock h = tt
names_one image (Limit n) h = tt
names_one image (Script item why) h = tt
names_one image SinkFailed h = tt
names_one image Memory h = tt

all_named : (size n : ℕ) (rows : List Stand) (ds : List Descriptor) → n + length rows ≤ size
    → All (λ (s : Standing). s.process < size) (standings_from n rows ds)
all_named size n [] ds fits = λ k d low. absurd (omega (arith, low))
all_named size n (r ∷ rows) ds fits = by (all_named size (n + 1) rows ds (omega (arith, fits)))
  where
    by : All (λ (s : Standing). s.process < size) (standings_from (n + 1) rows ds) → All (λ (s : Standing). s.process < size) (standings_from n (r ∷ rows) ds)
    by rest zero d low = omega (arith, fits)
    by rest (suc k) d low = rest k d (omega (arith, low))

-- ## The report

module _ (tree : ProgramTree) (image : PlainImage) (is : IsImage tree image) where
  -- each instruction has its line
  pub lines_same : length image.lines ≡ length image.code
  lines_same = subst (λ (i : PlainImage). length i.lines ≡ length i.code) (sym is.same) (image_lines tree)

  pub names_process : (ending : Ending) → NamesOneOf (length (image_of tree).processes) ending → NamesProcess image ending
  names_process ending h = names_one image ending (subst (λ (i : PlainImage). NamesOneOf (length i.processes) ending) (sym is.same) h)

  module _ (m : Machine) (c : Config) (agrees : Agrees (start_facts tree) m c) where
    reports : Reports (start_facts tree) m c
    reports = agreeing_reports (start_facts tree) m c agrees

    look : LookAlike m c
    look = look_alike (start_facts tree) m c reports

    as_many : length m.world.rows ≡ length image.processes
    as_many =
        ap (λ (xs : List Stand). length xs) look.rows ∙ reports.words.rows ∙ reports.words.processes
        ∙ ap (λ (i : PlainImage). length i.processes) (sym is.same)

    pub names_processes : (shown : List Standing) → shown ≡ standings m → NameProcesses image shown
    names_processes shown same =
        subst (λ (xs : List Standing). NameProcesses image xs) (sym same)
        (all_named (length image.processes) 0 m.world.rows m.descriptors (omega (arith, as_many)))

  module _ (settings : Settings) (m : Machine) (agrees : Agrees (start_facts tree) m (run_of tree settings).config) where
    abbrev run : source.Run
    run = run_of tree settings

    abbrev told : List Standing
    told = source.standings run.config

    pub reported : (ending : Ending) (bytes : List ℕ) (shown : List Standing) (open_line : Bool) → ending ≡ run.ending
        → bytes ≡ report_text ending shown image open_line → shown ≡ standings m → open_line ≡ m.in_line → bytes ≡ report_by tree settings
    reported ending bytes shown open_line ends text shows opens =
        let same = look m run.config agrees in
        text ∙ ap (λ (e : Ending). report_text e shown image open_line) ends
        ∙ ap (λ (s : List Standing). report_text run.ending s image open_line) (shows ∙ same.standings)
        ∙ ap (λ (i : PlainImage). report_text run.ending told i open_line) is.same
        ∙ ap (λ (o : Bool). report_text run.ending told (image_of tree) o) (opens ∙ same.in_line)
