-- What the meaning of the whole language is, opened once for each use.
use Rattle.std.proofs.Common.{◌≡◌, Bool, ℕ, List, length, refl, sym, ap, ◌∙◌}
use Rattle.pfc_code.specs.Images.{PlainImage}
use Rattle.pfc_code.specs.declared.images.ProcessInfo.{ProcessInfo}
use Rattle.pfc_report.specs.Reports.{report_text}
use Rattle.pfc_state.specs.declared.endings.Ending.{Ending}
use Rattle.pfc_state.specs.declared.standings.Standing.{Standing}
use Rattle.pfc_tree.specs.trees.Parts.{ProgramTree}
use Rattle.pfc_sched.specs.Picks.{first_picking}
use Rattle.pfc_semantics.specs.Programs.{program_of}
use Rattle.pfc_semantics.specs.Configurations.{start}
use Rattle.pfc_semantics.specs.Runs.{run_from, standings}
use Rattle.pfc_values.specs.Outputs.{is_open_line}
use Rattle.pfc_walker.specs.declared.telling.Told.TheVariants.{Output}
use Rattle.pfc_walker.specs.declared.walker.Walker.{Walker}
use Rattle.pfc_translation.specs.Images.{image_of}
use Rattle.pfc_outcome.specs.Outcomes.{instruction_count}
use Rattle.pfc_outcome.specs.Requests.{Settings}
use Rattle.pfc_walk.specs.Meanings.{run_of, told_of, whole_meaning}
use Rattle.pfc_walk.specs.Running.{IsEnded, labelled_image, processes_by, report_by}

-- how many instructions a program has, by its image
pub counts : (t : ProgramTree) → instruction_count whole_meaning t ≡ length (image_of t).code
unfolding whole_meaning
counts t = refl

pub meant : (t : ProgramTree) (s : Settings) → whole_meaning.run t s ≡ told_of (run_of t s)
unfolding whole_meaning
meant t s = refl

pub run_is : (t : ProgramTree) (s : Settings) →
    run_of t s ≡ run_from (program_of t) s.limit s.limit (first_picking s.policy) (start (program_of t) s.input s.seed)
unfolding run_of
run_is t s = refl

pub imaged : (t : ProgramTree) → (whole_meaning.image t).processes ≡ processes_by t
unfolding whole_meaning
imaged t = refl

-- a report reads the processes alone
pub report_same :
    (ending : Ending) (standings : List Standing) (open_line : Bool) (i : PlainImage) (processes : List ProcessInfo) → i.processes ≡ processes
    → report_text ending standings i open_line ≡ report_text ending standings (labelled_image processes) open_line
report_same ending standings open_line i processes same =
    ap (λ (ps : List ProcessInfo). report_text ending standings (record i { processes = ps }) open_line) same

-- the report of a run that the walker came to the end of
pub reported :
    (tree : ProgramTree) (settings : Settings) (ending : Ending) (walker : Walker) (held : List ProcessInfo) → IsEnded Output tree settings ending walker held
    → (bytes : List ℕ) (shown : List Standing) (image : PlainImage) (open_line : Bool) → bytes ≡ report_text ending shown image open_line
    → shown ≡ standings (run_of tree settings).config → image ≡ labelled_image held → open_line ≡ walker.in_line → bytes ≡ report_by tree settings
reported tree settings ending walker held ended bytes shown image open_line text shows labels opens =
    let run = run_of tree settings in
    let told = standings run.config in
    let line = is_open_line run.config.output in
    text ∙ ap (λ (e : Ending). report_text e shown image open_line) ended.ends ∙ ap (λ (s : List Standing). report_text run.ending s image open_line) shows
    ∙ ap (λ (i : PlainImage). report_text run.ending told i open_line) (labels ∙ ap (λ (ps : List ProcessInfo). labelled_image ps) ended.labels)
    ∙ ap (λ (o : Bool). report_text run.ending told (labelled_image (processes_by tree)) o) (opens ∙ ended.line)
    ∙ sym (report_same run.ending told line (whole_meaning.image tree) (processes_by tree) (imaged tree))
