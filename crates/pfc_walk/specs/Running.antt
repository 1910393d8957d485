-- What a run of a checked tree comes to.
use Rattle.std.specs.Prelude.{◌≡◌, ℕ, List, [], ◌∷◌}
use Rattle.pfc_code.specs.Images.{PlainImage}
use Rattle.pfc_code.specs.declared.images.ProcessInfo.{ProcessInfo}
use Rattle.pfc_sched.specs.declared.picking.Policy.{Policy}
use Rattle.pfc_state.specs.declared.endings.Ending.{Ending}
use Rattle.pfc_tree.specs.trees.Parts.{ProgramTree}
use Rattle.pfc_semantics.specs.Programs.{program_of}
use Rattle.pfc_semantics.specs.Configurations.{start}
use Rattle.pfc_activities.specs.Relation.{Reports}
use Rattle.pfc_walker.specs.Courses.{KnowsLine}
use Rattle.pfc_walker.specs.Walks.{Walks}
use Rattle.pfc_walker.specs.declared.telling.Told.{Told}
use Rattle.pfc_walker.specs.declared.walker.Walker.{Walker}
use Rattle.pfc_translation.specs.Images.{main_process}
use Rattle.pfc_translation.specs.Objects.{processes_of}
use Rattle.pfc_outcome.specs.Outcomes.{report_of}
use Rattle.pfc_outcome.specs.Requests.{Settings}
use Rattle.pfc_walk.specs.Meanings.{run_of, told_of, whole_meaning}

-- an image of which only the processes are known
abbrev pub labelled_image : List ProcessInfo → PlainImage
labelled_image processes = record {
  code = [];
  lines = [];
  blocks = [];
  processes = processes;
  objects = [];
  texts = [];
  semaphores = 0;
  channels = 0;
  conditions = [];
  monitors = 0;
  scans = [];
  arms = 0;
}

-- the processes of a program, as its image has them
abbrev pub processes_by : ProgramTree → List ProcessInfo
processes_by tree = main_process (program_of tree) tree.name.0 ∷ processes_of (program_of tree)

-- the walker is before the first action of the program, whose processes have these labels; and this policy and limit are those of the settings
pub record IsBegun (tree : ProgramTree) (settings : Settings) (walker : Walker) (held : List ProcessInfo) (policy : Policy) (limit : ℕ) : Type 0 where
  pub walks : Walks walker (program_of tree) (start (program_of tree) settings.input settings.seed)
  pub labels : held ≡ processes_by tree
  pub picks : policy ≡ settings.policy
  pub most : limit ≡ settings.limit

-- the walker is at the end of the program's run, which is this
pub record IsEnded (told : Told) (tree : ProgramTree) (settings : Settings) (ending : Ending) (walker : Walker) (held : List ProcessInfo) : Type 0 where
  pub ends : ending ≡ (run_of tree settings).ending
  pub reports : Reports walker.state (run_of tree settings).config
  pub line : KnowsLine told walker.in_line (run_of tree settings).config.output
  pub labels : held ≡ processes_by tree

-- the report of the run of a program
abbrev pub report_by : ProgramTree → Settings → List ℕ
report_by tree settings = report_of whole_meaning tree (told_of (run_of tree settings))
