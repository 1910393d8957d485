-- What a run of an image comes to.
use Rattle.std.specs.Prelude.{◌≡◌, ℕ, List}
use Rattle.pfc_code.specs.Images.{PlainImage}
use Rattle.pfc_sched.specs.declared.picking.Policy.{Policy}
use Rattle.pfc_tree.specs.trees.Parts.{ProgramTree}
use Rattle.pfc_run_invariants.specs.Inputs.{AreBytes}
use Rattle.pfc_translation.specs.Images.{image_of}
use Rattle.pfc_machines.specs.Machines.{start_machine}
use Rattle.pfc_representation.specs.Machines.{Agrees}
use Rattle.pfc_represented_start.specs.Starts.{start_facts}
use Rattle.pfc_sessions.specs.declared.session.Session.{Session}
use Rattle.pfc_outcome.specs.Outcomes.{Outcome, behind, code_written, listing_written, report_of, run_under}
use Rattle.pfc_outcome.specs.Requests.{Request, Settings, policy_of}
use Rattle.pfc_top.specs.Compiling.{IsImage}
use Rattle.pfc_top.specs.Meanings.{run_of, source_meaning, told_of}

-- the session is that of the program's image before its first action
abbrev pub IsAtStart : ProgramTree → Settings → Session → Type 0
IsAtStart tree settings session = session.machine ≡ start_machine (image_of tree) settings.input settings.seed

-- The session stands for the end of the program's run: its machine agrees with the last configuration of the source text.
abbrev pub IsAtEnd : ProgramTree → Settings → Session → Type 0
IsAtEnd tree settings session = Agrees (start_facts tree) session.machine (run_of tree settings).config

-- the image and the session are those of a program before its first action over an input of bytes, and this policy and limit are those of the settings
pub record IsBegun (tree : ProgramTree) (settings : Settings) (image : PlainImage) (session : Session) (policy : Policy) (limit : ℕ) : Type 0 where
  pub is : IsImage tree image
  pub bytes : AreBytes settings.input
  pub start : IsAtStart tree settings session
  pub picks : policy ≡ settings.policy
  pub most : limit ≡ settings.limit

-- the report of the run of a program
abbrev pub report_by : ProgramTree → Settings → List ℕ
report_by tree settings = report_of source_meaning tree (told_of (run_of tree settings))

-- the outcome of a text with this program: its run, or a script that is no list of numbers, behind what is listed
abbrev pub program_outcome : List ℕ → ProgramTree → Request → Outcome
program_outcome text tree request =
    behind (listing_written request text) (behind (code_written source_meaning tree request) (run_under source_meaning tree request (policy_of request)))
