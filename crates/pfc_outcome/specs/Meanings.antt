-- What programs mean, as far as an outcome speaks of it. How a run is made is not said here: it is a part of the meaning that is handed in.
use Rattle.std.specs.Prelude.{ℕ, List}
use Rattle.pfc_code.specs.Images.{PlainImage}
use Rattle.pfc_state.specs.declared.endings.Ending.{Ending}
use Rattle.pfc_state.specs.declared.standings.Standing.{Standing}
use Rattle.pfc_tree.specs.trees.Parts.{ProgramTree}
use Rattle.pfc_outcome.specs.Requests.{Settings}

-- a run: how it ended, all that it wrote, and how each process stands at its end
pub record Run : Type 0 where
  pub ending : Ending
  pub output : List ℕ
  pub standings : List Standing

-- the meaning of the programs that break no rule
pub record Meaning : Type 0 where
  -- the image of a program: the code text shows it, and its instructions are counted
  pub image : ProgramTree → PlainImage
  pub run : ProgramTree → Settings → Run
