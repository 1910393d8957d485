use Rattle.pfc_semantics.specs.Configurations.{number_for}
use Rattle.pfc_semantics.specs.Monitors.{monitor_of}
use Rattle.pfc_representation.specs.Levels.{program_in}
use Rattle.pfc_holding_laws.proofs.Inside.{inside_holds}
use Rattle.pfc_holding_laws.proofs.laws.who_is_inside_holds.Goals as goal

pub returns : goal.returns
returns c =
    record {
      holds = λ facts m d p n level acting inside. inside_holds facts m d p n level acting inside;
      resumes = λ facts m d p level v acting may child waits.
          inside_holds facts m d p (monitor_of (program_in facts) (number_for (program_in facts) d p v)) level acting (may child waits);
    }
