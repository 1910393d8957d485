use Rattle.pfc_representation.proofs.Moves.{moved_alone, written_alone}
use Rattle.pfc_representation.proofs.laws.moves_leave_others_alone.Goals as goal

pub returns-clause-moved : goal.returns-clause-moved
returns-clause-moved c = λ facts p q d homes entries store stacks stacks' table table' h moves apart tried.
    moved_alone facts p homes entries store stacks stacks' table table' h moves q d apart tried

pub returns-clause-written : goal.returns-clause-written
returns-clause-written c = λ facts p q d homes entries store stacks stacks' table table' h l t place v moves apart tried lies.
    written_alone facts p homes entries store stacks stacks' table table' h moves q d apart tried l t place v lies
