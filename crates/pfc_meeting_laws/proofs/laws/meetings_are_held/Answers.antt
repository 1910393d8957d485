use Rattle.pfc_call_laws.proofs.Passing.{words_hold, words_left, words_lent}
use Rattle.pfc_meeting_laws.proofs.Taking.{taken_there}
use Rattle.pfc_meeting_laws.proofs.Meetings.{others_see, held}
use Rattle.pfc_meeting_laws.proofs.laws.meetings_are_held.Goals as goal

pub returns-clause-passed : goal.returns-clause-passed
returns-clause-passed c = λ g homes entries config stacks b w hand p z x formals parameters given ops below hold display known laid cells are. (
  words_hold g homes entries config stacks b w hand p x hold display known formals parameters given ops below z laid cells are,
  words_left g homes entries config stacks b w hand p x hold display known formals parameters given ops below z laid cells are,
  λ k t there. words_lent g homes entries config stacks b w hand p x hold display known formals parameters given ops below z laid cells are k t there,
)

pub returns-clause-held : goal.returns-clause-held
returns-clause-held c = λ g homes entries store stacks caller a first home parameters args words left there hold lives at none holds.
    held g homes entries store stacks a first home parameters args words there hold lives at none holds caller left

pub returns-clause-values : goal.returns-clause-values
returns-clause-values c = λ first n args values few fit. taken_there first n args values few fit

pub returns-clause-seen : goal.returns-clause-seen
returns-clause-seen c = λ g keeps homes entries store a new display b accepts w chain view apart sees.
    others_see g keeps homes entries store a new display b accepts w chain view apart sees
