use Rattle.pfc_call_laws.proofs.Calling.{sees, shows_call, caller_sees, held, stands_in, not_kept}
use Rattle.pfc_call_laws.proofs.laws.calls_are_seen.Goals as goal

pub returns-clause-seen : goal.returns-clause-seen
returns-clause-seen c = λ g homes entries config stacks b w hand p at room k l ops callee code mark values e below hold stands living free place scopes nested
    shows lent holds. (
      sees g homes entries config stacks w p at room k l ops callee code mark values e below hold stands living free place scopes holds b hand
          nested shows lent,
      shows_call g homes entries config stacks w p at room k l ops callee code mark values e below hold stands living free place scopes holds b hand
          nested shows,
      caller_sees g homes entries config stacks w p at room k l ops callee code mark values e below hold stands living free place scopes holds b hand,
    )

pub returns-clause-held : goal.returns-clause-held
returns-clause-held c = λ g homes entries config stacks w p at room k l ops callee code mark values e below hold stands living free place scopes none holds.
    held g homes entries config stacks w p at room k l ops callee code mark values e below hold stands living free place scopes holds none

pub returns-clause-stands : goal.returns-clause-stands
returns-clause-stands c = λ stacks w p at room k l i ops code mark stands looks. stands_in stacks w p at room k l ops code mark stands i looks

pub returns-clause-fresh : goal.returns-clause-fresh
returns-clause-fresh c = λ g homes entries store stacks b w hand a hold free. not_kept g homes entries store stacks b w hand a hold free
