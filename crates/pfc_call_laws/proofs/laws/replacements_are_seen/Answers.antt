use Rattle.pfc_call_laws.proofs.Replacing.{replaced_sees, shows_replaced, held_replaced, stands_replaced}
use Rattle.pfc_call_laws.proofs.laws.replacements_are_seen.Goals as goal

pub returns-clause-seen : goal.returns-clause-seen
returns-clause-seen c = λ g homes entries config main p k base ops b callee display code values e below sound living gone link free few place scopes nested
    shows_main none_shown shows lent holds. (
      replaced_sees g homes entries config p k base ops callee code values e below main living gone link free few place scopes nested shows_main none_shown b
          display shows lent holds sound,
      shows_replaced g homes entries config p k base ops callee code values e below main living gone link free few place scopes nested shows_main none_shown b
          display shows,
    )

pub returns-clause-held : goal.returns-clause-held
returns-clause-held c = λ g homes entries config stacks p k callee code values e caller below old hold there living at base none_ends free place scopes none
    holds.
    held_replaced g homes entries config stacks p k callee code values e caller below old hold there living at base none_ends free place scopes none holds

pub returns-clause-stands : goal.returns-clause-stands
returns-clause-stands c = λ stacks p k at room i ops w code stands looks. stands_replaced stacks p k at room ops w code stands looks i
