use Rattle.pfc_nesting_laws.proofs.Chains.{nested}
use Rattle.pfc_nesting_laws.proofs.laws.reached_blocks_are_nested.Goals as goal

pub returns : goal.returns
returns c = λ g b callee reached reached_callee by_scope own once once_callee seen no_accept.
    nested g b callee reached reached_callee by_scope own once once_callee seen no_accept
