use Rattle.pfc_views.proofs.Named.{lies_in_view}
use Rattle.pfc_views.proofs.laws.named_variables_lie_in_view.Goals as goal

pub returns : goal.returns
returns c = λ g homes entries store keeps display b accepts w chain view stacks env line v t word sound memory sees known is.
    lies_in_view g sound homes entries store keeps display b accepts w chain view stacks memory sees env line v t word known is
