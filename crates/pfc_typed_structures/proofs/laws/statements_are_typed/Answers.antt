use Rattle.pfc_types.proofs.Clean.{listed-clean}
use Rattle.pfc_types.specs.rules.Statements.{broken_stmts}
use Rattle.pfc_typed_structures.specs.Inside.{itself}
use Rattle.pfc_typed_structures.proofs.Structures.{stmts_typed}
use Rattle.pfc_typed_structures.proofs.laws.statements_are_typed.Goals as goal

pub returns : goal.returns
returns c = λ s n q ts met scopes entries labelled h.
    stmts_typed s met q (λ a b. (entries a b).0) ts s itself n scopes (λ a b. (entries a b).1) labelled (listed-clean (broken_stmts s.env n ts) h)
