use Rattle.pfc_types.proofs.FaultyExprs.{expressions_faulty}
use Rattle.pfc_types.proofs.WalkParts.{types_begin, names_faulty}
use Rattle.pfc_types.proofs.laws.an_expression_is_faulty_exactly.Goals as goal

pub returns : goal.returns
returns c = record { parts = expressions_faulty; table = types_begin; names = names_faulty }
