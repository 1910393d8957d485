use Rattle.std.proofs.Common.{subst, sym}
use Rattle.pfc_base.specs.Names.{IsLowerName}
use Rattle.pfc_base.proofs.Lowered.{lowered}
use Rattle.pfc_base.proofs.names.Name.new.Goals as goal

pub invariant_of-result : goal.invariant_of-result
invariant_of-result c = subst IsLowerName (sym c.in_ok-text.ensures) (lowered _ c.requires)
