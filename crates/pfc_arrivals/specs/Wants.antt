-- Which actions of the source text may want memory.
use Rattle.std.specs.Prelude.{◌≡◌}
use Rattle.pfc_base.specs.declared.faults.RunFault.TheVariants.{Width}
use Rattle.pfc_semantics.specs.Remainders.{Call, to_entry, Action, calls, prints, faults}

-- every call but that of an entry begins an activation
abbrev pub BeginsActivation : Call → Type 0
BeginsActivation (to_entry v entry k) = ⊥
BeginsActivation call = Unit {0}

-- Memory may be wanting at a call of a sub, a requeue, a creation and an output piece, and at no other action. So it may at a piece whose width is out of
-- bounds, which is a fault: what is told of the machine's actions looks at the instruction alone.
abbrev pub MayWantMemory : Action → Type 0
MayWantMemory (calls x call given) = BeginsActivation call
MayWantMemory (prints x bytes k) = Unit {0}
MayWantMemory (faults x f) = f ≡ Width
MayWantMemory n = ⊥
