use Rattle.std.proofs.Common.{refl}
use Rattle.pfc_object_laws.proofs.Mains.{all_kinds, carried_count, kind_there, processes_are}
use Rattle.pfc_object_laws.proofs.laws.objects_have_kinds.Goals as goal

pub returns-clause-kinds : goal.returns-clause-kinds
returns-clause-kinds c = λ t mains.
    (all_kinds t mains, refl, refl, carried_count t mains, refl, λ k m path u o there leads. kind_there t mains k m path u o there leads)

pub returns-clause-processes : goal.returns-clause-processes
returns-clause-processes c = λ t mains. processes_are t mains
