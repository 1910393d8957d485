use Rattle.pfc_object_laws.proofs.Mains.{found, only}
use Rattle.pfc_object_laws.proofs.laws.objects_are_found.Goals as goal

pub returns-clause-found : goal.returns-clause-found
returns-clause-found c = λ t k m path u o mains there leads object. found t mains k m path u o there leads object

pub returns-clause-only : goal.returns-clause-only
returns-clause-only c = λ t w n mains e. only t mains w n e
