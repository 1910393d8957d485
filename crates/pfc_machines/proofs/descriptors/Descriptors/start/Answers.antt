use Rattle.std.proofs.Common.{◌≡◌, List, [], ◌∷◌, sym, subst, refl, arith}
use Rattle.pfc_code.specs.declared.images.Block.{Block}
use Rattle.pfc_code.specs.declared.images.ProcessInfo.{ProcessInfo}
use Rattle.pfc_machines.specs.declared.descriptors.Descriptor.{Descriptor}
use Rattle.pfc_machines.specs.Descriptors.{descriptor_of, declared_descriptors}
use Rattle.pfc_machines.proofs.descriptors.Descriptors.start.Goals as goal

-- nobody has an activation before that
nobody_entered : (blocks : List Block) (processes : List ProcessInfo) → (descriptor_of (declared_descriptors blocks processes) 0).activations ≡ 0
nobody_entered blocks [] = refl
nobody_entered blocks (p ∷ ps) = refl

pub enter-requires-clause-few : goal.enter-requires-clause-few
enter-requires-clause-few c =
    let none : (descriptor_of c.in_ok-declared_descriptors.field-0.items 0).activations ≡ 0 =
    subst (λ (ds : List Descriptor). (descriptor_of ds 0).activations ≡ 0) (sym c.in_ok-declared_descriptors.ensures)
    (nobody_entered c.args.blocks.now c.args.processes.now) in
    omega (arith, none)
