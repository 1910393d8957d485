use Rattle.std.proofs.Common.{refl, ap₂, ◌∙◌}
use Rattle.std.specs.Prelude.{ℕ, []}
use Rattle.pfc_semantics.specs.Store.{variable}
use Rattle.pfc_stacks.specs.Activations.{returned, returned_with}
use Rattle.pfc_stacks.specs.Stacks.{stack_of}
use Rattle.pfc_call_laws.proofs.Returning.{others_still, held_left, held_ended, stands_back, stands_back_with, result_held}
use Rattle.pfc_call_laws.proofs.laws.returns_keep_the_callers.Goals as goal

pub returns-clause-seen : goal.returns-clause-seen
returns-clause-seen c = λ g keeps homes entries store p e below display b accepts w chain view living gone sees.
    others_still g keeps homes entries store p e below display b accepts w chain view living gone sees

pub returns-clause-returned : goal.returns-clause-returned
returns-clause-returned c = λ g homes entries store stacks p e below home hold there living at base none.
    held_left g homes entries store stacks p e below hold living home at base none (returned (stack_of stacks p)) refl there

pub returns-clause-returned_with : goal.returns-clause-returned_with
returns-clause-returned_with c = λ g homes entries store stacks p e below home v hold there living at base none.
    held_left g homes entries store stacks p e below hold living home at base none (returned_with v (stack_of stacks p)) refl there

pub returns-clause-ended : goal.returns-clause-ended
returns-clause-ended c = λ g homes entries store stacks p e home hold living at none. held_ended g homes entries store stacks p e hold living home at none

pub returns-clause-stands : goal.returns-clause-stands
returns-clause-stands c = λ g homes entries store stacks p e below home k code link mark before at' room ops w v hold living at base is address caller stands
    looks. (
      stands_back g homes entries store stacks p e below hold living home at base k code link mark before is address caller at' room ops w stands looks,
      stands_back_with g homes entries store stacks p e below hold living home at base k code link mark before is address caller at' room ops w stands looks v,
    )

pub returns-clause-result : goal.returns-clause-result
returns-clause-result c = λ g homes entries config stacks p n e below home a t code hold living at base number formals laid simple params.
    ap₂ (λ (x k : ℕ). variable config.store (record { activation = x; variable = k; selectors = [] })) number formals
    ∙ result_held g homes entries config.store stacks p e below hold living home at base n t code laid simple params
