use Rattle.std.proofs.Common.{◌≡◌, ℕ, ◌-◌, List, sym, ap, ap₂, ◌∙◌, arith}
use Rattle.pfc_state.specs.declared.waits.Arm.{Arm}
use Rattle.pfc_machines.specs.declared.alternatives.Alternative.{Alternative}
use Rattle.pfc_machines.specs.Communications.{Communicating}
use Rattle.pfc_machines.specs.Offers.{arms_of}
use Rattle.pfc_machines.proofs.Ends.{last_arms, arms_no_more}
use Rattle.pfc_machines.proofs.communications.Communications.arms.Goals as goal

pub overflow_sub-earlier : goal.overflow_sub-earlier
overflow_sub-earlier c =
    let made : List Alternative = c.args.self.now.alternatives in
    let known : c.self.inside.arms.items ≡ arms_of made =
    c.self.invariant.2 ∙ ap (λ (e : Communicating). arms_of e.alternatives) c.self.view_is in
    let few = arms_no_more c.self.inside.arms.items made c.args.n known in
    omega (arith, few, c.arms_in.ensures, c.len.ensures, c.self.inside.arms.ok.0)

pub returns : goal.returns
returns c =
    let made : List Alternative = c.args.self.now.alternatives in
    let arms : List Arm = c.deref.result.now in
    let known : arms ≡ arms_of made =
    c.deref.ensures.value ∙ c.self.invariant.2 ∙ ap (λ (e : Communicating). arms_of e.alternatives) c.self.view_is in
    last_arms arms made c.args.n (c.len.result - c.arms_in.result) known
    (ap₂ (λ (l m : ℕ). l - m) (c.len.ensures ∙ sym c.deref.ensures.len) c.arms_in.ensures)
