use Rattle.std.proofs.Common.{◌≡◌, ℕ, false, Err, sym, ap, ◌∙◌, subst, w64}
use Rattle.std.proofs.lemmas.Int.{to_z-of_z}
use Rattle.pfc_state.specs.Stands.{is_unfinished}
use Rattle.pfc_stacks.specs.Activations.{params_of}
use Rattle.pfc_stacks.specs.Refs.{number_of}
use Rattle.pfc_stacks.specs.Stacks.{operand, operands_of}
use Rattle.pfc_world.specs.Tables.{at}
use Rattle.pfc_machines.specs.declared.actions.ActionFault.{ActionFault}
use Rattle.pfc_machines.specs.declared.machine.Machine.{Machine}
use Rattle.pfc_machines.specs.Actions.{IsTaken}
use Rattle.pfc_own_actions.specs.Creating.{created_by, creates}
use Rattle.pfc_own_actions.proofs.Beginning.{created_is, failed_is}
use Rattle.pfc_own_actions.proofs.creating.create.Goals as goal

pub returns-in-Ok : goal.returns-in-Ok
returns-in-Ok c = λ b is.
    let m : Machine = c.args.machine.now in
    let p : ℕ = c.args.r.number in
    let q : c.number_in-q.result ≡ created_by m p b =
    c.number_in-q.ensures
    ∙ ap number_of (to_z-of_z w64 c.top.result (record { sfits = c.top.type_inv }) ∙ c.top.ensures
    ∙ ap (λ (j : ℕ). operand (operands_of m.stacks j) c.params_in.result) c.number-p.ensures
    ∙ ap (operand (operands_of m.stacks p)) (c.params_in.ensures ∙ ap params_of is)) in
    let free : is_unfinished (at c.rest.new.self.rows c.number_in-q.result) ≡ false = sym c.is_unfinished.ensures ∙ c.if-is_unfinished.false in
    created_is c.args.k b m c.begin.new.machine p c.number-p.result c.number_in-q.result c.rest.new.self c.number-p.ensures q c.rest.ensures free
    c.create-made.new.self c.create-made.result c.in-Ok.field-0 (c.in-Ok.ensures.begun b is) c.in-Ok.ensures.world c.create-made.ensures

pub returns-in-Err : goal.returns-in-Err
returns-in-Err c = λ b is.
    let m : Machine = c.args.machine.now in
    let p : ℕ = c.args.r.number in
    let q : c.number_in-q.result ≡ created_by m p b =
    c.number_in-q.ensures
    ∙ ap number_of (to_z-of_z w64 c.top.result (record { sfits = c.top.type_inv }) ∙ c.top.ensures
    ∙ ap (λ (j : ℕ). operand (operands_of m.stacks j) c.params_in.result) c.number-p.ensures
    ∙ ap (operand (operands_of m.stacks p)) (c.params_in.ensures ∙ ap params_of is)) in
    let free : is_unfinished (at c.rest.new.self.rows c.number_in-q.result) ≡ false = sym c.is_unfinished.ensures ∙ c.if-is_unfinished.false in
    subst (λ (f : ActionFault). IsTaken (creates c.args.k b p m) m (Err f) c.begin.new.machine) (sym c.fault_of.ensures)
    (failed_is c.args.k b m c.begin.new.machine p c.number-p.result c.number_in-q.result c.rest.new.self c.number-p.ensures q c.rest.ensures free
    c.in-Err.fault (c.in-Err.ensures.begun b is))
