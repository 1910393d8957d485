use Rattle.std.proofs.Common.{ℕ, sym, subst}
use Rattle.pfc_code.specs.Images.{plain_image}
use Rattle.pfc_machine_acts.specs.Acting.{choice_among}
use Rattle.pfc_machine_acts.specs.Conditions.{CanSelect}
use Rattle.pfc_machine_acts.specs.Performing.{choices_for}
use Rattle.pfc_machine_acts.proofs.Ends.{selects_so}
use Rattle.pfc_machine_acts.proofs.acts.carry_out.Goals as goal

pub choices_for-n-requires : goal.choices_for-n-requires
choices_for-n-requires c =
    let choice : ℕ = choice_among c.args.picker.now (choices_for c.args.i c.args.r.number c.args.machine.now) in (
      choice,
      subst (λ (p : ℕ). CanSelect c.args.i choice p c.args.machine.now) (sym c.number-p.ensures)
          (selects_so (plain_image c.args.image.now) c.args.i choice c.args.r.number c.args.machine.now c.requires.can),
    )
