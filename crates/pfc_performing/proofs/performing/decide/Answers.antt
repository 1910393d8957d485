use Rattle.std.proofs.Common.{[], sym, ap}
use Rattle.std.proofs.lemmas.List.{append-nil}
use Rattle.pfc_pending.specs.declared.actions.Deed.TheVariants as deed
use Rattle.pfc_performing.proofs.performing.decide.Goals as goal

pub returns-in-Ok-clause-ok : goal.returns-in-Ok-clause-ok
returns-in-Ok-clause-ok c = λ out g k a program is_at.
    let (picked, ends) = c.in-Ok.ensures.ok g k a program is_at in
    record { bytes = []; written = sym (append-nil out); ends = ends; picked = picked }

pub returns-in-Err-clause-given : goal.returns-in-Err-clause-given
returns-in-Err-clause-given c = ap deed.Decides c.in-Err.ensures.given
