use Rattle.std.proofs.Common.{[], sym, ◌∙◌, subst}
use Rattle.std.proofs.lemmas.List.{append-nil}
use Rattle.pfc_values.specs.declared.pieces.PieceFault.{PieceFault}
use Rattle.pfc_values.specs.Outputs.{IsRefusedBy}
use Rattle.pfc_values.specs.Pieces.{piece as piece_of}
use Rattle.pfc_pending.specs.Pieces.{piece_bytes}
use Rattle.pfc_deeds.proofs.Performing.{prints_so, prints_stop}
use Rattle.pfc_deeds.proofs.output.prints.Goals as goal

pub returns-in-Ok-clause-ok : goal.returns-in-Ok-clause-ok
returns-in-Ok-clause-ok c =
    let gains = c.in-Ok.ensures.ok in (
      gains.added,
      gains.bytes,
      prints_so c.args.state.now c.go_on.new.self c.args.p c.args.bytes c.args.width gains.added c.go_on.result gains.given c.go_on.ensures,
    )

pub returns-in-Err-Fault-clause-ok : goal.returns-in-Err-Fault-clause-ok
returns-in-Err-Fault-clause-ok c =
    let refused =
    subst (λ (f : PieceFault). IsRefusedBy (piece_of c.args.width (piece_bytes c.args.bytes)) f)
    c.in-Err-Fault.field-0-is c.in-Err-Fault.ensures.fault in (
      [],
      c.in-Err-Fault.ensures.err ∙ sym (append-nil c.args.out.now),
      prints_stop c.args.state.now c.end_in_fault.new.self c.args.p c.args.bytes c.args.width c.in-Err-Fault.fault c.end_in_fault.result refused
          c.end_in_fault.ensures,
    )
