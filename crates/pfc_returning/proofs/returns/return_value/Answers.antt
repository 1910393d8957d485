use Rattle.pfc_store.specs.Views.{value_view}
use Rattle.pfc_returning.proofs.Finishing.{value_so}
use Rattle.pfc_returning.proofs.Scanning.{nothing_so, on_err}
use Rattle.pfc_returning.proofs.returns.return_value.Goals as goal

pub returns-in_err-value-clause-err : goal.returns-in_err-value-clause-err
returns-in_err-value-clause-err c = on_err _ _ (nothing_so c.args.state.now c.args.p)

pub returns-clause-ok : goal.returns-clause-ok
returns-clause-ok c =
    value_so c.args.source.now c.args.state.now c.go_back_from.new.state c.args.p c.args.number c.args.scope c.args.line
    (value_view c.in_ok-value.value) c.go_back_from.result c.requires.way c.in_ok-value.ensures c.go_back_from.ensures
