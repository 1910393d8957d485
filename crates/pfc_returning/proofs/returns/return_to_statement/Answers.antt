use Rattle.pfc_store.specs.Views.{value_view}
use Rattle.pfc_returning.proofs.Finishing.{statement_so}
use Rattle.pfc_returning.proofs.returns.return_to_statement.Goals as goal

pub returns : goal.returns
returns c =
    statement_so c.args.state.now c.go_back_from.new.state c.args.p c.args.number c.args.line (value_view c.of.result) c.go_back_from.result
    c.requires.way c.go_back_from.ensures
