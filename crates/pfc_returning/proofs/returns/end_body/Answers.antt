use Rattle.pfc_returning.proofs.Finishing.{process_so, performs_so, unchanged_so}
use Rattle.pfc_returning.proofs.returns.end_body.Goals as goal

pub returns-in-Process-clause-ok : goal.returns-in-Process-clause-ok
returns-in-Process-clause-ok c =
    process_so c.args.state.now c.end_process.new.state c.args.p c.args.line c.end_process.result c.in-Process.ensures c.end_process.ensures
    c.args.source.now

pub returns-in-Statement-clause-ok : goal.returns-in-Statement-clause-ok
returns-in-Statement-clause-ok c = c.return_to_statement.ensures c.args.source.now

pub returns-in-Monitor-clause-ok : goal.returns-in-Monitor-clause-ok
returns-in-Monitor-clause-ok c =
    performs_so c.args.source.now c.args.state.now c.return_from_monitor.new.state c.args.p c.args.line c.return_from_monitor.result
    c.return_from_monitor.ensures.ok

pub returns-in-Monitor-clause-err : goal.returns-in-Monitor-clause-err
returns-in-Monitor-clause-err c =
    unchanged_so c.args.state.now c.return_from_monitor.new.state c.args.p c.return_from_monitor.result c.return_from_monitor.ensures.err
