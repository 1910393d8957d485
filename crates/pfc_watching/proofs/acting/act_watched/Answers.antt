use Rattle.pfc_watching.proofs.Told.{watched_so}
use Rattle.pfc_watching.proofs.acting.act_watched.Goals as goal

pub returns-clause-watched : goal.returns-clause-watched
returns-clause-watched c =
    watched_so c.args.source.now c.args.state.now c.act_told.new.state c.args.p c.args.picker.now c.act_told.new.picker c.args.out.now c.act_told.new.out
    c.args.waited.now c.waits_behind.result c.joins-joins.result c.in_ok-walked.walked c.joins-joins.ensures
    c.in_ok-walked.ensures.ok c.in_ok-walked.ensures.told
    c.waits_behind.ensures
