use Rattle.pfc_deciding.proofs.Chosen.{chosen_ok, stays_err}
use Rattle.pfc_deciding.proofs.Ways.{may_alike}
use Rattle.pfc_deciding.proofs.deciding.decides.Goals as goal

pub decide-requires-clause-may : goal.decide-requires-clause-may
decide-requires-clause-may c = may_alike c.args.state.now c.room_here.new.state c.args.p c.requires c.room_here.ensures.alike

pub returns-in_default-clause-err : goal.returns-in_default-clause-err
returns-in_default-clause-err c = c.room_here.ensures.same

pub returns-in_default-arms_here-clause-err : goal.returns-in_default-arms_here-clause-err
returns-in_default-arms_here-clause-err c = c.room_here.ensures.same

pub returns-clause-ok : goal.returns-clause-ok
returns-clause-ok c =
    chosen_ok c.args.source.now c.args.state.now c.room_here.new.state c.decide.new.state c.args.picker.now c.decide.new.picker c.args.p c.args.select
    c.decide.result c.room_here.ensures.same c.decide.ensures.ok

pub returns-clause-err : goal.returns-clause-err
returns-clause-err c =
    stays_err c.args.state.now c.room_here.new.state c.decide.new.state c.args.p c.decide.result c.room_here.ensures.same c.decide.ensures.err
