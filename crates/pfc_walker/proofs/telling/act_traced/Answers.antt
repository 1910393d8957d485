use Rattle.std.proofs.Common.{ap, ◌∙◌, List, ℕ, ◌++◌}
use Rattle.pfc_walker.proofs.Acted.{put_so, told_traced}
use Rattle.pfc_walker.proofs.telling.act_traced.Goals as goal

pub returns-clause-ok : goal.returns-clause-ok
returns-clause-ok c =
    told_traced c.args.source.now c.args.state.now c.act.new.state c.args.p c.args.picker.now c.act.new.picker c.args.out.now c.put.new.self c.in_ok-done.done
    c.new-line.result c.act.new.out c.in_ok-done.ensures.ok
    (put_so c.args.out.now c.put.new.self c.bytes.result.now c.in-Ok.ensures.ok
    ∙ ap (λ (x : List ℕ). c.args.out.now ++ x) (c.bytes.ensures ∙ c.in_ok-write_actor.ensures))
