use Rattle.std.proofs.Common.{◌≡◌, ◌+◌, ◌-◌, Some, subst, arith}
use Rattle.pfc_semantics.specs.Time.{settled_config}
use Rattle.pfc_walker.specs.Courses.{IsTurn}
use Rattle.pfc_walker.proofs.turns.turn.Goals as goal

pub next_actor-requires : goal.next_actor-requires
next_actor-requires c = let (g, c', program, stands) = c.requires.before in (c.args.source.now, c', stands)

pub act_out-requires-clause-before : goal.act_out-requires-clause-before
act_out-requires-clause-before c =
    let (g, c', program, stands) = c.requires.before in (g, settled_config c', program, c.in-Ok.ensures.stands c.args.source.now c' stands)

pub returns-in-Ok-clause-turn : goal.returns-in-Ok-clause-turn
returns-in-Ok-clause-turn c = λ g c' program stands.
    let one : (c.args.left - 1) + 1 ≡ c.args.left = omega (arith, c.in-Ok.ensures.some) in
    subst (λ n. IsTurn c.args.told c.args.source.now g c.args.limit n c.args.picker.now c.act_out.new.picker c' c.act_out.new.state c.act_out.result
    (Some c.args.out.now) (Some c.act_out.new.out)) one
    (c.act_out.ensures.turn g c.args.limit (c.args.left - 1) c.args.picker.now c' (settled_config c') program
    (c.in-Ok.ensures.stands c.args.source.now c' stands) (c.in-Ok.ensures.pick c.args.source.now g c' stands))

pub returns-in-Err-clause-turn : goal.returns-in-Err-clause-turn
returns-in-Err-clause-turn c = λ g c' program stands. (c.in-Err.ensures.over c.args.source.now g c' stands).course c.args.told c.args.out.now
