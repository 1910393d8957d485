use Rattle.std.proofs.Common.{subst, sym}
use Rattle.pfc_stacks.specs.Answers.{IsDone}
use Rattle.pfc_stacks.specs.Effects.{Effect}
use Rattle.pfc_stacks.proofs.Defaults.{IsInside, effect-inside, asks_inside}
use Rattle.pfc_stacks.proofs.stacks.Stacks.perform.Goals as goal

pub perform_inside-requires-clause-condition : goal.perform_inside-requires-clause-condition
perform_inside-requires-clause-condition c =
    let inside : IsInside c.args.i = record { call = c.requires.other; ret = c.in_default.not-RET; retf = c.in_default.not-RETF } in
    asks_inside c.args.blocks.now c.args.i c.args.p c.args.self.now inside c.requires.condition

pub returns-in_default : goal.returns-in_default
returns-in_default c =
    let inside : IsInside c.args.i = record { call = c.requires.other; ret = c.in_default.not-RET; retf = c.in_default.not-RETF } in
    subst (λ (e : Effect). IsDone e c.args.self.now c.perform_inside.result c.perform_inside.new.self)
    (sym (effect-inside c.args.blocks.now c.args.i c.args.p c.args.self.now inside)) c.perform_inside.ensures

pub returns-in-RET : goal.returns-in-RET
returns-in-RET c = rw c.in-RET.is (c.end_plain.ensures c.args.blocks.now)
