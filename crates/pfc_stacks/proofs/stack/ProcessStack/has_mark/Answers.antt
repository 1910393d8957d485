use Rattle.std.proofs.Common.{◌≡◌, ℕ, suc, ◌+◌, ◌-◌, false, ◌∙◌, sym, arith}
use Rattle.pfc_stacks.specs.declared.marks.Mark.TheVariants.{Monitor}
use Rattle.pfc_stacks.specs.Activations.{has_mark_at}
use Rattle.pfc_stacks.proofs.Marked.{marked_behind, unmarked}
use Rattle.pfc_stacks.proofs.stack.ProcessStack.has_mark.Goals as goal

pub returns-then-caller-base : goal.returns-then-caller-base
returns-then-caller-base c =
    let s = c.args.self.now in
    let n : ℕ = s.base - c.loop.counter in
    let m : ℕ = s.base - (c.loop.counter + 1) in
    let more : n ≡ suc m = omega arith in
    let none : false ≡ has_mark_at (Monitor c.args.m) s.cells c.loop.base = sym c.if-has_mark_at.false ∙ c.has_mark_at.ensures in
    let caller : ℕ = c.caller_of-caller.result in
    unmarked n m caller (Monitor c.args.m) s.cells c.loop.base more none c.caller_of-caller.ensures c.if-caller-base.true ∙ c.loop.invariant

pub loop-preserved : goal.loop-preserved
loop-preserved c =
    let s = c.args.self.now in
    let n : ℕ = s.base - c.loop.counter in
    let m : ℕ = s.base - (c.loop.counter + 1) in
    let more : n ≡ suc m = omega arith in
    let none : false ≡ has_mark_at (Monitor c.args.m) s.cells c.loop.base = sym c.if-has_mark_at.false ∙ c.has_mark_at.ensures in
    let caller : ℕ = c.caller_of-caller.result in
    marked_behind n m caller (Monitor c.args.m) s.cells c.loop.base more none c.caller_of-caller.ensures c.if-caller-base.false ∙ c.loop.invariant
