use Rattle.std.proofs.Common.{◌≡◌, ℕ, ◌+◌, ◌-◌, ◌∷◌, [], ◌++◌, List, ap, ◌∙◌, arith}
use Rattle.std.specs.Prelude.{replicate}
use Rattle.std.proofs.lemmas.List.{replicate_more}
use Rattle.pfc_stacks.specs.Stacks.{Stack, idle_stack}
use Rattle.pfc_stacks.proofs.stacks.begun.Goals as goal

pub loop-preserved : goal.loop-preserved
loop-preserved c =
    let first : Stack = c.args.main in
    let idle : Stack = idle_stack c.args.spare in
    let place : c.loop.counter - 1 + 1 ≡ c.loop.counter + 1 - 1 = omega arith in
    let more : (first ∷ replicate (c.loop.counter - 1) idle) ++ idle ∷ [] ≡ first ∷ replicate (c.loop.counter + 1 - 1) idle =
    ap (λ (rest : List Stack). first ∷ rest) (replicate_more (c.loop.counter - 1) idle ∙ ap (λ (n : ℕ). replicate n idle) place) in
    let last : c.push-in-loop.new.self.items ≡ c.loop.stacks.items ++ c.idle.result ∷ [] = c.in_ok-push-2.ensures.items in
    last
    ∙ ap (λ (stacks : List Stack). stacks ++ c.idle.result ∷ []) c.loop.invariant
    ∙ ap (λ (last : Stack). (first ∷ replicate (c.loop.counter - 1) idle) ++ last ∷ []) c.idle.ensures
    ∙ more

pub returns : goal.returns
returns c =
    let first : Stack = c.args.main in
    let some = c.requires in
    let place : c.loop.counter - 1 ≡ c.args.n - 1 = omega arith in
    c.loop.invariant ∙ ap (λ (n : ℕ). first ∷ replicate n (idle_stack c.args.spare)) place
