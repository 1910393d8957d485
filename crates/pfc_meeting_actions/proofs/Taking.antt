-- The arguments of a caller.
use Rattle.std.proofs.Common.{◌≡◌, ℕ, ◌+◌, ◌<◌, ℤ, List, length, take, drop, sym, ap, ◌∙◌, subst}
use Rattle.std.specs.Prelude.{reverse}
use Rattle.std.proofs.lemmas.List.{drop-drop, length-set}
use Rattle.pfc_stacks.specs.declared.refs.Ref.{Ref}
use Rattle.pfc_stacks.specs.Stacks.{Stack, Stacks, stack_of, operands_of, with_words, written}
use Rattle.pfc_stacks.proofs.Writes.{operands_written}
use Rattle.pfc_machines.proofs.Placing.{with_operands, operands_after, twice}

-- they are written, and popped with one more
pub taken_is : (stacks : Stacks) (p z : ℕ) (to : Ref) → p < length stacks → (s1 s2 s3 : Stacks)
    → s1 ≡ written stacks to (reverse (take z (drop 0 (operands_of stacks p)))) → s2 ≡ with_operands s1 p (drop z (operands_of s1 p))
    → s3 ≡ with_operands s2 p (drop 1 (operands_of s2 p))
    → s3 ≡ with_operands (written stacks to (reverse (take z (operands_of stacks p)))) p (drop (z + 1) (operands_of stacks p))
taken_is stacks p z to h s1 s2 s3 e1 e2 e3 =
    let ws : List ℤ = reverse (take z (operands_of stacks p)) in
    let there : Stacks = written stacks to ws in
    let s : Stack = stack_of stacks to.process in
    let inside : p < length there = subst (λ n. p < n) (sym (length-set stacks to.process (record s { cells = with_words s.cells to.cell ws }))) h in
    let ops : List ℤ = operands_of there p in
    let cut : s2 ≡ with_operands there p (drop z ops) = e2 ∙ ap (λ (s : Stacks). with_operands s p (drop z (operands_of s p))) e1 in
    e3 ∙ ap (λ (s : Stacks). with_operands s p (drop 1 (operands_of s p))) cut
    ∙ ap (λ (xs : List ℤ). with_operands (with_operands there p (drop z ops)) p (drop 1 xs)) (operands_after there p (drop z ops) inside)
    ∙ twice there p (drop z ops) (drop 1 (drop z ops)) inside
    ∙ ap (λ (xs : List ℤ). with_operands there p xs) (drop-drop 1 z ops ∙ ap (drop (z + 1)) (operands_written stacks to ws p))
