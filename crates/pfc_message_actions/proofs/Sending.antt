-- Words of a process that go to cells, and are popped.
use Rattle.std.proofs.Common.{◌≡◌, ℕ, ◌+◌, ◌<◌, ℤ, List, length, take, drop, refl, sym, ap, ◌∙◌, subst}
use Rattle.std.specs.Prelude.{reverse}
use Rattle.std.proofs.lemmas.List.{drop-drop, length-set}
use Rattle.pfc_stacks.specs.declared.refs.Ref.{Ref}
use Rattle.pfc_stacks.specs.Effects.{passed}
use Rattle.pfc_stacks.specs.Stacks.{Stack, Stacks, no_stack, stack_of, operands_of, with_words, written}
use Rattle.pfc_stacks.proofs.Writes.{kept_at, operands_written}
use Rattle.pfc_machines.proofs.Placing.{with_operands, operands_after, passed_after}

-- a write leaves how many processes there are, and where each is
pub length_written : (stacks : Stacks) (r : Ref) (ws : List ℤ) → length (written stacks r ws) ≡ length stacks
length_written stacks r ws =
    let s : Stack = stack_of stacks r.process in
    length-set stacks r.process (record s { cells = with_words s.cells r.cell ws })

pub at_written : (stacks : Stacks) (r : Ref) (ws : List ℤ) (p : ℕ) → (stack_of (written stacks r ws) p).at ≡ (stack_of stacks p).at
at_written stacks r ws p =
    let s : Stack = stack_of stacks r.process in
    kept_at (λ (s : Stack). s.at) stacks r.process (record s { cells = with_words s.cells r.cell ws }) no_stack refl p

-- z words are popped, and then one more
module _ (stacks : Stacks) (p z : ℕ) (h : p < length stacks) where
  abbrev ops : List ℤ
  ops = operands_of stacks p

  pub popped_more : passed (with_operands stacks p (drop z ops)) p (drop 1 (operands_of (with_operands stacks p (drop z ops)) p))
      ≡ passed stacks p (drop (z + 1) ops)
  popped_more =
      ap (λ (xs : List ℤ). passed (with_operands stacks p (drop z ops)) p (drop 1 xs)) (operands_after stacks p (drop z ops) h)
      ∙ passed_after stacks p (drop z ops) (drop 1 (drop z ops)) h
      ∙ ap (λ (xs : List ℤ). passed stacks p xs) (drop-drop 1 z ops)

-- they are written before
pub sent_out_is : (stacks : Stacks) (p z : ℕ) (to : Ref) → p < length stacks → (s1 s2 s3 : Stacks)
    → s1 ≡ written stacks to (reverse (take z (drop 0 (operands_of stacks p)))) → s2 ≡ with_operands s1 p (drop z (operands_of s1 p))
    → s3 ≡ passed s2 p (drop 1 (operands_of s2 p))
    → s3 ≡ passed (written stacks to (reverse (take z (operands_of stacks p)))) p (drop (z + 1) (operands_of stacks p))
sent_out_is stacks p z to h s1 s2 s3 e1 e2 e3 =
    let ws : List ℤ = reverse (take z (operands_of stacks p)) in
    let there : Stacks = written stacks to ws in
    let inside : p < length there = subst (λ n. p < n) (sym (length_written stacks to ws)) h in
    e3 ∙ ap (λ (s : Stacks). passed s p (drop 1 (operands_of s p))) (e2 ∙ ap (λ (s : Stacks). with_operands s p (drop z (operands_of s p))) e1)
    ∙ popped_more there p z inside
    ∙ ap (λ (xs : List ℤ). passed there p (drop (z + 1) xs)) (operands_written stacks to ws p)
