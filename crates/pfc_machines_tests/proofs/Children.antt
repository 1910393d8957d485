-- The stack of a process that was created.
use Rattle.std.proofs.Common.{◌≡◌, ℕ, ◌+◌, ◌-◌, ◌<◌, List, [], ◌∷◌, length, drop, set, get_or, Some, sym, ap, subst, ◌∙◌, arith}
use Rattle.std.specs.List.{slice_get}
use Rattle.std.proofs.lemmas.List.{length-set, get_or-set_same}
use Rattle.pfc_code.specs.declared.images.Block.{Block}
use Rattle.pfc_stacks.specs.Activations.{arguments, created, entered}
use Rattle.pfc_stacks.specs.Stacks.{Stack, Stacks, no_stack, stack_of}

-- the first of some
pub first_is : {X : Type 0} (xs : List X) (x : X) → 0 < length xs → x ≡ get_or xs 0 x → slice_get xs 0 ≡ Some x
first_is [] x h e = absurd (omega (arith, h))
first_is (y ∷ ys) x h e = ap Some (sym e)

module _ (b : Block) (p : ℕ) (old new : Stacks) (h : p < length old) (is : new ≡ created 0 b p 0 old) where
  abbrev maker : Stack
  maker = (let s = stack_of old 0 in record s { at = s.at + 1; operands = drop (b.params + 1) s.operands })

  abbrev left : Stacks
  left = set old 0 maker

  abbrev child : Stack
  child = entered 0 b (arguments b (stack_of old 0).operands) (b.cells - b.params) (stack_of old p).spare

  inside : p < length left
  inside = subst (λ (n : ℕ). p < n) (sym (length-set old 0 maker)) h

  pub child_inside : p < length new
  child_inside = subst (λ (n : ℕ). p < n) (sym (ap (λ (ss : Stacks). length ss) is ∙ length-set left p child)) inside

  pub child_is : stack_of new p ≡ child
  child_is = ap (λ (ss : Stacks). stack_of ss p) is ∙ get_or-set_same left p child no_stack inside
