-- What changes at the owner and at its caller comes to the same in either order: an owner that decides first forgets what it offered and goes to its branch, or
-- first takes the arguments.
use Rattle.std.proofs.Common.{◌≡◌, ◌≢◌, ℕ, zero, suc, ◌<◌, ℤ, List, [], ◌∷◌, length, set, refl, sym, ap, ◌∙◌}
use Rattle.std.proofs.lemmas.List.{get_or-set_same, get_or-set_other, set-set, set_comm}
use Rattle.pfc_stacks.specs.declared.refs.Ref.{Ref}
use Rattle.pfc_stacks.specs.Stacks.{Stack, Stacks, no_stack, stack_of, operands_of, written, with_words}
use Rattle.pfc_stacks.specs.Effects.{moved}
use Rattle.pfc_machines.specs.declared.alternatives.Alternative.{Alternative}
use Rattle.pfc_machines.specs.declared.descriptors.Descriptor.{Descriptor}
use Rattle.pfc_machines.specs.Communications.{Communicating}
use Rattle.pfc_machines.specs.Descriptors.{descriptor_of, descriptor_by, forgetting, meeting}
use Rattle.pfc_machines.specs.Offers.{without, without_last}

-- ## Descriptors

-- in one more meeting
abbrev with_caller : ℕ → Communicating → Communicating
with_caller q e = record e { callers = q ∷ e.callers }

last_then_caller : (q : ℕ) (e : Communicating) (made : List Alternative) → without_last (with_caller q e) made ≡ with_caller q (without_last e made)
last_then_caller q e [] = refl
last_then_caller q e (a ∷ made) = refl

forgot_then_met : (q n : ℕ) (e : Communicating) → without n (with_caller q e) ≡ with_caller q (without n e)
forgot_then_met q zero e = refl
forgot_then_met q (suc n) e =
    ap (λ (y : Communicating). without n y) (last_then_caller q e e.alternatives) ∙ forgot_then_met q n (without_last e e.alternatives)

module _ (ds : List Descriptor) (p q n : ℕ) (there : p < length ds) where
  abbrev d : Descriptor
  d = descriptor_of ds p

  -- the owner forgets what it offered behind the beginning of its meeting, or before
  pub descriptors_same : (let met = set ds p (meeting q (descriptor_of ds p)) in set met p (forgetting n (descriptor_of met p)))
      ≡ (let forgot = set ds p (forgetting n (descriptor_of ds p)) in set forgot p (meeting q (descriptor_of forgot p)))
  descriptors_same =
      ap (λ (y : Descriptor). set (set ds p (meeting q d)) p (forgetting n y)) (get_or-set_same ds p (meeting q d) (descriptor_by 0) there)
      ∙ set-set ds p (meeting q d) (forgetting n (meeting q d))
      ∙ ap (λ (e : Communicating). set ds p (record d { communications = e })) (forgot_then_met q n d.communications)
      ∙ sym (set-set ds p (forgetting n d) (meeting q (forgetting n d)))
      ∙ ap (λ (y : Descriptor). set (set ds p (forgetting n d)) p (meeting q y)) (sym (get_or-set_same ds p (forgetting n d) (descriptor_by 0) there))

-- ## Stacks

module _ (stacks : Stacks) (p q to cell : ℕ) (words below : List ℤ) (off : q ≢ p) (there : p < length stacks) where
  abbrev place : Ref
  place = record { process = p; cell = cell }

  abbrev s : Stack
  s = stack_of stacks p

  abbrev r : Stack
  r = record (stack_of stacks q) { operands = below }

  abbrev with_arguments : Stack
  with_arguments = record s { cells = with_words s.cells cell words }

  abbrev went : Stack
  went = record s { at = to; operands = s.operands }

  abbrev then_both : Stack
  then_both = record s { at = to; cells = with_words s.cells cell words }

  abbrev both : Stacks
  both = set (set stacks p then_both) q r

  -- the owner has the arguments, and the caller is without them
  abbrev taken : Stacks
  taken = let wrote = written stacks place words in set wrote q (record (stack_of wrote q) { operands = below })

  -- then the owner goes to its branch
  abbrev taken_first : Stacks
  taken_first = set taken p (record (stack_of taken p) { at = to })

  -- or it is there before
  abbrev gone_first : Stacks
  gone_first =
      let wrote = written (moved stacks p to (operands_of stacks p)) place words in set wrote q (record (stack_of wrote q) { operands = below })

  taken_is : taken ≡ set (set stacks p with_arguments) q r
  taken_is =
      ap (λ (y : Stack). set (set stacks p with_arguments) q (record y { operands = below })) (get_or-set_other stacks p q with_arguments no_stack off)

  owner_then : stack_of (set (set stacks p with_arguments) q r) p ≡ with_arguments
  owner_then =
      get_or-set_other (set stacks p with_arguments) q p r no_stack (λ is. off (sym is)) ∙ get_or-set_same stacks p with_arguments no_stack there

  taken_both : taken_first ≡ both
  taken_both =
      ap (λ (ss : Stacks). set ss p (record (stack_of ss p) { at = to })) taken_is
      ∙ ap (λ (y : Stack). set (set (set stacks p with_arguments) q r) p (record y { at = to })) owner_then
      ∙ set_comm (set stacks p with_arguments) q p r then_both off
      ∙ ap (λ (ss : Stacks). set ss q r) (set-set stacks p with_arguments then_both)

  wrote_is : written (moved stacks p to (operands_of stacks p)) place words ≡ set stacks p then_both
  wrote_is =
      ap (λ (y : Stack). set (set stacks p went) p (record y { cells = with_words y.cells cell words })) (get_or-set_same stacks p went no_stack there)
      ∙ set-set stacks p went then_both

  gone_both : gone_first ≡ both
  gone_both =
      ap (λ (ss : Stacks). set ss q (record (stack_of ss q) { operands = below })) wrote_is
      ∙ ap (λ (y : Stack). set (set stacks p then_both) q (record y { operands = below })) (get_or-set_other stacks p q then_both no_stack off)

  pub stacks_same : taken_first ≡ gone_first
  stacks_same = taken_both ∙ sym gone_both
