-- An alternative that sends a message.
use Rattle.std.proofs.Common.{◌≡◌, ℕ, ◌+◌, ◌<◌, ℤ, List, [], length, take, drop, set, ap, ap₂, ◌∙◌}
use Rattle.std.proofs.lemmas.List.{drop-drop}
use Rattle.pfc_stacks.specs.Effects.{passed}
use Rattle.pfc_stacks.specs.Stacks.{Stacks, operands_of}
use Rattle.pfc_machines.specs.declared.alternatives.Offer.{Offer}
use Rattle.pfc_machines.specs.declared.descriptors.Descriptor.{Descriptor}
use Rattle.pfc_machines.specs.declared.machine.Machine.{Machine}
use Rattle.pfc_machines.specs.Descriptors.{descriptor_by, descriptor_of, keeping, with_made}
use Rattle.pfc_machines.specs.Quiet.{makes}
use Rattle.pfc_machines.proofs.Placing.{again, with_operands, operands_after, passed_after}

module _ (old : Machine) (p z branch : ℕ) (offer : Offer) (h : p < length old.stacks) (hd : p < length old.descriptors) where
  abbrev ops : List ℤ
  ops = operands_of old.stacks p

  abbrev words : List ℤ
  words = take z ops

  abbrev d : Descriptor
  d = descriptor_of old.descriptors p

  abbrev behind : Stacks → List Descriptor → Machine
  behind s ds = record old { stacks = s; descriptors = ds }

  abbrev with_this : Descriptor → Descriptor
  with_this e = with_made e (record { activation = e.activations; offer = offer; branch = branch }) []

  -- the message is kept and popped, and then the alternative is made of the channel's number
  pub sending_is : (s1 : Stacks) (ds1 : List Descriptor) (new : Machine)
      → s1 ≡ with_operands old.stacks p (drop z ops) → ds1 ≡ set old.descriptors p (keeping d words) → new ≡ makes (behind s1 ds1) p offer branch 1 []
      → new ≡ makes old p offer branch (z + 1) words
  sending_is s1 ds1 new e1 e2 e =
      let cut : Stacks = with_operands old.stacks p (drop z ops) in
      let kept : List Descriptor = set old.descriptors p (keeping d words) in
      let more : drop 1 (drop z ops) ≡ drop (z + 1) ops = drop-drop 1 z ops in
      let stacks : passed cut p (drop 1 (operands_of cut p)) ≡ passed old.stacks p (drop (z + 1) ops) =
      ap (λ (xs : List ℤ). passed cut p (drop 1 xs)) (operands_after old.stacks p (drop z ops) h)
      ∙ passed_after old.stacks p (drop z ops) (drop 1 (drop z ops)) h
      ∙ ap (λ (xs : List ℤ). passed old.stacks p xs) more in
      let descriptors : set kept p (with_this (descriptor_of kept p)) ≡ set old.descriptors p (with_this (keeping d words)) =
      again old.descriptors p (keeping d words) with_this (descriptor_by 0) hd in
      e ∙ ap (λ (s : Stacks). makes (behind s ds1) p offer branch 1 []) e1 ∙ ap (λ (ds : List Descriptor). makes (behind cut ds) p offer branch 1 []) e2
      ∙ ap₂ behind stacks descriptors
