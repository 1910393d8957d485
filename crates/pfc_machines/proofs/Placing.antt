-- Several changes of one stack, one after the other.
use Rattle.std.proofs.Common.{◌≡◌, ◌≢◌, ℕ, ◌+◌, ◌<◌, ℤ, List, [], ◌∷◌, length, take, drop, set, get_or, ap, sym, ◌∙◌, ◌⊎◌, inl, inr, arith, subst}
use Rattle.std.specs.Prelude.{reverse}
use Rattle.std.proofs.lemmas.List.{set-set, set_comm, get_or-set_same, get_or-set_other, length-set}
use Rattle.pfc_stacks.specs.declared.refs.Ref.{Ref}
use Rattle.pfc_stacks.specs.Effects.{passed}
use Rattle.pfc_stacks.proofs.Writes.{operands_written}
use Rattle.pfc_stacks.specs.Stacks.{Stack, Stacks, no_stack, stack_of, operands_of, with_words, written}

-- what is changed twice at one place
pub again : {A : Type 0} (xs : List A) (p : ℕ) (x : A) (g : A → A) (d : A) → p < length xs → set (set xs p x) p (g (get_or (set xs p x) p d)) ≡ set xs p (g x)
again xs p x g d h = ap (λ y. set (set xs p x) p (g y)) (get_or-set_same xs p x d h) ∙ set-set xs p x (g x)

-- the stacks with other operands of a process
abbrev pub with_operands : Stacks → ℕ → List ℤ → Stacks
with_operands stacks p ops = set stacks p (record (stack_of stacks p) { operands = ops })

pub stack_after : (stacks : Stacks) (p : ℕ) (ops : List ℤ) → p < length stacks
    → stack_of (with_operands stacks p ops) p ≡ record (stack_of stacks p) { operands = ops }
stack_after stacks p ops h = get_or-set_same stacks p (record (stack_of stacks p) { operands = ops }) no_stack h

pub operands_after : (stacks : Stacks) (p : ℕ) (ops : List ℤ) → p < length stacks → operands_of (with_operands stacks p ops) p ≡ ops
operands_after stacks p ops h = ap (λ (s : Stack). s.operands) (stack_after stacks p ops h)

pub twice : (stacks : Stacks) (p : ℕ) (ops xs : List ℤ) → p < length stacks → with_operands (with_operands stacks p ops) p xs ≡ with_operands stacks p xs
twice stacks p ops xs h =
    let old : Stack = stack_of stacks p in
    ap (λ (s : Stack). set (with_operands stacks p ops) p (record s { operands = xs })) (stack_after stacks p ops h)
    ∙ set-set stacks p (record old { operands = ops }) (record old { operands = xs })

pub passed_after : (stacks : Stacks) (p : ℕ) (ops xs : List ℤ) → p < length stacks → passed (with_operands stacks p ops) p xs ≡ passed stacks p xs
passed_after stacks p ops xs h =
    let old : Stack = stack_of stacks p in
    ap (λ (s : Stack). (let t : Stack = record s { at = s.at + 1; operands = xs } in set (with_operands stacks p ops) p t)) (stack_after stacks p ops h)
    ∙ set-set stacks p (record old { operands = ops }) (record old { at = old.at + 1; operands = xs })

-- operands are changed, and then the process passes on
pub leave_is : (stacks new last : Stacks) (p : ℕ) (ops : List ℤ) → p < length stacks → new ≡ with_operands stacks p ops
    → last ≡ passed new p (operands_of new p) → last ≡ passed stacks p ops
leave_is stacks new last p ops h first then_so =
    then_so ∙ ap (λ (ss : Stacks). passed ss p (operands_of ss p)) first
    ∙ ap (λ (xs : List ℤ). passed (with_operands stacks p ops) p xs) (operands_after stacks p ops h) ∙ passed_after stacks p ops ops h

-- and one more is put on top on the way
pub instead_is : (stacks new last : Stacks) (p : ℕ) (v : ℤ) (ops : List ℤ) → p < length stacks → new ≡ with_operands stacks p ops
    → last ≡ passed new p (v ∷ operands_of new p) → last ≡ passed stacks p (v ∷ ops)
instead_is stacks new last p v ops h first then_so =
    then_so ∙ ap (λ (ss : Stacks). passed ss p (v ∷ operands_of ss p)) first
    ∙ ap (λ (xs : List ℤ). passed (with_operands stacks p ops) p (v ∷ xs)) (operands_after stacks p ops h) ∙ passed_after stacks p ops (v ∷ ops) h

-- ## Words that are written between

same_or_other : (q p : ℕ) → (q ≡ p) ⊎ (q ≢ p)
same_or_other q p = grind arith

module _ (stacks : Stacks) (p : ℕ) (xs : List ℤ) (r : Ref) (ws ys : List ℤ) (h : p < length stacks) where
  abbrev old : Stack
  old = stack_of stacks p

  abbrev other : Stack
  other = stack_of stacks r.process

  abbrev filled : Stack → Stack
  filled s = record s { cells = with_words s.cells r.cell ws }

  abbrev onward : Stack → Stack
  onward s = record s { at = s.at + 1; operands = ys }

  abbrev held : Stack
  held = record old { operands = xs }

  -- in its own cells
  in_own : r.process ≡ p → passed (written (with_operands stacks p xs) r ws) p ys ≡ passed (written stacks r ws) p ys
  in_own e =
      let here : written (with_operands stacks p xs) r ws ≡ set stacks p (filled held) =
      ap (λ (q : ℕ). set (with_operands stacks p xs) q (filled (stack_of (with_operands stacks p xs) q))) e
      ∙ ap (λ (s : Stack). set (with_operands stacks p xs) p (filled s)) (stack_after stacks p xs h)
      ∙ set-set stacks p held (filled held) in
      let there : written stacks r ws ≡ set stacks p (filled old) = ap (λ (q : ℕ). set stacks q (filled (stack_of stacks q))) e in
      ap (λ (ss : Stacks). passed ss p ys) here
      ∙ ap (λ (s : Stack). set (set stacks p (filled held)) p (onward s)) (get_or-set_same stacks p (filled held) no_stack h)
      ∙ set-set stacks p (filled held) (onward (filled held))
      ∙ sym (ap (λ (ss : Stacks). passed ss p ys) there
      ∙ ap (λ (s : Stack). set (set stacks p (filled old)) p (onward s)) (get_or-set_same stacks p (filled old) no_stack h)
      ∙ set-set stacks p (filled old) (onward (filled old)))

  -- in those of another
  in_others : r.process ≢ p → passed (written (with_operands stacks p xs) r ws) p ys ≡ passed (written stacks r ws) p ys
  in_others apart =
      let q : ℕ = r.process in
      let back : p ≢ q = λ e. apart (sym e) in
      let here : written (with_operands stacks p xs) r ws ≡ with_operands (written stacks r ws) p xs =
      ap (λ (s : Stack). set (with_operands stacks p xs) q (filled s)) (get_or-set_other stacks p q held no_stack apart)
      ∙ set_comm stacks p q held (filled other) back
      ∙ ap (λ (s : Stack). set (set stacks q (filled other)) p (record s { operands = xs })) (sym (get_or-set_other stacks q p (filled other) no_stack back)) in
      let inside : p < length (written stacks r ws) = subst (λ (n : ℕ). p < n) (sym (length-set stacks q (filled other))) h in
      ap (λ (ss : Stacks). passed ss p ys) here ∙ passed_after (written stacks r ws) p xs ys inside

  pub written_after : passed (written (with_operands stacks p xs) r ws) p ys ≡ passed (written stacks r ws) p ys
  written_after = elim (same_or_other r.process p) [ inl e ↦ in_own e | inr apart ↦ in_others apart ]

-- a word takes the place of the address on top, and is written there; then the process passes on
pub written_is : (s0 s1 s2 s3 s4 : Stacks) (p : ℕ) (r : Ref) (v : ℤ) (ops : List ℤ) → p < length s0
    → s1 ≡ with_operands s0 p ops → s2 ≡ with_operands s1 p (v ∷ operands_of s1 p) → s3 ≡ written s2 r (reverse (take 1 (drop 0 (operands_of s2 p))))
    → s4 ≡ passed s3 p (drop 1 (operands_of s3 p)) → s4 ≡ passed (written s0 r (v ∷ [])) p ops
written_is s0 s1 s2 s3 s4 p r v ops h e1 e2 e3 e4 =
    let two : s2 ≡ with_operands s0 p (v ∷ ops) =
    e2 ∙ ap (λ (ss : Stacks). with_operands ss p (v ∷ operands_of ss p)) e1
    ∙ ap (λ (xs : List ℤ). with_operands (with_operands s0 p ops) p (v ∷ xs)) (operands_after s0 p ops h)
    ∙ twice s0 p ops (v ∷ ops) h in
    let held : operands_of s2 p ≡ v ∷ ops = ap (λ (ss : Stacks). operands_of ss p) two ∙ operands_after s0 p (v ∷ ops) h in
    let three : s3 ≡ written (with_operands s0 p (v ∷ ops)) r (v ∷ []) =
    e3 ∙ ap (λ (xs : List ℤ). written s2 r (reverse (take 1 (drop 0 xs)))) held ∙ ap (λ (ss : Stacks). written ss r (v ∷ [])) two in
    let rest : operands_of s3 p ≡ v ∷ ops =
    ap (λ (ss : Stacks). operands_of ss p) three ∙ operands_written (with_operands s0 p (v ∷ ops)) r (v ∷ []) p ∙ operands_after s0 p (v ∷ ops) h in
    e4 ∙ ap (λ (xs : List ℤ). passed s3 p (drop 1 xs)) rest ∙ ap (λ (ss : Stacks). passed ss p ops) three ∙ written_after s0 p (v ∷ ops) r (v ∷ []) ops h
