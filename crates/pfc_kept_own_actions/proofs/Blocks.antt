-- Where the code of a block leads: an instruction that is no end stays in it.
use Rattle.std.proofs.Common.{◌≡◌, ℕ, zero, suc, ◌+◌, ◌-◌, ◌<◌, ◌≤◌, true, List, [], ◌∷◌, ◌++◌, length, drop, slice_get, Option, Some, None, IfSome, refl, sym}
use Rattle.std.proofs.Common.{ap, ◌∙◌, subst, arith, length-append, ◌⊎◌, inl, inr}
use Rattle.pfc_code.specs.declared.instructions.Instr.{Instr}
use Rattle.pfc_code.specs.declared.instructions.Instr.TheVariants.{RET, RETF, END, SCAN}
use Rattle.pfc_code.specs.declared.images.Block.{Block}
use Rattle.pfc_code.specs.Images.{PlainImage}
use Rattle.pfc_image_laws.specs.Operands.{address_ahead, address_back, ends_body, is_end}
use Rattle.pfc_image_laws.specs.Instructions.{Each, Leads, IsEnded}
use Rattle.pfc_image_laws.specs.Layouts.{IsOwn, LaidOut, a_block, a_scan, of_main}
use Rattle.pfc_machines.specs.Rooms.{end_of}

-- the code from an address on stands there in the whole
abbrev IsFrom : List Instr → ℕ → List Instr → Type 0
IsFrom whole at code = ((j : ℕ) → slice_get whole (at + j) ≡ slice_get code j) × (length whole ≡ at + length code)

-- An instruction leads on before the end of its block, ahead or back to no address before its entry.
abbrev pub StaysIn : ℕ → ℕ → ℕ → Instr → Type 0
StaysIn entry end x i =
    (x + 1 < end) × IfSome (address_ahead i) (λ (a : ℕ). (x < a) × (a < end)) × IfSome (address_back i) (λ (a : ℕ). (entry ≤ a) × (a ≤ x))

-- each between two addresses ends, or stays
abbrev pub StayIn : List Instr → ℕ → ℕ → Type 0
StayIn whole entry end = (x : ℕ) (i : Instr) → entry ≤ x → x < end → slice_get whole x ≡ Some i → (is_end i ≡ true) ⊎ StaysIn entry end x i

-- ## Lists

left_part : {A : Type 0} (xs ys : List A) (j : ℕ) → j < length xs → slice_get (xs ++ ys) j ≡ slice_get xs j
left_part [] ys j h = absurd (lt_zero j h)
  where
    lt_zero : (n : ℕ) → n < 0 → ⊥
    lt_zero n less = grind (arith, less)
left_part (x ∷ xs) ys zero h = refl
left_part (x ∷ xs) ys (suc j) h = left_part xs ys j (grind (arith, h))

right_part : {A : Type 0} (xs ys : List A) (j : ℕ) → slice_get (xs ++ ys) (length xs + j) ≡ slice_get ys j
right_part [] ys j = ap (λ n. slice_get ys n) (let h : 0 + j ≡ j = grind arith in h)
right_part (x ∷ xs) ys j =
    ap (λ n. slice_get (x ∷ xs ++ ys) n) (let h : suc (length xs) + j ≡ suc (length xs + j) = grind arith in h) ∙ right_part xs ys j

-- ## Ends

ends : (i : Instr) → ends_body i ≡ true → is_end i ≡ true
ends RET h = refl
ends RETF h = refl
ends END h = refl
ends (SCAN g) h = refl
ends i h = h

-- in own instructions each is the last, an end, or has another behind it
goes_on : (own : List Instr) (j : ℕ) (i : Instr) → IsEnded own → slice_get own j ≡ Some i → (is_end i ≡ true) ⊎ (j + 1 < length own)
goes_on [] j i ended there = absurd ended
goes_on (k ∷ []) zero i ended there = inl (let same : k ≡ i = (let both : Some k ≡ Some i = there in cc) in ap is_end (sym same) ∙ ends k ended)
goes_on (k ∷ []) (suc j) i ended there = (let none : None ≡ Some i = there in cc)
goes_on (k ∷ (l ∷ own)) zero i ended there = inr (grind arith)
goes_on (k ∷ (l ∷ own)) (suc j) i ended there = next (goes_on (l ∷ own) j i ended.1 there)
  where
    next : (is_end i ≡ true) ⊎ (j + 1 < length (l ∷ own)) → (is_end i ≡ true) ⊎ (suc j + 1 < length (k ∷ (l ∷ own)))
    next (inl h) = inl h
    next (inr h) = inr (grind (arith, h))

each_at : (P : ℕ → Instr → Type 0) (at : ℕ) (own : List Instr) (j : ℕ) (i : Instr) → Each P at own → slice_get own j ≡ Some i → P (at + j) i
each_at P at [] j i each there = (let none : None ≡ Some i = there in cc)
each_at P at (k ∷ own) zero i each there =
    let same : k ≡ i = (let both : Some k ≡ Some i = there in cc) in
    subst (λ n. P n i) (let h : at ≡ at + 0 = grind arith in h) (subst (λ l. P at l) same each.0)
each_at P at (k ∷ own) (suc j) i each there =
    subst (λ n. P n i) (let h : at + 1 + j ≡ at + suc j = grind arith in h) (each_at P (at + 1) own j i each.1 there)

-- ## One block

if_some : {A : Type 0} (o : Option A) (P Q : A → Type 0) → ((a : A) → P a → Q a) → IfSome o P → IfSome o Q
if_some None P Q f h = tt
if_some (Some a) P Q f h = f a h

module _ (whole : List Instr) (image : PlainImage) (b : Block) (own rest : List Instr) (from : IsFrom whole b.entry (own ++ rest))
    (is : IsOwn image b own) where
  own_there : (j : ℕ) (i : Instr) → j < length own → slice_get whole (b.entry + j) ≡ Some i → slice_get own j ≡ Some i
  own_there j i within there = sym (left_part own rest j within) ∙ sym (from.0 j) ∙ there

  stay_leads : (end : ℕ) (j : ℕ) (i : Instr) → b.entry + length own ≤ end → j + 1 < length own → Leads b.entry (b.entry + length own - 1) (b.entry + j) i
      → StaysIn b.entry end (b.entry + j) i
  stay_leads end j i below within leads = (
    grind (arith, below, within),
    if_some (address_ahead i) _ _ (λ a h. (h.0, grind (arith, h.1, below, within))) leads.0,
    leads.1,
  )

  -- its own instructions, where what stands behind them up to an address are turns of scans
  pub own_stay : (end : ℕ) → b.entry + length own ≤ end
      → ((x : ℕ) (i : Instr) → b.entry + length own ≤ x → x < end → slice_get whole x ≡ Some i → is_end i ≡ true) → StayIn whole b.entry end
  own_stay end below scans x i above before there = by_place (x - b.entry) (grind (arith, above))
    where
      by_end : (j : ℕ) → x ≡ b.entry + j → slice_get own j ≡ Some i → (is_end i ≡ true) ⊎ (j + 1 < length own) → (is_end i ≡ true) ⊎ StaysIn b.entry end x i
      by_end j same own_is (inl h) = inl h
      by_end j same own_is (inr h) =
          inr (subst (λ n. StaysIn b.entry end n i) (sym same)
          (stay_leads end j i below h (each_at (Leads b.entry (b.entry + length own - 1)) b.entry own j i is.jumps own_is)))

      by_length : (j : ℕ) → x ≡ b.entry + j → (j < length own) ⊎ (length own ≤ j) → (is_end i ≡ true) ⊎ StaysIn b.entry end x i
      by_length j same (inr past) = inl (scans x i (grind (arith, same, past)) before there)
      by_length j same (inl within) =
          let own_is : slice_get own j ≡ Some i = own_there j i within (ap (λ n. slice_get whole n) (sym same) ∙ there) in
          by_end j same own_is (goes_on own j i is.ends own_is)

      less_or : (n m : ℕ) → (n < m) ⊎ (m ≤ n)
      less_or n m = grind arith

      by_place : (j : ℕ) → x ≡ b.entry + j → (is_end i ≡ true) ⊎ StaysIn b.entry end x i
      by_place j same = by_length j same (less_or j (length own))

-- ## All blocks

module _ (whole : List Instr) (image : PlainImage) where
  behind : (at : ℕ) (own rest : List Instr) → IsFrom whole at (own ++ rest) → IsFrom whole (at + length own) rest
  behind at own rest from = (
    λ j. ap (λ n. slice_get whole n) (let h : at + length own + j ≡ at + (length own + j) = grind arith in h) ∙ from.0 (length own + j) ∙ right_part own rest j,
    from.1 ∙ ap (λ n. at + n) (length-append own rest) ∙ (let h : at + (length own + length rest) ≡ at + length own + length rest = grind arith in h),
  )

  -- up to the first of them there are only turns of scans
  scans_before : {at number : ℕ} {blocks : List Block} {scans : List ℕ} {code : List Instr} (b : Block) → LaidOut image at number blocks scans code
      → IsFrom whole at code
      → slice_get blocks 0 ≡ Some b → (at ≤ b.entry) × ((x : ℕ) (i : Instr) → at ≤ x → x < b.entry → slice_get whole x ≡ Some i → is_end i ≡ true)
  scans_before b (a_block c own is levels laid) from first =
      let same : c ≡ b = (let both : Some c ≡ Some b = first in cc) in
      subst (λ (d : Block). (c.entry ≤ d.entry) × ((x : ℕ) (i : Instr) → c.entry ≤ x → x < d.entry → slice_get whole x ≡ Some i → is_end i ≡ true)) same
      (grind arith, λ x i above before there. absurd (both_ways c.entry x above before))
    where
      both_ways : (n x : ℕ) → n ≤ x → x < n → ⊥
      both_ways n x h k = grind (arith, h, k)
  scans_before b (of_main c own is) from first =
      let same : c ≡ b = (let both : Some c ≡ Some b = first in cc) in
      subst (λ (d : Block). (c.entry ≤ d.entry) × ((x : ℕ) (i : Instr) → c.entry ≤ x → x < d.entry → slice_get whole x ≡ Some i → is_end i ≡ true)) same
      (grind arith, λ x i above before there. absurd (both_ways c.entry x above before))
    where
      both_ways : (n x : ℕ) → n ≤ x → x < n → ⊥
      both_ways n x h k = grind (arith, h, k)
  scans_before b (a_scan {at} {number} {blocks} {scans} {code} laid) from first =
      let later = scans_before b laid (behind at (SCAN number ∷ []) code from) first in (
        grind (arith, later.0),
        λ x i above before there. by_place x i later.1 before there (here_or x above),
      )
    where
      here_or : (x : ℕ) → at ≤ x → (x ≡ at) ⊎ (at + 1 ≤ x)
      here_or x h = grind (arith, h)

      by_place : (x : ℕ) (i : Instr) → ((y : ℕ) (k : Instr) → at + 1 ≤ y → y < b.entry → slice_get whole y ≡ Some k → is_end k ≡ true) → x < b.entry
          → slice_get whole x ≡ Some i → (x ≡ at) ⊎ (at + 1 ≤ x) → is_end i ≡ true
      by_place x i later before there (inr above) = later x i above before there
      by_place x i later before there (inl same) =
          let first_is : slice_get whole (at + 0) ≡ Some (SCAN number) = from.0 0 in
          let here : slice_get whole x ≡ Some (SCAN number) = ap (λ n. slice_get whole n) (same ∙ (let h : at ≡ at + 0 = grind arith in h)) ∙ first_is in
          let is : i ≡ SCAN number = (let both : Some i ≡ Some (SCAN number) = sym there ∙ here in cc) in
          ap is_end is

  none_left : {at number : ℕ} {scans : List ℕ} {code : List Instr} → LaidOut image at number [] scans code → ⊥
  none_left (a_scan laid) = none_left laid

  -- the code of each block stays in it
  pub blocks_stay : {at number : ℕ} {blocks : List Block} {scans : List ℕ} {code : List Instr} (k : ℕ) (b : Block) → LaidOut image at number blocks scans code
      → IsFrom whole at code
      → slice_get blocks k ≡ Some b → StayIn whole b.entry (end_of whole (drop (suc k) blocks))
  blocks_stay k b (a_scan {at} {number} {blocks} {scans} {code} laid) from there = blocks_stay k b laid (behind at (SCAN number ∷ []) code from) there
  blocks_stay (suc k) b (a_block c own {code} is levels laid) from there = blocks_stay k b laid (behind c.entry own code from) there
  blocks_stay (suc k) b (of_main c own is) from there = (let none : None ≡ Some b = there in cc)
  blocks_stay zero b (of_main c own is) from there =
      let same : c ≡ b = (let both : Some c ≡ Some b = there in cc) in
      let size : length whole ≡ c.entry + length own = from.1 in
      subst (λ (d : Block). StayIn whole d.entry (length whole)) same
      (own_stay whole image c own [] (subst (λ (xs : List Instr). IsFrom whole c.entry xs) (nothing_more own) from) is (length whole) (grind (arith, size))
      (λ x i above before there. absurd (both_ways (c.entry + length own) x above (subst (λ n. x < n) size before))))
    where
      nothing_more : (xs : List Instr) → xs ≡ xs ++ []
      nothing_more [] = refl
      nothing_more (x ∷ xs) = ap (λ (ys : List Instr). x ∷ ys) (nothing_more xs)

      both_ways : (n x : ℕ) → n ≤ x → x < n → ⊥
      both_ways n x h k = grind (arith, h, k)
  blocks_stay zero b (a_block c {blocks = []} own is levels laid) from there = absurd (none_left laid)
  blocks_stay zero b (a_block c {blocks = d ∷ blocks} own {code} is levels laid) from there =
      let same : c ≡ b = (let both : Some c ≡ Some b = there in cc) in
      let later = scans_before d laid (behind c.entry own code from) refl in
      subst (λ (x : Block). StayIn whole x.entry d.entry) same (own_stay whole image c own code from is d.entry later.0 later.1)
