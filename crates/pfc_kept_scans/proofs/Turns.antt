-- The turn of the scan of a resource stands at one address alone: at that which the image has for it.
use Rattle.std.proofs.Common.{◌≡◌, ℕ, zero, suc, ◌+◌, true, false, List, [], ◌∷◌, ◌++◌, length, slice_get, Some, None, sym, ap, ◌∙◌, subst, arith, ◌⊎◌}
use Rattle.std.proofs.Common.{inl, inr}
use Rattle.pfc_code.specs.declared.instructions.Instr.{Instr}
use Rattle.pfc_code.specs.declared.instructions.Instr.TheVariants.{SCAN}
use Rattle.pfc_code.specs.declared.images.Block.{Block}
use Rattle.pfc_code.specs.Images.{PlainImage}
use Rattle.pfc_translation.specs.Images.{image_of}
use Rattle.pfc_image_laws.specs.Operands.{ends_body, is_end}
use Rattle.pfc_image_laws.specs.Instructions.{IsEnded}
use Rattle.pfc_image_laws.specs.Layouts.{LaidOut, a_block, a_scan, of_main}
use Rattle.pfc_image_laws.proofs.Layouts.{image_laid}
use Rattle.pfc_representation.specs.Levels.{Facts}

same_some : {A : Type 0} (x y : A) → Some x ≡ Some y → x ≡ y
same_some x y h = cc

-- among the instructions of a block there is none
no_turn : (own : List Instr) (j r : ℕ) → IsEnded own → slice_get own j ≡ Some (SCAN r) → ⊥
no_turn [] j r ended there = ended
no_turn (i ∷ []) zero r ended there = (let no : false ≡ true = ap ends_body (sym (same_some i (SCAN r) there)) ∙ ended in cc)
no_turn (i ∷ []) (suc j) r ended there = (let no : None ≡ Some (SCAN r) = there in cc)
no_turn (i ∷ (k ∷ own)) zero r ended there = (let no : true ≡ false = ap is_end (sym (same_some i (SCAN r) there)) ∙ ended.0 in cc)
no_turn (i ∷ (k ∷ own)) (suc j) r ended there = no_turn (k ∷ own) j r ended.1 there

-- in the one list or behind it
in_either : (xs ys : List Instr) (j : ℕ) (i : Instr) → slice_get (xs ++ ys) j ≡ Some i
    → (slice_get xs j ≡ Some i) ⊎ ((k : ℕ) × (j ≡ length xs + k) × (slice_get ys k ≡ Some i))
in_either [] ys j i there = inr (j, (let h : j ≡ 0 + j = grind arith in h), there)
in_either (x ∷ xs) ys zero i there = inl there
in_either (x ∷ xs) ys (suc j) i there = further (in_either xs ys j i there)
  where
    further : (slice_get xs j ≡ Some i) ⊎ ((k : ℕ) × (j ≡ length xs + k) × (slice_get ys k ≡ Some i))
        → (slice_get (x ∷ xs) (suc j) ≡ Some i) ⊎ ((k : ℕ) × (suc j ≡ length (x ∷ xs) + k) × (slice_get ys k ≡ Some i))
    further (inl h) = inl h
    further (inr (k, same, h)) = inr (k, (let more : suc j ≡ suc (length xs) + k = grind (arith, same) in more), h)

-- the scan with this number is listed with that address
abbrev IsListed : ℕ → List ℕ → ℕ → ℕ → Type 0
IsListed number scans r to = (k : ℕ) × (r ≡ number + k) × (slice_get scans k ≡ Some to)

module _ (image : PlainImage) where
  turn_in : {at number : ℕ} {blocks : List Block} {scans : List ℕ} {code : List Instr} (j r : ℕ) → LaidOut image at number blocks scans code
      → slice_get code j ≡ Some (SCAN r) → IsListed number scans r (at + j)
  turn_in j r (a_block {number} b {blocks} {scans} own {code} is levels laid) there =
      by_place (λ k behind. turn_in k r laid behind) (in_either own code j (SCAN r) there)
    where
      by_place : ((k : ℕ) → slice_get code k ≡ Some (SCAN r) → IsListed number scans r (b.entry + length own + k))
          → (slice_get own j ≡ Some (SCAN r)) ⊎ ((k : ℕ) × (j ≡ length own + k) × (slice_get code k ≡ Some (SCAN r)))
          → IsListed number scans r (b.entry + j)
      by_place later (inl inside) = absurd (no_turn own j r is.ends inside)
      by_place later (inr (k, same, behind)) =
          let place : b.entry + length own + k ≡ b.entry + j = grind (arith, same) in
          subst (λ n. IsListed number scans r n) place (later k behind)
  turn_in zero r (a_scan {at} {number} {blocks} {scans} {code} laid) there =
      let same : number ≡ r = (let both : SCAN number ≡ SCAN r = same_some (SCAN number) (SCAN r) there in cc) in (
        0,
        sym same ∙ (let h : number ≡ number + 0 = grind arith in h),
        ap (λ n. Some n) (let h : at ≡ at + 0 = grind arith in h),
      )
  turn_in (suc j) r (a_scan {at} {number} {blocks} {scans} {code} laid) there =
      let (k, same, listed) = turn_in j r laid there in (
        suc k,
        same ∙ (let h : number + 1 + k ≡ number + suc k = grind arith in h),
        listed ∙ ap (λ n. Some n) (let h : at + 1 + j ≡ at + suc j = grind arith in h),
      )
  turn_in j r (of_main b own is) there = absurd (no_turn own j r is.ends there)

pub turn_at : (facts : Facts) (at r : ℕ) → slice_get (image_of facts.tree).code at ≡ Some (SCAN r) → slice_get (image_of facts.tree).scans r ≡ Some at
turn_at facts at r there =
    let (k, same, listed) = turn_in (image_of facts.tree) at r (image_laid facts.tree) there in
    ap (λ n. slice_get (image_of facts.tree).scans n) (same ∙ (let h : 0 + k ≡ k = grind arith in h)) ∙ listed
    ∙ ap (λ n. Some n) (let h : 0 + at ≡ at = grind arith in h)
