-- Where the code of an image leads on: each jump leads ahead, and a process goes back from a guard to the turn of the resource's scan.
use Rattle.std.proofs.Common.{◌≡◌, ℕ, zero, suc, ◌+◌, ◌<◌, ◌≤◌, List, [], ◌∷◌, ◌++◌, length, get_or, slice_get, Option, Some, None, IfSome, refl, sym, ap, ◌∙◌}
use Rattle.std.proofs.Common.{subst, arith}
use Rattle.std.proofs.lemmas.Option.{none-some, same_Some, slice_get-get_or}
use Rattle.pfc_tree.specs.trees.Parts.{ProgramTree}
use Rattle.pfc_types.specs.rules.Whole.{finished}
use Rattle.pfc_code.specs.declared.images.Block.{Block}
use Rattle.pfc_code.specs.declared.instructions.Instr.{Instr}
use Rattle.pfc_code.specs.declared.instructions.Instr.TheVariants.{GRD, SCAN}
use Rattle.pfc_code.specs.Images.{PlainImage}
use Rattle.pfc_translation.specs.Images.{image_of}
use Rattle.pfc_image_laws.specs.Operands.{address_ahead}
use Rattle.pfc_image_laws.specs.Instructions.{Each, Leads}
use Rattle.pfc_image_laws.specs.Layouts.{IsOwn, LaidOut, a_block, a_scan, of_main}
use Rattle.pfc_image_numbers.specs.Numbers.{AreThere, IsUnruled}

-- ## What is said

-- where an instruction names an address ahead, it lies ahead
abbrev pub LeadsOn : ℕ → Instr → Type 0
LeadsOn at i = IfSome (address_ahead i) (λ a. at < a)

-- The jumps of an image lead ahead. Where a guard stands, the image has the address of a scan's turn for it.
pub record LeadsAhead (image : PlainImage) : Type 0 where
  pub jumps : (a : ℕ) (i : Instr) → slice_get image.code a ≡ Some i → LeadsOn a i
  pub guards : (a g : ℕ) → slice_get image.code a ≡ Some (GRD g) → (r : ℕ) × (slice_get image.code (get_or image.scans g 0) ≡ Some (SCAN r))

-- ## Lists

each_at : (P : ℕ → Instr → Type 0) (at k : ℕ) (code : List Instr) (i : Instr) → Each P at code → slice_get code k ≡ Some i → P (at + k) i
each_at P at k [] i h is = absurd (none-some i is)
each_at P at zero (x ∷ code) i h is = subst (λ a. P a i) (omega arith) (subst (λ y. P at y) (same_Some x i is) h.0)
each_at P at (suc k) (x ∷ code) i h is = subst (λ a. P a i) (omega arith) (each_at P (at + 1) k code i h.1 is)

each_there : (P : ℕ → Instr → Type 0) (a : ℕ) (code : List Instr) (i : Instr) → Each P 0 code → slice_get code a ≡ Some i → P a i
each_there P a code i h is = subst (λ x. P x i) (omega arith) (each_at P 0 a code i h is)

each_both : (P : ℕ → Instr → Type 0) (at : ℕ) (a b : List Instr) → Each P at a → Each P (at + length a) b → Each P at (a ++ b)
each_both P at [] b h l = subst (λ j. Each P j b) (omega arith) l
each_both P at (i ∷ a) b h l = (h.0, each_both P (at + 1) a b h.1 (subst (λ j. Each P j b) (omega arith) l))

behind : (a b : List Instr) (k : ℕ) → slice_get (a ++ b) (length a + k) ≡ slice_get b k
behind [] b k = ap (λ n. slice_get b n) (omega arith)
behind (i ∷ a) b k = ap (λ n. slice_get (i ∷ a ++ b) n) (let h : suc (length a) + k ≡ suc (length a + k) = omega arith in h) ∙ behind a b k

-- ## Jumps

leads_on : (from to at : ℕ) (i : Instr) → Leads from to at i → LeadsOn at i
leads_on from to at i h = by (address_ahead i) h.0
  where
    by : (x : Option ℕ) → IfSome x (λ a. (at < a) × (a ≤ to)) → IfSome x (λ a. at < a)
    by None h = tt
    by (Some a) h = h.0

all_lead_on : (from to at : ℕ) (code : List Instr) → Each (Leads from to) at code → Each LeadsOn at code
all_lead_on from to at [] h = tt
all_lead_on from to at (i ∷ code) h = (leads_on from to at i h.0, all_lead_on from to (at + 1) code h.1)

module _ (image : PlainImage) where
  own_lead_on : (b : Block) (own : List Instr) → IsOwn image b own → Each LeadsOn b.entry own
  own_lead_on b own is = all_lead_on b.entry _ b.entry own is.jumps

  laid_lead_on : {at number : ℕ} {blocks : List Block} {scans : List ℕ} {code : List Instr} → LaidOut image at number blocks scans code
      → Each LeadsOn at code
  laid_lead_on (a_block b own {code} is levels laid) = each_both LeadsOn b.entry own code (own_lead_on b own is) (laid_lead_on laid)
  laid_lead_on (a_scan laid) = (tt, laid_lead_on laid)
  laid_lead_on (of_main b own is) = own_lead_on b own is

  -- ## Scans

  -- the turn of each scan stands so far behind the address from which on the code is
  turn_laid : {at number : ℕ} {blocks : List Block} {scans : List ℕ} {code : List Instr} (g a : ℕ) → LaidOut image at number blocks scans code
      → slice_get scans g ≡ Some a → (k r : ℕ) × (a ≡ at + k) × (slice_get code k ≡ Some (SCAN r))
  turn_laid g a (a_block b own {code} is levels laid) there =
      let (k, r, e, h) = turn_laid g a laid there in (length own + k, r, omega (arith, e), behind own code k ∙ h)
  turn_laid zero a (a_scan {at} {number} laid) there = (0, number, sym (same_Some at a there) ∙ omega arith, refl)
  turn_laid (suc g) a (a_scan laid) there = let (k, r, e, h) = turn_laid g a laid there in (suc k, r, omega (arith, e), h)
  turn_laid g a (of_main b own is) there = absurd (none-some a there)

turn_there : (image : PlainImage) (g : ℕ) → LaidOut image 0 0 image.blocks image.scans image.code → g < length image.scans
    → (r : ℕ) × (slice_get image.code (get_or image.scans g 0) ≡ Some (SCAN r))
turn_there image g laid within =
    let (k, r, e, h) = turn_laid image g (get_or image.scans g 0) laid (slice_get-get_or image.scans g 0 within) in
    (r, ap (λ n. slice_get image.code n) (e ∙ omega arith) ∙ h)

-- ## The image of a program

pub leads_ahead : (t : ProgramTree) → LaidOut (image_of t) 0 0 (image_of t).blocks (image_of t).scans (image_of t).code
    → Each (λ (at : ℕ) (i : Instr). IsUnruled i → AreThere (image_of t) (finished t) at i) 0 (image_of t).code → LeadsAhead (image_of t)
leads_ahead t laid numbers = record {
  jumps = λ a i is. each_there LeadsOn a (image_of t).code i (laid_lead_on (image_of t) laid) is;
  guards =
      λ a g is.
      let there = each_there (λ at i. IsUnruled i → AreThere (image_of t) (finished t) at i) a (image_of t).code (GRD g) numbers is in
      turn_there (image_of t) g laid (there tt).0;
}
