-- Code that stands in parts, and the operands that a part holds.
use Rattle.std.proofs.Common.{◌≡◌, ℕ, ◌+◌, ◌-◌, ◌≤◌, List, [], ◌∷◌, ◌++◌, length, refl, ap, ◌∙◌, sym, subst, arith, length-append}
use Rattle.std.proofs.lemmas.List.{append_assoc}
use Rattle.std.specs.Prelude.{slice_get, Some}
use Rattle.pfc_code.specs.declared.instructions.Instr.{Instr}
use Rattle.pfc_code.specs.declared.images.Block.{Block as CodeBlock}
use Rattle.pfc_tree.specs.Symbols.{Text}
use Rattle.pfc_semantics.specs.Programs.{Program}
use Rattle.pfc_translation.specs.Codes.{Code, Lined, ◌⨾◌}
use Rattle.pfc_translation.specs.Operands.{takes, leaves, most_operands}
use Rattle.pfc_translation.specs.Images.{instructions}
use Rattle.pfc_standing_code.specs.Sizes.{IsSized}
use Rattle.pfc_standing_code.specs.Settings.{Setting, HasCode, HasTexts, Stands}
use Rattle.pfc_standing_images.specs.Images.{HasPhrase}

-- ## Operands

most_first : (p : Program) (held : ℕ) (code : List Instr) → held ≤ most_operands p held code
most_first p held [] = omega arith
most_first p held (i ∷ code) = omega arith

-- the more are held before code, the more it may hold
most_more : (p : Program) (a b : ℕ) (code : List Instr) → a ≤ b → most_operands p a code ≤ most_operands p b code
most_more p a b [] h = h
most_more p a b (i ∷ code) h =
    let rest = most_more p (a - takes p i + leaves p i) (b - takes p i + leaves p i) code (omega arith) in omega arith

-- over what is held before it code holds at most what it holds alone
pub most_over : (p : Program) (a b : ℕ) (code : List Instr) → most_operands p (a + b) code ≤ a + most_operands p b code
most_over p a b [] = omega arith
most_over p a b (i ∷ code) =
    let first = most_more p (a + b - takes p i + leaves p i) (a + (b - takes p i + leaves p i)) code (omega arith) in
    let rest = most_over p a (b - takes p i + leaves p i) code in omega arith

pub most_front : (p : Program) (held : ℕ) (xs ys : Lined) → most_operands p held (instructions xs) ≤ most_operands p held (instructions (xs ++ ys))
most_front p held [] ys = most_first p held (instructions ys)
most_front p held (c ∷ xs) ys = let rest = most_front p (held - takes p c.0 + leaves p c.0) xs ys in omega arith

pub most_back : (p : Program) (held : ℕ) (xs ys : Lined) → most_operands p 0 (instructions ys) ≤ most_operands p held (instructions (xs ++ ys))
most_back p held [] ys = most_more p 0 held (instructions ys) (omega arith)
most_back p held (c ∷ xs) ys = let rest = most_back p (held - takes p c.0 + leaves p c.0) xs ys in omega arith

-- ## Lists

get_behind : {A : Type 0} (xs : List A) (y : A) (ys : List A) → slice_get (xs ++ y ∷ ys) (length xs) ≡ Some y
get_behind [] y ys = refl
get_behind (x ∷ xs) y ys = get_behind xs y ys

-- ## Places

module _ (g : Setting) where
  pub has_front : (at : ℕ) (xs ys : Lined) → HasCode g at (xs ++ ys) → HasCode g at xs
  has_front at [] ys h = tt
  has_front at (c ∷ xs) ys h = (h.0, has_front (at + 1) xs ys h.1)

  pub has_back : (at : ℕ) (xs ys : Lined) → HasCode g at (xs ++ ys) → HasCode g (at + length xs) ys
  has_back at [] ys h = subst (λ x. HasCode g x ys) (omega arith) h
  has_back at (c ∷ xs) ys h = subst (λ x. HasCode g x ys) (omega arith) (has_back (at + 1) xs ys h.1)

  pub texts_front : (n : ℕ) (xs ys : List Text) → HasTexts g n (xs ++ ys) → HasTexts g n xs
  texts_front n [] ys h = tt
  texts_front n (x ∷ xs) ys h = (h.0, texts_front (n + 1) xs ys h.1)

  pub texts_back : (n : ℕ) (xs ys : List Text) → HasTexts g n (xs ++ ys) → HasTexts g (n + length xs) ys
  texts_back n [] ys h = subst (λ x. HasTexts g x ys) (omega arith) h
  texts_back n (x ∷ xs) ys h = subst (λ k. HasTexts g k ys) (omega arith) (texts_back (n + 1) xs ys h.1)

  -- what is behind other code in the whole has its place by the length of the other
  has_behind : (before code : Lined) → g.code ≡ before ++ code → HasCode g (length before) code
  has_behind before [] e = tt
  has_behind before (c ∷ code) e =
      let count : length (before ++ c ∷ []) ≡ length before + 1 = length-append before (c ∷ []) in (
        ap (λ (x : Lined). slice_get x (length before)) e ∙ get_behind before c code,
        subst (λ x. HasCode g x code) count (has_behind (before ++ c ∷ []) code (e ∙ sym (append_assoc before (c ∷ []) code))),
      )

  pub has_all : (code : Lined) → g.code ≡ code → HasCode g 0 code
  has_all code e = has_behind [] code e

  texts_behind : (before texts : List Text) → g.texts ≡ before ++ texts → HasTexts g (length before) texts
  texts_behind before [] e = tt
  texts_behind before (x ∷ texts) e =
      let count : length (before ++ x ∷ []) ≡ length before + 1 = length-append before (x ∷ []) in (
        ap (λ (xs : List Text). slice_get xs (length before)) e ∙ get_behind before x texts,
        subst (λ k. HasTexts g k texts) count (texts_behind (before ++ x ∷ []) texts (e ∙ sym (append_assoc before (x ∷ []) texts))),
      )

  pub texts_all : (texts : List Text) → g.texts ≡ texts → HasTexts g 0 texts
  texts_all texts e = texts_behind [] texts e

  -- ## Phrases

  module _ (k : CodeBlock) where
    pub phrase_front : {at n : ℕ} (c d : Code) → HasPhrase g k at n (c ⨾ d) → HasPhrase g k at n c
    phrase_front {at} {n} c d h =
        let xs = c.put at n in
        let ys = d.put (at + c.size) (n + length c.texts) in
        let most = most_front g.program 0 xs ys in
        let operands = h.operands in
        let arms = h.arms in
        record { has = has_front at xs ys h.has; texts = texts_front n c.texts d.texts h.texts; operands = omega arith; arms = omega arith }

    pub phrase_back : {at n : ℕ} (c d : Code) → IsSized c → HasPhrase g k at n (c ⨾ d) → HasPhrase g k (at + c.size) (n + length c.texts) d
    phrase_back {at} {n} c d sized h =
        let xs = c.put at n in
        let ys = d.put (at + c.size) (n + length c.texts) in
        let most = most_back g.program 0 xs ys in
        let operands = h.operands in
        let arms = h.arms in
        record {
          has = subst (λ x. HasCode g (at + x) ys) (sized at n) (has_back at xs ys h.has);
          texts = texts_back n c.texts d.texts h.texts;
          operands = omega arith;
          arms = omega arith;
        }

    pub phrase_stands : {at n : ℕ} (held : ℕ) (code : Code) → HasPhrase g k at n code → held + k.operands ≤ g.room → Stands g at n held code
    phrase_stands {at} {n} held code h room =
        let over : most_operands g.program (held + 0) (instructions (code.put at n)) ≤ held + most_operands g.program 0 (instructions (code.put at n))
        = most_over g.program held 0 (instructions (code.put at n)) in
        let same : held + 0 ≡ held = omega arith in
        let operands = h.operands in
        record {
          has = h.has;
          texts = h.texts;
          room = subst (λ x. most_operands g.program x (instructions (code.put at n)) ≤ g.room) same (omega arith);
          arms = h.arms;
        }
