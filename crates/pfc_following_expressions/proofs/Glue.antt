-- Code that stands in parts, and how many operands are held behind it.
use Rattle.std.proofs.Common.{◌≡◌, ℕ, suc, ◌+◌, ◌-◌, ◌≤◌, List, [], ◌∷◌, ◌++◌, length, refl, ap, ◌∙◌, subst, arith}
use Rattle.pfc_code.specs.declared.instructions.Instr.{Instr}
use Rattle.pfc_tree.specs.Symbols.{Text}
use Rattle.pfc_semantics.specs.Programs.{Program}
use Rattle.pfc_translation.specs.Sites.{Site}
use Rattle.pfc_translation.specs.Codes.{Code, Lined, ◌⨾◌, instruction}
use Rattle.pfc_translation.specs.Operands.{takes, leaves, most_operands}
use Rattle.pfc_translation.specs.Images.{instructions}
use Rattle.pfc_standing_code.specs.Sizes.{IsSized}
use Rattle.pfc_standing_code.specs.Settings.{Setting, IsAt, HasCode, HasTexts, Stands}

-- ## Operands

-- how many operands are held behind an instruction, and behind code, of which so many are held before it
abbrev pub held_behind : Program → ℕ → Instr → ℕ
held_behind p held i = held - takes p i + leaves p i

abbrev pub held_after : Program → ℕ → Lined → ℕ
held_after p held [] = held
held_after p held (c ∷ code) = held_after p (held_behind p held c.0) code

-- wherever code stands it takes so many operands and leaves so many
abbrev pub Changes : Program → Code → ℕ → ℕ → Type 0
Changes p c a b = (at n held : ℕ) → held_after p (a + held) (c.put at n) ≡ b + held

pub held_after-append : (p : Program) (held : ℕ) (xs ys : Lined) → held_after p held (xs ++ ys) ≡ held_after p (held_after p held xs) ys
held_after-append p held [] ys = refl
held_after-append p held (c ∷ xs) ys = held_after-append p (held_behind p held c.0) xs ys

-- code in parts, by what is held behind the first
pub changes_both : (p : Program) (c d : Code) (i j k : ℕ) → Changes p c i j → Changes p d j k → Changes p (c ⨾ d) i k
changes_both p c d i j k h l at n held =
    held_after-append p (i + held) (c.put at n) (d.put (at + c.size) (n + length c.texts))
    ∙ ap (λ (m : ℕ). held_after p m (d.put (at + c.size) (n + length c.texts))) (h at n held) ∙ l (at + c.size) (n + length c.texts) held

-- over more operands
pub changes_over : (p : Program) (c : Code) (i j k : ℕ) → Changes p c i j → Changes p c (i + k) (j + k)
changes_over p c i j k h at n held =
    let same : i + k + held ≡ i + (k + held) = omega arith in
    ap (λ (m : ℕ). held_after p m (c.put at n)) same ∙ h at n (k + held) ∙ omega arith

most_first : (p : Program) (held : ℕ) (xs : Lined) → held ≤ most_operands p held (instructions xs)
most_first p held [] = omega arith
most_first p held (c ∷ xs) = omega arith

most_last : (p : Program) (held : ℕ) (xs : Lined) → held_after p held xs ≤ most_operands p held (instructions xs)
most_last p held [] = omega arith
most_last p held (c ∷ xs) = let before = most_last p (held_behind p held c.0) xs in omega arith

most_front : (p : Program) (held : ℕ) (xs ys : Lined) → most_operands p held (instructions xs) ≤ most_operands p held (instructions (xs ++ ys))
most_front p held [] ys = most_first p held ys
most_front p held (c ∷ xs) ys = let before = most_front p (held_behind p held c.0) xs ys in omega arith

most_back : (p : Program) (held : ℕ) (xs ys : Lined) → most_operands p (held_after p held xs) (instructions ys) ≤ most_operands p held (instructions (xs ++ ys))
most_back p held [] ys = omega arith
most_back p held (c ∷ xs) ys = let before = most_back p (held_behind p held c.0) xs ys in omega arith

module _ (g : Setting) where
  -- ## Places

  code_moved : (at to : ℕ) (code : Lined) → at ≡ to → HasCode g at code → HasCode g to code
  code_moved at to code e h = subst (λ x. HasCode g x code) e h

  has_front : (at : ℕ) (xs ys : Lined) → HasCode g at (xs ++ ys) → HasCode g at xs
  has_front at [] ys h = tt
  has_front at (c ∷ xs) ys h = (h.0, has_front (at + 1) xs ys h.1)

  has_back : (at : ℕ) (xs ys : Lined) → HasCode g at (xs ++ ys) → HasCode g (at + length xs) ys
  has_back at [] ys h = code_moved at (at + 0) ys (omega arith) h
  has_back at (c ∷ xs) ys h = code_moved (at + 1 + length xs) (at + suc (length xs)) ys (omega arith) (has_back (at + 1) xs ys h.1)

  texts_front : (n : ℕ) (xs ys : List Text) → HasTexts g n (xs ++ ys) → HasTexts g n xs
  texts_front n [] ys h = tt
  texts_front n (x ∷ xs) ys h = (h.0, texts_front (n + 1) xs ys h.1)

  texts_back : (n : ℕ) (xs ys : List Text) → HasTexts g n (xs ++ ys) → HasTexts g (n + length xs) ys
  texts_back n [] ys h = let e : n ≡ n + 0 = omega arith in subst (λ (k : ℕ). HasTexts g k ys) e h
  texts_back n (x ∷ xs) ys h = let e : n + 1 + length xs ≡ n + suc (length xs) =
      omega arith in subst (λ (k : ℕ). HasTexts g k ys) e (texts_back (n + 1) xs ys h.1)

  -- ## Parts

  pub room_for : {at n held : ℕ} {code : Code} → Stands g at n held code → held ≤ g.room
  room_for {at} {n} {held} {code} h = let first = most_first g.program held (code.put at n) in let room = h.room in omega arith

  pub room_after : {at n held : ℕ} {code : Code} (after : ℕ) → held_after g.program held (code.put at n) ≡ after → Stands g at n held code → after ≤ g.room
  room_after {at} {n} {held} {code} after e h = let last = most_last g.program held (code.put at n) in let room = h.room in omega arith

  pub front : {at n held : ℕ} (c d : Code) → Stands g at n held (c ⨾ d) → Stands g at n held c
  front {at} {n} {held} c d h =
      let xs = c.put at n in
      let ys = d.put (at + c.size) (n + length c.texts) in
      let most = most_front g.program held xs ys in
      let room = h.room in
      let arms = h.arms in
      record { has = has_front at xs ys h.has; texts = texts_front n c.texts d.texts h.texts; room = omega arith; arms = omega arith }

  pub back : {at n held : ℕ} (c d : Code) (after : ℕ) → IsSized c → held_after g.program held (c.put at n) ≡ after → Stands g at n held (c ⨾ d) →
      Stands g (at + c.size) (n + length c.texts) after d
  back {at} {n} {held} c d after sized e h =
      let xs = c.put at n in
      let ys = d.put (at + c.size) (n + length c.texts) in
      let most : most_operands g.program (held_after g.program held xs) (instructions ys) ≤ g.room =
      (let last = most_back g.program held xs ys in let room = h.room in omega arith) in
      let arms = h.arms in
      record {
        has = subst (λ (k : ℕ). HasCode g (at + k) ys) (sized at n) (has_back at xs ys h.has);
        texts = texts_back n c.texts d.texts h.texts;
        room = subst (λ (k : ℕ). most_operands g.program k (instructions ys) ≤ g.room) e most;
        arms = omega arith;
      }

  -- the code of an instruction, and the code behind it
  pub head : {at n held : ℕ} (s : Site) (i : ℕ → ℕ → Instr) (d : Code) → Stands g at n held (instruction s i ⨾ d) → IsAt g at (i at n) s.line
  head s i d h = h.has.0

  pub lone : {at n held : ℕ} (s : Site) (i : ℕ → ℕ → Instr) → Stands g at n held (instruction s i) → IsAt g at (i at n) s.line
  lone s i h = h.has.0

  pub tail : {at n held : ℕ} (s : Site) (i : ℕ → ℕ → Instr) (d : Code) (after : ℕ) → held_behind g.program held (i at n) ≡ after →
      Stands g at n held (instruction s i ⨾ d) → Stands g (at + 1) (n + 0) after d
  tail s i d after e h = back (instruction s i) d after (λ at n. refl) e h

  -- ## The same at another place

  pub stands_moved : {at n held : ℕ} {code : Code} (to : ℕ) → at ≡ to → Stands g at n held code → Stands g to n held code
  stands_moved {at} {n} {held} {code} to e h = subst (λ x. Stands g x n held code) e h

  pub stands_over : {at n held : ℕ} {code : Code} (more : ℕ) → held ≡ more → Stands g at n held code → Stands g at n more code
  stands_over {at} {n} {held} {code} more e h = subst (λ x. Stands g at n x code) e h

  pub is_moved : {at : ℕ} {i : Instr} {line : ℕ} (to : ℕ) → at ≡ to → IsAt g at i line → IsAt g to i line
  is_moved {at} {i} {line} to e h = subst (λ x. IsAt g x i line) e h
