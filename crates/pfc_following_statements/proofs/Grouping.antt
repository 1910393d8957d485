-- Code in three parts stands however its parts are grouped.
use Rattle.std.proofs.Common.{◌≡◌, ℕ, ◌+◌, ◌≤◌, ◌++◌, length, sym, ap₂, ◌∙◌, subst, arith, length-append}
use Rattle.std.proofs.lemmas.List.{append_assoc}
use Rattle.pfc_translation.specs.Codes.{Code, Lined, ◌⨾◌}
use Rattle.pfc_translation.specs.Operands.{most_operands}
use Rattle.pfc_translation.specs.Images.{instructions}
use Rattle.pfc_standing_code.specs.Settings.{Setting, HasCode, HasTexts, Stands}

same_put : (a b c : Code) (at n : ℕ) → ((a ⨾ b) ⨾ c).put at n ≡ (a ⨾ (b ⨾ c)).put at n
same_put a b c at n =
    let xs = a.put at n in
    let ys = b.put (at + a.size) (n + length a.texts) in
    let place : at + (a.size + b.size) ≡ at + a.size + b.size = omega arith in
    let count : n + length (a.texts ++ b.texts) ≡ n + length a.texts + length b.texts = (let both = length-append a.texts b.texts in omega arith) in
    append_assoc xs ys (c.put (at + (a.size + b.size)) (n + length (a.texts ++ b.texts))) ∙ ap₂ (λ y k. xs ++ (ys ++ c.put y k)) place count

module _ (g : Setting) where
  -- the last two as one
  pub last_joined : {at n held : ℕ} (a b c : Code) → Stands g at n held ((a ⨾ b) ⨾ c) → Stands g at n held (a ⨾ (b ⨾ c))
  last_joined {at} {n} {held} a b c st =
      let few = st.arms in
      record {
        has = subst (λ (xs : Lined). HasCode g at xs) (same_put a b c at n) st.has;
        texts = subst (λ xs. HasTexts g n xs) (append_assoc a.texts b.texts c.texts) st.texts;
        room = subst (λ (xs : Lined). most_operands g.program held (instructions xs) ≤ g.room) (same_put a b c at n) st.room;
        arms = omega arith;
      }

  -- the first two as one
  pub first_joined : {at n held : ℕ} (a b c : Code) → Stands g at n held (a ⨾ (b ⨾ c)) → Stands g at n held ((a ⨾ b) ⨾ c)
  first_joined {at} {n} {held} a b c st =
      let few = st.arms in
      record {
        has = subst (λ (xs : Lined). HasCode g at xs) (sym (same_put a b c at n)) st.has;
        texts = subst (λ xs. HasTexts g n xs) (sym (append_assoc a.texts b.texts c.texts)) st.texts;
        room = subst (λ (xs : Lined). most_operands g.program held (instructions xs) ≤ g.room) (sym (same_put a b c at n)) st.room;
        arms = omega arith;
      }
