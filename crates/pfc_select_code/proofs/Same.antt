-- Codes that are the same wherever they stand.
use Rattle.std.proofs.Common.{◌≡◌, ℕ, ◌+◌, ◌++◌, ◌∙◌, max, List, length, refl, ap, ap₂, arith, append_assoc, length-append}
use Rattle.pfc_tree.specs.Symbols.{Text}
use Rattle.pfc_translation.specs.Codes.{Code, Lined, nothing, ◌⨾◌}
use Rattle.pfc_expression_code.specs.Putting.{Made, IsMade, IsTooLarge}

pub record SameCode (a b : Code) : Type 0 where
  pub size : a.size ≡ b.size
  pub texts : a.texts ≡ b.texts
  pub arms : a.arms ≡ b.arms
  pub put : (at n : ℕ) → a.put at n ≡ b.put at n

pub same_refl : (a : Code) → SameCode a a
same_refl a = record { size = refl; texts = refl; arms = refl; put = λ at n. refl }

pub same_trans : (a b c : Code) → SameCode a b → SameCode b c → SameCode a c
same_trans a b c e f =
    record { size = e.size ∙ f.size; texts = e.texts ∙ f.texts; arms = e.arms ∙ f.arms; put = λ at n. e.put at n ∙ f.put at n }

-- in front of the same, and behind it
pub same_both : (a b c d : Code) → SameCode a b → SameCode c d → SameCode (a ⨾ c) (b ⨾ d)
same_both a b c d e f =
    record {
      size = ap₂ (λ (j k : ℕ). j + k) e.size f.size;
      texts = ap₂ (λ (x y : List Text). x ++ y) e.texts f.texts;
      arms = ap₂ (λ (j k : ℕ). max j k) e.arms f.arms;
      put =
          λ at n.
          ap₂ (λ (x y : Lined). x ++ y) (e.put at n)
          (f.put (at + a.size) (n + length a.texts)
          ∙ ap₂ (λ (j : ℕ) (t : List Text). d.put (at + j) (n + length t)) e.size e.texts);
    }

pub same_assoc : (a b c : Code) → SameCode ((a ⨾ b) ⨾ c) (a ⨾ (b ⨾ c))
same_assoc a b c =
    record {
      size = omega arith;
      texts = append_assoc a.texts b.texts c.texts;
      arms = omega arith;
      put =
          λ at n.
          append_assoc (a.put at n) (b.put (at + a.size) (n + length a.texts)) (c.put (at + (a.size + b.size)) (n + length (a.texts ++ b.texts)))
          ∙ ap (λ (x : Lined). a.put at n ++ (b.put (at + a.size) (n + length a.texts) ++ x))
          (ap₂ (λ (j k : ℕ). c.put j k) (omega arith) (omega (arith, length-append a.texts b.texts)));
    }

pub same_behind_nothing : (a : Code) → SameCode (nothing ⨾ a) a
same_behind_nothing a =
    record { size = omega arith; texts = refl; arms = omega arith; put = λ at n. ap₂ (λ (j k : ℕ). a.put j k) (omega arith) (omega arith) }

-- what was made is the same
pub made_same : (a b : Code) (x y : Made) → SameCode a b → IsMade a x y → IsMade b x y
made_same a b x y e made =
    record {
      code = made.code ∙ ap (λ (l : Lined). x.code ++ l) (e.put (length x.code) (length x.texts));
      texts = made.texts ∙ ap (λ (t : List Text). x.texts ++ t) e.texts;
      arms = made.arms ∙ ap (λ k. max x.arms k) e.arms;
      size = made.size ∙ ap (λ k. length x.code + k) e.size;
    }

pub large_same : (a b : Code) (x : Made) → SameCode a b → IsTooLarge a x → IsTooLarge b x
large_same a b x e large = omega (arith, large, e.size)
