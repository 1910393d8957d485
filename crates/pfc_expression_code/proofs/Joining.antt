-- Code that is made part by part.
use Rattle.std.proofs.Common.{◌≡◌, ◌+◌, ◌++◌, List, length, sym, ap, ap₂, ◌∙◌, arith, append_assoc, length-append}
use Rattle.std.proofs.lemmas.List.{append-nil}
use Rattle.pfc_tree.specs.Symbols.{Text}
use Rattle.pfc_translation.specs.Codes.{Code, Lined, nothing, ◌⨾◌}
use Rattle.pfc_expression_code.specs.Putting.{Made, IsMade, IsTooLarge}

pub made_nothing : (m : Made) → IsMade nothing m m
made_nothing m = record { code = sym (append-nil m.code); texts = sym (append-nil m.texts); arms = omega arith; size = omega arith }

-- one behind the other
pub made_both : (a b : Code) (x y z : Made) → IsMade a x y → IsMade b y z → IsMade (a ⨾ b) x z
made_both a b x y z first second =
    let texts : length y.texts ≡ length x.texts + length a.texts = ap length first.texts ∙ length-append x.texts a.texts in
    record {
      code =
          second.code
          ∙ ap₂ (λ (l r : Lined). l ++ r) first.code (ap₂ b.put first.size texts)
          ∙ append_assoc x.code (a.put (length x.code) (length x.texts)) (b.put (length x.code + a.size) (length x.texts + length a.texts));
      texts = second.texts ∙ ap (λ (l : List Text). l ++ b.texts) first.texts ∙ append_assoc x.texts a.texts b.texts;
      arms = omega (arith, first.arms, second.arms);
      size = omega (arith, first.size, second.size);
    }

-- the first is too large
pub large_first : (a b : Code) (x : Made) → IsTooLarge a x → IsTooLarge (a ⨾ b) x
large_first a b x large = omega (arith, large)

-- or the second behind it
pub large_second : (a b : Code) (x y : Made) → IsMade a x y → IsTooLarge b y → IsTooLarge (a ⨾ b) x
large_second a b x y first large = omega (arith, first.size, large)
