-- Code of which only the strings and the selects are kept.
use Rattle.std.proofs.Common.{◌≡◌, ◌++◌, max, ℕ, List, [], sym, ap, ap₂, ◌∙◌, arith, append_assoc}
use Rattle.std.proofs.lemmas.List.{append-nil}
use Rattle.pfc_tree.specs.Symbols.{Text}
use Rattle.pfc_translation.specs.Codes.{Code, ◌⨾◌, unseen, with_arms}
use Rattle.pfc_expression_code.specs.Putting.{Made, IsMade}

-- it writes no string and has no select
pub record IsQuiet (c : Code) : Type 0 where
  pub texts : c.texts ≡ []
  pub arms : c.arms ≡ 0

pub quiet_both : (a b : Code) → IsQuiet a → IsQuiet b → IsQuiet (a ⨾ b)
quiet_both a b p q = record { texts = ap₂ (λ (x y : List Text). x ++ y) p.texts q.texts; arms = ap₂ (λ x y. max x y) p.arms q.arms }

-- nothing is kept of it
pub kept_quiet : (c : Code) (x : Made) → IsQuiet c → IsMade (unseen c) x x
kept_quiet c x quiet =
    record {
      code = sym (append-nil x.code);
      texts = sym (ap (λ (l : List Text). x.texts ++ l) quiet.texts ∙ append-nil x.texts);
      arms = omega (arith, quiet.arms);
      size = omega arith;
    }

-- one behind the other
pub kept_both : (a b : Code) (x y z : Made) → IsMade (unseen a) x y → IsMade (unseen b) y z → IsMade (unseen (a ⨾ b)) x z
kept_both a b x y z first second =
    record {
      code = second.code ∙ append-nil y.code ∙ first.code;
      texts =
          second.texts ∙ ap (λ (l : List Text). l ++ b.texts) first.texts
          ∙ append_assoc x.texts a.texts b.texts;
      arms = omega (arith, first.arms, second.arms);
      size = omega (arith, first.size, second.size);
    }

pub kept_behind : (a b : Code) (x y : Made) → IsQuiet a → IsMade (unseen b) x y → IsMade (unseen (a ⨾ b)) x y
kept_behind a b x y quiet made = kept_both a b x x y (kept_quiet a x quiet) made

pub kept_before : (a b : Code) (x y : Made) → IsMade (unseen a) x y → IsQuiet b → IsMade (unseen (a ⨾ b)) x y
kept_before a b x y made quiet = kept_both a b x y y made (kept_quiet b y quiet)

-- a select with so many alternatives, which were counted before
pub kept_counted :
    (k : ℕ) (c : Code) (x y : Made) → IsMade (unseen c) (record x { arms = max x.arms k }) y → IsMade (unseen (with_arms k c)) x y
kept_counted k c x y made = record { code = made.code; texts = made.texts; arms = omega (arith, made.arms); size = made.size }
