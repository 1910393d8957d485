-- Two lists that are equally long, built side by side.
use Rattle.std.proofs.Common.{◌≡◌, ◌+◌, suc, List, ◌++◌, map, length, refl, ap, ◌∙◌, sym, length-append}
use Rattle.std.proofs.lemmas.List.{length-map}
use Rattle.pfc_tree.specs.Symbols.{Symbol}
use Rattle.pfc_tree.specs.depths.Exprs.{level}

pub both : {A B : Type 0} → (a b : List A) (x y : List B) → length a ≡ length x → length b ≡ length y → length (a ++ b) ≡ length (x ++ y)
both a b x y h k = length-append a b ∙ ap (λ n. n + length b) h ∙ ap (λ n. length x + n) k ∙ sym (length-append x y)

pub one : {A B : Type 0} → (a : List A) (x : List B) → length a ≡ length x → suc (length a) ≡ suc (length x)
one a x h = ap (λ n. suc n) h

pub mapped : {A B C : Type 0} → (f : A → B) (a : List A) (x : List C) → length a ≡ length x → length (map f a) ≡ length x
mapped f a x h = length-map a f ∙ h

pub same : {A : Type 0} → (a : List A) → length a ≡ length a
same a = refl

-- tokens of one level
pub flat : (ts : List Symbol) → length (level ts) ≡ length ts
flat ts = length-map ts (λ t. 0)

pub ruleset evens = (both, one, mapped, same)
