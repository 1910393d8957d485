-- Lists that are empty.
use Rattle.std.proofs.Common.{◌≡◌, ℕ, ◌+◌, ◌<◌, ◌≤◌, ◌^◌, inl, inr, Option, None, List, length, get_or, replicate, arith, sym, ap, ◌∙◌, subst}
use Rattle.std.proofs.lemmas.List.{length-replicate, get_or-replicate, get_or_past}
use Rattle.std.proofs.lemmas.Bool.{cases_lt}
use Rattle.pfc_links.specs.declared.links.Member.{Member}
use Rattle.pfc_links.specs.Members.{member_at, in_list}
use Rattle.pfc_links.specs.Linked.{AreLinked, IsFrom, IsBackFrom, IsBehind, IsBefore}

-- nobody is in any list
abbrev free : ℕ → List (Option Member)
free n = replicate n None

no-member : (A : Type 0) (n p b t : ℕ) → member_at (free n) p ≡ in_list b t → A
no-member A n p b t h =
    let none : member_at (free n) p ≡ None =
    elim (cases_lt p n) [
      | inl lt ↦ get_or-replicate n p None None lt
      | inr le ↦ get_or_past (free n) p None (subst (λ v. v ≤ p) (sym (length-replicate n None)) le)
    ] in
    let clash : None ≡ in_list b t = sym none ∙ h in cc

pub all-empty : (n lists : ℕ) (next previous : List ℕ) → n + lists < 2 ^ 31 → length next ≡ n + lists → ((k : ℕ) → k < n + lists → get_or next k 0 ≡ k)
    → length previous ≡ n + lists → ((k : ℕ) → k < n + lists → get_or previous k 0 ≡ k) → AreLinked (free n) lists next previous
all-empty n lists next previous few long each long' each' = record {
  few = rw length-replicate few;
  forward = long ∙ ap (λ v. v + lists) (sym (length-replicate n None));
  backward = long' ∙ ap (λ v. v + lists) (sym (length-replicate n None));
  listed = λ p b t h. no-member _ n p b t h;
  apart = λ p q b t h g. no-member (p ≡ q) n p b t h;
  nexts = λ x b t known from. nexts x b t known from;
  backs = λ x b t known from. backs x b t known from;
}
  where
    size : length (free n) ≡ n
    size = length-replicate n None

    nexts : (x b t : ℕ) → b < lists → IsFrom (free n) x b t → IsBehind (free n) b t (get_or next x 0)
    nexts x b t known (IsFrom.the_end e z) = IsBehind.nobody (each x (omega (arith, e, size, known)) ∙
        e) (record { most = λ q v h. no-member (v ≤ t) n q b v h })
    nexts x b t known (IsFrom.a_member own) = no-member (IsBehind (free n) b t (get_or next x 0)) n x b t own

    backs : (x b t : ℕ) → b < lists → IsBackFrom (free n) x b t → IsBefore (free n) b t (get_or previous x 0)
    backs x b t known (IsBackFrom.the_end e z) = IsBefore.nobody (each' x (omega (arith, e, size, known)) ∙
        e) (record { fewest = λ q v h. no-member (t ≤ v) n q b v h })
    backs x b t known (IsBackFrom.a_member own) = no-member (IsBefore (free n) b t (get_or previous x 0)) n x b t own
