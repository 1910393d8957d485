-- A process is taken out of its list, and those before and behind it are linked: what is behind each.
use Rattle.std.proofs.Common.{◌≡◌, ◌≢◌, ℕ, ◌+◌, ◌<◌, ◌≤◌, ◌⊎◌, inl, inr, Option, None, List, length, get_or, set, arith, sym, ap, ◌∙◌, subst}
use Rattle.std.proofs.lemmas.List.{length-set, get_or-set_same, get_or-set_other}
use Rattle.std.proofs.lemmas.Bool.{cases_eq, cases_lt}
use Rattle.pfc_links.specs.declared.links.Member.{Member}
use Rattle.pfc_links.specs.Members.{member_at, in_list, IsNext, IsNobodyAbove, latest}
use Rattle.pfc_links.specs.Linked.{AreLinked, IsFrom, IsBackFrom, IsBehind, IsBefore}
use Rattle.pfc_links.proofs.Members.{within, same-list, same-ticket, IsOther, other}

-- who comes behind a process in its list comes behind it where the process was, too
next-kept : (ms : List (Option Member)) (p c u y : ℕ) → p < length ms → y ≢ p → IsNext ms c u y → IsNext (set ms p None) c u y
next-kept ms p c u y lt away h = record {
  ticket = h.ticket;
  own = get_or-set_other ms p y None None away ∙ h.own;
  above = h.above;
  least = λ q v e beyond. let o : IsOther ms p q c v = other ms p q c v lt e in h.least q v o.was beyond;
}

none-kept : (ms : List (Option Member)) (p c u : ℕ) → p < length ms → IsNobodyAbove ms c u → IsNobodyAbove (set ms p None) c u
none-kept ms p c u lt h = record { most = λ q v e. let o : IsOther ms p q c v = other ms p q c v lt e in h.most q v o.was }

from-old : (ms : List (Option Member)) (p x c u : ℕ) → p < length ms → IsFrom (set ms p None) x c u → IsFrom ms x c u
from-old ms p x c u lt (IsFrom.the_end e z) = IsFrom.the_end (e ∙ ap (λ n. n + c) (length-set ms p None)) z
from-old ms p x c u lt (IsFrom.a_member own) = let o : IsOther ms p x c u = other ms p x c u lt own in IsFrom.a_member o.was

-- the place before p, as a place from which one goes on: nobody is between it and p
record Joins (ms : List (Option Member)) (b t c u : ℕ) : Type 0 where
  same : c ≡ b
  nearer : u < t
  all : (q v : ℕ) → member_at ms q ≡ in_list b v → v < t → v ≤ u

joins : (ms : List (Option Member)) (lists : ℕ) (next previous : List ℕ) (b t r c u : ℕ) →
    AreLinked ms lists next previous → (b < lists) × (0 < t) × (t < latest)
    → IsBefore ms b t r → IsFrom ms r c u → Joins ms b t c u
joins ms lists next previous b t r c u linked some (IsBefore.nobody e none) (IsFrom.the_end f z) = record {
  same = omega (arith, e, f);
  nearer = omega (arith, z, some.1, some.2);
  all = λ q v own lt. let le : t ≤ v = none.fewest q v own in absurd (omega (arith, le, lt));
}
joins ms lists next previous b t r c u linked some (IsBefore.nobody e none) (IsFrom.a_member own) = let lt : r < length ms =
    within ms r c u own in absurd (omega (arith, lt, e))
joins ms lists next previous b t r c u linked some (IsBefore.somebody h) (IsFrom.the_end f z) = let lt : r < length ms =
    within ms r b h.ticket h.own in absurd (omega (arith, lt, f))
joins ms lists next previous b t r c u linked some (IsBefore.somebody h) (IsFrom.a_member own) =
    let at_it : h.ticket ≡ u = same-ticket (member_at ms r) b h.ticket c u h.own own in
    let near : h.ticket < t = h.below in
    record {
      same = sym (same-list (member_at ms r) b h.ticket c u h.own own);
      nearer = omega (arith, at_it, near);
      all = λ q v own' lt. let le : v ≤ h.ticket = h.greatest q v own' lt in omega (arith, le, at_it);
    }

-- what was behind p is behind that place now
joined : (ms : List (Option Member)) (lists : ℕ) (next previous : List ℕ) (p b t c u s : ℕ) → AreLinked ms lists next previous → member_at ms p ≡ in_list b t
    → Joins ms b t c u → IsBehind ms b t s → IsBehind (set ms p None) c u s
joined ms lists next previous p b t c u s linked own j (IsBehind.nobody e none) =
    let lt : p < length ms = within ms p b t own in
    subst (λ n. IsBehind (set ms p None) n u s) (sym j.same)
    (IsBehind.nobody (e ∙ ap (λ n. n + b) (sym (length-set ms p None)))
    (record {
      most = λ q v e'.
          let o : IsOther ms p q b v = other ms p q b v lt e' in
          let le : v ≤ t = none.most q v o.was in
          elim (cases_eq v t) [
            | inl same ↦ absurd (o.away (linked.apart q p b t (o.was ∙ ap (λ n. in_list b n) same) own))
            | inr apart ↦ let nearer : v < t = omega (arith, le, apart) in j.all q v o.was nearer
          ];
    }))
joined ms lists next previous p b t c u s linked own j (IsBehind.somebody h) =
    let lt : p < length ms = within ms p b t own in
    let beyond : t < h.ticket = h.above in
    let near : u < t = j.nearer in
    let away : s ≢ p = λ here. let same : h.ticket ≡ t =
    same-ticket (member_at ms s) b h.ticket b t h.own (ap (λ n. member_at ms n) here ∙ own) in omega (arith, same, beyond) in
    subst (λ n. IsBehind (set ms p None) n u s) (sym j.same)
    (IsBehind.somebody (record {
      ticket = h.ticket;
      own = get_or-set_other ms p s None None away ∙ h.own;
      above = omega (arith, beyond, near);
      least = λ q v e' past.
          let o : IsOther ms p q b v = other ms p q b v lt e' in
          elim (cases_eq v t) [
            | inl same ↦ absurd (o.away (linked.apart q p b t (o.was ∙ ap (λ n. in_list b n) same) own))
            | inr apart ↦ elim (cases_lt v t) [
              | inl less ↦ let back : v ≤ u = j.all q v o.was less in absurd (omega (arith, back, past))
              | inr more ↦ h.least q v o.was (omega (arith, more, apart))
            ]
          ];
    }))

-- nobody else is linked to p
only : (ms : List (Option Member)) (lists : ℕ) (next previous : List ℕ) (p b t x c u r : ℕ) → AreLinked ms lists next previous → member_at ms p ≡ in_list b t
    → IsNext ms c u p → IsBefore ms b t r → IsFrom ms x c u → x ≡ r
only ms lists next previous p b t x c u r linked own h before from = go before from
  where
    list : c ≡ b
    list = same-list (member_at ms p) c h.ticket b t h.own own

    ticket : h.ticket ≡ t
    ticket = same-ticket (member_at ms p) c h.ticket b t h.own own

    near : u < h.ticket
    near = h.above

    go : IsBefore ms b t r → IsFrom ms x c u → x ≡ r
    go (IsBefore.nobody e none) (IsFrom.the_end f z) = omega (arith, e, f, list)
    go (IsBefore.nobody e none) (IsFrom.a_member is) =
        let le : t ≤ u = none.fewest x u (subst (λ n. member_at ms x ≡ in_list n u) list is) in absurd (omega (arith, le, near, ticket))
    go (IsBefore.somebody pv) (IsFrom.the_end f z) =
        let some : (b < lists) × (0 < pv.ticket) × (pv.ticket < latest) = linked.listed r b pv.ticket pv.own in
        let beyond : u < pv.ticket = omega (arith, z, some.1, some.2) in
        let le : h.ticket ≤ pv.ticket = h.least r pv.ticket (subst (λ n. member_at ms r ≡ in_list n pv.ticket) (sym list) pv.own) beyond in
        let less : pv.ticket < t = pv.below in
        absurd (omega (arith, le, less, ticket))
    go (IsBefore.somebody pv) (IsFrom.a_member is) =
        let is' : member_at ms x ≡ in_list b u = subst (λ n. member_at ms x ≡ in_list n u) list is in
        let first : u < t = omega (arith, near, ticket) in
        let le : u ≤ pv.ticket = pv.greatest x u is' first in
        let less : pv.ticket < t = pv.below in
        elim (cases_eq u pv.ticket) [
          | inl same ↦ linked.apart x r b u is' (pv.own ∙ ap (λ n. in_list b n) (sym same))
          | inr apart ↦
              let beyond : u < pv.ticket = omega (arith, le, apart) in
              let no : h.ticket ≤ pv.ticket = h.least r pv.ticket (subst (λ n. member_at ms r ≡ in_list n pv.ticket) (sym list) pv.own) beyond in
              absurd (omega (arith, no, less, ticket))
        ]

pub nexts-out : (ms : List (Option Member)) (lists : ℕ) (next previous : List ℕ) (p b t r s : ℕ) →
    AreLinked ms lists next previous → member_at ms p ≡ in_list b t
    → r ≡ get_or previous p 0 → s ≡ get_or next p 0 → r < length next
    → (x c u : ℕ) → c < lists → IsFrom (set ms p None) x c u → IsBehind (set ms p None) c u (get_or (set next r s) x 0)
nexts-out ms lists next previous p b t r s linked own before behind room x c u few from' = go (cases_eq x r)
  where
    lt : p < length ms
    lt = within ms p b t own

    from : IsFrom ms x c u
    from = from-old ms p x c u lt from'

    known : b < lists
    known = (linked.listed p b t own).0

    is_before : IsBefore ms b t r
    is_before = subst (λ n. IsBefore ms b t n) (sym before) (linked.backs p b t known (IsBackFrom.a_member own))

    is_behind : IsBehind ms b t s
    is_behind = subst (λ n. IsBehind ms b t n) (sym behind) (linked.nexts p b t known (IsFrom.a_member own))

    kept : (y : ℕ) → x ≢ r → IsBehind ms c u y → IsBehind (set ms p None) c u y
    kept y away (IsBehind.nobody e none) = IsBehind.nobody (e ∙ ap (λ n. n + c) (sym (length-set ms p None))) (none-kept ms p c u lt none)
    kept y away (IsBehind.somebody h) = elim (cases_eq y p) [
      | inl here ↦ absurd (away (only ms lists next previous p b t x c u r linked own (subst (λ n. IsNext ms c u n) here h) is_before from))
      | inr other_one ↦ IsBehind.somebody (next-kept ms p c u y lt other_one h)
    ]

    go : (x ≡ r) ⊎ (x ≢ r) → IsBehind (set ms p None) c u (get_or (set next r s) x 0)
    go (inl here) =
        subst (λ n. IsBehind (set ms p None) c u n) (sym (ap (λ n. get_or (set next r s) n 0) here ∙ get_or-set_same next r s 0 room))
        (joined ms lists next previous p b t c u s linked own
        (joins ms lists next previous b t r c u linked (linked.listed p b t own) is_before (subst (λ n. IsFrom ms n c u) here from)) is_behind)
    go (inr away) =
        subst (λ n. IsBehind (set ms p None) c u n) (sym (get_or-set_other next r x s 0 away)) (kept (get_or next x 0) away (linked.nexts x c u few from))
