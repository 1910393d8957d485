-- A process is taken out of its list, and those before and behind it are linked: what is before each.
use Rattle.std.proofs.Common.{◌≡◌, ◌≢◌, ℕ, ◌+◌, ◌<◌, ◌≤◌, ◌⊎◌, inl, inr, Option, None, List, length, get_or, set, arith, sym, ap, ◌∙◌, subst}
use Rattle.std.proofs.lemmas.List.{length-set, get_or-set_same, get_or-set_other}
use Rattle.std.proofs.lemmas.Bool.{cases_eq, cases_lt}
use Rattle.pfc_links.specs.declared.links.Member.{Member}
use Rattle.pfc_links.specs.Members.{member_at, in_list, IsPrevious, IsNobodyBelow, latest}
use Rattle.pfc_links.specs.Linked.{AreLinked, IsFrom, IsBackFrom, IsBefore, IsBehind}
use Rattle.pfc_links.proofs.Members.{within, same-list, same-ticket, IsOther, other}

-- who comes before a process in its list comes before it where the process was, too
next-kept : (ms : List (Option Member)) (p c u y : ℕ) → p < length ms → y ≢ p → IsPrevious ms c u y → IsPrevious (set ms p None) c u y
next-kept ms p c u y lt away h = record {
  ticket = h.ticket;
  own = get_or-set_other ms p y None None away ∙ h.own;
  below = h.below;
  greatest = λ q v e beyond. let o : IsOther ms p q c v = other ms p q c v lt e in h.greatest q v o.was beyond;
}

none-kept : (ms : List (Option Member)) (p c u : ℕ) → p < length ms → IsNobodyBelow ms c u → IsNobodyBelow (set ms p None) c u
none-kept ms p c u lt h = record { fewest = λ q v e. let o : IsOther ms p q c v = other ms p q c v lt e in h.fewest q v o.was }

from-old : (ms : List (Option Member)) (p x c u : ℕ) → p < length ms → IsBackFrom (set ms p None) x c u → IsBackFrom ms x c u
from-old ms p x c u lt (IsBackFrom.the_end e z) = IsBackFrom.the_end (e ∙ ap (λ n. n + c) (length-set ms p None)) z
from-old ms p x c u lt (IsBackFrom.a_member own) = let o : IsOther ms p x c u = other ms p x c u lt own in IsBackFrom.a_member o.was

-- the place behind p, as a place from which one goes on: nobody is between it and p
record Joins (ms : List (Option Member)) (b t c u : ℕ) : Type 0 where
  same : c ≡ b
  nearer : t < u
  all : (q v : ℕ) → member_at ms q ≡ in_list b v → t < v → u ≤ v

joins : (ms : List (Option Member)) (lists : ℕ) (next previous : List ℕ) (b t r c u : ℕ) →
    AreLinked ms lists next previous → (b < lists) × (0 < t) × (t < latest)
    → IsBehind ms b t r → IsBackFrom ms r c u → Joins ms b t c u
joins ms lists next previous b t r c u linked some (IsBehind.nobody e none) (IsBackFrom.the_end f z) = record {
  same = omega (arith, e, f);
  nearer = omega (arith, z, some.1, some.2);
  all = λ q v own lt. let le : v ≤ t = none.most q v own in absurd (omega (arith, le, lt));
}
joins ms lists next previous b t r c u linked some (IsBehind.nobody e none) (IsBackFrom.a_member own) = let lt : r < length ms =
    within ms r c u own in absurd (omega (arith, lt, e))
joins ms lists next previous b t r c u linked some (IsBehind.somebody h) (IsBackFrom.the_end f z) = let lt : r < length ms =
    within ms r b h.ticket h.own in absurd (omega (arith, lt, f))
joins ms lists next previous b t r c u linked some (IsBehind.somebody h) (IsBackFrom.a_member own) =
    let at_it : h.ticket ≡ u = same-ticket (member_at ms r) b h.ticket c u h.own own in
    let near : t < h.ticket = h.above in
    record {
      same = sym (same-list (member_at ms r) b h.ticket c u h.own own);
      nearer = omega (arith, at_it, near);
      all = λ q v own' lt. let le : h.ticket ≤ v = h.least q v own' lt in omega (arith, le, at_it);
    }

-- what was before p is before that place now
joined : (ms : List (Option Member)) (lists : ℕ) (next previous : List ℕ) (p b t c u s : ℕ) → AreLinked ms lists next previous → member_at ms p ≡ in_list b t
    → Joins ms b t c u → IsBefore ms b t s → IsBefore (set ms p None) c u s
joined ms lists next previous p b t c u s linked own j (IsBefore.nobody e none) =
    let lt : p < length ms = within ms p b t own in
    subst (λ n. IsBefore (set ms p None) n u s) (sym j.same)
    (IsBefore.nobody (e ∙ ap (λ n. n + b) (sym (length-set ms p None)))
    (record {
      fewest = λ q v e'.
          let o : IsOther ms p q b v = other ms p q b v lt e' in
          let le : t ≤ v = none.fewest q v o.was in
          elim (cases_eq v t) [
            | inl same ↦ absurd (o.away (linked.apart q p b t (o.was ∙ ap (λ n. in_list b n) same) own))
            | inr apart ↦ let nearer : t < v = omega (arith, le, apart) in j.all q v o.was nearer
          ];
    }))
joined ms lists next previous p b t c u s linked own j (IsBefore.somebody h) =
    let lt : p < length ms = within ms p b t own in
    let beyond : h.ticket < t = h.below in
    let near : t < u = j.nearer in
    let away : s ≢ p = λ here. let same : h.ticket ≡ t =
    same-ticket (member_at ms s) b h.ticket b t h.own (ap (λ n. member_at ms n) here ∙ own) in omega (arith, same, beyond) in
    subst (λ n. IsBefore (set ms p None) n u s) (sym j.same)
    (IsBefore.somebody (record {
      ticket = h.ticket;
      own = get_or-set_other ms p s None None away ∙ h.own;
      below = omega (arith, beyond, near);
      greatest = λ q v e' past.
          let o : IsOther ms p q b v = other ms p q b v lt e' in
          elim (cases_eq v t) [
            | inl same ↦ absurd (o.away (linked.apart q p b t (o.was ∙ ap (λ n. in_list b n) same) own))
            | inr apart ↦ elim (cases_lt v t) [
              | inl less ↦ h.greatest q v o.was (omega (arith, less, apart))
              | inr more ↦ let back : u ≤ v = j.all q v o.was (omega (arith, more, apart)) in absurd (omega (arith, back, past))
            ]
          ];
    }))

-- nobody else is linked to p
only : (ms : List (Option Member)) (lists : ℕ) (next previous : List ℕ) (p b t x c u r : ℕ) → AreLinked ms lists next previous → member_at ms p ≡ in_list b t
    → IsPrevious ms c u p → IsBehind ms b t r → IsBackFrom ms x c u → x ≡ r
only ms lists next previous p b t x c u r linked own h before from = go before from
  where
    list : c ≡ b
    list = same-list (member_at ms p) c h.ticket b t h.own own

    ticket : h.ticket ≡ t
    ticket = same-ticket (member_at ms p) c h.ticket b t h.own own

    near : h.ticket < u
    near = h.below

    go : IsBehind ms b t r → IsBackFrom ms x c u → x ≡ r
    go (IsBehind.nobody e none) (IsBackFrom.the_end f z) = omega (arith, e, f, list)
    go (IsBehind.nobody e none) (IsBackFrom.a_member is) =
        let le : u ≤ t = none.most x u (subst (λ n. member_at ms x ≡ in_list n u) list is) in absurd (omega (arith, le, near, ticket))
    go (IsBehind.somebody pv) (IsBackFrom.the_end f z) =
        let some : (b < lists) × (0 < pv.ticket) × (pv.ticket < latest) = linked.listed r b pv.ticket pv.own in
        let beyond : pv.ticket < u = omega (arith, z, some.1, some.2) in
        let le : pv.ticket ≤ h.ticket = h.greatest r pv.ticket (subst (λ n. member_at ms r ≡ in_list n pv.ticket) (sym list) pv.own) beyond in
        let less : t < pv.ticket = pv.above in
        absurd (omega (arith, le, less, ticket))
    go (IsBehind.somebody pv) (IsBackFrom.a_member is) =
        let is' : member_at ms x ≡ in_list b u = subst (λ n. member_at ms x ≡ in_list n u) list is in
        let first : t < u = omega (arith, near, ticket) in
        let le : pv.ticket ≤ u = pv.least x u is' first in
        let less : t < pv.ticket = pv.above in
        elim (cases_eq u pv.ticket) [
          | inl same ↦ linked.apart x r b u is' (pv.own ∙ ap (λ n. in_list b n) (sym same))
          | inr apart ↦
              let beyond : pv.ticket < u = omega (arith, le, apart) in
              let no : pv.ticket ≤ h.ticket = h.greatest r pv.ticket (subst (λ n. member_at ms r ≡ in_list n pv.ticket) (sym list) pv.own) beyond in
              absurd (omega (arith, no, less, ticket))
        ]

pub backs-out : (ms : List (Option Member)) (lists : ℕ) (next previous : List ℕ) (p b t r s : ℕ) →
    AreLinked ms lists next previous → member_at ms p ≡ in_list b t
    → r ≡ get_or next p 0 → s ≡ get_or previous p 0 → r < length previous
    → (x c u : ℕ) → c < lists → IsBackFrom (set ms p None) x c u → IsBefore (set ms p None) c u (get_or (set previous r s) x 0)
backs-out ms lists next previous p b t r s linked own before behind room x c u few from' = go (cases_eq x r)
  where
    lt : p < length ms
    lt = within ms p b t own

    from : IsBackFrom ms x c u
    from = from-old ms p x c u lt from'

    known : b < lists
    known = (linked.listed p b t own).0

    is_before : IsBehind ms b t r
    is_before = subst (λ n. IsBehind ms b t n) (sym before) (linked.nexts p b t known (IsFrom.a_member own))

    is_behind : IsBefore ms b t s
    is_behind = subst (λ n. IsBefore ms b t n) (sym behind) (linked.backs p b t known (IsBackFrom.a_member own))

    kept : (y : ℕ) → x ≢ r → IsBefore ms c u y → IsBefore (set ms p None) c u y
    kept y away (IsBefore.nobody e none) = IsBefore.nobody (e ∙ ap (λ n. n + c) (sym (length-set ms p None))) (none-kept ms p c u lt none)
    kept y away (IsBefore.somebody h) = elim (cases_eq y p) [
      | inl here ↦ absurd (away (only ms lists next previous p b t x c u r linked own (subst (λ n. IsPrevious ms c u n) here h) is_before from))
      | inr other_one ↦ IsBefore.somebody (next-kept ms p c u y lt other_one h)
    ]

    go : (x ≡ r) ⊎ (x ≢ r) → IsBefore (set ms p None) c u (get_or (set previous r s) x 0)
    go (inl here) =
        subst (λ n. IsBefore (set ms p None) c u n) (sym (ap (λ n. get_or (set previous r s) n 0) here ∙ get_or-set_same previous r s 0 room))
        (joined ms lists next previous p b t c u s linked own
        (joins ms lists next previous b t r c u linked (linked.listed p b t own) is_before (subst (λ n. IsBackFrom ms n c u) here from)) is_behind)
    go (inr away) =
        subst (λ n. IsBefore (set ms p None) c u n) (sym (get_or-set_other previous r x s 0 away))
        (kept (get_or previous x 0) away (linked.backs x c u few from))
