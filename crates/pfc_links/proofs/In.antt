-- A process is put at the end of a list.
use Rattle.std.proofs.Common.{◌≡◌, ◌≢◌, ℕ, ◌+◌, ◌<◌, ◌≤◌, ◌^◌, ◌⊎◌, inl, inr, Option, None, List, length, get_or, set, arith, refl, sym, ap, ◌∙◌, subst}
use Rattle.std.proofs.lemmas.List.{length-set, get_or-set_same, get_or-set_other, get_or_read}
use Rattle.std.proofs.lemmas.Bool.{cases_eq}
use Rattle.pfc_links.specs.declared.links.Member.{Member}
use Rattle.pfc_links.specs.Members.{member_at, in_list, latest}
use Rattle.pfc_links.specs.Linked.{AreLinked, IsFrom, IsBackFrom, IsBehind, IsBefore}
use Rattle.pfc_links.proofs.Members.{within, same-list, same-ticket, none-apart, Whose, whose}
use Rattle.pfc_links.proofs.Out.{before-within}

-- What is put in: process p, which is in no list, at the end of list b, with a ticket t above all others there.
pub record Comes (ms : List (Option Member)) (lists p b t : ℕ) : Type 0 where
  pub lt : p < length ms
  pub known : b < lists
  pub free : member_at ms p ≡ None
  pub from_one : 0 < t
  pub small : t < latest
  pub last : (q u : ℕ) → member_at ms q ≡ in_list b u → u < t

own-in : (ms : List (Option Member)) (lists p b t : ℕ) → Comes ms lists p b t → member_at (set ms p (in_list b t)) p ≡ in_list b t
own-in ms lists p b t c = get_or-set_same ms p (in_list b t) None c.lt

old-in : (ms : List (Option Member)) (lists p b t q c u : ℕ) → Comes ms lists p b t → member_at ms q ≡ in_list c u →
    member_at (set ms p (in_list b t)) q ≡ in_list c u
old-in ms lists p b t q c u comes own = get_or-set_other ms p q (in_list b t) None (none-apart ms p q c u comes.free own) ∙ own

-- a place from which one goes on was one before, or is p
data From (ms : List (Option Member)) (p b t x c u : ℕ) : Type 0 where
  new : x ≡ p → c ≡ b → u ≡ t → From ms p b t x c u
  old : x ≢ p → IsFrom ms x c u → From ms p b t x c u

from-in : (ms : List (Option Member)) (lists p b t x c u : ℕ) → Comes ms lists p b t → IsFrom (set ms p (in_list b t)) x c u → From ms p b t x c u
from-in ms lists p b t x c u comes (IsFrom.the_end e z) =
    let e' : x ≡ length ms + c = e ∙ ap (λ n. n + c) (length-set ms p (in_list b t)) in
    let lt : p < length ms = comes.lt in
    old (λ here. omega (arith, e', lt, here)) (IsFrom.the_end e' z)
from-in ms lists p b t x c u comes (IsFrom.a_member own) = go (whose ms p b t x c u comes.lt own)
  where
    go : Whose ms p b t x c u → From ms p b t x c u
    go (Whose.itself here e f) = new here e f
    go (Whose.another away was) = old away (IsFrom.a_member was)

data BackFrom (ms : List (Option Member)) (p b t x c u : ℕ) : Type 0 where
  new : x ≡ p → c ≡ b → u ≡ t → BackFrom ms p b t x c u
  old : x ≢ p → IsBackFrom ms x c u → BackFrom ms p b t x c u

back-from-in : (ms : List (Option Member)) (lists p b t x c u : ℕ) → Comes ms lists p b t → IsBackFrom (set ms p (in_list b t)) x c u → BackFrom ms p b t x c u
back-from-in ms lists p b t x c u comes (IsBackFrom.the_end e z) =
    let e' : x ≡ length ms + c = e ∙ ap (λ n. n + c) (length-set ms p (in_list b t)) in
    let lt : p < length ms = comes.lt in
    old (λ here. omega (arith, e', lt, here)) (IsBackFrom.the_end e' z)
back-from-in ms lists p b t x c u comes (IsBackFrom.a_member own) = go (whose ms p b t x c u comes.lt own)
  where
    go : Whose ms p b t x c u → BackFrom ms p b t x c u
    go (Whose.itself here e f) = new here e f
    go (Whose.another away was) = old away (IsBackFrom.a_member was)

-- nobody is behind p
behind-new : (ms : List (Option Member)) (lists p b t : ℕ) → Comes ms lists p b t → IsBehind (set ms p (in_list b t)) b t (length ms + b)
behind-new ms lists p b t comes =
    IsBehind.nobody (ap (λ n. n + b) (sym (length-set ms p (in_list b t))))
    (record { most = λ q v e. go q v (whose ms p b t q b v comes.lt e) })
  where
    go : (q v : ℕ) → Whose ms p b t q b v → v ≤ t
    go q v (Whose.itself here e f) = omega (arith, f)
    go q v (Whose.another away was) = let lt : v < t = comes.last q v was in omega (arith, lt)

-- p is behind the one that was last, or behind the end where nobody was
behind-last : (ms : List (Option Member)) (lists p b t r c u : ℕ) → Comes ms lists p b t → IsBefore ms b latest r → IsFrom ms r c u
    → IsBehind (set ms p (in_list b t)) c u p
behind-last ms lists p b t r c u comes before from = go before from
  where
    first : c ≡ b → u < t → ((q v : ℕ) → member_at ms q ≡ in_list b v → v ≤ u) → IsBehind (set ms p (in_list b t)) c u p
    first same near all =
        subst (λ n. IsBehind (set ms p (in_list b t)) n u p) (sym same)
        (IsBehind.somebody (record {
          ticket = t;
          own = own-in ms lists p b t comes;
          above = near;
          least =
              λ q v e past. least q v past (whose ms p b t q b v comes.lt e);
        }))
      where
        least : (q v : ℕ) → u < v → Whose ms p b t q b v → t ≤ v
        least q v past (Whose.itself here e f) = omega (arith, f)
        least q v past (Whose.another away was) = let le : v ≤ u = all q v was in absurd (omega (arith, le, past))

    go : IsBefore ms b latest r → IsFrom ms r c u → IsBehind (set ms p (in_list b t)) c u p
    go (IsBefore.nobody e none) (IsFrom.the_end f z) =
        let same : c ≡ b = omega (arith, e, f) in
        let some : 0 < t = comes.from_one in
        let small : t < latest = comes.small in
        first same (omega (arith, z, some)) (λ q v is. let past : latest ≤ v = none.fewest q v is in let lt : v < t =
        comes.last q v is in absurd (omega (arith, past, lt, small)))
    go (IsBefore.nobody e none) (IsFrom.a_member is) = let lt : r < length ms = within ms r c u is in absurd (omega (arith, lt, e))
    go (IsBefore.somebody h) (IsFrom.the_end f z) = let lt : r < length ms = within ms r b h.ticket h.own in absurd (omega (arith, lt, f))
    go (IsBefore.somebody h) (IsFrom.a_member is) =
        let same : b ≡ c = same-list (member_at ms r) b h.ticket c u h.own is in
        let ticket : h.ticket ≡ u = same-ticket (member_at ms r) b h.ticket c u h.own is in
        let near : h.ticket < t = comes.last r h.ticket h.own in
        let small : t < latest = comes.small in
        first (sym same) (omega (arith, near, ticket))
        (λ q v own. let lt : v < t = comes.last q v own in let le : v ≤ h.ticket = h.greatest q v own (omega (arith, lt, small)) in omega (arith, le, ticket))

-- what is behind another place is as before
behind-old : (ms : List (Option Member)) (lists : ℕ) (next previous : List ℕ) (p b t x c u r y : ℕ) → AreLinked ms lists next previous → Comes ms lists p b t
    → IsBefore ms b latest r → IsFrom ms x c u → x ≢ r → IsBehind ms c u y → IsBehind (set ms p (in_list b t)) c u y
behind-old ms lists next previous p b t x c u r y linked comes before from away (IsBehind.somebody h) =
    IsBehind.somebody (record {
      ticket = h.ticket;
      own = old-in ms lists p b t y c h.ticket comes h.own;
      above = h.above;
      least = λ q v e past. least q v past (whose ms p b t q c v comes.lt e);
    })
  where
    least : (q v : ℕ) → u < v → Whose ms p b t q c v → h.ticket ≤ v
    least q v past (Whose.itself here e f) = let lt : h.ticket < t = comes.last y h.ticket (h.own ∙ ap (λ n. in_list n h.ticket) e) in omega (arith, lt, f)
    least q v past (Whose.another else was) = h.least q v was past
behind-old ms lists next previous p b t x c u r y linked comes before from away (IsBehind.nobody e none) =
    IsBehind.nobody (e ∙ ap (λ n. n + c) (sym (length-set ms p (in_list b t)))) (record { most = λ q v is. most q v (whose ms p b t q c v comes.lt is) })
  where
    end_is : c ≡ b → x ≡ r
    end_is same = go before from
      where
        go : IsBefore ms b latest r → IsFrom ms x c u → x ≡ r
        go (IsBefore.nobody f empty) (IsFrom.the_end g z) = omega (arith, f, g, same)
        go (IsBefore.nobody f empty) (IsFrom.a_member is) =
            let is' : member_at ms x ≡ in_list b u = subst (λ n. member_at ms x ≡ in_list n u) same is in
            let past : latest ≤ u = empty.fewest x u is' in
            let lt : u < t = comes.last x u is' in
            let small : t < latest = comes.small in
            absurd (omega (arith, past, lt, small))
        go (IsBefore.somebody h) (IsFrom.the_end g z) =
            let some : (b < lists) × (0 < h.ticket) × (h.ticket < latest) = linked.listed r b h.ticket h.own in
            let le : h.ticket ≤ u = none.most r h.ticket (subst (λ n. member_at ms r ≡ in_list n h.ticket) (sym same) h.own) in
            absurd (omega (arith, z, le, some.1))
        go (IsBefore.somebody h) (IsFrom.a_member is) =
            let is' : member_at ms x ≡ in_list b u = subst (λ n. member_at ms x ≡ in_list n u) same is in
            let le : h.ticket ≤ u = none.most r h.ticket (subst (λ n. member_at ms r ≡ in_list n h.ticket) (sym same) h.own) in
            let some : (b < lists) × (0 < u) × (u < latest) = linked.listed x b u is' in
            let ge : u ≤ h.ticket = h.greatest x u is' some.2 in
            let at_it : u ≡ h.ticket = omega (arith, le, ge) in
            linked.apart x r b u is' (h.own ∙ ap (λ n. in_list b n) (sym at_it))

    most : (q v : ℕ) → Whose ms p b t q c v → v ≤ u
    most q v (Whose.itself here same f) = absurd (away (end_is same))
    most q v (Whose.another else was) = none.most q v was

-- the one that was last is before p
before-new : (ms : List (Option Member)) (lists p b t r : ℕ) → Comes ms lists p b t → IsBefore ms b latest r → IsBefore (set ms p (in_list b t)) b t r
before-new ms lists p b t r comes (IsBefore.nobody e none) =
    IsBefore.nobody (e ∙ ap (λ n. n + b) (sym (length-set ms p (in_list b t)))) (record { fewest = λ q v is. go q v (whose ms p b t q b v comes.lt is) })
  where
    go : (q v : ℕ) → Whose ms p b t q b v → t ≤ v
    go q v (Whose.itself here e' f) = omega (arith, f)
    go q v (Whose.another away was) = let past : latest ≤ v = none.fewest q v was in let small : t < latest = comes.small in omega (arith, past, small)
before-new ms lists p b t r comes (IsBefore.somebody h) =
    IsBefore.somebody (record {
      ticket = h.ticket;
      own = old-in ms lists p b t r b h.ticket comes h.own;
      below = comes.last r h.ticket h.own;
      greatest = λ q v e less. go q v less (whose ms p b t q b v comes.lt e);
    })
  where
    go : (q v : ℕ) → v < t → Whose ms p b t q b v → v ≤ h.ticket
    go q v less (Whose.itself here e f) = absurd (omega (arith, f, less))
    go q v less (Whose.another away was) = let small : t < latest = comes.small in h.greatest q v was (omega (arith, less, small))

-- p is the last
before-end : (ms : List (Option Member)) (lists p b t u : ℕ) → Comes ms lists p b t → u ≡ latest → IsBefore (set ms p (in_list b t)) b u p
before-end ms lists p b t u comes e =
    let small : t < latest = comes.small in
    IsBefore.somebody (record {
      ticket = t;
      own = own-in ms lists p b t comes;
      below = omega (arith, e, small);
      greatest = λ q v is less. go q v (whose ms p b t q b v comes.lt is);
    })
  where
    go : (q v : ℕ) → Whose ms p b t q b v → v ≤ t
    go q v (Whose.itself here e' f) = omega (arith, f)
    go q v (Whose.another away was) = let lt : v < t = comes.last q v was in omega (arith, lt)

-- what is before another place is as before
before-old : (ms : List (Option Member)) (lists p b t x c u y : ℕ) → Comes ms lists p b t → IsBackFrom ms x c u → x ≢ length ms + b
    → IsBefore ms c u y → IsBefore (set ms p (in_list b t)) c u y
before-old ms lists p b t x c u y comes from away before = go before
  where
    lower : c ≡ b → u < t
    lower same = kind from
      where
        kind : IsBackFrom ms x c u → u < t
        kind (IsBackFrom.the_end e z) = absurd (away (e ∙ ap (λ n. length ms + n) same))
        kind (IsBackFrom.a_member is) = comes.last x u (subst (λ n. member_at ms x ≡ in_list n u) same is)

    go : IsBefore ms c u y → IsBefore (set ms p (in_list b t)) c u y
    go (IsBefore.nobody e none) = IsBefore.nobody (e ∙ ap (λ n. n + c) (sym (length-set ms p (in_list b t)))) (record {
      fewest =
          λ q v is. fewest q v (whose ms p b t q c v comes.lt is);
    })
      where
        fewest : (q v : ℕ) → Whose ms p b t q c v → u ≤ v
        fewest q v (Whose.itself here same f) = let lt : u < t = lower same in omega (arith, f, lt)
        fewest q v (Whose.another else was) = none.fewest q v was
    go (IsBefore.somebody h) =
        IsBefore.somebody (record {
          ticket = h.ticket;
          own = old-in ms lists p b t y c h.ticket comes h.own;
          below = h.below;
          greatest = λ q v e less. greatest q v less (whose ms p b t q c v comes.lt e);
        })
      where
        greatest : (q v : ℕ) → v < u → Whose ms p b t q c v → v ≤ h.ticket
        greatest q v less (Whose.itself here same f) = let lt : u < t = lower same in absurd (omega (arith, f, lt, less))
        greatest q v less (Whose.another else was) = h.greatest q v was less

-- the place of the last is a place
pub last-room : (ms : List (Option Member)) (lists : ℕ) (next previous : List ℕ) (b r e : ℕ) → AreLinked ms lists next previous → b < lists → e ≡ length ms + b
    → r ≡ get_or previous e r → r < length next
last-room ms lists next previous b r e linked known at_end read =
    let long : length previous ≡ length ms + lists = linked.backward in
    let got : r ≡ get_or previous e 0 = get_or_read previous e r (omega (arith, long, known, at_end)) read 0 in
    let before : IsBefore ms b latest r = subst (λ n. IsBefore ms b latest n) (sym got) (linked.backs e b latest known (IsBackFrom.the_end at_end refl)) in
    subst (λ n. r < n) (sym linked.forward) (before-within ms lists b latest r known before)

pub put-in : (ms : List (Option Member)) (lists : ℕ) (next previous : List ℕ) (p b t e r : ℕ) → AreLinked ms lists next previous → Comes ms lists p b t
    → e ≡ length ms + b → r ≡ get_or previous e r
    → AreLinked (set ms p (in_list b t)) lists (set (set next r p) p e) (set (set previous e p) p r)
put-in ms lists next previous p b t e r linked comes at_end read = record {
  few = rw length-set linked.few;
  forward = length-set (set next r p) p e ∙ length-set next r p ∙ linked.forward ∙ ap (λ n. n + lists) (sym (length-set ms p (in_list b t)));
  backward = length-set (set previous e p) p r ∙ length-set previous e p ∙ linked.backward ∙ ap (λ n. n + lists) (sym (length-set ms p (in_list b t)));
  listed = λ q c u h. listed q c u (whose ms p b t q c u comes.lt h);
  apart = λ q k c u h g. apart q k c u (whose ms p b t q c u comes.lt h) (whose ms p b t k c u comes.lt g);
  nexts = λ x c u few from. nexts x c u few (from-in ms lists p b t x c u comes from);
  backs = λ x c u few from. backs x c u few (back-from-in ms lists p b t x c u comes from);
}
  where
    known : b < lists
    known = comes.known

    lt : p < length ms
    lt = comes.lt

    end_within : e < length previous
    end_within = let long : length previous ≡ length ms + lists = linked.backward in omega (arith, long, known, at_end)

    before : IsBefore ms b latest r
    before = subst (λ n. IsBefore ms b latest n) (sym (get_or_read previous e r end_within read 0))
        (linked.backs e b latest known (IsBackFrom.the_end at_end refl))

    listed : (q c u : ℕ) → Whose ms p b t q c u → (c < lists) × (0 < u) × (u < latest)
    listed q c u (Whose.itself here f g) =
        let some : 0 < t = comes.from_one in
        let small : t < latest = comes.small in
        (omega (arith, f, known), omega (arith, g, some), omega (arith, g, small))
    listed q c u (Whose.another away was) = linked.listed q c u was

    apart : (q k c u : ℕ) → Whose ms p b t q c u → Whose ms p b t k c u → q ≡ k
    apart q k c u (Whose.itself here f g) (Whose.itself there f' g') = here ∙ sym there
    apart q k c u (Whose.itself here f g) (Whose.another away was) =
        let below : u < t = comes.last k u (subst (λ n. member_at ms k ≡ in_list n u) f was) in absurd (omega (arith, g, below))
    apart q k c u (Whose.another away was) (Whose.itself there f g) =
        let below : u < t = comes.last q u (subst (λ n. member_at ms q ≡ in_list n u) f was) in absurd (omega (arith, g, below))
    apart q k c u (Whose.another away was) (Whose.another away' was') = linked.apart q k c u was was'

    wide_next : p < length (set next r p)
    wide_next = let long : length next ≡ length ms + lists = linked.forward in rw length-set (omega (arith, long, lt))

    wide_previous : p < length (set previous e p)
    wide_previous = let long : length previous ≡ length ms + lists = linked.backward in rw length-set (omega (arith, long, lt))

    nexts : (x c u : ℕ) → c < lists → From ms p b t x c u → IsBehind (set ms p (in_list b t)) c u (get_or (set (set next r p) p e) x 0)
    nexts x c u few (From.new here f g) =
        subst (λ n. IsBehind (set ms p (in_list b t)) c u n) (sym (ap (λ n. get_or (set (set next r p) p e) n 0) here ∙
        get_or-set_same (set next r p) p e 0 wide_next ∙ at_end))
        (subst (λ n. IsBehind (set ms p (in_list b t)) n u (length ms + b)) (sym f)
        (subst (λ n. IsBehind (set ms p (in_list b t)) b n (length ms + b)) (sym g) (behind-new ms lists p b t comes)))
    nexts x c u few (From.old away from) = elim (cases_eq x r) [
      | inl here ↦
          subst (λ n. IsBehind (set ms p (in_list b t)) c u n)
          (sym (get_or-set_other (set next r p) p x e 0 away ∙ ap (λ n. get_or (set next r p) n 0) here ∙
          get_or-set_same next r p 0 (last-room ms lists next previous b r e linked known at_end read)))
          (behind-last ms lists p b t r c u comes before (subst (λ n. IsFrom ms n c u) here from))
      | inr else ↦
          subst (λ n. IsBehind (set ms p (in_list b t)) c u n) (sym (get_or-set_other (set next r p) p x e 0 away ∙ get_or-set_other next r x p 0 else))
          (behind-old ms lists next previous p b t x c u r (get_or next x 0) linked comes before from else (linked.nexts x c u few from))
    ]

    ended : (x c u : ℕ) → x ≡ e → IsBackFrom ms x c u → IsBefore (set ms p (in_list b t)) c u p
    ended x c u here (IsBackFrom.the_end f z) =
        let same : c ≡ b = omega (arith, here, f, at_end) in
        subst (λ n. IsBefore (set ms p (in_list b t)) n u p) (sym same) (before-end ms lists p b t u comes z)
    ended x c u here (IsBackFrom.a_member is) = let low : x < length ms = within ms x c u is in absurd (omega (arith, here, at_end, low))

    backs : (x c u : ℕ) → c < lists → BackFrom ms p b t x c u → IsBefore (set ms p (in_list b t)) c u (get_or (set (set previous e p) p r) x 0)
    backs x c u few (BackFrom.new here f g) =
        subst (λ n. IsBefore (set ms p (in_list b t)) c u n) (sym (ap (λ n. get_or (set (set previous e p) p r) n 0) here ∙
        get_or-set_same (set previous e p) p r 0 wide_previous))
        (subst (λ n. IsBefore (set ms p (in_list b t)) n u r) (sym f)
        (subst (λ n. IsBefore (set ms p (in_list b t)) b n r) (sym g) (before-new ms lists p b t r comes before)))
    backs x c u few (BackFrom.old away from) = elim (cases_eq x e) [
      | inl here ↦
          subst (λ n. IsBefore (set ms p (in_list b t)) c u n)
          (sym (get_or-set_other (set previous e p) p x r 0 away ∙ ap (λ n. get_or (set previous e p) n 0) here ∙ get_or-set_same previous e p 0 end_within))
          (ended x c u here from)
      | inr else ↦
          subst (λ n. IsBefore (set ms p (in_list b t)) c u n) (sym (get_or-set_other (set previous e p) p x r 0 away ∙ get_or-set_other previous e x p 0 else))
          (before-old ms lists p b t x c u (get_or previous x 0) comes from (λ there. else (there ∙ sym at_end)) (linked.backs x c u few from))
    ]
