-- What is read of a list.
use Rattle.std.proofs.Common.{◌≡◌, ℕ, ◌+◌, ◌<◌, ◌≤◌, true, false, Option, None, Some, List, length, nat_lt, get_or, arith, sym, ◌∙◌, subst}
use Rattle.std.proofs.Common.{cond}
use Rattle.std.specs.Prelude.{MatchOption}
use Rattle.std.proofs.lemmas.Bool.Decides.{nat_tests}
use Rattle.std.proofs.lemmas.List.{get_or_read}
use Rattle.pfc_links.specs.declared.links.Member.{Member}
use Rattle.pfc_links.specs.Members.{Lists, member_at, in_list, IsFirst, IsLast, IsEmpty, IsNext, IsNobodyAbove, IsPrevious, IsNobodyBelow, latest}
use Rattle.pfc_links.specs.Linked.{AreLinked, IsFrom, IsBackFrom, IsBehind, IsBefore}
use Rattle.pfc_links.proofs.Members.{within}

pub read-behind : (ms : List (Option Member)) (b t y : ℕ) → IsBehind ms b t y
    → MatchOption (cond (nat_lt y (length ms)) (Some y) None) (IsNobodyAbove ms b t) (IsNext ms b t)
read-behind ms b t y (IsBehind.nobody e none) =
    let past : nat_lt y (length ms) ≡ false = grind (arith, nat_tests, e) in
    subst (λ v. MatchOption (cond v (Some y) None) (IsNobodyAbove ms b t) (IsNext ms b t)) (sym past) none
read-behind ms b t y (IsBehind.somebody h) =
    let lt : y < length ms = within ms y b h.ticket h.own in
    let inside : nat_lt y (length ms) ≡ true = grind (arith, nat_tests, lt) in
    subst (λ v. MatchOption (cond v (Some y) None) (IsNobodyAbove ms b t) (IsNext ms b t)) (sym inside) h

pub read-before : (ms : List (Option Member)) (b t y : ℕ) → IsBefore ms b t y
    → MatchOption (cond (nat_lt y (length ms)) (Some y) None) (IsNobodyBelow ms b t) (IsPrevious ms b t)
read-before ms b t y (IsBefore.nobody e none) =
    let past : nat_lt y (length ms) ≡ false = grind (arith, nat_tests, e) in
    subst (λ v. MatchOption (cond v (Some y) None) (IsNobodyBelow ms b t) (IsPrevious ms b t)) (sym past) none
read-before ms b t y (IsBefore.somebody h) =
    let lt : y < length ms = within ms y b h.ticket h.own in
    let inside : nat_lt y (length ms) ≡ true = grind (arith, nat_tests, lt) in
    subst (λ v. MatchOption (cond v (Some y) None) (IsNobodyBelow ms b t) (IsPrevious ms b t)) (sym inside) h

abbrev shown : List (Option Member) → ℕ → Lists
shown ms lists = record { members = ms; lists = lists }

-- who is behind a place, as it is read
abbrev ReadsBehind : List ℕ → ℕ → ℕ → ℕ → Option ℕ → Lists → Type 0
ReadsBehind next b x y o w = x < length w.members + w.lists → y ≡ get_or next x y → o ≡ cond (nat_lt y (length w.members)) (Some y) None →
    (u : ℕ) → b < w.lists → IsFrom w.members x b u
    → MatchOption o (IsNobodyAbove w.members b u) (IsNext w.members b u)

pub behind-read : (ms : List (Option Member)) (lists : ℕ) (next previous : List ℕ) (w : Lists) (b x y : ℕ) (o : Option ℕ)
    → AreLinked ms lists next previous → shown ms lists ≡ w → ReadsBehind next b x y o w
behind-read ms lists next previous w b x y o linked is = subst (λ v. ReadsBehind next b x y o v) is
    (λ room read made u known from.
    let long : length next ≡ length ms + lists = linked.forward in
    let got : y ≡ get_or next x 0 = get_or_read next x y (omega (arith, long, room)) read 0 in
    subst (λ v. MatchOption v (IsNobodyAbove ms b u) (IsNext ms b u)) (sym made)
    (read-behind ms b u y (subst (λ n. IsBehind ms b u n) (sym got) (linked.nexts x b u known from))))

-- who is before a place, as it is read
abbrev ReadsBefore : List ℕ → ℕ → ℕ → ℕ → Option ℕ → Lists → Type 0
ReadsBefore previous b x y o w = x < length w.members + w.lists → y ≡ get_or previous x y → o ≡ cond (nat_lt y (length w.members)) (Some y) None → (u : ℕ) →
    b < w.lists → IsBackFrom w.members x b u
    → MatchOption o (IsNobodyBelow w.members b u) (IsPrevious w.members b u)

pub before-read : (ms : List (Option Member)) (lists : ℕ) (next previous : List ℕ) (w : Lists) (b x y : ℕ) (o : Option ℕ)
    → AreLinked ms lists next previous → shown ms lists ≡ w → ReadsBefore previous b x y o w
before-read ms lists next previous w b x y o linked is = subst (λ v. ReadsBefore previous b x y o v) is
    (λ room read made u known from.
    let long : length previous ≡ length ms + lists = linked.backward in
    let got : y ≡ get_or previous x 0 = get_or_read previous x y (omega (arith, long, room)) read 0 in
    subst (λ v. MatchOption v (IsNobodyBelow ms b u) (IsPrevious ms b u)) (sym made)
    (read-before ms b u y (subst (λ n. IsBefore ms b u n) (sym got) (linked.backs x b u known from))))

-- the list of a member is one of the lists
pub known-list : (ms : List (Option Member)) (lists : ℕ) (next previous : List ℕ) (w : Lists) (p b t : ℕ)
    → AreLinked ms lists next previous → shown ms lists ≡ w → member_at w.members p ≡ in_list b t → b < w.lists
known-list ms lists next previous w p b t linked is = subst (λ v. member_at v.members p ≡ in_list b t → b < v.lists) is (λ own. (linked.listed p b t own).0)

-- who is above no ticket is first, and who is below the latest is last
pub first-of : (ms : List (Option Member)) (lists : ℕ) (next previous : List ℕ) (w : Lists) (b : ℕ) (o : Option ℕ) →
    AreLinked ms lists next previous → shown ms lists ≡ w
    → MatchOption o (IsNobodyAbove w.members b 0) (IsNext w.members b 0) → MatchOption o (IsEmpty w.members b) (IsFirst w.members b)
first-of ms lists next previous w b o linked is =
    subst (λ v. MatchOption o (IsNobodyAbove v.members b 0) (IsNext v.members b 0) → MatchOption o (IsEmpty v.members b) (IsFirst v.members b)) is (go o)
  where
    go : (o : Option ℕ) → MatchOption o (IsNobodyAbove ms b 0) (IsNext ms b 0) → MatchOption o (IsEmpty ms b) (IsFirst ms b)
    go None h = record { none = λ q t own. let le : t ≤ 0 = h.most q t own in let lt : 0 < t = (linked.listed q b t own).1 in omega (arith, le, lt) }
    go (Some p) h = record { ticket = h.ticket; own = h.own; least = λ q t own. h.least q t own (linked.listed q b t own).1 }

pub last-of : (ms : List (Option Member)) (lists : ℕ) (next previous : List ℕ) (w : Lists) (b : ℕ) (o : Option ℕ) →
    AreLinked ms lists next previous → shown ms lists ≡ w
    → MatchOption o (IsNobodyBelow w.members b latest) (IsPrevious w.members b latest) → MatchOption o (IsEmpty w.members b) (IsLast w.members b)
last-of ms lists next previous w b o linked is =
    subst (λ v. MatchOption o (IsNobodyBelow v.members b latest) (IsPrevious v.members b latest) →
    MatchOption o (IsEmpty v.members b) (IsLast v.members b)) is (go o)
  where
    go : (o : Option ℕ) → MatchOption o (IsNobodyBelow ms b latest) (IsPrevious ms b latest) → MatchOption o (IsEmpty ms b) (IsLast ms b)
    go None h = record {
      none = λ q t own. let le : latest ≤ t = h.fewest q t own in let lt : t < latest =
          (linked.listed q b t own).2 in omega (arith, le, lt);
    }
    go (Some p) h = record { ticket = h.ticket; own = h.own; greatest = λ q t own. h.greatest q t own (linked.listed q b t own).2 }
