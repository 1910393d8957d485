-- A process is taken out of its list.
use Rattle.std.proofs.Common.{◌≡◌, ◌≢◌, ℕ, ◌+◌, ◌<◌, ◌≤◌, ◌^◌, true, Option, None, Some, List, length, get_or, set, is_some, arith, refl, sym, ap}
use Rattle.std.proofs.Common.{◌∙◌, subst}
use Rattle.std.proofs.lemmas.List.{length-set, get_or_read}
use Rattle.pfc_links.specs.declared.links.Member.{Member}
use Rattle.pfc_links.specs.Members.{member_at, in_list}
use Rattle.pfc_links.specs.Linked.{AreLinked, IsFrom, IsBackFrom, IsBehind, IsBefore}
use Rattle.pfc_links.proofs.Members.{within, IsOther, other}
use Rattle.pfc_links.proofs.OutForward.{nexts-out}
use Rattle.pfc_links.proofs.OutBackward.{backs-out}

pub record HasMember (o : Option Member) : Type 0 where
  pub list : ℕ
  pub ticket : ℕ
  pub is : o ≡ in_list list ticket

pub member-of : (o : Option Member) → is_some o ≡ true → HasMember o
member-of None h = cc
member-of (Some m) h = record { list = m.list; ticket = m.ticket; is = refl }

pub behind-within : (ms : List (Option Member)) (lists b t y : ℕ) → b < lists → IsBehind ms b t y → y < length ms + lists
behind-within ms lists b t y few (IsBehind.nobody e none) = omega (arith, few, e)
behind-within ms lists b t y few (IsBehind.somebody h) = let lt : y < length ms = within ms y b h.ticket h.own in omega (arith, lt)

pub before-within : (ms : List (Option Member)) (lists b t y : ℕ) → b < lists → IsBefore ms b t y → y < length ms + lists
before-within ms lists b t y few (IsBefore.nobody e none) = omega (arith, few, e)
before-within ms lists b t y few (IsBefore.somebody h) = let lt : y < length ms = within ms y b h.ticket h.own in omega (arith, lt)

-- what is read at a member
read : (links : List ℕ) (n p r : ℕ) → length links ≡ n → p < n → r ≡ get_or links p r → r ≡ get_or links p 0
read links n p r long lt e = get_or_read links p r (omega (arith, long, lt)) e 0

pub before-room : (ms : List (Option Member)) (lists : ℕ) (next previous : List ℕ) (p r : ℕ) → AreLinked ms lists next previous → HasMember (member_at ms p)
    → r ≡ get_or previous p r → r < length next
before-room ms lists next previous p r linked own e =
    let lt : p < length ms = within ms p own.list own.ticket own.is in
    let known : own.list < lists = (linked.listed p own.list own.ticket own.is).0 in
    let room : r < length ms + lists =
    before-within ms lists own.list own.ticket r known
    (subst (λ n. IsBefore ms own.list own.ticket n) (sym (read previous (length ms + lists) p r linked.backward (omega (arith, lt)) e))
    (linked.backs p own.list own.ticket known (IsBackFrom.a_member own.is))) in
    subst (λ n. r < n) (sym linked.forward) room

pub behind-room : (ms : List (Option Member)) (lists : ℕ) (next previous : List ℕ) (p s : ℕ) → AreLinked ms lists next previous → HasMember (member_at ms p)
    → s ≡ get_or next p s → s < length previous
behind-room ms lists next previous p s linked own e =
    let lt : p < length ms = within ms p own.list own.ticket own.is in
    let known : own.list < lists = (linked.listed p own.list own.ticket own.is).0 in
    let room : s < length ms + lists =
    behind-within ms lists own.list own.ticket s known
    (subst (λ n. IsBehind ms own.list own.ticket n) (sym (read next (length ms + lists) p s linked.forward (omega (arith, lt)) e))
    (linked.nexts p own.list own.ticket known (IsFrom.a_member own.is))) in
    subst (λ n. s < n) (sym linked.backward) room

pub taken-out : (ms : List (Option Member)) (lists : ℕ) (next previous : List ℕ) (p r s : ℕ) → AreLinked ms lists next previous → HasMember (member_at ms p)
    → r ≡ get_or previous p r → s ≡ get_or next p s → AreLinked (set ms p None) lists (set next r s) (set previous s r)
taken-out ms lists next previous p r s linked own before behind = record {
  few = rw length-set linked.few;
  forward = length-set next r s ∙ linked.forward ∙ ap (λ n. n + lists) (sym (length-set ms p None));
  backward = length-set previous s r ∙ linked.backward ∙ ap (λ n. n + lists) (sym (length-set ms p None));
  listed = λ q b t h. linked.listed q b t (was q b t h).was;
  apart = λ q k b t h g. linked.apart q k b t (was q b t h).was (was k b t g).was;
  nexts = nexts-out ms lists next previous p own.list own.ticket r s linked own.is
      (read previous (length ms + lists) p r linked.backward wide before) (read next (length ms + lists) p s linked.forward wide behind)
      (before-room ms lists next previous p r linked own before);
  backs = backs-out ms lists next previous p own.list own.ticket s r linked own.is
      (read next (length ms + lists) p s linked.forward wide behind) (read previous (length ms + lists) p r linked.backward wide before)
      (behind-room ms lists next previous p s linked own behind);
}
  where
    lt : p < length ms
    lt = within ms p own.list own.ticket own.is

    wide : p < length ms + lists
    wide = omega (arith, lt)

    was : (q b t : ℕ) → member_at (set ms p None) q ≡ in_list b t → IsOther ms p q b t
    was q b t h = other ms p q b t lt h
