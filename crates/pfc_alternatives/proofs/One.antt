-- One alternative is put in, or taken out.
use Rattle.std.proofs.Common.{◌≡◌, ◌≢◌, ℕ, ◌+◌, ◌*◌, ◌/◌, ◌%◌, ◌<◌, ◌≤◌, ◌⊎◌, false, inl, inr, is_some, Option, None, Some, length, arith, refl, sym, ap, ◌∙◌}
use Rattle.std.proofs.Common.{subst}
use Rattle.std.specs.Prelude.{MatchOption}
use Rattle.std.proofs.lemmas.List.{length-set}
use Rattle.std.proofs.lemmas.Bool.{cases_eq}
use Rattle.pfc_links.specs.declared.links.Member.{Member}
use Rattle.pfc_links.specs.Members.{member_at, in_list, IsEmpty, IsLast}
use Rattle.pfc_alternatives.specs.Nodes.{Nodes, node_at, IsProcess, IsIn, AreBefore, AreEarlier, IsLastOf, KeepsOthers}
use Rattle.pfc_alternatives.proofs.Places.{split, place-within, place-of-process, with_node, node-same, node-other, node-of-another}

-- whose place is the last of a list
pub last-of : (nodes : Nodes) (list x p : ℕ) → 0 < nodes.room → p ≡ x / nodes.room → IsLast nodes.members list x → IsLastOf nodes list p
last-of nodes list x p some is h = record {
  place = x % nodes.room;
  within = place-within nodes.room x some;
  last = subst (λ n. IsLast nodes.members list n) (split nodes.room x ∙ ap (λ n. n * nodes.room + x % nodes.room) (sym is)) h;
}

-- where the last of a list is of another process, all there are earlier
pub last-below : (nodes : Nodes) (p list ticket x t : ℕ) (o : Option ℕ) → AreEarlier nodes p ticket →
    MatchOption o (IsEmpty nodes.members list) (IsLastOf nodes list) → o ≢ Some p
    → member_at nodes.members x ≡ in_list list t → t < ticket
last-below nodes p list ticket x t None earlier h away own = absurd (h.none x t own)
last-below nodes p list ticket x t (Some q) earlier h away own =
    let apart : q ≢ p = λ same. away (ap (λ n. Some n) same) in
    let le : t ≤ h.last.ticket = h.last.greatest x t own in
    let lt : h.last.ticket < ticket = earlier.below q h.place list h.last.ticket apart h.within h.last.own in
    omega (arith, le, lt)

-- a place that is not before itself is in no list
pub free-at : (nodes : Nodes) (p place ticket : ℕ) → place < nodes.room → AreBefore nodes p place ticket → node_at nodes p place ≡ None
free-at nodes p place ticket lt before = go (node_at nodes p place) (λ list t h. (before.only place list t lt h).0)
  where
    go : (o : Option Member) → ((list t : ℕ) → o ≡ in_list list t → place < place) → o ≡ None
    go None h = refl
    go (Some m) h = let no : place < place = h m.list m.ticket refl in absurd (omega (arith, no))

-- what comes of it
pub record IsOfferedOne (old new : Nodes) (p place list ticket : ℕ) : Type 0 where
  pub offered : IsIn new p list ticket
  pub kept : (l : ℕ) → IsIn old p l ticket → IsIn new p l ticket
  pub only : AreBefore new p (place + 1) ticket
  pub others : KeepsOthers old new p

-- the alternative is the last of its list
pub put-in : (nodes new : Nodes) (p place list ticket : ℕ) → new ≡ with_node nodes (p * nodes.room + place) (in_list list ticket) → IsProcess nodes p →
    place < nodes.room → AreBefore nodes p place ticket
    → IsOfferedOne nodes new p place list ticket
put-in nodes new p place list ticket is process lt before = subst (λ v. IsOfferedOne nodes v p place list ticket) (sym is) (record {
  offered = record { place = place; within = lt; is = node-same nodes p place (in_list list ticket) within };
  kept = λ l h. record {
    place = h.place;
    within = h.within;
    is = let was : (h.place < place) × (ticket ≡ ticket) = before.only h.place l ticket h.within h.is in
        node-other nodes p place h.place (in_list list ticket) (λ e. absurd (omega (arith, e, was.0))) ∙ h.is;
  };
  only = record { only = λ k l t low h. only k l t low (cases_eq k place) h };
  others = record {
    places = refl;
    room = refl;
    long = length-set nodes.members (p * nodes.room + place) (in_list list ticket);
    others = λ q k away low. node-of-another nodes p q place k (in_list list ticket) away lt low;
  };
})
  where
    within : p * nodes.room + place < length nodes.members
    within = place-of-process (p * nodes.room) nodes.room (length nodes.members) place process lt

    ticket-of : Option Member → ℕ
    ticket-of (Some m) = m.ticket
    ticket-of None = 0

    only : (k l t : ℕ) → k < nodes.room → (k ≡ place) ⊎ (k ≢ place) →
        node_at (with_node nodes (p * nodes.room + place) (in_list list ticket)) p k ≡ in_list l t → (k < place + 1) × (t ≡ ticket)
    only k l t low (inl here) h =
        let own : in_list list ticket ≡ in_list l t =
        sym (node-same nodes p place (in_list list ticket) within) ∙
        ap (λ n. node_at (with_node nodes (p * nodes.room + place) (in_list list ticket)) p n) (sym here) ∙ h in
        (omega (arith, here), sym (ap ticket-of own))
    only k l t low (inr away) h =
        let old : (k < place) × (t ≡ ticket) = before.only k l t low (sym (node-other nodes p place k (in_list list ticket) away) ∙ h) in
        (omega (arith, old.0), old.1)

-- another place of the process is in its list
pub put-by : (nodes : Nodes) (p place list ticket : ℕ) → AreBefore nodes p place ticket → IsLastOf nodes list p → IsOfferedOne nodes nodes p place list ticket
put-by nodes p place list ticket before h = record {
  offered = record {
    place = h.place;
    within = h.within;
    is = let own : (h.place < place) × (h.last.ticket ≡ ticket) = before.only h.place list h.last.ticket h.within h.last.own in
        h.last.own ∙ ap (λ n. in_list list n) own.1;
  };
  kept = λ l is. is;
  only = record { only = λ k l t low is. let old : (k < place) × (t ≡ ticket) = before.only k l t low is in (omega (arith, old.0), old.1) };
  others = record { places = refl; room = refl; long = refl; others = λ q k away low. refl };
}

pub record IsWithdrawnOne (old new : Nodes) (p place : ℕ) : Type 0 where
  pub none : node_at new p place ≡ None
  pub rest : (k : ℕ) → k ≢ place → k < old.room → node_at new p k ≡ node_at old p k
  pub others : KeepsOthers old new p

pub take-out : (nodes new : Nodes) (p place : ℕ) → new ≡ with_node nodes (p * nodes.room + place) None → IsProcess nodes p →
    place < nodes.room → IsWithdrawnOne nodes new p place
take-out nodes new p place is process lt = subst (λ v. IsWithdrawnOne nodes v p place) (sym is) (record {
  none = node-same nodes p place None (place-of-process (p * nodes.room) nodes.room (length nodes.members) place process lt);
  rest = λ k away low. node-other nodes p place k None away;
  others = record {
    places = refl;
    room = refl;
    long = length-set nodes.members (p * nodes.room + place) None;
    others = λ q k away low. node-of-another nodes p q place k None away lt low;
  };
})

pub none-out : (nodes : Nodes) (p place : ℕ) → is_some (node_at nodes p place) ≡ false → IsWithdrawnOne nodes nodes p place
none-out nodes p place h = record {
  none = none-of (node_at nodes p place) h;
  rest = λ k away low. refl;
  others = record { places = refl; room = refl; long = refl; others = λ q k away low. refl };
}
  where
    none-of : (o : Option Member) → is_some o ≡ false → o ≡ None
    none-of None h = refl
    none-of (Some m) h = cc
