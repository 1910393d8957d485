-- A walk along the list of those who are barred at a resource.
use Rattle.std.proofs.Common.{◌≡◌, ℕ, ◌<◌, ◌≤◌, Bool, true, false, ◌==◌, ◌&&◌, nat_lt, Option, None, Some, List, arith, refl, sym, ap}
use Rattle.std.proofs.Common.{◌∙◌, cond, subst}
use Rattle.std.specs.Prelude.{MatchOption}
use Rattle.std.proofs.lemmas.Bool.{eqb-true}
use Rattle.std.proofs.lemmas.Bool.Decides.{nat_tests}
use Rattle.pfc_links.specs.Members.{Lists, in_list, IsNext, IsNobodyAbove}
use Rattle.pfc_state.specs.declared.waits.Why.{Why}
use Rattle.pfc_state.specs.declared.waits.Why.TheVariants.{Barred}
use Rattle.pfc_state.specs.declared.waits.Arm.{Arm}
use Rattle.pfc_state.specs.Stands.{Stand, Is_idle, Is_created, Is_ready, Waits, Is_done, is_above, ticket_barred}
use Rattle.pfc_world.specs.Indexes.{AreListed}
use Rattle.pfc_world.specs.declared.lists.Spread.{Spread}
use Rattle.pfc_world.specs.Lists.{list_at, member_of}
use Rattle.pfc_world.specs.Tables.{at}
use Rattle.pfc_world.specs.Walks.{IsForward}
use Rattle.pfc_world.proofs.InOrder.{same-member}

no-ticket : (A : Type 0) (t : ℕ) → None ≡ Some t → A
no-ticket A t h = cc

left-of : (a b : Bool) → (a && b) ≡ true → a ≡ true
left-of true b h = refl
left-of false b h = h

right-of : (a b : Bool) → (a && b) ≡ true → b ≡ true
right-of true b h = h
right-of false b h = cc

tested : (b : Bool) (ticket t : ℕ) → cond b (Some ticket) None ≡ Some t → (b ≡ true) × (ticket ≡ t)
tested true ticket t h = (refl, let e : Some ticket ≡ Some t = h in cc)
tested false ticket t h = no-ticket _ t h

-- who has a ticket at the resource is in its list, and the ticket is above
wait-given : (spread : Spread) (g : ℕ) (after : Option ℕ) (why : Why) (ticket : ℕ) (arms : List Arm) (t : ℕ)
    → ticket_barred g after (Waits why ticket arms) ≡ Some t
    → (member_of spread (Waits why ticket arms) ≡ in_list (list_at spread 12 g) t) × (is_above after t ≡ true)
wait-given spread g after (Barred r procedure) ticket arms t h =
    let is : (((r == g) && is_above after ticket) ≡ true) × (ticket ≡ t) = tested ((r == g) && is_above after ticket) ticket t h in (
      ap (λ n. in_list (list_at spread 12 n) ticket) (eqb-true r g (left-of (r == g) (is_above after ticket) is.0))
          ∙ ap (λ n. in_list (list_at spread 12 g) n) is.1,
      subst (λ n. is_above after n ≡ true) is.1 (right-of (r == g) (is_above after ticket) is.0),
    )
wait-given spread g after _ ticket arms t h = no-ticket _ t h

given : (spread : Spread) (g : ℕ) (after : Option ℕ) (s : Stand) (t : ℕ) → ticket_barred g after s ≡ Some t
    → (member_of spread s ≡ in_list (list_at spread 12 g) t) × (is_above after t ≡ true)
given spread g after (Waits why ticket arms) t h = wait-given spread g after why ticket arms t h
given spread g after Is_idle t h = no-ticket _ t h
given spread g after Is_created t h = no-ticket _ t h
given spread g after Is_ready t h = no-ticket _ t h
given spread g after Is_done t h = no-ticket _ t h

-- who is barred at the resource is in its list
pub barred-listed : (spread : Spread) (g : ℕ) (after : Option ℕ) (s : Stand) (t : ℕ) → ticket_barred g after s ≡ Some t
    → member_of spread s ≡ in_list (list_at spread 12 g) t
barred-listed spread g after s t h = (given spread g after s t h).0

above-is : (a t : ℕ) → nat_lt a t ≡ true → a < t
above-is a t h = grind (arith, nat_tests)

none-is : (o : Option ℕ) → ((t : ℕ) → o ≡ Some t → ⊥) → o ≡ None
none-is None f = refl
none-is (Some t) f = absurd (f t refl)

-- behind a process of the list whoever is sought has a greater ticket than it
pub behind-starts : (spread : Spread) (g a : ℕ) (rows : List Stand) (lists : Lists) (o : Option ℕ) → AreListed spread rows lists
    → MatchOption o (IsNobodyAbove lists.members (list_at spread 12 g) a) (IsNext lists.members (list_at spread 12 g) a)
    → IsForward spread (ticket_barred g (Some a)) rows (list_at spread 12 g) o
behind-starts spread g a rows lists None listed n = λ q. none-is (ticket_barred g (Some a) (at rows q)) (λ t e.
    let has : (member_of spread (at rows q) ≡ in_list (list_at spread 12 g) t) × (is_above (Some a) t ≡ true) = given spread g (Some a) (at rows q) t e in
    let le : t ≤ a = n.most q t (same-member spread rows lists q listed ∙ has.0) in
    let lt : a < t = above-is a t has.1 in
    omega (arith, le, lt))
behind-starts spread g a rows lists (Some p) listed n = record {
  ticket = n.ticket;
  own = sym (same-member spread rows lists p listed) ∙ n.own;
  rest = λ q t e. least q t (given spread g (Some a) (at rows q) t e);
}
  where
    least : (q t : ℕ) → (member_of spread (at rows q) ≡ in_list (list_at spread 12 g) t) × (is_above (Some a) t ≡ true) → n.ticket ≤ t
    least q t has = n.least q t (same-member spread rows lists q listed ∙ has.0) (above-is a t has.1)
