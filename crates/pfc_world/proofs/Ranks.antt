-- The first of those that are kept by ranks is the process that waits with the least rank, and of these the one of least ticket.
use Rattle.std.proofs.Common.{◌≡◌, ℕ, zero, suc, ℤ, ◌≤ℤ◌, Bool, true, false, ◌==◌, ◌&&◌, ◌⊎◌, inl, inr, Option, None, Some, List, [], ◌∷◌, arith, refl, sym, ap}
use Rattle.std.proofs.Common.{◌∙◌, cond, subst, map}
use Rattle.std.specs.Prelude.{MatchOption, IfSome, int_lt}
use Rattle.std.specs.Int.{int_min}
use Rattle.std.specs.Ordering.{int_eq}
use Rattle.std.proofs.lemmas.Bool.{cases_cond, eq-eqb, eqb-true}
use Rattle.std.proofs.lemmas.Bool.Decides.{Decides-int_eq}
use Rattle.std.proofs.lemmas.Int.{ints, clamps}
use Rattle.std.proofs.Math.ListN.{get_or-map}
use Rattle.pfc_ranks.specs.declared.ranks.Delay.{Delay}
use Rattle.pfc_ranks.specs.Delays.{delay_at}
use Rattle.pfc_ranks.specs.Delays.{IsFirst as IsFirstDelayed, IsNobody as IsNobodyDelayed}
use Rattle.pfc_state.specs.declared.waits.Why.{Why}
use Rattle.pfc_state.specs.declared.waits.Why.TheVariants.{Condition}
use Rattle.pfc_state.specs.declared.waits.Arm.{Arm}
use Rattle.pfc_state.specs.Stands.{Stand, Is_idle, Is_created, Is_ready, Waits, Is_done, IsWaiting, ticket_at, ticket_on, rank_on}
use Rattle.pfc_world.specs.Delays.{delay_of}
use Rattle.pfc_world.specs.Firsts.{IsFirst, IsFirstRanked, IsNobody, lesser_rank, least_rank, first_with_rank, first_ranked}
use Rattle.pfc_world.specs.Tables.{at}
use Rattle.pfc_world.specs.Tickets.{AreApart}
use Rattle.pfc_world.proofs.Finding.{at-gives, ticket-waits}
use Rattle.pfc_world.proofs.FirstIs.{first-is}
use Rattle.pfc_world.proofs.Indexes.{delay-ticket}

-- nobody waits with a lesser rank, and somebody with this one; or nobody waits
abbrev pub IsLeastRank : ℕ → List Stand → Option ℤ → Type 0
IsLeastRank c rows None = (q : ℕ) → rank_on c (at rows q) ≡ None
IsLeastRank c rows (Some r) = ((q : ℕ) (s : ℤ) → rank_on c (at rows q) ≡ Some s → r ≤ℤ s) × ((q : ℕ) × (rank_on c (at rows q) ≡ Some r))

no-rank : (A : Type 0) (s : ℤ) → None ≡ Some s → A
no-rank A s e = cc

no-delay : (A : Type 0) (d : Delay) → None ≡ Some d → A
no-delay A d e = cc

no-ticket : (A : Type 0) (t : ℕ) → None ≡ Some t → A
no-ticket A t e = cc

below-left : (r u : ℤ) → int_min r u ≤ℤ r
below-left r u = omega (arith, ints, clamps)

below-right : (r u : ℤ) → int_min r u ≤ℤ u
below-right r u = omega (arith, ints, clamps)

least-step : (c : ℕ) (s : Stand) (rest : List Stand) (o l : Option ℤ) → rank_on c s ≡ o → IsLeastRank c rest l
    → IsLeastRank c (s ∷ rest) (lesser_rank o l)
least-step c s rest None None e h = each
  where
    each : (q : ℕ) → rank_on c (at (s ∷ rest) q) ≡ None
    each zero = e
    each (suc q) = h q
least-step c s rest None (Some r) e h = (each, (suc h.1.0, h.1.1))
  where
    each : (q : ℕ) (v : ℤ) → rank_on c (at (s ∷ rest) q) ≡ Some v → r ≤ℤ v
    each zero v f = no-rank (r ≤ℤ v) v (sym e ∙ f)
    each (suc q) v f = h.0 q v f
least-step c s rest (Some r) None e h = (each, (0, e))
  where
    each : (q : ℕ) (v : ℤ) → rank_on c (at (s ∷ rest) q) ≡ Some v → r ≤ℤ v
    each zero v f = let g : Some r ≡ Some v = sym e ∙ f in let same : r ≡ v = cc in omega (arith, ints)
    each (suc q) v f = no-rank (r ≤ℤ v) v (sym (h q) ∙ f)
least-step c s rest (Some r) (Some u) e h = (each, held (cases_cond (int_lt u r) u r (int_min r u) refl))
  where
    each : (q : ℕ) (v : ℤ) → rank_on c (at (s ∷ rest) q) ≡ Some v → int_min r u ≤ℤ v
    each zero v f = let g : Some r ≡ Some v = sym e ∙ f in let same : r ≡ v = cc in let le : int_min r u ≤ℤ r = below-left r u in omega (arith, ints)
    each (suc q) v f = let le : int_min r u ≤ℤ u = below-right r u in let le' : u ≤ℤ v = h.0 q v f in omega (arith, ints)

    held : (int_min r u ≡ u) ⊎ (int_min r u ≡ r) → (q : ℕ) × (rank_on c (at (s ∷ rest) q) ≡ Some (int_min r u))
    held (inl is) = (suc h.1.0, h.1.1 ∙ ap (λ v. Some v) (sym is))
    held (inr is) = (0, e ∙ ap (λ v. Some v) (sym is))

pub least-is : (c : ℕ) (rows : List Stand) → IsLeastRank c rows (least_rank c rows)
least-is c [] = λ q. refl
least-is c (s ∷ rest) = least-step c s rest (rank_on c s) (least_rank c rest) refl (least-is c rest)

low : (c : ℕ) (rows : List Stand) (l r : ℤ) → IsLeastRank c rows (Some l) → IsLeastRank c rows (Some r) → l ≤ℤ r
low c rows l r h g = h.0 g.1.0 r g.1.1

unique : (c : ℕ) (rows : List Stand) (a b : Option ℤ) → IsLeastRank c rows a → IsLeastRank c rows b → a ≡ b
unique c rows None None h g = refl
unique c rows None (Some r) h g = no-rank _ r (sym (h g.1.0) ∙ g.1.1)
unique c rows (Some l) None h g = no-rank _ l (sym (g h.1.0) ∙ h.1.1)
unique c rows (Some l) (Some r) h g =
    let one : l ≤ℤ r = low c rows l r h g in
    let two : r ≤ℤ l = low c rows r l g h in
    let same : l ≡ r = omega (arith, ints) in ap (λ v. Some v) same

-- who waits there with no rank does not wait there
no-condition : (A : Type 0) (b : Bool) (k : ℤ) → cond b (Some k) None ≡ None → (b ≡ false → A) → A
no-condition A true k h f = cc
no-condition A false k h f = f refl

wait-unranked : (c : ℕ) (why : Why) (ticket : ℕ) (arms : List Arm) → rank_on c (Waits why ticket arms) ≡ None → ticket_on c (Waits why ticket arms) ≡ None
wait-unranked c (Condition n k) ticket arms h =
    no-condition (ticket_on c (Waits (Condition n k) ticket arms) ≡ None) (n == c) k h (λ e. ap (λ b. cond b (Some ticket) None) e)
wait-unranked c _ ticket arms h = refl

pub unranked : (c : ℕ) (s : Stand) → rank_on c s ≡ None → ticket_on c s ≡ None
unranked c (Waits why ticket arms) h = wait-unranked c why ticket arms h
unranked c Is_idle h = refl
unranked c Is_created h = refl
unranked c Is_ready h = refl
unranked c Is_done h = refl

abbrev delay_with : ℕ → ℤ → ℕ → Delay
delay_with c r t = record { object = c; rank = r; ticket = t }

-- who is delayed has a rank and a ticket at its condition
same-tests : (n c : ℕ) (k r : ℤ) → n ≡ c → k ≡ r → ((n == c) && int_eq k r) ≡ true
same-tests n c k r e f = both (n == c) (int_eq k r) (eq-eqb n c e) ((Decides-int_eq k r).1 f)
  where
    both : (b d : Bool) → b ≡ true → d ≡ true → (b && d) ≡ true
    both true d e f = f
    both false d e f = cc

wait-delayed : (why : Why) (ticket : ℕ) (arms : List Arm) (d : Delay) → delay_of (Waits why ticket arms) ≡ Some d
    → (rank_on d.object (Waits why ticket arms) ≡ Some d.rank) × (ticket_at (Condition d.object d.rank) (Waits why ticket arms) ≡ Some d.ticket)
wait-delayed (Condition n k) ticket arms d h =
    subst (λ v. (rank_on v.object (Waits (Condition n k) ticket arms) ≡ Some v.rank) ×
    (ticket_at (Condition v.object v.rank) (Waits (Condition n k) ticket arms) ≡ Some v.ticket)) (same h)
    (ap (λ b. cond b (Some k) None) (eq-eqb n n refl), ap (λ b. cond b (Some ticket) None) (same-tests n n k k refl refl))
  where
    same : Some (delay_with n k ticket) ≡ Some d → delay_with n k ticket ≡ d
    same e = cc
wait-delayed _ ticket arms d h = no-delay _ d h

pub delayed : (s : Stand) (d : Delay) → delay_of s ≡ Some d → (rank_on d.object s ≡ Some d.rank) × (ticket_at (Condition d.object d.rank) s ≡ Some d.ticket)
delayed (Waits why ticket arms) d h = wait-delayed why ticket arms d h
delayed Is_idle d h = no-delay _ d h
delayed Is_created d h = no-delay _ d h
delayed Is_ready d h = no-delay _ d h
delayed Is_done d h = no-delay _ d h

-- who has a rank at a condition is delayed there
ranked-given : (b : Bool) (k r : ℤ) → cond b (Some k) None ≡ Some r → (b ≡ true) × (k ≡ r)
ranked-given true k r h = (refl, cc)
ranked-given false k r h = no-rank _ r h

wait-ranked : (c : ℕ) (why : Why) (ticket : ℕ) (arms : List Arm) (r : ℤ) → rank_on c (Waits why ticket arms) ≡ Some r
    → (t : ℕ) × (delay_of (Waits why ticket arms) ≡ Some (delay_with c r t))
wait-ranked c (Condition n k) ticket arms r h =
    let is : ((n == c) ≡ true) × (k ≡ r) = ranked-given (n == c) k r h in
    (ticket, ap (λ m. Some (delay_with m k ticket)) (eqb-true n c is.0) ∙ ap (λ v. Some (delay_with c v ticket)) is.1)
wait-ranked c _ ticket arms r h = no-rank _ r h

pub ranked : (c : ℕ) (s : Stand) (r : ℤ) → rank_on c s ≡ Some r → (t : ℕ) × (delay_of s ≡ Some (delay_with c r t))
ranked c (Waits why ticket arms) r h = wait-ranked c why ticket arms r h
ranked c Is_idle r h = no-rank _ r h
ranked c Is_created r h = no-rank _ r h
ranked c Is_ready r h = no-rank _ r h
ranked c Is_done r h = no-rank _ r h

-- who has a ticket at a condition and a rank is delayed so
ticket-given : (b d : Bool) (ticket t : ℕ) → cond (b && d) (Some ticket) None ≡ Some t → (b ≡ true) × (d ≡ true) × (ticket ≡ t)
ticket-given true true ticket t h = (refl, refl, cc)
ticket-given true false ticket t h = no-ticket _ t h
ticket-given false d ticket t h = no-ticket _ t h

wait-ticketed : (c : ℕ) (r : ℤ) (why : Why) (ticket : ℕ) (arms : List Arm) (t : ℕ) → ticket_at (Condition c r) (Waits why ticket arms) ≡ Some t
    → delay_of (Waits why ticket arms) ≡ Some (delay_with c r t)
wait-ticketed c r (Condition n k) ticket arms t h =
    let is : ((n == c) ≡ true) × (int_eq k r ≡ true) × (ticket ≡ t) = ticket-given (n == c) (int_eq k r) ticket t h in
    let level : k ≡ r = level-is k r is.1 in
    ap (λ m. Some (delay_with m k ticket)) (eqb-true n c is.0) ∙ ap (λ v. Some (delay_with c v ticket)) level ∙ ap (λ v. Some (delay_with c r v)) is.2
  where
    level-is : (k r : ℤ) → int_eq k r ≡ true → k ≡ r
    level-is k r h = grind (arith, ints)
wait-ticketed c r _ ticket arms t h = no-ticket _ t h

pub ticketed : (c : ℕ) (r : ℤ) (s : Stand) (t : ℕ) → ticket_at (Condition c r) s ≡ Some t → delay_of s ≡ Some (delay_with c r t)
ticketed c r (Waits why ticket arms) t h = wait-ticketed c r why ticket arms t h
ticketed c r Is_idle t h = no-ticket _ t h
ticketed c r Is_created t h = no-ticket _ t h
ticketed c r Is_ready t h = no-ticket _ t h
ticketed c r Is_done t h = no-ticket _ t h

delay-kept : (rows : List Stand) (delays : List (Option Delay)) (q : ℕ) → delays ≡ map delay_of rows → delay_at delays q ≡ delay_of (at rows q)
delay-kept rows delays q is = ap (λ v. delay_at v q) is ∙ get_or-map delay_of rows q Is_idle

-- nobody there has a lesser rank than the first of the condition among those that are kept by ranks
rank-least : (c : ℕ) (rows : List Stand) (delays : List (Option Delay)) (p : ℕ) → delays ≡ map delay_of rows → (f : IsFirstDelayed delays c p)
    → (q : ℕ) (r : ℤ) → rank_on c (at rows q) ≡ Some r → f.delay.rank ≤ℤ r
rank-least c rows delays p is f q r own =
    let d : (t : ℕ) × (delay_of (at rows q) ≡ Some (delay_with c r t)) = ranked c (at rows q) r own in
    f.least q (delay_with c r d.0) (delay-kept rows delays q is ∙ d.1) refl

-- with its rank nobody there has a lesser ticket
rank-first : (c : ℕ) (rows : List Stand) (delays : List (Option Delay)) (p : ℕ) → delays ≡ map delay_of rows → (f : IsFirstDelayed delays c p)
    → IsFirst (ticket_at (Condition c f.delay.rank)) rows p
rank-first c rows delays p is f = record {
  ticket = f.delay.ticket;
  own = subst (λ n. ticket_at (Condition n f.delay.rank) (at rows p) ≡ Some f.delay.ticket) f.there
      (delayed (at rows p) f.delay (sym (delay-kept rows delays p is) ∙ f.own)).1;
  least = λ q t own. f.earliest q (delay_with c f.delay.rank t) (delay-kept rows delays q is ∙ ticketed c f.delay.rank (at rows q) t own) refl refl;
}

least-held : (c : ℕ) (rows : List Stand) (delays : List (Option Delay)) (p : ℕ) → delays ≡ map delay_of rows →
    (f : IsFirstDelayed delays c p) → least_rank c rows ≡ Some f.delay.rank
least-held c rows delays p is f =
    unique c rows (least_rank c rows) (Some f.delay.rank) (least-is c rows) (
      rank-least c rows delays p is f,
      (p, subst (λ n. rank_on n (at rows p) ≡ Some f.delay.rank) f.there (delayed (at rows p) f.delay (sym (delay-kept rows delays p is) ∙ f.own)).0),
    )

-- nobody has a rank there
none-ranked : (c : ℕ) (rows : List Stand) (delays : List (Option Delay)) → delays ≡ map delay_of rows →
    IsNobodyDelayed delays c → (q : ℕ) → rank_on c (at rows q) ≡ None
none-ranked c rows delays is nobody q = go (rank_on c (at rows q)) refl
  where
    go : (o : Option ℤ) → rank_on c (at rows q) ≡ o → o ≡ None
    go None e = refl
    go (Some r) e =
        let d : (t : ℕ) × (delay_of (at rows q) ≡ Some (delay_with c r t)) = ranked c (at rows q) r e in
        absurd (nobody q (delay_with c r d.0) (delay-kept rows delays q is ∙ d.1) refl)

pub ranked-found : (c : ℕ) (rows : List Stand) (delays : List (Option Delay)) (o : Option ℕ) → delays ≡ map delay_of rows →
    MatchOption o (IsNobodyDelayed delays c) (IsFirstDelayed delays c)
    → MatchOption o (IsNobody (ticket_on c) rows) (IsFirstRanked c rows)
ranked-found c rows delays None is nobody = λ q. unranked c (at rows q) (none-ranked c rows delays is nobody q)
ranked-found c rows delays (Some p) is f = record { rank = f.delay.rank; least = rank-least c rows delays p is f; first = rank-first c rows delays p is f }

pub ranked-first : (c : ℕ) (rows : List Stand) (delays : List (Option Delay)) (o : Option ℕ) → AreApart rows → delays ≡ map delay_of rows
    → MatchOption o (IsNobodyDelayed delays c) (IsFirstDelayed delays c) → o ≡ first_ranked c rows
ranked-first c rows delays None apart is nobody =
    ap (λ r. first_with_rank c r rows) (sym (unique c rows (least_rank c rows) None (least-is c rows) (none-ranked c rows delays is nobody)))
ranked-first c rows delays (Some p) apart is f =
    sym (ap (λ r. first_with_rank c r rows) (least-held c rows delays p is f)
    ∙ first-is (ticket_at (Condition c f.delay.rank)) rows p (at-gives (Condition c f.delay.rank)) apart (rank-first c rows delays p is f))

pub ranked-waits : (c : ℕ) (rows : List Stand) (delays : List (Option Delay)) (o : Option ℕ) → delays ≡ map delay_of rows →
    MatchOption o (IsNobodyDelayed delays c) (IsFirstDelayed delays c)
    → IfSome o (λ p. IsWaiting (at rows p))
ranked-waits c rows delays None is nobody = tt
ranked-waits c rows delays (Some p) is f =
    ticket-waits (at rows p) f.delay.ticket (delay-ticket (at rows p) f.delay (sym (delay-kept rows delays p is) ∙ f.own))
