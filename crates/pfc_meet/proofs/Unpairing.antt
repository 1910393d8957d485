-- No two processes that could meet each other both wait.
use Rattle.std.proofs.Common.{◌≡◌, ℕ, zero, suc, ◌-◌, replicate, ◌+◌, inl, inr, ◌⊎◌, Bool, true, false, ◌||◌, ◌&&◌, ◌==◌, Option, None, Some, List, [], ◌∷◌, length, set, refl, sym, ap}
use Rattle.std.proofs.Common.{◌∙◌, subst, cond}
use Rattle.std.specs.Prelude.{is_some}
use Rattle.std.proofs.lemmas.Bool.{cases_eq, cases_lt, eqb-true}
use Rattle.std.proofs.lemmas.List.{get_or-set_same, get_or-set_other, set_past}
use Rattle.pfc_state.specs.declared.waits.Arm.{Arm}
use Rattle.pfc_state.specs.declared.waits.Arm.TheVariants.{Send as To, Receive as From, Accept as Entry}
use Rattle.pfc_state.specs.declared.waits.Why.TheVariants.{Send, Receive, Call, Meeting, Accept, Select}
use Rattle.pfc_state.specs.Stands.{Stand, Is_idle, Is_ready, Waits, ticket_at}
use Rattle.pfc_state.specs.Waits.{same_arm, has_arm}
use Rattle.pfc_world.specs.Channels.{passed_with, received, sent}
use Rattle.pfc_world.specs.Firsts.{IsNobody, first}
use Rattle.pfc_world.specs.Partners.{caller, is_accepting, or_else, partner, receiver, sender, ticket_open_to}
use Rattle.pfc_world.specs.Rendezvous.{accepted, accepted_with, called}
use Rattle.pfc_world.specs.Selects.{communicated, communicated_with, matched, matched_from, select_waited}
use Rattle.pfc_world.specs.Tables.{Table, at, start_table}
use Rattle.pfc_world.specs.Transitions.{blocked, placed}
use Rattle.pfc_world.proofs.Nobody.{first-own, nobody-first}
use Rattle.pfc_meet.specs.Unpaired.{AreElsewhere, AreUnpaired, IsElsewhere}

none-some : (A : Type 0) (o : Option ℕ) (t : ℕ) → o ≡ None → o ≡ Some t → A
none-some A o t e f = let g : None ≡ Some t = sym e ∙ f in cc

no-ticket : (A : Type 0) (t : ℕ) → None ≡ Some t → A
no-ticket A t h = cc

-- after a standing was put, a process stands there or where it stood
put-at : (rows : List Stand) (p : ℕ) (s : Stand) (q : ℕ) → (at (set rows p s) q ≡ at rows q) ⊎ ((q ≡ p) × (at (set rows p s) q ≡ s))
put-at rows p s q = elim (cases_eq q p) [
  | inl here ↦ elim (cases_lt p (length rows)) [
    | inl lt ↦ inr (here, ap (λ n. at (set rows p s) n) here ∙ get_or-set_same rows p s Is_idle lt)
    | inr le ↦ inl (ap (λ v. at v q) (set_past rows p s le))
  ]
  | inr other ↦ inl (get_or-set_other rows p q s Is_idle other)
]

-- a standing that p may take where nobody waits for what it waits for
record Suits (rows : List Stand) (p : ℕ) (s : Stand) : Type 0 where
  sends : (c t : ℕ) → ticket_open_to (To c) s ≡ Some t → IsNobody (ticket_open_to (From c)) rows
  receives : (c t : ℕ) → ticket_open_to (From c) s ≡ Some t → IsNobody (ticket_open_to (To c)) rows
  calls : (owner e t : ℕ) → ticket_at (Call owner e) s ≡ Some t → ticket_open_to (Entry e) (at rows owner) ≡ None
  accepts : (e t : ℕ) → ticket_open_to (Entry e) s ≡ Some t → IsNobody (ticket_at (Call p e)) rows
  plain : (owner e f t u : ℕ) → ticket_at (Call owner e) s ≡ Some t → ticket_open_to (Entry f) s ≡ Some u → ⊥

put : (rows : List Stand) (p : ℕ) (s : Stand) → Suits rows p s → AreUnpaired rows → AreUnpaired (set rows p s)
put rows p s fits ok = record {
  channels = λ c j k t u hj hk. elim (put-at rows p s j) [
    | inl ej ↦ elim (put-at rows p s k) [
      | inl ek ↦ ok.channels c j k t u (sym (ap (ticket_open_to (To c)) ej) ∙ hj) (sym (ap (ticket_open_to (From c)) ek) ∙ hk)
      | inr ek ↦ none-some (j ≡ k) (ticket_open_to (To c) (at rows j)) t (fits.receives c u (sym (ap (ticket_open_to (From c)) ek.1) ∙ hk) j)
          (sym (ap (ticket_open_to (To c)) ej) ∙ hj)
    ]
    | inr ej ↦ elim (put-at rows p s k) [
      | inl ek ↦ none-some (j ≡ k) (ticket_open_to (From c) (at rows k)) u (fits.sends c t (sym (ap (ticket_open_to (To c)) ej.1) ∙ hj) k)
          (sym (ap (ticket_open_to (From c)) ek) ∙ hk)
      | inr ek ↦ ej.0 ∙ sym ek.0
    ]
  ];
  entries = λ owner e k t u hk ho. elim (put-at rows p s k) [
    | inl ek ↦ elim (put-at rows p s owner) [
      | inl eo ↦ ok.entries owner e k t u (sym (ap (ticket_at (Call owner e)) ek) ∙ hk) (sym (ap (ticket_open_to (Entry e)) eo) ∙ ho)
      | inr eo ↦
          none-some ⊥ (ticket_at (Call owner e) (at rows k)) t
          (ap (λ n. ticket_at (Call n e) (at rows k)) eo.0 ∙ fits.accepts e u (sym (ap (ticket_open_to (Entry e)) eo.1) ∙ ho) k)
          (sym (ap (ticket_at (Call owner e)) ek) ∙ hk)
    ]
    | inr ek ↦ elim (put-at rows p s owner) [
      | inl eo ↦
          none-some ⊥ (ticket_open_to (Entry e) (at rows owner)) u (fits.calls owner e t (sym (ap (ticket_at (Call owner e)) ek.1) ∙ hk))
          (sym (ap (ticket_open_to (Entry e)) eo) ∙ ho)
      | inr eo ↦ fits.plain owner e e t u (sym (ap (ticket_at (Call owner e)) ek.1) ∙ hk) (sym (ap (ticket_open_to (Entry e)) eo.1) ∙ ho)
    ]
  ];
}

-- where nobody waits for a message or a meeting
pub nobody : (rows : List Stand) → ((p : ℕ) → IsElsewhere (at rows p)) → AreUnpaired rows
nobody rows away = record {
  channels = λ c j k t u hj hk. none-some _ _ t ((away j).closed (To c)) hj;
  entries = λ owner e k t u hk ho. none-some _ _ u ((away owner).closed (Entry e)) ho;
}

pub changes : (rows next : List Stand) → AreElsewhere rows next → AreUnpaired rows → AreUnpaired next
changes rows next each ok = record {
  channels = λ c j k t u hj hk. elim (each j) [
    | inl same ↦ elim (each k) [
      | inl also ↦ ok.channels c j k t u (sym (ap (ticket_open_to (To c)) same) ∙ hj) (sym (ap (ticket_open_to (From c)) also) ∙ hk)
      | inr away ↦ none-some _ _ u (away.closed (From c)) hk
    ]
    | inr away ↦ none-some _ _ t (away.closed (To c)) hj
  ];
  entries = λ owner e k t u hk ho. elim (each k) [
    | inl same ↦ elim (each owner) [
      | inl also ↦ ok.entries owner e k t u (sym (ap (ticket_at (Call owner e)) same) ∙ hk) (sym (ap (ticket_open_to (Entry e)) also) ∙ ho)
      | inr away ↦ none-some _ _ u (away.closed (Entry e)) ho
    ]
    | inr away ↦ none-some _ _ t (away.silent owner e) hk
  ];
}

ready_elsewhere : IsElsewhere Is_ready
ready_elsewhere = record { closed = λ arm. refl; silent = λ owner e. refl }

idle_elsewhere : IsElsewhere Is_idle
idle_elsewhere = record { closed = λ arm. refl; silent = λ owner e. refl }

idle_at : (n p : ℕ) → IsElsewhere (at (replicate n Is_idle) p)
idle_at zero p = idle_elsewhere
idle_at (suc n) zero = idle_elsewhere
idle_at (suc n) (suc p) = idle_at n p

started_at : (n p : ℕ) → IsElsewhere (at (Is_ready ∷ replicate n Is_idle) p)
started_at n zero = ready_elsewhere
started_at n (suc p) = idle_at n p

pub start : (n room : ℕ) → AreUnpaired (start_table n room).rows
start n room = nobody (start_table n room).rows (started_at (n - 1))

pub elsewhere : (rows : List Stand) (p : ℕ) (s : Stand) → IsElsewhere s → AreUnpaired rows → AreUnpaired (set rows p s)
elsewhere rows p s away ok = put rows p s (record {
  sends = λ c t h. none-some _ _ t (away.closed (To c)) h;
  receives = λ c t h. none-some _ _ t (away.closed (From c)) h;
  calls = λ owner e t h. none-some _ _ t (away.silent owner e) h;
  accepts = λ e t h. none-some _ _ t (away.closed (Entry e)) h;
  plain = λ owner e f t u h g. none-some _ _ t (away.silent owner e) h;
}) ok

ready-closed : (arm : Arm) → ticket_open_to arm Is_ready ≡ None
ready-closed (To c) = refl
ready-closed (From c) = refl
ready-closed (Entry e) = refl

ready-elsewhere : IsElsewhere Is_ready
ready-elsewhere = record { closed = ready-closed; silent = λ owner e. refl }

meeting-closed : (q ticket : ℕ) (arm : Arm) → ticket_open_to arm (Waits (Meeting q) ticket []) ≡ None
meeting-closed q ticket (To c) = refl
meeting-closed q ticket (From c) = refl
meeting-closed q ticket (Entry e) = refl

meeting-elsewhere : (q ticket : ℕ) → IsElsewhere (Waits (Meeting q) ticket [])
meeting-elsewhere q ticket = record { closed = meeting-closed q ticket; silent = λ owner e. refl }

tested : (b : Bool) (n t : ℕ) → cond b (Some n) None ≡ Some t → b ≡ true
tested true n t h = refl
tested false n t h = no-ticket _ t h

no-test : (A : Type 0) → false ≡ true → A
no-test A h = cc

-- who waits in a plain statement for one thing waits for no other
or-plain : (b : Bool) (n t : ℕ) → or_else (cond b (Some n) None) None ≡ Some t → b ≡ true
or-plain true n t h = refl
or-plain false n t h = no-ticket _ t h

send-suits : (rows : List Stand) (p c ticket : ℕ) → receiver rows c ≡ None → Suits rows p (Waits (Send c) ticket [])
send-suits rows p c ticket none = record {
  sends = λ d t h. subst (λ x. IsNobody (ticket_open_to (From x)) rows) (eqb-true c d (or-plain (c == d) ticket t h))
      (nobody-first (ticket_open_to (From c)) rows refl none);
  receives = λ d t h. no-ticket _ t h;
  calls = λ owner e t h. no-ticket _ t h;
  accepts = λ e t h. no-ticket _ t h;
  plain = λ owner e f t u h g. no-ticket _ t h;
}

receive-suits : (rows : List Stand) (p c ticket : ℕ) → sender rows c ≡ None → Suits rows p (Waits (Receive c) ticket [])
receive-suits rows p c ticket none = record {
  sends = λ d t h. no-ticket _ t h;
  receives = λ d t h. subst (λ x. IsNobody (ticket_open_to (To x)) rows) (eqb-true c d (or-plain (c == d) ticket t h))
      (nobody-first (ticket_open_to (To c)) rows refl none);
  calls = λ owner e t h. no-ticket _ t h;
  accepts = λ e t h. no-ticket _ t h;
  plain = λ owner e f t u h g. no-ticket _ t h;
}

is-none : (o : Option ℕ) → is_some o ≡ false → o ≡ None
is-none None h = refl
is-none (Some n) h = no-test _ (sym h)

two : (a b : Bool) (n t : ℕ) → cond (a && b) (Some n) None ≡ Some t → (a ≡ true) × (b ≡ true)
two true true n t h = (refl, refl)
two true false n t h = no-ticket _ t h
two false b n t h = no-ticket _ t h

call-suits : (rows : List Stand) (p owner e ticket : ℕ) → is_accepting rows owner e ≡ false → Suits rows p (Waits (Call owner e) ticket [])
call-suits rows p owner e ticket none = record {
  sends = λ d t h. no-ticket _ t h;
  receives = λ d t h. no-ticket _ t h;
  calls = λ o f t h.
      let same : ((owner == o) ≡ true) × ((e == f) ≡ true) = two (owner == o) (e == f) ticket t h in
      subst (λ x. ticket_open_to (Entry f) (at rows x) ≡ None) (eqb-true owner o same.0)
      (subst (λ x. ticket_open_to (Entry x) (at rows owner) ≡ None) (eqb-true e f same.1) (is-none (ticket_open_to (Entry e) (at rows owner)) none));
  accepts = λ f t h. no-ticket _ t h;
  plain = λ o f g t u h k. no-ticket _ u k;
}

accept-suits : (rows : List Stand) (p e ticket : ℕ) → caller rows p e ≡ None → Suits rows p (Waits (Accept e) ticket [])
accept-suits rows p e ticket none = record {
  sends = λ d t h. no-ticket _ t h;
  receives = λ d t h. no-ticket _ t h;
  calls = λ owner f t h. no-ticket _ t h;
  accepts = λ f t h. subst (λ x. IsNobody (ticket_at (Call p x)) rows) (eqb-true e f (or-plain (e == f) ticket t h))
      (nobody-first (ticket_at (Call p e)) rows refl none);
  plain = λ owner f g t u h k. no-ticket _ t h;
}

-- an alternative that is not matched has no partner
same-is : (a b : Arm) → same_arm a b ≡ true → a ≡ b
same-is (To c) (To d) h = ap (λ n. To n) (eqb-true c d h)
same-is (From c) (From d) h = ap (λ n. From n) (eqb-true c d h)
same-is (Entry c) (Entry d) h = ap (λ n. Entry n) (eqb-true c d h)
same-is (To c) (From d) h = no-test _ h
same-is (To c) (Entry d) h = no-test _ h
same-is (From c) (To d) h = no-test _ h
same-is (From c) (Entry d) h = no-test _ h
same-is (Entry c) (To d) h = no-test _ h
same-is (Entry c) (From d) h = no-test _ h

no-first : (A : Type 0) (n : ℕ) (ns : List ℕ) → n ∷ ns ≡ [] → A
no-first A n ns h = cc

unmatched : (rows : List Stand) (p i : ℕ) (arms : List Arm) (a : Arm) → matched_from i rows p arms ≡ [] → has_arm a arms ≡ true → partner rows p a ≡ None
unmatched rows p i [] a h has = no-test _ has
unmatched rows p i (arm ∷ rest) a h has = go (is_some (partner rows p arm)) (same_arm arm a) refl refl h has (λ e f. unmatched rows p (i + 1) rest a e f)
  where
    go : (m s : Bool) → is_some (partner rows p arm) ≡ m → same_arm arm a ≡ s →
        cond m (i ∷ matched_from (i + 1) rows p rest) (matched_from (i + 1) rows p rest) ≡ []
        → (s || has_arm a rest) ≡ true → (matched_from (i + 1) rows p rest ≡ [] → has_arm a rest ≡ true → partner rows p a ≡ None) → partner rows p a ≡ None
    go true s e f g k ih = no-first _ i (matched_from (i + 1) rows p rest) g
    go false true e f g k ih = sym (ap (λ x. partner rows p x) (same-is arm a f)) ∙ is-none (partner rows p arm) e
    go false false e f g k ih = ih g k

select-suits : (rows : List Stand) (p : ℕ) (arms : List Arm) (due : Option ℕ) (terminate : Bool) (ticket : ℕ) → matched rows p arms ≡ []
    → Suits rows p (Waits (Select due terminate) ticket arms)
select-suits rows p arms due terminate ticket none = record {
  sends = λ c t h. nobody-first (ticket_open_to (From c)) rows refl (unmatched rows p 0 arms (To c) none (tested (has_arm (To c) arms) ticket t h));
  receives = λ c t h. nobody-first (ticket_open_to (To c)) rows refl (unmatched rows p 0 arms (From c) none (tested (has_arm (From c) arms) ticket t h));
  calls = λ owner e t h. no-ticket _ t h;
  accepts = λ e t h. nobody-first (ticket_at (Call p e)) rows refl (unmatched rows p 0 arms (Entry e) none (tested (has_arm (Entry e) arms) ticket t h));
  plain = λ owner e f t u h g. no-ticket _ t h;
}

pub send : (w : Table) (p c : ℕ) → AreUnpaired w.rows → AreUnpaired (sent w p c).rows
send w p c ok = go (receiver w.rows c) refl
  where
    go : (o : Option ℕ) → receiver w.rows c ≡ o → AreUnpaired (passed_with o w p (Send c)).rows
    go (Some q) e = elsewhere w.rows q Is_ready ready-elsewhere ok
    go None e = put w.rows p (Waits (Send c) (w.done + 1) []) (send-suits w.rows p c (w.done + 1) e) ok

pub receive : (w : Table) (p c : ℕ) → AreUnpaired w.rows → AreUnpaired (received w p c).rows
receive w p c ok = go (sender w.rows c) refl
  where
    go : (o : Option ℕ) → sender w.rows c ≡ o → AreUnpaired (passed_with o w p (Receive c)).rows
    go (Some q) e = elsewhere w.rows q Is_ready ready-elsewhere ok
    go None e = put w.rows p (Waits (Receive c) (w.done + 1) []) (receive-suits w.rows p c (w.done + 1) e) ok

pub call : (w : Table) (p owner entry : ℕ) → AreUnpaired w.rows → AreUnpaired (called w p owner entry).rows
call w p owner entry ok = go (is_accepting w.rows owner entry) refl
  where
    go : (b : Bool) → is_accepting w.rows owner entry ≡ b
        → AreUnpaired (cond b (blocked (placed w owner Is_ready) p (Meeting owner) []) (blocked w p (Call owner entry) [])).rows
    go true e =
        elsewhere (set w.rows owner Is_ready) p (Waits (Meeting owner) (w.done + 1) []) (meeting-elsewhere owner (w.done + 1))
        (elsewhere w.rows owner Is_ready ready-elsewhere ok)
    go false e = put w.rows p (Waits (Call owner entry) (w.done + 1) []) (call-suits w.rows p owner entry (w.done + 1) e) ok

pub accept : (w : Table) (p entry : ℕ) → AreUnpaired w.rows → AreUnpaired (accepted w p entry).rows
accept w p entry ok = go (caller w.rows p entry) refl
  where
    go : (o : Option ℕ) → caller w.rows p entry ≡ o → AreUnpaired (accepted_with o w p entry).rows
    go (Some q) e = elsewhere w.rows q (Waits (Meeting p) (w.done + 1) []) (meeting-elsewhere p (w.done + 1)) ok
    go None e = put w.rows p (Waits (Accept entry) (w.done + 1) []) (accept-suits w.rows p entry (w.done + 1) e) ok

commit-with : (w : Table) (p : ℕ) (arm : Arm) (o : Option ℕ) → AreUnpaired w.rows → AreUnpaired (communicated_with o w p arm).rows
commit-with w p arm None ok = ok
commit-with w p (To c) (Some q) ok = elsewhere w.rows q Is_ready ready-elsewhere ok
commit-with w p (From c) (Some q) ok = elsewhere w.rows q Is_ready ready-elsewhere ok
commit-with w p (Entry e) (Some q) ok = elsewhere w.rows q (Waits (Meeting p) (w.done + 1) []) (meeting-elsewhere p (w.done + 1)) ok

pub commit : (w : Table) (p : ℕ) (arm : Arm) → AreUnpaired w.rows → AreUnpaired (communicated w p arm).rows
commit w p arm ok = commit-with w p arm (partner w.rows p arm) ok

pub wait : (w : Table) (p : ℕ) (arms : List Arm) (due : Option ℕ) (terminate : Bool) → matched w.rows p arms ≡ [] → AreUnpaired w.rows
    → AreUnpaired (select_waited w p arms due terminate).rows
wait w p arms due terminate none ok =
    put w.rows p (Waits (Select due terminate) (w.done + 1) arms) (select-suits w.rows p arms due terminate (w.done + 1) none) ok

-- who stands as ready is nobody's partner
closed-first : (key : Stand → Option ℕ) (rows : List Stand) (p q : ℕ) → key Is_ready ≡ None → at rows p ≡ Is_ready → first key rows ≡ Some q → q ≡ p → ⊥
closed-first key rows p q closed ready found same =
    let own : (t : ℕ) × (key (at rows q) ≡ Some t) = first-own key rows q found in
    none-some ⊥ (key (at rows q)) own.0 (ap (λ n. key (at rows n)) same ∙ ap key ready ∙ closed) own.1

pub another : (rows : List Stand) (p q : ℕ) (arm : Arm) → at rows p ≡ Is_ready → partner rows p arm ≡ Some q → q ≡ p → ⊥
another rows p q (To c) ready found same = closed-first (ticket_open_to (From c)) rows p q refl ready found same
another rows p q (From c) ready found same = closed-first (ticket_open_to (To c)) rows p q refl ready found same
another rows p q (Entry e) ready found same = closed-first (ticket_at (Call p e)) rows p q refl ready found same
