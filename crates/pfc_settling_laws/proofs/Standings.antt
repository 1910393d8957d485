-- Standings that settling lets on: those of processes that wait for a moment, and of main that waits at `coend`.
use Rattle.std.proofs.Common.{◌≡◌, ℕ, ◌||◌, Bool, true, false, is_some, Option, Some, None, List, [], refl, sym, ap, ◌∙◌, subst, ◌⊎◌, inl, inr}
use Rattle.std.specs.Prelude.{if◌then◌else◌}
use Rattle.pfc_state.specs.Stands.{Stand, Is_idle, Is_created, Is_ready, Waits, Is_done, due_of, is_due, is_unfinished, ticket_of, woken}
use Rattle.pfc_state.specs.declared.waits.Arm.{Arm}
use Rattle.pfc_state.specs.declared.waits.Arm.TheVariants.{Send as To, Receive as From, Accept as Entry}
use Rattle.pfc_state.specs.declared.waits.Why.{Why}
use Rattle.pfc_state.specs.declared.waits.Why.TheVariants.{Coend, Meeting, Enter, Condition, Resumer, Entrant, Barred}
use Rattle.pfc_world.specs.Partners.{plain_wait}
use Rattle.pfc_semantics.specs.Remainders.{Open}
use Rattle.pfc_representation.specs.Levels.{is_met_by}
use Rattle.pfc_representation.specs.Hands.{shows_nothing, goes_by_itself, IsOffered, is_woken, waits_plainly, waits_selecting}
use Rattle.pfc_representation.specs.Holding.{waits_for_monitor_at, waits_for_monitor, waits_for_resource_at, waits_for_resource, is_quiet, waits_at_coend}

-- a process that goes on without anybody's action
abbrev pub is_let_on : Stand → Bool
is_let_on stand = is_some (due_of stand) || waits_at_coend stand

-- it stands where it stood, or is let on and ready
abbrev pub IsSameOrLetOn : Stand → Stand → Type 0
IsSameOrLetOn before after = (after ≡ before) ⊎ ((is_let_on before ≡ true) × (after ≡ Is_ready))

-- ## Truth

or_first : (a b : Bool) → a ≡ true → (a || b) ≡ true
or_first true b h = refl
or_first false b h = cc

or_none : (a : Bool) → (a || false) ≡ true → a ≡ true
or_none true h = refl
or_none false h = h

-- ## Who is not let on

-- it stays where it stood
pub stays_at : (s s' x : Stand) → is_let_on x ≡ false → IsSameOrLetOn s s' → s ≡ x → s' ≡ x
stays_at s s' x stays (inl same) is = same ∙ is
stays_at s s' x stays (inr on) is = absurd (let both : true ≡ false = sym on.0 ∙ ap is_let_on is ∙ stays in cc)

stays_where : (s s' : Stand) → is_let_on s ≡ false → IsSameOrLetOn s s' → s' ≡ s
stays_where s s' stays on = stays_at s s' s stays on refl

not_met : (s : Stand) (p : ℕ) → is_let_on s ≡ true → is_met_by s p → ⊥
not_met (Waits (Meeting owner) ticket arms) p on met = cc
not_met s p on met = absurd met

pub still_met : (s s' : Stand) (p : ℕ) → IsSameOrLetOn s s' → is_met_by s p → is_met_by s' p
still_met s s' p (inl same) met = subst (λ (x : Stand). is_met_by x p) (sym same) met
still_met s s' p (inr on) met = absurd (not_met s p on.0 met)

let_on_unfinished : (s : Stand) → is_let_on s ≡ true → is_unfinished s ≡ true
let_on_unfinished Is_idle on = cc
let_on_unfinished Is_created on = refl
let_on_unfinished Is_ready on = refl
let_on_unfinished (Waits why ticket arms) on = refl
let_on_unfinished Is_done on = cc

pub still_unfinished : (s s' : Stand) → IsSameOrLetOn s s' → is_unfinished s ≡ true → is_unfinished s' ≡ true
still_unfinished s s' (inl same) is = ap is_unfinished same ∙ is
still_unfinished s s' (inr on) is = ap is_unfinished on.1

pub still_ended : (s s' : Stand) → IsSameOrLetOn s s' → is_unfinished s ≡ false → is_unfinished s' ≡ false
still_ended s s' (inl same) is = ap is_unfinished same ∙ is
still_ended s s' (inr on) is = absurd (let both : true ≡ false = sym (let_on_unfinished s on.0) ∙ is in cc)

quiet_stays : (s : Stand) → is_quiet s ≡ true → is_let_on s ≡ false
quiet_stays Is_idle is = refl
quiet_stays Is_created is = refl
quiet_stays Is_ready is = refl
quiet_stays (Waits why ticket arms) is = absurd (cc)
quiet_stays Is_done is = refl

pub still_quiet : (s s' : Stand) → IsSameOrLetOn s s' → is_quiet s ≡ true → is_quiet s' ≡ true
still_quiet s s' on is = ap is_quiet (stays_where s s' (quiet_stays s is) on) ∙ is

-- ## What is shown

pub still_shows_nothing : (s s' : Stand) → IsSameOrLetOn s s' → shows_nothing s ≡ true → shows_nothing s' ≡ true
still_shows_nothing s s' (inl same) is = ap shows_nothing same ∙ is
still_shows_nothing s s' (inr on) is = ap shows_nothing on.1

pub still_offered : (s s' : Stand) (os : List Open) (arms : List Arm) → IsSameOrLetOn s s' → IsOffered s os arms → IsOffered s' os arms
still_offered s s' os arms (inl same) is = subst (λ (x : Stand). IsOffered x os arms) (sym same) is
still_offered s s' os arms (inr on) is = subst (λ (x : Stand). IsOffered x os arms) (sym on.1) (is_woken os arms)

plain_stays : (arm : Arm) (ticket : ℕ) → is_let_on (Waits (plain_wait arm) ticket []) ≡ false
plain_stays (To c) ticket = refl
plain_stays (From c) ticket = refl
plain_stays (Entry e) ticket = refl

-- who offers something and is let on was to go by itself
let_on_by_itself : (s : Stand) (os : List Open) (arms : List Arm) → IsOffered s os arms → is_let_on s ≡ true → goes_by_itself s ≡ true
let_on_by_itself _ _ _ (is_woken os arms) on = refl
let_on_by_itself _ _ _ (waits_plainly o arm ticket) on = absurd (let both : true ≡ false = sym on ∙ plain_stays arm ticket in cc)
let_on_by_itself _ _ _ (waits_selecting os arms due ticket) on = or_none (is_some due) on

pub went_by_itself : (s s' : Stand) (os : List Open) (arms : List Arm) → IsSameOrLetOn s s' → IsOffered s os arms → goes_by_itself s' ≡ true
    → goes_by_itself s ≡ true
went_by_itself s s' os arms (inl same) is goes = ap goes_by_itself (sym same) ∙ goes
went_by_itself s s' os arms (inr on) is goes = let_on_by_itself s os arms is on.0

-- ## What is held

no_monitor : (owners : List ℕ) (m : ℕ) (why : Why) (ticket : ℕ) (arms : List Arm) → is_let_on (Waits why ticket arms) ≡ true
    → waits_for_monitor_at owners m why ≡ true → ⊥
no_monitor owners m (Enter n) ticket arms on is = cc
no_monitor owners m (Condition c rank) ticket arms on is = cc
no_monitor owners m (Resumer n) ticket arms on is = cc
no_monitor owners m why ticket arms on is = cc

not_for_monitor : (owners : List ℕ) (m : ℕ) (s : Stand) → is_let_on s ≡ true → waits_for_monitor owners m s ≡ true → ⊥
not_for_monitor owners m (Waits why ticket arms) on is = no_monitor owners m why ticket arms on is
not_for_monitor owners m s on is = cc

pub still_for_monitor : (owners : List ℕ) (m : ℕ) (s s' : Stand) → IsSameOrLetOn s s' → waits_for_monitor owners m s ≡ true
    → waits_for_monitor owners m s' ≡ true
still_for_monitor owners m s s' (inl same) is = ap (waits_for_monitor owners m) same ∙ is
still_for_monitor owners m s s' (inr on) is = absurd (not_for_monitor owners m s on.0 is)

no_resource : (r : ℕ) (why : Why) (ticket : ℕ) (arms : List Arm) → is_let_on (Waits why ticket arms) ≡ true → waits_for_resource_at r why ≡ true → ⊥
no_resource r (Entrant g) ticket arms on is = cc
no_resource r (Barred g procedure) ticket arms on is = cc
no_resource r why ticket arms on is = cc

not_for_resource : (r : ℕ) (s : Stand) → is_let_on s ≡ true → waits_for_resource r s ≡ true → ⊥
not_for_resource r (Waits why ticket arms) on is = no_resource r why ticket arms on is
not_for_resource r s on is = cc

pub still_for_resource : (r : ℕ) (s s' : Stand) → IsSameOrLetOn s s' → waits_for_resource r s ≡ true → waits_for_resource r s' ≡ true
still_for_resource r s s' (inl same) is = ap (waits_for_resource r) same ∙ is
still_for_resource r s s' (inr on) is = absurd (not_for_resource r s on.0 is)

-- ## `coend`

-- no moment comes for one that waits there
pub coend_stays : (moment : ℕ) (s : Stand) → waits_at_coend s ≡ true → waits_at_coend (woken moment s) ≡ true
coend_stays moment (Waits Coend ticket arms) is = refl
coend_stays moment s is = cc

-- ## Moments

pub due_is_let_on : (s : Stand) → is_some (due_of s) ≡ true → is_let_on s ≡ true
due_is_let_on s due = or_first (is_some (due_of s)) (waits_at_coend s) due

is_some_due : (moment : ℕ) (o : Option ℕ) → is_due moment o ≡ true → is_some o ≡ true
is_some_due moment (Some due) h = refl
is_some_due moment None h = cc

pub woken_is : (moment : ℕ) (s : Stand) → IsSameOrLetOn s (woken moment s)
woken_is moment s = by_due (is_due moment (due_of s)) refl
  where
    by_due : (b : Bool) → is_due moment (due_of s) ≡ b → IsSameOrLetOn s (if b then Is_ready else s)
    by_due true is = inr (due_is_let_on s (is_some_due moment (due_of s) is), refl)
    by_due false is = inl refl

pub let_on_twice : (s t u : Stand) → IsSameOrLetOn s t → IsSameOrLetOn t u → IsSameOrLetOn s u
let_on_twice s t u (inl same) (inl same') = inl (same' ∙ same)
let_on_twice s t u (inl same) (inr on) = inr (ap is_let_on (sym same) ∙ on.0, on.1)
let_on_twice s t u (inr on) (inl same') = inr (on.0, same' ∙ on.1)
let_on_twice s t u (inr on) (inr on') = inr (on.0, on'.1)

-- who is due is so still, or was let on
pub due_before : (s s' : Stand) (t : ℕ) → IsSameOrLetOn s s' → due_of s' ≡ Some t → due_of s ≡ Some t
due_before s s' t (inl same) is = ap due_of (sym same) ∙ is
due_before s s' t (inr on) is = absurd (let no : None ≡ Some t = ap due_of (sym on.1) ∙ is in cc)

pub ticket_before : (s s' : Stand) (t : ℕ) → IsSameOrLetOn s s' → ticket_of s' ≡ Some t → ticket_of s ≡ Some t
ticket_before s s' t (inl same) is = ap ticket_of (sym same) ∙ is
ticket_before s s' t (inr on) is = absurd (let no : None ≡ Some t = ap ticket_of (sym on.1) ∙ is in cc)
