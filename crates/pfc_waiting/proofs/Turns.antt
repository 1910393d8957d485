-- What a process does that is ready, acts and has acted.
use Rattle.std.proofs.Common.{◌≡◌, ℕ, ◌+◌, ◌-◌, ℤ, Bool, true, false, List, [], Option, None, Some, Result, Ok, Err, map, set, refl, sym, ap, ◌∙◌, subst}
use Rattle.std.specs.Prelude.{◌==◌, if◌then◌else◌}
use Rattle.std.proofs.lemmas.List.{length-set, length-map}
use Rattle.pfc_base.specs.declared.faults.RunFault.{RunFault}
use Rattle.pfc_state.specs.declared.waits.Arm.{Arm}
use Rattle.pfc_state.specs.declared.waits.Why.{Why}
use Rattle.pfc_state.specs.declared.waits.Why.TheVariants.{Coend, Semaphore, Enter, Condition, Resumer}
use Rattle.pfc_state.specs.Stands.{Is_ready, Waits, started}
use Rattle.pfc_world.specs.declared.answers.After.{After}
use Rattle.pfc_world.specs.declared.answers.After.TheVariants.{Goes, Waits as Has_to_wait}
use Rattle.pfc_world.specs.Coend.{IsAtCoend}
use Rattle.pfc_world.specs.Goings.{ActsAfter}
use Rattle.pfc_world.specs.Holders.{Held, held_in, holder_in, standing, holding, given_to}
use Rattle.pfc_world.specs.Monitors.{entered_where, entered, handed_over, delayed, resumed_with, resumed}
use Rattle.pfc_world.specs.Partners.{semaphore_waiter, next_holder, condition_waiter}
use Rattle.pfc_world.specs.Semaphores.{Counted, counted, count_of, counting, waited, signalled_to}
use Rattle.pfc_world.specs.Tables.{Table, some_created}
use Rattle.pfc_world.specs.Transitions.{begun, rested, blocked, all_started}
use Rattle.pfc_pass.specs.Counts.{IsSignal}
use Rattle.pfc_waiting.specs.Moments.{at_coend}
use Rattle.pfc_waiting.specs.Waiting.{HasActed}

-- ## One turn

-- who acted and does not wait stands where it stood
pub rested_is : (w : Table) (p : ℕ) → w.acting ≡ None → rested (begun w p) ≡ w
rested_is w p alone = ap (λ (a : Option ℕ). (let t : Table = record w { acting = a } in t)) (sym alone)

pub nothing_acts : (w : Table) → w.acting ≡ None → HasActed w w
nothing_acts w alone = record { acting = alone; done = refl; moment = refl; count = refl }

pub blocked_acts : (w : Table) (p : ℕ) (why : Why) (arms : List Arm) → HasActed w (blocked w p why arms)
blocked_acts w p why arms =
    record { acting = refl; done = refl; moment = refl; count = length-set w.rows p (Waits why (w.done + 1) arms) }

-- ## Semaphores

abbrev rests : Counted → Counted
rests c = counted (rested c.table) c.counts

-- `wait` with its test
abbrev waited_where : Bool → Table → List ℕ → ℕ → ℕ → Counted
waited_where z w counts p s =
    if z then counted (blocked w p (Semaphore s) []) counts else counting (counted w counts) s (count_of (counted w counts) s - 1)

waited_rests :
    (z : Bool) (w : Table) (counts : List ℕ) (p s : ℕ)
    → w.acting ≡ None → rests (waited_where z (begun w p) counts p s) ≡ waited_where z w counts p s
waited_rests true w counts p s alone = refl
waited_rests false w counts p s alone = ap (λ (t : Table). counting (counted t counts) s (count_of (counted t counts) s - 1)) (rested_is w p alone)

waited_where_acts : (z : Bool) (w : Table) (counts : List ℕ) (p s : ℕ) → w.acting ≡ None → HasActed w (waited_where z w counts p s).table
waited_where_acts true w counts p s alone = blocked_acts w p (Semaphore s) []
waited_where_acts false w counts p s alone = nothing_acts w alone

pub waited_once :
    (w begins acts ends : Table) (before after : List ℕ) (p q s : ℕ)
    → w.acting ≡ None → q ≡ p → begins ≡ begun w p → counted acts after ≡ waited (counted begins before) q s → ends ≡ rested acts
    → counted ends after ≡ waited (counted w before) p s
waited_once w begins acts ends before after p q s alone same begin rule rest =
    ap (λ (t : Table). counted t after) rest
    ∙ ap rests (rule ∙ ap (λ (t : Table). waited (counted t before) q s) begin ∙ ap (λ (k : ℕ). waited (counted (begun w p) before) k s) same)
    ∙ waited_rests (count_of (counted w before) s == 0) w before p s alone

pub waited_acts : (w : Table) (counts : List ℕ) (p s : ℕ) → w.acting ≡ None → HasActed w (waited (counted w counts) p s).table
waited_acts w counts p s alone = waited_where_acts (count_of (counted w counts) s == 0) w counts p s alone

signalled_to_acts : (q : Option ℕ) (w : Table) (counts : List ℕ) (s : ℕ) → w.acting ≡ None → HasActed w (signalled_to q (counted w counts) s).table
signalled_to_acts (Some q) w counts s alone = record { acting = alone; done = refl; moment = refl; count = length-set w.rows q Is_ready }
signalled_to_acts None w counts s alone = nothing_acts w alone

pub signal_acts :
    (w new : Table) (before after : List ℕ) (s : ℕ) (r : Result (Option ℕ) RunFault)
    → w.acting ≡ None → IsSignal (counted w before) s r (counted new after) → HasActed w new
signal_acts w new before after s (Ok freed) alone h =
    subst (λ (x : Counted). HasActed w x.table) (sym h.2) (signalled_to_acts (semaphore_waiter w.rows s) w before s alone)
signal_acts w new before after s (Err fault) alone h = subst (λ (x : Counted). HasActed w x.table) (sym h.2) (nothing_acts w alone)

-- ## Plain waits, and `coend`

pub blocked_once :
    (w begins ends : Table) (p q : ℕ) (why : Why) → q ≡ p → begins ≡ begun w p → ends ≡ blocked begins q why [] → ends ≡ blocked w p why []
blocked_once w begins ends p q why same begin rule =
    rule ∙ ap (λ (t : Table). blocked t q why []) begin ∙ ap (λ (k : ℕ). blocked (begun w p) k why []) same

pub coend_after : (old new : Table) (p : ℕ) (after : After) → old.acting ≡ Some p → IsAtCoend old p after new → ActsAfter after new.acting
coend_after old new p (Goes r) acts h = ap (λ (t : Table). t.acting) h.2 ∙ acts ∙ ap (λ (k : ℕ). (let o : Option ℕ = Some k in o)) (sym h.1)
coend_after old new p Has_to_wait acts h = ap (λ (t : Table). t.acting) h.1

abbrev coend_where : Bool → Table → ℕ → Table
coend_where z w p = if z then blocked (all_started w) p Coend [] else w

pub coend_once :
    (w begins acts ends : Table) (p q : ℕ) (after : After)
    → w.acting ≡ None → q ≡ p → begins ≡ begun w p → IsAtCoend begins q after acts → ends ≡ rested acts → ends ≡ at_coend w p
coend_once w begins acts ends p q (Goes r) alone same begin h rest =
    rest ∙ ap rested h.2 ∙ ap rested begin ∙ rested_is w p alone
    ∙ sym (ap (λ (z : Bool). coend_where z w p) (ap (λ (t : Table). some_created t.rows) (sym begin) ∙ h.0))
coend_once w begins acts ends p q Has_to_wait alone same begin h rest =
    rest ∙ ap rested h.1 ∙ ap (λ (t : Table). rested (blocked (all_started t) q Coend [])) begin
    ∙ ap (λ (k : ℕ). blocked (all_started (begun w p)) k Coend []) same
    ∙ sym (ap (λ (z : Bool). coend_where z w p) (ap (λ (t : Table). some_created t.rows) (sym begin) ∙ h.0))

coend_where_acts : (z : Bool) (w : Table) (p : ℕ) → w.acting ≡ None → HasActed w (coend_where z w p)
coend_where_acts true w p alone =
    record {
      acting = refl;
      done = refl;
      moment = refl;
      count = length-set (map started w.rows) p (Waits Coend (w.done + 1) []) ∙ length-map w.rows started;
    }
coend_where_acts false w p alone = nothing_acts w alone

pub coend_acts : (w : Table) (p : ℕ) → w.acting ≡ None → HasActed w (at_coend w p)
coend_acts w p alone = coend_where_acts (some_created w.rows) w p alone

-- ## Monitors

abbrev delayed_where : Option ℕ → Table → List (Option ℕ) → ℕ → ℕ → ℕ → ℤ → Held
delayed_where o w holders p m c rank =
    standing (given_to o (held_in w holders) m) (blocked (given_to o (held_in w holders) m).table p (Condition c rank) [])

delayed_begun :
    (o : Option ℕ) (w : Table) (holders : List (Option ℕ)) (p m c : ℕ) (rank : ℤ)
    → delayed_where o (begun w p) holders p m c rank ≡ delayed_where o w holders p m c rank
delayed_begun (Some q) w holders p m c rank = refl
delayed_begun None w holders p m c rank = refl

pub delayed_once :
    (w begins ends : Table) (before after : List (Option ℕ)) (p q m c : ℕ) (rank : ℤ)
    → q ≡ p → begins ≡ begun w p → held_in ends after ≡ delayed (held_in begins before) q m c rank
    → held_in ends after ≡ delayed (held_in w before) p m c rank
delayed_once w begins ends before after p q m c rank same begin rule =
    rule ∙ ap (λ (t : Table). delayed (held_in t before) q m c rank) begin
    ∙ ap (λ (k : ℕ). delayed (held_in (begun w p) before) k m c rank) same
    ∙ delayed_begun (next_holder w.rows m) w before p m c rank

delayed_where_acts : (o : Option ℕ) (w : Table) (holders : List (Option ℕ)) (p m c : ℕ) (rank : ℤ) → HasActed w (delayed_where o w holders p m c rank).table
delayed_where_acts (Some q) w holders p m c rank =
    record {
      acting = refl;
      done = refl;
      moment = refl;
      count = length-set (set w.rows q Is_ready) p (Waits (Condition c rank) (w.done + 1) []) ∙ length-set w.rows q Is_ready;
    }
delayed_where_acts None w holders p m c rank = blocked_acts w p (Condition c rank) []

pub delayed_acts : (w : Table) (holders : List (Option ℕ)) (p m c : ℕ) (rank : ℤ) → HasActed w (delayed (held_in w holders) p m c rank).table
delayed_acts w holders p m c rank = delayed_where_acts (next_holder w.rows m) w holders p m c rank

abbrev rests_held : Held → Held
rests_held h = held_in (rested h.table) h.holders

resumed_rests :
    (o : Option ℕ) (w : Table) (holders : List (Option ℕ)) (p m : ℕ)
    → w.acting ≡ None → rests_held (resumed_with o (held_in (begun w p) holders) p m) ≡ resumed_with o (held_in w holders) p m
resumed_rests (Some q) w holders p m alone = refl
resumed_rests None w holders p m alone = ap (λ (t : Table). held_in t holders) (rested_is w p alone)

pub resumed_once :
    (w begins acts ends : Table) (before after : List (Option ℕ)) (p q m c : ℕ)
    → w.acting ≡ None → q ≡ p → begins ≡ begun w p → held_in acts after ≡ resumed (held_in begins before) q m c → ends ≡ rested acts
    → held_in ends after ≡ resumed (held_in w before) p m c
resumed_once w begins acts ends before after p q m c alone same begin rule rest =
    ap (λ (t : Table). held_in t after) rest
    ∙ ap rests_held (rule ∙ ap (λ (t : Table). resumed (held_in t before) q m c) begin ∙ ap (λ (k : ℕ). resumed (held_in (begun w p) before) k m c) same)
    ∙ resumed_rests (condition_waiter w.rows c) w before p m alone

resumed_with_acts :
    (o : Option ℕ) (w : Table) (holders : List (Option ℕ)) (p m : ℕ) → w.acting ≡ None → HasActed w (resumed_with o (held_in w holders) p m).table
resumed_with_acts (Some q) w holders p m alone =
    record {
      acting = refl;
      done = refl;
      moment = refl;
      count = length-set (set w.rows q Is_ready) p (Waits (Resumer m) (w.done + 1) []) ∙ length-set w.rows q Is_ready;
    }
resumed_with_acts None w holders p m alone = nothing_acts w alone

pub resumed_acts : (w : Table) (holders : List (Option ℕ)) (p m c : ℕ) → w.acting ≡ None → HasActed w (resumed (held_in w holders) p m c).table
resumed_acts w holders p m c alone = resumed_with_acts (condition_waiter w.rows c) w holders p m alone

entered_rests :
    (o : Option ℕ) (w : Table) (holders : List (Option ℕ)) (p m : ℕ)
    → w.acting ≡ None → rests_held (entered_where o (held_in (begun w p) holders) p m) ≡ entered_where o (held_in w holders) p m
entered_rests (Some q) w holders p m alone = refl
entered_rests None w holders p m alone = ap (λ (t : Table). holding (held_in t holders) m (Some p)) (rested_is w p alone)

pub entered_once :
    (w begins acts ends : Table) (before after : List (Option ℕ)) (p q m : ℕ)
    → w.acting ≡ None → q ≡ p → begins ≡ begun w p → held_in acts after ≡ entered (held_in begins before) q m → ends ≡ rested acts
    → held_in ends after ≡ entered (held_in w before) p m
entered_once w begins acts ends before after p q m alone same begin rule rest =
    ap (λ (t : Table). held_in t after) rest
    ∙ ap rests_held (rule ∙ ap (λ (t : Table). entered (held_in t before) q m) begin ∙ ap (λ (k : ℕ). entered (held_in (begun w p) before) k m) same)
    ∙ entered_rests (holder_in before m) w before p m alone

entered_where_acts :
    (o : Option ℕ) (w : Table) (holders : List (Option ℕ)) (p m : ℕ) → w.acting ≡ None → HasActed w (entered_where o (held_in w holders) p m).table
entered_where_acts (Some q) w holders p m alone = blocked_acts w p (Enter m) []
entered_where_acts None w holders p m alone = nothing_acts w alone

pub entered_acts : (w : Table) (holders : List (Option ℕ)) (p m : ℕ) → w.acting ≡ None → HasActed w (entered (held_in w holders) p m).table
entered_acts w holders p m alone = entered_where_acts (holder_in holders m) w holders p m alone

given_acts : (o : Option ℕ) (w : Table) (holders : List (Option ℕ)) (m : ℕ) → w.acting ≡ None → HasActed w (given_to o (held_in w holders) m).table
given_acts (Some q) w holders m alone = record { acting = alone; done = refl; moment = refl; count = length-set w.rows q Is_ready }
given_acts None w holders m alone = nothing_acts w alone

pub handed_acts : (w : Table) (holders : List (Option ℕ)) (m : ℕ) → w.acting ≡ None → HasActed w (handed_over (held_in w holders) m).table
handed_acts w holders m alone = given_acts (next_holder w.rows m) w holders m alone
