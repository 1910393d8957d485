-- Another process is ready, on both sides.
use Rattle.std.proofs.Common.{◌≡◌, ◌≢◌, ◌<◌, ◌*◌, ◌^◌, ℕ, [], length, refl, sym, ap, ◌∙◌, subst}
use Rattle.std.proofs.lemmas.List.{append-nil, get_or-set_other, length-set}
use Rattle.pfc_state.specs.Stands.{Is_idle, Is_ready, IsWaiting}
use Rattle.pfc_world.specs.Tables.{Table, at}
use Rattle.pfc_world.specs.Tickets.{IsNew}
use Rattle.pfc_world.specs.Transitions.{placed}
use Rattle.pfc_store.specs.Views.{store_view}
use Rattle.pfc_semantics.specs.Remainders.{Context, Remainder, Action}
use Rattle.pfc_semantics.specs.Rewriting.{going}
use Rattle.pfc_program.specs.declared.tables.Tables.{Tables}
use Rattle.pfc_pending.specs.Waiting.{remainder_of}
use Rattle.pfc_pending.specs.declared.actions.Deed.TheVariants as deed
use Rattle.pfc_pending.specs.declared.at_hand.At.TheVariants as at_hand
use Rattle.pfc_activities.specs.declared.changes.Done.{Done}
use Rattle.pfc_activities.specs.declared.state.State.{State}
use Rattle.pfc_activities.specs.Relation.{IsAt, MayAct, GoesOn, IsPerformed}
use Rattle.pfc_activities.specs.Views.{context_of, pending_of, deed_of}
use Rattle.pfc_meeting.specs.Meeting.{IsRoomier}
use Rattle.pfc_meeting.proofs.BothPass.{other_world}

-- the process may act as before
pub may_act_on :
    (s mid : State) (p q : ℕ)
    → MayAct s p → q ≢ p → mid ≡ record s { store = mid.store; world = mid.world } → mid.world ≡ placed s.world q Is_ready
    → (IsNew s.world.rows s.world.done → IsNew mid.world.rows mid.world.done) → MayAct mid p
may_act_on s mid p q may other is world fresh =
    record {
      within = subst (λ (x : State). p < length x.activities.items) (sym is) may.within;
      ready = ap (λ (w : Table). at w.rows p) world ∙ get_or-set_other s.world.rows q p Is_ready Is_idle (λ h. other (sym h)) ∙ may.ready;
      alone = ap (λ (w : Table). w.acting) world ∙ may.alone;
      fresh = fresh may.fresh;
      done = subst (λ (w : Table). w.done < 10 ^ 18) (sym world) may.done;
      moment = subst (λ (w : Table). w.moment < 2 * 10 ^ 18) (sym world) may.moment;
    }

pub parts_so :
    (s mid new : State) (p caller : ℕ) (d : Done)
    → mid ≡ record s { store = mid.store; world = mid.world } → mid.store ≡ s.store → mid.world ≡ placed s.world caller Is_ready
    → (IsNew s.world.rows s.world.done → IsNew mid.world.rows mid.world.done)
    → GoesOn mid new p at_hand.Rest d → IsPerformed s new p (deed.Parts caller) [] d
parts_so s mid new p caller d is store world fresh goes source g c choice a program is_at =
    let t : Tables = source.program.tables in
    let x : Context = context_of t a.doing in
    let k : Remainder = remainder_of (pending_of t a.doing) in
    let act : Action = deed_of t a.doing (deed.Parts caller) in
    let w : Table = placed c.table caller Is_ready in
    let table : mid.world ≡ w = world ∙ ap (λ (b : Table). placed b caller Is_ready) is_at.before.agrees.table in
    let new_there : IsNew w.rows w.done
    = subst (λ (b : Table). IsNew b.rows b.done) table
    (fresh (subst (λ (b : Table). IsNew b.rows b.done) (sym is_at.before.agrees.table) is_at.quiet.fresh)) in
    let at_mid : IsAt source mid (record c { store = c.store; table = w }) p a act
    = other_world source s mid c p a act c.store w is_at is (ap store_view store ∙ is_at.before.agrees.store) table
    (length-set c.table.rows caller Is_ready) is_at.quiet.acting new_there in
    goes source g c (record c { store = c.store; table = w }) choice a act (going x.env k) [] at_mid refl refl refl (sym (append-nil c.output))

-- where only another process has more room
pub may_act_still : (s mid : State) (p q : ℕ) → MayAct s p → IsRoomier s mid q → MayAct mid p
may_act_still s mid p q may roomier =
    record {
      within = subst (λ n. p < n) (sym roomier.count) may.within;
      ready = ap (λ (w : Table). at w.rows p) roomier.world ∙ may.ready;
      alone = ap (λ (w : Table). w.acting) roomier.world ∙ may.alone;
      fresh = subst (λ (w : Table). IsNew w.rows w.done) (sym roomier.world) may.fresh;
      done = subst (λ (w : Table). w.done < 10 ^ 18) (sym roomier.world) may.done;
      moment = subst (λ (w : Table). w.moment < 2 * 10 ^ 18) (sym roomier.world) may.moment;
    }

-- a process waits still
pub waits_still : (s mid : State) (p q : ℕ) → IsRoomier s mid p → IsWaiting (at s.world.rows q) → IsWaiting (at mid.world.rows q)
waits_still s mid p q roomier waits = subst (λ (w : Table). IsWaiting (at w.rows q)) (sym roomier.world) waits
