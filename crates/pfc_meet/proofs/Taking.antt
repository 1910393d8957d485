-- A caller that waits is taken into the rendezvous.
use Rattle.std.proofs.Common.{◌≡◌, ℕ, ◌+◌, Option, Some, List, [], set, sym, ap, ◌∙◌}
use Rattle.std.proofs.lemmas.List.{set-set}
use Rattle.pfc_state.specs.declared.waits.Why.TheVariants.{Meeting}
use Rattle.pfc_state.specs.Stands.{Stand, Is_ready, Waits}
use Rattle.pfc_world.specs.Rendezvous.{taken}
use Rattle.pfc_world.specs.Tables.{Table}
use Rattle.pfc_world.specs.Transitions.{begun, rested, placed, blocked}

-- the rows of a table, and who acts in it
abbrev with : Table → List Stand → Option ℕ → Table
with w rows acting = record w { rows = rows; acting = acting }

-- one after the other: who acts rests, the caller is woken, acts and waits again, and who rested acts
pub takes : (w w1 w2 w3 w4 w5 : Table) (p q owner called : ℕ) → w.acting ≡ Some p → w1 ≡ rested w → w2 ≡ placed w1 q Is_ready → w3 ≡ begun w2 q
    → w4 ≡ blocked w3 called (Meeting owner) [] → w5 ≡ begun w4 owner → called ≡ q → owner ≡ p → w5 ≡ taken w p q
takes w w1 w2 w3 w4 w5 p q owner called acts e1 e2 e3 e4 e5 ec eo =
    e5
    ∙ ap (λ x. begun x owner) e4
    ∙ ap (λ x. begun (blocked x called (Meeting owner) []) owner) e3
    ∙ ap (λ x. begun (blocked (begun x q) called (Meeting owner) []) owner) e2
    ∙ ap (λ x. begun (blocked (begun (placed x q Is_ready) q) called (Meeting owner) []) owner) e1
    ∙ ap (λ x. begun (blocked (begun (placed (rested w) q Is_ready) q) x (Meeting owner) []) owner) ec
    ∙ ap (λ x. begun (blocked (begun (placed (rested w) q Is_ready) q) q (Meeting x) []) x) eo
    ∙ ap (λ rows. with w rows (Some p)) (set-set w.rows q Is_ready (Waits (Meeting p) (w.done + 1) []))
    ∙ ap (λ acting. with w (set w.rows q (Waits (Meeting p) (w.done + 1) [])) acting) (sym acts)
