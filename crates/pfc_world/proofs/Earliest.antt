-- The earliest due moment, as the table changes.
use Rattle.std.proofs.Common.{◌≡◌, ℕ, ◌<◌, false, Option, None, Some, List, [], ◌∷◌, map, arith, refl, sym, ap, ◌∙◌, cond}
use Rattle.std.proofs.lemmas.Bool.Decides.{nat_tests}
use Rattle.std.proofs.Math.ListN.{get_or-map}
use Rattle.pfc_moments.specs.declared.moments.Due.{Due}
use Rattle.pfc_moments.specs.Moments.{moment_at, IsFirst, IsNobody}
use Rattle.pfc_state.specs.Stands.{Stand, Is_idle, Is_ready, due_of, woken, is_due}
use Rattle.pfc_world.specs.Firsts.{lesser}
use Rattle.pfc_world.specs.Settling.{earliest}
use Rattle.pfc_world.specs.Tables.{at}
use Rattle.pfc_world.proofs.FirstIs.{least-is, least-none}

-- who is due first is due at its moment
pub due-at : (rows : List Stand) (dues : List (Option ℕ)) (due : Due) → dues ≡ map due_of rows → IsFirst dues due →
    due_of (at rows due.process) ≡ Some due.moment
due-at rows dues due is h = sym (ap (λ v. moment_at v due.process) is ∙ get_or-map due_of rows due.process Is_idle) ∙ h.own

-- who is due first is due at the earliest moment
pub earliest-first : (rows : List Stand) (dues : List (Option ℕ)) (due : Due) → dues ≡ map due_of rows → IsFirst dues due → earliest rows ≡ Some due.moment
earliest-first rows dues due is h =
    least-is due_of rows due.process due.moment refl (due-at rows dues due is h)
    (λ q u own. h.least q u (ap (λ v. moment_at v q) is ∙ get_or-map due_of rows q Is_idle ∙ own))

pub earliest-nobody : (rows : List Stand) (dues : List (Option ℕ)) → dues ≡ map due_of rows → IsNobody dues → earliest rows ≡ None
earliest-nobody rows dues is h = least-none due_of rows (λ q. sym (ap (λ v. moment_at v q) is ∙ get_or-map due_of rows q Is_idle) ∙ h q)

-- later than the moment, or never
abbrev pub IsLater : ℕ → Option ℕ → Type 0
IsLater moment None = Unit {0}
IsLater moment (Some due) = moment < due

later-both : (moment : ℕ) (o m : Option ℕ) → IsLater moment (lesser o m) → IsLater moment o × IsLater moment m
later-both moment None m h = (tt, h)
later-both moment (Some t) None h = (h, tt)
later-both moment (Some t) (Some u) h = (grind (arith, h), grind (arith, h))

not-woken : (moment : ℕ) (s : Stand) → IsLater moment (due_of s) → woken moment s ≡ s
not-woken moment s h = ap (λ b. cond b Is_ready s) (go (due_of s) h)
  where
    go : (o : Option ℕ) → IsLater moment o → is_due moment o ≡ false
    go None h = refl
    go (Some due) h = grind (arith, nat_tests, h)

-- where the earliest due moment is later, nobody is woken
pub none-woken : (moment : ℕ) (rows : List Stand) → IsLater moment (earliest rows) → map (woken moment) rows ≡ rows
none-woken moment [] h = refl
none-woken moment (s ∷ rest) h =
    let both : IsLater moment (due_of s) × IsLater moment (earliest rest) = later-both moment (due_of s) (earliest rest) h in
    ap (λ v. v ∷ map (woken moment) rest) (not-woken moment s both.0) ∙ ap (λ v. s ∷ v) (none-woken moment rest both.1)

later-than : (moment : ℕ) (o : Option ℕ) → is_due moment o ≡ false → IsLater moment o
later-than moment None h = tt
later-than moment (Some due) h = grind (arith, nat_tests, h)

pub none-due : (moment : ℕ) (rows : List Stand) → is_due moment (earliest rows) ≡ false → map (woken moment) rows ≡ rows
none-due moment rows h = none-woken moment rows (later-than moment (earliest rows) h)
