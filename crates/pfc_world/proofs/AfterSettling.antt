-- What settling leaves.
use Rattle.std.proofs.Common.{◌≡◌, ℕ, ◌≤◌, Bool, true, false, ◌||◌, ◌⊎◌, inl, inr, min, nat_le, Option, None, Some, List, [], ◌∷◌, map, arith, refl, ap, ◌∙◌}
use Rattle.std.proofs.Common.{cond}
use Rattle.std.proofs.lemmas.Bool.{cases_lt}
use Rattle.std.proofs.lemmas.Bool.Decides.{nat_tests}
use Rattle.pfc_state.specs.Stands.{Stand, Is_ready, is_ready, is_due, due_of, woken}
use Rattle.pfc_world.specs.Firsts.{lesser, least}
use Rattle.pfc_world.specs.Settling.{earliest}
use Rattle.pfc_world.specs.Tables.{some_ready}

due-now : (s : Stand) (u t : ℕ) → due_of s ≡ Some u → u ≤ t → is_ready (woken t s) ≡ true
due-now s u t due le =
    let passed : nat_le u t ≡ true = grind (arith, nat_tests) in
    ap (λ o. is_ready (cond (is_due t o) Is_ready s)) due ∙ ap (λ b. is_ready (cond b Is_ready s)) passed

or-left : (a b : Bool) → a ≡ true → (a || b) ≡ true
or-left true b h = refl
or-left false b h = cc

or-right : (a b : Bool) → b ≡ true → (a || b) ≡ true
or-right true b h = refl
or-right false b h = h

-- Where the clock goes to the earliest due moment, somebody is ready.
pub earliest-ready : (rows : List Stand) (t : ℕ) → earliest rows ≡ Some t → some_ready (map (woken t) rows) ≡ true
earliest-ready [] t h = let no : None ≡ Some t = h in cc
earliest-ready (s ∷ rest) t h = go (due_of s) (least due_of rest) refl (λ e. earliest-ready rest t e) h
  where
    here : (u : ℕ) → due_of s ≡ Some u → u ≤ t → some_ready (map (woken t) (s ∷ rest)) ≡ true
    here u due le = or-left (is_ready (woken t s)) (some_ready (map (woken t) rest)) (due-now s u t due le)

    behind : some_ready (map (woken t) rest) ≡ true → some_ready (map (woken t) (s ∷ rest)) ≡ true
    behind e = or-right (is_ready (woken t s)) (some_ready (map (woken t) rest)) e

    go : (o l : Option ℕ) → due_of s ≡ o → (l ≡ Some t → some_ready (map (woken t) rest) ≡ true) → lesser o l ≡ Some t
        → some_ready (map (woken t) (s ∷ rest)) ≡ true
    go None l due ih e = behind (ih e)
    go (Some u) None due ih e = let same : u ≡ t = cc in here u due (omega arith)
    go (Some u) (Some v) due ih e =
        let same : min u v ≡ t = cc in
        let either : (u ≤ t) ⊎ (v ≡ t) = elim (cases_lt v u) [ inl lt ↦ inr (grind arith) | inr le ↦ inl (grind arith) ] in
        elim either [ inl le ↦ here u due le | inr at_v ↦ behind (ih (ap (λ n. Some n) at_v)) ]
