-- How the processes stand, on both sides.
use Rattle.std.proofs.Common.{◌≡◌, ℕ, zero, suc, ◌+◌, ◌<◌, ◌≤◌, List, [], ◌∷◌, ◌++◌, length, map, drop, get_or, refl, sym, ap, ◌∙◌, subst, arith, add-one}
use Rattle.std.proofs.Common.{append_assoc, append-nil}
use Rattle.std.proofs.lemmas.List.{length-map, get_or-map}
use Rattle.pfc_state.specs.declared.standings.State.{State as Where}
use Rattle.pfc_activities.specs.declared.activities.Activity.{Activity as HeldActivity}
use Rattle.pfc_state.specs.Stands.{Stand, state_of}
use Rattle.pfc_state.specs.declared.standings.Standing.{Standing}
use Rattle.pfc_world.specs.Tables.{Table, at}
use Rattle.pfc_semantics.specs.Configurations.{Config, Activity}
use Rattle.pfc_semantics.specs.Runs.{standings_from, standings}
use Rattle.pfc_activities.specs.declared.state.State.{State}
use Rattle.pfc_activities.specs.Relation.{Reports}
use Rattle.pfc_walker.specs.Lines.{lines_of, standings_at}

standings_are : (n : ℕ) (rows : List Stand) (xs : List Activity) → standings_at n rows (map (λ (a : Activity). a.line) xs) ≡ standings_from n rows xs
standings_are n [] xs = refl
standings_are n (stand ∷ rows) [] = refl
standings_are n (stand ∷ rows) (a ∷ xs) =
    ap (λ (l : List Standing). record { process = n; state = state_of stand; line = a.line } ∷ l) (standings_are (n + 1) rows xs)

pub told_so : (s : State) (c : Config) (items : List Standing) → Reports s c → items ≡ standings_at 0 s.world.rows (lines_of s) → items ≡ standings c
told_so s c items reports is =
    is ∙ ap (λ (w : Table). standings_at 0 w.rows (lines_of s)) reports.table ∙ ap (standings_at 0 c.table.rows) reports.lines
    ∙ standings_are 0 c.table.rows c.activities

-- ## One after the other

no_lines : (n : ℕ) (rows : List Stand) (lines : List ℕ) (p : ℕ) → length lines ≤ p → standings_at n rows (drop p lines) ≡ []
no_lines n [] lines p high = refl
no_lines n (stand ∷ rows) [] zero high = refl
no_lines n (stand ∷ rows) [] (suc p) high = refl
no_lines n (stand ∷ rows) (line ∷ lines) zero high = absurd (omega (arith, high))
no_lines n (stand ∷ rows) (line ∷ lines) (suc p) high = no_lines n (stand ∷ rows) lines p (omega (arith, high))

next_at :
    (n p : ℕ) (rows : List Stand) (lines : List ℕ) → p < length rows → p < length lines
    → standings_at n (drop p rows) (drop p lines)
    ≡ record { process = n; state = state_of (at rows p); line = get_or lines p 0 } ∷ standings_at (n + 1) (drop (suc p) rows) (drop (suc p) lines)
next_at n p [] lines low few = absurd (omega (arith, low))
next_at n p (stand ∷ rows) [] low few = absurd (omega (arith, few))
next_at n zero (stand ∷ rows) (line ∷ lines) low few = refl
next_at n (suc p) (stand ∷ rows) (line ∷ lines) low few = next_at n p rows lines (omega (arith, low)) (omega (arith, few))

-- there is no further process
pub told_all :
    (s : State) (p : ℕ) (items total : List Standing)
    → length s.activities.items ≤ p → items ++ standings_at p (drop p s.world.rows) (drop p (lines_of s)) ≡ total → items ≡ total
told_all s p items total none so =
    let high : length (lines_of s) ≤ p
    = subst (λ (n : ℕ). n ≤ p) (sym (length-map s.activities.items (λ (b : HeldActivity). b.line))) none in
    sym (append-nil items) ∙ ap (λ (l : List Standing). items ++ l) (sym (no_lines p (drop p s.world.rows) (lines_of s) p high)) ∙ so

-- one more was told
pub told_more :
    (s : State) (p : ℕ) (items more total : List Standing) (a : HeldActivity) (state : Where)
    → p < length s.world.rows → p < length s.activities.items → a ≡ get_or s.activities.items p a → state ≡ state_of (at s.world.rows p)
    → more ≡ items ++ record { process = p; state = state; line = a.line } ∷ []
    → items ++ standings_at p (drop p s.world.rows) (drop p (lines_of s)) ≡ total
    → more ++ standings_at (p + 1) (drop (p + 1) s.world.rows) (drop (p + 1) (lines_of s)) ≡ total
told_more s p items more total a state low within there is push so =
    let rows : List Stand = s.world.rows in
    let lines : List ℕ = lines_of s in
    let few : p < length lines
    = subst (λ (n : ℕ). p < n) (sym (length-map s.activities.items (λ (b : HeldActivity). b.line))) within in
    let y : Standing = record { process = p; state = state_of (at rows p); line = get_or lines p 0 } in
    let same : (let x : Standing = record { process = p; state = state; line = a.line } in x) ≡ y
    = ap (λ (w : Where). (let x : Standing = record { process = p; state = w; line = a.line } in x)) is
    ∙ ap (λ (l : ℕ). (let x : Standing = record { process = p; state = state_of (at rows p); line = l } in x)) (ap (λ (b : HeldActivity). b.line) there ∙
    sym (get_or-map (λ (b : HeldActivity). b.line) s.activities.items p a 0 within)) in
    ap (λ (l : List Standing). l ++ standings_at (p + 1) (drop (p + 1) rows) (drop (p + 1) lines)) (push ∙ ap (λ (x : Standing). items ++ x ∷ []) same)
    ∙ append_assoc items (y ∷ []) (standings_at (p + 1) (drop (p + 1) rows) (drop (p + 1) lines))
    ∙ ap (λ (k : ℕ). items ++ y ∷ standings_at (p + 1) (drop k rows) (drop k lines)) (add-one p)
    ∙ ap (λ (l : List Standing). items ++ l) (sym (next_at p p rows lines low few))
    ∙ so
