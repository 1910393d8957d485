-- After the third step of settling nobody is left to terminate.
use Rattle.std.proofs.Common.{◌≡◌, Bool, true, false, not, ◌&&◌, ◌||◌, List, [], ◌∷◌, map, drop, refl, ap, ◌∙◌, cond}
use Rattle.std.specs.Prelude.{is_none}
use Rattle.std.specs.List.{list_any, list_all}
use Rattle.pfc_state.specs.Stands.{Stand, Is_ready, Is_done, is_unfinished, may_end}
use Rattle.pfc_world.specs.Settling.{children_may_end, earliest, may_all_end}
use Rattle.pfc_world.specs.Tables.{Table, some_ready}
use Rattle.pfc_world.specs.Terminating.{finally_settled, over_children, terminated, terminated_child, terminated_where}
use Rattle.pfc_world.specs.Transitions.{is_released, placed, released}

no-test : (A : Type 0) → false ≡ true → A
no-test A h = cc

abbrev Serves : Stand → Bool
Serves stand = not (is_unfinished stand) || may_end stand

over : (s : Stand) (rest : Bool) → (Serves s && rest) ≡ true → (is_unfinished (terminated_child s) ≡ false) × (rest ≡ true)
over s rest h = go (may_end s) (is_unfinished s) rest refl refl h
  where
    go : (m u r : Bool) → may_end s ≡ m → is_unfinished s ≡ u → ((not u || m) && r) ≡ true → (is_unfinished (cond (may_end s) Is_done s) ≡ false) × (r ≡ true)
    go true u true e f g = (ap (λ b. is_unfinished (cond b Is_done s)) e, refl)
    go true true false e f g = no-test _ g
    go true false false e f g = no-test _ g
    go false true r e f g = no-test _ g
    go false false true e f g = (ap (λ b. is_unfinished (cond b Is_done s)) e ∙ f, refl)
    go false false false e f g = no-test _ g

none-left : (children : List Stand) → list_all (λ s. Serves s) children ≡ true → list_any is_unfinished (map terminated_child children) ≡ false
none-left [] h = refl
none-left (s ∷ rest) h =
    let here : (is_unfinished (terminated_child s) ≡ false) × (list_all (λ s. Serves s) rest ≡ true) = over s (list_all (λ s. Serves s) rest) h in
    ap (λ b. b || list_any is_unfinished (map terminated_child rest)) here.0 ∙ none-left rest here.1

behind-main : (rows : List Stand) → children_may_end rows ≡ true → list_any is_unfinished (drop 1 (over_children terminated_child rows)) ≡ false
behind-main [] h = refl
behind-main (main ∷ children) h = none-left children (go (list_any is_unfinished children) (list_all (λ s. Serves s) children) h)
  where
    go : (a b : Bool) → (a && b) ≡ true → b ≡ true
    go true b g = g
    go false b g = no-test _ g

-- main alone is released
behind-released : (b : Bool) (w : Table) → drop 1 (cond b (placed w 0 Is_ready) w).rows ≡ drop 1 w.rows
behind-released true w = go w.rows
  where
    go : (rows : List Stand) → drop 1 (placed (record w { rows = rows }) 0 Is_ready).rows ≡ drop 1 rows
    go [] = refl
    go (main ∷ children) = refl
behind-released false w = refl

last-of : (a b c : Bool) → (a && b && c) ≡ true → c ≡ true
last-of true true c h = h
last-of true false c h = no-test _ h
last-of false true c h = no-test _ h
last-of false false c h = no-test _ h

without : (a b : Bool) → (a && b && false) ≡ false
without true true = refl
without true false = refl
without false true = refl
without false false = refl

nobody-more : (w : Table) → may_all_end w.rows ≡ true → may_all_end (terminated w).rows ≡ false
nobody-more w h =
    let can : children_may_end w.rows ≡ true = last-of (not (some_ready w.rows)) (is_none (earliest w.rows)) (children_may_end w.rows) h in
    let after : Table = record w { rows = over_children terminated_child w.rows } in
    let left : children_may_end (terminated w).rows ≡ false =
    ap (λ b. b && list_all (λ s. Serves s) (drop 1 (terminated w).rows)) (ap (λ rest. list_any is_unfinished rest)
    (behind-released (is_released after.rows) after) ∙ behind-main w.rows can) in
    ap (λ b. not (some_ready (terminated w).rows) && is_none (earliest (terminated w).rows) && b) left ∙
    without (not (some_ready (terminated w).rows)) (is_none (earliest (terminated w).rows))

pub once : (w : Table) → finally_settled (finally_settled w) ≡ finally_settled w
once w = go (may_all_end w.rows) refl
  where
    go : (b : Bool) → may_all_end w.rows ≡ b → finally_settled (terminated_where b w) ≡ terminated_where b w
    go true e = ap (λ b. terminated_where b (terminated w)) (nobody-more w e)
    go false e = ap (λ b. terminated_where b w) e
