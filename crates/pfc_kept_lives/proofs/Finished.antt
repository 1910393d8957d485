-- The table in which a process that acted has finished: main may be let go from `coend`.
use Rattle.std.proofs.Common.{◌≡◌, ◌≢◌, ℕ, zero, suc, ◌<◌, Bool, true, false, not, ◌&&◌, if◌then◌else◌, Some, None, List, [], ◌∷◌, length, set, drop}
use Rattle.std.proofs.Common.{refl, sym, ap, ◌∙◌, subst, arith, ◌⊎◌, inl, inr}
use Rattle.std.proofs.lemmas.List.{length-set}
use Rattle.std.specs.List.{list_all}
use Rattle.pfc_state.specs.Stands.{Stand, Is_idle, Is_created, Is_ready, Waits, Is_done, is_unfinished, is_at_coend}
use Rattle.pfc_state.specs.declared.waits.Why.TheVariants.{Coend}
use Rattle.pfc_world.specs.Tables.{Table, at}
use Rattle.pfc_world.specs.Transitions.{placed, rested, is_released, finished}
use Rattle.pfc_representation.specs.Levels.{Facts}
use Rattle.pfc_representation.specs.Hands.{shows_nothing}
use Rattle.pfc_representation.specs.Holding.{Holders, is_quiet, waits_at_coend}
use Rattle.pfc_representation.specs.Machines.{machine_table}
use Rattle.pfc_kept_object_actions.specs.Freed.{HasItsTurn}
use Rattle.pfc_kept_object_actions.proofs.Change.{row_here, row_there}
use Rattle.pfc_kept_object_actions.proofs.Tests.{either}
use Rattle.pfc_kept_lives.proofs.Bound.{IsBound}

-- ## Standings

and_first : (a b : Bool) → (a && b) ≡ true → a ≡ true
and_first true b h = refl
and_first false b h = h

and_second : (a b : Bool) → (a && b) ≡ true → b ≡ true
and_second true b h = h
and_second false b h = absurd (let no : false ≡ true = h in cc)

not_true : (b : Bool) → not b ≡ true → b ≡ false
not_true true h = absurd (let no : false ≡ true = h in cc)
not_true false h = refl

-- all of them have not begun, or have finished
all_over : (rows : List Stand) (k : ℕ) → list_all (λ (s : Stand). not (is_unfinished s)) rows ≡ true → is_unfinished (at rows k) ≡ false
all_over [] k h = refl
all_over (s ∷ rows) zero h = not_true (is_unfinished s) (and_first _ _ h)
all_over (s ∷ rows) (suc k) h = all_over rows k (and_second _ _ h)

behind_first : (rows : List Stand) (k : ℕ) → at (drop 1 rows) k ≡ at rows (suc k)
behind_first [] k = refl
behind_first (s ∷ rows) k = refl

over_quiet : (s : Stand) → is_unfinished s ≡ false → is_quiet s ≡ true
over_quiet Is_idle h = refl
over_quiet Is_created h = refl
over_quiet Is_ready h = absurd (let no : true ≡ false = h in cc)
over_quiet (Waits why ticket arms) h = absurd (let no : true ≡ false = h in cc)
over_quiet Is_done h = refl

-- who waits at `coend` is unfinished, and shows nothing
pub coend_unfinished : (s : Stand) → is_at_coend s ≡ true → is_unfinished s ≡ true
coend_unfinished (Waits Coend ticket arms) h = refl
coend_unfinished s h = absurd (let no : false ≡ true = h in cc)

pub coend_shows : (s : Stand) → is_at_coend s ≡ true → shows_nothing s ≡ true
coend_shows (Waits Coend ticket arms) h = refl
coend_shows s h = absurd (let no : false ≡ true = h in cc)

pub coend_turn : (h : Holders) (q : ℕ) (s : Stand) → is_at_coend s ≡ true → HasItsTurn h q s
coend_turn h q (Waits Coend ticket arms) is = record {
  monitors = λ m waits. absurd (let no : false ≡ true = waits in cc);
  resources = λ r waits. absurd (let no : false ≡ true = waits in cc);
}
coend_turn h q s is = absurd (let no : false ≡ true = is in cc)

-- ## A child has finished

-- it is main, and is let go from `coend`
pub record IsReleased (q : ℕ) (s s' : Stand) : Type 0 where
  pub main : q ≡ 0
  pub waited : is_at_coend s ≡ true
  pub ready : s' ≡ Is_ready

abbrev pub IsSameOrReleased : ℕ → Stand → Stand → Type 0
IsSameOrReleased q s s' = (s' ≡ s) ⊎ IsReleased q s s'

pub bound_stays : (q : ℕ) (s s' : Stand) → IsBound s → IsSameOrReleased q s s' → s' ≡ s
bound_stays q s s' bound (inl same) = same
bound_stays q s s' bound (inr go) = absurd (let both : true ≡ false = sym go.waited ∙ bound.stays in cc)

-- Others stand where they stood, or main is let go where no child runs any more.
pub record HasFinished (w v : Table) (p : ℕ) : Type 0 where
  pub mine : at v.rows p ≡ Is_done
  pub others : (q : ℕ) → q ≢ p → IsSameOrReleased q (at w.rows q) (at v.rows q)
  pub quiet : waits_at_coend (at w.rows 0) ≡ true → waits_at_coend (at v.rows 0) ≡ false → (q : ℕ) → 0 < q → is_quiet (at v.rows q) ≡ true
  pub size : length v.rows ≡ length w.rows
  pub acting : v.acting ≡ None
  pub done : v.done ≡ w.done
  pub moment : v.moment ≡ w.moment

module _ (w : Table) (p : ℕ) (there : p < length w.rows) (child : p ≢ 0) where
  abbrev over : List Stand
  over = set w.rows p Is_done

  abbrev left : Table
  left = rested (placed w p Is_done)

  not_p : 0 ≢ p
  not_p same = child (sym same)

  main_as_was : at over 0 ≡ at w.rows 0
  main_as_was = row_there w.rows p 0 Is_done not_p

  main_there : 0 < length over
  main_there = (let size : length over ≡ length w.rows = length-set w.rows p Is_done in some p (length over) (length w.rows) there size)
    where
      some : (n k j : ℕ) → n < j → k ≡ j → 0 < k
      some n k j less same = grind (arith, less, same)

  waiting_on : HasFinished w left p
  waiting_on = record {
    mine = row_here w.rows p Is_done there;
    others = λ q apart. inl (row_there w.rows p q Is_done apart);
    quiet = λ waits away. absurd (let both : true ≡ false = sym waits ∙ ap waits_at_coend (sym main_as_was) ∙ away in cc);
    size = length-set w.rows p Is_done;
    acting = refl;
    done = refl;
    moment = refl;
  }

  child_quiet : is_released over ≡ true → (q : ℕ) → 0 < q → is_quiet (at (set over 0 Is_ready) q) ≡ true
  child_quiet is zero less = absurd (none less)
    where
      none : 0 < 0 → ⊥
      none h = grind (arith, h)
  child_quiet is (suc k) less =
      ap is_quiet (row_there over 0 (suc k) Is_ready (λ same. none k same) ∙ sym (behind_first over k))
      ∙ over_quiet (at (drop 1 over) k) (all_over (drop 1 over) k (and_second _ _ is))
    where
      none : (n : ℕ) → suc n ≡ 0 → ⊥
      none n h = grind (arith, h)

  let_go : is_released over ≡ true → HasFinished w (placed left 0 Is_ready) p
  let_go is =
      let waits : is_at_coend (at w.rows 0) ≡ true = ap is_at_coend (sym main_as_was) ∙ and_first _ _ is in
      record {
        mine = row_there over 0 p Is_ready child ∙ row_here w.rows p Is_done there;
        others = λ q apart. by (either q 0) apart waits;
        quiet = λ waits away. child_quiet is;
        size = length-set over 0 Is_ready ∙ length-set w.rows p Is_done;
        acting = refl;
        done = refl;
        moment = refl;
      }
    where
      by : {q : ℕ} → (q ≡ 0) ⊎ (q ≢ 0) → q ≢ p → is_at_coend (at w.rows 0) ≡ true → IsSameOrReleased q (at w.rows q) (at (set over 0 Is_ready) q)
      by {q} (inl same) apart waits =
          subst (λ n. IsSameOrReleased n (at w.rows n) (at (set over 0 Is_ready) n)) (sym same)
          (inr (record { main = refl; waited = waits; ready = row_here over 0 Is_ready main_there }))
      by {q} (inr other) apart waits = inl (row_there over 0 q Is_ready other ∙ row_there w.rows p q Is_done apart)

  pub child_finished : HasFinished w (finished w p) p
  child_finished = by (is_released over) refl
    where
      by : (b : Bool) → is_released over ≡ b → HasFinished w (if b then placed left 0 Is_ready else left) p
      by true is = let_go is
      by false is = waiting_on

-- ## Main has finished

pub main_finished : (w : Table) → 0 < length w.rows → finished w 0 ≡ rested (placed w 0 Is_done)
main_finished w there =
    ap (λ (b : Bool). if b then placed (rested (placed w 0 Is_done)) 0 Is_ready else rested (placed w 0 Is_done))
    (ap (λ (s : Stand). is_at_coend s && list_all (λ (x : Stand). not (is_unfinished x)) (drop 1 (set w.rows 0 Is_done)))
    (row_here w.rows 0 Is_done there))

-- ## The machine's table

module _ (facts : Facts) (w : Table) (p n : ℕ) where
  abbrev before : Table
  before = rested (placed (record (machine_table facts w) { acting = Some n }) p Is_done)

  abbrev after : Table
  after = rested (placed w p Is_done)

  by_release : (b : Bool) → (if b then placed before 0 Is_ready else before) ≡ machine_table facts (if b then placed after 0 Is_ready else after)
  by_release true = refl
  by_release false = refl

  -- has finished alike
  pub finished_alike : finished (record (machine_table facts w) { acting = Some n }) p ≡ machine_table facts (finished w p)
  finished_alike = by_release (is_released (set w.rows p Is_done))
