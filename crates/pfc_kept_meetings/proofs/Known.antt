-- All names that come into view in what is left are known.
use Rattle.std.proofs.Common.{◌≡◌, ℕ, ◌==◌, ℤ, Bool, true, false, ◌||◌, ◌&&◌, List, [], ◌∷◌, drop, refl, sym, ap, ◌∙◌, subst, ◌⊎◌, inl, inr}
use Rattle.std.specs.List.{list_any, list_all}
use Rattle.pfc_types.specs.Scopes.{Level}
use Rattle.pfc_types.specs.rules.Expressions.{Env}
use Rattle.pfc_semantics.specs.Programs.{Block, Program}
use Rattle.pfc_semantics.specs.Remainders.{Scan, Remainder, ends, perform, in_names, turn, until, behind_pass, next_pass, write_on, read_on, at_coend}
use Rattle.pfc_semantics.specs.Remainders.{part_from, write_again, go_through, try_guard, scan_on, try_other}
use Rattle.pfc_translation.specs.Sites.{is_mains, linked}
use Rattle.pfc_standing_code.specs.Settings.{Attempt, Setting, of_own, of_turn, of_another, same_block, both_mains, IsBeside, IsMains, parted}
use Rattle.pfc_standing_code.specs.Effects.{Arm}
use Rattle.pfc_standing_code.specs.Words.{IsChecked, is_known}
use Rattle.pfc_standing_code.specs.Performs.{AskedOf, Performs}
use Rattle.pfc_call_laws.proofs.Displays.{is_same, same_of}
use Rattle.pfc_call_laws.proofs.Places.{or_cases, and_both, or_left, or_right}
use Rattle.pfc_kept_code.specs.Kept.{Among, InRemainder}

and_true : (x y : Bool) → x ≡ true → y ≡ true → (x && y) ≡ true
and_true true y h k = k
and_true false y h k = absurd (let no : false ≡ true = h in cc)

-- the names are known, with these accepts
abbrev pub are_known : Program → Block → List ℕ → Env → Bool
are_known g b accepts env = list_all (λ (level : Level). is_known g.state.blocks b accepts level.scope) env.view

all_hold : (test : ℕ → Bool) (view : List Level) → ((j : ℕ) → list_any (λ (level : Level). level.scope == j) view ≡ true → test j ≡ true)
    → list_all (λ (level : Level). test level.scope) view ≡ true
all_hold test [] h = refl
all_hold test (level ∷ view) h =
    and_true (test level.scope) (list_all (λ (y : Level). test y.scope) view)
    (h level.scope (or_left (level.scope == level.scope) (list_any (λ (y : Level). y.scope == level.scope) view) (is_same level.scope level.scope refl)))
    (all_hold test view (λ j among. h j (or_right (level.scope == j) (list_any (λ (y : Level). y.scope == j) view) among)))

pub holds_there : (test : ℕ → Bool) (view : List Level) (j : ℕ) → list_all (λ (level : Level). test level.scope) view ≡ true
    → list_any (λ (level : Level). level.scope == j) view ≡ true → test j ≡ true
holds_there test [] j all there = absurd (let no : false ≡ true = there in (let none : ⊥ = cc in none))
holds_there test (level ∷ view) j all there =
    let both = and_both (test level.scope) (list_all (λ (y : Level). test y.scope) view) all in
    by both.0 (or_cases (level.scope == j) (list_any (λ (y : Level). y.scope == j) view) there) (λ later. holds_there test view j both.1 later)
  where
    by : test level.scope ≡ true → ((level.scope == j) ≡ true) ⊎ (list_any (λ (y : Level). y.scope == j) view ≡ true)
        → (list_any (λ (y : Level). y.scope == j) view ≡ true → test j ≡ true) → test j ≡ true
    by here (inl same) others = ap test (sym (same_of level.scope j same)) ∙ here
    by here (inr later) others = others later

-- with fewer accepts
known_less : (g : Program) (b : Block) (accepts : List ℕ) (j : ℕ) → is_known g.state.blocks b (drop 1 accepts) j ≡ true
    → is_known g.state.blocks b accepts j ≡ true
known_less g b [] j known = known
known_less g b (i ∷ accepts) j known =
    by (or_cases (is_mains g.state.blocks j) (list_any (λ n. n == j) (linked g.state.blocks b.env.view) || list_any (λ n. n == j) accepts) known)
  where
    by : (is_mains g.state.blocks j ≡ true) ⊎ ((list_any (λ n. n == j) (linked g.state.blocks b.env.view) || list_any (λ n. n == j) accepts) ≡ true)
        → is_known g.state.blocks b (i ∷ accepts) j ≡ true
    by (inl mains) = or_left (is_mains g.state.blocks j) _ mains
    by (inr other) =
        or_right (is_mains g.state.blocks j) _
        (by_linked (or_cases (list_any (λ n. n == j) (linked g.state.blocks b.env.view)) (list_any (λ n. n == j) accepts) other))
      where
        by_linked : (list_any (λ n. n == j) (linked g.state.blocks b.env.view) ≡ true) ⊎ (list_any (λ n. n == j) accepts ≡ true)
            → (list_any (λ n. n == j) (linked g.state.blocks b.env.view) || list_any (λ n. n == j) (i ∷ accepts)) ≡ true
        by_linked (inl around) = or_left (list_any (λ n. n == j) (linked g.state.blocks b.env.view)) _ around
        by_linked (inr among) =
            or_right (list_any (λ n. n == j) (linked g.state.blocks b.env.view)) _ (or_right (i == j) (list_any (λ n. n == j) accepts) among)

module _ (b : Block) (accepts : List ℕ) where
  abbrev names : Setting → Env → Bool
  names h env = are_known h.program b accepts env

  -- in a setting with at most these accepts
  pub record IsWithin (h : Setting) : Type 0 where
    pub own : h.trial ≡ of_own
    pub no_main : IsMains h b → ⊥
    pub within : (j : ℕ) → is_known h.program.state.blocks b h.accepts j ≡ true → is_known h.program.state.blocks b accepts j ≡ true

  within_parted : (h : Setting) → IsWithin h → IsWithin (parted h)
  within_parted h is =
      record { own = is.own; no_main = is.no_main; within = λ j known. is.within j (known_less h.program b h.accepts j known) }

  beside_same : (h : Setting) (c : Block) → IsWithin h → IsBeside h b c → c ≡ b
  beside_same h _ is same_block = refl
  beside_same h _ is (both_mains c one two) = absurd (is.no_main one)

  pub among : (h : Setting) (env : Env) → IsWithin h → IsChecked h b env → Among (names h) env
  among h env is checked =
      all_hold (λ j. is_known h.program.state.blocks b accepts j) env.view
      (λ j seen. is.within j (checked.known j (or_right (is_mains h.program.state.blocks j) _ seen)))

  asked : (h : Setting) (env : Env) (k : Remainder) → IsWithin h → AskedOf (λ (e : Env). IsChecked h b e) env k → AskedOf (Among (names h)) env k
  asked h env (ends line) is one = tt
  asked h env (in_names inner k) is one = tt
  asked h env (try_guard bar k) is one = tt
  asked h env (scan_on scan k) is one = tt
  asked h env (try_other w scan k) is one = tt
  asked h env k is one = among h env is one

  of_turn_own : (h : Setting) (scan : Scan) (back : ℕ) → h.trial ≡ of_own → h.trial ≡ of_turn scan back → ⊥
  of_turn_own h scan back own in_turn = (let no : of_own ≡ of_turn scan back = sym own ∙ in_turn in cc)

  of_another_own : (h : Setting) (attempt : Attempt) → h.trial ≡ of_own → h.trial ≡ of_another attempt → ⊥
  of_another_own h attempt own other = (let no : of_own ≡ of_another attempt = sym own ∙ other in cc)

  pub known_behind : (k : Remainder) (h : Setting) (env : Env) (at : ℕ) (ops : List ℤ) (arms : List Arm) → IsWithin h → Performs h b env at ops arms k
      → InRemainder (names h) k
  known_behind (ends line) h env at ops arms is does = tt
  known_behind (perform m ts k) h env at ops arms is does = known_behind k h env _ ops [] is does.1.2.1.2
  known_behind (in_names inner k) h env at ops arms is (own, (c, beside, checked, does)) =
      let same : c ≡ b = beside_same h c is beside in (
        among h inner is (subst (λ (y : Block). IsChecked h y inner) same checked),
        known_behind k h inner at ops arms is (subst (λ (y : Block). Performs h y inner at ops arms k) same does),
      )
  known_behind (turn m loop k) h env at ops arms is does = known_behind k h env _ ops [] is does.1.2.3.2
  known_behind (until m ts e p k) h env at ops arms is does = known_behind k h env _ ops [] is does.1.2.3.2
  known_behind (behind_pass f k) h env at ops arms is does = known_behind k h env _ _ [] is does.1.2.6
  known_behind (next_pass f k) h env at ops arms is does = known_behind k h env _ _ [] is does.1.2.4
  known_behind (write_on line args newline k) h env at ops arms is does = known_behind k h env _ ops [] is does.1.2.3
  known_behind (read_on line args skip k) h env at ops arms is does = known_behind k h env _ ops [] is does.1.2.3
  known_behind (at_coend line k) h env at ops arms is does = known_behind k h env _ ops [] is does.1.2.1
  known_behind (part_from caller line k) h env at ops arms is does = known_behind k (parted h) env _ ops [] (within_parted h is) does.1.2.3
  known_behind (write_again r k) h env at ops arms is does = known_behind k h env _ ops [] is does.1.2.3
  known_behind (go_through line a rest sel k) h env at ops arms is does =
      known_behind k h env does.1.2.1.others.end ops [] is does.1.2.1.others.left_behind
  known_behind (try_guard bar k) h env at ops arms is does =
      let guard = does.1.2.1 in (
        among h bar.context.env is guard.0,
        λ e. asked h e k is (guard.4 e).0,
        known_behind k h env _ ops [] is (guard.4 env).1,
      )
  known_behind (scan_on scan k) h env at ops arms is does = absurd (of_turn_own h scan does.1.2.0.0 is.own does.1.2.0.1)
  known_behind (try_other w scan k) h env at ops arms is does = absurd (of_another_own h does.1.2.0.attempt is.own does.1.2.0.trial)
