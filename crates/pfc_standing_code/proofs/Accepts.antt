-- Accepts that are open stay in view in the statement of another.
use Rattle.std.proofs.Common.{ℕ, ◌==◌, ◌||◌, ◌≡◌, Bool, true, false, refl}
use Rattle.std.specs.List.{list_any}
use Rattle.pfc_tree.specs.trees.Stmts.{StmtTrees, no_stmts, more_stmts}
use Rattle.pfc_types.specs.Scopes.{Level}
use Rattle.pfc_translation.specs.Sites.{Site, in_accept}
use Rattle.pfc_standing_code.specs.Settings.{Setting, SeesAccepts, with_accept}
use Rattle.pfc_standing_code.specs.Performs.{SeeAccepts}

pub see_accepts : (g : Setting) (s : Site) (ts : StmtTrees) → SeesAccepts g s → SeeAccepts g s ts
see_accepts g s no_stmts h = tt
see_accepts g s (more_stmts t ts) h = h

behind_or : (p q : Bool) → q ≡ true → (p || q) ≡ true
behind_or true q h = refl
behind_or false q h = h

-- of both it is the same that is asked first
or_then : (p q r : Bool) → (q ≡ true → r ≡ true) → (p || q) ≡ true → (p || r) ≡ true
or_then true q r f h = refl
or_then false q r f h = f h

pub sees_inside : (g : Setting) (s : Site) (n : ℕ) → SeesAccepts g s → SeesAccepts g (in_accept s n)
sees_inside g s n h i is = behind_or (n == i) (list_any (λ (level : Level). level.scope == i) s.env.view) (h i is)

-- the accept itself is open, and in view
pub sees_met : (g : Setting) (s : Site) (n caller : ℕ) → SeesAccepts g s → SeesAccepts (with_accept g n caller) (in_accept s n)
sees_met g s n caller h i is =
    or_then (n == i) (list_any (λ j. j == i) g.accepts) (list_any (λ (level : Level). level.scope == i) s.env.view) (h i) is
