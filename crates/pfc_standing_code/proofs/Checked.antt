-- What is true of the names in view is all that any remainder asks of them.
use Rattle.std.proofs.Common.{ℕ, ◌==◌, ◌||◌, ◌≡◌, Bool, true, false, List, ◌∷◌, refl}
use Rattle.std.specs.List.{list_any}
use Rattle.pfc_types.specs.Blocks.{Blocks}
use Rattle.pfc_types.specs.rules.Expressions.{Env}
use Rattle.pfc_semantics.specs.Programs.{Block}
use Rattle.pfc_semantics.specs.Remainders.{Remainder, ends, perform, in_names, turn, until, behind_pass, next_pass, write_on, read_on, at_coend, part_from}
use Rattle.pfc_semantics.specs.Remainders.{write_again, go_through, try_guard, scan_on, try_other}
use Rattle.pfc_translation.specs.Sites.{is_mains, linked}
use Rattle.pfc_standing_code.specs.Settings.{Setting, IsBeside, same_block, both_mains, with_accept}
use Rattle.pfc_standing_code.specs.Words.{is_known, IsChecked}
use Rattle.pfc_standing_code.specs.Performs.{AskedOf, IsCheckedFor}

module _ (P : Env → Type 0) where
  pub asked_of : (env : Env) (k : Remainder) → P env → AskedOf P env k
  asked_of env (ends line) h = tt
  asked_of env (perform m ts k) h = h
  asked_of env (in_names inner k) h = tt
  asked_of env (turn m loop k) h = h
  asked_of env (until m ts e p k) h = h
  asked_of env (behind_pass f k) h = h
  asked_of env (next_pass f k) h = h
  asked_of env (write_on line args newline k) h = h
  asked_of env (read_on line args skip k) h = h
  asked_of env (at_coend line k) h = h
  asked_of env (part_from caller line k) h = h
  asked_of env (write_again r k) h = h
  asked_of env (go_through line a rest sel k) h = h
  asked_of env (try_guard bar k) h = tt
  asked_of env (scan_on scan k) h = tt
  asked_of env (try_other w scan k) h = tt

-- of two things that are asked a third follows
pub asked_then : (P Q R : Env → Type 0) (env : Env) (k : Remainder) → (P env → Q env → R env) → AskedOf P env k → AskedOf Q env k → AskedOf R env k
asked_then P Q R env (ends line) f p q = tt
asked_then P Q R env (perform m ts k) f p q = f p q
asked_then P Q R env (in_names inner k) f p q = tt
asked_then P Q R env (turn m loop k) f p q = f p q
asked_then P Q R env (until m ts e r k) f p q = f p q
asked_then P Q R env (behind_pass c k) f p q = f p q
asked_then P Q R env (next_pass c k) f p q = f p q
asked_then P Q R env (write_on line args newline k) f p q = f p q
asked_then P Q R env (read_on line args skip k) f p q = f p q
asked_then P Q R env (at_coend line k) f p q = f p q
asked_then P Q R env (part_from caller line k) f p q = f p q
asked_then P Q R env (write_again r k) f p q = f p q
asked_then P Q R env (go_through line a rest sel k) f p q = f p q
asked_then P Q R env (try_guard bar k) f p q = tt
asked_then P Q R env (scan_on scan k) f p q = tt
asked_then P Q R env (try_other w scan k) f p q = tt

pub checked_for : (g : Setting) (b : Block) (env : Env) (k : Remainder) → IsChecked g b env → IsCheckedFor g b env k
checked_for g b env k h = asked_of (λ (e : Env). IsChecked g b e) env k h

-- one more accept takes no name away
more_known : (p q r s : Bool) → (p || (q || r)) ≡ true → (p || (q || (s || r))) ≡ true
more_known true q r s h = refl
more_known false true r s h = refl
more_known false false r true h = refl
more_known false false r false h = h

known_with : (blocks : Blocks) (b : Block) (accepts : List ℕ) (n i : ℕ) → is_known blocks b accepts i ≡ true → is_known blocks b (n ∷ accepts) i ≡ true
known_with blocks b accepts n i h =
    more_known (is_mains blocks i) (list_any (λ j. j == i) (linked blocks b.env.view)) (list_any (λ j. j == i) accepts) (n == i) h

beside_with : (g : Setting) (n caller : ℕ) (b c : Block) → IsBeside g b c → IsBeside (with_accept g n caller) b c
beside_with g n caller b _ same_block = same_block
beside_with g n caller b _ (both_mains c m k) = both_mains c m k

pub checked_with : (g : Setting) (b : Block) (env : Env) (n caller : ℕ) → IsChecked g b env → IsChecked (with_accept g n caller) b env
checked_with g b env n caller h =
    record {
      sound = h.sound;
      known = λ i seen. known_with g.program.state.blocks b g.accepts n i (h.known i seen);
      seen = h.seen;
      placed = h.placed;
      objects = h.objects;
      state = h.state;
      beside = beside_with g n caller g.block b h.beside;
      tried = h.tried;
    }
