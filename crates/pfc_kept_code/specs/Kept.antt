-- Views that agree on the names in view, and what names what is left has in view.
use Rattle.std.specs.Prelude.{ℕ, ◌≡◌, ℤ, Bool, true, List, Option}
use Rattle.pfc_types.specs.rules.Expressions.{Env}
use Rattle.pfc_types.specs.declared.types.TypeId.{TypeId}
use Rattle.pfc_types.specs.declared.heads.Formal.{Formal}
use Rattle.pfc_semantics.specs.Displays.{Spot}
use Rattle.pfc_semantics.specs.Programs.{Block}
use Rattle.pfc_semantics.specs.Remainders.{Context, Way, Scan, Remainder, AwaitsValue, AwaitsLocation, Call, leave, own, ends, perform, in_names, turn, until}
use Rattle.pfc_semantics.specs.Remainders.{behind_pass, next_pass, write_on, read_on, at_coend, part_from, write_again, go_through, try_guard, scan_on}
use Rattle.pfc_semantics.specs.Remainders.{try_other, begin_sum, add_to, begin_product, multiply_by, compare_with, compare_to, invert, apply, index_into}
use Rattle.pfc_semantics.specs.Remainders.{pass_value, store_at, choose, choose_arm, while_true, until_true, count_from, count_to, show, show_wide, pad}
use Rattle.pfc_semantics.specs.Remainders.{set_count, delay_with, sleep_for, send_on, open_if, offer_value, offer_wait, pass_own, pass_other, read_for}
use Rattle.pfc_semantics.specs.Remainders.{assign_to, input_to, pass_variable, ask_empty, activate_with, enter_with, initial_to, wait_at, signal_at, delay_at}
use Rattle.pfc_semantics.specs.Remainders.{resume_at, send_to, receive_from, receive_into, offer_to, offer_from, offer_into, to_procedure, to_function}
use Rattle.pfc_semantics.specs.Remainders.{to_module, to_requeue, to_process, to_entry}
use Rattle.pfc_semantics.specs.Rewriting.{Doing, going, holding}
use Rattle.pfc_translation.specs.Sites.{Site, links_to, cell_of}
use Rattle.pfc_standing_code.specs.Shapes.{Shape}
use Rattle.pfc_standing_code.specs.Settings.{View, Setting, of_turn, IsBeside}
use Rattle.pfc_standing_code.specs.Effects.{Arm}
use Rattle.pfc_standing_code.specs.Typed.{IsDeclaredAt}
use Rattle.pfc_standing_code.specs.Words.{names_at, IsChecked}
use Rattle.pfc_standing_code.specs.Performs.{AskedOf, Performs}
use Rattle.pfc_standing_code.specs.Awaits.{TakesValue, TakesLocation, CallsAt}
use Rattle.pfc_standing_code.specs.Following.{DoesIn}

-- ## Views

-- the same is seen of a cell: whether it is there and holds a reference, where its block begins, and where it refers to
pub record SeesAlike (view other : View) (l d : ℕ) : Type 0 where
  pub reaches : view.reaches l d ≡ other.reaches l d
  pub refers : view.refers l d ≡ other.refers l d
  pub first : view.first l ≡ other.first l
  pub held : view.held l d ≡ other.held l d

-- and so of each variable in view
abbrev pub AgreeAt : Site → View → View → Type 0
AgreeAt s view other = (v : Spot) (t : Option TypeId) → IsDeclaredAt s v t → SeesAlike view other (links_to s v.scope) (cell_of s v)

-- these are names of which something is true
abbrev pub Among : (Env → Bool) → Env → Type 0
Among names env = names env ≡ true

-- two views agree wherever such names are in view in this block, or in one beside it
abbrev pub Agree : Setting → View → Block → (Env → Bool) → Type 0
Agree g view b names = (c : Block) (env : Env) → IsBeside g b c → Among names env → AgreeAt (names_at g c env) g.view view

-- ## Names that come into view

abbrev pub InWay : (Env → Bool) → Way → Type 0
InWay names leave = Unit {0}
InWay names (own bar) = Among names bar.context.env

-- All names that come into view in what is left are such. Behind a guard it is left whatever names are in view, so these are asked for there, unless it
-- begins with names of its own.
abbrev mutual
  pub InRemainder : (Env → Bool) → Remainder → Type 0
  InRemainder names (ends line) = Unit {0}
  InRemainder names (perform m ts k) = InRemainder names k
  InRemainder names (in_names inner k) = Among names inner × InRemainder names k
  InRemainder names (turn m loop k) = InRemainder names k
  InRemainder names (until m ts e p k) = InRemainder names k
  InRemainder names (behind_pass f k) = InRemainder names k
  InRemainder names (next_pass f k) = InRemainder names k
  InRemainder names (write_on line args newline k) = InRemainder names k
  InRemainder names (read_on line args skip k) = InRemainder names k
  InRemainder names (at_coend line k) = InRemainder names k
  InRemainder names (part_from caller line k) = InRemainder names k
  InRemainder names (write_again r k) = InRemainder names k
  InRemainder names (go_through line a rest sel k) = InRemainder names k
  InRemainder names (try_guard bar k) = Among names bar.context.env × ((e : Env) → AskedOf (Among names) e k) × InRemainder names k
  InRemainder names (scan_on scan k) = InWay names scan.way × ((e : Env) → AskedOf (Among names) e k) × InRemainder names k
  InRemainder names (try_other w scan k) =
      Among names w.bar.context.env × InWay names scan.way × ((e : Env) → AskedOf (Among names) e k) × InRemainder names k

  pub InValue : (Env → Bool) → AwaitsValue → Type 0
  InValue names (begin_sum sign rest u) = InValue names u
  InValue names (add_to m op rest u) = InValue names u
  InValue names (begin_product rest u) = InValue names u
  InValue names (multiply_by m op rest u) = InValue names u
  InValue names (compare_with r t u) = InValue names u
  InValue names (compare_to m r u) = InValue names u
  InValue names (invert u) = InValue names u
  InValue names (apply f t u) = InValue names u
  InValue names (index_into part es ss goal) = InLocation names goal
  InValue names (pass_value rest args given call) = InCall names call
  InValue names (store_at v k) = InRemainder names k
  InValue names (choose m t u k) = InRemainder names k
  InValue names (choose_arm m alternatives k) = InRemainder names k
  InValue names (while_true m e t p k) = InRemainder names k
  InValue names (until_true m ts e p k) = InRemainder names k
  InValue names (count_from m v down e t k) = InRemainder names k
  InValue names (count_to m v a down t k) = InRemainder names k
  InValue names (show t k) = InRemainder names k
  InValue names (show_wide t e k) = InRemainder names k
  InValue names (pad bytes k) = InRemainder names k
  InValue names (set_count v k) = InRemainder names k
  InValue names (delay_with v k) = InRemainder names k
  InValue names (sleep_for k) = InRemainder names k
  InValue names (send_on v k) = InRemainder names k
  InValue names (open_if a rest sel k) = InRemainder names k
  InValue names (offer_value channel a rest sel k) = InRemainder names k
  InValue names (offer_wait a rest sel k) = InRemainder names k
  InValue names (pass_own bar k) = ((e : Env) → AskedOf (Among names) e k) × InRemainder names k
  InValue names (pass_other w scan k) = InWay names scan.way × ((e : Env) → AskedOf (Among names) e k) × InRemainder names k

  pub InLocation : (Env → Bool) → AwaitsLocation → Type 0
  InLocation names (read_for u) = InValue names u
  InLocation names (assign_to e k) = InRemainder names k
  InLocation names (input_to t k) = InRemainder names k
  InLocation names (pass_variable rest args given call) = InCall names call
  InLocation names (ask_empty u) = InValue names u
  InLocation names (activate_with formals args k) = InRemainder names k
  InLocation names (enter_with entry formals args k) = InRemainder names k
  InLocation names (initial_to e k) = InRemainder names k
  InLocation names (wait_at k) = InRemainder names k
  InLocation names (signal_at k) = InRemainder names k
  InLocation names (delay_at rank k) = InRemainder names k
  InLocation names (resume_at k) = InRemainder names k
  InLocation names (send_to m k) = InRemainder names k
  InLocation names (receive_from d k) = InRemainder names k
  InLocation names (receive_into channel k) = InRemainder names k
  InLocation names (offer_to m a rest sel k) = InRemainder names k
  InLocation names (offer_from d a rest sel k) = InRemainder names k
  InLocation names (offer_into channel a rest sel k) = InRemainder names k

  pub InCall : (Env → Bool) → Call → Type 0
  InCall names (to_procedure scope k) = InRemainder names k
  InCall names (to_function scope u) = InValue names u
  InCall names (to_module n scope k) = InRemainder names k
  InCall names (to_requeue scope) = Unit {0}
  InCall names (to_process v k) = InRemainder names k
  InCall names (to_entry v entry k) = InRemainder names k

-- and those of what a process does
abbrev pub InDoing : (Env → Bool) → Doing → Type 0
InDoing names (going env k) = AskedOf (Among names) env k × InRemainder names k
InDoing names (holding x v u) = Among names x.env × InValue names u

-- ## What is kept

abbrev pub with_view : Setting → View → Setting
with_view g view = record g { view = view }

abbrev pub KeepsNames : Setting → View → Block → (Env → Bool) → Type 0
KeepsNames g view b names = (env : Env) → Among names env → IsChecked g b env → IsChecked (with_view g view) b env

abbrev pub KeepsRemainders : Setting → View → Block → (Env → Bool) → Type 0
KeepsRemainders g view b names =
    (k : Remainder) (env : Env) (at : ℕ) (ops : List ℤ) (arms : List Arm) → AskedOf (Among names) env k → InRemainder names k
    → Performs g b env at ops arms k → Performs (with_view g view) b env at ops arms k

-- before the next turn of a scan, as a process is that leaves a resource: what is left behind the scan is kept
abbrev pub KeepsTurns : Setting → View → Block → (Env → Bool) → Type 0
KeepsTurns g view b names =
    (scan : Scan) (k : Remainder) (env : Env) (at : ℕ) (ops : List ℤ) (arms : List Arm) (back : ℕ) →
    g.trial ≡ of_turn scan back → InRemainder names (scan_on scan k)
    → DoesIn g b at ops arms (going env (scan_on scan k)) → DoesIn (with_view g view) b at ops arms (going env (scan_on scan k))

abbrev pub KeepsValues : Setting → View → Block → (Env → Bool) → Type 0
KeepsValues g view b names =
    (u : AwaitsValue) (x : Context) (at : ℕ) (ops : List ℤ) (arms : List Arm) (h : Shape) → Among names x.env → InValue names u
    → TakesValue g b x at ops arms h u → TakesValue (with_view g view) b x at ops arms h u

abbrev pub KeepsLocations : Setting → View → Block → (Env → Bool) → Type 0
KeepsLocations g view b names =
    (goal : AwaitsLocation) (x : Context) (at : ℕ) (ops : List ℤ) (arms : List Arm) (t : Option TypeId) → Among names x.env → InLocation names goal
    → TakesLocation g b x at ops arms t goal → TakesLocation (with_view g view) b x at ops arms t goal

abbrev pub KeepsCalls : Setting → View → Block → (Env → Bool) → Type 0
KeepsCalls g view b names =
    (call : Call) (x : Context) (at : ℕ) (ops : List ℤ) (arms : List Arm) (formals : List Formal) → Among names x.env → InCall names call
    → CallsAt g b x at ops arms formals call → CallsAt (with_view g view) b x at ops arms formals call

abbrev pub KeepsDoing : Setting → View → Block → (Env → Bool) → Type 0
KeepsDoing g view b names =
    (d : Doing) (at : ℕ) (ops : List ℤ) (arms : List Arm) → InDoing names d → DoesIn g b at ops arms d → DoesIn (with_view g view) b at ops arms d
