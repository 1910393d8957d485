-- A name that was found stands in its scope; where a variable lies depends on the scopes alone.
use Rattle.std.proofs.Common.{◌≡◌, ℕ, zero, suc, ◌<◌, ◌≤◌, Bool, true, false, List, [], ◌∷◌, length, Option, Some, None, option_map, IfSome, refl, sym}
use Rattle.std.proofs.Common.{ap, ◌∙◌, subst, arith}
use Rattle.std.specs.Prelude.{if◌then◌else◌, nat_lt, bytes_eq}
use Rattle.std.specs.Map.{keys_of}
use Rattle.std.specs.Option.{option_or}
use Rattle.std.proofs.lemmas.List.Quantifiers.{position-Some}
use Rattle.std.proofs.lemmas.Map.Entries.{length-keys_of}
use Rattle.pfc_tree.specs.Symbols.{Text}
use Rattle.pfc_types.specs.Blocks.{Blocks}
use Rattle.pfc_types.specs.Scopes.{Names, Level, scope_at, meaning_in, position_in, within, found_at, found_in, predeclared, predeclared_names}
use Rattle.pfc_types.specs.declared.scope.Meaning.{Meaning}
use Rattle.pfc_types.specs.declared.view.Found.{Found}
use Rattle.pfc_types.specs.rules.Expressions.{Env, find}
use Rattle.pfc_semantics.specs.Expressions.{spot_of, found_spot}
use Rattle.pfc_types.specs.Views.{levels}
use Rattle.pfc_phrases.specs.Views.{env_view}
use Rattle.pfc_phrases.specs.declared.env.Env.{Env as HeldEnv}
use Rattle.pfc_program.specs.Held.{IsHeld}
use Rattle.pfc_program.specs.InView.{InView}
use Rattle.pfc_program.specs.Views.{names_view, spot_view}
use Rattle.pfc_program.specs.declared.tables.Tables.{Tables}
use Rattle.pfc_program.specs.declared.spots.NamedSpot.{NamedSpot}

held_predeclared : (scopes : List Names) (x : Text) → IfSome (predeclared x) (IsHeld scopes)
held_predeclared scopes x = by (meaning_in predeclared_names x)
  where
    by : (m : Option Meaning) → IfSome {T = Found} (option_map (λ n. record { scope = None; place = 0; meaning = n }) m) (IsHeld scopes)
    by None = tt
    by (Some m) = tt

-- a scope that has a name is one
there : (scopes : List Names) (i k : ℕ) → k < length (scope_at scopes i) → i < length scopes
there [] i k less = omega (arith, less)
there (names ∷ scopes) zero k less = omega arith
there (names ∷ scopes) (suc i) k less = let h = there scopes i k less in omega (arith, h)

held_within :
    (scopes : List Names) (level : Level) (place : Option ℕ) (m : Option Meaning)
    → ((k : ℕ) → place ≡ Some k → k < length (scope_at scopes level.scope)) → IfSome (within level place m) (IsHeld scopes)
held_within scopes level None m here = tt
held_within scopes level (Some k) None here = tt
held_within scopes level (Some k) (Some m) here = by (nat_lt k level.count)
  where
    less : k < length (scope_at scopes level.scope)
    less = here k refl

    by : (b : Bool) → IfSome (if b then Some (record { scope = Some level.scope; place = k; meaning = m }) else None) (IsHeld scopes)
    by true = (there scopes level.scope k less, less)
    by false = tt

held_at : (scopes : List Names) (level : Level) (x : Text) → IfSome (found_at scopes level x) (IsHeld scopes)
held_at scopes level x = held_within scopes level (position_in names x) (meaning_in names x) short
  where
    names : Names
    names = scope_at scopes level.scope

    short : (k : ℕ) → position_in names x ≡ Some k → k < length names
    short k is = subst (λ n. k < n) (length-keys_of names) (position-Some (bytes_eq x) (keys_of names) k [] is).0

held_or : (scopes : List Names) (a b : Option Found) → IfSome a (IsHeld scopes) → IfSome b (IsHeld scopes) → IfSome (option_or a b) (IsHeld scopes)
held_or scopes None b here other = other
held_or scopes (Some f) b here other = here

held_in : (scopes : List Names) (view : List Level) (x : Text) → IfSome (found_in scopes view x) (IsHeld scopes)
held_in scopes [] x = held_predeclared scopes x
held_in scopes (level ∷ view) x = held_or scopes (found_at scopes level x) (found_in scopes view x) (held_at scopes level x) (held_in scopes view x)

pub held_here : (env : Env) (b : Blocks) (x : Text) (r : Option Found) → r ≡ find env x → env.state.blocks ≡ b → IfSome r (IsHeld b.scopes)
held_here env b x r is same =
    subst (λ (y : Blocks). IfSome r (IsHeld y.scopes)) same
    (subst (λ (f : Option Found). IfSome f (IsHeld env.state.blocks.scopes)) (sym is) (held_in env.state.blocks.scopes env.view x))

pub spot_same : (a b : Env) (found : Option Found) → a.state.blocks ≡ b.state.blocks → spot_of a found ≡ spot_of b found
spot_same a b None same = refl
spot_same a b (Some f) same = ap (λ (y : Blocks). found_spot y f.scope f) same

-- the variable that a name stands for, by the program's table
pub spot_here :
    (env : HeldEnv) (tables : Tables) (x : Text) (found : Option Found) (r : NamedSpot)
    → ((names : InView) → spot_view r ≡ spot_of (names_view tables names) found) → env.scopes.now ≡ tables.scopes.now → found ≡ find (env_view env) x
    → spot_view r ≡ spot_of (env_view env) (find (env_view env) x)
spot_here env tables x found r is same here =
    let names : InView = record { view = levels env.view.now; around = env.around } in
    is names ∙ spot_same (names_view tables names) (env_view env) found (sym same) ∙ ap (spot_of (env_view env)) here

pub ruleset held = (held_here, spot_here)
