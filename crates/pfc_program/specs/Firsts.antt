-- What is looked up by scopes.
use Rattle.std.specs.Prelude.{◌≡◌, ℕ, ◌==◌, if◌then◌else◌, List, map, get_or, unwrap_or, Option, Some, None}
use Rattle.std.specs.List.{position_from}
use Rattle.std.specs.Option.{option_or}
use Rattle.pfc_types.specs.Scopes.{scope_at}
use Rattle.pfc_types.specs.Blocks.{Blocks}
use Rattle.pfc_types.specs.declared.scope.Meaning.{Meaning}
use Rattle.pfc_semantics.specs.Layouts.{is_module, before_module}

-- a list holds the first place of each scope among those of some blocks, modules or subs
abbrev pub HoldFirsts : {X : Type 0} → (X → ℕ) → List X → List (Option ℕ) → Type 0
HoldFirsts scope xs firsts = (i : ℕ) → get_or firsts i None ≡ position_from (λ k. k == i) 0 (map scope xs)

-- a list holds how many variables of main's block stand before each module that is named in the program's scope; before others all stand
abbrev pub HoldBefores : Blocks → List (Option ℕ) → ℕ → Type 0
HoldBefores b counts all = (n : ℕ) → unwrap_or (get_or counts n None) all ≡ before_module b n (scope_at b.scopes 0)

-- what is known of the n-th module behind a name, before which so many variables stand
abbrev pub noted_module : Meaning → ℕ → ℕ → Option ℕ → Option ℕ
noted_module m count n before = if is_module n m then option_or before (Some count) else before
