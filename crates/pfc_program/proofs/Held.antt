-- A predeclared name stands in no scope.
use Rattle.std.proofs.Common.{Option, Some, None, option_map, IfSome, List}
use Rattle.pfc_tree.specs.Symbols.{Text}
use Rattle.pfc_types.specs.Scopes.{Names, predeclared, predeclared_names, meaning_in}
use Rattle.pfc_types.specs.declared.scope.Meaning.{Meaning}
use Rattle.pfc_types.specs.declared.view.Found.{Found}
use Rattle.pfc_program.specs.Held.{IsHeld}

pub held_predeclared : (scopes : List Names) (x : Text) → IfSome (predeclared x) (λ f. IsHeld scopes f)
held_predeclared scopes x = by (meaning_in predeclared_names x)
  where
    by : (m : Option Meaning) → IfSome {T = Found} (option_map (λ n. record { scope = None; place = 0; meaning = n }) m) (λ f. IsHeld scopes f)
    by None = tt
    by (Some m) = tt
