-- A name without selectors, whose meaning is known.
use Rattle.std.specs.Prelude.{[], Option}
use Rattle.pfc_tree.specs.trees.Exprs.{ActualTrees, no_selectors}
use Rattle.pfc_types.specs.rules.Expressions.{first_type}
use Rattle.pfc_types.specs.declared.scope.Meaning.{Meaning}
use Rattle.pfc_semantics.specs.Displays.{TypedSpot}
use Rattle.pfc_semantics.specs.Remainders.{Context, AwaitsValue, Action}
use Rattle.pfc_semantics.specs.Expressions.{from_name, from_function, from_selectors, from_args, from_argument, from_reference}
use Rattle.pfc_semantics.specs.Rewriting.{from_value}

-- it means this, with the variable that it stands for, and its arguments
abbrev pub from_whole : Context → Option Meaning → TypedSpot → ActualTrees → AwaitsValue → Action
from_whole c m s args u =
    from_name c m u (from_value c u)
    (λ goal arrive. from_selectors c s no_selectors goal arrive)
    (λ formals call. from_args c formals args [] call)
    (λ f. from_function c f (first_type c.env args) u (from_value c u) (from_argument c args) (from_reference c args))
