-- Terms and factors that stand alone.
use Rattle.std.specs.Prelude.{Bool, true, false, Option, Some, None}
use Rattle.pfc_base.specs.declared.places.Place.{Place}
use Rattle.pfc_tree.specs.declared.tree.Sign.{Sign}
use Rattle.pfc_tree.specs.trees.Exprs.{SummandTrees, MultiplierTrees, no_summands, more_summands, no_multipliers, more_multipliers}

abbrev pub no_summand : SummandTrees → Bool
no_summand no_summands = true
no_summand (more_summands op t us) = false

abbrev pub no_multiplier : MultiplierTrees → Bool
no_multiplier no_multipliers = true
no_multiplier (more_multipliers op f ms) = false

-- a first term without a sign before it and terms behind it
abbrev pub is_lone_sum : Option (Sign × Place) → SummandTrees → Bool
is_lone_sum None us = no_summand us
is_lone_sum (Some sign) us = false
