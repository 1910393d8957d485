-- That numbers have 32 bits, as an invariant of runs.
use Rattle.std.specs.List.{AllByRecursion}
use Rattle.pfc_semantics.specs.Programs.{Block, Program}
use Rattle.pfc_semantics.specs.Configurations.{Config}
use Rattle.pfc_run_invariants.specs.Asked.{Asked}
use Rattle.pfc_run_invariants.specs.Fitting.{FitNames}
use Rattle.pfc_run_invariants.specs.Configurations.{FitsProgram, FitsConfig}
use Rattle.pfc_number_laws.specs.Written.{any}

-- nothing more is asked of the text than that the constants in view have 32 bits, whoever performs it
abbrev pub numbers_of : Program → Asked
numbers_of g =
    record {
      program = g;
      env = λ p ms env. FitNames env.state.blocks.scopes;
      spot = λ p ms i. Unit {0};
      accept = any;
      guard = λ env. FitNames env.state.blocks.scopes;
      alive = λ activations. Unit {0};
      acts = λ c p. Unit {0};
    }

-- the constants that are in view in a body
abbrev pub KnowsConstants : Block → Type 0
KnowsConstants b = FitNames b.env.state.blocks.scopes

-- all numbers of a program have 32 bits
pub record HasNumbers (g : Program) : Type 0 where
  pub program : FitsProgram (numbers_of g)
  pub blocks : AllByRecursion KnowsConstants g.blocks
  pub modules : AllByRecursion KnowsConstants g.modules
  pub main : KnowsConstants g.main

-- and all of a configuration
abbrev pub AreSmall : Program → Config → Type 0
AreSmall g c = FitsConfig (numbers_of g) c
