-- Programs and configurations of which this is so.
use Rattle.std.specs.Prelude.{◌≡◌, ℕ, ◌+◌, false, List, [], ◌∷◌, map, Option, Some, None}
use Rattle.std.specs.List.{AllByRecursion}
use Rattle.pfc_semantics.specs.Programs.{Guard, Block}
use Rattle.pfc_semantics.specs.Configurations.{Mark, Caller, of_nobody, of_remainder, of_value, Activation, Hand, empty_hand, offering, asking, barred_at}
use Rattle.pfc_semantics.specs.Configurations.{Activity, Config}
use Rattle.pfc_state.specs.Stands.{is_unfinished}
use Rattle.pfc_world.specs.Tables.{at}
use Rattle.pfc_types.specs.rules.Expressions.{Env}
use Rattle.pfc_semantics.specs.Remainders.{Remainder}
use Rattle.pfc_semantics.specs.Rewriting.{Doing}
use Rattle.pfc_run_invariants.specs.Asked.{Asked}
use Rattle.pfc_run_invariants.specs.Fitting.{FitList, FitsStore}
use Rattle.pfc_run_invariants.specs.Inputs.{AreBytes}
use Rattle.pfc_run_invariants.specs.Written.{FitsExpr, FitStmts}
use Rattle.pfc_run_invariants.specs.Remainders.{FitsEnv, FitsRemainder, FitsAwaiting, FitOpens, FitsBar, FitsDoing}

-- ## Programs

abbrev pub FitsGuard : Asked → Option Guard → Type 0
FitsGuard r None = Unit {0}
FitsGuard r (Some guard) = r.guard guard.env × FitsExpr guard.test

pub record FitsBlock (r : Asked) (b : Block) : Type 0 where
  pub stmts : FitStmts r.accept b.next b.stmts
  pub guard : FitsGuard r b.guard

-- in all that is known of a program: its bodies, and the first values of its variables
pub record FitsProgram (r : Asked) : Type 0 where
  pub blocks : AllByRecursion (FitsBlock r) r.program.blocks
  pub modules : AllByRecursion (FitsBlock r) r.program.modules
  pub main : FitsBlock r r.program.main
  pub firsts : FitList r.program.firsts
  pub variables : FitList r.program.variables

-- ## Configurations

abbrev pub marks_of : List Activation → List Mark
marks_of activations = map (λ (a : Activation). a.mark) activations

module _ (r : Asked) (p : ℕ) where
  -- what waits for the end of an activation is performed in those below
  abbrev pub FitsCaller : List Mark → Caller → Type 0
  FitsCaller ms of_nobody = Unit {0}
  FitsCaller ms (of_remainder env k) = FitsEnv r p ms env × FitsRemainder r p ms k
  FitsCaller ms (of_value x u) = FitsEnv r p ms x.env × FitsAwaiting r p ms u

  abbrev pub FitActivations : List Activation → Type 0
  FitActivations [] = Unit {0}
  FitActivations (a ∷ below) = FitsCaller (marks_of below) a.caller × FitActivations below

  abbrev pub FitsHand : List Mark → Hand → Type 0
  FitsHand ms empty_hand = Unit {0}
  FitsHand ms (offering x os k) = FitsEnv r p ms x.env × FitOpens r p ms os × FitsRemainder r p ms k
  FitsHand ms (asking values) = FitList values
  FitsHand ms (barred_at b) = FitsBar r p ms b

  pub record FitsActivity (a : Activity) : Type 0 where
    pub doing : r.alive a.activations → FitsDoing r p (marks_of a.activations) a.doing
    pub activations : FitActivations a.activations
    pub hand : FitsHand (marks_of a.activations) a.hand

-- the processes from number p on
abbrev pub FitFrom : Asked → ℕ → List Activity → Type 0
FitFrom r p [] = Unit {0}
FitFrom r p (a ∷ activities) = FitsActivity r p a × FitFrom r (p + 1) activities

-- in all processes, in the store, and in what may be read
pub record FitsConfig (r : Asked) (c : Config) : Type 0 where
  pub activities : FitFrom r 0 c.activities
  pub store : FitsStore c.store
  pub input : AreBytes c.input.bytes

-- Where it is asked of who has no activation any more, it is so of what it was at. And it is asked of nobody who acts and is created anew, or it is so whatever
-- the marks.
pub record IsStable (r : Asked) : Type 0 where
  pub all : r.alive [] → (activations : List Activation) → r.alive activations
  pub ends : (p : ℕ) (ms : List Mark) (doing : Doing) → r.alive [] → FitsDoing r p ms doing → FitsDoing r p [] doing
  pub anew : (c : Config) (p : ℕ) (old new : List Mark) (env : Env) (k : Remainder) → r.acts c p → is_unfinished (at c.table.rows p) ≡ false
      → FitsEnv r p old env → FitsRemainder r p old k → FitsEnv r p new env × FitsRemainder r p new k
