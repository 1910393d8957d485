-- Programs and configurations in which what is called is as the rules ask.
use Rattle.std.specs.Prelude.{ℕ, ◌≡◌, ◌≢◌, List, [], ◌∷◌, Option, Some, None, All}
use Rattle.std.specs.List.{AllByRecursion}
use Rattle.pfc_semantics.specs.Programs.{Guard, Block, Program}
use Rattle.pfc_semantics.specs.Remainders.{Way, Scan, Action, leave, own as trying, scans, passes}
use Rattle.pfc_semantics.specs.Configurations.{Mark, plain, of_resource, Caller, of_nobody, of_remainder, of_value, Activation, Hand, empty_hand, offering}
use Rattle.pfc_semantics.specs.Configurations.{asking, barred_at, Activity, Config, declared_block, activity_of}
use Rattle.pfc_translation.specs.Calls.{resource_of}
use Rattle.pfc_translation.specs.Images.{site_in}
use Rattle.pfc_run_rules.specs.Rules.{HasLeft}
use Rattle.pfc_guard_laws.specs.Tops.{Tops, Standing, standing_at, IsOrdered}
use Rattle.pfc_guard_laws.specs.Written.{SuitsExpr, SuitStmts}
use Rattle.pfc_guard_laws.specs.Remainders.{SuitsBar, SuitOpens, SuitsRemainder, SuitsAwaiting, SuitsDoing}

-- ## Programs

-- A body without a guard, whatever has been entered, has no requeue. One with a guard requeues within its resource.
abbrev pub SuitsBody : Program → Option Tops → Block → Option Guard → Type 0
SuitsBody g tops b None = (mark : Mark) → SuitStmts g (standing_at tops mark b.scope) b.env b.next b.stmts
SuitsBody g tops b (Some guard) =
    SuitStmts g (standing_at tops (of_resource (resource_of (site_in g b))) b.scope) b.env b.next b.stmts
    × ((standing : Standing) → standing.tops ≡ tops → SuitsExpr g standing guard.env guard.test)

abbrev pub SuitsBlock : Program → Option Tops → Block → Type 0
SuitsBlock g tops b = SuitsBody g tops b b.guard

-- Each body is so, in this order of the parts of the program, if there is one. Main's has no guard, nor has an initialising one or that of a process.
pub record SuitsInOrder (g : Program) (tops : Option Tops) : Type 0 where
  pub blocks : AllByRecursion (SuitsBlock g tops) g.blocks
  pub modules : AllByRecursion (λ (b : Block). SuitStmts g (standing_at tops plain 0) b.env b.next b.stmts) g.modules
  pub main : (mark : Mark) → SuitStmts g (standing_at tops mark 0) g.main.env g.main.next g.main.stmts
  pub main_unguarded : g.main.guard ≡ None
  pub main_scope : g.main.scope ≡ 0
  pub processes_unguarded : (n : ℕ) → (declared_block g n).guard ≡ None

-- and nothing is asked of an order
abbrev pub SuitsProgram : Program → Type 0
SuitsProgram g = SuitsInOrder g None

-- ## Configurations

-- the mark of the innermost activation, and the scope of its block
abbrev pub mark_in : List Activation → Mark
mark_in [] = plain
mark_in (a ∷ below) = a.mark

abbrev pub scope_in : List Activation → ℕ
scope_in [] = 0
scope_in (a ∷ below) = a.scope

abbrev pub standing_in : Option Tops → List Activation → Standing
standing_in tops own = standing_at tops (mark_in own) (scope_in own)

-- What a process is at belongs to the innermost activation, while there is any.
abbrev pub StandsOn : List Activation → List Activation → Type 0
StandsOn own [] = Unit {0}
StandsOn own (a ∷ below) = own ≡ a ∷ below

-- of a scan, in the innermost of these activations, something is so
module _ (g : Program) (tops : Option Tops) (scanned : List Activation → Scan → Type 0) where
  abbrev pub SuitsCaller : List Activation → Caller → Type 0
  SuitsCaller own of_nobody = Unit {0}
  SuitsCaller own (of_remainder env k) = SuitsRemainder g (standing_in tops own) (scanned own) env k
  SuitsCaller own (of_value x u) = SuitsAwaiting g (standing_in tops own) (scanned own) x.env u

  abbrev pub SuitActivations : List Activation → Type 0
  SuitActivations [] = Unit {0}
  SuitActivations (a ∷ below) = ((own : List Activation) × StandsOn own below × SuitsCaller own a.caller) × SuitActivations below

  abbrev pub SuitsHand : List Activation → Hand → Type 0
  SuitsHand own empty_hand = Unit {0}
  SuitsHand own (offering x os k) =
      SuitOpens g (standing_in tops own) x.env os × SuitsRemainder g (standing_in tops own) (scanned own) x.env k
  SuitsHand own (asking values) = Unit {0}
  SuitsHand own (barred_at b) = SuitsBar g tops b

  -- a process whose remainder belongs to the innermost of `own`
  pub record SuitsActivity (own : List Activation) (a : Activity) : Type 0 where
    pub stands : StandsOn own a.activations
    pub doing : SuitsDoing g (standing_in tops own) (scanned own) a.doing
    pub activations : SuitActivations a.activations
    pub ordered : IsOrdered tops a.activations
    pub hand : SuitsHand own a.hand

  abbrev pub SuitsConfig : (ℕ → List Activation) → Config → Type 0
  SuitsConfig owns c = (q : ℕ) → SuitsActivity (owns q) (activity_of g c q)

-- ## Who has left

-- behind a return from a resource none of the activations that are left has entered it
abbrev pub LeftFor : Way → ℕ → List Activation → Type 0
LeftFor leave r own = All (λ (a : Activation). a.mark ≢ of_resource r) own
LeftFor (trying bar) r own = Unit {0}

abbrev pub Left : List Activation → Scan → Type 0
Left own s = LeftFor s.way s.resource own

-- what the rules of runs say of who scans
abbrev pub ScansByRules : Program → Config → ℕ → Action → Type 0
ScansByRules g c p (scans x s k) = HasLeft g c p s s.way
ScansByRules g c p (passes x w s k) = HasLeft g c p s s.way
ScansByRules g c p n = Unit {0}
