-- Wherever a run comes what is left calls what the rules ask, and each guard is of its own resource.
use Rattle.std.proofs.Common.{◌≡◌, ℕ, zero, suc, Bool, true, false, if◌then◌else◌, List, [], ◌∷◌, get_or, map, Option, Some, None, Ok, Err, refl, subst}
use Rattle.std.specs.List.{AllByRecursion}
use Rattle.pfc_types.specs.rules.Expressions.{Env}
use Rattle.pfc_state.specs.Stands.{Stand, may_end, is_ready}
use Rattle.pfc_world.specs.Tables.{Table, at}
use Rattle.pfc_world.specs.Transitions.{ticked}
use Rattle.pfc_world.specs.Settling.{may_all_end, settled}
use Rattle.pfc_semantics.specs.Programs.{Block, Program}
use Rattle.pfc_semantics.specs.Remainders.{Action, Bar, Scan, Remainder, in_names, scans, bars}
use Rattle.pfc_semantics.specs.Configurations.{plain, Activation, Activity, Hand, barred_at, Config, Effect, nobody, activity_of, body_of, initialising}
use Rattle.pfc_semantics.specs.Configurations.{main_activation, idle_activity, start, done_at, after}
use Rattle.pfc_semantics.specs.Processes.{ended_activity}
use Rattle.pfc_semantics.specs.Steps.{next_of, effect, line_of}
use Rattle.pfc_semantics.specs.Events.{step}
use Rattle.pfc_semantics.specs.Time.{ended_children, terminated_over, settled_config}
use Rattle.pfc_run_rules.specs.Rules.{IsOfItsBlock, AreBarredAtTheirOwn}
use Rattle.pfc_guard_laws.specs.Tops.{Tops, Standing, standing_at, Lives}
use Rattle.pfc_guard_laws.specs.Written.{SuitStmts}
use Rattle.pfc_guard_laws.specs.Remainders.{SuitsBar, SuitsRemainder, SuitsAction, GuardsByRules}
use Rattle.pfc_guard_laws.specs.Configurations.{SuitsInOrder, SuitsProgram, standing_in, SuitsHand, SuitsActivity, SuitsConfig}
use Rattle.pfc_guard_laws.specs.Runs.{RunsTo, at_first, acts}
use Rattle.pfc_guard_laws.proofs.Ordering.{none_ordered, first_ordered}
use Rattle.pfc_guard_laws.proofs.Statements.{behind_suits}
use Rattle.pfc_guard_laws.proofs.Rewriting.{next_suits}
use Rattle.pfc_guard_laws.proofs.Steps.{SuitsEffect, body_suits, with_activity_suits}
use Rattle.pfc_guard_laws.proofs.Effects.{effect_suits}

module _ (g : Program) (tops : Option Tops) (scanned : List Activation → Scan → Type 0) where
  -- ## Settling

  ended_suits :
      (rows : List Stand) (activities : List Activity) (owns : ℕ → List Activation)
      → ((q : ℕ) → SuitsActivity g tops scanned (owns q) (get_or activities q (nobody g)))
      → (q : ℕ) → SuitsActivity g tops scanned (owns q) (get_or (ended_children rows activities) q (nobody g))
  ended_suits [] activities owns each q = each q
  ended_suits (stand ∷ rows) [] owns each q = each q
  ended_suits (stand ∷ rows) (a ∷ activities) owns each zero = by (may_end stand)
    where
      by : (b : Bool) → SuitsActivity g tops scanned (owns 0) (if b then ended_activity a else a)
      by true = record { stands = tt; doing = (each 0).doing; activations = tt; ordered = none_ordered tops; hand = tt }
      by false = each 0
  ended_suits (stand ∷ rows) (a ∷ activities) owns each (suc q) = ended_suits rows activities (λ i. owns (suc i)) (λ i. each (suc i)) q

  pub settled_suits : (c : Config) (owns : ℕ → List Activation) → SuitsConfig g tops scanned owns c → SuitsConfig g tops scanned owns (settled_config c)
  settled_suits c owns suits = let w = settled c.table in by w (may_all_end w.rows)
    where
      by : (w : Table) (b : Bool) → SuitsConfig g tops scanned owns (if b then terminated_over w c else c)
      by w true = ended_suits w.rows c.activities owns suits
      by w false = suits

  -- ## Steps

  done_suits : (c : Config) (p line : ℕ) → SuitsEffect g tops scanned (Ok c) → SuitsEffect g tops scanned (Ok (done_at g c p line))
  done_suits c p line so = (
    so.0,
    with_activity_suits g tops scanned so.0 (record c { table = ticked c.table }) p _ so.1
        (record {
          stands = (so.1 p).stands;
          doing = (so.1 p).doing;
          activations = (so.1 p).activations;
          ordered = (so.1 p).ordered;
          hand = (so.1 p).hand;
        }),
  )

  pub after_suits :
      (c : Config) (p line : ℕ) (e : Effect) → SuitsEffect g tops scanned (Ok c) → SuitsEffect g tops scanned e →
      SuitsEffect g tops scanned (Ok (after g c p line e))
  after_suits c p line (Ok d) so effect = done_suits d p line effect
  after_suits c p line (Err f) so effect =
      done_suits (record c { fault = Some (record { process = p; line = line; fault = f }) }) p line so

  -- ## Start

  initialising_suits :
      (standing : Standing) (own : Scan → Type 0) (bs : List Block) (k : Remainder)
      → AllByRecursion (λ (b : Block). SuitStmts g standing b.env b.next b.stmts) bs → ((env : Env) → SuitsRemainder g standing own env k) → (env : Env)
      → SuitsRemainder g standing own env (initialising bs k)
  initialising_suits standing own [] k all left env = left env
  initialising_suits standing own (b ∷ bs) k all left env =
      behind_suits g standing own b.env b.next b.stmts (initialising bs k) all.0 (initialising_suits standing own bs k all.1 left b.env)

  idle_suits : (l : List ℕ) (owns : ℕ → List Activation) (q : ℕ) → SuitsActivity g tops scanned (owns q) (get_or (map (idle_activity g) l) q (nobody g))
  idle_suits [] owns q = record { stands = tt; doing = tt; activations = tt; ordered = none_ordered tops; hand = tt }
  idle_suits (n ∷ l) owns zero = record { stands = tt; doing = tt; activations = tt; ordered = none_ordered tops; hand = tt }
  idle_suits (n ∷ l) owns (suc q) = idle_suits l (λ i. owns (suc i)) q

  pub start_suits : SuitsInOrder g tops → (input : List ℕ) (seed : ℕ) → SuitsConfig g tops scanned (λ q. main_activation g ∷ []) (start g input seed)
  start_suits program input seed zero =
      record {
        stands = refl;
        doing =
            initialising_suits (standing_at tops plain 0) (scanned (main_activation g ∷ [])) g.modules (in_names g.main.env (body_of g.main)) program.modules
            (λ (env : Env). body_suits g tops program (standing_at tops plain 0) (scanned (main_activation g ∷ [])) g.main (program.main plain)) g.main.env;
        activations = (([], tt, tt), tt);
        ordered = first_ordered tops (main_activation g) refl refl;
        hand = tt;
      }
  start_suits program input seed (suc q) = idle_suits g.objects.processes (λ i. main_activation g ∷ []) q

-- ## Runs

-- of scans nothing is asked here
abbrev pub anything : List Activation → Scan → Type 0
anything own s = Unit {0}

pub step_suits :
    (g : Program) (tops : Option Tops) → SuitsInOrder g tops → (c : Config) (p choice : ℕ) → is_ready (at c.table.rows p) ≡ true
    → Lives tops (activity_of g c p).activations → SuitsEffect g tops anything (Ok c) → SuitsEffect g tops anything (Ok (step g c p choice).config)
step_suits g tops program c p choice ready lives so =
    let doing = (activity_of g c p).doing in
    let suits = next_suits g (standing_in tops (so.0 p)) (anything (so.0 p)) (λ s ticket is. tt) doing (so.1 p).doing in
    after_suits g tops anything c p (line_of (next_of g c p)) (effect g c p choice (next_of g c p)) so
    (effect_suits g tops program anything (λ own r bar. tt) c so.0 so.1 p ready lives (next_of g c p) (λ line e a below own env k r is caller stands marked. tt)
    choice (next_of g c p) refl suits)

module _ (g : Program) (program : SuitsProgram g) where
  pub all_come_suited : (first c : Config) → SuitsEffect g None anything (Ok first) → RunsTo g first c → SuitsEffect g None anything (Ok c)
  all_come_suited first _ so at_first = so
  all_come_suited first _ so (acts d p choice before ready) =
      let come = all_come_suited first d so before in
      step_suits g None program (settled_config d) p choice ready tt (come.0, settled_suits g None anything d come.0 come.1)

  -- ## Guards

  guards_suit : (standing : Standing) (own : Scan → Type 0) (n : Action) → SuitsAction g standing own n → GuardsByRules g n
  guards_suit standing own (scans x s k) suits = suits.0
  guards_suit standing own (bars x b k) suits = (suits.0, suits.1.0)
  guards_suit standing own n suits = tt

  shown_suits : (own : List Activation) (hand : Hand) → SuitsHand g None anything own hand → (bar : Bar) → hand ≡ barred_at bar → IsOfItsBlock g bar
  shown_suits own hand suits bar e =
      let is : SuitsBar g None bar = subst (λ (h : Hand). SuitsHand g None anything own h) e suits in is.0

  module _ (first c : Config) (so : SuitsEffect g None anything (Ok first)) (comes : RunsTo g first c) where
    pub all_barred : AreBarredAtTheirOwn g (settled_config c)
    all_barred q bar e =
        let come = all_come_suited first c so comes in
        let suits = settled_suits g None anything c come.0 come.1 in
        shown_suits (come.0 q) (activity_of g (settled_config c) q).hand (suits q).hand bar e

    pub next_guards : (p : ℕ) → GuardsByRules g (next_of g (settled_config c) p)
    next_guards p =
        let come = all_come_suited first c so comes in
        let suits = settled_suits g None anything c come.0 come.1 in
        guards_suit (standing_in None (come.0 p)) (anything (come.0 p)) (next_of g (settled_config c) p)
        (next_suits g (standing_in None (come.0 p)) (anything (come.0 p)) (λ s ticket is. tt) (activity_of g (settled_config c) p).doing (suits p).doing)
