-- Where all returns from resources are from ones that have been entered once, whoever scans behind a return has left the resource.
use Rattle.std.proofs.Common.{◌≡◌, ◌≢◌, ℕ, List, [], ◌∷◌, true, None, Ok, All, refl, sym, subst}
use Rattle.std.proofs.lemmas.List.Elements.{All-nil}
use Rattle.pfc_state.specs.Stands.{is_ready}
use Rattle.pfc_world.specs.Tables.{at}
use Rattle.pfc_semantics.specs.Programs.{Program}
use Rattle.pfc_semantics.specs.Remainders.{Action, Way, Scan, leave, own as trying, scans, passes, finishes}
use Rattle.pfc_semantics.specs.Configurations.{of_resource, Activation, Config, activity_of}
use Rattle.pfc_semantics.specs.Steps.{next_of, effect, line_of}
use Rattle.pfc_semantics.specs.Events.{step}
use Rattle.pfc_semantics.specs.Time.{settled_config}
use Rattle.pfc_run_rules.specs.Rules.{HasLeft}
use Rattle.pfc_guard_laws.specs.Remainders.{SuitsAction}
use Rattle.pfc_guard_laws.specs.Configurations.{SuitsProgram, standing_in, StandsOn, Left, LeftFor, ScansByRules}
use Rattle.pfc_guard_laws.specs.Runs.{ReturnsOnce, RunsOnce, once_first, acts_once}
use Rattle.pfc_guard_laws.proofs.Rewriting.{next_suits}
use Rattle.pfc_guard_laws.proofs.Steps.{SuitsEffect}
use Rattle.pfc_guard_laws.proofs.Effects.{IsReturned, effect_suits}
use Rattle.pfc_guard_laws.proofs.Runs.{settled_suits, after_suits}

-- what belongs to a process are its activations, while there are any
own_left : (r : ℕ) (own l : List Activation) → StandsOn own l → All (λ (a : Activation). a.mark ≢ of_resource r) own
    → All (λ (a : Activation). a.mark ≢ of_resource r) l
own_left r own [] stands left = All-nil (λ (a : Activation). a.mark ≢ of_resource r)
own_left r own (a ∷ below) stands left = subst (λ (xs : List Activation). All (λ (b : Activation). b.mark ≢ of_resource r) xs) stands left

below_left : (r : ℕ) (own below : List Activation) → StandsOn own below → below ≢ [] → All (λ (a : Activation). a.mark ≢ of_resource r) below
    → All (λ (a : Activation). a.mark ≢ of_resource r) own
below_left r own [] stands some left = absurd (some refl)
below_left r own (a ∷ below) stands some left =
    let is : a ∷ below ≡ own = sym stands in subst (λ (xs : List Activation). All (λ (b : Activation). b.mark ≢ of_resource r) xs) is left

module _ (g : Program) (program : SuitsProgram g) where
  returned_left : (c : Config) (p : ℕ) → ReturnsOnce g c p → (line : ℕ) → next_of g c p ≡ finishes line → IsReturned g Left c p
  returned_left c p once line e a below own env k r is caller stands marked =
      let so = once line a below env k r e is caller marked in below_left r own below stands so.0 so.1

  step_left :
      (c : Config) (p choice : ℕ) → is_ready (at c.table.rows p) ≡ true → ReturnsOnce g c p → SuitsEffect g None Left (Ok c)
      → SuitsEffect g None Left (Ok (step g c p choice).config)
  step_left c p choice ready once so =
      let doing = (activity_of g c p).doing in
      let suits = next_suits g (standing_in None (so.0 p)) (Left (so.0 p)) (λ s ticket is. is) doing (so.1 p).doing in
      after_suits g None Left c p (line_of (next_of g c p)) (effect g c p choice (next_of g c p)) so
      (effect_suits g None program Left (λ own r bar. tt) c so.0 so.1 p ready tt (next_of g c p) (returned_left c p once) choice (next_of g c p) refl suits)

  pub all_come_left : (first c : Config) → SuitsEffect g None Left (Ok first) → RunsOnce g first c → SuitsEffect g None Left (Ok c)
  all_come_left first _ so once_first = so
  all_come_left first _ so (acts_once d p choice before ready once) =
      let come = all_come_left first d so before in
      step_left (settled_config d) p choice ready once (come.0, settled_suits g None Left d come.0 come.1)

  left_by_way : (c : Config) (p : ℕ) (own : List Activation) → StandsOn own (activity_of g c p).activations → (s : Scan) (way : Way)
      → LeftFor way s.resource own
      → HasLeft g c p s way
  left_by_way c p own stands s leave left = own_left s.resource own (activity_of g c p).activations stands left
  left_by_way c p own stands s (trying bar) left = tt

  scans_left : (c : Config) (p : ℕ) (own : List Activation) → StandsOn own (activity_of g c p).activations → (n : Action)
      → SuitsAction g (standing_in None own) (Left own) n → ScansByRules g c p n
  scans_left c p own stands (scans x s k) suits = left_by_way c p own stands s s.way suits.1.0
  scans_left c p own stands (passes x w s k) suits = left_by_way c p own stands s s.way suits.1.0
  scans_left c p own stands n suits = tt

  pub next_left : (first c : Config) → SuitsEffect g None Left (Ok first) → RunsOnce g first c → (p : ℕ)
      → ScansByRules g (settled_config c) p (next_of g (settled_config c) p)
  next_left first c so comes p =
      let come = all_come_left first c so comes in
      let suits = settled_suits g None Left c come.0 come.1 in
      scans_left (settled_config c) p (come.0 p) (suits p).stands (next_of g (settled_config c) p)
      (next_suits g (standing_in None (come.0 p)) (Left (come.0 p)) (λ s ticket is. is) (activity_of g (settled_config c) p).doing (suits p).doing)
