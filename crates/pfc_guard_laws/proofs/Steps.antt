-- What changes of configurations leave: activities.
use Rattle.std.proofs.Common.{◌≡◌, ◌≢◌, ℕ, zero, suc, Bool, true, false, if◌then◌else◌, List, [], ◌∷◌, get_or, set, Option, Some, None, Ok, Err, refl, ap, sym}
use Rattle.std.proofs.Common.{◌∙◌, subst, arith}
use Rattle.std.proofs.lemmas.Bool.Decides.{nat_tests}
use Rattle.std.specs.Prelude.{◌==◌, nat_le}
use Rattle.pfc_base.specs.declared.faults.RunFault.TheVariants.{Stack}
use Rattle.pfc_types.specs.rules.Expressions.{Env}
use Rattle.pfc_semantics.specs.Values.{Value}
use Rattle.pfc_semantics.specs.Store.{with_room, without}
use Rattle.pfc_semantics.specs.Programs.{Block, Guard, Program, block_at}
use Rattle.pfc_semantics.specs.Remainders.{Context, Argument, Scan, Remainder, AwaitsValue, ends}
use Rattle.pfc_semantics.specs.Rewriting.{Doing, going, holding}
use Rattle.pfc_semantics.specs.Configurations.{Mark, of_resource, Caller, Activation, Activity, Hand, Config, Effect, body_of, nobody, activity_of}
use Rattle.pfc_semantics.specs.Configurations.{with_activity, doing_next, goes_on, holds, showing, all_passed}
use Rattle.pfc_semantics.specs.Calls.{most_cells, unless_full, new_number, new_values, new_activation, activated, left_by}
use Rattle.pfc_semantics.specs.Resources.{bar_of, guarded_body}
use Rattle.pfc_translation.specs.Calls.{resource_of}
use Rattle.pfc_translation.specs.Images.{site_in}
use Rattle.pfc_guard_laws.specs.Tops.{Tops, Standing, standing_at, Comes, IsOrdered, Lives}
use Rattle.pfc_guard_laws.specs.Written.{IsUnguarded, IsInResource, SuitStmts}
use Rattle.pfc_guard_laws.specs.Remainders.{SuitsBar, SuitsRemainder, SuitsAwaiting, SuitsDoing}
use Rattle.pfc_guard_laws.specs.Configurations.{SuitsBody, SuitsBlock, SuitsInOrder, scope_in, standing_in, StandsOn, SuitsCaller, SuitActivations, SuitsHand}
use Rattle.pfc_guard_laws.specs.Configurations.{SuitsActivity, SuitsConfig}
use Rattle.pfc_guard_laws.proofs.Statements.{behind_suits}
use Rattle.pfc_guard_laws.proofs.Ordering.{none_ordered, called_ordered}
use Rattle.pfc_guard_laws.proofs.Found.{guarded_there, found_suits}

-- ## Lists

-- one of a list is changed
set_changes :
    {X : Type 0} (P : ℕ → X → Type 0) (xs : List X) (p : ℕ) (x other : X) → ((q : ℕ) → q ≢ p → P q (get_or xs q other)) → P p x → P p other
    → (q : ℕ) → P q (get_or (set xs p x) q other)
set_changes P [] p x other others one none q = by (q == p) refl
  where
    by : (t : Bool) → (q == p) ≡ t → P q other
    by true e = let same : p ≡ q = grind (arith, nat_tests) in subst (λ (i : ℕ). P i other) same none
    by false e = others q (λ (h : q ≡ p). grind (arith, nat_tests))
set_changes P (y ∷ xs) zero x other others one none zero = one
set_changes P (y ∷ xs) zero x other others one none (suc q) = others (suc q) (λ (h : suc q ≡ 0). omega (arith, h))
set_changes P (y ∷ xs) (suc p) x other others one none zero = others zero (λ (h : 0 ≡ suc p). omega (arith, h))
set_changes P (y ∷ xs) (suc p) x other others one none (suc q) =
    set_changes (λ i. P (suc i)) xs p x other (λ i apart. others (suc i) (λ (h : suc i ≡ suc p). apart (omega (arith, h)))) one none q

-- what belongs to the process p is told anew
abbrev pub instead : (ℕ → List Activation) → ℕ → List Activation → ℕ → List Activation
instead owns p own q = if q == p then own else owns q

pub same_instead : (owns : ℕ → List Activation) (p : ℕ) (own : List Activation) → instead owns p own p ≡ own
same_instead owns p own = let same : (p == p) ≡ true = grind (arith, nat_tests) in ap (λ (t : Bool). if t then own else owns p) same

pub other_instead : (owns : ℕ → List Activation) (p : ℕ) (own : List Activation) (q : ℕ) → q ≢ p → instead owns p own q ≡ owns q
other_instead owns p own q apart = by (q == p) refl
  where
    by : (t : Bool) → (q == p) ≡ t → (if t then own else owns q) ≡ owns q
    by true e = absurd (apart (grind (arith, nat_tests)))
    by false e = refl

-- ## Bodies

module _ (g : Program) (tops : Option Tops) (program : SuitsInOrder g tops) where
  main_suits : SuitsBlock g tops g.main
  main_suits =
      subst (λ (o : Option Guard). SuitsBody g tops g.main o) (sym program.main_unguarded)
      (λ mark. subst (λ (i : ℕ). SuitStmts g (standing_at tops mark i) g.main.env g.main.next g.main.stmts) (sym program.main_scope) (program.main mark))

  pub block_suits : (i : ℕ) → SuitsBlock g tops (block_at g i)
  block_suits i = found_suits (SuitsBlock g tops) g.blocks i g.main program.blocks main_suits

  -- what is so of the statements of a body in an activation that has entered something
  abbrev pub SuitsIn : Mark → Block → Type 0
  SuitsIn mark b = SuitStmts g (standing_at tops mark b.scope) b.env b.next b.stmts

  -- without a guard the body is performed whatever has been entered
  pub unguarded_suits : (scope : ℕ) (mark : Mark) → IsUnguarded g scope → SuitsIn mark (block_at g scope)
  unguarded_suits scope mark none =
      let is : SuitsBody g tops (block_at g scope) None =
      subst (λ (o : Option Guard). SuitsBody g tops (block_at g scope) o) none (block_suits scope) in is mark

  -- the guard of a procedure of a resource
  pub bar_suits : (scope r : ℕ) (guard : Guard) → (block_at g scope).guard ≡ Some guard → IsInResource g r scope
      → SuitsBar g tops (bar_of g r (block_at g scope) guard)
  bar_suits scope r guard e within =
      let is : SuitsBody g tops (block_at g scope) (Some guard) =
      subst (λ (o : Option Guard). SuitsBody g tops (block_at g scope) o) e (block_suits scope) in
      (λ b there. within ∙ ap (λ (o : Option Block). block_resource o) (sym (guarded_there g scope guard program.main_unguarded e) ∙ there), is.1)
    where
      block_resource : Option Block → ℕ
      block_resource None = 0
      block_resource (Some b) = resource_of (site_in g b)

  -- the body of a procedure of a resource that has been entered
  pub entered_suits : (scope r : ℕ) → IsInResource g r scope → SuitsIn (of_resource r) (block_at g scope)
  entered_suits scope r within = by (block_at g scope).guard refl
    where
      by : (o : Option Guard) → (block_at g scope).guard ≡ o → SuitsIn (of_resource r) (block_at g scope)
      by None e = unguarded_suits scope (of_resource r) e
      by (Some guard) e =
          let is : SuitsBody g tops (block_at g scope) (Some guard) =
          subst (λ (o : Option Guard). SuitsBody g tops (block_at g scope) o) e (block_suits scope) in
          subst (λ (i : ℕ). SuitsIn (of_resource i) (block_at g scope)) (sym within) is.0

  pub body_suits :
      (standing : Standing) (scanned : Scan → Type 0) (b : Block) → SuitStmts g standing b.env b.next b.stmts
      → SuitsRemainder g standing scanned b.env (body_of b)
  body_suits standing scanned b suits = behind_suits g standing scanned b.env b.next b.stmts (ends b.last_line) suits tt

  pub guarded_suits :
      (scope r : ℕ) (scanned : Scan → Type 0) (o : Option Guard) → (block_at g scope).guard ≡ o → IsInResource g r scope
      → SuitsRemainder g (standing_at tops (of_resource r) (block_at g scope).scope) scanned (block_at g scope).env (guarded_body g r (block_at g scope) o)
  guarded_suits scope r scanned None e within =
      body_suits (standing_at tops (of_resource r) (block_at g scope).scope) scanned (block_at g scope) (entered_suits scope r within)
  guarded_suits scope r scanned (Some guard) e within = (
    bar_suits scope r guard e within,
    λ (i : Env). body_suits (standing_at tops (of_resource r) (block_at g scope).scope) scanned (block_at g scope) (entered_suits scope r within),
  )

-- ## Activities

module _ (g : Program) (tops : Option Tops) (scanned : List Activation → Scan → Type 0) where
  -- what an effect leaves, where each process has something that belongs to it
  abbrev pub SuitsEffect : Effect → Type 0
  SuitsEffect (Ok d) = (owns : ℕ → List Activation) × SuitsConfig g tops scanned owns d
  SuitsEffect (Err f) = Unit {0}

  pub effect_either : (b : Bool) (d e : Effect) → SuitsEffect d → SuitsEffect e → SuitsEffect (if b then d else e)
  effect_either true d e first second = first
  effect_either false d e first second = second

  pub full_suits : (p cells : ℕ) (c : Config) → SuitsEffect (Ok c) → SuitsEffect (unless_full p cells c)
  full_suits p cells c suits = effect_either (nat_le cells (most_cells p)) (Ok c) (Err Stack) suits tt

  nobody_suits : (own : List Activation) → SuitsActivity g tops scanned own (nobody g)
  nobody_suits own = record { stands = tt; doing = tt; activations = tt; ordered = none_ordered tops; hand = tt }

  pub with_activity_suits :
      (owns : ℕ → List Activation) (c : Config) (p : ℕ) (a : Activity) → SuitsConfig g tops scanned owns c → SuitsActivity g tops scanned (owns p) a
      → SuitsConfig g tops scanned owns (with_activity c p a)
  with_activity_suits owns c p a suits one q =
      set_changes (λ i b. SuitsActivity g tops scanned (owns i) b) c.activities p a (nobody g) (λ i apart. suits i) one (nobody_suits (owns p)) q

  -- and with something else that belongs to it
  pub instead_suits :
      (owns : ℕ → List Activation) (c : Config) (p : ℕ) (own : List Activation) (a : Activity) → SuitsConfig g tops scanned owns c
      → SuitsActivity g tops scanned own a → SuitsConfig g tops scanned (instead owns p own) (with_activity c p a)
  instead_suits owns c p own a suits one q =
      set_changes (λ i b. SuitsActivity g tops scanned (instead owns p own i) b) c.activities p a (nobody g)
      (λ i apart. subst (λ (l : List Activation). SuitsActivity g tops scanned l (activity_of g c i)) (sym (other_instead owns p own i apart)) (suits i))
      (subst (λ (l : List Activation). SuitsActivity g tops scanned l a) (sym (same_instead owns p own)) one) (nobody_suits (instead owns p own p)) q

  module _ (owns : ℕ → List Activation) where
    pub does_next :
        (c : Config) (p : ℕ) (doing : Doing) → SuitsConfig g tops scanned owns c → SuitsDoing g (standing_in tops (owns p)) (scanned (owns p)) doing
        → SuitsConfig g tops scanned owns (doing_next g c p doing)
    does_next c p doing suits does =
        with_activity_suits owns c p _ suits (record {
          stands = (suits p).stands;
          doing = does;
          activations = (suits p).activations;
          ordered = (suits p).ordered;
          hand = tt;
        })

    pub on_it_goes :
        (c : Config) (p : ℕ) (x : Context) (k : Remainder) → SuitsConfig g tops scanned owns c
        → SuitsRemainder g (standing_in tops (owns p)) (scanned (owns p)) x.env k → SuitsConfig g tops scanned owns (goes_on g c p x k)
    on_it_goes c p x k suits left = does_next c p (going x.env k) suits left

    pub it_holds :
        (c : Config) (p : ℕ) (x : Context) (v : Value) (u : AwaitsValue) → SuitsConfig g tops scanned owns c
        → SuitsAwaiting g (standing_in tops (owns p)) (scanned (owns p)) x.env u → SuitsConfig g tops scanned owns (holds g c p x v u)
    it_holds c p x v u suits waits = does_next c p (holding x v u) suits waits

    pub it_shows :
        (c : Config) (p : ℕ) (hand : Hand) → SuitsConfig g tops scanned owns c → SuitsHand g tops scanned (owns p) hand
        → SuitsConfig g tops scanned owns (showing g c p hand)
    it_shows c p hand suits shown =
        with_activity_suits owns c p _ suits
        (record {
          stands = (suits p).stands;
          doing = (suits p).doing;
          activations = (suits p).activations;
          ordered = (suits p).ordered;
          hand = shown;
        })

    -- ## Activations

    pub activated_suits :
        (c : Config) (p : ℕ) (b : Block) (mark : Mark) (caller : Caller) (args : List Argument) (k : Remainder) → SuitsConfig g tops scanned owns c
        → SuitsCaller g tops scanned (owns p) caller
        → Lives tops (activity_of g c p).activations → Comes tops mark b.scope (scope_in (owns p))
        → (let a = activity_of g c p in let own = new_activation c a a.activations b mark caller a.display ∷ a.activations in
        SuitsRemainder g (standing_at tops mark b.scope) (scanned own) b.env k)
        → SuitsEffect (Ok (activated g c p b mark caller args k))
    activated_suits c p b mark caller args k suits waits lives comes left =
        let a = activity_of g c p in
        let values = new_values g b (all_passed g c p args) in
        let own = new_activation c a a.activations b mark caller a.display ∷ a.activations in (
          instead owns p own,
          instead_suits owns (record c { store = with_room c.store (new_number c) values }) p own _ suits
              (record {
                stands = refl;
                doing = left;
                activations = ((owns p, (suits p).stands, waits), (suits p).activations);
                ordered =
                    called_ordered tops (owns p) a.activations (new_activation c a a.activations b mark caller a.display) (suits p).stands lives
                    (suits p).ordered comes;
                hand = tt;
              }),
        )

    pub left_suits :
        (c : Config) (p : ℕ) (a : Activation) (below own : List Activation) (doing : Doing) → SuitsConfig g tops scanned owns c → StandsOn own below
        → SuitActivations g tops scanned below → IsOrdered tops below → SuitsDoing g (standing_in tops own) (scanned own) doing →
        SuitsEffect (Ok (left_by g c p a below doing))
    left_suits c p a below own doing suits stands others so does = (
      instead owns p own,
      instead_suits owns (record c { store = without c.store a.number }) p own _ suits
          (record { stands = stands; doing = does; activations = others; ordered = so; hand = tt }),
    )
