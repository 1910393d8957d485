-- Displays go back to those with which processes began.
use Rattle.std.proofs.Common.{inr, ◌≡◌, ◌≢◌, ◌<◌, ℕ, List, [], ◌∷◌, refl, sym, subst, arith}
use Rattle.pfc_semantics.specs.Displays.{Display}
use Rattle.pfc_semantics.specs.Programs.{Program}
use Rattle.pfc_semantics.specs.Remainders.{Context, Argument, Call, Way, leave, own, to_procedure, to_function, to_module, to_requeue, to_process, to_entry}
use Rattle.pfc_semantics.specs.Remainders.{calls, meets, decides, bars, passes, Action}
use Rattle.pfc_semantics.specs.Processes.{process_block}
use Rattle.pfc_semantics.specs.Calls.{new_number, new_display, new_activation, cells_above}
use Rattle.pfc_semantics.specs.Configurations.{plain, Activation, Config, activity_of}
use Rattle.pfc_semantics.specs.Events.{step}
use Rattle.pfc_semantics.specs.Steps.{next_of}
use Rattle.pfc_accept_laws.specs.Displays.{first_display, GoesBack, AllGoBack, RequeuesInside}
use Rattle.pfc_accept_laws.proofs.Each.{Told, any_open, IsTold}
use Rattle.pfc_accept_laws.proofs.Effects.{CallsSo, ShowsWay, ActsSo, any_next}
use Rattle.pfc_accept_laws.proofs.Runs.{step_so}

module _ (g : Program) where
  abbrev pub displays : Told
  displays =
      record {
        program = g;
        so = λ q a. GoesBack g q a.display a.activations;
        alive = λ activations. activations ≢ [];
        requeues = λ mark. mark ≢ plain;
        does = λ q l doing. Unit {0};
        waits = λ q l caller. Unit {0};
      }

  -- a call keeps the display that it goes back to
  over : (q : ℕ) (display new : Display) (a : Activation) (activations : List Activation) → activations ≢ [] → a.display ≡ display
      → GoesBack g q display activations → GoesBack g q new (a ∷ activations)
  over q display new a [] some is back = absurd (some refl)
  over q display new a (b ∷ below) some is back = subst (λ (d : Display). GoesBack g q d (b ∷ below)) (sym is) back

  under : (q : ℕ) (display : Display) (a : Activation) (below : List Activation) → GoesBack g q display (a ∷ below) → GoesBack g q a.display below
  under q display a [] back = tt
  under q display a (b ∷ below) back = back

  -- who requeues was called
  instead :
      (q : ℕ) (display new : Display) (a b : Activation) (below : List Activation) → a.mark ≢ plain → b.display ≡ a.display
      → GoesBack g q display (a ∷ below) → GoesBack g q new (b ∷ below)
  instead q display new a b [] marked is back = absurd (marked back.0)
  instead q display new a b (e ∷ below) marked is back = subst (λ (d : Display). GoesBack g q d (e ∷ below)) (sym is) back

  pub displays_told : IsTold displays
  displays_told =
      record {
        works = λ q a doing may back. back;
        lined = λ q a line back. back;
        emptied = λ q a back. back;
        ended = λ q a back. tt;
        created = λ c q a back. (refl, λ child. refl);
        called = λ c q a b mark caller doing some waiting back.
            over q a.display (new_display c b a.display) (new_activation c a a.activations b mark caller a.display) a.activations some refl back;
        left = λ q a top below doing is may back. under q a.display top below (subst (λ (l : List Activation). GoesBack g q a.display l) is back);
        requeued = λ c q a top below b doing is marked back.
            instead q a.display (new_display c b a.display) top
            (record top { number = new_number c; scope = b.scope; cells = cells_above below b }) below marked refl
            (subst (λ (l : List Activation). GoesBack g q a.display l) is back);
        main = (refl, λ child. none child);
        idle = λ q n. tt;
        nobody = λ q. tt;
        back = λ q a top below env k is by so. tt;
        result = λ q a top below x u v is by so. tt;
        scanned = λ q l env s k so. tt;
        offered = λ q a x os k is so. any_open displays (λ q l doing. tt) q a.activations x k os;
      }
    where
      none : {X : Type 0} → 0 < 0 → X
      none less = absurd (grind (arith, less))

  -- ## An action

  module _ (c : Config) (p : ℕ) where
    way_so : (way : Way) → ShowsWay displays p (activity_of g c p).activations way
    way_so leave = tt
    way_so (own b) = λ a same back. back

    calls_so :
        (x : Context) (call : Call) (given : List Argument) → next_of g c p ≡ calls x call given → RequeuesInside g c p → CallsSo displays c p call given
    calls_so x (to_entry s entry k) given is inside = λ a same back. back
    calls_so x (to_requeue scope) given is inside = λ top below on. inside x scope given top below is on
    calls_so x (to_procedure scope k) given is inside = tt
    calls_so x (to_function scope u) given is inside = tt
    calls_so x (to_module n scope k) given is inside = tt
    calls_so x (to_process s k) given is inside = tt

    acts_so : (n : Action) → next_of g c p ≡ n → RequeuesInside g c p → ActsSo displays c p n
    acts_so (calls x call given) is inside = calls_so x call given is inside
    acts_so (meets x o k) is inside = λ a same back. back
    acts_so (decides x s k) is inside = λ a same back. back
    acts_so (bars x b k) is inside = λ a same back. back
    acts_so (passes x w s k) is inside = way_so s.way
    acts_so n is inside = tt

    pub step_goes_back :
        (choice : ℕ) → AllGoBack g c → (activity_of g c p).activations ≢ [] → RequeuesInside g c p → AllGoBack g (step g c p choice).config
    step_goes_back choice all alive inside =
        step_so displays displays_told c p choice all (inr (λ q l doing. tt)) alive (acts_so (next_of g c p) refl inside)
        (any_next displays (λ q l doing. tt) (λ q l caller. tt) p (activity_of g c p).activations (next_of g c p))

  pub first_is :
      (c : Config) (q : ℕ) (a : Activation) → AllGoBack g c → 0 < q → (activity_of g c q).activations ≡ a ∷ []
      → (activity_of g c q).display ≡ first_display g a.number (process_block g q)
  first_is c q a all child is =
      let back : GoesBack g q (activity_of g c q).display (a ∷ []) =
      subst (λ (l : List Activation). GoesBack g q (activity_of g c q).display l) is (all q) in
      back.1 child
