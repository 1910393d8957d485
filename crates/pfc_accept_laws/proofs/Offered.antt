-- What processes show that offer alternatives is what they were about to offer.
use Rattle.std.proofs.Common.{◌≡◌, ℕ, inl, inr, List, [], ◌∷◌, refl, subst}
use Rattle.pfc_semantics.specs.Programs.{Program}
use Rattle.pfc_semantics.specs.Remainders.{Context, Argument, Call, Open, Remainder, Way, Action, leave, own, to_procedure, to_function, to_module, to_requeue}
use Rattle.pfc_semantics.specs.Remainders.{to_process, to_entry, calls, meets, decides, bars, passes}
use Rattle.pfc_semantics.specs.Configurations.{Hand, empty_hand, offering, asking, barred_at, Config, activity_of, start}
use Rattle.pfc_semantics.specs.Events.{step}
use Rattle.pfc_semantics.specs.Steps.{next_of}
use Rattle.pfc_semantics.specs.Time.{settled_config}
use Rattle.pfc_accept_laws.specs.Shown.{ShowsOpen, IsToOffer}
use Rattle.pfc_accept_laws.proofs.Each.{Told, any_open, IsTold, Each}
use Rattle.pfc_accept_laws.proofs.Effects.{CallsSo, ShowsWay, ActsSo, any_next}
use Rattle.pfc_accept_laws.proofs.Runs.{start_so, settled_so, step_so}

module _ (offers : ℕ → Context → List Open → Remainder → Type 0) (g : Program) where
  abbrev OffersIn : ℕ → Hand → Type 0
  OffersIn q (offering x os k) = offers q x os k
  OffersIn q hand = Unit {0}

  abbrev shown : Told
  shown = record {
    program = g;
    so = λ q a. OffersIn q a.hand;
    alive = λ activations. Unit {0};
    requeues = λ mark. Unit {0};
    does =
        λ q l doing. Unit {0};
    waits = λ q l caller. Unit {0};
  }

  shown_told : IsTold shown
  shown_told =
      record {
        works = λ q a doing may so. tt;
        lined = λ q a line so. so;
        emptied = λ q a so. tt;
        ended = λ q a so. tt;
        created = λ c q a so. tt;
        called = λ c q a b mark caller doing some waiting so. tt;
        left = λ q a top below doing is may so. tt;
        requeued = λ c q a top below b doing is marked so. tt;
        main = tt;
        idle = λ q n. tt;
        nobody = λ q. tt;
        back = λ q a top below env k is by so. tt;
        result = λ q a top below x u v is by so. tt;
        scanned = λ q l env s k so. tt;
        offered = λ q a x os k is so. any_open shown (λ q l doing. tt) q a.activations x k os;
      }

  -- ## In a configuration

  abbrev pub AreOffered : Config → Type 0
  AreOffered c = (q : ℕ) (x : Context) (os : List Open) (k : Remainder) → ShowsOpen g c q x os k → offers q x os k

  in_hand : (q : ℕ) (hand : Hand) → ((x : Context) (os : List Open) (k : Remainder) → hand ≡ offering x os k → offers q x os k) → OffersIn q hand
  in_hand q (offering x os k) so = so x os k refl
  in_hand q empty_hand so = tt
  in_hand q (asking values) so = tt
  in_hand q (barred_at b) so = tt

  each_so : (c : Config) → AreOffered c → Each shown c
  each_so c so q = in_hand q (activity_of g c q).hand (so q)

  as_asked : (c : Config) → Each shown c → AreOffered c
  as_asked c all q x os k is = subst (λ (hand : Hand). OffersIn q hand) is (all q)

  -- ## An action

  module _ (c : Config) (p : ℕ) (about : (x : Context) (os : List Open) (k : Remainder) → IsToOffer g c p x os k → offers p x os k) where
    way_so : (way : Way) → ShowsWay shown p (activity_of g c p).activations way
    way_so leave = tt
    way_so (own b) = λ a same so. tt

    calls_so : (call : Call) (given : List Argument) → CallsSo shown c p call given
    calls_so (to_entry s entry k) given = λ a same so. tt
    calls_so (to_requeue scope) given = λ top below is. tt
    calls_so (to_procedure scope k) given = tt
    calls_so (to_function scope u) given = tt
    calls_so (to_module n scope k) given = tt
    calls_so (to_process s k) given = tt

    pub acts_so : (n : Action) → next_of g c p ≡ n → ActsSo shown c p n
    acts_so (calls x call given) is = calls_so call given
    acts_so (meets x o k) is = λ a same so. about x (o ∷ []) k (inl (o, refl, is))
    acts_so (decides x s k) is = λ a same so. about x s.offered k (inr (s, refl, is))
    acts_so (bars x b k) is = λ a same so. tt
    acts_so (passes x w s k) is = way_so s.way
    acts_so n is = tt

  -- ## Runs

  pub start_offered : (input : List ℕ) (seed : ℕ) → AreOffered (start g input seed)
  start_offered input seed = as_asked (start g input seed) (start_so shown shown_told input seed)

  pub settled_offered : (c : Config) → AreOffered c → AreOffered (settled_config c)
  settled_offered c so = as_asked (settled_config c) (settled_so shown shown_told c (each_so c so))

  pub step_offered :
      (c : Config) (p choice : ℕ) → AreOffered c → ((x : Context) (os : List Open) (k : Remainder) → IsToOffer g c p x os k → offers p x os k)
      → AreOffered (step g c p choice).config
  step_offered c p choice so about =
      as_asked (step g c p choice).config
      (step_so shown shown_told c p choice (each_so c so) (inr (λ q l doing. tt)) tt (acts_so c p about (next_of g c p) refl)
      (any_next shown (λ q l doing. tt) (λ q l caller. tt) p (activity_of g c p).activations (next_of g c p)))
