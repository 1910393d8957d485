use Rattle.std.proofs.Common.{◌≡◌, ℕ, zero, suc, pos, List, [], ◌∷◌, get_or, Some, None, ap, sym, subst}
use Rattle.std.specs.List.{slice_get}
use Rattle.pfc_semantics.specs.Values.{Value, ordinal, points}
use Rattle.pfc_semantics.specs.Displays.{Spot}
use Rattle.pfc_semantics.specs.Programs.{Program}
use Rattle.pfc_semantics.specs.Remainders.{Argument, by_reference}
use Rattle.pfc_semantics.specs.Configurations.{Config, number_for, location_for, passed as passed_in, all_passed}
use Rattle.pfc_accept_laws.specs.Shown.{ArePassed, IsToAsk, Passes}
use Rattle.pfc_accept_laws.proofs.Asked.{start_asked, settled_asked, step_asked}
use Rattle.pfc_accept_laws.proofs.laws.callers_pass_locations.Goals as goal

passed : (g : Program) (c : Config) (p : ℕ) → Passes g c p → (owner entry : ℕ) (values : List Value) → IsToAsk g c p owner entry values
    → ArePassed g owner entry values
passed g c p passes owner entry values about =
    subst (λ (n : ℕ). ArePassed g n entry values) (sym about.owned)
    (subst (λ (vs : List Value). ArePassed g (number_for g c p about.spot) entry vs) (sym about.passed)
    (passes about.context about.spot entry about.behind about.given about.next))

located : (g : Program) (c : Config) (p : ℕ) (given : List Argument) (k : ℕ) (v : Spot) → slice_get given k ≡ Some (by_reference v)
    → get_or (all_passed g c p given) k (ordinal (pos 0)) ≡ points (location_for g c p v)
located g c p [] k v is = absurd (none k is)
  where
    none : (k : ℕ) → slice_get [] k ≡ Some (by_reference v) → ⊥
    none zero is = (let no : None ≡ Some (by_reference v) = is in cc)
    none (suc k) is = (let no : None ≡ Some (by_reference v) = is in cc)
located g c p (a ∷ given) zero v is = (let same : Some a ≡ Some (by_reference v) = is in ap (passed_in g c p) (some_same a (by_reference v) same))
  where
    some_same : (b d : Argument) → Some b ≡ Some d → b ≡ d
    some_same b d same = cc
located g c p (a ∷ given) (suc k) v is = located g c p given k v is

pub returns : goal.returns
returns c =
    record {
      given = λ g d p q entry given takes k f formal reference.
          let taken = takes k f formal reference in (location_for g d p taken.0, located g d p given k taken.0 taken.1);
      start = λ g input seed q owner entry ticket values hand row.
          start_asked (λ q o e n vs. ArePassed g o e vs) g input seed q owner entry ticket values (hand, row);
      settles = λ g d all q owner entry ticket values hand row.
          settled_asked (λ q o e n vs. ArePassed g o e vs) g d (λ q o e n vs so. all q o e n vs so.0 so.1) q owner entry ticket values (hand, row);
      steps = λ g d p choice all passes q owner entry ticket values hand row.
          step_asked (λ q o e n vs. ArePassed g o e vs) g d p choice (λ q o e n vs so. all q o e n vs so.0 so.1)
          (λ o e n vs about. passed g d p passes o e vs about) q owner entry ticket values (hand, row);
    }
