-- Where displays go back, and callers pass locations, it is so of those who take part in rendezvous.
use Rattle.std.proofs.Common.{◌≡◌, ℕ, zero, suc, true, Bool, List, [], ◌∷◌, slice_get, Option, Some, None, refl}
use Rattle.pfc_types.specs.declared.heads.Formal.{Formal}
use Rattle.pfc_types.specs.declared.scope.Meaning.TheVariants.{Variable}
use Rattle.pfc_types.specs.declared.types.TypeId.{TypeId}
use Rattle.pfc_semantics.specs.Configurations.{Config}
use Rattle.pfc_accept_laws.specs.Displays.{AllGoBack}
use Rattle.pfc_accept_laws.specs.Shown.{AllPass}
use Rattle.pfc_accept_laws.proofs.Displays.{first_is}
use Rattle.pfc_representation.specs.Hands.{laid_parameter, laid_parameters, entry_formals}
use Rattle.pfc_representation.specs.Levels.{Facts, program_in}
use Rattle.pfc_kept_meetings.specs.Accepts.{KeepsAccepts}

-- a variable that is a reference stands for a parameter that is one
is_reference : (o : Option TypeId) (r : Bool) (t : TypeId) → Some (laid_parameter o r) ≡ Some (Variable t true) → r ≡ true
is_reference (Some u) r t is = cc
is_reference None r t is = absurd (cc)

laid_at :
    (fs : List Formal) (k : ℕ) (t : TypeId) → slice_get (laid_parameters fs) k ≡ Some (Variable t true)
    → (f : Formal) × (slice_get fs k ≡ Some f) × (f.reference ≡ true)
laid_at [] k t is = absurd (cc)
laid_at (f ∷ fs) zero t is = (f, refl, is_reference f.t f.reference t is)
laid_at (f ∷ fs) (suc k) t is = laid_at fs k t is

pub keeps_accepts : (facts : Facts) (c : Config) → AllGoBack (program_in facts) c → AllPass (program_in facts) c → KeepsAccepts facts c
keeps_accepts facts c back passed =
    record {
      displays = λ q a child one. first_is (program_in facts) c q a back child one;
      asked = λ q owner entry ticket values hand row k t laid.
          let formal = laid_at (entry_formals (program_in facts) owner entry) k t laid in
          passed q owner entry ticket values hand row k formal.0 formal.1 formal.2;
    }
