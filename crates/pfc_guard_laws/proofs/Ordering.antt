-- Calls, ends and requeues keep the order of activations.
use Rattle.std.proofs.Common.{◌≡◌, ℕ, List, [], ◌∷◌, Option, Some, None, refl, sym, ◌∙◌, subst}
use Rattle.pfc_types.specs.rules.Expressions.{Env}
use Rattle.pfc_semantics.specs.Remainders.{Remainder}
use Rattle.pfc_semantics.specs.Configurations.{Mark, plain, of_nobody, of_remainder, Activation}
use Rattle.pfc_guard_laws.specs.Tops.{Tops, StandsIn, ComesBefore, Comes, Beside, IsOrdered, Lives}
use Rattle.pfc_guard_laws.specs.Configurations.{StandsOn, scope_in}

pub none_ordered : (tops : Option Tops) → IsOrdered tops []
none_ordered None = tt
none_ordered (Some tops) = (tt, tt)

never : (env : Env) (k : Remainder) → of_nobody ≡ of_remainder env k → ⊥
never env k e = cc

-- the first activation of a process
pub first_ordered : (tops : Option Tops) (a : Activation) → a.mark ≡ plain → a.caller ≡ of_nobody → IsOrdered tops (a ∷ [])
first_ordered None a marked called = tt
first_ordered (Some tops) a marked called =
    (subst (λ (m : Mark). StandsIn tops m (tops.of_scope a.scope)) (sym marked) tt, λ env k e. never env k (sym called ∙ e))

-- one that is called
pub called_ordered :
    (tops : Option Tops) (own l : List Activation) (new : Activation) → StandsOn own l → Lives tops l → IsOrdered tops l
    → Comes tops new.mark new.scope (scope_in own) → IsOrdered tops (new ∷ l)
called_ordered None own l new stands lives so comes = tt
called_ordered (Some tops) own [] new stands lives so comes = absurd (lives refl)
called_ordered (Some tops) own (b ∷ rest) new stands lives so comes = (
  (
    comes.0,
    subst (λ (l : List Activation). ComesBefore new.mark (tops.of_scope new.scope) (tops.of_scope (scope_in l))) stands comes.1,
    so.0,
  ),
  so.1,
)

-- those below one that ends
pub below_ordered : (tops : Option Tops) (a : Activation) (below : List Activation) → IsOrdered tops (a ∷ below) → IsOrdered tops below
below_ordered None a below so = tt
below_ordered (Some tops) a [] so = (tt, tt)
below_ordered (Some tops) a (b ∷ rest) so = (so.0.2, so.1)

-- one that takes another's place
pub replaced_ordered :
    (tops : Option Tops) (a : Activation) (below : List Activation) (number i cells : ℕ) → Beside tops i a.scope → IsOrdered tops (a ∷ below)
    → IsOrdered tops (record a { number = number; scope = i; cells = cells } ∷ below)
replaced_ordered None a below number i cells beside so = tt
replaced_ordered (Some tops) a [] number i cells beside so = (subst (λ (n : ℕ). StandsIn tops a.mark n) (sym beside) so.0, so.1)
replaced_ordered (Some tops) a (b ∷ rest) number i cells beside so = (
  (
    subst (λ (n : ℕ). StandsIn tops a.mark n) (sym beside) so.0.0,
    subst (λ (n : ℕ). ComesBefore a.mark n (tops.of_scope b.scope)) (sym beside) so.0.1,
    so.0.2,
  ),
  so.1,
)
