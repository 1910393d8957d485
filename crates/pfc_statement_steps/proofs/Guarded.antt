-- The guard of the own procedure, over the names of that procedure's body.
use Rattle.std.proofs.Common.{◌≡◌, sym, subst}
use Rattle.pfc_types.specs.rules.Expressions.{Env}
use Rattle.pfc_semantics.specs.Remainders.{Bar, Remainder, in_names, try_guard, pass_own}
use Rattle.pfc_semantics.specs.Expressions.{from_expr}
use Rattle.pfc_semantics.specs.Rewriting.{from_remainder, from_value}
use Rattle.pfc_statement_steps.proofs.Rules.{own_step}

pub own_here :
    (env names : Env) (b : Bar) (k below : Remainder)
    → below ≡ in_names names k
    → from_expr b.context b.test (pass_own b below) (from_value b.context (pass_own b below)) ≡ from_remainder env (try_guard b below)
own_here env names b k below is =
    subst (λ (x : Remainder). from_expr b.context b.test (pass_own b x) (from_value b.context (pass_own b x)) ≡ from_remainder env
    (try_guard b x)) (sym is) (own_step env names b k)
