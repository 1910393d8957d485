-- The arms still to come decide, with the number behind those before them.
use Rattle.std.proofs.Common.{◌≡◌, ℕ, drop}
use Rattle.pfc_tree.specs.views.Stmts.{arms_view}
use Rattle.pfc_semantics.specs.Remainders.{Remainder, Action}
use Rattle.pfc_semantics.specs.Alternatives.{context}
use Rattle.pfc_semantics.specs.Statements.{from_arms}
use Rattle.pfc_phrases.specs.Views.{env_view}
use Rattle.pfc_frequent_parts.proofs.arms.arm_with.Given as goal

abbrev pub invariant-loop-arm : goal.invariant-loop-arm
invariant-loop-arm l =
    (line : ℕ) (k : Remainder) (go : Action)
    → from_arms (context (env_view l.env) line) l.next l.v (arms_view (drop l.arm-index l.arms)) k go
    ≡ from_arms (context (env_view l.env) line) l.fn.n l.v (arms_view l.arms) k go
