use Rattle.std.proofs.Common.{refl}
use Rattle.pfc_semantics.specs.Alternatives.{context}
use Rattle.pfc_pending.specs.Waiting.{waiting}
use Rattle.pfc_rewriting.proofs.Waiting.{meets_again}
use Rattle.pfc_rewriting.proofs.going.Going.meet_seconds.Goals as goal

pub returns-in-Err : goal.returns-in-Err
returns-in-Err c = λ t env.
    meets_again (context env c.args.self.now.line) _ _ _ _ _ (c.in-Err.ensures.waits t (waiting t c.args.self.now.pending.items)) refl
    (c.wait_again.ensures t env)
