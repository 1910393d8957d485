use Rattle.std.proofs.Common.{rules, ◌≡◌, get_or, FitsSigned, w32, to_z, of_z, sym, ap, ◌∙◌, subst}
use Rattle.std.proofs.lemmas.Int.{to_z-of_z}
use Rattle.pfc_world.specs.Holders.{Held, held_in}
use Rattle.pfc_world.specs.Monitors.{delayed}
use Rattle.pfc_waiting.specs.Waiting.{HasActed}
use Rattle.pfc_waiting.proofs.Turns.{delayed_once, delayed_acts}
use Rattle.pfc_waiting.proofs.rules.delay_by.Goals as goal

-- the rank that is waited with is the rank that was given
same : (c : goal.After-delay) → to_z w32 (of_z w32 c.args.rank) ≡ c.args.rank
same c = let fits : FitsSigned w32 c.args.rank = search rules in to_z-of_z w32 c.args.rank fits

rule : (c : goal.After-delay)
    → held_in c.delay.new.world c.delay.new.mons.holders
    ≡ delayed (held_in c.args.world.now c.args.mons.now.holders) c.args.p (get_or c.args.mons.now.owners c.args.c 0) c.args.c c.args.rank
rule c =
    delayed_once c.args.world.now c.begin-r.new.self c.delay.new.world c.args.mons.now.holders c.delay.new.mons.holders c.args.p c.begin-r.result.number
    (get_or c.args.mons.now.owners c.args.c 0) c.args.c (to_z w32 (of_z w32 c.args.rank)) c.begin-r.ensures.number c.begin-r.ensures.world c.delay.ensures.table
    ∙ ap (delayed (held_in c.args.world.now c.args.mons.now.holders) c.args.p (get_or c.args.mons.now.owners c.args.c 0) c.args.c) (same c)

pub returns-clause-rule : goal.returns-clause-rule
returns-clause-rule c = rule c

pub returns-clause-acted : goal.returns-clause-acted
returns-clause-acted c =
    subst (λ (h : Held). HasActed c.args.world.now h.table) (sym (rule c))
    (delayed_acts c.args.world.now c.args.mons.now.holders c.args.p (get_or c.args.mons.now.owners c.args.c 0) c.args.c c.args.rank)
