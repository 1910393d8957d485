-- An alternative of the text, read part by part.
use Rattle.std.proofs.Common.{◌≡◌, option_map, ap}
use Rattle.pfc_tree.specs.declared.tree.Alt.{Alt, out-Alt, fold_out-Alt}
use Rattle.pfc_tree.specs.trees.Stmts.{CommTree, StmtTree, AcceptTree, AltTree, BodyTree, ArmTree, alt}
use Rattle.pfc_tree.specs.views.Exprs.{expr_view}
use Rattle.pfc_tree.specs.views.Stmts.{alt_view, comm_view, stmts_view, comm_step, stmt_step, accept_step, alt_step, body_step, arm_step}
use Rattle.pfc_pending.specs.Selects.{guard_of, comm_of, behind_of}
use Rattle.pfc_select_steps.specs.Gone.{spread_of}

alt_view-out : (a : Alt) → alt_view a ≡ alt (out-Alt a).spread (option_map expr_view (out-Alt a).guard)
    (comm_view (out-Alt a).comm) (stmts_view (out-Alt a).rest.items)
alt_view-out a = fold_out-Alt CommTree StmtTree AcceptTree AltTree BodyTree ArmTree comm_step stmt_step accept_step alt_step body_step arm_step a

pub spread_of-out : (a : Alt) → spread_of (alt_view a) ≡ (out-Alt a).spread
spread_of-out a = ap spread_of (alt_view-out a)

pub guard_of-out : (a : Alt) → guard_of (alt_view a) ≡ option_map expr_view (out-Alt a).guard
guard_of-out a = ap guard_of (alt_view-out a)

pub comm_of-out : (a : Alt) → comm_of (alt_view a) ≡ comm_view (out-Alt a).comm
comm_of-out a = ap comm_of (alt_view-out a)

pub behind_of-out : (a : Alt) → behind_of (alt_view a) ≡ stmts_view (out-Alt a).rest.items
behind_of-out a = ap behind_of (alt_view-out a)

pub ruleset nodes = (spread_of-out, guard_of-out, comm_of-out, behind_of-out)
