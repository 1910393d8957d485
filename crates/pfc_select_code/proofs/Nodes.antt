-- An alternative and an accept of the text, read part by part.
use Rattle.std.proofs.Common.{◌≡◌, ◌∙◌, option_map, refl, ap, List, Option, Some, None}
use Rattle.std.specs.declared.boxed.Box.{Box}
use Rattle.std.specs.declared.alloc.Global.{Global}
use Rattle.pfc_base.specs.declared.places.Place.{Place}
use Rattle.pfc_tree.specs.Symbols.{Text}
use Rattle.pfc_tree.specs.declared.tree.Accept.{Accept, out-Accept, fold_out-Accept}
use Rattle.pfc_tree.specs.declared.tree.Alt.{Alt, out-Alt, fold_out-Alt}
use Rattle.pfc_tree.specs.trees.Types.{GroupTree}
use Rattle.pfc_tree.specs.trees.Stmts.{CommTree, StmtTree, AcceptTree, AltTree, BodyTree, ArmTree, alt}
use Rattle.pfc_tree.specs.views.Exprs.{expr_view}
use Rattle.pfc_tree.specs.views.Stmts.{accept_of, accept_view, alt_view, comm_view, stmts_view, comm_step, stmt_step, accept_step, alt_step, body_step}
use Rattle.pfc_tree.specs.views.Stmts.{arm_step}
use Rattle.pfc_types.specs.Scopes.{meaning_of}
use Rattle.pfc_types.specs.rules.Expressions.{find}
use Rattle.pfc_semantics.specs.Alternatives.{entry_number}
use Rattle.pfc_translation.specs.Sites.{Site}
use Rattle.pfc_translation.specs.Selects.{entry_of}

pub alt_view-out :
    (a : Alt)
    → alt_view a ≡ alt (out-Alt a).spread (option_map expr_view (out-Alt a).guard) (comm_view (out-Alt a).comm) (stmts_view (out-Alt a).rest.items)
alt_view-out a = fold_out-Alt CommTree StmtTree AcceptTree AltTree BodyTree ArmTree comm_step stmt_step accept_step alt_step body_step arm_step a

entry_of-name :
    (s : Site) (x : Text) (gs : List GroupTree) (o : Option (Box StmtTree Global)) (p : Place)
    → entry_of s (accept_of x gs o p) ≡ entry_number (meaning_of (find s.env x))
entry_of-name s x gs None p = refl
entry_of-name s x gs (Some o) p = refl

pub entry_of-out : (s : Site) (a : Accept) → entry_of s (accept_view a) ≡ entry_number (meaning_of (find s.env (out-Accept a).name))
entry_of-out s a =
    ap (entry_of s) (fold_out-Accept CommTree StmtTree AcceptTree AltTree BodyTree ArmTree comm_step stmt_step accept_step alt_step body_step arm_step a)
    ∙ entry_of-name s _ _ _ _

pub ruleset alternatives = alt_view-out

pub ruleset accepts = entry_of-out
