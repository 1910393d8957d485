-- Nodes of statements, read part by part, and lists of them.
use Rattle.std.proofs.Common.{◌≡◌, ◌<◌, ◌≤◌, ◌+◌, ℕ, Bool, List, length, drop, get_or, Option, Some, option_map, ap, ap₂, sym, ◌∙◌}
use Rattle.std.proofs.lemmas.List.{drop_more, at_drop_all}
use Rattle.pfc_tree.specs.declared.tree.Constant.{Constant}
use Rattle.std.specs.declared.boxed.Box.{Box}
use Rattle.std.specs.declared.vec.Vec.{Vec}
use Rattle.std.specs.declared.alloc.Global.{Global}
use Rattle.pfc_base.specs.declared.places.Place.{Place}
use Rattle.pfc_tree.specs.declared.tree.Expr.{Expr}
use Rattle.pfc_tree.specs.declared.tree.Stmt as tree
use Rattle.pfc_tree.specs.declared.tree.Comm.TheOpen as layer
use Rattle.pfc_tree.specs.declared.tree.Stmt.TheVariants.{rolls-For, rolls-Accept, rolls-Select}
use Rattle.pfc_tree.specs.declared.tree.Stmt.{Stmt, If, For, Select, fold_out-Stmt, fold-roll-Stmt}
use Rattle.pfc_tree.specs.Symbols.{Text}
use Rattle.pfc_tree.specs.declared.tree.Accept.{Accept}
use Rattle.pfc_tree.specs.declared.tree.CaseArm.{CaseArm, fold_out-CaseArm}
use Rattle.pfc_tree.specs.declared.tree.Alt.{Alt, out-Alt, fold_out-Alt}
use Rattle.pfc_tree.specs.trees.Stmts.{CommTree, StmtTree, AcceptTree, AltTree, BodyTree, ArmTree, arm, alt, if_then_else, for_do, accepting, select_else}
use Rattle.pfc_tree.specs.trees.Stmts.{no_stmts, more_stmts, no_arms, more_arms, no_alts, more_alts}
use Rattle.pfc_tree.specs.views.Exprs.{expr_view}
use Rattle.pfc_tree.specs.views.Stmts.{stmt_view, stmts_view, accept_view, arm_view, arms_view, alt_view, alts_view, comm_view, comm_step, stmt_step}
use Rattle.pfc_tree.specs.views.Stmts.{accept_step, alt_step, body_step, arm_step}

pub arm_view-out : (a : CaseArm) → arm_view a ≡ arm a.labels.items (stmt_view a.stmt.value)
arm_view-out a = fold_out-CaseArm CommTree StmtTree AcceptTree AltTree BodyTree ArmTree comm_step stmt_step accept_step alt_step body_step arm_step a

pub alt_view-out : (a : Alt) → alt_view a ≡ alt (out-Alt a).spread (option_map expr_view (out-Alt a).guard)
    (comm_view (out-Alt a).comm) (stmts_view (out-Alt a).rest.items)
alt_view-out a = fold_out-Alt CommTree StmtTree AcceptTree AltTree BodyTree ArmTree comm_step stmt_step accept_step alt_step body_step arm_step a

choice : (e : Box Expr Global) (then o : Box Stmt Global) (p : Place) →
    stmt_view (If e then (Some o) p) ≡ if_then_else (expr_view e.value) (stmt_view then.value) (stmt_view o.value) p
unfolding tree.out-Stmt denote.Hole.Carrier.out
choice e then o p =
    fold_out-Stmt CommTree StmtTree AcceptTree AltTree BodyTree ArmTree comm_step stmt_step accept_step alt_step body_step arm_step (If e then (Some o) p)

-- a choice of two statements
pub stmt_view-choice :
    (s : Stmt) (e : Box Expr Global) (then : Box Stmt Global) (other : Option (Box Stmt Global)) (o : Box Stmt Global) (p : Place) (test : Expr)
    (one two : Stmt)
    → s ≡ If e then other p → other ≡ Some o → test ≡ e.value → one ≡ then.value → two ≡ o.value
    → stmt_view s ≡ if_then_else (expr_view test) (stmt_view one) (stmt_view two) p
stmt_view-choice s e then other o p test one two is some tested first second =
    ap stmt_view (is ∙ ap (λ (x : Option (Box Stmt Global)). If e then x p) some)
    ∙ choice e then o p
    ∙ ap (λ (x : Expr). if_then_else (expr_view x) (stmt_view then.value) (stmt_view o.value) p) (sym tested)
    ∙ ap₂ (λ (x y : Stmt). if_then_else (expr_view test) (stmt_view x) (stmt_view y) p) (sym first) (sym second)

else_view :
    (pri : Bool) (alts : Vec Alt Global) (o : Vec Stmt Global × Place) (p q : Place)
    → stmt_view (Select pri alts (Some o) p q) ≡ select_else pri (alts_view alts.items) (stmts_view o.0.items) o.1 p q
else_view pri alts o p q =
    ap stmt_view (sym (rolls-Select pri alts (Some o) p q))
    ∙ fold-roll-Stmt CommTree StmtTree AcceptTree AltTree BodyTree ArmTree comm_step stmt_step accept_step alt_step body_step arm_step
    (layer.Select pri alts (Some o) p q)

for_view :
    (x : Text) (a : Box Expr Global) (down : Bool) (b : Box Expr Global) (r : Box Stmt Global) (p q : Place)
    → stmt_view (For x a down b r p q) ≡ for_do x (expr_view a.value) down (expr_view b.value) (stmt_view r.value) p q
for_view x a down b r p q =
    ap stmt_view (sym (rolls-For x a down b r p q))
    ∙ fold-roll-Stmt CommTree StmtTree AcceptTree AltTree BodyTree ArmTree comm_step stmt_step accept_step alt_step body_step arm_step
    (layer.For x a down b r p q)

-- a `for`
pub stmt_view-for :
    (s : Stmt) (x : Text) (a : Box Expr Global) (down : Bool) (b : Box Expr Global) (r : Box Stmt Global) (p q : Place) (low high : Expr) (one : Stmt)
    → s ≡ For x a down b r p q → low ≡ a.value → high ≡ b.value → one ≡ r.value
    → stmt_view s ≡ for_do x (expr_view low) down (expr_view high) (stmt_view one) p q
stmt_view-for s x a down b r p q low high one is first last inner =
    ap stmt_view is ∙ for_view x a down b r p q
    ∙ ap₂ (λ (y z : Expr). for_do x (expr_view y) down (expr_view z) (stmt_view r.value) p q) (sym first) (sym last)
    ∙ ap (λ (y : Stmt). for_do x (expr_view low) down (expr_view high) (stmt_view y) p q) (sym inner)

accepting_view : (a : Accept) (p : Place) → stmt_view (tree.Accept a p) ≡ accepting (accept_view a) p
accepting_view a p =
    ap stmt_view (sym (rolls-Accept a p))
    ∙ fold-roll-Stmt CommTree StmtTree AcceptTree AltTree BodyTree ArmTree comm_step stmt_step accept_step alt_step body_step arm_step
    (layer.Stmt::Accept a p)

-- an accept
pub stmt_view-accept : (s : Stmt) (a : Accept) (p : Place) → s ≡ tree.Accept a p → stmt_view s ≡ accepting (accept_view a) p
stmt_view-accept s a p is = ap stmt_view is ∙ accepting_view a p

-- a select with an else part
pub stmt_view-else :
    (s : Stmt) (pri : Bool) (alts : Vec Alt Global) (other : Option (Vec Stmt Global × Place)) (o : Vec Stmt Global × Place) (p q : Place)
    (bs : List Alt) (ss : List Stmt) → s ≡ Select pri alts other p q → other ≡ Some o → bs ≡ alts.items → ss ≡ o.0.items
    → stmt_view s ≡ select_else pri (alts_view bs) (stmts_view ss) o.1 p q
stmt_view-else s pri alts other o p q bs ss is some first second =
    ap stmt_view (is ∙ ap (λ (x : Option (Vec Stmt Global × Place)). Select pri alts x p q) some)
    ∙ else_view pri alts o p q
    ∙ ap₂ (λ (x : List Alt) (y : List Stmt). select_else pri (alts_view x) (stmts_view y) o.1 p q) (sym first) (sym second)

-- ## The item at a place, and those behind it

pub stmts_here :
    (all : List Stmt) (i : ℕ) (s : Stmt) → i < length all → s ≡ get_or all i s
    → stmts_view (drop i all) ≡ more_stmts (stmt_view s) (stmts_view (drop (i + 1) all))
stmts_here all i s inside here =
    ap stmts_view (drop_more all i s inside) ∙ ap (λ (x : Stmt). more_stmts (stmt_view x) (stmts_view (drop (i + 1) all))) (sym here)

pub arms_here :
    (all : List CaseArm) (i : ℕ) (a : CaseArm) → i < length all → a ≡ get_or all i a
    → arms_view (drop i all) ≡ more_arms (arm a.labels.items (stmt_view a.stmt.value)) (arms_view (drop (i + 1) all))
arms_here all i a inside here =
    ap arms_view (drop_more all i a inside) ∙ ap (λ (x : CaseArm). more_arms (arm_view x) (arms_view (drop (i + 1) all))) (sym here)
    ∙ ap (λ (x : ArmTree). more_arms x (arms_view (drop (i + 1) all))) (arm_view-out a)

-- the same, where its parts were read
pub arm_here :
    (all : List CaseArm) (i : ℕ) (a : CaseArm) (ls : List Constant) (o : Stmt)
    → i < length all → a ≡ get_or all i a → ls ≡ a.labels.items → o ≡ a.stmt.value
    → arms_view (drop i all) ≡ more_arms (arm ls (stmt_view o)) (arms_view (drop (i + 1) all))
arm_here all i a ls o inside here labels inner =
    arms_here all i a inside here
    ∙ ap₂ (λ (x : List Constant) (y : Stmt). more_arms (arm x (stmt_view y)) (arms_view (drop (i + 1) all))) (sym labels) (sym inner)

pub alts_here :
    (all : List Alt) (i : ℕ) (a : Alt) → i < length all → a ≡ get_or all i a
    → alts_view (drop i all) ≡ more_alts (alt_view a) (alts_view (drop (i + 1) all))
alts_here all i a inside here =
    ap alts_view (drop_more all i a inside) ∙ ap (λ (x : Alt). more_alts (alt_view x) (alts_view (drop (i + 1) all))) (sym here)

-- ## None are left

pub stmts_end : (all : List Stmt) (i : ℕ) → length all ≤ i → stmts_view (drop i all) ≡ no_stmts
stmts_end all i past = at_drop_all stmts_view all i past

pub arms_end : (all : List CaseArm) (i : ℕ) → length all ≤ i → arms_view (drop i all) ≡ no_arms
arms_end all i past = at_drop_all arms_view all i past

pub alts_end : (all : List Alt) (i : ℕ) → length all ≤ i → alts_view (drop i all) ≡ no_alts
alts_end all i past = at_drop_all alts_view all i past

pub ruleset alternatives = alt_view-out
