-- The program's trees read as shapes: read as a plain tree, and the places forgotten.
use Rattle.std.specs.Prelude.{List, map}
use Rattle.std.specs.declared.vec.Vec.{Vec}
use Rattle.std.specs.declared.alloc.Global.{Global}
use Rattle.pfc_base.specs.declared.names.Name.{Name}
use Rattle.pfc_base.specs.declared.places.Place.{Place}
use Rattle.pfc_tree.specs.Symbols.{Text}
use Rattle.pfc_tree.specs.declared.tree.AddOp.{AddOp}
use Rattle.pfc_tree.specs.declared.tree.MulOp.{MulOp}
use Rattle.pfc_tree.specs.declared.tree.Factor.{Factor}
use Rattle.pfc_tree.specs.declared.tree.Selector.{Selector}
use Rattle.pfc_tree.specs.declared.tree.Actual.{Actual}
use Rattle.pfc_tree.specs.declared.tree.Desig.{Desig}
use Rattle.pfc_tree.specs.declared.tree.Expr.{Expr}
use Rattle.pfc_tree.specs.declared.tree.Simple.{Simple}
use Rattle.pfc_tree.specs.declared.tree.Term.{Term}
use Rattle.pfc_tree.specs.declared.tree.TypeNode.{TypeNode}
use Rattle.pfc_tree.specs.declared.tree.VarItem.{VarItem}
use Rattle.pfc_tree.specs.declared.tree.TypeItem.{TypeItem}
use Rattle.pfc_tree.specs.declared.tree.Group.{Group}
use Rattle.pfc_tree.specs.declared.tree.Comm.{Comm}
use Rattle.pfc_tree.specs.declared.tree.Stmt.{Stmt}
use Rattle.pfc_tree.specs.declared.tree.Accept.{Accept}
use Rattle.pfc_tree.specs.declared.tree.Alt.{Alt}
use Rattle.pfc_tree.specs.declared.tree.Body.{Body}
use Rattle.pfc_tree.specs.declared.tree.CaseArm.{CaseArm}
use Rattle.pfc_tree.specs.declared.tree.SubKind.{SubKind}
use Rattle.pfc_tree.specs.declared.tree.Entry.{Entry}
use Rattle.pfc_tree.specs.declared.tree.Part.{Part}
use Rattle.pfc_tree.specs.declared.tree.Sub.{Sub}
use Rattle.pfc_tree.specs.declared.tree.Module.{Module}
use Rattle.pfc_tree.specs.declared.tree.Process.{Process}
use Rattle.pfc_tree.specs.declared.tree.Tree.{Tree}
use Rattle.pfc_tree.specs.shapes.Exprs.{ExprShape, ExprShapes, SimpleShape, SummandShapes, TermShape, MultiplierShapes, FactorShape, DesigShape, SelectorShape}
use Rattle.pfc_tree.specs.shapes.Exprs.{SelectorShapes, ActualShape, ActualShapes}
use Rattle.pfc_tree.specs.shapes.Types.{TypeShape, VarShape, VarShapes, TypeItemShape, GroupShape}
use Rattle.pfc_tree.specs.shapes.Stmts.{StmtShape, StmtShapes, BodyShape, ArmShape, ArmShapes, AcceptShape, AltShape, AltShapes, CommShape}
use Rattle.pfc_tree.specs.shapes.Parts.{KindShape, EntryShape, PartShape, PartShapes, SubShape, ModuleShape, ProcessShape, ProgramShape}
use Rattle.pfc_tree.specs.forget.Exprs.{forget_expr, forget_exprs, forget_simple, forget_summands, forget_term, forget_multipliers, forget_factor, forget_desig}
use Rattle.pfc_tree.specs.forget.Exprs.{forget_selector, forget_selectors, forget_actual, forget_actuals}
use Rattle.pfc_tree.specs.forget.Types.{bare, forget_type, forget_var, forget_vars, forget_type_item, forget_group}
use Rattle.pfc_tree.specs.forget.Stmts.{forget_stmt, forget_stmts, forget_body, forget_arm, forget_arms, forget_accept, forget_alt, forget_alts, forget_comm}
use Rattle.pfc_tree.specs.forget.Parts.{forget_kind, forget_entry, forget_part, forget_parts, forget_sub, forget_module, forget_process, forget_program}
use Rattle.pfc_tree.specs.views.Exprs.{expr_view, exprs_view, simple_view, summands_view, term_view, multipliers_view, factor_view, desig_view, selector_view}
use Rattle.pfc_tree.specs.views.Exprs.{selectors_view, actual_view, actuals_view}
use Rattle.pfc_tree.specs.views.Types.{type_view, var_view, vars_view, type_item_view, group_view}
use Rattle.pfc_tree.specs.views.Stmts.{stmt_view, stmts_view, body_view, arm_view, arms_view, accept_view, alt_view, alts_view, comm_view}
use Rattle.pfc_tree.specs.views.Parts.{kind_view, entry_view, part_view, parts_view, sub_view, module_view, process_view, tree_view}

abbrev pub expr_shape : Expr → ExprShape
expr_shape e = forget_expr (expr_view e)

abbrev pub exprs_shape : List Expr → ExprShapes
exprs_shape es = forget_exprs (exprs_view es)

abbrev pub simple_shape : Simple → SimpleShape
simple_shape s = forget_simple (simple_view s)

abbrev pub summands_shape : List ((AddOp × Place) × Term) → SummandShapes
summands_shape us = forget_summands (summands_view us)

abbrev pub term_shape : Term → TermShape
term_shape t = forget_term (term_view t)

abbrev pub multipliers_shape : List ((MulOp × Place) × Factor) → MultiplierShapes
multipliers_shape ms = forget_multipliers (multipliers_view ms)

abbrev pub factor_shape : Factor → FactorShape
factor_shape f = forget_factor (factor_view f)

abbrev pub desig_shape : Desig → DesigShape
desig_shape d = forget_desig (desig_view d)

abbrev pub selector_shape : Selector → SelectorShape
selector_shape s = forget_selector (selector_view s)

abbrev pub selectors_shape : List Selector → SelectorShapes
selectors_shape ss = forget_selectors (selectors_view ss)

abbrev pub actual_shape : Actual → ActualShape
actual_shape a = forget_actual (actual_view a)

abbrev pub actuals_shape : List Actual → ActualShapes
actuals_shape args = forget_actuals (actuals_view args)

abbrev pub type_shape : TypeNode → TypeShape
type_shape t = forget_type (type_view t)

abbrev pub var_shape : VarItem → VarShape
var_shape v = forget_var (var_view v)

abbrev pub vars_shape : List VarItem → VarShapes
vars_shape vs = forget_vars (vars_view vs)

abbrev pub type_item_shape : TypeItem → TypeItemShape
type_item_shape i = forget_type_item (type_item_view i)

abbrev pub type_items_shape : List TypeItem → List TypeItemShape
type_items_shape items = map forget_type_item (map type_item_view items)

abbrev pub group_shape : Group → GroupShape
group_shape g = forget_group (group_view g)

abbrev pub groups_shape : List Group → List GroupShape
groups_shape gs = map forget_group (map group_view gs)

abbrev pub stmt_shape : Stmt → StmtShape
stmt_shape s = forget_stmt (stmt_view s)

abbrev pub stmts_shape : List Stmt → StmtShapes
stmts_shape ss = forget_stmts (stmts_view ss)

abbrev pub body_shape : Body → BodyShape
body_shape b = forget_body (body_view b)

abbrev pub arm_shape : CaseArm → ArmShape
arm_shape a = forget_arm (arm_view a)

abbrev pub arms_shape : List CaseArm → ArmShapes
arms_shape arms = forget_arms (arms_view arms)

abbrev pub accept_shape : Accept → AcceptShape
accept_shape a = forget_accept (accept_view a)

abbrev pub alt_shape : Alt → AltShape
alt_shape a = forget_alt (alt_view a)

abbrev pub alts_shape : List Alt → AltShapes
alts_shape alts = forget_alts (alts_view alts)

abbrev pub comm_shape : Comm → CommShape
comm_shape c = forget_comm (comm_view c)

abbrev pub kind_shape : SubKind → KindShape
kind_shape k = forget_kind (kind_view k)

abbrev pub exports_shape : List (Vec (Name × Place) Global) → List (List Text)
exports_shape es = map bare (map (λ xs. xs.items) es)

abbrev pub entries_shape : List Entry → List EntryShape
entries_shape ns = map forget_entry (map entry_view ns)

abbrev pub part_shape : Part → PartShape
part_shape q = forget_part (part_view q)

abbrev pub parts_shape : List Part → PartShapes
parts_shape qs = forget_parts (parts_view qs)

abbrev pub sub_shape : Sub → SubShape
sub_shape s = forget_sub (sub_view s)

abbrev pub module_shape : Module → ModuleShape
module_shape m = forget_module (module_view m)

abbrev pub process_shape : Process → ProcessShape
process_shape q = forget_process (process_view q)

-- the shape of a program's tree
abbrev pub tree_shape : Tree → ProgramShape
tree_shape t = forget_program (tree_view t)
