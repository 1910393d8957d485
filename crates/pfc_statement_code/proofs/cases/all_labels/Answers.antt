use Rattle.std.proofs.Common.{◌<◌, ◌≤◌, ◌+◌, length, drop, refl, subst, arith}
use Rattle.pfc_tree.specs.trees.Stmts.{ArmTrees}
use Rattle.pfc_tree.specs.views.Stmts.{arms_view}
use Rattle.pfc_addresses.specs.Sites.{site_view}
use Rattle.pfc_statement_code.specs.Arms.{open_labels, open_tests}
use Rattle.pfc_statement_code.proofs.Loops.{IsOnTheWay, way_begins, way_goes, way_ends, way_large, refused}
use Rattle.pfc_statement_code.proofs.Nodes.{arm_here, arms_end}
use Rattle.pfc_statement_code.proofs.cases.all_labels.Goals as goal

pub loop-a-init : goal.loop-a-init
loop-a-init c = way_begins (open_tests (site_view c.args.site) (arms_view c.args.all.now)) c.args.code.now

pub loop-a-preserved : goal.loop-a-preserved
loop-a-preserved c =
    let s = site_view c.args.site in
    let list = c.args.all.now in
    let i = c.loop-a.a-index in
    let a = c.a-item.result in
    let inside : i < length list = omega arith in
    let here = arm_here list i a c.deref.result.now a.stmt.value inside c.a-item.is c.deref.ensures.value refl in
    let all = open_tests s (arms_view list) in
    way_goes (open_labels s c.deref.result.now) (open_tests s (arms_view (drop (i + 1) list))) all c.args.code.now c.loop-a.code c.labels.new.code
    (subst (λ (x : ArmTrees). IsOnTheWay (open_tests s x) all c.args.code.now c.loop-a.code) here c.loop-a.invariant)
    c.in_ok-labels.ensures.code

pub returns-in_err-labels-clause-large : goal.returns-in_err-labels-clause-large
returns-in_err-labels-clause-large c =
    let s = site_view c.args.site in
    let list = c.args.all.now in
    let i = c.loop-a.a-index in
    let a = c.a-item.result in
    let inside : i < length list = omega arith in
    let here = arm_here list i a c.deref.result.now a.stmt.value inside c.a-item.is c.deref.ensures.value refl in
    let all = open_tests s (arms_view list) in
    refused c.from_residual.result c.in_err-labels.field-0.0 all c.args.code.now c.from_residual.ensures.1
    (λ full. way_large (open_labels s c.deref.result.now) (open_tests s (arms_view (drop (i + 1) list))) all c.args.code.now c.loop-a.code
    (subst (λ (x : ArmTrees). IsOnTheWay (open_tests s x) all c.args.code.now c.loop-a.code) here c.loop-a.invariant)
    (c.in_err-labels.ensures.large full))

pub returns-clause-code : goal.returns-clause-code
returns-clause-code c =
    let s = site_view c.args.site in
    let list = c.args.all.now in
    let past : length list ≤ c.loop-a.a-index = omega arith in
    let all = open_tests s (arms_view list) in
    way_ends all c.args.code.now c.loop-a.code
    (subst (λ (x : ArmTrees). IsOnTheWay (open_tests s x) all c.args.code.now c.loop-a.code) (arms_end list c.loop-a.a-index past) c.loop-a.invariant)
