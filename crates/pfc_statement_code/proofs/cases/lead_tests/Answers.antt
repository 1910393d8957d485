use Rattle.std.proofs.Common.{◌≡◌, ◌<◌, ◌+◌, true, List, length, drop, get_or, refl, sym, ap, ap₂, ◌∙◌, subst, arith}
use Rattle.std.proofs.lemmas.List.{drop_more}
use Rattle.pfc_tree.specs.trees.Stmts.{ArmTrees}
use Rattle.pfc_tree.specs.views.Stmts.{arms_view}
use Rattle.pfc_expression_code.specs.Putting.{Made}
use Rattle.pfc_statement_code.specs.Arms.{tests_led, have_labels, have_tests}
use Rattle.pfc_statement_code.proofs.Arms.{have_tests-led}
use Rattle.pfc_statement_code.proofs.Leading.{and-left, and-right}
use Rattle.pfc_statement_code.proofs.Nodes.{arm_here}
use Rattle.pfc_statement_code.proofs.cases.lead_tests.Goals as goal

pub lead_labels-at-requires : goal.lead_labels-at-requires
lead_labels-at-requires c =
    let list = c.args.all.now in
    let i = c.loop-a.a-index in
    let a = c.a-item.result in
    let inside : i < length list = omega arith in
    let here = arm_here list i a c.deref.result.now a.stmt.value inside c.a-item.is c.deref.ensures.value refl in
    let code = c.loop-a.code.code in
    and-left (have_labels code c.loop-a.at c.deref.result.now) _
    (subst (λ (x : ArmTrees). have_tests code c.loop-a.at x ≡ true) here c.loop-a.invariant.have)

pub loop-a-preserved : goal.loop-a-preserved
loop-a-preserved c =
    let list = c.args.all.now in
    let i = c.loop-a.a-index in
    let a = c.a-item.result in
    let ls = c.deref.result.now in
    let inside : i < length list = omega arith in
    let here = arm_here list i a ls a.stmt.value inside c.a-item.is c.deref.ensures.value refl in
    let m = c.loop-a.code in
    let at = c.loop-a.at in
    let n = c.loop-a.n in
    let starts = c.args.starts.now in
    let rest = arms_view (drop (i + 1) list) in
    let far : n < length starts = omega arith in
    let start = get_or starts n 0 in
    let first = drop_more starts n 0 far in
    let have = subst (λ (x : ArmTrees). have_tests m.code at x ≡ true) here c.loop-a.invariant.have in
    record {
      code =
          ap₂ (λ (x : Made) k. tests_led x.code k rest (drop (n + 1) starts)) c.lead_labels-at.ensures.code c.lead_labels-at.ensures.next
          ∙ ap₂ (λ (x : ArmTrees) (l : List _). tests_led m.code at x l) (sym here) (sym first) ∙ c.loop-a.invariant.code;
      within = omega arith;
      texts = ap (λ (x : Made). x.texts) c.lead_labels-at.ensures.code ∙ c.loop-a.invariant.texts;
      arms = ap (λ (x : Made). x.arms) c.lead_labels-at.ensures.code ∙ c.loop-a.invariant.arms;
      have =
          ap₂ (λ (x : Made) k. have_tests x.code k rest) c.lead_labels-at.ensures.code c.lead_labels-at.ensures.next
          ∙ have_tests-led m.code at start (at + length ls) ls rest ∙ and-right (have_labels m.code at ls) _ have;
    }
