use Rattle.std.proofs.Common.{◌≡◌, ◌<◌, ◌≤◌, ◌+◌, List, ◌∷◌, length, drop, ap, sym, subst, ◌∙◌, arith}
use Rattle.std.proofs.lemmas.List.{drop_more, at_drop_all}
use Rattle.pfc_code.specs.declared.instructions.Instr.TheVariants.{CEQ}
use Rattle.pfc_tree.specs.declared.tree.Constant.{Constant}
use Rattle.pfc_types.specs.rules.Constants.{constant_value}
use Rattle.pfc_translation.specs.Codes.{Code, one}
use Rattle.pfc_translation.specs.Statements.{label_of}
use Rattle.pfc_addresses.specs.Sites.{site_view}
use Rattle.pfc_expression_code.specs.Putting.{IsMade}
use Rattle.pfc_statement_code.specs.Arms.{open_labels}
use Rattle.pfc_statement_code.proofs.Loops.{IsOnTheWay, way_begins, way_goes, way_ends, way_large, refused}
use Rattle.pfc_statement_code.proofs.cases.labels.Goals as goal

pub loop-l-init : goal.loop-l-init
loop-l-init c = way_begins (open_labels (site_view c.args.site) c.args.ls.now) c.args.code.now

pub loop-l-preserved : goal.loop-l-preserved
loop-l-preserved c =
    let s = site_view c.args.site in
    let ls = c.args.ls.now in
    let i = c.loop-l.l-index in
    let l = c.l-item.result in
    let all = open_labels s ls in
    let rest = open_labels s (drop (i + 1) ls) in
    let inside : i < length ls = omega arith in
    let here : drop i ls ≡ l ∷ drop (i + 1) ls = drop_more ls i l inside ∙ ap (λ (x : Constant). x ∷ drop (i + 1) ls) (sym c.l-item.is) in
    let test = one s (CEQ (label_of (constant_value s.env.state.blocks.scopes s.env.view l)) 0) in
    way_goes test rest all c.args.code.now c.loop-l.code c.put.new.self
    (subst (λ (x : List Constant). IsOnTheWay (open_labels s x) all c.args.code.now c.loop-l.code) here c.loop-l.invariant)
    (subst (λ i. IsMade (one s i) c.loop-l.code c.put.new.self) c.label_test.ensures c.in_ok-put.ensures.code)

pub returns-in_err-put-clause-large : goal.returns-in_err-put-clause-large
returns-in_err-put-clause-large c =
    let s = site_view c.args.site in
    let ls = c.args.ls.now in
    let i = c.loop-l.l-index in
    let l = c.l-item.result in
    let all = open_labels s ls in
    let rest = open_labels s (drop (i + 1) ls) in
    let inside : i < length ls = omega arith in
    let here : drop i ls ≡ l ∷ drop (i + 1) ls = drop_more ls i l inside ∙ ap (λ (x : Constant). x ∷ drop (i + 1) ls) (sym c.l-item.is) in
    let test = one s (CEQ (label_of (constant_value s.env.state.blocks.scopes s.env.view l)) 0) in
    refused c.from_residual.result c.in_err-put.field-0.0 all c.args.code.now c.from_residual.ensures.1
    (λ full. way_large test rest all c.args.code.now c.loop-l.code
    (subst (λ (x : List Constant). IsOnTheWay (open_labels s x) all c.args.code.now c.loop-l.code) here c.loop-l.invariant)
    (c.in_err-put.ensures.large full))

pub returns-clause-code : goal.returns-clause-code
returns-clause-code c =
    let s = site_view c.args.site in
    let ls = c.args.ls.now in
    let past : length ls ≤ c.loop-l.l-index = omega arith in
    way_ends (open_labels s ls) c.args.code.now c.loop-l.code
    (subst (λ (x : Code). IsOnTheWay x (open_labels s ls) c.args.code.now c.loop-l.code)
    (at_drop_all (λ (x : List Constant). open_labels s x) ls c.loop-l.l-index past) c.loop-l.invariant)
