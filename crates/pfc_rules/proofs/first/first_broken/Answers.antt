-- The finished declarations hold a scope for each number that the walk counts, and they are fewer than 2^32.
use Rattle.std.proofs.Common.{◌≡◌, ◌+◌, length, arith, ap, ◌∙◌}
use Rattle.pfc_tree.specs.views.Parts.{tree_view, parts_view}
use Rattle.pfc_types.specs.Blocks.{Blocks}
use Rattle.pfc_types.specs.rules.Bodies.{parts_scopes}
use Rattle.pfc_types.specs.rules.Statements.{body_scopes}
use Rattle.pfc_types.specs.rules.Whole.{scopes_of}
use Rattle.pfc_tree.specs.trees.Parts.{ProgramTree}
use Rattle.pfc_types.proofs.WalkParts.{scopes_counted}
use Rattle.pfc_rules.proofs.first.first_broken.Goals as goal

-- the scopes that the tree makes are those that the walk counts
all_scopes : (t : ProgramTree) (b : Blocks) → b ≡ scopes_of t → length b.scopes ≡ 1 + parts_scopes t.parts + body_scopes t.body
all_scopes t b made = ap (λ b. length b.scopes) made ∙ scopes_counted t

pub parts-next-requires : goal.parts-next-requires
parts-next-requires c =
    let t = tree_view c.args.tree.now in
    let all = all_scopes t c.args.scopes.now c.requires.scopes in
    let same : parts_scopes (parts_view c.deref.result.now) ≡ parts_scopes t.parts = ap (λ qs. parts_scopes (parts_view qs)) c.deref.ensures.value in
    omega arith

pub block_body-end-requires : goal.block_body-end-requires
block_body-end-requires c =
    let t = tree_view c.args.tree.now in
    let all = all_scopes t c.args.scopes.now c.requires.scopes in
    let same : parts_scopes (parts_view c.deref.result.now) ≡ parts_scopes t.parts = ap (λ qs. parts_scopes (parts_view qs)) c.deref.ensures.value in
    omega arith

pub prove-unreachable-requires : goal.prove-unreachable-requires
prove-unreachable-requires c =
    let t = tree_view c.args.tree.now in
    let all = all_scopes t c.args.scopes.now c.requires.scopes in
    let same : parts_scopes (parts_view c.deref.result.now) ≡ parts_scopes t.parts = ap (λ qs. parts_scopes (parts_view qs)) c.deref.ensures.value in
    omega arith
