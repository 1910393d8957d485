use Rattle.std.proofs.Common.{◌≡◌, ◌∙◌, ◌<◌, ◌++◌, true, List, length, sym, ap, arith, rules}
use Rattle.std.proofs.lemmas.List.{map-append}
use Rattle.pfc_tree.specs.views.Parts.{part_view}
use Rattle.pfc_translation.specs.Images.{Piece as Plain}
use Rattle.pfc_generator.specs.Pieces.{has_initial}
use Rattle.pfc_generator.specs.Views.{piece_view, pieces_view}
use Rattle.pfc_generator.specs.declared.pieces.Piece.{Piece}
use Rattle.pfc_generator.proofs.BlockPieces.{initial_there, behind_there}
use Rattle.pfc_generator.proofs.pieces.add_initial.Goals as goal

pub returns-clause-pieces : goal.returns-clause-pieces
returns-clause-pieces c =
    let tables = c.args.program.now.tables in
    let modules = c.args.program.now.modules.items in
    let there : has_initial (part_view c.args.p.now) ≡ true = search rules in
    let within : c.args.before < length modules = omega (arith, c.if-before-len.false, c.len.ensures) in
    ap (pieces_view tables) c.in_ok-push.ensures.items
    ∙ map-append (λ (x : Piece). piece_view tables x) c.args.all.now.items _
    ∙ ap (λ (l : List Plain). pieces_view tables c.args.all.now.items ++ l)
    (sym (initial_there tables modules c.args.before c.index.result.now within c.index.ensures (has_initial (part_view c.args.p.now)) there))

pub returns-clause-behind : goal.returns-clause-behind
returns-clause-behind c =
    let tables = c.args.program.now.tables in
    let modules = c.args.program.now.modules.items in
    let there : has_initial (part_view c.args.p.now) ≡ true = search rules in
    let within : c.args.before < length modules = omega (arith, c.if-before-len.false, c.len.ensures) in
    sym (behind_there tables modules c.args.before c.index.result.now within c.index.ensures (has_initial (part_view c.args.p.now)) there)
