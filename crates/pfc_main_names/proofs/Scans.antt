-- A program has no more resources than instructions: each has the turn of its scan.
use Rattle.std.proofs.Common.{◌≡◌, ℕ, ◌+◌, ◌≤◌, List, [], ◌∷◌, ◌++◌, length, length-append, arith}
use Rattle.std.proofs.lemmas.List.{length-map}
use Rattle.pfc_tree.specs.trees.Parts.{ProgramTree}
use Rattle.pfc_semantics.specs.Programs.{Program, program_of}
use Rattle.pfc_translation.specs.Images.{statements_code, body_code, Piece, a_body, an_initial, a_resource, pieces, Coded, coded, strings_in, before_main}
use Rattle.pfc_translation.specs.Images.{of_main, size_of, put_from, scans_from, image_of}

fewer_scans : (g : Program) (ps : List Piece) (at number strings : ℕ)
    → length (scans_from at (before_main (coded g number strings ps))) ≤ length (put_from at (before_main (coded g number strings ps)))
fewer_scans g [] at number strings = omega arith
fewer_scans g (a_body b ∷ ps) at number strings =
    let code = body_code g b in
    let rest = fewer_scans g ps (at + code.size) (number + 0) (strings + length code.texts) in
    let both = length-append (code.put at strings) (put_from (at + code.size) (before_main (coded g (number + 0) (strings + length code.texts) ps))) in
    omega (arith, rest, both)
fewer_scans g (an_initial b ∷ ps) at number strings = fewer_scans g ps at (number + 0) (strings + length (statements_code g b).texts)
fewer_scans g (a_resource line ∷ ps) at number strings = let rest = fewer_scans g ps (at + 1) (number + 1) (strings + 0) in omega (arith, rest)

pub few_scans : (t : ProgramTree) → length (image_of t).scans ≤ length (image_of t).code
few_scans t =
    let g = program_of t in
    let parts = coded g 0 0 (pieces g.state 0 1 t.parts) in
    let outer = put_from 0 (before_main parts) in
    let main : Coded = record { piece = a_body g.main; code = body_code g g.main; strings = length (strings_in parts) } in
    let inner = put_from (size_of (before_main parts)) (of_main parts ++ main ∷ []) in
    let few = fewer_scans g (pieces g.state 0 1 t.parts) 0 0 0 in
    let both = length-append outer inner in
    let mapped : length (image_of t).code ≡ length (outer ++ inner) = length-map (outer ++ inner) (λ c. c.0) in
    omega (arith, few, both, mapped)
