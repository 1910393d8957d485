-- The code of a program has as many instructions as are counted for it.
use Rattle.std.proofs.Common.{◌≡◌, ◌+◌, ◌++◌, ℕ, false, List, [], ◌∷◌, length, map, Option, Some, None, refl, ap, ◌∙◌, sym, arith, length-append, zero-add}
use Rattle.std.proofs.lemmas.List.{length-map}
use Rattle.pfc_tree.specs.trees.Parts.{PartTree, PartTrees, ProgramTree, consts, types, vars, sub_part, monitor, resource, process_part, no_parts, more_parts}
use Rattle.pfc_types.specs.Blocks.{Blocks, State}
use Rattle.pfc_types.specs.Scopes.{scope_at}
use Rattle.pfc_types.specs.rules.Bodies.{passed_part, part_scopes}
use Rattle.pfc_semantics.specs.Programs.{Block, Guard, Program, part_blocks, parts_blocks, part_inits, parts_inits, ends_of_resources, program_of}
use Rattle.pfc_translation.specs.Sites.{Site}
use Rattle.pfc_translation.specs.Images.{Piece, a_body, an_initial, a_resource, Coded, site_in, guard_code, statements_code, body_code, resource_end, pieces}
use Rattle.pfc_translation.specs.Images.{coded, before_main, of_main, size_of, put_from, strings_in, image_over, image_of}
use Rattle.pfc_program.specs.declared.program.Program.{Program as Known}
use Rattle.pfc_program.specs.Views.{tables_view, block_view, blocks_view}
use Rattle.pfc_code_size.specs.Programs.{guard_size, statements_size, body_size, bodies_size, initials_size, all_size, program_size, known_size}
use Rattle.pfc_code_size.proofs.Lengths.{expr_length}
use Rattle.pfc_code_size.proofs.StatementLengths.{stmts_length}

-- ## Bodies

guard_length : (g : Program) (b : Block) (guard : Option Guard) (at n : ℕ) → length ((guard_code g b guard).put at n) ≡ guard_size g.state.blocks guard
guard_length g b None at n = refl
guard_length g b (Some guard) at n =
    let s : Site = record { program = g; block = b; env = guard.env; line = guard.line } in grind (arith, length-append, expr_length s guard.test)

statements_length : (g : Program) (b : Block) (at n : ℕ) → length ((statements_code g b).put at n) ≡ statements_size g.state.blocks b
statements_length g b at n = stmts_length (site_in g b) b.next b.stmts at n

body_length : (g : Program) (b : Block) (at n : ℕ) → length ((body_code g b).put at n) ≡ body_size g.state.blocks b
body_length g b at n = grind (arith, length-append, guard_length g b b.guard, statements_length g b)

-- ## Pieces

abbrev piece_size : Blocks → Piece → ℕ
piece_size b (a_body block) = body_size b block
piece_size b (an_initial block) = statements_size b block
piece_size b (a_resource line) = 1

abbrev pieces_size : Blocks → List Piece → ℕ
pieces_size b [] = 0
pieces_size b (p ∷ ps) = piece_size b p + pieces_size b ps

-- what stands before main's code, and what stands in it
all_put :
    (g : Program) (number strings : ℕ) (ps : List Piece) (outer inner : ℕ)
    → length (put_from outer (before_main (coded g number strings ps))) + length
    (put_from inner (of_main (coded g number strings ps))) ≡ pieces_size g.state.blocks ps
all_put g number strings [] outer inner = refl
all_put g number strings (a_body b ∷ ps) outer inner =
    let c = body_code g b in
    let behind = coded g (number + 0) (strings + length c.texts) ps in
    let both = length-append (c.put outer strings) (put_from (outer + c.size) (before_main behind)) in
    let first = body_length g b outer strings in
    let rest = all_put g (number + 0) (strings + length c.texts) ps (outer + c.size) inner in
    omega arith
all_put g number strings (an_initial b ∷ ps) outer inner =
    let c = statements_code g b in
    let behind = coded g (number + 0) (strings + length c.texts) ps in
    let both = length-append (c.put inner strings) (put_from (inner + c.size) (of_main behind)) in
    let first = statements_length g b inner strings in
    let rest = all_put g (number + 0) (strings + length c.texts) ps outer (inner + c.size) in
    omega arith
all_put g number strings (a_resource line ∷ ps) outer inner =
    let rest = all_put g (number + 1) (strings + 0) ps (outer + 1) inner in omega arith

main_behind :
    (at : ℕ) (cs : List Coded) (main : Coded) (k : ℕ) → ((i n : ℕ) → length (main.code.put i n) ≡ k)
    → length (put_from at (cs ++ main ∷ [])) ≡ length (put_from at cs) + k
main_behind at [] main k is =
    let both = length-append (main.code.put at main.strings) [] in
    let here = is at main.strings in omega arith
main_behind at (c ∷ cs) main k is =
    let both = length-append (c.code.put at c.strings) (put_from (at + c.code.size) (cs ++ main ∷ [])) in
    let alone = length-append (c.code.put at c.strings) (put_from (at + c.code.size) cs) in
    let rest = main_behind (at + c.code.size) cs main k is in omega arith

image_length :
    (g : Program) (t : ProgramTree) → length (image_over g t).code ≡ pieces_size g.state.blocks (pieces g.state 0 1 t.parts) + body_size g.state.blocks g.main
image_length g t =
    let parts = coded g 0 0 (pieces g.state 0 1 t.parts) in
    let main : Coded = record { piece = a_body g.main; code = body_code g g.main; strings = length (strings_in parts) } in
    let at = size_of (before_main parts) in
    let outer = put_from 0 (before_main parts) in
    let inner = put_from at (of_main parts ++ main ∷ []) in
    let whole = length-map (outer ++ inner) (λ c. c.0) in
    let both = length-append outer inner in
    let behind = main_behind at (of_main parts) main (body_size g.state.blocks g.main) (body_length g g.main) in
    let pieces_put = all_put g 0 0 (pieces g.state 0 1 t.parts) 0 at in
    omega arith

-- ## All pieces

pieces_both : (b : Blocks) (xs ys : List Piece) → pieces_size b (xs ++ ys) ≡ pieces_size b xs + pieces_size b ys
pieces_both b [] ys = sym (zero-add (pieces_size b ys))
pieces_both b (x ∷ xs) ys = let rest = pieces_both b xs ys in omega arith

bodies_both : (b : Blocks) (xs ys : List Block) → bodies_size b (xs ++ ys) ≡ bodies_size b xs + bodies_size b ys
bodies_both b [] ys = sym (zero-add (bodies_size b ys))
bodies_both b (x ∷ xs) ys = let rest = bodies_both b xs ys in omega arith

initials_both : (b : Blocks) (xs ys : List Block) → initials_size b (xs ++ ys) ≡ initials_size b xs + initials_size b ys
initials_both b [] ys = sym (zero-add (initials_size b ys))
initials_both b (x ∷ xs) ys = let rest = initials_both b xs ys in omega arith

bodies_pieces : (b : Blocks) (xs : List Block) → pieces_size b (map a_body xs) ≡ bodies_size b xs
bodies_pieces b [] = refl
bodies_pieces b (x ∷ xs) = ap (λ k. body_size b x + k) (bodies_pieces b xs)

initials_pieces : (b : Blocks) (xs : List Block) → pieces_size b (map an_initial xs) ≡ initials_size b xs
initials_pieces b [] = refl
initials_pieces b (x ∷ xs) = ap (λ k. statements_size b x + k) (initials_pieces b xs)

ends_pieces : (b : Blocks) (q : PartTree) (qs : PartTrees) →
    length (ends_of_resources (more_parts q qs)) ≡ pieces_size b (resource_end q) + length (ends_of_resources qs)
ends_pieces b (consts x) qs = omega arith
ends_pieces b (types x) qs = omega arith
ends_pieces b (vars x) qs = omega arith
ends_pieces b (sub_part x) qs = omega arith
ends_pieces b (monitor x) qs = omega arith
ends_pieces b (resource x) qs = omega arith
ends_pieces b (process_part x) qs = omega arith

all_pieces :
    (b : Blocks) (s : State) (n next : ℕ) (ps : PartTrees)
    → pieces_size b (pieces s n next ps)
    ≡ bodies_size b (parts_blocks s false 0 n [] next ps) + (length (ends_of_resources ps) + initials_size b (parts_inits s n next ps))
all_pieces b s n next no_parts = refl
all_pieces b s n next (more_parts q qs) =
    let blocks = part_blocks s false 0 n [] next q in
    let inits = part_inits s n next q in
    let passed = passed_part (scope_at s.blocks.scopes 0) n q in
    let behind = next + part_scopes q in
    let rest = pieces s passed behind qs in
    let e1 = pieces_both b (map a_body blocks) (resource_end q ++ (map an_initial inits ++ rest)) in
    let e2 = pieces_both b (resource_end q) (map an_initial inits ++ rest) in
    let e3 = pieces_both b (map an_initial inits) rest in
    let e4 = bodies_pieces b blocks in
    let e5 = initials_pieces b inits in
    let e6 = ends_pieces b q qs in
    let e7 = bodies_both b blocks (parts_blocks s false 0 passed [] behind qs) in
    let e8 = initials_both b inits (parts_inits s passed behind qs) in
    let e9 = all_pieces b s passed behind qs in
    omega arith

pub program_length : (tree : ProgramTree) → length (image_of tree).code ≡ program_size (program_of tree)
program_length tree =
    let g = program_of tree in
    let image = image_length g tree in
    let counted = all_pieces g.state.blocks g.state 0 1 tree.parts in
    omega arith

-- ## What is known of a program

-- what is known of this tree
pub record IsProgramOf (g : Known) (tree : ProgramTree) : Type 0 where
  pub state : tables_view g.tables ≡ (program_of tree).state
  pub blocks : blocks_view g.tables g.blocks.items ≡ (program_of tree).blocks
  pub modules : blocks_view g.tables g.modules.items ≡ (program_of tree).modules
  pub main : block_view g.tables g.main ≡ (program_of tree).main
  pub resource_ends : g.resource_ends.items ≡ (program_of tree).resource_ends

pub known_program : (g : Known) (tree : ProgramTree) → IsProgramOf g tree → known_size g ≡ length (image_of tree).code
known_program g tree is =
    let b = blocks_view g.tables g.blocks.items in
    let m = blocks_view g.tables g.modules.items in
    let main = block_view g.tables g.main in
    let p = program_of tree in
    ap (λ (s : State). all_size s.blocks b m main g.resource_ends.items) is.state
    ∙ ap (λ (x : List Block). all_size p.state.blocks x m main g.resource_ends.items) is.blocks
    ∙ ap (λ (x : List Block). all_size p.state.blocks p.blocks x main g.resource_ends.items) is.modules
    ∙ ap (λ (x : Block). all_size p.state.blocks p.blocks p.modules x g.resource_ends.items) is.main
    ∙ ap (λ (x : List ℕ). all_size p.state.blocks p.blocks p.modules p.main x) is.resource_ends
    ∙ sym (program_length tree)
