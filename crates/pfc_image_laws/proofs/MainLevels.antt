-- Main's code follows no static link: in a lawful program its initialising bodies have its level.
use Rattle.std.proofs.Common.{◌≡◌, ℕ, ◌+◌, false, List, [], ◌∷◌, ◌++◌, length, drop, map, Option, Some, None, refl, ap, sym, ◌∙◌, subst, arith, length-append}
use Rattle.std.specs.List.{All, last_or}
use Rattle.std.proofs.lemmas.List.{length-map, append-nil}
use Rattle.std.proofs.lemmas.List.Elements.{All-head, All-tail}
use Rattle.std.proofs.Math.Seq.{drop-append_seam}
use Rattle.pfc_tree.specs.trees.Parts.{PartTree, PartTrees, ProgramTree, consts, types, vars, sub_part, monitor, resource, process_part, no_parts, more_parts}
use Rattle.pfc_tree.specs.forget.Parts.{forget_program}
use Rattle.pfc_tree.specs.lawful.Parts.{IsLawful}
use Rattle.pfc_types.specs.Scopes.{scope_at}
use Rattle.pfc_types.specs.rules.Bodies.{passed_part, part_scopes}
use Rattle.pfc_semantics.specs.Programs.{Program, Block, part_blocks, part_inits, parts_inits, program_of}
use Rattle.pfc_code.specs.declared.instructions.Instr.{Instr}
use Rattle.pfc_code.specs.declared.images.Block.{Block as CodeBlock}
use Rattle.pfc_translation.specs.Sites.{level_of}
use Rattle.pfc_translation.specs.Codes.{Lined}
use Rattle.pfc_translation.specs.Images.{statements_code, body_code, Piece, a_body, an_initial, a_resource, resource_end, pieces, Coded, coded, strings_in}
use Rattle.pfc_translation.specs.Images.{before_main, of_main, size_of, put_from, instructions, blocks_from, main_block, image_over, image_of}
use Rattle.pfc_image_laws.specs.Instructions.{Each, StaysAbove}
use Rattle.pfc_image_laws.proofs.Holds.{held_size, held_each, each_append, each_links}
use Rattle.pfc_image_laws.proofs.Layouts.{body, statements_hold, instructions-append}
use Rattle.pfc_image_laws.proofs.Levels.{main_level}
use Rattle.pfc_image_laws.proofs.Modules.{program_inits}

-- each initialising body among the pieces has the level of main
AtMain : Program → List Piece → Type 0
AtMain g [] = Unit {0}
AtMain g (a_body b ∷ ps) = AtMain g ps
AtMain g (an_initial b ∷ ps) = (level_of g.state.blocks b ≡ 0) × AtMain g ps
AtMain g (a_resource line ∷ ps) = AtMain g ps

at_append : (g : Program) (ps qs : List Piece) → AtMain g ps → AtMain g qs → AtMain g (ps ++ qs)
unfolding AtMain
at_append g [] qs p q = q
at_append g (a_body b ∷ ps) qs p q = at_append g ps qs p q
at_append g (an_initial b ∷ ps) qs p q = (p.0, at_append g ps qs p.1 q)
at_append g (a_resource line ∷ ps) qs p q = at_append g ps qs p q

at_bodies : (g : Program) (bs : List Block) → AtMain g (map a_body bs)
unfolding AtMain
at_bodies g [] = tt
at_bodies g (b ∷ bs) = at_bodies g bs

at_end : (g : Program) (q : PartTree) → AtMain g (resource_end q)
unfolding AtMain
at_end g (consts items) = tt
at_end g (types items) = tt
at_end g (vars vs) = tt
at_end g (sub_part b) = tt
at_end g (monitor m) = tt
at_end g (resource m) = tt
at_end g (process_part p) = tt

-- the initialising bodies of parts, those of the first part and those of the others
at_inits : (g : Program) (bs cs : List Block) (ps : List Piece) → All (λ (b : Block). level_of g.state.blocks b ≡ 0) (bs ++ cs)
    → (All (λ (b : Block). level_of g.state.blocks b ≡ 0) cs → AtMain g ps) → AtMain g (map an_initial bs ++ ps)
unfolding AtMain
at_inits g [] cs ps h f = f h
at_inits g (b ∷ bs) cs ps h f = (
  All-head (λ (x : Block). level_of g.state.blocks x ≡ 0) b (bs ++ cs) h,
  at_inits g bs cs ps (All-tail (λ (x : Block). level_of g.state.blocks x ≡ 0) b (bs ++ cs) h) f,
)

at_pieces : (g : Program) (n next : ℕ) (qs : PartTrees) → All (λ (b : Block). level_of g.state.blocks b ≡ 0) (parts_inits g.state n next qs)
    → AtMain g (pieces g.state n next qs)
unfolding AtMain
at_pieces g n next no_parts h = tt
at_pieces g n next (more_parts q qs) h =
    let further = passed_part (scope_at g.state.blocks.scopes 0) n q in
    let inits = part_inits g.state n next q in
    let rest = pieces g.state further (next + part_scopes q) qs in
    at_append g (map a_body (part_blocks g.state false 0 n [] next q)) (resource_end q ++ (map an_initial inits ++ rest))
    (at_bodies g (part_blocks g.state false 0 n [] next q))
    (at_append g (resource_end q) (map an_initial inits ++ rest) (at_end g q)
    (at_inits g inits (parts_inits g.state further (next + part_scopes q) qs) rest h (λ r. at_pieces g further (next + part_scopes q) qs r)))

inner_links :
    (g : Program) (main : Coded) (ps : List Piece) (at number strings : ℕ) → AtMain g ps
    → ((a : ℕ) → Each (StaysAbove 0) a (instructions (put_from a (main ∷ []))))
    → Each (StaysAbove 0) at (instructions (put_from at (of_main (coded g number strings ps) ++ main ∷ [])))
unfolding AtMain
inner_links g main [] at number strings h rest = rest at
inner_links g main (a_body b ∷ ps) at number strings h rest = inner_links g main ps at (number + 0) (strings + length (body_code g b).texts) h rest
inner_links g main (a_resource line ∷ ps) at number strings h rest = inner_links g main ps at (number + 1) (strings + 0) h rest
inner_links g main (an_initial b ∷ ps) at number strings h rest =
    let code = statements_code g b in
    let further = of_main (coded g (number + 0) (strings + length code.texts) ps) in
    let first = code.put at strings in
    let size : length first ≡ code.size = held_size g b 0 0 code (statements_hold g b 0 0) at strings in
    each_append (StaysAbove 0) at first (put_from (at + code.size) (further ++ main ∷ []))
    (subst (λ n. Each (StaysAbove n) at (instructions first)) h.0
    (each_links g b at (at + code.size) strings (strings + length code.texts) at (instructions first)
    (held_each g b 0 0 code (statements_hold g b 0 0) at strings at (at + code.size) strings (strings + length code.texts) (omega arith) (omega arith)
    (omega arith) (omega arith))))
    (subst (λ j. Each (StaysAbove 0) j (instructions (put_from (at + code.size) (further ++ main ∷ [])))) (omega (arith, size))
    (inner_links g main ps (at + code.size) (number + 0) (strings + length code.texts) h.1 rest))

outer_size :
    (g : Program) (ps : List Piece) (at number strings : ℕ)
    → length (put_from at (before_main (coded g number strings ps))) ≡ size_of (before_main (coded g number strings ps))
outer_size g [] at number strings = refl
outer_size g (a_body b ∷ ps) at number strings =
    let code = body_code g b in
    let further = before_main (coded g (number + 0) (strings + length code.texts) ps) in
    let rest = outer_size g ps (at + code.size) (number + 0) (strings + length code.texts) in
    length-append (code.put at strings) (put_from (at + code.size) further) ∙ omega (arith, (body g b at strings).size, rest)
outer_size g (an_initial b ∷ ps) at number strings = outer_size g ps at (number + 0) (strings + length (statements_code g b).texts)
outer_size g (a_resource line ∷ ps) at number strings = let rest = outer_size g ps (at + 1) (number + 1) (strings + 0) in omega (arith, rest)

last_block : (o : Option CodeBlock) (bs : List CodeBlock) (b : CodeBlock) → last_or o (bs ++ b ∷ []) ≡ Some b
last_block o [] b = refl
last_block o (c ∷ bs) b = last_block (Some c) bs b

same_block : (a b : CodeBlock) → Some a ≡ Some b → a ≡ b
same_block a b e = cc

over_links :
    (g : Program) (t : ProgramTree) → AtMain g (pieces g.state 0 1 t.parts) → level_of g.state.blocks g.main ≡ 0 → (b : CodeBlock)
    → last_or None (image_over g t).blocks ≡ Some b → Each (StaysAbove b.level) b.entry (drop b.entry (image_over g t).code)
over_links g t h main_is b last =
    let ps = pieces g.state 0 1 t.parts in
    let parts = coded g 0 0 ps in
    let n = length (strings_in parts) in
    let main : Coded = record { piece = a_body g.main; code = body_code g g.main; strings = n } in
    let at = size_of (before_main parts) in
    let outer = put_from 0 (before_main parts) in
    let code = put_from at (of_main parts ++ main ∷ []) in
    let block = main_block g t.name.0 at code in
    let is : block ≡ b = same_block block b (sym (last_block None (blocks_from g 0 (before_main parts)) block) ∙ last) in
    let size : length (instructions outer) ≡ at = length-map outer (λ i. i.0) ∙ outer_size g ps 0 0 0 in
    let cut : drop at (instructions (outer ++ code)) ≡ instructions code =
    ap (λ (x : List Instr). drop at x) (instructions-append outer code)
    ∙ (ap (λ k. drop k (instructions outer ++ instructions code)) (sym size) ∙ drop-append_seam (instructions outer) (instructions code)) in
    let all : Each (StaysAbove 0) at (instructions code) =
    inner_links g main ps at 0 0 h
    (λ a. subst (λ (x : Lined). Each (StaysAbove 0) a (instructions x)) (sym (append-nil ((body_code g g.main).put a n)))
    (subst (λ k. Each (StaysAbove k) a (instructions ((body_code g g.main).put a n))) main_is (body g g.main a n).links)) in
    subst (λ (x : CodeBlock). Each (StaysAbove x.level) x.entry (drop x.entry (image_over g t).code)) is
    (subst (λ (x : List Instr). Each (StaysAbove 0) at x) (sym cut) all)

pub image_main_links :
    (t : ProgramTree) → IsLawful (forget_program t) → (b : CodeBlock) → last_or None (image_of t).blocks ≡ Some b
    → Each (StaysAbove b.level) b.entry (drop b.entry (image_of t).code)
image_main_links t lawful b last = over_links (program_of t) t (at_pieces (program_of t) 0 1 t.parts (program_inits t lawful)) (main_level t) b last
