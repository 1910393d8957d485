-- Processes are created in main's code alone: in the code of each other block what would activate one would break a rule.
use Rattle.std.proofs.Common.{◌≡◌, ℕ, zero, suc, ◌+◌, ◌<◌, ◌≤◌, Bool, false, true, List, [], ◌∷◌, ◌++◌, length, length-append, slice_get, take, drop, get_or}
use Rattle.std.proofs.Common.{Option, Some, None, refl, sym, ap, ◌∙◌, subst, arith}
use Rattle.std.specs.List.{All}
use Rattle.std.proofs.lemmas.List.{length-map}
use Rattle.std.proofs.lemmas.List.Elements.{All-nil, All-cons, All-append}
use Rattle.pfc_tree.specs.trees.Stmts.{body}
use Rattle.pfc_tree.specs.trees.Parts.{PartTree, PartTrees, SubTree, ModuleTree, ProcessTree, ProgramTree, consts, types, vars, sub_part, monitor, resource}
use Rattle.pfc_tree.specs.trees.Parts.{process_part, no_parts, more_parts, sub, the_module, process}
use Rattle.pfc_tree.specs.forget.Parts.{forget_program}
use Rattle.pfc_tree.specs.lawful.Parts.{IsLawful}
use Rattle.pfc_types.specs.Scopes.{Level, scope_at, here}
use Rattle.pfc_types.specs.Blocks.{State}
use Rattle.pfc_types.specs.declared.heads.SubHead.{SubHead}
use Rattle.pfc_types.specs.declared.heads.SubSort.{SubSort}
use Rattle.pfc_types.specs.declared.heads.SubSort.TheVariants.{Procedure, Guarded, Function}
use Rattle.pfc_types.specs.rules.Statements.{broken_stmts, body_scopes}
use Rattle.pfc_types.specs.rules.Bodies.{env_at, around_guard, around_sub, around_process, level, passed, passed_part, passed_groups, passed_entries}
use Rattle.pfc_types.specs.rules.Bodies.{part_scopes, parts_scopes}
use Rattle.pfc_types.specs.rules.Whole.{finished, broken, faults_in}
use Rattle.pfc_code.specs.declared.instructions.Instr.{Instr}
use Rattle.pfc_code.specs.declared.instructions.Instr.TheVariants.{NEW, GRD}
use Rattle.pfc_code.specs.declared.images.Block.{Block as CodeBlock}
use Rattle.pfc_semantics.specs.Layouts.{sub_with, sub_layout_at, process_layout}
use Rattle.pfc_semantics.specs.Programs.{Block, Guard, Program, block_of, guard_of, part_blocks, parts_blocks, sub_blocks, module_blocks, process_blocks}
use Rattle.pfc_semantics.specs.Programs.{program_of}
use Rattle.pfc_machines.specs.Rooms.{end_of as behind_block}
use Rattle.pfc_translation.specs.Sites.{Site}
use Rattle.pfc_translation.specs.Calls.{resource_of}
use Rattle.pfc_translation.specs.Images.{Piece, a_body, an_initial, a_resource, pieces, Coded, coded, before_main, of_main, size_of, put_from, instructions}
use Rattle.pfc_translation.specs.Images.{blocks_from, piece_blocks, block_from, main_block, strings_in, site_in, guard_code, statements_code, body_code}
use Rattle.pfc_translation.specs.Images.{end_of, image_of}
use Rattle.pfc_image_laws.proofs.Layouts.{image_count, instructions-append}
use Rattle.pfc_image_laws.specs.Instructions.{Each}
use Rattle.pfc_image_laws.proofs.Holds.{each_append}
use Rattle.pfc_image_numbers.proofs.Rules.{IsClean, clean_of}
use Rattle.pfc_image_numbers.proofs.Bodies.{IsRuled, program_blocks}
use Rattle.pfc_standing_images.proofs.Pieces.{bodies_in, bodies_of_parts}
use Rattle.pfc_standing_images.proofs.Images.{size_put}
use Rattle.pfc_call_laws.proofs.Lists.{slice_front}
use Rattle.pfc_kept_lives.proofs.Quiet.{IsOther, IsQuiet, ◌&◌, moved, no_code, one_is, expr}
use Rattle.pfc_kept_lives.proofs.Outside.{stmts}

-- ## Blocks

-- its body is not the main body
pub record IsBelow (b : Block) : Type 0 where
  pub main : b.env.around.main ≡ false
  pub cobegin : b.env.around.cobegin ≡ false

mutual
  part_below :
      (s : State) (in_process : Bool) (i n : ℕ) (outer : List Level) (next : ℕ) (q : PartTree) → All IsBelow (part_blocks s in_process i n outer next q)
  part_below s in_process i n outer next (consts items) = All-nil IsBelow
  part_below s in_process i n outer next (types items) = All-nil IsBelow
  part_below s in_process i n outer next (vars vs) = All-nil IsBelow
  part_below s in_process i n outer next (sub_part b) = sub_below s in_process i n outer next b
  part_below s in_process i n outer next (monitor m) = module_below s i n outer next m
  part_below s in_process i n outer next (resource m) = module_below s i n outer next m
  part_below s in_process i n outer next (process_part q) = process_below s i n outer next q

  parts_below :
      (s : State) (in_process : Bool) (i n : ℕ) (outer : List Level) (next : ℕ) (qs : PartTrees)
      → All IsBelow (parts_blocks s in_process i n outer next qs)
  parts_below s in_process i n outer next no_parts = All-nil IsBelow
  parts_below s in_process i n outer next (more_parts q qs) =
      let further = passed_part (scope_at s.blocks.scopes i) n q in
      All-append IsBelow (part_blocks s in_process i n outer next q) (parts_blocks s in_process i further outer (next + part_scopes q) qs)
      (part_below s in_process i n outer next q) (parts_below s in_process i further outer (next + part_scopes q) qs)

  sub_below :
      (s : State) (in_process : Bool) (i n : ℕ) (outer : List Level) (next : ℕ) (b : SubTree) → All IsBelow (sub_blocks s in_process i n outer next b)
  sub_below s in_process i n outer next (sub x gs kind ps (body ss from to) p) =
      let own = scope_at s.blocks.scopes next in
      let count = passed_groups own 0 gs in
      let around = level i (passed (scope_at s.blocks.scopes i) n x) ∷ outer in
      let guard = guard_of (env_at s (level next count ∷ (level i n ∷ outer)) (around_guard i)) kind in
      let this = block_of next i (env_at s (here s.blocks.scopes next around) (around_sub in_process kind)) (next + 1 + parts_scopes ps) (body ss from to)
      (sub_layout_at s.blocks next) 0 guard in
      All-append IsBelow (parts_blocks s in_process next count around (next + 1) ps) (this ∷ []) (parts_below s in_process next count around (next + 1) ps)
      (All-cons IsBelow this [] (record { main = refl; cobegin = refl }) (All-nil IsBelow))

  module_below : (s : State) (i n : ℕ) (outer : List Level) (next : ℕ) (m : ModuleTree) → All IsBelow (module_blocks s i n outer next m)
  module_below s i n outer next (the_module x exports ps b last p) = parts_below s false next 0 (level i n ∷ outer) (next + 1) ps

  process_below : (s : State) (i n : ℕ) (outer : List Level) (next : ℕ) (q : ProcessTree) → All IsBelow (process_blocks s i n outer next q)
  process_below s i n outer next (process many x gs es ps (body ss from to) p) =
      let own = scope_at s.blocks.scopes next in
      let count = passed_entries own (passed_groups own 0 gs) es in
      let around = level i (passed (scope_at s.blocks.scopes i) n x) ∷ outer in
      let inner = next + 1 + parts_scopes ps in
      let b = body ss from to in
      let this = block_of next i (env_at s (here s.blocks.scopes next around) around_process) inner b
      (process_layout own (take (body_scopes b) (drop inner s.blocks.scopes))) (body_scopes b) None in
      All-append IsBelow (parts_blocks s true next count around (next + 1) ps) (this ∷ []) (parts_below s true next count around (next + 1) ps)
      (All-cons IsBelow this [] (record { main = refl; cobegin = refl }) (All-nil IsBelow))

-- ## Their code

ending : (head : Option SubHead) → IsOther (end_of head)
ending None = tt
ending (Some head) = by head.sort
  where
    by : (sort : SubSort) → IsOther (end_of (Some (record head { sort = sort })))
    by Procedure = tt
    by Guarded = tt
    by (Function t) = tt

quiet_guard : (g : Program) (b : Block) (o : Option Guard) → IsQuiet (guard_code g b o)
quiet_guard g b None = no_code
quiet_guard g b (Some guard) =
    let s : Site = record { program = g; block = b; env = guard.env; line = guard.line } in expr s guard.test & one_is s (GRD (resource_of s)) tt

quiet_body : (g : Program) (b : Block) → IsBelow b → IsClean (broken_stmts b.env b.next b.stmts) → IsQuiet (body_code g b)
quiet_body g b below clean =
    quiet_guard g b b.guard & stmts (site_in g b) (record { main = below.main; cobegin = below.cobegin }) b.next b.stmts clean
    & one_is (site_in g b) (end_of (sub_with g.state.blocks.subs b.scope)) (ending (sub_with g.state.blocks.subs b.scope))

-- what stands before main's code
outer_quiet :
    (g : Program) (ps : List Piece) (at number strings : ℕ) → All (λ (b : Block). IsQuiet (body_code g b)) (bodies_in ps)
    → Each (λ j i. IsOther i) at (instructions (put_from at (before_main (coded g number strings ps))))
outer_quiet g [] at number strings h = tt
outer_quiet g (a_body b ∷ ps) at number strings h =
    let code = body_code g b in
    let rest = put_from (at + code.size) (before_main (coded g (number + 0) (strings + length code.texts) ps)) in
    each_append (λ j i. IsOther i) at (code.put at strings) rest ((h 0 b (omega arith)).each at strings)
    (moved (at + code.size) (at + length (code.put at strings)) (instructions rest)
    (outer_quiet g ps (at + code.size) (number + 0) (strings + length code.texts) (λ k d less. h (suc k) d (omega (arith, less)))))
outer_quiet g (an_initial b ∷ ps) at number strings h = outer_quiet g ps at (number + 0) (strings + length (statements_code g b).texts) h
outer_quiet g (a_resource line ∷ ps) at number strings h = (tt, outer_quiet g ps (at + 1) (number + 1) (strings + 0) h)

other_at : (at j : ℕ) (code : List Instr) (i : Instr) → Each (λ k i. IsOther i) at code → slice_get code j ≡ Some i → IsOther i
other_at at j [] i h there = absurd (let none : None ≡ Some i = there in cc)
other_at at zero (x ∷ code) i h there = let same : x ≡ i = (let both : Some x ≡ Some i = there in cc) in subst (λ (y : Instr). IsOther y) same h.0
other_at at (suc j) (x ∷ code) i h there = other_at (at + 1) j code i h.1 there

-- ## Their addresses

entry_before : (g : Program) (cs : List Coded) (at k : ℕ) (c : CodeBlock) → slice_get (blocks_from g at cs) k ≡ Some c → c.entry ≤ at + size_of cs
entry_before g [] at k c there = absurd (let none : None ≡ Some c = there in cc)
entry_before g (x ∷ cs) at k c there = by x.piece k (λ j later. entry_before g cs (at + x.code.size) j c later) there
  where
    by : (p : Piece) (k : ℕ) → ((j : ℕ) → slice_get (blocks_from g (at + x.code.size) cs) j ≡ Some c → c.entry ≤ at + x.code.size + size_of cs)
        → slice_get (piece_blocks g at p x ++ blocks_from g (at + x.code.size) cs) k ≡ Some c → c.entry ≤ at + (x.code.size + size_of cs)
    by (a_body b) zero rest there =
        let same : block_from g at b x ≡ c = (let both : Some (block_from g at b x) ≡ Some c = there in cc) in
        let entry : at ≡ c.entry = ap (λ (d : CodeBlock). d.entry) same in omega (arith, entry)
    by (a_body b) (suc k) rest there = let less = rest k there in omega (arith, less)
    by (an_initial b) k rest there = let less = rest k there in omega (arith, less)
    by (a_resource line) k rest there = let less = rest k there in omega (arith, less)

-- a block ends where the last begins, or before
end_before :
    (code : List Instr) (bs : List CodeBlock) (last : CodeBlock) (k : ℕ) → k < length bs
    → ((j : ℕ) (c : CodeBlock) → slice_get bs j ≡ Some c → c.entry ≤ last.entry) → behind_block code (drop (suc k) (bs ++ last ∷ [])) ≤ last.entry
end_before code [] last k less h = absurd (omega (arith, less))
end_before code (b ∷ []) last zero less h = omega arith
end_before code (b ∷ (c ∷ bs)) last zero less h = h 1 c refl
end_before code (b ∷ bs) last (suc k) less h = end_before code bs last k (omega (arith, less)) (λ j c there. h (suc j) c there)

-- no instruction of another block than main's creates a process
pub created_in_main :
    (t : ProgramTree) → IsLawful (forget_program t) → broken t ≡ [] → (k at n : ℕ) → k < length (program_of t).blocks
    → at < behind_block (image_of t).code (drop (k + 1) (image_of t).blocks) → slice_get (image_of t).code at ≡ Some (NEW n) → ⊥
created_in_main t lawful whole k at n among before there =
    let q = program_of t in
    let ps = pieces q.state 0 1 t.parts in
    let parts = coded q 0 0 ps in
    let main : Coded = record { piece = a_body q.main; code = body_code q q.main; strings = length (strings_in parts) } in
    let outer = put_from 0 (before_main parts) in
    let entry = size_of (before_main parts) in
    let inner = put_from entry (of_main parts ++ main ∷ []) in
    let bs = blocks_from q 0 (before_main parts) in
    let last = main_block q t.name.0 entry inner in
    let count : length bs ≡ length q.blocks =
    let all : length (bs ++ last ∷ []) ≡ length q.blocks + 1 = image_count t in
    let sum = length-append bs (last ∷ []) in omega (arith, all, sum) in
    let end : behind_block (image_of t).code (drop (suc k) (bs ++ last ∷ [])) ≤ entry =
    end_before (image_of t).code bs last k (omega (arith, among, count))
    (λ j c is. let less = entry_before q (before_main parts) 0 j c is in omega (arith, less)) in
    let next : k + 1 ≡ suc k = omega arith in
    let here : at < behind_block (image_of t).code (drop (suc k) (bs ++ last ∷ [])) =
    subst (λ j. at < behind_block (image_of t).code (drop j (bs ++ last ∷ []))) next before in
    let size : length (instructions outer) ≡ entry = length-map outer (λ c. c.0) ∙ size_put q ps 0 0 0 in
    let within : at < length (instructions outer) = omega (arith, here, end, size) in
    let found : slice_get (instructions outer) at ≡ Some (NEW n) =
    sym (slice_front (instructions outer) (instructions inner) at within)
    ∙ ap (λ (is : List Instr). slice_get is at) (sym (instructions-append outer inner)) ∙ there in
    other_at 0 at (instructions outer) (NEW n) (outer_quiet q ps 0 0 0 all_quiet) found
  where
    ruled : All (IsRuled (Unit {0}) (finished t)) (program_of t).blocks
    ruled = program_blocks (Unit {0}) t lawful (λ z. (clean_of (faults_in (finished t) t) whole).1)

    all_quiet : All (λ (b : Block). IsQuiet (body_code (program_of t) b)) (bodies_in (pieces (program_of t).state 0 1 t.parts))
    all_quiet =
        subst (λ (bs : List Block). All (λ (b : Block). IsQuiet (body_code (program_of t) b)) bs) (sym (bodies_of_parts (program_of t).state 0 1 t.parts))
        (λ j d less. quiet_body (program_of t) (get_or (program_of t).blocks j d) (parts_below (program_of t).state false 0 0 [] 1 t.parts j d less)
        ((ruled j d less).clean tt))
