-- From no place of an image's code on are more instructions gone through quietly than twice the nodes of the largest body.
use Rattle.std.proofs.Common.{◌≡◌, ℕ, zero, suc, ◌+◌, ◌*◌, ◌≤◌, max, false, List, [], ◌∷◌, ◌++◌, length, map, get_or, Option, Some, None, refl, sym, ◌∙◌}
use Rattle.std.proofs.Common.{subst, arith, length-append}
use Rattle.std.specs.List.{All, sum_by}
use Rattle.std.proofs.lemmas.List.Elements.{All-from_get_or}
use Rattle.std.proofs.lemmas.List.Sums.{sum_by-cons, sum_by-append}
use Rattle.pfc_tree.specs.trees.Parts.{PartTree, PartTrees, ProgramTree, consts, types, vars, sub_part, monitor, resource, process_part, no_parts, more_parts}
use Rattle.pfc_types.specs.Scopes.{scope_at}
use Rattle.pfc_types.specs.Blocks.{State}
use Rattle.pfc_types.specs.rules.Bodies.{passed_part, part_scopes}
use Rattle.pfc_types.specs.declared.heads.SubHead.{SubHead}
use Rattle.pfc_types.specs.declared.heads.SubSort.{SubSort}
use Rattle.pfc_types.specs.declared.heads.SubSort.TheVariants.{Procedure, Guarded, Function}
use Rattle.pfc_semantics.specs.Layouts.{sub_with}
use Rattle.pfc_semantics.specs.Programs.{Program, Block, Guard, part_blocks, parts_blocks, part_inits, parts_inits, program_of}
use Rattle.pfc_code.specs.declared.instructions.Instr.{Instr}
use Rattle.pfc_code.specs.declared.instructions.Instr.TheVariants.{GRD, SCAN}
use Rattle.pfc_translation.specs.Sites.{Site}
use Rattle.pfc_translation.specs.Codes.{Code, Lined, ◌⨾◌, one}
use Rattle.pfc_translation.specs.Calls.{resource_of}
use Rattle.pfc_translation.specs.Images.{instructions, site_in, guard_code, end_of, statements_code, body_code, Piece, a_body, an_initial, a_resource}
use Rattle.pfc_translation.specs.Images.{resource_end, pieces, Coded, coded, strings_in, before_main, of_main, size_of, put_from}
use Rattle.pfc_translation.specs.Images.{image_over, image_of}
use Rattle.pfc_step_laws.specs.Nodes.{test_nodes, stmts_nodes, body_nodes, main_nodes, most_nodes, largest_body}
use Rattle.pfc_step_laws.proofs.Ahead.{Way, stays, way, from_here, ahead}
use Rattle.pfc_step_laws.proofs.Short.{ahead_append, Short, more, before, further, no_code, both, lone}
use Rattle.pfc_step_laws.proofs.Expressions.{inside_is, expr}
use Rattle.pfc_step_laws.proofs.Statements.{stmts}

-- ## Bodies

-- each number is at most so much
abbrev Everywhere : List ℕ → ℕ → Type 0
Everywhere xs most = (i : ℕ) → get_or xs i 0 ≤ most

short_everywhere :
    {c : Code} {k : ℕ} → Short c k → (at n most : ℕ) (behind : List ℕ) → Everywhere behind most
    → Everywhere (ahead at (instructions (c.put at n)) behind) (most + k)
short_everywhere p at n most behind h i = (further {m = i} p).low at n most behind (λ j g. h j) i (omega arith)

-- code that ends with an action: what stands behind it does not count
record Closed (c : Code) (k : ℕ) : Type 0 where
  sized : (at n : ℕ) → length (c.put at n) ≡ c.size
  first : (at n : ℕ) (behind : List ℕ) → get_or (ahead at (instructions (c.put at n)) behind) 0 0 ≤ k
  low : (at n most : ℕ) (behind : List ℕ) → k ≤ most → Everywhere behind most → Everywhere (ahead at (instructions (c.put at n)) behind) most

closed_end : (s : Site) (i : Instr) → way i ≡ stays → Closed (one s i) 0
closed_end s i h = record {
  sized = λ at n. refl;
  first = λ at n behind. subst (λ (w : Way). from_here w at behind ≤ 0) (sym h) (omega arith);
  low = λ at n most behind within p j. by at behind most p j;
}
  where
    by : (at : ℕ) (behind : List ℕ) (most : ℕ) → Everywhere behind most → (j : ℕ) → get_or (from_here (way i) at behind ∷ behind) j 0 ≤ most
    by at behind most p zero = subst (λ (w : Way). from_here w at behind ≤ most) (sym h) (omega arith)
    by at behind most p (suc j) = p j

closed_before : {c d : Code} {j k : ℕ} → Short c j → Closed d k → Closed (c ⨾ d) (j + k)
closed_before {c} {d} {j} {k} p q = record {
  sized = λ at n.
      length-append (c.put at n) (d.put (at + c.size) (n + length c.texts))
      ∙ (let a = p.sized at n in let b = q.sized (at + c.size) (n + length c.texts) in omega (arith, a, b));
  first = λ at n behind.
      let it = p.low at n k (rest at n behind) (λ i g. at_first at n behind i (omega (arith, g))) 0 (omega arith) in
      subst (λ (xs : List ℕ). get_or xs 0 0 ≤ j + k) (sym (found at n behind)) (omega (arith, it));
  low = λ at n most behind within h i.
      let all = q.low (at + c.size) (n + length c.texts) most behind (omega (arith, within)) h in
      subst (λ (xs : List ℕ). get_or xs i 0 ≤ most) (sym (found at n behind))
      (before p at n k most i (rest at n behind) (q.first (at + c.size) (n + length c.texts) behind) (omega (arith, within)) (λ l g. all l) i (omega arith));
}
  where
    rest : ℕ → ℕ → List ℕ → List ℕ
    rest at n behind = ahead (at + c.size) (instructions (d.put (at + c.size) (n + length c.texts))) behind

    at_first : (at n : ℕ) (behind : List ℕ) (i : ℕ) → i ≡ 0 → get_or (rest at n behind) i 0 ≤ k
    at_first at n behind i e =
        subst (λ (x : ℕ). get_or (rest at n behind) x 0 ≤ k) (sym e) (q.first (at + c.size) (n + length c.texts) behind)

    found : (at n : ℕ) (behind : List ℕ) → ahead at (instructions ((c ⨾ d).put at n)) behind ≡ ahead at (instructions (c.put at n)) (rest at n behind)
    found at n behind =
        ahead_append at (at + c.size) (c.put at n) (d.put (at + c.size) (n + length c.texts)) behind (let size = p.sized at n in omega (arith, size))

end_stays : (head : Option SubHead) → way (end_of head) ≡ stays
end_stays None = refl
end_stays (Some head) = by head.sort
  where
    by : (sort : SubSort) → way (end_of (Some (record head { sort = sort }))) ≡ stays
    by Procedure = refl
    by Guarded = refl
    by (Function t) = refl

guard_short : (g : Program) (b : Block) (guard : Option Guard) → Short (guard_code g b guard) (2 * test_nodes guard)
guard_short g b None = no_code
guard_short g b (Some guard) =
    let s : Site = record { program = g; block = b; env = guard.env; line = guard.line } in
    let room = inside_is guard.test in
    more (both (expr s guard.test) (lone s (GRD (resource_of s)) refl)) (omega (arith, room))

statements_short : (g : Program) (b : Block) → Short (statements_code g b) (2 * stmts_nodes b.stmts)
statements_short g b = stmts (site_in g b) b.next b.stmts

body_closed : (g : Program) (b : Block) → Closed (body_code g b) (2 * test_nodes b.guard + (2 * stmts_nodes b.stmts + 0))
body_closed g b =
    closed_before (guard_short g b b.guard)
    (closed_before (statements_short g b)
    (closed_end (site_in g b) (end_of (sub_with g.state.blocks.subs b.scope)) (end_stays (sub_with g.state.blocks.subs b.scope))))

-- ## What stands before main

bodies_most : List Piece → ℕ
bodies_most [] = 0
bodies_most (a_body b ∷ ps) = max (body_nodes b) (bodies_most ps)
bodies_most (an_initial b ∷ ps) = bodies_most ps
bodies_most (a_resource line ∷ ps) = bodies_most ps

piece_first :
    {c : Code} {k : ℕ} → Closed c k → (at n most : ℕ) (further_code : Lined) (behind : List ℕ) → k ≤ most
    → Everywhere (ahead (at + c.size) (instructions further_code) behind) most
    → Everywhere (ahead at (instructions (c.put at n ++ further_code)) behind) most
piece_first {c} p at n most further_code behind within h =
    let size = p.sized at n in
    subst (λ (xs : List ℕ). Everywhere xs most) (sym (ahead_append at (at + c.size) (c.put at n) further_code behind (omega (arith, size))))
    (p.low at n most (ahead (at + c.size) (instructions further_code) behind) within h)

outer_low :
    (g : Program) (ps : List Piece) (at number strings most : ℕ) (behind : List ℕ) → 2 * bodies_most ps ≤ most → Everywhere behind most
    → Everywhere (ahead at (instructions (put_from at (before_main (coded g number strings ps)))) behind) most
unfolding bodies_most
outer_low g [] at number strings most behind within h = h
outer_low g (a_body b ∷ ps) at number strings most behind within h =
    let code = body_code g b in
    piece_first (body_closed g b) at strings most (put_from (at + code.size) (before_main (coded g (number + 0) (strings + length code.texts) ps))) behind
    (omega (arith, within))
    (outer_low g ps (at + code.size) (number + 0) (strings + length code.texts) most behind (omega (arith, within)) h)
outer_low g (an_initial b ∷ ps) at number strings most behind within h =
    outer_low g ps at (number + 0) (strings + length (statements_code g b).texts) most behind within h
outer_low g (a_resource line ∷ ps) at number strings most behind within h =
    let s : Site = record (site_in g g.main) { line = line } in
    piece_first (closed_end s (SCAN number) refl) at strings most (put_from (at + 1) (before_main (coded g (number + 1) (strings + 0) ps))) behind
    (omega arith) (outer_low g ps (at + 1) (number + 1) (strings + 0) most behind within h)

outer_size :
    (g : Program) (ps : List Piece) (at number strings : ℕ)
    → length (put_from at (before_main (coded g number strings ps))) ≡ size_of (before_main (coded g number strings ps))
outer_size g [] at number strings = refl
outer_size g (a_body b ∷ ps) at number strings =
    let code = body_code g b in
    let size = (body_closed g b).sized at strings in
    let rest = outer_size g ps (at + code.size) (number + 0) (strings + length code.texts) in
    length-append (code.put at strings) (put_from (at + code.size) (before_main (coded g (number + 0) (strings + length code.texts) ps)))
    ∙ omega (arith, size, rest)
outer_size g (an_initial b ∷ ps) at number strings = outer_size g ps at (number + 0) (strings + length (statements_code g b).texts)
outer_size g (a_resource line ∷ ps) at number strings = let rest = outer_size g ps (at + 1) (number + 1) (strings + 0) in omega (arith, rest)

-- ## Main's code

initials_sum : List Piece → ℕ
initials_sum [] = 0
initials_sum (a_body b ∷ ps) = initials_sum ps
initials_sum (an_initial b ∷ ps) = body_nodes b + initials_sum ps
initials_sum (a_resource line ∷ ps) = initials_sum ps

inner_low :
    (g : Program) (main : Coded) (ps : List Piece) (at number strings k : ℕ)
    → ((a : ℕ) → Everywhere (ahead a (instructions (put_from a (main ∷ []))) []) k)
    → Everywhere (ahead at (instructions (put_from at (of_main (coded g number strings ps) ++ main ∷ []))) []) (k + 2 * initials_sum ps)
unfolding initials_sum
inner_low g main [] at number strings k h = λ i. let it = h at i in omega (arith, it)
inner_low g main (a_body b ∷ ps) at number strings k h = inner_low g main ps at (number + 0) (strings + length (body_code g b).texts) k h
inner_low g main (a_resource line ∷ ps) at number strings k h = inner_low g main ps at (number + 1) (strings + 0) k h
inner_low g main (an_initial b ∷ ps) at number strings k h =
    let code = statements_code g b in
    let behind = put_from (at + code.size) (of_main (coded g (number + 0) (strings + length code.texts) ps) ++ main ∷ []) in
    let rest = inner_low g main ps (at + code.size) (number + 0) (strings + length code.texts) k h in
    let size = (statements_short g b).sized at strings in
    let all =
    short_everywhere (statements_short g b) at strings (k + 2 * initials_sum ps) (ahead (at + code.size) (instructions behind) []) rest in
    subst (λ (xs : List ℕ). Everywhere xs (k + 2 * initials_sum (an_initial b ∷ ps)))
    (sym (ahead_append at (at + code.size) (code.put at strings) behind [] (omega (arith, size))))
    (λ i. let it = all i in omega (arith, it))

-- ## The pieces and the program

bodies-append : (ps qs : List Piece) → bodies_most (ps ++ qs) ≡ max (bodies_most ps) (bodies_most qs)
unfolding bodies_most
bodies-append [] qs = omega arith
bodies-append (a_body b ∷ ps) qs = let rest = bodies-append ps qs in omega (arith, rest)
bodies-append (an_initial b ∷ ps) qs = bodies-append ps qs
bodies-append (a_resource line ∷ ps) qs = bodies-append ps qs

most-append : (bs cs : List Block) → most_nodes (bs ++ cs) ≡ max (most_nodes bs) (most_nodes cs)
most-append [] cs = omega arith
most-append (b ∷ bs) cs = let rest = most-append bs cs in omega (arith, rest)

bodies_of : (bs : List Block) → bodies_most (map a_body bs) ≡ most_nodes bs
unfolding bodies_most
bodies_of [] = refl
bodies_of (b ∷ bs) = let rest = bodies_of bs in omega (arith, rest)

no_bodies_of : (bs : List Block) → bodies_most (map an_initial bs) ≡ 0
unfolding bodies_most
no_bodies_of [] = refl
no_bodies_of (b ∷ bs) = no_bodies_of bs

no_bodies_behind : (q : PartTree) → bodies_most (resource_end q) ≡ 0
unfolding bodies_most
no_bodies_behind (consts items) = refl
no_bodies_behind (types items) = refl
no_bodies_behind (vars vs) = refl
no_bodies_behind (sub_part b) = refl
no_bodies_behind (monitor m) = refl
no_bodies_behind (resource m) = refl
no_bodies_behind (process_part p) = refl

bodies_of_parts : (s : State) (n next : ℕ) (qs : PartTrees) → bodies_most (pieces s n next qs) ≡ most_nodes (parts_blocks s false 0 n [] next qs)
unfolding bodies_most
bodies_of_parts s n next no_parts = refl
bodies_of_parts s n next (more_parts q qs) =
    let own = part_blocks s false 0 n [] next q in
    let inits = part_inits s n next q in
    let next_n = passed_part (scope_at s.blocks.scopes 0) n q in
    let rest = pieces s next_n (next + part_scopes q) qs in
    let behind = parts_blocks s false 0 next_n [] (next + part_scopes q) qs in
    let a = bodies-append (map a_body own) (resource_end q ++ (map an_initial inits ++ rest)) in
    let b = bodies-append (resource_end q) (map an_initial inits ++ rest) in
    let c = bodies-append (map an_initial inits) rest in
    let whole = most-append own behind in
    let first = bodies_of own in
    let none = no_bodies_behind q in
    let no_more = no_bodies_of inits in
    let last : bodies_most rest ≡ most_nodes behind = bodies_of_parts s next_n (next + part_scopes q) qs in
    omega (arith, a, b, c, whole, first, none, no_more, last)

initials-append : (ps qs : List Piece) → initials_sum (ps ++ qs) ≡ initials_sum ps + initials_sum qs
unfolding initials_sum
initials-append [] qs = omega arith
initials-append (a_body b ∷ ps) qs = initials-append ps qs
initials-append (an_initial b ∷ ps) qs = let rest = initials-append ps qs in omega (arith, rest)
initials-append (a_resource line ∷ ps) qs = initials-append ps qs

initials_of : (bs : List Block) → initials_sum (map an_initial bs) ≡ sum_by body_nodes bs
unfolding initials_sum
initials_of [] = refl
initials_of (b ∷ bs) = let rest = initials_of bs in let same = sum_by-cons body_nodes b bs in omega (arith, rest, same)

no_initials_of : (bs : List Block) → initials_sum (map a_body bs) ≡ 0
unfolding initials_sum
no_initials_of [] = refl
no_initials_of (b ∷ bs) = no_initials_of bs

no_initials_behind : (q : PartTree) → initials_sum (resource_end q) ≡ 0
unfolding initials_sum
no_initials_behind (consts items) = refl
no_initials_behind (types items) = refl
no_initials_behind (vars vs) = refl
no_initials_behind (sub_part b) = refl
no_initials_behind (monitor m) = refl
no_initials_behind (resource m) = refl
no_initials_behind (process_part p) = refl

initials_of_parts : (s : State) (n next : ℕ) (qs : PartTrees) → initials_sum (pieces s n next qs) ≡ sum_by body_nodes (parts_inits s n next qs)
unfolding initials_sum
initials_of_parts s n next no_parts = refl
initials_of_parts s n next (more_parts q qs) =
    let own = part_blocks s false 0 n [] next q in
    let inits = part_inits s n next q in
    let next_n = passed_part (scope_at s.blocks.scopes 0) n q in
    let rest = pieces s next_n (next + part_scopes q) qs in
    let behind = parts_inits s next_n (next + part_scopes q) qs in
    let a = initials-append (map a_body own) (resource_end q ++ (map an_initial inits ++ rest)) in
    let b = initials-append (resource_end q) (map an_initial inits ++ rest) in
    let c = initials-append (map an_initial inits) rest in
    let whole = sum_by-append body_nodes inits behind in
    let first = no_initials_of own in
    let none = no_initials_behind q in
    let found = initials_of inits in
    let last : initials_sum rest ≡ sum_by body_nodes behind = initials_of_parts s next_n (next + part_scopes q) qs in
    omega (arith, a, b, c, whole, first, none, found, last)

-- ## The image

over_short :
    (g : Program) (t : ProgramTree) → bodies_most (pieces g.state 0 1 t.parts) ≡ most_nodes g.blocks
    → initials_sum (pieces g.state 0 1 t.parts) ≡ sum_by body_nodes g.modules
    → Everywhere (ahead 0 (image_over g t).code []) (2 * max (most_nodes g.blocks) (main_nodes g))
over_short g t bodies initials =
    let ps = pieces g.state 0 1 t.parts in
    let parts = coded g 0 0 ps in
    let n = length (strings_in parts) in
    let main : Coded = record { piece = a_body g.main; code = body_code g g.main; strings = n } in
    let at = size_of (before_main parts) in
    let outer = put_from 0 (before_main parts) in
    let inner = put_from at (of_main parts ++ main ∷ []) in
    let most = 2 * max (most_nodes g.blocks) (main_nodes g) in
    let size = outer_size g ps 0 0 0 in
    let main_low : (a : ℕ) → Everywhere (ahead a (instructions (put_from a (main ∷ []))) []) (2 * body_nodes g.main) =
    λ a. piece_first (body_closed g g.main) a n (2 * body_nodes g.main) [] [] (omega arith) (λ i. none i) in
    let inner_is = inner_low g main ps at 0 0 (2 * body_nodes g.main) main_low in
    subst (λ (xs : List ℕ). Everywhere xs most) (sym (ahead_append 0 at outer inner [] (omega (arith, size))))
    (outer_low g ps 0 0 0 most (ahead at (instructions inner) []) (omega (arith, bodies)) (λ i. let it = inner_is i in omega (arith, it, initials)))
  where
    none : {most : ℕ} (i : ℕ) → get_or [] i 0 ≤ most
    none i = omega arith

pub image_is_short : (t : ProgramTree) → All (λ x. x ≤ 2 * largest_body t) (ahead 0 (image_of t).code [])
image_is_short t =
    let every =
    over_short (program_of t) t (bodies_of_parts (program_of t).state 0 1 t.parts) (initials_of_parts (program_of t).state 0 1 t.parts) in
    All-from_get_or (λ x. x ≤ 2 * largest_body t) (ahead 0 (image_of t).code []) 0 (λ i within. every i)
