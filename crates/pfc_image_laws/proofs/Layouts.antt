-- How the code of an image is laid out: by induction over what stands in the text.
use Rattle.std.proofs.Common.{◌≡◌, ℕ, ◌+◌, ◌-◌, ◌<◌, ◌≤◌, true, false, List, [], ◌∷◌, ◌++◌, slice_index_or, length, map, Option, Some, None, refl, ap, sym, ◌∙◌}
use Rattle.std.proofs.Common.{subst, arith, length-append}
use Rattle.std.proofs.lemmas.List.{length-map, append-nil, append_assoc}
use Rattle.std.specs.List.{All, last_or}
use Rattle.std.proofs.lemmas.List.Elements.{All-cons, All-map}
use Rattle.pfc_tree.specs.Symbols.{Text}
use Rattle.pfc_tree.specs.trees.Parts.{PartTree, PartTrees, ProgramTree, consts, types, vars, sub_part, monitor, resource, process_part, no_parts, more_parts}
use Rattle.pfc_types.specs.Scopes.{scope_at}
use Rattle.pfc_types.specs.Blocks.{State, process_at}
use Rattle.pfc_types.specs.rules.Bodies.{passed_part, part_scopes}
use Rattle.pfc_types.specs.declared.heads.SubHead.{SubHead}
use Rattle.pfc_types.specs.declared.heads.SubSort.{SubSort}
use Rattle.pfc_types.specs.declared.heads.SubSort.TheVariants.{Procedure, Guarded, Function}
use Rattle.pfc_semantics.specs.Layouts.{sub_with}
use Rattle.pfc_semantics.specs.Programs.{Program, Block, Guard, part_blocks, parts_blocks, part_inits, program_of}
use Rattle.pfc_code.specs.declared.instructions.Instr.{Instr}
use Rattle.pfc_code.specs.declared.instructions.Instr.TheVariants.{GRD}
use Rattle.pfc_code.specs.declared.images.Block.{Block as CodeBlock}
use Rattle.pfc_code.specs.declared.images.ProcessInfo.{ProcessInfo}
use Rattle.pfc_code.specs.Images.{PlainImage}
use Rattle.pfc_translation.specs.Sites.{Site, level_of}
use Rattle.pfc_translation.specs.Codes.{Code, Lined, ◌⨾◌, one}
use Rattle.pfc_translation.specs.Expressions.{expr_code}
use Rattle.pfc_translation.specs.Calls.{resource_of}
use Rattle.pfc_translation.specs.Objects.{all_labelled, names_labelled, process_info, processes_of}
use Rattle.pfc_translation.specs.Images.{main_process, site_in, guard_code, end_of, statements_code, body_code, Piece, a_body, an_initial, a_resource}
use Rattle.pfc_translation.specs.Images.{resource_end, pieces, Coded, piece_code, resources_in, coded, strings_in, before_main, of_main, size_of, put_from}
use Rattle.pfc_translation.specs.Images.{instructions, block_from, blocks_from, main_block, scans_from, image_over, image_of}
use Rattle.pfc_image_laws.specs.Operands.{ends_body}
use Rattle.pfc_image_laws.specs.Instructions.{Each, Leads, GoesOn, NamesBlock, NamesText, StaysAbove, IsEnded}
use Rattle.pfc_image_laws.specs.Layouts.{IsOwn, LaidOut, a_block, a_scan, of_main as the_main}
use Rattle.pfc_image_laws.proofs.Holds.{block_within, Holds, Fits, held_size, held_each, each_append, each_then, holds_nothing, holds_joined, holds_alone}
use Rattle.pfc_image_laws.proofs.Holds.{expr_holds, stmts_hold, each_goes_on, each_links}

-- ## Lists

pub instructions-append : (a b : Lined) → instructions (a ++ b) ≡ instructions a ++ instructions b
instructions-append [] b = refl
instructions-append (i ∷ a) b = ap (λ (x : List Instr). i.0 ∷ x) (instructions-append a b)

instructions_before : (a b : Lined) (code : List Instr) → instructions a ++ (instructions b ++ code) ≡ instructions (a ++ b) ++ code
instructions_before [] b code = refl
instructions_before (i ∷ a) b code = ap (λ (x : List Instr). i.0 ∷ x) (instructions_before a b code)

ended_append : (a b : Lined) (at : ℕ) → Each GoesOn at (instructions a) → IsEnded (instructions b) → IsEnded (instructions (a ++ b))
ended_append [] b at h e = e
ended_append (i ∷ []) [] at h e = absurd e
ended_append (i ∷ []) (j ∷ b) at h e = (h.0, e)
ended_append (i ∷ (j ∷ a)) b at h e = (h.0, ended_append (j ∷ a) b (at + 1) h.1 e)

last-append : (o : Option Instr) (a : Lined) (i : Instr × ℕ) → last_or o (instructions (a ++ i ∷ [])) ≡ Some i.0
last-append o [] i = refl
last-append o (j ∷ a) i = last-append (Some j.0) a i

-- ## Bodies

guard_holds : (g : Program) (b : Block) (guard : Option Guard) (m k : ℕ) → Holds g b m k (guard_code g b guard)
guard_holds g b None m k = holds_nothing g b m k
guard_holds g b (Some guard) m k =
    let s : Site = record { program = g; block = b; env = guard.env; line = guard.line } in
    holds_joined g b m k (expr_code s guard.test) (one s (GRD (resource_of s))) (expr_holds s guard.test m (1 + k))
    (holds_alone s (m + (expr_code s guard.test).size) k (GRD (resource_of s)) ((refl, refl, refl, refl, refl, refl), λ n. refl))

pub statements_hold : (g : Program) (b : Block) (m k : ℕ) → Holds g b m k (statements_code g b)
statements_hold g b m k = stmts_hold (site_in g b) b.next b.stmts m k

-- the guard and the statements, without the end
before_end : Program → Block → Code
before_end g b = guard_code g b b.guard ⨾ statements_code g b

-- what holds of each instruction of a block, its end with the others
pub record Kept (g : Program) (from to first last : ℕ) (at : ℕ) (i : Instr) : Type 0 where
  pub leads : Leads from to at i
  pub block : NamesBlock (length g.blocks + 1) at i
  pub text : NamesText first last at i

kept_of : (g : Program) (b : Block) (from to first last at : ℕ) (code : List Instr) → Each (Fits g b from to first last) at code → Each
    (Kept g from to first last) at code
kept_of g b from to first last at code h =
    each_then (Fits g b from to first last) (Kept g from to first last) at code (λ a i f. record { leads = f.leads; block = f.block; text = f.text }) h

-- the end of a body names nothing
EndsWith : Program → Instr → Type 0
EndsWith g i =
    (ends_body i ≡ true) × ((from to first last at : ℕ) → Kept g from to first last at i) × ((level at : ℕ) → StaysAbove level at i)

end_alone : (g : Program) (head : Option SubHead) → EndsWith g (end_of head)
unfolding EndsWith
end_alone g None = (refl, (λ from to first last at. record { leads = (tt, tt); block = tt; text = tt }), λ level at. tt)
end_alone g (Some head) = by head.sort
  where
    by : (sort : SubSort) → EndsWith g (end_of (Some (record head { sort = sort })))
    by Procedure = (refl, (λ from to first last at. record { leads = (tt, tt); block = tt; text = tt }), λ level at. tt)
    by Guarded = (refl, (λ from to first last at. record { leads = (tt, tt); block = tt; text = tt }), λ level at. tt)
    by (Function t) = (refl, (λ from to first last at. record { leads = (tt, tt); block = tt; text = tt }), λ level at. tt)

-- the code of a body, wherever it is put
pub record IsBody (g : Program) (b : Block) (at n : ℕ) : Type 0 where
  pub size : length ((body_code g b).put at n) ≡ (body_code g b).size
  pub kept_all :
      (from to first last : ℕ) → from ≤ at → at + (body_code g b).size ≤ to + 1 → first ≤ n → n + length (body_code g b).texts ≤ last
      → Each (Kept g from to first last) at (instructions ((body_code g b).put at n))
  pub links : Each (StaysAbove (level_of g.state.blocks b)) at (instructions ((body_code g b).put at n))
  pub ended : IsEnded (instructions ((body_code g b).put at n))
  pub last : last_or None (instructions ((body_code g b).put at n)) ≡ Some (end_of (sub_with g.state.blocks.subs b.scope))

pub body : (g : Program) (b : Block) (at n : ℕ) → IsBody g b at n
unfolding EndsWith
body g b at n =
    let guard = guard_code g b b.guard in
    let stmts = statements_code g b in
    let end = end_of (sub_with g.state.blocks.subs b.scope) in
    let last_of = end_alone g (sub_with g.state.blocks.subs b.scope) in
    let middle = at + guard.size in
    let strings = n + length guard.texts in
    let first_part = guard.put at n in
    let second_part = stmts.put middle strings in
    let end_part : Lined = (end, (site_in g b).line) ∷ [] in
    let first_size : length first_part ≡ guard.size = held_size g b 0 stmts.size guard (guard_holds g b b.guard 0 stmts.size) at n in
    let second_size : length second_part ≡ stmts.size = held_size g b guard.size 0 stmts (statements_hold g b guard.size 0) middle strings in
    let p = held_each g b 0 stmts.size guard (guard_holds g b b.guard 0 stmts.size) at n in
    let q = held_each g b guard.size 0 stmts (statements_hold g b guard.size 0) middle strings in
    let texts : length (body_code g b).texts ≡ length guard.texts + length stmts.texts =
    length-append guard.texts (stmts.texts ++ []) ∙ ap (λ (x : List Text). length guard.texts + length x) (append-nil stmts.texts) in
    let fits_first = p at (middle + stmts.size) n (n + length guard.texts) (omega arith) (omega arith) (omega arith) (omega arith) in
    let fits_second = q at (middle + stmts.size) strings (strings + length stmts.texts) (omega arith) (omega arith) (omega arith) (omega arith) in
    record {
      size = length-append first_part (second_part ++ end_part) ∙
          (let more = length-append second_part end_part in omega (arith, first_size, second_size, more));
      kept_all = λ from to first last u v w z.
          let all = Kept g from to first last in
          each_append all at first_part (second_part ++ end_part)
          (kept_of g b from to first last at (instructions first_part) (p from to first last (omega (arith, u)) (omega (arith, v)) w (omega (arith, z, texts))))
          (subst (λ j. Each all j (instructions (second_part ++ end_part))) (omega (arith, first_size))
          (each_append all middle second_part end_part
          (kept_of g b from to first last middle (instructions second_part)
          (q from to first last (omega (arith, u)) (omega (arith, v)) (omega (arith, w)) (omega (arith, z, texts))))
          (last_of.1 from to first last (middle + length second_part), tt)));
      links =
          let above = StaysAbove (level_of g.state.blocks b) in
          each_append above at first_part (second_part ++ end_part)
          (each_links g b at (middle + stmts.size) n (n + length guard.texts) at (instructions first_part) fits_first)
          (subst (λ j. Each above j (instructions (second_part ++ end_part))) (omega (arith, first_size))
          (each_append above middle second_part end_part
          (each_links g b at (middle + stmts.size) strings (strings + length stmts.texts) middle (instructions second_part) fits_second)
          (last_of.2 (level_of g.state.blocks b) (middle + length second_part), tt)));
      ended =
          ended_append first_part (second_part ++ end_part) at
          (each_goes_on g b at (middle + stmts.size) n (n + length guard.texts) at (instructions first_part) fits_first)
          (ended_append second_part end_part middle
          (each_goes_on g b at (middle + stmts.size) strings (strings + length stmts.texts) middle (instructions second_part) fits_second) last_of.0);
      last =
          ap (λ (x : Lined). last_or None (instructions x)) (sym (append_assoc first_part second_part end_part))
          ∙ last-append None (first_part ++ second_part) (end, (site_in g b).line);
    }

pub body_kept :
    (g : Program) (b : Block) (at strings : ℕ)
    → Each (Kept g at (at + (body_code g b).size - 1) strings (strings + length (body_code g b).texts)) at (instructions ((body_code g b).put at strings))
body_kept g b at strings =
    (body g b at strings).kept_all at (at + (body_code g b).size - 1) strings (strings + length (body_code g b).texts) (omega arith) (omega arith)
    (omega arith) (omega arith)

-- ## Blocks

texts_behind : (g : Program) (number strings : ℕ) (p : Piece) (ps : List Piece) (last : ℕ)
    → strings + length (strings_in (coded g number strings (p ∷ ps))) ≤ last
    → strings + length (piece_code g number p).texts + length
    (strings_in (coded g (number + resources_in p) (strings + length (piece_code g number p).texts) ps)) ≤ last
texts_behind g number strings p ps last h =
    let c = piece_code g number p in
    let rest = strings_in (coded g (number + resources_in p) (strings + length c.texts) ps) in
    let whole : strings + length (c.texts ++ rest) ≤ last = h in
    omega (arith, whole, length-append c.texts rest)

a_block_own :
    (g : Program) (image : PlainImage) (b : Block) (c : Coded) (at strings : ℕ) → length image.blocks ≡ length g.blocks + 1
    → strings + length (body_code g b).texts ≤ length image.texts
    → IsOwn image (block_from g at b c) (instructions ((body_code g b).put at strings))
a_block_own g image b c at strings count within =
    let code = (body_code g b).put at strings in
    let is = body g b at strings in
    let guard = guard_code g b b.guard in
    let size : length (instructions code) ≡ guard.size + ((statements_code g b).size + 1) = length-map code (λ i. i.0) ∙ is.size in
    let all = is.kept_all at (at + length (instructions code) - 1) 0 (length image.texts) (omega arith) (omega (arith, size)) (omega arith) within in
    record {
      body = (omega arith, omega (arith, size));
      jumps = each_then (Kept g at (at + length (instructions code) - 1) 0 (length image.texts)) (Leads at (at + length (instructions code) - 1)) at
          (instructions code) (λ a i f. f.leads) all;
      ends = is.ended;
      blocks =
          subst (λ n. Each (NamesBlock n) at (instructions code)) (sym count)
          (each_then (Kept g at (at + length (instructions code) - 1) 0 (length image.texts)) (NamesBlock (length g.blocks + 1)) at (instructions code)
          (λ a i f. f.block) all);
      texts = each_then (Kept g at (at + length (instructions code) - 1) 0 (length image.texts)) (NamesText 0 (length image.texts)) at (instructions code)
          (λ a i f. f.text) all;
    }

-- what stands before main is laid out where what stands behind it is
laid :
    (g : Program) (image : PlainImage) (count : length image.blocks ≡ length g.blocks + 1) (ps : List Piece) (at number strings : ℕ)
    (blocks : List CodeBlock) (scans : List ℕ) (code : List Instr)
    → strings + length (strings_in (coded g number strings ps)) ≤ length image.texts
    → ((to last : ℕ) → to ≡ at + size_of (before_main (coded g number strings ps)) → LaidOut image to last blocks scans code)
    → LaidOut image at number (blocks_from g at (before_main (coded g number strings ps)) ++ blocks)
    (scans_from at (before_main (coded g number strings ps)) ++ scans) (instructions (put_from at (before_main (coded g number strings ps))) ++ code)
laid g image count [] at number strings blocks scans code within rest = rest at number (omega arith)
laid g image count (a_body b ∷ ps) at number strings blocks scans code within rest =
    let body_is = body_code g b in
    let c : Coded = record { piece = a_body b; code = body_is; strings = strings } in
    let further = before_main (coded g (number + 0) (strings + length body_is.texts) ps) in
    let own_code = body_is.put at strings in
    let behind = texts_behind g number strings (a_body b) ps (length image.texts) within in
    let size : length (instructions own_code) ≡ body_is.size = length-map own_code (λ i. i.0) ∙ (body g b at strings).size in
    let next : LaidOut image (at + body_is.size) (number + 0) (blocks_from g (at + body_is.size) further ++ blocks)
    (scans_from (at + body_is.size) further ++ scans) (instructions (put_from (at + body_is.size) further) ++ code) =
    laid g image count ps (at + body_is.size) (number + 0) (strings + length body_is.texts) blocks scans code behind
    (λ to last e. rest to last (e ∙ omega arith)) in
    let moved : LaidOut image (at + length (instructions own_code)) number (blocks_from g (at + body_is.size) further ++ blocks)
    (scans_from (at + body_is.size) further ++ scans) (instructions (put_from (at + body_is.size) further) ++ code) =
    subst (λ j. LaidOut image j number (blocks_from g (at + body_is.size) further ++ blocks) (scans_from (at + body_is.size) further ++ scans)
    (instructions (put_from (at + body_is.size) further) ++ code)) (sym (ap (λ n. at + n) size))
    (subst (λ j. LaidOut image (at + body_is.size) j (blocks_from g (at + body_is.size) further ++ blocks) (scans_from (at + body_is.size) further ++ scans)
    (instructions (put_from (at + body_is.size) further) ++ code)) (omega arith) next) in
    subst (λ (x : List Instr). LaidOut image at number (block_from g at b c ∷ (blocks_from g (at + body_is.size) further ++ blocks))
    (scans_from (at + body_is.size) further ++ scans) x)
    (instructions_before own_code (put_from (at + body_is.size) further) code)
    (a_block (block_from g at b c) (instructions own_code) (a_block_own g image b c at strings count (omega (arith, behind))) (body g b at strings).links moved)
laid g image count (an_initial b ∷ ps) at number strings blocks scans code within rest =
    let size = length (statements_code g b).texts in
    let further = before_main (coded g (number + 0) (strings + size) ps) in
    subst (λ j. LaidOut image at j (blocks_from g at further ++ blocks) (scans_from at further ++ scans) (instructions (put_from at further) ++ code))
    (omega arith)
    (laid g image count ps at (number + 0) (strings + size) blocks scans code
    (texts_behind g number strings (an_initial b) ps (length image.texts) within) rest)
laid g image count (a_resource line ∷ ps) at number strings blocks scans code within rest =
    a_scan
    (laid g image count ps (at + 1) (number + 1) (strings + 0) blocks scans code
    (texts_behind g number strings (a_resource line) ps (length image.texts) within)
    (λ to last e. rest to last (e ∙ omega arith)))

-- ## Main's code

inner_kept :
    (g : Program) (from to last : ℕ) (main : Coded) (ps : List Piece) (at number strings : ℕ)
    → from ≤ at → at + size_of (of_main (coded g number strings ps)) ≤ to
    → strings + length (strings_in (coded g number strings ps)) ≤ last
    → ((a : ℕ) → a ≡ at + size_of (of_main (coded g number strings ps)) → Each (Kept g from to 0 last) a (instructions (put_from a (main ∷ []))))
    → Each (Kept g from to 0 last) at (instructions (put_from at (of_main (coded g number strings ps) ++ main ∷ [])))
inner_kept g from to last main [] at number strings u v w rest = rest at (omega arith)
inner_kept g from to last main (a_body b ∷ ps) at number strings u v w rest =
    inner_kept g from to last main ps at (number + 0) (strings + length (body_code g b).texts) u v (texts_behind g number strings (a_body b) ps last w) rest
inner_kept g from to last main (a_resource line ∷ ps) at number strings u v w rest =
    inner_kept g from to last main ps at (number + 1) (strings + 0) u v (texts_behind g number strings (a_resource line) ps last w) rest
inner_kept g from to last main (an_initial b ∷ ps) at number strings u v w rest =
    let code = statements_code g b in
    let further = of_main (coded g (number + 0) (strings + length code.texts) ps) in
    let within : at + (code.size + size_of further) ≤ to = v in
    let behind = texts_behind g number strings (an_initial b) ps last w in
    let first_part = code.put at strings in
    let size : length first_part ≡ code.size = held_size g b 0 0 code (statements_hold g b 0 0) at strings in
    each_append (Kept g from to 0 last) at first_part (put_from (at + code.size) (further ++ main ∷ []))
    (kept_of g b from to 0 last at (instructions first_part)
    (held_each g b 0 0 code (statements_hold g b 0 0) at strings from to 0 last (omega (arith, u)) (omega (arith, within)) (omega arith)
    (omega (arith, behind))))
    (subst (λ j. Each (Kept g from to 0 last) j (instructions (put_from (at + code.size) (further ++ main ∷ [])))) (omega (arith, size))
    (inner_kept g from to last main ps (at + code.size) (number + 0) (strings + length code.texts) (omega (arith, u)) (omega (arith, within)) behind
    (λ a e. rest a (e ∙ omega arith))))

inner_ended :
    (g : Program) (main : Coded) (ps : List Piece) (at number strings : ℕ) → ((a : ℕ) → IsEnded (instructions (put_from a (main ∷ []))))
    → IsEnded (instructions (put_from at (of_main (coded g number strings ps) ++ main ∷ [])))
inner_ended g main [] at number strings rest = rest at
inner_ended g main (a_body b ∷ ps) at number strings rest = inner_ended g main ps at (number + 0) (strings + length (body_code g b).texts) rest
inner_ended g main (a_resource line ∷ ps) at number strings rest = inner_ended g main ps at (number + 1) (strings + 0) rest
inner_ended g main (an_initial b ∷ ps) at number strings rest =
    let code = statements_code g b in
    let further = of_main (coded g (number + 0) (strings + length code.texts) ps) in
    ended_append (code.put at strings) (put_from (at + code.size) (further ++ main ∷ [])) at
    (each_goes_on g b at (at + code.size) strings (strings + length code.texts) at (instructions (code.put at strings))
    (held_each g b 0 0 code (statements_hold g b 0 0) at strings at (at + code.size) strings (strings + length code.texts) (omega arith) (omega arith)
    (omega arith) (omega arith)))
    (inner_ended g main ps (at + code.size) (number + 0) (strings + length code.texts) rest)

inner_size :
    (g : Program) (main : Coded) (ps : List Piece) (at number strings : ℕ) → ((a : ℕ) → length (put_from a (main ∷ [])) ≡ main.code.size)
    → length (put_from at (of_main (coded g number strings ps) ++ main ∷ [])) ≡ size_of (of_main (coded g number strings ps)) + main.code.size
inner_size g main [] at number strings rest = rest at ∙ omega arith
inner_size g main (a_body b ∷ ps) at number strings rest = inner_size g main ps at (number + 0) (strings + length (body_code g b).texts) rest
inner_size g main (a_resource line ∷ ps) at number strings rest = inner_size g main ps at (number + 1) (strings + 0) rest
inner_size g main (an_initial b ∷ ps) at number strings rest =
    let code = statements_code g b in
    let further = of_main (coded g (number + 0) (strings + length code.texts) ps) in
    let size : length (code.put at strings) ≡ code.size = held_size g b 0 0 code (statements_hold g b 0 0) at strings in
    let behind = inner_size g main ps (at + code.size) (number + 0) (strings + length code.texts) rest in
    length-append (code.put at strings) (put_from (at + code.size) (further ++ main ∷ [])) ∙ omega (arith, size, behind)

-- ## How many blocks

bodies_in : List Piece → ℕ
bodies_in [] = 0
bodies_in (a_body b ∷ ps) = 1 + bodies_in ps
bodies_in (an_initial b ∷ ps) = bodies_in ps
bodies_in (a_resource line ∷ ps) = bodies_in ps

bodies-append : (ps qs : List Piece) → bodies_in (ps ++ qs) ≡ bodies_in ps + bodies_in qs
unfolding bodies_in
bodies-append [] qs = omega arith
bodies-append (a_body b ∷ ps) qs = let rest = bodies-append ps qs in omega (arith, rest)
bodies-append (an_initial b ∷ ps) qs = bodies-append ps qs
bodies-append (a_resource line ∷ ps) qs = bodies-append ps qs

bodies_of : (bs : List Block) → bodies_in (map a_body bs) ≡ length bs
unfolding bodies_in
bodies_of [] = refl
bodies_of (b ∷ bs) = let rest = bodies_of bs in omega (arith, rest)

no_bodies_of : (bs : List Block) → bodies_in (map an_initial bs) ≡ 0
unfolding bodies_in
no_bodies_of [] = refl
no_bodies_of (b ∷ bs) = no_bodies_of bs

no_bodies_behind : (q : PartTree) → bodies_in (resource_end q) ≡ 0
unfolding bodies_in
no_bodies_behind (consts items) = refl
no_bodies_behind (types items) = refl
no_bodies_behind (vars vs) = refl
no_bodies_behind (sub_part b) = refl
no_bodies_behind (monitor m) = refl
no_bodies_behind (resource m) = refl
no_bodies_behind (process_part p) = refl

-- what stands in a text are the bodies of all blocks, and what is none
bodies_of_parts : (s : State) (n next : ℕ) (qs : PartTrees) → bodies_in (pieces s n next qs) ≡ length (parts_blocks s false 0 n [] next qs)
unfolding bodies_in
bodies_of_parts s n next no_parts = refl
bodies_of_parts s n next (more_parts q qs) =
    let own = part_blocks s false 0 n [] next q in
    let inits = part_inits s n next q in
    let next_n = passed_part (scope_at s.blocks.scopes 0) n q in
    let rest = pieces s next_n (next + part_scopes q) qs in
    let further : bodies_in rest ≡ length (parts_blocks s false 0 next_n [] (next + part_scopes q) qs) = bodies_of_parts s next_n (next + part_scopes q) qs in
    bodies-append (map a_body own) (resource_end q ++ (map an_initial inits ++ rest))
    ∙ ap (λ x. bodies_in (map a_body own) + x) (bodies-append (resource_end q) (map an_initial inits ++ rest))
    ∙ ap (λ x. bodies_in (map a_body own) + (bodies_in (resource_end q) + x)) (bodies-append (map an_initial inits) rest)
    ∙ (let whole = length-append own (parts_blocks s false 0 next_n [] (next + part_scopes q) qs) in
    omega (arith, bodies_of own, no_bodies_behind q, no_bodies_of inits, further, whole))

blocks_count :
    (g : Program) (ps : List Piece) (at number strings : ℕ) → length (blocks_from g at (before_main (coded g number strings ps))) ≡ bodies_in ps
unfolding bodies_in
blocks_count g [] at number strings = refl
blocks_count g (a_body b ∷ ps) at number strings =
    let rest = blocks_count g ps (at + (body_code g b).size) (number + 0) (strings + length (body_code g b).texts) in omega (arith, rest)
blocks_count g (an_initial b ∷ ps) at number strings = blocks_count g ps at (number + 0) (strings + length (statements_code g b).texts)
blocks_count g (a_resource line ∷ ps) at number strings = blocks_count g ps (at + 1) (number + 1) (strings + 0)

-- ## The image

-- main's code, with the initialising bodies before the main body
main_own :
    (g : Program) (image : PlainImage) (name : Text) (ps : List Piece) (at : ℕ) → length image.blocks ≡ length g.blocks + 1
    → length image.texts ≡ length (strings_in (coded g 0 0 ps)) + length (body_code g g.main).texts
    → (main : Coded) → main ≡ record { piece = a_body g.main; code = body_code g g.main; strings = length (strings_in (coded g 0 0 ps)) }
    → IsOwn image (main_block g name at (put_from at (of_main (coded g 0 0 ps) ++ main ∷ [])))
    (instructions (put_from at (of_main (coded g 0 0 ps) ++ main ∷ [])))
main_own g image name ps at count texts main is = subst (λ m. IsOwn image (main_block g name at (put_from at (of_main (coded g 0 0 ps) ++ m ∷ [])))
    (instructions (put_from at (of_main (coded g 0 0 ps) ++ m ∷ [])))) (sym is) own
  where
    n : ℕ
    n = length (strings_in (coded g 0 0 ps))

    the : Coded
    the = record { piece = a_body g.main; code = body_code g g.main; strings = n }

    code : Lined
    code = put_from at (of_main (coded g 0 0 ps) ++ the ∷ [])

    whole : (a : ℕ) → (body_code g g.main).put a n ≡ put_from a (the ∷ [])
    whole a = sym (append-nil ((body_code g g.main).put a n))

    size : length (instructions code) ≡ size_of (of_main (coded g 0 0 ps)) + (body_code g g.main).size
    size = length-map code (λ i. i.0) ∙ inner_size g the ps at 0 0 (λ a. ap length (sym (whole a)) ∙ (body g g.main a n).size)

    some : 0 < (body_code g g.main).size
    some = omega arith

    to : ℕ
    to = at + length (instructions code) - 1

    all : Each (Kept g at to 0 (length image.texts)) at (instructions code)
    all =
        inner_kept g at to (length image.texts) the ps at 0 0 (omega arith) (omega (arith, size, some)) (omega (arith, texts))
        (λ a e. subst (λ (x : Lined). Each (Kept g at to 0 (length image.texts)) a (instructions x)) (whole a)
        ((body g g.main a n).kept_all at to 0 (length image.texts) (omega (arith, e)) (omega (arith, e, size, some)) (omega arith) (omega (arith, texts))))

    own : IsOwn image (main_block g name at code) (instructions code)
    own = record {
      body = (omega arith, omega (arith, size, some));
      jumps = each_then (Kept g at to 0 (length image.texts)) (Leads at to) at (instructions code) (λ a i f. f.leads) all;
      ends = inner_ended g the ps at 0 0 (λ a. subst (λ (x : Lined). IsEnded (instructions x)) (whole a) (body g g.main a n).ended);
      blocks =
          subst (λ k. Each (NamesBlock k) at (instructions code)) (sym count)
          (each_then (Kept g at to 0 (length image.texts)) (NamesBlock (length g.blocks + 1)) at (instructions code) (λ a i f. f.block) all);
      texts = each_then (Kept g at to 0 (length image.texts)) (NamesText 0 (length image.texts)) at (instructions code) (λ a i f. f.text) all;
    }

over_count : (g : Program) (t : ProgramTree) → length g.blocks ≡ bodies_in (pieces g.state 0 1 t.parts) → length (image_over g t).blocks ≡ length g.blocks + 1
over_count g t is =
    let ps = pieces g.state 0 1 t.parts in
    let parts = coded g 0 0 ps in
    let blocks = blocks_from g 0 (before_main parts) in
    let main : Coded = record { piece = a_body g.main; code = body_code g g.main; strings = length (strings_in parts) } in
    let at = size_of (before_main parts) in
    length-append blocks (main_block g t.name.0 at (put_from at (of_main parts ++ main ∷ [])) ∷ []) ∙
    (let number = blocks_count g ps 0 0 0 in omega (arith, number, is))

over_laid :
    (g : Program) (t : ProgramTree) → length g.blocks ≡ bodies_in (pieces g.state 0 1 t.parts)
    → LaidOut (image_over g t) 0 0 (image_over g t).blocks (image_over g t).scans (image_over g t).code
over_laid g t is =
    let image = image_over g t in
    let ps = pieces g.state 0 1 t.parts in
    let parts = coded g 0 0 ps in
    let main : Coded = record { piece = a_body g.main; code = body_code g g.main; strings = length (strings_in parts) } in
    let at = size_of (before_main parts) in
    let code = put_from at (of_main parts ++ main ∷ []) in
    let block = main_block g t.name.0 at code in
    let count = over_count g t is in
    let texts : length image.texts ≡ length (strings_in parts) + length (body_code g g.main).texts = length-append (strings_in parts)
    (body_code g g.main).texts in
    let own = main_own g image t.name.0 ps at count texts main refl in
    let outer = put_from 0 (before_main parts) in
    let blocks = blocks_from g 0 (before_main parts) ++ block ∷ [] in
    let within : 0 + length (strings_in parts) ≤ length image.texts = omega (arith, texts) in
    let all : LaidOut image 0 0 blocks (scans_from 0 (before_main parts) ++ []) (instructions outer ++ instructions code) =
    laid g image count ps 0 0 0 (block ∷ []) [] (instructions code) within
    (λ to last e. subst (λ j. LaidOut image j last (block ∷ []) [] (instructions code)) (sym (e ∙ omega arith)) (the_main block (instructions code) own)) in
    subst (λ (x : List ℕ). LaidOut image 0 0 blocks x (instructions (outer ++ code))) (append-nil (scans_from 0 (before_main parts)))
    (subst (λ (x : List Instr). LaidOut image 0 0 blocks (scans_from 0 (before_main parts) ++ []) x) (sym (instructions-append outer code)) all)

pub image_laid : (t : ProgramTree) → LaidOut (image_of t) 0 0 (image_of t).blocks (image_of t).scans (image_of t).code
image_laid t = over_laid (program_of t) t (sym (bodies_of_parts (program_of t).state 0 1 t.parts))

pub image_count : (t : ProgramTree) → length (image_of t).blocks ≡ length (program_of t).blocks + 1
image_count t = over_count (program_of t) t (sym (bodies_of_parts (program_of t).state 0 1 t.parts))

pub image_lines : (t : ProgramTree) → length (image_of t).lines ≡ length (image_of t).code
image_lines t = lines (program_of t)
  where
    lines : (g : Program) → length (image_over g t).lines ≡ length (image_over g t).code
    lines g =
        let parts = coded g 0 0 (pieces g.state 0 1 t.parts) in
        let main : Coded = record { piece = a_body g.main; code = body_code g g.main; strings = length (strings_in parts) } in
        let at = size_of (before_main parts) in
        let code = put_from 0 (before_main parts) ++ put_from at (of_main parts ++ main ∷ []) in
        length-map code (λ c. c.1) ∙ sym (length-map code (λ c. c.0))

pub image_processes : (t : ProgramTree) → All (λ (p : ProcessInfo). p.block < length (image_of t).blocks) (image_of t).processes
image_processes t =
    subst (λ n. All (λ (p : ProcessInfo). p.block < n) (image_of t).processes) (sym (image_count t)) (each (program_of t))
  where
    each : (g : Program) → All (λ (p : ProcessInfo). p.block < length g.blocks + 1) (image_over g t).processes
    each g =
        All-cons (λ p. p.block < length g.blocks + 1) (main_process g t.name.0) (processes_of g) (omega arith)
        (All-map (λ p. p.block < length g.blocks + 1) (λ p. process_info g p) (names_labelled (all_labelled g.state.forms) (scope_at g.state.blocks.scopes 0))
        (λ k d within. block_within g (process_at g.state.blocks
        (slice_index_or (names_labelled (all_labelled g.state.forms) (scope_at g.state.blocks.scopes 0)) k d).0).scope))
