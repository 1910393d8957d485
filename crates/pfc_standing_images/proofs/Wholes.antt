-- The whole image: its code with the lines, and the blocks, the turns of scans and main in it.
use Rattle.std.proofs.Common.{◌≡◌, ℕ, zero, suc, ◌+◌, ◌≤◌, max, false, List, [], ◌∷◌, ◌++◌, length, map, Option, Some, None, refl, ap, ap₂, ◌∙◌, sym, subst}
use Rattle.std.proofs.Common.{arith}
use Rattle.std.specs.Prelude.{slice_get, get_or}
use Rattle.std.proofs.lemmas.Option.{none-some, same_Some}
use Rattle.pfc_code.specs.declared.instructions.Instr.{Instr}
use Rattle.pfc_code.specs.declared.instructions.Instr.TheVariants.{SCAN}
use Rattle.pfc_code.specs.declared.images.Block.{Block as CodeBlock}
use Rattle.pfc_tree.specs.trees.Stmts.{BodyTree, body}
use Rattle.pfc_tree.specs.trees.Parts.{ProgramTree}
use Rattle.pfc_types.specs.Scopes.{scope_at}
use Rattle.pfc_types.specs.rules.Expressions.{Env}
use Rattle.pfc_types.specs.rules.Bodies.{parts_scopes}
use Rattle.pfc_types.specs.rules.Whole.{finished}
use Rattle.pfc_semantics.specs.Layouts.{Layout, main_layout}
use Rattle.pfc_semantics.specs.Programs.{Block, Guard, Program, block_of, env_of_main, parts_blocks, parts_inits, ends_of_resources, program_of}
use Rattle.pfc_translation.specs.Codes.{Lined}
use Rattle.pfc_translation.specs.Operands.{most_operands}
use Rattle.pfc_translation.specs.Images.{guard_code, statements_code, body_code, Piece, a_body, an_initial, a_resource, pieces, Coded, coded, strings_in}
use Rattle.pfc_translation.specs.Images.{most_arms, before_main, of_main, size_of, put_from, instructions, blocks_from, main_block, scans_from, image_over}
use Rattle.pfc_translation.specs.Images.{image_of}
use Rattle.pfc_standing_code.specs.Settings.{Setting, IsAt, HasCode, HasTexts}
use Rattle.pfc_standing_code.specs.Performs.{own_again}
use Rattle.pfc_standing_images.specs.Images.{IsOfImage, HasPhrase, HasBody, BlockStands, StatementsThen, MainStands}
use Rattle.pfc_standing_images.proofs.Places.{most_front, has_front, has_back, has_all, texts_front, texts_back, texts_all}
use Rattle.pfc_standing_images.proofs.Pieces.{ends_in, bodies_of_parts, initials_of_parts, ends_of_parts}
use Rattle.pfc_standing_images.proofs.Images.{size_put, body_in, AllStand, ScansStand, blocks_placed, scans_placed, initials_placed}

-- ## Lists

pairs_alike : (xs ys : Lined) → map (λ c. c.0) xs ≡ map (λ c. c.0) ys → map (λ c. c.1) xs ≡ map (λ c. c.1) ys → xs ≡ ys
pairs_alike [] [] e f = refl
pairs_alike [] (y ∷ ys) e f = absurd (cc)
pairs_alike (x ∷ xs) [] e f = absurd (cc)
pairs_alike (x ∷ xs) (y ∷ ys) e f =
    let first : x.0 ≡ y.0 = cc in
    let line : x.1 ≡ y.1 = cc in
    let codes : map (λ c. c.0) xs ≡ map (λ c. c.0) ys = cc in
    let lines : map (λ c. c.1) xs ≡ map (λ c. c.1) ys = cc in
    ap₂ (λ (c : Instr × ℕ) (cs : Lined). c ∷ cs) (ap₂ (λ (i : Instr) (l : ℕ). (i, l)) first line) (pairs_alike xs ys codes lines)

-- one of two lists that go together
block_at_place : (g : Setting) (bs : List Block) (cs rest : List CodeBlock) (k : ℕ) (b : Block) (c : CodeBlock) → AllStand g bs cs
    → slice_get bs k ≡ Some b → slice_get (cs ++ rest) k ≡ Some c → BlockStands g b c
block_at_place g [] cs rest k b c all e f = absurd (none-some b e)
block_at_place g (x ∷ bs) [] rest k b c all e f = absurd all
block_at_place g (x ∷ bs) (y ∷ cs) rest zero b c all e f =
    subst (λ z. BlockStands g z c) (same_Some x b e) (subst (λ z. BlockStands g x z) (same_Some y c f) all.0)
block_at_place g (x ∷ bs) (y ∷ cs) rest (suc k) b c all e f = block_at_place g bs cs rest k b c all.1 e f

-- main's is behind all others
main_at_place : (g : Setting) (bs : List Block) (cs : List CodeBlock) (m c : CodeBlock) → AllStand g bs cs
    → slice_get (cs ++ m ∷ []) (length bs) ≡ Some c → m ≡ c
main_at_place g [] [] m c all e = same_Some m c e
main_at_place g [] (y ∷ cs) m c all e = absurd all
main_at_place g (x ∷ bs) [] m c all e = absurd all
main_at_place g (x ∷ bs) (y ∷ cs) m c all e = main_at_place g bs cs m c all.1 e

scan_at_place : (g : Setting) (r k : ℕ) (lines ats : List ℕ) (at : ℕ) → ScansStand g r lines ats → slice_get ats k ≡ Some at
    → IsAt g at (SCAN (r + k)) (get_or lines k 0)
scan_at_place g r k [] [] at all e = absurd (none-some at e)
scan_at_place g r k [] (a ∷ ats) at all e = absurd all
scan_at_place g r k (line ∷ lines) [] at all e = absurd all
scan_at_place g r zero (line ∷ lines) (a ∷ ats) at all e =
    subst (λ x. IsAt g at (SCAN x) line) (omega arith) (subst (λ x. IsAt g x (SCAN r) line) (same_Some a at e) all.0)
scan_at_place g r (suc k) (line ∷ lines) (a ∷ ats) at all e =
    subst (λ x. IsAt g at (SCAN x) (get_or lines k 0)) (omega arith) (scan_at_place g (r + 1) k lines ats at all.1 e)

scans_count : (p : Program) (ps : List Piece) (at number strings : ℕ)
    → length (scans_from at (before_main (coded p number strings ps))) ≡ length (ends_in ps)
scans_count p [] at number strings = refl
scans_count p (a_body b ∷ ps) at number strings =
    scans_count p ps (at + (body_code p b).size) (number + 0) (strings + length (body_code p b).texts)
scans_count p (an_initial b ∷ ps) at number strings = scans_count p ps at (number + 0) (strings + length (statements_code p b).texts)
scans_count p (a_resource line ∷ ps) at number strings = ap suc (scans_count p ps (at + 1) (number + 1) (strings + 0))

-- ## The main body

no_guard : (i o : ℕ) (env : Env) (next : ℕ) (b : BodyTree) (layout : Layout) (accepts : ℕ) → (block_of i o env next b layout accepts None).guard ≡ None
no_guard i o env next (body ss first last) layout accepts = refl

program_unguarded : (t : ProgramTree) → (program_of t).main.guard ≡ None
program_unguarded t =
    let s = finished t in
    no_guard 0 0 (env_of_main s) (1 + parts_scopes t.parts) t.body (main_layout s.blocks (scope_at s.blocks.scopes 0)) 0

-- ## The image

-- what stands in the text of a tree, and the code of the main body behind it
abbrev parts_of : Program → ProgramTree → List Coded
parts_of p t = coded p 0 0 (pieces p.state 0 1 t.parts)

abbrev main_of : Program → ProgramTree → Coded
main_of p t = record { piece = a_body p.main; code = body_code p p.main; strings = length (strings_in (parts_of p t)) }

abbrev outer_of : Program → ProgramTree → Lined
outer_of p t = put_from 0 (before_main (parts_of p t))

abbrev main_entry : Program → ProgramTree → ℕ
main_entry p t = size_of (before_main (parts_of p t))

abbrev inner_of : Program → ProgramTree → Lined
inner_of p t = put_from (main_entry p t) (of_main (parts_of p t) ++ main_of p t ∷ [])

abbrev main_block_of : Program → ProgramTree → CodeBlock
main_block_of p t = main_block p t.name.0 (main_entry p t) (inner_of p t)

-- what a setting of the image has, by its own program
record Has (t : ProgramTree) (g : Setting) : Type 0 where
  code : g.code ≡ outer_of g.program t ++ inner_of g.program t
  texts : g.texts ≡ strings_in (parts_of g.program t) ++ (main_of g.program t).code.texts
  arms : max (most_arms (parts_of g.program t)) (main_of g.program t).code.arms ≤ g.arms

has_parts : (t : ProgramTree) (g : Setting) → IsOfImage t g → Has t g
has_parts t g h =
    let same = sym h.program in
    record {
      code = pairs_alike g.code (outer_of g.program t ++ inner_of g.program t)
          (subst (λ p. instructions g.code ≡ (image_over p t).code) same h.code)
          (subst (λ p. map (λ c. c.1) g.code ≡ (image_over p t).lines) same h.lines);
      texts = subst (λ p. g.texts ≡ (image_over p t).texts) same h.texts;
      arms = subst (λ p. (image_over p t).arms ≤ g.arms) same h.arms;
    }

module _ (t : ProgramTree) (g : Setting) (h : IsOfImage t g) where
  has_outer : HasCode g 0 (outer_of g.program t)
  has_outer = has_front g 0 (outer_of g.program t) (inner_of g.program t) (has_all g (outer_of g.program t ++ inner_of g.program t) (has_parts t g h).code)

  has_inner : HasCode g (main_entry g.program t) (inner_of g.program t)
  has_inner =
      let size = size_put g.program (pieces g.program.state 0 1 t.parts) 0 0 0 in
      let end : 0 + length (outer_of g.program t) ≡ main_entry g.program t = omega (arith, size) in
      subst (λ x. HasCode g x (inner_of g.program t)) end
      (has_back g 0 (outer_of g.program t) (inner_of g.program t) (has_all g (outer_of g.program t ++ inner_of g.program t) (has_parts t g h).code))

  has_texts : HasTexts g 0 (strings_in (parts_of g.program t) ++ (main_of g.program t).code.texts)
  has_texts = texts_all g (strings_in (parts_of g.program t) ++ (main_of g.program t).code.texts) (has_parts t g h).texts

  parts_texts : HasTexts g 0 (strings_in (parts_of g.program t))
  parts_texts = texts_front g 0 (strings_in (parts_of g.program t)) (main_of g.program t).code.texts has_texts

  parts_arms : most_arms (parts_of g.program t) ≤ g.arms
  parts_arms = let arms = (has_parts t g h).arms in omega arith

  all_blocks : AllStand g g.program.blocks (blocks_from g.program 0 (before_main (parts_of g.program t)))
  all_blocks =
      let ps = pieces g.program.state 0 1 t.parts in
      let is : g.program.blocks ≡ parts_blocks g.program.state false 0 0 [] 1 t.parts
      = subst (λ p. p.blocks ≡ parts_blocks p.state false 0 0 [] 1 t.parts) (sym h.program) refl in
      subst (λ bs. AllStand g bs (blocks_from g.program 0 (before_main (parts_of g.program t))))
      (bodies_of_parts g.program.state 0 1 t.parts ∙ sym is)
      (blocks_placed g ps 0 0 0 has_outer parts_texts parts_arms)

  pub block_stands : (k : ℕ) (b : Block) (c : CodeBlock) → slice_get g.program.blocks k ≡ Some b → slice_get (image_of t).blocks k ≡ Some c
      → BlockStands g b c
  block_stands k b c e f =
      block_at_place g g.program.blocks (blocks_from g.program 0 (before_main (parts_of g.program t))) (main_block_of g.program t ∷ []) k b c all_blocks e
      (subst (λ p. slice_get (image_over p t).blocks k ≡ Some c) (sym h.program) f)

  pub scan_stands : (r at : ℕ) → slice_get (image_of t).scans r ≡ Some at → IsAt g at (SCAN r) (get_or g.program.resource_ends r 0)
  scan_stands r at e =
      let ps = pieces g.program.state 0 1 t.parts in
      let is : g.program.resource_ends ≡ ends_of_resources t.parts = subst (λ p. p.resource_ends ≡ ends_of_resources t.parts) (sym h.program) refl in
      subst (λ (lines : List ℕ). IsAt g at (SCAN r) (get_or lines r 0)) (ends_of_parts g.program.state 0 1 t.parts ∙ sym is)
      (subst (λ x. IsAt g at (SCAN x) (get_or (ends_in ps) r 0)) (omega arith)
      (scan_at_place g 0 r (ends_in ps) (scans_from 0 (before_main (parts_of g.program t))) at (scans_placed g ps 0 0 0 has_outer)
      (subst (λ p. slice_get (image_over p t).scans r ≡ Some at) (sym h.program) e)))

  main_unguarded : g.program.main.guard ≡ None
  main_unguarded = subst (λ p. p.main.guard ≡ None) (sym h.program) (program_unguarded t)

  main_body_in : (at : ℕ) → HasCode g at (put_from at (main_of g.program t ∷ []))
      → most_operands g.program 0 (instructions (put_from at (main_of g.program t ∷ []))) ≤ (main_block_of g.program t).operands
      → (n : ℕ) × HasBody g (main_block_of g.program t) g.program.main at n
  main_body_in at has most =
      let k = main_block_of g.program t in
      let code = body_code g.program g.program.main in
      let n = length (strings_in (parts_of g.program t)) in
      let arms = (has_parts t g h).arms in
      let front = most_front g.program 0 (code.put at n) [] in
      let phrase : HasPhrase g k at n code = record {
        has = has_front g at (code.put at n) [] has;
        texts = subst (λ x. HasTexts g x code.texts) (omega arith) (texts_back g 0 (strings_in (parts_of g.program t)) code.texts has_texts);
        operands = omega (arith, front, most);
        arms = omega (arith, arms);
      } in
      let guard = guard_code g.program g.program.main g.program.main.guard in
      let none : guard.size ≡ 0 = ap (λ (x : Option Guard). (guard_code g.program g.program.main x).size) main_unguarded in
      (n + length guard.texts, subst (λ x. HasBody g k g.program.main x (n + length guard.texts)) (omega (arith, none)) (body_in g k g.program.main phrase))

  main_stands_so : MainStands g (main_block_of g.program t)
  main_stands_so =
      let k = main_block_of g.program t in
      let ps = pieces g.program.state 0 1 t.parts in
      let behind = λ (at : ℕ). (n : ℕ) × HasBody g k g.program.main at n in
      let is : g.program.modules ≡ parts_inits g.program.state 0 1 t.parts
      = subst (λ p. p.modules ≡ parts_inits p.state 0 1 t.parts) (sym h.program) refl in
      record {
        bodies = subst (λ bs. StatementsThen g k (main_entry g.program t) bs behind) (initials_of_parts g.program.state 0 1 t.parts ∙ sym is)
            (initials_placed g k (main_of g.program t) behind ps (main_entry g.program t) 0 0 main_body_in has_inner (omega arith) parts_texts parts_arms);
        body = refl;
        params = refl;
        cells = refl;
        level = refl;
        line = refl;
      }

  pub main_stands : (c : CodeBlock) → slice_get (image_of t).blocks (length g.program.blocks) ≡ Some c → MainStands g c
  main_stands c e =
      subst (λ k. MainStands g k)
      (main_at_place g g.program.blocks (blocks_from g.program 0 (before_main (parts_of g.program t))) (main_block_of g.program t) c all_blocks
      (subst (λ p. slice_get (image_over p t).blocks (length g.program.blocks) ≡ Some c) (sym h.program) e))
      main_stands_so

-- what the activation at hand sees is not of the image
pub image_again : (t : ProgramTree) (g : Setting) → IsOfImage t g → IsOfImage t (own_again g)
image_again t g h = record { program = h.program; code = h.code; lines = h.lines; texts = h.texts; arms = h.arms }

pub scans_counted : (t : ProgramTree) → length (image_of t).scans ≡ length (program_of t).resource_ends
scans_counted t =
    let p = program_of t in
    scans_count p (pieces p.state 0 1 t.parts) 0 0 0 ∙ ap length (ends_of_parts p.state 0 1 t.parts)
