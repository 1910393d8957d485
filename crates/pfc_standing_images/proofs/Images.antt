-- The code of an image in its parts: by induction over what stands in the text.
use Rattle.std.proofs.Common.{◌≡◌, ℕ, ◌+◌, ◌≤◌, List, [], ◌∷◌, ◌++◌, length, Option, Some, None, refl, ap₂, ◌∙◌, subst, arith, length-append}
use Rattle.pfc_code.specs.declared.instructions.Instr.TheVariants.{GRD, SCAN}
use Rattle.pfc_code.specs.declared.images.Block.{Block as CodeBlock}
use Rattle.pfc_semantics.specs.Layouts.{sub_with}
use Rattle.pfc_semantics.specs.Programs.{Block, Guard, Program}
use Rattle.pfc_translation.specs.Sites.{Site}
use Rattle.pfc_translation.specs.Codes.{Lined, ◌⨾◌, one}
use Rattle.pfc_translation.specs.Operands.{most_operands}
use Rattle.pfc_translation.specs.Expressions.{expr_code}
use Rattle.pfc_translation.specs.Calls.{resource_of}
use Rattle.pfc_translation.specs.Images.{site_in, guard_code, end_of, statements_code, body_code, Piece, a_body, an_initial, a_resource, Coded, coded}
use Rattle.pfc_translation.specs.Images.{strings_in, most_arms, before_main, of_main, size_of, put_from, instructions, block_from, blocks_from, scans_from}
use Rattle.pfc_standing_code.specs.Sizes.{IsSized}
use Rattle.pfc_standing_code.specs.Settings.{Setting, IsAt, HasCode, HasTexts}
use Rattle.pfc_standing_code.proofs.Sizes.{sized_nothing, sized_then, sized_both, sized_expr, sized_stmts}
use Rattle.pfc_standing_images.specs.Images.{HasPhrase, HasBody, BlockStands, StatementsThen}
use Rattle.pfc_standing_images.proofs.Places.{most_front, most_back, has_front, has_back, texts_front, texts_back, phrase_front, phrase_back}
use Rattle.pfc_standing_images.proofs.Pieces.{bodies_in, initials_in, ends_in}

-- ## Sizes

sized_guard : (p : Program) (b : Block) (guard : Option Guard) → IsSized (guard_code p b guard)
sized_guard p b None = sized_nothing
sized_guard p b (Some guard) =
    let s : Site = record { program = p; block = b; env = guard.env; line = guard.line } in
    sized_then s (expr_code s guard.test) (λ at n. GRD (resource_of s)) (sized_expr s guard.test)

sized_statements : (p : Program) (b : Block) → IsSized (statements_code p b)
sized_statements p b = sized_stmts (site_in p b) b.next b.stmts

sized_body : (p : Program) (b : Block) → IsSized (body_code p b)
sized_body p b =
    let end = end_of (sub_with p.state.blocks.subs b.scope) in
    sized_both (guard_code p b b.guard) (statements_code p b ⨾ one (site_in p b) end) (sized_guard p b b.guard)
    (sized_then (site_in p b) (statements_code p b) (λ at n. end) (sized_statements p b))

pub size_put : (p : Program) (ps : List Piece) (at number strings : ℕ)
    → length (put_from at (before_main (coded p number strings ps))) ≡ size_of (before_main (coded p number strings ps))
size_put p [] at number strings = refl
size_put p (a_body b ∷ ps) at number strings =
    let code = body_code p b in
    let further = before_main (coded p (number + 0) (strings + length code.texts) ps) in
    length-append (code.put at strings) (put_from (at + code.size) further)
    ∙ ap₂ (λ x y. x + y) (sized_body p b at strings) (size_put p ps (at + code.size) (number + 0) (strings + length code.texts))
size_put p (an_initial b ∷ ps) at number strings = size_put p ps at (number + 0) (strings + length (statements_code p b).texts)
size_put p (a_resource line ∷ ps) at number strings =
    let rest = size_put p ps (at + 1) (number + 1) (strings + 0) in omega (arith, rest)

-- ## Bodies

-- the code of a body is that of its guard, of its statements, and its end
module _ (g : Setting) (k : CodeBlock) (b : Block) where
  pub guard_in : {at n : ℕ} → HasPhrase g k at n (body_code g.program b) → HasPhrase g k at n (guard_code g.program b b.guard)
  guard_in h =
      let end = end_of (sub_with g.program.state.blocks.subs b.scope) in
      phrase_front g k (guard_code g.program b b.guard) (statements_code g.program b ⨾ one (site_in g.program b) end) h

  pub body_in : {at n : ℕ} → HasPhrase g k at n (body_code g.program b)
      → HasBody g k b (at + (guard_code g.program b b.guard).size) (n + length (guard_code g.program b b.guard).texts)
  body_in h =
      let guard = guard_code g.program b b.guard in
      let stmts = statements_code g.program b in
      let end = one (site_in g.program b) (end_of (sub_with g.program.state.blocks.subs b.scope)) in
      let rest = phrase_back g k guard (stmts ⨾ end) (sized_guard g.program b b.guard) h in
      record {
        statements = phrase_front g k stmts end rest;
        end = (phrase_back g k stmts end (sized_statements g.program b) rest).has.0;
      }

-- ## Pieces one behind the other

abbrev pub AllStand : Setting → List Block → List CodeBlock → Type 0
AllStand g [] [] = Unit {0}
AllStand g [] (c ∷ cs) = ⊥
AllStand g (b ∷ bs) [] = ⊥
AllStand g (b ∷ bs) (c ∷ cs) = BlockStands g b c × AllStand g bs cs

-- the turns of scans, from the r-th resource on
abbrev pub ScansStand : Setting → ℕ → List ℕ → List ℕ → Type 0
ScansStand g r [] [] = Unit {0}
ScansStand g r [] (at ∷ ats) = ⊥
ScansStand g r (line ∷ lines) [] = ⊥
ScansStand g r (line ∷ lines) (at ∷ ats) = IsAt g at (SCAN r) line × ScansStand g (r + 1) lines ats

module _ (g : Setting) where
  code_behind : (p : Program) (b : Block) (at strings : ℕ) (further : Lined) → HasCode g at ((body_code p b).put at strings ++ further)
      → HasCode g (at + (body_code p b).size) further
  code_behind p b at strings further h =
      subst (λ x. HasCode g (at + x) further) (sized_body p b at strings) (has_back g at ((body_code p b).put at strings) further h)

  pub blocks_placed : (ps : List Piece) (at number strings : ℕ) → HasCode g at (put_from at (before_main (coded g.program number strings ps)))
      → HasTexts g strings (strings_in (coded g.program number strings ps)) → most_arms (coded g.program number strings ps) ≤ g.arms
      → AllStand g (bodies_in ps) (blocks_from g.program at (before_main (coded g.program number strings ps)))
  blocks_placed [] at number strings has texts arms = tt
  blocks_placed (a_body b ∷ ps) at number strings has texts arms =
      let code = body_code g.program b in
      let c : Coded = record { piece = a_body b; code = code; strings = strings } in
      let rest = coded g.program (number + 0) (strings + length code.texts) ps in
      let further = put_from (at + code.size) (before_main rest) in
      let k = block_from g.program at b c in
      let phrase : HasPhrase g k at strings code = record {
        has = has_front g at (code.put at strings) further has;
        texts = texts_front g strings code.texts (strings_in rest) texts;
        operands = omega arith;
        arms = omega arith;
      } in (
        record {
          n = strings;
          guard = guard_in g k b phrase;
          behind_guard = refl;
          body = body_in g k b phrase;
          params = refl;
          cells = refl;
          level = refl;
          line = refl;
        },
        blocks_placed ps (at + code.size) (number + 0) (strings + length code.texts) (code_behind g.program b at strings further has)
            (texts_back g strings code.texts (strings_in rest) texts) (omega arith),
      )
  blocks_placed (an_initial b ∷ ps) at number strings has texts arms =
      let code = statements_code g.program b in
      let rest = coded g.program (number + 0) (strings + length code.texts) ps in
      blocks_placed ps at (number + 0) (strings + length code.texts) has (texts_back g strings code.texts (strings_in rest) texts) (omega arith)
  blocks_placed (a_resource line ∷ ps) at number strings has texts arms =
      let rest = coded g.program (number + 1) (strings + 0) ps in
      blocks_placed ps (at + 1) (number + 1) (strings + 0) has.1 (texts_back g strings [] (strings_in rest) texts) (omega arith)

  pub scans_placed : (ps : List Piece) (at number strings : ℕ) → HasCode g at (put_from at (before_main (coded g.program number strings ps)))
      → ScansStand g number (ends_in ps) (scans_from at (before_main (coded g.program number strings ps)))
  scans_placed [] at number strings has = tt
  scans_placed (a_body b ∷ ps) at number strings has =
      let code = body_code g.program b in
      let strings_then = strings + length code.texts in
      let same : number + 0 ≡ number = omega arith in
      let rest = λ (x : ℕ). before_main (coded g.program x strings_then ps) in
      subst (λ x. ScansStand g x (ends_in ps) (scans_from (at + code.size) (rest (number + 0)))) same
      (scans_placed ps (at + code.size) (number + 0) strings_then
      (code_behind g.program b at strings (put_from (at + code.size) (rest (number + 0))) has))
  scans_placed (an_initial b ∷ ps) at number strings has =
      let code = statements_code g.program b in
      let same : number + 0 ≡ number = omega arith in
      subst (λ x. ScansStand g x (ends_in ps) (scans_from at (before_main (coded g.program (number + 0) (strings + length code.texts) ps)))) same
      (scans_placed ps at (number + 0) (strings + length code.texts) has)
  scans_placed (a_resource line ∷ ps) at number strings has = (has.0, scans_placed ps (at + 1) (number + 1) (strings + 0) has.1)

  -- main's code: the initialising bodies, and behind them what is told of the main body
  pub initials_placed : (k : CodeBlock) (main : Coded) (P : ℕ → Type 0) (ps : List Piece) (at number strings : ℕ)
      → ((a : ℕ) → HasCode g a (put_from a (main ∷ [])) → most_operands g.program 0 (instructions (put_from a (main ∷ []))) ≤ k.operands → P a)
      → HasCode g at (put_from at (of_main (coded g.program number strings ps) ++ main ∷ []))
      → most_operands g.program 0 (instructions (put_from at (of_main (coded g.program number strings ps) ++ main ∷ []))) ≤ k.operands
      → HasTexts g strings (strings_in (coded g.program number strings ps)) → most_arms (coded g.program number strings ps) ≤ g.arms
      → StatementsThen g k at (initials_in ps) P
  initials_placed k main P [] at number strings finish has most texts arms = finish at has most
  initials_placed k main P (a_body b ∷ ps) at number strings finish has most texts arms =
      let code = body_code g.program b in
      let rest = coded g.program (number + 0) (strings + length code.texts) ps in
      initials_placed k main P ps at (number + 0) (strings + length code.texts) finish has most
      (texts_back g strings code.texts (strings_in rest) texts) (omega arith)
  initials_placed k main P (a_resource line ∷ ps) at number strings finish has most texts arms =
      let rest = coded g.program (number + 1) (strings + 0) ps in
      initials_placed k main P ps at (number + 1) (strings + 0) finish has most (texts_back g strings [] (strings_in rest) texts) (omega arith)
  initials_placed k main P (an_initial b ∷ ps) at number strings finish has most texts arms =
      let code = statements_code g.program b in
      let rest = coded g.program (number + 0) (strings + length code.texts) ps in
      let first_part = code.put at strings in
      let further = put_from (at + code.size) (of_main rest ++ main ∷ []) in
      let front = most_front g.program 0 first_part further in
      let back = most_back g.program 0 first_part further in
      let phrase : HasPhrase g k at strings code = record {
        has = has_front g at first_part further has;
        texts = texts_front g strings code.texts (strings_in rest) texts;
        operands = omega (arith, front, most);
        arms = omega arith;
      } in (
        (strings, phrase),
        initials_placed k main P ps (at + code.size) (number + 0) (strings + length code.texts) finish
            (subst (λ x. HasCode g (at + x) further) (sized_statements g.program b at strings) (has_back g at first_part further has))
            (omega (arith, back, most)) (texts_back g strings code.texts (strings_in rest) texts) (omega arith),
      )
