-- So it is of the whole image.
use Rattle.std.proofs.Common.{◌≡◌, ℕ, suc, ◌+◌, ◌≤◌, false, List, [], ◌∷◌, length, Option, Some, None, refl, sym, subst, arith}
use Rattle.std.specs.List.{All}
use Rattle.pfc_tree.specs.trees.Parts.{ProgramTree}
use Rattle.pfc_tree.specs.forget.Parts.{forget_program}
use Rattle.pfc_tree.specs.lawful.Parts.{IsLawful}
use Rattle.pfc_types.specs.Blocks.{State}
use Rattle.pfc_types.specs.Scopes.{meaning_of}
use Rattle.pfc_types.specs.rules.Expressions.{find}
use Rattle.pfc_types.specs.rules.FaultyNames.{stands_faulty}
use Rattle.pfc_types.specs.rules.Whole.{finished, faults_in, broken, broken_bodies}
use Rattle.pfc_semantics.specs.Programs.{Block, Guard, Program, program_of}
use Rattle.pfc_translation.specs.Images.{site_in, guard_code, statements_code, body_code, Piece, a_body, an_initial, a_resource, pieces, resources_in}
use Rattle.pfc_translation.specs.Images.{piece_code, coded, most_arms, image_of}
use Rattle.pfc_name_laws.proofs.Numbers.{numbered, no_faulty, none_noted}
use Rattle.pfc_name_laws.proofs.Parts.{finished_reached}
use Rattle.pfc_image_numbers.proofs.Rules.{IsClean, clean_of}
use Rattle.pfc_image_numbers.proofs.Bodies.{IsRuled, IsRuledPiece, program_pieces, main_ruled}
use Rattle.pfc_image_alternatives.proofs.Quiet.{Few, no_code, both, expr}
use Rattle.pfc_image_alternatives.proofs.Spreads.{AreSound}
use Rattle.pfc_image_alternatives.proofs.Statements.{stmts}

module _ (g : Program) (sound : AreSound g.state) where
  abbrev Ruled : Block → Type 0
  Ruled b = IsRuled (Unit {0}) g.state b

  guard_few : (b : Block) (guard : Option Guard) → Few (guard_code g b guard)
  guard_few b None = no_code
  guard_few b (Some w) = both (expr (record { program = g; block = b; env = w.env; line = w.line }) w.test) no_code

  statements_few : (b : Block) → Ruled b → Few (statements_code g b)
  statements_few b r =
      stmts g.state sound b.stmts b.env (site_in g b) (record { state = r.state; like = record { state = refl; view = refl } }) b.next (r.clean tt)

  body_few : (b : Block) → Ruled b → Few (body_code g b)
  body_few b r = both (guard_few b b.guard) (both (statements_few b r) no_code)

  piece_few : (number : ℕ) (p : Piece) → IsRuledPiece (Unit {0}) g.state p → Few (piece_code g number p)
  piece_few number (a_body b) r = body_few b r
  piece_few number (an_initial b) r = statements_few b r
  piece_few number (a_resource line) r = no_code

  all_few : (number strings : ℕ) (ps : List Piece) → All (IsRuledPiece (Unit {0}) g.state) ps → most_arms (coded g number strings ps) ≤ 1024
  all_few number strings [] h = no_code
  all_few number strings (p ∷ ps) h =
      both (piece_few number p (h 0 p (omega arith)))
      (all_few (number + resources_in p) (strings + length (piece_code g number p).texts) ps
      (λ k d below. h (suc k) d (omega (arith, below))))

-- no name of a program in which no rule is broken is faulty
sound_names : (t : ProgramTree) → broken t ≡ [] → AreSound (finished t)
sound_names t whole env state x =
    subst (λ (s : State). stands_faulty (meaning_of (find (record env { state = s }) x)) ≡ false) (sym state)
    (no_faulty (finished t) (numbered (finished t) (finished_reached t)) (none_noted t whole) env.view x)

pub few_in_image : (t : ProgramTree) → IsLawful (forget_program t) → broken t ≡ [] → (image_of t).arms ≤ 1024
few_in_image t lawful whole =
    let g = program_of t in
    let sound : AreSound (finished t) = sound_names t whole in
    let clean : IsClean (broken_bodies (finished t) t) = (clean_of (faults_in (finished t) t) whole).1 in
    both (all_few g sound 0 0 (pieces g.state 0 1 t.parts) (program_pieces (Unit {0}) t lawful (λ q. clean)))
    (body_few g sound g.main (main_ruled (Unit {0}) t (λ q. clean)))
