-- The values of this crate, as the definition of the image knows them.
use Rattle.std.specs.Prelude.{List, map}
use Rattle.pfc_translation.specs.Images.{Piece, a_body, an_initial, a_resource, Coded, statements_code}
use Rattle.pfc_program.specs.Views.{block_view}
use Rattle.pfc_program.specs.declared.tables.Tables.{Tables}
use Rattle.pfc_program.specs.declared.program.Program.{Program as HeldProgram}
use Rattle.pfc_addresses.specs.Sites.{whole_view}
use Rattle.pfc_blocks.specs.Making.{placing_view}
use Rattle.pfc_generator.specs.Making.{SoFar}
use Rattle.pfc_generator.specs.declared.pieces.Piece.{Piece as HeldPiece}
use Rattle.pfc_generator.specs.declared.pieces.Piece.TheVariants.{Body, Initial, Resource}
use Rattle.pfc_generator.specs.declared.making.Making.{Making}
use Rattle.pfc_generator.specs.declared.making.Initial.{Initial as HeldInitial}

abbrev pub piece_view : Tables → HeldPiece → Piece
piece_view tables (Body b name) = a_body (block_view tables b.now)
piece_view tables (Initial b) = an_initial (block_view tables b.now)
piece_view tables (Resource line) = a_resource line

abbrev pub pieces_view : Tables → List HeldPiece → List Piece
pieces_view tables pieces = map (λ p. piece_view tables p) pieces

-- an initialising body that was put where it stands in the text
abbrev pub initial_view : HeldProgram → HeldInitial → Coded
initial_view program i =
    let b = block_view program.tables i.block.now in
    record { piece = an_initial b; code = statements_code (whole_view program) b; strings = i.strings }

abbrev pub initials_view : HeldProgram → List HeldInitial → List Coded
initials_view program all = map (λ i. initial_view program i) all

abbrev pub so_far : HeldProgram → Making → SoFar
so_far program m = record {
  made = m.coder;
  placed = map (λ p. placing_view program.tables p) m.placed.items;
  scans = m.scans.items;
  initials = initials_view program m.initials.items;
}
