-- The code of a program as it is made, piece by piece.
use Rattle.std.specs.Prelude.{◌≡◌, ◌≤◌, ℕ, ◌+◌, max, List, [], ◌∷◌, ◌++◌, length}
use Rattle.pfc_semantics.specs.Programs.{Block, Program}
use Rattle.pfc_translation.specs.Sites.{level_of}
use Rattle.pfc_translation.specs.Codes.{Code}
use Rattle.pfc_translation.specs.Images.{Piece, a_body, an_initial, a_resource, Coded, guard_code, body_code, statements_code, scan_code, before_main, of_main}
use Rattle.pfc_translation.specs.Images.{put_from, size_of, strings_in, most_arms, scans_from}
use Rattle.pfc_expression_code.specs.Putting.{Made, IsMade}
use Rattle.pfc_blocks.specs.Making.{Placing}

-- what is made so far: the code without that of initialising bodies, the bodies in it, the address of each `SCAN`, and the initialising bodies
pub record SoFar : Type 0 where
  pub made : Made
  pub placed : List Placing
  pub scans : List ℕ
  pub initials : List Coded

abbrev pub nothing_made : SoFar
nothing_made = record { made = record { code = []; texts = []; arms = 0 }; placed = []; scans = []; initials = [] }

-- a body with this code, which is put from an address on
abbrev pub placing : Program → ℕ → Block → Code → Placing
placing g at b c =
    record { block = b; entry = at; body = at + (guard_code g b b.guard).size; end = at + c.size; level = level_of g.state.blocks b }

-- The code of a piece was put. That of an initialising body was not, but its strings and its selects count.
abbrev pub IsPut : Program → Piece → SoFar → SoFar → Type 0
IsPut g (a_body b) x y =
    IsMade (body_code g b) x.made y.made
    × ((y.placed ≡ x.placed ++ placing g (length x.made.code) b (body_code g b) ∷ []) × ((y.scans ≡ x.scans) × (y.initials ≡ x.initials)))
IsPut g (a_resource line) x y =
    IsMade (scan_code g (length x.scans) line) x.made y.made
    × ((y.placed ≡ x.placed) × ((y.scans ≡ x.scans ++ length x.made.code ∷ []) × (y.initials ≡ x.initials)))
IsPut g (an_initial b) x y =
    let c = statements_code g b in
    ((y.made.code ≡ x.made.code) × ((y.made.texts ≡ x.made.texts ++ c.texts) × (y.made.arms ≡ max x.made.arms c.arms)))
    × ((y.placed ≡ x.placed)
    × ((y.scans ≡ x.scans)
    × (y.initials ≡ x.initials ++ record { piece = an_initial b; code = c; strings = length x.made.texts } ∷ [])))

-- ## Pieces one behind the other

abbrev pub body_placing : Program → ℕ → Piece → Code → List Placing
body_placing g at (a_body b) c = placing g at b c ∷ []
body_placing g at p c = []

-- the bodies among some pieces, which are put from an address on
abbrev pub placings_from : Program → ℕ → List Coded → List Placing
placings_from g at [] = []
placings_from g at (c ∷ cs) = body_placing g at c.piece c.code ++ placings_from g (at + c.code.size) cs

-- each has as many instructions as it says, where it is put from an address on
abbrev pub AreSized : ℕ → List Coded → Type 0
AreSized at [] = Unit {0}
AreSized at (c ∷ cs) = (length (c.code.put at c.strings) ≡ c.code.size) × AreSized (at + c.code.size) cs

-- what is made, with the pieces that are left, comes to all pieces
pub record IsComplete (g : Program) (all left : List Coded) (x : SoFar) : Type 0 where
  pub code : x.made.code ++ put_from (length x.made.code) (before_main left) ≡ put_from 0 (before_main all)
  pub size : length x.made.code + size_of (before_main left) ≡ size_of (before_main all)
  pub sized : AreSized (length x.made.code) (before_main left) → AreSized 0 (before_main all)
  pub texts : x.made.texts ++ strings_in left ≡ strings_in all
  pub arms : max x.made.arms (most_arms left) ≡ most_arms all
  pub placed : x.placed ++ placings_from g (length x.made.code) (before_main left) ≡ placings_from g 0 (before_main all)
  pub scans : x.scans ++ scans_from (length x.made.code) (before_main left) ≡ scans_from 0 (before_main all)
  pub initials : x.initials ++ of_main left ≡ of_main all

-- Initialising bodies, before which n strings are, have their strings one behind the other, up to a last number.
abbrev pub AreOrdered : ℕ → ℕ → List Coded → Type 0
AreOrdered last n [] = n ≤ last
AreOrdered last n (c ∷ cs) = (n ≤ c.strings) × AreOrdered last (c.strings + length c.code.texts) cs
