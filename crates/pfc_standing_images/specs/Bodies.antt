-- What the static rules make of a body, and what is left of it behind a requeue.
use Rattle.std.specs.Prelude.{ℕ, List, [], ◌∷◌, Option, Some, None}
use Rattle.pfc_semantics.specs.Programs.{Block, Guard, Program}
use Rattle.pfc_semantics.specs.Remainders.{Remainder, in_names, scan_on}
use Rattle.pfc_semantics.specs.Alternatives.{context}
use Rattle.pfc_semantics.specs.Resources.{scan_of, way_to}
use Rattle.pfc_semantics.specs.Configurations.{body_of}
use Rattle.pfc_translation.specs.Images.{site_in}
use Rattle.pfc_standing_code.specs.Shapes.{a_number}
use Rattle.pfc_standing_code.specs.Settings.{Setting, site_of, SeesAccepts}
use Rattle.pfc_standing_code.specs.Typed.{HasShape}
use Rattle.pfc_standing_code.specs.TypedStatements.{AreTyped}
use Rattle.pfc_standing_code.specs.Words.{AreOwnNames, IsChecked}

-- the names in view in a body are checked, its statements have the shapes that they are to have, and no accept is open out of view
pub record IsReady (g : Setting) (b : Block) : Type 0 where
  pub names : IsChecked g b b.env
  pub statements : AreTyped (site_in g.program b) b.next b.stmts
  pub accepts : SeesAccepts g (site_in g.program b)

abbrev pub AreReady : Setting → List Block → Type 0
AreReady g [] = Unit {0}
AreReady g (b ∷ bs) = IsReady g b × AreReady g bs

-- so the names in view in a guard, which are main's or its procedure's own; it is of a simple type
pub record IsGuardReady (g : Setting) (b : Block) (guard : Guard) : Type 0 where
  pub names : IsChecked g b guard.env
  pub own : AreOwnNames g.program b guard.env
  pub test : HasShape (site_of g b (context guard.env guard.line)) guard.test a_number

abbrev pub EachGuardReady : Setting → Block → Option Guard → Type 0
EachGuardReady g b None = Unit {0}
EachGuardReady g b (Some guard) = IsGuardReady g b guard

-- what is left to a process that has requeued to a procedure of the r-th resource: the scan, the procedure's guard, where it has one, and its body
abbrev pub requeued_body : Program → ℕ → Block → Remainder
requeued_body p r b = scan_on (scan_of p r (way_to p r b b.guard)) (in_names b.env (body_of b))
