-- What a process is at that enters a procedure of a resource, on both sides.
use Rattle.std.proofs.Common.{◌≡◌, ℕ, false, true, List, [], ◌∷◌, length, drop, Option, Some, None, refl, sym, ap, ◌∙◌}
use Rattle.std.specs.Prelude.{◌==◌}
use Rattle.std.proofs.lemmas.Bool.{false≢true}
use Rattle.pfc_tree.specs.declared.tree.Stmt.{Stmt}
use Rattle.pfc_tree.specs.views.Stmts.{stmts_view}
use Rattle.pfc_semantics.specs.Programs.{Guard, Block, Program, block_number}
use Rattle.pfc_semantics.specs.Remainders.{Remainder, perform}
use Rattle.pfc_semantics.specs.Statements.{behind}
use Rattle.pfc_semantics.specs.Resources.{guarded_body, way_to}
use Rattle.pfc_entering.specs.Guards.{way_in, guarded_in}

guarded_where :
    (g : Program) (r : ℕ) (b : Block) (guard : Option Guard) → guarded_in r (block_number g b.scope) b guard ≡ guarded_body g r b guard
guarded_where g r b None = refl
guarded_where g r b (Some guard) = refl

pub guarded_is :
    (g : Program) (r procedure : ℕ) (b : Block) → procedure ≡ block_number g b.scope → guarded_in r procedure b b.guard ≡ guarded_body g r b b.guard
guarded_is g r procedure b same = ap (λ (j : ℕ). guarded_in r j b b.guard) same ∙ guarded_where g r b b.guard

way_where : (g : Program) (r : ℕ) (b : Block) (guard : Option Guard) → way_in r (block_number g b.scope) guard ≡ way_to g r b guard
way_where g r b None = refl
way_where g r b (Some guard) = refl

pub way_is : (g : Program) (r procedure : ℕ) (b : Block) → procedure ≡ block_number g b.scope → way_in r procedure b.guard ≡ way_to g r b b.guard
way_is g r procedure b same = ap (λ (j : ℕ). way_in r j b.guard) same ∙ way_where g r b b.guard

-- statements that are there are performed
pub some_behind :
    (n len : ℕ) (items : List Stmt) (k : Remainder)
    → len ≡ length items → (len == 0) ≡ false → perform n (stmts_view (drop 0 items)) k ≡ behind n (stmts_view items) k
some_behind n len [] k many some = absurd (false≢true (sym some ∙ ap (λ (i : ℕ). i == 0) many))
some_behind n len (s ∷ ss) k many some = refl
