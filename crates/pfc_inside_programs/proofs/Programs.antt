-- The text of a checked program.
use Rattle.std.proofs.Common.{◌≡◌, ℕ, zero, suc, ◌+◌, List, [], ◌∷◌, slice_get, Option, Some, None, refl, sym, subst}
use Rattle.std.specs.List.{AllByRecursion}
use Rattle.pfc_tree.specs.trees.Parts.{ProgramTree}
use Rattle.pfc_tree.specs.forget.Parts.{forget_program}
use Rattle.pfc_tree.specs.lawful.Parts.{IsLawful}
use Rattle.pfc_types.specs.Blocks.{State, no_module}
use Rattle.pfc_types.specs.Scopes.{scope_at}
use Rattle.pfc_types.specs.declared.heads.ModuleHead.{ModuleHead}
use Rattle.pfc_types.specs.rules.Bodies.{parts_scopes}
use Rattle.pfc_types.specs.rules.Whole.{broken, finished}
use Rattle.pfc_semantics.specs.Layouts.{main_layout}
use Rattle.pfc_semantics.specs.Programs.{Block, Guard, Program, env_of_main, program_of}
use Rattle.pfc_image_laws.specs.Modules.{modules_from}
use Rattle.pfc_image_laws.proofs.Modules.{program_modules}
use Rattle.pfc_run_invariants.specs.Asked.{Asked}
use Rattle.pfc_run_invariants.specs.Configurations.{FitsGuard, FitsBlock}
use Rattle.pfc_number_laws.specs.Written.{FitsTree}
use Rattle.pfc_number_laws.specs.Numbers.{numbers_of, HasNumbers}
use Rattle.pfc_number_laws.proofs.Few.{few}
use Rattle.pfc_number_laws.proofs.Programs.{program_fits}
use Rattle.pfc_inside_laws.specs.Inside.{IsNoMonitor, IsForAccept, FitsTest, HasText}
use Rattle.pfc_translation.specs.Images.{site_in}
use Rattle.pfc_typed_programs.specs.Bodies.{IsBody, of_block, of_module, of_main}
use Rattle.pfc_typed_programs.proofs.Bodies.{body_typed}
use Rattle.pfc_run_invariants.specs.Written.{FitStmts}
use Rattle.pfc_inside_programs.proofs.Parameters.{stmts_typed}
use Rattle.pfc_inside_programs.proofs.Bodies.{Away, behind_parts, away_at, HasOwn, HasOwnAlone, body_alone, tops_own, inits_own}

pub all_at : {X : Type 0} (P : X → Type 0) (xs : List X) (k : ℕ) (x : X) → AllByRecursion P xs → slice_get xs k ≡ Some x → P x
all_at P [] k x all at = absurd (cc)
all_at P (y ∷ xs) zero x all at = (let same : y ≡ x = cc in subst P same all.0)
all_at P (y ∷ xs) (suc k) x all at = all_at P xs k x all.1 at

test_of : (r : Asked) (guard : Option Guard) → FitsGuard r guard → FitsTest guard
test_of r None fits = tt
test_of r (Some guard) fits = fits.1

module _ (t : ProgramTree) (lawful : IsLawful (forget_program t)) where
  abbrev g : Program
  g = program_of t

  abbrev s : State
  s = finished t

  -- the modules of the program are those of its parts
  no_monitor : (i : ℕ) → Away (modules_from 1 t.parts) i → IsNoMonitor g i
  no_monitor i away n monitor =
      let all : Away g.state.blocks.modules i = subst (λ (ms : List ModuleHead). Away ms i) (sym (program_modules t lawful)) away in
      away_at g.state.blocks.modules monitor.place no_module i monitor.among all monitor.scope

  module _ (small : FitsTree t) where
    module _ (whole : broken t ≡ []) where
      -- accepts have the scopes of parameters, which are no modules
      body_has : (b : Block) → IsBody t b → FitStmts (IsNoMonitor g) b.next b.stmts → FitStmts (IsForAccept g) b.next b.stmts
      body_has b is fits = stmts_typed g (site_in g b) refl b.next b.stmts (body_typed t lawful whole b is) fits

      block_has : (k : ℕ) (b : Block) → slice_get g.blocks k ≡ Some b → FitStmts (IsForAccept g) b.next b.stmts
      block_has k b at =
          let all = tops_own (IsNoMonitor g) s 0 1 t.parts small.parts (λ i low high away. no_monitor i away) in
          body_has b (of_block k b at) (all_at (HasOwn (IsNoMonitor g) s) g.blocks k b all at)

      module_has : (k : ℕ) (b : Block) → slice_get g.modules k ≡ Some b → FitStmts (IsForAccept g) b.next b.stmts × (b.guard ≡ None)
      module_has k b at =
          let all = inits_own (IsNoMonitor g) s 0 1 t.parts small.parts (λ i low high away. no_monitor i away) in
          let has = all_at (HasOwnAlone (IsNoMonitor g) s) g.modules k b all at in
          (body_has b (of_module k b at) has.0, has.1)

      main_has : FitStmts (IsForAccept g) g.main.next g.main.stmts × (g.main.guard ≡ None)
      main_has =
          let layout = main_layout s.blocks (scope_at s.blocks.scopes 0) in
          let has =
          body_alone (IsNoMonitor g) s 0 0 (env_of_main s) (1 + parts_scopes t.parts) t.body layout 0 small.body
          (λ i low high. no_monitor i (behind_parts 1 i t.parts low)) in
          (body_has g.main of_main has.0, has.1)

pub has_text : (t : ProgramTree) → IsLawful (forget_program t) → broken t ≡ [] → FitsTree t → HasText (program_of t)
has_text t lawful whole small =
    let g = program_of t in
    let has : HasNumbers g = program_fits t small (few t lawful whole) in
    let written = has.program in
    record {
      blocks = λ k b at. (
          let numbers : FitsBlock (numbers_of g) b = all_at (FitsBlock (numbers_of g)) g.blocks k b written.blocks at in
          record { stmts = block_has t lawful small whole k b at; guard = test_of (numbers_of g) b.guard numbers.guard });
      modules = module_has t lawful small whole;
      main = main_has t lawful small whole;
      firsts = written.firsts;
      variables = written.variables;
    }
