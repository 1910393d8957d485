-- The bodies of a program, the blocks that are called, and what whoever runs a body is to see.
use Rattle.std.specs.Prelude.{ℕ, ◌+◌, ◌^◌, ◌<◌, ◌≡◌, ℤ, true, List, [], ◌∷◌, length, take, map, Option, Some, None}
use Rattle.std.specs.List.{slice_get}
use Rattle.pfc_code.specs.declared.images.Block.{Block as CodeBlock}
use Rattle.pfc_tree.specs.trees.Parts.{ProgramTree}
use Rattle.pfc_types.specs.rules.Expressions.{Env}
use Rattle.pfc_types.specs.declared.types.TypeId.{TypeId}
use Rattle.pfc_types.specs.declared.heads.Formal.{Formal}
use Rattle.pfc_semantics.specs.Displays.{Spot}
use Rattle.pfc_semantics.specs.Programs.{Block, Guard, Program, block_at, block_number, program_of}
use Rattle.pfc_translation.specs.Sites.{Site, type_cells}
use Rattle.pfc_semantics.specs.Configurations.{body_of}
use Rattle.pfc_translation.specs.Calls.{formals_cells}
use Rattle.pfc_translation.specs.Images.{image_of}
use Rattle.pfc_translation.specs.Operands.{arguments, results}
use Rattle.pfc_name_laws.specs.Reached.{formal_meaning}
use Rattle.pfc_standing_code.specs.Shapes.{is_object_type}
use Rattle.pfc_standing_code.specs.Settings.{Setting, of_own, IsBeside}
use Rattle.pfc_standing_code.specs.Typed.{IsDeclaredAt}
use Rattle.pfc_standing_code.specs.Words.{AreKnown, first_word, IsWordAt, IsInView, names_at}
use Rattle.pfc_standing_code.specs.Performs.{Performs}
use Rattle.pfc_standing_images.specs.Images.{IsOfBlock, BlockStands}

-- ## Bodies

-- a body of the program: that of a sub, a guarded procedure or a process, an initialising one, or main's
pub data IsBody (t : ProgramTree) : Block → Type 0 where
  of_block : (k : ℕ) (b : Block) → slice_get (program_of t).blocks k ≡ Some b → IsBody t b
  of_module : (k : ℕ) (b : Block) → slice_get (program_of t).modules k ≡ Some b → IsBody t b
  of_main : IsBody t (program_of t).main

-- where a guard stands in the code of its block
abbrev pub guard_site : Program → Block → Guard → Site
guard_site p b guard = record { program = p; block = b; env = guard.env; line = guard.line }

-- ## Blocks that are called

-- The number by which code calls the scope of a heading is that of its block. The parameters are the first variables of this block, it takes their
-- cells, and it leaves so many operands.
pub record IsCallee (p : Program) (scope : ℕ) (formals : List Formal) (left : ℕ) : Type 0 where
  pub there : slice_get p.blocks (block_number p scope) ≡ Some (block_at p scope)
  pub own : (block_at p scope).scope ≡ scope
  pub first : take (length formals) (block_at p scope).layout ≡ map formal_meaning formals
  pub takes : arguments p (block_number p scope) ≡ formals_cells p.state.forms formals
  pub leaves : results p (block_number p scope) ≡ left

-- ## What is seen

-- The names in view are main's, of activations that static links lead to, or parameters of accepts that are open; the cells of these variables are there,
-- and have addresses, and each object in view has a number. The block is the one at hand, or one beside it.
pub record IsSeen (g : Setting) (b : Block) (env : Env) : Type 0 where
  pub known : AreKnown g.program b g.accepts env
  pub seen : (v : Spot) (t : Option TypeId) → IsDeclaredAt (names_at g b env) v t → IsInView g.view (names_at g b env) v
  pub placed :
      (v : Spot) (t : Option TypeId) → IsDeclaredAt (names_at g b env) v t
      → first_word g.view (names_at g b env) v + type_cells g.program.state.forms t < 2 ^ 42
  pub objects :
      (v : Spot) (t : Option TypeId) (w : ℤ) → IsWordAt g.view (names_at g b env) v t w → is_object_type g.program.state.forms t ≡ true
      → (n : ℤ) × (g.number w ≡ Some n)
  pub beside : IsBeside g g.block b

abbrev pub AreSeen : Setting → List Block → Type 0
AreSeen g [] = Unit {0}
AreSeen g (b ∷ bs) = IsSeen g b b.env × AreSeen g bs

abbrev pub EachGuardSeen : Setting → Block → Option Guard → Type 0
EachGuardSeen g b None = Unit {0}
EachGuardSeen g b (Some guard) = IsSeen g b guard.env

-- ## Blocks that are called, in the image

-- The image has the block with this scope at the number by which code calls it. It takes the cells of the parameters, and where its body is at hand and
-- what is in view there is seen, its code performs the body.
pub record CalleeStands (t : ProgramTree) (g : Setting) (scope : ℕ) (formals : List Formal) (c : CodeBlock) : Type 0 where
  pub there : slice_get (image_of t).blocks (block_number g.program scope) ≡ Some c
  pub stands : BlockStands g (block_at g.program scope) c
  pub params : c.params ≡ formals_cells g.program.state.forms formals
  pub body :
      g.trial ≡ of_own → g.meetings ≡ [] → g.accepts ≡ [] → IsOfBlock g (block_at g.program scope) c
      → IsSeen g (block_at g.program scope) (block_at g.program scope).env
      → Performs g (block_at g.program scope) (block_at g.program scope).env c.body g.under [] (body_of (block_at g.program scope))
