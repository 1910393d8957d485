-- What is told once, of the program, of a procedure that is called from outside its module.
use Rattle.std.specs.Prelude.{ℕ, ◌<◌, ◌≡◌, List, [], ◌∷◌, length, Some}
use Rattle.std.specs.List.{slice_get}
use Rattle.pfc_code.specs.declared.images.Block.{Block as CodeBlock}
use Rattle.pfc_code.specs.declared.instructions.Instr.TheVariants.{RET}
use Rattle.pfc_tree.specs.trees.Parts.{ProgramTree}
use Rattle.pfc_types.specs.declared.heads.Formal.{Formal}
use Rattle.pfc_types.specs.declared.heads.SubHead.{SubHead}
use Rattle.pfc_types.specs.declared.scope.Meaning.{Meaning}
use Rattle.pfc_semantics.specs.Layouts.{sub_with}
use Rattle.pfc_semantics.specs.Programs.{Block, program_of}
use Rattle.pfc_translation.specs.Sites.{module_of}
use Rattle.pfc_translation.specs.Images.{image_of, end_of}
use Rattle.pfc_standing_code.specs.Words.{AreKnown}
use Rattle.pfc_call_laws.specs.Blocks.{Takes, own_variables}
use Rattle.pfc_call_laws.specs.Around.{HasScopes, IsNested}
use Rattle.pfc_call_laws.specs.Calls.{HasNoObjects}
use Rattle.pfc_representation.specs.Levels.{number_in}

-- A procedure of a monitor or of a resource, the n-th module of all: its static link leads to main's first activation. Its parameters stand first in its
-- layout, none of its variables is an object, and what is in view in its body is known there. It is none of main's bodies.
pub record IsExported (t : ProgramTree) (n k : ℕ) (callee : Block) (formals : List Formal) : Type 0 where
  pub among : n < length (program_of t).state.blocks.modules
  pub inside : module_of (program_of t).state.blocks callee.outer ≡ Some n
  pub head : SubHead
  pub headed : sub_with (program_of t).state.blocks.subs callee.scope ≡ Some head
  pub formals_are : formals ≡ head.formals
  pub procedure : end_of (Some head) ≡ RET
  pub there : slice_get (program_of t).blocks k ≡ Some callee
  pub code : CodeBlock
  pub is : slice_get (image_of t).blocks k ≡ Some code
  pub number : k ≡ number_in (program_of t) callee
  pub takes : Takes (program_of t) callee formals code
  pub own : (j : ℕ) (m : Meaning) → slice_get callee.layout j ≡ Some m → j < own_variables (program_of t) callee
  pub scopes : HasScopes (program_of t) callee
  pub nested : IsNested (program_of t) (program_of t).main callee 0
  pub objects : HasNoObjects (program_of t) callee
  pub apart : (i : ℕ) → slice_get ((program_of t).main ∷ (program_of t).modules) i ≡ Some callee → ⊥
  pub known : AreKnown (program_of t) callee [] callee.env
  pub state : callee.env.state ≡ (program_of t).state
