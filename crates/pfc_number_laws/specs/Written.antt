-- Numbers that are written in a text have 32 bits: those of expressions and of constants. A number that a text can be read with has, and a char is a byte.
use Rattle.std.specs.Prelude.{ℕ, Option, Some, None}
use Rattle.std.specs.List.{AllByRecursion}
use Rattle.pfc_tree.specs.declared.tree.ConstItem.{ConstItem}
use Rattle.pfc_tree.specs.trees.Stmts.{BodyTree}
use Rattle.pfc_tree.specs.trees.Parts.{KindTree, PartTree, PartTrees, SubTree, ModuleTree, ProcessTree, ProgramTree, procedure, function, guarded, consts}
use Rattle.pfc_tree.specs.trees.Parts.{types, vars, sub_part, monitor, resource, process_part, no_parts, more_parts, sub, the_module, process}
use Rattle.pfc_run_invariants.specs.Written.{FitsExpr, FitsConstant, FitsBody}

-- nothing is asked of the scopes of accepts
abbrev pub any : ℕ → Type 0
any n = Unit {0}

-- so it is in a body, whichever scopes are in it
abbrev pub HasBody : BodyTree → Type 0
HasBody b = (n : ℕ) → FitsBody any n b

-- ## Parts

abbrev pub FitsKind : KindTree → Type 0
FitsKind procedure = Unit {0}
FitsKind (function x p) = Unit {0}
FitsKind (guarded e p) = FitsExpr e

abbrev pub FitsEnding : Option BodyTree → Type 0
FitsEnding None = Unit {0}
FitsEnding (Some b) = HasBody b

abbrev pub FitsItem : ConstItem → Type 0
FitsItem i = FitsConstant i.value

abbrev mutual
  pub FitsPart : PartTree → Type 0
  FitsPart (consts items) = AllByRecursion FitsItem items
  FitsPart (types items) = Unit {0}
  FitsPart (vars vs) = Unit {0}
  FitsPart (sub_part b) = FitsSub b
  FitsPart (monitor m) = FitsModule m
  FitsPart (resource m) = FitsModule m
  FitsPart (process_part q) = FitsProcess q

  pub FitParts : PartTrees → Type 0
  FitParts no_parts = Unit {0}
  FitParts (more_parts q qs) = FitsPart q × FitParts qs

  pub FitsSub : SubTree → Type 0
  FitsSub (sub x gs kind ps b p) = FitsKind kind × FitParts ps × HasBody b

  pub FitsModule : ModuleTree → Type 0
  FitsModule (the_module x exports ps b last p) = FitParts ps × FitsEnding b

  pub FitsProcess : ProcessTree → Type 0
  FitsProcess (process many x gs es ps b p) = FitParts ps × HasBody b

-- a program in which each number that is written has 32 bits, but for bounds of arrays and labels
pub record FitsTree (t : ProgramTree) : Type 0 where
  pub parts : FitParts t.parts
  pub body : HasBody t.body
