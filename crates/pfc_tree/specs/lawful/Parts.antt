-- When parts and programs are lawful: each list has the length, and each part stands where the grammar has it.
use Rattle.std.specs.Prelude.{Option, Some, None, List, [], ◌∷◌}
use Rattle.pfc_tree.specs.Symbols.{Text}
use Rattle.pfc_tree.specs.shapes.Stmts.{BodyShape}
use Rattle.pfc_tree.specs.shapes.Parts.{KindShape, EntryShape, PartShape, PartShapes, SubShape, ModuleShape, ProcessShape, ProgramShape, procedure, function}
use Rattle.pfc_tree.specs.shapes.Parts.{guarded, consts, types, vars, sub_part, monitor, resource, process_part, no_parts, more_parts, sub, the_module, process}
use Rattle.pfc_tree.specs.lawful.Exprs.{IsLawfulExpr}
use Rattle.pfc_tree.specs.lawful.Types.{IsFilled, AreLawfulFields, AreLawfulConstItems, AreLawfulTypeItems, AreLawfulFormals}
use Rattle.pfc_tree.specs.lawful.Stmts.{IsLawfulBody}

-- whose parts a list holds
pub data Home : Type 0 where
  of_program : Home
  of_resource : Home
  -- a sub's, a monitor's or a process's
  of_other : Home

-- a monitor, a resource or a process stands only among the program's parts
abbrev pub HoldsModules : Home → Type 0
HoldsModules of_program = Unit {0}
HoldsModules of_resource = ⊥
HoldsModules of_other = ⊥

-- a guarded procedure stands only among a resource's parts
abbrev pub HoldsGuarded : Home → Type 0
HoldsGuarded of_program = ⊥
HoldsGuarded of_resource = Unit {0}
HoldsGuarded of_other = ⊥

abbrev pub IsLawfulKind : Home → KindShape → Type 0
IsLawfulKind h procedure = Unit {0}
IsLawfulKind h (function t) = Unit {0}
IsLawfulKind h (guarded e) = HoldsGuarded h × IsLawfulExpr e

-- each `export` has a name
abbrev pub AreLawfulExports : List (List Text) → Type 0
AreLawfulExports [] = Unit {0}
AreLawfulExports (xs ∷ es) = IsFilled xs × AreLawfulExports es

abbrev pub AreLawfulEntries : List EntryShape → Type 0
AreLawfulEntries [] = Unit {0}
AreLawfulEntries (n ∷ ns) = AreLawfulFormals n.formals × AreLawfulEntries ns

abbrev pub IsLawfulEnding : Option BodyShape → Type 0
IsLawfulEnding None = Unit {0}
IsLawfulEnding (Some b) = IsLawfulBody b

abbrev mutual
  pub IsLawfulPart : Home → PartShape → Type 0
  IsLawfulPart h (consts items) = IsFilled items × AreLawfulConstItems items
  IsLawfulPart h (types items) = IsFilled items × AreLawfulTypeItems items
  IsLawfulPart h (vars vs) = AreLawfulFields vs
  IsLawfulPart h (sub_part s) = IsLawfulSub h s
  IsLawfulPart h (monitor m) = HoldsModules h × IsLawfulModule of_other m
  IsLawfulPart h (resource m) = HoldsModules h × IsLawfulModule of_resource m
  IsLawfulPart h (process_part q) = HoldsModules h × IsLawfulProcess q

  pub AreLawfulParts : Home → PartShapes → Type 0
  AreLawfulParts h no_parts = Unit {0}
  AreLawfulParts h (more_parts q qs) = IsLawfulPart h q × AreLawfulParts h qs

  pub IsLawfulSub : Home → SubShape → Type 0
  IsLawfulSub h (sub x gs k qs b) = AreLawfulFormals gs × IsLawfulKind h k × AreLawfulParts of_other qs × IsLawfulBody b

  -- a monitor, or a resource, whose parts are of its own home
  pub IsLawfulModule : Home → ModuleShape → Type 0
  IsLawfulModule own (the_module x es qs b) = AreLawfulExports es × AreLawfulParts own qs × IsLawfulEnding b

  pub IsLawfulProcess : ProcessShape → Type 0
  IsLawfulProcess (process many x gs ns qs b) = AreLawfulFormals gs × AreLawfulEntries ns × AreLawfulParts of_other qs × IsLawfulBody b

-- a tree is lawful
abbrev pub IsLawful : ProgramShape → Type 0
IsLawful t = AreLawfulParts of_program t.parts × IsLawfulBody t.body
