-- When constants, types and groups of parameters are lawful: the lists that the grammar wants filled are, and no number
-- is negative.
use Rattle.std.specs.Prelude.{List, [], ◌∷◌}
use Rattle.pfc_tree.specs.shapes.Types.{ConstantShape, RangeShape, ConstItemShape, TypeItemShape, GroupShape, TypeShape, VarShape, VarShapes, number, constant}
use Rattle.pfc_tree.specs.shapes.Types.{literal, named, channel, array, fields, var_item, no_vars, more_vars}
use Rattle.pfc_tree.specs.lawful.Exprs.{IsWritten}

-- a list holds one or more
abbrev pub IsFilled : {A : Type 0} → List A → Type 0
IsFilled [] = ⊥
IsFilled (x ∷ xs) = Unit {0}

abbrev pub IsLawfulConstant : ConstantShape → Type 0
IsLawfulConstant (number sign n) = IsWritten n
IsLawfulConstant (constant sign x) = Unit {0}
IsLawfulConstant (literal x) = Unit {0}

abbrev pub AreLawfulConstants : List ConstantShape → Type 0
AreLawfulConstants [] = Unit {0}
AreLawfulConstants (c ∷ cs) = IsLawfulConstant c × AreLawfulConstants cs

abbrev pub IsLawfulRange : RangeShape → Type 0
IsLawfulRange r = IsLawfulConstant r.low × IsLawfulConstant r.high

abbrev pub AreLawfulRanges : List RangeShape → Type 0
AreLawfulRanges [] = Unit {0}
AreLawfulRanges (r ∷ rs) = IsLawfulRange r × AreLawfulRanges rs

abbrev mutual
  pub IsLawfulType : TypeShape → Type 0
  IsLawfulType (named x) = Unit {0}
  IsLawfulType (channel t) = IsLawfulType t
  IsLawfulType (array rs t) = IsFilled rs × AreLawfulRanges rs × IsLawfulType t
  IsLawfulType (fields vs last) = AreLawfulFields vs

  pub IsLawfulVar : VarShape → Type 0
  IsLawfulVar (var_item xs t) = IsFilled xs × IsLawfulType t

  -- the fields of a record, and the variables of a `var`, are one or more
  pub AreLawfulFields : VarShapes → Type 0
  AreLawfulFields no_vars = ⊥
  AreLawfulFields (more_vars v vs) = IsLawfulVar v × AreLawfulVars vs

  pub AreLawfulVars : VarShapes → Type 0
  AreLawfulVars no_vars = Unit {0}
  AreLawfulVars (more_vars v vs) = IsLawfulVar v × AreLawfulVars vs

abbrev pub AreLawfulConstItems : List ConstItemShape → Type 0
AreLawfulConstItems [] = Unit {0}
AreLawfulConstItems (i ∷ items) = IsLawfulConstant i.value × AreLawfulConstItems items

abbrev pub AreLawfulTypeItems : List TypeItemShape → Type 0
AreLawfulTypeItems [] = Unit {0}
AreLawfulTypeItems (i ∷ items) = IsLawfulType i.form × AreLawfulTypeItems items

-- each group of parameters has a name; no group writes no parentheses
abbrev pub AreLawfulFormals : List GroupShape → Type 0
AreLawfulFormals [] = Unit {0}
AreLawfulFormals (g ∷ gs) = IsFilled g.names × AreLawfulFormals gs
