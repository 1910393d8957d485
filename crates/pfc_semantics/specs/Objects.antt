-- The first values of variables. Each part of a simple type is at ordinal 0. An object stands for its number: semaphores, channels and
-- conditions count from 0 in the order of main's layout, and processes from 1.
use Rattle.std.specs.Prelude.{ℕ, ◌+◌, zero, suc, pos, Bool, if◌then◌else◌, List, [], ◌∷◌, ◌++◌, length, take, get_or, fold, Option, Some, None}
use Rattle.pfc_types.specs.Types.{Forms, extent}
use Rattle.pfc_types.specs.Fields.{FieldList}
use Rattle.pfc_types.specs.Scopes.{Names, scope_at}
use Rattle.pfc_types.specs.Blocks.{Blocks, module_at}
use Rattle.pfc_types.specs.declared.types.TypeId.{TypeId}
use Rattle.pfc_types.specs.declared.types.TypeForm.{TypeForm}
use Rattle.pfc_types.specs.declared.types.TypeForm.TheVariants.{Channel, Array, Record, Process}
use Rattle.pfc_types.specs.declared.scope.Meaning.{Meaning}
use Rattle.pfc_types.specs.declared.scope.Meaning.TheVariants.{Variable, Process as Single, Module}
use Rattle.pfc_types.specs.declared.heads.ModuleHead.{ModuleHead}
use Rattle.pfc_state.specs.Waits.{same_truth}
use Rattle.pfc_semantics.specs.Values.{Value, Values, ordinal, compound, no_values, more_values, copies}

-- ## Without objects: ordinal 0 in every part

abbrev pub first_of : List Value → TypeId → Value
first_of before t = get_or before t.place (ordinal (pos 0))

abbrev pub first_fields : List Value → FieldList → Values
first_fields before [] = no_values
first_fields before (f ∷ fields) = more_values (first_of before f.1) (first_fields before fields)

abbrev pub first_form : List Value → TypeForm → Value
first_form before (Channel t) = ordinal (pos 0)
first_form before (Array index low high element) = compound (copies (extent low high) (first_of before element))
first_form before (Record fields) = compound (first_fields before fields)
first_form before (Process n) = ordinal (pos 0)

abbrev pub first_next : List Value → Option TypeForm → Value
first_next before None = ordinal (pos 0)
first_next before (Some form) = first_form before form

-- the first value of each type of the table, whose types stand behind those that they are made of
abbrev pub all_first : Forms → List Value
all_first forms = fold (λ before form. before ++ first_next before form ∷ []) [] forms

abbrev pub initial : Forms → TypeId → Value
initial forms t = first_of (all_first forms) t

-- the first value of a place of a layout; a reference parameter takes what is passed
abbrev pub first_laid : List Value → Meaning → Value
first_laid firsts (Variable t reference) = first_of firsts t
first_laid firsts m = ordinal (pos 0)

-- ## With objects: each has the next number of its kind

-- the objects so far: how many semaphores and channels, the monitor of each condition, and the declaration of each process
pub record Objects : Type 0 where
  pub semaphores : ℕ
  pub channels : ℕ
  pub conditions : List ℕ
  pub processes : List ℕ

abbrev pub no_objects : Objects
no_objects = record { semaphores = 0; channels = 0; conditions = []; processes = [] }

-- a value, and the objects behind it
pub record Numbered (A : Type 0) : Type 0 where
  pub is : A
  pub objects : Objects

-- how the variables of a type are numbered, from the objects before on; conditions belong to the monitor with the number given
abbrev pub Numbering : Type 0
Numbering = ℕ → Objects → Numbered Value

abbrev pub unnumbered : Value → Numbering
unnumbered v monitor o = record { is = v; objects = o }

abbrev pub a_semaphore : Numbering
a_semaphore monitor o = record { is = ordinal (pos o.semaphores); objects = record o { semaphores = o.semaphores + 1 } }

abbrev pub a_channel : Numbering
a_channel monitor o = record { is = ordinal (pos o.channels); objects = record o { channels = o.channels + 1 } }

abbrev pub a_condition : Numbering
a_condition monitor o = record { is = ordinal (pos (length o.conditions)); objects = record o { conditions = o.conditions ++ monitor ∷ [] } }

-- a process with the n-th declaration; main is process 0
abbrev pub a_process : ℕ → Numbering
a_process n monitor o = record { is = ordinal (pos (length o.processes + 1)); objects = record o { processes = o.processes ++ n ∷ [] } }

abbrev pub numbering_of : List Numbering → TypeId → Numbering
numbering_of before t = get_or before t.place (unnumbered (ordinal (pos 0)))

abbrev pub one_more : Numbered Value → (Objects → Numbered Values) → Numbered Values
one_more v rest = let vs = rest v.objects in record { is = more_values v.is vs.is; objects = vs.objects }

abbrev pub numbered_copies : ℕ → Numbering → ℕ → Objects → Numbered Values
numbered_copies zero f monitor o = record { is = no_values; objects = o }
numbered_copies (suc n) f monitor o = one_more (f monitor o) (numbered_copies n f monitor)

abbrev pub numbered_fields : List Numbering → FieldList → ℕ → Objects → Numbered Values
numbered_fields before [] monitor o = record { is = no_values; objects = o }
numbered_fields before (f ∷ fields) monitor o = one_more (numbering_of before f.1 monitor o) (numbered_fields before fields monitor)

abbrev pub as_compound : Numbered Values → Numbered Value
as_compound vs = record { is = compound vs.is; objects = vs.objects }

abbrev pub numbering_form : List Numbering → TypeForm → Numbering
numbering_form before (Channel t) monitor o = a_channel monitor o
numbering_form before (Array index low high element) monitor o = as_compound (numbered_copies (extent low high) (numbering_of before element) monitor o)
numbering_form before (Record fields) monitor o = as_compound (numbered_fields before fields monitor o)
numbering_form before (Process n) monitor o = a_process n monitor o

-- the predeclared types, by their places: integer, boolean, char, semaphore, condition, synchronous
abbrev pub predeclared_numberings : List Numbering
predeclared_numberings =
    unnumbered (ordinal (pos 0))
    ∷ unnumbered (ordinal (pos 0))
    ∷ unnumbered (ordinal (pos 0))
    ∷ a_semaphore
    ∷ a_condition
    ∷ unnumbered (ordinal (pos 0))
    ∷ []

abbrev pub numbering_next : List Numbering → Option TypeForm → Numbering
numbering_next before None = get_or predeclared_numberings (length before) (unnumbered (ordinal (pos 0)))
numbering_next before (Some form) = numbering_form before form

abbrev pub all_numberings : Forms → List Numbering
all_numberings forms = fold (λ before form. before ++ numbering_next before form ∷ []) [] forms

-- ## Main's variables

abbrev pub one_before : Numbered (List Value) → (Objects → Numbered (List Value)) → Numbered (List Value)
one_before vs rest = let more = rest vs.objects in record { is = vs.is ++ more.is; objects = more.objects }

abbrev pub alone : Numbered Value → Numbered (List Value)
alone v = record { is = v.is ∷ []; objects = v.objects }

abbrev pub numbered_names : List Numbering → Names → ℕ → Objects → Numbered (List Value)
numbered_names all [] monitor o = record { is = []; objects = o }
numbered_names all (x ∷ names) monitor o = one_before (numbered_name x.1) (numbered_names all names monitor)
  where
    numbered_name : Meaning → Numbered (List Value)
    numbered_name (Variable t reference) = alone (numbering_of all t monitor o)
    numbered_name m = record { is = []; objects = o }

-- Monitors and resources are numbered apart: how many of its kind stand before the n-th module of the text.
abbrev pub of_kind : Bool → List ModuleHead → ℕ
of_kind resource [] = 0
of_kind resource (m ∷ ms) = if same_truth m.resource resource then 1 + of_kind resource ms else of_kind resource ms

abbrev pub module_number : Blocks → ℕ → ℕ
module_number b n = of_kind (module_at b n).resource (take n b.modules)

abbrev pub of_main : Blocks → List Numbering → Meaning → Objects → Numbered (List Value)
of_main b all (Variable t reference) o = alone (numbering_of all t 0 o)
of_main b all (Single n) o = alone (a_process n 0 o)
of_main b all (Module n) o = numbered_names all (scope_at b.scopes (module_at b n).scope) (module_number b n) o
of_main b all m o = record { is = []; objects = o }

abbrev pub numbered_main : Blocks → List Numbering → Names → Objects → Numbered (List Value)
numbered_main b all [] o = record { is = []; objects = o }
numbered_main b all (x ∷ names) o = one_before (of_main b all x.1 o) (numbered_main b all names)

-- the first values of main's variables, in the order of its layout, and all objects of the program
abbrev pub main_objects : Forms → Blocks → Numbered (List Value)
main_objects forms b = numbered_main b (all_numberings forms) (scope_at b.scopes 0) no_objects
