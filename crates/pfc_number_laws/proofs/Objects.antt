-- First values of variables have numbers of 32 bits, where there are no more objects than such numbers.
use Rattle.std.proofs.Common.{ℕ, zero, suc, ◌+◌, ◌≤◌, pos, List, [], ◌∷◌, ◌++◌, length, length-append, Option, Some, None, refl, arith}
use Rattle.std.proofs.lemmas.Bool.Decides.{nat_tests}
use Rattle.std.specs.Prelude.{fold}
use Rattle.std.specs.List.{AllByRecursion}
use Rattle.pfc_types.specs.Types.{Forms, extent}
use Rattle.pfc_types.specs.Fields.{FieldList}
use Rattle.pfc_types.specs.Scopes.{Names, scope_at}
use Rattle.pfc_types.specs.Blocks.{Blocks, module_at}
use Rattle.pfc_types.specs.declared.types.TypeId.{TypeId}
use Rattle.pfc_types.specs.declared.types.TypeForm.{TypeForm}
use Rattle.pfc_types.specs.declared.types.TypeForm.TheVariants.{Channel, Array, Record, Process}
use Rattle.pfc_types.specs.declared.scope.Meaning.{Meaning}
use Rattle.pfc_types.specs.declared.scope.Meaning.TheVariants.{Variable, Process as Single, Module}
use Rattle.pfc_semantics.specs.Values.{Value, ordinal, copies}
use Rattle.pfc_semantics.specs.Objects.{first_of, first_fields, first_next, all_first, Objects, no_objects, Numbered, Numbering, unnumbered, a_semaphore}
use Rattle.pfc_semantics.specs.Objects.{a_channel, a_condition, a_process, numbering_of, numbered_copies, numbered_fields, predeclared_numberings}
use Rattle.pfc_semantics.specs.Objects.{numbering_next, all_numberings, numbered_names, module_number, of_main, numbered_main, main_objects}
use Rattle.pfc_run_invariants.specs.Fitting.{Fits, FitsValue, FitValues, FitList}
use Rattle.pfc_number_laws.specs.Objects.{AreFew}
use Rattle.pfc_run_invariants.proofs.Lists.{all_append, all_push, all_get}

-- ## Without objects

copies_fit : (n : ℕ) (v : Value) → FitsValue v → FitValues (copies n v)
copies_fit zero v fits = tt
copies_fit (suc n) v fits = (fits, copies_fit n v fits)

first_of_fits : (before : List Value) → FitList before → (t : TypeId) → FitsValue (first_of before t)
first_of_fits before all t = all_get FitsValue before t.place (ordinal (pos 0)) all refl

fields_fit : (before : List Value) → FitList before → (fields : FieldList) → FitValues (first_fields before fields)
fields_fit before all [] = tt
fields_fit before all (f ∷ fields) = (first_of_fits before all f.1, fields_fit before all fields)

next_fits : (before : List Value) → FitList before → (form : Option TypeForm) → FitsValue (first_next before form)
next_fits before all None = refl
next_fits before all (Some (Channel t)) = refl
next_fits before all (Some (Array index low high element)) = copies_fit (extent low high) (first_of before element) (first_of_fits before all element)
next_fits before all (Some (Record fields)) = fields_fit before all fields
next_fits before all (Some (Process n)) = refl

pub firsts_fit : (forms : Forms) → FitList (all_first forms)
firsts_fit forms = by forms [] tt
  where
    by : (forms : Forms) (before : List Value) → FitList before
        → FitList (fold (λ (before : List Value) (form : Option TypeForm). before ++ first_next before form ∷ []) before forms)
    by [] before all = all
    by (form ∷ forms) before all =
        by forms (before ++ first_next before form ∷ []) (all_push FitsValue before (first_next before form) all (next_fits before all form))

-- ## With objects

-- Where the objects behind are few, so are those before, and this has 32 bits.
abbrev FitsWith : {A : Type 0} → (A → Type 0) → (Objects → Numbered A) → Type 0
FitsWith {A} P f = (o : Objects) → AreFew (f o).objects → P (f o).is × AreFew o

abbrev IsFitting : Numbering → Type 0
IsFitting f = (monitor : ℕ) → FitsWith FitsValue (f monitor)

small : (n : ℕ) → n ≤ 2147483647 → Fits (pos n)
small n most = grind (arith, nat_tests)

plain_fits : IsFitting (unnumbered (ordinal (pos 0)))
plain_fits monitor o few = (refl, few)

semaphore_fits : IsFitting a_semaphore
semaphore_fits monitor o few =
    let most = few.semaphores in (
      small o.semaphores (omega (arith, most)),
      record { semaphores = omega (arith, most); channels = few.channels; conditions = few.conditions; processes = few.processes },
    )

channel_fits : IsFitting a_channel
channel_fits monitor o few =
    let most = few.channels in (
      small o.channels (omega (arith, most)),
      record { semaphores = few.semaphores; channels = omega (arith, most); conditions = few.conditions; processes = few.processes },
    )

condition_fits : IsFitting a_condition
condition_fits monitor o few =
    let most = few.conditions in
    let more = length-append o.conditions (monitor ∷ []) in (
      small (length o.conditions) (omega (arith, most, more)),
      record { semaphores = few.semaphores; channels = few.channels; conditions = omega (arith, most, more); processes = few.processes },
    )

process_fits : (n : ℕ) → IsFitting (a_process n)
process_fits n monitor o few =
    let most = few.processes in
    let more = length-append o.processes (n ∷ []) in (
      small (length o.processes + 1) (omega (arith, most, more)),
      record { semaphores = few.semaphores; channels = few.channels; conditions = few.conditions; processes = omega (arith, most, more) },
    )

numbering_fits : (before : List Numbering) → AllByRecursion IsFitting before → (t : TypeId) → IsFitting (numbering_of before t)
numbering_fits before all t = all_get IsFitting before t.place (unnumbered (ordinal (pos 0))) all plain_fits

copies_fitting : (n : ℕ) (f : Numbering) (monitor : ℕ) → IsFitting f → FitsWith FitValues (numbered_copies n f monitor)
copies_fitting zero f monitor fits o few = (tt, few)
copies_fitting (suc n) f monitor fits o few =
    let later = copies_fitting n f monitor fits (f monitor o).objects few in
    let first = fits monitor o later.1 in ((first.0, later.0), first.1)

fields_fitting :
    (before : List Numbering) → AllByRecursion IsFitting before → (fields : FieldList) (monitor : ℕ) →
    FitsWith FitValues (numbered_fields before fields monitor)
fields_fitting before all [] monitor o few = (tt, few)
fields_fitting before all (f ∷ fields) monitor o few =
    let later = fields_fitting before all fields monitor (numbering_of before f.1 monitor o).objects few in
    let first = numbering_fits before all f.1 monitor o later.1 in ((first.0, later.0), first.1)

predeclared_fit : AllByRecursion IsFitting predeclared_numberings
predeclared_fit = (plain_fits, (plain_fits, (plain_fits, (semaphore_fits, (condition_fits, (plain_fits, tt))))))

next_fitting : (before : List Numbering) → AllByRecursion IsFitting before → (form : Option TypeForm) → IsFitting (numbering_next before form)
next_fitting before all None = all_get IsFitting predeclared_numberings (length before) (unnumbered (ordinal (pos 0))) predeclared_fit plain_fits
next_fitting before all (Some (Channel t)) = channel_fits
next_fitting before all (Some (Array index low high element)) =
    λ monitor o few. copies_fitting (extent low high) (numbering_of before element) monitor (numbering_fits before all element) o few
next_fitting before all (Some (Record fields)) = λ monitor o few. fields_fitting before all fields monitor o few
next_fitting before all (Some (Process n)) = process_fits n

numberings_fit : (forms : Forms) → AllByRecursion IsFitting (all_numberings forms)
numberings_fit forms = by forms [] tt
  where
    by : (forms : Forms) (before : List Numbering) → AllByRecursion IsFitting before
        → AllByRecursion IsFitting (fold (λ (before : List Numbering) (form : Option TypeForm). before ++ numbering_next before form ∷ []) before forms)
    by [] before all = all
    by (form ∷ forms) before all =
        by forms (before ++ numbering_next before form ∷ []) (all_push IsFitting before (numbering_next before form) all (next_fitting before all form))

-- ## Main's variables

module _ (all : List Numbering) (fit : AllByRecursion IsFitting all) where
  names_fitting : (names : Names) (monitor : ℕ) → FitsWith FitList (numbered_names all names monitor)
  names_fitting [] monitor o few = (tt, few)
  names_fitting ((y, Variable t reference) ∷ names) monitor o few =
      let later = names_fitting names monitor (numbering_of all t monitor o).objects few in
      let here = numbering_fits all fit t monitor o later.1 in ((here.0, later.0), here.1)
  names_fitting ((y, m) ∷ names) monitor o few = names_fitting names monitor o few

  main_fitting : (b : Blocks) (names : Names) → FitsWith FitList (numbered_main b all names)
  main_fitting b [] o few = (tt, few)
  main_fitting b (x ∷ names) o few =
      let first = of_main b all x.1 o in
      let later = main_fitting b names first.objects few in
      let here = by x.1 o later.1 in
      (all_append FitsValue first.is (numbered_main b all names first.objects).is here.0 later.0, here.1)
    where
      by : (m : Meaning) → FitsWith FitList (of_main b all m)
      by (Variable t reference) o few = let one = numbering_fits all fit t 0 o few in ((one.0, tt), one.1)
      by (Single n) o few = let one = process_fits n 0 o few in ((one.0, tt), one.1)
      by (Module n) o few = names_fitting (scope_at b.scopes (module_at b n).scope) (module_number b n) o few
      by m o few = (tt, few)

pub variables_fit : (forms : Forms) (b : Blocks) → AreFew (main_objects forms b).objects → FitList (main_objects forms b).is
variables_fit forms b few = (main_fitting (all_numberings forms) (numberings_fit forms) b (scope_at b.scopes 0) no_objects few).0
