-- The store, and first values of variables, with numbers of 32 bits.
use Rattle.std.proofs.Common.{ℕ, zero, suc, ◌+◌, pos, List, [], ◌∷◌, length, set, drop, map, refl}
use Rattle.std.specs.Prelude.{◌==◌}
use Rattle.pfc_types.specs.declared.scope.Meaning.{Meaning}
use Rattle.pfc_types.specs.declared.scope.Meaning.TheVariants.{Variable}
use Rattle.pfc_semantics.specs.Values.{Location, Value, Values, ordinal, compound, points, no_values, more_values, part_at, with_part_at, part_of, with_part_of}
use Rattle.pfc_semantics.specs.Values.{part, with_part, path_of}
use Rattle.pfc_semantics.specs.Store.{Store, values_in, variable, value_at, with_values, stored, without}
use Rattle.pfc_semantics.specs.Objects.{first_laid}
use Rattle.pfc_semantics.specs.Programs.{Block, Program}
use Rattle.pfc_semantics.specs.Configurations.{Activation}
use Rattle.pfc_semantics.specs.Calls.{new_values}
use Rattle.pfc_semantics.specs.Processes.{without_all}
use Rattle.pfc_semantics.specs.Rendezvous.{taken_from}
use Rattle.pfc_run_invariants.specs.Fitting.{FitsValue, FitValues, FitList, FitsRoom, FitsStore}
use Rattle.pfc_run_invariants.proofs.Lists.{all_append, all_set, all_get, all_drop, all_map, all_either}

-- ## Parts of values

part_at_fits : (vs : Values) (i : ℕ) → FitValues vs → FitsValue (part_at vs i)
part_at_fits no_values i fits = refl
part_at_fits (more_values v vs) zero fits = fits.0
part_at_fits (more_values v vs) (suc i) fits = part_at_fits vs i fits.1

with_part_at_fits : (vs : Values) (i : ℕ) (new : Value) → FitValues vs → FitsValue new → FitValues (with_part_at vs i new)
with_part_at_fits no_values i new fits one = tt
with_part_at_fits (more_values v vs) zero new fits one = (one, fits.1)
with_part_at_fits (more_values v vs) (suc i) new fits one = (fits.0, with_part_at_fits vs i new fits.1 one)

part_of_fits : (v : Value) (i : ℕ) → FitsValue v → FitsValue (part_of v i)
part_of_fits (ordinal n) i fits = fits
part_of_fits (compound vs) i fits = part_at_fits vs i fits
part_of_fits (points l) i fits = tt

with_part_of_fits : (v : Value) (i : ℕ) (new : Value) → FitsValue v → FitsValue new → FitsValue (with_part_of v i new)
with_part_of_fits (ordinal n) i new fits one = fits
with_part_of_fits (compound vs) i new fits one = with_part_at_fits vs i new fits one
with_part_of_fits (points l) i new fits one = tt

part_fits : (path : List ℕ) (v : Value) → FitsValue v → FitsValue (part path v)
part_fits [] v fits = fits
part_fits (i ∷ path) v fits = part_fits path (part_of v i) (part_of_fits v i fits)

with_part_fits : (path : List ℕ) (v new : Value) → FitsValue v → FitsValue new → FitsValue (with_part path v new)
with_part_fits [] v new fits one = one
with_part_fits (i ∷ path) v new fits one =
    with_part_of_fits v i (with_part path (part_of v i) new) fits (with_part_fits path (part_of v i) new (part_of_fits v i fits) one)

-- ## The store

pub values_in_fit : (store : Store) (a : ℕ) → FitsStore store → FitList (values_in store a)
values_in_fit [] a fits = tt
values_in_fit (room ∷ store) a fits =
    all_either FitsValue (room.activation == a) room.values (values_in store a) fits.0 (values_in_fit store a fits.1)

pub variable_fits : (store : Store) (l : Location) → FitsStore store → FitsValue (variable store l)
variable_fits store l fits =
    all_get FitsValue (values_in store l.activation) l.variable (ordinal (pos 0)) (values_in_fit store l.activation fits) refl

pub value_at_fits : (store : Store) (l : Location) → FitsStore store → FitsValue (value_at store l)
value_at_fits store l fits = part_fits (path_of l.selectors) (variable store l) (variable_fits store l fits)

pub with_values_fit : (store : Store) (a : ℕ) (values : List Value) → FitsStore store → FitList values → FitsStore (with_values store a values)
with_values_fit [] a values fits all = tt
with_values_fit (room ∷ store) a values fits all =
    all_either FitsRoom (room.activation == a) (record room { values = values } ∷ store) (room ∷ with_values store a values) (all, fits.1)
    (fits.0, with_values_fit store a values fits.1 all)

pub stored_fits : (store : Store) (l : Location) (v : Value) → FitsStore store → FitsValue v → FitsStore (stored store l v)
stored_fits store l v fits one =
    let values = values_in store l.activation in
    let new = with_part (path_of l.selectors) (variable store l) v in
    with_values_fit store l.activation (set values l.variable new) fits
    (all_set FitsValue values l.variable new (values_in_fit store l.activation fits)
    (with_part_fits (path_of l.selectors) (variable store l) v (variable_fits store l fits) one))

pub without_fits : (store : Store) (a : ℕ) → FitsStore store → FitsStore (without store a)
without_fits [] a fits = tt
without_fits (room ∷ store) a fits =
    all_either FitsRoom (room.activation == a) store (room ∷ without store a) fits.1 (fits.0, without_fits store a fits.1)

pub without_all_fits : (store : Store) (activations : List Activation) → FitsStore store → FitsStore (without_all store activations)
without_all_fits store [] fits = fits
without_all_fits store (a ∷ rest) fits = without_all_fits (without store a.number) rest (without_fits store a.number fits)

pub taken_fit : (first : ℕ) (new values : List Value) → FitList new → FitList values → FitList (taken_from first new values)
taken_fit first [] values all fits = fits
taken_fit first (v ∷ vs) values all fits = taken_fit (first + 1) vs (set values first v) all.1 (all_set FitsValue values first v fits all.0)

-- ## First values

first_fits : (firsts : List Value) → FitList firsts → (m : Meaning) → FitsValue (first_laid firsts m)
first_fits firsts all (Variable t reference) = all_get FitsValue firsts t.place (ordinal (pos 0)) all refl
first_fits firsts all m = refl

pub new_values_fit : (g : Program) → FitList g.firsts → (b : Block) (args : List Value) → FitList args → FitList (new_values g b args)
new_values_fit g firsts b args all =
    all_append FitsValue args (drop (length args) (map (first_laid g.firsts) b.layout)) all
    (all_drop FitsValue (length args) (map (first_laid g.firsts) b.layout) (all_map FitsValue (first_laid g.firsts) (first_fits g.firsts firsts) b.layout))
