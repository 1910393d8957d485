-- Names: what they stand for, the scopes that hold them, and which are in view at a place.
use Rattle.std.specs.Prelude.{ℕ, pos, if◌then◌else◌, nat_lt, List, [], ◌∷◌, length, get_or, Option, Some, None, option_map, bytes_eq, position, codes}
use Rattle.std.specs.Map.{lookup, keys_of}
use Rattle.std.specs.Option.{option_or}
use Rattle.pfc_tree.specs.Symbols.{Text}
use Rattle.pfc_types.specs.Types.{integer, boolean, char, semaphore, condition, synchronous}
use Rattle.pfc_types.specs.declared.scope.Meaning.{Meaning}
use Rattle.pfc_types.specs.declared.scope.Meaning.TheVariants.{Constant, Named, Predeclared}
use Rattle.pfc_types.specs.declared.predeclared.PredeclaredName.TheVariants as name
use Rattle.pfc_types.specs.declared.view.Found.{Found}

-- the names of one block with what they stand for, in the order of the text, which is that of the layout
abbrev pub Names : Type 0
Names = List (Text × Meaning)

-- what a name of the block stands for
abbrev pub meaning_in : Names → Text → Option Meaning
meaning_in names x = lookup (bytes_eq x) names

-- the place of a name in the order of the layout, from 0
abbrev pub position_in : Names → Text → Option ℕ
position_in names x = position (bytes_eq x) (keys_of names)

-- the predeclared names: types, constants, `any`, functions and procedures
abbrev pub predeclared_names : Names
predeclared_names =
    (codes "integer", Named integer)
    ∷ (codes "boolean", Named boolean)
    ∷ (codes "char", Named char)
    ∷ (codes "semaphore", Named semaphore)
    ∷ (codes "condition", Named condition)
    ∷ (codes "synchronous", Named synchronous)
    ∷ (codes "true", Constant boolean (pos 1))
    ∷ (codes "false", Constant boolean (pos 0))
    ∷ (codes "maxint", Constant integer (pos 2147483647))
    ∷ (codes "any", Predeclared name.Any)
    ∷ (codes "abs", Predeclared name.Abs)
    ∷ (codes "sqr", Predeclared name.Sqr)
    ∷ (codes "odd", Predeclared name.Odd)
    ∷ (codes "ord", Predeclared name.Ord)
    ∷ (codes "chr", Predeclared name.Chr)
    ∷ (codes "succ", Predeclared name.Succ)
    ∷ (codes "pred", Predeclared name.Pred)
    ∷ (codes "eof", Predeclared name.Eof)
    ∷ (codes "eoln", Predeclared name.Eoln)
    ∷ (codes "empty", Predeclared name.Empty)
    ∷ (codes "clock", Predeclared name.Clock)
    ∷ (codes "random", Predeclared name.Random)
    ∷ (codes "read", Predeclared name.Read)
    ∷ (codes "readln", Predeclared name.Readln)
    ∷ (codes "write", Predeclared name.Write)
    ∷ (codes "writeln", Predeclared name.Writeln)
    ∷ (codes "initial", Predeclared name.Initial)
    ∷ (codes "wait", Predeclared name.Wait)
    ∷ (codes "signal", Predeclared name.Signal)
    ∷ (codes "delay", Predeclared name.Delay)
    ∷ (codes "resume", Predeclared name.Resume)
    ∷ (codes "sleep", Predeclared name.Sleep)
    ∷ []

-- ## Names in view

-- a scope, by its number in the order of the text, and how many of its names are in view
pub record Level : Type 0 where
  pub scope : ℕ
  pub count : ℕ

-- the scope with a number
abbrev pub scope_at : List Names → ℕ → Names
scope_at scopes i = get_or scopes i []

-- all that a scope holds so far
abbrev pub all_names : List Names → ℕ → Level
all_names scopes i = record { scope = i; count = length (scope_at scopes i) }

-- all that the scope i holds so far, and around it what is in view outside
abbrev pub here : List Names → ℕ → List Level → List Level
here scopes i outer = all_names scopes i ∷ outer

-- a name that is held at place k is in view where k is below the number of names in view
abbrev pub within : Level → Option ℕ → Option Meaning → Option Found
within level (Some k) (Some m) = if nat_lt k level.count then Some (record { scope = Some level.scope; place = k; meaning = m }) else None
within level k m = None

abbrev pub found_at : List Names → Level → Text → Option Found
found_at scopes level x = within level (position_in (scope_at scopes level.scope) x) (meaning_in (scope_at scopes level.scope) x)

abbrev pub predeclared : Text → Option Found
predeclared x = option_map (λ m. record { scope = None; place = 0; meaning = m }) (meaning_in predeclared_names x)

-- The innermost declaration counts: the levels stand innermost first, and the predeclared names are around them all.
abbrev pub found_in : List Names → List Level → Text → Option Found
found_in scopes [] x = predeclared x
found_in scopes (level ∷ view) x = option_or (found_at scopes level x) (found_in scopes view x)

-- what a name in view stands for
abbrev pub meaning_of : Option Found → Option Meaning
meaning_of found = option_map (λ f. f.meaning) found

abbrev pub look : List Names → List Level → Text → Option Meaning
look scopes view x = meaning_of (found_in scopes view x)
