-- The places of names in the layouts of their blocks, scope by scope.
use Rattle.std.specs.Prelude.{◌≡◌, ℕ, ◌+◌, ◌<◌, List, [], ◌∷◌, length, get_or, Option}
use Rattle.pfc_types.specs.Scopes.{Names, scope_at}
use Rattle.pfc_types.specs.Blocks.{Blocks, sub_at}
use Rattle.pfc_types.specs.declared.heads.SubHead.{SubHead}
use Rattle.pfc_semantics.specs.Layouts.{laid_as, behind_result, variable_place}
use Rattle.pfc_program.specs.Laid.{one_laid}

-- of the names of the program's scope from some name on, before which n variables stand
abbrev pub main_places : Blocks → ℕ → Names → List ℕ
main_places b n [] = []
main_places b n (x ∷ names) = n ∷ main_places b (n + length (laid_as b x.1)) names

-- of the names of another scope from its place k on, before which n variables stand, the result of a function apart
abbrev pub block_places : Option SubHead → ℕ → ℕ → Names → List ℕ
block_places sub n k [] = []
block_places sub n k (x ∷ names) = (n + behind_result sub k) ∷ block_places sub (n + length (one_laid x.1)) (k + 1) names

-- a list for each scope holds the place of each of its names
abbrev pub HoldPlaces : Blocks → List (List ℕ) → Type 0
HoldPlaces b rows =
    (i k : ℕ) → i < length b.scopes → k < length (scope_at b.scopes i) → get_or (get_or rows i []) k 0 ≡ variable_place b i k

-- a list holds the place of the result of each sub, behind its parameters
abbrev pub HoldResults : Blocks → List ℕ → Type 0
HoldResults b results = (n : ℕ) → get_or results n 0 ≡ length (sub_at b n).formals
