-- Layouts: the variables of a block in their order.
--
-- A block has its parameters, then a function's result, then its variables, then the parameters of its accepts, each in the order of
-- the text. Main's block has the variables of the program, and those of a monitor or resource where that one stands; each single
-- process counts as one.
use Rattle.std.specs.Prelude.{ℕ, ◌+◌, ◌==◌, Bool, true, false, nat_lt, if◌then◌else◌, List, [], ◌∷◌, ◌++◌, length, take, drop, position, Option, Some, None}
use Rattle.pfc_types.specs.Scopes.{Names, scope_at}
use Rattle.pfc_types.specs.Blocks.{Blocks, module_at}
use Rattle.pfc_types.specs.declared.scope.Meaning.{Meaning}
use Rattle.pfc_types.specs.declared.scope.Meaning.TheVariants.{Variable, Process, Module}
use Rattle.pfc_types.specs.declared.heads.SubHead.{SubHead}
use Rattle.pfc_types.specs.declared.heads.SubSort.{SubSort}
use Rattle.pfc_types.specs.declared.heads.SubSort.TheVariants.{Function}

-- what each place of a layout is: a variable of some type, or a single process
abbrev pub Layout : Type 0
Layout = List Meaning

abbrev pub is_laid : Meaning → Bool
is_laid (Variable t reference) = true
is_laid (Process n) = true
is_laid m = false

-- those names of a scope that are laid out
abbrev pub laid_names : Names → Layout
laid_names [] = []
laid_names (x ∷ names) = if is_laid x.1 then x.1 ∷ laid_names names else laid_names names

-- what a name of the program's scope brings into main's block
abbrev pub laid_as : Blocks → Meaning → Layout
laid_as b (Module n) = laid_names (scope_at b.scopes (module_at b n).scope)
laid_as b m = if is_laid m then m ∷ [] else []

abbrev pub main_layout : Blocks → Names → Layout
main_layout b [] = []
main_layout b (x ∷ names) = laid_as b x.1 ++ main_layout b names

-- a function's result is a variable of its activation
abbrev pub result_laid : SubSort → Layout
result_laid (Function (Some t)) = Variable t false ∷ []
result_laid sort = []

abbrev pub sub_layout : Blocks → SubHead → Layout
sub_layout b head =
    let names = scope_at b.scopes head.scope in
    let formals = length head.formals in
    laid_names (take formals names) ++ (result_laid head.sort ++ laid_names (drop formals names))

-- the sub whose scope has this number
abbrev pub sub_with : List SubHead → ℕ → Option SubHead
sub_with [] i = None
sub_with (head ∷ heads) i = if head.scope == i then Some head else sub_with heads i

abbrev pub layout_by : Blocks → Option SubHead → Layout
layout_by b None = []
layout_by b (Some head) = sub_layout b head

abbrev pub sub_layout_at : Blocks → ℕ → Layout
sub_layout_at b i = layout_by b (sub_with b.subs i)

-- of the names of a process, and those of its accepts
abbrev pub accepts_laid : List Names → Layout
accepts_laid [] = []
accepts_laid (names ∷ scopes) = laid_names names ++ accepts_laid scopes

abbrev pub process_layout : Names → List Names → Layout
process_layout own accepts = laid_names own ++ accepts_laid accepts

-- ## The place of a name

-- in the scope of a sub the result stands behind the parameters
abbrev pub behind_result : Option SubHead → ℕ → ℕ
behind_result None k = 0
behind_result (Some head) k = if nat_lt k (length head.formals) then 0 else length (result_laid head.sort)

abbrev pub is_module : ℕ → Meaning → Bool
is_module n (Module m) = m == n
is_module n m = false

-- how many variables of main's block stand before the n-th module
abbrev pub before_module : Blocks → ℕ → Names → ℕ
before_module b n [] = 0
before_module b n (x ∷ names) = if is_module n x.1 then 0 else length (laid_as b x.1) + before_module b n names

-- how many variables of its block stand before the first of a scope: none but for the scope of a module, whose variables are main's
abbrev pub before_scope : Blocks → Option ℕ → ℕ
before_scope b None = 0
before_scope b (Some n) = before_module b n (scope_at b.scopes 0)

-- The place of a name of the scope i, which has the place k among all names of that scope. It counts from the first variable of the
-- block on, and in the scope of an accept from the first of that accept.
abbrev pub variable_place : Blocks → ℕ → ℕ → ℕ
variable_place b i k =
    if i == 0
    then length (main_layout b (take k (scope_at b.scopes 0)))
    else before_scope b (position (λ m. m.scope == i) b.modules) + (length (laid_names (take k (scope_at b.scopes i))) + behind_result (sub_with b.subs i) k)
