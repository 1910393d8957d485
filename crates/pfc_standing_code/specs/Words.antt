-- Variables and objects as words of the machine, and what is true of the names in view.
use Rattle.std.specs.Prelude.{ℕ, ◌+◌, ◌^◌, ◌<◌, ◌==◌, ◌||◌, ◌≡◌, ℤ, pos, Bool, true, false, if◌then◌else◌, List, [], ◌∷◌, ◌++◌, reverse, All, Option, Some}
use Rattle.std.specs.List.{list_any}
use Rattle.pfc_tree.specs.trees.Exprs.{ActualTrees}
use Rattle.pfc_types.specs.Types.{is_simple}
use Rattle.pfc_types.specs.Scopes.{Level}
use Rattle.pfc_types.specs.Blocks.{Blocks}
use Rattle.pfc_types.specs.rules.Expressions.{Env}
use Rattle.pfc_types.specs.declared.types.TypeId.{TypeId}
use Rattle.pfc_types.specs.declared.heads.Formal.{Formal}
use Rattle.pfc_semantics.specs.Values.{path_of}
use Rattle.pfc_semantics.specs.Displays.{Spot, TypedSpot}
use Rattle.pfc_semantics.specs.Programs.{Block, Program}
use Rattle.pfc_semantics.specs.Remainders.{Argument, AwaitsLocation, Call, by_value, by_reference, pass_variable, to_requeue}
use Rattle.pfc_semantics.specs.Alternatives.{context}
use Rattle.pfc_translation.specs.Sites.{Site, is_mains, linked, links_to, cell_of, refers, type_cells, forms_of}
use Rattle.pfc_cells.specs.Shapes.{IsPath, words_of}
use Rattle.pfc_standing_code.specs.Shapes.{IsSound, IsOf, is_object_type}
use Rattle.pfc_standing_code.specs.Settings.{View, Setting, site_of, IsInTrial, IsBeside}
use Rattle.pfc_standing_code.specs.Typed.{unlined, whole_of, IsDeclaredAt, is_seen, Outlives, NameLasting}

-- ## Variables

-- the address of the first cell of a whole variable: a reference parameter is where its cell refers to
abbrev pub first_word : View → Site → Spot → ℕ
first_word view s v =
    let l = links_to s v.scope in let d = cell_of s v in if refers s v then view.held l d else view.first l + d

-- the word is the address of a part of this type
pub record IsWordAt (view : View) (s : Site) (v : Spot) (t : Option TypeId) (w : ℤ) : Type 0 where
  pub whole : Option TypeId
  pub behind : ℕ
  pub declared : IsDeclaredAt s (whole_of v) whole
  pub path : IsPath (forms_of s) whole (path_of v.selectors) t behind
  pub word : w ≡ pos (first_word view s (whole_of v) + behind)

abbrev pub IsWord : View → Site → Spot → Option TypeId → ℤ → Type 0
IsWord view s v t w = IsWordAt view (unlined s) v t w

abbrev pub IsPart : View → Site → TypedSpot → ℤ → Type 0
IsPart view s v w = IsWord view s v.spot v.t w

-- the word of a variable of a simple type
abbrev pub IsSimpleWord : View → Site → Spot → ℤ → Type 0
IsSimpleWord view s v w = (t : TypeId) × (is_simple t ≡ true) × IsWord view s v (Some t) w

-- the number is that of the object at a part of this type
abbrev pub IsObject : Setting → Site → Spot → Option TypeId → ℤ → Type 0
IsObject g s v t n = (w : ℤ) × IsWord g.view s v t w × (g.number w ≡ Some n)

-- ## What is true of the names in view

-- a variable's own cell is in view
abbrev pub IsInView : View → Site → Spot → Type 0
IsInView view s v =
    let l = links_to s v.scope in
    let d = cell_of s v in
    (view.reaches l d ≡ true) × (refers s v ≡ true → view.refers l d ≡ true)

-- The scope's variables are main's, or of an activation that static links lead to, or parameters of an accept that is open.
abbrev pub is_known : Blocks → Block → List ℕ → ℕ → Bool
is_known blocks b accepts i = is_mains blocks i || (list_any (λ j. j == i) (linked blocks b.env.view) || list_any (λ j. j == i) accepts)

-- the names that are in view somewhere are known there
abbrev pub AreKnown : Program → Block → List ℕ → Env → Type 0
AreKnown g b accepts env =
    (i : ℕ) → is_seen (record { program = g; block = b; env = env; line = 0 }) i ≡ true → is_known g.state.blocks b accepts i ≡ true

-- the names in view are main's, or the block's own
abbrev pub AreOwnNames : Program → Block → Env → Type 0
AreOwnNames g b env =
    (i : ℕ) → list_any (λ (level : Level). level.scope == i) env.view ≡ true → (is_mains g.state.blocks i || (b.scope == i)) ≡ true

abbrev pub names_at : Setting → Block → Env → Site
names_at g b env = site_of g b (context env 0)

pub record IsChecked (g : Setting) (b : Block) (env : Env) : Type 0 where
  pub sound : IsSound g.program.state.forms
  pub known : AreKnown g.program b g.accepts env
  -- the cells of variables in view are there, and their addresses are addresses
  pub seen : (v : Spot) (t : Option TypeId) → IsDeclaredAt (names_at g b env) v t → IsInView g.view (names_at g b env) v
  pub placed : (v : Spot) (t : Option TypeId) → IsDeclaredAt (names_at g b env) v t →
      first_word g.view (names_at g b env) v + type_cells g.program.state.forms t < 2 ^ 42
  -- an object has a number
  pub objects : (v : Spot) (t : Option TypeId) (w : ℤ) → IsWordAt g.view (names_at g b env) v t w →
      is_object_type g.program.state.forms t ≡ true → (n : ℤ) × (g.number w ≡ Some n)
  -- the types and blocks that are known there are the program's
  pub state : env.state ≡ g.program.state
  -- the block is the one at hand, or one beside it
  pub beside : IsBeside g g.block b
  -- in a scan they are those of a guard
  pub tried : IsInTrial g.trial env

-- ## Arguments

-- the words of an argument: those of a value of the parameter's type, or the address of a variable of its type
abbrev pub IsArgument : View → Site → Formal → Argument → List ℤ → Type 0
IsArgument view s f (by_value v) words = (t : TypeId) × (f.reference ≡ false) × (f.t ≡ Some t) × IsOf (forms_of s) t v × (words ≡ words_of v)
IsArgument view s f (by_reference v) words = (w : ℤ) × (f.reference ≡ true) × IsWord view s v f.t w × (words ≡ w ∷ [])

-- the arguments that were given so far, the last on top, for the parameters so far, and what is held below them
pub data AreHeldAt (view : View) (s : Site) : List Formal → List Argument → List ℤ → List ℤ → Type 0 where
  none_held : (below : List ℤ) → AreHeldAt view s [] [] below below
  one_more : (formals : List Formal) (given : List Argument) (ops below : List ℤ) (f : Formal) (a : Argument) (words : List ℤ)
      → AreHeldAt view s formals given ops below → IsArgument view s f a words
      → AreHeldAt view s (formals ++ f ∷ []) (given ++ a ∷ []) (reverse words ++ ops) below

abbrev pub AreHeld : View → Site → List Formal → List Argument → List ℤ → List ℤ → Type 0
AreHeld view s formals given ops below = AreHeldAt view (unlined s) formals given ops below

-- What outlives the activation of the block: a value, and a variable that does.
abbrev pub IsLasting : Site → Argument → Type 0
IsLasting s (by_value v) = Unit {0}
IsLasting s (by_reference v) = Outlives s v

-- so all arguments of a requeue, those that were given and those that are still to come
abbrev pub Lends : Site → List Argument → List Formal → ActualTrees → Call → Type 0
Lends s given formals args (to_requeue scope) = All (IsLasting s) given × NameLasting s formals args
Lends s given formals args call = Unit {0}

-- and the variable whose address is awaited for one
abbrev pub LendsTo : Site → Spot → Call → Type 0
LendsTo s v (to_requeue scope) = Outlives s v
LendsTo s v call = Unit {0}

abbrev pub LendsWhole : Site → Spot → AwaitsLocation → Type 0
LendsWhole s v (pass_variable rest args given call) = LendsTo s v call
LendsWhole s v goal = Unit {0}

abbrev pub LendsAt : Site → Spot → AwaitsLocation → Type 0
LendsAt s v goal = LendsWhole s (whole_of v) goal
