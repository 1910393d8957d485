-- Expressions, variables and arguments whose parts have the shapes that their code needs: those of checked programs.
--
-- It is said of the parts themselves, so that no type is asked for again. In a guard of a resource a name that is evaluated is one that may stand there.
use Rattle.std.specs.Prelude.{ℕ, ◌==◌, ◌<◌, ◌≡◌, ◌⊎◌, ℤ, Bool, true, false, ◌||◌, if◌then◌else◌, List, [], ◌∷◌, length, Option, Some, None}
use Rattle.std.specs.List.{slice_get, list_any}
use Rattle.pfc_tree.specs.Symbols.{Text}
use Rattle.pfc_tree.specs.trees.Exprs.{ExprTree, SimpleTree, SummandTrees, TermTree, MultiplierTrees, FactorTree, DesigTree, SelectorTrees, ExprTrees}
use Rattle.pfc_tree.specs.trees.Exprs.{ActualTree, ActualTrees, plain, related, sum, no_summands, more_summands, product, no_multipliers, more_multipliers}
use Rattle.pfc_tree.specs.trees.Exprs.{number, literal, negation, paren, applied as used, desig, index, field, no_selectors, more_selectors, no_exprs}
use Rattle.pfc_tree.specs.trees.Exprs.{more_exprs, actual, actual_width, no_actuals, more_actuals}
use Rattle.pfc_types.specs.Types.{Forms, condition, form_of, is_simple}
use Rattle.pfc_types.specs.Fields.{FieldList, type_named, position_of}
use Rattle.pfc_types.specs.Scopes.{Level, meaning_of, meaning_in, scope_at}
use Rattle.pfc_types.specs.Blocks.{Blocks, sub_at, module_at}
use Rattle.pfc_types.specs.rules.Routines.{is_function_sort}
use Rattle.pfc_types.specs.rules.Expressions.{find, guard_allows, selected, field_type, as_desig}
use Rattle.pfc_types.specs.declared.types.TypeId.{TypeId}
use Rattle.pfc_types.specs.declared.types.TypeForm.TheVariants.{Array, Record}
use Rattle.pfc_types.specs.declared.scope.Meaning.{Meaning}
use Rattle.pfc_types.specs.declared.scope.Meaning.TheVariants.{Constant, Variable, Sub, Predeclared}
use Rattle.pfc_types.specs.declared.heads.Formal.{Formal}
use Rattle.pfc_types.specs.declared.heads.SubHead.{SubHead}
use Rattle.pfc_types.specs.declared.heads.SubSort.{SubSort}
use Rattle.pfc_types.specs.declared.heads.SubSort.TheVariants.{Procedure, Guarded}
use Rattle.pfc_semantics.specs.Layouts.{is_laid, laid_names, sub_with, variable_place}
use Rattle.pfc_semantics.specs.Displays.{Spot, TypedSpot}
use Rattle.pfc_semantics.specs.Predeclared.{Function, eof, eoln, empty, clock, no_function, function_of}
use Rattle.pfc_semantics.specs.Programs.{Block, block_number}
use Rattle.pfc_semantics.specs.Expressions.{spot_of}
use Rattle.pfc_semantics.specs.Statements.{item_of}
use Rattle.pfc_translation.specs.Sites.{Site, at_line, forms_of, blocks_of, is_mains, is_accept, links_to, layout_with, place_of, refers}
use Rattle.pfc_translation.specs.Addresses.{element_in, type_behind}
use Rattle.pfc_translation.specs.Calls.{formals_cells}
use Rattle.pfc_translation.specs.Operands.{arguments, results}
use Rattle.pfc_cells.specs.Homes.{laid_type}
use Rattle.pfc_standing_code.specs.Shapes.{Shape, a_number, shape_of}
use Rattle.pfc_standing_code.specs.ValueTypes.{IsValueType}

-- ## Variables

-- the scope is one in view, or its variables are main's
abbrev pub is_seen : Site → ℕ → Bool
is_seen s i = is_mains (blocks_of s) i || list_any (λ (level : Level). level.scope == i) s.env.view

-- the line of a place does not matter to its variables
abbrev pub unlined : Site → Site
unlined s = at_line s 0

-- the scope is one in view in the body of the block or that of an accept in it, or its variables are main's
abbrev pub is_in_block : Site → ℕ → Bool
is_in_block s i = is_mains (blocks_of s) i || (list_any (λ (level : Level). level.scope == i) s.block.env.view || is_accept s.block i)

abbrev pub variables_by : Site → ℕ → Option SubHead → ℕ
variables_by s i (Some head) = length (layout_with s i)
variables_by s i None = length (laid_names (scope_at (blocks_of s).scopes i))

-- How many variables a scope has: behind those of a process its layout has the parameters of its accepts, which are of scopes of their own.
abbrev pub variables_of : Site → ℕ → ℕ
variables_of s i = if is_mains (blocks_of s) i then length (layout_with s i) else variables_by s i (sub_with (blocks_of s).subs i)

-- the layout that has the variable has this at its place
abbrev pub StandsAt : Site → Spot → Meaning → Type 0
StandsAt s v m = slice_get (layout_with (unlined s) v.scope) (place_of (unlined s) v) ≡ Some m

-- the variable of which a spot is a part
abbrev pub whole_of : Spot → Spot
whole_of v = record v { selectors = [] }

-- A variable of the scope i, with this place and this meaning: that of a name there, at the name's place; or the result of a function, which is of a simple
-- type.
pub data IsOfScope (b : Blocks) (i place : ℕ) (m : Meaning) : Type 0 where
  of_name : (x : Text) (k : ℕ) → slice_get (scope_at b.scopes i) k ≡ Some (x, m) → place ≡ variable_place b i k → IsOfScope b i place m
  of_result : (t : TypeId) → is_simple t ≡ true → m ≡ Variable t false → IsOfScope b i place m

-- a whole variable in view, with its type
pub record IsDeclaredAt (s : Site) (v : Spot) (t : Option TypeId) : Type 0 where
  pub seen : is_seen s v.scope ≡ true
  pub own : v.variable < variables_of s v.scope
  pub meaning : Meaning
  pub laid : slice_get (layout_with s v.scope) (place_of s v) ≡ Some meaning
  pub variable : is_laid meaning ≡ true
  pub typed : t ≡ laid_type meaning
  pub whole : v.selectors ≡ []
  pub named : IsOfScope (blocks_of s) v.scope v.variable meaning

abbrev pub IsDeclared : Site → Spot → Option TypeId → Type 0
IsDeclared s v t = IsDeclaredAt (unlined s) v t

-- ## What selectors lead into

pub record IsArray (forms : Forms) (t : Option TypeId) : Type 0 where
  pub whole : TypeId
  pub over : TypeId
  pub element : TypeId
  pub low : ℤ
  pub high : ℤ
  pub typed : t ≡ Some whole
  pub form : form_of forms whole ≡ Some (Array over low high element)

-- a record with a field of this name
pub record IsField (forms : Forms) (t : Option TypeId) (x : Text) : Type 0 where
  pub whole : TypeId
  pub fields : FieldList
  pub place : ℕ
  pub name : Text
  pub part : TypeId
  pub typed : t ≡ Some whole
  pub form : form_of forms whole ≡ Some (Record fields)
  pub position : position_of fields x ≡ Some place
  pub held : slice_get fields place ≡ Some (name, part)
  pub named : type_named fields x ≡ Some part

-- ## What is called

-- the parameters of the block with this scope take the cells of the arguments
abbrev pub TakesCells : Site → ℕ → List Formal → Type 0
TakesCells s scope formals = arguments s.program (block_number s.program scope) ≡ formals_cells (forms_of s) formals

-- so many operands are left behind the call
abbrev pub LeavesCells : Site → ℕ → ℕ → Type 0
LeavesCells s scope left = results s.program (block_number s.program scope) ≡ left

-- What is asked of a sub, by the way in which it is called: of the scope in which it is declared, and of its sort. A guarded procedure is called from outside
-- its resource, and inside it is named by `requeue` alone, in the body of such a procedure and in view there.
abbrev pub ByName : ℕ → SubSort → Type 0
ByName i sort = sort ≡ Procedure

abbrev pub InExpressions : ℕ → SubSort → Type 0
InExpressions i sort = is_function_sort sort ≡ true

abbrev pub FromOutside : Blocks → ℕ → ℕ → SubSort → Type 0
FromOutside blocks n i sort = (n < length blocks.modules) × (i ≡ (module_at blocks n).scope) × (is_function_sort sort ≡ false)

-- the scope is in view in the body of the block, or that of an accept in it
abbrev pub is_near : Block → ℕ → Bool
is_near b i = list_any (λ (level : Level). level.scope == i) b.env.view || is_accept b i

abbrev pub ByRequeue : Block → ℕ → SubSort → Type 0
ByRequeue b i sort = (sort ≡ Guarded) × (b.env.around.guarded ≡ true) × (is_near b i ≡ true)

-- A sub of the program has this scope and these parameters. It is declared in a scope in view in the block or in one of main's, and is as is asked.
pub record IsOfSub (s : Site) (scope : ℕ) (formals : List Formal) (asked : ℕ → SubSort → Type 0) : Type 0 where
  pub number : ℕ
  pub among : number < length (blocks_of s).subs
  pub own_scope : scope ≡ (sub_at (blocks_of s) number).scope
  pub own_formals : formals ≡ (sub_at (blocks_of s) number).formals
  pub within : ℕ
  pub name : Text
  pub declared : meaning_in (scope_at (blocks_of s).scopes within) name ≡ Some (Sub number)
  pub seen : is_in_block s within ≡ true
  pub as_asked : asked within (sub_at (blocks_of s) number).sort

-- a sub that is called, and leaves so many operands
pub record IsSub (s : Site) (head : SubHead) (left : ℕ) (asked : ℕ → SubSort → Type 0) : Type 0 where
  pub headed : IsOfSub s head.scope head.formals asked
  pub taken : TakesCells s head.scope head.formals
  pub leaves : LeavesCells s head.scope left

-- an argument for a reference is a variable of the parameter's type; else it is a value of that type, which has no object in it
abbrev pub Either : Bool → Type 0 → Type 0 → Type 0
Either true lent given = lent
Either false lent given = given

abbrev pub IsPassed : Forms → Formal → Type 0 → (Shape → Type 0) → Type 0
IsPassed forms f lent given = Either f.reference lent ((t : TypeId) × (f.t ≡ Some t) × given (shape_of t) × IsValueType forms t)

-- ## Names

-- a predeclared function, whose argument is a number, or for `empty` a condition
abbrev pub IsFunction : Function → Shape → Type 0 → Type 0 → Type 0
IsFunction eof h argument lent = h ≡ a_number
IsFunction eoln h argument lent = h ≡ a_number
IsFunction clock h argument lent = h ≡ a_number
IsFunction empty h argument lent = (h ≡ a_number) × lent
IsFunction no_function h argument lent = ⊥
IsFunction f h argument lent = (h ≡ a_number) × argument

-- A name with its selectors or arguments: a constant, a variable whose selectors lead to a part, a function of the program with its
-- arguments, or a predeclared function.
abbrev pub IsUse : Site → Option Meaning → Shape → Type 0 → (Option TypeId → Type 0) → SelectorTrees → (List Formal → Type 0) → (Function → Type 0) → Type 0
IsUse s (Some (Constant t n)) h declared leads ss args function = h ≡ a_number
IsUse s (Some (Variable t reference)) h declared leads ss args function =
    (u : TypeId) × declared × leads (Some u) × (selected s.env (Some t) ss ≡ Some u) × (h ≡ shape_of u)
IsUse s (Some (Sub n)) h declared leads ss args function =
    (h ≡ a_number) × IsSub s (sub_at (blocks_of s) n) 1 InExpressions × args (sub_at (blocks_of s) n).formals
IsUse s (Some (Predeclared k)) h declared leads ss args function = function (function_of k)
IsUse s m h declared leads ss args function = ⊥

-- ## Expressions

abbrev mutual
  pub HasShape : Site → ExprTree → Shape → Type 0
  HasShape s (plain a p) h = HasShapeSimple s a h
  HasShape s (related a r b p) h = (h ≡ a_number) × HasShapeSimple s a a_number × HasShapeSimple s b a_number

  pub HasShapeSimple : Site → SimpleTree → Shape → Type 0
  HasShapeSimple s (sum None first no_summands) h = HasShapeTerm s first h
  HasShapeSimple s (sum sign first rest) h = (h ≡ a_number) × HasShapeTerm s first a_number × AreSummands s rest

  pub AreSummands : Site → SummandTrees → Type 0
  AreSummands s no_summands = Unit {0}
  AreSummands s (more_summands op t rest) = HasShapeTerm s t a_number × AreSummands s rest

  pub HasShapeTerm : Site → TermTree → Shape → Type 0
  HasShapeTerm s (product f no_multipliers) h = HasShapeFactor s f h
  HasShapeTerm s (product f rest) h = (h ≡ a_number) × HasShapeFactor s f a_number × AreMultipliers s rest

  pub AreMultipliers : Site → MultiplierTrees → Type 0
  AreMultipliers s no_multipliers = Unit {0}
  AreMultipliers s (more_multipliers op f rest) = HasShapeFactor s f a_number × AreMultipliers s rest

  pub HasShapeFactor : Site → FactorTree → Shape → Type 0
  HasShapeFactor s (number n p) h = h ≡ a_number
  HasShapeFactor s (literal x p) h = h ≡ a_number
  HasShapeFactor s (negation f p) h = (h ≡ a_number) × HasShapeFactor s f a_number
  HasShapeFactor s (paren e p) h = HasShape s e h
  HasShapeFactor s (used (desig x ss q) args p) h =
      let v = spot_of s.env (find s.env x) in
      (guard_allows s.env.around.guard (find s.env x) ≡ true)
      × IsUse s (meaning_of (find s.env x)) h (IsDeclared s v.spot v.t) (λ u. AreSelectors s v.t ss u) ss
      (λ formals. AreArguments s formals args)
      (λ f. IsFunction f h (IsGivenFirst s args) (IsLentFirst s args (Some condition)))

  -- the first argument, as a number and as a variable
  pub IsGivenFirst : Site → ActualTrees → Type 0
  IsGivenFirst s no_actuals = ⊥
  IsGivenFirst s (more_actuals a rest) = IsGiven s a a_number

  pub IsLentFirst : Site → ActualTrees → Option TypeId → Type 0
  IsLentFirst s no_actuals t = ⊥
  IsLentFirst s (more_actuals a rest) t = IsLent s a t

  pub IsGiven : Site → ActualTree → Shape → Type 0
  IsGiven s (actual e) h = HasShape s e h
  IsGiven s (actual_width e w) h = HasShape s e h

  pub IsLent : Site → ActualTree → Option TypeId → Type 0
  IsLent s (actual e) t = IsVariable s e t
  IsLent s (actual_width e w) t = IsVariable s e t

  pub IsVariable : Site → ExprTree → Option TypeId → Type 0
  IsVariable s (plain (sum None (product (used (desig x ss q) no_actuals p) no_multipliers) no_summands) r) t =
      let v = spot_of s.env (find s.env x) in IsDeclared s v.spot v.t × AreSelectors s v.t ss t
  IsVariable s e t = ⊥

  -- each argument fits its parameter, and there are as many
  pub AreArguments : Site → List Formal → ActualTrees → Type 0
  AreArguments s [] no_actuals = Unit {0}
  AreArguments s (f ∷ formals) no_actuals = ⊥
  AreArguments s [] (more_actuals a rest) = ⊥
  AreArguments s (f ∷ formals) (more_actuals a rest) = IsPassed (forms_of s) f (IsLent s a f.t) (λ h. IsGiven s a h) × AreArguments s formals rest

  -- selectors that lead from something of one type to a part of another
  pub AreSelectors : Site → Option TypeId → SelectorTrees → Option TypeId → Type 0
  AreSelectors s t no_selectors u = t ≡ u
  AreSelectors s t (more_selectors (index es p) ss) u = AreIndices s t es × AreSelectors s (type_behind (forms_of s) t es) ss u
  AreSelectors s t (more_selectors (field x p) ss) u = IsField (forms_of s) t x × AreSelectors s (field_type (forms_of s) t x) ss u

  pub AreIndices : Site → Option TypeId → ExprTrees → Type 0
  AreIndices s t no_exprs = Unit {0}
  AreIndices s t (more_exprs e es) = IsArray (forms_of s) t × HasShape s e a_number × AreIndices s (element_in (forms_of s) t) es

-- a variable with its selectors, which lead to a part of this type
abbrev pub IsPartOf : Site → TypedSpot → SelectorTrees → Option TypeId → Type 0
IsPartOf s v ss t = IsDeclared s v.spot v.t × AreSelectors s v.t ss t

abbrev pub IsDesig : Site → DesigTree → Option TypeId → Type 0
IsDesig s (desig x ss p) t = IsPartOf s (spot_of s.env (find s.env x)) ss t

-- ## What a requeue lends

-- The variable outlives the activation of the block: it is one of main or of a module, or a reference parameter of the block itself.
abbrev pub Outlives : Site → Spot → Type 0
Outlives s v = (is_mains (blocks_of s) v.scope ≡ true) ⊎ ((links_to s v.scope ≡ 0) × (refers s v ≡ true))

-- the variable that an argument names, or any of main
abbrev pub desig_spot : Site → Option DesigTree → Spot
desig_spot s None = record { scope = 0; variable = 0; selectors = [] }
desig_spot s (Some (desig x ss p)) = (spot_of s.env (find s.env x)).spot

abbrev pub lent_spot : Site → ActualTree → Spot
lent_spot s a = desig_spot s (as_desig (item_of a))

-- what is named for reference parameters outlives it
abbrev pub NameLasting : Site → List Formal → ActualTrees → Type 0
NameLasting s (f ∷ formals) (more_actuals a rest) = Either f.reference (Outlives s (lent_spot s a)) (Unit {0}) × NameLasting s formals rest
NameLasting s formals args = Unit {0}
