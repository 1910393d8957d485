-- What the names in view at a site stand for, in a program in which no static rule is broken.
use Rattle.std.specs.Prelude.{ℕ, ◌<◌, ◌≡◌, ◌≢◌, ℤ, Bool, true, length, Some}
use Rattle.pfc_tree.specs.Symbols.{Text}
use Rattle.pfc_types.specs.Types.{form_of, is_simple, has_bounds}
use Rattle.pfc_types.specs.Scopes.{meaning_of, meaning_in, scope_at}
use Rattle.pfc_types.specs.Blocks.{sub_at}
use Rattle.pfc_types.specs.rules.Expressions.{find}
use Rattle.pfc_types.specs.rules.FaultyNames.{all_typed}
use Rattle.pfc_types.specs.declared.types.TypeId.{TypeId}
use Rattle.pfc_types.specs.declared.types.TypeForm.{TypeForm}
use Rattle.pfc_types.specs.declared.scope.Meaning.TheVariants.{Constant, Variable, Sub, Faulty}
use Rattle.pfc_types.specs.declared.heads.SubHead.{SubHead}
use Rattle.pfc_types.specs.declared.heads.SubSort.{SubSort}
use Rattle.pfc_types.specs.declared.heads.SubSort.TheVariants.{Function}
use Rattle.pfc_name_laws.specs.Reached.{GivesSimple}
use Rattle.pfc_semantics.specs.Expressions.{spot_of}
use Rattle.pfc_translation.specs.Sites.{Site, forms_of, blocks_of}
use Rattle.pfc_standing_code.specs.Typed.{StandsAt, IsDeclared, is_in_block, TakesCells, LeavesCells}
use Rattle.pfc_type_laws.specs.Tables.{IsOfVariables, IsBuiltUp}

-- how many operands a call leaves
abbrev pub left_behind : SubSort → ℕ
left_behind (Function t) = 1
left_behind sort = 0

-- The heading is that of a sub of the program, whose name stands in a scope that is in view in the block, or in one of main's.
pub record IsNamedSub (s : Site) (head : SubHead) : Type 0 where
  pub number : ℕ
  pub among : number < length (blocks_of s).subs
  pub is : head ≡ sub_at (blocks_of s) number
  pub within : ℕ
  pub name : Text
  pub declared : meaning_in (scope_at (blocks_of s).scopes within) name ≡ Some (Sub number)
  pub seen : is_in_block s within ≡ true

-- The block of a sub of the program takes the cells of its parameters, and leaves a function's value, which is of a simple type.
pub record HasBlock (s : Site) (head : SubHead) : Type 0 where
  pub named : IsNamedSub s head
  pub gives : GivesSimple head.sort
  pub taken : TakesCells s head.scope head.formals
  pub leaves : LeavesCells s head.scope (left_behind head.sort)

-- and each parameter has a type
pub record IsWhole (s : Site) (head : SubHead) : Type 0 where
  pub formals : all_typed head.formals ≡ true
  pub block : HasBlock s head

-- a variable lies in a layout that is in view, and has the type of its declaration
pub record IsLaid (s : Site) (x : Text) (t : TypeId) : Type 0 where
  pub typed : (spot_of s.env (find s.env x)).t ≡ Some t
  pub declared : IsDeclared s (spot_of s.env (find s.env x)).spot (Some t)

-- where the variables in view lie, and the blocks of the subs
pub record HavePlaces (s : Site) : Type 0 where
  pub variables : (x : Text) (t : TypeId) (reference : Bool) → meaning_of (find s.env x) ≡ Some (Variable t reference)
      → StandsAt s (spot_of s.env (find s.env x)).spot (Variable t reference)
  pub subs : (x : Text) (n : ℕ) → meaning_of (find s.env x) ≡ Some (Sub n) → HasBlock s (sub_at (blocks_of s) n)

pub record AreKnown (s : Site) : Type 0 where
  -- the types and blocks that are known there are the program's
  pub state : s.env.state ≡ s.program.state
  -- types are made of earlier ones, and variables are of types of the table
  pub table : IsBuiltUp (forms_of s)
  pub of_variables : (x : Text) (t : TypeId) (reference : Bool) → meaning_of (find s.env x) ≡ Some (Variable t reference) → IsOfVariables (forms_of s) t
  -- an index is of a simple type
  pub bounds : (t : TypeId) (form : TypeForm) → form_of (forms_of s) t ≡ Some form → has_bounds form ≡ true
  pub constants : (x : Text) (t : TypeId) (n : ℤ) → meaning_of (find s.env x) ≡ Some (Constant t n) → is_simple t ≡ true
  pub variables : (x : Text) (t : TypeId) (reference : Bool) → meaning_of (find s.env x) ≡ Some (Variable t reference) → IsLaid s x t
  pub subs : (x : Text) (n : ℕ) → meaning_of (find s.env x) ≡ Some (Sub n) → IsWhole s (sub_at (blocks_of s) n)
  pub faulty : (x : Text) → meaning_of (find s.env x) ≢ Some Faulty
