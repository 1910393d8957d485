-- Constants and types as they are written: what they stand for, and the rules that are broken in them.
use Rattle.std.specs.Prelude.{ℤ, pos, Bool, true, false, not, ◌&&◌, if◌then◌else◌, int_le, List, [], ◌∷◌, ◌++◌, length, Option, Some, None, is_some}
use Rattle.std.specs.Int.{int_wrapping_neg}
use Rattle.std.specs.Int.Width.{w32}
use Rattle.pfc_base.specs.declared.places.Place.{Place}
use Rattle.pfc_tree.specs.Symbols.{Text}
use Rattle.pfc_tree.specs.declared.tree.Sign.{Sign}
use Rattle.pfc_tree.specs.declared.tree.Sign.TheVariants.{Plus, Minus}
use Rattle.pfc_tree.specs.declared.tree.Constant.{Constant}
use Rattle.pfc_tree.specs.declared.tree.Constant.TheVariants.{Number, Named as NamedConstant, Literal}
use Rattle.pfc_tree.specs.declared.tree.Range.{Range}
use Rattle.pfc_tree.specs.trees.Types.{TypeTree, VarTree, VarTrees, named, channel, array, fields, var_item, no_vars, more_vars}
use Rattle.pfc_types.specs.Faults.{Faults, none, ◌⨾◌, unless}
use Rattle.pfc_types.specs.Fields.{FieldList, type_named}
use Rattle.pfc_types.specs.Types.{Forms, integer, char, is_same, is_object, refusal_of}
use Rattle.pfc_types.specs.Scopes.{Names, Level, look}
use Rattle.pfc_types.specs.Blocks.{State, note, add_form}
use Rattle.pfc_types.specs.declared.types.TypeId.{TypeId}
use Rattle.pfc_types.specs.declared.types.TypeForm.{TypeForm}
use Rattle.pfc_types.specs.declared.types.TypeForm.TheVariants.{Channel, Array, Record}
use Rattle.pfc_types.specs.declared.table.TypeFault.{TypeFault}
use Rattle.pfc_types.specs.declared.table.TypeFault.TheVariants.{Bounds, Cells, Memory}
use Rattle.pfc_types.specs.declared.scope.Meaning.{Meaning}
use Rattle.pfc_types.specs.declared.scope.Meaning.TheVariants.{Constant as AConstant}
use Rattle.pfc_types.specs.rules.Kinds.{has_object, a_constant, name_rules, type_name_rules, named_type}

-- ## Constants

-- a value of a simple type, by its ordinal
pub record Ordinal : Type 0 where
  pub t : TypeId
  pub value : ℤ

abbrev pub same_ordinal : Ordinal → Ordinal → Bool
same_ordinal a b = (is_same a.t b.t && int_le a.value b.value) && int_le b.value a.value

-- `-` turns a number round. A number of a text is at most 2147483647, so it always has its opposite in 32 bits.
abbrev pub signed : Option (Sign × Place) → ℤ → ℤ
signed None n = n
signed (Some (Plus, p)) n = n
signed (Some (Minus, p)) n = int_wrapping_neg w32 n

-- a literal of length 1 is a char
abbrev pub is_char : Text → Bool
is_char (b ∷ []) = true
is_char x = false

abbrev pub char_value : Text → Option Ordinal
char_value (b ∷ []) = Some (record { t = char; value = pos b })
char_value x = None

-- a signed constant is an integer
abbrev pub sign_fits : Option (Sign × Place) → TypeId → Bool
sign_fits None t = true
sign_fits (Some sign) t = is_same t integer

abbrev pub named_constant : Option (Sign × Place) → Option Meaning → Option Ordinal
named_constant sign (Some (AConstant t v)) = if sign_fits sign t then Some (record { t = t; value = signed sign v }) else None
named_constant sign m = None

-- the value of a constant, None where it is faulty
abbrev pub constant_value : List Names → List Level → Constant → Option Ordinal
constant_value scopes view (Number sign n p) = Some (record { t = integer; value = signed sign n })
constant_value scopes view (NamedConstant sign x p) = named_constant sign (look scopes view x)
constant_value scopes view (Literal x p) = char_value x

abbrev pub constant_type : Option Ordinal → Option TypeId
constant_type None = None
constant_type (Some c) = Some c.t

-- the place of the first token of a constant
abbrev pub signed_place : Option (Sign × Place) → Place → Place
signed_place None p = p
signed_place (Some sign) p = sign.1

abbrev pub constant_place : Constant → Place
constant_place (Number sign n p) = signed_place sign p
constant_place (NamedConstant sign x p) = signed_place sign p
constant_place (Literal x p) = p

-- 322: a signed constant is an integer; at the sign
abbrev pub sign_rule : Option (Sign × Place) → Option Meaning → Faults
sign_rule (Some sign) (Some (AConstant t v)) = unless (is_same t integer) sign.1 322
sign_rule sign m = none

-- 325: a literal of length other than 1 is an item of `write` or `writeln` and no constant; at the literal
abbrev pub broken_constant : List Names → List Level → Constant → Faults
broken_constant scopes view (Number sign n p) = none
broken_constant scopes view (NamedConstant sign x p) = name_rules a_constant (look scopes view x) p ⨾ sign_rule sign (look scopes view x)
broken_constant scopes view (Literal x p) = unless (is_char x) p 325

-- ## Ranges

-- the bounds of an index, of one simple type, the low one not above the high one
pub record Extent : Type 0 where
  pub index : TypeId
  pub low : ℤ
  pub high : ℤ

abbrev pub are_bounds : Ordinal → Ordinal → Bool
are_bounds a b = is_same a.t b.t && int_le a.value b.value

abbrev pub extent_of : Option Ordinal → Option Ordinal → Option Extent
extent_of (Some a) (Some b) = if are_bounds a b then Some (record { index = a.t; low = a.value; high = b.value }) else None
extent_of a b = None

abbrev pub range_extent : List Names → List Level → Range → Option Extent
range_extent scopes view r = extent_of (constant_value scopes view r.low) (constant_value scopes view r.high)

-- 303: both bounds of one simple type, the low one not above the high one; at the low bound. A constant always has a
-- simple type, and a range with a faulty bound is not asked.
abbrev pub bounds_rule : Option Ordinal → Option Ordinal → Place → Faults
bounds_rule (Some a) (Some b) p = unless (are_bounds a b) p 303
bounds_rule a b p = none

abbrev pub broken_range : List Names → List Level → Range → Faults
broken_range scopes view r =
    broken_constant scopes view r.low
    ⨾ broken_constant scopes view r.high
    ⨾ bounds_rule (constant_value scopes view r.low) (constant_value scopes view r.high) (constant_place r.low)

abbrev pub broken_ranges : List Names → List Level → List Range → Faults
broken_ranges scopes view [] = none
broken_ranges scopes view (r ∷ rs) = broken_range scopes view r ⨾ broken_ranges scopes view rs

abbrev pub range_extents : List Names → List Level → List Range → List (Option Extent)
range_extents scopes view [] = []
range_extents scopes view (r ∷ rs) = range_extent scopes view r ∷ range_extents scopes view rs

-- ## Types

-- the place of a type's first token
abbrev pub type_place : TypeTree → Place
type_place (named x p) = p
type_place (channel t p) = p
type_place (array rs t p) = p
type_place (fields vs last p) = p

-- a type as it is written makes a type, which is None where it is faulty, and the table behind it
pub record Made : Type 0 where
  pub state : State
  pub t : Option TypeId

-- A type is added after its parts. One that has more than 65,536 cells has no place.
-- 304: a type above 65,536 cells; at its first token. Its bounds are good already, as each range was asked.
abbrev pub added_unless : Option TypeFault → State → TypeForm → Place → Made
added_unless None s form p = record { state = add_form s form; t = Some (record { place = length s.forms }) }
added_unless (Some Bounds) s form p = record { state = s; t = None }
added_unless (Some Cells) s form p = record { state = note s (unless false p 304); t = None }
added_unless (Some Memory) s form p = record { state = s; t = None }

abbrev pub added : State → Option TypeForm → Place → Made
added s None p = record { state = s; t = None }
added s (Some form) p = added_unless (refusal_of s.forms form) s form p

-- 406: no channel carries an object type; at the carried type
abbrev pub channel_form : Forms → Option TypeId → Option TypeForm
channel_form forms None = None
channel_form forms (Some t) = if is_object forms t then None else Some (Channel t)

abbrev pub made_channel : Made → Place → Place → Made
made_channel m carried p =
    added (note m.state (unless (not (has_object m.state.forms m.t)) carried 406)) (channel_form m.state.forms m.t) p

-- `array[r1, r2] of T` is `array[r1] of array[r2] of T`, and both take the place of the one `array`
abbrev pub array_of : Option Extent → Option TypeId → Option TypeForm
array_of (Some r) (Some t) = Some (Array r.index r.low r.high t)
array_of r t = None

abbrev pub made_arrays : Made → List (Option Extent) → Place → Made
made_arrays m [] p = m
made_arrays m (r ∷ rs) p = let inner = made_arrays m rs p in added inner.state (array_of r inner.t) p

-- the fields of a record so far, and whether no rule is broken in them
pub record MadeFields : Type 0 where
  pub state : State
  pub list : FieldList
  pub whole : Bool

-- 302: the names of one field list differ; at the second. The first counts, and the record is faulty.
abbrev pub made_field : TypeId → MadeFields → Text × Place → MadeFields
made_field t r x =
    if is_some (type_named r.list x.0)
    then record { state = note r.state (unless false x.1 302); list = r.list; whole = false }
    else record r { list = r.list ++ (x.0, t) ∷ [] }

abbrev pub made_names : TypeId → MadeFields → List (Text × Place) → MadeFields
made_names t r [] = r
made_names t r (x ∷ xs) = made_names t (made_field t r x) xs

-- A field of a faulty type stands in the list with some type, since the record is no type then.
abbrev pub made_group : MadeFields → Option TypeId → List (Text × Place) → MadeFields
made_group r None xs = made_names integer (record r { whole = false }) xs
made_group r (Some t) xs = made_names t r xs

-- A record with a faulty or repeated field is not asked for 304.
abbrev pub record_form : MadeFields → Option TypeForm
record_form r = if r.whole then Some (Record r.list) else None

abbrev pub fields_begun : State → MadeFields
fields_begun s = record { state = s; list = []; whole = true }

-- What a type as it is written makes, with the names in view around it. The flag says whether it stands directly after
-- `channel of`.
abbrev mutual
  pub made : Bool → State → List Level → TypeTree → Made
  made carried s view (named x p) =
      record { state = note s (type_name_rules carried (look s.blocks.scopes view x) p); t = named_type carried (look s.blocks.scopes view x) }
  made carried s view (channel t p) = made_channel (made true s view t) (type_place t) p
  made carried s view (array rs t p) =
      made_arrays (made false (note s (broken_ranges s.blocks.scopes view rs)) view t) (range_extents s.blocks.scopes view rs) p
  made carried s view (fields vs last p) =
      let r = made_items view (fields_begun s) vs in added r.state (record_form r) p

  pub made_items : List Level → MadeFields → VarTrees → MadeFields
  made_items view r no_vars = r
  made_items view r (more_vars v vs) = made_items view (made_item view r v) vs

  pub made_item : List Level → MadeFields → VarTree → MadeFields
  made_item view r (var_item xs t) =
      let m = made false r.state view t in made_group (record r { state = m.state }) m.t xs
