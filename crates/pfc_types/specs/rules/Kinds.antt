-- Kinds of names, and the words in which the rules ask for a type.
--
-- A type that is asked for may be None: the part is faulty, which says that a static rule is broken in its own tokens or
-- that it uses a faulty name. A rule that needs the type of a faulty part is not broken by that part, so each rule asks
-- what its parts may have; a part has a type only where all its own parts have theirs.
use Rattle.std.specs.Prelude.{Bool, true, false, not, ◌||◌, if◌then◌else◌, Option, Some, None}
use Rattle.pfc_base.specs.declared.places.Place.{Place}
use Rattle.pfc_types.specs.Faults.{Faults, unless}
use Rattle.pfc_types.specs.Types.{Forms, boolean, is_same, is_simple, is_object, synchronous}
use Rattle.pfc_types.specs.declared.types.TypeId.{TypeId}
use Rattle.pfc_types.specs.declared.scope.Meaning.{Meaning}
use Rattle.pfc_types.specs.declared.scope.Meaning.TheVariants.{Constant, Named, Variable, Entry, Faulty}

-- ## Types that a part has or may have

-- a type, where this holds
abbrev pub where_so : Bool → TypeId → Option TypeId
where_so holds t = if holds then Some t else None

-- the part has this type
abbrev pub has : TypeId → Option TypeId → Bool
has t None = false
has t (Some u) = is_same u t

-- the part has this type, or is faulty
abbrev pub may_have : TypeId → Option TypeId → Bool
may_have t None = true
may_have t (Some u) = is_same u t

-- both parts have one type
abbrev pub agree : Option TypeId → Option TypeId → Bool
agree (Some t) (Some u) = is_same t u
agree t u = false

-- both parts have one type, or one of them is faulty
abbrev pub may_agree : Option TypeId → Option TypeId → Bool
may_agree (Some t) (Some u) = is_same t u
may_agree t u = true

abbrev pub has_simple : Option TypeId → Bool
has_simple None = false
has_simple (Some t) = is_simple t

abbrev pub may_be_simple : Option TypeId → Bool
may_be_simple None = true
may_be_simple (Some t) = is_simple t

-- the part has a type that is an object type
abbrev pub has_object : Forms → Option TypeId → Bool
has_object forms None = false
has_object forms (Some t) = is_object forms t

-- 406: object types are not assigned, compared, sent, read, written or passed by value; at the use
abbrev pub value_rule : Forms → Option TypeId → Place → Faults
value_rule forms t p = unless (not (has_object forms t)) p 406

-- 313: after `if`, `while`, `until` and `when` a boolean; at the expression
abbrev pub condition_rule : Option TypeId → Place → Faults
condition_rule t p = unless (may_have boolean t) p 313

-- ## Kinds of names

-- what a name has to stand for at a place where only one kind can stand
pub data Kind : Type 0 where
  a_constant : Kind
  a_type : Kind
  a_variable : Kind
  an_entry : Kind

-- no rule but 301 and 302 speaks of the use of a faulty name
abbrev pub fits : Kind → Meaning → Bool
fits k Faulty = true
fits a_constant (Constant t v) = true
fits a_type (Named t) = true
fits a_variable (Variable t r) = true
fits an_entry (Entry n) = true
fits k m = false

-- 301: a name that is used is in view
-- 310: a name that is in view stands for what its place needs
abbrev pub name_rules : Kind → Option Meaning → Place → Faults
name_rules k None p = unless false p 301
name_rules k (Some m) p = unless (fits k m) p 310

-- 310, of a name in view that fits nothing here
abbrev pub wrong_kind : Place → Faults
wrong_kind p = unless false p 310

-- the type of a variable
abbrev pub variable_type : Option Meaning → Option TypeId
variable_type (Some (Variable t r)) = Some t
variable_type m = None

-- ## Names of types

abbrev pub is_synchronous : Option Meaning → Bool
is_synchronous (Some (Named t)) = is_same t synchronous
is_synchronous m = false

-- 411: `synchronous` stands only directly after `channel of`; at the name
-- A single process's name, like any other name that is no type, is 310.
abbrev pub type_name_rules : Bool → Option Meaning → Place → Faults
type_name_rules carried None p = unless false p 301
type_name_rules carried (Some m) p = if fits a_type m then unless (carried || not (is_synchronous (Some m))) p 411 else unless false p 310

-- the type that a name stands for; `carried` says that it stands directly after `channel of`
abbrev pub named_type : Bool → Option Meaning → Option TypeId
named_type carried (Some (Named t)) = where_so (carried || not (is_same t synchronous)) t
named_type carried m = None

-- a name that is declared with a type, or is faulty
abbrev pub type_meaning : Option TypeId → Meaning
type_meaning None = Faulty
type_meaning (Some t) = Named t

abbrev pub variable_meaning : Bool → Option TypeId → Meaning
variable_meaning reference None = Faulty
variable_meaning reference (Some t) = Variable t reference
