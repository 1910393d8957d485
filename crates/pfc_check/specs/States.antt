-- What the walk holds: the state so far, and the block whose declarations are walked.
use Rattle.std.specs.Prelude.{ℕ, ℤ, true, List, [], Option, Some, None, map, option_map}
use Rattle.std.specs.Borrow.{Bor}
use Rattle.pfc_types.specs.Scopes.{Level}
use Rattle.pfc_types.specs.Blocks.{State}
use Rattle.pfc_types.specs.Views.{levels}
use Rattle.pfc_types.specs.declared.types.TypeId.{TypeId}
use Rattle.pfc_types.specs.declared.view.View.{View}
use Rattle.pfc_types.specs.rules.Constants.{Ordinal, Extent, Made, MadeFields}
use Rattle.pfc_types.specs.rules.Declarations.{Owner, in_program, in_monitor, elsewhere, Heading, EntryHeading, Labels}
use Rattle.pfc_check.specs.declared.state.State.{State as Walk}
use Rattle.pfc_check.specs.declared.state.Block.{Block}
use Rattle.pfc_phrases.specs.declared.constants.Extent.{Extent as Bounds}
use Rattle.pfc_phrases.specs.Views.{extent_view}
use Rattle.pfc_check.specs.declared.types.RecordFields.{RecordFields}
use Rattle.pfc_check.specs.declared.headings.Heading.{Heading as Head}
use Rattle.pfc_check.specs.declared.entries.EntryHeading.{EntryHeading as EntryHead}
use Rattle.pfc_check.specs.declared.stmts.Labels.{Labels as Listed}
use Rattle.pfc_check.specs.declared.items.Owner.{Owner as Stands}
use Rattle.pfc_check.specs.declared.items.Owner.TheVariants.{Program, Monitor, Elsewhere}

-- the table of types and the scopes so far
abbrev pub state_of : Walk → State
state_of w = record { forms = w.types; blocks = w.scopes }

abbrev pub levels_of : Option (Bor View) → List Level
levels_of None = []
levels_of (Some view) = levels view.now

-- what is in view around a block
abbrev pub around : Block → List Level
around b = levels_of b.outer

-- ## Ranges

-- the bounds of the ranges of an array
abbrev pub extents_of : List (Option Bounds) → List (Option Extent)
extents_of rs = map (λ r. option_map extent_view r) rs

-- ## Types

-- what a type as it is written made
abbrev pub made_of : Walk → Option TypeId → Made
made_of w t = record { state = state_of w; t = t }

-- the fields of a record so far
abbrev pub fields_of : Walk → RecordFields → MadeFields
fields_of w fields = record { state = state_of w; list = fields.list; whole = fields.whole }

-- ## Variables

-- where a `var` part stands
abbrev pub owner_of : Stands → Owner
owner_of Program = in_program
owner_of Monitor = in_monitor
owner_of Elsewhere = elsewhere

-- ## Headings

-- a heading so far
abbrev pub heading_of : Walk → Head → Heading
heading_of w h = record { state = state_of w; formals = h.formals; whole = h.whole }

-- the parameters of an entry so far
abbrev pub entry_heading_of : Walk → EntryHead → EntryHeading
entry_heading_of w h = record { state = state_of w; own = h.own; formals = h.formals; whole = h.whole }

abbrev pub entry_begun : State → EntryHeading
entry_begun s = record { state = s; own = []; formals = []; whole = true }

-- ## Labels

-- a label, which is kept as the place of its type and its ordinal
abbrev pub label_view : ℕ × ℤ → Ordinal
label_view c = record { t = record { place = c.0 }; value = c.1 }

-- the labels of one `case` in the order of the text
abbrev pub seen_in : Listed → List Ordinal
seen_in l = map label_view l.seen.keys

-- the labels of one `case` so far
abbrev pub labels_of : Walk → Listed → Labels
labels_of w l = record { state = state_of w; seen = seen_in l }
