-- A type as it is written adds no heading.
use Rattle.std.proofs.Common.{◌≡◌, Bool, true, false, not, if◌then◌else◌, is_some, List, [], ◌∷◌, ◌++◌, Option, Some, None, refl, ◌∙◌}
use Rattle.pfc_base.specs.declared.places.Place.{Place}
use Rattle.pfc_tree.specs.Symbols.{Text}
use Rattle.pfc_tree.specs.trees.Types.{TypeTree, VarTree, VarTrees, named, channel, array, fields, var_item, no_vars, more_vars}
use Rattle.pfc_types.specs.Faults.{Faults, none, one, ◌⨾◌, unless}
use Rattle.pfc_types.specs.Types.{integer, refusal_of}
use Rattle.pfc_types.specs.Fields.{type_named}
use Rattle.pfc_types.specs.Scopes.{Level, look}
use Rattle.pfc_types.specs.Blocks.{State, note}
use Rattle.pfc_types.specs.declared.types.TypeId.{TypeId}
use Rattle.pfc_types.specs.declared.types.TypeForm.{TypeForm}
use Rattle.pfc_types.specs.declared.table.TypeFault.{TypeFault}
use Rattle.pfc_types.specs.declared.table.TypeFault.TheVariants.{Bounds, Cells, Memory}
use Rattle.pfc_types.specs.rules.Kinds.{type_name_rules, has_object}
use Rattle.pfc_types.specs.rules.Constants.{Extent, broken_ranges, range_extents, Made, added_unless, added, channel_form, array_of, made_arrays, MadeFields}
use Rattle.pfc_types.specs.rules.Constants.{made_field, made_names, made_group, record_form, fields_begun, made, made_items, made_item, type_place}

-- the headings are the same
pub record Keeps (s t : State) : Type 0 where
  pub subs : t.blocks.subs ≡ s.blocks.subs
  pub processes : t.blocks.processes ≡ s.blocks.processes

infixr 55 ◌⊳◌
-- the later behind the earlier
pub ◌⊳◌ : {s t u : State} → Keeps t u → Keeps s t → Keeps s u
(q ⊳ p) = record { subs = q.subs ∙ p.subs; processes = q.processes ∙ p.processes }

pub note_keeps : (s : State) (fs : Faults) → Keeps s (note s fs)
note_keeps s none = record { subs = refl; processes = refl }
note_keeps s (one f) = record { subs = refl; processes = refl }
note_keeps s (fs ⨾ gs) = note_keeps (note s fs) gs ⊳ note_keeps s fs

added_keeps : (s : State) (form : Option TypeForm) (p : Place) → Keeps s (added s form p).state
added_keeps s None p = record { subs = refl; processes = refl }
added_keeps s (Some form) p = by (refusal_of s.forms form)
  where
    by : (fault : Option TypeFault) → Keeps s (added_unless fault s form p).state
    by None = record { subs = refl; processes = refl }
    by (Some Bounds) = record { subs = refl; processes = refl }
    by (Some Cells) = note_keeps s (unless false p 304)
    by (Some Memory) = record { subs = refl; processes = refl }

arrays_keep : (m : Made) (rs : List (Option Extent)) (p : Place) → Keeps m.state (made_arrays m rs p).state
arrays_keep m [] p = record { subs = refl; processes = refl }
arrays_keep m (r ∷ rs) p = added_keeps (made_arrays m rs p).state (array_of r (made_arrays m rs p).t) p ⊳ arrays_keep m rs p

field_keeps : (t : TypeId) (r : MadeFields) (x : Text × Place) → Keeps r.state (made_field t r x).state
field_keeps t r x = by (is_some (type_named r.list x.0))
  where
    by : (b : Bool)
        → Keeps r.state
        (if b then record { state = note r.state (unless false x.1 302); list = r.list; whole = false } else record r { list = r.list ++ (x.0, t) ∷ [] }).state
    by true = note_keeps r.state (unless false x.1 302)
    by false = record { subs = refl; processes = refl }

names_keep : (t : TypeId) (r : MadeFields) (xs : List (Text × Place)) → Keeps r.state (made_names t r xs).state
names_keep t r [] = record { subs = refl; processes = refl }
names_keep t r (x ∷ xs) = names_keep t (made_field t r x) xs ⊳ field_keeps t r x

group_keeps : (r : MadeFields) (t : Option TypeId) (xs : List (Text × Place)) → Keeps r.state (made_group r t xs).state
group_keeps r None xs = names_keep integer (record r { whole = false }) xs
group_keeps r (Some t) xs = names_keep t r xs

mutual
  pub made_keeps : (carried : Bool) (s : State) (view : List Level) (t : TypeTree) → Keeps s (made carried s view t).state
  made_keeps carried s view (named x p) = note_keeps s (type_name_rules carried (look s.blocks.scopes view x) p)
  made_keeps carried s view (channel t p) =
      let m = made true s view t in
      let fault = unless (not (has_object m.state.forms m.t)) (type_place t) 406 in
      added_keeps (note m.state fault) (channel_form m.state.forms m.t) p ⊳ note_keeps m.state fault ⊳ made_keeps true s view t
  made_keeps carried s view (array rs t p) =
      let noted = note s (broken_ranges s.blocks.scopes view rs) in
      arrays_keep (made false noted view t) (range_extents s.blocks.scopes view rs) p ⊳ made_keeps false noted view t
      ⊳ note_keeps s (broken_ranges s.blocks.scopes view rs)
  made_keeps carried s view (fields vs last p) =
      let r = made_items view (fields_begun s) vs in added_keeps r.state (record_form r) p ⊳ items_keep view (fields_begun s) vs

  items_keep : (view : List Level) (r : MadeFields) (vs : VarTrees) → Keeps r.state (made_items view r vs).state
  items_keep view r no_vars = record { subs = refl; processes = refl }
  items_keep view r (more_vars v vs) = items_keep view (made_item view r v) vs ⊳ item_keeps view r v

  item_keeps : (view : List Level) (r : MadeFields) (v : VarTree) → Keeps r.state (made_item view r v).state
  item_keeps view r (var_item xs t) =
      let m = made false r.state view t in group_keeps (record r { state = m.state }) m.t xs ⊳ made_keeps false r.state view t
