-- The words of the rules of types as they are written.
use Rattle.std.proofs.Common.{refl}
use Rattle.std.specs.Prelude.{Bool, true, false, List, [], ◌∷◌, ◌++◌, Option, Some, None, is_some}
use Rattle.pfc_base.specs.declared.places.Place.{Place}
use Rattle.pfc_tree.specs.Symbols.{Text}
use Rattle.pfc_tree.specs.trees.Types.{TypeTree, VarTree, VarTrees, named, channel, array, fields, var_item, no_vars, more_vars}
use Rattle.pfc_types.specs.Faults.{unless}
use Rattle.pfc_types.specs.Fields.{type_named}
use Rattle.pfc_types.specs.Types.{integer, refusal_of}
use Rattle.pfc_types.specs.Scopes.{Level, look}
use Rattle.pfc_types.specs.Blocks.{State, note}
use Rattle.pfc_types.specs.declared.types.TypeId.{TypeId}
use Rattle.pfc_types.specs.declared.types.TypeForm.{TypeForm}
use Rattle.pfc_types.specs.declared.table.TypeFault.{TypeFault}
use Rattle.pfc_types.specs.declared.table.TypeFault.TheVariants.{Bounds, Cells, Memory}
use Rattle.pfc_types.specs.rules.Constants.{Extent, broken_ranges, range_extents, type_place, Made, added_unless, added, channel_form, made_channel, array_of}
use Rattle.pfc_types.specs.rules.Constants.{made_arrays, MadeFields, made_field, made_names, made_group, record_form, fields_begun, made, made_items, made_item}
use Rattle.pfc_refusals.proofs.Worded.{rule, broken_rule}
use Rattle.pfc_refusals.proofs.Small.{type_name_worded, ranges_worded}
use Rattle.pfc_refusals.proofs.Noted.{Noted, noted, one_of}

added_unless_noted : (fault : Option TypeFault) (s : State) (form : TypeForm) (p : Place) → Noted s → Noted (added_unless fault s form p).state
added_unless_noted None s form p h = record { all = h.all }
added_unless_noted (Some Bounds) s form p h = h
added_unless_noted (Some Cells) s form p h = noted (broken_rule _ _ refl) h
added_unless_noted (Some Memory) s form p h = h

added_noted : {s : State} (form : Option TypeForm) (p : Place) → Noted s → Noted (added s form p).state
added_noted None p h = h
added_noted {s} (Some form) p h = added_unless_noted (refusal_of s.forms form) s form p h

channel_noted : (m : Made) (carried p : Place) → Noted m.state → Noted (made_channel m carried p).state
channel_noted m carried p h = added_noted (channel_form m.state.forms m.t) p (noted (rule _ _ _ refl) h)

arrays_noted : (m : Made) (rs : List (Option Extent)) (p : Place) → Noted m.state → Noted (made_arrays m rs p).state
arrays_noted m [] p h = h
arrays_noted m (r ∷ rs) p h = added_noted (array_of r (made_arrays m rs p).t) p (arrays_noted m rs p h)

field_noted : (t : TypeId) (r : MadeFields) (x : Text × Place) → Noted r.state → Noted (made_field t r x).state
field_noted t r x h =
    one_of (λ (made : MadeFields). made.state) (is_some (type_named r.list x.0))
    (record { state = note r.state (unless false x.1 302); list = r.list; whole = false }) (record r { list = r.list ++ (x.0, t) ∷ [] })
    (noted (broken_rule _ _ refl) h) h

names_noted : (t : TypeId) (r : MadeFields) (xs : List (Text × Place)) → Noted r.state → Noted (made_names t r xs).state
names_noted t r [] h = h
names_noted t r (x ∷ xs) h = names_noted t (made_field t r x) xs (field_noted t r x h)

group_noted : (r : MadeFields) (t : Option TypeId) (xs : List (Text × Place)) → Noted r.state → Noted (made_group r t xs).state
group_noted r None xs h = names_noted integer (record r { whole = false }) xs h
group_noted r (Some t) xs h = names_noted t r xs h

mutual
  pub made_noted : (carried : Bool) (s : State) (view : List Level) (t : TypeTree) → Noted s → Noted (made carried s view t).state
  made_noted carried s view (named x p) h = noted (type_name_worded carried (look s.blocks.scopes view x) p) h
  made_noted carried s view (channel t p) h = channel_noted (made true s view t) (type_place t) p (made_noted true s view t h)
  made_noted carried s view (array rs t p) h =
      let ranged = note s (broken_ranges s.blocks.scopes view rs) in
      arrays_noted (made false ranged view t) (range_extents s.blocks.scopes view rs) p
      (made_noted false ranged view t (noted (ranges_worded s.blocks.scopes view rs) h))
  made_noted carried s view (fields vs last p) h =
      added_noted (record_form (made_items view (fields_begun s) vs)) p (items_noted view (fields_begun s) vs h)

  items_noted : (view : List Level) (r : MadeFields) (vs : VarTrees) → Noted r.state → Noted (made_items view r vs).state
  items_noted view r no_vars h = h
  items_noted view r (more_vars v vs) h = items_noted view (made_item view r v) vs (item_noted view r v h)

  item_noted : (view : List Level) (r : MadeFields) (v : VarTree) → Noted r.state → Noted (made_item view r v).state
  item_noted view r (var_item xs t) h =
      let m = made false r.state view t in
      group_noted (record r { state = m.state }) m.t xs (made_noted false r.state view t h)
