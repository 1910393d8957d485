-- A type as it is written adds no sub.
use Rattle.std.proofs.Common.{◌≡◌, Bool, true, false, not, if◌then◌else◌, is_some, List, [], ◌∷◌, ◌++◌, Option, Some, None, refl, ◌∙◌}
use Rattle.pfc_base.specs.declared.places.Place.{Place}
use Rattle.pfc_tree.specs.Symbols.{Text}
use Rattle.pfc_tree.specs.trees.Types.{TypeTree, VarTree, VarTrees, named, channel, array, fields, var_item, no_vars, more_vars}
use Rattle.pfc_types.specs.Faults.{Faults, none, one, ◌⨾◌, unless}
use Rattle.pfc_types.specs.Types.{integer, refusal_of}
use Rattle.pfc_types.specs.Fields.{type_named}
use Rattle.pfc_types.specs.Scopes.{Level, look}
use Rattle.pfc_types.specs.Blocks.{State, note}
use Rattle.pfc_types.specs.declared.types.TypeId.{TypeId}
use Rattle.pfc_types.specs.declared.types.TypeForm.{TypeForm}
use Rattle.pfc_types.specs.declared.table.TypeFault.{TypeFault}
use Rattle.pfc_types.specs.declared.table.TypeFault.TheVariants.{Bounds, Cells, Memory}
use Rattle.pfc_types.specs.rules.Kinds.{type_name_rules, has_object}
use Rattle.pfc_types.specs.rules.Constants.{Extent, broken_ranges, range_extents, Made, added_unless, added, channel_form, array_of, made_arrays, MadeFields}
use Rattle.pfc_types.specs.rules.Constants.{made_field, made_names, made_group, record_form, fields_begun, made, made_items, made_item, type_place}

-- the headings of subs are the same
abbrev pub Same : State → State → Type 0
Same s t = t.blocks.subs ≡ s.blocks.subs

pub note_same : (s : State) (fs : Faults) → Same s (note s fs)
note_same s none = refl
note_same s (one f) = refl
note_same s (fs ⨾ gs) = note_same (note s fs) gs ∙ note_same s fs

added_same : (s : State) (form : Option TypeForm) (p : Place) → Same s (added s form p).state
added_same s None p = refl
added_same s (Some form) p = by (refusal_of s.forms form)
  where
    by : (fault : Option TypeFault) → Same s (added_unless fault s form p).state
    by None = refl
    by (Some Bounds) = refl
    by (Some Cells) = refl
    by (Some Memory) = refl

arrays_same : (m : Made) (rs : List (Option Extent)) (p : Place) → Same m.state (made_arrays m rs p).state
arrays_same m [] p = refl
arrays_same m (r ∷ rs) p = added_same (made_arrays m rs p).state (array_of r (made_arrays m rs p).t) p ∙ arrays_same m rs p

field_same : (t : TypeId) (r : MadeFields) (x : Text × Place) → Same r.state (made_field t r x).state
field_same t r x = by (is_some (type_named r.list x.0))
  where
    by : (b : Bool)
        → Same r.state
        (if b then record { state = note r.state (unless false x.1 302); list = r.list; whole = false } else record r { list = r.list ++ (x.0, t) ∷ [] }).state
    by true = refl
    by false = refl

names_same : (t : TypeId) (r : MadeFields) (xs : List (Text × Place)) → Same r.state (made_names t r xs).state
names_same t r [] = refl
names_same t r (x ∷ xs) = names_same t (made_field t r x) xs ∙ field_same t r x

group_same : (r : MadeFields) (t : Option TypeId) (xs : List (Text × Place)) → Same r.state (made_group r t xs).state
group_same r None xs = names_same integer (record r { whole = false }) xs
group_same r (Some t) xs = names_same t r xs

mutual
  pub made_same : (carried : Bool) (s : State) (view : List Level) (t : TypeTree) → Same s (made carried s view t).state
  made_same carried s view (named x p) = note_same s (type_name_rules carried (look s.blocks.scopes view x) p)
  made_same carried s view (channel t p) =
      let m = made true s view t in
      let fault = unless (not (has_object m.state.forms m.t)) (type_place t) 406 in
      added_same (note m.state fault) (channel_form m.state.forms m.t) p ∙ note_same m.state fault ∙ made_same true s view t
  made_same carried s view (array rs t p) =
      let noted = note s (broken_ranges s.blocks.scopes view rs) in
      arrays_same (made false noted view t) (range_extents s.blocks.scopes view rs) p ∙ made_same false noted view t
      ∙ note_same s (broken_ranges s.blocks.scopes view rs)
  made_same carried s view (fields vs last p) =
      let r = made_items view (fields_begun s) vs in added_same r.state (record_form r) p ∙ items_same view (fields_begun s) vs

  items_same : (view : List Level) (r : MadeFields) (vs : VarTrees) → Same r.state (made_items view r vs).state
  items_same view r no_vars = refl
  items_same view r (more_vars v vs) = items_same view (made_item view r v) vs ∙ item_same view r v

  item_same : (view : List Level) (r : MadeFields) (v : VarTree) → Same r.state (made_item view r v).state
  item_same view r (var_item xs t) =
      let m = made false r.state view t in group_same (record r { state = m.state }) m.t xs ∙ made_same false r.state view t
