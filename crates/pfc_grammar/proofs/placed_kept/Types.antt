-- The places that a constant, a type or a group of parameters keeps are those of the tokens that it is read from.
use Rattle.std.proofs.Common.{◌≡◌, ℕ, zero, suc, List, [], ◌∷◌, ◌++◌, Bool, true, false, Option, Some, None, refl, ap, ◌∙◌, append_assoc}
use Rattle.pfc_base.specs.declared.places.Place.{Place}
use Rattle.pfc_tree.specs.declared.tree.Sign as plus_or_minus
use Rattle.pfc_tree.specs.declared.tree.ConstItem.{ConstItem}
use Rattle.pfc_tree.specs.Symbols.{Text}
use Rattle.pfc_tree.specs.trees.Types.{TypeTree, VarTree, TypeItemTree, GroupTree}
use Rattle.pfc_tree.specs.views.Types.{vars_of}
use Rattle.pfc_tree.specs.kept.Exprs.{Step, here, next, sign_trace}
use Rattle.pfc_tree.specs.kept.Types.{names_trace, comma_names_trace, constant_trace, range_trace, ranges_trace, comma_ranges_trace, flag_trace, type_trace}
use Rattle.pfc_tree.specs.kept.Types.{var_trace, fields_trace, semicolon_fields_trace, vars_trace, const_items_trace, type_items_trace, group_trace}
use Rattle.pfc_tree.specs.kept.Types.{semicolon_groups_trace, formals_trace}
use Rattle.pfc_grammar.specs.placed.Reading.{Reader}
use Rattle.pfc_grammar.specs.placed.Types.{names_behind, names, constant_behind, constant_reader, range, var_behind, var_with, channel_behind, array_behind}
use Rattle.pfc_grammar.specs.placed.Types.{record_behind, type_with, type_at, const_item_behind, const_items, type_item_behind, type_items, var_item_behind}
use Rattle.pfc_grammar.specs.placed.Types.{var_items, group_behind, group, formals}
use Rattle.pfc_grammar.proofs.placed_kept.Readers.{same_traces, Traced, Leading, Keeps, Whole, keeps_pure, leads_pure, keeps_stop, keeps_stop_deep, keeps_bind}
use Rattle.pfc_grammar.proofs.placed_kept.Readers.{keeps_then, pass_branch, keep_branch, pass_then, keep_then, keeps_choose, keeps_take, keeps_end}
use Rattle.pfc_grammar.proofs.placed_kept.Loops.{behind_next, between_next, closed, keep_items, separate, leads_onto, keeps_some, list_then, keeps_list}
use Rattle.pfc_grammar.proofs.placed_kept.Loops.{leads_list_end}

-- behind the first name
pub leads_names_behind : (F : List Step → List Step) (x : Text × Place) →
    Keeps (λ steps. F (here x.1 ∷ next ∷ steps)) (Leading (λ xs steps. F (names_trace xs ++ steps))) (names_behind x)
unfolding names_behind
leads_names_behind F x = leads_onto (λ y. next ∷ here y.1 ∷ next ∷ []) comma_names_trace (record { none = refl; more = λ y ys. refl }) _
    (separate (keeps_take _)) (x ∷ []) (λ items steps. refl)

pub keeps_names : Whole names_trace names
unfolding names
keeps_names = keep_then _ (λ x. keeps_end (λ xs. search same_traces) (leads_names_behind (λ steps. steps) x))

keeps_constant_behind : (sign : Option (plus_or_minus.Sign × Place)) → Keeps (λ steps. sign_trace sign ++ steps) (Traced constant_trace) (constant_behind sign)
unfolding constant_behind
keeps_constant_behind sign = keep_branch _ (λ n. keeps_pure _ refl) (keep_branch _ (λ x. keeps_pure _ refl) keeps_stop)

pub keeps_constant : Whole constant_trace constant_reader
unfolding constant_reader
keeps_constant = keep_branch _ (λ x. keeps_pure _ refl) (keep_branch _ (λ s. keeps_constant_behind (Some s)) (keeps_constant_behind None))

keeps_range : Whole range_trace range
unfolding range
keeps_range = keeps_then keeps_constant (λ low. pass_then _ (λ t. keeps_then keeps_constant (λ high. keeps_pure _ (search same_traces))))

-- an item of `type`, and one of `var`, with their semicolons
abbrev type_item_trace : TypeItemTree → List Step
type_item_trace i = here i.place ∷ next ∷ next ∷ type_trace i.form ++ next ∷ []

abbrev closed_var_trace : VarTree → List Step
closed_var_trace v = var_trace v ++ next ∷ []

module _ {t : Reader TypeTree} (h : Whole type_trace t) where
  -- behind the first name
  leads_var_behind : (F : List Step → List Step) (x : Text × Place) →
      Keeps (λ steps. F (here x.1 ∷ next ∷ steps)) (Leading (λ v steps. F (var_trace v ++ steps))) (var_behind t x)
  unfolding var_behind
  leads_var_behind F x = keeps_bind (leads_names_behind F x) (λ xs. pass_then _ (λ u. keeps_then h (λ form. leads_pure _ (λ steps. ap F (search same_traces)))))

  keeps_var : Whole var_trace (var_with t)
  unfolding var_with
  keeps_var = keep_then _ (λ x. keeps_end (λ v. search same_traces) (leads_var_behind (λ steps. steps) x))

  keeps_channel : (p : Place) → Keeps (λ steps. here p ∷ next ∷ steps) (Traced type_trace) (channel_behind t p)
  unfolding channel_behind
  keeps_channel p = pass_then _ (λ u. keeps_then h (λ form. keeps_pure _ (search same_traces)))

  keeps_array : (p : Place) → Keeps (λ steps. here p ∷ next ∷ steps) (Traced type_trace) (array_behind t p)
  unfolding array_behind
  keeps_array p = pass_then _
      (λ u. keeps_then (keeps_list range_trace comma_ranges_trace (record { none = refl; more = λ r rs. refl }) _ keeps_range ranges_trace (λ r rs. refl))
      (λ rs.
      pass_then _ (λ v. pass_then _ (λ w. keeps_then h (λ form. keeps_pure _ (search same_traces))))))

  keeps_record : (p : Place) → Keeps (λ steps. here p ∷ next ∷ steps) (Traced type_trace) (record_behind t p)
  unfolding record_behind
  keeps_record p = keeps_bind (leads_list_end var_trace (λ vs. semicolon_fields_trace (vars_of vs)) (record { none = refl; more = λ v vs. refl }) _ _ keeps_var
      (λ vs. fields_trace (vars_of vs)) (λ v vs. refl)) (λ vs. pass_then _ (λ u. keeps_pure _ (search same_traces)))

  pub keeps_type_with : Whole type_trace (type_with t)
  unfolding type_with
  keeps_type_with = keep_branch _ (λ x. keeps_pure _ refl)
      (keep_branch _ (λ u. keeps_channel u.1) (keep_branch _ (λ u. keeps_array u.1) (keep_branch _ (λ u. keeps_record u.1) keeps_stop)))

  keeps_type_item : (x : Text × Place) → Keeps (λ steps. here x.1 ∷ next ∷ steps) (Traced type_item_trace) (type_item_behind t x)
  unfolding type_item_behind
  keeps_type_item x = pass_then _ (λ u. keeps_then h (λ form. pass_then _ (λ v. keeps_pure _ refl)))

  pub keeps_type_items : Whole type_items_trace (type_items t)
  unfolding type_items
  keeps_type_items = keeps_some type_item_trace type_items_trace (record { none = refl; more = λ i is. search same_traces }) _ (keep_items keeps_type_item)

  keeps_var_item : (x : Text × Place) → Keeps (λ steps. here x.1 ∷ next ∷ steps) (Traced closed_var_trace) (var_item_behind t x)
  unfolding var_item_behind
  keeps_var_item x = keeps_bind (leads_var_behind (λ steps. steps) x) (λ v. pass_then _ (λ u. keeps_pure _ refl))

  pub keeps_var_items : Whole (λ vs. vars_trace (vars_of vs)) (var_items t)
  unfolding var_items
  keeps_var_items = keeps_some closed_var_trace (λ vs. vars_trace (vars_of vs)) (record {
    none = refl;
    more =
        λ v vs. search same_traces;
  }) _ (keep_items keeps_var_item)

abbrev const_item_trace : ConstItem → List Step
const_item_trace i = here i.place ∷ next ∷ next ∷ constant_trace i.value ++ next ∷ []

keeps_const_item : (x : Text × Place) → Keeps (λ steps. here x.1 ∷ next ∷ steps) (Traced const_item_trace) (const_item_behind x)
unfolding const_item_behind
keeps_const_item x = pass_then _ (λ t. keeps_then keeps_constant (λ value. pass_then _ (λ u. keeps_pure _ refl)))

pub keeps_const_items : Whole const_items_trace const_items
unfolding const_items
keeps_const_items = keeps_some const_item_trace const_items_trace (record { none = refl; more = λ i is. search same_traces }) _ (keep_items keeps_const_item)

keeps_group_behind : (b : Bool) → Keeps (λ steps. flag_trace b ++ steps) (Traced group_trace) (group_behind b)
unfolding group_behind
keeps_group_behind b = keeps_then keeps_names (λ xs. pass_then _ (λ t. keep_then _ (λ form. keeps_pure _ (search same_traces))))

keeps_group : Whole group_trace group
unfolding group
keeps_group = pass_branch _ (λ t. keeps_group_behind true) (keeps_group_behind false)

pub keeps_formals : Whole formals_trace formals
unfolding formals
keeps_formals = pass_branch _ (λ t. list_then group_trace (behind_next group_trace) (record { none = refl; more = λ x xs. refl }) _ keeps_group _
    (between_next group_trace) (λ x xs. refl) (λ x xs. pass_then _ (λ u. keeps_pure _ (closes x xs)))) (keeps_pure _ refl)
  where
    closes : (x : GroupTree) (xs : List GroupTree) → next ∷ ((group_trace x ++ behind_next group_trace xs) ++ next ∷ []) ≡ formals_trace (x ∷ xs)
    closes x xs = ap (λ z. next ∷ z) (append_assoc (group_trace x) (behind_next group_trace xs) (next ∷ []) ∙
        ap (λ z. group_trace x ++ z) (closed group_trace semicolon_groups_trace refl (λ y ys. refl) xs))

-- Whatever the number of levels.
pub keeps_type_at : (n : ℕ) → Whole type_trace (type_at n)
unfolding type_at
keeps_type_at zero = keeps_choose _ keeps_stop_deep keeps_stop
keeps_type_at (suc n) = keeps_type_with (keeps_type_at n)
