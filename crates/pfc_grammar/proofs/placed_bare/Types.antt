-- The readers of constants, types and groups of parameters from tokens agree with those from kinds but for places.
use Rattle.std.proofs.Common.{◌≡◌, ℕ, zero, suc, List, [], ◌∷◌, map, Bool, true, false, Option, Some, None, option_map, refl, ap}
use Rattle.pfc_base.specs.declared.places.Place.{Place}
use Rattle.pfc_tree.specs.declared.tree.Sign as plus_or_minus
use Rattle.pfc_tree.specs.Symbols.{Text}
use Rattle.pfc_tree.specs.shapes.Types.{TypeShape, fields, more_vars}
use Rattle.pfc_tree.specs.trees.Types.{TypeTree, VarTree}
use Rattle.pfc_tree.specs.views.Types.{vars_of}
use Rattle.pfc_tree.specs.forget.Types.{bare, forget_constant, forget_range, forget_const_item, forget_type, forget_var, forget_vars, forget_type_item}
use Rattle.pfc_tree.specs.forget.Types.{forget_group}
use Rattle.pfc_grammar.specs.Reading.{Reader as KindReader}
use Rattle.pfc_grammar.specs.grammar.Types as kinds
use Rattle.pfc_grammar.specs.placed.Reading.{Reader}
use Rattle.pfc_grammar.specs.placed.Types.{names_behind, names, constant_behind, constant_reader, range, var_behind, var_with, channel_behind, array_behind}
use Rattle.pfc_grammar.specs.placed.Types.{record_behind, type_with, type_at, const_item_behind, const_items, type_item_behind, type_items, var_item_behind}
use Rattle.pfc_grammar.specs.placed.Types.{var_items, group_behind, group, formals}
use Rattle.pfc_grammar.proofs.placed_bare.Readers.{Bares, bare_pure, bare_stop, bare_stop_deep, bare_bind, bare_branch, bare_choose, bare_take}
use Rattle.pfc_grammar.proofs.placed_bare.Loops.{bare_onto, bare_some, bare_list, bare_list_end}

pub bare_vars : (vs : List VarTree) → forget_vars (vars_of vs) ≡ kinds.vars_of (map forget_var vs)
bare_vars [] = refl
bare_vars (v ∷ vs) = ap (λ z. more_vars (forget_var v) z) (bare_vars vs)

bare_names_behind : (x : Text × Place) → Bares bare (names_behind x) (kinds.names_behind x.0)
unfolding names_behind kinds.names_behind
bare_names_behind x = bare_onto _ _ (λ t. bare_take _) (x ∷ [])

pub bare_names : Bares bare names kinds.names
unfolding names kinds.names
bare_names = bare_bind _ (bare_take _) (λ x. bare_names_behind x)

bare_constant_behind : (sign : Option (plus_or_minus.Sign × Place)) →
    Bares forget_constant (constant_behind sign) (kinds.constant_behind (option_map (λ x. x.0) sign))
unfolding constant_behind kinds.constant_behind
bare_constant_behind sign = bare_branch _ _ (λ n. bare_pure _ refl) (bare_branch _ _ (λ x. bare_pure _ refl) bare_stop)

pub bare_constant : Bares forget_constant constant_reader kinds.constant_reader
unfolding constant_reader kinds.constant_reader
bare_constant = bare_branch _ _ (λ x. bare_pure _ refl) (bare_branch _ _ (λ s. bare_constant_behind (Some s)) (bare_constant_behind None))

bare_range : Bares forget_range range kinds.range
unfolding range kinds.range
bare_range = bare_bind _ bare_constant (λ low. bare_bind _ (bare_take _) (λ t. bare_bind _ bare_constant (λ high. bare_pure _ refl)))

module _ {t : Reader TypeTree} {q : KindReader TypeShape} (h : Bares forget_type t q) where
  bare_var_behind : (x : Text × Place) → Bares forget_var (var_behind t x) (kinds.var_behind q x.0)
  unfolding var_behind kinds.var_behind
  bare_var_behind x = bare_bind _ (bare_names_behind x) (λ xs. bare_bind _ (bare_take _) (λ u. bare_bind _ h (λ form. bare_pure _ refl)))

  bare_var : Bares forget_var (var_with t) (kinds.var_with q)
  unfolding var_with kinds.var_with
  bare_var = bare_bind _ (bare_take _) (λ x. bare_var_behind x)

  bare_channel : (p : Place) → Bares forget_type (channel_behind t p) (kinds.channel_behind q)
  unfolding channel_behind kinds.channel_behind
  bare_channel p = bare_bind _ (bare_take _) (λ u. bare_bind _ h (λ form. bare_pure _ refl))

  bare_array : (p : Place) → Bares forget_type (array_behind t p) (kinds.array_behind q)
  unfolding array_behind kinds.array_behind
  bare_array p = bare_bind _ (bare_take _) (λ u. bare_bind _ (bare_list _ bare_range)
      (λ rs. bare_bind _ (bare_take _) (λ v. bare_bind _ (bare_take _) (λ w. bare_bind _ h (λ form. bare_pure _ refl)))))

  bare_record : (p : Place) → Bares forget_type (record_behind t p) (kinds.record_behind q)
  unfolding record_behind kinds.record_behind
  bare_record p = bare_bind _ (bare_list_end _ _ bare_var) (λ vs. bare_bind _ (bare_take _) (λ u. bare_pure _ (ap (λ z. fields z vs.1) (bare_vars vs.0))))

  pub bare_type_with : Bares forget_type (type_with t) (kinds.type_with q)
  unfolding type_with kinds.type_with
  bare_type_with = bare_branch _ _ (λ x. bare_pure _ refl) (bare_branch _ _ (λ u. bare_channel u.1)
      (bare_branch _ _ (λ u. bare_array u.1) (bare_branch _ _ (λ u. bare_record u.1) bare_stop)))

  bare_type_item : (x : Text × Place) → Bares forget_type_item (type_item_behind t x) (kinds.type_item_behind q x.0)
  unfolding type_item_behind kinds.type_item_behind
  bare_type_item x = bare_bind _ (bare_take _) (λ u. bare_bind _ h (λ form. bare_bind _ (bare_take _) (λ v. bare_pure _ refl)))

  pub bare_type_items : Bares (map forget_type_item) (type_items t) (kinds.type_items q)
  unfolding type_items kinds.type_items
  bare_type_items = bare_some _ _ bare_type_item

  bare_var_item : (x : Text × Place) → Bares forget_var (var_item_behind t x) (kinds.var_item_behind q x.0)
  unfolding var_item_behind kinds.var_item_behind
  bare_var_item x = bare_bind _ (bare_var_behind x) (λ v. bare_bind _ (bare_take _) (λ u. bare_pure _ refl))

  pub bare_var_items : Bares (map forget_var) (var_items t) (kinds.var_items q)
  unfolding var_items kinds.var_items
  bare_var_items = bare_some _ _ bare_var_item

bare_const_item : (x : Text × Place) → Bares forget_const_item (const_item_behind x) (kinds.const_item_behind x.0)
unfolding const_item_behind kinds.const_item_behind
bare_const_item x = bare_bind _ (bare_take _) (λ t. bare_bind _ bare_constant (λ value. bare_bind _ (bare_take _) (λ u. bare_pure _ refl)))

pub bare_const_items : Bares (map forget_const_item) const_items kinds.const_items
unfolding const_items kinds.const_items
bare_const_items = bare_some _ _ bare_const_item

bare_group_behind : (b : Bool) → Bares forget_group (group_behind b) (kinds.group_behind b)
unfolding group_behind kinds.group_behind
bare_group_behind b = bare_bind _ bare_names (λ xs. bare_bind _ (bare_take _) (λ t. bare_bind _ (bare_take _) (λ form. bare_pure _ refl)))

bare_group : Bares forget_group group kinds.group
unfolding group kinds.group
bare_group = bare_branch _ _ (λ t. bare_group_behind true) (bare_group_behind false)

pub bare_formals : Bares (map forget_group) formals kinds.formals
unfolding formals kinds.formals
bare_formals = bare_branch _ _ (λ t. bare_bind _ (bare_list _ bare_group) (λ gs. bare_bind _ (bare_take _) (λ u. bare_pure _ refl))) (bare_pure _ refl)

-- Whatever the number of levels.
pub bare_type_at : (n : ℕ) → Bares forget_type (type_at n) (kinds.type_at n)
unfolding type_at kinds.type_at
bare_type_at zero = bare_choose _ bare_stop_deep bare_stop
bare_type_at (suc n) = bare_type_with (bare_type_at n)
