-- The readers of constants, types and groups of parameters look no further than at the symbol on which they end.
use Rattle.std.proofs.Common.{ℕ, zero, suc, [], ◌∷◌, Bool, Option}
use Rattle.pfc_tree.specs.Symbols.{Text}
use Rattle.pfc_grammar.proofs.Local.{Local, local_pure, local_stop, local_stop_deep, local_bind, local_choose, local_take}
use Rattle.pfc_grammar.proofs.LocalLoops.{local_onto, local_list_end}
use Rattle.pfc_grammar.specs.Reading.{Reader, take_as}
use Rattle.pfc_base.specs.declared.word.TheConstants.{END}
use Rattle.pfc_base.specs.declared.sign.TheConstants.{COMMA, SEMICOLON}
use Rattle.pfc_tree.specs.declared.tree.Sign as plus_or_minus
use Rattle.pfc_tree.specs.shapes.Types.{TypeShape}
use Rattle.pfc_grammar.specs.Heads.{as_word, as_sign, as_name, is_word, begins_type}
use Rattle.pfc_grammar.specs.grammar.Types.{names_behind, names, constant_behind, constant_reader, range, var_behind, var_with, channel_behind, array_behind}
use Rattle.pfc_grammar.specs.grammar.Types.{record_behind, type_with, type_at, const_item_behind, const_items, type_item_behind, type_items, var_item_behind}
use Rattle.pfc_grammar.specs.grammar.Types.{var_items, group_behind, group, formals}
use Rattle.pfc_grammar.proofs.local_rules.Exprs.{localities}

pub local_names_behind : (x : Text) → Local (names_behind x)
unfolding names_behind
local_names_behind x = local_onto (as_sign COMMA) (λ t. take_as as_name) (λ o. local_take as_name) (x ∷ [])

pub local_names : Local names
unfolding names
local_names = search (localities, local_names_behind) depth 12

local_constant_behind : (sign : Option plus_or_minus.Sign) → Local (constant_behind sign)
unfolding constant_behind
local_constant_behind sign = search localities depth 12

pub local_constant : Local constant_reader
unfolding constant_reader
local_constant = search (localities, local_constant_behind) depth 12

local_range : Local range
unfolding range
local_range = search (localities, local_constant) depth 12

module _ (t : Reader TypeShape) (ht : Local t) where
  local_var_behind : (x : Text) → Local (var_behind t x)
  unfolding var_behind
  local_var_behind x = search (localities, local_names_behind) depth 12

  local_var : Local (var_with t)
  unfolding var_with
  local_var = search (localities, local_var_behind) depth 12

  local_channel : Local (channel_behind t)
  unfolding channel_behind
  local_channel = search localities depth 12

  local_array : Local (array_behind t)
  unfolding array_behind
  local_array = search (localities, local_range) depth 14

  local_record : Local (record_behind t)
  unfolding record_behind
  local_record = local_bind (local_list_end (as_sign SEMICOLON) (is_word END) local_var) (λ vs. local_bind (local_take (as_word END)) (λ u. local_pure _))

  pub local_type_with : Local (type_with t)
  unfolding type_with
  local_type_with = search (localities, local_channel, local_array, local_record) depth 14

  local_type_item : (x : Text) → Local (type_item_behind t x)
  unfolding type_item_behind
  local_type_item x = search localities depth 12

  pub local_type_items : Local (type_items t)
  unfolding type_items
  local_type_items = search (localities, local_type_item) depth 12

  local_var_item : (x : Text) → Local (var_item_behind t x)
  unfolding var_item_behind
  local_var_item x = search (localities, local_var_behind) depth 12

  pub local_var_items : Local (var_items t)
  unfolding var_items
  local_var_items = search (localities, local_var_item) depth 12

local_const_item : (x : Text) → Local (const_item_behind x)
unfolding const_item_behind
local_const_item x = search (localities, local_constant) depth 12

pub local_const_items : Local const_items
unfolding const_items
local_const_items = search (localities, local_const_item) depth 12

local_group_behind : (b : Bool) → Local (group_behind b)
unfolding group_behind
local_group_behind b = search (localities, local_names) depth 12

local_group : Local group
unfolding group
local_group = search (localities, local_group_behind) depth 12

pub local_formals : Local formals
unfolding formals
local_formals = search (localities, local_group) depth 12

-- Whatever the number of levels.
pub local_type_at : (n : ℕ) → Local (type_at n)
unfolding type_at
local_type_at zero = local_choose begins_type local_stop_deep local_stop
local_type_at (suc n) = local_type_with (type_at n) (local_type_at n)
