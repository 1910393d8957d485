-- What the list of items comes to from here.
use Rattle.std.proofs.Common.{◌≤◌, [], ◌∷◌, length, map}
use Rattle.pfc_tree.specs.views.Types.{var_view}
use Rattle.pfc_grammar.specs.Heads.{as_name}
use Rattle.pfc_grammar.specs.placed.Types.{type_at, var_item_behind}
use Rattle.pfc_grammar.specs.placed.Reading.{many_onto}
use Rattle.pfc_token_parser.proofs.Loops.{Turning}
use Rattle.pfc_type_parser.proofs.items.var_items_behind.Given as goal

abbrev pub invariant-loop-x : goal.invariant-loop-x
invariant-loop-x l = record {
  shorter : length l.rest ≤ length l.tokens;
  turning : Turning as_name (var_item_behind (type_at l.levels)) (map var_view l.items.items) l.rest (many_onto (var_view l.fn.first ∷ []) as_name
      (var_item_behind (type_at l.levels)) l.tokens);
}

abbrev pub decreases-loop-x : goal.decreases-loop-x
decreases-loop-x l = length l.rest
