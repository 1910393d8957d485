-- What the list of items comes to from here.
use Rattle.std.proofs.Common.{◌≤◌, [], ◌∷◌, length}
use Rattle.pfc_grammar.specs.Heads.{as_name}
use Rattle.pfc_grammar.specs.placed.Types.{const_item_behind}
use Rattle.pfc_grammar.specs.placed.Reading.{many_onto}
use Rattle.pfc_token_parser.proofs.Loops.{Turning}
use Rattle.pfc_type_parser.proofs.items.const_items_behind.Given as goal

abbrev pub invariant-loop-x : goal.invariant-loop-x
invariant-loop-x l = record {
  shorter : length l.rest ≤ length l.tokens;
  turning : Turning as_name const_item_behind l.items.items l.rest (many_onto (l.fn.first ∷ []) as_name const_item_behind l.tokens);
}

abbrev pub decreases-loop-x : goal.decreases-loop-x
decreases-loop-x l = length l.rest
