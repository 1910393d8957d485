-- The levels go down, and within a level the functions call in one order. What the list of a record's fields comes to from here.
use Rattle.std.proofs.Common.{◌+◌, ◌*◌, ◌≤◌, length, map, [], ◌∷◌}
use Rattle.pfc_base.specs.declared.word.TheConstants.{END}
use Rattle.pfc_base.specs.declared.sign.TheConstants.{SEMICOLON}
use Rattle.pfc_tree.specs.views.Types.{var_view}
use Rattle.pfc_grammar.specs.Heads.{as_sign, is_word}
use Rattle.pfc_grammar.specs.placed.Reading.{end_onto}
use Rattle.pfc_grammar.specs.placed.Types.{var_with, type_at}
use Rattle.pfc_token_parser.proofs.Ended.{Ending}
use Rattle.pfc_type_parser.proofs.types.+types.Given as goal

abbrev pub decreases-type_node : goal.decreases-type_node
decreases-type_node l = 10 * l.levels

abbrev pub decreases-type_form : goal.decreases-type_form
decreases-type_form l = 10 * l.levels + 9

abbrev pub decreases-channel_behind : goal.decreases-channel_behind
decreases-channel_behind l = 10 * l.levels + 1

abbrev pub decreases-array_behind : goal.decreases-array_behind
decreases-array_behind l = 10 * l.levels + 1

abbrev pub decreases-record_behind : goal.decreases-record_behind
decreases-record_behind l = 10 * l.levels + 4

abbrev pub decreases-fields_behind : goal.decreases-fields_behind
decreases-fields_behind l = 10 * l.levels + 3

abbrev pub decreases-fields : goal.decreases-fields
decreases-fields l = 10 * l.levels + 2

abbrev pub decreases-var_behind : goal.decreases-var_behind
decreases-var_behind l = 10 * l.levels + 1

abbrev pub invariant-fields_behind-loop-behind : goal.invariant-fields_behind-loop-behind
invariant-fields_behind-loop-behind l = record {
  shorter : length l.rest ≤ length l.tokens;
  ending : Ending (as_sign SEMICOLON) (is_word END) (var_with (type_at l.levels)) (map var_view l.groups.items) l.rest
      (end_onto (var_view l.fn.first ∷ []) (as_sign SEMICOLON) (is_word END) (var_with (type_at l.levels)) l.tokens);
}

abbrev pub decreases-fields_behind-loop-behind : goal.decreases-fields_behind-loop-behind
decreases-fields_behind-loop-behind l = length l.rest
