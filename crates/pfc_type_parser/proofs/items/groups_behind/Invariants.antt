-- What the list of groups comes to from here.
use Rattle.std.proofs.Common.{◌≤◌, [], ◌∷◌, length, map}
use Rattle.pfc_base.specs.declared.sign.TheConstants.{SEMICOLON}
use Rattle.pfc_tree.specs.views.Types.{group_view}
use Rattle.pfc_grammar.specs.Heads.{as_sign}
use Rattle.pfc_grammar.specs.placed.Types.{group}
use Rattle.pfc_grammar.specs.placed.Reading.{many_onto}
use Rattle.pfc_token_parser.proofs.Loops.{Turning}
use Rattle.pfc_type_parser.proofs.items.groups_behind.Given as goal

abbrev pub invariant-loop-behind : goal.invariant-loop-behind
invariant-loop-behind l = record {
  shorter : length l.rest ≤ length l.tokens;
  turning : Turning (as_sign SEMICOLON) (λ t. group) (map group_view l.groups.items) l.rest
      (many_onto (group_view l.fn.first ∷ []) (as_sign SEMICOLON) (λ t. group) l.tokens);
}

abbrev pub decreases-loop-behind : goal.decreases-loop-behind
decreases-loop-behind l = length l.rest
