-- What the list of names comes to from here.
use Rattle.std.proofs.Common.{◌≤◌, length}
use Rattle.pfc_base.specs.declared.sign.TheConstants.{COMMA}
use Rattle.pfc_grammar.specs.Heads.{as_sign, as_name}
use Rattle.pfc_grammar.specs.placed.Reading.{take_as}
use Rattle.pfc_grammar.specs.placed.Types.{names_behind}
use Rattle.pfc_token_parser.proofs.Loops.{Turning}
use Rattle.pfc_type_parser.proofs.constants.names_behind.Given as goal

abbrev pub invariant-loop-behind : goal.invariant-loop-behind
invariant-loop-behind l = record {
  shorter : length l.rest ≤ length l.tokens;
  turning : Turning (as_sign COMMA) (λ t. take_as as_name) l.names.items l.rest (names_behind l.fn.first l.tokens);
}

abbrev pub decreases-loop-behind : goal.decreases-loop-behind
decreases-loop-behind l = length l.rest
