-- What the list of constants comes to from here.
use Rattle.std.proofs.Common.{◌≤◌, [], ◌∷◌, length}
use Rattle.pfc_base.specs.declared.sign.TheConstants.{COMMA}
use Rattle.pfc_grammar.specs.Heads.{as_sign}
use Rattle.pfc_grammar.specs.placed.Reading.{many_onto}
use Rattle.pfc_grammar.specs.placed.Types.{constant_reader}
use Rattle.pfc_token_parser.proofs.Loops.{Turning}
use Rattle.pfc_statement_parser.proofs.heads.constants_behind.Given as goal

abbrev pub invariant-loop-behind : goal.invariant-loop-behind
invariant-loop-behind l = record {
  shorter : length l.rest ≤ length l.tokens;
  turning : Turning (as_sign COMMA) (λ t. constant_reader) l.constants.items l.rest
      (many_onto (l.fn.first ∷ []) (as_sign COMMA) (λ t. constant_reader) l.tokens);
}

abbrev pub decreases-loop-behind : goal.decreases-loop-behind
decreases-loop-behind l = length l.rest
