-- What the list comes to from here.
use Rattle.std.proofs.Common.{◌≤◌, length, map}
use Rattle.pfc_base.specs.declared.word.TheConstants.{EXPORT}
use Rattle.pfc_grammar.specs.Heads.{as_word}
use Rattle.pfc_grammar.specs.placed.Reading.{many}
use Rattle.pfc_grammar.specs.placed.Parts.{export_behind}
use Rattle.pfc_token_parser.proofs.Loops.{Turning}
use Rattle.pfc_parse.proofs.parts.heads.exports.Given as goal

abbrev pub invariant-loop-behind : goal.invariant-loop-behind
invariant-loop-behind l = record {
  shorter : length l.rest ≤ length l.tokens;
  turning : Turning (as_word EXPORT) (λ u. export_behind) (map (λ xs. xs.items) l.exports.items) l.rest (many (as_word EXPORT) (λ u. export_behind) l.tokens);
}

abbrev pub decreases-loop-behind : goal.decreases-loop-behind
decreases-loop-behind l = length l.rest
