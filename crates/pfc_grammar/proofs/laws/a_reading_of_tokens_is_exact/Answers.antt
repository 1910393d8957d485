use Rattle.pfc_grammar.proofs.placed_bare.Parts.{tokens_are_read}
use Rattle.pfc_grammar.proofs.ExactTokens.{shape_is_read, tree_is_read, lawful_is_read, none_is_deep, bad_token, deep_token}
use Rattle.pfc_grammar.proofs.laws.a_reading_of_tokens_is_exact.Goals as goal

pub returns : goal.returns
returns c = record {
  bare = tokens_are_read;
  read = tree_is_read;
  within = λ tokens rest tree e. (shape_is_read tokens rest tree e).within;
  back = lawful_is_read;
  level = none_is_deep;
  unexpected = bad_token;
  too_deep = deep_token;
}
