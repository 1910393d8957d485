use Rattle.pfc_following_source.proofs.structures.Anywhere.{nothing_follows, list_follows, block_follows_anywhere}
use Rattle.pfc_following_source.proofs.laws.lists_follow.Goals as goal

pub returns-clause-nothing : goal.returns-clause-nothing
returns-clause-nothing c = λ g b env. nothing_follows g b env

pub returns-clause-list : goal.returns-clause-list
returns-clause-list c = λ g b env. list_follows g b env

pub returns-clause-compound : goal.returns-clause-compound
returns-clause-compound c = λ g b env. block_follows_anywhere g b env
