-- What a map of names is known by.
use Rattle.indexmap.proofs.CallerLemmas.{insert_entry-new}
use Rattle.std.proofs.lemmas.Option.{get_or_from_slice_get}

-- a new name goes behind the others
pub ruleset names = insert_entry-new

-- the entry that is read at a place
pub ruleset reads = get_or_from_slice_get
