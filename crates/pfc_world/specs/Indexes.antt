-- What the table keeps beside its rows, as these are.
use Rattle.std.specs.Prelude.{ℕ, suc, ◌+◌, ◌<◌, ◌≤◌, ◌≡◌, ◌≢◌, Bool, true, false, is_some, None, Some, List, [], ◌∷◌, map, length, get_or, set}
use Rattle.pfc_links.specs.Members.{Lists, member_at, in_list}
use Rattle.pfc_moments.specs.Moments.{moment_at}
use Rattle.pfc_ranks.specs.declared.ranks.Delay.{Delay}
use Rattle.pfc_ranks.specs.Delays.{delay_at}
use Rattle.pfc_state.specs.declared.waits.Why.{Why}
use Rattle.pfc_state.specs.Stands.{Stand, Waits, is_ready, is_created, due_of, is_unfinished, may_end}
use Rattle.pfc_world.specs.declared.index.Index.{Index}
use Rattle.pfc_world.specs.Delays.{delay_of}
use Rattle.pfc_world.specs.declared.lists.Spread.{Spread}
use Rattle.pfc_world.specs.Lists.{list_count, list_of, member_of, IsSpread}
use Rattle.pfc_world.specs.Tables.{at}

-- the set holds the numbers of the ready processes
pub record IsReadySet (rows : List Stand) (ready : List Bool) : Type 0 where
  pub room : length rows ≤ length ready
  pub each : (k : ℕ) → get_or ready k false ≡ is_ready (at rows k)

abbrev pub number : Bool → ℕ
number true = 1
number false = 0

abbrev pub one_more : Bool → ℕ → ℕ
one_more true n = suc n
one_more false n = n

-- how many processes stand at what this holds of
abbrev pub count_of : (Stand → Bool) → List Stand → ℕ
count_of holds [] = 0
count_of holds (stand ∷ rest) = one_more (holds stand) (count_of holds rest)

-- What is kept beside the rows is what they say: who is ready, who waits in which list, who is due, who is delayed at
-- a condition, how many are unfinished, how many are created, and how many wait in a select with an open `terminate`.
pub record IsIndexed (rows : List Stand) (index : Index) : Type 0 where
  pub some : 0 < length rows
  pub few : length rows ≤ 1024
  pub spread : IsSpread index.spread
  pub bits : IsReadySet rows index.ready
  pub waits : index.waits.members ≡ map (member_of index.spread) rows
  pub lists : index.waits.lists ≡ list_count index.spread
  pub dues : index.dues ≡ map due_of rows
  pub ranks : index.ranks ≡ map delay_of rows
  pub unfinished : index.unfinished ≡ count_of is_unfinished rows
  pub created : index.created ≡ count_of is_created rows
  pub ending : index.ending ≡ count_of may_end rows

-- the lists are those of the processes that wait
pub record AreListed (spread : Spread) (rows : List Stand) (lists : Lists) : Type 0 where
  pub is : IsSpread spread
  pub members : lists.members ≡ map (member_of spread) rows
  pub count : lists.lists ≡ list_count spread

-- Process p, which is in no list, not due and not delayed, may be put into a list with this ticket.
pub record Admits (index : Index) (p ticket : ℕ) : Type 0 where
  pub ready : p < length index.ready
  pub waits : p < length index.waits.members
  pub spread : IsSpread index.spread
  pub lists : index.waits.lists ≡ list_count index.spread
  pub dues : p < length index.dues
  pub ranks : p < length index.ranks
  pub free : member_at index.waits.members p ≡ None
  pub undue : moment_at index.dues p ≡ None
  pub undelayed : delay_at index.ranks p ≡ None
  pub from_one : 0 < ticket
  pub last : (list q t : ℕ) → member_at index.waits.members q ≡ in_list list t → t < ticket
  pub apart : (q : ℕ) (delay : Delay) → delay_at index.ranks q ≡ Some delay → delay.ticket ≢ ticket
  pub ending : index.ending ≤ 1024

-- process p waits from now on
pub record BeginsWait (old new : Index) (p : ℕ) (why : Why) (ticket : ℕ) : Type 0 where
  pub spread : new.spread ≡ old.spread
  pub ready : new.ready ≡ set old.ready p false
  pub members : new.waits.members ≡ set old.waits.members p (in_list (list_of old.spread why) ticket)
  pub lists : new.waits.lists ≡ old.waits.lists
  pub dues : new.dues ≡ set old.dues p (due_of (Waits why ticket []))
  pub ranks : new.ranks ≡ set old.ranks p (delay_of (Waits why ticket []))
  pub unfinished : new.unfinished ≡ old.unfinished
  pub created : new.created ≡ old.created
  pub ending : new.ending ≡ old.ending + number (may_end (Waits why ticket []))

-- Process p is in a list, and it is counted where its wait has an open `terminate`.
pub record IsListed (index : Index) (p : ℕ) (ends : Bool) : Type 0 where
  pub ready : p < length index.ready
  pub waits : p < length index.waits.members
  pub member : is_some (member_at index.waits.members p) ≡ true
  pub dues : p < length index.dues
  pub ranks : p < length index.ranks
  pub unfinished : 0 < index.unfinished
  pub ending : number ends ≤ index.ending

-- the wait of process p is over
pub record EndsWait (old new : Index) (p : ℕ) (ends : Bool) : Type 0 where
  pub spread : new.spread ≡ old.spread
  pub members : new.waits.members ≡ set old.waits.members p None
  pub lists : new.waits.lists ≡ old.waits.lists
  pub dues : new.dues ≡ set old.dues p None
  pub ranks : new.ranks ≡ set old.ranks p None
  pub created : new.created ≡ old.created
  pub ending : new.ending + number ends ≡ old.ending
