-- Picks and choices, as functions of the policy, of how far it has come, and of the standings.
use Rattle.std.specs.Prelude.{ℕ, ◌+◌, ◌%◌, nat_lt, min, if◌then◌else◌, List, [], ◌∷◌, length, Option, Some, None, slice_index, slice_get}
use Rattle.rand_pcg.specs.Lcg.{Lcg}
use Rattle.pfc_state.specs.Stands.{Stand, is_ready}
use Rattle.pfc_world.specs.Tables.{at}
use Rattle.pfc_sched.specs.declared.picking.Policy.{Policy}
use Rattle.pfc_sched.specs.declared.picking.Policy.TheVariants.{Fair, Unfair, Script}
use Rattle.pfc_sched.specs.declared.picking.Pick.{Pick}
use Rattle.pfc_sched.specs.declared.picking.Pick.TheVariants.{Process, Nobody, NotReady, NoProcess, ScriptEnd}
use Rattle.pfc_sched.specs.Words.{stream, word, after_word}
use Rattle.pfc_world.specs.Ready.{ready_numbers, turn_of}

-- who picks: by words, after the process picked last, or by a list of which so many items were taken
pub data Picking : Type 0 where
  by_words : Lcg → Picking
  by_turn : ℕ → Picking
  by_list : List ℕ → ℕ → Picking

-- before the first pick; the words are those of the first stream of the seed, and process 0 counts as picked last
abbrev pub first_picking : Policy → Picking
first_picking (Fair seed) = by_words (stream seed 1)
first_picking Unfair = by_turn 0
first_picking (Script picks) = by_list picks 0

-- what the next item of a script gives
abbrev pub named : Option ℕ → List Stand → Pick
named None rows = ScriptEnd
named (Some p) rows = if nat_lt p (length rows) then (if is_ready (at rows p) then Process p else NotReady p) else NoProcess p

-- the pick among these ready ones
abbrev pub picked_among : Picking → List Stand → List ℕ → Pick
picked_among p rows [] = Nobody
picked_among (by_words g) rows (r ∷ ready) = Process (slice_index (r ∷ ready) (word g % length (r ∷ ready)))
picked_among (by_turn last) rows (r ∷ ready) = Process (turn_of last (r ∷ ready))
picked_among (by_list picks item) rows (r ∷ ready) = named (slice_get picks item) rows

-- the pick over some standings: nobody exactly where none is ready
abbrev pub picked : Picking → List Stand → Pick
picked p rows = picked_among p rows (ready_numbers rows)

-- who picks afterwards
abbrev pub after_picked : Picking → List ℕ → Picking
after_picked p [] = p
after_picked (by_words g) (r ∷ ready) = by_words (after_word g)
after_picked (by_turn last) (r ∷ ready) = by_turn (turn_of last (r ∷ ready))
after_picked (by_list picks item) (r ∷ ready) = by_list picks (min (item + 1) (length picks + 1))

abbrev pub after_pick : Picking → List Stand → Picking
after_pick p rows = after_picked p (ready_numbers rows)

-- a choice among m: a word modulo m, or 0 where no words are drawn
abbrev pub chosen : Picking → ℕ → ℕ
chosen (by_words g) m = word g % m
chosen (by_turn last) m = 0
chosen (by_list picks item) m = 0

abbrev pub after_choice : Picking → Picking
after_choice (by_words g) = by_words (after_word g)
after_choice (by_turn last) = by_turn last
after_choice (by_list picks item) = by_list picks item

-- the number, from 1, of the item taken last
abbrev pub item_of : Picking → ℕ
item_of (by_words g) = 0
item_of (by_turn last) = 0
item_of (by_list picks item) = item
