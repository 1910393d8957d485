-- The levels go down, and within a level the functions call in one order. What the list of parts comes to from here.
use Rattle.std.proofs.Common.{◌+◌, ◌*◌, ◌≤◌, length, map}
use Rattle.pfc_tree.specs.views.Parts.{part_view}
use Rattle.pfc_grammar.specs.Heads.{begins_part}
use Rattle.pfc_grammar.specs.placed.Types.{type_at}
use Rattle.pfc_grammar.specs.placed.Parts.{parts_at, part_with}
use Rattle.pfc_parse.specs.Homes.{block_at, home_view}
use Rattle.pfc_parse.proofs.Whiling.{Whiling}
use Rattle.pfc_parse.proofs.parts.+parts.Given as goal

abbrev pub decreases-parts : goal.decreases-parts
decreases-parts l = 10 * l.levels + 3

abbrev pub decreases-part : goal.decreases-part
decreases-part l = 10 * l.levels + 2

abbrev pub decreases-block : goal.decreases-block
decreases-block l = 10 * l.levels + 9

abbrev pub decreases-sub_after : goal.decreases-sub_after
decreases-sub_after l = 10 * l.levels + 4

abbrev pub decreases-module_behind : goal.decreases-module_behind
decreases-module_behind l = 10 * l.levels + 4

abbrev pub decreases-process_behind : goal.decreases-process_behind
decreases-process_behind l = 10 * l.levels + 4

abbrev pub invariant-parts-loop-home : goal.invariant-parts-loop-home
invariant-parts-loop-home l = record {
  shorter : length l.rest ≤ length l.tokens;
  whiling : Whiling (begins_part (home_view l.home)) (part_with (type_at l.levels) (block_at l.levels (home_view l.home))) (map part_view l.parts.items) l.rest
      (parts_at l.levels (home_view l.home) l.tokens);
}

abbrev pub decreases-parts-loop-home : goal.decreases-parts-loop-home
decreases-parts-loop-home l = length l.rest
