use Rattle.std.proofs.Common.{rules, arith, [], sym, ◌∙◌}
use Rattle.std.proofs.lemmas.Result.{err_from_is_err_and}
use Rattle.pfc_tree.specs.declared.tree.Part.{the_lemmas}
use Rattle.pfc_grammar.specs.placed.Reading.{bind, pure, many_while}
use Rattle.pfc_grammar.specs.placed.Parts as reader
use Rattle.pfc_parse.specs.Homes.{home_view}
use Rattle.pfc_token_parser.proofs.Branches.{branch_taken, branch_not_taken, viewed}
use Rattle.pfc_parse.proofs.Whiling.{whiling_begins, whiling_goes, whiling_ends, whiling_halts}
use Rattle.pfc_parse.proofs.PartLevels.{parts_are, sub_goes}
use Rattle.pfc_parse.proofs.parts.+parts.Goals as goal

pub parts-loop-home-init : goal.parts-loop-home-init
unfolding many_while
parts-loop-home-init t c = record {
  shorter = omega arith;
  whiling = whiling_begins _ _ [] _ _ _ (search rules) (parts_are c.args.levels (home_view c.args.home) c.args.tokens.now);
}

pub parts-returns-in_err-item-clause-gives : goal.parts-returns-in_err-item-clause-gives
parts-returns-in_err-item-clause-gives t c = let p = err_from_is_err_and c.from_residual.result c.from_residual.ensures.1 in rw (p.1, p.2)
    (whiling_halts _ _ _ _ _ _ c.loop-home.invariant.whiling (sym c.begins_part.ensures ∙ c.loop-home-test.true) c.in_err-item.ensures.gives)

pub parts-loop-home-preserved : goal.parts-loop-home-preserved
parts-loop-home-preserved t c = record {
  shorter = omega (arith, c.in_ok-item.ensures.kept);
  whiling = whiling_goes _ _ _ _ _ _ _ _ c.loop-home.invariant.whiling (sym c.begins_part.ensures ∙
      c.loop-home-test.true) c.in_ok-item.ensures.gives c.in_ok-item.ensures.kept (viewed _ _ _ c.in_ok-item.item (search rules));
}

pub parts-returns-clause-gives : goal.parts-returns-clause-gives
parts-returns-clause-gives t c = whiling_ends _ _ _ _ _ c.loop-home.invariant.whiling (sym c.begins_part.ensures ∙ c.loop-home-test.false)

pub part-returns-in-Some-clause-gives : goal.part-returns-in-Some-clause-gives
unfolding reader.part_with bind pure
part-returns-in-Some-clause-gives t c = rw (branch_taken _ _ _ _ _ _ c.in-Some.ensures.taken, c.in_ok-items.ensures.gives) (search (rules, the_lemmas))

pub part-returns-in-Some-word-clause-gives : goal.part-returns-in-Some-word-clause-gives
unfolding reader.part_with bind pure
part-returns-in-Some-word-clause-gives t c =
    rw (branch_not_taken _ _ _ _ c.in_default.ensures.taken, branch_taken _ _ _ _ _ _ c.in-Some-word.ensures.taken, c.in_ok-items-2.ensures.gives)
    (search (rules, the_lemmas))

pub part-returns-in-Some-word-2-clause-gives : goal.part-returns-in-Some-word-2-clause-gives
unfolding reader.part_with bind pure
part-returns-in-Some-word-2-clause-gives t c =
    rw (
      branch_not_taken _ _ _ _ c.in_default.ensures.taken,
      branch_not_taken _ _ _ _ c.in_default-word.ensures.taken,
      branch_taken _ _ _ _ _ _
          c.in-Some-word-2.ensures.taken,
      c.in_ok-items-3.ensures.gives,
    ) (search (rules, the_lemmas))

pub block-returns-in-Some-clause-gives : goal.block-returns-in-Some-clause-gives
unfolding reader.block_with bind pure
block-returns-in-Some-clause-gives t c =
    rw (branch_taken _ _ _ _ _ _ c.in-Some.ensures.taken, sub_goes _ _ _ _ _ _ c.in_ok-head.ensures.gives c.in_ok-sub.ensures.gives)
    (search (rules, the_lemmas))

pub block-returns-in-Some-word-clause-gives : goal.block-returns-in-Some-word-clause-gives
unfolding reader.block_with bind pure
block-returns-in-Some-word-clause-gives t c =
    rw (
      branch_not_taken _ _ _ _ c.in_default.ensures.taken,
      branch_taken _ _ _ _ _ _ c.in-Some-word.ensures.taken,
      sub_goes _ _ _ _ _ _
          c.in_ok-head-2.ensures.gives c.in_ok-sub-2.ensures.gives,
    ) (search (rules, the_lemmas))

pub block-returns-in-Some-word_of_resource-clause-gives : goal.block-returns-in-Some-word_of_resource-clause-gives
unfolding reader.block_with bind pure
block-returns-in-Some-word_of_resource-clause-gives t c =
    rw (
      branch_not_taken _ _ _ _ c.in_default.ensures.taken,
      branch_not_taken _ _ _ _ c.in_default-word.ensures.taken,
      branch_taken _ _ _ _ _ _
          c.in-Some-word_of_resource.ensures.taken,
      sub_goes _ _ _ _ _ _ c.in_ok-head-3.ensures.gives c.in_ok-sub-3.ensures.gives,
    ) (search (rules, the_lemmas))

pub block-returns-in-Some-word_of_program-clause-gives : goal.block-returns-in-Some-word_of_program-clause-gives
unfolding reader.block_with bind pure
block-returns-in-Some-word_of_program-clause-gives t c =
    rw (
      branch_not_taken _ _ _ _ c.in_default.ensures.taken,
      branch_not_taken _ _ _ _ c.in_default-word.ensures.taken,
      branch_not_taken _ _ _ _
          c.in_default-word_of_resource.ensures.taken,
      branch_taken _ _ _ _ _ _ c.in-Some-word_of_program.ensures.taken,
      c.in_ok-monitor.ensures.gives,
    )
    (search (rules, the_lemmas))

pub block-returns-in-Some-word_of_program-2-clause-gives : goal.block-returns-in-Some-word_of_program-2-clause-gives
unfolding reader.block_with bind pure
block-returns-in-Some-word_of_program-2-clause-gives t c =
    rw (
      branch_not_taken _ _ _ _ c.in_default.ensures.taken,
      branch_not_taken _ _ _ _ c.in_default-word.ensures.taken,
      branch_not_taken _ _ _ _
          c.in_default-word_of_resource.ensures.taken,
      branch_not_taken _ _ _ _ c.in_default-word_of_program.ensures.taken,
      branch_taken _ _ _ _ _ _
          c.in-Some-word_of_program-2.ensures.taken,
      c.in_ok-resource.ensures.gives,
    ) (search (rules, the_lemmas))

pub block-returns-in-Some-word_of_program-3-clause-gives : goal.block-returns-in-Some-word_of_program-3-clause-gives
unfolding reader.block_with bind pure
block-returns-in-Some-word_of_program-3-clause-gives t c =
    rw (
      branch_not_taken _ _ _ _ c.in_default.ensures.taken,
      branch_not_taken _ _ _ _ c.in_default-word.ensures.taken,
      branch_not_taken _ _ _ _
          c.in_default-word_of_resource.ensures.taken,
      branch_not_taken _ _ _ _ c.in_default-word_of_program.ensures.taken,
      branch_not_taken _ _ _ _
          c.in_default-word_of_program-2.ensures.taken,
      branch_taken _ _ _ _ _ _ c.in-Some-word_of_program-3.ensures.taken,
      c.in_ok-process.ensures.gives,
    )
    (search (rules, the_lemmas))
