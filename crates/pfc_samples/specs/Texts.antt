-- From the bytes of a text to its tree, by the definitions alone: the text is cut into its tokens, and these are read.
use Rattle.std.specs.Prelude.{ℕ, List, Option, Some, None, Ok, Err}
use Rattle.pfc_base.specs.declared.faults.Refusal.{Refusal}
use Rattle.pfc_scan.specs.Cutting.{Cutting, tokens, refusal}
use Rattle.pfc_scan.specs.Computed.{cut}
use Rattle.pfc_tree.specs.trees.Parts.{ProgramTree}
use Rattle.pfc_types.specs.rules.Whole.{first_fault}
use Rattle.pfc_grammar.specs.placed.Reading as placed
use Rattle.pfc_grammar.specs.placed.Reading.{pure, bind, stop, stop_deep, peek, branch, choose, take_as, many_turns, many_onto, many, some_of, list_of}
use Rattle.pfc_grammar.specs.placed.Reading.{end_turns, end_onto, list_end, while_turns, while_onto, many_while, finish}
use Rattle.pfc_grammar.specs.placed.Types.{names_behind, names, constant_behind, constant_reader, range, var_behind, var_with, channel_behind, array_behind}
use Rattle.pfc_grammar.specs.placed.Types.{record_behind, type_with, type_at, const_item_behind, const_items, type_item_behind, type_items, var_item_behind}
use Rattle.pfc_grammar.specs.placed.Types.{var_items, group_behind, group, formals}
use Rattle.pfc_grammar.specs.placed.Exprs.{selector_behind, desig_behind, desig_with, actual_with, actuals_with, paren_behind, applied_behind, plain_factor}
use Rattle.pfc_grammar.specs.placed.Exprs.{factor_with, multiplier_behind, term_with, summand_behind, simple_behind, simple_with, expr_from, expr_with, no_expr}
use Rattle.pfc_grammar.specs.placed.Exprs.{factor_at, expr_at}
use Rattle.pfc_grammar.specs.placed.Stmts.{test_before, for_head, accept_head, labels, spread_behind, replication, guard, alt_head, requeue_behind}
use Rattle.pfc_grammar.specs.placed.Stmts.{action_behind, comm_behind, message, message_or_wait, comm_plain, stmts_with, body_behind, body_with, block_behind}
use Rattle.pfc_grammar.specs.placed.Stmts.{if_behind, arm_with, case_behind, while_behind, repeat_behind, for_behind, cobegin_behind, accept_behind}
use Rattle.pfc_grammar.specs.placed.Stmts.{accepting_behind, comm_with, alt_with, select_behind, pri_behind, stmt_second, stmt_with, stmt_at}
use Rattle.pfc_grammar.specs.placed.Parts.{procedure_head, function_head, guarded_head, sub_behind, export_behind, ending, module_behind, entry_behind}
use Rattle.pfc_grammar.specs.placed.Parts.{type_word, process_behind, block_with, part_with, parts_at, params, program_behind, program_at, whole_at}
use Rattle.pfc_grammar.specs.placed.Parts.{read_tokens}

-- ## The tree of a text

abbrev pub tree_read : placed.Outcome ProgramTree → Option ProgramTree
tree_read (Ok p) = Some p.0
tree_read (Err h) = None

abbrev pub tree_in : Cutting → Option ProgramTree
tree_in (tokens ts end) = tree_read (read_tokens ts)
tree_in (refusal r) = None

abbrev pub where_whole : ProgramTree → Option Refusal → Option ProgramTree
where_whole t None = Some t
where_whole t (Some f) = None

abbrev pub whole_tree : Option ProgramTree → Option ProgramTree
whole_tree None = None
whole_tree (Some t) = where_whole t (first_fault t)

-- the tree of a text in which no rule is broken; None where the text has a fault
unfoldable pub program_in : List ℕ → Option ProgramTree
unfolding pure bind stop stop_deep peek branch choose take_as many_turns many_onto many some_of list_of end_turns end_onto list_end while_turns while_onto
    many_while finish names_behind names constant_behind constant_reader range var_behind var_with channel_behind array_behind record_behind type_with type_at
    const_item_behind const_items type_item_behind type_items var_item_behind var_items group_behind group formals selector_behind desig_behind desig_with
    actual_with actuals_with paren_behind applied_behind plain_factor factor_with multiplier_behind term_with summand_behind simple_behind simple_with expr_from
    expr_with no_expr factor_at expr_at test_before for_head accept_head labels spread_behind replication guard alt_head requeue_behind action_behind
    comm_behind message message_or_wait comm_plain stmts_with body_behind body_with block_behind if_behind arm_with case_behind while_behind repeat_behind
    for_behind cobegin_behind accept_behind accepting_behind comm_with alt_with select_behind pri_behind stmt_second stmt_with stmt_at procedure_head
    function_head guarded_head sub_behind export_behind ending module_behind entry_behind type_word process_behind block_with part_with parts_at params
    program_behind program_at whole_at read_tokens
program_in text = whole_tree (tree_in (cut text))
