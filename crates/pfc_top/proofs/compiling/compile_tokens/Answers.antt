use Rattle.std.proofs.Common.{rules, ℕ, List, ap, ◌∙◌, subst}
use Rattle.pfc_tree.specs.Symbols.{Symbol}
use Rattle.pfc_tree.specs.views.Parts.{tree_view}
use Rattle.pfc_number_laws.specs.Tokens.{FitSymbols}
use Rattle.pfc_outcome.specs.Outcomes.{syntax_refusal}
use Rattle.pfc_top.specs.declared.compiling.Uncompiled.TheVariants.{Refused}
use Rattle.pfc_top.proofs.Images.{tokens_image, tokens_refusal, syntax_refused}
use Rattle.pfc_top.proofs.compiling.compile_tokens.Goals as goal

pub compile_tree-requires-clause-fits : goal.compile_tree-requires-clause-fits
compile_tree-requires-clause-fits c =
    c.checked_programs_have_small_numbers.ensures.written (tree_view c.in-Ok.tree)
    (subst (λ (kinds : List Symbol). FitSymbols kinds) c.in-Ok.ensures.tree.written c.requires.numbers)

pub returns-in-Ok-clause-image : goal.returns-in-Ok-clause-image
returns-in-Ok-clause-image c =
    tokens_image c.args.tokens.now (tree_view c.in-Ok.tree) c.compile_tree.result c.in-Ok.ensures.tree c.in-Ok.ensures.level c.compile_tree.ensures.image

pub returns-in-Ok-clause-none : goal.returns-in-Ok-clause-none
returns-in-Ok-clause-none c =
    tokens_refusal c.args.tokens.now c.args.end
    (tree_view c.in-Ok.tree) c.compile_tree.result c.in-Ok.ensures.tree c.in-Ok.ensures.level c.compile_tree.ensures.none

pub returns-in-Err-Unexpected-clause-none : goal.returns-in-Err-Unexpected-clause-none
returns-in-Err-Unexpected-clause-none c =
    syntax_refused c.args.tokens.now c.args.end 201 c.in-Err-Unexpected.at c.refused_at.result
    (c.refused_at.ensures ∙ ap (λ (i : ℕ). Refused (syntax_refusal c.args.tokens.now c.args.end 201 i)) c.in-Err-Unexpected.at-is) (search rules)

pub returns-in-Err-Deep-clause-none : goal.returns-in-Err-Deep-clause-none
returns-in-Err-Deep-clause-none c =
    syntax_refused c.args.tokens.now c.args.end 202 c.in-Err-Deep.at c.refused_at-in-Err-Deep.result
    (c.refused_at-in-Err-Deep.ensures ∙ ap (λ (i : ℕ). Refused (syntax_refusal c.args.tokens.now c.args.end 202 i)) c.in-Err-Deep.at-is) (search rules)
