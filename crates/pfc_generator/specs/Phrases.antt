-- The phrases of a body, and where they stand.
use Rattle.std.specs.Prelude.{ℕ, List}
use Rattle.pfc_tree.specs.views.Exprs.{expr_view}
use Rattle.pfc_tree.specs.views.Stmts.{stmts_view}
use Rattle.pfc_types.specs.Scopes.{Level}
use Rattle.pfc_types.specs.declared.view.Around.{Around}
use Rattle.pfc_code.specs.declared.instructions.Instr.TheVariants.{GRD}
use Rattle.pfc_translation.specs.Sites.{Site}
use Rattle.pfc_translation.specs.Codes.{Code, ◌⨾◌, one, unseen}
use Rattle.pfc_translation.specs.Expressions.{expr_code}
use Rattle.pfc_translation.specs.Calls.{resource_of}
use Rattle.pfc_translation.specs.Statements.{stmts_code}
use Rattle.pfc_program.specs.Views.{tables_view, block_view}
use Rattle.pfc_addresses.specs.Sites.{program_of, tables_of, whole_view}
use Rattle.pfc_addresses.specs.declared.bodies.Body.{Body}
use Rattle.pfc_generator.specs.declared.phrases.Phrase.{Phrase}
use Rattle.pfc_generator.specs.declared.phrases.Phrase.TheVariants.{Guard, Statements, Unseen, Alone}

abbrev pub phrase_code : Site → Phrase → Code
phrase_code s (Guard e) = expr_code s (expr_view e.now) ⨾ one s (GRD (resource_of s))
phrase_code s (Statements next ss) = stmts_code s next (stmts_view ss.now)
phrase_code s (Unseen next ss) = unseen (stmts_code s next (stmts_view ss.now))
phrase_code s (Alone i) = one s i

-- in a body where these levels are in view
abbrev pub site_within : Body → List Level → Around → ℕ → Site
site_within body levels around line =
    record {
      program = whole_view (program_of body);
      block = block_view (tables_of body) body.block.now;
      env = record { state = tables_view (tables_of body); view = levels; around = around };
      line = line;
    }
