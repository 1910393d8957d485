-- What a statement comes to.
use Rattle.std.specs.Prelude.{ℕ, Option, Some, None, option_map}
use Rattle.pfc_tree.specs.declared.tree.Stmt.{Stmt}
use Rattle.pfc_tree.specs.trees.Stmts.{StmtTree, empty}
use Rattle.pfc_tree.specs.views.Stmts.{stmt_view, alts_view}
use Rattle.pfc_types.specs.rules.Expressions.{Env}
use Rattle.pfc_semantics.specs.Remainders.{Action}
use Rattle.pfc_semantics.specs.Alternatives.{context, alternatives, from_alternatives, select_begun}
use Rattle.pfc_program.specs.declared.tables.Tables.{Tables}
use Rattle.pfc_pending.specs.Ahead.{begun_ahead}
use Rattle.pfc_pending.specs.Selects.{otherwise_view}
use Rattle.pfc_pending.specs.Waiting.{Waiting, remainder_of}
use Rattle.pfc_statement_steps.specs.declared.begins.Begin.{Begin}
use Rattle.pfc_statement_steps.specs.declared.begins.Begin.TheVariants as begin
use Rattle.pfc_statement_steps.specs.declared.begins.Select.{Select}

-- a select goes through its alternatives
abbrev pub select_ahead : Env → ℕ → Waiting → Select → Action
select_ahead env n w q =
    let c = context env q.line in
    from_alternatives c (alternatives c n (alts_view q.alts.now.items))
    (record (select_begun q.pri) { otherwise = option_map otherwise_view q.otherwise }) (remainder_of w)

-- the next scope of the text has the number n
abbrev pub begin_ahead : Tables → Env → ℕ → Waiting → Begin → Action
begin_ahead s env n w (begin.Step b) = begun_ahead s env w b
begin_ahead s env n w (begin.Select q) = select_ahead env n w q

-- a statement of the text, which is empty where there is none
abbrev pub node_view : Option Stmt → StmtTree
node_view None = empty
node_view (Some s) = stmt_view s
