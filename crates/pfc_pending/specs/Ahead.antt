-- What is at hand, over what is pending: the action that comes next, by the definitions.
use Rattle.pfc_tree.specs.views.Exprs.{expr_view, simple_view, term_view, factor_view, summands_view, multipliers_view, selectors_view, exprs_view, actual_view}
use Rattle.pfc_pending.specs.Texts.{stmts_left, stmt_at, actuals_left}
use Rattle.pfc_program.specs.declared.tables.Tables.{Tables}
use Rattle.pfc_values.specs.Pieces.{piece}
use Rattle.pfc_store.specs.Views.{spot_view, typed_spot_view, value_view}
use Rattle.pfc_semantics.specs.Remainders.{Context, Action, reads, writes, turns, calls, finishes, inputs, skips, asks_eof, asks_eoln, asks_clock, asks_empty}
use Rattle.pfc_semantics.specs.Remainders.{draws, joins, initials, waits, signals, delays, resumes, sleeps, meets, decides, parts, scans, bars, passes, faults}
use Rattle.pfc_semantics.specs.Expressions.{from_expr, from_simple, from_summands, from_term, from_multipliers, from_factor, from_selectors, from_indices}
use Rattle.pfc_semantics.specs.Expressions.{from_args}
use Rattle.pfc_types.specs.rules.Expressions.{Env}
use Rattle.pfc_semantics.specs.Alternatives.{context, from_alternatives, from_replica, from_guard, from_comm}
use Rattle.pfc_semantics.specs.Statements.{from_stmt, from_stmts, from_writes, from_reads, from_item, from_piece, plain_open}
use Rattle.pfc_semantics.specs.Rewriting.{from_remainder, from_location, from_value}
use Rattle.pfc_pending.specs.Pieces.{piece_bytes}
use Rattle.pfc_pending.specs.Selects.{alternative_view, select_view, rest_view, offer_view}
use Rattle.pfc_pending.specs.Waiting.{Waiting, remainder_of, awaits_of, given_view, callee_view, goal_over, bar_view, scan_view, tried_view, over}
use Rattle.pfc_pending.specs.declared.actions.Deed.{Deed}
use Rattle.pfc_pending.specs.declared.actions.Deed.TheVariants as deed
use Rattle.pfc_pending.specs.declared.at_hand.At.{At}
use Rattle.pfc_pending.specs.declared.at_hand.At.TheVariants as at
use Rattle.pfc_pending.specs.declared.at_hand.Begun.{Begun}
use Rattle.pfc_pending.specs.declared.at_hand.Step.{Step}
use Rattle.pfc_pending.specs.declared.at_hand.Step.TheVariants as to

-- an action, over what is left behind it
abbrev pub deed_ahead : Tables → Context → Waiting → Deed → Action
deed_ahead s c w (deed.Reads at) = reads c (spot_view at) (awaits_of w)
deed_ahead s c w (deed.Writes at v) = writes c (spot_view at) (value_view v) (remainder_of w)
deed_ahead s c w deed.Turns = turns c (remainder_of w)
deed_ahead s c w (deed.Calls callee args) = calls c (callee_view w callee) (given_view args.items)
deed_ahead s c w (deed.Finishes line) = finishes line
deed_ahead s c w (deed.Prints bytes width) = from_piece c (remainder_of w) (piece width (piece_bytes bytes))
deed_ahead s c w (deed.Inputs t at) = inputs c t (spot_view at) (remainder_of w)
deed_ahead s c w deed.Skips = skips c (remainder_of w)
deed_ahead s c w deed.AsksEof = asks_eof c (awaits_of w)
deed_ahead s c w deed.AsksEoln = asks_eoln c (awaits_of w)
deed_ahead s c w deed.AsksClock = asks_clock c (awaits_of w)
deed_ahead s c w (deed.AsksEmpty at) = asks_empty c (spot_view at) (awaits_of w)
deed_ahead s c w (deed.Draws n) = draws c n (awaits_of w)
deed_ahead s c w deed.Joins = joins c (remainder_of w)
deed_ahead s c w (deed.Initials at n) = initials c (spot_view at) n (remainder_of w)
deed_ahead s c w (deed.Waits at) = waits c (spot_view at) (remainder_of w)
deed_ahead s c w (deed.Signals at) = signals c (spot_view at) (remainder_of w)
deed_ahead s c w (deed.Delays at n) = delays c (spot_view at) n (remainder_of w)
deed_ahead s c w (deed.Resumes at) = resumes c (spot_view at) (remainder_of w)
deed_ahead s c w (deed.Sleeps n) = sleeps c n (remainder_of w)
deed_ahead s c w (deed.Meets offer) = meets c (plain_open (offer_view offer)) (remainder_of w)
deed_ahead s c w (deed.Decides select) = decides c (select_view select) (remainder_of w)
deed_ahead s c w (deed.Parts caller) = parts c caller (remainder_of w)
deed_ahead s c w (deed.Scans scan) = scans c (scan_view s scan) (remainder_of w)
deed_ahead s c w (deed.Bars b) = bars c (bar_view s b) (remainder_of w)
deed_ahead s c w (deed.Passes tried scan) = passes c (tried_view s tried) (scan_view s scan) (remainder_of w)
deed_ahead s c w (deed.Faults fault) = faults c fault

-- what comes where a statement has ended, and where a value has come
abbrev pub on_rest : Context → Waiting → Action
on_rest c w = from_remainder c.env (remainder_of w)

-- what is at hand
abbrev pub ahead : Tables → Context → Waiting → At → Action
ahead s c w at.Rest = on_rest c w
ahead s c w (at.Stmt n stmt) = from_stmt c.env n (stmt_at stmt) (remainder_of w) (on_rest c w)
ahead s c w (at.Stmts n ss) = from_stmts c.env n (stmts_left ss) (remainder_of w) (on_rest c w)
ahead s c w (at.Writes items newline) = from_writes c (actuals_left items) newline (remainder_of w) (on_rest c w)
ahead s c w (at.Reads items skip) = from_reads c (actuals_left items) skip (remainder_of w) (on_rest c w)
ahead s c w (at.Item a) = from_item c (actual_view a.now) (remainder_of w)
ahead s c w (at.Value v) = from_value c (awaits_of w) (value_view v)
ahead s c w (at.Expr e) = from_expr c (expr_view e.now) (awaits_of w) (from_value c (awaits_of w))
ahead s c w (at.Simple t) = from_simple c (simple_view t.now) (awaits_of w) (from_value c (awaits_of w))
ahead s c w (at.Summands v rest) = from_summands c (value_view v) (summands_view rest.now) (awaits_of w) (from_value c (awaits_of w))
ahead s c w (at.Term t) = from_term c (term_view t.now) (awaits_of w) (from_value c (awaits_of w))
ahead s c w (at.Multipliers v rest) = from_multipliers c (value_view v) (multipliers_view rest.now) (awaits_of w) (from_value c (awaits_of w))
ahead s c w (at.Factor f) = from_factor c (factor_view f.now) (awaits_of w) (from_value c (awaits_of w))
ahead s c w (at.Part spot es ss goal) =
    from_indices c (typed_spot_view spot) (exprs_view es.now) (selectors_view ss.now) (goal_over w goal)
    (λ t. from_selectors c t (selectors_view ss.now) (goal_over w goal) (from_location c (goal_over w goal)))
ahead s c w (at.Passing p) = from_args c p.formals.now (actuals_left p.rest) (given_view p.given.items) (callee_view w p.callee)
ahead s c w (at.Alternatives choosing) = from_alternatives c (rest_view choosing.value) (select_view choosing.value.select) (remainder_of w)
ahead s c w (at.Replicated choosing) =
    from_replica c (alternative_view choosing.value.current).replica (alternative_view choosing.value.current) (rest_view choosing.value)
    (select_view choosing.value.select) (remainder_of w) (λ t. from_alternatives c (rest_view choosing.value) t (remainder_of w))
ahead s c w (at.Guarded choosing) =
    from_guard c (alternative_view choosing.value.current).guard (alternative_view choosing.value.current) (rest_view choosing.value)
    (select_view choosing.value.select) (remainder_of w) (λ t. from_alternatives c (rest_view choosing.value) t (remainder_of w))
ahead s c w (at.Opened choosing) =
    from_comm c (alternative_view choosing.value.current).comm (alternative_view choosing.value.current) (rest_view choosing.value)
    (select_view choosing.value.select) (remainder_of w) (λ t. from_alternatives c (rest_view choosing.value) t (remainder_of w))
ahead s c w (at.Deed deed) = deed_ahead s c w deed

-- a step comes to other at hand, perhaps over one more that is pending
abbrev pub step_ahead : Tables → Context → Waiting → Step → Action
step_ahead s c w (to.On a) = ahead s c w a
step_ahead s c w (to.Under p a) = ahead s c (over s w p) a

-- the same in a statement, which has a line
abbrev pub begun_ahead : Tables → Env → Waiting → Begun → Action
begun_ahead s env w b = step_ahead s (context env b.line) w b.step
