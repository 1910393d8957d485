-- The forms of statements, over the code of the statements in them. Each has the line of the place where it stands.
use Rattle.std.specs.Prelude.{ℕ, ◌+◌, Bool, true, false, if◌then◌else◌, Some, None}
use Rattle.pfc_code.specs.declared.instructions.Instr.TheVariants.{NOT, JMP, JF, TURN, FORB, FORW, FORT, CERR, EACC}
use Rattle.pfc_tree.specs.Symbols.{Text}
use Rattle.pfc_tree.specs.trees.Exprs.{ExprTree}
use Rattle.pfc_tree.specs.trees.Stmts as trees
use Rattle.pfc_tree.specs.trees.Stmts.{StmtTree, StmtTrees, ArmTrees, AcceptTree, AltTrees}
use Rattle.pfc_types.specs.rules.Expressions.{find}
use Rattle.pfc_types.specs.rules.Statements.{alts_scopes}
use Rattle.pfc_semantics.specs.Expressions.{spot_of}
use Rattle.pfc_semantics.specs.Alternatives.{alternatives}
use Rattle.pfc_translation.specs.Sites.{Site, context_of}
use Rattle.pfc_translation.specs.Codes.{Code, nothing, ◌⨾◌, one, over, back}
use Rattle.pfc_translation.specs.Addresses.{base_code}
use Rattle.pfc_translation.specs.Expressions.{expr_code}
use Rattle.pfc_translation.specs.Selects.{accept_code}
use Rattle.pfc_translation.specs.Statements.{tests_code, arms_code, accepted_code, branches_code, distances, select_code, stmts_code}

abbrev pub if_then : Site → ExprTree → Code → Code
if_then c e inner = expr_code c e ⨾ over c JF inner.size ⨾ inner

abbrev pub if_then_else : Site → ExprTree → Code → Code → Code
if_then_else c e inner other = expr_code c e ⨾ over c JF (inner.size + 1) ⨾ inner ⨾ over c JMP other.size ⨾ other

-- the first of these, up to the second jump
abbrev pub first_choice : Site → ExprTree → Code → Code
first_choice c e inner = expr_code c e ⨾ over c JF (inner.size + 1) ⨾ inner

abbrev pub while_do : Site → ExprTree → Code → Code
while_do c e inner =
    expr_code c e ⨾ over c JF (inner.size + 1) ⨾ inner ⨾ back c TURN ((expr_code c e).size + 1 + inner.size)

abbrev pub repeat_until : Site → Code → ExprTree → Code
repeat_until c inner e =
    inner ⨾ expr_code c e ⨾ one c NOT ⨾ over c JF 1 ⨾ back c TURN (inner.size + (expr_code c e).size + 2)

abbrev pub repeat_forever : Site → Code → Code
repeat_forever c inner = inner ⨾ back c TURN inner.size

-- the address of the variable, and the bounds
abbrev pub range : Site → Text → ExprTree → ExprTree → Code
range c x a b = base_code c (spot_of c.env (find c.env x)).spot ⨾ expr_code c a ⨾ expr_code c b

abbrev pub direction : Bool → ℕ
direction down = if down then 1 else 0

abbrev pub for_do : Site → Text → ExprTree → Bool → ExprTree → Code → Code
for_do c x a down b inner =
    base_code c (spot_of c.env (find c.env x)).spot ⨾ expr_code c a ⨾ expr_code c b
    ⨾ over c (λ at. FORB (direction down) at) (inner.size + 2) ⨾ one c FORW ⨾ inner
    ⨾ back c (λ at. FORT (direction down) at) (inner.size + 1)

abbrev pub case_of : Site → ℕ → ExprTree → ArmTrees → Code
case_of c n e arms = expr_code c e ⨾ tests_code c n 0 arms ⨾ one c CERR ⨾ arms_code c n arms

abbrev pub accepting : Site → ℕ → AcceptTree → Code
accepting c n a = accept_code c n a ⨾ accepted_code c n a ⨾ one c EACC

abbrev pub select : Site → ℕ → Bool → AltTrees → Code
select c n pri alts =
    select_code c pri (alternatives (context_of c) n alts) (distances c n 0 alts) (branches_code c n alts 0) None nothing

abbrev pub select_else : Site → ℕ → Bool → AltTrees → StmtTrees → Code
select_else c n pri alts ss =
    let otherwise = stmts_code c (n + alts_scopes alts) ss in
    let branches = branches_code c n alts otherwise.size in
    select_code c pri (alternatives (context_of c) n alts) (distances c n 0 alts) branches (Some branches.size) otherwise

-- whether a statement is a select with an else part
abbrev pub is_else : StmtTree → Bool
is_else (trees.select_else pri alts ss at p q) = true
is_else t = false
