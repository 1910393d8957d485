-- The code of communication, of accepts, and of the alternatives of a select up to its decision.
use Rattle.std.specs.Prelude.{ℕ, ◌+◌, List, [], ◌∷◌, take, drop, Option, Some, None}
use Rattle.pfc_code.specs.declared.instructions.Instr.TheVariants.{LIT, STORE, JF, SEND, RECV, ACC, ARMS, ARMR, ARMA, ARMT, ARMX}
use Rattle.pfc_tree.specs.trees.Exprs.{ExprTree, DesigTree}
use Rattle.pfc_tree.specs.trees.Stmts.{AcceptTree, CommTree, accept, accept_do, comm_accept, comm_send, comm_receive, timeout, terminate}
use Rattle.pfc_types.specs.Scopes.{scope_at, meaning_of}
use Rattle.pfc_types.specs.rules.Expressions.{find, expr_type, desig_type}
use Rattle.pfc_types.specs.rules.Declarations.{scope_cells}
use Rattle.pfc_semantics.specs.Programs.{layout_cells}
use Rattle.pfc_semantics.specs.Remainders.{Replica, Alternative}
use Rattle.pfc_semantics.specs.Alternatives.{entry_number, message_of, receiver_of}
use Rattle.pfc_translation.specs.Sites.{Site, context_of, forms_of, blocks_of, type_cells, before_accept}
use Rattle.pfc_translation.specs.Codes.{Code, nothing, ◌⨾◌, one, over}
use Rattle.pfc_translation.specs.Addresses.{base_code}
use Rattle.pfc_translation.specs.Expressions.{expr_code, desig_code, object_code}

-- ## Communication

-- The operands of a send: the channel as an object, and the message; for `any` only the object. Its cells are 0 for `any`.
abbrev pub message_code : Site → Option ExprTree → Code
message_code s None = nothing
message_code s (Some e) = expr_code s e

abbrev pub message_cells : Site → Option ExprTree → ℕ
message_cells s None = 0
message_cells s (Some e) = type_cells (forms_of s) (expr_type s.env e)

-- The operands of a receive: the channel as an object, and the variable's address; for `any` only the object.
abbrev pub receiver_code : Site → Option DesigTree → Code
receiver_code s None = nothing
receiver_code s (Some d) = desig_code s d

abbrev pub receiver_cells : Site → Option DesigTree → ℕ
receiver_cells s None = 0
receiver_cells s (Some d) = type_cells (forms_of s) (desig_type s.env d)

-- `c ! e`: object, e, SEND z
abbrev pub send_code : Site → DesigTree → ExprTree → Code
send_code s d e = let m = message_of (context_of s) e in object_code s d ⨾ message_code s m ⨾ one s (SEND (message_cells s m))

-- `c ? v`: object, address, RECV z
abbrev pub receive_code : Site → DesigTree → DesigTree → Code
receive_code s d v = let r = receiver_of (context_of s) v in object_code s d ⨾ receiver_code s r ⨾ one s (RECV (receiver_cells s r))

-- ## Accepts

-- An accept whose parameters have the scope n: the number of its entry, the cell of the first parameter, and their cells. Where it has none,
-- the cell is the number of cells that are laid out before it.
abbrev pub entry_of : Site → AcceptTree → ℕ
entry_of s (accept x gs p) = entry_number (meaning_of (find s.env x))
entry_of s (accept_do x gs t p) = entry_number (meaning_of (find s.env x))

abbrev pub accept_cell : Site → ℕ → ℕ
accept_cell s n = layout_cells (forms_of s) (take (before_accept s n) s.block.layout)

abbrev pub accept_cells : Site → ℕ → ℕ
accept_cells s n = scope_cells (forms_of s) (scope_at (blocks_of s).scopes n)

abbrev pub accept_code : Site → ℕ → AcceptTree → Code
accept_code s n a = one s (ACC (entry_of s a) (accept_cell s n) (accept_cells s n))

-- ## Alternatives

-- a replicated alternative writes its variable: address, LIT v, STORE 1
abbrev pub replica_code : Site → Option Replica → Code
replica_code s None = nothing
replica_code s (Some r) = base_code s r.at ⨾ one s (LIT r.value) ⨾ one s (STORE 1)

-- The operands of an alternative, and its ARM. Its branch begins so many instructions behind it.
abbrev pub comm_code : Site → ℕ → CommTree → ℕ → Code
comm_code s n (comm_accept a p) branch = over s (λ at. ARMA (entry_of s a) (accept_cell s n) (accept_cells s n) at) branch
comm_code s n (comm_send d e p) branch =
    let m = message_of (context_of s) e in object_code s d ⨾ message_code s m ⨾ over s (λ at. ARMS (message_cells s m) at) branch
comm_code s n (comm_receive d v p) branch =
    let r = receiver_of (context_of s) v in object_code s d ⨾ receiver_code s r ⨾ over s (λ at. ARMR (receiver_cells s r) at) branch
comm_code s n (timeout e p) branch = expr_code s e ⨾ over s ARMT branch
comm_code s n (terminate p) branch = one s ARMX

-- with a guard: the guard, JF to what stands behind, the alternative
abbrev pub guarded_code : Site → Option ExprTree → Code → Code
guarded_code s None inner = inner
guarded_code s (Some e) inner = expr_code s e ⨾ over s JF inner.size ⨾ inner

abbrev pub alternative_code : Site → Alternative → ℕ → Code
alternative_code s a branch = replica_code s a.replica ⨾ guarded_code s a.guard (comm_code s a.next a.comm branch)

-- All alternatives, each value of a replicated one apart, in the order of the text. The distance of each one's branch from the first branch
-- is given; between these and the first branch stands the `SEL`.
abbrev pub first_of : List ℕ → ℕ
first_of [] = 0
first_of (n ∷ ns) = n

abbrev pub alternatives_code : Site → List Alternative → List ℕ → Code
alternatives_code s [] branches = nothing
alternatives_code s (a ∷ rest) branches =
    let behind = alternatives_code s rest (drop 1 branches) in
    alternative_code s a (behind.size + 1 + first_of branches) ⨾ behind
