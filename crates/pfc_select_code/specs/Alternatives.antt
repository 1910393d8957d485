-- The alternatives of a select before their branches are put: each leads to the address 0.
use Rattle.std.specs.Prelude.{ℕ, ◌+◌, ◌-◌, List, [], ◌∷◌, Option, Some, None}
use Rattle.pfc_code.specs.declared.instructions.Instr.TheVariants.{ARMS, ARMR, ARMA, ARMT, ARMX}
use Rattle.pfc_tree.specs.declared.tree.Spread.{Spread}
use Rattle.pfc_tree.specs.trees.Exprs.{ExprTree, DesigTree}
use Rattle.pfc_tree.specs.trees.Stmts.{AcceptTree, CommTree, AltTree, alt, comm_accept, comm_send, comm_receive, timeout, terminate}
use Rattle.pfc_semantics.specs.Remainders.{Replica, Alternative}
use Rattle.pfc_semantics.specs.Alternatives.{message_of, receiver_of}
use Rattle.pfc_translation.specs.Sites.{Site, context_of}
use Rattle.pfc_translation.specs.Codes.{Code, nothing, ◌⨾◌, one}
use Rattle.pfc_translation.specs.Expressions.{expr_code, object_code}
use Rattle.pfc_translation.specs.Selects.{message_code, message_cells, receiver_code, receiver_cells, entry_of, accept_cell, accept_cells, replica_code}
use Rattle.pfc_translation.specs.Selects.{guarded_code}
use Rattle.pfc_translation.specs.Statements.{spread_replicas}

-- what an alternative waits for, and its ARM
abbrev pub open_accept : Site → ℕ → AcceptTree → Code
open_accept s n a = one s (ARMA (entry_of s a) (accept_cell s n) (accept_cells s n) 0)

abbrev pub open_send : Site → DesigTree → ExprTree → Code
open_send s d e = let m = message_of (context_of s) e in object_code s d ⨾ message_code s m ⨾ one s (ARMS (message_cells s m) 0)

abbrev pub open_receive : Site → DesigTree → DesigTree → Code
open_receive s d v = let r = receiver_of (context_of s) v in object_code s d ⨾ receiver_code s r ⨾ one s (ARMR (receiver_cells s r) 0)

abbrev pub open_timeout : Site → ExprTree → Code
open_timeout s e = expr_code s e ⨾ one s (ARMT 0)

abbrev pub open_comm : Site → ℕ → CommTree → Code
open_comm s n (comm_accept a p) = open_accept s n a
open_comm s n (comm_send d e p) = open_send s d e
open_comm s n (comm_receive d v p) = open_receive s d v
open_comm s n (timeout e p) = open_timeout s e
open_comm s n (terminate p) = one s ARMX

-- one with this guard, at this value of its variable, where it is replicated
abbrev pub open_one : Site → ℕ → Option ExprTree → CommTree → Option Replica → Code
open_one s n guard comm replica = replica_code s replica ⨾ guarded_code s guard (open_comm s n comm)

abbrev pub open_alternative : Site → Alternative → Code
open_alternative s a = open_one s a.next a.guard a.comm a.replica

abbrev pub open_alternatives : Site → List Alternative → Code
open_alternatives s [] = nothing
open_alternatives s (a ∷ rest) = open_alternative s a ⨾ open_alternatives s rest

-- ## Where the ARMs stand

-- the address of an ARM that leads to a branch: `terminate` has none
abbrev pub arm_place : CommTree → ℕ → Option ℕ
arm_place (comm_accept a p) at = Some at
arm_place (comm_send d e p) at = Some at
arm_place (comm_receive d v p) at = Some at
arm_place (timeout e p) at = Some at
arm_place (terminate p) at = None

-- those of all alternatives, the first of which begins at an address: each is the last instruction of its alternative
abbrev pub arm_places : Site → ℕ → List Alternative → List (Option ℕ)
arm_places s at [] = []
arm_places s at (a ∷ rest) = let end = at + (open_alternative s a).size in arm_place a.comm (end - 1) ∷ arm_places s end rest

-- ## One alternative of the text

-- one for each value of its variable
abbrev pub open_each : Site → ℕ → Option ExprTree → CommTree → List Replica → Code
open_each s n guard comm [] = nothing
open_each s n guard comm (r ∷ rs) = open_one s n guard comm (Some r) ⨾ open_each s n guard comm rs

abbrev pub each_places : Site → ℕ → ℕ → Option ExprTree → CommTree → List Replica → List (Option ℕ)
each_places s at n guard comm [] = []
each_places s at n guard comm (r ∷ rs) =
    let end = at + (open_one s n guard comm (Some r)).size in arm_place comm (end - 1) ∷ each_places s end n guard comm rs

abbrev pub open_spread : Site → ℕ → Option Spread → Option ExprTree → CommTree → Code
open_spread s n None guard comm = open_one s n guard comm None
open_spread s n (Some spread) guard comm = open_each s n guard comm (spread_replicas s (Some spread))

abbrev pub spread_places : Site → ℕ → ℕ → Option Spread → Option ExprTree → CommTree → List (Option ℕ)
spread_places s at n None guard comm = arm_place comm (at + (open_one s n guard comm None).size - 1) ∷ []
spread_places s at n (Some spread) guard comm = each_places s at n guard comm (spread_replicas s (Some spread))

abbrev pub open_alt : Site → ℕ → AltTree → Code
open_alt s n (alt spread guard comm ss) = open_spread s n spread guard comm

abbrev pub alt_places : Site → ℕ → ℕ → AltTree → List (Option ℕ)
alt_places s at n (alt spread guard comm ss) = spread_places s at n spread guard comm
