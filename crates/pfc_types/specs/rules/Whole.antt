-- The whole tree: its table of types, its scopes, the rules that are broken in it, and the first of them.
use Rattle.std.specs.Prelude.{ℕ, ◌+◌, false, List, [], sum_by, Option, None}
use Rattle.pfc_base.specs.declared.faults.Refusal.{Refusal}
use Rattle.pfc_tree.specs.trees.Parts.{ProgramTree}
use Rattle.pfc_types.specs.Faults.{Faults, ◌⨾◌, listed, all_of, least_from}
use Rattle.pfc_types.specs.Types.{Forms, predeclared_forms}
use Rattle.pfc_types.specs.Scopes.{scope_at, here}
use Rattle.pfc_types.specs.Blocks.{State, Blocks, no_blocks, open_scope, note}
use Rattle.pfc_types.specs.rules.Declarations.{in_program, parts_state, body_state, cells_rule, scope_cells}
use Rattle.pfc_types.specs.rules.Statements.{broken_body}
use Rattle.pfc_types.specs.rules.Bodies.{env_at, around_main, broken_parts, parts_scopes}

-- ## What the declarations make

-- before the first declaration: the predeclared types, and the program's own scope, which is empty
abbrev pub begun : State
begun = open_scope (record { forms = predeclared_forms; blocks = no_blocks })

abbrev pub declared_parts : ProgramTree → State
declared_parts t = parts_state in_program begun 0 [] t.parts

abbrev pub declared_all : ProgramTree → State
declared_all t = let s = declared_parts t in body_state s (here s.blocks.scopes 0 []) t.body

-- 304: main's block holds the variables of the program, of monitors and of resources, and one cell for each single process; at the
-- program's name
abbrev pub main_cells : State → ℕ
main_cells s = scope_cells s.forms (scope_at s.blocks.scopes 0) + sum_by (λ m. scope_cells s.forms (scope_at s.blocks.scopes m.scope)) s.blocks.modules

abbrev pub finished : ProgramTree → State
finished t = let s = declared_all t in note s (cells_rule (main_cells s) t.name.1)

-- the table of types of a tree, also of a faulty one
abbrev pub types_of : ProgramTree → Forms
types_of t = (finished t).forms

-- the scopes of a tree with the headings, also of a faulty one
abbrev pub scopes_of : ProgramTree → Blocks
scopes_of t = (finished t).blocks

-- ## What is broken

-- the rules that are broken in the bodies, over finished declarations
abbrev pub broken_bodies : State → ProgramTree → Faults
broken_bodies s t =
    broken_parts s false 0 0 [] 1 t.parts
    ⨾ broken_body (env_at s (here s.blocks.scopes 0 []) around_main) (1 + parts_scopes t.parts) t.body

-- all rules that are broken: those noted in the declarations, and those of the bodies
abbrev pub faults_in : State → ProgramTree → Faults
faults_in s t = all_of s.blocks.noted ⨾ broken_bodies s t

abbrev pub faults_of : ProgramTree → Faults
faults_of t = faults_in (finished t) t

-- the list of them, each with its place and its code
abbrev pub broken : ProgramTree → List Refusal
broken t = listed (faults_of t)

-- the first in the text, and at one place the lowest code
abbrev pub first_fault : ProgramTree → Option Refusal
first_fault t = least_from 0 None (faults_of t)

-- the first among the rules of concurrency, which are 401 to 425
abbrev pub first_concurrency_fault : ProgramTree → Option Refusal
first_concurrency_fault t = least_from 401 None (faults_of t)
