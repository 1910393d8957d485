-- Declarations: the table of types, the scopes and the headings that a tree makes, and the rules broken in them.
--
-- The whole is a walk in the order of the text over a state that grows. A rule that is broken in a declaration is noted in the
-- state at once, so that the finished state holds all of them. Of statements the walk visits only those that declare or that
-- compare what they list: the accepts, which open scopes, and the labels of each `case`.
use Rattle.std.specs.Prelude.{ℕ, ◌+◌, ◌-◌, Bool, true, false, not, ◌&&◌, ◌||◌, ◌==◌, if◌then◌else◌, nat_lt, nat_le, List, [], ◌∷◌, ◌++◌, length, drop, sum_by}
use Rattle.std.specs.Prelude.{Option, Some, None, is_some}
use Rattle.std.specs.List.{list_any}
use Rattle.pfc_base.specs.declared.places.Place.{Place}
use Rattle.pfc_tree.specs.Symbols.{Text}
use Rattle.pfc_tree.specs.declared.tree.Constant.{Constant}
use Rattle.pfc_tree.specs.declared.tree.ConstItem.{ConstItem}
use Rattle.pfc_tree.specs.trees.Types.{VarTree, VarTrees, TypeItemTree, GroupTree, var_item, no_vars, more_vars}
use Rattle.pfc_tree.specs.trees.Stmts.{StmtTree, StmtTrees, BodyTree, ArmTree, ArmTrees, AcceptTree, AltTree, AltTrees, CommTree, empty, null, block, if_then}
use Rattle.pfc_tree.specs.trees.Stmts.{if_then_else, case_of, while_do, repeat_until, repeat_forever, for_do, cobegin, accepting, requeue, select, select_else}
use Rattle.pfc_tree.specs.trees.Stmts.{assign, send, receive, call, no_stmts, more_stmts, body, arm, no_arms, more_arms, accept, accept_do, alt, no_alts}
use Rattle.pfc_tree.specs.trees.Stmts.{more_alts, comm_accept, comm_send, comm_receive, timeout, terminate}
use Rattle.pfc_tree.specs.trees.Parts.{KindTree, EntryTree, PartTree, PartTrees, SubTree, ModuleTree, ProcessTree, procedure, function, guarded, consts, types}
use Rattle.pfc_tree.specs.trees.Parts.{vars, sub_part, monitor, resource, process_part, no_parts, more_parts, sub, the_module, process}
use Rattle.pfc_types.specs.Faults.{Faults, none, ◌⨾◌, unless}
use Rattle.pfc_types.specs.Types.{Forms, is_simple, is_object, held_of, most_processes, cells_in}
use Rattle.pfc_types.specs.Scopes.{Names, Level, scope_at, here, meaning_in, look}
use Rattle.pfc_types.specs.Blocks.{State, Blocks, declare, note, open_scope, add_sub, add_module, add_process, add_entry, add_form, export_sub, set_population}
use Rattle.pfc_types.specs.Blocks.{sub_at, entry_at}
use Rattle.pfc_types.specs.declared.types.TypeId.{TypeId}
use Rattle.pfc_types.specs.declared.types.TypeForm.TheVariants.{Process as AProcess}
use Rattle.pfc_types.specs.declared.scope.Meaning.{Meaning}
use Rattle.pfc_types.specs.declared.scope.Meaning.TheVariants.{Constant as AConstant, Named, Variable, Sub, Module, Process, Entry, Faulty}
use Rattle.pfc_types.specs.declared.heads.Formal.{Formal}
use Rattle.pfc_types.specs.declared.heads.SubHead.{SubHead}
use Rattle.pfc_types.specs.declared.heads.ProcessHead.{ProcessHead}
use Rattle.pfc_types.specs.declared.heads.SubSort.{SubSort}
use Rattle.pfc_types.specs.declared.heads.SubSort.TheVariants.{Procedure, Guarded, Function}
use Rattle.pfc_types.specs.rules.Kinds.{where_so, may_be_simple, may_agree, type_name_rules, named_type, type_meaning, variable_meaning}
use Rattle.pfc_types.specs.rules.Constants.{Ordinal, same_ordinal, constant_value, constant_place, broken_constant, made, type_place}

-- ## Constants

-- a constant's name, or a faulty one
abbrev pub constant_meaning : Option Ordinal → Meaning
constant_meaning None = Faulty
constant_meaning (Some c) = AConstant c.t c.value

-- a = 1; its name is in view behind it
abbrev pub const_state : State → ℕ → List Level → ConstItem → State
const_state s i outer c =
    let view = here s.blocks.scopes i outer in
    declare (note s (broken_constant s.blocks.scopes view c.value)) i (c.name, c.place) (constant_meaning (constant_value s.blocks.scopes view c.value))

abbrev pub consts_state : State → ℕ → List Level → List ConstItem → State
consts_state s i outer [] = s
consts_state s i outer (c ∷ cs) = consts_state (const_state s i outer c) i outer cs

-- ## Types

-- t = integer; its name stands for the type that is made
abbrev pub type_state : State → ℕ → List Level → TypeItemTree → State
type_state s i outer d =
    let m = made false s (here s.blocks.scopes i outer) d.form in declare m.state i (d.name, d.place) (type_meaning m.t)

abbrev pub types_state : State → ℕ → List Level → List TypeItemTree → State
types_state s i outer [] = s
types_state s i outer (d ∷ ds) = types_state (type_state s i outer d) i outer ds

-- ## Variables

-- where a `var` part stands: directly in the program, directly in a monitor, or in any other block
pub data Owner : Type 0 where
  in_program : Owner
  in_monitor : Owner
  elsewhere : Owner

-- 404: semaphores, channels and processes stand only among the program's variables
abbrev pub may_share : Owner → Bool
may_share in_program = true
may_share in_monitor = false
may_share elsewhere = false

-- 405: conditions stand only among a monitor's variables
abbrev pub may_wait : Owner → Bool
may_wait in_program = false
may_wait in_monitor = true
may_wait elsewhere = false

abbrev pub holds_shared : Forms → TypeId → Bool
holds_shared forms t = (held_of forms t).shared || nat_lt 0 (held_of forms t).processes

abbrev pub holds_condition : Forms → TypeId → Bool
holds_condition forms t = (held_of forms t).conditions

abbrev pub shared_fits : Owner → Forms → TypeId → Bool
shared_fits owner forms t = may_share owner || not (holds_shared forms t)

abbrev pub condition_fits : Owner → Forms → TypeId → Bool
condition_fits owner forms t = may_wait owner || not (holds_condition forms t)

-- both rules ask for the variable's whole type, at its first token
abbrev pub owner_rules : Owner → Forms → Option TypeId → Place → Faults
owner_rules owner forms None p = none
owner_rules owner forms (Some t) p = unless (shared_fits owner forms t) p 404 ⨾ unless (condition_fits owner forms t) p 405

abbrev pub owned_type : Owner → Forms → Option TypeId → Option TypeId
owned_type owner forms None = None
owned_type owner forms (Some t) = where_so (shared_fits owner forms t && condition_fits owner forms t) t

-- 424: at most 1,023 processes beside main; at the first name with which there are more
abbrev pub passes_most : ℕ → ℕ → Bool
passes_most before more = nat_le before 1023 && nat_lt 1023 (before + more)

-- A name that brings in processes. The one that passes the limit is faulty; they are counted up to 1,024.
abbrev pub populated : State → ℕ → ℕ → Text × Place → Meaning → State
populated s i more x m =
    if passes_most s.blocks.population more
    then declare (note (set_population s (most_processes (s.blocks.population + more))) (unless false x.1 424)) i x Faulty
    else declare (set_population s (most_processes (s.blocks.population + more))) i x m

-- how many processes a variable brings in
abbrev pub brought : Forms → Option TypeId → ℕ
brought forms None = 0
brought forms (Some t) = (held_of forms t).processes

-- A repeated name brings in none.
abbrev pub var_name_state : State → ℕ → Option TypeId → Text × Place → State
var_name_state s i t x =
    if is_some (meaning_in (scope_at s.blocks.scopes i) x.0)
    then declare s i x Faulty
    else populated s i (brought s.forms t) x (variable_meaning false t)

abbrev pub var_names_state : State → ℕ → Option TypeId → List (Text × Place) → State
var_names_state s i t [] = s
var_names_state s i t (x ∷ xs) = var_names_state (var_name_state s i t x) i t xs

-- a, b: integer; where a rule is broken in the type, all the names are faulty
abbrev pub var_state : Owner → State → ℕ → List Level → VarTree → State
var_state owner s i outer (var_item xs t) =
    let m = made false s (here s.blocks.scopes i outer) t in
    var_names_state (note m.state (owner_rules owner m.state.forms m.t (type_place t))) i (owned_type owner m.state.forms m.t) xs

abbrev pub vars_state : Owner → State → ℕ → List Level → VarTrees → State
vars_state owner s i outer no_vars = s
vars_state owner s i outer (more_vars v vs) = vars_state owner (var_state owner s i outer v) i outer vs

-- ## Headings

-- 406: object types are passed by reference only; at the type's name
abbrev pub passed_fits : Bool → Forms → TypeId → Bool
passed_fits reference forms t = reference || not (is_object forms t)

-- 407: no parameter holds a condition or a process; at the type's name
abbrev pub parameter_fits : Forms → TypeId → Bool
parameter_fits forms t = not (holds_condition forms t) && (held_of forms t).processes == 0

abbrev pub parameter_rules : Bool → Forms → Option TypeId → Place → Faults
parameter_rules reference forms None p = none
parameter_rules reference forms (Some t) p = unless (passed_fits reference forms t) p 406 ⨾ unless (parameter_fits forms t) p 407

abbrev pub parameter_type : Bool → Forms → Option TypeId → Option TypeId
parameter_type reference forms None = None
parameter_type reference forms (Some t) = where_so (passed_fits reference forms t && parameter_fits forms t) t

-- the type of a group of parameters, None where a rule is broken in it
abbrev pub group_type : State → List Level → GroupTree → Option TypeId
group_type s view g = parameter_type g.reference s.forms (named_type false (look s.blocks.scopes view g.form.0))

abbrev pub broken_group : State → List Level → GroupTree → Faults
broken_group s view g =
    type_name_rules false (look s.blocks.scopes view g.form.0) g.form.1
    ⨾ parameter_rules g.reference s.forms (named_type false (look s.blocks.scopes view g.form.0)) g.form.1

-- a heading so far: the parameters as they are written, and whether no rule is broken in it
pub record Heading : Type 0 where
  pub state : State
  pub formals : List Formal
  pub whole : Bool

-- One parameter, declared in the scope i. Where its name is repeated (302), the heading is faulty.
abbrev pub formal_heading : ℕ → Bool → Option TypeId → Heading → Text × Place → Heading
formal_heading i reference t h x =
    record {
      state = declare h.state i x (variable_meaning reference t);
      formals = h.formals ++ record { t = t; reference = reference } ∷ [];
      whole = h.whole && not (is_some (meaning_in (scope_at h.state.blocks.scopes i) x.0));
    }

abbrev pub formals_heading : ℕ → Bool → Option TypeId → Heading → List (Text × Place) → Heading
formals_heading i reference t h [] = h
formals_heading i reference t h (x ∷ xs) = formals_heading i reference t (formal_heading i reference t h x) xs

-- var a, b: integer, declared in the scope i; the name of the type is looked up in this view
abbrev pub group_viewed : ℕ → List Level → Heading → GroupTree → Heading
group_viewed i view h g =
    let t = group_type h.state view g in
    formals_heading i g.reference t (record { state = note h.state (broken_group h.state view g); formals = h.formals; whole = h.whole && is_some t }) g.names

-- The parameters of earlier groups are in view in the type of a later one.
abbrev pub group_heading : ℕ → List Level → Heading → GroupTree → Heading
group_heading i outer h g = group_viewed i (here h.state.blocks.scopes i outer) h g

abbrev pub groups_heading : ℕ → List Level → Heading → List GroupTree → Heading
groups_heading i outer h [] = h
groups_heading i outer h (g ∷ gs) = groups_heading i outer (group_heading i outer h g) gs

-- the parameters of a block, whose scope i is open and empty
abbrev pub heading : State → ℕ → List Level → List GroupTree → Heading
heading s i outer gs = groups_heading i outer (record { state = s; formals = []; whole = true }) gs

-- ## Entries

-- The parameters of an entry are in view nowhere; their names still differ (302).
pub record EntryHeading : Type 0 where
  pub state : State
  -- their names so far
  pub own : Names
  pub formals : List Formal
  pub whole : Bool

abbrev pub entry_formal : Bool → Option TypeId → EntryHeading → Text × Place → EntryHeading
entry_formal reference t h x =
    let fresh = not (is_some (meaning_in h.own x.0)) in
    record {
      state = note h.state (unless fresh x.1 302);
      own = if fresh then h.own ++ (x.0, variable_meaning reference t) ∷ [] else h.own;
      formals = h.formals ++ record { t = t; reference = reference } ∷ [];
      whole = h.whole && fresh;
    }

abbrev pub entry_formals : Bool → Option TypeId → EntryHeading → List (Text × Place) → EntryHeading
entry_formals reference t h [] = h
entry_formals reference t h (x ∷ xs) = entry_formals reference t (entry_formal reference t h x) xs

abbrev pub entry_group : List Level → EntryHeading → GroupTree → EntryHeading
entry_group view h g =
    let t = group_type h.state view g in
    entry_formals g.reference t (record h { state = note h.state (broken_group h.state view g); whole = h.whole && is_some t }) g.names

abbrev pub entry_groups : List Level → EntryHeading → List GroupTree → EntryHeading
entry_groups view h [] = h
entry_groups view h (g ∷ gs) = entry_groups view (entry_group view h g) gs

-- entry e (n: integer); the k-th of its process, whose scope is i; its name is in view behind it
abbrev pub entry_meaning : Bool → ℕ → Meaning
entry_meaning whole k = if whole then Entry k else Faulty

abbrev pub entry_state : State → ℕ → List Level → ℕ → EntryTree → State
entry_state s i outer k e =
    let h = entry_groups (here s.blocks.scopes i outer) (record { state = s; own = []; formals = []; whole = true }) e.formals in
    declare (add_entry h.state h.formals) i (e.name, e.place) (entry_meaning h.whole k)

abbrev pub entries_state : State → ℕ → List Level → ℕ → List EntryTree → State
entries_state s i outer k [] = s
entries_state s i outer k (e ∷ es) = entries_state (entry_state s i outer k e) i outer (k + 1) es

-- ## Cells of a block

-- A variable takes its type's cells, a reference and a single process one.
abbrev pub name_cells : Forms → Meaning → ℕ
name_cells forms (Variable t reference) = if reference then 1 else cells_in forms t
name_cells forms (Process n) = 1
name_cells forms m = 0

abbrev pub scope_cells : Forms → Names → ℕ
scope_cells forms names = sum_by (λ x. name_cells forms x.1) names

abbrev pub scopes_cells : Forms → List Names → ℕ
scopes_cells forms scopes = sum_by (λ names. scope_cells forms names) scopes

-- 304: the cells of one block are at most 65,536; at the block's name
abbrev pub cells_rule : ℕ → Place → Faults
cells_rule n p = unless (nat_le n 65536) p 304

-- A sub's block holds its parameters, its variables and a function's result.
abbrev pub result_cells : KindTree → ℕ
result_cells procedure = 0
result_cells (function x p) = 1
result_cells (guarded e p) = 0

-- ## Accepts and labels

-- 415: an accept lists the parameters of its entry: as many, of the same types, by value or by reference alike. A parameter
-- of a faulty type is not compared.
abbrev pub same_formal : Formal → Formal → Bool
same_formal a b = may_agree a.t b.t && (if a.reference then b.reference else not b.reference)

abbrev pub same_formals : List Formal → List Formal → Bool
same_formals [] [] = true
same_formals (a ∷ fs) (b ∷ gs) = same_formal a b && same_formals fs gs
same_formals fs gs = false

-- at the entry's name; a name that is no entry in view is 301 or 310, and a faulty one is not compared
abbrev pub accept_rule : Blocks → Option Meaning → List Formal → Place → Faults
accept_rule b (Some (Entry k)) formals p = unless (same_formals formals (entry_at b (length b.processes - 1) k)) p 415
accept_rule b m formals p = none

-- The parameters of an accept form a scope of their own, which is in view in its statement alone: the types of its groups, like
-- those of an entry's groups, are looked up without them.
abbrev pub accept_groups : ℕ → List Level → Heading → List GroupTree → Heading
accept_groups i view h [] = h
accept_groups i view h (g ∷ gs) = accept_groups i view (group_viewed i view h g) gs

abbrev pub accept_heading : State → ℕ → List Level → List GroupTree → Heading
accept_heading s i view gs = accept_groups i view (record { state = s; formals = []; whole = true }) gs

-- The process around, whose entries are in view, is the last so far.
abbrev pub accepted : State → List Level → Text → List GroupTree → Place → State
accepted s view x gs p =
    let h = accept_heading (open_scope s) (length s.blocks.scopes) view gs in
    note h.state (accept_rule h.state.blocks (look s.blocks.scopes view x) h.formals p)

-- the labels of one `case` so far
pub record Labels : Type 0 where
  pub state : State
  pub seen : List Ordinal

-- 320: the labels of one `case` differ in type or ordinal; at the second. A faulty label is not compared.
abbrev pub label_noted : Option Ordinal → Place → Labels → Labels
label_noted None p r = r
label_noted (Some c) p r =
    if list_any (same_ordinal c) r.seen
    then record r { state = note r.state (unless false p 320) }
    else record r { seen = r.seen ++ c ∷ [] }

abbrev pub labels_noted : List Level → Labels → List Constant → Labels
labels_noted view r [] = r
labels_noted view r (c ∷ cs) = labels_noted view (label_noted (constant_value r.state.blocks.scopes view c) (constant_place c) r) cs

-- The accepts and the labels in a statement.
abbrev mutual
  pub stmt_state : State → List Level → StmtTree → State
  stmt_state s view empty = s
  stmt_state s view (null p) = s
  stmt_state s view (block b p) = body_state s view b
  stmt_state s view (if_then e t p) = stmt_state s view t
  stmt_state s view (if_then_else e t u p) = stmt_state (stmt_state s view t) view u
  stmt_state s view (case_of e arms last p) = (arms_state view (record { state = s; seen = [] }) arms).state
  stmt_state s view (while_do e t p) = stmt_state s view t
  stmt_state s view (repeat_until ts e p) = stmts_state s view ts
  stmt_state s view (repeat_forever ts p) = stmts_state s view ts
  stmt_state s view (for_do x from down to t p q) = stmt_state s view t
  stmt_state s view (cobegin ts last p) = stmts_state s view ts
  stmt_state s view (accepting a p) = accept_state s view a
  stmt_state s view (requeue x args p) = s
  stmt_state s view (select pri alts p q) = alts_state s view alts
  stmt_state s view (select_else pri alts ts p q r) = stmts_state (alts_state s view alts) view ts
  stmt_state s view (assign d e p q) = s
  stmt_state s view (send d e p q) = s
  stmt_state s view (receive d v p q) = s
  stmt_state s view (call d args p) = s

  pub stmts_state : State → List Level → StmtTrees → State
  stmts_state s view no_stmts = s
  stmts_state s view (more_stmts t ts) = stmts_state (stmt_state s view t) view ts

  pub body_state : State → List Level → BodyTree → State
  body_state s view (body ts first last) = stmts_state s view ts

  pub arms_state : List Level → Labels → ArmTrees → Labels
  arms_state view r no_arms = r
  arms_state view r (more_arms a arms) = arms_state view (arm_state view r a) arms

  pub arm_state : List Level → Labels → ArmTree → Labels
  arm_state view r (arm cs t) =
      let l = labels_noted view r cs in record { state = stmt_state l.state view t; seen = l.seen }

  pub accept_state : State → List Level → AcceptTree → State
  accept_state s view (accept x gs p) = accepted s view x gs p
  accept_state s view (accept_do x gs t p) =
      let opened = accepted s view x gs p in
      stmt_state opened (here opened.blocks.scopes (length s.blocks.scopes) view) t

  pub alts_state : State → List Level → AltTrees → State
  alts_state s view no_alts = s
  alts_state s view (more_alts a alts) = alts_state (alt_state s view a) view alts

  pub alt_state : State → List Level → AltTree → State
  alt_state s view (alt spread guard c ts) = stmts_state (comm_state s view c) view ts

  pub comm_state : State → List Level → CommTree → State
  comm_state s view (comm_accept a p) = accept_state s view a
  comm_state s view (comm_send d e p) = s
  comm_state s view (comm_receive d v p) = s
  comm_state s view (timeout e p) = s
  comm_state s view (terminate p) = s

-- ## Subs

-- 323: a function's result is simple; at the type's name
abbrev pub broken_result : State → List Level → Text → Place → Faults
broken_result s view x p =
    let t = named_type false (look s.blocks.scopes view x) in
    type_name_rules false (look s.blocks.scopes view x) p ⨾ unless (may_be_simple t) p 323

abbrev pub result_type : Option TypeId → Option TypeId
result_type None = None
result_type (Some t) = where_so (is_simple t) t

abbrev pub broken_sort : State → List Level → KindTree → Faults
broken_sort s view procedure = none
broken_sort s view (function x p) = broken_result s view x p
broken_sort s view (guarded e p) = none

abbrev pub sort_of : State → List Level → KindTree → SubSort
sort_of s view procedure = Procedure
sort_of s view (function x p) = Function (result_type (named_type false (look s.blocks.scopes view x)))
sort_of s view (guarded e p) = Guarded

-- Of a sub only the parameters and the result type count as its declaration.
abbrev pub whole_sort : SubSort → Bool
whole_sort Procedure = true
whole_sort Guarded = true
whole_sort (Function t) = is_some t

abbrev pub sub_meaning : Bool → ℕ → Meaning
sub_meaning whole n = if whole then Sub n else Faulty

-- A sub up to the end of its heading: its own scope is open and holds its parameters, and its name is in view in the scope i.
abbrev pub sub_headed : State → ℕ → List Level → Text × Place → List GroupTree → KindTree → State
sub_headed s i outer x gs kind =
    let own = length s.blocks.scopes in
    let around = here s.blocks.scopes i outer in
    let h = heading (open_scope s) own around gs in
    let view = here h.state.blocks.scopes own around in
    let sort = sort_of h.state view kind in
    let head : SubHead = record { formals = h.formals; sort = sort; scope = own; exported = false } in
    declare (add_sub (note h.state (broken_sort h.state view kind)) head) i x (sub_meaning (h.whole && whole_sort sort) (length s.blocks.subs))

-- ## Modules

-- 409: an exported name is a procedure or a guarded procedure that the module declares, once; at the name. A faulty name breaks
-- no rule here, and only a sub that is exported is marked.
abbrev pub may_export : SubHead → Bool
may_export head = not head.exported && plain head.sort
  where
    plain : SubSort → Bool
    plain Procedure = true
    plain Guarded = true
    plain (Function t) = false

abbrev pub export_state : State → Option Meaning → Place → State
export_state s (Some (Sub n)) p = if may_export (sub_at s.blocks n) then export_sub s n else note s (unless false p 409)
export_state s (Some Faulty) p = s
export_state s m p = note s (unless false p 409)

abbrev pub export_list : State → ℕ → List (Text × Place) → State
export_list s i [] = s
export_list s i (x ∷ xs) = export_list (export_state s (meaning_in (scope_at s.blocks.scopes i) x.0) x.1) i xs

abbrev pub exports_state : State → ℕ → List (List (Text × Place)) → State
exports_state s i [] = s
exports_state s i (xs ∷ lists) = exports_state (export_list s i xs) i lists

-- A resource's variables are those of any other block: it is no monitor.
abbrev pub module_owner : Bool → Owner
module_owner is_resource = if is_resource then elsewhere else in_monitor

-- A module's name is in view behind it, and is never faulty. Its scope is own.
abbrev pub module_closed : Bool → State → ℕ → ℕ → Text × Place → List (List (Text × Place)) → State
module_closed is_resource s i own x exports =
    let t = exports_state s own exports in
    declare (add_module t (record { scope = own; resource = is_resource })) i x (Module (length s.blocks.modules))

abbrev pub init_state : State → List Level → Option BodyTree → State
init_state s view None = s
init_state s view (Some b) = body_state s view b

-- ## Processes

-- A process type is added to the table at its heading, where that is whole. A single process is no type, and is one of the
-- program's processes.
abbrev pub process_named : State → ℕ → Bool → Bool → Text × Place → ℕ → State
process_named s i many whole x n =
    if not whole
    then declare s i x Faulty
    else if many
    then declare (add_form s (AProcess n)) i x (Named (record { place = length s.forms }))
    else if is_some (meaning_in (scope_at s.blocks.scopes i) x.0)
    then declare s i x Faulty
    else populated s i 1 x (Process n)

-- A process up to the end of its heading: its own scope is open and holds its parameters, and its name is in view in the scope i.
abbrev pub process_headed : State → ℕ → List Level → Bool → Text × Place → List GroupTree → State
process_headed s i outer many x gs =
    let own = length s.blocks.scopes in
    let h = heading (open_scope s) own (here s.blocks.scopes i outer) gs in
    let head : ProcessHead = record { formals = h.formals; entries = length s.blocks.entries; scope = own } in
    process_named (add_process h.state head) i many h.whole x (length s.blocks.processes)

-- the cells of a process's block: its parameters, its variables, and the parameters of its own accepts, whose scopes are
-- those from number k on
abbrev pub process_cells : State → ℕ → ℕ → ℕ
process_cells s own k = scope_cells s.forms (scope_at s.blocks.scopes own) + scopes_cells s.forms (drop k s.blocks.scopes)

-- ## Parts

-- A part of the block whose scope is i. An own scope is opened before the parameters are declared, so the scopes stand in the
-- order of the text.
abbrev mutual
  pub part_state : Owner → State → ℕ → List Level → PartTree → State
  part_state owner s i outer (consts items) = consts_state s i outer items
  part_state owner s i outer (types items) = types_state s i outer items
  part_state owner s i outer (vars vs) = vars_state owner s i outer vs
  part_state owner s i outer (sub_part b) = sub_state s i outer b
  part_state owner s i outer (monitor m) = module_state false s i outer m
  part_state owner s i outer (resource m) = module_state true s i outer m
  part_state owner s i outer (process_part q) = process_state s i outer q

  pub parts_state : Owner → State → ℕ → List Level → PartTrees → State
  parts_state owner s i outer no_parts = s
  parts_state owner s i outer (more_parts q qs) = parts_state owner (part_state owner s i outer q) i outer qs

  pub sub_state : State → ℕ → List Level → SubTree → State
  sub_state s i outer (sub x gs kind ps b p) =
      let own = length s.blocks.scopes in
      let headed = sub_headed s i outer (x, p) gs kind in
      let around = here headed.blocks.scopes i outer in
      let declared = parts_state elsewhere headed own around ps in
      let done = body_state declared (here declared.blocks.scopes own around) b in
      note done (cells_rule (scope_cells done.forms (scope_at done.blocks.scopes own) + result_cells kind) p)

  pub module_state : Bool → State → ℕ → List Level → ModuleTree → State
  module_state is_resource s i outer (the_module x exports ps b last p) =
      let own = length s.blocks.scopes in
      let around = here s.blocks.scopes i outer in
      let declared = parts_state (module_owner is_resource) (open_scope s) own around ps in
      module_closed is_resource (init_state declared (here declared.blocks.scopes own around) b) i own (x, p) exports

  pub process_state : State → ℕ → List Level → ProcessTree → State
  process_state s i outer (process many x gs es ps b p) =
      let own = length s.blocks.scopes in
      let headed = process_headed s i outer many (x, p) gs in
      let around = here headed.blocks.scopes i outer in
      let entered = entries_state headed own around 0 es in
      let declared = parts_state elsewhere entered own around ps in
      let done = body_state declared (here declared.blocks.scopes own around) b in
      note done (cells_rule (process_cells done own (length declared.blocks.scopes)) p)
