-- The names in view at each body, as the walk over the declarations has them, in the order of the text.
--
-- The walk comes to a body, to a guard or to the statement of an accept with the scopes as they have grown so far, and has all in view
-- that they hold. It is followed here with the same steps as in the rules.
use Rattle.std.specs.Prelude.{◌≡◌, ℕ, Bool, true, false, List, [], ◌∷◌, ◌++◌, length, map, All, Option, Some, None}
use Rattle.pfc_tree.specs.Symbols.{Text}
use Rattle.pfc_tree.specs.trees.Types.{GroupTree}
use Rattle.pfc_tree.specs.trees.Stmts.{StmtTree, StmtTrees, BodyTree, ArmTree, ArmTrees, AcceptTree, AltTree, AltTrees, CommTree, empty, null, block, if_then}
use Rattle.pfc_tree.specs.trees.Stmts.{if_then_else, case_of, while_do, repeat_until, repeat_forever, for_do, cobegin, accepting, requeue, select, select_else}
use Rattle.pfc_tree.specs.trees.Stmts.{assign, send, receive, call, no_stmts, more_stmts, body, arm, no_arms, more_arms, accept, accept_do, alt, no_alts}
use Rattle.pfc_tree.specs.trees.Stmts.{more_alts, comm_accept, comm_send, comm_receive, timeout, terminate}
use Rattle.pfc_tree.specs.trees.Parts.{KindTree, PartTree, PartTrees, SubTree, ModuleTree, ProcessTree, ProgramTree, procedure, function, guarded, consts}
use Rattle.pfc_tree.specs.trees.Parts.{types, vars, sub_part, monitor, resource, process_part, no_parts, more_parts, sub, the_module, process}
use Rattle.pfc_types.specs.Scopes.{Names, Level, here, found_in}
use Rattle.pfc_types.specs.Blocks.{State, open_scope}
use Rattle.pfc_types.specs.rules.Declarations.{Owner, in_program, elsewhere, Labels, heading, accepted, labels_noted, stmt_state, comm_state, alts_state}
use Rattle.pfc_types.specs.rules.Declarations.{alt_state, arm_state, part_state, parts_state, sub_headed, process_headed, entries_state, module_owner}
use Rattle.pfc_types.specs.rules.Whole.{begun, declared_parts}

-- ## Statements

-- the scopes that there are so far, and what is in view of them
pub record Visit : Type 0 where
  pub scopes : List Names
  pub view : List Level

abbrev pub visit : State → List Level → Visit
visit s view = record { scopes = s.blocks.scopes; view = view }

-- Statements: the statement of each accept.
abbrev mutual
  pub stmt_visits : State → List Level → StmtTree → List Visit
  stmt_visits s view empty = []
  stmt_visits s view (null p) = []
  stmt_visits s view (block b p) = inner_visits s view b
  stmt_visits s view (if_then e t p) = stmt_visits s view t
  stmt_visits s view (if_then_else e t u p) = stmt_visits s view t ++ stmt_visits (stmt_state s view t) view u
  stmt_visits s view (case_of e arms last p) = arms_visits view (record { state = s; seen = [] }) arms
  stmt_visits s view (while_do e t p) = stmt_visits s view t
  stmt_visits s view (repeat_until ts e p) = stmts_visits s view ts
  stmt_visits s view (repeat_forever ts p) = stmts_visits s view ts
  stmt_visits s view (for_do x from down to t p q) = stmt_visits s view t
  stmt_visits s view (cobegin ts last p) = stmts_visits s view ts
  stmt_visits s view (accepting a p) = accept_visits s view a
  stmt_visits s view (requeue x args p) = []
  stmt_visits s view (select pri alts p q) = alts_visits s view alts
  stmt_visits s view (select_else pri alts ts p q r) = alts_visits s view alts ++ stmts_visits (alts_state s view alts) view ts
  stmt_visits s view (assign d e p q) = []
  stmt_visits s view (send d e p q) = []
  stmt_visits s view (receive d v p q) = []
  stmt_visits s view (call d args p) = []

  pub stmts_visits : State → List Level → StmtTrees → List Visit
  stmts_visits s view no_stmts = []
  stmts_visits s view (more_stmts t ts) = stmt_visits s view t ++ stmts_visits (stmt_state s view t) view ts

  pub inner_visits : State → List Level → BodyTree → List Visit
  inner_visits s view (body ts first last) = stmts_visits s view ts

  pub arms_visits : List Level → Labels → ArmTrees → List Visit
  arms_visits view r no_arms = []
  arms_visits view r (more_arms a arms) = arm_visits view r a ++ arms_visits view (arm_state view r a) arms

  pub arm_visits : List Level → Labels → ArmTree → List Visit
  arm_visits view r (arm cs t) = stmt_visits (labels_noted view r cs).state view t

  pub accept_visits : State → List Level → AcceptTree → List Visit
  accept_visits s view (accept x gs p) = []
  accept_visits s view (accept_do x gs t p) =
      let opened = accepted s view x gs p in
      let inner = here opened.blocks.scopes (length s.blocks.scopes) view in
      visit opened inner ∷ stmt_visits opened inner t

  pub alts_visits : State → List Level → AltTrees → List Visit
  alts_visits s view no_alts = []
  alts_visits s view (more_alts a alts) = alt_visits s view a ++ alts_visits (alt_state s view a) view alts

  pub alt_visits : State → List Level → AltTree → List Visit
  alt_visits s view (alt spread guard c ts) = comm_visits s view c ++ stmts_visits (comm_state s view c) view ts

  pub comm_visits : State → List Level → CommTree → List Visit
  comm_visits s view (comm_accept a p) = accept_visits s view a
  comm_visits s view (comm_send d e p) = []
  comm_visits s view (comm_receive d v p) = []
  comm_visits s view (timeout e p) = []
  comm_visits s view (terminate p) = []

-- a body, with the statements of its accepts
abbrev pub body_visits : State → List Level → BodyTree → List Visit
body_visits s view b = visit s view ∷ inner_visits s view b

abbrev pub init_visits : State → List Level → Option BodyTree → List Visit
init_visits s view None = []
init_visits s view (Some b) = body_visits s view b

-- a guard, which stands behind the parameters
abbrev pub guard_visits : KindTree → Visit → List Visit
guard_visits procedure v = []
guard_visits (function x p) v = []
guard_visits (guarded e p) v = v ∷ []

abbrev pub head_visit : State → ℕ → List Level → List GroupTree → Visit
head_visit s i outer gs =
    let own = length s.blocks.scopes in
    let around = here s.blocks.scopes i outer in
    let h = heading (open_scope s) own around gs in visit h.state (here h.state.blocks.scopes own around)

abbrev mutual
  pub part_visits : Owner → State → ℕ → List Level → PartTree → List Visit
  part_visits owner s i outer (consts items) = []
  part_visits owner s i outer (types items) = []
  part_visits owner s i outer (vars vs) = []
  part_visits owner s i outer (sub_part b) = sub_visits s i outer b
  part_visits owner s i outer (monitor m) = module_visits false s i outer m
  part_visits owner s i outer (resource m) = module_visits true s i outer m
  part_visits owner s i outer (process_part q) = process_visits s i outer q

  pub parts_visits : Owner → State → ℕ → List Level → PartTrees → List Visit
  parts_visits owner s i outer no_parts = []
  parts_visits owner s i outer (more_parts q qs) = part_visits owner s i outer q ++ parts_visits owner (part_state owner s i outer q) i outer qs

  pub sub_visits : State → ℕ → List Level → SubTree → List Visit
  sub_visits s i outer (sub x gs kind ps b p) =
      let own = length s.blocks.scopes in
      let headed = sub_headed s i outer (x, p) gs kind in
      let around = here headed.blocks.scopes i outer in
      let declared = parts_state elsewhere headed own around ps in
      guard_visits kind (head_visit s i outer gs)
      ++ (parts_visits elsewhere headed own around ps ++ body_visits declared (here declared.blocks.scopes own around) b)

  pub module_visits : Bool → State → ℕ → List Level → ModuleTree → List Visit
  module_visits is_resource s i outer (the_module x exports ps b last p) =
      let own = length s.blocks.scopes in
      let around = here s.blocks.scopes i outer in
      let declared = parts_state (module_owner is_resource) (open_scope s) own around ps in
      parts_visits (module_owner is_resource) (open_scope s) own around ps
      ++ init_visits declared (here declared.blocks.scopes own around) b

  pub process_visits : State → ℕ → List Level → ProcessTree → List Visit
  process_visits s i outer (process many x gs es ps b p) =
      let own = length s.blocks.scopes in
      let headed = process_headed s i outer many (x, p) gs in
      let around = here headed.blocks.scopes i outer in
      let entered = entries_state headed own around 0 es in
      let declared = parts_state elsewhere entered own around ps in
      parts_visits elsewhere entered own around ps
      ++ body_visits declared (here declared.blocks.scopes own around) b

-- of a whole tree; the body of the program stands last
abbrev pub visits : ProgramTree → List Visit
visits t =
    let s = declared_parts t in
    parts_visits in_program begun 0 [] t.parts ++ body_visits s (here s.blocks.scopes 0 []) t.body

-- ## Beside the walk over the bodies

-- each name is found alike in the finished scopes and in those that there were
abbrev pub FindsAlike : List Names → Visit → Type 0
FindsAlike scopes v = (x : Text) → found_in scopes v.view x ≡ found_in v.scopes v.view x

-- At each body the two walks have the same view, and each name is found alike.
pub record AreCounted (scopes : List Names) (visited : List Visit) (seen : List (List Level)) : Type 0 where
  pub same : seen ≡ map (λ v. v.view) visited
  pub alike : All (FindsAlike scopes) visited
