-- Where code stands does not hang on what the activation sees of the machine.
use Rattle.std.proofs.Common.{ℕ, suc, ◌+◌, ℤ, Bool, List, [], ◌∷◌, drop, length, Option, Some, None}
use Rattle.pfc_tree.specs.Symbols.{Text}
use Rattle.pfc_tree.specs.trees.Stmts.{StmtTree, StmtTrees, ArmTrees, CommTree, no_stmts, more_stmts, comm_accept, comm_send, comm_receive, timeout, terminate}
use Rattle.pfc_types.specs.rules.Statements.{comm_scopes}
use Rattle.pfc_semantics.specs.Remainders.{Context, Replica, Accepting, Alternative, Otherwise}
use Rattle.pfc_translation.specs.Sites.{Site}
use Rattle.pfc_translation.specs.Codes.{Code, Lined}
use Rattle.pfc_translation.specs.Selects.{first_of, replica_code}
use Rattle.pfc_standing_code.specs.Settings.{View, Setting, HasCode, HasTexts, Stands, Leads, arrived, jump, Jumped}
use Rattle.pfc_standing_code.specs.Performs.{SeeAccepts, StmtAt, StmtsAt, ArmsAt, StmtThen, StmtsThen, MetAt, BranchAt, CommBranchAt, BranchesAt}
use Rattle.pfc_standing_code.specs.Performs.{DecidesAt, accepted_in}
use Rattle.pfc_standing_code.specs.Awaits.{ObjectThen}

module _ (g : Setting) (view : View) (accepts meetings : List ℕ) where
  abbrev shown : Setting
  shown = record g { view = view; accepts = accepts; meetings = meetings }

  has_shown : (at : ℕ) (xs : Lined) → HasCode g at xs → HasCode shown at xs
  has_shown at [] h = tt
  has_shown at (c ∷ xs) h = (h.0, has_shown (at + 1) xs h.1)

  texts_shown : (n : ℕ) (xs : List Text) → HasTexts g n xs → HasTexts shown n xs
  texts_shown n [] h = tt
  texts_shown n (x ∷ xs) h = (h.0, texts_shown (n + 1) xs h.1)

  pub stands_shown : (at n held : ℕ) (c : Code) → Stands g at n held c → Stands shown at n held c
  stands_shown at n held c h = record { has = has_shown at (c.put at n) h.has; texts = texts_shown n c.texts h.texts; room = h.room; arms = h.arms }

  pub leads_shown : (at to : ℕ) → Leads g at to → Leads shown at to
  leads_shown _ _ (arrived at) = arrived at
  leads_shown _ _ (jump at to end line is up leads) = jump at to end line is up (leads_shown to end leads)

module _ (g : Setting) (view : View) where
  abbrev other : Setting
  other = record g { view = view }

  pub stands_seen : (at n held : ℕ) (c : Code) → Stands g at n held c → Stands other at n held c
  stands_seen at n held c h = stands_shown g view g.accepts g.meetings at n held c h

  leads_seen : (at to : ℕ) → Leads g at to → Leads other at to
  leads_seen at to h = leads_shown g view g.accepts g.meetings at to h

  pub jumped_seen : (at : ℕ) (P Q : ℕ → Type 0) → ((to : ℕ) → P to → Q to) → Jumped g at P → Jumped other at Q
  jumped_seen at P Q f h = (h.0, leads_seen at h.0 h.1, f h.0 h.2)

  -- ## Statements

  pub stmt_seen : (s : Site) (at n held m : ℕ) (t : StmtTree) → StmtAt g s at n held m t → StmtAt other s at n held m t
  stmt_seen s at n held m t h = record { typed = h.typed; code = stands_seen at n held _ h.code; accepts = h.accepts }

  see_seen : (s : Site) (ts : StmtTrees) → SeeAccepts g s ts → SeeAccepts other s ts
  see_seen s no_stmts h = tt
  see_seen s (more_stmts t ts) h = h

  stmts_seen : (s : Site) (at n held m : ℕ) (ts : StmtTrees) → StmtsAt g s at n held m ts → StmtsAt other s at n held m ts
  stmts_seen s at n held m ts h =
      record { typed = h.typed; code = stands_seen at n held _ h.code; accepts = see_seen s ts h.accepts }

  pub arms_seen : (s : Site) (tests k first n m from held : ℕ) (arms : ArmTrees) → ArmsAt g s tests k first n m from held arms
      → ArmsAt other s tests k first n m from held arms
  arms_seen s tests k first n m from held arms h =
      record {
        typed = h.typed;
        tests_stand = stands_seen tests k (1 + held) _ h.tests_stand;
        arms_stand = stands_seen first n held _ h.arms_stand;
        accepts = h.accepts;
      }

  pub stmt_then_seen : (s : Site) (at held m : ℕ) (t : StmtTree) (P Q : ℕ → Type 0) → ((end : ℕ) → P end → Q end) → StmtThen g s at held m t P
      → StmtThen other s at held m t Q
  stmt_then_seen s at held m t P Q f h = (h.0, stmt_seen s at h.0 held m t h.1, f _ h.2)

  pub stmts_then_seen : (s : Site) (at held m : ℕ) (ts : StmtTrees) (P Q : ℕ → Type 0) → ((end : ℕ) → P end → Q end) → StmtsThen g s at held m ts P
      → StmtsThen other s at held m ts Q
  stmts_then_seen s at held m ts P Q f h = (h.0, stmts_seen s at h.0 held m ts h.1, f _ h.2)

  pub object_then_seen : (s : Site) (at : ℕ) (ops : List ℤ) (c : Code) (P Q : ℕ → Type 0) → ((end : ℕ) → P end → Q end) → ObjectThen g s at ops c P
      → ObjectThen other s at ops c Q
  object_then_seen s at ops c P Q f h = (h.0, h.1, stands_seen (at + 1) h.1 (suc (length ops)) c h.2, f _ h.3)

  -- ## Branches

  pub met_seen : (s : Site) (at held : ℕ) (met : Option Accepting) (m : ℕ) (ts : StmtTrees) (P Q : ℕ → Type 0) → ((end : ℕ) → P end → Q end)
      → MetAt g s at held met m ts P → MetAt other s at held met m ts Q
  met_seen s at held None m ts P Q f h = stmts_then_seen s at held m ts P Q f h
  met_seen s at held (Some a) m ts P Q f h =
      let then = h.1 in
      (h.0, (then.0, stmt_seen _ at then.0 held _ a.stmt then.1, (then.2.0, stmts_then_seen s _ held m ts P Q f then.2.1)), h.2)

  pub branch_seen : (s : Site) (at held : ℕ) (r : Option Replica) (met : Option Accepting) (m : ℕ) (ts : StmtTrees) (P Q : ℕ → Type 0)
      → ((end : ℕ) → P end → Q end) → BranchAt g s at held r met m ts P → BranchAt other s at held r met m ts Q
  branch_seen s at held None met m ts P Q f h = met_seen s at held met m ts P Q f h
  branch_seen s at held (Some r) met m ts P Q f h = (
    h.0,
    h.1,
    h.2,
    stands_seen at h.2 held _ h.3,
    jumped_seen (at + (replica_code s (Some r)).size) (λ to. MetAt g s to held met m ts P) (λ to. MetAt other s to held met m ts Q)
        (λ to q. met_seen s to held met m ts P Q f q) h.4,
  )

  pub comm_branch_seen : (s : Site) (x : Context) (at held : ℕ) (a : Alternative) (comm : CommTree) (P Q : ℕ → Type 0) → ((end : ℕ) → P end → Q end)
      → CommBranchAt g s x at held a comm P → CommBranchAt other s x at held a comm Q
  comm_branch_seen s x at held a (terminate p) P Q f h = tt
  comm_branch_seen s x at held a (comm_accept b p) P Q f h =
      branch_seen s at held a.replica (accepted_in x a.next (comm_accept b p)) (a.next + comm_scopes (comm_accept b p)) a.stmts P Q f h
  comm_branch_seen s x at held a (comm_send d e p) P Q f h = branch_seen s at held a.replica None (a.next + comm_scopes (comm_send d e p)) a.stmts P Q f h
  comm_branch_seen s x at held a (comm_receive d v p) P Q f h =
      branch_seen s at held a.replica None (a.next + comm_scopes (comm_receive d v p)) a.stmts P Q f h
  comm_branch_seen s x at held a (timeout e p) P Q f h = branch_seen s at held a.replica None (a.next + comm_scopes (timeout e p)) a.stmts P Q f h

  pub branches_seen : (s : Site) (x : Context) (first held : ℕ) (alts : List Alternative) (distances : List ℕ) (P Q : ℕ → Type 0)
      → ((end : ℕ) → P end → Q end) → BranchesAt g s x first held alts distances P → BranchesAt other s x first held alts distances Q
  branches_seen s x first held [] distances P Q f h = tt
  branches_seen s x first held (a ∷ alts) distances P Q f h =
      (comm_branch_seen s x (first + first_of distances) held a a.comm P Q f h.0, branches_seen s x first held alts (drop 1 distances) P Q f h.1)

  pub decides_seen : (s : Site) (at held : ℕ) (pri : Bool) (otherwise : Option Otherwise) (P Q : ℕ → Type 0) → ((end : ℕ) → P end → Q end)
      → DecidesAt g s at held pri otherwise P → DecidesAt other s at held pri otherwise Q
  decides_seen s at held pri None P Q f h = h
  decides_seen s at held pri (Some o) P Q f h = (h.0, h.1, h.2, stmts_then_seen s h.0 held o.next o.stmts P Q f h.3)
