-- Accepts and the entries that they accept.
use Rattle.std.specs.Prelude.{ℕ, ◌+◌, ◌<◌, ◌≡◌, true, false, List, length, map, Some}
use Rattle.pfc_tree.specs.Symbols.{Text}
use Rattle.pfc_tree.specs.trees.Stmts.{StmtTree, StmtTrees, ArmTrees, AcceptTree, AltTrees, CommTree, empty, null, block, if_then, if_then_else, case_of}
use Rattle.pfc_tree.specs.trees.Stmts.{while_do, repeat_until, repeat_forever, for_do, cobegin, accepting, requeue, select, select_else, assign, send, receive}
use Rattle.pfc_tree.specs.trees.Stmts.{call, no_stmts, more_stmts, body, arm, no_arms, more_arms, accept, accept_do, alt, no_alts, more_alts, comm_accept}
use Rattle.pfc_tree.specs.trees.Stmts.{comm_send, comm_receive, timeout, terminate}
use Rattle.pfc_types.specs.Scopes.{Level, here, scope_at, look}
use Rattle.pfc_types.specs.Blocks.{Blocks, process_at, entry_at}
use Rattle.pfc_types.specs.declared.scope.Meaning.TheVariants.{Entry}
use Rattle.pfc_types.specs.rules.Statements.{scopes_in, arm_scopes, comm_scopes, alt_scopes, alts_scopes}
use Rattle.pfc_name_laws.specs.Reached.{formal_meaning, meanings_of}
use Rattle.pfc_translation.specs.Sites.{Site}

-- The name of an accept stands for an entry of the process q, whose parameters are the names of the accept's own scope, which is number n: in the same
-- order, of the same types, by value or by reference alike.
pub record FitsEntry (b : Blocks) (q : ℕ) (view : List Level) (n : ℕ) (x : Text) : Type 0 where
  pub entry : ℕ
  pub named : look b.scopes view x ≡ Some (Entry entry)
  pub parameters : meanings_of (scope_at b.scopes n) ≡ map formal_meaning (entry_at b q entry)

-- so each accept in a statement, of which the next scope is number n
abbrev mutual
  pub Fits : Blocks → ℕ → List Level → ℕ → StmtTree → Type 0
  Fits b q view n empty = Unit {0}
  Fits b q view n (null p) = Unit {0}
  Fits b q view n (block (body ss first last) p) = AllFit b q view n ss
  Fits b q view n (if_then e t p) = Fits b q view n t
  Fits b q view n (if_then_else e t u p) = Fits b q view n t × Fits b q view (n + scopes_in t) u
  Fits b q view n (case_of e arms last p) = ArmsFit b q view n arms
  Fits b q view n (while_do e t p) = Fits b q view n t
  Fits b q view n (repeat_until ss e p) = AllFit b q view n ss
  Fits b q view n (repeat_forever ss p) = AllFit b q view n ss
  Fits b q view n (for_do x from down to t p r) = Fits b q view n t
  Fits b q view n (cobegin ss last p) = AllFit b q view n ss
  Fits b q view n (accepting a p) = AcceptFits b q view n a
  Fits b q view n (requeue x args p) = Unit {0}
  Fits b q view n (select pri alts p r) = AltsFit b q view n alts
  Fits b q view n (select_else pri alts ss at p r) = AltsFit b q view n alts × AllFit b q view (n + alts_scopes alts) ss
  Fits b q view n (assign d e p r) = Unit {0}
  Fits b q view n (send d e p r) = Unit {0}
  Fits b q view n (receive d v p r) = Unit {0}
  Fits b q view n (call d args p) = Unit {0}

  pub AllFit : Blocks → ℕ → List Level → ℕ → StmtTrees → Type 0
  AllFit b q view n no_stmts = Unit {0}
  AllFit b q view n (more_stmts t ts) = Fits b q view n t × AllFit b q view (n + scopes_in t) ts

  pub ArmsFit : Blocks → ℕ → List Level → ℕ → ArmTrees → Type 0
  ArmsFit b q view n no_arms = Unit {0}
  ArmsFit b q view n (more_arms (arm ls t) arms) = Fits b q view n t × ArmsFit b q view (n + arm_scopes (arm ls t)) arms

  pub AcceptFits : Blocks → ℕ → List Level → ℕ → AcceptTree → Type 0
  AcceptFits b q view n (accept x gs p) = FitsEntry b q view n x
  AcceptFits b q view n (accept_do x gs t p) = FitsEntry b q view n x × Fits b q (here b.scopes n view) (n + 1) t

  pub CommFits : Blocks → ℕ → List Level → ℕ → CommTree → Type 0
  CommFits b q view n (comm_accept a p) = AcceptFits b q view n a
  CommFits b q view n (comm_send d e p) = Unit {0}
  CommFits b q view n (comm_receive d v p) = Unit {0}
  CommFits b q view n (timeout e p) = Unit {0}
  CommFits b q view n (terminate p) = Unit {0}

  pub AltsFit : Blocks → ℕ → List Level → ℕ → AltTrees → Type 0
  AltsFit b q view n no_alts = Unit {0}
  AltsFit b q view n (more_alts (alt spread guard comm ss) alts) =
      CommFits b q view n comm × AllFit b q view (n + comm_scopes comm) ss × AltsFit b q view (n + alt_scopes (alt spread guard comm ss)) alts

-- ## Where a phrase stands

-- this is asked in the body of a process, outside its subs
abbrev pub InProcess : Site → Type 0 → Type 0
InProcess s A = s.env.around.process ≡ true → s.env.around.sub ≡ false → A

-- the block is that of the process q
pub record IsOfProcess (s : Site) (q : ℕ) : Type 0 where
  pub among : q < length s.env.state.blocks.processes
  pub own : (process_at s.env.state.blocks q).scope ≡ s.block.scope

-- In the body of a process, which is number q, each accept in these statements has the parameters of its entry.
abbrev pub AcceptEntries : Site → ℕ → ℕ → StmtTrees → Type 0
AcceptEntries s q n ts = InProcess s (IsOfProcess s q × AllFit s.env.state.blocks q s.env.view n ts)
