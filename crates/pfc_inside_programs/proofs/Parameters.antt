-- In the scope of an accept there are parameters alone, where its statement is typed.
use Rattle.std.proofs.Common.{◌≡◌, ℕ, ◌+◌, Bool, true, false, cond, bytes_eq, List, [], ◌∷◌, map, Option, Some, None, refl, sym, ap, ◌∙◌, subst}
use Rattle.pfc_tree.specs.Symbols.{Text}
use Rattle.pfc_tree.specs.trees.Stmts.{StmtTree, StmtTrees, ArmTrees, AcceptTree, AltTree, AltTrees, CommTree, empty, null, block, if_then, if_then_else}
use Rattle.pfc_tree.specs.trees.Stmts.{case_of, while_do, repeat_until, repeat_forever, for_do, cobegin, accepting, requeue, select, select_else, assign, send}
use Rattle.pfc_tree.specs.trees.Stmts.{receive, call, no_stmts, more_stmts, body, arm, no_arms, more_arms, accept, accept_do, alt, no_alts, more_alts}
use Rattle.pfc_tree.specs.trees.Stmts.{comm_accept, comm_send, comm_receive, timeout, terminate}
use Rattle.pfc_types.specs.Scopes.{Names, meaning_in, scope_at}
use Rattle.pfc_types.specs.declared.types.TypeId.{TypeId}
use Rattle.pfc_types.specs.declared.heads.Formal.{Formal}
use Rattle.pfc_types.specs.declared.scope.Meaning.{Meaning}
use Rattle.pfc_types.specs.declared.scope.Meaning.TheVariants.{Sub}
use Rattle.pfc_types.specs.rules.Kinds.{variable_meaning}
use Rattle.pfc_types.specs.rules.Statements.{scopes_in, arm_scopes, alts_scopes, alt_scopes, comm_scopes}
use Rattle.pfc_semantics.specs.Programs.{Program}
use Rattle.pfc_translation.specs.Sites.{Site, at_line, in_accept}
use Rattle.pfc_standing_code.specs.TypedStatements.{AcceptsEntry, IsTyped, AreTyped, AreArmsTyped, IsAcceptTyped, IsMetTyped, IsAltTyped, AreAltsTyped}
use Rattle.pfc_run_invariants.specs.Written.{FitsStmt, FitStmts, FitArms, FitsAccept, FitsAlt, FitAlts, FitsComm}
use Rattle.pfc_inside_laws.specs.Inside.{IsNoMonitor, IsForAccept}

-- ## Names of parameters

abbrev Stands : Formal → Meaning
Stands f = variable_meaning f.reference f.t

no_sub : (r : Bool) (o : Option TypeId) (k : ℕ) → variable_meaning r o ≡ Sub k → ⊥
no_sub r None k h = cc
no_sub r (Some t) k h = cc

no_subs :
    (names : Names) (formals : List Formal) → map (λ (y : Text × Meaning). y.1) names ≡ map Stands formals
    → (x : Text) (k : ℕ) → meaning_in names x ≡ Some (Sub k) → ⊥
no_subs [] formals h x k found = cc
no_subs (y ∷ names) [] h x k found = cc
no_subs ((z, m) ∷ names) (f ∷ formals) h x k found = by (λ same there. no_subs names formals same x k there) (bytes_eq x z) refl
  where
    head : m ≡ Stands f
    head = cc

    tail : map (λ (y : Text × Meaning). y.1) names ≡ map Stands formals
    tail = cc

    by :
        (map (λ (y : Text × Meaning). y.1) names ≡ map Stands formals → meaning_in names x ≡ Some (Sub k) → ⊥) → (b : Bool) → bytes_eq x z ≡ b → ⊥
    by further true e =
        let is : Some m ≡ Some (Sub k) = ap (λ (b : Bool). cond b (Some m) (meaning_in names x)) (sym e) ∙ found in
        let same : m ≡ Sub k = cc in
        no_sub f.reference f.t k (sym head ∙ same)
    by further false e = further tail (ap (λ (b : Bool). cond b (Some m) (meaning_in names x)) (sym e) ∙ found)

-- ## Statements

module _ (g : Program) where
  for_accept : (s : Site) → s.program ≡ g → (i entry n : ℕ) → AcceptsEntry s.program.state.blocks i entry n → IsNoMonitor g n → IsForAccept g n
  for_accept s same i entry n accepts other =
      let has : AcceptsEntry g.state.blocks i entry n = subst (λ (p : Program). AcceptsEntry p.state.blocks i entry n) same accepts in
      record { monitor = other; subs = no_subs (scope_at g.state.blocks.scopes n) _ has.parameters }

  abbrev P : ℕ → Type 0
  P = IsNoMonitor g

  abbrev A : ℕ → Type 0
  A = IsForAccept g

  mutual
    stmt_typed : (s : Site) → s.program ≡ g → (n : ℕ) (t : StmtTree) → IsTyped s n t → FitsStmt P n t → FitsStmt A n t
    stmt_typed s same n empty typed fits = tt
    stmt_typed s same n (null p) typed fits = tt
    stmt_typed s same n (block (body ss from to) p) typed fits = stmts_typed s same n ss typed fits
    stmt_typed s same n (if_then e t p) typed fits = (fits.0, stmt_typed (at_line s p.line) same n t typed.1 fits.1)
    stmt_typed s same n (if_then_else e t u p) typed fits = (
      fits.0,
      stmt_typed (at_line s p.line) same n t typed.1 fits.1,
      stmt_typed (at_line s p.line) same (n + scopes_in t) u typed.2 fits.2,
    )
    stmt_typed s same n (case_of e arms last p) typed fits = (fits.0, arms_typed (at_line s p.line) same n arms typed.1 fits.1)
    stmt_typed s same n (while_do e t p) typed fits = (fits.0, stmt_typed (at_line s p.line) same n t typed.1 fits.1)
    stmt_typed s same n (repeat_until ss e p) typed fits = (stmts_typed (at_line s p.line) same n ss typed.0 fits.0, fits.1)
    stmt_typed s same n (repeat_forever ss p) typed fits = stmts_typed (at_line s p.line) same n ss typed fits
    stmt_typed s same n (for_do x a down b t p q) typed fits = (fits.0, fits.1, stmt_typed (at_line s p.line) same n t typed.3 fits.2)
    stmt_typed s same n (cobegin ss last p) typed fits = stmts_typed s same n ss typed fits
    stmt_typed s same n (accepting a p) typed fits = accept_typed (at_line s p.line) same n a typed fits
    stmt_typed s same n (requeue x args p) typed fits = fits
    stmt_typed s same n (select pri alts p q) typed fits = alts_typed (at_line s p.line) same n alts typed fits
    stmt_typed s same n (select_else pri alts ss at p q) typed fits = (
      alts_typed (at_line s p.line) same n alts typed.0 fits.0,
      stmts_typed (at_line s p.line) same (n + alts_scopes alts) ss typed.1 fits.1,
    )
    stmt_typed s same n (assign d e p q) typed fits = fits
    stmt_typed s same n (send d e p q) typed fits = fits
    stmt_typed s same n (receive d v p q) typed fits = fits
    stmt_typed s same n (call d args p) typed fits = fits

    pub stmts_typed : (s : Site) → s.program ≡ g → (n : ℕ) (ss : StmtTrees) → AreTyped s n ss → FitStmts P n ss → FitStmts A n ss
    stmts_typed s same n no_stmts typed fits = tt
    stmts_typed s same n (more_stmts t ts) typed fits =
        (stmt_typed s same n t typed.0 fits.0, stmts_typed s same (n + scopes_in t) ts typed.1 fits.1)

    arms_typed : (s : Site) → s.program ≡ g → (n : ℕ) (arms : ArmTrees) → AreArmsTyped s n arms → FitArms P n arms → FitArms A n arms
    arms_typed s same n no_arms typed fits = tt
    arms_typed s same n (more_arms (arm ls t) arms) typed fits =
        (stmt_typed s same n t typed.1 fits.0, arms_typed s same (n + arm_scopes (arm ls t)) arms typed.2 fits.1)

    accept_typed : (s : Site) → s.program ≡ g → (n : ℕ) (a : AcceptTree) → IsAcceptTyped s n a → FitsAccept P n a → FitsAccept A n a
    accept_typed s same n (accept x gs p) typed fits = for_accept s same s.block.scope _ n typed fits
    accept_typed s same n (accept_do x gs t p) typed fits =
        (for_accept s same s.block.scope _ n typed.0 fits.0, stmt_typed (in_accept s n) same (n + 1) t typed.1 fits.1)

    comm_typed : (s : Site) → s.program ≡ g → (n : ℕ) (comm : CommTree) → IsMetTyped s n comm → FitsComm P n comm → FitsComm A n comm
    comm_typed s same n (comm_accept a p) typed fits = accept_typed s same n a typed fits
    comm_typed s same n (comm_send d e p) typed fits = fits
    comm_typed s same n (comm_receive d v p) typed fits = fits
    comm_typed s same n (timeout e p) typed fits = fits
    comm_typed s same n (terminate p) typed fits = tt

    alt_typed : (s : Site) → s.program ≡ g → (n : ℕ) (a : AltTree) → IsAltTyped s n a → FitsAlt P n a → FitsAlt A n a
    alt_typed s same n (alt spread guard comm ss) typed fits =
        (fits.0, fits.1, comm_typed s same n comm typed.3 fits.2, stmts_typed s same (n + comm_scopes comm) ss typed.4 fits.3)

    alts_typed : (s : Site) → s.program ≡ g → (n : ℕ) (alts : AltTrees) → AreAltsTyped s n alts → FitAlts P n alts → FitAlts A n alts
    alts_typed s same n no_alts typed fits = tt
    alts_typed s same n (more_alts a alts) typed fits =
        (alt_typed s same n a typed.0 fits.0, alts_typed s same (n + alt_scopes a) alts typed.1 fits.1)
