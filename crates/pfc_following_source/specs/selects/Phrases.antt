-- What it is for the code of a select to follow its next action, and for the branch of an alternative to perform what is left.
use Rattle.std.specs.Prelude.{ℕ, ◌+◌, ◌≤◌, ◌≡◌, ℤ, Bool, List, [], length, Option, Some, None}
use Rattle.pfc_tree.specs.trees.Stmts.{StmtTrees, AltTrees}
use Rattle.pfc_types.specs.rules.Statements.{alts_scopes, within_accept}
use Rattle.pfc_semantics.specs.Programs.{Block}
use Rattle.pfc_semantics.specs.Remainders.{Context, Replica, Accepting, Open, Alternative, Selecting, Remainder}
use Rattle.pfc_semantics.specs.Alternatives.{alternatives, from_guard, from_alternatives, select_begun}
use Rattle.pfc_semantics.specs.Channels.{behind_replica}
use Rattle.pfc_semantics.specs.Rendezvous.{meeting_of}
use Rattle.pfc_semantics.specs.Statements.{behind}
use Rattle.pfc_translation.specs.Codes.{Code, nothing}
use Rattle.pfc_translation.specs.Selects.{comm_code, guarded_code}
use Rattle.pfc_translation.specs.Statements.{stmts_code, branches_code, distances, select_code}
use Rattle.pfc_standing_code.specs.Settings.{Setting, of_own, site_of, with_accept, SeesAccepts}
use Rattle.pfc_standing_code.specs.Effects.{Arm}
use Rattle.pfc_standing_code.specs.TypedStatements.{AreTyped, IsGuard, AreAltsTyped}
use Rattle.pfc_standing_code.specs.Words.{IsChecked}
use Rattle.pfc_standing_code.specs.Performs.{BranchAt, SelectAt, CommAt, Performs}
use Rattle.pfc_standing_code.specs.Following.{Follows}
use Rattle.pfc_following_statements.specs.Phrases.{CodeFollows}

-- what stands behind a select performs this remainder
abbrev pub Behind : Setting → Block → Context → List ℤ → Remainder → ℕ → Type 0
Behind g b x ops k end = Performs g b x.env end ops [] k

-- ## Going through

-- where alternatives stand up to the decision, behind those that were found open, they lead to the next action
abbrev pub AlternativesFollow : Setting → Block → Context → Type 0
AlternativesFollow g b x =
    IsChecked g b x.env → g.trial ≡ of_own → (alts : List Alternative) (sel : Selecting) (k : Remainder) (at : ℕ) (ops : List ℤ) (arms : List Arm)
    → length arms ≤ g.arms → SelectAt g (site_of g b x) x at (length ops) alts sel arms (Behind g b x ops k)
    → Follows g (from_alternatives x alts sel k) at ops arms

-- the code of an alternative from its guard on, whose branch begins so many instructions behind
abbrev pub code_from_guard : Setting → Block → Context → Alternative → ℕ → Code
code_from_guard g b x a between = let s = site_of g b x in guarded_code s a.guard (comm_code s a.next a.comm between)

-- the same from the guard of the first one on
abbrev pub OpeningFollows : Setting → Block → Context → Type 0
OpeningFollows g b x =
    IsChecked g b x.env → g.trial ≡ of_own
    → (a : Alternative) (rest : List Alternative) (sel : Selecting) (k : Remainder) (at : ℕ) (ops : List ℤ) (arms : List Arm)
    → length arms ≤ g.arms → IsGuard (site_of g b x) a.guard
    → CommAt g (site_of g b x) x at (length ops) (length ops) a rest sel arms (code_from_guard g b x a) (Behind g b x ops k)
    → Follows g (from_guard x a.guard a rest sel k (λ t. from_alternatives x rest t k)) at ops arms

-- ## Whole selects

abbrev pub SelectFollows : Setting → Block → Context → Type 0
SelectFollows g b x =
    IsChecked g b x.env → g.trial ≡ of_own → (pri : Bool) (m : ℕ) (alts : AltTrees) (k : Remainder) → AreAltsTyped (site_of g b x) m alts
    → SeesAccepts g (site_of g b x) → CodeFollows g b x
    (select_code (site_of g b x) pri (alternatives x m alts) (distances (site_of g b x) m 0 alts) (branches_code (site_of g b x) m alts 0) None nothing) k
    (from_alternatives x (alternatives x m alts) (select_begun pri) k)

-- with an `else` part, before which the branches stand
abbrev pub SelectElseFollows : Setting → Block → Context → Type 0
SelectElseFollows g b x =
    IsChecked g b x.env → g.trial ≡ of_own → (pri : Bool) (m : ℕ) (alts : AltTrees) (ts : StmtTrees) (k : Remainder) → AreAltsTyped (site_of g b x) m alts
    → AreTyped (site_of g b x) (m + alts_scopes alts) ts → SeesAccepts g (site_of g b x)
    → (let other = stmts_code (site_of g b x) (m + alts_scopes alts) ts in
    let branches = branches_code (site_of g b x) m alts other.size in
    CodeFollows g b x (select_code (site_of g b x) pri (alternatives x m alts) (distances (site_of g b x) m 0 alts) branches (Some branches.size) other) k
    (from_alternatives x (alternatives x m alts) (record (select_begun pri) { otherwise = Some (record { next = m + alts_scopes alts; stmts = ts }) }) k))

-- ## Branches

-- The branch of an alternative that is no accept performs what is left behind it: the write of its variable, where it is replicated, and its
-- statements. So does that of a `timeout` whose moment has come.
abbrev pub BranchPerforms : Setting → Block → Context → Type 0
BranchPerforms g b x =
    g.trial ≡ of_own → (r : Option Replica) (m : ℕ) (ts : StmtTrees) (k : Remainder) (at : ℕ) (ops : List ℤ)
    → BranchAt g (site_of g b x) at (length ops) r None m ts (Behind g b x ops k)
    → Performs g b x.env at ops [] (behind_replica r (behind m ts k))

-- The branch of an accept performs the meeting, in which that accept is open: the write of its variable, the statement of the accept, in which its
-- parameters are in view, its end, and its statements. What is seen is what the meeting has made.
abbrev pub MeetingPerforms : Setting → Block → Context → Type 0
MeetingPerforms g b x =
    g.trial ≡ of_own → (o : Open) (a : Accepting) (caller : ℕ) (k : Remainder) (at : ℕ) (ops : List ℤ)
    → IsChecked g b x.env → IsChecked (with_accept g a.scope caller) b (within_accept x.env a.scope)
    → BranchAt g (site_of g b x) at (length ops) o.replica (Some a) o.next o.stmts (Behind g b x ops k)
    → Performs (with_accept g a.scope caller) b x.env at ops [] (meeting_of x a o caller k)
