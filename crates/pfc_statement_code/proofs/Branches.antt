-- The branches of a select: when all are put and led, their code is that of the definition.
use Rattle.std.proofs.Common.{◌≡◌, ◌≤◌, ◌+◌, ◌++◌, ◌&&◌, ℕ, suc, true, false, List, [], ◌∷◌, length, map, Option, Some, None, refl, sym, ap, ap₂, subst, ◌∙◌}
use Rattle.std.proofs.Common.{arith, length-append}
use Rattle.pfc_code.specs.declared.instructions.Instr.TheVariants.{JMP}
use Rattle.pfc_tree.specs.declared.tree.Spread.{Spread}
use Rattle.pfc_tree.specs.trees.Exprs.{ExprTree}
use Rattle.pfc_tree.specs.trees.Stmts.{StmtTrees, AltTree, AltTrees, CommTree, alt, no_alts, more_alts, comm_accept, comm_send, comm_receive, timeout}
use Rattle.pfc_tree.specs.trees.Stmts.{terminate}
use Rattle.pfc_types.specs.rules.Statements.{comm_scopes, alt_scopes, stmts_scopes}
use Rattle.pfc_semantics.specs.Remainders.{Replica, Alternative}
use Rattle.pfc_semantics.specs.Alternatives.{alternative, alternatives, spread_out, replicas}
use Rattle.pfc_translation.specs.Sites.{Site, context_of}
use Rattle.pfc_translation.specs.Codes.{Lined, nothing, ◌⨾◌, one, over, unseen}
use Rattle.pfc_translation.specs.Statements.{chosen_code, spread_replicas, met_code, stmts_code, branch_code, branches_code, branches_from, replica_branches}
use Rattle.pfc_translation.specs.Statements.{spread_of, distances}
use Rattle.pfc_emit.specs.Patches.{patched}
use Rattle.pfc_emit.proofs.Patches.{length-patched}
use Rattle.pfc_expression_code.specs.Putting.{Made, IsMade}
use Rattle.pfc_expression_code.proofs.Joining.{made_nothing, made_both}
use Rattle.pfc_select_code.specs.Leading.{branch_addresses}
use Rattle.pfc_statement_code.specs.Branches.{is_terminate, branch_body, open_branch, branch_starts, end_of, branch_ends, BranchesMade}
use Rattle.pfc_statement_code.specs.Leading.{have_all, all_led}
use Rattle.pfc_statement_code.proofs.Making.{made_left3, made_over}
use Rattle.pfc_statement_code.proofs.Leading.{IsPatching, through, made_through, led, last_led, last_has, all_led-both, have_all-both, all_patching, and-left}
use Rattle.pfc_statement_code.proofs.Leading.{and-right, IsBehind, behind_none, behind_made, behind_has}

-- ## Sizes

-- a branch has the same size whatever stands behind it
branch_size : (s : Site) (i : ℕ) (a : AltTree) (j k : ℕ) → (branch_code s i a j).size ≡ (branch_code s i a k).size
branch_size s i (alt spread guard (terminate p) ss) j k = refl
branch_size s i (alt spread guard (comm_accept a p) ss) j k = refl
branch_size s i (alt spread guard (comm_send d e p) ss) j k = refl
branch_size s i (alt spread guard (comm_receive d v p) ss) j k = refl
branch_size s i (alt spread guard (timeout e p) ss) j k = refl

pub branches_size : (s : Site) (i : ℕ) (alts : AltTrees) (j k : ℕ) → (branches_code s i alts j).size ≡ (branches_code s i alts k).size
branches_size s i no_alts j k = refl
branches_size s i (more_alts a alts) j k =
    let next = i + alt_scopes a in
    ap₂ (λ x y. x + y) (branch_size s i a ((branches_code s next alts j).size + j) ((branches_code s next alts k).size + k)) (branches_size s next alts j k)

pub open_size : (s : Site) (i : ℕ) (a : AltTree) (k : ℕ) → (open_branch s i a).size ≡ (branch_code s i a k).size
open_size s i (alt spread guard (terminate p) ss) k = refl
open_size s i (alt spread guard (comm_accept a p) ss) k = omega arith
open_size s i (alt spread guard (comm_send d e p) ss) k = omega arith
open_size s i (alt spread guard (comm_receive d v p) ss) k = omega arith
open_size s i (alt spread guard (timeout e p) ss) k = omega arith

-- ## One branch

module _ (s : Site) (i : ℕ) (spread : Option Spread) (guard : Option ExprTree) (ss : StmtTrees) where
  pub plain_branch :
      (comm : CommTree) → is_terminate comm ≡ false → open_branch s i (alt spread guard comm ss) ≡ branch_body s i spread comm ss ⨾ one s (JMP 0)
  plain_branch (terminate p) is = cc
  plain_branch (comm_accept a p) is = refl
  plain_branch (comm_send d e p) is = refl
  plain_branch (comm_receive d v p) is = refl
  plain_branch (timeout e p) is = refl

  pub plain_end :
      (comm : CommTree) (at : ℕ) → is_terminate comm ≡ false → end_of s i (alt spread guard comm ss) at ≡ (at + (branch_body s i spread comm ss).size) ∷ []
  plain_end (terminate p) at is = cc
  plain_end (comm_accept a p) at is = refl
  plain_end (comm_send d e p) at is = refl
  plain_end (comm_receive d v p) at is = refl
  plain_end (timeout e p) at is = refl

  pub last_branch : (comm : CommTree) → is_terminate comm ≡ true → open_branch s i (alt spread guard comm ss) ≡ unseen (stmts_code s i ss)
  last_branch (terminate p) is = refl
  last_branch (comm_accept a p) is = cc
  last_branch (comm_send d e p) is = cc
  last_branch (comm_receive d v p) is = cc
  last_branch (timeout e p) is = cc

  pub last_end : (comm : CommTree) (at : ℕ) → is_terminate comm ≡ true → end_of s i (alt spread guard comm ss) at ≡ []
  last_end (terminate p) at is = refl
  last_end (comm_accept a p) at is = cc
  last_end (comm_send d e p) at is = cc
  last_end (comm_receive d v p) at is = cc
  last_end (timeout e p) at is = cc

  pub last_scopes : (comm : CommTree) → is_terminate comm ≡ true → alt_scopes (alt spread guard comm ss) ≡ stmts_scopes ss
  last_scopes (terminate p) is = omega arith
  last_scopes (comm_accept a p) is = cc
  last_scopes (comm_send d e p) is = cc
  last_scopes (comm_receive d v p) is = cc
  last_scopes (timeout e p) is = cc

body_led :
    (s : Site) (i : ℕ) (spread : Option Spread) (comm : CommTree) (ss : StmtTrees) (x y : Made) (t between : ℕ)
    → IsMade (branch_body s i spread comm ss ⨾ one s (JMP 0)) x y → t ≡ length y.code + between
    → IsMade (chosen_code s (spread_replicas s spread) ⨾ met_code s i comm ⨾ stmts_code s (i + comm_scopes comm) ss ⨾ over s JMP between) x
    (led y (length x.code + (branch_body s i spread comm ss).size) t)
body_led s i spread comm ss x y t between made is =
    let body = branch_body s i spread comm ss in
    let end = length x.code + body.size in
    let w = led y end t in
    let next : length y.code ≡ end + 1 = omega (arith, made.size) in
    let same : length (patched y.code end t) ≡ length y.code = length-patched y.code end t in
    made_left3 (chosen_code s (spread_replicas s spread)) (met_code s i comm) (stmts_code s (i + comm_scopes comm) ss) (over s JMP between) x w
    (made_over s body JMP t between x w (last_led s body (JMP 0) (JMP t) x y end t made next refl) (omega (arith, is, same)))

branch_led :
    (s : Site) (i : ℕ) (a : AltTree) (x y : Made) (t between : ℕ) → IsMade (open_branch s i a) x y → t ≡ length y.code + between
    → IsMade (branch_code s i a between) x (through (λ l. all_led l (end_of s i a (length x.code)) t) y)
branch_led s i (alt spread guard (terminate p) ss) x y t between made is = made
branch_led s i (alt spread guard (comm_accept a p) ss) x y t between made is = body_led s i spread (comm_accept a p) ss x y t between made is
branch_led s i (alt spread guard (comm_send d e p) ss) x y t between made is = body_led s i spread (comm_send d e p) ss x y t between made is
branch_led s i (alt spread guard (comm_receive d v p) ss) x y t between made is = body_led s i spread (comm_receive d v p) ss x y t between made is
branch_led s i (alt spread guard (timeout e p) ss) x y t between made is = body_led s i spread (timeout e p) ss x y t between made is

body_have :
    (s : Site) (i : ℕ) (spread : Option Spread) (comm : CommTree) (ss : StmtTrees) (x y : Made)
    → IsMade (branch_body s i spread comm ss ⨾ one s (JMP 0)) x y
    → have_all y.code ((length x.code + (branch_body s i spread comm ss).size) ∷ []) ≡ true
body_have s i spread comm ss x y made =
    let body = branch_body s i spread comm ss in
    let end = length x.code + body.size in
    ap (λ b. b && true) (last_has s body (JMP 0) x y end made (omega (arith, made.size)) refl)

branch_have : (s : Site) (i : ℕ) (a : AltTree) (x y : Made) → IsMade (open_branch s i a) x y → have_all y.code (end_of s i a (length x.code)) ≡ true
branch_have s i (alt spread guard (terminate p) ss) x y made = refl
branch_have s i (alt spread guard (comm_accept a p) ss) x y made = body_have s i spread (comm_accept a p) ss x y made
branch_have s i (alt spread guard (comm_send d e p) ss) x y made = body_have s i spread (comm_send d e p) ss x y made
branch_have s i (alt spread guard (comm_receive d v p) ss) x y made = body_have s i spread (comm_receive d v p) ss x y made
branch_have s i (alt spread guard (timeout e p) ss) x y made = body_have s i spread (timeout e p) ss x y made

-- ## All branches

pub branches_behind : (s : Site) (i : ℕ) (alts : AltTrees) (x z : Made) → BranchesMade s i alts x z → IsBehind x z
branches_behind s i no_alts x z same = behind_none x z same
branches_behind s i (more_alts a alts) x z (y, first, rest) =
    behind_made (open_branch s i a) x y z first (branches_behind s (i + alt_scopes a) alts y z rest)

pub branches_length :
    (s : Site) (i : ℕ) (alts : AltTrees) (k : ℕ) (x z : Made) → BranchesMade s i alts x z → length z.code ≡ length x.code + (branches_code s i alts k).size
branches_length s i no_alts k x z same = omega (arith, ap (λ (m : Made). length m.code) same)
branches_length s i (more_alts a alts) k x z (y, first, rest) =
    let next = i + alt_scopes a in
    let more = branches_length s next alts k y z rest in
    omega (arith, first.size, more, open_size s i a ((branches_code s next alts k).size + k))

pub branches_through :
    (h : ℕ) (f : Lined → Lined) (s : Site) (i : ℕ) (alts : AltTrees) (x z : Made) → IsPatching h f → h ≤ length x.code → BranchesMade s i alts x z
    → BranchesMade s i alts (through f x) (through f z)
branches_through h f s i no_alts x z is fits same = ap (λ (m : Made). through f m) same
branches_through h f s i (more_alts a alts) x z is fits (y, first, rest) = (
  through f y,
  made_through h f (open_branch s i a) x y is fits first,
  branches_through h f s (i + alt_scopes a) alts y z is
      (omega (arith, fits, first.size)) rest,
)

pub have_later : (x y : Made) (ats : List ℕ) → IsBehind x y → have_all x.code ats ≡ true → have_all y.code ats ≡ true
have_later x y [] more has = refl
have_later x y (at ∷ ats) more has =
    ap₂ (λ a b. a && b) (behind_has x y at more (and-left _ _ has)) (have_later x y ats more (and-right _ _ has))

pub branches_have :
    (s : Site) (i : ℕ) (alts : AltTrees) (x z : Made) → BranchesMade s i alts x z → have_all z.code (branch_ends s i alts (length x.code)) ≡ true
branches_have s i no_alts x z same = refl
branches_have s i (more_alts a alts) x z (y, first, rest) =
    let j = i + alt_scopes a in
    let ends = end_of s i a (length x.code) in
    let next : length y.code ≡ length x.code + (branch_code s i a 0).size = omega (arith, first.size, open_size s i a 0) in
    have_all-both z.code ends (branch_ends s j alts (length x.code + (branch_code s i a 0).size))
    (have_later y z ends (branches_behind s j alts y z rest) (branch_have s i a x y first))
    (ap (λ k. have_all z.code (branch_ends s j alts k)) (sym next) ∙ branches_have s j alts y z rest)

-- led behind all of them and the else part, they are the code of the definition
pub branches_led :
    (s : Site) (i : ℕ) (alts : AltTrees) (behind : ℕ) (x z : Made) (t : ℕ) → BranchesMade s i alts x z
    → t ≡ length x.code + (branches_code s i alts behind).size + behind
    → IsMade (branches_code s i alts behind) x (through (λ l. all_led l (branch_ends s i alts (length x.code)) t) z)
branches_led s i no_alts behind x z t same is = subst (λ (m : Made). IsMade nothing x m) same (made_nothing x)
branches_led s i (more_alts a alts) behind x z t (y, first, rest) is =
    let j = i + alt_scopes a in
    let others = branches_code s j alts behind in
    let between = others.size + behind in
    let ends = end_of s i a (length x.code) in
    let at = length x.code + (branch_code s i a 0).size in
    let f : Lined → Lined = λ l. all_led l ends t in
    let size : length y.code ≡ length x.code + (branch_code s i a between).size = omega (arith, first.size, open_size s i a between) in
    let patching : IsPatching (length y.code) f = all_patching y.code ends t (branch_have s i a x y first) in
    let same : length (f y.code) ≡ at = patching.long y.code ∙ size ∙ ap (λ k. length x.code + k) (branch_size s i a between 0) in
    let one_led = branch_led s i a x y t between first (omega (arith, is, size)) in
    let behind_led = branches_led s j alts behind (through f y) (through f z) t (branches_through (length y.code) f s j alts y z patching (omega arith) rest)
    (omega (arith, is, size, patching.long y.code)) in
    let more : IsMade others (through f y) (through (λ l. all_led l (branch_ends s j alts at) t) (through f z)) =
    subst (λ k. IsMade others (through f y) (through (λ l. all_led l (branch_ends s j alts k) t) (through f z))) same behind_led in
    subst (λ (l : Lined). IsMade (branch_code s i a between ⨾ others) x (record z { code = l }))
    (sym (all_led-both z.code ends (branch_ends s j alts at) t))
    (made_both (branch_code s i a between) others x (through f y) (through (λ l. all_led l (branch_ends s j alts at) t) (through f z)) one_led more)

-- ## Where they begin

map_both : (f : ℕ → ℕ) (xs ys : List ℕ) → map f (xs ++ ys) ≡ map f xs ++ map f ys
map_both f [] ys = refl
map_both f (x ∷ xs) ys = ap (λ (l : List ℕ). f x ∷ l) (map_both f xs ys)

replicas_far : (first from : ℕ) (rs : List Replica) → branch_addresses first (replica_branches from rs) ≡ replica_branches (first + from) rs
replicas_far first from [] = refl
replicas_far first from (r ∷ rs) =
    let next : first + (from + 4) ≡ first + from + 4 = omega arith in
    ap (λ (l : List ℕ). (first + from) ∷ l) (replicas_far first (from + 4) rs ∙ ap (λ k. replica_branches k rs) next)

from_far : (s : Site) (first from : ℕ) (spread : Option Spread) → branch_addresses first (branches_from s from spread) ≡ branches_from s (first + from) spread
from_far s first from None = refl
from_far s first from (Some spread) = replicas_far first from (replicas (context_of s) spread)

pub starts_far :
    (s : Site) (i first from : ℕ) (alts : AltTrees)
    → branch_starts s i alts (first + from) ≡ branch_addresses first (distances s i from alts)
starts_far s i first from no_alts = refl
starts_far s i first from (more_alts a alts) =
    let size = (branch_code s i a 0).size in
    let j = i + alt_scopes a in
    let next : first + from + size ≡ first + (from + size) = omega arith in
    ap₂ (λ (x y : List ℕ). x ++ y) (sym (from_far s first from (spread_of a)))
    (ap (λ k. branch_starts s j alts k) next ∙ starts_far s j first (from + size) alts)
    ∙ sym (map_both (λ d. first + d) (branches_from s from (spread_of a)) (distances s j (from + size) alts))

-- there is one for each alternative
replicas_many : (from : ℕ) (rs : List Replica) → length (replica_branches from rs) ≡ length rs
replicas_many from [] = refl
replicas_many from (r ∷ rs) = ap suc (replicas_many (from + 4) rs)

map_many : (f : Replica → Alternative) (rs : List Replica) → length (map f rs) ≡ length rs
map_many f [] = refl
map_many f (r ∷ rs) = ap suc (map_many f rs)

spread_many :
    (s : Site) (i from : ℕ) (spread : Option Spread) (guard : Option ExprTree) (comm : CommTree) (ss : StmtTrees)
    → length (branches_from s from spread) ≡ length (spread_out (context_of s) i spread guard comm ss)
spread_many s i from None guard comm ss = refl
spread_many s i from (Some spread) guard comm ss =
    replicas_many from (replicas (context_of s) spread)
    ∙ sym (map_many (λ r. alternative i guard comm ss (Some r)) (replicas (context_of s) spread))

pub distances_many : (s : Site) (i from : ℕ) (alts : AltTrees) → length (distances s i from alts) ≡ length (alternatives (context_of s) i alts)
distances_many s i from no_alts = refl
distances_many s i from (more_alts (alt spread guard comm ss) alts) =
    let a = alt spread guard comm ss in
    let j = i + alt_scopes a in
    let size = (branch_code s i a 0).size in
    length-append (branches_from s from spread) (distances s j (from + size) alts)
    ∙ ap₂ (λ x y. x + y) (spread_many s i from spread guard comm ss) (distances_many s j (from + size) alts)
    ∙ sym (length-append (spread_out (context_of s) i spread guard comm ss) (alternatives (context_of s) j alts))
