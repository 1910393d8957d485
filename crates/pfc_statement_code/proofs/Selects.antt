-- A select: what stands behind its alternatives, made part by part.
use Rattle.std.proofs.Common.{◌≡◌, ◌+◌, ℕ, Bool, true, if◌then◌else◌, List, [], ◌∷◌, length, drop, Option, Some, None, refl, ap, ap₂, subst, arith}
use Rattle.pfc_code.specs.declared.instructions.Instr.TheVariants.{SEL}
use Rattle.pfc_tree.specs.trees.Exprs.{ExprTree}
use Rattle.pfc_tree.specs.trees.Stmts.{AltTrees, CommTree, comm_accept, comm_send, comm_receive, timeout, terminate}
use Rattle.pfc_semantics.specs.Remainders.{Alternative}
use Rattle.pfc_translation.specs.Sites.{Site}
use Rattle.pfc_translation.specs.Codes.{Code, Lined, nothing, ◌⨾◌, one}
use Rattle.pfc_translation.specs.Expressions.{expr_code}
use Rattle.pfc_translation.specs.Selects.{comm_code, guarded_code, replica_code, alternatives_code, first_of}
use Rattle.pfc_translation.specs.Statements.{sel_code, branches_code}
use Rattle.pfc_emit.specs.Patches.{has_address_at, patched}
use Rattle.pfc_emit.proofs.Patches.{length-patched}
use Rattle.pfc_expression_code.specs.Putting.{Made, IsMade}
use Rattle.pfc_expression_code.proofs.Joining.{made_nothing, made_both}
use Rattle.pfc_select_code.specs.Alternatives.{open_comm, open_alternatives}
use Rattle.pfc_statement_code.specs.Branches.{branch_ends, BranchesMade}
use Rattle.pfc_statement_code.specs.Leading.{have_all, all_led}
use Rattle.pfc_statement_code.proofs.Making.{made_alone}
use Rattle.pfc_statement_code.proofs.Leading.{IsPatching, patching_one, all_patching, through, made_through, led, last_has, behind_none, behind_made}
use Rattle.pfc_statement_code.proofs.Leading.{behind_has}
use Rattle.pfc_statement_code.proofs.Branches.{branches_behind, branches_length, branches_through, branches_have, branches_led, have_later}
use Rattle.pfc_statement_code.proofs.Forms.{alone_led}

-- ## Sizes

comm_size : (s : Site) (n : ℕ) (c : CommTree) (branch : ℕ) → (open_comm s n c).size ≡ (comm_code s n c branch).size
comm_size s n (comm_accept a p) branch = refl
comm_size s n (comm_send d e p) branch = refl
comm_size s n (comm_receive d v p) branch = refl
comm_size s n (timeout e p) branch = refl
comm_size s n (terminate p) branch = refl

guarded_size :
    (s : Site) (n : ℕ) (guard : Option ExprTree) (c : CommTree) (branch : ℕ)
    → (guarded_code s guard (open_comm s n c)).size ≡ (guarded_code s guard (comm_code s n c branch)).size
guarded_size s n None c branch = comm_size s n c branch
guarded_size s n (Some e) c branch = ap (λ k. (expr_code s e).size + (1 + k)) (comm_size s n c branch)

pub alternatives_size : (s : Site) (all : List Alternative) (branches : List ℕ) → (open_alternatives s all).size ≡ (alternatives_code s all branches).size
alternatives_size s [] branches = refl
alternatives_size s (a ∷ rest) branches =
    let behind = alternatives_code s rest (drop 1 branches) in
    ap₂ (λ x y. (replica_code s a.replica).size + x + y) (guarded_size s a.next a.guard a.comm (behind.size + 1 + first_of branches))
    (alternatives_size s rest (drop 1 branches))

-- ## Without an else part

module _ (s : Site) (i : ℕ) (pri : Bool) (alts : AltTrees) (x y z : Made) where
  pub select_rest :
      IsMade (sel_code s pri None) x y → BranchesMade s i alts y z
      → IsMade (sel_code s pri None ⨾ branches_code s i alts 0 ⨾ nothing) x
      (through (λ l. all_led l (branch_ends s i alts (length y.code)) (length z.code)) z)
  select_rest sel branches =
      let w = through (λ l. all_led l (branch_ends s i alts (length y.code)) (length z.code)) z in
      made_both (sel_code s pri None) (branches_code s i alts 0 ⨾ nothing) x y w sel
      (made_both (branches_code s i alts 0) nothing y w w
      (branches_led s i alts 0 y z (length z.code) branches (omega (arith, branches_length s i alts 0 y z branches)))
      (made_nothing w))

-- ## With one

-- The `SEL` at an address, the branches, and the code of the else part, to which the `SEL` was led.
module _ (s : Site) (i : ℕ) (pri : Bool) (alts : AltTrees) (o : Code) (at : ℕ) (x y z v : Made) where
  abbrev kind : ℕ
  kind = if pri then 1 else 0

  abbrev led_to : Made → Made
  led_to m = led m at (length z.code)

  pub sel_has : IsMade (sel_code s pri None) x y → at ≡ length x.code → BranchesMade s i alts y z → has_address_at z.code at ≡ true
  sel_has sel here branches =
      behind_has y z at (branches_behind s i alts y z branches)
      (last_has s nothing (SEL kind 0) x y at (made_alone (one s (SEL kind 0)) x y sel) (omega (arith, sel.size, here)) refl)

  sel_through : IsMade (sel_code s pri None) x y → at ≡ length x.code → BranchesMade s i alts y z → BranchesMade s i alts (led_to y) (led_to z)
  sel_through sel here branches =
      branches_through (length y.code) (λ l. patched l at (length z.code)) s i alts y z
      (patching_one (length y.code) at (length z.code) (omega (arith, sel.size, here))) (omega arith) branches

  ends_have :
      IsMade (sel_code s pri None) x y → at ≡ length x.code → BranchesMade s i alts y z
      → have_all (led_to z).code (branch_ends s i alts (length y.code)) ≡ true
  ends_have sel here branches =
      subst (λ k. have_all (led_to z).code (branch_ends s i alts k) ≡ true) (length-patched y.code at (length z.code))
      (branches_have s i alts (led_to y) (led_to z) (sel_through sel here branches))

  pub else_have :
      IsMade (sel_code s pri None) x y → at ≡ length x.code → BranchesMade s i alts y z → IsMade o (led_to z) v
      → have_all v.code (branch_ends s i alts (length y.code)) ≡ true
  else_have sel here branches other =
      have_later (led_to z) v (branch_ends s i alts (length y.code)) (behind_made o (led_to z) v v other (behind_none v v refl))
      (ends_have sel here branches)

  pub else_rest :
      IsMade (sel_code s pri None) x y → at ≡ length x.code → BranchesMade s i alts y z → IsMade o (led_to z) v
      → IsMade (sel_code s pri (Some (branches_code s i alts o.size).size) ⨾ branches_code s i alts o.size ⨾ o) x
      (through (λ l. all_led l (branch_ends s i alts (length y.code)) (length v.code)) v)
  else_rest sel here branches other =
      let ends = branch_ends s i alts (length y.code) in
      let f : Lined → Lined = λ l. all_led l ends (length v.code) in
      let all = branches_code s i alts o.size in
      let size = branches_length s i alts o.size y z branches in
      let same = length-patched y.code at (length z.code) in
      let long = length-patched z.code at (length z.code) in
      let patching : IsPatching (length (led_to z).code) f = all_patching (led_to z).code ends (length v.code) (ends_have sel here branches) in
      let decided : IsMade (sel_code s pri (Some all.size)) x (led_to y) =
      alone_led s (SEL kind 0) (λ n. SEL kind n) at (length z.code) all.size x y sel here (λ n. refl) (omega (arith, here, sel.size, size)) in
      let closed : IsMade all (led_to y) (through f (led_to z)) =
      subst (λ k. IsMade all (led_to y) (through (λ l. all_led l (branch_ends s i alts k) (length v.code)) (led_to z))) same
      (branches_led s i alts o.size (led_to y) (led_to z) (length v.code) (sel_through sel here branches)
      (omega (arith, other.size, long, same, size))) in
      made_both (sel_code s pri (Some all.size)) (all ⨾ o) x (led_to y) (through f v) decided
      (made_both all o (led_to y) (through f (led_to z)) (through f v) closed
      (made_through (length (led_to z).code) f o (led_to z) v patching (omega arith) other))
