-- What is read and what is written, where no rule is broken.
use Rattle.std.proofs.Common.{◌≡◌, ℕ, Bool, true, false, ◌&&◌, ◌||◌, if◌then◌else◌, List, Option, Some, None, refl, sym, ap, ◌∙◌}
use Rattle.pfc_tree.specs.Symbols.{Text}
use Rattle.pfc_tree.specs.trees.Exprs.{ExprTree, ActualTree, ActualTrees, plain, related, sum, no_summands, more_summands, product, no_multipliers}
use Rattle.pfc_tree.specs.trees.Exprs.{more_multipliers, number, literal, negation, paren, applied, desig, actual, actual_width, no_actuals, more_actuals}
use Rattle.pfc_types.specs.Faults.{◌⨾◌, unless}
use Rattle.pfc_types.specs.Types.{integer, char, is_same, is_simple}
use Rattle.pfc_types.specs.Scopes.{Level}
use Rattle.pfc_types.specs.declared.types.TypeId.{TypeId}
use Rattle.pfc_types.specs.declared.view.Around.{Around}
use Rattle.pfc_types.specs.rules.Kinds.{may_have, may_be_simple, value_rule}
use Rattle.pfc_types.specs.rules.Constants.{is_char}
use Rattle.pfc_types.specs.rules.Expressions.{as_desig, as_literal, expr_place, expr_type, is_variable, broken_expr}
use Rattle.pfc_types.specs.rules.Calls.{may_be_read, broken_read, broken_reads, written, broken_written, broken_writes}
use Rattle.pfc_types.proofs.Clean.{clean, and-left, and-right}
use Rattle.pfc_semantics.specs.Programs.{Block, Program}
use Rattle.pfc_semantics.specs.Statements.{string_in, as_string, item_of}
use Rattle.pfc_translation.specs.Sites.{Site}
use Rattle.pfc_standing_code.specs.Shapes.{a_number}
use Rattle.pfc_standing_code.specs.Typed.{HasShape, IsVariable}
use Rattle.pfc_standing_code.specs.TypedStatements.{IsItem, IsWritten, AreWritten, IsRead, AreRead}
use Rattle.pfc_typed_phrases.specs.Names.{AreKnown}
use Rattle.pfc_typed_phrases.proofs.Rules.{holds, same_type}
use Rattle.pfc_typed_phrases.proofs.Names.{site_in}
use Rattle.pfc_typed_phrases.proofs.Phrases.{expr_typed, as_number, lent_variable}

module _ (g : Program) (block : Block) (view : List Level) (around : Around) (line : ℕ) (known : AreKnown (site_in g block view around line)) where
  abbrev pub s : Site
  s = site_in g block view around line

  -- an expression that may be simple is a number
  number_of : (e : ExprTree) → clean (broken_expr s.env e) ≡ true → may_be_simple (expr_type s.env e) ≡ true → HasShape s e a_number
  number_of e h simple =
      let x = expr_typed g block view around line known e h in
      as_number g block view around line known e x.0 x.2 (ap may_be_simple (sym x.1) ∙ simple)

  -- ## Output

  -- a literal is a number where it is no string
  literal_number : (e : ExprTree) (x : Text) → as_literal e ≡ Some x → HasShape s e a_number
  literal_number (related a r u q) x h = absurd (cc)
  literal_number (plain (sum (Some sign) k us) q) x h = absurd (cc)
  literal_number (plain (sum None (product (number k r) ms) us) q) x h = absurd (cc)
  literal_number (plain (sum None (product (applied d args r) ms) us) q) x h = absurd (cc)
  literal_number (plain (sum None (product (negation f r) ms) us) q) x h = absurd (cc)
  literal_number (plain (sum None (product (paren e r) ms) us) q) x h = absurd (cc)
  literal_number (plain (sum None (product (literal y r) (more_multipliers op f ms)) us) q) x h = absurd (cc)
  literal_number (plain (sum None (product (literal y r) no_multipliers) (more_summands op k us)) q) x h = absurd (cc)
  literal_number (plain (sum None (product (literal y r) no_multipliers) no_summands) q) x h = refl

  item_typed : (e : ExprTree) → clean (written s.env (as_literal e) e) ≡ true → IsItem s (as_string e) e
  item_typed e h = by (as_literal e) refl h
    where
      string : (x : Text) (b : Bool) → as_literal e ≡ Some x → IsItem s (if b then None else Some x) e
      string x true is = literal_number e x is
      string x false is = tt

      by : (o : Option Text) → as_literal e ≡ o → clean (written s.env o e) ≡ true → IsItem s (string_in o) e
      by (Some x) is h = string x (is_char x) is
      by None is h =
          let one = clean (broken_expr s.env e) in
          let two = clean (unless (may_be_simple (expr_type s.env e)) (expr_place e) 326) in
          let last = clean (value_rule g.state.forms (expr_type s.env e) (expr_place e)) in
          number_of e (and-left one (two && last) h) (holds (may_be_simple (expr_type s.env e)) (expr_place e) 326
          (and-left two last (and-right one (two && last) h)))

  written_typed : (a : ActualTree) → clean (broken_written s.env a) ≡ true → IsWritten s a
  written_typed (actual e) h = item_typed e h
  written_typed (actual_width e w) h =
      let first = clean (written s.env (as_literal e) e) in
      let one = clean (broken_expr s.env w) in
      let two = clean (unless (may_have integer (expr_type s.env w)) (expr_place w) 324) in
      let behind = and-right first (one && two) h in
      let x = expr_typed g block view around line known w (and-left one two behind) in
      let same = same_type x.0 integer (ap (may_have integer) (sym x.1) ∙
      holds (may_have integer (expr_type s.env w)) (expr_place w) 324 (and-right one two behind)) in
      (item_typed e (and-left first (one && two) h), as_number g block view around line known w x.0 x.2 (ap is_simple same))

  pub writes_typed : (args : ActualTrees) → clean (broken_writes s.env args) ≡ true → AreWritten s args
  writes_typed no_actuals h = tt
  writes_typed (more_actuals a rest) h = (
    written_typed a (and-left (clean (broken_written s.env a)) (clean (broken_writes s.env rest)) h),
    writes_typed rest (and-right (clean (broken_written s.env a)) (clean (broken_writes s.env rest)) h),
  )

  -- ## Input

  read_variable : (e : ExprTree) (t : TypeId) → is_simple t ≡ true → IsVariable s e (Some t) → IsRead s (as_desig e)
  read_variable (related a r u q) t simple is = absurd is
  read_variable (plain (sum (Some sign) k us) q) t simple is = absurd is
  read_variable (plain (sum None (product (number k r) ms) us) q) t simple is = absurd is
  read_variable (plain (sum None (product (literal x r) ms) us) q) t simple is = absurd is
  read_variable (plain (sum None (product (negation f r) ms) us) q) t simple is = absurd is
  read_variable (plain (sum None (product (paren e r) ms) us) q) t simple is = absurd is
  read_variable (plain (sum None (product (applied (desig x ss r) (more_actuals a args) o) ms) us) q) t simple is = absurd is
  read_variable (plain (sum None (product (applied (desig x ss r) no_actuals o) (more_multipliers op f ms)) us) q) t simple is = absurd is
  read_variable (plain (sum None (product (applied (desig x ss r) no_actuals o) no_multipliers) (more_summands op k us)) q) t simple is = absurd is
  read_variable (plain (sum None (product (applied (desig x ss r) no_actuals o) no_multipliers) no_summands) q) t simple is = (t, simple, is)

  readable : (t : TypeId) → may_be_read (Some t) ≡ true → is_simple t ≡ true
  readable t h = by (is_same t integer) refl h
    where
      by : (b : Bool) → is_same t integer ≡ b → (b || is_same t char) ≡ true → is_simple t ≡ true
      by true e h = ap is_simple (same_type t integer e)
      by false e h = ap is_simple (same_type t char h)

  read_of :
      (e : ExprTree) → clean (broken_expr s.env e) ≡ true → is_variable s.env None e ≡ true → may_be_read (expr_type s.env e) ≡ true → IsRead s (as_desig e)
  read_of e h lent reads =
      let x = expr_typed g block view around line known e h in
      read_variable e x.0 (readable x.0 (ap may_be_read (sym x.1) ∙ reads)) (lent_variable g block view around line known None e x.0 lent x.1 x.2).0

  read_typed : (a : ActualTree) → clean (broken_read s.env a) ≡ true → IsRead s (as_desig (item_of a))
  read_typed (actual e) h =
      let one = clean (broken_expr s.env e) in
      let two = clean (unless (is_variable s.env None e) (expr_place e) 318) in
      let three = clean (unless (may_be_read (expr_type s.env e)) (expr_place e) 326) in
      let last = clean (value_rule g.state.forms (expr_type s.env e) (expr_place e)) in
      let behind = and-right one (two && (three && last)) h in
      read_of e (and-left one (two && (three && last)) h) (holds _ (expr_place e) 318 (and-left two (three && last) behind))
      (holds _ (expr_place e) 326 (and-left three last (and-right two (three && last) behind)))
  read_typed (actual_width e w) h =
      let one = clean (broken_expr s.env e) in
      let two = clean (unless (is_variable s.env None e) (expr_place e) 318) in
      let three = clean (unless (may_be_read (expr_type s.env e)) (expr_place e) 326) in
      let last = clean (value_rule g.state.forms (expr_type s.env e) (expr_place e) ⨾ broken_expr s.env w ⨾ unless false (expr_place w) 324) in
      let behind = and-right one (two && (three && last)) h in
      read_of e (and-left one (two && (three && last)) h) (holds _ (expr_place e) 318 (and-left two (three && last) behind))
      (holds _ (expr_place e) 326 (and-left three last (and-right two (three && last) behind)))

  pub reads_typed : (args : ActualTrees) → clean (broken_reads s.env args) ≡ true → AreRead s args
  reads_typed no_actuals h = tt
  reads_typed (more_actuals a rest) h = (
    read_typed a (and-left (clean (broken_read s.env a)) (clean (broken_reads s.env rest)) h),
    reads_typed rest (and-right (clean (broken_read s.env a)) (clean (broken_reads s.env rest)) h),
  )
