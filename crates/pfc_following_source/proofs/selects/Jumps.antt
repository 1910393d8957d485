-- What is left is performed from a jump on, and behind statements.
use Rattle.std.proofs.Common.{◌≡◌, ℕ, ◌+◌, ◌<◌, ◌≤◌, ℤ, List, [], length, refl, sym, subst, arith, append-nil}
use Rattle.pfc_code.specs.declared.instructions.Instr.TheVariants.{JMP}
use Rattle.pfc_tree.specs.Symbols.{Text}
use Rattle.pfc_tree.specs.trees.Stmts.{StmtTrees, no_stmts, more_stmts}
use Rattle.pfc_types.specs.rules.Expressions.{Env}
use Rattle.pfc_semantics.specs.Programs.{Block}
use Rattle.pfc_semantics.specs.Remainders.{Remainder, ends, perform, in_names, turn, until, behind_pass, next_pass, write_on, read_on, at_coend, part_from}
use Rattle.pfc_semantics.specs.Remainders.{write_again, go_through, try_guard, scan_on, try_other}
use Rattle.pfc_semantics.specs.Alternatives.{context}
use Rattle.pfc_semantics.specs.Statements.{behind}
use Rattle.pfc_translation.specs.Codes.{Code, Lined, nothing, ◌⨾◌}
use Rattle.pfc_translation.specs.Operands.{most_operands}
use Rattle.pfc_translation.specs.Images.{instructions}
use Rattle.pfc_standing_code.specs.Settings.{Setting, of_own, site_of, IsAt, HasCode, HasTexts, Stands, Leads, arrived, jump}
use Rattle.pfc_standing_code.specs.Effects.{Arm}
use Rattle.pfc_standing_code.specs.Performs.{StmtsThen, Performs}

-- what is left is performed from a jump on
pub performs_jumped : (g : Setting) (b : Block) (env : Env) (k : Remainder) (at to : ℕ) (ops : List ℤ) (arms : List Arm) (line : ℕ) → IsAt g at (JMP to) line →
    at < to → Performs g b env to ops arms k → Performs g b env at ops arms k
performs_jumped g b env (in_names inner k) at to ops arms line is up h =
    let p = h.1 in (h.0, (p.0, p.1, p.2, performs_jumped g p.0 inner k at to ops arms line is up p.3))
performs_jumped g b env (go_through l a rest sel k) at to ops arms line is up h = (h.0, (h.1.0, jump at to h.1.0 line is up h.1.1, h.1.2))
performs_jumped g b env (ends l) at to ops arms line is up h = (h.0, (h.1.0, jump at to h.1.0 line is up h.1.1, h.1.2))
performs_jumped g b env (perform m ts k) at to ops arms line is up h = (h.0, (h.1.0, jump at to h.1.0 line is up h.1.1, h.1.2))
performs_jumped g b env (turn m t k) at to ops arms line is up h = (h.0, (h.1.0, jump at to h.1.0 line is up h.1.1, h.1.2))
performs_jumped g b env (until m ts e p k) at to ops arms line is up h = (h.0, (h.1.0, jump at to h.1.0 line is up h.1.1, h.1.2))
performs_jumped g b env (behind_pass f k) at to ops arms line is up h = (h.0, (h.1.0, jump at to h.1.0 line is up h.1.1, h.1.2))
performs_jumped g b env (next_pass f k) at to ops arms line is up h = (h.0, (h.1.0, jump at to h.1.0 line is up h.1.1, h.1.2))
performs_jumped g b env (write_on l args newline k) at to ops arms line is up h = (h.0, (h.1.0, jump at to h.1.0 line is up h.1.1, h.1.2))
performs_jumped g b env (read_on l args skip k) at to ops arms line is up h = (h.0, (h.1.0, jump at to h.1.0 line is up h.1.1, h.1.2))
performs_jumped g b env (at_coend l k) at to ops arms line is up h = (h.0, (h.1.0, jump at to h.1.0 line is up h.1.1, h.1.2))
performs_jumped g b env (part_from caller l k) at to ops arms line is up h = (h.0, (h.1.0, jump at to h.1.0 line is up h.1.1, h.1.2))
performs_jumped g b env (write_again r k) at to ops arms line is up h = (h.0, (h.1.0, jump at to h.1.0 line is up h.1.1, h.1.2))
performs_jumped g b env (try_guard bar k) at to ops arms line is up h = (h.0, (h.1.0, jump at to h.1.0 line is up h.1.1, h.1.2))
performs_jumped g b env (scan_on scan k) at to ops arms line is up h = (h.0, (h.1.0, jump at to h.1.0 line is up h.1.1, h.1.2))
performs_jumped g b env (try_other w scan k) at to ops arms line is up h = (h.0, (h.1.0, jump at to h.1.0 line is up h.1.1, h.1.2))

-- and from where some jumps lead there
pub performs_led : (g : Setting) (b : Block) (env : Env) (k : Remainder) (at to : ℕ) (ops : List ℤ) (arms : List Arm) → Leads g at to →
    Performs g b env to ops arms k → Performs g b env at ops arms k
performs_led g b env k _ _ ops arms (arrived at) h = h
performs_led g b env k _ _ ops arms (jump at to end line is up leads) h =
    performs_jumped g b env k at to ops arms line is up (performs_led g b env k to end ops arms leads h)

pub performs_at : (g : Setting) (b : Block) (env : Env) (k : Remainder) (at to : ℕ) (ops : List ℤ) → at ≡ to →
    Performs g b env at ops [] k → Performs g b env to ops [] k
performs_at g b env k at to ops e h = subst (λ (y : ℕ). Performs g b env y ops [] k) e h

-- code with nothing behind it
pub stands_alone : (g : Setting) (at n held : ℕ) (c : Code) → Stands g at n held c → Stands g at n held (c ⨾ nothing)
stands_alone g at n held c st =
    let few = st.arms in
    record {
      has = subst (λ (xs : Lined). HasCode g at xs) (sym (append-nil (c.put at n))) st.has;
      texts = subst (λ (xs : List Text). HasTexts g n xs) (sym (append-nil c.texts)) st.texts;
      room = subst (λ (xs : Lined). most_operands g.program held (instructions xs) ≤ g.room) (sym (append-nil (c.put at n))) st.room;
      arms = omega arith;
    }

-- statements that stand here, and what is left behind them
pub behind_performs :
    (g : Setting) (b : Block) (env : Env) (line m : ℕ) (ts : StmtTrees) (k : Remainder) (at : ℕ) (ops : List ℤ)
    → g.trial ≡ of_own → StmtsThen g (site_of g b (context env line)) at (length ops) m ts (λ end. Performs g b env end ops [] k)
    → Performs g b env at ops [] (behind m ts k)
behind_performs g b env line m no_stmts k at ops own h = performs_at g b env k (at + 0) at ops (omega arith) h.2
behind_performs g b env line m (more_stmts t ts) k at ops own h = ((own, refl), (at, arrived at, (line, h)))
