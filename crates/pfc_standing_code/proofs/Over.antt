-- What is left is performed over the operands of the callers.
use Rattle.std.proofs.Common.{◌≡◌, ℕ, ℤ, List, [], ◌∷◌, ap, ◌∙◌}
use Rattle.pfc_types.specs.rules.Expressions.{Env}
use Rattle.pfc_semantics.specs.Programs.{Block}
use Rattle.pfc_semantics.specs.Remainders.{Way, Remainder, leave, own, ends, perform, in_names, turn, until, behind_pass, next_pass, write_on, read_on}
use Rattle.pfc_semantics.specs.Remainders.{at_coend, part_from, write_again, go_through, try_guard, scan_on, try_other}
use Rattle.pfc_standing_code.specs.Settings.{Setting, AreOver, parted}
use Rattle.pfc_standing_code.specs.Effects.{Arm}
use Rattle.pfc_standing_code.specs.Performs.{WayAt, own_again, own_block, Performs}
use Rattle.pfc_standing_code.specs.Awaits.{PerformsAnywhere}

-- over more operands
pub over_more : (g : Setting) (ops below : List ℤ) (x y z : ℤ) → ops ≡ x ∷ y ∷ z ∷ below → AreOver g below → AreOver g ops
over_more g ops below x y z e h = (x ∷ y ∷ z ∷ h.0, e ∙ ap (λ (l : List ℤ). x ∷ y ∷ z ∷ l) h.1)

way_over : (g : Setting) (b : Block) (way : Way) (at held : ℕ) (P : ℕ → Type 0) (A : Type 0) → ((end : ℕ) → P end → A) → WayAt g b way at held P → A
way_over g b leave at held P A f h = f at h
way_over g b (own bar) at held P A f h = let guard = h.2 in f _ guard.4

pub performs_over : (k : Remainder) (g : Setting) (b : Block) (env : Env) (at : ℕ) (ops : List ℤ) (arms : List Arm) → Performs g b env at ops arms k
    → AreOver g ops
performs_over (ends line) g b env at ops arms h = let p = h.1.2 in ([], p.0)
performs_over (perform m ts k) g b env at ops arms h = let p = h.1.2.1 in performs_over k g b env _ ops [] p.2
performs_over (in_names inner k) g b env at ops arms h = let p = h.1 in performs_over k g p.0 inner at ops arms p.3
performs_over (turn m loop k) g b env at ops arms h = let p = h.1.2 in performs_over k g b env _ ops [] p.3.2
performs_over (until m ts e q k) g b env at ops arms h = let p = h.1.2 in performs_over k g b env _ ops [] p.3.2
performs_over (behind_pass f k) g b env at ops arms h =
    let p = h.1.2 in over_more g ops p.2 f.last f.kept p.3.w p.3.held (performs_over k g b env _ p.2 [] p.6)
performs_over (next_pass f k) g b env at ops arms h =
    let p = h.1.2 in over_more g ops p.1 f.last f.kept p.2.w p.2.held (performs_over k g b env _ p.1 [] p.4)
performs_over (write_on line args newline k) g b env at ops arms h = let p = h.1.2 in performs_over k g b env _ ops [] p.3
performs_over (read_on line args skip k) g b env at ops arms h = let p = h.1.2 in performs_over k g b env _ ops [] p.3
performs_over (at_coend line k) g b env at ops arms h = let p = h.1.2 in performs_over k g b env _ ops [] p.1
performs_over (part_from caller line k) g b env at ops arms h = let p = h.1.2 in performs_over k (parted g) b env _ ops [] p.3
performs_over (write_again r k) g b env at ops arms h = let p = h.1.2 in performs_over k g b env _ ops [] p.3
performs_over (go_through line a rest sel k) g b env at ops arms h =
    let p = h.1.2 in performs_over k g b env p.1.others.end ops [] p.1.others.left_behind
performs_over (try_guard bar k) g b env at ops arms h =
    let p = h.1.2 in performs_over k g b env _ ops [] (p.1.4 env).1
performs_over (scan_on scan k) g b env at ops arms h =
    let c = own_block g.trial g.block in
    let p = h.1.2 in
    way_over (own_again g) c scan.way _ _ (λ (end : ℕ). PerformsAnywhere (own_again g) c end ops k) (AreOver g ops)
    (λ end q. performs_over k (own_again g) c env end ops [] (q env).1) p.2
performs_over (try_other w scan k) g b env at ops arms h =
    let c = own_block g.trial g.block in
    let p = h.1.2 in
    way_over (own_again g) c scan.way _ _ (λ (end : ℕ). PerformsAnywhere (own_again g) c end ops k) (AreOver g ops)
    (λ end q. performs_over k (own_again g) c env end ops [] (q env).1) p.3
