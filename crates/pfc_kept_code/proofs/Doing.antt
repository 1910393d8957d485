-- All is kept where a process tries no other's guard.
use Rattle.std.proofs.Common.{◌≡◌, Bool, sym, ap, subst}
use Rattle.pfc_types.specs.rules.Expressions.{Env}
use Rattle.pfc_semantics.specs.Programs.{Block}
use Rattle.pfc_semantics.specs.Remainders.{scan_on}
use Rattle.pfc_semantics.specs.Rewriting.{going, holding}
use Rattle.pfc_standing_code.specs.Settings.{View, Trial, Setting, of_own, of_turn, IsBeside, same_block, both_mains}
use Rattle.pfc_standing_code.specs.Words.{IsChecked}
use Rattle.pfc_standing_code.specs.Performs.{Performs}
use Rattle.pfc_standing_code.specs.Awaits.{TakesValue, TakesLocation, CallsAt}
use Rattle.pfc_standing_code.proofs.Checked.{asked_then}
use Rattle.pfc_kept_code.specs.Kept.{Among, Agree, with_view, KeepsNames, KeepsRemainders, KeepsTurns, KeepsValues, KeepsLocations, KeepsCalls, KeepsDoing}
use Rattle.pfc_kept_code.proofs.Words.{names_kept}
use Rattle.pfc_kept_code.proofs.Remainders.{performs_kept, turn_kept}
use Rattle.pfc_kept_code.proofs.Awaits.{values_kept, locations_kept, calls_kept}

pub keeps_names : (g : Setting) (view : View) (b : Block) (names : Env → Bool) → Agree g view b names → KeepsNames g view b names
keeps_names g view b names agree env named checked = names_kept g view b env (agree b env same_block named) checked

module _ (g : Setting) (view : View) (b : Block) (names : Env → Bool) (trial : g.trial ≡ of_own) (agree : Agree g view b names) where
  abbrev before : Setting
  before = record g { trial = of_own }

  abbrev later : Setting
  later = record g { view = view; trial = of_own }

  own : g ≡ before
  own = ap (λ (t : Trial). record g { trial = t }) trial

  own_later : with_view g view ≡ later
  own_later = ap (λ (t : Trial). record g { view = view; trial = t }) trial

  agreed : Agree before view b names
  agreed = subst (λ (y : Setting). Agree y view b names) own agree

  pub keeps_remainders : KeepsRemainders g view b names
  keeps_remainders k env at ops arms named inside h =
      subst (λ (y : Setting). Performs y b env at ops arms k) (sym own_later)
      (performs_kept g view b names agreed g.accepts g.meetings k b same_block env at ops arms named inside
      (subst (λ (y : Setting). Performs y b env at ops arms k) own h))

  pub keeps_values : KeepsValues g view b names
  keeps_values u x at ops arms shape named inside h =
      subst (λ (y : Setting). TakesValue y b x at ops arms shape u) (sym own_later)
      (values_kept g view b names agreed x named u at ops arms shape inside (subst (λ (y : Setting). TakesValue y b x at ops arms shape u) own h))

  pub keeps_locations : KeepsLocations g view b names
  keeps_locations goal x at ops arms t named inside h =
      subst (λ (y : Setting). TakesLocation y b x at ops arms t goal) (sym own_later)
      (locations_kept g view b names agreed x named goal at ops arms t inside (subst (λ (y : Setting). TakesLocation y b x at ops arms t goal) own h))

  pub keeps_calls : KeepsCalls g view b names
  keeps_calls call x at ops arms formals named inside h =
      subst (λ (y : Setting). CallsAt y b x at ops arms formals call) (sym own_later)
      (calls_kept g view b names agreed x named call at ops arms formals inside (subst (λ (y : Setting). CallsAt y b x at ops arms formals call) own h))

  pub keeps_doing : KeepsDoing g view b names
  keeps_doing (going env k) at ops arms inside h = (
    asked_then (Among names) (λ (e : Env). IsChecked g b e) (λ (e : Env). IsChecked (with_view g view) b e) env k
        (λ named checked. keeps_names g view b names agree env named checked) inside.0 h.0,
    keeps_remainders k env at ops arms inside.0 inside.1 h.1,
  )
  keeps_doing (holding x v u) at ops arms inside h =
      (h.0, h.1, keeps_names g view b names agree x.env inside.0 h.2, h.3, h.4, keeps_values u x at h.1 arms h.0 inside.0 inside.1 h.5)

module _ (g : Setting) (view : View) (b : Block) (names : Env → Bool) (agree : Agree g view g.block names) where
  pub keeps_turns : KeepsTurns g view b names
  keeps_turns scan k env at ops arms back trial inside h =
      let here : g ≡ record g { trial = of_turn scan back } = ap (λ (t : Trial). record g { trial = t }) trial in
      let there : with_view g view ≡ record g { view = view; trial = of_turn scan back } = ap (λ (t : Trial). record g { view = view; trial = t }) trial in
      let agreed : Agree (record g { trial = of_own }) view g.block names = agrees_alike agree in (
        tt,
        subst (λ (y : Setting). Performs y b env at ops arms (scan_on scan k)) (sym there)
            (turn_kept g view g.block names agreed scan back k same_block b env at ops arms inside
            (subst (λ (y : Setting). Performs y b env at ops arms (scan_on scan k)) here h.1)),
      )
    where
      beside_own : (c : Block) → IsBeside (record g { trial = of_own }) g.block c → IsBeside g g.block c
      beside_own _ same_block = same_block
      beside_own _ (both_mains c m n) = both_mains c m n

      agrees_alike : Agree g view g.block names → Agree (record g { trial = of_own }) view g.block names
      agrees_alike f = λ c env beside named. f c env (beside_own c beside) named
