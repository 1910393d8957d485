-- In a scan only the guard of another is tried.
use Rattle.std.proofs.Common.{◌≡◌, ℕ, ◌==◌, ℤ, Bool, true, false, List, Option, Some, None, refl, sym, subst, arith, inl, inr}
use Rattle.std.proofs.lemmas.Bool.Decides.{nat_tests}
use Rattle.std.proofs.lemmas.Option.{same_Some}
use Rattle.pfc_types.specs.declared.types.TypeId.{TypeId}
use Rattle.pfc_types.specs.declared.heads.Formal.{Formal}
use Rattle.pfc_types.specs.declared.view.Found.{Found}
use Rattle.pfc_types.specs.declared.predeclared.PredeclaredName.{PredeclaredName}
use Rattle.pfc_types.specs.declared.predeclared.PredeclaredName.TheVariants as name
use Rattle.pfc_types.specs.declared.scope.Meaning.{Meaning}
use Rattle.pfc_types.specs.declared.scope.Meaning.TheVariants.{Variable, Sub, Predeclared}
use Rattle.pfc_types.specs.Scopes.{meaning_of}
use Rattle.pfc_types.specs.Blocks.{Blocks, State}
use Rattle.pfc_types.specs.rules.Routines.{guard_function}
use Rattle.pfc_types.specs.rules.Expressions.{Env, guard_names, guard_allows}
use Rattle.pfc_semantics.specs.Predeclared.{function_of}
use Rattle.pfc_semantics.specs.Programs.{Block}
use Rattle.pfc_semantics.specs.Remainders.{Context, Call, Action, to_procedure, to_function, to_module, to_requeue, to_process, to_entry, reads, writes, turns}
use Rattle.pfc_semantics.specs.Remainders.{calls, finishes, prints, inputs, skips, asks_eof, asks_eoln, asks_clock, asks_empty, draws, joins, initials, waits}
use Rattle.pfc_semantics.specs.Remainders.{signals, delays, resumes, sleeps, meets, decides, parts, scans, bars, passes, faults}
use Rattle.pfc_semantics.specs.Expressions.{named_spot, found_spot, spot_of}
use Rattle.pfc_translation.specs.Sites.{is_mains}
use Rattle.pfc_standing_code.specs.Settings.{Trial, Setting, of_own, of_turn, of_another, is_of_mains, IsInTrial, MayRead}
use Rattle.pfc_standing_code.specs.Effects.{Arm}
use Rattle.pfc_standing_code.specs.Awaits.{is_asked, CallsAt}
use Rattle.pfc_standing_code.specs.Following.{ArrivedBy, may_scan}

never : {A : Type 0} → true ≡ false → A
never e = absurd (by e)
  where
    by : true ≡ false → ⊥
    by e = cc

pub calls_own : (g : Setting) (b : Block) (x : Context) (at : ℕ) (ops : List ℤ) (arms : List Arm) (formals : List Formal) (call : Call)
    → CallsAt g b x at ops arms formals call → g.trial ≡ of_own
calls_own g b x at ops arms formals (to_procedure scope k) h = h.0.0
calls_own g b x at ops arms formals (to_function scope u) h = h.0
calls_own g b x at ops arms formals (to_module n scope k) h = h.0.0
calls_own g b x at ops arms formals (to_requeue scope) h = h.0.0
calls_own g b x at ops arms formals (to_process v k) h = h.0.0
calls_own g b x at ops arms formals (to_entry v entry k) h = h.0.0

pub arrived_own : (g : Setting) (b : Block) (at : ℕ) (ops : List ℤ) (arms : List Arm) (n : Action) → ArrivedBy g b at ops arms n → may_scan n ≡ false
    → g.trial ≡ of_own
arrived_own g b at ops arms (reads x v u) h e = never e
arrived_own g b at ops arms (writes x v new k) h e = h.0
arrived_own g b at ops arms (turns x k) h e = h.0.0
arrived_own g b at ops arms (calls x call given) h e = calls_own g b x at h.1 arms h.0 call h.3
arrived_own g b at ops arms (finishes line) h e = h.0.0
arrived_own g b at ops arms (prints x bytes k) h e = h.0.0
arrived_own g b at ops arms (inputs x t v k) h e = h.0.0
arrived_own g b at ops arms (skips x k) h e = h.0.0
arrived_own g b at ops arms (asks_eof x u) h e = h.0
arrived_own g b at ops arms (asks_eoln x u) h e = h.0
arrived_own g b at ops arms (asks_clock x u) h e = h.0
arrived_own g b at ops arms (asks_empty x v u) h e = h.0
arrived_own g b at ops arms (draws x n u) h e = h.0
arrived_own g b at ops arms (joins x k) h e = h.0.0
arrived_own g b at ops arms (initials x v n k) h e = h.0.0
arrived_own g b at ops arms (waits x v k) h e = h.0.0
arrived_own g b at ops arms (signals x v k) h e = h.0.0
arrived_own g b at ops arms (delays x v n k) h e = h.0.0
arrived_own g b at ops arms (resumes x v k) h e = h.0.0
arrived_own g b at ops arms (sleeps x n k) h e = h.0.0
arrived_own g b at ops arms (meets x o k) h e = h.0.0
arrived_own g b at ops arms (decides x sel k) h e = h.0
arrived_own g b at ops arms (parts x caller k) h e = h.0.0
arrived_own g b at ops arms (scans x scan k) h e = never e
arrived_own g b at ops arms (bars x bar k) h e = h.0.0
arrived_own g b at ops arms (passes x w scan k) h e = never e
arrived_own g b at ops arms (faults x f) h e = never e

-- ## Names in view

-- a process in no scan may have any names in view, and one that is in a scan those of a guard
pub own_tried : (t : Trial) (env : Env) → t ≡ of_own → IsInTrial t env
own_tried t env own = subst (λ (y : Trial). IsInTrial y env) (sym own) tt

pub guard_tried : (t : Trial) (env : Env) → is_of_mains env.state.blocks env.around.guard ≡ true → IsInTrial t env
guard_tried of_own env is = tt
guard_tried (of_turn scan back) env is = is
guard_tried (of_another attempt) env is = is

-- ## Names of a guard

-- what a guard names asks for nothing but its argument
asked_apart : {A : Type 0} (k : PredeclaredName) → guard_function k ≡ true → is_asked (function_of k) ≡ true → A
asked_apart name.Any g a = never (sym g)
asked_apart name.Abs g a = never (sym a)
asked_apart name.Sqr g a = never (sym a)
asked_apart name.Odd g a = never (sym a)
asked_apart name.Ord g a = never (sym a)
asked_apart name.Chr g a = never (sym a)
asked_apart name.Succ g a = never (sym a)
asked_apart name.Pred g a = never (sym a)
asked_apart name.Eof g a = never (sym g)
asked_apart name.Eoln g a = never (sym g)
asked_apart name.Empty g a = never (sym g)
asked_apart name.Clock g a = never (sym g)
asked_apart name.Random g a = never (sym g)
asked_apart name.Read g a = never (sym g)
asked_apart name.Readln g a = never (sym g)
asked_apart name.Write g a = never (sym g)
asked_apart name.Writeln g a = never (sym g)
asked_apart name.Initial g a = never (sym g)
asked_apart name.Wait g a = never (sym g)
asked_apart name.Signal g a = never (sym g)
asked_apart name.Delay g a = never (sym g)
asked_apart name.Resume g a = never (sym g)
asked_apart name.Sleep g a = never (sym g)

-- where a guard does not allow what a name is, the process is in no scan
named_own : (t : Trial) (env : Env) → IsInTrial t env → (o : Option Found) → guard_allows env.around.guard o ≡ true → (m : Meaning) → meaning_of o ≡ Some m
    → ((r : ℕ) (scope : Option ℕ) → guard_names r scope m ≡ true → ⊥) → t ≡ of_own
named_own t env h o allows m is other = by t h
  where
    of : (r : ℕ) (o : Option Found) → guard_allows (Some r) o ≡ true → meaning_of o ≡ Some m → ⊥
    of r None a e = absurd (cc)
    of r (Some f) a e = other r f.scope (subst (λ (k : Meaning). guard_names r f.scope k ≡ true) (same_Some f.meaning m e) a)

    within : {A : Type 0} (guard : Option ℕ) → is_of_mains env.state.blocks guard ≡ true → guard_allows guard o ≡ true → A
    within None e a = never (sym e)
    within (Some r) e a = absurd (of r o a is)

    by : (t : Trial) → IsInTrial t env → t ≡ of_own
    by of_own h = refl
    by (of_turn scan back) h = within env.around.guard h allows
    by (of_another attempt) h = within env.around.guard h allows

pub sub_own : (g : Setting) (env : Env) → IsInTrial g.trial env → (o : Option Found) → guard_allows env.around.guard o ≡ true → (n : ℕ)
    → meaning_of o ≡ Some (Sub n) → g.trial ≡ of_own
sub_own g env h o allows n e = named_own g.trial env h o allows (Sub n) e (λ r scope a. never (sym a))

pub asked_own : (g : Setting) (env : Env) → IsInTrial g.trial env → (o : Option Found) → guard_allows env.around.guard o ≡ true
    → (k : PredeclaredName) → meaning_of o ≡ Some (Predeclared k) → is_asked (function_of k) ≡ true → g.trial ≡ of_own
asked_own g env h o allows k e asked = named_own g.trial env h o allows (Predeclared k) e (λ r scope a. asked_apart k a asked)

-- ## Variables of a guard

equal_scope : (i j : ℕ) → (i == j) ≡ true → i ≡ j
equal_scope i j e = grind (arith, nat_tests)

-- a variable that a guard names is one of its resource
of_resource : (blocks : Blocks) (env : Env) (r : ℕ) → is_mains blocks r ≡ true → (o : Option Found) → guard_allows (Some r) o ≡ true
    → (t : TypeId) (reference : Bool) → meaning_of o ≡ Some (Variable t reference) → is_mains blocks (spot_of env o).spot.scope ≡ true
of_resource blocks env r mains None allows t reference is = absurd (cc)
of_resource blocks env r mains (Some f) allows t reference is = by f.scope allows
  where
    named : f.meaning ≡ Variable t reference
    named = same_Some f.meaning (Variable t reference) is

    by : (scope : Option ℕ) → guard_names r scope f.meaning ≡ true → is_mains blocks (found_spot env.state.blocks scope f).spot.scope ≡ true
    by None names = never (sym (subst (λ (m : Meaning). guard_names r None m ≡ true) named names))
    by (Some i) names =
        let own : i ≡ r = equal_scope i r (subst (λ (m : Meaning). guard_names r (Some i) m ≡ true) named names) in
        subst (λ (m : Meaning). is_mains blocks (named_spot env.state.blocks i f.place m).spot.scope ≡ true) (sym named)
        (subst (λ (n : ℕ). is_mains blocks n ≡ true) (sym own) mains)

-- so it may be read in a scan
pub named_read : (g : Setting) (env : Env) → env.state ≡ g.program.state → IsInTrial g.trial env → (o : Option Found)
    → guard_allows env.around.guard o ≡ true → (t : TypeId) (reference : Bool) → meaning_of o ≡ Some (Variable t reference)
    → MayRead g (spot_of env o).spot.scope
named_read g env same tried o allows t reference is = by g.trial refl tried
  where
    mains : (guard : Option ℕ) → is_of_mains env.state.blocks guard ≡ true → guard_allows guard o ≡ true
        → is_mains env.state.blocks (spot_of env o).spot.scope ≡ true
    mains None e a = never (sym e)
    mains (Some r) e a = of_resource env.state.blocks env r e o a t reference is

    read : is_of_mains env.state.blocks env.around.guard ≡ true → MayRead g (spot_of env o).spot.scope
    read e = inr (subst (λ (s : State). is_mains s.blocks (spot_of env o).spot.scope ≡ true) same (mains env.around.guard e allows))

    by : (x : Trial) → g.trial ≡ x → IsInTrial x env → MayRead g (spot_of env o).spot.scope
    by of_own own h = inl own
    by (of_turn scan back) is h = read h
    by (of_another attempt) is h = read h
