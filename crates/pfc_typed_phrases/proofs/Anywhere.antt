-- The same at every site whose names are known, and in the words of the laws.
use Rattle.std.proofs.Common.{◌≡◌, ℕ, suc, ◌==◌, ◌&&◌, true, List, [], ◌∷◌, length, Option, Some, None, refl, sym, ap, ◌∙◌, subst, arith}
use Rattle.std.proofs.lemmas.Bool.Decides.{nat_tests}
use Rattle.pfc_tree.specs.trees.Exprs.{DesigTree, desig}
use Rattle.pfc_types.specs.Scopes.{meaning_of}
use Rattle.pfc_types.specs.Blocks.{State}
use Rattle.pfc_types.specs.declared.types.TypeId.{TypeId}
use Rattle.pfc_types.specs.declared.scope.Meaning.{Meaning}
use Rattle.pfc_types.specs.declared.scope.Meaning.TheVariants.{Constant, Named, Variable, Sub, Module, Process, Entry, Predeclared, Faulty}
use Rattle.pfc_types.specs.declared.heads.Formal.{Formal}
use Rattle.pfc_types.specs.rules.Kinds.{a_variable, name_rules, variable_type}
use Rattle.pfc_types.specs.rules.Routines.{wants_for}
use Rattle.pfc_types.specs.rules.Expressions.{find, desig_type, selected, actual_count, broken_desig, broken_expr, broken_selectors, broken_actuals}
use Rattle.pfc_types.proofs.Clean.{clean, and-right, clean-listed, listed-clean}
use Rattle.pfc_semantics.specs.Expressions.{spot_of}
use Rattle.pfc_translation.specs.Sites.{Site, forms_of}
use Rattle.pfc_standing_code.specs.Typed.{IsDesig, AreSelectors, IsDeclared}
use Rattle.pfc_typed_phrases.specs.Names.{AreKnown}
use Rattle.pfc_typed_phrases.specs.Phrases.{ExpressionsAreTyped, VariablesAreTyped, SelectorsAreTyped, ArgumentsAreTyped, ArgumentsAreWanted}
use Rattle.pfc_typed_phrases.proofs.Rules.{never}
use Rattle.pfc_typed_phrases.proofs.Names.{asked_formals, wanted_arguments}
use Rattle.pfc_typed_phrases.proofs.Phrases.{expr_typed, selectors_typed, actuals_typed}
use Rattle.pfc_type_laws.specs.Tables.{IsOfVariables}
use Rattle.pfc_typed_phrases.proofs.Values.{selected_of}

-- what is true with the program's own types and blocks
abbrev with_state : Site → State → Site
with_state s state = record s { env = record s.env { state = state } }

anywhere : (s : Site) (P : Site → Type 0) → AreKnown s → (AreKnown (with_state s s.program.state) → P (with_state s s.program.state)) → P s
anywhere s P known h =
    subst (λ (state : State). (AreKnown (with_state s state) → P (with_state s state))) (sym known.state) h known

pub expressions_typed : (s : Site) → AreKnown s → ExpressionsAreTyped s
expressions_typed s known =
    anywhere s ExpressionsAreTyped known
    (λ k e h. expr_typed s.program s.block s.env.view s.env.around s.line k e (listed-clean (broken_expr (with_state s s.program.state).env e) h))

pub selectors_are : (s : Site) → AreKnown s → SelectorsAreTyped s
selectors_are s known =
    anywhere s SelectorsAreTyped known
    (λ k ss t h. selectors_typed s.program s.block s.env.view s.env.around s.line k ss t
    (listed-clean (broken_selectors (with_state s s.program.state).env (Some t) ss) h))

pub arguments_wanted : (s : Site) → AreKnown s → ArgumentsAreWanted s
arguments_wanted s known =
    anywhere s ArgumentsAreWanted known
    (λ k ending wants args asked count h.
    (actuals_typed s.program s.block s.env.view s.env.around s.line k ending wants args asked (alike (length wants) (actual_count args) count)
    (listed-clean (broken_actuals (with_state s s.program.state).env ending true wants args) h)).0)
  where
    alike : (n m : ℕ) → n ≡ m → (n == m) ≡ true
    alike n m e = grind (arith, nat_tests)

wants_count : (formals : List Formal) → length (wants_for formals) ≡ length formals
wants_count [] = refl
wants_count (f ∷ formals) = ap suc (wants_count formals)

pub arguments_typed : (s : Site) → AreKnown s → ArgumentsAreTyped s
arguments_typed s known ending formals args whole count h =
    wanted_arguments s formals args (arguments_wanted s known ending (wants_for formals) args (asked_formals formals whole) (wants_count formals ∙ count) h)

-- a variable that stands alone
pub desig_part :
    (s : Site) (known : AreKnown s) (d : DesigTree) → clean (broken_desig s.env d) ≡ true
    → (t : TypeId) × (desig_type s.env d ≡ Some t) × IsDesig s d (Some t) × IsOfVariables (forms_of s) t
desig_part s known (desig x ss p) h = by (meaning_of (find s.env x)) refl h
  where
    by : (m : Option Meaning) → meaning_of (find s.env x) ≡ m
        → clean (name_rules a_variable m p) && clean (broken_selectors s.env (variable_type m) ss) ≡ true
        → (t : TypeId) × (selected s.env (variable_type (meaning_of (find s.env x))) ss ≡ Some t) × IsDesig s (desig x ss p) (Some t) × IsOfVariables
        (forms_of s) t
    by None e h = never h
    by (Some (Constant t n)) e h = never h
    by (Some (Named t)) e h = never h
    by (Some (Sub n)) e h = never h
    by (Some (Module n)) e h = never h
    by (Some (Process n)) e h = never h
    by (Some (Entry n)) e h = never h
    by (Some (Predeclared n)) e h = never h
    by (Some Faulty) e h = absurd (known.faulty x e)
    by (Some (Variable t r)) e h =
        let laid = known.variables x t r e in
        let part = selectors_are s known ss t (clean-listed (broken_selectors s.env (Some t) ss)
        (and-right true (clean (broken_selectors s.env (Some t) ss)) h)) in
        let v = spot_of s.env (find s.env x) in (
          part.0,
          ap (λ (m : Option Meaning). selected s.env (variable_type m) ss) e ∙ part.1,
          (
            subst (λ (o : Option TypeId). IsDeclared s v.spot o) (sym laid.typed) laid.declared,
            subst (λ (o : Option TypeId). AreSelectors s o ss (Some part.0)) (sym laid.typed) part.2,
          ),
          selected_of s known ss t part.0 part.2 (known.of_variables x t r e),
        )

pub variables_typed : (s : Site) → AreKnown s → VariablesAreTyped s
variables_typed s known d h = let part = desig_part s known d (listed-clean (broken_desig s.env d) h) in (part.0, part.1, part.2)
