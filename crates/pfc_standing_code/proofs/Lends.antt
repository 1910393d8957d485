-- What a requeue lends outlives the activation that it ends, as its arguments are given one by one.
use Rattle.std.proofs.Common.{◌≡◌, Bool, true, List, [], ◌∷◌, ◌++◌, subst}
use Rattle.std.proofs.lemmas.List.Elements.{All-push}
use Rattle.pfc_tree.specs.trees.Exprs.{ActualTree, ActualTrees, more_actuals}
use Rattle.pfc_types.specs.declared.heads.Formal.{Formal}
use Rattle.pfc_semantics.specs.Values.{Value}
use Rattle.pfc_semantics.specs.Displays.{Spot}
use Rattle.pfc_semantics.specs.Remainders.{Argument, Call, by_value, by_reference, to_procedure, to_function, to_module, to_requeue, to_process, to_entry}
use Rattle.pfc_translation.specs.Sites.{Site}
use Rattle.pfc_standing_code.specs.Typed.{whole_of, Either, Outlives, lent_spot}
use Rattle.pfc_standing_code.specs.Words.{IsLasting, Lends, LendsTo}

module _ (s : Site) where
  -- those behind the next one
  pub lends_rest : (given : List Argument) (f : Formal) (formals : List Formal) (a : ActualTree) (rest : ActualTrees) (call : Call)
      → Lends s given (f ∷ formals) (more_actuals a rest) call → Lends s given formals rest call
  lends_rest given f formals a rest (to_procedure scope k) h = tt
  lends_rest given f formals a rest (to_function scope u) h = tt
  lends_rest given f formals a rest (to_module n scope k) h = tt
  lends_rest given f formals a rest (to_requeue scope) h = (h.0, h.1.1)
  lends_rest given f formals a rest (to_process v k) h = tt
  lends_rest given f formals a rest (to_entry v entry k) h = tt

  -- the next one, where it is passed by reference
  pub lends_next : (given : List Argument) (f : Formal) (formals : List Formal) (a : ActualTree) (rest : ActualTrees) (call : Call) → f.reference ≡ true
      → Lends s given (f ∷ formals) (more_actuals a rest) call → LendsTo s (whole_of (lent_spot s a)) call
  lends_next given f formals a rest (to_procedure scope k) is h = tt
  lends_next given f formals a rest (to_function scope u) is h = tt
  lends_next given f formals a rest (to_module n scope k) is h = tt
  lends_next given f formals a rest (to_requeue scope) is h = subst (λ (r : Bool). Either r (Outlives s (lent_spot s a)) (Unit {0})) is h.1.0
  lends_next given f formals a rest (to_process v k) is h = tt
  lends_next given f formals a rest (to_entry v entry k) is h = tt

  -- one more is given
  pub lends_value : (given : List Argument) (v : Value) (formals : List Formal) (args : ActualTrees) (call : Call) → Lends s given formals args call
      → Lends s (given ++ by_value v ∷ []) formals args call
  lends_value given v formals args (to_procedure scope k) h = tt
  lends_value given v formals args (to_function scope u) h = tt
  lends_value given v formals args (to_module n scope k) h = tt
  lends_value given v formals args (to_requeue scope) h = (All-push (IsLasting s) given (by_value v) h.0 tt, h.1)
  lends_value given v formals args (to_process w k) h = tt
  lends_value given v formals args (to_entry w entry k) h = tt

  pub lends_variable : (given : List Argument) (v : Spot) (formals : List Formal) (args : ActualTrees) (call : Call) → LendsTo s (whole_of v) call
      → Lends s given formals args call → Lends s (given ++ by_reference v ∷ []) formals args call
  lends_variable given v formals args (to_procedure scope k) is h = tt
  lends_variable given v formals args (to_function scope u) is h = tt
  lends_variable given v formals args (to_module n scope k) is h = tt
  lends_variable given v formals args (to_requeue scope) is h = (All-push (IsLasting s) given (by_reference v) h.0 is, h.1)
  lends_variable given v formals args (to_process w k) is h = tt
  lends_variable given v formals args (to_entry w entry k) is h = tt
