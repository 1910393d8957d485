-- In a program in which no rule is broken the names in view are known, where what they name has its place.
use Rattle.std.proofs.Common.{◌≡◌, ℕ, ℤ, Bool, true, false, not, [], Option, Some, None, refl, sym, ap, ◌∙◌, subst}
use Rattle.pfc_tree.specs.Symbols.{Text}
use Rattle.pfc_tree.specs.trees.Parts.{ProgramTree}
use Rattle.pfc_types.specs.Faulty.{IsSimpleConstant}
use Rattle.pfc_types.specs.Types.{form_of, is_simple, has_bounds}
use Rattle.pfc_types.specs.Scopes.{meaning_of, found_in, look}
use Rattle.pfc_types.specs.Blocks.{Blocks, State, sub_at}
use Rattle.pfc_types.specs.rules.Expressions.{find}
use Rattle.pfc_types.specs.rules.FaultyNames.{all_typed, is_whole_head, is_faulty, is_faulty_found, stands_faulty}
use Rattle.pfc_types.specs.rules.Declarations.{whole_sort}
use Rattle.pfc_types.specs.rules.Whole.{finished, broken, scopes_of, types_of}
use Rattle.pfc_types.specs.declared.types.TypeId.{TypeId}
use Rattle.pfc_types.specs.declared.types.TypeForm.{TypeForm}
use Rattle.pfc_types.specs.declared.view.Found.{Found}
use Rattle.pfc_types.specs.declared.scope.Meaning.{Meaning}
use Rattle.pfc_types.specs.declared.scope.Meaning.TheVariants.{Constant, Variable, Sub}
use Rattle.pfc_types.proofs.Clean.{and-left}
use Rattle.pfc_types.proofs.Looks.{look_simple}
use Rattle.pfc_types.proofs.WalkParts.{constants_simple, names_faulty}
use Rattle.pfc_name_laws.proofs.Numbers.{numbered, no_faulty, none_noted}
use Rattle.pfc_name_laws.proofs.Parts.{finished_reached}
use Rattle.pfc_type_laws.specs.Tables.{IsOfVariables, IsBuiltUp}
use Rattle.pfc_type_laws.proofs.WalkTypes.{IsPlaced}
use Rattle.pfc_type_laws.proofs.WalkBlocks.{types_built, variable_placed_in}
use Rattle.pfc_translation.specs.Sites.{Site, forms_of, blocks_of}
use Rattle.pfc_typed_phrases.specs.Names.{HavePlaces, AreKnown}
use Rattle.pfc_typed_phrases.proofs.Rules.{never}
use Rattle.pfc_typed_phrases.proofs.Seen.{variable_laid}

not_faulty : (b : Bool) → not b ≡ false → b ≡ true
not_faulty true h = refl
not_faulty false h = never (sym h)

-- a name of a sub that is not faulty has a whole heading
found_whole : (b : Blocks) (found : Option Found) (n : ℕ) → meaning_of found ≡ Some (Sub n) →
    is_faulty_found b found ≡ false → all_typed (sub_at b n).formals ≡ true
found_whole b None n e h = absurd (cc)
found_whole b (Some f) n e h =
    let same : f.meaning ≡ Sub n = cc in
    and-left (all_typed (sub_at b n).formals) (whole_sort (sub_at b n).sort) (not_faulty (is_whole_head (sub_at b n)) (ap (is_faulty b) (sym same) ∙ h))

module _ (t : ProgramTree) (s : Site) (lawful : broken t ≡ []) (program : s.program.state ≡ finished t) (state : s.env.state ≡ finished t) where
  none_faulty : (x : Text) → stands_faulty (meaning_of (find s.env x)) ≡ false
  none_faulty x =
      subst (λ (k : State). stands_faulty (look k.blocks.scopes s.env.view x) ≡ false) (sym state)
      (no_faulty (finished t) (numbered (finished t) (finished_reached t)) (none_noted t lawful) s.env.view x)

  constant_simple : (x : Text) (c : TypeId) (n : ℤ) → meaning_of (find s.env x) ≡ Some (Constant c n) → is_simple c ≡ true
  constant_simple x c n e =
      subst IsSimpleConstant e
      (subst (λ (k : State). IsSimpleConstant (look k.blocks.scopes s.env.view x)) (sym state)
      (look_simple (scopes_of t).scopes (constants_simple t) s.env.view x))

  sub_whole : (x : Text) (n : ℕ) → meaning_of (find s.env x) ≡ Some (Sub n) → all_typed (sub_at (blocks_of s) n).formals ≡ true
  sub_whole x n e =
      let exactly =
      subst (λ (k : State). is_faulty_found k.blocks (found_in k.blocks.scopes s.env.view x) ≡ stands_faulty (look k.blocks.scopes s.env.view x)) (sym state)
      (names_faulty t s.env.view x) in
      subst (λ (k : State). all_typed (sub_at k.blocks n).formals ≡ true) (state ∙ sym program)
      (found_whole s.env.state.blocks (find s.env x) n e (exactly ∙ none_faulty x))

  variable_of_table : (x : Text) (u : TypeId) (r : Bool) → meaning_of (find s.env x) ≡ Some (Variable u r) → IsOfVariables (forms_of s) u
  variable_of_table x u r e =
      let seen : look (scopes_of t).scopes s.env.view x ≡ Some (Variable u r) = subst
      (λ (k : State). look k.blocks.scopes s.env.view x ≡ Some (Variable u r)) state e in
      subst (λ (k : State). IsOfVariables k.forms u) (sym program)
      (subst (λ (m : Option Meaning). IsPlaced (types_of t) m) seen (variable_placed_in t s.env.view x))

  pub names_known : HavePlaces s → AreKnown s
  names_known places =
      record {
        state = state ∙ sym program;
        table = subst (λ (k : State). IsBuiltUp k.forms) (sym program) (types_built t);
        of_variables = variable_of_table;
        bounds = subst (λ (k : State). (u : TypeId) (form : TypeForm) → form_of k.forms u ≡ Some form →
            has_bounds form ≡ true) (sym program) (types_built t).bounds;
        constants = constant_simple;
        variables = λ x u r e. variable_laid s x u r (state ∙ sym program) e (places.variables x u r e);
        subs = λ x n e. record { formals = sub_whole x n e; block = places.subs x n e };
        faulty = λ x e. never (sym (none_faulty x) ∙ ap stands_faulty e);
      }
