-- A value that the code holds is of a type of values.
use Rattle.std.proofs.Common.{◌≡◌, ℕ, ◌<◌, ℤ, int_le, Bool, true, false, if◌then◌else◌, List, refl, subst, arith}
use Rattle.std.proofs.lemmas.Bool.Decides.{nat_tests}
use Rattle.pfc_types.specs.Types.{Forms, extent, is_simple}
use Rattle.pfc_types.specs.Fields.{FieldList}
use Rattle.pfc_types.specs.declared.types.TypeId.{TypeId}
use Rattle.pfc_types.specs.declared.types.TypeForm.TheVariants.{Array}
use Rattle.pfc_types.proofs.Clean.{and-right}
use Rattle.pfc_semantics.specs.Values.{Value, Values}
use Rattle.pfc_semantics.specs.Programs.{Block}
use Rattle.pfc_semantics.specs.Remainders.{Context, AwaitsValue, begin_sum, add_to, begin_product, multiply_by, compare_with, compare_to, invert, apply}
use Rattle.pfc_semantics.specs.Remainders.{index_into, pass_value, store_at, choose, choose_arm, while_true, until_true, count_from, count_to, show, show_wide}
use Rattle.pfc_semantics.specs.Remainders.{pad, set_count, delay_with, sleep_for, send_on, open_if, offer_value, offer_wait, pass_own, pass_other}
use Rattle.pfc_standing_code.specs.Shapes.{a_number, a_whole, shape_of, IsSound, IsOf, is_number, is_array, is_record, AreOf, none_of, one_of, AreFieldsOf}
use Rattle.pfc_standing_code.specs.Shapes.{no_field, one_field}
use Rattle.pfc_standing_code.specs.ValueTypes.{IsValueType, value_simple, value_array, value_record, AreValueFields, no_value_field, one_value_field}
use Rattle.pfc_standing_code.specs.Settings.{Setting}
use Rattle.pfc_standing_code.specs.Effects.{Arm}
use Rattle.pfc_standing_code.specs.Awaits.{TakesValue}

-- an array has an element
some_values : (low high : ℤ) → int_le low high ≡ true → 0 < extent low high
some_values low high h = grind (arith, nat_tests)

module _ (forms : Forms) (sound : IsSound forms) where
  mutual
    pub value_type : {t : TypeId} {v : Value} → IsOf forms t v → IsValueType forms t
    value_type (is_number t n simple) = value_simple t simple
    value_type (is_array t over element low high vs form are) =
        let bounds = and-right (is_simple over) (int_le low high) (sound.bounds t (Array over low high element) form) in
        value_array t over element low high form (element_type (some_values low high bounds) are)
    value_type (is_record t fields vs form are) = value_record t fields form (field_types are)

    element_type : {n : ℕ} {t : TypeId} {vs : Values} → 0 < n → AreOf forms n t vs → IsValueType forms t
    element_type some (none_of t) = absurd (omega (arith, some))
    element_type some (one_of n t v vs is are) = value_type is

    field_types : {fields : FieldList} {vs : Values} → AreFieldsOf forms fields vs → AreValueFields forms fields
    field_types no_field = no_value_field
    field_types (one_field f fields v vs is are) = one_value_field f fields (value_type is) (field_types are)

-- ## What is awaited

module _ (forms : Forms) where
  of_number : (t : TypeId) → shape_of t ≡ a_number → IsValueType forms t
  of_number t e = by (is_simple t) refl e
    where
      by : (b : Bool) → is_simple t ≡ b → (if b then a_number else a_whole t) ≡ a_number → IsValueType forms t
      by true is e = value_simple t is
      by false is e = absurd (cc)

  of_shape : (t u : TypeId) → shape_of t ≡ shape_of u → IsValueType forms u → IsValueType forms t
  of_shape t u e value = by (is_simple t) (is_simple u) refl e
    where
      by : (b c : Bool) → is_simple t ≡ b → (if b then a_number else a_whole t) ≡ (if c then a_number else a_whole u) → IsValueType forms t
      by true c is e = value_simple t is
      by false true is e = absurd (cc)
      by false false is e = subst (λ (k : TypeId). IsValueType forms k) (let same : u ≡ t = cc in same) value

-- what is awaited of a type has no object in it
pub awaited_value : (g : Setting) (b : Block) (x : Context) (at : ℕ) (ops : List ℤ) (arms : List Arm) (t : TypeId) (u : AwaitsValue)
    → TakesValue g b x at ops arms (shape_of t) u → IsValueType g.program.state.forms t
awaited_value g b x at ops arms t (begin_sum sign rest u) h = of_number g.program.state.forms t h.0
awaited_value g b x at ops arms t (add_to m op rest u) h = of_number g.program.state.forms t h.0
awaited_value g b x at ops arms t (begin_product rest u) h = of_number g.program.state.forms t h.0
awaited_value g b x at ops arms t (multiply_by m op rest u) h = of_number g.program.state.forms t h.0
awaited_value g b x at ops arms t (compare_with r e u) h = of_number g.program.state.forms t h.0
awaited_value g b x at ops arms t (compare_to m r u) h = of_number g.program.state.forms t h.0
awaited_value g b x at ops arms t (invert u) h = of_number g.program.state.forms t h.0
awaited_value g b x at ops arms t (apply f e u) h = of_number g.program.state.forms t h.0
awaited_value g b x at ops arms t (index_into part es ss goal) h = of_number g.program.state.forms t h.0
awaited_value g b x at ops arms t (pass_value rest args given call) h = of_shape g.program.state.forms t h.2 h.6 h.12
awaited_value g b x at ops arms t (store_at v k) h = let p = h.1 in of_shape g.program.state.forms t p.0 p.3 p.8
awaited_value g b x at ops arms t (choose m s r k) h = of_number g.program.state.forms t h.1.0
awaited_value g b x at ops arms t (choose_arm m alternatives k) h = of_number g.program.state.forms t h.1.0
awaited_value g b x at ops arms t (while_true m e s p k) h = of_number g.program.state.forms t h.1.0
awaited_value g b x at ops arms t (until_true m ss e p k) h = of_number g.program.state.forms t h.1.0
awaited_value g b x at ops arms t (count_from m v down e s k) h = of_number g.program.state.forms t h.1.0
awaited_value g b x at ops arms t (count_to m v a down s k) h = of_number g.program.state.forms t h.1.0
awaited_value g b x at ops arms t (show s k) h = of_number g.program.state.forms t h.1.0
awaited_value g b x at ops arms t (show_wide s e k) h = of_number g.program.state.forms t h.1.0
awaited_value g b x at ops arms t (pad bytes k) h = of_number g.program.state.forms t h.1.0
awaited_value g b x at ops arms t (set_count v k) h = of_number g.program.state.forms t h.1.0
awaited_value g b x at ops arms t (delay_with v k) h = of_number g.program.state.forms t h.1.0
awaited_value g b x at ops arms t (sleep_for k) h = of_number g.program.state.forms t h.1.0
awaited_value g b x at ops arms t (send_on v k) h = let p = h.1 in of_shape g.program.state.forms t p.1 p.4 p.7.2
awaited_value g b x at ops arms t (open_if a rest sel k) h = of_number g.program.state.forms t h.1.0
awaited_value g b x at ops arms t (offer_value channel a rest sel k) h = let p = h.1 in of_shape g.program.state.forms t p.1 p.4 p.7.2
awaited_value g b x at ops arms t (offer_wait a rest sel k) h = of_number g.program.state.forms t h.1.0
awaited_value g b x at ops arms t (pass_own bar k) h = of_number g.program.state.forms t h.1.0
awaited_value g b x at ops arms t (pass_other w scan k) h = of_number g.program.state.forms t h.1.0
