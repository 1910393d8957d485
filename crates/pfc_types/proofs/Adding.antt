-- What a type adds to the table, and what a field adds to a record.
use Rattle.std.proofs.Common.{◌≡◌, ℕ, ◌<◌, ◌+◌, ◌-◌, ◌^◌, List, [], ◌∷◌, ◌++◌, length, take, get_or, Some, ap, sym, ◌∙◌, arith, length-append, add-one}
use Rattle.std.proofs.Math.Seq.{take-suc}
use Rattle.std.proofs.lemmas.List.Sums.{fold_push}
use Rattle.std.proofs.lemmas.List.Elements.{All-push}
use Rattle.pfc_tree.specs.Symbols.{Text}
use Rattle.pfc_types.specs.Types.{Forms, all_held, held_form, held_next, held_with, held_before, fields_held, nothing_held}
use Rattle.pfc_types.specs.Table.{AreHeld, IsSmall}
use Rattle.pfc_types.specs.Fields.{FieldList}
use Rattle.pfc_types.specs.declared.table.Held.{Held}
use Rattle.pfc_types.specs.declared.types.TypeId.{TypeId}
use Rattle.pfc_types.specs.declared.types.TypeForm.{TypeForm}

-- a type that is added with what it holds keeps the table's two lists in step
pub are_held_push :
    (forms : Forms) (rows : List Held) (form : TypeForm) (held : Held)
    → AreHeld forms rows → held ≡ held_form (all_held forms) form → IsSmall held → length forms < 2 ^ 32 - 1
    → AreHeld (forms ++ Some form ∷ []) (rows ++ held ∷ [])
are_held_push forms rows form held here is small room =
    record {
      same = ap (λ before. before ++ held ∷ []) here.same ∙ ap (λ h. all_held forms ++ h ∷ []) is ∙
          sym (fold_push (λ before f. before ++ held_next before f ∷ []) [] forms (Some form));
      small = All-push IsSmall rows held here.small small;
      room = omega (arith, length-append forms (Some form ∷ []), room);
    }

-- one field more
pub fields_held_next :
    (before : List Held) (fields : FieldList) (i : ℕ) (t : TypeId)
    → i < length fields → ((d : Text × TypeId) → t ≡ (get_or fields i d).1)
    → fields_held before (take (i + 1) fields) ≡ held_with (fields_held before (take i fields)) (held_before before t)
fields_held_next before fields i t h read =
    ap (λ n. fields_held before (take n fields)) (add-one i)
    ∙ ap (fields_held before) (take-suc fields i ([], t) h)
    ∙ fold_push (λ sum f. held_with sum (held_before before f.1)) nothing_held (take i fields) (get_or fields i ([], t))
    ∙ ap (λ u. held_with (fields_held before (take i fields)) (held_before before u)) (sym (read ([], t)))
