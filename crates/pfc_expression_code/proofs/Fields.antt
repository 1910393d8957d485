-- The cells of the first fields of a record.
use Rattle.std.proofs.Common.{◌≡◌, ℕ, ◌+◌, ◌<◌, length, take, get_or, sum_by, ap, ◌∙◌}
use Rattle.std.proofs.lemmas.Grind.{take_at_read}
use Rattle.std.proofs.lemmas.List.Sums.{sum_by_push}
use Rattle.pfc_tree.specs.Symbols.{Text}
use Rattle.pfc_types.specs.Types.{Forms, cells_in}
use Rattle.pfc_types.specs.Fields.{FieldList}
use Rattle.pfc_types.specs.declared.types.TypeId.{TypeId}
use Rattle.pfc_translation.specs.Addresses.{fields_before}

-- one field more
pub fields_before-next :
    (forms : Forms) (fields : FieldList) (i : ℕ) (d : Text × TypeId) → i < length fields
    → fields_before forms fields (i + 1) ≡ fields_before forms fields i + cells_in forms (get_or fields i d).1
fields_before-next forms fields i d inside =
    ap (λ (l : FieldList). sum_by (λ f. cells_in forms f.1) l) (take_at_read fields i d inside).1
    ∙ sum_by_push (λ (f : Text × TypeId). cells_in forms f.1) (take i fields) (get_or fields i d)
