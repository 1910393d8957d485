-- The parameters of a heading are the first variables of its scope, and the result of a function stands behind those of its own.
use Rattle.std.proofs.Common.{◌≡◌, ℕ, ◌+◌, ◌<◌, Bool, true, false, if◌then◌else◌, is_some, List, [], ◌∷◌, ◌++◌, length, take, drop, slice_get, map, Option}
use Rattle.std.proofs.Common.{Some, None, refl, ap, sym, ◌∙◌, arith}
use Rattle.std.proofs.lemmas.List.{length-map, take-map}
use Rattle.std.proofs.lemmas.Option.{slice_get_within}
use Rattle.std.proofs.Math.Seq.{take-append_seam}
use Rattle.pfc_tree.specs.Symbols.{Text}
use Rattle.pfc_tree.specs.trees.Parts.{ProgramTree}
use Rattle.pfc_types.specs.Scopes.{Names, scope_at}
use Rattle.pfc_types.specs.Blocks.{Blocks, sub_at}
use Rattle.pfc_types.specs.declared.types.TypeId.{TypeId}
use Rattle.pfc_types.specs.declared.heads.Formal.{Formal}
use Rattle.pfc_types.specs.declared.heads.SubHead.{SubHead}
use Rattle.pfc_types.specs.declared.heads.SubSort.{SubSort}
use Rattle.pfc_types.specs.declared.heads.SubSort.TheVariants.{Procedure, Guarded, Function}
use Rattle.pfc_types.specs.declared.scope.Meaning.{Meaning}
use Rattle.pfc_types.specs.declared.scope.Meaning.TheVariants.{Variable}
use Rattle.pfc_types.specs.rules.FaultyNames.{all_typed, is_whole_head}
use Rattle.pfc_types.specs.rules.Declarations.{whole_sort}
use Rattle.pfc_types.specs.rules.Whole.{finished}
use Rattle.pfc_semantics.specs.Layouts.{Layout, is_laid, laid_names, result_laid, sub_layout}
use Rattle.pfc_name_laws.specs.Reached.{formal_meaning, meanings_of, IsHeading}
use Rattle.pfc_name_laws.proofs.Parts.{finished_reached}
use Rattle.pfc_name_laws.proofs.Headings.{all_headed}
use Rattle.pfc_image_numbers.proofs.Rules.{IsFunction, and_left, and_right}
use Rattle.pfc_image_cells.proofs.Layouts.{get_behind, get_there}

-- ## Parameters

-- names that stand for variables of some types are all laid out
all_laid : (names : Names) (formals : List Formal) → meanings_of names ≡ map formal_meaning formals → all_typed formals ≡ true
    → laid_names names ≡ map formal_meaning formals
all_laid [] [] e h = refl
all_laid [] (f ∷ formals) e h = absurd (cc)
all_laid (x ∷ names) [] e h = absurd (cc)
all_laid (x ∷ names) (f ∷ formals) e h =
    let first : x.1 ≡ formal_meaning f = cc in
    let rest : meanings_of names ≡ map formal_meaning formals = cc in
    ap (λ (r : Bool). if r then x.1 ∷ laid_names names else laid_names names)
    (ap is_laid first ∙ by f.reference f.t (and_left (is_some f.t) (all_typed formals) h))
    ∙ ap (λ (m : Meaning). m ∷ laid_names names) first
    ∙ ap (λ (l : Layout). formal_meaning f ∷ l) (all_laid names formals rest (and_right (is_some f.t) (all_typed formals) h))
  where
    by : (reference : Bool) (t : Option TypeId) → is_some t ≡ true → is_laid (formal_meaning (record { t = t; reference = reference })) ≡ true
    by reference None e = absurd (cc)
    by reference (Some t) e = refl

pub formals_laid : (b : Blocks) (scope : ℕ) (formals : List Formal) → b.noted ≡ [] → IsHeading b scope formals
    → laid_names (take (length formals) (scope_at b.scopes scope)) ≡ map formal_meaning formals
formals_laid b scope formals clean h =
    let names = scope_at b.scopes scope in
    let first = h.first clean in
    let count : length (map formal_meaning formals) ≡ length formals = length-map formals formal_meaning in
    let are : meanings_of (take (length formals) names) ≡ map formal_meaning formals =
    sym (take-map (λ (y : Text × Meaning). y.1) (length formals) names) ∙ ap (λ n. take n (meanings_of names)) (sym count)
    ∙ ap (λ (l : List Meaning). take (length (map formal_meaning formals)) l) first.splits ∙ take-append_seam (map formal_meaning formals) first.more in
    all_laid (take (length formals) names) formals are (h.typed clean)

-- ## Results

-- the result of a function stands behind its parameters
pub result_stands : (b : Blocks) (head : SubHead) (t : TypeId) → b.noted ≡ [] → IsHeading b head.scope head.formals → head.sort ≡ Function (Some t)
    → slice_get (sub_layout b head) (length head.formals) ≡ Some (Variable t false)
result_stands b head t clean h sort =
    let n = length head.formals in
    let names = scope_at b.scopes head.scope in
    let first = laid_names (take n names) in
    let rest = laid_names (drop n names) in
    let count : length (map formal_meaning head.formals) ≡ n = length-map head.formals formal_meaning in
    let long : length first ≡ n = ap (λ (l : Layout). length l) (formals_laid b head.scope head.formals clean h) ∙ count in
    ap (λ (o : SubSort). slice_get (first ++ (result_laid o ++ rest)) n) sort
    ∙ get_there (first ++ Variable t false ∷ rest) (length first + 0) n (Variable t false) (get_behind first (Variable t false ∷ rest) 0) (omega (arith, long))

pub result_place : (t : ProgramTree) → (finished t).blocks.noted ≡ [] → (n : ℕ) → n < length (finished t).blocks.subs
    → is_whole_head (sub_at (finished t).blocks n) ≡ true → IsFunction (sub_at (finished t).blocks n).sort
    → length (sub_at (finished t).blocks n).formals < length (sub_layout (finished t).blocks (sub_at (finished t).blocks n))
result_place t clean n below whole function =
    by head.sort refl (and_right (all_typed head.formals) _ whole) function
  where
    b : Blocks
    b = (finished t).blocks

    head : SubHead
    head = sub_at b n

    by : (sort : SubSort) → head.sort ≡ sort → whole_sort sort ≡ true → IsFunction sort → length head.formals < length (sub_layout b head)
    by Procedure e k f = absurd f
    by Guarded e k f = absurd f
    by (Function None) e k f = absurd (cc)
    by (Function (Some u)) e k f =
        slice_get_within (sub_layout b head) (length head.formals) (Variable u false)
        (result_stands b head u clean ((all_headed (finished t) (finished_reached t)).subs n below).heading e)
