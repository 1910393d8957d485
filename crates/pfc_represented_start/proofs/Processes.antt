-- The processes beside main: each is declared, and idle before the first action.
use Rattle.std.proofs.Common.{◌≡◌, ℕ, zero, suc, ◌+◌, ◌<◌, ℤ, List, [], ◌∷◌, ◌++◌, length, map, get_or, slice_get, Option, Some, None, refl, sym, ap, ◌∙◌}
use Rattle.std.proofs.Common.{subst, arith}
use Rattle.std.specs.List.{All}
use Rattle.std.specs.Option.{IfSome}
use Rattle.std.proofs.lemmas.List.{length-map}
use Rattle.std.proofs.lemmas.List.Elements.{All-nil, All-cons, All-head, All-tail, All-append}
use Rattle.pfc_code.specs.declared.images.Block.{Block as CodeBlock}
use Rattle.pfc_tree.specs.Symbols.{Text}
use Rattle.pfc_tree.specs.trees.Parts.{ProgramTree}
use Rattle.pfc_tree.specs.forget.Parts.{forget_program}
use Rattle.pfc_tree.specs.lawful.Parts.{IsLawful}
use Rattle.pfc_types.specs.Types.{Forms, form_of, extent}
use Rattle.pfc_types.specs.Fields.{FieldList}
use Rattle.pfc_types.specs.Scopes.{Names, scope_at}
use Rattle.pfc_types.specs.Blocks.{Blocks, process_at}
use Rattle.pfc_types.specs.declared.types.TypeId.{TypeId}
use Rattle.pfc_types.specs.declared.types.TypeForm.{TypeForm}
use Rattle.pfc_types.specs.declared.types.TypeForm.TheVariants.{Channel, Array, Record, Process as AProcess}
use Rattle.pfc_types.specs.declared.scope.Meaning.{Meaning}
use Rattle.pfc_types.specs.declared.scope.Meaning.TheVariants.{Constant, Named, Variable, Sub, Module, Process, Entry, Predeclared, Faulty}
use Rattle.pfc_types.specs.rules.Whole.{finished, broken}
use Rattle.pfc_name_laws.specs.Reached.{IsNumbered, IsOfProcess}
use Rattle.pfc_name_laws.proofs.Numbers.{numbered}
use Rattle.pfc_name_laws.proofs.Parts.{finished_reached}
use Rattle.pfc_semantics.specs.Programs.{block_number, program_of}
use Rattle.pfc_semantics.specs.Configurations.{declared_block}
use Rattle.pfc_translation.specs.Objects.{Labelled, with_index, elements_labelled, fields_labelled, all_labelled, name_labelled, names_labelled, process_info}
use Rattle.pfc_translation.specs.Images.{image_of}
use Rattle.pfc_machines.specs.Descriptors.{line_in, line_of_block}
use Rattle.pfc_type_laws.specs.Tables.{AreBefore, IsBefore, IsBuiltUp}
use Rattle.pfc_type_laws.proofs.WalkBlocks.{types_built}
use Rattle.pfc_typed_programs.proofs.Blocks.{process_called}
use Rattle.pfc_typed_programs.proofs.Called.{called_stands}
use Rattle.pfc_object_laws.specs.Mains.{AreOfMain}
use Rattle.pfc_object_laws.proofs.Tables.{by_types}
use Rattle.pfc_object_laws.proofs.Numbers.{labelled, labelled_formless, labelled_formed, labelled_array, labelled_record}
use Rattle.pfc_object_laws.proofs.Mains.{processes_are}
use Rattle.pfc_represented_start.specs.Starts.{main_setting}
use Rattle.pfc_represented_start.proofs.Setting.{main_of_image, the_main_block}

-- what stands in a list whose elements are all so
pub each : {A : Type 0} (P : A → Type 0) (xs : List A) (k : ℕ) (x : A) → All P xs → slice_get xs k ≡ Some x → P x
each P [] k x all there = absurd (cc)
each P (y ∷ xs) zero x all there = subst P (same y x there) (All-head P y xs all)
  where
    same : {A : Type 0} (a b : A) → Some a ≡ Some b → a ≡ b
    same a b h = cc
each P (y ∷ xs) (suc k) x all there = each P xs k x (All-tail P y xs all) there

pub map_there : {A B : Type 0} (f : A → B) (xs : List A) (k : ℕ) (x : A) → slice_get xs k ≡ Some x → slice_get (map f xs) k ≡ Some (f x)
map_there f [] k x e = absurd (cc)
map_there f (y ∷ xs) zero x e = ap (λ (o : Option _). o) (same (ap Some (ap f (same_some y x e))))
  where
    same : {B : Type 0} {a b : B} → Some a ≡ Some b → Some a ≡ Some b
    same h = h

    same_some : {A : Type 0} (a b : A) → Some a ≡ Some b → a ≡ b
    same_some a b h = cc
map_there f (y ∷ xs) (suc k) x e = map_there f xs k x e

pub get_there : {A : Type 0} (xs : List A) (k : ℕ) (x d : A) → slice_get xs k ≡ Some x → get_or xs k d ≡ x
get_there [] k x d e = absurd (cc)
get_there (y ∷ xs) zero x d e = same y x e
  where
    same : {A : Type 0} (a b : A) → Some a ≡ Some b → a ≡ b
    same a b h = cc
get_there (y ∷ xs) (suc k) x d e = get_there xs k x d e

pub there_below : {A : Type 0} (xs : List A) (k : ℕ) → k < length xs → (x : A) × (slice_get xs k ≡ Some x)
there_below [] k h = absurd (omega (arith, h))
there_below (y ∷ xs) zero h = (y, refl)
there_below (y ∷ xs) (suc k) h = there_below xs k (omega (arith, h))

-- ## Each process is declared

module _ (forms : Forms) (is_built : IsBuiltUp forms) (count : ℕ) (of_types : (t : TypeId) (k : ℕ) → form_of forms t ≡ Some (AProcess k) → k < count) where
  abbrev IsBelow : ℕ × Text → Type 0
  IsBelow p = p.0 < count

  abbrev AreBelow : TypeId → Type 0
  AreBelow t = (label : Text) → All IsBelow (labelled forms is_built t label)

  elements_below : (n : ℕ) (low : ℤ) (t : TypeId) → AreBelow t → (label : Text) → All IsBelow (elements_labelled n low (labelled forms is_built t) label)
  elements_below zero low t h label = All-nil IsBelow
  elements_below (suc n) low t h label =
      All-append IsBelow (labelled forms is_built t (with_index label low)) (elements_labelled n _ (labelled forms is_built t) label) (h (with_index label low))
      (elements_below n _ t h label)

  fields_below : (m : ℕ) (fields : FieldList) → AreBefore m fields → ((u : TypeId) → u.place < m → AreBelow u) → (label : Text)
      → All IsBelow (fields_labelled (all_labelled forms) fields label)
  fields_below m [] below each label = All-nil IsBelow
  fields_below m (f ∷ fields) below each label =
      All-append IsBelow (labelled forms is_built f.1 (label ++ 46 ∷ f.0)) (fields_labelled (all_labelled forms) fields label)
      (each f.1 below.0 (label ++ 46 ∷ f.0)) (fields_below m fields below.1 each label)

  as_below : (xs ys : List (ℕ × Text)) → ys ≡ xs → All IsBelow xs → All IsBelow ys
  as_below xs ys e h = subst (λ (l : List (ℕ × Text)). All IsBelow l) (sym e) h

  formed_below : (t : TypeId) (form : TypeForm) → form_of forms t ≡ Some form → IsBefore t.place form → ((u : TypeId) → u.place < t.place → AreBelow u)
      → AreBelow t
  formed_below t (Channel u) e below each label =
      as_below [] _ (ap (λ (l : Labelled). l label) (labelled_formed forms is_built t (Channel u) e)) (All-nil IsBelow)
  formed_below t (AProcess n) e below each label =
      as_below ((n, label) ∷ []) _ (ap (λ (l : Labelled). l label) (labelled_formed forms is_built t (AProcess n) e))
      (All-cons IsBelow (n, label) [] (of_types t n e) (All-nil IsBelow))
  formed_below t (Array over low high element) e below each label =
      as_below (elements_labelled (extent low high) low (labelled forms is_built element) label) _
      (labelled_array forms is_built t over element low high e label)
      (elements_below (extent low high) low element (each element below) label)
  formed_below t (Record fields) e below each label =
      as_below (fields_labelled (all_labelled forms) fields label) _ (labelled_record forms is_built t fields e label)
      (fields_below t.place fields below each label)

  labels_below : (t : TypeId) → AreBelow t
  labels_below =
      by_types forms is_built AreBelow
      (λ t e label. as_below [] _ (ap (λ (l : Labelled). l label) (labelled_formless forms is_built t e)) (All-nil IsBelow)) formed_below

  pub names_below : (b : Blocks) → length b.processes ≡ count → (names : Names) → All (λ x. IsNumbered b 0 x.1) names
      → All IsBelow (names_labelled (all_labelled forms) names)
  names_below b same [] all = All-nil IsBelow
  names_below b same (x ∷ names) all =
      All-append IsBelow (name_labelled (all_labelled forms) x.0 x.1) (names_labelled (all_labelled forms) names)
      (at x.1 (All-head (λ y. IsNumbered b 0 y.1) x names all)) (names_below b same names (All-tail (λ y. IsNumbered b 0 y.1) x names all))
    where
      at : (m : Meaning) → IsNumbered b 0 m → All IsBelow (name_labelled (all_labelled forms) x.0 m)
      at (Constant t v) is = All-nil IsBelow
      at (Named t) is = All-nil IsBelow
      at (Variable t reference) is = labels_below t x.0
      at (Sub n) is = All-nil IsBelow
      at (Module n) is = All-nil IsBelow
      at (Process n) is = All-cons IsBelow (n, x.0) [] (subst (λ (k : ℕ). n < k) same is) (All-nil IsBelow)
      at (Entry n) is = All-nil IsBelow
      at (Predeclared k) is = All-nil IsBelow
      at Faulty is = All-nil IsBelow

-- ## The processes of a program

module _ (t : ProgramTree) where
  abbrev pub labels : List (ℕ × Text)
  labels = names_labelled (all_labelled (finished t).forms) (scope_at (finished t).blocks.scopes 0)

  of_process : (u : TypeId) (k : ℕ) → form_of (finished t).forms u ≡ Some (AProcess k) → k < length (finished t).blocks.processes
  of_process u k e = by (finished t).forms u.place (numbered (finished t) (finished_reached t)).types e
    where
      by : (forms : Forms) (n : ℕ) → All (λ form. IfSome form (IsOfProcess (finished t).blocks)) forms → get_or forms n None ≡ Some (AProcess k)
          → k < length (finished t).blocks.processes
      by [] n all e = absurd (cc)
      by (f ∷ forms) zero all e =
          subst (λ (o : Option TypeForm). IfSome o (IsOfProcess (finished t).blocks)) e
          (All-head (λ form. IfSome form (IsOfProcess (finished t).blocks)) f forms all)
      by (f ∷ forms) (suc n) all e = by forms n (All-tail (λ form. IfSome form (IsOfProcess (finished t).blocks)) f forms all) e

  pub declared : All (λ (p : ℕ × Text). p.0 < length (finished t).blocks.processes) labels
  declared =
      names_below (finished t).forms (types_built t) (length (finished t).blocks.processes) of_process (finished t).blocks refl
      (scope_at (finished t).blocks.scopes 0) ((numbered (finished t) (finished_reached t)).names 0)

  module _ (lawful : IsLawful (forget_program t)) (whole : broken t ≡ []) where
    -- the line of a process is that of its block
    pub line_is : (n : ℕ) → n < length (finished t).blocks.processes
        → line_of_block (image_of t).blocks (block_number (program_of t) (process_at (finished t).blocks n).scope) ≡
        (declared_block (program_of t) n).first_line
    line_is n below =
        let c = (the_main_block t).code in
        let at =
        called_stands t (main_setting t c) (process_at (finished t).blocks n).scope 0 (process_at (finished t).blocks n).formals lawful whole
        (main_of_image t c)
        (process_called t lawful whole n below) in
        ap (λ (o : Option CodeBlock). line_in o) at.1.there ∙ at.1.stands.line

  module _ (mains : AreOfMain (finished t)) where
    -- as many processes as the image has, beside main
    pub count_is : length (image_of t).processes ≡ 1 + length (program_of t).objects.processes
    count_is =
        let one = length-map labels (λ (p : ℕ × Text). process_info (program_of t) p) in
        let two : length (program_of t).objects.processes ≡ length labels = ap length (processes_are t mains) ∙ length-map labels (λ (p : ℕ × Text). p.0) in
        omega (arith, one, two)

    -- the declaration of each, with its label
    pub labelled_there : (q n : ℕ) → slice_get (program_of t).objects.processes q ≡ Some n → (p : ℕ × Text) × (slice_get labels q ≡ Some p) × (p.0 ≡ n)
    labelled_there q n e = by labels q (ap (λ (l : List ℕ). slice_get l q) (sym (processes_are t mains)) ∙ e)
      where
        by : (ps : List (ℕ × Text)) (k : ℕ) → slice_get (map (λ (p : ℕ × Text). p.0) ps) k ≡ Some n → (p : ℕ × Text) × (slice_get ps k ≡ Some p) × (p.0 ≡ n)
        by [] k e = absurd (cc)
        by (p ∷ ps) zero e = (p, refl, same p.0 n e)
          where
            same : {A : Type 0} (a b : A) → Some a ≡ Some b → a ≡ b
            same a b h = cc
        by (p ∷ ps) (suc k) e = by ps k e
