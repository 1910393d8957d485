-- The first values of main's variables, name by name: they are laid out as main's layout has it, and their objects are numbered one behind the other.
use Rattle.std.proofs.Common.{◌≡◌, ℕ, zero, suc, ◌+◌, ◌-◌, ◌*◌, ◌<◌, ◌≤◌, min, ℤ, pos, true, false, List, [], ◌∷◌, ◌++◌, length, take, fold, slice_get, Some}
use Rattle.std.proofs.Common.{refl, sym, ap, ap₂, ◌∙◌, subst, arith, ◌⊎◌, inl, inr}
use Rattle.std.specs.List.{All}
use Rattle.std.proofs.lemmas.List.{append_assoc, map-append}
use Rattle.std.proofs.lemmas.List.Elements.{All-head, All-tail}
use Rattle.pfc_tree.specs.Symbols.{Text}
use Rattle.pfc_types.specs.Types.{Forms, form_of, extent, held_of, held_before, held_with, held_next, all_held, one_cell}
use Rattle.pfc_types.specs.Fields.{FieldList}
use Rattle.pfc_types.specs.Scopes.{Names, scope_at}
use Rattle.pfc_types.specs.Blocks.{State, module_at}
use Rattle.pfc_types.specs.declared.table.Held.{Held}
use Rattle.pfc_types.specs.declared.types.TypeId.{TypeId}
use Rattle.pfc_types.specs.declared.types.TypeForm.{TypeForm}
use Rattle.pfc_types.specs.declared.types.TypeForm.TheVariants.{Channel, Array, Record, Process as AProcess}
use Rattle.pfc_types.specs.declared.scope.Meaning.{Meaning}
use Rattle.pfc_types.specs.declared.scope.Meaning.TheVariants.{Constant, Named, Variable, Sub, Module, Process, Entry, Predeclared, Faulty}
use Rattle.pfc_semantics.specs.Values.{Value, ordinal}
use Rattle.pfc_semantics.specs.Layouts.{Layout, laid_names, main_layout}
use Rattle.pfc_semantics.specs.Objects.{Objects, Numbered, alone, all_numberings, numbered_names, module_number, numbered_main}
use Rattle.pfc_semantics.proofs.Tables.{built_form, built_part}
use Rattle.pfc_translation.specs.Objects.{Labelled, elements_labelled, fields_labelled, with_index, all_labelled, name_labelled, names_labelled}
use Rattle.pfc_cells.specs.Shapes.{AreCounted}
use Rattle.pfc_type_laws.specs.Tables.{AreBefore, IsBefore, IsBuiltUp}
use Rattle.pfc_object_laws.specs.Kinds.{Kinds, EachKind}
use Rattle.pfc_object_laws.specs.Mains.{IsOfModule, IsOfMain}
use Rattle.pfc_object_laws.proofs.Tables.{by_types}
use Rattle.pfc_object_laws.proofs.Lists.{get_left, get_right_at}
use Rattle.pfc_object_laws.proofs.Parts.{cells}
use Rattle.pfc_object_laws.proofs.Values.{numbering, IsFirst, first_of_type}
use Rattle.pfc_object_laws.proofs.Numbers.{AreFirst, declared_in, Goes, goes_nowhere, goes_on, first_before, count_behind, labelled, labelled_formless}
use Rattle.pfc_object_laws.proofs.Numbers.{labelled_formed, labelled_array, labelled_record, numbered}

-- ## One value for each variable

-- this is so of each variable and its value
abbrev pub Laid : (Meaning → Value → Type 0) → Layout → List Value → Type 0
Laid Q [] [] = Unit {0}
Laid Q [] (v ∷ values) = ⊥
Laid Q (m ∷ layout) [] = ⊥
Laid Q (m ∷ layout) (v ∷ values) = Q m v × Laid Q layout values

laid_both : (Q : Meaning → Value → Type 0) (l k : Layout) (vs ws : List Value) → Laid Q l vs → Laid Q k ws → Laid Q (l ++ k) (vs ++ ws)
laid_both Q [] k [] ws one two = two
laid_both Q [] k (v ∷ vs) ws one two = absurd one
laid_both Q (m ∷ l) k [] ws one two = absurd one
laid_both Q (m ∷ l) k (v ∷ vs) ws one two = (one.0, laid_both Q l k vs ws one.1 two)

pub laid_there : (Q : Meaning → Value → Type 0) (l : Layout) (vs : List Value) (k : ℕ) (m : Meaning) → Laid Q l vs → slice_get l k ≡ Some m
    → (v : Value) × (slice_get vs k ≡ Some v) × Q m v
laid_there Q [] [] k m laid there = absurd (cc)
laid_there Q [] (v ∷ vs) k m laid there = absurd laid
laid_there Q (n ∷ l) [] k m laid there = absurd laid
laid_there Q (n ∷ l) (v ∷ vs) zero m laid there = (v, refl, subst (λ (x : Meaning). Q x v) (same n m there) laid.0)
  where
    same : (a b : Meaning) → Some a ≡ Some b → a ≡ b
    same a b h = cc
laid_there Q (n ∷ l) (v ∷ vs) (suc k) m laid there = laid_there Q l vs k m laid.1 there

module _ (forms : Forms) (is_built : IsBuiltUp forms) (counted : AreCounted forms) where
  -- a variable is of its type, and its words are the numbers of its objects; a single process is its number
  abbrev pub FirstOf : Meaning → Value → Type 0
  FirstOf (Variable t reference) v = (reference ≡ false) × IsFirst forms (cells forms is_built counted t) t v
  FirstOf (Process n) v = (k : ℕ) × (v ≡ ordinal (pos k))
  FirstOf m v = ⊥

  -- each object is one of its kind
  abbrev pub KindOf : Kinds → Meaning → Value → Type 0
  KindOf all (Variable t reference) v = EachKind forms all t v
  KindOf all (Process n) v = (k : ℕ) × (v ≡ ordinal (pos k)) × (1 ≤ k) × (slice_get all.processes (k - 1) ≡ Some n)
  KindOf all m v = ⊥

  -- Variables that are laid out so, numbered behind these objects, with the declarations of the processes among them.
  pub record AreNumbered (layout : Layout) (declared : List ℕ) (o : Objects) (r : Numbered (List Value)) : Type 0 where
    pub more : List TypeId
    pub goes : Goes o more declared r.objects
    pub first : Laid FirstOf layout r.is
    pub kinds : (carried : List TypeId) (all : Kinds) → length carried ≡ o.channels → AreFirst r.objects (carried ++ more) all → Laid (KindOf all) layout r.is

  none : (o : Objects) → AreNumbered [] [] o (record { is = []; objects = o })
  none o = record { more = []; goes = goes_nowhere o; first = tt; kinds = λ before all count first. tt }

  both : (l k : Layout) (ns ms : List ℕ) (o : Objects) (r q : Numbered (List Value)) → AreNumbered l ns o r → AreNumbered k ms r.objects q
      → AreNumbered (l ++ k) (ns ++ ms) o (record { is = r.is ++ q.is; objects = q.objects })
  both l k ns ms o r q one two =
      record {
        more = one.more ++ two.more;
        goes = goes_on o r.objects q.objects one.more two.more ns ms one.goes two.goes;
        first = laid_both FirstOf l k r.is q.is one.first two.first;
        kinds = λ before all count first.
            (let behind : AreFirst q.objects ((before ++ one.more) ++ two.more) all =
            subst (λ (x : List TypeId). AreFirst q.objects x all) (sym (append_assoc before one.more two.more)) first in
            let count_then = count_behind o r.objects before one.more ns count one.goes in
            let first_then = first_before r.objects q.objects (before ++ one.more) two.more ms all count_then two.goes behind in
            laid_both (KindOf all) l k r.is q.is (one.kinds before all count first_then) (two.kinds (before ++ one.more) all count_then behind));
      }

  variable : (t : TypeId) (monitor : ℕ) (o : Objects) (label : Text)
      → AreNumbered (Variable t false ∷ []) (declared_in (labelled forms is_built t label)) o (alone (numbering forms is_built t monitor o))
  variable t monitor o label =
      let is = numbered forms is_built t monitor o label in
      record {
        more = _;
        goes = is.goes;
        first = ((refl, first_of_type forms is_built counted t monitor o), tt);
        kinds = λ before all count first. (is.kinds before all count first, tt);
      }

  single : (n : ℕ) (o : Objects)
      → AreNumbered (Process n ∷ []) (n ∷ []) o
      (record { is = ordinal (pos (length o.processes + 1)) ∷ []; objects = record o { processes = o.processes ++ n ∷ [] } })
  single n o =
      record {
        more = [];
        goes = record { channels = omega arith; processes = refl; semaphores = omega arith; conditions = omega arith };
        first = ((length o.processes + 1, refl), tt);
        kinds = λ before all count first. ((length o.processes + 1, refl, omega arith, declares all first), tt);
      }
    where
      declares : (all : Kinds) {carried : List TypeId} → AreFirst (record o { processes = o.processes ++ n ∷ [] }) carried all
          → slice_get all.processes (length o.processes + 1 - 1) ≡ Some n
      declares all first =
          ap (λ (k : ℕ). slice_get all.processes k) (omega arith) ∙ ap (λ (l : List ℕ). slice_get l (length o.processes)) first.processes.splits
          ∙ get_left (o.processes ++ n ∷ []) first.processes.more (length o.processes) n
          (get_right_at o.processes (n ∷ []) (length o.processes) 0 (omega arith))

  -- ## Types that hold no process

  abbrev HoldsNone : TypeId → Type 0
  HoldsNone t = (held_of forms t).processes ≡ 0 → (label : Text) → labelled forms is_built t label ≡ []

  part_held : (t : TypeId) (form : TypeForm) (u : TypeId) → form_of forms t ≡ Some form → u.place < t.place
      → held_before (all_held (take t.place forms)) u ≡ held_of forms u
  part_held t form u e below = built_part Held held_next forms t form u one_cell e below

  none_among : (n : ℕ) (low : ℤ) (t : TypeId) → (n ≡ 0) ⊎ ((label : Text) → labelled forms is_built t label ≡ []) → (label : Text)
      → elements_labelled n low (labelled forms is_built t) label ≡ []
  none_among zero low t h label = refl
  none_among (suc n) low t (inl e) label = absurd (omega (arith, e))
  none_among (suc n) low t (inr each) label = ap₂ (λ (a b : List (ℕ × Text)). a ++ b) (each (with_index label low)) (none_among n _ t (inr each) label)

  none_times : (n k : ℕ) → min (n * k) 1024 ≡ 0 → (n ≡ 0) ⊎ (k ≡ 0)
  none_times zero k h = inl refl
  none_times (suc n) zero h = inr refl
  none_times (suc n) (suc k) h = absurd (more (suc n * suc k) (positive n k) h)
    where
      positive : (n k : ℕ) → 0 < suc n * suc k
      positive n k = omega arith

      more : (m : ℕ) → 0 < m → min m 1024 ≡ 0 → ⊥
      more m h e = omega (arith, h, e)

  fields_sum : (t : TypeId) (form : TypeForm) (sum : Held) (fields : FieldList) → form_of forms t ≡ Some form → AreBefore t.place fields
      → ((u : TypeId) → u.place < t.place → HoldsNone u)
      → (fold (λ s f. held_with s (held_before (all_held (take t.place forms)) f.1)) sum fields).processes ≡ 0
      → (sum.processes ≡ 0) × ((label : Text) → fields_labelled (all_labelled forms) fields label ≡ [])
  fields_sum t form sum [] e below each h = (h, λ label. refl)
  fields_sum t form sum (f ∷ fields) e below each h =
      let rest = fields_sum t form (held_with sum (held_before (all_held (take t.place forms)) f.1)) fields e below.1 each h in
      let joined : min (sum.processes + (held_before (all_held (take t.place forms)) f.1).processes) 1024 ≡ 0 = rest.0 in
      let own : (held_before (all_held (take t.place forms)) f.1).processes ≡ 0 = omega (arith, joined) in
      let its : (held_of forms f.1).processes ≡ 0 = ap (λ (x : Held). x.processes) (sym (part_held t form f.1 e below.0)) ∙ own in (
        omega (arith, joined),
        λ label. ap₂ (λ (a b : List (ℕ × Text)). a ++ b) (each f.1 below.0 its (label ++ 46 ∷ f.0)) (rest.1 label),
      )

  holds_formed : (t : TypeId) (form : TypeForm) → form_of forms t ≡ Some form → IsBefore t.place form → ((u : TypeId) → u.place < t.place → HoldsNone u)
      → HoldsNone t
  holds_formed t (Channel u) e below each h label = ap (λ (l : Labelled). l label) (labelled_formed forms is_built t (Channel u) e)
  holds_formed t (AProcess n) e below each h label =
      absurd (let one : 1 ≡ 0 = ap (λ (x : Held). x.processes) (sym (built_form Held held_next forms t (AProcess n) one_cell e)) ∙ h in omega (arith, one))
  holds_formed t (Array over low high element) e below each h label =
      let held : min (extent low high * (held_of forms element).processes) 1024 ≡ 0 =
      ap (λ (x : Held). min (extent low high * x.processes) 1024) (sym (part_held t (Array over low high element) element e below))
      ∙ ap (λ (x : Held). x.processes) (sym (built_form Held held_next forms t (Array over low high element) one_cell e)) ∙ h in
      labelled_array forms is_built t over element low high e label
      ∙ none_among (extent low high) low element (either (none_times (extent low high) (held_of forms element).processes held)) label
    where
      either : (extent low high ≡ 0) ⊎ ((held_of forms element).processes ≡ 0)
          → (extent low high ≡ 0) ⊎ ((label : Text) → labelled forms is_built element label ≡ [])
      either (inl a) = inl a
      either (inr a) = inr (each element below a)
  holds_formed t (Record fields) e below each h label =
      let held =
      fields_sum t (Record fields) _ fields e below each (ap (λ (x : Held). x.processes) (sym (built_form Held held_next forms t (Record fields) one_cell e))
      ∙ h) in
      labelled_record forms is_built t fields e label ∙ held.1 label

  holds_none : (t : TypeId) → HoldsNone t
  holds_none =
      by_types forms is_built HoldsNone (λ t e h label. ap (λ (l : Labelled). l label) (labelled_formless forms is_built t e)) holds_formed

  -- ## Name by name

  module_names : (monitor : ℕ) (names : Names) → All (λ x. IsOfModule forms x.1) names → (o : Objects)
      → AreNumbered (laid_names names) [] o (numbered_names (all_numberings forms) names monitor o)
  module_names monitor [] all o = none o
  module_names monitor (x ∷ names) all o =
      at x.1 (All-head (λ y. IsOfModule forms y.1) x names all) (λ p. module_names monitor names (All-tail (λ y. IsOfModule forms y.1) x names all) p)
    where
      at : (m : Meaning) → IsOfModule forms m → ((p : Objects) → AreNumbered (laid_names names) [] p (numbered_names (all_numberings forms) names monitor p))
          → AreNumbered (laid_names ((x.0, m) ∷ names)) [] o (numbered_names (all_numberings forms) ((x.0, m) ∷ names) monitor o)
      at (Constant t v) is rest = rest o
      at (Named t) is rest = rest o
      at (Variable t false) is rest =
          let r = numbering forms is_built t monitor o in
          both (Variable t false ∷ []) (laid_names names) [] [] o (alone r) (numbered_names (all_numberings forms) names monitor r.objects)
          (subst (λ (l : List (ℕ × Text)). AreNumbered (Variable t false ∷ []) (declared_in l) o (alone r)) (holds_none t is.1 []) (variable t monitor o []))
          (rest r.objects)
      at (Variable t true) is rest = absurd (let both : true ≡ false = is.0 in cc)
      at (Sub n) is rest = rest o
      at (Module n) is rest = rest o
      at (Process n) is rest = absurd is
      at (Entry n) is rest = rest o
      at (Predeclared k) is rest = rest o
      at Faulty is rest = rest o

  pub main_names : (s : State) → s.forms ≡ forms → (names : Names) → All (λ x. IsOfMain s x.1) names → (o : Objects)
      → AreNumbered (main_layout s.blocks names) (declared_in (names_labelled (all_labelled forms) names)) o
      (numbered_main s.blocks (all_numberings forms) names o)
  main_names s same [] all o = none o
  main_names s same (x ∷ names) all o =
      at x.1 (All-head (λ y. IsOfMain s y.1) x names all) (λ p. main_names s same names (All-tail (λ y. IsOfMain s y.1) x names all) p)
    where
      joined : (m : Meaning) (l : Layout) (ns : List ℕ) (r : Numbered (List Value)) → declared_in (name_labelled (all_labelled forms) x.0 m) ≡ ns
          → AreNumbered l ns o r
          → ((p : Objects)
          → AreNumbered (main_layout s.blocks names) (declared_in (names_labelled (all_labelled forms) names)) p
          (numbered_main s.blocks (all_numberings forms) names p))
          → AreNumbered (l ++ main_layout s.blocks names) (declared_in (name_labelled (all_labelled forms) x.0 m ++ names_labelled (all_labelled forms)
          names)) o
          (record {
            is = r.is ++ (numbered_main s.blocks (all_numberings forms) names r.objects).is;
            objects =
                (numbered_main s.blocks (all_numberings forms) names r.objects).objects;
          })
      joined m l ns r e one rest =
          subst (λ (ms : List ℕ). AreNumbered (l ++ main_layout s.blocks names) ms o
          (record {
            is = r.is ++ (numbered_main s.blocks (all_numberings forms) names r.objects).is;
            objects =
                (numbered_main s.blocks (all_numberings forms) names r.objects).objects;
          }))
          (sym (map-append (λ (p : ℕ × Text). p.0) (name_labelled (all_labelled forms) x.0 m) (names_labelled (all_labelled forms) names)
          ∙ ap (λ (ms : List ℕ). ms ++ declared_in (names_labelled (all_labelled forms) names)) e))
          (both l (main_layout s.blocks names) ns (declared_in (names_labelled (all_labelled forms) names)) o r
          (numbered_main s.blocks (all_numberings forms) names r.objects) one (rest r.objects))

      at : (m : Meaning) → IsOfMain s m
          → ((p : Objects)
          → AreNumbered (main_layout s.blocks names) (declared_in (names_labelled (all_labelled forms) names)) p
          (numbered_main s.blocks (all_numberings forms) names p))
          → AreNumbered (main_layout s.blocks ((x.0, m) ∷ names)) (declared_in (names_labelled (all_labelled forms) ((x.0, m) ∷ names))) o
          (numbered_main s.blocks (all_numberings forms) ((x.0, m) ∷ names) o)
      at (Constant t v) is rest = rest o
      at (Named t) is rest = rest o
      at (Variable t false) is rest =
          joined (Variable t false) (Variable t false ∷ []) (declared_in (labelled forms is_built t x.0)) (alone (numbering forms is_built t 0 o)) refl
          (variable t 0 o x.0) rest
      at (Variable t true) is rest = absurd (let both : true ≡ false = is in cc)
      at (Sub n) is rest = rest o
      at (Module n) is rest =
          let inside = scope_at s.blocks.scopes (module_at s.blocks n).scope in
          joined (Module n) (laid_names inside) [] (numbered_names (all_numberings forms) inside (module_number s.blocks n) o) refl
          (module_names (module_number s.blocks n) inside (subst (λ (f : Forms). All (λ y. IsOfModule f y.1) inside) same is) o) rest
      at (Process n) is rest =
          joined (Process n) (Process n ∷ []) (n ∷ [])
          (record { is = ordinal (pos (length o.processes + 1)) ∷ []; objects = record o { processes = o.processes ++ n ∷ [] } }) refl (single n o) rest
      at (Entry n) is rest = rest o
      at (Predeclared k) is rest = rest o
      at Faulty is rest = rest o
