-- The objects of a program: each condition is one of a monitor, and there are no more semaphores, channels and conditions than cells.
use Rattle.std.proofs.Common.{◌≡◌, ◌⊎◌, inl, inr, ℕ, zero, suc, ◌+◌, ◌-◌, ◌*◌, ◌<◌, ◌≤◌, Bool, true, false, ◌||◌, nat_lt, length-append, pos, List, [], ◌∷◌}
use Rattle.std.proofs.Common.{◌++◌, length, take, get_or, fold, Option, Some, None, refl, sym, ap, ◌∙◌, subst, arith}
use Rattle.std.specs.List.{All}
use Rattle.std.proofs.lemmas.Bool.Decides.{nat_tests}
use Rattle.std.proofs.lemmas.List.{get_or_append_left, get_or-append_right}
use Rattle.std.proofs.lemmas.List.Sums.{sum_by-cons}
use Rattle.std.proofs.lemmas.List.Elements.{All-nil, All-cons, All-head, All-tail, All-append}
use Rattle.pfc_tree.specs.trees.Parts.{ProgramTree}
use Rattle.pfc_tree.specs.forget.Parts.{forget_program}
use Rattle.pfc_tree.specs.lawful.Parts.{IsLawful}
use Rattle.pfc_types.specs.Types.{Forms, held_of, held_next, held_before, held_form, held_with, held_times, nothing_held, one_cell, predeclared_held, extent}
use Rattle.pfc_types.specs.Fields.{FieldList}
use Rattle.pfc_types.specs.Scopes.{Names, scope_at}
use Rattle.pfc_types.specs.Blocks.{State, module_at, no_module}
use Rattle.pfc_types.specs.declared.table.Held.{Held}
use Rattle.pfc_types.specs.declared.types.TypeId.{TypeId}
use Rattle.pfc_types.specs.declared.types.TypeForm.{TypeForm}
use Rattle.pfc_types.specs.declared.types.TypeForm.TheVariants.{Channel, Array, Record, Process as AProcess}
use Rattle.pfc_types.specs.declared.heads.ModuleHead.{ModuleHead}
use Rattle.pfc_types.specs.declared.scope.Meaning.{Meaning}
use Rattle.pfc_types.specs.declared.scope.Meaning.TheVariants.{Constant, Named, Variable, Sub, Module, Process, Entry, Predeclared, Faulty}
use Rattle.pfc_semantics.specs.Values.{ordinal}
use Rattle.pfc_semantics.specs.Objects.{Objects, Numbering, unnumbered, numbering_of, numbering_form, numbering_next, numbered_copies, numbered_fields}
use Rattle.pfc_semantics.specs.Objects.{predeclared_numberings, all_numberings, numbered_names, of_kind, module_number, numbered_main, no_objects}
use Rattle.pfc_types.specs.rules.Declarations.{Owner, in_program, module_owner, may_wait, name_cells}
use Rattle.pfc_types.specs.rules.Whole.{finished}
use Rattle.pfc_name_laws.specs.Reached.{IsNumbered}
use Rattle.pfc_name_laws.proofs.Numbers.{numbered}
use Rattle.pfc_name_laws.proofs.Parts.{finished_reached}
use Rattle.pfc_semantics.specs.Layouts.{Layout, laid_names, main_layout}
use Rattle.pfc_semantics.specs.Programs.{layout_cells, program_of}
use Rattle.pfc_translation.specs.Images.{image_of}
use Rattle.pfc_object_laws.proofs.Mains.{layout_is, cells_are}
use Rattle.pfc_main_names.specs.Owners.{IsOfOwner}
use Rattle.pfc_main_names.proofs.Owned.{IsFine}
use Rattle.pfc_main_names.proofs.Walk.{names_fine}
use Rattle.pfc_main_names.proofs.Mains.{there, modules_inside}
use Rattle.pfc_main_names.proofs.Cells.{cells_append}

-- ## The types

abbrev no_number : Numbering
no_number = unnumbered (ordinal (pos 0))

-- how many of these objects are numbered from 0
abbrev count_of : Objects → ℕ
count_of o = o.semaphores + o.channels + length o.conditions

-- each condition is one of so many monitors
abbrev AreOwned : ℕ → Objects → Type 0
AreOwned bound o = All (λ (m : ℕ). m < bound) o.conditions

-- A variable adds conditions of its monitor alone, and none where its type holds none; and no more semaphores, channels and conditions than it has cells.
record Adds (bound monitor : ℕ) (held : Held) (before after : Objects) : Type 0 where
  owners : monitor < bound → AreOwned bound before → AreOwned bound after
  few : count_of after ≤ count_of before + held.cells
  none : held.conditions ≡ false → after.conditions ≡ before.conditions

adds_none : (bound monitor : ℕ) (held : Held) (before : Objects) → Adds bound monitor held before before
adds_none bound monitor held before = record { owners = λ below all. all; few = omega arith; none = λ e. refl }

no_or : (a b : Bool) → (a || b) ≡ false → (a ≡ false) × (b ≡ false)
no_or false false e = (refl, refl)
no_or false true e = absurd (cc)
no_or true b e = absurd (cc)

-- each type so far adds so
record AreAdding (bound : ℕ) (helds : List Held) (numberings : List Numbering) : Type 0 where
  count : length helds ≡ length numberings
  adds : (n monitor : ℕ) (o : Objects) → Adds bound monitor (get_or helds n one_cell) o (get_or numberings n no_number monitor o).objects

module _ (bound : ℕ) (helds : List Held) (numberings : List Numbering) (adding : AreAdding bound helds numberings) where
  copies_add : (n monitor : ℕ) (t : TypeId) (o : Objects)
      → Adds bound monitor (held_times n (held_before helds t)) o (numbered_copies n (numbering_of numberings t) monitor o).objects
  copies_add zero monitor t o = adds_none bound monitor (held_times 0 (held_before helds t)) o
  copies_add (suc n) monitor t o =
      let one = adding.adds t.place monitor o in
      let next = (numbering_of numberings t monitor o).objects in
      let rest = copies_add n monitor t next in
      record {
        owners = λ below all. rest.owners below (one.owners below all);
        few = both (held_before helds t).cells _ _ _ one.few rest.few;
        none = λ e. rest.none e ∙ one.none e;
      }
    where
      both : (c a b d : ℕ) → b ≤ a + c → d ≤ b + n * c → d ≤ a + suc n * c
      both c a b d h k = grind (arith, h, k)

  fields_add : (fields : FieldList) (sum : Held) (monitor : ℕ) (first o : Objects) → Adds bound monitor sum first o
      → Adds bound monitor (fold (λ sum f. held_with sum (held_before helds f.1)) sum fields) first (numbered_fields numberings fields monitor o).objects
  fields_add [] sum monitor first o h = h
  fields_add (f ∷ fields) sum monitor first o h =
      let one = adding.adds f.1.place monitor o in
      let next = (numbering_of numberings f.1 monitor o).objects in
      fields_add fields (held_with sum (held_before helds f.1)) monitor first next
      (record {
        owners = λ below all. one.owners below (h.owners below all);
        few = let a = h.few in let b = one.few in omega (arith, a, b);
        none = λ e. let apart = no_or sum.conditions (held_before helds f.1).conditions e in one.none apart.1 ∙ h.none apart.0;
      })

  form_adds : (form : TypeForm) (monitor : ℕ) (o : Objects)
      → Adds bound monitor (held_form helds form) o (numbering_form numberings form monitor o).objects
  form_adds (Channel t) monitor o = record { owners = λ below all. all; few = omega arith; none = λ e. refl }
  form_adds (Array over low high element) monitor o = copies_add (extent low high) monitor element o
  form_adds (Record fields) monitor o = fields_add fields nothing_held monitor o o (adds_none bound monitor nothing_held o)
  form_adds (AProcess n) monitor o = record { owners = λ below all. all; few = omega arith; none = λ e. refl }

  predeclared_adds : (n monitor : ℕ) (o : Objects)
      → Adds bound monitor (predeclared_held n) o (get_or predeclared_numberings n no_number monitor o).objects
  predeclared_adds zero monitor o = adds_none bound monitor (predeclared_held 0) o
  predeclared_adds (suc zero) monitor o = adds_none bound monitor (predeclared_held 1) o
  predeclared_adds (suc (suc zero)) monitor o = adds_none bound monitor (predeclared_held 2) o
  predeclared_adds (suc (suc (suc zero))) monitor o = record { owners = λ below all. all; few = omega arith; none = λ e. refl }
  predeclared_adds (suc (suc (suc (suc zero)))) monitor o =
      record {
        owners = λ below all.
            All-append (λ (m : ℕ). m < bound) o.conditions (monitor ∷ []) all
            (All-cons (λ (m : ℕ). m < bound) monitor [] below (All-nil (λ (m : ℕ). m < bound)));
        few = let sum = length-append o.conditions (monitor ∷ []) in omega (arith, sum);
        none = λ e. absurd (cc);
      }
  predeclared_adds (suc (suc (suc (suc (suc zero))))) monitor o = adds_none bound monitor (predeclared_held 5) o
  predeclared_adds (suc (suc (suc (suc (suc (suc n)))))) monitor o =
      adds_none bound monitor (predeclared_held (suc (suc (suc (suc (suc (suc n))))))) o

  next_adds : (form : Option TypeForm) (monitor : ℕ) (o : Objects)
      → Adds bound monitor (held_next helds form) o (numbering_next numberings form monitor o).objects
  next_adds None monitor o =
      subst (λ (k : ℕ). Adds bound monitor (held_next helds None) o (get_or predeclared_numberings k no_number monitor o).objects) adding.count
      (predeclared_adds (length helds) monitor o)
  next_adds (Some form) monitor o = form_adds form monitor o

module _ (bound : ℕ) (helds : List Held) (numberings : List Numbering) (form : Option TypeForm) (adding : AreAdding bound helds numberings) where
  abbrev one : Held
  one = held_next helds form

  abbrev its : Numbering
  its = numbering_next numberings form

  abbrev AddsAt : Held → Numbering → ℕ → Objects → Type 0
  AddsAt held f monitor o = Adds bound monitor held o (f monitor o).objects

  last : (k monitor : ℕ) (o : Objects) → AddsAt (get_or (one ∷ []) k one_cell) (get_or (its ∷ []) k no_number) monitor o
  last zero monitor o = next_adds bound helds numberings adding form monitor o
  last (suc k) monitor o = adds_none bound monitor one_cell o

  pushed : (n monitor : ℕ) (o : Objects) → AddsAt (get_or (helds ++ one ∷ []) n one_cell) (get_or (numberings ++ its ∷ []) n no_number) monitor o
  pushed n monitor o = by (nat_lt n (length numberings)) refl
    where
      by : (b : Bool) → nat_lt n (length numberings) ≡ b
          → AddsAt (get_or (helds ++ one ∷ []) n one_cell) (get_or (numberings ++ its ∷ []) n no_number) monitor o
      by true h =
          let below : n < length numberings = grind (arith, nat_tests) in
          let held_below : n < length helds = omega (arith, below, adding.count) in
          subst (λ (x : Held). AddsAt x (get_or (numberings ++ its ∷ []) n no_number) monitor o)
          (sym (get_or_append_left helds (one ∷ []) one_cell n held_below))
          (subst (λ (f : Numbering). AddsAt (get_or helds n one_cell) f monitor o) (sym (get_or_append_left numberings (its ∷ []) no_number n below))
          (adding.adds n monitor o))
      by false h =
          let past : length numberings ≤ n = grind (arith, nat_tests) in
          subst (λ (x : Held). AddsAt x (get_or (numberings ++ its ∷ []) n no_number) monitor o)
          (sym (get_or-append_right helds (one ∷ []) (length numberings) n one_cell adding.count past))
          (subst (λ (f : Numbering). AddsAt (get_or (one ∷ []) (n - length numberings) one_cell) f monitor o)
          (sym (get_or-append_right numberings (its ∷ []) (length numberings) n no_number refl past)) (last (n - length numberings) monitor o))

  push_adding : AreAdding bound (helds ++ one ∷ []) (numberings ++ its ∷ [])
  push_adding = record {
    count = length-append helds (one ∷ []) ∙ ap (λ (n : ℕ). n + 1) adding.count ∙ sym (length-append numberings (its ∷ []));
    adds = pushed;
  }

all_adding :
    (bound : ℕ) (forms : Forms) (helds : List Held) (numberings : List Numbering) → AreAdding bound helds numberings
    → AreAdding bound (fold (λ before form. before ++ held_next before form ∷ []) helds forms) (fold
    (λ before form. before ++ numbering_next before form ∷ []) numberings forms)
all_adding bound [] helds numberings adding = adding
all_adding bound (form ∷ forms) helds numberings adding =
    all_adding bound forms (helds ++ held_next helds form ∷ []) (numberings ++ numbering_next numberings form ∷ [])
    (push_adding bound helds numberings form adding)

type_adds : (bound : ℕ) (forms : Forms) (t : TypeId) (monitor : ℕ) (o : Objects)
    → Adds bound monitor (held_of forms t) o (numbering_of (all_numberings forms) t monitor o).objects
type_adds bound forms t =
    (all_adding bound forms [] [] (record { count = refl; adds = λ n monitor o. adds_none bound monitor one_cell o })).adds t.place

-- ## The names

-- variables add conditions of monitors alone, and no more semaphores, channels and conditions than they have cells
record AddsOnce (bound cells : ℕ) (before after : Objects) : Type 0 where
  owners : AreOwned bound before → AreOwned bound after
  few : count_of after ≤ count_of before + cells

adds_both : {bound one more all : ℕ} {before between after : Objects} → all ≡ one + more → AddsOnce bound one before between → AddsOnce bound more between after
    → AddsOnce bound all before after
adds_both sum h k = let a = h.few in let b = k.few in record { owners = λ all. k.owners (h.owners all); few = omega (arith, sum, a, b) }

module _ (bound : ℕ) (forms : Forms) where
  variable_adds : (owner : Owner) (t : TypeId) (monitor : ℕ) (o : Objects) → (may_wait owner ≡ false → (held_of forms t).conditions ≡ false)
      → (may_wait owner ≡ false) ⊎ (monitor < bound)
      → AddsOnce bound (held_of forms t).cells o (numbering_of (all_numberings forms) t monitor o).objects
  variable_adds owner t monitor o own (inl e) =
      let adds = type_adds bound forms t monitor o in
      record { owners = λ all. subst (λ (l : List ℕ). All (λ (m : ℕ). m < bound) l) (sym (adds.none (own e))) all; few = adds.few }
  variable_adds owner t monitor o own (inr below) = let adds = type_adds bound forms t monitor o in record { owners = adds.owners below; few = adds.few }

  names_add : (owner : Owner) (monitor : ℕ) → (may_wait owner ≡ false) ⊎ (monitor < bound) → (names : Names) → All (λ x. IsOfOwner owner forms x.1) names
      → (o : Objects)
      → AddsOnce bound (layout_cells forms (laid_names names)) o (numbered_names (all_numberings forms) names monitor o).objects
  names_add owner monitor may [] all o = record { owners = λ h. h; few = omega arith }
  names_add owner monitor may (x ∷ names) all o =
      at x.1 (All-head (λ y. IsOfOwner owner forms y.1) x names all) (λ p. names_add owner monitor may names
      (All-tail (λ y. IsOfOwner owner forms y.1) x names all) p)
    where
      at : (m : Meaning) → IsOfOwner owner forms m
          → ((p : Objects)
          → AddsOnce bound (layout_cells forms (laid_names names)) p (numbered_names (all_numberings forms) names monitor p).objects)
          → AddsOnce bound (layout_cells forms (laid_names ((x.0, m) ∷ names))) o
          (numbered_names (all_numberings forms) ((x.0, m) ∷ names) monitor o).objects
      at (Variable t false) is rest =
          adds_both (sum_by-cons (λ (y : Meaning). name_cells forms y) (Variable t false) (laid_names names)) (variable_adds owner t monitor o is.2 may)
          (rest (numbering_of (all_numberings forms) t monitor o).objects)
      at (Variable t true) is rest = absurd (let e = is.0 in cc)
      at (Process n) is rest =
          let own : AddsOnce bound 1 o o = record { owners = λ h. h; few = omega arith } in
          adds_both (sum_by-cons (λ (y : Meaning). name_cells forms y) (Process n) (laid_names names)) own (rest o)
      at (Constant t v) is rest = rest o
      at (Named t) is rest = rest o
      at (Sub n) is rest = rest o
      at (Module n) is rest = rest o
      at (Entry n) is rest = rest o
      at (Predeclared k) is rest = rest o
      at Faulty is rest = rest o

-- ## The program

-- a monitor comes before those that come behind it
kind_below : (ms : List ModuleHead) (n : ℕ) (d : ModuleHead) → n < length ms → (get_or ms n d).resource ≡ false → of_kind false (take n ms) < of_kind false ms
kind_below [] n d below e = absurd (omega (arith, below))
kind_below (m ∷ ms) zero d below e = by m.resource e
  where
    by : (r : Bool) → r ≡ false → 0 < of_kind false (record { scope = m.scope; resource = r } ∷ ms)
    by false h = omega arith
    by true h = absurd (cc)
kind_below (m ∷ ms) (suc n) d below e = by m.resource (kind_below ms n d (omega (arith, below)) e)
  where
    by : (r : Bool) → of_kind false (take n ms) < of_kind false ms
        → of_kind false (record { scope = m.scope; resource = r } ∷ take n ms) < of_kind false (record { scope = m.scope; resource = r } ∷ ms)
    by false h = omega (arith, h)
    by true h = h

module _ (t : ProgramTree) (lawful : IsLawful (forget_program t)) where
  abbrev s : State
  s = finished t

  abbrev monitors : ℕ
  monitors = of_kind false s.blocks.modules

  module_waits : (n : ℕ) → n < length s.blocks.modules
      → (may_wait (module_owner (module_at s.blocks n).resource) ≡ false) ⊎ (module_number s.blocks n < monitors)
  module_waits n below = by (module_at s.blocks n).resource refl
    where
      by : (r : Bool) → (module_at s.blocks n).resource ≡ r → (may_wait (module_owner r) ≡ false) ⊎ (of_kind r (take n s.blocks.modules) < monitors)
      by true e = inl refl
      by false e = inr (kind_below s.blocks.modules n no_module below e)

  main_adds : (names : Names) → All (λ x. IsOfOwner in_program s.forms x.1) names → All (λ x. IsNumbered s.blocks 0 x.1) names → (o : Objects)
      → AddsOnce monitors (layout_cells s.forms (main_layout s.blocks names)) o (numbered_main s.blocks (all_numberings s.forms) names o).objects
  main_adds [] owned numbers o = record { owners = λ h. h; few = omega arith }
  main_adds (x ∷ names) owned numbers o =
      at x.1 (All-head (λ y. IsOfOwner in_program s.forms y.1) x names owned) (All-head (λ y. IsNumbered s.blocks 0 y.1) x names numbers)
      (λ p. main_adds names (All-tail (λ y. IsOfOwner in_program s.forms y.1) x names owned) (All-tail (λ y. IsNumbered s.blocks 0 y.1) x names numbers) p)
    where
      at : (m : Meaning) → IsOfOwner in_program s.forms m → IsNumbered s.blocks 0 m
          → ((p : Objects) → AddsOnce monitors (layout_cells s.forms (main_layout s.blocks names)) p
          (numbered_main s.blocks (all_numberings s.forms) names p).objects)
          → AddsOnce monitors (layout_cells s.forms (main_layout s.blocks ((x.0, m) ∷ names))) o
          (numbered_main s.blocks (all_numberings s.forms) ((x.0, m) ∷ names) o).objects
      at (Variable u false) is number rest =
          adds_both (sum_by-cons (λ (y : Meaning). name_cells s.forms y) (Variable u false) (main_layout s.blocks names))
          (variable_adds monitors s.forms in_program u 0 o is.2 (inl refl)) (rest (numbering_of (all_numberings s.forms) u 0 o).objects)
      at (Variable u true) is number rest = absurd (let e = is.0 in cc)
      at (Process n) is number rest =
          let more : Objects = record o { processes = o.processes ++ n ∷ [] } in
          let own : AddsOnce monitors 1 o more = record { owners = λ h. h; few = omega arith } in
          adds_both (sum_by-cons (λ (y : Meaning). name_cells s.forms y) (Process n) (main_layout s.blocks names)) own (rest more)
      at (Module n) is number rest =
          let inside =
          there (λ (head : ModuleHead). (0 < head.scope) × (head.scope < length s.blocks.scopes) × IsFine (module_owner head.resource) s.forms 0 s head.scope)
          s.blocks.modules n no_module (modules_inside t lawful) number in
          let names_inside = scope_at s.blocks.scopes (module_at s.blocks n).scope in
          adds_both (cells_append s.forms (laid_names names_inside) (main_layout s.blocks names))
          (names_add monitors s.forms (module_owner (module_at s.blocks n).resource) (module_number s.blocks n)
          (module_waits n number) names_inside inside.2.owned o)
          (rest (numbered_names (all_numberings s.forms) names_inside (module_number s.blocks n) o).objects)
      at (Constant u v) is number rest = rest o
      at (Named u) is number rest = rest o
      at (Sub n) is number rest = rest o
      at (Entry n) is number rest = rest o
      at (Predeclared k) is number rest = rest o
      at Faulty is number rest = rest o

  all_add : AddsOnce monitors (layout_cells s.forms (main_layout s.blocks (scope_at s.blocks.scopes 0))) no_objects (program_of t).objects
  all_add = main_adds (scope_at s.blocks.scopes 0) (names_fine t lawful).program.owned ((numbered s (finished_reached t)).names 0) no_objects

  -- each condition is one of a monitor
  pub conditions_have_monitors : All (λ (m : ℕ). m < (image_of t).monitors) (image_of t).conditions
  conditions_have_monitors = all_add.owners (All-nil (λ (m : ℕ). m < monitors))

  -- semaphores, channels and conditions take cells of main's block
  pub few_objects : (program_of t).objects.semaphores + (program_of t).objects.channels + length (program_of t).objects.conditions ≤ (program_of t).main.cells
  few_objects =
      let few = all_add.few in
      let cells : (program_of t).main.cells ≡ layout_cells s.forms (main_layout s.blocks (scope_at s.blocks.scopes 0)) =
      cells_are t ∙ ap (λ (l : Layout). layout_cells s.forms l) (layout_is t) in
      omega (arith, few, cells)

  pub few_conditions : length (image_of t).conditions ≤ (program_of t).main.cells
  few_conditions = let few = few_objects in omega (arith, few)
