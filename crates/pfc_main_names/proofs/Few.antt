-- A variable has as many labels of processes as its type holds processes, so that there are at most 1,024 in all.
use Rattle.std.proofs.Common.{◌≡◌, ℕ, zero, suc, ◌+◌, ◌-◌, ◌*◌, ◌<◌, ◌≤◌, Bool, true, false, nat_lt, length-append, ℤ, pos, List, [], ◌∷◌, ◌++◌, length, get_or}
use Rattle.std.proofs.Common.{fold, Option, Some, None, refl, sym, ap, ◌∙◌, arith}
use Rattle.std.specs.Prelude.{◌+ℤ◌}
use Rattle.std.proofs.lemmas.Bool.Decides.{nat_tests}
use Rattle.std.proofs.lemmas.List.{length-map, get_or_append_left, get_or-append_right}
use Rattle.std.proofs.lemmas.List.Sums.{sum_by-cons}
use Rattle.pfc_tree.specs.Symbols.{Text}
use Rattle.pfc_tree.specs.trees.Parts.{ProgramTree}
use Rattle.pfc_tree.specs.forget.Parts.{forget_program}
use Rattle.pfc_tree.specs.lawful.Parts.{IsLawful}
use Rattle.pfc_types.specs.Types.{Forms, held_of, held_next, held_before, held_form, held_with, nothing_held, one_cell, extent, most_processes}
use Rattle.pfc_types.specs.Fields.{FieldList}
use Rattle.pfc_types.specs.Scopes.{Names, scope_at}
use Rattle.pfc_types.specs.declared.table.Held.{Held}
use Rattle.pfc_types.specs.declared.types.TypeId.{TypeId}
use Rattle.pfc_types.specs.declared.types.TypeForm.{TypeForm}
use Rattle.pfc_types.specs.declared.types.TypeForm.TheVariants.{Channel, Array, Record, Process as AProcess}
use Rattle.pfc_types.specs.declared.scope.Meaning.{Meaning}
use Rattle.pfc_types.specs.declared.scope.Meaning.TheVariants.{Constant, Named, Variable, Sub, Module, Process, Entry, Predeclared, Faulty}
use Rattle.pfc_types.specs.rules.Whole.{finished, broken}
use Rattle.pfc_name_laws.proofs.Numbers.{none_noted}
use Rattle.pfc_semantics.specs.Programs.{program_of}
use Rattle.pfc_translation.specs.Objects.{Labelled, no_process, labelled_before, elements_labelled, fields_labelled, labelled_form, labelled_next, all_labelled}
use Rattle.pfc_translation.specs.Objects.{name_labelled, names_labelled, process_info}
use Rattle.pfc_translation.specs.Images.{image_of}
use Rattle.pfc_main_names.proofs.Counted.{brings, all_brought, program_counted}

-- ## The types

-- each type so far has as many labels as it holds processes, whatever the label
record AreAsMany (helds : List Held) (labels : List Labelled) : Type 0 where
  count : length helds ≡ length labels
  many : (n : ℕ) (label : Text) → (get_or helds n one_cell).processes ≡ most_processes (length (get_or labels n no_process label))

elements_many : (n : ℕ) (low : ℤ) (f : Labelled) (label : Text) (one : ℕ) → ((own : Text) → one ≡ most_processes (length (f own)))
    → most_processes (n * one) ≡ most_processes (length (elements_labelled n low f label))
elements_many zero low f label one many = none (0 * one) (nothing one)
  where
    nothing : (k : ℕ) → 0 * k ≡ 0
    nothing k = omega arith

    none : (k : ℕ) → k ≡ 0 → most_processes k ≡ most_processes 0
    none k e = ap most_processes e
elements_many (suc n) low f label one many =
    ap most_processes (one_more n one)
    ∙ both one (n * one) (length (f _)) (length (elements_labelled n (low +ℤ pos 1) f label)) _ (many _) (elements_many n (low +ℤ pos 1) f label one many)
    (length-append (f _) (elements_labelled n (low +ℤ pos 1) f label))
  where
    one_more : (k a : ℕ) → suc k * a ≡ a + k * a
    one_more k a = grind (arith)

    both : (a more x y xy : ℕ) → a ≡ most_processes x → most_processes more ≡ most_processes y → xy ≡ x + y
        → most_processes (a + more) ≡ most_processes xy
    both a more x y xy first rest sum = omega (arith, first, rest, sum)

module _ (helds : List Held) (labels : List Labelled) (as_many : AreAsMany helds labels) where
  fields_many : (fields : FieldList) (sum : Held) (label : Text) (before : ℕ) → sum.processes ≡ most_processes before
      → (fold (λ sum f. held_with sum (held_before helds f.1)) sum fields).processes ≡ most_processes (before + length (fields_labelled labels fields label))
  fields_many [] sum label before e = omega (arith, e)
  fields_many (f ∷ fields) sum label before e =
      let own = label ++ 46 ∷ f.0 in
      let x = length (labelled_before labels f.1 own) in
      let one : (held_before helds f.1).processes ≡ most_processes x = as_many.many f.1.place own in
      let rest = fields_many fields (held_with sum (held_before helds f.1)) label (before + x) (omega (arith, e, one)) in
      let sum_is = length-append (labelled_before labels f.1 own) (fields_labelled labels fields label) in
      omega (arith, rest, sum_is)

  form_many : (form : TypeForm) (label : Text) → (held_form helds form).processes ≡ most_processes (length (labelled_form labels form label))
  form_many (Channel t) label = refl
  form_many (Array over low high element) label =
      elements_many (extent low high) low (labelled_before labels element) label (held_before helds element).processes (λ own. as_many.many element.place own)
  form_many (Record fields) label =
      fields_many fields nothing_held label 0 refl ∙ ap most_processes (no_more (length (fields_labelled labels fields label)))
    where
      no_more : (k : ℕ) → 0 + k ≡ k
      no_more k = omega arith
  form_many (AProcess n) label = refl

  next_many : (form : Option TypeForm) (label : Text) → (held_next helds form).processes ≡ most_processes (length (labelled_next labels form label))
  next_many None label = refl
  next_many (Some form) label = form_many form label

module _ (helds : List Held) (labels : List Labelled) (form : Option TypeForm) (as_many : AreAsMany helds labels) where
  abbrev one : Held
  one = held_next helds form

  abbrev its : Labelled
  its = labelled_next labels form

  last : (k : ℕ) (label : Text) → (get_or (one ∷ []) k one_cell).processes ≡ most_processes (length (get_or (its ∷ []) k no_process label))
  last zero label = next_many helds labels as_many form label
  last (suc k) label = refl

  pushed : (n : ℕ) (label : Text) → (get_or (helds ++ one ∷ []) n one_cell).processes ≡ most_processes (length (get_or (labels ++ its ∷ []) n no_process label))
  pushed n label = by (nat_lt n (length labels)) refl
    where
      by : (b : Bool) → nat_lt n (length labels) ≡ b
          → (get_or (helds ++ one ∷ []) n one_cell).processes ≡ most_processes (length (get_or (labels ++ its ∷ []) n no_process label))
      by true h =
          let below : n < length labels = grind (arith, nat_tests) in
          let held_below : n < length helds = omega (arith, below, as_many.count) in
          ap (λ (x : Held). x.processes) (get_or_append_left helds (one ∷ []) one_cell n held_below)
          ∙ as_many.many n label
          ∙ ap (λ (f : Labelled). most_processes (length (f label))) (sym (get_or_append_left labels (its ∷ []) no_process n below))
      by false h =
          let past : length labels ≤ n = grind (arith, nat_tests) in
          ap (λ (x : Held). x.processes) (get_or-append_right helds (one ∷ []) (length labels) n one_cell as_many.count past)
          ∙ last (n - length labels) label
          ∙ ap (λ (f : Labelled). most_processes (length (f label))) (sym (get_or-append_right labels (its ∷ []) (length labels) n no_process refl past))

  push_many : AreAsMany (helds ++ one ∷ []) (labels ++ its ∷ [])
  push_many = record {
    count = length-append helds (one ∷ []) ∙ ap (λ (n : ℕ). n + 1) as_many.count ∙ sym (length-append labels (its ∷ []));
    many = pushed;
  }

all_many :
    (forms : Forms) (helds : List Held) (labels : List Labelled) → AreAsMany helds labels
    → AreAsMany (fold (λ before form. before ++ held_next before form ∷ []) helds forms) (fold (λ before form. before ++ labelled_next before form ∷ [])
    labels forms)
all_many [] helds labels as_many = as_many
all_many (form ∷ forms) helds labels as_many =
    all_many forms (helds ++ held_next helds form ∷ []) (labels ++ labelled_next labels form ∷ []) (push_many helds labels form as_many)

pub held_labels : (forms : Forms) (t : TypeId) (label : Text)
    → (held_of forms t).processes ≡ most_processes (length (labelled_before (all_labelled forms) t label))
held_labels forms t label = (all_many forms [] [] (record { count = refl; many = λ n label. refl })).many t.place label

-- ## The names

name_labels : (forms : Forms) (x : Text) (m : Meaning) → brings forms m ≡ most_processes (length (name_labelled (all_labelled forms) x m))
name_labels forms x (Constant t v) = refl
name_labels forms x (Named t) = refl
name_labels forms x (Variable t reference) = held_labels forms t x
name_labels forms x (Sub n) = refl
name_labels forms x (Module n) = refl
name_labels forms x (Process n) = refl
name_labels forms x (Entry n) = refl
name_labels forms x (Predeclared k) = refl
name_labels forms x Faulty = refl

names_labels : (forms : Forms) (names : Names) → all_brought forms names ≤ 1023 → length (names_labelled (all_labelled forms) names) ≡ all_brought forms names
names_labels forms [] few = refl
names_labels forms (x ∷ names) few =
    let all = all_labelled forms in
    let sum : all_brought forms (x ∷ names) ≡ brings forms x.1 + all_brought forms names = sum_by-cons (λ (y : Text × Meaning). brings forms y.1) x names in
    let one = name_labels forms x.0 x.1 in
    let rest = names_labels forms names (omega (arith, few, sum)) in
    let both = length-append (name_labelled all x.0 x.1) (names_labelled all names) in
    omega (arith, few, sum, one, rest, both)

-- ## The program

-- a program has at most 1,024 processes, main among them
pub few_processes : (t : ProgramTree) → IsLawful (forget_program t) → broken t ≡ [] → length (image_of t).processes ≤ 1024
few_processes t lawful whole =
    let counted = program_counted t lawful (none_noted t whole) in
    let names = scope_at (finished t).blocks.scopes 0 in
    let population = counted.population in
    let most = counted.most in
    let brought : all_brought (finished t).forms names ≤ 1023 = omega (arith, population, most) in
    let labels = names_labels (finished t).forms names brought in
    let one = length-map (names_labelled (all_labelled (finished t).forms) names) (λ (p : ℕ × Text). process_info (program_of t) p) in
    omega (arith, brought, labels, one)
