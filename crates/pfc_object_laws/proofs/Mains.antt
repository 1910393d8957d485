-- The first values of main's variables in a program.
use Rattle.std.proofs.Common.{◌≡◌, ℕ, zero, suc, ◌+◌, ℤ, pos, List, [], ◌∷◌, ◌++◌, length, get_or, replicate, slice_get, Option, Some, None, true, false, refl}
use Rattle.std.proofs.Common.{sym, ap, ◌∙◌, subst, arith}
use Rattle.std.proofs.lemmas.List.{append-nil}
use Rattle.pfc_tree.specs.trees.Stmts.{BodyTree, body}
use Rattle.pfc_tree.specs.trees.Parts.{ProgramTree}
use Rattle.pfc_types.specs.Types.{Forms}
use Rattle.pfc_types.specs.Scopes.{Names, scope_at}
use Rattle.pfc_types.specs.declared.types.TypeId.{TypeId}
use Rattle.pfc_types.specs.declared.scope.Meaning.{Meaning}
use Rattle.pfc_types.specs.declared.scope.Meaning.TheVariants.{Constant, Named, Variable, Sub, Module, Process as Single, Entry, Predeclared, Faulty}
use Rattle.pfc_types.specs.rules.Expressions.{Env}
use Rattle.pfc_types.specs.rules.Whole.{finished}
use Rattle.pfc_semantics.specs.Values.{Value, ordinal, part}
use Rattle.pfc_semantics.specs.Layouts.{Layout, main_layout, is_laid}
use Rattle.pfc_semantics.specs.Objects.{no_objects, all_numberings, numbered_main}
use Rattle.pfc_semantics.specs.Programs.{Guard, Program, block_of, layout_cells, program_of}
use Rattle.pfc_translation.specs.Sites.{is_reference}
use Rattle.pfc_translation.specs.Objects.{all_objects, laid_objects, main_numbers, objects_of, all_labelled, names_labelled}
use Rattle.pfc_stacks.specs.Starts.{numbered as numbered_cells}
use Rattle.pfc_cells.specs.Shapes.{AreCounted, IsPath, here, into_element, into_field}
use Rattle.pfc_cells.specs.Homes.{Homes, cells_before, laid_type}
use Rattle.pfc_cells.specs.Memory.{AreCells}
use Rattle.pfc_standing_code.specs.Shapes.{is_object_type}
use Rattle.pfc_type_laws.specs.Tables.{IsBuiltUp}
use Rattle.pfc_type_laws.proofs.WalkBlocks.{types_built}
use Rattle.pfc_type_laws.proofs.SoundTables.{built_counted}
use Rattle.pfc_object_laws.specs.Objects.{all_words, number_at, HasObject}
use Rattle.pfc_object_laws.specs.Kinds.{Kinds, HasKind}
use Rattle.pfc_object_laws.specs.Mains.{AreOfMain}
use Rattle.pfc_object_laws.proofs.Lists.{marked_length}
use Rattle.pfc_object_laws.proofs.Numbers.{AreFirst, declared_in}
use Rattle.pfc_object_laws.proofs.Names.{Laid, laid_there, FirstOf, KindOf, AreNumbered, main_names}
use Rattle.pfc_object_laws.proofs.Places.{AreMarked, are_marked, are_cells, cells_are_marked, only_found, object_is, object_there}

-- ## Main's block

block_layout : (scope outer : ℕ) (env : Env) (next : ℕ) (b : BodyTree) (layout : Layout) (accepts : ℕ) (guard : Option Guard)
    → (block_of scope outer env next b layout accepts guard).layout ≡ layout
block_layout scope outer env next (body ss first last) layout accepts guard = refl

block_cells : (scope outer : ℕ) (env : Env) (next : ℕ) (b : BodyTree) (layout : Layout) (accepts : ℕ) (guard : Option Guard)
    → (block_of scope outer env next b layout accepts guard).cells ≡ layout_cells env.state.forms layout
block_cells scope outer env next (body ss first last) layout accepts guard = refl

pub layout_is : (t : ProgramTree) → (program_of t).main.layout ≡ main_layout (finished t).blocks (scope_at (finished t).blocks.scopes 0)
layout_is t = block_layout 0 0 _ _ t.body (main_layout (finished t).blocks (scope_at (finished t).blocks.scopes 0)) 0 None

pub cells_are : (t : ProgramTree) → (program_of t).main.cells ≡ layout_cells (finished t).forms (program_of t).main.layout
cells_are t =
    block_cells 0 0 _ _ t.body (main_layout (finished t).blocks (scope_at (finished t).blocks.scopes 0)) 0 None
    ∙ ap (λ (l : Layout). layout_cells (finished t).forms l) (sym (layout_is t))

get_or_there : {X : Type 0} (l : List X) (i : ℕ) (x d : X) → slice_get l i ≡ Some x → get_or l i d ≡ x
get_or_there [] i x d e = absurd (cc)
get_or_there (y ∷ l) zero x d e = same y x e
  where
    same : {A : Type 0} (a b : A) → Some a ≡ Some b → a ≡ b
    same a b h = cc
get_or_there (y ∷ l) (suc i) x d e = get_or_there l i x d e

-- ## A program whose names are as they are to be

module _ (t : ProgramTree) (mains : AreOfMain (finished t)) where
  abbrev pub g : Program
  g = program_of t

  abbrev pub forms : Forms
  forms = (finished t).forms

  pub is_built : IsBuiltUp forms
  is_built = types_built t

  pub counted : AreCounted forms
  counted = built_counted forms (types_built t)

  abbrev pub names : Names
  names = scope_at (finished t).blocks.scopes 0

  pub numbered : AreNumbered forms is_built counted (main_layout (finished t).blocks names) (declared_in (names_labelled (all_labelled forms) names)) no_objects
      (numbered_main (finished t).blocks (all_numberings forms) names no_objects)
  numbered = main_names forms is_built counted (finished t) refl names mains no_objects

  firsts : Laid (FirstOf forms is_built counted) g.main.layout g.variables
  firsts = subst (λ (l : Layout). Laid (FirstOf forms is_built counted) l g.variables) (sym (layout_is t)) numbered.first

  -- ## Cells

  marks : AreMarked forms is_built counted g.main.layout g.variables
  marks = are_marked forms is_built counted g.main.layout g.variables firsts

  objects_count : length (laid_objects (all_objects forms) g.main.layout) ≡ g.main.cells
  objects_count = marks.count ∙ sym (cells_are t)

  pub words_count : length (all_words g.variables) ≡ g.main.cells
  words_count =
      ap length marks.words ∙ marked_length (laid_objects (all_objects forms) g.main.layout) (main_numbers g.variables) marks.numbers ∙ objects_count

  pub words_are : (own : List ℤ) → length own ≡ 8 → numbered_cells (objects_of g) (own ++ replicate g.main.cells (pos 0)) ≡ own ++ all_words g.variables
  words_are own count =
      let objects = laid_objects (all_objects forms) g.main.layout in
      ap (λ (n : ℕ). numbered_cells (objects_of g) (own ++ replicate n (pos 0))) (sym objects_count)
      ∙ cells_are_marked 0 objects (main_numbers g.variables) own count marks.numbers
      ∙ ap (λ (ws : List ℤ). own ++ ws) (sym marks.words)

  pub cells_hold : (homes : Homes) → AreCells g homes g.main.layout g.variables (all_words g.variables)
  cells_hold homes = are_cells forms is_built counted g homes refl g.main.layout g.variables firsts

  laid_first : (m : Meaning) (v : Value) → FirstOf forms is_built counted m v → (is_laid m ≡ true) × (is_reference m ≡ false)
  laid_first (Variable u reference) v h = (refl, h.0)
  laid_first (Single n) v h = (refl, refl)
  laid_first (Constant u k) v h = absurd h
  laid_first (Named u) v h = absurd h
  laid_first (Sub n) v h = absurd h
  laid_first (Module n) v h = absurd h
  laid_first (Entry n) v h = absurd h
  laid_first (Predeclared n) v h = absurd h
  laid_first Faulty v h = absurd h

  -- main's variables are no references
  pub own_variables : (k : ℕ) (m : Meaning) → slice_get g.main.layout k ≡ Some m → (is_laid m ≡ true) × (is_reference m ≡ false)
  own_variables k m there = let at = laid_there (FirstOf forms is_built counted) g.main.layout g.variables k m firsts there in laid_first m at.0 at.2

  -- ## Objects

  pub found : (k : ℕ) (m : Meaning) (path : List ℕ) (u : Option TypeId) (o : ℕ) → slice_get g.main.layout k ≡ Some m → IsPath forms (laid_type m) path u o
      → is_object_type forms u ≡ true
      → (n : ℤ) × (number_at (objects_of g) (pos (8 + (cells_before forms g.main.layout k + o))) ≡ Some n) ×
      (part path (get_or g.variables k (ordinal (pos 0))) ≡ ordinal n)
  found k m path u o there leads object =
      let is = object_is forms is_built counted g.main.layout g.variables k m path u o firsts there leads object in (is.number, is.found, is.is)

  pub only : (w n : ℤ) → number_at (objects_of g) w ≡ Some n → HasObject g w
  only w n e =
      let at = only_found 0 (laid_objects (all_objects forms) g.main.layout) (main_numbers g.variables) w n e in
      let its = object_there forms is_built counted g.main.layout g.variables at.i firsts at.cell in
      record {
        variable = its.variable;
        meaning = its.meaning;
        laid = its.laid;
        path = its.path;
        t = its.part_type;
        behind = its.behind;
        leads = its.leads;
        object = its.object;
        word = at.word ∙ ap (λ (k : ℕ). pos (8 + k)) (none_before at.i ∙ its.place);
      }
    where
      none_before : (k : ℕ) → 0 + k ≡ k
      none_before k = omega arith

  -- ## Kinds

  abbrev pub all_kinds : Kinds
  all_kinds =
      record {
        semaphores = g.objects.semaphores;
        conditions = length g.objects.conditions;
        carried = [] ++ numbered.more;
        processes = g.objects.processes;
      }

  -- there are as many channels as it is told of what they carry
  pub carried_count : length all_kinds.carried ≡ g.objects.channels
  carried_count = none_before (length numbered.more) ∙ sym numbered.goes.channels
    where
      none_before : (k : ℕ) → k ≡ 0 + k
      none_before k = omega arith

  first_of_all : AreFirst g.objects ([] ++ numbered.more) all_kinds
  first_of_all =
      record {
        counted = carried_count;
        semaphores = omega arith;
        conditions = omega arith;
        carried_first = record { more = []; splits = sym (append-nil ([] ++ numbered.more)) };
        processes = record { more = []; splits = sym (append-nil g.objects.processes) };
      }

  kinds : Laid (KindOf forms is_built counted all_kinds) g.main.layout g.variables
  kinds =
      subst (λ (l : Layout). Laid (KindOf forms is_built counted all_kinds) l g.variables) (sym (layout_is t))
      (numbered.kinds [] all_kinds refl first_of_all)

  part_kind : (m : Meaning) (v : Value) (path : List ℕ) (u : TypeId) (o : ℕ) → KindOf forms is_built counted all_kinds m v
      → IsPath forms (laid_type m) path (Some u) o
      → HasKind forms all_kinds u (part path v)
  part_kind (Variable w reference) v path u o h leads = h path u o leads
  part_kind (Single n) v path u o h leads = absurd (none leads refl refl)
    where
      none : {x y : Option TypeId} {p : List ℕ} {k : ℕ} → IsPath forms x p y k → x ≡ None → y ≡ Some u → ⊥
      none (here x) one two = let both : None ≡ Some u = sym one ∙ two in cc
      none (into_element s over element x low high i p k form below inner) one two = cc
      none (into_field s y x z fields i p k form there inner) one two = cc
  part_kind (Constant w k) v path u o h leads = absurd h
  part_kind (Named w) v path u o h leads = absurd h
  part_kind (Sub n) v path u o h leads = absurd h
  part_kind (Module n) v path u o h leads = absurd h
  part_kind (Entry n) v path u o h leads = absurd h
  part_kind (Predeclared n) v path u o h leads = absurd h
  part_kind Faulty v path u o h leads = absurd h

  -- an object has its kind
  pub kind_there : (k : ℕ) (m : Meaning) (path : List ℕ) (u : TypeId) (o : ℕ) → slice_get g.main.layout k ≡ Some m → IsPath forms (laid_type m) path (Some u) o
      → HasKind forms all_kinds u (part path (get_or g.variables k (ordinal (pos 0))))
  kind_there k m path u o there leads =
      let its = laid_there (KindOf forms is_built counted all_kinds) g.main.layout g.variables k m kinds there in
      subst (λ (v : Value). HasKind forms all_kinds u (part path v)) (sym (get_or_there g.variables k its.0 (ordinal (pos 0)) its.1))
      (part_kind m its.0 path u o its.2 leads)

  -- the processes of main's variables are those with labels, in the same order
  pub processes_are : g.objects.processes ≡ declared_in (names_labelled (all_labelled forms) names)
  processes_are = numbered.goes.processes
