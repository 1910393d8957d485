-- The single processes of a program have their numbers.
use Rattle.std.proofs.Common.{◌≡◌, ℕ, ◌+◌, ◌-◌, ◌<◌, ◌≤◌, ℤ, pos, [], ◌++◌, length, slice_get, Option, Some, None, refl, sym, ap, ◌∙◌}
use Rattle.std.proofs.Common.{subst, arith}
use Rattle.std.proofs.lemmas.List.{append-nil}
use Rattle.std.proofs.lemmas.Option.{slice_get_within}
use Rattle.pfc_tree.specs.trees.Parts.{ProgramTree}
use Rattle.pfc_tree.specs.forget.Parts.{forget_program}
use Rattle.pfc_tree.specs.lawful.Parts.{IsLawful}
use Rattle.pfc_types.specs.declared.scope.Meaning.TheVariants.{Process}
use Rattle.pfc_types.specs.rules.Whole.{finished}
use Rattle.pfc_semantics.specs.Values.{ordinal}
use Rattle.pfc_semantics.specs.Programs.{Program, program_of}
use Rattle.pfc_semantics.specs.Processes.{declaration_of}
use Rattle.pfc_translation.specs.Objects.{objects_of}
use Rattle.pfc_translation.specs.Images.{image_of}
use Rattle.pfc_stacks.specs.Stacks.{own_cells}
use Rattle.pfc_cells.specs.Shapes.{here}
use Rattle.pfc_cells.specs.Homes.{cells_before}
use Rattle.pfc_object_laws.specs.Objects.{number_at}
use Rattle.pfc_object_laws.specs.Mains.{AreOfMain}
use Rattle.pfc_object_laws.proofs.Names.{Laid, laid_there, KindOf}
use Rattle.pfc_object_laws.proofs.Numbers.{AreFirst}
use Rattle.pfc_object_laws.proofs.Mains.{forms, is_built, counted, all_kinds, numbered, layout_is, found, carried_count}
use Rattle.pfc_main_names.proofs.Mains.{are_of_main}
use Rattle.pfc_represented_start.proofs.Processes.{get_there, count_is}

-- In the cell of each single process, which is a variable of main's, lies the number of a process of this declaration.
abbrev pub SinglesAreNumbered : ProgramTree → (ℤ → Option ℤ) → Type 0
SinglesAreNumbered t number =
    (k n : ℕ) → slice_get (program_of t).main.layout k ≡ Some (Process n)
    → (i : ℕ) × (number (pos (own_cells + cells_before (program_of t).state.forms (program_of t).main.layout k)) ≡ Some (pos i)) × (1 ≤ i)
    × (i < length (image_of t).processes) × (declaration_of (program_of t) i ≡ n)

module _ (t : ProgramTree) (lawful : IsLawful (forget_program t)) where
  mains : AreOfMain (finished t)
  mains = are_of_main t lawful

  abbrev g : Program
  g = program_of t

  -- each variable of main's is of its kind
  first_of_all : AreFirst g.objects ([] ++ (numbered t mains).more) (all_kinds t mains)
  first_of_all = record {
    counted = carried_count t mains;
    semaphores = omega arith;
    conditions = omega arith;
    carried_first = record { more = []; splits = sym (append-nil ([] ++ (numbered t mains).more)) };
    processes = record { more = []; splits = sym (append-nil g.objects.processes) };
  }

  kinds : Laid (KindOf (forms t mains) (is_built t mains) (counted t mains) (all_kinds t mains)) g.main.layout g.variables
  kinds =
      subst (λ l. Laid (KindOf (forms t mains) (is_built t mains) (counted t mains) (all_kinds t mains)) l g.variables) (sym (layout_is t))
      ((numbered t mains).kinds [] (all_kinds t mains) refl first_of_all)

  pub singles_numbered : SinglesAreNumbered t (number_at (objects_of g))
  singles_numbered k n there =
      let (v, at, (i, value, some, among)) =
      laid_there (KindOf (forms t mains) (is_built t mains) (counted t mains) (all_kinds t mains)) g.main.layout g.variables k (Process n) kinds there in
      let its = found t mains k (Process n) [] None 0 there (here None) refl in
      let both : ordinal its.0 ≡ ordinal (pos i) = sym its.2 ∙ get_there g.variables k v (ordinal (pos 0)) at ∙ value in
      let same : its.0 ≡ pos i = cc in
      let less = slice_get_within g.objects.processes (i - 1) n among in
      let count = count_is t mains in (
        i,
        ap (λ j. number_at (objects_of g) (pos (own_cells + j))) (none (cells_before g.state.forms g.main.layout k)) ∙ its.1 ∙ ap (λ j. Some j) same,
        some,
        omega (arith, less, some, count),
        get_there g.objects.processes (i - 1) n 0 among,
      )
    where
      none : (j : ℕ) → j ≡ j + 0
      none j = omega arith
