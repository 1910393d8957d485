-- Single processes have their numbers as long as a program runs.
use Rattle.std.proofs.Common.{◌≡◌, ℕ, ◌+◌, ◌*◌, ◌^◌, ◌<◌, ◌≤◌, ℤ, pos, [], length, slice_get, Option, Some, None, refl, sym, ap, ◌∙◌, subst, arith}
use Rattle.pfc_types.specs.declared.scope.Meaning.TheVariants.{Process}
use Rattle.pfc_semantics.specs.Values.{Location, ordinal}
use Rattle.pfc_semantics.specs.Programs.{Block, Program, block_at}
use Rattle.pfc_semantics.specs.Processes.{declaration_of}
use Rattle.pfc_semantics.specs.Store.{variable}
use Rattle.pfc_semantics.specs.Configurations.{Config}
use Rattle.pfc_translation.specs.Objects.{objects_of}
use Rattle.pfc_translation.specs.Images.{image_of}
use Rattle.pfc_stacks.specs.declared.refs.Ref.{Ref}
use Rattle.pfc_stacks.specs.Refs.{word_of}
use Rattle.pfc_stacks.specs.Stacks.{own_cells}
use Rattle.pfc_cells.specs.Shapes.{here}
use Rattle.pfc_cells.specs.Homes.{Lies, layout_at, cells_before}
use Rattle.pfc_machines.specs.declared.machine.Machine.{Machine}
use Rattle.pfc_object_laws.specs.Objects.{number_at}
use Rattle.pfc_call_laws.specs.Calls.{first_home}
use Rattle.pfc_nesting_laws.proofs.Programs.{main_found}
use Rattle.pfc_representation.specs.Levels.{Facts, program_in, LivingLevel}
use Rattle.pfc_representation.specs.Acting.{IsActing}
use Rattle.pfc_kept_lives.proofs.Singles.{singles_numbered}
use Rattle.pfc_kept_meetings.specs.Owners.{HasSingles}

module _
    (facts : Facts) (m : Machine) (c : Config) (p : ℕ) (level : LivingLevel) (numbered : facts.number ≡ number_at (objects_of (program_in facts)))
    (acting : IsActing facts m c p level)
  where
    abbrev g : Program
    g = program_in facts

    module _ (k n : ℕ) (there : slice_get (block_at g 0).layout k ≡ Some (Process n)) where
      abbrev its_own : Location
      its_own = record { activation = 0; variable = k; selectors = [] }

      of_main : block_at g 0 ≡ g.main
      of_main = main_found facts.tree acting.alike.program.lawful

      in_main : slice_get g.main.layout k ≡ Some (Process n)
      in_main = subst (λ (z : Block). slice_get z.layout k ≡ Some (Process n)) of_main there

      abbrev cell : Ref
      cell = record {
        process = (first_home 0 0).process;
        cell = (first_home 0 0).cell + own_cells + cells_before g.state.forms (layout_at g (first_home 0 0)) k + 0;
      }

      lies : Lies g acting.homes its_own None cell
      lies = record {
        home = first_home 0 0;
        behind = 0;
        is = record { at = acting.alike.holds.main; meaning = Process n; laid = there; variable = refl; own = refl; path = here None };
        place = refl;
      }

      abbrev single : (i : ℕ)
          × (number_at (objects_of g) (pos (own_cells + cells_before g.state.forms g.main.layout k)) ≡ Some (pos i)) × (1 ≤ i)
          × (i < length (image_of facts.tree).processes) × (declaration_of g i ≡ n)
      single = singles_numbered facts.tree acting.alike.program.lawful k n in_main

      word : word_of cell ≡ pos (own_cells + cells_before g.state.forms g.main.layout k)
      word =
          ap (λ (z : Block). pos (0 * 2 ^ 32 + (0 + own_cells + cells_before g.state.forms z.layout k + 0))) of_main
          ∙ ap pos (plain (cells_before g.state.forms g.main.layout k))
        where
          plain : (j : ℕ) → 0 * 2 ^ 32 + (0 + own_cells + j + 0) ≡ own_cells + j
          plain j = omega arith

      number : facts.number (word_of cell) ≡ Some (pos single.0)
      number = ap (λ (f : ℤ → Option ℤ). f (word_of cell)) numbered ∙ ap (number_at (objects_of g)) word ∙ single.1

      value : variable c.store its_own ≡ ordinal (pos single.0)
      value =
          let (i, known, is) = acting.alike.holds.objects.known its_own None cell lies refl in
          let same : i ≡ pos single.0 = (let both : Some i ≡ Some (pos single.0) = sym known ∙ number in cc) in
          is ∙ ap (λ (j : ℤ). ordinal j) same

    pub has_singles : HasSingles facts c
    has_singles = record {
      numbers = λ k n there.
          let one = single k n there in
          (one.0, value k n there, subst (λ l. one.0 < l) (sym acting.alike.words.processes) one.3, one.4);
    }
