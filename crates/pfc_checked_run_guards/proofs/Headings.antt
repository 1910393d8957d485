-- In a program in which no static rule is broken blocks and modules stand as their headings say.
use Rattle.std.proofs.Common.{◌≡◌, ◌≢◌, false, [], Option, Some, None, is_some, refl, ap, ◌∙◌}
use Rattle.pfc_tree.specs.trees.Parts.{ProgramTree}
use Rattle.pfc_tree.specs.forget.Parts.{forget_program}
use Rattle.pfc_tree.specs.lawful.Parts.{IsLawful}
use Rattle.pfc_types.specs.declared.heads.SubSort.{SubSort}
use Rattle.pfc_types.specs.declared.heads.SubSort.TheVariants.{Procedure, Guarded, Function}
use Rattle.pfc_types.specs.rules.Whole.{broken}
use Rattle.pfc_semantics.specs.Programs.{Guard}
use Rattle.pfc_callee_laws.specs.Callees.{is_guarded_sort}
use Rattle.pfc_callee_laws.proofs.Program.{declared_in}
use Rattle.pfc_callee_laws.proofs.Blocks.{sub_block, process_block}
use Rattle.pfc_callee_laws.proofs.Modules.{module_found}
use Rattle.pfc_run_guards.specs.Headings.{HeadingsStand}

not_guarded : (s : SubSort) → s ≢ Guarded → is_guarded_sort s ≡ false
not_guarded Procedure h = refl
not_guarded Guarded h = absurd (h refl)
not_guarded (Function t) h = refl

none_there : (o : Option Guard) → is_some o ≡ false → o ≡ None
none_there None e = refl
none_there (Some guard) e = absurd (cc)

pub headings_stand : (t : ProgramTree) → IsLawful (forget_program t) → broken t ≡ [] → HeadingsStand t
headings_stand t lawful whole =
    record {
      unguarded = λ n low sort. none_there _ ((sub_block t lawful whole n low).guarded ∙ not_guarded _ sort);
      guarded = λ n low sort. (sub_block t lawful whole n low).guarded ∙ ap is_guarded_sort sort;
      declared = λ n i x e. declared_in t lawful n i x e;
      processes = λ n low. (process_block t lawful whole n low).unguarded;
      modules = λ n low. module_found t lawful n low;
    }
