-- Where the end of a procedure that is called from outside its module goes back to: the statement behind the call, and from a resource a scan first.
use Rattle.std.proofs.Common.{◌≡◌, ℕ, ◌<◌, ◌≤◌, ℤ, List, [], length, slice_get, get_or, true, Some, refl, sym, ap, subst, arith, inl}
use Rattle.std.proofs.lemmas.Option.{slice_get-get_or}
use Rattle.pfc_types.specs.rules.Expressions.{Env}
use Rattle.pfc_code.specs.declared.instructions.Instr.TheVariants.{SCAN}
use Rattle.pfc_standing_code.specs.Effects.{Arm}
use Rattle.pfc_semantics.specs.Programs.{Block, Program}
use Rattle.pfc_semantics.specs.Remainders.{Remainder, Scan, leave, in_names, scan_on}
use Rattle.pfc_semantics.specs.Resources.{scan_of}
use Rattle.pfc_semantics.specs.Configurations.{of_monitor, of_resource, of_remainder}
use Rattle.pfc_semantics.specs.Objects.{of_kind}
use Rattle.pfc_translation.specs.Images.{image_of}
use Rattle.pfc_image_laws.proofs.Modules.{image_scans}
use Rattle.pfc_standing_code.specs.Settings.{Trial, of_own, of_turn, IsBeside, same_block, both_mains, arrived, IsAt}
use Rattle.pfc_standing_code.specs.Words.{IsChecked}
use Rattle.pfc_standing_code.specs.Performs.{Performs}
use Rattle.pfc_standing_code.proofs.Checked.{checked_for}
use Rattle.pfc_standing_images.specs.Images.{IsOfImage}
use Rattle.pfc_standing_images.proofs.Wholes.{scan_stands}
use Rattle.pfc_representation.specs.Levels.{Facts, program_in, LivingLevel, IsProgram, in_turn}
use Rattle.pfc_representation.specs.Callers.{GoesBack}

-- what a level performs over some operands, whose arms fit
pub record IsLeft (level : LivingLevel) (b : Block) (env : Env) (at : ℕ) (below : List ℤ) (k : Remainder) : Type 0 where
  pub own : level.setting.trial ≡ of_own
  pub none : level.arms ≡ []
  pub fits : length below ≤ level.setting.room
  pub beside : IsBeside level.setting level.setting.block b
  pub checked : IsChecked level.setting b env
  pub performs : Performs level.setting b env at below [] k

module _ (facts : Facts) (level : LivingLevel) (b : Block) (env : Env) (back : ℕ) (below : List ℤ) (k : Remainder)
    (is : IsLeft level b env back below k) where
  no_arms : (n : ℕ) → length level.arms ≤ n
  no_arms n = subst (λ (xs : List Arm). length xs ≤ n) (sym is.none) (omega arith)

  -- from a monitor
  pub behind_monitor : (n : ℕ) → GoesBack facts level back below (of_monitor n) (of_remainder env k)
  behind_monitor n = (
    is.fits,
    no_arms level.setting.arms,
    inl (
      b,
      is.beside,
      (checked_for level.setting b env k is.checked, subst (λ (xs : List Arm). Performs level.setting b env back below xs k) (sym is.none) is.performs),
    ),
  )

  -- ## From a resource

  module _ (r : ℕ) where
    abbrev turn : Scan
    turn = scan_of (program_in facts) r leave

    abbrev plainly : LivingLevel
    plainly = in_turn level of_own

    abbrev turned : LivingLevel
    turned = in_turn level (of_turn turn back)

    plainly_is : level ≡ plainly
    plainly_is = ap (λ (t : Trial). in_turn level t) is.own

    beside_turned : (d e : Block) → IsBeside level.setting d e → IsBeside turned.setting d e
    beside_turned d _ same_block = same_block
    beside_turned d _ (both_mains e one two) = both_mains e one two

    scanning : (scan : ℕ) → IsAt level.setting scan (SCAN r) (get_or (program_in facts).resource_ends r 0)
        → Performs turned.setting b env scan below [] (scan_on turn (in_names env k))
    scanning scan there = (
      refl,
      (
        scan,
        arrived scan,
        (
          (back, refl),
          there,
          λ e. (
            tt,
            (
              refl,
              (
                b,
                subst (λ (l : LivingLevel). IsBeside l.setting l.setting.block b) plainly_is is.beside,
                subst (λ (l : LivingLevel). IsChecked l.setting b env) plainly_is is.checked,
                subst (λ (l : LivingLevel). Performs l.setting b env back below [] k) plainly_is is.performs,
              ),
            ),
          ),
        ),
      ),
    )

    pub behind_resource : IsProgram facts.tree → IsOfImage facts.tree level.setting → r < of_kind true (program_in facts).state.blocks.modules
        → GoesBack facts level back below (of_resource r) (of_remainder env k)
    behind_resource program image few =
        let scans : List ℕ = (image_of facts.tree).scans in
        let count : length scans ≡ of_kind true (program_in facts).state.blocks.modules = image_scans facts.tree program.lawful in
        let found : slice_get scans r ≡ Some (get_or scans r 0) = slice_get-get_or scans r 0 (subst (λ i. r < i) (sym count) few) in
        let there : IsAt level.setting (get_or scans r 0) (SCAN r) (get_or level.setting.program.resource_ends r 0) =
        scan_stands facts.tree level.setting image r (get_or scans r 0) found in (
          get_or scans r 0,
          found,
          (
            is.fits,
            no_arms level.setting.arms,
            inl (
              b,
              beside_turned level.setting.block b is.beside,
              (
                tt,
                subst (λ (xs : List Arm). Performs turned.setting b env (get_or scans r 0) below xs (scan_on turn (in_names env k))) (sym is.none)
                    (scanning (get_or scans r 0) (subst (λ (q : Program). IsAt level.setting (get_or scans r 0) (SCAN r)
                    (get_or q.resource_ends r 0)) image.program there)),
              ),
            ),
          ),
        )
