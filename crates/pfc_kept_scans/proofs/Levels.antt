-- The level of a process behind its scan, and in the trial of another.
use Rattle.std.proofs.Common.{◌≡◌, ℕ, ◌≤◌, ℤ, List, [], length, sym, subst}
use Rattle.pfc_semantics.specs.Rewriting.{Doing}
use Rattle.pfc_standing_code.specs.Settings.{Setting, same_block}
use Rattle.pfc_standing_code.specs.Effects.{Arm}
use Rattle.pfc_standing_code.specs.Performs.{own_block, own_again}
use Rattle.pfc_following_source.specs.Behind.{GoesOnAt}
use Rattle.pfc_representation.specs.Levels.{LivingLevel, DoesOn}
use Rattle.pfc_kept_own_actions.proofs.Alone.{does_on}

-- its own again
abbrev pub own_level : LivingLevel → LivingLevel
own_level level = record level { setting = own_again level.setting }

abbrev pub level_with : LivingLevel → Setting → LivingLevel
level_with level setting = record level { setting = setting }

-- what follows in the block of the setting, a process that has made no alternatives does at that level
pub does_with : (level : LivingLevel) (g : Setting) (at : ℕ) (ops : List ℤ) (doing : Doing) → level.arms ≡ [] → length level.arms ≤ g.arms
    → GoesOnAt g g.block at ops [] doing → DoesOn (level_with level g) at ops doing
does_with level g at ops doing none few goes =
    does_on (level_with level g) g.block at ops doing same_block few (subst (λ (arms : List Arm). GoesOnAt g g.block at ops arms doing) (sym none) goes)

pub does_own : (level : LivingLevel) (at : ℕ) (ops : List ℤ) (doing : Doing) → level.arms ≡ [] → length level.arms ≤ level.setting.arms
    → GoesOnAt (own_again level.setting) (own_block level.setting.trial level.setting.block) at ops [] doing → DoesOn (own_level level) at ops doing
does_own level at ops doing none few goes = does_with level (own_again level.setting) at ops doing none few goes
