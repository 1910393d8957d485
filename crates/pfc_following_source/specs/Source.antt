-- What it is for the code of a process to follow its source text.
use Rattle.std.specs.Prelude.{ℕ, zero, suc, ◌+◌, ◌<◌, ◌≤◌, ◌≡◌, ℤ, List, length}
use Rattle.pfc_code.specs.declared.instructions.Instr.{Instr}
use Rattle.pfc_semantics.specs.Remainders.{Action}
use Rattle.pfc_semantics.specs.Rewriting.{Doing, next}
use Rattle.pfc_standing_code.specs.Settings.{Setting, IsAt}
use Rattle.pfc_standing_code.specs.Effects.{Arm, onward, effect_of, CanPerform}
use Rattle.pfc_standing_code.specs.Following.{Arrived, DoesAt}

-- So many quiet instructions lead from an address with operands and alternatives to another. Each of them finds its operands, leads up, and
-- leaves operands and alternatives that fit.
pub data LeadsQuietly (g : Setting) (to : ℕ) (left : List ℤ) (more : List Arm) : ℕ → ℕ → List ℤ → List Arm → Type 0 where
  none_more : LeadsQuietly g to left more zero to left more
  one_more : (n at : ℕ) (ops : List ℤ) (arms : List Arm) (i : Instr) (line mid : ℕ) (ops_then : List ℤ) (arms_then : List Arm)
      → IsAt g at i line → CanPerform g i ops → effect_of g i at ops arms ≡ onward mid ops_then arms_then
      → at < mid → length ops_then ≤ g.room → length arms_then ≤ g.arms
      → LeadsQuietly g to left more n mid ops_then arms_then → LeadsQuietly g to left more (suc n) at ops arms

-- Quiet instructions lead from here to the instruction of this action: no more of them than addresses lie between. Which instruction that is, what
-- its operands are and what stands behind it, is told with `Arrived`, one line for each kind of action.
pub record LeadsToAction (g : Setting) (at : ℕ) (ops : List ℤ) (arms : List Arm) (n : Action) : Type 0 where
  pub count : ℕ
  pub to : ℕ
  pub left : List ℤ
  pub more : List Arm
  pub quietly : LeadsQuietly g to left more count at ops arms
  pub arrived : Arrived g to left more n
  pub few : at + count ≤ to
  pub within : to < length g.code
  -- the operands and alternatives that are held there fit
  pub room : length left ≤ g.room
  pub arms_fit : length more ≤ g.arms

-- for a process that does this, as far as its operands and alternatives fit
abbrev pub CodeFollowsSource : Setting → Type 0
CodeFollowsSource g =
    (d : Doing) (at : ℕ) (ops : List ℤ) (arms : List Arm) → length ops ≤ g.room → length arms ≤ g.arms → DoesAt g at ops arms d
    → LeadsToAction g at ops arms (next d)
