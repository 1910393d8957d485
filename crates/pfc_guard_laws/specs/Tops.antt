-- In which order a process enters monitors and resources.
use Rattle.std.specs.Prelude.{ℕ, ◌≤◌, ◌<◌, ◌≡◌, ◌≢◌, List, [], ◌∷◌, Option, Some, None}
use Rattle.pfc_types.specs.rules.Expressions.{Env}
use Rattle.pfc_semantics.specs.Remainders.{Remainder}
use Rattle.pfc_semantics.specs.Configurations.{Mark, plain, of_remainder, Activation}

-- The place in the text of the part of the program in which a block stands, by its scope, and of a monitor and a resource.
pub record Tops : Type 0 where
  pub of_scope : ℕ → ℕ
  pub of_mark : Mark → ℕ

-- what was entered stands where its procedure does
abbrev pub StandsIn : Tops → Mark → ℕ → Type 0
StandsIn tops plain i = Unit {0}
StandsIn tops mark i = i ≡ tops.of_mark mark

-- who calls stands in the same part or behind it; and behind a module that it enters
abbrev pub ComesBefore : Mark → ℕ → ℕ → Type 0
ComesBefore plain i j = i ≤ j
ComesBefore mark i j = i < j

-- The activations of a process, innermost first, stand ever later in the text. So they do in a checked program: a
-- body sees what was declared before the part of
-- the program in which it stands, and a module does not see itself.
abbrev pub AreOrdered : Tops → List Activation → Type 0
AreOrdered tops [] = Unit {0}
AreOrdered tops (a ∷ []) = StandsIn tops a.mark (tops.of_scope a.scope)
AreOrdered tops (a ∷ (b ∷ rest)) =
    StandsIn tops a.mark (tops.of_scope a.scope) × ComesBefore a.mark (tops.of_scope a.scope) (tops.of_scope b.scope) × AreOrdered tops (b ∷ rest)

-- the first activation of a process has no caller
abbrev pub IsRooted : List Activation → Type 0
IsRooted [] = Unit {0}
IsRooted (a ∷ []) = (env : Env) (k : Remainder) → a.caller ≢ of_remainder env k
IsRooted (a ∷ (b ∷ rest)) = IsRooted (b ∷ rest)

-- ## Where an activation stands

-- what the activation has entered, and the scope of its block; and which order is asked of what it calls, if any
pub record Standing : Type 0 where
  pub mark : Mark
  pub scope : ℕ
  pub tops : Option Tops

abbrev pub standing_at : Option Tops → Mark → ℕ → Standing
standing_at tops mark i = record { mark = mark; scope = i; tops = tops }

-- A block with the scope i, which is entered so, may be called from one with the scope j.
abbrev pub Comes : Option Tops → Mark → ℕ → ℕ → Type 0
Comes None mark i j = Unit {0}
Comes (Some tops) mark i j = StandsIn tops mark (tops.of_scope i) × ComesBefore mark (tops.of_scope i) (tops.of_scope j)

-- both stand in one part of the program
abbrev pub Beside : Option Tops → ℕ → ℕ → Type 0
Beside None i j = Unit {0}
Beside (Some tops) i j = tops.of_scope i ≡ tops.of_scope j

-- the activations are in order, and the first has no caller
abbrev pub IsOrdered : Option Tops → List Activation → Type 0
IsOrdered None activations = Unit {0}
IsOrdered (Some tops) activations = AreOrdered tops activations × IsRooted activations

-- where order is asked whoever acts has an activation
abbrev pub Lives : Option Tops → List Activation → Type 0
Lives None activations = Unit {0}
Lives (Some tops) activations = activations ≢ []
