-- What is still asked of a program and of a run, where an action comes next, beside the rules that runs keep to. All of it is told of checked programs; none
-- of it is asked of the machine alone.
use Rattle.std.specs.Prelude.{ℕ, ◌≡◌, ◌<◌, ◌^◌}
use Rattle.pfc_tree.specs.trees.Parts.{ProgramTree}
use Rattle.pfc_semantics.specs.Configurations.{Config}
use Rattle.pfc_semantics.specs.Programs.{program_of}
use Rattle.pfc_semantics.specs.Remainders.{Context, Offer, Call, Action, to_accept, to_entry, calls, finishes, meets, decides}
use Rattle.pfc_translation.specs.Images.{image_of}
use Rattle.pfc_representation.specs.Levels.{Facts, program_in, LivingLevel, IsProgram}
use Rattle.pfc_kept_meetings.specs.Accepts.{KeepsAccepts}
use Rattle.pfc_kept_meetings.specs.Waiting.{KeepsOffers, StandsWithin}
use Rattle.pfc_kept_meetings.specs.selects.Groups.{TakesEntry}
use Rattle.pfc_kept_meetings.specs.entries.Selects.{StandWithin}

-- Of processes that wait to accept or to be accepted it is told what they show.
abbrev pub AskedOfCall : Facts → Config → Call → Type 0
AskedOfCall facts c (to_entry v entry k) = KeepsAccepts facts c × KeepsOffers facts c
AskedOfCall facts c call = Unit {0}

-- Of an accept it is told that it is one of its block, behind all that is in view there.
abbrev pub AskedOfMeeting : Facts → Config → ℕ → Context → Offer → Type 0
AskedOfMeeting facts c p x (to_accept a) = KeepsAccepts facts c × StandsWithin facts c p x a
AskedOfMeeting facts c p x offer = Unit {0}

-- Of an alternative that accepts the same is told as of a plain accept.
abbrev pub IsAsked : Facts → Config → ℕ → ℕ → LivingLevel → Action → Type 0
IsAsked facts c p choice level (calls x call given) = AskedOfCall facts c call
IsAsked facts c p choice level (finishes line) =
    (t : ProgramTree) → level.setting.program ≡ program_of t → IsProgram t → (image_of t).monitors < 2 ^ 32
IsAsked facts c p choice level (meets x o k) = AskedOfMeeting facts c p x o.offer
IsAsked facts c p choice level (decides x sel k) =
    TakesEntry (program_in facts) c p sel choice → KeepsAccepts facts c × StandWithin facts c p x sel.offered
IsAsked facts c p choice level n = Unit {0}
