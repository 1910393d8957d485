-- The levels of a process: its living activations, as code.
use Rattle.std.specs.Prelude.{ℕ, ◌==◌, ◌≡◌, ◌≤◌, ◌<◌, ◌^◌, ◌⊎◌, ℤ, Bool, true, List, [], ◌∷◌, ◌++◌, length, position, unwrap_or, Option, Some}
use Rattle.std.specs.List.{slice_get}
use Rattle.pfc_tree.specs.trees.Parts.{ProgramTree}
use Rattle.pfc_tree.specs.forget.Parts.{forget_program}
use Rattle.pfc_tree.specs.lawful.Parts.{IsLawful}
use Rattle.pfc_types.specs.rules.Whole.{broken}
use Rattle.pfc_code.specs.declared.images.Block.{Block as CodeBlock}
use Rattle.pfc_state.specs.Stands.{Stand, Waits}
use Rattle.pfc_state.specs.declared.waits.Why.TheVariants.{Meeting}
use Rattle.pfc_world.specs.Tables.{Table, at}
use Rattle.pfc_semantics.specs.Displays.{Display}
use Rattle.pfc_semantics.specs.Objects.{Objects}
use Rattle.pfc_semantics.specs.Programs.{Block, Program, program_of}
use Rattle.pfc_semantics.specs.Rewriting.{Doing, next}
use Rattle.pfc_semantics.specs.Store.{Store}
use Rattle.pfc_translation.specs.Images.{image_of}
use Rattle.pfc_cells.specs.Homes.{Homes}
use Rattle.pfc_cells.specs.Memory.{Entry, Entries, IsAmong}
use Rattle.pfc_standing_code.specs.Settings.{View, Trial, Setting, IsBeside}
use Rattle.pfc_standing_code.specs.Effects.{Arm}
use Rattle.pfc_standing_code.specs.Performs.{own_view, own_accepts, own_block, own_room}
use Rattle.pfc_standing_code.specs.Following.{Arrived, DoesIn}
use Rattle.pfc_standing_images.specs.Images.{IsOfImage}
use Rattle.pfc_stack_laws.specs.Standing.{AreTypes}
use Rattle.pfc_views.specs.Views.{Sees}
use Rattle.pfc_call_laws.specs.Around.{ShowsAround}

-- ## The program

-- What is told once of a program that runs: its tree, and the number of the object at each address.
pub record Facts : Type 0 where
  pub tree : ProgramTree
  pub number : ℤ → Option ℤ

abbrev pub program_in : Facts → Program
program_in facts = program_of facts.tree

-- the numbers of objects have 32 bits
pub record AreNumbered (o : Objects) : Type 0 where
  pub semaphores : o.semaphores < 2 ^ 32
  pub channels : o.channels < 2 ^ 32
  pub conditions : length o.conditions < 2 ^ 32

-- It is lawful and breaks no rule, its types are those of such a program, and addresses of its code and numbers of its objects have 32 bits.
pub record IsProgram (t : ProgramTree) : Type 0 where
  pub lawful : IsLawful (forget_program t)
  pub unbroken : broken t ≡ []
  pub types : AreTypes (program_of t).state.forms
  pub short : length (image_of t).code < 4294967296
  pub numbered : AreNumbered (program_of t).objects

-- by which the image knows a block: its place in the order of `begin`, main's behind all others
abbrev pub number_in : Program → Block → ℕ
number_in g b = unwrap_or (position (λ (c : Block). c.scope == b.scope) g.blocks) (length g.blocks)

-- number k of the image is this block; main's is the last
abbrev pub IsBlockAt : Program → List CodeBlock → ℕ → Block → CodeBlock → Type 0
IsBlockAt p blocks k b c =
    (slice_get blocks k ≡ Some c) × (k ≡ number_in p b) × ((slice_get p.blocks k ≡ Some b) ⊎ ((k ≡ length p.blocks) × (b ≡ p.main)))

-- ## Levels

-- What is told of one living activation: its setting, and the alternatives of a select that it has made and not yet decided among. The block of the
-- setting is that of the activation, main's own for all bodies of main; in a trial it is that of the guard, and the own one is told with the trial.
pub record LivingLevel : Type 0 where
  pub setting : Setting
  pub arms : List Arm

-- the own block, also while the guard of another is tried
abbrev pub block_of : LivingLevel → Block
block_of level = own_block level.setting.trial level.setting.block

-- and how many operands may be held without that guard
abbrev pub room_of : LivingLevel → ℕ
room_of level = own_room level.setting.trial level.setting.room

-- the same level in another trial
abbrev pub in_turn : LivingLevel → Trial → LivingLevel
in_turn level trial = record level { setting = record level.setting { trial = trial } }

-- the setting is one of the program's image, with as much room for alternatives as any select needs
pub record HasSetting (facts : Facts) (level : LivingLevel) : Type 0 where
  pub image : IsOfImage facts.tree level.setting
  pub arms : level.setting.arms ≡ (image_of facts.tree).arms
  pub number : level.setting.number ≡ facts.number

-- A process at a level is at an address with these operands where this is still to do, in the block of the setting or in one beside it.
abbrev pub StandsOn : LivingLevel → ℕ → List ℤ → Doing → Type 0
StandsOn level at ops doing = (b : Block) × IsBeside level.setting level.setting.block b × DoesIn level.setting b at ops level.arms doing

-- It is at the action that comes next already, and has not done it, as where memory was refused for it.
abbrev pub IsBeforeAction : LivingLevel → ℕ → List ℤ → Doing → Type 0
IsBeforeAction level at ops doing = Arrived level.setting at ops level.arms (next doing)

-- It does this, with operands and alternatives that fit.
abbrev pub DoesOn : LivingLevel → ℕ → List ℤ → Doing → Type 0
DoesOn level at ops doing =
    (length ops ≤ level.setting.room) × (length level.arms ≤ level.setting.arms) × (StandsOn level at ops doing ⊎ IsBeforeAction level at ops doing)

-- ## What an activation keeps

-- the process waits in a rendezvous with process p
abbrev pub is_met_by : Stand → ℕ → Type 0
is_met_by (Waits (Meeting owner) ticket arms) p = owner ≡ p
is_met_by stand p = ⊥

-- An activation keeps itself, those below it on its stack, and main's first one: these do not end before it. In meetings with some callers it keeps what
-- these keep, who lend it what they pass by reference.
pub data MayKeep (table : Table) (entries : Entries) : ℕ → List ℕ → List Entry → ℕ → Type 0 where
  of_main : (p : ℕ) (lenders : List ℕ) (mine : List Entry) → MayKeep table entries p lenders mine 0
  of_own : (p : ℕ) (lenders : List ℕ) (mine : List Entry) (a : ℕ) → IsAmong a mine → MayKeep table entries p lenders mine a
  lent : (p : ℕ) (lenders : List ℕ) (mine : List Entry) (a k q : ℕ) (others : List ℕ) → slice_get lenders k ≡ Some q → is_met_by (at table.rows q) p
      → MayKeep table entries q others (entries q) a → MayKeep table entries p lenders mine a

-- What is seen in the code of a block or of one beside it, with these accepts open, by the activation whose first own cell has the word w: these stand on its
-- stack, itself and those below, and these callers lend to it.
pub record SeesWith (facts : Facts) (homes : Homes) (entries : Entries) (store : Store) (table : Table) (p : ℕ) (lenders : List ℕ) (mine : List Entry) (w : ℤ)
    (display : Display) (g : Setting) (b : Block) (accepts : List ℕ) (view : View) : Type 0 where
  pub keeps : ℕ → Bool
  pub chain : List ℕ
  pub sees : (c : Block) → IsBeside g b c → Sees (program_in facts) homes entries store keeps display c accepts w chain view
  pub keeps_these : (a : ℕ) → keeps a ≡ true → MayKeep table entries p lenders mine a

-- So with all accepts that are open, each with its caller, the last begun first; and without the last, and so on: at the end of an accept its caller lends no
-- more. Other callers lend as well.
abbrev pub SeesThrough : Facts → Homes → Entries → Store → Table → ℕ → List Entry → ℤ → Display → Setting → Block → View → List ℕ → List ℕ → List ℕ → Type 0
SeesThrough facts homes entries store table p mine w display g b view others [] [] =
    SeesWith facts homes entries store table p others mine w display g b [] view
SeesThrough facts homes entries store table p mine w display g b view others (i ∷ accepts) (q ∷ meetings) =
    SeesWith facts homes entries store table p (q ∷ meetings ++ others) mine w display g b (i ∷ accepts) view
    × SeesThrough facts homes entries store table p mine w display g b view others accepts meetings
SeesThrough facts homes entries store table p mine w display g b view others [] (q ∷ meetings) = ⊥
SeesThrough facts homes entries store table p mine w display g b view others (i ∷ accepts) [] = ⊥

-- What the activation at a level sees, of a process with these callers in its meetings.
pub record IsSeenBy (facts : Facts) (homes : Homes) (entries : Entries) (store : Store) (table : Table) (p : ℕ) (callers : List ℕ) (mine : List Entry) (w : ℤ)
    (display : Display) (level : LivingLevel) : Type 0 where
  pub others : List ℕ
  pub met : callers ≡ level.setting.meetings ++ others
  pub sees :
      SeesThrough facts homes entries store table p mine w display level.setting (block_of level)
      (own_view level.setting.trial level.setting.view) others (own_accepts level.setting.trial level.setting.accepts) level.setting.meetings
  pub around : (c : Block) → IsBeside level.setting (block_of level) c → ShowsAround (program_in facts) c display
