-- The callers of a process: what waits for the ends of its activations.
use Rattle.std.specs.Prelude.{ℕ, zero, suc, ◌+◌, ◌==◌, ◌≡◌, ◌≢◌, ℤ, pos, true, List, [], ◌∷◌, ◌++◌, length, get_or, Some}
use Rattle.std.specs.List.{slice_get, list_any}
use Rattle.pfc_code.specs.declared.images.Block.{Block as CodeBlock}
use Rattle.pfc_code.specs.declared.instructions.Instr.{Instr}
use Rattle.pfc_code.specs.declared.instructions.Instr.TheVariants.{RET, RETF, END}
use Rattle.pfc_types.specs.declared.types.TypeId.{TypeId}
use Rattle.pfc_types.specs.declared.scope.Meaning.TheVariants.{Variable}
use Rattle.pfc_world.specs.Tables.{Table}
use Rattle.pfc_semantics.specs.Values.{Location, ordinal, points}
use Rattle.pfc_semantics.specs.Store.{Store, values_in}
use Rattle.pfc_semantics.specs.Programs.{Block, Program, Guard}
use Rattle.pfc_semantics.specs.Processes.{process_block}
use Rattle.pfc_semantics.specs.Remainders.{leave, in_names, scan_on}
use Rattle.pfc_semantics.specs.Rewriting.{going, holding}
use Rattle.pfc_semantics.specs.Configurations.{Mark, plain, of_monitor, of_resource, Caller, of_nobody, of_remainder, of_value, Activation}
use Rattle.pfc_semantics.specs.Resources.{scan_of}
use Rattle.pfc_translation.specs.Calls.{resource_of}
use Rattle.pfc_translation.specs.Sites.{is_accept}
use Rattle.pfc_translation.specs.Images.{image_of, site_in}
use Rattle.pfc_stacks.specs.declared.marks.Mark.{Mark as StackMark}
use Rattle.pfc_stacks.specs.declared.marks.Mark.TheVariants as marked
use Rattle.pfc_stacks.specs.Activations.{own_words, main_link}
use Rattle.pfc_stacks.specs.Refs.{word_of}
use Rattle.pfc_cells.specs.Homes.{Home, Homes, layout_at}
use Rattle.pfc_cells.specs.Memory.{Entry, Entries}
use Rattle.pfc_machines.specs.Communications.{Communicating}
use Rattle.pfc_standing_code.specs.Settings.{of_own, of_turn}
use Rattle.pfc_standing_code.specs.Performs.{own_accepts, own_again}
use Rattle.pfc_standing_images.specs.Images.{IsOfBlock}
use Rattle.pfc_views.specs.Views.{own_place}
use Rattle.pfc_representation.specs.Levels.{Facts, program_in, LivingLevel, block_of, in_turn, IsBlockAt, HasSetting, DoesOn, IsSeenBy}
use Rattle.pfc_representation.specs.Rooms.{process_count, HasRoom, GoesOnWithin, MayMeet}
use Rattle.pfc_representation.specs.Alternatives.{AreMade}

-- ## Where an end goes back to

-- the instruction that ends the body, by what waits for its end
abbrev pub ending_of : Caller → Instr
ending_of of_nobody = END
ending_of (of_remainder env k) = RET
ending_of (of_value x u) = RETF

-- To a statement, at the address behind the call; from a resource to the scan of it first, which stands at its own address.
abbrev pub GoesBack : Facts → LivingLevel → ℕ → List ℤ → Mark → Caller → Type 0
GoesBack facts outer back under mark of_nobody = ⊥
GoesBack facts outer back under plain (of_remainder env k) = DoesOn outer back under (going env k)
GoesBack facts outer back under (of_monitor m) (of_remainder env k) = DoesOn outer back under (going env k)
GoesBack facts outer back under (of_resource r) (of_remainder env k) =
    (scan : ℕ) × (slice_get (image_of facts.tree).scans r ≡ Some scan)
    × (let turn = scan_of (program_in facts) r leave in
    DoesOn (in_turn outer (of_turn turn back)) scan under (going env (scan_on turn (in_names env k))))
-- to an expression, with the result, whichever it is
GoesBack facts outer back under mark (of_value x u) = (n : ℤ) → DoesOn outer back (n ∷ under) (holding x (ordinal n) u)

-- ## One activation

-- the mark as the stacks keep it
abbrev pub stack_mark : Mark → StackMark
stack_mark plain = marked.Plain
stack_mark (of_monitor m) = marked.Monitor m
stack_mark (of_resource r) = marked.Resource r

-- what the own cells of an activation hold
pub record Linkage : Type 0 where
  pub address : ℕ
  pub block : ℕ
  pub mark : StackMark
  pub link : ℤ
  pub caller : ℕ
  pub under : ℕ

abbrev pub linkage_words : Linkage → List ℤ
linkage_words l = own_words (record { address = l.address; block = l.block; mark = l.mark; link = l.link; caller = l.caller; under = l.under })

-- what was called from outside its module is linked to main's first activation
abbrev pub IsLinkedBy : Mark → ℤ → Type 0
IsLinkedBy plain link = Unit {0}
IsLinkedBy mark link = link ≡ main_link

-- What is kept of an activation, on the machine in its own cells, whose first has the word w, and on the source's side as this. What it takes by
-- reference lies in others. A guarded procedure was called from outside its resource. The accepts that are open there are its block's.
pub record StandsFor (facts : Facts) (homes : Homes) (store : Store) (p : ℕ) (a : Activation) (e : Entry) (w : ℤ) (own : Linkage)
    (level : LivingLevel) : Type 0 where
  pub number : e.activation ≡ a.number
  pub home : Home
  pub at : homes a.number ≡ Some home
  pub process : home.process ≡ p
  pub scope : home.scope ≡ a.scope
  pub block : (block_of level).scope ≡ a.scope
  pub word : w ≡ word_of (own_place home)
  pub cells : a.cells ≡ home.cell + ((block_of level).cells + 8)
  pub words : e.own ≡ linkage_words own
  pub mark : own.mark ≡ stack_mark a.mark
  pub link : IsLinkedBy a.mark own.link
  pub under : own.under ≡ length level.setting.under
  pub code : CodeBlock
  pub is : IsBlockAt (program_in facts) (image_of facts.tree).blocks own.block (block_of level) code
  pub of_block : IsOfBlock (own_again level.setting) (block_of level) code
  pub last : level.setting.last ≡ ending_of a.caller
  pub setting : HasSetting facts level
  pub laid : layout_at (program_in facts) home ≡ (block_of level).layout
  pub apart : (k : ℕ) (t : TypeId) (l : Location) → slice_get (block_of level).layout k ≡ Some (Variable t true)
      → get_or (values_in store a.number) k (ordinal (pos 0)) ≡ points l → l.activation ≢ a.number
  pub guarded : (guard : Guard) → (block_of level).guard ≡ Some guard
      → a.mark ≡ of_resource (resource_of (site_in (program_in facts) (block_of level)))
  pub accepts : (i : ℕ) → list_any (λ j. j == i) (own_accepts level.setting.trial level.setting.accepts) ≡ true → is_accept (block_of level) i ≡ true

-- ## All of them, the innermost first

-- what a process has of alternatives and meetings behind some that its callers have
abbrev pub IsMadeOver : ℕ → LivingLevel → Communicating → Communicating → Type 0
IsMadeOver depth level earlier latest =
    (earlier.room ≡ latest.room) × (latest.callers ≡ level.setting.meetings ++ earlier.callers)
    × AreMade depth earlier.alternatives earlier.words level.arms latest.alternatives latest.words

-- nothing
abbrev pub is_unmade : Communicating → Communicating
is_unmade latest = record latest { alternatives = []; words = []; callers = [] }

-- the block of the first activation of each process
abbrev pub first_block : Program → ℕ → Block
first_block g zero = g.main
first_block g (suc n) = process_block g (suc n)

-- The first: nobody waits for its end. That of main has the number 0.
pub record IsFirst (facts : Facts) (homes : Homes) (store : Store) (p room : ℕ) (level : LivingLevel) (w : ℤ) (latest : Communicating) (a : Activation)
    (e : Entry) : Type 0 where
  pub own : Linkage
  pub stands : StandsFor facts homes store p a e w own level
  pub fits : HasRoom facts room level own.block (is_unmade latest)
  pub made : IsMadeOver 1 level (is_unmade latest) latest
  pub block : block_of level ≡ first_block (program_in facts) p
  pub number : p ≡ 0 → a.number ≡ 0
  pub waits : a.caller ≡ of_nobody
  pub mark : a.mark ≡ plain
  pub under : level.setting.under ≡ []
  pub caller : own.caller ≡ 0
  pub link : own.link ≡ main_link

-- One that has a caller b, which is at an outer level: below both are so many activations, of which each has made alternatives for itself.
pub record IsCalled (facts : Facts) (homes : Homes) (entries : Entries) (store : Store) (table : Table) (p room depth : ℕ) (level : LivingLevel) (w : ℤ)
    (latest : Communicating) (a b : Activation) (e : Entry) (below : List Entry) (outer : LivingLevel) (v : ℤ) (earlier : Communicating) : Type 0 where
  pub own : Linkage
  pub stands : StandsFor facts homes store p a e w own level
  pub fits : HasRoom facts room level own.block earlier
  pub made : IsMadeOver depth level earlier latest
  pub home : Home
  pub at : homes b.number ≡ Some home
  pub word : v ≡ word_of (own_place home)
  pub caller : own.caller ≡ home.cell
  pub trial : outer.setting.trial ≡ of_own
  pub seen : IsSeenBy facts homes entries store table p earlier.callers below v a.display outer
  pub back : GoesBack facts outer own.address level.setting.under a.mark a.caller
  pub accepts : MayMeet (process_count facts) earlier.room.meetings outer.arms

-- where the code of a level goes on
abbrev pub IsWithin : Facts → LivingLevel → ℕ → Communicating → Type 0
IsWithin facts level at latest =
    (k : ℕ) × (c : CodeBlock) × IsBlockAt (program_in facts) (image_of facts.tree).blocks k (block_of level) c × GoesOnWithin facts k c at latest

-- The activations and the entries of a process, from a level on, whose first own cell has the word w: with what the machine has of the alternatives that they
-- made and of their meetings.
abbrev pub AreCallers : Facts → Homes → Entries → Store → Table → ℕ → ℕ → LivingLevel → ℤ → Communicating → List Activation → List Entry → Type 0
AreCallers facts homes entries store table p room level w latest [] es = ⊥
AreCallers facts homes entries store table p room level w latest (a ∷ xs) [] = ⊥
AreCallers facts homes entries store table p room level w latest (a ∷ []) (e ∷ []) = IsFirst facts homes store p room level w latest a e
AreCallers facts homes entries store table p room level w latest (a ∷ []) (e ∷ f ∷ es) = ⊥
AreCallers facts homes entries store table p room level w latest (a ∷ b ∷ xs) (e ∷ []) = ⊥
AreCallers facts homes entries store table p room level w latest (a ∷ b ∷ xs) (e ∷ f ∷ es) =
    (outer : LivingLevel) × (v : ℤ) × (earlier : Communicating)
    × (called : IsCalled facts homes entries store table p room (length (a ∷ b ∷ xs)) level w latest a b e (f ∷ es) outer v earlier)
    × IsWithin facts outer called.own.address earlier
    × AreCallers facts homes entries store table p room outer v earlier (b ∷ xs) (f ∷ es)
