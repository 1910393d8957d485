-- What a process shows to the others while it waits.
use Rattle.std.specs.Prelude.{ℕ, ◌≡◌, ◌≤◌, ◌⊎◌, ℤ, Bool, true, false, ◌||◌, List, [], ◌∷◌, ◌++◌, map, length, reverse, take, is_some, Option, Some}
use Rattle.pfc_types.specs.Blocks.{entry_at}
use Rattle.pfc_types.specs.declared.heads.Formal.{Formal}
use Rattle.pfc_types.specs.declared.scope.Meaning.{Meaning}
use Rattle.pfc_types.specs.declared.scope.Meaning.TheVariants.{Variable, Faulty}
use Rattle.pfc_types.specs.declared.types.TypeId.{TypeId}
use Rattle.pfc_state.specs.Stands.{Stand, Is_ready, Waits, is_ready, due_of}
use Rattle.pfc_state.specs.declared.waits.Arm.{Arm}
use Rattle.pfc_state.specs.declared.waits.Why.{Why}
use Rattle.pfc_state.specs.declared.waits.Why.TheVariants.{Send, Receive, Accept, Select, Call, Barred}
use Rattle.pfc_world.specs.Partners.{plain_wait}
use Rattle.pfc_world.specs.Tables.{Table}
use Rattle.pfc_semantics.specs.Values.{Value, points}
use Rattle.pfc_semantics.specs.Programs.{Block, Program}
use Rattle.pfc_semantics.specs.Remainders.{Context, Open, Bar, Remainder}
use Rattle.pfc_semantics.specs.Rewriting.{Doing}
use Rattle.pfc_semantics.specs.Configurations.{Hand, empty_hand, offering, asking, barred_at}
use Rattle.pfc_semantics.specs.Processes.{declaration_of}
use Rattle.pfc_semantics.specs.Selects.{may_terminate_at}
use Rattle.pfc_cells.specs.Homes.{Homes}
use Rattle.pfc_cells.specs.Memory.{Entries, AreCells}
use Rattle.pfc_machines.specs.declared.descriptors.Descriptor.{Descriptor}
use Rattle.pfc_machines.specs.Offers.{arms_of}
use Rattle.pfc_standing_code.specs.Settings.{of_own, site_of, IsBeside}
use Rattle.pfc_standing_code.specs.Words.{IsChecked}
use Rattle.pfc_standing_code.specs.Performs.{AreOpen, IsOwnBar, Performs}
use Rattle.pfc_following_source.specs.Behind.{BehindAll}
use Rattle.pfc_representation.specs.Levels.{Facts, program_in, LivingLevel, MayKeep, DoesOn}

-- ## Nothing

-- a wait at which nothing is shown
abbrev pub shows_nothing_at : Why → Bool
shows_nothing_at (Send c) = false
shows_nothing_at (Receive c) = false
shows_nothing_at (Accept e) = false
shows_nothing_at (Select due terminate) = false
shows_nothing_at (Call owner entry) = false
shows_nothing_at (Barred resource procedure) = false
shows_nothing_at why = true

abbrev pub shows_nothing : Stand → Bool
shows_nothing (Waits why ticket arms) = shows_nothing_at why
shows_nothing stand = true

-- ## Alternatives that are offered

-- it goes on by itself: at once, or when its moment comes
abbrev pub goes_by_itself : Stand → Bool
goes_by_itself stand = is_ready stand || is_some (due_of stand)

-- What is offered is what the table has of it: in a plain communication, or in a select; or the moment has come already, and the process is ready.
pub data IsOffered : Stand → List Open → List Arm → Type 0 where
  is_woken : (os : List Open) (arms : List Arm) → IsOffered Is_ready os arms
  waits_plainly : (o : Open) (arm : Arm) (ticket : ℕ) → IsOffered (Waits (plain_wait arm) ticket []) (o ∷ []) (arm ∷ [])
  waits_selecting : (os : List Open) (arms : List Arm) (due : Option ℕ) (ticket : ℕ) → IsOffered (Waits (Select due (may_terminate_at os)) ticket arms) os arms

-- The alternatives that the level has made are those that are offered, and at the branch of each stands what is left behind it. Where it goes on by itself, its
-- code stands for that, without them.
pub record Offers (level : LivingLevel) (at : ℕ) (ops : List ℤ) (d : Descriptor) (stand : Stand) (doing : Doing) (x : Context) (os : List Open)
    (k : Remainder) : Type 0 where
  pub own : level.setting.trial ≡ of_own
  pub block : Block
  pub beside : IsBeside level.setting level.setting.block block
  pub checked : IsChecked level.setting block x.env
  pub open_ones :
      AreOpen level.setting (site_of level.setting block x) (length ops) os level.arms (λ end. Performs level.setting block x.env end ops [] k)
  pub behind : BehindAll level.setting block ops x os level.arms k
  pub count : d.offered ≡ length os
  pub offered : IsOffered stand os (arms_of (take d.offered d.communications.alternatives))
  pub few : length ops ≤ level.setting.room
  pub alone : goes_by_itself stand ≡ true → DoesOn (record level { arms = [] }) at ops doing

-- What a process offered it has taken back, when it went on by itself; and it has not acted since, as where memory was refused for its action.
pub record HasTakenBack (level : LivingLevel) (at : ℕ) (ops : List ℤ) (d : Descriptor) (stand : Stand) (doing : Doing) : Type 0 where
  pub offered : d.offered ≡ 0
  pub ready : stand ≡ Is_ready
  pub does : DoesOn level at ops doing

-- ## The arguments of a call of an entry

-- a parameter as a variable
abbrev pub laid_parameter : Option TypeId → Bool → Meaning
laid_parameter (Some t) reference = Variable t reference
laid_parameter t reference = Faulty

abbrev pub laid_parameters : List Formal → List Meaning
laid_parameters formals = map (λ (f : Formal). laid_parameter f.t f.reference) formals

-- the parameters of an entry of process q
abbrev pub entry_formals : Program → ℕ → ℕ → List Formal
entry_formals g q entry = entry_at g.state.blocks (declaration_of g q) entry

-- what is passed by reference is kept, with these lenders
abbrev pub AreKept : Table → Entries → ℕ → List ℕ → List Value → Type 0
AreKept table entries p lenders [] = Unit {0}
AreKept table entries p lenders (points l ∷ values) = MayKeep table entries p lenders (entries p) l.activation × AreKept table entries p lenders values
AreKept table entries p lenders (v ∷ values) = AreKept table entries p lenders values

-- The caller waits for an entry. Its arguments are its operands still, over the number of the process: word by word what the parameters will hold.
pub record Asks (facts : Facts) (homes : Homes) (table : Table) (entries : Entries) (p : ℕ) (level : LivingLevel) (at : ℕ) (ops : List ℤ) (callers : List ℕ)
    (stand : Stand) (doing : Doing) (values : List Value) : Type 0 where
  pub own : level.setting.trial ≡ of_own
  pub owner : ℕ
  pub entry : ℕ
  pub ticket : ℕ
  pub waits : stand ≡ Waits (Call owner entry) ticket []
  pub words : List ℤ
  pub number : ℤ
  pub below : List ℤ
  pub operands : ops ≡ reverse words ++ number ∷ below
  pub hold : AreCells (program_in facts) homes (laid_parameters (entry_formals (program_in facts) owner entry)) values words
  pub kept : AreKept table entries p callers values
  pub behind : DoesOn level at below doing

-- ## A guard at which a process is barred

-- It waits at its own procedure, before its body, or it was let on and is ready there. The names in its guard are known to whoever tries it.
pub record IsBarred (level : LivingLevel) (at : ℕ) (ops : List ℤ) (stand : Stand) (doing : Doing) (bar : Bar) : Type 0 where
  pub own : level.setting.trial ≡ of_own
  pub guard : IsOwnBar level.setting level.setting.block bar
  pub names : IsChecked level.setting level.setting.block bar.context.env
  pub waits : (stand ≡ Is_ready) ⊎ ((ticket : ℕ) × (stand ≡ Waits (Barred bar.resource bar.procedure) ticket []))
  pub behind : DoesOn level at ops doing

-- ## What is shown

abbrev pub HandIs : Facts → Homes → Table → Entries → ℕ → LivingLevel → ℕ → List ℤ → Descriptor → Stand → Doing → Hand → Type 0
HandIs facts homes table entries p level at ops d stand doing empty_hand = (d.offered ≡ 0) × (shows_nothing stand ≡ true) × DoesOn level at ops doing
HandIs facts homes table entries p level at ops d stand doing (offering x os k) =
    Offers level at ops d stand doing x os k ⊎ HasTakenBack level at ops d stand doing
HandIs facts homes table entries p level at ops d stand doing (asking values) =
    (d.offered ≡ 0) × Asks facts homes table entries p level at ops d.communications.callers stand doing values
HandIs facts homes table entries p level at ops d stand doing (barred_at bar) = (d.offered ≡ 0) × IsBarred level at ops stand doing bar
