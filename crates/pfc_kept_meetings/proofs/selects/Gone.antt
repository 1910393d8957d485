-- All that the activation at hand has made is gone: its code has room again, and goes on at any address of its block.
use Rattle.std.proofs.Common.{◌≡◌, ℕ, zero, suc, ℤ, List, [], ◌∷◌, ◌++◌, length, refl, sym, ap, ◌∙◌, subst}
use Rattle.pfc_code.specs.declared.images.Block.{Block as CodeBlock}
use Rattle.pfc_world.specs.Tables.{Table}
use Rattle.pfc_semantics.specs.Store.{Store}
use Rattle.pfc_semantics.specs.Configurations.{Activation}
use Rattle.pfc_translation.specs.Images.{image_of}
use Rattle.pfc_cells.specs.Homes.{Homes}
use Rattle.pfc_cells.specs.Memory.{Entry, Entries}
use Rattle.pfc_machines.specs.declared.alternatives.Alternative.{Alternative}
use Rattle.pfc_machines.specs.declared.rooms.Room.{Room}
use Rattle.pfc_machines.specs.Communications.{Communicating}
use Rattle.pfc_machines.specs.Offers.{without, without_last}
use Rattle.pfc_representation.specs.Levels.{Facts, program_in, LivingLevel, block_of, IsBlockAt}
use Rattle.pfc_representation.specs.Rooms.{room_in, HasRoom, HasRoomFor, IsInBlock, LeadWithin}
use Rattle.pfc_representation.specs.Callers.{IsMadeOver, is_unmade, IsWithin, AreCallers}
use Rattle.pfc_representation.specs.Alternatives.{AreMade, none_made}
use Rattle.pfc_kept_own_actions.proofs.Within.{room_anywhere}
use Rattle.pfc_kept_messages.proofs.Made.{gone}
use Rattle.pfc_kept_messages.proofs.Rearmed.{AreInstead}

last_keeps : (e : Communicating) (made : List Alternative) → ((without_last e made).room ≡ e.room) × ((without_last e made).callers ≡ e.callers)
last_keeps e [] = (refl, refl)
last_keeps e (a ∷ made) = (refl, refl)

pub without_keeps : (n : ℕ) (e : Communicating) → ((without n e).room ≡ e.room) × ((without n e).callers ≡ e.callers)
without_keeps zero e = (refl, refl)
without_keeps (suc n) e =
    let rest = without_keeps n (without_last e e.alternatives) in
    let last = last_keeps e e.alternatives in
    (rest.0 ∙ last.0, rest.1 ∙ last.1)

module _ (facts : Facts) (homes : Homes) (entries : Entries) (store : Store) (table : Table) (p : ℕ) (level : LivingLevel) where
  -- nothing in the place of it
  pub unmade : (count n : ℕ) (latest : Communicating) → n ≡ length level.arms
      → AreInstead facts homes entries store table p level [] count latest (without n latest)
  unmade count n latest all =
      record {
        room = (without_keeps n latest).0;
        callers = (without_keeps n latest).1;
        made = λ earlier is. made_before earlier is.0 is.1 is.2;
        leads = λ k b block old. tt;
        accepts = λ old. tt;
      }
    where
      made_before : (earlier : Communicating) → earlier.room ≡ latest.room → latest.callers ≡ level.setting.meetings ++ earlier.callers
          → AreMade count earlier.alternatives earlier.words level.arms latest.alternatives latest.words
          → IsMadeOver count (record level { arms = [] }) earlier (without n latest)
      made_before earlier room callers are =
          let rest : without n latest ≡ record
          { alternatives = earlier.alternatives; words = earlier.words; callers = latest.callers; room = latest.room } =
          ap (λ j. without j latest) all
          ∙ gone count earlier.alternatives earlier.words level.arms latest.alternatives latest.words latest.callers latest.room are in (
            room ∙ sym (without_keeps n latest).0,
            (without_keeps n latest).1 ∙ callers,
            subst (λ (e : Communicating). AreMade count earlier.alternatives earlier.words [] e.alternatives e.words) (sym rest) none_made,
          )

  -- the block, to which the branches lead, and the room for all that its code makes
  pub record HasBranches (latest : Communicating) : Type 0 where
    pub number : ℕ
    pub code : CodeBlock
    pub is : IsBlockAt (program_in facts) (image_of facts.tree).blocks number (block_of level) code
    pub branches : LeadWithin facts number level.arms
    pub room : HasRoomFor latest (room_in facts number)

  over_earlier : (count n room k : ℕ) (code : CodeBlock) (earlier latest : Communicating) → n ≡ length level.arms
      → IsBlockAt (program_in facts) (image_of facts.tree).blocks k (block_of level) code → HasRoom facts room level k earlier
      → IsMadeOver count level earlier latest
      → HasBranches (without n latest)
  over_earlier count n room k code earlier latest all block fits is =
      let rest : without n latest ≡ record { alternatives = earlier.alternatives; words = earlier.words; callers = latest.callers; room = latest.room } =
      ap (λ j. without j latest) all
      ∙ gone count earlier.alternatives earlier.words level.arms latest.alternatives latest.words latest.callers latest.room is.2 in
      record {
        number = k;
        code = code;
        is = block;
        branches = fits.branches;
        room =
            subst (λ (e : Communicating). HasRoomFor e (room_in facts k)) (sym rest)
            (subst (λ (r : Room). HasRoomFor (record { alternatives = earlier.alternatives; words = earlier.words; callers = latest.callers; room = r })
            (room_in facts k)) is.0
            (fits.made.0, fits.made.1, fits.made.2));
      }

  pub branches_of : (room : ℕ) (w : ℤ) (n : ℕ) (latest : Communicating) (xs : List Activation) (es : List Entry) → n ≡ length level.arms
      → AreCallers facts homes entries store table p room level w latest xs es → HasBranches (without n latest)
  branches_of room w n latest [] es all is = absurd is
  branches_of room w n latest (a ∷ xs) [] all is = absurd is
  branches_of room w n latest (a ∷ []) (e ∷ []) all is =
      over_earlier 1 n room is.own.block is.stands.code (is_unmade latest) latest all is.stands.is is.fits is.made
  branches_of room w n latest (a ∷ []) (e ∷ f ∷ es) all is = absurd is
  branches_of room w n latest (a ∷ b ∷ xs) (e ∷ []) all is = absurd is
  branches_of room w n latest (a ∷ b ∷ xs) (e ∷ f ∷ es) all (outer, v, earlier, called, within, others) =
      over_earlier (length (a ∷ b ∷ xs)) n room called.own.block called.stands.code earlier latest all called.stands.is called.fits called.made

  -- so it goes on anywhere in its block
  pub within_anywhere : (latest : Communicating) (has : HasBranches latest) (to : ℕ) → IsInBlock facts has.number to
      → IsWithin facts (record level { arms = [] }) to latest
  within_anywhere latest has to leads =
      let inside = leads has.code has.is.0 in (
        has.number,
        has.code,
        has.is,
        record { entry = inside.0; before = inside.1; rest = room_anywhere facts has.number has.code to latest has.is.0 inside.0 has.room },
      )
