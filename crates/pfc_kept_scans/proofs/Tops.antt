-- What is told of the last activation of a process at a level.
use Rattle.std.proofs.Common.{◌≡◌, ℕ, ◌+◌, ◌≤◌, ℤ, List, [], ◌∷◌, refl}
use Rattle.pfc_world.specs.Tables.{Table}
use Rattle.pfc_semantics.specs.Store.{Store}
use Rattle.pfc_semantics.specs.Configurations.{Activation}
use Rattle.pfc_cells.specs.Homes.{Homes}
use Rattle.pfc_cells.specs.Memory.{Entry, Entries}
use Rattle.pfc_machines.specs.Communications.{Communicating}
use Rattle.pfc_representation.specs.Levels.{Facts, LivingLevel, room_of}
use Rattle.pfc_representation.specs.Rooms.{guards_room}
use Rattle.pfc_representation.specs.Callers.{Linkage, StandsFor, AreCallers}
use Rattle.pfc_representation.specs.Trials.{mark_of}

-- the last activation, with its own words, and the room for the guards of others
pub record HasTop (facts : Facts) (homes : Homes) (store : Store) (p room : ℕ) (level : LivingLevel) (w : ℤ) (xs : List Activation)
    (es : List Entry) : Type 0 where
  pub top : Activation
  pub rest : List Activation
  pub activations_are : xs ≡ top ∷ rest
  pub entry : Entry
  pub below : List Entry
  pub entries_are : es ≡ entry ∷ below
  pub own : Linkage
  pub stands : StandsFor facts homes store p top entry w own level
  pub mark : mark_of xs ≡ top.mark
  pub operands : room_of level + guards_room facts ≤ room

module _ (facts : Facts) (homes : Homes) (entries : Entries) (store : Store) (table : Table) (p room : ℕ) (level : LivingLevel) (w : ℤ)
    (latest : Communicating) where
  pub top_of : (xs : List Activation) (es : List Entry) → AreCallers facts homes entries store table p room level w latest xs es
      → HasTop facts homes store p room level w xs es
  top_of [] es is = absurd is
  top_of (a ∷ xs) [] is = absurd is
  top_of (a ∷ []) (e ∷ []) is =
      record {
        top = a;
        rest = [];
        activations_are = refl;
        entry = e;
        below = [];
        entries_are = refl;
        own = is.own;
        stands = is.stands;
        mark = refl;
        operands = is.fits.operands;
      }
  top_of (a ∷ []) (e ∷ f ∷ es) is = absurd is
  top_of (a ∷ b ∷ xs) (e ∷ []) is = absurd is
  top_of (a ∷ b ∷ xs) (e ∷ f ∷ es) (outer, v, earlier, called, within, others) =
      record {
        top = a;
        rest = b ∷ xs;
        activations_are = refl;
        entry = e;
        below = f ∷ es;
        entries_are = refl;
        own = called.own;
        stands = called.stands;
        mark = refl;
        operands = called.fits.operands;
      }
