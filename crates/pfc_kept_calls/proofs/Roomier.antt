-- The callers of a process stand as they stood where there is more room.
use Rattle.std.proofs.Common.{ℕ, ◌≤◌, ℤ, List, [], ◌∷◌, refl, sym, subst, arith}
use Rattle.pfc_world.specs.Tables.{Table}
use Rattle.pfc_semantics.specs.Store.{Store}
use Rattle.pfc_semantics.specs.Configurations.{Activation}
use Rattle.pfc_cells.specs.Homes.{Homes}
use Rattle.pfc_cells.specs.Memory.{Entry, Entries}
use Rattle.pfc_machines.specs.declared.rooms.Room.{Room}
use Rattle.pfc_machines.specs.Communications.{Communicating, with_room_above}
use Rattle.pfc_representation.specs.Levels.{Facts, LivingLevel}
use Rattle.pfc_code.specs.declared.instructions.Instr.{Instr}
use Rattle.pfc_code.specs.declared.instructions.Instr.TheVariants.{ARMA}
use Rattle.pfc_standing_code.specs.Effects.{Arm}
use Rattle.pfc_representation.specs.Rooms.{process_count, HasRoomFor, HasRoom, MayMeetBy, MayMeet}
use Rattle.pfc_representation.specs.Callers.{IsFirst, IsWithin, AreCallers}

abbrev pub IsLarger : Room → Room → Type 0
IsLarger a b = (a.alternatives ≤ b.alternatives) × (a.words ≤ b.words) × (a.meetings ≤ b.meetings)

-- the same with other room
abbrev pub in_room : Communicating → Room → Communicating
in_room e room = record e { room = room }

larger_for : (e : Communicating) (room bigger : Room) → IsLarger e.room bigger → HasRoomFor e room → HasRoomFor (in_room e bigger) room
larger_for e room bigger larger fits = (most _ _ _ fits.0 larger.0, most _ _ _ fits.1 larger.1, most _ _ _ fits.2 larger.2)
  where
    most : (a b d : ℕ) → a ≤ b → b ≤ d → a ≤ d
    most a b d h k = omega (arith, h, k)

-- room above what there is, is as much as is asked, and no less than there was
pub above_fits : (e : Communicating) (room : Room) → HasRoomFor (with_room_above e room) room
above_fits e room = (omega arith, omega arith, omega arith)

pub above_larger : (e : Communicating) (room : Room) → IsLarger e.room (with_room_above e room).room
above_larger e room = (omega arith, omega arith, omega arith)

pub within_larger : (facts : Facts) (level : LivingLevel) (at : ℕ) (latest : Communicating) (bigger : Room) → IsLarger latest.room bigger
    → IsWithin facts level at latest → IsWithin facts level at (in_room latest bigger)
within_larger facts level at latest bigger larger (k, c, is, goes) =
    (k, c, is, record { entry = goes.entry; before = goes.before; rest = larger_for latest _ bigger larger goes.rest })

may_meet_by : (count most more : ℕ) (i : Instr) → most ≤ more → MayMeetBy count most i → MayMeetBy count more i
may_meet_by count most more (ARMA e d z a) less h = omega (arith, less, h)
may_meet_by count most more i less h = h

pub may_meet_more : (count most more : ℕ) (arms : List Arm) → most ≤ more → MayMeet count most arms → MayMeet count more arms
may_meet_more count most more [] less h = tt
may_meet_more count most more (arm ∷ arms) less h = (may_meet_by count most more arm.by less h.0, may_meet_more count most more arms less h.1)

module _ (facts : Facts) (homes : Homes) (entries : Entries) (store : Store) (table : Table) (p room room' : ℕ) (more : room ≤ room') (bigger : Room) where
  fits_larger : (level : LivingLevel) (k : ℕ) (e : Communicating) → IsLarger e.room bigger → HasRoom facts room level k e → HasRoom facts room' level k
      (in_room e bigger)
  fits_larger level k e larger fits =
      let few = fits.operands in
      record { operands = omega (arith, few, more); made = larger_for e _ bigger larger fits.made; branches = fits.branches }

  first_larger : (level : LivingLevel) (w : ℤ) (latest : Communicating) (a : Activation) (e : Entry) → IsLarger latest.room bigger
      → IsFirst facts homes store p room level w latest a e → IsFirst facts homes store p room' level w (in_room latest bigger) a e
  first_larger level w latest a e larger is = record {
    own = is.own;
    stands = is.stands;
    fits = fits_larger level is.own.block (record latest { alternatives = []; words = []; callers = [] }) larger is.fits;
    made = (refl, is.made.1, is.made.2);
    block = is.block;
    number = is.number;
    waits = is.waits;
    mark = is.mark;
    under = is.under;
    caller = is.caller;
    link = is.link;
  }

  pub callers_larger : (level : LivingLevel) (w : ℤ) (latest : Communicating) (xs : List Activation) (es : List Entry) → IsLarger latest.room bigger
      → AreCallers facts homes entries store table p room level w latest xs es
      → AreCallers facts homes entries store table p room' level w (in_room latest bigger) xs es
  callers_larger level w latest [] es larger is = absurd is
  callers_larger level w latest (a ∷ xs) [] larger is = absurd is
  callers_larger level w latest (a ∷ []) (e ∷ []) larger is = first_larger level w latest a e larger is
  callers_larger level w latest (a ∷ []) (e ∷ f ∷ es) larger is = absurd is
  callers_larger level w latest (a ∷ b ∷ xs) (e ∷ []) larger is = absurd is
  callers_larger level w latest (a ∷ b ∷ xs) (e ∷ f ∷ es) larger (outer, v, earlier, called, at, others) =
      let so : IsLarger earlier.room bigger = subst (λ (r : Room). IsLarger r bigger) (sym called.made.0) larger in (
        outer,
        v,
        in_room earlier bigger,
        record {
          own = called.own;
          stands = called.stands;
          fits = fits_larger level called.own.block earlier so called.fits;
          made = (refl, called.made.1, called.made.2);
          home = called.home;
          at = called.at;
          word = called.word;
          caller = called.caller;
          trial = called.trial;
          seen = called.seen;
          back = called.back;
          accepts = may_meet_more (process_count facts) earlier.room.meetings bigger.meetings outer.arms so.2 called.accepts;
        },
        within_larger facts outer called.own.address earlier bigger so at,
        callers_larger outer v earlier (b ∷ xs) (f ∷ es) so others,
      )
