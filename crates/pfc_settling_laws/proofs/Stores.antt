-- The activities and the store of a configuration in which the children that serve have finished.
use Rattle.std.proofs.Common.{◌≡◌, ◌≢◌, ℕ, zero, suc, ◌<◌, ℤ, Bool, true, false, if◌then◌else◌, List, [], ◌∷◌, length, get_or, Some, refl, sym, ap, ◌∙◌}
use Rattle.std.proofs.Common.{subst, arith, inl, inr}
use Rattle.pfc_state.specs.Stands.{Stand, may_end}
use Rattle.pfc_world.specs.Tables.{Table, at}
use Rattle.pfc_semantics.specs.Configurations.{Activation, Activity, nobody}
use Rattle.pfc_semantics.specs.Processes.{ended_activity, without_all}
use Rattle.pfc_semantics.specs.Programs.{Program}
use Rattle.pfc_semantics.specs.Store.{Store, values_in, without}
use Rattle.pfc_semantics.specs.Time.{ended_children, rooms_left}
use Rattle.pfc_semantics.specs.Values.{Value}
use Rattle.pfc_cells.specs.Homes.{Home, Homes, layout_at}
use Rattle.pfc_cells.specs.Memory.{Entry, Entries, AreCells, CellsAre, ProcessIs, IsAmong}
use Rattle.pfc_cells.proofs.Activations.{room_left}
use Rattle.pfc_machines.specs.Communications.{Communicating}
use Rattle.pfc_representation.specs.Levels.{Facts, LivingLevel}
use Rattle.pfc_representation.specs.Callers.{StandsFor, Linkage, AreCallers}

-- ## Activities

either_activity : (b : Bool) (d : Activity) → ended_activity d ≡ d → d ≡ (if b then ended_activity d else d)
either_activity true d none = sym none
either_activity false d none = refl

-- those that serve have no activation any more
pub activity_ended : (d : Activity) → ended_activity d ≡ d → (rows : List Stand) (activities : List Activity) (p : ℕ)
    → get_or (ended_children rows activities) p d ≡ (if may_end (at rows p) then ended_activity (get_or activities p d) else get_or activities p d)
activity_ended d none [] activities p = refl
activity_ended d none (s ∷ rows) [] p = either_activity (may_end (at (s ∷ rows) p)) d none
activity_ended d none (s ∷ rows) (a ∷ activities) zero = refl
activity_ended d none (s ∷ rows) (a ∷ activities) (suc p) = activity_ended d none rows activities p

pub activities_stay : (rows : List Stand) (activities : List Activity) → length (ended_children rows activities) ≡ length activities
activities_stay [] activities = refl
activities_stay (s ∷ rows) [] = refl
activities_stay (s ∷ rows) (a ∷ activities) = ap suc (activities_stay rows activities)

line_of_ended : (b : Bool) (a : Activity) → (if b then ended_activity a else a).line ≡ a.line
line_of_ended true a = refl
line_of_ended false a = refl

pub line_stays : (g : Program) (rows : List Stand) (activities : List Activity) (p : ℕ)
    → (get_or (ended_children rows activities) p (nobody g)).line ≡ (get_or activities p (nobody g)).line
line_stays g rows activities p =
    ap (λ (a : Activity). a.line) (activity_ended (nobody g) refl rows activities p) ∙ line_of_ended (may_end (at rows p)) (get_or activities p (nobody g))

-- ## The store

-- the number is that of none of these activations
abbrev pub IsOfNone : ℕ → List Activation → Type 0
IsOfNone b [] = Unit {0}
IsOfNone b (a ∷ rest) = (b ≢ a.number) × IsOfNone b rest

without_all_stays : (store : Store) (activations : List Activation) (b : ℕ) → IsOfNone b activations
    → values_in (without_all store activations) b ≡ values_in store b
without_all_stays store [] b h = refl
without_all_stays store (a ∷ rest) b h = without_all_stays (without store a.number) rest b h.1 ∙ room_left store a.number b h.0

-- the variables of all others are left
pub others_left : (d : Activity) (rows : List Stand) (activities : List Activity) (store : Store) (b : ℕ)
    → ((q : ℕ) → q < length activities → may_end (at rows q) ≡ true → IsOfNone b (get_or activities q d).activations)
    → values_in (rooms_left rows activities store) b ≡ values_in store b
others_left d [] activities store b h = refl
others_left d (s ∷ rows) [] store b h = refl
others_left d (s ∷ rows) (a ∷ activities) store b h =
    others_left d rows activities (if may_end s then without_all store a.activations else store) b (λ q low is. h (suc q) (omega (arith, low)) is)
    ∙ here (may_end s) refl
  where
    here : (e : Bool) → may_end s ≡ e → values_in (if e then without_all store a.activations else store) b ≡ values_in store b
    here true is = without_all_stays store a.activations b (h 0 (omega arith) is)
    here false is = refl

-- ## Whose activations they are

some_same : {A : Type 0} (x y : A) → Some x ≡ Some y → x ≡ y
some_same x y h = cc

module _ (facts : Facts) (homes : Homes) (entries : Entries) (store : Store) (table : Table) (q : ℕ) (b : ℕ) (home : Home) (at_home : homes b ≡ Some home)
    (apart : home.process ≢ q) where
  other_number : (a : Activation) (e : Entry) (w : ℤ) (own : Linkage) (level : LivingLevel) → StandsFor facts homes store q a e w own level → b ≢ a.number
  other_number a e w own level h same =
      let one : home ≡ h.home = some_same home h.home (sym at_home ∙ ap homes same ∙ h.at) in
      apart (ap (λ (x : Home). x.process) one ∙ h.process)

  -- an activation of another process is none of these
  pub of_none : (room : ℕ) (level : LivingLevel) (w : ℤ) (latest : Communicating) (xs : List Activation) (es : List Entry)
      → AreCallers facts homes entries store table q room level w latest xs es → IsOfNone b xs
  of_none room level w latest [] es h = tt
  of_none room level w latest (a ∷ xs) [] h = absurd h
  of_none room level w latest (a ∷ []) (e ∷ []) h = (other_number a e w h.own level h.stands, tt)
  of_none room level w latest (a ∷ []) (e ∷ f ∷ es) h = absurd h
  of_none room level w latest (a ∷ c ∷ xs) (e ∷ []) h = absurd h
  of_none room level w latest (a ∷ c ∷ xs) (e ∷ f ∷ es) (outer, v, earlier, called, within, others) =
      (other_number a e w called.own level called.stands, of_none room outer v earlier (c ∷ xs) (f ∷ es) others)

-- ## The stacks

module _ (g : Program) (homes : Homes) (store : Store) (q : ℕ) where
  among_has_home : (es : List Entry) (cells : List ℤ) → CellsAre g homes store q es cells → (a : ℕ) → IsAmong a es
      → (home : Home) × (homes a ≡ Some home) × (home.process ≡ q)
  among_has_home [] cells h a among = absurd among
  among_has_home (e ∷ below) cells h a (inl is) = (let top = h.2 in (top.home, ap homes (sym is) ∙ top.at, top.process))
  among_has_home (e ∷ below) cells h a (inr behind) = among_has_home below h.0 h.1 a behind

  -- a living activation has its home on its process's stack
  pub has_home : (es : List Entry) (cells : List ℤ) → ProcessIs g homes store q es cells → (a : ℕ) → IsAmong a es
      → (home : Home) × (homes a ≡ Some home) × (home.process ≡ q)
  has_home [] cells h a among = absurd among
  has_home (e ∷ below) cells h a among = among_has_home (e ∷ below) cells h a among

  module _ (left : Store) where
    cells_left : (es : List Entry) (cells : List ℤ) → CellsAre g homes store q es cells → ((a : ℕ) → IsAmong a es → values_in left a ≡ values_in store a)
        → CellsAre g homes left q es cells
    cells_left [] cells h same = h
    cells_left (e ∷ below) cells h same =
        let top = h.2 in (
          h.0,
          cells_left below h.0 h.1 (λ a among. same a (inr among)),
          record {
            home = top.home;
            at = top.at;
            process = top.process;
            place = top.place;
            size = top.size;
            block = top.block;
            holds = subst (λ (vs : List Value). AreCells g homes (layout_at g top.home) vs top.block) (sym (same e.activation (inl refl))) top.holds;
            is = top.is;
          },
        )

    -- the cells of a process hold its variables still, if these are left
    pub process_left : (es : List Entry) (cells : List ℤ) → ProcessIs g homes store q es cells
        → ((a : ℕ) → IsAmong a es → values_in left a ≡ values_in store a) → ProcessIs g homes left q es cells
    process_left [] cells h same = tt
    process_left (e ∷ below) cells h same = cells_left (e ∷ below) cells h same
