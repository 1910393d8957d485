-- The body of a process ends: its first activation is the only one, and no other process keeps that.
use Rattle.std.proofs.Common.{◌≡◌, ◌≢◌, ℕ, ℤ, Bool, true, false, if◌then◌else◌, List, [], ◌∷◌, get_or, Some, refl, sym, ap, ◌∙◌, subst, arith}
use Rattle.std.proofs.Common.{pos, ◌==◌, Option}
use Rattle.pfc_code.specs.declared.instructions.Instr.TheVariants.{END, RET, RETF}
use Rattle.pfc_world.specs.Tables.{Table}
use Rattle.pfc_types.specs.declared.types.TypeId.{TypeId}
use Rattle.pfc_semantics.specs.Values.{Value, Location, ordinal, part, path_of}
use Rattle.pfc_semantics.specs.Programs.{Program}
use Rattle.pfc_semantics.specs.Store.{Store, value_at, without}
use Rattle.pfc_semantics.specs.Configurations.{Mark, plain, of_monitor, of_resource, Caller, of_nobody, of_remainder, of_value, Activation, Activity, Config}
use Rattle.pfc_semantics.specs.Configurations.{activity_of}
use Rattle.pfc_stacks.specs.declared.refs.Ref.{Ref}
use Rattle.pfc_stacks.specs.Refs.{word_of}
use Rattle.pfc_stacks.specs.Stacks.{stack_of, last_activation}
use Rattle.pfc_cells.specs.Homes.{Home, Homes, Lies}
use Rattle.pfc_cells.specs.Memory.{Entry, Entries, IsAmong, Lives, MemoryIs}
use Rattle.pfc_cells.specs.Activations.{with_entries}
use Rattle.pfc_cells.proofs.Activations.{room_left}
use Rattle.pfc_cells.proofs.Kept.{has_home}
use Rattle.pfc_cells.proofs.Machine.{end_taken}
use Rattle.pfc_machines.specs.declared.machine.Machine.{Machine}
use Rattle.pfc_machines.specs.declared.descriptors.Descriptor.{Descriptor}
use Rattle.pfc_machines.specs.Communications.{Communicating}
use Rattle.pfc_machines.specs.Descriptors.{descriptor_of}
use Rattle.pfc_standing_code.specs.Shapes.{is_object_type}
use Rattle.pfc_views.specs.Views.{AreObjects, IsObjectAt}
use Rattle.pfc_views.specs.Keeping.{IsLike}
use Rattle.pfc_views.proofs.Changes.{ended}
use Rattle.pfc_call_laws.specs.Calls.{first_home}
use Rattle.pfc_representation.specs.Levels.{Facts, program_in, LivingLevel, MayKeep, of_main, of_own as of_own_stack, lent as lent_by}
use Rattle.pfc_representation.specs.Callers.{ending_of, GoesBack, IsFirst, AreCallers}
use Rattle.pfc_representation.specs.Keeping.{IsLender, meets, meets_lender}
use Rattle.pfc_representation.specs.Acting.{IsActing}
use Rattle.pfc_kept_lives.proofs.Bound.{lender_bound, bound_apart}

-- ## One activation

pub record IsOnly (facts : Facts) (homes : Homes) (store : Store) (p room : ℕ) (level : LivingLevel) (w : ℤ) (latest : Communicating) (xs : List Activation)
    (es : List Entry) : Type 0 where
  pub top : Activation
  pub entry : Entry
  pub activations : xs ≡ top ∷ []
  pub entries : es ≡ entry ∷ []
  pub first : IsFirst facts homes store p room level w latest top entry

-- what has a caller ends with a return
not_called : (facts : Facts) (outer : LivingLevel) (back : ℕ) (under : List ℤ) (mark : Mark) (caller : Caller)
    → GoesBack facts outer back under mark caller → END ≡ ending_of caller → ⊥
not_called facts outer back under plain of_nobody goes ends = goes
not_called facts outer back under (of_monitor m) of_nobody goes ends = goes
not_called facts outer back under (of_resource r) of_nobody goes ends = goes
not_called facts outer back under mark (of_remainder env k) goes ends = (let both : END ≡ RET = ends in cc)
not_called facts outer back under mark (of_value x u) goes ends = (let both : END ≡ RETF = ends in cc)

pub only_of : (facts : Facts) (homes : Homes) (entries : Entries) (store : Store) (table : Table) (p room : ℕ) (level : LivingLevel) (w : ℤ)
    (latest : Communicating) (xs : List Activation) (es : List Entry)
    → level.setting.last ≡ END → AreCallers facts homes entries store table p room level w latest xs es
    → IsOnly facts homes store p room level w latest xs es
only_of facts homes entries store table p room level w latest [] es ends is = absurd is
only_of facts homes entries store table p room level w latest (a ∷ xs) [] ends is = absurd is
only_of facts homes entries store table p room level w latest (a ∷ []) (e ∷ []) ends is =
    record { top = a; entry = e; activations = refl; entries = refl; first = is }
only_of facts homes entries store table p room level w latest (a ∷ []) (e ∷ f ∷ es) ends is = absurd is
only_of facts homes entries store table p room level w latest (a ∷ b ∷ xs) (e ∷ []) ends is = absurd is
only_of facts homes entries store table p room level w latest (a ∷ b ∷ xs) (e ∷ f ∷ es) ends (outer, v, earlier, called, within, others) =
    absurd (not_called facts outer called.own.address level.setting.under a.mark a.caller called.back (sym ends ∙ called.stands.last))

-- ## It ends

same_number : (n : ℕ) → (n == n) ≡ true
same_number n = grind arith

other_number : (n m : ℕ) → n ≢ m → (n == m) ≡ false
other_number n m h = grind (arith, h)

pub entries_here : (entries : Entries) (p : ℕ) (es : List Entry) → with_entries entries p es p ≡ es
entries_here entries p es = ap (λ (b : Bool). if b then es else entries p) (same_number p)

pub entries_there : (entries : Entries) (p : ℕ) (es : List Entry) (q : ℕ) → q ≢ p → with_entries entries p es q ≡ entries q
entries_there entries p es q apart = ap (λ (b : Bool). if b then es else entries q) (other_number q p apart)

module _ (facts : Facts) (m : Machine) (c : Config) (p : ℕ) (level : LivingLevel) (acting : IsActing facts m c p level) (ends : level.setting.last ≡ END) where
  abbrev g : Program
  g = program_in facts

  abbrev a : Activity
  a = activity_of g c p

  abbrev d : Descriptor
  d = descriptor_of m.descriptors p

  pub only : IsOnly facts acting.homes c.store p (stack_of m.stacks p).room level (word_of (last_activation m.stacks p)) d.communications a.activations
      (acting.entries p)
  only = only_of facts acting.homes acting.entries c.store c.table p (stack_of m.stacks p).room level (word_of (last_activation m.stacks p))
      d.communications a.activations (acting.entries p) ends acting.actor.stands.callers

  abbrev pub number : ℕ
  number = only.entry.activation

  pub number_is : number ≡ only.top.number
  number_is = only.first.stands.number

  abbrev home : Home
  home = only.first.stands.home

  home_at : acting.homes number ≡ Some home
  home_at = ap acting.homes number_is ∙ only.first.stands.at

  module _ (child : p ≢ 0) where
    not_main : number ≢ 0
    not_main same =
        let first : home ≡ first_home 0 0 = (let both : Some home ≡ Some (first_home 0 0) = sym home_at ∙ ap acting.homes same ∙ acting.alike.holds.main in
        cc) in
        child (sym only.first.stands.process ∙ ap (λ (x : Home). x.process) first)

    only_here : (q : ℕ) → q ≢ p → IsAmong number (acting.entries q) → ⊥
    only_here q apart among =
        let found = has_home g acting.homes acting.entries c.store m.stacks q number acting.alike.holds.memory among in
        let one : found.0 ≡ home = (let both : Some found.0 ≡ Some home = sym found.1 ∙ home_at in cc) in
        apart (sym found.2 ∙ ap (λ (x : Home). x.process) one ∙ only.first.stands.process)

    -- ### Nobody else keeps it

    kept_apart : (q : ℕ) (lenders : List ℕ) (mine : List Entry) (x : ℕ) → MayKeep c.table acting.entries q lenders mine x → (IsAmong number mine → ⊥)
        → ((r : ℕ) → IsLender c.table q r → r ≢ p) → x ≢ number
    kept_apart _ _ _ _ (of_main q lenders mine) apart others same = not_main (sym same)
    kept_apart _ _ _ _ (of_own_stack q lenders mine x among) apart others same = apart (subst (λ n. IsAmong n mine) same among)
    kept_apart _ _ _ _ (lent_by q lenders mine x k r more there met inner) apart others same =
        kept_apart r more (acting.entries r) x inner (only_here r (others r (meets q r met))) (λ s lender. others s (meets_lender q r s met lender)) same

    abbrev pub entries' : Entries
    entries' = with_entries acting.entries p []

    abbrev pub store' : Store
    store' = without c.store number

    -- what others see stays
    pub like : (q : ℕ) → q ≢ p → (keeps : ℕ → Bool)
        → ((x : ℕ) → keeps x ≡ true → (lenders : List ℕ) × MayKeep c.table acting.entries q lenders (acting.entries q) x)
        → IsLike g keeps acting.homes acting.homes acting.entries entries' c.store store'
    like q apart keeps these = ended g keeps acting.homes acting.entries c.store p only.entry [] only.entries (by (keeps number) refl)
      where
        by : (x : Bool) → keeps number ≡ x → keeps number ≡ false
        by false is = is
        by true is =
            let it = these number is in
            absurd (kept_apart q it.0 (acting.entries q) number it.1 (only_here q apart)
            (λ r lender. bound_apart c.table p r acting.actor.ready (lender_bound c.table q r lender)) refl)

    -- ### The store

    pub memory' : MemoryIs g acting.homes entries' store' m.stacks
    memory' = end_taken g acting.alike.program.types.counted acting.homes acting.entries c.store m.stacks p only.entry acting.alike.holds.memory only.entries

    object_apart : (l : Location) (t : Option TypeId) (r : Ref) → Lies g acting.homes l t r → is_object_type g.state.forms t ≡ true → l.activation ≢ number
    object_apart l t r lies object same = not_main (sym same ∙ acting.alike.holds.mains l t r lies object)

    pub object_stays : (l : Location) (t : Option TypeId) (r : Ref) → Lies g acting.homes l t r → is_object_type g.state.forms t ≡ true
        → value_at store' l ≡ value_at c.store l
    object_stays l t r lies object =
        ap (λ (vs : List Value). part (path_of l.selectors) (get_or vs l.variable (ordinal (pos 0))))
        (room_left c.store number l.activation (object_apart l t r lies object))

    main_lives : (x : ℕ) → x ≡ 0 → Lives acting.entries x → Lives entries' x
    main_lives x is (q, among) = (q, subst (λ (es : List Entry). IsAmong x es) (sym (entries_there acting.entries p [] q on_main)) among)
      where
        on_main : q ≢ p
        on_main same =
            let found = has_home g acting.homes acting.entries c.store m.stacks q x acting.alike.holds.memory among in
            let one : found.0 ≡ first_home 0 0 = (let both : Some found.0 ≡ Some (first_home 0 0) = sym found.1 ∙ ap acting.homes is
            ∙ acting.alike.holds.main in cc) in
            child (sym same ∙ sym found.2 ∙ ap (λ (y : Home). y.process) one)

    pub objects' : AreObjects g acting.homes entries' store' facts.number
    objects' =
        let old = acting.alike.holds.objects in
        record {
          known = λ l t r lies object. (let was = old.known l t r lies object in (was.0, was.1, object_stays l t r lies object ∙ was.2));
          only = λ word n is. still word (old.only word n is);
        }
      where
        still : (word : ℤ) → IsObjectAt g acting.homes acting.entries word → IsObjectAt g acting.homes entries' word
        still word was = record {
          location = was.location;
          t = was.t;
          place = was.place;
          lies = was.lies;
          object = was.object;
          word = was.word;
          lives = main_lives was.location.activation (acting.alike.holds.mains was.location was.t was.place was.lies was.object) was.lives;
        }
