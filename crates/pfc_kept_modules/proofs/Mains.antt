-- What main's first activation sees, which lives all the time: a procedure that is called from outside its module is linked to it.
use Rattle.std.proofs.Common.{◌≡◌, ◌≢◌, ℕ, ◌+◌, ◌^◌, ◌<◌, ◌==◌, ◌||◌, ℤ, Bool, true, false, List, [], ◌∷◌, ◌++◌, length, refl, sym, ap, ◌∙◌, subst, arith}
use Rattle.std.proofs.Common.{◌⊎◌, inl, inr, length-append}
use Rattle.pfc_world.specs.Tables.{Table}
use Rattle.pfc_semantics.specs.Layouts.{Layout}
use Rattle.pfc_semantics.specs.Programs.{Block, Program}
use Rattle.pfc_semantics.specs.Store.{Store, values_in}
use Rattle.pfc_semantics.specs.Configurations.{Activation, Activity, Config, activity_of}
use Rattle.pfc_stacks.specs.Stacks.{cells_of}
use Rattle.pfc_stacks.specs.Activations.{main_link}
use Rattle.pfc_cells.specs.Homes.{Homes}
use Rattle.pfc_cells.specs.Memory.{Entry, Entries, IsAmong, Lives, AreCells}
use Rattle.pfc_cells.proofs.Blocks.{OnStack, cells_among, on_stack}
use Rattle.pfc_machines.specs.declared.machine.Machine.{Machine}
use Rattle.pfc_machines.specs.declared.descriptors.Descriptor.{Descriptor}
use Rattle.pfc_machines.specs.Descriptors.{descriptor_of}
use Rattle.pfc_machines.specs.Communications.{Communicating}
use Rattle.pfc_object_laws.proofs.Mains.{own_variables}
use Rattle.pfc_main_names.proofs.Mains.{are_of_main}
use Rattle.pfc_nesting_laws.proofs.Programs.{main_alone as nothing_around, main_found, main_has_none}
use Rattle.pfc_standing_code.specs.Settings.{View}
use Rattle.pfc_views.specs.Views.{IsLiving, latest, earlier, first_number, Sees}
use Rattle.pfc_views.proofs.Living.{is_among, lives}
use Rattle.pfc_call_laws.specs.Around.{scopes_around, IsMainsCode, ShowsAround, main_alone, keeps_also}
use Rattle.pfc_call_laws.specs.Calls.{first_home}
use Rattle.pfc_call_laws.specs.Inside.{nothing_seen, view_inside}
use Rattle.pfc_call_laws.proofs.Mains.{main_sees, shows_none}
use Rattle.pfc_call_laws.proofs.Keeping.{sees_too}
use Rattle.pfc_representation.specs.Levels.{Facts, program_in, LivingLevel}
use Rattle.pfc_representation.specs.Callers.{AreCallers}
use Rattle.pfc_representation.specs.Holding.{holders_in}
use Rattle.pfc_representation.specs.Processes.{ActivationsAre}
use Rattle.pfc_representation.specs.Acting.{IsActing}
use Rattle.pfc_kept_calls.proofs.Caller.{either_number, number_is}

-- a living activation with this number
record IsThere (a : ℕ) (es : List Entry) : Type 0 where
  entry : Entry
  living : IsLiving entry es
  number : entry.activation ≡ a

-- the first activation of process 0 has the number 0
first_there : (facts : Facts) (homes : Homes) (entries : Entries) (store : Store) (table : Table) (p room : ℕ) (level : LivingLevel) (w : ℤ)
    (last : Communicating) (xs : List Activation) (es : List Entry)
    → p ≡ 0 → AreCallers facts homes entries store table p room level w last xs es → IsThere 0 es
first_there facts homes entries store table p room level w last [] es main is = absurd is
first_there facts homes entries store table p room level w last (a ∷ xs) [] main is = absurd is
first_there facts homes entries store table p room level w last (a ∷ []) (e ∷ []) main is =
    record { entry = e; living = latest []; number = is.stands.number ∙ is.number main }
first_there facts homes entries store table p room level w last (a ∷ []) (e ∷ f ∷ es) main is = absurd is
first_there facts homes entries store table p room level w last (a ∷ b ∷ xs) (e ∷ []) main is = absurd is
first_there facts homes entries store table p room level w last (a ∷ b ∷ xs) (e ∷ f ∷ es) main (outer, v, before, called, within, others) =
    let one = first_there facts homes entries store table p room outer v before (b ∷ xs) (f ∷ es) main others in
    record { entry = one.entry; living = earlier e (f ∷ es) one.living; number = one.number }

module _ (facts : Facts) (m : Machine) (c : Config) (p : ℕ) (level : LivingLevel) (acting : IsActing facts m c p level) where
  abbrev g : Program
  g = program_in facts

  main_there : IsThere 0 (acting.entries 0)
  main_there = by (either_number 0 p)
    where
      some : (i k : ℕ) → i < k → 0 < k
      some i k less = grind (arith, less)

      under : (xs : List Activation) (a : Activity) (d : Descriptor)
          → ActivationsAre xs facts acting.homes acting.entries c.store m.stacks c.table (holders_in facts c) 0 a d → IsThere 0 (acting.entries 0)
      under [] a d is = absurd (let both : true ≡ false = sym acting.alike.main ∙ is.finished in cc)
      under (x ∷ xs) a d is =
          first_there facts acting.homes acting.entries c.store c.table 0 _ is.level _ d.communications a.activations (acting.entries 0) refl is.stands.callers

      by : (0 ≡ p) ⊎ (0 ≢ p) → IsThere 0 (acting.entries 0)
      by (inl same) =
          subst (λ i. IsThere 0 (acting.entries i)) (sym same)
          (first_there facts acting.homes acting.entries c.store c.table p _ level _ (descriptor_of m.descriptors p).communications
          (activity_of g c p).activations (acting.entries p) (sym same) acting.actor.stands.callers)
      by (inr apart) =
          under (activity_of g c 0).activations (activity_of g c 0) (descriptor_of m.descriptors 0)
          (acting.others 0 (some p (length c.activities) acting.actor.process) apart).activations

  -- ## Its cells

  pub mains_code : IsMainsCode g g.main
  mains_code =
      let lawful = acting.alike.program.lawful in
      record {
        by_scope = main_found facts.tree lawful;
        alone = nothing_around facts.tree lawful;
        no_accept = λ i known. main_has_none facts.tree lawful i;
        own = λ k n there. (own_variables facts.tree (are_of_main facts.tree lawful) k n there).1;
      }

  pub on_its_stack : OnStack g acting.homes c.store 0 (acting.entries 0) (cells_of m.stacks 0) 0 (first_home 0 0)
  on_its_stack =
      let among = subst (λ i. IsAmong i (acting.entries 0)) main_there.number (is_among main_there.entry (acting.entries 0) main_there.living) in
      on_stack g acting.alike.program.types.counted acting.homes c.store 0 (acting.entries 0) (cells_of m.stacks 0) 0
      (first_home 0 0) acting.alike.holds.main among
      (cells_among g acting.homes c.store 0 (acting.entries 0) (cells_of m.stacks 0) 0 among (acting.alike.holds.memory 0))

  abbrev pub block : List ℤ
  block = on_its_stack.block

  block_holds : AreCells g acting.homes g.main.layout (values_in c.store 0) block
  block_holds = subst (λ (x : Layout). AreCells g acting.homes x (values_in c.store 0) block) (ap (λ (x : Block). x.layout) mains_code.by_scope)
      on_its_stack.holds

  block_small : 8 + length block < 2 ^ 32
  block_small =
      let all : length (cells_of m.stacks 0) ≡ length on_its_stack.before + (length block + length on_its_stack.after) = ap (λ (xs : List ℤ). length xs)
      on_its_stack.reads ∙ length-append on_its_stack.before (block ++ on_its_stack.after)
      ∙ ap (λ i. length on_its_stack.before + i) (length-append block on_its_stack.after) in
      let place = on_its_stack.place in
      let few : length (cells_of m.stacks 0) < 2 ^ 32 = acting.alike.holds.few.cells 0 in
      omega (arith, all, place, few)

  -- ## What it sees

  abbrev pub main_view : View
  main_view = view_inside g.state.forms g.main.layout (values_in c.store 0) block (first_number (first_home 0 0)) 0 nothing_seen

  mains : Sees g acting.homes acting.entries c.store main_alone [] g.main [] main_link (0 ∷ []) main_view
  mains = main_sees g acting.alike.program.types.counted acting.homes acting.entries c.store g.main mains_code acting.alike.holds.main main_there.entry
      main_there.living main_there.number block block_holds block_small

  pub main_shows : ShowsAround g g.main []
  main_shows = shows_none g acting.alike.program.types.counted acting.homes acting.entries c.store g.main mains_code acting.alike.holds.main main_there.entry
      main_there.living main_there.number block block_holds block_small

  pub main_lives : Lives acting.entries 0
  main_lives = subst (λ i. Lives acting.entries i) main_there.number (lives acting.entries 0 main_there.entry main_there.living)

  pub nothing_around_main : scopes_around g g.main ≡ []
  nothing_around_main = mains_code.alone

  -- so it does where it keeps what others keep, too
  pub main_sees_with : (keeps : ℕ → Bool) → ((y : ℕ) → keeps y ≡ true → Lives acting.entries y)
      → Sees g acting.homes acting.entries c.store (keeps_also keeps 0) [] g.main [] main_link (0 ∷ []) main_view
  main_sees_with keeps living =
      sees_too main_alone (keeps_also keeps 0) (λ y is. ap (λ (x : Bool). x || keeps y) is) acting.homes acting.entries g c.store [] g.main [] main_link
      (0 ∷ []) main_view mains living_too
    where
      living_too : (y : ℕ) → keeps_also keeps 0 y ≡ true → Lives acting.entries y
      living_too y is = by (y == 0) refl
        where
          by : (x : Bool) → (y == 0) ≡ x → Lives acting.entries y
          by true h = subst (λ i. Lives acting.entries i) (sym (number_is y 0 h)) main_lives
          by false h = living y (ap (λ (x : Bool). x || keeps y) (sym h) ∙ is)
