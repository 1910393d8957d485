-- The owner of an entry, as both sides have it.
use Rattle.std.proofs.Common.{◌≡◌, ℕ, ◌+◌, ◌^◌, ◌%◌, ◌<◌, ◌≤◌, ℤ, pos, true, List, [], ◌∷◌, ◌++◌, length, get_or, Option, Some, None, refl, sym, ap, ap₂, ◌∙◌}
use Rattle.std.proofs.Common.{subst, arith}
use Rattle.std.specs.Prelude.{unsigned_abs, ◌||◌, Bool}
use Rattle.std.specs.List.{slice_get}
use Rattle.pfc_types.specs.Types.{form_of, process_form, semaphore, condition, is_same}
use Rattle.pfc_types.specs.declared.types.TypeId.{TypeId}
use Rattle.pfc_types.specs.declared.types.TypeForm.{TypeForm}
use Rattle.pfc_types.specs.declared.types.TypeForm.TheVariants.{Process as ProcessForm}
use Rattle.pfc_types.specs.declared.scope.Meaning.{Meaning}
use Rattle.pfc_types.specs.declared.scope.Meaning.TheVariants.{Process}
use Rattle.pfc_semantics.specs.Values.{Value, Location, ordinal, ordinal_of, part, path_of}
use Rattle.pfc_semantics.specs.Displays.{Spot, Display, own_location, reached}
use Rattle.pfc_semantics.specs.Processes.{declaration_of}
use Rattle.pfc_semantics.specs.Programs.{Block, Program, block_at}
use Rattle.pfc_semantics.specs.Remainders.{Context}
use Rattle.pfc_semantics.specs.Store.{variable, value_at, values_in}
use Rattle.pfc_semantics.specs.Configurations.{Config, activity_of, location_for, number_for}
use Rattle.pfc_stacks.specs.declared.refs.Ref.{Ref}
use Rattle.pfc_stacks.specs.Refs.{word_of, number_of}
use Rattle.pfc_stacks.specs.Stacks.{last_activation, own_cells}
use Rattle.pfc_cells.specs.Shapes.{here as path_here}
use Rattle.pfc_cells.specs.Homes.{Home, Lies, layout_at, cells_before}
use Rattle.pfc_machines.specs.declared.machine.Machine.{Machine}
use Rattle.pfc_standing_code.specs.Shapes.{has_object_form, is_object_type}
use Rattle.pfc_standing_code.specs.Settings.{Setting, of_own, site_of}
use Rattle.pfc_standing_code.specs.Typed.{unlined, StandsAt, whole_of, IsDeclaredAt}
use Rattle.pfc_standing_code.specs.TypedStatements.{IsProcessType}
use Rattle.pfc_standing_code.specs.Words.{IsObject, IsChecked}
use Rattle.pfc_call_laws.specs.Calls.{first_home}
use Rattle.pfc_views.specs.Views.{Sees, LiesAt, IsNamed}
use Rattle.pfc_views.proofs.Named.{lies_in_view}
use Rattle.pfc_stack_laws.specs.Standing.{HoldStore, IsAtHand}
use Rattle.pfc_representation.specs.Levels.{Facts, program_in, LivingLevel}
use Rattle.pfc_representation.specs.Acting.{IsActing}
use Rattle.pfc_kept_own_actions.proofs.Arrived.{has_setting, hold_store, at_hand, displayed}
use Rattle.pfc_kept_meetings.specs.Owners.{HasSingles}

number_back : (n : ℕ) → n < 2 ^ 32 → number_of (pos n) ≡ n
number_back n few = (let all : n % 2 ^ 32 ≡ n = omega (arith, few) in all)

-- a process by its number
part_of_number : (path : List ℕ) (n : ℤ) → part path (ordinal n) ≡ ordinal n
part_of_number [] n = refl
part_of_number (i ∷ path) n = part_of_number path n

process_formed : (form : Option TypeForm) (n : ℕ) → process_form form ≡ Some n → form ≡ Some (ProcessForm n)
process_formed (Some (ProcessForm k)) n is = (let same : k ≡ n = (let both : Some k ≡ Some n = is in cc) in ap (λ j. Some (ProcessForm j)) same)
process_formed form n is = absurd (let no : None ≡ Some n = is in cc)

or_true : (b : Bool) → (b || true) ≡ true
or_true b = grind arith

module _ (facts : Facts) (m : Machine) (c : Config) (p : ℕ) (level : LivingLevel) (acting : IsActing facts m c p level) (own : level.setting.trial ≡ of_own)
    (b : Block) (x : Context) (v : Spot) (i : ℤ) (checked : IsChecked level.setting b x.env) where
  abbrev g : Setting
  g = level.setting

  abbrev program : Program
  program = program_in facts

  abbrev here : Location
  here = location_for program c p v

  abbrev display : Display
  display = (activity_of program c p).display

  abbrev hand : IsAtHand g acting.homes acting.entries c.store b (word_of (last_activation m.stacks p))
  hand = at_hand facts m c p level acting own b checked.beside

  same_program : g.program ≡ program
  same_program = (has_setting facts m c p level acting).image.program

  hold : HoldStore g acting.homes acting.entries c.store m.stacks
  hold = hold_store facts m c p level acting

  sees : Sees g.program acting.homes acting.entries c.store hand.keeps display b g.accepts (word_of (last_activation m.stacks p)) hand.chain g.view
  sees =
      subst (λ (y : Display). Sees g.program acting.homes acting.entries c.store hand.keeps y b g.accepts (word_of (last_activation m.stacks p)) hand.chain
      g.view)
      (displayed facts m c p level acting own b checked.beside) hand.sees

  -- the object's variable lies there, and holds this number
  record HoldsNumber (t : Option TypeId) : Type 0 where
    place : Ref
    lies : Lies program acting.homes here t place
    value : value_at c.store here ≡ ordinal i

  object_there : (t : Option TypeId) → is_object_type program.state.forms t ≡ true → IsObject g (site_of g b x) v t i → HoldsNumber t
  object_there t object (word, is, numbered) =
      let at : LiesAt g.program acting.homes c.store hand.keeps display v t word =
      lies_in_view g.program hold.types.counted acting.homes acting.entries c.store hand.keeps display b g.accepts (word_of (last_activation m.stacks p))
      hand.chain g.view m.stacks hold.memory sees x.env x.line v t word checked.known is in
      let lies : Lies program acting.homes here t at.place = subst (λ (y : Program). Lies y acting.homes here t at.place) same_program at.lies in
      let known = acting.alike.holds.objects.known here t at.place lies object in
      let said : facts.number (word_of at.place) ≡ Some i =
      ap facts.number (sym at.word) ∙ ap (λ (f : ℤ → Option ℤ). f word) (sym (has_setting facts m c p level acting).number) ∙ numbered in
      let same : known.0 ≡ i = (let both : Some known.0 ≡ Some i = sym known.1 ∙ said in cc) in
      record { place = at.place; lies = lies; value = known.2 ∙ ap (λ (k : ℤ). ordinal k) same }

  -- both sides have the same process, of this declaration
  pub record IsOwner (n : ℕ) : Type 0 where
    pub q : ℕ
    pub word : number_of i ≡ q
    pub spot : number_for program c p v ≡ q
    pub there : q < length c.activities
    pub declared : declaration_of program q ≡ n

  few_processes : length c.activities < 2 ^ 32
  few_processes =
      less (length m.stacks) (length c.activities) acting.alike.words.stacks acting.alike.holds.few.processes
    where
      less : (j k : ℕ) → j ≡ k → j ≤ 1024 → k < 2 ^ 32
      less j k same few = omega (arith, same, few)

  owner : (n q : ℕ) → value_at c.store here ≡ ordinal i → value_at c.store here ≡ ordinal (pos q) → q < length c.activities → declaration_of program q ≡ n
      → IsOwner n
  owner n q value is there declared =
      record {
        q = q;
        word = ap number_of (ap ordinal_of (sym value ∙ is)) ∙ number_back q (less q (length c.activities) there few_processes);
        spot = ap (λ (y : Value). unsigned_abs (ordinal_of y)) is;
        there = there;
        declared = declared;
      }
    where
      less : (j k : ℕ) → j < k → k < 2 ^ 32 → j < 2 ^ 32
      less j k h few = omega (arith, h, few)

  -- one of an array or record
  typed_owner : (n : ℕ) (t : TypeId) → form_of program.state.forms t ≡ Some (ProcessForm n) → IsObject g (site_of g b x) v (Some t) i → IsOwner n
  typed_owner n t form object =
      let is_object : is_object_type program.state.forms (Some t) ≡ true =
      ap (λ (f : Option TypeForm). (is_same t semaphore || is_same t condition) || has_object_form f) form ∙ or_true (is_same t semaphore || is_same t
      condition) in
      let at = object_there (Some t) is_object object in
      let kind = acting.alike.kinds.processes here t n at.place at.lies form in
      owner n kind.0 at.value kind.1 kind.3 kind.4

  -- a single one
  module _ (n : ℕ) (singles : HasSingles facts c) (stands : StandsAt (site_of g b x) v (Process n)) (object : IsObject g (site_of g b x) v None i) where
    abbrev declared : IsDeclaredAt (unlined (site_of g b x)) (whole_of v) object.1.whole
    declared = object.1.declared

    meaning_is : declared.meaning ≡ Process n
    meaning_is = (let both : Some declared.meaning ≡ Some (Process n) = sym declared.laid ∙ stands in cc)

    named : IsNamed g.program acting.homes c.store hand.keeps display b hand.chain g.view (whole_of v) declared.meaning
    named = sees.names (whole_of v) declared.meaning (checked.known v.scope declared.seen) declared.own declared.laid declared.variable

    abbrev its : Location
    its = own_location display v

    laid : slice_get (layout_at g.program named.home) its.variable ≡ Some (Process n)
    laid = ap₂ (λ xs k. slice_get xs k) named.layout named.place ∙ declared.laid ∙ ap (λ (y : Meaning). Some y) meaning_is

    abbrev place : Ref
    place = record {
      process = named.home.process;
      cell = named.home.cell + own_cells + cells_before g.program.state.forms (layout_at g.program named.home) its.variable + 0;
    }

    lies : Lies program acting.homes its None place
    lies =
        subst (λ (y : Program). Lies y acting.homes its None place) same_program
        (record {
          home = named.home;
          behind = 0;
          is = record { at = named.at; meaning = Process n; laid = laid; variable = refl; own = refl; path = path_here None };
          place = refl;
        })

    of_main : its.activation ≡ 0
    of_main = acting.alike.holds.mains its None place lies refl

    home_is : named.home ≡ first_home 0 0
    home_is =
        (let both : Some named.home ≡ Some (first_home 0 0) = sym named.at ∙ ap acting.homes of_main ∙ acting.alike.holds.main in cc)

    in_main : slice_get (block_at program 0).layout its.variable ≡ Some (Process n)
    in_main =
        ap (λ (y : Program). slice_get (block_at y 0).layout its.variable) (sym same_program)
        ∙ ap (λ (y : Home). slice_get (layout_at g.program y) its.variable) (sym home_is) ∙ laid

    single_owner : IsOwner n
    single_owner =
        let number = singles.numbers its.variable n in_main in
        let held : variable c.store its ≡ ordinal (pos number.0) =
        ap (λ a. get_or (values_in c.store a) its.variable (ordinal (pos 0))) of_main ∙ number.1 in
        let there : value_at c.store here ≡ ordinal (pos number.0) =
        ap (λ (y : Value). value_at c.store (reached y its v.selectors)) held
        ∙ ap (λ (y : Value). part (path_of ([] ++ v.selectors)) y) held ∙ part_of_number (path_of ([] ++ v.selectors)) (pos number.0) in
        owner n number.0 (object_there None refl object).value there number.2 number.3

  pub is_owner : (n : ℕ) (t : Option TypeId) → HasSingles facts c → IsProcessType (site_of g b x) n v t → IsObject g (site_of g b x) v t i → IsOwner n
  is_owner n None singles stands object = single_owner n singles stands object
  is_owner n (Some t) singles form object =
      typed_owner n t
      (subst (λ (y : Program). form_of y.state.forms t ≡ Some (ProcessForm n)) same_program (process_formed (form_of g.program.state.forms t) n form)) object
