-- The number of an object on top is that which the source text has for its spot.
use Rattle.std.proofs.Common.{◌≡◌, ℕ, ◌^◌, ◌%◌, ◌<◌, ℤ, pos, true, length, Option, Some, refl, sym, ap, ◌∙◌, subst, arith}
use Rattle.std.specs.Prelude.{unsigned_abs}
use Rattle.pfc_types.specs.Types.{semaphore, condition}
use Rattle.pfc_types.specs.declared.types.TypeId.{TypeId}
use Rattle.pfc_semantics.specs.Values.{Value, Location, ordinal, ordinal_of}
use Rattle.pfc_semantics.specs.Displays.{Spot, Display}
use Rattle.pfc_semantics.specs.Programs.{Block, Program}
use Rattle.pfc_semantics.specs.Remainders.{Context}
use Rattle.pfc_semantics.specs.Store.{value_at}
use Rattle.pfc_semantics.specs.Configurations.{Config, activity_of, location_for, number_for}
use Rattle.pfc_stacks.specs.Refs.{word_of, number_of}
use Rattle.pfc_stacks.specs.Stacks.{last_activation}
use Rattle.pfc_cells.specs.Homes.{Lies}
use Rattle.pfc_stacks.specs.declared.refs.Ref.{Ref}
use Rattle.pfc_machines.specs.declared.machine.Machine.{Machine}
use Rattle.pfc_standing_code.specs.Shapes.{is_object_type}
use Rattle.pfc_standing_code.specs.Settings.{Setting, of_own, site_of}
use Rattle.pfc_standing_code.specs.Words.{IsObject, IsChecked}
use Rattle.pfc_views.specs.Views.{Sees, LiesAt}
use Rattle.pfc_views.proofs.Named.{lies_in_view}
use Rattle.pfc_stack_laws.specs.Standing.{HoldStore, IsAtHand}
use Rattle.pfc_representation.specs.Levels.{Facts, program_in, LivingLevel}
use Rattle.pfc_representation.specs.Acting.{IsActing}
use Rattle.pfc_kept_own_actions.proofs.Arrived.{has_setting, hold_store, at_hand, displayed}

number_back : (n : ℕ) → n < 2 ^ 32 → number_of (pos n) ≡ n
number_back n few = (let all : n % 2 ^ 32 ≡ n = omega (arith, few) in all)

module _ (facts : Facts) (m : Machine) (c : Config) (p : ℕ) (level : LivingLevel) (acting : IsActing facts m c p level) (own : level.setting.trial ≡ of_own)
    (b : Block) (x : Context) (v : Spot) (n : ℤ) (checked : IsChecked level.setting b x.env) where
  abbrev g : Setting
  g = level.setting

  abbrev here : Location
  here = location_for (program_in facts) c p v

  -- the object's variable lies there, and holds this number
  pub record HoldsNumber (t : TypeId) : Type 0 where
    pub place : Ref
    pub lies : Lies (program_in facts) acting.homes here (Some t) place
    pub value : value_at c.store here ≡ ordinal n

  pub object_there : (t : TypeId) → is_object_type (program_in facts).state.forms (Some t) ≡ true → IsObject g (site_of g b x) v (Some t) n → HoldsNumber t
  object_there t object (word, is, numbered) =
      let hand : IsAtHand g acting.homes acting.entries c.store b (word_of (last_activation m.stacks p)) = at_hand facts m c p level acting own b
      checked.beside in
      let hold : HoldStore g acting.homes acting.entries c.store m.stacks = hold_store facts m c p level acting in
      let display : Display = (activity_of (program_in facts) c p).display in
      let sees : Sees g.program acting.homes acting.entries c.store hand.keeps display b g.accepts (word_of (last_activation m.stacks p)) hand.chain g.view =
      subst (λ (y : Display). Sees g.program acting.homes acting.entries c.store hand.keeps y b g.accepts (word_of (last_activation m.stacks p)) hand.chain
      g.view)
      (displayed facts m c p level acting own b checked.beside) hand.sees in
      let at : LiesAt g.program acting.homes c.store hand.keeps display v (Some t) word =
      lies_in_view g.program hold.types.counted acting.homes acting.entries c.store hand.keeps display b g.accepts (word_of (last_activation m.stacks p))
      hand.chain g.view m.stacks
      hold.memory sees x.env x.line v (Some t) word checked.known is in
      let has = has_setting facts m c p level acting in
      let lies : Lies (program_in facts) acting.homes here (Some t) at.place = subst (λ (y : Program). Lies y acting.homes here (Some t) at.place)
      has.image.program at.lies in
      let known = acting.alike.holds.objects.known here (Some t) at.place lies object in
      let said : facts.number (word_of at.place) ≡ Some n =
      ap facts.number (sym at.word) ∙ ap (λ (f : ℤ → Option ℤ). f word) (sym has.number) ∙ numbered in
      let same : known.0 ≡ n = (let both : Some known.0 ≡ Some n = sym known.1 ∙ said in cc) in
      record { place = at.place; lies = lies; value = known.2 ∙ ap (λ (k : ℤ). ordinal k) same }

  -- both sides have the same number for it, which is below that of all of its kind
  pub record IsNumber (most : ℕ) : Type 0 where
    pub k : ℕ
    pub word : number_of n ≡ k
    pub spot : number_for (program_in facts) c p v ≡ k
    pub few : k < most

  module _ (k most : ℕ) (value : value_at c.store here ≡ ordinal n) (is : value_at c.store here ≡ ordinal (pos k)) (less : k < most) (few : most < 2 ^ 32) where
    same_number : n ≡ pos k
    same_number = ap ordinal_of (sym value ∙ is)

    bound : (i j : ℕ) → i < j → j < 2 ^ 32 → i < 2 ^ 32
    bound i j h h' = omega (arith, h, h')

    numbered : IsNumber most
    numbered = record {
      k = k;
      word = ap number_of same_number
          ∙ number_back k (bound k most less few);
      spot = ap (λ (y : Value). unsigned_abs (ordinal_of y)) is;
      few = less;
    }

  pub semaphore_number : IsObject g (site_of g b x) v (Some semaphore) n → IsNumber (length c.counts)
  semaphore_number object =
      let at = object_there semaphore refl object in
      let kind = acting.alike.kinds.semaphores here at.place at.lies in
      numbered kind.0 (length c.counts) at.value kind.1 kind.2 (subst (λ j. j < 2 ^ 32) (sym acting.alike.counts) acting.alike.program.numbered.semaphores)

  pub condition_number : IsObject g (site_of g b x) v (Some condition) n → IsNumber (length (program_in facts).objects.conditions)
  condition_number object =
      let at = object_there condition refl object in
      let kind = acting.alike.kinds.conditions here at.place at.lies in
      numbered kind.0 (length (program_in facts).objects.conditions) at.value kind.1 kind.2 acting.alike.program.numbered.conditions
