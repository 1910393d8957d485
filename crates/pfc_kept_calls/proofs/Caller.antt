-- A process that acts, before an activation of it begins or ends: its activations, and what does not change with them.
use Rattle.std.proofs.Common.{◌≡◌, ◌≢◌, ℕ, ◌+◌, ◌^◌, ◌<◌, ◌≤◌, ◌==◌, if◌then◌else◌, ℤ, Bool, true, false, ◌||◌, List, []}
use Rattle.std.proofs.Common.{◌∷◌, ◌++◌, length, Option, Some, None, refl, sym, ap, ◌∙◌, subst, arith, ◌⊎◌}
use Rattle.pfc_types.specs.declared.types.TypeId.{TypeId}
use Rattle.pfc_state.specs.Stands.{Stand, Is_ready}
use Rattle.pfc_world.specs.Tables.{Table, at}
use Rattle.pfc_world.specs.Transitions.{ticked}
use Rattle.pfc_semantics.specs.Displays.{Display}
use Rattle.pfc_semantics.specs.Values.{Location, ordinal}
use Rattle.pfc_semantics.specs.Store.{Store, value_at}
use Rattle.pfc_semantics.specs.Layouts.{Layout}
use Rattle.pfc_semantics.specs.Programs.{Block, Program, layout_cells}
use Rattle.pfc_semantics.specs.Configurations.{Activity, Config, activity_of}
use Rattle.pfc_semantics.specs.Calls.{cells_below}
use Rattle.pfc_stacks.specs.declared.refs.Ref.{Ref}
use Rattle.pfc_stacks.specs.Refs.{word_of}
use Rattle.pfc_stacks.specs.Stacks.{Stack, stack_of, last_activation}
use Rattle.pfc_cells.specs.Homes.{Home, Homes, Lies}
use Rattle.pfc_cells.specs.Memory.{Entry, Entries, ProcessIs}
use Rattle.pfc_cells.specs.Activations.{with_home, with_entries}
use Rattle.pfc_machines.specs.declared.machine.Machine.{Machine}
use Rattle.pfc_machines.specs.declared.descriptors.Descriptor.{Descriptor}
use Rattle.pfc_machines.specs.Descriptors.{descriptor_of}
use Rattle.pfc_standing_code.specs.Settings.{View, Trial, Setting, of_own, IsBeside}
use Rattle.pfc_standing_code.specs.Performs.{own_view, own_accepts, own_block}
use Rattle.pfc_views.specs.Views.{AreObjects}
use Rattle.pfc_stack_laws.specs.Standing.{HoldStore, IsAtHand}
use Rattle.pfc_call_laws.specs.Around.{ShowsAround}
use Rattle.pfc_representation.specs.Levels.{Facts, program_in, LivingLevel, block_of, is_met_by}
use Rattle.pfc_representation.specs.Levels.{SeesWith, SeesThrough}
use Rattle.pfc_representation.specs.Keeping.{IsLender, meets, meets_lender}
use Rattle.pfc_representation.specs.Acting.{IsActing}
use Rattle.pfc_types.specs.Types.{Forms, semaphore, condition, form_of, is_same}
use Rattle.pfc_types.specs.declared.types.TypeForm.{TypeForm}
use Rattle.pfc_types.specs.declared.types.TypeForm.TheVariants.{Channel, Process}
use Rattle.pfc_standing_code.specs.Shapes.{is_object_type, has_object_form}
use Rattle.pfc_representation.specs.Objects.{AreOfKinds}
use Rattle.pfc_representation.specs.Machines.{IsBetweenActions}
use Rattle.pfc_kept_calls.proofs.Tops.{HasTop, top_of, cells_of_top}

-- ## Objects

or_true : (x : Bool) → (x || true) ≡ true
or_true true = refl
or_true false = refl

object_formed : (forms : Forms) (t : TypeId) (form : TypeForm) → has_object_form (Some form) ≡ true → form_of forms t ≡ Some form → is_object_type forms
    (Some t) ≡ true
object_formed forms t form h is =
    ap (λ (o : Option TypeForm). (is_same t semaphore || is_same t condition) || has_object_form o) is
    ∙ ap (λ (b : Bool). (is_same t semaphore || is_same t condition) || b) h ∙ or_true (is_same t semaphore || is_same t condition)

-- Those of a configuration are what they were, in another in which objects lie where they lay.
pub kinds_still : (facts : Facts) (homes homes' : Homes) (entries entries' : Entries) (c c' : Config)
    → AreObjects (program_in facts) homes entries c.store facts.number → AreObjects (program_in facts) homes' entries' c'.store facts.number
    → length c'.counts ≡ length c.counts → length c'.activities ≡ length c.activities
    → ((l : Location) (t : Option TypeId) (r : Ref) → Lies (program_in facts) homes' l t r → is_object_type (program_in facts).state.forms t ≡ true
    → Lies (program_in facts) homes l t r)
    → AreOfKinds facts homes c → AreOfKinds facts homes' c'
kinds_still facts homes homes' entries entries' c c' before now counts activities lay old = record {
  semaphores = λ l r lies.
      let was = lay l (Some semaphore) r lies refl in
      let is = old.semaphores l r was in (is.0, same_object l (Some semaphore) r lies refl ∙ is.1, subst (λ n. is.0 < n) (sym counts) is.2);
  conditions = λ l r lies. let is = old.conditions l r (lay l (Some condition) r lies refl) in (
    is.0,
    same_object l (Some condition) r lies refl
        ∙ is.1,
    is.2,
  );
  processes = λ l t k r lies form.
      let object = object_formed (program_in facts).state.forms t (Process k) refl form in
      let is = old.processes l t k r (lay l (Some t) r lies object) form in (
        is.0,
        same_object l (Some t) r lies object ∙ is.1,
        is.2,
        subst (λ n. is.0 < n) (sym activities) is.3,
        is.4,
      );
  channel_numbers = λ l t v r lies form.
      let object = object_formed (program_in facts).state.forms t (Channel v) refl form in
      let is = old.channel_numbers l t v r (lay l (Some t) r lies object) form in (is.0, same_object l (Some t) r lies object ∙ is.1, is.2);
  channels = λ l m t u v w r s lies other one two same.
      let first = object_formed (program_in facts).state.forms t (Channel v) refl one in
      let second = object_formed (program_in facts).state.forms u (Channel w) refl two in
      old.channels l m t u v w r s (lay l (Some t) r lies first) (lay m (Some u) s other second) one two
      (sym (same_object l (Some t) r lies first) ∙ same ∙ same_object m (Some u) s other second);
}
  where
    same_object : (l : Location) (t : Option TypeId) (r : Ref) → Lies (program_in facts) homes' l t r → is_object_type
        (program_in facts).state.forms t ≡ true → value_at c'.store l ≡ value_at c.store l
    same_object l t r lies object =
        let was = before.known l t r (lay l t r lies object) object in
        let new = now.known l t r lies object in
        let same : new.0 ≡ was.0 = (let both : Some new.0 ≡ Some was.0 = sym new.1 ∙ was.1 in cc) in
        new.2 ∙ ap (λ n. ordinal n) same ∙ sym was.2

-- ## The clock

pub ticks : (table : Table) → IsBetweenActions table → table.done < 10 ^ 18 → IsBetweenActions (ticked table)
ticks table old few = record {
  acting = old.acting;
  tickets = λ q ticket is. later ticket table.done (old.tickets q ticket is);
  moment = more table.moment table.done (10 ^ 15) old.moment;
  due = old.due;
  done = next table.done (10 ^ 18) few;
}
  where
    later : (n k : ℕ) → n ≤ k → n ≤ k + 1
    later n k less = grind (arith, less)

    more : (n k b : ℕ) → n ≤ b + k → n + 1 ≤ b + (k + 1)
    more n k b less = grind (arith, less)

    next : (n b : ℕ) → n < b → n + 1 ≤ b
    next n b less = grind (arith, less)

-- ## Who acts is in no meeting

ready_unmet : (stand : Stand) (q : ℕ) → stand ≡ Is_ready → is_met_by stand q → ⊥
ready_unmet stand q h met = (let none : is_met_by Is_ready q = subst (λ (s : Stand). is_met_by s q) h met in none)

pub lender_apart : (table : Table) (p q r : ℕ) → at table.rows p ≡ Is_ready → IsLender table q r → r ≢ p
lender_apart table p _ _ ready (meets q r met) same = ready_unmet (at table.rows r) q (ap (λ n. at table.rows n) same ∙ ready) met
lender_apart table p _ _ ready (meets_lender q s r met inner) same = lender_apart table p s r ready inner same

-- ## The activation at hand

-- with all its callers that lend to it
pub first_seen : (facts : Facts) (homes : Homes) (entries : Entries) (store : Store) (table : Table) (p : ℕ) (mine : List Entry) (w : ℤ)
    (display : Display) (g : Setting) (b : Block) (view : View) (others accepts meetings : List ℕ)
    → SeesThrough facts homes entries store table p mine w display g b view others accepts meetings
    → SeesWith facts homes entries store table p (meetings ++ others) mine w display g b accepts view
first_seen facts homes entries store table p mine w display g b view others [] [] is = is
first_seen facts homes entries store table p mine w display g b view others (i ∷ accepts) (q ∷ meetings) is = is.0
first_seen facts homes entries store table p mine w display g b view others [] (q ∷ meetings) is = absurd is
first_seen facts homes entries store table p mine w display g b view others (i ∷ accepts) [] is = absurd is

pub either_number : (n k : ℕ) → (n ≡ k) ⊎ (n ≢ k)
either_number n k = grind arith

pub same_number : (n : ℕ) → (n == n) ≡ true
same_number n = grind arith

pub number_is : (n m : ℕ) → (n == m) ≡ true → n ≡ m
number_is n m h = grind (arith, h)

other_number : (n m : ℕ) → n ≢ m → (n == m) ≡ false
other_number n m h = grind (arith, h)

pub entries_here : (entries : Entries) (p : ℕ) (es : List Entry) → with_entries entries p es p ≡ es
entries_here entries p es = ap (λ (b : Bool). if b then es else entries p) (same_number p)

pub entries_there : (entries : Entries) (p : ℕ) (es : List Entry) (q : ℕ) → q ≢ p → with_entries entries p es q ≡ entries q
entries_there entries p es q apart = ap (λ (b : Bool). if b then es else entries q) (other_number q p apart)

pub home_there : (homes : Homes) (a : ℕ) (home : Home) (b : ℕ) → b ≢ a → with_home homes a home b ≡ homes b
home_there homes a home b apart = ap (λ (x : Bool). if x then Some home else homes b) (other_number b a apart)

pub home_here : (homes : Homes) (a : ℕ) (home : Home) → with_home homes a home a ≡ Some home
home_here homes a home = ap (λ (x : Bool). if x then Some home else homes a) (same_number a)

module _ (facts : Facts) (m : Machine) (c : Config) (p : ℕ) (level : LivingLevel) (acting : IsActing facts m c p level) where
  abbrev pub g : Program
  g = program_in facts

  abbrev pub a : Activity
  a = activity_of g c p

  abbrev pub d : Descriptor
  d = descriptor_of m.descriptors p

  abbrev pub s : Stack
  s = stack_of m.stacks p

  abbrev pub w : ℤ
  w = word_of (last_activation m.stacks p)

  -- the setting, with the program itself
  abbrev pub outer : Setting
  outer = record level.setting { program = g; number = facts.number }

  pub hold : HoldStore outer acting.homes acting.entries c.store m.stacks
  hold = record { types = acting.alike.program.types; memory = acting.alike.holds.memory; few = acting.alike.holds.few; objects = acting.alike.holds.objects }

  pub top : HasTop facts acting.homes c.store p level w a.activations (acting.entries p)
  top = top_of facts acting.homes acting.entries c.store c.table p s.room level w d.communications a.activations
      (acting.entries p) acting.actor.stands.callers

  -- the cells of all activations are as many as the source text counts
  pub full_cells : (block_of level).cells ≡ layout_cells g.state.forms (block_of level).layout → length s.cells ≡ cells_below a.activations
  full_cells counted =
      cells_of_top g acting.alike.program.types.counted acting.homes c.store p top.entry top.below s.cells
      (subst (λ (es : List Entry). ProcessIs g acting.homes c.store p es s.cells) top.entries (acting.alike.holds.memory p)) top.stands.home
      (ap acting.homes top.stands.number ∙ top.stands.at)
      ∙ ap (λ n. top.stands.home.cell + (8 + n)) (ap (λ (x : Layout). layout_cells g.state.forms x) top.stands.laid ∙ sym counted)
      ∙ turned top.stands.home.cell (block_of level).cells ∙ sym top.stands.cells ∙ ap cells_below (sym top.activations)
    where
      turned : (i j : ℕ) → i + (8 + j) ≡ i + (j + 8)
      turned i j = omega arith

  -- the new activation has a new number
  pub is_free : acting.homes (c.table.done + 1) ≡ None
  is_free = by (acting.homes (c.table.done + 1)) refl
    where
      late : (n k : ℕ) → n ≡ k + 1 → n ≤ k → ⊥
      late n k h less = grind (arith, h, less)

      by : (o : Option Home) → acting.homes (c.table.done + 1) ≡ o → o ≡ None
      by None is = refl
      by (Some home) is = absurd (late (c.table.done + 1) c.table.done refl (acting.alike.holds.numbers (c.table.done + 1) home is))

  module _ (own : level.setting.trial ≡ of_own) where
    pub seen_here : SeesWith facts acting.homes acting.entries c.store c.table p d.communications.callers
        (acting.entries p) w a.display level.setting level.setting.block level.setting.accepts level.setting.view
    seen_here =
        let seen = acting.actor.stands.seen in
        subst (λ (lenders : List ℕ). SeesWith facts acting.homes acting.entries c.store c.table p lenders
        (acting.entries p) w a.display level.setting level.setting.block level.setting.accepts level.setting.view)
        (sym seen.met)
        (first_seen facts acting.homes acting.entries c.store c.table p
        (acting.entries p) w a.display level.setting level.setting.block level.setting.view seen.others level.setting.accepts level.setting.meetings
        (subst (λ (t : Trial). SeesThrough facts acting.homes acting.entries c.store c.table p (acting.entries p) w a.display level.setting
        (own_block t level.setting.block) (own_view t level.setting.view) seen.others
        (own_accepts t level.setting.accepts) level.setting.meetings) own seen.sees))

    abbrev pub hand : (b : Block) → IsBeside level.setting level.setting.block b → IsAtHand outer acting.homes acting.entries c.store b w
    hand b beside = record { keeps = seen_here.keeps; display = a.display; chain = seen_here.chain; sees = seen_here.sees b beside }

    pub shows : (b : Block) → IsBeside level.setting level.setting.block b → ShowsAround g b a.display
    shows b beside = (subst (λ (t : Trial). (c : Block) → IsBeside level.setting (own_block t level.setting.block) c
        → ShowsAround g c a.display) own acting.actor.stands.seen.around) b beside
