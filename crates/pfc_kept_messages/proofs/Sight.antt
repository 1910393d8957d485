-- What a process has in sight at its level, where it is in no scan: channels, and variables that take a message.
use Rattle.std.proofs.Common.{◌≡◌, ℕ, ◌+◌, ◌%◌, ◌^◌, ◌<◌, ℤ, pos, Bool, true, ◌||◌, List, [], ◌∷◌, ◌++◌, length, take, drop, set, Option, Some, sym, ap, ◌∙◌}
use Rattle.std.proofs.Common.{subst, arith, take-append-drop, append-nil}
use Rattle.std.specs.Prelude.{unsigned_abs}
use Rattle.std.proofs.lemmas.List.{set-get_or}
use Rattle.pfc_types.specs.Types.{Forms, semaphore, condition, form_of, cells_in, is_same}
use Rattle.pfc_types.specs.declared.types.TypeId.{TypeId}
use Rattle.pfc_types.specs.declared.types.TypeForm.{TypeForm}
use Rattle.pfc_types.specs.declared.types.TypeForm.TheVariants.{Channel}
use Rattle.pfc_semantics.specs.Values.{Value, Location, ordinal, ordinal_of}
use Rattle.pfc_semantics.specs.Displays.{Spot, Display}
use Rattle.pfc_semantics.specs.Programs.{Block, Program}
use Rattle.pfc_semantics.specs.Remainders.{Context}
use Rattle.pfc_semantics.specs.Store.{Store, value_at, stored}
use Rattle.pfc_semantics.specs.Configurations.{Activation, Config, activity_of, location_for, number_for}
use Rattle.pfc_stacks.specs.declared.refs.Ref.{Ref}
use Rattle.pfc_stacks.specs.Refs.{word_of, ref_of, number_of}
use Rattle.pfc_stacks.specs.Conditions.{AreLive}
use Rattle.pfc_stacks.specs.Stacks.{Stack, Stacks, no_stack, stack_of, last_activation, with_words, written}
use Rattle.pfc_cells.specs.Shapes.{words_of}
use Rattle.pfc_cells.specs.Homes.{Homes, Lies}
use Rattle.pfc_cells.specs.Memory.{Entry, Entries, Lives, MemoryIs}
use Rattle.pfc_cells.proofs.Reading.{are_live, there as inside_stacks}
use Rattle.pfc_cells.proofs.Words.{words_fit}
use Rattle.pfc_machines.specs.declared.machine.Machine.{Machine}
use Rattle.pfc_machines.specs.declared.descriptors.Descriptor.{Descriptor}
use Rattle.pfc_standing_code.specs.Shapes.{shape_of, shape_cells, IsOf, is_object_type, has_object_form}
use Rattle.pfc_standing_code.specs.Settings.{Trial, Setting, of_own, site_of}
use Rattle.pfc_standing_code.specs.Performs.{own_view, own_accepts, own_block}
use Rattle.pfc_standing_code.specs.TypedStatements.{IsChannel}
use Rattle.pfc_standing_code.specs.Words.{IsWord, IsObject, IsChecked}
use Rattle.pfc_stack_laws.specs.Standing.{AreTypes, HoldStore}
use Rattle.pfc_stack_laws.proofs.Moves.{hold_written}
use Rattle.pfc_stack_laws.proofs.Objects.{address_back}
use Rattle.pfc_stack_laws.proofs.Plain.{plain_cells, value_fits}
use Rattle.pfc_views.specs.Views.{Sees, LiesAt, AreObjects, AreFew}
use Rattle.pfc_views.specs.Keeping.{IsLike}
use Rattle.pfc_views.proofs.Named.{lies_in_view}
use Rattle.pfc_views.proofs.Changes as changes
use Rattle.pfc_representation.specs.Levels.{Facts, program_in, LivingLevel, HasSetting, SeesThrough}
use Rattle.pfc_machines.specs.Communications.{Communicating}
use Rattle.pfc_world.specs.Tables.{Table}
use Rattle.pfc_representation.specs.Callers.{AreCallers}
use Rattle.pfc_representation.specs.Holding.{holders_in}
use Rattle.pfc_representation.specs.Machines.{AreAlike}
use Rattle.pfc_representation.specs.Processes.{IsAtLevel}
use Rattle.pfc_kept_own_actions.proofs.Arrived.{first_seen}

number_back : (n : ℕ) → n < 2 ^ 32 → number_of (pos n) ≡ n
number_back n few = (let all : n % 2 ^ 32 ≡ n = omega (arith, few) in all)

-- the setting of a level is one of the image
setting_of : (facts : Facts) (homes : Homes) (entries : Entries) (store : Store) (table : Table) (p room : ℕ) (level : LivingLevel) (w : ℤ)
    (latest : Communicating) (xs : List Activation) (es : List Entry) → AreCallers facts homes entries store table p room level w latest xs es
    → HasSetting facts level
setting_of facts homes entries store table p room level w latest [] es is = absurd is
setting_of facts homes entries store table p room level w latest (a ∷ xs) [] is = absurd is
setting_of facts homes entries store table p room level w latest (a ∷ []) (e ∷ []) is = is.stands.setting
setting_of facts homes entries store table p room level w latest (a ∷ []) (e ∷ f ∷ es) is = absurd is
setting_of facts homes entries store table p room level w latest (a ∷ b ∷ xs) (e ∷ []) is = absurd is
setting_of facts homes entries store table p room level w latest (a ∷ b ∷ xs) (e ∷ f ∷ es) (outer, v, earlier, called, within, others) = called.stands.setting

-- ## Words that are written somewhere, or none

nothing_put : (cells : List ℤ) (k : ℕ) → with_words cells k [] ≡ cells
nothing_put cells k =
    ap (λ (xs : List ℤ). xs ++ drop (k + 0) cells) (append-nil (take k cells)) ∙ ap (λ n. take k cells ++ drop n cells) (let h : k + 0 ≡ k = grind arith in h)
    ∙ take-append-drop k cells

pub nothing_written : (stacks : Stacks) (r : Ref) → written stacks r [] ≡ stacks
nothing_written stacks r =
    let s : Stack = stack_of stacks r.process in
    ap (λ (cells : List ℤ). set stacks r.process (record s { cells = cells })) (nothing_put s.cells r.cell) ∙ set-get_or stacks r.process no_stack

-- the stacks hold the store still, of which only variables have changed
pub record StillHolds (facts : Facts) (homes : Homes) (entries : Entries) (store store' : Store) (stacks' : Stacks) : Type 0 where
  pub memory : MemoryIs (program_in facts) homes entries store' stacks'
  pub few : AreFew stacks'
  pub objects : AreObjects (program_in facts) homes entries store' facts.number
  pub like : (keeps : ℕ → Bool) → IsLike (program_in facts) keeps homes homes entries entries store store'

or_true : (b : Bool) → (b || true) ≡ true
or_true b = grind arith

channel_object : (forms : Forms) (t : TypeId) (u : TypeId) → form_of forms t ≡ Some (Channel u) → is_object_type forms (Some t) ≡ true
channel_object forms t u is =
    ap (λ (o : Option TypeForm). (is_same t semaphore || is_same t condition) || has_object_form o) is ∙ or_true (is_same t semaphore || is_same t condition)

-- a channel lies there, of this number, which carries messages of this type
pub record IsChannelAt (facts : Facts) (homes : Homes) (c : Config) (l : Location) (u : TypeId) (k : ℕ) : Type 0 where
  pub channel : TypeId
  pub place : Ref
  pub lies : Lies (program_in facts) homes l (Some channel) place
  pub form : form_of (program_in facts).state.forms channel ≡ Some (Channel u)
  pub value : value_at c.store l ≡ ordinal (pos k)

-- one channel carries messages of one type
pub one_type : (facts : Facts) (m : Machine) (c : Config) (homes : Homes) (entries : Entries) → AreAlike facts homes entries m c
    → (l l' : Location) (u u' : TypeId) (k k' : ℕ)
    → IsChannelAt facts homes c l u k → IsChannelAt facts homes c l' u' k' → k ≡ k' → u ≡ u'
one_type facts m c homes entries alike l l' u u' k k' here there same =
    alike.kinds.channels l l' here.channel there.channel u u' here.place there.place here.lies there.lies here.form there.form
    (here.value ∙ ap (λ n. ordinal (pos n)) same ∙ sym there.value)

module _ (facts : Facts) (m : Machine) (c : Config) (homes : Homes) (entries : Entries) (alike : AreAlike facts homes entries m c) (q : ℕ) (d : Descriptor)
    (level : LivingLevel)
    (stands : IsAtLevel facts homes entries c.store m.stacks c.table (holders_in facts c) q (activity_of (program_in facts) c q) d level)
    (own : level.setting.trial ≡ of_own) where
  abbrev g : Setting
  g = level.setting

  abbrev display : Display
  display = (activity_of (program_in facts) c q).display

  abbrev w : ℤ
  w = word_of (last_activation m.stacks q)

  has_setting : HasSetting facts level
  has_setting =
      setting_of facts homes entries c.store c.table q (stack_of m.stacks q).room level w d.communications (activity_of (program_in facts) c q).activations
      (entries q) stands.callers

  pub same_program : g.program ≡ program_in facts
  same_program = has_setting.image.program

  hold_store : HoldStore g homes entries c.store m.stacks
  hold_store =
      let old = alike.holds in
      record {
        types = subst (λ (y : Program). AreTypes y.state.forms) (sym same_program) alike.program.types;
        memory = subst (λ (y : Program). MemoryIs y homes entries c.store m.stacks) (sym same_program) old.memory;
        few = old.few;
        objects =
            subst (λ (y : Program). AreObjects y homes entries c.store g.number) (sym same_program)
            (subst (λ (f : ℤ → Option ℤ). AreObjects (program_in facts) homes entries c.store f) (sym has_setting.number) old.objects);
      }

  -- ## Variables

  -- the variable that a spot names lies where this word leads, in an activation that lives
  pub record IsInSight (v : Spot) (t : Option TypeId) (word : ℤ) : Type 0 where
    pub place : Ref
    pub lies : Lies g.program homes (location_for (program_in facts) c q v) t place
    pub word_is : word ≡ word_of place
    pub lives : Lives entries (location_for (program_in facts) c q v).activation

  in_sight : (b : Block) (x : Context) (v : Spot) (t : Option TypeId) (word : ℤ) → IsChecked g b x.env → IsWord g.view (site_of g b x) v t word
      → IsInSight v t word
  in_sight b x v t word checked is =
      let seen = stands.seen in
      let plainly : SeesThrough facts homes entries c.store c.table q (entries q) w display g g.block g.view seen.others g.accepts g.meetings =
      subst (λ (y : Trial). SeesThrough facts homes entries c.store c.table q (entries q) w display g (own_block y g.block) (own_view y g.view) seen.others
      (own_accepts y g.accepts) g.meetings)
      own seen.sees in
      let first = first_seen facts homes entries c.store c.table q (entries q) w display g g.block g.view seen.others g.accepts g.meetings plainly in
      let sees : Sees g.program homes entries c.store first.1.keeps display b g.accepts w first.1.chain g.view =
      subst (λ (y : Program). Sees y homes entries c.store first.1.keeps display b g.accepts w first.1.chain g.view) (sym same_program)
      (first.1.sees b checked.beside) in
      let at : LiesAt g.program homes c.store first.1.keeps display v t word =
      lies_in_view g.program hold_store.types.counted homes entries c.store first.1.keeps display b g.accepts w first.1.chain g.view m.stacks hold_store.memory
      sees x.env x.line v t word
      checked.known is in
      record { place = at.place; lies = at.lies; word_is = at.word; lives = sees.live (location_for (program_in facts) c q v).activation at.kept }

  -- ## Channels

  -- Both sides have the same number for the channel that lies there, which carries messages of this type.
  pub record IsNumbered (v : Spot) (u : TypeId) (n : ℤ) : Type 0 where
    pub k : ℕ
    pub word : number_of n ≡ k
    pub spot : number_for (program_in facts) c q v ≡ k
    pub here : IsChannelAt facts homes c (location_for (program_in facts) c q v) u k

  less_than : (i j k : ℕ) → i < j → j < k → i < k
  less_than i j k h h' = grind (arith, h, h')

  pub channel_number : (b : Block) (x : Context) (v : Spot) (t : Option TypeId) (u : TypeId) (n : ℤ) → IsChecked g b x.env → IsChannel g.program.state.forms t u
      → IsObject g (site_of g b x) v t n → IsNumbered v u n
  channel_number b x v t u n checked channel (word, is, numbered) =
      let here : Location = location_for (program_in facts) c q v in
      let sight : IsInSight v (Some channel.channel) word =
      in_sight b x v (Some channel.channel) word checked (subst (λ (y : Option TypeId). IsWord g.view (site_of g b x) v y word) channel.typed is) in
      let object : is_object_type g.program.state.forms (Some channel.channel) ≡ true = channel_object g.program.state.forms channel.channel u channel.form in
      let known = hold_store.objects.known here (Some channel.channel) sight.place sight.lies object in
      let same : known.0 ≡ n = (let both : Some known.0 ≡ Some n = sym known.1 ∙ ap g.number (sym sight.word_is) ∙ numbered in cc) in
      let lies : Lies (program_in facts) homes here (Some channel.channel) sight.place =
      subst (λ (y : Program). Lies y homes here (Some channel.channel) sight.place) same_program sight.lies in
      let form : form_of (program_in facts).state.forms channel.channel ≡ Some (Channel u) =
      subst (λ (y : Program). form_of y.state.forms channel.channel ≡ Some (Channel u)) same_program channel.form in
      let kind = alike.kinds.channel_numbers here channel.channel u sight.place lies form in
      let is_pos : n ≡ pos kind.0 = sym same ∙ ap ordinal_of (sym known.2 ∙ kind.1) in
      record {
        k = kind.0;
        word = ap number_of is_pos ∙ number_back kind.0 (less_than kind.0 (program_in facts).objects.channels (2 ^ 32) kind.2 alike.program.numbered.channels);
        spot = ap (λ (y : Value). unsigned_abs (ordinal_of y)) kind.1;
        here = record { channel = channel.channel; place = sight.place; lies = lies; form = form; value = kind.1 };
      }

  -- ## A variable that takes a message

  pub record TakesMessage (v : Spot) (word : ℤ) (u : TypeId) : Type 0 where
    pub inside : (ref_of word).process < length m.stacks
    pub live : AreLive m.stacks (ref_of word) (shape_cells (program_in facts).state.forms (shape_of u))
    pub takes : (new : Value) → IsOf (program_in facts).state.forms u new
        → StillHolds facts homes entries c.store (stored c.store (location_for (program_in facts) c q v) new) (written m.stacks (ref_of word) (words_of new))

  pub takes_message : (b : Block) (x : Context) (v : Spot) (u : TypeId) (word : ℤ) → IsChecked g b x.env → IsWord g.view (site_of g b x) v (Some u) word
      → TakesMessage v word u
  takes_message b x v u word checked is =
      let here : Location = location_for (program_in facts) c q v in
      let sight : IsInSight v (Some u) word = in_sight b x v (Some u) word checked is in
      let ref : ref_of word ≡ sight.place = ap ref_of sight.word_is
      ∙ address_back g homes entries c.store m.stacks hold_store here (Some u) sight.place sight.lives sight.lies in
      let live : AreLive m.stacks sight.place (cells_in g.program.state.forms u) =
      are_live g.program hold_store.types.counted homes entries c.store m.stacks here (Some u) sight.place hold_store.memory sight.lives sight.lies in
      let size : shape_cells (program_in facts).state.forms (shape_of u) ≡ cells_in g.program.state.forms u =
      ap (λ (y : Program). shape_cells y.state.forms (shape_of u)) (sym same_program) ∙ plain_cells g.program.state.forms hold_store.types u in
      record {
        inside =
            subst (λ (r : Ref). r.process < length m.stacks) (sym ref)
            (inside_stacks g.program hold_store.types.counted homes entries c.store m.stacks here
            (Some u) sight.place hold_store.memory sight.lives sight.lies);
        live = subst (λ (r : Ref). AreLive m.stacks r (shape_cells (program_in facts).state.forms (shape_of u))) (sym ref)
            (subst (λ n. AreLive m.stacks sight.place n) (sym size) live);
        takes = λ new typed.
            let held : HoldStore g homes entries (stored c.store here new) (written m.stacks sight.place (words_of new)) =
            hold_written g homes entries c.store m.stacks hold_store here u sight.place new sight.lives sight.lies
            (subst (λ (y : Program). IsOf y.state.forms u new) (sym same_program) typed) in
            subst (λ (r : Ref). StillHolds facts homes entries c.store (stored c.store here new) (written m.stacks r (words_of new))) (sym ref)
            (record {
              memory = subst (λ (y : Program). MemoryIs y homes entries (stored c.store here new) (written m.stacks sight.place (words_of new))) same_program
                  held.memory;
              few = held.few;
              objects =
                  subst (λ (f : ℤ → Option ℤ). AreObjects (program_in facts) homes entries (stored c.store here new) f) has_setting.number
                  (subst (λ (y : Program). AreObjects y homes entries (stored c.store here new) g.number) same_program held.objects);
              like = λ keeps. changes.written (program_in facts) keeps homes entries c.store here (Some u) sight.place new
                  (subst (λ (y : Program). Lies y homes here (Some u) sight.place) same_program sight.lies);
            });
      }

  -- as many words as cells
  pub message_size : (u : TypeId) (v : Value) → IsOf (program_in facts).state.forms u v
      → length (words_of v) ≡ shape_cells (program_in facts).state.forms (shape_of u)
  message_size u v typed =
      let types : AreTypes (program_in facts).state.forms = alike.program.types in
      words_fit (program_in facts).state.forms types.counted (Some u) v (value_fits (program_in facts).state.forms types typed)
      ∙ sym (plain_cells (program_in facts).state.forms types u)
