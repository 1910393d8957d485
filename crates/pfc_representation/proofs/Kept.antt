-- The clause of a process that is left alone, and what its activations keep.
use Rattle.std.proofs.Common.{◌≡◌, ℕ, ◌==◌, ◌≤◌, ℤ, true, false, List, [], ◌∷◌, ◌++◌, length, slice_get, get_or, All, Bool, Option, Some, refl, sym, ap}
use Rattle.std.proofs.Common.{◌∙◌, subst, arith, inl, inr}
use Rattle.pfc_types.specs.declared.types.TypeId.{TypeId}
use Rattle.pfc_types.specs.declared.scope.Meaning.{Meaning}
use Rattle.pfc_types.specs.declared.scope.Meaning.TheVariants.{Variable, Process}
use Rattle.pfc_state.specs.Stands.{Stand, is_unfinished}
use Rattle.pfc_world.specs.Tables.{Table, at}
use Rattle.pfc_semantics.specs.Displays.{Display}
use Rattle.pfc_semantics.specs.Layouts.{Layout}
use Rattle.pfc_semantics.specs.Programs.{Block, Program}
use Rattle.pfc_semantics.specs.Rewriting.{Doing}
use Rattle.pfc_semantics.specs.Values.{Value, Location, ordinal, compound, points}
use Rattle.pfc_semantics.specs.Store.{Store}
use Rattle.pfc_semantics.specs.Configurations.{Mark, plain, of_monitor, of_resource, Hand, empty_hand, offering, asking, barred_at, Activation, Activity}
use Rattle.pfc_stacks.specs.declared.refs.Ref.{Ref}
use Rattle.pfc_stacks.specs.Refs.{word_of}
use Rattle.pfc_stacks.specs.Stacks.{Stacks, stack_of, last_activation}
use Rattle.pfc_cells.specs.Homes.{Home, Homes, Lies}
use Rattle.pfc_cells.specs.Memory.{Entry, Entries, IsAmong, Refers, to_nothing, to_location, IsHeld, AreCells}
use Rattle.pfc_machines.specs.Communications.{Communicating}
use Rattle.pfc_machines.specs.declared.descriptors.Descriptor.{Descriptor}
use Rattle.pfc_machines.specs.Quiet.{tried_in}
use Rattle.pfc_standing_code.specs.Settings.{View, Trial, Setting, Attempt, of_own, of_turn, of_another}
use Rattle.pfc_standing_code.specs.Performs.{own_view, own_accepts}
use Rattle.pfc_views.specs.Views.{Sees}
use Rattle.pfc_views.specs.Keeping.{IsLike}
use Rattle.pfc_views.proofs.Kept.{sees_still}
use Rattle.pfc_representation.specs.Levels.{Facts, program_in, LivingLevel, block_of, is_met_by, MayKeep, of_main, of_own as of_own_stack, lent, SeesWith}
use Rattle.pfc_representation.specs.Levels.{SeesThrough, IsSeenBy}
use Rattle.pfc_representation.specs.Rooms.{own_address}
use Rattle.pfc_representation.specs.Callers.{Linkage, StandsFor, IsFirst, IsCalled, IsWithin, AreCallers}
use Rattle.pfc_representation.specs.Hands.{AreKept, HandIs}
use Rattle.pfc_representation.specs.Holding.{Holders, waits_for_monitor, HoldsFor, HoldsScanned, Holds}
use Rattle.pfc_representation.specs.Trials.{TriesAnother, TrialIs}
use Rattle.pfc_representation.specs.Processes.{IsAtLevel, IsUnderWay, ActivationsAre, RepresentsProcess}
use Rattle.pfc_representation.specs.Keeping.{IsLender, meets, meets_lender, IsLeftAlone}

module _ (table table' : Table) (entries entries' : Entries) where
  -- what a process may keep, it may keep still where its lenders are as they were
  pub may_keep : (p : ℕ) (lenders : List ℕ) (mine : List Entry) (a : ℕ) → MayKeep table entries p lenders mine a → ((r : ℕ) → IsLender table p r →
      (at table'.rows r ≡ at table.rows r) × (entries' r ≡ entries r)) → MayKeep table' entries' p lenders mine a
  may_keep _ _ _ _ (of_main p lenders mine) same = of_main p lenders mine
  may_keep _ _ _ _ (of_own_stack p lenders mine a among) same = of_own_stack p lenders mine a among
  may_keep _ _ _ _ (lent p lenders mine a k q others there met inner) same =
      let as_was = same q (meets p q met) in
      let still : MayKeep table' entries' q others (entries q) a = may_keep q others (entries q) a inner (λ r lender. same r
      (meets_lender p q r met lender)) in
      lent p lenders mine a k q others there (subst (λ (s : Stand). is_met_by s p) (sym as_was.0) met)
      (subst (λ (es : List Entry). MayKeep table' entries' q others es a) (sym as_was.1) still)

  -- what is kept by some activations, more may keep
  pub whole : (p : ℕ) (lenders : List ℕ) (mine more : List Entry) (a : ℕ) → ((b : ℕ) → IsAmong b mine → IsAmong b more)
      → MayKeep table entries p lenders mine a → MayKeep table entries p lenders more a
  whole _ _ _ more _ within (of_main p lenders mine) = of_main p lenders more
  whole _ _ _ more _ within (of_own_stack p lenders mine a among) = of_own_stack p lenders more a (within a among)
  whole _ _ _ more _ within (lent p lenders mine a k q others there met inner) = lent p lenders more a k q others there met inner

all_met : (table table' : Table) (p : ℕ) (callers : List ℕ) → ((r : ℕ) → is_met_by (at table.rows r) p → is_met_by (at table'.rows r) p) → All
    (λ (q : ℕ). is_met_by (at table.rows q) p) callers → All (λ (q : ℕ). is_met_by (at table'.rows q) p) callers
all_met table table' p callers f h = λ k d below. f (get_or callers k d) (h k d below)

same_number : (n : ℕ) → (n == n) ≡ true
same_number n = grind arith

number_is : (n m : ℕ) → (n == m) ≡ true → n ≡ m
number_is n m h = grind (arith, h)

-- ## The activations from one on, which end no sooner than it

module _ (facts : Facts) (q : ℕ) (homes homes' : Homes) (entries entries' : Entries) (store store' : Store) (table table' : Table) (top : List Entry)
    (at_home : (a : ℕ) (home : Home) → homes a ≡ Some home → homes' a ≡ Some home)
    (like : (keeps : ℕ → Bool) → ((a : ℕ) → keeps a ≡ true → (lenders : List ℕ) × MayKeep table entries q lenders top a)
    → IsLike (program_in facts) keeps homes homes' entries entries' store store')
    (lenders_stay : (r : ℕ) → IsLender table q r → (at table'.rows r ≡ at table.rows r) × (entries' r ≡ entries r)) where
  pub with_still : (lenders : List ℕ) (mine : List Entry) (w : ℤ) (display : Display) (setting : Setting) (b : Block) (accepts : List ℕ) (view : View)
      → ((n : ℕ) → IsAmong n mine → IsAmong n top) → SeesWith facts homes entries store table q lenders mine w display setting b accepts view
      → SeesWith facts homes' entries' store' table' q lenders mine w display setting b accepts view
  with_still lenders mine w display setting b accepts view within is =
      let alike = like is.keeps (λ a kept. (lenders, whole table table' entries entries' q lenders mine top a within (is.keeps_these a kept))) in
      record {
        keeps = is.keeps;
        chain = is.chain;
        sees = λ c beside. sees_still (program_in facts) is.keeps homes homes' entries entries' store store' alike display c accepts w is.chain view
            (is.sees c beside);
        keeps_these = λ a kept. may_keep table table' entries entries' q lenders mine a (is.keeps_these a kept) lenders_stay;
      }

  pub through_still : (mine : List Entry) (w : ℤ) (display : Display) (setting : Setting) (b : Block) (view : View) (others accepts meetings : List ℕ)
      → ((n : ℕ) → IsAmong n mine → IsAmong n top) → SeesThrough facts homes entries store table q mine w display setting b view others accepts meetings
      → SeesThrough facts homes' entries' store' table' q mine w display setting b view others accepts meetings
  through_still mine w display setting b view others [] [] within is = with_still others mine w display setting b [] view within is
  through_still mine w display setting b view others (i ∷ accepts) (r ∷ meetings) within is = (
    with_still (r ∷ meetings ++ others) mine w display setting b (i ∷ accepts) view within is.0,
    through_still mine w display setting b view others accepts meetings within is.1,
  )
  through_still mine w display setting b view others [] (r ∷ meetings) within is = absurd is
  through_still mine w display setting b view others (i ∷ accepts) [] within is = absurd is

  pub seen_still : (callers : List ℕ) (mine : List Entry) (w : ℤ) (display : Display) (level : LivingLevel) → ((b : ℕ) → IsAmong b mine → IsAmong b top)
      → IsSeenBy facts homes entries store table q callers mine w display level → IsSeenBy facts homes' entries' store' table' q callers mine w display level
  seen_still callers mine w display level within is = record {
    others = is.others;
    met = is.met;
    sees =
        through_still mine w display level.setting (block_of level) (own_view level.setting.trial level.setting.view) is.others
        (own_accepts level.setting.trial level.setting.accepts) level.setting.meetings within is.sees;
    around = is.around;
  }

  pub activation_still : (a : Activation) (e : Entry) (w : ℤ) (own : Linkage) (level : LivingLevel) → IsAmong e.activation top
      → StandsFor facts homes store q a e w own level → StandsFor facts homes' store' q a e w own level
  activation_still a e w own level among h =
      let mine : IsAmong a.number top = subst (λ (n : ℕ). IsAmong n top) h.number among in
      let alike = like (λ n. n == a.number) (λ n is. ([], of_own_stack q [] top n (subst (λ (m : ℕ). IsAmong m top) (sym (number_is n a.number is)) mine))) in
      record {
        number = h.number;
        home = h.home;
        at = at_home a.number h.home h.at;
        process = h.process;
        scope = h.scope;
        block = h.block;
        word = h.word;
        cells = h.cells;
        words = h.words;
        mark = h.mark;
        link = h.link;
        under = h.under;
        code = h.code;
        is = h.is;
        of_block = h.of_block;
        last = h.last;
        setting = h.setting;
        laid = h.laid;
        apart = λ k t l laid holds. h.apart k t l laid (sym (alike.references a.number k h.home t (same_number a.number) h.at (ap
            (λ (x : Layout). slice_get x k) h.laid ∙ laid)) ∙ holds);
        guarded = h.guarded;
        accepts = h.accepts;
      }

  pub first_still : (room : ℕ) (level : LivingLevel) (w : ℤ) (latest : Communicating) (a : Activation) (e : Entry) → IsAmong e.activation top
      → IsFirst facts homes store q room level w latest a e → IsFirst facts homes' store' q room level w latest a e
  first_still room level w latest a e among is = record {
    own = is.own;
    stands = activation_still a e w is.own level among is.stands;
    fits = is.fits;
    made = is.made;
    block = is.block;
    number = is.number;
    waits = is.waits;
    mark = is.mark;
    under = is.under;
    caller = is.caller;
    link = is.link;
  }

  pub called_still : (room depth : ℕ) (level : LivingLevel) (w : ℤ) (latest : Communicating) (a b : Activation) (e : Entry) (below : List Entry)
      (outer : LivingLevel) (v : ℤ) (earlier : Communicating)
      → IsAmong e.activation top → ((n : ℕ) → IsAmong n below → IsAmong n top)
      → IsCalled facts homes entries store table q room depth level w latest a b e below outer v earlier
      → IsCalled facts homes' entries' store' table' q room depth level w latest a b e below outer v earlier
  called_still room depth level w latest a b e below outer v earlier among within is = record {
    own = is.own;
    stands = activation_still a e w is.own level among is.stands;
    fits = is.fits;
    made = is.made;
    home = is.home;
    at = at_home b.number is.home is.at;
    word = is.word;
    caller = is.caller;
    trial = is.trial;
    seen = seen_still earlier.callers below v a.display outer within is.seen;
    back = is.back;
    accepts = is.accepts;
  }

  pub callers_still : (room : ℕ) (level : LivingLevel) (w : ℤ) (latest : Communicating) (xs : List Activation) (es : List Entry) → ((b : ℕ)
      → IsAmong b es → IsAmong b top)
      → AreCallers facts homes entries store table q room level w latest xs es → AreCallers facts homes' entries' store' table' q room level w latest xs es
  unfolding called_still
  callers_still room level w latest [] es within h = absurd h
  callers_still room level w latest (a ∷ xs) [] within h = absurd h
  callers_still room level w latest (a ∷ []) (e ∷ []) within h = first_still room level w latest a e (within e.activation (inl refl)) h
  callers_still room level w latest (a ∷ []) (e ∷ f ∷ es) within h = absurd h
  callers_still room level w latest (a ∷ b ∷ xs) (e ∷ []) within h = absurd h
  callers_still room level w latest (a ∷ b ∷ xs) (e ∷ f ∷ es) within (outer, v, earlier, called, at, others) = (
    outer,
    v,
    earlier,
    called_still room (length (a ∷ b ∷ xs)) level w latest a b e (f ∷ es) outer v earlier (within e.activation (inl refl)) (λ n among. within n
        (inr among)) called,
    at,
    callers_still room outer v earlier (b ∷ xs) (f ∷ es) (λ n among. within n (inr among)) others,
  )

-- ## All that there is of a process

module _ (facts : Facts) (q : ℕ) (d : Descriptor) (homes homes' : Homes) (entries entries' : Entries) (store store' : Store) (stacks stacks' : Stacks)
    (table table' : Table) (h h' : Holders)
    (alone : IsLeftAlone facts q d homes homes' entries entries' store store' stacks stacks' table table' h h') where
  abbrev g : Program
  g = program_in facts

  as_kept : (keeps : ℕ → Bool) → ((a : ℕ) → keeps a ≡ true → (lenders : List ℕ) × MayKeep table entries q lenders (entries q) a)
      → IsLike g keeps homes homes' entries entries' store store'
  as_kept keeps these = alone.untouched.like keeps these

  -- ## Cells

  lies_still : (l : Location) (t : Option TypeId) (r : Ref) → Lies g homes l t r → Lies g homes' l t r
  lies_still l t r h =
      let is = h.is in
      record {
        home = h.home;
        behind = h.behind;
        is = record {
          at = alone.at_home l.activation h.home is.at;
          meaning = is.meaning;
          laid = is.laid;
          variable =
              is.variable;
          own = is.own;
          path = is.path;
        };
        place = h.place;
      }

  refers_still : (t : TypeId) (v : Value) (w : ℤ) → Refers g homes t v w → Refers g homes' t v w
  refers_still t v _ (to_nothing _ none) = to_nothing v none
  refers_still t _ _ (to_location l r lies) = to_location l r (lies_still l (Some t) r lies)

  held_still : (m : Meaning) (v : Value) (words : List ℤ) → IsHeld g homes m v words → IsHeld g homes' m v words
  held_still (Variable t false) v words h = h
  held_still (Variable t true) v words h = (h.0, h.1, refers_still t v h.0 h.2)
  held_still (Process n) v words h = h
  held_still m v words h = absurd h

  cells_still : (layout : Layout) (values : List Value) (cells : List ℤ) → AreCells g homes layout values cells → AreCells g homes' layout values cells
  cells_still [] [] cells h = h
  cells_still [] (v ∷ values) cells h = absurd h
  cells_still (m ∷ layout) [] cells h = absurd h
  cells_still (m ∷ layout) (v ∷ values) cells h = (h.0, h.1, h.2, held_still m v h.0 h.3, cells_still layout values h.1 h.4)

  -- ## What is shown, and what is tried

  kept_still : (lenders : List ℕ) (values : List Value) → AreKept table entries q lenders values → AreKept table' entries' q lenders values
  kept_still lenders [] h = tt
  kept_still lenders (points l ∷ values) h = (
    subst (λ (es : List Entry). MayKeep table' entries' q lenders es l.activation) (sym alone.untouched.entries_same)
        (may_keep table table' entries entries' q lenders (entries q) l.activation h.0 alone.untouched.lenders),
    kept_still lenders values h.1,
  )
  kept_still lenders (ordinal n ∷ values) h = kept_still lenders values h
  kept_still lenders (compound vs ∷ values) h = kept_still lenders values h

  hand_still : (level : LivingLevel) (at : ℕ) (ops : List ℤ) (stand : Stand) (doing : Doing) (hand : Hand)
      → HandIs facts homes table entries q level at ops d stand doing hand → HandIs facts homes' table' entries' q level at ops d stand doing hand
  hand_still level at ops stand doing empty_hand h = h
  hand_still level at ops stand doing (offering x os k) h = h
  hand_still level at ops stand doing (asking values) h =
      let is = h.1 in (
        h.0,
        record {
          own = is.own;
          owner = is.owner;
          entry = is.entry;
          ticket = is.ticket;
          waits = is.waits;
          words = is.words;
          number = is.number;
          below = is.below;
          operands = is.operands;
          hold = cells_still _ values is.words is.hold;
          kept = kept_still d.communications.callers values is.kept;
          behind = is.behind;
        },
      )
  hand_still level at ops stand doing (barred_at bar) h = h

  another_still : (level : LivingLevel) (attempt : Attempt) (xs : List Activation)
      → TriesAnother facts homes entries store stacks table q level attempt xs d
      → TriesAnother facts homes' entries' store' stacks' table' q level attempt xs d
  another_still level attempt xs is =
      let r : ℕ = attempt.whom.process in
      let still = alone.tried r (ap tried_in is.scan) in
      let place : last_activation stacks' r ≡ last_activation stacks r = ap (λ n. record { process = r; cell = n }) still.stack.base in
      let old = is.sees in
      let like = still.like old.keeps (λ a kept. (is.lenders, old.keeps_these a kept)) in
      let setting = level.setting in
      record {
        from = alone.untouched.stack.looks_from ∙ is.from;
        barred = still.row ∙ is.barred;
        procedure = is.procedure;
        turn = is.turn;
        scan = is.scan;
        way = is.way;
        room = is.room;
        lenders = is.lenders;
        display = is.display;
        sees = record {
          keeps = old.keeps;
          chain = old.chain;
          sees = λ c beside. subst (λ (x : Ref). Sees g homes' entries' store' old.keeps is.display c setting.accepts
              (word_of x) old.chain setting.view) (sym place)
              (sees_still g old.keeps homes homes' entries entries' store store' like is.display c setting.accepts (word_of
              (last_activation stacks r)) old.chain setting.view (old.sees c beside));
          keeps_these = λ a kept. subst (λ (es : List Entry). MayKeep table' entries' r is.lenders es a) (sym still.entries_same)
              (may_keep table table' entries entries' r is.lenders (entries r) a (old.keeps_these a kept) still.lenders);
        };
        around = is.around;
      }

  trial_still : (trial : Trial) (level : LivingLevel) (xs : List Activation) → TrialIs trial facts homes entries store stacks table q level xs d
      → TrialIs trial facts homes' entries' store' stacks' table' q level xs d
  trial_still of_own level xs is = (alone.untouched.stack.looks_from ∙ is.0, is.1)
  trial_still (of_turn scan back) level xs is = (alone.untouched.stack.looks_from ∙ is.0, is.1, is.2)
  trial_still (of_another attempt) level xs is = another_still level attempt xs is

  -- ## What is held

  mark_still : (stand : Stand) (mark : Mark) → HoldsFor h q stand mark → HoldsFor h' q stand mark
  mark_still stand plain is = tt
  mark_still stand (of_monitor n) (inl held) = inl (alone.holds.monitors n held)
  mark_still stand (of_monitor n) (inr waits) = inr (ap (λ (owners : List ℕ). waits_for_monitor owners n stand) alone.holds.owners ∙ waits)
  mark_still stand (of_resource n) (inl held) = inl (alone.holds.resources n held)
  mark_still stand (of_resource n) (inr waits) = inr waits

  scanned_still : (trial : Trial) → HoldsScanned h q trial → HoldsScanned h' q trial
  scanned_still of_own is = tt
  scanned_still (of_turn scan back) is = alone.holds.resources scan.resource is
  scanned_still (of_another attempt) is = alone.holds.resources attempt.scan.resource is

  entered_still : (stand : Stand) (xs : List Activation) → All (λ (a : Activation). HoldsFor h q stand a.mark) xs → All
      (λ (a : Activation). HoldsFor h' q stand a.mark) xs
  entered_still stand xs is = λ k x below. mark_still stand (get_or xs k x).mark (is k x below)

  holds_still : (trial : Trial) (xs : List Activation) → Holds h q (at table.rows q) trial xs → Holds h' q (at table'.rows q) trial xs
  holds_still trial xs is =
      subst (λ (stand : Stand). Holds h' q stand trial xs) (sym alone.untouched.row)
      (record { entered = entered_still (at table.rows q) xs is.entered; scanned = scanned_still trial is.scanned })

  -- ## All of it

  level_still : (a : Activity) (level : LivingLevel) → IsAtLevel facts homes entries store stacks table h q a d level
      → IsAtLevel facts homes' entries' store' stacks' table' h' q a d level
  level_still a level is =
      let place : last_activation stacks' q ≡ last_activation stacks q = ap (λ n. record { process = q; cell = n }) alone.untouched.stack.base in
      let w : ℤ = word_of (last_activation stacks q) in
      let room : ℕ = (stack_of stacks q).room in
      let seen = seen_still facts q homes homes' entries entries' store store' table table'
      (entries q) alone.at_home as_kept alone.untouched.lenders d.communications.callers (entries q) w a.display level (λ b among. among) is.seen in
      let callers = callers_still facts q homes homes' entries entries' store store' table table'
      (entries q) alone.at_home as_kept alone.untouched.lenders room level w d.communications a.activations (entries q) (λ b among. among) is.callers in
      record {
        count = is.count;
        seen = subst (λ (es : List Entry). IsSeenBy facts homes' entries' store' table' q d.communications.callers es (word_of
            (last_activation stacks' q)) a.display level) (sym alone.untouched.entries_same)
            (subst (λ (x : Ref). IsSeenBy facts homes' entries' store' table' q d.communications.callers (entries q) (word_of x) a.display level)
            (sym place) seen);
        callers = subst (λ (es : List Entry). AreCallers facts homes' entries' store' table' q (stack_of stacks' q).room level (word_of
            (last_activation stacks' q)) d.communications a.activations es) (sym alone.untouched.entries_same)
            (subst (λ n. AreCallers facts homes' entries' store' table' q n level (word_of (last_activation stacks' q)) d.communications a.activations
            (entries q)) (sym alone.untouched.stack.room)
            (subst (λ (x : Ref). AreCallers facts homes' entries' store' table' q room level (word_of x) d.communications a.activations (entries q))
            (sym place) callers));
        room = subst (λ n. level.setting.room ≤ n) (sym alone.untouched.stack.room) is.room;
        accepts = is.accepts;
        met = record {
          waiting = all_met table table' q d.communications.callers (λ r met. subst (λ (s : Stand). is_met_by s q) (sym (alone.untouched.lenders r
              (meets q r met)).0) met) is.met.waiting;
          once = is.met.once;
        };
        holds = holds_still level.setting.trial a.activations is.holds;
      }

  under_way_still : (a : Activity) → IsUnderWay facts homes entries store stacks table h q a d
      → IsUnderWay facts homes' entries' store' stacks' table' h' q a d
  under_way_still a is =
      let level : LivingLevel = is.level in
      let hand = hand_still level (stack_of stacks q).at (stack_of stacks q).operands (at table.rows q) a.doing a.hand is.hand in
      record {
        unfinished = ap is_unfinished alone.untouched.row ∙ is.unfinished;
        level = level;
        stands = level_still a level is.stands;
        within = subst (λ n. IsWithin facts level (own_address level.setting.trial n) d.communications) (sym alone.untouched.stack.at) is.within;
        hand = subst (λ n. HandIs facts homes' table' entries' q level n (stack_of stacks' q).operands d (at table'.rows q) a.doing a.hand)
            (sym alone.untouched.stack.at)
            (subst (λ (ops : List ℤ). HandIs facts homes' table' entries' q level (stack_of stacks q).at ops d (at table'.rows q) a.doing a.hand)
            (sym alone.untouched.stack.operands)
            (subst (λ (x : Stand). HandIs facts homes' table' entries' q level (stack_of stacks q).at (stack_of stacks q).operands d x a.doing a.hand)
            (sym alone.untouched.row) hand));
        trial = trial_still level.setting.trial level a.activations is.trial;
      }

  activations_still : (xs : List Activation) (a : Activity) → ActivationsAre xs facts homes entries store stacks table h q a d
      → ActivationsAre xs facts homes' entries' store' stacks' table' h' q a d
  activations_still [] a is = record {
    none = alone.untouched.entries_same ∙ is.none;
    scan = is.scan;
    finished = ap is_unfinished alone.untouched.row
        ∙ is.finished;
  }
  activations_still (x ∷ xs) a is = under_way_still a is

  pub process_still : (a : Activity) → RepresentsProcess facts homes entries store stacks table h q a d
      → RepresentsProcess facts homes' entries' store' stacks' table' h' q a d
  process_still a is = record {
    line = is.line;
    spare = alone.untouched.stack.spare
        ∙ is.spare;
    activations = activations_still a.activations a is.activations;
  }
