-- A call of an entry that its owner waits to accept: the owner.
use Rattle.std.proofs.Common.{◌≡◌, ◌≢◌, ℕ, zero, suc, ◌<◌, ◌≤◌, ℤ, pos, true, List, [], ◌∷◌, ◌++◌, length, get_or, slice_get, Some, None, refl, sym, ap, ◌∙◌}
use Rattle.std.proofs.Common.{subst, arith, ◌⊎◌, inl, inr}
use Rattle.pfc_types.specs.declared.types.TypeId.{TypeId}
use Rattle.pfc_types.specs.declared.scope.Meaning.TheVariants.{Variable}
use Rattle.pfc_state.specs.Stands.{Stand, Is_ready, is_unfinished}
use Rattle.pfc_world.specs.Partners.{ticket_open_to}
use Rattle.pfc_world.specs.Tables.{Table, at}
use Rattle.pfc_world.specs.Transitions.{ticked}
use Rattle.pfc_semantics.specs.Values.{Value, Location, ordinal, points}
use Rattle.pfc_semantics.specs.Programs.{Program, Block}
use Rattle.pfc_semantics.specs.Remainders.{Context}
use Rattle.pfc_semantics.specs.Store.{Store, values_in}
use Rattle.pfc_semantics.specs.Configurations.{Activity, Config, activity_of, at_work, Activation}
use Rattle.pfc_translation.specs.Sites.{is_accept}
use Rattle.pfc_stacks.specs.declared.refs.Ref.{Ref}
use Rattle.pfc_stacks.specs.Stacks.{Stack, Stacks, stack_of, last_activation}
use Rattle.pfc_cells.specs.Memory.{AreCells, Entry}
use Rattle.pfc_machines.specs.declared.machine.Machine.{Machine}
use Rattle.pfc_machines.specs.declared.descriptors.Descriptor.{Descriptor}
use Rattle.pfc_machines.specs.Descriptors.{descriptor_of}
use Rattle.pfc_standing_code.specs.Settings.{of_own, View, Trial}
use Rattle.pfc_standing_code.specs.TypedStatements.{AcceptsEntry}
use Rattle.pfc_representation.specs.Levels.{Facts, program_in, LivingLevel, is_met_by, block_of, DoesOn, SeesThrough, IsSeenBy}
use Rattle.pfc_representation.specs.Hands.{laid_parameters, entry_formals, AreKept, shows_nothing}
use Rattle.pfc_representation.specs.Holding.{Holders, holders_in, Holds}
use Rattle.pfc_representation.specs.Keeping.{IsSameStack}
use Rattle.pfc_representation.specs.Processes.{RepresentsProcess, AreMet, IsAtLevel, IsUnderWay}
use Rattle.pfc_representation.specs.Acting.{IsActing}
use Rattle.pfc_kept_meetings.specs.Owners.{HasTypedEntries}
use Rattle.pfc_kept_meetings.specs.Accepts.{HasProcesses, KeepsAccepts}
use Rattle.pfc_kept_meetings.proofs.Apart.{AreApart}
use Rattle.pfc_kept_meetings.proofs.Untouched.{not_kept}
use Rattle.pfc_semantics.specs.Rewriting.{Doing, going}
use Rattle.pfc_stacks.specs.Refs.{word_of}
use Rattle.pfc_machines.specs.Communications.{Communicating}
use Rattle.pfc_standing_code.specs.Performs.{own_view, own_accepts, own_block}
use Rattle.pfc_representation.specs.Rooms.{own_address, LeadWithin, LeadsWithin, IsInBlock}
use Rattle.pfc_representation.specs.Callers.{IsWithin, IsFirst, AreCallers}
use Rattle.pfc_representation.specs.Trials.{TrialIs}
use Rattle.pfc_kept_messages.proofs.Waiting.{not_empty}
use Rattle.pfc_kept_meetings.proofs.Settled.{settled, beside_back, through_then, within_then, first_then, beside_then, one_more_own}
use Rattle.pfc_semantics.specs.Rendezvous.{meeting_of}
use Rattle.pfc_kept_meetings.proofs.Given.{may_lend}
use Rattle.pfc_kept_meetings.proofs.Few.{found_at}
use Rattle.std.specs.Prelude.{is_some}
use Rattle.pfc_state.specs.declared.waits.Arm.TheVariants.{Accept as Entered}
use Rattle.pfc_machines.specs.Offers.{without}
use Rattle.pfc_representation.specs.Alternatives.{none_made}
use Rattle.pfc_code.specs.declared.instructions.Instr.{Instr}
use Rattle.pfc_kept_own_actions.proofs.Within.{room_anywhere}
use Rattle.pfc_kept_messages.proofs.Made.{gone as gone_all}
use Rattle.pfc_kept_messages.proofs.Partner.{IsShowing}
use Rattle.pfc_kept_messages.proofs.Held.{holds_anew}
use Rattle.pfc_kept_meetings.specs.Waiting.{KeepsOffers}
use Rattle.pfc_semantics.specs.Remainders.{Accepting}
use Rattle.pfc_kept_meetings.proofs.Giving as giving
use Rattle.pfc_kept_meetings.proofs.Owner as owner
use Rattle.pfc_kept_messages.proofs.Finding as finding
use Rattle.pfc_kept_meetings.proofs.Waiting as waiting
use Rattle.pfc_kept_meetings.proofs.Begins as begins
use Rattle.pfc_kept_meetings.proofs.Shown as shown
use Rattle.pfc_kept_meetings.proofs.Granted as granted
use Rattle.pfc_kept_meetings.proofs.Granted.{no_holder}

module _ (facts : Facts) (m : Machine) (c : Config) (p : ℕ) (level : LivingLevel) (acting : IsActing facts m c p level) (own : level.setting.trial ≡ of_own)
    (q entry : ℕ) (ticket : is_some (ticket_open_to (Entered entry) (at c.table.rows q)) ≡ true)
    (processes : HasProcesses facts.tree) (typed : HasTypedEntries facts.tree) (runs : KeepsAccepts facts c) (offers : KeepsOffers facts c)
    (values : List Value) (words : List ℤ)
    (hold : AreCells (program_in facts) acting.homes (laid_parameters (entry_formals (program_in facts) q (waiting.a facts m c p level acting own q entry
    ticket processes typed runs offers).entry)) values words)
    (given : (k : ℕ) (t : TypeId) → slice_get (laid_parameters (entry_formals (program_in facts) q (waiting.a facts m c p level acting own q entry ticket
    processes typed runs offers).entry)) k ≡ Some (Variable t true)
    → (l : Location) × (get_or values k (ordinal (pos 0)) ≡ points l))
    (kept : AreKept c.table acting.entries p (descriptor_of m.descriptors p).communications.callers values)
    (to : ℕ) (ops below : List ℤ) (doing_p : Doing) (does_p : DoesOn level to below doing_p)
    (within_p : IsWithin facts level to (descriptor_of m.descriptors p).communications) (line : ℕ) where
  abbrev pub g : Program
  g = program_in facts

  abbrev h : Holders
  h = holders_in facts c

  abbrev ap0 : Activity
  ap0 = activity_of g c p

  abbrev dp : Descriptor
  dp = descriptor_of m.descriptors p

  abbrev aq : Activity
  aq = activity_of g c q

  abbrev dq : Descriptor
  dq = descriptor_of m.descriptors q

  abbrev its_level : LivingLevel
  its_level = waiting.its_level facts m c p level acting own q entry ticket processes typed runs offers

  abbrev shows : IsShowing facts acting.homes acting.entries c.store m.stacks c.table (holders_in facts c) q (activity_of g c q) (descriptor_of m.descriptors
      q) (finding.waits facts m c p level acting own q (Entered entry) ticket)
  shows = waiting.shows facts m c p level acting own q entry ticket processes typed runs offers

  abbrev b : Block
  b = waiting.b facts m c p level acting own q entry ticket processes typed runs offers

  abbrev x : Context
  x = waiting.x facts m c p level acting own q entry ticket processes typed runs offers

  abbrev a : Accepting
  a = waiting.a facts m c p level acting own q entry ticket processes typed runs offers

  abbrev i : ℕ
  i = a.scope

  abbrev inside : q < length c.activities
  inside = waiting.inside facts m c p level acting own q entry ticket processes typed runs offers

  abbrev accepts_so : AcceptsEntry its_level.setting.program.state.blocks b.scope a.entry a.scope
  accepts_so = waiting.accepts facts m c p level acting own q entry ticket processes typed runs offers

  abbrev of_block_so : is_accept b a.scope ≡ true
  of_block_so = waiting.of_block facts m c p level acting own q entry ticket processes typed runs offers

  abbrev apart_so : AreApart b a.scope its_level.setting.accepts
  apart_so = waiting.apart facts m c p level acting own q entry ticket processes typed runs offers

  abbrev lenders : List ℕ
  lenders = dp.communications.callers

  abbrev stacks' : Stacks
  stacks' = granted.stacks' facts m c p level acting own q entry ticket processes typed runs offers values words hold given kept to ops below doing_p does_p
      within_p line

  abbrev table : Table
  table = granted.table facts m c p level acting own q entry ticket processes typed runs offers values words hold given kept to ops below doing_p does_p
      within_p line

  abbrev table' : Table
  table' = ticked table

  abbrev new_store : Store
  new_store = granted.new_store facts m c p level acting own q entry ticket processes typed runs offers values words hold given kept to ops below doing_p
      does_p within_p line

  abbrev branch : ℕ
  branch = waiting.to facts m c p level acting own q entry ticket processes typed runs offers

  abbrev view' : View
  view' = begins.view facts m c acting.homes acting.entries acting.alike q its_level shows.under_way.stands shows.offers.own inside processes b x
      shows.offers.checked a accepts_so typed runs of_block_so apart_so values words hold given stacks' (granted.same facts m c p level acting own q entry
      ticket processes typed runs offers values words hold given kept to ops below doing_p does_p within_p line) (granted.size facts m c p level acting own q
      entry ticket processes typed runs offers values words hold given kept to ops below doing_p does_p within_p line) p lenders kept table' (granted.stay
      facts m c p level acting own q entry ticket processes typed runs offers values words hold given kept to ops below doing_p does_p within_p line)
      (granted.met facts m c p level acting own q entry ticket processes typed runs offers values words hold given kept to ops below doing_p does_p within_p
      line) (granted.main facts m c p level acting own q entry ticket processes typed runs offers values words hold given kept to ops below doing_p does_p
      within_p line)

  abbrev accepts' : List ℕ
  accepts' = i ∷ its_level.setting.accepts

  abbrev meetings' : List ℕ
  meetings' = p ∷ its_level.setting.meetings

  -- without what it offered
  abbrev level0 : LivingLevel
  level0 = record its_level { arms = [] }

  abbrev level' : LivingLevel
  level' = settled level0 view' accepts' meetings'

  abbrev latest0 : Communicating
  latest0 = record { alternatives = []; words = []; callers = dq.communications.callers; room = dq.communications.room }

  abbrev pub latest : Communicating
  latest = record { alternatives = []; words = []; callers = p ∷ dq.communications.callers; room = dq.communications.room }

  abbrev pub doing_q : Doing
  doing_q = going x.env (meeting_of x a (waiting.met facts m c p level acting own q entry ticket processes typed runs offers).o p shows.left)

  abbrev a' : Activity
  a' = at_work aq doing_q

  abbrev pub d' : Descriptor
  d' = record dq { communications = latest; offered = 0 }

  fewer : (es : List ℕ) → latest0.callers ≡ its_level.setting.meetings ++ es → latest.callers ≡ meetings' ++ es
  fewer es is = ap (λ (xs : List ℕ). p ∷ xs) is

  abbrev act : Activation
  act = owner.a facts m c acting.homes acting.entries acting.alike q its_level shows.under_way.stands shows.offers.own inside processes b x
      shows.offers.checked a.entry a.scope accepts_so

  abbrev e : Entry
  e = owner.e facts m c acting.homes acting.entries acting.alike q its_level shows.under_way.stands shows.offers.own inside processes b x shows.offers.checked
      a.entry a.scope accepts_so

  abbrev w : ℤ
  w = word_of (last_activation m.stacks q)

  abbrev before : IsFirst facts acting.homes c.store q (stack_of m.stacks q).room its_level w dq.communications act e
  before = owner.first facts m c acting.homes acting.entries acting.alike q its_level shows.under_way.stands shows.offers.own inside processes b x
      shows.offers.checked a.entry a.scope accepts_so

  -- what it offered is gone
  pub latest_is : without dq.offered (record dq.communications { callers = p ∷ dq.communications.callers }) ≡ latest
  latest_is =
      ap (λ n. without n (record dq.communications { callers = p ∷ dq.communications.callers })) (finding.offers_all facts m c p level acting own q (Entered
      entry) ticket)
      ∙ gone_all 1 [] [] its_level.arms dq.communications.alternatives dq.communications.words (p ∷ dq.communications.callers) dq.communications.room
      before.made.2

  wrote_q : IsSameStack (stack_of m.stacks q) (stack_of (granted.wrote facts m c p level acting own q entry ticket processes typed runs offers values words
      hold given kept to ops below doing_p does_p within_p line) q)
  wrote_q = granted.wrote_other facts m c p level acting own q entry ticket processes typed runs offers values words hold given kept to ops below doing_p
      does_p within_p line q (granted.off facts m c p level acting own q entry ticket processes typed runs offers values words hold given kept to ops below
      doing_p does_p within_p line)

  stack_q : stack_of stacks' q ≡ record (stack_of (granted.wrote facts m c p level acting own q entry ticket processes typed runs offers values words hold
      given kept to ops below doing_p does_p within_p line) q) { at = branch }
  stack_q = granted.stack_q facts m c p level acting own q entry ticket processes typed runs offers values words hold given kept to ops below doing_p does_p
      within_p line

  base_q : (stack_of stacks' q).base ≡ (stack_of m.stacks q).base
  base_q = ap (λ (s : Stack). s.base) stack_q ∙ wrote_q.base

  room_q : (stack_of stacks' q).room ≡ (stack_of m.stacks q).room
  room_q = ap (λ (s : Stack). s.room) stack_q ∙ wrote_q.room

  operands_q : (stack_of stacks' q).operands ≡ (stack_of m.stacks q).operands
  operands_q = ap (λ (s : Stack). s.operands) stack_q ∙ wrote_q.operands

  at_q : (stack_of stacks' q).at ≡ branch
  at_q = ap (λ (s : Stack). s.at) stack_q

  same_place : last_activation stacks' q ≡ last_activation m.stacks q
  same_place = ap (λ n. record { process = q; cell = n }) base_q

  -- ## The owner

  seen_then : IsSeenBy facts acting.homes acting.entries new_store table' q latest.callers (acting.entries q) w aq.display level'
  seen_then =
      let old = shows.under_way.stands.seen in
      record {
        others = old.others;
        met = fewer old.others old.met;
        sees =
            subst
            (λ (t : Trial). SeesThrough facts acting.homes acting.entries new_store table' q (acting.entries q) w aq.display level'.setting
            (own_block t its_level.setting.block) (own_view t view') old.others (own_accepts t accepts') meetings') (sym shows.offers.own)
            (through_then level0 view' accepts' meetings' facts acting.homes acting.entries new_store table' q (acting.entries q) w aq.display
            its_level.setting.block
            view' old.others accepts' meetings' (begins.then_seen facts m c acting.homes acting.entries acting.alike q its_level shows.under_way.stands
            shows.offers.own inside processes b x shows.offers.checked a accepts_so typed runs of_block_so apart_so values words hold given stacks'
            (granted.same facts m c p level acting own q entry ticket processes typed runs offers values words hold given kept to ops below doing_p does_p
            within_p line) (granted.size facts m c p level acting own q entry ticket processes typed runs offers values words hold given kept to ops below
            doing_p does_p within_p line) p lenders kept table' (granted.stay facts m c p level acting own q entry ticket processes typed runs offers
            values words hold given kept to ops below doing_p does_p within_p line) (granted.met facts m c p level acting own q entry ticket processes
            typed runs offers values words hold given kept to ops below doing_p does_p within_p line) (granted.main facts m c p level acting own q entry
            ticket processes typed runs offers values words hold given kept to ops below doing_p does_p within_p line)));
        around = λ y beside. old.around y (beside_back level0 view' accepts' meetings' (block_of its_level) y beside);
      }

  between : (f u n : ℕ) → ((f ≤ n) × (n < u)) ⊎ (f ≤ n → n < u → ⊥)
  between f u n = split (grind arith)
    where
      split : (f ≤ n) ⊎ (n < f) → ((f ≤ n) × (n < u)) ⊎ (f ≤ n → n < u → ⊥)
      split (inr below) = inr (λ low high. grind (arith, below, low))
      split (inl low) = other (grind arith)
        where
          other : (n < u) ⊎ (u ≤ n) → ((f ≤ n) × (n < u)) ⊎ (f ≤ n → n < u → ⊥)
          other (inl high) = inl (low, high)
          other (inr above) = inr (λ low high. grind (arith, above, high))

  references : (n : ℕ) (t : TypeId) (l : Location) → slice_get (block_of its_level).layout n ≡ Some (Variable t true)
      → get_or (values_in new_store act.number) n (ordinal (pos 0)) ≡ points l → l.activation ≢ act.number
  references n t l laid is = by (between (giving.from facts m c acting.homes acting.entries acting.alike q its_level shows.under_way.stands shows.offers.own
      inside processes b x shows.offers.checked a accepts_so typed runs of_block_so) (giving.to facts m c acting.homes acting.entries acting.alike q its_level
      shows.under_way.stands shows.offers.own inside processes b x shows.offers.checked a accepts_so typed runs of_block_so) n)
    where
      same_location : (y l : Location) → points y ≡ points l → y ≡ l
      same_location y l is = cc

      by : ((giving.from facts m c acting.homes acting.entries acting.alike q its_level shows.under_way.stands shows.offers.own inside processes b x
          shows.offers.checked a accepts_so typed runs of_block_so ≤ n) × (n < giving.to facts m c acting.homes acting.entries acting.alike q its_level
          shows.under_way.stands shows.offers.own inside processes b x shows.offers.checked a accepts_so typed runs of_block_so)) ⊎ (giving.from facts m c
          acting.homes acting.entries acting.alike q its_level shows.under_way.stands shows.offers.own inside processes b x shows.offers.checked a accepts_so
          typed runs of_block_so ≤ n → n < giving.to facts m c acting.homes acting.entries acting.alike q its_level shows.under_way.stands shows.offers.own
          inside processes b x shows.offers.checked a accepts_so typed runs of_block_so → ⊥) → l.activation ≢ act.number
      by (inl within_it) =
          let one = shown.given_at facts m c acting.homes acting.entries acting.alike q its_level shows.under_way.stands shows.offers.own inside processes b x
          shows.offers.checked a accepts_so typed runs of_block_so apart_so values words hold given stacks' (granted.same facts m c p level acting own q
          entry ticket processes typed runs offers values words hold given kept to ops below doing_p does_p within_p line) (granted.size facts m c p level
          acting own q entry ticket processes typed runs offers values words hold given kept to ops below doing_p does_p within_p line) p lenders kept
          table' (granted.stay facts m c p level acting own q entry ticket processes typed runs offers values words hold given kept to ops below doing_p
          does_p within_p line) (granted.met facts m c p level acting own q entry ticket processes typed runs offers values words hold given kept to ops
          below doing_p does_p within_p line) (granted.main facts m c p level acting own q entry ticket processes typed runs offers values words hold given
          kept to ops below doing_p does_p within_p line) n t within_it.0 within_it.1 (ap (λ (y : Block). slice_get y.layout n) (sym (owner.block_is facts
          m c acting.homes acting.entries acting.alike q its_level shows.under_way.stands shows.offers.own inside processes b x shows.offers.checked
          a.entry a.scope accepts_so)) ∙ laid) in
          let same : one.0 ≡ l = same_location one.0 l (sym one.1 ∙ is) in
          subst (λ (y : Location). y.activation ≢ act.number) same
          (not_kept facts m c acting.homes acting.entries acting.alike q act.number (owner.home facts m c acting.homes acting.entries acting.alike q its_level
          shows.under_way.stands shows.offers.own inside processes b x shows.offers.checked a.entry a.scope accepts_so) (giving.at_home facts m c
          acting.homes acting.entries acting.alike q its_level shows.under_way.stands shows.offers.own inside processes b x shows.offers.checked a
          accepts_so typed runs of_block_so) before.stands.process (owner.child facts m c acting.homes acting.entries acting.alike q its_level
          shows.under_way.stands shows.offers.own inside processes b x shows.offers.checked a.entry a.scope accepts_so)
          (granted.awake_q facts m c p level acting own q entry ticket processes typed runs offers values words hold given kept to ops below doing_p does_p
          within_p line) p lenders (acting.entries p) one.0.activation (λ is. granted.off facts m c p level acting own q entry ticket processes typed runs
          offers values words hold given kept to ops below doing_p does_p within_p line (sym is)) refl
          (may_lend c.table acting.entries p lenders values one.0.activation kept one.2))
      by (inr out) = before.stands.apart n t l laid (sym (shown.places facts m c acting.homes acting.entries acting.alike q its_level shows.under_way.stands
          shows.offers.own inside processes b x shows.offers.checked a accepts_so typed runs of_block_so apart_so values words hold given stacks' (granted.same
          facts m c p level acting own q entry ticket processes typed runs offers values words hold given kept to ops below doing_p does_p within_p line)
          (granted.size facts m c p level acting own q entry ticket processes typed runs offers values words hold given kept to ops below doing_p does_p
          within_p line) p lenders kept table' (granted.stay facts m c p level acting own q entry ticket processes typed runs offers values words hold given
          kept to ops below doing_p does_p within_p line) (granted.met facts m c p level acting own q entry ticket processes typed runs offers values words
          hold given kept to ops below doing_p does_p within_p line) (granted.main facts m c p level acting own q entry ticket processes typed runs offers
          values words hold given kept to ops below doing_p does_p within_p line) n out) ∙ is)

  first_new : IsFirst facts acting.homes new_store q (stack_of m.stacks q).room level0 w latest0 act e
  first_new =
      let s = before.stands in
      record {
        own = before.own;
        stands = record {
          number = s.number;
          home = s.home;
          at = s.at;
          process = s.process;
          scope = s.scope;
          block = s.block;
          word = s.word;
          cells = s.cells;
          words = s.words;
          mark = s.mark;
          link = s.link;
          under = s.under;
          code = s.code;
          is = s.is;
          of_block = s.of_block;
          last = s.last;
          setting = record { image = s.setting.image; arms = s.setting.arms; number = s.setting.number };
          laid = s.laid;
          apart = references;
          guarded = s.guarded;
          accepts = s.accepts;
        };
        fits = record { operands = before.fits.operands; made = (before.fits.made.0, before.fits.made.1, before.fits.made.2); branches = tt };
        made = (refl, before.made.1, none_made);
        block = before.block;
        number = before.number;
        waits = before.waits;
        mark = before.mark;
        under = before.under;
        caller = before.caller;
        link = before.link;
      }

  callers_first : IsFirst facts acting.homes new_store q (stack_of m.stacks q).room level' w latest act e
  callers_first =
      first_then level0 view' accepts' meetings' latest0 latest.callers fewer
      (one_more_own its_level.setting.trial (block_of its_level) i its_level.setting.accepts
      (ap (λ (y : Block). is_accept y i) (owner.block_is facts m c acting.homes acting.entries acting.alike q its_level shows.under_way.stands
      shows.offers.own inside processes b x shows.offers.checked a.entry a.scope accepts_so) ∙ of_block_so))
      facts acting.homes new_store q (stack_of m.stacks q).room w act e first_new

  callers_so : AreCallers facts acting.homes acting.entries new_store table' q (stack_of m.stacks q).room level' w latest aq.activations (acting.entries q)
  callers_so =
      subst (λ (xs : List Activation). AreCallers facts acting.homes acting.entries new_store table' q (stack_of m.stacks q).room level' w latest xs
      (acting.entries q))
      (sym (owner.only facts m c acting.homes acting.entries acting.alike q its_level shows.under_way.stands shows.offers.own inside processes b x
      shows.offers.checked a.entry a.scope accepts_so).activations)
      (subst (λ (es : List Entry). AreCallers facts acting.homes acting.entries new_store table' q (stack_of m.stacks q).room level' w latest (act ∷ []) es)
      (sym (owner.only facts m c acting.homes acting.entries acting.alike q its_level shows.under_way.stands shows.offers.own inside processes b x
      shows.offers.checked a.entry a.scope accepts_so).entries_are) callers_first)

  callers_now : AreCallers facts acting.homes acting.entries new_store table' q (stack_of stacks' q).room level' (word_of (last_activation stacks' q)) latest
      aq.activations
      (acting.entries q)
  callers_now =
      subst
      (λ n. AreCallers facts acting.homes acting.entries new_store table' q n level' (word_of (last_activation stacks' q)) latest aq.activations
      (acting.entries q))
      (sym room_q)
      (subst
      (λ (y : Ref). AreCallers facts acting.homes acting.entries new_store table' q (stack_of m.stacks q).room level' (word_of y) latest aq.activations
      (acting.entries q))
      (sym same_place) callers_so)

  are_met : AreMet table' q latest.callers
  are_met = record { waiting = waiting_so; once = once }
    where
      waiting_so : (n y : ℕ) → n < length latest.callers → is_met_by (at table'.rows (get_or latest.callers n y)) q
      waiting_so zero y within_it = granted.met facts m c p level acting own q entry ticket processes typed runs offers values words hold given kept to ops
          below doing_p does_p within_p line
      waiting_so (suc n) y within_it =
          let old = shows.under_way.stands.met.waiting n y (less n (length dq.communications.callers) within_it) in
          subst (λ (s : Stand). is_met_by s q) (sym (granted.stay facts m c p level acting own q entry ticket processes typed runs offers values words hold
          given kept to ops below doing_p does_p within_p line (get_or dq.communications.callers n y) q old)) old
        where
          less : (n k : ℕ) → suc n < suc k → n < k
          less n k within_it = grind (arith, within_it)

      not_there : (n : ℕ) → slice_get dq.communications.callers n ≡ Some p → ⊥
      not_there n there =
          let found = found_at dq.communications.callers n p 0 there in
          granted.awake_p facts m c p level acting own q entry ticket processes typed runs offers values words hold given kept to ops below doing_p does_p
          within_p line q (subst (λ j. is_met_by (at c.table.rows j) q) found.1 (shows.under_way.stands.met.waiting n 0 found.0))

      once : (j n r : ℕ) → slice_get latest.callers j ≡ Some r → slice_get latest.callers n ≡ Some r → j ≡ n
      once zero zero r one two = refl
      once zero (suc n) r one two = absurd (not_there n (two ∙ sym one))
      once (suc j) zero r one two = absurd (not_there j (one ∙ sym two))
      once (suc j) (suc n) r one two = ap (λ y. suc y) (shows.under_way.stands.met.once j n r one two)

  level_then : IsAtLevel facts acting.homes acting.entries new_store stacks' table' h q a' d' level'
  level_then =
      let old = shows.under_way.stands in
      record {
        count = old.count;
        seen =
            subst (λ (y : Ref). IsSeenBy facts acting.homes acting.entries new_store table' q latest.callers (acting.entries q) (word_of y) aq.display level')
            (sym same_place)
            seen_then;
        callers = callers_now;
        room = subst (λ n. its_level.setting.room ≤ n) (sym room_q) old.room;
        accepts = tt;
        met = are_met;
        holds =
            subst (λ (s : Stand). Holds h q s its_level.setting.trial aq.activations) (sym (granted.row_q facts m c p level acting own q entry ticket processes
            typed runs offers values words hold given kept to ops below doing_p does_p within_p line))
            (holds_anew h q (at c.table.rows q) Is_ready its_level.setting.trial aq.activations
            (no_holder h.owners (at c.table.rows q) shows.opened _ shows.offers.offered) old.holds);
      }

  at_own : ((stack_of stacks' q).looks_from ≡ None) × (dq.scan ≡ None)
  at_own =
      let old = subst (λ (t : Trial). TrialIs t facts acting.homes acting.entries c.store m.stacks c.table q its_level aq.activations dq) shows.offers.own
      shows.under_way.trial in
      (ap (λ (s : Stack). s.looks_from) stack_q ∙ wrote_q.looks_from ∙ old.0, old.1)

  does : DoesOn level' branch (stack_of m.stacks q).operands doing_q
  does = (
    shows.offers.few,
    least its_level.setting.arms,
    inl (
      b,
      beside_then level0 view' accepts' meetings' its_level.setting.block b shows.offers.beside,
      (begins.goes_then facts m c acting.homes acting.entries acting.alike q its_level shows.under_way.stands shows.offers.own inside processes b x
          shows.offers.checked a accepts_so typed runs of_block_so apart_so values words hold given stacks' (granted.same facts m c p level acting own q entry
          ticket processes typed runs offers values words hold given kept to ops below doing_p does_p within_p line)
          (granted.size facts m c p level acting own q
          entry ticket processes typed runs offers values words hold given kept to ops below doing_p does_p within_p line) p lenders kept table' (granted.stay
          facts m c p level acting own q entry ticket processes typed runs offers values words hold given kept to ops below doing_p does_p within_p line)
          (granted.met facts m c p level acting own q entry ticket processes typed runs offers values words hold given kept to ops below doing_p does_p within_p
          line) (granted.main facts m c p level acting own q entry ticket processes typed runs offers values words hold given kept to ops below doing_p does_p
          within_p line) shows.left (waiting.met facts m c p level acting own q entry ticket processes typed runs offers).o branch
          (stack_of m.stacks q).operands
          (waiting.ends facts m c p level acting own q entry ticket processes typed runs offers).0 (waiting.ends facts m c p level acting own q entry ticket
          processes typed runs offers).1 (waiting.behind facts m c p level acting own q entry ticket processes typed runs offers)).1,
    ),
  )
    where
      least : (n : ℕ) → 0 ≤ n
      least n = grind arith

  leads_in : (j : ℕ) → LeadWithin facts j its_level.arms → IsInBlock facts j branch
  leads_in j lead = subst (λ (y : Instr). LeadsWithin facts j y) (waiting.arm_is facts m c p level acting own q entry ticket processes typed runs offers)
      ((waiting.met facts m c p level acting own q entry ticket processes typed runs offers).leads j lead)

  within0 : IsWithin facts level0 branch latest0
  within0 =
      let k = before.own.block in
      let code = before.stands.code in
      let inside_it = leads_in k before.fits.branches code before.stands.is.0 in (
        k,
        code,
        before.stands.is,
        record {
          entry = inside_it.0;
          before = inside_it.1;
          rest = room_anywhere facts k code branch latest0 before.stands.is.0 inside_it.0
              (before.fits.made.0, before.fits.made.1, before.fits.made.2);
        },
      )

  under_way : IsUnderWay facts acting.homes acting.entries new_store stacks' table' h q a' d'
  under_way =
      record {
        unfinished = ap is_unfinished (granted.row_q facts m c p level acting own q entry ticket processes typed runs offers values words hold given kept to
            ops below doing_p does_p within_p line);
        level = level';
        stands = level_then;
        within =
            subst (λ (t : Trial). IsWithin facts level' (own_address t (stack_of stacks' q).at) latest) (sym shows.offers.own)
            (subst (λ n. IsWithin facts level' n latest) (sym at_q)
            (within_then level0 view' accepts' meetings' latest0 latest.callers fewer facts branch within0));
        hand = (
          refl,
          ap shows_nothing (granted.row_q facts m c p level acting own q entry ticket processes typed runs offers values words hold given kept to ops below
              doing_p does_p within_p line),
          subst (λ n. DoesOn level' n (stack_of stacks' q).operands doing_q) (sym at_q)
              (subst (λ (held : List ℤ). DoesOn level' branch held doing_q) (sym operands_q) does),
        );
        trial = subst (λ (t : Trial). TrialIs t facts acting.homes acting.entries new_store stacks' table' q level' a'.activations d') (sym shows.offers.own)
            at_own;
      }

  pub owner_then : RepresentsProcess facts acting.homes acting.entries new_store stacks' table' h q a' d'
  owner_then =
      record {
        line = (finding.process facts m c p level acting own q (Entered entry) ticket).line;
        spare = ap (λ (s : Stack). s.spare) stack_q ∙ wrote_q.spare ∙ (finding.process facts m c p level acting own q (Entered entry) ticket).spare;
        activations =
            not_empty facts acting.homes acting.entries new_store stacks' table' h q (stack_of stacks' q).room level' (word_of (last_activation stacks' q))
            latest aq.activations
            (acting.entries q) a' d' level_then.callers under_way;
      }
