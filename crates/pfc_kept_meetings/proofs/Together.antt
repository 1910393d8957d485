-- The owner and all others, when an accept meets a caller that waits.
use Rattle.std.proofs.Common.{◌≡◌, ◌≢◌, ℕ, zero, suc, ◌+◌, ◌<◌, ◌≤◌, ℤ, pos, true, List, [], ◌∷◌, ◌++◌, length, set, get_or, slice_get, Some, None, refl, sym}
use Rattle.std.proofs.Common.{ap, ◌∙◌, subst, arith, ◌⊎◌, inl, inr}
use Rattle.std.proofs.lemmas.List.{get_or-set_same, get_or-set_other, length-set}
use Rattle.pfc_types.specs.declared.types.TypeId.{TypeId}
use Rattle.pfc_types.specs.declared.scope.Meaning.TheVariants.{Variable}
use Rattle.pfc_state.specs.Stands.{Stand, Is_ready, Waits, is_unfinished, ticket_of, due_of}
use Rattle.pfc_state.specs.declared.waits.Why.TheVariants.{Call, Meeting, Barred}
use Rattle.pfc_world.specs.Partners.{caller}
use Rattle.pfc_world.specs.Tables.{Table, at}
use Rattle.pfc_world.specs.Transitions.{ticked}
use Rattle.pfc_semantics.specs.Values.{Location, ordinal, points}
use Rattle.pfc_semantics.specs.Programs.{Program, Block}
use Rattle.pfc_semantics.specs.Remainders.{Context, Accepting, Open, Remainder}
use Rattle.pfc_semantics.specs.Store.{Store, values_in}
use Rattle.pfc_semantics.specs.Configurations.{empty_hand, Activity, Config, activity_of, nobody, at_work, Activation}
use Rattle.pfc_translation.specs.Sites.{is_accept}
use Rattle.pfc_stacks.specs.declared.refs.Ref.{Ref}
use Rattle.pfc_stacks.specs.Stacks.{Stacks, stack_of, last_activation}
use Rattle.pfc_cells.specs.Memory.{Entry}
use Rattle.pfc_machines.specs.declared.machine.Machine.{Machine}
use Rattle.pfc_machines.specs.declared.descriptors.Descriptor.{Descriptor}
use Rattle.pfc_machines.specs.Descriptors.{descriptor_of, descriptor_by, meeting}
use Rattle.pfc_standing_code.specs.Settings.{of_own, View, Trial}
use Rattle.pfc_standing_code.specs.TypedStatements.{AcceptsEntry}
use Rattle.pfc_standing_code.specs.Words.{IsChecked}
use Rattle.pfc_representation.specs.Levels.{Facts, program_in, LivingLevel, is_met_by, block_of, DoesOn, SeesThrough, IsSeenBy}
use Rattle.pfc_representation.specs.Hands.{shows_nothing}
use Rattle.pfc_representation.specs.Holding.{Holders, holders_in, Holds, is_quiet, waits_at_coend}
use Rattle.pfc_representation.specs.Keeping.{IsSameStack, IsUntouched}
use Rattle.pfc_representation.specs.Processes.{RepresentsProcess, AreMet, IsAtLevel, IsUnderWay}
use Rattle.pfc_representation.specs.Acting.{IsActing}
use Rattle.pfc_kept_meetings.specs.Owners.{HasTypedEntries}
use Rattle.pfc_kept_meetings.specs.Accepts.{HasProcesses, KeepsAccepts}
use Rattle.pfc_kept_meetings.proofs.Apart.{AreApart}
use Rattle.pfc_kept_meetings.proofs.Lenders.{ready_unmet}
use Rattle.pfc_kept_meetings.proofs.Untouched.{not_kept}
use Rattle.pfc_semantics.specs.Rewriting.{Doing, going}
use Rattle.pfc_stacks.specs.Refs.{word_of}
use Rattle.pfc_machines.specs.Communications.{Communicating}
use Rattle.pfc_standing_code.specs.Performs.{own_view, own_accepts, own_block, Performs}
use Rattle.pfc_representation.specs.Rooms.{own_address}
use Rattle.pfc_representation.specs.Callers.{IsWithin, AreCallers, IsFirst}
use Rattle.pfc_representation.specs.Trials.{TrialIs, HasTried}
use Rattle.pfc_representation.proofs.Kept.{process_still}
use Rattle.pfc_kept_messages.proofs.Others.{IsBarredStand, lender_waits}
use Rattle.pfc_kept_messages.proofs.Waiting.{not_empty}
use Rattle.pfc_kept_messages.proofs.Whole.{IsNewStand, IsBehind}
use Rattle.pfc_kept_meetings.proofs.Tried.{tried_barred}
use Rattle.pfc_kept_meetings.proofs.Settled.{settled, beside_back, through_then, within_then, first_then, beside_then, one_more_own}
use Rattle.pfc_semantics.specs.Rendezvous.{meeting_of}
use Rattle.pfc_following_source.specs.Behind.{BehindAccept}
use Rattle.pfc_kept_meetings.proofs.Given.{may_lend}
use Rattle.pfc_kept_meetings.proofs.Few.{found_at}
use Rattle.pfc_standing_code.specs.Effects.{Arm}
use Rattle.pfc_standing_code.specs.Following.{DoesIn}
use Rattle.pfc_kept_meetings.proofs.Giving as giving
use Rattle.pfc_kept_meetings.proofs.Owner as owner
use Rattle.pfc_kept_meetings.proofs.Meets as meets
use Rattle.pfc_kept_meetings.proofs.Meets.{calls_unmet}
use Rattle.pfc_kept_meetings.proofs.Begins as begins
use Rattle.pfc_kept_meetings.proofs.Shown as shown

module _ (facts : Facts) (m : Machine) (c : Config) (p : ℕ) (level : LivingLevel) (acting : IsActing facts m c p level) (own : level.setting.trial ≡ of_own)
    (b : Block) (x : Context) (checked : IsChecked level.setting b x.env) (acc : Accepting)
    (accepts : AcceptsEntry level.setting.program.state.blocks b.scope acc.entry acc.scope) (processes : HasProcesses facts.tree)
    (typed : HasTypedEntries facts.tree) (runs : KeepsAccepts facts c) (of_block : is_accept b acc.scope ≡ true)
    (apart : AreApart b acc.scope level.setting.accepts) (q : ℕ) (is_first : caller c.table.rows p acc.entry ≡ Some q) (to : ℕ) (ops : List ℤ)
    (o : Open) (k : Remainder) (line end : ℕ) (rest : Performs level.setting b x.env end ops [] k) (behind : BehindAccept level.setting b to ops x acc o k)
    (few : length ops ≤ level.setting.room) (arms : length level.arms ≤ level.setting.arms) (none : level.arms ≡ [])
    (within : IsWithin facts level to (descriptor_of m.descriptors p).communications) where
  abbrev pub g : Program
  g = program_in facts

  abbrev h : Holders
  h = holders_in facts c

  abbrev i : ℕ
  i = acc.scope

  abbrev a : Activity
  a = activity_of g c p

  abbrev d : Descriptor
  d = descriptor_of m.descriptors p

  abbrev stacks' : Stacks
  stacks' = meets.stacks' facts m c p level acting own b x checked acc accepts processes typed runs of_block apart q is_first to ops

  abbrev table : Table
  table = meets.table facts m c p level acting own b x checked acc accepts processes typed runs of_block apart q is_first to ops

  abbrev table' : Table
  table' = ticked table

  abbrev new_store : Store
  new_store = meets.new_store facts m c p level acting own b x checked acc accepts processes typed runs of_block apart q is_first to ops

  abbrev view' : View
  view' = begins.view facts m c acting.homes acting.entries acting.alike p level acting.actor.stands own acting.actor.process processes b x checked acc accepts
      typed runs of_block apart (meets.values facts m c p level acting own b x checked acc accepts processes typed runs of_block apart q is_first to ops)
      (meets.words facts m c p level acting own b x checked acc accepts processes typed runs of_block apart q is_first to ops) (meets.hold facts m c p level
      acting own b x checked acc accepts processes typed runs of_block apart q is_first to ops) (meets.given facts m c p level acting own b x checked acc
      accepts processes typed runs of_block apart q is_first to ops) (meets.stacks' facts m c p level acting own b x checked acc accepts processes typed runs
      of_block apart q is_first to ops) (meets.same facts m c p level acting own b x checked acc accepts processes typed runs of_block apart q is_first to ops)
      (meets.size facts m c p level acting own b x checked acc accepts processes typed runs of_block apart q is_first to ops) q (meets.lenders facts m c p
      level acting own b x checked acc accepts processes typed runs of_block apart q is_first to ops) (meets.kept facts m c p level acting own b x checked acc
      accepts processes typed runs of_block apart q is_first to ops) (meets.table' facts m c p level acting own b x checked acc accepts processes typed runs
      of_block apart q is_first to ops) (meets.stay facts m c p level acting own b x checked acc accepts processes typed runs of_block apart q is_first to ops)
      (meets.met facts m c p level acting own b x checked acc accepts processes typed runs of_block apart q is_first to ops) (meets.main facts m c p level
      acting own b x checked acc accepts processes typed runs of_block apart q is_first to ops)

  abbrev accepts' : List ℕ
  accepts' = i ∷ level.setting.accepts

  abbrev meetings' : List ℕ
  meetings' = q ∷ level.setting.meetings

  abbrev level' : LivingLevel
  level' = settled level view' accepts' meetings'

  abbrev latest : Communicating
  latest = record d.communications { callers = q ∷ d.communications.callers }

  abbrev doing : Doing
  doing = going x.env (meeting_of x acc o q k)

  abbrev a' : Activity
  a' = record (at_work a doing) { line = line }

  abbrev d' : Descriptor
  d' = record d { line = line; communications = latest }

  off : q ≢ p
  off = meets.off facts m c p level acting own b x checked acc accepts processes typed runs of_block apart q is_first to ops

  calls : at c.table.rows q ≡ Waits (Call p acc.entry) (meets.calls_so facts m c p level acting own b x checked acc accepts processes typed runs of_block apart
      q is_first to ops).0 (meets.calls_so facts m c p level acting own b x checked acc accepts processes typed runs of_block apart q is_first to ops).1
  calls = meets.calls facts m c p level acting own b x checked acc accepts processes typed runs of_block apart q is_first to ops

  stack_p : IsSameStack (record (stack_of m.stacks p) { at = to; operands = ops }) (stack_of stacks' p)
  stack_p = meets.stack_p facts m c p level acting own b x checked acc accepts processes typed runs of_block apart q is_first to ops

  fewer : (es : List ℕ) → d.communications.callers ≡ level.setting.meetings ++ es → latest.callers ≡ meetings' ++ es
  fewer es is = ap (λ (xs : List ℕ). q ∷ xs) is

  same_place : last_activation stacks' p ≡ last_activation m.stacks p
  same_place = ap (λ n. record { process = p; cell = n }) stack_p.base

  -- ## The owner

  abbrev w : ℤ
  w = word_of (last_activation m.stacks p)

  seen_then : IsSeenBy facts acting.homes acting.entries new_store table' p latest.callers (acting.entries p) w a.display level'
  seen_then =
      let old = acting.actor.stands.seen in
      record {
        others = old.others;
        met = fewer old.others old.met;
        sees =
            subst
            (λ (t : Trial). SeesThrough facts acting.homes acting.entries new_store table' p (acting.entries p) w a.display level'.setting
            (own_block t level.setting.block) (own_view t view') old.others (own_accepts t accepts') meetings') (sym own)
            (through_then level view' accepts' meetings' facts acting.homes acting.entries new_store table' p (acting.entries p) w a.display level.setting.block
            view' old.others accepts' meetings' (begins.then_seen facts m c acting.homes acting.entries acting.alike p level acting.actor.stands own
            acting.actor.process processes b x checked acc accepts typed runs of_block apart (meets.values facts m c p level acting own b x checked acc
            accepts processes typed runs of_block apart q is_first to ops) (meets.words facts m c p level acting own b x checked acc accepts processes
            typed runs of_block apart q is_first to ops) (meets.hold facts m c p level acting own b x checked acc accepts processes typed runs of_block
            apart q is_first to ops) (meets.given facts m c p level acting own b x checked acc accepts processes typed runs of_block apart q is_first to
            ops) (meets.stacks' facts m c p level acting own b x checked acc accepts processes typed runs of_block apart q is_first to ops) (meets.same
            facts m c p level acting own b x checked acc accepts processes typed runs of_block apart q is_first to ops) (meets.size facts m c p level
            acting own b x checked acc accepts processes typed runs of_block apart q is_first to ops) q (meets.lenders facts m c p level acting own b x
            checked acc accepts processes typed runs of_block apart q is_first to ops) (meets.kept facts m c p level acting own b x checked acc accepts
            processes typed runs of_block apart q is_first to ops) (meets.table' facts m c p level acting own b x checked acc accepts processes typed runs
            of_block apart q is_first to ops) (meets.stay facts m c p level acting own b x checked acc accepts processes typed runs of_block apart q
            is_first to ops) (meets.met facts m c p level acting own b x checked acc accepts processes typed runs of_block apart q is_first to ops)
            (meets.main facts m c p level acting own b x checked acc accepts processes typed runs of_block apart q is_first to ops)));
        around = λ y beside. old.around y (beside_back level view' accepts' meetings' (block_of level) y beside);
      }

  abbrev act : Activation
  act = owner.a facts m c acting.homes acting.entries acting.alike p level acting.actor.stands own acting.actor.process processes b x checked acc.entry i
      accepts

  abbrev e : Entry
  e = owner.e facts m c acting.homes acting.entries acting.alike p level acting.actor.stands own acting.actor.process processes b x checked acc.entry i accepts

  abbrev before : IsFirst facts acting.homes c.store p (stack_of m.stacks p).room level w d.communications act e
  before = owner.first facts m c acting.homes acting.entries acting.alike p level acting.actor.stands own acting.actor.process processes b x checked acc.entry
      i accepts

  references : (n : ℕ) (t : TypeId) (l : Location) → slice_get (block_of level).layout n ≡ Some (Variable t true)
      → get_or (values_in new_store act.number) n (ordinal (pos 0)) ≡ points l → l.activation ≢ act.number
  references n t l laid is = by (either_way (giving.from facts m c acting.homes acting.entries acting.alike p level acting.actor.stands own
      acting.actor.process processes b x checked acc accepts typed runs of_block) (giving.to facts m c acting.homes acting.entries acting.alike p level
      acting.actor.stands own acting.actor.process processes b x checked acc accepts typed runs of_block) n)
    where
      either_way : (f u n : ℕ) → ((f ≤ n) × (n < u)) ⊎ ((f ≤ n → n < u → ⊥))
      either_way f u n = split (grind arith)
        where
          split : (f ≤ n) ⊎ (n < f) → ((f ≤ n) × (n < u)) ⊎ ((f ≤ n → n < u → ⊥))
          split (inr below) = inr (λ low high. grind (arith, below, low))
          split (inl low) = other (grind arith)
            where
              other : (n < u) ⊎ (u ≤ n) → ((f ≤ n) × (n < u)) ⊎ ((f ≤ n → n < u → ⊥))
              other (inl high) = inl (low, high)
              other (inr above) = inr (λ low high. grind (arith, above, high))

      same_location : (y l : Location) → points y ≡ points l → y ≡ l
      same_location y l is = cc

      by : ((giving.from facts m c acting.homes acting.entries acting.alike p level acting.actor.stands own acting.actor.process processes b x checked acc
          accepts typed runs of_block ≤ n) × (n < giving.to facts m c acting.homes acting.entries acting.alike p level acting.actor.stands own
          acting.actor.process processes b x checked acc accepts typed runs of_block)) ⊎ ((giving.from facts m c acting.homes acting.entries acting.alike p
          level acting.actor.stands own acting.actor.process processes b x checked acc accepts typed runs of_block ≤ n → n < giving.to facts m c acting.homes
          acting.entries acting.alike p level acting.actor.stands own acting.actor.process processes b x checked acc accepts typed runs of_block → ⊥)) →
          l.activation ≢ act.number
      by (inl inside) =
          let one = shown.given_at facts m c acting.homes acting.entries acting.alike p level acting.actor.stands own acting.actor.process processes b x
          checked acc accepts typed runs of_block apart (meets.values facts m c p level acting own b x checked acc accepts processes typed runs of_block
          apart q is_first to ops) (meets.words facts m c p level acting own b x checked acc accepts processes typed runs of_block apart q is_first to ops)
          (meets.hold facts m c p level acting own b x checked acc accepts processes typed runs of_block apart q is_first to ops) (meets.given facts m c p
          level acting own b x checked acc accepts processes typed runs of_block apart q is_first to ops) (meets.stacks' facts m c p level acting own b x
          checked acc accepts processes typed runs of_block apart q is_first to ops) (meets.same facts m c p level acting own b x checked acc accepts
          processes typed runs of_block apart q is_first to ops) (meets.size facts m c p level acting own b x checked acc accepts processes typed runs
          of_block apart q is_first to ops) q (meets.lenders facts m c p level acting own b x checked acc accepts processes typed runs of_block apart q
          is_first to ops) (meets.kept facts m c p level acting own b x checked acc accepts processes typed runs of_block apart q is_first to ops)
          (meets.table' facts m c p level acting own b x checked acc accepts processes typed runs of_block apart q is_first to ops) (meets.stay facts m c p
          level acting own b x checked acc accepts processes typed runs of_block apart q is_first to ops) (meets.met facts m c p level acting own b x
          checked acc accepts processes typed runs of_block apart q is_first to ops) (meets.main facts m c p level acting own b x checked acc accepts
          processes typed runs of_block apart q is_first to ops) n t inside.0 inside.1 (ap (λ (y : Block). slice_get y.layout n) (sym (owner.block_is facts
          m c acting.homes acting.entries acting.alike p level acting.actor.stands own acting.actor.process processes b x checked acc.entry i accepts)) ∙
          laid) in
          let same : one.0 ≡ l = same_location one.0 l (sym one.1 ∙ is) in
          subst (λ (y : Location). y.activation ≢ act.number) same
          (not_kept facts m c acting.homes acting.entries acting.alike p act.number (owner.home facts m c acting.homes acting.entries acting.alike p level
          acting.actor.stands own acting.actor.process processes b x checked acc.entry i accepts) (giving.at_home facts m c acting.homes acting.entries
          acting.alike p level acting.actor.stands own acting.actor.process processes b x checked acc accepts typed runs of_block) before.stands.process
          (owner.child facts m c acting.homes acting.entries acting.alike p level acting.actor.stands own acting.actor.process processes b x checked
          acc.entry i accepts)
          (λ s met_by. ready_unmet (at c.table.rows p) s acting.actor.ready met_by) q (meets.lenders facts m c p level acting own b x checked acc accepts
          processes typed runs of_block apart q is_first to ops) (acting.entries q) one.0.activation off refl
          (may_lend c.table acting.entries q (meets.lenders facts m c p level acting own b x checked acc accepts processes typed runs of_block apart q is_first
          to ops) (meets.values facts m c p level acting own b x checked acc accepts processes typed runs of_block apart q is_first to ops)
          one.0.activation (meets.kept facts m c p level acting own b x checked acc accepts processes typed runs of_block apart q is_first to ops) one.2))
      by (inr out) = before.stands.apart n t l laid (sym (shown.places facts m c acting.homes acting.entries acting.alike p level acting.actor.stands own
          acting.actor.process processes b x checked acc accepts typed runs of_block apart (meets.values facts m c p level acting own b x checked acc accepts
          processes typed runs of_block apart q is_first to ops) (meets.words facts m c p level acting own b x checked acc accepts processes typed runs
          of_block apart q is_first to ops) (meets.hold facts m c p level acting own b x checked acc accepts processes typed runs of_block apart q is_first to
          ops) (meets.given facts m c p level acting own b x checked acc accepts processes typed runs of_block apart q is_first to ops) (meets.stacks' facts m
          c p level acting own b x checked acc accepts processes typed runs of_block apart q is_first to ops) (meets.same facts m c p level acting own b x
          checked acc accepts processes typed runs of_block apart q is_first to ops) (meets.size facts m c p level acting own b x checked acc accepts processes
          typed runs of_block apart q is_first to ops) q (meets.lenders facts m c p level acting own b x checked acc accepts processes typed runs of_block
          apart q is_first to ops) (meets.kept facts m c p level acting own b x checked acc accepts processes typed runs of_block apart q is_first to ops)
          (meets.table' facts m c p level acting own b x checked acc accepts processes typed runs of_block apart q is_first to ops) (meets.stay facts m c p
          level acting own b x checked acc accepts processes typed runs of_block apart q is_first to ops) (meets.met facts m c p level acting own b x checked
          acc accepts processes typed runs of_block apart q is_first to ops) (meets.main facts m c p level acting own b x checked acc accepts processes typed
          runs of_block apart q is_first to ops) n out) ∙ is)

  first_new : IsFirst facts acting.homes new_store p (stack_of m.stacks p).room level w d.communications act e
  first_new =
      let s = before.stands in
      record {
        own = before.own;
        stands = record {
          number = s.number;
          home = s.home;
          at = s.at;
          process = s.process;
          scope = s.scope;
          block = s.block;
          word = s.word;
          cells = s.cells;
          words = s.words;
          mark = s.mark;
          link = s.link;
          under = s.under;
          code = s.code;
          is = s.is;
          of_block = s.of_block;
          last = s.last;
          setting = s.setting;
          laid = s.laid;
          apart = references;
          guarded = s.guarded;
          accepts = s.accepts;
        };
        fits = before.fits;
        made = before.made;
        block = before.block;
        number = before.number;
        waits = before.waits;
        mark = before.mark;
        under = before.under;
        caller = before.caller;
        link = before.link;
      }

  callers_first : IsFirst facts acting.homes new_store p (stack_of m.stacks p).room level' w latest act e
  callers_first =
      first_then level view' accepts' meetings' d.communications latest.callers fewer
      (one_more_own level.setting.trial (block_of level) i level.setting.accepts
      (ap (λ (y : Block). is_accept y i) (owner.block_is facts m c acting.homes acting.entries acting.alike p level acting.actor.stands own
      acting.actor.process processes b x checked acc.entry acc.scope accepts) ∙ of_block))
      facts acting.homes new_store p (stack_of m.stacks p).room w act e
      first_new

  callers_so : AreCallers facts acting.homes acting.entries new_store table' p (stack_of m.stacks p).room level' w latest a.activations (acting.entries p)
  callers_so =
      subst (λ (xs : List Activation). AreCallers facts acting.homes acting.entries new_store table' p (stack_of m.stacks p).room level' w latest xs
      (acting.entries p))
      (sym (owner.only facts m c acting.homes acting.entries acting.alike p level acting.actor.stands own acting.actor.process processes b x checked acc.entry
      i accepts).activations)
      (subst (λ (es : List Entry). AreCallers facts acting.homes acting.entries new_store table' p (stack_of m.stacks p).room level' w latest (act ∷ []) es)
      (sym (owner.only facts m c acting.homes acting.entries acting.alike p level acting.actor.stands own acting.actor.process processes b x checked acc.entry
      i accepts).entries_are) callers_first)

  callers_now : AreCallers facts acting.homes acting.entries new_store table' p (stack_of stacks' p).room level' (word_of (last_activation stacks' p)) latest
      a.activations
      (acting.entries p)
  callers_now =
      subst
      (λ n. AreCallers facts acting.homes acting.entries new_store table' p n level' (word_of (last_activation stacks' p)) latest a.activations (acting.entries
      p))
      (sym stack_p.room)
      (subst
      (λ (y : Ref). AreCallers facts acting.homes acting.entries new_store table' p (stack_of m.stacks p).room level' (word_of y) latest a.activations
      (acting.entries p))
      (sym same_place) callers_so)

  are_met : AreMet table' p latest.callers
  are_met = record { waiting = waiting; once = once }
    where
      waiting : (n y : ℕ) → n < length latest.callers → is_met_by (at table'.rows (get_or latest.callers n y)) p
      waiting zero y inside = meets.met facts m c p level acting own b x checked acc accepts processes typed runs of_block apart q is_first to ops
      waiting (suc n) y inside =
          let old = acting.actor.stands.met.waiting n y (less n (length d.communications.callers) inside) in
          subst (λ (s : Stand). is_met_by s p) (sym (meets.stay facts m c p level acting own b x checked acc accepts processes typed runs of_block apart q
          is_first to ops (get_or d.communications.callers n y) p old)) old
        where
          less : (n k : ℕ) → suc n < suc k → n < k
          less n k inside = grind (arith, inside)

      not_there : (n : ℕ) → slice_get d.communications.callers n ≡ Some q → ⊥
      not_there n there =
          let found = found_at d.communications.callers n q 0 there in
          calls_unmet (at c.table.rows q) p acc.entry (meets.calls_so facts m c p level acting own b x checked acc accepts processes typed runs of_block apart
          q is_first to ops).0 p (meets.calls_so facts m c p level acting own b x checked acc accepts processes typed runs of_block apart q is_first to
          ops).1 calls
          (subst (λ j. is_met_by (at c.table.rows j) p) found.1 (acting.actor.stands.met.waiting n 0 found.0))

      once : (j n r : ℕ) → slice_get latest.callers j ≡ Some r → slice_get latest.callers n ≡ Some r → j ≡ n
      once zero zero r one two = refl
      once zero (suc n) r one two = absurd (not_there n (two ∙ sym one))
      once (suc j) zero r one two = absurd (not_there j (one ∙ sym two))
      once (suc j) (suc n) r one two = ap (λ y. suc y) (acting.actor.stands.met.once j n r one two)

  row_p : at table'.rows p ≡ at c.table.rows p
  row_p = meets.row_other facts m c p level acting own b x checked acc accepts processes typed runs of_block apart q is_first to ops p (λ is. off (sym is))

  level_then : IsAtLevel facts acting.homes acting.entries new_store stacks' table' h p a' d' level'
  level_then =
      let old = acting.actor.stands in
      record {
        count = old.count;
        seen =
            subst (λ (y : Ref). IsSeenBy facts acting.homes acting.entries new_store table' p latest.callers (acting.entries p) (word_of y) a.display level')
            (sym same_place)
            seen_then;
        callers = callers_now;
        room = subst (λ n. level.setting.room ≤ n) (sym stack_p.room) old.room;
        accepts = old.accepts;
        met = are_met;
        holds = subst (λ (s : Stand). Holds h p s level.setting.trial a.activations) (sym row_p) old.holds;
      }

  at_own : ((stack_of stacks' p).looks_from ≡ None) × (d.scan ≡ None)
  at_own = (let one = which acting.actor.trial in (stack_p.looks_from ∙ one.0, one.1))
    where
      which : TrialIs level.setting.trial facts acting.homes acting.entries c.store m.stacks c.table p level a.activations d
          ⊎ HasTried level.setting.trial facts (stack_of m.stacks p) level a.activations d → ((stack_of m.stacks p).looks_from ≡ None) × (d.scan ≡ None)
      which (inl is) = subst (λ (t : Trial). TrialIs t facts acting.homes acting.entries c.store m.stacks c.table p level a.activations d) own is
      which (inr is) = absurd (let no : ⊥ = subst (λ (t : Trial). HasTried t facts (stack_of m.stacks p) level a.activations d) own is in no)

  does : DoesOn level' to ops doing
  does = (
    few,
    arms,
    inl (
      b,
      beside_then level view' accepts' meetings' level.setting.block b checked.beside,
      subst (λ (made : List Arm). DoesIn level'.setting b to ops made doing) (sym none) (begins.goes_then facts m c acting.homes acting.entries acting.alike p
          level acting.actor.stands own acting.actor.process processes b x checked acc accepts typed runs of_block apart (meets.values facts m c p level acting
          own b x checked acc accepts processes typed runs of_block apart q is_first to ops) (meets.words facts m c p level acting own b x checked acc accepts
          processes typed runs of_block apart q is_first to ops) (meets.hold facts m c p level acting own b x checked acc accepts processes typed runs of_block
          apart q is_first to ops) (meets.given facts m c p level acting own b x checked acc accepts processes typed runs of_block apart q is_first to ops)
          (meets.stacks' facts m c p level acting own b x checked acc accepts processes typed runs of_block apart q is_first to ops) (meets.same facts m c p
          level acting own b x checked acc accepts processes typed runs of_block apart q is_first to ops) (meets.size facts m c p level acting own b x checked
          acc accepts processes typed runs of_block apart q is_first to ops) q (meets.lenders facts m c p level acting own b x checked acc accepts processes
          typed runs of_block apart q is_first to ops) (meets.kept facts m c p level acting own b x checked acc accepts processes typed runs of_block apart q
          is_first to ops) (meets.table' facts m c p level acting own b x checked acc accepts processes typed runs of_block apart q is_first to ops) (meets.stay
          facts m c p level acting own b x checked acc accepts processes typed runs of_block apart q is_first to ops)
          (meets.met facts m c p level acting own b x
          checked acc accepts processes typed runs of_block apart q is_first to ops) (meets.main facts m c p level acting own b x checked acc accepts processes
          typed runs of_block apart q is_first to ops) k o to ops end rest behind).1,
    ),
  )

  under_way : IsUnderWay facts acting.homes acting.entries new_store stacks' table' h p a' d'
  under_way =
      let ready : at table'.rows p ≡ Is_ready = row_p ∙ acting.actor.ready in
      record {
        unfinished = ap is_unfinished ready;
        level = level';
        stands = level_then;
        within =
            subst (λ (t : Trial). IsWithin facts level' (own_address t (stack_of stacks' p).at) latest) (sym own)
            (subst (λ n. IsWithin facts level' n latest) (sym stack_p.at)
            (within_then level view' accepts' meetings' d.communications latest.callers fewer facts to within));
        hand = (
          acting.actor.offered,
          ap shows_nothing ready,
          subst (λ n. DoesOn level' n (stack_of stacks' p).operands doing) (sym stack_p.at)
              (subst (λ (held : List ℤ). DoesOn level' to held doing) (sym stack_p.operands) does),
        );
        trial = subst (λ (t : Trial). TrialIs t facts acting.homes acting.entries new_store stacks' table' p level' a'.activations d') (sym own) at_own;
      }

  mine : RepresentsProcess facts acting.homes acting.entries new_store stacks' table' h p a' d'
  mine =
      record {
        line = refl;
        spare = stack_p.spare ∙ acting.actor.spare;
        activations =
            not_empty facts acting.homes acting.entries new_store stacks' table' h p (stack_of stacks' p).room level' (word_of (last_activation stacks' p))
            latest a.activations
            (acting.entries p) a' d' level_then.callers under_way;
      }

  -- ## The others

  barred_apart : (r : ℕ) → IsBarredStand (at c.table.rows r) → (r ≢ p) × (r ≢ q)
  barred_apart r barred = (
    λ is.
        (let no : Waits (Barred barred.resource barred.procedure) barred.ticket [] ≡ Is_ready =
        sym barred.is ∙ ap (λ n. at c.table.rows n) is ∙ acting.actor.ready in cc),
    λ is.
        (let no : Waits (Barred barred.resource barred.procedure) barred.ticket [] ≡ Waits (Call p acc.entry) (meets.calls_so facts m c p level acting own b x
        checked acc accepts processes typed runs of_block apart q is_first to ops).0 (meets.calls_so facts m c p level acting own b x checked acc accepts
        processes typed runs of_block apart q is_first to ops).1 =
        sym barred.is ∙ ap (λ n. at c.table.rows n) is ∙ calls in cc),
  )

  untouched : (r : ℕ) → r ≢ p → r ≢ q
      → IsUntouched facts r acting.homes acting.homes acting.entries acting.entries c.store new_store m.stacks stacks' c.table table'
  untouched r away other =
      record {
        like = λ keeps these. meets.like_of facts m c p level acting own b x checked acc accepts processes typed runs of_block apart q is_first to ops r away
            keeps these;
        lenders = λ s lender. (let waits = lender_waits c.table r s lender in (
          meets.stay facts m c p level acting own b x checked acc accepts processes typed
              runs of_block apart q is_first to ops s waits.0 waits.1,
          refl,
        ));
        stack = meets.stack_other facts m c p level acting own b x checked acc accepts processes typed runs of_block apart q is_first to ops r away other;
        entries_same = refl;
        row = meets.row_other facts m c p level acting own b x checked acc accepts processes typed runs of_block apart q is_first to ops r other;
      }

  other_kept : (r : ℕ) → r ≢ p → r ≢ q → r < length c.activities
      → RepresentsProcess facts acting.homes acting.entries new_store stacks' table' h r (activity_of g c r) (descriptor_of m.descriptors r)
  other_kept r away other inside =
      let old = acting.others r inside away in
      process_still facts r (descriptor_of m.descriptors r) acting.homes acting.homes acting.entries acting.entries c.store new_store m.stacks stacks' c.table
      table' h h
      (record {
        at_home = λ n home at. at;
        untouched = untouched r away other;
        tried = λ s whom.
            let far = barred_apart s
            (tried_barred facts acting.homes acting.entries c.store m.stacks c.table h r s (descriptor_of m.descriptors r) whom (activity_of g c r) old) in
            untouched s far.0 far.1;
        holds = record { owners = refl; monitors = λ n held. held; resources = λ n held. held };
      })
      (activity_of g c r) old

  -- ## Lists

  abbrev working : Activity
  working = at_work a doing

  abbrev once : List Activity
  once = set c.activities p working

  abbrev shows : Activity
  shows = record (get_or once q (nobody g)) { hand = empty_hand }

  abbrev pub activities : List Activity
  activities = set once q shows

  abbrev pub descriptors : List Descriptor
  descriptors = set m.descriptors p (meeting q d)

  once_size : length once ≡ length c.activities
  once_size = length-set c.activities p working

  activity_here : record (get_or activities p (nobody g)) { line = line } ≡ a'
  activity_here =
      ap (λ (y : Activity). record y { line = line })
      (get_or-set_other once q p shows (nobody g) (λ is. off (sym is)) ∙ get_or-set_same c.activities p working (nobody g) acting.actor.process)

  activity_caller : get_or activities q (nobody g) ≡ record (activity_of g c q) { hand = empty_hand }
  activity_caller =
      get_or-set_same once q shows (nobody g) (subst (λ n. q < n) (sym once_size) (meets.inside facts m c p level acting own b x checked acc accepts processes
      typed runs of_block apart q is_first to ops))
      ∙ ap (λ (y : Activity). record y { hand = empty_hand }) (get_or-set_other c.activities p q working (nobody g) off)

  activity_there : (r : ℕ) → r ≢ p → r ≢ q → get_or activities r (nobody g) ≡ activity_of g c r
  activity_there r away other = get_or-set_other once q r shows (nobody g) other ∙ get_or-set_other c.activities p r working (nobody g) away

  descriptor_here : record (descriptor_of descriptors p) { line = line } ≡ d'
  descriptor_here =
      ap (λ (y : Descriptor). record y { line = line })
      (get_or-set_same m.descriptors p (meeting q d) (descriptor_by 0) (subst (λ n. p < n) (sym acting.alike.words.descriptors) acting.actor.process))

  descriptor_there : (r : ℕ) → r ≢ p → descriptor_of descriptors r ≡ descriptor_of m.descriptors r
  descriptor_there r away = get_or-set_other m.descriptors p r (meeting q d) (descriptor_by 0) away

  others_kept : (r : ℕ) → r ≢ p → (r ≡ q) ⊎ (r ≢ q) → r < length c.activities
      → RepresentsProcess facts acting.homes acting.entries new_store stacks' table' h r (get_or activities r (nobody g)) (descriptor_of descriptors r)
  others_kept r away (inl is) inside =
      subst (λ n. RepresentsProcess facts acting.homes acting.entries new_store stacks' table' h n (get_or activities n (nobody g)) (descriptor_of descriptors
      n)) (sym is)
      (subst (λ (y : Activity). RepresentsProcess facts acting.homes acting.entries new_store stacks' table' h q y (descriptor_of descriptors q)) (sym
      activity_caller)
      (subst (λ (y : Descriptor). RepresentsProcess facts acting.homes acting.entries new_store stacks' table' h q (record (activity_of g c q) {
        hand =
            empty_hand;
      }) y)
      (sym (descriptor_there q off)) (meets.caller_then facts m c p level acting own b x checked acc accepts processes typed runs of_block apart q is_first to
      ops)))
  others_kept r away (inr other) inside =
      subst (λ (y : Activity). RepresentsProcess facts acting.homes acting.entries new_store stacks' table' h r y (descriptor_of descriptors r)) (sym
      (activity_there r away other))
      (subst (λ (y : Descriptor). RepresentsProcess facts acting.homes acting.entries new_store stacks' table' h r (activity_of g c r) y) (sym
      (descriptor_there r away))
      (other_kept r away other inside))

  -- ## All of it

  either : (n k : ℕ) → (n ≡ k) ⊎ (n ≢ k)
  either n k = grind arith

  row_q : at table.rows q ≡ Waits (Meeting p) (c.table.done + 1) []
  row_q = meets.row_is facts m c p level acting own b x checked acc accepts processes typed runs of_block apart q is_first to ops

  new_stand : IsNewStand c (at c.table.rows q) (at table.rows q)
  new_stand =
      record {
        unfinished = ap is_unfinished row_q;
        awake = ap is_quiet calls;
        no_coend = ap waits_at_coend calls;
        ticket = λ t is. at_now t (let both : Some (c.table.done + 1) ≡ Some t = ap ticket_of (sym row_q) ∙ is in cc);
        due = λ t is. absurd (let no : None ≡ Some t = ap due_of (sym row_q) ∙ is in cc);
      }
    where
      at_now : (t : ℕ) → c.table.done + 1 ≡ t → t ≤ c.table.done + 1
      at_now t is = grind (arith, is)

  stands_as : (r : ℕ) → (r ≡ q) ⊎ (r ≢ q) → (at table.rows r ≡ at c.table.rows r) ⊎ IsNewStand c (at c.table.rows r) (at table.rows r)
  stands_as r (inl is) = inr (subst (λ n. IsNewStand c (at c.table.rows n) (at table.rows n)) (sym is) new_stand)
  stands_as r (inr other) = inl (meets.row_other facts m c p level acting own b x checked acc accepts processes typed runs of_block apart q is_first to ops r
      other)

  pub begins_behind : IsBehind facts m c p level acting line activities descriptors new_store stacks' table
  begins_behind =
      let held = giving.holds_then facts m c acting.homes acting.entries acting.alike p level acting.actor.stands own acting.actor.process processes b x
      checked acc accepts typed runs of_block (meets.values facts m c p level acting own b x checked acc accepts processes typed runs of_block apart q
      is_first to ops) (meets.words facts m c p level acting own b x checked acc accepts processes typed runs of_block apart q is_first to ops) (meets.hold
      facts m c p level acting own b x checked acc accepts processes typed runs of_block apart q is_first to ops) stacks' (meets.same facts m c p level
      acting own b x checked acc accepts processes typed runs of_block apart q is_first to ops) (meets.size facts m c p level acting own b x checked acc
      accepts processes typed runs of_block apart q is_first to ops) in
      record {
        activity_count = length-set once q shows ∙ once_size;
        descriptor_count = length-set m.descriptors p (meeting q d);
        stack_count = meets.size facts m c p level acting own b x checked acc accepts processes typed runs of_block apart q is_first to ops;
        row_count = length-set c.table.rows q (Waits (Meeting p) (c.table.done + 1) []);
        memory = held.memory;
        few = held.few;
        objects = held.objects;
        rests = acting.alike.between.acting;
        done = refl;
        moment = refl;
        stands = λ r. stands_as r (either r q);
        mine =
            subst (λ (y : Activity). RepresentsProcess facts acting.homes acting.entries new_store stacks' table' h p y (record (descriptor_of descriptors p) {
              line = line;
            }))
            (sym activity_here)
            (subst (λ (y : Descriptor). RepresentsProcess facts acting.homes acting.entries new_store stacks' table' h p a' y) (sym descriptor_here) mine);
        others = λ r away inside. others_kept r away (either r q) inside;
      }
