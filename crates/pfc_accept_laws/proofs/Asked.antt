-- What processes show that wait for an entry is what they were about to ask.
use Rattle.std.proofs.Common.{◌≡◌, ◌≢◌, ◌⊎◌, inl, inr, ℕ, ◌+◌, Bool, true, false, if◌then◌else◌, List, [], Option, Some, None, Ok, Err, refl, sym, ap, subst}
use Rattle.pfc_base.specs.declared.faults.RunFault.TheVariants.{NotActive}
use Rattle.pfc_state.specs.declared.waits.Arm.TheVariants.{Accept as Entry}
use Rattle.pfc_state.specs.declared.waits.Why.TheVariants.{Call as ACall, Meeting}
use Rattle.pfc_state.specs.Stands.{Stand, Is_idle, Is_ready, Waits}
use Rattle.pfc_world.specs.Tables.{Table, at}
use Rattle.pfc_world.specs.Transitions.{placed, blocked}
use Rattle.pfc_world.specs.Partners.{is_accepting}
use Rattle.pfc_world.specs.Rendezvous.{is_uncalled, called as called_in}
use Rattle.pfc_world.specs.Terminating.{wholly_settled}
use Rattle.pfc_semantics.specs.Values.{Value}
use Rattle.pfc_semantics.specs.Displays.{Spot}
use Rattle.pfc_semantics.specs.Programs.{Program}
use Rattle.pfc_semantics.specs.Remainders.{Context, Argument, Offer, Remainder, Way, Action, leave, own, to_send, to_receive, to_accept, to_wait, to_end}
use Rattle.pfc_semantics.specs.Remainders.{to_procedure, to_function, to_module, to_requeue, to_process, to_entry, reads, writes, turns, calls, finishes}
use Rattle.pfc_semantics.specs.Remainders.{prints, inputs, skips, asks_eof, asks_eoln, asks_clock, asks_empty, draws, joins, initials, waits, signals, delays}
use Rattle.pfc_semantics.specs.Remainders.{resumes, sleeps, meets, decides, parts, scans, bars, passes, faults}
use Rattle.pfc_semantics.specs.Configurations.{Activity, Hand, empty_hand, offering, asking, barred_at, Config, nobody, activity_of, goes_on, showing}
use Rattle.pfc_semantics.specs.Configurations.{number_for, all_passed, with_table, start, after, done_at}
use Rattle.pfc_semantics.specs.Channels.{Side, side_of}
use Rattle.pfc_semantics.specs.Rendezvous.{called_into, called_at, enters}
use Rattle.pfc_semantics.specs.Events.{step}
use Rattle.pfc_semantics.specs.Steps.{next_of, line_of, effect}
use Rattle.pfc_semantics.specs.Time.{settled_config}
use Rattle.pfc_accept_laws.specs.Shown.{ShowsArguments, IsToAsk}
use Rattle.pfc_accept_laws.proofs.Lists.{set_changes}
use Rattle.pfc_accept_laws.proofs.Each.{Told, any_open, IsTold, Each, it_shows}
use Rattle.pfc_accept_laws.proofs.Communications.{SideSo, side_on, called_at_so}
use Rattle.pfc_accept_laws.proofs.Effects.{ShowsWay, ActsSo, any_next, effect_so}
use Rattle.pfc_accept_laws.proofs.Runs.{start_so, settled_so, done_so, after_so}
use Rattle.pfc_accept_laws.proofs.Rows.{IsNoCall, wholly_so}
use Rattle.pfc_accept_laws.proofs.Waits.{IsElse, after_rows, effect_rows}

-- ## Waits for entries

abbrev owner_in : Stand → ℕ
owner_in (Waits (ACall owner entry) ticket arms) = owner
owner_in stand = 0

abbrev entry_in : Stand → ℕ
entry_in (Waits (ACall owner entry) ticket arms) = entry
entry_in stand = 0

-- who waits for an entry here waited for it there
abbrev WaitsAlike : List Stand → ℕ → Stand → Type 0
WaitsAlike rows q stand = (owner entry ticket : ℕ) → stand ≡ Waits (ACall owner entry) ticket [] → at rows q ≡ Waits (ACall owner entry) ticket []

no_wait : {X : Type 0} (stand : Stand) → IsNoCall stand → (owner entry ticket : ℕ) → stand ≡ Waits (ACall owner entry) ticket [] → X
no_wait stand none owner entry ticket is = absurd (subst (λ (s : Stand). IsNoCall s) is none)

free : (rows : List Stand) (q : ℕ) (stand : Stand) → IsNoCall stand → WaitsAlike rows q stand
free rows q stand none owner entry ticket is = no_wait stand none owner entry ticket is

alike : (rows : List Stand) (q : ℕ) → WaitsAlike rows q (at rows q)
alike rows q owner entry ticket is = is

-- ## A call of an entry

-- who waits for an entry when p has called one waited for it before, or is p
abbrev WaitsNow : List Stand → ℕ → ℕ → ℕ → ℕ → Stand → Type 0
WaitsNow rows p q called r stand = (owner entry ticket : ℕ) → stand ≡ Waits (ACall owner entry) ticket []
    → ((r ≢ p) × (at rows r ≡ Waits (ACall owner entry) ticket [])) ⊎ ((r ≡ p) × (owner ≡ q) × (entry ≡ called))

module _ (w : Table) (p q called : ℕ) where
  freely : (r : ℕ) (stand : Stand) → IsNoCall stand → WaitsNow w.rows p q called r stand
  freely r stand none owner entry ticket is = no_wait stand none owner entry ticket is

  before : (r : ℕ) → r ≢ p → WaitsNow w.rows p q called r (at w.rows r)
  before r off owner entry ticket is = inl (off, is)

  meets_now : (r : ℕ) → WaitsNow w.rows p q called r (at (blocked (placed w q Is_ready) p (Meeting q) []).rows r)
  meets_now r =
      set_changes (WaitsNow w.rows p q called r) Is_idle (placed w q Is_ready).rows p r (Waits (Meeting q) (w.done + 1) []) (λ is. freely r _ tt)
      (λ off. set_changes (WaitsNow w.rows p q called r) Is_idle w.rows q r Is_ready (λ is. freely r Is_ready tt) (λ away. before r off) (freely r Is_idle tt))
      (freely r Is_idle tt)

  waits_now : (r : ℕ) → WaitsNow w.rows p q called r (at (blocked w p (ACall q called) []).rows r)
  waits_now r =
      set_changes (WaitsNow w.rows p q called r) Is_idle w.rows p r (Waits (ACall q called) (w.done + 1) [])
      (λ here owner entry ticket is. inr (here, sym (ap owner_in is), sym (ap entry_in is))) (λ off. before r off) (freely r Is_idle tt)

  pub called_now : (r : ℕ) → WaitsNow w.rows p q called r (at (called_in w p q called).rows r)
  called_now r = by (is_accepting w.rows q called)
    where
      by : (b : Bool)
          → WaitsNow w.rows p q called r
          (at (if b then blocked (placed w q Is_ready) p (Meeting q) [] else blocked w p (ACall q called) []).rows r)
      by true = meets_now r
      by false = waits_now r

-- a meeting does nothing to the standings
met_table : (g : Program) (Q : Table → Type 0) (c : Config) (p q : ℕ) (args : List Value) (s : Side) (offer : Offer) → Q c.table
    → Q (called_into g c p q args s offer).table
met_table g Q c p q args s (to_accept a) so = so
met_table g Q c p q args s (to_send channel v) so = so
met_table g Q c p q args s (to_receive channel target) so = so
met_table g Q c p q args s (to_wait n) so = so
met_table g Q c p q args s to_end so = so

called_table : (g : Program) (Q : Table → Type 0) (c : Config) (p q : ℕ) (args : List Value) (s : Option Side) → Q c.table
    → Q (called_at g c p q args s).table
called_table g Q c p q args None so = so
called_table g Q c p q args (Some s) so = met_table g Q c p q args s s.at.offer so

module _ (asks : ℕ → ℕ → ℕ → ℕ → List Value → Type 0) (g : Program) where
  -- where standings are these
  abbrev AsksIn : List Stand → ℕ → Hand → Type 0
  AsksIn rows q (asking values) = (owner entry ticket : ℕ) → at rows q ≡ Waits (ACall owner entry) ticket [] → asks q owner entry ticket values
  AsksIn rows q hand = Unit {0}

  abbrev shown : List Stand → Told
  shown rows = record {
    program = g;
    so = λ q a. AsksIn rows q a.hand;
    alive = λ activations. Unit {0};
    requeues = λ mark. Unit {0};
    does =
        λ q l doing. Unit {0};
    waits = λ q l caller. Unit {0};
  }

  told : (rows : List Stand) → IsTold (shown rows)
  told rows =
      record {
        works = λ q a doing may so. tt;
        lined = λ q a line so. so;
        emptied = λ q a so. tt;
        ended = λ q a so. tt;
        created = λ c q a so. tt;
        called = λ c q a b mark caller doing some waiting so. tt;
        left = λ q a top below doing is may so. tt;
        requeued = λ c q a top below b doing is marked so. tt;
        main = tt;
        idle = λ q n. tt;
        nobody = λ q. tt;
        back = λ q a top below env k is by so. tt;
        result = λ q a top below x u v is by so. tt;
        scanned = λ q l env s k so. tt;
        offered = λ q a x os k is so. any_open (shown rows) (λ q l doing. tt) q a.activations x k os;
      }

  -- ## In a configuration

  abbrev pub AreAsked : Config → Type 0
  AreAsked c = (q owner entry ticket : ℕ) (values : List Value) → ShowsArguments g c q owner entry ticket values → asks q owner entry ticket values

  in_hand : (rows : List Stand) (q : ℕ) (hand : Hand)
      → ((values : List Value) → hand ≡ asking values → (owner entry ticket : ℕ) → at rows q ≡ Waits (ACall owner entry) ticket []
      → asks q owner entry ticket values)
      → AsksIn rows q hand
  in_hand rows q (asking values) so = so values refl
  in_hand rows q empty_hand so = tt
  in_hand rows q (offering x os k) so = tt
  in_hand rows q (barred_at b) so = tt

  each_so : (c : Config) (rows : List Stand) → AreAsked c → ((q : ℕ) → WaitsAlike c.table.rows q (at rows q)) → Each (shown rows) c
  each_so c rows so same q =
      in_hand rows q (activity_of g c q).hand (λ values is owner entry ticket on. so q owner entry ticket values (is, same q owner entry ticket on))

  as_asked : (c : Config) → Each (shown c.table.rows) c → AreAsked c
  as_asked c all q owner entry ticket values is =
      let so : AsksIn c.table.rows q (asking values) = subst (λ (hand : Hand). AsksIn c.table.rows q hand) is.0 (all q) in so owner entry ticket is.1

  -- ## The start, and settling

  pub start_asked : (input : List ℕ) (seed : ℕ) → AreAsked (start g input seed)
  start_asked input seed = as_asked (start g input seed) (start_so (shown (start g input seed).table.rows) (told (start g input seed).table.rows) input seed)

  pub settled_asked : (c : Config) → AreAsked c → AreAsked (settled_config c)
  settled_asked c so =
      let rows = (wholly_settled c.table).rows in
      as_asked (settled_config c)
      (settled_so (shown rows) (told rows) c
      (each_so c rows so (wholly_so (WaitsAlike c.table.rows) (free c.table.rows) c.table (alike c.table.rows))))

  -- ## An action

  module _ (c : Config) (p choice : ℕ) (so : AreAsked c)
      (about : (owner entry ticket : ℕ) (values : List Value) → IsToAsk g c p owner entry values → asks p owner entry ticket values) where
    module _ (rows : List Stand) where
      way_so : (way : Way) → ShowsWay (shown rows) p (activity_of g c p).activations way
      way_so leave = tt
      way_so (own b) = λ a same old. tt

      acts_so : (n : Action) → IsElse n → ActsSo (shown rows) c p n
      acts_so (calls x (to_entry s entry k) given) other = absurd other
      acts_so (calls x (to_requeue scope) given) other = λ top below is. tt
      acts_so (calls x (to_procedure scope k) given) other = tt
      acts_so (calls x (to_function scope u) given) other = tt
      acts_so (calls x (to_module n scope k) given) other = tt
      acts_so (calls x (to_process s k) given) other = tt
      acts_so (meets x o k) other = λ a same old. tt
      acts_so (decides x s k) other = λ a same old. tt
      acts_so (bars x b k) other = λ a same old. tt
      acts_so (passes x w s k) other = way_so s.way
      acts_so n other = tt

    else_asked : (n : Action) → IsElse n → AreAsked (after g c p (line_of n) (effect g c p choice n))
    else_asked n other =
        let d : Config = after g c p (line_of n) (effect g c p choice n) in
        let rows : List Stand = d.table.rows in
        let same = after_rows (WaitsAlike c.table.rows) (free c.table.rows) g c p (line_of n) (effect g c p choice n) (alike c.table.rows)
        (effect_rows (WaitsAlike c.table.rows) (free c.table.rows) g c (alike c.table.rows) p choice n other) in
        let all : Each (shown rows) c = each_so c rows so same in
        as_asked d
        (after_so (shown rows) (told rows) c p (line_of n) (effect g c p choice n) all
        (effect_so (shown rows) (told rows) c all p (inr (λ q l doing. tt)) tt choice n (acts_so rows n other)
        (any_next (shown rows) (λ q l doing. tt) (λ q l caller. tt) p (activity_of g c p).activations n)))

    -- ## A call of an entry

    module _ (x : Context) (s : Spot) (entry : ℕ) (k : Remainder) (given : List Argument) (is : next_of g c p ≡ calls x (to_entry s entry k) given)
        (line : ℕ) where
      abbrev q : ℕ
      q = number_for g c p s

      abbrev values : List Value
      values = all_passed g c p given

      abbrev waiting : Config
      waiting = with_table (goes_on g c p x k) (called_in c.table p q entry)

      abbrev Now : List Stand → Type 0
      Now rows = (r : ℕ) → WaitsNow c.table.rows p q entry r (at rows r)

      on : (rows : List Stand) → Now rows → Each (shown rows) waiting
      on rows now r =
          set_changes (λ (a : Activity). AsksIn rows r a.hand) (nobody g) c.activities p r _ (λ here. tt)
          (λ off. in_hand rows r (activity_of g c r).hand (λ vs shows owner e ticket at_now. by vs shows owner e ticket off (now r owner e ticket at_now))) tt
        where
          by : (vs : List Value) → (activity_of g c r).hand ≡ asking vs → (owner e ticket : ℕ) → r ≢ p
              → ((r ≢ p) × (at c.table.rows r ≡ Waits (ACall owner e) ticket [])) ⊎ ((r ≡ p) × (owner ≡ q) × (e ≡ entry)) → asks r owner e ticket vs
          by vs shows owner e ticket off (inl was) = so r owner e ticket vs (shows, was.1)
          by vs shows owner e ticket off (inr new) = absurd (off new.0)

      new_so : (rows : List Stand) → Now rows → AsksIn rows p (asking values)
      new_so rows now owner e ticket at_now = by (now p owner e ticket at_now)
        where
          by : ((p ≢ p) × (at c.table.rows p ≡ Waits (ACall owner e) ticket [])) ⊎ ((p ≡ p) × (owner ≡ q) × (e ≡ entry)) → asks p owner e ticket values
          by (inl was) = absurd (was.0 refl)
          by (inr new) =
              subst (λ (i : ℕ). asks p owner i ticket values) (sym new.2)
              (about owner entry ticket values
              (record { context = x; spot = s; behind = k; given = given; next = is; owned = new.1; passed = refl }))

      fault_asked : AreAsked (after g c p line (Err NotActive))
      fault_asked =
          let rows : List Stand = c.table.rows in
          as_asked (after g c p line (Err NotActive))
          (after_so (shown rows) (told rows) c p line (Err NotActive) (each_so c rows so (alike rows)) tt)

      any_side : (rows : List Stand) (side : Option Side) → SideSo (shown rows) (told rows) q (activity_of g c q).activations side
      any_side rows None = tt
      any_side rows (Some side) = (tt, λ a is caller. tt)

      met_asked : AreAsked (done_at g (called_at g waiting p q values (side_of g c q (Entry entry))) p line)
      met_asked =
          let side : Option Side = side_of g c q (Entry entry) in
          let d : Config = called_at g waiting p q values side in
          let rows : List Stand = d.table.rows in
          let now : Now rows = called_table g (λ (w : Table). Now w.rows) waiting p q values side (called_now c.table p q entry) in
          as_asked (done_at g d p line)
          (done_so (shown rows) (told rows) d p line (called_at_so (shown rows) (told rows) waiting p q values side (on rows now)
          (side_on (shown rows) (told rows) c p x k q side (any_side rows side))))

      waits_asked : AreAsked (done_at g (showing g waiting p (asking values)) p line)
      waits_asked =
          let rows : List Stand = (called_in c.table p q entry).rows in
          let now : Now rows = called_now c.table p q entry in
          as_asked (done_at g (showing g waiting p (asking values)) p line)
          (done_so (shown rows) (told rows) (showing g waiting p (asking values)) p line
          (it_shows (shown rows) (told rows) waiting p (asking values) (activity_of g waiting p).activations refl
          (on rows now) (λ a same old. new_so rows now)))

      entry_asked : AreAsked (after g c p line (enters g c p x s entry given k))
      entry_asked = by (is_uncalled c.table q) (is_accepting c.table.rows q entry)
        where
          by : (b accepting : Bool)
              → AreAsked
              (after g c p line
              (if b then Err NotActive else if accepting then Ok (called_at g waiting p q values (side_of g c q (Entry entry)))
              else Ok (showing g waiting p (asking values))))
          by true accepting = fault_asked
          by false true = met_asked
          by false false = waits_asked

    action_asked : (n : Action) → next_of g c p ≡ n → AreAsked (after g c p (line_of n) (effect g c p choice n))
    action_asked (calls x (to_entry s entry k) given) is = entry_asked x s entry k given is x.line
    action_asked (calls x (to_requeue scope) given) is = else_asked (calls x (to_requeue scope) given) tt
    action_asked (calls x (to_procedure scope k) given) is = else_asked (calls x (to_procedure scope k) given) tt
    action_asked (calls x (to_function scope u) given) is = else_asked (calls x (to_function scope u) given) tt
    action_asked (calls x (to_module n scope k) given) is = else_asked (calls x (to_module n scope k) given) tt
    action_asked (calls x (to_process s k) given) is = else_asked (calls x (to_process s k) given) tt
    action_asked (reads x s u) is = else_asked (reads x s u) tt
    action_asked (writes x s v k) is = else_asked (writes x s v k) tt
    action_asked (turns x k) is = else_asked (turns x k) tt
    action_asked (finishes line) is = else_asked (finishes line) tt
    action_asked (prints x bytes k) is = else_asked (prints x bytes k) tt
    action_asked (inputs x t s k) is = else_asked (inputs x t s k) tt
    action_asked (skips x k) is = else_asked (skips x k) tt
    action_asked (asks_eof x u) is = else_asked (asks_eof x u) tt
    action_asked (asks_eoln x u) is = else_asked (asks_eoln x u) tt
    action_asked (asks_clock x u) is = else_asked (asks_clock x u) tt
    action_asked (asks_empty x s u) is = else_asked (asks_empty x s u) tt
    action_asked (draws x m u) is = else_asked (draws x m u) tt
    action_asked (joins x k) is = else_asked (joins x k) tt
    action_asked (initials x s m k) is = else_asked (initials x s m k) tt
    action_asked (waits x s k) is = else_asked (waits x s k) tt
    action_asked (signals x s k) is = else_asked (signals x s k) tt
    action_asked (delays x s rank k) is = else_asked (delays x s rank k) tt
    action_asked (resumes x s k) is = else_asked (resumes x s k) tt
    action_asked (sleeps x m k) is = else_asked (sleeps x m k) tt
    action_asked (meets x o k) is = else_asked (meets x o k) tt
    action_asked (decides x s k) is = else_asked (decides x s k) tt
    action_asked (parts x caller k) is = else_asked (parts x caller k) tt
    action_asked (scans x s k) is = else_asked (scans x s k) tt
    action_asked (bars x b k) is = else_asked (bars x b k) tt
    action_asked (passes x w s k) is = else_asked (passes x w s k) tt
    action_asked (faults x f) is = else_asked (faults x f) tt

    pub step_asked : AreAsked (step g c p choice).config
    step_asked = action_asked (next_of g c p) refl
