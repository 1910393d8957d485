-- Behind each step of a process all processes are placed.
use Rattle.std.proofs.Common.{◌≡◌, ◌≢◌, inl, ℕ, false, List, [], ◌∷◌, Option, Some, None, refl, sym, subst}
use Rattle.pfc_state.specs.Stands.{is_unfinished}
use Rattle.pfc_world.specs.Tables.{at}
use Rattle.pfc_semantics.specs.Programs.{Block, Program}
use Rattle.pfc_semantics.specs.Remainders.{Context, Argument, Call, Open, Otherwise, Selecting, Remainder, Way, Action, leave, own as trying, to_procedure}
use Rattle.pfc_semantics.specs.Remainders.{to_function, to_module, to_requeue, to_process, to_entry, reads, writes, turns, calls, finishes, prints, inputs}
use Rattle.pfc_semantics.specs.Remainders.{skips, asks_eof, asks_eoln, asks_clock, asks_empty, draws, joins, initials, waits, signals, delays, resumes, sleeps}
use Rattle.pfc_semantics.specs.Remainders.{meets, decides, parts, scans, bars, passes, faults}
use Rattle.pfc_semantics.specs.Rewriting.{Doing, going, next}
use Rattle.pfc_semantics.specs.Configurations.{Activation, Hand, offering, asking, barred_at, Config, activity_of}
use Rattle.pfc_semantics.specs.Events.{step}
use Rattle.pfc_semantics.specs.Steps.{next_of}
use Rattle.pfc_accept_laws.specs.Displays.{RequeuesInside}
use Rattle.pfc_accept_laws.specs.Places.{PlacesOtherwise, PlacesAction}
use Rattle.pfc_accept_laws.proofs.Each.{Each, MayShow}
use Rattle.pfc_accept_laws.proofs.Communications.{OthersSo}
use Rattle.pfc_accept_laws.proofs.Effects.{CallsSo, ShowsWay, ActsSo, CallOn, GoesOn}
use Rattle.pfc_accept_laws.proofs.Runs.{step_so}
use Rattle.pfc_accept_laws.proofs.StatementPlaces.{behind_places}
use Rattle.pfc_accept_laws.proofs.Numbers.{placed_stmts}
use Rattle.pfc_accept_laws.proofs.Meetings.{open_behind, meeting_places}
use Rattle.pfc_accept_laws.proofs.NextPlaces.{next_places}
use Rattle.pfc_accept_laws.specs.Placed.{block_in, DoesIn, HandIn, HasPlaces}
use Rattle.pfc_accept_laws.proofs.Placed.{places, places_told, all_placed, any_nothing}

abbrev ActionIn : Option Block → Action → Type 0
ActionIn None n = Unit {0}
ActionIn (Some b) n = PlacesAction b n

action_in : (w : Option Block) (doing : Doing) → DoesIn w doing → ActionIn w (next doing)
action_in None doing may = tt
action_in (Some b) doing may = next_places b doing may

asking_in : (w : Option Block) (hand : Hand) → ((b : Block) → HandIn (Some b) hand) → HandIn w hand
asking_in None hand any = tt
asking_in (Some b) hand any = any b

module _ (g : Program) (p : ℕ) (l : List Activation) where
  shows : (hand : Hand) → HandIn (block_in g p l) hand → MayShow (places g) p l hand
  shows hand shown a same so =
      record {
        doing = so.doing;
        waiting = so.waiting;
        hand = subst (λ (m : List Activation). HandIn (block_in g p m) hand) (sym same) shown;
        first = so.first;
      }

  module _ (b : Block) (is : block_in g p l ≡ Some b) where
    may : (doing : Doing) → DoesIn (Some b) doing → DoesIn (block_in g p l) doing
    may doing placed = subst (λ (w : Option Block). DoesIn w doing) (sym is) placed

    call_on : (x : Context) (call : Call) (given : List Argument) → PlacesAction b (calls x call given) → CallOn (places g) p l x call
    call_on x (to_procedure scope k) given placed = may _ placed
    call_on x (to_function scope u) given placed = λ v. may _ placed
    call_on x (to_module n scope k) given placed = may _ placed
    call_on x (to_requeue scope) given placed = tt
    call_on x (to_process s k) given placed = may _ placed
    call_on x (to_entry s entry k) given placed = may _ placed

    others_on : (x : Context) (k : Remainder) (other : Option Otherwise) → PlacesOtherwise b x.env k other → DoesIn (Some b) (going x.env k)
        → OthersSo (places g) p l x k other
    others_on x k None placed left = tt
    others_on x k (Some other) placed left =
        may _ (behind_places b x.env other.next other.stmts k (placed_stmts b x.env other.next k other.stmts placed) left)

    goes_on : (n : Action) → PlacesAction b n → GoesOn (places g) p l n
    goes_on (writes x s v k) placed = may _ placed
    goes_on (turns x k) placed = may _ placed
    goes_on (prints x bytes k) placed = may _ placed
    goes_on (inputs x ty s k) placed = may _ placed
    goes_on (skips x k) placed = may _ placed
    goes_on (joins x k) placed = may _ placed
    goes_on (initials x s n k) placed = may _ placed
    goes_on (waits x s k) placed = may _ placed
    goes_on (signals x s k) placed = may _ placed
    goes_on (delays x s n k) placed = may _ placed
    goes_on (resumes x s k) placed = may _ placed
    goes_on (sleeps x n k) placed = may _ placed
    goes_on (parts x caller k) placed = may _ placed
    goes_on (reads x s u) placed = λ w. may _ placed
    goes_on (asks_eof x u) placed = λ w. may _ placed
    goes_on (asks_eoln x u) placed = λ w. may _ placed
    goes_on (asks_clock x u) placed = λ w. may _ placed
    goes_on (asks_empty x s u) placed = λ w. may _ placed
    goes_on (draws x n u) placed = λ w. may _ placed
    goes_on (calls x call given) placed = call_on x call given placed
    goes_on (finishes line) placed = tt
    goes_on (meets x o k) placed =
        ((may _ (open_behind b x.env o k placed.0 placed.1), λ a same caller. may _ (meeting_places b x a o caller k same placed.0 placed.1)), may _ placed.1)
    goes_on (decides x s k) placed =
        record {
          offered = all_placed g p l b x k s.offered is placed.0.0 placed.1;
          otherwise = others_on x k s.otherwise placed.0.1 placed.1;
          left = may _ placed.1;
        }
    goes_on (scans x s k) placed = (may _ (placed x.env), λ bar. may _ placed, λ w. may _ placed)
    goes_on (bars x bar k) placed = may _ (placed x.env)
    goes_on (passes x w s k) placed = may _ (placed x.env)
    goes_on (faults x f) placed = tt

  module _ (is : block_in g p l ≡ None) where
    free : (doing : Doing) → DoesIn (block_in g p l) doing
    free doing = subst (λ (w : Option Block). DoesIn w doing) (sym is) tt

    call_free : (x : Context) (call : Call) → CallOn (places g) p l x call
    call_free x (to_procedure scope k) = free _
    call_free x (to_function scope u) = λ v. free _
    call_free x (to_module n scope k) = free _
    call_free x (to_requeue scope) = tt
    call_free x (to_process s k) = free _
    call_free x (to_entry s entry k) = free _

    others_free : (x : Context) (k : Remainder) (other : Option Otherwise) → OthersSo (places g) p l x k other
    others_free x k None = tt
    others_free x k (Some other) = free _

    goes_free : (n : Action) → GoesOn (places g) p l n
    goes_free (writes x s v k) = free _
    goes_free (turns x k) = free _
    goes_free (prints x bytes k) = free _
    goes_free (inputs x ty s k) = free _
    goes_free (skips x k) = free _
    goes_free (joins x k) = free _
    goes_free (initials x s n k) = free _
    goes_free (waits x s k) = free _
    goes_free (signals x s k) = free _
    goes_free (delays x s n k) = free _
    goes_free (resumes x s k) = free _
    goes_free (sleeps x n k) = free _
    goes_free (parts x caller k) = free _
    goes_free (reads x s u) = λ w. free _
    goes_free (asks_eof x u) = λ w. free _
    goes_free (asks_eoln x u) = λ w. free _
    goes_free (asks_clock x u) = λ w. free _
    goes_free (asks_empty x s u) = λ w. free _
    goes_free (draws x n u) = λ w. free _
    goes_free (calls x call given) = call_free x call
    goes_free (finishes line) = tt
    goes_free (meets x o k) = ((free _, λ a same caller. free _), free _)
    goes_free (decides x s k) =
        record { offered = any_nothing g p l x k s.offered is; otherwise = others_free x k s.otherwise; left = free _ }
    goes_free (scans x s k) = (free _, λ bar. free _, λ w. free _)
    goes_free (bars x bar k) = free _
    goes_free (passes x w s k) = free _
    goes_free (faults x f) = tt

  goes : (w : Option Block) → block_in g p l ≡ w → (n : Action) → ActionIn w n → GoesOn (places g) p l n
  goes None is n placed = goes_free is n
  goes (Some b) is n placed = goes_on b is n placed

module _ (g : Program) (c : Config) (p : ℕ) (inside : RequeuesInside g c p) where
  abbrev own_acts : List Activation
  own_acts = (activity_of g c p).activations

  way_shows : (way : Way) → ShowsWay (places g) p own_acts way
  way_shows leave = tt
  way_shows (trying bar) = shows g p own_acts (barred_at bar) (asking_in (block_in g p own_acts) (barred_at bar) (λ b. tt))

  calls_so : (x : Context) (call : Call) (given : List Argument) → next_of g c p ≡ calls x call given → CallsSo (places g) c p call given
  calls_so x (to_entry s entry k) given is = shows g p own_acts (asking _) (asking_in (block_in g p own_acts) (asking _) (λ b. tt))
  calls_so x (to_requeue scope) given is = λ top below on. inside x scope given top below is on
  calls_so x (to_procedure scope k) given is = tt
  calls_so x (to_function scope u) given is = tt
  calls_so x (to_module n scope k) given is = tt
  calls_so x (to_process s k) given is = tt

  meets_hand : (w : Option Block) (x : Context) (o : Open) (k : Remainder) → ActionIn w (meets x o k) → HandIn w (offering x (o ∷ []) k)
  meets_hand None x o k placed = tt
  meets_hand (Some b) x o k placed = ((placed.0, tt), placed.1)

  decides_hand : (w : Option Block) (x : Context) (s : Selecting) (k : Remainder) → ActionIn w (decides x s k) → HandIn w (offering x s.offered k)
  decides_hand None x s k placed = tt
  decides_hand (Some b) x s k placed = (placed.0.0, placed.1)

  acts_so : (n : Action) → next_of g c p ≡ n → ActionIn (block_in g p own_acts) n → ActsSo (places g) c p n
  acts_so (calls x call given) is placed = calls_so x call given is
  acts_so (meets x o k) is placed = shows g p own_acts (offering x (o ∷ []) k) (meets_hand (block_in g p own_acts) x o k placed)
  acts_so (decides x s k) is placed = shows g p own_acts (offering x s.offered k) (decides_hand (block_in g p own_acts) x s k placed)
  acts_so (bars x bar k) is placed = shows g p own_acts (barred_at bar) (asking_in (block_in g p own_acts) (barred_at bar) (λ b. tt))
  acts_so (passes x w s k) is placed = way_shows s.way
  acts_so n is placed = tt

  pub step_placed :
      HasPlaces g → (choice : ℕ) → Each (places g) c → ((n : ℕ) → is_unfinished (at c.table.rows n) ≡ false → p ≢ n) → own_acts ≢ []
      → Each (places g) (step g c p choice).config
  step_placed program choice all apart alive =
      let placed = action_in (block_in g p own_acts) (activity_of g c p).doing (all p).doing in
      step_so (places g) (places_told g program) c p choice all (inl apart) alive (acts_so (next_of g c p) refl placed)
      (goes g p own_acts (block_in g p own_acts) refl (next_of g c p) placed)
