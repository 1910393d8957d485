-- Behind each action all processes are placed.
use Rattle.std.proofs.Common.{◌≡◌, ◌≢◌, ◌<◌, ℕ, zero, suc, List, [], ◌∷◌, Option, Some, None, refl, sym, subst, arith}
use Rattle.std.specs.List.{AllByRecursion}
use Rattle.pfc_types.specs.rules.Expressions.{Env}
use Rattle.pfc_semantics.specs.Programs.{Block, Program}
use Rattle.pfc_semantics.specs.Remainders.{Context, Open, Scan, Remainder, in_names, scan_on}
use Rattle.pfc_semantics.specs.Rewriting.{Doing, going}
use Rattle.pfc_semantics.specs.Displays.{Display}
use Rattle.pfc_semantics.specs.Calls.{new_number, new_display, new_activation, cells_above}
use Rattle.pfc_semantics.specs.Processes.{process_block}
use Rattle.pfc_semantics.specs.Time.{settled_config}
use Rattle.pfc_semantics.specs.Configurations.{plain, Caller, Activation, Activity, Hand, empty_hand, offering, Config, body_of, start}
use Rattle.pfc_accept_laws.specs.Places.{PlacesOpen, PlacesRemainder, PlacesDoing}
use Rattle.pfc_accept_laws.proofs.Each.{Told, OpenSo, IsTold, Each}
use Rattle.pfc_accept_laws.proofs.Runs.{start_so, settled_so}
use Rattle.pfc_accept_laws.proofs.Meetings.{open_behind, meeting_places, body_places}
use Rattle.pfc_accept_laws.specs.Placed.{of_process, block_in, DoesIn, CallerIn, HandIn, WaitingIn, FirstIsPlain, IsPlacedIn, HasPlaces}

module _ (g : Program) where
  abbrev pub places : Told
  places =
      record {
        program = g;
        so = IsPlacedIn g;
        alive = λ activations. activations ≢ [];
        requeues = λ mark. mark ≢ plain;
        does = λ q l doing. DoesIn (block_in g q l) doing;
        waits = λ q l caller. CallerIn (block_in g q l) caller;
      }

  none_shown : (w : Option Block) → HandIn w empty_hand
  none_shown None = tt
  none_shown (Some b) = tt

  scan_first : (w : Option Block) (env : Env) (s : Scan) (k : Remainder) → DoesIn w (going env k) → DoesIn w (going env (scan_on s (in_names env k)))
  scan_first None env s k may = tt
  scan_first (Some b) env s k may = λ e. may

  pub any_nothing : (q : ℕ) (l : List Activation) (x : Context) (k : Remainder) (os : List Open) → block_in g q l ≡ None
      → AllByRecursion (OpenSo places q l x k) os
  any_nothing q l x k [] is = tt
  any_nothing q l x k (o ∷ os) is = ((may _, λ a same caller. may _), any_nothing q l x k os is)
    where
      may : (doing : Doing) → DoesIn (block_in g q l) doing
      may doing = subst (λ (w : Option Block). DoesIn w doing) (sym is) tt

  pub all_placed : (q : ℕ) (l : List Activation) (b : Block) (x : Context) (k : Remainder) (os : List Open) → block_in g q l ≡ Some b
      → AllByRecursion (PlacesOpen b x.env k) os → PlacesRemainder b x.env k → AllByRecursion (OpenSo places q l x k) os
  all_placed q l b x k [] is all left = tt
  all_placed q l b x k (o ∷ os) is all left = (
    (may _ (open_behind b x.env o k all.0 left), λ a same caller. may _ (meeting_places b x a o caller k same all.0 left)),
    all_placed q l b x k os is all.1 left,
  )
    where
      may : (doing : Doing) → PlacesDoing b doing → DoesIn (block_in g q l) doing
      may doing placed = subst (λ (w : Option Block). DoesIn w doing) (sym is) placed

  offered_so : (q : ℕ) (l : List Activation) (x : Context) (os : List Open) (k : Remainder) (w : Option Block) → block_in g q l ≡ w
      → HandIn w (offering x os k) → AllByRecursion (OpenSo places q l x k) os
  offered_so q l x os k None is hand = any_nothing q l x k os is
  offered_so q l x os k (Some b) is hand = all_placed q l b x k os is hand.0 hand.1

  plain_below : (a : Activation) (below : List Activation) → FirstIsPlain (a ∷ below) → FirstIsPlain below
  plain_below a [] first = tt
  plain_below a (b ∷ below) first = first

  over : (q : ℕ) (a : Activity) (new : Activation) (l : List Activation) (doing : Doing) (display : Display) (line : ℕ) → l ≢ [] → WaitingIn g q l
      → CallerIn (block_in g q l) new.caller → FirstIsPlain l
      → IsPlacedIn g q (record { doing = doing; display = display; activations = new ∷ l; hand = empty_hand; line = line })
  over q a new [] doing display line some waiting caller first = absurd (some refl)
  over q a new (b ∷ below) doing display line some waiting caller first =
      record { doing = tt; waiting = (caller, waiting); hand = tt; first = first }

  instead : (q : ℕ) (top new : Activation) (below : List Activation) (doing : Doing) (display : Display) (line : ℕ) → top.mark ≢ plain
      → new.caller ≡ top.caller → WaitingIn g q (top ∷ below) → FirstIsPlain (top ∷ below)
      → IsPlacedIn g q (record { doing = doing; display = display; activations = new ∷ below; hand = empty_hand; line = line })
  instead q top new [] doing display line marked same waiting first = absurd (marked first)
  instead q top new (b ∷ below) doing display line marked same waiting first =
      record {
        doing = tt;
        waiting = (subst (λ (c : Caller). CallerIn (block_in g q (b ∷ below)) c) (sym same) waiting.0, waiting.1);
        hand = tt;
        first = first;
      }

  module _ (program : HasPlaces g) where
    begins : (q : ℕ) → DoesIn (of_process g q) (going (process_block g q).env (body_of (process_block g q)))
    begins zero = tt
    begins (suc q) = let p = program (suc q) (above q) in body_places (process_block g (suc q)) p.0 p.1
      where
        above : (n : ℕ) → 0 < suc n
        above n = omega arith

    pub places_told : IsTold places
    places_told =
        record {
          works = λ q a doing may so.
              record { doing = may; waiting = so.waiting; hand = none_shown (block_in g q a.activations); first = so.first };
          lined = λ q a line so. record { doing = so.doing; waiting = so.waiting; hand = so.hand; first = so.first };
          emptied = λ q a so.
              record { doing = so.doing; waiting = so.waiting; hand = none_shown (block_in g q a.activations); first = so.first };
          ended = λ q a so. record { doing = tt; waiting = tt; hand = tt; first = tt };
          created = λ c q a so. record { doing = begins q; waiting = (tt, tt); hand = none_shown (of_process g q); first = refl };
          called = λ c q a b mark caller doing some waiting so.
              over q a (new_activation c a a.activations b mark caller a.display) a.activations doing (new_display c b a.display) a.line some so.waiting waiting
              so.first;
          left = λ q a top below doing is may so.
              record {
                doing = may;
                waiting = (subst (λ (l : List Activation). WaitingIn g q l) is so.waiting).1;
                hand = none_shown (block_in g q below);
                first = plain_below top below (subst FirstIsPlain is so.first);
              };
          requeued = λ c q a top below b doing is marked so.
              instead q top (record top { number = new_number c; scope = b.scope; cells = cells_above below b }) below doing (new_display c b a.display) a.line
              marked refl (subst (λ (l : List Activation). WaitingIn g q l) is so.waiting) (subst FirstIsPlain is so.first);
          back = λ q a top below env k is by so.
              subst (λ (c : Caller). CallerIn (block_in g q below) c) by (subst (λ (l : List Activation). WaitingIn g q l) is so.waiting).0;
          result = λ q a top below x u v is by so.
              (subst (λ (c : Caller). CallerIn (block_in g q below) c) by (subst (λ (l : List Activation). WaitingIn g q l) is so.waiting).0) v;
          scanned = λ q l env s k may. scan_first (block_in g q l) env s k may;
          offered = λ q a x os k is so.
              offered_so q a.activations x os k (block_in g q a.activations) refl
              (subst (λ (h : Hand). HandIn (block_in g q a.activations) h) is so.hand);
          main = record { doing = tt; waiting = (tt, tt); hand = tt; first = refl };
          idle = λ q n. record { doing = tt; waiting = tt; hand = tt; first = tt };
          nobody = λ q. record { doing = tt; waiting = tt; hand = tt; first = tt };
        }

    -- ## Steps

    pub starts_placed : (input : List ℕ) (seed : ℕ) → Each places (start g input seed)
    starts_placed input seed = start_so places places_told input seed

    pub settles_placed : (c : Config) → Each places c → Each places (settled_config c)
    settles_placed c all = settled_so places places_told c all
