-- What is told of each process, and kept by all that actions and settling do to one.
use Rattle.std.proofs.Common.{◌≡◌, ℕ, zero, suc, Bool, true, false, nat_le, if◌then◌else◌, List, [], ◌∷◌, get_or, set, Ok, Err, refl, sym, subst}
use Rattle.std.specs.List.{AllByRecursion}
use Rattle.pfc_base.specs.declared.faults.RunFault.TheVariants.{Stack}
use Rattle.pfc_types.specs.rules.Expressions.{Env}
use Rattle.pfc_semantics.specs.Values.{Value}
use Rattle.pfc_semantics.specs.Programs.{Block, Program}
use Rattle.pfc_semantics.specs.Remainders.{Accepting, Context, Open, Remainder, AwaitsValue, Scan, to_accept, in_names, scan_on}
use Rattle.pfc_semantics.specs.Rewriting.{Doing, going, holding}
use Rattle.pfc_semantics.specs.Channels.{behind_open}
use Rattle.pfc_semantics.specs.Rendezvous.{meeting_of}
use Rattle.pfc_semantics.specs.Configurations.{Mark, plain, Caller, of_nobody, of_remainder, of_value, Activation, Activity, Hand, empty_hand, offering, Config}
use Rattle.pfc_semantics.specs.Configurations.{Effect, body_of, main_activity, idle_activity, nobody, activity_of, with_activity, at_work, doing_next, goes_on}
use Rattle.pfc_semantics.specs.Configurations.{holds, showing}
use Rattle.pfc_semantics.specs.Calls.{most_cells, unless_full, new_number, new_display, new_activation, cells_above}
use Rattle.pfc_semantics.specs.Processes.{process_block, process_display, ended_activity}
use Rattle.pfc_accept_laws.proofs.Lists.{set_changes}

-- of a program: what is told of a process by its number; and of the activations and the mark of who calls and requeues
pub record Told : Type 1 where
  pub program : Program
  pub so : ℕ → Activity → Type 0
  pub alive : List Activation → Type 0
  -- what it may be at in these activations, and what may wait there for a call
  pub does : ℕ → List Activation → Doing → Type 0
  pub waits : ℕ → List Activation → Caller → Type 0
  pub requeues : Mark → Type 0

-- with what it may go on behind an open alternative, and in a meeting
abbrev pub OpenSo : Told → ℕ → List Activation → Context → Remainder → Open → Type 0
OpenSo t q l x k o =
    t.does q l (going x.env (behind_open o k))
    × ((a : Accepting) → o.offer ≡ to_accept a → (caller : ℕ) → t.does q l (going x.env (meeting_of x a o caller k)))

-- It stays so whatever a process does next and whatever its line is, when it shows nothing more, when it ends or
-- begins, and behind calls, returns and requeues.
pub record IsTold (t : Told) : Type 0 where
  pub works : (q : ℕ) (a : Activity) (doing : Doing) → t.does q a.activations doing → t.so q a → t.so q (at_work a doing)
  pub lined : (q : ℕ) (a : Activity) (line : ℕ) → t.so q a → t.so q (record a { line = line })
  pub emptied : (q : ℕ) (a : Activity) → t.so q a → t.so q (record a { hand = empty_hand })
  pub ended : (q : ℕ) (a : Activity) → t.so q a → t.so q (ended_activity a)
  pub created : (c : Config) (q : ℕ) (a : Activity) → t.so q a
      → t.so q
      (record (at_work a (going (process_block t.program q).env (body_of (process_block t.program q)))) {
        display = process_display t.program c (process_block t.program q);
        activations = new_activation c a [] (process_block t.program q) plain of_nobody [] ∷ [];
      })
  pub called : (c : Config) (q : ℕ) (a : Activity) (b : Block) (mark : Mark) (caller : Caller) (doing : Doing) → t.alive a.activations
      → t.waits q a.activations caller → t.so q a
      → t.so q
      (record (at_work a doing) {
        display = new_display c b a.display;
        activations = new_activation c a a.activations b mark caller a.display ∷ a.activations;
      })
  pub left : (q : ℕ) (a : Activity) (top : Activation) (below : List Activation) (doing : Doing) → a.activations ≡ top ∷ below
      → t.does q below doing → t.so q a → t.so q (record (at_work a doing) { display = top.display; activations = below })
  pub back : (q : ℕ) (a : Activity) (top : Activation) (below : List Activation) (env : Env) (k : Remainder) → a.activations ≡ top ∷ below
      → top.caller ≡ of_remainder env k → t.so q a → t.does q below (going env k)
  pub result : (q : ℕ) (a : Activity) (top : Activation) (below : List Activation) (x : Context) (u : AwaitsValue) (v : Value) → a.activations ≡ top ∷ below
      → top.caller ≡ of_value x u → t.so q a → t.does q below (holding x v u)
  pub scanned : (q : ℕ) (l : List Activation) (env : Env) (s : Scan) (k : Remainder) → t.does q l (going env k)
      → t.does q l (going env (scan_on s (in_names env k)))
  pub offered : (q : ℕ) (a : Activity) (x : Context) (os : List Open) (k : Remainder) → a.hand ≡ offering x os k → t.so q a
      → AllByRecursion (OpenSo t q a.activations x k) os
  pub requeued : (c : Config) (q : ℕ) (a : Activity) (top : Activation) (below : List Activation) (b : Block) (doing : Doing) → a.activations ≡ top ∷ below
      → t.requeues top.mark → t.so q a
      → t.so q
      (record (at_work a doing) {
        display = new_display c b a.display;
        activations = record top { number = new_number c; scope = b.scope; cells = cells_above below b } ∷ below;
      })
  pub main : t.so 0 (main_activity t.program)
  pub idle : (q n : ℕ) → t.so q (idle_activity t.program n)
  pub nobody : (q : ℕ) → t.so q (nobody t.program)

set_keeps : (d : Activity) (activities : List Activity) (p q : ℕ) (a : Activity) → a.activations ≡ (get_or activities p d).activations
    → (get_or (set activities p a) q d).activations ≡ (get_or activities q d).activations
set_keeps d [] p q a same = refl
set_keeps d (b ∷ activities) zero zero a same = same
set_keeps d (b ∷ activities) zero (suc q) a same = refl
set_keeps d (b ∷ activities) (suc p) zero a same = refl
set_keeps d (b ∷ activities) (suc p) (suc q) a same = set_keeps d activities p q a same

module _ (t : Told) where
  abbrev pub Each : Config → Type 0
  Each c = (q : ℕ) → t.so q (activity_of t.program c q)

  abbrev pub acts_of : Config → ℕ → List Activation
  acts_of c q = (activity_of t.program c q).activations

  -- whoever goes on has the activations that it had
  pub acts_stay : (c : Config) (p : ℕ) (doing : Doing) (q : ℕ) → acts_of (doing_next t.program c p doing) q ≡ acts_of c q
  acts_stay c p doing q = set_keeps (nobody t.program) c.activities p q (at_work (activity_of t.program c p) doing) refl

  abbrev pub EachIn : Effect → Type 0
  EachIn (Ok c) = Each c
  EachIn (Err f) = Unit {0}

  -- it stays so when the process shows this
  abbrev pub MayShow : ℕ → List Activation → Hand → Type 0
  MayShow p l hand = (a : Activity) → a.activations ≡ l → t.so p a → t.so p (record a { hand = hand })

  pub effect_either : (b : Bool) (d e : Effect) → EachIn d → EachIn e → EachIn (if b then d else e)
  effect_either true d e first second = first
  effect_either false d e first second = second

  pub unless_full_so : (p cells : ℕ) (c : Config) → Each c → EachIn (unless_full p cells c)
  unless_full_so p cells c all = effect_either (nat_le cells (most_cells p)) (Ok c) (Err Stack) all tt

  module _ (told : IsTold t) where
    pub each_with : (c : Config) (p : ℕ) (a : Activity) → Each c → t.so p a → Each (with_activity c p a)
    each_with c p a all one q =
        set_changes (t.so q) (nobody t.program) c.activities p q a (λ is. subst (λ (n : ℕ). t.so n a) (sym is) one) (λ off. all q) (told.nobody q)

    pub it_shows :
        (c : Config) (p : ℕ) (hand : Hand) (l : List Activation) → acts_of c p ≡ l → Each c → MayShow p l hand → Each (showing t.program c p hand)
    it_shows c p hand l is all may = each_with c p _ all (may (activity_of t.program c p) is (all p))

    pub it_does : (c : Config) (p : ℕ) (doing : Doing) → Each c → t.does p (acts_of c p) doing → Each (doing_next t.program c p doing)
    it_does c p doing all may = each_with c p _ all (told.works p (activity_of t.program c p) doing may (all p))

    pub it_goes : (c : Config) (p : ℕ) (x : Context) (k : Remainder) → Each c → t.does p (acts_of c p) (going x.env k) → Each (goes_on t.program c p x k)
    it_goes c p x k all may = it_does c p (going x.env k) all may

    pub it_holds :
        (c : Config) (p : ℕ) (x : Context) (v : Value) (u : AwaitsValue) → Each c → t.does p (acts_of c p) (holding x v u) → Each (holds t.program c p x v u)
    it_holds c p x v u all may = it_does c p (holding x v u) all may

-- where nothing is asked of what is done, all may be
pub any_open :
    (t : Told) → ((q : ℕ) (l : List Activation) (doing : Doing) → t.does q l doing) → (q : ℕ) (l : List Activation) (x : Context) (k : Remainder)
    (os : List Open) → AllByRecursion (OpenSo t q l x k) os
any_open t any q l x k [] = tt
any_open t any q l x k (o ∷ os) = ((any q l _, λ a is caller. any q l _), any_open t any q l x k os)
