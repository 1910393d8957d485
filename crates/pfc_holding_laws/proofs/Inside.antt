-- Who is inside a monitor and ready holds it.
use Rattle.std.proofs.Common.{sym, ap, ◌∙◌, ◌≡◌, ℕ, ◌||◌, Bool, true, false, List, [], ◌∷◌, Some, refl, subst, inl, inr, ◌≢◌, ◌<◌, ℤ, length}
use Rattle.std.specs.List.{list_any, AllByRecursion}
use Rattle.std.proofs.lemmas.List.Elements.{recursion_from_All}
use Rattle.pfc_state.specs.Stands.{Stand, Is_ready}
use Rattle.pfc_world.specs.Holders.{holder_in}
use Rattle.pfc_world.specs.Tables.{at}
use Rattle.pfc_semantics.specs.Configurations.{Mark, plain, of_monitor, of_resource, Activation, Config, activity_of}
use Rattle.pfc_semantics.specs.Monitors.{is_in, is_inside}
use Rattle.pfc_machines.specs.declared.machine.Machine.{Machine}
use Rattle.pfc_representation.specs.Levels.{Facts, program_in, LivingLevel}
use Rattle.pfc_representation.specs.Holding.{Holders, holders_in, HoldsFor, waits_for_monitor}
use Rattle.pfc_representation.specs.Acting.{IsActing}
use Rattle.pfc_kept_object_actions.proofs.Tests.{numbers_same}
use Rattle.pfc_state.specs.Stands.{is_unfinished}
use Rattle.pfc_world.specs.Tables.{Table}
use Rattle.pfc_semantics.specs.Displays.{Spot}
use Rattle.pfc_semantics.specs.Store.{Store}
use Rattle.pfc_semantics.specs.Remainders.{Context, Remainder, resumes}
use Rattle.pfc_semantics.specs.Configurations.{number_for}
use Rattle.pfc_semantics.specs.Monitors.{monitor_of}
use Rattle.pfc_semantics.specs.Steps.{next_of}
use Rattle.pfc_stacks.specs.Refs.{word_of}
use Rattle.pfc_stacks.specs.Stacks.{stack_of, last_activation}
use Rattle.pfc_cells.specs.Homes.{Homes}
use Rattle.pfc_cells.specs.Memory.{Entry, Entries}
use Rattle.pfc_machines.specs.Communications.{Communicating}
use Rattle.pfc_machines.specs.Descriptors.{descriptor_of}
use Rattle.pfc_representation.specs.Callers.{AreCallers}
use Rattle.pfc_representation.specs.Processes.{ActivationsAre}
use Rattle.pfc_representation.specs.Machines.{Represents}
use Rattle.pfc_kept_object_actions.specs.Groups.{HoldsToResume}
use Rattle.pfc_inside_laws.specs.Inside.{IsScoped, HasText, AreInside, IsAlive}
use Rattle.pfc_inside_laws.proofs.Inside.{resumes_inside}
use Rattle.pfc_holding_laws.specs.Inside.{NamesItsMonitor}

module _ (h : Holders) (p n : ℕ) (stand : Stand) (ready : stand ≡ Is_ready) where
  -- a ready process waits for nothing
  by_mark : (mark : Mark) → HoldsFor h p stand mark → is_in n mark ≡ true → holder_in h.monitors n ≡ Some p
  by_mark plain holds inside = (let no : false ≡ true = inside in absurd (cc))
  by_mark (of_resource r) holds inside = (let no : false ≡ true = inside in absurd (cc))
  by_mark (of_monitor k) (inl holds) inside = subst (λ (j : ℕ). holder_in h.monitors j ≡ Some p) (numbers_same k n inside) holds
  by_mark (of_monitor k) (inr waits) inside =
      absurd (no_wait (subst (λ (s : Stand). waits_for_monitor h.owners k s ≡ true) ready waits))
    where
      no_wait : false ≡ true → ⊥
      no_wait e = cc

  among : (activations : List Activation) → AllByRecursion (λ (a : Activation). HoldsFor h p stand a.mark) activations
      → list_any (λ (a : Activation). is_in n a.mark) activations ≡ true → holder_in h.monitors n ≡ Some p
  among [] all inside = (let no : false ≡ true = inside in absurd (cc))
  among (a ∷ below) all inside = by (is_in n a.mark) refl inside (λ later. among below all.1 later)
    where
      by : (b : Bool) → is_in n a.mark ≡ b → (b || list_any (λ (a : Activation). is_in n a.mark) below) ≡ true
          → (list_any (λ (a : Activation). is_in n a.mark) below ≡ true → holder_in h.monitors n ≡ Some p) → holder_in h.monitors n ≡ Some p
      by true e inside later = by_mark a.mark all.0 e
      by false e inside later = later inside

pub inside_holds :
    (facts : Facts) (m : Machine) (c : Config) (p n : ℕ) (level : LivingLevel) → IsActing facts m c p level
    → is_inside (program_in facts) c p n ≡ true → holder_in c.monitors n ≡ Some p
inside_holds facts m c p n level acting inside =
    let activations = (activity_of (program_in facts) c p).activations in
    let h = holders_in facts c in
    among h p n (at c.table.rows p) acting.actor.ready activations
    (recursion_from_All (λ (a : Activation). HoldsFor h p (at c.table.rows p) a.mark) activations acting.actor.stands.holds.entered) inside

-- ## Who is alive

-- who acts has living activations
called : (facts : Facts) (homes : Homes) (entries : Entries) (store : Store) (table : Table) (p room : ℕ) (level : LivingLevel) (w : ℤ) (latest : Communicating)
    (xs : List Activation) (es : List Entry) → AreCallers facts homes entries store table p room level w latest xs es → xs ≢ []
called facts homes entries store table p room level w latest [] es callers = λ same. callers
called facts homes entries store table p room level w latest (a ∷ xs) es callers = λ same. some a xs same
  where
    some : (b : Activation) (bs : List Activation) → b ∷ bs ≡ [] → ⊥
    some b bs h = cc

pub actor_alive : (facts : Facts) (m : Machine) (c : Config) (p : ℕ) (level : LivingLevel) → IsActing facts m c p level → IsAlive (program_in facts) c p
actor_alive facts m c p level acting =
    called facts acting.homes acting.entries c.store c.table p (stack_of m.stacks p).room level (word_of (last_activation m.stacks p))
    (descriptor_of m.descriptors p).communications (activity_of (program_in facts) c p).activations (acting.entries p) acting.actor.stands.callers

-- so has who is ready
pub ready_alive :
    (facts : Facts) (m : Machine) (c : Config) (p : ℕ) → Represents facts m c → p < length c.activities → at c.table.rows p ≡ Is_ready
    → IsAlive (program_in facts) c p
ready_alive facts m c p represents among ready =
    by (activity_of (program_in facts) c p).activations (represents.processes p among).activations
  where
    no : true ≡ false → ⊥
    no h = cc

    some : (b : Activation) (bs : List Activation) → b ∷ bs ≡ [] → ⊥
    some b bs h = cc

    by : (xs : List Activation)
        → ActivationsAre xs facts represents.homes represents.entries c.store m.stacks c.table (holders_in facts c) p (activity_of (program_in facts) c p)
        (descriptor_of m.descriptors p)
        → xs ≢ []
    by [] rest = λ same. no (sym (ap is_unfinished ready) ∙ rest.finished)
    by (a ∷ xs) rest = λ same. some a xs same

-- ## Who resumes

pub resumer_holds :
    (facts : Facts) (m : Machine) (c : Config) (p : ℕ) (level : LivingLevel) (x : Context) (v : Spot) (k : Remainder) → IsActing facts m c p level
    → IsScoped (program_in facts) → HasText (program_in facts) → AreInside (program_in facts) c → next_of (program_in facts) c p ≡ resumes x v k
    → NamesItsMonitor (program_in facts) c p v → HoldsToResume facts c p v
resumer_holds facts m c p level x v k acting scoped text inside next own child waits =
    let g = program_in facts in
    let n = monitor_of g (number_for g c p v) in
    inside_holds facts m c p n level acting (resumes_inside g scoped text c p n x v k inside (actor_alive facts m c p level acting) child next own)
