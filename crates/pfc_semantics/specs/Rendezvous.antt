-- Rendezvous: calls of entries, accepts, and their meetings.
use Rattle.std.specs.Prelude.{ℕ, ◌+◌, if◌then◌else◌, List, [], ◌∷◌, set, Option, Some, None, Ok, Err}
use Rattle.pfc_base.specs.declared.faults.RunFault.TheVariants.{NotActive}
use Rattle.pfc_tree.specs.trees.Stmts.{no_stmts, more_stmts}
use Rattle.pfc_types.specs.rules.Statements.{within_accept}
use Rattle.pfc_state.specs.declared.waits.Arm.TheVariants.{Accept as Entry}
use Rattle.pfc_world.specs.Partners.{is_accepting}
use Rattle.pfc_world.specs.Rendezvous.{is_uncalled, called, meeting_ended}
use Rattle.pfc_semantics.specs.Values.{Value}
use Rattle.pfc_semantics.specs.Store.{values_in, with_values}
use Rattle.pfc_semantics.specs.Displays.{Spot, frame_of}
use Rattle.pfc_semantics.specs.Programs.{Program}
use Rattle.pfc_semantics.specs.Remainders.{Context, Accepting, Offer, Open, Argument, Remainder, to_accept, perform, in_names, part_from}
use Rattle.pfc_semantics.specs.Statements.{behind}
use Rattle.pfc_semantics.specs.Configurations.{Hand, Config, Effect, activity_of, asking, empty_hand, goes_on, showing, with_table, number_for, all_passed}
use Rattle.pfc_semantics.specs.Channels.{Side, side_of, behind_replica}

-- ## The meeting

-- The parameters of an accept are variables of the activation in which it stands: from one place on they take these values, one behind the other.
abbrev pub taken_from : ℕ → List Value → List Value → List Value
taken_from first [] values = values
taken_from first (v ∷ vs) values = taken_from (first + 1) vs (set values first v)

abbrev pub parameters_taken : Program → Config → ℕ → Accepting → List Value → Config
parameters_taken g c q a args =
    let f = frame_of (activity_of g c q).display a.scope in
    record c { store = with_values c.store f.activation (taken_from f.first args (values_in c.store f.activation)) }

-- What the accepting process does in the meeting: the write of its replica where there is one, the accept's statement, in which the parameters
-- are in view, and the end of the accept; and behind that what stands behind the accept.
abbrev pub meeting_of : Context → Accepting → Open → ℕ → Remainder → Remainder
meeting_of x a o caller k =
    behind_replica o.replica
    (in_names (within_accept x.env a.scope)
    (perform (a.scope + 1) (more_stmts a.stmt no_stmts) (part_from caller a.line (in_names x.env (behind o.next o.stmts k)))))

-- The meeting of a process with a caller begins: the accept's parameters take the caller's values and references, and the process is at the
-- accept's statement.
abbrev pub met_by : Program → Config → ℕ → Context → Accepting → Open → ℕ → List Value → Remainder → Config
met_by g c q x a o caller args k = goes_on g (parameters_taken g c q a args) q x (meeting_of x a o caller k)

-- ## `p.e(args)`

abbrev pub called_into : Program → Config → ℕ → ℕ → List Value → Side → Offer → Config
called_into g c p q args s (to_accept a) = met_by g c q s.context a s.at p args s.left
called_into g c p q args s offer = c

abbrev pub called_at : Program → Config → ℕ → ℕ → List Value → Option Side → Config
called_at g c p q args None = c
called_at g c p q args (Some s) = called_into g c p q args s s.at.offer

-- Fault 12 where the called process is idle or finished. Where it waits to accept the entry, the meeting begins, and the caller waits in it; else
-- the caller waits for the entry, and shows its arguments.
abbrev pub enters : Program → Config → ℕ → Context → Spot → ℕ → List Argument → Remainder → Effect
enters g c p x s entry args k =
    let q = number_for g c p s in
    let values = all_passed g c p args in
    let waiting = with_table (goes_on g c p x k) (called c.table p q entry) in
    if is_uncalled c.table q
    then Err NotActive
    else if is_accepting c.table.rows q entry
    then Ok (called_at g waiting p q values (side_of g c q (Entry entry)))
    else Ok (showing g waiting p (asking values))

-- ## `accept e`

-- the arguments of a caller that waits
abbrev pub asked : Hand → List Value
asked (asking values) = values
asked hand = []

-- The process that acts takes a caller: it is at the accept's statement. The caller waits anew, in the rendezvous, and shows nothing more.
abbrev pub accepts_from : Program → Config → ℕ → Context → Accepting → Open → ℕ → Remainder → Config
accepts_from g c p x a o caller k = showing g (met_by g c p x a o caller (asked (activity_of g c caller).hand) k) caller empty_hand

-- The end of the accept makes the caller ready.
abbrev pub parted : Program → Config → ℕ → Context → ℕ → Remainder → Effect
parted g c p x caller k = Ok (with_table (goes_on g c p x k) (meeting_ended c.table caller))
