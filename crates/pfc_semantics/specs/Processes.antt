-- Processes: activation, the wait at `coend`, and their end.
use Rattle.std.specs.Prelude.{ℕ, ◌-◌, if◌then◌else◌, List, [], ◌∷◌, length, get_or, Ok, Err}
use Rattle.pfc_base.specs.declared.faults.RunFault.TheVariants.{Active}
use Rattle.pfc_types.specs.Scopes.{scope_at}
use Rattle.pfc_state.specs.declared.waits.Why.TheVariants.{Coend}
use Rattle.pfc_state.specs.Stands.{Is_created, is_unfinished}
use Rattle.pfc_world.specs.Tables.{at, some_created}
use Rattle.pfc_world.specs.Transitions.{placed, blocked, all_started, finished}
use Rattle.pfc_semantics.specs.Values.{Value}
use Rattle.pfc_semantics.specs.Store.{Store, with_room, without}
use Rattle.pfc_semantics.specs.Layouts.{laid_names}
use Rattle.pfc_semantics.specs.Displays.{Spot, Display, accept_frames}
use Rattle.pfc_semantics.specs.Programs.{Block, Program}
use Rattle.pfc_semantics.specs.Remainders.{Context, Argument, Remainder}
use Rattle.pfc_semantics.specs.Rewriting.{going}
use Rattle.pfc_semantics.specs.Configurations.{Activation, Activity, Config, Effect, plain, of_nobody, activity_of, with_activity, with_table, at_work, goes_on}
use Rattle.pfc_semantics.specs.Configurations.{number_for, all_passed, body_of, declared_block, empty_hand}
use Rattle.pfc_semantics.specs.Calls.{new_number, new_values, own_frame, new_activation, cells_above, unless_full}

-- ## Activation

-- the declaration of a process, by its number
abbrev pub declaration_of : Program → ℕ → ℕ
declaration_of g n = get_or g.objects.processes (n - 1) 0

abbrev pub process_block : Program → ℕ → Block
process_block g n = declared_block g (declaration_of g n)

-- a process sees its own scope, and in the statements of its accepts the parameters of those, which are variables of the same activation
abbrev pub process_display : Program → Config → Block → Display
process_display g c b =
    let own = length (laid_names (scope_at g.state.blocks.scopes b.scope)) in
    own_frame c b ∷ accept_frames g.state.blocks (new_number c) b.accepts b.next own

-- The process is at its body, in its first activation, and created. Its line stays until its first action.
abbrev pub created : Program → Config → ℕ → Block → List Value → Config
created g c n b args =
    let a = activity_of g c n in
    with_activity
    (record c { store = with_room c.store (new_number c) (new_values g b args); table = placed c.table n Is_created })
    n
    (record (at_work a (going b.env (body_of b))) {
      display = process_display g c b;
      activations = new_activation c a [] b plain of_nobody [] ∷ [];
    })

-- `p(args)`: fault 9 where p is created, ready or waiting; then fault 6 where its block has too many cells. One that has finished may be
-- activated again.
abbrev pub creates : Program → Config → ℕ → Context → Spot → List Argument → Remainder → Effect
creates g c p x s args k =
    let n = number_for g c p s in
    let b = process_block g n in
    if is_unfinished (at c.table.rows n)
    then Err Active
    else unless_full n (cells_above [] b) (goes_on g (created g c n b (all_passed g c p args)) p x k)

-- ## The wait at `coend`

-- All that are created become ready, in one action; main waits until each of them has finished. Where none is created it goes on at once.
abbrev pub joined : Program → Config → ℕ → Context → Remainder → Effect
joined g c p x k =
    if some_created c.table.rows
    then Ok (with_table (goes_on g c p x k) (blocked (all_started c.table) p Coend []))
    else Ok (goes_on g c p x k)

-- ## The end of a process

-- what a process is that has no activation any more
abbrev pub ended_activity : Activity → Activity
ended_activity a = record a { display = []; activations = []; hand = empty_hand }

abbrev pub without_all : Store → List Activation → Store
without_all store [] = store
without_all store (a ∷ rest) = without_all (without store a.number) rest

-- It has finished. The end of the last child makes main ready, where that one waits at `coend`.
abbrev pub ended_process : Program → Config → ℕ → Config
ended_process g c p =
    let a = activity_of g c p in
    with_activity (record c { store = without_all c.store a.activations; table = finished c.table p }) p (ended_activity a)
