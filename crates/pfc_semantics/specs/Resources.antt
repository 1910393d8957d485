-- Resources: guards, scans and requeues.
use Rattle.std.specs.Prelude.{ℕ, List, [], ◌∷◌, get_or, Option, Some, None, Ok}
use Rattle.pfc_state.specs.Stands.{ticket_of}
use Rattle.pfc_world.specs.Tables.{at}
use Rattle.pfc_world.specs.Partners.{next_barred}
use Rattle.pfc_world.specs.Resources.{resource_entered, given_up, barred, passed_to, requeued}
use Rattle.pfc_semantics.specs.Store.{with_room, without}
use Rattle.pfc_semantics.specs.Programs.{Guard, Block, Program, block_number}
use Rattle.pfc_semantics.specs.Remainders.{Context, Bar, Way, Scan, Tried, Argument, Remainder, leave, own, in_names, try_guard, scan_on, try_other}
use Rattle.pfc_semantics.specs.Rewriting.{going}
use Rattle.pfc_semantics.specs.Configurations.{Mark, Caller, Hand, Activation, Config, Effect, of_resource, barred_at, activity_of, with_activity, at_work}
use Rattle.pfc_semantics.specs.Configurations.{goes_on, showing, all_passed, resources_held, with_resources, body_of}
use Rattle.pfc_semantics.specs.Calls.{cells_above, unless_full, new_number, new_values, new_display, activated}

-- ## Guards

-- the guard of a procedure of a resource: its line is that of its `when`
abbrev pub bar_of : Program → ℕ → Block → Guard → Bar
bar_of g r b guard = record { resource = r; procedure = block_number g b.scope; context = record { env = guard.env; line = guard.line }; test = guard.test }

-- the body, behind the guard where there is one
abbrev pub guarded_body : Program → ℕ → Block → Option Guard → Remainder
guarded_body g r b None = body_of b
guarded_body g r b (Some guard) = try_guard (bar_of g r b guard) (in_names b.env (body_of b))

-- A call from outside makes the activation and asks to enter, as for a monitor. The holder of a guarded procedure evaluates the guard.
abbrev pub enters_resource : Program → Config → ℕ → Block → ℕ → Caller → List Argument → Effect
enters_resource g c p b r caller args =
    let inside = activated g c p b (of_resource r) caller args (guarded_body g r b b.guard) in
    unless_full p (cells_above (activity_of g c p).activations b) (with_resources inside (resource_entered (resources_held inside) p r))

-- Where the own guard is false, one action bars the process: it waits at that procedure, and the first entrant has the resource, else it is free.
abbrev pub barred_by : Program → Config → ℕ → Context → Bar → Remainder → Effect
barred_by g c p x b k =
    Ok (with_resources (showing g (goes_on g c p x k) p (barred_at b)) (barred (resources_held c) p b.resource b.procedure))

-- ## Scans

abbrev pub scan_of : Program → ℕ → Way → Scan
scan_of g r way = record { resource = r; line = get_or g.resource_ends r 0; after = None; way = way }

-- what a barred process shows, and its ticket
abbrev pub tried : ℕ → Hand → Option ℕ → Option Tried
tried q (barred_at b) (Some ticket) = Some (record { process = q; ticket = ticket; bar = b })
tried q hand ticket = None

abbrev pub tried_at : Program → Config → Option ℕ → Option Tried
tried_at g c None = None
tried_at g c (Some q) = tried q (activity_of g c q).hand (ticket_of (at c.table.rows q))

-- A turn that finds no further barred process: behind a return the first entrant has the resource, or it is free, and the process goes on; behind a
-- requeue the process keeps it, and tries its own guard.
abbrev pub scanned_all : Program → Config → ℕ → Context → Scan → Remainder → Way → Config
scanned_all g c p x s k leave = with_resources (goes_on g c p x k) (given_up (resources_held c) s.resource)
scanned_all g c p x s k (own b) = goes_on g c p x (try_guard b k)

abbrev pub scanned_to : Program → Config → ℕ → Context → Scan → Remainder → Option Tried → Config
scanned_to g c p x s k None = scanned_all g c p x s k s.way
scanned_to g c p x s k (Some w) = goes_on g c p x (try_other w s k)

-- A turn takes the next barred process by ticket; then the process that scans evaluates that one's guard.
abbrev pub scans_at : Program → Config → ℕ → Context → Scan → Remainder → Effect
scans_at g c p x s k = Ok (scanned_to g c p x s k (tried_at g c (next_barred c.table.rows s.resource s.after)))

-- Where that guard is true, one action passes the resource to the barred process, which is ready at its body. Behind a return the process that scanned
-- goes on; behind a requeue it is barred, in the same action, at the procedure to which it has requeued.
abbrev pub passed_by : Program → Config → ℕ → Context → Tried → Remainder → ℕ → Way → Config
passed_by g c p x w k r leave = with_resources (goes_on g c p x k) (passed_to (resources_held c) r w.process)
passed_by g c p x w k r (own b) =
    with_resources (showing g (goes_on g c p x k) p (barred_at b)) (requeued (resources_held c) p r b.procedure w.process)

abbrev pub passes_to : Program → Config → ℕ → Context → Tried → Scan → Remainder → Effect
passes_to g c p x w s k = Ok (passed_by g c p x w k s.resource s.way)

-- ## Requeues

abbrev pub way_to : Program → ℕ → Block → Option Guard → Way
way_to g r b None = leave
way_to g r b (Some guard) = own (bar_of g r b guard)

abbrev pub resource_marked : Mark → ℕ
resource_marked (of_resource r) = r
resource_marked mark = 0

-- The activation gives way to one of the other procedure, with the same caller and the same way back; what is left of the old body is dropped. The
-- process keeps the resource, and scans before it tries its own guard. The old activation is not counted for fault 6.
abbrev pub requeued_in : Program → Config → ℕ → Block → List Argument → Activation → List Activation → Config
requeued_in g c p b args a below =
    let old = activity_of g c p in
    let r = resource_marked a.mark in
    let values = new_values g b (all_passed g c p args) in
    let scan = scan_of g r (way_to g r b b.guard) in
    with_activity (record c { store = with_room (without c.store a.number) (new_number c) values }) p
    (record (at_work old (going b.env (scan_on scan (in_names b.env (body_of b))))) {
      display = new_display c b old.display;
      activations = record a { number = new_number c; scope = b.scope; cells = cells_above below b } ∷ below;
    })

abbrev pub requeues : Program → Config → ℕ → Block → List Argument → List Activation → Effect
requeues g c p b args [] = Ok c
requeues g c p b args (a ∷ below) = unless_full p (cells_above below b) (requeued_in g c p b args a below)
