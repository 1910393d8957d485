-- A caller is accepted by a select.
use Rattle.std.specs.Prelude.{ℕ, Ok, option_map}
use Rattle.pfc_world.specs.Rendezvous.{taken}
use Rattle.pfc_semantics.specs.Programs.{Program}
use Rattle.pfc_semantics.specs.Remainders.{Context, Open, Remainder, to_accept}
use Rattle.pfc_semantics.specs.Rendezvous.{accepts_from}
use Rattle.pfc_semantics.specs.Configurations.{Config, Effect, with_table}
use Rattle.pfc_pending.specs.Selects.{accepting_view, replica_view}
use Rattle.pfc_pending.specs.Texts.{stmts_left}
use Rattle.pfc_pending.specs.declared.select.Accepting.{Accepting}
use Rattle.pfc_deciding.specs.declared.own.Behind.{Behind}

-- the alternative that accepts, with what is behind it
abbrev pub accept_open : Accepting → Behind → Open
accept_open a way =
    record { offer = to_accept (accepting_view a); replica = option_map replica_view way.replica; next = way.next; stmts = stmts_left way.stmts }

abbrev pub accepts_it : Accepting → Behind → ℕ → ℕ → Program → Config → Context → Remainder → Effect
accepts_it a way caller p g c x k = Ok (with_table (accepts_from g c p x (accepting_view a) (accept_open a way) caller k) (taken c.table p caller))
