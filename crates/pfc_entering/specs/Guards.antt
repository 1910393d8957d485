-- Guards of resources, by the number of the procedure.
use Rattle.std.specs.Prelude.{ℕ, Option, Some, None}
use Rattle.pfc_semantics.specs.Programs.{Guard, Block}
use Rattle.pfc_semantics.specs.Remainders.{Bar, Way, Remainder, leave, own, in_names, try_guard}
use Rattle.pfc_semantics.specs.Configurations.{body_of}

abbrev pub bar_in : ℕ → ℕ → Guard → Bar
bar_in r procedure guard = record { resource = r; procedure = procedure; context = record { env = guard.env; line = guard.line }; test = guard.test }

abbrev pub way_in : ℕ → ℕ → Option Guard → Way
way_in r procedure None = leave
way_in r procedure (Some guard) = own (bar_in r procedure guard)

-- the body, behind the guard where there is one
abbrev pub guarded_in : ℕ → ℕ → Block → Option Guard → Remainder
guarded_in r procedure b None = body_of b
guarded_in r procedure b (Some guard) = try_guard (bar_in r procedure guard) (in_names b.env (body_of b))
