-- The scan behind the return from a resource.
use Rattle.std.specs.Prelude.{ℕ, List, [], ◌∷◌, None}
use Rattle.pfc_program.specs.declared.tables.Tables.{Tables}
use Rattle.pfc_program.specs.InView.{InView}
use Rattle.pfc_program.specs.Views.{names_view}
use Rattle.pfc_semantics.specs.Remainders.{Remainder, scan_on, in_names, leave}
use Rattle.pfc_semantics.specs.Configurations.{Caller, of_nobody, of_remainder, of_value, Activation}
use Rattle.pfc_activities.specs.Shown.{Shown}

-- behind a scan of the resource, whose final `end` has this line, comes this in its names
abbrev pub scan_before : Tables → InView → ℕ → ℕ → Remainder → Remainder
scan_before t names resource line k =
    scan_on (record { resource = resource; line = line; after = None; way = leave }) (in_names (names_view t names) k)

-- behind a scan of the resource, whose final `end` has this line, comes what waits for the end of an activation
abbrev pub behind_scan : ℕ → ℕ → Caller → Caller
behind_scan resource line of_nobody = of_nobody
behind_scan resource line (of_remainder env k) =
    of_remainder env (scan_on (record { resource = resource; line = line; after = None; way = leave }) (in_names env k))
behind_scan resource line (of_value x u) = of_value x u

-- the same of the innermost of these
abbrev pub scan_behind : ℕ → ℕ → List Activation → List Activation
scan_behind resource line [] = []
scan_behind resource line (a ∷ below) = record a { caller = behind_scan resource line a.caller } ∷ below

abbrev pub with_scan : ℕ → ℕ → Shown → Shown
with_scan resource line x = record x { activations = scan_behind resource line x.activations }
