-- Calls of entries whose owner does not wait to accept them.
use Rattle.std.proofs.Common.{◌≡◌, ℕ, List, true, false, sym, ◌∙◌}
use Rattle.pfc_world.specs.Partners.{is_accepting}
use Rattle.pfc_semantics.specs.Displays.{Spot}
use Rattle.pfc_semantics.specs.Remainders.{Context, Argument, Remainder, calls, to_entry}
use Rattle.pfc_semantics.specs.Configurations.{Config, number_for}
use Rattle.pfc_machines.specs.declared.machine.Machine.{Machine}
use Rattle.pfc_representation.specs.Levels.{Facts, program_in, LivingLevel}
use Rattle.pfc_representation.specs.Acting.{IsActing, HasArrived}
use Rattle.pfc_representation.specs.Actions.{IsKept}
use Rattle.pfc_kept_meetings.specs.Owners.{HasTypedEntries, HasSingles}
use Rattle.pfc_kept_meetings.proofs.Asking.{call_kept}

pub unmet_call_kept : (facts : Facts) (m : Machine) (c : Config) (p choice : ℕ) (level : LivingLevel) (x : Context) (v : Spot) (entry : ℕ) (k : Remainder)
    (given : List Argument) → HasTypedEntries facts.tree → HasSingles facts c → is_accepting c.table.rows (number_for (program_in facts) c p v) entry ≡ false
    → IsActing facts m c p level → HasArrived facts m c p level (calls x (to_entry v entry k) given)
    → IsKept facts m c p choice (calls x (to_entry v entry k) given)
unmet_call_kept facts m c p choice level x v entry k given typed singles unmet acting arrived =
    let (b, checked, (formals, over, held, (alone, (t, n, i, below, process, among, formals_are, over_is, object, there, rest)), lends)) = arrived.arrived in
    call_kept facts m c p choice level x v entry k given alone.0 acting arrived b checked alone.1 singles typed formals over held t n i below process among
    formals_are over_is object there rest
    (record {
      same = λ is. absurd (let no : true ≡ false = sym is ∙ unmet in cc);
      can = λ is. absurd (let no : true ≡ false = sym is ∙ unmet in cc);
    })
