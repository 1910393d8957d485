-- How a run ends, and what its report tells, is the same on both sides.
use Rattle.std.proofs.Common.{◌≡◌, ℕ, suc, ◌+◌, ◌<◌, if◌then◌else◌, List, [], ◌∷◌, length, get_or, Option, Some, None, refl, sym, ap, ◌∙◌, arith, is_some}
use Rattle.std.proofs.Common.{inl, inr, true}
use Rattle.pfc_state.specs.Stands.{Stand, Is_done, state_of}
use Rattle.pfc_state.specs.declared.endings.Ending.{Ending}
use Rattle.pfc_state.specs.declared.endings.Ending.TheVariants.{Finished, Fault, Deadlock}
use Rattle.pfc_state.specs.declared.standings.Standing.{Standing}
use Rattle.pfc_world.specs.Tables.{Table, at, some_ready}
use Rattle.pfc_semantics.specs.Configurations.{Activity, Config, FaultAt, nobody}
use Rattle.pfc_semantics.specs.Runs.{is_done, ending_at, standings_from, standings}
use Rattle.pfc_machines.specs.declared.descriptors.Descriptor.{Descriptor}
use Rattle.pfc_machines.specs.declared.machine.Machine.{Machine}
use Rattle.pfc_machines.specs.Descriptors.{descriptor_by}
use Rattle.pfc_representation.specs.Levels.{Facts, program_in}
use Rattle.pfc_representation.specs.Machines.{Represents, Reports, Agrees, goes_on, has_ended}
use Rattle.pfc_settling_laws.specs.Endings.{machine_ending, machine_standings_from, machine_standings}

-- what represents a configuration reports it
pub reports : (facts : Facts) (m : Machine) (c : Config) → Represents facts m c → Reports facts m c
reports facts m c old = record { words = old.alike.words; world = old.world; lines = λ p low. (let its = old.processes p low in its.line) }

pub agreeing_reports : (facts : Facts) (m : Machine) (c : Config) → Agrees facts m c → Reports facts m c
agreeing_reports facts m c (goes_on is) = reports facts m c is
agreeing_reports facts m c (has_ended ended is) = is

pub rows_same : (facts : Facts) (m : Machine) (c : Config) → Reports facts m c → m.world.rows ≡ c.table.rows
rows_same facts m c is = ap (λ (w : Table). w.rows) is.world

abbrev ending_of : List Stand → Option Ending
ending_of rows = if is_done (at rows 0) then Some Finished else if some_ready rows then None else Some Deadlock

pub endings : (facts : Facts) (m : Machine) (c : Config) → Reports facts m c → c.fault ≡ None → machine_ending m ≡ ending_at c
endings facts m c is fine = ap ending_of (rows_same facts m c is) ∙ sym (ap (λ (f : Option FaultAt). ending_at (record c { fault = f })) fine)

-- ## What goes on

fault_ends : (c : Config) (o : Option FaultAt) → c.fault ≡ o → is_some o ≡ true → ending_at c ≡ None → ⊥
fault_ends c None is some none = cc
fault_ends c (Some f) is some none =
    let ended : Some (Fault f.process f.line f.fault) ≡ None = sym (ap (λ (o : Option FaultAt). ending_at (record c { fault = o })) is) ∙ none in
    cc

main_ends : (c : Config) (o : Option FaultAt) → c.fault ≡ o → at c.table.rows 0 ≡ Is_done → ending_at c ≡ None → ⊥
main_ends c (Some f) is done none = fault_ends c (Some f) is refl none
main_ends c None is done none =
    let ended : Some Finished ≡ None =
    ap (λ (s : Stand). if is_done s then Some Finished else if some_ready c.table.rows then None else Some Deadlock) (sym done)
    ∙ sym (ap (λ (o : Option FaultAt). ending_at (record c { fault = o })) is) ∙ none in
    cc

-- a run that is not at its end is represented
pub still_represented : (facts : Facts) (m : Machine) (c : Config) → Agrees facts m c → ending_at c ≡ None → Represents facts m c
still_represented facts m c (goes_on is) none = is
still_represented facts m c (has_ended (inl fault) is) none = absurd (fault_ends c c.fault refl fault none)
still_represented facts m c (has_ended (inr done) is) none = absurd (main_ends c c.fault refl done none)

-- ## What is told

module _ (e : Descriptor) (b : Activity) where
  lines_agree : (n : ℕ) (rows : List Stand) (ds : List Descriptor) (activities : List Activity) → length ds ≡ length activities
      → ((p : ℕ) → p < length activities → (get_or ds p e).line ≡ (get_or activities p b).line)
      → machine_standings_from n rows ds ≡ standings_from n rows activities
  lines_agree n [] ds activities size same = refl
  lines_agree n (s ∷ rows) [] [] size same = refl
  lines_agree n (s ∷ rows) [] (a ∷ activities) size same = absurd (omega (arith, size))
  lines_agree n (s ∷ rows) (d ∷ ds) [] size same = absurd (omega (arith, size))
  lines_agree n (s ∷ rows) (d ∷ ds) (a ∷ activities) size same =
      ap (λ (l : ℕ). record { process = n; state = state_of s; line = l } ∷ machine_standings_from (n + 1) rows ds) (same 0 (omega arith))
      ∙ ap (λ (rest : List Standing). record { process = n; state = state_of s; line = a.line } ∷ rest)
      (lines_agree (n + 1) rows ds activities (omega (arith, size)) (λ p low. same (suc p) (omega (arith, low))))

pub standings_agree : (facts : Facts) (m : Machine) (c : Config) → Reports facts m c → machine_standings m ≡ standings c
standings_agree facts m c is =
    ap (λ (rows : List Stand). machine_standings_from 0 rows m.descriptors) (rows_same facts m c is)
    ∙ lines_agree (descriptor_by 0) (nobody (program_in facts)) 0 c.table.rows m.descriptors c.activities is.words.descriptors is.lines
