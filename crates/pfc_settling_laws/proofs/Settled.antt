-- Settling whole.
use Rattle.std.proofs.Common.{◌≡◌, ℕ, ◌<◌, Bool, true, false, if◌then◌else◌, length, is_some, refl, sym, ap, ◌∙◌, subst, inl, inr}
use Rattle.pfc_state.specs.Stands.{Is_done}
use Rattle.pfc_world.specs.Settling.{may_all_end, settled}
use Rattle.pfc_world.specs.Tables.{Table, at}
use Rattle.pfc_world.specs.Terminating.{terminated_where, terminated, wholly_settled}
use Rattle.pfc_semantics.specs.Configurations.{Config, activity_of, with_table}
use Rattle.pfc_semantics.specs.Time.{terminated_over, settled_config}
use Rattle.pfc_machines.specs.declared.machine.Machine.{Machine}
use Rattle.pfc_machine_acts.specs.Settling.{machine_settled}
use Rattle.pfc_translation.specs.Images.{image_of}
use Rattle.pfc_representation.specs.Levels.{Facts, program_in}
use Rattle.pfc_representation.specs.Machines.{SharesWords, machine_table, Represents, Reports, HasEnded, Agrees, goes_on, has_ended}
use Rattle.pfc_settling_laws.proofs.Rooms.{wholly_so}
use Rattle.pfc_settling_laws.proofs.Standings.{stays_at}
use Rattle.pfc_settling_laws.proofs.Tables.{LetsOn, settled_lets_on}
use Rattle.pfc_settling_laws.proofs.Ended.{terminated_ends}
use Rattle.pfc_settling_laws.proofs.Stores.{activities_stay, line_stays}
use Rattle.pfc_settling_laws.proofs.AlikeLetOn.{words_on, represents_on}
use Rattle.pfc_settling_laws.proofs.AlikeEnded.{words_ended, represents_ended}

module _ (facts : Facts) (m : Machine) (c : Config) where
  abbrev w : Table
  w = settled c.table

  on : LetsOn c.table w
  on = settled_lets_on c.table

  -- after the first two steps, the third, or none
  abbrev machine_by : Bool → Machine
  machine_by b = record m { world = machine_table facts (terminated_where b w) }

  abbrev config_by : Bool → Config
  config_by b = with_table (if b then terminated_over w c else c) (terminated_where b w)

  world : m.world ≡ machine_table facts c.table → machine_settled m ≡ machine_by (may_all_end w.rows)
  world is = ap (λ (table : Table). record m { world = table }) (ap wholly_settled is ∙ wholly_so (image_of facts.tree).arms c.table)

  -- ## What is represented

  represents_by : Represents facts m c → (b : Bool) → may_all_end w.rows ≡ b → Represents facts (machine_by b) (config_by b)
  represents_by old true is = represents_ended facts (record m { world = machine_table facts w }) (with_table c w) (represents_on facts m c w on old) is
  represents_by old false is = represents_on facts m c w on old

  pub represents_settled : Represents facts m c → Represents facts (machine_settled m) (settled_config c)
  represents_settled old = subst (λ (n : Machine). Represents facts n (settled_config c)) (sym (world old.world)) (represents_by old (may_all_end w.rows) refl)

  -- ## What is reported

  words_by : SharesWords facts m c → (b : Bool) → SharesWords facts (machine_by b) (config_by b)
  words_by old true = words_ended facts (record m { world = machine_table facts w }) (with_table c w) (words_on facts m c w on old)
  words_by old false = words_on facts m c w on old

  size_by : (b : Bool) → length (config_by b).activities ≡ length c.activities
  size_by true = activities_stay w.rows c.activities
  size_by false = refl

  line_by : (b : Bool) (p : ℕ) → (activity_of (program_in facts) (config_by b) p).line ≡ (activity_of (program_in facts) c p).line
  line_by true p = line_stays (program_in facts) w.rows c.activities p
  line_by false p = refl

  reports_by : Reports facts m c → (b : Bool) → Reports facts (machine_by b) (config_by b)
  reports_by old b =
      record {
        words = words_by old.words b;
        world = refl;
        lines = λ p low. old.lines p (subst (λ n. p < n) (size_by b) low) ∙ sym (line_by b p);
      }

  pub reports_settled : Reports facts m c → Reports facts (machine_settled m) (settled_config c)
  reports_settled old = subst (λ (n : Machine). Reports facts n (settled_config c)) (sym (world old.world)) (reports_by old (may_all_end w.rows))

  -- ## The end

  done_by : (b : Bool) → at c.table.rows 0 ≡ Is_done → at (config_by b).table.rows 0 ≡ Is_done
  done_by true is =
      let ends = terminated_ends w in
      stays_at (at w.rows 0) (at (terminated w).rows 0) Is_done refl ends.main (stays_at (at c.table.rows 0) (at w.rows 0) Is_done refl (on.rows 0) is)
  done_by false is = stays_at (at c.table.rows 0) (at w.rows 0) Is_done refl (on.rows 0) is

  fault_by : (b : Bool) → (config_by b).fault ≡ c.fault
  fault_by true = refl
  fault_by false = refl

  ended_by : (b : Bool) → HasEnded c → HasEnded (config_by b)
  ended_by b (inl fault) = inl (ap is_some (fault_by b) ∙ fault)
  ended_by b (inr done) = inr (done_by b done)

  pub ended_settled : HasEnded c → HasEnded (settled_config c)
  ended_settled is = ended_by (may_all_end w.rows) is

pub agrees_settled : (facts : Facts) (m : Machine) (c : Config) → Agrees facts m c → Agrees facts (machine_settled m) (settled_config c)
agrees_settled facts m c (goes_on is) = goes_on (represents_settled facts m c is)
agrees_settled facts m c (has_ended ended is) = has_ended (ended_settled facts m c ended) (reports_settled facts m c is)
