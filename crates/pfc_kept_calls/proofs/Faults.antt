-- A fault ends the run on both sides alike.
use Rattle.std.proofs.Common.{◌≡◌, ◌≢◌, ℕ, ◌<◌, length, Option, Err, refl, sym, ap, ◌∙◌, subst, arith, ◌⊎◌, inl, inr}
use Rattle.std.proofs.lemmas.List.{get_or-set_same, get_or-set_other, length-set}
use Rattle.pfc_base.specs.declared.faults.RunFault.{RunFault}
use Rattle.pfc_world.specs.Tables.{Table}
use Rattle.pfc_world.specs.Transitions.{rested, ticked}
use Rattle.pfc_semantics.specs.Programs.{Program}
use Rattle.pfc_semantics.specs.Configurations.{Activity, Config, nobody, activity_of, after}
use Rattle.pfc_machines.specs.declared.machine.Machine.{Machine}
use Rattle.pfc_machines.specs.declared.descriptors.Descriptor.{Descriptor}
use Rattle.pfc_machines.specs.Actions.{at_rest}
use Rattle.pfc_machines.specs.Descriptors.{descriptor_by, descriptor_of}
use Rattle.pfc_machine_acts.specs.Acting.{acted}
use Rattle.pfc_representation.specs.Levels.{Facts, program_in, LivingLevel}
use Rattle.pfc_representation.specs.Machines.{machine_table, SharesWords, Reports, Agrees, has_ended}
use Rattle.pfc_representation.specs.Acting.{IsActing}

either : (q p : ℕ) → (q ≡ p) ⊎ (q ≢ p)
either q p = grind arith

module _ (facts : Facts) (m : Machine) (c : Config) (p : ℕ) (level : LivingLevel) (acting : IsActing facts m c p level) (line : ℕ) (f : RunFault) where
  abbrev g : Program
  g = program_in facts

  abbrev m' : Machine
  m' = acted line p (at_rest m)

  abbrev c' : Config
  c' = after g c p line (Err f)

  activity_count : length c'.activities ≡ length c.activities
  activity_count = length-set c.activities p (record (activity_of g c p) { line = line })

  words : SharesWords facts m' c'
  words =
      let old = acting.alike.words in
      record {
        processes = activity_count ∙ old.processes;
        stacks = old.stacks ∙ sym activity_count;
        descriptors = length-set m.descriptors p (record (descriptor_of m.descriptors p) { line = line }) ∙ old.descriptors ∙ sym activity_count;
        rows = old.rows ∙ sym activity_count;
        semaphores = old.semaphores;
        monitors = old.monitors;
        owners = old.owners;
        resources = old.resources;
        input = old.input;
        draws = old.draws;
        in_line = old.in_line;
      }

  pub world_then : ticked (rested m.world) ≡ machine_table facts (ticked c.table)
  world_then =
      ap (λ (w : Table). ticked (rested w)) acting.world
      ∙ ap (λ (who : Option ℕ). record (machine_table facts (ticked c.table)) { acting = who }) (sym acting.alike.between.acting)

  lines : (q : ℕ) → (q ≡ p) ⊎ (q ≢ p) → q < length c.activities → (descriptor_of m'.descriptors q).line ≡ (activity_of g c' q).line
  lines q (inl same) less =
      let mine : (descriptor_of m'.descriptors p).line ≡ line = ap (λ (e : Descriptor). e.line)
      (get_or-set_same m.descriptors p (record (descriptor_of m.descriptors p) { line = line }) (descriptor_by 0) (subst (λ n. p < n)
      (sym acting.alike.words.descriptors) acting.actor.process)) in
      let its : (activity_of g c' p).line ≡ line = ap (λ (x : Activity). x.line)
      (get_or-set_same c.activities p (record (activity_of g c p) { line = line }) (nobody g) acting.actor.process) in
      subst (λ n. (descriptor_of m'.descriptors n).line ≡ (activity_of g c' n).line) (sym same) (mine ∙ sym its)
  lines q (inr apart) less =
      ap (λ (e : Descriptor). e.line) (get_or-set_other m.descriptors p q (record (descriptor_of m.descriptors p) { line = line }) (descriptor_by 0) apart)
      ∙ (acting.others q less apart).line
      ∙ sym (ap (λ (x : Activity). x.line) (get_or-set_other c.activities p q (record (activity_of g c p) { line = line }) (nobody g) apart))

  reports : Reports facts m' c'
  reports = record { words = words; world = world_then; lines = λ q less. lines q (either q p) (subst (λ n. q < n) activity_count less) }

  pub faulted : Agrees facts m' c'
  faulted = has_ended (inl refl) reports
