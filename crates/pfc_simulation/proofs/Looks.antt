-- What is told of a machine that agrees with a configuration.
use Rattle.std.proofs.Common.{◌≡◌, ℕ, suc, ◌+◌, ◌<◌, true, List, [], ◌∷◌, length, get_or, refl, ap, ◌∙◌, arith}
use Rattle.pfc_state.specs.Stands.{Stand, Is_idle, Is_created, Is_ready, Waits, Is_done, is_ready, state_of}
use Rattle.pfc_state.specs.declared.standings.Standing.{Standing}
use Rattle.pfc_values.specs.Outputs.{is_open_line}
use Rattle.pfc_semantics.specs.Configurations.{Activity, Config, nobody}
use Rattle.pfc_semantics.specs.Runs as source
use Rattle.pfc_machines.specs.declared.descriptors.Descriptor.{Descriptor}
use Rattle.pfc_machines.specs.declared.machine.Machine.{Machine}
use Rattle.pfc_machines.specs.Descriptors.{descriptor_of}
use Rattle.pfc_representation.specs.Levels.{Facts, program_in}
use Rattle.pfc_representation.specs.Machines.{Reports, ends_inside}
use Rattle.pfc_sessions.specs.Standings.{standings_from, standings}
use Rattle.pfc_run_agreement.specs.Agreement.{LookAlike}
use Rattle.pfc_settling_laws.proofs.Reported.{rows_same}

-- ## Standings

module _ (b : Activity) (ds : List Descriptor) where
  lines_agree : (n : ℕ) (rows : List Stand) (activities : List Activity) → length rows ≡ length activities
      → ((k : ℕ) → k < length activities → (descriptor_of ds (n + k)).line ≡ (get_or activities k b).line)
      → standings_from n rows ds ≡ source.standings_from n rows activities
  lines_agree n [] activities size same = refl
  lines_agree n (s ∷ rows) [] size same = absurd (omega (arith, size))
  lines_agree n (s ∷ rows) (a ∷ activities) size same =
      let here : n ≡ n + 0 = grind arith in
      let line : (descriptor_of ds n).line ≡ a.line = ap (λ (k : ℕ). (let d = descriptor_of ds k in d.line)) here ∙ same 0 (omega arith) in
      ap (λ (l : ℕ). record { process = n; state = state_of s; line = l } ∷ standings_from (n + 1) rows ds) line
      ∙ ap (λ (rest : List Standing). record { process = n; state = state_of s; line = a.line } ∷ rest)
      (lines_agree (n + 1) rows activities (omega (arith, size))
      (λ k low.
      (let next : (n + 1) + k ≡ n + suc k = grind arith in
      ap (λ (j : ℕ). (let d = descriptor_of ds j in d.line)) next ∙ same (suc k) (omega (arith, low)))))

standings_agree : (facts : Facts) (m : Machine) (c : Config) → Reports facts m c → standings m ≡ source.standings c
standings_agree facts m c is =
    ap (λ (rows : List Stand). standings_from 0 rows m.descriptors) (rows_same facts m c is)
    ∙ lines_agree (nobody (program_in facts)) m.descriptors 0 c.table.rows c.activities is.words.rows
    (λ k low.
    (let same : 0 + k ≡ k = grind arith in
    ap (λ (j : ℕ). (let d = descriptor_of m.descriptors j in d.line)) same ∙ is.lines k low))

-- ## The line of the output

open_so : (bytes : List ℕ) → ends_inside bytes ≡ is_open_line bytes
open_so [] = refl
open_so (b ∷ bytes) = refl

pub look_alike : (facts : Facts) (m : Machine) (c : Config) → Reports facts m c → LookAlike m c
look_alike facts m c is = record {
  rows = rows_same facts m c is;
  standings = standings_agree facts m c is;
  in_line = is.words.in_line ∙ open_so c.output;
}

-- ## Who is ready

pub ready_is : (stand : Stand) → is_ready stand ≡ true → stand ≡ Is_ready
ready_is Is_ready e = refl
ready_is Is_idle e = absurd cc
ready_is Is_created e = absurd cc
ready_is (Waits why ticket arms) e = absurd cc
ready_is Is_done e = absurd cc
