-- The outcome of a text under the trace of its run.
use Rattle.std.proofs.Common.{◌≡◌, ℕ, ◌+◌, ◌-◌, ◌<◌, ◌≤◌, List, ◌++◌, length, Some, None, Result, Ok, Err, refl, sym, ap, ◌∙◌, subst, arith, replicate}
use Rattle.std.proofs.lemmas.List.{length-replicate}
use Rattle.std.proofs.lemmas.List.Elements.{All-weaker}
use Rattle.pfc_base.specs.declared.tokens.Token.{Token}
use Rattle.pfc_base.specs.declared.places.Place.{Place}
use Rattle.pfc_state.specs.Stands.{Is_idle}
use Rattle.pfc_scan.specs.Cutting.{Cutting, tokens, refusal}
use Rattle.pfc_sched.specs.Picks.{first_picking}
use Rattle.pfc_sched.specs.Script.{script}
use Rattle.pfc_sched.specs.declared.picking.Policy.{Policy}
use Rattle.pfc_sched.specs.declared.picking.Policy.TheVariants.{Script}
use Rattle.pfc_tree.specs.trees.Parts.{ProgramTree}
use Rattle.pfc_semantics.specs.Configurations.{Config, start}
use Rattle.pfc_semantics.specs.Programs.{Program, program_of}
use Rattle.pfc_traces.specs.Traces.{trace_of}
use Rattle.pfc_traces.proofs.Acting.{acts_within}
use Rattle.pfc_traces.proofs.Reading.{reads_back}
use Rattle.pfc_traces.proofs.Replaying.{replays}
use Rattle.pfc_outcome.specs.Meanings.{Meaning, Run}
use Rattle.pfc_outcome.specs.Outcomes.{Outcome, Ran, IsOutcomeOfCutting, IsOutcomeOfText, IsOutcomeOfTokens, IsOutcomeOfTree, behind, code_written, no_fault}
use Rattle.pfc_outcome.specs.Outcomes.{ran_with, refused, report_of, run, run_under, static_fault, status_of, stopped_at}
use Rattle.pfc_outcome.specs.Outcomes.{syntax_fault, syntax_refusal, too_large, large}
use Rattle.pfc_outcome.specs.Requests.{Request, Settings, policy_of, script_policy, settings_of}
use Rattle.pfc_replays.specs.Laws.{ReplaysText}
use Rattle.pfc_replays.specs.Replays.{IsOfSource, IsReplayed, replayed, script_of, source_run, told_of, with_script}

-- ## The script

-- the processes of the first configuration
rows_of_start : (g : Program) (input : List ℕ) (seed : ℕ) → length (start g input seed).table.rows ≡ length g.objects.processes + 1
rows_of_start g input seed =
    let n : ℕ = length g.objects.processes in
    let all : length (replicate ((1 + n) - 1) Is_idle) ≡ (1 + n) - 1 = length-replicate ((1 + n) - 1) Is_idle in omega (arith, all)

-- the text of the trace, as a script, is its numbers
script_read : (ran : Ran) → IsReplayed ran → script (script_of ran) ≡ Ok (trace_of (source_run ran))
script_read ran is =
    let g : Program = program_of ran.tree in
    let c : Config = start g ran.settings.input ran.settings.seed in
    let rows : length c.table.rows ≡ length g.objects.processes + 1 = rows_of_start g ran.settings.input ran.settings.seed in
    let few : length g.objects.processes < 4294967295 = is.few in
    let within : (p : ℕ) → p < length c.table.rows → p ≤ 4294967295 = λ p low. omega (arith, low, rows, few) in
    reads_back (trace_of (source_run ran))
    (All-weaker (λ p. p < length c.table.rows) (λ p. p ≤ 4294967295) within (trace_of (source_run ran))
    (acts_within g ran.settings.limit ran.settings.limit (first_picking ran.settings.policy) c))

-- what the trace picks is the run
same_run :
    (ran : Ran) → IsReplayed ran
    → source_run (record { tree = ran.tree; settings = record ran.settings { policy = Script (trace_of (source_run ran)) } }) ≡ source_run ran
same_run ran is =
    let g : Program = program_of ran.tree in
    replays g ran.settings.limit ran.settings.limit (first_picking ran.settings.policy) (start g ran.settings.input ran.settings.seed) is.unstopped is.first

-- ## Outcomes without a run

pub not_ran : (outcome other : Outcome) (ran : Ran) → outcome ≡ other → other.ran ≡ None → outcome.ran ≡ Some ran → ⊥
not_ran outcome other ran is none ran_so = let no : None ≡ Some ran = sym none ∙ sym (ap (λ (o : Outcome). o.ran) is) ∙ ran_so in cc

-- the run that is asked for of a tree
abbrev asked_run : Request → ProgramTree → Policy → Ran
asked_run request tree policy = record { tree = tree; settings = settings_of request policy }

module _ (m : Meaning) (of : IsOfSource m) (request : Request) where
  -- ## A run

  run_again :
      (tree : ProgramTree) (policy : Policy) (ran : Ran) → ran ≡ asked_run request tree policy → IsReplayed ran
      → replayed (ran_with m tree (settings_of request policy)) ran
      ≡ run_under m tree (with_script request (script_of ran)) (policy_of (with_script request (script_of ran)))
  run_again tree policy ran same =
      subst
      (λ (r : Ran). IsReplayed r → replayed (ran_with m tree (settings_of request policy)) r
      ≡ run_under m tree (with_script request (script_of r)) (policy_of (with_script request (script_of r))))
      (sym same) again
    where
      again :
          IsReplayed (asked_run request tree policy)
          → replayed (ran_with m tree (settings_of request policy)) (asked_run request tree policy)
          ≡ run_under m tree (with_script request (script_of (asked_run request tree policy)))
          (policy_of (with_script request (script_of (asked_run request tree policy))))
      again is =
          let here : Ran = asked_run request tree policy in
          let script : Policy = Script (trace_of (source_run here)) in
          let later : Settings = settings_of (with_script request (script_of here)) script in
          let runs_so : m.run tree later ≡ m.run tree (settings_of request policy)
          = of tree later ∙ ap told_of (same_run here is) ∙ sym (of tree (settings_of request policy)) in
          ap
          (λ (r : Run). (let o : Outcome = record {
            status = status_of r.ending;
            bytes = r.output ++ report_of m tree r;
            ran =
                Some (record { tree = tree; settings = later });
          } in o))
          (sym runs_so)
          ∙ sym (ap (λ (x : Result (List ℕ) ℕ). run_under m tree (with_script request (script_of here)) (script_policy x)) (script_read here is))

  under_again :
      (tree : ProgramTree) (heading : List ℕ) (policy : Result Policy ℕ) (outcome : Outcome) (ran : Ran)
      → outcome ≡ behind heading (run_under m tree request policy) → outcome.ran ≡ Some ran → IsReplayed ran
      → replayed outcome ran ≡ behind heading (run_under m tree (with_script request (script_of ran)) (policy_of (with_script request (script_of ran))))
  under_again tree heading (Err item) outcome ran is ran_so replayed_so =
      absurd (not_ran outcome (behind heading (stopped_at m tree item)) ran is refl ran_so)
  under_again tree heading (Ok policy) outcome ran is ran_so replayed_so =
      let here : Ran = asked_run request tree policy in
      let both : Some ran ≡ Some here = sym ran_so ∙ ap (λ (o : Outcome). o.ran) is in
      let same : ran ≡ here = cc in
      ap (λ (o : Outcome). replayed o ran) is ∙ ap (behind heading) (run_again tree policy ran same replayed_so)

  tree_again :
      (tree : ProgramTree) (outcome : Outcome) (ran : Ran) → IsOutcomeOfTree m tree request outcome → outcome.ran ≡ Some ran → IsReplayed ran
      → IsOutcomeOfTree m tree (with_script request (script_of ran)) (replayed outcome ran)
  tree_again tree outcome ran (static_fault fault broken is) ran_so again = absurd (not_ran outcome (refused fault) ran is refl ran_so)
  tree_again tree outcome ran (large whole many is) ran_so again = absurd (not_ran outcome (refused too_large) ran is refl ran_so)
  tree_again tree outcome ran (run whole few is) ran_so again =
      run whole few (under_again tree (code_written m tree request) (policy_of request) outcome ran is ran_so again)

  -- ## A text

  tokens_again :
      (ts : List Token) (end : Place) (outcome : Outcome) (ran : Ran) → IsOutcomeOfTokens m ts end request outcome → outcome.ran ≡ Some ran → IsReplayed ran
      → IsOutcomeOfTokens m ts end (with_script request (script_of ran)) (replayed outcome ran)
  tokens_again ts end outcome ran (syntax_fault code i fault is) ran_so again =
      absurd (not_ran outcome (refused (syntax_refusal ts end code i)) ran is refl ran_so)
  tokens_again ts end outcome ran (no_fault tree written level is) ran_so again = no_fault tree written level (tree_again tree outcome ran is ran_so again)

  cutting_again :
      (cutting : Cutting) (outcome : Outcome) (ran : Ran) → IsOutcomeOfCutting m cutting request outcome → outcome.ran ≡ Some ran → IsReplayed ran
      → IsOutcomeOfCutting m cutting (with_script request (script_of ran)) (replayed outcome ran)
  cutting_again (refusal r) outcome ran is ran_so again = absurd (not_ran outcome (refused r) ran is refl ran_so)
  cutting_again (tokens ts end) outcome ran is ran_so again = tokens_again ts end outcome ran is ran_so again

  pub text_again :
      (text : List ℕ) (outcome : Outcome) (ran : Ran) → IsOutcomeOfText m text request outcome → outcome.ran ≡ Some ran → IsReplayed ran
      → IsOutcomeOfText m text (with_script request (script_of ran)) (replayed outcome ran)
  text_again text outcome ran is ran_so again =
      let below : is.unlisted.ran ≡ Some ran = sym (ap (λ (o : Outcome). o.ran) is.listed) ∙ ran_so in
      record {
        unlisted = replayed is.unlisted ran;
        is = record { cutting = is.is.cutting; cut = is.is.cut; is = cutting_again is.is.cutting is.unlisted ran is.is.is below again };
        listed = ap (λ (o : Outcome). replayed o ran) is.listed;
      }

pub replays_text : ReplaysText
replays_text m text request outcome ran of is ran_so again = text_again m of request text outcome ran is ran_so again
