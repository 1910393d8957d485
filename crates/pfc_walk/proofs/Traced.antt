-- Outcomes as they are told.
use Rattle.std.proofs.Common.{◌≡◌, ℕ, List, ◌++◌, append-nil, append_assoc, Option, None, Result, Ok, Err, refl, sym, ap, ◌∙◌, subst}
use Rattle.std.specs.Io.KnownBytes.{Appends}
use Rattle.std.proofs.KnownBytes.{Appends-trans}
use Rattle.pfc_io.specs.Writes.{AppendsFront}
use Rattle.pfc_io.proofs.Written.{AppendsFront-after, AppendsFront-append}
use Rattle.pfc_base.specs.declared.faults.Refusal.{Refusal}
use Rattle.pfc_report.specs.Refusals.{refusal_line_text}
use Rattle.pfc_tree.specs.trees.Parts.{ProgramTree}
use Rattle.pfc_sched.specs.declared.picking.Policy.{Policy}
use Rattle.pfc_outcome.specs.Outcomes.{Outcome, Ran, IsOutcomeOfText, behind, listing_written, refused, run_under, stopped_at, without_run}
use Rattle.pfc_outcome.specs.Requests.{Request, Settings, policy_of, settings_of}
use Rattle.pfc_outcome.specs.declared.walk_options.Shown.{Shown}
use Rattle.pfc_outcome.specs.declared.walk_options.Shown.TheVariants.{Output, Trace, Races}
use Rattle.pfc_walk.specs.Answers.{Gives}
use Rattle.pfc_walk.specs.Meanings.{whole_meaning}
use Rattle.pfc_walk.specs.Reading.{program_outcome}
use Rattle.pfc_walk.specs.Traces.{IsToldAs, IsToldOfText, program_shown, raced, raced_where, races_by, races_shown, run_shown, run_told, told_in, traced}
use Rattle.pfc_walk.specs.Traces.{traced_where, under_shown}

-- an outcome without a run is told as it is
pub told_without :
    (shown : Shown) (heading : List ℕ) (is : Outcome → Type 0) (outcome : Outcome) → outcome.ran ≡ None → is outcome → IsToldAs shown heading is outcome
told_without Output heading is outcome none h = h
told_without Trace heading is outcome none h = (outcome, h, sym (ap (λ (ran : Option Ran). traced_where ran heading outcome) none))
told_without Races heading is outcome none h = (outcome, h, sym (ap (λ (ran : Option Ran). raced_where ran outcome) none))

-- there is one, where there was one
pub told_once :
    (shown : Shown) (heading : List ℕ) (is : Outcome → Type 0) → ((a b : Outcome) → is a → is b → a ≡ b)
    → (a b : Outcome) → IsToldAs shown heading is a → IsToldAs shown heading is b → a ≡ b
told_once Output heading is one a b x y = one a b x y
told_once Trace heading is one a b x y = x.2 ∙ ap (traced heading) (one x.0 y.0 x.1 y.1) ∙ sym y.2
told_once Races heading is one a b x y = x.2 ∙ ap raced (one x.0 y.0 x.1 y.1) ∙ sym y.2

-- the same of other outcomes
pub told_through :
    (shown : Shown) (heading other : List ℕ) (is that : Outcome → Type 0) → heading ≡ other → ((a : Outcome) → is a → that a)
    → (outcome : Outcome) → IsToldAs shown heading is outcome → IsToldAs shown other that outcome
told_through Output heading other is that same through outcome h = through outcome h
told_through Trace heading other is that same through outcome h =
    (h.0, through h.0 h.1, h.2 ∙ ap (λ (x : List ℕ). traced x h.0) same)
told_through Races heading other is that same through outcome h = (h.0, through h.0 h.1, h.2)

-- ## A program

printed_under : (heading : List ℕ) (tree : ProgramTree) (request : Request) (policy : Result Policy ℕ)
    → behind heading (run_under whole_meaning tree request policy) ≡ behind heading (under_shown Output tree request policy)
printed_under heading tree request (Ok policy) = refl
printed_under heading tree request (Err item) = refl

traced_under : (heading : List ℕ) (tree : ProgramTree) (request : Request) (policy : Result Policy ℕ)
    → behind heading (under_shown Trace tree request policy) ≡ traced heading (behind heading (run_under whole_meaning tree request policy))
traced_under heading tree request (Ok policy) = refl
traced_under heading tree request (Err item) = refl

raced_under : (heading : List ℕ) (tree : ProgramTree) (request : Request) (policy : Result Policy ℕ)
    → behind heading (under_shown Races tree request policy) ≡ raced (behind heading (run_under whole_meaning tree request policy))
raced_under heading tree request (Ok policy) =
    let o : Outcome = run_under whole_meaning tree request (Ok policy) in
    ap (λ (bytes : List ℕ). (let x : Outcome = record o { bytes = bytes } in x))
    (sym (append_assoc heading o.bytes (races_by tree (settings_of request policy))))
raced_under heading tree request (Err item) = refl

pub told_program :
    (shown : Shown) (text : List ℕ) (tree : ProgramTree) (request : Request)
    → IsOutcomeOfText whole_meaning text request (program_outcome (listing_written request text) tree request)
    → IsToldOfText shown whole_meaning text request (program_shown shown (listing_written request text) tree request)
told_program Output text tree request h =
    subst (λ (o : Outcome). IsOutcomeOfText whole_meaning text request o)
    (printed_under (listing_written request text) tree request (policy_of request)) h
told_program Trace text tree request h =
    (program_outcome (listing_written request text) tree request, h, traced_under (listing_written request text) tree request (policy_of request))
told_program Races text tree request h =
    (program_outcome (listing_written request text) tree request, h, raced_under (listing_written request text) tree request (policy_of request))

-- a script that is no list of numbers stops before there is a run
pub told_stopped :
    (shown : Shown) (listing : List ℕ) (tree : ProgramTree) (request : Request) (item : ℕ) (line : List ℕ)
    → line ≡ (stopped_at whole_meaning tree item).bytes → policy_of request ≡ Err item
    → behind listing (without_run 10 line) ≡ program_shown shown listing tree request
told_stopped shown listing tree request item line is none =
    let stops : under_shown shown tree request (policy_of request) ≡ stopped_at whole_meaning tree item = ap (under_shown shown tree request) none in
    let written : without_run 10 line ≡ stopped_at whole_meaning tree item = ap (without_run 10) is in
    ap (behind listing) (written ∙ sym stops)

-- the line of a refusal
pub refused_line : (listing line : List ℕ) (r : Refusal) → line ≡ refusal_line_text r → behind listing (without_run 1 line) ≡ behind listing (refused r)
refused_line listing line r is = ap (λ (x : List ℕ). behind listing (without_run 1 x)) is

-- ## The races behind a run

module _ (shown : Shown) (listing : List ℕ) (tree : ProgramTree) (settings : Settings) where
  abbrev told_first : Outcome
  told_first = behind listing (run_told (told_in shown) tree settings)

  abbrev whole : Outcome
  whole = behind listing (run_shown shown tree settings)

  -- what is told of the run, and then the lines of its races
  bytes_are : told_first.bytes ++ races_shown shown tree settings ≡ whole.bytes
  bytes_are = at shown
    where
      at : (s : Shown) → (behind listing (run_told (told_in s) tree settings)).bytes ++ races_shown s tree settings ≡
          (behind listing (run_shown s tree settings)).bytes
      at Output = append-nil (behind listing (run_shown Output tree settings)).bytes
      at Trace = append-nil (behind listing (run_shown Trace tree settings)).bytes
      at Races = append_assoc listing (run_shown Output tree settings).bytes (races_by tree settings)

  status_is : told_first.status ≡ whole.status
  status_is = at shown
    where
      at : (s : Shown) → (behind listing (run_told (told_in s) tree settings)).status ≡ (behind listing (run_shown s tree settings)).status
      at Output = refl
      at Trace = refl
      at Races = refl

  module _ (old mid new : Option (List ℕ)) where
    pub first_front : AppendsFront old new told_first.bytes → AppendsFront old new whole.bytes
    first_front front =
        subst (λ (bytes : List ℕ). AppendsFront old new bytes) bytes_are (AppendsFront-append old new told_first.bytes (races_shown shown tree settings) front)

    pub second_front : (status : ℕ) → Gives told_first status old mid →
        AppendsFront mid new (races_shown shown tree settings) → AppendsFront old new whole.bytes
    second_front status first front =
        subst (λ (bytes : List ℕ). AppendsFront old new bytes) bytes_are
        (AppendsFront-after old mid new told_first.bytes (races_shown shown tree settings) first.written front)

    pub both_whole : (status : ℕ) → Gives told_first status old mid → Appends mid new (races_shown shown tree settings) → Gives whole status old new
    both_whole status first rest = record {
      status = first.status ∙ status_is;
      written =
          subst (λ (bytes : List ℕ). Appends old new bytes) bytes_are
          (Appends-trans old mid new told_first.bytes (races_shown shown tree settings) first.written rest);
    }
