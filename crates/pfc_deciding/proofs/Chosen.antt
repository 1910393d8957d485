-- The decision of a select, on both sides.
use Rattle.std.proofs.Common.{arith, ◌≡◌, ◌<◌, ℕ, Bool, true, false, List, [], ◌∷◌, length, Result, Ok, Err, refl, sym, ap, ◌∙◌, subst}
use Rattle.std.specs.Prelude.{if◌then◌else◌, IfOk, OnErr}
use Rattle.pfc_state.specs.declared.waits.Arm.{Arm}
use Rattle.pfc_sched.specs.Picks.{Picking}
use Rattle.pfc_world.specs.Selects.{matched}
use Rattle.pfc_program.specs.declared.tables.Tables.{Tables}
use Rattle.pfc_program.specs.declared.names.Names.{Names}
use Rattle.pfc_program.specs.Views.{names_view}
use Rattle.pfc_semantics.specs.Programs.{Program}
use Rattle.pfc_semantics.specs.Remainders as remainders
use Rattle.pfc_semantics.specs.Remainders.{Context, Remainder, Action}
use Rattle.pfc_semantics.specs.Alternatives.{context}
use Rattle.pfc_semantics.specs.Selects.{choices, decides_by, matched_places, place_taken, takes_matched}
use Rattle.pfc_semantics.specs.Runs.{choice_among, behind_choice}
use Rattle.pfc_semantics.specs.Configurations.{Config, Effect}
use Rattle.pfc_pending.specs.Ahead.{deed_ahead}
use Rattle.pfc_pending.specs.Selects.{select_view}
use Rattle.pfc_pending.specs.Waiting.{remainder_of, waiting}
use Rattle.pfc_pending.specs.declared.actions.Deed.{Deed}
use Rattle.pfc_pending.specs.declared.actions.Deed.TheVariants as deed
use Rattle.pfc_pending.specs.declared.pending.Pending.{Pending}
use Rattle.pfc_pending.specs.declared.select.Selecting.{Selecting}
use Rattle.pfc_activities.specs.declared.activities.Activity.{Activity}
use Rattle.pfc_activities.specs.declared.activities.Doing.{Doing}
use Rattle.pfc_activities.specs.declared.changes.Done.{Done}
use Rattle.pfc_activities.specs.declared.source.Source.{Source}
use Rattle.pfc_activities.specs.declared.state.State.{State}
use Rattle.pfc_activities.specs.Relation.{IsAt, Ends, IsSameDoing, StaysAt}
use Rattle.pfc_activities.specs.Views.{context_of, pending_of, deed_of}
use Rattle.pfc_deciding.specs.Coming.{ComesTo, PerformsChosen}
use Rattle.pfc_deciding.specs.Matching.{AreArms, takes_in}
use Rattle.pfc_deciding.specs.Waiting.{goes_otherwise_in}
use Rattle.pfc_deciding.proofs.Taking.{matched_is}

pub none_matched : {A : Type 0} → (l : List A) (n : ℕ) → n ≡ length l → n ≡ 0 → l ≡ []
none_matched [] n h z = refl
none_matched (x ∷ l) n h z = absurd (omega arith)

no_choice : (b : Bool) (n : ℕ) → n ≡ 0 → (if b then 0 else n) ≡ 0
no_choice true n h = refl
no_choice false n h = h

-- ## Nothing is matched

pub otherwise_chosen :
    (source : Source) (s new : State) (picking : Picking) (p : ℕ) (select : Selecting) (arms : List Arm) (d : Done)
    → AreArms s p select.offered.items arms → matched s.world.rows p arms ≡ []
    → ComesTo source s new p (goes_otherwise_in select p) d → PerformsChosen source s new picking picking p select d
otherwise_chosen source s new picking p select arms d are none comes g c a program is_at =
    let t : Tables = source.program.tables in
    let n : Action = deed_of t a.doing (deed.Decides select) in
    let x : Context = context_of t a.doing in
    let k : Remainder = remainder_of (pending_of t a.doing) in
    let sv : remainders.Selecting = select_view select in
    let places : matched_places g c p sv ≡ [] = matched_is source g s c p a n select arms is_at are ∙ none in
    let no : choices g c p n ≡ 0 = no_choice sv.pri (length (matched_places g c p sv)) (ap length places) in (
      ap (behind_choice picking) (sym no),
      comes g c (choice_among picking (choices g c p n)) a n program is_at
          (ap (decides_by g c p x sv k (choice_among picking (choices g c p n))) places) refl,
    )

-- ## One is taken

one_taken :
    (g : Program) (c : Config) (p : ℕ) (x : Context) (sv : remainders.Selecting) (k : Remainder) (choice : ℕ) (l : List ℕ) → 0 < length l
    → decides_by g c p x sv k choice l ≡ Ok (takes_matched g c p x sv k (place_taken sv.pri choice))
one_taken g c p x sv k choice [] h = absurd (omega arith)
one_taken g c p x sv k choice (place ∷ places) h = refl

pub taken_chosen :
    (source : Source) (s new : State) (before after : Picking) (p : ℕ) (select : Selecting) (arms : List Arm) (found place : ℕ) (d : Done)
    → AreArms s p select.offered.items arms → found ≡ length (matched s.world.rows p arms) → 0 < found
    → place ≡ place_taken select.pri (choice_among before (if select.pri then 0 else found)) → after ≡ behind_choice before (if select.pri then 0 else found)
    → ComesTo source s new p (takes_in select place p) d → PerformsChosen source s new before after p select d
taken_chosen source s new before after p select arms found place d are count some place_is after_is comes g c a program is_at =
    let t : Tables = source.program.tables in
    let n : Action = deed_of t a.doing (deed.Decides select) in
    let x : Context = context_of t a.doing in
    let k : Remainder = remainder_of (pending_of t a.doing) in
    let sv : remainders.Selecting = select_view select in
    let many : found ≡ length (matched_places g c p sv)
    = count ∙ ap length (sym (matched_is source g s c p a n select arms is_at are)) in
    let among : (if select.pri then 0 else found) ≡ choices g c p n = ap (λ (i : ℕ). if select.pri then 0 else i) many in
    let choice : ℕ = choice_among before (choices g c p n) in
    let chosen : place ≡ place_taken select.pri choice = place_is ∙ ap (λ (i : ℕ). place_taken select.pri (choice_among before i)) among in (
      after_is ∙ ap (behind_choice before) among,
      comes g c choice a n program is_at
          (one_taken g c p x sv k choice (matched_places g c p sv) (subst (λ (i : ℕ). 0 < i) many some)
          ∙ ap (λ (i : ℕ). (let r : Effect = Ok (takes_matched g c p x sv k i) in r)) (sym chosen))
          refl,
    )

-- ## In more room

deed_same : (t : Tables) (a b : Doing) (deed : Deed) → IsSameDoing a b → deed_of t a deed ≡ deed_of t b deed
deed_same t a b deed same =
    ap (λ (m : Names). deed_ahead t (context (names_view t m) a.line) (waiting t a.pending.items) deed) (sym same.names)
    ∙ ap (λ (l : ℕ). deed_ahead t (context (names_view t b.names) l) (waiting t a.pending.items) deed) (sym same.line)
    ∙ ap (λ (ps : List Pending). deed_ahead t (context_of t b) (waiting t ps) deed) (sym same.pending)

pub chosen_in_room :
    (source : Source) (s mid new : State) (before after : Picking) (p : ℕ) (select : Selecting) (d : Done)
    → StaysAt s mid p → PerformsChosen source mid new before after p select d → PerformsChosen source s new before after p select d
chosen_in_room source s mid new before after p select d stays performs g c a program is_at =
    let t : Tables = source.program.tables in
    let n : Action = deed_of t a.doing (deed.Decides select) in
    let moved : (b : Activity) × IsAt source mid c p b n × IsSameDoing a.doing b.doing = stays source c a n is_at in
    let same : n ≡ deed_of t moved.0.doing (deed.Decides select) = deed_same t a.doing moved.0.doing (deed.Decides select) moved.2 in
    subst
    (λ (m : Action). (after ≡ behind_choice before (choices g c p m)) × Ends source g new c p (choice_among before (choices g c p m)) m [] d)
    (sym same) (performs g c moved.0 program (subst (λ (m : Action). IsAt source mid c p moved.0 m) same moved.1))

pub stays_twice : (s mid new : State) (p : ℕ) → StaysAt s mid p → StaysAt mid new p → StaysAt s new p
stays_twice s mid new p first second source c a n is_at =
    let one : (b : Activity) × IsAt source mid c p b n × IsSameDoing a.doing b.doing = first source c a n is_at in
    let two : (b : Activity) × IsAt source new c p b n × IsSameDoing one.0.doing b.doing = second source c one.0 n one.1 in (
      two.0,
      two.1,
      record {
        names = two.2.names ∙ one.2.names;
        line = two.2.line ∙ one.2.line;
        pending = two.2.pending ∙ one.2.pending;
      },
    )

pub chosen_ok :
    (source : Source) (s mid new : State) (before after : Picking) (p : ℕ) (select : Selecting) (r : Result Done Selecting)
    → StaysAt s mid p → IfOk r (λ d. PerformsChosen source mid new before after p select d) → IfOk r (λ d. PerformsChosen source s new before after p select d)
chosen_ok source s mid new before after p select (Ok d) stays h = chosen_in_room source s mid new before after p select d stays h
chosen_ok source s mid new before after p select (Err given) stays h = h

pub stays_err :
    (s mid new : State) (p : ℕ) (r : Result Done Selecting) → StaysAt s mid p → OnErr r (StaysAt mid new p) → OnErr r (StaysAt s new p)
stays_err s mid new p (Ok d) first second = second
stays_err s mid new p (Err given) first second = stays_twice s mid new p first second
