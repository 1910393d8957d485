-- What is asked of an action, all along the runs of a checked program.
use Rattle.std.proofs.Common.{◌≡◌, ℕ, ◌<◌, ◌^◌, refl, sym, ◌∙◌, subst}
use Rattle.pfc_tree.specs.trees.Parts.{ProgramTree}
use Rattle.pfc_semantics.specs.Configurations.{Config}
use Rattle.pfc_semantics.specs.Programs.{Program, program_of}
use Rattle.pfc_semantics.specs.Remainders.{Context, Call, Offer, Open, Remainder, Action, to_procedure, to_function, to_module}
use Rattle.pfc_semantics.specs.Remainders.{to_requeue, to_process, to_entry, to_send, to_receive, to_accept, to_wait, to_end, reads, writes, turns, calls}
use Rattle.pfc_semantics.specs.Remainders.{finishes, prints, inputs, skips, asks_eof, asks_eoln, asks_clock, asks_empty, draws, joins, initials, waits}
use Rattle.pfc_semantics.specs.Remainders.{signals, delays, resumes, sleeps, meets, decides, parts, scans, bars, passes, faults}
use Rattle.pfc_semantics.specs.Steps.{next_of}
use Rattle.pfc_translation.specs.Images.{image_of, image_over}
use Rattle.pfc_machines.specs.declared.machine.Machine.{Machine}
use Rattle.pfc_representation.specs.Levels.{Facts, program_in, LivingLevel}
use Rattle.pfc_representation.specs.Acting.{IsActing}
use Rattle.pfc_kept_own_actions.proofs.Arrived.{has_setting}
use Rattle.pfc_accept_programs.specs.Told.{TellsOfAccepts}
use Rattle.pfc_checked_runs.proofs.accepts.Placed.{keeps_offers, next_stands, next_stand}
use Rattle.pfc_checked_runs.proofs.accepts.Shown.{keeps_accepts}
use Rattle.pfc_kept_meetings.specs.Accepts.{KeepsAccepts}
use Rattle.pfc_kept_actions.specs.Asked.{AskedOfCall, AskedOfMeeting, IsAsked}

module _
    (facts : Facts) (m : Machine) (c : Config) (p choice : ℕ) (level : LivingLevel) (few : (image_of facts.tree).monitors < 2 ^ 32)
    (told : TellsOfAccepts (program_in facts) c) (acting : IsActing facts m c p level)
  where
    same : level.setting.program ≡ program_in facts
    same = (has_setting facts m c p level acting).image.program

    few_so : (t : ProgramTree) → level.setting.program ≡ program_of t → (image_of t).monitors < 2 ^ 32
    few_so t is = subst (λ (q : Program). (image_over q facts.tree).monitors < 2 ^ 32) (sym same ∙ is) few

    accepts : KeepsAccepts facts c
    accepts = keeps_accepts facts c told.back told.passed

    of_call : (call : Call) → AskedOfCall facts c call
    of_call (to_procedure scope k) = tt
    of_call (to_function scope u) = tt
    of_call (to_module n scope k) = tt
    of_call (to_requeue scope) = tt
    of_call (to_process v k) = tt
    of_call (to_entry v entry k) = (accepts, keeps_offers facts c told.placed)

    of_meeting : (x : Context) (o : Open) (k : Remainder) → next_of (program_in facts) c p ≡ meets x o k → (offer : Offer) → o.offer ≡ offer
        → AskedOfMeeting facts c p x offer
    of_meeting x o k next (to_send channel v) is = tt
    of_meeting x o k next (to_receive channel target) is = tt
    of_meeting x o k next (to_accept a) is = (accepts, next_stands facts c told.placed p x o k a next is)
    of_meeting x o k next (to_wait n) is = tt
    of_meeting x o k next to_end is = tt

    asked : (n : Action) → next_of (program_in facts) c p ≡ n → IsAsked facts c p choice level n
    asked (reads x v u) next = tt
    asked (writes x v new k) next = tt
    asked (turns x k) next = tt
    asked (calls x call given) next = of_call call
    asked (finishes line) next = λ t is program. few_so t is
    asked (prints x bytes k) next = tt
    asked (inputs x t v k) next = tt
    asked (skips x k) next = tt
    asked (asks_eof x u) next = tt
    asked (asks_eoln x u) next = tt
    asked (asks_clock x u) next = tt
    asked (asks_empty x v u) next = tt
    asked (draws x n u) next = tt
    asked (joins x k) next = tt
    asked (initials x v n k) next = tt
    asked (waits x v k) next = tt
    asked (signals x v k) next = tt
    asked (delays x v n k) next = tt
    asked (resumes x v k) next = tt
    asked (sleeps x n k) next = tt
    asked (meets x o k) next = of_meeting x o k next o.offer refl
    asked (decides x sel k) next = λ takes. (accepts, next_stand facts c told.placed p x sel k next)
    asked (parts x caller k) next = tt
    asked (scans x scan k) next = tt
    asked (bars x bar k) next = tt
    asked (passes x whom scan k) next = tt
    asked (faults x f) next = tt

    pub is_asked : IsAsked facts c p choice level (next_of (program_in facts) c p)
    is_asked = asked (next_of (program_in facts) c p) refl
