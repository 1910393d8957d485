-- An action that was done, and what is told of it.
use Rattle.std.proofs.Common.{◌≡◌, ℕ, ◌<◌, ◌≤◌, ◌*◌, ◌^◌, Bool, List, [], ◌∷◌, ◌++◌, length, Ok, sym, ap, ◌∙◌, subst, arith}
use Rattle.std.proofs.Common.{append-nil, length-append}
use Rattle.pfc_values.specs.Outputs.{Gains, is_open_line}
use Rattle.pfc_world.specs.Tables.{Table, at}
use Rattle.pfc_world.specs.Tickets.{IsNew}
use Rattle.pfc_sched.specs.Picks.{Picking}
use Rattle.pfc_traces.specs.Traces.{trace_text}
use Rattle.pfc_semantics.specs.Programs.{Program}
use Rattle.pfc_semantics.specs.Configurations.{Config}
use Rattle.pfc_semantics.specs.Selects.{choices}
use Rattle.pfc_semantics.specs.Steps.{next_of, effect}
use Rattle.pfc_semantics.specs.Runs.{choice_among}
use Rattle.pfc_activities.specs.declared.changes.Done.{Done}
use Rattle.pfc_activities.specs.declared.source.Source.{Source}
use Rattle.pfc_activities.specs.declared.state.State.{State}
use Rattle.pfc_activities.specs.Relation.{MayAct}
use Rattle.pfc_acting.specs.Acting.{IsAction, IsActed, StandsBefore}
use Rattle.pfc_acting.proofs.Before.{before_any}
use Rattle.pfc_watching.specs.Watching.{Watches, done_of, step_by}
use Rattle.pfc_watching.specs.declared.acting.Walked.{Walked}
use Rattle.pfc_walker.specs.Telling.{IsActTold}
use Rattle.pfc_walker.specs.Walks.{IsReadyToAct, IsStep, Walks, WalksBefore}
use Rattle.pfc_walker.specs.declared.walker.Walker.{Walker}
use Rattle.pfc_walker.specs.declared.telling.Told.TheVariants.{Output, Trace}
use Rattle.pfc_walker.proofs.Gathering.{open_grown}
use Rattle.pfc_walker.proofs.Joining.{who_acted}

-- ## Bytes that were put

pub put_so : (old new text : List ℕ) → Gains old new (Ok text) → new ≡ old ++ text
put_so old new text gains = let same = gains.given in let e : text ≡ gains.added = cc in gains.bytes ∙ ap (λ (x : List ℕ). old ++ x) (sym e)

-- ## What is told of an action

module _
    (source : Source) (old new : State) (p : ℕ) (picking picking' : Picking) (out out' : List ℕ) (d : Done)
  where
    pub told_printed : IsActed source old new p picking picking' out out' d → IsActTold Output source old new p picking picking' out out' d
    told_printed acted g c program before =
        let action = acted g c program before in
        record {
          printed = action.bytes;
          ends = action.ends;
          picked = action.picked;
          bytes = action.bytes;
          tells = action.ends.output;
          written = action.written;
        }

    pub told_traced :
        (line line' : List ℕ) → IsActed source old new p picking picking' line line' d → out' ≡ out ++ trace_text (p ∷ [])
        → IsActTold Trace source old new p picking picking' out out' d
    told_traced line line' acted written g c program before =
        let action = acted g c program before in
        let k : ℕ = choice_among picking (choices g c p (next_of g c p)) in
        record {
          printed = action.bytes;
          ends = action.ends;
          picked = action.picked;
          bytes = trace_text (p ∷ []);
          tells = ap (λ (q : ℕ). trace_text (q ∷ [])) (sym (who_acted g c p k (next_of g c p) (effect g c p k (next_of g c p))));
          written = written;
        }

-- ## Before an action

pub may_act_before : (source : Source) (s : State) (c : Config) (p : ℕ) → StandsBefore source s c p → IsReadyToAct c p → MayAct s p
may_act_before source s c p before may =
    let is_at = before.1 in
    let agrees = is_at.before.agrees in
    record {
      within = subst (λ (n : ℕ). p < n) (sym agrees.count) may.within;
      ready = ap (λ (w : Table). at w.rows p) agrees.table ∙ may.ready;
      alone = ap (λ (w : Table). w.acting) agrees.table ∙ is_at.quiet.acting;
      fresh = subst (λ (w : Table). IsNew w.rows w.done) (sym agrees.table) is_at.quiet.fresh;
      done = subst (λ (w : Table). w.done < 10 ^ 18) (sym agrees.table) may.done;
      moment = subst (λ (w : Table). w.moment < 2 * 10 ^ 18) (sym agrees.table) may.moment;
    }

pub walks_before : (w : Walker) (g : Program) (c : Config) (p : ℕ) → p < length c.table.rows → Walks w g c → WalksBefore w g c p
walks_before w g c p within walks =
    record {
      program = walks.program;
      stands = before_any w.source.now w.state c p (subst (λ (n : ℕ). p < n) (sym walks.stands.mirrors.agrees.count) within) walks.stands;
      line = walks.line;
    }

-- ## Behind an action

-- where bytes were put, their end is that of the output
pub open_as_put : (old out bytes out' : List ℕ) → out' ≡ out ++ bytes → length out < length out' → is_open_line out' ≡ is_open_line (old ++ bytes)
open_as_put old out [] out' written more = absurd (omega (arith, more, ap length (written ∙ append-nil out)))
open_as_put old out (b ∷ bytes) out' written more = ap is_open_line written ∙ open_grown out (b ∷ bytes) ∙ sym (open_grown old (b ∷ bytes))

-- where none were, the output is as it was
pub open_as_before : (old out bytes out' : List ℕ) → out' ≡ out ++ bytes → length out' ≤ length out → is_open_line old ≡ is_open_line (old ++ bytes)
open_as_before old out [] out' written none = ap is_open_line (sym (append-nil old))
open_as_before old out (b ∷ bytes) out' written none = absurd (omega (arith, none, ap length written ∙ length-append out (b ∷ bytes)))

-- whether it is known at all
pub line_so :
    (old out bytes out' : List ℕ) (line line' : Bool) (before : ℕ) → out' ≡ out ++ bytes → before ≡ length out → line ≡ is_open_line old
    → (before < length out' → line' ≡ is_open_line out') → (length out' ≤ before → line' ≡ line) → line' ≡ is_open_line (old ++ bytes)
line_so old out [] out' line line' before written held known more none =
    none (omega (arith, held, ap length (written ∙ append-nil out))) ∙ known
    ∙ open_as_before old out [] out' written (omega (arith, ap length (written ∙ append-nil out)))
line_so old out (b ∷ bytes) out' line line' before written held known more none =
    more (omega (arith, held, ap length written ∙ length-append out (b ∷ bytes)))
    ∙ open_as_put old out (b ∷ bytes) out' written (omega (arith, ap length written ∙ length-append out (b ∷ bytes)))

pub is_step :
    (w : Walker) (state : State) (line waited : Bool) (g : Program) (c : Config) (p : ℕ) (picking picking' : Picking) (out out' : List ℕ) (x : Walked)
    → WalksBefore w g c p → (action : IsAction w.source.now g state c p (next_of g c p) picking picking' out out' (done_of x))
    → Watches (step_by g c p picking) w.waited waited x → line ≡ is_open_line (c.output ++ action.bytes)
    → IsStep w.waited (record { source = w.source; state = state; in_line = line; waited = waited }) g c p picking picking' out out' x
is_step w state line waited g c p picking picking' out out' x before action watched known =
    record {
      walks = λ stepped. record {
        program = before.program;
        stands = action.ends.stands stepped;
        line = known ∙ ap is_open_line (sym action.ends.output);
      };
      reports = action.ends.reports;
      tells = action.ends.tells;
      watched = watched;
      picked = action.picked;
      bytes = action.bytes;
      output = action.ends.output;
      written = action.written;
    }
