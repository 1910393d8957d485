use Rattle.std.proofs.Common.{◌-◌, refl, sym, ap, ◌∙◌, subst}
use Rattle.pfc_sched.specs.Picks.{Picking, after_pick, item_of}
use Rattle.pfc_sched.specs.declared.picking.Pick.TheVariants.{Process, Nobody, NotReady, NoProcess, ScriptEnd}
use Rattle.pfc_state.specs.declared.endings.Ending.{Ending}
use Rattle.pfc_state.specs.declared.endings.Ending.TheVariants.{Deadlock, Script}
use Rattle.pfc_state.specs.declared.endings.ScriptWhy.TheVariants.{NotReady as Not_ready, NoProcess as No_process, Ended}
use Rattle.pfc_semantics.specs.Time.{settled_config}
use Rattle.pfc_walker.specs.Courses.{IsOver, IsPick}
use Rattle.pfc_walker.proofs.OneTurn.{turn_over, turn_dead, turn_limit, turn_worn_out, turn_ends, turn_goes, no_step, may_act_so, left_ready}
use Rattle.pfc_walker.proofs.actors.next_actor.Goals as goal

pub returns-then-is_over-clause-over : goal.returns-then-is_over-clause-over
returns-then-is_over-clause-over c = λ source g c' stands.
    turn_over source g c.args.limit c.args.left c.args.picker.now c' c.settle-settled.new.state (c.settle-settled.ensures.stands source c' stands)
    (sym c.is_over.ensures ∙ c.if-is_over.true)

pub returns-in-NobodyReady-clause-over : goal.returns-in-NobodyReady-clause-over
returns-in-NobodyReady-clause-over c = λ source g c' stands.
    turn_dead source g c.args.limit c.args.left c.args.picker.now c' c.settle-settled.new.state (c.settle-settled.ensures.stands source c' stands)
    (sym c.is_over.ensures ∙ c.if-is_over.false) c.in-NobodyReady.ensures.left.nobody

pub returns-then-left-eq0-clause-over : goal.returns-then-left-eq0-clause-over
returns-then-left-eq0-clause-over c = λ source g c' stands.
    turn_limit source g c.args.limit c.args.left c.args.picker.now c' c.settle-settled.new.state (c.settle-settled.ensures.stands source c' stands)
    (sym c.is_over.ensures ∙ c.if-is_over.false)
    (left_ready c.settle-settled.result c.settle-settled.new.state.world.rows c.settle-settled.ensures.left c.in_default.not-NobodyReady) c.if-left-eq0.true

pub returns-then-is_worn_out-clause-over : goal.returns-then-is_worn_out-clause-over
returns-then-is_worn_out-clause-over c = λ source g c' stands. turn_worn_out source g c.args.limit c.args.left c.args.picker.now c' c.settle-settled.new.state
    (c.settle-settled.ensures.stands source c' stands)

pub returns-in-Process-clause-pick : goal.returns-in-Process-clause-pick
returns-in-Process-clause-pick c = λ source g c' stands.
    subst (λ (x : Picking). IsPick g c.args.limit (c.args.left - 1) c.args.picker.now x c' (settled_config c') c.in-Process.p) (sym c.pick.ensures.after)
    (turn_goes source g c.args.limit c.args.left c.args.picker.now c' c.settle-settled.new.state (c.settle-settled.ensures.stands source c' stands)
    (sym c.is_over.ensures ∙ c.if-is_over.false)
    (left_ready c.settle-settled.result c.settle-settled.new.state.world.rows c.settle-settled.ensures.left c.in_default.not-NobodyReady) c.if-left-eq0.false
    (Process c.in-Process.p) (sym c.in-Process.is ∙ c.pick.ensures.pick) c.in-Process.p refl)

pub returns-in-Process-clause-may : goal.returns-in-Process-clause-may
returns-in-Process-clause-may c =
    let (source, c', stands) = c.requires in
    may_act_so source c.settle-settled.new.state (settled_config c') c.args.picker.now c.in-Process.p
    (c.settle-settled.ensures.stands source c' stands) (sym c.in-Process.is ∙ c.pick.ensures.pick)
    (c.is_worn_out.ensures.done c.if-is_worn_out.false) (c.is_worn_out.ensures.moment c.if-is_worn_out.false)

pub returns-in-Nobody-clause-over : goal.returns-in-Nobody-clause-over
returns-in-Nobody-clause-over c = λ source g c' stands.
    let ready = left_ready c.settle-settled.result c.settle-settled.new.state.world.rows c.settle-settled.ensures.left c.in_default.not-NobodyReady in
    let is = sym c.in-Nobody.is ∙ c.pick.ensures.pick in
    record {
      course = turn_ends source g c.args.limit c.args.left c.args.picker.now c' c.settle-settled.new.state (c.settle-settled.ensures.stands source c' stands)
          (sym c.is_over.ensures ∙ c.if-is_over.false) ready c.if-left-eq0.false Nobody is Deadlock refl;
      none = λ other. no_step source g c.args.limit c.args.left c.args.picker.now c' c.settle-settled.new.state
          (c.settle-settled.ensures.stands source c' stands)
          (sym c.is_over.ensures ∙ c.if-is_over.false) ready c.if-left-eq0.false Nobody is (λ steps. refl);
    }

pub returns-in-NotReady-clause-over : goal.returns-in-NotReady-clause-over
returns-in-NotReady-clause-over c = λ source g c' stands.
    let ready = left_ready c.settle-settled.result c.settle-settled.new.state.world.rows c.settle-settled.ensures.left c.in_default.not-NobodyReady in
    let is = sym c.in-NotReady.is ∙ c.pick.ensures.pick in
    let item = item_of (after_pick c.args.picker.now c.settle-settled.new.state.world.rows) in
    subst (λ (e : Ending). IsOver g c.args.limit c.args.left c.args.picker.now c' c.settle-settled.new.state e)
    (sym (c.script.ensures ∙ ap (λ (x : Picking). Script (item_of x) (Not_ready c.in-NotReady.p)) c.pick.ensures.after)) (record {
      course = turn_ends source g c.args.limit c.args.left c.args.picker.now c' c.settle-settled.new.state (c.settle-settled.ensures.stands source c' stands)
          (sym c.is_over.ensures ∙ c.if-is_over.false) ready c.if-left-eq0.false (NotReady c.in-NotReady.p) is (Script item (Not_ready c.in-NotReady.p)) refl;
      none = λ other. no_step source g c.args.limit c.args.left c.args.picker.now c' c.settle-settled.new.state
          (c.settle-settled.ensures.stands source c' stands)
          (sym c.is_over.ensures ∙ c.if-is_over.false) ready c.if-left-eq0.false (NotReady c.in-NotReady.p) is (λ steps. refl);
    })

pub returns-in-NoProcess-clause-over : goal.returns-in-NoProcess-clause-over
returns-in-NoProcess-clause-over c = λ source g c' stands.
    let ready = left_ready c.settle-settled.result c.settle-settled.new.state.world.rows c.settle-settled.ensures.left c.in_default.not-NobodyReady in
    let is = sym c.in-NoProcess.is ∙ c.pick.ensures.pick in
    let item = item_of (after_pick c.args.picker.now c.settle-settled.new.state.world.rows) in
    subst (λ (e : Ending). IsOver g c.args.limit c.args.left c.args.picker.now c' c.settle-settled.new.state e)
    (sym (c.script-in-NoProcess.ensures ∙ ap (λ (x : Picking). Script (item_of x) (No_process c.in-NoProcess.p)) c.pick.ensures.after)) (record {
      course = turn_ends source g c.args.limit c.args.left c.args.picker.now c' c.settle-settled.new.state (c.settle-settled.ensures.stands source c' stands)
          (sym c.is_over.ensures ∙ c.if-is_over.false) ready c.if-left-eq0.false (NoProcess c.in-NoProcess.p) is
          (Script item (No_process c.in-NoProcess.p)) refl;
      none = λ other. no_step source g c.args.limit c.args.left c.args.picker.now c' c.settle-settled.new.state
          (c.settle-settled.ensures.stands source c' stands)
          (sym c.is_over.ensures ∙ c.if-is_over.false) ready c.if-left-eq0.false (NoProcess c.in-NoProcess.p) is (λ steps. refl);
    })

pub returns-in-ScriptEnd-clause-over : goal.returns-in-ScriptEnd-clause-over
returns-in-ScriptEnd-clause-over c = λ source g c' stands.
    let ready = left_ready c.settle-settled.result c.settle-settled.new.state.world.rows c.settle-settled.ensures.left c.in_default.not-NobodyReady in
    let is = sym c.in-ScriptEnd.is ∙ c.pick.ensures.pick in
    let item = item_of (after_pick c.args.picker.now c.settle-settled.new.state.world.rows) in
    subst (λ (e : Ending). IsOver g c.args.limit c.args.left c.args.picker.now c' c.settle-settled.new.state e)
    (sym (c.script-in-ScriptEnd.ensures ∙ ap (λ (x : Picking). Script (item_of x) Ended) c.pick.ensures.after)) (record {
      course = turn_ends source g c.args.limit c.args.left c.args.picker.now c' c.settle-settled.new.state (c.settle-settled.ensures.stands source c' stands)
          (sym c.is_over.ensures ∙ c.if-is_over.false) ready c.if-left-eq0.false ScriptEnd is (Script item Ended) refl;
      none = λ other. no_step source g c.args.limit c.args.left c.args.picker.now c' c.settle-settled.new.state
          (c.settle-settled.ensures.stands source c' stands)
          (sym c.is_over.ensures ∙ c.if-is_over.false) ready c.if-left-eq0.false ScriptEnd is (λ steps. refl);
    })
