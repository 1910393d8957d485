use Rattle.std.proofs.Common.{ℕ, ◌≡◌, ◌<◌, length, get_or, sym, ap, ◌∙◌, subst}
use Rattle.std.specs.List.{slice_get}
use Rattle.pfc_code.specs.declared.instructions.Instr.{Instr}
use Rattle.pfc_code.specs.Images.{PlainImage, plain_image}
use Rattle.pfc_machines.specs.declared.machine.Machine.{Machine}
use Rattle.pfc_select_actions.specs.Selects.{takes_up}
use Rattle.pfc_machine_acts.specs.Acting.{choice_among, line_of}
use Rattle.pfc_machine_acts.specs.Performing.{choices_for}
use Rattle.pfc_machine_acts.specs.Running.{IsNext}
use Rattle.pfc_machine_acts.proofs.Ends.{acted_may_end, faulted_may_end, stands_can, acted_is, faulted_is, stands_is}
use Rattle.pfc_machine_acts.proofs.Lengths.{as_many_ahead}
use Rattle.pfc_machine_acts.proofs.Tried.{same_instr}
use Rattle.pfc_machine_acts.proofs.acts.act.Goals as goal

pub end-requires-in-Acted-clause-acts : goal.end-requires-in-Acted-clause-acts
end-requires-in-Acted-clause-acts c =
    let image : PlainImage = plain_image c.args.image.now in
    let p : ℕ = c.args.r.number in
    let m0 : Machine = c.args.machine.now in
    let taken : takes_up p m0 ≡ c.take_up.new.machine = sym (c.take_up.ensures ∙ ap (λ (q : ℕ). takes_up q m0) c.number.ensures) in
    let m : Machine = c.requires.before in
    let i : Instr = c.requires.instr in
    let choice : ℕ = choice_among c.args.picker.now (choices_for i p m) in
    let reached = c.advance-at.ensures.reached c.requires.count m i (subst (λ (x : Machine). IsNext image p x c.requires.count m i) taken c.requires.next) in
    (acted_may_end image i p m c.advance-at.new.machine c.advance-at.result.1 c.advance-at.ensures.process reached.1 choice
    c.in-Acted.r c.in-Acted.is c.requires.can).acts

pub end-requires-in-Acted-clause-done : goal.end-requires-in-Acted-clause-done
end-requires-in-Acted-clause-done c =
    let image : PlainImage = plain_image c.args.image.now in
    let p : ℕ = c.args.r.number in
    let m0 : Machine = c.args.machine.now in
    let taken : takes_up p m0 ≡ c.take_up.new.machine = sym (c.take_up.ensures ∙ ap (λ (q : ℕ). takes_up q m0) c.number.ensures) in
    let m : Machine = c.requires.before in
    let i : Instr = c.requires.instr in
    let choice : ℕ = choice_among c.args.picker.now (choices_for i p m) in
    let reached = c.advance-at.ensures.reached c.requires.count m i (subst (λ (x : Machine). IsNext image p x c.requires.count m i) taken c.requires.next) in
    (acted_may_end image i p m c.advance-at.new.machine c.advance-at.result.1 c.advance-at.ensures.process reached.1 choice
    c.in-Acted.r c.in-Acted.is c.requires.can).done

pub end-requires-in-Acted-clause-moment : goal.end-requires-in-Acted-clause-moment
end-requires-in-Acted-clause-moment c =
    let image : PlainImage = plain_image c.args.image.now in
    let p : ℕ = c.args.r.number in
    let m0 : Machine = c.args.machine.now in
    let taken : takes_up p m0 ≡ c.take_up.new.machine = sym (c.take_up.ensures ∙ ap (λ (q : ℕ). takes_up q m0) c.number.ensures) in
    let m : Machine = c.requires.before in
    let i : Instr = c.requires.instr in
    let choice : ℕ = choice_among c.args.picker.now (choices_for i p m) in
    let reached = c.advance-at.ensures.reached c.requires.count m i (subst (λ (x : Machine). IsNext image p x c.requires.count m i) taken c.requires.next) in
    (acted_may_end image i p m c.advance-at.new.machine c.advance-at.result.1 c.advance-at.ensures.process reached.1 choice
    c.in-Acted.r c.in-Acted.is c.requires.can).moment

pub end-requires-in-Faulted-clause-acts : goal.end-requires-in-Faulted-clause-acts
end-requires-in-Faulted-clause-acts c =
    let image : PlainImage = plain_image c.args.image.now in
    let p : ℕ = c.args.r.number in
    let m0 : Machine = c.args.machine.now in
    let taken : takes_up p m0 ≡ c.take_up.new.machine = sym (c.take_up.ensures ∙ ap (λ (q : ℕ). takes_up q m0) c.number.ensures) in
    let m : Machine = c.requires.before in
    let i : Instr = c.requires.instr in
    let choice : ℕ = choice_among c.args.picker.now (choices_for i p m) in
    let reached = c.advance-at.ensures.reached c.requires.count m i (subst (λ (x : Machine). IsNext image p x c.requires.count m i) taken c.requires.next) in
    (faulted_may_end image i p m c.advance-at.new.machine c.advance-at.result.1 c.advance-at.ensures.process reached.1 choice c.in-Faulted.r
    c.in-Faulted.fault c.in-Faulted.is c.requires.can).acts

pub end-requires-in-Faulted-clause-done : goal.end-requires-in-Faulted-clause-done
end-requires-in-Faulted-clause-done c =
    let image : PlainImage = plain_image c.args.image.now in
    let p : ℕ = c.args.r.number in
    let m0 : Machine = c.args.machine.now in
    let taken : takes_up p m0 ≡ c.take_up.new.machine = sym (c.take_up.ensures ∙ ap (λ (q : ℕ). takes_up q m0) c.number.ensures) in
    let m : Machine = c.requires.before in
    let i : Instr = c.requires.instr in
    let choice : ℕ = choice_among c.args.picker.now (choices_for i p m) in
    let reached = c.advance-at.ensures.reached c.requires.count m i (subst (λ (x : Machine). IsNext image p x c.requires.count m i) taken c.requires.next) in
    (faulted_may_end image i p m c.advance-at.new.machine c.advance-at.result.1 c.advance-at.ensures.process reached.1 choice c.in-Faulted.r
    c.in-Faulted.fault c.in-Faulted.is c.requires.can).done

pub end-requires-in-Faulted-clause-moment : goal.end-requires-in-Faulted-clause-moment
end-requires-in-Faulted-clause-moment c =
    let image : PlainImage = plain_image c.args.image.now in
    let p : ℕ = c.args.r.number in
    let m0 : Machine = c.args.machine.now in
    let taken : takes_up p m0 ≡ c.take_up.new.machine = sym (c.take_up.ensures ∙ ap (λ (q : ℕ). takes_up q m0) c.number.ensures) in
    let m : Machine = c.requires.before in
    let i : Instr = c.requires.instr in
    let choice : ℕ = choice_among c.args.picker.now (choices_for i p m) in
    let reached = c.advance-at.ensures.reached c.requires.count m i (subst (λ (x : Machine). IsNext image p x c.requires.count m i) taken c.requires.next) in
    (faulted_may_end image i p m c.advance-at.new.machine c.advance-at.result.1 c.advance-at.ensures.process reached.1 choice c.in-Faulted.r
    c.in-Faulted.fault c.in-Faulted.is c.requires.can).moment

-- who acts has a stack, and what is quiet leaves as many as there were
pub advance-at-requires-clause-stack : goal.advance-at-requires-clause-stack
advance-at-requires-clause-stack c =
    let image : PlainImage = plain_image c.args.image.now in
    let p : ℕ = c.args.r.number in
    let m0 : Machine = c.args.machine.now in
    let taken : takes_up p m0 ≡ c.take_up.new.machine = sym (c.take_up.ensures ∙ ap (λ (q : ℕ). takes_up q m0) c.number.ensures) in
    let same = as_many_ahead image p c.requires.count (takes_up p m0) c.requires.before c.requires.next.run in
    subst (λ (x : Machine). p < length x.stacks) taken (subst (λ (n : ℕ). p < n) same c.requires.can.acting.acts.stack)

-- the process stands at an instruction of the image
pub instr_at-requires : goal.instr_at-requires
instr_at-requires c =
    let image : PlainImage = plain_image c.args.image.now in
    let p : ℕ = c.args.r.number in
    let m0 : Machine = c.args.machine.now in
    let taken : takes_up p m0 ≡ c.take_up.new.machine = sym (c.take_up.ensures ∙ ap (λ (q : ℕ). takes_up q m0) c.number.ensures) in
    let m : Machine = c.requires.before in
    let i : Instr = c.requires.instr in
    let reached = c.advance-at.ensures.reached c.requires.count m i (subst (λ (x : Machine). IsNext image p x c.requires.count m i) taken c.requires.next) in
    (i, ap (λ (a : ℕ). slice_get image.code a) reached.0 ∙ c.requires.next.is)

pub carry_out-requires : goal.carry_out-requires
carry_out-requires c =
    let image : PlainImage = plain_image c.args.image.now in
    let p : ℕ = c.args.r.number in
    let m0 : Machine = c.args.machine.now in
    let taken : takes_up p m0 ≡ c.take_up.new.machine = sym (c.take_up.ensures ∙ ap (λ (q : ℕ). takes_up q m0) c.number.ensures) in
    let m : Machine = c.requires.before in
    let i : Instr = c.requires.instr in
    let reached = c.advance-at.ensures.reached c.requires.count m i (subst (λ (x : Machine). IsNext image p x c.requires.count m i) taken c.requires.next) in
    let same : c.instr_at.result ≡ i =
    same_instr c.instr_at.result i (sym c.instr_at.ensures ∙ ap (λ (a : ℕ). slice_get image.code a) reached.0 ∙ c.requires.next.is) in
    stands_can image i p m c.advance-at.new.machine c.advance-at.result.1 c.advance-at.ensures.process reached.1 c.args.picker.now c.in-Stands.r
    c.instr_at.result c.in-Stands.is same c.requires.can

pub returns-in-Acted : goal.returns-in-Acted
returns-in-Acted c = λ n m i next.
    let image : PlainImage = plain_image c.args.image.now in
    let p : ℕ = c.args.r.number in
    let m0 : Machine = c.args.machine.now in
    let taken : takes_up p m0 ≡ c.take_up.new.machine = sym (c.take_up.ensures ∙ ap (λ (q : ℕ). takes_up q m0) c.number.ensures) in
    let reached = c.advance-at.ensures.reached n m i (subst (λ (x : Machine). IsNext image p x n m i) taken next) in
    let at_line : c.line_at-line.result ≡ line_of image p m = c.line_at-line.ensures ∙ ap (λ (a : ℕ). get_or image.lines a 0) reached.0 in
    acted_is image i p m c.advance-at.new.machine c.advance-at.result.1 c.advance-at.ensures.process reached.1 c.args.picker.now c.args.out.now c.in-Acted.r
    c.line_at-line.result c.end-in-Acted.new.machine c.in-Acted.is at_line c.end-in-Acted.ensures

pub returns-in-Faulted : goal.returns-in-Faulted
returns-in-Faulted c = λ n m i next.
    let image : PlainImage = plain_image c.args.image.now in
    let p : ℕ = c.args.r.number in
    let m0 : Machine = c.args.machine.now in
    let taken : takes_up p m0 ≡ c.take_up.new.machine = sym (c.take_up.ensures ∙ ap (λ (q : ℕ). takes_up q m0) c.number.ensures) in
    let reached = c.advance-at.ensures.reached n m i (subst (λ (x : Machine). IsNext image p x n m i) taken next) in
    let at_line : c.line_at-line.result ≡ line_of image p m = c.line_at-line.ensures ∙ ap (λ (a : ℕ). get_or image.lines a 0) reached.0 in
    faulted_is image i p m c.advance-at.new.machine c.advance-at.result.1 c.advance-at.ensures.process reached.1 c.args.picker.now c.args.out.now c.in-Faulted.r
    c.in-Faulted.fault c.line_at-line.result c.end-in-Faulted.new.machine c.in-Faulted.is at_line c.end-in-Faulted.ensures

pub returns-in-Stands : goal.returns-in-Stands
returns-in-Stands c = λ n m i next.
    let image : PlainImage = plain_image c.args.image.now in
    let p : ℕ = c.args.r.number in
    let m0 : Machine = c.args.machine.now in
    let taken : takes_up p m0 ≡ c.take_up.new.machine = sym (c.take_up.ensures ∙ ap (λ (q : ℕ). takes_up q m0) c.number.ensures) in
    let reached = c.advance-at.ensures.reached n m i (subst (λ (x : Machine). IsNext image p x n m i) taken next) in
    let at_line : c.line_at-line.result ≡ line_of image p m = c.line_at-line.ensures ∙ ap (λ (a : ℕ). get_or image.lines a 0) reached.0 in
    let same : c.instr_at.result ≡ i =
    same_instr c.instr_at.result i (sym c.instr_at.ensures ∙ ap (λ (a : ℕ). slice_get image.code a) reached.0 ∙ next.is) in
    stands_is image i p m c.advance-at.new.machine c.advance-at.result.1 c.advance-at.ensures.process reached.1 c.args.picker.now c.carry_out.new.picker
    c.args.out.now c.carry_out.new.out c.in-Stands.r c.instr_at.result c.line_at-line.result c.carry_out.result c.carry_out.new.machine
    c.in-Stands.is same at_line c.carry_out.ensures
