-- Where memory may be wanting, the source text is at an action that may want it.
use Rattle.std.proofs.Common.{◌≡◌, ℕ, ℤ, Bool, true, false, if◌then◌else◌, List, [], ◌∷◌}
use Rattle.std.proofs.Common.{length, slice_get, option_map, Option, Some, None, unwrap_or, Result, Ok, Err, refl, sym, ap, ◌∙◌}
use Rattle.std.proofs.lemmas.Option.{slice_get-map}
use Rattle.pfc_base.specs.declared.faults.RunFault.{RunFault}
use Rattle.pfc_base.specs.declared.faults.RunFault.TheVariants.{Width}
use Rattle.pfc_code.specs.declared.instructions.Instr.{Instr}
use Rattle.pfc_code.specs.declared.instructions.Instr.TheVariants.{CALL, MCALL, RCALL, REQ, NEW, WRI, WRB, WRC, WRS, WRNL}
use Rattle.pfc_types.specs.declared.heads.Formal.{Formal}
use Rattle.pfc_values.specs.Pieces.{is_width}
use Rattle.pfc_values.specs.declared.simple.Simple.{Simple}
use Rattle.pfc_values.specs.declared.simple.Simple.TheVariants.{Integer, Boolean, Char}
use Rattle.pfc_semantics.specs.Configurations.{Activation, Caller, Config, activity_of, of_nobody, of_remainder, of_value}
use Rattle.pfc_semantics.specs.Displays.{Spot}
use Rattle.pfc_semantics.specs.Operators.{simple_of}
use Rattle.pfc_semantics.specs.Programs.{Block}
use Rattle.pfc_semantics.specs.Remainders.{Context, Offer, Open, Otherwise, Call, Remainder, Action, to_send, to_receive, to_accept, to_wait, to_end}
use Rattle.pfc_semantics.specs.Remainders.{to_procedure, to_function, to_module, to_requeue, to_process, to_entry}
use Rattle.pfc_semantics.specs.Remainders.{reads, writes, turns, calls, finishes, prints, inputs, skips, asks_eof, asks_eoln, asks_clock, asks_empty, draws}
use Rattle.pfc_semantics.specs.Remainders.{joins, initials, waits, signals, delays, resumes, sleeps, meets, decides, parts, scans, bars, passes, faults}
use Rattle.pfc_semantics.specs.Steps.{next_of}
use Rattle.pfc_semantics.specs.Store.{Store}
use Rattle.pfc_semantics.specs.Values.{Value}
use Rattle.pfc_translation.specs.Calls.{read_instr}
use Rattle.pfc_translation.specs.Codes.{Lined}
use Rattle.pfc_translation.specs.Images.{image_of, instructions}
use Rattle.pfc_translation.specs.Sites.{Site}
use Rattle.pfc_world.specs.Tables.{Table}
use Rattle.pfc_stacks.specs.Refs.{word_of}
use Rattle.pfc_stacks.specs.Stacks.{stack_of, operands_of, last_activation}
use Rattle.pfc_cells.specs.Homes.{Homes}
use Rattle.pfc_cells.specs.Memory.{Entry, Entries}
use Rattle.pfc_machines.specs.declared.machine.Machine.{Machine}
use Rattle.pfc_machines.specs.Communications.{Communicating}
use Rattle.pfc_machines.specs.Descriptors.{descriptor_of}
use Rattle.pfc_machine_acts.specs.Performing.{may_want_memory}
use Rattle.pfc_machine_acts.specs.Quietly.{next_instr}
use Rattle.pfc_standing_code.specs.Settings.{Setting, IsAt}
use Rattle.pfc_standing_code.specs.Awaits.{CallsAt}
use Rattle.pfc_standing_code.specs.Effects.{Arm, effect_of, refuses}
use Rattle.pfc_standing_code.specs.Following.{Arrived, IsFault, IsTurn, IsWrite, MeetsBy, of_operands, of_number_width, of_string_width, of_value as of_operand}
use Rattle.pfc_standing_code.specs.Following.{of_kept, of_loop, of_count}
use Rattle.pfc_standing_code.specs.Performs.{DecidesAt}
use Rattle.pfc_representation.specs.Acting.{IsActing, HasArrived}
use Rattle.pfc_representation.specs.Callers.{AreCallers, ending_of}
use Rattle.pfc_representation.specs.Levels.{Facts, program_in, LivingLevel}
use Rattle.pfc_arrivals.specs.Wants.{BeginsActivation, MayWantMemory}
use Rattle.pfc_arrivals.proofs.Standing.{has_setting}

-- ## Instructions

abbrev first_of : {A B : Type 0} → Option (A × B) → A → A
first_of None a = a
first_of (Some p) a = p.0

-- none that may want memory is refused for what its operands are
not_refused : (g : Setting) (i : Instr) (at : ℕ) (ops : List ℤ) (arms : List Arm) (f : RunFault) → may_want_memory i ≡ true
    → effect_of g i at ops arms ≡ refuses f → ⊥
not_refused g (CALL k l) at ops arms f wants e = absurd cc
not_refused g (MCALL n k) at ops arms f wants e = absurd cc
not_refused g (RCALL r k) at ops arms f wants e = absurd cc
not_refused g (REQ r k) at ops arms f wants e = absurd cc
not_refused g (NEW k) at ops arms f wants e = absurd cc
not_refused g (WRI w) at ops arms f wants e = absurd cc
not_refused g (WRB w) at ops arms f wants e = absurd cc
not_refused g (WRC w) at ops arms f wants e = absurd cc
not_refused g (WRS s w) at ops arms f wants e = absurd cc
not_refused g WRNL at ops arms f wants e = absurd cc
not_refused g i at ops arms f wants e = absurd cc

abbrev fault_in : Result (List ℕ) RunFault → RunFault → RunFault
fault_in (Ok bytes) f = f
fault_in (Err e) f = e

by_width : (b : Bool) (bytes : List ℕ) (f : RunFault) → (if b then Ok bytes else Err Width) ≡ Err f → f ≡ Width
by_width true bytes f e = absurd cc
by_width false bytes f e = sym (ap (λ (r : Result (List ℕ) RunFault). fault_in r f) e)

-- no instruction that ends a body may want memory
ends_silently : (caller : Caller) → may_want_memory (ending_of caller) ≡ false
ends_silently of_nobody = refl
ends_silently (of_remainder env k) = refl
ends_silently (of_value x u) = refl

reads_silently : (t : Simple) → may_want_memory (read_instr t) ≡ false
reads_silently Integer = refl
reads_silently Boolean = refl
reads_silently Char = refl

-- ## Code at an action

module _ (g : Setting) (at : ℕ) (i : Instr) (line : ℕ) (here : IsAt g at i line) (wants : may_want_memory i ≡ true) where
  same : (j : Instr) (l : ℕ) → IsAt g at j l → j ≡ i
  same j l there = ap (λ (o : Option (Instr × ℕ)). first_of o j) (sym there ∙ here)

  no_silent_instr : (j : Instr) (l : ℕ) → IsAt g at j l → may_want_memory j ≡ false → ⊥
  no_silent_instr j l there silent = (let e : false ≡ true = sym silent ∙ ap may_want_memory (same j l there) ∙ wants in absurd cc)

  by_write : {b : Block} {x : Context} {ops : List ℤ} {arms : List Arm} {v : Spot} {new : Value} {k : Remainder} → IsWrite g b x at ops arms v new k → ⊥
  by_write (of_operand t w below e is lies store rest) = no_silent_instr _ _ store refl
  by_write (of_kept last kept w below none e f lies store rest) = no_silent_instr _ _ store refl

  by_turn : {b : Block} {x : Context} {ops : List ℤ} {k : Remainder} → IsTurn g b x at ops k → ⊥
  by_turn (of_loop a is rest) = no_silent_instr _ _ is refl
  by_turn (of_count d a last kept w below e before is rest) = no_silent_instr _ _ is refl

  by_meeting : (b : Block) (x : Context) (ops : List ℤ) (o : Open) (offer : Offer) (k : Remainder) → MeetsBy g b x at ops o offer k → ⊥
  by_meeting b x ops o (to_send channel v) k h = no_silent_instr _ _ h.5 refl
  by_meeting b x ops o (to_receive channel target) k h = no_silent_instr _ _ h.5 refl
  by_meeting b x ops o (to_accept a) k h = no_silent_instr _ _ h.0 refl
  by_meeting b x ops o (to_wait n) k h = h
  by_meeting b x ops o to_end k h = h

  by_decision : (s : Site) (held : ℕ) (pri : Bool) (otherwise : Option Otherwise) (P : ℕ → Type 0) → DecidesAt g s at held pri otherwise P → ⊥
  by_decision s held pri None P h = no_silent_instr _ _ h refl
  by_decision s held pri (Some o) P h = no_silent_instr _ _ h.1 refl

  by_call : (b : Block) (x : Context) (below : List ℤ) (arms : List Arm) (formals : List Formal) (call : Call)
      → CallsAt g b x at below arms formals call → BeginsActivation call
  by_call b x below arms formals (to_entry v entry k) h = no_silent_instr _ _ h.1.9 refl
  by_call b x below arms formals (to_procedure scope k) h = tt
  by_call b x below arms formals (to_function scope u) h = tt
  by_call b x below arms formals (to_module n scope k) h = tt
  by_call b x below arms formals (to_requeue scope) h = tt
  by_call b x below arms formals (to_process v k) h = tt

  by_fault : {l : ℕ} {ops : List ℤ} {arms : List Arm} {f : RunFault} → IsFault g l at ops arms f → f ≡ Width
  by_fault {l} {ops} {arms} {f} (of_operands j is can effect may) =
      absurd (not_refused g j at ops arms f (ap may_want_memory (same j l is) ∙ wants) effect)
  by_fault {l} {ops} {arms} {f} (of_number_width t n w below e refused is) = by_width (is_width w) _ f refused
  by_fault {l} {ops} {arms} {f} (of_string_width s w text below e is refused there) = by_width (is_width w) _ f refused

  module _ (ends : may_want_memory g.last ≡ false) where
    at_action : (n : Action) (ops : List ℤ) (arms : List Arm) → Arrived g at ops arms n → MayWantMemory n
    at_action (reads x v u) ops arms h = no_silent_instr _ _ h.2.5 refl
    at_action (writes x v new k) ops arms h = by_write h.2.1
    at_action (turns x k) ops arms h = by_turn h.2.1
    at_action (calls x call given) ops arms h = by_call h.0 x h.2.1 arms h.2.0 call h.2.3
    at_action (finishes line) ops arms h = no_silent_instr _ _ h.2.1.1 ends
    at_action (prints x bytes k) ops arms h = tt
    at_action (inputs x t v k) ops arms h = no_silent_instr _ _ h.2.1.4 (reads_silently (simple_of t))
    at_action (skips x k) ops arms h = no_silent_instr _ _ h.2.1.0 refl
    at_action (asks_eof x u) ops arms h = no_silent_instr _ _ h.2.1.0 refl
    at_action (asks_eoln x u) ops arms h = no_silent_instr _ _ h.2.1.0 refl
    at_action (asks_clock x u) ops arms h = no_silent_instr _ _ h.2.1.0 refl
    at_action (asks_empty x v u) ops arms h = no_silent_instr _ _ h.2.1.4 refl
    at_action (draws x n u) ops arms h = no_silent_instr _ _ h.2.1.2 refl
    at_action (joins x k) ops arms h = no_silent_instr _ _ h.2.1.0 refl
    at_action (initials x v n k) ops arms h = no_silent_instr _ _ h.2.1.2.4 refl
    at_action (waits x v k) ops arms h = no_silent_instr _ _ h.2.1.4 refl
    at_action (signals x v k) ops arms h = no_silent_instr _ _ h.2.1.4 refl
    at_action (delays x v n k) ops arms h = no_silent_instr _ _ h.2.1.2.4 refl
    at_action (resumes x v k) ops arms h = no_silent_instr _ _ h.2.1.4 refl
    at_action (sleeps x n k) ops arms h = no_silent_instr _ _ h.2.1.2 refl
    at_action (meets x o k) ops arms h = by_meeting h.0 x ops o o.offer k h.2.1.1
    at_action (decides x sel k) ops arms h = by_decision _ (length ops) sel.pri sel.otherwise _ h.2.1.0
    at_action (parts x caller k) ops arms h = no_silent_instr _ _ h.2.1.0 refl
    at_action (scans x scan k) ops arms h = no_silent_instr _ _ h.2.1.2 refl
    at_action (bars x bar k) ops arms h = no_silent_instr _ _ h.2.1.5 refl
    at_action (passes x w scan k) ops arms h = no_silent_instr _ _ h.2.1.5 refl
    at_action (faults x f) ops arms h = by_fault h.2

-- ## At an action of a run

-- an instruction stands in the code with a line
with_line : (o : Option (Instr × ℕ)) (i : Instr) → option_map (λ (c : Instr × ℕ). c.0) o ≡ Some i → (line : ℕ) × (o ≡ Some (i, line))
with_line None i e = absurd cc
with_line (Some c) i e =
    (c.1, ap (λ (j : Instr). Some (j, c.1)) (ap (λ (o : Option Instr). unwrap_or o i) e))

-- so the last instruction of the body at hand may not
last_silent : (facts : Facts) (homes : Homes) (entries : Entries) (store : Store) (table : Table) (p room : ℕ) (level : LivingLevel) (w : ℤ)
    (latest : Communicating) (xs : List Activation) (es : List Entry)
    → AreCallers facts homes entries store table p room level w latest xs es → may_want_memory level.setting.last ≡ false
last_silent facts homes entries store table p room level w latest [] es is = absurd is
last_silent facts homes entries store table p room level w latest (a ∷ xs) [] is = absurd is
last_silent facts homes entries store table p room level w latest (a ∷ []) (e ∷ []) is = ap may_want_memory is.stands.last ∙ ends_silently a.caller
last_silent facts homes entries store table p room level w latest (a ∷ []) (e ∷ f ∷ es) is = absurd is
last_silent facts homes entries store table p room level w latest (a ∷ b ∷ xs) (e ∷ []) is = absurd is
last_silent facts homes entries store table p room level w latest (a ∷ b ∷ xs) (e ∷ f ∷ es) (outer, v, earlier, called, within, others) =
    ap may_want_memory called.stands.last ∙ ends_silently a.caller

pub may_want_there : (facts : Facts) (m : Machine) (c : Config) (p : ℕ) (level : LivingLevel) (i : Instr) → IsActing facts m c p level
    → HasArrived facts m c p level (next_of (program_in facts) c p) → next_instr (image_of facts.tree) p m ≡ Some i → may_want_memory i ≡ true
    → MayWantMemory (next_of (program_in facts) c p)
may_want_there facts m c p level i acting arrived is wants =
    let at : ℕ = (stack_of m.stacks p).at in
    let code : Lined = level.setting.code in
    let image : instructions code ≡ (image_of facts.tree).code = (has_setting facts m c p level acting).image.code in
    let (line, here) = with_line (slice_get code at) i
    (sym (slice_get-map (λ (d : Instr × ℕ). d.0) code at) ∙ ap (λ (xs : List Instr). slice_get xs at) image ∙ is) in
    at_action level.setting at i line here wants
    (last_silent facts acting.homes acting.entries c.store c.table p (stack_of m.stacks p).room level (word_of (last_activation m.stacks p))
    (descriptor_of m.descriptors p).communications (activity_of (program_in facts) c p).activations (acting.entries p) acting.actor.stands.callers)
    (next_of (program_in facts) c p) (operands_of m.stacks p) level.arms arrived.arrived
