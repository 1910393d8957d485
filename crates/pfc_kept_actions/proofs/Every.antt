-- Each kind of action is kept.
use Rattle.std.proofs.Common.{◌≡◌, ℕ, ◌⊎◌, inl, inr, ℤ, List, [], ◌∷◌, slice_get, Some, refl, sym, ap, ◌∙◌, subst}
use Rattle.pfc_code.specs.declared.instructions.Instr.{Instr}
use Rattle.pfc_code.specs.declared.instructions.Instr.TheVariants.{RET, RETF, END}
use Rattle.pfc_world.specs.Tables.{Table}
use Rattle.pfc_semantics.specs.Programs.{Program}
use Rattle.pfc_semantics.specs.Store.{Store}
use Rattle.pfc_semantics.specs.Configurations.{Mark, plain, of_monitor, of_resource, Caller, of_nobody, of_remainder, of_value, Activation, Config, activity_of}
use Rattle.pfc_semantics.specs.Remainders.{Context, Argument, Call, Offer, Open, Remainder, Action, Selecting, to_procedure, to_function}
use Rattle.pfc_semantics.specs.Remainders.{to_module, to_requeue, to_process, to_entry, to_send, to_receive, to_accept, to_wait, to_end, reads, writes, turns}
use Rattle.pfc_semantics.specs.Remainders.{calls, finishes, prints, inputs, skips, asks_eof, asks_eoln, asks_clock, asks_empty, draws, joins, initials, waits}
use Rattle.pfc_semantics.specs.Remainders.{signals, delays, resumes, sleeps, meets, decides, parts, scans, bars, passes, faults}
use Rattle.pfc_semantics.specs.Selects.{choices, matched_places}
use Rattle.pfc_translation.specs.Objects.{objects_of}
use Rattle.pfc_standing_code.specs.Following.{MeetsBy}
use Rattle.pfc_stacks.specs.Refs.{word_of}
use Rattle.pfc_stacks.specs.Stacks.{stack_of, operands_of, last_activation}
use Rattle.pfc_cells.specs.Homes.{Homes}
use Rattle.pfc_cells.specs.Memory.{Entry, Entries}
use Rattle.pfc_machines.specs.declared.machine.Machine.{Machine}
use Rattle.pfc_machines.specs.Communications.{Communicating}
use Rattle.pfc_machines.specs.Descriptors.{descriptor_of}
use Rattle.pfc_object_laws.specs.Objects.{number_at}
use Rattle.pfc_run_rules.specs.Rules.{IsByRules, IsOfItsBlock, KeepsToRules}
use Rattle.pfc_representation.specs.Levels.{Facts, program_in, LivingLevel}
use Rattle.pfc_representation.specs.Callers.{ending_of, AreCallers}
use Rattle.pfc_representation.specs.Trials.{mark_of}
use Rattle.pfc_representation.specs.Acting.{IsActing, HasArrived}
use Rattle.pfc_representation.specs.Actions.{IsChoice, IsKept}
use Rattle.pfc_arrivals.specs.Arrivals.{IsNumbered}
use Rattle.pfc_kept_own_actions.proofs.Arrived.{has_setting}
use Rattle.pfc_kept_own_actions.proofs.Asking.{drawn_kept, asked_kept}
use Rattle.pfc_kept_own_actions.proofs.Faulting.{faults_kept}
use Rattle.pfc_kept_own_actions.proofs.Printing.{prints_kept}
use Rattle.pfc_kept_own_actions.proofs.Taking.{taken_kept}
use Rattle.pfc_kept_own_actions.proofs.Trying.{reads_kept}
use Rattle.pfc_kept_own_actions.proofs.Turning as turning
use Rattle.pfc_kept_own_actions.proofs.Writing.{writes_kept}
use Rattle.pfc_kept_object_actions.proofs.Coends.{time_kept}
use Rattle.pfc_kept_object_actions.proofs.Delaying.{conditions_kept}
use Rattle.pfc_kept_object_actions.proofs.Resuming.{holders_resume}
use Rattle.pfc_kept_object_actions.proofs.Signals.{semaphores_kept}
use Rattle.pfc_kept_messages.specs.Groups.{IsSend, IsReceive}
use Rattle.pfc_kept_messages.proofs.Receiving.{receives_kept}
use Rattle.pfc_kept_messages.proofs.Sending.{sends_kept}
use Rattle.pfc_kept_calls.proofs.Callable.{procedure_calls_kept, function_calls_kept, function_ends_kept}
use Rattle.pfc_kept_modules.specs.Endings.{AreOutside, IsInOnce}
use Rattle.pfc_kept_modules.proofs.Ending.{procedure_left}
use Rattle.pfc_kept_modules.proofs.Enterable.{module_entries_kept}
use Rattle.pfc_kept_modules.proofs.Requeueable.{every_requeue_kept}
use Rattle.pfc_kept_scans.proofs.Barring.{bars_kept}
use Rattle.pfc_kept_scans.proofs.Passing.{passes_kept}
use Rattle.pfc_kept_scans.proofs.Scanning as scanning
use Rattle.pfc_kept_lives.proofs.Creating.{creations_kept}
use Rattle.pfc_kept_lives.proofs.Ending as lives
use Rattle.pfc_kept_meetings.specs.Accepts.{KeepsAccepts}
use Rattle.pfc_kept_meetings.proofs.Calling.{entry_call_kept}
use Rattle.pfc_kept_meetings.proofs.Joining.{accept_is_kept}
use Rattle.pfc_kept_meetings.proofs.Parts as meetings
use Rattle.pfc_kept_meetings.proofs.Told.{has_processes, has_typed_entries}
use Rattle.pfc_kept_meetings.specs.selects.Groups.{TakesMessage, TakesEntry}
use Rattle.pfc_kept_meetings.proofs.selects.Deciding.{unmatched_are_kept}
use Rattle.pfc_kept_meetings.proofs.selects.Divided.{divided}
use Rattle.pfc_kept_meetings.proofs.selects.Messages.{messages_are_kept}
use Rattle.pfc_kept_meetings.specs.entries.Selects.{StandWithin}
use Rattle.pfc_kept_meetings.proofs.entries.Entered.{entries_are_kept}
use Rattle.pfc_kept_actions.proofs.Creatable.{are_creatable}
use Rattle.pfc_kept_actions.proofs.Numbered.{has_singles}
use Rattle.pfc_kept_actions.specs.Asked.{AskedOfCall, AskedOfMeeting, IsAsked}

-- ## Ends

-- by what waits for it, a body ends in one of three ways
abbrev IsEnd : Instr → Type 0
IsEnd last = (last ≡ END) ⊎ ((last ≡ RET) ⊎ (last ≡ RETF))

end_by : (caller : Caller) → IsEnd (ending_of caller)
end_by of_nobody = inl refl
end_by (of_remainder env k) = inr (inl refl)
end_by (of_value x u) = inr (inr refl)

last_of :
    (facts : Facts) (homes : Homes) (entries : Entries) (store : Store) (table : Table) (p room : ℕ) (level : LivingLevel) (w : ℤ) (latest : Communicating)
    (xs : List Activation) (es : List Entry) → AreCallers facts homes entries store table p room level w latest xs es → IsEnd level.setting.last
last_of facts homes entries store table p room level w latest [] es is = absurd is
last_of facts homes entries store table p room level w latest (a ∷ xs) [] is = absurd is
last_of facts homes entries store table p room level w latest (a ∷ []) (e ∷ []) is = subst IsEnd (sym is.stands.last) (end_by a.caller)
last_of facts homes entries store table p room level w latest (a ∷ []) (e ∷ f ∷ es) is = absurd is
last_of facts homes entries store table p room level w latest (a ∷ b ∷ xs) (e ∷ []) is = absurd is
last_of facts homes entries store table p room level w latest (a ∷ b ∷ xs) (e ∷ f ∷ es) (outer, v, earlier, called, within, others) =
    subst IsEnd (sym called.stands.last) (end_by a.caller)

-- who is in a monitor is in it once
in_once_by : (mark : Mark) (a : Activation) (below : List Activation) → a.mark ≡ mark
    → ((n : ℕ) (x : Activation) → slice_get (a ∷ below) 0 ≡ Some x → x.mark ≡ of_monitor n → AreOutside n (a ∷ below)) → IsInOnce mark (a ∷ below)
in_once_by plain a below is rules = tt
in_once_by (of_monitor n) a below is rules = rules n a refl is
in_once_by (of_resource r) a below is rules = tt

in_once : (xs : List Activation)
    → ((n : ℕ) (x : Activation) → slice_get xs 0 ≡ Some x → x.mark ≡ of_monitor n → AreOutside n xs) → IsInOnce (mark_of xs) xs
in_once [] rules = tt
in_once (a ∷ below) rules = in_once_by a.mark a below refl rules

-- ## Every action

module _
    (facts : Facts) (m : Machine) (c : Config) (p choice : ℕ) (level : LivingLevel) (numbered : IsNumbered level) (rules : KeepsToRules (program_in facts) c p)
    (acting : IsActing facts m c p level)
  where
    abbrev g : Program
    g = program_in facts

    same : level.setting.program ≡ g
    same = (has_setting facts m c p level acting).image.program

    abbrev Arrives : Action → Type 0
    Arrives n = HasArrived facts m c p level n

    abbrev Kept : Action → Type 0
    Kept n = IsKept facts m c p choice n

    -- what the rules say of the action
    by_rules : (n : Action) → Arrives n → IsByRules g c p n
    by_rules n arrived = subst (λ (a : Action). IsByRules g c p a) arrived.next rules.action

    objects : level.setting.number ≡ number_at (objects_of level.setting.program)
    objects = numbered facts.tree same ∙ ap (λ (q : Program). number_at (objects_of q)) (sym same)

    numbers : facts.number ≡ number_at (objects_of g)
    numbers = sym (has_setting facts m c p level acting).number ∙ numbered facts.tree same

    of_call :
        (x : Context) (call : Call) (given : List Argument) → AskedOfCall facts c call → Arrives (calls x call given)
        → IsChoice choice (choices g c p (calls x call given)) → Kept (calls x call given)
    of_call x (to_procedure scope k) given told arrived picks =
        procedure_calls_kept facts m c p choice level (calls x (to_procedure scope k) given) tt acting arrived picks
    of_call x (to_function scope u) given told arrived picks =
        function_calls_kept facts m c p choice level (calls x (to_function scope u) given) tt acting arrived picks
    of_call x (to_module n scope k) given told arrived picks =
        module_entries_kept facts m c p choice level (calls x (to_module n scope k) given) tt acting arrived picks
    of_call x (to_requeue scope) given told arrived picks =
        every_requeue_kept facts m c p choice level (calls x (to_requeue scope) given) tt acting arrived
    of_call x (to_process v k) given told arrived picks =
        creations_kept facts m c p choice level (calls x (to_process v k) given)
        (record { creatable = λ t of is. are_creatable t is; objects = objects }) acting arrived picks
    of_call x (to_entry v entry k) given told arrived picks =
        entry_call_kept facts m c p choice level x v entry k given (has_processes facts.tree acting.alike.program)
        (has_typed_entries facts.tree acting.alike.program) (has_singles facts m c p level numbers acting) told.0 told.1 acting arrived

    of_meeting :
        (x : Context) (o : Open) (k : Remainder) (offer : Offer) → o.offer ≡ offer → AskedOfMeeting facts c p x offer → Arrives (meets x o k)
        → IsChoice choice (choices g c p (meets x o k)) → Kept (meets x o k)
    of_meeting x o k (to_send channel v) is told arrived picks =
        sends_kept facts m c p choice level (meets x o k) (subst IsSend (sym is) tt) acting arrived picks
    of_meeting x o k (to_receive channel target) is told arrived picks =
        receives_kept facts m c p choice level (meets x o k) (subst IsReceive (sym is) tt) acting arrived picks
    of_meeting x o k (to_accept a) is told arrived picks =
        accept_is_kept facts m c p choice level x o k a (has_processes facts.tree acting.alike.program)
        (has_typed_entries facts.tree acting.alike.program) told.0 is told.1 acting arrived
    of_meeting x o k (to_wait n) is told arrived picks =
        let (b, checked, by) = arrived.arrived in
        absurd (subst (λ (y : Offer). MeetsBy level.setting b x (stack_of m.stacks p).at (operands_of m.stacks p) o y k) is by.1.1)
    of_meeting x o k to_end is told arrived picks =
        let (b, checked, by) = arrived.arrived in
        absurd (subst (λ (y : Offer). MeetsBy level.setting b x (stack_of m.stacks p).at (operands_of m.stacks p) o y k) is by.1.1)

    of_decision :
        (x : Context) (sel : Selecting) (k : Remainder)
        → (TakesEntry g c p sel choice → KeepsAccepts facts c × StandWithin facts c p x sel.offered)
        → Arrives (decides x sel k) → (matched_places g c p sel ≡ []) ⊎ (TakesMessage g c p sel choice ⊎ TakesEntry g c p sel choice)
        → Kept (decides x sel k)
    of_decision x sel k told arrived (inl none) = unmatched_are_kept facts m c p choice level x sel k none acting arrived
    of_decision x sel k told arrived (inr (inl message)) = messages_are_kept facts m c p choice level x sel k message acting arrived
    of_decision x sel k told arrived (inr (inr takes)) =
        let (accepts, within) = told takes in
        entries_are_kept facts m c p choice level x sel k takes (has_processes facts.tree acting.alike.program)
        (has_typed_entries facts.tree acting.alike.program) accepts within acting arrived

    of_end :
        (line : ℕ) → IsAsked facts c p choice level (finishes line) → Arrives (finishes line) → IsChoice choice (choices g c p (finishes line))
        → IsEnd level.setting.last → Kept (finishes line)
    of_end line told arrived picks (inl is) = lives.ends_kept facts m c p choice level (finishes line) is acting arrived picks
    of_end line told arrived picks (inr (inl is)) =
        procedure_left facts m c p choice level (finishes line) (is, told) (in_once (activity_of g c p).activations (by_rules (finishes line) arrived))
        acting arrived
    of_end line told arrived picks (inr (inr is)) = function_ends_kept facts m c p choice level (finishes line) is acting arrived picks

    own_last : IsEnd level.setting.last
    own_last =
        last_of facts acting.homes acting.entries c.store c.table p (stack_of m.stacks p).room level (word_of (last_activation m.stacks p))
        (descriptor_of m.descriptors p).communications (activity_of g c p).activations (acting.entries p) acting.actor.stands.callers

    pub every_kept :
        (n : Action) → IsAsked facts c p choice level n → Arrives n → IsChoice choice (choices g c p n) → Kept n
    every_kept (reads x v u) told arrived picks = reads_kept facts m c p choice level (reads x v u) tt acting arrived picks
    every_kept (writes x v new k) told arrived picks = writes_kept facts m c p choice level (writes x v new k) tt acting arrived picks
    every_kept (turns x k) told arrived picks = turning.turns_kept facts m c p choice level (turns x k) tt acting arrived picks
    every_kept (calls x call given) told arrived picks = of_call x call given told arrived picks
    every_kept (finishes line) told arrived picks = of_end line told arrived picks own_last
    every_kept (prints x bytes k) told arrived picks = prints_kept facts m c p choice level (prints x bytes k) tt acting arrived picks
    every_kept (inputs x t v k) told arrived picks = taken_kept facts m c p choice level (inputs x t v k) tt acting arrived picks
    every_kept (skips x k) told arrived picks = taken_kept facts m c p choice level (skips x k) tt acting arrived picks
    every_kept (asks_eof x u) told arrived picks = asked_kept facts m c p choice level (asks_eof x u) tt acting arrived picks
    every_kept (asks_eoln x u) told arrived picks = asked_kept facts m c p choice level (asks_eoln x u) tt acting arrived picks
    every_kept (asks_clock x u) told arrived picks = asked_kept facts m c p choice level (asks_clock x u) tt acting arrived picks
    every_kept (asks_empty x v u) told arrived picks = conditions_kept facts m c p choice level (asks_empty x v u) tt acting arrived picks
    every_kept (draws x n u) told arrived picks = drawn_kept facts m c p choice level (draws x n u) tt acting arrived picks
    every_kept (joins x k) told arrived picks = time_kept facts m c p choice level (joins x k) tt acting arrived picks
    every_kept (initials x v n k) told arrived picks = semaphores_kept facts m c p choice level (initials x v n k) tt acting arrived picks
    every_kept (waits x v k) told arrived picks = semaphores_kept facts m c p choice level (waits x v k) tt acting arrived picks
    every_kept (signals x v k) told arrived picks = semaphores_kept facts m c p choice level (signals x v k) tt acting arrived picks
    every_kept (delays x v n k) told arrived picks = conditions_kept facts m c p choice level (delays x v n k) tt acting arrived picks
    every_kept (resumes x v k) told arrived picks =
        holders_resume facts m c p choice level x v k acting arrived (by_rules (resumes x v k) arrived)
    every_kept (sleeps x n k) told arrived picks = time_kept facts m c p choice level (sleeps x n k) tt acting arrived picks
    every_kept (meets x o k) told arrived picks = of_meeting x o k o.offer refl told arrived picks
    every_kept (decides x sel k) told arrived picks =
        of_decision x sel k told arrived (divided g c p choice x sel k picks)
    every_kept (parts x caller k) told arrived picks = meetings.ends_kept facts m c p choice level (parts x caller k) tt acting arrived picks
    every_kept (scans x scan k) told arrived picks =
        scanning.turns_kept facts m c p choice level x scan k rules.barred (let so = by_rules (scans x scan k) arrived in so.1) acting arrived
    every_kept (bars x bar k) told arrived picks =
        bars_kept facts m c p choice level (bars x bar k)
        (subst (λ (q : Program). IsOfItsBlock q bar) (sym same) (let so = by_rules (bars x bar k) arrived in so.1)) acting arrived picks
    every_kept (passes x whom scan k) told arrived picks =
        passes_kept facts m c p choice level x whom scan k (by_rules (passes x whom scan k) arrived) acting arrived
    every_kept (faults x f) told arrived picks = faults_kept facts m c p choice level (faults x f) tt acting arrived picks
