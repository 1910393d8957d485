-- What each action does, by the kind of its instruction: one line for each.
use Rattle.std.specs.Prelude.{ℕ, ◌≡◌, Bool, true, false, [], get_or, Option, None, Some, Result, Ok, Err}
use Rattle.std.specs.List.{slice_get}
use Rattle.pfc_code.specs.declared.images.Block.{Block}
use Rattle.pfc_code.specs.declared.instructions.Instr.{Instr}
use Rattle.pfc_code.specs.declared.instructions.Instr.TheVariants.{CALL, RET, RETF, MCALL, RCALL, GRD, SCAN, REQ, NEW, COEND, END, SINI, SWAIT, SSIG, SEND}
use Rattle.pfc_code.specs.declared.instructions.Instr.TheVariants.{RECV, ECALL, ACC, EACC, SEL, DELAY, RESUME, EMPTY, SLEEP, CLOCK, RAND, WRI, WRB, WRC, WRS}
use Rattle.pfc_code.specs.declared.instructions.Instr.TheVariants.{WRNL, RDI, RDC, RDNL, EOF, EOLN}
use Rattle.pfc_code.specs.Images.{PlainImage}
use Rattle.pfc_stacks.specs.Effects as stacked
use Rattle.pfc_values.specs.declared.simple.Simple.TheVariants.{Integer, Boolean, Char}
use Rattle.pfc_machines.specs.declared.actions.ActionFault.{ActionFault}
use Rattle.pfc_machines.specs.declared.actions.ActionFault.TheVariants.{Fault, Memory}
use Rattle.pfc_machines.specs.declared.machine.Machine.{Machine}
use Rattle.pfc_machines.specs.Actions.{at_rest, Effect, PrintedEffect}
use Rattle.pfc_own_actions.specs.Creating.{creates}
use Rattle.pfc_own_actions.specs.Doing.{reads, skips, asks_end, asks_line_end, draws, clocks, sleeps, joins, finishes}
use Rattle.pfc_own_actions.specs.Writing.{writes_value, writes_text, line_end}
use Rattle.pfc_object_actions.specs.Conditions.{delays, resumes, asks_empty}
use Rattle.pfc_object_actions.specs.Semaphores.{initials, waits, signals}
use Rattle.pfc_call_actions.specs.Calls.{calls, calls_monitor, calls_resource}
use Rattle.pfc_call_actions.specs.Requeues.{requeues}
use Rattle.pfc_call_actions.specs.Returns.{returns, returns_result}
use Rattle.pfc_resource_actions.specs.Guards.{guards}
use Rattle.pfc_resource_actions.specs.Scans.{scans}
use Rattle.pfc_message_actions.specs.Messages.{sends, receives}
use Rattle.pfc_meeting_actions.specs.Meetings.{calls_entry, accepts, parts}
use Rattle.pfc_select_actions.specs.Selects.{decides, choices}

-- what is done with a block of the image; there is one of each number in its code
abbrev pub with_block : Option Block → Machine → (Block → Effect) → Effect
with_block None m does = Ok (at_rest m)
with_block (Some b) m does = does b

-- ## Actions that print nothing

-- selects, in which a plain one takes the alternative at the place of the choice
abbrev pub selects_by : Instr → ℕ → ℕ → Machine → Effect
selects_by (SEL mark x) choice p m = decides mark x choice p m
selects_by i choice p m = Ok (at_rest m)

abbrev pub meets_by : Instr → ℕ → ℕ → Machine → Effect
meets_by (SEND z) choice p m = sends z p m
meets_by (RECV z) choice p m = receives z p m
meets_by (ECALL e z) choice p m = calls_entry e z p m
meets_by (ACC e d z) choice p m = accepts e d z p m
meets_by EACC choice p m = parts p m
meets_by i choice p m = selects_by i choice p m

abbrev pub holds_by : PlainImage → Instr → ℕ → ℕ → Machine → Effect
holds_by image SINI choice p m = initials p m
holds_by image SWAIT choice p m = waits p m
holds_by image SSIG choice p m = signals p m
holds_by image DELAY choice p m = delays p m
holds_by image RESUME choice p m = resumes p m
holds_by image EMPTY choice p m = asks_empty p m
holds_by image (GRD g) choice p m = guards image.blocks g p m
holds_by image (SCAN g) choice p m = scans image.blocks g p m
holds_by image i choice p m = meets_by i choice p m

abbrev pub calls_by : PlainImage → Instr → ℕ → ℕ → Machine → Effect
calls_by image (CALL k l) choice p m = with_block (slice_get image.blocks k) m (λ b. calls k b l p m)
calls_by image (MCALL n k) choice p m = with_block (slice_get image.blocks k) m (λ b. calls_monitor n k b p m)
calls_by image (RCALL g k) choice p m = with_block (slice_get image.blocks k) m (λ b. calls_resource g k b p m)
calls_by image RET choice p m = returns image.scans p m
calls_by image RETF choice p m = returns_result image.blocks p m
calls_by image (REQ g k) choice p m = with_block (slice_get image.blocks k) m (λ b. requeues (get_or image.scans g 0) k b p m)
calls_by image (NEW k) choice p m = with_block (slice_get image.blocks k) m (λ b. creates k b p m)
calls_by image i choice p m = holds_by image i choice p m

abbrev pub lives_by : PlainImage → Instr → ℕ → ℕ → Machine → Effect
lives_by image COEND choice p m = joins p m
lives_by image END choice p m = finishes p m
lives_by image SLEEP choice p m = sleeps p m
lives_by image CLOCK choice p m = clocks p m
lives_by image RAND choice p m = draws p m
lives_by image RDI choice p m = reads Integer p m
lives_by image RDC choice p m = reads Char p m
lives_by image RDNL choice p m = skips p m
lives_by image EOF choice p m = asks_end p m
lives_by image EOLN choice p m = asks_line_end p m
lives_by image i choice p m = calls_by image i choice p m

-- ## Actions that may print

-- what prints nothing
abbrev pub silent : Effect → PrintedEffect
silent (Ok m) = Ok (record { machine = m; bytes = [] })
silent (Err f) = Err f

-- what the stacks leave to others, and calls and returns
abbrev pub performs : PlainImage → Instr → ℕ → ℕ → Machine → PrintedEffect
performs image (WRI w) choice p m = writes_value Integer w p m
performs image (WRB w) choice p m = writes_value Boolean w p m
performs image (WRC w) choice p m = writes_value Char w p m
performs image (WRS s w) choice p m = writes_text (get_or image.texts s []) w p m
performs image WRNL choice p m = writes_text line_end 0 p m
performs image i choice p m = silent (lives_by image i choice p m)

-- what the stacks do alone
abbrev pub does_alone : stacked.Effect → PrintedEffect → Machine → PrintedEffect
does_alone (stacked.goes stacks) outward m = silent (Ok (at_rest (record m { stacks = stacks })))
does_alone (stacked.acts stacks) outward m = silent (Ok (at_rest (record m { stacks = stacks })))
does_alone (stacked.ends_in f) outward m = Err f
does_alone stacked.outward outward m = outward

-- What an action of process p comes to, before it is counted. Calls and returns do more than the stacks do.
abbrev pub acts_by : PlainImage → Instr → ℕ → ℕ → Machine → PrintedEffect
acts_by image (CALL k l) choice p m = performs image (CALL k l) choice p m
acts_by image RET choice p m = performs image RET choice p m
acts_by image RETF choice p m = performs image RETF choice p m
acts_by image i choice p m = does_alone (stacked.effect image.blocks i p m.stacks) (performs image i choice p m) m

-- ## Choices

-- how many alternatives an instruction chooses among
abbrev pub choices_for : Instr → ℕ → Machine → ℕ
choices_for (SEL mark x) p m = choices mark p m
choices_for i p m = 0

-- ## Memory

-- Calls, requeues, creations and output pieces may want memory, and no other action.
abbrev pub may_want_memory : Instr → Bool
may_want_memory (CALL k l) = true
may_want_memory (MCALL n k) = true
may_want_memory (RCALL g k) = true
may_want_memory (REQ g k) = true
may_want_memory (NEW k) = true
may_want_memory (WRI w) = true
may_want_memory (WRB w) = true
may_want_memory (WRC w) = true
may_want_memory (WRS s w) = true
may_want_memory WRNL = true
may_want_memory i = false

-- memory is wanting only where it may be
abbrev pub WantsMemoryIf : Bool → Result Unit ActionFault → Type 0
WantsMemoryIf may (Ok u) = Unit {0}
WantsMemoryIf may (Err (Fault f)) = Unit {0}
WantsMemoryIf may (Err Memory) = may ≡ true
