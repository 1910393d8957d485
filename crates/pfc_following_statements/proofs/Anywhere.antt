-- The same for any names in view whose types and blocks are the program's.
use Rattle.std.proofs.Common.{ℕ, ◌+◌, ◌≤◌, Some, refl, arith}
use Rattle.pfc_types.specs.declared.scope.Meaning.TheVariants.{Sub, Entry}
use Rattle.pfc_semantics.specs.Programs.{Block}
use Rattle.pfc_semantics.specs.Remainders.{Context, finishes}
use Rattle.pfc_semantics.specs.Alternatives.{message_of, receiver_of}
use Rattle.pfc_translation.specs.Calls.{writes_code, reads_code, procedure_code, sub_code, exported_code, activation_code, entry_code, call_code}
use Rattle.pfc_translation.specs.Codes.{Code, ◌⨾◌}
use Rattle.pfc_translation.specs.Addresses.{base_code}
use Rattle.pfc_translation.specs.Expressions.{selectors_code}
use Rattle.pfc_translation.specs.Selects.{send_code, receive_code}
use Rattle.pfc_translation.specs.Statements.{assign_code}
use Rattle.pfc_standing_code.specs.Settings.{Setting, site_of}
use Rattle.pfc_following_expressions.proofs.Expressions.{env_in}
use Rattle.pfc_following_expressions.proofs.Anywhere.{anywhere}
use Rattle.pfc_following_statements.specs.Phrases.{AssignmentFollows, SendFollows, ReceiveFollows, WriteFollows, ReadFollows, CallFollows, ModuleCallFollows}
use Rattle.pfc_following_statements.specs.Phrases.{RequeueFollows, ProcedureFollows, ActivationFollows, EntryCallFollows, EveryCallFollows}
use Rattle.pfc_following_statements.proofs.Simple.{assign_follows, send_follows, receive_follows}
use Rattle.pfc_following_statements.proofs.Items.{writes_follow, reads_follow, sub_follows, exported_follows, requeue_follows}
use Rattle.pfc_following_statements.proofs.Procedures.{procedure_follows}
use Rattle.pfc_following_statements.proofs.Activations.{activation_follows, entry_call_follows, call_runs}

least : (n : ℕ) → 0 ≤ n
least n = omega arith

-- the context with the program's own types and blocks
abbrev inside : Setting → Context → Context
inside g x = record { env = env_in g x.env.view x.env.around; line = x.line }

pub assignment_follows : (g : Setting) (b : Block) (x : Context) → AssignmentFollows g b x
assignment_follows g b x checked =
    anywhere g b x (λ y. AssignmentFollows g b y) checked
    (λ known own d e k is at i ops st rest.
    assign_follows g b x.env.view x.env.around known (least g.arms) own x.line d e k at i
    (at + (assign_code (site_of g b (inside g x)) d e).size) ops is st refl rest)
    checked

pub sends_follow : (g : Setting) (b : Block) (x : Context) → SendFollows g b x
sends_follow g b x checked =
    anywhere g b x (λ y. SendFollows g b y) checked
    (λ known own d e k is at i ops st rest.
    send_follows g b x.env.view x.env.around known (least g.arms) own x.line d (message_of (inside g x) e) k at i
    (at + (send_code (site_of g b (inside g x)) d e).size) ops is st refl rest)
    checked

pub receives_follow : (g : Setting) (b : Block) (x : Context) → ReceiveFollows g b x
receives_follow g b x checked =
    anywhere g b x (λ y. ReceiveFollows g b y) checked
    (λ known own d v k is at i ops st rest.
    receive_follows g b x.env.view x.env.around known (least g.arms) own x.line d (receiver_of (inside g x) v) k at i
    (at + (receive_code (site_of g b (inside g x)) d v).size) ops is st refl rest)
    checked

pub write_follows : (g : Setting) (b : Block) (x : Context) → WriteFollows g b x
write_follows g b x checked =
    anywhere g b x (λ y. WriteFollows g b y) checked
    (λ known own args newline k is go at i ops st rest on.
    writes_follow g b x.env.view x.env.around known (least g.arms) own x.line args newline k go at i
    (at + (writes_code (site_of g b (inside g x)) args newline).size) ops is st refl rest on)
    checked

pub read_follows : (g : Setting) (b : Block) (x : Context) → ReadFollows g b x
read_follows g b x checked =
    anywhere g b x (λ y. ReadFollows g b y) checked
    (λ known own args skip k is go at i ops st rest on.
    reads_follow g b x.env.view x.env.around known (least g.arms) own x.line args skip k go at i
    (at + (reads_code (site_of g b (inside g x)) args skip).size) ops is st refl rest on)
    checked

pub call_follows : (g : Setting) (b : Block) (x : Context) → CallFollows g b x
call_follows g b x checked =
    anywhere g b x (λ y. CallFollows g b y) checked
    (λ known own q v ss args k go is at i ops st rest.
    sub_follows g b x.env.view x.env.around known (least g.arms) own x.line q args k at i
    (at + (sub_code (site_of g b (inside g x)) q args).size) ops is st refl rest)
    checked

pub module_call_follows : (g : Setting) (b : Block) (x : Context) → ModuleCallFollows g b x
module_call_follows g b x checked =
    anywhere g b x (λ y. ModuleCallFollows g b y) checked
    (λ known own m q args k go is at i ops st rest.
    exported_follows g b x.env.view x.env.around known (least g.arms) own x.line m q args k at i
    (at + (exported_code (site_of g b (inside g x)) m (Some (Sub q)) args).size) ops is st refl rest)
    checked

pub requeues_follow : (g : Setting) (b : Block) (x : Context) → RequeueFollows g b x
requeues_follow g b x checked =
    anywhere g b x (λ y. RequeueFollows g b y) checked
    (λ known own q args go is at i ops over st. requeue_follows g b x.env.view x.env.around known (least g.arms) own x.line q args at i ops is over st)
    checked

pub predeclared_follows : (g : Setting) (b : Block) (x : Context) → ProcedureFollows g b x
predeclared_follows g b x checked =
    anywhere g b x (λ y. ProcedureFollows g b y) checked
    (λ known own q args k is go at i ops st rest on.
    procedure_follows g b x.env.view x.env.around known (least g.arms) own x.line q args k go at i
    (at + (procedure_code (site_of g b (inside g x)) q args).size) ops is st refl rest on)
    checked

-- where the code of a call ends
abbrev end_of : ℕ → Code → ℕ
end_of at code = at + code.size

pub activations_follow : (g : Setting) (b : Block) (x : Context) → ActivationFollows g b x
activations_follow g b x checked =
    anywhere g b x (λ y. ActivationFollows g b y) checked
    (λ known own q v ss args k is at i ops st rest.
    let s = site_of g b (inside g x) in
    activation_follows g b x.env.view x.env.around known (least g.arms) own x.line q v ss args k at i
    (end_of at (activation_code s q (base_code s v.spot ⨾ selectors_code s v.t ss) args)) ops is st refl rest)
    checked

pub entry_calls_follow : (g : Setting) (b : Block) (x : Context) → EntryCallFollows g b x
entry_calls_follow g b x checked =
    anywhere g b x (λ y. EntryCallFollows g b y) checked
    (λ known own q entry v ss args k is at i ops st rest.
    let s = site_of g b (inside g x) in
    entry_call_follows g b x.env.view x.env.around known (least g.arms) own x.line q entry v ss args k (finishes 0) at i
    (end_of at (entry_code s q (Some (Entry entry)) (base_code s v.spot ⨾ selectors_code s v.t ss) args)) ops is st refl rest)
    checked

pub every_call_follows : (g : Setting) (b : Block) (x : Context) → EveryCallFollows g b x
every_call_follows g b x checked =
    anywhere g b x (λ y. EveryCallFollows g b y) checked
    (λ known own d args k is go at i ops st rest on.
    call_runs g b x.env.view x.env.around known (least g.arms) own x.line d args k go is at i
    (end_of at (call_code (site_of g b (inside g x)) d args)) ops st refl rest on)
    checked
