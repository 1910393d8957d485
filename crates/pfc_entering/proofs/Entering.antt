-- Calls of exported procedures from outside, on both sides.
use Rattle.std.proofs.Common.{◌≡◌, ℕ, Bool, true, false, List, [], ◌++◌, length, Option, sym, ap, ◌∙◌, subst}
use Rattle.std.specs.Prelude.{nat_le, ◌==◌, if◌then◌else◌, position, unwrap_or}
use Rattle.std.proofs.lemmas.List.{append-nil}
use Rattle.pfc_base.specs.declared.faults.RunFault.TheVariants.{Stack}
use Rattle.pfc_types.specs.Blocks.{module_at}
use Rattle.pfc_program.specs.declared.tables.Tables.{Tables}
use Rattle.pfc_program.specs.declared.blocks.Block.{Block as HeldBlock}
use Rattle.pfc_program.specs.Views.{block_view, blocks_view}
use Rattle.pfc_world.specs.Tables.{Table}
use Rattle.pfc_world.specs.Holders.{Held, held_in}
use Rattle.pfc_world.specs.Monitors.{entered}
use Rattle.pfc_world.specs.Resources.{resource_entered}
use Rattle.pfc_store.specs.Views.{store_view}
use Rattle.pfc_semantics.specs.Objects.{module_number}
use Rattle.pfc_semantics.specs.Programs.{Block, Program, found_block, block_at, block_number}
use Rattle.pfc_semantics.specs.Monitors.{enters_monitor}
use Rattle.pfc_semantics.specs.Resources.{enters_resource, guarded_body}
use Rattle.pfc_semantics.specs.Remainders as remainders
use Rattle.pfc_semantics.specs.Rewriting.{from_remainder}
use Rattle.pfc_semantics.specs.Configurations as configurations
use Rattle.pfc_semantics.specs.Configurations.{Config, Effect, of_monitor, of_resource, monitors_held, with_monitors, resources_held, with_resources, body_of}
use Rattle.pfc_semantics.specs.Calls.{most_cells, activated}
use Rattle.pfc_semantics.specs.Steps.{enters_module}
use Rattle.pfc_pending.specs.declared.pending.Argument.{Argument}
use Rattle.pfc_pending.specs.Waiting.{given_view}
use Rattle.pfc_activities.specs.declared.activities.Activity.{Activity}
use Rattle.pfc_activities.specs.declared.activities.Doing.{Doing}
use Rattle.pfc_activities.specs.declared.activities.Mark.TheVariants as mark
use Rattle.pfc_activities.specs.declared.changes.Done.{Done}
use Rattle.pfc_activities.specs.declared.source.Source.{Source}
use Rattle.pfc_activities.specs.declared.state.State.{State}
use Rattle.pfc_activities.specs.Programs.{IsProgram}
use Rattle.pfc_activities.specs.Relation.{IsIn, IsFault, Mirrors}
use Rattle.pfc_activities.specs.Shown.{activities_shown}
use Rattle.pfc_activities.specs.Views.{doing_ahead}
use Rattle.pfc_waiting.specs.Waiting.{HasActed}
use Rattle.pfc_activating.specs.declared.entering.Waits.TheVariants as waits
use Rattle.pfc_activating.specs.Cells.{HasCells, IsFull}
use Rattle.pfc_activating.specs.Ending.{EndsAt}
use Rattle.pfc_activating.specs.Entering.{caller_of, Activates}
use Rattle.pfc_activating.proofs.Activated.{block_is}
use Rattle.pfc_activating.proofs.Calling.{it_fits, it_is_full}
use Rattle.pfc_entering.specs.Entering.{EntersMonitor, EntersResource, EntersModule}
use Rattle.pfc_entering.specs.Guards.{guarded_in}
use Rattle.pfc_entering.proofs.Guarded.{guarded_is}

-- ## On the way

-- only the table and the holders were changed
abbrev pub HoldersChanged : State → State → Type 0
HoldersChanged mid after = after ≡ record mid { world = after.world; monitors = after.monitors; resources = after.resources }

-- on both sides
pub other_holders :
    (source : Source) (mid after : State) (k : Config) (table : Table) (monitors resources : List (Option ℕ))
    → Mirrors source mid k → HoldersChanged mid after → HasActed mid.world after.world → after.world ≡ table → after.monitors.holders ≡ monitors
    → after.monitors.owners ≡ mid.monitors.owners → after.resources ≡ resources
    → Mirrors source after (record k { table = table; monitors = monitors; resources = resources })
other_holders source mid after k table monitors resources mirrors is acted table_is monitors_is owners resources_is =
    let same : after.activities.items ≡ mid.activities.items = ap (λ (x : State). x.activities.items) is in
    record {
      activities = mirrors.activities ∙ ap (activities_shown source.program.tables) (sym same);
      agrees = record {
        table = table_is;
        counts = ap (λ (x : State). x.semaphores) is ∙ mirrors.agrees.counts;
        monitors = monitors_is;
        resources = resources_is;
        store = ap (λ (x : State). store_view x.store) is ∙ mirrors.agrees.store;
        input = ap (λ (x : State). x.input) is ∙ mirrors.agrees.input;
        words = ap (λ (x : State). x.draws) is ∙ mirrors.agrees.words;
        count =
            ap length same ∙ mirrors.agrees.count
            ∙ sym (ap (λ (w : Table). length w.rows) (sym table_is) ∙ acted.count ∙ ap (λ (w : Table). length w.rows) mirrors.agrees.table);
        conditions = owners ∙ mirrors.agrees.conditions;
      };
    }

-- the process is where it was put
stays_in : (mid after : State) (p : ℕ) (y : Activity) → HoldersChanged mid after → IsIn mid.activities.items p y → IsIn after.activities.items p y
stays_in mid after p y is there = subst (λ (l : List Activity). IsIn l p y) (sym (ap (λ (x : State). x.activities.items) is)) there

-- ## Monitors

pub enters_monitor_so :
    (source : Source) (s mid after new : State) (p scope m line cells : ℕ) (args : List Argument) (held : HeldBlock) (doing : Doing) (d : Done)
    → block_view source.program.tables held
    ≡ found_block (blocks_view source.program.tables source.program.blocks.items) scope (block_view source.program.tables source.program.main)
    → HasCells s p held cells → nat_le cells (most_cells p) ≡ true → ((a : Activity) → IsIn s.activities.items p a → line ≡ a.doing.line)
    → ((t : Tables) → doing_ahead t doing ≡ from_remainder (block_view t held).env (body_of (block_view t held)))
    → Activates source s mid p held (record { mark = mark.Monitor m; waits = waits.Statement; cells = cells }) doing args
    → HoldersChanged mid after → HasActed mid.world after.world
    → held_in after.world after.monitors.holders ≡ entered (held_in mid.world mid.monitors.holders) p m
    → after.monitors.owners ≡ mid.monitors.owners → after.resources ≡ mid.resources
    → EndsAt after new p line d → EntersMonitor source s new p m scope args d
enters_monitor_so source s mid after new p scope m line cells args held doing d found has few lines ahead activates changed acted rule owners resources ends
    g c choice a n program is_at e on_line =
    let t : Tables = source.program.tables in
    let block : Block = block_at g scope in
    let same : block_view t held ≡ block = block_is source g scope held program found in
    let caller : configurations.Caller = caller_of t a.doing waits.Statement in
    let begun = activates g c a n (body_of (block_view t held)) program is_at (ahead t) in
    let k : Config = activated g c p block (of_monitor m) caller (given_view args) (body_of block) in
    let mirrors : Mirrors source mid k
    = subst (λ (b : Block). Mirrors source mid (activated g c p b (of_monitor m) caller (given_view args) (body_of b))) same begun.2 in
    let h : Held = entered (monitors_held k) p m in
    let agreed : held_in after.world after.monitors.holders ≡ h
    = rule ∙ ap (λ (x : Table). entered (held_in x mid.monitors.holders) p m) mirrors.agrees.table
    ∙ ap (λ (x : List (Option ℕ)). entered (held_in k.table x) p m) mirrors.agrees.monitors in
    let table_is : after.world ≡ h.table = ap (λ (x : Held). x.table) agreed in
    ends source g c (with_monitors k h) choice begun.0 n []
    (other_holders source mid after k h.table h.holders k.resources mirrors changed acted table_is (ap (λ (x : Held). x.holders) agreed) owners
    (resources ∙ mirrors.agrees.resources))
    (ap (λ (w : Table). w.acting) (sym table_is) ∙ acted.acting) is_at.quiet.sound (stays_in mid after p begun.0 changed begun.1)
    (e ∙ it_fits source g s c (with_monitors k h) p a n held block cells is_at same has few)
    (on_line ∙ sym (lines a is_at.before.there)) (sym (append-nil c.output))

-- fault 6
pub monitor_too_many :
    (source : Source) (s new : State) (p scope m : ℕ) (args : List Argument) (held : HeldBlock) (d : Done)
    → block_view source.program.tables held
    ≡ found_block (blocks_view source.program.tables source.program.blocks.items) scope (block_view source.program.tables source.program.main)
    → IsFull s p held → IsFault s new p Stack d → EntersMonitor source s new p m scope args d
monitor_too_many source s new p scope m args held d found full fault g c choice a n program is_at e on_line =
    let block : Block = block_at g scope in
    let k : Config = activated g c p block (of_monitor m) (caller_of source.program.tables a.doing waits.Statement) (given_view args) (body_of block) in
    fault source g c choice a n is_at
    (e ∙ it_is_full source g s c (with_monitors k (entered (monitors_held k) p m)) p a n held block is_at (block_is source g scope held program found) full)
    on_line

-- ## Resources

pub enters_resource_so :
    (source : Source) (s mid after new : State) (p scope r line cells procedure : ℕ) (args : List Argument) (held : HeldBlock) (doing : Doing) (d : Done)
    → block_view source.program.tables held
    ≡ found_block (blocks_view source.program.tables source.program.blocks.items) scope (block_view source.program.tables source.program.main)
    → HasCells s p held cells → nat_le cells (most_cells p) ≡ true → ((a : Activity) → IsIn s.activities.items p a → line ≡ a.doing.line)
    → procedure ≡ unwrap_or (position (λ (b : Block). b.scope == held.scope) (blocks_view source.program.tables source.program.blocks.items)) 0
    → ((t : Tables) → doing_ahead t doing ≡ from_remainder (block_view t held).env (guarded_in r procedure (block_view t held) (block_view t held).guard))
    → Activates source s mid p held (record { mark = mark.Resource r; waits = waits.Statement; cells = cells }) doing args
    → HoldersChanged mid after → HasActed mid.world after.world
    → held_in after.world after.resources ≡ resource_entered (held_in mid.world mid.resources) p r → after.monitors ≡ mid.monitors
    → EndsAt after new p line d → EntersResource source s new p r scope args d
enters_resource_so source s mid after new p scope r line cells procedure args held doing d found has few lines numbered ahead activates changed acted rule
    monitors ends g c choice a n program is_at e on_line =
    let t : Tables = source.program.tables in
    let block : Block = block_at g scope in
    let same : block_view t held ≡ block = block_is source g scope held program found in
    let caller : configurations.Caller = caller_of t a.doing waits.Statement in
    let number : procedure ≡ block_number g held.scope = numbered ∙ ap (λ (x : Program). block_number x held.scope) (sym program.is) in
    let guarded : guarded_in r procedure (block_view t held) (block_view t held).guard ≡ guarded_body g r (block_view t held) (block_view t held).guard
    = guarded_is g r procedure (block_view t held) number in
    let begun =
    activates g c a n (guarded_body g r (block_view t held) (block_view t held).guard) program is_at
    (ahead t ∙ ap (from_remainder (block_view t held).env) guarded) in
    let k : Config = activated g c p block (of_resource r) caller (given_view args) (guarded_body g r block block.guard) in
    let mirrors : Mirrors source mid k
    = subst (λ (b : Block). Mirrors source mid (activated g c p b (of_resource r) caller (given_view args) (guarded_body g r b b.guard))) same begun.2 in
    let h : Held = resource_entered (resources_held k) p r in
    let agreed : held_in after.world after.resources ≡ h
    = rule ∙ ap (λ (x : Table). resource_entered (held_in x mid.resources) p r) mirrors.agrees.table
    ∙ ap (λ (x : List (Option ℕ)). resource_entered (held_in k.table x) p r) mirrors.agrees.resources in
    let table_is : after.world ≡ h.table = ap (λ (x : Held). x.table) agreed in
    ends source g c (with_resources k h) choice begun.0 n []
    (other_holders source mid after k h.table k.monitors h.holders mirrors changed acted table_is
    (ap (λ x. x.holders) monitors ∙ mirrors.agrees.monitors) (ap (λ x. x.owners) monitors) (ap (λ (x : Held). x.holders) agreed))
    (ap (λ (w : Table). w.acting) (sym table_is) ∙ acted.acting) is_at.quiet.sound (stays_in mid after p begun.0 changed begun.1)
    (e ∙ it_fits source g s c (with_resources k h) p a n held block cells is_at same has few)
    (on_line ∙ sym (lines a is_at.before.there)) (sym (append-nil c.output))

-- fault 6
pub resource_too_many :
    (source : Source) (s new : State) (p scope r : ℕ) (args : List Argument) (held : HeldBlock) (d : Done)
    → block_view source.program.tables held
    ≡ found_block (blocks_view source.program.tables source.program.blocks.items) scope (block_view source.program.tables source.program.main)
    → IsFull s p held → IsFault s new p Stack d → EntersResource source s new p r scope args d
resource_too_many source s new p scope r args held d found full fault g c choice a n program is_at e on_line =
    let block : Block = block_at g scope in
    let k : Config
    = activated g c p block (of_resource r) (caller_of source.program.tables a.doing waits.Statement) (given_view args) (guarded_body g r block block.guard) in
    fault source g c choice a n is_at
    (e
    ∙ it_is_full source g s c (with_resources k (resource_entered (resources_held k) p r)) p a n held block is_at
    (block_is source g scope held program found) full)
    on_line

-- ## Modules

-- which of the two it is, and by which number
enters_one :
    (source : Source) (g : Program) (c : Config) (p n number : ℕ) (b : Block) (caller : configurations.Caller) (given : List remainders.Argument) (z : Bool)
    → IsProgram source g → (module_at source.program.tables.scopes.now n).resource ≡ z → number ≡ module_number source.program.tables.scopes.now n
    → enters_module g c p n b caller given ≡ (if z then enters_resource g c p b number caller given else enters_monitor g c p b number caller given)
enters_one source g c p n number b caller given z program kind numbered =
    let by : Bool → ℕ → Effect = λ z i. if z then enters_resource g c p b i caller given else enters_monitor g c p b i caller given in
    ap (λ (x : Program). by (module_at x.state.blocks n).resource (module_number x.state.blocks n)) program.is
    ∙ ap (λ (x : Bool). by x (module_number source.program.tables.scopes.now n)) kind ∙ ap (by z) (sym numbered)

pub enters_as_resource :
    (source : Source) (s new : State) (p n number scope : ℕ) (args : List Argument) (d : Done)
    → (module_at source.program.tables.scopes.now n).resource ≡ true → number ≡ module_number source.program.tables.scopes.now n
    → EntersResource source s new p number scope args d → EntersModule source s new p n scope args d
enters_as_resource source s new p n number scope args d kind numbered enters g c choice a m program is_at e on_line =
    enters g c choice a m program is_at
    (e
    ∙ enters_one source g c p n number (block_at g scope) (caller_of source.program.tables a.doing waits.Statement)
    (given_view args) true program kind numbered)
    on_line

pub enters_as_monitor :
    (source : Source) (s new : State) (p n number scope : ℕ) (args : List Argument) (d : Done)
    → (module_at source.program.tables.scopes.now n).resource ≡ false → number ≡ module_number source.program.tables.scopes.now n
    → EntersMonitor source s new p number scope args d → EntersModule source s new p n scope args d
enters_as_monitor source s new p n number scope args d kind numbered enters g c choice a m program is_at e on_line =
    enters g c choice a m program is_at
    (e
    ∙ enters_one source g c p n number (block_at g scope) (caller_of source.program.tables a.doing waits.Statement)
    (given_view args) false program kind numbered)
    on_line
