-- Calls of subs of the program, on both sides.
use Rattle.std.proofs.Common.{◌≡◌, ℕ, Bool, true, List, [], Ok, Err, sym, ap, ◌∙◌, subst}
use Rattle.std.specs.Prelude.{nat_le, if◌then◌else◌}
use Rattle.std.proofs.lemmas.List.{append-nil}
use Rattle.pfc_base.specs.declared.faults.RunFault.TheVariants.{Stack}
use Rattle.pfc_program.specs.declared.tables.Tables.{Tables}
use Rattle.pfc_program.specs.declared.blocks.Block.{Block as HeldBlock}
use Rattle.pfc_program.specs.Views.{block_view, blocks_view}
use Rattle.pfc_semantics.specs.Programs.{Block, Program, found_block, block_at}
use Rattle.pfc_semantics.specs.Remainders.{Action}
use Rattle.pfc_semantics.specs.Rewriting.{from_remainder}
use Rattle.pfc_semantics.specs.Configurations as configurations
use Rattle.pfc_semantics.specs.Configurations.{Config, Effect, Activation, plain, activity_of, body_of}
use Rattle.pfc_semantics.specs.Calls.{cells_above, most_cells, unless_full, activated}
use Rattle.pfc_pending.specs.declared.pending.Argument.{Argument}
use Rattle.pfc_pending.specs.Waiting.{given_view}
use Rattle.pfc_activities.specs.declared.activities.Activity.{Activity}
use Rattle.pfc_activities.specs.declared.activities.Doing.{Doing}
use Rattle.pfc_activities.specs.declared.activities.Mark.TheVariants as mark
use Rattle.pfc_activities.specs.declared.changes.Done.{Done}
use Rattle.pfc_activities.specs.declared.source.Source.{Source}
use Rattle.pfc_activities.specs.declared.state.State.{State}
use Rattle.pfc_activities.specs.Relation.{IsIn, IsAt, IsFault, Mirrors}
use Rattle.pfc_activities.specs.Views.{doing_ahead, activations_view}
use Rattle.pfc_activities.proofs.Acting.{activations_are}
use Rattle.pfc_activating.specs.declared.entering.Waits.{Waits}
use Rattle.pfc_activating.specs.Calling.{IsCalled}
use Rattle.pfc_activating.specs.Cells.{HasCells, IsFull}
use Rattle.pfc_activating.specs.Ending.{EndsAt}
use Rattle.pfc_activating.specs.Entering.{caller_of, Activates}
use Rattle.pfc_activating.proofs.Activated.{block_is}

-- ## Cells

cells_are :
    (source : Source) (g : Program) (s : State) (c : Config) (p : ℕ) (a : Activity) (n : Action) (held : HeldBlock) (block : Block)
    → IsAt source s c p a n → block_view source.program.tables held ≡ block
    → cells_above (activity_of g c p).activations block
    ≡ cells_above (activations_view source.program.tables a.activations.items) (block_view source.program.tables held)
cells_are source g s c p a n held block is_at same =
    ap (λ (x : List Activation). cells_above x block) (activations_are source g s c p a n is_at.before)
    ∙ ap (cells_above (activations_view source.program.tables a.activations.items)) (sym same)

-- there are not too many
pub it_fits :
    (source : Source) (g : Program) (s : State) (c k : Config) (p : ℕ) (a : Activity) (n : Action) (held : HeldBlock) (block : Block) (cells : ℕ)
    → IsAt source s c p a n → block_view source.program.tables held ≡ block → HasCells s p held cells → nat_le cells (most_cells p) ≡ true
    → unless_full p (cells_above (activity_of g c p).activations block) k ≡ Ok k
it_fits source g s c k p a n held block cells is_at same has few =
    ap (λ (x : ℕ). unless_full p x k) (cells_are source g s c p a n held block is_at same ∙ has a is_at.before.there source.program.tables)
    ∙ ap (λ (x : Bool). (let r : Effect = if x then Ok k else Err Stack in r)) few

-- there are
pub it_is_full :
    (source : Source) (g : Program) (s : State) (c k : Config) (p : ℕ) (a : Activity) (n : Action) (held : HeldBlock) (block : Block)
    → IsAt source s c p a n → block_view source.program.tables held ≡ block → IsFull s p held
    → unless_full p (cells_above (activity_of g c p).activations block) k ≡ Err Stack
it_is_full source g s c k p a n held block is_at same full =
    ap (λ (x : ℕ). unless_full p x k) (cells_are source g s c p a n held block is_at same)
    ∙ ap (λ (x : Bool). (let r : Effect = if x then Ok k else Err Stack in r)) (full a is_at.before.there source.program.tables)

-- ## The call

pub called_so :
    (source : Source) (s mid new : State) (p scope line cells : ℕ) (waits : Waits) (args : List Argument) (held : HeldBlock) (doing : Doing) (d : Done)
    → block_view source.program.tables held
    ≡ found_block (blocks_view source.program.tables source.program.blocks.items) scope (block_view source.program.tables source.program.main)
    → HasCells s p held cells → nat_le cells (most_cells p) ≡ true → ((a : Activity) → IsIn s.activities.items p a → line ≡ a.doing.line)
    → ((t : Tables) → doing_ahead t doing ≡ from_remainder (block_view t held).env (body_of (block_view t held)))
    → Activates source s mid p held (record { mark = mark.Plain; waits = waits; cells = cells }) doing args
    → EndsAt mid new p line d → IsCalled source s new p scope waits args d
called_so source s mid new p scope line cells waits args held doing d found has few lines ahead activates ends g c choice a n program is_at e on_line =
    let t : Tables = source.program.tables in
    let block : Block = block_at g scope in
    let same : block_view t held ≡ block = block_is source g scope held program found in
    let caller : configurations.Caller = caller_of t a.doing waits in
    let begun = activates g c a n (body_of (block_view t held)) program is_at (ahead t) in
    let k : Config = activated g c p block plain caller (given_view args) (body_of block) in
    ends source g c k choice begun.0 n []
    (subst (λ (b : Block). Mirrors source mid (activated g c p b plain caller (given_view args) (body_of b))) same begun.2)
    is_at.quiet.acting is_at.quiet.sound begun.1 (e ∙ it_fits source g s c k p a n held block cells is_at same has few)
    (on_line ∙ sym (lines a is_at.before.there)) (sym (append-nil c.output))

-- fault 6
pub too_many :
    (source : Source) (s new : State) (p scope : ℕ) (waits : Waits) (args : List Argument) (held : HeldBlock) (d : Done)
    → block_view source.program.tables held
    ≡ found_block (blocks_view source.program.tables source.program.blocks.items) scope (block_view source.program.tables source.program.main)
    → IsFull s p held → IsFault s new p Stack d → IsCalled source s new p scope waits args d
too_many source s new p scope waits args held d found full fault g c choice a n program is_at e on_line =
    let block : Block = block_at g scope in
    let k : Config
    = activated g c p block plain (caller_of source.program.tables a.doing waits) (given_view args) (body_of block) in
    fault source g c choice a n is_at
    (e ∙ it_is_full source g s c k p a n held block is_at (block_is source g scope held program found) full) on_line
