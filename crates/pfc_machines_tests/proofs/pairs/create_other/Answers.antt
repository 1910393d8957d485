use Rattle.std.proofs.Common.{◌≡◌, ℕ, pos, [], None, Ok, sym, ap, ap₂, ◌∙◌}
use Rattle.std.specs.List.{slice_get}
use Rattle.pfc_code.specs.declared.images.Block.{Block}
use Rattle.pfc_world.specs.Tables.{Table}
use Rattle.pfc_world.specs.Transitions.{begun}
use Rattle.pfc_machines.specs.declared.machine.Machine.{Machine}
use Rattle.pfc_own_actions.specs.Creating.{creates}
use Rattle.pfc_machines_tests.specs.Samples.{block_by, world_with, sample_machine, left_by}
use Rattle.pfc_machines_tests.proofs.pairs.create_other.Goals as goal

pub returns-in-Ok : goal.returns-in-Ok
returns-in-Ok c =
    let b : Block = block_by 0 1 1 5 in
    let over : Table → Machine → Machine = λ w m. (let after : Machine = record m { world = w } in after) in
    let start : Machine = sample_machine (pos 1) (pos 42) None None [] 7 in
    let world : c.begin-main.new.self ≡ begun (world_with None) 0 = c.begin-main.ensures.world ∙ ap (λ (m : Machine). begun m.world 0) c.requires.start in
    let before : over c.begin-main.new.self c.args.machine.now ≡ over (begun (world_with None) 0) start = ap₂ over world c.requires.start in
    let made : creates 0 b c.begin-main.result.number (over c.begin-main.new.self c.args.machine.now) ≡ Ok c.create.new.machine =
    c.in-Ok.ensures b (ap (λ bs. slice_get bs 0) c.requires.blocks) in
    sym (ap left_by made) ∙ ap₂ (λ (n : ℕ) (m : Machine). left_by (creates 0 b n m)) c.begin-main.ensures.number before
