use Rattle.std.proofs.Common.{◌≡◌, ◌∙◌, ap, subst}
use Rattle.pfc_types.specs.Blocks.{Blocks}
use Rattle.pfc_code.specs.declared.instructions.Instr.{Instr}
use Rattle.pfc_semantics.specs.Layouts.{sub_with}
use Rattle.pfc_translation.specs.Codes.{Code, ◌⨾◌, one}
use Rattle.pfc_translation.specs.Images.{site_in, guard_code, statements_code, end_of}
use Rattle.pfc_program.specs.Views.{block_view}
use Rattle.pfc_program.specs.declared.blocks.Block.{Block}
use Rattle.pfc_addresses.specs.Sites.{whole_view}
use Rattle.pfc_addresses.specs.declared.addresses.Addresses.{Addresses}
use Rattle.pfc_expression_code.specs.Putting.{IsMade}
use Rattle.pfc_expression_code.proofs.Joining.{made_both}
use Rattle.pfc_generator.proofs.bodies.put_body.Goals as goal

pub returns-clause-code : goal.returns-clause-code
returns-clause-code c =
    let a : Addresses = c.args.addresses.now in
    let k : Block = c.args.block.now in
    let guard : Addresses → Block → Code = λ a k. let b = block_view a.program.now.tables k in guard_code (whole_view a.program.now) b b.guard in
    let body : Addresses → Block → Code = λ a k. statements_code (whole_view a.program.now) (block_view a.program.now.tables k) in
    let end : Addresses → Block → Instr → Code = λ a k i.
    one (record (site_in (whole_view a.program.now) (block_view a.program.now.tables k)) { line = k.last_line }) i
    in
    let before = c.args.coder.now in
    let first = c.put_guard.new.coder in
    let second = c.put_statements.new.coder in
    let third = c.put_alone.new.coder in
    let same = c.in_ok-body.ensures.program in
    let own = c.in_ok-body.ensures.block in
    let put : IsMade (guard a k) before first =
    subst (λ (a : Addresses). IsMade (guard a k) before first) same
    (subst (λ (k : Block). IsMade (guard c.in_ok-body.body.addresses.now k) before first) own c.in_ok-put_guard.ensures)
    in
    let behind : IsMade (body a k) first second =
    subst (λ (a : Addresses). IsMade (body a k) first second) same
    (subst (λ (k : Block). IsMade (body c.in_ok-body.body.addresses.now k) first second) own c.in_ok-put_statements.ensures)
    in
    let last : IsMade (end a k c.end_of-end.result) second third =
    subst (λ (a : Addresses). IsMade (end a k c.end_of-end.result) second third) same
    (subst (λ (b : Block). IsMade (one (record (site_in (whole_view c.in_ok-body.body.addresses.now.program.now)
    (block_view c.in_ok-body.body.addresses.now.program.now.tables b)) { line = k.last_line }) c.end_of-end.result) second third) own
    c.in_ok-put_alone.ensures)
    in
    let ends : c.end_of-end.result ≡ end_of (sub_with a.program.now.tables.scopes.now.subs k.scope) =
    c.end_of-end.ensures ∙ ap (λ (b : Blocks). end_of (sub_with b.subs k.scope)) c.requires
    in
    subst (λ (i : Instr). IsMade (guard a k ⨾ (body a k ⨾ end a k i)) before third) ends
    (made_both (guard a k) (body a k ⨾ end a k c.end_of-end.result) before first third put
    (made_both (body a k) (end a k c.end_of-end.result) first second third behind last))
