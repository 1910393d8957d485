use Rattle.std.specs.Prelude.{◌+◌, length}
use Rattle.pfc_translation.specs.Statements.{stmt_code}
use Rattle.pfc_translation.specs.Images.{instructions}
use Rattle.pfc_image_laws.proofs.Holds.{stmt_size, stmt_each, each_leads, each_goes_on, each_block, each_text, each_links}
use Rattle.pfc_image_laws.proofs.Arms.{stmt_opens}
use Rattle.pfc_image_laws.proofs.laws.statements_stay_within.Goals as goal

pub returns-clause-sizes : goal.returns-clause-sizes
returns-clause-sizes c = λ s n t at strings. stmt_size s n t at strings

pub returns-clause-jumps : goal.returns-clause-jumps
returns-clause-jumps c = λ s n t at strings.
    let a = stmt_code s n t in
    each_leads s.program s.block at (at + a.size) strings (strings + length a.texts) at (instructions (a.put at strings)) (stmt_each s n t at strings)

pub returns-clause-ends : goal.returns-clause-ends
returns-clause-ends c = λ s n t at strings.
    let a = stmt_code s n t in
    each_goes_on s.program s.block at (at + a.size) strings (strings + length a.texts) at (instructions (a.put at strings)) (stmt_each s n t at strings)

pub returns-clause-blocks : goal.returns-clause-blocks
returns-clause-blocks c = λ s n t at strings.
    let a = stmt_code s n t in
    each_block s.program s.block at (at + a.size) strings (strings + length a.texts) at (instructions (a.put at strings)) (stmt_each s n t at strings)

pub returns-clause-texts : goal.returns-clause-texts
returns-clause-texts c = λ s n t at strings.
    let a = stmt_code s n t in
    each_text s.program s.block at (at + a.size) strings (strings + length a.texts) at (instructions (a.put at strings)) (stmt_each s n t at strings)

pub returns-clause-levels : goal.returns-clause-levels
returns-clause-levels c = λ s n t at strings.
    let a = stmt_code s n t in
    each_links s.program s.block at (at + a.size) strings (strings + length a.texts) at (instructions (a.put at strings)) (stmt_each s n t at strings)

pub returns-clause-alternatives : goal.returns-clause-alternatives
returns-clause-alternatives c = λ s n t at strings. stmt_opens s n t at strings
