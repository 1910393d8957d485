use Rattle.std.proofs.Common.{sym}
use Rattle.pfc_values.proofs.Ends.{ends_lines-last}
use Rattle.pfc_values.proofs.lines.ends_lines.Goals as goal

pub returns-in-Some : goal.returns-in-Some
returns-in-Some c = sym (ends_lines-last c.args.bytes.now c.in-Some.b.now (sym c.in-Some.ensures.value))
