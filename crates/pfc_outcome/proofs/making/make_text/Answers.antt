use Rattle.std.proofs.Common.{◌≡◌, ℕ, List, length, ◌≤◌, subst, sym, rules}
use Rattle.pfc_outcome.specs.Making.{made_text}
use Rattle.pfc_outcome.proofs.Made.{made_short}
use Rattle.pfc_outcome.proofs.making.make_text.Goals as goal

pub returns-clause-short : goal.returns-clause-short
returns-clause-short c =
    let made : c.into_bytes.result.items ≡ made_text c.args.size = search rules in
    subst (λ (bytes : List ℕ). length bytes ≤ 262144) (sym made) (made_short c.args.size c.ranges.size.fits)
