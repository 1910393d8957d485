use Rattle.std.proofs.Common.{nat_lt, rules, sym, ap, ◌∙◌}
use Rattle.pfc_sorted.specs.Sorted.{passes}
use Rattle.pfc_sorted.proofs.Calls.{parted-from_clause}
use Rattle.pfc_sorted.proofs.Searches.{none-pass}
use Rattle.pfc_ranks.proofs.Parts.{parted-by-object}
use Rattle.pfc_ranks.proofs.ranks.start_of.Goals as goal

pub returns-in-Some : goal.returns-in-Some
returns-in-Some c =
    parted-from_clause (passes (λ p other. nat_lt other.object c.args.object) c.args.delays.now) _ _ c.count_passing.ensures
    (parted-by-object c.args.sorted.now.items c.args.delays.now c.args.object c.requires) (λ a r q k. search rules)

pub returns-in_default : goal.returns-in_default
returns-in_default c =
    none-pass (passes (λ p other. nat_lt other.object c.args.object) c.args.delays.now) c.args.sorted.now.items c.in-Some.first.now
    (parted-by-object c.args.sorted.now.items c.args.delays.now c.args.object c.requires)
    (ap (passes (λ p other. nat_lt other.object c.args.object) c.args.delays.now) (sym c.in-Some.ensures.lookup) ∙ sym c.is_lower.ensures ∙ c.if-is_lower.false)
