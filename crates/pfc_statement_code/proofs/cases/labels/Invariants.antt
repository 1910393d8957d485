use Rattle.std.proofs.Common.{drop}
use Rattle.pfc_addresses.specs.Sites.{site_view}
use Rattle.pfc_statement_code.specs.Arms.{open_labels}
use Rattle.pfc_statement_code.proofs.Loops.{IsOnTheWay}
use Rattle.pfc_statement_code.proofs.cases.labels.Given as goal

abbrev pub invariant-loop-l : goal.invariant-loop-l
invariant-loop-l l =
    IsOnTheWay (open_labels (site_view l.site) (drop l.l-index l.ls)) (open_labels (site_view l.site) l.ls) l.initial.code l.code
