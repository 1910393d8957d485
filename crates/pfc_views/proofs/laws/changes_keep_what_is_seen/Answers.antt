use Rattle.pfc_views.proofs.Kept.{sees_still}
use Rattle.pfc_views.proofs.laws.changes_keep_what_is_seen.Goals as goal

pub returns : goal.returns
returns c = λ g keeps homes homes' entries entries' store store' display b accepts w chain view like sees.
    sees_still g keeps homes homes' entries entries' store store' like display b accepts w chain view sees
