-- Behind a meeting, where only the names in the accept are seen anew.
use Rattle.std.proofs.Common.{[]}
use Rattle.pfc_standing_code.specs.Settings.{Setting}
use Rattle.pfc_standing_code.proofs.Checked.{asked_of}
use Rattle.pfc_kept_code.specs.Kept.{Among}
use Rattle.pfc_kept_code.proofs.Doing.{keeps_names, keeps_remainders}
use Rattle.pfc_following_source.specs.Behind.{MeetingsLeadOn}

pub meetings_led : (g : Setting) → MeetingsLeadOn g
meetings_led g view b names to ops x a o caller k own agree named inside outer inner behind =
    behind view caller (keeps_names g view b names agree x.env named outer) inner
    (λ end rest. keeps_remainders g view b names own agree k x.env end ops [] (asked_of (Among names) x.env k named) inside rest)
