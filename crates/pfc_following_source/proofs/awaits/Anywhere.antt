-- The same for any names in view whose types and blocks are the program's.
use Rattle.pfc_semantics.specs.Programs.{Block}
use Rattle.pfc_semantics.specs.Remainders.{Context}
use Rattle.pfc_standing_code.specs.Settings.{Setting}
use Rattle.pfc_following_expressions.proofs.Anywhere.{anywhere}
use Rattle.pfc_following_source.specs.awaits.Awaited.{ValuesFollow, LocationsFollow}
use Rattle.pfc_following_source.proofs.awaits.Locations.{location_follows}
use Rattle.pfc_following_source.proofs.awaits.Values.{value_follows}

pub values_follow_anywhere : (g : Setting) (b : Block) (x : Context) → ValuesFollow g b x
values_follow_anywhere g b x checked =
    anywhere g b x (λ y. ValuesFollow g b y) checked
    (λ known u h v at ops arms few room shaped is. value_follows g b x.env.view x.env.around known x.line u h v at ops arms few room shaped is) checked

pub locations_follow_anywhere : (g : Setting) (b : Block) (x : Context) → LocationsFollow g b x
locations_follow_anywhere g b x checked =
    anywhere g b x (λ y. LocationsFollow g b y) checked
    (λ known goal t l w at ops arms few room lies may is lends.
    location_follows g b x.env.view x.env.around known x.line goal t l w at ops arms few room lies may is lends) checked
