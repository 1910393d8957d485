-- Code that follows an action leads to it by so many quiet instructions.
use Rattle.std.proofs.Common.{ℕ, suc, ◌≤◌, ℤ, List, length, sym, subst, arith}
use Rattle.pfc_semantics.specs.Remainders.{Action}
use Rattle.pfc_semantics.specs.Rewriting.{from_value, going, holding}
use Rattle.pfc_standing_code.specs.Settings.{Setting}
use Rattle.pfc_standing_code.specs.Effects.{Arm}
use Rattle.pfc_standing_code.specs.Following.{Follows, arrives, moves}
use Rattle.pfc_following_source.proofs.structures.Left.{remainder_follows}
use Rattle.pfc_following_source.proofs.awaits.Anywhere.{values_follow_anywhere}
use Rattle.pfc_following_source.specs.Source.{none_more, one_more, LeadsToAction, CodeFollowsSource}
use Rattle.pfc_following_source.proofs.Places.{stands_there}

module _ (g : Setting) where
  follows_leads : (n : Action) (at : ℕ) (ops : List ℤ) (arms : List Arm) → length ops ≤ g.room → length arms ≤ g.arms →
      Follows g n at ops arms → LeadsToAction g at ops arms n
  follows_leads n _ _ _ fit fit_arms (arrives at ops arms h) =
      record {
        count = 0;
        to = at;
        left = ops;
        more = arms;
        quietly = none_more;
        arrived = h;
        few = omega arith;
        within =
            stands_there g at n ops arms h;
        room = fit;
        arms_fit = fit_arms;
      }
  follows_leads n _ _ _ fit fit_arms (moves at ops arms i line mid ops_then arms_then is can effect up room few on) =
      let rest = follows_leads n mid ops_then arms_then room few on in
      let all = rest.few in
      record {
        count = suc rest.count;
        to = rest.to;
        left = rest.left;
        more = rest.more;
        quietly = one_more rest.count at ops arms i line mid ops_then arms_then is can effect up room few rest.quietly;
        arrived = rest.arrived;
        few = omega arith;
        within = rest.within;
        room = rest.room;
        arms_fit = rest.arms_fit;
      }

  pub source_followed : CodeFollowsSource g
  source_followed (going env k) at ops arms room few h = follows_leads _ at ops arms room few (remainder_follows g k h.0 env at ops arms h.1.0 room h.1.1)
  source_followed (holding x v u) at ops arms room few (b, h) =
      let fit = subst (λ (y : List ℤ). length y ≤ g.room) h.4 room in
      follows_leads (from_value x u v) at ops arms room few
      (subst (λ (y : List ℤ). Follows g (from_value x u v) at y arms) (sym h.4) (values_follow_anywhere g b x h.2 u h.0 v at h.1 arms few fit h.3 h.5))
