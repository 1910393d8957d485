-- Accepts of entries that nobody calls.
use Rattle.std.proofs.Common.{◌≡◌, ℕ, Some, None, sym, ◌∙◌, subst}
use Rattle.pfc_world.specs.Partners.{caller}
use Rattle.pfc_semantics.specs.Remainders.{Context, Accepting as Accept, Offer, Open, Remainder, to_accept, meets}
use Rattle.pfc_semantics.specs.Configurations.{Config}
use Rattle.pfc_stacks.specs.Stacks.{stack_of, operands_of}
use Rattle.pfc_machines.specs.declared.machine.Machine.{Machine}
use Rattle.pfc_standing_code.specs.Following.{MeetsBy}
use Rattle.pfc_following_source.specs.Behind.{BehindMeeting}
use Rattle.pfc_following_source.proofs.Behind.{leads_on}
use Rattle.pfc_representation.specs.Levels.{Facts, LivingLevel}
use Rattle.pfc_representation.specs.Acting.{IsActing, HasArrived}
use Rattle.pfc_representation.specs.Actions.{IsKept}
use Rattle.pfc_kept_meetings.proofs.Accepting.{accept_kept}

pub unmet_accept_kept : (facts : Facts) (m : Machine) (c : Config) (p choice : ℕ) (level : LivingLevel) (x : Context) (o : Open) (k : Remainder) (a : Accept)
    → o.offer ≡ to_accept a → caller c.table.rows p a.entry ≡ None → IsActing facts m c p level → HasArrived facts m c p level (meets x o k)
    → IsKept facts m c p choice (meets x o k)
unmet_accept_kept facts m c p choice level x o k a offer unmet acting arrived =
    let (b, checked, by) = arrived.arrived in
    let here = (stack_of m.stacks p).at in
    let ops = operands_of m.stacks p in
    let meets_by = subst (λ (y : Offer). MeetsBy level.setting b x here ops o y k) offer by.1.1 in
    let behind = subst (λ (y : Offer). BehindMeeting level.setting b here ops x o y k) offer
    (leads_on level.setting b here (meets x o k) ops level.arms arrived.room checked by) in
    accept_kept facts m c p choice level x o k by.0.0 acting arrived b checked by.0.1 by.1.0 a offer meets_by.0 meets_by.1 behind
    (record {
      same = λ q is. absurd (let no : Some q ≡ None = sym is ∙ unmet in cc);
      can = λ q is. absurd (let no : Some q ≡ None = sym is ∙ unmet in cc);
    })
