-- A decision that takes an alternative with a message keeps the representation.
use Rattle.std.proofs.Common.{◌≡◌, ℕ, zero, suc, ◌<◌, Bool, true, false, if◌then◌else◌, List, [], ◌∷◌, length, slice_get, Option, Some, None, Ok, refl}
use Rattle.std.proofs.Common.{sym, ap, ◌∙◌, subst, arith}
use Rattle.pfc_semantics.specs.Programs.{Block, Program}
use Rattle.pfc_semantics.specs.Remainders.{Context, Offer, Open, Selecting, Remainder, to_send, to_receive, to_accept, to_wait, to_end, decides}
use Rattle.pfc_semantics.specs.Configurations.{Config, Effect}
use Rattle.pfc_semantics.specs.Channels.{arms_of_all}
use Rattle.pfc_semantics.specs.Selects as text
use Rattle.pfc_semantics.specs.Selects.{decides_at}
use Rattle.pfc_stacks.specs.Stacks.{stack_of, operands_of}
use Rattle.pfc_machines.specs.declared.machine.Machine.{Machine}
use Rattle.pfc_machines.specs.declared.alternatives.KeptAlternative.{KeptAlternative}
use Rattle.pfc_machines.specs.Actions.{Effect as MachineEffect}
use Rattle.pfc_machines.specs.Offers.{communications}
use Rattle.pfc_select_actions.specs.Conditions.{CanCommunicate, CanTakeAt}
use Rattle.pfc_select_actions.specs.Selects as machine
use Rattle.pfc_select_actions.specs.Selects.{open_ones, open_arms, matched_places}
use Rattle.pfc_machine_acts.specs.Performing.{silent}
use Rattle.pfc_standing_code.specs.Settings.{of_own}
use Rattle.pfc_standing_code.specs.Words.{IsChecked}
use Rattle.pfc_standing_code.specs.Following.{ArrivedBy}
use Rattle.pfc_representation.specs.Levels.{Facts, program_in, LivingLevel}
use Rattle.pfc_representation.specs.Acting.{IsActing, HasArrived}
use Rattle.pfc_representation.specs.Actions.{ComeToSame, IsKept}
use Rattle.pfc_kept_meetings.specs.selects.Groups.{IsMessageOffer, IsMessage, TakesMessage}
use Rattle.pfc_kept_meetings.proofs.selects.Otherwise.{Decides}
use Rattle.pfc_kept_meetings.proofs.selects.Deciding.{leads, its, matched_same, may_offer, decides_kept}
use Rattle.pfc_kept_meetings.proofs.selects.Taken.{IsTaken, machine_decides, text_decides}
use Rattle.pfc_kept_meetings.proofs.selects.Chosen as the
use Rattle.pfc_kept_meetings.proofs.selects.Chosen.{IsChosen, chosen, which}
use Rattle.pfc_kept_meetings.proofs.selects.Sent.{sent_same, sent_can}
use Rattle.pfc_kept_meetings.proofs.selects.Received.{received_same, received_can}

within_list : {A : Type 0} (xs : List A) (i : ℕ) (y : A) → slice_get xs i ≡ Some y → i < length xs
within_list [] i y is = absurd (let no : None ≡ Some y = is in cc)
within_list (x ∷ xs) zero y is = some (length xs)
  where
    some : (n : ℕ) → 0 < suc n
    some n = grind arith
within_list (x ∷ xs) (suc i) y is = more i (length xs) (within_list xs i y is)
  where
    more : (n k : ℕ) → n < k → suc n < suc k
    more n k h = grind (arith, h)

-- something is taken
takes_one : (os : List Open) (places : List ℕ) (i : ℕ) (at : Option ℕ) → slice_get places i ≡ at → IsMessage (text.open_at os at) → i < length places
takes_one os places i None is message = absurd message
takes_one os places i (Some place) is message = within_list places i place is

same_one : {A : Type 0} (x y : A) (o : Option A) → o ≡ Some x → o ≡ Some y → x ≡ y
same_one x y o is also = (let both : Some x ≡ Some y = sym is ∙ also in cc)

module _ (facts : Facts) (m : Machine) (c : Config) (p choice : ℕ) (level : LivingLevel) (x : Context) (sel : Selecting) (k : Remainder)
    (acting : IsActing facts m c p level) (arrived : HasArrived facts m c p level (decides x sel k)) (own : level.setting.trial ≡ of_own) (b : Block)
    (checked : IsChecked level.setting b x.env)
    (by : ArrivedBy level.setting b (stack_of m.stacks p).at (operands_of m.stacks p) level.arms (decides x sel k))
    (message : TakesMessage (program_in facts) c p sel choice) where
  abbrev g : Program
  g = program_in facts

  abbrev i : ℕ
  i = text.place_taken sel.pri choice

  less : i < length (text.matched_places g c p sel)
  less = takes_one sel.offered (text.matched_places g c p sel) i (slice_get (text.matched_places g c p sel) i) refl message

  abbrev at_it : IsChosen facts m c p choice level x sel k acting arrived own b checked by i less
  at_it = chosen facts m c p choice level x sel k acting arrived own b checked by i less

  abbrev its_one : IsTaken c.table.rows p (arms_of_all g c p sel.offered) i
  its_one = which facts m c p choice level x sel k acting arrived own b checked by i less

  abbrev decision : Decides facts m c p level acting own b x checked sel k by.1.1 (leads facts m c p choice level x sel k acting arrived own b checked by).1
      arrived.arms arrived.within arrived.room
  decision = its facts m c p choice level x sel k acting arrived own b checked by

  -- both sides take the same alternative
  place_same : machine.place_taken decision.mark choice ≡ i
  place_same = ap (λ n. machine.place_taken n choice) decision.mark_is ∙ by_mark sel.pri
    where
      by_mark : (pri : Bool) → machine.place_taken (if pri then 1 else 0) choice ≡ text.place_taken pri choice
      by_mark true = refl
      by_mark false = refl

  -- ## What is passed

  abbrev Passes : Type 0
  Passes =
      ComeToSame facts m c p x.line (silent (Ok (machine.takes_matched i p m))) (Ok (text.takes_matched g c p x sel k i))
      × CanCommunicate at_it.kept.alternative.offer at_it.kept p its_one.whom m

  by_offer : (offer : Offer) → at_it.o.offer ≡ offer → IsMessageOffer offer → Passes
  by_offer (to_send channel v) is kind = (
    sent_same facts m c p choice level x sel k acting arrived own b checked by i less channel v is,
    sent_can facts m c p choice level x sel k acting arrived own b checked by i less channel v is,
  )
  by_offer (to_receive channel target) is kind = (
    received_same facts m c p choice level x sel k acting arrived own b checked by i less channel target is,
    received_can facts m c p choice level x sel k acting arrived own b checked by i less channel target is,
  )
  by_offer (to_accept a) is kind = absurd kind
  by_offer (to_wait n) is kind = absurd kind
  by_offer to_end is kind = absurd kind

  passes : Passes
  passes =
      by_offer at_it.o.offer refl
      (subst (λ (y : Option Open). IsMessage y) (ap (λ (y : Option ℕ). text.open_at sel.offered y) its_one.among ∙ at_it.in_text) message)

  -- ## The decision

  less_there : i < length (matched_places m p)
  less_there =
      subst (λ (ns : List ℕ). i < length ns) (sym (matched_same facts m c p choice level x sel k acting arrived own b checked by)) less

  can_take : CanTakeAt i p m
  can_take =
      record {
        offer = may_offer facts m c p choice level x sel k acting arrived own b checked by;
        matched = less_there;
        partner = λ place q one is there met.
            let place_is : its_one.place ≡ place =
            same_one its_one.place place (slice_get (matched_places m p) i)
            (the.place_there facts m c p choice level x sel k acting arrived own b checked by i less) is in
            let one_is : at_it.kept ≡ one =
            same_one at_it.kept one (slice_get (communications (open_ones m p)) place)
            (subst (λ n. slice_get (communications (open_ones m p)) n ≡ Some at_it.kept) place_is
            (the.own_there facts m c p choice level x sel k acting arrived own b checked by i less)) there in
            let whom_is : its_one.whom ≡ q =
            same_one its_one.whom q (machine.partner_at m.world.rows p (slice_get (open_arms m p) place))
            (subst (λ n. machine.partner_at m.world.rows p (slice_get (open_arms m p) n) ≡ Some its_one.whom) place_is partner_there) met in
            subst (λ (y : KeptAlternative). CanCommunicate y.alternative.offer y p q m) one_is
            (subst (λ n. CanCommunicate at_it.kept.alternative.offer at_it.kept p n m) whom_is passes.1);
      }
    where
      partner_there : machine.partner_at m.world.rows p (slice_get (open_arms m p) its_one.place) ≡ Some its_one.whom
      partner_there =
          ap (λ y. machine.partner_at m.world.rows p y) (the.arm_there facts m c p choice level x sel k acting arrived own b checked by i less)
          ∙ the.met_there facts m c p choice level x sel k acting arrived own b checked by i less

  machine_is : machine.decides decision.mark decision.other choice p m ≡ Ok (machine.takes_matched i p m)
  machine_is =
      machine_decides decision.mark decision.other choice p i m (matched_places m p) less_there
      ∙ ap (λ n. Ok (machine.takes_matched n p m)) place_same

  text_is : decides_at g c p x sel k choice ≡ Ok (text.takes_matched g c p x sel k i)
  text_is = text_decides g c p i choice x sel k (text.matched_places g c p sel) less

  pub message_kept : IsKept facts m c p choice (decides x sel k)
  message_kept =
      decides_kept facts m c p choice level x sel k acting arrived own b checked by
      (λ some. subst (λ n. CanTakeAt n p m) (sym place_same) can_take)
      (subst (λ (e : MachineEffect). ComeToSame facts m c p x.line (silent e) (decides_at g c p x sel k choice)) (sym machine_is)
      (subst (λ (e : Effect). ComeToSame facts m c p x.line (silent (Ok (machine.takes_matched i p m))) e) (sym text_is) passes.0))

-- where the alternative that is taken has a message
pub messages_are_kept : (facts : Facts) (m : Machine) (c : Config) (p choice : ℕ) (level : LivingLevel) (x : Context) (sel : Selecting) (k : Remainder)
    → TakesMessage (program_in facts) c p sel choice
    → IsActing facts m c p level → HasArrived facts m c p level (decides x sel k) → IsKept facts m c p choice (decides x sel k)
messages_are_kept facts m c p choice level x sel k message acting arrived =
    let (b, checked, by) = arrived.arrived in message_kept facts m c p choice level x sel k acting arrived by.0 b checked by message
