-- What is computed of an action is so.
use Rattle.std.proofs.Common.{◌≡◌, ℕ, zero, suc, ◌+◌, ◌^◌, ◌<◌, ◌≤◌, ◌==◌, nat_le, nat_lt, Bool, true, false, not, ◌&&◌, ℤ, List, [], ◌∷◌, length, Option, None}
use Rattle.std.proofs.Common.{Some, IfSome, refl, sym, ap, subst, ◌∙◌}
use Rattle.std.specs.List.{slice_get}
use Rattle.std.proofs.lemmas.Bool.{and_parts, leb-true, ltb-true, lt-ltb, eqb-true, eq-eqb}
use Rattle.std.proofs.lemmas.Float.{T_from_true}
use Rattle.std.proofs.lemmas.Option.{none-some}
use Rattle.pfc_code.specs.declared.images.Block.{Block}
use Rattle.pfc_code.specs.declared.instructions.Instr.{Instr}
use Rattle.pfc_code.specs.declared.instructions.Instr.TheVariants.{ADDR, REF, IDX, FLD, LOAD, STORE, FORW, CALL, RET, RETF, MCALL, RCALL, GRD, SCAN, REQ, NEW}
use Rattle.pfc_code.specs.declared.instructions.Instr.TheVariants.{SINI, SWAIT, SSIG, SEND, RECV, ECALL, ACC, EACC, SEL, DELAY, RESUME, EMPTY, CLOCK, RAND, WRS}
use Rattle.pfc_code.specs.declared.instructions.Instr.TheVariants.{RDI, RDC, EOF, EOLN}
use Rattle.pfc_code.specs.Images.{PlainImage}
use Rattle.pfc_sched.specs.Picks.{Picking}
use Rattle.pfc_stacks.specs.declared.marks.Mark.{Mark}
use Rattle.pfc_stacks.specs.declared.marks.Mark.TheVariants.{Plain, Monitor, Resource}
use Rattle.pfc_stacks.specs.declared.refs.Ref.{Ref}
use Rattle.pfc_stacks.specs.Activations.{params_of, mark_in}
use Rattle.pfc_stacks.specs.Conditions.{Reckons, Leads, Reaches, CanPerform}
use Rattle.pfc_stacks.specs.Effects.{is_within, element_word}
use Rattle.pfc_stacks.specs.Effects as stacked
use Rattle.pfc_stacks.specs.Refs.{IsAddress}
use Rattle.pfc_stacks.specs.Stacks.{Stacks, stack_of, operand, operands_of}
use Rattle.pfc_state.specs.declared.waits.Arm.{Arm}
use Rattle.pfc_state.specs.declared.waits.Why.TheVariants.{Meeting, Barred}
use Rattle.pfc_state.specs.Stands.{Stand, Waits, ticket_of}
use Rattle.pfc_meet.specs.Meetings.{IsInMeeting}
use Rattle.pfc_resource.specs.Scans.{IsBarredAt}
use Rattle.pfc_world.specs.Tables.{at}
use Rattle.pfc_world.specs.Tickets.{IsNew}
use Rattle.pfc_machines.specs.declared.alternatives.KeptAlternative.{KeptAlternative}
use Rattle.pfc_machines.specs.declared.alternatives.Offer.{Offer}
use Rattle.pfc_machines.specs.declared.alternatives.Offer.TheVariants.{Send, Receive, Accept}
use Rattle.pfc_machines.specs.declared.machine.Machine.{Machine}
use Rattle.pfc_machines.specs.Actions.{Acts}
use Rattle.pfc_machines.specs.Offers.{communications}
use Rattle.pfc_machines.specs.Quiet.{QuietEffect, goes, ends_in, acts, quiet_effect, tried_by, CanGo}
use Rattle.pfc_own_actions.specs.Creating.{created_by, IsProcess}
use Rattle.pfc_object_actions.specs.Conditions.{monitor_of, is_inside}
use Rattle.pfc_object_actions.specs.Objects.{object_at}
use Rattle.pfc_values.specs.declared.simple.Simple.TheVariants.{Integer}
use Rattle.pfc_values.specs.Numbers.{is_of}
use Rattle.pfc_world.specs.Holders.{holder_in}
use Rattle.pfc_world.specs.Partners.{is_empty_condition}
use Rattle.pfc_call_actions.specs.Calls.{CanCall}
use Rattle.pfc_call_actions.specs.Returns.{HoldsMarked}
use Rattle.pfc_resource_actions.specs.Scans.{Holds}
use Rattle.pfc_message_actions.specs.Messages.{CanTake, CanHandOver, CanGive}
use Rattle.pfc_meeting_actions.specs.Meetings.{last_caller, CanMeet, CanBeCalled}
use Rattle.pfc_select_actions.specs.Conditions.{CanCommunicate as CanMatch, CanOffer, CanTakeAt, CanDecide}
use Rattle.pfc_select_actions.specs.Selects.{takes_up, open_count, open_ones, open_arms, matched_places, place_taken, partner_at}
use Rattle.pfc_machine_acts.specs.Acting.{choice_among, MayAct}
use Rattle.pfc_machine_acts.specs.Conditions.{CanSelect, CanCommunicate, CanHold, CanActivate, CanLive, CanPrint, CanRead, IsActing, CanDo}
use Rattle.pfc_machine_acts.specs.Performing.{choices_for}
use Rattle.pfc_machine_acts.specs.Quietly.{quietly, next_instr, CanTry, CanStep}
use Rattle.pfc_machine_acts.specs.Running.{QuietRun, IsNoMove, IsNext, effect_of_next}
use Rattle.pfc_acts_tests.specs.Deciding.{implies, is_holder, if_some, is_some_and, is_address, leads, reckons, reaches, may_perform, may_go, where_outward}
use Rattle.pfc_acts_tests.specs.Deciding.{may_try, may_step, is_no_move, on_goes, may_walk, moved, walked, instr_of, is_not_new, are_old, may_act_at, is_acting}
use Rattle.pfc_acts_tests.specs.Deciding.{may_take, may_hand_over, may_give, may_meet, may_be_called, is_in_meeting, is_barred_at, may_communicate_with}
use Rattle.pfc_acts_tests.specs.Deciding.{may_offer, may_match, may_match_at, may_take_at, may_decide, may_select, may_communicate, holds, is_acts, may_hold}
use Rattle.pfc_acts_tests.specs.Deciding.{may_call, holds_marked, is_process, may_activate, may_read, may_live, may_print, may_do, quiet_of, before_action}
use Rattle.pfc_acts_tests.specs.Deciding.{action_of, may_act}

-- ## Parts

fst : (a b : Bool) → (a && b) ≡ true → a ≡ true
fst a b h = (and_parts a b h).0

snd : (a b : Bool) → (a && b) ≡ true → b ≡ true
snd a b h = (and_parts a b h).1

le : {a b : ℕ} → nat_le a b ≡ true → a ≤ b
le {a} {b} h = leb-true a b h

lt : {a b : ℕ} → nat_lt a b ≡ true → a < b
lt {a} {b} h = ltb-true a b h

implied : (a b : Bool) → implies a b ≡ true → a ≡ true → b ≡ true
implied true b h e = h
implied false b h e = absurd cc

holder_so : (o : Option ℕ) (p : ℕ) → is_holder o p ≡ true → o ≡ Some p
holder_so None p h = absurd cc
holder_so (Some q) p h = ap Some (eqb-true q p h)

some_same : {A : Type 0} (b a : A) → Some b ≡ Some a → b ≡ a
some_same b a e = cc

for_some : {A : Type 0} (o : Option A) (f : A → Bool) → if_some o f ≡ true → (a : A) → o ≡ Some a → f a ≡ true
for_some None f h a e = absurd (none-some a e)
for_some (Some b) f h a e = subst (λ x. f x ≡ true) (some_same b a e) h

of_some : {A : Type 0} (o : Option A) (f : A → Bool) (P : A → Type 0) → if_some o f ≡ true → ((a : A) → f a ≡ true → P a) → IfSome o P
of_some None f P h each = tt
of_some (Some a) f P h each = each a h

some_known : {A : Type 0} (o : Option A) (f : A → Bool) → is_some_and o f ≡ true → (a : A) × (o ≡ Some a) × (f a ≡ true)
some_known None f h = absurd cc
some_known (Some a) f h = (a, refl, h)

goes_known : (e : QuietEffect) (f : Machine → Bool) → on_goes e f ≡ true → (m : Machine) × (e ≡ goes m) × (f m ≡ true)
goes_known (goes m) f h = (m, refl, h)
goes_known (ends_in x) f h = absurd cc
goes_known acts f h = absurd cc

-- ## Instructions of the stacks

address_so : (w : ℤ) → is_address w ≡ true → IsAddress w
address_so w h =
    (record { le = T_from_true _ (fst _ _ h) }, record { lt = T_from_true _ (snd _ _ h) })

leads_so : (l d p : ℕ) (stacks : Stacks) → leads l d p stacks ≡ true → Leads l d p stacks
leads_so zero d p stacks h = tt
leads_so (suc l) d p stacks h = address_so _ h

reckons_so : (i : Instr) (ops : List ℤ) → reckons i ops ≡ true → Reckons i ops
reckons_so (IDX low high z) ops h = (
  address_so (operand ops 1) (fst _ _ h),
  λ within. address_so (element_word low z (operand ops 0) (operand ops 1)) (implied (is_within low high (operand ops 0)) _ (snd _ _ h) within),
)
reckons_so (FLD k) ops h = address_so _ h
reckons_so i ops h = tt

reaches_so : (blocks : List Block) (i : Instr) (p : ℕ) (stacks : Stacks) → reaches blocks i p stacks ≡ true → Reaches blocks i p stacks
reaches_so blocks (ADDR l d) p stacks h = leads_so l d p stacks h
reaches_so blocks (REF l d) p stacks h = leads_so l d p stacks h
reaches_so blocks (LOAD z) p stacks h = le h
reaches_so blocks (STORE z) p stacks h = le h
reaches_so blocks FORW p stacks h = le h
reaches_so blocks (CALL k l) p stacks h = lt h
reaches_so blocks (IDX low high z) p stacks h = reckons_so (IDX low high z) (operands_of stacks p) h
reaches_so blocks (FLD k) p stacks h = reckons_so (FLD k) (operands_of stacks p) h
reaches_so blocks i p stacks h = tt

perform_so : (blocks : List Block) (i : Instr) (p : ℕ) (stacks : Stacks) → may_perform blocks i p stacks ≡ true → CanPerform blocks i p stacks
perform_so blocks i p stacks h =
    let h1 = snd _ _ h in
    let h2 = snd _ _ h1 in
    record { held = le (fst _ _ h); room = le (fst _ _ h1); reach = reaches_so blocks i p stacks h2 }

-- ## Up to the next action

go_so : (i : Instr) (p : ℕ) (m : Machine) → may_go i p m ≡ true → CanGo i p m
go_so i p m h =
    let h1 = snd _ _ h in
    let h2 = snd _ _ h1 in
    let h3 = snd _ _ h2 in
    let h4 = snd _ _ h3 in
    let h5 = snd _ _ h4 in
    record {
      stack = lt (fst _ _ h);
      descriptor = lt (fst _ _ h1);
      held = le (fst _ _ h2);
      places = le (fst _ _ h3);
      words = le (fst _ _ h4);
      next = lt h5;
    }

outward_so : (e : stacked.Effect) (b : Bool) → where_outward e b ≡ true → e ≡ stacked.outward → b ≡ true
outward_so (stacked.goes stacks) b h is = absurd cc
outward_so (stacked.acts stacks) b h is = absurd cc
outward_so (stacked.ends_in f) b h is = absurd cc
outward_so stacked.outward b h is = h

try_so : (image : PlainImage) (i : Instr) (p : ℕ) (m : Machine) → may_try image i p m ≡ true → CanTry image i p m
try_so image i p m h =
    let h1 = snd _ _ h in
    let h2 = snd _ _ h1 in
    record {
      stack = lt (fst _ _ h);
      performed = perform_so image.blocks i p m.stacks (fst _ _ h1);
      goes = λ is. go_so i p m (outward_so (stacked.effect image.blocks i p m.stacks) (may_go i p m) h2 is);
    }

step_so : (image : PlainImage) (i : Instr) (p : ℕ) (m : Machine) → may_step image i p m ≡ true → CanStep image i p m
step_so image (CALL k l) p m h = tt
step_so image RET p m h = tt
step_so image RETF p m h = tt
step_so image i p m h = try_so image i p m h

still_so : (e : QuietEffect) → is_no_move e ≡ true → IsNoMove e
still_so (goes m) h = absurd cc
still_so (ends_in f) h = tt
still_so acts h = tt

-- n quiet instructions lead to an action
pub record Walks (image : PlainImage) (p n : ℕ) (m : Machine) : Type 0 where
  pub run : QuietRun image p n m (walked image p n m)
  pub is : next_instr image p (walked image p n m) ≡ Some (instr_of (next_instr image p (walked image p n m)))
  pub can : CanStep image (instr_of (next_instr image p (walked image p n m))) p (walked image p n m)
  pub still : IsNoMove (quietly image (instr_of (next_instr image p (walked image p n m))) p (walked image p n m))

walks_so : (image : PlainImage) (p n : ℕ) (m : Machine) → may_walk image p n m ≡ true → Walks image p n m
walks_so image p zero m h =
    let (i, is, here) = some_known (next_instr image p m) (λ (i : Instr). may_step image i p m && is_no_move (quietly image i p m)) h in
    let same : i ≡ instr_of (next_instr image p m) = sym (ap instr_of is) in
    record {
      run = refl;
      is = is ∙ ap Some same;
      can = subst (λ (x : Instr). CanStep image x p m) same (step_so image i p m (fst _ _ here));
      still = subst (λ (x : Instr). IsNoMove (quietly image x p m)) same (still_so (quietly image i p m) (snd _ _ here));
    }
walks_so image p (suc n) m h =
    let (i, is, here) = some_known (next_instr image p m) (λ (i : Instr). may_step image i p m && on_goes (quietly image i p m) (may_walk image p n)) h in
    let (mid, goes_on, behind) = goes_known (quietly image i p m) (may_walk image p n) (snd _ _ here) in
    let there : moved (effect_of_next (next_instr image p m) image p m) m ≡ mid =
    ap (λ (o : Option Instr). moved (effect_of_next o image p m) m) is ∙ ap (λ (e : QuietEffect). moved e m) goes_on in
    let rest : Walks image p n (moved (effect_of_next (next_instr image p m) image p m) m) =
    subst (λ (x : Machine). Walks image p n x) (sym there) (walks_so image p n mid behind) in
    record {
      run = (
        moved (effect_of_next (next_instr image p m) image p m) m,
        record { instr = i; is = is; can = step_so image i p m (fst _ _ here); goes_on = goes_on ∙ ap goes (sym there) },
        rest.run,
      );
      is = rest.is;
      can = rest.can;
      still = rest.still;
    }

-- ## Actions

differs : (t n : ℕ) → not (t == n) ≡ true → t ≡ n → ⊥
differs t n h e = (let same : true ≡ (t == n) = sym (eq-eqb t n e) in (let never : not true ≡ true = ap not same ∙ h in absurd cc))

not_new : (done : ℕ) (o : Option ℕ) → is_not_new done o ≡ true → o ≡ Some (done + 1) → ⊥
not_new done None h e = none-some _ e
not_new done (Some t) h e = differs t (done + 1) h (some_same t (done + 1) e)

old_so : (rows : List Stand) (done : ℕ) → are_old rows done ≡ true → IsNew rows done
old_so [] done h k e = absurd (none-some _ e)
old_so (s ∷ rows) done h zero e = absurd (not_new done (ticket_of s) (fst _ _ h) e)
old_so (s ∷ rows) done h (suc k) e = old_so rows done (snd _ _ h) k e

acts_so : (p : ℕ) (m : Machine) → may_act_at p m ≡ true → Acts p m
acts_so p m h =
    let h1 = snd _ _ h in
    let h2 = snd _ _ h1 in
    let h3 = snd _ _ h2 in
    record {
      acting = holder_so m.world.acting p (fst _ _ h);
      stack = lt (fst _ _ h1);
      descriptor = lt (fst _ _ h2);
      next = lt h3;
    }

acting_so : (p : ℕ) (m : Machine) → is_acting p m ≡ true → IsActing p m
acting_so p m h =
    let h1 = snd _ _ h in
    let h2 = snd _ _ h1 in
    let h3 = snd _ _ h2 in
    record {
      acts = acts_so p m (fst _ _ h);
      fresh = old_so m.world.rows m.world.done (fst _ _ h1);
      done = lt (fst _ _ h2);
      moment = lt h3;
    }

process_so : (m : Machine) (q : ℕ) → is_process m q ≡ true → IsProcess m q
process_so m q h =
    let h1 = snd _ _ h in
    let h2 = snd _ _ h1 in
    record { row = lt (fst _ _ h); stack = lt (fst _ _ h1); descriptor = lt h2 }

take_so : (m : Machine) (q : ℕ) (arm : Arm) (z : ℕ) → may_take m q arm z ≡ true → CanTake m q arm z
take_so m q arm z h =
    let h1 = snd _ _ h in
    let h2 = snd _ _ h1 in
    record {
      descriptor = lt (fst _ _ h);
      offered = le (fst _ _ h1);
      live = of_some _ _ _ h2 (λ k e. le e);
    }

hand_so : (m : Machine) (q : ℕ) (to : Ref) (k : KeptAlternative) → may_hand_over m q to k ≡ true → CanHandOver m q to k
hand_so m q to k h = record { held = le (fst _ _ h); live = le (snd _ _ h) }

give_so : (m : Machine) (q : ℕ) (arm : Arm) (to : Ref) → may_give m q arm to ≡ true → CanGive m q arm to
give_so m q arm to h =
    let h1 = snd _ _ h in
    let h2 = snd _ _ h1 in
    record {
      descriptor = lt (fst _ _ h);
      offered = le (fst _ _ h1);
      message = of_some _ _ _ h2 (hand_so m q to);
    }

meet_so : (m : Machine) (owner d z q : ℕ) → may_meet m owner d z q ≡ true → CanMeet m owner d z q
meet_so m owner d z q h =
    let h1 = snd _ _ h in
    let h2 = snd _ _ h1 in
    let h3 = snd _ _ h2 in
    let h4 = snd _ _ h3 in
    let h5 = snd _ _ h4 in
    record {
      descriptor = lt (fst _ _ h);
      room = lt (fst _ _ h1);
      stack = lt (fst _ _ h2);
      held = le (fst _ _ h3);
      live = le (fst _ _ h4);
      cell = lt h5;
    }

called_so : (m : Machine) (q e z p : ℕ) → may_be_called m q e z p ≡ true → CanBeCalled m q e z p
called_so m q e z p h =
    let h1 = snd _ _ h in
    let h2 = snd _ _ h1 in
    record {
      descriptor = lt (fst _ _ h);
      offered = le (fst _ _ h1);
      meets = of_some _ _ _ h2 (λ k there. meet_so m q _ z p there);
    }

in_meeting_so : (s : Stand) → is_in_meeting s ≡ true → IsInMeeting s
in_meeting_so (Waits (Meeting owner) ticket arms) h = tt
in_meeting_so s h = absurd cc

barred_so : (g : ℕ) (s : Stand) → is_barred_at g s ≡ true → IsBarredAt g s
barred_so g (Waits (Barred resource procedure) ticket arms) h = eqb-true resource g h
barred_so g s h = absurd cc

-- selects

match_so : (o : Offer) (own : KeptAlternative) (p q : ℕ) (m : Machine) → may_communicate_with o own p q m ≡ true → CanMatch o own p q m
match_so (Send c z) own p q m h =
    let h1 = snd _ _ h in
    let h2 = snd _ _ h1 in
    record {
      descriptor = lt (fst _ _ h);
      offered = le (fst _ _ h1);
      message = of_some _ _ _ h2 (λ k there. hand_so m p _ own there);
    }
match_so (Receive c z to) own p q m h = give_so m q _ _ h
match_so (Accept e d z) own p q m h = meet_so m p d z q h
match_so o own p q m h = tt

offer_so : (p : ℕ) (m : Machine) → may_offer p m ≡ true → CanOffer p m
offer_so p m h =
    let h1 = snd _ _ h in
    let h2 = snd _ _ h1 in
    let h3 = snd _ _ h2 in
    let h4 = snd _ _ h3 in
    record {
      acts = acts_so p m (fst _ _ h);
      fresh = old_so m.world.rows m.world.done (fst _ _ h1);
      moment = lt (fst _ _ h2);
      arms = lt (fst _ _ h3);
      room = le h4;
    }

take_at_so : (k p : ℕ) (m : Machine) → may_take_at k p m ≡ true → CanTakeAt k p m
take_at_so k p m h =
    let known : Bool = nat_lt k (length (matched_places m p)) in
    let matched : Bool = if_some (slice_get (matched_places m p) k) (may_match_at p m) in
    let h1 : (known && matched) ≡ true = snd (may_offer p m) (known && matched) h in
    record {
      offer = offer_so p m (fst (may_offer p m) (known && matched) h);
      matched = lt (fst known matched h1);
      partner = λ place q own at_place at_own with_whom.
          let here : may_match_at p m place ≡ true = for_some (slice_get (matched_places m p) k) (may_match_at p m) (snd known matched h1) place at_place in
          let there : may_match place p m own ≡ true = for_some (slice_get (communications (open_ones m p)) place) (may_match place p m) here own at_own in
          match_so own.alternative.offer own p q m
          (for_some (partner_at m.world.rows p (slice_get (open_arms m p) place))
          (λ (q : ℕ). may_communicate_with own.alternative.offer own p q m) there q with_whom);
    }

positive : (n : ℕ) → 0 < n → nat_lt 0 n ≡ true
positive n some = lt-ltb 0 n some

decide_so : (mark choice p : ℕ) (m : Machine) → may_decide mark choice p m ≡ true → CanDecide mark choice p m
decide_so mark choice p m h =
    let few : Bool = nat_lt (open_count m p) (2 ^ 32) in
    let taken : Bool = implies (nat_lt 0 (length (matched_places m p))) (may_take_at (place_taken mark choice) p m) in
    let h1 : (few && taken) ≡ true = snd (may_offer p m) (few && taken) h in
    record {
      offer = offer_so p m (fst (may_offer p m) (few && taken) h);
      few = lt (fst few taken h1);
      taken = λ some.
          take_at_so (place_taken mark choice) p m
          (implied (nat_lt 0 (length (matched_places m p))) (may_take_at (place_taken mark choice) p m) (snd few taken h1)
          (positive (length (matched_places m p)) some));
    }

select_so : (i : Instr) (choice p : ℕ) (m : Machine) → may_select i choice p m ≡ true → CanSelect i choice p m
select_so (SEL mark x) choice p m h = decide_so mark choice p m h
select_so i choice p m h = tt

communicate_so : (i : Instr) (choice p : ℕ) (m : Machine) → may_communicate i choice p m ≡ true → CanCommunicate i choice p m
communicate_so (SEND z) choice p m h = record { room = go_so (SEND z) p m (fst _ _ h); receiver = λ q is. take_so m q _ z (for_some _ _ (snd _ _ h) q is) }
communicate_so (RECV z) choice p m h = record { room = go_so (RECV z) p m (fst _ _ h); sender = λ q is. give_so m q _ _ (for_some _ _ (snd _ _ h) q is) }
communicate_so (ECALL e z) choice p m h =
    let h1 = snd _ _ h in
    let h2 = snd _ _ h1 in
    record { held = le (fst _ _ h); known = lt (fst _ _ h1); owner = λ is. called_so _ _ e z p (implied _ _ h2 is) }
communicate_so (ACC e d z) choice p m h = record {
  room = go_so (ACC e d z) p m (fst _ _ h);
  caller =
      λ q is. meet_so _ p d z q (for_some _ _ (snd _ _ h) q is);
}
communicate_so EACC choice p m h =
    of_some (last_caller p m) (λ (q : ℕ). is_in_meeting (at m.world.rows q)) (λ (q : ℕ). IsInMeeting (at m.world.rows q)) h
    (λ q there. in_meeting_so (at m.world.rows q) there)
communicate_so (SEL mark x) choice p m h = select_so (SEL mark x) choice p m h
communicate_so i choice p m h = tt

-- semaphores, conditions and resources

holds_so : (g p : ℕ) (m : Machine) → holds g p m ≡ true → Holds g p m
holds_so g p m h = record { known = lt (fst _ _ h); holder = holder_so _ p (snd _ _ h) }

is_acts_so : (e : QuietEffect) → is_acts e ≡ true → e ≡ acts
is_acts_so (goes m) h = absurd cc
is_acts_so (ends_in f) h = absurd cc
is_acts_so acts h = refl

not_so : (b : Bool) → b ≡ false → not b ≡ true
not_so b e = ap not e

hold_so : (image : PlainImage) (i : Instr) (choice p : ℕ) (m : Machine) → may_hold image i choice p m ≡ true → CanHold image i choice p m
hold_so image SINI choice p m h = record { integer = fst _ _ h; known = lt (snd _ _ h) }
hold_so image SWAIT choice p m h = lt h
hold_so image SSIG choice p m h = lt h
hold_so image DELAY choice p m h =
    let known : Bool = nat_lt (object_at 1 p m) (length m.monitors.owners) in
    let n : ℕ = monitor_of m (object_at 1 p m) in
    let holder : Bool = is_holder (holder_in m.monitors.holders n) p in
    let inside : Bool = implies (is_inside n p m) holder in
    let integer : Bool = is_of Integer (operand (operands_of m.stacks p) 0) in
    let h1 : (known && inside) ≡ true = snd integer (known && inside) h in
    record {
      integer = fst integer (known && inside) h;
      known = lt (fst known inside h1);
      holds = λ is. holder_so (holder_in m.monitors.holders n) p (implied (is_inside n p m) holder (snd known inside h1) is);
    }
hold_so image RESUME choice p m h =
    let known : Bool = nat_lt (object_at 0 p m) (length m.monitors.owners) in
    let holder : Bool = is_holder (holder_in m.monitors.holders (monitor_of m (object_at 0 p m))) p in
    let some : Bool = not (is_empty_condition m.world.rows (object_at 0 p m)) in
    record {
      known = lt (fst known (implies some holder) h);
      holds = λ is.
          holder_so (holder_in m.monitors.holders (monitor_of m (object_at 0 p m))) p
          (implied some holder (snd known (implies some holder) h) (not_so (is_empty_condition m.world.rows (object_at 0 p m)) is));
    }
hold_so image EMPTY choice p m h = le h
hold_so image (GRD g) choice p m h =
    let acts_now : Bool = is_acts (quiet_effect image.scans (GRD g) p m) in
    let barred : Bool = if_some (tried_by m p) (λ (q : ℕ). is_barred_at g (at m.world.rows q)) in
    let h1 : (acts_now && barred) ≡ true = snd (holds g p m) (acts_now && barred) h in
    record {
      holds = holds_so g p m (fst (holds g p m) (acts_now && barred) h);
      action = is_acts_so (quiet_effect image.scans (GRD g) p m) (fst acts_now barred h1);
      barred = λ q is.
          barred_so g (at m.world.rows q) (for_some (tried_by m p) (λ (q : ℕ). is_barred_at g (at m.world.rows q)) (snd acts_now barred h1) q is);
    }
hold_so image (SCAN g) choice p m h =
    let few : Bool = nat_le (length m.world.rows) (length m.stacks) in
    record { holds = holds_so g p m (fst (holds g p m) few h); processes = le (snd (holds g p m) few h) }
hold_so image (SEND z) choice p m h = communicate_so (SEND z) choice p m h
hold_so image (RECV z) choice p m h = communicate_so (RECV z) choice p m h
hold_so image (ECALL e z) choice p m h = communicate_so (ECALL e z) choice p m h
hold_so image (ACC e d z) choice p m h = communicate_so (ACC e d z) choice p m h
hold_so image EACC choice p m h = communicate_so EACC choice p m h
hold_so image (SEL mark x) choice p m h = communicate_so (SEL mark x) choice p m h
hold_so image i choice p m h = tt

-- activations

call_so : (blocks : List Block) (k p : ℕ) (m : Machine) → may_call blocks k p m ≡ true → CanCall blocks k p m
call_so blocks k p m h =
    let h1 = snd _ _ h in
    let h2 = snd _ _ h1 in
    record { block = lt (fst _ _ h); arguments = le (fst _ _ h1); few = lt h2 }

marked_so : (mark : Mark) (p : ℕ) (m : Machine) → holds_marked mark p m ≡ true → HoldsMarked mark p m
marked_so Plain p m h = tt
marked_so (Monitor n) p m h = (lt (fst _ _ h), holder_so _ p (snd _ _ h))
marked_so (Resource g) p m h = tt

activate_so : (image : PlainImage) (i : Instr) (choice p : ℕ) (m : Machine) → may_activate image i choice p m ≡ true → CanActivate image i choice p m
activate_so image (CALL k l) choice p m h = call_so image.blocks k p m h
activate_so image (MCALL n k) choice p m h = record { known = lt (fst _ _ h); can = call_so image.blocks k p m (snd _ _ h) }
activate_so image (RCALL g k) choice p m h = record { known = lt (fst _ _ h); can = call_so image.blocks k p m (snd _ _ h) }
activate_so image RET choice p m h = marked_so (mark_in (stack_of m.stacks p)) p m h
activate_so image RETF choice p m h = lt h
activate_so image (REQ g k) choice p m h = record { block = lt (fst _ _ h); arguments = le (snd _ _ h) }
activate_so image (NEW k) choice p m h =
    let block : Bool = nat_lt k (length image.blocks) in
    let held : Bool = nat_le (params_of (slice_get image.blocks k) + 1) (length (operands_of m.stacks p)) in
    let process : Bool = if_some (slice_get image.blocks k) (λ (b : Block). is_process m (created_by m p b)) in
    let h1 : (held && process) ≡ true = snd block (held && process) h in
    record {
      block = lt (fst block (held && process) h);
      arguments = le (fst held process h1);
      process = λ b is.
          process_so m (created_by m p b) (for_some (slice_get image.blocks k) (λ (b : Block). is_process m (created_by m p b)) (snd held process h1) b is);
    }
activate_so image i choice p m h = hold_so image i choice p m h

read_so : (p : ℕ) (m : Machine) → may_read p m ≡ true → CanRead p m
read_so p m h = record { some = le (fst _ _ h); live = le (snd _ _ h) }

live_so : (image : PlainImage) (i : Instr) (choice p : ℕ) (m : Machine) → may_live image i choice p m ≡ true → CanLive image i choice p m
live_so image CLOCK choice p m h = lt h
live_so image RAND choice p m h = le h
live_so image RDI choice p m h = read_so p m h
live_so image RDC choice p m h = read_so p m h
live_so image EOF choice p m h = lt h
live_so image EOLN choice p m h = lt h
live_so image i choice p m h = activate_so image i choice p m h

print_so : (image : PlainImage) (i : Instr) (choice p : ℕ) (m : Machine) → may_print image i choice p m ≡ true → CanPrint image i choice p m
print_so image (WRS s w) choice p m h = lt h
print_so image i choice p m h = live_so image i choice p m h

do_so : (image : PlainImage) (i : Instr) (choice p : ℕ) (m : Machine) → may_do image i choice p m ≡ true → CanDo image i choice p m
do_so image i choice p m h = record { acting = acting_so p m (fst _ _ h); can = print_so image i choice p m (snd _ _ h) }

-- what is computed says what comes next, and that the process may act
pub next_so : (image : PlainImage) (picking : Picking) (p : ℕ) (m : Machine) → may_act image picking p m ≡ true
    → IsNext image p (takes_up p m) (quiet_of image p m) (before_action image p m) (action_of image p m)
next_so image picking p m h =
    let before : Machine = before_action image p m in
    let i : Instr = action_of image p m in
    let there : Bool = nat_lt p (length m.descriptors) in
    let walk : Bool = may_walk image p (quiet_of image p m) (takes_up p m) in
    let few : Bool = nat_le (quiet_of image p m) (length image.code) in
    let can : Bool = may_do image i (choice_among picking (choices_for i p before)) p before in
    let h1 : (there && (walk && (few && can))) ≡ true = snd (nat_lt (length image.code) 4294967296) (there && (walk && (few && can))) h in
    let h2 : (walk && (few && can)) ≡ true = snd there (walk && (few && can)) h1 in
    let walks : Walks image p (quiet_of image p m) (takes_up p m) = walks_so image p (quiet_of image p m) (takes_up p m) (fst walk (few && can) h2) in
    record { run = walks.run; few = le (fst few can (snd walk (few && can) h2)); is = walks.is; can = walks.can; no_move = walks.still }

pub act_so : (image : PlainImage) (picking : Picking) (p : ℕ) (m : Machine) → may_act image picking p m ≡ true → MayAct image picking p m
act_so image picking p m h =
    let before : Machine = before_action image p m in
    let i : Instr = action_of image p m in
    let short : Bool = nat_lt (length image.code) 4294967296 in
    let there : Bool = nat_lt p (length m.descriptors) in
    let walk : Bool = may_walk image p (quiet_of image p m) (takes_up p m) in
    let few : Bool = nat_le (quiet_of image p m) (length image.code) in
    let can : Bool = may_do image i (choice_among picking (choices_for i p before)) p before in
    let h1 : (there && (walk && (few && can))) ≡ true = snd short (there && (walk && (few && can))) h in
    let h2 : (walk && (few && can)) ≡ true = snd there (walk && (few && can)) h1 in
    record {
      short = lt (fst short (there && (walk && (few && can))) h);
      descriptor = lt (fst there (walk && (few && can)) h1);
      count = quiet_of image p m;
      before = before;
      instr = i;
      next = next_so image picking p m h;
      can = do_so image i (choice_among picking (choices_for i p before)) p before (snd few can (snd walk (few && can) h2));
    }
