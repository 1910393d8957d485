-- Whoever the table finds open to a partner offers such an alternative.
use Rattle.std.proofs.Common.{◌≡◌, ℕ, ◌+◌, ◌==◌, Bool, true, false, ◌||◌, Option, None, Some, List, [], ◌∷◌, take, refl, sym, ap, ap₂, ◌∙◌, cond}
use Rattle.std.specs.Prelude.{is_some}
use Rattle.std.specs.List.{find, list_any}
use Rattle.std.specs.Option.{option_or}
use Rattle.std.proofs.lemmas.Bool.{false≢true}
use Rattle.std.proofs.lemmas.List.Folds.{find-append, list_any-append}
use Rattle.pfc_state.specs.declared.waits.Arm.{Arm}
use Rattle.pfc_state.specs.declared.waits.Arm.TheVariants.{Send as To, Receive as From, Accept as Entry}
use Rattle.pfc_state.specs.declared.waits.Why.TheVariants.{Coend, Semaphore, Send, Receive, Call, Meeting, Accept, Select, Enter, Condition, Resumer, Entrant}
use Rattle.pfc_state.specs.declared.waits.Why.TheVariants.{Barred, Sleep}
use Rattle.pfc_state.specs.Stands.{Stand, Is_idle, Is_created, Is_ready, Waits, Is_done}
use Rattle.pfc_state.specs.Waits.{same_arm, has_arm}
use Rattle.pfc_world.specs.Partners.{or_else, ticket_open_to}
use Rattle.pfc_world.specs.Tables.{at}
use Rattle.pfc_machines.specs.declared.alternatives.Alternative.{Alternative}
use Rattle.pfc_machines.specs.declared.alternatives.KeptAlternative.{KeptAlternative}
use Rattle.pfc_machines.specs.declared.alternatives.Sought.TheVariants.{OpenTo}
use Rattle.pfc_machines.specs.declared.descriptors.Descriptor.{Descriptor}
use Rattle.pfc_machines.specs.declared.machine.Machine.{Machine}
use Rattle.pfc_machines.specs.Descriptors.{descriptor_of}
use Rattle.pfc_machines.specs.Offers.{arm_of, listed_arm, arms_of, words_in, kept, kept_under, is_arm, is_sought, first_sought}
use Rattle.pfc_machines.specs.Partners.{open_to}
use Rattle.pfc_select_actions.specs.Agreements.{waited_arms, Agrees}

-- ## By what it waits for

-- it is open with these alternatives
record Found (arm : Arm) (stand : Stand) : Type 0 where
  arms : List Arm
  waits : waited_arms stand ≡ Some arms
  among : has_arm arm arms ≡ true

is_the_one : (b : Bool) (t : ℕ) → is_some (or_else (cond b (Some t) None) None) ≡ true → b ≡ true
is_the_one true t h = refl
is_the_one false t h = absurd (false≢true h)

is_offered : (b : Bool) (t : ℕ) → is_some (cond b (Some t) None) ≡ true → b ≡ true
is_offered true t h = refl
is_offered false t h = absurd (false≢true h)

found_in : (arm : Arm) (stand : Stand) → is_some (ticket_open_to arm stand) ≡ true → Found arm stand
found_in (To d) Is_idle h = absurd (false≢true h)
found_in (To d) Is_created h = absurd (false≢true h)
found_in (To d) Is_ready h = absurd (false≢true h)
found_in (To d) Is_done h = absurd (false≢true h)
found_in (To d) (Waits Coend t arms) h = absurd (false≢true h)
found_in (To d) (Waits (Semaphore n) t arms) h = absurd (false≢true h)
found_in (To d) (Waits (Send c) t arms) h =
    record { arms = To c ∷ []; waits = refl; among = ap (λ b. b || false) (is_the_one (c == d) t h) }
found_in (To d) (Waits (Receive c) t arms) h = absurd (false≢true h)
found_in (To d) (Waits (Call p e) t arms) h = absurd (false≢true h)
found_in (To d) (Waits (Meeting p) t arms) h = absurd (false≢true h)
found_in (To d) (Waits (Accept n) t arms) h = absurd (false≢true h)
found_in (To d) (Waits (Select due terminate) t arms) h = record { arms = arms; waits = refl; among = is_offered (has_arm (To d) arms) t h }
found_in (To d) (Waits (Enter n) t arms) h = absurd (false≢true h)
found_in (To d) (Waits (Condition n r) t arms) h = absurd (false≢true h)
found_in (To d) (Waits (Resumer n) t arms) h = absurd (false≢true h)
found_in (To d) (Waits (Entrant n) t arms) h = absurd (false≢true h)
found_in (To d) (Waits (Barred n r) t arms) h = absurd (false≢true h)
found_in (To d) (Waits (Sleep n) t arms) h = absurd (false≢true h)
found_in (From d) Is_idle h = absurd (false≢true h)
found_in (From d) Is_created h = absurd (false≢true h)
found_in (From d) Is_ready h = absurd (false≢true h)
found_in (From d) Is_done h = absurd (false≢true h)
found_in (From d) (Waits Coend t arms) h = absurd (false≢true h)
found_in (From d) (Waits (Semaphore n) t arms) h = absurd (false≢true h)
found_in (From d) (Waits (Send c) t arms) h = absurd (false≢true h)
found_in (From d) (Waits (Receive c) t arms) h =
    record { arms = From c ∷ []; waits = refl; among = ap (λ b. b || false) (is_the_one (c == d) t h) }
found_in (From d) (Waits (Call p e) t arms) h = absurd (false≢true h)
found_in (From d) (Waits (Meeting p) t arms) h = absurd (false≢true h)
found_in (From d) (Waits (Accept n) t arms) h = absurd (false≢true h)
found_in (From d) (Waits (Select due terminate) t arms) h = record { arms = arms; waits = refl; among = is_offered (has_arm (From d) arms) t h }
found_in (From d) (Waits (Enter n) t arms) h = absurd (false≢true h)
found_in (From d) (Waits (Condition n r) t arms) h = absurd (false≢true h)
found_in (From d) (Waits (Resumer n) t arms) h = absurd (false≢true h)
found_in (From d) (Waits (Entrant n) t arms) h = absurd (false≢true h)
found_in (From d) (Waits (Barred n r) t arms) h = absurd (false≢true h)
found_in (From d) (Waits (Sleep n) t arms) h = absurd (false≢true h)
found_in (Entry d) Is_idle h = absurd (false≢true h)
found_in (Entry d) Is_created h = absurd (false≢true h)
found_in (Entry d) Is_ready h = absurd (false≢true h)
found_in (Entry d) Is_done h = absurd (false≢true h)
found_in (Entry d) (Waits Coend t arms) h = absurd (false≢true h)
found_in (Entry d) (Waits (Semaphore n) t arms) h = absurd (false≢true h)
found_in (Entry d) (Waits (Send c) t arms) h = absurd (false≢true h)
found_in (Entry d) (Waits (Receive c) t arms) h = absurd (false≢true h)
found_in (Entry d) (Waits (Call p e) t arms) h = absurd (false≢true h)
found_in (Entry d) (Waits (Meeting p) t arms) h = absurd (false≢true h)
found_in (Entry d) (Waits (Accept n) t arms) h =
    record { arms = Entry n ∷ []; waits = refl; among = ap (λ b. b || false) (is_the_one (n == d) t h) }
found_in (Entry d) (Waits (Select due terminate) t arms) h = record { arms = arms; waits = refl; among = is_offered (has_arm (Entry d) arms) t h }
found_in (Entry d) (Waits (Enter n) t arms) h = absurd (false≢true h)
found_in (Entry d) (Waits (Condition n r) t arms) h = absurd (false≢true h)
found_in (Entry d) (Waits (Resumer n) t arms) h = absurd (false≢true h)
found_in (Entry d) (Waits (Entrant n) t arms) h = absurd (false≢true h)
found_in (Entry d) (Waits (Barred n r) t arms) h = absurd (false≢true h)
found_in (Entry d) (Waits (Sleep n) t arms) h = absurd (false≢true h)

-- ## Among what it has made

some_of_both : {A : Type 0} (o p : Option A) → is_some (option_or o p) ≡ (is_some o || is_some p)
some_of_both (Some x) p = refl
some_of_both None p = refl

last_is : (arm : Arm) (k : KeptAlternative) (o : Option Arm) (b : Bool) → is_arm arm o ≡ b
    → is_some (cond b (Some k) None) ≡ list_any (λ a. same_arm a arm) (listed_arm o)
last_is arm k None b e = ap (λ x. is_some (cond x (Some k) None)) (sym e)
last_is arm k (Some other) true e = ap (λ x. x || false) (sym e)
last_is arm k (Some other) false e = ap (λ x. x || false) (sym e)

-- an arm is among those of alternatives exactly where one of them is open to it
pub open_is : (arm : Arm) (above : ℕ) (made : List Alternative) → is_some (first_sought (OpenTo arm) (kept_under above made)) ≡ has_arm arm (arms_of made)
open_is arm above [] = refl
open_is arm above (a ∷ earlier) =
    let k : KeptAlternative = kept a above in
    let test : KeptAlternative → Bool = λ x. is_sought (OpenTo arm) x.alternative.offer in
    let before : List KeptAlternative = kept_under (above + words_in a.offer) earlier in
    ap is_some (find-append test before (k ∷ []))
    ∙ some_of_both (find test before) (find test (k ∷ []))
    ∙ ap₂ (λ (x y : Bool). x || y) (open_is arm (above + words_in a.offer) earlier) (last_is arm k (arm_of a.offer) (is_arm arm (arm_of a.offer)) refl)
    ∙ sym (list_any-append (λ x. same_arm x arm) (arms_of earlier) (listed_arm (arm_of a.offer)))

pub who_offers : (m : Machine) (q : ℕ) (arm : Arm) → Agrees m q → is_some (ticket_open_to arm (at m.world.rows q)) ≡ true → is_some (open_to m q arm) ≡ true
who_offers m q arm agrees waits =
    let d : Descriptor = descriptor_of m.descriptors q in
    let found : Found arm (at m.world.rows q) = found_in arm (at m.world.rows q) waits in
    open_is arm 0 (take d.offered d.communications.alternatives)
    ∙ ap (has_arm arm) (agrees found.arms found.waits) ∙ found.among
