-- The matched alternative that is taken: the same one on both sides, with the same partner.
use Rattle.std.proofs.Common.{◌≡◌, ℕ, zero, suc, ◌+◌, ◌<◌, if◌then◌else◌, List, [], ◌∷◌, length, slice_get, Option, Some, None, Ok, refl, ap, ◌∙◌, subst, arith}
use Rattle.std.specs.Prelude.{is_some}
use Rattle.pfc_state.specs.Stands.{Stand}
use Rattle.pfc_state.specs.declared.waits.Arm.{Arm as WaitArm}
use Rattle.pfc_world.specs.Partners.{partner}
use Rattle.pfc_world.specs.Selects.{matched_from, matched, communicated_with, communicated, committed_to, committed_at}
use Rattle.pfc_world.specs.Transitions.{rested}
use Rattle.pfc_semantics.specs.Programs.{Program}
use Rattle.pfc_semantics.specs.Remainders.{Context, Open, Selecting, Remainder}
use Rattle.pfc_semantics.specs.Configurations.{Config, with_table}
use Rattle.pfc_semantics.specs.Channels as text
use Rattle.pfc_semantics.specs.Selects as text_selects
use Rattle.pfc_machines.specs.declared.machine.Machine.{Machine}
use Rattle.pfc_machines.specs.declared.alternatives.KeptAlternative.{KeptAlternative}
use Rattle.pfc_machines.specs.Offers.{communications}
use Rattle.pfc_select_actions.specs.Selects as machine
use Rattle.pfc_select_actions.specs.Selects.{open_count, open_ones, open_arms, matched_places}

-- ## Which one

-- the alternative at this place of those that are matched
pub record IsTaken (rows : List Stand) (p : ℕ) (arms : List WaitArm) (i : ℕ) : Type 0 where
  pub place : ℕ
  pub arm : WaitArm
  pub whom : ℕ
  pub among : slice_get (matched rows p arms) i ≡ Some place
  pub listed : slice_get arms place ≡ Some arm
  pub met : partner rows p arm ≡ Some whom

-- so far behind the first
record IsTakenBehind (rows : List Stand) (p first : ℕ) (arms : List WaitArm) (i : ℕ) : Type 0 where
  behind : ℕ
  arm : WaitArm
  whom : ℕ
  among : slice_get (matched_from first rows p arms) i ≡ Some (first + behind)
  listed : slice_get arms behind ≡ Some arm
  met : partner rows p arm ≡ Some whom

next_place : (n j : ℕ) → n + 1 + j ≡ n + suc j
next_place n j = grind arith

taken_behind : (rows : List Stand) (p first : ℕ) (arms : List WaitArm) (i : ℕ) → i < length (matched_from first rows p arms)
    → IsTakenBehind rows p first arms i
taken_behind rows p first [] i less = absurd (none i less)
  where
    none : (n : ℕ) → n < 0 → ⊥
    none n h = grind (arith, h)
taken_behind rows p first (w ∷ arms) i less =
    by_partner (λ j h. taken_behind rows p (first + 1) arms j h) (partner rows p w) refl i
    less
  where
    fewer : (n k : ℕ) → suc n < suc k → n < k
    fewer n k h = grind (arith, h)

    same_place : (n : ℕ) → n ≡ n + 0
    same_place n = grind arith

    by_partner : ((j : ℕ) → j < length (matched_from (first + 1) rows p arms) → IsTakenBehind rows p (first + 1) arms j)
        → (o : Option ℕ) → partner rows p w ≡ o → (j : ℕ) → j < length (matched_from first rows p (w ∷ arms)) → IsTakenBehind rows p first (w ∷ arms) j
    by_partner others None is j h =
        let list : matched_from first rows p (w ∷ arms) ≡ matched_from (first + 1) rows p arms =
        ap (λ (o : Option ℕ). if is_some o then first ∷ matched_from (first + 1) rows p arms else matched_from (first + 1) rows p arms) is in
        let at = others j (subst (λ (ns : List ℕ). j < length ns) list h) in
        record {
          behind = suc at.behind;
          arm = at.arm;
          whom = at.whom;
          among = ap (λ (ns : List ℕ). slice_get ns j) list ∙ at.among ∙ ap (λ n. Some n) (next_place first at.behind);
          listed = at.listed;
          met = at.met;
        }
    by_partner others (Some q) is zero h =
        let list : matched_from first rows p (w ∷ arms) ≡ first ∷ matched_from (first + 1) rows p arms =
        ap (λ (o : Option ℕ). if is_some o then first ∷ matched_from (first + 1) rows p arms else matched_from (first + 1) rows p arms) is in
        record {
          behind = 0;
          arm = w;
          whom = q;
          among = ap (λ (ns : List ℕ). slice_get ns 0) list ∙ ap (λ n. Some n) (same_place first);
          listed = refl;
          met = is;
        }
    by_partner others (Some q) is (suc j) h =
        let list : matched_from first rows p (w ∷ arms) ≡ first ∷ matched_from (first + 1) rows p arms =
        ap (λ (o : Option ℕ). if is_some o then first ∷ matched_from (first + 1) rows p arms else matched_from (first + 1) rows p arms) is in
        let at = others j (fewer j (length (matched_from (first + 1) rows p arms)) (subst (λ (ns : List ℕ). suc j < length ns) list h)) in
        record {
          behind = suc at.behind;
          arm = at.arm;
          whom = at.whom;
          among = ap (λ (ns : List ℕ). slice_get ns (suc j)) list ∙ at.among ∙ ap (λ n. Some n) (next_place first at.behind);
          listed = at.listed;
          met = at.met;
        }

pub taken : (rows : List Stand) (p : ℕ) (arms : List WaitArm) (i : ℕ) → i < length (matched rows p arms) → IsTaken rows p arms i
taken rows p arms i less =
    let at = taken_behind rows p 0 arms i less in
    record {
      place = at.behind;
      arm = at.arm;
      whom = at.whom;
      among = at.among ∙ ap (λ n. Some n) (from_zero at.behind);
      listed = at.listed;
      met = at.met;
    }
  where
    from_zero : (n : ℕ) → 0 + n ≡ n
    from_zero n = grind arith

-- ## What is done

-- on the machine
pub machine_takes : (m : Machine) (p i place q : ℕ) (w : WaitArm) (own : KeptAlternative) → slice_get (matched_places m p) i ≡ Some place
    → slice_get (open_arms m p) place ≡ Some w → slice_get (communications (open_ones m p)) place ≡ Some own → partner m.world.rows p w ≡ Some q
    → machine.takes_matched i p m
    ≡ machine.communicates_by own.alternative.offer own (open_count m p) p q (record m { world = rested (communicated_with (Some q) m.world p w) })
machine_takes m p i place q w own is_matched listed there met =
    ap (λ (o : Option ℕ). machine.takes_at o m.world.rows (open_arms m p) (open_count m p) p
    (record m { world = rested (committed_at o m.world p (open_arms m p)) })) is_matched
    ∙ ap (λ (o : Option WaitArm). machine.communicates (slice_get (communications (open_ones m p)) place) (machine.partner_at m.world.rows p o)
    (open_count m p) p (record m { world = rested (committed_to o m.world p) })) listed
    ∙ ap (λ (o : Option KeptAlternative). machine.communicates o (partner m.world.rows p w) (open_count m p) p
    (record m { world = rested (communicated m.world p w) })) there
    ∙ ap (λ (o : Option ℕ). machine.communicates (Some own) o (open_count m p) p (record m { world = rested (communicated_with o m.world p w) })) met

-- in the source text
pub text_takes : (g : Program) (c : Config) (p : ℕ) (x : Context) (sel : Selecting) (k : Remainder) (i place q : ℕ) (w : WaitArm) (o : Open)
    → slice_get (text_selects.matched_places g c p sel) i ≡ Some place → slice_get (text.arms_of_all g c p sel.offered) place ≡ Some w
    → slice_get (text.communications sel.offered) place ≡ Some o → text.arm_of g c p o.offer ≡ Some w → partner c.table.rows p w ≡ Some q
    → text_selects.takes_matched g c p x sel k i
    ≡ with_table (text_selects.communicates_by g c p x o k q o.offer (Some w)) (communicated_with (Some q) c.table p w)
text_takes g c p x sel k i place q w o is_matched listed there is met =
    ap (λ (y : Option ℕ). with_table (text_selects.takes g c p x k (text_selects.open_at sel.offered y))
    (committed_at y c.table p (text.arms_of_all g c p sel.offered))) is_matched
    ∙ ap (λ (y : Option WaitArm). with_table (text_selects.takes g c p x k (slice_get (text.communications sel.offered) place)) (committed_to y c.table p))
    listed
    ∙ ap (λ (y : Option Open). with_table (text_selects.takes g c p x k y) (communicated c.table p w)) there
    ∙ ap (λ (y : Option WaitArm). with_table (text_selects.communicates g c p x o k (text_selects.partner_at c p y)) (communicated c.table p w)) is
    ∙ ap (λ (y : Option ℕ). with_table (text_selects.communicates g c p x o k y) (communicated_with y c.table p w)) met
    ∙ ap (λ (y : Option WaitArm). with_table (text_selects.communicates_by g c p x o k q o.offer y) (communicated_with (Some q) c.table p w)) is

-- ## The decision

no_place : (n : ℕ) → n < 0 → ⊥
no_place n h = grind (arith, h)

pub machine_decides : (mark other choice p i : ℕ) (m : Machine) (places : List ℕ) → i < length places
    → machine.decides_by places mark other choice p m ≡ Ok (machine.takes_matched (machine.place_taken mark choice) p m)
machine_decides mark other choice p i m [] less = absurd (no_place i less)
machine_decides mark other choice p i m (place ∷ places) less = refl

pub text_decides : (g : Program) (c : Config) (p i choice : ℕ) (x : Context) (sel : Selecting) (k : Remainder) (places : List ℕ) → i < length places
    → text_selects.decides_by g c p x sel k choice places ≡ Ok (text_selects.takes_matched g c p x sel k (text_selects.place_taken sel.pri choice))
text_decides g c p i choice x sel k [] less = absurd (no_place i less)
text_decides g c p i choice x sel k (place ∷ places) less = refl
