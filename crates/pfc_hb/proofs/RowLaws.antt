-- What the users of parts tell of clashes.
use Rattle.std.proofs.Common.{get_or, ◌≡◌, ℕ, ◌<◌, Bool, true, false, ◌&&◌, ◌||◌, eqb, Some, List, [], ◌∷◌, ◌++◌, length, arith, refl, sym, ap, subst, ◌∙◌}
use Rattle.std.proofs.Common.{eqb-true, eq-eqb}
use Rattle.std.specs.Ordering.{int_eq}
use Rattle.std.specs.List.{list_any, starts_with}
use Rattle.std.proofs.lemmas.List.Folds.{list_any-append}
use Rattle.std.proofs.Math.Bool.{or_assoc}
use Rattle.std.proofs.lemmas.Bool.{and_parts, and_from}
use Rattle.pfc_hb.specs.Rows.{is_some_user}
use Rattle.std.proofs.lemmas.List.Elements.{Contains-get_or}
use Rattle.pfc_hb.specs.declared.accesses.Access.{Access}
use Rattle.pfc_hb.specs.declared.accesses.Spot.{Spot}
use Rattle.pfc_hb.specs.declared.events.Event.{Event}
use Rattle.pfc_hb.specs.declared.parts.Part.{Part}
use Rattle.pfc_hb.specs.declared.users.Users.{Users}
use Rattle.pfc_hb.specs.Order.{event_at}
use Rattle.pfc_hb.specs.Conflicts.{has_same_variable, clashes, clashes_with}
use Rattle.pfc_hb.specs.Parts.{AreAround, KnowsAll, holds, is_same_spot, lies_in, number_of}
use Rattle.pfc_hb.specs.Users.{TellUsers, is_user, some_use, users_at}
use Rattle.pfc_hb.proofs.ListAny.{list_any-found, list_any-at, list_any-contained}
use Rattle.pfc_hb.proofs.PartLaws.{front-all, known-number, lies_in-front, same_answer, same_spot, same_spot-refl}

no_access : Access
no_access = record { spot = record { activation = 0; variable = 0; path = [] }; write = false }

same_variable-sym : (a b : Spot) → has_same_variable a b ≡ has_same_variable b a
same_variable-sym a b =
    let turned : (s t : Spot) → has_same_variable s t ≡ true → has_same_variable t s ≡ true = λ s t h.
    let places = and_parts (eqb s.variable t.variable) (eqb s.activation t.activation) h in
    and_from _ _ (eq-eqb t.variable s.variable (sym (eqb-true s.variable t.variable places.0)))
    (eq-eqb t.activation s.activation (sym (eqb-true s.activation t.activation places.1))) in
    same_answer (has_same_variable a b) (has_same_variable b a) (turned a b) (turned b a)

-- accesses clash where one may clash with the other, and lies in it or holds it
clash-parts : (same writes inner outer : Bool) → ((same && writes) && (inner || outer)) ≡ ((writes && (same && inner)) || (writes && (same && outer)))
clash-parts false false inner outer = refl
clash-parts false true inner outer = refl
clash-parts true false inner outer = refl
clash-parts true true inner outer = refl

clash-uses : (x y : Access) → clashes x y ≡ (((x.write || y.write) && holds y.spot x.spot) || ((x.write || y.write) && lies_in y.spot x.spot))
clash-uses x y =
    let p = x.spot.path in
    let q = y.spot.path in
    clash-parts (has_same_variable x.spot y.spot) (x.write || y.write) (starts_with int_eq p q) (starts_with int_eq q p)
    ∙ ap (λ b. ((x.write || y.write) && holds y.spot x.spot) || ((x.write || y.write) && (b && starts_with int_eq q p))) (same_variable-sym x.spot y.spot)

split : (a b c d : Bool) → ((a || b) || (c || d)) ≡ ((a || c) || (b || d))
split true b c d = refl
split false true true d = refl
split false true false d = refl
split false false c d = refl

pub clashes-uses : (x : Access) (ys : List Access) → list_any (clashes x) ys ≡ (some_use holds x.write x.spot ys || some_use lies_in x.write x.spot ys)
clashes-uses x [] = refl
clashes-uses x (y ∷ ys) =
    let outer = (x.write || y.write) && holds y.spot x.spot in
    let inner = (x.write || y.write) && lies_in y.spot x.spot in
    ap (λ b. b || list_any (clashes x) ys) (clash-uses x y) ∙ ap (λ b. (outer || inner) || b) (clashes-uses x ys)
    ∙ split outer inner (some_use holds x.write x.spot ys) (some_use lies_in x.write x.spot ys)

-- the users of the parts around a spot are the events with an access that holds it
pub outer-users : (events : List Event) (parts : List Part) (users : List Users) (s : Spot) (w : Bool) (numbers : List ℕ) (j : ℕ) → j < length events
    → KnowsAll events parts → TellUsers events parts is_same_spot users → AreAround parts s numbers
    → list_any (λ n. is_user (users_at users n) w j) numbers ≡ some_use holds w s (event_at events j).accesses
outer-users events parts users s w numbers j lt known tell around =
    let ys = (event_at events j).accesses in
    let user : ℕ → Bool = λ n. is_user (users_at users n) w j in
    same_answer _ _
    (λ h.
    let f = list_any-found user numbers 0 h in
    let n = get_or numbers f.0 0 in
    let is = (around n).0 (Contains-get_or numbers f.0 0 f.1) in
    let used : some_use is_same_spot w is.0 ys ≡ true = sym (tell.told is.0 n w j is.1 lt) ∙ f.2 in
    let g = list_any-found (λ a. (w || a.write) && is_same_spot a.spot is.0) ys no_access used in
    let a = get_or ys g.0 no_access in
    let both = and_parts (w || a.write) (is_same_spot a.spot is.0) g.2 in
    let there : holds a.spot s ≡ true = subst (λ v. lies_in s v ≡ true) (sym (same_spot a.spot is.0 both.1)) is.2 in
    list_any-at (λ x. (w || x.write) && holds x.spot s) ys no_access g.0 g.1 (and_from _ _ both.0 there))
    (λ h.
    let g = list_any-found (λ a. (w || a.write) && holds a.spot s) ys no_access h in
    let a = get_or ys g.0 no_access in
    let both = and_parts (w || a.write) (holds a.spot s) g.2 in
    let n = known-number parts a.spot (known j lt g.0 no_access g.1) in
    let used : some_use is_same_spot w a.spot ys ≡ true =
    list_any-at (λ x. (w || x.write) && is_same_spot x.spot a.spot) ys no_access g.0 g.1 (and_from _ _ both.0 (same_spot-refl a.spot)) in
    list_any-contained user numbers n.0 ((around n.0).1 (a.spot, n.1, both.1)) (tell.told a.spot n.0 w j n.1 lt ∙ used))

-- a part may be left out where what else there is covers its users
own-covered : (some own more : Bool) → (own ≡ true → more ≡ true) → (some || more) ≡ ((some || (own || false)) || more)
own-covered true own more covers = refl
own-covered false false more covers = refl
own-covered false true more covers = covers refl

-- who accesses what lies at a spot accesses a part of it
same-inner : (s : Spot) (w : Bool) (ys : List Access) → some_use is_same_spot w s ys ≡ true → some_use lies_in w s ys ≡ true
same-inner s w ys h =
    let g = list_any-found (λ a. (w || a.write) && is_same_spot a.spot s) ys no_access h in
    let a = get_or ys g.0 no_access in
    let both = and_parts (w || a.write) (is_same_spot a.spot s) g.2 in
    let own : lies_in a.spot a.spot ≡ true =
    subst (λ v. lies_in a.spot v ≡ true) (front-all a.spot) (lies_in-front a.spot (length a.spot.path) (omega arith)) in
    let there : lies_in a.spot s ≡ true = subst (λ v. lies_in a.spot v ≡ true) (same_spot a.spot s both.1) own in
    list_any-at (λ x. (w || x.write) && lies_in x.spot s) ys no_access g.0 g.1 (and_from _ _ both.0 there)

-- what a row has after one access
pub row-clashes : (events : List Event) (parts : List Part) (at within : List Users) (x : Access) (numbers : List ℕ) (own j : ℕ) (before : Bool) →
    j < length events
    → KnowsAll events parts → TellUsers events parts is_same_spot at → TellUsers events parts lies_in within → AreAround parts x.spot (numbers ++ own ∷ [])
    → number_of parts x.spot ≡ Some own
    → ((before || is_some_user at numbers x.write j) || is_user (users_at within own) x.write j) ≡ (before || clashes_with (event_at events j) x)
row-clashes events parts at within x numbers own j before lt known tell_at tell_within around number =
    let ys = (event_at events j).accesses in
    let user : ℕ → Bool = λ n. is_user (users_at at n) x.write j in
    let inner = is_user (users_at within own) x.write j in
    let told = tell_within.told x.spot own x.write j number lt in
    let covers : user own ≡ true → inner ≡ true = λ h. told ∙ same-inner x.spot x.write ys (sym (tell_at.told x.spot own x.write j number lt) ∙ h) in
    or_assoc before (is_some_user at numbers x.write j) inner
    ∙ ap (λ b. before || b) (own-covered (list_any user numbers) (user own) inner covers
    ∙ ap (λ b. b || inner) (sym (list_any-append user numbers (own ∷ [])))
    ∙ ap (λ b. b || inner) (outer-users events parts at x.spot x.write (numbers ++ own ∷ []) j lt known tell_at around)
    ∙ ap (λ b. some_use holds x.write x.spot ys || b) told
    ∙ sym (clashes-uses x ys))
