-- Steps of the declarations: scopes are opened behind the others, and names are declared at the end of one scope.
use Rattle.std.proofs.Common.{◌≡◌, ◌≢◌, ℕ, ◌+◌, ◌<◌, Bool, true, false, cond, is_some, List, [], ◌∷◌, ◌++◌, length, refl, sym, ap, ◌∙◌, subst, arith}
use Rattle.std.proofs.Common.{length-append, length-set, get_or-set_same, get_or-set_other, zero, suc, ◌-◌, ◌≤◌, ◌==◌, nat_lt, get_or, Some}
use Rattle.std.proofs.Math.ListN.{get_or-append}
use Rattle.std.proofs.lemmas.Bool.Decides.{nat_tests}
use Rattle.std.proofs.Math.Seq.{get_or-append_seam, get_or-append_right}
use Rattle.pfc_base.specs.declared.places.Place.{Place}
use Rattle.pfc_tree.specs.Symbols.{Text}
use Rattle.pfc_types.specs.Faults.{Faults, none, one, ◌⨾◌, unless}
use Rattle.pfc_types.specs.Growing.{Begins}
use Rattle.pfc_types.specs.Scopes.{Names, scope_at, meaning_in}
use Rattle.pfc_types.specs.Blocks.{State, Blocks, note, declare, add_name, open_scope}
use Rattle.pfc_types.specs.declared.scope.Meaning.{Meaning}
use Rattle.pfc_types.specs.rules.Bodies.{passed}
use Rattle.pfc_types.proofs.Sound.{IsSound, AreSound, SubsGrown, subs_same, subs_trans, sound_grown, sound_push}
use Rattle.pfc_types.proofs.Prefixes.{begins_same, begins_push, begins_trans, passed_again, passed_new}

abbrev pub held : State → List Names
held s = s.blocks.scopes

-- ## The steps

-- the scopes are as they were
pub record Kept (s t : State) : Type 0 where
  pub scopes : held t ≡ held s
  pub forms : Begins s.forms t.forms
  pub subs : SubsGrown s.blocks t.blocks

-- k scopes were opened, and those before are as they were
pub record Opened (s t : State) (k : ℕ) : Type 0 where
  pub others : (j : ℕ) → j < length (held s) → scope_at (held t) j ≡ scope_at (held s) j
  pub count : length (held t) ≡ length (held s) + k
  pub forms : Begins s.forms t.forms
  pub sound : AreSound s.blocks → AreSound t.blocks

-- k scopes were opened, and names were declared in the scope i, which P counts over whatever that scope becomes
pub record Walked (i : ℕ) (s t : State) (k : ℕ) (P : Names → ℕ → ℕ) : Type 0 where
  pub others : (j : ℕ) → j < length (held s) → j ≢ i → scope_at (held t) j ≡ scope_at (held s) j
  pub own : Begins (scope_at (held s) i) (scope_at (held t) i)
  pub count : length (held t) ≡ length (held s) + k
  pub counts : (fin : Names) → Begins (scope_at (held t) i) fin → P fin (length (scope_at (held s) i)) ≡ length (scope_at (held t) i)
  pub forms : Begins s.forms t.forms
  pub sound : AreSound s.blocks → AreSound t.blocks

abbrev pub nothing_passed : Names → ℕ → ℕ
nothing_passed names n = n

-- ## One after the other

pub kept_same : (s : State) → Kept s s
kept_same s = record { scopes = refl; forms = begins_same s.forms; subs = subs_same s.blocks s.blocks refl }

pub kept_trans : {s t u : State} → Kept s t → Kept t u → Kept s u
kept_trans {s} {t} {u} h k = record {
  scopes = k.scopes ∙ h.scopes;
  forms =
      begins_trans s.forms t.forms u.forms h.forms k.forms;
  subs = subs_trans h.subs k.subs;
}

kept_sound : {s t : State} → Kept s t → AreSound s.blocks → AreSound t.blocks
kept_sound {s} {t} h r j x =
    sound_grown h.subs (meaning_in (scope_at (held t) j) x) (subst (λ l. IsSound s.blocks (meaning_in (scope_at l j) x)) (sym h.scopes) (r j x))

pub kept_opened : {s t : State} → Kept s t → Opened s t 0
kept_opened {s} {t} h = record {
  others = λ j l. ap (λ x. scope_at x j) h.scopes;
  count = ap length h.scopes ∙ plus (length (held s));
  forms = h.forms;
  sound = kept_sound h;
}
  where
    plus : (n : ℕ) → n ≡ n + 0
    plus n = omega arith

pub opened_same : (s : State) → Opened s s 0
opened_same s = kept_opened (kept_same s)

pub opened_count : {s t : State} {k l : ℕ} → Opened s t k → k ≡ l → Opened s t l
opened_count {s} {t} h e = record { others = h.others; count = h.count ∙ ap (λ n. length (held s) + n) e; forms = h.forms; sound = h.sound }

pub opened_trans : {s t u : State} {k l : ℕ} → Opened s t k → Opened t u l → Opened s u (k + l)
opened_trans {s} {t} {u} {k} {l} h g =
    record {
      others = λ j b. g.others j (omega (arith, b, h.count)) ∙ h.others j b;
      count = omega (arith, h.count, g.count);
      forms = begins_trans s.forms t.forms u.forms h.forms g.forms;
      sound = λ r. g.sound (h.sound r);
    }

pub opened_kept : {s t u : State} {k : ℕ} → Opened s t k → Kept t u → Opened s u k
opened_kept {s} {t} {u} {k} h g = opened_count (opened_trans h (kept_opened g)) (plus k)
  where
    plus : (n : ℕ) → n + 0 ≡ n
    plus n = omega arith

pub kept_then_opened : {s t u : State} {k : ℕ} → Kept s t → Opened t u k → Opened s u k
kept_then_opened {s} {t} {u} {k} h g = opened_count (opened_trans (kept_opened h) g) (plus k)
  where
    plus : (n : ℕ) → 0 + n ≡ n
    plus n = omega arith

pub walked_count : {i : ℕ} {s t : State} {k l : ℕ} {P : Names → ℕ → ℕ} → Walked i s t k P → k ≡ l → Walked i s t l P
walked_count {s = s} h e = record {
  others = h.others;
  own = h.own;
  count = h.count ∙ ap (λ n. length (held s) + n) e;
  counts =
      h.counts;
  forms = h.forms;
  sound = h.sound;
}

pub opened_walked : {i : ℕ} {s t : State} {k : ℕ} → i < length (held s) → Opened s t k → Walked i s t k nothing_passed
opened_walked {i} {s} {t} {k} b h =
    record {
      others = λ j l apart. h.others j l;
      own = subst (λ x. Begins (scope_at (held s) i) x) (sym (h.others i b)) (begins_same (scope_at (held s) i));
      count = h.count;
      counts = λ fin begins. ap length (sym (h.others i b));
      forms = h.forms;
      sound = h.sound;
    }

pub kept_walked : {i : ℕ} {s t : State} → i < length (held s) → Kept s t → Walked i s t 0 nothing_passed
kept_walked b h = opened_walked b (kept_opened h)

pub walked_trans : {i : ℕ} {s t u : State} {k l : ℕ} {P Q : Names → ℕ → ℕ} → Walked i s t k P → Walked i t u l Q →
    Walked i s u (k + l) (λ names n. Q names (P names n))
walked_trans {i} {s} {t} {u} {k} {l} {P} {Q} h g =
    record {
      others = λ j b apart. g.others j (omega (arith, b, h.count)) apart ∙ h.others j b apart;
      own = begins_trans (scope_at (held s) i) (scope_at (held t) i) (scope_at (held u) i) h.own g.own;
      count = omega (arith, h.count, g.count);
      counts = λ fin begins. ap (Q fin) (h.counts fin (begins_trans (scope_at (held t) i) (scope_at (held u) i) fin g.own begins)) ∙ g.counts fin begins;
      forms = begins_trans s.forms t.forms u.forms h.forms g.forms;
      sound = λ r. g.sound (h.sound r);
    }

-- scopes that are opened behind what was declared
pub walked_opened : {i : ℕ} {s t u : State} {k l : ℕ} {P : Names → ℕ → ℕ} → i < length (held s) → Walked i s t k P → Opened t u l → Walked i s u (k + l) P
walked_opened b h g = walked_trans h (opened_walked (omega (arith, b, h.count)) g)

pub walked_kept : {i : ℕ} {s t u : State} {k : ℕ} {P : Names → ℕ → ℕ} → i < length (held s) → Walked i s t k P → Kept t u → Walked i s u k P
walked_kept {k = k} b h g = walked_count (walked_opened b h (kept_opened g)) (plus k)
  where
    plus : (n : ℕ) → n + 0 ≡ n
    plus n = omega arith

pub opened_then_walked : {i : ℕ} {s t u : State} {k l : ℕ} {P : Names → ℕ → ℕ} → i < length (held s) → Opened s t k → Walked i t u l P → Walked i s u (k + l) P
opened_then_walked b h g = walked_trans (opened_walked b h) g

pub kept_then_walked : {i : ℕ} {s t u : State} {l : ℕ} {P : Names → ℕ → ℕ} → i < length (held s) → Kept s t → Walked i t u l P → Walked i s u l P
kept_then_walked {l = l} b h g = walked_count (opened_then_walked b (kept_opened h) g) (plus l)
  where
    plus : (n : ℕ) → 0 + n ≡ n
    plus n = omega arith

-- ## In a scope of its own

-- what is declared in a scope that was opened since leaves those before as they were
pub opened_inner : {s t u : State} {k l : ℕ} {P : Names → ℕ → ℕ} → Opened s t k → Walked (length (held s)) t u l P → Opened s u (k + l)
opened_inner {s} {t} {u} h g =
    record {
      others = λ j b. g.others j (omega (arith, b, h.count)) (apart j b) ∙ h.others j b;
      count = omega (arith, h.count, g.count);
      forms = begins_trans s.forms t.forms u.forms h.forms g.forms;
      sound = λ r. g.sound (h.sound r);
    }
  where
    apart : (j : ℕ) → j < length (held s) → j ≢ length (held s)
    apart j b e = absurd (omega (arith, b, e))

pub walked_inner : {i : ℕ} {s t u : State} {k l : ℕ} {P Q : Names → ℕ → ℕ} → i < length (held s) → Walked i s t k P →
    Walked (length (held s)) t u l Q → Walked i s u (k + l) P
walked_inner {i} {s} {t} {u} {k} {l} {P} {Q} b h g =
    record {
      others = λ j c apart. g.others j (omega (arith, c, h.count)) (less j c) ∙ h.others j c apart;
      own = subst (λ x. Begins (scope_at (held s) i) x) (sym same) h.own;
      count = omega (arith, h.count, g.count);
      counts = λ fin begins. h.counts fin (subst (λ x. Begins x fin) same begins) ∙ ap length (sym same);
      forms = begins_trans s.forms t.forms u.forms h.forms g.forms;
      sound = λ r. g.sound (h.sound r);
    }
  where
    less : (j : ℕ) → j < length (held s) → j ≢ length (held s)
    less j c e = absurd (omega (arith, c, e))

    same : scope_at (held u) i ≡ scope_at (held t) i
    same = g.others i (omega (arith, b, h.count)) (less i b)

-- ## One step

pub note_kept : (s : State) (fs : Faults) → Kept s (note s fs)
note_kept s none = kept_same s
note_kept s (one f) = record { scopes = refl; forms = begins_same s.forms; subs = subs_same s.blocks (note s (one f)).blocks refl }
note_kept s (fs ⨾ gs) = kept_trans (note_kept s fs) (note_kept (note s fs) gs)

pub open_opened : (s : State) → Opened s (open_scope s) 1
open_opened s =
    record {
      others = λ j b. get_or-append (held s) ([] ∷ []) [] j b;
      count = length-append (held s) ([] ∷ []);
      forms = begins_same s.forms;
      sound = λ r j x. by r j x (nat_lt j (length (held s))) refl;
    }
  where
    lt_of : (j n : ℕ) → nat_lt j n ≡ true → j < n
    lt_of j n h = grind (arith, nat_tests)

    le_of : (j n : ℕ) → nat_lt j n ≡ false → n ≤ j
    le_of j n h = grind (arith, nat_tests)

    by : AreSound s.blocks → (j : ℕ) (x : Text) (t : Bool) → nat_lt j (length (held s)) ≡ t → IsSound s.blocks (meaning_in (scope_at (held s ++ [] ∷ []) j) x)
    by r j x true h = subst (λ l. IsSound s.blocks (meaning_in l x)) (sym (get_or-append (held s) ([] ∷ []) [] j (lt_of j (length (held s)) h))) (r j x)
    by r j x false h = subst (λ l. IsSound s.blocks (meaning_in l x))
        (sym (get_or-append_right (held s) ([] ∷ []) j [] (le_of j (length (held s)) h) ∙ empty (j - length (held s)))) tt
      where
        empty : (k : ℕ) → get_or {A = Names} ([] ∷ []) k [] ≡ []
        empty zero = refl
        empty (suc k) = refl

-- the scope that is opened is empty
pub open_empty : (s : State) → scope_at (held (open_scope s)) (length (held s)) ≡ []
open_empty s = get_or-append_seam (held s) [] [] []

pub declare_walked : (s : State) (i : ℕ) (x : Text × Place) (m : Meaning) → i < length (held s) → (AreSound s.blocks → IsSound s.blocks (Some m)) →
    Walked i s (declare s i x m) 0 (λ names n. passed names n x.0)
declare_walked s i x m b good = by (is_some (meaning_in (scope_at (held s) i) x.0)) refl
  where
    plus : (n : ℕ) → n ≡ n + 0
    plus n = omega arith

    eq_of : (j : ℕ) → (j == i) ≡ true → j ≡ i
    eq_of j h = grind (arith, nat_tests)

    ne_of : (j : ℕ) → (j == i) ≡ false → j ≢ i
    ne_of j h e = no (sym (same j) ∙ ap (λ k. j == k) e ∙ h)
      where
        same : (n : ℕ) → (n == n) ≡ true
        same n = grind (arith, nat_tests)

        no : true ≡ false → ⊥
        no y = cc

    by : (t : Bool) → is_some (meaning_in (scope_at (held s) i) x.0) ≡ t →
        Walked i s (cond t (note s (unless false x.1 302)) (add_name s i x.0 m)) 0 (λ names n. passed names n x.0)
    by true h =
        record {
          others = λ j l apart. refl;
          own = begins_same (scope_at (held s) i);
          count = plus (length (held s));
          counts = λ fin begins. passed_again (scope_at (held s) i) fin x.0 begins h;
          forms = begins_same s.forms;
          sound = λ r. r;
        }
    by false h =
        record {
          others = λ j l apart. get_or-set_other (held s) i j (scope_at (held s) i ++ (x.0, m) ∷ []) [] apart;
          own = subst (λ y. Begins (scope_at (held s) i) y) (sym new) (begins_push (scope_at (held s) i) ((x.0, m) ∷ []));
          count = length-set (held s) i (scope_at (held s) i ++ (x.0, m) ∷ []) ∙ plus (length (held s));
          counts = λ fin begins. passed_new (scope_at (held s) i) fin x.0 m (subst (λ y. Begins y fin) new begins) h ∙ ap length (sym new);
          forms = begins_same s.forms;
          sound = λ r j y. at r j y (j == i) refl;
        }
      where
        new : scope_at (held (add_name s i x.0 m)) i ≡ scope_at (held s) i ++ (x.0, m) ∷ []
        new = get_or-set_same (held s) i (scope_at (held s) i ++ (x.0, m) ∷ []) [] b

        at : AreSound s.blocks → (j : ℕ) (y : Text) (t : Bool) → (j == i) ≡ t → IsSound s.blocks (meaning_in (scope_at (held (add_name s i x.0 m)) j) y)
        at r j y true e =
            subst (λ l. IsSound s.blocks (meaning_in l y)) (sym (ap (λ k. scope_at (held (add_name s i x.0 m)) k) (eq_of j e) ∙ new))
            (sound_push s.blocks (scope_at (held s) i) x.0 y m (r i y) (good r))
        at r j y false e = subst (λ l. IsSound s.blocks (meaning_in l y))
            (sym (get_or-set_other (held s) i j (scope_at (held s) i ++ (x.0, m) ∷ []) [] (ne_of j e))) (r j y)

-- a name that is sound whatever the blocks hold
pub free_walked : (s : State) (i : ℕ) (x : Text × Place) (m : Meaning) → i < length (held s) → ((b : Blocks) → IsSound b (Some m)) →
    Walked i s (declare s i x m) 0 (λ names n. passed names n x.0)
free_walked s i x m b good = declare_walked s i x m b (λ r. good s.blocks)
