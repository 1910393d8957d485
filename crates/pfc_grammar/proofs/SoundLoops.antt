-- Loops read lawful lists.
use Rattle.std.proofs.Common.{◌≡◌, ℕ, zero, suc, ◌+◌, ◌≤◌, List, [], ◌∷◌, ◌++◌, length, Bool, true, false, ◌||◌, Option, Some, None, is_some, Ok, Err, refl}
use Rattle.std.proofs.Common.{sym, ap, subst, ◌∙◌, append_assoc, append-nil, length-append, arith}
use Rattle.pfc_tree.specs.Symbols.{Symbol}
use Rattle.pfc_grammar.specs.Reading.{Halt, bad, deep, Outcome, Reader, pure, then_read, bind, branch_at, branch, choose_at, choose, many_turns, many_onto}
use Rattle.pfc_grammar.specs.Reading.{many, some_of, list_of, end_turns, end_onto, list_end, while_turns, while_onto, many_while}
use Rattle.pfc_grammar.proofs.Lists.{Apart, none, or_taken, or-both, apart_none, apart_less, flat, flat-snoc, separated, separated-snoc, Each, each-snoc}
use Rattle.pfc_grammar.proofs.Lists.{behind_last, behind_last-snoc, Chain, chain-snoc}
use Rattle.pfc_grammar.proofs.Sound.{When, Goes, Took, Halts, Sound, here, joined, wrapped, behind_symbol, sound_bind, sound_branch, sound_stop}

-- fronts that are equal at each list are as good as one
pub same_front : {B : Type 0} (T : B → List Symbol) (L : B → Type 0) (X : B → Symbol → Bool) (F G : List Symbol → List Symbol) →
    ((k : List Symbol) → F k ≡ G k) → (ss : List Symbol) (o : Outcome B) →
    When o (Took T L X F ss) (Halts T L F ss) → When o (Took T L X G ss) (Halts T L G ss)
same_front T L X F G e ss (Ok p) w = record { read = w.read; splits = w.splits; writes = w.writes ∙ e w.read; lawful = w.lawful; apart = w.apart }
same_front T L X F G e ss (Err (bad n)) w = record {
  read = w.read;
  left = w.left;
  splits = w.splits;
  count = w.count;
  goes = record { whole = w.goes.whole; more = w.goes.more; lawful = w.goes.lawful; writes = w.goes.writes ∙ e (w.read ++ w.goes.more) };
}
same_front T L X F G e ss (Err (deep n)) w = record {
  read = w.read;
  last = w.last;
  left = w.left;
  splits = w.splits;
  count = w.count;
  goes = record { whole = w.goes.whole; more = w.goes.more; lawful = w.goes.lawful; writes = w.goes.writes ∙ e (w.read ++ (w.last ∷ w.goes.more)) };
}

pub sound_front : {B : Type 0} {T : B → List Symbol} {L : B → Type 0} {X : B → Symbol → Bool} {t : Symbol → Bool} (F : List Symbol →
    List Symbol) {G : List Symbol → List Symbol} {k : Reader B} →
    ((l : List Symbol) → F l ≡ G l) → Sound T L X t F k → Sound T L X t G k
sound_front {T = T} {L = L} {X = X} F {G = G} {k = k} e h = record {
  goes = record { whole = h.goes.whole; more = h.goes.more; lawful = h.goes.lawful; writes = h.goes.writes ∙ e h.goes.more };
  reads = λ ss a. same_front T L X F G e ss (k ss) (h.reads ss a);
}

-- behind a symbol, what is read from there on
pub sound_behind : {B : Type 0} {T : B → List Symbol} {L : B → Type 0} {X : B → Symbol → Bool} (s : Symbol) {r : Reader B} → Sound T L X none here r →
    Sound (λ x. s ∷ T x) L X none (λ k. s ∷ k) r
sound_behind {B = B} {T = T} {L = L} {X = X} s {r = r} h = record {
  goes = record { whole = h.goes.whole; more = h.goes.more; lawful = h.goes.lawful; writes = ap (λ a. s ∷ a) h.goes.writes };
  reads = λ ss a. go ss (r ss) (h.reads ss a);
}
  where
    go : (ss : List Symbol) (o : Outcome B) → When o (Took T L X here ss) (Halts T L here ss) →
        When o (Took (λ x. s ∷ T x) L X (λ k. s ∷ k) ss) (Halts (λ x. s ∷ T x) L (λ k. s ∷ k) ss)
    go ss (Ok p) w = record { read = w.read; splits = w.splits; writes = ap (λ a. s ∷ a) w.writes; lawful = w.lawful; apart = w.apart }
    go ss (Err (bad n)) w = record {
      read = w.read;
      left = w.left;
      splits = w.splits;
      count = w.count;
      goes = record { whole = w.goes.whole; more = w.goes.more; lawful = w.goes.lawful; writes = ap (λ a. s ∷ a) w.goes.writes };
    }
    go ss (Err (deep n)) w = record {
      read = w.read;
      last = w.last;
      left = w.left;
      splits = w.splits;
      count = w.count;
      goes = record { whole = w.goes.whole; more = w.goes.more; lawful = w.goes.lawful; writes = ap (λ a. s ∷ a) w.goes.writes };
    }

-- One reader after the other, where the first is read behind w₀.
joined_onto : {B : Type 0} (T : B → List Symbol) (L : B → Type 0) (X : B → Symbol → Bool) (F : List Symbol → List Symbol) (w₀ y u ss rest : List Symbol)
    (o : Outcome B) → y ≡ w₀ ++ u → ss ≡ u ++ rest →
    When o (Took T L X (λ k. F (y ++ k)) rest) (Halts T L (λ k. F (y ++ k)) rest) → When o (Took T L X (λ k. F (w₀ ++ k)) ss) (Halts T L (λ k. F (w₀ ++ k)) ss)
joined_onto T L X F w₀ y u ss rest o e split w =
    joined T L X (λ k. F (w₀ ++ k)) u u ss rest o refl split (same_front T L X (λ k. F (y ++ k)) (λ k. F (w₀ ++ (u ++ k)))
    (λ k. ap (λ q. F (q ++ k)) e ∙ ap F (append_assoc w₀ u k)) rest o w)

wrapped_goes : {A B : Type 0} (T' : A → List Symbol) (L' : A → Type 0) (T : B → List Symbol) (L : B →
    Type 0) (F : List Symbol → List Symbol) (w₀ v : List Symbol) →
    ((x : A) → L' x → Goes T L (λ k. F (T' x ++ k))) → Goes T' L' (λ k. w₀ ++ (v ++ k)) → Goes T L (λ k. F (w₀ ++ (v ++ k)))
wrapped_goes T' L' T L F w₀ v after p = made (after p.whole p.lawful)
  where
    made : Goes T L (λ k. F (T' p.whole ++ k)) → Goes T L (λ k. F (w₀ ++ (v ++ k)))
    made g = record {
      whole = g.whole;
      more = p.more ++ g.more;
      lawful = g.lawful;
      writes = g.writes ∙ ap (λ a. F (a ++ g.more)) p.writes ∙ ap F (append_assoc w₀ (v ++ p.more) g.more ∙ ap (λ q. w₀ ++ q) (append_assoc v p.more g.more));
    }

wrapped_onto : {A B : Type 0} (T' : A → List Symbol) (L' : A → Type 0) (T : B → List Symbol) (L : B →
    Type 0) (F : List Symbol → List Symbol) (w₀ ss : List Symbol) →
    ((x : A) → L' x → Goes T L (λ k. F (T' x ++ k))) → (h : Halt) → Halts T' L' (λ k. w₀ ++ k) ss h → Halts T L (λ k. F (w₀ ++ k)) ss h
wrapped_onto T' L' T L F w₀ ss after (bad n) w = record {
  read = w.read;
  left = w.left;
  splits = w.splits;
  count = w.count;
  goes =
      wrapped_goes T' L' T L F w₀ w.read after w.goes;
}
wrapped_onto T' L' T L F w₀ ss after (deep n) w = record {
  read = w.read;
  last = w.last;
  left = w.left;
  splits = w.splits;
  count = w.count;
  goes = shorter (wrapped_goes T' L' T L F w₀ (w.read ++ (w.last ∷ [])) after (longer w.goes));
}
  where
    longer : Goes T' L' (λ k. w₀ ++ (w.read ++ (w.last ∷ k))) → Goes T' L' (λ k. w₀ ++ ((w.read ++ (w.last ∷ [])) ++ k))
    longer g = record {
      whole = g.whole;
      more = g.more;
      lawful = g.lawful;
      writes = g.writes ∙
          ap (λ q. w₀ ++ q) (sym (append_assoc w.read (w.last ∷ []) g.more));
    }

    shorter : Goes T L (λ k. F (w₀ ++ ((w.read ++ (w.last ∷ [])) ++ k))) → Goes T L (λ k. F (w₀ ++ (w.read ++ (w.last ∷ k))))
    shorter g = record {
      whole = g.whole;
      more = g.more;
      lawful = g.lawful;
      writes = g.writes ∙
          ap (λ q. F (w₀ ++ q)) (append_assoc w.read (w.last ∷ []) g.more);
    }

pub sound_bind_onto : {A B : Type 0} {T' : A → List Symbol} {L' : A → Type 0} {X' : A → Symbol → Bool} {T : B → List Symbol} {L : B → Type 0} {X : B → Symbol →
    Bool} {t : Symbol → Bool} (w₀ : List Symbol) (F : List Symbol → List Symbol) {r : Reader A} {g : A → Reader B} →
    Sound T' L' X' none (λ k. w₀ ++ k) r → ((x : A) → L' x → Sound T L X (X' x) (λ k. F (T' x ++ k)) (g x)) → Sound T L X t (λ k. F (w₀ ++ k)) (bind r g)
unfolding bind
sound_bind_onto {A = A} {T' = T'} {L' = L'} {X' = X'} {T = T} {L = L} {X = X} w₀ F {r = r} {g = g} h after = record {
  goes = start h.goes;
  reads = λ ss a. go ss (r ss) (h.reads ss (apart_none ss));
}
  where
    start_of : (x : A) (m : List Symbol) → T' x ≡ w₀ ++ m → Goes T L (λ k. F (T' x ++ k)) → Goes T L (λ k. F (w₀ ++ k))
    start_of x m e w = record {
      whole = w.whole;
      more = m ++ w.more;
      lawful = w.lawful;
      writes = w.writes ∙
          ap (λ q. F (q ++ w.more)) e ∙ ap F (append_assoc w₀ m w.more);
    }

    start : Goes T' L' (λ k. w₀ ++ k) → Goes T L (λ k. F (w₀ ++ k))
    start w = start_of w.whole w.more w.writes (after w.whole w.lawful).goes

    go : (ss : List Symbol) (o : Outcome A) → When o (Took T' L' X' (λ k. w₀ ++ k) ss) (Halts T' L' (λ k. w₀ ++ k) ss) →
        When (then_read o g) (Took T L X (λ k. F (w₀ ++ k)) ss) (Halts T L (λ k. F (w₀ ++ k)) ss)
    go ss (Ok p) w = joined_onto T L X F w₀ (T' p.0) w.read ss p.1 (g p.0 p.1) w.writes w.splits ((after p.0 w.lawful).reads p.1 w.apart)
    go ss (Err e) w = wrapped_onto T' L' T L F w₀ ss (λ x l. (after x l).goes) e w

-- behind a symbol
pub sound_bind_behind : {A B : Type 0} {T' : A → List Symbol} {L' : A → Type 0} {X' : A → Symbol → Bool} {T : B → List Symbol} {L : B → Type 0} {X : B →
    Symbol → Bool} {t : Symbol → Bool} (s : Symbol) (F : List Symbol → List Symbol) {r : Reader A} {g : A → Reader B} →
    Sound T' L' X' none (λ k. s ∷ k) r → ((x : A) → L' x → Sound T L X (X' x) (λ k. F (T' x ++ k)) (g x)) → Sound T L X t (λ k. F (s ∷ k)) (bind r g)
sound_bind_behind s F h after = sound_bind_onto (s ∷ []) F h after

fewer : (ss read rest : List Symbol) (s : Symbol) (n : ℕ) → ss ≡ read ++ rest → length (s ∷ ss) ≤ suc n → length rest ≤ n
fewer ss read rest s n e h =
    let k : length ss ≡ length read + length rest = ap length e ∙ length-append read rest in
    let h' : suc (length ss) ≤ suc n = h in
    omega arith

-- A loop. W writes a list, I says that it is lawful, E xs has the symbols that do not follow it; U writes an item with the symbol before it.
module _ {A O : Type 0} (W : List A → List Symbol) (I : List A → Type 0) (E : List A → Symbol → Bool)
    (U : A → List Symbol) (L' : A → Type 0) (X' : A → Symbol → Bool) (f : Symbol → Option O) (g : O → Reader A)
    (item : (s : Symbol) (o : O) → f s ≡ Some o → Sound U L' X' none (λ k. s ∷ k) (g o))
    (w : (xs : List A) → I xs → (x : A) → W (xs ++ x ∷ []) ≡ W xs ++ U x)
    (l : (xs : List A) → I xs → (s : Symbol) (o : O) → E xs s ≡ false → f s ≡ Some o → (x : A) → L' x → I (xs ++ x ∷ []))
    (a : (xs : List A) (x : A) (s : Symbol) → X' x s ≡ false → E (xs ++ x ∷ []) s ≡ false) where
  done : (xs : List A) → I xs → (ss : List Symbol) → Apart (or_taken f (E xs)) ss → Took W I (λ ys. or_taken f (E ys)) (λ k. W xs ++ k) ss xs ss
  done xs i ss b = record { read = []; splits = refl; writes = sym (append-nil (W xs)); lawful = i; apart = b }

  turns : (n : ℕ) (xs : List A) → I xs → (ss : List Symbol) → length ss ≤ n → Apart (E xs) ss →
      When (many_turns n xs f g ss) (Took W I (λ ys. or_taken f (E ys)) (λ k. W xs ++ k) ss) (Halts W I (λ k. W xs ++ k) ss)
  unfolding many_turns branch bind pure
  turns zero xs i [] h b = done xs i [] tt
  turns zero xs i (s ∷ ss) h b = absurd (omega (arith, h))
  turns (suc n) xs i [] h b = done xs i [] tt
  turns (suc n) xs i (s ∷ ss) h b = at (λ x j rest q. turns n (xs ++ x ∷ []) j rest q) (f s) refl
    where
      read_on : (o : O) → f s ≡ Some o → (c : Outcome A) → When c (Took U L' X' (λ k. s ∷ k) ss) (Halts U L' (λ k. s ∷ k) ss) →
          ((x : A) → I (xs ++ x ∷ []) → (rest : List Symbol) → length rest ≤ n → Apart (E (xs ++ x ∷ [])) rest →
          When (many_turns n (xs ++ x ∷ []) f g rest) (Took W I (λ ys. or_taken f (E ys)) (λ k. W (xs ++ x ∷ []) ++ k) rest)
          (Halts W I (λ k. W (xs ++ x ∷ []) ++ k) rest)) →
          When (then_read c (λ x. many_turns n (xs ++ x ∷ []) f g)) (Took W I (λ ys. or_taken f (E ys)) (λ k. W xs ++ k)
          (s ∷ ss)) (Halts W I (λ k. W xs ++ k) (s ∷ ss))
      read_on o e (Ok p) v more =
          joined W I (λ ys. or_taken f (E ys)) (λ k. W xs ++ k) (U p.0) (s ∷ v.read) (s ∷ ss) p.1
          (many_turns n (xs ++ p.0 ∷ []) f g p.1) v.writes (ap (λ k. s ∷ k) v.splits)
          (same_front W I (λ ys. or_taken f (E ys)) (λ k. W (xs ++ p.0 ∷ []) ++ k) (λ k. W xs ++ (U p.0 ++ k)) (λ k. ap (λ q. q ++ k) (w xs i p.0) ∙
          append_assoc (W xs) (U p.0) k) p.1 (many_turns n (xs ++ p.0 ∷ []) f g p.1)
          (more p.0 (l xs i s o b e p.0 v.lawful) p.1 (fewer ss v.read p.1 s n v.splits h) (apart_less (X' p.0) (E (xs ++ p.0 ∷ [])) (a xs p.0) p.1 v.apart)))
      read_on o e (Err q) v more =
          wrapped U L' W I (λ k. W xs ++ k) (s ∷ ss) (λ x k. record {
            whole = xs ++ x ∷ [];
            more = [];
            lawful = l xs i s o b e x k;
            writes = w xs i x ∙
                ap (λ q. W xs ++ q) (sym (append-nil (U x)));
          }) q
          (behind_symbol U L' X' here s ss (Err q) v)

      at : ((x : A) → I (xs ++ x ∷ []) → (rest : List Symbol) → length rest ≤ n → Apart (E (xs ++ x ∷ [])) rest →
          When (many_turns n (xs ++ x ∷ []) f g rest) (Took W I (λ ys. or_taken f (E ys)) (λ k. W (xs ++ x ∷ []) ++ k) rest)
          (Halts W I (λ k. W (xs ++ x ∷ []) ++ k) rest)) → (o : Option O) → f s ≡ o →
          When (branch_at o (λ o'. bind (g o') (λ x. many_turns n (xs ++ x ∷ []) f g)) (pure xs) s ss) (Took W I (λ ys. or_taken f (E ys)) (λ k. W xs ++ k)
          (s ∷ ss)) (Halts W I (λ k. W xs ++ k) (s ∷ ss))
      at m (Some o) e = read_on o e (g o ss) ((item s o e).reads ss (apart_none ss)) m
      at m None e = done xs i (s ∷ ss) (or-both (E xs s) _ b (ap is_some e))

  pub sound_many_onto : (xs : List A) → I xs → Sound W I (λ ys. or_taken f (E ys)) (E xs) (λ k. W xs ++ k) (many_onto xs f g)
  unfolding many_onto
  sound_many_onto xs i = record {
    goes = record { whole = xs; more = []; lawful = i; writes = sym (append-nil (W xs)) };
    reads = λ ss b. turns (length ss) xs i ss (omega arith) b;
  }

  pub sound_many : I [] → W [] ≡ [] → ((s : Symbol) → E [] s ≡ false) → Sound W I (λ ys. or_taken f (E ys)) none here (many f g)
  unfolding many
  sound_many i e n = record {
    goes = record { whole = []; more = []; lawful = i; writes = e };
    reads = λ ss b. same_front W I (λ ys. or_taken f (E ys)) (λ k. W [] ++ k) here (λ k. ap (λ q. q ++ k) e) ss (many_onto [] f g ss)
        ((sound_many_onto [] i).reads ss (apart_less none (E []) (λ s z. n s) ss b));
  }

  pub sound_some : ((x : A) → W (x ∷ []) ≡ U x) → ((x : A) → L' x → I (x ∷ [])) → ((x : A) (s : Symbol) → X' x s ≡ false →
      E (x ∷ []) s ≡ false) → Goes W I here →
      Sound W I (λ ys. or_taken f (E ys)) none here (some_of f g)
  unfolding some_of
  sound_some w₁ l₁ a₁ first =
      sound_branch (λ s o n e. sound_bind_behind s here (item s o e) (λ x k. sound_front (λ q. W (x ∷ []) ++ q) (λ q. ap (λ y. y ++ q) (w₁ x))
      (smaller x (sound_many_onto (x ∷ []) (l₁ x k))))) (sound_stop first)
    where
      smaller : (x : A) → Sound W I (λ ys. or_taken f (E ys)) (E (x ∷ [])) (λ k. W (x ∷ []) ++ k) (many_onto (x ∷ []) f g) →
          Sound W I (λ ys. or_taken f (E ys)) (X' x) (λ k. W (x ∷ []) ++ k) (many_onto (x ∷ []) f g)
      smaller x h = record { goes = h.goes; reads = λ ss b. h.reads ss (apart_less (X' x) (E (x ∷ [])) (a₁ x) ss b) }

-- a list with a symbol between its items
pub sound_list : {A O : Type 0} (W : List A → List Symbol) (I : List A → Type 0) (E : List A → Symbol → Bool) (sep : Symbol) (T : A → List Symbol) (L : A →
    Type 0) (X : A → Symbol → Bool) {f : Symbol → Option O} {r : Reader A} →
    Sound T L X none here r → ((s : Symbol) (o : O) → f s ≡ Some o → s ≡ sep) →
    ((x : A) → W (x ∷ []) ≡ T x) → ((x : A) → L x → I (x ∷ [])) → ((x : A) (s : Symbol) → X x s ≡ false → E (x ∷ []) s ≡ false) →
    ((xs : List A) → I xs → (x : A) → W (xs ++ x ∷ []) ≡ W xs ++ (sep ∷ T x)) → ((xs : List A) → I xs → E xs sep ≡ false → (x : A) → L x → I (xs ++ x ∷ [])) →
    ((xs : List A) (x : A) (s : Symbol) → X x s ≡ false → E (xs ++ x ∷ []) s ≡ false) →
    Sound W I (λ ys. or_taken f (E ys)) none here (list_of f r)
unfolding list_of
sound_list {A = A} {O = O} W I E sep T L X {f = f} {r = r} item is w₁ l₁ a₁ w l a =
    sound_bind item (λ x k. sound_front (λ q. W (x ∷ []) ++ q) (λ q. ap (λ y. y ++ q) (w₁ x))
    (smaller x (sound_many_onto W I E (λ y. sep ∷ T y) L X f (λ o. r) each w
    (λ xs i s o b e. l xs i (subst (λ z. E xs z ≡ false) (is s o e) b)) a (x ∷ []) (l₁ x k))))
  where
    each : (s : Symbol) (o : O) → f s ≡ Some o → Sound (λ y. sep ∷ T y) L X none (λ k. s ∷ k) r
    each s o e = subst (λ z. Sound (λ y. sep ∷ T y) L X none (λ k. z ∷ k) r) (sym (is s o e)) (sound_behind sep item)

    smaller : (x : A) → Sound W I (λ ys. or_taken f (E ys)) (E (x ∷ [])) (λ k. W (x ∷ []) ++ k) (many_onto (x ∷ []) f (λ o. r)) →
        Sound W I (λ ys. or_taken f (E ys)) (X x) (λ k. W (x ∷ []) ++ k) (many_onto (x ∷ []) f (λ o. r))
    smaller x h = record { goes = h.goes; reads = λ ss b. h.reads ss (apart_less (X x) (E (x ∷ [])) (a₁ x) ss b) }

-- Lists with an optional last separator. V writes such a list and whether that last one stands.
module _ {A O : Type 0} (W : List A → List Symbol) (V : List A × Bool → List Symbol) (I : List A → Type 0) (sep : Symbol) (T : A →
    List Symbol) (L : A → Type 0) {X : A → Symbol → Bool}
    (f : Symbol → Option O) (p : Symbol → Bool) (r : Reader A)
    (item : Sound T L X none here r) (is : (s : Symbol) (o : O) → f s ≡ Some o → s ≡ sep)
    (plain : (xs : List A) → V (xs, false) ≡ W xs) (ended : (xs : List A) → V (xs, true) ≡ W xs ++ (sep ∷ []))
    (w : (xs : List A) → I xs → (x : A) → W (xs ++ x ∷ []) ≡ W xs ++ (sep ∷ T x))
    (l : (xs : List A) → I xs → (x : A) → L x → I (xs ++ x ∷ [])) where
  Turned : List A → ℕ → List Symbol → Type 0
  Turned xs n ss = When (end_turns n xs f p r ss) (Took V (λ q. I q.0) (λ q. none) (λ k. W xs ++ k) ss) (Halts V (λ q. I q.0) (λ k. W xs ++ k) ss)

  stays : (xs : List A) → I xs → (ss : List Symbol) → Took V (λ q. I q.0) (λ q. none) (λ k. W xs ++ k) ss (xs, false) ss
  stays xs i ss = record { read = []; splits = refl; writes = plain xs ∙ sym (append-nil (W xs)); lawful = i; apart = apart_none ss }

  stops_behind : (xs : List A) → I xs → (ss : List Symbol) → Took V (λ q. I q.0) (λ q. none) (λ k. W xs ++ k) (sep ∷ ss) (xs, true) ss
  stops_behind xs i ss = record { read = sep ∷ []; splits = refl; writes = ended xs; lawful = i; apart = apart_none ss }

  end_read_on : (n : ℕ) (xs : List A) → I xs → (ss : List Symbol) → length (sep ∷ ss) ≤ suc n → (c : Outcome A) →
      When c (Took T L X here ss) (Halts T L here ss) →
      ((x : A) → I (xs ++ x ∷ []) → (rest : List Symbol) → length rest ≤ n → Turned (xs ++ x ∷ []) n rest) →
      When (then_read c (λ x. end_turns n (xs ++ x ∷ []) f p r)) (Took V (λ q. I q.0) (λ q. none) (λ k. W xs ++ k) (sep ∷ ss))
      (Halts V (λ q. I q.0) (λ k. W xs ++ k) (sep ∷ ss))
  unfolding Turned
  end_read_on n xs i ss h (Ok q) v more =
      joined V (λ z. I z.0) (λ z. none) (λ k. W xs ++ k) (sep ∷ T q.0) (sep ∷ v.read) (sep ∷ ss) q.1 (end_turns n (xs ++ q.0 ∷ []) f p r q.1)
      (ap (λ z. sep ∷ z) v.writes) (ap (λ k. sep ∷ k) v.splits)
      (same_front V (λ z. I z.0) (λ z. none) (λ k. W (xs ++ q.0 ∷ []) ++ k) (λ k. W xs ++ ((sep ∷ T q.0) ++ k)) (λ k. ap (λ z. z ++ k) (w xs i q.0) ∙
      append_assoc (W xs) (sep ∷ T q.0) k) q.1 (end_turns n (xs ++ q.0 ∷ []) f p r q.1)
      (more q.0 (l xs i q.0 v.lawful) q.1 (fewer ss v.read q.1 sep n v.splits h)))
  end_read_on n xs i ss h (Err e) v more =
      wrapped (λ x. sep ∷ T x) L V (λ z. I z.0) (λ k. W xs ++ k) (sep ∷ ss)
      (λ x k. record {
        whole = (xs ++ x ∷ [], false);
        more = [];
        lawful = l xs i x k;
        writes = plain (xs ++ x ∷ []) ∙ w xs i x ∙
            ap (λ z. W xs ++ z) (sym (append-nil (sep ∷ T x)));
      }) e
      (behind_symbol (λ x. sep ∷ T x) L X here sep ss (Err e) (front e v))
    where
      front : (e' : Halt) → Halts T L here ss e' → Halts (λ x. sep ∷ T x) L (λ k. sep ∷ k) ss e'
      front (bad m) u = record {
        read = u.read;
        left = u.left;
        splits = u.splits;
        count = u.count;
        goes = record {
          whole = u.goes.whole;
          more = u.goes.more;
          lawful = u.goes.lawful;
          writes = ap (λ z. sep ∷ z) u.goes.writes;
        };
      }
      front (deep m) u = record {
        read = u.read;
        last = u.last;
        left = u.left;
        splits = u.splits;
        count = u.count;
        goes =
            record { whole = u.goes.whole; more = u.goes.more; lawful = u.goes.lawful; writes = ap (λ z. sep ∷ z) u.goes.writes };
      }

  end_all : (n : ℕ) (xs : List A) → I xs → (ss : List Symbol) → length ss ≤ n → Turned xs n ss
  unfolding Turned end_turns branch choose bind pure
  end_all zero xs i [] h = stays xs i []
  end_all zero xs i (s ∷ ss) h = absurd (omega (arith, h))
  end_all (suc n) xs i [] h = stays xs i []
  end_all (suc n) xs i (s ∷ ss) h = at (λ x j rest q. end_all n (xs ++ x ∷ []) j rest q) (f s) refl
    where
      next : ((x : A) → I (xs ++ x ∷ []) → (rest : List Symbol) → length rest ≤ n → Turned (xs ++ x ∷ []) n rest) → (us : List Symbol) → us ≡ ss →
          When (choose p (pure (xs, true)) (bind r (λ x. end_turns n (xs ++ x ∷ []) f p r)) us) (Took V (λ q. I q.0) (λ q. none) (λ k. W xs ++ k) (sep ∷ us))
          (Halts V (λ q. I q.0) (λ k. W xs ++ k) (sep ∷ us))
      next m [] e = end_read_on n xs i [] (subst (λ z. suc (length z) ≤ suc n) (sym e) h) (r []) (item.reads [] tt) m
      next m (u ∷ us) e = which (p u) refl
        where
          which : (b : Bool) → p u ≡ b → When (choose_at b (pure (xs, true)) (bind r (λ x. end_turns n (xs ++ x ∷ []) f p r)) (u ∷ us))
              (Took V (λ q. I q.0) (λ q. none) (λ k. W xs ++ k) (sep ∷ (u ∷ us))) (Halts V (λ q. I q.0) (λ k. W xs ++ k) (sep ∷ (u ∷ us)))
          which true k = stops_behind xs i (u ∷ us)
          which false k = end_read_on n xs i (u ∷ us) (subst (λ z. suc (length z) ≤ suc n) (sym e) h) (r (u ∷ us)) (item.reads (u ∷ us) refl) m

      at : ((x : A) → I (xs ++ x ∷ []) → (rest : List Symbol) → length rest ≤ n → Turned (xs ++ x ∷ []) n rest) → (o : Option O) → f s ≡ o →
          When (branch_at o (λ o'. choose p (pure (xs, true)) (bind r (λ x. end_turns n (xs ++ x ∷ []) f p r))) (pure (xs, false)) s ss)
          (Took V (λ q. I q.0) (λ q. none) (λ k. W xs ++ k) (s ∷ ss)) (Halts V (λ q. I q.0) (λ k. W xs ++ k) (s ∷ ss))
      at m (Some o) e = subst (λ z. When (choose p (pure (xs, true)) (bind r (λ x. end_turns n (xs ++ x ∷ []) f p r)) ss)
          (Took V (λ q. I q.0) (λ q. none) (λ k. W xs ++ k) (z ∷ ss)) (Halts V (λ q. I q.0) (λ k. W xs ++ k) (z ∷ ss))) (sym (is s o e)) (next m ss refl)
      at m None e = stays xs i (s ∷ ss)

  pub sound_list_end : ((x : A) → W (x ∷ []) ≡ T x) → ((x : A) → L x → I (x ∷ [])) → Sound V (λ q. I q.0) (λ q. none) none here (list_end f p r)
  unfolding list_end end_onto Turned
  sound_list_end w₁ l₁ = sound_bind item (λ x k. sound_front (λ q. W (x ∷ []) ++ q) (λ q. ap (λ y. y ++ q) (w₁ x)) (record {
    goes = record { whole = (x ∷ [], false); more = []; lawful = l₁ x k; writes = plain (x ∷ []) ∙ sym (append-nil (W (x ∷ []))) };
    reads = λ ss b. end_all (length ss) (x ∷ []) (l₁ x k) ss (omega arith);
  }))

-- The loops at lists of their own kinds.
-- none or more items
pub sound_each : {A O : Type 0} {U : A → List Symbol} {L : A → Type 0} {X : A → Symbol → Bool} {f : Symbol → Option O} {g : O → Reader A} →
    ((s : Symbol) (o : O) → f s ≡ Some o → Sound U L X none (λ k. s ∷ k) (g o)) →
    Sound (flat U) (Each L) (λ ys s. behind_last X ys s || is_some (f s)) none here (many f g)
sound_each {U = U} {L = L} {X = X} {f = f} {g = g} item =
    sound_many (flat U) (Each L) (behind_last X) U L X f g item (λ xs i x. flat-snoc U xs x) (λ xs i s o b e x l. each-snoc L xs x i l)
    (λ xs x s b. behind_last-snoc X xs x s ∙ b) tt refl (λ s. refl)

-- one or more items, each behind a symbol
abbrev pub Filled : {A : Type 0} → (A → Type 0) → List A → Type 0
Filled L [] = ⊥
Filled L (x ∷ xs) = L x × Each L xs

pub filled-snoc : {A : Type 0} (L : A → Type 0) (xs : List A) (x : A) → Filled L xs → L x → Filled L (xs ++ x ∷ [])
filled-snoc L [] x h l = absurd h
filled-snoc L (y ∷ xs) x h l = (h.0, each-snoc L xs x h.1 l)

pub sound_some_each : {A O : Type 0} {U : A → List Symbol} {L : A → Type 0} {X : A → Symbol → Bool} {f : Symbol → Option O} {g : O → Reader A} →
    ((s : Symbol) (o : O) → f s ≡ Some o → Sound U L X none (λ k. s ∷ k) (g o)) → (x : A) → L x →
    Sound (flat U) (Filled L) (λ ys s. behind_last X ys s || is_some (f s)) none here (some_of f g)
sound_some_each {U = U} {L = L} {X = X} {f = f} {g = g} item x₀ l₀ =
    sound_some (flat U) (Filled L) (behind_last X) U L X f g item (λ xs i x. flat-snoc U xs x) (λ xs i s o b e x l. filled-snoc L xs x i l)
    (λ xs x s b. behind_last-snoc X xs x s ∙ b) (λ x. append-nil (U x)) (λ x l. (l, tt)) (λ x s b. b)
    (record { whole = x₀ ∷ []; more = U x₀ ++ []; lawful = (l₀, tt); writes = refl })

-- one or more items with a separator
pub sound_separated : {A O : Type 0} (sep : Symbol) {T : A → List Symbol} {L : A → Type 0} {X : A → Symbol → Bool} (f : Symbol → Option O) {r : Reader A} →
    Sound T L X none here r → ((s : Symbol) (o : O) → f s ≡ Some o → s ≡ sep) →
    Sound (separated sep T) (Chain sep X L) (λ ys s. behind_last X ys s || is_some (f s)) none here (list_of f r)
sound_separated sep {T = T} {L = L} {X = X} f item is =
    sound_list (separated sep T) (Chain sep X L) (behind_last X) sep T L X item is (λ x. append-nil (T x)) (λ x l. l) (λ x s b. b)
    (λ xs i x. separated-snoc sep T X L xs i x) (λ xs i b x l. chain-snoc sep X L xs x i b l) (λ xs x s b. behind_last-snoc X xs x s ∙ b)

-- the same with an optional last separator
abbrev pub last_of : Symbol → Bool → List Symbol
last_of sep false = []
last_of sep true = sep ∷ []

pub sound_ended : {A O : Type 0} (sep : Symbol) {T : A → List Symbol} {L : A → Type 0} {X : A → Symbol → Bool} (f : Symbol →
    Option O) (p : Symbol → Bool) {r : Reader A} →
    Sound T L X none here r → ((s : Symbol) (o : O) → f s ≡ Some o → s ≡ sep) →
    Sound (λ q. separated sep T q.0 ++ last_of sep q.1) (λ q. Filled L q.0) (λ q. none) none here (list_end f p r)
sound_ended {A = A} sep {T = T} {L = L} {X = X} f p {r = r} item is =
    sound_list_end (separated sep T) (λ q. separated sep T q.0 ++ last_of sep q.1) (Filled L) sep T L f p r item is (λ xs. append-nil (separated sep T xs))
    (λ xs. refl) w (λ xs i x l. filled-snoc L xs x i l) (λ x. append-nil (T x)) (λ x l. (l, tt))
  where
    w : (xs : List A) → Filled L xs → (x : A) → separated sep T (xs ++ x ∷ []) ≡ separated sep T xs ++ (sep ∷ T x)
    w [] h x = absurd h
    w (y ∷ ys) h x = ap (λ z. T y ++ z) (flat-snoc (λ y'. sep ∷ T y') ys x) ∙ sym (append_assoc (T y) (flat (λ y'. sep ∷ T y') ys) (sep ∷ T x))

-- Items as long as one begins.
module _ {A : Type 0} (T : A → List Symbol) (L : A → Type 0) {X : A → Symbol → Bool} (p : Symbol → Bool) (r : Reader A) (item : Sound T L X none here r)
    (some : (x : A) → L x → 1 ≤ length (T x)) where
  while_done : (xs : List A) → Each L xs → (ss : List Symbol) → Took (flat T) (Each L) (λ ys. none) (λ k. flat T xs ++ k) ss xs ss
  while_done xs i ss = record { read = []; splits = refl; writes = sym (append-nil (flat T xs)); lawful = i; apart = apart_none ss }

  while_all : (n : ℕ) (xs : List A) → Each L xs → (ss : List Symbol) → length ss ≤ n →
      When (while_turns n xs p r ss) (Took (flat T) (Each L) (λ ys. none) (λ k. flat T xs ++ k) ss) (Halts (flat T) (Each L) (λ k. flat T xs ++ k) ss)
  unfolding while_turns choose bind pure
  while_all zero xs i [] h = while_done xs i []
  while_all zero xs i (s ∷ ss) h = absurd (omega (arith, h))
  while_all (suc n) xs i [] h = while_done xs i []
  while_all (suc n) xs i (s ∷ ss) h = at (λ x j rest q. while_all n (xs ++ x ∷ []) j rest q) (p s)
    where
      read_on : (c : Outcome A) → When c (Took T L X here (s ∷ ss)) (Halts T L here (s ∷ ss)) →
          ((x : A) → Each L (xs ++ x ∷ []) → (rest : List Symbol) → length rest ≤ n →
          When (while_turns n (xs ++ x ∷ []) p r rest) (Took (flat T) (Each L) (λ ys. none) (λ k. flat T (xs ++ x ∷ []) ++ k) rest)
          (Halts (flat T) (Each L) (λ k. flat T (xs ++ x ∷ []) ++ k) rest)) →
          When (then_read c (λ x. while_turns n (xs ++ x ∷ []) p r)) (Took (flat T) (Each L) (λ ys. none) (λ k. flat T xs ++ k) (s ∷ ss))
          (Halts (flat T) (Each L) (λ k. flat T xs ++ k) (s ∷ ss))
      read_on (Ok q) v more =
          let long : 1 ≤ length v.read = subst (λ z. 1 ≤ length z) v.writes (some q.0 v.lawful) in
          let count : length (s ∷ ss) ≡ length v.read + length q.1 = ap length v.splits ∙ length-append v.read q.1 in
          joined (flat T) (Each L) (λ ys. none) (λ k. flat T xs ++ k) (T q.0) v.read (s ∷ ss) q.1 (while_turns n (xs ++ q.0 ∷ []) p r q.1) v.writes v.splits
          (same_front (flat T) (Each L) (λ ys. none) (λ k. flat T (xs ++ q.0 ∷ []) ++ k) (λ k. flat T xs ++ (T q.0 ++ k))
          (λ k. ap (λ z. z ++ k) (flat-snoc T xs q.0) ∙ append_assoc (flat T xs) (T q.0) k) q.1 (while_turns n (xs ++ q.0 ∷ []) p r q.1)
          (more q.0 (each-snoc L xs q.0 i v.lawful) q.1 (omega (arith, long, count, h))))
      read_on (Err e) v more =
          wrapped T L (flat T) (Each L) (λ k. flat T xs ++ k) (s ∷ ss) (λ x k. record {
            whole = xs ++ x ∷ [];
            more = [];
            lawful = each-snoc L xs x i k;
            writes =
                flat-snoc T xs x ∙ ap (λ q. flat T xs ++ q) (sym (append-nil (T x)));
          }) e v

      at : ((x : A) → Each L (xs ++ x ∷ []) → (rest : List Symbol) → length rest ≤ n →
          When (while_turns n (xs ++ x ∷ []) p r rest) (Took (flat T) (Each L) (λ ys. none) (λ k. flat T (xs ++ x ∷ []) ++ k) rest)
          (Halts (flat T) (Each L) (λ k. flat T (xs ++ x ∷ []) ++ k) rest)) →
          (b : Bool) → When (choose_at b (bind r (λ x. while_turns n (xs ++ x ∷ []) p r)) (pure xs) (s ∷ ss))
          (Took (flat T) (Each L) (λ ys. none) (λ k. flat T xs ++ k) (s ∷ ss)) (Halts (flat T) (Each L) (λ k. flat T xs ++ k) (s ∷ ss))
      at m true = read_on (r (s ∷ ss)) (item.reads (s ∷ ss) refl) m
      at m false = while_done xs i (s ∷ ss)

  pub sound_many_while : Sound (flat T) (Each L) (λ ys. none) none here (many_while p r)
  unfolding many_while while_onto
  sound_many_while = record {
    goes = record { whole = []; more = []; lawful = tt; writes = refl };
    reads = λ ss b. while_all (length ss) [] tt ss (omega arith);
  }
