-- What is read is lawful and writes the symbols that were taken; where a reading halts, the symbols so far begin
-- something lawful. Both are one fact on a reader, which goes through the combinators.
use Rattle.std.proofs.Common.{◌≡◌, ℕ, suc, List, [], ◌∷◌, ◌++◌, length, Bool, true, false, Option, Some, None, Ok, Err, refl, sym, ap, ◌∙◌, append_assoc}
use Rattle.std.proofs.Common.{is_some}
use Rattle.pfc_tree.specs.Symbols.{Symbol}
use Rattle.pfc_grammar.specs.Reading.{Halt, bad, deep, Outcome, Reader, pure, then_read, bind, stop, stop_deep, branch_at, branch, choose_at, choose}
use Rattle.pfc_grammar.proofs.Lists.{Apart, none, or_taken, or-both, apart_none, apart_less}

-- q holds of the value and the rest, and f of the halt
abbrev pub When : {A : Type 0} → Outcome A → (A → List Symbol → Type 0) → (Halt → Type 0) → Type 0
When (Ok p) q f = q p.0 p.1
When (Err h) q f = f h

-- The shape: T writes a value, L says that it is lawful, and F is what is to be written given what is still to come.
-- something lawful begins with what stands so far
pub record Goes {A : Type 0} (T : A → List Symbol) (L : A → Type 0) (F : List Symbol → List Symbol) : Type 0 where
  pub whole : A
  pub more : List Symbol
  pub lawful : L whole
  pub writes : T whole ≡ F more

-- the value is lawful and writes what was taken, and no symbol of the set X v follows
pub record Took {A : Type 0} (T : A → List Symbol) (L : A → Type 0) (X : A → Symbol → Bool) (F : List Symbol → List Symbol) (ss : List Symbol)
    (v : A) (rest : List Symbol) : Type 0 where
  pub read : List Symbol
  pub splits : ss ≡ read ++ rest
  pub writes : T v ≡ F read
  pub lawful : L v
  pub apart : Apart (X v) rest

-- what stands before the halt begins something lawful
pub record HaltsAt {A : Type 0} (T : A → List Symbol) (L : A → Type 0) (F : List Symbol → List Symbol) (ss : List Symbol) (n : ℕ) : Type 0 where
  pub read : List Symbol
  pub left : List Symbol
  pub splits : ss ≡ read ++ left
  pub count : length left ≡ n
  pub goes : Goes T L (λ k. F (read ++ k))

-- what stands up to and with the halt begins something lawful
pub record HaltsBehind {A : Type 0} (T : A → List Symbol) (L : A → Type 0) (F : List Symbol → List Symbol) (ss : List Symbol) (n : ℕ) : Type 0 where
  pub read : List Symbol
  pub last : Symbol
  pub left : List Symbol
  pub splits : ss ≡ read ++ (last ∷ left)
  pub count : suc (length left) ≡ n
  pub goes : Goes T L (λ k. F (read ++ (last ∷ k)))

abbrev pub Halts : {A : Type 0} (T : A → List Symbol) (L : A → Type 0) (F : List Symbol → List Symbol) (ss : List Symbol) → Halt → Type 0
Halts T L F ss (bad n) = HaltsAt T L F ss n
Halts T L F ss (deep n) = HaltsBehind T L F ss n

-- the reader k, after what F has and where no symbol of t stands, reads on to something lawful
pub record Sound {A : Type 0} (T : A → List Symbol) (L : A → Type 0) (X : A → Symbol → Bool) (t : Symbol → Bool) (F : List Symbol →
    List Symbol) (k : Reader A) : Type 0 where
  pub goes : Goes T L F
  pub reads : (ss : List Symbol) → Apart t ss → When (k ss) (Took T L X F ss) (Halts T L F ss)

abbrev pub here : List Symbol → List Symbol
here k = k

pub sound_pure : {A : Type 0} {T : A → List Symbol} {L : A → Type 0} {X : A → Symbol → Bool} {t : Symbol → Bool} {F : List Symbol → List Symbol} (v : A) →
    T v ≡ F [] → L v → ((s : Symbol) → t s ≡ false → X v s ≡ false) → Sound T L X t F (pure v)
unfolding pure
sound_pure {T = T} {X = X} {t = t} v w l x = record {
  goes = record { whole = v; more = []; lawful = l; writes = w };
  reads = λ ss a. record { read = []; splits = refl; writes = w; lawful = l; apart = apart_less t (X v) x ss a };
}

pub sound_stop : {A : Type 0} {T : A → List Symbol} {L : A → Type 0} {X : A → Symbol → Bool} {t : Symbol → Bool} {F : List Symbol → List Symbol} →
    Goes T L F → Sound T L X t F stop
unfolding stop
sound_stop g = record {
  goes = g;
  reads = λ ss a. record { read = []; left = ss; splits = refl; count = refl; goes = g };
}

-- what is known without a set is known with one
pub sound_any : {A : Type 0} {T : A → List Symbol} {L : A → Type 0} {X : A → Symbol → Bool} (t : Symbol → Bool) {F : List Symbol → List Symbol} {k : Reader A} →
    Sound T L X none F k → Sound T L X t F k
sound_any t h = record { goes = h.goes; reads = λ ss a. h.reads ss (apart_none ss) }

-- a smaller set after the value will do
pub sound_less : {A : Type 0} {T : A → List Symbol} {L L' : A → Type 0} {X X' : A → Symbol → Bool} {t : Symbol →
    Bool} {F : List Symbol → List Symbol} {k : Reader A} →
    ((x : A) → L x → L' x) → ((x : A) (s : Symbol) → X x s ≡ false → X' x s ≡ false) → Sound T L X t F k → Sound T L' X' t F k
sound_less {A = A} {T = T} {L = L} {L' = L'} {X = X} {X' = X'} {F = F} {k = k} hl hx h = record {
  goes = less_goes F h.goes;
  reads = λ ss a. less ss (k ss) (h.reads ss a);
}
  where
    less_goes : (G : List Symbol → List Symbol) → Goes T L G → Goes T L' G
    less_goes G g = record { whole = g.whole; more = g.more; lawful = hl g.whole g.lawful; writes = g.writes }

    less_halts : (ss : List Symbol) (e : Halt) → Halts T L F ss e → Halts T L' F ss e
    less_halts ss (bad n) w = record { read = w.read; left = w.left; splits = w.splits; count = w.count; goes = less_goes (λ m. F (w.read ++ m)) w.goes }
    less_halts ss (deep n) w = record {
      read = w.read;
      last = w.last;
      left = w.left;
      splits = w.splits;
      count = w.count;
      goes =
          less_goes (λ m. F (w.read ++ (w.last ∷ m))) w.goes;
    }

    less : (ss : List Symbol) (o : Outcome A) → When o (Took T L X F ss) (Halts T L F ss) → When o (Took T L' X' F ss) (Halts T L' F ss)
    less ss (Ok p) w = record {
      read = w.read;
      splits = w.splits;
      writes = w.writes;
      lawful = hl p.0 w.lawful;
      apart =
          apart_less (X p.0) (X' p.0) (hx p.0) p.1 w.apart;
    }
    less ss (Err e) w = less_halts ss e w

-- Joining what two readers took, one after the other: the first took u, which writes y.
joined_goes : {B : Type 0} {T : B → List Symbol} {L : B → Type 0} (F : List Symbol → List Symbol) (y u v : List Symbol) → y ≡ u →
    Goes T L (λ k. F (y ++ (v ++ k))) → Goes T L (λ k. F ((u ++ v) ++ k))
joined_goes F y u v e g = record {
  whole = g.whole;
  more = g.more;
  lawful = g.lawful;
  writes = g.writes ∙ ap (λ a. F (a ++ (v ++ g.more))) e ∙ ap F (sym (append_assoc u v g.more));
}

joined_split : (ss u rest v rest' : List Symbol) → ss ≡ u ++ rest → rest ≡ v ++ rest' → ss ≡ (u ++ v) ++ rest'
joined_split ss u rest v rest' e e' = e ∙ ap (λ a. u ++ a) e' ∙ sym (append_assoc u v rest')

pub joined : {B : Type 0} (T : B → List Symbol) (L : B → Type 0) (X : B → Symbol → Bool) (F : List Symbol → List Symbol) (y u ss rest : List Symbol)
    (o : Outcome B) → y ≡ u → ss ≡ u ++ rest →
    When o (Took T L X (λ k. F (y ++ k)) rest) (Halts T L (λ k. F (y ++ k)) rest) → When o (Took T L X F ss) (Halts T L F ss)
joined T L X F y u ss rest (Ok p) e split w = record {
  read = u ++ w.read;
  splits = joined_split ss u rest w.read p.1 split w.splits;
  writes = w.writes ∙ ap (λ a. F (a ++ w.read)) e;
  lawful = w.lawful;
  apart = w.apart;
}
joined T L X F y u ss rest (Err (bad n)) e split w = record {
  read = u ++ w.read;
  left = w.left;
  splits = joined_split ss u rest w.read w.left split w.splits;
  count = w.count;
  goes = joined_goes F y u w.read e w.goes;
}
joined T L X F y u ss rest (Err (deep n)) e split w = record {
  read = u ++ w.read;
  last = w.last;
  left = w.left;
  splits = joined_split ss u rest w.read (w.last ∷ w.left) split w.splits;
  count = w.count;
  goes = record {
    whole = w.goes.whole;
    more = w.goes.more;
    lawful = w.goes.lawful;
    writes = w.goes.writes ∙ ap (λ a. F (a ++ (w.read ++ (w.last ∷ w.goes.more)))) e ∙ ap F (sym (append_assoc u w.read (w.last ∷ w.goes.more)));
  };
}

-- a part that halts is completed, and then the whole
pub wrapped : {A B : Type 0} (T' : A → List Symbol) (L' : A → Type 0) (T : B → List Symbol) (L : B →
    Type 0) (F : List Symbol → List Symbol) (ss : List Symbol) →
    ((x : A) → L' x → Goes T L (λ k. F (T' x ++ k))) → (h : Halt) → Halts T' L' (λ k. k) ss h → Halts T L F ss h
wrapped T' L' T L F ss after (bad n) w = record {
  read = w.read;
  left = w.left;
  splits = w.splits;
  count = w.count;
  goes = wrap (after w.goes.whole w.goes.lawful);
}
  where
    wrap : Goes T L (λ k. F (T' w.goes.whole ++ k)) → Goes T L (λ k. F (w.read ++ k))
    wrap g = record {
      whole = g.whole;
      more = w.goes.more ++ g.more;
      lawful = g.lawful;
      writes = g.writes ∙ ap (λ a. F (a ++ g.more)) w.goes.writes ∙ ap F (append_assoc w.read w.goes.more g.more);
    }
wrapped T' L' T L F ss after (deep n) w = record {
  read = w.read;
  last = w.last;
  left = w.left;
  splits = w.splits;
  count = w.count;
  goes = wrap (after w.goes.whole w.goes.lawful);
}
  where
    wrap : Goes T L (λ k. F (T' w.goes.whole ++ k)) → Goes T L (λ k. F (w.read ++ (w.last ∷ k)))
    wrap g = record {
      whole = g.whole;
      more = w.goes.more ++ g.more;
      lawful = g.lawful;
      writes = g.writes ∙ ap (λ a. F (a ++ g.more)) w.goes.writes ∙ ap F (append_assoc w.read (w.last ∷ w.goes.more) g.more);
    }

-- one reader after the other, where the first begins with no symbol of t
pub sound_bind_at : {A B : Type 0} {T' : A → List Symbol} {L' : A → Type 0} {X' : A → Symbol → Bool} {T : B → List Symbol} {L : B → Type 0} {X : B → Symbol →
    Bool} {t : Symbol → Bool} {F : List Symbol → List Symbol} {r : Reader A} {g : A → Reader B} →
    Sound T' L' X' t here r → ((x : A) → L' x → Sound T L X (X' x) (λ k. F (T' x ++ k)) (g x)) → Sound T L X t F (bind r g)
unfolding bind
sound_bind_at {A = A} {T' = T'} {L' = L'} {X' = X'} {T = T} {L = L} {X = X} {F = F} {r = r} {g = g} h after = record {
  goes = start h.goes;
  reads = λ ss a. go ss (r ss) (h.reads ss a);
}
  where
    start_of : (x : A) → Goes T L (λ k. F (T' x ++ k)) → Goes T L F
    start_of x w = record { whole = w.whole; more = T' x ++ w.more; lawful = w.lawful; writes = w.writes }

    start : Goes T' L' here → Goes T L F
    start w = start_of w.whole (after w.whole w.lawful).goes

    go : (ss : List Symbol) (o : Outcome A) → When o (Took T' L' X' here ss) (Halts T' L' here ss) → When (then_read o g) (Took T L X F ss) (Halts T L F ss)
    go ss (Ok p) w = joined T L X F (T' p.0) w.read ss p.1 (g p.0 p.1) w.writes w.splits ((after p.0 w.lawful).reads p.1 w.apart)
    go ss (Err e) w = wrapped T' L' T L F ss (λ x l. (after x l).goes) e w

-- one reader after the other
pub sound_bind : {A B : Type 0} {T' : A → List Symbol} {L' : A → Type 0} {X' : A → Symbol → Bool} {T : B → List Symbol} {L : B → Type 0} {X : B → Symbol →
    Bool} {t : Symbol → Bool} {F : List Symbol → List Symbol} {r : Reader A} {g : A → Reader B} →
    Sound T' L' X' none here r → ((x : A) → L' x → Sound T L X (X' x) (λ k. F (T' x ++ k)) (g x)) → Sound T L X t F (bind r g)
sound_bind {t = t} h after = sound_bind_at (sound_any t h) after

-- one reader, and then a value made of what it read
pub sound_last : {A B : Type 0} {T' : A → List Symbol} {L' : A → Type 0} {X' : A → Symbol → Bool} {T : B → List Symbol} {L : B → Type 0} {X : B → Symbol →
    Bool} {t : Symbol → Bool} {F : List Symbol → List Symbol} {r : Reader A} (m : A → B) →
    Sound T' L' X' none here r → ((x : A) → L' x → T (m x) ≡ F (T' x)) → ((x : A) → L' x → L (m x)) →
    ((x : A) → L' x → (s : Symbol) → X' x s ≡ false → X (m x) s ≡ false) →
    Sound T L X t F (bind r (λ x. pure (m x)))
unfolding bind pure
sound_last {A = A} {T' = T'} {L' = L'} {X' = X'} {T = T} {L = L} {X = X} {F = F} {r = r} m h w l x = record {
  goes = record { whole = m h.goes.whole; more = T' h.goes.whole; lawful = l h.goes.whole h.goes.lawful; writes = w h.goes.whole h.goes.lawful };
  reads = λ ss a. go ss (r ss) (h.reads ss (apart_none ss));
}
  where
    ends : (G G' : List Symbol → List Symbol) → ((k : List Symbol) → F (G k) ≡ F (G' k)) → Goes T' L' G → Goes T L (λ k. F (G' k))
    ends G G' e g = record { whole = m g.whole; more = g.more; lawful = l g.whole g.lawful; writes = w g.whole g.lawful ∙ ap F g.writes ∙ e g.more }

    halts : (ss : List Symbol) (e : Halt) → Halts T' L' here ss e → Halts T L F ss e
    halts ss (bad n) v = record {
      read = v.read;
      left = v.left;
      splits = v.splits;
      count = v.count;
      goes =
          ends (λ k. v.read ++ k) (λ k. v.read ++ k) (λ k. refl) v.goes;
    }
    halts ss (deep n) v = record {
      read = v.read;
      last = v.last;
      left = v.left;
      splits = v.splits;
      count = v.count;
      goes =
          ends (λ k. v.read ++ (v.last ∷ k)) (λ k. v.read ++ (v.last ∷ k)) (λ k. refl) v.goes;
    }

    go : (ss : List Symbol) (o : Outcome A) → When o (Took T' L' X' here ss) (Halts T' L' here ss) →
        When (then_read o (λ y. pure (m y))) (Took T L X F ss) (Halts T L F ss)
    go ss (Ok p) v = record {
      read = v.read;
      splits = v.splits;
      writes = w p.0 v.lawful ∙ ap F v.writes;
      lawful = l p.0 v.lawful;
      apart =
          apart_less (X' p.0) (X (m p.0)) (x p.0 v.lawful) p.1 v.apart;
    }
    go ss (Err e) v = halts ss e v

-- What is read behind a symbol.
pub behind_symbol : {B : Type 0} (T : B → List Symbol) (L : B → Type 0) (X : B → Symbol → Bool) (F : List Symbol →
    List Symbol) (s : Symbol) (ss : List Symbol) (o : Outcome B) →
    When o (Took T L X (λ k. F (s ∷ k)) ss) (Halts T L (λ k. F (s ∷ k)) ss) → When o (Took T L X F (s ∷ ss)) (Halts T L F (s ∷ ss))
behind_symbol T L X F s ss (Ok p) w = record { read = s ∷ w.read; splits = ap (λ a. s ∷ a) w.splits; writes = w.writes; lawful = w.lawful; apart = w.apart }
behind_symbol T L X F s ss (Err (bad n)) w = record { read = s ∷ w.read; left = w.left; splits = ap (λ a. s ∷ a) w.splits; count = w.count; goes = w.goes }
behind_symbol T L X F s ss (Err (deep n)) w = record {
  read = s ∷ w.read;
  last = w.last;
  left = w.left;
  splits =
      ap (λ a. s ∷ a) w.splits;
  count = w.count;
  goes = w.goes;
}

pub sound_branch : {O B : Type 0} {T : B → List Symbol} {L : B → Type 0} {X : B → Symbol → Bool} {t : Symbol → Bool} {F : List Symbol →
    List Symbol} {f : Symbol → Option O} {g : O → Reader B} {r : Reader B} →
    ((s : Symbol) (o : O) → t s ≡ false → f s ≡ Some o → Sound T L X none (λ k. F (s ∷ k)) (g o)) →
    Sound T L X (or_taken f t) F r → Sound T L X t F (branch f g r)
unfolding branch
sound_branch {O = O} {T = T} {L = L} {X = X} {t = t} {F = F} {f = f} {g = g} {r = r} h other = record { goes = other.goes; reads = go }
  where
    at : (s : Symbol) (ss : List Symbol) (o : Option O) → f s ≡ o → t s ≡ false → When (branch_at o g r s ss) (Took T L X F (s ∷ ss)) (Halts T L F (s ∷ ss))
    at s ss (Some o) e a = behind_symbol T L X F s ss (g o ss) ((h s o a e).reads ss (apart_none ss))
    at s ss None e a = other.reads (s ∷ ss) (or-both (t s) _ a (ap is_some e))

    go : (ss : List Symbol) → Apart t ss → When (branch f g r ss) (Took T L X F ss) (Halts T L F ss)
    go [] a = other.reads [] tt
    go (s ∷ ss) a = at s ss (f s) refl a

-- where the level is the last, each symbol that begins something halts, and it does begin something lawful
pub sound_level : {B : Type 0} {T : B → List Symbol} {L : B → Type 0} {X : B → Symbol → Bool} {p : Symbol → Bool} {r : Reader B} →
    ((s : Symbol) → p s ≡ true → Goes T L (λ k. s ∷ k)) → Sound T L X p here r → Sound T L X none here (choose p stop_deep r)
unfolding choose stop_deep
sound_level {T = T} {L = L} {X = X} {p = p} {r = r} h other = record { goes = other.goes; reads = λ ss a. go ss }
  where
    at : (s : Symbol) (ss : List Symbol) (b : Bool) → p s ≡ b → When (choose_at b stop_deep r (s ∷ ss)) (Took T L X here (s ∷ ss)) (Halts T L here (s ∷ ss))
    at s ss true e = record { read = []; last = s; left = ss; splits = refl; count = refl; goes = h s e }
    at s ss false e = other.reads (s ∷ ss) e

    go : (ss : List Symbol) → When (choose p stop_deep r ss) (Took T L X here ss) (Halts T L here ss)
    go [] = other.reads [] tt
    go (s ∷ ss) = at s ss (p s) refl
