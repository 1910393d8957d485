-- The places that a loop over tokens keeps are those of the tokens that it takes.
use Rattle.std.proofs.Common.{◌≡◌, ℕ, zero, suc, List, [], ◌∷◌, ◌++◌, length, Bool, true, false, Option, Some, None, Ok, Err, refl, sym, ap, subst, ◌∙◌}
use Rattle.std.proofs.Common.{append_assoc, append-nil}
use Rattle.pfc_base.specs.declared.places.Place.{Place}
use Rattle.pfc_base.specs.declared.tokens.Token.{Token}
use Rattle.pfc_tree.specs.Symbols.{Symbol}
use Rattle.pfc_tree.specs.kept.Exprs.{Step, here, next, AreKept}
use Rattle.pfc_tree.specs.kept.Types.{flag_trace}
use Rattle.pfc_grammar.specs.placed.Reading.{Outcome, Reader, pure, then_read, bind, stop, branch_at, branch, choose_at, choose, many_turns, many_onto, many}
use Rattle.pfc_grammar.specs.placed.Reading.{some_of, list_of, end_turns, end_onto, list_end, while_turns, while_onto, many_while}
use Rattle.pfc_grammar.proofs.placed_kept.Readers.{kept_both, Reaches, Leads, Traced, Leading, Keeps, Whole, led}

-- the trace of a list goes through its items by T
pub record Chain {A : Type 0} (T : A → List Step) (P : List A → List Step) : Type 0 where
  pub none : P [] ≡ []
  pub more : (x : A) (xs : List A) → P (x ∷ xs) ≡ T x ++ P xs

-- items, each behind a separator
abbrev pub behind_next : {A : Type 0} → (A → List Step) → List A → List Step
behind_next K [] = []
behind_next K (x ∷ xs) = next ∷ K x ++ behind_next K xs

-- items with separators between them
abbrev pub between_next : {A : Type 0} → (A → List Step) → List A → List Step
between_next K [] = []
between_next K (x ∷ xs) = K x ++ behind_next K xs

-- a trace that goes through the items behind the first, and the token that closes the list
pub closed : {A : Type 0} (K : A → List Step) (C : List A → List Step) → C [] ≡ next ∷ [] → ((x : A) (xs : List A) → C (x ∷ xs) ≡ next ∷ K x ++ C xs) →
    (xs : List A) → behind_next K xs ++ next ∷ [] ≡ C xs
closed K C e h [] = sym e
closed K C e h (x ∷ xs) = ap (λ z. next ∷ z) (append_assoc (K x) (behind_next K xs) (next ∷ []) ∙ ap (λ z. K x ++ z) (closed K C e h xs)) ∙ sym (h x xs)

-- an item has its trace from the token on behind which it is read
pub record Items {O A : Type 0} (T : A → List Step) (g : O × Place → Reader A) : Type 0 where
  pub item : (o : O) (t : Token) (ts : List Token) → Reaches (λ x rest. Traced T x (t ∷ ts) rest) (g (o, t.place) ts)

pub pass_items : {O A : Type 0} {T : A → List Step} {g : O × Place → Reader A} → ((o : O × Place) → Keeps (λ steps. next ∷ steps) (Traced T) (g o)) → Items T g
pass_items h = record { item = λ o t ts. (h (o, t.place)).reaches (t ∷ ts) ts (λ steps rest k. k) }

pub keep_items : {O A : Type 0} {T : A → List Step} {g : O × Place → Reader A} →
    ((o : O × Place) → Keeps (λ steps. here o.1 ∷ next ∷ steps) (Traced T) (g o)) → Items T g
keep_items h = record { item = λ o t ts. (h (o, t.place)).reaches (t ∷ ts) ts (λ steps rest k. (refl, k)) }

-- the items behind a separator
pub separate : {O A : Type 0} {K : A → List Step} {r : Reader A} → Whole K r → Items {O = O} (λ x. next ∷ K x) (λ o. r)
separate {K = K} {r = r} h = record { item = λ o t ts. at t ts (r ts) (h.reaches ts ts (led ts)) }
  where
    at : (t : Token) (ts : List Token) (o : Outcome _) → Reaches (λ x rest. Traced K x ts rest) o →
        Reaches (λ x rest. Traced (λ y. next ∷ K y) x (t ∷ ts) rest) o
    at t ts (Ok p) w = record { kept = w.kept }
    at t ts (Err e) w = tt

-- items were read onto xs
pub record Onto {A : Type 0} (P : List A → List Step) (xs ys : List A) (ts rest : List Token) : Type 0 where
  pub items : List A
  pub joined : ys ≡ xs ++ items
  pub kept : AreKept (P items) ts rest

module _ {A : Type 0} (T : A → List Step) (P : List A → List Step) (ch : Chain T P) where
  no_item : (xs : List A) (ts : List Token) → Onto P xs xs ts ts
  no_item xs ts = record { items = []; joined = sym (append-nil xs); kept = subst (λ z. AreKept z ts ts) (sym ch.none) refl }

  one_more : (x : A) (xs ys : List A) (ts mid rest : List Token) → AreKept (T x) ts mid → Onto P (xs ++ x ∷ []) ys mid rest → Onto P xs ys ts rest
  one_more x xs ys ts mid rest k w = record {
    items = x ∷ w.items;
    joined = w.joined ∙ append_assoc xs (x ∷ []) w.items;
    kept = subst (λ z. AreKept z ts rest) (sym (ch.more x w.items)) (kept_both (T x) (P w.items) ts mid rest k w.kept);
  }

  one_turn : (x : A) (xs : List A) (ts mid : List Token) (o : Outcome (List A)) → AreKept (T x) ts mid →
      Reaches (λ ys rest. Onto P (xs ++ x ∷ []) ys mid rest) o → Reaches (λ ys rest. Onto P xs ys ts rest) o
  one_turn x xs ts mid (Ok p) k w = one_more x xs p.0 ts mid p.1 k w
  one_turn x xs ts mid (Err e) k w = tt

  module _ {O : Type 0} (c : Symbol → Option O) {g : O × Place → Reader A} (h : Items T g) where
    turns : (k : ℕ) (xs : List A) (ts : List Token) → Reaches (λ ys rest. Onto P xs ys ts rest) (many_turns k xs c g ts)
    unfolding many_turns branch bind pure
    turns zero xs ts = no_item xs ts
    turns (suc k) xs [] = no_item xs []
    turns (suc k) xs (t ∷ ts) = at (λ x mid. turns k (xs ++ x ∷ []) mid) (c t.kind)
      where
        item : ((x : A) (mid : List Token) → Reaches (λ ys rest. Onto P (xs ++ x ∷ []) ys mid rest) (many_turns k (xs ++ x ∷ []) c g mid)) → (o : Outcome A) →
            Reaches (λ x rest. Traced T x (t ∷ ts) rest) o →
            Reaches (λ ys rest. Onto P xs ys (t ∷ ts) rest) (then_read o (λ x. many_turns k (xs ++ x ∷ []) c g))
        item more (Ok p) w = one_turn p.0 xs (t ∷ ts) p.1 (many_turns k (xs ++ p.0 ∷ []) c g p.1) w.kept (more p.0 p.1)
        item more (Err e) w = tt

        at : ((x : A) (mid : List Token) → Reaches (λ ys rest. Onto P (xs ++ x ∷ []) ys mid rest) (many_turns k (xs ++ x ∷ []) c g mid)) → (o : Option O) →
            Reaches (λ ys rest. Onto P xs ys (t ∷ ts) rest) (branch_at o (λ o'. bind (g o') (λ x. many_turns k (xs ++ x ∷ []) c g)) (pure xs) t ts)
        at more (Some o) = item more (g (o, t.place) ts) (h.item o t ts)
        at more None = no_item xs (t ∷ ts)

    -- the steps of what is read onto xs
    pub keeps_onto : {F : List Step → List Step} {K : List A → List Step} (xs : List A) →
        ((items : List A) → F (P items) ≡ K (xs ++ items)) → Keeps F (Traced K) (many_onto xs c g)
    unfolding many_onto
    keeps_onto {F = F} {K = K} xs e = record { reaches = λ start ts l. go start ts l (many_turns (length ts) xs c g ts) (turns (length ts) xs ts) }
      where
        go : (start ts : List Token) → Leads F start ts → (o : Outcome (List A)) → Reaches (λ ys rest. Onto P xs ys ts rest) o →
            Reaches (λ ys rest. Traced K ys start rest) o
        go start ts l (Ok p) w = record { kept = subst (λ z. AreKept z start p.1) (e w.items ∙ ap K (sym w.joined)) (l (P w.items) p.1 w.kept) }
        go start ts l (Err q) w = tt

    pub leads_onto : {F : List Step → List Step} {M : List A → List Step → List Step} (xs : List A) →
        ((items : List A) (steps : List Step) → F (P items ++ steps) ≡ M (xs ++ items) steps) → Keeps F (Leading M) (many_onto xs c g)
    unfolding many_onto
    leads_onto {F = F} {M = M} xs e = record { reaches = λ start ts l. go start ts l (many_turns (length ts) xs c g ts) (turns (length ts) xs ts) }
      where
        go : (start ts : List Token) → Leads F start ts → (o : Outcome (List A)) → Reaches (λ ys rest. Onto P xs ys ts rest) o →
            Reaches (λ ys rest. Leading M ys start rest) o
        go start ts l (Ok p) w = record {
          leads = λ steps rest k. subst (λ z. AreKept z start rest) (e w.items steps ∙ ap (λ ys. M ys steps) (sym w.joined))
              (l (P w.items ++ steps) rest (kept_both (P w.items) steps ts p.1 rest w.kept k));
        }
        go start ts l (Err q) w = tt

    pub keeps_many : Whole P (many c g)
    unfolding many
    keeps_many = keeps_onto [] (λ items. refl)

    -- with a token before each item
    pub keeps_some : Whole P (some_of c g)
    unfolding some_of branch bind stop
    keeps_some = record { reaches = go }
      where
        item : (start : List Token) (t : Token) (ts : List Token) → Leads (λ steps. steps) start (t ∷ ts) → (o : Outcome A) →
            Reaches (λ x rest. Traced T x (t ∷ ts) rest) o →
            Reaches (λ ys rest. Traced P ys start rest) (then_read o (λ x. many_onto (x ∷ []) c g))
        item start t ts l (Ok p) w = (keeps_onto {F = λ steps. T p.0 ++ steps} {K = P} (p.0 ∷ []) (λ items. sym (ch.more p.0 items))).reaches start p.1
            (λ steps rest k. l (T p.0 ++ steps) rest (kept_both (T p.0) steps (t ∷ ts) p.1 rest w.kept k))
        item start t ts l (Err e) w = tt

        at : (start : List Token) (t : Token) (ts : List Token) → Leads (λ steps. steps) start (t ∷ ts) → (o : Option O) →
            Reaches (λ ys rest. Traced P ys start rest) (branch_at o (λ o'. bind (g o') (λ x. many_onto (x ∷ []) c g)) stop t ts)
        at start t ts l (Some o) = item start t ts l (g (o, t.place) ts) (h.item o t ts)
        at start t ts l None = tt

        go : (start ts : List Token) → Leads (λ steps. steps) start ts → Reaches (λ ys rest. Traced P ys start rest) (some_of c g ts)
        go start [] l = tt
        go start (t ∷ ts) l = at start t ts l (c t.kind)

-- what the first item and those behind it make
pub record Listed {A : Type 0} (K : A → List Step) (P : List A → List Step) (ys : List A) (ts rest : List Token) : Type 0 where
  pub first : A
  pub others : List A
  pub joined : ys ≡ first ∷ others
  pub kept : AreKept (K first ++ P others) ts rest

module _ {O A : Type 0} (K : A → List Step) (P : List A → List Step) (ch : Chain (λ x. next ∷ K x) P) (c : Symbol →
    Option O) {r : Reader A} (h : Whole K r) where
  listed : (ts : List Token) → Reaches (λ ys rest. Listed K P ys ts rest) (list_of c r ts)
  unfolding list_of many_onto bind
  listed ts = first (r ts) (h.reaches ts ts (led ts))
    where
      behind : (x : A) (mid : List Token) → AreKept (K x) ts mid → (o : Outcome (List A)) → Reaches (λ ys rest. Onto P (x ∷ []) ys mid rest) o →
          Reaches (λ ys rest. Listed K P ys ts rest) o
      behind x mid k (Ok p) w = record { first = x; others = w.items; joined = w.joined; kept = kept_both (K x) (P w.items) ts mid p.1 k w.kept }
      behind x mid k (Err e) w = tt

      first : (o : Outcome A) → Reaches (λ x rest. Traced K x ts rest) o →
          Reaches (λ ys rest. Listed K P ys ts rest) (then_read o (λ x. many_onto (x ∷ []) c (λ o'. r)))
      first (Ok p) w = behind p.0 p.1 w.kept (many_onto (p.0 ∷ []) c (λ o'. r) p.1) (turns (λ x. next ∷ K x) P ch c {g =
          λ o'. r} (separate h) (length p.1) (p.0 ∷ []) p.1)
      first (Err e) w = tt

  -- a list with separators that L traces, which has an item
  pub list_then : {B : Type 0} {F : List Step → List Step} {Q : B → List Token → List Token → Type 0} (k : List A → Reader B) (L : List A → List Step) →
      ((x : A) (xs : List A) → L (x ∷ xs) ≡ K x ++ P xs) →
      ((x : A) (xs : List A) → Keeps (λ steps. F (L (x ∷ xs) ++ steps)) Q (k (x ∷ xs))) → Keeps F Q (bind (list_of c r) k)
  unfolding bind
  list_then {B = B} {F = F} {Q = Q} k L e t = record { reaches = λ start ts l. go start ts l (list_of c r ts) (listed ts) }
    where
      at : (start ts : List Token) → Leads F start ts → (ys : List A) (mid : List Token) (x : A) (xs : List A) → ys ≡ x ∷ xs → AreKept (K x ++ P xs) ts mid →
          Reaches (λ y rest. Q y start rest) (k ys mid)
      at start ts l ys mid x xs j w = subst (λ z. Reaches (λ y rest. Q y start rest) (k z mid)) (sym j)
          ((t x xs).reaches start mid (λ steps rest v. l (L (x ∷ xs) ++ steps) rest (kept_both (L (x ∷ xs)) steps ts mid rest
          (subst (λ z. AreKept z ts mid) (sym (e x xs)) w) v)))

      go : (start ts : List Token) → Leads F start ts → (o : Outcome (List A)) → Reaches (λ ys rest. Listed K P ys ts rest) o →
          Reaches (λ y rest. Q y start rest) (then_read o k)
      go start ts l (Ok p) w = at start ts l p.0 p.1 w.first w.others w.joined w.kept
      go start ts l (Err q) w = tt

  pub keeps_list : (L : List A → List Step) → ((x : A) (xs : List A) → L (x ∷ xs) ≡ K x ++ P xs) → Whole L (list_of c r)
  keeps_list L e = record { reaches = λ start ts l. go start ts l (list_of c r ts) (listed ts) }
    where
      go : (start ts : List Token) → Leads (λ steps. steps) start ts → (o : Outcome (List A)) → Reaches (λ ys rest. Listed K P ys ts rest) o →
          Reaches (λ ys rest. Traced L ys start rest) o
      go start ts l (Ok p) w =
          record { kept = subst (λ z. AreKept z start p.1) (sym (e w.first w.others) ∙ ap L (sym w.joined)) (l (K w.first ++ P w.others) p.1 w.kept) }
      go start ts l (Err q) w = tt

-- items were read onto xs, and perhaps one more separator
pub record OntoEnd {A : Type 0} (P : List A → List Step) (xs : List A) (ys : List A × Bool) (ts rest : List Token) : Type 0 where
  pub items : List A
  pub joined : ys.0 ≡ xs ++ items
  pub kept : AreKept (P items ++ flag_trace ys.1) ts rest

module _ {O A : Type 0} (K : A → List Step) (P : List A → List Step) (ch : Chain (λ x. next ∷ K x) P) (c : Symbol → Option O) (p : Symbol →
    Bool) {r : Reader A} (h : Whole K r) where
  ends_here : (xs : List A) (ts : List Token) → OntoEnd P xs (xs, false) ts ts
  ends_here xs ts = record { items = []; joined = sym (append-nil xs); kept = subst (λ z. AreKept (z ++ []) ts ts) (sym ch.none) refl }

  ends_behind : (xs : List A) (t : Token) (ts : List Token) → OntoEnd P xs (xs, true) (t ∷ ts) ts
  ends_behind xs t ts = record { items = []; joined = sym (append-nil xs); kept = subst (λ z. AreKept (z ++ next ∷ []) (t ∷ ts) ts) (sym ch.none) refl }

  turns_end : (k : ℕ) (xs : List A) (ts : List Token) → Reaches (λ ys rest. OntoEnd P xs ys ts rest) (end_turns k xs c p r ts)
  unfolding end_turns branch bind pure choose
  turns_end zero xs ts = ends_here xs ts
  turns_end (suc k) xs [] = ends_here xs []
  turns_end (suc k) xs (t ∷ ts) = at (λ x mid. turns_end k (xs ++ x ∷ []) mid) (c t.kind)
    where
      one : (x : A) (mid : List Token) → AreKept (K x) ts mid → (o : Outcome (List A × Bool)) → Reaches (λ ys rest. OntoEnd P (xs ++ x ∷ []) ys mid rest) o →
          Reaches (λ ys rest. OntoEnd P xs ys (t ∷ ts) rest) o
      one x mid v (Ok q) w = record {
        items = x ∷ w.items;
        joined = w.joined ∙ append_assoc xs (x ∷ []) w.items;
        kept = subst (λ z. AreKept (z ++ flag_trace q.0.1) (t ∷ ts) q.1) (sym (ch.more x w.items))
            (subst (λ z. AreKept z ts q.1) (sym (append_assoc (K x) (P w.items) (flag_trace q.0.1)))
            (kept_both (K x) (P w.items ++ flag_trace q.0.1) ts mid q.1 v w.kept));
      }
      one x mid v (Err e) w = tt

      item : ((x : A) (mid : List Token) → Reaches (λ ys rest. OntoEnd P (xs ++ x ∷ []) ys mid rest) (end_turns k (xs ++ x ∷ []) c p r mid)) → (o : Outcome A) →
          Reaches (λ x rest. Traced K x ts rest) o →
          Reaches (λ ys rest. OntoEnd P xs ys (t ∷ ts) rest) (then_read o (λ x. end_turns k (xs ++ x ∷ []) c p r))
      item more (Ok q) w = one q.0 q.1 w.kept (end_turns k (xs ++ q.0 ∷ []) c p r q.1) (more q.0 q.1)
      item more (Err e) w = tt

      tests : ((x : A) (mid : List Token) → Reaches (λ ys rest. OntoEnd P (xs ++ x ∷ []) ys mid rest) (end_turns k (xs ++ x ∷ []) c p r mid)) → (b : Bool) →
          Reaches (λ ys rest. OntoEnd P xs ys (t ∷ ts) rest) (choose_at b (pure (xs, true)) (bind r (λ x. end_turns k (xs ++ x ∷ []) c p r)) ts)
      tests more true = ends_behind xs t ts
      tests more false = item more (r ts) (h.reaches ts ts (led ts))

      looks : ((x : A) (mid : List Token) → Reaches (λ ys rest. OntoEnd P (xs ++ x ∷ []) ys mid rest) (end_turns k (xs ++ x ∷ []) c p r mid)) →
          (us : List Token) → us ≡ ts →
          Reaches (λ ys rest. OntoEnd P xs ys (t ∷ ts) rest) (choose p (pure (xs, true)) (bind r (λ x. end_turns k (xs ++ x ∷ []) c p r)) us)
      looks more [] e = subst (λ z. Reaches (λ ys rest. OntoEnd P xs ys (t ∷ ts) rest)
          (choose_at false (pure (xs, true)) (bind r (λ x. end_turns k (xs ++ x ∷ []) c p r)) z)) (sym e) (tests more false)
      looks more (u ∷ us) e =
          subst (λ z. Reaches (λ ys rest. OntoEnd P xs ys (t ∷ ts) rest)
          (choose_at (p u.kind) (pure (xs, true)) (bind r (λ x. end_turns k (xs ++ x ∷ []) c p r)) z)) (sym e) (tests more (p u.kind))

      at : ((x : A) (mid : List Token) → Reaches (λ ys rest. OntoEnd P (xs ++ x ∷ []) ys mid rest) (end_turns k (xs ++ x ∷ []) c p r mid)) → (o : Option O) →
          Reaches (λ ys rest. OntoEnd P xs ys (t ∷ ts) rest)
          (branch_at o (λ o'. choose p (pure (xs, true)) (bind r (λ x. end_turns k (xs ++ x ∷ []) c p r))) (pure (xs, false)) t ts)
      at more (Some o) = looks more ts refl
      at more None = ends_here xs (t ∷ ts)

  -- a list that L traces, and perhaps one more separator
  pub leads_list_end : {F : List Step → List Step} (L : List A → List Step) → ((x : A) (xs : List A) → L (x ∷ xs) ≡ K x ++ P xs) →
      Keeps F (Leading (λ ys steps. F (L ys.0 ++ (flag_trace ys.1 ++ steps)))) (list_end c p r)
  unfolding list_end end_onto bind
  leads_list_end {F = F} L e = record { reaches = λ start ts l. first start ts l (r ts) (h.reaches ts ts (led ts)) }
    where
      traced : (x : A) (ys : List A × Bool) (ts mid rest : List Token) → AreKept (K x) ts mid → OntoEnd P (x ∷ []) ys mid rest →
          AreKept (L ys.0 ++ flag_trace ys.1) ts rest
      traced x ys ts mid rest v w = subst (λ z. AreKept (z ++ flag_trace ys.1) ts rest) (sym (e x w.items) ∙ ap L (sym w.joined))
          (subst (λ z. AreKept z ts rest) (sym (append_assoc (K x) (P w.items) (flag_trace ys.1)))
          (kept_both (K x) (P w.items ++ flag_trace ys.1) ts mid rest v w.kept))

      behind : (start ts : List Token) → Leads F start ts → (x : A) (mid : List Token) → AreKept (K x) ts mid → (o : Outcome (List A × Bool)) →
          Reaches (λ ys rest. OntoEnd P (x ∷ []) ys mid rest) o →
          Reaches (λ ys rest. Leading (λ zs steps. F (L zs.0 ++ (flag_trace zs.1 ++ steps))) ys start rest) o
      behind start ts l x mid v (Ok q) w = record {
        leads = λ steps rest k. l (L q.0.0 ++ (flag_trace q.0.1 ++ steps)) rest
            (subst (λ z. AreKept z ts rest) (append_assoc (L q.0.0) (flag_trace q.0.1) steps)
            (kept_both (L q.0.0 ++ flag_trace q.0.1) steps ts q.1 rest (traced x q.0 ts mid q.1 v w) k));
      }
      behind start ts l x mid v (Err q) w = tt

      first : (start ts : List Token) → Leads F start ts → (o : Outcome A) → Reaches (λ x rest. Traced K x ts rest) o →
          Reaches (λ ys rest. Leading (λ zs steps. F (L zs.0 ++ (flag_trace zs.1 ++ steps))) ys start rest) (then_read o (λ x. end_onto (x ∷ []) c p r))
      first start ts l (Ok q) w = behind start ts l q.0 q.1 w.kept (end_turns (length q.1) (q.0 ∷ []) c p r q.1) (turns_end (length q.1) (q.0 ∷ []) q.1)
      first start ts l (Err q) w = tt

-- Items as long as one begins.
module _ {A : Type 0} (K : A → List Step) (P : List A → List Step) (ch : Chain K P) (p : Symbol → Bool) {r : Reader A} (h : Whole K r) where
  turns_while : (k : ℕ) (xs : List A) (ts : List Token) → Reaches (λ ys rest. Onto P xs ys ts rest) (while_turns k xs p r ts)
  unfolding while_turns bind pure choose
  turns_while zero xs ts = no_item K P ch xs ts
  turns_while (suc k) xs [] = no_item K P ch xs []
  turns_while (suc k) xs (t ∷ ts) = at (λ x mid. turns_while k (xs ++ x ∷ []) mid) (p t.kind)
    where
      item : ((x : A) (mid : List Token) → Reaches (λ ys rest. Onto P (xs ++ x ∷ []) ys mid rest) (while_turns k (xs ++ x ∷ []) p r mid)) → (o : Outcome A) →
          Reaches (λ x rest. Traced K x (t ∷ ts) rest) o →
          Reaches (λ ys rest. Onto P xs ys (t ∷ ts) rest) (then_read o (λ x. while_turns k (xs ++ x ∷ []) p r))
      item more (Ok q) w = one_turn K P ch q.0 xs (t ∷ ts) q.1 (while_turns k (xs ++ q.0 ∷ []) p r q.1) w.kept (more q.0 q.1)
      item more (Err e) w = tt

      at : ((x : A) (mid : List Token) → Reaches (λ ys rest. Onto P (xs ++ x ∷ []) ys mid rest) (while_turns k (xs ++ x ∷ []) p r mid)) → (b : Bool) →
          Reaches (λ ys rest. Onto P xs ys (t ∷ ts) rest) (choose_at b (bind r (λ x. while_turns k (xs ++ x ∷ []) p r)) (pure xs) (t ∷ ts))
      at more true = item more (r (t ∷ ts)) (h.reaches (t ∷ ts) (t ∷ ts) (led (t ∷ ts)))
      at more false = no_item K P ch xs (t ∷ ts)

  pub keeps_while : Whole P (many_while p r)
  unfolding many_while while_onto
  keeps_while = record { reaches = λ start ts l. go start ts l (while_turns (length ts) [] p r ts) (turns_while (length ts) [] ts) }
    where
      go : (start ts : List Token) → Leads (λ steps. steps) start ts → (o : Outcome (List A)) → Reaches (λ ys rest. Onto P [] ys ts rest) o →
          Reaches (λ ys rest. Traced P ys start rest) o
      go start ts l (Ok q) w = record { kept = subst (λ z. AreKept z start q.1) (ap P (sym w.joined)) (l (P w.items) q.1 w.kept) }
      go start ts l (Err e) w = tt
