-- Reading a whole program: what it says of the list of kinds, exactly.
use Rattle.std.proofs.Common.{◌≡◌, ℕ, zero, suc, ◌+◌, ◌-◌, ◌≤◌, ◌<◌, ◌⊎◌, ⊎_elim, inl, inr, List, [], ◌∷◌, ◌++◌, length, take, drop, get_or, Bool, true, false}
use Rattle.std.proofs.Common.{Result, Ok, Err, All, nat_le, refl, sym, ap, subst, ◌∙◌, append_assoc, append-nil, length-append, add-one, arith}
use Rattle.std.proofs.lemmas.Bool.{leb-true, leb-false, le-leb}
use Rattle.std.proofs.lemmas.List.Elements.{All-head, All-cons}
use Rattle.std.proofs.Math.Seq.{get_or-append_seam}
use Rattle.pfc_tree.specs.Symbols.{Symbol}
use Rattle.pfc_tree.specs.shapes.Parts.{ProgramShape}
use Rattle.pfc_tree.specs.tokens.Parts.{tokens_of}
use Rattle.pfc_tree.specs.lawful.Parts.{IsLawful}
use Rattle.pfc_tree.specs.depths.Parts.{depths_of}
use Rattle.pfc_tree.specs.Grammar.{most_depth, Continues, BeginsProgram, up_to, StopsAt, StopsAtEnd, IsUnexpected, IsTooDeep, IsDeep, IsSyntaxFault, unexpected}
use Rattle.pfc_tree.specs.Grammar.{deep}
use Rattle.pfc_tree.proofs.depths.Parts.{program_even}
use Rattle.pfc_grammar.specs.Outcomes.{IsRead}
use Rattle.pfc_grammar.specs.Reading as reading
use Rattle.pfc_grammar.specs.Reading.{Halt, bad, Outcome, then_read, bind, finish}
use Rattle.pfc_grammar.specs.grammar.Parts.{program_at, whole_at, read_program}
use Rattle.pfc_grammar.proofs.Lists.{Each, apart_none}
use Rattle.pfc_grammar.proofs.Sound.{When, Took, HaltsAt, HaltsBehind, Halts, Goes, here}
use Rattle.pfc_grammar.proofs.Complete.{over, over_at, limited_at}
use Rattle.pfc_grammar.proofs.Local.{head_of, EndsHalted, Ends, Gives}
use Rattle.pfc_grammar.proofs.sound_rules.Exprs.{free}
use Rattle.pfc_grammar.proofs.sound_rules.Parts.{sound_whole_at}
use Rattle.pfc_grammar.proofs.complete_rules.Parts.{complete_program_at, whole_reads}
use Rattle.pfc_grammar.proofs.local_rules.Parts.{local_whole_at}

-- Lists.
cons_head : {A : Type 0} (x y : A) (a b : List A) → x ∷ a ≡ y ∷ b → x ≡ y
cons_head x y a b e = cc

cons_tail : {A : Type 0} (x y : A) (a b : List A) → x ∷ a ≡ y ∷ b → a ≡ b
cons_tail x y a b e = cc

-- two ways to split a list, with equal ends
same_split : {A : Type 0} (u a c d : List A) → u ++ a ≡ c ++ d → length a ≡ length d → (u ≡ c) × (a ≡ d)
same_split [] a [] d e h = (refl, e)
same_split [] a (y ∷ c) d e h = absurd (omega (arith, ap length e, length-append (y ∷ c) d, h))
same_split (x ∷ u) a [] d e h = absurd (omega (arith, ap length e, length-append (x ∷ u) a, h))
same_split (x ∷ u) a (y ∷ c) d e h =
    let r : (u ≡ c) × (a ≡ d) = same_split u a c d (cons_tail x y (u ++ a) (c ++ d) e) h in
    let k : x ≡ y = cons_head x y (u ++ a) (c ++ d) e in
    (ap (λ z. z ∷ u) k ∙ ap (λ z. y ∷ z) r.0, r.1)

record Within {A : Type 0} (u a c d : List A) : Type 0 where
  first : A
  more : List A
  inner : c ≡ u ++ (first ∷ more)
  outer : a ≡ first ∷ (more ++ d)

-- the first of two splits ends within the front of the second
within : {A : Type 0} (u a c d : List A) → u ++ a ≡ c ++ d → length u < length c → Within u a c d
within [] a [] d e h = absurd (omega (arith, h))
within [] a (y ∷ c) d e h = record { first = y; more = c; inner = refl; outer = e }
within (x ∷ u) a [] d e h = absurd (omega (arith, h))
within (x ∷ u) a (y ∷ c) d e h =
    let r : Within u a c d = within u a c d (cons_tail x y (u ++ a) (c ++ d) e) (let h' : suc (length u) < suc (length c) = h in omega arith) in
    let k : x ≡ y = cons_head x y (u ++ a) (c ++ d) e in
    record { first = r.first; more = r.more; inner = ap (λ z. z ∷ c) (sym k) ∙ ap (λ z. x ∷ z) r.inner; outer = r.outer }

-- a beginning of a begins a and what follows it
beginning : {A : Type 0} (k : ℕ) (a b c : List A) → k ≤ length a → take k (a ++ b) ++ (drop k a ++ c) ≡ a ++ c
beginning zero a b c h = refl
beginning (suc k) [] b c h = absurd (omega (arith, h))
beginning (suc k) (x ∷ a) b c h = ap (λ z. x ∷ z) (beginning k a b c (let h' : suc k ≤ suc (length a) = h in omega arith))

-- up to and with a place
taken_more : {A : Type 0} (a : List A) (s : A) (b : List A) → take (suc (length a)) (a ++ (s ∷ b)) ≡ a ++ (s ∷ [])
taken_more [] s b = refl
taken_more (x ∷ a) s b = ap (λ z. x ∷ z) (taken_more a s b)

taken_up_to : {A : Type 0} (a : List A) (s : A) (b : List A) → take (length a + 1) (a ++ (s ∷ b)) ≡ a ++ (s ∷ [])
taken_up_to a s b = ap (λ z. take z (a ++ (s ∷ b))) (add-one (length a)) ∙ taken_more a s b

length_taken : {A : Type 0} (k : ℕ) (a : List A) → k ≤ length a → length (take k a) ≡ k
length_taken zero a h = refl
length_taken (suc k) [] h = absurd (omega (arith, h))
length_taken (suc k) (x ∷ a) h = ap suc (length_taken k a (let h' : suc k ≤ suc (length a) = h in omega arith))

taken_dropped : {A : Type 0} (k : ℕ) (a : List A) → take k a ++ drop k a ≡ a
taken_dropped zero a = refl
taken_dropped (suc k) [] = refl
taken_dropped (suc k) (x ∷ a) = ap (λ z. x ∷ z) (taken_dropped k a)

-- Marks.
pub record FirstOver (n : ℕ) (m : List ℕ) (k : ℕ) : Type 0 where
  pub front : List ℕ
  pub mark : ℕ
  pub back : List ℕ
  pub splits : m ≡ front ++ (mark ∷ back)
  pub count : length back ≡ k
  pub above : n < mark
  pub below : Each (λ d. d ≤ n) front

one_more : (n d : ℕ) (m : List ℕ) (k : ℕ) → d ≤ n → FirstOver n m k → FirstOver n (d ∷ m) k
one_more n d m k h w = record {
  front = d ∷ w.front;
  mark = w.mark;
  back = w.back;
  splits = ap (λ z. d ∷ z) w.splits;
  count = w.count;
  above = w.above;
  below = (h, w.below);
}

first_over : (n : ℕ) (m : List ℕ) (k : ℕ) → over n m ≡ suc k → FirstOver n m k
unfolding over
first_over n [] k e = absurd (let e' : 0 ≡ suc k = e in omega arith)
first_over n (d ∷ m) k e = at (nat_le d n) refl e (first_over n m k)
  where
    at : (b : Bool) → nat_le d n ≡ b → over_at b (suc (length m)) (over n m) ≡ suc k → (over n m ≡ suc k → FirstOver n m k) → FirstOver n (d ∷ m) k
    at true h q r = one_more n d m k (leb-true d n h) (r q)
    at false h q r = record {
      front = [];
      mark = d;
      back = m;
      splits = refl;
      count =
          (let q' : suc (length m) ≡ suc k = q in omega arith);
      above = leb-false d n h;
      below = tt;
    }

none_over : (n : ℕ) (m : List ℕ) → over n m ≡ 0 → Each (λ d. d ≤ n) m
unfolding over
none_over n [] e = tt
none_over n (d ∷ m) e = at (nat_le d n) refl e (none_over n m)
  where
    at : (b : Bool) → nat_le d n ≡ b → over_at b (suc (length m)) (over n m) ≡ 0 → (over n m ≡ 0 → Each (λ d'. d' ≤ n) m) → Each (λ d'. d' ≤ n) (d ∷ m)
    at true h q r = (leb-true d n h, r q)
    at false h q r = absurd (let q' : suc (length m) ≡ 0 = q in omega arith)

over_none : (n : ℕ) (m : List ℕ) → Each (λ d. d ≤ n) m → over n m ≡ 0
unfolding over
over_none n [] h = refl
over_none n (d ∷ m) h = ap (λ b. over_at b (suc (length m)) (over n m)) (le-leb d n h.0) ∙ over_none n m h.1

pub each_all : (n : ℕ) (m : List ℕ) → Each (λ d. d ≤ n) m → All (λ d. d ≤ n) m
each_all n [] h = λ k d q. absurd (let q' : k < 0 = q in omega arith)
each_all n (d ∷ m) h = All-cons (λ z. z ≤ n) d m h.0 (each_all n m h.1)

pub all_each : (n : ℕ) (m : List ℕ) → All (λ d. d ≤ n) m → Each (λ d. d ≤ n) m
all_each n [] h = tt
all_each n (d ∷ m) h = (All-head (λ z. z ≤ n) d m h, all_each n m (λ k e q. h (suc k) e (omega (arith, q))))

-- a mark below the first that is above
mark_below : (n : ℕ) (front rest : List ℕ) (j : ℕ) → Each (λ d. d ≤ n) front → j < length front → get_or (front ++ rest) j 0 ≤ n
mark_below n [] rest j h q = absurd (omega (arith, q))
mark_below n (d ∷ front) rest zero h q = h.0
mark_below n (d ∷ front) rest (suc j) h q = mark_below n front rest j h.1 (let q' : suc j < suc (length front) = q in omega arith)

mark_before : (n : ℕ) (m : List ℕ) (k : ℕ) (f : FirstOver n m k) (j : ℕ) → j < length f.front → get_or m j 0 ≤ n
mark_before n m k f j h = subst (λ z. get_or z j 0 ≤ n) (sym f.splits) (mark_below n f.front (f.mark ∷ f.back) j f.below h)

mark_at : (n : ℕ) (m : List ℕ) (k : ℕ) (f : FirstOver n m k) (i : ℕ) → length f.front ≡ i → n < get_or m i 0
mark_at n m k f i e = subst (λ z. n < z) (sym (ap (λ z. get_or z i 0) f.splits ∙ ap (λ z. get_or (f.front ++ (f.mark ∷ f.back)) z 0) (sym e) ∙
    get_or-append_seam f.front f.mark f.back 0)) f.above

le_or_lt : (a b : ℕ) → (a ≤ b) ⊎ (b < a)
le_or_lt a b = grind arith

-- one number that is no mark of the list is below
enough : List ℕ → ℕ
enough [] = 0
enough (d ∷ m) = d + enough m

more_enough : (k n : ℕ) (m : List ℕ) → k ≤ n → Each (λ d. d ≤ k) m → Each (λ d. d ≤ n) m
more_enough k n [] h e = tt
more_enough k n (d ∷ m) h e = (omega (arith, e.0, h), more_enough k n m h e.1)

is_enough : (m : List ℕ) → Each (λ d. d ≤ enough m) m
unfolding enough
is_enough [] = tt
is_enough (d ∷ m) = (omega arith, more_enough (enough m) (d + enough m) m (omega arith) (is_enough m))

-- What a whole program comes to.
ok_same : {A E : Type 0} (a b : A) → ◌≡◌ {A = Result A E} (Ok a) (Ok b) → a ≡ b
ok_same a b e = cc

err_same : {A E : Type 0} (a b : E) → ◌≡◌ {A = Result A E} (Err a) (Err b) → a ≡ b
err_same a b e = cc

ok_err : {A E P : Type 0} (a : A) (b : E) → ◌≡◌ {A = Result A E} (Ok a) (Err b) → P
ok_err a b e = cc

bad_deep : {P : Type 0} (a b : ℕ) → bad a ≡ reading.deep b → P
bad_deep a b e = cc

deep_same : (a b : ℕ) → reading.deep a ≡ reading.deep b → a ≡ b
deep_same a b e = cc

nothing_left : (n : ℕ) (ss : List Symbol) (t : ProgramShape) (rest : List Symbol) → whole_at n ss ≡ Ok (t, rest) → rest ≡ []
unfolding whole_at bind finish
nothing_left n ss t rest e = at (program_at n ss) e
  where
    ended : (x : ProgramShape) (l : List Symbol) → finish x l ≡ Ok (t, rest) → rest ≡ []
    ended x [] q = sym (ap (λ z. z.1) (ok_same (x, []) (t, rest) q))
    ended x (s ∷ l) q = ok_err (t, rest) (bad (length (s ∷ l))) (sym q)

    at : (o : Outcome ProgramShape) → then_read o finish ≡ Ok (t, rest) → rest ≡ []
    at (Ok p) q = ended p.0 p.1 q
    at (Err h) q = ok_err (t, rest) h (sym q)

-- a whole reading is never bad where the kinds are a program's
never_bad : (n : ℕ) (t : ProgramShape) (k : ℕ) → IsLawful t → whole_at n (tokens_of t) ≡ Err (bad k) → ⊥
never_bad n t k l e = at (over n (depths_of t)) (sym (whole_reads n t l) ∙ e)
  where
    at : (o : ℕ) → limited_at o t [] ≡ Err (bad k) → ⊥
    at zero q = ok_err (t, []) (bad k) q
    at (suc o) q = bad_deep k (suc o + 0) (sym (err_same _ _ q))

-- a program that is read is lawful, writes the kinds, and has no token that is too deep
pub whole_sound : (n : ℕ) (ss : List Symbol) (t : ProgramShape) (rest : List Symbol) → whole_at n ss ≡ Ok (t, rest) → IsRead n ss t
whole_sound n ss t rest e =
    made (subst (λ o. When o (Took tokens_of IsLawful free here ss) (Halts tokens_of IsLawful here ss)) e ((sound_whole_at n).reads ss (apart_none ss)))
  where
    made : Took tokens_of IsLawful free here ss t rest → IsRead n ss t
    made w =
        let written : ss ≡ tokens_of t = w.splits ∙ ap (λ z. w.read ++ z) (nothing_left n ss t rest e) ∙ append-nil w.read ∙ sym w.writes in
        record {
          lawful = w.lawful;
          written = written;
          within =
              each_all n (depths_of t)
              (none_over n (depths_of t) (at (over n (depths_of t)) (sym (whole_reads n t w.lawful) ∙ ap (whole_at n) (sym written) ∙ e)));
        }
      where
        at : (o : ℕ) → limited_at o t [] ≡ Ok (t, rest) → o ≡ 0
        at zero q = refl
        at (suc o) q = ok_err (t, rest) (reading.deep (suc o + 0)) (sym q)

-- a lawful program with no token that is too deep is read
pub whole_complete : (n : ℕ) (t : ProgramShape) → IsLawful t → All (λ d. d ≤ n) (depths_of t) → whole_at n (tokens_of t) ≡ Ok (t, [])
whole_complete n t l h = whole_reads n t l ∙ ap (λ o. limited_at o t []) (over_none n (depths_of t) (all_each n (depths_of t) h))

-- A lawful program is the only one that writes its kinds.
pub one_tree : (t u : ProgramShape) → IsLawful t → IsLawful u → tokens_of t ≡ tokens_of u → t ≡ u
one_tree t u l m e =
    let n : ℕ = enough (depths_of t) + enough (depths_of u) in
    ap (λ p. p.0) (ok_same (t, []) (u, []) (sym (reads_all n t l (more_enough (enough (depths_of t)) n (depths_of t) (omega arith) (is_enough (depths_of t)))) ∙
    ap (whole_at n) e ∙ reads_all n u m (more_enough (enough (depths_of u)) n (depths_of u) (omega arith) (is_enough (depths_of u)))))
  where
    reads_all : (n : ℕ) (x : ProgramShape) → IsLawful x → Each (λ d. d ≤ n) (depths_of x) → whole_at n (tokens_of x) ≡ Ok (x, [])
    reads_all n x k h = whole_reads n x k ∙ ap (λ o. limited_at o x []) (over_none n (depths_of x) h)

-- No program is a proper beginning of another.
pub no_beginning : (t u : ProgramShape) (more : List Symbol) → IsLawful t → IsLawful u → tokens_of u ≡ tokens_of t ++ more → more ≡ []
no_beginning t u more l m e =
    let n : ℕ = enough (depths_of t) + enough (depths_of u) in
    ap (λ p. p.1) (ok_same (t, more) (u, [])
    (sym (reads_on n t l more (more_enough (enough (depths_of t)) n (depths_of t) (omega arith) (is_enough (depths_of t))))
    ∙ ap (program_at n) (sym e ∙ sym (append-nil (tokens_of u))) ∙
    reads_on n u m [] (more_enough (enough (depths_of u)) n (depths_of u) (omega arith) (is_enough (depths_of u)))))
  where
    reads_on : (n : ℕ) (x : ProgramShape) → IsLawful x → (rest : List Symbol) → Each (λ d. d ≤ n) (depths_of x) →
        program_at n (tokens_of x ++ rest) ≡ Ok (x, rest)
    reads_on n x k rest h = (complete_program_at n x k).reads rest tt ∙ ap (λ o. limited_at o x rest) (over_none n (depths_of x) h)

-- Where something lawful begins with what was read, so does each beginning of that.
continues_before : (ss read left : List Symbol) (j : ℕ) → ss ≡ read ++ left → (g : Goes tokens_of IsLawful (λ k. read ++ k)) →
    j < length read → Continues g.whole (up_to j ss)
continues_before ss read left j e g h = record {
  lawful = g.lawful;
  rest = drop (j + 1) read ++ g.more;
  written = ap (λ z. take (j + 1) z ++ (drop (j + 1) read ++ g.more)) e ∙ beginning (j + 1) read left g.more (omega arith) ∙ sym g.writes;
}

begins_before : (ss read left : List Symbol) (j : ℕ) → ss ≡ read ++ left → Goes tokens_of IsLawful (λ k. read ++ k) →
    j < length read → BeginsProgram (up_to j ss)
begins_before ss read left j e g h = record { tree = g.whole; continued = continues_before ss read left j e g h }

-- the outcome of a reading that is known ends alike
ends_at : (n : ℕ) (ss : List Symbol) (o : Outcome ProgramShape) → whole_at n ss ≡ o → Ends (Gives (whole_at n)) ss o
ends_at n ss o e = subst (λ z. Ends (Gives (whole_at n)) ss z) e ((local_whole_at n).ends ss)

-- A halt that is bad: the kind there is unexpected, or the end is.
none_here : (n : ℕ) (ss read : List Symbol) (s : Symbol) (l : List Symbol) (k : ℕ) → ss ≡ read ++ (s ∷ l) → suc (length l) ≡ k →
    whole_at n ss ≡ Err (bad k) → BeginsProgram (read ++ (s ∷ [])) → ⊥
none_here n ss read s l k e c q b = at (ends_at n ss (Err (bad k)) q)
  where
    at : EndsHalted (Gives (whole_at n)) bad ss k → ⊥
    at w =
        let parts : (w.read ≡ read) × (w.left ≡ s ∷ l) = same_split w.read w.left read (s ∷ l) (sym w.splits ∙ e) (w.count ∙ sym c) in
        never_bad n b.tree (length (s ∷ b.continued.rest)) b.continued.lawful
        (ap (whole_at n) (sym b.continued.written ∙ append_assoc read (s ∷ []) b.continued.rest ∙ ap (λ z. z ++ (s ∷ b.continued.rest)) (sym parts.0)) ∙
        w.again (s ∷ b.continued.rest) (ap head_of parts.1))

pub whole_unexpected : (n : ℕ) (ss : List Symbol) (k : ℕ) → whole_at n ss ≡ Err (bad k) → IsUnexpected ss (length ss - k)
whole_unexpected n ss k q =
    made (subst (λ o. When o (Took tokens_of IsLawful free here ss) (Halts tokens_of IsLawful here ss)) q ((sound_whole_at n).reads ss (apart_none ss)))
  where
    here_or_end : (w : HaltsAt tokens_of IsLawful here ss k) (left : List Symbol) → w.left ≡ left → StopsAt ss (length ss - k) ⊎ StopsAtEnd ss (length ss - k)
    here_or_end w [] e =
        let all : ss ≡ w.read = w.splits ∙ ap (λ z. w.read ++ z) e ∙ append-nil w.read in
        let nought : k ≡ 0 = sym w.count ∙ ap length e in
        inr (record {
          end = omega (arith, nought);
          begun = record {
            tree = w.goes.whole;
            continued = record {
              lawful = w.goes.lawful;
              rest = w.goes.more;
              written =
                  ap (λ z. z ++ w.goes.more) all ∙ sym w.goes.writes;
            };
          };
          none = λ p. never_bad n p.tree k p.lawful (ap (whole_at n) (sym p.written) ∙ q);
        })
    here_or_end w (s ∷ l) e =
        let split : ss ≡ w.read ++ (s ∷ l) = w.splits ∙ ap (λ z. w.read ++ z) e in
        let count : suc (length l) ≡ k = sym (ap length e) ∙ w.count in
        let total : length ss ≡ length w.read + suc (length l) = ap length split ∙ length-append w.read (s ∷ l) in
        let place : length ss - k ≡ length w.read = omega arith in
        inl (record {
          inside = omega arith;
          none = λ b. none_here n ss w.read s l k split count q (subst BeginsProgram (ap (λ z. up_to z ss) place ∙
              ap (λ z. take (length w.read + 1) z) split ∙ taken_up_to w.read s l) b);
        })

    made : HaltsAt tokens_of IsLawful here ss k → IsUnexpected ss (length ss - k)
    made w =
        let total : length ss ≡ length w.read + length w.left = ap length w.splits ∙ length-append w.read w.left in
        let count : length w.left ≡ k = w.count in
        record { before = λ j h. begins_before ss w.read w.left j w.splits w.goes (omega arith); here = here_or_end w w.left refl }

-- A kind that is too deep is read as such.
any_below : (n : ℕ) (m : List ℕ) (j : ℕ) → Each (λ d. d ≤ n) m → get_or m j 0 ≤ n
any_below n [] j h = omega arith
any_below n (d ∷ m) zero h = h.0
any_below n (d ∷ m) (suc j) h = any_below n m j h.1

-- a list that is split twice, the second time within the front
reread : (ss c d u : List Symbol) (x : Symbol) (m : List Symbol) → c ++ d ≡ ss → c ≡ u ++ (x ∷ m) → ss ≡ u ++ (x ∷ (m ++ d))
reread ss c d u x m e h = sym e ∙ ap (λ z. z ++ d) h ∙ append_assoc u (x ∷ m) d

record IsDeepAt (n : ℕ) (ss : List Symbol) : Type 0 where
  left : ℕ
  halts : whole_at n ss ≡ Err (reading.deep left)

deep_is_read : (ss : List Symbol) (j : ℕ) → IsTooDeep ss j → IsDeepAt most_depth ss
deep_is_read ss j d = at (over most_depth (depths_of t)) refl
  where
    t : ProgramShape
    t = d.begun.tree

    c : Continues t (up_to j ss)
    c = d.begun.continued

    above : most_depth < get_or (depths_of t) j 0
    above = d.deep t c

    taken_to : length (up_to j ss) ≡ j + 1
    taken_to = let h : j < length ss = d.inside in length_taken (j + 1) ss (omega arith)

    ended : (o : ℕ) → FirstOver most_depth (depths_of t) o →
        EndsHalted (Gives (whole_at most_depth)) reading.deep (tokens_of t) (suc o + 0) → IsDeepAt most_depth ss
    ended o f w =
        let order : length f.front ≤ j = ⊎_elim (λ q. q) (λ q. absurd (let below : get_or (depths_of t) j 0 ≤ most_depth =
        mark_before most_depth (depths_of t) o f j q in omega (arith, above, below))) (le_or_lt (length f.front) j) in
        let depths : length (depths_of t) ≡ length f.front + suc (length f.back) = ap length f.splits ∙ length-append f.front (f.mark ∷ f.back) in
        let tokens : length (tokens_of t) ≡ length w.read + length w.left = ap length w.splits ∙ length-append w.read w.left in
        let even : length (depths_of t) ≡ length (tokens_of t) = program_even t in
        let back : length f.back ≡ o = f.count in
        let left : length w.left ≡ suc o + 0 = w.count in
        let short : length w.read < length (up_to j ss) = omega (arith, taken_to) in
        again w (within w.read w.left (up_to j ss) c.rest (sym w.splits ∙ sym c.written) short)
      where
        again : (v : EndsHalted (Gives (whole_at most_depth)) reading.deep (tokens_of t) (suc o + 0)) →
            Within v.read v.left (up_to j ss) c.rest → IsDeepAt most_depth ss
        again v i = record {
          left = length (i.first ∷ (i.more ++ drop (j + 1) ss));
          halts = ap (whole_at most_depth) (reread ss (up_to j ss) (drop (j + 1) ss) v.read i.first i.more (taken_dropped (j + 1) ss) i.inner) ∙
              v.again (i.first ∷ (i.more ++ drop (j + 1) ss)) (ap head_of i.outer);
        }

    at : (o : ℕ) → over most_depth (depths_of t) ≡ o → IsDeepAt most_depth ss
    at zero e = absurd (let below : get_or (depths_of t) j 0 ≤ most_depth =
        any_below most_depth (depths_of t) j (none_over most_depth (depths_of t) e) in omega (arith, above, below))
    at (suc o) e = ended o (first_over most_depth (depths_of t) o e) (ends_at most_depth (tokens_of t) (Err (reading.deep (suc o + 0)))
        (whole_reads most_depth t c.lawful ∙ ap (λ z. limited_at z t []) e))

pub no_deep : (ss : List Symbol) (k j : ℕ) → whole_at most_depth ss ≡ Err (bad k) → IsTooDeep ss j → ⊥
no_deep ss k j e d = let w : IsDeepAt most_depth ss = deep_is_read ss j d in bad_deep k w.left (err_same _ _ (sym e ∙ w.halts))

-- A halt for depth: the kind there is too deep, and the first such.
first_mark : (ss read : List Symbol) (s : Symbol) (l : List Symbol) (k : ℕ) → ss ≡ read ++ (s ∷ l) → suc (length l) ≡ k →
    whole_at most_depth ss ≡ Err (reading.deep k) →
    (t : ProgramShape) (rest : List Symbol) → IsLawful t → tokens_of t ≡ read ++ (s ∷ rest) →
    (f : FirstOver most_depth (depths_of t) (length rest)) × (length f.front ≡ length read)
first_mark ss read s l k e c q t rest m written = at (ends_at most_depth ss (Err (reading.deep k)) q)
  where
    counted : (o : ℕ) → over most_depth (depths_of t) ≡ o → limited_at o t [] ≡ Err (reading.deep (suc (length rest))) →
        over most_depth (depths_of t) ≡ suc (length rest)
    counted zero h r = ok_err (t, []) (reading.deep (suc (length rest))) r
    counted (suc o) h r = h ∙ (let same : suc o + 0 ≡ suc (length rest) = deep_same _ _ (err_same _ _ r) in omega arith)

    placed : FirstOver most_depth (depths_of t) (length rest) → (f : FirstOver most_depth (depths_of t) (length rest)) × (length f.front ≡ length read)
    placed f =
        let depths : length (depths_of t) ≡ length f.front + suc (length f.back) = ap length f.splits ∙ length-append f.front (f.mark ∷ f.back) in
        let tokens : length (tokens_of t) ≡ length read + suc (length rest) = ap length written ∙ length-append read (s ∷ rest) in
        let even : length (depths_of t) ≡ length (tokens_of t) = program_even t in
        let back : length f.back ≡ length rest = f.count in
        (f, omega arith)

    at : EndsHalted (Gives (whole_at most_depth)) reading.deep ss k → (f : FirstOver most_depth (depths_of t) (length rest)) × (length f.front ≡ length read)
    at w =
        let parts : (w.read ≡ read) × (w.left ≡ s ∷ l) = same_split w.read w.left read (s ∷ l) (sym w.splits ∙ e) (w.count ∙ sym c) in
        let halts : whole_at most_depth (tokens_of t) ≡ Err (reading.deep (suc (length rest))) =
        ap (whole_at most_depth) (written ∙ ap (λ z. z ++ (s ∷ rest)) (sym parts.0)) ∙ w.again (s ∷ rest) (ap head_of parts.1) in
        placed (first_over most_depth (depths_of t) (length rest) (counted (over most_depth (depths_of t)) refl (sym (whole_reads most_depth t m) ∙ halts)))

pub whole_deep : (ss : List Symbol) (k : ℕ) → whole_at most_depth ss ≡ Err (reading.deep k) → IsDeep ss (length ss - k)
whole_deep ss k q = made (subst (λ o. When o (Took tokens_of IsLawful free here ss) (Halts tokens_of IsLawful here ss)) q
    ((sound_whole_at most_depth).reads ss (apart_none ss)))
  where
    placed : (w : HaltsBehind tokens_of IsLawful here ss k) → length ss - k ≡ length w.read
    placed w = let count : suc (length w.left) ≡ k = w.count in let total : length ss ≡ length w.read + suc (length w.left) = ap length w.splits ∙
        length-append w.read (w.last ∷ w.left) in omega arith

    inside_of : (w : HaltsBehind tokens_of IsLawful here ss k) → length ss - k < length ss
    inside_of w = let count : suc (length w.left) ≡ k = w.count in let total : length ss ≡ length w.read + suc (length w.left) = ap length w.splits ∙
        length-append w.read (w.last ∷ w.left) in omega arith

    upto : (w : HaltsBehind tokens_of IsLawful here ss k) → up_to (length ss - k) ss ≡ w.read ++ (w.last ∷ [])
    upto w = ap (λ z. up_to z ss) (placed w) ∙ ap (λ z. take (length w.read + 1) z) w.splits ∙ taken_up_to w.read w.last w.left

    too_deep : (w : HaltsBehind tokens_of IsLawful here ss k) (tree : ProgramShape) → Continues tree (up_to (length ss - k) ss) →
        most_depth < get_or (depths_of tree) (length ss - k) 0
    too_deep w tree c =
        let written : tokens_of tree ≡ w.read ++ (w.last ∷ c.rest) = sym c.written ∙ ap (λ z. z ++ c.rest) (upto w) ∙
        append_assoc w.read (w.last ∷ []) c.rest in
        let r : (f : FirstOver most_depth (depths_of tree) (length c.rest)) × (length f.front ≡ length w.read) =
        first_mark ss w.read w.last w.left k w.splits w.count q tree c.rest c.lawful written in
        mark_at most_depth (depths_of tree) (length c.rest) r.0 (length ss - k) (r.1 ∙ sym (placed w))

    earlier : (w : HaltsBehind tokens_of IsLawful here ss k) (j : ℕ) → j < length ss - k → IsTooDeep ss j → ⊥
    earlier w j h d =
        let before : j < length w.read = omega (arith, placed w, h) in
        let r : (f : FirstOver most_depth (depths_of w.goes.whole) (length w.goes.more)) × (length f.front ≡ length w.read) =
        first_mark ss w.read w.last w.left k w.splits w.count q w.goes.whole w.goes.more w.goes.lawful w.goes.writes in
        let below : get_or (depths_of w.goes.whole) j 0 ≤ most_depth =
        mark_before most_depth (depths_of w.goes.whole) (length w.goes.more) r.0 j (omega (arith, r.1, before)) in
        let above : most_depth < get_or (depths_of w.goes.whole) j 0 =
        d.deep w.goes.whole (continues_before ss w.read (w.last ∷ w.left) j w.splits (record {
          whole = w.goes.whole;
          more = w.last ∷ w.goes.more;
          lawful =
              w.goes.lawful;
          writes = w.goes.writes;
        }) before) in
        omega (arith, below, above)

    made : HaltsBehind tokens_of IsLawful here ss k → IsDeep ss (length ss - k)
    made w = record {
      here = record {
        inside = inside_of w;
        begun = record {
          tree = w.goes.whole;
          continued = record {
            lawful = w.goes.lawful;
            rest = w.goes.more;
            written = ap (λ z. z ++ w.goes.more) (upto w) ∙
                append_assoc w.read (w.last ∷ []) w.goes.more ∙ sym w.goes.writes;
          };
        };
        deep = too_deep w;
      };
      first = earlier w;
    }

-- up to an unexpected place and with it, the kinds begin no program; so that place stands behind a place that is too deep
deep_before : (ss : List Symbol) (i j : ℕ) → IsTooDeep ss i → IsUnexpected ss j → i < j
deep_before ss i j d u = ⊎_elim (λ h. absurd (at h u.here)) (λ h. h) (le_or_lt j i)
  where
    shorter : j ≤ i → BeginsProgram (up_to j ss)
    shorter h =
        let inside : i < length ss = d.inside in
        let size : length (up_to i ss) ≡ i + 1 = length_taken (i + 1) ss (omega arith) in
        begins_before ss (up_to i ss) (drop (i + 1) ss) j (sym (taken_dropped (i + 1) ss))
        (record {
          whole = d.begun.tree;
          more = d.begun.continued.rest;
          lawful = d.begun.continued.lawful;
          writes =
              sym d.begun.continued.written;
        }) (omega (arith, size, h))

    at : j ≤ i → StopsAt ss j ⊎ StopsAtEnd ss j → ⊥
    at h (inl s) = s.none (shorter h)
    at h (inr s) = let e : j ≡ length ss = s.end in let inside : i < length ss = d.inside in omega (arith, h)

-- What a halt of the reading of a program says.
pub bad_is_unexpected : (ss : List Symbol) (k : ℕ) → read_program ss ≡ Err (bad k) → IsUnexpected ss (length ss - k)
unfolding read_program
bad_is_unexpected ss k e = whole_unexpected most_depth ss k e

pub bad_is_not_deep : (ss : List Symbol) (k j : ℕ) → read_program ss ≡ Err (bad k) → IsDeep ss j → ⊥
unfolding read_program
bad_is_not_deep ss k j e d = no_deep ss k j e d.here

pub deep_is_deep : (ss : List Symbol) (k : ℕ) → read_program ss ≡ Err (reading.deep k) → IsDeep ss (length ss - k)
unfolding read_program
deep_is_deep ss k e = whole_deep ss k e

-- The syntax fault that a halt stands for.
pub bad_is_fault : (ss : List Symbol) (k : ℕ) → read_program ss ≡ Err (bad k) → IsSyntaxFault ss 201 (length ss - k)
unfolding read_program
bad_is_fault ss k e = unexpected (length ss - k) (whole_unexpected most_depth ss k e) (λ j d. absurd (no_deep ss k j e d.here))

pub deep_is_fault : (ss : List Symbol) (k : ℕ) → read_program ss ≡ Err (reading.deep k) → IsSyntaxFault ss 202 (length ss - k)
unfolding read_program
deep_is_fault ss k e = deep (length ss - k) (whole_deep ss k e) (λ j u. deep_before ss (length ss - k) j (whole_deep ss k e).here u)

-- A reading of a program.
pub read_is_sound : (ss : List Symbol) (t : ProgramShape) (rest : List Symbol) → read_program ss ≡ Ok (t, rest) → IsRead most_depth ss t
unfolding read_program
read_is_sound ss t rest e = whole_sound most_depth ss t rest e

pub read_is_complete : (t : ProgramShape) → IsLawful t → All (λ d. d ≤ most_depth) (depths_of t) → read_program (tokens_of t) ≡ Ok (t, [])
unfolding read_program
read_is_complete t l h = whole_complete most_depth t l h

-- a program that is read has no token that is too deep, and nothing too deep stands in its kinds
pub read_is_not_deep : (ss : List Symbol) (t : ProgramShape) (rest : List Symbol) (j : ℕ) → read_program ss ≡ Ok (t, rest) → IsDeep ss j → ⊥
unfolding read_program
read_is_not_deep ss t rest j e d = let w : IsDeepAt most_depth ss = deep_is_read ss j d.here in ok_err (t, rest) (reading.deep w.left) (sym e ∙ w.halts)
