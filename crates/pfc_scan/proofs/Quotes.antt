-- Literals at the front of a text.
use Rattle.std.proofs.Common.{◌≡◌, ◌≢◌, ℕ, ◌<◌, ◌≤◌, ◌+◌, ◌-◌, Bool, true, false, not, ◌==◌, cond, Option, Some, None, List, [], ◌∷◌, ◌++◌, length, take, drop}
use Rattle.std.proofs.Common.{get_or, add-one, drop-cons, suc, slice_index, ap, refl, ◌∙◌, sym, subst, arith}
use Rattle.std.specs.List.{list_all}
use Rattle.std.specs.Prelude.{option_map, unwrap_or, IfSome}
use Rattle.std.proofs.lemmas.Bool.{and_parts, and_from, eqb-true, cond-false}
use Rattle.std.proofs.lemmas.Bool.Decides.{nat_tests}
use Rattle.std.proofs.lemmas.List.{append_assoc, length-append}
use Rattle.std.proofs.Math.Seq.{take-append_seam}
use Rattle.pfc_base.specs.declared.tokens.Kind.TheVariants.{Literal}
use Rattle.pfc_scan.specs.declared.piece.First.TheVariants.{Quote}
use Rattle.pfc_scan.specs.declared.piece.Reading.TheVariants.{Token}
use Rattle.pfc_scan.specs.Pieces.{IsLiteral, quoted, literal}
use Rattle.pfc_scan.specs.Cutting.{NothingBegins}
use Rattle.pfc_scan.specs.Finding.{IsNextPiece, quote_close, closed_or, unquoted}
use Rattle.pfc_scan.proofs.Fronts.{next_plain, nothing_by}
use Rattle.pfc_scan.proofs.Closers.{one_byte}

abbrev pub is_one_line : List ℕ → Bool
is_one_line bytes = list_all (λ b. not (b == 10)) bytes

-- ---- the longest literal

-- so many bytes are a literal without its first quote
pub record ClosedBy (text : List ℕ) (n : ℕ) : Type 0 where
  pub bytes : List ℕ
  pub after : List ℕ
  pub is : text ≡ quoted bytes ++ (39 ∷ after)
  pub one_line : is_one_line bytes ≡ true
  pub place : n ≡ suc (length (quoted bytes))

-- one more byte in front
more_byte : (b : ℕ) (text : List ℕ) (n : ℕ) → (b == 39) ≡ false → (b == 10) ≡ false → ClosedBy text n → ClosedBy (b ∷ text) (suc n)
more_byte b text n e f c = record {
  bytes = b ∷ c.bytes;
  after = c.after;
  is = ap (λ x. b ∷ x) c.is ∙ ap (λ t. cond t (39 ∷ (39 ∷ quoted c.bytes)) (b ∷ quoted c.bytes) ++ (39 ∷ c.after)) (sym e);
  one_line = and_from (not (b == 10)) (is_one_line c.bytes) (ap not f) c.one_line;
  place = ap suc c.place ∙ ap (λ t. suc (length (cond t (39 ∷ (39 ∷ quoted c.bytes)) (b ∷ quoted c.bytes)))) (sym e);
}

more_quote : (text : List ℕ) (n : ℕ) → ClosedBy text n → ClosedBy (39 ∷ (39 ∷ text)) (suc (suc n))
more_quote text n c = record {
  bytes = 39 ∷ c.bytes;
  after = c.after;
  is = ap (λ x. 39 ∷ (39 ∷ x)) c.is;
  one_line = c.one_line;
  place = ap (λ m. suc (suc m)) c.place;
}

last_quote : (text : List ℕ) → ClosedBy (39 ∷ text) 1
last_quote text = record { bytes = []; after = text; is = refl; one_line = refl; place = refl }

-- what is found from a text on
Finds : List ℕ → Type 0
Finds text = (n : ℕ) → quote_close false text ≡ Some n → ClosedBy text n

-- at a byte that is no quote
found_byte : (b : ℕ) (text : List ℕ) (u : Bool) (n : ℕ) → (b == 39) ≡ false → (b == 10) ≡ u →
    cond u None (option_map suc (quote_close false text)) ≡ Some n → Finds text → ClosedBy (b ∷ text) n
unfolding Finds
found_byte b text true n e f h later = cc
found_byte b text false n e f h later = go (quote_close false text) refl h
  where
    go : (o : Option ℕ) → quote_close false text ≡ o → option_map suc o ≡ Some n → ClosedBy (b ∷ text) n
    go None g k = cc
    go (Some m) g k = let same : suc m ≡ n = cc in subst (ClosedBy (b ∷ text)) same (more_byte b text m e f (later m g))

-- at a quote
found_quote : (text : List ℕ) (n : ℕ) → option_map suc (quote_close true text) ≡ Some n → Finds (drop 1 text) → ClosedBy (39 ∷ text) n
unfolding Finds
found_quote [] n h later = let same : 1 ≡ n = cc in subst (ClosedBy (39 ∷ [])) same (last_quote [])
found_quote (c ∷ text) n h later = go (c == 39) refl (quote_close false text) refl h
  where
    go : (t : Bool) → (c == 39) ≡ t → (o : Option ℕ) → quote_close false text ≡ o →
        option_map suc (cond t (Some (unwrap_or (option_map suc o) 0)) (Some 0)) ≡ Some n → ClosedBy (39 ∷ (c ∷ text)) n
    go false e o g k = let same : 1 ≡ n = cc in subst (ClosedBy (39 ∷ (c ∷ text))) same (last_quote (c ∷ text))
    go true e None g k = let same : 1 ≡ n = cc in subst (ClosedBy (39 ∷ (c ∷ text))) same (last_quote (c ∷ text))
    go true e (Some m) g k =
        let same : suc (suc m) ≡ n = cc in
        subst (λ d. ClosedBy (39 ∷ (d ∷ text)) n) (sym (eqb-true c 39 e)) (subst (ClosedBy (39 ∷ (39 ∷ text))) same (more_quote text m (later m g)))

found_by : (b : ℕ) (text : List ℕ) (n : ℕ) → Finds text → Finds (drop 1 text) → quote_close false (b ∷ text) ≡ Some n → ClosedBy (b ∷ text) n
found_by b text n one two h = go (b == 39) refl h
  where
    go : (t : Bool) → (b == 39) ≡ t → cond t (option_map suc (quote_close true text)) (cond (b == 10) None (option_map suc (quote_close false text))) ≡ Some n →
        ClosedBy (b ∷ text) n
    go true e k = subst (λ c. ClosedBy (c ∷ text) n) (sym (eqb-true b 39 e)) (found_quote text n k two)
    go false e k = found_byte b text (b == 10) n e refl k one

nothing_found : Finds []
unfolding Finds
nothing_found n h = cc

quote_found : (text : List ℕ) → Finds text
unfolding Finds
quote_found [] n h = cc
quote_found (b ∷ []) n h = found_by b [] n nothing_found nothing_found h
quote_found (b ∷ c ∷ text) n h = found_by b (c ∷ text) n (quote_found (c ∷ text)) (quote_found text) h

-- no literal is longer than the one that is found
pub record FoundUpTo (found : Option ℕ) (least : ℕ) : Type 0 where
  pub place : ℕ
  pub is : found ≡ Some place
  pub far : least ≤ place

after_quote : (text : List ℕ) → FoundUpTo (quote_close true text) 0
after_quote [] = record { place = 0; is = refl; far = omega arith }
after_quote (b ∷ text) = go (b == 39)
  where
    go : (t : Bool) → FoundUpTo (cond t (Some (unwrap_or (option_map suc (quote_close false text)) 0)) (Some 0)) 0
    go true = record { place = unwrap_or (option_map suc (quote_close false text)) 0; is = refl; far = omega arith }
    go false = record { place = 0; is = refl; far = omega arith }

no_line : (t : Bool) → not t ≡ true → t ≡ false
no_line true h = cc
no_line false h = refl

finds_quote : (bytes after : List ℕ) → is_one_line bytes ≡ true → FoundUpTo (quote_close false (quoted bytes ++ (39 ∷ after))) (length (quoted bytes) + 1)
finds_quote [] after h =
    let q = after_quote after in
    let l = q.far in
    record { place = suc q.place; is = ap (option_map suc) q.is; far = omega arith }
finds_quote (b ∷ bytes) after h = go (finds_quote bytes after parts.1) (b == 39) refl
  where
    parts : (not (b == 10) ≡ true) × (is_one_line bytes ≡ true)
    parts = and_parts (not (b == 10)) (is_one_line bytes) h

    go : FoundUpTo (quote_close false (quoted bytes ++ (39 ∷ after))) (length (quoted bytes) + 1) → (t : Bool) → (b == 39) ≡ t
        → FoundUpTo (quote_close false (cond t (39 ∷ (39 ∷ quoted bytes)) (b ∷ quoted bytes) ++ (39 ∷ after)))
        (length (cond t (39 ∷ (39 ∷ quoted bytes)) (b ∷ quoted bytes)) + 1)
    go later true e = record {
      place = suc (suc later.place);
      is = ap (λ o. option_map suc (Some (unwrap_or (option_map suc o) 0))) later.is;
      far = let l = later.far in omega arith;
    }
    go later false e = record {
      place = suc later.place;
      is = cond-false _ _ _ e ∙ cond-false _ _ _ (no_line (b == 10) parts.0) ∙ ap (option_map suc) later.is;
      far = let l = later.far in omega arith;
    }

-- ---- the bytes of a literal

unquoted-quoted : (bytes : List ℕ) → unquoted false (quoted bytes) ≡ bytes
unquoted-quoted [] = refl
unquoted-quoted (b ∷ bytes) = go (unquoted-quoted bytes) (b == 39) refl
  where
    go : unquoted false (quoted bytes) ≡ bytes → (t : Bool) → (b == 39) ≡ t → unquoted false (cond t (39 ∷ (39 ∷ quoted bytes)) (b ∷ quoted bytes)) ≡ b ∷ bytes
    go later true e = ap (λ x. 39 ∷ x) later ∙ ap (λ c. c ∷ bytes) (sym (eqb-true b 39 e))
    go later false e = ap (λ t. b ∷ unquoted t (quoted bytes)) e ∙ ap (λ x. b ∷ x) later

-- ---- the piece that a quote begins

-- a literal that begins a text is found there
literal_fits : (bytes other left text : List ℕ) → IsLiteral bytes other → 39 ∷ text ≡ other ++ left →
    FoundUpTo (quote_close false text) (length (quoted bytes) + 1)
literal_fits bytes other left text l cut =
    let e : 39 ∷ text ≡ 39 ∷ ((quoted bytes ++ (39 ∷ [])) ++ left) = cut ∙ ap (λ p. p ++ left) l.is in
    let f : text ≡ quoted bytes ++ (39 ∷ left) = (let g : text ≡ (quoted bytes ++ (39 ∷ [])) ++ left = cc in g) ∙ append_assoc (quoted bytes) (39 ∷ []) left in
    subst (λ t. FoundUpTo (quote_close false t) (length (quoted bytes) + 1)) (sym f) (finds_quote bytes left l.one_line)

pub quote_within : (text : List ℕ) (n : ℕ) → quote_close false text ≡ Some n → (0 < n) × (n ≤ length text)
unfolding Finds
quote_within text n h =
    let c = quote_found text n h in
    let place : n ≡ suc (length (quoted c.bytes)) = c.place in
    let long : length text ≡ length (quoted c.bytes) + length (39 ∷ c.after) = ap length c.is ∙ length-append (quoted c.bytes) (39 ∷ c.after) in
    (omega arith, omega arith)

-- the piece of so many bytes is the literal of these bytes
pub record LiteralFront (text bytes : List ℕ) (n : ℕ) : Type 0 where
  pub same : bytes ≡ unquoted false (take (n - 1) text)
  pub literal : IsLiteral bytes (take (1 + n) (39 ∷ text))

literal_front : (text : List ℕ) (n : ℕ) → quote_close false text ≡ Some n → (b : List ℕ) × LiteralFront text b n
unfolding Finds
literal_front text n h =
    let c = quote_found text n h in
    let place : n ≡ suc (length (quoted c.bytes)) = c.place in
    let inner : n - 1 ≡ length (quoted c.bytes) = omega arith in
    let bytes : take (n - 1) text ≡ quoted c.bytes = ap (λ k. take k text) inner ∙ ap (take (length (quoted c.bytes))) c.is ∙
    take-append_seam (quoted c.bytes) (39 ∷ c.after) in
    let cut : text ≡ (quoted c.bytes ++ (39 ∷ [])) ++ c.after = c.is ∙ sym (append_assoc (quoted c.bytes) (39 ∷ []) c.after) in
    let size : length (quoted c.bytes ++ (39 ∷ [])) ≡ length (quoted c.bytes) + 1 = length-append (quoted c.bytes) (39 ∷ []) in
    let outer : n ≡ length (quoted c.bytes ++ (39 ∷ [])) = omega arith in
    let front : take n text ≡ quoted c.bytes ++ (39 ∷ []) = ap (λ k. take k text) outer ∙ ap (take (length (quoted c.bytes ++ (39 ∷ [])))) cut ∙
    take-append_seam (quoted c.bytes ++ (39 ∷ [])) c.after in
    let one : 1 + n ≡ suc n = omega arith in (
      c.bytes,
      record {
        same = sym (ap (unquoted false) bytes ∙ unquoted-quoted c.bytes);
        literal = record { is = ap (λ k. take k (39 ∷ text)) one ∙ ap (λ x. 39 ∷ x) front; one_line = c.one_line };
      },
    )

literal_at : (text bytes : List ℕ) (n : ℕ) → quote_close false text ≡ Some n → bytes ≡ unquoted false (take (n - 1) text) →
    IsNextPiece (39 ∷ text) (record { length = 1 + n; reading = Token (Literal bytes) })
literal_at text bytes n h is =
    let f = literal_front text n h in
    let within = (quote_within text n h).1 in
    let same : f.0 ≡ bytes = f.1.same ∙ sym is in
    next_plain Quote 39 text (1 + n) (Token (Literal bytes)) refl refl (omega arith) (omega arith)
    (literal bytes (subst (λ b. IsLiteral b (take (1 + n) (39 ∷ text))) same f.1.literal) refl)
    (λ other left r cut sort opened. most other left sort.0 sort.1 cut)
  where
    most : (other left others : List ℕ) → IsLiteral others other → 39 ∷ text ≡ other ++ left → length other ≤ 1 + n
    most other left others l cut =
        let far = literal_fits others other left text l cut in
        let place : Some far.place ≡ Some n = sym far.is ∙ h in
        let at : far.place ≡ n = cc in
        let size : length other ≡ suc (length (quoted others) + 1) = ap length l.is ∙ ap suc (length-append (quoted others) (39 ∷ [])) in
        let up : length (quoted others) + 1 ≤ far.place = far.far in
        omega arith

literal_not : (text : List ℕ) → quote_close false text ≡ None → NothingBegins (39 ∷ text)
literal_not text h =
    nothing_by Quote 39 text refl
    (λ other left r cut sort opened.
    let far = literal_fits sort.0 other left text sort.1 cut in
    let e : None ≡ Some far.place = sym h ∙ far.is in
    absurd (cc))

pub literal_next : (text bytes : List ℕ) (n : ℕ) → slice_index text 0 ≡ 39 → quote_close false (drop 1 text) ≡ Some n →
    bytes ≡ unquoted false (take (n - 1) (drop 1 text))
    → IsNextPiece text (record { length = 1 + n; reading = Token (Literal bytes) })
literal_next text bytes n h found is =
    subst (λ t. IsNextPiece t (record { length = 1 + n; reading = Token (Literal bytes) })) (sym (one_byte text 38 h))
    (literal_at (drop 1 text) bytes n found is)

pub literal_none : (text : List ℕ) → slice_index text 0 ≡ 39 → quote_close false (drop 1 text) ≡ None → NothingBegins text
literal_none text h none = subst NothingBegins (sym (one_byte text 38 h)) (literal_not (drop 1 text) none)

-- ---- the search for the closing quote, byte by byte

not_eqb : (a b : ℕ) → a ≢ b → (a == b) ≡ false
not_eqb a b h = grind (arith, nat_tests)

pub closed_or-start : (o : Option ℕ) → closed_or None 0 o ≡ o
closed_or-start None = refl
closed_or-start (Some n) = ap Some (omega arith)

-- what is found behind one more byte
closed_or-suc : (closed : Option ℕ) (at : ℕ) (o : Option ℕ) → closed_or closed at (option_map suc o) ≡ closed_or closed (at + 1) o
closed_or-suc closed at None = refl
closed_or-suc closed at (Some n) = ap Some (omega arith)

first_quote : (closed : Option ℕ) (at b : ℕ) (text : List ℕ) → b ≡ 39 →
    closed_or closed at (quote_close false (b ∷ text)) ≡ closed_or (Some (at + 1)) (at + 1) (quote_close true text)
first_quote closed at b text e =
    let q = after_quote text in
    ap (λ c. closed_or closed at (quote_close false (c ∷ text))) e ∙ closed_or-suc closed at (quote_close true text) ∙ ap (closed_or closed (at + 1)) q.is ∙
    sym (ap (closed_or (Some (at + 1)) (at + 1)) q.is)

second_quote : (closed : Option ℕ) (at b : ℕ) (text : List ℕ) → b ≡ 39 → closed ≡ Some at →
    closed_or closed at (quote_close true (b ∷ text)) ≡ closed_or closed (at + 1) (quote_close false text)
second_quote closed at b text e f = ap (λ c. closed_or closed at (quote_close true (c ∷ text))) e ∙ go (quote_close false text) ∙
    ap (λ c. closed_or c (at + 1) (quote_close false text)) (sym f)
  where
    go : (o : Option ℕ) → Some (at + unwrap_or (option_map suc o) 0) ≡ closed_or (Some at) (at + 1) o
    go None = ap Some (omega arith)
    go (Some n) = ap Some (omega arith)

other_byte : (closed : Option ℕ) (at b : ℕ) (text : List ℕ) → b ≢ 39 → b ≢ 10 →
    closed_or closed at (quote_close false (b ∷ text)) ≡ closed_or closed (at + 1) (quote_close false text)
other_byte closed at b text e f = ap (closed_or closed at) (cond-false _ _ _ (not_eqb b 39 e) ∙ cond-false _ _ _ (not_eqb b 10 f)) ∙
    closed_or-suc closed at (quote_close false text)

-- at a place of the text: what is found before it and what is found from it on give the answer
pub record Searched (text : List ℕ) (closed : Option ℕ) (is_after_quote : Bool) (at : ℕ) : Type 0 where
  pub rest : closed_or closed at (quote_close is_after_quote (drop at text)) ≡ quote_close false text
  pub found : is_after_quote ≡ true → closed ≡ Some at
  pub within : IfSome closed (λ n. (0 < n) × (n ≤ at))

-- the byte at a place and the bytes behind it
at_place : (text : List ℕ) (at : ℕ) → at < length text → drop at text ≡ get_or text at 0 ∷ drop (at + 1) text
at_place text at h = rw (add-one, drop-cons text at 0) refl

pub searched_start : (text : List ℕ) → Searched text None false 0
searched_start text = record { rest = closed_or-start (quote_close false text); found = λ e. (cc); within = tt }

further : (closed : Option ℕ) (at : ℕ) → IfSome closed (λ n. (0 < n) × (n ≤ at)) → IfSome closed (λ n. (0 < n) × (n ≤ at + 1))
further None at h = tt
further (Some n) at h = (h.0, (let m : n ≤ at = h.1 in omega arith))

module _ (text : List ℕ) (closed : Option ℕ) (is_after_quote : Bool) (at : ℕ) (here : at < length text) (s : Searched text closed is_after_quote at) where
  next_is : (t : Bool) → is_after_quote ≡ t → closed_or closed at (quote_close t (get_or text at 0 ∷ drop (at + 1) text)) ≡ quote_close false text
  next_is t e = ap (λ x. closed_or closed at (quote_close t x)) (sym (at_place text at here)) ∙
      ap (λ t. closed_or closed at (quote_close t (drop at text))) (sym e) ∙ s.rest

  -- the second quote of two
  pub searched_second : is_after_quote ≡ true → get_or text at 0 ≡ 39 → Searched text closed false (at + 1)
  searched_second e b = record {
    rest = sym (second_quote closed at (get_or text at 0) (drop (at + 1) text) b (s.found e)) ∙ next_is true e;
    found = λ f. (cc);
    within = further closed at s.within;
  }

  -- a quote that may close the literal
  pub searched_first : is_after_quote ≡ false → get_or text at 0 ≡ 39 → Searched text (Some (at + 1)) true (at + 1)
  searched_first e b = record {
    rest = sym (first_quote closed at (get_or text at 0) (drop (at + 1) text) b) ∙ next_is false e;
    found = λ f. refl;
    within = (omega arith, omega arith);
  }

  -- any other byte of the line
  pub searched_other : is_after_quote ≡ false → get_or text at 0 ≢ 39 → get_or text at 0 ≢ 10 → Searched text closed is_after_quote (at + 1)
  searched_other e b l = subst (λ t. Searched text closed t (at + 1)) (sym e) (record {
    rest = sym (other_byte closed at (get_or text at 0) (drop (at + 1) text) b l) ∙ next_is false e;
    found = λ f. (cc);
    within = further closed at s.within;
  })
