-- Comments at the front of a text.
use Rattle.std.proofs.Common.{◌≡◌, ◌≢◌, ℕ, ◌<◌, ◌≤◌, ◌+◌, Bool, true, false, ◌&&◌, ◌==◌, cond, ◌⊎◌, inl, inr, Option, Some, None, List, [], ◌∷◌, ◌++◌, length}
use Rattle.std.proofs.Common.{take, drop, suc, slice_index, ap, refl, ◌∙◌, sym, subst, arith, codes}
use Rattle.std.proofs.lemmas.Bool.{and_parts, eqb-true}
use Rattle.std.proofs.lemmas.List.{append_assoc, length-append, append_cancel_left, take-append-drop, length-take-le}
use Rattle.std.proofs.Math.Seq.{take-append-add, take-append_seam}
use Rattle.pfc_scan.specs.declared.piece.First.{First}
use Rattle.pfc_scan.specs.declared.piece.First.TheVariants.{Brace, Mark}
use Rattle.pfc_scan.specs.declared.piece.Reading.{Reading}
use Rattle.pfc_scan.specs.declared.piece.Reading.TheVariants.{Gap}
use Rattle.pfc_scan.specs.Pieces.{IsClosed, IsComment, comment}
use Rattle.pfc_scan.specs.Cutting.{NothingBegins, opens_comment}
use Rattle.pfc_scan.specs.Finding.{first_of, IsNextPiece, brace_close, star_close}
use Rattle.pfc_scan.proofs.Firsts.{Sort}
use Rattle.pfc_scan.proofs.Fronts.{next_by, nothing_by}

-- ---- bodies without a closer

-- the bytes hold the closer nowhere
abbrev pub IsFree : List ℕ → List ℕ → Type 0
IsFree closer body = (before after : List ℕ) → body ≢ before ++ (closer ++ after)

free_tail : (closer : List ℕ) (b : ℕ) (body : List ℕ) → IsFree closer (b ∷ body) → IsFree closer body
free_tail closer b body free before after e = free (b ∷ before) after (ap (λ x. b ∷ x) e)

brace_body : (body other left behind : List ℕ) → body ++ (125 ∷ left) ≡ other ++ (125 ∷ behind) →
    IsFree (125 ∷ []) body → IsFree (125 ∷ []) other → body ≡ other
brace_body [] [] left behind e f g = refl
brace_body [] (c ∷ other) left behind e f g = let same : c ≡ 125 = cc in absurd (g [] other (ap (λ x. x ∷ other) same))
brace_body (b ∷ body) [] left behind e f g = let same : b ≡ 125 = cc in absurd (f [] body (ap (λ x. x ∷ body) same))
brace_body (b ∷ body) (c ∷ other) left behind e f g =
    let same : b ≡ c = cc in
    let rest : body ≡ other = brace_body body other left behind (cc) (free_tail (125 ∷ []) b body f) (free_tail (125 ∷ []) c other g) in
    cc

two : (c d : ℕ) (rest : List ℕ) → c ≡ 42 → d ≡ 41 → c ∷ (d ∷ rest) ≡ 42 ∷ (41 ∷ rest)
two c d rest p q = cc

no_shift : (c : ℕ) (left behind : List ℕ) → 42 ∷ (41 ∷ left) ≡ c ∷ (42 ∷ behind) → ⊥
no_shift c left behind e = let same : ◌≡◌ {A = ℕ} 41 42 = cc in absurd (omega arith)

star_body : (body other left behind : List ℕ) → body ++ (42 ∷ (41 ∷ left)) ≡ other ++ (42 ∷ (41 ∷ behind)) → IsFree (42 ∷ (41 ∷ [])) body →
    IsFree (42 ∷ (41 ∷ [])) other → body ≡ other
star_body [] [] left behind e f g = refl
star_body [] (c ∷ []) left behind e f g = absurd (no_shift c left (41 ∷ behind) e)
star_body [] (c ∷ d ∷ other) left behind e f g =
    let first : c ≡ 42 = cc in
    let second : d ≡ 41 = cc in
    absurd (g [] other (two c d other first second))
star_body (b ∷ []) [] left behind e f g = absurd (no_shift b behind (41 ∷ left) (sym e))
star_body (b ∷ d ∷ body) [] left behind e f g =
    let first : b ≡ 42 = cc in
    let second : d ≡ 41 = cc in
    absurd (f [] body (two b d body first second))
star_body (b ∷ body) (c ∷ other) left behind e f g =
    let same : b ≡ c = cc in
    let rest : body ≡ other = star_body body other left behind (cc) (free_tail (42 ∷ (41 ∷ [])) b body f) (free_tail (42 ∷ (41 ∷ [])) c other g) in
    cc

-- ---- what a close finds

pub record FoundAt (closer text : List ℕ) (at n : ℕ) : Type 0 where
  pub body : List ℕ
  pub after : List ℕ
  pub is : text ≡ body ++ (closer ++ after)
  pub place : n ≡ at + (length body + length closer)

pub record FindsBy (found : Option ℕ) (most : ℕ) : Type 0 where
  pub place : ℕ
  pub is : found ≡ Some place
  pub least : place ≤ most

brace_found : (at : ℕ) (text : List ℕ) (n : ℕ) → brace_close at text ≡ Some n → FoundAt (125 ∷ []) text at n
brace_found at [] n h = cc
brace_found at (b ∷ text) n h = go (brace_found (at + 1) text n) (b == 125) refl h
  where
    go : (brace_close (at + 1) text ≡ Some n → FoundAt (125 ∷ []) text (at + 1) n) → (t : Bool) → (b == 125) ≡ t →
        cond t (Some (at + 1)) (brace_close (at + 1) text) ≡ Some n
        → FoundAt (125 ∷ []) (b ∷ text) at n
    go later true e h =
        let same : at + 1 ≡ n = cc in
        record { body = []; after = text; is = ap (λ x. x ∷ text) (eqb-true b 125 e); place = omega arith }
    go later false e h = let f = later h in record { body = b ∷ f.body; after = f.after; is = ap (λ x. b ∷ x) f.is; place = let p = f.place in omega arith }

brace_finds : (at : ℕ) (body after : List ℕ) → FindsBy (brace_close at (body ++ (125 ∷ after))) (at + (length body + 1))
brace_finds at [] after = record { place = at + 1; is = refl; least = omega arith }
brace_finds at (b ∷ body) after = go (brace_finds (at + 1) body after) (b == 125)
  where
    go : FindsBy (brace_close (at + 1) (body ++ (125 ∷ after))) ((at + 1) + (length body + 1)) → (t : Bool)
        → FindsBy (cond t (Some (at + 1)) (brace_close (at + 1) (body ++ (125 ∷ after)))) (at + (length (b ∷ body) + 1))
    go later true = record { place = at + 1; is = refl; least = omega arith }
    go later false = record { place = later.place; is = later.is; least = let l = later.least in omega arith }

-- behind a star the closer may be half read
abbrev StarFound : Bool → List ℕ → ℕ → ℕ → Type 0
StarFound is_after_star text at n = FoundAt (42 ∷ (41 ∷ [])) text at n ⊎ ((after : List ℕ) × (is_after_star ≡ true) × (text ≡ 41 ∷ after) × (n ≡ at + 1))

later_star : (b : ℕ) (text : List ℕ) (at n : ℕ) → StarFound (b == 42) text (at + 1) n → FoundAt (42 ∷ (41 ∷ [])) (b ∷ text) at n
later_star b text at n (inl f) = record { body = b ∷ f.body; after = f.after; is = ap (λ x. b ∷ x) f.is; place = let p = f.place in omega arith }
later_star b text at n (inr f) = record { body = []; after = f.0; is = star (eqb-true b 42 f.1) f.2; place = let p = f.3 in omega arith }
  where
    star : b ≡ 42 → text ≡ 41 ∷ f.0 → b ∷ text ≡ 42 ∷ (41 ∷ f.0)
    star p q = cc

star_found_by : (is_after_star : Bool) (at : ℕ) (text : List ℕ) (n : ℕ) → star_close is_after_star at text ≡ Some n → StarFound is_after_star text at n
star_found_by is_after_star at [] n h = cc
star_found_by is_after_star at (b ∷ text) n h = go (star_found_by (b == 42) (at + 1) text n) (is_after_star && b == 41) refl h
  where
    go : (star_close (b == 42) (at + 1) text ≡ Some n → StarFound (b == 42) text (at + 1) n) → (t : Bool) → (is_after_star && b == 41) ≡ t
        → cond t (Some (at + 1)) (star_close (b == 42) (at + 1) text) ≡ Some n → StarFound is_after_star (b ∷ text) at n
    go later true e h =
        let same : at + 1 ≡ n = cc in
        let parts = and_parts is_after_star (b == 41) e in
        inr (text, parts.0, ap (λ x. x ∷ text) (eqb-true b 41 parts.1), sym same)
    go later false e h = inl (later_star b text at n (later h))

star_found : (at : ℕ) (text : List ℕ) (n : ℕ) → star_close false at text ≡ Some n → FoundAt (42 ∷ (41 ∷ [])) text at n
star_found at text n h = go (star_found_by false at text n h)
  where
    go : StarFound false text at n → FoundAt (42 ∷ (41 ∷ [])) text at n
    go (inl f) = f
    go (inr f) = absurd (let e : false ≡ true = f.1 in cc)

star_finds : (is_after_star : Bool) (at : ℕ) (body after : List ℕ) →
    FindsBy (star_close is_after_star at (body ++ (42 ∷ (41 ∷ after)))) (at + (length body + 2))
star_finds true at [] after = record { place = (at + 1) + 1; is = refl; least = omega arith }
star_finds false at [] after = record { place = (at + 1) + 1; is = refl; least = omega arith }
star_finds is_after_star at (b ∷ body) after = go (star_finds (b == 42) (at + 1) body after) (is_after_star && b == 41)
  where
    go : FindsBy (star_close (b == 42) (at + 1) (body ++ (42 ∷ (41 ∷ after)))) ((at + 1) + (length body + 2)) → (t : Bool)
        → FindsBy (cond t (Some (at + 1)) (star_close (b == 42) (at + 1) (body ++ (42 ∷ (41 ∷ after))))) (at + (length (b ∷ body) + 2))
    go later true = record { place = at + 1; is = refl; least = omega arith }
    go later false = record { place = later.place; is = later.is; least = let l = later.least in omega arith }

-- ---- both kinds of comment alike

-- an opener and its closer, how the closer is found, and that it is the first
record Closes (opener closer : List ℕ) (close : List ℕ → Option ℕ) : Type 0 where
  found : (text : List ℕ) (n : ℕ) → close text ≡ Some n → FoundAt closer text 0 n
  finds : (body after : List ℕ) → FindsBy (close (body ++ (closer ++ after))) (0 + (length body + length closer))
  body : (body other left behind : List ℕ) → body ++ (closer ++ left) ≡ other ++ (closer ++ behind) → IsFree closer body → IsFree closer other → body ≡ other
  wide : 0 < length closer

braces : Closes (codes "{") (codes "}") (brace_close 0)
braces = record { found = brace_found 0; finds = brace_finds 0; body = brace_body; wide = omega arith }

stars : Closes (codes "(*") (codes "*)") (star_close false 0)
stars = record { found = star_found 0; finds = star_finds false 0; body = star_body; wide = omega arith }

-- what is found is a comment
closed_at : (opener closer : List ℕ) (close : List ℕ → Option ℕ) → Closes opener closer close → (text : List ℕ) (n : ℕ) → close text ≡ Some n →
    IsClosed opener closer (opener ++ take n text)
closed_at opener closer close k text n h =
    let f = k.found text n h in
    let width : length (f.body ++ closer) ≡ n = length-append f.body closer ∙ (let p = f.place in omega arith) in
    let front : take n text ≡ f.body ++ closer =
    ap (take n) (f.is ∙ sym (append_assoc f.body closer f.after)) ∙ ap (λ m. take m ((f.body ++ closer) ++ f.after)) (sym width) ∙
    take-append_seam (f.body ++ closer) f.after in
    record { body = f.body; is = ap (λ x. opener ++ x) front; next = free f.body f.after f.is f.place }
  where
    free : (body rest : List ℕ) → text ≡ body ++ (closer ++ rest) → n ≡ 0 + (length body + length closer) → IsFree closer body
    free body rest is place before after e =
        let cut : text ≡ before ++ (closer ++ (after ++ (closer ++ rest))) =
        is ∙ ap (λ x. x ++ (closer ++ rest)) e ∙ append_assoc before (closer ++ after) (closer ++ rest) ∙
        ap (λ x. before ++ x) (append_assoc closer after (closer ++ rest)) in
        let g = k.finds before (after ++ (closer ++ rest)) in
        let same : Some n ≡ Some g.place = sym h ∙ ap close cut ∙ g.is in
        let at : n ≡ g.place = cc in
        let least : g.place ≤ 0 + (length before + length closer) = g.least in
        let long : length body ≡ length before + length (closer ++ after) = ap length e ∙ length-append before (closer ++ after) in
        let more : length (closer ++ after) ≡ length closer + length after = length-append closer after in
        let wide : 0 < length closer = k.wide in
        absurd (omega arith)

-- a comment that begins here is the one that is found
closed_same : (opener closer : List ℕ) (close : List ℕ → Option ℕ) → Closes opener closer close → (rest piece left : List ℕ) →
    opener ++ rest ≡ piece ++ left → (c : IsClosed opener closer piece)
    → rest ≡ c.body ++ (closer ++ left)
closed_same opener closer close k rest piece left cut c =
    append_cancel_left opener rest (c.body ++ (closer ++ left))
    (cut ∙ ap (λ p. p ++ left) c.is ∙ append_assoc opener (c.body ++ closer) left ∙ ap (λ x. opener ++ x) (append_assoc c.body closer left))

-- two comments that begin one text are one
closed_one : (opener closer : List ℕ) (close : List ℕ → Option ℕ) → Closes opener closer close → (text piece other behind left : List ℕ) →
    opener ++ text ≡ piece ++ behind → opener ++ text ≡ other ++ left
    → IsClosed opener closer piece → IsClosed opener closer other → piece ≡ other
closed_one opener closer close k text piece other behind left a b c d =
    let e = closed_same opener closer close k text piece behind a c in
    let f = closed_same opener closer close k text other left b d in
    let body : c.body ≡ d.body = k.body c.body d.body behind left (sym e ∙ f) c.next d.next in
    c.is ∙ ap (λ x. opener ++ (x ++ closer)) body ∙ sym d.is

-- what can begin a text that opens such a comment: a comment of this opener
abbrev OnlyClosed : First → List ℕ → List ℕ → List ℕ → Type 0
OnlyClosed f opener closer text = (other left : List ℕ) (r : Reading) → text ≡ other ++ left → Sort f other r →
    (opens_comment text ≡ true → IsComment other) → IsClosed opener closer other

-- the comment of so many bytes is the longest piece
closed_next : (b : ℕ) (more closer : List ℕ) (close : List ℕ → Option ℕ) → Closes (b ∷ more) closer close → (f : First) (text : List ℕ) (n : ℕ) → first_of b ≡ f
    → close text ≡ Some n → ((piece : List ℕ) → IsClosed (b ∷ more) closer piece → IsComment piece) → OnlyClosed f (b ∷ more) closer ((b ∷ more) ++ text)
    → IsNextPiece ((b ∷ more) ++ text) (record { length = length (b ∷ more) + n; reading = Gap })
closed_next b more closer close k f text n first h kind only =
    let found = k.found text n h in
    let long : length text ≡ length found.body + length (closer ++ found.after) = ap length found.is ∙ length-append found.body (closer ++ found.after) in
    let wide : length (closer ++ found.after) ≡ length closer + length found.after = length-append closer found.after in
    let place : n ≡ 0 + (length found.body + length closer) = found.place in
    let whole : length ((b ∷ more) ++ text) ≡ length (b ∷ more) + length text = length-append (b ∷ more) text in
    let within : length (b ∷ more) + n ≤ length ((b ∷ more) ++ text) = omega arith in
    let front : take (length (b ∷ more) + n) ((b ∷ more) ++ text) ≡ (b ∷ more) ++ take n text = take-append-add (b ∷ more) text n in
    let piece : IsClosed (b ∷ more) closer (take (length (b ∷ more) + n) ((b ∷ more) ++ text)) =
    subst (IsClosed (b ∷ more) closer) (sym front) (closed_at (b ∷ more) closer close k text n h) in
    next_by f b (more ++ text) (length (b ∷ more) + n) Gap first (omega arith) within (comment (kind _ piece) refl) (λ _. kind _ piece)
    (λ other left r cut sort opened.
    let same = closed_one (b ∷ more) closer close k text _ other _ left (sym (take-append-drop (length (b ∷ more) + n) ((b ∷ more) ++ text))) cut
    piece (only other left r cut sort opened) in
    let size : length other ≡ length (b ∷ more) + n = ap length (sym same) ∙ length-take-le (length (b ∷ more) + n) ((b ∷ more) ++ text) within in
    omega arith)

-- and without one nothing begins
closed_none : (b : ℕ) (more closer : List ℕ) (close : List ℕ → Option ℕ) → Closes (b ∷ more) closer close → (f : First) (text : List ℕ) → first_of b ≡ f
    → close text ≡ None → OnlyClosed f (b ∷ more) closer ((b ∷ more) ++ text) → NothingBegins ((b ∷ more) ++ text)
closed_none b more closer close k f text first h only =
    nothing_by f b (more ++ text) first
    (λ other left r cut sort opened.
    let c = only other left r cut sort opened in
    let found = k.finds c.body left in
    let e : None ≡ Some found.place = sym h ∙ ap close (closed_same (b ∷ more) closer close k text other left cut c) ∙ found.is in
    absurd (cc))

-- ---- the two comments

brace_only : (text : List ℕ) → OnlyClosed Brace (codes "{") (codes "}") (123 ∷ text)
brace_only text other left r cut sort opened = sort.0

star_only : (text : List ℕ) → OnlyClosed Mark (codes "(*") (codes "*)") (40 ∷ (42 ∷ text))
star_only text other left r cut sort opened = go (opened refl)
  where
    go : IsComment other → IsClosed (codes "(*") (codes "*)") other
    go (inl c) =
        let e : 40 ∷ (42 ∷ text) ≡ 123 ∷ ((c.body ++ codes "}") ++ left) = cut ∙ ap (λ p. p ++ left) c.is in
        let same : ◌≡◌ {A = ℕ} 40 123 = cc in
        absurd (omega arith)
    go (inr c) = c

-- a text by its first bytes
pub one_byte : (text : List ℕ) (b : ℕ) → slice_index text 0 ≡ suc b → text ≡ suc b ∷ drop 1 text
one_byte [] b h = absurd (omega arith)
one_byte (c ∷ text) b h = ap (λ x. x ∷ text) h

pub two_bytes : (text : List ℕ) (b c : ℕ) → slice_index text 0 ≡ suc b → slice_index text 1 ≡ suc c → text ≡ suc b ∷ (suc c ∷ drop 2 text)
two_bytes [] b c h k = absurd (omega arith)
two_bytes (x ∷ []) b c h k = absurd (omega arith)
two_bytes (x ∷ y ∷ text) b c h k = cc

pub brace_next : (text : List ℕ) (n : ℕ) → slice_index text 0 ≡ 123 → brace_close 0 (drop 1 text) ≡ Some n →
    IsNextPiece text (record { length = 1 + n; reading = Gap })
brace_next text n h found =
    subst (λ t. IsNextPiece t (record { length = 1 + n; reading = Gap })) (sym (one_byte text 122 h))
    (closed_next 123 [] (codes "}") (brace_close 0) braces Brace (drop 1 text) n refl found (λ p c. inl c) (brace_only (drop 1 text)))

pub brace_none : (text : List ℕ) → slice_index text 0 ≡ 123 → brace_close 0 (drop 1 text) ≡ None → NothingBegins text
brace_none text h found =
    subst NothingBegins (sym (one_byte text 122 h)) (closed_none 123 [] (codes "}") (brace_close 0) braces Brace
    (drop 1 text) refl found (brace_only (drop 1 text)))

pub star_next : (text : List ℕ) (n : ℕ) → slice_index text 0 ≡ 40 → slice_index text 1 ≡ 42 → star_close false 0 (drop 2 text) ≡ Some n →
    IsNextPiece text (record { length = 2 + n; reading = Gap })
star_next text n h k found =
    subst (λ t. IsNextPiece t (record { length = 2 + n; reading = Gap })) (sym (two_bytes text 39 41 h k))
    (closed_next 40 (42 ∷ []) (codes "*)") (star_close false 0) stars Mark (drop 2 text) n refl found (λ p c. inr c) (star_only (drop 2 text)))

pub star_none : (text : List ℕ) → slice_index text 0 ≡ 40 → slice_index text 1 ≡ 42 → star_close false 0 (drop 2 text) ≡ None → NothingBegins text
star_none text h k found =
    subst NothingBegins (sym (two_bytes text 39 41 h k)) (closed_none 40 (42 ∷ []) (codes "*)") (star_close false 0) stars Mark
    (drop 2 text) refl found (star_only (drop 2 text)))

-- what is found is within the text
found_within : (closer text : List ℕ) (n : ℕ) → FoundAt closer text 0 n → n ≤ length text
found_within closer text n f =
    let long : length text ≡ length f.body + length (closer ++ f.after) = ap length f.is ∙ length-append f.body (closer ++ f.after) in
    let wide : length (closer ++ f.after) ≡ length closer + length f.after = length-append closer f.after in
    let place = f.place in
    omega arith

pub brace_within : (text : List ℕ) (n : ℕ) → brace_close 0 text ≡ Some n → n ≤ length text
brace_within text n h = found_within (125 ∷ []) text n (brace_found 0 text n h)

pub star_within : (text : List ℕ) (n : ℕ) → star_close false 0 text ≡ Some n → n ≤ length text
star_within text n h = found_within (42 ∷ (41 ∷ [])) text n (star_found 0 text n h)
