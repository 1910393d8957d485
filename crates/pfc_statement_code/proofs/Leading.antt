-- Instructions that get an address when more code is put: what was made before and behind them stays made.
use Rattle.std.proofs.Common.{◌≡◌, ◌<◌, ◌≤◌, ◌+◌, ◌++◌, ◌&&◌, ℕ, Bool, true, false, List, [], ◌∷◌, length, refl, sym, ap, ap₂, ◌∙◌, arith, append_assoc}
use Rattle.std.proofs.Common.{append-nil, length-append}
use Rattle.pfc_code.specs.declared.instructions.Instr.{Instr}
use Rattle.pfc_translation.specs.Sites.{Site}
use Rattle.pfc_translation.specs.Codes.{Code, Lined, ◌⨾◌, one, over}
use Rattle.pfc_emit.specs.Addresses.{has_address, retargeted}
use Rattle.pfc_emit.specs.Patches.{has_address_at, patched}
use Rattle.pfc_emit.proofs.Patches.{within_code, has_address_at-append_left, has_address_at-between, has_address_at-patched, length-patched}
use Rattle.pfc_emit.proofs.Patches.{patched-append_left, patched-between}
use Rattle.pfc_expression_code.specs.Putting.{Made, IsMade}
use Rattle.pfc_expression_code.proofs.Joining.{made_both}
use Rattle.pfc_statement_code.specs.Leading.{have_all, all_led}
use Rattle.pfc_statement_code.proofs.Making.{made_left, made_over}

-- ## Patches of a front of the code

-- it changes nothing behind the first so many instructions, and keeps which instructions have an address
pub record IsPatching (h : ℕ) (f : Lined → Lined) : Type 0 where
  pub front : (l m : Lined) → h ≤ length l → f (l ++ m) ≡ f l ++ m
  pub long : (l : Lined) → length (f l) ≡ length l
  pub has : (l : Lined) (at : ℕ) → has_address_at (f l) at ≡ has_address_at l at

pub patching_none : (h : ℕ) → IsPatching h (λ l. l)
patching_none h = record { front = λ l m fits. refl; long = λ l. refl; has = λ l at. refl }

pub patching_one : (h at t : ℕ) → at < h → IsPatching h (λ l. patched l at t)
patching_one h at t within =
    record {
      front = λ l m fits. patched-append_left l m at t (omega (arith, within, fits));
      long = λ l. length-patched l at t;
      has = λ l other. has_address_at-patched l at t other;
    }

-- one behind the other
pub patching_both : (h : ℕ) (f g : Lined → Lined) → IsPatching h f → IsPatching h g → IsPatching h (λ l. g (f l))
patching_both h f g first second =
    record {
      front = λ l m fits. ap g (first.front l m fits) ∙ second.front (f l) m (omega (arith, fits, first.long l));
      long = λ l. second.long (f l) ∙ first.long l;
      has = λ l at. second.has (f l) at ∙ first.has l at;
    }

-- of a longer front
pub patching_more : (h k : ℕ) (f : Lined → Lined) → h ≤ k → IsPatching h f → IsPatching k f
patching_more h k f fits is = record { front = λ l m more. is.front l m (omega (arith, fits, more)); long = is.long; has = is.has }

abbrev pub through : (Lined → Lined) → Made → Made
through f m = record m { code = f m.code }

-- code that was put behind the front is put there when the front is patched
pub made_through :
    (h : ℕ) (f : Lined → Lined) (c : Code) (x y : Made) → IsPatching h f → h ≤ length x.code → IsMade c x y → IsMade c (through f x) (through f y)
made_through h f c x y is fits made =
    record {
      code =
          ap f made.code ∙ is.front x.code (c.put (length x.code) (length x.texts)) fits
          ∙ ap (λ k. f x.code ++ c.put k (length x.texts)) (sym (is.long x.code));
      texts = made.texts;
      arms = made.arms;
      size = is.long y.code ∙ made.size ∙ ap (λ k. k + c.size) (sym (is.long x.code));
    }

-- ## One instruction

abbrev pub led : Made → ℕ → ℕ → Made
led m at t = record m { code = patched m.code at t }

pub made_later : (c : Code) (x y : Made) (at t : ℕ) → at < length x.code → IsMade c x y → IsMade c (led x at t) (led y at t)
made_later c x y at t within made =
    made_through (length x.code) (λ l. patched l at t) c x y (patching_one (length x.code) at t within) (omega arith) made

-- the last instruction gets an address
pub last_led :
    (s : Site) (a : Code) (i j : Instr) (x y : Made) (at t : ℕ) → IsMade (a ⨾ one s i) x y → length y.code ≡ at + 1 → retargeted i t ≡ j
    → IsMade (a ⨾ one s j) x (led y at t)
last_led s a i j x y at t made last is =
    let put : Lined = a.put (length x.code) (length x.texts) in
    let before : Lined = x.code ++ put in
    let split : y.code ≡ before ++ (i, s.line) ∷ [] = made.code ∙ sym (append_assoc x.code put ((i, s.line) ∷ [])) in
    let here : at ≡ length before = omega (arith, ap length split, length-append before ((i, s.line) ∷ []), last) in
    record {
      code =
          ap₂ (λ (l : Lined) k. patched l k t) split here ∙ patched-between before i s.line [] t
          ∙ ap (λ k. before ++ (k, s.line) ∷ []) is ∙ append_assoc x.code put ((j, s.line) ∷ []);
      texts = made.texts;
      arms = made.arms;
      size = length-patched y.code at t ∙ made.size;
    }

-- it has one
pub last_has :
    (s : Site) (a : Code) (i : Instr) (x y : Made) (at : ℕ) → IsMade (a ⨾ one s i) x y → length y.code ≡ at + 1 → has_address i ≡ true
    → has_address_at y.code at ≡ true
last_has s a i x y at made last has =
    let put : Lined = a.put (length x.code) (length x.texts) in
    let before : Lined = x.code ++ put in
    let split : y.code ≡ before ++ (i, s.line) ∷ [] = made.code ∙ sym (append_assoc x.code put ((i, s.line) ∷ [])) in
    let here : at ≡ length before = omega (arith, ap length split, length-append before ((i, s.line) ∷ []), last) in
    ap₂ (λ (l : Lined) k. has_address_at l k) split here ∙ has_address_at-between before (i, s.line) [] ∙ has

-- and keeps it when more is put
pub later_has : (c : Code) (y z : Made) (at : ℕ) → IsMade c y z → has_address_at y.code at ≡ true → has_address_at z.code at ≡ true
later_has c y z at made has =
    let put : Lined = c.put (length y.code) (length y.texts) in
    ap (λ (l : Lined). has_address_at l at) made.code ∙ has_address_at-append_left y.code put at (within_code y.code at has) ∙ has

-- ## A jump over code

-- A jump is put with any address, and code behind it. When it is led behind so many instructions more, it is the jump that passes the code.
pub jump_led :
    (s : Site) (i : Instr) (j : ℕ → Instr) (a : Code) (at t count : ℕ) (x y : Made)
    → IsMade (a ⨾ one s i) x y → length y.code ≡ at + 1 → ((n : ℕ) → retargeted i n ≡ j n) → t ≡ at + 1 + count
    → IsMade (a ⨾ over s j count) x (led y at t)
jump_led s i j a at t count x y made last is leads =
    made_over s a j t count x (led y at t) (last_led s a i (j t) x y at t made last (is t)) (omega (arith, leads, last, length-patched y.code at t))

pub passed :
    (s : Site) (i : Instr) (j : ℕ → Instr) (a c : Code) (at t count : ℕ) (x y z : Made)
    → IsMade (a ⨾ one s i) x y → length y.code ≡ at + 1 → ((n : ℕ) → retargeted i n ≡ j n) → t ≡ at + 1 + count → IsMade c y z
    → IsMade (a ⨾ over s j count ⨾ c) x (led z at t)
passed s i j a c at t count x y z made last is leads behind =
    made_left a (over s j count) c x (led z at t)
    (made_both (a ⨾ over s j count) c x (led y at t) (led z at t) (jump_led s i j a at t count x y made last is leads)
    (made_later c y z at t (omega (arith, last)) behind))

-- with more behind it
pub passed_then :
    (s : Site) (i : Instr) (j : ℕ → Instr) (a c d : Code) (at t count : ℕ) (x y z w : Made)
    → IsMade (a ⨾ one s i) x y → length y.code ≡ at + 1 → ((n : ℕ) → retargeted i n ≡ j n) → t ≡ at + 1 + count → IsMade c y z
    → IsMade d (led z at t) w → IsMade (a ⨾ over s j count ⨾ c ⨾ d) x w
passed_then s i j a c d at t count x y z w made last is leads behind then =
    made_left a (over s j count) (c ⨾ d) x w
    (made_both (a ⨾ over s j count) (c ⨾ d) x (led y at t) w (jump_led s i j a at t count x y made last is leads)
    (made_both c d (led y at t) (led z at t) w (made_later c y z at t (omega (arith, last)) behind) then))

-- ## Many instructions

pub have_all-patched : (code : Lined) (at t : ℕ) (ats : List ℕ) → have_all (patched code at t) ats ≡ have_all code ats
have_all-patched code at t [] = refl
have_all-patched code at t (other ∷ ats) =
    ap₂ (λ a b. a && b) (has_address_at-patched code at t other) (have_all-patched code at t ats)

-- a loop that leads them
pub ruleset kept = (have_all-patched, within_code, length-patched)

pub and-left : (a b : Bool) → (a && b) ≡ true → a ≡ true
and-left true b h = refl
and-left false b h = h

pub and-right : (a b : Bool) → (a && b) ≡ true → b ≡ true
and-right true b h = h
and-right false b h = cc

-- one list behind the other
pub all_led-both : (code : Lined) (xs ys : List ℕ) (t : ℕ) → all_led code (xs ++ ys) t ≡ all_led (all_led code xs t) ys t
all_led-both code [] ys t = refl
all_led-both code (x ∷ xs) ys t = all_led-both (patched code x t) xs ys t

pub have_all-both : (code : Lined) (xs ys : List ℕ) → have_all code xs ≡ true → have_all code ys ≡ true → have_all code (xs ++ ys) ≡ true
have_all-both code [] ys first second = second
have_all-both code (x ∷ xs) ys first second =
    let has = and-left (has_address_at code x) (have_all code xs) first in
    let more = have_all-both code xs ys (and-right (has_address_at code x) (have_all code xs) first) second in
    ap₂ (λ a b. a && b) has more

-- all of them are instructions of the code
pub all_patching : (code : Lined) (ats : List ℕ) (t : ℕ) → have_all code ats ≡ true → IsPatching (length code) (λ l. all_led l ats t)
all_patching code [] t has = patching_none (length code)
all_patching code (at ∷ ats) t has =
    patching_both (length code) (λ l. patched l at t) (λ l. all_led l ats t)
    (patching_one (length code) at t (within_code code at (and-left (has_address_at code at) (have_all code ats) has)))
    (all_patching code ats t (and-right (has_address_at code at) (have_all code ats) has))

-- ## More code behind

pub record IsBehind (x y : Made) : Type 0 where
  pub rest : Lined
  pub is : y.code ≡ x.code ++ rest

pub behind_none : (x y : Made) → x ≡ y → IsBehind x y
behind_none x y same = record { rest = []; is = ap (λ (m : Made). m.code) (sym same) ∙ sym (append-nil x.code) }

pub behind_made : (c : Code) (x y z : Made) → IsMade c x y → IsBehind y z → IsBehind x z
behind_made c x y z made more =
    let put : Lined = c.put (length x.code) (length x.texts) in
    record {
      rest = put ++ more.rest;
      is = more.is ∙ ap (λ (l : Lined). l ++ more.rest) made.code ∙ append_assoc x.code put more.rest;
    }

pub behind_has : (x y : Made) (at : ℕ) → IsBehind x y → has_address_at x.code at ≡ true → has_address_at y.code at ≡ true
behind_has x y at more has =
    ap (λ (l : Lined). has_address_at l at) more.is ∙ has_address_at-append_left x.code more.rest at (within_code x.code at has) ∙ has
