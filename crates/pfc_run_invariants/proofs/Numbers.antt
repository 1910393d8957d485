-- What operators and functions give has 32 bits, and so have numbers that are read and drawn.
use Rattle.std.proofs.Common.{◌≡◌, ℕ, zero, suc, ◌+◌, ◌%◌, ◌<◌, ◌≤◌, ℤ, pos, negsuc, ◌+ℤ◌, ◌-ℤ◌, Bool, true, false, if◌then◌else◌, List, [], ◌∷◌, Option, Some}
use Rattle.std.proofs.Common.{None, Result, Ok, Err, refl, arith}
use Rattle.std.proofs.lemmas.Bool.Decides.{nat_tests}
use Rattle.std.proofs.lemmas.Int.{rem_below}
use Rattle.std.proofs.Math.Nat.{mod-lt}
use Rattle.std.specs.Prelude.{unsigned_abs, int_lt, int_rem, int_div, neg_ℤ, ◌*ℤ◌, ◌==◌, ◌&&◌, ◌||◌}
use Rattle.std.specs.Ordering.{int_eq}
use Rattle.rand_pcg.specs.Lcg.{Lcg}
use Rattle.pfc_base.specs.declared.places.Place.{Place}
use Rattle.pfc_base.specs.declared.faults.RunFault.{RunFault}
use Rattle.pfc_base.specs.declared.faults.RunFault.TheVariants.{Overflow, Division, Range}
use Rattle.pfc_tree.specs.declared.tree.Sign.{Sign}
use Rattle.pfc_tree.specs.declared.tree.Sign.TheVariants.{Plus, Minus}
use Rattle.pfc_tree.specs.declared.tree.AddOp.{AddOp}
use Rattle.pfc_tree.specs.declared.tree.AddOp.TheVariants.{Add, Sub, Or}
use Rattle.pfc_tree.specs.declared.tree.MulOp.{MulOp}
use Rattle.pfc_tree.specs.declared.tree.MulOp.TheVariants.{Mul, Div, Mod, And}
use Rattle.pfc_values.specs.declared.simple.Simple.{Simple}
use Rattle.pfc_values.specs.declared.simple.Simple.TheVariants.{Integer, Boolean, Char}
use Rattle.pfc_values.specs.Numbers.{Outcome, is_of, greatest, least, fitting, truth, is_true, remainder_of, char_of, next_of, before_of}
use Rattle.pfc_values.specs.Inputs.{Item, item, is_digit, is_blank, signed_item, unsigned_item, read_to, char_item, digits, behind_digits, behind_blanks}
use Rattle.pfc_values.specs.Inputs.{number_behind}
use Rattle.pfc_sched.specs.Words.{word}
use Rattle.pfc_sched.specs.Draws.{drawn}
use Rattle.pfc_semantics.specs.Operators.{signed, added, multiplied, applied}
use Rattle.pfc_semantics.specs.Predeclared.{Function, abs, sqr, odd, chr, succ, pred}
use Rattle.pfc_run_invariants.specs.Fitting.{Fits, FitsOutcome}
use Rattle.pfc_run_invariants.specs.Inputs.{AreBytes}

pub fitting_fits : (n : ℤ) → FitsOutcome (fitting n)
fitting_fits n = by (is_of Integer n) refl
  where
    by : (b : Bool) → is_of Integer n ≡ b → FitsOutcome (if b then Ok n else Err Overflow)
    by true e = e
    by false e = tt

pub truth_fits : (b : Bool) → Fits (truth b)
truth_fits true = refl
truth_fits false = refl

-- ## Operators

small : (n : ℤ) → unsigned_abs n < 2147483648 → Fits n
small (pos n) below = grind (arith, nat_tests)
small (negsuc n) below = grind (arith, nat_tests)

size : (n : ℤ) → Fits n → unsigned_abs n ≤ 2147483648
size (pos n) fits = grind (arith, nat_tests)
size (negsuc n) fits = grind (arith, nat_tests)

remainder_fits : (a b : ℤ) → Fits b → FitsOutcome (remainder_of a b)
remainder_fits a b fits = by (int_eq b (pos 0)) refl
  where
    not_zero : (n : ℤ) → int_eq n (pos 0) ≡ false → 0 < unsigned_abs n
    not_zero (pos zero) e = absurd (cc)
    not_zero (pos (suc n)) e = omega arith
    not_zero (negsuc n) e = omega arith

    by : (z : Bool) → int_eq b (pos 0) ≡ z → FitsOutcome (if z then Err Division else Ok (int_rem a b))
    by true e = tt
    by false e = let below = rem_below a b (not_zero b e) in let most = size b fits in small (int_rem a b) (omega (arith, below, most))

quotient_fits : (a b : ℤ) → FitsOutcome (if int_eq b (pos 0) then Err Division else fitting (int_div a b))
quotient_fits a b = by (int_eq b (pos 0))
  where
    by : (z : Bool) → FitsOutcome (if z then Err Division else fitting (int_div a b))
    by true = tt
    by false = fitting_fits (int_div a b)

pub signed_fits : (sign : Option (Sign × Place)) (n : ℤ) → Fits n → FitsOutcome (signed sign n)
signed_fits None n fits = fits
signed_fits (Some (Plus, p)) n fits = fits
signed_fits (Some (Minus, p)) n fits = fitting_fits (neg_ℤ n)

pub added_fits : (op : AddOp) (a b : ℤ) → FitsOutcome (added op a b)
added_fits Add a b = fitting_fits (a +ℤ b)
added_fits Sub a b = fitting_fits (a -ℤ b)
added_fits Or a b = truth_fits (is_true a || is_true b)

pub multiplied_fits : (op : MulOp) (a b : ℤ) → Fits b → FitsOutcome (multiplied op a b)
multiplied_fits Mul a b fits = fitting_fits (a *ℤ b)
multiplied_fits Div a b fits = quotient_fits a b
multiplied_fits Mod a b fits = remainder_fits a b fits
multiplied_fits And a b fits = truth_fits (is_true a && is_true b)

-- ## Functions

char_fits : (n : ℤ) → FitsOutcome (char_of n)
char_fits n = by (is_of Char n) refl
  where
    by : (b : Bool) → is_of Char n ≡ b → FitsOutcome (if b then Ok n else Err Range)
    by true e = grind (arith, nat_tests)
    by false e = tt

next_fits : (t : Simple) (n : ℤ) → Fits n → FitsOutcome (next_of t n)
next_fits t n fits = by t (int_lt n (greatest t)) refl
  where
    by : (u : Simple) (b : Bool) → int_lt n (greatest u) ≡ b → FitsOutcome (if b then Ok (n +ℤ pos 1) else Err Range)
    by Integer true e = grind (arith, nat_tests)
    by Boolean true e = grind (arith, nat_tests)
    by Char true e = grind (arith, nat_tests)
    by u false e = tt

before_fits : (t : Simple) (n : ℤ) → Fits n → FitsOutcome (before_of t n)
before_fits t n fits = by t (int_lt (least t) n) refl
  where
    by : (u : Simple) (b : Bool) → int_lt (least u) n ≡ b → FitsOutcome (if b then Ok (n -ℤ pos 1) else Err Range)
    by Integer true e = grind (arith, nat_tests)
    by Boolean true e = grind (arith, nat_tests)
    by Char true e = grind (arith, nat_tests)
    by u false e = tt

pub applied_fits : (f : Function) (t : Simple) (n : ℤ) → Fits n → FitsOutcome (applied f t n)
applied_fits abs t n fits = fitting_fits (if int_lt n (pos 0) then neg_ℤ n else n)
applied_fits sqr t n fits = fitting_fits (n *ℤ n)
applied_fits odd t n fits = truth_fits (is_true (int_rem n (pos 2)))
applied_fits chr t n fits = char_fits n
applied_fits succ t n fits = next_fits t n fits
applied_fits pred t n fits = before_fits t n fits
applied_fits f t n fits = fits

-- ## Input and draws

abbrev pub FitsItem : Result Item RunFault → Type 0
FitsItem (Ok i) = Fits i.value × AreBytes i.left
FitsItem (Err f) = Unit {0}

-- what is left is the end of what was there
behind_digits_bytes : (bytes : List ℕ) → AreBytes bytes → AreBytes (behind_digits bytes)
behind_digits_bytes [] all = tt
behind_digits_bytes (b ∷ rest) all = by (is_digit b) (behind_digits_bytes rest all.1)
  where
    by : (d : Bool) → AreBytes (behind_digits rest) → AreBytes (if d then behind_digits rest else b ∷ rest)
    by true later = later
    by false later = all

behind_blanks_bytes : (bytes : List ℕ) → AreBytes bytes → AreBytes (behind_blanks bytes)
behind_blanks_bytes [] all = tt
behind_blanks_bytes (b ∷ rest) all = by (is_blank b) (behind_blanks_bytes rest all.1)
  where
    by : (d : Bool) → AreBytes (behind_blanks rest) → AreBytes (if d then behind_blanks rest else b ∷ rest)
    by true later = later
    by false later = all

read_fits : (left : List ℕ) (o : Outcome) → AreBytes left → FitsOutcome o → FitsItem (read_to left o)
read_fits left (Ok v) all fits = (fits, all)
read_fits left (Err f) all fits = tt

unsigned_fits : (negative : Bool) (bytes ds : List ℕ) → AreBytes bytes → FitsItem (unsigned_item negative bytes ds)
unsigned_fits negative bytes [] all = tt
unsigned_fits negative bytes (d ∷ ds) all =
    let n = pos (number_behind 0 (d ∷ ds)) in
    let v = if negative then neg_ℤ n else n in
    read_fits (behind_digits bytes) (fitting v) (behind_digits_bytes bytes all) (fitting_fits v)

either_fits : (b : Bool) (i j : Result Item RunFault) → FitsItem i → FitsItem j → FitsItem (if b then i else j)
either_fits true i j first second = first
either_fits false i j first second = second

signed_item_fits : (bytes : List ℕ) → AreBytes bytes → FitsItem (signed_item bytes)
signed_item_fits [] all = tt
signed_item_fits (b ∷ rest) all =
    let plus = unsigned_item false rest (digits rest) in
    let minus = unsigned_item true rest (digits rest) in
    let plain = unsigned_item false (b ∷ rest) (digits (b ∷ rest)) in
    either_fits (b == 43) plus (if b == 45 then minus else plain) (unsigned_fits false rest (digits rest) all.1)
    (either_fits (b == 45) minus plain (unsigned_fits true rest (digits rest) all.1) (unsigned_fits false (b ∷ rest) (digits (b ∷ rest)) all))

byte_fits : (b : ℕ) → b ≤ 255 → Fits (pos (if b == 10 then 32 else b))
byte_fits b most = by (b == 10)
  where
    by : (t : Bool) → Fits (pos (if t then 32 else b))
    by true = refl
    by false = grind (arith, nat_tests)

char_item_fits : (bytes : List ℕ) → AreBytes bytes → FitsItem (char_item bytes)
char_item_fits [] all = tt
char_item_fits (b ∷ rest) all = (byte_fits b all.0, all.1)

pub item_fits : (t : Simple) (bytes : List ℕ) → AreBytes bytes → FitsItem (item t bytes)
item_fits Integer bytes all = signed_item_fits (behind_blanks bytes) (behind_blanks_bytes bytes all)
item_fits Boolean bytes all = char_item_fits bytes all
item_fits Char bytes all = char_item_fits bytes all

pub drawn_fits : (words : Lcg) (n : ℤ) → Fits n → FitsOutcome (drawn words n)
drawn_fits words (pos n) fits =
    let below = mod-lt (word words) {m = n + 1} (omega arith) in
    let most = size (pos n) fits in
    by (word words % (n + 1)) below
  where
    by : (m : ℕ) → m < n + 1 → Fits (pos m)
    by m below = grind (arith, nat_tests)
drawn_fits words (negsuc n) fits = tt
