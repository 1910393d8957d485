-- What a patch changes, what it leaves, and where it may be made.
use Rattle.std.proofs.Common.{◌≡◌, ◌<◌, ◌+◌, ℕ, zero, suc, true, [], ◌∷◌, ◌++◌, length, map, refl, ap, ◌∙◌, sym, arith, append_assoc, length-append}
use Rattle.pfc_code.specs.declared.instructions.Instr.{Instr}
use Rattle.pfc_code.specs.declared.instructions.Instr.TheVariants.{JMP, JF, TURN, FORB, FORT, CEQ, ARMS, ARMR, ARMA, ARMT, SEL}
use Rattle.pfc_emit.specs.Addresses.{has_address, retargeted}
use Rattle.pfc_emit.specs.Patches.{Lined, has_address_at, patched}

-- ## Where an address stands

-- the address of an instruction that has an address argument is one of the code
pub within_code : (code : Lined) (at : ℕ) → has_address_at code at ≡ true → at < length code
within_code [] at has = cc
within_code (pair ∷ code) zero has = omega arith
within_code (pair ∷ code) (suc at) has = omega (arith, within_code code at has)

-- code that comes behind changes nothing
pub has_address_at-append_left :
    (xs ys : Lined) (at : ℕ) → at < length xs → has_address_at (xs ++ ys) at ≡ has_address_at xs at
has_address_at-append_left [] ys at within = absurd (omega arith)
has_address_at-append_left (pair ∷ xs) ys zero within = refl
has_address_at-append_left (pair ∷ xs) ys (suc at) within = has_address_at-append_left xs ys at (omega arith)

-- code that stands before moves the address
pub has_address_at-append_right :
    (xs ys : Lined) (at : ℕ) → has_address_at (xs ++ ys) (length xs + at) ≡ has_address_at ys at
has_address_at-append_right [] ys at = let e : 0 + at ≡ at = omega arith in rw e
has_address_at-append_right (pair ∷ xs) ys at =
    let e : suc (length xs) + at ≡ suc (length xs + at) = omega arith in
    rw e (has_address_at-append_right xs ys at)

-- an instruction between two parts of the code
pub has_address_at-between :
    (xs : Lined) (pair : Instr × ℕ) (ys : Lined) → has_address_at (xs ++ pair ∷ ys) (length xs) ≡ has_address pair.0
has_address_at-between [] pair ys = refl
has_address_at-between (x ∷ xs) pair ys = has_address_at-between xs pair ys

-- an instruction that was put last, with more code behind it
pub has_address_at-put :
    (xs : Lined) (instr : Instr) (line : ℕ) (ys : Lined) (at : ℕ) → at ≡ length xs
    → has_address_at ((xs ++ (instr, line) ∷ []) ++ ys) at ≡ has_address instr
has_address_at-put xs instr line ys at is = rw (is, append_assoc) (has_address_at-between xs (instr, line) ys)

-- an instruction keeps its address argument, with another value
pub has_address-retargeted :
    (instr : Instr) (target : ℕ) → has_address (retargeted instr target) ≡ has_address instr
has_address-retargeted (JMP a) target = refl
has_address-retargeted (JF a) target = refl
has_address-retargeted (TURN a) target = refl
has_address-retargeted (FORB d a) target = refl
has_address-retargeted (FORT d a) target = refl
has_address-retargeted (CEQ n a) target = refl
has_address-retargeted (ARMS z a) target = refl
has_address-retargeted (ARMR z a) target = refl
has_address-retargeted (ARMA e d z a) target = refl
has_address-retargeted (ARMT a) target = refl
has_address-retargeted (SEL p x) target = refl
has_address-retargeted instr target = refl

-- after a patch the same instructions have an address argument as before
pub has_address_at-patched :
    (code : Lined) (at target other : ℕ) → has_address_at (patched code at target) other ≡ has_address_at code other
has_address_at-patched [] at target other = refl
has_address_at-patched (pair ∷ code) zero target zero = has_address-retargeted pair.0 target
has_address_at-patched (pair ∷ code) zero target (suc other) = refl
has_address_at-patched (pair ∷ code) (suc at) target zero = refl
has_address_at-patched (pair ∷ code) (suc at) target (suc other) = has_address_at-patched code at target other

-- ## What a patch leaves

-- the number of instructions
pub length-patched : (code : Lined) (at target : ℕ) → length (patched code at target) ≡ length code
length-patched [] at target = refl
length-patched (pair ∷ code) zero target = refl
length-patched (pair ∷ code) (suc at) target = ap suc (length-patched code at target)

-- the lines
pub lines-patched :
    (code : Lined) (at target : ℕ) → map (λ pair. pair.1) (patched code at target) ≡ map (λ pair. pair.1) code
lines-patched [] at target = refl
lines-patched (pair ∷ code) zero target = refl
lines-patched (pair ∷ code) (suc at) target = ap (λ lines. pair.1 ∷ lines) (lines-patched code at target)

-- a patch inside the first part leaves the second
pub patched-append_left :
    (xs ys : Lined) (at target : ℕ) → at < length xs → patched (xs ++ ys) at target ≡ patched xs at target ++ ys
patched-append_left [] ys at target within = absurd (omega arith)
patched-append_left (pair ∷ xs) ys zero target within = refl
patched-append_left (pair ∷ xs) ys (suc at) target within =
    ap (λ code. pair ∷ code) (patched-append_left xs ys at target (omega arith))

-- a patch inside the second part leaves the first
pub patched-append_right :
    (xs ys : Lined) (at target : ℕ) → patched (xs ++ ys) (length xs + at) target ≡ xs ++ patched ys at target
patched-append_right [] ys at target = let e : 0 + at ≡ at = omega arith in rw e
patched-append_right (pair ∷ xs) ys at target =
    let e : suc (length xs) + at ≡ suc (length xs + at) = omega arith in
    rw e (ap (λ code. pair ∷ code) (patched-append_right xs ys at target))

-- ## What a patch changes

-- an instruction between two parts of the code
pub patched-between :
    (xs : Lined) (instr : Instr) (line : ℕ) (ys : Lined) (target : ℕ)
    → patched (xs ++ (instr, line) ∷ ys) (length xs) target ≡ xs ++ (retargeted instr target, line) ∷ ys
patched-between [] instr line ys target = refl
patched-between (pair ∷ xs) instr line ys target = ap (λ code. pair ∷ code) (patched-between xs instr line ys target)

-- an instruction that was put last, with more code behind it
pub patched-put :
    (xs : Lined) (instr : Instr) (line : ℕ) (ys : Lined) (at target : ℕ) → at ≡ length xs
    → patched ((xs ++ (instr, line) ∷ []) ++ ys) at target ≡ (xs ++ (retargeted instr target, line) ∷ []) ++ ys
patched-put xs instr line ys at target is =
    rw (is, append_assoc)
    (patched-between xs instr line ys target ∙ sym (append_assoc xs ((retargeted instr target, line) ∷ []) ys))

-- All that a caller needs who puts a jump, puts code behind it, and then patches the jump. A crate above makes a set of
-- its own of this one, and names that in the attribute of the function: `#[tactic(auto, using(crate::proofs::M::the_set))]`.
pub ruleset patches = (
  append_assoc,
  length-append,
  length-patched,
  has_address_at-append_left,
  has_address_at-put,
  has_address_at-patched,
  patched-append_left,
  patched-put,
)
