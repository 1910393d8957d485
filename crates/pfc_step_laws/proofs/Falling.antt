-- Where a process goes on quietly, fewer instructions are ahead than before.
use Rattle.std.proofs.Common.{◌≡◌, ℕ, zero, suc, ◌+◌, ◌-◌, ◌<◌, List, [], ◌∷◌, drop, get_or, slice_get, Some, IfSome, refl, sym, ap, ◌∙◌}
use Rattle.std.proofs.Common.{subst, arith}
use Rattle.std.proofs.lemmas.List.{get_or-drop}
use Rattle.std.proofs.lemmas.Option.{none-some, same_Some}
use Rattle.pfc_code.specs.declared.instructions.Instr.{Instr}
use Rattle.pfc_code.specs.declared.instructions.Instr.TheVariants.{GRD, SCAN}
use Rattle.pfc_code.specs.Images.{PlainImage}
use Rattle.pfc_image_laws.specs.Operands.{address_ahead}
use Rattle.pfc_step_laws.proofs.Ahead.{Way, stays, on, to, either, way, from_here, ahead}
use Rattle.pfc_step_laws.proofs.Leading.{LeadsOn, LeadsAhead}

-- a quiet instruction leads a process from one address to another
pub data StepsTo (scans : List ℕ) (i : Instr) (a b : ℕ) : Type 0 where
  next : way i ≡ on → b ≡ a + 1 → StepsTo scans i a b
  past : (c : ℕ) → way i ≡ either c → b ≡ a + 1 → StepsTo scans i a b
  jumps : way i ≡ to b → address_ahead i ≡ Some b → StepsTo scans i a b
  branches : way i ≡ either b → address_ahead i ≡ Some b → StepsTo scans i a b
  -- from the guard of another, which is false
  back : (g : ℕ) → i ≡ GRD g → b ≡ get_or scans g 0 → StepsTo scans i a b

-- so many instructions are ahead of a place in the code
abbrev pub ahead_of : List Instr → ℕ → ℕ
ahead_of code a = get_or (ahead 0 code []) a 0

-- ## At a place in the code

ahead_at : (at k : ℕ) (code : List Instr) (i : Instr) → slice_get code k ≡ Some i
    → get_or (ahead at code []) k 0 ≡ from_here (way i) (at + k) (drop (suc k) (ahead at code []))
ahead_at at k [] i is = absurd (none-some i is)
ahead_at at zero (x ∷ code) i is =
    subst (λ y. from_here (way x) at (ahead (at + 1) code []) ≡ from_here (way y) (at + 0) (ahead (at + 1) code [])) (same_Some x i is)
    (ap (λ n. from_here (way x) n (ahead (at + 1) code [])) (omega arith))
ahead_at at (suc k) (x ∷ code) i is =
    ahead_at (at + 1) k code i is ∙ ap (λ n. from_here (way i) n (drop (suc k) (ahead (at + 1) code []))) (omega arith)

ahead_here : (code : List Instr) (a : ℕ) (i : Instr) (w : Way) → slice_get code a ≡ Some i → way i ≡ w
    → ahead_of code a ≡ from_here w a (drop (suc a) (ahead 0 code []))
ahead_here code a i w is e =
    ahead_at 0 a code i is ∙ ap (λ n. from_here (way i) n (drop (suc a) (ahead 0 code []))) (omega arith)
    ∙ ap (λ x. from_here x a (drop (suc a) (ahead 0 code []))) e

-- ## Behind it

next_ahead : (counts : List ℕ) (a : ℕ) → get_or (drop (suc a) counts) 0 0 ≡ get_or counts (a + 1) 0
next_ahead counts a = get_or-drop (suc a) counts 0 0 ∙ ap (λ n. get_or counts n 0) (omega arith)

jump_ahead : (counts : List ℕ) (a b : ℕ) → a < b → get_or (drop (suc a) counts) (b - (a + 1)) 0 ≡ get_or counts b 0
jump_ahead counts a b less = get_or-drop (suc a) counts (b - (a + 1)) 0 ∙ ap (λ n. get_or counts n 0) (omega (arith, less))

leads_to : (a b : ℕ) (i : Instr) → LeadsOn a i → address_ahead i ≡ Some b → a < b
leads_to a b i h e = subst (λ x. IfSome x (λ c. a < c)) e h

pub falls : (image : PlainImage) (i : Instr) (a b : ℕ) → LeadsAhead image → slice_get image.code a ≡ Some i → StepsTo image.scans i a b
    → ahead_of image.code b < ahead_of image.code a
falls image i a b leads is (next e to_b) =
    let counts = ahead 0 image.code [] in
    let here = ahead_here image.code a i on is e in
    let there : ahead_of image.code b ≡ get_or (drop (suc a) counts) 0 0 = ap (λ n. get_or counts n 0) to_b ∙ sym (next_ahead counts a) in
    omega (arith, here, there)
falls image i a b leads is (past c e to_b) =
    let counts = ahead 0 image.code [] in
    let here = ahead_here image.code a i (either c) is e in
    let there : ahead_of image.code b ≡ get_or (drop (suc a) counts) 0 0 = ap (λ n. get_or counts n 0) to_b ∙ sym (next_ahead counts a) in
    omega (arith, here, there)
falls image i a b leads is (jumps e to_b) =
    let counts = ahead 0 image.code [] in
    let here = ahead_here image.code a i (to b) is e in
    let there = jump_ahead counts a b (leads_to a b i (leads.jumps a i is) to_b) in
    omega (arith, here, there)
falls image i a b leads is (branches e to_b) =
    let counts = ahead 0 image.code [] in
    let here = ahead_here image.code a i (either b) is e in
    let there = jump_ahead counts a b (leads_to a b i (leads.jumps a i is) to_b) in
    omega (arith, here, there)
falls image i a b leads is (back g e to_b) =
    let counts = ahead 0 image.code [] in
    let here = ahead_here image.code a i on is (ap way e) in
    let (r, scan) = leads.guards a g (is ∙ ap (λ (x : Instr). Some x) e) in
    let there = ap (λ n. get_or counts n 0) to_b ∙ ahead_here image.code (get_or image.scans g 0) (SCAN r) stays scan refl in
    omega (arith, here, there)
