-- The innermost part that is pending, over those before it.
use Rattle.std.proofs.Common.{◌≡◌, ℕ, suc, ◌-◌, ◌<◌, List, [], ◌∷◌, ◌++◌, length, take, get_or, Some, sym, ap, ◌∙◌, arith}
use Rattle.std.specs.Prelude.{slice_get}
use Rattle.std.proofs.Math.Seq.{take-suc, take-length}
use Rattle.std.proofs.lemmas.Option.{slice_get-get_or}
use Rattle.pfc_program.specs.declared.tables.Tables.{Tables}
use Rattle.pfc_pending.specs.Waiting.{over, waiting}
use Rattle.pfc_pending.specs.declared.pending.Pending.{Pending}
use Rattle.pfc_frequent_steps.proofs.Waiting.{waiting_more}

pub last_over :
    (t : Tables) (ps : List Pending) (p : Pending)
    → Some p ≡ slice_get ps (length ps - 1) → over t (waiting t (take (length ps - 1) ps)) p ≡ waiting t ps
last_over t [] p is = cc
last_over t (q ∷ ps) p is =
    let xs : List Pending = q ∷ ps in
    let n : ℕ = length xs - 1 in
    let less : n < length xs = omega arith in
    let there = slice_get-get_or xs n q less in
    let last : p ≡ get_or xs n q = cc in
    let all : suc n ≡ length xs = omega arith in
    let whole : take n xs ++ (get_or xs n q ∷ []) ≡ xs =
    sym (take-suc xs n q less) ∙ ap (λ (k : ℕ). take k xs) all ∙ take-length xs
    in
    ap (λ (r : Pending). over t (waiting t (take n xs)) r) last
    ∙ sym (waiting_more t (take n xs) (get_or xs n q))
    ∙ ap (λ (x : List Pending). waiting t x) whole

pub ruleset taken = last_over

-- the same of a list whose length is known otherwise
pub last_over_of :
    (t : Tables) (ps : List Pending) (n : ℕ) (p : Pending)
    → n ≡ length ps → Some p ≡ slice_get ps (length ps - 1) → over t (waiting t (take (n - 1) ps)) p ≡ waiting t ps
last_over_of t ps n p all is = ap (λ (k : ℕ). over t (waiting t (take (k - 1) ps)) p) all ∙ last_over t ps p is
