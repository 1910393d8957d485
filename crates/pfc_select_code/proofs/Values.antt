-- The values of a replicated alternative, one after the other.
use Rattle.std.proofs.Common.{◌≡◌, ◌<◌, ℕ, zero, suc, ◌+◌, ◌-◌, ◌*◌, ℤ, pos, ◌+ℤ◌, [], ◌∷◌, ◌++◌, length, refl, ap, ◌∙◌, arith}
use Rattle.std.proofs.lemmas.Int.{ints}
use Rattle.pfc_code.specs.declared.instructions.Instr.{Instr}
use Rattle.pfc_semantics.specs.Displays.{Spot}
use Rattle.pfc_semantics.specs.Remainders.{Replica}
use Rattle.pfc_semantics.specs.Alternatives.{replicas_from}
use Rattle.pfc_translation.specs.Sites.{Site}
use Rattle.pfc_translation.specs.Codes.{one, over}
use Rattle.pfc_translation.specs.Statements.{chosen_code, replica_branches}
use Rattle.pfc_expression_code.specs.Putting.{Made, IsMade}

-- from the k-th one on
pub from_next :
    (s : Spot) (line : ℕ) (low : ℤ) (k count : ℕ) → k < count
    → replicas_from s line (low +ℤ pos k) (count - k)
    ≡ record { at = s; value = low +ℤ pos k; line = line } ∷ replicas_from s line (low +ℤ pos (k + 1)) (count - (k + 1))
from_next s line low k count more =
    let left : count - k ≡ suc (count - (k + 1)) = omega (arith, more) in
    let here : Replica = record { at = s; value = low +ℤ pos k; line = line } in
    let next : low +ℤ pos k +ℤ pos 1 ≡ low +ℤ pos (k + 1) = omega (arith, ints) in
    ap (λ n. replicas_from s line (low +ℤ pos k) n) left
    ∙ ap (λ (v : ℤ). here ∷ replicas_from s line v (count - (k + 1))) next

-- ## As they are chosen

-- a jump to an address over so many instructions
pub over_made :
    (s : Site) (i : ℕ → Instr) (target count : ℕ) (x y : Made) → target ≡ length x.code + 1 + count → IsMade (one s (i target)) x y
    → IsMade (over s i count) x y
over_made s i target count x y is made =
    record {
      code = made.code ∙ ap (λ t. x.code ++ (i t, s.line) ∷ []) is;
      texts = made.texts;
      arms = made.arms;
      size = made.size;
    }

pub chosen_size : (s : Site) (v : Spot) (line : ℕ) (low : ℤ) (count : ℕ) → (chosen_code s (replicas_from v line low count)).size ≡ 4 * count
chosen_size s v line low zero = refl
chosen_size s v line low (suc count) =
    let rest = chosen_size s v line (low +ℤ pos 1) count in
    omega (arith, rest)

-- ## Where their branches begin

pub branches_next :
    (v : Spot) (line : ℕ) (from k count : ℕ) (low : ℤ) → k < count
    → replica_branches (from + 4 * k) (replicas_from v line (low +ℤ pos k) (count - k))
    ≡ (from + 4 * k) ∷ replica_branches (from + 4 * (k + 1)) (replicas_from v line (low +ℤ pos (k + 1)) (count - (k + 1)))
branches_next v line from k count low more =
    ap (replica_branches (from + 4 * k)) (from_next v line low k count more)
    ∙ ap (λ n. (from + 4 * k) ∷ replica_branches n (replicas_from v line (low +ℤ pos (k + 1)) (count - (k + 1)))) (omega arith)
