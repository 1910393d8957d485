-- What stands first with a scope.
use Rattle.std.proofs.Common.{◌≡◌, ℕ, ◌+◌, ◌==◌, suc, Bool, true, false, cond, List, [], ◌∷◌, map, get_or, position, Option, Some, None, option_map, refl, sym}
use Rattle.std.proofs.Common.{ap, ◌∙◌, arith}
use Rattle.std.specs.List.{position_from}
use Rattle.std.proofs.lemmas.Iterator.Adapters.{position_from-zero}
use Rattle.pfc_types.specs.Blocks.{no_sub}
use Rattle.pfc_types.specs.declared.heads.ModuleHead.{ModuleHead}
use Rattle.pfc_types.specs.declared.heads.SubHead.{SubHead}
use Rattle.pfc_semantics.specs.Layouts.{sub_with}
use Rattle.pfc_program.specs.Firsts.{HoldFirsts}

from_scopes :
    {X : Type 0} (scope : X → ℕ) (i n : ℕ) (xs : List X)
    → position_from (λ k. k == i) n (map scope xs) ≡ position_from (λ x. scope x == i) n xs
from_scopes scope i n [] = refl
from_scopes scope i n (x ∷ xs) = ap (λ r. cond (scope x == i) (Some n) r) (from_scopes scope i (n + 1) xs)

-- ## Modules

pub module_there :
    (i : ℕ) (heads : List ModuleHead) (firsts : List (Option ℕ)) (r : Option ℕ)
    → HoldFirsts (λ (m : ModuleHead). m.scope) heads firsts → r ≡ get_or firsts i None → r ≡ position (λ (m : ModuleHead). m.scope == i) heads
module_there i heads firsts r held is =
    is ∙ held i ∙ from_scopes (λ (m : ModuleHead). m.scope) i 0 heads ∙ sym (position_from-zero (λ (m : ModuleHead). m.scope == i) heads)

-- ## Subs

behind :
    (h : SubHead) (heads : List SubHead) (r : Option ℕ)
    → option_map (λ n. get_or (h ∷ heads) n no_sub) (option_map suc r) ≡ option_map (λ n. get_or heads n no_sub) r
behind h heads None = refl
behind h heads (Some n) = refl

shifted : (test : SubHead → Bool) (n : ℕ) (heads : List SubHead) → position_from test (n + 1) heads ≡ option_map suc (position_from test n heads)
shifted test n [] = refl
shifted test n (h ∷ heads) = by (test h) (shifted test (n + 1) heads)
  where
    by :
        (b : Bool)
        → position_from test (n + 1 + 1) heads ≡ option_map suc (position_from test (n + 1) heads)
        → cond b (Some (n + 1)) (position_from test (n + 1 + 1) heads) ≡ option_map suc (cond b (Some n) (position_from test (n + 1) heads))
    by true later = ap Some (omega arith)
    by false later = later

first_with :
    (i : ℕ) (heads : List SubHead) → option_map (λ n. get_or heads n no_sub) (position_from (λ (h : SubHead). h.scope == i) 0 heads) ≡ sub_with heads i
first_with i [] = refl
first_with i (h ∷ heads) = by (h.scope == i) (first_with i heads)
  where
    by :
        (b : Bool)
        → option_map (λ n. get_or heads n no_sub) (position_from (λ (x : SubHead). x.scope == i) 0 heads) ≡ sub_with heads i
        → option_map (λ n. get_or (h ∷ heads) n no_sub) (cond b (Some 0) (position_from (λ (x : SubHead). x.scope == i) 1 heads))
        ≡ cond b (Some h) (sub_with heads i)
    by true later = refl
    by false later =
        ap (λ (r : Option ℕ). option_map (λ n. get_or (h ∷ heads) n no_sub) r) (shifted (λ (x : SubHead). x.scope == i) 0 heads)
        ∙ behind h heads (position_from (λ (x : SubHead). x.scope == i) 0 heads)
        ∙ later

pub sub_there :
    (i : ℕ) (heads : List SubHead) (firsts : List (Option ℕ)) (r : Option ℕ)
    → HoldFirsts (λ (h : SubHead). h.scope) heads firsts → r ≡ get_or firsts i None → option_map (λ n. get_or heads n no_sub) r ≡ sub_with heads i
sub_there i heads firsts r held is =
    ap (λ (x : Option ℕ). option_map (λ n. get_or heads n no_sub) x)
    (is ∙ held i ∙ from_scopes (λ (h : SubHead). h.scope) i 0 heads)
    ∙ first_with i heads
