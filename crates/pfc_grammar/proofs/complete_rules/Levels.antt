-- Reading back what has no depth of its own.
use Rattle.std.proofs.Common.{◌≡◌, ℕ, List, [], ◌∷◌, ◌++◌, Option, Some, refl, sym, ap, subst}
use Rattle.pfc_base.specs.declared.tokens.Kind.TheVariants.{Word}
use Rattle.pfc_tree.specs.Symbols.{Symbol}
use Rattle.pfc_tree.specs.depths.Exprs.{level}
use Rattle.pfc_grammar.specs.Reading.{Reader, bind}
use Rattle.pfc_grammar.proofs.Complete.{Complete, complete_bind, complete_same}
use Rattle.pfc_grammar.proofs.CompleteLoops.{Run, run_item}

pub level-append : (a b : List Symbol) → level (a ++ b) ≡ level a ++ level b
level-append [] b = refl
level-append (s ∷ a) b = ap (λ z. 0 ∷ z) (level-append a b)

-- one reader after the other
pub flat_bind : {A B : Type 0} {n : ℕ} {r : Reader A} (g : A → Reader B) {ta toks : List Symbol} {x : A} {v : B} {C' C : List Symbol → Type 0} →
    Complete n r ta (level ta) x C' → ((rest : List Symbol) → C rest → C' (toks ++ rest)) → Complete n (g x) toks (level toks) v C →
    Complete n (bind r g) (ta ++ toks) (level (ta ++ toks)) v C
flat_bind g {ta = ta} {toks = toks} h f k = complete_same refl (sym (level-append ta toks)) refl (complete_bind g h f k)

-- one more item
pub flat_item : {A O : Type 0} {n : ℕ} {f : Symbol → Option O} {g : O → Reader A} {C : List Symbol → Type 0} {s : Symbol} (o : O) {ta toks : List Symbol}
    {y : A} {ys : List A} {D : List Symbol → Type 0} →
    f s ≡ Some o → Complete n (g o) ta (level ta) y D → ((rest : List Symbol) → C rest → D (toks ++ rest)) → Run n f g C toks (level toks) ys →
    Run n f g C (s ∷ (ta ++ toks)) (level (s ∷ (ta ++ toks))) (y ∷ ys)
flat_item {n = n} {f = f} {g = g} {C = C} {s = s} o {ta = ta} {toks = toks} {y = y} {ys = ys} e h d run =
    subst (λ z. Run n f g C (s ∷ (ta ++ toks)) (0 ∷ z) (y ∷ ys)) (sym (level-append ta toks)) (run_item o e h d run)

-- a certain word stands there
pub data AtWord (w : ℕ) : List Symbol → Type 0 where
  at_word : {l : List Symbol} → AtWord w (Word w ∷ l)
