-- How many tokens a trace passes, built beside the tokens that are written.
use Rattle.std.proofs.Common.{◌≡◌, ◌+◌, suc, List, ◌++◌, length, ap, ◌∙◌, sym, arith, length-append, [], ◌∷◌}
use Rattle.pfc_tree.specs.Symbols.{Symbol}
use Rattle.pfc_tree.specs.kept.Exprs.{Step, here, next, passed}

passed-append : (a b : List Step) → passed (a ++ b) ≡ passed a + passed b
passed-append [] b = omega arith
passed-append (here p ∷ a) b = passed-append a b
passed-append (next ∷ a) b = omega (arith, passed-append a b)

pub both : (a b : List Step) (x y : List Symbol) → passed a ≡ length x → passed b ≡ length y → passed (a ++ b) ≡ length (x ++ y)
both a b x y h k = passed-append a b ∙ ap (λ n. n + passed b) h ∙ ap (λ n. length x + n) k ∙ sym (length-append x y)

pub one : (a : List Step) (x : List Symbol) → passed a ≡ length x → suc (passed a) ≡ suc (length x)
one a x h = ap (λ n. suc n) h

pub ruleset passing = (both, one)
