-- The list of all alternatives, and going through it from a place on.
use Rattle.std.proofs.Common.{◌≡◌, ℕ, zero, suc, ◌+◌, ◌<◌, ◌≤◌, ℤ, pos, ◌+ℤ◌, List, [], ◌∷◌, ◌++◌, length, get_or, drop, map, Some, None, refl, sym, ap, ap₂}
use Rattle.std.proofs.Common.{◌∙◌, append_assoc, arith, add-one}
use Rattle.std.proofs.Math.Seq.{drop-cons}
use Rattle.std.proofs.Math.ListN.{drop_of_length-le}
use Rattle.std.proofs.lemmas.Int.{ints}
use Rattle.std.proofs.lemmas.List.{get_or-map, length-map, map-append, append-nil}
use Rattle.pfc_tree.specs.declared.tree.Alt.{Alt}
use Rattle.pfc_tree.specs.trees.Stmts.{AltTree, AltTrees, alt, more_alts}
use Rattle.pfc_tree.specs.views.Stmts.{alt_view, alts_view}
use Rattle.pfc_types.specs.rules.Statements.{alt_scopes}
use Rattle.pfc_semantics.specs.Displays.{Spot}
use Rattle.pfc_semantics.specs.Remainders as remainders
use Rattle.pfc_semantics.specs.Remainders.{Context, Selecting, Remainder, decides}
use Rattle.pfc_semantics.specs.Alternatives.{alternatives, replicas_from, from_replica, from_alternatives}
use Rattle.pfc_pending.specs.Selects.{alternative_view}
use Rattle.pfc_pending.specs.declared.select.Alternative.{Alternative}
use Rattle.pfc_select_steps.specs.Gone.{alternatives_view, spread_alt, with_replica}

one_more : {T : Type 0} (xs : List T) (i : ℕ) (x : T) → i < length xs → drop i xs ≡ get_or xs i x ∷ drop (i + 1) xs
one_more xs i x less = drop-cons xs i x less ∙ ap (λ (k : ℕ). get_or xs i x ∷ drop k xs) (sym (add-one i))

-- ## Going through

pub left_more :
    (all : List Alternative) (i : ℕ) (x : Alternative)
    → i < length all → x ≡ get_or all i x → drop i (map alternative_view all) ≡ alternative_view x ∷ drop (i + 1) (map alternative_view all)
left_more all i x less is =
    let xs : List remainders.Alternative = map alternative_view all in
    let a : remainders.Alternative = alternative_view x in
    let here : get_or xs i a ≡ a = get_or-map alternative_view all i x a less ∙ ap alternative_view (sym is) in
    one_more xs i a (omega (arith, length-map all alternative_view)) ∙ ap (λ (y : remainders.Alternative). y ∷ drop (i + 1) xs) here

pub left_none : (all : List Alternative) (i : ℕ) → length all ≤ i → drop i (map alternative_view all) ≡ []
left_none all i past = drop_of_length-le (map alternative_view all) (omega (arith, length-map all alternative_view))

pub ruleset left = (left_more, left_none)

pub behind_more :
    (c : Context) (xs others : List remainders.Alternative) (a : remainders.Alternative) (s : Selecting) (k : Remainder)
    → xs ≡ a ∷ others → from_replica c a.replica a others s k (λ t. from_alternatives c others t k) ≡ from_alternatives c xs s k
behind_more c xs others a s k is = sym (ap (λ (ys : List remainders.Alternative). from_alternatives c ys s k) is)

pub behind_none : (c : Context) (xs : List remainders.Alternative) (s : Selecting) (k : Remainder) → xs ≡ [] → decides c s k ≡ from_alternatives c xs s k
behind_none c xs s k is = sym (ap (λ (ys : List remainders.Alternative). from_alternatives c ys s k) is)

pub ruleset behind = (behind_more, behind_none)

-- ## The select that begins

pub begun_none :
    (c : Context) (all : List Alternative) (xs : List remainders.Alternative) (s : Selecting) (k : Remainder)
    → alternatives_view all ≡ xs → length all ≡ 0 → decides c s k ≡ from_alternatives c xs s k
begun_none c [] xs s k is none = ap (λ (ys : List remainders.Alternative). from_alternatives c ys s k) is
begun_none c (a ∷ all) xs s k is none = absurd (omega (arith, none))

pub begun_some :
    (c : Context) (all : List Alternative) (xs : List remainders.Alternative) (s : Selecting) (k : Remainder)
    → alternatives_view all ≡ xs → from_alternatives c (alternatives_view all) s k ≡ from_alternatives c xs s k
begun_some c all xs s k is = ap (λ (ys : List remainders.Alternative). from_alternatives c ys s k) is

pub ruleset begun = (begun_none, begun_some)

-- ## All alternatives

alternatives_more : (c : Context) (n : ℕ) (a : AltTree) (others : AltTrees) →
    alternatives c n (more_alts a others) ≡ spread_alt c n a ++ alternatives c (n + alt_scopes a) others
alternatives_more c n (alt None guard comm ss) others = refl
alternatives_more c n (alt (Some s) guard comm ss) others = refl

pub listed_more :
    (c : Context) (n m : ℕ) (alts : List Alt) (i : ℕ) (a : Alt) (before after all : List remainders.Alternative)
    → before ++ alternatives c n (alts_view (drop i alts)) ≡ all → i < length alts → a ≡ get_or alts i a
    → after ≡ before ++ spread_alt c n (alt_view a) → m ≡ n + alt_scopes (alt_view a)
    → after ++ alternatives c m (alts_view (drop (i + 1) alts)) ≡ all
listed_more c n m alts i a before after all so_far less is spread count =
    let rest : AltTrees = alts_view (drop (i + 1) alts) in
    let first : alts_view (drop i alts) ≡ more_alts (alt_view a) rest =
    ap alts_view (one_more alts i a less) ∙ ap (λ (x : Alt). more_alts (alt_view x) rest) (sym is)
    in
    ap₂ (λ (x : List remainders.Alternative) (j : ℕ). x ++ alternatives c j rest) spread count
    ∙ append_assoc before (spread_alt c n (alt_view a)) (alternatives c (n + alt_scopes (alt_view a)) rest)
    ∙ ap (λ (x : List remainders.Alternative). before ++ x) (sym (ap (alternatives c n) first ∙ alternatives_more c n (alt_view a) rest))
    ∙ so_far

pub listed_all :
    (c : Context) (n : ℕ) (alts : List Alt) (i : ℕ) (found all : List remainders.Alternative)
    → found ++ alternatives c n (alts_view (drop i alts)) ≡ all → length alts ≤ i → found ≡ all
listed_all c n alts i found all so_far past =
    sym (append-nil found)
    ∙ ap (λ (x : List Alt). found ++ alternatives c n (alts_view x)) (sym (drop_of_length-le alts past))
    ∙ so_far

pub ruleset listed = (listed_more, listed_all)

-- ## Spreads

pub pushed_one :
    (all : List Alternative) (x : Alternative) → alternatives_view (all ++ x ∷ []) ≡ alternatives_view all ++ alternative_view x ∷ []
pushed_one all x = map-append alternative_view all (x ∷ [])

pub ruleset pushed = pushed_one

from_more :
    (s : Spot) (line : ℕ) (low : ℤ) (k : ℕ)
    → replicas_from s line low (suc k) ≡ replicas_from s line low k ++ record { at = s; value = low +ℤ pos k; line = line } ∷ []
from_more s line low zero = ap (λ (v : ℤ). record { at = s; value = v; line = line } ∷ []) (omega (arith, ints))
from_more s line low (suc k) =
    let here : remainders.Replica = record { at = s; value = low; line = line } in
    let next : ℤ = low +ℤ pos 1 in
    let same : next +ℤ pos k ≡ low +ℤ pos (suc k) = omega (arith, ints) in
    ap (λ (rest : List remainders.Replica). here ∷ rest)
    (from_more s line next k ∙ ap (λ (v : ℤ). replicas_from s line next k ++ record { at = s; value = v; line = line } ∷ []) same)

pub repeated_more :
    (before after start : List remainders.Alternative) (one : remainders.Alternative) (s : Spot) (line : ℕ) (low v : ℤ) (k : ℕ)
    → before ≡ start ++ map (with_replica one) (replicas_from s line low k)
    → after ≡ before ++ with_replica one (record { at = s; value = v; line = line }) ∷ [] → v ≡ low +ℤ pos k
    → after ≡ start ++ map (with_replica one) (replicas_from s line low (k + 1))
repeated_more before after start one s line low v k so_far is value =
    let r : remainders.Replica = record { at = s; value = low +ℤ pos k; line = line } in
    let new : List remainders.Alternative = map (with_replica one) (replicas_from s line low k) in
    let grown : map (with_replica one) (replicas_from s line low (k + 1)) ≡ new ++ with_replica one r ∷ [] =
    ap (λ (n : ℕ). map (with_replica one) (replicas_from s line low n)) (add-one k)
    ∙ ap (map (with_replica one)) (from_more s line low k)
    ∙ map-append (with_replica one) (replicas_from s line low k) (r ∷ [])
    in
    is
    ∙ ap₂ (λ (a : List remainders.Alternative) (u : ℤ). a ++ with_replica one (record { at = s; value = u; line = line }) ∷ []) so_far value
    ∙ append_assoc start new (with_replica one r ∷ [])
    ∙ ap (λ (y : List remainders.Alternative). start ++ y) (sym grown)
