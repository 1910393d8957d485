-- Code that is made one part after the other, by what is still to come.
use Rattle.std.proofs.Common.{◌≡◌, ◌<◌, ℕ, ◌+◌, ◌-◌, ◌*◌, ℤ, pos, ◌+ℤ◌, max, List, [], ◌∷◌, ◌++◌, length, map, drop, get_or, refl, sym, ap, ap₂, subst, ◌∙◌}
use Rattle.std.proofs.Common.{arith, append_assoc, Option, Some, None}
use Rattle.std.proofs.lemmas.List.{drop_more}
use Rattle.pfc_tree.specs.Symbols.{Text}
use Rattle.pfc_tree.specs.declared.tree.Alt.{Alt}
use Rattle.pfc_tree.specs.trees.Exprs.{ExprTree}
use Rattle.pfc_tree.specs.trees.Stmts.{StmtTrees, AltTree, AltTrees, CommTree, alt, more_alts}
use Rattle.pfc_tree.specs.views.Stmts.{alt_view, alts_view}
use Rattle.pfc_types.specs.rules.Statements.{alt_scopes}
use Rattle.pfc_code.specs.declared.instructions.Instr.TheVariants.{JMP}
use Rattle.pfc_semantics.specs.Remainders.{Replica, Alternative}
use Rattle.pfc_semantics.specs.Alternatives.{alternative, alternatives, replicas}
use Rattle.pfc_translation.specs.Sites.{Site, context_of}
use Rattle.pfc_translation.specs.Codes.{Code, ◌⨾◌, one, over, with_arms}
use Rattle.pfc_translation.specs.Selects.{replica_code, guarded_code}
use Rattle.pfc_translation.specs.Statements.{chosen_code}
use Rattle.pfc_expression_code.specs.Putting.{Made, IsMade, IsTooLarge}
use Rattle.pfc_expression_code.proofs.Joining.{made_both, large_first, large_second}
use Rattle.pfc_select_code.specs.Alternatives.{open_comm, open_one, open_alternative, open_alternatives, open_each, open_alt, arm_place, arm_places}
use Rattle.pfc_select_code.specs.Alternatives.{each_places, alt_places}
use Rattle.pfc_select_code.specs.Values.{spread_spot, at_value, at_values}
use Rattle.pfc_select_code.proofs.Same.{SameCode, same_refl, same_trans, same_both, same_assoc, same_behind_nothing, made_same, large_same}
use Rattle.pfc_select_code.proofs.Values.{from_next, over_made, chosen_size}

-- ## One part more

-- what is now to come is two parts and a tail
pub next_made :
    (a b c now whole : Code) (start x y z : Made) → now ≡ (a ⨾ b) ⨾ c → ((m : Made) → IsMade now x m → IsMade whole start m)
    → IsMade a x y → IsMade b y z → (m : Made) → IsMade c z m → IsMade whole start m
next_made a b c now whole start x y z is so_far first second m tail =
    so_far m (subst (λ (k : Code). IsMade k x m) (sym is) (made_both (a ⨾ b) c x z m (made_both a b x y z first second) tail))

pub next_large :
    (a b c now whole : Code) (start x y z : Made) → now ≡ (a ⨾ b) ⨾ c → (IsTooLarge now x → IsTooLarge whole start)
    → IsMade a x y → IsMade b y z → IsTooLarge c z → IsTooLarge whole start
next_large a b c now whole start x y z is so_far first second large =
    so_far (subst (λ (k : Code). IsTooLarge k x) (sym is) (large_second (a ⨾ b) c x z (made_both a b x y z first second) large))

pub first_large :
    (a b c now whole : Code) (start x : Made) → now ≡ (a ⨾ b) ⨾ c → (IsTooLarge now x → IsTooLarge whole start)
    → IsTooLarge a x → IsTooLarge whole start
first_large a b c now whole start x is so_far large =
    so_far (subst (λ (k : Code). IsTooLarge k x) (sym is) (large_first (a ⨾ b) c x (large_first a b x large)))

pub second_large :
    (a b c now whole : Code) (start x y : Made) → now ≡ (a ⨾ b) ⨾ c → (IsTooLarge now x → IsTooLarge whole start)
    → IsMade a x y → IsTooLarge b y → IsTooLarge whole start
second_large a b c now whole start x y is so_far first large =
    so_far (subst (λ (k : Code). IsTooLarge k x) (sym is) (large_first (a ⨾ b) c x (large_second a b x y first large)))

-- ## Each value of a replicated alternative

pub each_next :
    (s : Site) (x : Text) (n : ℕ) (guard : Option ExprTree) (comm : CommTree) (low v : ℤ) (k count : ℕ) → k < count → v ≡ low +ℤ pos k
    → open_each s n guard comm (at_values s x (low +ℤ pos k) (count - k))
    ≡ (replica_code s (Some (at_value s x v)) ⨾ guarded_code s guard (open_comm s n comm))
    ⨾ open_each s n guard comm (at_values s x (low +ℤ pos (k + 1)) (count - (k + 1)))
each_next s x n guard comm low v k count more is =
    let rest = at_values s x (low +ℤ pos (k + 1)) (count - (k + 1)) in
    ap (open_each s n guard comm) (from_next (spread_spot s x) s.line low k count more)
    ∙ ap (λ (w : ℤ). open_each s n guard comm (at_value s x w ∷ rest)) (sym is)

module _ (s : Site) (x : Text) (n : ℕ) (guard : Option ExprTree) (comm : CommTree) (low v : ℤ) (k count : ℕ) (more : k < count) (is : v ≡ low +ℤ pos k)
    (whole : Code) (start y : Made) where
  abbrev each_now : Code
  each_now = open_each s n guard comm (at_values s x (low +ℤ pos k) (count - k))

  abbrev each_tail : Code
  each_tail = open_each s n guard comm (at_values s x (low +ℤ pos (k + 1)) (count - (k + 1)))

  abbrev each_write : Code
  each_write = replica_code s (Some (at_value s x v))

  abbrev each_guarded : Code
  each_guarded = guarded_code s guard (open_comm s n comm)

  pub each_made :
      (z u : Made) → ((m : Made) → IsMade each_now y m → IsMade whole start m) → IsMade each_write y z → IsMade each_guarded z u
      → (m : Made) → IsMade each_tail u m → IsMade whole start m
  each_made z u so_far first second m tail =
      next_made each_write each_guarded each_tail each_now whole start y z u (each_next s x n guard comm low v k count more is) so_far first second m tail

  pub each_large :
      (z u : Made) → (IsTooLarge each_now y → IsTooLarge whole start) → IsMade each_write y z → IsMade each_guarded z u
      → IsTooLarge each_tail u → IsTooLarge whole start
  each_large z u so_far first second large =
      next_large each_write each_guarded each_tail each_now whole start y z u (each_next s x n guard comm low v k count more is) so_far first second large

  pub each_write_large : (IsTooLarge each_now y → IsTooLarge whole start) → IsTooLarge each_write y → IsTooLarge whole start
  each_write_large so_far large =
      first_large each_write each_guarded each_tail each_now whole start y (each_next s x n guard comm low v k count more is) so_far large

  pub each_guarded_large :
      (z : Made) → (IsTooLarge each_now y → IsTooLarge whole start) → IsMade each_write y z → IsTooLarge each_guarded z → IsTooLarge whole start
  each_guarded_large z so_far first large =
      second_large each_write each_guarded each_tail each_now whole start y z (each_next s x n guard comm low v k count more is) so_far first large

-- where the ARMs stand
pub each_places_next :
    (s : Site) (x : Text) (n : ℕ) (guard : Option ExprTree) (comm : CommTree) (low v : ℤ) (k count : ℕ) (before after all : List (Option ℕ))
    (y z u : Made) → k < count → v ≡ low +ℤ pos k
    → before ++ each_places s (length y.code) n guard comm (at_values s x (low +ℤ pos k) (count - k)) ≡ all
    → IsMade (replica_code s (Some (at_value s x v))) y z → IsMade (guarded_code s guard (open_comm s n comm)) z u
    → after ≡ before ++ arm_place comm (length u.code - 1) ∷ []
    → after ++ each_places s (length u.code) n guard comm (at_values s x (low +ℤ pos (k + 1)) (count - (k + 1))) ≡ all
each_places_next s x n guard comm low v k count before after all y z u more is so_far first second added =
    let rest = at_values s x (low +ℤ pos (k + 1)) (count - (k + 1)) in
    let end : length u.code ≡ length y.code + (open_one s n guard comm (Some (at_value s x v))).size = omega (arith, first.size, second.size) in
    ap (λ (l : List (Option ℕ)). l ++ each_places s (length u.code) n guard comm rest) added
    ∙ append_assoc before (arm_place comm (length u.code - 1) ∷ []) (each_places s (length u.code) n guard comm rest)
    ∙ ap (λ j. before ++ arm_place comm (j - 1) ∷ each_places s j n guard comm rest) end
    ∙ sym (ap (λ (rs : List Replica). before ++ each_places s (length y.code) n guard comm rs) (from_next (spread_spot s x) s.line low k count more)
    ∙ ap (λ (w : ℤ). before ++ each_places s (length y.code) n guard comm (at_value s x w ∷ rest)) (sym is))
    ∙ so_far

-- ## Each alternative of the text

each_open :
    (s : Site) (n : ℕ) (guard : Option ExprTree) (comm : CommTree) (ss : StmtTrees) (rs : List Replica) (others : List Alternative)
    → SameCode (open_each s n guard comm rs ⨾ open_alternatives s others)
    (open_alternatives s (map (λ r. alternative n guard comm ss (Some r)) rs ++ others))
each_open s n guard comm ss [] others = same_behind_nothing (open_alternatives s others)
each_open s n guard comm ss (r ∷ rs) others =
    let first = open_one s n guard comm (Some r) in
    let rest = open_alternatives s (map (λ r. alternative n guard comm ss (Some r)) rs ++ others) in
    same_trans ((first ⨾ open_each s n guard comm rs) ⨾ open_alternatives s others) (first ⨾ (open_each s n guard comm rs ⨾ open_alternatives s others))
    (first ⨾ rest) (same_assoc first (open_each s n guard comm rs) (open_alternatives s others))
    (same_both first first (open_each s n guard comm rs ⨾ open_alternatives s others) rest (same_refl first) (each_open s n guard comm ss rs others))

alt_open :
    (s : Site) (n : ℕ) (a : AltTree) (others : AltTrees)
    → SameCode (open_alt s n a ⨾ open_alternatives s (alternatives (context_of s) (n + alt_scopes a) others))
    (open_alternatives s (alternatives (context_of s) n (more_alts a others)))
alt_open s n (alt None guard comm ss) others = same_refl _
alt_open s n (alt (Some spread) guard comm ss) others = each_open s n guard comm ss (replicas (context_of s) spread) _

each_stand :
    (s : Site) (at n : ℕ) (guard : Option ExprTree) (comm : CommTree) (ss : StmtTrees) (rs : List Replica) (others : List Alternative)
    → each_places s at n guard comm rs ++ arm_places s (at + (open_each s n guard comm rs).size) others
    ≡ arm_places s at (map (λ r. alternative n guard comm ss (Some r)) rs ++ others)
each_stand s at n guard comm ss [] others = ap (λ j. arm_places s j others) (omega arith)
each_stand s at n guard comm ss (r ∷ rs) others =
    let first = open_one s n guard comm (Some r) in
    let end = at + first.size in
    ap (λ (l : List (Option ℕ)). arm_place comm (end - 1) ∷ l)
    (ap (λ j. each_places s end n guard comm rs ++ arm_places s j others) (omega arith) ∙ each_stand s end n guard comm ss rs others)

alt_stand :
    (s : Site) (at n : ℕ) (a : AltTree) (others : AltTrees)
    → alt_places s at n a ++ arm_places s (at + (open_alt s n a).size) (alternatives (context_of s) (n + alt_scopes a) others)
    ≡ arm_places s at (alternatives (context_of s) n (more_alts a others))
alt_stand s at n (alt None guard comm ss) others = refl
alt_stand s at n (alt (Some spread) guard comm ss) others = each_stand s at n guard comm ss (replicas (context_of s) spread) _

front :
    (alts : List Alt) (i : ℕ) (a : Alt) → i < length alts → a ≡ get_or alts i a
    → alts_view (drop i alts) ≡ more_alts (alt_view a) (alts_view (drop (i + 1) alts))
front alts i a less is =
    ap alts_view (drop_more alts i a less) ∙ ap (λ (x : Alt). more_alts (alt_view x) (alts_view (drop (i + 1) alts))) (sym is)

pub alts_next :
    (s : Site) (n m : ℕ) (alts : List Alt) (i : ℕ) (a : Alt) (whole : Code) (start x y : Made)
    → ((z : Made) → IsMade (open_alternatives s (alternatives (context_of s) n (alts_view (drop i alts)))) x z → IsMade whole start z)
    → i < length alts → a ≡ get_or alts i a → IsMade (open_alt s n (alt_view a)) x y → m ≡ n + alt_scopes (alt_view a)
    → (z : Made) → IsMade (open_alternatives s (alternatives (context_of s) m (alts_view (drop (i + 1) alts)))) y z → IsMade whole start z
alts_next s n m alts i a whole start x y so_far less is first next z tail =
    let others = alts_view (drop (i + 1) alts) in
    let rest = open_alternatives s (alternatives (context_of s) (n + alt_scopes (alt_view a)) others) in
    so_far z
    (subst (λ (t : AltTrees). IsMade (open_alternatives s (alternatives (context_of s) n t)) x z) (sym (front alts i a less is))
    (made_same (open_alt s n (alt_view a) ⨾ rest) (open_alternatives s (alternatives (context_of s) n (more_alts (alt_view a) others))) x z
    (alt_open s n (alt_view a) others)
    (made_both (open_alt s n (alt_view a)) rest x y z first
    (subst (λ j. IsMade (open_alternatives s (alternatives (context_of s) j others)) y z) next tail))))

pub alts_next_large :
    (s : Site) (n m : ℕ) (alts : List Alt) (i : ℕ) (a : Alt) (whole : Code) (start x y : Made)
    → (IsTooLarge (open_alternatives s (alternatives (context_of s) n (alts_view (drop i alts)))) x → IsTooLarge whole start)
    → i < length alts → a ≡ get_or alts i a → IsMade (open_alt s n (alt_view a)) x y → m ≡ n + alt_scopes (alt_view a)
    → IsTooLarge (open_alternatives s (alternatives (context_of s) m (alts_view (drop (i + 1) alts)))) y → IsTooLarge whole start
alts_next_large s n m alts i a whole start x y so_far less is first next large =
    let others = alts_view (drop (i + 1) alts) in
    let rest = open_alternatives s (alternatives (context_of s) (n + alt_scopes (alt_view a)) others) in
    so_far
    (subst (λ (t : AltTrees). IsTooLarge (open_alternatives s (alternatives (context_of s) n t)) x) (sym (front alts i a less is))
    (large_same (open_alt s n (alt_view a) ⨾ rest) (open_alternatives s (alternatives (context_of s) n (more_alts (alt_view a) others))) x
    (alt_open s n (alt_view a) others)
    (large_second (open_alt s n (alt_view a)) rest x y first
    (subst (λ j. IsTooLarge (open_alternatives s (alternatives (context_of s) j others)) y) next large))))

pub alt_large :
    (s : Site) (n : ℕ) (alts : List Alt) (i : ℕ) (a : Alt) (whole : Code) (start x : Made)
    → (IsTooLarge (open_alternatives s (alternatives (context_of s) n (alts_view (drop i alts)))) x → IsTooLarge whole start)
    → i < length alts → a ≡ get_or alts i a → IsTooLarge (open_alt s n (alt_view a)) x → IsTooLarge whole start
alt_large s n alts i a whole start x so_far less is large =
    let others = alts_view (drop (i + 1) alts) in
    let rest = open_alternatives s (alternatives (context_of s) (n + alt_scopes (alt_view a)) others) in
    so_far
    (subst (λ (t : AltTrees). IsTooLarge (open_alternatives s (alternatives (context_of s) n t)) x) (sym (front alts i a less is))
    (large_same (open_alt s n (alt_view a) ⨾ rest) (open_alternatives s (alternatives (context_of s) n (more_alts (alt_view a) others))) x
    (alt_open s n (alt_view a) others)
    (large_first (open_alt s n (alt_view a)) rest x large)))

pub alts_places_next :
    (s : Site) (n m : ℕ) (alts : List Alt) (i : ℕ) (a : Alt) (before after all : List (Option ℕ)) (x y : Made)
    → before ++ arm_places s (length x.code) (alternatives (context_of s) n (alts_view (drop i alts))) ≡ all
    → i < length alts → a ≡ get_or alts i a → IsMade (open_alt s n (alt_view a)) x y
    → after ≡ before ++ alt_places s (length x.code) n (alt_view a) → m ≡ n + alt_scopes (alt_view a)
    → after ++ arm_places s (length y.code) (alternatives (context_of s) m (alts_view (drop (i + 1) alts))) ≡ all
alts_places_next s n m alts i a before after all x y so_far less is first added next =
    let others = alts_view (drop (i + 1) alts) in
    let rest = alternatives (context_of s) (n + alt_scopes (alt_view a)) others in
    let here = alt_places s (length x.code) n (alt_view a) in
    ap₂ (λ (l : List (Option ℕ)) j. l ++ arm_places s (length y.code) (alternatives (context_of s) j others)) added next
    ∙ ap (λ j. (before ++ here) ++ arm_places s j rest) first.size
    ∙ append_assoc before here (arm_places s (length x.code + (open_alt s n (alt_view a)).size) rest)
    ∙ ap (λ (l : List (Option ℕ)). before ++ l)
    (alt_stand s (length x.code) n (alt_view a) others
    ∙ ap (λ (t : AltTrees). arm_places s (length x.code) (alternatives (context_of s) n t)) (sym (front alts i a less is)))
    ∙ so_far

-- ## Each value, where it is chosen

pub chosen_next :
    (s : Site) (x : Text) (low v : ℤ) (k count target : ℕ) (whole : Code) (start y z u : Made)
    → ((m : Made) → IsMade (chosen_code s (at_values s x (low +ℤ pos k) (count - k))) y m → IsMade whole start m)
    → k < count → v ≡ low +ℤ pos k → target ≡ length y.code + 4 * (count - k)
    → IsMade (replica_code s (Some (at_value s x v))) y z → IsMade (one s (JMP target)) z u
    → (m : Made) → IsMade (chosen_code s (at_values s x (low +ℤ pos (k + 1)) (count - (k + 1)))) u m → IsMade whole start m
chosen_next s x low v k count target whole start y z u so_far more is leads first second m tail =
    let rest = at_values s x (low +ℤ pos (k + 1)) (count - (k + 1)) in
    let behind = chosen_code s rest in
    let size = chosen_size s (spread_spot s x) s.line (low +ℤ pos (k + 1)) (count - (k + 1)) in
    let here = replica_code s (Some (at_value s x v)) in
    so_far m
    (subst (λ (rs : List Replica). IsMade (chosen_code s rs) y m)
    (ap (λ (w : ℤ). at_value s x w ∷ rest) is ∙ sym (from_next (spread_spot s x) s.line low k count more))
    (made_both here (over s JMP behind.size ⨾ behind) y z m first
    (made_both (over s JMP behind.size) behind z u m
    (over_made s JMP target behind.size z u (omega (arith, leads, first.size, size, more)) second) tail)))

pub chosen_next_large :
    (s : Site) (x : Text) (low v : ℤ) (k count target : ℕ) (whole : Code) (start y z u : Made)
    → (IsTooLarge (chosen_code s (at_values s x (low +ℤ pos k) (count - k))) y → IsTooLarge whole start)
    → k < count → v ≡ low +ℤ pos k
    → IsMade (replica_code s (Some (at_value s x v))) y z → IsMade (one s (JMP target)) z u
    → IsTooLarge (chosen_code s (at_values s x (low +ℤ pos (k + 1)) (count - (k + 1)))) u → IsTooLarge whole start
chosen_next_large s x low v k count target whole start y z u so_far more is first second large =
    let now = chosen_size s (spread_spot s x) s.line (low +ℤ pos k) (count - k) in
    let size = chosen_size s (spread_spot s x) s.line (low +ℤ pos (k + 1)) (count - (k + 1)) in
    so_far (omega (arith, now, size, first.size, second.size, large, more))

pub chosen_large :
    (s : Site) (x : Text) (low v : ℤ) (k count : ℕ) (whole : Code) (start y : Made)
    → (IsTooLarge (chosen_code s (at_values s x (low +ℤ pos k) (count - k))) y → IsTooLarge whole start)
    → k < count → IsTooLarge (replica_code s (Some (at_value s x v))) y → IsTooLarge whole start
chosen_large s x low v k count whole start y so_far more large =
    let now = chosen_size s (spread_spot s x) s.line (low +ℤ pos k) (count - k) in
    so_far (omega (arith, now, large, more))

pub chosen_jump_large :
    (s : Site) (x : Text) (low v : ℤ) (k count target : ℕ) (whole : Code) (start y z : Made)
    → (IsTooLarge (chosen_code s (at_values s x (low +ℤ pos k) (count - k))) y → IsTooLarge whole start)
    → k < count → IsMade (replica_code s (Some (at_value s x v))) y z → IsTooLarge (one s (JMP target)) z → IsTooLarge whole start
chosen_jump_large s x low v k count target whole start y z so_far more first large =
    let now = chosen_size s (spread_spot s x) s.line (low +ℤ pos k) (count - k) in
    so_far (omega (arith, now, large, more, first.size))

-- ## Their number

pub length_places : (s : Site) (at : ℕ) (alts : List Alternative) → length (arm_places s at alts) ≡ length alts
length_places s at [] = refl
length_places s at (a ∷ rest) = let others = length_places s (at + (open_alternative s a).size) rest in omega (arith, others)

pub counted_made :
    (k count : ℕ) (c : Code) (x y z : Made) → IsMade c x y → z ≡ record y { arms = max y.arms count } → count ≡ k → IsMade (with_arms k c) x z
counted_made k count c x y z made counts is =
    subst (λ (m : Made). IsMade (with_arms k c) x m) (sym counts)
    (record { code = made.code; texts = made.texts; arms = omega (arith, made.arms, is); size = made.size })
