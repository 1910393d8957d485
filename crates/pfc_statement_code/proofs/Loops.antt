-- Loops that make code part by part.
use Rattle.std.proofs.Common.{◌≡◌, ◌+◌, ◌++◌, ℕ, List, [], ◌∷◌, length, Result, Ok, Err, OnOk, IfErr, refl, sym, ap, ap₂, subst, ◌∙◌, arith, append_assoc}
use Rattle.std.proofs.lemmas.Result.{on_ok_weaker, IfErr-weaker}
use Rattle.std.specs.Result.{IsErrAnd}
use Rattle.pfc_code.specs.declared.instructions.Instr.TheVariants.{JMP}
use Rattle.pfc_emit.specs.declared.emitter.EmitFault.{EmitFault}
use Rattle.pfc_emit.specs.declared.emitter.EmitFault.TheVariants.{Full}
use Rattle.pfc_tree.specs.declared.tree.Constant.{Constant}
use Rattle.pfc_tree.specs.trees.Stmts.{StmtTree, ArmTrees, AltTree, AltTrees, arm, more_arms, more_alts}
use Rattle.pfc_types.specs.rules.Statements.{scopes_in, arms_scopes, alt_scopes, alts_scopes}
use Rattle.pfc_translation.specs.Sites.{Site}
use Rattle.pfc_translation.specs.Codes.{Code, nothing, ◌⨾◌, one}
use Rattle.pfc_translation.specs.Statements.{stmt_code, arms_code, branch_code, branches_code, branches_from, spread_of}
use Rattle.pfc_expression_code.specs.Putting.{Made, IsMade, IsTooLarge}
use Rattle.pfc_expression_code.proofs.Joining.{made_nothing, made_both}
use Rattle.pfc_statement_code.specs.Arms.{starts_of, ends_of, ArmsMade}
use Rattle.pfc_statement_code.specs.Branches.{open_branch, branch_starts, end_of, branch_ends, BranchesMade}
use Rattle.pfc_statement_code.proofs.Branches.{open_size}

-- What is made with the code that is still to come is all.
pub record IsOnTheWay (rest all : Code) (start now : Made) : Type 0 where
  pub made : (z : Made) → IsMade rest now z → IsMade all start z
  pub size : length now.code + rest.size ≡ length start.code + all.size

pub way_begins : (c : Code) (x : Made) → IsOnTheWay c c x x
way_begins c x = record { made = λ z m. m; size = refl }

pub way_goes : (a rest all : Code) (start x y : Made) → IsOnTheWay (a ⨾ rest) all start x → IsMade a x y → IsOnTheWay rest all start y
way_goes a rest all start x y way first =
    record { made = λ z m. way.made z (made_both a rest x y z first m); size = omega (arith, way.size, first.size) }

pub way_ends : (all : Code) (start x : Made) → IsOnTheWay nothing all start x → IsMade all start x
way_ends all start x way = way.made x (made_nothing x)

pub way_large : (a rest all : Code) (start x : Made) → IsOnTheWay (a ⨾ rest) all start x → IsTooLarge a x → IsTooLarge all start
way_large a rest all start x way large = omega (arith, way.size, large)

-- ## Arms, with the addresses of their beginnings and of the jumps behind them

pub record ArmsGo (s : Site) (i : ℕ) (rest : ArmTrees) (x : Made) (starts ends : List ℕ) (j : ℕ) (all : ArmTrees) (y : Made)
    (starts' ends' : List ℕ) : Type 0 where
  pub made : (z : Made) → ArmsMade s i rest x z → ArmsMade s j all y z
  pub size : length x.code + (arms_code s i rest).size ≡ length y.code + (arms_code s j all).size
  pub starting : starts ++ starts_of s i rest (length x.code) ≡ starts' ++ starts_of s j all (length y.code)
  pub ending : ends ++ ends_of s i rest (length x.code) ≡ ends' ++ ends_of s j all (length y.code)
  pub next : i + arms_scopes rest ≡ j + arms_scopes all

pub arms_begin : (s : Site) (i : ℕ) (all : ArmTrees) (x : Made) (starts ends : List ℕ) → ArmsGo s i all x starts ends i all x starts ends
arms_begin s i all x starts ends = record { made = λ z m. m; size = refl; starting = refl; ending = refl; next = refl }

module _ (s : Site) (i : ℕ) (ls : List Constant) (t : StmtTree) (rest : ArmTrees) (x : Made) (starts ends : List ℕ) (j : ℕ) (all : ArmTrees)
    (y : Made) (starts' ends' : List ℕ) where
  pub arms_next :
      (z : Made) (begun ended : List ℕ) (k : ℕ) → ArmsGo s i (more_arms (arm ls t) rest) x starts ends j all y starts' ends'
      → IsMade (stmt_code s i t ⨾ one s (JMP 0)) x z → begun ≡ starts ++ length x.code ∷ []
      → ended ≡ ends ++ (length x.code + (stmt_code s i t).size) ∷ [] → k ≡ i + scopes_in t
      → ArmsGo s k rest z begun ended j all y starts' ends'
  arms_next z begun ended k go first start end scope =
      let size = (stmt_code s i t).size in
      let next : length z.code ≡ length x.code + size + 1 = omega (arith, first.size) in
      record {
        made = subst (λ n. (w : Made) → ArmsMade s n rest z w → ArmsMade s j all y w) (sym scope) (λ w m. go.made w (z, first, m));
        size = subst (λ n. length z.code + (arms_code s n rest).size ≡ length y.code + (arms_code s j all).size)
            (sym scope) (omega (arith, go.size, first.size));
        starting =
            ap₂ (λ (l : List ℕ) n. l ++ starts_of s n rest (length z.code)) start scope
            ∙ ap (λ n. (starts ++ length x.code ∷ []) ++ starts_of s (i + scopes_in t) rest n) next
            ∙ append_assoc starts (length x.code ∷ []) (starts_of s (i + scopes_in t) rest (length x.code + size + 1)) ∙ go.starting;
        ending =
            ap₂ (λ (l : List ℕ) n. l ++ ends_of s n rest (length z.code)) end scope
            ∙ ap (λ n. (ends ++ (length x.code + size) ∷ []) ++ ends_of s (i + scopes_in t) rest n) next
            ∙ append_assoc ends ((length x.code + size) ∷ []) (ends_of s (i + scopes_in t) rest (length x.code + size + 1)) ∙ go.ending;
        next = omega (arith, scope, go.next);
      }

  pub arms_large :
      ArmsGo s i (more_arms (arm ls t) rest) x starts ends j all y starts' ends' → IsTooLarge (stmt_code s i t ⨾ one s (JMP 0)) x
      → IsTooLarge (arms_code s j all) y
  arms_large go large = omega (arith, go.size, large)

-- ## Branches, with the same

pub record BranchesGo (s : Site) (i : ℕ) (rest : AltTrees) (x : Made) (starts ends : List ℕ) (j : ℕ) (all : AltTrees) (y : Made)
    (starts' ends' : List ℕ) : Type 0 where
  pub made : (z : Made) → BranchesMade s i rest x z → BranchesMade s j all y z
  pub size : length x.code + (branches_code s i rest 0).size ≡ length y.code + (branches_code s j all 0).size
  pub starting : starts ++ branch_starts s i rest (length x.code) ≡ starts' ++ branch_starts s j all (length y.code)
  pub ending : ends ++ branch_ends s i rest (length x.code) ≡ ends' ++ branch_ends s j all (length y.code)
  pub next : i + alts_scopes rest ≡ j + alts_scopes all

pub branches_begin : (s : Site) (i : ℕ) (all : AltTrees) (x : Made) (starts ends : List ℕ) → BranchesGo s i all x starts ends i all x starts ends
branches_begin s i all x starts ends = record { made = λ z m. m; size = refl; starting = refl; ending = refl; next = refl }

module _ (s : Site) (i : ℕ) (a : AltTree) (rest : AltTrees) (x : Made) (starts ends : List ℕ) (j : ℕ) (all : AltTrees) (y : Made) (starts' ends' : List ℕ) where
  pub branches_next :
      (z : Made) (begun ended : List ℕ) (k : ℕ) → BranchesGo s i (more_alts a rest) x starts ends j all y starts' ends'
      → IsMade (open_branch s i a) x z → begun ≡ starts ++ branches_from s (length x.code) (spread_of a)
      → ended ≡ ends ++ end_of s i a (length x.code) → k ≡ i + alt_scopes a
      → BranchesGo s k rest z begun ended j all y starts' ends'
  branches_next z begun ended k go first start end scope =
      let far = i + alt_scopes a in
      let size = (branch_code s i a 0).size in
      let next : length z.code ≡ length x.code + size = omega (arith, first.size, open_size s i a 0) in
      let from = branches_from s (length x.code) (spread_of a) in
      let behind = end_of s i a (length x.code) in
      record {
        made = subst (λ n. (w : Made) → BranchesMade s n rest z w → BranchesMade s j all y w) (sym scope) (λ w m. go.made w (z, first, m));
        size =
            subst (λ n. length z.code + (branches_code s n rest 0).size ≡ length y.code + (branches_code s j all 0).size) (sym scope)
            (omega (arith, go.size, first.size, open_size s i a ((branches_code s far rest 0).size + 0)));
        starting =
            ap₂ (λ (l : List ℕ) n. l ++ branch_starts s n rest (length z.code)) start scope
            ∙ ap (λ n. (starts ++ from) ++ branch_starts s far rest n) next
            ∙ append_assoc starts from (branch_starts s far rest (length x.code + size)) ∙ go.starting;
        ending =
            ap₂ (λ (l : List ℕ) n. l ++ branch_ends s n rest (length z.code)) end scope
            ∙ ap (λ n. (ends ++ behind) ++ branch_ends s far rest n) next
            ∙ append_assoc ends behind (branch_ends s far rest (length x.code + size)) ∙ go.ending;
        next = omega (arith, scope, go.next);
      }

  pub branches_large :
      BranchesGo s i (more_alts a rest) x starts ends j all y starts' ends' → IsTooLarge (open_branch s i a) x
      → IsTooLarge (branches_code s j all 0) y
  branches_large go large =
      omega (arith, go.size, large, open_size s i a ((branches_code s (i + alt_scopes a) rest 0).size + 0))

-- ## What is refused

pub refused :
    {T : Type 0} (r : Result T EmitFault) (e : EmitFault) (whole : Code) (x : Made) → IsErrAnd r (λ y. y ≡ e) → (e ≡ Full → IsTooLarge whole x)
    → IfErr r (λ fault. fault ≡ Full → IsTooLarge whole x)
refused (Ok y) e whole x err large = absurd err
refused (Err y) e whole x err large = λ full. large (sym err ∙ full)

-- ## The last part is made, or refused

pub then_made :
    {T : Type 0} (r : Result T EmitFault) (a b : Code) (x y z : Made) → IsMade a x y → OnOk r (IsMade b y z) → OnOk r (IsMade (a ⨾ b) x z)
then_made r a b x y z first second = on_ok_weaker r (λ (made : IsMade b y z). made_both a b x y z first made) second

pub then_large :
    {T : Type 0} (r : Result T EmitFault) (a b : Code) (x y : Made) → IsMade a x y → IfErr r (λ fault. fault ≡ Full → IsTooLarge b y)
    → IfErr r (λ fault. fault ≡ Full → IsTooLarge (a ⨾ b) x)
then_large r a b x y first second =
    IfErr-weaker r (λ fault. fault ≡ Full → IsTooLarge b y) (λ fault. fault ≡ Full → IsTooLarge (a ⨾ b) x)
    (λ fault large full. omega (arith, large full, first.size)) second

-- as the whole is made
pub as_made :
    {T : Type 0} (r : Result T EmitFault) (a b : Code) (x w z : Made) → (IsMade a x z → IsMade b w z) → OnOk r (IsMade a x z) → OnOk r (IsMade b w z)
as_made r a b x w z f first = on_ok_weaker r (λ (made : IsMade a x z). f made) first

pub as_large :
    {T : Type 0} (r : Result T EmitFault) (a b : Code) (x y : Made) → (IsTooLarge a x → IsTooLarge b y)
    → IfErr r (λ fault. fault ≡ Full → IsTooLarge a x) → IfErr r (λ fault. fault ≡ Full → IsTooLarge b y)
as_large r a b x y f large =
    IfErr-weaker r (λ fault. fault ≡ Full → IsTooLarge a x) (λ fault. fault ≡ Full → IsTooLarge b y) (λ fault l full. f (l full)) large
