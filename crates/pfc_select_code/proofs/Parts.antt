-- Code that is put in two or three parts, as the functions tell it.
use Rattle.std.proofs.Common.{◌≡◌, ℕ, ◌+◌, ◌++◌, ◌∙◌, true, [], ◌∷◌, length, sym, ap, subst, arith, length-append, Some, Result, OnOk, IfErr}
use Rattle.std.proofs.lemmas.Result.{on_ok_weaker, IfErr-weaker}
use Rattle.pfc_tree.specs.trees.Exprs.{ExprTree}
use Rattle.pfc_code.specs.declared.instructions.Instr.TheVariants.{JF}
use Rattle.pfc_emit.specs.Patches.{has_address_at, patched}
use Rattle.pfc_emit.proofs.Patches.{has_address_at-put, patched-put, length-patched}
use Rattle.pfc_emit.specs.declared.emitter.EmitFault.{EmitFault}
use Rattle.pfc_emit.specs.declared.emitter.EmitFault.TheVariants.{Full}
use Rattle.pfc_translation.specs.Sites.{Site}
use Rattle.pfc_translation.specs.Codes.{Code, Lined, ◌⨾◌, one, over}
use Rattle.pfc_translation.specs.Expressions.{expr_code}
use Rattle.pfc_translation.specs.Selects.{guarded_code}
use Rattle.pfc_expression_code.specs.Putting.{Made, IsMade, IsTooLarge}
use Rattle.pfc_expression_code.proofs.Joining.{made_both, large_first, large_second}

-- the last of three parts is put, or is too large
pub three_ok :
    {T : Type 0} (r : Result T EmitFault) (a b c : Code) (x y z u : Made) → IsMade a x y → IsMade b y z → OnOk r (IsMade c z u)
    → OnOk r (IsMade (a ⨾ (b ⨾ c)) x u)
three_ok r a b c x y z u first second third =
    on_ok_weaker r (λ (last : IsMade c z u). made_both a (b ⨾ c) x y u first (made_both b c y z u second last)) third

pub three_err :
    {T : Type 0} (r : Result T EmitFault) (a b c : Code) (x y z : Made) → IsMade a x y → IsMade b y z
    → IfErr r (λ fault. fault ≡ Full → IsTooLarge c z) → IfErr r (λ fault. fault ≡ Full → IsTooLarge (a ⨾ (b ⨾ c)) x)
three_err r a b c x y z first second third =
    IfErr-weaker r (λ fault. fault ≡ Full → IsTooLarge c z) (λ fault. fault ≡ Full → IsTooLarge (a ⨾ (b ⨾ c)) x)
    (λ fault e full. large_second a (b ⨾ c) x y first (large_second b c y z second (e full))) third

-- the second is
pub two_large : (a b c : Code) (x y : Made) → IsMade a x y → IsTooLarge b y → IsTooLarge (a ⨾ (b ⨾ c)) x
two_large a b c x y first large = large_second a (b ⨾ c) x y first (large_first b c y large)

-- ## A guard, whose jump is led behind what it guards

pub when_can :
    (s : Site) (a : Code) (y z w : Made) (test : ℕ) → test ≡ length y.code → IsMade (one s (JF 0)) y z → IsMade a z w
    → has_address_at w.code test ≡ true
when_can s a y z w test is second third =
    let behind = a.put (length z.code) (length z.texts) in
    ap (λ (l : Lined). has_address_at l test) (third.code ∙ ap (λ (l : Lined). l ++ behind) second.code)
    ∙ has_address_at-put y.code (JF 0) s.line behind test is

pub when_made :
    (s : Site) (e : ExprTree) (a : Code) (x y z w u : Made) (test target : ℕ) → test ≡ length y.code → target ≡ length w.code
    → IsMade (expr_code s e) x y → IsMade (one s (JF 0)) y z → IsMade a z w → u ≡ record w { code = patched w.code test target }
    → IsMade (guarded_code s (Some e) a) x u
when_made s e a x y z w u test target is leads first second third led =
    let behind = a.put (length z.code) (length z.texts) in
    let jump : Lined = (JF target, s.line) ∷ [] in
    let v : Made = record z { code = y.code ++ jump } in
    let size : length (y.code ++ jump) ≡ length z.code = omega (arith, length-append y.code jump, second.size) in
    let over_all : target ≡ length y.code + 1 + a.size = omega (arith, leads, third.size, second.size) in
    let code : patched w.code test target ≡ (y.code ++ jump) ++ behind =
    ap (λ (l : Lined). patched l test target) (third.code ∙ ap (λ (l : Lined). l ++ behind) second.code)
    ∙ patched-put y.code (JF 0) s.line behind test target is
    in
    let passes : IsMade (over s JF a.size) y v =
    record {
      code = ap (λ t. y.code ++ (JF t, s.line) ∷ []) over_all;
      texts = second.texts;
      arms = second.arms;
      size = length-append y.code jump;
    }
    in
    let inner : IsMade a v (record w { code = patched w.code test target }) =
    record {
      code = code ∙ ap (λ j. (y.code ++ jump) ++ a.put j (length z.texts)) (sym size);
      texts = third.texts;
      arms = third.arms;
      size = length-patched w.code test target ∙ third.size ∙ ap (λ j. j + a.size) (sym size);
    }
    in
    subst (λ (m : Made). IsMade (guarded_code s (Some e) a) x m) (sym led)
    (made_both (expr_code s e) (over s JF a.size ⨾ a) x y (record w { code = patched w.code test target }) first
    (made_both (over s JF a.size) a y v (record w { code = patched w.code test target }) passes inner))
