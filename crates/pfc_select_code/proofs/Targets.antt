-- An instruction that was put before its address was known, and the code in which it is the last one.
use Rattle.std.proofs.Common.{◌≡◌, ◌<◌, ℕ, ◌+◌, ◌-◌, ◌++◌, ◌∙◌, true, max, List, [], ◌∷◌, length, refl, sym, ap, ap₂, arith, length-append, Some}
use Rattle.pfc_tree.specs.Symbols.{Text}
use Rattle.pfc_tree.specs.trees.Exprs.{ExprTree}
use Rattle.pfc_code.specs.declared.instructions.Instr.{Instr}
use Rattle.pfc_code.specs.declared.instructions.Instr.TheVariants.{JF}
use Rattle.pfc_emit.specs.Addresses.{has_address, retargeted}
use Rattle.pfc_emit.specs.Patches.{has_address_at, patched}
use Rattle.pfc_emit.proofs.Patches.{patched-append_left, patched-append_right, has_address_at-append_left, has_address_at-append_right}
use Rattle.pfc_translation.specs.Sites.{Site}
use Rattle.pfc_translation.specs.Codes.{Code, Lined, nothing, ◌⨾◌, one, over}
use Rattle.pfc_translation.specs.Expressions.{expr_code}
use Rattle.pfc_translation.specs.Selects.{guarded_code}
use Rattle.pfc_expression_code.proofs.Putting.{IsListed, expr_listed}

-- code has as many instructions as it says
abbrev pub IsSized : Code → Type 0
IsSized c = (at n : ℕ) → length (c.put at n) ≡ c.size

pub sized_listed : (c : Code) (list : Lined) → IsListed c list → IsSized c
sized_listed c list is at n = ap length (is.same at n) ∙ is.sized

pub sized_nothing : IsSized nothing
sized_nothing at n = refl

pub sized_both : (a b : Code) → IsSized a → IsSized b → IsSized (a ⨾ b)
sized_both a b first second at n =
    length-append (a.put at n) (b.put (at + a.size) (n + length a.texts))
    ∙ ap₂ (λ (j k : ℕ). j + k) (first at n) (second (at + a.size) (n + length a.texts))

-- The last instruction of a has an address. Where it leads k instructions further than behind itself, it is the code b k.
pub record LedTo (a : Code) (b : ℕ → Code) : Type 0 where
  pub size : (k : ℕ) → (b k).size ≡ a.size
  pub texts : (k : ℕ) → (b k).texts ≡ a.texts
  pub arms : (k : ℕ) → (b k).arms ≡ a.arms
  pub some : 0 < a.size
  pub sized : IsSized a
  pub has : (at n : ℕ) → has_address_at (a.put at n) (a.size - 1) ≡ true
  pub put : (at n k : ℕ) → patched (a.put at n) (a.size - 1) (at + a.size + k) ≡ (b k).put at n

pub led_one :
    (s : Site) (i : ℕ → Instr) → has_address (i 0) ≡ true → ((t : ℕ) → retargeted (i 0) t ≡ i t)
    → LedTo (one s (i 0)) (λ k. over s i k)
led_one s i has set =
    record {
      size = λ k. refl;
      texts = λ k. refl;
      arms = λ k. refl;
      some = omega arith;
      sized = λ at n. refl;
      has = λ at n. has;
      put = λ at n k. ap (λ (j : Instr). (j, s.line) ∷ []) (set (at + 1 + k));
    }

pub led_behind : (p a : Code) (b : ℕ → Code) → IsSized p → LedTo a b → LedTo (p ⨾ a) (λ k. p ⨾ b k)
led_behind p a b before led =
    let place : (at n : ℕ) → p.size + a.size - 1 ≡ length (p.put at n) + (a.size - 1) = λ at n. omega (arith, before at n, led.some) in
    record {
      size = λ k. ap (λ j. p.size + j) (led.size k);
      texts = λ k. ap (λ (t : List Text). p.texts ++ t) (led.texts k);
      arms = λ k. ap (λ j. max p.arms j) (led.arms k);
      some = omega (arith, led.some);
      sized = sized_both p a before led.sized;
      has =
          λ at n.
          let behind = a.put (at + p.size) (n + length p.texts) in
          ap (λ j. has_address_at (p.put at n ++ behind) j) (place at n)
          ∙ has_address_at-append_right (p.put at n) behind (a.size - 1)
          ∙ led.has (at + p.size) (n + length p.texts);
      put =
          λ at n k.
          let behind = a.put (at + p.size) (n + length p.texts) in
          ap₂ (λ j t. patched (p.put at n ++ behind) j t) (place at n) (omega arith)
          ∙ patched-append_right (p.put at n) behind (a.size - 1) (at + p.size + a.size + k)
          ∙ ap (λ (x : Lined). p.put at n ++ x) (led.put (at + p.size) (n + length p.texts) k);
    }

pub led_is : (a : Code) (b c : ℕ → Code) → LedTo a b → ((k : ℕ) → b k ≡ c k) → LedTo a c
led_is a b c led is =
    record {
      size = λ k. ap (λ (x : Code). x.size) (sym (is k)) ∙ led.size k;
      texts = λ k. ap (λ (x : Code). x.texts) (sym (is k)) ∙ led.texts k;
      arms = λ k. ap (λ (x : Code). x.arms) (sym (is k)) ∙ led.arms k;
      some = led.some;
      sized = led.sized;
      has = led.has;
      put = λ at n k. led.put at n k ∙ ap (λ (x : Code). x.put at n) (is k);
    }

-- with a guard, which leads behind the code
pub led_when :
    (s : Site) (e : ExprTree) (a : Code) (b : ℕ → Code) → LedTo a b → LedTo (guarded_code s (Some e) a) (λ k. guarded_code s (Some e) (b k))
led_when s e a b led =
    led_is (guarded_code s (Some e) a) (λ k. expr_code s e ⨾ (over s JF a.size ⨾ b k)) (λ k. guarded_code s (Some e) (b k))
    (led_behind (expr_code s e) (over s JF a.size ⨾ a) (λ k. over s JF a.size ⨾ b k) (sized_listed (expr_code s e) _ (expr_listed s e))
    (led_behind (over s JF a.size) a b (λ at n. refl) led))
    (λ k. ap (λ j. expr_code s e ⨾ (over s JF j ⨾ b k)) (sym (led.size k)))

-- between other code
pub led_between :
    (a : Code) (b : ℕ → Code) (B X : Lined) (n k : ℕ) → LedTo a b
    → patched (B ++ (a.put (length B) n ++ X)) (length B + a.size - 1) (length B + a.size + k) ≡ B ++ ((b k).put (length B) n ++ X)
led_between a b B X n k led =
    let here = a.put (length B) n in
    ap (λ j. patched (B ++ (here ++ X)) j (length B + a.size + k)) (omega (arith, led.some))
    ∙ patched-append_right B (here ++ X) (a.size - 1) (length B + a.size + k)
    ∙ ap (λ (x : Lined). B ++ x)
    (patched-append_left here X (a.size - 1) (length B + a.size + k) (omega (arith, led.some, led.sized (length B) n))
    ∙ ap (λ (x : Lined). x ++ X) (led.put (length B) n k))

pub has_between :
    (a : Code) (b : ℕ → Code) (B X : Lined) (n : ℕ) → LedTo a b
    → has_address_at (B ++ (a.put (length B) n ++ X)) (length B + a.size - 1) ≡ true
has_between a b B X n led =
    let here = a.put (length B) n in
    ap (λ j. has_address_at (B ++ (here ++ X)) j) (omega (arith, led.some))
    ∙ has_address_at-append_right B (here ++ X) (a.size - 1)
    ∙ has_address_at-append_left here X (a.size - 1) (omega (arith, led.some, led.sized (length B) n))
    ∙ led.has (length B) n
