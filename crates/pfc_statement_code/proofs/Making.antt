-- Code that is made, told in another way.
use Rattle.std.proofs.Common.{◌≡◌, ◌+◌, ◌-◌, ◌++◌, max, ℕ, List, [], ◌∷◌, length, refl, ap, ap₂, ◌∙◌, arith, append_assoc, length-append}
use Rattle.pfc_tree.specs.Symbols.{Text}
use Rattle.pfc_code.specs.declared.instructions.Instr.{Instr}
use Rattle.pfc_translation.specs.Sites.{Site}
use Rattle.pfc_translation.specs.Codes.{Code, Lined, nothing, ◌⨾◌, one, over, back}
use Rattle.pfc_expression_code.specs.Putting.{Made, IsMade}

-- where two phrases have the same code at this place, the one is made as the other is
pub made_as :
    (a b : Code) (x y : Made) → IsMade a x y
    → a.put (length x.code) (length x.texts) ≡ b.put (length x.code) (length x.texts) → a.texts ≡ b.texts → a.arms ≡ b.arms → a.size ≡ b.size
    → IsMade b x y
made_as a b x y made put texts arms size =
    record {
      code = made.code ∙ ap (λ (l : Lined). x.code ++ l) put;
      texts = made.texts ∙ ap (λ (l : List Text). x.texts ++ l) texts;
      arms = made.arms ∙ ap (λ k. max x.arms k) arms;
      size = made.size ∙ ap (λ k. length x.code + k) size;
    }

-- ## Parts are grouped otherwise

pub made_left : (a b c : Code) (x y : Made) → IsMade ((a ⨾ b) ⨾ c) x y → IsMade (a ⨾ b ⨾ c) x y
made_left a b c x y made =
    let at = length x.code in
    let n = length x.texts in
    let one_at : at + (a.size + b.size) ≡ at + a.size + b.size = omega arith in
    let one_n : n + length (a.texts ++ b.texts) ≡ n + length a.texts + length b.texts = omega (arith, length-append a.texts b.texts) in
    made_as ((a ⨾ b) ⨾ c) (a ⨾ b ⨾ c) x y made
    (append_assoc (a.put at n) (b.put (at + a.size) (n + length a.texts)) (c.put (at + (a.size + b.size)) (n + length (a.texts ++ b.texts)))
    ∙ ap (λ (l : Lined). a.put at n ++ (b.put (at + a.size) (n + length a.texts) ++ l)) (ap₂ c.put one_at one_n))
    (append_assoc a.texts b.texts c.texts) (omega arith) (omega arith)

pub made_left3 : (a b c d : Code) (x y : Made) → IsMade ((a ⨾ b ⨾ c) ⨾ d) x y → IsMade (a ⨾ b ⨾ c ⨾ d) x y
made_left3 a b c d x y made =
    let at = length x.code in
    let n = length x.texts in
    let bs = b.put (at + a.size) (n + length a.texts) in
    let cs = c.put (at + a.size + b.size) (n + length a.texts + length b.texts) in
    let ds = d.put (at + (a.size + (b.size + c.size))) (n + length (a.texts ++ (b.texts ++ c.texts))) in
    let one_at : at + (a.size + (b.size + c.size)) ≡ at + a.size + b.size + c.size = omega arith in
    let one_n : n + length (a.texts ++ (b.texts ++ c.texts)) ≡ n + length a.texts + length b.texts + length c.texts =
    omega (arith, length-append a.texts (b.texts ++ c.texts), length-append b.texts c.texts) in
    made_as ((a ⨾ b ⨾ c) ⨾ d) (a ⨾ b ⨾ c ⨾ d) x y made
    (append_assoc (a.put at n) (bs ++ cs) ds
    ∙ ap (λ (l : Lined). a.put at n ++ l) (append_assoc bs cs ds)
    ∙ ap (λ (l : Lined). a.put at n ++ (bs ++ (cs ++ l))) (ap₂ d.put one_at one_n))
    (append_assoc a.texts (b.texts ++ c.texts) d.texts ∙ ap (λ (l : List Text). a.texts ++ l) (append_assoc b.texts c.texts d.texts))
    (omega arith) (omega arith)

-- with nothing before it
pub made_alone : (c : Code) (x y : Made) → IsMade c x y → IsMade (nothing ⨾ c) x y
made_alone c x y made =
    let here : length x.code ≡ length x.code + 0 = omega arith in
    let before : length x.texts ≡ length x.texts + 0 = omega arith in
    made_as c (nothing ⨾ c) x y made (ap₂ c.put here before) refl (omega arith) (omega arith)

pub made_behind_nothing : (c : Code) (x y : Made) → IsMade (nothing ⨾ c) x y → IsMade c x y
made_behind_nothing c x y made =
    let here : length x.code + 0 ≡ length x.code = omega arith in
    let before : length x.texts + 0 ≡ length x.texts = omega arith in
    made_as (nothing ⨾ c) c x y made (ap₂ c.put here before) refl (omega arith) (omega arith)

-- ## An address is a distance

-- from what stands behind the instruction
pub made_over :
    (s : Site) (a : Code) (j : ℕ → Instr) (t count : ℕ) (x y : Made) → IsMade (a ⨾ one s (j t)) x y → t ≡ length y.code + count
    → IsMade (a ⨾ over s j count) x y
made_over s a j t count x y made is =
    let here : t ≡ length x.code + a.size + 1 + count = omega (arith, is, made.size) in
    made_as (a ⨾ one s (j t)) (a ⨾ over s j count) x y made
    (ap (λ k. a.put (length x.code) (length x.texts) ++ (j k, s.line) ∷ []) here) refl refl refl

-- or back from the instruction
pub made_back :
    (s : Site) (j : ℕ → Instr) (t count : ℕ) (x y : Made) → IsMade (one s (j t)) x y → t ≡ length x.code - count → IsMade (back s j count) x y
made_back s j t count x y made is = made_as (one s (j t)) (back s j count) x y made (ap (λ k. (j k, s.line) ∷ []) is) refl refl refl
