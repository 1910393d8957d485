-- The blocks of bodies, from where they stand in the whole code.
use Rattle.std.proofs.Common.{◌≡◌, ℕ, zero, suc, ◌+◌, ◌-◌, ◌++◌, List, [], ◌∷◌, length, map, take, drop, refl, sym, ap, ap₂, ◌∙◌, arith, length-append}
use Rattle.std.proofs.lemmas.List.{append_assoc, map-append, length-map, drop_all}
use Rattle.pfc_semantics.specs.Programs.{Block, Program}
use Rattle.pfc_code.specs.declared.instructions.Instr.{Instr}
use Rattle.pfc_code.specs.declared.images.Block.{Block as CodeBlock}
use Rattle.pfc_translation.specs.Operands.{most_operands}
use Rattle.pfc_translation.specs.Images.{Piece, a_body, an_initial, a_resource, Coded, put_from, size_of, instructions, block_from, blocks_from, piece_blocks}
use Rattle.pfc_blocks.specs.Making.{made_block}
use Rattle.pfc_generator.specs.Whole.{blocks_in}
use Rattle.pfc_generator.specs.Making.{placing, body_placing, placings_from, AreSized}

-- the code of some pieces has as many instructions as they say
pub sized_length : (at : ℕ) (cs : List Coded) → AreSized at cs → length (put_from at cs) ≡ size_of cs
sized_length at [] is = refl
sized_length at (c ∷ cs) is =
    let rest = sized_length (at + c.code.size) cs is.1 in
    let both = length-append (c.code.put at c.strings) (put_from (at + c.code.size) cs) in
    omega (arith, is.0, rest, both)

pub take_front : {A : Type 0} → (n : ℕ) (xs ys : List A) → length xs ≡ n → take n (xs ++ ys) ≡ xs
take_front n [] ys e = ap (λ (k : ℕ). take k ys) (sym e)
take_front n (x ∷ xs) ys e = ap (λ (k : ℕ). take k (x ∷ (xs ++ ys))) (sym e) ∙ ap (λ l. x ∷ l) (take_front (length xs) xs ys refl)

pub drop_front : {A : Type 0} → (n : ℕ) (xs ys : List A) → length xs ≡ n → drop n (xs ++ ys) ≡ ys
drop_front n [] ys e = ap (λ (k : ℕ). drop k ys) (sym e)
drop_front n (x ∷ xs) ys e = ap (λ (k : ℕ). drop k (x ∷ (xs ++ ys))) (sym e) ∙ drop_front (length xs) xs ys refl

drop_further : {A : Type 0} → (n m : ℕ) (xs : List A) → drop (n + m) xs ≡ drop m (drop n xs)
drop_further zero m xs = let same : zero + m ≡ m = omega arith in ap (λ (k : ℕ). drop k xs) same
drop_further (suc n) m [] = drop_all (suc n + m) [] (omega arith) ∙ sym (drop_all m [] (omega arith))
drop_further (suc n) m (x ∷ xs) =
    let same : suc n + m ≡ suc (n + m) = omega arith in ap (λ (k : ℕ). drop k (x ∷ xs)) same ∙ drop_further n m xs

-- one body in its place
body_made :
    (g : Program) (at : ℕ) (b : Block) (c : Coded) (code behind : List Instr) → length (c.code.put at c.strings) ≡ c.code.size
    → drop at code ≡ instructions (c.code.put at c.strings) ++ behind
    → made_block g code (placing g at b c.code) ≡ block_from g at b c
body_made g at b c code behind sized is =
    let own : List Instr = instructions (c.code.put at c.strings) in
    let size : (at + c.code.size) - at ≡ c.code.size = omega arith in
    let count : length own ≡ c.code.size = length-map (c.code.put at c.strings) (λ pair. pair.0) ∙ sized in
    let taken : take ((at + c.code.size) - at) (drop at code) ≡ own =
    ap₂ (λ (n : ℕ) (l : List Instr). take n l) size is ∙ take_front c.code.size own behind count
    in
    ap (λ (l : List Instr). record (block_from g at b c) { operands = most_operands g 0 l }) taken

pub blocks_made :
    (g : Program) (at : ℕ) (cs : List Coded) (code behind : List Instr) → AreSized at cs → drop at code ≡ instructions (put_from at cs) ++ behind
    → blocks_in g code (placings_from g at cs) ≡ blocks_from g at cs
blocks_made g at [] code behind sized is = refl
blocks_made g at (c ∷ cs) code behind sized is =
    let own : List Instr = instructions (c.code.put at c.strings) in
    let rest : List Instr = instructions (put_from (at + c.code.size) cs) in
    let count : length own ≡ c.code.size = length-map (c.code.put at c.strings) (λ pair. pair.0) ∙ sized.0 in
    let split : drop at code ≡ own ++ (rest ++ behind) =
    is ∙ ap (λ (l : List Instr). l ++ behind) (map-append (λ pair. pair.0) (c.code.put at c.strings) (put_from (at + c.code.size) cs))
    ∙ append_assoc own rest behind
    in
    let further : drop (at + c.code.size) code ≡ rest ++ behind =
    drop_further at c.code.size code ∙ ap (λ (l : List Instr). drop c.code.size l) split ∙ drop_front c.code.size own (rest ++ behind) count
    in
    map-append (made_block g code) (body_placing g at c.piece c.code) (placings_from g (at + c.code.size) cs)
    ∙ ap₂ (λ (l r : List CodeBlock). l ++ r) (one c.piece) (blocks_made g (at + c.code.size) cs code behind sized.1 further)
  where
    one : (p : Piece) → map (made_block g code) (body_placing g at p c.code) ≡ piece_blocks g at p c
    one (a_body b) = ap (λ (x : CodeBlock). x ∷ []) (body_made g at b c code (instructions (put_from (at + c.code.size) cs) ++ behind) sized.0
        (is ∙ ap (λ (l : List Instr). l ++ behind) (map-append (λ pair. pair.0) (c.code.put at c.strings) (put_from (at + c.code.size) cs))
        ∙ append_assoc (instructions (c.code.put at c.strings)) (instructions (put_from (at + c.code.size) cs)) behind))
    one (an_initial b) = refl
    one (a_resource line) = refl
