-- The code of a whole program, from what was made of its pieces.
use Rattle.std.proofs.Common.{◌≡◌, ℕ, ◌+◌, ◌++◌, List, [], ◌∷◌, length, drop, sym, ap, ap₂, ◌∙◌, subst, arith}
use Rattle.std.specs.Prelude.{max}
use Rattle.std.proofs.lemmas.List.{append_assoc, append-nil}
use Rattle.pfc_semantics.specs.Programs.{Program}
use Rattle.pfc_translation.specs.Codes.{Lined}
use Rattle.pfc_translation.specs.Images.{Piece, Coded, coded, body_code, before_main, of_main, put_from, size_of, strings_in, most_arms, scans_from}
use Rattle.pfc_expression_code.specs.Putting.{Made, IsMade}
use Rattle.pfc_generator.specs.Making.{SoFar, placings_from, AreSized, AreOrdered, IsComplete}
use Rattle.pfc_generator.specs.Whole.{main_coded, whole_code}
use Rattle.pfc_generator.proofs.Ordering.{all_ordered, arms_of_main, put_both}
use Rattle.pfc_generator.proofs.Placed.{drop_front}

module _ (g : Program) (ps : List Piece) (x : SoFar) (is : IsComplete g (coded g 0 0 ps) [] x) where
  abbrev parts : List Coded
  parts = coded g 0 0 ps

  code_is : x.made.code ≡ put_from 0 (before_main parts)
  code_is = sym (append-nil x.made.code) ∙ is.code

  pub at_is : length x.made.code ≡ size_of (before_main parts)
  at_is = omega (arith, is.size)

  pub texts_are : x.made.texts ≡ strings_in parts
  texts_are = sym (append-nil x.made.texts) ∙ is.texts

  pub placed_are : x.placed ≡ placings_from g 0 (before_main parts)
  placed_are = sym (append-nil x.placed) ∙ is.placed

  pub scans_are : x.scans ≡ scans_from 0 (before_main parts)
  scans_are = sym (append-nil x.scans) ∙ is.scans

  pub initials_are : x.initials ≡ of_main parts
  initials_are = sym (append-nil x.initials) ∙ is.initials

  pub are_sized : AreSized 0 (before_main parts)
  are_sized = is.sized tt

  -- the initialising bodies that are put again
  pub are_ordered : AreOrdered (length x.made.texts) 0 x.initials
  are_ordered =
      let last : length (strings_in parts) ≡ length x.made.texts = ap length (sym texts_are) in
      subst (λ (cs : List Coded). AreOrdered (length x.made.texts) 0 cs) (sym initials_are)
      (subst (λ (n : ℕ). AreOrdered n 0 (of_main parts)) (omega (arith, last)) (all_ordered g 0 0 0 ps (omega arith)))

  module _ (second third : Made) (put : second.code ≡ x.made.code ++ put_from (length x.made.code) x.initials)
      (size : length second.code ≡ length x.made.code + size_of x.initials) (count : length second.texts ≡ length x.made.texts)
      (arms : second.arms ≡ max x.made.arms (most_arms x.initials)) (main : IsMade (body_code g g.main) second third) where
    pub whole_is : third.code ≡ whole_code g parts
    whole_is =
        let at : ℕ = size_of (before_main parts) in
        let strings : ℕ = length (strings_in parts) in
        let outer : Lined = put_from 0 (before_main parts) in
        let inner : Lined = put_from at (of_main parts) in
        let own : ℕ → ℕ → Lined = (body_code g g.main).put in
        let second_is : second.code ≡ outer ++ inner = put ∙ ap₂ (λ (l r : Lined). l ++ r) code_is (ap₂ put_from at_is initials_are) in
        let size_is : length second.code ≡ at + size_of (of_main parts) = size ∙ ap₂ (λ (a b : ℕ). a + b) at_is (ap size_of initials_are) in
        let count_is : length second.texts ≡ strings = count ∙ ap length texts_are in
        main.code
        ∙ ap₂ (λ (l r : Lined). l ++ r) second_is (ap₂ own size_is count_is)
        ∙ append_assoc outer inner (own (at + size_of (of_main parts)) strings)
        ∙ ap (λ (l : Lined). outer ++ l)
        (ap (λ (l : Lined). inner ++ l) (sym (append-nil (own (at + size_of (of_main parts)) strings)))
        ∙ sym (put_both at (of_main parts) (main_coded g parts ∷ [])))

    pub arms_are : third.arms ≡ max (most_arms parts) (body_code g g.main).arms
    arms_are =
        let some = arms_of_main g 0 0 ps in
        let those = ap most_arms initials_are in
        omega (arith, main.arms, arms, is.arms, some, those)

    -- the strings of the main body stand behind those that were passed
    pub own_texts : drop (length x.made.texts) third.texts ≡ (body_code g g.main).texts
    own_texts = ap (drop (length x.made.texts)) main.texts ∙ drop_front (length x.made.texts) second.texts (body_code g g.main).texts count
