use Rattle.std.proofs.Common.{◌≡◌, ◌∙◌, ◌+◌, ◌++◌, ℕ, List, length, map, drop, sym, ap, ap₂, subst, arith}
use Rattle.std.specs.Prelude.{max}
use Rattle.std.proofs.lemmas.List.{length-map}
use Rattle.pfc_tree.specs.Symbols.{Text}
use Rattle.pfc_translation.specs.Images.{body_code, put_from, size_of, most_arms, instructions}
use Rattle.pfc_addresses.specs.Sites.{whole_view}
use Rattle.pfc_expression_code.specs.Putting.{Made, IsMade}
use Rattle.pfc_generator.specs.Making.{AreOrdered}
use Rattle.pfc_generator.specs.Views.{initials_view, pieces_view, so_far}
use Rattle.pfc_generator.specs.declared.making.Initial.{Initial}
use Rattle.pfc_generator.proofs.Whole.{at_is, texts_are, placed_are, scans_are, are_sized, are_ordered, whole_is, arms_are, own_texts}
use Rattle.pfc_generator.proofs.coded.put_all.Goals as goal

pub put_initials-requires : goal.put_initials-requires
put_initials-requires c =
    let program = c.args.addresses.now.program.now in
    let g = whole_view program in
    let ps = pieces_view program.tables c.args.pieces.now in
    let x = so_far program c.in_ok-coder.field-0 in
    let initials = c.in_ok-coder.field-0.initials.items in
    let count : c.in_ok-strings.strings ≡ length x.made.texts =
    omega (arith, c.in_ok-strings.ensures, c.len.ensures, ap length c.take_texts-texts.ensures.texts) in
    let none : length c.take_texts-texts.new.self.texts ≡ 0 = ap (λ (m : Made). length m.texts) c.take_texts-texts.ensures.rest in
    let ordered : AreOrdered (length x.made.texts) 0 (initials_view program initials) = are_ordered g ps x c.in_ok-coder.ensures in
    subst (λ (n : ℕ). AreOrdered n (length c.take_texts-texts.new.self.texts) (initials_view program c.deref.result.now)) (sym count)
    (subst (λ (n : ℕ). AreOrdered (length x.made.texts) n (initials_view program c.deref.result.now)) (sym none)
    (subst (λ (l : List Initial). AreOrdered (length x.made.texts) 0 (initials_view program l)) (sym c.deref.ensures.value) ordered))

pub returns : goal.returns
returns c =
    let program = c.args.addresses.now.program.now in
    let g = whole_view program in
    let ps = pieces_view program.tables c.args.pieces.now in
    let x = so_far program c.in_ok-coder.field-0 in
    let is = c.in_ok-coder.ensures in
    let second = c.put_initials.new.coder in
    let third = c.put_body.new.coder in
    let rest = c.take_texts-texts.ensures.rest in
    let those = c.deref.ensures.value in
    let strings : c.in_ok-strings.strings ≡ length x.made.texts =
    omega (arith, c.in_ok-strings.ensures, c.len.ensures, ap length c.take_texts-texts.ensures.texts) in
    let put : second.code ≡ x.made.code ++ put_from (length x.made.code) x.initials =
    c.in_ok-put_initials.ensures.code
    ∙ ap₂ (λ (m : Made) (l : List Initial). m.code ++ put_from (length m.code) (initials_view program l)) rest those
    in
    let size : length second.code ≡ length x.made.code + size_of x.initials =
    c.in_ok-put_initials.ensures.size ∙ ap₂ (λ (m : Made) (l : List Initial). length m.code + size_of (initials_view program l)) rest those
    in
    let arms : second.arms ≡ max x.made.arms (most_arms x.initials) =
    c.in_ok-put_initials.ensures.arms ∙ ap₂ (λ (m : Made) (l : List Initial). max m.arms (most_arms (initials_view program l))) rest those
    in
    let count : length second.texts ≡ length x.made.texts = c.in_ok-put_initials.ensures.texts ∙ strings in
    let main : IsMade (body_code g g.main) second third = c.in_ok-put_body.ensures.code in
    let own = c.take_texts-own.ensures.rest in
    let whole = whole_is g ps x is second third put size count arms main in
    let kept : length c.finish-code.result.0.items ≡ length third.code =
    ap length c.finish-code.ensures.code ∙ length-map c.take_texts-own.new.self.code (λ pair. pair.0) ∙ ap (λ (m : Made). length m.code) own
    in
    record {
      code = c.finish-code.ensures.code ∙ ap (λ (m : Made). instructions m.code) own ∙ ap instructions whole;
      lines = c.finish-code.ensures.lines ∙ ap (λ (m : Made). map (λ pair. pair.1) m.code) own ∙ ap (map (λ pair. pair.1)) whole;
      texts =
          c.in_ok-add_copies.ensures
          ∙ ap₂ (λ (l r : List Text). l ++ r) (c.take_texts-texts.ensures.texts ∙ texts_are g ps x is)
          (ap₂ (λ (n : ℕ) (l : List Text). drop n l) strings (c.deref-2.ensures.value ∙ c.take_texts-own.ensures.texts)
          ∙ own_texts g ps x is second third put size count arms main);
      arms = c.finish-code.ensures.arms ∙ ap (λ (m : Made). m.arms) own ∙ arms_are g ps x is second third put size count arms main;
      placed = placed_are g ps x is;
      sized = are_sized g ps x is;
      scans = scans_are g ps x is;
      main = c.here-main.ensures.address ∙ at_is g ps x is;
      few = omega (arith, kept, c.in_ok-put_body.ensures.few);
    }
