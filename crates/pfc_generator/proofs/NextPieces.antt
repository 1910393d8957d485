-- What is made of a program, one piece more.
use Rattle.std.proofs.Common.{◌≡◌, ℕ, ◌+◌, ◌++◌, Bool, true, false, List, [], ◌∷◌, length, refl, sym, ap, ap₂, ◌∙◌, subst, arith, length-append}
use Rattle.std.specs.Prelude.{if◌then◌else◌, max}
use Rattle.std.proofs.lemmas.List.{append_assoc, append-nil}
use Rattle.pfc_tree.specs.Symbols.{Text}
use Rattle.pfc_semantics.specs.Programs.{Program}
use Rattle.pfc_translation.specs.Codes.{Code, Lined}
use Rattle.pfc_translation.specs.Images.{Piece, a_body, an_initial, a_resource, Coded, coded, body_code, statements_code, scan_code, is_initial, before_main}
use Rattle.pfc_translation.specs.Images.{of_main, put_from, size_of, strings_in, scan_at, scans_from}
use Rattle.pfc_expression_code.specs.Putting.{IsMade}
use Rattle.pfc_blocks.specs.Making.{Placing}
use Rattle.pfc_generator.specs.Making.{SoFar, nothing_made, placing, IsPut, body_placing, placings_from, AreSized, IsComplete}

pub none_complete : (g : Program) (all : List Coded) → IsComplete g all all nothing_made
none_complete g all = record {
  code = refl;
  size = omega arith;
  sized = λ h. h;
  texts = refl;
  arms = omega arith;
  placed = refl;
  scans = refl;
  initials = refl;
}

module _ (g : Program) (all rest : List Coded) (c : Coded) (x y : SoFar) (is : IsComplete g all (c ∷ rest) x) where
  -- one that keeps its code
  kept_next :
      (one : List Placing) (scan : List ℕ) → is_initial c.piece ≡ false → c.strings ≡ length x.made.texts → IsMade c.code x.made y.made
      → one ≡ body_placing g (length x.made.code) c.piece c.code → scan ≡ scan_at (length x.made.code) c.piece
      → y.placed ≡ x.placed ++ one → y.scans ≡ x.scans ++ scan → y.initials ≡ x.initials → IsComplete g all rest y
  kept_next one scan kept numbered made is_one is_scan placed scans initials =
      let at : ℕ = length x.made.code in
      let outer : List Coded = before_main rest in
      let first : before_main (c ∷ rest) ≡ c ∷ outer = ap (λ (b : Bool). if b then outer else c ∷ outer) kept in
      let none : of_main (c ∷ rest) ≡ of_main rest = ap (λ (b : Bool). if b then c ∷ of_main rest else of_main rest) kept in
      let size : size_of (before_main (c ∷ rest)) ≡ c.code.size + size_of outer = ap size_of first in
      let long = ap length made.code ∙ length-append x.made.code (c.code.put at (length x.made.texts)) in
      let count : length (c.code.put at (length x.made.texts)) ≡ c.code.size = omega (arith, long, made.size) in
      record {
        code =
            ap₂ (λ (l : Lined) (n : ℕ). l ++ put_from n outer) made.code made.size
            ∙ append_assoc x.made.code (c.code.put at (length x.made.texts)) (put_from (at + c.code.size) outer)
            ∙ ap (λ (n : ℕ). x.made.code ++ (c.code.put at n ++ put_from (at + c.code.size) outer)) (sym numbered)
            ∙ ap (λ (cs : List Coded). x.made.code ++ put_from at cs) (sym first)
            ∙ is.code;
        size = omega (arith, made.size, is.size, size);
        sized = λ h. is.sized
            (subst (λ (cs : List Coded). AreSized at cs) (sym first)
            (ap (λ (n : ℕ). length (c.code.put at n)) numbered ∙ count, subst (λ (n : ℕ). AreSized n outer) made.size h));
        texts = ap (λ (l : List Text). l ++ strings_in rest) made.texts ∙ append_assoc x.made.texts c.code.texts (strings_in rest) ∙ is.texts;
        arms = omega (arith, made.arms, is.arms);
        placed =
            ap₂ (λ (l : List Placing) (n : ℕ). l ++ placings_from g n outer) (placed ∙ ap (λ (l : List Placing). x.placed ++ l) is_one) made.size
            ∙ append_assoc x.placed (body_placing g at c.piece c.code) (placings_from g (at + c.code.size) outer)
            ∙ ap (λ (cs : List Coded). x.placed ++ placings_from g at cs) (sym first)
            ∙ is.placed;
        scans =
            ap₂ (λ (l : List ℕ) (n : ℕ). l ++ scans_from n outer) (scans ∙ ap (λ (l : List ℕ). x.scans ++ l) is_scan) made.size
            ∙ append_assoc x.scans (scan_at at c.piece) (scans_from (at + c.code.size) outer)
            ∙ ap (λ (cs : List Coded). x.scans ++ scans_from at cs) (sym first)
            ∙ is.scans;
        initials = ap₂ (λ (l r : List Coded). l ++ r) initials (sym none) ∙ is.initials;
      }

  -- an initialising body, whose code was cut away
  initial_next :
      is_initial c.piece ≡ true → y.made.code ≡ x.made.code → y.made.texts ≡ x.made.texts ++ c.code.texts → y.made.arms ≡ max x.made.arms c.code.arms
      → y.placed ≡ x.placed → y.scans ≡ x.scans → y.initials ≡ x.initials ++ c ∷ [] → IsComplete g all rest y
  initial_next cut code texts arms placed scans initials =
      let at : ℕ = length x.made.code in
      let outer : List Coded = before_main rest in
      let same : length y.made.code ≡ at = ap length code in
      let none : before_main (c ∷ rest) ≡ outer = ap (λ (b : Bool). if b then outer else c ∷ outer) cut in
      let first : of_main (c ∷ rest) ≡ c ∷ of_main rest = ap (λ (b : Bool). if b then c ∷ of_main rest else of_main rest) cut in
      let size : size_of (before_main (c ∷ rest)) ≡ size_of outer = ap size_of none in
      record {
        code =
            ap₂ (λ (l : Lined) (n : ℕ). l ++ put_from n outer) code same
            ∙ ap (λ (cs : List Coded). x.made.code ++ put_from at cs) (sym none)
            ∙ is.code;
        size = omega (arith, same, is.size, size);
        sized = λ h. is.sized (subst (λ (cs : List Coded). AreSized at cs) (sym none) (subst (λ (n : ℕ). AreSized n outer) same h));
        texts = ap (λ (l : List Text). l ++ strings_in rest) texts ∙ append_assoc x.made.texts c.code.texts (strings_in rest) ∙ is.texts;
        arms = omega (arith, arms, is.arms);
        placed =
            ap₂ (λ (l : List Placing) (n : ℕ). l ++ placings_from g n outer) placed same
            ∙ ap (λ (cs : List Coded). x.placed ++ placings_from g at cs) (sym none)
            ∙ is.placed;
        scans =
            ap₂ (λ (l : List ℕ) (n : ℕ). l ++ scans_from n outer) scans same
            ∙ ap (λ (cs : List Coded). x.scans ++ scans_from at cs) (sym none)
            ∙ is.scans;
        initials =
            ap (λ (l : List Coded). l ++ of_main rest) initials
            ∙ append_assoc x.initials (c ∷ []) (of_main rest)
            ∙ ap (λ (l : List Coded). x.initials ++ l) (sym first)
            ∙ is.initials;
      }

module _ (g : Program) (all : List Coded) (ps : List Piece) (x y : SoFar) where
  -- the pieces that are left behind one
  abbrev left : SoFar → Code → ℕ → List Coded
  left before c resources = coded g (length before.scans + resources) (length before.made.texts + length c.texts) ps

  -- are those that are left now
  renumbered :
      (c : Code) (resources : ℕ) → length y.scans ≡ length x.scans + resources → y.made.texts ≡ x.made.texts ++ c.texts
      → left x c resources ≡ coded g (length y.scans) (length y.made.texts) ps
  renumbered c resources count texts =
      ap₂ (λ (n s : ℕ). coded g n s ps) (sym count) (sym (ap length texts ∙ length-append x.made.texts c.texts))

  pub piece_next :
      (p : Piece) → IsPut g p x y → IsComplete g all (coded g (length x.scans) (length x.made.texts) (p ∷ ps)) x
      → IsComplete g all (coded g (length y.scans) (length y.made.texts) ps) y
  piece_next (a_body b) (made, (placed, (scans, initials))) is =
      let c : Code = body_code g b in
      let all_scans : y.scans ≡ x.scans ++ [] = scans ∙ sym (append-nil x.scans) in
      subst (λ (cs : List Coded). IsComplete g all cs y) (renumbered c 0 (omega (arith, ap length scans)) made.texts)
      (kept_next g all (left x c 0) (record { piece = a_body b; code = c; strings = length x.made.texts }) x y is
      (placing g (length x.made.code) b c ∷ []) [] refl refl made refl refl placed all_scans initials)
  piece_next (an_initial b) ((code, (texts, arms)), (placed, (scans, initials))) is =
      let c : Code = statements_code g b in
      subst (λ (cs : List Coded). IsComplete g all cs y) (renumbered c 0 (omega (arith, ap length scans)) texts)
      (initial_next g all (left x c 0) (record { piece = an_initial b; code = c; strings = length x.made.texts }) x y is
      refl code texts arms placed scans initials)
  piece_next (a_resource line) (made, (placed, (scans, initials))) is =
      let c : Code = scan_code g (length x.scans) line in
      let all_placed : y.placed ≡ x.placed ++ [] = placed ∙ sym (append-nil x.placed) in
      let count : length y.scans ≡ length x.scans + 1 = ap length scans ∙ length-append x.scans (length x.made.code ∷ []) in
      subst (λ (cs : List Coded). IsComplete g all cs y) (renumbered c 1 count made.texts)
      (kept_next g all (left x c 1) (record { piece = a_resource line; code = c; strings = length x.made.texts }) x y is
      [] (length x.made.code ∷ []) refl refl made refl refl all_placed scans initials)
