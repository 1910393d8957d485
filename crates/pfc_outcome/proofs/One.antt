-- There is one outcome.
use Rattle.std.proofs.Common.{◌≡◌, ℕ, zero, suc, ◌+◌, ◌<◌, ◌≤◌, ◌⊎◌, inl, inr, List, [], ◌∷◌, All, drop, slice_index, Option, Some, None, sym, ap}
use Rattle.std.proofs.Common.{ap₂, ◌∙◌, subst, arith, take-append-drop}
use Rattle.pfc_base.specs.declared.places.Place.{Place}
use Rattle.pfc_base.specs.declared.tokens.Token.{Token}
use Rattle.pfc_io.specs.Files.{File}
use Rattle.pfc_scan.specs.Cutting.{Cutting, tokens, refusal}
use Rattle.pfc_scan.proofs.One.{one_cut}
use Rattle.pfc_tree.specs.Symbols.{Symbol, symbols}
use Rattle.pfc_tree.specs.Grammar.{most_depth, up_to, Continues, StopsAt, StopsAtEnd, IsTooDeep, IsSyntaxFault, unexpected, deep}
use Rattle.pfc_tree.specs.shapes.Parts.{ProgramShape}
use Rattle.pfc_tree.specs.tokens.Parts.{tokens_of}
use Rattle.pfc_tree.specs.lawful.Parts.{IsLawful}
use Rattle.pfc_tree.specs.depths.Parts.{depths_of}
use Rattle.pfc_tree.specs.trees.Parts.{ProgramTree}
use Rattle.pfc_tree.specs.forget.Parts.{forget_program}
use Rattle.pfc_tree.proofs.Faults.{code_is_one, place_is_one}
use Rattle.pfc_grammar.proofs.placed_one.Parts.{one_tree_of}
use Rattle.pfc_outcome.specs.Loading.{Lack, first_lack, long, missing}
use Rattle.pfc_outcome.specs.Meanings.{Meaning}
use Rattle.pfc_outcome.specs.Options.{Asked, options_of}
use Rattle.pfc_outcome.specs.Outcomes.{Outcome, IsOutcome, IsOutcomeBy, IsOutcomeOf, IsOutcomeOfCutting, IsOutcomeOfFiles, IsOutcomeOfText, IsOutcomeOfTokens}
use Rattle.pfc_outcome.specs.Outcomes.{IsOutcomeOfTree, IsUnlisted, behind, large, listing_written, names_by, no_fault, refused, run, static_fault}
use Rattle.pfc_outcome.specs.Outcomes.{syntax_fault, syntax_refusal}
use Rattle.pfc_outcome.specs.Requests.{Request}

-- ## A program has no syntax fault

shallow : (ds : List ℕ) (i : ℕ) → All (λ d. d ≤ most_depth) ds → most_depth < slice_index ds i → ⊥
shallow [] i level below = absurd (omega (arith, below))
shallow (d ∷ ds) zero level below = let first : d ≤ most_depth = level 0 0 (omega arith) in omega (arith, first, below)
shallow (d ∷ ds) (suc i) level below = shallow ds i (λ k e low. level (suc k) e (omega (arith, low))) below

module _ (kinds : List Symbol) (tree : ProgramShape) (lawful : IsLawful tree) (written : kinds ≡ tokens_of tree) where
  begun : (i : ℕ) → Continues tree (up_to i kinds)
  begun i = record { lawful = lawful; rest = drop (i + 1) kinds; written = take-append-drop (i + 1) kinds ∙ written }

  not_stopped : (i : ℕ) → StopsAt kinds i ⊎ StopsAtEnd kinds i → ⊥
  not_stopped i (inl h) = h.none (record { tree = tree; continued = begun i })
  not_stopped i (inr h) = h.none (record { tree = tree; lawful = lawful; written = written })

  not_deep : All (λ d. d ≤ most_depth) (depths_of tree) → (i : ℕ) → IsTooDeep kinds i → ⊥
  not_deep level i h = shallow (depths_of tree) i level (h.deep tree (begun i))

  no_syntax_fault : All (λ d. d ≤ most_depth) (depths_of tree) → (code i : ℕ) → IsSyntaxFault kinds code i → ⊥
  no_syntax_fault level _ i (unexpected _ h first) = not_stopped i h.here
  no_syntax_fault level _ i (deep _ h first) = not_deep level i h.here

-- ## One outcome

module _ (m : Meaning) (request : Request) where
  tree_outcome : (tree : ProgramTree) (a b : Outcome) → IsOutcomeOfTree m tree request a → IsOutcomeOfTree m tree request b → a ≡ b
  tree_outcome tree a b (static_fault f broken x) (static_fault g broken' y) =
      let same : Some f ≡ Some g = sym broken ∙ broken' in let one : f ≡ g = cc in x ∙ ap refused one ∙ sym y
  tree_outcome tree a b (static_fault f broken x) (large whole many y) = absurd (let h : Some f ≡ None = sym broken ∙ whole in cc)
  tree_outcome tree a b (static_fault f broken x) (run whole few y) = absurd (let h : Some f ≡ None = sym broken ∙ whole in cc)
  tree_outcome tree a b (large whole many x) (static_fault g broken y) = absurd (let h : Some g ≡ None = sym broken ∙ whole in cc)
  tree_outcome tree a b (large whole many x) (large _ _ y) = x ∙ sym y
  tree_outcome tree a b (large whole many x) (run _ few y) = absurd (omega (arith, many, few))
  tree_outcome tree a b (run whole few x) (static_fault g broken y) = absurd (let h : Some g ≡ None = sym broken ∙ whole in cc)
  tree_outcome tree a b (run whole few x) (large _ many y) = absurd (omega (arith, many, few))
  tree_outcome tree a b (run whole few x) (run _ _ y) = x ∙ sym y

  refusal_is : (ts : List Token) (end : Place) (c d i j : ℕ) → c ≡ d → i ≡ j → refused (syntax_refusal ts end c i) ≡ refused (syntax_refusal ts end d j)
  refusal_is ts end c d i j codes places = ap₂ (λ (x y : ℕ). refused (syntax_refusal ts end x y)) codes places

  tokens_outcome : (ts : List Token) (end : Place) (a b : Outcome) → IsOutcomeOfTokens m ts end request a → IsOutcomeOfTokens m ts end request b → a ≡ b
  tokens_outcome ts end a b (syntax_fault c i f x) (syntax_fault d j g y) =
      x ∙ refusal_is ts end c d i j (code_is_one (symbols ts) c d i j f g) (place_is_one (symbols ts) c d i j f g) ∙ sym y
  tokens_outcome ts end a b (syntax_fault c i f x) (no_fault tree of level is) =
      absurd (no_syntax_fault (symbols ts) (forget_program tree) of.lawful of.written level c i f)
  tokens_outcome ts end a b (no_fault tree of level is) (syntax_fault c i f y) =
      absurd (no_syntax_fault (symbols ts) (forget_program tree) of.lawful of.written level c i f)
  tokens_outcome ts end a b (no_fault tree of level is) (no_fault other of' level' is') =
      tree_outcome tree a b is (subst (λ (t : ProgramTree). IsOutcomeOfTree m t request b) (one_tree_of ts other tree of' of) is')

  cutting_outcome : (cutting : Cutting) (a b : Outcome) → IsOutcomeOfCutting m cutting request a → IsOutcomeOfCutting m cutting request b → a ≡ b
  cutting_outcome (refusal r) a b x y = x ∙ sym y
  cutting_outcome (tokens ts end) a b x y = tokens_outcome ts end a b x y

  module _ (text : List ℕ) where
    unlisted_outcome : (a b : Outcome) → IsUnlisted m text request a → IsUnlisted m text request b → a ≡ b
    unlisted_outcome a b x y =
        cutting_outcome x.cutting a b x.is (subst (λ (c : Cutting). IsOutcomeOfCutting m c request b) (one_cut y.cut x.cut) y.is)

    pub text_outcome : (a b : Outcome) → IsOutcomeOfText m text request a → IsOutcomeOfText m text request b → a ≡ b
    text_outcome a b x y =
        x.listed ∙ ap (behind (listing_written request text)) (unlisted_outcome x.unlisted y.unlisted x.is y.is) ∙ sym y.listed

module _ (m : Meaning) (files : List File) where
  files_outcome : (lack : Option Lack) (asked : Asked) (a b : Outcome) → IsOutcomeOfFiles m lack files asked a → IsOutcomeOfFiles m lack files asked b → a ≡ b
  files_outcome (Some missing) asked a b x y = x ∙ sym y
  files_outcome (Some long) asked a b x y = x ∙ sym y
  files_outcome None asked a b x y = text_outcome m _ _ a b x y

  pub options_outcome : (asked : Asked) (a b : Outcome) → IsOutcomeOf m asked files a → IsOutcomeOf m asked files b → a ≡ b
  options_outcome asked a b x y = files_outcome (first_lack files (names_by asked)) asked a b x y

  asked_outcome : (asked : Option Asked) (a b : Outcome) → IsOutcomeBy m asked files a → IsOutcomeBy m asked files b → a ≡ b
  asked_outcome None a b x y = x ∙ sym y
  asked_outcome (Some asked) a b x y = options_outcome asked a b x y

  pub words_outcome : (words : List (List ℕ)) (a b : Outcome) → IsOutcome m words files a → IsOutcome m words files b → a ≡ b
  words_outcome words a b x y = asked_outcome (options_of words) a b x y
