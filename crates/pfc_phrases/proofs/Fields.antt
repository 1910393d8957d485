-- The last of some selectors, and those before it.
use Rattle.std.proofs.Common.{◌≡◌, List, [], ◌∷◌, ◌++◌, None, refl, ap, ◌∙◌}
use Rattle.pfc_tree.specs.declared.tree.Selector.{Selector}
use Rattle.pfc_tree.specs.trees.Exprs.{SelectorTree, SelectorTrees, index, field, no_selectors, more_selectors}
use Rattle.pfc_tree.specs.views.Exprs.{selector_view, selectors_view}
use Rattle.pfc_types.specs.rules.Calls.{last_field, before_last, only_field}
use Rattle.pfc_phrases.specs.Fields.{field_of}

last_one : (s : SelectorTree) → last_field (more_selectors s no_selectors) ≡ field_of s
last_one (index es p) = refl
last_one (field x p) = refl

pub last_field-push : (ss : List Selector) (s : Selector) → last_field (selectors_view (ss ++ s ∷ [])) ≡ field_of (selector_view s)
last_field-push [] s = last_one (selector_view s)
last_field-push (a ∷ []) s = last_one (selector_view s)
last_field-push (a ∷ b ∷ ss) s = last_field-push (b ∷ ss) s

pub before_last-push : (ss : List Selector) (s : Selector) → before_last (selectors_view (ss ++ s ∷ [])) ≡ selectors_view ss
before_last-push [] s = refl
before_last-push (a ∷ []) s = refl
before_last-push (a ∷ b ∷ ss) s = ap (more_selectors (selector_view a)) (before_last-push (b ∷ ss) s)

pub last_field-split : (ss before : List Selector) (s : Selector) → ss ≡ before ++ s ∷ [] → last_field (selectors_view ss) ≡ field_of (selector_view s)
last_field-split ss before s here = ap (λ all. last_field (selectors_view all)) here ∙ last_field-push before s

pub before_last-split : (ss before : List Selector) (s : Selector) → ss ≡ before ++ s ∷ [] → before_last (selectors_view ss) ≡ selectors_view before
before_last-split ss before s here = ap (λ all. before_last (selectors_view all)) here ∙ before_last-push before s

pub only_field-one : (s : SelectorTree) → only_field (more_selectors s no_selectors) ≡ field_of s
only_field-one (index es p) = refl
only_field-one (field x p) = refl

pub only_field-more : (s t : SelectorTree) (ss : SelectorTrees) → only_field (more_selectors s (more_selectors t ss)) ≡ None
only_field-more (index es p) t ss = refl
only_field-more (field x p) t ss = refl

pub ruleset fields = (last_field-split, before_last-split, only_field-one, only_field-more)
