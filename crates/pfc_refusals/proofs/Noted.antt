-- The rules that are noted in a state, each with its words: the steps of the declarations.
use Rattle.std.proofs.Common.{refl}
use Rattle.std.specs.Prelude.{ℕ, Bool, true, false, cond, List, [], ◌∷◌, All}
use Rattle.std.proofs.lemmas.List.Elements.{All-nil, All-cons, All-append, All-head, All-tail}
use Rattle.pfc_base.specs.declared.places.Place.{Place}
use Rattle.pfc_base.specs.declared.faults.Refusal.{Refusal}
use Rattle.pfc_tree.specs.Symbols.{Text}
use Rattle.pfc_types.specs.Faults.{Faults, unless, listed, all_of}
use Rattle.pfc_types.specs.Blocks.{State, note, declare, add_name}
use Rattle.pfc_types.specs.declared.scope.Meaning.{Meaning}
use Rattle.pfc_refusals.specs.Words.{HasWords}
use Rattle.pfc_refusals.proofs.Worded.{Worded, no_rule, a_rule, ◌&◌, broken_rule}

-- ## Lists of broken rules

-- one rule
one_listed : (f : Refusal) → HasWords f → All HasWords (f ∷ [])
one_listed f h = All-cons HasWords f [] h (All-nil HasWords)

pub listed_worded : {fs : Faults} → Worded fs → All HasWords (listed fs)
listed_worded no_rule = All-nil HasWords
listed_worded (a_rule {f} h) = one_listed f h
listed_worded (◌&◌ {fs} {gs} h k) = All-append HasWords (listed fs) (listed gs) (listed_worded h) (listed_worded k)

pub all_worded : (fs : List Refusal) → All HasWords fs → Worded (all_of fs)
all_worded [] h = no_rule
all_worded (f ∷ fs) h = a_rule (All-head HasWords f fs h) & all_worded fs (All-tail HasWords f fs h)

-- ## States

-- each rule that is noted has its words
pub record Noted (s : State) : Type 0 where
  pub all : All HasWords s.blocks.noted

pub noted : {s : State} {fs : Faults} → Worded fs → Noted s → Noted (note s fs)
noted no_rule h = h
noted {s} (a_rule {f} k) h = record { all = All-append HasWords s.blocks.noted (f ∷ []) h.all (one_listed f k) }
noted (k & l) h = noted l (noted k h)

-- one state or the other, which stands in a record of some type
pub one_of : {A : Type 0} (state : A → State) (b : Bool) (x y : A) → Noted (state x) → Noted (state y) → Noted (state (cond b x y))
one_of state true x y h k = h
one_of state false x y h k = k

pub declared : {s : State} (i : ℕ) (x : Text × Place) (m : Meaning) → Noted s → Noted (declare s i x m)
declared {s} i x m h = one_of (λ t. t) _ (note s (unless false x.1 302)) (add_name s i x.0 m) (noted (broken_rule _ _ refl) h) (record { all = h.all })
