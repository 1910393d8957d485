-- Broken rules of which each has its words: how they are put together.
use Rattle.std.specs.Prelude.{ℕ, Bool, true, false, cond, IsTrue}
use Rattle.pfc_base.specs.declared.places.Place.{Place}
use Rattle.pfc_base.specs.declared.faults.Refusal.{Refusal}
use Rattle.pfc_types.specs.Faults.{Faults, none, one, ◌⨾◌, unless}
use Rattle.pfc_refusals.specs.Words.{has_words}

infixr 60 ◌&◌
-- each of these broken rules has its words
pub data Worded : Faults → Type 0 where
  no_rule : Worded none
  a_rule : {f : Refusal} → IsTrue (has_words f.code) → Worded (one f)
  ◌&◌ : {fs gs : Faults} → Worded fs → Worded gs → Worded (fs ⨾ gs)

-- a rule of this code, broken unless something holds
pub rule : (b : Bool) (p : Place) (code : ℕ) → IsTrue (has_words code) → Worded (unless b p code)
rule true p code h = no_rule
rule false p code h = a_rule h

-- a rule of this code that is broken
pub broken_rule : (p : Place) (code : ℕ) → IsTrue (has_words code) → Worded (unless false p code)
broken_rule p code h = a_rule h

-- these rules or those
pub either : (b : Bool) {fs gs : Faults} → Worded fs → Worded gs → Worded (cond b fs gs)
either true h k = h
either false h k = k
