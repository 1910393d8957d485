-- The code of a call of a process, of an entry, or of a variable, by what its name and selectors are.
use Rattle.std.proofs.Common.{◌≡◌, ℕ, Bool, Option, Some, None, sym, ap, ◌∙◌}
use Rattle.pfc_base.specs.declared.places.Place.{Place}
use Rattle.pfc_tree.specs.Symbols.{Text}
use Rattle.pfc_tree.specs.trees.Exprs.{SelectorTrees, ActualTrees, no_selectors}
use Rattle.pfc_types.specs.rules.Expressions.{selected}
use Rattle.pfc_types.specs.rules.Calls.{last_field, before_last}
use Rattle.pfc_types.specs.declared.types.TypeId.{TypeId}
use Rattle.pfc_types.specs.declared.scope.Meaning.{Meaning}
use Rattle.pfc_types.specs.declared.scope.Meaning.TheVariants.{Variable, Process}
use Rattle.pfc_types.specs.declared.view.Found.{Found}
use Rattle.pfc_semantics.specs.Statements.{name_in_process, process_of_type}
use Rattle.pfc_translation.specs.Sites.{Site, blocks_of}
use Rattle.pfc_translation.specs.Expressions.{address_code}
use Rattle.pfc_translation.specs.Calls.{called_code, called_process, called_variable, field_code, entry_code, process_code}

-- an entry of a single process
pub entry_of_single :
    (s : Site) (found : Found) (o : Option Found) (n : ℕ) (m : Option Meaning) (ss : SelectorTrees) (x : Text × Place) (args : ActualTrees)
    → found.meaning ≡ Process n → o ≡ Some found → last_field ss ≡ Some x → m ≡ name_in_process (blocks_of s) n x.0
    → entry_code s n m (address_code s o no_selectors) args ≡ called_code s found found.meaning ss args
entry_of_single s found o n m ss x args means is last entry =
    ap (λ (e : Option Meaning). entry_code s n e (address_code s o no_selectors) args) entry
    ∙ ap (λ (f : Option Found). entry_code s n (name_in_process (blocks_of s) n x.0) (address_code s f no_selectors) args) is
    ∙ sym
    (ap (λ (d : Meaning). called_code s found d ss args) means ∙ ap (λ (l : Option (Text × Place)). called_process s found n l args) last)

-- an entry of the process before the last name
pub entry_of_variable :
    (s : Site) (found : Found) (o : Option Found) (t : TypeId) (r : Bool) (n : ℕ) (m : Option Meaning) (ss before : SelectorTrees) (x : Text × Place)
    (args : ActualTrees)
    → found.meaning ≡ Variable t r → o ≡ Some found → last_field ss ≡ Some x → before_last ss ≡ before
    → Some n ≡ process_of_type s.env (selected s.env (Some t) before) → m ≡ name_in_process (blocks_of s) n x.0
    → entry_code s n m (address_code s o before) args ≡ called_code s found found.meaning ss args
entry_of_variable s found o t r n m ss before x args means is last others process entry =
    ap (λ (e : Option Meaning). entry_code s n e (address_code s o before) args) entry
    ∙ ap (λ (f : Option Found). entry_code s n (name_in_process (blocks_of s) n x.0) (address_code s f before) args) is
    ∙ sym
    (ap (λ (d : Meaning). called_code s found d ss args) means
    ∙ ap (λ (l : Option (Text × Place)). called_variable s found ss t l args) last
    ∙ ap (λ (p : Option ℕ). field_code s found ss (Some t) p x.0 args)
    (ap (λ (b : SelectorTrees). process_of_type s.env (selected s.env (Some t) b)) others ∙ sym process)
    ∙ ap (λ (b : SelectorTrees). entry_code s n (name_in_process (blocks_of s) n x.0) (address_code s (Some found) b) args) others)

-- a variable as a whole, behind which no name stands
pub whole_variable :
    (s : Site) (found : Found) (o : Option Found) (t : TypeId) (r : Bool) (ss : SelectorTrees) (args : ActualTrees)
    → found.meaning ≡ Variable t r → o ≡ Some found → last_field ss ≡ None
    → process_code s (process_of_type s.env (selected s.env (Some t) ss)) (address_code s o ss) args ≡ called_code s found found.meaning ss args
whole_variable s found o t r ss args means is last =
    ap (λ (f : Option Found). process_code s (process_of_type s.env (selected s.env (Some t) ss)) (address_code s f ss) args) is
    ∙ sym
    (ap (λ (d : Meaning). called_code s found d ss args) means
    ∙ ap (λ (l : Option (Text × Place)). called_variable s found ss t l args) last)

-- a variable as a whole, where what stands before the last name is no process
pub part_variable :
    (s : Site) (found : Found) (o : Option Found) (t : TypeId) (r : Bool) (ss before : SelectorTrees) (x : Text × Place) (args : ActualTrees)
    → found.meaning ≡ Variable t r → o ≡ Some found → last_field ss ≡ Some x → before_last ss ≡ before
    → None ≡ process_of_type s.env (selected s.env (Some t) before)
    → process_code s (process_of_type s.env (selected s.env (Some t) ss)) (address_code s o ss) args ≡ called_code s found found.meaning ss args
part_variable s found o t r ss before x args means is last others process =
    ap (λ (f : Option Found). process_code s (process_of_type s.env (selected s.env (Some t) ss)) (address_code s f ss) args) is
    ∙ sym
    (ap (λ (d : Meaning). called_code s found d ss args) means
    ∙ ap (λ (l : Option (Text × Place)). called_variable s found ss t l args) last
    ∙ ap (λ (p : Option ℕ). field_code s found ss (Some t) p x.0 args)
    (ap (λ (b : SelectorTrees). process_of_type s.env (selected s.env (Some t) b)) others ∙ sym process))
