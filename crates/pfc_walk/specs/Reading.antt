-- What the way from a text to its checked tree comes to.
use Rattle.std.specs.Prelude.{◌≡◌, ◌≤◌, ℕ, List, None, Err}
use Rattle.pfc_base.specs.declared.places.Place.{Place}
use Rattle.pfc_base.specs.declared.tokens.Token.{Token}
use Rattle.pfc_scan.specs.Cutting.{IsCut, tokens}
use Rattle.pfc_sched.specs.declared.script_text.ScriptFault.{ScriptFault}
use Rattle.pfc_sched.specs.declared.script_text.ScriptFault.TheVariants.{NotANumber, Memory as NoMemory}
use Rattle.pfc_tree.specs.trees.Parts.{ProgramTree}
use Rattle.pfc_grammar.specs.Outcomes.{IsTreeOf}
use Rattle.pfc_types.specs.rules.Whole.{first_fault}
use Rattle.pfc_outcome.specs.Outcomes.{Outcome, IsLevel, IsOutcomeOfTokens, IsOutcomeOfTree, IsUnlisted, behind, instruction_count, most_instructions, refused}
use Rattle.pfc_outcome.specs.Outcomes.{run_under}
use Rattle.pfc_outcome.specs.Requests.{Request, policy_of}
use Rattle.pfc_walk.specs.Meanings.{whole_meaning}
use Rattle.pfc_walk.specs.declared.reading.Unread.{Unread}
use Rattle.pfc_walk.specs.declared.reading.Unread.TheVariants.{Refused, Memory}

-- ## A checked tree

-- a program that is run: no rule is broken in it, and it is not too large
pub record IsSound (tree : ProgramTree) : Type 0 where
  pub whole : first_fault tree ≡ None
  pub few : instruction_count whole_meaning tree ≤ most_instructions

-- the tree that tokens write
pub record AreRead (ts : List Token) (tree : ProgramTree) : Type 0 where
  pub written : IsTreeOf ts tree
  pub level : IsLevel tree
  pub sound : IsSound tree

-- the tree of a text
pub record IsRead (text : List ℕ) (tree : ProgramTree) : Type 0 where
  pub ts : List Token
  pub end : Place
  pub cut : IsCut text (tokens ts end)
  pub read : AreRead ts tree

-- the outcome of a text with this tree and this listing: its run, or a script that is no list of numbers
abbrev pub program_outcome : List ℕ → ProgramTree → Request → Outcome
program_outcome listing tree request = behind listing (run_under whole_meaning tree request (policy_of request))

-- ## None

-- there is no checked tree, unless memory is wanting: it is refused by one line, whatever else is asked for
abbrev pub RefusedFor : (Request → Outcome → Type 0) → Unread → Type 0
RefusedFor is (Refused r) = (request : Request) → is request (refused r)
RefusedFor is Memory = Unit {0}

abbrev pub IsUnread : List ℕ → Unread → Type 0
IsUnread text why = RefusedFor (IsUnlisted whole_meaning text) why

abbrev pub AreUnread : List Token → Place → Unread → Type 0
AreUnread ts end why = RefusedFor (IsOutcomeOfTokens whole_meaning ts end) why

abbrev pub IsWithout : ProgramTree → Unread → Type 0
IsWithout tree why = RefusedFor (IsOutcomeOfTree whole_meaning tree) why

-- the request has no policy: its script has this item, counted from 1, that is no number, unless memory is wanting
abbrev pub IsNoPolicy : Request → ScriptFault → Type 0
IsNoPolicy request (NotANumber item) = policy_of request ≡ Err item
IsNoPolicy request NoMemory = Unit {0}
