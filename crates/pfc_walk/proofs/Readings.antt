-- Checked trees, and refusals, up to their text.
use Rattle.std.proofs.Common.{◌≡◌, ◌<◌, ◌≤◌, ℕ, length, false, List, [], Some, None, Result, Ok, Err, IfOk, IfErr, refl, subst, sym, ap, ◌∙◌}
use Rattle.std.specs.Prelude.{if◌then◌else◌}
use Rattle.pfc_base.specs.declared.places.Place.{Place}
use Rattle.pfc_base.specs.declared.faults.Refusal.{Refusal}
use Rattle.pfc_base.specs.declared.tokens.Token.{Token}
use Rattle.pfc_code.specs.Printing.{code_text}
use Rattle.pfc_scan.specs.Cutting.{IsCut, tokens}
use Rattle.pfc_tree.specs.Symbols.{symbols}
use Rattle.pfc_tree.specs.Grammar.{IsSyntaxFault}
use Rattle.pfc_tree.specs.declared.tree.Tree.{Tree}
use Rattle.pfc_tree.specs.trees.Parts.{ProgramTree}
use Rattle.pfc_tree.specs.views.Parts.{tree_view}
use Rattle.pfc_grammar.specs.Outcomes.{IsTreeOf}
use Rattle.pfc_types.specs.Types.{Forms}
use Rattle.pfc_types.specs.Blocks.{Blocks}
use Rattle.pfc_types.specs.rules.Whole.{first_fault}
use Rattle.pfc_translation.specs.Images.{image_of}
use Rattle.pfc_outcome.specs.Meanings.{Meaning}
use Rattle.pfc_outcome.specs.Outcomes.{Outcome, IsLevel, IsOutcomeOfText, IsOutcomeOfTokens, IsOutcomeOfTree, IsUnlisted, behind, code_written, listing_written}
use Rattle.pfc_outcome.specs.Outcomes.{large, most_instructions, no_fault, refused, run, run_under, static_fault, syntax_fault, syntax_refusal, too_large}
use Rattle.pfc_outcome.specs.Requests.{Request, policy_of}
use Rattle.pfc_walk.specs.Meanings.{whole_meaning}
use Rattle.pfc_walk.specs.Reading.{IsSound, AreRead, IsRead, RefusedFor, IsUnread, AreUnread, IsWithout, program_outcome}
use Rattle.pfc_walk.proofs.Meant.{counts}
use Rattle.pfc_walk.specs.declared.reading.Unread.{Unread}
use Rattle.pfc_walk.specs.declared.reading.Unread.TheVariants.{Refused, Memory}

-- ## Trees

-- a checked tree, with its types and its scopes
abbrev Checked : Type 0
Checked = Tree × Forms × Blocks

pub tokens_read :
    (ts : List Token) (tree : Tree) (r : Result Checked Unread) → IsTreeOf ts (tree_view tree) → IsLevel (tree_view tree) → IfOk r (λ c. c.0 ≡ tree)
    → IfOk r (λ c. IsSound (tree_view tree)) → IfOk r (λ c. AreRead ts (tree_view c.0))
tokens_read ts tree (Ok c) written level same sound =
    subst (λ (t : Tree). AreRead ts (tree_view t)) (sym same) (record { written = written; level = level; sound = sound })
tokens_read ts tree (Err why) written level same sound = tt

pub text_read : (text : List ℕ) (ts us : List Token) (end : Place) (tree : ProgramTree) → IsCut text (tokens ts end) →
    us ≡ ts → AreRead us tree → IsRead text tree
text_read text ts us end tree cut same are = record { ts = ts; end = end; cut = cut; read = subst (λ (x : List Token). AreRead x tree) same are }

-- ## Refusals

-- what these are outcomes of those also are
lifted :
    (P Q : Request → Outcome → Type 0) → ((request : Request) (outcome : Outcome) → P request outcome → Q request outcome) → (why : Unread) → RefusedFor P why
    → RefusedFor Q why
lifted P Q up (Refused r) h = λ request. up request (refused r) (h request)
lifted P Q up Memory h = tt

pub tokens_refusal :
    (ts : List Token) (end : Place) (tree : ProgramTree) (r : Result Checked Unread) → IsTreeOf ts tree → IsLevel tree → IfErr r (λ why. IsWithout tree why)
    → IfErr r (λ why. AreUnread ts end why)
tokens_refusal ts end tree (Ok c) written level h = tt
tokens_refusal ts end tree (Err why) written level h =
    lifted (IsOutcomeOfTree whole_meaning tree) (IsOutcomeOfTokens whole_meaning ts end) (λ request outcome is. no_fault tree written level is) why h

pub text_refusal :
    (text : List ℕ) (ts us : List Token) (end : Place) (why : Unread) → IsCut text (tokens ts end) → us ≡ ts → AreUnread us end why → IsUnread text why
text_refusal text ts us end why cut same h =
    lifted (IsOutcomeOfTokens whole_meaning us end) (IsUnlisted whole_meaning text)
    (λ request outcome is.
    record { cutting = tokens ts end; cut = cut; is = subst (λ (x : List Token). IsOutcomeOfTokens whole_meaning x end request outcome) same is }) why h

-- a program that is not too large, and one that is
pub fitting_program : (tree : ProgramTree) (n : ℕ) → first_fault tree ≡ None → n ≡ length (image_of tree).code → n ≤ 200000 → IsSound tree
fitting_program tree n whole counted few =
    record { whole = whole; few = subst (λ (k : ℕ). k ≤ most_instructions) (counted ∙ sym (counts tree)) few }

pub large_refusal : (tree : ProgramTree) → first_fault tree ≡ None → 200000 < length (image_of tree).code → IsWithout tree (Refused too_large)
large_refusal tree whole more = λ request.
    large whole (subst (λ (k : ℕ). most_instructions < k) (sym (counts tree)) more) refl

-- the first broken rule refuses a tree
pub static_refusal : (tree : ProgramTree) (r : Refusal) → first_fault tree ≡ Some r → IsWithout tree (Refused r)
static_refusal tree r broken = λ request. static_fault r broken refl

-- a syntax fault refuses tokens
pub syntax_refused :
    (ts : List Token) (end : Place) (code i : ℕ) (why : Unread) → why ≡ Refused (syntax_refusal ts end code i) →
    IsSyntaxFault (symbols ts) code i → AreUnread ts end why
syntax_refused ts end code i why same fault =
    subst (λ (w : Unread). AreUnread ts end w) (sym same) (λ request. syntax_fault code i fault refl)

pub refused_for : (is : Request → Outcome → Type 0) (why : Unread) (r : Refusal) → why ≡ Refused r → RefusedFor is why →
    (request : Request) → is request (refused r)
refused_for is why r same h = subst (λ (w : Unread). RefusedFor is w) same h

-- ## The outcome of a text

-- behind the listing
pub listed_outcome :
    (text : List ℕ) (request : Request) (outcome : Outcome) → IsUnlisted whole_meaning text request outcome
    → IsOutcomeOfText whole_meaning text request (behind (listing_written request text) outcome)
listed_outcome text request outcome is = record { unlisted = outcome; is = is; listed = refl }

-- no code text stands before it
without_code : (m : Meaning) (tree : ProgramTree) (request : Request) (outcome : Outcome) → request.code ≡ false →
    behind (code_written m tree request) outcome ≡ outcome
without_code m tree request outcome none = ap (λ b. behind (if b then code_text (m.image tree) else []) outcome) none

-- a program that is run
pub program_outcome_is :
    (text : List ℕ) (tree : ProgramTree) (is : IsRead text tree) (request : Request) → request.code ≡ false
    → IsOutcomeOfText whole_meaning text request (program_outcome (listing_written request text) tree request)
program_outcome_is text tree is request none =
    let ran : Outcome = run_under whole_meaning tree request (policy_of request) in
    record {
      unlisted = behind (code_written whole_meaning tree request) ran;
      is =
          record {
            cutting = tokens is.ts is.end;
            cut = is.cut;
            is = no_fault tree is.read.written is.read.level (run is.read.sound.whole is.read.sound.few refl);
          };
      listed = ap (behind (listing_written request text)) (sym (without_code whole_meaning tree request ran none));
    }
