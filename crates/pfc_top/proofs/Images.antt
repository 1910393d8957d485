-- Images, and refusals, from a tree up to its text.
use Rattle.std.proofs.Common.{◌≡◌, ℕ, ◌<◌, ◌≤◌, length, List, Some, None, Result, Ok, Err, IfOk, IfErr, refl, subst, sym}
use Rattle.pfc_base.specs.declared.places.Place.{Place}
use Rattle.pfc_base.specs.declared.faults.Refusal.{Refusal}
use Rattle.pfc_base.specs.declared.tokens.Token.{Token}
use Rattle.pfc_code.specs.Images.{PlainImage, plain_image}
use Rattle.pfc_code.specs.declared.images.Image.{Image}
use Rattle.pfc_scan.specs.Cutting.{IsCut, tokens}
use Rattle.pfc_tree.specs.Symbols.{symbols}
use Rattle.pfc_tree.specs.Grammar.{IsSmall, IsSyntaxFault}
use Rattle.pfc_tree.specs.trees.Parts.{ProgramTree}
use Rattle.pfc_tree.specs.forget.Parts.{forget_program}
use Rattle.pfc_grammar.specs.Outcomes.{IsTreeOf}
use Rattle.pfc_types.specs.rules.Whole.{first_fault}
use Rattle.pfc_number_laws.specs.Written.{FitsTree}
use Rattle.pfc_translation.specs.Images.{image_of}
use Rattle.pfc_outcome.specs.Outcomes.{Outcome, IsLevel, IsOutcomeOfTokens, IsOutcomeOfTree, IsUnlisted, large, no_fault, refused, static_fault}
use Rattle.pfc_outcome.specs.Outcomes.{syntax_fault, syntax_refusal, too_large}
use Rattle.pfc_outcome.specs.Requests.{Request}
use Rattle.pfc_top.specs.Compiling.{IsImage, AreCompiled, IsCompiled, RefusedFor, IsUncompiled, AreUncompiled, IsWithout}
use Rattle.pfc_top.specs.Meanings.{source_meaning}
use Rattle.pfc_top.specs.declared.compiling.Uncompiled.{Uncompiled}
use Rattle.pfc_top.specs.declared.compiling.Uncompiled.TheVariants.{Refused, Memory}

-- ## Images

pub is_image : (tree : ProgramTree) (image : PlainImage) → IsSmall (forget_program tree) → first_fault tree ≡ None → FitsTree tree
    → image ≡ image_of tree → length image.code ≤ 200000 → IsImage tree image
is_image tree image small whole fits same few = record {
  runnable = record { small = small; whole = whole; fits = fits; few = subst (λ (i : PlainImage). length i.code ≤ 200000) same few };
  same = same;
}

pub tokens_image : (ts : List Token) (tree : ProgramTree) (r : Result Image Uncompiled) → IsTreeOf ts tree → IsLevel tree →
    IfOk r (λ image. IsImage tree (plain_image image))
    → IfOk r (λ image. AreCompiled ts (plain_image image))
tokens_image ts tree (Ok image) written level is = record { tree = tree; written = written; level = level; is = is }
tokens_image ts tree (Err why) written level is = tt

pub text_image : (text : List ℕ) (ts us : List Token) (end : Place) (r : Result Image Uncompiled) → IsCut text (tokens ts end) → us ≡ ts →
    IfOk r (λ image. AreCompiled us (plain_image image))
    → IfOk r (λ image. IsCompiled text (plain_image image))
text_image text ts us end (Ok image) cut same is =
    record { ts = ts; end = end; cut = cut; compiled = subst (λ (x : List Token). AreCompiled x (plain_image image)) same is }
text_image text ts us end (Err why) cut same is = tt

-- ## Refusals

-- what these are outcomes of those also are
lifted : (P Q : Request → Outcome → Type 0) → ((request : Request) (outcome : Outcome) → P request outcome → Q request outcome) →
    (why : Uncompiled) → RefusedFor P why → RefusedFor Q why
lifted P Q up (Refused r) h = λ request. up request (refused r) (h request)
lifted P Q up Memory h = tt

pub tokens_refusal : (ts : List Token) (end : Place) (tree : ProgramTree) (r : Result Image Uncompiled) → IsTreeOf ts tree →
    IsLevel tree → IfErr r (λ why. IsWithout tree why)
    → IfErr r (λ why. AreUncompiled ts end why)
tokens_refusal ts end tree (Ok image) written level h = tt
tokens_refusal ts end tree (Err why) written level h =
    lifted (IsOutcomeOfTree source_meaning tree) (IsOutcomeOfTokens source_meaning ts end) (λ request outcome is. no_fault tree written level is) why h

pub text_refusal : (text : List ℕ) (ts us : List Token) (end : Place) (r : Result Image Uncompiled) → IsCut text (tokens ts end) → us ≡ ts →
    IfErr r (λ why. AreUncompiled us end why)
    → IfErr r (λ why. IsUncompiled text why)
text_refusal text ts us end (Ok image) cut same h = tt
text_refusal text ts us end (Err why) cut same h =
    lifted (IsOutcomeOfTokens source_meaning us end) (IsUnlisted source_meaning text)
    (λ request outcome is. record {
      cutting = tokens ts end;
      cut = cut;
      is =
          subst (λ (x : List Token). IsOutcomeOfTokens source_meaning x end request outcome) same is;
    }) why h

-- the first broken rule refuses a tree
pub static_refusal : (tree : ProgramTree) (r : Refusal) → first_fault tree ≡ Some r → IsWithout tree (Refused r)
static_refusal tree r broken = λ request. static_fault r broken refl

-- so does its size, where no rule is broken
pub large_refusal : (tree : ProgramTree) → first_fault tree ≡ None → 200000 < length (image_of tree).code → IsWithout tree (Refused too_large)
large_refusal tree whole many = λ request. large whole many refl

-- a syntax fault refuses tokens
pub syntax_refused : (ts : List Token) (end : Place) (code i : ℕ) (why : Uncompiled) → why ≡ Refused (syntax_refusal ts end code i) →
    IsSyntaxFault (symbols ts) code i → AreUncompiled ts end why
syntax_refused ts end code i why same fault =
    subst (λ (w : Uncompiled). AreUncompiled ts end w) (sym same) (λ request. syntax_fault code i fault refl)

-- ## What a refusal says

pub refused_for : (is : Request → Outcome → Type 0) (why : Uncompiled) (r : Refusal) → why ≡ Refused r → RefusedFor is why →
    (request : Request) → is request (refused r)
refused_for is why r same h = subst (λ (w : Uncompiled). RefusedFor is w) same h
