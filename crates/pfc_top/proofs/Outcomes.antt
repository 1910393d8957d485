-- What replies say of the outcomes of a text.
use Rattle.std.proofs.Common.{◌≡◌, ◌≢◌, ◌⊎◌, inl, inr, ℕ, List, [], ◌++◌, Option, Some, None, Result, Ok, Err, IfOk, IfErr, refl, sym, ap, ap₂, ◌∙◌, subst}
use Rattle.std.proofs.Common.{arith, append_assoc}
use Rattle.std.specs.Io.KnownBytes.{Appends}
use Rattle.std.proofs.KnownBytes.{Appends-nil, Appends-trans}
use Rattle.std.specs.Prelude.{IsErrOf}
use Rattle.std.specs.Result.{IsErrAnd}
use Rattle.pfc_io.specs.Writes.{AppendsFront}
use Rattle.pfc_io.proofs.Written.{AppendsFront-after, AppendsFront-append, AppendsFront-none}
use Rattle.pfc_code.specs.Images.{PlainImage}
use Rattle.pfc_code.specs.Printing.{code_text}
use Rattle.pfc_translation.specs.Images.{image_of}
use Rattle.pfc_report.specs.Listings.{listing_text}
use Rattle.pfc_sched.specs.declared.picking.Policy.{Policy}
use Rattle.std.specs.Prelude.{if◌then◌else◌}
use Rattle.pfc_scan.specs.Cutting.{tokens}
use Rattle.pfc_tree.specs.trees.Parts.{ProgramTree}
use Rattle.pfc_outcome.specs.Outcomes.{Outcome, IsOutcomeOf, IsOutcomeOfFiles, IsOutcomeOfText, IsUnlisted, behind, code_written, listing_written, names_by}
use Rattle.pfc_outcome.specs.Outcomes.{no_fault, request_by, run, run_under, text_by, without_run}
use Rattle.pfc_outcome.specs.Loaded.{AreLoaded}
use Rattle.pfc_outcome.specs.Loading.{Lack, Lacks, first_lack, long}
use Rattle.pfc_outcome.specs.Options.{Asked}
use Rattle.pfc_outcome.specs.Requests.{Request, policy_of, request_of}
use Rattle.pfc_outcome.specs.declared.loading.Loaded.{Loaded}
use Rattle.pfc_sessions.specs.declared.session.Session.{Session}
use Rattle.pfc_io.specs.Files.{File}
use Rattle.pfc_top.specs.Answers.{Gives, GivesFront, GivesFrontOfAll, GivesOne, IsAnswerToText, IsSound, IsWritten, Replies, ended}
use Rattle.pfc_top.specs.Compiling.{IsCompiled}
use Rattle.pfc_top.specs.Meanings.{source_meaning}
use Rattle.pfc_top.specs.Running.{program_outcome}
use Rattle.pfc_top.specs.declared.replies.Answer.{Answer}
use Rattle.pfc_top.specs.declared.replies.Stop.{Stop}
use Rattle.pfc_top.specs.declared.replies.Stop.TheVariants.{WriteFailed, Memory}

-- ## Two pieces, one behind the other

module _ (said first rest told : List ℕ) (same : said ≡ first) (same_rest : told ≡ rest) where
  -- the first was not written whole
  pub first_cut : (old new : Option (List ℕ)) → AppendsFront old new said → AppendsFront old new (first ++ rest)
  first_cut old new front = subst (λ (bytes : List ℕ). AppendsFront old new (bytes ++ rest)) same (AppendsFront-append old new said rest front)

  -- the second was not
  pub second_cut : (old mid new : Option (List ℕ)) → Appends old mid said → AppendsFront mid new told → AppendsFront old new (first ++ rest)
  second_cut old mid new whole front =
      subst (λ (bytes : List ℕ). AppendsFront old new (bytes ++ rest)) same
      (AppendsFront-after old mid new said rest whole (subst (λ (bytes : List ℕ). AppendsFront mid new bytes) same_rest front))

  pub both_said : (old mid new : Option (List ℕ)) → Appends old mid said → Appends mid new told → Appends old new (first ++ rest)
  both_said old mid new whole behind_it =
      subst (λ (bytes : List ℕ). Appends old new (bytes ++ rest)) same
      (Appends-trans old mid new said rest whole (subst (λ (bytes : List ℕ). Appends mid new bytes) same_rest behind_it))

-- ## Stops

module _ (reply : Result Answer Stop) (e : Stop) (is_err : IsErrAnd reply (λ y. y ≡ e)) where
  pub stopped_written : (outcome : Outcome) (old new : Option (List ℕ)) → AppendsFront old new outcome.bytes → IsWritten outcome reply old new
  stopped_written outcome old new front = at reply is_err
    where
      at : (r : Result Answer Stop) → IsErrAnd r (λ y. y ≡ e) → IsWritten outcome r old new
      at (Ok answer) h = absurd h
      at (Err stop) h = front

  pub stopped_sound : IfOk reply (λ answer. IsAnswerToText answer.status answer.session)
  stopped_sound = at reply is_err
    where
      at : (r : Result Answer Stop) → IsErrAnd r (λ y. y ≡ e) → IfOk r (λ answer. IsAnswerToText answer.status answer.session)
      at (Ok answer) h = absurd h
      at (Err stop) h = tt

  pub same_stop : (s : Stop) → IsErrOf reply s → IsErrOf {T = Unit {0}} {E = Stop} (Err e) s
  same_stop s of = ap (λ (x : Stop). let r : Result (Unit {0}) Stop = Err x in r) (at reply is_err of)
    where
      at : (r : Result Answer Stop) → IsErrAnd r (λ y. y ≡ e) → IsErrOf r s → e ≡ s
      at (Ok answer) h k = absurd h
      at (Err stop) h k = cc

pub no_stop : (answer : Answer) (s : Stop) → IsErrOf {T = Answer} {E = Stop} (Ok answer) s → ⊥
no_stop answer s h = let reply : Result Answer Stop = Ok answer in let no : reply ≡ Err s = h in cc

-- want of memory before anything is written
pub memory_replies : (is : Outcome → Type 0) (reply : Result Answer Stop) (w : Option (List ℕ)) → IsErrAnd reply (λ y. y ≡ Memory) → Replies is reply w w
memory_replies is (Ok answer) w h = absurd h
memory_replies is (Err WriteFailed) w h = absurd (let no : WriteFailed ≡ Memory = h in cc)
memory_replies is (Err Memory) w h = λ outcome there. AppendsFront-none w outcome.bytes

pub err_weaker : (r : Result (Unit {0}) Stop) (P Q : Type 0) → (P → Q) → IfErr r (λ s. P) → IfErr r (λ s. Q)
err_weaker (Ok x) P Q f h = tt
err_weaker (Err s) P Q f h = f h

pub err_always : (r : Result (Unit {0}) Stop) (P : Type 0) → P → IfErr r (λ s. P)
err_always (Ok x) P h = tt
err_always (Err s) P h = h

-- an answer where nothing ran
pub gives_unrun : (answer : Answer) (status : ℕ) (heading bytes : List ℕ) (old new : Option (List ℕ)) → answer ≡ record {
  status = status;
  session =
      None;
} → Appends old new (heading ++ bytes)
    → Gives (behind heading (without_run status bytes)) answer old new
gives_unrun answer status heading bytes old new same written =
    subst (λ (a : Answer). Gives (behind heading (without_run status bytes)) a old new) (sym same) (record { status = refl; session = tt; written = written })

-- nothing is written
pub gives_nothing : (answer : Answer) (status : ℕ) (w : Option (List ℕ)) → answer ≡ record { status = status; session = None } →
    Gives (without_run status []) answer w w
gives_nothing answer status w same =
    subst (λ (a : Answer). Gives (without_run status []) a w w) (sym same) (record { status = refl; session = tt; written = Appends-nil w })

-- ## Written outcomes

-- bytes were appended first
pub written_behind : (heading : List ℕ) (outcome : Outcome) (reply : Result Answer Stop) (old mid new : Option (List ℕ)) →
    Appends old mid heading → IsWritten outcome reply mid new
    → IsWritten (behind heading outcome) reply old new
written_behind heading outcome (Ok answer) old mid new first h = record {
  status = h.status;
  session = h.session;
  written = Appends-trans old mid new heading outcome.bytes first h.written;
}
written_behind heading outcome (Err stop) old mid new first h = AppendsFront-after old mid new heading outcome.bytes first h

-- the same outcome
pub written_as : (a b : Outcome) (reply : Result Answer Stop) (old new : Option (List ℕ)) → a ≡ b → IsWritten a reply old new → IsWritten b reply old new
written_as a b reply old new same h = subst (λ (o : Outcome). IsWritten o reply old new) same h

-- what was written is the one outcome of its kind
pub replied : (is : Outcome → Type 0) (outcome : Outcome) → is outcome → ((a b : Outcome) → is a → is b → a ≡ b) →
    (reply : Result Answer Stop) (old new : Option (List ℕ))
    → IsWritten outcome reply old new → Replies is reply old new
replied is outcome here one (Ok answer) old new h = (outcome, here, h)
replied is outcome here one (Err WriteFailed) old new h = (outcome, here, h)
replied is outcome here one (Err Memory) old new h = λ other there. subst (λ (o : Outcome). AppendsFront old new o.bytes) (one outcome other here there) h

-- ## The outcome of a text

-- behind the listing
pub listed_outcome : (text : List ℕ) (request : Request) (outcome : Outcome) → IsUnlisted source_meaning text request outcome
    → IsOutcomeOfText source_meaning text request (behind (listing_written request text) outcome)
listed_outcome text request outcome is = record { unlisted = outcome; is = is; listed = refl }

-- a program that is run
pub program_outcome_is : (text : List ℕ) (image : PlainImage) (is : IsCompiled text image) (request : Request)
    → IsOutcomeOfText source_meaning text request (program_outcome text is.compiled.tree request)
program_outcome_is text image is request =
    listed_outcome text request (behind (code_written source_meaning is.compiled.tree request)
    (run_under source_meaning is.compiled.tree request (policy_of request)))
    (record {
      cutting = tokens is.ts is.end;
      cut = is.cut;
      is =
          no_fault is.compiled.tree is.compiled.written is.compiled.level
          (run is.compiled.is.runnable.whole is.compiled.is.runnable.few refl);
    })

-- the run under a policy, or a script that is no list of numbers, behind what is listed
pub program_as : (text : List ℕ) (tree : ProgramTree) (image : PlainImage) (request : Request) (p : Result Policy ℕ) →
    image ≡ image_of tree → policy_of request ≡ p
    → behind ((if request.list then listing_text text else []) ++ (if request.code then code_text image else []))
    (run_under source_meaning tree request p) ≡ program_outcome text tree request
program_as text tree image request p same picks =
    let ran : Outcome = run_under source_meaning tree request p in
    let with_bytes : List ℕ → Outcome = λ bytes. record { status = ran.status; bytes = bytes; ran = ran.ran } in
    ap with_bytes
    (append_assoc (listing_written request text) (if request.code then code_text image else []) ran.bytes
    ∙ ap (λ (i : PlainImage). listing_written request text ++ ((if request.code then code_text i else []) ++ ran.bytes)) same)
    ∙ ap (λ (q : Result Policy ℕ). behind (listing_written request text) (behind (code_written source_meaning tree request)
    (run_under source_meaning tree request q))) (sym picks)

-- ## What was loaded

-- the outcomes of the options are those of the loaded text
module _ (files : List File) (asked : Asked) (loaded : Loaded) (are : AreLoaded files asked loaded) where
  abbrev loaded_request : Request
  loaded_request = request_of asked loaded.input loaded.script

  request_is : request_by files asked ≡ loaded_request
  request_is = ap₂ (λ (x y : List ℕ). request_of asked x y) are.input are.script

  pub files_up : (outcome : Outcome) → IsOutcomeOfText source_meaning loaded.text loaded_request outcome → IsOutcomeOf source_meaning asked files outcome
  files_up outcome is =
      subst (λ (l : Option Lack). IsOutcomeOfFiles source_meaning l files asked outcome) (sym are.whole)
      (subst (λ (x : List ℕ). IsOutcomeOfText source_meaning x (request_by files asked) outcome) (sym are.text)
      (subst (λ (r : Request). IsOutcomeOfText source_meaning loaded.text r outcome) (sym request_is) is))

  pub files_down : (outcome : Outcome) → IsOutcomeOf source_meaning asked files outcome → IsOutcomeOfText source_meaning loaded.text loaded_request outcome
  files_down outcome is =
      let whole : IsOutcomeOfText source_meaning (text_by files asked.source) (request_by files asked) outcome =
      subst (λ (l : Option Lack). IsOutcomeOfFiles source_meaning l files asked outcome) are.whole is in
      subst (λ (r : Request). IsOutcomeOfText source_meaning loaded.text r outcome) request_is
      (subst (λ (x : List ℕ). IsOutcomeOfText source_meaning x (request_by files asked) outcome) are.text whole)

  pub files_replies : (reply : Result Answer Stop) (old new : Option (List ℕ)) →
      Replies (IsOutcomeOfText source_meaning loaded.text loaded_request) reply old new
      → Replies (IsOutcomeOf source_meaning asked files) reply old new
  files_replies (Ok answer) old new h = (h.0, files_up h.0 h.1, h.2)
  files_replies (Err WriteFailed) old new h = (h.0, files_up h.0 h.1, h.2)
  files_replies (Err Memory) old new h = λ outcome is. h outcome (files_down outcome is)

-- a file that is too long
pub long_outcome : (told : Option (List File)) (files : List File) (asked : Asked) → told ≡ Some files → Lacks told (names_by asked) long →
    IsOutcomeOf source_meaning asked files (without_run 9 [])
long_outcome told files asked tells lacks =
    let h : first_lack files (names_by asked) ≡ Some long = subst (λ (t : Option (List File)). Lacks t (names_by asked) long) tells lacks in
    subst (λ (l : Option Lack). IsOutcomeOfFiles source_meaning l files asked (without_run 9 [])) (sym h) refl

-- ## Answers

-- the statuses of an answer to a text are among those of every answer
pub sound_reply : (reply : Result Answer Stop) → IfOk reply (λ answer. IsAnswerToText answer.status answer.session) →
    IsSound (ended reply).status (ended reply).session
sound_reply (Ok answer) h = sound answer.status answer.session h
  where
    sound : (status : ℕ) (session : Option Session) → IsAnswerToText status session → IsSound status session
    sound status (Some s) h = h
    sound status None (inl one) = inl one
    sound status None (inr ten) = inr (inr (inr (inr (inr (inr ten)))))
sound_reply (Err WriteFailed) h = inr (inr (inr (inl refl)))
sound_reply (Err Memory) h = inr (inr (inr (inr (inl refl))))

-- the status of an answer to a text is none of these
pub other_status : (n : ℕ) → (n ≡ 2) ⊎ (n ≡ 6) ⊎ (n ≡ 7) ⊎ (n ≡ 8) ⊎ (n ≡ 9) → (reply : Result Answer Stop) →
    IfOk reply (λ answer. IsAnswerToText answer.status answer.session)
    → IfOk reply (λ answer. (answer.status ≡ n) → ⊥)
other_status n these (Ok answer) h = other answer.status answer.session h
  where
    other : (status : ℕ) (session : Option Session) → IsAnswerToText status session → (status ≡ n) → ⊥
    other status (Some s) h is = omega (arith, these, h, is)
    other status None h is = omega (arith, these, h, is)
other_status n these (Err stop) h = tt

module _ (is : Outcome → Type 0) (old new : Option (List ℕ)) where
  pub ended_one : (reply : Result Answer Stop) → Replies is reply old new → (ended reply).status ≢ 7 →
      (ended reply).status ≢ 8 → GivesOne is (ended reply) old new
  ended_one (Ok answer) h seven eight = h
  ended_one (Err WriteFailed) h seven eight = absurd (seven refl)
  ended_one (Err Memory) h seven eight = absurd (eight refl)

  pub ended_cut : (reply : Result Answer Stop) → Replies is reply old new → IfOk reply (λ answer. (answer.status ≡ 7) → ⊥) →
      (ended reply).status ≡ 7 → GivesFront is old new
  ended_cut (Ok answer) h other seven = absurd (other seven)
  ended_cut (Err WriteFailed) h other seven = h
  ended_cut (Err Memory) h other seven = absurd (let no : 8 ≡ 7 = seven in omega arith)

  pub ended_memory : (reply : Result Answer Stop) → Replies is reply old new → IfOk reply (λ answer. (answer.status ≡ 8) → ⊥) →
      (ended reply).status ≡ 8 → GivesFrontOfAll is old new
  ended_memory (Ok answer) h other eight = absurd (other eight)
  ended_memory (Err WriteFailed) h other eight = absurd (let no : 7 ≡ 8 = eight in omega arith)
  ended_memory (Err Memory) h other eight = h

-- the same of an answer that is known to be this one
module _ (is : Outcome → Type 0) (old new : Option (List ℕ)) (reply : Result Answer Stop) (replies : Replies is reply old new)
    (sound : IfOk reply (λ answer. IsAnswerToText answer.status answer.session)) (answer : Answer) (same : answer ≡ ended reply) where
  pub answered_one : answer.status ≢ 7 → answer.status ≢ 8 → GivesOne is answer old new
  answered_one =
      subst (λ (a : Answer). a.status ≢ 7 → a.status ≢ 8 → GivesOne is a old new) (sym same) (ended_one is old new reply replies)

  pub answered_cut : answer.status ≡ 7 → GivesFront is old new
  answered_cut seven = ended_cut is old new reply replies (other_status 7 (inr (inr (inl refl))) reply sound) (sym (ap (λ (a : Answer). a.status) same) ∙ seven)

  pub answered_memory : answer.status ≡ 8 → GivesFrontOfAll is old new
  answered_memory eight = ended_memory is old new reply replies (other_status 8 (inr (inr (inr (inl refl)))) reply sound)
      (sym (ap (λ (a : Answer). a.status) same) ∙ eight)

-- refused words that were not written whole
pub refused_front : (outcome : Outcome) (reply : Result Answer Stop) (old new : Option (List ℕ)) → IsWritten outcome reply old new →
    IfOk reply (λ a. a ≡ record { status = 2; session = None })
    → (answer : Answer) → answer ≡ ended reply → answer.status ≡ 7 → AppendsFront old new outcome.bytes
refused_front outcome (Ok a) old new h only answer same seven =
    absurd (let two : a.status ≡ 2 = ap (λ (x : Answer). x.status) only in let is : a.status ≡ 7 =
    sym (ap (λ (x : Answer). x.status) same) ∙ seven in omega (arith, two, is))
refused_front outcome (Err stop) old new h only answer same seven = h
