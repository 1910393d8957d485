-- What replies say of the outcomes of a text.
use Rattle.std.proofs.Common.{◌≡◌, ◌≢◌, ◌⊎◌, inl, inr, ℕ, List, [], ◌++◌, Option, Some, None, Result, Ok, Err, IfOk, IfErr, refl, sym, ap, ap₂, ◌∙◌, subst}
use Rattle.std.proofs.Common.{arith}
use Rattle.std.specs.Io.KnownBytes.{Appends}
use Rattle.std.proofs.KnownBytes.{Appends-nil, Appends-trans}
use Rattle.std.specs.Prelude.{IsErrOf}
use Rattle.std.specs.Result.{IsErrAnd}
use Rattle.pfc_io.specs.Writes.{AppendsFront}
use Rattle.pfc_io.proofs.Written.{AppendsFront-after, AppendsFront-none}
use Rattle.pfc_io.specs.Files.{File}
use Rattle.pfc_outcome.specs.Outcomes.{Outcome, IsOutcomeOf, IsOutcomeOfFiles, IsOutcomeOfText, behind, names_by, request_by, text_by, without_run}
use Rattle.pfc_outcome.specs.Outcomes.{listing_written}
use Rattle.pfc_outcome.specs.Loaded.{AreLoaded}
use Rattle.pfc_outcome.specs.Loading.{Lack, Lacks, first_lack, long}
use Rattle.pfc_outcome.specs.Options.{Asked}
use Rattle.pfc_outcome.specs.Requests.{Request, request_of}
use Rattle.pfc_outcome.specs.declared.loading.Loaded.{Loaded}
use Rattle.pfc_walk.specs.Answers.{Gives, GivesFront, GivesFrontOfAll, GivesOne, IsAnswerToText, IsStatus, IsWritten, Replies, ended}
use Rattle.pfc_outcome.specs.declared.walk_options.Shown.{Shown}
use Rattle.pfc_walk.specs.Traces.{IsToldOf, IsToldOfText, listing_by}
use Rattle.pfc_walk.proofs.Traced.{told_once, told_through, told_without}
use Rattle.pfc_walk.specs.Meanings.{whole_meaning}
use Rattle.pfc_walk.specs.declared.replies.Stop.{Stop}
use Rattle.pfc_walk.specs.declared.replies.Stop.TheVariants.{WriteFailed, Memory}

-- ## Two pieces, one behind the other

-- the second was not written whole
pub second_cut : (old mid new : Option (List ℕ)) (first rest : List ℕ) → Appends old mid first →
    AppendsFront mid new rest → AppendsFront old new (first ++ rest)
second_cut old mid new first rest whole front = AppendsFront-after old mid new first rest whole front

-- ## Stops

module _ (reply : Result ℕ Stop) (e : Stop) (is_err : IsErrAnd reply (λ y. y ≡ e)) where
  pub stopped_written : (outcome : Outcome) (old new : Option (List ℕ)) → AppendsFront old new outcome.bytes → IsWritten outcome reply old new
  stopped_written outcome old new front = at reply is_err
    where
      at : (r : Result ℕ Stop) → IsErrAnd r (λ y. y ≡ e) → IsWritten outcome r old new
      at (Ok status) h = absurd h
      at (Err stop) h = front

  pub stopped_sound : IfOk reply (λ status. IsAnswerToText status)
  stopped_sound = at reply is_err
    where
      at : (r : Result ℕ Stop) → IsErrAnd r (λ y. y ≡ e) → IfOk r (λ status. IsAnswerToText status)
      at (Ok status) h = absurd h
      at (Err stop) h = tt

  pub same_stop : (s : Stop) → IsErrOf reply s → IsErrOf {T = Unit {0}} {E = Stop} (Err e) s
  same_stop s of = ap (λ (x : Stop). let r : Result (Unit {0}) Stop = Err x in r) (at reply is_err of)
    where
      at : (r : Result ℕ Stop) → IsErrAnd r (λ y. y ≡ e) → IsErrOf r s → e ≡ s
      at (Ok status) h k = absurd h
      at (Err stop) h k = cc

pub no_stop : (status : ℕ) (s : Stop) → IsErrOf {T = ℕ} {E = Stop} (Ok status) s → ⊥
no_stop status s h = let reply : Result ℕ Stop = Ok status in let no : reply ≡ Err s = h in cc

-- want of memory before anything is written
pub memory_replies : (is : Outcome → Type 0) (reply : Result ℕ Stop) (w : Option (List ℕ)) → IsErrAnd reply (λ y. y ≡ Memory) → Replies is reply w w
memory_replies is (Ok status) w h = absurd h
memory_replies is (Err WriteFailed) w h = absurd (let no : WriteFailed ≡ Memory = h in cc)
memory_replies is (Err Memory) w h = λ outcome there. AppendsFront-none w outcome.bytes

pub err_always : (r : Result (Unit {0}) Stop) (P : Type 0) → P → IfErr r (λ s. P)
err_always (Ok x) P h = tt
err_always (Err s) P h = h

-- nothing is written
pub gives_nothing : (answer status : ℕ) (w : Option (List ℕ)) → answer ≡ status → Gives (without_run status []) answer w w
gives_nothing answer status w same = record { status = same; written = Appends-nil w }

-- ## Written outcomes

-- bytes were appended first
pub written_behind :
    (heading : List ℕ) (outcome : Outcome) (reply : Result ℕ Stop) (old mid new : Option (List ℕ)) → Appends old mid heading → IsWritten outcome reply mid new
    → IsWritten (behind heading outcome) reply old new
written_behind heading outcome (Ok status) old mid new first h =
    record { status = h.status; written = Appends-trans old mid new heading outcome.bytes first h.written }
written_behind heading outcome (Err stop) old mid new first h = AppendsFront-after old mid new heading outcome.bytes first h

-- the same outcome
pub written_as : (a b : Outcome) (reply : Result ℕ Stop) (old new : Option (List ℕ)) → a ≡ b → IsWritten a reply old new → IsWritten b reply old new
written_as a b reply old new same h = subst (λ (o : Outcome). IsWritten o reply old new) same h

-- what was written is the one outcome of its kind
pub replied :
    (is : Outcome → Type 0) (outcome : Outcome) → is outcome → ((a b : Outcome) → is a → is b → a ≡ b) → (reply : Result ℕ Stop) (old new : Option (List ℕ))
    → IsWritten outcome reply old new → Replies is reply old new
replied is outcome here one (Ok status) old new h = (outcome, here, h)
replied is outcome here one (Err WriteFailed) old new h = (outcome, here, h)
replied is outcome here one (Err Memory) old new h = λ other there. subst (λ (o : Outcome). AppendsFront old new o.bytes) (one outcome other here there) h

-- what was written is the one outcome of a text, which has no run
pub refused_replies :
    (shown : Shown) (text : List ℕ) (request : Request) (outcome : Outcome) → outcome.ran ≡ None → IsOutcomeOfText whole_meaning text request outcome
    → ((a b : Outcome) → IsOutcomeOfText whole_meaning text request a → IsOutcomeOfText whole_meaning text request b → a ≡ b)
    → (reply : Result ℕ Stop) (old new : Option (List ℕ)) → IsWritten outcome reply old new
    → Replies (IsToldOfText shown whole_meaning text request) reply old new
refused_replies shown text request outcome none here one reply old new h =
    replied (IsToldOfText shown whole_meaning text request) outcome
    (told_without shown (listing_written request text) (IsOutcomeOfText whole_meaning text request) outcome none here)
    (told_once shown (listing_written request text) (IsOutcomeOfText whole_meaning text request) one) reply old new h

-- ## What was loaded

-- the outcomes of the options are those of the loaded text
module _ (files : List File) (asked : Asked) (loaded : Loaded) (are : AreLoaded files asked loaded) where
  abbrev loaded_request : Request
  loaded_request = request_of asked loaded.input loaded.script

  request_is : request_by files asked ≡ loaded_request
  request_is = ap₂ (λ (x y : List ℕ). request_of asked x y) are.input are.script

  files_up : (outcome : Outcome) → IsOutcomeOfText whole_meaning loaded.text loaded_request outcome → IsOutcomeOf whole_meaning asked files outcome
  files_up outcome is =
      subst (λ (l : Option Lack). IsOutcomeOfFiles whole_meaning l files asked outcome) (sym are.whole)
      (subst (λ (x : List ℕ). IsOutcomeOfText whole_meaning x (request_by files asked) outcome) (sym are.text)
      (subst (λ (r : Request). IsOutcomeOfText whole_meaning loaded.text r outcome) (sym request_is) is))

  files_down : (outcome : Outcome) → IsOutcomeOf whole_meaning asked files outcome → IsOutcomeOfText whole_meaning loaded.text loaded_request outcome
  files_down outcome is =
      let whole : IsOutcomeOfText whole_meaning (text_by files asked.source) (request_by files asked) outcome =
      subst (λ (l : Option Lack). IsOutcomeOfFiles whole_meaning l files asked outcome) are.whole is in
      subst (λ (r : Request). IsOutcomeOfText whole_meaning loaded.text r outcome) request_is
      (subst (λ (x : List ℕ). IsOutcomeOfText whole_meaning x (request_by files asked) outcome) are.text whole)

  same_listing : listing_written loaded_request loaded.text ≡ listing_by files asked
  same_listing = ap₂ (λ (r : Request) (x : List ℕ). listing_written r x) (sym request_is) (sym are.text)

  told_up : (shown : Shown) (outcome : Outcome) → IsToldOfText shown whole_meaning loaded.text loaded_request outcome →
      IsToldOf shown whole_meaning asked files outcome
  told_up shown outcome is =
      told_through shown (listing_written loaded_request loaded.text) (listing_by files asked) (IsOutcomeOfText whole_meaning loaded.text loaded_request)
      (IsOutcomeOf whole_meaning asked files) same_listing files_up outcome is

  told_down : (shown : Shown) (outcome : Outcome) → IsToldOf shown whole_meaning asked files outcome →
      IsToldOfText shown whole_meaning loaded.text loaded_request outcome
  told_down shown outcome is =
      told_through shown (listing_by files asked) (listing_written loaded_request loaded.text) (IsOutcomeOf whole_meaning asked files)
      (IsOutcomeOfText whole_meaning loaded.text loaded_request) (sym same_listing) files_down outcome is

  pub files_replies :
      (shown : Shown) (reply : Result ℕ Stop) (old new : Option (List ℕ))
      → Replies (IsToldOfText shown whole_meaning loaded.text loaded_request) reply old new → Replies (IsToldOf shown whole_meaning asked files) reply old new
  files_replies shown (Ok status) old new h = (h.0, told_up shown h.0 h.1, h.2)
  files_replies shown (Err WriteFailed) old new h = (h.0, told_up shown h.0 h.1, h.2)
  files_replies shown (Err Memory) old new h = λ outcome is. h outcome (told_down shown outcome is)

-- a file that is too long
pub long_outcome :
    (shown : Shown) (shelf : Option (List File)) (files : List File) (asked : Asked) → shelf ≡ Some files → Lacks shelf (names_by asked) long
    → IsToldOf shown whole_meaning asked files (without_run 9 [])
long_outcome shown shelf files asked tells lacks =
    let h : first_lack files (names_by asked) ≡ Some long = subst (λ (t : Option (List File)). Lacks t (names_by asked) long) tells lacks in
    told_without shown (listing_by files asked) (IsOutcomeOf whole_meaning asked files) (without_run 9 []) refl
    (subst (λ (l : Option Lack). IsOutcomeOfFiles whole_meaning l files asked (without_run 9 [])) (sym h) refl)

-- ## Statuses

pub status_reply : (reply : Result ℕ Stop) → IfOk reply (λ status. IsAnswerToText status) → (status : ℕ) → status ≡ ended reply → IsStatus status
status_reply (Ok n) h status same = inl (subst (λ (x : ℕ). IsAnswerToText x) (sym same) h)
status_reply (Err WriteFailed) h status same = inr (inr (inr (inl same)))
status_reply (Err Memory) h status same = inr (inr (inr (inr (inl same))))

-- the status of an answer to a text is none of these
pub other_status :
    (n : ℕ) → (n ≡ 2) ⊎ (n ≡ 6) ⊎ (n ≡ 7) ⊎ (n ≡ 8) ⊎ (n ≡ 9) → (reply : Result ℕ Stop) → IfOk reply (λ status. IsAnswerToText status)
    → IfOk reply (λ status. (status ≡ n) → ⊥)
other_status n these (Ok status) h = λ is. omega (arith, these, h, is)
other_status n these (Err stop) h = tt

-- a call that was answered or stopped has none of these
pub none_of :
    (n : ℕ) → (n ≡ 2) ⊎ (n ≡ 6) ⊎ (n ≡ 9) → (reply : Result ℕ Stop) → IfOk reply (λ status. IsAnswerToText status) →
    (status : ℕ) → status ≡ ended reply → status ≡ n → ⊥
none_of n these (Ok m) h status same is = omega (arith, these, h, same, is)
none_of n these (Err WriteFailed) h status same is = omega (arith, these, same, is)
none_of n these (Err Memory) h status same is = omega (arith, these, same, is)

module _ (is : Outcome → Type 0) (old new : Option (List ℕ)) where
  ended_one : (reply : Result ℕ Stop) → Replies is reply old new → ended reply ≢ 7 → ended reply ≢ 8 → GivesOne is (ended reply) old new
  ended_one (Ok status) h seven eight = h
  ended_one (Err WriteFailed) h seven eight = absurd (seven refl)
  ended_one (Err Memory) h seven eight = absurd (eight refl)

  ended_cut : (reply : Result ℕ Stop) → Replies is reply old new → IfOk reply (λ status. (status ≡ 7) → ⊥) → ended reply ≡ 7 → GivesFront is old new
  ended_cut (Ok status) h other seven = absurd (other seven)
  ended_cut (Err WriteFailed) h other seven = h
  ended_cut (Err Memory) h other seven = absurd (let no : 8 ≡ 7 = seven in omega arith)

  ended_memory : (reply : Result ℕ Stop) → Replies is reply old new → IfOk reply (λ status. (status ≡ 8) → ⊥) → ended reply ≡ 8 → GivesFrontOfAll is old new
  ended_memory (Ok status) h other eight = absurd (other eight)
  ended_memory (Err WriteFailed) h other eight = absurd (let no : 7 ≡ 8 = eight in omega arith)
  ended_memory (Err Memory) h other eight = h

-- the same of a status that is known to be this one
module _ (is : Outcome → Type 0) (old new : Option (List ℕ)) (reply : Result ℕ Stop) (replies : Replies is reply old new)
    (sound : IfOk reply (λ status. IsAnswerToText status)) (status : ℕ) (same : status ≡ ended reply) where
  pub answered_one : status ≢ 7 → status ≢ 8 → GivesOne is status old new
  answered_one = subst (λ (n : ℕ). n ≢ 7 → n ≢ 8 → GivesOne is n old new) (sym same) (ended_one is old new reply replies)

  pub answered_cut : status ≡ 7 → GivesFront is old new
  answered_cut seven = ended_cut is old new reply replies (other_status 7 (inr (inr (inl refl))) reply sound) (sym same ∙ seven)

  pub answered_memory : status ≡ 8 → GivesFrontOfAll is old new
  answered_memory eight = ended_memory is old new reply replies (other_status 8 (inr (inr (inr (inl refl)))) reply sound) (sym same ∙ eight)

-- refused words that were not written whole
pub refused_front :
    (outcome : Outcome) (reply : Result ℕ Stop) (old new : Option (List ℕ)) → IsWritten outcome reply old new → IfOk reply (λ n. n ≡ 2)
    → (status : ℕ) → status ≡ ended reply → status ≡ 7 → AppendsFront old new outcome.bytes
refused_front outcome (Ok n) old new h only status same seven = absurd (omega (arith, only, same, seven))
refused_front outcome (Err stop) old new h only status same seven = h
