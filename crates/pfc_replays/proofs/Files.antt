-- The outcome of options and files, with the trace of the run in a file.
use Rattle.std.proofs.Common.{◌≡◌, ℕ, ◌≤◌, Bool, false, nat_lt, List, [], length, Option, Some, None, refl, sym, ap, ◌∙◌, subst, arith, unwrap_or}
use Rattle.std.specs.Prelude.{if◌then◌else◌}
use Rattle.std.specs.Option.{option_or}
use Rattle.std.proofs.lemmas.Bool.Decides.{nat_tests}
use Rattle.pfc_io.specs.Files.{File, bytes_of}
use Rattle.pfc_outcome.specs.Loading.{Lack, first_lack, lack_of, lack_of_bytes, long, missing, stream_limit, text_limit}
use Rattle.pfc_outcome.specs.Meanings.{Meaning}
use Rattle.pfc_outcome.specs.Options.{Asked, Source, from_file, made}
use Rattle.pfc_outcome.specs.Outcomes.{Outcome, Ran, IsOutcomeOfFiles, IsOutcomeOfText, file_of, given_by, names_by, request_by, text_by, without_run}
use Rattle.pfc_outcome.specs.Requests.{Request}
use Rattle.pfc_replays.specs.Laws.{ReplaysOptions}
use Rattle.pfc_replays.specs.Replays.{IsOfSource, IsReplayed, IsSameFile, replayed, script_of, with_script}
use Rattle.pfc_replays.proofs.Texts.{not_ran, text_again}

-- ## What is lacking

both_none : (a b : Option Lack) → option_or a b ≡ None → (a ≡ None) × (b ≡ None)
both_none (Some lack) b e = absurd (let no : Some lack ≡ None = e in cc)
both_none None b e = (refl, e)

same_lack : (files others : List File) (most : ℕ) (name : Option (List ℕ)) → IsSameFile files others name → lack_of others most name ≡ lack_of files most name
same_lack files others most None same = refl
same_lack files others most (Some name) same = ap (lack_of_bytes most) same

fits : (others : List File) (most : ℕ) (name bytes : List ℕ) → bytes_of name others ≡ Some bytes → length bytes ≤ most → lack_of others most (Some name) ≡ None
fits others most name bytes held short =
    ap (lack_of_bytes most) held
    ∙ ap (λ (t : Bool). (let x : Option Lack = if t then Some long else None in x)) (let e : nat_lt most (length bytes) ≡ false = grind (arith, nat_tests) in e)

nothing_lacks : (a b c : Option Lack) → a ≡ None → b ≡ None → c ≡ None → option_or a (option_or b c) ≡ None
nothing_lacks a b c first second third =
    ap (λ (x : Option Lack). option_or x (option_or b c)) first ∙ ap (λ (x : Option Lack). option_or x c) second ∙ third

-- ## What is given

same_given : (files others : List File) (name : Option (List ℕ)) → IsSameFile files others name → given_by others name ≡ given_by files name
same_given files others None same = refl
same_given files others (Some name) same = ap (λ (o : Option (List ℕ)). unwrap_or o []) same

same_text : (files others : List File) (source : Source) → IsSameFile files others (file_of source) → text_by others source ≡ text_by files source
same_text files others (from_file name) same = same_given files others (Some name) same
same_text files others (made size) same = refl

module _
    (m : Meaning) (of : IsOfSource m) (asked : Asked) (files others : List File) (name : List ℕ) (outcome : Outcome) (ran : Ran)
    (ran_so : outcome.ran ≡ Some ran) (again : IsReplayed ran) (text : IsSameFile files others (file_of asked.source))
    (input : IsSameFile files others asked.input) (held : bytes_of name others ≡ Some (script_of ran)) (short : length (script_of ran) ≤ stream_limit)
  where
    abbrev scripted : Asked
    scripted = record asked { script = Some name }

    none_lacks : first_lack files (names_by asked) ≡ None → first_lack others (names_by scripted) ≡ None
    none_lacks e =
        let first = both_none (lack_of files text_limit (file_of asked.source)) (option_or (lack_of files stream_limit asked.input)
        (lack_of files stream_limit asked.script)) e in
        let second = both_none (lack_of files stream_limit asked.input) (lack_of files stream_limit asked.script) first.1 in
        nothing_lacks (lack_of others text_limit (file_of asked.source)) (lack_of others stream_limit asked.input) (lack_of others stream_limit (Some name))
        (same_lack files others text_limit (file_of asked.source) text ∙ first.0)
        (same_lack files others stream_limit asked.input input ∙ second.0)
        (fits others stream_limit name (script_of ran) held short)

    same_request : request_by others scripted ≡ with_script (request_by files asked) (script_of ran)
    same_request =
        ap (λ (bytes : List ℕ). (let r : Request = record (request_by others scripted) { input = bytes } in r)) (same_given files others asked.input input)
        ∙ ap (λ (o : Option (List ℕ)). with_script (request_by files asked) (unwrap_or o [])) held

    text_there : IsOutcomeOfText m (text_by files asked.source) (request_by files asked) outcome
        → IsOutcomeOfText m (text_by others asked.source) (request_by others scripted) (replayed outcome ran)
    text_there is =
        subst (λ (bytes : List ℕ). IsOutcomeOfText m bytes (request_by others scripted) (replayed outcome ran)) (sym (same_text files others asked.source text))
        (subst (λ (r : Request). IsOutcomeOfText m (text_by files asked.source) r (replayed outcome ran)) (sym same_request)
        (text_again m of (request_by files asked) (text_by files asked.source) outcome ran is ran_so again))

    pub files_again :
        (lack : Option Lack) → first_lack files (names_by asked) ≡ lack → IsOutcomeOfFiles m lack files asked outcome
        → IsOutcomeOfFiles m (first_lack others (names_by scripted)) others scripted (replayed outcome ran)
    files_again (Some missing) e is = absurd (not_ran outcome (without_run 6 []) ran is refl ran_so)
    files_again (Some long) e is = absurd (not_ran outcome (without_run 9 []) ran is refl ran_so)
    files_again None e is =
        subst (λ (lack : Option Lack). IsOutcomeOfFiles m lack others scripted (replayed outcome ran)) (sym (none_lacks e)) (text_there is)

pub replays_options : ReplaysOptions
replays_options m asked files others name outcome ran of is ran_so again text input held short =
    files_again m of asked files others name outcome ran ran_so again text input held short (first_lack files (names_by asked)) refl is
