-- What was loaded is what is asked for.
use Rattle.std.proofs.Common.{◌≡◌, ℕ, ◌≤◌, List, [], length, Option, Some, None, Bool, true, false, refl, sym, ap, ap₂, subst, arith}
use Rattle.std.proofs.lemmas.Bool.{ltb-true}
use Rattle.std.specs.Prelude.{nat_lt, unwrap_or, if◌then◌else◌}
use Rattle.std.specs.Option.{option_or}
use Rattle.pfc_io.specs.Files.{File}
use Rattle.pfc_outcome.specs.Loaded.{AreLoaded}
use Rattle.pfc_outcome.specs.Loading.{IsGiven, Lack, lack_of, lack_of_bytes, long, first_lack, names_of, stream_limit, text_limit}
use Rattle.pfc_outcome.specs.Options.{Asked}
use Rattle.pfc_outcome.specs.Outcomes.{file_of, given_by, text_by}
use Rattle.pfc_outcome.specs.declared.loading.Loaded.{Loaded}

short_enough : (most : ℕ) (bytes : List ℕ) (over : Bool) → nat_lt most (length bytes) ≡ over → length bytes ≤ most → (if over then Some long else None) ≡ None
short_enough most bytes false e few = refl
short_enough most bytes true e few = absurd (omega (arith, few, ltb-true most (length bytes) e))

-- a file that was given is not wanting
no_lack : (files : List File) (most : ℕ) (name : Option (List ℕ)) (bytes : List ℕ) → IsGiven (Some files) name bytes →
    length bytes ≤ most → lack_of files most name ≡ None
no_lack files most None bytes given few = refl
no_lack files most (Some name) bytes given few =
    subst (λ (o : Option (List ℕ)). lack_of_bytes most o ≡ None) (sym given) (short_enough most bytes (nat_lt most (length bytes)) refl few)

-- and its bytes are those that are held
given_bytes : (files : List File) (name : Option (List ℕ)) (bytes : List ℕ) → IsGiven (Some files) name bytes → given_by files name ≡ bytes
given_bytes files None bytes given = sym given
given_bytes files (Some name) bytes given = ap (λ (o : Option (List ℕ)). unwrap_or o []) given

module _ (told : Option (List File)) (files : List File) (tells : told ≡ Some files) where
  told_given : (name : Option (List ℕ)) (bytes : List ℕ) → IsGiven told name bytes → IsGiven (Some files) name bytes
  told_given name bytes h = subst (λ (o : Option (List File)). IsGiven o name bytes) tells h

  nothing_lacks : (text input script : Option (List ℕ)) (t i s : List ℕ) → IsGiven told text t → IsGiven told input i → IsGiven told script s →
      length t ≤ text_limit → length i ≤ stream_limit
      → length s ≤ stream_limit → first_lack files (names_of text input script) ≡ None
  nothing_lacks text input script t i s text_given input_given script_given text_few input_few script_few =
      let a : lack_of files text_limit text ≡ None = no_lack files text_limit text t (told_given text t text_given) text_few in
      let b : lack_of files stream_limit input ≡ None = no_lack files stream_limit input i (told_given input i input_given) input_few in
      let c : lack_of files stream_limit script ≡ None = no_lack files stream_limit script s (told_given script s script_given) script_few in
      ap₂ (λ (x y : Option Lack). option_or x y) a (ap₂ (λ (x y : Option Lack). option_or x y) b c)

  pub file_bytes : (name : Option (List ℕ)) (bytes : List ℕ) → IsGiven told name bytes → given_by files name ≡ bytes
  file_bytes name bytes given = given_bytes files name bytes (told_given name bytes given)

  -- what was given of the files makes what was loaded, where its text is the one that is asked for
  pub are_loaded : (asked : Asked) (loaded : Loaded) (name : Option (List ℕ)) (t : List ℕ) → name ≡ file_of asked.source
      → IsGiven told name t × IsGiven told asked.input loaded.input × IsGiven told asked.script loaded.script
      → (length t ≤ text_limit) × (length loaded.input ≤ stream_limit) × (length loaded.script ≤ stream_limit) →
      text_by files asked.source ≡ loaded.text → AreLoaded files asked loaded
  are_loaded asked loaded name t named given few text = record {
    whole =
        nothing_lacks (file_of asked.source) asked.input asked.script t loaded.input loaded.script
        (subst (λ (n : Option (List ℕ)). IsGiven told n t) named given.0) given.1 given.2 few.0 few.1 few.2;
    text = text;
    input = file_bytes asked.input loaded.input given.1;
    script = file_bytes asked.script loaded.script given.2;
  }
