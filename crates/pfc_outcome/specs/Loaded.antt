-- What was loaded, as the options ask for it.
use Rattle.std.specs.Prelude.{◌≡◌, List, None}
use Rattle.pfc_io.specs.Files.{File}
use Rattle.pfc_outcome.specs.Asked.{asked_of}
use Rattle.pfc_outcome.specs.Loading.{first_lack}
use Rattle.pfc_outcome.specs.Options.{Asked}
use Rattle.pfc_outcome.specs.Outcomes.{given_by, names_by, text_by}
use Rattle.pfc_outcome.specs.Requests.{Request, request_of}
use Rattle.pfc_outcome.specs.declared.loading.Loaded.{Loaded}
use Rattle.pfc_outcome.specs.declared.options.Options.{Options}

-- nothing is wrong with the files that are asked for, and these are their bytes
pub record AreLoaded (files : List File) (asked : Asked) (loaded : Loaded) : Type 0 where
  pub whole : first_lack files (names_by asked) ≡ None
  pub text : text_by files asked.source ≡ loaded.text
  pub input : given_by files asked.input ≡ loaded.input
  pub script : given_by files asked.script ≡ loaded.script

-- what the options ask for over what was loaded
abbrev pub asks : Options → Loaded → Request
asks options loaded = request_of (asked_of options) loaded.input loaded.script
