-- The options of a program as plain values.
use Rattle.std.specs.Prelude.{ℕ, List, map, String, option_map}
use Rattle.std.specs.String.{string_bytes}
use Rattle.std.specs.declared.alloc.Global.{Global}
use Rattle.pfc_outcome.specs.Options.{Asked, Source, from_file, made}
use Rattle.pfc_outcome.specs.declared.options.Options.{Options}
use Rattle.pfc_outcome.specs.declared.options.Source.{Source as AskedSource}
use Rattle.pfc_outcome.specs.declared.options.Source.TheVariants.{File, Made}
use Rattle.pfc_outcome.specs.declared.walk_options.WalkOptions.{WalkOptions}

-- the words as texts
abbrev pub texts_of : List (String Global) → List (List ℕ)
texts_of words = map string_bytes words

abbrev pub plain_source : AskedSource → Source
plain_source (File name) = from_file name.now
plain_source (Made size) = made size

abbrev pub asked_of : Options → Asked
asked_of options = record {
  source = plain_source options.source;
  seed = options.seed;
  unfair = options.unfair;
  limit = options.limit;
  input = option_map (λ name. name.now) options.input;
  script = option_map (λ name. name.now) options.script;
  list = options.list;
  code = options.code;
}

abbrev pub walk_asked_of : WalkOptions → Asked
walk_asked_of walk = asked_of walk.options
