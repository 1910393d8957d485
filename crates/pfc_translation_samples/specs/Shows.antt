-- What the image of a text holds.
use Rattle.std.specs.Prelude.{ℕ, List, [], Option, option_map}
use Rattle.std.specs.Fmt.{digits}
use Rattle.pfc_code.specs.Images.{PlainImage}
use Rattle.pfc_code.specs.Printing.{code_text}
use Rattle.pfc_samples.specs.Texts.{program_in}
use Rattle.pfc_translation.specs.Images.{image_of}

-- the code text of a text; None where the text has a fault
unfoldable pub code_of : List ℕ → Option (List ℕ)
unfolding program_in digits
code_of text = option_map (λ t. code_text (image_of t)) (program_in text)

-- all but the code and its lines
unfoldable pub beside_code : List ℕ → Option PlainImage
unfolding program_in digits
beside_code text = option_map (λ t. record (image_of t) { code = []; lines = [] }) (program_in text)
