use Rattle.std.proofs.Common.{List, sym, subst}
use Rattle.pfc_base.specs.declared.tokens.Token.{Token}
use Rattle.pfc_tree.specs.Symbols.{symbols}
use Rattle.pfc_number_laws.specs.Tokens.{FitSymbols}
use Rattle.pfc_top.proofs.Images.{text_image, text_refusal}
use Rattle.pfc_top.proofs.compiling.compile.Goals as goal

pub compile_tokens-requires-clause-numbers : goal.compile_tokens-requires-clause-numbers
compile_tokens-requires-clause-numbers c =
    subst (λ (ts : List Token). FitSymbols (symbols ts)) (sym c.deref.ensures.value)
    (c.texts_write_small_numbers.ensures c.args.text.now c.in-Ok.scanned.tokens.items c.in-Ok.scanned.end c.are_bytes.ensures c.in-Ok.ensures.ok)

pub returns-in-Ok-clause-image : goal.returns-in-Ok-clause-image
returns-in-Ok-clause-image c =
    text_image c.args.text.now c.in-Ok.scanned.tokens.items c.deref.result.now c.in-Ok.scanned.end c.compile_tokens.result c.in-Ok.ensures.ok
    c.deref.ensures.value c.compile_tokens.ensures.image

pub returns-in-Ok-clause-none : goal.returns-in-Ok-clause-none
returns-in-Ok-clause-none c =
    text_refusal c.args.text.now c.in-Ok.scanned.tokens.items c.deref.result.now c.in-Ok.scanned.end c.compile_tokens.result c.in-Ok.ensures.ok
    c.deref.ensures.value c.compile_tokens.ensures.none
