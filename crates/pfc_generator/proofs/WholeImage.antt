-- An image is the one of the definition, part by part.
use Rattle.std.proofs.Common.{◌≡◌, ℕ, ◌++◌, List, [], ◌∷◌, drop, ap, ap₂, ◌∙◌}
use Rattle.std.proofs.lemmas.List.{map-append, length-map}
use Rattle.pfc_tree.specs.Symbols.{Text}
use Rattle.pfc_semantics.specs.Programs.{Program}
use Rattle.pfc_code.specs.declared.instructions.Instr.{Instr}
use Rattle.pfc_code.specs.declared.images.Block.{Block as CodeBlock}
use Rattle.pfc_code.specs.declared.images.Object.{Object}
use Rattle.pfc_code.specs.declared.images.ProcessInfo.{ProcessInfo}
use Rattle.pfc_code.specs.Images.{PlainImage}
use Rattle.pfc_translation.specs.Codes.{Lined}
use Rattle.pfc_translation.specs.Operands.{most_operands}
use Rattle.pfc_translation.specs.Images.{Coded, before_main, put_from, size_of, instructions, blocks_from, main_block}
use Rattle.pfc_blocks.specs.Making.{Placing, main_made}
use Rattle.pfc_generator.specs.Making.{placings_from, AreSized}
use Rattle.pfc_generator.specs.Whole.{blocks_in, main_code, whole_code}
use Rattle.pfc_generator.proofs.Placed.{sized_length, drop_front, blocks_made}

pub same_image :
    (a b : PlainImage) → a.code ≡ b.code → a.lines ≡ b.lines → a.blocks ≡ b.blocks → a.processes ≡ b.processes → a.objects ≡ b.objects → a.texts ≡ b.texts
    → a.semaphores ≡ b.semaphores → a.channels ≡ b.channels → a.conditions ≡ b.conditions → a.monitors ≡ b.monitors → a.scans ≡ b.scans → a.arms ≡ b.arms
    → a ≡ b
same_image a b code lines blocks processes objects texts semaphores channels conditions monitors scans arms =
    ap (λ (x : List Instr). record a { code = x }) code
    ∙ ap (λ (x : List ℕ). record a { code = b.code; lines = x }) lines
    ∙ ap (λ (x : List CodeBlock). record a { code = b.code; lines = b.lines; blocks = x }) blocks
    ∙ ap (λ (x : List ProcessInfo). record a { code = b.code; lines = b.lines; blocks = b.blocks; processes = x }) processes
    ∙ ap (λ (x : List Object). record a { code = b.code; lines = b.lines; blocks = b.blocks; processes = b.processes; objects = x }) objects
    ∙ ap (λ (x : List (List ℕ)). record b {
      texts = x;
      semaphores = a.semaphores;
      channels = a.channels;
      conditions = a.conditions;
      monitors = a.monitors;
      scans = a.scans;
      arms = a.arms;
    }) texts
    ∙ ap (λ (x : ℕ). record b {
      semaphores = x;
      channels = a.channels;
      conditions = a.conditions;
      monitors = a.monitors;
      scans = a.scans;
      arms = a.arms;
    }) semaphores
    ∙ ap (λ (x : ℕ). record b { channels = x; conditions = a.conditions; monitors = a.monitors; scans = a.scans; arms = a.arms }) channels
    ∙ ap (λ (x : List ℕ). record b { conditions = x; monitors = a.monitors; scans = a.scans; arms = a.arms }) conditions
    ∙ ap (λ (x : ℕ). record b { monitors = x; scans = a.scans; arms = a.arms }) monitors
    ∙ ap (λ (x : List ℕ). record b { scans = x; arms = a.arms }) scans
    ∙ ap (λ (x : ℕ). record b { arms = x }) arms

module _ (g : Program) (name : Text) (parts : List Coded) (code : List Instr) (placed : List Placing) (main : ℕ)
    (code_is : code ≡ instructions (whole_code g parts)) (placed_are : placed ≡ placings_from g 0 (before_main parts))
    (main_is : main ≡ size_of (before_main parts)) (sized : AreSized 0 (before_main parts)) where
  abbrev outer : Lined
  outer = put_from 0 (before_main parts)

  split : instructions (whole_code g parts) ≡ instructions outer ++ instructions (main_code g parts)
  split = map-append (λ pair. pair.0) outer (main_code g parts)

  own_code : drop main code ≡ instructions (main_code g parts)
  own_code =
      let count = length-map outer (λ pair. pair.0) in
      let size = sized_length 0 (before_main parts) sized in
      ap₂ (λ (n : ℕ) (l : List Instr). drop n l) main_is (code_is ∙ split)
      ∙ drop_front (size_of (before_main parts)) (instructions outer) (instructions (main_code g parts)) (count ∙ size)

  pub blocks_are :
      blocks_in g code placed ++ main_made g name main code ∷ []
      ≡ blocks_from g 0 (before_main parts) ++ main_block g name (size_of (before_main parts)) (main_code g parts) ∷ []
  blocks_are =
      ap₂ (λ (l : List CodeBlock) (b : CodeBlock). l ++ b ∷ [])
      (ap₂ (λ (c : List Instr) (p : List Placing). blocks_in g c p) code_is placed_are
      ∙ blocks_made g 0 (before_main parts) (instructions (whole_code g parts)) (instructions (main_code g parts)) sized split)
      (ap₂ (λ (n : ℕ) (l : List Instr). record (main_made g name n []) { operands = most_operands g 0 l }) main_is own_code)
