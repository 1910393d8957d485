-- An image as a plain value: each vector as its list.
use Rattle.std.specs.Prelude.{ℕ, List}
use Rattle.pfc_code.specs.declared.instructions.Instr.{Instr}
use Rattle.pfc_code.specs.declared.images.Block.{Block}
use Rattle.pfc_code.specs.declared.images.ProcessInfo.{ProcessInfo}
use Rattle.pfc_code.specs.declared.images.Object.{Object}
use Rattle.pfc_code.specs.declared.images.Image.{Image}

-- an image, with lists for vectors; a block, a process and an object are plain as they are
pub record PlainImage : Type 0 where
  pub code : List Instr
  pub lines : List ℕ
  pub blocks : List Block
  pub processes : List ProcessInfo
  pub objects : List Object
  pub texts : List (List ℕ)
  pub semaphores : ℕ
  pub channels : ℕ
  pub conditions : List ℕ
  pub monitors : ℕ
  pub scans : List ℕ
  pub arms : ℕ

-- the plain value of an image
abbrev pub plain_image : Image → PlainImage
plain_image image = record {
  code = image.code.items;
  lines = image.lines.items;
  blocks = image.blocks.items;
  processes = image.processes.items;
  objects = image.objects.items;
  texts = image.texts.items;
  semaphores = image.semaphores;
  channels = image.channels;
  conditions = image.conditions.items;
  monitors = image.monitors;
  scans = image.scans.items;
  arms = image.arms;
}
