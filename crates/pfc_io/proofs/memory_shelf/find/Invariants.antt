use Rattle.std.proofs.Common.{◌≡◌, drop}
use Rattle.pfc_io.specs.Files.{bytes_of}
use Rattle.pfc_io.specs.Memory.{files_of}
use Rattle.pfc_io.proofs.memory_shelf.find.Given as goal

-- the files so far have other names
abbrev pub invariant-loop-file : goal.invariant-loop-file
invariant-loop-file l = bytes_of l.name (files_of l.files) ≡ bytes_of l.name (files_of (drop l.file-index l.files))
