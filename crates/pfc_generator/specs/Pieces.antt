-- What stands in a text, from the blocks and the initialising bodies of all its parts.
use Rattle.std.specs.Prelude.{ℕ, ◌+◌, Bool, true, false, List, [], ◌∷◌, ◌++◌, map, take, drop, Option, Some, None}
use Rattle.pfc_tree.specs.trees.Stmts.{BodyTree}
use Rattle.pfc_tree.specs.trees.Parts.{PartTree, PartTrees, SubTree, ModuleTree, ProcessTree, consts, types, vars, sub_part, monitor, resource, process_part}
use Rattle.pfc_tree.specs.trees.Parts.{no_parts, more_parts, sub, the_module, process}
use Rattle.pfc_semantics.specs.Programs.{Block}
use Rattle.pfc_translation.specs.Images.{Piece, a_body, an_initial, resource_end}

-- how many subs, guarded procedures and processes are declared
abbrev mutual
  pub part_bodies : PartTree → ℕ
  part_bodies (consts items) = 0
  part_bodies (types items) = 0
  part_bodies (vars vs) = 0
  part_bodies (sub_part b) = sub_bodies b
  part_bodies (monitor m) = module_bodies m
  part_bodies (resource m) = module_bodies m
  part_bodies (process_part q) = process_bodies q

  pub parts_bodies : PartTrees → ℕ
  parts_bodies no_parts = 0
  parts_bodies (more_parts q qs) = part_bodies q + parts_bodies qs

  pub sub_bodies : SubTree → ℕ
  sub_bodies (sub x gs kind ps b p) = parts_bodies ps + 1

  pub module_bodies : ModuleTree → ℕ
  module_bodies (the_module x exports ps b last p) = parts_bodies ps

  pub process_bodies : ProcessTree → ℕ
  process_bodies (process many x gs es ps b p) = parts_bodies ps + 1

-- whether a part of the program has an initialising body
abbrev pub is_there : Option BodyTree → Bool
is_there None = false
is_there (Some b) = true

abbrev pub has_body : ModuleTree → Bool
has_body (the_module x exports ps b last p) = is_there b

abbrev pub has_initial : PartTree → Bool
has_initial (monitor m) = has_body m
has_initial (resource m) = has_body m
has_initial q = false

-- the first of the initialising bodies that are left, and those behind it
abbrev pub initial_of : Bool → List Block → List Piece
initial_of true (b ∷ inits) = an_initial b ∷ []
initial_of has inits = []

abbrev pub behind_initial : Bool → List Block → List Block
behind_initial true (b ∷ inits) = inits
behind_initial has inits = inits

-- what stands in a part, from the blocks and the initialising bodies that are left
abbrev pub part_pieces : List Block → List Block → PartTree → List Piece
part_pieces blocks inits q = map a_body (take (part_bodies q) blocks) ++ (resource_end q ++ initial_of (has_initial q) inits)

abbrev pub pieces_of : List Block → List Block → PartTrees → List Piece
pieces_of blocks inits no_parts = []
pieces_of blocks inits (more_parts q qs) =
    part_pieces blocks inits q ++ pieces_of (drop (part_bodies q) blocks) (behind_initial (has_initial q) inits) qs
