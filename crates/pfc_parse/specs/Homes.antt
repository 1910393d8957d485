-- Parts by their home, and what stands behind the head of a sub.
use Rattle.std.specs.Prelude.{ℕ, zero, suc}
use Rattle.pfc_base.specs.declared.sign.TheConstants.{SEMICOLON}
use Rattle.pfc_tree.specs.trees.Parts.{PartTree, SubTree, sub}
use Rattle.pfc_tree.specs.views.Parts.{parts_of}
use Rattle.pfc_tree.specs.lawful.Parts as lawful
use Rattle.pfc_grammar.specs.Heads.{as_sign, begins_block}
use Rattle.pfc_grammar.specs.placed.Reading.{Reader, pure, ◌>>=◌, stop, stop_deep, choose, take_as}
use Rattle.pfc_grammar.specs.placed.Exprs.{expr_at}
use Rattle.pfc_grammar.specs.placed.Stmts.{body_with, stmt_at}
use Rattle.pfc_grammar.specs.placed.Parts.{SubHead, block_with, parts_at}
use Rattle.pfc_parse.specs.declared.parts.homes.Home.{Home}
use Rattle.pfc_parse.specs.declared.parts.homes.Home.TheVariants.{Program, Resource, Other}

abbrev pub home_view : Home → lawful.Home
home_view Program = lawful.of_program
home_view Resource = lawful.of_resource
home_view Other = lawful.of_other

-- a part of h that is a block, where n levels are left for what the parts of h hold
unfoldable pub block_at : ℕ → lawful.Home → Reader PartTree
block_at zero h = choose (begins_block h) stop_deep stop
block_at (suc n) h = block_with (parts_at n) (expr_at n) (stmt_at n) h

-- a sub behind its head: {part} body ";"
unfoldable pub sub_after : ℕ → SubHead → Reader SubTree
sub_after n h = do
  qs ← parts_at n lawful.of_other
  b ← body_with (stmt_at n)
  t ← take_as (as_sign SEMICOLON)
  pure (sub h.0.0 h.1 h.2 (parts_of qs) b h.0.1)
