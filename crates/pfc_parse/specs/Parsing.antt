-- The answers of a parse beside the trees and the syntax faults of its tokens.
use Rattle.std.specs.Prelude.{◌≡◌, ℕ, ◌-◌, List, Result, Ok, Err}
use Rattle.pfc_tree.specs.declared.tree.Tree.{Tree}
use Rattle.pfc_tree.specs.Symbols.{Symbol}
use Rattle.pfc_tree.specs.shapes.Parts.{ProgramShape}
use Rattle.pfc_tree.specs.Readings.{tree_shape}
use Rattle.pfc_tree.specs.Grammar.{IsSyntaxFault}
use Rattle.pfc_parse.specs.declared.fault.SyntaxFault.{SyntaxFault}
use Rattle.pfc_parse.specs.declared.fault.SyntaxFault.TheVariants as fault
use Rattle.pfc_token_parser.specs.declared.tokens.Halt.{Halt}
use Rattle.pfc_token_parser.specs.declared.tokens.Halt.TheVariants.{Unexpected, Deep, Memory}

-- the fault is the syntax fault of the kinds, 201 or 202, at its place; want of memory says nothing
abbrev pub IsFaultOf : List Symbol → SyntaxFault → Type 0
IsFaultOf kinds (fault.Unexpected at) = IsSyntaxFault kinds 201 at
IsFaultOf kinds (fault.Deep at) = IsSyntaxFault kinds 202 at
IsFaultOf kinds fault.Memory = Unit {0}

-- the answer is this tree but for places, unless memory is wanting
abbrev pub IsUnlessMemory : Result Tree SyntaxFault → ProgramShape → Type 0
IsUnlessMemory (Ok tree) shape = tree_shape tree ≡ shape
IsUnlessMemory (Err (fault.Unexpected at)) shape = ⊥
IsUnlessMemory (Err (fault.Deep at)) shape = ⊥
IsUnlessMemory (Err fault.Memory) shape = Unit {0}

-- the fault that a halt is, among so many tokens
abbrev pub fault_at : ℕ → Halt → SyntaxFault
fault_at count (Unexpected left) = fault.Unexpected (count - left)
fault_at count (Deep left) = fault.Deep (count - left)
fault_at count Memory = fault.Memory
