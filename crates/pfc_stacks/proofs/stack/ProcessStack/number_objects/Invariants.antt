use Rattle.std.proofs.Common.{◌≡◌, drop}
use Rattle.pfc_stacks.specs.Starts.{numbered}
use Rattle.pfc_stacks.proofs.stack.ProcessStack.number_objects.Given as goal

-- the objects that are left are still to be numbered
abbrev pub invariant-loop-object : goal.invariant-loop-object
invariant-loop-object l =
    record l.self { cells = numbered (drop l.object-index l.objects) l.self.cells } ≡ record l.fn.self { cells = numbered l.objects l.fn.self.cells }
