use Rattle.std.proofs.Common.{◌≡◌, drop}
use Rattle.pfc_types.specs.Views.{levels}
use Rattle.pfc_types.specs.Blocks.{note}
use Rattle.pfc_types.specs.rules.Constants.{broken_ranges}
use Rattle.pfc_check.specs.States.{state_of}
use Rattle.pfc_check.proofs.state.State.ranges.Given as goal

-- what is still to come completes it
abbrev pub invariant-loop-r : goal.invariant-loop-r
invariant-loop-r l =
    record {
      state : note (state_of l.self) (broken_ranges l.self.scopes.scopes (levels l.view) (drop l.r-index l.ranges)) ≡ note (state_of l.initial.self)
          (broken_ranges l.initial.self.scopes.scopes (levels l.view) l.ranges);
      scopes : l.self.scopes.scopes ≡ l.initial.self.scopes.scopes;
    }
