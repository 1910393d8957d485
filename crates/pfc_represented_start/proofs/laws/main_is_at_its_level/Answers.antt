use Rattle.std.proofs.Common.{[], sym, subst}
use Rattle.pfc_semantics.specs.Store.{with_room}
use Rattle.pfc_semantics.specs.Programs.{program_of}
use Rattle.pfc_semantics.specs.Configurations.{main_activity, start}
use Rattle.pfc_stacks.specs.Stacks.{Stacks}
use Rattle.pfc_representation.specs.Processes.{IsUnderWay}
use Rattle.pfc_represented_start.specs.Starts.{start_homes, start_entries, main_descriptor, start_facts}
use Rattle.pfc_represented_start.proofs.Memory.{stacks_are}
use Rattle.pfc_represented_start.proofs.Level.{main_is_under_way}
use Rattle.pfc_represented_start.proofs.laws.main_is_at_its_level.Goals as goal

pub returns : goal.returns
returns c = λ t input seed h lawful whole mains few small.
    subst (λ (s : Stacks). IsUnderWay (start_facts t) start_homes (start_entries t) (with_room [] 0 (program_of t).variables) s
    (start (program_of t) input seed).table h 0 (main_activity (program_of t)) (main_descriptor t)) (sym (stacks_are t))
    (main_is_under_way t lawful whole mains few small input seed h)
