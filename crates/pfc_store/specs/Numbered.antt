-- Objects as the code counts them, and what it numbers.
use Rattle.std.specs.Prelude.{List, ◌++◌}
use Rattle.pfc_semantics.specs.Values.{Value, Values, values_from}
use Rattle.pfc_semantics.specs.Objects.{Objects, Numbered}
use Rattle.pfc_store.specs.declared.objects.Objects.{Objects as HeldObjects}
use Rattle.pfc_store.specs.declared.values.Value.{Value as HeldValue}
use Rattle.pfc_store.specs.Views.{value_view, values_view}

abbrev pub objects_view : HeldObjects → Objects
objects_view o = record { semaphores = o.semaphores; channels = o.channels; conditions = o.conditions.items; processes = o.processes.items }

-- a value, the parts of one, and the values of some variables, with the objects behind them
abbrev pub numbered : HeldValue → HeldObjects → Numbered Value
numbered v o = record { is = value_view v; objects = objects_view o }

abbrev pub numbered_parts : List HeldValue → HeldObjects → Numbered Values
numbered_parts vs o = record { is = values_from (values_view vs); objects = objects_view o }

abbrev pub numbered_variables : List HeldValue → HeldObjects → Numbered (List Value)
numbered_variables vs o = record { is = values_view vs; objects = objects_view o }

-- with these values in front
abbrev pub behind : List Value → Numbered (List Value) → Numbered (List Value)
behind before more = record { is = before ++ more.is; objects = more.objects }
