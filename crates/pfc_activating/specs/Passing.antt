-- Arguments, as they are passed.
use Rattle.pfc_semantics.specs.Values.{Value, points}
use Rattle.pfc_semantics.specs.Store.{Store}
use Rattle.pfc_semantics.specs.Displays.{Display, located}
use Rattle.pfc_semantics.specs.Remainders.{Argument, by_value, by_reference}

-- its value, or where its variable lies by the display of the caller
abbrev pub passed_in : Store → Display → Argument → Value
passed_in store display (by_value v) = v
passed_in store display (by_reference s) = points (located store display s)
