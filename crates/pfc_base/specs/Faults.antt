-- The run-time faults: their numbers and their words.
use Rattle.std.specs.Prelude.{ℕ, List, codes}
use Rattle.pfc_base.specs.declared.faults.RunFault.{RunFault}
use Rattle.pfc_base.specs.declared.faults.RunFault.TheVariants.{Overflow, Division, Index, Range, Case, Stack, InputEnd, NoInteger, Active, Negative, Count}
use Rattle.pfc_base.specs.declared.faults.RunFault.TheVariants.{NotActive, Closed, Below, Late, Width}

-- the number of a fault, from 1
abbrev pub number_of : RunFault → ℕ
number_of Overflow = 1
number_of Division = 2
number_of Index = 3
number_of Range = 4
number_of Case = 5
number_of Stack = 6
number_of InputEnd = 7
number_of NoInteger = 8
number_of Active = 9
number_of Negative = 10
number_of Count = 11
number_of NotActive = 12
number_of Closed = 13
number_of Below = 14
number_of Late = 15
number_of Width = 16

-- the words of a fault
abbrev pub text_of : RunFault → List ℕ
text_of Overflow = codes "integer overflow"
text_of Division = codes "division by zero"
text_of Index = codes "index out of bounds"
text_of Range = codes "value out of range"
text_of Case = codes "no case for the value"
text_of Stack = codes "stack full"
text_of InputEnd = codes "input has ended"
text_of NoInteger = codes "no integer in the input"
text_of Active = codes "process already active"
text_of Negative = codes "negative semaphore"
text_of Count = codes "semaphore too large"
text_of NotActive = codes "process not active"
text_of Closed = codes "all alternatives closed"
text_of Below = codes "negative argument"
text_of Late = codes "moment too late"
text_of Width = codes "width out of range"
