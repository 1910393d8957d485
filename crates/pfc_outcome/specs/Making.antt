-- The made text: a monitor's bounded buffer with so many producers and as many consumers.
use Rattle.std.specs.Prelude.{ℕ, List, ◌++◌, decimal}
use Rattle.pfc_outcome.specs.declared.making.TheConstants.{BUFFER, CONSUMERS, PRODUCERS_LOOP, CONSUMERS_LOOP, TOTAL}

-- the program's pieces, with the number behind each but the last
abbrev pub made_text : ℕ → List ℕ
made_text size =
    BUFFER.now ++ (decimal size ++ (CONSUMERS.now ++ (decimal size
    ++ (PRODUCERS_LOOP.now ++ (decimal size ++ (CONSUMERS_LOOP.now ++ (decimal size ++ TOTAL.now)))))))
