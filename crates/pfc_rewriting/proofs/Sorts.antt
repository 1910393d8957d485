-- Parts that are pending, by their kinds.
use Rattle.std.proofs.Common.{◌≡◌, ℕ, true, false, refl}
use Rattle.std.specs.declared.alloc.Global.{Global}
use Rattle.std.specs.declared.boxed.Box.{Box}
use Rattle.pfc_tree.specs.trees.Stmts.{empty}
use Rattle.pfc_semantics.specs.Remainders.{choose, ends}
use Rattle.pfc_store.specs.declared.spots.Spot.{Spot}
use Rattle.pfc_program.specs.declared.tables.Tables.{Tables}
use Rattle.pfc_pending.specs.Waiting.{Waiting, awaits_of, remainder_of, over}
use Rattle.pfc_pending.specs.declared.pending.Pending.{Pending}
use Rattle.pfc_pending.specs.declared.pending.Pending.TheVariants.{Ends, Perform, InNames, WriteOn, ReadOn, AtCoend, PartFrom, WriteAgain, GoThrough, TryGuard}
use Rattle.pfc_pending.specs.declared.pending.Pending.TheVariants.{ScanOn, TryOther, Within, BeginSum, AddTo, BeginProduct, MultiplyBy, CompareWith, CompareTo}
use Rattle.pfc_pending.specs.declared.pending.Pending.TheVariants.{Invert, Apply, IndexInto, PassValue, StoreAt, Show, ShowWide, Pad, SetCount, DelayWith}
use Rattle.pfc_pending.specs.declared.pending.Pending.TheVariants.{SleepFor, SendOn, OpenIf, OfferValue, OfferWait, PassOwn, PassOther}
use Rattle.pfc_pending.specs.declared.pending.Point.{Point}
use Rattle.pfc_pending.specs.declared.select.Choosing.{Choosing}
use Rattle.pfc_pending.specs.declared.text.OneStmt.{OneStmt}
use Rattle.pfc_expression_steps.specs.Ahead.{is_of_expression}
use Rattle.pfc_statement_steps.specs.Resumed.{is_guard, is_resumed}
use Rattle.pfc_rewriting.specs.Kinds.{is_plain}

pub plain_others :
    (p : Pending)
    → ((n : ℕ) (s : OneStmt) (point : Point) → p ≡ Within n s point → ⊥)
    → ((line : ℕ) (c : Box Choosing Global) → p ≡ GoThrough line c → ⊥)
    → is_plain p ≡ true
plain_others (Within n s point) within through = absurd (within n s point refl)
plain_others (GoThrough line c) within through = absurd (through line c refl)
plain_others p within through = refl

-- what waits for a value is no end of anything
pub unresumed : (t : Tables) (w : Waiting) (p : Pending) → is_plain p ≡ true → is_resumed p ≡ false → remainder_of (over t w p) ≡ ends 0
unresumed t w (Within n s point) plain none = cc
unresumed t w (GoThrough line c) plain none = cc
unresumed t w (Ends line) plain none = cc
unresumed t w (Perform n ss) plain none = cc
unresumed t w (InNames names) plain none = cc
unresumed t w (WriteOn line items newline) plain none = cc
unresumed t w (ReadOn line items skip) plain none = cc
unresumed t w (AtCoend line) plain none = cc
unresumed t w (PartFrom caller line) plain none = cc
unresumed t w (WriteAgain r) plain none = cc
unresumed t w (TryGuard b) plain none = cc
unresumed t w (ScanOn scan) plain none = cc
unresumed t w (TryOther tried scan) plain none = cc
unresumed t w p plain none = refl

-- what stands behind a statement waits for no value
pub unwanted :
    (t : Tables) (w : Waiting) (p : Pending) → is_of_expression p ≡ false → is_guard p ≡ false
    → ((n : ℕ) (s : OneStmt) (point : Point) → p ≡ Within n s point → ⊥)
    → ((c : Box Choosing Global) → p ≡ OpenIf c → ⊥)
    → ((channel : Spot) (c : Box Choosing Global) → p ≡ OfferValue channel c → ⊥)
    → ((c : Box Choosing Global) → p ≡ OfferWait c → ⊥)
    → awaits_of (over t w p) ≡ choose 0 empty empty (ends 0)
unwanted t w (Within n s point) other no_guard within opened value wait = absurd (within n s point refl)
unwanted t w (OpenIf c) other no_guard within opened value wait = absurd (opened c refl)
unwanted t w (OfferValue channel c) other no_guard within opened value wait = absurd (value channel c refl)
unwanted t w (OfferWait c) other no_guard within opened value wait = absurd (wait c refl)
unwanted t w (PassOwn b) other no_guard within opened value wait = cc
unwanted t w (PassOther tried scan) other no_guard within opened value wait = cc
unwanted t w (BeginSum sign rest) other no_guard within opened value wait = cc
unwanted t w (AddTo n op rest) other no_guard within opened value wait = cc
unwanted t w (BeginProduct rest) other no_guard within opened value wait = cc
unwanted t w (MultiplyBy n op rest) other no_guard within opened value wait = cc
unwanted t w (CompareWith r right) other no_guard within opened value wait = cc
unwanted t w (CompareTo n r) other no_guard within opened value wait = cc
unwanted t w Invert other no_guard within opened value wait = cc
unwanted t w (Apply f of) other no_guard within opened value wait = cc
unwanted t w (IndexInto spot es ss goal) other no_guard within opened value wait = cc
unwanted t w (PassValue passing) other no_guard within opened value wait = cc
unwanted t w (StoreAt spot) other no_guard within opened value wait = cc
unwanted t w (Show of) other no_guard within opened value wait = cc
unwanted t w (ShowWide of width) other no_guard within opened value wait = cc
unwanted t w (Pad piece) other no_guard within opened value wait = cc
unwanted t w (SetCount spot) other no_guard within opened value wait = cc
unwanted t w (DelayWith spot) other no_guard within opened value wait = cc
unwanted t w SleepFor other no_guard within opened value wait = cc
unwanted t w (SendOn channel) other no_guard within opened value wait = cc
unwanted t w p other no_guard within opened value wait = refl
