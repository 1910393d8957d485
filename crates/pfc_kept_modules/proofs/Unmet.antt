-- In a block without accepts nobody meets its process.
use Rattle.std.proofs.Common.{◌≡◌, ℕ, ◌+◌, ◌==◌, ◌&&◌, ◌||◌, nat_lt, ℤ, Bool, true, false, List, [], ◌∷◌, refl, sym, ap, ◌∙◌, arith}
use Rattle.std.specs.Prelude.{nat_le}
use Rattle.std.specs.List.{list_any}
use Rattle.std.proofs.lemmas.Bool.Decides.{nat_tests}
use Rattle.pfc_world.specs.Tables.{Table}
use Rattle.pfc_semantics.specs.Displays.{Display}
use Rattle.pfc_semantics.specs.Programs.{Block}
use Rattle.pfc_semantics.specs.Store.{Store}
use Rattle.pfc_translation.specs.Sites.{is_accept}
use Rattle.pfc_cells.specs.Homes.{Homes}
use Rattle.pfc_cells.specs.Memory.{Entry, Entries}
use Rattle.pfc_standing_code.specs.Settings.{View, Setting}
use Rattle.pfc_representation.specs.Levels.{Facts, SeesThrough}
use Rattle.pfc_kept_calls.proofs.Caller.{same_number}

outside : (n k i : ℕ) → k ≡ 0 → (nat_le n i && nat_lt i (n + k)) ≡ false
outside n k i none = by (nat_le n i) refl
  where
    not_below : nat_le n i ≡ true → nat_lt i (n + k) ≡ false
    not_below le = grind (arith, nat_tests, le, none)

    by : (c : Bool) → nat_le n i ≡ c → (nat_le n i && nat_lt i (n + k)) ≡ false
    by false is = ap (λ (c : Bool). c && nat_lt i (n + k)) is
    by true is = ap (λ (c : Bool). c && nat_lt i (n + k)) is ∙ not_below is

-- it has none open
pub none_open : (b : Block) (accepts : List ℕ) → b.accepts ≡ 0 → ((i : ℕ) → list_any (λ j. j == i) accepts ≡ true → is_accept b i ≡ true) → accepts ≡ []
none_open b [] none own = refl
none_open b (i ∷ accepts) none own =
    absurd (let both : true ≡ false = sym (own i (ap (λ (c : Bool). c || list_any (λ j. j == i) accepts) (same_number i)))
    ∙ outside b.next b.accepts i none in cc)

pub none_met : (facts : Facts) (homes : Homes) (entries : Entries) (store : Store) (table : Table) (p : ℕ) (mine : List Entry) (w : ℤ) (display : Display)
    (g : Setting) (b : Block) (view : View) (others accepts meetings : List ℕ)
    → SeesThrough facts homes entries store table p mine w display g b view others accepts meetings → accepts ≡ [] → meetings ≡ []
none_met facts homes entries store table p mine w display g b view others [] [] is none = refl
none_met facts homes entries store table p mine w display g b view others [] (q ∷ meetings) is none = absurd is
none_met facts homes entries store table p mine w display g b view others (i ∷ accepts) meetings is none =
    absurd (let no : i ∷ accepts ≡ [] = none in cc)
