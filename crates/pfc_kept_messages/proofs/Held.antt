-- What a process holds that waits for no monitor and no resource.
use Rattle.std.proofs.Common.{◌≡◌, ℕ, true, false, List, get_or, sym, ◌∙◌, inl, inr}
use Rattle.pfc_state.specs.Stands.{Stand}
use Rattle.pfc_semantics.specs.Configurations.{Mark, plain, of_monitor, of_resource, Activation}
use Rattle.pfc_standing_code.specs.Settings.{Trial}
use Rattle.pfc_representation.specs.Holding.{Holders, waits_for_monitor, waits_for_resource, HoldsFor, Holds}

-- it waits for no monitor and no resource
pub record WaitsForNone (owners : List ℕ) (s : Stand) : Type 0 where
  pub monitors : (m : ℕ) → waits_for_monitor owners m s ≡ false
  pub resources : (r : ℕ) → waits_for_resource r s ≡ false

holds_for : (h : Holders) (p : ℕ) (s s' : Stand) (mark : Mark) → WaitsForNone h.owners s → HoldsFor h p s mark → HoldsFor h p s' mark
holds_for h p s s' plain none is = is
holds_for h p s s' (of_monitor m) none (inl holds) = inl holds
holds_for h p s s' (of_monitor m) none (inr waits) = absurd (let no : false ≡ true = sym (none.monitors m) ∙ waits in cc)
holds_for h p s s' (of_resource r) none (inl holds) = inl holds
holds_for h p s s' (of_resource r) none (inr waits) = absurd (let no : false ≡ true = sym (none.resources r) ∙ waits in cc)

-- so it holds all in which it is, wherever it stands then
pub holds_anew : (h : Holders) (p : ℕ) (s s' : Stand) (trial : Trial) (xs : List Activation) → WaitsForNone h.owners s → Holds h p s trial xs
    → Holds h p s' trial xs
holds_anew h p s s' trial xs none is =
    record { entered = λ k d below. holds_for h p s s' (get_or xs k d).mark none (is.entered k d below); scanned = is.scanned }
