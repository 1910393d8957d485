-- Nobody else keeps the owner's activation, so a meeting leaves what the others see.
use Rattle.std.proofs.Common.{◌≡◌, ◌≢◌, ℕ, ◌<◌, ℤ, pos, Bool, true, false, List, [], ◌∷◌, get_or, Some, refl, sym, ap, ◌∙◌, subst, arith, inl, inr}
use Rattle.pfc_state.specs.Stands.{is_unfinished}
use Rattle.pfc_world.specs.Tables.{Table, at}
use Rattle.pfc_semantics.specs.Values.{Value, ordinal}
use Rattle.pfc_semantics.specs.Store.{Store, values_in}
use Rattle.pfc_semantics.specs.Configurations.{Activation, Activity, Config}
use Rattle.pfc_stacks.specs.Refs.{word_of}
use Rattle.pfc_stacks.specs.Stacks.{Stacks, stack_of, last_activation}
use Rattle.pfc_cells.specs.Homes.{Home, Homes}
use Rattle.pfc_cells.specs.Memory.{Entry, Entries, Lives, IsAmong}
use Rattle.pfc_machines.specs.declared.machine.Machine.{Machine}
use Rattle.pfc_machines.specs.declared.descriptors.Descriptor.{Descriptor}
use Rattle.pfc_machines.specs.Communications.{Communicating}
use Rattle.pfc_views.specs.Keeping.{IsLike}
use Rattle.pfc_views.proofs.Living.{is_living, own_of}
use Rattle.pfc_call_laws.specs.Calls.{first_home}
use Rattle.pfc_representation.specs.Levels.{Facts, program_in, LivingLevel, is_met_by, MayKeep, of_main, of_own, lent}
use Rattle.pfc_representation.specs.Callers.{AreCallers}
use Rattle.pfc_representation.specs.Holding.{Holders}
use Rattle.pfc_representation.specs.Processes.{ActivationsAre, RepresentsProcess}
use Rattle.pfc_representation.specs.Machines.{AreAlike}

some_same : {A : Type 0} (x y : A) → Some x ≡ Some y → x ≡ y
some_same x y h = cc

module _ (facts : Facts) (m : Machine) (c : Config) (homes : Homes) (entries : Entries) (alike : AreAlike facts homes entries m c) (q n : ℕ) (home : Home)
    (at_home : homes n ≡ Some home) (process : home.process ≡ q) (child : 0 < q) (awake : (s : ℕ) → is_met_by (at c.table.rows q) s → ⊥) where
  none_less : (j : ℕ) → 0 < j → j ≡ 0 → ⊥
  none_less j less is = grind (arith, less, is)

  not_main : 0 ≢ n
  not_main same =
      let one : first_home 0 0 ≡ home = some_same (first_home 0 0) home (sym alike.holds.main ∙ ap homes same ∙ at_home) in
      none_less q child (sym process ∙ ap (λ (h : Home). h.process) (sym one))

  not_mine : (p y : ℕ) → p ≢ q → IsAmong y (entries p) → y ≢ n
  not_mine p y apart among same =
      let living = is_living y (entries p) among in
      let cells = own_of (program_in facts) homes entries c.store m.stacks p living.entry home alike.holds.memory
      (ap homes (living.number ∙ same) ∙ at_home) living.living in
      apart (sym cells.process ∙ process)

  pub not_kept : (p : ℕ) (lenders : List ℕ) (mine : List Entry) (y : ℕ) → p ≢ q → mine ≡ entries p → MayKeep c.table entries p lenders mine y → y ≢ n
  not_kept _ _ _ _ apart same (of_main p lenders mine) = not_main
  not_kept _ _ _ _ apart same (of_own p lenders mine y among) = not_mine p y apart (subst (λ (es : List Entry). IsAmong y es) same among)
  not_kept _ _ _ _ apart same (lent p lenders mine y k r others there met inner) =
      not_kept r others (entries r) y (λ is. awake p (subst (λ j. is_met_by (at c.table.rows j) p) is met)) refl inner

  pub others_alike : (new : Store) → ((y : ℕ) → y ≢ n → values_in new y ≡ values_in c.store y) → (p : ℕ) → p ≢ q → (keeps : ℕ → Bool)
      → ((y : ℕ) → keeps y ≡ true → (lenders : List ℕ) × MayKeep c.table entries p lenders (entries p) y)
      → IsLike (program_in facts) keeps homes homes entries entries c.store new
  others_alike new values p apart keeps these =
      record {
        at_home = λ y h at. at;
        living = λ r e kept lives. lives;
        references = λ y k h t kept at laid. let may = these y kept in
            ap (λ (vs : List Value). get_or vs k (ordinal (pos 0))) (values y (not_kept p may.0 (entries p) y apart refl may.1));
      }

-- ## Main lives

main_among : (facts : Facts) (homes : Homes) (entries : Entries) (store : Store) (table : Table) (room : ℕ) (level : LivingLevel) (w : ℤ)
    (latest : Communicating) (xs : List Activation) (es : List Entry) → AreCallers facts homes entries store table 0 room level w latest xs es → IsAmong 0 es
main_among facts homes entries store table room level w latest [] es is = absurd is
main_among facts homes entries store table room level w latest (a ∷ xs) [] is = absurd is
main_among facts homes entries store table room level w latest (a ∷ []) (e ∷ []) is = inl (is.stands.number ∙ is.number refl)
main_among facts homes entries store table room level w latest (a ∷ []) (e ∷ f ∷ es) is = absurd is
main_among facts homes entries store table room level w latest (a ∷ b ∷ xs) (e ∷ []) is = absurd is
main_among facts homes entries store table room level w latest (a ∷ b ∷ xs) (e ∷ f ∷ es) (outer, v, earlier, called, within, others) =
    inr (main_among facts homes entries store table room outer v earlier (b ∷ xs) (f ∷ es) others)

pub main_lives : (facts : Facts) (homes : Homes) (entries : Entries) (store : Store) (stacks : Stacks) (table : Table) (h : Holders) (a : Activity)
    (d : Descriptor) → is_unfinished (at table.rows 0) ≡ true → RepresentsProcess facts homes entries store stacks table h 0 a d → Lives entries 0
main_lives facts homes entries store stacks table h a d unfinished is = by a.activations is.activations
  where
    by : (xs : List Activation) → ActivationsAre xs facts homes entries store stacks table h 0 a d → Lives entries 0
    by [] rests = absurd (let no : true ≡ false = sym unfinished ∙ rests.finished in (let none : ⊥ = cc in none))
    by (x ∷ xs) under = (
      0,
      main_among facts homes entries store table (stack_of stacks 0).room under.level (word_of (last_activation stacks 0)) d.communications a.activations
          (entries 0) under.stands.callers,
    )
