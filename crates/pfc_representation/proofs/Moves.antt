-- What an action of one process leaves alone.
use Rattle.std.proofs.Common.{◌≡◌, ◌≢◌, ℕ, Bool, Option, Some, refl, ap, ◌∙◌, subst}
use Rattle.pfc_types.specs.declared.types.TypeId.{TypeId}
use Rattle.pfc_state.specs.Stands.{Stand, Is_ready}
use Rattle.pfc_world.specs.Tables.{Table, at}
use Rattle.pfc_semantics.specs.Values.{Value, Location}
use Rattle.pfc_semantics.specs.Store.{Store, stored}
use Rattle.pfc_stacks.specs.declared.refs.Ref.{Ref}
use Rattle.pfc_stacks.specs.Stacks.{Stacks}
use Rattle.pfc_cells.specs.Homes.{Homes, Lies}
use Rattle.pfc_cells.specs.Memory.{Entries}
use Rattle.pfc_machines.specs.declared.descriptors.Descriptor.{Descriptor}
use Rattle.pfc_machines.specs.Quiet.{tried_in}
use Rattle.pfc_views.specs.Keeping.{IsLike}
use Rattle.pfc_views.proofs.Changes.{written}
use Rattle.pfc_representation.specs.Levels.{Facts, program_in, is_met_by}
use Rattle.pfc_representation.specs.Holding.{Holders}
use Rattle.pfc_representation.specs.Keeping.{IsLender, meets, meets_lender, IsUntouched, IsLeftAlone, OnlyMoves}

ready_unmet : (stand : Stand) (p : ℕ) → stand ≡ Is_ready → is_met_by stand p → ⊥
ready_unmet stand p h met = (let none : is_met_by Is_ready p = subst (λ (s : Stand). is_met_by s p) h met in none)

module _ (facts : Facts) (p : ℕ) (homes : Homes) (entries : Entries) (store : Store) (stacks stacks' : Stacks) (table table' : Table) (h : Holders)
    (moves : OnlyMoves p stacks stacks' table table') where
  -- who lends is not the one who acts
  not_acting : (q r : ℕ) → IsLender table q r → r ≢ p
  not_acting _ _ (meets q r met) same = ready_unmet (at table.rows r) q (ap (λ n. at table.rows n) same ∙ moves.acting) met
  not_acting _ _ (meets_lender q s r met inner) same = not_acting s r inner same

  -- whatever becomes of the store, as long as what is kept stands for what it stood for
  untouched_by : (q : ℕ) → q ≢ p → (store' : Store) → ((keeps : ℕ → Bool) → IsLike (program_in facts) keeps homes homes entries entries store store')
      → IsUntouched facts q homes homes entries entries store store' stacks stacks' table table'
  untouched_by q apart store' like =
      record {
        like = λ keeps these. like keeps;
        lenders = λ r lender. (moves.rows r (not_acting q r lender), refl);
        stack = moves.others q apart;
        entries_same = refl;
        row = moves.rows q apart;
      }

  alone_by : (q : ℕ) (d : Descriptor) → q ≢ p → ((r : ℕ) → tried_in d.scan ≡ Some r → r ≢ p) → (store' : Store)
      → ((keeps : ℕ → Bool) → IsLike (program_in facts) keeps homes homes entries entries store store')
      → IsLeftAlone facts q d homes homes entries entries store store' stacks stacks' table table' h h
  alone_by q d apart tried store' like =
      record {
        at_home = λ a home at. at;
        untouched = untouched_by q apart store' like;
        tried = λ r is. untouched_by r (tried r is) store' like;
        holds = record { owners = refl; monitors = λ m held. held; resources = λ r held. held };
      }

  pub moved_alone : (q : ℕ) (d : Descriptor) → q ≢ p → ((r : ℕ) → tried_in d.scan ≡ Some r → r ≢ p)
      → IsLeftAlone facts q d homes homes entries entries store store stacks stacks' table table' h h
  moved_alone q d apart tried = alone_by q d apart tried store
      (λ keeps. record { at_home = λ a home at. at; living = λ r e kept there. there; references = λ a k home t kept at laid. refl })

  pub written_alone : (q : ℕ) (d : Descriptor) → q ≢ p → ((r : ℕ) → tried_in d.scan ≡ Some r → r ≢ p)
      → (l : Location) (t : Option TypeId) (r : Ref) (v : Value) → Lies (program_in facts) homes l t r
      → IsLeftAlone facts q d homes homes entries entries store (stored store l v) stacks stacks' table table' h h
  written_alone q d apart tried l t r v lies = alone_by q d apart tried (stored store l v)
      (λ keeps. written (program_in facts) keeps homes entries store l t r v lies)
