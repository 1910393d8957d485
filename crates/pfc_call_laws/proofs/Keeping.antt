-- More activations may be kept.
use Rattle.std.proofs.Common.{◌≡◌, ℕ, ℤ, pos, Bool, true, List, [], ◌∷◌, get_or}
use Rattle.pfc_types.specs.declared.scope.Meaning.{Meaning}
use Rattle.pfc_semantics.specs.Store.{Store}
use Rattle.pfc_semantics.specs.Displays.{Spot, Display}
use Rattle.pfc_semantics.specs.Programs.{Block, Program}
use Rattle.pfc_stacks.specs.Stacks.{link_place}
use Rattle.pfc_cells.specs.Homes.{Homes}
use Rattle.pfc_cells.specs.Memory.{Entries, Lives}
use Rattle.pfc_standing_code.specs.Settings.{View}
use Rattle.pfc_views.specs.Views.{IsKept, AreLinked, IsNamed, Sees}

module _ (keeps more : ℕ → Bool) (among : (x : ℕ) → keeps x ≡ true → more x ≡ true) (homes : Homes) (entries : Entries) where
  abbrev pub kept_too : (w : ℤ) (x : ℕ) → IsKept homes entries keeps w x → IsKept homes entries more w x
  kept_too w x h =
      record {
        home = h.home;
        at = h.at;
        process = h.process;
        entry = h.entry;
        living = h.living;
        number = h.number;
        kept = among x h.kept;
        word = h.word;
      }

  pub linked_too : (w : ℤ) (chain : List ℕ) → AreLinked homes entries keeps w chain → AreLinked homes entries more w chain
  linked_too w [] h = tt
  linked_too w (x ∷ chain) h = (kept_too w x h.0, linked_too (get_or h.0.entry.own link_place (pos 0)) chain h.1)

  module _ (g : Program) (store : Store) (display : Display) (b : Block) (accepts : List ℕ) (w : ℤ) (chain : List ℕ) (view : View)
      (sees : Sees g homes entries store keeps display b accepts w chain view)
      (living : (a : ℕ) → more a ≡ true → Lives entries a) where
    named_too : (v : Spot) (meaning : Meaning) → IsNamed g homes store keeps display b chain view v meaning
        → IsNamed g homes store more display b chain view v meaning
    named_too v meaning h =
        record {
          linked = h.linked;
          home = h.home;
          at = h.at;
          place = h.place;
          layout = h.layout;
          reached = h.reached;
          refers = h.refers;
          target = λ t is. (let one = h.target t is in (one.0, one.1, one.2, among one.0.activation one.3, one.4, one.5));
        }

    pub sees_too : Sees g homes entries store more display b accepts w chain view
    sees_too =
        record {
          live = living;
          links = linked_too w chain sees.links;
          firsts = sees.firsts;
          cells = sees.cells;
          references = sees.references;
          names = λ v meaning known own laid is. named_too v meaning (sees.names v meaning known own laid is);
        }
