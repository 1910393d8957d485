-- What is seen stays under changes that keep it.
use Rattle.std.proofs.Common.{◌≡◌, ℕ, ℤ, pos, Bool, true, List, [], ◌∷◌, get_or, slice_get, Option, Some, sym, ap, ap₂, ◌∙◌, subst}
use Rattle.pfc_types.specs.declared.types.TypeId.{TypeId}
use Rattle.pfc_types.specs.declared.scope.Meaning.{Meaning}
use Rattle.pfc_types.specs.declared.scope.Meaning.TheVariants.{Variable}
use Rattle.pfc_semantics.specs.Values.{Location}
use Rattle.pfc_semantics.specs.Store.{Store, variable}
use Rattle.pfc_semantics.specs.Displays.{Spot, Display, frame_of, own_location}
use Rattle.pfc_semantics.specs.Programs.{Block, Program}
use Rattle.pfc_translation.specs.Sites.{links_to, layout_with, place_of}
use Rattle.pfc_stacks.specs.declared.refs.Ref.{Ref}
use Rattle.pfc_stacks.specs.Stacks.{link_place}
use Rattle.pfc_cells.specs.Homes.{Home, Homes, Lies, layout_at}
use Rattle.pfc_cells.specs.Memory.{Entries, Lives}
use Rattle.pfc_standing_code.specs.Settings.{View}
use Rattle.pfc_views.specs.Views.{IsKept, AreLinked, IsCell, IsReferenceCell, block_site, IsNamed, Sees}
use Rattle.pfc_views.specs.Keeping.{IsLike}
use Rattle.pfc_views.proofs.Living.{lives, is_living}
use Rattle.pfc_views.proofs.Links.{linked_is_kept}

some_same : {A : Type 0} (x y : A) → Some x ≡ Some y → x ≡ y
some_same x y h = cc

module _ (g : Program) (keeps : ℕ → Bool) (homes homes' : Homes) (entries entries' : Entries) (store store' : Store)
    (like : IsLike g keeps homes homes' entries entries' store store') where
  pub lies_still : (l : Location) (t : Option TypeId) (r : Ref) → Lies g homes l t r → Lies g homes' l t r
  lies_still l t r h =
      let is = h.is in
      record {
        home = h.home;
        behind = h.behind;
        is = record { at = like.at_home l.activation h.home is.at; meaning = is.meaning; laid = is.laid; variable = is.variable; own = is.own; path = is.path };
        place = h.place;
      }

  abbrev pub kept_still : (w : ℤ) (a : ℕ) → IsKept homes entries keeps w a → IsKept homes' entries' keeps w a
  kept_still w a h =
      record {
        home = h.home;
        at = like.at_home a h.home h.at;
        process = h.process;
        entry = h.entry;
        living = like.living h.process h.entry (ap keeps h.number ∙ h.kept) h.living;
        number = h.number;
        kept = h.kept;
        word = h.word;
      }

  pub live_still : (a : ℕ) → keeps a ≡ true → Lives entries a → Lives entries' a
  live_still a kept h =
      let one = is_living a (entries h.0) h.1 in
      subst (λ (n : ℕ). Lives entries' n) one.number (lives entries' h.0 one.entry (like.living h.0 one.entry (ap keeps one.number ∙ kept) one.living))

  pub linked_still : (w : ℤ) (chain : List ℕ) → AreLinked homes entries keeps w chain → AreLinked homes' entries' keeps w chain
  linked_still w [] h = tt
  linked_still w (a ∷ chain) h = (kept_still w a h.0, linked_still (get_or h.0.entry.own link_place (pos 0)) chain h.1)

  module _ (display : Display) (b : Block) (accepts : List ℕ) (w : ℤ) (chain : List ℕ) (view : View)
      (sees : Sees g homes entries store keeps display b accepts w chain view) where
    -- an activation that static links lead to is kept, and has its home in both
    home_still : (l a : ℕ) (home : Home) → slice_get chain l ≡ Some a → homes' a ≡ Some home → homes a ≡ Some home
    home_still l a home there at =
        let is = linked_is_kept homes entries keeps w chain l a sees.links there in
        is.1.at ∙ ap Some (some_same is.1.home home (sym (like.at_home a is.1.home is.1.at) ∙ at))

    is_kept : (l a : ℕ) → slice_get chain l ≡ Some a → keeps a ≡ true
    is_kept l a there = (let is = linked_is_kept homes entries keeps w chain l a sees.links there in is.1.kept)

    cell_still : (a d : ℕ) → IsCell g homes a d → IsCell g homes' a d
    cell_still a d h = record { home = h.home; at = like.at_home a h.home h.at; place = h.place; meaning = h.meaning; laid = h.laid; first = h.first }

    reference_still : (l a d n : ℕ) → slice_get chain l ≡ Some a → IsReferenceCell g homes store a d n → IsReferenceCell g homes' store' a d n
    reference_still l a d n there h =
        record {
          home = h.home;
          at = like.at_home a h.home h.at;
          place = h.place;
          t = h.t;
          laid = h.laid;
          first = h.first;
          target = h.target;
          holds = like.references a h.place h.home h.t (is_kept l a there) h.at h.laid ∙ h.holds;
          word = h.word;
          lies = lies_still h.target (Some h.t) h.word h.lies;
          number = h.number;
        }

    named_still : (v : Spot) (meaning : Meaning) → slice_get (layout_with (block_site g b) v.scope) (place_of (block_site g b) v) ≡ Some meaning
        → IsNamed g homes store keeps display b chain view v meaning → IsNamed g homes' store' keeps display b chain view v meaning
    named_still v meaning laid h =
        record {
          linked = h.linked;
          home = h.home;
          at = like.at_home (frame_of display v.scope).activation h.home h.at;
          place = h.place;
          layout = h.layout;
          reached = h.reached;
          refers = h.refers;
          target = λ t is. (
              let old = h.target t is in
              let there : slice_get (layout_at g h.home) (own_location display v).variable ≡ Some (Variable t true) =
              ap₂ (λ xs k. slice_get xs k) h.layout h.place ∙ laid ∙ ap Some is in
              let same : variable store' (own_location display v) ≡ variable store (own_location display v) =
              like.references (frame_of display v.scope).activation (own_location display v).variable h.home t
              (is_kept (links_to (block_site g b) v.scope) _ h.linked) h.at there in
              (old.0, old.1, same ∙ old.2, old.3, lies_still old.0 (Some t) old.1 old.4, old.5));
        }

    pub sees_still : Sees g homes' entries' store' keeps display b accepts w chain view
    sees_still =
        record {
          live = λ a kept. live_still a kept (sees.live a kept);
          links = linked_still w chain sees.links;
          firsts = λ l a home there at. sees.firsts l a home there (home_still l a home there at);
          cells = λ l d reached. (let old = sees.cells l d reached in (old.0, old.1, cell_still old.0 d old.2, old.3));
          references = λ l d reached refers. (let old =
              sees.references l d reached refers in (old.0, old.1, reference_still l old.0 d (view.held l d) old.1 old.2));
          names = λ v meaning known own laid is. named_still v meaning laid (sees.names v meaning known own laid is);
        }
