-- A path behind a path.
use Rattle.std.proofs.Common.{◌≡◌, ℕ, ◌+◌, List, [], ◌∷◌, ◌++◌, Option, refl, ap, subst, arith}
use Rattle.pfc_types.specs.Types.{Forms}
use Rattle.pfc_types.specs.declared.types.TypeId.{TypeId}
use Rattle.pfc_semantics.specs.Values.{Selector, path_of}
use Rattle.pfc_cells.specs.Shapes.{IsPath, here, into_element, into_field}

module _ (forms : Forms) where
  path_at : {t : Option TypeId} {path : List ℕ} {u : Option TypeId} {o p : ℕ} → o ≡ p → IsPath forms t path u o → IsPath forms t path u p
  path_at {t} {path} {u} e h = subst (λ n. IsPath forms t path u n) e h

  pub path_joined : {t : Option TypeId} {path : List ℕ} {u : Option TypeId} {o : ℕ} {more : List ℕ} {v : Option TypeId} {p : ℕ} → IsPath forms t path u o →
      IsPath forms u more v p → IsPath forms t (path ++ more) v (o + p)
  path_joined (here t) h = path_at (omega arith) h
  path_joined (into_element t over element u low high i path o form below rest) h =
      path_at (omega arith) (into_element t over element _ low high i _ _ form below (path_joined rest h))
  path_joined (into_field t w u x fields i path o form there rest) h =
      path_at (omega arith) (into_field t w _ x fields i _ _ form there (path_joined rest h))

pub path_of_joined : (xs ys : List Selector) → path_of (xs ++ ys) ≡ path_of xs ++ path_of ys
path_of_joined [] ys = refl
path_of_joined (x ∷ xs) ys = ap (λ l. x.place ∷ l) (path_of_joined xs ys)
