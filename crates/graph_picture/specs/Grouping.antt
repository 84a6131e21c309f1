-- How clusters grow. No public contract speaks of it.
use Rattle.std.specs.Prelude.{◌≡◌, ℕ, List, [], ◌∷◌, ◌++◌, Option, Some, None, slice_index_or, slice_set}
use Rattle.graph_picture.specs.declared.clusters.Cluster.{Cluster}

-- A number was put into the cluster of this index, or into a new one behind all others.
abbrev pub PutsNumber : ℕ → List Cluster → Option ℕ → List Cluster → Type 0
PutsNumber n old (Some m) new =
    (c : Cluster) × (c ≡ slice_index_or old m c)
    × (new ≡ slice_set old m (record { first = c.first; others = c.others ++ n ∷ [] }))
PutsNumber n old None new = new ≡ old ++ record { first = n; others = [] } ∷ []
