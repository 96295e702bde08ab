-- Numbers of entries, the places of these, and the names of the places.
use Rattle.std.proofs.Common.{◌≡◌, ℕ, zero, suc, ◌<◌, List, [], ◌∷◌, ◌++◌, length, map, Some, slice_get, refl, ap, ◌∙◌, arith}
use Rattle.std.specs.Prelude.{slice_index}
use Rattle.dwz_def_reading.specs.Units.{RawUnit}
use Rattle.dwz_def_tops.specs.Spots.{EntryName}
use Rattle.dwz_graph.specs.Rows.{AreNamed, AreTargets, row_names}
use Rattle.dwz_graph_resolve.proofs.PlaceLemmas.{places_many}
use Rattle.dwz_graph_resolve.specs.Resolved.{AreEntries, place_at, places}

pub places_target : (raw : List RawUnit) (numbers ps more : List ℕ) → AreEntries raw numbers → map (place_at raw) numbers ≡ ps ++ more → AreTargets raw numbers ps
places_target raw numbers [] more low is = tt
places_target raw [] (p ∷ ps) more low is = absurd cc
places_target raw (i ∷ numbers) (p ∷ ps) more low is =
    let first : place_at raw i ≡ p = cc in
    let rest : map (place_at raw) numbers ≡ ps ++ more = cc in
    (low.0, first, places_target raw numbers ps more low.1 rest)

name_found : (name : ℕ → EntryName) (ps : List ℕ) (i : ℕ) → i < length ps → slice_get (map name ps) i ≡ Some (name (slice_index ps i))
name_found name [] i l = absurd (omega arith)
name_found name (p ∷ ps) zero l = refl
name_found name (p ∷ ps) (suc i) l = name_found name ps i (omega arith)

pub targets_named : (raw : List RawUnit) (name : ℕ → EntryName) (numbers ps : List ℕ) → AreTargets raw numbers ps → AreNamed (row_names name raw) numbers (map name ps)
targets_named raw name numbers [] h = tt
targets_named raw name [] (p ∷ ps) h = absurd h
targets_named raw name (i ∷ numbers) (p ∷ ps) h =
    (name_found name (places raw) i (omega (arith, h.0, places_many raw)) ∙ ap (λ (n : ℕ). Some (name n)) h.1, targets_named raw name numbers ps h.2)
