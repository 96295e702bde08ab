-- A file's own entries among those that are numbered beside a common file.
use Rattle.std.proofs.Common.{◌≡◌, ℕ, zero, suc, ◌+◌, ◌-◌, ◌<◌, List, [], ◌∷◌, map, drop, take, Option, None, Some, nat_lt, refl, ap, ◌∙◌, arith}
use Rattle.std.specs.Prelude.{slice_index, slice_range}
use Rattle.std.proofs.lemmas.Bool.{cond-false, cond-true, le-ltb, lt-ltb}
use Rattle.dwz_def_reading.specs.Meanings.{Common}
use Rattle.dwz_def_reading.specs.Units.{RawUnit, entries_in}
use Rattle.dwz_graph_resolve.specs.Resolved.{AreEntries, place_at}
use Rattle.dwz_graph_resolve.specs.Surroundings.{AreAmong, entries_among, place_among}

-- ---- a file's own entry

pub own_place : (common : Option (Common ℕ)) (raw : List RawUnit) (i : ℕ) → i < entries_in raw → place_among common raw i ≡ place_at raw i
own_place None raw i lt = refl
own_place (Some c) raw i lt =
    cond-true (nat_lt i (entries_in raw)) (place_at raw i) (c.place (slice_index c.entries (i - entries_in raw))) (lt-ltb i (entries_in raw) lt)

pub own_within : (common : Option (Common ℕ)) (raw : List RawUnit) (i : ℕ) → i < entries_in raw → i < entries_among common raw
own_within None raw i lt = lt
own_within (Some c) raw i lt = omega (arith, lt)

pub own_places : (common : Option (Common ℕ)) (raw : List RawUnit) (numbers : List ℕ) → AreEntries raw numbers → map (place_among common raw) numbers ≡ map (place_at raw) numbers
own_places common raw [] h = refl
own_places common raw (i ∷ numbers) h = λ k. own_place common raw i h.0 k ∷ own_places common raw numbers h.1 k

pub own_all : (common : Option (Common ℕ)) (raw : List RawUnit) (numbers : List ℕ) → AreEntries raw numbers → AreAmong common raw numbers
own_all common raw [] h = tt
own_all common raw (i ∷ numbers) h = (own_within common raw i h.0, own_all common raw numbers h.1)

-- those of a part
pub entries_drop : (raw : List RawUnit) (k : ℕ) (numbers : List ℕ) → AreEntries raw numbers → AreEntries raw (drop k numbers)
entries_drop raw zero numbers h = h
entries_drop raw (suc k) [] h = h
entries_drop raw (suc k) (i ∷ numbers) h = entries_drop raw k numbers h.1

pub entries_take : (raw : List RawUnit) (k : ℕ) (numbers : List ℕ) → AreEntries raw numbers → AreEntries raw (take k numbers)
entries_take raw zero numbers h = tt
entries_take raw (suc k) [] h = tt
entries_take raw (suc k) (i ∷ numbers) h = (h.0, entries_take raw k numbers h.1)

pub own_range : (common : Option (Common ℕ)) (raw : List RawUnit) (numbers : List ℕ) (from to : ℕ) → AreEntries raw numbers
    → map (place_among common raw) (slice_range numbers from to) ≡ map (place_at raw) (slice_range numbers from to)
own_range common raw numbers from to h = own_places common raw (slice_range numbers from to) (entries_take raw (to - from) (drop from numbers) (entries_drop raw from numbers h))

-- ---- an entry of the common file

pub common_place : (c : Common ℕ) (raw : List RawUnit) (j p : ℕ) → slice_index c.entries j ≡ p → place_among (Some c) raw (entries_in raw + j) ≡ c.place p
common_place c raw j p is =
    let i = entries_in raw + j in
    let back : i - entries_in raw ≡ j = omega arith in
    cond-false (nat_lt i (entries_in raw)) (place_at raw i) (c.place (slice_index c.entries (i - entries_in raw))) (le-ltb i (entries_in raw) (omega arith))
    ∙ ap (λ (k : ℕ). c.place (slice_index c.entries k)) back ∙ ap c.place is
