-- How texts are held in memory.
use Rattle.std.specs.Prelude.{◌≡◌, ℕ, ◌+◌, ◌^◌, ◌<◌, ◌≤◌, List, [], ◌∷◌, drop, length, map, take}
use Rattle.std.specs.Vec.{vec_capacity, vec_len}
use Rattle.dwz_def_reading.specs.TextRows.{AreDifferent, text_section}
use Rattle.dwz_pool.specs.declared.rows.Place.{Place}
use Rattle.dwz_pool.specs.declared.rows.Rows.{Rows}

-- the bytes at a place
abbrev pub bytes_at : List ℕ → Place → List ℕ
bytes_at section place = take place.len (drop place.start section)

abbrev pub texts_in : List ℕ → List Place → List (List ℕ)
texts_in section places = map (bytes_at section) places

-- the texts, in order
abbrev pub texts_of : Rows → List (List ℕ)
texts_of rows = texts_in rows.section.items rows.places.items

-- each text begins behind the zero byte of the one before it, the first at a place, and that of the last is the last before the end
abbrev pub FollowEachOther : ℕ → ℕ → List Place → Type 0
FollowEachOther at end [] = at ≡ end
FollowEachOther at end (place ∷ places) = (place.start ≡ at) × FollowEachOther (at + (place.len + 1)) end places

pub record HasTexts (rows : Rows) : Type 0 where
  pub follow : FollowEachOther 0 (length rows.section.items) rows.places.items
  pub spelled : rows.section.items ≡ text_section (texts_of rows)
  pub different : AreDifferent (texts_of rows)
  pub few : length rows.places.items < 2 ^ 32

-- there is room for a text of that length
abbrev pub HasRoom : Rows → ℕ → Type 0
HasRoom rows size = (vec_len rows.section + (size + 1) ≤ vec_capacity rows.section) × (vec_len rows.places + 1 ≤ vec_capacity rows.places)

-- the texts stay
abbrev pub AreSame : Rows → Rows → Type 0
AreSame old new = (new.section.items ≡ old.section.items) × (new.places.items ≡ old.places.items)
