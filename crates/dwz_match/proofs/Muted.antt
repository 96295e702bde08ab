-- No top that looks across files and a common file go over has a language.
use Rattle.std.proofs.Common.{◌≡◌, ℕ, ℤ, suc, ◌+◌, ◌==◌, Bool, true, false, List, [], ◌∷◌, ◌++◌, length, map, Option, None, refl, sym, ap, ◌∙◌, inl, inr}
use Rattle.dwz_def_reading.specs.Documents.{Attr, Compile, Entries, Kind, OfType, Partial, first_named, language, number_of_attr}
use Rattle.dwz_def_reading.specs.Lists.{In}
use Rattle.dwz_def_reading.specs.Trees.{End, Entry}
use Rattle.dwz_model.proofs.ListFacts.{in_cases}
use Rattle.dwz_def_tops.specs.Spaces.{tops_under}
use Rattle.dwz_def_tops.specs.Spots.{ASpace, ATop, FileUnit, Nothing, Row, SpaceName, EntryName, Top, name_of, row_below, row_in, row_tops, top_count, tops_from, tops_of}
use Rattle.dwz_def_tops.proofs.RowLemmas.{RowIs, row_is}
use Rattle.dwz_def_taken.specs.Beside.{Reused, as_one, look_units, mute_attr, muted}

mute_first : (attrs : List (Attr EntryName)) → first_named 0x13 (map mute_attr attrs) ≡ None
unfolding first_named
mute_first [] = refl
mute_first (a ∷ attrs) = go (a.name == 0x13) refl (mute_first attrs) where
  go : (b : Bool) → (a.name == 0x13) ≡ b → first_named 0x13 (map mute_attr attrs) ≡ None → first_named 0x13 (map mute_attr (a ∷ attrs)) ≡ None
  go true q more = rw (q) more
  go false q more = rw (q, q) more

mute_language : (f : FileUnit EntryName) → language (muted f).unit ≡ None
mute_language f = ap number_of_attr (mute_first f.unit.root.attrs)

module _ (file unit : ℕ) (tongue : Option ℤ) where
  row_language : (spaces : List SpaceName) (n : ℕ) (row : Row) (f : Entries EntryName) → RowIs file unit tongue spaces n row f → (t : Top) → In t (row_tops row) → t.language ≡ tongue
  unfolding row_tops
  row_language spaces n Nothing f h t is = absurd is
  row_language spaces n (ATop u row) (Entry e f g) h t (inl x) = ap (λ (w : Top). w.language) (sym x) ∙ ap (λ (w : Top). w.language) (sym h.1)
  row_language spaces n (ATop u row) (Entry e f g) h t (inr r) = row_language spaces (suc n) row g h.2 t r
  row_language spaces n (ASpace d inner row) (Entry e f g) h t is = elim (in_cases t (row_tops inner) (row_tops row) is) [
    | inl a ↦ row_language (spaces ++ name_of h.0 e ∷ []) n inner f h.3 t a
    | inr b ↦ row_language spaces (n + tops_under f) row g h.4 t b
  ]
  row_language spaces n (ATop u row) End h t is = absurd h
  row_language spaces n (ASpace d inner row) End h t is = absurd h

below_language : (f : FileUnit EntryName) (s n : ℕ) (k : Kind EntryName) (t : Top) → In t (row_tops (row_below f.file s n f.unit k)) → t.language ≡ language f.unit
unfolding row_tops
below_language f s n Compile t is =
    row_language f.file s (language f.unit) [] n (row_in f.file s (language f.unit) [] n f.unit.below) f.unit.below (row_is f.file s (language f.unit) [] n f.unit.below) t is
below_language f s n (OfType signature main) t is = absurd is
below_language f s n Partial t is = absurd is

from_language : (s n : ℕ) (units : List (FileUnit EntryName)) (t : Top) → In t (tops_from s n units) → ((f : FileUnit EntryName) → In f units → language f.unit ≡ None) → t.language ≡ None
unfolding tops_from
from_language s n [] t is none = absurd is
from_language s n (f ∷ units) t is none =
    let m = n + top_count f.unit.kind f.unit.below in
    elim (in_cases t (row_tops (row_below f.file s n f.unit f.unit.kind)) (tops_from (suc s) m units) is) [
      | inl a ↦ below_language f s n f.unit.kind t a ∙ none f (inl refl)
      | inr b ↦ from_language (suc s) m units t b (λ g there. none g (inr there))
    ]

map_muted : (units : List (FileUnit EntryName)) (f : FileUnit EntryName) → In f (map muted units) → language f.unit ≡ None
map_muted [] f is = absurd is
map_muted (g ∷ units) f (inl e) = ap (λ (w : FileUnit EntryName). language w.unit) (sym e) ∙ mute_language g
map_muted (g ∷ units) f (inr r) = map_muted units f r

pub no_language : (r : Reused) (t : Top) → In t (tops_of (look_units r)) → t.language ≡ None
no_language r t is = from_language 0 0 (look_units r) t is (λ f there. elim (in_cases f (map muted r.units) _ there) [
  | inl a ↦ map_muted r.units f a
  | inr b ↦ elim b [ inl e ↦ ap (λ (w : FileUnit EntryName). language w.unit) (sym e) ∙ mute_language (as_one r.file (length r.units) r.commons) | inr n ↦ absurd n ]
])
