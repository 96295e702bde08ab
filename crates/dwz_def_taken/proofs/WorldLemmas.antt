-- Tops of files that are alike there are alike across files and a finished common file too.
use Rattle.std.proofs.Common.{◌≡◌, ℕ, ℤ, zero, suc, ◌+◌, ◌==◌, Bool, true, false, List, [], ◌∷◌, ◌++◌, length, map, Option, None, refl, sym, ap, subst, ◌∙◌, inl, inr}
use Rattle.dwz_def_reading.specs.Documents.{Attr, Compile, Entries, Kind, OfType, Partial, first_named, language, number_of_attr}
use Rattle.dwz_def_reading.specs.Lists.{In}
use Rattle.dwz_def_reading.specs.Trees.{End, Entry}
use Rattle.dwz_def_reading.proofs.ListFacts.{in_cases}
use Rattle.dwz_def_tops.specs.Spaces.{tops_under}
use Rattle.dwz_def_tops.specs.Alike.{Alike, Look, Movable, SameTop}
use Rattle.dwz_def_tops.specs.Spots.{ASpace, ATop, FileUnit, Nothing, Row, SpaceName, EntryName, Top, name_of, row_below, row_in, row_tops, top_count, tops_from, tops_of}
use Rattle.dwz_def_tops.proofs.AlikeLooks.{look_in, look_out}
use Rattle.dwz_def_tops.proofs.Relations.{step_top}
use Rattle.dwz_def_tops.proofs.RowLemmas.{RowIs, row_is}
use Rattle.dwz_def_tops.proofs.Targets.{Inside, inside}
use Rattle.dwz_def_tops.proofs.TopNumbers.{tops_numbers}
use Rattle.dwz_def_taken.specs.Beside.{Reused, as_one, look_units, mute_attr, muted}
use Rattle.dwz_def_taken.specs.Laws.{IsReused}
use Rattle.dwz_def_taken.proofs.LookTops.{LikeIn, as_like, like_there, own_look}
use Rattle.dwz_def_taken.proofs.PlaceLemmas.{whole}

-- ---- no unit that looks go over has a language

mute_first : (attrs : List (Attr EntryName)) → first_named 0x13 (map mute_attr attrs) ≡ None
unfolding first_named
mute_first [] = refl
mute_first (a ∷ attrs) = go (a.name == 0x13) refl (mute_first attrs) where
  go : (b : Bool) → (a.name == 0x13) ≡ b → first_named 0x13 (map mute_attr attrs) ≡ None → first_named 0x13 (map mute_attr (a ∷ attrs)) ≡ None
  go true q more = rw (q) more
  go false q more = rw (q, q) more

mute_language : (f : FileUnit EntryName) → language (muted f).unit ≡ None
mute_language f = ap number_of_attr (mute_first f.unit.root.attrs)

module _ (file unit : ℕ) (tongue : Option ℤ) where
  row_language : (spaces : List SpaceName) (n : ℕ) (row : Row) (f : Entries EntryName) → RowIs file unit tongue spaces n row f → (t : Top) → In t (row_tops row) → t.language ≡ tongue
  unfolding row_tops
  row_language spaces n Nothing f h t is = absurd is
  row_language spaces n (ATop u row) (Entry e f g) h t (inl x) = ap (λ (w : Top). w.language) (sym x) ∙ ap (λ (w : Top). w.language) (sym h.1)
  row_language spaces n (ATop u row) (Entry e f g) h t (inr r) = row_language spaces (suc n) row g h.2 t r
  row_language spaces n (ASpace d inner row) (Entry e f g) h t is = elim (in_cases t (row_tops inner) (row_tops row) is) [
    | inl a ↦ row_language (spaces ++ name_of h.0 e ∷ []) n inner f h.3 t a
    | inr b ↦ row_language spaces (n + tops_under f) row g h.4 t b
  ]
  row_language spaces n (ATop u row) End h t is = absurd h
  row_language spaces n (ASpace d inner row) End h t is = absurd h

below_language : (f : FileUnit EntryName) (s n : ℕ) (k : Kind EntryName) (t : Top) → In t (row_tops (row_below f.file s n f.unit k)) → t.language ≡ language f.unit
unfolding row_tops
below_language f s n Compile t is =
    row_language f.file s (language f.unit) [] n (row_in f.file s (language f.unit) [] n f.unit.below) f.unit.below (row_is f.file s (language f.unit) [] n f.unit.below) t is
below_language f s n (OfType signature main) t is = absurd is
below_language f s n Partial t is = absurd is

from_language : (s n : ℕ) (units : List (FileUnit EntryName)) (t : Top) → In t (tops_from s n units) → ((f : FileUnit EntryName) → In f units → language f.unit ≡ None) → t.language ≡ None
unfolding tops_from
from_language s n [] t is none = absurd is
from_language s n (f ∷ units) t is none =
    let m = n + top_count f.unit.kind f.unit.below in
    elim (in_cases t (row_tops (row_below f.file s n f.unit f.unit.kind)) (tops_from (suc s) m units) is) [
      | inl a ↦ below_language f s n f.unit.kind t a ∙ none f (inl refl)
      | inr b ↦ from_language (suc s) m units t b (λ g there. none g (inr there))
    ]

map_muted : (units : List (FileUnit EntryName)) (f : FileUnit EntryName) → In f (map muted units) → language f.unit ≡ None
map_muted [] f is = absurd is
map_muted (g ∷ units) f (inl e) = ap (λ (w : FileUnit EntryName). language w.unit) (sym e) ∙ mute_language g
map_muted (g ∷ units) f (inr r) = map_muted units f r

module _ (r : Reused) (re : IsReused r) where
  no_language : (t : Top) → In t (tops_of (look_units r)) → t.language ≡ None
  no_language t is = from_language 0 0 (look_units r) t is (λ f there. elim (in_cases f (map muted r.units) _ there) [
    | inl a ↦ map_muted r.units f a
    | inr b ↦ elim b [ inl e ↦ ap (λ (w : FileUnit EntryName). language w.unit) (sym e) ∙ mute_language (as_one r.file (length r.units) r.commons) | inr n ↦ absurd n ]
  ])

  abbrev like : (t : Top) → In t (tops_of r.units) → LikeIn t (tops_of (look_units r))
  like t is = (own_look r (whole r re) t is).like

  abbrev across : (t : Top) → In t (tops_of r.units) → Top
  across t is = as_like t (like t is).top.file (like t is).top.unit (like t is).top.language

  across_there : (t : Top) (is : In t (tops_of r.units)) → In (across t is) (tops_of (look_units r))
  across_there t is = like_there t (tops_of (look_units r)) (like t is)

  look_at : (tops : List Top) (k m n m' n' : ℕ) → m ≡ m' → n ≡ n' → Look tops k m n → Look tops k m' n'
  look_at tops k m n m' n' p q h = subst (λ (i : ℕ). Look tops k i n') p (subst (λ (i : ℕ). Look tops k m i) q h)

  -- a look that finds two movable tops of files equal does so across
  look_on : (k : ℕ) (a b : Top) → In a (tops_of r.units) → In b (tops_of r.units) → Movable r.units a.number → Movable r.units b.number → Look (tops_of r.units) k a.number b.number
      → Look (tops_of (look_units r)) k a.number b.number
  unfolding Look
  look_on zero a b x y u v h = tt
  look_on (suc k) a b x y u v h =
      let own = tops_of r.units in
      let all = tops_of (look_units r) in
      let same = step_top (Inside r.units a.unit) (Inside r.units b.unit) (Look own k) (Look all k)
      (λ m n p q look. (let c = p.stands.top in let d = q.stands.top in
      look_at all k c.number d.number m n p.stands.number q.stands.number
      (look_on k c d p.stands.there q.stands.there (subst (Movable r.units) (sym p.stands.number) p.movable) (subst (Movable r.units) (sym q.stands.number) q.movable)
      (look_at own k m n c.number d.number (sym p.stands.number) (sym q.stands.number) look))))
      a b (inside r.units a x u) (inside r.units b y v) (look_in own k a b x y h) in
      let no : (across a x).language ≡ (across b y).language = no_language (across a x) (across_there a x) ∙ sym (no_language (across b y) (across_there b y)) in
      let there : SameTop (Look all k) (across a x) (across b y) = (no, same.1, same.2, same.3) in
      look_out all (tops_numbers (look_units r)) k (across a x) (across b y) (across_there a x) (across_there b y) there

  -- so are those that are alike, where they are movable across
  pub alike_across : (m n : ℕ) → Alike r.units m n → Movable (look_units r) m → Movable (look_units r) n → Alike (look_units r) m n
  alike_across m n h u v = record {
    first = u;
    second = v;
    equal = λ k. (
        let a = h.first.top in
        let b = h.second.top in
        look_at (tops_of (look_units r)) k a.number b.number m n h.first.number h.second.number
        (look_on k a b h.first.is_top h.second.is_top (subst (Movable r.units) (sym h.first.number) h.first) (subst (Movable r.units) (sym h.second.number) h.second)
        (look_at (tops_of r.units) k m n a.number b.number (sym h.first.number) (sym h.second.number) (h.equal k))));
  }
