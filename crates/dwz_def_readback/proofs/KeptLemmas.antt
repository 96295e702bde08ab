-- What was in a unit is in what is kept of it, but the tops that go.
use Rattle.std.proofs.Common.{◌≡◌, ℕ, Bool, true, false, List, [], refl, sym, ap, subst, ◌∙◌, ◌⊎◌, inl, inr}
use Rattle.dwz_def_reading.specs.Lists.{In}
use Rattle.dwz_def_reading.proofs.ListFacts.{in_map}
use Rattle.dwz_def_reading.specs.Documents.{Compile, DwUnit, Entries, Kind, Node, OfType, Partial, entries_map, language}
use Rattle.dwz_def_tops.specs.Lists.{Nth}
use Rattle.dwz_def_tops.specs.Seen.{Seen, see, seen, seen_map}
use Rattle.dwz_def_tops.specs.Shown.{keys}
use Rattle.dwz_def_tops.proofs.SeenLemmas.{seen_entries}
use Rattle.dwz_def_tops.proofs.ShownLemmas.{seen_key}
use Rattle.dwz_def_tops.specs.Spots.{EntryName, FileUnit, Top, Within, row_tops, rows_of_root}
use Rattle.dwz_def_tops.proofs.RowLemmas.{unit_row}
use Rattle.dwz_def_tops.proofs.Tops.{row_top}
use Rattle.dwz_def_images.specs.IsPlan.{Has, OfSpace, OfTop}
use Rattle.dwz_def_images.specs.Moves.{Move, image_in}
use Rattle.dwz_def_images.specs.Plan.{imports, kept_row}
use Rattle.dwz_def_images.proofs.RowParts.{kept_is}
use Rattle.dwz_def_images.specs.After.{AreOld}
use Rattle.dwz_def_tops.specs.UnitNames.{IsNamedBelow}
use Rattle.dwz_def_images.specs.Units.{changes, kept_unit}
use Rattle.dwz_def_images.proofs.EntryLemmas.{kept_compile, kept_still, kept_type}
use Rattle.dwz_def_images.proofs.OldLemmas.{top_at}
use Rattle.dwz_def_images.proofs.OldRows.{InTop, IsSpaceSeen, Origin, raw_top, row_kinded, seen_origin, tops_somewhere}
use Rattle.dwz_def_images.proofs.TreeLemmas.{seen_top_map, space_seen, tree_seen}
use Rattle.dwz_def_encoding.specs.Meant.{entry_keys}

-- a name of no top that goes
abbrev pub Stays : Move → EntryName → Type 0
Stays m k = (n : ℕ) (path : List ℕ) → k ≡ Within n path → m.gone n ≡ false

module _ (units : List (FileUnit EntryName)) (m : Move) (old : AreOld units) (i : ℕ) (u : FileUnit EntryName) (nth : Nth 0 units i u) where
  abbrev f : EntryName → EntryName
  f = image_in m

  abbrev kept : DwUnit EntryName
  kept = kept_unit m units i u

  pub top_kept : u.unit.kind ≡ Compile → (t : Top) → In t (row_tops (rows_of_root units i)) → m.gone t.number ≡ false → changes m units u.file ≡ true → (e : Seen EntryName) → In e (raw_top t)
      → In (seen_map f e) (seen kept.below)
  top_kept kind t in_row mv change e h =
      let r = unit_row units i u nth kind in
      let o = tops_somewhere (rows_of_root units i) (row_kinded u.file i (language u.unit) [] r.first (rows_of_root units i) u.unit.below r.is) t in_row in
      let stays = (kept_is m.gone units i o.names (OfTop t)).1 (o.has, mv) in
      subst (λ (w : Entries EntryName). In (seen_map f e) (seen w)) (sym (kept_compile m units i u kind change))
      (tree_seen f (kept_row m.gone units i) (imports i 0 m.parts) o.names t stays (seen_map f e)
      (subst (λ (w : List (Seen EntryName)). In (seen_map f e) w) (sym (seen_top_map f t)) (in_map (seen_map f) e (raw_top t) h)))

  pub mapped_kept : (d : Seen EntryName) → In d (seen u.unit.below) → kept.below ≡ entries_map f u.unit.below → In (seen_map f d) (seen kept.below)
  mapped_kept d h below =
      let there = subst (λ (w : List (Seen EntryName)). In (seen_map f d) w) (sym (seen_entries f u.unit.below)) (in_map (seen_map f) d (seen u.unit.below) h) in
      subst (λ (w : Entries EntryName). In (seen_map f d) (seen w)) (sym below) there

  pub space_kept : u.unit.kind ≡ Compile → (names : List (List ℕ)) (c : Node EntryName) → Has names (OfSpace c) (rows_of_root units i) → changes m units u.file ≡ true → (e : Seen EntryName)
      × In e (seen kept.below)
      × (e.at ≡ f c.at)
  space_kept kind names c has change =
      let o = space_seen f (kept_row m.gone units i) (imports i 0 m.parts) names c ((kept_is m.gone units i names (OfSpace c)).1 (has, tt)) in
      (o.0, subst (λ (w : Entries EntryName). In o.0 (seen w)) (sym (kept_compile m units i u kind change)) o.1, o.2)

  below_stays : (d : Seen EntryName) → In d (seen u.unit.below) → Stays m d.at → (k : Kind EntryName) → u.unit.kind ≡ k → (b : Bool) → changes m units u.file ≡ b → In (f d.at) (keys kept.below)
  below_stays d h stays k kind false c = seen_key kept.below (seen_map f d) (mapped_kept d h (kept_still m units i u c))
  below_stays d h stays (OfType signature main) kind true c = seen_key kept.below (seen_map f d) (mapped_kept d h (kept_type m units i u signature main kind))
  below_stays d h stays Partial kind true c = absurd (subst (λ (w : Kind EntryName). IsNamedBelow i w (rows_of_root units i) u.unit.below) kind (old.units_named i u nth).below)
  below_stays d h stays Compile kind true c =
      go (seen_origin u.file i (language u.unit) [] (unit_row units i u nth kind).first (rows_of_root units i) u.unit.below (unit_row units i u nth kind).is d h)
    where
      go : Origin u.file i (language u.unit) (rows_of_root units i) u.unit.below d → In (f d.at) (keys kept.below)
      go (InTop t there x) =
          (let own = row_top units i t there in
          let at = top_at t (old.tops_named t own.0) d x in
          seen_key kept.below (seen_map f d) (top_kept kind t there (stays t.number at.path at.is) c d x))
      go (IsSpaceSeen names s has at) = (let o = space_kept kind names s has c in subst (λ (k : EntryName). In k (keys kept.below)) (o.2 ∙ ap f (sym at)) (seen_key kept.below o.0 o.1))

  -- an entry of no top that goes is an entry of what is kept
  pub entry_stays : (d : Seen EntryName) → (see u.unit.root u.unit.below ≡ d) ⊎ In d (seen u.unit.below) → Stays m d.at → In (f d.at) (entry_keys kept)
  entry_stays d (inl e) stays = inl (ap (λ (w : Seen EntryName). f w.at) e)
  entry_stays d (inr h) stays = inr (below_stays d h stays u.unit.kind refl (changes m units u.file) refl)
