-- What stands after, where copies are one, stands after the move where copies are one.
use Rattle.std.proofs.Common.{◌≡◌, ℕ, suc, Bool, true, false, List, [], ◌∷◌, map, refl, sym, ap, subst, ◌∙◌, inl, inr}
use Rattle.dwz_def_reading.specs.Documents.{Compile, DwUnit, Entries, Kind, Node, OfType, Partial, entries_map, kind_map, node_map, unit_map}
use Rattle.dwz_def_reading.specs.Lists.{In}
use Rattle.dwz_def_reading.specs.Rows.{has}
use Rattle.dwz_def_reading.specs.Trees.{End, Entry}
use Rattle.dwz_def_reading.proofs.ListFacts.{in_map}
use Rattle.dwz_def_tops.specs.Lists.{Nth}
use Rattle.dwz_def_tops.specs.Seen.{SameAlong}
use Rattle.dwz_def_tops.proofs.Members.{in_map_from}
use Rattle.dwz_def_tops.proofs.ShownLemmas.{kind_then}
use Rattle.dwz_def_tops.specs.Spots.{ASpace, ATop, FileUnit, Import, InChain, InType, Nothing, PartialOf, PartialRoot, RootOf, Row, SpaceAt, EntryName, UnitOf, Within}
use Rattle.dwz_def_images.specs.IsPlan.{AreFilesOf}
use Rattle.dwz_def_images.specs.Moves.{Move, image_in}
use Rattle.dwz_def_images.specs.Plan.{PartialUnit, image_by, import_of, imports, kept_row}
use Rattle.dwz_def_images.specs.After.{AreAfter, AreOld}
use Rattle.dwz_def_images.specs.Images.{units_in}
use Rattle.dwz_def_images.specs.Units.{changes, kept_below, kept_unit, partial_unit, tree}
use Rattle.dwz_def_images.proofs.FileLemmas.{served_same}
use Rattle.dwz_def_taken.specs.declared.fixed.Fixed.{Fixed}
use Rattle.dwz_def_taken.specs.Beside.{Reused}
use Rattle.dwz_def_taken.specs.Laws.{IsReused}
use Rattle.dwz_def_taken.specs.MoveLaws.{copied}
use Rattle.dwz_def_taken.specs.Over.{copy, copy_of, move_over}
use Rattle.dwz_def_taken.specs.Takes.{IsFixed}
use Rattle.dwz_def_taken.proofs.MapsTwice.{entries_then, node_then}
use Rattle.dwz_def_taken.proofs.ServeOver.{over_serves}

-- ---- rows and images

tree_then : (f g : EntryName → EntryName) (row : Row) (last : Entries EntryName) → entries_map g (tree f row last) ≡ tree (λ s. g (f s)) row (entries_map g last)
unfolding tree entries_map
tree_then f g Nothing last = refl
tree_then f g (ATop t next) last = let x = node_then f g t.node in let y = entries_then f g t.below in let z = tree_then f g next last in cc
tree_then f g (ASpace e inner next) last = let x = node_then f g e in let y = tree_then f g inner End in let z = tree_then f g next last in cc

image_twice : (s g : ℕ → ℕ) (x : EntryName) → image_by g (image_by s x) ≡ image_by (λ n. g (s n)) x
image_twice s g (Within t path) = refl
image_twice s g (UnitOf i) = refl
image_twice s g (RootOf i) = refl
image_twice s g (SpaceAt i path) = refl
image_twice s g (InType i path) = refl
image_twice s g (PartialOf i) = refl
image_twice s g (PartialRoot i) = refl
image_twice s g (InChain a b c) = refl
image_twice s g (Import i n) = refl

images_twice : (s g : ℕ → ℕ) → (λ (x : EntryName). image_by g (image_by s x)) ≡ image_by (λ n. g (s n))
images_twice s g = λ i x. image_twice s g x i

imports_stay : (g : ℕ → ℕ) (unit n : ℕ) (parts : List PartialUnit) → entries_map (image_by g) (imports unit n parts) ≡ imports unit n parts
unfolding imports entries_map
imports_stay g unit n [] = refl
imports_stay g unit n (part ∷ parts) = go (has unit part.users) (imports_stay g unit (suc n) parts) where
  go : (b : Bool) → entries_map (image_by g) (imports unit (suc n) parts) ≡ imports unit (suc n) parts
      → entries_map (image_by g) (elim b as (λ _. Entries EntryName) [ true ↦ Entry (import_of unit n) End (imports unit (suc n) parts) | false ↦ imports unit (suc n) parts ])
      ≡ (elim b as (λ _. Entries EntryName) [ true ↦ Entry (import_of unit n) End (imports unit (suc n) parts) | false ↦ imports unit (suc n) parts ])
  go true e = ap (Entry (import_of unit n) End) e
  go false e = e

-- ---- units

no_entries : (g : EntryName → EntryName) → entries_map g End ≡ End
unfolding entries_map
no_entries g = refl

unit_by : {a b : EntryName} {k l : Kind EntryName} {d e : Node EntryName} {f g : Entries EntryName} → a ≡ b → k ≡ l → d ≡ e → f ≡ g
    → (let u : DwUnit EntryName = record { at = a; kind = k; root = d; below = f } in let v : DwUnit EntryName = record { at = b; kind = l; root = e; below = g } in u ≡ v)
unit_by p q s t = cc

module _ (r : Reused) (m : Move) where
  abbrev c : EntryName → EntryName
  c = copy_of r

  both : (λ (x : EntryName). copy_of r (image_in m x)) ≡ image_in (copied r m)
  both = images_twice m.stand (copy r)

  pub new_copied : (n : ℕ) → unit_map (copy_of r) (partial_unit m n) ≡ partial_unit (copied r m) n
  new_copied n =
      ap (λ (w : Entries EntryName). record { at = PartialOf n; kind = Partial; root = node_map c (partial_unit m n).root; below = w })
      (tree_then (image_in m) c (m.rows n) End ∙ ap (λ (f : EntryName → EntryName). tree f (m.rows n) (entries_map c End)) both ∙ ap (tree (image_in (copied r m)) (m.rows n)) none)
    where
      none : entries_map (copy_of r) End ≡ End
      none = no_entries (copy_of r)

  changes_copied : (units : List (FileUnit EntryName)) (file : ℕ) → changes (copied r m) units file ≡ changes m units file
  unfolding changes
  changes_copied units file = refl

  below_copied : (units : List (FileUnit EntryName)) (b : Bool) (i : ℕ) (k : Kind EntryName) (below : Entries EntryName) → entries_map (copy_of r) (kept_below m units b i k below)
      ≡ kept_below (copied r m) units b i k below
  below_copied units true i Compile below =
      tree_then (image_in m) c (kept_row m.gone units i) (imports i 0 m.parts)
      ∙ ap (λ (f : EntryName → EntryName). tree f (kept_row m.gone units i) (entries_map c (imports i 0 m.parts))) both
      ∙ ap (tree (image_in (copied r m)) (kept_row m.gone units i)) (imports_stay (copy r) i 0 m.parts)
  below_copied units true i (OfType signature main) below = entries_then (image_in m) c below ∙ ap (λ (f : EntryName → EntryName). entries_map f below) both
  below_copied units true i Partial below = entries_then (image_in m) c below ∙ ap (λ (f : EntryName → EntryName). entries_map f below) both
  below_copied units false i Compile below = entries_then (image_in m) c below ∙ ap (λ (f : EntryName → EntryName). entries_map f below) both
  below_copied units false i (OfType signature main) below = entries_then (image_in m) c below ∙ ap (λ (f : EntryName → EntryName). entries_map f below) both
  below_copied units false i Partial below = entries_then (image_in m) c below ∙ ap (λ (f : EntryName → EntryName). entries_map f below) both

  kept_copied : (units : List (FileUnit EntryName)) → AreOld units → (i : ℕ) (u : FileUnit EntryName) → Nth 0 units i u → unit_map (copy_of r) (kept_unit m units i u) ≡ kept_unit (copied r m) units i u
  kept_copied units old i u nth =
      let at : c u.unit.at ≡ u.unit.at = ap c (old.units_named i u nth).unit ∙ sym (old.units_named i u nth).unit in
      let kind : kind_map c (kind_map (image_in m) u.unit.kind) ≡ kind_map (image_in (copied r m)) u.unit.kind =
      kind_then (image_in m) c u.unit.kind ∙ ap (λ (f : EntryName → EntryName). kind_map f u.unit.kind) both in
      let root : node_map c (node_map (image_in m) u.unit.root) ≡ node_map (image_in (copied r m)) u.unit.root =
      node_then (image_in m) c u.unit.root ∙ ap (λ (f : EntryName → EntryName). node_map f u.unit.root) both in
      let below : entries_map c (kept_below m units (changes m units u.file) i u.unit.kind u.unit.below)
      ≡ kept_below (copied r m) units (changes (copied r m) units u.file) i u.unit.kind u.unit.below =
      below_copied units (changes m units u.file) i u.unit.kind u.unit.below
      ∙ ap (λ (b : Bool). kept_below (copied r m) units b i u.unit.kind u.unit.below) (sym (changes_copied units u.file)) in
      unit_by at kind root below

  pub after_copied : (units : List (FileUnit EntryName)) → AreOld units → (outs : List (DwUnit EntryName)) → AreAfter m units outs → AreAfter (copied r m) units (map (unit_map (copy_of r)) outs)
  after_copied units old outs after = record {
    new = λ n part nth. subst (λ (w : DwUnit EntryName). In w (map (unit_map c) outs)) (new_copied n) (in_map (unit_map c) (partial_unit m n) outs (after.new n part nth));
    kept = λ i u nth. subst (λ (w : DwUnit EntryName). In w (map (unit_map c) outs)) (kept_copied units old i u nth) (in_map (unit_map c) (kept_unit m units i u) outs (after.kept i u nth));
    from = λ v there. (
        let o = in_map_from (unit_map c) v outs there in
        elim (after.from o.source o.there) [
          | inl a ↦ inl (record { number = a.number; part = a.part; nth = a.nth; is = sym (new_copied a.number) ∙ ap (unit_map c) a.is ∙ o.is })
          | inr b ↦ inr (record { number = b.number; unit = b.unit; nth = b.nth; is = sym (kept_copied units old b.number b.unit b.nth) ∙ ap (unit_map c) b.is ∙ o.is })
        ]);
  }

pub same_over : (r : Reused) (fixed : Fixed) (files : List ℕ) (outs : List (DwUnit EntryName)) → IsReused r → IsFixed r fixed → AreFilesOf r.units files → AreAfter (move_over r fixed files) r.units outs
    → SameAlong (λ s. copy_of r (image_in (move_over r fixed files) s)) (units_in r.units) (map (unit_map (copy_of r)) outs)
same_over r fixed files outs re fx known after =
    let m = move_over r fixed files in
    subst (λ (f : EntryName → EntryName). SameAlong f (units_in r.units) (map (unit_map (copy_of r)) outs)) (sym (both r m))
    (served_same r.units (copied r m) (map (unit_map (copy_of r)) outs) re.own (over_serves r fixed files re fx known) (after_copied r m r.units re.own outs after))
