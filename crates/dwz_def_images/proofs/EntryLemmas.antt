-- The entry at an entry's image is the entry with each place replaced by its image.
use Rattle.std.proofs.Common.{◌≡◌, ℕ, ◌==◌, ◌&&◌, Bool, true, false, List, [], refl, sym, ap, subst, ◌∙◌, eq-eqb}
use Rattle.std.proofs.lemmas.Bool.{and_from}
use Rattle.dwz_def_reading.specs.Documents.{Compile, DwUnit, Entries, Kind, OfType, Partial, entries_map, language}
use Rattle.dwz_def_reading.specs.Lists.{In}
use Rattle.dwz_def_reading.specs.Trees.{End}
use Rattle.dwz_def_reading.proofs.ListFacts.{in_map}
use Rattle.dwz_def_tops.specs.Lists.{Nth}
use Rattle.dwz_def_tops.specs.Seen.{EntriesSame, Seen, seen, seen_below, seen_inside, seen_map}
use Rattle.dwz_def_tops.proofs.Members.{any_true}
use Rattle.dwz_def_tops.proofs.SeenLemmas.{inner_from, seen_entries, seen_in}
use Rattle.dwz_def_tops.specs.Spots.{EntryName, FileUnit, Top, name_list, row_tops, rows_of_root, tops_of}
use Rattle.dwz_def_tops.proofs.RowLemmas.{unit_row}
use Rattle.dwz_def_tops.proofs.Tops.{row_top}
use Rattle.dwz_def_plan.specs.IsPlan.{OfTop}
use Rattle.dwz_def_plan.specs.Plan.{imports, kept_row}
use Rattle.dwz_def_plan.specs.Moves.{Move, image_in, seen_top}
use Rattle.dwz_def_images.specs.Held.{Serves}
use Rattle.dwz_def_images.specs.Units.{changes, kept_below, kept_unit, partial_unit, tree}
use Rattle.dwz_def_plan.proofs.RowParts.{kept_is}
use Rattle.dwz_def_images.specs.After.{AreAfter, AreAfterOf, AreOld}
use Rattle.dwz_def_tops.specs.UnitNames.{IsNamedBelow}
use Rattle.dwz_def_images.specs.Images.{units_in}
use Rattle.dwz_def_images.proofs.OldLemmas.{unit_at}
use Rattle.dwz_def_images.proofs.OldRows.{raw_top, row_kinded, seen_in_top, tops_somewhere, raw_seen}
use Rattle.dwz_def_images.proofs.TreeLemmas.{seen_top_map, tree_seen}

-- ---- kept units, by their kinds

-- where something of the file moves
pub kept_compile : (m : Move) (units : List (FileUnit EntryName)) (i : ℕ) (u : FileUnit EntryName) → u.unit.kind ≡ Compile → changes m units u.file ≡ true
    → (kept_unit m units i u).below ≡ tree (image_in m) (kept_row m.gone units i) (imports i 0 m.parts)
kept_compile m units i u e c =
    ap (λ (k : Kind EntryName). kept_below m units (changes m units u.file) i k u.unit.below) e ∙ ap (λ (b : Bool). kept_below m units b i Compile u.unit.below) c

-- where nothing does
pub kept_still : (m : Move) (units : List (FileUnit EntryName)) (i : ℕ) (u : FileUnit EntryName) → changes m units u.file ≡ false
    → (kept_unit m units i u).below ≡ entries_map (image_in m) u.unit.below
kept_still m units i u c = ap (λ (b : Bool). kept_below m units b i u.unit.kind u.unit.below) c ∙ go u.unit.kind where
  go : (k : Kind EntryName) → kept_below m units false i k u.unit.below ≡ entries_map (image_in m) u.unit.below
  go Compile = refl
  go (OfType signature main) = refl
  go Partial = refl

pub kept_type : (m : Move) (units : List (FileUnit EntryName)) (i : ℕ) (u : FileUnit EntryName) (signature : ℕ) (main : EntryName) → u.unit.kind ≡ OfType signature main
    → (kept_unit m units i u).below ≡ entries_map (image_in m) u.unit.below
kept_type m units i u signature main e = ap (λ (k : Kind EntryName). kept_below m units (changes m units u.file) i k u.unit.below) e ∙ go (changes m units u.file) where
  go : (b : Bool) → kept_below m units b i (OfType signature main) u.unit.below ≡ entries_map (image_in m) u.unit.below
  go true = refl
  go false = refl

-- a file changes whose top is gone
pub top_changes : (m : Move) (units : List (FileUnit EntryName)) (t : Top) → In t (tops_of units) → m.gone t.number ≡ true → changes m units t.file ≡ true
unfolding changes
top_changes m units t is mv = any_true (λ u. u.file == t.file && m.gone u.number) t (tops_of units) is (and_from (t.file == t.file) (m.gone t.number) (eq-eqb t.file t.file refl) mv)

module _ (units : List (FileUnit EntryName)) (m : Move) (old : AreOld units) (held : Serves units m) (outs : List (DwUnit EntryName)) (Of : ℕ → Type 0) (after : AreAfterOf Of m units outs) where
  abbrev f : EntryName → EntryName
  f = image_in m

  -- a top that is gone is seen in the partial unit that holds one seen the same
  moved_seen : (t : Top) → In t (tops_of units) → Of t.unit → m.gone t.number ≡ true → (e : Seen EntryName) → In e (seen_top f t) → In e (seen_below outs)
  moved_seen t there mine mv e h =
      let o = held.held t there mv in
      seen_in outs (partial_unit m o.number) e (after.new o.number o.part o.nth t.unit o.user mine)
      (tree_seen f (m.rows o.number) End (name_list t) o.top o.has e (subst (λ (w : List (Seen EntryName)). In e w) o.same h))

  -- one that stays is seen in its unit
  pub top_seen : (i : ℕ) (u : FileUnit EntryName) → Nth 0 units i u → Of i → u.unit.kind ≡ Compile → (t : Top) → In t (row_tops (rows_of_root units i)) → (b : Bool) → m.gone t.number ≡ b → (c : Bool)
      → changes m units u.file ≡ c → (e : Seen EntryName) → In e (raw_top t) → In (seen_map f e) (seen_below outs)
  top_seen i u nth mine kind t in_row true mv c change e h =
      moved_seen t (row_top units i t in_row).0 (subst Of (sym (row_top units i t in_row).1) mine) mv (seen_map f e)
      (subst (λ (w : List (Seen EntryName)). In (seen_map f e) w) (sym (seen_top_map f t)) (in_map (seen_map f) e (raw_top t) h))
  top_seen i u nth mine kind t in_row false mv true change e h =
      let r = unit_row units i u nth kind in
      let o = tops_somewhere (rows_of_root units i) (row_kinded u.file i (language u.unit) [] r.first (rows_of_root units i) u.unit.below r.is) t in_row in
      let stays = (kept_is m.gone units i o.names (OfTop t)).1 (o.has, mv) in
      seen_in outs (kept_unit m units i u) (seen_map f e) (after.kept i u nth mine)
      (subst (λ (w : Entries EntryName). In (seen_map f e) (seen w)) (sym (kept_compile m units i u kind change))
      (tree_seen f (kept_row m.gone units i) (imports i 0 m.parts) o.names t stays (seen_map f e)
      (subst (λ (w : List (Seen EntryName)). In (seen_map f e) w) (sym (seen_top_map f t)) (in_map (seen_map f) e (raw_top t) h))))
  top_seen i u nth mine kind t in_row false mv false change e h =
      let r = unit_row units i u nth kind in
      let there = raw_seen u.file i (language u.unit) [] r.first (rows_of_root units i) u.unit.below r.is t in_row e h in
      seen_in outs (kept_unit m units i u) (seen_map f e) (after.kept i u nth mine)
      (subst (λ (w : Entries EntryName). In (seen_map f e) (seen w)) (sym (kept_still m units i u change))
      (subst (λ (w : List (Seen EntryName)). In (seen_map f e) w) (sym (seen_entries f u.unit.below)) (in_map (seen_map f) e (seen u.unit.below) there)))

  pub unit_seen : (i : ℕ) (u : FileUnit EntryName) → Nth 0 units i u → Of i → (e : Seen EntryName) → (k : Kind EntryName) → u.unit.kind ≡ k → In e (seen_inside k u.unit.below)
      → In (seen_map f e) (seen_below outs)
  unit_seen i u nth mine e Compile kind h =
      let r = unit_row units i u nth kind in
      let o = seen_in_top u.file i (language u.unit) [] r.first (rows_of_root units i) u.unit.below r.is e h in
      top_seen i u nth mine kind o.top o.there (m.gone o.top.number) refl (changes m units u.file) refl e o.is
  unit_seen i u nth mine e (OfType signature main) kind h =
      seen_in outs (kept_unit m units i u) (seen_map f e) (after.kept i u nth mine)
      (subst (λ (w : Entries EntryName). In (seen_map f e) (seen w)) (sym (kept_type m units i u signature main kind))
      (subst (λ (w : List (Seen EntryName)). In (seen_map f e) w) (sym (seen_entries f u.unit.below)) (in_map (seen_map f) e (seen u.unit.below) h)))
  unit_seen i u nth mine e Partial kind h = absurd (subst (λ (w : Kind EntryName). IsNamedBelow i w (rows_of_root units i) u.unit.below) kind (old.units_named i u nth).below)

-- so it is with all units
pub all_of : (m : Move) (units : List (FileUnit EntryName)) (outs : List (DwUnit EntryName)) → AreAfter m units outs → AreAfterOf (λ i. Unit {0}) m units outs
all_of m units outs after = record { new = λ n part nth i user mine. after.new n part nth; kept = λ i u nth mine. after.kept i u nth; from = after.from }

pub entries_same : (units : List (FileUnit EntryName)) (m : Move) (old : AreOld units) (held : Serves units m) (outs : List (DwUnit EntryName)) → AreAfter m units outs
    → EntriesSame (image_in m) (units_in units) outs
entries_same units m old held outs after = λ e h.
    let o = inner_from (units_in units) e h in
    let n = unit_at 0 units o.unit o.there in
    unit_seen units m old held outs (λ i. Unit {0}) (all_of m units outs after) n.number n.unit n.nth tt e n.unit.unit.kind refl
    (subst (λ (w : DwUnit EntryName). In e (seen_inside w.kind w.below)) (sym n.is) o.is)
