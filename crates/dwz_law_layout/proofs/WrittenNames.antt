-- An entry that is written of an old unit stands for itself: what stands for it after stays, and what stands for an entry of a top that moves doesn't.
use Rattle.std.proofs.Common.{◌≡◌, ℕ, ℤ, suc, ◌+◌, Bool, true, false, List, [], ◌∷◌, ◌++◌, Option, Some, slice_get, refl, sym, ap, subst, ◌∙◌, inl, inr, arith}
use Rattle.dwz_def_reading.specs.Lists.{In}
use Rattle.dwz_def_reading.specs.Trees.{End, Entry}
use Rattle.dwz_def_reading.proofs.ListFacts.{in_cases}
use Rattle.dwz_def_reading.specs.Documents.{Compile, Entries, Kind, Node, OfType, Partial, entries_map, language}
use Rattle.dwz_def_tops.specs.Lists.{Nth}
use Rattle.dwz_def_tops.specs.Spots.{EntryName, Import, InChain, InType, PartialOf, PartialRoot, RootOf, SpaceAt, UnitOf, Within}
use Rattle.dwz_def_tops.specs.Spots.{ASpace, ATop, FileUnit, LabelledSpaces, Nothing, Row as TopsRow, SpaceName, Top, name_of, rows_of_root, tops_of}
use Rattle.dwz_def_tops.proofs.RowLemmas.{RowIs, unit_row}
use Rattle.dwz_def_images.specs.Moves.{Move, image_in}
use Rattle.dwz_def_images.specs.After.{AreOld}
use Rattle.dwz_def_tops.specs.UnitNames.{IsNamedBelow}
use Rattle.dwz_def_tops.specs.Spaces.{tops_under}
use Rattle.dwz_unit.specs.Rows.{EntryRow}
use Rattle.dwz_graph.specs.declared.file.File.{File}
use Rattle.dwz_graph.specs.Index.{Index}
use Rattle.dwz_graph.specs.AllNames.{all_names}
use Rattle.dwz_layout_numbers.proofs.OwnerLemmas.{own_name}
use Rattle.dwz_layout_numbers.proofs.Paths.{paths_of}
use Rattle.dwz_layout_order.specs.Spaces.{spaces_below, spaces_under}
use Rattle.dwz_layout_order.proofs.RowLemmas.{under_space, under_top}
use Rattle.dwz_layout.specs.declared.known.EntryTable.{EntryTable}
use Rattle.dwz_layout.specs.declared.order.UnitItems.{UnitItems}
use Rattle.dwz_layout.specs.declared.walk.Origin.{Origin}
use Rattle.dwz_layout.specs.declared.walk.Origin.TheVariants.{Chained, Imported, OwnRoot, Read as OfRow}
use Rattle.dwz_layout.specs.declared.walk.Slot.{Slot}
use Rattle.dwz_layout.specs.Entries.{items_slots, row}
use Rattle.dwz_layout.specs.Known.{number_of}
use Rattle.dwz_encode.specs.Shown.{HasRow, IsRow}
use Rattle.dwz_law_layout.specs.Knows.{FileRead, IsRead, KnowsNames}
use Rattle.dwz_law_layout.specs.Beside.{Beside}
use Rattle.dwz_law_layout.specs.Facts.{AreFacts, HasFile, RunFacts, docs, file_read, move, units}
use Rattle.dwz_law_layout.specs.Listed.{AreListed, TextsAt}
use Rattle.dwz_law_layout.specs.Named.{keys}
use Rattle.dwz_law_layout.specs.NamedLaws.{entry_name}
use Rattle.dwz_law_layout.proofs.FileEntries.{IsHere, below, here, named, named_all, number_is, read_name}
use Rattle.dwz_law_layout.proofs.LayoutLemmas.{names_itself}
use Rattle.dwz_law_layout.proofs.StayingTrees.{AreStaying, IsStaying, OriginStays, SlotsStay, StaysIn, labelled_stay}
use Rattle.dwz_def_tops.proofs.TopNumbers.{top_at, tops_numbers}

-- ---- names in an old unit

module _ (P : ℕ → Type 0) (m : Move) (file unit : ℕ) (tongue : Option ℤ) where
  spaces_stay : (spaces : List SpaceName) (n : ℕ) (tops : TopsRow) (g : Entries EntryName) → RowIs file unit tongue spaces n tops g → (path : List ℕ) (i : ℕ) → LabelledSpaces unit path i tops
      → (e : Node EntryName) → In e (spaces_under g) → IsStaying P (image_in m e.at)
  unfolding spaces_under
  spaces_stay spaces n Nothing End h path i labels e is = absurd is
  spaces_stay spaces n (ATop t tops) (Entry d c g) h path i labels e is = spaces_stay spaces (suc n) tops g h.2 path (suc i) labels e (subst (In e) (under_top d c g h.0) is)
  spaces_stay spaces n (ASpace d inner tops) (Entry a c g) h path i labels e is =
      by (subst (In e) (under_space a c g h.0 h.1) is) (spaces_stay (spaces ++ name_of h.0 a ∷ []) n inner c h.3 (i ∷ path) 0 labels.1 e)
      (spaces_stay spaces (n + tops_under c) tops g h.4 path (suc i) labels.2 e)
    where
      by : In e (a ∷ (spaces_under c ++ spaces_under g)) → (In e (spaces_under c) → IsStaying P (image_in m e.at)) → (In e (spaces_under g) → IsStaying P (image_in m e.at))
          → IsStaying P (image_in m e.at)
      by (inl same) deeper later =
          let at : SpaceAt unit (i ∷ path) ≡ e.at = sym labels.0 ∙ ap (λ (w : Node EntryName). w.at) (sym h.2 ∙ same) in
          subst (λ (w : EntryName). IsStaying P (image_in m w)) at tt
      by (inr r) deeper later = elim (in_cases e (spaces_under c) (spaces_under g) r) [ inl q ↦ deeper q | inr q ↦ later q ]
  spaces_stay spaces n Nothing (Entry d c g) h path i labels e is = absurd h
  spaces_stay spaces n (ATop t tops) End h path i labels e is = absurd h
  spaces_stay spaces n (ASpace d inner tops) End h path i labels e is = absurd h

module _ (P : ℕ → Type 0) (m : Move) (all : List (FileUnit EntryName)) (olds : AreOld all) (i : ℕ) (u : FileUnit EntryName) (nth : Nth 0 all i u) where
  pub root_stays : IsStaying P (image_in m u.unit.root.at)
  root_stays = subst (λ (w : EntryName). IsStaying P (image_in m w)) (sym (olds.units_named i u nth).root) tt

  pub space_stays : (e : Node EntryName) → In e (spaces_below u.unit.kind u.unit.below) → IsStaying P (image_in m e.at)
  space_stays e is = by u.unit.kind refl is where
    by : (kind : Kind EntryName) → u.unit.kind ≡ kind → In e (spaces_below kind u.unit.below) → IsStaying P (image_in m e.at)
    by Compile compile there =
        let r = unit_row all i u nth compile in
        let labels = subst (λ (w : Kind EntryName). IsNamedBelow i w (rows_of_root all i) u.unit.below) compile (olds.units_named i u nth).below in
        spaces_stay P m u.file i (language u.unit) [] r.first (rows_of_root all i) u.unit.below r.is [] 0 labels e there
    by (OfType signature main) other there = absurd there
    by Partial other there = absurd there

  -- what is below the root of a unit that has no tops
  pub whole_stays : (u.unit.kind ≡ Compile → ⊥) → AreStaying P (entries_map (image_in m) u.unit.below)
  whole_stays other = by u.unit.kind refl (olds.units_named i u nth).below where
    by : (kind : Kind EntryName) → u.unit.kind ≡ kind → IsNamedBelow i kind (rows_of_root all i) u.unit.below → AreStaying P (entries_map (image_in m) u.unit.below)
    by Compile compile named = absurd (other compile)
    by (OfType signature main) is named = labelled_stay m P (InType i) (λ path. tt) [] 0 u.unit.below named
    by Partial is named = absurd named

-- ---- an entry that is written

module _ {beside : Beside} (f : RunFacts beside) (t : TextsAt) (k : EntryTable) (facts : AreFacts f) (listed : AreListed f t k) (n : ℕ) (bytes : List ℕ) (x : File) (index : Index) (h : HasFile f n bytes x index) where
  abbrev F : FileRead
  F = file_read f n bytes x

  at_home : IsHere f k n x index
  at_home = here f t k facts listed n x index h.file h.index_is

  -- the tops of the files that don't leave their units
  abbrev P : ℕ → Type 0
  P = StaysIn (move f) (units f)

  itself : (number : ℕ) (s : EntryName) → slice_get (all_names (docs f)) number ≡ Some s → IsStaying P (image_in (move f) s) → image_in (move f) s ≡ s
  itself number (Within top path) e stays = by ((move f).gone own.0.number) refl where
    own : (v : Top) × In v (tops_of (units f)) × (v.number ≡ top) × In path (paths_of v.below)
    own = own_name (docs f) number top path e

    by : (b : Bool) → (move f).gone own.0.number ≡ b → image_in (move f) (Within top path) ≡ Within top path
    by false is = ap (λ (w : ℕ). Within w path) (subst (λ (w : ℕ). (move f).stand w ≡ w) own.2 (facts.goes.stays own.0.number is))
    by true gone =
        let lt = stays.1 in
        let rt = top_at 0 (tops_of (units f)) ((move f).stand top) (tops_numbers (units f)) (omega arith) (omega (arith, lt)) in
        let goes : (move f).gone rt.0.number ≡ true = facts.goes.leaves own.0 rt.0 own.1 rt.1 (rt.2 ∙ ap (move f).stand (sym own.2)) gone in
        let no : (move f).gone rt.0.number ≡ false = ap (move f).gone rt.2 ∙ stays.0 in
        absurd cc
  itself number (UnitOf i) e stays = refl
  itself number (RootOf i) e stays = refl
  itself number (SpaceAt i path) e stays = refl
  itself number (InType i path) e stays = refl
  itself number (PartialOf i) e stays = refl
  itself number (PartialRoot i) e stays = refl
  itself number (InChain p i d) e stays = refl
  itself number (Import i p) e stays = refl

  module _ (i : ℕ) (r : EntryRow) (d : Node ℕ) (read : IsRead (file_read f n bytes x) i r d) where
    origin_stays : (q : Origin) → OriginStays (StaysIn (move f) (units f)) (file_read f n bytes x) q → IsRow k (number_of k (row n i)) q → IsStaying (StaysIn (move f) (units f)) ((file_read f n bytes x).after d.at)
    origin_stays (OfRow w) stays e =
        let is : w ≡ row n w.entry = λ j. row (stays.0 j) w.entry in
        let one = ap (number_of k) is ∙ number_is f k n x index at_home w.entry in
        let two = number_is f k n x index at_home i in
        let same : i ≡ w.entry = omega (arith, one, two, e) in
        stays.1 r d (subst (λ (q : ℕ). IsRead (file_read f n bytes x) q r d) same read)
    origin_stays (OwnRoot place) stays e = absurd e
    origin_stays (Chained chain space) stays e = absurd e
    origin_stays (Imported part) stays e = absurd e

    found_stays : (slots : List Slot) → SlotsStay (StaysIn (move f) (units f)) (file_read f n bytes x) slots → HasRow k (number_of k (row n i)) slots → IsStaying (StaysIn (move f) (units f)) ((file_read f n bytes x).after d.at)
    found_stays [] all has = absurd has
    found_stays (s ∷ slots) all (inl e) = origin_stays s.origin all.0 e
    found_stays (s ∷ slots) all (inr r) = found_stays slots all.1 r

  pub knows_names : (o : UnitItems) → SlotsStay (StaysIn (move f) (units f)) (file_read f n bytes x) (items_slots k o.sort o.items) → KnowsNames (keys f) k (file_read f n bytes x) o
  knows_names o stay = record {
    are = λ i r d read writes. (
        let is = at_home in
        let lt = below f k n x index is bytes i r d read in
        let name = read_name f k n x index is bytes i r d read in
        let there : slice_get (all_names (docs f)) (is.start + i) ≡ Some (entry_name f n d) = named_all f k n x index is i lt ∙ ap (λ (w : EntryName). Some w) (sym name) in
        names_itself f t k facts listed n bytes x index h i r d read
        (itself (is.start + i) (entry_name f n d) there (found_stays i r d read (items_slots k o.sort o.items) stay writes)));
  }
