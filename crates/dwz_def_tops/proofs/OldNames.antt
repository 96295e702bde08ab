-- The names that stand for the places of one file are as they are asked for.
use Rattle.std.proofs.Common.{◌≡◌, ℕ, ℤ, suc, ◌+◌, List, [], ◌∷◌, ◌++◌, Option, Some, None, map, refl, sym, ap, subst, ◌∙◌, arith, inl, inr}
use Rattle.dwz_def_reading.specs.Documents.{Compile, DwUnit, Entries, Kind, Node, OfType, Partial, entries_map, kind_map, language, node_map, unit_map}
use Rattle.dwz_def_reading.specs.Lists.{In}
use Rattle.dwz_def_reading.specs.Trees.{End, Entry}
use Rattle.dwz_def_reading.proofs.ListFacts.{in_cases, in_left, in_right}
use Rattle.dwz_def_tops.specs.Lists.{NoneTwice, Nth}
use Rattle.dwz_def_tops.specs.Seen.{IsPartial}
use Rattle.dwz_def_tops.specs.Spaces.{space_text, tops_under}
use Rattle.dwz_def_tops.proofs.Members.{nth_from}
use Rattle.dwz_def_tops.proofs.SpaceLemmas.{text_map, under_count}
use Rattle.dwz_def_tops.specs.Spots.{ASpace, ATop, EntryName, FileUnit, InType, Labelled, LabelledSpaces, LabelledTop, Nothing, RootOf, Row, SpaceAt, SpaceName, Top, UnitOf, Within, below_spots}
use Rattle.dwz_def_tops.specs.Spots.{entry_spots}
use Rattle.dwz_def_tops.specs.Spots.{in_file, name_of, named_in, row_below, row_from, row_in, row_tops, spot_in, spots_from, top_count, top_spots, tops_from}
use Rattle.dwz_def_tops.proofs.NameLists.{NotPartial, count_map, firsts, spot_is, spots_space, spots_top}
use Rattle.dwz_def_tops.proofs.RowLemmas.{RowIs, row_here, row_is, row_later}
use Rattle.dwz_def_tops.specs.UnitNames.{IsNamedBelow, IsNamedUnit}

-- ---- in one file

module _ (spots : List (ℕ × EntryName)) (once : NoneTwice (firsts spots)) (file : ℕ) where
  abbrev g : ℕ → EntryName
  g = spot_in spots

  abbrev Known : List (ℕ × EntryName) → Type 0
  Known some = (x : ℕ × EntryName) → In x some → In x spots

  labelled : (name : List ℕ → EntryName) (path : List ℕ) (i : ℕ) (f : Entries ℕ) → Known (entry_spots name path i f) → Labelled name path i (entries_map g f)
  unfolding entry_spots entries_map
  labelled name path i End known = tt
  labelled name path i (Entry e f k) known = (
    spot_is spots once e.at (name (i ∷ path)) (known (e.at, name (i ∷ path)) (inl refl)),
    labelled name (i ∷ path) 0 f (λ x is. known x (inr (in_left x (entry_spots name (i ∷ path) 0 f) (entry_spots name path (suc i) k) is))),
    labelled name path (suc i) k (λ x is. known x (inr (in_right x (entry_spots name (i ∷ path) 0 f) (entry_spots name path (suc i) k) is))),
  )

  known_top : (unit : ℕ) (path : List ℕ) (i n : ℕ) (e : Node ℕ) (f k : Entries ℕ) → space_text e ≡ None → Known (top_spots unit path i n (Entry e f k))
      → Known ((e.at, Within n []) ∷ entry_spots (Within n) [] 0 f ++ top_spots unit path (suc i) (suc n) k)
  known_top unit path i n e f k h known = subst Known (spots_top unit path i n e f k h) known

  known_space : (unit : ℕ) (path : List ℕ) (i n : ℕ) (e : Node ℕ) (f k : Entries ℕ) (text : List ℕ) → space_text e ≡ Some text → Known (top_spots unit path i n (Entry e f k))
      → Known ((e.at, SpaceAt unit (i ∷ path)) ∷ top_spots unit (i ∷ path) 0 n f ++ top_spots unit path (suc i) (n + tops_under f) k)
  known_space unit path i n e f k text h known = subst Known (spots_space unit path i n e f k text h) known

  -- a row whose entries have these names
  row_labelled : (unit : ℕ) (tongue : Option ℤ) (spaces : List SpaceName) (n : ℕ) (row : Row) (f : Entries ℕ) → RowIs file unit tongue spaces n row (entries_map g f) → (path : List ℕ) (i : ℕ)
      → Known (top_spots unit path i n f)
      → ((t : Top) → In t (row_tops row) → LabelledTop t) × LabelledSpaces unit path i row
  unfolding entries_map row_tops
  row_labelled unit tongue spaces n Nothing f h path i known = ((λ t is. absurd is), tt)
  row_labelled unit tongue spaces n (ATop u row) (Entry e f k) h path i known =
      let plain : space_text e ≡ None = sym (text_map g e) ∙ h.0 in
      let all = known_top unit path i n e f k plain known in
      let here : LabelledTop u = subst LabelledTop h.1 (
        spot_is spots once e.at (Within n []) (all (e.at, Within n []) (inl refl)),
        labelled (Within n) [] 0 f (λ y is. all y (inr (in_left y (entry_spots (Within n) [] 0 f) (top_spots unit path (suc i) (suc n) k) is))),
      ) in
      let o = row_labelled unit tongue spaces (suc n) row k h.2 path (suc i) (λ y is. all y (inr (in_right y (entry_spots (Within n) [] 0 f) (top_spots unit path (suc i) (suc n) k) is))) in
      ((λ t is. elim is [ inl x ↦ subst LabelledTop x here | inr r ↦ o.0 t r ]), o.1)
  row_labelled unit tongue spaces n (ASpace d inner row) (Entry e f k) h path i known =
      let space : space_text e ≡ Some h.0 = sym (text_map g e) ∙ h.1 in
      let all = known_space unit path i n e f k h.0 space known in
      let a = row_labelled unit tongue (spaces ++ name_of h.0 (node_map g e) ∷ []) n inner f h.3 (i ∷ path) 0
      (λ y is. all y (inr (in_left y (top_spots unit (i ∷ path) 0 n f) (top_spots unit path (suc i) (n + tops_under f) k) is))) in
      let rest = subst (λ (w : ℕ). RowIs file unit tongue spaces (n + w) row (entries_map g k)) (under_count g f) h.4 in
      let b = row_labelled unit tongue spaces (n + tops_under f) row k rest path (suc i)
      (λ y is. all y (inr (in_right y (top_spots unit (i ∷ path) 0 n f) (top_spots unit path (suc i) (n + tops_under f) k) is))) in
      let at : d.at ≡ SpaceAt unit (i ∷ path) = ap (λ (w : Node EntryName). w.at) (sym h.2) ∙ spot_is spots once e.at (SpaceAt unit (i ∷ path)) (all (e.at, SpaceAt unit (i ∷ path)) (inl refl)) in
      ((λ t is. elim (in_cases t (row_tops inner) (row_tops row) is) [ inl x ↦ a.0 t x | inr y ↦ b.0 t y ]), (at, a.1, b.1))
  row_labelled unit tongue spaces n (ATop u row) End h path i known = absurd h
  row_labelled unit tongue spaces n (ASpace d inner row) End h path i known = absurd h

  unit_row_labelled : (unit n : ℕ) (u : DwUnit ℕ) (k : Kind ℕ) → (IsPartial k → ⊥) → Known (below_spots unit n k u.below)
      → ((t : Top) → In t (row_tops (row_below file unit n (unit_map g u) (kind_map g k))) → LabelledTop t) × IsNamedBelow unit (kind_map g k) (row_below file unit n (unit_map g u) (kind_map g k))
      (entries_map g u.below)
  unfolding row_tops
  unit_row_labelled unit n u Compile h known =
      let tongue = language (unit_map g u) in
      row_labelled unit tongue [] n (row_in file unit tongue [] n (entries_map g u.below)) u.below (row_is file unit tongue [] n (entries_map g u.below)) [] 0 known
  unit_row_labelled unit n u (OfType signature main) h known = ((λ t is. absurd is), labelled (InType unit) [] 0 u.below known)
  unit_row_labelled unit n u Partial h known = absurd (h tt)

  abbrev filed : List (DwUnit ℕ) → List (FileUnit EntryName)
  filed units = map (in_file file) (named_in spots units)

  known_below : (unit n : ℕ) (u : DwUnit ℕ) (units : List (DwUnit ℕ)) → Known (spots_from unit n (u ∷ units)) → Known (below_spots unit n u.kind u.below)
  unfolding spots_from
  known_below unit n u units known x is = known x (inr (inr (in_left x (below_spots unit n u.kind u.below) (spots_from (suc unit) (n + top_count u.kind u.below) units) is)))

  known_rest : (unit n : ℕ) (u : DwUnit ℕ) (units : List (DwUnit ℕ)) → Known (spots_from unit n (u ∷ units)) → Known (spots_from (suc unit) (n + top_count u.kind u.below) units)
  unfolding spots_from
  known_rest unit n u units known x is = known x (inr (inr (in_right x (below_spots unit n u.kind u.below) (spots_from (suc unit) (n + top_count u.kind u.below) units) is)))

  pub tops_labelled : (unit n : ℕ) (units : List (DwUnit ℕ)) → ((u : DwUnit ℕ) → In u units → NotPartial u) → Known (spots_from unit n units) → (t : Top) → In t (tops_from unit n (filed units))
      → LabelledTop t
  unfolding tops_from
  tops_labelled unit n [] kinds known t h = absurd h
  tops_labelled unit n (u ∷ units) kinds known t h =
      let first = row_tops (row_below file unit n (unit_map g u) (kind_map g u.kind)) in
      let h' = subst (λ (w : ℕ). In t (first ++ tops_from (suc unit) (n + w) (filed units))) (count_map g u.kind u.below) h in
      elim (in_cases t first (tops_from (suc unit) (n + top_count u.kind u.below) (filed units)) h') [
        | inl a ↦ (unit_row_labelled unit n u u.kind (kinds u (inl refl)) (known_below unit n u units known)).0 t a
        | inr b ↦ tops_labelled (suc unit) (n + top_count u.kind u.below) units (λ w is. kinds w (inr is)) (known_rest unit n u units known) t b
      ]

  pub units_named_at : (unit n : ℕ) (units : List (DwUnit ℕ)) → ((u : DwUnit ℕ) → In u units → NotPartial u) → Known (spots_from unit n units) → (i : ℕ) (v : FileUnit EntryName)
      → Nth unit (filed units) i v → IsNamedUnit i (row_from unit n (filed units) i) v.unit
  unfolding spots_from
  units_named_at unit n [] kinds known i v h = absurd h
  units_named_at unit n (u ∷ units) kinds known i v (inl x) =
      let here : IsNamedUnit unit (row_below file unit n (unit_map g u) (kind_map g u.kind)) (unit_map g u) = record {
        unit = spot_is spots once u.at (UnitOf unit) (known (u.at, UnitOf unit) (inl refl));
        root = spot_is spots once u.root.at (RootOf unit) (known (u.root.at, RootOf unit) (inr (inl refl)));
        below = (unit_row_labelled unit n u u.kind (kinds u (inl refl)) (known_below unit n u units known)).1;
      } in
      let row = sym (row_here unit n (in_file file (unit_map g u)) (filed units) i x.0) in
      subst (λ (w : Row). IsNamedUnit i w v.unit) row (subst (λ (w : FileUnit EntryName). IsNamedUnit i (row_below file unit n (unit_map g u) (kind_map g u.kind)) w.unit) x.1
      (subst (λ (w : ℕ). IsNamedUnit w (row_below file unit n (unit_map g u) (kind_map g u.kind)) (unit_map g u)) x.0 here))
  units_named_at unit n (u ∷ units) kinds known i v (inr r) =
      let later : unit ≡ i → ⊥ = λ e. omega (arith, e, nth_from (suc unit) (filed units) i v r) in
      let more = units_named_at (suc unit) (n + top_count u.kind u.below) units (λ w is. kinds w (inr is)) (known_rest unit n u units known) i v r in
      let counted = subst (λ (w : ℕ). IsNamedUnit i (row_from (suc unit) (n + w) (filed units) i) v.unit) (sym (count_map g u.kind u.below)) more in
      subst (λ (w : Row). IsNamedUnit i w v.unit) (sym (row_later unit n (in_file file (unit_map g u)) (filed units) i later)) counted
