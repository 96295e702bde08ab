-- The owner of an entry is the unit in which its name stands.
use Rattle.std.proofs.Common.{◌≡◌, ℕ, ◌+◌, Bool, false, List, ◌++◌, map, Option, Some, None, Ok, slice_get, refl, sym, ap, subst, ◌∙◌, inr, arith}
use Rattle.std.specs.Prelude.{slice_index_or}
use Rattle.dwz_def_reading.specs.Lists.{Each, In}
use Rattle.dwz_def_reading.specs.Trees.{End}
use Rattle.dwz_def_reading.specs.Units.{RawUnit}
use Rattle.dwz_def_reading.proofs.ListFacts.{get_first, got_in, got_map, in_map}
use Rattle.dwz_def_reading.specs.Documents.{Doc, DwUnit, unit_map}
use Rattle.dwz_def_reading.specs.Meanings.{Around}
use Rattle.dwz_def_reading.specs.Meant.{units_meaning}
use Rattle.dwz_def_reading.proofs.MeaningUnits.{units_agree}
use Rattle.dwz_def_tops.specs.Lists.{Nth}
use Rattle.dwz_def_tops.specs.Seen.{IsPartial}
use Rattle.dwz_def_tops.specs.Shown.{keys, unit_keys}
use Rattle.dwz_def_tops.proofs.Members.{each_in, each_of, nth_of}
use Rattle.dwz_unit.specs.Rows.{EntryRow, rows_of}
use Rattle.dwz_def_tops.specs.Spots.{EntryName, FileUnit, Top, Within, in_file, name_list, spot_in, spots_from, tops_of, units_of}
use Rattle.dwz_def_tops.proofs.TopNumbers.{top_at, tops_numbers}
use Rattle.dwz_def_tops.proofs.Tops.{one_top}
use Rattle.dwz_graph.specs.Index.{Index}
use Rattle.dwz_graph.specs.Names.{names_from, top_in}
use Rattle.dwz_graph.proofs.TopLemmas.{get_later}
use Rattle.dwz_def_images.specs.Homes.{Common, Home, Local}
use Rattle.dwz_def_images.specs.Moves.{Move, image_in}
use Rattle.dwz_plan.specs.declared.plan.Home.{Home as Place}
use Rattle.dwz_plan.specs.declared.plan.Home.TheVariants.{Common as InCommon, Local as InFile, Stay as InUnit}
use Rattle.dwz_plan.specs.Planned.{Planned}
use Rattle.dwz_plan.specs.ShowsMove.{HoldsAt, IsPlaceIn}
use Rattle.dwz_def_images.specs.After.{AreOld, ArePlaced}
use Rattle.dwz_def_images.specs.Units.{kept_unit, partial_unit}
use Rattle.dwz_def_images.proofs.OldFiles.{files_old}
use Rattle.dwz_graph.specs.AllNames.{all_names}
use Rattle.dwz_layout_numbers.specs.OwnerLaws.{AreMoved}
use Rattle.dwz_layout_numbers.specs.Owners.{IsFileWritten, IsOwner, all_written, owner_at, owner_by}
use Rattle.dwz_layout_numbers.specs.Whole.{IsFileAt}
use Rattle.dwz_layout_numbers.proofs.FileRuns.{files_run, tops_in_all}
use Rattle.dwz_layout_numbers.proofs.ImageLemmas.{located, top_inside}
use Rattle.dwz_layout_numbers.proofs.ImageSteps.{in_a_top}
use Rattle.dwz_layout_numbers.proofs.OwnerKeys.{own_keys, top_labelled, tree_top, unit_kept}
use Rattle.dwz_layout_numbers.proofs.OwnerSteps.{got_or}
use Rattle.dwz_layout_numbers.proofs.Paths.{paths_of}
use Rattle.dwz_layout_numbers.proofs.UnitNames.{of_unit}

one_number : (xs : List ℕ) (i m n : ℕ) → slice_get xs i ≡ Some m → slice_get xs i ≡ Some n → m ≡ n
one_number xs i m n e f = let z : Some m ≡ Some n = sym e ∙ f in cc

pub same_number : (m n : ℕ) (p q : List ℕ) → Within m p ≡ Within n q → m ≡ n
same_number m n p q e = cc

-- the names of a top's entries, where they stand among all
pub own_name : (docs : List (Doc ℕ)) (n top : ℕ) (path : List ℕ) → slice_get (all_names docs) n ≡ Some (Within top path)
    → (t : Top) × In t (tops_of (units_of docs)) × (t.number ≡ top) × In path (paths_of t.below)
own_name docs n top path e =
    let units = units_of docs in
    let lt = top_inside docs top path n e in
    let t = top_at 0 (tops_of units) top (tops_numbers units) (omega arith) (omega (arith, lt)) in
    let run = files_run 0 0 0 (tops_in_all docs) docs (omega arith) t.0 t.1 in
    let at : slice_get (all_names docs) n ≡ Some (Within t.0.number path) = e ∙ ap (λ (w : ℕ). Some (Within w path)) (sym t.2) in
    let l = located 0 (tops_in_all docs) t.0.number (all_names docs) (paths_of t.0.below) run n path at in
    (t.0, t.1, t.2, got_in (paths_of t.0.below) l.0 path l.2)

module _ (docs : List (Doc ℕ)) (m : Move) (planned : Planned) (written : List Bool) (commons : ℕ) (parts olds : List ℕ) (h : AreMoved docs m planned written commons parts olds) where
  abbrev units : List (FileUnit EntryName)
  units = units_of docs

  abbrev Owned : EntryName → ℕ → Type 0
  Owned s owner = IsOwner m (units_of docs) written s owner

  old : AreOld (units_of docs)
  old = files_old docs h.placed

  -- ---- in a partial unit

  part_owned : (top p : ℕ) (hm : Home) (path : List ℕ) → HoldsAt m.parts p hm (m.stand top) → image_in m (Within top path) ≡ Within top path
      → (t : Top) → In t (tops_of (units_of docs)) → t.number ≡ top → In path (paths_of t.below) → (kept : ℕ) → Owned (Within top path) (slice_index_or parts p kept)
  unfolding unit_keys
  part_owned top p hm path at fixed t is number there kept =
      let stand : m.stand top ≡ t.number = same_number (m.stand top) top path path fixed ∙ sym number in
      let none : 0 + p ≡ p = omega arith in
      let nth : Nth 0 m.parts p at.part = subst (λ (w : ℕ). Nth 0 m.parts w at.part) none (nth_of 0 m.parts p at.part at.there) in
      let has = h.holds p at.part nth t is (subst (λ (w : ℕ). In w (map (λ (x : Top). x.number) at.part.tops)) stand at.holds) in
      let s = Within top path in
      let own : In s (own_keys t) = subst (In s) (sym (top_labelled t (old.tops_named t is)))
      (subst (λ (w : ℕ). In (Within w path) (map (Within t.number) (paths_of t.below))) number (in_map (Within t.number) path (paths_of t.below) there)) in
      let mapped : In s (map (image_in m) (own_keys t)) = subst (λ (w : EntryName). In w (map (image_in m) (own_keys t))) fixed (in_map (image_in m) s (own_keys t) own) in
      let below : In s (keys (partial_unit m p).below) = tree_top (image_in m) (m.rows p) End (name_list t) t has s mapped in
      let n = h.numbers.parts_are p at.part nth in
      record {
        unit = partial_unit m p;
        is = ap (slice_get (all_written m units written)) (got_or parts p n.0 kept n.1) ∙ n.2;
        has = inr (inr below);
      }

  -- ---- in the entry's own unit

  module _ (file : ℕ) (x : Index) (start : ℕ) (f : IsFileAt docs file x start) (is_written : IsFileWritten written file) (around : Around ℕ) (raw : List RawUnit)
      (means : units_meaning around raw ≡ Ok f.doc.units) where
    abbrev name : ℕ → EntryName
    name = spot_in (spots_from f.starts.unit f.starts.top f.doc.units)

    whole : Each (λ v. IsPartial v.kind → ⊥) f.doc.units
    whole = each_of (λ (v : DwUnit ℕ). IsPartial v.kind → ⊥) f.doc.units (each_in (λ (doc : Doc ℕ). ArePlaced doc.units) f.doc docs h.placed (got_in docs file f.doc f.is_doc)).kinds

    kept_owned : (entry : ℕ) (row : EntryRow) (s : EntryName) → slice_get (rows_of raw) entry ≡ Some row → slice_get (names_from f.starts.unit f.starts.top f.doc.units) entry ≡ Some s
        → image_in m s ≡ s
        → ((t : Top) (path : List ℕ) → In t (tops_of (units_of docs)) → s ≡ Within t.number path → In path (paths_of t.below) × (m.gone t.number ≡ false))
        → (kept : ℕ) → slice_get olds (f.starts.unit + row.unit) ≡ Some kept → Owned s kept
    kept_owned entry row s got_row got_name fixed stays kept got_kept =
        let mean = ((units_agree around raw).ok f.doc.units).0 means in
        let o = of_unit around file name raw f.doc.units mean whole f.starts.unit f.starts.top 0 0 entry row s got_row got_name in
        let i = o.0 in
        let w = o.2 in
        let at_i = o.1 in
        let number = w.number in
        let u = in_file file (unit_map name w.v) in
        let got_u = got_map (in_file file) (map (unit_map name) f.doc.units) w.k (unit_map name w.v) (got_map (unit_map name) f.doc.units w.k w.v w.is) in
        let nth : Nth 0 units i u = subst (λ (n : ℕ). Nth 0 units n u) (sym number) (f.units w.k u got_u) in
        let there = unit_kept units m old file name i w.first w.v nth (λ t is. f.tops t (w.tops t is)) s fixed stays w.own in
        let n = h.numbers.olds_are i u nth is_written in
        let same : f.starts.unit + row.unit ≡ i = omega arith in
        let here : n.0 ≡ kept = one_number olds i n.0 kept n.1 (ap (slice_get olds) (sym same) ∙ got_kept) in
        record { unit = kept_unit m units i u; is = ap (slice_get (all_written m units written)) (sym here) ∙ n.2; has = there }

    pub owned : (entry : ℕ) (row : EntryRow) (s : EntryName) → slice_get (rows_of raw) entry ≡ Some row → slice_get (names_from f.starts.unit f.starts.top f.doc.units) entry ≡ Some s
        → image_in m s ≡ s
        → (kept : ℕ) → slice_get olds (f.starts.unit + row.unit) ≡ Some kept → Owned s (owner_by planned parts kept (top_in s))
    owned entry row s got_row got_name fixed kept got_kept = by (top_in s) refl where
      names : List EntryName
      names = names_from f.starts.unit f.starts.top f.doc.units

      among : slice_get (all_names docs) (start + entry) ≡ Some s
      among =
          (λ j. slice_get (f.stand.parts j) (sym f.stand.start_is j + entry))
          ∙ get_later f.stand.before (names_from f.starts.unit f.starts.top f.doc.units ++ f.stand.after) entry s
          (get_first (names_from f.starts.unit f.starts.top f.doc.units) f.stand.after entry s got_name)

      image_fixed : (top : ℕ) (path : List ℕ) → s ≡ Within top path → image_in m (Within top path) ≡ Within top path
      image_fixed top path e = subst (λ (w : EntryName). image_in m w ≡ w) e fixed

      placed : (top : ℕ) (path : List ℕ) → s ≡ Within top path → (t : Top) → In t (tops_of (units_of docs)) → t.number ≡ top → In path (paths_of t.below) → (p : Place)
          → IsPlaceIn m top p → Owned s (owner_at parts kept p)
      placed top path e t is number there (InCommon p) q = subst (λ (w : EntryName). Owned w (slice_index_or parts p kept)) (sym e)
          (part_owned top p Common path q.1 (image_fixed top path e) t is number there kept)
      placed top path e t is number there (InFile p) q = subst (λ (w : EntryName). Owned w (slice_index_or parts p kept)) (sym e)
          (part_owned top p (Local q.0) path q.2 (image_fixed top path e) t is number there kept)
      placed top path e t is number there InUnit q = kept_owned entry row s got_row got_name fixed stays kept got_kept where
        stays : (v : Top) (r : List ℕ) → In v (tops_of (units_of docs)) → s ≡ Within v.number r → In r (paths_of v.below) × (m.gone v.number ≡ false)
        stays v r is_v e' =
            let one : v.number ≡ top = same_number v.number top r path (sym e' ∙ e) in
            let same : t ≡ v = one_top (units_of docs) t v is is_v (number ∙ sym one) in
            let o = own_name docs (start + entry) v.number r (among ∙ ap (λ (w : EntryName). Some w) e') in
            let same_o : o.0 ≡ v = one_top (units_of docs) o.0 v o.1 is_v o.2 in
            (subst (λ (w : Top). In r (paths_of w.below)) same_o o.3, (ap m.gone one ∙ q))

      by : (o : Option ℕ) → top_in s ≡ o → Owned s (owner_by planned parts kept o)
      by None e = kept_owned entry row s got_row got_name fixed (λ t path is e'. absurd (let z : None ≡ Some t.number = sym e ∙ ap top_in e' in cc)) kept got_kept
      by (Some top) e =
          let w = in_a_top top s e in
          let o = own_name docs (start + entry) top w.0 (among ∙ ap (λ (v : EntryName). Some v) w.1) in
          let place = slice_index_or planned.homes top InUnit in
          let shown : IsPlaceIn m top place = subst (λ (n : ℕ). IsPlaceIn m n (slice_index_or planned.homes n InUnit)) o.2 (h.shows.homes o.0 o.1) in
          placed top w.0 w.1 o.0 o.1 o.2 o.3 place shown
