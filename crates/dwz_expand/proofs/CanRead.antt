-- The values of a copied entry mean something, and what their lists name has copies.
use Rattle.std.proofs.Common.{◌≡◌, ◌∙◌, ℕ, ◌<◌, suc, List, [], ◌∷◌, Some, Ok, slice_get, inl, inr, refl, sym, ap, subst}
use Rattle.dwz_model.specs.Lists.{In}
use Rattle.dwz_model.specs.declared.fault.Fault.{Fault}
use Rattle.dwz_def_reading.specs.Documents.{Attr, Node}
use Rattle.dwz_def_reading.specs.Entries.{RawAttr}
use Rattle.dwz_def_reading.specs.FirstOf.{OfFirst}
use Rattle.dwz_def_reading.specs.Meanings.{target_of, without_siblings}
use Rattle.dwz_def_reading.specs.Meant.{attr_with, attrs_meaning, meaning, node_meaning, with_attr}
use Rattle.dwz_def_reading.specs.Reading.{◌>>=◌}
use Rattle.dwz_def_reading.specs.Units.{RawUnit, entries_in}
use Rattle.dwz_def_reading.proofs.PartLemmas.{bind_ok}
use Rattle.dwz_def_cross.specs.Tops.{WithCommon}
use Rattle.dwz_def_expand.specs.OneFile.{OneFile}
use Rattle.dwz_def_expand.specs.Chosen.{Choice}
use Rattle.dwz_def_expand.specs.Refusals.{IsLost, LostFault, Site, SiteFault, Where, not_imported, sites, with_numbers}
use Rattle.dwz_def_expand.specs.Source.{source_places}
use Rattle.dwz_expand_sources.specs.Imports.{same}
use Rattle.dwz_expand_sources.specs.Index.{listed_units}
use Rattle.dwz_check_labels.proofs.EntryLemmas.{row_of}
use Rattle.dwz_graph.proofs.TreeLemmas.{node_attrs}
use Rattle.dwz_unit.specs.Rows.{EntryRow, rows_of}
use Rattle.dwz_expand.specs.OneKnown.{stands_of}
use Rattle.dwz_expand_layout.specs.Laid.{Made}
use Rattle.dwz_expand_passes.proofs.LineSteps.{node_there}
use Rattle.dwz_expand_passes.specs.declared.new_file.NewFile.{NewFile}
use Rattle.dwz_expand_passes.specs.Noted.{plan_sources}
use Rattle.dwz_expand_passes.specs.Passes.{forms_in}
use Rattle.dwz_expand.specs.Units.{IsLaidOf, IsOfOne}
use Rattle.dwz_expand.proofs.PlanSites.{planned_line, planned_site}
use Rattle.dwz_expand_passes.specs.Files.{raw_in}
use Rattle.dwz_expand_passes.proofs.FitLemmas.{got_first_entry}
use Rattle.dwz_expand.specs.Gathered.{CanBeRead, own_around, own_scope}
use Rattle.dwz_expand.proofs.KeptTargets.{targets_kept}

-- where none of a list has one, each has none
none_at : {X Y : Type 0} (Has : Y → X → Type 0) (ys : List Y) → ((x : X) → ¬ OfFirst Has ys x) → (y : Y) → In y ys → (x : X) → ¬ Has y x
none_at Has [] none y there x h = absurd there
none_at Has (z ∷ ys) none y (inl is) x h = none x (inl (subst (λ (v : _). Has v x) (sym is) h))
none_at Has (z ∷ ys) none y (inr later) x h = none_at Has ys (λ e k. none e (inr ((λ g j. none g (inl j)), k))) y later x h

module _ (units : List (List ℕ)) (at : Where ℕ) (s : Site ℕ) where
  none_lost : (n : ℕ) (refs : List ℕ) → ((f : Fault) → ¬ OfFirst (LostFault same units at s) (with_numbers n refs) f) → (p : ℕ) → In p refs → ¬ IsLost same units s.unit p
  unfolding with_numbers
  none_lost n [] none p there lost = absurd there
  none_lost n (q ∷ refs) none p (inl is) lost =
      none (not_imported (at.named s.source s.index n)) (inl (subst (λ (r : ℕ). IsLost same units s.unit r) (sym is) lost, refl))
  none_lost n (q ∷ refs) none p (inr later) lost = none_lost (suc n) refs (λ f k. none f (inr ((λ g j. none g (inl j)), k))) p later lost

  site_kept : (c : Choice ℕ) → ((f : Fault) → ¬ SiteFault same units c at s f) → (p : ℕ) → In p s.attr.value.refs → ¬ IsLost same units s.unit p
  site_kept c none = none_lost 0 s.attr.value.refs (λ f h. none f (inl h))

module _ (x : NewFile) (w : WithCommon ℕ) (n : ℕ) (u : RawUnit) where
  all_read : (raw : List RawAttr) (attrs : List (Attr ℕ)) → attrs_meaning (own_scope x u) raw ≡ Ok attrs
      → ((index : ℕ) (b : Attr ℕ) → slice_get attrs index ≡ Some b → (p : ℕ) → In p b.value.refs → ¬ IsLost same (source_places same w) n p)
      → CanBeRead x w n u raw
  unfolding attrs_meaning
  all_read [] attrs e kept = tt
  all_read (a ∷ raw) attrs e kept =
      let s = own_scope x u in
      let m = bind_ok (meaning s a) (λ v. attrs_meaning s raw >>= with_attr a v) attrs e in
      let y = bind_ok (attrs_meaning s raw) (with_attr a m.0) attrs m.2 in
      let z : attr_with a m.0 ∷ y.0 ≡ attrs = cc in
      let first : slice_get attrs 0 ≡ Some (attr_with a m.0) = ap (λ (bs : List (Attr ℕ)). slice_get bs 0) (sym z) in (
        (m.0, m.1, λ o there. kept 0 (attr_with a m.0) first (target_of s o) (targets_kept x u a m.0 m.1 o there)),
        all_read raw y.0 y.1 (λ index b got. kept (suc index) b (ap (λ (bs : List (Attr ℕ)). slice_get bs (suc index)) (sym z) ∙ got)),
      )

module _ (f : OneFile) (x : NewFile) (k : IsOfOne f x) (made : Made) (l : IsLaidOf f x made) where
  pub can_read : (n i : ℕ) (row : EntryRow) (u : RawUnit) → In (n, i) (plan_sources x.sources.now.ranges 0 x.sources.now.units) → i < entries_in (raw_in x.own)
      → slice_get (rows_of (raw_in x.own)) i ≡ Some row → slice_get (raw_in x.own) row.unit ≡ Some u → CanBeRead x k.w n u (without_siblings row.entry.attrs)
  can_read n i row u there lt got is_unit =
      let raw = raw_in x.own in
      let around = own_around x in
      let means = k.says.own.means in
      let line = planned_line k.w x.sources.now k.says.are k.says.apart n i there in
      let places = source_places same k.w in
      let d = node_there k.w i line.0 line.1 in
      let listed : slice_get (listed_units k.w.own) i ≡ Some d.0 = got_first_entry k.w.own k.w.common raw around means i d.0 lt d.1 in
      let o = row_of around raw k.w.own i d.0 means listed in
      let row_is : o.row ≡ row = (let both : Some o.row ≡ Some row = sym o.found ∙ got in cc) in
      let unit_is : o.u ≡ u = (let both : Some o.u ≡ Some u = sym o.is_unit ∙ ap (λ (r : EntryRow). slice_get raw r.unit) row_is ∙ is_unit in cc) in
      let said : node_meaning (own_scope x u) row.entry ≡ Ok d.0.0 = (λ j. node_meaning (own_scope x (sym unit_is j)) (sym row_is j).entry) ∙ o.means in
      let attrs = node_attrs (own_scope x u) row.entry d.0.0 said in
      let free = l.new.free k.w (stands_of f k.place) k.says in
      all_read x k.w n u (without_siblings row.entry.attrs) d.0.0.attrs attrs.0 (λ index b at p named. (
      let mine : slice_get line.0.node.attrs index ≡ Some b = ap (λ (e : Node ℕ). slice_get e.attrs index) (sym d.2) ∙ at in
      let s : Site ℕ = record { unit = n; source = line.0.node.at; index = index; attr = b } in
      let there_site : In s (sites same k.w) = planned_site k.w x.sources.now k.says.are k.says.apart n i index line.0 b there line.1 mine in
      site_kept places (stands_of f k.place) s (forms_in x k.w)
      (none_at (SiteFault same places (forms_in x k.w) (stands_of f k.place)) (sites same k.w) free s there_site) p named))
