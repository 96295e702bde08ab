-- The new units of a file show its sources, so the file without its partial units means what it meant.
use Rattle.std.proofs.Common.{◌≡◌, ℕ, suc, Bool, List, [], ◌∷◌, map, refl, sym, ap, subst, ◌∙◌}
use Rattle.dwz_def_reading.specs.Refusal.{Refusal}
use Rattle.dwz_def_reading.specs.Lists.{Each, In}
use Rattle.dwz_def_reading.specs.Documents.{Attr, Compile, DwUnit, Entries, Kind, OfType, Partial, attr_map, entries_map, kind_map}
use Rattle.dwz_def_reading.specs.Meanings.{scope_of}
use Rattle.dwz_def_reading.specs.Places.{Place}
use Rattle.dwz_def_reading.specs.Trees.{End, Entry}
use Rattle.dwz_def_tops.specs.Seen.{IsPartial, Named, named_map, named_value}
use Rattle.dwz_def_tops.specs.Shown.{AreShown, HasMain, keys}
use Rattle.dwz_def_encoding.specs.Meant.{KindSays, entry_keys, placed_attr, placed_entries, placed_units}
use Rattle.dwz_def_encoding.specs.Writing.{Numbering}
use Rattle.dwz_def_encoding.proofs.ReadAgain.{keys_read, kind_says}
use Rattle.dwz_def_cross.specs.CrossSame.{CrossSame}
use Rattle.dwz_def_expand.specs.Alone.{IsByItself}
use Rattle.dwz_def_expand.specs.Chosen.{Choice, chosen_attr, chosen_entries, chosen_units}
use Rattle.dwz_def_expand.specs.OneFile.{OneFile, ReadsOne, around, said_by_file, same_place}
use Rattle.dwz_def_expand.specs.Output.{ExpandRefusal, forms, new_places}
use Rattle.dwz_def_expand.specs.Source.{Copy, copies, copy_for, source_places, source_units}
use Rattle.dwz_def_expand.specs.Written.{written}
use Rattle.dwz_def_expand.proofs.ChosenLemmas.{chosen_alone}
use Rattle.dwz_def_expand.proofs.FileLemmas.{places_apart, test}
use Rattle.dwz_def_expand.proofs.RefusalLemmas.{all_copied}
use Rattle.dwz_def_expand.specs.After.{units_after, SpacesFit, new_units}
use Rattle.dwz_law_expand.specs.Told.{IsOfBytes}
use Rattle.dwz_law_expand.proofs.AlikeLemmas.{cross_same}
use Rattle.dwz_law_expand.proofs.FoundLemmas.{own_said}
use Rattle.dwz_law_expand.proofs.SameLemmas.{AllShown, Shows}

-- ---- copies with their forms, at their places, show the sources

module _ {P Q : Type 0} (c : Choice P) (m : Numbering (Copy P)) (place : Copy P → Q) (h : P → Copy P) (unit : ℕ) where
  abbrev g : P → Q
  g p = place (h p)

  refs_shown : (refs : List P) → map place (map h refs) ≡ map g refs
  refs_shown [] = refl
  refs_shown (p ∷ refs) = ap (λ (w : List Q). g p ∷ w) (refs_shown refs)

  attrs_shown : (k : Copy P) (attrs : List (Attr P)) → map named_value (map (placed_attr m place unit) (map (chosen_attr c k) (map (attr_map h) attrs))) ≡ map (named_map g) (map named_value attrs)
  attrs_shown k [] = refl
  attrs_shown k (a ∷ attrs) =
      ap (λ (w : List Q). record { name = a.name; value = record { plain = a.value.plain; refs = w; address = a.value.address } } ∷ map named_value (map (placed_attr m place unit) (map (chosen_attr c k) (map (attr_map h) attrs))))
      (refs_shown a.value.refs)
      ∙ ap (λ (w : List (Named Q)). named_map g (named_value a) ∷ w) (attrs_shown k attrs)

  entries_shown : (f : Entries P) → AreShown g f (placed_entries m place unit (chosen_entries c (entries_map h f)))
  unfolding entries_map chosen_entries placed_entries
  entries_shown End = tt
  entries_shown (Entry e children next) = (record { at = refl; tag = refl; attrs = attrs_shown (h e.at) e.attrs }, entries_shown children, entries_shown next)

  kind_shown : (k : Kind P) → kind_map place (kind_map h k) ≡ kind_map g k
  kind_shown Compile = refl
  kind_shown (OfType s t) = refl
  kind_shown Partial = refl

units_shown : {P Q : Type 0} (same : P → P → Bool) (c : Choice P) (m : Numbering (Copy P)) (place : Copy P → Q) (places : List (List P)) (s : ℕ) (us : List (DwUnit P))
    → AllShown (λ n p. place (copy_for same places n p)) s us (placed_units m place (chosen_units c (copies same places s us)))
unfolding copies
units_shown same c m place places s [] = tt
units_shown same c m place places s (u ∷ us) =
    let h = copy_for same places s in
    let unit = m.place (h u.at) in (
      record {
        kind = kind_shown c m place h unit u.kind;
        root = record { at = refl; tag = refl; attrs = attrs_shown c m place h unit (h u.root.at) u.root.attrs };
        below = entries_shown c m place h unit u.below;
      },
      units_shown same c m place places (suc s) us,
    )

-- none of them is partial
placed_whole : {K Q : Type 0} (m : Numbering K) (place : K → Q) (units : List (DwUnit K)) → Each IsByItself units → Each (λ u. ¬ IsPartial u.kind) (placed_units m place units)
placed_whole m place [] h = tt
placed_whole {K} {Q} m place (u ∷ units) h = (by u.kind h.0.0, placed_whole m place units h.1) where
  by : (k : Kind K) → ¬ IsPartial k → ¬ IsPartial (kind_map place k)
  by Compile no_ = no_
  by (OfType s t) no_ = no_
  by Partial no_ = λ is. no_ is

-- the type of a type unit is an entry of it
main_of : (f : OneFile) → IsOfBytes f → ReadsOne f → (u : DwUnit Place) → In u f.file.doc.units → HasMain u
main_of f bytes reads u there signature main kind =
    let said = own_said f.common f.file reads bytes.0 u there in
    let s = scope_of (around f 0) said.0 in
    let own : entry_keys u ≡ map s.around.place s.own = ap (λ (p : Place). p ∷ keys u.below) said.1.means.root.place
    ∙ ap (λ (ks : List Place). s.around.place said.0.root.at ∷ ks) (keys_read s said.0.below u.below said.1.means.below) in
    let says : KindSays (entry_keys u) u.kind = subst (λ (ks : List Place). KindSays ks u.kind) (sym own) (kind_says s said.0.kind u.kind said.1.means.kind) in
    subst (λ (k : Kind Place). KindSays (entry_keys u) k) kind says

pub same_meaning : (f : OneFile) → IsOfBytes f → ReadsOne f → ((q : Refusal) → ¬ ExpandRefusal f q) → SpacesFit same_place (said_by_file f) → CrossSame (said_by_file f) (record { own = units_after f; common = [] })
unfolding written
same_meaning f bytes reads free fit =
    let shows : Shows Place ℕ = record {
      same = same_place;
      test = test;
      w = said_by_file f;
      apart = places_apart f reads;
      c = forms f;
      copied = all_copied f free;
      fit = fit;
      mains = main_of f bytes reads;
      place = (new_places f).place;
      xs = units_after f;
      whole_xs = placed_whole (new_places f) (new_places f).place (new_units f) (chosen_alone same_place (forms f) (said_by_file f));
      shows = units_shown same_place (forms f) (new_places f) (new_places f).place (source_places same_place (said_by_file f)) 0 (source_units same_place (said_by_file f));
    } in
    cross_same shows
