-- What is known of a file and its common one is known of each of their entries.
use Rattle.std.proofs.Common.{◌≡◌, ℕ, zero, suc, ◌+◌, ◌-◌, ◌<◌, ◌≤◌, false, List, [], ◌∷◌, ◌++◌, length, map, Option, Some, None, Ok, slice_get, refl, sym, ap, subst, ◌∙◌, arith, inl, inr}
use Rattle.dwz_model.specs.Lists.{In, NoneTwice}
use Rattle.std.proofs.lemmas.Bool.{cases_lt}
use Rattle.dwz_model.proofs.ListFacts.{get_first, got_in, got_map, in_map}
use Rattle.dwz_model.proofs.OnceLemmas.{none_both, none_left}
use Rattle.dwz_def_reading.specs.Documents.{DwUnit, Kind, entries_map, node_map, unit_map}
use Rattle.dwz_def_reading.specs.Meanings.{Around, Common, MeaningContext, MeansKind, MeansUnit, all_places, scope_of}
use Rattle.dwz_def_reading.specs.Meant.{units_meaning}
use Rattle.dwz_def_reading.specs.Units.{CompileUnit, PartialUnit, RawKind, RawUnit, TypeUnit, entries_in}
use Rattle.dwz_def_tops.specs.Shown.{keys, unit_keys, units_keys}
use Rattle.dwz_def_tops.proofs.ShownLemmas.{unit_key}
use Rattle.dwz_def_encoding.specs.Bases.{Bases}
use Rattle.dwz_def_encoding.specs.Meant.{entry_keys}
use Rattle.dwz_def_encoding.specs.Placing.{CommonUnit, holder_of}
use Rattle.dwz_def_encoding.proofs.ReadAgain.{bases_read}
use Rattle.dwz_def_tops.proofs.UnitKeys.{keys_joined}
use Rattle.dwz_def_cross.specs.Tops.{WithCommon}
use Rattle.dwz_def_expand.specs.Chosen.{role_in, slots_of_unit, unit_with_entry}
use Rattle.dwz_def_expand.specs.Refusals.{Where}
use Rattle.dwz_def_expand.specs.Source.{Copy}
use Rattle.dwz_law_expand.proofs.SiteLemmas.{owner_is, owner_none}
use Rattle.dwz_graph.specs.Here.{Here}
use Rattle.dwz_graph.specs.Places.{place_at}
use Rattle.dwz_graph.specs.Resolved.{IsHere}
use Rattle.dwz_graph.specs.Surroundings.{behind_own, entries_among, place_among}
use Rattle.dwz_graph.proofs.PlaceLemmas.{places_are, places_many}
use Rattle.dwz_graph.proofs.SurroundingLemmas.{own_place}
use Rattle.dwz_unit.specs.Rows.{EntryRow, rows_of}
use Rattle.dwz_label_entries.proofs.AttrsLemmas.{entry_in}
use Rattle.dwz_expand_sources.specs.Index.{ListedEntry, listed_units}
use Rattle.dwz_check_labels.proofs.RefLemmas.{common_place}
use Rattle.dwz_expand_sources.specs.Imports.{same}
use Rattle.dwz_encode.specs.Shown.{Keys}
use Rattle.dwz_expand_sources.specs.Sources.{all_entries}
use Rattle.dwz_expand_sources.proofs.ForLemmas.{tests}
use Rattle.dwz_expand_passes.specs.declared.files.Known.{Known}
use Rattle.dwz_expand_passes.specs.declared.files.SourceFile.{SourceFile}
use Rattle.dwz_expand_passes.specs.Files.{KnowsCommon, KnowsFile, Knows, around_at, around_beside, common_of, forms_of, holder_for, raw_in}
use Rattle.dwz_expand_passes.specs.Known.{StandsAt}
use Rattle.dwz_expand_passes.proofs.PlacesSaid.{entry_said, first_got, got_second, key_said, keys_mapped, said_many, second_got, unit_said, units_joined, units_mapped, units_mean}

-- ---- entries among all

module _ (own common : List (DwUnit ℕ)) (raw : List RawUnit) (around : Around ℕ) (means : units_meaning around raw ≡ Ok own) where
  abbrev w : WithCommon ℕ
  w = record { own = own; common = common }

  own_many : length (listed_units own) ≡ entries_in raw
  own_many = said_many around raw own means

  -- an entry of the file
  pub stands_first : (i p : ℕ) (d : ListedEntry ℕ) → slice_get (listed_units own) i ≡ Some d → d.0.at ≡ p → StandsAt w i p
  stands_first i p d found at = (d, ap (λ (l : List (ListedEntry ℕ)). slice_get l i) (units_joined own common) ∙ get_first (listed_units own) (listed_units common) i d found, at)

  -- one of the common file
  pub stands_second : (i p : ℕ) (d : ListedEntry ℕ) → slice_get (listed_units common) i ≡ Some d → d.0.at ≡ p → StandsAt w (entries_in raw + i) p
  stands_second i p d found at = (
    d,
    ap (λ (l : List (ListedEntry ℕ)). slice_get l (entries_in raw + i)) (units_joined own common)
        ∙ ap (λ (n : ℕ). slice_get (listed_units own ++ listed_units common) (n + i)) (sym own_many) ∙ got_second (listed_units own) (listed_units common) i d found,
    at,
  )

  pub got_first_entry : (i : ℕ) (d : ListedEntry ℕ) → i < entries_in raw → slice_get (all_entries w) i ≡ Some d → slice_get (listed_units own) i ≡ Some d
  got_first_entry i d lt found =
      first_got (listed_units own) (listed_units common) i d (let n = own_many in omega arith) (ap (λ (l : List (ListedEntry ℕ)). slice_get l i) (sym (units_joined own common)) ∙ found)

  pub got_second_entry : (i : ℕ) (d : ListedEntry ℕ) → entries_in raw ≤ i → slice_get (all_entries w) i ≡ Some d → slice_get (listed_units common) (i - entries_in raw) ≡ Some d
  got_second_entry i d le found =
      ap (λ (n : ℕ). slice_get (listed_units common) (i - n)) (sym own_many)
      ∙ second_got (listed_units own) (listed_units common) i d (let n = own_many in omega arith) (ap (λ (l : List (ListedEntry ℕ)). slice_get l i) (sym (units_joined own common)) ∙ found)

-- an entry of the common file, where its places have others
pub common_entry : (raw : List RawUnit) (around : Around ℕ) (said common : List (DwUnit ℕ)) → units_meaning around raw ≡ Ok said → around.place ≡ (λ n. n) → common ≡ map (unit_map behind_own) said
    → (i : ℕ)
    → i < entries_in raw → (d : ListedEntry ℕ) × (slice_get (listed_units common) i ≡ Some d) × (d.0.at ≡ behind_own (place_at raw i))
common_entry raw around said common means own are i lt =
    let e = entry_said around raw said means i lt in
    let one : ListedEntry ℕ → ListedEntry ℕ = λ (x : ListedEntry ℕ). (node_map behind_own x.0, entries_map behind_own x.1) in (
      one e.0,
      ap (λ (us : List (DwUnit ℕ)). slice_get (listed_units us) i) are ∙ ap (λ (l : List (ListedEntry ℕ)). slice_get l i) (units_mapped behind_own said)
          ∙ got_map one (listed_units said) i e.0 e.1,
      ap behind_own (e.2 ∙ ap (λ (g : ℕ → ℕ). g (place_at raw i)) own),
    )

-- the entry that it is there
pub common_source : (said common : List (DwUnit ℕ)) → common ≡ map (unit_map behind_own) said → (i : ℕ) (d : ListedEntry ℕ) → slice_get (listed_units common) i ≡ Some d
    → (e : ListedEntry ℕ) × (slice_get (listed_units said) i ≡ Some e) × (d.0 ≡ node_map behind_own e.0)
common_source said common are i d found =
    let one : ListedEntry ℕ → ListedEntry ℕ = λ (x : ListedEntry ℕ). (node_map behind_own x.0, entries_map behind_own x.1) in
    let mapped : slice_get (map one (listed_units said)) i ≡ Some d =
    ap (λ (l : List (ListedEntry ℕ)). slice_get l i) (sym (units_mapped behind_own said)) ∙ ap (λ (us : List (DwUnit ℕ)). slice_get (listed_units us) i) (sym are) ∙ found in
    from_map one (listed_units said) i d mapped
  where
    from_map : (f : ListedEntry ℕ → ListedEntry ℕ) (xs : List (ListedEntry ℕ)) (k : ℕ) (y : ListedEntry ℕ) → slice_get (map f xs) k ≡ Some y
        → (x : ListedEntry ℕ) × (slice_get xs k ≡ Some x) × (y.0 ≡ (f x).0)
    from_map f [] k y e = absurd cc
    from_map f (x ∷ xs) zero y e = (let s : f x ≡ y = cc in (x, refl, sym (ap (λ (z : ListedEntry ℕ). z.0) s)))
    from_map f (x ∷ xs) (suc k) y e = from_map f xs k y e

-- ---- what the file and its common one refer to

pub all_found : (x : Known) (w : WithCommon ℕ) (keys : Keys (Copy ℕ)) (stands : Where ℕ) → Knows x w keys stands → (j : ℕ) → j < entries_among (common_of x.common) (raw_in x.own)
    → StandsAt w j (place_among (common_of x.common) (raw_in x.own) j)
all_found x w keys stands k j low = by x.common refl low k.common where
  raw : List RawUnit
  raw = raw_in x.own

  mine : (c : Option (Common ℕ)) → j < entries_in raw → StandsAt w j (place_among c raw j)
  mine c lt =
      let e = entry_said (around_at x) raw w.own k.own.means j lt in
      stands_first w.own w.common raw (around_at x) k.own.means j (place_among c raw j) e.0 e.1 (e.2 ∙ sym (own_place c raw j lt))

  by : (c : Option SourceFile) → x.common ≡ c → j < entries_among (common_of c) raw → KnowsCommon c w.common stands → StandsAt w j (place_among (common_of c) raw j)
  by None is lt h = mine None lt
  by (Some c) is lt h = elim (cases_lt j (entries_in raw)) [
    | inl less ↦ mine (common_of (Some c)) less
    | inr le ↦
        let many = ap (λ (ps : List ℕ). length ps) (places_are (raw_in c)) in
        let e = common_entry (raw_in c) (around_beside c None) h.0 w.common h.1.means refl h.2 (j - entries_in raw) (omega (arith, lt, le, many, places_many (raw_in c))) in
        let at : entries_in raw + (j - entries_in raw) ≡ j = omega arith in
        subst (λ (n : ℕ). StandsAt w n (place_among (common_of (Some c)) raw j)) at
        (stands_second w.own w.common raw (around_at x) k.own.means (j - entries_in raw) (place_among (common_of (Some c)) raw j) e.0 e.1
        (e.2 ∙ sym (common_place (record { entries = all_places (raw_in c); place = behind_own; strs = c.sections.now.strs.bytes.now }) raw (raw_in c) j (entries_in raw) refl le refl)))
  ]

-- ---- keys of units

own_key : (units : List (DwUnit ℕ)) (y : DwUnit ℕ) (p : ℕ) → In y units → In p (entry_keys y) → In p (units_keys units)
unfolding unit_keys
own_key units y p y_is y_key = unit_key units y p y_is (inr y_key)

key_there : (v : DwUnit ℕ) (p : ℕ) → In p (entry_keys v) → In (behind_own p) (unit_keys (unit_map behind_own v))
unfolding unit_keys
key_there v p is = inr (subst (λ (ks : List ℕ). In (behind_own p) ks) (keys_mapped behind_own v) (in_map behind_own p (entry_keys v) is))

-- ---- what holds a unit

holder_said : (s : MeaningContext ℕ) (kind : RawKind) (k : Kind ℕ) → MeansKind s kind k → holder_of false k ≡ holder_for kind
holder_said s CompileUnit k h = ap (λ (x : Kind ℕ). holder_of false x) h
holder_said s PartialUnit k h = ap (λ (x : Kind ℕ). holder_of false x) h
holder_said s (TypeUnit signature offset) k h = ap (λ (x : Kind ℕ). holder_of false x) h.1

module _ (x : Known) (w : WithCommon ℕ) (keys : Keys (Copy ℕ)) (stands : Where ℕ) (k : Knows x w keys stands) where
  own_once : NoneTwice (units_keys w.own)
  own_once = none_left (units_keys w.own) (units_keys w.common) (subst NoneTwice (keys_joined w.own w.common) k.copies.apart)

  -- the unit of an entry of the file, as it is said
  pub record OwnUnit (row : EntryRow) (u : RawUnit) : Type 0 where
    pub v : DwUnit ℕ
    pub there : In v w.own
    pub means : MeansUnit (around_at x) u v
    pub owner : unit_with_entry same w.own row.entry.at ≡ Some v

  pub own_unit : (i : ℕ) (row : EntryRow) (u : RawUnit) → slice_get (rows_of (raw_in x.own)) i ≡ Some row → slice_get (raw_in x.own) row.unit ≡ Some u → OwnUnit row u
  own_unit i row u found is_unit =
      let raw = raw_in x.own in
      let v = unit_said (around_at x) raw w.own (units_mean (around_at x) raw w.own k.own.means) row.unit u is_unit in
      let there = got_in w.own row.unit v.0 v.1 in
      let key = key_said (around_at x) u v.0 row.entry v.2 (entry_in raw i row.unit row u found refl is_unit) in
      record { v = v.0; there = there; means = v.2; owner = owner_is same tests w.own own_once v.0 there row.entry.at key }

  pub own_role : (i : ℕ) (row : EntryRow) (u : RawUnit) → slice_get (rows_of (raw_in x.own)) i ≡ Some row → slice_get (raw_in x.own) row.unit ≡ Some u
      → (forms_of x w).role row.entry.at ≡ holder_for u.kind
  own_role i row u found is_unit =
      let o = own_unit i row u found is_unit in
      ap (λ (y : Option (DwUnit ℕ)). role_in y) o.owner ∙ holder_said (scope_of (around_at x) u) u.kind o.v.kind o.means.kind

  pub own_slots : (i : ℕ) (row : EntryRow) (u : RawUnit) (h : Here) → slice_get (rows_of (raw_in x.own)) i ≡ Some row → slice_get (raw_in x.own) row.unit ≡ Some u → IsHere (raw_in x.own) u h
      → (forms_of x w).slots row.entry.at ≡ h.offsets
  own_slots i row u h found is_unit here =
      let o = own_unit i row u found is_unit in
      ap (λ (y : Option (DwUnit ℕ)). slots_of_unit y) o.owner
      ∙ sym (ap (λ (b : Bases). b.slots) (bases_read (scope_of (around_at x) u) o.v.root.attrs o.means.root.attrs)) ∙ sym here.base

  -- an entry of the common file is in no unit of the file
  pub common_role : (c : SourceFile) (said : List (DwUnit ℕ)) → KnowsFile c (around_beside c None) said → w.common ≡ map (unit_map behind_own) said
      → (i : ℕ) (row : EntryRow) (u : RawUnit) → slice_get (rows_of (raw_in c)) i ≡ Some row → slice_get (raw_in c) row.unit ≡ Some u
      → (forms_of x w).role (behind_own row.entry.at) ≡ CommonUnit
  common_role c said kc are i row u found is_unit =
      let raw = raw_in c in
      let v = unit_said (around_beside c None) raw said (units_mean (around_beside c None) raw said kc.means) row.unit u is_unit in
      let key = key_said (around_beside c None) u v.0 row.entry v.2 (entry_in raw i row.unit row u found refl is_unit) in
      let there : In (unit_map behind_own v.0) w.common = subst (λ (us : List (DwUnit ℕ)). In (unit_map behind_own v.0) us) (sym are) (in_map (unit_map behind_own) v.0 said
      (got_in said row.unit v.0 v.1)) in
      let other : In (behind_own row.entry.at) (units_keys w.common) = unit_key w.common (unit_map behind_own v.0) (behind_own row.entry.at) there (key_there v.0 row.entry.at key) in
      ap (λ (y : Option (DwUnit ℕ)). role_in y)
      (owner_none same tests w.own (behind_own row.entry.at) (λ y y_is y_key. none_both (units_keys w.own) (units_keys w.common) (subst NoneTwice (keys_joined w.own w.common) k.copies.apart)
      (behind_own row.entry.at) (own_key w.own y (behind_own row.entry.at) y_is y_key) other))
