-- Values stand where they do in the file with places.
use Rattle.std.proofs.Common.{◌≡◌, ℕ, ◌^◌, ◌<◌, List, Option, Some, slice_get, refl, sym, ap, subst, ◌∙◌, inl, inr}
use Rattle.dwz_model.specs.Lists.{Each, In}
use Rattle.dwz_model.proofs.ListFacts.{got_in, in_cases, in_left, in_right}
use Rattle.dwz_model.proofs.Members.{each_in}
use Rattle.dwz_def_reading.specs.Entries.{RawAttr, RawEntry}
use Rattle.dwz_def_reading.specs.Meanings.{places_in, places_of, scope_of, without_siblings}
use Rattle.dwz_def_reading.specs.OtherPlaces.{LiesBelow}
use Rattle.dwz_def_reading.specs.Places.{Place, at_file}
use Rattle.dwz_def_reading.specs.Trees.{End, Entry, Forest}
use Rattle.dwz_def_reading.specs.Units.{RawUnit}
use Rattle.dwz_def_expand.specs.OneFile.{IsStoredAmong, IsStoredIn, OneFile, ReadsOne, StoredAttr, around, named_in_attr, part, place_of_value, stored_attr, where_named, with_scope}
use Rattle.dwz_def_expand.proofs.StoredLemmas.{attr_stored}
use Rattle.dwz_graph.specs.Named.{entries_of, preorder}
use Rattle.dwz_unit.specs.Rows.{EntryRow, rows_of}
use Rattle.dwz_label_entries.proofs.AttrsLemmas.{entry_in}
use Rattle.dwz_expand.specs.OneKnown.{stands_of}
use Rattle.dwz_expand.proofs.FileKept.{Kept, KeptStand}
use Rattle.dwz_expand.proofs.SameScope.{list_same, operands_same}

-- ---- entries of a unit

among_stored : (g : Forest RawEntry) (e : RawEntry) → In e (preorder g) → IsStoredAmong e g
unfolding preorder
among_stored End e h = absurd h
among_stored (Entry d c n) e (inl h) = inl h
among_stored (Entry d c n) e (inr h) = elim (in_cases e (preorder c) (preorder n) h) [ inl a ↦ inr (inl (among_stored c e a)) | inr b ↦ inr (inr (among_stored n e b)) ]

is_stored : (u : RawUnit) (e : RawEntry) → In e (entries_of u) → IsStoredIn e u
is_stored u e (inl h) = inl h
is_stored u e (inr h) = inr (among_stored u.below e h)

place_among : (g : Forest RawEntry) (e : RawEntry) → In e (preorder g) → In e.at (places_in g)
unfolding preorder places_in
place_among End e h = absurd h
place_among (Entry d c n) e (inl h) = inl (ap (λ (w : RawEntry). w.at) h)
place_among (Entry d c n) e (inr h) = elim (in_cases e (preorder c) (preorder n) h) [
  | inl a ↦ inr (in_left e.at (places_in c) (places_in n) (place_among c e a))
  | inr b ↦ inr (in_right e.at (places_in c) (places_in n) (place_among n e b))
]

place_there : (u : RawUnit) (e : RawEntry) → In e (entries_of u) → In e.at (places_of u)
place_there u e (inl h) = inl (ap (λ (w : RawEntry). w.at) h)
place_there u e (inr h) = inr (place_among u.below e h)

-- ---- values

module _ (f : OneFile) (reads : ReadsOne f) (number : ℕ) (k : Kept) (raw_is : k.raw ≡ (part f number).raw) (sources : k.around.sources ≡ (around f number).sources)
    (all : k.around.all ≡ (around f number).all) (lie : Each (LiesBelow (2 ^ 32)) k.raw) (place : ℕ → Place) (to : ℕ → ℕ) (at : (n : ℕ) → n < 2 ^ 32 → place (to n) ≡ at_file number n) where
  stored : (i : ℕ) (row : EntryRow) (u : RawUnit) → slice_get (rows_of k.raw) i ≡ Some row → slice_get k.raw row.unit ≡ Some u → (index : ℕ) (a : RawAttr)
      → slice_get (without_siblings row.entry.attrs) index ≡ Some a → stored_attr f (place (to row.entry.at)) index ≡ Some (record { scope = scope_of (around f number) u; attr = a })
  stored i row u found is_unit index a got =
      let is = entry_in k.raw i row.unit row u found refl is_unit in
      let there = got_in k.raw row.unit u is_unit in
      let low = each_in (LiesBelow (2 ^ 32)) u k.raw lie there row.entry.at (inr (place_there u row.entry is)) in
      ap (λ (p : Place). stored_attr f p index) (at row.entry.at low)
      ∙ attr_stored f reads number u row.entry (subst (λ (w : List RawUnit). In u w) raw_is there) (is_stored u row.entry is) index
      ∙ ap (with_scope (scope_of (around f number) u)) got

  pub values_stand : KeptStand k to (stands_of f place)
  values_stand i row u found is_unit index a got =
      let is = stored i row u found is_unit index a got in (
        ap place_of_value is,
        λ n.
            ap (λ (o : Option StoredAttr). where_named o n) is
            ∙ sym (λ j. named_in_attr (list_same (around f number) k.around sources all u a j) (operands_same (around f number) k.around sources all u a j) n a.at),
      )
