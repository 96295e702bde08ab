-- Texts that are used, one value, entry and unit after the other: those that are found and those that are left are all of them.
use Rattle.std.proofs.Common.{◌≡◌, ℕ, ◌+◌, ◌<◌, ◌≤◌, List, [], ◌∷◌, ◌++◌, drop, get_or, length, take, Some, slice_get, refl, sym, ap, ◌∙◌}
use Rattle.std.specs.List.{flat_map}
use Rattle.std.proofs.lemmas.List.{drop_all, take_all}
use Rattle.std.proofs.lemmas.Option.{slice_get-get_or}
use Rattle.dwz_def_reading.proofs.ListFacts.{drop_here}
use Rattle.dwz_encode_texts.proofs.TextSteps.{flat_more}
use Rattle.dwz_layout.specs.declared.known.EntryTable.{EntryTable}
use Rattle.dwz_layout.specs.declared.order.UnitItems.{UnitItems}
use Rattle.dwz_layout.specs.declared.walk.Entry.{Entry}
use Rattle.dwz_layout.specs.declared.walk.Origin.{Origin}
use Rattle.dwz_layout.specs.declared.walk.Slot.{Slot}
use Rattle.dwz_layout.specs.Entries.{entries_of}
use Rattle.dwz_encode_common.specs.Gathered.{with_all}
use Rattle.dwz_encode_common.specs.Stored.{items_give, order_give, slots_give}
use Rattle.dwz_encode_common.proofs.GatheredLemmas.{with_all-append}

-- ---- values

pub values_more : {X : Type 0} (f : X → List (List ℕ)) (xs : List X) (j : ℕ) (x : X) (old now new : List (List ℕ)) → slice_get xs j ≡ Some x
    → now ≡ with_all old (flat_map f (take j xs)) → new ≡ with_all now (f x) → new ≡ with_all old (flat_map f (take (j + 1) xs))
values_more f xs j x old now new at is step =
    step ∙ ap (λ (w : List (List ℕ)). with_all w (f x)) is
    ∙ sym (with_all-append old (flat_map f (take j xs)) (f x))
    ∙ ap (with_all old) (sym (flat_more f xs j x at))

pub values_all : {X : Type 0} (f : X → List (List ℕ)) (xs : List X) (j : ℕ) (old now : List (List ℕ)) → length xs ≤ j
    → now ≡ with_all old (flat_map f (take j xs)) → now ≡ with_all old (flat_map f xs)
values_all {X} f xs j old now le is = is ∙ ap (λ (w : List X). with_all old (flat_map f w)) (take_all j xs le)

-- ---- entries

abbrev pub entries_give : (Origin → List (List ℕ)) → List Entry → List (List ℕ)
entries_give give entries = flat_map (λ (e : Entry). give e.origin) entries

pub entries_are : (give : Origin → List (List ℕ)) (slots : List Slot) → entries_give give (entries_of slots) ≡ slots_give give slots
unfolding entries_of
entries_are give [] = refl
entries_are give (s ∷ slots) = ap (λ (w : List (List ℕ)). give s.origin ++ w) (entries_are give slots)

pub entries_step : (give : Origin → List (List ℕ)) (e : Entry) (old more : List Slot) (out new all : List (List ℕ))
    → entries_of old ≡ e ∷ entries_of more
    → new ≡ with_all out (give e.origin) → with_all out (entries_give give (entries_of old)) ≡ all
    → with_all new (entries_give give (entries_of more)) ≡ all
entries_step give e old more out new all first is so =
    ap (λ (w : List (List ℕ)). with_all w (entries_give give (entries_of more))) is
    ∙ sym (with_all-append out (give e.origin) (entries_give give (entries_of more)))
    ∙ sym (ap (λ (es : List Entry). with_all out (entries_give give es)) first)
    ∙ so

pub entries_end : (give : Origin → List (List ℕ)) (slots : List Slot) (out all : List (List ℕ)) → slots ≡ []
    → with_all out (entries_give give (entries_of slots)) ≡ all → out ≡ all
unfolding entries_of
entries_end give slots out all none so = sym (ap (λ (s : List Slot). with_all out (entries_give give (entries_of s))) none) ∙ so

-- ---- units

pub units_step : (give : Origin → List (List ℕ)) (k : EntryTable) (units : List UnitItems) (i : ℕ) (o : UnitItems)
    (out new all : List (List ℕ)) → i < length units
    → o ≡ get_or units i o → new ≡ with_all out (items_give give k o) → with_all out (order_give give k (drop i units)) ≡ all
    → with_all new (order_give give k (drop (i + 1) units)) ≡ all
units_step give k units i o out new all lt there is so =
    let found : slice_get units i ≡ Some o = slice_get-get_or units i o lt ∙ ap (λ (x : UnitItems). Some x) (sym there) in
    ap (λ (w : List (List ℕ)). with_all w (order_give give k (drop (i + 1) units))) is
    ∙ sym (with_all-append out (items_give give k o) (order_give give k (drop (i + 1) units)))
    ∙ sym (ap (λ (w : List UnitItems). with_all out (order_give give k w)) (drop_here units i o found))
    ∙ so

pub units_end : (give : Origin → List (List ℕ)) (k : EntryTable) (units : List UnitItems) (i : ℕ) (out all : List (List ℕ)) → length units ≤ i
    → with_all out (order_give give k (drop i units)) ≡ all → out ≡ all
units_end give k units i out all le so = sym (ap (λ (w : List UnitItems). with_all out (order_give give k w)) (drop_all i units le)) ∙ so
