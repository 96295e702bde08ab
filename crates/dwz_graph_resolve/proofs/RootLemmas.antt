-- The first attribute with a name.
use Rattle.std.proofs.Common.{◌≡◌, ◌≢◌, ℕ, ◌+◌, ◌<◌, ◌≤◌, List, length, drop, get_or, Some, None, slice_get, ap, ◌∙◌}
use Rattle.std.proofs.lemmas.Bool.{cond-false, cond-true, eq-eqb, ne_eqb}
use Rattle.std.proofs.lemmas.List.{drop_all}
use Rattle.std.proofs.lemmas.Option.{get_or_from_slice_get}
use Rattle.dwz_def_reading.specs.Input.{Input}
use Rattle.dwz_model.specs.declared.place.Pair.{Pair}
use Rattle.dwz_def_reading.specs.Entries.{RawAttr}
use Rattle.dwz_def_reading.proofs.AttrPairs.{read_pairs}
use Rattle.dwz_def_reading.proofs.ListFacts.{drop_here, got_map, got_there}
use Rattle.dwz_def_reading.specs.Meanings.{first_raw}
use Rattle.dwz_unit.specs.Values.{Reads}

abbrev pub SameFirst : ℕ → List RawAttr → ℕ → Type 0
SameFirst name attrs k = first_raw name attrs ≡ first_raw name (drop k attrs)

pub first_here : (name : ℕ) (attrs : List RawAttr) (k : ℕ) (a : RawAttr) → slice_get attrs k ≡ Some a → a.pair.name ≡ name → SameFirst name attrs k → first_raw name attrs ≡ Some a
unfolding first_raw
first_here name attrs k a e is so = so ∙ ap (first_raw name) (drop_here attrs k a e) ∙ cond-true _ _ _ (eq-eqb a.pair.name name is)

pub first_later : (name : ℕ) (attrs : List RawAttr) (k : ℕ) (a : RawAttr) → slice_get attrs k ≡ Some a → a.pair.name ≢ name → SameFirst name attrs k → SameFirst name attrs (k + 1)
unfolding first_raw
first_later name attrs k a e other so = so ∙ ap (first_raw name) (drop_here attrs k a e) ∙ cond-false _ _ _ (ne_eqb a.pair.name name other)

pub first_none : (name : ℕ) (attrs : List RawAttr) (k : ℕ) → length attrs ≤ k → SameFirst name attrs k → first_raw name attrs ≡ None
unfolding first_raw
first_none name attrs k le so = so ∙ ap (first_raw name) (drop_all k attrs le)

-- the pair of a value is the one that is declared
pub pair_is : (entry : ℕ) (pairs : List Pair) (at : Input) (attrs : List RawAttr) (k : ℕ) (d : Pair) (a : RawAttr) → Reads entry pairs at attrs → slice_get attrs k ≡ Some a → get_or pairs k d ≡ a.pair
pair_is entry pairs at attrs k d a reads is =
    let pair = ap (λ (w : List Pair). slice_get w k) (read_pairs entry pairs at reads.behind attrs reads.read) ∙ got_map (λ (x : RawAttr). x.pair) attrs k a is in
    get_or_from_slice_get pairs k a.pair d pair

-- a pair of another name is declared, so its value is passed over
pub first_passed : (name entry : ℕ) (pairs : List Pair) (at : Input) (attrs : List RawAttr) (k : ℕ) (d : Pair) → k < length attrs → Reads entry pairs at attrs → (get_or pairs k d).name ≢ name
    → SameFirst name attrs k → SameFirst name attrs (k + 1)
first_passed name entry pairs at attrs k d lt reads other so =
    let a = got_there attrs k lt in
    let same = pair_is entry pairs at attrs k d a.0 reads a.1 in
    first_later name attrs k a.0 a.1 (λ is. other (ap (λ (p : Pair). p.name) same ∙ is)) so
