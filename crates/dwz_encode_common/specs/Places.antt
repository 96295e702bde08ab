-- Texts by the places at which they stand.
use Rattle.std.specs.Prelude.{◌≡◌, ◌⊎◌, ℕ, List, Option, Some, None, MatchOption, true, false, if◌then◌else◌}
use Rattle.std.specs.BTreeMap.{BTreeMap, get_by}
use Rattle.std.specs.Cmp.Lexicographic.{slice_cmp}
use Rattle.std.specs.Ordering.{nat_cmp}
use Rattle.std.specs.Str.{bytes_eq}
use denote.Ref.{Bor}
use Rattle.dwz_def_encoding.specs.Placing.{has_text, text_place}

-- what is under a text
abbrev pub look : BTreeMap (Bor (List ℕ)) ℕ → List ℕ → Option ℕ
look m text = get_by (λ k. slice_cmp nat_cmp text k.now) m

-- under each of these texts, which stand one after the other with a zero byte behind each, is the place of the first that equals it
abbrev pub PlacesThem : List (List ℕ) → (List ℕ → Option ℕ) → Type 0
PlacesThem texts found = (text : List ℕ)
    → MatchOption (found text) (has_text texts text ≡ false) (λ at. (has_text texts text ≡ true) × (at ≡ text_place texts text))

-- the text had a place, and nothing changed; or it is new, and has this place now
abbrev pub IsPut : (List ℕ → Option ℕ) → (List ℕ → Option ℕ) → List ℕ → ℕ → Type 0
IsPut old after text start =
    (((at : ℕ) × (old text ≡ Some at)) × ((q : List ℕ) → after q ≡ old q))
    ⊎ ((old text ≡ None) × ((q : List ℕ) → after q ≡ (if bytes_eq text q then Some start else old q)))
