-- Values that are read have the pairs that were declared.
use Rattle.std.proofs.Common.{◌≡◌, ℕ, List, [], ◌∷◌, map, Ok, refl, sym, ap, ◌∙◌}
use Rattle.dwz_model.specs.declared.place.Pair.{Pair}
use Rattle.dwz_bytes.specs.Input.{Input}
use Rattle.dwz_bytes.specs.Reading.{◌>>=◌}
use Rattle.dwz_def_reading.specs.Entries.{RawAttr, attrs_at, in_entry, with_value}
use Rattle.dwz_def_reading.specs.Values.{value_at, written_rows}
use Rattle.dwz_def_reading.proofs.PartLemmas.{bind_ok, same_value}

pub read_pairs : (entry : ℕ) (pairs : List Pair) (at end : Input) (attrs : List RawAttr) → attrs_at written_rows entry pairs at ≡ Ok (attrs, end) → pairs ≡ map (λ (a : RawAttr). a.pair) attrs
unfolding attrs_at
read_pairs entry [] at end attrs e =
    let is : attrs ≡ [] = sym (same_value [] attrs at end (Ok ([], at)) refl e) in
    ap (map (λ (a : RawAttr). a.pair)) (sym is)
read_pairs entry (pair ∷ pairs) at end attrs e =
    let a = bind_ok (in_entry entry (value_at written_rows pair at)) (λ x. attrs_at written_rows entry pairs x.1 >>= with_value at.at x.1.at pair x.0) (attrs, end) e in
    let b = bind_ok (attrs_at written_rows entry pairs a.0.1) (with_value at.at a.0.1.at pair a.0.0) (attrs, end) a.2 in
    let first : RawAttr = record { at = at.at; end = a.0.1.at; pair = pair; raw = a.0.0 } in
    let same = same_value (first ∷ b.0.0) attrs b.0.1 end (with_value at.at a.0.1.at pair a.0.0 b.0) refl b.2 in
    ap (λ (w : List Pair). pair ∷ w) (read_pairs entry pairs a.0.1 b.0.1 b.0.0 b.1) ∙ ap (map (λ (a : RawAttr). a.pair)) same
