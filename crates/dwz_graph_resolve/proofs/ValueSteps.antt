-- The next value of an entry, where the code has read it.
use Rattle.std.proofs.Common.{◌≡◌, ℕ, ◌+◌, ◌<◌, List, drop, get_or, length, Some, pos, slice_get, subst, ◌∙◌}
use Rattle.std.specs.Prelude.{Ok}
use Rattle.dwz_def_reading.specs.Input.{Input}
use Rattle.dwz_def_reading.specs.Entries.{RawAttr}
use Rattle.dwz_def_reading.specs.Values.{Raw, value_at, written_rows}
use Rattle.dwz_def_reading.proofs.PartLemmas.{same_input, same_value}
use Rattle.dwz_model.specs.declared.place.Pair.{Pair}
use Rattle.dwz_unit.specs.Values.{Reads}
use Rattle.dwz_unit.proofs.ReadsLemmas.{reads_next}

-- where there is no pair
abbrev pub no_pair : Pair
no_pair = record { name = 0; form = 0; constant = pos 0 }

pub record IsNext (entry : ℕ) (pairs : List Pair) (j : ℕ) (pair : Pair) (at place : Input) (raw : Raw) (attrs : List RawAttr) : Type 0 where
  pub is : slice_get attrs j ≡ Some (record { at = at.at; end = place.at; pair = pair; raw = raw })
  pub rest : Reads entry (drop (j + 1) pairs) place (drop (j + 1) attrs)

pub next_read : (entry : ℕ) (pairs : List Pair) (j : ℕ) (d : Pair) (at place : Input) (raw : Raw) (attrs : List RawAttr) → j < length pairs → Reads entry (drop j pairs) at (drop j attrs)
    → value_at written_rows (get_or pairs j d) at ≡ Ok (raw, place) → IsNext entry pairs j (get_or pairs j d) at place raw attrs
next_read entry pairs j d at place raw attrs lt reads value =
    let x = reads_next entry pairs j d at attrs lt reads in
    let r = same_value x.raw raw x.place place (value_at written_rows (get_or pairs j d) at) x.value value in
    let p = same_input x.raw raw x.place place (value_at written_rows (get_or pairs j d) at) x.value value in
    record {
      is = x.is ∙ (λ i. let a : RawAttr = record { at = at.at; end = (p i).at; pair = get_or pairs j d; raw = r i } in Some a);
      rest = subst (λ (i : Input). Reads entry (drop (j + 1) pairs) i (drop (j + 1) attrs)) p x.rest;
    }
