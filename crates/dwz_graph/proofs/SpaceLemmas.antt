-- Which entries are spaces, by what is stored of them and by what they mean.
use Rattle.std.proofs.Common.{◌≡◌, ◌≢◌, ℕ, Bool, true, false, ◌==◌, sym, ap, ◌∙◌, eq-eqb}
use Rattle.std.proofs.lemmas.Bool.{ne_eqb}
use Rattle.dwz_def_reading.specs.Entries.{RawEntry}
use Rattle.dwz_def_reading.specs.Meanings.{first_raw}
use Rattle.dwz_graph.specs.Spaces.{has_text, stored_space}

abbrev if_namespace : Bool → Bool → Bool
if_namespace b text = elim b as (λ _. Bool) [ true ↦ text | false ↦ false ]

pub no_space : (e : RawEntry) (tag : ℕ) → e.tag ≡ tag → tag ≢ 0x39 → false ≡ stored_space e
unfolding stored_space
no_space e tag is other = sym (ap (λ (b : Bool). if_namespace b (has_text (first_raw 0x03 e.attrs))) (ap (λ (n : ℕ). n == 0x39) is ∙ ne_eqb tag 0x39 other))

pub by_name : (e : RawEntry) (tag : ℕ) → e.tag ≡ tag → tag ≡ 0x39 → has_text (first_raw 0x03 e.attrs) ≡ stored_space e
unfolding stored_space
by_name e tag is same = sym (ap (λ (b : Bool). if_namespace b (has_text (first_raw 0x03 e.attrs))) (eq-eqb e.tag 0x39 (is ∙ same)))
