-- The numbers of names stay when one is used.
use Rattle.std.proofs.Common.{◌≡◌, ℕ, List, Option, Some, None, refl, sym, ap, subst, ◌∙◌, bytes_eq}
use Rattle.dwz_def_reading.specs.TextRows.{text_number, with_text}
use Rattle.dwz_def_reading.proofs.TextRowLemmas.{first_stays, known_text, new_text}
use Rattle.dwz_label_marks.specs.Told.{Keeps}

pub used_keeps : (names : List (List ℕ)) (bytes : List ℕ) → Keeps names (with_text names bytes)
used_keeps names bytes other n e = go (text_number names bytes) refl where
  go : (o : Option ℕ) → text_number names bytes ≡ o → text_number (with_text names bytes) other ≡ Some n
  go (Some m) is = ap (λ (ts : List (List ℕ)). text_number ts other) (known_text names bytes m is) ∙ e
  go None is = ap (λ (ts : List (List ℕ)). text_number ts other) (new_text names bytes is) ∙ first_stays (bytes_eq other) names n bytes e

pub keeps_to : (old new : List (List ℕ)) (bytes : List ℕ) → new ≡ with_text old bytes → Keeps old new
keeps_to old new bytes e = subst (λ (ts : List (List ℕ)). Keeps old ts) (sym e) (used_keeps old bytes)
