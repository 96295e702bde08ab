-- Which numbers are told directly.
use Rattle.std.proofs.Common.{◌≡◌, ℕ, ℤ, negsuc, zero, suc, ◌+◌, ◌*◌, List, [], ◌∷◌, ◌++◌, Option, Some, None, refl, sym, ap, subst, ◌∙◌}
use Rattle.dwz_def_reading.specs.Documents.{Num, Plain}
use Rattle.dwz_def_reading.specs.TextRows.{text_number}
use Rattle.dwz_label.specs.Labels.{number, plain_label}
use Rattle.dwz_label_marks.specs.Marks.{direct, mark_or, plain_mark}
use Rattle.dwz_label_marks.specs.Told.{Adds}
use Rattle.dwz_label_marks.proofs.AddsLemmas.{adds_named}

pub wide_named : (width : ℕ) (z : ℤ) → (width ≡ 0 → ⊥) → direct (Num width z) ≡ None
wide_named zero z ne = absurd (ne refl)
wide_named (suc width) z ne = refl

pub negative_named : (width n : ℕ) → direct (Num width (negsuc n)) ≡ None
negative_named zero n = refl
negative_named (suc width) n = refl

-- what has no number of its own is told by its name
pub adds_other : (names : List (List ℕ)) (p : Plain) (bytes : List ℕ) (n : ℕ) (old new : List ℕ) → direct p ≡ None → bytes ≡ plain_label p
    → text_number names bytes ≡ Some n → new ≡ old ++ number (2 * n + 1) → Adds names (plain_mark p ∷ []) old new
adds_other names p bytes n old new none is found e =
    subst (λ (o : Option ℕ). Adds names (mark_or (plain_label p) o ∷ []) old new) (sym none)
    (adds_named names (plain_label p) n old new (ap (text_number names) (sym is) ∙ found) e)
