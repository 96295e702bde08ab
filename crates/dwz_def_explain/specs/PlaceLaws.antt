-- Inner: laws on what is printed of two places, or which of them is refused.
use Rattle.std.specs.Prelude.{◌≡◌, ℕ, List, Result}
use Rattle.dwz_model.specs.declared.fault.Refusal.{Refusal}
use Rattle.dwz_def_reading.specs.Documents.{Doc}
use Rattle.dwz_def_reading.specs.Places.{Place}
use Rattle.dwz_text.specs.Lines.{Text}
use Rattle.dwz_def_explain.specs.Places.{Explains}

-- there is one answer at most
abbrev pub OneAnswerLaw : Type 0
OneAnswerLaw = (docs : List (Doc ℕ)) (p q : Place) (r s : Result Text Refusal) → Explains docs p q r → Explains docs p q s → r ≡ s

-- and there is one, whichever the places are
abbrev pub SomeAnswerLaw : Type 0
SomeAnswerLaw = (docs : List (Doc ℕ)) (p q : Place) → (r : Result Text Refusal) × Explains docs p q r
