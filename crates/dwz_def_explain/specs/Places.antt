-- What is printed of two places at which tops begin that may move; or which of the places is refused.
use Rattle.std.specs.Prelude.{◌≡◌, ◌⊎◌, ℕ, List, [], Result, Ok, Err}
use Rattle.dwz_model.specs.Lists.{In}
use Rattle.dwz_model.specs.declared.fault.Reason.TheVariants.{NotMovable}
use Rattle.dwz_model.specs.declared.fault.Refusal.{Refusal}
use Rattle.dwz_def_reading.specs.Documents.{Doc}
use Rattle.dwz_def_tops.specs.Alike.{Movable}
use Rattle.dwz_def_tops.specs.Spots.{Top, Within, tops_of, units_of}
use Rattle.dwz_def_tops.specs.UnitNames.{name_of_place}
use Rattle.dwz_def_reading.specs.Places.{Place}
use Rattle.dwz_text.specs.Lines.{Text}
use Rattle.dwz_def_explain.specs.Explained.{IsExplained}
use Rattle.dwz_def_explain.specs.Texts.{explained_text}
use Rattle.dwz_def_explain.specs.declared.verdict.Verdict.{Verdict}

-- the top with that number begins at the place, and may move
pub record IsMovableAt (docs : List (Doc ℕ)) (p : Place) (n : ℕ) : Type 0 where
  pub named : name_of_place docs p ≡ Within n []
  pub movable : Movable (units_of docs) n

-- no top that may move begins there
abbrev pub NoneMovableAt : List (Doc ℕ) → Place → Type 0
NoneMovableAt docs p = (n : ℕ) → IsMovableAt docs p n → ⊥

-- the refusal of such a place
abbrev pub not_movable : Place → Refusal
not_movable p = record { file = p.file; section = 1; at = p.at; reason = NotMovable }

-- the text is of the verdict on the two tops that begin at these places
pub record IsTextOf (docs : List (Doc ℕ)) (p q : Place) (text : Text) : Type 0 where
  pub first : Top
  pub second : Top
  pub first_there : In first (tops_of (units_of docs))
  pub second_there : In second (tops_of (units_of docs))
  pub first_at : IsMovableAt docs p first.number
  pub second_at : IsMovableAt docs q second.number
  pub verdict : Verdict
  pub explained : IsExplained (units_of docs) first second verdict
  pub text_is : text ≡ explained_text docs first second verdict

-- that is printed; or the first of the two places at which no top begins that may move is refused
abbrev pub Explains : List (Doc ℕ) → Place → Place → Result Text Refusal → Type 0
Explains docs p q (Ok text) = IsTextOf docs p q text
Explains docs p q (Err r) =
    (NoneMovableAt docs p × (r ≡ not_movable p))
    ⊎ ((n : ℕ) × IsMovableAt docs p n × NoneMovableAt docs q × (r ≡ not_movable q))
