-- Tops that are marked.
use Rattle.std.specs.Prelude.{◌≡◌, ◌↔◌, ◌⊎◌, ℕ, ◌<◌, Bool, true, false, List, [], ◌∷◌, Option, Some, None, length, ◌&&◌, ◌||◌, not}
use Rattle.std.specs.Prelude.{if◌then◌else◌}
use Rattle.dwz_def_tops.specs.Alike.{is_in, operand_names}
use Rattle.dwz_def_tops.specs.Spots.{EntryName}
use Rattle.dwz_def_reading.specs.Lists.{In}
use Rattle.dwz_def_reading.specs.declared.exprs.Operand.{Operand}
use Rattle.dwz_def_reading.specs.Documents.{Attr, Expr, Plain}
use Rattle.dwz_def_plan.specs.Plan.{pins}
use Rattle.dwz_groups.specs.Spreading.{IsMarked}

-- those are marked that were, and these
pub record MarksIf (Is : ℕ → Type 0) (old new : List Bool) : Type 0 where
  pub len : length new ≡ length old
  pub each : (n : ℕ) → n < length old → IsMarked new n ↔ (IsMarked old n ⊎ Is n)

abbrev pub Marks : List (Option ℕ) → List Bool → List Bool → Type 0
Marks tops old new = MarksIf (λ n. In (Some n) tops) old new

abbrev pub if_asked : Bool → Option ℕ → List (Option ℕ)
if_asked asked t = if asked then t ∷ [] else []

abbrev pub next_top : List (Option ℕ) → Option ℕ
next_top [] = None
next_top (t ∷ into) = t

abbrev pub later_tops : List (Option ℕ) → List (Option ℕ)
later_tops [] = []
later_tops (t ∷ into) = into

-- all are asked for, or those that are ULEB128 numbers
abbrev pub is_asked : Bool → Operand → Bool
is_asked ulebs o = o.uleb || not ulebs

-- the tops of the references of operands that are asked for; those of all operands stand first
abbrev pub asked_tops : Bool → List Operand → List (Option ℕ) → List (Option ℕ)
asked_tops ulebs [] into = []
asked_tops ulebs (o ∷ operands) into = if is_asked ulebs o then next_top into ∷ asked_tops ulebs operands (later_tops into) else asked_tops
    ulebs operands (later_tops into)

-- ---- in documents

abbrev pub in_expression : Plain → Bool
in_expression (Expr parts) = true
in_expression _ = false

-- an operand of the expression that the attribute is names an entry of the top
abbrev pub expression_names : ℕ → Attr EntryName → Bool
expression_names n a = in_expression a.value.plain && operand_names n a

-- and it is a ULEB128 number
abbrev pub expression_pins : ℕ → Attr EntryName → Bool
expression_pins n a = in_expression a.value.plain && pins (is_in n) a
