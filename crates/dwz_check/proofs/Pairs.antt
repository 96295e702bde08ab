-- Two files that were read one after the other.
use Rattle.std.proofs.Common.{◌≡◌, ℕ, List, [], ◌∷◌, length, Ok, refl, sym, ap, ◌∙◌, arith}
use Rattle.dwz_def_reading.specs.Documents.{Doc, DwUnit}
use Rattle.dwz_def_reading.specs.Files.{Limits, file_meaning_by, limits_after}
use Rattle.dwz_def_reading.specs.Rules.{ReadingRule}
use Rattle.dwz_def_reading.specs.Units.{RawUnit}
use Rattle.dwz_check_labels.specs.Graph.{SayTwo}
use Rattle.dwz_graph.specs.ByRule.{AreReadAs}
use Rattle.dwz_graph.specs.declared.file.File.{File}
use Rattle.dwz_unit.specs.Rows.{units_of}
use Rattle.dwz_law_check.proofs.Placed.{one_meaning}

pub two_of : {X : Type 0} (xs : List X) → length xs ≡ 2 → (x : X) × (y : X) × (xs ≡ x ∷ y ∷ [])
two_of [] e = absurd (omega (arith, e))
two_of (x ∷ []) e = absurd (omega (arith, e))
two_of (x ∷ y ∷ []) e = (x, y, refl)
two_of (x ∷ y ∷ z ∷ xs) e = absurd (omega (arith, e))

pub pair_read : (Is : Limits → ℕ → List ℕ → File → Type 0) (l : Limits) (x y : List ℕ) (files : List File) (end : Limits) → AreReadAs Is l 0 (x ∷ y ∷ []) files end
    → (f : File) × (g : File) × (files ≡ f ∷ g ∷ []) × Is l 0 x f × Is (limits_after l x (units_of f.units)) 1 y g
pair_read Is l x y [] end h = absurd h
pair_read Is l x y (f ∷ []) end h = absurd h.1
pair_read Is l x y (f ∷ g ∷ []) end h = (f, g, refl, h.0, h.1.0)
pair_read Is l x y (f ∷ g ∷ k ∷ files) end h = absurd h.1.1

pub one_pair : (rule : ReadingRule ℕ) (l : Limits) (x y : List ℕ) (a b c d : List (DwUnit ℕ)) → SayTwo rule l (x ∷ y ∷ []) a b → SayTwo rule l (x ∷ y ∷ []) c d → (a ≡ c) × (b ≡ d)
one_pair rule l x y a b c d s t =
    let first = one_meaning rule l x s.0 t.0 s.1 t.1 s.2 t.2 in
    let again : file_meaning_by rule (limits_after l x s.0) y ≡ Ok (t.4.0, t.4.1) = ap (λ (raw : List RawUnit). file_meaning_by rule (limits_after l x raw) y) first.0 ∙ t.4.2 in
    let second = one_meaning rule (limits_after l x s.0) y s.4.0 t.4.0 s.4.1 t.4.1 s.4.2 again in
    (sym s.3 ∙ ap (λ (w : Doc ℕ). w.units) first.1 ∙ t.3, sym s.4.3 ∙ ap (λ (w : Doc ℕ). w.units) second.1 ∙ t.4.3)
