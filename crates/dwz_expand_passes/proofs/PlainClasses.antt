-- Classes whose values are copied as they were read.
use Rattle.std.proofs.Common.{◌≡◌, ℕ, false, refl}
use Rattle.dwz_def_reading.specs.Classes.{Class}
use Rattle.dwz_def_reading.specs.Classes.{OfAddress, OfBlock, OfCommonEntry, OfCommonText, OfConstant, OfExpression, OfFlag, OfIndex}
use Rattle.dwz_def_reading.specs.Classes.{OfInfoEntry, OfListIndex, OfOffset, OfSignature, OfText, OfTextBySlot, OfTextInLineStr, OfTextInStr, OfUnitEntry, Unread}
use Rattle.dwz_def_reading.specs.Documents.{Attr}
use Rattle.dwz_def_encoding.specs.Placing.{as_read}
use Rattle.dwz_def_expand.specs.Chosen.{chosen_as}
use Rattle.dwz_def_expand.specs.Source.{Copy}
use Rattle.dwz_expand_passes.specs.Copied.{is_entry}
use Rattle.dwz_expand_passes.specs.Known.{Setting}
use Rattle.dwz_expand_passes.proofs.ContentLemmas.{names_some}

pub record IsSimple (q : Setting) (k : Class) : Type 0 where
  pub entry : is_entry k ≡ false
  pub none : names_some k ≡ false
  pub chosen : (y : Attr (Copy ℕ)) → chosen_as k q.choice q.unit q.source y ≡ as_read y

pub simple : (q : Setting) (k : Class) → (k ≡ OfConstant → ⊥) → (k ≡ OfTextInStr → ⊥) → (k ≡ OfTextInLineStr → ⊥) → (k ≡ OfTextBySlot → ⊥) → (k ≡ OfUnitEntry → ⊥) → (k ≡ OfInfoEntry → ⊥)
    → (k ≡ OfExpression → ⊥) → (k ≡ OfListIndex → ⊥) → (k ≡ OfCommonEntry → ⊥) → (k ≡ OfCommonText → ⊥) → IsSimple q k
simple q OfAddress a b c d e f g h i j = record { entry = refl; none = refl; chosen = λ y. refl }
simple q OfBlock a b c d e f g h i j = record { entry = refl; none = refl; chosen = λ y. refl }
simple q OfConstant a b c d e f g h i j = absurd (a refl)
simple q OfFlag a b c d e f g h i j = record { entry = refl; none = refl; chosen = λ y. refl }
simple q OfText a b c d e f g h i j = record { entry = refl; none = refl; chosen = λ y. refl }
simple q OfTextInStr a b c d e f g h i j = absurd (b refl)
simple q OfTextInLineStr a b c d e f g h i j = absurd (c refl)
simple q OfTextBySlot a b c d e f g h i j = absurd (d refl)
simple q OfUnitEntry a b c d e f g h i j = absurd (e refl)
simple q OfInfoEntry a b c d e f g h i j = absurd (f refl)
simple q OfSignature a b c d e f g h i j = record { entry = refl; none = refl; chosen = λ y. refl }
simple q OfOffset a b c d e f g h i j = record { entry = refl; none = refl; chosen = λ y. refl }
simple q OfExpression a b c d e f g h i j = absurd (g refl)
simple q OfListIndex a b c d e f g h i j = absurd (h refl)
simple q OfIndex a b c d e f g h i j = record { entry = refl; none = refl; chosen = λ y. refl }
simple q OfCommonEntry a b c d e f g h i j = absurd (i refl)
simple q OfCommonText a b c d e f g h i j = absurd (j refl)
simple q Unread a b c d e f g h i j = record { entry = refl; none = refl; chosen = λ y. refl }
