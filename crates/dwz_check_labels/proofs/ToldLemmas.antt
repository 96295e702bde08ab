-- What is written one behind the other.
use Rattle.std.proofs.Common.{◌≡◌, ℕ, List, [], ◌++◌, refl, sym, ap, ◌∙◌}
use Rattle.std.proofs.lemmas.List.{append-nil, append_assoc}
use Rattle.dwz_check_labels.specs.Told.{Tells}

joined : (a b old mid new : List ℕ) → mid ≡ old ++ a → new ≡ mid ++ b → new ≡ old ++ (a ++ b)
joined a b old mid new one two = two ∙ ap (λ (w : List ℕ). w ++ b) one ∙ append_assoc old a b

pub tells_both : (a x b y old mid new before between after : List ℕ) → Tells a x old mid before between → Tells b y mid new between after
    → Tells (a ++ b) (x ++ y) old new before after
tells_both a x b y old mid new before between after one two = record {
  bytes = joined a b old mid new one.bytes two.bytes;
  tops = joined x y before between after one.tops two.tops;
}

-- bytes alone come first
pub tells_behind : (a b y old mid new before after : List ℕ) → mid ≡ old ++ a → Tells b y mid new before after → Tells (a ++ b) y old new before after
tells_behind a b y old mid new before after one two = record { bytes = joined a b old mid new one two.bytes; tops = two.tops }

pub tells_bytes : (a old new before : List ℕ) → new ≡ old ++ a → Tells a [] old new before before
tells_bytes a old new before one = record { bytes = one; tops = sym (append-nil before) }

-- what is left is told with what came before
pub left_none : (a old new : List ℕ) → new ++ [] ≡ old ++ a → new ≡ old ++ a
left_none a old new e = sym (append-nil new) ∙ e

pub left_one : (a rest old new all : List ℕ) → new ≡ old ++ a → old ++ (a ++ rest) ≡ all → new ++ rest ≡ all
left_one a rest old new all one e = ap (λ (w : List ℕ). w ++ rest) one ∙ append_assoc old a rest ∙ e

-- ---- what is left of all that is to be told

pub record IsLeft (label into : List ℕ) (out old all : List ℕ) (now before numbers : List ℕ) : Type 0 where
  pub bytes : out ++ label ≡ old ++ all
  pub tops : now ++ into ≡ before ++ numbers

pub left_all : (label into old before : List ℕ) → IsLeft label into old old label before before into
left_all label into old before = record { bytes = refl; tops = refl }

-- behind some bytes
pub left_behind : (front label into old out before : List ℕ) → out ≡ old ++ front → IsLeft label into out old (front ++ label) before before into
left_behind front label into old out before is = record { bytes = ap (λ (w : List ℕ). w ++ label) is ∙ append_assoc old front label; tops = refl }

pub left_more : (a x label rest into others out old new all now next before numbers : List ℕ) → label ≡ a ++ rest → into ≡ x ++ others → Tells a x out new now next
    → IsLeft label into out old all now before numbers → IsLeft rest others new old all next before numbers
left_more a x label rest into others out old new all now next before numbers is_label is_into t h = record {
  bytes = left_one a rest out new (old ++ all) t.bytes (ap (λ (w : List ℕ). out ++ w) (sym is_label) ∙ h.bytes);
  tops = left_one x others now next (before ++ numbers) t.tops (ap (λ (w : List ℕ). now ++ w) (sym is_into) ∙ h.tops);
}

pub left_done : (label into out old all now before numbers : List ℕ) → label ≡ [] → into ≡ [] → IsLeft label into out old all now before numbers → Tells all numbers old out before now
left_done label into out old all now before numbers none nothing h = record {
  bytes = left_none all old out (ap (λ (w : List ℕ). out ++ w) (sym none) ∙ h.bytes);
  tops = left_none numbers before now (ap (λ (w : List ℕ). now ++ w) (sym nothing) ∙ h.tops);
}
