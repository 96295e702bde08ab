-- Texts as keys of an ordered map: what a change at one text leaves at any text.
use Rattle.std.proofs.Common.{◌≡◌, ℕ, Bool, true, false, cond, List, Option, sym, subst, ◌∙◌, inl, inr, bytes_eq}
use Rattle.std.specs.BTreeMap.{BTreeMap, UpdatesBy, get_by}
use Rattle.std.specs.Cmp.{eq_by_cmp_equiv}
use Rattle.std.specs.Cmp.Lexicographic.{nat_list_cmp_total, slice_cmp}
use Rattle.std.specs.Global.{Vec}
use Rattle.std.specs.Map.{AreApart, IsKeyTest, KeepsOthers, lookup}
use Rattle.std.specs.Ordering.{is_eq, nat_cmp}
use Rattle.std.proofs.lemmas.Bool.{cases_Bool, cond-false, cond-true, false_from_ne_true}
use Rattle.std.proofs.lemmas.Map.Text.{is_eq-slice_cmp}
use Rattle.std.proofs.lemmas.Slice.Eq.{bytes_eq-Decides}

-- whether a key is found by a text
abbrev is_key : List ℕ → Vec ℕ → Bool
is_key text key = is_eq (slice_cmp nat_cmp text key.items)

found_key : (text : List ℕ) (key : Vec ℕ) → is_key text key ≡ true → text ≡ key.items
found_key text key e = (bytes_eq-Decides text key.items).0 (sym (is_eq-slice_cmp text key.items) ∙ e)

keys_apart : (text other : List ℕ) → bytes_eq text other ≡ false → AreApart (is_key text) (is_key other)
keys_apart text other differ key is = false_from_ne_true (is_key other key) (λ both. by (found_key text key is ∙ sym (found_key other key both))) where
  by : text ≡ other → ⊥
  by same = let equal = (bytes_eq-Decides text other).1 same in cc

kept : {eq : Vec ℕ → Vec ℕ → Bool} {test : Vec ℕ → Bool} (old new : List (Vec ℕ × ℕ)) → KeepsOthers eq test old new → (other : Vec ℕ → Bool) → IsKeyTest eq other → AreApart test other
    → lookup other new ≡ lookup other old
unfolding KeepsOthers
kept old new keeps = keeps

pub updates_at : (text : List ℕ) (old new : BTreeMap (Vec ℕ) ℕ) (value : Option ℕ)
    → UpdatesBy (λ x y. slice_cmp nat_cmp x.items y.items) (λ k. slice_cmp nat_cmp text k.items) old new value
    → (other : List ℕ) → get_by (λ k. slice_cmp nat_cmp other k.items) new ≡ cond (bytes_eq text other) value (get_by (λ k. slice_cmp nat_cmp other k.items) old)
updates_at text old new value updates other = elim (cases_Bool (bytes_eq text other)) [
  | inl same ↦
      subst (λ (t : List ℕ). get_by (λ k. slice_cmp nat_cmp t k.items) new ≡ value) ((bytes_eq-Decides text other).0 same) updates.1
      ∙ sym (cond-true (bytes_eq text other) value _ same)
  | inr differ ↦
      kept old.entries new.entries updates.3 (is_key other) (λ x y. (eq_by_cmp_equiv nat_list_cmp_total).congr other x.items y.items) (keys_apart text other differ)
      ∙ sym (cond-false (bytes_eq text other) value _ differ)
]
