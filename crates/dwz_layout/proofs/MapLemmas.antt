-- A change at one row of a map leaves what is found at every other.
use Rattle.std.proofs.Common.{◌≡◌, ℕ, Bool, true, false, List, [], Option, refl, sym, subst, ◌∙◌}
use Rattle.std.specs.BTreeMap.{BTreeMap, UpdatesBy}
use Rattle.std.specs.Cmp.Lexicographic.{slice_cmp}
use Rattle.std.specs.Global.{Vec}
use Rattle.std.specs.Map.{KeepsOthers, update}
use Rattle.std.specs.Ordering.{is_eq, nat_cmp}
use Rattle.std.specs.Str.{bytes_eq}
use Rattle.std.proofs.lemmas.Cmp.{eq_by_cmp_equiv, nat_list_cmp_total, nat_list_eq_equiv}
use Rattle.std.proofs.lemmas.Map.Text.{is_eq-slice_cmp}
use Rattle.std.proofs.lemmas.Slice.Eq.{bytes_eq-Decides}
use Rattle.dwz_layout.specs.Maps.{FindsNone, Puts, look}

pub found_none : (m : BTreeMap (Vec ℕ) ℕ) → m.entries ≡ [] → FindsNone m
found_none m e = λ row. rw e refl

-- a key that is the row isn't another one
apart : (key row k : List ℕ) → bytes_eq key row ≡ false → is_eq (slice_cmp nat_cmp key k) ≡ true → is_eq (slice_cmp nat_cmp row k) ≡ false
apart key row k other here =
    is_eq-slice_cmp row k ∙ nat_list_eq_equiv.symm row k ∙ sym (nat_list_eq_equiv.congr key k row (sym (is_eq-slice_cmp key k) ∙ here)) ∙ other

module _ (key : List ℕ) (old new : BTreeMap (Vec ℕ) ℕ) (value : Option ℕ)
    (updates : UpdatesBy (λ x y. slice_cmp nat_cmp x.items y.items) (λ k. slice_cmp nat_cmp key k.items) old new value) where
  others : (row : List ℕ) → bytes_eq key row ≡ false → look new row ≡ look old row
  unfolding KeepsOthers
  others row other =
      updates.3 (λ k. is_eq (slice_cmp nat_cmp row k.items)) (λ x y. (eq_by_cmp_equiv nat_list_cmp_total).congr row x.items y.items)
      (λ k. apart key row k.items other)

  pub was_put : Puts old new key value
  was_put = λ row. go row (bytes_eq key row) refl where
    go : (row : List ℕ) (test : Bool) → bytes_eq key row ≡ test → look new row ≡ update bytes_eq (look old) key value row
    go row true e = subst (λ (r : List ℕ). look new r ≡ value) ((bytes_eq-Decides key row).0 e) updates.1 ∙ sym (rw e refl)
    go row false e = others row e ∙ sym (rw e refl)
