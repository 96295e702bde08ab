-- Up to where values are texts, by their names and forms.
use Rattle.std.proofs.Common.{◌≡◌, ℕ, zero, suc, ◌+◌, ◌<◌, Bool, true, false, List, [], ◌∷◌, ◌++◌, length, cond, get_or, map, slice_get, take, Option, Some, refl, sym, ap, ◌∙◌, arith}
use Rattle.std.specs.List.{filter}
use Rattle.std.proofs.lemmas.Option.{slice_get-get_or}
use Rattle.std.proofs.lemmas.List.{length-take, take_more}
use Rattle.dwz_model.specs.declared.place.Pair.{Pair}
use Rattle.dwz_def_reading.specs.Entries.{RawAttr}
use Rattle.dwz_unit.specs.Declarations.{AreOf, Declarations}
use Rattle.dwz_unit.specs.Known.{pairs_of}
use Rattle.dwz_unit.specs.Rows.{EntryRow}
use Rattle.dwz_unit.proofs.DeclarationLemmas.{pairs_by_number}
use Rattle.dwz_layout.specs.declared.known.TextAt.{TextAt}
use Rattle.dwz_layout_numbers.specs.Befores.{is_pair_placed}
use Rattle.dwz_encode_texts.specs.Texts.{end_behind, own_text, own_texts, texts_end}

pub end_text : (pairs : List Pair) (p : Pair) → is_pair_placed p ≡ true → texts_end (pairs ++ p ∷ []) ≡ length pairs + 1
unfolding texts_end
end_text [] p e = ap (λ (b : Bool). end_behind b 0) e
end_text (q ∷ pairs) p e =
    (let one : length pairs + 1 ≡ suc (length pairs) = omega arith in
    let two : suc (suc (length pairs)) ≡ length (q ∷ pairs) + 1 = omega arith in
    ap (end_behind (is_pair_placed q)) (end_text pairs p e ∙ one) ∙ two)

pub end_other : (pairs : List Pair) (p : Pair) → is_pair_placed p ≡ false → texts_end (pairs ++ p ∷ []) ≡ texts_end pairs
unfolding texts_end
end_other [] p e = ap (λ (b : Bool). end_behind b 0) e
end_other (q ∷ pairs) p e = ap (end_behind (is_pair_placed q)) (end_other pairs p e)

module _ (pairs : List Pair) (j : ℕ) (no : Pair) (lt : j < length pairs) where
  pub end_here : is_pair_placed (get_or pairs j no) ≡ true → j + 1 ≡ texts_end (take (j + 1) pairs)
  end_here e =
      (let many : length (take j pairs) ≡ j = (let few = length-take j pairs in omega (arith, lt)) in
      sym (ap texts_end (take_more pairs j no lt) ∙ end_text (take j pairs) (get_or pairs j no) e ∙ ap (λ (n : ℕ). n + 1) many))

  pub end_before : (end : ℕ) → is_pair_placed (get_or pairs j no) ≡ false → end ≡ texts_end (take j pairs) → end ≡ texts_end (take (j + 1) pairs)
  end_before end e h = h ∙ sym (ap texts_end (take_more pairs j no lt) ∙ end_other (take j pairs) (get_or pairs j no) e)

-- behind that there is no text
pub texts_before : (offsets : List ℕ) (base : Option ℕ) (attrs : List RawAttr) → own_texts offsets base (take (texts_end (map (λ (a : RawAttr). a.pair) attrs)) attrs) ≡ own_texts offsets base attrs
unfolding texts_end
texts_before offsets base [] = refl
texts_before offsets base (a ∷ attrs) = by (is_pair_placed a.pair) refl (texts_end (map (λ (b : RawAttr). b.pair) attrs)) (texts_before offsets base attrs) where
  kept : Bool → List RawAttr → List TextAt
  kept b rest = map (own_text offsets base) (cond b (a ∷ filter (λ (x : RawAttr). is_pair_placed x.pair) rest) (filter (λ (x : RawAttr). is_pair_placed x.pair) rest))

  by : (b : Bool) → is_pair_placed a.pair ≡ b → (n : ℕ) → own_texts offsets base (take n attrs) ≡ own_texts offsets base attrs
      → own_texts offsets base (take (end_behind (is_pair_placed a.pair) n) (a ∷ attrs)) ≡ own_texts offsets base (a ∷ attrs)
  by true e (suc n) h = ap (λ (c : Bool). kept c (take (suc n) attrs)) e ∙ ap (λ (w : List TextAt). own_text offsets base a ∷ w) h ∙ sym (ap (λ (c : Bool). kept c attrs) e)
  by false e (suc n) h = ap (λ (c : Bool). kept c (take (suc n) attrs)) e ∙ h ∙ sym (ap (λ (c : Bool). kept c attrs) e)
  by true e zero h =
      ap (λ (c : Bool). own_texts offsets base (take (end_behind c 0) (a ∷ attrs))) e
      ∙ ap (λ (c : Bool). kept c []) e
      ∙ ap (λ (w : List TextAt). own_text offsets base a ∷ w) h
      ∙ sym (ap (λ (c : Bool). kept c attrs) e)
  by false e zero h = ap (λ (c : Bool). own_texts offsets base (take (end_behind c 0) (a ∷ attrs))) e ∙ h ∙ sym (ap (λ (c : Bool). kept c attrs) e)

-- what is told of the declaration of the entry with a number is so of its values
pub ends_told : (rows : List EntryRow) (d : Declarations) → AreOf rows d → (i end : ℕ) (row : EntryRow) → i < length d.numbers → slice_get rows i ≡ Some row
    → ((n : ℕ) (pairs : List Pair) → slice_get d.numbers i ≡ Some n → slice_get d.pairs n ≡ Some pairs → end ≡ texts_end pairs) → end ≡ texts_end (pairs_of row.entry)
ends_told rows d are i end row lt found told =
    let number = slice_get-get_or d.numbers i 0 lt in
    told (get_or d.numbers i 0) (pairs_of row.entry) number (pairs_by_number rows d are i (get_or d.numbers i 0) row number found)

pub texts_behind : (offsets : List ℕ) (base : Option ℕ) (attrs : List RawAttr) (j : ℕ) (old now : List TextAt) → j ≡ texts_end (map (λ (a : RawAttr). a.pair) attrs)
    → now ≡ old ++ own_texts offsets base (take j attrs) → now ≡ old ++ own_texts offsets base attrs
texts_behind offsets base attrs j old now e h =
    h ∙ ap (λ (w : List TextAt). old ++ w) (ap (λ (n : ℕ). own_texts offsets base (take n attrs)) e ∙ texts_before offsets base attrs)
