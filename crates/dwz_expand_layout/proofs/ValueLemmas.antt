-- The values of an entry, one after the other: how many bytes they have, their names and forms, and what is appended.
use Rattle.std.proofs.Common.{◌≡◌, ℕ, ◌+◌, ◌<◌, ◌≤◌, List, [], ◌∷◌, ◌++◌, get_or, length, map, pos, slice_get, refl, take, Some, sym, ap, subst, ◌∙◌, append_assoc, append-nil, arith}
use Rattle.std.specs.Prelude.{All, ℤ}
use Rattle.std.proofs.lemmas.List.{length-append, map_more, take_all}
use Rattle.std.proofs.lemmas.List.Elements.{All-nil}
use Rattle.std.proofs.lemmas.Option.{slice_get-get_or}
use Rattle.dwz_bytes.specs.Spelling.{le_bytes}
use Rattle.dwz_def_reading.specs.Abbrevs.{IsPlainPair}
use Rattle.dwz_def_reading.specs.Lists.{Each}
use Rattle.dwz_def_reading.specs.Forms.{form_rows}
use Rattle.dwz_def_reading.specs.Values.{Bytes, Number, Raw, value_bytes}
use Rattle.dwz_def_encoding.specs.Placing.{Reach, ref_form}
use Rattle.dwz_forms.specs.declared.raw.Raw.TheVariants as code
use Rattle.dwz_layout.proofs.LeftLemmas.{length_more, no_values, one_value, pairs_more, values_more}
use Rattle.dwz_layout.proofs.NumberLemmas.{ref_bytes, ref_len}
use Rattle.dwz_layout.proofs.PlainLemmas.{plain_more}
use Rattle.dwz_layout.specs.Attributes.{Numbers, OfEntry, OutAttr, no_numbers, raw_of, stored_all, stored_of}
use Rattle.dwz_layout.specs.Stored.{pairs_of, values_bytes}
use Rattle.dwz_model.proofs.ListFacts.{got_in}
use Rattle.dwz_model.proofs.Members.{each_in}
use Rattle.dwz_model.specs.declared.place.Pair.{Pair}
use Rattle.dwz_expand_layout.specs.declared.entries.Content.{Content as ContentOfCode}
use Rattle.dwz_expand_layout.specs.declared.entries.Content.TheVariants.{Stored}
use Rattle.dwz_expand_layout.specs.declared.entries.NewAttr.{NewAttr}
use Rattle.dwz_expand_layout.specs.declared.entries.NewOperand.{NewOperand}
use Rattle.dwz_expand_layout.specs.Entries.{CanStore, attr_view, content_view}

-- ---- one value

-- what is stored of a content, with the operands of its entry
abbrev pub bytes_in : Numbers → List NewOperand → ℕ → ContentOfCode → List ℕ
bytes_in n operands form c = value_bytes form (raw_of n form (content_view operands c))

pub in_content : (n : Numbers) (operands : List NewOperand) (form : ℕ) (c d : ContentOfCode) → c ≡ d → bytes_in n operands form c ≡ bytes_in n operands form d
in_content n operands form c d same = ap (bytes_in n operands form) same

pub entry_len : (n : Numbers) (form copy : ℕ) → (r : Reach) × (form ≡ ref_form r) → 4 ≡ length (value_bytes form (raw_of n form (OfEntry copy)))
entry_len n form copy h = subst (λ (f : ℕ). 4 ≡ length (value_bytes f (raw_of n f (OfEntry copy)))) (sym h.1) (ref_len h.0 _)

pub entry_bytes : (n : Numbers) (form copy number : ℕ) → (r : Reach) × (form ≡ ref_form r) → raw_of n form (OfEntry copy) ≡ Number (pos number)
    → le_bytes 4 number ≡ value_bytes form (raw_of n form (OfEntry copy))
entry_bytes n form copy number h is = sym (ap (value_bytes form) is ∙ ap (λ (f : ℕ). value_bytes f (Number (pos number))) h.1 ∙ ref_bytes h.0 number)

-- ---- a value in DW_FORM_string (08)

string_bytes : (text : List ℕ) → value_bytes 0x08 (Bytes text) ≡ text ++ 0 ∷ []
unfolding value_bytes form_rows
string_bytes text = refl

string_none : (z : ℤ) → value_bytes 0x08 (Number z) ≡ []
unfolding value_bytes form_rows
string_none z = refl

pub text_bytes : (form : ℕ) (raw : Raw) (text : List ℕ) → form ≡ 0x08 → raw ≡ Bytes text → value_bytes form raw ≡ text ++ 0 ∷ []
text_bytes form raw text is same = (λ i. value_bytes (is i) (same i)) ∙ string_bytes text

pub text_none : (form : ℕ) (raw : Raw) (z : ℤ) → form ≡ 0x08 → raw ≡ Number z → value_bytes form raw ≡ []
text_none form raw z is same = (λ i. value_bytes (is i) (same i)) ∙ string_none z

pub text_long : (form : ℕ) (raw : Raw) (text : List ℕ) → form ≡ 0x08 → raw ≡ Bytes text → length text + 1 ≡ length (value_bytes form raw)
text_long form raw text is same = sym (ap (λ (w : List ℕ). length w) (text_bytes form raw text is same) ∙ length-append text (0 ∷ []))

-- ---- a loop over attributes

abbrev pub no_attr : NewAttr
no_attr = record { pair = record { name = 0; form = 0; constant = pos 0 }; content = Stored (code.Number (pos 0)) }

abbrev pub seen : List NewOperand → List NewAttr → ℕ → List OutAttr
seen operands attrs i = map (attr_view operands) (take i attrs)

pub storable : (attrs : List NewAttr) (i : ℕ) (a : NewAttr) → Each CanStore attrs → slice_get attrs i ≡ Some a → CanStore a
storable attrs i a all found = each_in CanStore a attrs all (got_in attrs i a found)

pub all_seen : (operands : List NewOperand) (attrs : List NewAttr) (i : ℕ) → length attrs ≤ i → seen operands attrs i ≡ map (attr_view operands) attrs
all_seen operands attrs i le = ap (map (attr_view operands)) (take_all i attrs le)

pub more_seen : (operands : List NewOperand) (attrs : List NewAttr) (i : ℕ) (d : NewAttr) → i < length attrs
    → seen operands attrs (i + 1) ≡ seen operands attrs i ++ attr_view operands (get_or attrs i d) ∷ []
more_seen operands attrs i d lt = map_more (attr_view operands) attrs i d lt

-- the names and forms, and how many bytes the values have
pub record Measured (operands : List NewOperand) (attrs : List NewAttr) (i : ℕ) (room : List Pair) (size : ℕ) : Type 0 where
  pub names : room ≡ pairs_of (stored_all no_numbers (seen operands attrs i))
  pub sized : size ≡ length (values_bytes (stored_all no_numbers (seen operands attrs i)))
  pub plain : All IsPlainPair room

pub measured_none : (operands : List NewOperand) (attrs : List NewAttr) (room : List Pair) → room ≡ [] → Measured operands attrs 0 room 0
measured_none operands attrs room none = record {
  names = none;
  sized = sym (ap (λ (w : List ℕ). length w) no_values);
  plain = subst (All IsPlainPair) (sym none) (All-nil IsPlainPair);
}

pub measured_more : (operands : List NewOperand) (attrs : List NewAttr) (i : ℕ) (d : NewAttr) (room new : List Pair) (size one sum : ℕ) → Measured operands attrs i room size → Each CanStore attrs
    → i < length attrs → new ≡ room ++ (get_or attrs i d).pair ∷ [] → one ≡ length (bytes_in no_numbers operands (get_or attrs i d).pair.form (get_or attrs i d).content) → sum ≡ size + one
    → Measured operands attrs (i + 1) new sum
measured_more operands attrs i d room new size one sum m all lt put len add =
    let a = get_or attrs i d in
    let next = more_seen operands attrs i d lt in
    let old = seen operands attrs i in
    let last = attr_view operands a ∷ [] in
    let long = length_more no_numbers old last in
    let single = ap (λ (w : List ℕ). length w) (one_value (stored_of no_numbers (attr_view operands a))) in
    let whole = ap (λ (w : List OutAttr). length (values_bytes (stored_all no_numbers w))) next in
    let so = m.sized in
    record {
      names =
          put
          ∙ ap (λ (w : List Pair). w ++ a.pair ∷ []) m.names
          ∙ sym (ap (λ (w : List OutAttr). pairs_of (stored_all no_numbers w)) next ∙ pairs_more no_numbers old last);
      sized = omega (arith, so, len, add, long, single, whole);
      plain = plain_more room new a.pair put (storable attrs i a all (slice_get-get_or attrs i d lt)).declared m.plain;
    }

-- ---- what is appended

-- so many values
abbrev pub Put : Numbers → List NewOperand → List NewAttr → ℕ → List ℕ → List ℕ → Type 0
Put n operands attrs i old out = out ≡ old ++ values_bytes (stored_all n (seen operands attrs i))

pub put_none : (n : Numbers) (operands : List NewOperand) (attrs : List NewAttr) (old : List ℕ) → Put n operands attrs 0 old old
put_none n operands attrs old = sym (append-nil old) ∙ ap (λ (w : List ℕ). old ++ w) (sym no_values)

pub put_more : (n : Numbers) (operands : List NewOperand) (attrs : List NewAttr) (i : ℕ) (d : NewAttr) (old out new : List ℕ) → Put n operands attrs i old out → i < length attrs
    → new ≡ out ++ bytes_in n operands (get_or attrs i d).pair.form (get_or attrs i d).content → Put n operands attrs (i + 1) old new
put_more n operands attrs i d old out new so lt put =
    let a = get_or attrs i d in
    let next = more_seen operands attrs i d lt in
    let first = seen operands attrs i in
    let last = attr_view operands a ∷ [] in
    let bytes = bytes_in n operands a.pair.form a.content in
    put
    ∙ ap (λ (w : List ℕ). w ++ bytes) so
    ∙ append_assoc old (values_bytes (stored_all n first)) bytes
    ∙ sym (ap (λ (w : List ℕ). old ++ w)
    (ap (λ (w : List OutAttr). values_bytes (stored_all n w)) next
    ∙ values_more n first last
    ∙ ap (λ (w : List ℕ). values_bytes (stored_all n first) ++ w) (one_value (stored_of n (attr_view operands a)))))

pub put_all : (n : Numbers) (operands : List NewOperand) (attrs : List NewAttr) (i : ℕ) (old out : List ℕ) → Put n operands attrs i old out → length attrs ≤ i
    → out ≡ old ++ values_bytes (stored_all n (map (attr_view operands) attrs))
put_all n operands attrs i old out so le = so ∙ ap (λ (w : List OutAttr). old ++ values_bytes (stored_all n w)) (all_seen operands attrs i le)
