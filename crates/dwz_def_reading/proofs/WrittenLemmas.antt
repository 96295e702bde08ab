-- What is written of a value spells it.
use Rattle.std.proofs.Common.{◌≡◌, ℕ, ℤ, zero, suc, ◌^◌, ◌<◌, inl, inr, List, [], ◌∷◌, ◌++◌, drop, get_or, length, refl, sym, ap, subst, ◌∙◌, arith}
use Rattle.std.proofs.lemmas.Bool.Decides.{eqb_tells}
use Rattle.dwz_model.specs.declared.place.Pair.{Pair}
use Rattle.dwz_codes.specs.Forms.{form_rows}
use Rattle.std.proofs.Math.Nat.{pow-suc}
use Rattle.std.proofs.lemmas.Bool.{ltb-true}
use Rattle.dwz_bytes.specs.Spelling.{SpellsFixed, SpellsSleb, SpellsUleb, le_bytes, le_value, uleb}
use Rattle.dwz_bytes.proofs.FixedLemmas.{fixed_written}
use Rattle.dwz_bytes.proofs.PaddedLemmas.{uleb_spells}
use Rattle.dwz_bytes.proofs.SignedLemmas.{sleb_spells}
use Rattle.dwz_codes.specs.declared.shape.Shape.{Shape}
use Rattle.dwz_codes.specs.declared.shape.Shape.TheVariants.{Nothing, Refused, Fixed1, Fixed2, Fixed3, Fixed4, Fixed8, Fixed16, Uleb, Sleb, ZeroEnded, Block1, Block2, Block4, BlockUleb, Address}
use Rattle.dwz_def_reading.specs.Texts.{SpellsText}
use Rattle.dwz_def_reading.specs.Values.{AreBytes, Bytes, HasSpelling, Number, Raw, SpellsAs, SpellsBlock, SpellsNothing, SpellsRun, SpellsShape, SpellsValue, constant_of, shape_bytes, shape_of, unsigned}
use Rattle.dwz_def_reading.specs.Values.{value_bytes, written_rows}

pub le_value-less : (bytes : List ℕ) → AreBytes bytes → le_value bytes < 256 ^ length bytes
le_value-less [] are = omega arith
le_value-less (b ∷ bytes) are =
    let rest = le_value-less bytes are.1 in
    let low : b < 256 = are.0 in
    omega (arith, rest, low, pow-suc 256 (length bytes))

pub front_bytes : (front back : List ℕ) → AreBytes (front ++ back) → AreBytes front
front_bytes [] back are = tt
front_bytes (b ∷ front) back are = (are.0, front_bytes front back are.1)

-- a number that k bytes spell is below 256^k
pub fixed_less : (k n : ℕ) (bytes : List ℕ) → AreBytes bytes → SpellsFixed k bytes n → n < 256 ^ k
fixed_less k n bytes are is = let less = le_value-less bytes are in subst (λ (m : ℕ). m < 256 ^ k) (sym is.value) (subst (λ (m : ℕ). le_value bytes < 256 ^ m) is.len less)

fixed_again : (k n : ℕ) (bytes : List ℕ) → AreBytes bytes → SpellsFixed k bytes n → SpellsFixed k (le_bytes k n) n
fixed_again k n bytes are is = fixed_written k n (fixed_less k n bytes are is)

uleb_again : (n : ℕ) (bytes : List ℕ) → SpellsUleb bytes n → SpellsUleb (uleb n) n
uleb_again n bytes is = uleb_spells n (ltb-true n (2 ^ 64) is.in_range)

block_fixed : (k : ℕ) (content bytes : List ℕ) → AreBytes bytes → SpellsBlock (SpellsFixed k) bytes content → SpellsBlock (SpellsFixed k) (le_bytes k (length content) ++ content) content
block_fixed k content bytes are is = record {
  front = le_bytes k (length content);
  count = fixed_again k (length content) is.front (front_bytes is.front content (subst AreBytes is.parts are)) is.count;
  parts = refl;
}

-- where bytes spell the raw value in this shape, what is written does
pub shape_written : (shape : Shape) (number : ℤ) (bytes : List ℕ) (raw : Raw) → AreBytes bytes → SpellsShape shape number bytes raw → SpellsShape shape number (shape_bytes shape raw) raw
shape_written Nothing number bytes raw are is = subst (λ (r : Raw). SpellsNothing number (shape_bytes Nothing r) r) (sym is.value) (record { empty = refl; value = refl })
shape_written Fixed1 number bytes raw are is = subst (λ (r : Raw). SpellsAs unsigned (SpellsFixed 1) (shape_bytes Fixed1 r) r) (sym is.value)
    (record { content = is.content; spelled = fixed_again 1 is.content bytes are is.spelled; value = refl })
shape_written Fixed2 number bytes raw are is = subst (λ (r : Raw). SpellsAs unsigned (SpellsFixed 2) (shape_bytes Fixed2 r) r) (sym is.value)
    (record { content = is.content; spelled = fixed_again 2 is.content bytes are is.spelled; value = refl })
shape_written Fixed3 number bytes raw are is = subst (λ (r : Raw). SpellsAs unsigned (SpellsFixed 3) (shape_bytes Fixed3 r) r) (sym is.value)
    (record { content = is.content; spelled = fixed_again 3 is.content bytes are is.spelled; value = refl })
shape_written Fixed4 number bytes raw are is = subst (λ (r : Raw). SpellsAs unsigned (SpellsFixed 4) (shape_bytes Fixed4 r) r) (sym is.value)
    (record { content = is.content; spelled = fixed_again 4 is.content bytes are is.spelled; value = refl })
shape_written Fixed8 number bytes raw are is = subst (λ (r : Raw). SpellsAs unsigned (SpellsFixed 8) (shape_bytes Fixed8 r) r) (sym is.value)
    (record { content = is.content; spelled = fixed_again 8 is.content bytes are is.spelled; value = refl })
shape_written Address number bytes raw are is = subst (λ (r : Raw). SpellsAs unsigned (SpellsFixed 8) (shape_bytes Address r) r) (sym is.value)
    (record { content = is.content; spelled = fixed_again 8 is.content bytes are is.spelled; value = refl })
shape_written Uleb number bytes raw are is = subst (λ (r : Raw). SpellsAs unsigned SpellsUleb (shape_bytes Uleb r) r) (sym is.value)
    (record { content = is.content; spelled = uleb_again is.content bytes is.spelled; value = refl })
shape_written Sleb number bytes raw are is = subst (λ (r : Raw). SpellsAs Number SpellsSleb (shape_bytes Sleb r) r) (sym is.value)
    (record { content = is.content; spelled = sleb_spells is.content is.spelled.in_range; value = refl })
shape_written Fixed16 number bytes raw are is =
    subst (λ (r : Raw). SpellsAs Bytes (SpellsRun 16) (shape_bytes Fixed16 r) r) (sym is.value)
    (record { content = is.content; spelled = record { len = ap length is.spelled.same ∙ is.spelled.len; same = refl }; value = refl })
shape_written ZeroEnded number bytes raw are is =
    subst (λ (r : Raw). SpellsAs Bytes SpellsText (shape_bytes ZeroEnded r) r) (sym is.value)
    (record { content = is.content; spelled = record { no_zero = is.spelled.no_zero; parts = refl }; value = refl })
shape_written Block1 number bytes raw are is =
    subst (λ (r : Raw). SpellsAs Bytes (SpellsBlock (SpellsFixed 1)) (shape_bytes Block1 r) r) (sym is.value)
    (record { content = is.content; spelled = block_fixed 1 is.content bytes are is.spelled; value = refl })
shape_written Block2 number bytes raw are is =
    subst (λ (r : Raw). SpellsAs Bytes (SpellsBlock (SpellsFixed 2)) (shape_bytes Block2 r) r) (sym is.value)
    (record { content = is.content; spelled = block_fixed 2 is.content bytes are is.spelled; value = refl })
shape_written Block4 number bytes raw are is =
    subst (λ (r : Raw). SpellsAs Bytes (SpellsBlock (SpellsFixed 4)) (shape_bytes Block4 r) r) (sym is.value)
    (record { content = is.content; spelled = block_fixed 4 is.content bytes are is.spelled; value = refl })
shape_written BlockUleb number bytes raw are is =
    subst (λ (r : Raw). SpellsAs Bytes (SpellsBlock SpellsUleb) (shape_bytes BlockUleb r) r) (sym is.value)
    (record { content = is.content; spelled = record { front = uleb (length is.content); count = uleb_again (length is.content) is.spelled.front is.spelled.count; parts = refl }; value = refl })
shape_written _ number bytes raw are is = absurd is

pub value_written : (form : ℕ) (raw : Raw) (h : HasSpelling form raw) → SpellsValue written_rows h.pair (value_bytes form raw) raw
unfolding value_bytes
value_written form raw h =
    subst (λ (g : ℕ). SpellsValue written_rows h.pair (shape_bytes (shape_of written_rows g) raw) raw) h.of_form
    (shape_written (shape_of written_rows h.pair.form) (constant_of h.pair) h.bytes raw h.are_bytes h.spelled)

-- ---- what is read can be written

pub bytes_fit : (bytes : List ℕ) → ((k : ℕ) → get_or bytes k 0 < 256) → AreBytes bytes
bytes_fit [] each = tt
bytes_fit (b ∷ bytes) each = (each 0, bytes_fit bytes (λ k. each (suc k)))

pub drop_bytes : (n : ℕ) (bytes : List ℕ) → AreBytes bytes → AreBytes (drop n bytes)
drop_bytes zero bytes are = are
drop_bytes (suc n) [] are = tt
drop_bytes (suc n) (b ∷ bytes) are = drop_bytes n bytes are.1

-- two forms that are only written have no value that is read
unread_sup4 : shape_of form_rows 0x1c ≡ Refused
unfolding form_rows
unread_sup4 = refl

unread_strp_sup : shape_of form_rows 0x1d ≡ Refused
unfolding form_rows
unread_strp_sup = refl

pub same_shape : (form : ℕ) (number : ℤ) (bytes : List ℕ) (raw : Raw) → SpellsShape (shape_of form_rows form) number bytes raw → SpellsShape (shape_of written_rows form) number bytes raw
same_shape form number bytes raw is =
    elim (eqb_tells 0x1c form) [
      | inl p ↦ absurd (subst (λ (s : Shape). SpellsShape s number bytes raw) (ap (shape_of form_rows) (sym p.1) ∙ unread_sup4) is)
      | inr p ↦ elim (eqb_tells 0x1d form) [
        | inl q ↦ absurd (subst (λ (s : Shape). SpellsShape s number bytes raw) (ap (shape_of form_rows) (sym q.1) ∙ unread_strp_sup) is)
        | inr q ↦
            let same : shape_of written_rows form ≡ shape_of form_rows form = rw (p.0, q.0) refl in
            subst (λ (s : Shape). SpellsShape s number bytes raw) (sym same) is
      ]
    ]

pub read_writable : (pair : Pair) (bytes : List ℕ) (raw : Raw) → AreBytes bytes → SpellsValue form_rows pair bytes raw → HasSpelling pair.form raw
read_writable pair bytes raw are is = record { pair = pair; of_form = refl; bytes = bytes; are_bytes = are; spelled = same_shape pair.form (constant_of pair) bytes raw is }
