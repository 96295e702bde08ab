-- Reading and spelling, one way of reading at a time: numbers, runs of bytes, texts, blocks.
use Rattle.std.proofs.Common.{◌≡◌, ℕ, ◌+◌, ◌<◌, ◌≤◌, List, ◌++◌, length, take, drop, Option, Some, None, Result, Ok, Err, refl, sym, ap, subst, ◌∙◌, cond, ltb, false, Bool, arith, inl, inr}
use Rattle.std.proofs.Common.{append_assoc}
use Rattle.std.proofs.lemmas.Bool.{ltb-false, ltb-true, le-ltb, lt-ltb}
use Rattle.std.proofs.lemmas.List.{length-append, length-take, take-append-drop}
use Rattle.dwz_bytes.specs.declared.error.ByteErr.{ByteErr}
use Rattle.dwz_bytes.specs.declared.error.ByteErr.TheVariants.{Short, Wide}
use Rattle.dwz_bytes.specs.Input.{Input, past}
use Rattle.dwz_bytes.specs.Laws.{IsCutShort, One}
use Rattle.dwz_bytes.specs.Reading.{fixed_at, leb_at, sleb_at, take_at, uleb_at}
use Rattle.dwz_bytes.specs.Spelling.{SpellsFixed, SpellsLeb, SpellsSleb, SpellsUleb, fits_i64, fits_u64, groups_value, le_value, signed_value}
use Rattle.dwz_bytes.proofs.FixedLemmas.{fixed_one, same_front}
use Rattle.dwz_bytes.proofs.LebLemmas.{drop-front, leb_again, leb_found, leb_one, leb_short, leb_wide, take-front}
use Rattle.dwz_bytes.proofs.GroupLemmas.{chosen}
use Rattle.dwz_def_reading.specs.Parts.{IsRead}
use Rattle.dwz_def_reading.specs.Texts.{NoZero, SpellsText, behind_text, text_in, zero_ended_at}
use Rattle.dwz_def_reading.specs.Values.{AreFewer, IsBlockCut, IsTooBig, Raw, SpellsAs, SpellsBlock, SpellsRun, block_at, read_as}
use Rattle.dwz_def_reading.proofs.PartLemmas.{bind_err, bind_ok, same_input, same_value}
use Rattle.dwz_def_reading.proofs.TextLemmas.{none_again, none_begins, text_found, text_one, text_read_again}

-- what a way of reading has to do with what it reads, with where the bytes are cut off, and with numbers that are too big
pub record Reads {X : Type 0} (Spells : List ℕ → X → Type 0) (IsCut IsBig : List ℕ → Type 0) (read : Input → Result (X × Input) ByteErr) : Type 0 where
  pub found : (i j : Input) (x : X) → read i ≡ Ok (x, j) → IsRead Spells i j x
  pub again : (at : ℕ) (x : X) (front rest : List ℕ) → Spells front x → read (record { at = at; rest = front ++ rest }) ≡ Ok (x, record { at = at + length front; rest = rest })
  pub one : (a b more others : List ℕ) (x y : X) → Spells a x → Spells b y → a ++ more ≡ b ++ others → (a ≡ b) × (x ≡ y)
  pub short_cut : (i : Input) (at : ℕ) → read i ≡ Err (Short at) → IsCut i.rest
  pub cut_short : (i : Input) → IsCut i.rest → (at : ℕ) × (read i ≡ Err (Short at))
  pub wide_big : (i : Input) (at : ℕ) → read i ≡ Err (Wide at) → IsBig i.rest
  pub big_wide : (i : Input) → IsBig i.rest → (at : ℕ) × (read i ≡ Err (Wide at))

abbrev pub Never : List ℕ → Type 0
Never bytes = ⊥

-- ---- LEB128 numbers

pub leb_reads : {X : Type 0} (worth : List ℕ → X) (fits : X → Bool) → Reads (SpellsLeb worth fits) IsCutShort (IsTooBig worth fits) (leb_at worth fits)
leb_reads {X} worth fits = record {
  found = λ i j x e. let t = leb_found worth fits i j x e in record { front = t.0; spelled = t.1; parts = t.2; place = t.3 };
  again = leb_again worth fits;
  one = leb_one worth fits;
  short_cut = λ i at e. ((leb_short worth fits i at).0 e).1;
  cut_short = λ i is. (i.at, (leb_short worth fits i i.at).1 (refl, is));
  wide_big = λ i at e. ((leb_wide worth fits i at).0 e).1;
  big_wide = λ i is. (i.at, (leb_wide worth fits i i.at).1 (refl, is));
}

pub uleb_reads : Reads SpellsUleb IsCutShort (IsTooBig groups_value fits_u64) uleb_at
unfolding uleb_at
uleb_reads = leb_reads groups_value fits_u64

pub sleb_reads : Reads SpellsSleb IsCutShort (IsTooBig signed_value fits_i64) sleb_at
unfolding sleb_at
sleb_reads = leb_reads signed_value fits_i64

-- ---- so many bytes

abbrev taken : {X : Type 0} → (List ℕ → X) → ℕ → Input → Result (X × Input) ByteErr
taken worth k i = cond (ltb (length i.rest) k) (Err (Short i.at)) (Ok (worth (take k i.rest), past k i))

-- the front that was taken, and its length
pub record Taken {X : Type 0} (worth : List ℕ → X) (k : ℕ) (i j : Input) (x : X) : Type 0 where
  pub room : k ≤ length i.rest
  pub len : length (take k i.rest) ≡ k
  pub value : x ≡ worth (take k i.rest)
  pub to : past k i ≡ j

taken_ok : {X : Type 0} (worth : List ℕ → X) (k : ℕ) (i j : Input) (x : X) → taken worth k i ≡ Ok (x, j) → Taken worth k i j x
taken_ok {X} worth k i j x e =
    elim (chosen (ltb (length i.rest) k) (Err (Short i.at)) (Ok (worth (take k i.rest), past k i)) (Ok (x, j)) e) [
      | inl p ↦ absurd cc
      | inr p ↦
          let room : k ≤ length i.rest = ltb-false (length i.rest) k p.0 in
          record {
            room = room;
            len = omega (arith, length-take k i.rest);
            value = same_value x (worth (take k i.rest)) j (past k i) (Ok (x, j)) refl (sym p.1);
            to = same_input (worth (take k i.rest)) x (past k i) j (Ok (worth (take k i.rest), past k i)) refl p.1;
          }
    ]

parts_of : (k : ℕ) (i j : Input) → past k i ≡ j → i.rest ≡ take k i.rest ++ j.rest
parts_of k i j to = sym (take-append-drop k i.rest) ∙ ap (λ (q : Input). take k i.rest ++ q.rest) to

place_of : (k : ℕ) (i j : Input) → past k i ≡ j → length (take k i.rest) ≡ k → j.at ≡ i.at + length (take k i.rest)
place_of k i j to len = ap (λ (q : Input). q.at) (sym to) ∙ ap (λ (n : ℕ). i.at + n) (sym len)

taken_again : {X : Type 0} (worth : List ℕ → X) (k at : ℕ) (x : X) (front rest : List ℕ) → length front ≡ k → x ≡ worth front
    → taken worth k (record { at = at; rest = front ++ rest }) ≡ Ok (x, record { at = at + length front; rest = rest })
taken_again {X} worth k at x front rest len value =
    let room : ltb (length (front ++ rest)) k ≡ false = le-ltb (length (front ++ rest)) k (omega (arith, len, length-append front rest)) in
    let first : take k (front ++ rest) ≡ front = ap (λ (n : ℕ). take n (front ++ rest)) (sym len) ∙ take-front front rest in
    let behind : drop k (front ++ rest) ≡ rest = ap (λ (n : ℕ). drop n (front ++ rest)) (sym len) ∙ drop-front front rest in
    let whole : taken worth k (record { at = at; rest = front ++ rest }) ≡ Ok (worth front, record { at = at + k; rest = rest }) = rw (room, first, behind) refl in
    whole ∙ ap (λ (n : ℕ). Ok (worth front, record { at = at + n; rest = rest })) (sym len) ∙ ap (λ (y : X). Ok (y, record { at = at + length front; rest = rest })) (sym value)

taken_short : {X : Type 0} (worth : List ℕ → X) (k : ℕ) (i : Input) (at : ℕ) → taken worth k i ≡ Err (Short at) → length i.rest < k
taken_short worth k i at e =
    elim (chosen (ltb (length i.rest) k) (Err (Short i.at)) (Ok (worth (take k i.rest), past k i)) (Err (Short at)) e) [
      | inl p ↦ ltb-true (length i.rest) k p.0
      | inr p ↦ absurd cc
    ]

short_taken : {X : Type 0} (worth : List ℕ → X) (k : ℕ) (i : Input) → length i.rest < k → (at : ℕ) × (taken worth k i ≡ Err (Short at))
short_taken worth k i lt = (i.at, rw (lt-ltb (length i.rest) k lt) refl)

taken_wide : {X : Type 0} (worth : List ℕ → X) (k : ℕ) (i : Input) (at : ℕ) → taken worth k i ≡ Err (Wide at) → ⊥
taken_wide worth k i at e =
    elim (chosen (ltb (length i.rest) k) (Err (Short i.at)) (Ok (worth (take k i.rest), past k i)) (Err (Wide at)) e) [
      | inl p ↦ absurd cc
      | inr p ↦ absurd cc
    ]

pub fixed_reads : (k : ℕ) → Reads (SpellsFixed k) (AreFewer k) Never (fixed_at k)
fixed_reads k = record {
  found = λ i j x e.
      let t = taken_ok le_value k i j x e in
      record { front = take k i.rest; spelled = record { len = t.len; value = t.value }; parts = parts_of k i j t.to; place = place_of k i j t.to t.len };
  again = λ at x front rest is. taken_again le_value k at x front rest is.len is.value;
  one = fixed_one k;
  short_cut = taken_short le_value k;
  cut_short = short_taken le_value k;
  wide_big = taken_wide le_value k;
  big_wide = λ i is. absurd is;
}

abbrev bytes_of : List ℕ → List ℕ
bytes_of bytes = bytes

pub run_reads : (k : ℕ) → Reads (SpellsRun k) (AreFewer k) Never (take_at k)
run_reads k = record {
  found = λ i j x e.
      let t = taken_ok bytes_of k i j x e in
      record { front = take k i.rest; spelled = record { len = t.len; same = t.value }; parts = parts_of k i j t.to; place = place_of k i j t.to t.len };
  again = λ at x front rest is. taken_again bytes_of k at x front rest is.len is.same;
  one = λ a b more others x y p q e. let same = same_front a b more others (p.len ∙ sym q.len) e in (same, p.same ∙ same ∙ sym q.same);
  short_cut = taken_short bytes_of k;
  cut_short = short_taken bytes_of k;
  wide_big = taken_wide bytes_of k;
  big_wide = λ i is. absurd is;
}

-- ---- texts

text_short : (i : Input) (at : ℕ) → zero_ended_at i ≡ Err (Short at) → NoZero i.rest
text_short i at e = behind (text_in i.rest) refl e where
  behind : (o : Option (List ℕ)) → text_in i.rest ≡ o → behind_text i o ≡ Err (Short at) → NoZero i.rest
  behind None is f = none_begins i.rest is
  behind (Some text) is f = absurd cc

text_wide : (i : Input) (at : ℕ) → zero_ended_at i ≡ Err (Wide at) → ⊥
text_wide i at e = behind (text_in i.rest) e where
  behind : (o : Option (List ℕ)) → behind_text i o ≡ Err (Wide at) → ⊥
  behind None f = absurd cc
  behind (Some text) f = absurd cc

pub text_reads : Reads SpellsText NoZero Never zero_ended_at
text_reads = record {
  found = text_found;
  again = text_read_again;
  one = text_one;
  short_cut = text_short;
  cut_short = λ i is. (i.at, ap (behind_text i) (none_again i.rest is));
  wide_big = text_wide;
  big_wide = λ i is. absurd is;
}

-- ---- what is read, seen as a raw value

abbrev seen_with : {X : Type 0} → (X → Raw) → X × Input → Result (Raw × Input) ByteErr
seen_with seen x = Ok (seen x.0, x.1)

pub as_reads : {X : Type 0} (seen : X → Raw) (Spells : List ℕ → X → Type 0) (IsCut IsBig : List ℕ → Type 0) (read : Input → Result (X × Input) ByteErr)
    → Reads Spells IsCut IsBig read → Reads (SpellsAs seen Spells) IsCut IsBig (read_as seen read)
as_reads {X} seen Spells IsCut IsBig read r = record {
  found = λ i j x e.
      let b = bind_ok (read i) (seen_with seen) (x, j) e in
      let t = r.found i b.0.1 b.0.0 b.1 in
      let value : seen b.0.0 ≡ x = same_value (seen b.0.0) x b.0.1 j (seen_with seen b.0) refl b.2 in
      let to : b.0.1 ≡ j = same_input (seen b.0.0) x b.0.1 j (seen_with seen b.0) refl b.2 in
      record {
        front = t.front;
        spelled = record { content = b.0.0; spelled = t.spelled; value = sym value };
        parts = t.parts ∙ ap (λ (q : Input). t.front ++ q.rest) to;
        place = ap (λ (q : Input). q.at) (sym to) ∙ t.place;
      };
  again = λ at x front rest is.
      let step = r.again at is.content front rest is.spelled in
      let made : read_as seen read (record { at = at; rest = front ++ rest }) ≡ Ok (seen is.content, record { at = at + length front; rest = rest }) = rw step refl in
      made ∙ ap (λ (y : Raw). Ok (y, record { at = at + length front; rest = rest })) (sym is.value);
  one = λ a b more others x y p q e.
      let same = r.one a b more others p.content q.content p.spelled q.spelled e in
      (same.0, p.value ∙ ap seen same.1 ∙ sym q.value);
  short_cut = λ i at e. elim (bind_err (read i) (seen_with seen) (Short at) e) [ inl p ↦ r.short_cut i at p | inr p ↦ absurd cc ];
  cut_short = λ i is. let s = r.cut_short i is in (s.0, rw s.1 refl);
  wide_big = λ i at e. elim (bind_err (read i) (seen_with seen) (Wide at) e) [ inl p ↦ r.wide_big i at p | inr p ↦ absurd cc ];
  big_wide = λ i is. let s = r.big_wide i is in (s.0, rw s.1 refl);
}

-- ---- blocks

abbrev content_of : ℕ × Input → Result (List ℕ × Input) ByteErr
content_of count = take_at count.0 count.1

pub regrouped : (bytes front content rest : List ℕ) → bytes ≡ front ++ content → bytes ++ rest ≡ front ++ (content ++ rest)
regrouped bytes front content rest parts = ap (λ (w : List ℕ). w ++ rest) parts ∙ append_assoc front content rest

block_found : (Spells : List ℕ → ℕ → Type 0) (IsCut IsBig : List ℕ → Type 0) (read : Input → Result (ℕ × Input) ByteErr) → Reads Spells IsCut IsBig read
    → (i j : Input) (x : List ℕ) → block_at read i ≡ Ok (x, j) → IsRead (SpellsBlock Spells) i j x
block_found Spells IsCut IsBig read r i j x e =
    let b = bind_ok (read i) content_of (x, j) e in
    let t = r.found i b.0.1 b.0.0 b.1 in
    let c = (run_reads b.0.0).found b.0.1 j x b.2 in
    let count : b.0.0 ≡ length x = sym c.spelled.len ∙ ap length (sym c.spelled.same) in
    record {
      front = t.front ++ x;
      spelled = record { front = t.front; count = subst (Spells t.front) count t.spelled; parts = refl };
      parts = t.parts ∙ ap (λ (w : List ℕ). t.front ++ w) (c.parts ∙ ap (λ (w : List ℕ). w ++ j.rest) (sym c.spelled.same)) ∙ sym (append_assoc t.front x j.rest);
      place = omega (arith, c.place, t.place, ap length c.spelled.same, length-append t.front x);
    }

block_again : (Spells : List ℕ → ℕ → Type 0) (IsCut IsBig : List ℕ → Type 0) (read : Input → Result (ℕ × Input) ByteErr) → Reads Spells IsCut IsBig read
    → (at : ℕ) (x front rest : List ℕ) → SpellsBlock Spells front x → block_at read (record { at = at; rest = front ++ rest }) ≡ Ok (x, record { at = at + length front; rest = rest })
block_again Spells IsCut IsBig read r at x front rest is =
    let whole = regrouped front is.front x rest is.parts in
    let first = r.again at (length x) is.front (x ++ rest) is.count in
    let second = (run_reads (length x)).again (at + length is.front) x x rest (record { len = refl; same = refl }) in
    let place : at + length is.front + length x ≡ at + length front = omega (arith, ap length is.parts, length-append is.front x) in
    let both : block_at read (record { at = at; rest = is.front ++ (x ++ rest) }) ≡ Ok (x, record { at = at + length is.front + length x; rest = rest }) = rw first second in
    ap (λ (w : List ℕ). block_at read (record { at = at; rest = w })) whole ∙ both ∙ ap (λ (n : ℕ). Ok (x, record { at = n; rest = rest })) place

block_one : (Spells : List ℕ → ℕ → Type 0) (IsCut IsBig : List ℕ → Type 0) (read : Input → Result (ℕ × Input) ByteErr) → Reads Spells IsCut IsBig read → One (SpellsBlock Spells)
block_one Spells IsCut IsBig read r a b more others x y p q e =
    let joined : p.front ++ (x ++ more) ≡ q.front ++ (y ++ others) = sym (regrouped a p.front x more p.parts) ∙ e ∙ regrouped b q.front y others q.parts in
    let same = r.one p.front q.front (x ++ more) (y ++ others) (length x) (length y) p.count q.count joined in
    let behind : x ++ more ≡ y ++ others =
    sym (drop-front p.front (x ++ more)) ∙ ap (drop (length p.front)) joined ∙ ap (λ (w : List ℕ). drop (length w) (q.front ++ (y ++ others))) same.0 ∙ drop-front q.front (y ++ others) in
    let content : x ≡ y = same_front x y more others same.1 behind in
    (p.parts ∙ ap (λ (w : List ℕ). w ++ x) same.0 ∙ ap (λ (w : List ℕ). q.front ++ w) content ∙ sym q.parts, content)

block_short : (Spells : List ℕ → ℕ → Type 0) (IsCut IsBig : List ℕ → Type 0) (read : Input → Result (ℕ × Input) ByteErr) → Reads Spells IsCut IsBig read
    → (i : Input) (at : ℕ) → block_at read i ≡ Err (Short at) → IsBlockCut Spells IsCut i.rest
block_short Spells IsCut IsBig read r i at e =
    elim (bind_err (read i) content_of (Short at) e) [
      | inl p ↦ inl (r.short_cut i at p)
      | inr p ↦
          let t = r.found i p.0.1 p.0.0 p.1 in
          inr (record { front = t.front; rest = p.0.1.rest; count = p.0.0; spelled = t.spelled; too_few = (run_reads p.0.0).short_cut p.0.1 at p.2; parts = t.parts })
    ]

short_block : (Spells : List ℕ → ℕ → Type 0) (IsCut IsBig : List ℕ → Type 0) (read : Input → Result (ℕ × Input) ByteErr) → Reads Spells IsCut IsBig read
    → (i : Input) → IsBlockCut Spells IsCut i.rest → (at : ℕ) × (block_at read i ≡ Err (Short at))
short_block Spells IsCut IsBig read r i is =
    elim is [
      | inl cut ↦ let s = r.cut_short i cut in (s.0, rw s.1 refl)
      | inr b ↦
          let first = r.again i.at b.count b.front b.rest b.spelled in
          let s = (run_reads b.count).cut_short (record { at = i.at + length b.front; rest = b.rest }) b.too_few in
          let both : block_at read (record { at = i.at; rest = b.front ++ b.rest }) ≡ Err (Short s.0) = rw first s.1 in
          (s.0, ap (λ (w : List ℕ). block_at read (record { at = i.at; rest = w })) b.parts ∙ both)
    ]

pub block_reads : (Spells : List ℕ → ℕ → Type 0) (IsCut IsBig : List ℕ → Type 0) (read : Input → Result (ℕ × Input) ByteErr)
    → Reads Spells IsCut IsBig read → Reads (SpellsBlock Spells) (IsBlockCut Spells IsCut) IsBig (block_at read)
block_reads Spells IsCut IsBig read r = record {
  found = block_found Spells IsCut IsBig read r;
  again = block_again Spells IsCut IsBig read r;
  one = block_one Spells IsCut IsBig read r;
  short_cut = block_short Spells IsCut IsBig read r;
  cut_short = short_block Spells IsCut IsBig read r;
  wide_big = λ i at e. elim (bind_err (read i) content_of (Wide at) e) [
    | inl p ↦ r.wide_big i at p
    | inr p ↦ absurd ((run_reads p.0.0).wide_big p.0.1 at p.2)
  ];
  big_wide = λ i is. let s = r.big_wide i is in (s.0, rw s.1 refl);
}
