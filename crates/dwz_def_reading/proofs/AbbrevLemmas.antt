-- Abbreviation tables: pairs, declarations and tables are read as they are spelled.
use Rattle.std.proofs.Common.{◌≡◌, ℕ, ℤ, pos, zero, suc, ◌+◌, ◌<◌, ◌≤◌, List, [], ◌∷◌, ◌++◌, length, Bool, Option, Some, None, Result, Ok, Err, refl, sym, ap, subst, ◌∙◌, true, false, eqb, ltb, cond}
use Rattle.std.proofs.Common.{arith, inl, inr, append_assoc}
use Rattle.std.specs.Prelude.{MatchBool, ◌||◌, ◌&&◌}
use Rattle.std.proofs.lemmas.Bool.{eqb-false, eqb-true, le-ltb, ltb-false, ne_eqb, or_parts}
use Rattle.std.proofs.lemmas.List.{length-append}
use Rattle.dwz_model.specs.declared.fault.Fault.{Fault}
use Rattle.dwz_model.specs.declared.place.Pair.{Pair}
use Rattle.dwz_bytes.specs.declared.error.ByteErr.{ByteErr}
use Rattle.dwz_bytes.specs.Input.{Input}
use Rattle.dwz_bytes.specs.Reading.{◌>>=◌, fixed_at, sleb_at, uleb_at}
use Rattle.dwz_bytes.specs.Spelling.{SpellsFixed, SpellsSleb, SpellsUleb}
use Rattle.dwz_bytes.proofs.PaddedLemmas.{some_groups}
use Rattle.dwz_bytes.proofs.GroupLemmas.{chosen}
use Rattle.dwz_def_reading.specs.Abbrevs.{Declaration, EndsPairs, EndsTable, IsDeclared, IsPair, SpellsConstant, SpellsPair, SpellsPairs, after_children_flag, after_declaration_code, after_form}
use Rattle.dwz_def_reading.specs.Abbrevs.{after_name, after_tag}
use Rattle.dwz_def_reading.specs.Abbrevs.{after_test, children_byte, constant_at, declaration_at, declared, find_decl, is_bad_decl, is_bad_pair, is_some_decl, named_pair, pair_at, pair_item, pairs_at}
use Rattle.dwz_def_reading.specs.Abbrevs.{unless}
use Rattle.dwz_def_reading.specs.Abbrevs.{whole, with_pairs}
use Rattle.dwz_def_reading.specs.Faults.{bad_abbrev}
use Rattle.dwz_def_reading.specs.Parts.{Then}
use Rattle.dwz_def_reading.proofs.PartLemmas.{bind_ok, same_input, same_value}
use Rattle.dwz_def_reading.proofs.ReadLemmas.{fixed_reads, sleb_reads, uleb_reads}
use Rattle.dwz_def_reading.proofs.ListLemmas.{Input_at, ItemLaws, Takes, items_again, items_found}

-- ---- steps

whole_ok : {X : Type 0} (start : ℕ) (r : Result X ByteErr) (x : X) → whole start r ≡ Ok x → r ≡ Ok x
whole_ok {X} start (Ok y) x e = let same : y ≡ x = cc in ap (λ (w : X). Ok w) same
whole_ok start (Err d) x e = absurd cc

unless_ok : (test : Bool) (start : ℕ) (u : Unit {0}) → unless test start ≡ Ok u → test ≡ false
unless_ok true start u e = absurd cc
unless_ok false start u e = refl

pub and_true : (a b : Bool) → (a && b) ≡ true → (a ≡ true) × (b ≡ true)
and_true true b e = (refl, e)
and_true false b e = absurd cc

-- one part behind another
joined : (A B : List ℕ → Type 0) (i j k : Input) → Takes A i j → Takes B j k → Takes (Then A B) i k
joined A B i j k a b = record {
  front = a.front ++ b.front;
  spelled = record { front = a.front; first = a.spelled; back = b.front; second = b.spelled; parts = refl };
  parts = a.parts ∙ ap (λ (w : List ℕ). a.front ++ w) b.parts ∙ sym (append_assoc a.front b.front k.rest);
  place = omega (arith, a.place, b.place, length-append a.front b.front);
}

uleb_taken : (start : ℕ) (i : Input) (n : ℕ × Input) → whole start (uleb_at i) ≡ Ok n → Takes (λ bytes. SpellsUleb bytes n.0) i n.1
uleb_taken start i n e = let t = uleb_reads.found i n.1 n.0 (whole_ok start (uleb_at i) n e) in record { front = t.front; spelled = t.spelled; parts = t.parts; place = t.place }

uleb_again : (start at n : ℕ) (front rest : List ℕ) → SpellsUleb front n → whole start (uleb_at (Input_at at (front ++ rest))) ≡ Ok (n, Input_at (at + length front) rest)
uleb_again start at n front rest is = ap (whole start) (uleb_reads.again at n front rest is)

pub some_uleb : (front : List ℕ) (n : ℕ) → SpellsUleb front n → 0 < length front
some_uleb front n is = some_groups front is.groups

above_zero : (n : ℕ) → (n ≡ 0 → ⊥) → 0 < n
above_zero zero some = absurd (some refl)
above_zero (suc n) some = omega arith

not_zero : (n : ℕ) → 0 < n → eqb n 0 ≡ false
not_zero n lt = ne_eqb n 0 (λ same. omega (arith, same, lt))

some_is_none : {X : Type 0} (x : X) → Some x ≡ None → ⊥
some_is_none x same = cc

-- ---- what follows a form

abbrev SpellsBy : Bool → List ℕ → ℤ → Type 0
SpellsBy test bytes constant = MatchBool test (SpellsSleb bytes constant) ((bytes ≡ []) × (constant ≡ pos 0))

abbrev read_by : Bool → ℕ → Input → Result (ℤ × Input) Fault
read_by test start i = cond test (whole start (sleb_at i)) (Ok (pos 0, i))

constant_taken : (test : Bool) (start : ℕ) (i : Input) (c : ℤ × Input) → read_by test start i ≡ Ok c → Takes (λ bytes. SpellsBy test bytes c.0) i c.1
constant_taken true start i c e = let t = sleb_reads.found i c.1 c.0 (whole_ok start (sleb_at i) c e) in record { front = t.front; spelled = t.spelled; parts = t.parts; place = t.place }
constant_taken false start i c e =
    let value = same_value (pos 0) c.0 i c.1 (Ok (pos 0, i)) refl e in
    let to = same_input (pos 0) c.0 i c.1 (Ok (pos 0, i)) refl e in
    record { front = []; spelled = (refl, sym value); parts = ap (λ (q : Input). q.rest) to; place = let at = ap (λ (q : Input). q.at) to in omega arith }

constant_again : (test : Bool) (start at : ℕ) (c : ℤ) (front rest : List ℕ) → SpellsBy test front c → read_by test start (Input_at at (front ++ rest)) ≡ Ok (c, Input_at (at + length front) rest)
constant_again true start at c front rest is = ap (whole start) (sleb_reads.again at c front rest is)
constant_again false start at c front rest is =
    let place : at ≡ at + length front = omega (arith, ap length is.0) in
    ap (λ (w : List ℕ). Ok (pos 0, Input_at at (w ++ rest))) is.0 ∙ ap (λ (z : ℤ). Ok (z, Input_at at rest)) (sym is.1) ∙ ap (λ (n : ℕ). Ok (c, Input_at n rest)) place

-- ---- pairs

-- what reading a pair found: its name, its form and its constant, or their end
pub record PairRead (start : ℕ) (i : Input) (x : Option Pair) (j : Input) : Type 0 where
  pub name : ℕ × Input
  pub name_taken : Takes (λ bytes. SpellsUleb bytes name.0) i name.1
  pub form : ℕ × Input
  pub form_taken : Takes (λ bytes. SpellsUleb bytes form.0) name.1 form.1
  pub rest : after_form start name.0 form ≡ Ok (x, j)

pair_read : (start : ℕ) (i j : Input) (x : Option Pair) → pair_at start i ≡ Ok (x, j) → PairRead start i x j
unfolding pair_at
pair_read start i j x e =
    let n = bind_ok (whole start (uleb_at i)) (after_name start) (x, j) e in
    let f = bind_ok (whole start (uleb_at n.0.1)) (after_form start n.0.0) (x, j) n.2 in
    record { name = n.0; name_taken = uleb_taken start i n.0 n.1; form = f.0; form_taken = uleb_taken start n.0.1 f.0 f.1; rest = f.2 }

three_parts : (A B C : List ℕ → Type 0) (i j k l : Input) (a : Takes A i j) (b : Takes B j k) (c : Takes C k l)
    → (i.rest ≡ (a.front ++ (b.front ++ c.front)) ++ l.rest) × (l.at ≡ i.at + length (a.front ++ (b.front ++ c.front)))
three_parts A B C i j k l a b c = (
  a.parts
      ∙ ap (λ (w : List ℕ). a.front ++ w) (b.parts ∙ ap (λ (w : List ℕ). b.front ++ w) c.parts ∙ sym (append_assoc b.front c.front l.rest))
      ∙ sym (append_assoc a.front (b.front ++ c.front) l.rest),
  omega (arith, a.place, b.place, c.place, length-append a.front (b.front ++ c.front), length-append b.front c.front),
)

pair_found : (start : ℕ) (i j : Input) (x : Pair) → pair_at start i ≡ Ok (Some x, j) → Takes (λ bytes. SpellsPair bytes x) i j
pair_found start i j x e =
    let r = pair_read start i j (Some x) e in
    let name = r.name.0 in
    let form = r.form.0 in
    elim (chosen (eqb name 0 && eqb form 0) (Ok (None, r.form.1)) (unless (is_bad_pair name form) start >>= after_test start name r.form) (Ok (Some x, j)) r.rest) [
      | inl p ↦ absurd (some_is_none x (same_value (Some x) None j r.form.1 (Ok (Some x, j)) refl (sym p.1)))
      | inr p ↦
          let u = bind_ok (unless (is_bad_pair name form) start) (after_test start name r.form) (Some x, j) p.1 in
          let good = or_parts (eqb name 0) (eqb form 0 || ltb 0xffff name) (unless_ok (is_bad_pair name form) start u.0 u.1) in
          let fine = or_parts (eqb form 0) (ltb 0xffff name) good.1 in
          let c = bind_ok (constant_at start form r.form.1) (named_pair name form) (Some x, j) u.2 in
          let t = constant_taken (eqb form 0x21) start r.form.1 c.0 c.1 in
          let made : Option Pair = Some (record { name = name; form = form; constant = c.0.0 }) in
          let value = same_value made (Some x) c.0.1 j (named_pair name form c.0) refl c.2 in
          let to = same_input made (Some x) c.0.1 j (named_pair name form c.0) refl c.2 in
          let same : record { name = name; form = form; constant = c.0.0 } ≡ x = cc in
          let parts = three_parts (λ bytes. SpellsUleb bytes name) (λ bytes. SpellsUleb bytes form) (λ bytes. SpellsConstant form bytes c.0.0) i r.name.1 r.form.1 c.0.1 r.name_taken r.form_taken t in
          subst (λ (q : Pair). Takes (λ bytes. SpellsPair bytes q) i j) same
          (subst (λ (k : Input). Takes (λ bytes. SpellsPair bytes (record { name = name; form = form; constant = c.0.0 })) i k) to (record {
            front = r.name_taken.front ++ (r.form_taken.front ++ t.front);
            spelled = record {
              name_bytes = r.name_taken.front;
              name = r.name_taken.spelled;
              some_name = above_zero name (eqb-false name 0 good.0);
              name_fits = ltb-false 0xffff name fine.1;
              form_bytes = r.form_taken.front;
              form = r.form_taken.spelled;
              some_form = above_zero form (eqb-false form 0 fine.0);
              constant_bytes = t.front;
              constant = t.spelled;
              parts = refl;
            };
            parts = parts.0;
            place = parts.1;
          }))
    ]

pair_ended : (start : ℕ) (i j : Input) → pair_at start i ≡ Ok (None, j) → Takes EndsPairs i j
pair_ended start i j e =
    let r = pair_read start i j None e in
    let name = r.name.0 in
    let form = r.form.0 in
    elim (chosen (eqb name 0 && eqb form 0) (Ok (None, r.form.1)) (unless (is_bad_pair name form) start >>= after_test start name r.form) (Ok (None, j)) r.rest) [
      | inl p ↦
          let both = and_true (eqb name 0) (eqb form 0) p.0 in
          let to = same_input None None r.form.1 j (Ok (None, r.form.1)) refl p.1 in
          let first = subst (λ (n : ℕ). Takes (λ bytes. SpellsUleb bytes n) i r.name.1) (eqb-true name 0 both.0) r.name_taken in
          let second = subst (λ (n : ℕ). Takes (λ bytes. SpellsUleb bytes n) r.name.1 r.form.1) (eqb-true form 0 both.1) r.form_taken in
          subst (λ (k : Input). Takes EndsPairs i k) to (joined (λ bytes. SpellsUleb bytes 0) (λ bytes. SpellsUleb bytes 0) i r.name.1 r.form.1 first second)
      | inr p ↦
          let u = bind_ok (unless (is_bad_pair name form) start) (after_test start name r.form) (None, j) p.1 in
          let c = bind_ok (constant_at start form r.form.1) (named_pair name form) (None, j) u.2 in
          absurd (some_is_none (record { name = name; form = form; constant = c.0.0 })
          (same_value (Some (record { name = name; form = form; constant = c.0.0 })) None c.0.1 j (named_pair name form c.0) refl c.2))
    ]

regroup3 : (bytes a b c rest : List ℕ) → bytes ≡ a ++ (b ++ c) → bytes ++ rest ≡ a ++ (b ++ (c ++ rest))
regroup3 bytes a b c rest parts = ap (λ (w : List ℕ). w ++ rest) parts ∙ append_assoc a (b ++ c) rest ∙ ap (λ (w : List ℕ). a ++ w) (append_assoc b c rest)

pair_again : (start at : ℕ) (x : Pair) (front rest : List ℕ) → SpellsPair front x → pair_at start (Input_at at (front ++ rest)) ≡ Ok (Some x, Input_at (at + length front) rest)
unfolding pair_at
pair_again start at x front rest is =
    let behind = is.form_bytes ++ (is.constant_bytes ++ rest) in
    let first = uleb_again start at x.name is.name_bytes behind is.name in
    let second = uleb_again start (at + length is.name_bytes) x.form is.form_bytes (is.constant_bytes ++ rest) is.form in
    let third : constant_at start x.form (Input_at (at + length is.name_bytes + length is.form_bytes) (is.constant_bytes ++ rest))
    ≡ Ok (x.constant, Input_at (at + length is.name_bytes + length is.form_bytes + length is.constant_bytes) rest)
    = constant_again (eqb x.form 0x21) start (at + length is.name_bytes + length is.form_bytes) x.constant is.constant_bytes rest is.constant in
    let name0 : eqb x.name 0 ≡ false = not_zero x.name is.some_name in
    let form0 : eqb x.form 0 ≡ false = not_zero x.form is.some_form in
    let fits : ltb 0xffff x.name ≡ false = le-ltb 0xffff x.name is.name_fits in
    let place : at + length is.name_bytes + length is.form_bytes + length is.constant_bytes ≡ at + length front =
    omega (arith, ap length is.parts, length-append is.name_bytes (is.form_bytes ++ is.constant_bytes), length-append is.form_bytes is.constant_bytes) in
    let read : pair_at start (Input_at at (is.name_bytes ++ behind)) ≡ Ok (Some x, Input_at (at + length is.name_bytes + length is.form_bytes + length is.constant_bytes) rest) =
    rw (first, second, name0, form0, fits, third) refl in
    ap (λ (w : List ℕ). pair_at start (Input_at at w)) (regroup3 front is.name_bytes is.form_bytes is.constant_bytes rest is.parts) ∙ read ∙ ap (λ (n : ℕ). Ok (Some x, Input_at n rest)) place

pair_end_again : (start at : ℕ) (front rest : List ℕ) → EndsPairs front → pair_at start (Input_at at (front ++ rest)) ≡ Ok (None, Input_at (at + length front) rest)
unfolding pair_at
pair_end_again start at front rest is =
    let first = uleb_again start at 0 is.front (is.back ++ rest) is.first in
    let second = uleb_again start (at + length is.front) 0 is.back rest is.second in
    let place : at + length is.front + length is.back ≡ at + length front = omega (arith, ap length is.parts, length-append is.front is.back) in
    let whole_front : front ++ rest ≡ is.front ++ (is.back ++ rest) = ap (λ (w : List ℕ). w ++ rest) is.parts ∙ append_assoc is.front is.back rest in
    let read : pair_at start (Input_at at (is.front ++ (is.back ++ rest))) ≡ Ok (None, Input_at (at + length is.front + length is.back) rest) = rw (first, second) refl in
    ap (λ (w : List ℕ). pair_at start (Input_at at w)) whole_front ∙ read ∙ ap (λ (n : ℕ). Ok (None, Input_at n rest)) place

pub pair_laws : (start : ℕ) → ItemLaws IsPair EndsPairs (pair_item start)
pair_laws start = record {
  found = λ earlier. pair_found start;
  ended = λ earlier. pair_ended start;
  again = λ earlier. pair_again start;
  end_again = λ earlier. pair_end_again start;
  some_bytes = λ earlier front x is.
      let some = some_uleb is.name_bytes x.name is.name in
      omega (arith, some, ap length is.parts, length-append is.name_bytes (is.form_bytes ++ is.constant_bytes));
}

-- ---- declarations

pairs_found : (start : ℕ) (i : Input) (ps : List Pair × Input) → pairs_at start [] i ≡ Ok ps → Takes (λ bytes. SpellsPairs bytes ps.0) i ps.1
pairs_found start i ps e =
    let r = items_found IsPair EndsPairs (pair_item start) (bad_abbrev start) (pair_laws start) [] i ps.1 ps.0 e in
    subst (λ (all : List Pair). Takes (λ bytes. SpellsPairs bytes all) i ps.1) (sym r.joined) r.taken

pairs_again : (start at : ℕ) (ps : List Pair) (front rest : List ℕ) → SpellsPairs front ps → pairs_at start [] (Input_at at (front ++ rest)) ≡ Ok (ps, Input_at (at + length front) rest)
pairs_again start at ps front rest is = items_again IsPair EndsPairs (pair_item start) (bad_abbrev start) (pair_laws start) ps [] at front rest is

none_of : (o : Option Declaration) → is_some_decl o ≡ false → o ≡ None
none_of None e = refl
none_of (Some d) e = absurd cc

pub byte_of : (bytes : List ℕ) (n : ℕ) → SpellsFixed 1 bytes n → bytes ≡ n ∷ []
byte_of [] n is = absurd (omega (arith, is.len))
byte_of (b ∷ []) n is = ap (λ (m : ℕ). m ∷ []) (let value = is.value in omega arith)
byte_of (b ∷ c ∷ bytes) n is = absurd (omega (arith, is.len))

flag_of : (n : ℕ) → n ≤ 1 → children_byte (eqb n 1) ≡ n
flag_of zero le = refl
flag_of (suc zero) le = refl
flag_of (suc (suc n)) le = absurd (omega (arith, le))

flag_is : (b : Bool) → eqb (children_byte b) 1 ≡ b
flag_is true = refl
flag_is false = refl

flag_small : (b : Bool) → ltb 1 (children_byte b) ≡ false
flag_small true = refl
flag_small false = refl

flag_spells : (b : Bool) → SpellsFixed 1 (children_byte b ∷ []) (children_byte b)
flag_spells true = record { len = refl; value = refl }
flag_spells false = record { len = refl; value = refl }

decl_found : (earlier : List Declaration) (i j : Input) (x : Declaration) → declaration_at earlier i ≡ Ok (Some x, j) → Takes (λ bytes. IsDeclared earlier bytes x) i j
unfolding declaration_at
decl_found earlier i j x e =
    let start = i.at in
    let c = bind_ok (whole start (uleb_at i)) (after_declaration_code earlier start) (Some x, j) e in
    let code = c.0.0 in
    let code_taken = uleb_taken start i c.0 c.1 in
    elim (chosen (eqb code 0) (Ok (None, c.0.1)) (whole start (uleb_at c.0.1) >>= after_tag earlier start code) (Ok (Some x, j)) c.2) [
      | inl p ↦ absurd (some_is_none x (same_value (Some x) None j c.0.1 (Ok (Some x, j)) refl (sym p.1)))
      | inr p ↦
          let t = bind_ok (whole start (uleb_at c.0.1)) (after_tag earlier start code) (Some x, j) p.1 in
          let tag = t.0.0 in
          let tag_taken = uleb_taken start c.0.1 t.0 t.1 in
          let b = bind_ok (whole start (fixed_at 1 t.0.1)) (after_children_flag earlier start code tag) (Some x, j) t.2 in
          let children = b.0.0 in
          let byte = (fixed_reads 1).found t.0.1 b.0.1 children (whole_ok start (fixed_at 1 t.0.1) b.0 b.1) in
          let u = bind_ok (unless (is_bad_decl earlier code tag children) start) (with_pairs start code tag b.0) (Some x, j) b.2 in
          let g0 = or_parts (eqb tag 0) (ltb 0xffff tag || (ltb 1 children || is_some_decl (find_decl earlier code))) (unless_ok (is_bad_decl earlier code tag children) start u.0 u.1) in
          let g1 = or_parts (ltb 0xffff tag) (ltb 1 children || is_some_decl (find_decl earlier code)) g0.1 in
          let g2 = or_parts (ltb 1 children) (is_some_decl (find_decl earlier code)) g1.1 in
          let ps = bind_ok (pairs_at start [] b.0.1) (declared code tag children) (Some x, j) u.2 in
          let pairs_taken = pairs_found start b.0.1 ps.0 ps.1 in
          let decl : Declaration = record { code = code; tag = tag; children = eqb children 1; pairs = ps.0.0 } in
          let value = same_value (Some decl) (Some x) ps.0.1 j (declared code tag children ps.0) refl ps.2 in
          let to = same_input (Some decl) (Some x) ps.0.1 j (declared code tag children ps.0) refl ps.2 in
          let same : decl ≡ x = cc in
          let flag : byte.front ≡ children_byte (eqb children 1) ∷ [] = byte_of byte.front children byte.spelled ∙ ap (λ (n : ℕ). n ∷ []) (sym (flag_of children (ltb-false 1 children g2.0))) in
          let flag_taken : Takes (λ bytes. bytes ≡ children_byte (eqb children 1) ∷ []) t.0.1 b.0.1 = record { front = byte.front; spelled = flag; parts = byte.parts; place = byte.place } in
          let body = joined (λ bytes. bytes ≡ children_byte (eqb children 1) ∷ []) (λ bytes. SpellsPairs bytes ps.0.0) t.0.1 b.0.1 ps.0.1 flag_taken pairs_taken in
          let parts = three_parts (λ bytes. SpellsUleb bytes code) (λ bytes. SpellsUleb bytes tag) (Then (λ bytes. bytes ≡ children_byte (eqb children 1) ∷ []) (λ bytes. SpellsPairs bytes ps.0.0)) i
          c.0.1 t.0.1 ps.0.1 code_taken tag_taken body in
          subst (λ (d : Declaration). Takes (λ bytes. IsDeclared earlier bytes d) i j) same (subst (λ (k : Input). Takes (λ bytes. IsDeclared earlier bytes decl) i k) to (record {
            front = code_taken.front ++ (tag_taken.front ++ body.front);
            spelled = record {
              spelled = record {
                code_bytes = code_taken.front;
                code = code_taken.spelled;
                some_code = above_zero code (eqb-false code 0 p.0);
                tag_bytes = tag_taken.front;
                tag = tag_taken.spelled;
                some_tag = above_zero tag (eqb-false tag 0 g0.0);
                tag_fits = ltb-false 0xffff tag g1.0;
                pairs_bytes = body.spelled.back;
                pairs = body.spelled.second;
                parts = ap (λ (w : List ℕ). code_taken.front ++ (tag_taken.front ++ w)) (body.spelled.parts ∙ ap (λ (w : List ℕ). w ++ body.spelled.back) body.spelled.first);
              };
              is_new = none_of (find_decl earlier code) g2.1;
            };
            parts = parts.0;
            place = parts.1;
          }))
    ]

decl_ended : (earlier : List Declaration) (i j : Input) → declaration_at earlier i ≡ Ok (None, j) → Takes EndsTable i j
unfolding declaration_at
decl_ended earlier i j e =
    let start = i.at in
    let c = bind_ok (whole start (uleb_at i)) (after_declaration_code earlier start) (None, j) e in
    let code = c.0.0 in
    elim (chosen (eqb code 0) (Ok (None, c.0.1)) (whole start (uleb_at c.0.1) >>= after_tag earlier start code) (Ok (None, j)) c.2) [
      | inl p ↦
          let to = same_input None None c.0.1 j (Ok (None, c.0.1)) refl p.1 in
          subst (λ (k : Input). Takes EndsTable i k) to (subst (λ (n : ℕ). Takes (λ bytes. SpellsUleb bytes n) i c.0.1) (eqb-true code 0 p.0) (uleb_taken start i c.0 c.1))
      | inr p ↦
          let t = bind_ok (whole start (uleb_at c.0.1)) (after_tag earlier start code) (None, j) p.1 in
          let b = bind_ok (whole start (fixed_at 1 t.0.1)) (after_children_flag earlier start code t.0.0) (None, j) t.2 in
          let u = bind_ok (unless (is_bad_decl earlier code t.0.0 b.0.0) start) (with_pairs start code t.0.0 b.0) (None, j) b.2 in
          let ps = bind_ok (pairs_at start [] b.0.1) (declared code t.0.0 b.0.0) (None, j) u.2 in
          let decl : Declaration = record { code = code; tag = t.0.0; children = eqb b.0.0 1; pairs = ps.0.0 } in
          absurd (some_is_none decl (same_value (Some decl) None ps.0.1 j (declared code t.0.0 b.0.0 ps.0) refl ps.2))
    ]

decl_again : (earlier : List Declaration) (at : ℕ) (x : Declaration) (front rest : List ℕ) → IsDeclared earlier front x → declaration_at earlier (Input_at at (front ++ rest))
    ≡ Ok (Some x, Input_at (at + length front) rest)
unfolding declaration_at
decl_again earlier at x front rest is =
    let d = is.spelled in
    let flag = children_byte x.children in
    let body = flag ∷ d.pairs_bytes in
    let at1 = at + length d.code_bytes in
    let at2 = at1 + length d.tag_bytes in
    let first = uleb_again at at x.code d.code_bytes (d.tag_bytes ++ (body ++ rest)) d.code in
    let second = uleb_again at at1 x.tag d.tag_bytes (body ++ rest) d.tag in
    let third : whole at (fixed_at 1 (Input_at at2 (body ++ rest))) ≡ Ok (flag, Input_at (at2 + 1) (d.pairs_bytes ++ rest)) =
    ap (whole at) ((fixed_reads 1).again at2 flag (flag ∷ []) (d.pairs_bytes ++ rest) (flag_spells x.children)) in
    let fourth = pairs_again at (at2 + 1) x.pairs d.pairs_bytes rest d.pairs in
    let code0 : eqb x.code 0 ≡ false = not_zero x.code d.some_code in
    let tag0 : eqb x.tag 0 ≡ false = not_zero x.tag d.some_tag in
    let fits : ltb 0xffff x.tag ≡ false = le-ltb 0xffff x.tag d.tag_fits in
    let small : ltb 1 flag ≡ false = flag_small x.children in
    let new : find_decl earlier x.code ≡ None = is.is_new in
    let good : is_bad_decl earlier x.code x.tag flag ≡ false = rw (tag0, fits, small, new) refl in
    let place : at2 + 1 + length d.pairs_bytes ≡ at + length front = omega (arith, ap length d.parts, length-append d.code_bytes (d.tag_bytes ++ body), length-append d.tag_bytes body) in
    let made : with_pairs at x.code x.tag (flag, Input_at (at2 + 1) (d.pairs_bytes ++ rest)) tt ≡ Ok (Some x, Input_at (at2 + 1 + length d.pairs_bytes) rest) =
    ap (λ (r : Result (List Pair × Input) Fault). r >>= declared x.code x.tag flag) fourth
    ∙ ap (λ (b : Bool). Ok (Some (record { code = x.code; tag = x.tag; children = b; pairs = x.pairs }), Input_at (at2 + 1 + length d.pairs_bytes) rest)) (flag_is x.children) in
    let tested : after_children_flag earlier at x.code x.tag (flag, Input_at (at2 + 1) (d.pairs_bytes ++ rest)) ≡ Ok (Some x, Input_at (at2 + 1 + length d.pairs_bytes) rest) =
    ap (λ (b : Bool). unless b at >>= with_pairs at x.code x.tag (flag, Input_at (at2 + 1) (d.pairs_bytes ++ rest))) good ∙ made in
    let tagged : after_tag earlier at x.code (x.tag, Input_at at2 (body ++ rest)) ≡ Ok (Some x, Input_at (at2 + 1 + length d.pairs_bytes) rest) =
    ap (λ (r : Result (ℕ × Input) Fault). r >>= after_children_flag earlier at x.code x.tag) third ∙ tested in
    let coded : after_declaration_code earlier at (x.code, Input_at at1 (d.tag_bytes ++ (body ++ rest))) ≡ Ok (Some x, Input_at (at2 + 1 + length d.pairs_bytes) rest) = rw (code0, second) tagged in
    let read : declaration_at earlier (Input_at at (d.code_bytes ++ (d.tag_bytes ++ (body ++ rest)))) ≡ Ok (Some x, Input_at (at2 + 1 + length d.pairs_bytes) rest) =
    ap (λ (r : Result (ℕ × Input) Fault). r >>= after_declaration_code earlier at) first ∙ coded in
    ap (λ (w : List ℕ). declaration_at earlier (Input_at at w)) (regroup3 front d.code_bytes d.tag_bytes body rest d.parts) ∙ read ∙ ap (λ (n : ℕ). Ok (Some x, Input_at n rest)) place

decl_end_again : (earlier : List Declaration) (at : ℕ) (front rest : List ℕ) → EndsTable front → declaration_at earlier (Input_at at (front ++ rest)) ≡ Ok (None, Input_at (at + length front) rest)
unfolding declaration_at
decl_end_again earlier at front rest is = ap (λ (r : Result (ℕ × Input) Fault). r >>= after_declaration_code earlier at) (uleb_again at at 0 front rest is)

pub decl_laws : ItemLaws IsDeclared EndsTable declaration_at
decl_laws = record {
  found = decl_found;
  ended = decl_ended;
  again = decl_again;
  end_again = decl_end_again;
  some_bytes = λ earlier front x is.
      let d = is.spelled in
      let some = some_uleb d.code_bytes x.code d.code in
      omega (arith, some, ap length d.parts, length-append d.code_bytes (d.tag_bytes ++ (children_byte x.children ∷ d.pairs_bytes)));
}
