-- What is spelled is spelled with other numbers in its operands, and at another place: field by field, and so by induction.
use Rattle.std.proofs.Common.{◌≡◌, ℕ, zero, suc, ◌+◌, ◌-◌, ◌^◌, ◌<◌, ◌≤◌, Bool, true, false, ◌||◌, cond, eqb, List, [], ◌∷◌, ◌++◌, length, take, drop, map, refl, sym, ap, subst, ◌∙◌, arith}
use Rattle.std.proofs.Common.{append-nil}
use Rattle.std.proofs.lemmas.List.{drop_all, map-append}
use Rattle.std.proofs.Math.Dec.{eqb-suc-zero}
use Rattle.dwz_bytes.specs.Spelling.{SpellsFixed, SpellsUleb}
use Rattle.dwz_bytes.proofs.FixedLemmas.{fixed_written}
use Rattle.dwz_bytes.proofs.PaddedLemmas.{padded_spells, some_groups}
use Rattle.dwz_model.specs.declared.place.Base.{Base}
use Rattle.dwz_model.specs.declared.place.Base.TheVariants.{Unit as FromUnit}
use Rattle.dwz_def_reading.specs.declared.exprs.Operand.{Operand}
use Rattle.dwz_def_reading.specs.Exprs.{AnAddress, AreNamed, Counted, Entry4, EntryOrGeneric, EntryUleb, ExprContext, Expression, Field, FieldItem, Holds, Inside, Located, LocatedBy, Names, Run}
use Rattle.dwz_def_reading.specs.Exprs.{Signed}
use Rattle.dwz_def_reading.specs.Exprs.{Sized, SpellsExpr, SpellsField, SpellsFields, SpellsOp, SpellsPiece, SpellsWithin, Unsigned, an_address, an_operand, an_operand_or_generic, expression_of}
use Rattle.dwz_def_reading.specs.Exprs.{any_address, expressions_in, joined_items, most_inside, nothing, operands_in}
use Rattle.dwz_def_reading.specs.LocLists.{EndsList, SpellsListEntry}
use Rattle.dwz_def_reading.specs.PatchedLists.{with_number}
use Rattle.dwz_def_reading.specs.Patching.{FitsIn, number_in_width}
use Rattle.dwz_def_reading.specs.Sequences.{Spelling, SpellsAll, SpellsRow}
use Rattle.dwz_def_reading.proofs.CutLemmas.{Lie, number_len, patch, patch_append, patch_len}
use Rattle.dwz_def_reading.proofs.StandLemmas.{FoundStand, Stand, entry_stands, field_stands, fields_stand, op_stands, ops_stand, operands_both, row_stands, within_stands}

-- an operand that stands elsewhere
abbrev pub with_place : (ℕ → ℕ) → Operand → Operand
with_place there o = record { at = there o.at; width = o.width; uleb = o.uleb; base = o.base; number = o.number }

-- from a place on, places keep their distances
abbrev pub GoAlong : ℕ → (ℕ → ℕ) → Type 0
GoAlong from there = (s n : ℕ) → from ≤ s → there (s + n) ≡ there s + n

module _ (from : ℕ) (there : ℕ → ℕ) (along : GoAlong from there) (number : ℕ → ℕ) where
  abbrev pub new : Operand → Operand
  new = with_number number

  abbrev pub out : Operand → Operand
  out o = with_place there (new o)

  pub lie_new : (at end : ℕ) (os : List Operand) → Lie at end os → Lie at end (map new os)
  lie_new at end [] h = h
  lie_new at end (o ∷ os) h = (h.0, h.1, lie_new (o.at + o.width) end os h.2)

  -- the bytes with the new numbers
  abbrev pub again : ℕ → List ℕ → List Operand → List ℕ
  again start bytes os = patch start bytes (map new os)

  pub again_len : (start : ℕ) (bytes : List ℕ) (os : List Operand) → Lie start (start + length bytes) os → length (again start bytes os) ≡ length bytes
  again_len start bytes os h = patch_len start bytes (map new os) (lie_new start (start + length bytes) os h)

  again_both : (start : ℕ) (bytes a b : List ℕ) (os ps : List Operand) → bytes ≡ a ++ b → Lie start (start + length a) os → Lie (start + length a) (start + length a + length b) ps
      → again start bytes (os ++ ps) ≡ again start a os ++ again (start + length a) b ps
  again_both start bytes a b os ps parts h k =
      ap (λ (w : List ℕ). again start w (os ++ ps)) parts
      ∙ ap (patch start (a ++ b)) (map-append new os ps)
      ∙ patch_append start (start + length a + length b) a b (map new os) (map new ps) (lie_new start (start + length a) os h) (lie_new (start + length a) (start + length a + length b) ps k)

  there_len : (start : ℕ) (a : List ℕ) (os : List Operand) → from ≤ start → Lie start (start + length a) os → there (start + length a) ≡ there start + length (again start a os)
  there_len start a os le h = along start (length a) le ∙ ap (λ (n : ℕ). there start + n) (sym (again_len start a os h))

  -- ---- what fields hold

  abbrev pub moved_expr : Expression → Expression
  moved_expr e = record { at = there e.at; bytes = again e.at e.bytes e.operands; operands = map out e.operands; address = e.address }

  abbrev pub moved_found : FieldItem → FieldItem
  moved_found (Names o) = Names (out o)
  moved_found AnAddress = AnAddress
  moved_found (Holds e) = Holds (moved_expr e)

  abbrev pub moved_founds : List FieldItem → List FieldItem
  moved_founds founds = map moved_found founds

  pub operands_moved : (founds : List FieldItem) → operands_in (moved_founds founds) ≡ map out (operands_in founds)
  unfolding operands_in
  operands_moved [] = refl
  operands_moved (Names o ∷ founds) = ap (λ (w : List Operand). out o ∷ w) (operands_moved founds)
  operands_moved (AnAddress ∷ founds) = operands_moved founds
  operands_moved (Holds e ∷ founds) = ap (λ (w : List Operand). map out e.operands ++ w) (operands_moved founds) ∙ sym (map-append out e.operands (operands_in founds))

  address_moved : (founds : List FieldItem) → any_address (moved_founds founds) ≡ any_address founds
  unfolding any_address
  address_moved [] = refl
  address_moved (Names o ∷ founds) = address_moved founds
  address_moved (AnAddress ∷ founds) = refl
  address_moved (Holds e ∷ founds) = ap (λ (b : Bool). e.address || b) (address_moved founds)

  pub exprs_moved : (founds : List FieldItem) → expressions_in (moved_founds founds) ≡ map moved_expr (expressions_in founds)
  unfolding expressions_in
  exprs_moved [] = refl
  exprs_moved (Names o ∷ founds) = exprs_moved founds
  exprs_moved (AnAddress ∷ founds) = exprs_moved founds
  exprs_moved (Holds e ∷ founds) = ap (λ (w : List Expression). moved_expr e ∷ w) (exprs_moved founds)

  pub joined_moved : (ops : List (List FieldItem)) → joined_items (map moved_founds ops) ≡ moved_founds (joined_items ops)
  unfolding joined_items
  joined_moved [] = refl
  joined_moved (op ∷ ops) = ap (λ (w : List FieldItem). moved_founds op ++ w) (joined_moved ops) ∙ sym (map-append moved_found op (joined_items ops))

  -- ---- numbers that fit and name entries

  module _ (names : Operand → Bool) where
    abbrev pub Good : List Operand → Type 0
    Good [] = Unit {0}
    Good (o ∷ os) = (FitsIn o.uleb o.width (number o.at) × (names (out o) ≡ true)) × Good os

    abbrev pub FoundGood : List FieldItem → Type 0
    FoundGood founds = Good (operands_in founds)

    pub good_left : (os ps : List Operand) → Good (os ++ ps) → Good os
    good_left [] ps h = tt
    good_left (o ∷ os) ps h = (h.0, good_left os ps h.1)

    pub good_right : (os ps : List Operand) → Good (os ++ ps) → Good ps
    good_right [] ps h = h
    good_right (o ∷ os) ps h = good_right os ps h.1

    found_left : (x y : List FieldItem) → FoundGood (x ++ y) → FoundGood x
    found_left x y h = good_left (operands_in x) (operands_in y) (subst Good (operands_both x y) h)

    found_right : (x y : List FieldItem) → FoundGood (x ++ y) → FoundGood y
    found_right x y h = good_right (operands_in x) (operands_in y) (subst Good (operands_both x y) h)

    good_named : (os : List Operand) → Good os → AreNamed names (map out os)
    good_named [] h = tt
    good_named (o ∷ os) h = (h.0.1, good_named os h.1)

    found_named : (founds : List FieldItem) → FoundGood founds → AreNamed names (operands_in (moved_founds founds))
    found_named founds h = subst (AreNamed names) (sym (operands_moved founds)) (good_named (operands_in founds) h)

    -- ---- fields

    -- what spells founds at a place spells them with the new numbers
    abbrev Spelled : Spelling (List FieldItem) → ℕ → List ℕ → List FieldItem → Type 0
    Spelled Spells start bytes founds = FoundGood founds → Spells (moved_founds founds) (there start) (again start bytes (operands_in founds))

    -- where it holds nothing, or an address
    plain_piece : {X : Type 0} (Spells : List ℕ → X → Type 0) (start : ℕ) (bytes : List ℕ) (founds : List FieldItem) → SpellsPiece Spells nothing founds start bytes
        → Spelled (SpellsPiece Spells nothing) start bytes founds
    unfolding operands_in
    plain_piece Spells start bytes founds s good =
        subst (λ (w : List FieldItem). SpellsPiece Spells nothing (moved_founds w) (there start) (again start bytes (operands_in w))) (sym s.found)
        (record { value = s.value; spelled = s.spelled; found = refl })

    address_piece : {X : Type 0} (Spells : List ℕ → X → Type 0) (start : ℕ) (bytes : List ℕ) (founds : List FieldItem) → SpellsPiece Spells an_address founds start bytes
        → Spelled (SpellsPiece Spells an_address) start bytes founds
    unfolding operands_in
    address_piece Spells start bytes founds s good =
        subst (λ (w : List FieldItem). SpellsPiece Spells an_address (moved_founds w) (there start) (again start bytes (operands_in w))) (sym s.found)
        (record { value = s.value; spelled = s.spelled; found = refl })

    -- an operand that has all bytes
    whole : (start n : ℕ) (bytes spelled : List ℕ) → take (start - start) bytes ++ (spelled ++ drop (start + length bytes - start) bytes) ≡ spelled
    whole start n bytes spelled =
        let none : start - start ≡ 0 = omega arith in
        let all : drop (start + length bytes - start) bytes ≡ [] = drop_all (start + length bytes - start) bytes (omega arith) in
        ap (λ (k : ℕ). take k bytes ++ (spelled ++ drop (start + length bytes - start) bytes)) none
        ∙ ap (λ (w : List ℕ). spelled ++ w) all
        ∙ append-nil spelled

    fixed_spelled : (bytes : List ℕ) (n m : ℕ) → SpellsFixed 4 bytes n → FitsIn false (length bytes) m → SpellsFixed 4 (number_in_width false (length bytes) m) m
    fixed_spelled bytes n m s fits =
        let len = s.len in
        subst (λ (k : ℕ). SpellsFixed 4 (number_in_width false k m) m) (sym len) (fixed_written 4 m (subst (λ (k : ℕ). m < 256 ^ k) len fits))

    uleb_spelled : (bytes : List ℕ) (n m : ℕ) → SpellsUleb bytes n → FitsIn true (length bytes) m → SpellsUleb (number_in_width true (length bytes) m) m
    uleb_spelled bytes n m s fits = padded_spells (length bytes) m (some_groups bytes s.groups) s.len fits.1 fits.2

    -- the same, and seen as one that names an entry
    operand_piece : (uleb : Bool) (base : Base) (Spells : List ℕ → ℕ → Type 0) (seen : ℕ → ℕ → ℕ → List FieldItem) (start n : ℕ) (bytes : List ℕ)
        → (FitsIn uleb (length bytes) (number start) → Spells (number_in_width uleb (length bytes) (number start)) (number start))
        → (FitsIn uleb (length bytes) (number start) → (width : ℕ) → an_operand uleb base (there start) width (number start) ≡ seen (there start) width (number start))
        → Spelled (SpellsPiece Spells seen) start bytes (an_operand uleb base start (length bytes) n)
    unfolding operands_in
    operand_piece uleb base Spells seen start n bytes spelled is good =
        let same = whole start n bytes (number_in_width uleb (length bytes) (number start)) in
        subst (λ (w : List ℕ). SpellsPiece Spells seen (moved_founds (an_operand uleb base start (length bytes) n)) (there start) w) (sym same)
        (record {
          value = number start;
          spelled = spelled good.0.0;
          found = ap (λ (k : ℕ). an_operand uleb base (there start) k (number start)) (sym (number_len uleb (length bytes) (number start)))
              ∙ is good.0.0 (length (number_in_width uleb (length bytes) (number start)));
        })

    entry_piece : (uleb : Bool) (base : Base) (Spells : List ℕ → ℕ → Type 0) (start : ℕ) (bytes : List ℕ) (founds : List FieldItem)
        → ((n m : ℕ) → Spells bytes n → FitsIn uleb (length bytes) m → Spells (number_in_width uleb (length bytes) m) m)
        → SpellsPiece Spells (an_operand uleb base) founds start bytes → Spelled (SpellsPiece Spells (an_operand uleb base)) start bytes founds
    entry_piece uleb base Spells start bytes founds spelled s =
        subst (Spelled (SpellsPiece Spells (an_operand uleb base)) start bytes) (sym s.found)
        (operand_piece uleb base Spells (an_operand uleb base) start s.value bytes (spelled s.value (number start) s.spelled) (λ fits width. refl))

    -- a number that isn't 0 isn't that of the generic type
    not_generic : (place width n : ℕ) → 0 < n → an_operand true FromUnit place width n ≡ an_operand_or_generic place width n
    not_generic place width zero some = absurd (omega (arith, some))
    not_generic place width (suc n) some = ap (λ (b : Bool). cond b [] (an_operand true FromUnit place width (suc n))) (sym (eqb-suc-zero n))

    generic_stays : (start : ℕ) (bytes : List ℕ) (n : ℕ) → SpellsUleb bytes n → eqb n 0 ≡ true → Spelled (SpellsPiece SpellsUleb an_operand_or_generic) start bytes []
    unfolding operands_in
    generic_stays start bytes n s is good =
        record { value = n; spelled = s; found = ap (λ (b : Bool). cond b [] (an_operand true FromUnit (there start) (length bytes) n)) (sym is) }

    generic_piece : (start : ℕ) (bytes : List ℕ) (founds : List FieldItem) → SpellsPiece SpellsUleb an_operand_or_generic founds start bytes
        → Spelled (SpellsPiece SpellsUleb an_operand_or_generic) start bytes founds
    generic_piece start bytes founds s = by (eqb s.value 0) refl where
      shown : (b : Bool) → eqb s.value 0 ≡ b → founds ≡ cond b [] (an_operand true FromUnit start (length bytes) s.value)
      shown b is = s.found ∙ ap (λ (b : Bool). cond b [] (an_operand true FromUnit start (length bytes) s.value)) is

      by : (b : Bool) → eqb s.value 0 ≡ b → Spelled (SpellsPiece SpellsUleb an_operand_or_generic) start bytes founds
      by true is = subst (Spelled (SpellsPiece SpellsUleb an_operand_or_generic) start bytes) (sym (shown true is)) (generic_stays start bytes s.value s.spelled is)
      by false is = subst (Spelled (SpellsPiece SpellsUleb an_operand_or_generic) start bytes) (sym (shown false is))
          (operand_piece true FromUnit SpellsUleb an_operand_or_generic start s.value bytes (uleb_spelled bytes s.value (number start) s.spelled)
          (λ fits width. not_generic (there start) width (number start) fits.0))

    -- ---- fields, where the expressions in them are spelled so

    -- an expression that is spelled is spelled with the new numbers
    abbrev pub Inner : Spelling Expression → Spelling Expression → Type 0
    Inner IsExpr IsExpr' = (e : Expression) (start : ℕ) (bytes : List ℕ) → from ≤ start → IsExpr e start bytes → Good e.operands → IsExpr' (moved_expr e) (there start) (again start bytes e.operands)

    module _ (IsExpr IsExpr' : Spelling Expression) (stands : (e : Expression) (start : ℕ) (bytes : List ℕ) → IsExpr e start bytes → Stand start bytes e.operands) (inner : Inner IsExpr IsExpr') where
      holds_inside : (start : ℕ) (bytes : List ℕ) (e : Expression) (front content : List ℕ) → from ≤ start → SpellsUleb front (length content) → IsExpr e (start + length front) content
          → bytes ≡ front ++ content
          → FoundGood (Holds e ∷ []) → SpellsField IsExpr' Inside (moved_founds (Holds e ∷ [])) (there start) (again start bytes (operands_in (Holds e ∷ [])))
      unfolding operands_in
      holds_inside start bytes e front content le count is parts good =
          let lie = (stands e (start + length front) content is).lie in
          let len = again_len (start + length front) content e.operands lie in
          let none : Lie start (start + length front) [] = omega arith in
          let one : Good e.operands = subst Good (append-nil e.operands) good in
          let all : again start bytes (e.operands ++ []) ≡ front ++ again (start + length front) content e.operands =
          ap (again start bytes) (append-nil e.operands) ∙ again_both start bytes front content [] e.operands parts none lie in
          record {
            front = front;
            content = again (start + length front) content e.operands;
            count = subst (SpellsUleb front) (sym len) count;
            expression = moved_expr e;
            is = subst (λ (n : ℕ). IsExpr' (moved_expr e) n (again (start + length front) content e.operands)) (along start (length front) le)
                (inner e (start + length front) content (omega (arith, le)) is one);
            parts = all;
            found = refl;
          }

      no_fields : (start : ℕ) (bytes : List ℕ) → bytes ≡ [] → Spelled (SpellsFields IsExpr' []) start bytes []
      unfolding operands_in
      no_fields start bytes none good = (refl, none)

      field_moves : (field : Field) (founds : List FieldItem) (start : ℕ) (bytes : List ℕ) → from ≤ start → SpellsField IsExpr field founds start bytes
          → Spelled (SpellsField IsExpr' field) start bytes founds
      field_moves (Run n) founds start bytes le s = plain_piece _ start bytes founds s
      field_moves Unsigned founds start bytes le s = plain_piece _ start bytes founds s
      field_moves Signed founds start bytes le s = plain_piece _ start bytes founds s
      field_moves Sized founds start bytes le s = plain_piece _ start bytes founds s
      field_moves Counted founds start bytes le s = plain_piece _ start bytes founds s
      field_moves Located founds start bytes le s = address_piece _ start bytes founds s
      field_moves LocatedBy founds start bytes le s = address_piece _ start bytes founds s
      field_moves (Entry4 base) founds start bytes le s = entry_piece false base (SpellsFixed 4) start bytes founds (fixed_spelled bytes) s
      field_moves EntryUleb founds start bytes le s = entry_piece true FromUnit SpellsUleb start bytes founds (uleb_spelled bytes) s
      field_moves EntryOrGeneric founds start bytes le s = generic_piece start bytes founds s
      field_moves Inside founds start bytes le s = subst (Spelled (SpellsField IsExpr' Inside) start bytes) (sym s.found)
          (holds_inside start bytes s.expression s.front s.content le s.count s.is s.parts)

      pub fields_move : (fields : List Field) (founds : List FieldItem) (start : ℕ) (bytes : List ℕ) → from ≤ start → SpellsFields IsExpr fields founds start bytes
          → Spelled (SpellsFields IsExpr' fields) start bytes founds
      fields_move [] founds start bytes le s good = subst (Spelled (SpellsFields IsExpr' []) start bytes) (sym s.0) (no_fields start bytes s.1) good
      fields_move (field ∷ fields) founds start bytes le s good =
          let p = s.both in
          let goods : FoundGood (s.x ++ s.y) = subst FoundGood s.made good in
          let first_lies = (field_stands IsExpr stands field s.x start p.first_bytes p.first).lie in
          let second_lies = (fields_stand IsExpr stands fields s.y (start + length p.first_bytes) p.second_bytes p.second).lie in
          let both : again start bytes (operands_in founds) ≡ again start p.first_bytes (operands_in s.x) ++ again (start + length p.first_bytes) p.second_bytes (operands_in s.y) =
          ap (λ (w : List FieldItem). again start bytes (operands_in w)) s.made ∙ ap (again start bytes) (operands_both s.x s.y) ∙ again_both start bytes p.first_bytes p.second_bytes (operands_in s.x)
          (operands_in s.y) p.parts first_lies second_lies in
          record {
            x = moved_founds s.x;
            y = moved_founds s.y;
            both = record {
              first_bytes = again start p.first_bytes (operands_in s.x);
              first = field_moves field s.x start p.first_bytes le p.first (found_left s.x s.y goods);
              second_bytes = again (start + length p.first_bytes) p.second_bytes (operands_in s.y);
              second = subst (λ (n : ℕ). SpellsFields IsExpr' fields (moved_founds s.y) n (again (start + length p.first_bytes) p.second_bytes (operands_in s.y)))
                  (there_len start p.first_bytes (operands_in s.x) le first_lies)
                  (fields_move fields s.y (start + length p.first_bytes) p.second_bytes (omega (arith, le)) p.second (found_right s.x s.y goods));
              parts = both;
            };
            made = ap moved_founds s.made ∙ map-append moved_found s.x s.y;
          }

      -- behind a code
      pub code_moves : (fields : List Field) (founds : List FieldItem) (start code : ℕ) (bytes rest : List ℕ) → from ≤ start → bytes ≡ code ∷ rest → SpellsFields IsExpr fields founds (start + 1) rest
          → FoundGood founds
          → (again start bytes (operands_in founds) ≡ code ∷ again (start + 1) rest (operands_in founds)) × SpellsFields IsExpr' fields (moved_founds founds) (there start + 1)
          (again (start + 1) rest (operands_in founds))
      code_moves fields founds start code bytes rest le parts s good =
          let none : Lie start (start + 1) [] = omega arith in
          let place : there (start + 1) ≡ there start + 1 = along start 1 le in (
            again_both start bytes (code ∷ []) rest [] (operands_in founds) parts none (fields_stand IsExpr stands fields founds (start + 1) rest s).lie,
            subst (λ (n : ℕ). SpellsFields IsExpr' fields (moved_founds founds) n (again (start + 1) rest (operands_in founds))) place
                (fields_move fields founds (start + 1) rest (omega (arith, le)) s good),
          )

    -- ---- items in order

    -- the bytes of an item and of what follows it
    item_moves : (start : ℕ) (bytes a b : List ℕ) (x : List FieldItem) (xs : List (List FieldItem)) → from ≤ start → bytes ≡ a ++ b → FoundStand start a x
        → FoundStand (start + length a) b (joined_items xs)
        → (again start bytes (operands_in (joined_items (x ∷ xs))) ≡ again start a (operands_in x) ++ again (start + length a) b (operands_in (joined_items xs)))
        × (there (start + length a) ≡ there start + length (again start a (operands_in x)))
    unfolding joined_items
    item_moves start bytes a b x xs le parts first second = (
      ap (again start bytes) (operands_both x (joined_items xs)) ∙ again_both start bytes a b (operands_in x) (operands_in (joined_items xs)) parts first.lie second.lie,
      there_len start a (operands_in x) le first.lie,
    )

    joined_left : (x : List FieldItem) (xs : List (List FieldItem)) → FoundGood (joined_items (x ∷ xs)) → FoundGood x
    unfolding joined_items
    joined_left x xs good = found_left x (joined_items xs) good

    joined_right : (x : List FieldItem) (xs : List (List FieldItem)) → FoundGood (joined_items (x ∷ xs)) → FoundGood (joined_items xs)
    unfolding joined_items
    joined_right x xs good = found_right x (joined_items xs) good

    none_joined : (start : ℕ) (bytes : List ℕ) → again start bytes (operands_in (joined_items [])) ≡ bytes
    unfolding joined_items operands_in
    none_joined start bytes = refl

    -- ---- expressions

    module _ (c d : ExprContext) (same_names : d.names ≡ names) where
      op_moves : (IsExpr IsExpr' : Spelling Expression) → ((e : Expression) (start : ℕ) (bytes : List ℕ) → IsExpr e start bytes → Stand start bytes e.operands) → Inner IsExpr IsExpr'
          → (founds : List FieldItem) (start : ℕ) (bytes : List ℕ) → from ≤ start → SpellsOp c IsExpr founds start bytes → Spelled (SpellsOp d IsExpr') start bytes founds
      op_moves IsExpr IsExpr' stands inner founds start bytes le s good =
          let moves = code_moves IsExpr IsExpr' stands inner s.fields founds start s.code bytes s.rest le s.parts s.spelled good in
          record {
            code = s.code;
            rest = again (start + 1) s.rest (operands_in founds);
            parts = moves.0;
            fields = s.fields;
            laid = s.laid;
            spelled = moves.1;
            named = subst (λ (test : Operand → Bool). AreNamed test (operands_in (moved_founds founds))) (sym same_names) (found_named founds good);
          }

      ops_move : (IsExpr IsExpr' : Spelling Expression) → ((e : Expression) (start : ℕ) (bytes : List ℕ) → IsExpr e start bytes → Stand start bytes e.operands) → Inner IsExpr IsExpr'
          → (ops : List (List FieldItem)) (start : ℕ) (bytes : List ℕ) → from ≤ start → SpellsAll (SpellsOp c IsExpr) ops start bytes → FoundGood (joined_items ops)
          → SpellsAll (SpellsOp d IsExpr') (map moved_founds ops) (there start) (again start bytes (operands_in (joined_items ops)))
      ops_move IsExpr IsExpr' stands inner [] start bytes le s good = none_joined start bytes ∙ s
      ops_move IsExpr IsExpr' stands inner (op ∷ ops) start bytes le s good =
          let one = op_stands c IsExpr stands op start s.first_bytes s.first in
          let others = ops_stand c IsExpr stands ops (start + length s.first_bytes) s.second_bytes s.second in
          let both = item_moves start bytes s.first_bytes s.second_bytes op ops le s.parts one others in
          record {
            first_bytes = again start s.first_bytes (operands_in op);
            first = op_moves IsExpr IsExpr' stands inner op start s.first_bytes le s.first (joined_left op ops good);
            second_bytes = again (start + length s.first_bytes) s.second_bytes (operands_in (joined_items ops));
            second = subst (λ (n : ℕ). SpellsAll (SpellsOp d IsExpr') (map moved_founds ops) n (again (start + length s.first_bytes) s.second_bytes (operands_in (joined_items ops)))) both.1
                (ops_move IsExpr IsExpr' stands inner ops (start + length s.first_bytes) s.second_bytes (omega (arith, le)) s.second (joined_right op ops good));
            parts = both.0;
          }

      expression_moves : (start : ℕ) (bytes : List ℕ) (ops : List (List FieldItem))
          → moved_expr (expression_of start bytes ops) ≡ expression_of (there start) (again start bytes (operands_in (joined_items ops))) (map moved_founds ops)
      expression_moves start bytes ops =
          let founds = joined_moved ops in
          let operands : map out (operands_in (joined_items ops)) ≡ operands_in (joined_items (map moved_founds ops)) = sym (ap operands_in founds ∙ operands_moved (joined_items ops)) in
          let address : any_address (joined_items ops) ≡ any_address (joined_items (map moved_founds ops)) = sym (ap any_address founds ∙ address_moved (joined_items ops)) in
          λ n. record { at = there start; bytes = again start bytes (operands_in (joined_items ops)); operands = operands n; address = address n }

      pub within_moves : (k : ℕ) → Inner (SpellsWithin c k) (SpellsWithin d k)
      within_moves zero e start bytes le s good = absurd s
      within_moves (suc k) e start bytes le s good =
          let is : Good (operands_in (joined_items s.ops)) = subst (λ (w : Expression). Good w.operands) s.made good in
          let ops = ops_move (SpellsWithin c k) (SpellsWithin d k) (within_stands c k) (within_moves k) s.ops start bytes le s.spelled is in
          let one : SpellsWithin d (suc k) (moved_expr (expression_of start bytes s.ops)) (there start) (again start bytes (operands_in (joined_items s.ops))) =
          record { ops = map moved_founds s.ops; spelled = ops; made = expression_moves start bytes s.ops } in
          subst (λ (w : Expression). SpellsWithin d (suc k) (moved_expr w) (there start) (again start bytes w.operands)) (sym s.made) one

      -- ---- lists

      entry_moves : (founds : List FieldItem) (start : ℕ) (bytes : List ℕ) → from ≤ start → SpellsListEntry c founds start bytes → Spelled (SpellsListEntry d) start bytes founds
      entry_moves founds start bytes le s good =
          let moves = code_moves (SpellsExpr c) (SpellsExpr d) (within_stands c (suc most_inside)) (within_moves (suc most_inside)) s.fields founds start s.kind bytes s.rest le s.parts s.spelled
          good in
          record { kind = s.kind; rest = again (start + 1) s.rest (operands_in founds); parts = moves.0; no_end = s.no_end; fields = s.fields; laid = s.laid; spelled = moves.1 }

      pub row_moves : (entries : List (List FieldItem)) (start : ℕ) (bytes : List ℕ) → from ≤ start → SpellsRow (SpellsListEntry c) EndsList entries start bytes → FoundGood (joined_items entries)
          → SpellsRow (SpellsListEntry d) EndsList (map moved_founds entries) (there start) (again start bytes (operands_in (joined_items entries)))
      row_moves [] start bytes le s good = none_joined start bytes ∙ s
      row_moves (e ∷ entries) start bytes le s good =
          let one = entry_stands c e start s.first_bytes s.first in
          let others = row_stands c entries (start + length s.first_bytes) s.second_bytes s.second in
          let both = item_moves start bytes s.first_bytes s.second_bytes e entries le s.parts one others in
          record {
            first_bytes = again start s.first_bytes (operands_in e);
            first = entry_moves e start s.first_bytes le s.first (joined_left e entries good);
            second_bytes = again (start + length s.first_bytes) s.second_bytes (operands_in (joined_items entries));
            second = subst (λ (n : ℕ). SpellsRow (SpellsListEntry d) EndsList (map moved_founds entries) n (again (start + length s.first_bytes) s.second_bytes (operands_in (joined_items entries))))
                both.1
                (row_moves entries (start + length s.first_bytes) s.second_bytes (omega (arith, le)) s.second (joined_right e entries good));
            parts = both.0;
          }
