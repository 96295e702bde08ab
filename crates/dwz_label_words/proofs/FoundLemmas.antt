-- Numbers that were found: more names change none of them, and one more is kept.
use Rattle.std.proofs.Common.{◌≡◌, ◌⊎◌, ℕ, ◌+◌, ◌*◌, ◌<◌, List, Option, Some, slice_get, sym, ap, subst, ◌∙◌, inl, inr, arith}
use Rattle.dwz_def_reading.specs.Documents.{File, Text}
use Rattle.dwz_def_reading.specs.LineTables.{FileTable, nth_path}
use Rattle.dwz_def_reading.specs.TextRows.{text_number}
use Rattle.dwz_def_reading.specs.Texts.{text_at}
use Rattle.dwz_label.specs.Labels.{plain_label}
use Rattle.dwz_label_marks.specs.Found.{Has}
use Rattle.dwz_label_marks.specs.Told.{Keeps}
use Rattle.dwz_label_marks.specs.declared.found.Slot.{Slot}
use Rattle.dwz_label_words.specs.Known.{AreFound, FileNames, HasName, StaysNamed}
use Rattle.dwz_label_words.specs.Shapes.{pairs_shape}
use Rattle.dwz_model.specs.declared.place.Pair.{Pair}
use Rattle.dwz_unit.specs.Declarations.{Declarations}

pub some_same : {X : Type 0} {x y : X} → Some x ≡ Some y → x ≡ y
some_same e = cc

abbrev HasNone : List Slot → Type 0
HasNone slots = (key n : ℕ) → Has slots key n → ⊥

-- only this number was kept for this key
abbrev pub Puts : List Slot → List Slot → ℕ → ℕ → Type 0
Puts old new key number = (k n : ℕ) → Has new k n → Has old k n ⊎ ((k ≡ key) × (n ≡ number))

pub none_found : (names : List (List ℕ)) (strs : List ℕ) (tables : List FileTable) (d : Declarations) (texts paths shapes : List Slot)
    → HasNone texts → HasNone paths → HasNone shapes → AreFound names strs tables d texts paths shapes
none_found names strs tables d texts paths shapes a b c = record {
  texts_are = λ key n text h t. absurd (a key n h);
  paths_are = λ table row n t path low h g p. absurd (b (4096 * table + row) n h);
  shapes_are = λ decl tag n low h pairs g. absurd (c (4294967296 * tag + decl) n h);
}

pub stays_named : (old : FileNames) (strs : List ℕ) (tables : List FileTable) (d : Declarations) (names more : List (List ℕ))
    → record { strs = strs; tables = tables; declarations = d; names = names } ≡ old → Keeps names more
    → StaysNamed old (record { strs = strs; tables = tables; declarations = d; names = more })
stays_named old strs tables d names more e k = record {
  same = ap (λ (x : FileNames). record x { names = more }) e;
  kept = subst (λ (x : FileNames). Keeps x.names more) e k;
}

module _ (names : List (List ℕ)) (strs : List ℕ) (tables : List FileTable) (d : Declarations) (texts paths shapes : List Slot)
    (f : AreFound names strs tables d texts paths shapes) where
  pub found_kept : (more : List (List ℕ)) → Keeps names more → AreFound more strs tables d texts paths shapes
  found_kept more k = record {
    texts_are = λ key n text h t. k (plain_label (Text text)) n (f.texts_are key n text h t);
    paths_are = λ table row n t path low h g p. k (plain_label (File (Some path))) n (f.paths_are table row n t path low h g p);
    shapes_are = λ decl tag n low h pairs g. k (pairs_shape tag pairs) n (f.shapes_are decl tag n low h pairs g);
  }

  pub text_kept : (slots : List Slot) (offset number : ℕ) (text : List ℕ) → text_at strs offset ≡ Some text
      → text_number names (plain_label (Text text)) ≡ Some number → Puts texts slots offset number → AreFound names strs tables d slots paths shapes
  text_kept slots offset number text there is puts = record {
    texts_are = λ key n t h at. elim (puts key n h) [
      | inl old ↦ f.texts_are key n t old at
      | inr new ↦
          let here : text_at strs offset ≡ Some t = ap (text_at strs) (sym new.0) ∙ at in
          let same : t ≡ text = some_same (sym here ∙ there) in
          ap (λ (x : List ℕ). text_number names (plain_label (Text x))) same ∙ is ∙ ap (λ (k : ℕ). Some k) (sym new.1)
    ];
    paths_are = f.paths_are;
    shapes_are = f.shapes_are;
  }

  pub path_kept : (slots : List Slot) (table row number : ℕ) → row < 4096
      → ((t : FileTable) (path : List ℕ) → slice_get tables table ≡ Some t → nth_path t.paths row ≡ Some path
      → text_number names (plain_label (File (Some path))) ≡ Some number)
      → Puts paths slots (4096 * table + row) number → AreFound names strs tables d texts slots shapes
  path_kept slots table row number below is puts = record {
    texts_are = f.texts_are;
    paths_are = λ other line n t path low h g p. elim (puts (4096 * other + line) n h) [
      | inl old ↦ f.paths_are other line n t path low old g p
      | inr new ↦
          let key = new.0 in
          let same : other ≡ table = omega arith in
          let rows : line ≡ row = omega arith in
          is t path (ap (slice_get tables) (sym same) ∙ g) (ap (nth_path t.paths) (sym rows) ∙ p) ∙ ap (λ (k : ℕ). Some k) (sym new.1)
    ];
    shapes_are = f.shapes_are;
  }

  pub shape_kept : (slots : List Slot) (decl tag number : ℕ) → decl < 4294967296
      → ((pairs : List Pair) → slice_get d.pairs decl ≡ Some pairs → text_number names (pairs_shape tag pairs) ≡ Some number)
      → Puts shapes slots (4294967296 * tag + decl) number → AreFound names strs tables d texts paths slots
  shape_kept slots decl tag number below is puts = record {
    texts_are = f.texts_are;
    paths_are = f.paths_are;
    shapes_are = λ other kind n low h pairs g. elim (puts (4294967296 * kind + other) n h) [
      | inl old ↦ f.shapes_are other kind n low old pairs g
      | inr new ↦
          let key = new.0 in
          let same : other ≡ decl = omega arith in
          let kinds : kind ≡ tag = omega arith in
          ap (λ (k : ℕ). text_number names (pairs_shape k pairs)) kinds ∙ is pairs (ap (slice_get d.pairs) (sym same) ∙ g) ∙ ap (λ (k : ℕ). Some k) (sym new.1)
    ];
  }

-- ---- what was found, by the names after it

module _ (old new : FileNames) (strs : List ℕ) (tables : List FileTable) (d : Declarations) (names : List (List ℕ))
    (view : record { strs = strs; tables = tables; declarations = d; names = names } ≡ new) (stays : StaysNamed old new) where
  pub path_again : (table row number : ℕ) (o : Option ℕ) → o ≡ Some number
      → ((t : FileTable) (path : List ℕ) → slice_get old.tables table ≡ Some t → nth_path t.paths row ≡ Some path
      → HasName new.names (plain_label (File (Some path))) o)
      → (t : FileTable) (path : List ℕ) → slice_get tables table ≡ Some t → nth_path t.paths row ≡ Some path
      → text_number names (plain_label (File (Some path))) ≡ Some number
  path_again table row number o is found t path g p =
      let same : tables ≡ old.tables = ap (λ (x : FileNames). x.tables) view ∙ ap (λ (x : FileNames). x.tables) stays.same in
      let has = found t path (ap (λ (x : List FileTable). slice_get x table) (sym same) ∙ g) p in
      let one : text_number new.names (plain_label (File (Some path))) ≡ Some number =
      subst (λ (w : Option ℕ). HasName new.names (plain_label (File (Some path))) w) is has in
      ap (λ (x : FileNames). text_number x.names (plain_label (File (Some path)))) view ∙ one

  pub shape_again : (decl tag number : ℕ)
      → ((pairs : List Pair) → slice_get old.declarations.pairs decl ≡ Some pairs → text_number new.names (pairs_shape tag pairs) ≡ Some number)
      → (pairs : List Pair) → slice_get d.pairs decl ≡ Some pairs → text_number names (pairs_shape tag pairs) ≡ Some number
  shape_again decl tag number found pairs g =
      let same : d ≡ old.declarations = ap (λ (x : FileNames). x.declarations) view ∙ ap (λ (x : FileNames). x.declarations) stays.same in
      let has = found pairs (ap (λ (x : Declarations). slice_get x.pairs decl) (sym same) ∙ g) in
      ap (λ (x : FileNames). text_number x.names (pairs_shape tag pairs)) view ∙ has
