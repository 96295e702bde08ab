-- The name of a space, as it is stored and as it is meant.
use Rattle.std.proofs.Common.{◌≡◌, ℕ, Bool, true, false, List, [], ◌∷◌, Option, Some, None, Ok, ◌==◌, cond, refl, sym, ap, ◌∙◌, eqb-true}
use Rattle.dwz_def_reading.specs.Entries.{RawAttr, RawEntry}
use Rattle.dwz_def_reading.specs.Documents.{Attr, Node, Value, first_named}
use Rattle.dwz_def_reading.specs.Meanings.{MeanAttrs, MeaningContext, MeansAs, first_raw, number_of, without_siblings}
use Rattle.dwz_def_reading.specs.Classes.{Unread}
use Rattle.dwz_def_reading.specs.Classes.{Class, class_of}
use Rattle.dwz_def_reading.specs.Meant.{node_meaning}
use Rattle.dwz_def_reading.proofs.MeaningUnits.{node_agrees}
use Rattle.dwz_def_tops.specs.Spaces.{space_text, text_value}
use Rattle.dwz_law_layout.proofs.FormWays.{is_read}

readable : (c : Class) (s : MeaningContext ℕ) (a : RawAttr) (v : Value ℕ) → MeansAs c s a v → is_read c ≡ true
readable Unread s a v h = absurd h
readable _ s a v h = refl

-- the first DW_AT_name
pub record IsStoredName (raw : List RawAttr) (b : Attr ℕ) : Type 0 where
  pub attr : RawAttr
  pub first : first_raw 0x03 raw ≡ Some attr
  pub form : b.form ≡ attr.pair.form
  pub number : b.raw ≡ number_of attr.raw
  pub read : is_read (class_of attr.pair.form) ≡ true

first_stored : (s : MeaningContext ℕ) (raw : List RawAttr) (attrs : List (Attr ℕ)) (b : Attr ℕ) → MeanAttrs s (without_siblings raw) attrs → first_named 0x03 attrs ≡ Some b → IsStoredName raw b
unfolding first_raw first_named without_siblings
first_stored s [] [] b h e = absurd cc
first_stored s [] (d ∷ attrs) b h e = absurd h
first_stored s (a ∷ raw) attrs b h e = go (λ attrs h e. first_stored s raw attrs b h e) (a.pair.name == 0x01) refl attrs h e where
  later : (n : ℕ) → a.pair.name ≡ n → (n == 0x03) ≡ false → IsStoredName raw b → IsStoredName (a ∷ raw) b
  later n is other r = record {
    attr = r.attr;
    first = ap (λ (t : Bool). cond t (Some a) (first_raw 0x03 raw)) (ap (λ (m : ℕ). m == 0x03) is ∙ other) ∙ r.first;
    form = r.form;
    number = r.number;
    read = r.read;
  }

  named : (d : Attr ℕ) (others : List (Attr ℕ)) → d.form ≡ a.pair.form → d.raw ≡ number_of a.raw → MeansAs (class_of a.pair.form) s a d.value → (first_named 0x03 others ≡ Some b → IsStoredName raw b)
      → (t : Bool) → (a.pair.name == 0x03) ≡ t → cond t (Some d) (first_named 0x03 others) ≡ Some b → IsStoredName (a ∷ raw) b
  named d others form number means rest true q e =
      let one : d ≡ b = cc in
      record {
        attr = a;
        first = ap (λ (t : Bool). cond t (Some a) (first_raw 0x03 raw)) q;
        form = ap (λ (w : Attr ℕ). w.form) (sym one) ∙ form;
        number = ap (λ (w : Attr ℕ). w.raw) (sym one) ∙ number;
        read = readable (class_of a.pair.form) s a d.value means;
      }
  named d others form number means rest false q e = later a.pair.name refl q (rest e)

  go : ((attrs : List (Attr ℕ)) → MeanAttrs s (without_siblings raw) attrs → first_named 0x03 attrs ≡ Some b → IsStoredName raw b) → (t : Bool) → (a.pair.name == 0x01) ≡ t
      → (attrs : List (Attr ℕ)) → MeanAttrs s (cond t (without_siblings raw) (a ∷ without_siblings raw)) attrs → first_named 0x03 attrs ≡ Some b → IsStoredName (a ∷ raw) b
  go rest true q attrs h e = later 0x01 (eqb-true a.pair.name 0x01 q) refl (rest attrs h e)
  go rest false q [] h e = absurd h
  go rest false q (d ∷ attrs) h e =
      let same = h.0.name in
      named d attrs h.0.form h.0.raw h.0.value (rest attrs h.1) (a.pair.name == 0x03) refl (ap (λ (n : ℕ). cond (n == 0x03) (Some d) (first_named 0x03 attrs)) (sym same) ∙ e)

-- a space has one
first_of_space : (d : Node ℕ) (text : List ℕ) → space_text d ≡ Some text → (b : Attr ℕ) × (first_named 0x03 d.attrs ≡ Some b)
unfolding space_text
first_of_space d text e = by (d.tag == 0x39) (first_named 0x03 d.attrs) refl e where
  by : (t : Bool) (o : Option (Attr ℕ)) → first_named 0x03 d.attrs ≡ o → (elim t as (λ _. Option (List ℕ)) [ true ↦ text_value o | false ↦ None ]) ≡ Some text
      → (b : Attr ℕ) × (first_named 0x03 d.attrs ≡ Some b)
  by true None q e = absurd cc
  by true (Some a) q e = (a, q)
  by false o q e = absurd cc

pub record HasStoredName (e : RawEntry) (d : Node ℕ) : Type 0 where
  pub b : Attr ℕ
  pub named : first_named 0x03 d.attrs ≡ Some b
  pub stored : IsStoredName e.attrs b

pub has_stored_name : (s : MeaningContext ℕ) (e : RawEntry) (d : Node ℕ) (text : List ℕ) → node_meaning s e ≡ Ok d → space_text d ≡ Some text → HasStoredName e d
has_stored_name s e d text means is =
    let h = ((node_agrees s e).ok d).0 means in
    let n = first_of_space d text is in
    record { b = n.0; named = n.1; stored = first_stored s e.attrs d.attrs n.0 h.attrs n.1 }
