-- What is left behind a value that was written.
use Rattle.std.proofs.Common.{◌≡◌, ℕ, ◌+◌, List, ◌∷◌, ◌++◌, length, drop, refl, sym, ap, subst, ◌∙◌}
use Rattle.std.proofs.lemmas.List.{append_assoc, drop-drop, length-append}
use Rattle.dwz_def_tops.specs.Spots.{EntryName}
use Rattle.dwz_label_entries.specs.Sources.{TellsAttr, TellsValue, attrs_label}
use Rattle.dwz_def_reading.specs.Entries.{RawAttr}
use Rattle.dwz_def_reading.specs.Units.{RawUnit}
use Rattle.dwz_graph.specs.Rows.{AreAttrsMeant, NextAttr}
use Rattle.dwz_graph.proofs.StepLemmas.{sibling}
use Rattle.dwz_label.specs.Labels.{number, value_label}
use Rattle.dwz_def_reading.specs.Documents.{Attr, value_map}
use Rattle.dwz_def_reading.specs.Meanings.{MeaningContext}
use Rattle.dwz_graph.specs.Named.{attrs_refs, value_refs}

pub skipped : (raw : List RawUnit) (s : MeaningContext ℕ) (a : RawAttr) (values : List RawAttr) (name : ℕ → EntryName) (attrs : List (Attr ℕ)) (refs old : List ℕ) → a.pair.name ≡ 0x01
    → AreAttrsMeant raw s refs (a ∷ values) attrs → TellsAttr raw s values name attrs refs refs old old
skipped raw s a values name attrs refs old is h = record { left = attrs; rest = sibling raw s refs a values attrs is h; bytes = refl; ends = refl }

-- one behind the other
drop_both : (m n : ℕ) (xs ys : List ℕ) → ys ≡ drop m xs → drop n ys ≡ drop (m + n) xs
drop_both m n xs ys e = ap (λ (w : List ℕ). drop n w) e ∙ drop-drop n m xs

pub told : (raw : List RawUnit) (s : MeaningContext ℕ) (a : RawAttr) (values : List RawAttr) (name : ℕ → EntryName) (attrs : List (Attr ℕ)) (refs others old one new : List ℕ)
    (x : NextAttr raw s refs a values attrs) → one ≡ old ++ number a.pair.name → TellsValue name x.value refs others one new → TellsAttr raw s values name attrs refs others old new
told raw s a values name attrs refs others old one new x is t =
    let rest = attrs_label name x.left in
    let here = value_label (value_map name x.value) in
    record {
      left = x.left;
      rest = subst (λ (w : List ℕ). AreAttrsMeant raw s w values x.left) (sym t.ends) x.rest;
      bytes = ap (λ (w : List ℕ). w ++ rest) (t.bytes ∙ ap (λ (w : List ℕ). w ++ here) is)
          ∙ append_assoc (old ++ number a.pair.name) here rest ∙ append_assoc old (number a.pair.name) (here ++ rest)
          ∙ ap (λ (w : List ℕ). old ++ w) (sym (append_assoc (number a.pair.name) here rest))
          ∙ ap (λ (w : List (Attr ℕ)). old ++ attrs_label name w) (sym x.parts);
      ends = drop_both (length (value_refs x.value)) (length (attrs_refs x.left)) refs others t.ends
          ∙ ap (λ (n : ℕ). drop n refs) (sym (length-append (value_refs x.value) (attrs_refs x.left)))
          ∙ ap (λ (w : List (Attr ℕ)). drop (length (attrs_refs w)) refs) (sym x.parts);
    }
