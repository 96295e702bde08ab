-- File by file: the one with a number, where its units and tops stand among those of all.
use Rattle.std.proofs.Common.{◌≡◌, ℕ, zero, suc, ◌+◌, ◌<◌, ◌≤◌, Bool, true, false, List, [], ◌∷◌, ◌++◌, length, Some, slice_get, Result, Ok, Err, refl, sym, ap, subst, ◌∙◌, ⊎_elim, arith}
use Rattle.std.proofs.lemmas.Bool.{eq-eqb, ne_eqb}
use Rattle.std.proofs.lemmas.List.{append_assoc, length-append}
use Rattle.dwz_model.specs.declared.fault.Refusal.{Refusal}
use Rattle.dwz_def_reading.specs.Reading.{◌>>=◌}
use Rattle.dwz_def_reading.specs.Lists.{In}
use Rattle.dwz_def_reading.proofs.ListFacts.{in_cases}
use Rattle.dwz_def_reading.specs.Documents.{Doc}
use Rattle.dwz_def_reading.specs.Files.{Limits, files_meaning, limits_after, no_files_before, with_doc}
use Rattle.dwz_def_tops.specs.Spots.{EntryName, FileUnit, Top, named_files, tops_among, tops_from}
use Rattle.dwz_def_tops.proofs.TopOrder.{later_unit}
use Rattle.dwz_graph.specs.declared.file.File.{File}
use Rattle.dwz_graph.specs.Files.{AreKept, AreRead, HasFile, IsRead, docs_of}
use Rattle.dwz_graph.proofs.GraphLemmas.{files_read, step}
use Rattle.dwz_graph.specs.declared.index.Starts.{Starts}
use Rattle.dwz_graph.specs.Index.{Index}
use Rattle.dwz_graph.proofs.TopNameLemmas.{places_once}
use Rattle.dwz_graph.specs.Indexed.{AreIndexed, AreIndexes, IsIndexOf, first_starts, starts_behind}
use Rattle.dwz_def_tops.specs.UnitNames.{name_from}
use Rattle.dwz_def_reading.specs.Places.{at_file}
use Rattle.dwz_unit.specs.Rows.{units_of as raw_units}
use Rattle.dwz_graph.specs.Across.{file_tops, file_units, name_at, starts_from}
use Rattle.dwz_graph.specs.AcrossLaws.{IsAmong}
use Rattle.dwz_graph.proofs.TopRows.{file_many, tops_behind, unit_high, units_long}

-- ---- the documents behind one

pub later_docs : (doc : Doc ℕ) (r : Result (List (Doc ℕ)) Refusal) (docs : List (Doc ℕ)) → (r >>= with_doc doc) ≡ Ok docs → (rest : List (Doc ℕ)) × (r ≡ Ok rest) × (doc ∷ rest ≡ docs)
later_docs doc (Ok rest) docs e = (rest, refl, (let same : doc ∷ rest ≡ docs = cc in same))
later_docs doc (Err f) docs e = absurd cc

pub first_doc : (l : Limits) (n : ℕ) (b : List ℕ) (contents : List (List ℕ)) (f : File) (docs : List (Doc ℕ)) (h : IsRead l n b f) → files_meaning l n (b ∷ contents) ≡ Ok docs
    → (rest : List (Doc ℕ)) × (files_meaning (limits_after l b (raw_units f.units)) (suc n) contents ≡ Ok rest) × (h.doc ∷ rest ≡ docs)
first_doc l n b contents f docs h e =
    later_docs h.doc (files_meaning (limits_after l b (raw_units f.units)) (suc n) contents) docs (sym (step l n b (raw_units f.units) h.doc contents h.means) ∙ e)

-- ---- the file with a number, where the first one begins with these numbers

pub record IsThere (l : Limits) (contents : List (List ℕ)) (n : ℕ) (s : Starts) (docs : List (Doc ℕ)) (indexes : List Index) (k file : ℕ) (f : File) (x : Index) : Type 0 where
  pub limits : Limits
  pub bytes : List ℕ
  pub starts : Starts
  pub read : IsRead limits file bytes f
  pub there : HasFile l contents k limits bytes (raw_units f.units) read.doc
  pub index : IsIndexOf starts read.doc x
  pub doc_is : slice_get docs k ≡ Some read.doc
  pub begins : starts ≡ starts_from s docs indexes k
  pub behind : starts_behind starts read.doc x ≡ starts_from s docs indexes (suc k)
  pub front : List (FileUnit EntryName)
  pub back : List (FileUnit EntryName)
  pub units : named_files n s.unit s.top docs ≡ front ++ (file_units starts file read.doc ++ back)
  pub units_before : s.unit + length front ≡ starts.unit
  pub tops_front : List Top
  pub tops_back : List Top
  pub tops : tops_from s.unit s.top (named_files n s.unit s.top docs) ≡ tops_front ++ (file_tops starts file read.doc ++ tops_back)
  pub tops_before : s.top + length tops_front ≡ starts.top
  pub earlier : (t : Top) → In t tops_front → t.unit < starts.unit
  pub later : (t : Top) → In t tops_back → starts.unit + length read.doc.units ≤ t.unit
  pub names : (offset : ℕ) → name_from n s.unit s.top docs (at_file file offset) ≡ name_at starts read.doc offset

first_there : (l : Limits) (b : List ℕ) (contents : List (List ℕ)) (n : ℕ) (s : Starts) (d : Doc ℕ) (docs : List (Doc ℕ)) (y : File) (z : Index) (indexes : List Index) → (h : IsRead l n b y)
    → h.doc ≡ d → IsIndexOf s d z
    → IsThere l (b ∷ contents) n s (d ∷ docs) (z ∷ indexes) 0 n y z
unfolding named_files starts_from name_from
first_there l b contents n s d docs y z indexes h e is =
    let others = named_files (suc n) (s.unit + length d.units) (s.top + tops_among d.units) docs in
    record {
      limits = l;
      bytes = b;
      starts = s;
      read = h;
      there = (refl, refl, h.means);
      index = subst (λ (w : Doc ℕ). IsIndexOf s w z) (sym e) is;
      doc_is = ap (λ (w : Doc ℕ). Some w) (sym e);
      begins = refl;
      behind = ap (λ (w : Doc ℕ). starts_behind s w z) e;
      front = [];
      back = others;
      units = ap (λ (w : Doc ℕ). file_units s n w ++ others) (sym e);
      units_before = omega arith;
      tops_front = [];
      tops_back = tops_from (s.unit + length d.units) (s.top + tops_among d.units) others;
      tops = tops_behind s n d others ∙ ap (λ (w : Doc ℕ). file_tops s n w ++ tops_from (s.unit + length d.units) (s.top + tops_among d.units) others) (sym e);
      tops_before = omega arith;
      earlier = λ t there. absurd there;
      later = λ t there. subst (λ (w : Doc ℕ). s.unit + length w.units ≤ t.unit) (sym e) (later_unit (s.unit + length d.units) (s.top + tops_among d.units) others t there);
      names = λ offset.
          ap (λ (b : Bool). elim b as (λ _. EntryName) [ true ↦ name_at s d offset | false ↦ name_from (suc n) (s.unit + length d.units) (s.top + tops_among d.units) docs (at_file n offset) ])
          (eq-eqb n n refl)
          ∙ ap (λ (w : Doc ℕ). name_at s w offset) (sym e);
    }

later_there : (l : Limits) (b : List ℕ) (contents : List (List ℕ)) (n : ℕ) (s : Starts) (d : Doc ℕ) (docs : List (Doc ℕ)) (y : File) (z : Index) (indexes : List Index) (k file : ℕ) (f : File)
    (x : Index) → (h : IsRead l n b y) → n < file
    → IsThere (limits_after l b (raw_units y.units)) contents (suc n) (starts_behind s d z) docs indexes k file f x → IsThere l (b ∷ contents) n s (d ∷ docs) (z ∷ indexes) (suc k) file f x
unfolding named_files starts_from name_from
later_there l b contents n s d docs y z indexes k file f x h before_it r =
    let own = file_units s n d in
    let tops = file_tops s n d in
    let others = named_files (suc n) (s.unit + length d.units) (s.top + tops_among d.units) docs in
    let long = length-append own r.front in
    let many = length-append tops r.tops_front in
    let own_long = units_long s n d in
    let own_many = file_many s n d in
    let before = r.units_before in
    let tops_before = r.tops_before in
    record {
      limits = r.limits;
      bytes = r.bytes;
      starts = r.starts;
      read = r.read;
      there = (raw_units y.units, h.doc, h.means, r.there);
      index = r.index;
      doc_is = r.doc_is;
      begins = r.begins;
      behind = r.behind;
      front = own ++ r.front;
      back = r.back;
      units = ap (λ (w : List (FileUnit EntryName)). own ++ w) r.units ∙ sym (append_assoc own r.front (file_units r.starts file r.read.doc ++ r.back));
      units_before = omega arith;
      tops_front = tops ++ r.tops_front;
      tops_back = r.tops_back;
      tops = tops_behind s n d others ∙ ap (λ (w : List Top). tops ++ w) r.tops ∙ sym (append_assoc tops r.tops_front (file_tops r.starts file r.read.doc ++ r.tops_back));
      tops_before = omega arith;
      earlier = λ t there. ⊎_elim
          (λ a. (let high = unit_high s.unit s.top own t a in omega arith))
          (λ b. r.earlier t b)
          (in_cases t tops r.tops_front there);
      later = r.later;
      names = λ offset.
          ap (λ (b : Bool). elim b as (λ _. EntryName) [ true ↦ name_at s d offset | false ↦ name_from (suc n) (s.unit + length d.units) (s.top + tops_among d.units) docs (at_file file offset) ])
          (ne_eqb n file (λ e. omega (arith, e, before_it)))
          ∙ r.names offset;
    }

pub there : (l : Limits) (contents : List (List ℕ)) (files : List File) (left : Limits) (n : ℕ) (docs : List (Doc ℕ)) (indexes : List Index) (s end : Starts) → AreRead l n contents files left
    → files_meaning l n contents ≡ Ok docs → AreIndexed s docs indexes end
    → (k file : ℕ) (f : File) (x : Index) → n + k ≡ file → slice_get files k ≡ Some f → slice_get indexes k ≡ Some x → IsThere l contents n s docs indexes k file f x
there l [] [] left n docs indexes s end h m is k file f x e p q = absurd cc
there l [] (y ∷ files) left n docs indexes s end h m is k file f x e p q = absurd h
there l (b ∷ contents) [] left n docs indexes s end h m is k file f x e p q = absurd h
there l (b ∷ contents) (y ∷ files) left n [] indexes s end h m is k file f x e p q = (let r = first_doc l n b contents y [] h.0 m in let no = r.2 in absurd cc)
there l (b ∷ contents) (y ∷ files) left n (d ∷ docs) [] s end h m is k file f x e p q = absurd is
there l (b ∷ contents) (y ∷ files) left n (d ∷ docs) (z ∷ indexes) s end h m is zero file f x e p q =
    let r = first_doc l n b contents y (d ∷ docs) h.0 m in
    let same : h.0.doc ≡ d = (let both = r.2 in cc) in
    let f_is : y ≡ f = cc in
    let x_is : z ≡ x = cc in
    let at : n ≡ file = omega arith in
    subst (λ (w : ℕ). IsThere l (b ∷ contents) n s (d ∷ docs) (z ∷ indexes) 0 w f x) at
    (subst (λ (w : File). IsThere l (b ∷ contents) n s (d ∷ docs) (z ∷ indexes) 0 n w x) f_is
    (subst (λ (w : Index). IsThere l (b ∷ contents) n s (d ∷ docs) (z ∷ indexes) 0 n y w) x_is (first_there l b contents n s d docs y z indexes h.0 same is.0)))
there l (b ∷ contents) (y ∷ files) left n (d ∷ docs) (z ∷ indexes) s end h m is (suc k) file f x e p q =
    let r = first_doc l n b contents y (d ∷ docs) h.0 m in
    let same : r.0 ≡ docs = (let both = r.2 in cc) in
    later_there l b contents n s d docs y z indexes k file f x h.0 (omega arith)
    (there (limits_after l b (raw_units y.units)) contents files left (suc n) docs indexes (starts_behind s d z) end h.1 (r.1 ∙ ap (λ (w : List (Doc ℕ)). Ok w) same) is.1 k file f x (omega arith) p q)

-- ---- from the first file on

pub among : (contents : List (List ℕ)) (files : List File) (indexes : List Index) (k : ℕ) (f : File) (x : Index) → AreKept contents files → AreIndexes (docs_of contents) indexes
    → slice_get files k ≡ Some f → slice_get indexes k ≡ Some x
    → IsThere no_files_before contents 0 first_starts (docs_of contents) indexes k k f x
among contents files indexes k f x kept is p q =
    there no_files_before contents files kept.end 0 (docs_of contents) indexes first_starts is.end kept.are (files_read contents files kept.end kept.are) is.are k k f x (omega arith) p q

pub is_among : (contents : List (List ℕ)) (files : List File) (indexes : List Index) (k : ℕ) (f : File) (x : Index) → AreKept contents files → AreIndexes (docs_of contents) indexes
    → slice_get files k ≡ Some f → slice_get indexes k ≡ Some x
    → IsAmong contents k f x
is_among contents files indexes k f x kept is p q =
    let r = among contents files indexes k f x kept is p q in
    let from : r.starts ≡ x.starts = sym r.index.tops.starts_are in
    let docs = docs_of contents in
    let units_before : length r.front ≡ r.starts.unit = (let b = r.units_before in omega arith) in
    let tops_before : length r.tops_front ≡ r.starts.top = (let b = r.tops_before in omega arith) in
    record {
      bytes = r.bytes;
      is = record {
        kept = record { limits = r.limits; read = r.read; there = r.there };
        index = subst (λ (w : Starts). IsIndexOf w r.read.doc x) from r.index;
        doc_is = r.doc_is;
        units = record {
          front = r.front;
          back = r.back;
          all_are = r.units ∙ ap (λ (w : Starts). r.front ++ (file_units w k r.read.doc ++ r.back)) from;
          many = units_before
              ∙ ap (λ (w : Starts). w.unit) from;
        };
        tops = record {
          front = r.tops_front;
          back = r.tops_back;
          all_are = r.tops ∙ ap (λ (w : Starts). r.tops_front ++ (file_tops w k r.read.doc ++ r.tops_back)) from;
          many = tops_before
              ∙ ap (λ (w : Starts). w.top) from;
        };
        earlier = λ t there. subst (λ (w : Starts). t.unit < w.unit) from (r.earlier t there);
        later = λ t there. subst (λ (w : Starts). w.unit + length r.read.doc.units ≤ t.unit) from (r.later t there);
        names = λ offset. r.names offset ∙ ap (λ (w : Starts). name_at w r.read.doc offset) from;
        once = places_once r.limits r.bytes (raw_units f.units) r.read.doc r.read.means;
      };
    }
