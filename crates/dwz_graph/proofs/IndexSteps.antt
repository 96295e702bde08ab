-- File by file: what was indexed, what is left, and that no number is too great.
use Rattle.std.proofs.Common.{◌≡◌, ℕ, suc, ◌+◌, ◌<◌, ◌≤◌, ◌^◌, List, [], ◌∷◌, ◌++◌, length, drop, get_or, Result, Ok, refl, sym, ap, subst, ◌∙◌, arith, drop-cons}
use Rattle.std.proofs.lemmas.List.{append-nil, append_assoc, drop_all}
use Rattle.dwz_model.specs.declared.fault.Refusal.{Refusal}
use Rattle.dwz_def_reading.specs.Reading.{◌>>=◌}
use Rattle.dwz_def_reading.specs.Units.{RawUnit, entries_in}
use Rattle.dwz_def_reading.specs.Documents.{Doc, DwUnit}
use Rattle.dwz_def_reading.specs.Files.{Limits, around_of, file_meaning, files_meaning, limits_after, longest_files, no_files_before, with_doc}
use Rattle.dwz_def_reading.specs.Meanings.{Around}
use Rattle.dwz_def_reading.specs.Meant.{units_meaning}
use Rattle.dwz_graph.specs.declared.file.File.{File}
use Rattle.dwz_graph_resolve.specs.Given.{AreGiven}
use Rattle.dwz_graph.specs.Files.{AreKept, AreRead, docs_of, or_none}
use Rattle.dwz_graph.proofs.GraphLemmas.{step}
use Rattle.dwz_unit.specs.Rows.{units_of}
use Rattle.dwz_unit.proofs.ShownLemmas.{units_few}
use Rattle.dwz_graph.specs.declared.index.Starts.{Starts}
use Rattle.dwz_graph.specs.declared.index.TopEntry.{TopEntry}
use Rattle.dwz_graph.specs.Building.{HasRoom, IsFew}
use Rattle.dwz_graph.specs.Index.{HasTops, Index, IsIndex, next_starts}
use Rattle.dwz_graph.specs.Names.{names_from}
use Rattle.dwz_graph.proofs.TopNameLemmas.{means_units}
use Rattle.dwz_graph.proofs.TopLemmas.{many}
use Rattle.dwz_graph.proofs.IndexRoom.{entries_few, many_units}
use Rattle.dwz_def_tops.specs.Spots.{tops_among}
use Rattle.dwz_graph.specs.Indexed.{AreIndexed, AreIndexes, IsIndexOf, first_starts, starts_behind}

-- ---- the documents of files that were read

abbrev pub AreDocs : Limits → List (List ℕ) → List File → List (Doc ℕ) → Type 0
AreDocs l [] [] [] = Unit {0}
AreDocs l (bytes ∷ contents) (f ∷ files) (doc ∷ docs) = (file_meaning l bytes ≡ Ok (units_of f.units, doc)) × AreGiven f.units × AreDocs (limits_after l bytes (units_of f.units)) contents files docs
AreDocs l _ _ _ = ⊥

pub record HasDocs (l : Limits) (contents : List (List ℕ)) (files : List File) : Type 0 where
  pub docs : List (Doc ℕ)
  pub are : AreDocs l contents files docs

pub docs_there : (l : Limits) (n : ℕ) (contents : List (List ℕ)) (files : List File) (end : Limits) → AreRead l n contents files end → HasDocs l contents files
docs_there l n [] [] end h = record { docs = []; are = tt }
docs_there l n [] (f ∷ files) end h = absurd h
docs_there l n (b ∷ contents) [] end h = absurd h
docs_there l n (b ∷ contents) (f ∷ files) end h =
    let r = docs_there (limits_after l b (units_of f.units)) (suc n) contents files end h.1 in
    record { docs = h.0.doc ∷ r.docs; are = (h.0.means, h.0.given, r.are) }

all_docs : (l : Limits) (n : ℕ) (contents : List (List ℕ)) (files : List File) (docs : List (Doc ℕ)) → AreDocs l contents files docs → files_meaning l n contents ≡ Ok docs
unfolding files_meaning
all_docs l n [] [] [] h = refl
all_docs l n (b ∷ contents) (f ∷ files) (doc ∷ docs) h =
    step l n b (units_of f.units) doc contents h.0
    ∙ ap (λ (r : Result (List (Doc ℕ)) Refusal). r >>= with_doc doc) (all_docs (limits_after l b (units_of f.units)) (suc n) contents files docs h.2)
all_docs l n [] [] (doc ∷ docs) h = absurd h
all_docs l n [] (f ∷ files) docs h = absurd h
all_docs l n (b ∷ contents) [] docs h = absurd h
all_docs l n (b ∷ contents) (f ∷ files) [] h = absurd h

pub docs_are : (contents : List (List ℕ)) (files : List File) (docs : List (Doc ℕ)) → AreDocs no_files_before contents files docs → docs_of contents ≡ docs
unfolding docs_of
docs_are contents files docs h = ap or_none (all_docs no_files_before 0 contents files docs h)

-- ---- file by file

indexed_more : (s : Starts) (docs : List (Doc ℕ)) (xs : List Index) (m end : Starts) (doc : Doc ℕ) (x : Index) → AreIndexed s docs xs m → IsIndexOf m doc x → starts_behind m doc x ≡ end
    → AreIndexed s (docs ++ doc ∷ []) (xs ++ x ∷ []) end
indexed_more s [] [] m end doc x h is e = (subst (λ (w : Starts). IsIndexOf w doc x) (sym h) is, ap (λ (w : Starts). starts_behind w doc x) h ∙ e)
indexed_more s [] (y ∷ xs) m end doc x h is e = absurd h
indexed_more s (d ∷ docs) [] m end doc x h is e = absurd h
indexed_more s (d ∷ docs) (y ∷ xs) m end doc x h is e = (h.0, indexed_more (starts_behind s d y) docs xs m end doc x h.1 is e)

-- all numbers fit, since no more units, tops and spaces can come than bytes
pub record Fits (s : Starts) (l : Limits) : Type 0 where
  pub units : s.unit + l.bytes ≤ 2 ^ 29
  pub tops : s.top + l.bytes ≤ 2 ^ 29
  pub spaces : s.space + l.bytes ≤ 2 ^ 29

-- some files were indexed, and the others are left
pub record Going (contents : List (List ℕ)) (files : List File) (i : ℕ) (s : Starts) (xs : List Index) : Type 0 where
  pub done : List (Doc ℕ)
  pub left : List (Doc ℕ)
  pub limits : Limits
  pub rest : List (List ℕ)
  pub all : docs_of contents ≡ done ++ left
  pub indexed : AreIndexed first_starts done xs s
  pub are : AreDocs limits rest (drop i files) left
  pub fits : Fits s limits

pub begins : (contents : List (List ℕ)) (files : List File) → AreKept contents files → Going contents files 0 first_starts []
unfolding longest_files
begins contents files kept =
    let d = docs_there no_files_before 0 contents files kept.end kept.are in
    record {
      done = [];
      left = d.docs;
      limits = no_files_before;
      rest = contents;
      all = docs_are contents files d.docs d.are;
      indexed = refl;
      are = d.are;
      fits = record { units = omega arith; tops = omega arith; spaces = omega arith };
    }

-- the next file
record NextFile (l : Limits) (rest : List (List ℕ)) (f : File) (others : List File) (left : List (Doc ℕ)) : Type 0 where
  bytes : List ℕ
  contents : List (List ℕ)
  doc : Doc ℕ
  docs : List (Doc ℕ)
  left_are : left ≡ doc ∷ docs
  means : file_meaning l bytes ≡ Ok (units_of f.units, doc)
  given : AreGiven f.units
  are : AreDocs (limits_after l bytes (units_of f.units)) contents others docs

next_file : (l : Limits) (rest : List (List ℕ)) (f : File) (others : List File) (left : List (Doc ℕ)) → AreDocs l rest (f ∷ others) left → NextFile l rest f others left
next_file l [] f others left h = absurd h
next_file l (b ∷ contents) f others [] h = absurd h
next_file l (b ∷ contents) f others (doc ∷ docs) h = record { bytes = b; contents = contents; doc = doc; docs = docs; left_are = refl; means = h.0; given = h.1; are = h.2 }

room_of : (s : Starts) (l : Limits) (bytes : List ℕ) (raw : List RawUnit) (doc : Doc ℕ) → Fits s l → file_meaning l bytes ≡ Ok (raw, doc) → HasRoom s (entries_in raw)
room_of s l bytes raw doc fits means =
    let few = entries_few l bytes raw doc means in
    let a = fits.units in
    let b = fits.tops in
    let c = fits.spaces in
    record { units = omega (arith, few.0, few.1); tops = omega (arith, few.0, few.1); spaces = omega (arith, few.0, few.1) }

here : (contents : List (List ℕ)) (files : List File) (i : ℕ) (s : Starts) (xs : List Index) (f : File) (g : Going contents files i s xs) → i < length files → f ≡ get_or files i f
    → NextFile g.limits g.rest f (drop (suc i) files) g.left
here contents files i s xs f g lt is =
    next_file g.limits g.rest f (drop (suc i) files) g.left (subst (λ (w : List File). AreDocs g.limits g.rest w g.left) (drop-cons files i f lt ∙ ap (λ (w : File). w ∷ drop (suc i) files) (sym is))
    g.are)

pub has_room : (contents : List (List ℕ)) (files : List File) (i : ℕ) (s : Starts) (xs : List Index) (f : File) → Going contents files i s xs → i < length files → f ≡ get_or files i f
    → HasRoom s (entries_in (units_of f.units))
has_room contents files i s xs f g lt is = let n = here contents files i s xs f g lt is in room_of s g.limits n.bytes (units_of f.units) n.doc g.fits n.means

pub goes_on : (contents : List (List ℕ)) (files : List File) (i : ℕ) (s next : Starts) (xs new : List Index) (f : File) (x : Index) → Going contents files i s xs → i < length files
    → f ≡ get_or files i f
    → (AreGiven f.units → (around : Around ℕ) (said : List (DwUnit ℕ)) → units_meaning around (units_of f.units) ≡ Ok said → IsIndex (names_from s.unit s.top said) x)
    → ((around : Around ℕ) (said : List (DwUnit ℕ)) → units_meaning around (units_of f.units) ≡ Ok said → HasTops s said x)
    → IsFew x (entries_in (units_of f.units)) → next ≡ next_starts x (length (units_of f.units)) → new ≡ xs ++ x ∷ [] → Going contents files (i + 1) next new
goes_on contents files i s next xs new f x g lt is names tops few after put =
    let n = here contents files i s xs f g lt is in
    let raw = units_of f.units in
    let l = g.limits in
    let means = means_units l n.bytes raw n.doc n.means in
    let has = tops (around_of n.bytes raw) n.doc.units means in
    let indexed : IsIndexOf s n.doc x = record { names = names n.given (around_of n.bytes raw) n.doc.units means; tops = has } in
    let units : length raw ≡ length n.doc.units = many_units l n.bytes raw n.doc n.means in
    let count : length x.tops ≡ tops_among n.doc.units = ap (λ (w : List TopEntry). length w) has.tops_are ∙ many s 0 n.doc.units in
    let from = has.starts_are in
    let same : starts_behind s n.doc x ≡ next = (λ j. record { unit = (sym from j).unit + sym units j; top = (sym from j).top + sym count j; space = (sym from j).space + length x.spaces })
    ∙ sym after in
    let bytes = entries_few l n.bytes raw n.doc n.means in
    let within = units_few raw in
    let one : suc i ≡ i + 1 = omega arith in
    let a = g.fits.units in
    let b = g.fits.tops in
    let c = g.fits.spaces in
    let few_tops = few.tops in
    let few_spaces = few.spaces in
    let less = bytes.0 in
    let long = bytes.1 in
    let next_fits : Fits (starts_behind s n.doc x) (limits_after l n.bytes raw) = record { units = omega arith; tops = omega arith; spaces = omega arith } in
    record {
      done = g.done ++ n.doc ∷ [];
      left = n.docs;
      limits = limits_after l n.bytes raw;
      rest = n.contents;
      all = g.all ∙ ap (λ (w : List (Doc ℕ)). g.done ++ w) n.left_are ∙ sym (append_assoc g.done (n.doc ∷ []) n.docs);
      indexed = subst (λ (w : List Index). AreIndexed first_starts (g.done ++ n.doc ∷ []) w next) (sym put) (indexed_more first_starts g.done xs s next n.doc x g.indexed indexed same);
      are = subst (λ (k : ℕ). AreDocs (limits_after l n.bytes raw) n.contents (drop k files) n.docs) one n.are;
      fits = subst (λ (w : Starts). Fits w (limits_after l n.bytes raw)) same next_fits;
    }

none_left : (l : Limits) (rest : List (List ℕ)) (left : List (Doc ℕ)) → AreDocs l rest [] left → left ≡ []
none_left l [] [] h = refl
none_left l [] (doc ∷ docs) h = absurd h
none_left l (b ∷ rest) left h = absurd h

pub ends : (contents : List (List ℕ)) (files : List File) (i : ℕ) (s : Starts) (xs : List Index) → Going contents files i s xs → length files ≤ i → AreIndexes (docs_of contents) xs
ends contents files i s xs g le =
    let none = none_left g.limits g.rest g.left (subst (λ (w : List File). AreDocs g.limits g.rest w g.left) (drop_all i files le) g.are) in
    let all : docs_of contents ≡ g.done = g.all ∙ ap (λ (w : List (Doc ℕ)). g.done ++ w) none ∙ append-nil g.done in
    record { end = s; are = subst (λ (w : List (Doc ℕ)). AreIndexed first_starts w xs s) (sym all) g.indexed }

pub behind_room : (contents : List (List ℕ)) (files : List File) (i : ℕ) (s : Starts) (xs : List Index) (f : File) (x : Index) → Going contents files i s xs → i < length files → f ≡ get_or files i f
    → ((around : Around ℕ) (said : List (DwUnit ℕ)) → units_meaning around (units_of f.units) ≡ Ok said → HasTops s said x) → HasRoom x.starts (entries_in (units_of f.units))
behind_room contents files i s xs f x g lt is tops =
    let n = here contents files i s xs f g lt is in
    let raw = units_of f.units in
    let has = tops (around_of n.bytes raw) n.doc.units (means_units g.limits n.bytes raw n.doc n.means) in
    subst (λ (w : Starts). HasRoom w (entries_in raw)) (sym has.starts_are) (has_room contents files i s xs f g lt is)

pub tops_long : (s : Starts) (doc : Doc ℕ) (x : Index) → IsIndexOf s doc x → length x.tops ≡ tops_among doc.units
tops_long s doc x h = ap (λ (w : List TopEntry). length w) h.tops.tops_are ∙ many s 0 doc.units
