-- What is asked of a file, and of files one after the other.
use Rattle.std.proofs.Common.{◌≡◌, ◌≢◌, ◌↔◌, ℕ, suc, ◌+◌, ◌<◌, ◌≤◌, ◌^◌, Bool, true, false, List, [], ◌∷◌, ◌++◌, drop, length, get_or, map, Option, Some, None, Ok, refl, sym, ap, subst, ◌∙◌, inl, inr}
use Rattle.std.proofs.Common.{arith, append_assoc}
use mathlib.Core.Bool.{beq}
use Rattle.std.specs.Option.{option_eq}
use Rattle.std.specs.Prelude.{◌||◌, codes, not}
use Rattle.std.specs.List.{list_any}
use Rattle.std.proofs.lemmas.Bool.{false≢true}
use Rattle.std.proofs.lemmas.List.{append-nil, drop-map, drop_all}
use Rattle.std.proofs.lemmas.Slice.Eq.{bytes_eq-Decides}
use Rattle.dwz_def_readback.specs.Prunable.{HasSection, IsPrunable}
use Rattle.dwz_def_reading.specs.declared.elf.Header.{Header}
use Rattle.dwz_def_reading.specs.ElfHeaders.{headers_in, is_there}
use Rattle.dwz_def_reading.specs.ElfNames.{name_at, name_table}
use Rattle.dwz_def_reading.specs.ElfReading.{elf_fault}
use Rattle.dwz_def_reading.specs.Lists.{Each, In}
use Rattle.dwz_def_reading.specs.OffsetTables.{slots_in}
use Rattle.dwz_def_reading.specs.Units.{RawUnit}
use Rattle.dwz_def_reading.proofs.OffsetLemmas.{slots_again, slots_found}
use Rattle.dwz_def_reading.proofs.PartLemmas.{bind_ok}
use Rattle.dwz_def_reading.proofs.RangeBytes.{bytes_short}
use Rattle.dwz_def_reading.proofs.ListFacts.{drop_next}
use Rattle.dwz_elf.specs.Names.{is_called, is_there_called}
use Rattle.dwz_graph.specs.declared.file.File.{File}
use Rattle.dwz_graph.specs.Files.{AreKept, AreRead, IsRead, docs_of}
use Rattle.dwz_graph.proofs.GraphLemmas.{files_read, step}
use Rattle.dwz_graph.proofs.FileLemmas.{files_few}
use Rattle.dwz_def_reading.specs.LineSection.{AreTablesFrom, UsesStrp, any_strp}
use Rattle.dwz_def_reading.specs.Documents.{Doc}
use Rattle.dwz_def_reading.specs.Files.{Limits, files_meaning, limits_after, longest_file}
use Rattle.dwz_def_reading.specs.Files.{no_files_before, section_of, sources_of, with_doc}
use Rattle.dwz_def_reading.specs.LineTables.{FileTable, IsFileTable, TextSections, is_header, line_length}
use Rattle.dwz_def_reading.specs.Meanings.{Sources, text_sections_of}
use Rattle.dwz_def_reading.specs.Meant.{units_meaning}
use Rattle.dwz_def_reading.specs.Files.{around_of}
use Rattle.dwz_def_reading.proofs.AgreeLemmas.{same_meaning}
use Rattle.dwz_def_reading.proofs.FileLemmas.{file_agrees}
use Rattle.dwz_def_reading.proofs.LineTableLemmas.{file_table_agrees}
use Rattle.dwz_def_reading.proofs.MeaningUnits.{units_agree}
use Rattle.dwz_def_reading.proofs.UnitMeans.{no_files}
use Rattle.dwz_def_output.specs.Written.{ArePrunable}
use Rattle.dwz_def_reading.proofs.SoundFiles.{no_elf_fault}
use Rattle.dwz_graph_pruning.proofs.RowLemmas.{both_pass}
use Rattle.dwz_unit.specs.Rows.{units_of}
use Rattle.dwz_def_encoding.specs.Pruned.{UnitStays}

-- ---- a section with a name

called : (name : List ℕ) (o : Option (List ℕ)) → is_called name o ≡ true → o ≡ Some name
called name None e = absurd (false≢true e)
called name (Some found) e = ap (λ (w : List ℕ). Some w) ((bytes_eq-Decides found name).0 e)

calls : (name : List ℕ) (o : Option (List ℕ)) → o ≡ Some name → is_called name o ≡ true
calls name None e = absurd (let z : None ≡ Some name = e in cc)
calls name (Some found) e = (bytes_eq-Decides found name).1 (let same : found ≡ name = cc in same)

module _ (bytes name : List ℕ) where
  abbrev test : Header → Bool
  test h = is_there_called (name_table bytes) name h

  any_there : (headers : List Header) → list_any test headers ≡ true → (h : Header) × In h headers × (is_there h ≡ true) × (name_at (name_table bytes) h.name ≡ Some name)
  any_there [] e = absurd (false≢true e)
  any_there (h ∷ headers) e = go (any_there headers) (test h) refl e where
    go : ((list_any test headers ≡ true) → (g : Header) × In g headers × (is_there g ≡ true) × (name_at (name_table bytes) g.name ≡ Some name)) → (b : Bool) → test h ≡ b
        → (b || list_any test headers) ≡ true → (g : Header) × In g (h ∷ headers) × (is_there g ≡ true) × (name_at (name_table bytes) g.name ≡ Some name)
    go deeper true is passes = (let r = (both_pass (is_there h) (is_called name (name_at (name_table bytes) h.name))).0 is in (h, inl refl, r.0, called name (name_at (name_table bytes) h.name) r.1))
    go deeper false is more = (let r = deeper more in (r.0, inr r.1, r.2, r.3))

  there_any : (headers : List Header) (h : Header) → In h headers → test h ≡ true → list_any test headers ≡ true
  there_any [] h there is = absurd there
  there_any (g ∷ headers) h (inl e) is = ap (λ (b : Bool). b || list_any test headers) (ap test e ∙ is)
  there_any (g ∷ headers) h (inr r) is = go (there_any headers h r is) (test g) where
    go : list_any test headers ≡ true → (b : Bool) → (b || list_any test headers) ≡ true
    go deeper true = refl
    go deeper false = deeper

  pub has_section : list_any test (headers_in bytes) ≡ true → HasSection bytes name
  has_section e = (let r = any_there (headers_in bytes) e in record { header = r.0; there = r.1; named = r.3; content = r.2 })

  pub no_section : list_any test (headers_in bytes) ≡ false → HasSection bytes name → ⊥
  no_section none h =
      let is : test h.header ≡ true = (both_pass (is_there h.header) (is_called name (name_at (name_table bytes) h.header.name))).1
      (h.content, calls name (name_at (name_table bytes) h.header.name) h.named) in
      false≢true (sym none ∙ there_any (headers_in bytes) h.header h.there is)

-- ---- a section of line tables

none_at : is_header [] ≡ false
none_at = refl

-- none stands at the end
past : (s : TextSections) (line : List ℕ) (place : ℕ) (t : FileTable) → place ≡ length line → IsFileTable s line place t → ⊥
past s line place t end is =
    let none : drop place line ≡ [] = drop_all place line (omega (arith, end)) in
    false≢true (sym none_at ∙ ap is_header (sym none) ∙ is.header)

same_tables : (s : TextSections) (line : List ℕ) (place : ℕ) (ts us : List FileTable) → AreTablesFrom s line place ts → AreTablesFrom s line place us → ts ≡ us
same_tables s line place [] [] a b = refl
same_tables s line place [] (u ∷ us) a b = absurd (past s line place u a b.0)
same_tables s line place (t ∷ ts) [] a b = absurd (past s line place t b a.0)
same_tables s line place (t ∷ ts) (u ∷ us) a b =
    let one : t ≡ u = same_meaning (file_table_agrees s line place) t u a.0 b.0 in
    let more = same_tables s line (place + (4 + line_length (drop place line))) ts us a.1 b.1 in
    (λ i. one i ∷ more i)

-- no other answer
pub one_use : (s : TextSections) (line : List ℕ) (r : Option Bool) (strp : Bool) → UsesStrp s line r → UsesStrp s line (Some strp) → r ≡ Some strp
one_use s line None strp a b = absurd (a b.0 b.1.row)
one_use s line (Some other) strp a b =
    let same = same_tables s line 0 a.0 b.0 a.1.row b.1.row in
    ap (λ (w : Bool). Some w) (sym a.1.any ∙ ap any_strp same ∙ b.1.any)

-- ---- how long a section is

section_short : (bytes : List ℕ) (code : ℕ) → length (section_of bytes code) ≤ length bytes
unfolding section_of
section_short bytes code = bytes_short bytes _

-- ---- a test of two answers

pub other_use : (r : Option Bool) → not (option_eq beq r (Some false)) ≡ true → r ≢ Some false
other_use None e is = absurd (let z : None ≡ Some false = is in cc)
other_use (Some true) e is = absurd (let z : Some true ≡ Some false = is in cc)
other_use (Some false) e is = false≢true e

pub same_use : (r : Option Bool) → not (option_eq beq r (Some false)) ≡ false → r ≡ Some false
same_use None e = absurd (false≢true (sym e))
same_use (Some true) e = absurd (false≢true (sym e))
same_use (Some false) e = refl

-- ---- a file as it was read

module _ (l : Limits) (number : ℕ) (bytes : List ℕ) (f : File) (is : IsRead l number bytes f) where
  abbrev raw : List RawUnit
  raw = units_of f.units

  abbrev doc : Doc ℕ
  doc = is.doc

  abbrev sources : Sources
  sources = sources_of bytes

  pub no_fault : elf_fault bytes ≡ None
  no_fault = no_elf_fault l bytes raw doc is.means

  pub offsets_are : f.sections.offsets.now ≡ sources.offsets
  offsets_are = ap (λ (s : Sources). s.offsets) is.sections

  pub offsets_short : length f.sections.offsets.now < 2 ^ 32
  unfolding longest_file
  offsets_short =
      let r = ((file_agrees l bytes).ok (raw, doc)).0 is.means in
      let size = r.size.file in
      omega (arith, ap (λ (w : List ℕ). length w) offsets_are, section_short bytes 5, size)

  pub units_mean : units_meaning (around_of bytes raw) raw ≡ Ok doc.units
  units_mean = let r = ((file_agrees l bytes).ok (raw, doc)).0 is.means in ((units_agree (around_of bytes raw) raw).ok doc.units).1 r.means

  -- ---- why it isn't prunable

  abbrev Prunable : Type 0
  Prunable = IsPrunable bytes doc.units

  pub bad_macro : list_any (is_there_called (name_table bytes) (codes ".debug_macro")) (headers_in bytes) ≡ true → (false ≡ true) ↔ Prunable
  bad_macro has = (λ e. absurd (false≢true e), λ p. absurd (p.no_macro (has_section bytes (codes ".debug_macro") has)))

  pub bad_slots : slots_in f.sections.offsets.now ≡ None → (false ≡ true) ↔ Prunable
  bad_slots none = (
    λ e. absurd (false≢true e),
    λ p. absurd (let there : slots_in (sources.offsets) ≡ Some p.places = slots_again sources.offsets p.places p.slots in let both : None ≡ Some p.places = sym none ∙ ap slots_in offsets_are
        ∙ there in cc),
  )

  abbrev texts : TextSections
  texts = record { strs = f.sections.strs.bytes.now; line_strs = f.sections.line_strs.bytes.now }

  texts_are : texts ≡ text_sections_of sources
  texts_are = ap (λ (s : Sources). text_sections_of s) is.sections

  line_is : f.sections.line.now ≡ sources.line
  line_is = ap (λ (s : Sources). s.line) is.sections

  uses : (r : Option Bool) → UsesStrp texts f.sections.line.now r → UsesStrp (text_sections_of sources) sources.line r
  uses r h = subst (λ (s : Sources). UsesStrp (text_sections_of s) s.line r) is.sections h

  pub bad_lines : (r : Option Bool) → UsesStrp texts f.sections.line.now r → r ≢ Some false → (false ≡ true) ↔ Prunable
  bad_lines r h other = (λ e. absurd (false≢true e), λ p. absurd (other (one_use (text_sections_of sources) sources.line r false (uses r h) p.tables)))

  -- ---- and where it is

  pub prunable : (places : List ℕ) (r : Option Bool) (result : Bool) → list_any (is_there_called (name_table bytes) (codes ".debug_macro")) (headers_in bytes) ≡ false
      → slots_in f.sections.offsets.now ≡ Some places → UsesStrp texts f.sections.line.now r → r ≡ Some false
      → ((result ≡ true) ↔ Each (UnitStays (text_sections_of sources) sources.line places) doc.units) → (result ≡ true) ↔ Prunable
  prunable places r result none slots h same stay =
      let there : slots_in sources.offsets ≡ Some places = ap slots_in (sym offsets_are) ∙ slots in (
        λ e. record {
          no_macro = no_section bytes (codes ".debug_macro") none;
          places = places;
          slots = slots_found sources.offsets places there;
          tables = subst (λ (o : Option Bool). UsesStrp (text_sections_of sources) sources.line o) same (uses r h);
          units = stay.0 e;
        },
        λ p. (
            let known : slots_in sources.offsets ≡ Some p.places = slots_again sources.offsets p.places p.slots in
            let one : p.places ≡ places = (let both : Some p.places ≡ Some places = sym known ∙ there in cc) in
            stay.1 (subst (λ (w : List ℕ). Each (UnitStays (text_sections_of sources) sources.line w) doc.units) one p.units)),
      )

-- ---- files, one after the other

-- from the k-th on
pub record FilesLeft (contents : List (List ℕ)) (files : List File) (k : ℕ) (flags : List Bool) : Type 0 where
  pub limits : Limits
  pub end : Limits
  pub docs : List (Doc ℕ)
  pub are : AreRead limits k (drop k contents) (drop k files) end
  pub mean : files_meaning limits k (drop k contents) ≡ Ok docs
  pub on : (rest : List Bool) → ArePrunable (drop k contents) docs rest → ArePrunable contents (docs_of contents) (flags ++ rest)

pub files_begin : (contents : List (List ℕ)) (files : List File) → AreKept contents files → FilesLeft contents files 0 []
files_begin contents files kept = record {
  limits = no_files_before;
  end = kept.end;
  docs = docs_of contents;
  are = kept.are;
  mean = files_read contents files kept.end kept.are;
  on = λ rest h. h;
}

pub mapped_split : {X : Type 0} (f : X → List ℕ) (contents : List (List ℕ)) (xs : List X) (k : ℕ) (x : X) (bytes : List ℕ) → contents ≡ map f xs → k < length xs → x ≡ get_or xs k x → bytes ≡ f x
    → drop k contents ≡ bytes ∷ drop (k + 1) contents
mapped_split f contents xs k x bytes are lt e is =
    ap (drop k) are ∙ drop-map f k xs ∙ ap (map f) (drop_next xs k x lt e) ∙ ap (λ (w : List ℕ). w ∷ map f (drop (k + 1) xs)) (sym is)
    ∙ ap (λ (w : List (List ℕ)). bytes ∷ w) (sym (drop-map f (k + 1) xs) ∙ ap (drop (k + 1)) (sym are))

module _ (contents : List (List ℕ)) (files : List File) (k : ℕ) (flags : List Bool) (left : FilesLeft contents files k flags) where
  module _ (bytes : List ℕ) (f : File) (some : drop k contents ≡ bytes ∷ drop (k + 1) contents) (more : drop k files ≡ f ∷ drop (k + 1) files) where
    are : AreRead left.limits k (bytes ∷ drop (k + 1) contents) (f ∷ drop (k + 1) files) left.end
    are = subst (λ (w : List File). AreRead left.limits k (bytes ∷ drop (k + 1) contents) w left.end) more
        (subst (λ (w : List (List ℕ)). AreRead left.limits k w (drop k files) left.end) some left.are)

    pub file_read : IsRead left.limits k bytes f
    file_read = are.0

    pub files_more : (flag : Bool) → (flag ≡ true) ↔ IsPrunable bytes file_read.doc.units → FilesLeft contents files (k + 1) (flags ++ flag ∷ [])
    files_more flag iff =
        let next = limits_after left.limits bytes (units_of f.units) in
        let at : suc k ≡ k + 1 = omega arith in
        let e = sym (step left.limits k bytes (units_of f.units) file_read.doc (drop (k + 1) contents) file_read.means) ∙ ap (files_meaning left.limits k) (sym some) ∙ left.mean in
        let m = bind_ok (files_meaning next (suc k) (drop (k + 1) contents)) (with_doc file_read.doc) left.docs e in
        let is : file_read.doc ∷ m.0 ≡ left.docs = cc in
        record {
          limits = next;
          end = left.end;
          docs = m.0;
          are = subst (λ (n : ℕ). AreRead next n (drop (k + 1) contents) (drop (k + 1) files) left.end) at are.1;
          mean = ap (λ (n : ℕ). files_meaning next n (drop (k + 1) contents)) (sym at) ∙ m.1;
          on = λ rest h.
              subst (λ (w : List Bool). ArePrunable contents (docs_of contents) w) (sym (append_assoc flags (flag ∷ []) rest))
              (left.on (flag ∷ rest) (subst (λ (w : List (List ℕ)). ArePrunable w left.docs (flag ∷ rest)) (sym some)
              (subst (λ (ds : List (Doc ℕ)). ArePrunable (bytes ∷ drop (k + 1) contents) ds (flag ∷ rest)) is (iff, h))));
        }

  pub files_end : length files ≤ k → AreKept contents files → ArePrunable contents (docs_of contents) flags
  files_end le kept =
      let none : drop k contents ≡ [] = drop_all k contents (omega (arith, le, files_few contents files kept)) in
      let docs : [] ≡ left.docs = no_files left.limits k left.docs (ap (files_meaning left.limits k) (sym none) ∙ left.mean) in
      subst (λ (w : List Bool). ArePrunable contents (docs_of contents) w) (append-nil flags)
      (left.on [] (subst (λ (w : List (List ℕ)). ArePrunable w left.docs []) (sym none) (subst (λ (ds : List (Doc ℕ)). ArePrunable [] ds []) docs tt)))
