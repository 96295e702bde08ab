-- What is kept of one file, as its passes take it; and that one of which each value can be copied isn't refused.
use Rattle.std.proofs.Common.{◌≡◌, ◌∙◌, ℕ, suc, List, [], ◌∷◌, length, Option, Some, None, Result, Ok, Err, refl, sym, ap, subst, arith, inl, inr}
use Rattle.std.proofs.lemmas.List.{length-map}
use Rattle.dwz_model.specs.declared.fault.Fault.{Fault}
use Rattle.dwz_model.specs.declared.fault.ReadErr.{ReadErr}
use Rattle.dwz_model.specs.declared.fault.ReadErr.TheVariants.{Refused as RefusedFor}
use Rattle.dwz_model.specs.declared.fault.Refusal.{Refusal}
use Rattle.std.specs.Option.{option_map}
use Rattle.dwz_def_reading.specs.Documents.{Doc}
use Rattle.dwz_def_reading.specs.Files.{Limits, file_meaning_by, no_files_before}
use Rattle.dwz_def_reading.specs.Finished.{rule_of_common}
use Rattle.dwz_def_reading.specs.Units.{RawUnit}
use Rattle.dwz_def_reading.proofs.FileLemmas.{file_agrees_by}
use Rattle.dwz_graph.specs.ByRule.{doc_placed, numbered_rule}
use Rattle.dwz_unit.specs.Rows.{units_of}
use Rattle.dwz_expand_passes.specs.declared.files.SourceFile.{SourceFile}
use Rattle.dwz_def_output.specs.Refusals.{InFile}
use Rattle.dwz_def_reading.specs.Documents.{DwUnit, unit_map}
use Rattle.dwz_def_reading.specs.FirstOf.{OfFirst}
use Rattle.dwz_def_reading.specs.Places.{Place}
use Rattle.dwz_def_cross.specs.Tops.{WithCommon, whole_units}
use Rattle.dwz_def_expand.specs.Chosen.{Choice}
use Rattle.dwz_def_expand.specs.OneFile.{CommonReads, FileRead, OneFile, said_by_file, same_place}
use Rattle.dwz_def_expand.specs.Output.{wholes}
use Rattle.dwz_def_expand.specs.Refusals.{Site, SiteFault, Where, sites}
use Rattle.dwz_def_expand.specs.Source.{source_places}
use Rattle.dwz_graph.specs.declared.file.File.{File}
use Rattle.dwz_graph.specs.Files.{FilesRead, HasCommon}
use Rattle.dwz_graph.specs.Resolved.{sources_view}
use Rattle.dwz_expand_sources.specs.Imports.{same}
use Rattle.dwz_expand_layout.specs.Entries.{UnitLines}
use Rattle.dwz_expand_layout.specs.Laid.{Made, laid}
use Rattle.dwz_expand_layout.specs.Shown.{keys_of}
use Rattle.dwz_expand_sources.specs.declared.sources.NewUnit.{NewUnit}
use Rattle.dwz_expand_sources.specs.Sources.{AreSources, Sources, all_entries}
use Rattle.dwz_expand_passes.specs.Faults.{KnowsBoth, count_in, file_number}
use Rattle.dwz_expand_passes.proofs.SourceMaps.{whole_mapped}
use Rattle.dwz_expand_passes.specs.Renamed.{copy_map, renamed}
use Rattle.dwz_expand.specs.Refused.{FaultLaw, NumbersLaw}
use Rattle.dwz_expand_passes.specs.CopiesOf.{HaveCopies}
use Rattle.dwz_expand_passes.specs.Numbered.{key_in}
use Rattle.dwz_expand_passes.specs.OfFile.{FileLaw}
use Rattle.dwz_expand_passes.specs.declared.new_file.NewFile.{NewFile}
use Rattle.dwz_expand_passes.specs.Passes.{AreNew, IsRefused, RefusesFile, Says, forms_in}
use Rattle.dwz_expand.specs.declared.files.SourceFiles.{SourceFiles}
use Rattle.dwz_expand.specs.OneKnown.{HasUnits, IsOneKnown, KeysLaw, stands_of}
use Rattle.dwz_expand.specs.OneKnown.{AreSourceFiles, IsCommonOf}
use Rattle.dwz_expand.specs.Units.{CanBeCopied, HasRaw, IsLaidOf, IsOfOne}

-- ---- the stored units of the common file

-- what they say with places is what they say where numbers stand for these
abbrev pub CommonPlaced : Type 0
CommonPlaced =
    (number : ℕ) (l : Limits) (bytes : List ℕ) (raw : List RawUnit) (doc : Doc ℕ) → file_meaning_by (numbered_rule (rule_of_common number)) l bytes ≡ Ok (raw, doc)
    → file_meaning_by (rule_of_common number) l bytes ≡ Ok (raw, doc_placed (rule_of_common number) bytes raw doc)

one_raw : (m : Result (List RawUnit × Doc Place) Fault) (raw other : List RawUnit) (doc said : Doc Place) → m ≡ Ok (raw, doc) → m ≡ Ok (other, said) → raw ≡ other
one_raw m raw other doc said e h =
    let p : List RawUnit × Doc Place = (raw, doc) in
    let q : List RawUnit × Doc Place = (other, said) in
    let both : p ≡ q = cc in
    (λ i. (both i).0)

common_same : CommonPlaced → (bytes : List ℕ) (f : File) (c : FileRead) (doc : Doc ℕ) → file_meaning_by (numbered_rule (rule_of_common 1)) no_files_before bytes ≡ Ok (units_of f.units, doc)
    → bytes ≡ c.bytes → CommonReads (Some c) → c.raw ≡ units_of f.units
common_same placed bytes f c doc means same reads =
    let mine = placed 1 no_files_before bytes (units_of f.units) doc means in
    let own : file_meaning_by (rule_of_common 1) no_files_before c.bytes ≡ Ok (c.raw, c.doc) = ((file_agrees_by (rule_of_common 1) no_files_before c.bytes).ok (c.raw, c.doc)).1 reads in
    let there : file_meaning_by (rule_of_common 1) no_files_before bytes ≡ Ok (c.raw, c.doc) = ap (λ (b : List ℕ). file_meaning_by (rule_of_common 1) no_files_before b) same ∙ own in
    one_raw (file_meaning_by (rule_of_common 1) no_files_before bytes) c.raw (units_of f.units) c.doc (doc_placed (rule_of_common 1) bytes (units_of f.units) doc) there mine

pub common_kept : CommonPlaced → (number : ℕ) (o : Option (List ℕ)) (common : Option File) (c : Option FileRead) (s : Option SourceFile) → HasCommon number o common
    → o ≡ option_map (λ x. x.bytes) c → CommonReads c → IsCommonOf common s → HasRaw c s
common_kept placed number None None None None has same reads are = tt
common_kept placed number None None None (Some s) has same reads are = absurd are
common_kept placed number None None (Some c) s has same reads are = absurd (let z : None ≡ Some c.bytes = same in cc)
common_kept placed number None (Some f) c s has same reads are = absurd has
common_kept placed number (Some bytes) None c s has same reads are = absurd has
common_kept placed number (Some bytes) (Some f) None s has same reads are = absurd (let z : Some bytes ≡ None = same in cc)
common_kept placed number (Some bytes) (Some f) (Some c) None has same reads are = absurd are
common_kept placed number (Some bytes) (Some f) (Some c) (Some s) has same reads are =
    let e : bytes ≡ c.bytes = (let z : Some bytes ≡ Some c.bytes = same in cc) in
    common_same placed bytes f c has.doc has.means e reads ∙ sym (ap (λ (u : _). units_of u) are.units)

-- ---- what is kept of it

abbrev pub files_in : NewFile → SourceFiles
files_in x = record { own = x.own; common = x.common }

pub of_one : KeysLaw → CommonPlaced → (r : FilesRead) (number : ℕ) (own : File) (common : Option File) (x : NewFile) (k : IsOneKnown r own common (files_in x)) → AreSources k.w x.sources.now
    → HasUnits (files_in x) x.sources.now
    → length (all_entries k.w) ≡ count_in x.own x.common → HasCommon number r.common common → AreSourceFiles own common (files_in x) → IsOfOne k.f x
of_one law placed r number own common x k are units all has kept =
    let both : KnowsBoth x.own x.common k.w (keys_of (key_in k.w)) (stands_of k.f k.place) = k.knows (keys_of (key_in k.w)) (law k.w) in
    record {
      reads = k.reads;
      own_raw = k.raw ∙ sym (ap (λ (u : _). units_of u) kept.own_is.units);
      common_raw = common_kept placed number r.common common k.f.common x.common has k.common k.reads.common kept.common_is;
      ready = record {
        own = k.ready.own;
        refs = k.ready.refs;
        common = k.ready.common;
        few = k.ready.few;
        planned = record { w = k.w; are = are; many = all; units = k.many };
        few_copies = units.few;
      };
      w = k.w;
      place = k.place;
      stand = k.stand;
      apart = k.apart;
      files = k.files;
      says = record { own = both.own_says; own_stands = both.own_stands; common = both.common_says; apart = both.apart; are = are };
    }

-- ---- refusals

pub some_refusal : (Has : Site ℕ → Fault → Type 0) (number : ℕ → ℕ) (ss : List (Site ℕ)) (f : Fault) → OfFirst Has ss f
    → (q : Refusal) × OfFirst (λ s. InFile (λ file. Has s) (number s.source)) ss q
some_refusal Has number [] f h = absurd h
some_refusal Has number (s ∷ ss) f (inl h) = (record { file = number s.source; section = f.section; at = f.at; reason = f.reason }, inl (f, h, refl))
some_refusal Has number (s ∷ ss) f (inr h) = let later = some_refusal Has number ss f h.1 in (later.0, inr ((λ q g. h.0 g.0 g.1), later.1))

pub refused_so : {Y : Type 0} (x : NewFile) (answer : Result Y ReadErr) (e : ReadErr) (f : Fault) → answer ≡ Err e → e ≡ RefusedFor f → IsRefused x answer → (w : WithCommon ℕ) (stands : Where ℕ)
    → Says x w stands
    → RefusesFile x w stands f
refused_so {Y} x answer e f is so h = subst (λ (d : ReadErr). IsRefused {Y = Y} x (Err d)) so (subst (λ (a : Result Y ReadErr). IsRefused x a) is h)

pub never : FaultLaw → NumbersLaw → (f : OneFile) (x : NewFile) (k : IsOfOne f x) → CanBeCopied f → (fault : Fault) → ¬ RefusesFile x k.w (stands_of f k.place) fault
never faults numbers f x k free fault h =
    let forms = forms_in x k.w in
    let number : ℕ → ℕ = λ p. file_number (forms.role p) in
    let one = some_refusal (SiteFault same (source_places same k.w) forms (stands_of f k.place)) number (sites same k.w) fault h in
    free one.0 ((faults f k.place same forms (stands_of f k.place) number k.w k.stand (numbers k.place k.w (sources_view x.own.sections.now) k.files k.says.apart) one.0).0 one.1)

-- ---- new units

have_many : (w : WithCommon ℕ) (s : Sources) (c : Choice ℕ) (n : ℕ) (xs : List NewUnit) (us : List (DwUnit ℕ)) (order : List UnitLines) → HaveCopies w s c n xs us order → length order ≡ length us
have_many w s c n [] [] [] h = refl
have_many w s c n [] [] (o ∷ order) h = absurd h
have_many w s c n [] (u ∷ us) order h = absurd h
have_many w s c n (x ∷ xs) [] order h = absurd h
have_many w s c n (x ∷ xs) (u ∷ us) [] h = absurd h
have_many w s c n (x ∷ xs) (u ∷ us) (o ∷ order) h = (let rest = have_many w s c (suc n) xs us order h.1 in omega (arith, rest))

pub wholes_many : (f : OneFile) (w : WithCommon ℕ) (place : ℕ → Place) → ((p q : ℕ) → same_place (place p) (place q) ≡ same p q) → said_by_file f ≡ renamed place w
    → length (wholes f) ≡ length (whole_units w.own)
wholes_many f w place alike said =
    ap (λ (v : WithCommon Place). length (whole_units v.own)) said ∙ ap (λ (us : List (DwUnit Place)). length us) (whole_mapped place same same_place alike w.own)
    ∙ length-map (whole_units w.own) (unit_map place)

pub laid_of : FileLaw → (f : OneFile) (x : NewFile) (k : IsOfOne f x) (made : Made) → (order : List UnitLines) × (made ≡ laid order) × AreNew x order → IsLaidOf f x made
laid_of law f x k made h = record {
  order = h.0;
  is = h.1;
  new = h.2;
  many =
      have_many k.w x.sources.now (forms_in x k.w) 0 x.sources.now.units (whole_units k.w.own) h.0 (h.2.copies k.w (stands_of f k.place) k.says)
      ∙ sym (wholes_many f k.w k.place k.stand.alike k.stand.said);
  key = λ i. copy_map k.place (key_in k.w i);
  file = law f k.w k.place (forms_in x k.w) x.sources.now h.0 k.stand.said k.apart k.stand.choice k.says.are k.says.apart (h.2.copies k.w (stands_of f k.place) k.says);
}
