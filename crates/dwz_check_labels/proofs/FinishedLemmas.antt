-- What the two files of a graph and their common one say, with numbers and with places.
use Rattle.std.proofs.Common.{◌≡◌, ℕ, suc, ◌+◌, ◌-◌, ◌<◌, ◌^◌, Bool, true, false, cond, ltb, List, [], ◌∷◌, get_or, length, map, Option, Some, None, Result, Ok, Err, refl, sym, ap, subst, ◌∙◌, arith}
use Rattle.std.proofs.lemmas.Bool.{lt-ltb, ltb-true}
use Rattle.dwz_model.specs.declared.fault.Fault.{Fault}
use Rattle.dwz_model.specs.declared.fault.Refusal.{Refusal}
use Rattle.dwz_def_reading.specs.Reading.{◌>>=◌}
use Rattle.dwz_def_reading.specs.Documents.{Doc, unit_map}
use Rattle.dwz_def_reading.specs.Files.{Limits, file_meaning_by, limits_after, no_files_before, refused_in, with_doc}
use Rattle.dwz_def_reading.specs.Finished.{FinishedDocs, GivenCommon, common_read, files_meaning_by, finished_docs, finished_meaning, rule_of_back, rule_of_common}
use Rattle.dwz_def_reading.specs.Lists.{In}
use Rattle.dwz_def_reading.specs.Meanings.{Around, Common, all_places}
use Rattle.dwz_def_reading.specs.Meant.{units_meaning}
use Rattle.dwz_def_reading.specs.OtherPlaces.{place_in, place_numbered}
use Rattle.dwz_def_reading.specs.Places.{Place, at_file}
use Rattle.dwz_def_reading.specs.Rules.{ReadingRule}
use Rattle.dwz_def_reading.specs.Units.{RawUnit, entries_in}
use Rattle.dwz_def_reading.proofs.FileLemmas.{file_agrees_by}
use Rattle.dwz_def_reading.proofs.MeaningUnits.{units_agree}
use Rattle.dwz_def_check.specs.Answer.{beside_common, units_of_common}
use Rattle.dwz_def_check.specs.CrossNames.{CrossName, cross_names_from, cross_tops}
use Rattle.dwz_def_check.specs.CrossNodes.{tops_before}
use Rattle.dwz_graph.specs.declared.file.File.{File}
use Rattle.dwz_graph.specs.ByRule.{AreReadAs, IsReadBy, doc_placed, numbered_rule}
use Rattle.dwz_graph.specs.Files.{AreBack, AreReadFromBy, FilesRead, HasCommon, finished_or_none, said_finished}
use Rattle.dwz_graph.proofs.IndexRoom.{entries_within}
use Rattle.dwz_graph.specs.Parts.{AreParted, HaveLines}
use Rattle.dwz_graph.specs.Surroundings.{AreAmong, behind_own}
use Rattle.dwz_unit.specs.declared.mode.FileKind.{FileKind}
use Rattle.dwz_unit.specs.declared.mode.FileKind.TheVariants.{Common as OfCommon, Back as OfBack}
use Rattle.dwz_unit.specs.Rows.{units_of}
use Rattle.dwz_check_index.specs.Both.{AreCrossIndexes, with_common}
use Rattle.dwz_check_index.specs.declared.both.CrossIndexes.{CrossIndexes}
use Rattle.dwz_check_labels.specs.FilesSaid.{AreFilesSaid, AreLabelsFor, AreNamed, IsFileSaid, IsNamed, around_given, given_by}
use Rattle.dwz_check_labels.specs.Graph.{AreIndexesOf, AreLabelsOf}
use Rattle.dwz_check_labels.proofs.AcrossLemmas.{listed, named_by, named_common, named_new, named_old}
use Rattle.dwz_check_labels.proofs.PlaceLemmas.{named_below}

-- ---- the places that have numbers

module _ (a : Around Place) where
  own_is : (n : ℕ) → n < 2 ^ 32 → place_numbered (2 ^ 32) a n ≡ a.place n
  own_is n lt = let e : ltb n (2 ^ 32) ≡ true = lt-ltb n (2 ^ 32) lt in rw e refl

  behind_is : (n : ℕ) → place_numbered (2 ^ 32) a (behind_own n) ≡ place_in a.place a.common n
  behind_is n = by (ltb (2 ^ 32 + n) (2 ^ 32)) refl where
    by : (b : Bool) → ltb (2 ^ 32 + n) (2 ^ 32) ≡ b → cond b (a.place (2 ^ 32 + n)) (place_in a.place a.common (2 ^ 32 + n - 2 ^ 32)) ≡ place_in a.place a.common n
    by true e = absurd (let lt = ltb-true (2 ^ 32 + n) (2 ^ 32) e in omega (arith, lt))
    by false e = let same : 2 ^ 32 + n - 2 ^ 32 ≡ n = omega arith in ap (place_in a.place a.common) same

-- ---- documents with places

module _ (rule : ℕ → ReadingRule Place) (l : Limits) (x y : List ℕ) (raw more : List RawUnit) (a b : Doc Place) (first : file_meaning_by (rule 0) l x ≡ Ok (raw, a))
    (second : file_meaning_by (rule 1) (limits_after l x raw) y ≡ Ok (more, b)) where
  two_said : files_meaning_by rule l 0 (x ∷ y ∷ []) ≡ Ok (a ∷ b ∷ [])
  unfolding files_meaning_by
  two_said =
      ap (λ (r : Result (List RawUnit × Doc Place) Fault). refused_in 0 r >>= λ z. files_meaning_by rule (limits_after l x z.0) 1 (y ∷ []) >>= with_doc z.1) first
      ∙ ap (λ (r : Result (List RawUnit × Doc Place) Fault). (refused_in 1 r >>= λ z. files_meaning_by rule (limits_after (limits_after l x raw) y z.0) 2 [] >>= with_doc z.1) >>= with_doc a) second

none_finished : (given files : List (List ℕ)) (docs : List (Doc Place)) → files_meaning_by (rule_of_back None) no_files_before 0 files ≡ Ok docs
    → said_finished (record { common = None; given = given; back = files }) ≡ record { common = None; docs = docs }
unfolding said_finished finished_meaning
none_finished given files docs e = ap (λ (r : Result (List (Doc Place)) Refusal). finished_or_none (r >>= finished_docs None)) e

some_finished : (bytes : List ℕ) (given files : List (List ℕ)) (raw : List RawUnit) (doc : Doc Place) (docs : List (Doc Place))
    → file_meaning_by (rule_of_common (length files)) no_files_before bytes ≡ Ok (raw, doc)
    → files_meaning_by (rule_of_back (Some (common_read files bytes raw))) (limits_after no_files_before bytes raw) 0 files ≡ Ok docs
    → said_finished (record { common = Some bytes; given = given; back = files }) ≡ record { common = Some doc; docs = docs }
unfolding said_finished finished_meaning
some_finished bytes given files raw doc docs e f =
    ap (λ (r : Result (List RawUnit × Doc Place) Fault). finished_or_none (refused_in (length files) r
    >>= λ x. files_meaning_by (rule_of_back (Some (common_read files bytes x.0))) (limits_after no_files_before bytes x.0) 0 files >>= finished_docs (Some x.1))) e
    ∙ ap (λ (r : Result (List (Doc Place)) Refusal). finished_or_none (r >>= finished_docs (Some doc))) f

-- ---- all that was read

pub record AllRead (r : FilesRead) (old new : File) (common : Option File) (x : CrossIndexes) : Type 0 where
  pub s : AreFilesSaid old new common x
  pub old_top : s.old_top ≡ 0
  pub new_top : s.new_top ≡ length (cross_tops s.old_said)
  pub common_top : s.common_top ≡ tops_before (with_common s.old_said s.common_said) (with_common s.new_said s.common_said)
  pub fa : ℕ → Place
  pub fb : ℕ → Place
  pub fc : ℕ → Place
  pub first : Doc Place
  pub second : Doc Place
  pub shared : Option (Doc Place)
  pub finished : said_finished r ≡ record { common = shared; docs = first ∷ second ∷ [] }
  pub first_is : first.units ≡ map (unit_map fa) s.old_said
  pub second_is : second.units ≡ map (unit_map fb) s.new_said
  pub shared_is : units_of_common shared ≡ map (unit_map fc) s.common_said
  pub first_behind : (p : ℕ) (y : CrossName) → In (p, y) (cross_names_from 0 s.common_top s.common_said) → fa (behind_own p) ≡ fc p
  pub second_behind : (p : ℕ) (y : CrossName) → In (p, y) (cross_names_from 0 s.common_top s.common_said) → fb (behind_own p) ≡ fc p

pub labels_from : (r : FilesRead) (old new : File) (common : Option File) (x : CrossIndexes) (labels targets : List (List ℕ)) → AllRead r old new common x
    → AreLabelsFor old new common x labels targets
    → AreLabelsOf r labels targets
labels_from r old new common x labels targets k h a b two name old_named new_named =
    let docs : k.first ∷ k.second ∷ [] ≡ a ∷ b ∷ [] = sym (ap (λ (d : FinishedDocs). d.docs) k.finished) ∙ two in
    let one : k.first ≡ a = cc in
    let other : k.second ≡ b = cc in
    let v = beside_common (said_finished r) a in
    let w = beside_common (said_finished r) b in
    let sa = k.s.old_said in
    let sb = k.s.new_said in
    let sc = k.s.common_said in
    let is_a : a.units ≡ map (unit_map k.fa) sa = ap (λ (d : Doc Place). d.units) (sym one) ∙ k.first_is in
    let is_b : b.units ≡ map (unit_map k.fb) sb = ap (λ (d : Doc Place). d.units) (sym other) ∙ k.second_is in
    let is_c : units_of_common (said_finished r).common ≡ map (unit_map k.fc) sc = ap (λ (d : FinishedDocs). units_of_common d.common) k.finished ∙ k.shared_is in
    let of_old = named_by name k.fa sa in
    let of_new = named_by name k.fb sb in
    let of_common = named_by name k.fc sc in
    let in_common : IsNamed k.s.common_top (λ n. n) of_common =
    subst (λ (t : ℕ). IsNamed t (λ n. n) of_common) (sym k.common_top) (named_common k.fa k.fb k.fc name sa sb sc v w is_a is_b is_c refl old_named new_named) in
    let n : AreNamed k.s of_old of_new of_common = record {
      old_said = refl;
      new_said = refl;
      common_said = refl;
      old_own = subst (λ (t : ℕ). IsNamed t (λ n. n) of_old) (sym k.old_top) (named_old k.fa k.fb k.fc name sa sb sc v w is_a is_b is_c refl old_named new_named);
      new_own = subst (λ (t : ℕ). IsNamed t (λ n. n) of_new) (sym k.new_top) (named_new k.fa k.fb k.fc name sa sb sc v w is_a is_b is_c refl old_named new_named);
      common_own = in_common;
      old_common = λ p y there. ap name (k.first_behind p y there) ∙ in_common p y there;
      new_common = λ p y there. ap name (k.second_behind p y there) ∙ in_common p y there;
    } in
    let e = h k.s of_old of_new of_common n in
    listed k.fa k.fb k.fc name sa sb sc v w is_a is_b is_c refl labels targets e.0 e.1

-- ---- a file

file_said : (rule : ReadingRule ℕ) (kind : FileKind) (l : Limits) (number : ℕ) (bytes : List ℕ) (f : File) (r : IsReadBy rule kind l number bytes f) (common : Option (Common ℕ))
    → rule.around bytes (units_of f.units) ≡ around_given f common → IsFileSaid f common r.doc.units
file_said rule kind l number bytes f r common same =
    let raw = units_of f.units in
    let reads = ((file_agrees_by rule l bytes).ok (raw, r.doc)).0 r.means in
    record {
      means = subst (λ (a : Around ℕ). units_meaning a raw ≡ Ok r.doc.units) same (((units_agree (rule.around bytes raw) raw).ok r.doc.units).1 reads.means);
      refs = subst (λ (a : Around ℕ). AreAmong a.common raw f.resolved.refs.items) same r.within;
      parts = subst (λ (a : Around ℕ). AreParted a raw (entries_in raw) f.resolved.refs.items f.resolved.starts.items) same r.parts;
      lines = subst (λ (a : Around ℕ). HaveLines a raw (length raw) f.resolved.tables.items f.resolved.lines.items) same r.lines;
      few = entries_within rule l bytes raw r.doc r.means;
    }

-- ---- both files, without a common one and beside one

abbrev pub CommonPlaced : Type 0
CommonPlaced = (number : ℕ) (l : Limits) (bytes : List ℕ) (raw : List RawUnit) (doc : Doc ℕ) → file_meaning_by (numbered_rule (rule_of_common number)) l bytes ≡ Ok (raw, doc)
    → file_meaning_by (rule_of_common number) l bytes ≡ Ok (raw, doc_placed (rule_of_common number) bytes raw doc)

abbrev pub BackPlaced : Type 0
BackPlaced = (common : Option GivenCommon) (number : ℕ) (l : Limits) (bytes : List ℕ) (raw : List RawUnit) (doc : Doc ℕ)
    → file_meaning_by (numbered_rule (rule_of_back common number)) l bytes ≡ Ok (raw, doc)
    → file_meaning_by (rule_of_back common number) l bytes ≡ Ok (raw, doc_placed (rule_of_back common number) bytes raw doc)

pub none_named : (top p : ℕ) (y : CrossName) → In (p, y) (cross_names_from {P = ℕ} 0 top []) → ⊥
unfolding cross_names_from
none_named top p y h = h

pub none_read : BackPlaced → (given : List (List ℕ)) (x y : List ℕ) (f g : File) (index : CrossIndexes)
    → AreReadFromBy (numbered_rule (rule_of_back None 0)) (OfBack false) no_files_before (x ∷ y ∷ []) (f ∷ g ∷ [])
    → AreIndexesOf (record { common = None; given = given; back = x ∷ y ∷ [] }) index → AllRead (record { common = None; given = given; back = x ∷ y ∷ [] }) f g None index
none_read placed given x y f g index are indexes =
    let a = are.are.0 in
    let b = are.are.1.0 in
    let raw = units_of f.units in
    let more = units_of g.units in
    let l = limits_after no_files_before x raw in
    let rule = numbered_rule (rule_of_back None 0) in
    let i : AreCrossIndexes a.doc.units b.doc.units [] index = indexes a.doc.units b.doc.units [] ((raw, a.doc, a.means, refl, (more, b.doc, b.means, refl)), refl) in
    record {
      s = record {
        old_top = 0;
        new_top = length (cross_tops a.doc.units);
        common_top = tops_before (with_common a.doc.units []) (with_common b.doc.units []);
        old_said = a.doc.units;
        new_said = b.doc.units;
        common_said = [];
        old_is = file_said rule (OfBack false) no_files_before 0 x f a None (λ j. record { sources = sym a.sections j; all = all_places raw; place = λ n. n; common = None });
        new_is = file_said rule (OfBack false) l 1 y g b None (λ j. record { sources = sym b.sections j; all = all_places more; place = λ n. n; common = None });
        common_is = refl;
        old_index = i.old_is;
        new_index = i.new_is;
        common_index = i.common_is;
      };
      old_top = refl;
      new_top = refl;
      common_top = refl;
      fa = place_numbered (2 ^ 32) ((rule_of_back None 0).around x raw);
      fb = place_numbered (2 ^ 32) ((rule_of_back None 1).around y more);
      fc = at_file 0;
      first = doc_placed (rule_of_back None 0) x raw a.doc;
      second = doc_placed (rule_of_back None 1) y more b.doc;
      shared = None;
      finished = none_finished given (x ∷ y ∷ []) _
          (two_said (rule_of_back None) no_files_before x y raw more (doc_placed (rule_of_back None 0) x raw a.doc) (doc_placed (rule_of_back None 1) y more b.doc)
          (placed None 0 no_files_before x raw a.doc a.means) (placed None 1 l y more b.doc b.means));
      first_is = refl;
      second_is = refl;
      shared_is = refl;
      first_behind = λ p z there. absurd (none_named _ p z there);
      second_behind = λ p z there. absurd (none_named _ p z there);
    }

units_in : List RawUnit → Result (List RawUnit × Doc ℕ) Fault → List RawUnit
units_in other (Ok z) = z.0
units_in other (Err e) = other

one_meaning : (r : Result (List RawUnit × Doc ℕ) Fault) (a b : List RawUnit) (s t : Doc ℕ) → r ≡ Ok (a, s) → r ≡ Ok (b, t) → a ≡ b
unfolding units_in
one_meaning r a b s t e f = ap (units_in a) (sym e ∙ f)

pub some_read : CommonPlaced → BackPlaced → (bytes : List ℕ) (given : List (List ℕ)) (x y : List ℕ) (c f g : File) (number : ℕ) (index : CrossIndexes)
    → IsReadBy (numbered_rule (rule_of_common number)) OfCommon no_files_before number bytes c → (units : List RawUnit) (doc : Doc ℕ)
    → file_meaning_by (numbered_rule (rule_of_common 2)) no_files_before bytes ≡ Ok (units, doc)
    → AreReadFromBy (numbered_rule (rule_of_back (Some (common_read (x ∷ y ∷ []) bytes units)) 0)) (OfBack true) (limits_after no_files_before bytes units) (x ∷ y ∷ []) (f ∷ g ∷ [])
    → AreIndexesOf (record { common = Some bytes; given = given; back = x ∷ y ∷ [] }) index → AllRead (record { common = Some bytes; given = given; back = x ∷ y ∷ [] }) f g (Some c) index
some_read common_placed placed bytes given x y c f g number index rc units doc means read indexes =
    let us = units_of c.units in
    let c_means : file_meaning_by (numbered_rule (rule_of_common 2)) no_files_before bytes ≡ Ok (us, rc.doc) = rc.means in
    let same : units ≡ us = one_meaning (file_meaning_by (numbered_rule (rule_of_common 2)) no_files_before bytes) units us doc rc.doc means c_means in
    let are = subst (λ (w : List RawUnit). AreReadFromBy (numbered_rule (rule_of_back (Some (common_read (x ∷ y ∷ []) bytes w)) 0)) (OfBack true) (limits_after no_files_before bytes w) (x ∷ y ∷ [])
    (f ∷ g ∷ [])) same read in
    let a = are.are.0 in
    let b = are.are.1.0 in
    let raw = units_of f.units in
    let more = units_of g.units in
    let before = limits_after no_files_before bytes us in
    let l = limits_after before x raw in
    let o = Some (common_read (x ∷ y ∷ []) bytes us) in
    let rule = numbered_rule (rule_of_back o 0) in
    let i : AreCrossIndexes a.doc.units b.doc.units rc.doc.units index = indexes a.doc.units b.doc.units rc.doc.units
    (us, rc.doc, c_means, refl, (raw, a.doc, a.means, refl, (more, b.doc, b.means, refl))) in
    let top = tops_before (with_common a.doc.units rc.doc.units) (with_common b.doc.units rc.doc.units) in
    let low = named_below (numbered_rule (rule_of_common 2)) no_files_before bytes us rc.doc c_means refl top in
    let ra = (rule_of_back o 0).around x raw in
    let rb = (rule_of_back o 1).around y more in
    let cr = (rule_of_common 2).around bytes us in
    record {
      s = record {
        old_top = 0;
        new_top = length (cross_tops a.doc.units);
        common_top = top;
        old_said = a.doc.units;
        new_said = b.doc.units;
        common_said = rc.doc.units;
        old_is = file_said rule (OfBack true) before 0 x f a (given_by (Some c)) (λ j. record {
          sources = sym a.sections j;
          all = all_places raw;
          place = λ n. n;
          common = Some (record { entries = all_places us; place = behind_own; strs = (sym rc.sections j).strs });
        });
        new_is = file_said rule (OfBack true) l 1 y g b (given_by (Some c)) (λ j. record {
          sources = sym b.sections j;
          all = all_places more;
          place = λ n. n;
          common = Some (record { entries = all_places us; place = behind_own; strs = (sym rc.sections j).strs });
        });
        common_is = file_said (numbered_rule (rule_of_common number)) OfCommon no_files_before number bytes c rc None (λ j. record {
          sources = sym rc.sections j;
          all = all_places us;
          place = λ n. n;
          common = None;
        });
        old_index = i.old_is;
        new_index = i.new_is;
        common_index = i.common_is;
      };
      old_top = refl;
      new_top = refl;
      common_top = refl;
      fa = place_numbered (2 ^ 32) ra;
      fb = place_numbered (2 ^ 32) rb;
      fc = place_numbered (2 ^ 32) cr;
      first = doc_placed (rule_of_back o 0) x raw a.doc;
      second = doc_placed (rule_of_back o 1) y more b.doc;
      shared = Some (doc_placed (rule_of_common 2) bytes us rc.doc);
      finished = some_finished bytes given (x ∷ y ∷ []) us (doc_placed (rule_of_common 2) bytes us rc.doc) _ (common_placed 2 no_files_before bytes us rc.doc c_means)
          (two_said (rule_of_back o) before x y raw more (doc_placed (rule_of_back o 0) x raw a.doc) (doc_placed (rule_of_back o 1) y more b.doc) (placed o 0 before x raw a.doc a.means)
          (placed o 1 l y more b.doc b.means));
      first_is = refl;
      second_is = refl;
      shared_is = refl;
      first_behind = λ p z there. behind_is ra p ∙ sym (own_is cr p (low p z there));
      second_behind = λ p z there. behind_is rb p ∙ sym (own_is cr p (low p z there));
    }

-- ---- all files of a graph

many_read : (Is : Limits → ℕ → List ℕ → File → Type 0) (l : Limits) (n : ℕ) (xs : List (List ℕ)) (fs : List File) (end : Limits) → AreReadAs Is l n xs fs end → length fs ≡ length xs
many_read Is l n [] [] end h = refl
many_read Is l n [] (f ∷ fs) end h = absurd h
many_read Is l n (x ∷ xs) [] end h = absurd h
many_read Is l n (x ∷ xs) (f ∷ fs) end h = ap suc (many_read Is (limits_after l x (units_of f.units)) (suc n) xs fs end h.1)

pub back_many : (common : Option (List ℕ)) (back : List (List ℕ)) (files : List File) → AreBack common back files → length files ≡ length back
back_many None back files h = many_read (IsReadBy (numbered_rule (rule_of_back None 0)) (OfBack false)) no_files_before 0 back files h.end h.are
back_many (Some bytes) back files h =
    many_read (IsReadBy (numbered_rule (rule_of_back (Some (common_read back bytes h.0)) 0)) (OfBack true)) (limits_after no_files_before bytes h.0) 0 back files h.3.end h.3.are

record TwoOf {X : Type 0} (xs : List X) : Type 0 where
  one : X
  other : X
  are : xs ≡ one ∷ other ∷ []

two_of : {X : Type 0} (xs : List X) → length xs ≡ 2 → TwoOf xs
two_of [] e = absurd (omega arith)
two_of (x ∷ []) e = absurd (omega arith)
two_of (x ∷ y ∷ []) e = record { one = x; other = y; are = refl }
two_of (x ∷ y ∷ z ∷ xs) e = absurd (omega arith)

both_read : CommonPlaced → BackPlaced → (number : ℕ) (common : Option (List ℕ)) (given : List (List ℕ)) (x y : List ℕ) (file : Option File) (f g : File) (index : CrossIndexes)
    → HasCommon number common file
    → AreBack common (x ∷ y ∷ []) (f ∷ g ∷ []) → AreIndexesOf (record { common = common; given = given; back = x ∷ y ∷ [] }) index
    → AllRead (record { common = common; given = given; back = x ∷ y ∷ [] }) f g file index
both_read common_placed placed number None given x y None f g index has are indexes = none_read placed given x y f g index are indexes
both_read common_placed placed number None given x y (Some c) f g index has are indexes = absurd has
both_read common_placed placed number (Some bytes) given x y None f g index has are indexes = absurd has
both_read common_placed placed number (Some bytes) given x y (Some c) f g index has are indexes =
    some_read common_placed placed bytes given x y c f g number index has are.0 are.1 are.2 are.3 indexes

pub all_read : CommonPlaced → BackPlaced → (number : ℕ) (r : FilesRead) (file : Option File) (files : List File) (index : CrossIndexes) (old new : File) → length r.back ≡ 2
    → HasCommon number r.common file → AreBack r.common r.back files → AreIndexesOf r index → old ≡ get_or files 0 old → new ≡ get_or files 1 new → AllRead r old new file index
all_read common_placed placed number r file files index old new two has are indexes is_old is_new =
    let p = two_of r.back two in
    let q = two_of files (back_many r.common r.back files are ∙ two) in
    let xs = p.one ∷ p.other ∷ [] in
    let f_is : q.one ≡ old = sym (is_old ∙ ap (λ (w : List File). get_or w 0 old) q.are) in
    let g_is : q.other ≡ new = sym (is_new ∙ ap (λ (w : List File). get_or w 1 new) q.are) in
    let kept = subst (λ (w : List (List ℕ)). AreBack r.common w (q.one ∷ q.other ∷ [])) p.are (subst (λ (w : List File). AreBack r.common r.back w) q.are are) in
    let shown = subst (λ (w : List (List ℕ)). AreIndexesOf (record { common = r.common; given = r.given; back = w }) index) p.are indexes in
    let here = both_read common_placed placed number r.common r.given p.one p.other file q.one q.other index has kept shown in
    subst (λ (w : List (List ℕ)). AllRead (record { common = r.common; given = r.given; back = w }) old new file index) (sym p.are)
    (subst (λ (w : File). AllRead (record { common = r.common; given = r.given; back = xs }) w new file index) f_is
    (subst (λ (w : File). AllRead (record { common = r.common; given = r.given; back = xs }) q.one w file index) g_is here))
