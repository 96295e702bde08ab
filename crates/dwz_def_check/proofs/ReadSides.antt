-- A file that was read, beside a common one or without one, is well read: places tell files apart, and the entries of each.
use Rattle.std.proofs.Common.{◌≡◌, ℕ, suc, ◌+◌, ◌<◌, List, [], ◌∷◌, ◌++◌, length, map, Option, Some, None, refl, sym, ap, subst, ◌∙◌, arith, inl, inr}
use Rattle.std.specs.Prelude.{◌⊎◌}
use Rattle.std.proofs.lemmas.List.{append-nil}
use Rattle.dwz_def_reading.specs.Lists.{In, NoneTwice}
use Rattle.dwz_def_reading.proofs.Members.{in_map_from}
use Rattle.dwz_def_reading.proofs.OnceLemmas.{none_append, none_map}
use Rattle.dwz_def_reading.specs.Documents.{Doc, DwUnit}
use Rattle.dwz_def_reading.specs.Files.{Limits, ReadsBy, debug_abbrev, debug_info, limits_after, no_files_before}
use Rattle.dwz_def_reading.specs.Finished.{FinishedDocs, GivenCommon, ReadAllBy, ReadFinished, common_read, given_by, rule_of_back, rule_of_common}
use Rattle.dwz_def_reading.specs.Meanings.{Common}
use Rattle.dwz_def_reading.specs.Places.{Place, at_file}
use Rattle.dwz_def_reading.specs.Rules.{ReadingRule}
use Rattle.dwz_def_reading.specs.Units.{RawUnit}
use Rattle.dwz_def_reading.proofs.ListFacts.{in_cases, in_left, in_right}
use Rattle.dwz_def_reading.proofs.PlacesRise.{all_raw_keys, rise_none, units_rise}
use Rattle.dwz_def_tops.specs.Seen.{Closed, Seen, all_seen, seen_below, seen_roots}
use Rattle.dwz_def_tops.specs.Shown.{units_keys}
use Rattle.dwz_def_tops.proofs.SeenLemmas.{entry_seen, root_from, root_seen, seen_from}
use Rattle.dwz_def_check.specs.Answer.{beside_common}
use Rattle.dwz_def_check.specs.CrossNames.{IsWellRead}
use Rattle.dwz_def_check.proofs.UnitNumbers.{keys_join}
use Rattle.dwz_def_check.proofs.ReadRefs.{NamedOf, StandsAt, all_partial, means_keys, place_stands, read_mains, refs_named}

-- ---- units of two lists

seen_more : {P : Type 0} (us vs : List (DwUnit P)) → ((u : DwUnit P) → In u us → In u vs) → (d : Seen P) → In d (all_seen us) → In d (all_seen vs)
seen_more {P} us vs more d is = elim (in_cases d (seen_roots us) (seen_below us) is) [
  | inl a ↦ (let o = root_from us d a in subst (λ (w : Seen P). In w (all_seen vs)) o.is (root_seen vs o.unit (more o.unit o.there)))
  | inr b ↦ (let o = seen_from us d b in entry_seen vs o.unit d (more o.unit o.there) o.is)
]

seen_split : {P : Type 0} (us vs : List (DwUnit P)) (d : Seen P) → In d (all_seen (us ++ vs)) → In d (all_seen us) ⊎ In d (all_seen vs)
seen_split {P} us vs d is = elim (in_cases d (seen_roots (us ++ vs)) (seen_below (us ++ vs)) is) [
  | inl a ↦ (let o = root_from (us ++ vs) d a in elim (in_cases o.unit us vs o.there) [
    | inl x ↦ inl (subst (λ (w : Seen P). In w (all_seen us)) o.is (root_seen us o.unit x))
    | inr y ↦ inr (subst (λ (w : Seen P). In w (all_seen vs)) o.is (root_seen vs o.unit y))
  ])
  | inr b ↦ (let o = seen_from (us ++ vs) d b in elim (in_cases o.unit us vs o.there) [
    | inl x ↦ inl (entry_seen us o.unit d x o.is)
    | inr y ↦ inr (entry_seen vs o.unit d y o.is)
  ])
]

-- ---- one file

pub record FileKeys (number : ℕ) (units : List (DwUnit Place)) : Type 0 where
  pub once : NoneTwice (units_keys units)
  pub file : (p : Place) → In p (units_keys units) → p.file ≡ number

module _ (rule : ReadingRule Place) (number : ℕ) (l : Limits) (bytes : List ℕ) (raw : List RawUnit) (doc : Doc Place) (place : (rule.around bytes raw).place ≡ at_file number) (reads : ReadsBy rule l bytes raw doc) where
  keys_are : units_keys doc.units ≡ map (at_file number) (all_raw_keys raw)
  keys_are = means_keys (rule.around bytes raw) raw doc.units reads.means ∙ ap (λ (g : ℕ → Place). map g (all_raw_keys raw)) place

  file_keys : FileKeys number doc.units
  file_keys =
      let rise = units_rise (debug_abbrev bytes) (rule.mode l.entries) 0 raw 0 (debug_info bytes) reads.spelled in
      record {
        once = subst NoneTwice (sym keys_are)
            (none_map (at_file number) (λ a b e. ap (λ (p : Place). p.at) e) (all_raw_keys raw) (rise_none 0 (all_raw_keys raw) (0 + length (debug_info bytes)) rise));
        file = λ p is. (let o = in_map_from (at_file number) p (all_raw_keys raw) (subst (λ (w : List Place). In p w) keys_are is) in sym (ap (λ (q : Place). q.file) o.is));
      }

-- ---- several files

pub record ReadAs (rule : ℕ → ReadingRule Place) (number count : ℕ) (doc : Doc Place) : Type 0 where
  pub own : ℕ
  pub limits : Limits
  pub bytes : List ℕ
  pub raw : List RawUnit
  pub reads : ReadsBy (rule own) limits bytes raw doc
  pub below : own < number + count

read_as : (rule : ℕ → ReadingRule Place) (l : Limits) (number : ℕ) (files : List (List ℕ)) (docs : List (Doc Place)) → ReadAllBy rule l number files docs → (doc : Doc Place) → In doc docs
    → ReadAs rule number (length files) doc
read_as rule l number [] [] h doc is = absurd is
read_as rule l number (bytes ∷ files) (d ∷ docs) h doc (inl e) =
    record { own = number; limits = l; bytes = bytes; raw = h.0; reads = subst (λ (w : Doc Place). ReadsBy (rule number) l bytes h.0 w) e h.1; below = omega arith }
read_as rule l number (bytes ∷ files) (d ∷ docs) h doc (inr r) =
    let o = read_as rule (limits_after l bytes h.0) (suc number) files docs h.2 doc r in
    let low = o.below in
    record { own = o.own; limits = o.limits; bytes = o.bytes; raw = o.raw; reads = o.reads; below = omega arith }
read_as rule l number _ _ h doc is = absurd h

-- ---- without a common file

by_itself : (doc : Doc Place) (files : ℕ) → ReadAs (rule_of_back None) 0 files doc → IsWellRead (record { own = doc.units; common = [] })
by_itself doc files o =
    let keys = file_keys (rule_of_back None o.own) o.own o.limits o.bytes o.raw doc refl o.reads in
    let whole = sym (append-nil doc.units) in
    let closed : Closed doc.units = λ e a p is attr r. elim (refs_named ((rule_of_back None o.own).around o.bytes o.raw) o.raw doc.units o.reads.means refl e a p is attr r) [
      | inl d ↦ d
      | inr c ↦ absurd (let none = c.2 in cc)
    ] in
    record {
      apart = subst (λ (us : List (DwUnit Place)). NoneTwice (units_keys us)) whole keys.once;
      closed = subst (λ (us : List (DwUnit Place)). Closed us) whole closed;
      mains = read_mains ((rule_of_back None o.own).around o.bytes o.raw) o.raw doc.units o.reads.means;
      partial = λ u is. absurd is;
    }

-- ---- beside a common file

module _ (number : ℕ) (l : Limits) (bytes : List ℕ) (raw : List RawUnit) (common doc : Doc Place) (reads : ReadsBy (rule_of_common number) l bytes raw common)
    (o : ReadAs (rule_of_back (Some (record { number = number; bytes = bytes; units = raw }))) 0 number doc) where
  abbrev given : GivenCommon
  given = record { number = number; bytes = bytes; units = raw }

  common_keys : FileKeys number common.units
  common_keys = file_keys (rule_of_common number) number l bytes raw common refl reads

  own_keys : FileKeys o.own doc.units
  own_keys = file_keys (rule_of_back (Some given) o.own) o.own o.limits o.bytes o.raw doc refl o.reads

  apart : NoneTwice (units_keys (doc.units ++ common.units))
  apart = subst NoneTwice (sym (keys_join doc.units common.units))
      (none_append (units_keys doc.units) (units_keys common.units) own_keys.once common_keys.once
      (λ p a b. (let x = own_keys.file p a in let y = common_keys.file p b in let low = o.below in absurd (omega arith))))

  to_own : (d : Seen Place) → In d (all_seen doc.units) → In d (all_seen (doc.units ++ common.units))
  to_own d is = seen_more doc.units (doc.units ++ common.units) (λ u h. in_left u doc.units common.units h) d is

  to_common : (d : Seen Place) → In d (all_seen common.units) → In d (all_seen (doc.units ++ common.units))
  to_common d is = seen_more common.units (doc.units ++ common.units) (λ u h. in_right u doc.units common.units h) d is

  from_own : (p : Place) → StandsAt doc.units p → StandsAt (doc.units ++ common.units) p
  from_own p d = (d.0, to_own d.0 d.1, d.2)

  from_common : (p : Place) → StandsAt common.units p → StandsAt (doc.units ++ common.units) p
  from_common p d = (d.0, to_common d.0 d.1, d.2)

  own_named : (p : Place) → NamedOf ((rule_of_back (Some given) o.own).around o.bytes o.raw) doc.units p → StandsAt (doc.units ++ common.units) p
  own_named p (inl d) = from_own p d
  own_named p (inr (c, n, e, is, at)) =
      let same : given_by number bytes raw ≡ c = cc in
      let d = place_stands ((rule_of_common number).around bytes raw) raw common.units reads.means n (subst (λ (w : Common Place). In n w.entries) (sym same) is) in
      let there : at_file number n ≡ p = ap (λ (w : Common Place). w.place n) same ∙ at in
      subst (λ (q : Place). StandsAt (doc.units ++ common.units) q) there (from_common (at_file number n) d)

  common_named : (p : Place) → NamedOf ((rule_of_common number).around bytes raw) common.units p → StandsAt (doc.units ++ common.units) p
  common_named p (inl d) = from_common p d
  common_named p (inr (c, n, e, is, at)) = absurd cc

  closed : Closed (doc.units ++ common.units)
  closed = λ e a p is attr r. elim (seen_split doc.units common.units e is) [
    | inl x ↦ own_named p (refs_named ((rule_of_back (Some given) o.own).around o.bytes o.raw) o.raw doc.units o.reads.means refl e a p x attr r)
    | inr y ↦ common_named p (refs_named ((rule_of_common number).around bytes raw) raw common.units reads.means refl e a p y attr r)
  ]

  beside_other : IsWellRead (record { own = doc.units; common = common.units })
  beside_other = record {
    apart = apart;
    closed = closed;
    mains = read_mains ((rule_of_back (Some given) o.own).around o.bytes o.raw) o.raw doc.units o.reads.means;
    partial = all_partial ((rule_of_common number).around bytes raw) raw common.units (debug_abbrev bytes) ((rule_of_common number).mode l.entries) (debug_info bytes) refl reads.spelled reads.means;
  }

pub well_read : (common : Option (List ℕ)) (files : List (List ℕ)) (said : FinishedDocs) → ReadFinished common files said → (doc : Doc Place) → In doc said.docs → IsWellRead (beside_common said doc)
well_read None files said h doc is =
    subst (λ (o : Option (Doc Place)). IsWellRead (beside_common (record { common = o; docs = said.docs }) doc)) (sym h.0)
    (by_itself doc (length files) (read_as (rule_of_back None) no_files_before 0 files said.docs h.1 doc is))
well_read (Some bytes) files said h doc is =
    subst (λ (o : Option (Doc Place)). IsWellRead (beside_common (record { common = o; docs = said.docs }) doc)) (sym h.2)
    (beside_other (length files) no_files_before bytes h.0 h.1 doc h.3
    (read_as (rule_of_back (Some (common_read files bytes h.0))) (limits_after no_files_before bytes h.0) 0 files said.docs h.4 doc is))
