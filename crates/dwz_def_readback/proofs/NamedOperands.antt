-- The operands of files that are read name entries of these, as they are named.
use Rattle.std.proofs.Common.{◌≡◌, ℕ, suc, ◌+◌, ◌≤◌, Bool, true, false, List, [], ◌∷◌, ◌++◌, length, map, refl, sym, ap, subst, ◌∙◌, arith, inl, inr, eq-eqb, ne_eqb}
use Rattle.dwz_def_reading.specs.Base.{Base}
use Rattle.dwz_def_reading.specs.Base.TheVariants.{Unit as FromUnit, Info as FromInfo}
use Rattle.dwz_def_reading.specs.Lists.{Each, In}
use Rattle.dwz_def_reading.specs.Units.{RawUnit}
use Rattle.dwz_def_reading.proofs.ListFacts.{in_cases, in_left, in_map, in_right}
use Rattle.dwz_def_reading.specs.Documents.{Doc, DwUnit, unit_map}
use Rattle.dwz_def_reading.specs.Files.{sources_of}
use Rattle.dwz_def_reading.specs.Meanings.{Sources}
use Rattle.dwz_def_tops.specs.Lists.{Nth}
use Rattle.dwz_def_tops.proofs.MainLemmas.{keys_map}
use Rattle.dwz_def_tops.specs.Spots.{EntryName, FileUnit, in_file, named, named_files, spot_in, spots_from, tops_among}
use Rattle.dwz_def_tops.specs.UnitNames.{name_from}
use Rattle.dwz_def_reading.specs.Places.{at_file}
use Rattle.dwz_def_images.specs.Units.{units_of_file}
use Rattle.dwz_def_images.proofs.StillLemmas.{at_append, at_own}
use Rattle.dwz_def_encoding.specs.Bases.{Bases}
use Rattle.dwz_def_encoding.specs.Carried.{OperandsStand}
use Rattle.dwz_def_encoding.specs.Meant.{OperandIn, Tells, all_entry_keys, entry_keys, own_of}
use Rattle.dwz_def_readback.proofs.OperandLemmas.{Follows, unit_to}
use Rattle.dwz_def_readback.proofs.OriginLemmas.{bases_mapped}
use Rattle.dwz_def_readback.proofs.ReadOperands.{OperandsRead, lists_in, reading}
use Rattle.dwz_def_readback.proofs.WithinLemmas.{entries_append}

entries_mapped : {K L : Type 0} (f : K → L) (u : DwUnit K) (k : K) → In k (entry_keys u) → In (f k) (entry_keys (unit_map f u))
entries_mapped {K} {L} f u k h = subst (λ (w : List L). In (f k) (f u.root.at ∷ w)) (sym (keys_map f u.below)) (in_map f k (entry_keys u) h)

all_mapped : {K L : Type 0} (f : K → L) (units : List (DwUnit K)) (k : K) → In k (all_entry_keys units) → In (f k) (all_entry_keys (map (unit_map f) units))
unfolding all_entry_keys
all_mapped f [] k h = absurd h
all_mapped f (u ∷ units) k h = elim (in_cases k (entry_keys u) (all_entry_keys units) h) [
  | inl a ↦ in_left (f k) (entry_keys (unit_map f u)) (all_entry_keys (map (unit_map f) units)) (entries_mapped f u k a)
  | inr b ↦ in_right (f k) (entry_keys (unit_map f u)) (all_entry_keys (map (unit_map f) units)) (all_mapped f units k b)
]

-- the location lists of a file are told, and the names of its places
pub record IsTold (sources : Sources) (raw : List RawUnit) (names : ℕ → EntryName) (t : Tells EntryName) : Type 0 where
  pub lists : t.lists ≡ sources.lists
  pub named : t.named ≡ lists_in sources raw
  pub name : (unit n : ℕ) → t.name unit n ≡ names n

-- its operands name its entries, as they are named
named_read : (sources : Sources) (raw : List RawUnit) (units : List (DwUnit ℕ)) (f : ℕ → EntryName) (t : Tells EntryName) → IsTold sources raw f t
    → ((k : EntryName) → In k (all_entry_keys (map (unit_map f) units)) → In k t.all)
    → (some : List (DwUnit ℕ)) → Each (OperandsStand (reading sources.lists (lists_in sources raw) (λ n. n) (all_entry_keys units))) some
    → (file : ℕ) (u : FileUnit EntryName) → In u (map (in_file file) (map (unit_map f) some)) → OperandsStand t u.unit
named_read sources raw units f t told into [] read file u there = absurd there
named_read sources raw units f t told into (v ∷ some) read file u (inl e) = subst (λ (w : FileUnit EntryName). OperandsStand t w.unit) e (unit_to f before t v follows go read.0) where
  before : Tells ℕ
  before = reading sources.lists (lists_in sources raw) (λ n. n) (all_entry_keys units)

  follows : Follows f before (own_of v) t (own_of (unit_map f v))
  follows = record { lists = told.lists; named = told.named; name = told.name; at = refl; base = ap (λ (b : Bases). b.lists) (bases_mapped f v) }

  go : (base : Base) (k : ℕ) → OperandIn before (own_of v) base k → OperandIn t (own_of (unit_map f v)) base (f k)
  go FromUnit k is = entries_mapped f v k is
  go FromInfo k is = into (f k) (all_mapped f units k is)
named_read sources raw units f t told into (v ∷ some) read file u (inr r) = named_read sources raw units f t told into some read.1 file u r

block_file : (file : ℕ) (units : List (DwUnit EntryName)) (u : FileUnit EntryName) → In u (map (in_file file) units) → u.file ≡ file
block_file file [] u there = absurd there
block_file file (v ∷ units) u (inl e) = ap (λ (w : FileUnit EntryName). w.file) (sym e)
block_file file (v ∷ units) u (inr r) = block_file file units u r

pub later_file : (own unit top : ℕ) (docs : List (Doc ℕ)) (u : FileUnit EntryName) → In u (named_files own unit top docs) → own ≤ u.file
unfolding named_files
later_file own unit top [] u there = absurd there
later_file own unit top (doc ∷ docs) u there = elim (in_cases u (map (in_file own) (named unit top doc.units)) _ there) [
  | inl a ↦ (let e = block_file own (named unit top doc.units) u a in omega (arith, e))
  | inr b ↦ (let le = later_file (suc own) _ _ docs u b in omega (arith, le))
]

-- so in all files
module _ (input : ℕ → List ℕ) (raw : ℕ → List RawUnit) where
  abbrev pub AllOperandsRead : ℕ → List (Doc ℕ) → Type 0
  AllOperandsRead own docs = (file : ℕ) (doc : Doc ℕ) → Nth own docs file doc → OperandsRead (sources_of (input file)) (raw file) doc.units

  pub files_read : (own unit top : ℕ) (docs : List (Doc ℕ)) → AllOperandsRead own docs → (u : FileUnit EntryName) → In u (named_files own unit top docs)
      → (t : Tells EntryName) → IsTold (sources_of (input u.file)) (raw u.file) (λ n. name_from own unit top docs (at_file u.file n)) t
      → ((k : EntryName) → In k (all_entry_keys (units_of_file u.file (named_files own unit top docs))) → In k t.all) → OperandsStand t u.unit
  unfolding named_files name_from
  files_read own unit top [] read u there t told into = absurd there
  files_read own unit top (doc ∷ docs) read u there t told into =
      let f = spot_in (spots_from unit top doc.units) in
      let block = map (in_file own) (named unit top doc.units) in
      let rest = named_files (suc own) (unit + length doc.units) (top + tops_among doc.units) docs in
      let both = entries_append (units_of_file u.file block) (units_of_file u.file rest) in
      let whole : (k : EntryName) → In k (all_entry_keys (units_of_file u.file block) ++ all_entry_keys (units_of_file u.file rest)) → In k t.all = λ k is.
      into k (subst (λ (w : List (DwUnit EntryName)). In k (all_entry_keys w)) (sym (at_append u.file block rest)) (subst (In k) (sym both) is)) in
      elim (in_cases u block rest there) [
        | inl a ↦
            let file = block_file own (named unit top doc.units) u a in
            let own_units : units_of_file u.file block ≡ named unit top doc.units =
            subst (λ (file : ℕ). units_of_file file block ≡ named unit top doc.units) (sym file) (at_own own (named unit top doc.units)) in
            let names : (place n : ℕ) → t.name place n ≡ f n = λ place n. told.name place n ∙ ap
            (λ (b : Bool). elim b as (λ _. EntryName) [ true ↦ f n | false ↦ name_from (suc own) (unit + length doc.units) (top + tops_among doc.units) docs (at_file u.file n) ])
            (eq-eqb own u.file (sym file)) in
            let is_told : IsTold (sources_of (input own)) (raw own) f t = record {
              lists = told.lists ∙ ap (λ (x : ℕ). (sources_of (input x)).lists) file;
              named = told.named ∙ ap (λ (x : ℕ). lists_in (sources_of (input x)) (raw x)) file;
              name = names;
            } in
            named_read (sources_of (input own)) (raw own) doc.units f t is_told
            (λ k is. whole k (in_left k (all_entry_keys (units_of_file u.file block)) (all_entry_keys (units_of_file u.file rest))
            (subst (λ (w : List (DwUnit EntryName)). In k (all_entry_keys w)) (sym own_units) is)))
            doc.units (read own doc (inl (refl, refl))) own u a
        | inr b ↦
            let later = later_file (suc own) (unit + length doc.units) (top + tops_among doc.units) docs u b in
            let names : (place n : ℕ) → t.name place n ≡ name_from (suc own) (unit + length doc.units) (top + tops_among doc.units) docs (at_file u.file n) = λ place n.
            told.name place n ∙ ap (λ (b : Bool). elim b as (λ _. EntryName) [ true ↦ f n | false ↦ name_from (suc own) (unit + length doc.units) (top + tops_among doc.units) docs (at_file u.file n) ])
            (ne_eqb own u.file (λ e. omega (arith, e, later))) in
            files_read (suc own) (unit + length doc.units) (top + tops_among doc.units) docs (λ file d nth. read file d (inr nth)) u b t
            (record { lists = told.lists; named = told.named; name = names })
            (λ k is. whole k (in_right k (all_entry_keys (units_of_file u.file block)) (all_entry_keys (units_of_file u.file rest)) is))
      ]
