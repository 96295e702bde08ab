-- Where `clap` stands after an argument: the argument is used, or it is the one that is pending, and no fault is named.
use Rattle.std.proofs.Common.{◌≡◌, ◌⊎◌, ◌<◌, ◌≤◌, ◌+◌, ◌^◌, ◌∷◌, [], ◌++◌, refl, sym, ap, subst, inl, inr, ℕ, Bool, true, false, List, Option, Some, None, codes, arith, length, not}
use Rattle.std.specs.Prelude.{if◌then◌else◌}
use Rattle.std.specs.Str.{bytes_eq}
use Rattle.std.specs.Option.{option_map_or}
use Rattle.std.proofs.Common.{append_assoc}
use Rattle.std.proofs.lemmas.Bool.{le-ltb}
use Rattle.std.proofs.lemmas.List.{length-append}
use Rattle.clap.specs.Words.{Row, Text}
use Rattle.clap.specs.Kinds.{values_kinds}
use Rattle.clap.specs.Walk.{Waiting, Walk, idle, option, positional, used, has_row, is_pending, with_values, more_values, stronger, values_or_missing}
use Rattle.clap.specs.Faults.{settle_fault, use_fault}
use Rattle.clap.specs.declared.builder.value_parser.Reading.TheVariants as reading
use Rattle.clap.specs.declared.builder.value_parser.ValueParser.TheVariants as vp
use Rattle.clap.specs.declared.parser.matches.ValueSource.{ValueSource}
use Rattle.clap.specs.declared.parser.matches.ValueSource.TheVariants.{CommandLine, DefaultValue}
use Rattle.clap.proofs.OnLiterals.{clap_on_literals}
use Rattle.dwz_words.specs.Command.{file_rule}
use Rattle.dwz_words.specs.Plain.{Argument, file, option_name, words_of}
use Rattle.dwz_words.proofs.PlainWalk.{IsNoFlag, Leads, Pending, between, built_rule, full_rows, held, is_ready, leads_by, row_after, rules}

-- ---- where the walk stands

-- FILEs are pending, or something else
abbrev pub FilesOrNot : Pending → Type 0
FilesOrNot pending = (is_pending (built_rule file_rule) pending ≡ false) ⊎ ((vs : List Text) × (pending ≡ Some (codes "FILE", vs)))

abbrev pub pending_count : Pending → ℕ
pending_count None = 0
pending_count (Some p) = length p.1

-- the walk stands between two arguments, and at most n values are pending
pub record Stands (n : ℕ) (rows : List Row) (pending : Pending) (waiting : Waiting) : Type 0 where
  pub ready : is_ready waiting ≡ true
  pub settles : settle_fault rules false (held rows pending) ≡ []
  pub kind : FilesOrNot pending
  pub count : pending_count pending ≤ n

-- an argument leads to such a state
pub record Reaches (n : ℕ) (p : Argument) (before : List Row) (from : Walk) : Type 0 where
  pub rows : List Row
  pub pending : Pending
  pub waiting : Waiting
  pub leads : Leads from (words_of p) (between rows pending waiting)
  pub stands : Stands n rows pending waiting
  pub full_is : full_rows rows pending ≡ row_after p before

-- an option that has no row yet, or a FILE
abbrev pub is_new : Argument → List Row → Bool
is_new p rows = option_map_or (λ k. not (has_row k rows)) (option_name p) true

-- ---- flags and options

module _ (n : ℕ) (rows : List Row) (pending : Pending) where
  pub after_flag : (p : Argument) (waiting : Waiting)
      → Leads (between rows pending waiting) (words_of p) (between (row_after p (full_rows rows pending)) None idle)
      → Reaches (n + 1) p (full_rows rows pending) (between rows pending waiting)
  after_flag p waiting leads = record {
    rows = row_after p (full_rows rows pending);
    pending = None;
    waiting = idle;
    leads = leads;
    stands = record { ready = refl; settles = refl; kind = inl refl; count = omega arith };
    full_is = refl;
  }

  pub after_option : (p : Argument) (id text : Text) (waiting : Waiting)
      → Leads (between rows pending waiting) (words_of p) (between (full_rows rows pending) (Some (id, text ∷ [])) idle)
      → settle_fault rules false (held (full_rows rows pending) (Some (id, text ∷ []))) ≡ []
      → is_pending (built_rule file_rule) (Some (id, text ∷ [])) ≡ false
      → full_rows (full_rows rows pending) (Some (id, text ∷ [])) ≡ row_after p (full_rows rows pending)
      → Reaches (n + 1) p (full_rows rows pending) (between rows pending waiting)
  after_option p id text waiting leads settles kind full_is = record {
    rows = full_rows rows pending;
    pending = Some (id, text ∷ []);
    waiting = idle;
    leads = leads;
    stands = record { ready = refl; settles = settles; kind = inl kind; count = omega arith };
    full_is = full_is;
  }

-- ---- FILE

-- FILEs are texts, and may be as many as a slice can have
strings_pass : (vs : List Text) → values_kinds false vp.String vs ≡ []
strings_pass [] = refl
strings_pass (v ∷ vs) = strings_pass vs

files_pass : (vs : List Text) (rows : List Row) → length vs < 2 ^ 64 → use_fault false (built_rule file_rule) vs rows ≡ []
files_pass [] rows few = refl
files_pass (v ∷ vs) rows few =
    let not_none = le-ltb (length (v ∷ vs)) 0 (omega arith) in
    let not_many = le-ltb 18446744073709551615 (length (v ∷ vs)) (omega arith) in
    rw (not_none, not_many, strings_pass vs) refl

-- FILEs that are used at once, and one by one
from_words : (o : Option ValueSource) → stronger o CommandLine ≡ CommandLine
from_words None = refl
from_words (Some CommandLine) = refl
from_words (Some DefaultValue) = refl

joined_row : (vs : List Text) (v : Text) (r : Row) → more_values CommandLine (vs ++ v ∷ []) r
    ≡ more_values CommandLine (v ∷ []) (record r { values = r.values ++ vs; source = Some (stronger r.source CommandLine) })
joined_row vs v r = rw (from_words r.source, append_assoc) refl

joined_rows : (vs : List Text) (v : Text) (rows : List Row) → with_values (codes "FILE") reading.AsWritten CommandLine (vs ++ v ∷ []) rows
    ≡ with_values (codes "FILE") reading.AsWritten CommandLine (v ∷ []) (with_values (codes "FILE") reading.AsWritten CommandLine vs rows)
joined_rows vs v [] = refl
joined_rows vs v (r ∷ rs) = go (bytes_eq r.id (codes "FILE")) refl (joined_rows vs v rs)
  where
    go : (b : Bool) → bytes_eq r.id (codes "FILE") ≡ b
        → with_values (codes "FILE") reading.AsWritten CommandLine (vs ++ v ∷ []) rs
        ≡ with_values (codes "FILE") reading.AsWritten CommandLine (v ∷ []) (with_values (codes "FILE") reading.AsWritten CommandLine vs rs)
        → (if b then more_values CommandLine (vs ++ v ∷ []) r ++ rs else (r ∷ with_values (codes "FILE") reading.AsWritten CommandLine (vs ++ v ∷ []) rs))
        ≡ with_values (codes "FILE") reading.AsWritten CommandLine (v ∷ [])
        (if b then more_values CommandLine vs r ++ rs else (r ∷ with_values (codes "FILE") reading.AsWritten CommandLine vs rs))
    go true e rest = rw e (ap (λ (l : List Row). l ++ rs) (joined_row vs v r))
    go false e rest = rw e (ap (λ (l : List Row). r ∷ l) rest)

values_as_given : (vs : List Text) → values_or_missing (built_rule file_rule) vs ≡ vs
values_as_given [] = refl
values_as_given (v ∷ vs) = refl

-- one more FILE joins those that are pending
files_join : (vs : List Text) (v : Text) (rows : List Row)
    → used (built_rule file_rule) (vs ++ v ∷ []) rows ≡ row_after (file v) (used (built_rule file_rule) vs rows)
files_join vs v rows = rw (values_as_given (vs ++ v ∷ []), values_as_given vs) (joined_rows vs v rows)

module _ (n : ℕ) (rows : List Row) (pending : Pending) (settles : settle_fault rules false (held rows pending) ≡ []) (text : Text) (v : IsNoFlag text) where
  file_leads : (waiting : Waiting) → is_ready waiting ≡ true → is_pending (built_rule file_rule) pending ≡ false
      → Leads (between rows pending waiting) (text ∷ []) (between (full_rows rows pending) (Some (codes "FILE", text ∷ [])) positional)
  unfolding clap_on_literals
  file_leads idle e kind = leads_by _ _ text (rw (v.no_dashes, v.no_long, v.no_short, kind, settles) refl) (rw (v.no_dashes, v.no_long, v.no_short, kind) refl)
  file_leads positional e kind = leads_by _ _ text (rw (v.no_dashes, v.no_long, v.no_short, kind, settles) refl) (rw (v.no_dashes, v.no_long, v.no_short, kind) refl)
  file_leads (option id) e kind = cc

module _ (n : ℕ) (rows : List Row) (vs : List Text) (text : Text) (v : IsNoFlag text) where
  more_files_lead : (waiting : Waiting) → is_ready waiting ≡ true
      → Leads (between rows (Some (codes "FILE", vs)) waiting) (text ∷ []) (between rows (Some (codes "FILE", vs ++ text ∷ [])) positional)
  unfolding clap_on_literals
  more_files_lead idle e = leads_by _ _ text (rw (v.no_dashes, v.no_long, v.no_short) refl) (rw (v.no_dashes, v.no_long, v.no_short) refl)
  more_files_lead positional e = leads_by _ _ text (rw (v.no_dashes, v.no_long, v.no_short) refl) (rw (v.no_dashes, v.no_long, v.no_short) refl)
  more_files_lead (option id) e = cc

files_next : (n : ℕ) (rows : List Row) (vs : List Text) (waiting : Waiting) (text : Text) → IsNoFlag text → n + 1 < 2 ^ 64
    → Stands n rows (Some (codes "FILE", vs)) waiting → Reaches (n + 1) (file text) (full_rows rows (Some (codes "FILE", vs))) (between rows (Some (codes "FILE", vs)) waiting)
files_next n rows vs waiting text v few s =
    let longer : length (vs ++ text ∷ []) ≡ length vs + 1 = length-append vs (text ∷ []) in
    let bound : length vs ≤ n = s.count in
    record {
      rows = rows;
      pending = Some (codes "FILE", vs ++ text ∷ []);
      waiting = positional;
      leads = more_files_lead n rows vs text v waiting s.ready;
      stands = record { ready = refl; settles = files_pass (vs ++ text ∷ []) rows (omega arith); kind = inr (vs ++ text ∷ [], refl); count = omega arith };
      full_is = files_join vs text rows;
    }

pub after_file : (n : ℕ) (rows : List Row) (pending : Pending) (waiting : Waiting) (text : Text) → Stands n rows pending waiting
    → IsNoFlag text → n + 1 < 2 ^ 64
    → FilesOrNot pending → Reaches (n + 1) (file text) (full_rows rows pending) (between rows pending waiting)
after_file n rows pending waiting text s v few (inl other) = record {
  rows = full_rows rows pending;
  pending = Some (codes "FILE", text ∷ []);
  waiting = positional;
  leads = file_leads n rows pending s.settles text v waiting s.ready other;
  stands = record { ready = refl; settles = files_pass (text ∷ []) (full_rows rows pending) (omega arith); kind = inr (text ∷ [], refl); count = omega arith };
  full_is = refl;
}
after_file n rows pending waiting text s v few (inr p) =
    subst (λ (q : Pending). Stands n rows q waiting → Reaches (n + 1) (file text) (full_rows rows q) (between rows q waiting)) (sym p.1)
    (files_next n rows p.0 waiting text v few) s
