-- `clap` names no fault in plain words, and its matches are those of their arguments.
use Rattle.std.proofs.Common.{◌≡◌, ◌∙◌, ◌<◌, ◌≤◌, ◌+◌, ◌^◌, ◌∷◌, [], refl, sym, ap, subst, inl, inr, ℕ, Bool, true, false, List, Option, Some, None, arith, length, not}
use Rattle.std.specs.Prelude.{fold, if◌then◌else◌, ◌||◌, is_some}
use Rattle.std.specs.List.{flat_map, list_all, list_any}
use Rattle.std.specs.Option.{option_map_or}
use Rattle.clap.specs.Words.{Row, Rule, Text, Kinds, built, fault_of, matches_of}
use Rattle.std.proofs.lemmas.Bool.{not-true, or_parts}
use Rattle.std.proofs.lemmas.List.{length-append}
use Rattle.clap.specs.Kinds.{or_else}
use Rattle.clap.specs.Simple.{entered}
use Rattle.clap.specs.Walk.{Waiting, Walk, idle, settled, has_row, walked, with_default, finished, is_empty}
use Rattle.clap.specs.Faults.{check_fault, default_fault, defaults_fault, entered_fault, given_default_fault, settle_fault, walk_fault}
use Rattle.clap.proofs.OnLiterals.{clap_on_literals}
use Rattle.clap.proofs.WalkLemmas.{both}
use Rattle.dwz_words.specs.Command.{dwz_command}
use Rattle.dwz_words.proofs.PlainStands.{Stands, is_new}
use Rattle.dwz_words.proofs.PlainWalk.{Pending, all_after, between, full_rows, held, row_after, rules, top}
use Rattle.dwz_words.proofs.PlainArguments.{after_argument}
use Rattle.dwz_words.proofs.PlainRows.{kept_has_row, name_differs, option_or_file}
use Rattle.dwz_words.specs.Plain.{ArePlain, Argument, are_once, same_option, is_plain, option_name, words_of}

-- ---- what is new stays new

-- an option that is new, and not p, is new after p
keeps : (p q : Argument) (rows : List Row) → same_option p q ≡ false → is_new q rows ≡ true → is_new q (row_after p rows) ≡ true
keeps p q rows h new = go (option_name q) refl new
  where
    go : (o : Option Text) → option_name q ≡ o → option_map_or (λ k. not (has_row k rows)) o true ≡ true
        → option_map_or (λ k. not (has_row k (row_after p rows))) o true ≡ true
    go None e new = refl
    go (Some k) e new = ap not (kept_has_row p k rows (name_differs p q k e h)) ∙ new

abbrev pub are_new : List Argument → List Row → Bool
are_new ps rows = list_all (λ p. is_new p rows) ps

all_keep : (p : Argument) (ps : List Argument) (rows : List Row) → list_any (same_option p) ps ≡ false → are_new ps rows ≡ true
    → are_new ps (row_after p rows) ≡ true
all_keep p [] rows h new = refl
all_keep p (q ∷ qs) rows h new =
    let others = or_parts _ _ h in
    let parts = both (is_new q rows) (are_new qs rows) new in
    rw (keeps p q rows others.0 parts.0, all_keep p qs rows others.1 parts.1) refl

-- ---- all arguments

-- the walk over all of them, with no fault, to a state whose rows are theirs
record Ends (ps : List Argument) (before : List Row) (from : Walk) : Type 0 where
  rows : List Row
  pending : Pending
  waiting : Waiting
  fault : walk_fault top [] from (flat_map words_of ps) ≡ []
  walk : fold (walked rules []) from (flat_map words_of ps) ≡ between rows pending waiting
  settles : settle_fault rules false (held rows pending) ≡ []
  full_is : full_rows rows pending ≡ all_after ps before

run : (ps : List Argument) (n : ℕ) (rows : List Row) (pending : Pending) (waiting : Waiting) → Stands n rows pending waiting
    → n + length ps < 2 ^ 64
    → list_all is_plain ps ≡ true → are_once ps ≡ true → are_new ps (full_rows rows pending) ≡ true
    → Ends ps (full_rows rows pending) (between rows pending waiting)
unfolding clap_on_literals
run [] n rows pending waiting s few plain once new = record {
  rows = rows;
  pending = pending;
  waiting = waiting;
  fault = refl;
  walk = refl;
  settles = s.settles;
  full_is = refl;
}
run (p ∷ ps) n rows pending waiting s few plain once new =
    let plains = both (is_plain p) (list_all is_plain ps) plain in
    let onces = both (not (list_any (same_option p) ps)) (are_once ps) once in
    let news = both (is_new p (full_rows rows pending)) (are_new ps (full_rows rows pending)) new in
    let step = after_argument n p rows pending waiting s (omega arith) plains.0 news.0 in
    let fresh = all_keep p ps (full_rows rows pending) (not-true _ onces.0) news.1 in
    let rest = run ps (n + 1) step.rows step.pending step.waiting step.stands (omega arith) plains.1 onces.1 (rw step.full_is fresh) in
    record {
      rows = rest.rows;
      pending = rest.pending;
      waiting = rest.waiting;
      fault = step.leads.fault (flat_map words_of ps) ∙ rest.fault;
      walk = step.leads.walk (flat_map words_of ps) ∙ rest.walk;
      settles = rest.settles;
      full_is = rest.full_is ∙ ap (all_after ps) step.full_is;
    }

-- ---- the end of the parse

-- the faults of the defaults of these rules
abbrev default_kinds : List Rule → Kinds
default_kinds [] = []
default_kinds (a ∷ rest) = or_else (given_default_fault a a.defaults) (default_kinds rest)

or_else-nil : (a b : Kinds) → or_else a b ≡ [] → (a ≡ []) × (b ≡ [])
or_else-nil [] b e = (refl, e)
or_else-nil (k ∷ ks) b e = cc

default_passes : (rows : List Row) (a : Rule) → given_default_fault a a.defaults ≡ [] → default_fault rows a ≡ []
default_passes rows a passes = go (has_row a.id rows || is_empty a.defaults)
  where
    go : (b : Bool) → (if b then [] else given_default_fault a a.defaults) ≡ []
    go true = refl
    go false = passes

defaults_pass : (rs : List Rule) (rows : List Row) → default_kinds rs ≡ [] → defaults_fault rows rs ≡ []
unfolding clap_on_literals
defaults_pass [] rows h = refl
defaults_pass (a ∷ rest) rows h =
    let parts = or_else-nil (given_default_fault a a.defaults) (default_kinds rest) h in
    rw (default_passes rows a parts.0) (defaults_pass rest (with_default rows a) parts.1)

no_default_fault : (rows : List Row) → defaults_fault rows rules ≡ []
no_default_fault rows = defaults_pass rules rows refl

new_at_first : (p : Argument) → is_new p [] ≡ true
new_at_first p = go (option_name p)
  where
    go : (o : Option Text) → option_map_or (λ k. not (has_row k [])) o true ≡ true
    go None = refl
    go (Some k) = refl

all_new : (ps : List Argument) → are_new ps [] ≡ true
all_new [] = refl
all_new (p ∷ ps) = rw (new_at_first p) (all_new ps)

-- the faults that are looked for at the end of the walk
abbrev after_walk : Walk → Kinds
after_walk w = or_else (entered_fault (built dwz_command) w.stopped) (or_else (settle_fault rules false w.held)
    (or_else (defaults_fault (settled rules w.held).rows rules)
    (check_fault top (finished rules w.held) (is_some (entered (built dwz_command) w.stopped)))))

plain_ends : (ps : List Argument) → length ps < 2 ^ 64 → list_all is_plain ps ≡ true → are_once ps ≡ true
    → Ends ps [] (between [] None idle)
plain_ends ps few plain once =
    let start : Stands 0 [] None idle = record { ready = refl; settles = refl; kind = inl refl; count = omega arith } in
    run ps 0 [] None idle start (omega arith) plain once (all_new ps)

-- an argument has a word at least
some_words : (p : Argument) → 1 ≤ length (words_of p)
some_words p = elim (option_or_file p) [
  | inl o ↦ o.some_words
  | inr f ↦ subst (λ (q : Argument). 1 ≤ length (words_of q)) (sym f.1) (omega arith)
]

words_count : (ps : List Argument) → length ps ≤ length (flat_map words_of ps)
words_count [] = omega arith
words_count (p ∷ ps) = omega (arith, some_words p, words_count ps, length-append (words_of p) (flat_map words_of ps))

-- and so there are no more arguments than a slice can have words
few_arguments : (words : List Text) (ps : List Argument) → words ≡ flat_map words_of ps → length words < 2 ^ 64 → length ps < 2 ^ 64
few_arguments words ps same few =
    let count : length words ≡ length (flat_map words_of ps) = ap (λ (l : List Text). length l) same in
    omega (arith, words_count ps)

-- plain words have no fault
pub plain_read : (words : List Text) → length words < 2 ^ 64 → (ps : List Argument) → ArePlain words ps → fault_of dwz_command words ≡ []
plain_read words few ps plain =
    let end = plain_ends ps (few_arguments words ps plain.words_are few) plain.plain plain.once in
    let whole : fault_of dwz_command (flat_map words_of ps)
    ≡ or_else (walk_fault top [] (between [] None idle) (flat_map words_of ps))
    (after_walk (fold (walked rules []) (between [] None idle) (flat_map words_of ps))) = refl in
    rw plain.words_are (whole ∙ (rw (end.fault, end.walk, end.settles, no_default_fault (full_rows end.rows end.pending)) refl))

-- and their matches are those of their arguments
pub plain_matches : (words : List Text) → length words < 2 ^ 64 → (ps : List Argument) → ArePlain words ps
    → matches_of dwz_command words ≡ fold with_default (all_after ps []) rules
plain_matches words few ps plain =
    let end = plain_ends ps (few_arguments words ps plain.words_are few) plain.plain plain.once in
    rw plain.words_are (ap (λ (w : Walk). finished rules w.held) end.walk ∙ ap (λ (rows : List Row). fold with_default rows rules) end.full_is)
