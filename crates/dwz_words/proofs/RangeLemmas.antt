-- The numbers that a parse gives are in the ranges of their options.
use Rattle.std.proofs.Common.{◌≡◌, ◌⊎◌, ◌∙◌, ◌<◌, ◌≤◌, ◌+◌, ◌∷◌, [], refl, sym, ap, subst, inl, inr, ℕ, zero, suc, Bool, true, false, List, Option, Some, None, codes, arith, length, not, map}
use Rattle.std.proofs.Common.{option_map}
use Rattle.std.specs.Prelude.{◌&&◌, ◌||◌, ◌==◌, IfSome, pos, slice_get, unwrap_or, option_and_then, if◌then◌else◌}
use Rattle.std.specs.List.{All, list_all, slice_index_or}
use Rattle.std.specs.Str.{bytes_eq}
use Rattle.std.specs.Borrow.{Bor}
use Rattle.std.specs.Str.Parse.{digits_value, without_leading_plus}
use Rattle.std.proofs.Math.ListN.{get_or-map}
use Rattle.std.proofs.lemmas.Bool.{eqb-true}
use Rattle.std.proofs.lemmas.List.{length-map}
use Rattle.std.proofs.lemmas.List.Elements.{All-get_or}
use Rattle.std.proofs.lemmas.Slice.Eq.{bytes_eq-Decides}
use Rattle.std.proofs.lemmas.Int.{ints}
use Rattle.clap.specs.Lexer.{without_minus}
use Rattle.clap.specs.Words.{Accepts, App, IsParsedFrom, NamesNoGroup, Rule, Text, app_of, args_of, found_of, groups_of, matched_of, one_of, one_text, read_as, reading_of, rows_of, rule_of}
use Rattle.clap.specs.Built.{IsAuto, SameRules}
use Rattle.clap.specs.Facts.{Entry, EntryPasses, HasReading, PassesArg, parser_of, parser_of_value}
use Rattle.clap.specs.Walk.{is_simple_arg}
use Rattle.clap.specs.Simple.{has_plain_fields}
use Rattle.clap.specs.declared.builder.arg.Arg.{Arg}
use Rattle.clap.specs.declared.builder.command.Command.{Command}
use Rattle.clap.specs.declared.builder.command.Command.TheViews.{out-Command as fields_of}
use Rattle.clap.specs.declared.builder.value_parser.Reading.{Reading}
use Rattle.clap.specs.declared.builder.value_parser.ValueParser.{ValueParser}
use Rattle.clap.specs.declared.builder.value_parser.ValueParser.TheVariants as vp
use Rattle.clap.specs.declared.parser.matches.ArgMatches.{ArgMatches}
use Rattle.clap.specs.declared.parser.matches.MatchedArg.{MatchedArg}
use Rattle.clap.proofs.CallerLemmas.{entry_by_id, same_rules_by_id}
use Rattle.clap.proofs.WalkLemmas.{both, one_text-rows}
use Rattle.dwz_words.specs.Command.{command_rules, dwz_command}
use Rattle.dwz_words.specs.Lawful.{number_of_text, option_number, options_of}

-- ---- tests of each rule

empty : {X : Type 0} (xs : List X) → (length xs == 0) ≡ true → xs ≡ []
empty [] e = refl
empty (x ∷ xs) e = absurd (omega (arith, eqb-true _ _ e))

not_true : (b : Bool) → not b ≡ true → b ≡ false
not_true true e = cc
not_true false e = refl

-- a test that each element passes, the one at place j passes
passes_at : {X : Type 0} (p : X → Bool) (xs : List X) (j : ℕ) (d : X) → list_all p xs ≡ true → j < length xs
    → p (slice_index_or xs j d) ≡ true
passes_at p [] j d all below = absurd (omega arith)
passes_at p (x ∷ xs) zero d all below = (both (p x) _ all).0
passes_at p (x ∷ xs) (suc j) d all below = passes_at p xs j d (both (p x) _ all).1 (omega arith)

-- of the rules, counted from i on, none but the one at place k has the id
abbrev is_alone : ℕ → List Rule → ℕ → Text → Bool
is_alone i [] k id = true
is_alone i (r ∷ rs) k id = (not (bytes_eq r.id id) || i == k) && is_alone (i + 1) rs k id

only_place : (i : ℕ) (rs : List Rule) (k : ℕ) (id : Text) → is_alone i rs k id ≡ true → (j : ℕ) → j < length rs → (d : Rule)
    → bytes_eq (slice_index_or rs j d).id id ≡ true → i + j ≡ k
only_place i [] k id alone j below d same = absurd (omega arith)
only_place i (r ∷ rs) k id alone zero below d same = here (bytes_eq r.id id) same (both (not (bytes_eq r.id id) || i == k) _ alone).0
  where
    here : (b : Bool) → b ≡ true → (not b || i == k) ≡ true → i + 0 ≡ k
    here true e h = omega (arith, eqb-true _ _ h)
    here false e h = cc
only_place i (r ∷ rs) k id alone (suc j) below d same =
    let rest = only_place (i + 1) rs k id (both (not (bytes_eq r.id id) || i == k) _ alone).1 j (omega arith) d same in
    omega arith

-- ---- the command that was parsed

module _ (old : Command) (m : ArgMatches) (p : IsParsedFrom old m) (made : app_of old ≡ dwz_command) where
  rules_are : map rule_of (args_of old) ≡ command_rules
  rules_are = ap (λ (a : App). a.top.rules) made

  count_is : length (args_of old) ≡ length command_rules
  count_is = sym (length-map (args_of old) rule_of) ∙ ap (λ (l : List Rule). length l) rules_are

  rule_is : (j : ℕ) (d : Arg) → rule_of (slice_index_or (args_of old) j d) ≡ slice_index_or command_rules j (rule_of d)
  rule_is j d = sym (get_or-map rule_of (args_of old) j d) ∙ ap (λ (l : List Rule). slice_index_or l j (rule_of d)) rules_are

  no_groups_named : NamesNoGroup old
  no_groups_named k d below =
      let few : k < length command_rules = rw count_is at below in
      let simple : is_simple_arg (slice_index_or (args_of old) k d) ≡ true = ap (λ (r : Rule). r.is_simple) (rule_is k d)
      ∙ passes_at (λ r. r.is_simple) command_rules k (rule_of d) refl few in
      empty _ (both _ _ (both _ _ (both _ _ simple).1).1).0

  plain_fields : has_plain_fields (fields_of old) ≡ true
  plain_fields = ap (λ (a : App). a.top.is_plain) made

  no_groups : groups_of p.built ≡ []
  no_groups = (p.from.same_groups no_groups_named).1 ∙ empty _ (both _ _ plain_fields).0

  no_globals : (fields_of old).has_globals ≡ false
  no_globals = not_true _ (both _ _ (both _ _ (both _ _ plain_fields).1).1).0

-- ---- the argument whose rule stands at place k

module _ (old : Command) (m : ArgMatches) (p : IsParsedFrom old m) (made : app_of old ≡ dwz_command)
    (k : ℕ) (id : Text) (q : ValueParser) (in_rules : k < length command_rules) (alone : is_alone 0 command_rules k id ≡ true)
    (id_is : (r : Rule) → (slice_index_or command_rules k r).id ≡ id)
    (parser_is : (r : Rule) → (slice_index_or command_rules k r).parser ≡ Some q)
    (case_is : (r : Rule) → (slice_index_or command_rules k r).ignore_case ≡ false)
    (no_auto : (id ≡ codes "help") ⊎ (id ≡ codes "version") → ⊥) (named : id ≡ [] → ⊥) where
  arg_id : (d : Arg) → (slice_index_or (args_of old) k d).id.now ≡ id
  arg_id d = ap (λ (r : Rule). r.id) (rule_is old m p made k d) ∙ id_is (rule_of d)

  unique : (y : Arg) (j : ℕ) (e : Arg) → j < length (args_of old)
      → bytes_eq (slice_index_or (args_of old) j e).id.now (slice_index_or (args_of old) k y).id.now ≡ true → j ≡ k
  unique y j e below same =
      let few : j < length command_rules = rw (count_is old m p made) at below in
      let with_id : bytes_eq (slice_index_or (args_of old) j e).id.now id ≡ true = subst (λ (w : Text). bytes_eq (slice_index_or (args_of old) j e).id.now w ≡ true) (arg_id y) same in
      let place = only_place 0 command_rules k id alone j few (rule_of e)
      (subst (λ (r : Rule). bytes_eq r.id id ≡ true) (rule_is old m p made j e) with_id) in
      omega arith

  same_rules : (w : Text) (i : ℕ) (y : Arg) → i < length (args_of p.built) → slice_index_or (args_of p.built) i y ≡ y
      → bytes_eq y.id.now w ≡ true → w ≡ id
      → SameRules (slice_index_or (args_of old) k y) y
  same_rules w i y below at same is =
      let there : k < length (args_of old) = rw (count_is old m p made) in_rules in
      let own : IsAuto (slice_index_or (args_of old) k y) → ⊥ = λ auto. no_auto (elim auto [ inl h ↦ inl (sym (arg_id y) ∙ h) | inr h ↦ inr (sym (arg_id y) ∙ h) ]) in
      same_rules_by_id old m p k y there (unique y) own i y below at (subst (λ (u : Text). bytes_eq y.id.now u ≡ true) (is ∙ sym (arg_id y)) same)

  parser_of_it : (y : Arg) → SameRules (slice_index_or (args_of old) k y) y → parser_of y ≡ q
  parser_of_it y s = ap parser_of_value (s.parser q (ap (λ (r : Rule). r.parser) (rule_is old m p made k y) ∙ parser_is (rule_of y)))

  passes : (w v : Text) → w ≡ id → PassesArg p.built w v → Accepts false q v
  passes w v is pass =
      let s = same_rules w pass.0 pass.1 pass.2 pass.3 pass.4.0 is in
      let cased : pass.1.ignore_case ≡ false = s.ignore_case ∙ (ap (λ (r : Rule). r.ignore_case) (rule_is old m p made k pass.1) ∙ case_is (rule_of pass.1)) in
      let as_q = subst (λ (u : ValueParser). Accepts pass.1.ignore_case u v) (parser_of_it pass.1 s) pass.4.1 in
      subst (λ (b : Bool). Accepts b q v) cased as_q

  reads : (w : Text) (r : Reading) → w ≡ id → HasReading p.built w r → r ≡ reading_of q
  reads w r is has =
      let s = same_rules w has.0 has.1 has.2 has.3 has.4.0 is in
      sym has.4.1 ∙ ap reading_of (parser_of_it has.1 s)

  first_passes : (w : Text) (how : Reading) (vs : List (Bor Text)) (t : Text) → w ≡ id → how ≡ reading_of q
      → All (λ v. PassesArg p.built w v.now) vs
      → option_map (λ s. read_as how s.now) (slice_get vs 0) ≡ Some t → (v : Text) × (t ≡ read_as (reading_of q) v) × Accepts false q v
  first_passes w how [] t is by all h = cc
  first_passes w how (v ∷ vs) t is by all h =
      let same : read_as how v.now ≡ t = cc in
      (v.now, sym same ∙ ap (λ (r : Reading). read_as r v.now) by, passes w v.now is (All-get_or (λ v. PassesArg p.built w v.now) (v ∷ vs) 0 v (omega arith) all))

  entry_value : (e : Entry) (t : Text) → e.0.now ≡ id → EntryPasses p.built e
      → option_map (λ s. read_as e.1.reading s.now) (slice_get e.1.vals.items 0) ≡ Some t
      → (v : Text) × (t ≡ read_as (reading_of q) v) × Accepts false q v
  entry_value e t same pass h =
      let no_group : e.1.is_group ≡ true → ⊥ = λ g. elim (pass.3 g) [
        | inl none ↦ named (sym same ∙ none)
        | inr some ↦
            let bad : 0 < 0 = rw (no_groups old m p made) at some in
            absurd (omega arith)
      ] in
      let all : All (λ v. PassesArg p.built e.0.now v.now) e.1.vals.items = elim pass.0 [ inl g ↦ absurd (no_group g) | inr vals ↦ vals ] in
      let by : e.1.reading ≡ reading_of q = elim pass.4 [ inl g ↦ absurd (no_group g) | inr has ↦ reads e.0.now e.1.reading same has ] in
      first_passes e.0.now e.1.reading e.1.vals.items t same by all h

  -- the text that the matches have of it is one that its parser accepts
  value_of : (t : Text) → one_text (found_of m) id ≡ Some t → (v : Text) × (t ≡ read_as (reading_of q) v) × Accepts false q v
  value_of t h = go (matched_of (found_of m) id) refl h
    where
      go : (o : Option MatchedArg) → matched_of (found_of m) id ≡ o
          → option_and_then (λ a. option_map (λ s. read_as a.reading s.now) (slice_get a.vals.items 0)) o ≡ Some t
          → (v : Text) × (t ≡ read_as (reading_of q) v) × Accepts false q v
      go None found h = cc
      go (Some x) found h =
          let parsed = p.parsed (p.from.globals ∙ no_globals old m p made) in
          let e = entry_by_id (EntryPasses p.built) (found_of m).entries.items id x parsed.values found in
          entry_value e.0 t ((bytes_eq-Decides e.0.0.now id).0 e.2) e.3
          (subst (λ (y : MatchedArg). option_map (λ s. read_as y.reading s.now) (slice_get y.vals.items 0) ≡ Some t) (sym e.1) h)

-- ---- numbers

if_some : (b : Bool) (a n : ℕ) → (if b then Some a else None) ≡ Some n → a ≡ n
if_some true a n e = cc
if_some false a n e = cc

-- a number that passes a range above zero lies in it
number_in : (low high : ℕ) (v : Text) (n : ℕ) → 0 < low → Accepts false (vp.Signed (pos low) (pos high)) v
    → number_of_text (without_minus v) ≡ Some n
    → (low ≤ n) × (n ≤ high)
number_in low high [] n above passed is = absurd (omega (arith, passed.0.0))
number_in low high (x ∷ xs) n above passed is = go (x == 45) refl is
  where
    go : (b : Bool) → (x == 45) ≡ b → number_of_text (unwrap_or (if b then Some xs else None) (x ∷ xs)) ≡ Some n → (low ≤ n) × (n ≤ high)
    go true minus is =
        let low_ok = rw minus at passed.2 in
        absurd (omega (arith, ints))
    go false minus is =
        let low_ok = rw minus at passed.2 in
        let high_ok = rw minus at passed.3 in
        let same : digits_value 10 (without_leading_plus (x ∷ xs)) ≡ n = if_some _ _ n is in
        (omega (arith, ints), omega (arith, ints))

-- the number that the matches have of an option with a range lies in it
module _ (old : Command) (m : ArgMatches) (p : IsParsedFrom old m) (made : app_of old ≡ dwz_command)
    (k : ℕ) (id : Text) (low high : ℕ) (in_rules : k < length command_rules) (alone : is_alone 0 command_rules k id ≡ true)
    (id_is : (r : Rule) → (slice_index_or command_rules k r).id ≡ id)
    (parser_is : (r : Rule) → (slice_index_or command_rules k r).parser ≡ Some (vp.Signed (pos low) (pos high)))
    (case_is : (r : Rule) → (slice_index_or command_rules k r).ignore_case ≡ false)
    (no_auto : (id ≡ codes "help") ⊎ (id ≡ codes "version") → ⊥) (named : id ≡ [] → ⊥) (above : 0 < low) where
  number_in_range : (n : ℕ) → option_number id (rows_of (found_of m)) ≡ Some n → (low ≤ n) × (n ≤ high)
  number_in_range n is = go (one_of id (rows_of (found_of m))) refl is
    where
      go : (o : Option Text) → one_of id (rows_of (found_of m)) ≡ o → option_and_then number_of_text o ≡ Some n → (low ≤ n) × (n ≤ high)
      go None e h = cc
      go (Some t) e h =
          let value = value_of old m p made k id (vp.Signed (pos low) (pos high)) in_rules alone id_is parser_is case_is no_auto named t
          (one_text-rows (found_of m) id ∙ e) in
          number_in low high value.0 n above value.2 (rw value.1 at h)

first_byte : (a b : Text) → a ≡ b → slice_index_or a 0 0 ≡ slice_index_or b 0 0
first_byte a b e = ap (λ (l : Text). slice_index_or l 0 0) e

-- the number of `-j`, whose rule stands at place 5
pub workers_in_range : (old : Command) (m : ArgMatches) (p : IsParsedFrom old m) → app_of old ≡ dwz_command
    → (1 ≤ (options_of (rows_of (found_of m))).workers) × ((options_of (rows_of (found_of m))).workers ≤ 64)
workers_in_range old m p made = go (option_number (codes "j") (rows_of (found_of m))) refl
  where
    go : (o : Option ℕ) → option_number (codes "j") (rows_of (found_of m)) ≡ o → (1 ≤ unwrap_or o 4) × (unwrap_or o 4 ≤ 64)
    go None e = (omega arith, omega arith)
    go (Some n) e = number_in_range old m p made 5 (codes "j") 1 64 (omega arith) refl (λ r. refl) (λ r. refl) (λ r. refl)
        (λ auto. elim auto [ inl h ↦ absurd (omega (arith, first_byte _ _ h)) | inr h ↦ absurd (omega (arith, first_byte _ _ h)) ])
        (λ h. cc) (omega arith) n e

-- the number of `--demo`, whose rule stands at place 6
pub demo_in_range : (old : Command) (m : ArgMatches) (p : IsParsedFrom old m) → app_of old ≡ dwz_command
    → IfSome (options_of (rows_of (found_of m))).demo (λ n. (2 ≤ n) × (n ≤ 10000))
demo_in_range old m p made = go (option_number (codes "demo") (rows_of (found_of m))) refl
  where
    go : (o : Option ℕ) → option_number (codes "demo") (rows_of (found_of m)) ≡ o → IfSome o (λ n. (2 ≤ n) × (n ≤ 10000))
    go None e = tt
    go (Some n) e = number_in_range old m p made 6 (codes "demo") 2 10000 (omega arith) refl (λ r. refl) (λ r. refl) (λ r. refl)
        (λ auto. elim auto [ inl h ↦ absurd (omega (arith, first_byte _ _ h)) | inr h ↦ absurd (omega (arith, first_byte _ _ h)) ])
        (λ h. cc) (omega arith) n e
