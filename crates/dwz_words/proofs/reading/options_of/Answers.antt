use Rattle.std.proofs.Common.{refl, ◌≡◌, ◌∙◌, ap, map, codes, unwrap_or, [], List, Option}
use Rattle.clap.specs.Words.{Text, all_of, first_of, found_of, one_of, rows_of}
use Rattle.std.specs.Str.Parse.{ExplainsUnsignedError, HasUnsignedDigitsIfOk}
use Rattle.clap.proofs.WalkLemmas.{first_value-rows, one_text-rows, raw_values-rows}
use Rattle.dwz_words.specs.Lawful.{is_set, option_number}
use Rattle.dwz_words.proofs.MatchLemmas.{bool_read, names_read, number_read}
use Rattle.dwz_words.proofs.reading.options_of.Goals as goal

pub returns : goal.returns
returns c =
    let found = found_of c.args.matches.now in
    let common : c.in_ok-blob_if_some.field-0 ≡ first_of (codes "m") (rows_of found) =
    c.in_ok-blob_if_some.ensures ∙ (c.get_str.ensures ∙ first_value-rows found (codes "m")) in
    let name : c.in_ok-blob_if_some-2.field-0 ≡ first_of (codes "M") (rows_of found) =
    c.in_ok-blob_if_some-2.ensures ∙ (c.get_str-2.ensures ∙ first_value-rows found (codes "M")) in
    let out : c.in_ok-blob_if_some-3.field-0 ≡ first_of (codes "o") (rows_of found) =
    c.in_ok-blob_if_some-3.ensures ∙ (c.get_str-3.ensures ∙ first_value-rows found (codes "o")) in
    let quiet : c.unwrap_or.result ≡ is_set (codes "q") (rows_of found) =
    c.unwrap_or.ensures ∙ bool_read _ (one_of (codes "q") (rows_of found)) c.get_one.result
    (λ e. c.get_one.ensures.none (one_text-rows found (codes "q") ∙ e))
    (λ t e. c.get_one.ensures.value t (one_text-rows found (codes "q") ∙ e)) in
    let workers : c.unwrap_or-2.result ≡ unwrap_or (option_number (codes "j") (rows_of found)) 4 =
    c.unwrap_or-2.ensures ∙ ap (λ n. unwrap_or n 4) (number_read _ (ExplainsUnsignedError 10) HasUnsignedDigitsIfOk
    (one_of (codes "j") (rows_of found)) c.get_one-2.result
    (λ e. c.get_one-2.ensures.none (one_text-rows found (codes "j") ∙ e))
    (λ t e. c.get_one-2.ensures.value t (one_text-rows found (codes "j") ∙ e))) in
    let demo : c.get_one-3.result ≡ option_number (codes "demo") (rows_of found) =
    number_read _ (ExplainsUnsignedError 10) HasUnsignedDigitsIfOk
    (one_of (codes "demo") (rows_of found)) c.get_one-3.result
    (λ e. c.get_one-3.ensures.none (one_text-rows found (codes "demo") ∙ e))
    (λ t e. c.get_one-3.ensures.value t (one_text-rows found (codes "demo") ∙ e)) in
    let files : c.in_ok-names.field-0 ≡ unwrap_or (all_of (codes "FILE") (rows_of found)) [] =
    c.in_ok-names.ensures ∙ (ap (λ s. map (λ t. t.now) s.now) c.unwrap_or-3.ensures
    ∙ (names_read c.get_strs.result _ refl
    ∙ ap (λ (o : Option (List Text)). unwrap_or o []) (c.get_strs.ensures ∙ raw_values-rows found (codes "FILE")))) in
    let explain : c.unwrap_or-4.result ≡ is_set (codes "explain") (rows_of found) =
    c.unwrap_or-4.ensures ∙ bool_read _ (one_of (codes "explain") (rows_of found)) c.get_one-4.result
    (λ e. c.get_one-4.ensures.none (one_text-rows found (codes "explain") ∙ e))
    (λ t e. c.get_one-4.ensures.value t (one_text-rows found (codes "explain") ∙ e)) in
    let check : c.unwrap_or-5.result ≡ is_set (codes "check") (rows_of found) =
    c.unwrap_or-5.ensures ∙ bool_read _ (one_of (codes "check") (rows_of found)) c.get_one-5.result
    (λ e. c.get_one-5.ensures.none (one_text-rows found (codes "check") ∙ e))
    (λ t e. c.get_one-5.ensures.value t (one_text-rows found (codes "check") ∙ e)) in
    let expand : c.unwrap_or-6.result ≡ is_set (codes "expand") (rows_of found) =
    c.unwrap_or-6.ensures ∙ bool_read _ (one_of (codes "expand") (rows_of found)) c.get_one-6.result
    (λ e. c.get_one-6.ensures.none (one_text-rows found (codes "expand") ∙ e))
    (λ t e. c.get_one-6.ensures.value t (one_text-rows found (codes "expand") ∙ e)) in
    let reuse : c.in_ok-blob_if_some-4.field-0 ≡ first_of (codes "reuse") (rows_of found) =
    c.in_ok-blob_if_some-4.ensures ∙ (c.get_str-4.ensures ∙ first_value-rows found (codes "reuse")) in
    let batch : c.in_ok-blob_if_some-5.field-0 ≡ first_of (codes "batch") (rows_of found) =
    c.in_ok-blob_if_some-5.ensures ∙ (c.get_str-5.ensures ∙ first_value-rows found (codes "batch")) in
    let sup : c.in_ok-blob_if_some-6.field-0 ≡ first_of (codes "sup") (rows_of found) =
    c.in_ok-blob_if_some-6.ensures ∙ (c.get_str-6.ensures ∙ first_value-rows found (codes "sup")) in
    rw (quiet, common, name, out, workers, files, demo, explain, check, expand, reuse, batch, sup) refl
